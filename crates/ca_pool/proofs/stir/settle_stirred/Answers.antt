use Rattle.std.proofs.Common.{ℕ, List, [], ◌∷◌, ap, subst}
use Rattle.std.specs.Prelude.{option_map}
use Rattle.ca_term.specs.Event.{port_number}
use Rattle.ca_solo.specs.Stirs.{port_if}
use Rattle.ca_alone.specs.Schedule.{Follow, MaySettle}
use Rattle.ca_pool.specs.Lone.{IsGoing}
use Rattle.ca_pool.proofs.Takens.{if_ok}
use Rattle.ca_pool.proofs.stir.settle_stirred.Goals as goal

pub returns-in-Some-clause-solo : goal.returns-in-Some-clause-solo
returns-in-Some-clause-solo g c = let a = g.A.Agent in let w = c.args.worker.now in let s = c.settle_port in let n = c.args.going in let p = c.in-Some.port.n in
    if_ok (λ r. (k : Follow) (us : List ℕ) (most : ℕ) → IsGoing a.over a.place a.stands a.advances a.gives a.starts c.args.code.now (MaySettle k (p ∷ us)) most n.left n.found w → IsGoing a.over a.place a.stands a.advances a.gives a.starts c.args.code.now (MaySettle k us) most r.left r.found s.new.worker)
    (λ r. (k : Follow) (most : ℕ) → IsGoing a.over a.place a.stands a.advances a.gives a.starts c.args.code.now (MaySettle k (port_if (option_map port_number c.args.stirred))) most n.left n.found w → IsGoing a.over a.place a.stands a.advances a.gives a.starts c.args.code.now (MaySettle k []) most r.left r.found s.new.worker)
    s.result (λ r f k most h. f k [] most (subst (λ (us : List ℕ). IsGoing a.over a.place a.stands a.advances a.gives a.starts c.args.code.now (MaySettle k us) most n.left n.found w) (ap (λ o. port_if (option_map port_number o)) c.in-Some.is) h)) s.ensures.solo
