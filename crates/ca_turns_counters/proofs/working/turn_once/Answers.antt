use Rattle.std.proofs.Common.{◌∙◌, sym, ap, ⊎_elim}
use lib.ListN.{get_elem?}
use Rattle.ca_turns.specs.declared.rule.Turn.{Turn}
use Rattle.ca_turns.specs.Views.{new_turn}
use Rattle.ca_turns.proofs.Lists.{at_snoc}
use Rattle.ca_turns_counters.proofs.working.turn_once.Goals as goal

pub returns-clause-repeats : goal.returns-clause-repeats
returns-clause-repeats g c = λ all k t e. let d = c.add-number.ensures.drew in let new = new_turn c.add-number.result c.args.event.now d.0 d.1 in
    ⊎_elim (λ old. all k t old) (λ last. ap (λ (u : Turn _ _). u.event) (sym last.1)) (at_snoc c.args.worker.now.hand.view.turns new t k (ap (λ l. get_elem? l k) (sym d.2) ∙ e))
