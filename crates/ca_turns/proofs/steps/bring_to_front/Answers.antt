use Rattle.std.proofs.Common.{rules, ◌≡◌, ◌∙◌, ℕ, ◌+◌, ◌-◌, ◌/◌, ◌<◌, ◌∷◌, ap, arith}
use Rattle.std.specs.Prelude.{None}
use Rattle.ca_turns.specs.Lines.{bare, line_address}
use Rattle.ca_turns.specs.Places.{without_first_pair}
use Rattle.ca_turns.proofs.Allowed.{may_front}
use Rattle.ca_turns.proofs.steps.bring_to_front.Goals as goal

pub load-requires : goal.load-requires
load-requires g c = let wide : c.args.words.now.table_id.words ≡ line_address (c.args.words.now.table_id.slots + 1) = c.requires.table.1.0 in let is : c.line.result ≡ line_address (c.args.part + 1) = c.line.ensures in let near : c.args.part < c.args.words.now.table_id.slots = c.requires.part in
    let h : c.line.result < c.args.words.now.table_id.words = omega arith in let o = c.requires.out in
    (search rules, h, may_front g.O.Object.content g.O.Object.touches g.O.Object.moves _ _ g.O.Object.distinct _ _ c.args.part c.line.result c.args.seat.now.me c.line.ensures c.requires.part o.1 o.0 o.2)

pub returns-clause-front : goal.returns-clause-front
returns-clause-front g c = let is : c.line.result ≡ line_address (c.args.part + 1) = c.line.ensures in let here : c.line.result / 8 - 1 ≡ c.args.part = omega arith in c.load.ensures.2.1 ∙ ap (λ (k : ℕ). (k, None) ∷ without_first_pair k (bare c.args.seat.now.me).1) here
