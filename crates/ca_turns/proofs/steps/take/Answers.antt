use Rattle.std.proofs.Common.{rules, ◌≡◌, ◌≢◌, ℕ, ◌+◌, ◌-◌, ◌/◌, ◌<◌, arith, subst}
use Rattle.ca_turns.specs.Lines.{bare, line_address}
use Rattle.ca_turns.specs.Steps.{TookPart, Missed}
use Rattle.ca_turns.proofs.Allowed.{may_try}
use Rattle.ca_turns.proofs.steps.take.Goals as goal

pub compare_exchange-requires : goal.compare_exchange-requires
compare_exchange-requires g c = let wide : c.args.words.now.table_id.words ≡ line_address (c.args.words.now.table_id.slots + 1) = c.requires.table.1.0 in let is : c.line.result ≡ line_address (c.args.part + 1) = c.line.ensures in let near : c.args.part < c.args.words.now.table_id.slots = c.requires.part in let h : c.line.result < c.args.words.now.table_id.words = omega arith in (search rules, h, may_try g.O.Object.content g.O.Object.touches g.O.Object.moves _ _ g.O.Object.distinct _ _ c.args.part c.line.result c.args.seat.now.me c.line.ensures c.requires.part c.requires.free.0 c.requires.free.1)

pub returns-clause-took : goal.returns-clause-took
returns-clause-took g c = let is : c.line.result ≡ line_address (c.args.part + 1) = c.line.ensures in let here : c.line.result / 8 - 1 ≡ c.args.part = omega arith in let old = bare c.args.seat.now.me in let new = bare c.compare_exchange.new.seat.me in let found = c.compare_exchange.result in
    let told = subst (λ (i : ℕ). (found ≡ 0 → TookPart g.O.Object.content g.O.Object.touches g.O.Object.moves i old new) × (found ≢ 0 → Missed i old new)) here c.compare_exchange.ensures.2 in search (rules, told)
