use Rattle.std.proofs.Common.{◌<◌, sym, ap, ◌∙◌, arith}
use lib.ListN.{get_elem?}
use Rattle.ca_turns.proofs.table.Table.hold.Goals as goal

pub try_a_while-requires-clause-free : goal.try_a_while-requires-clause-free
try_a_while-requires-clause-free g c = λ x e. let h : c.args.part < c.args.part = c.requires.ascending c.args.part (x, e) in omega arith

pub hold_later-requires-clause-free : goal.hold_later-requires-clause-free
hold_later-requires-clause-free g c = λ x e.
    let same = c.if-not-try_a_while.ensures.held.0 in
    let h : c.args.part < c.args.part = c.requires.ascending c.args.part (x, ap (λ l. get_elem? l c.args.part) (sym same) ∙ e) in omega arith
