use Rattle.std.proofs.Common.{◌≡◌, ◌+◌, ◌-◌, ◌<◌, ◌≤◌, ℕ, List, Option, Some, drop, length, refl, sym, ◌∙◌, ap, arith}
use Rattle.std.proofs.lemmas.Option.{slice_get_read}
use Rattle.std.specs.Prelude.{option_map, slice_get}
use Rattle.ca_journal.specs.declared.entry.Entry.{Entry}
use Rattle.ca_journal.specs.Left.{left_from}
use Rattle.ca_journal.specs.Numbered.{Numbered, entry_view}
use Rattle.ca_journal.proofs.Leaving.{behind, in_full, in_last, next_piece}
use Rattle.ca_journal.proofs.entries.Entries.first_from.Goals as goal

pub returns-then-spot-len-clause-entry : goal.returns-then-spot-len-clause-entry
returns-then-spot-len-clause-entry c =
    let full = c.args.self.now.full.items in
    let q = c.index-piece.result.now in
    let spot = c.loop-spot.spot in
    let lt : spot.piece < length full = omega (arith, c.loop-spot-test.true, c.len.ensures, c.args.self.now.full.ok) in
    let there : spot.place < length q.items = omega (arith, c.if-spot-len.true, c.len-in-loop-spot.ensures, q.ok) in
    in_full full c.args.self.now.last spot.piece spot.place q c.index.result.now lt c.index-piece.ensures there c.index.ensures ∙ ap (λ (es : List Numbered). slice_get es 0) c.loop-spot.invariant

pub returns-then-spot-len-clause-rest : goal.returns-then-spot-len-clause-rest
returns-then-spot-len-clause-rest c =
    behind c.args.self.now.full.items c.args.self.now.last c.loop-spot.spot.piece c.loop-spot.spot.place ∙ ap (λ (es : List Numbered). drop 1 es) c.loop-spot.invariant

pub loop-spot-preserved : goal.loop-spot-preserved
loop-spot-preserved c =
    let full = c.args.self.now.full.items in
    let last = c.args.self.now.last in
    let q = c.index-piece.result.now in
    let spot = c.loop-spot.spot in
    let lt : spot.piece < length full = omega (arith, c.loop-spot-test.true, c.len.ensures, c.args.self.now.full.ok) in
    let size : c.len-in-loop-spot-2.result ≡ length q.items = omega (arith, c.len-in-loop-spot-2.ensures, q.ok) in
    let past : length q.items ≤ spot.place = omega (arith, c.if-spot-len.false, c.len-in-loop-spot.ensures, q.ok) in
    ap (λ (k : ℕ). left_from full last (record { piece = spot.piece + 1; place = spot.place - k })) size ∙ next_piece full last spot.piece spot.place q lt c.index-piece.ensures past ∙ c.loop-spot.invariant

pub returns-clause-entry : goal.returns-clause-entry
returns-clause-entry c =
    let full = c.args.self.now.full.items in
    let spot = c.loop-spot.spot in
    let past : length full ≤ spot.piece = omega (arith, c.loop-spot-test.false, c.len.ensures, c.args.self.now.full.ok) in
    let items = c.args.self.now.last.items in
    let look = rw c.deref.ensures.value at c.in_ok-entry.ensures.lookup in
    let found : slice_get items spot.place ≡ Some c.in_ok-entry.entry.now = slice_get_read items (length items) spot.place c.in_ok-entry.entry.now refl look.3.0 look.1 in
    ap (λ (o : Option Entry). option_map entry_view o) (sym found) ∙ in_last full c.args.self.now.last spot.piece spot.place past ∙ ap (λ (es : List Numbered). slice_get es 0) c.loop-spot.invariant

pub returns-clause-rest : goal.returns-clause-rest
returns-clause-rest c =
    behind c.args.self.now.full.items c.args.self.now.last c.loop-spot.spot.piece c.loop-spot.spot.place ∙ ap (λ (es : List Numbered). drop 1 es) c.loop-spot.invariant
