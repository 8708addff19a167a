use Rattle.std.proofs.Common.{◌∙◌, ℕ, ◌+◌, List, [], ◌∷◌, ◌++◌, length, Some, sym, ap, ap₂, subst, arith, length-append, true, cond, eqb, is_some}
use Rattle.ca_commit.specs.Contents.{home}
use Rattle.ca_commit.specs.Listing.{listed}
use Rattle.ca_commit.specs.Listings.{parts}
use Rattle.ca_table.specs.Carriers.{IsCarrying}
use Rattle.ca_table.specs.Carrying.{with_at}
use Rattle.ca_table.specs.Homes.{has_home}
use Rattle.ca_table.specs.Lifting.{first_part_number, laid_back, row_place, with_row}
use Rattle.ca_table.specs.Parts.{part_of, part_seen}
use Rattle.ca_table.specs.declared.part.Contents.{Contents}
use Rattle.ca_table.proofs.Carriers.{is_held}
use Rattle.ca_table.proofs.Liftings.{is_place, numbered_in}
use Rattle.ca_table.proofs.Loads.{lies_there, none_back, number_below, one_back}
use Rattle.ca_table.proofs.lifting.unload.Goals as goal

pub loop-part-init : goal.loop-part-init
loop-part-init g c = let a = g.A.Agent in let K = g.C.Clock in (omega arith, λ id. none_back a.over a.stands c.args.code.now id (part_seen K.least K.faults K.readings) g.T.Sixteen.group g.T.Sixteen.as_contents g.T.Numbered.number c.args.worker.now (parts c.args.list.now) c.none-homes.result c.none-homes.ensures)

pub first-requires : goal.first-requires
first-requires g c = let r = c.requires.carries in let few = r.6.one.few in let of = r.6.one.of in let same = (c.loop-part.invariant.1 r.1).same.workers in omega (arith, few, of, same)

pub overflow_add-at : goal.overflow_add-at
overflow_add-at g c = let a = g.A.Agent in let K = g.C.Clock in let seen = part_seen K.least K.faults K.readings in let code = c.args.code.now in let group = g.T.Sixteen.group in let contents = g.T.Sixteen.as_contents in let number = g.T.Numbered.number in let w0 = c.args.worker.now in let w = c.loop-part.worker in let all = parts c.args.list.now in let xs = parts c.loop-part.list in let rest = parts c.pop.new.self in let x = c.in-Some.part in let homes = c.loop-part.homes in let r = c.requires.carries in let popped = c.in-Some.ensures.some in
    let below = number_below a.over a.stands code r.1 seen group contents number w0 w all xs rest x homes popped (c.loop-part.invariant.1 r.1) r.0 r.2 r.3 r.4 r.5 r.6 in let small = c.first.ensures.small in let is = c.number-number.ensures in omega (arith, below, small, is)

pub put_at-requires : goal.put_at-requires
put_at-requires g c = let a = g.A.Agent in let K = g.C.Clock in let seen = part_seen K.least K.faults K.readings in let code = c.args.code.now in let group = g.T.Sixteen.group in let contents = g.T.Sixteen.as_contents in let number = g.T.Numbered.number in let w0 = c.args.worker.now in let w = c.loop-part.worker in let all = parts c.args.list.now in let xs = parts c.loop-part.list in let rest = parts c.pop.new.self in let x = c.in-Some.part in let homes = c.loop-part.homes in let r = c.requires.carries in let popped = c.in-Some.ensures.some in
    let below = number_below a.over a.stands code r.1 seen group contents number w0 w all xs rest x homes popped (c.loop-part.invariant.1 r.1) r.0 r.2 r.3 r.4 r.5 r.6 in let u = c.loop-part.invariant.1 r.1 in let lies = lies_there a.over a.stands code r.1 seen group contents number w0 w all xs rest x homes popped u r.0 r.2 r.3 r.4 r.5 r.6 in
    let at = ap₂ (λ (m k : ℕ). m + k) (c.first.ensures.number ∙ ap (first_part_number group) (u.same.workers ∙ r.6.one.of)) c.number-number.ensures ∙ numbered_in group r.2 w.number (number x) in
    is_held a.over a.stands r.0 code r.1 r.2 w (c.first.result + c.number-number.result) (row_place group (number x)) (is_place group (number x) below) at (with_row group (λ i. laid_back r.2 code contents (listed number u.done i) (r.4 i)) r.3) (lies.0, lies.1) lies.3

pub loop-part-preserved : goal.loop-part-preserved
loop-part-preserved g c = let fits = c.loop-part.invariant.0 in let room = c.in-Some.ensures.room in let shorter = ap length c.in-Some.ensures.some ∙ length-append (parts c.pop.new.self) (c.in-Some.part ∷ []) in (
  omega (arith, fits, room, shorter),
  λ id. let a = g.A.Agent in let K = g.C.Clock in let seen = part_seen K.least K.faults K.readings in let code = c.args.code.now in let group = g.T.Sixteen.group in let contents = g.T.Sixteen.as_contents in let number = g.T.Numbered.number in let w0 = c.args.worker.now in let w = c.loop-part.worker in let all = parts c.args.list.now in let xs = parts c.loop-part.list in let rest = parts c.pop.new.self in let x = c.in-Some.part in let homes = c.loop-part.homes in let r = c.requires.carries in let popped = c.in-Some.ensures.some in
      let below = number_below a.over a.stands code r.1 seen group contents number w0 w all xs rest x homes popped (c.loop-part.invariant.1 r.1) r.0 r.2 r.3 r.4 r.5 r.6 in
      one_back a.over a.stands code id seen group contents number w0 w all xs rest x homes popped (c.loop-part.invariant.1 id) c.put_at.new.worker c.add.new.self below c.put_at.ensures.same c.put_at.ensures.turns c.put_at.ensures.entries
      (λ i. c.add.ensures i ∙ ap (λ (m : ℕ). cond (eqb (home m) i) true (has_home homes i)) c.number-number.ensures)
      (λ program n h y d s. subst (λ (z : Contents g.row.A.Denot g.row.C.Denot). IsCarrying a.over a.stands program code id n c.put_at.new.worker (with_at (row_place group (number x)) (Some (part_of n code z, d)) h)) c.into_contents.ensures
      (c.put_at.ensures.carries program id n h (row_place group (number x)) y d s (is_place group (number x) below) (ap₂ (λ (m k : ℕ). m + k) (c.first.ensures.number ∙ ap (first_part_number group) s.one.of) c.number-number.ensures ∙ numbered_in group n w.number (number x)))),
)

pub returns-clause-same : goal.returns-clause-same
returns-clause-same g c = (c.loop-part.invariant.1 c.requires.carries.1).same

pub returns-clause-turns : goal.returns-clause-turns
returns-clause-turns g c = (c.loop-part.invariant.1 c.requires.carries.1).turns

pub returns-clause-entries : goal.returns-clause-entries
returns-clause-entries g c = (c.loop-part.invariant.1 c.requires.carries.1).entries

pub returns-clause-homes : goal.returns-clause-homes
returns-clause-homes g c = λ i lt. let u = c.loop-part.invariant.1 c.requires.carries.1 in let whole = u.split ∙ ap (λ (l : List g.row.T.Denot). l ++ u.done) c.in_default.ensures.none.0 in
    u.told i lt ∙ ap (λ (l : List g.row.T.Denot). is_some (listed g.T.Numbered.number l i)) (sym whole)

pub returns-clause-carries : goal.returns-clause-carries
returns-clause-carries g c = λ program id n h was agree s. let a = g.A.Agent in let u = c.loop-part.invariant.1 id in let whole = u.split ∙ ap (λ (l : List g.row.T.Denot). l ++ u.done) c.in_default.ensures.none.0 in
    subst (λ (l : List g.row.T.Denot). IsCarrying a.over a.stands program c.args.code.now id n c.loop-part.worker (with_row g.T.Sixteen.group (λ i. laid_back n c.args.code.now g.T.Sixteen.as_contents (listed g.T.Numbered.number l i) (was i)) h)) (sym whole) (u.carries program n h was s agree)

pub returns-clause-room : goal.returns-clause-room
returns-clause-room g c = let fits = c.loop-part.invariant.0 in let kept = c.pop.ensures.spare in let none = ap length c.in_default.ensures.none.0 in omega (arith, fits, kept, none)
