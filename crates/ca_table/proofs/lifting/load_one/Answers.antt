use Rattle.std.proofs.Common.{◌∙◌, ℕ, ◌+◌, sym, ap, subst, arith}
use Rattle.ca_states.specs.ValidCode.{valid_code}
use Rattle.ca_commit.specs.Gathered.{kind_at}
use Rattle.ca_commit.specs.Listings.{parts}
use Rattle.ca_table.specs.Lifting.{first_part_number, lifted, row_place, with_row}
use Rattle.ca_table.specs.Parts.{part_away, contents_seen, part_of, part_seen}
use Rattle.ca_table.specs.Seen.{held_of}
use Rattle.ca_table.specs.Sound.{IsSound}
use Rattle.ca_table.specs.declared.part.Contents.{Contents}
use Rattle.ca_table.proofs.Liftings.{in_run, is_place, kind_at_row, kind_of_held, numbered_in}
use Rattle.ca_table.proofs.Loads.{ascends, lifted_there}
use Rattle.ca_table.proofs.lifting.load_one.Goals as goal

pub first-requires : goal.first-requires
first-requires g c = let one = c.requires.carries.3.one in let few = one.few in let of = one.of in omega (arith, few, of)

pub hold_at-requires-clause-one : goal.hold_at-requires-clause-one
hold_at-requires-clause-one g c = let r = c.requires.carries in (r.0, r.1, r.3.one, in_run g.T.Sixteen.group r.1 c.args.worker.now.workers c.args.number c.first.result c.first.ensures.number r.3.one.of c.requires.number)

pub hold_at-requires-clause-ascending : goal.hold_at-requires-clause-ascending
hold_at-requires-clause-ascending g c = λ i h. let lt = c.requires.ascending i h in let e = c.first.ensures.number in omega (arith, lt, e)

pub from_contents-part-requires : goal.from_contents-part-requires
from_contents-part-requires g c = let K = g.C.Clock in let w = c.args.worker.now in let one = c.requires.carries.3.one in
    sym (kind_of_held K.least K.faults K.readings c.hold_at.result) ∙ c.hold_at.ensures.kind ∙ ap (λ (k : ℕ). kind_at w.workers (k + c.args.number)) c.first.ensures.number
    ∙ kind_at_row g.T.Sixteen.group w.workers w.number c.args.number (let a = one.below in let b = one.of in omega (arith, a, b)) c.requires.number

pub returns-clause-ascending : goal.returns-clause-ascending
returns-clause-ascending g c = let a = g.A.Agent in let K = g.C.Clock in let seen = part_seen K.least K.faults K.readings in let r = c.requires.carries in let w = c.args.worker.now in let n = r.1 in let k = c.args.number in let group = g.T.Sixteen.group in
    let e = ap (first_part_number group) r.3.one.of in
    let at = ap (λ (m : ℕ). m + k) (c.first.ensures.number ∙ e) ∙ numbered_in group n w.number k in
    let more = c.hold_at.ensures.carries r.0 n r.2 (row_place group k) r.3 (is_place group k c.requires.number) at in
    let up = ascends a.over a.stands c.args.code.now c.args.table.now.id seen group g.T.Sixteen.as_contents g.T.Numbered.number r.0 n w c.hold_at.new.worker r.2 k (part_away n c.args.code.now, seen (part_of n c.args.code.now c.hold_at.result)) c.requires.number r.3 more c.hold_at.ensures.same.number (λ i h. let lt = c.requires.ascending i h in omega (arith, lt, e)) in
    λ i h. let lt = up i h in omega (arith, lt, e)

pub returns-clause-carries : goal.returns-clause-carries
returns-clause-carries g c = λ program n h none s. let a = g.A.Agent in let K = g.C.Clock in let seen = part_seen K.least K.faults K.readings in let w = c.args.worker.now in let k = c.args.number in let group = g.T.Sixteen.group in let code = c.args.code.now in
    let before = with_row group (lifted n code g.T.Sixteen.as_contents seen g.T.Numbered.number (parts c.args.list.now)) h in
    let at = ap (λ (m : ℕ). m + k) (c.first.ensures.number ∙ ap (first_part_number group) s.one.of) ∙ numbered_in group n w.number k in
    lifted_there a.over a.stands code c.args.table.now.id seen group g.T.Sixteen.as_contents g.T.Numbered.number program n c.hold_at.new.worker h (parts c.args.list.now) (parts c.push.new.self) k c.from_contents-part.result c.hold_at.result c.from_contents-part.ensures (let m = c.number.ensures in let f = c.if-number.false in omega (arith, m, f)) c.push.ensures.parts none
    (c.hold_at.ensures.carries program n before (row_place group k) s (is_place group k c.requires.number) at)

pub returns-clause-list : goal.returns-clause-list
returns-clause-list g c = let a = g.A.Agent in let K = g.C.Clock in let code = valid_code c.args.code.now in let w = c.args.worker.now in let k = c.args.number in let x = c.from_contents-part.result in (
  x,
  c.push.ensures.parts,
  (let m = c.number.ensures in let f = c.if-number.false in omega (arith, m, f)),
  subst (λ (j : ℕ). IsSound a.over a.place code w.workers (j + k) (held_of (contents_seen K.least K.faults K.readings (g.T.Sixteen.as_contents x)))) c.first.ensures.number
      (subst (λ (z : Contents g.row.A.Denot g.row.C.Denot). IsSound a.over a.place code w.workers (c.first.result + k) (held_of (contents_seen K.least K.faults K.readings z))) (sym c.from_contents-part.ensures) c.hold_at.ensures.sound),
)
