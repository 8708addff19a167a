use Rattle.std.proofs.Common.{◌∙◌, ℕ, ◌+◌, ◌<◌, ◌≤◌, [], ◌∷◌, length, sym, ap, subst, arith, length-append}
use Rattle.ca_states.specs.ValidCode.{valid_code}
use Rattle.ca_commit.specs.Listings.{parts, spare_parts}
use Rattle.ca_commit.specs.declared.listing.Listing.{Listing}
use Rattle.ca_table.specs.Homes.{has_home}
use Rattle.ca_table.specs.Lifting.{first_part_number, lifted, with_row}
use Rattle.ca_table.specs.Parts.{contents_seen, part_seen}
use Rattle.ca_table.specs.Seen.{held_of}
use Rattle.ca_table.specs.Sound.{IsSound}
use Rattle.ca_table.specs.declared.worker.Worker.{Worker}
use Rattle.ca_table.proofs.HomeMembers.{own}
use Rattle.ca_table.proofs.Lifts.{AreSound, none_sound, one_sound}
use Rattle.ca_table.proofs.Loads.{IsLoading, all_loaded, none_loaded, not_wanted, one_loaded}
use Rattle.ca_table.proofs.lifting.load.Goals as goal
use Rattle.ca_table.proofs.lifting.load.Goals.{else-has, then-has}

pub loop-number-init : goal.loop-number-init
loop-number-init g c = let a = g.A.Agent in let K = g.C.Clock in (
  (let r = c.requires.room in omega (arith, r)),
  none_loaded a.over a.stands c.args.code.now c.args.table.now.id (part_seen K.least K.faults K.readings) g.T.Sixteen.group g.T.Sixteen.as_contents g.T.Numbered.number (has_home c.args.homes.now) c.args.worker.now (parts c.args.list.now) c.first-number.result c.first-number.ensures.none c.requires.empty c.requires.ascending,
  omega arith,
  none_sound a.over a.place (valid_code c.args.code.now) K.least K.faults K.readings g.T.Sixteen.as_contents g.T.Numbered.number c.args.worker.now.workers (first_part_number g.T.Sixteen.group c.args.worker.now.workers) (parts c.args.list.now) c.requires.empty,
  c.first-number.ensures.small,
)

pub load_one-requires-clause-carries : goal.load_one-requires-clause-carries
load_one-requires-clause-carries g c = let K = g.C.Clock in let r = c.requires.carries in let l = c.loop-number.invariant.1 in
    (r.0, r.1, with_row g.T.Sixteen.group (lifted r.1 c.args.code.now g.T.Sixteen.as_contents (part_seen K.least K.faults K.readings) g.T.Numbered.number (parts c.loop-number.list)) r.2, l.carries r.0 r.1 r.2 r.4 r.3)

pub load_one-requires-clause-ascending : goal.load_one-requires-clause-ascending
load_one-requires-clause-ascending g c = let l = c.loop-number.invariant.1 in λ i h. let lt = l.below i h in let e = ap (first_part_number g.T.Sixteen.group) l.same.workers in omega (arith, lt, e)

pub loop-number-preserved : goal.loop-number-preserved
loop-number-preserved g c = let a = g.A.Agent in let K = g.C.Clock in let seen = part_seen K.least K.faults K.readings in let code = c.args.code.now in let id = c.args.table.now.id in let group = g.T.Sixteen.group in let contents = g.T.Sixteen.as_contents in let number = g.T.Numbered.number in
    let has = has_home c.args.homes.now in let w0 = c.args.worker.now in let w = c.loop-number.worker in let k = c.loop-number.number in let small = c.end-number-end.ensures.small in let lt : k < 16 = omega (arith, c.loop-number-test.true, small) in
    let known = sym (ap has (own k lt)) ∙ sym c.has.ensures in let l = c.loop-number.invariant in let valid = valid_code code in let n = w0.workers in let first = first_part_number group n in
    elim c.if-has.branch [
      | then-has b ↦ let q = b.load_one.ensures in let room = l.0 in let kept = q.room in let fits = l.2 in let longer = ap length q.list.1 ∙ length-append (parts c.loop-number.list) (q.list.0 ∷ []) in (
        subst (λ (ls : Listing g.row.T.Denot). 16 ≤ spare_parts ls + (k + 1)) (sym b.list-is) (omega (arith, room, kept)),
        subst (λ (v : Worker g.row.A.Denot g.row.C.Denot). IsLoading a.over a.stands code id seen group contents number has w0 v (parts c.if-has.list) (k + 1)) (sym b.worker-is)
            (subst (λ (ls : Listing g.row.T.Denot). IsLoading a.over a.stands code id seen group contents number has w0 b.load_one.new.worker (parts ls) (k + 1)) (sym b.list-is)
            (one_loaded a.over a.stands code id seen group contents number has w0 w (parts c.loop-number.list) k l.1 b.load_one.new.worker (parts b.load_one.new.list) q.list.0 (known ∙ b.if-has.true) q.same q.turns q.entries q.list.1 q.list.2 q.ascending q.carries)),
        subst (λ (ls : Listing g.row.T.Denot). spare_parts c.args.list.now ≤ spare_parts ls + length (parts ls)) (sym b.list-is) (omega (arith, fits, kept, longer)),
        subst (λ (ls : Listing g.row.T.Denot). AreSound a.over a.place valid K.least K.faults K.readings contents number n first (parts ls)) (sym b.list-is)
            (one_sound a.over a.place valid K.least K.faults K.readings contents number n first (parts c.loop-number.list) (parts b.load_one.new.list) q.list.0 k l.3 q.list.1 q.list.2 (l.1.none k (omega arith))
            (subst (λ (m : ℕ). IsSound a.over a.place valid m (first_part_number group m + k) (held_of (contents_seen K.least K.faults K.readings (contents q.list.0)))) l.1.same.workers q.list.3)),
        omega (arith, lt),
      )
      | else-has b ↦ let room = l.0 in let fits = l.2 in (
        subst (λ (ls : Listing g.row.T.Denot). 16 ≤ spare_parts ls + (k + 1)) (sym b.list-is) (omega (arith, room)),
        subst (λ (v : Worker g.row.A.Denot g.row.C.Denot). IsLoading a.over a.stands code id seen group contents number has w0 v (parts c.if-has.list) (k + 1)) (sym b.worker-is)
            (subst (λ (ls : Listing g.row.T.Denot). IsLoading a.over a.stands code id seen group contents number has w0 w (parts ls) (k + 1)) (sym b.list-is)
            (not_wanted a.over a.stands code id seen group contents number has w0 w (parts c.loop-number.list) k l.1 (known ∙ b.if-has.false))),
        subst (λ (ls : Listing g.row.T.Denot). spare_parts c.args.list.now ≤ spare_parts ls + length (parts ls)) (sym b.list-is) fits,
        subst (λ (ls : Listing g.row.T.Denot). AreSound a.over a.place valid K.least K.faults K.readings contents number n first (parts ls)) (sym b.list-is) l.3,
        omega (arith, lt),
      )
    ]

pub returns-clause-ascending : goal.returns-clause-ascending
returns-clause-ascending g c = let few = c.loop-number.invariant.4 in λ i h. let lt = c.loop-number.invariant.1.below i h in omega (arith, few, lt)

pub returns-clause-homes : goal.returns-clause-homes
returns-clause-homes g c = let a = g.A.Agent in let K = g.C.Clock in let end = c.end-number-end in λ i lt.
    all_loaded a.over a.stands c.args.code.now c.args.table.now.id (part_seen K.least K.faults K.readings) g.T.Sixteen.group g.T.Sixteen.as_contents g.T.Numbered.number (has_home c.args.homes.now) c.args.worker.now c.loop-number.worker (parts c.loop-number.list) c.loop-number.number c.loop-number.invariant.1
    (λ j le. end.ensures.none j (omega (arith, le, c.loop-number-test.false))) i

pub returns-clause-none : goal.returns-clause-none
returns-clause-none g c = let few = c.loop-number.invariant.4 in λ i le. c.loop-number.invariant.1.none i (omega (arith, few, le))
