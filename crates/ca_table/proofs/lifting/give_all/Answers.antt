use Rattle.std.proofs.Common.{◌∙◌, ℕ, ◌+◌, ◌<◌, sym, ap, subst, arith}
use Rattle.ca_table.specs.Lifting.{row_place, with_row}
use Rattle.ca_table.specs.Parts.{part_seen}
use Rattle.ca_table.specs.declared.worker.Worker.{Worker}
use Rattle.ca_table.proofs.HomeMembers.{own}
use Rattle.ca_table.specs.Homes.{has_home}
use Rattle.ca_table.proofs.Liftings.{from_on, is_place, numbered_in}
use Rattle.ca_table.proofs.Loads.{IsGiving, all_given, next_there, none_given, not_there, one_given}
use Rattle.ca_table.proofs.lifting.give_all.Goals as goal
use Rattle.ca_table.proofs.lifting.give_all.Goals.{else-has, then-has}

pub loop-number-init : goal.loop-number-init
loop-number-init g c = let a = g.A.Agent in let K = g.C.Clock in let first = c.first-number in (
  none_given a.over a.stands c.args.table.now.id (part_seen K.least K.faults K.readings) c.args.first c.args.homes.now c.args.worker.now first.result first.ensures.small first.ensures.none,
  first.ensures.small,
)

pub give_at-requires : goal.give_at-requires
give_at-requires g c = let a = g.A.Agent in let K = g.C.Clock in let r = c.requires.carries in let k = c.loop-number.number in let small = c.end-number-end.ensures.small in let lt : k < 16 = omega (arith, c.loop-number-test.true, small) in
    let next = next_there a.over a.stands c.args.table.now.id (part_seen K.least K.faults K.readings) c.args.first c.args.homes.now c.args.worker.now c.loop-number.worker k lt c.loop-number.invariant.0 (sym (ap (has_home c.args.homes.now) (own k lt)) ∙ sym c.has.ensures ∙ c.if-has.true) r.0 r.1 r.2 r.3 r.4 r.5 r.6 r.7 r.8 in
    record { settled = (r.0, r.1, r.2, with_row r.3 (from_on r.5 (k + 1)) r.4, row_place r.3 k, next.0, next.1, is_place r.3 k lt, ap (λ (m : ℕ). m + k) r.6 ∙ numbered_in r.3 r.2 c.loop-number.worker.number k) }

pub loop-number-preserved : goal.loop-number-preserved
loop-number-preserved g c = let a = g.A.Agent in let K = g.C.Clock in let w0 = c.args.worker.now in let w = c.loop-number.worker in let k = c.loop-number.number in let small = c.end-number-end.ensures.small in let lt : k < 16 = omega (arith, c.loop-number-test.true, small) in let homes = c.args.homes.now in let id = c.args.table.now.id in
    let known = sym (ap (has_home homes) (own k lt)) ∙ sym c.has.ensures in
    let given = c.loop-number.invariant.0 in (
      elim c.if-has.branch [
        | then-has b ↦ subst (λ (v : Worker g.row.A.Denot g.row.C.Denot). IsGiving a.over a.stands id (part_seen K.least K.faults K.readings) c.args.first homes w0 v (k + 1)) (sym b.worker-is)
            (one_given a.over a.stands id (part_seen K.least K.faults K.readings) c.args.first homes w0 w k lt given b.give_at.new.worker (known ∙ b.if-has.true) b.give_at.ensures.same b.give_at.ensures.turns b.give_at.ensures.entries
            (λ program code n row h o is none s. b.give_at.ensures.carries program code n h (row_place row k) o none s (is_place row k lt) (ap (λ (m : ℕ). m + k) is ∙ numbered_in row n w.number k)))
        | else-has b ↦ subst (λ (v : Worker g.row.A.Denot g.row.C.Denot). IsGiving a.over a.stands id (part_seen K.least K.faults K.readings) c.args.first homes w0 v (k + 1)) (sym b.worker-is)
            (not_there a.over a.stands id (part_seen K.least K.faults K.readings) c.args.first homes w0 w k lt given (known ∙ b.if-has.false))
      ],
      omega (arith, lt),
    )

pub returns-clause-carries : goal.returns-clause-carries
returns-clause-carries g c = let a = g.A.Agent in let K = g.C.Clock in let k = c.loop-number.number in let end = c.end-number-end in
    all_given a.over a.stands c.args.table.now.id (part_seen K.least K.faults K.readings) c.args.first c.args.homes.now c.args.worker.now c.loop-number.worker k (λ i le. end.ensures.none i (omega (arith, le, c.loop-number-test.false))) c.loop-number.invariant.0
