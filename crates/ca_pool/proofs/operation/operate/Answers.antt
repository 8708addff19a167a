use Rattle.std.proofs.Common.{◌≡◌, ◌∙◌, sym, ap, subst, []}
use Rattle.ca_term.specs.Operation.{WantView, want_view}
use Rattle.ca_term.specs.Program.{ProgramView, program_view}
use Rattle.ca_lower.specs.Gos.{SameGos}
use Rattle.ca_lower.specs.Lowered.{Lowered}
use Rattle.ca_meaning.specs.Body.{at_op}
use Rattle.ca_states.specs.ValidCode.{valid_code}
use Rattle.ca_commit.specs.Registering.{AreApart}
use Rattle.ca_table.proofs.Drawing.{drew_both}
use Rattle.ca_table.specs.Parts.{counts_view}
use Rattle.ca_commit.specs.declared.planned.Plan.{Plan}
use Rattle.ca_table.specs.declared.part.Lane.{Lane}
use Rattle.ca_pool.specs.AtEvent.{HasNumbers}
use Rattle.ca_pool.specs.Resolving.{IsResolved}
use Rattle.ca_pool.proofs.PlansReadied.{numbers_moved}
use Rattle.ca_pool.proofs.Resolutions.{err_any, err_map, event_else, if_ok_map, same_both}
use Rattle.ca_alone.specs.Schedule.{MaySettle, to_turn}
use Rattle.ca_pool.proofs.Lone.{stayed_may}
use Rattle.ca_pool.proofs.operation.operate.Goals as goal

same_want : (x y : WantView) → at_op x ≡ at_op y → x ≡ y
same_want x y e = cc

pub resolve-requires-clause-carries : goal.resolve-requires-clause-carries
resolve-requires-clause-carries g c = let r = c.requires.left in (r.0, r.1, r.2, r.3)

pub resolve-requires-clause-apart : goal.resolve-requires-clause-apart
resolve-requires-clause-apart g c = λ want at s. subst (λ (x : WantView). AreApart s x.op) (same_want (want_view c.want.result.now) want (sym c.want.ensures ∙ at)) (c.check_apart.ensures s)

pub refuse-requires-clause-carries : goal.refuse-requires-clause-carries
refuse-requires-clause-carries g c = let r = c.requires.left in (r.0, r.1, r.2, c.in_ok-plan.ensures.carries r.0 r.1 r.2 r.3, record { left = r.4; program_is = r.5 })

pub refuse-requires-clause-resolved : goal.refuse-requires-clause-resolved
refuse-requires-clause-resolved g c = subst (λ (p : Plan). IsResolved g.A.Agent.place c.resolve.new.held c.args.task p) c.in-Refused.is c.in_ok-plan.ensures.resolved

pub commit-requires-clause-carries : goal.commit-requires-clause-carries
commit-requires-clause-carries g c = let r = c.requires.left in (r.0, r.1, r.2, c.in_ok-plan.ensures.carries r.0 r.1 r.2 r.3, record { left = r.4; program_is = r.5 })

pub commit-requires-clause-event : goal.commit-requires-clause-event
commit-requires-clause-event g c = event_else c.in_ok-plan.plan c.in_ok-plan.ensures.resolved.decided c.in_default.not-Refused

pub commit-requires-clause-numbers : goal.commit-requires-clause-numbers
commit-requires-clause-numbers g c = let w = c.args.worker.now in let v = c.resolve.new.worker in let d = c.resolve.ensures.drew.same in let k = c.resolve.ensures.numbers in
    numbers_moved w.number v.number w.workers v.workers (counts_view c.args.lane.value.counts) c.set_numbers.new.held c.resolve.new.held d.number d.workers k.task k.port k.wait (subst (λ (x : Lane g.row.A.Denot). HasNumbers w.number w.workers (counts_view x.counts) c.set_numbers.new.held) c.deref.ensures c.set_numbers.ensures.numbers)

pub commit-requires-clause-apart : goal.commit-requires-clause-apart
commit-requires-clause-apart g c = λ want at s. subst (λ (x : WantView). AreApart s x.op) (same_want (want_view c.want.result.now) want (sym c.want.ensures ∙ at)) (c.check_apart.ensures s)

pub commit-requires-clause-lowered : goal.commit-requires-clause-lowered
commit-requires-clause-lowered g c = subst (λ (x : ProgramView). Lowered x (valid_code c.args.code.now)) (sym (ap (λ p. program_view p.value) c.resolve.ensures.drew.same.program)) c.requires.lowered

pub commit-requires-clause-gos : goal.commit-requires-clause-gos
commit-requires-clause-gos g c = subst (λ (x : ProgramView). SameGos x (valid_code c.args.code.now)) (sym (ap (λ p. program_view p.value) c.resolve.ensures.drew.same.program)) c.requires.gos

pub returns-in_err-plan-clause-same : goal.returns-in_err-plan-clause-same
returns-in_err-plan-clause-same g c = c.resolve.ensures.drew.same

pub returns-in_err-plan-clause-kept : goal.returns-in_err-plan-clause-kept
returns-in_err-plan-clause-kept g c = err_any c.from_residual.result c.in_err-plan.ensures.refused.carries

pub returns-in_err-plan-clause-refused : goal.returns-in_err-plan-clause-refused
returns-in_err-plan-clause-refused g c = err_any c.from_residual.result c.resolve.ensures.drew

pub returns-in-Refused-clause-same : goal.returns-in-Refused-clause-same
returns-in-Refused-clause-same g c = same_both c.args.worker.now c.resolve.new.worker c.refuse.new.worker c.resolve.ensures.drew.same c.refuse.ensures.same

pub returns-in-Refused-clause-stepped : goal.returns-in-Refused-clause-stepped
returns-in-Refused-clause-stepped g c = if_ok_map c.refuse.result (λ s st. λ program n l lane left its. st program n l (c.in_ok-plan.ensures.carries program n l lane) (record { left = left; program_is = its })) c.refuse.ensures.stepped

pub returns-in-Refused-clause-drew : goal.returns-in-Refused-clause-drew
returns-in-Refused-clause-drew g c = if_ok_map c.refuse.result (λ s d. drew_both c.resolve.ensures.drew d) c.refuse.ensures.drew

pub returns-in-Refused-clause-kept : goal.returns-in-Refused-clause-kept
returns-in-Refused-clause-kept g c = err_map c.refuse.result (λ k. λ program n l lane. k program n l (c.in_ok-plan.ensures.carries program n l lane)) c.refuse.ensures.kept

pub returns-in-Refused-clause-refused : goal.returns-in-Refused-clause-refused
returns-in-Refused-clause-refused g c = err_map c.refuse.result (λ d. drew_both c.resolve.ensures.drew d) c.refuse.ensures.refused

pub returns-in_default-clause-same : goal.returns-in_default-clause-same
returns-in_default-clause-same g c = same_both c.args.worker.now c.resolve.new.worker c.commit.new.worker c.resolve.ensures.drew.same c.commit.ensures.same

pub returns-in_default-clause-stepped : goal.returns-in_default-clause-stepped
returns-in_default-clause-stepped g c = if_ok_map c.commit.result (λ s st. λ program n l lane left its. st program n l (c.in_ok-plan.ensures.carries program n l lane) (record { left = left; program_is = its })) c.commit.ensures.stepped

pub returns-in_default-clause-drew : goal.returns-in_default-clause-drew
returns-in_default-clause-drew g c = if_ok_map c.commit.result (λ s d. drew_both c.resolve.ensures.drew d) c.commit.ensures.drew

pub returns-in_default-clause-kept : goal.returns-in_default-clause-kept
returns-in_default-clause-kept g c = err_map c.commit.result (λ k. λ program n l lane. k program n l (c.in_ok-plan.ensures.carries program n l lane)) c.commit.ensures.kept

pub returns-in_default-clause-refused : goal.returns-in_default-clause-refused
returns-in_default-clause-refused g c = err_map c.commit.result (λ d. drew_both c.resolve.ensures.drew d) c.commit.ensures.refused

pub returns-in-Refused-clause-solo : goal.returns-in-Refused-clause-solo
returns-in-Refused-clause-solo g c = let a = g.A.Agent in let m = g.met.A.Agent in let code = c.args.code.now in if_ok_map c.refuse.result (λ s st. λ few most may. st few most (stayed_may a.over a.place a.stands a.advances a.gives a.starts m.advanced m.answered m.started code {P = MaySettle to_turn []} c.resolve.ensures.stayed may)) c.refuse.ensures.solo

pub returns-in_default-clause-solo : goal.returns-in_default-clause-solo
returns-in_default-clause-solo g c = let a = g.A.Agent in let m = g.met.A.Agent in let code = c.args.code.now in if_ok_map c.commit.result (λ s st. λ few most may. st few most (stayed_may a.over a.place a.stands a.advances a.gives a.starts m.advanced m.answered m.started code {P = MaySettle to_turn []} c.resolve.ensures.stayed may)) c.commit.ensures.solo
