use Rattle.std.proofs.Common.{◌≡◌, ◌∙◌, ℕ, Option, ap, sym, subst, is_some}
use Rattle.std.specs.Prelude.{IfSome}
use Rattle.ca_term.specs.Program.{ProgramView}
use Rattle.ca_states.specs.ValidCode.{valid_code}
use Rattle.ca_lower.specs.Gos.{SameGos}
use Rattle.ca_lower.specs.Lowered.{Lowered}
use Rattle.ca_commit.specs.Applying.{HasSpawned}
use Rattle.ca_commit.specs.Contents.{TimersPart}
use Rattle.ca_commit.specs.Plans.{plan_view}
use Rattle.ca_commit.specs.Showing.{channels_held, registries_held, waits_held}
use Rattle.ca_pool.specs.Preparing.{AskedFor, StartsFor, clock_with}
use Rattle.ca_pool.proofs.PlansReadied.{paused_kept}
use Rattle.ca_pool.proofs.Preparations.{all_parts, next_both, next_of, shown_both, shown_times}
use Rattle.ca_pool.proofs.Resolutions.{err_map, if_ok_map, ok_map}
use Rattle.ca_pool.proofs.preparation.prepare.Goals as goal

pub make_parts-requires-clause-paused : goal.make_parts-requires-clause-paused
make_parts-requires-clause-paused g c = let o = c.take_times-clock.ensures.others in paused_kept g.A.Agent.place c.args.held.now c.take_times-clock.new.held (λ i. ap (λ b. channels_held b i) o.banks) (λ i. ap (λ b. registries_held b i) o.banks) (λ i. ap (λ b. waits_held b i) o.shards) c.requires.paused

pub make_parts-requires-clause-parts : goal.make_parts-requires-clause-parts
make_parts-requires-clause-parts g c = let t = c.take_times-clock in let o = t.ensures.others in all_parts (plan_view c.args.plan.now) c.args.held.now t.new.held c.requires.rest (λ i. ap (λ b. is_some (channels_held b i)) o.banks) (λ i. ap (λ b. is_some (waits_held b i)) o.shards) (next_of c.args.held.now t.new.held o.numbers) (ap is_some o.ready ∙ c.requires.ready) (t.ensures.there ∙ c.requires.clock)

pub returns-in-Err-clause-shown : goal.returns-in-Err-clause-shown
returns-in-Err-clause-shown g c = let t = c.take_times-clock in let m = c.make_parts in let p = c.put_times in
    shown_both c.args.held.now t.new.held p.new.held (shown_times c.args.held.now t.new.held t.ensures.others) (shown_both t.new.held m.new.held p.new.held m.ensures.shown (shown_times m.new.held p.new.held p.ensures.others))

pub returns-in-Err-clause-next : goal.returns-in-Err-clause-next
returns-in-Err-clause-next g c = let t = c.take_times-clock in let m = c.make_parts in let p = c.put_times in
    next_both c.args.held.now t.new.held p.new.held (next_of c.args.held.now t.new.held t.ensures.others.numbers) (next_both t.new.held m.new.held p.new.held m.ensures.next (next_of m.new.held p.new.held p.ensures.others.numbers))

pub returns-in-Err-clause-some : goal.returns-in-Err-clause-some
returns-in-Err-clause-some g c = c.put_times.ensures.some ∙ c.take_times-clock.ensures.some

pub returns-in-Err-clause-kept : goal.returns-in-Err-clause-kept
returns-in-Err-clause-kept g c = c.put_times.ensures.seen ∙ c.make_parts.ensures.timers ∙ c.take_times-clock.ensures.seen

pub returns-in-Ok-clause-shown : goal.returns-in-Ok-clause-shown
returns-in-Ok-clause-shown g c = let t = c.take_times-clock in let m = c.make_parts in let p = c.prepare_moment in
    shown_both c.args.held.now t.new.held p.new.held (shown_times c.args.held.now t.new.held t.ensures.others) (shown_both t.new.held m.new.held p.new.held m.ensures.shown p.ensures.shown)

pub returns-in-Ok-clause-next : goal.returns-in-Ok-clause-next
returns-in-Ok-clause-next g c = let t = c.take_times-clock in let m = c.make_parts in let p = c.prepare_moment in
    next_both c.args.held.now t.new.held p.new.held (next_of c.args.held.now t.new.held t.ensures.others.numbers) (next_both t.new.held m.new.held p.new.held m.ensures.next p.ensures.next)

pub returns-in-Ok-clause-some : goal.returns-in-Ok-clause-some
returns-in-Ok-clause-some g c = c.prepare_moment.ensures.some ∙ c.take_times-clock.ensures.some

pub returns-in-Ok-clause-kept : goal.returns-in-Ok-clause-kept
returns-in-Ok-clause-kept g c = err_map c.prepare_moment.result.1 (λ e. e ∙ c.make_parts.ensures.timers ∙ c.take_times-clock.ensures.seen) c.prepare_moment.ensures.kept

pub returns-in-Ok-clause-timers : goal.returns-in-Ok-clause-timers
returns-in-Ok-clause-timers g c = ok_map c.prepare_moment.result.1 (λ e. ap is_some e ∙ c.make_parts.ensures.some ∙ c.take_times-clock.ensures.there) c.prepare_moment.ensures.timers

pub returns-in-Ok-clause-asked : goal.returns-in-Ok-clause-asked
returns-in-Ok-clause-asked g c = let K = g.C.Clock in let p = c.prepare_moment in
    ok_map p.result.1 (λ e. subst (λ (s : Option TimersPart). AskedFor p.new.held.moment s (clock_with K.least K.faults K.readings p.result.0 p.new.held.timers)) (c.make_parts.ensures.timers ∙ c.take_times-clock.ensures.seen) e) p.ensures.asked

pub returns-in-Ok-clause-there : goal.returns-in-Ok-clause-there
returns-in-Ok-clause-there g c = if_ok_map c.prepare_moment.result.1 (λ o e. subst (λ y. HasSpawned y (plan_view c.args.plan.now)) (sym e) c.in-Ok.ensures.there) c.prepare_moment.ensures.started

pub returns-in-Ok-clause-number : goal.returns-in-Ok-clause-number
returns-in-Ok-clause-number g c = if_ok_map c.prepare_moment.result.1 (λ o e. subst (λ y. IfSome y (λ s. s.number ≡ c.args.held.now.new_task)) (sym e) (subst (λ (k : ℕ). IfSome c.in-Ok.started (λ s. s.number ≡ k)) c.take_times-clock.ensures.others.numbers.task c.in-Ok.ensures.number)) c.prepare_moment.ensures.started

pub returns-in-Ok-clause-starts : goal.returns-in-Ok-clause-starts
returns-in-Ok-clause-starts g c = if_ok_map c.prepare_moment.result.1 (λ o e. subst (λ y. IfSome y (λ s. (program : ProgramView) → Lowered program (valid_code c.args.code.now) → SameGos program (valid_code c.args.code.now) → StartsFor g.A.Agent.place g.A.Agent.starts program c.args.task.now s)) (sym e) c.in-Ok.ensures.starts) c.prepare_moment.ensures.started

pub returns-in-Ok-clause-over : goal.returns-in-Ok-clause-over
returns-in-Ok-clause-over g c = if_ok_map c.prepare_moment.result.1 (λ o e. subst (λ y. IfSome y (λ s. g.A.Agent.over (valid_code c.args.code.now) s.agent)) (sym e) c.in-Ok.ensures.over) c.prepare_moment.ensures.started
