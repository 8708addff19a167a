use Rattle.std.proofs.Common.{◌≡◌, false, sym, ap, ◌∙◌, subst}
use Rattle.std.specs.Prelude.{map}
use Rattle.ca_value.specs.Seq.{list}
use Rattle.ca_states.specs.declared.runner.Runner.{Runner}
use Rattle.ca_states.specs.Code.{BlockView, block_view, code_view, instruction}
use Rattle.ca_states.specs.Machine.{goes, goes_on, move}
use Rattle.ca_states.specs.Standing.{state_view, Passed}
use Rattle.ca_states.proofs.StandingLaws.{block_stop, exit_halts, exit_waits, fits_after, fits_halt, goes_standing, instrs_fit, ran, stop_halts, valid_parts}
use Rattle.ca_states.proofs.runner.Runner.go_on.Goals as goal

pub run_block-requires : goal.run_block-requires
run_block-requires c = instrs_fit (code_view c.args.code.now) c.requires.valid c.loop-block.self (block_view c.block_at-block.result.now) c.loop-block.invariant.stands c.block_at-block.ensures

pub returns-then-not-run_block-clause-halts : goal.returns-then-not-run_block-clause-halts
returns-then-not-run_block-clause-halts c =
    let C = code_view c.args.code.now in
    let q = c.loop-block.self in
    let r = c.run_block.new.self in
    let stop = block_stop C (state_view q) (map instruction (list c.block_at-block.result.now.instrs)) c.run_block.new.stop r (sym (ap (λ (b : BlockView). b.instrs) c.block_at-block.ensures)) c.if-not-run_block.ensures.stop
    (ap (λ (z : Runner). z.turns) c.run_block.ensures.same) in
    stop_halts C (state_view c.args.self.now) (state_view q) c.run_block.new.stop c.halt_by.result c.halt_by.new.halt r c.loop-block.invariant.reached stop c.halt_by.ensures

pub halt-requires-clause-fits : goal.halt-requires-clause-fits
halt-requires-clause-fits c =
    let C = code_view c.args.code.now in
    let r = c.run_block.new.self in
    let b = block_view c.block_at-block.result.now in
    fits_halt C b.exit (state_view r) (fits_after C c.requires.valid c.loop-block.self r b c.loop-block.invariant.stands c.block_at-block.ensures c.run_block.ensures.same c.run_block.ensures.count)

pub leave-requires-clause-fits : goal.leave-requires-clause-fits
leave-requires-clause-fits c =
    fits_after (code_view c.args.code.now) c.requires.valid c.loop-block.self c.run_block.new.self (block_view c.block_at-block.result.now) c.loop-block.invariant.stands c.block_at-block.ensures c.run_block.ensures.same c.run_block.ensures.count

pub returns-then-halts_at-clause-halts : goal.returns-then-halts_at-clause-halts
returns-then-halts_at-clause-halts c =
    let C = code_view c.args.code.now in
    let q = c.loop-block.self in
    let r = c.run_block.new.self in
    let b = block_view c.block_at-block.result.now in
    let e = ran C q r b c.block_at-block.ensures c.run_block.ensures.same c.if-not-run_block.ensures.ok in
    exit_halts C (state_view c.args.self.now) (state_view q) (state_view r) b.exit c.halt.result c.halt.new.halt c.halt.new.self c.loop-block.invariant.reached e c.halt.ensures

pub returns-then-halts_at-clause-waits : goal.returns-then-halts_at-clause-waits
returns-then-halts_at-clause-waits c =
    let C = code_view c.args.code.now in
    let q = c.loop-block.self in
    let r = c.run_block.new.self in
    let b = block_view c.block_at-block.result.now in
    let e = ran C q r b c.block_at-block.ensures c.run_block.ensures.same c.if-not-run_block.ensures.ok in
    exit_waits C c.requires.valid (state_view q) (state_view r) b.exit c.halt.result c.halt.new.halt c.halt.new.self c.loop-block.invariant.stands e c.halt.ensures

pub returns-then-not-leave-clause-halts : goal.returns-then-not-leave-clause-halts
returns-then-not-leave-clause-halts c =
    let C = code_view c.args.code.now in
    let q = c.loop-block.self in
    let b = block_view c.block_at-block.result.now in
    let e = ran C q c.run_block.new.self b c.block_at-block.ensures c.run_block.ensures.same c.if-not-run_block.ensures.ok in
    let stop = subst (λ m. Passed m false c.leave.new.stop c.leave.new.self) (sym e) c.if-not-leave.ensures in
    stop_halts C (state_view c.args.self.now) (state_view q) c.leave.new.stop c.halt_by-then-not-leave.result c.halt_by-then-not-leave.new.halt c.leave.new.self c.loop-block.invariant.reached stop c.halt_by-then-not-leave.ensures

pub loop-block-preserved : goal.loop-block-preserved
loop-block-preserved c =
    let C = code_view c.args.code.now in
    let q = c.loop-block.self in
    let s = state_view q in
    let t = state_view c.leave.new.self in
    let e : move C s ≡ goes t = ran C q c.run_block.new.self (block_view c.block_at-block.result.now) c.block_at-block.ensures c.run_block.ensures.same c.if-not-run_block.ensures.ok ∙ c.if-not-leave.ensures in record {
      bare = c.loop-block.invariant.bare;
      stands = (goes_standing C (valid_parts C c.requires.valid) s t c.loop-block.invariant.stands e).0;
      reached = λ m k. c.loop-block.invariant.reached m (goes_on s t m e k);
    }

pub loop-block-smaller : goal.loop-block-smaller
loop-block-smaller c =
    let C = code_view c.args.code.now in
    let q = c.loop-block.self in
    let e : move C (state_view q) ≡ goes (state_view c.leave.new.self) = ran C q c.run_block.new.self (block_view c.block_at-block.result.now) c.block_at-block.ensures c.run_block.ensures.same c.if-not-run_block.ensures.ok ∙ c.if-not-leave.ensures in
    (goes_standing C (valid_parts C c.requires.valid) (state_view q) (state_view c.leave.new.self) c.loop-block.invariant.stands e).1
