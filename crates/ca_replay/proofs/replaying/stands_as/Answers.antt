use Rattle.std.proofs.Common.{◌≡◌, ap, sym, ◌∙◌, Some, None, rules}
use Rattle.ca_meaning.specs.Ends.{IsPossible}
use Rattle.ca_replay.specs.declared.main_end.MainEnd.{MainEnd}
use Rattle.ca_replay.specs.World.{world_program, world_state}
use Rattle.ca_replay.proofs.LastEnds.{ended, faulted, stays_open}
use Rattle.ca_replay.proofs.JudgedRuns.{stuck_is, not_stuck}
use Rattle.ca_replay.proofs.replaying.stands_as.Goals as goal

pub returns-in-Ended : goal.returns-in-Ended
returns-in-Ended c = let is : c.args.end ≡ Some MainEnd.Ended = c.in-Some.is ∙ ap Some c.in-Ended.is in λ program journal run. ended journal (sym run.run.ends ∙ is)

pub returns-in-Faulted : goal.returns-in-Faulted
returns-in-Faulted c = let is : c.args.end ≡ Some MainEnd.Faulted = c.in-Some.is ∙ ap Some c.in-Faulted.is in λ program journal run. faulted journal (sym run.run.ends ∙ is)

pub returns-then-possible : goal.returns-then-possible
returns-then-possible c =
    let is : c.args.end ≡ None = c.in-None.is in
    let can : IsPossible (world_program c.args.world.now) (world_state c.args.world.now) = c.possible.ensures.0 c.if-possible.true in
    λ program journal run. (stays_open journal (sym run.run.ends ∙ is), not_stuck program journal c.args.world.now c.args.end run can)

pub returns-else-possible : goal.returns-else-possible
returns-else-possible c =
    let is : c.args.end ≡ None = c.in-None.is in
    let none : IsPossible (world_program c.args.world.now) (world_state c.args.world.now) → ⊥ = search rules in
    λ program journal run. (stays_open journal (sym run.run.ends ∙ is), stuck_is program journal c.args.world.now c.args.end run none)
