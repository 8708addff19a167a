-- Where a worker is free, none is ready and no deadline is open, nothing can go on.
use Rattle.std.proofs.Common.{◌≡◌, ℕ, List, []}
use Rattle.ca_term.specs.Program.{ProgramView}
use Rattle.ca_term.specs.Event.{EventView}
use Rattle.ca_meaning.specs.State.{State, Opening}
use Rattle.ca_meaning.specs.Ends.{IsStuck}
use Rattle.ca_solo.specs.Positions.{Position, first_position, free}
use Rattle.ca_solo.specs.Moves.{SoloMoves}
use Rattle.ca_solo.proofs.Following.{follows_in}
use Rattle.ca_solo.proofs.Runs.{run_alone, runs_seated}
use Rattle.ca_solo.proofs.Seating.{lane_free, nobody_runs}
use Rattle.ca_solo.proofs.Ends.{stuck_there}

pub still_stuck : (program : ProgramView) (readings : List ℕ) (s : State) (w : Position) (journal : List EventView) → Opening program s → SoloMoves program (first_position readings s) w journal → w.phase ≡ free → w.desk.ready ≡ [] → w.state.deadlines ≡ [] → IsStuck program journal
still_stuck program readings s w journal o r f empty dated =
    let a = run_alone program readings s w journal o r in
    stuck_there program readings journal w a f (nobody_runs w (runs_seated program readings s w journal o r) (lane_free w.state a.desk w.desk (follows_in program readings journal w free a f)) empty) dated
