-- After moves from the opening on a task that isn't there has made no alts.
use Rattle.std.proofs.Common.{ℕ, List, [], ◌++◌}
use Rattle.ca_term.specs.Program.{ProgramView}
use Rattle.ca_term.specs.Event.{EventView}
use Rattle.ca_meaning.specs.State.{State, Opening}
use Rattle.ca_solo.specs.Positions.{Position, first_position}
use Rattle.ca_solo.specs.Moves.{SoloMoves, stays, goes_on}
use Rattle.ca_solo.specs.Alone.{Alone}
use Rattle.ca_solo.specs.Seats.{Uncounted}
use Rattle.ca_solo.proofs.Following.{sound as alone_sound}
use Rattle.ca_solo.proofs.Keeping.{starts_alone}
use Rattle.ca_solo.proofs.Runs.{run_kept}
use Rattle.ca_solo.proofs.Counts.{move_uncounted, starts_uncounted}

pub run_uncounted : (program : ProgramView) (readings : List ℕ) (journal : List EventView) (w w2 : Position) (es : List EventView) → Alone program readings journal w → Uncounted w → SoloMoves program w w2 es → Uncounted w2
run_uncounted program readings journal w _ _ a all stays = all
run_uncounted program readings journal w _ _ a all (goes_on {m = m} {w2 = w2} {es = es} hs r x) =
    move_uncounted program m (alone_sound program readings (journal ++ es) m (run_kept program readings journal w m es a r)) (run_uncounted program readings journal w m es a all r) w2 hs x

pub runs_uncounted : (program : ProgramView) (readings : List ℕ) (s : State) (w : Position) (journal : List EventView) → Opening program s → SoloMoves program (first_position readings s) w journal → Uncounted w
runs_uncounted program readings s w journal o r = run_uncounted program readings [] (first_position readings s) w journal (starts_alone program readings s o) (λ u n. starts_uncounted readings s u n) r
