-- Runs of the one worker's moves.
use Rattle.std.proofs.Common.{◌≡◌, ℕ, List, [], ◌++◌, sym, subst, append-nil, append_assoc}
use Rattle.ca_term.specs.Program.{ProgramView}
use Rattle.ca_term.specs.Event.{EventView}
use Rattle.ca_meaning.specs.State.{State, Opening}
use Rattle.ca_meaning.specs.Legal.{Reaches}
use Rattle.ca_meaning.specs.Solo.{Solo}
use Rattle.ca_solo.specs.Positions.{Position, first_position, HasUsed}
use Rattle.ca_solo.specs.Moves.{SoloMoves, stays, goes_on, MadeByMoves}
use Rattle.ca_solo.specs.Alone.{Alone}
use Rattle.ca_solo.specs.Seats.{TasksSeated}
use Rattle.ca_solo.proofs.Following.{alone_reaches}
use Rattle.ca_solo.proofs.Keeping.{move_kept, starts_alone, ends_solo}
use Rattle.ca_solo.proofs.Seating.{move_seated, starts_seated}

pub run_kept : (program : ProgramView) (readings : List ℕ) (journal : List EventView) (w w2 : Position) (es : List EventView) → Alone program readings journal w → SoloMoves program w w2 es → Alone program readings (journal ++ es) w2
run_kept program readings journal w _ _ a stays = subst (λ z. Alone program readings z w) (sym (append-nil journal)) a
run_kept program readings journal w _ _ a (goes_on {m = m} {w2 = w2} {es = es} hs r x) =
    subst (λ z. Alone program readings z w2) (append_assoc journal es hs) (move_kept program readings (journal ++ es) m w2 hs (run_kept program readings journal w m es a r) x)

pub run_seated : (program : ProgramView) (readings : List ℕ) (journal : List EventView) (w w2 : Position) (es : List EventView) → Alone program readings journal w → TasksSeated w → SoloMoves program w w2 es → TasksSeated w2
run_seated program readings journal w _ _ a all stays = all
run_seated program readings journal w _ _ a all (goes_on {m = m} {w2 = w2} {es = es} hs r x) =
    move_seated program readings (journal ++ es) m w2 hs (run_kept program readings journal w m es a r) x (run_seated program readings journal w m es a all r)

pub runs_seated : (program : ProgramView) (readings : List ℕ) (s : State) (w : Position) (journal : List EventView) → Opening program s → SoloMoves program (first_position readings s) w journal → TasksSeated w
runs_seated program readings s w journal o r = run_seated program readings [] (first_position readings s) w journal (starts_alone program readings s o) (starts_seated program readings s o) r

pub run_alone : (program : ProgramView) (readings : List ℕ) (s : State) (w : Position) (journal : List EventView) → Opening program s → SoloMoves program (first_position readings s) w journal → Alone program readings journal w
run_alone program readings s w journal o r = run_kept program readings [] (first_position readings s) w journal (starts_alone program readings s o) r

-- the one worker's moves make the run of the schedule
pub runs_reach : (program : ProgramView) (readings : List ℕ) (s : State) (w : Position) (journal : List EventView) → Opening program s → SoloMoves program (first_position readings s) w journal → Reaches program journal w.state
runs_reach program readings s w journal o r = alone_reaches program readings journal w (run_alone program readings s w journal o r)

pub runs_solo : (program : ProgramView) (readings : List ℕ) (s : State) (w : Position) (journal : List EventView) → Opening program s → SoloMoves program (first_position readings s) w journal → HasUsed w.phase → w.desk.readings ≡ [] → Solo program readings journal
runs_solo program readings s w journal o r m none = ends_solo program readings journal w (run_alone program readings s w journal o r) m none

pub moves_solo : (program : ProgramView) (readings : List ℕ) (journal : List EventView) → MadeByMoves program readings journal → Solo program readings journal
moves_solo program readings journal m = runs_solo program readings m.0 m.1 journal m.2 m.3 m.4 m.5
