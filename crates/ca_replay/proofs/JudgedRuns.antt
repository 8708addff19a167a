-- What a journal comes to, where a world is led along it.
use Rattle.std.proofs.Common.{◌≡◌, ℕ, List, [], ◌∷◌, ◌++◌, length, ◌∙◌, subst, Option, None, true, false}
use Rattle.std.specs.Prelude.{is_some}
use Rattle.ca_term.specs.Event.{EventView}
use Rattle.ca_term.specs.Program.{ProgramView}
use Rattle.ca_meaning.specs.Ends.{IsPossible, IsStuck}
use Rattle.ca_meaning.specs.State.{State, Opening}
use Rattle.ca_meaning.specs.Steps.{Step}
use Rattle.ca_meaning.proofs.Single.{reached_once}
use Rattle.ca_replay.specs.declared.main_end.MainEnd.{MainEnd}
use Rattle.ca_replay.specs.declared.world.World.{World}
use Rattle.ca_replay.specs.Judged.{IsRun, IsRefused}
use Rattle.ca_replay.specs.MainEnd.{main_text_end}
use Rattle.ca_replay.specs.Verdict.{IsFirstIllegal}
use Rattle.ca_replay.specs.World.{IsWorld, world_program, world_state}
use Rattle.ca_replay.proofs.RunsTo.{illegal_over as over_to, illegal_next as next_to, run_more as more_to, run_first as first_to, still_open as open_to}

-- the world behind the next event
pub run_more : (program : ProgramView) (before : List EventView) (w : World) (e : EventView) (v : World) → IsRun program before w None → IsWorld v → world_program v ≡ world_program w → Step (world_program w) (world_state w) e (world_state v) → IsRun program (before ++ e ∷ []) v (main_text_end e)
run_more program before w e v run world same step = record {
  world = world;
  of_program = same ∙ run.of_program;
  run = more_to program before (world_state w) e (world_state v) run.run (subst (λ p. Step p (world_state w) e (world_state v)) run.of_program step);
}

-- the next event of the journal is illegal where the main text is over
pub illegal_over : (program : ProgramView) (journal before : List EventView) (e : EventView) (rest : List EventView) (number : ℕ) (w : World) (end : Option MainEnd) → before ++ e ∷ rest ≡ journal → number ≡ length before → is_some end ≡ true → IsRun program before w end → IsFirstIllegal program journal number
illegal_over program journal before e rest number w end whole is some run = over_to program journal before e rest number (world_state w) end whole is some run.run

-- and where the world's state doesn't have it
pub illegal_next : (program : ProgramView) (journal before : List EventView) (e : EventView) (rest : List EventView) (number : ℕ) (w : World) → before ++ e ∷ rest ≡ journal → number ≡ length before → IsRun program before w None → IsRefused e w → IsFirstIllegal program journal number
illegal_next program journal before e rest number w whole is run none = next_to program journal before e rest number (world_state w) whole is run.run (subst (λ p. (f : State) → Step p (world_state w) e f → ⊥) run.of_program none)

pub still_open : (program : ProgramView) (before : List EventView) (w : World) (end : Option MainEnd) → is_some end ≡ false → IsRun program before w end → IsRun program before w None
still_open program before w end none run = record { world = run.world; of_program = run.of_program; run = open_to program before (world_state w) end none run.run }

pub run_first : (program : ProgramView) (w : World) → IsWorld w → world_program w ≡ program → Opening program (world_state w) → IsRun program [] w None
run_first program w world is opens = record { world = world; of_program = is; run = first_to program (world_state w) opens }

pub stuck_is : (program : ProgramView) (journal : List EventView) (w : World) (end : Option MainEnd) → IsRun program journal w end → (IsPossible (world_program w) (world_state w) → ⊥) → IsStuck program journal
stuck_is program journal w end run none = (world_state w, run.run.reaches, subst (λ p. IsPossible p (world_state w) → ⊥) run.of_program none)

pub not_stuck : (program : ProgramView) (journal : List EventView) (w : World) (end : Option MainEnd) → IsRun program journal w end → IsPossible (world_program w) (world_state w) → IsStuck program journal → ⊥
not_stuck program journal w end run can stuck =
    stuck.2 (subst (IsPossible program) (reached_once program journal (world_state w) stuck.0 run.run.reaches stuck.1) (subst (λ p. IsPossible p (world_state w)) run.of_program can))
