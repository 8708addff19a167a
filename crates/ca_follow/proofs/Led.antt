-- A follower that is led along a journal: it goes on, or the next event is the first that no legal run has there.
use Rattle.std.proofs.Common.{◌≡◌, ℕ, List, [], ◌∷◌, ◌++◌, length, Option, None, true, false}
use Rattle.std.specs.Prelude.{is_some}
use Rattle.ca_term.specs.Event.{EventView}
use Rattle.ca_term.specs.Program.{ProgramView}
use Rattle.ca_meaning.specs.Legal.{Legal}
use Rattle.ca_meaning.specs.State.{Opening, State}
use Rattle.ca_states.specs.Code.{CodeView}
use Rattle.ca_tasks.specs.declared.task.AnyTask.{AnyTask}
use Rattle.ca_replay.specs.declared.main_end.MainEnd.{MainEnd}
use Rattle.ca_replay.specs.MainEnd.{main_text_end}
use Rattle.ca_replay.specs.Verdict.{IsFirstIllegal}
use Rattle.ca_replay.proofs.RunsTo.{illegal_next, illegal_over, run_first, run_more, still_open}
use Rattle.ca_follow.specs.Followed.{IsLed}
use Rattle.ca_follow.specs.Follower.{IsMadeFor, Leads, Refuses, FollowerStands}
use Rattle.ca_follow.specs.Has.{Has}

-- at the opening
pub led_first : (program : ProgramView) (h : Has AnyTask) → ((s : State) × Opening program s × FollowerStands program h s) → IsLed program [] h None
led_first program h opens = record { state = opens.0; run = run_first program opens.0 opens.1; stands = opens.2 }

module _ (program : ProgramView) (code : CodeView) (made : IsMadeFor program code) (before : List EventView) (h : Has AnyTask) (end : Option MainEnd) (led : IsLed program before h end) where
  -- behind the next event, where the main text isn't over
  pub led_on : (e : EventView) (h2 : Has AnyTask) → is_some end ≡ false → Leads code e h h2 → IsLed program (before ++ e ∷ []) h2 (main_text_end e)
  led_on e h2 none leads = let k = leads program led.state made led.stands in
      record { state = k.0; run = run_more program before led.state e k.0 (still_open program before led.state end none led.run) k.1; stands = k.2 }

  -- the next event of the journal is illegal where the main text is over
  pub led_over : (journal : List EventView) (e : EventView) (rest : List EventView) (number : ℕ) → before ++ e ∷ rest ≡ journal → number ≡ length before → is_some end ≡ true → IsFirstIllegal program journal number
  led_over journal e rest number whole is some = illegal_over program journal before e rest number led.state end whole is some led.run

  -- and where it is refused
  pub led_refused : (journal : List EventView) (e : EventView) (rest : List EventView) (number : ℕ) → before ++ e ∷ rest ≡ journal → number ≡ length before → is_some end ≡ false → Refuses code e h → IsFirstIllegal program journal number
  led_refused journal e rest number whole is none refused = illegal_next program journal before e rest number led.state whole is (still_open program before led.state end none led.run)
      (λ s2 step. refused program led.state s2 made led.stands step)

  pub led_legal : Legal program before
  led_legal = record { state = led.state; reaches = led.run.reaches; goes_on = led.run.goes_on }
