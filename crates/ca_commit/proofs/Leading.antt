-- A drawn event that moves the contents of what it touches leads on: a step, or none where it is silent.
use Rattle.std.proofs.Common.{ℕ, refl, option_map}
use Rattle.ca_value.specs.Tree.{Tree}
use Rattle.ca_term.specs.declared.event.Ending.TheVariants.{Ended, Faulted}
use Rattle.ca_term.specs.Program.{ProgramView}
use Rattle.ca_term.specs.Operation.{SeedView}
use Rattle.ca_term.specs.Event.{EventView, made, spawned, done, met, parked, posted, settled, defaulted, closed, registered, printed, ticked, over, port_number}
use Rattle.ca_meaning.specs.Body.{At}
use Rattle.ca_meaning.specs.Task.{TaskBody}
use Rattle.ca_meaning.specs.State.{State}
use Rattle.ca_meaning.specs.Steps.{Steps}
use Rattle.ca_agent.specs.Agents.{Advanced, Answered, Started}
use Rattle.ca_commit.specs.Agents.{TaskAgent, advances_of, gives_of, parks_of, place_of, result_port, stands_of, starts_of, wakes_of}
use Rattle.ca_commit.specs.Contents.{Parts}
use Rattle.ca_commit.specs.Moving.{MovesShown, MovesTurn, visible}
use Rattle.ca_commit.specs.SilentMoves.{Asked, Failed, Marked, Stopped}
use Rattle.ca_commit.specs.Stands.{Stands}
use Rattle.ca_commit.specs.Touched.{Turn, asks_clock, fails, halts, picks, prunes, shown, stalls, stops, yields}
use Rattle.ca_commit.proofs.AgentLaws.{GoesOn, TakesAnswers}
use Rattle.ca_commit.proofs.AgentLifts.{lifts_advance, lifts_answer, lifts_park, lifts_result, lifts_start, lifts_wake}
use Rattle.ca_commit.proofs.ChannelEvents.{close_steps, default_steps, done_steps}
use Rattle.ca_commit.proofs.EndEvents.{end_steps, fault_steps}
use Rattle.ca_commit.proofs.JoinEvents.{park_steps, post_steps}
use Rattle.ca_commit.proofs.Laid.{IsPart, laid_parts}
use Rattle.ca_commit.proofs.MakeEvents.{make_steps, tick_steps}
use Rattle.ca_commit.proofs.SilentEvents.{pick_same, prune_same, stall_same, timers_same, yield_same}
use Rattle.ca_commit.proofs.SpawnEvents.{spawn_steps}
use Rattle.ca_commit.proofs.TaskEvents.{Leads, print_steps, register_steps}
use Rattle.ca_commit.proofs.WaitEvents.{meet_steps, settle_steps}

module _ {A : Type 0} (place : A → At) (stands : ProgramView → A → TaskBody → Type 0) (advances : ProgramView → A → A → Type 0) (gives : A → Tree → A → Type 0) (starts : ProgramView → SeedView → A → Type 0)
    (advance_law : Advanced stands place advances) (answer_law : Answered stands place gives) (start_law : Started stands place starts) (program : ProgramView) where
  abbrev Stand : ℕ → Parts (TaskAgent A) → State → Type 0
  Stand n now s = Stands (place_of place) (stands_of stands) program n now s

  go : GoesOn (stands_of stands) (place_of place) (advances_of advances)
  go = lifts_advance stands place advances advance_law

  ans : TakesAnswers (stands_of stands) (place_of place) (gives_of place gives)
  ans = lifts_answer stands place gives answer_law

  wake : TakesAnswers (stands_of stands) (place_of place) (wakes_of gives)
  wake = lifts_wake stands place gives answer_law

  pub shown_leads : (n : ℕ) (now old new : Parts (TaskAgent A)) (s : State) (w : ℕ) (e : EventView) → Stand n now s → IsPart old now → MovesShown place advances gives starts w n e old new → Leads (place_of place) (stands_of stands) program n (laid_parts now new) s e
  shown_leads n now old new s w (made t p what moment) st part m = make_steps (place_of place) (stands_of stands) program n (advances_of advances) go (gives_of place gives) ans now old new s w t p what moment st part m
  shown_leads n now old new s w (spawned t u kind r) st part m = spawn_steps (place_of place) (stands_of stands) program n (advances_of advances) go (gives_of place gives) ans (starts_of starts) (lifts_start stands place starts start_law) now old new s w t u kind r st part m
  shown_leads n now old new s w (done t k b v) st part m = done_steps (place_of place) (stands_of stands) program n (advances_of advances) go (gives_of place gives) ans now old new s w t k b v st part m
  shown_leads n now old new s w (met t k side p v wait o) st part m = meet_steps (place_of place) (stands_of stands) program n (wakes_of gives) wake (advances_of advances) go (gives_of place gives) ans now old new s w t k side p v wait o st part m
  shown_leads n now old new s w (parked t wait bs) st part m = park_steps (place_of place) (stands_of stands) program n (advances_of advances) go (parks_of place) (lifts_park stands place) now old new s w t wait bs st part m
  shown_leads n now old new s w (posted t wait p v) st part m = post_steps (place_of place) (stands_of stands) program n (advances_of advances) go (gives_of place gives) ans now old new s w t wait p v st part m
  shown_leads n now old new s w (settled wait k side p v) st part m = settle_steps (place_of place) (stands_of stands) program n (wakes_of gives) wake now old new s w wait k side p v st part m
  shown_leads n now old new s w (defaulted t v) st part m = default_steps (place_of place) (stands_of stands) program n (advances_of advances) go (gives_of place gives) ans now old new s w t v st part m
  shown_leads n now old new s w (closed t p) st part m = close_steps (place_of place) (stands_of stands) program n (advances_of advances) go (gives_of place gives) ans now old new s w t p st part m
  shown_leads n now old new s w (registered t name args v) st part m = register_steps (place_of place) (stands_of stands) program n (advances_of advances) go (gives_of place gives) ans now old new s w t name args v st part m
  shown_leads n now old new s w (printed t line) st part m = print_steps (place_of place) (stands_of stands) program n (advances_of advances) go (gives_of place gives) ans now old new s w t line st part m
  shown_leads n now old new s w (ticked moment ports) st part m = tick_steps (place_of place) (stands_of stands) program n now old new s moment ports st part m
  shown_leads n now old new s w (over t Ended) st part m = end_steps (place_of place) (stands_of stands) program n (advances_of advances) go now old new s w t st part m
  shown_leads n now old new s w (over t (Faulted f at r)) st part m = fault_steps (place_of place) (stands_of stands) program n (advances_of advances) go result_port (lifts_result stands place) now old new s w t f at (option_map port_number r) st part m

  abbrev LeadsBy : ℕ → Parts (TaskAgent A) → State → Turn → Type 0
  LeadsBy n after s what = (s2 : State) × Steps program s (visible what) s2 × Stand n after s2

  pub turn_leads : (n : ℕ) (now old new : Parts (TaskAgent A)) (s : State) (w : ℕ) (what : Turn) → Stand n now s → IsPart old now → MovesTurn place advances gives starts w n what old new → LeadsBy n (laid_parts now new) s what
  turn_leads n now old new s w (shown e) st part m = let k = shown_leads n now old new s w e st part m in (k.0, (k.0, k.1, refl), k.2)
  turn_leads n now old new s w (picks r) st part m = (s, refl, pick_same (place_of place) (stands_of stands) program n now old new s w r st part m)
  turn_leads n now old new s w yields st part m = (s, refl, yield_same (place_of place) (stands_of stands) program n now old new s w st part m)
  turn_leads n now old new s w (prunes side p wait) st part m = (s, refl, prune_same (place_of place) (stands_of stands) program n now old new s side p wait st part m)
  turn_leads n now old new s w asks_clock st part m = (s, refl, timers_same (place_of place) (stands_of stands) program n Asked now old new s st part m)
  turn_leads n now old new s w fails st part m = (s, refl, timers_same (place_of place) (stands_of stands) program n Failed now old new s st part m)
  turn_leads n now old new s w stops st part m = (s, refl, timers_same (place_of place) (stands_of stands) program n Stopped now old new s st part m)
  turn_leads n now old new s w halts st part m = (s, refl, timers_same (place_of place) (stands_of stands) program n Marked now old new s st part m)
  turn_leads n now old new s w stalls st part m = (s, refl, stall_same (place_of place) (stands_of stands) program n now old new s st part m)
