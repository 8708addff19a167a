-- What the code did to a scene is the event's step.
use Rattle.std.proofs.Common.{◌≡◌, ℕ, List, ap, ◌∙◌, Option, Some, option_map, true, eqb}
use Rattle.std.specs.Map.{update}
use Rattle.ca_value.specs.Tree.{Tree, nil, port}
use Rattle.ca_value.specs.declared.value.PortId.{PortId}
use Rattle.ca_term.specs.declared.event.Ending.TheVariants.{Ended, Faulted}
use Rattle.ca_term.specs.declared.fault.Fault.{Fault}
use Rattle.ca_term.specs.declared.place.Place.{Place}
use Rattle.ca_term.specs.Event.{printed, closed, defaulted, over as is_over, port_number}
use Rattle.ca_term.specs.Operation.{OpView, printing, closing}
use Rattle.ca_term.specs.Program.{ProgramView}
use Rattle.ca_meaning.specs.ChannelSteps.{with_default}
use Rattle.ca_meaning.specs.Going.{RunsAtOperation}
use Rattle.ca_meaning.specs.State.{State, Task, over, shut_at, shut_result}
use Rattle.ca_meaning.specs.Steps.{Step}
use Rattle.ca_scene.specs.declared.scene.Scene.{Scene}
use Rattle.ca_scene.specs.Admits.{admits}
use Rattle.ca_scene.specs.Scene.{scene_state, task_at, tasks_of}
use Rattle.ca_scene.proofs.Soundly.{admitted}
use Rattle.ca_replay.specs.Changes.{Finishes, Shuts, ShutsResult, finished_task}
use Rattle.ca_replay.specs.Goings.{TaskGoesOn, SameButTasks, StandsThere}
use Rattle.ca_replay.proofs.Went.{stands_there}

-- the task of the state stands there in the code
pub stands_at : (s : Scene) (t : ℕ) (op : OpView) (x : Task) → RunsAtOperation (scene_state s) t op x → StandsThere (task_at s t)
stands_at s t op x st = stands_there (task_at s) t x op st.0 st.2

module _ (s : Scene) (t : ℕ) where
  pub print_stands : (line : List ℕ) → admits (scene_state s) (printed t line) ≡ true → StandsThere (task_at s t)
  print_stands line e = let a = admitted (scene_state s) (printed t line) e in stands_at s t (printing line) a.0 a.1

  pub close_stands : (p : ℕ) → admits (scene_state s) (closed t p) ≡ true → StandsThere (task_at s t)
  close_stands p e = let a = admitted (scene_state s) (closed t p) e in stands_at s t (closing (port p)) a.0 a.1

  pub default_stands : (v : Tree) → admits (scene_state s) (defaulted t v) ≡ true → StandsThere (task_at s t)
  default_stands v e = let a = admitted (scene_state s) (defaulted t v) e in stands_at s t a.1 a.0 a.2

-- the state after a task went on
pub went_state : (s n : Scene) → SameButTasks s n → scene_state n ≡ record (scene_state s) { tasks = tasks_of n }
went_state s n same = ap scene_state same

module _ (program : ProgramView) (s n : Scene) (t : ℕ) (same : SameButTasks s n) where
  pub print_step : (line : List ℕ) → admits (scene_state s) (printed t line) ≡ true → TaskGoesOn program (tasks_of s) t nil (tasks_of n) → Step program (scene_state s) (printed t line) (scene_state n)
  print_step line e goes =
      let a = admitted (scene_state s) (printed t line) e in
      (a.0, tasks_of n, a.1, goes a.0 a.1.0, went_state s n same)

  pub default_step : (v : Tree) → admits (scene_state s) (defaulted t v) ≡ true → TaskGoesOn program (tasks_of s) t (with_default v) (tasks_of n) → Step program (scene_state s) (defaulted t v) (scene_state n)
  default_step v e goes =
      let a = admitted (scene_state s) (defaulted t v) e in
      (a.0, a.1, tasks_of n, a.2, a.3, a.4, goes a.0 a.2.0, went_state s n same)

  pub close_step : (p : ℕ) (s2 : State) → admits (scene_state s) (closed t p) ≡ true → TaskGoesOn program (tasks_of s) t nil (tasks_of n) → Shuts (scene_state n) p s2 → Step program (scene_state s) (closed t p) s2
  close_step p s2 e goes shuts =
      let a = admitted (scene_state s) (closed t p) e in
      (a.0, tasks_of n, a.1, goes a.0 a.1.0, shuts ∙ ap (λ (z : State). record z { channels = shut_at p z.channels }) (went_state s n same))

-- the task that is over is the one that ran
over_there : (s s2 : State) (t : ℕ) (x : Task) → s.tasks t ≡ Some x → Finishes s t s2 → s2 ≡ record s { tasks = update eqb s.tasks t (Some (record x { mode = over })) }
over_there s s2 t x at f = f ∙ ap (λ (o : Option Task). record s { tasks = update eqb s.tasks t (option_map finished_task o) }) at

module _ (program : ProgramView) (s : State) (t : ℕ) where
  pub end_step : (s2 : State) → admits s (is_over t Ended) ≡ true → Finishes s t s2 → Step program s (is_over t Ended) s2
  end_step s2 e f =
      let a = admitted s (is_over t Ended) e in
      (a.0, a.1, a.2, a.3, over_there s s2 t a.0 a.2.0 f)

  pub fault_step : (m s2 : State) (g : Fault) (q : Place) (r : Option PortId) → admits s (is_over t (Faulted g q r)) ≡ true → Finishes s t m → ShutsResult m (option_map port_number r) s2 → Step program s (is_over t (Faulted g q r)) s2
  fault_step m s2 g q r e f shuts =
      let a = admitted s (is_over t (Faulted g q r)) e in
      (a.0, a.1, a.2, a.3, shuts ∙ ap (λ (z : State). record z { channels = shut_result (option_map port_number r) z.channels }) (over_there s m t a.0 a.1.0 f))
