-- What the code did to a scene is the event's step: puts, takes and waits.
use Rattle.std.proofs.Common.{◌≡◌, ℕ, [], ◌∷◌, sym, ap, ◌∙◌, subst, Option, Some, None, true, false}
use Rattle.ca_value.specs.Tree.{Tree, bool, port}
use Rattle.ca_term.specs.declared.event.Side.{Side}
use Rattle.ca_term.specs.Event.{BranchView, put_of, done, met, posted, settled}
use Rattle.ca_term.specs.Operation.{posting}
use Rattle.ca_term.specs.Program.{ProgramView}
use Rattle.ca_meaning.specs.Channel.{Channel}
use Rattle.ca_meaning.specs.ChannelSteps.{other_side}
use Rattle.ca_meaning.specs.Going.{Wakes}
use Rattle.ca_meaning.specs.Row.{not_ready, completes, meets}
use Rattle.ca_meaning.specs.State.{State, Task, Tasks, Channels, running, runs}
use Rattle.ca_meaning.specs.Steps.{Step}
use Rattle.ca_meaning.specs.Wait.{Handler, port_of, front, is_among, is_live, owner_of, told, without}
use Rattle.ca_meaning.proofs.Effects.{met_live, settled_live}
use Rattle.ca_meaning.proofs.Possible.{waiters_kept}
use Rattle.ca_meaning.proofs.Rows.{row_channel, settle_does}
use Rattle.ca_scene.specs.declared.scene.Scene.{Scene}
use Rattle.ca_scene.specs.Admits.{admits}
use Rattle.ca_scene.specs.Admitted.{Woken}
use Rattle.ca_scene.specs.Scene.{scene_state, task_at, tasks_of}
use Rattle.ca_scene.proofs.Soundly.{admitted}
use Rattle.ca_replay.specs.Changes.{mapped_at}
use Rattle.ca_replay.specs.Goings.{TaskGoesOn, SameButTasks, StandsThere}
use Rattle.ca_replay.specs.Moves.{HaveHomes, with_wait, without_wait, with_tasks}
use Rattle.ca_replay.specs.Replies.{GoesReplied}
use Rattle.ca_replay.specs.Rooms.{rooms_kept, by_channel, done_by, served_by}
use Rattle.ca_replay.proofs.JoinedWaits.{op_homes}
use Rattle.ca_replay.proofs.Kept.{stands_at}
use Rattle.ca_replay.proofs.Served.{done_so, served_so, put_there, changed_state}

not_done : (a : Tree) (d : Channel) → completes a d ≡ not_ready → ⊥
not_done a d e = absurd cc

not_met : (h : Handler) (v : Tree) → meets h v ≡ not_ready → ⊥
not_met h v e = absurd cc

-- a branch is done at once
module _ (s : Scene) (t k : ℕ) (b : BranchView) (a : Tree) (e : admits (scene_state s) (done t k b a) ≡ true) where
  pub done_stands : StandsThere (task_at s t)
  done_stands = let x = admitted (scene_state s) (done t k b a) e in stands_at s t x.1 x.0 x.3

  pub done_step : (program : ProgramView) (m n : Scene) → m ≡ record s { rooms = m.rooms } → ((q : ℕ) → rooms_kept m.rooms q ≡ mapped_at (rooms_kept s.rooms) (port_of b) (by_channel (done_by b)) q) → SameButTasks m n → GoesReplied program (tasks_of m) t (port_of b) a (tasks_of n)
      → Step program (scene_state s) (done t k b a) (scene_state n)
  done_step program m n same is went goes =
      let x = admitted (scene_state s) (done t k b a) e in
      let r = row_channel ((scene_state s).channels (port_of b)) (front Side.Take (port_of b) (scene_state s).waits) (front Side.Put (port_of b) (scene_state s).waits) b (completes a x.2) x.5 (not_done a x.2) in (
        x.0,
        x.1,
        tasks_of n,
        x.2,
        x.3,
        x.4,
        x.5,
        subst (λ (z : State). GoesReplied program z.tasks t (port_of b) a (tasks_of n)) (changed_state s m (port_of b) (done_by b) same is) goes x.0 x.3.0,
        ap scene_state went
            ∙ ap (λ (z : State). record z { tasks = tasks_of n }) (changed_state s m (port_of b) (done_by b) same is)
            ∙ ap (λ (c : Channels). record (scene_state s) { tasks = tasks_of n; channels = c }) (put_there (scene_state s).channels (port_of b) (done_by b) r.0 x.2 r.1 (done_so r.0 x.2 (front Side.Take (port_of b) (scene_state s).waits) (front Side.Put (port_of b) (scene_state s).waits) b a r.2)),
      )

-- a put waits without its task
module _ (s : Scene) (t w p : ℕ) (v : Tree) (e : admits (scene_state s) (posted t w p v) ≡ true) where
  pub post_stands : StandsThere (task_at s t)
  post_stands = let x = admitted (scene_state s) (posted t w p v) e in stands_at s t (posting (port p) v) x.0 x.1

  pub post_new : is_among w (scene_state s).used ≡ false
  post_new = (admitted (scene_state s) (posted t w p v) e).3

  pub post_homes : HaveHomes (scene_state s).channels (put_of p v ∷ [])
  post_homes = op_homes (scene_state s) (posting (port p) v) (admitted (scene_state s) (posted t w p v) e).1.3

  pub post_step : (program : ProgramView) (m n : Scene) → scene_state m ≡ with_wait w None (put_of p v ∷ []) (scene_state s) → SameButTasks m n → TaskGoesOn program (tasks_of m) t (bool true) (tasks_of n) → Step program (scene_state s) (posted t w p v) (scene_state n)
  post_step program m n state went goes =
      let x = admitted (scene_state s) (posted t w p v) e in (
        x.0,
        tasks_of n,
        x.1,
        x.2,
        x.3,
        subst (λ (f : Tasks). TaskGoesOn program f t (bool true) (tasks_of n)) (ap (λ (z : State). z.tasks) state) goes x.0 x.1.0,
        ap scene_state went ∙ ap (λ (z : State). record z { tasks = tasks_of n }) state,
      )

-- a branch meets a wait, which is completed
module _ (s : Scene) (t k : ℕ) (side : Side) (p : ℕ) (v : Tree) (w o : ℕ) (e : admits (scene_state s) (met t k side p v w o) ≡ true) where
  pub meet_stands : StandsThere (task_at s t)
  meet_stands = let x = admitted (scene_state s) (met t k side p v w o) e in stands_at s t x.1 x.0 x.4

  pub meet_live : (m : Scene) → SameButTasks s m → is_live w (scene_state m).waits ≡ true
  meet_live m went =
      let x = admitted (scene_state s) (met t k side p v w o) e in
      let r = row_channel ((scene_state s).channels (port_of x.2)) (front Side.Take (port_of x.2) (scene_state s).waits) (front Side.Put (port_of x.2) (scene_state s).waits) x.2 (meets x.3 v) x.8 (not_met x.3 v) in
      ap (λ (z : Scene). is_live w (scene_state z).waits) went ∙ ap (λ (i : ℕ). is_live i (scene_state s).waits) (sym x.9) ∙ met_live r.0 x.2 (scene_state s).waits x.3 v r.2

  pub meet_woken : (program : ProgramView) (m : Scene) (a : Tree) → SameButTasks s m → GoesReplied program (tasks_of s) t p a (tasks_of m) → Woken (scene_state m) w (owner_of w (scene_state m).waits)
  meet_woken program m a went goes =
      let x = admitted (scene_state s) (met t k side p v w o) e in
      subst (λ (z : Scene). Woken (scene_state m) w (owner_of w (scene_state z).waits)) (sym went) (by x.0 x.4.0 x.4.1 (owner_of w (scene_state s).waits) x.11) where
        by : (x : Task) → tasks_of s t ≡ Some x → x.mode ≡ running → (q : Option ℕ) → Woken (scene_state s) w q → Woken (scene_state m) w q
        by x at r None z = tt
        by x at r (Some i) z = let g = goes x at in (z.0, ap (λ (f : Tasks). f i) g.2 ∙ waiters_kept (scene_state s) t x (runs x.result g.0) at r i w z.0 z.1 z.2, z.2)

  pub meet_step : (program : ProgramView) (m n : Scene) → SameButTasks s m → GoesReplied program (tasks_of s) t p (told side v) (tasks_of m) → Wakes program (owner_of w (scene_state m).waits) (tasks_of m) w p (told (other_side side) v) (tasks_of n)
      → scene_state n ≡ with_tasks (tasks_of n) (without_wait w (scene_state m)) → Step program (scene_state s) (met t k side p v w o) (scene_state n)
  meet_step program m n went goes wakes state =
      let x = admitted (scene_state s) (met t k side p v w o) e in (
        x.0,
        x.1,
        x.2,
        x.3,
        tasks_of m,
        tasks_of n,
        x.4,
        x.5,
        x.6,
        x.7,
        x.8,
        x.9,
        x.10,
        goes x.0 x.4.0,
        subst (λ (z : Scene). Wakes program (owner_of w (scene_state z).waits) (tasks_of m) w p (told (other_side side) v) (tasks_of n)) went wakes,
        state ∙ ap (λ (z : Scene). with_tasks (tasks_of n) (without_wait w (scene_state z))) went,
      )

-- a channel serves a wait, which is completed
module _ (s : Scene) (w k : ℕ) (side : Side) (p : ℕ) (v : Tree) (e : admits (scene_state s) (settled w k side p v) ≡ true) where
  pub settle_live : (m : Scene) → m ≡ record s { rooms = m.rooms } → is_live w (scene_state m).waits ≡ true
  settle_live m same =
      let x = admitted (scene_state s) (settled w k side p v) e in
      ap (λ (z : Scene). is_live w (scene_state z).waits) same ∙ ap (λ (i : ℕ). is_live i (scene_state s).waits) (sym x.5)
      ∙ settled_live x.0 p (scene_state s).waits side x.2 v x.1 (settle_does x.0 (front Side.Take p (scene_state s).waits) (front Side.Put p (scene_state s).waits) side x.2 v x.1 x.4)

  pub settle_woken : (m : Scene) → m ≡ record s { rooms = m.rooms } → Woken (scene_state m) w (owner_of w (scene_state m).waits)
  settle_woken m same = subst (λ (z : Scene). Woken (scene_state z) w (owner_of w (scene_state z).waits)) (sym same) (by (owner_of w (scene_state s).waits) (admitted (scene_state s) (settled w k side p v) e).7) where
    by : (q : Option ℕ) → Woken (scene_state s) w q → Woken (scene_state (record s { rooms = m.rooms })) w q
    by None z = tt
    by (Some i) z = z

  pub settle_step : (program : ProgramView) (m n : Scene) → m ≡ record s { rooms = m.rooms } → ((q : ℕ) → rooms_kept m.rooms q ≡ mapped_at (rooms_kept s.rooms) p (by_channel (served_by side v)) q)
      → Wakes program (owner_of w (scene_state m).waits) (tasks_of m) w p (told side v) (tasks_of n) → scene_state n ≡ with_tasks (tasks_of n) (without_wait w (scene_state m)) → Step program (scene_state s) (settled w k side p v) (scene_state n)
  settle_step program m n same is wakes state =
      let x = admitted (scene_state s) (settled w k side p v) e in (
        x.0,
        x.1,
        x.2,
        tasks_of n,
        x.3,
        x.4,
        x.5,
        x.6,
        subst (λ (z : State). Wakes program (owner_of w z.waits) z.tasks w p (told side v) (tasks_of n)) (changed_state s m p (served_by side v) same is) wakes,
        state
            ∙ ap (λ (z : State). with_tasks (tasks_of n) (without_wait w z)) (changed_state s m p (served_by side v) same is)
            ∙ ap (λ (c : Channels). record (scene_state s) { tasks = tasks_of n; channels = c; waits = without w (scene_state s).waits })
            (put_there (scene_state s).channels p (served_by side v) x.0 x.1 x.3 (served_so x.0 x.1 (front Side.Take p (scene_state s).waits) (front Side.Put p (scene_state s).waits) side x.2 v x.4)),
      )
