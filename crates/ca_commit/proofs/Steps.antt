-- What the events of tasks have in common: how a task stands and goes on.
use Rattle.std.proofs.Common.{◌≡◌, ℕ, List, [], ◌∷◌, ◌++◌, refl, sym, ap, ◌∙◌, subst, Option, Some, None, eqb}
use Rattle.std.specs.Map.{update}
use Rattle.ca_value.specs.Tree.{Tree}
use Rattle.ca_term.specs.declared.place.Place.{Place}
use Rattle.ca_term.specs.Program.{ProgramView}
use Rattle.ca_term.specs.Operation.{OpView}
use Rattle.ca_meaning.specs.Body.{At, at_op}
use Rattle.ca_meaning.specs.Wait.{owner_of, without}
use Rattle.ca_meaning.specs.Task.{TaskBody, body_at, body_fill, BodyRest, body_reply, reply_at, reply_to}
use Rattle.ca_meaning.specs.State.{State, Task, Tasks, running, runs}
use Rattle.ca_meaning.specs.Going.{Wakes}
use Rattle.ca_commit.specs.Contents.{LaneView, Parked, Parts, nobody, owner, whole}
use Rattle.ca_commit.specs.Moves.{Answers, Stood, WakesIn}
use Rattle.ca_commit.specs.Seated.{Seated}
use Rattle.ca_commit.specs.Stands.{Stands, task_count}
use Rattle.ca_commit.proofs.AgentLaws.{GoesOn, TakesAnswers}
use Rattle.ca_commit.proofs.Laid.{IsPart, laid, laid_becomes, untouched}
use Rattle.ca_commit.proofs.Numbers.{From, from_same, from_there}
use Rattle.ca_commit.proofs.Seats.{goes_on, unowned, woken}

module _ {A : Type 0} (place : A → At) (stands : ProgramView → A → Option ℕ → TaskBody → Type 0) (program : ProgramView) (n : ℕ) where
  abbrev pub StandsFor : Parts A → State → Type 0
  StandsFor now s = Stands place stands program n now s

  module _ (advances : ProgramView → A → A → Type 0) (goes_on_law : GoesOn stands place advances) where
    -- the task in the lane, after one `advance`
    abbrev pub StoodTask : Tasks → ℕ → A → At → Type 0
    StoodTask tasks t a at = (x : Task) × (tasks t ≡ Some x) × (x.mode ≡ running) × stands program a x.result x.body × (place a ≡ body_at x.body) × (body_at x.body ≡ at)

    pub stood : (now old new : Parts A) (s : State) (w t : ℕ) (at : At) → StandsFor now s → IsPart old now → (a : Stood place advances w t at old new) → StoodTask s.tasks t a.agent1 at
    stood now old new s w t at st part a = let lane_is = part.lanes w a.lane a.lanes.was in let sits = (st.seated.laned w a.lane t a.agent lane_is a.task).1 in
        let g = goes_on_law program a.agent a.agent1 sits.0.result sits.0.body sits.2 (subst (λ p. advances p a.agent a.agent1) (st.lanes w a.lane lane_is).0 a.advanced) in
        (sits.0, sits.1.0, sits.1.1, g.0, g.1, sym g.1 ∙ a.stood)

    module _ (gives : A → Tree → A → Type 0) (answers_law : TakesAnswers stands place gives) where
      -- it goes on with its answer
      abbrev pub WentTask : Tasks → ℕ → OpView → Place → Tree → A → Type 0
      WentTask tasks t op at v a = (x : Task) × (tasks t ≡ Some x) × (x.mode ≡ running) × (body_at x.body ≡ at_op (record { op = op; place = at })) × ((d : TaskBody) × BodyRest program (body_fill v x.body) d × stands program a x.result d)

      pub went : (now old new : Parts A) (s : State) (w t : ℕ) (op : OpView) (v : Tree) → StandsFor now s → IsPart old now → (a : Answers place advances gives w t op v old new) → WentTask s.tasks t op a.at v a.agent2
      went now old new s w t op v st part a = let z = stood now old new s w t (at_op (record { op = op; place = a.at })) st part a.stands in
          (z.0, z.1, z.2, z.5, answers_law program a.stands.agent1 a.agent2 z.0.result z.0.body (record { op = op; place = a.at }) v z.3 z.4 a.stands.stood a.given)

      -- the lane's task goes on, the ready parts stay as they were
      pub seated_on : (now old new : Parts A) (s : State) (w t : ℕ) (op : OpView) (v : Tree) → StandsFor now s → IsPart old now → (a : Answers place advances gives w t op v old new) → (g : WentTask s.tasks t op a.at v a.agent2)
          → Seated place (stands program) (update eqb now.lane w (Some a.stands.lane2)) now.ready (whole now.shard) (update eqb s.tasks t (Some (runs g.0.result g.4.0))) s.waits
      seated_on now old new s w t op v st part a g = goes_on place (stands program) now.lane now.ready (whole now.shard) s.tasks s.waits w t a.stands.lane a.stands.lane2 a.stands.agent a.agent2 g.0.result g.4.0 st.seated (part.lanes w a.stands.lane a.stands.lanes.was) a.stands.task a.task2 g.4.2

  module _ (wakes : A → Tree → A → Type 0) (wakes_law : TakesAnswers stands place wakes) where
    -- the ready parts after whoever waited was woken
    abbrev pub ready_after : (now old new : Parts A) (r p : ℕ) (y : Parked A) (v : Tree) → WakesIn place wakes old new r p y v → ℕ → Option (List (ℕ × A))
    ready_after now old new r p nobody v x = now.ready
    ready_after now old new r p (owner u a) v x = update eqb now.ready r (Some (x.1 ++ (u, x.0) ∷ []))

    pub ready_is : (now old new : Parts A) (r p : ℕ) (y : Parked A) (v : Tree) → IsPart old now → (x : WakesIn place wakes old new r p y v) → laid now.ready new.ready ≡ ready_after now old new r p y v x
    ready_is now old new r p nobody v part x = untouched now.ready old.ready new.ready part.readys x
    ready_is now old new r p (owner u a) v part x = laid_becomes now.ready old.ready new.ready r x.1 (x.1 ++ (u, x.0) ∷ []) part.readys x.3

    -- whoever waited goes on, its task being another one's than before
    pub wakes_up : (n2 : ℕ) (lane2 : ℕ → Option (LaneView A)) (now old new : Parts A) (s : State) (r wait p : ℕ) (v : Tree) (tasks : Tasks) → IsPart old now → (y : Parked A) → whole now.shard wait ≡ Some y → (x : WakesIn place wakes old new r p y v)
        → Seated place (stands program) lane2 now.ready (whole now.shard) tasks s.waits
        → (after : Tasks) × Wakes program (owner_of wait s.waits) tasks wait p v after × Seated place (stands program) lane2 (ready_after now old new r p y v x) (update eqb (whole now.shard) wait None) after (without wait s.waits) × From n2 task_count lane2 tasks after
    wakes_up n2 lane2 now old new s r wait p v tasks part nobody is x h = (
      tasks,
      subst (λ (o : Option ℕ). Wakes program o tasks wait p v tasks) (sym (h.nobodies wait is)) refl,
      unowned place (stands program) lane2 now.ready (whole now.shard) tasks s.waits wait h,
      from_same n2 task_count lane2 tasks,
    )
    wakes_up n2 lane2 now old new s r wait p v tasks part (owner u a) is x h = let o = h.owners wait u a is in let y = o.1.0 in let ps = o.1.3 in
        let g = wakes_law program a x.0 y.result y.body ps.0 (reply_at (place a) p v) o.1.2 (ps.1 ∙ sym ps.2) ps.1 x.2 in let after : Tasks = update eqb tasks u (Some (runs y.result g.0)) in (
          after,
          subst (λ (o : Option ℕ). Wakes program o tasks wait p v after) (sym o.0) (y, o.1.1.0, o.1.1.1, (g.0, subst (λ (z : At). BodyRest program (body_fill (reply_at z p v) y.body) g.0) (ps.1 ∙ sym ps.2) g.1, refl)),
          woken place (stands program) lane2 now.ready (whole now.shard) tasks s.waits wait r u a x.0 y.result g.0 x.1 h is (part.readys r x.1 x.3.was) g.2,
          from_there n2 task_count lane2 tasks u y (runs y.result g.0) o.1.1.0,
        )

-- the answer, as the step says it
pub replied : (program : ProgramView) (x : Task) (op : OpView) (at : Place) (p : ℕ) (a : Tree) (d : TaskBody) → body_at x.body ≡ at_op (record { op = op; place = at }) → BodyRest program (body_fill (reply_to op p a) x.body) d → BodyRest program (body_fill (body_reply x.body p a) x.body) d
replied program x op at p a d e r = subst (λ (v : Tree). BodyRest program (body_fill v x.body) d) (sym (ap (λ z. reply_at z p a) e)) r
