-- The end of a task, by a value or by a fault, and a tick of the clock are steps that are followed.
use Rattle.std.proofs.Common.{⊎_elim, ◌≡◌, ℕ, ◌<◌, ◌≤◌, List, [], ◌∷◌, refl, sym, ap, ◌∙◌, subst, Bool, true, false, cond, Option, Some, None, option_map, eqb}
use Rattle.std.specs.Prelude.{◌≢◌}
use Rattle.std.specs.Map.{update}
use Rattle.ca_value.specs.Tree.{Tree}
use Rattle.ca_value.specs.declared.value.PortId.{PortId}
use Rattle.ca_term.specs.declared.event.Ending.TheVariants.{Ended, Faulted}
use Rattle.ca_term.specs.declared.fault.Fault.{Fault}
use Rattle.ca_term.specs.declared.place.Place.{Place}
use Rattle.ca_term.specs.Event.{over as is_end, port_number, ticked}
use Rattle.ca_term.specs.Operation.{OpView}
use Rattle.ca_term.specs.Program.{ProgramView}
use Rattle.ca_meaning.specs.Body.{At, at_op, ended, faulted}
use Rattle.ca_meaning.specs.Choice.{branches_of}
use Rattle.ca_meaning.specs.Going.{Runs}
use Rattle.ca_meaning.specs.Refusal.{fault_at, refusal}
use Rattle.ca_meaning.specs.State.{Channels, State, Task, due, open_after, over, shut_all, shut_result}
use Rattle.ca_meaning.specs.Steps.{Step}
use Rattle.ca_meaning.specs.Task.{TaskBody}
use Rattle.ca_meaning.specs.TaskSteps.{moments}
use Rattle.ca_meaning.specs.Wait.{Wait, is_among}
use Rattle.ca_commit.specs.Agents.{TaskAgent, place_of, stands_of}
use Rattle.ca_commit.specs.Contents.{Kept, alive, at_key, home, whole}
use Rattle.ca_commit.specs.Deciding.{IsCrowded, AreOperandsRefused, PlanTells}
use Rattle.ca_commit.specs.Holds.{KeepsChannels, shut_in, shut_kept}
use Rattle.ca_commit.specs.NewPort.{Times}
use Rattle.ca_commit.specs.Planning.{state_of, to_refuse}
use Rattle.ca_commit.specs.Running.{Placed}
use Rattle.ca_commit.specs.Ticking.{closed_all, closed_result, ticked_at}
use Rattle.ca_commit.proofs.Everywhere.{closed_shuts}
use Rattle.ca_commit.proofs.Fitting.{crowd_refuses, refuses}
use Rattle.ca_commit.proofs.Laid.{IsPart, same_map}
use Rattle.ca_commit.proofs.NamesTold.{unfit_same}
use Rattle.ca_commit.proofs.Seats.{some_same}
use Rattle.ca_commit.proofs.Shown.{Shown, none_ready, shows, some_crowded}
use Rattle.ca_commit.proofs.Ticking.{shut_holds}
use Rattle.ca_follow.specs.Ending.{ticked_by, without_task}
use Rattle.ca_follow.specs.Follows.{Follows, IsAt}
use Rattle.ca_follow.specs.Has.{Has, IsAll, parts_had}
use Rattle.ca_follow.proofs.Going.{follows_by, tracks_of}
use Rattle.ca_follow.proofs.Tracked.{task_over}

-- channels that are closed one by one in their banks are closed in all of them
whole_closed : (ps : List ℕ) (m : ℕ → Option (ℕ → Option Kept)) → Placed m → whole (closed_all ps m) ≡ shut_in ps (whole m)
whole_closed ps m placed = same_map (whole (closed_all ps m)) (shut_in ps (whole m)) (λ q. ap (λ o. at_key o q) (closed_shuts ps m placed (home q)) ∙ by (m (home q)) q) where
  none : (b : Bool) → None ≡ cond b (option_map shut_kept None) None
  none true = refl
  none false = refl

  by : (o : Option (ℕ → Option Kept)) (q : ℕ) → at_key (option_map (shut_in ps) o) q ≡ cond (is_among q ps) (option_map shut_kept (at_key o q)) (at_key o q)
  by (Some g) q = refl
  by None q = none (is_among q ps)

closed_held : (ps : List ℕ) (m : ℕ → Option (ℕ → Option Kept)) (lives : ℕ → Bool) (channels : Channels) (waits : List Wait) (used : List ℕ) → Placed m → KeepsChannels (whole m) lives channels waits used → KeepsChannels (whole (closed_all ps m)) lives (shut_all ps channels) waits used
closed_held ps m lives channels waits used placed h = subst (λ (f : ℕ → Option Kept). KeepsChannels f lives (shut_all ps channels) waits used) (sym (whole_closed ps m placed)) (shut_holds ps (whole m) lives channels waits used h)

result_held : (r : Option ℕ) (m : ℕ → Option (ℕ → Option Kept)) (lives : ℕ → Bool) (channels : Channels) (waits : List Wait) (used : List ℕ) → Placed m → KeepsChannels (whole m) lives channels waits used → KeepsChannels (whole (closed_result r m)) lives (shut_result r channels) waits used
result_held None m lives channels waits used placed h = h
result_held (Some p) m lives channels waits used placed h = closed_held (p ∷ []) m lives channels waits used placed h

module _ {A : Type 0} (place : A → At) (stands : ProgramView → A → TaskBody → Type 0) (program : ProgramView) where
  abbrev task_ended : State → ℕ → Task → Option ℕ → State
  task_ended s t x r = record s { tasks = update eqb s.tasks t (Some (record x { mode = over })); channels = shut_result r s.channels }

  over_follows : (h : Has A) (s : State) (t : ℕ) (x : Task) (r : Option ℕ) → Follows place stands program h s → Runs s.tasks t x → KeepsChannels (whole (closed_result r h.bank)) (alive (whole h.shard)) (shut_result r s.channels) s.waits s.used
      → Follows place stands program (without_task h t r) (task_ended s t x r)
  over_follows h s t x r f is holds = follows_by place stands program (without_task h t r) (task_ended s t x r) holds f.registered
      (task_over (place_of place) (stands_of stands program) h.running (whole h.shard) h.known s.tasks s.waits t x (record x { mode = over }) (tracks_of place stands program h s f) is refl) f.times f.used

  pub ended_follows : (h : Has A) (s : State) (t : ℕ) (a : TaskAgent A) (v : Tree) → Follows place stands program h s → IsAt place stands program h s t a → place a.agent ≡ ended v
      → (s2 : State) × Step program s (is_end t Ended) s2 × Follows place stands program (record h { running = update eqb h.running t None }) s2
  ended_follows h s t a v f is stood = let x = is.1.0 in
      (task_ended s t x None, (x, v, is.1.1, sym is.1.3 ∙ stood, refl), over_follows h s t x None f is.1.1 f.holds)

  -- a task that stands at a fault ends by it
  fault_follows : (h : Has A) (s : State) (t : ℕ) (a : TaskAgent A) (fault : Fault) (at : Place) (r : Option PortId) → Follows place stands program h s → IsAll h → IsAt place stands program h s t a → option_map port_number r ≡ a.result
      → fault_at s (place a.agent) ≡ Some (fault, at) → (s2 : State) × Step program s (is_end t (Faulted fault at r)) s2 × Follows place stands program (without_task h t a.result) s2
  fault_follows h s t a fault at r f all is port stood = let x = is.1.0 in (
    task_ended s t x a.result,
    (x, is.1.1, ap (fault_at s) (sym is.1.3) ∙ stood, sym is.1.2.0 ∙ sym port, ap (task_ended s t x) (sym port)),
    over_follows h s t x a.result f is.1.1 (result_held a.result h.bank (alive (whole h.shard)) s.channels s.waits s.used all.bank_placed f.holds),
  )

  pub faulted_follows : (h : Has A) (s : State) (t : ℕ) (a : TaskAgent A) (fault : Fault) (at : Place) (r : Option PortId) → Follows place stands program h s → IsAll h → IsAt place stands program h s t a → option_map port_number r ≡ a.result
      → place a.agent ≡ faulted fault at → (s2 : State) × Step program s (is_end t (Faulted fault at r)) s2 × Follows place stands program (without_task h t a.result) s2
  faulted_follows h s t a fault at r f all is port stood = fault_follows h s t a fault at r f all is port (ap (fault_at s) stood)

  -- what is refused by all that the follower has is refused in the state
  refused : (h : Has A) (s : State) (op : OpView) (fault : Fault) → Follows place stands program h s → PlanTells (parts_had h) op (to_refuse fault) → refusal s op ≡ Some fault
  refused h s op fault f tells = ⊎_elim unfit crowd tells where
    shown : Shown (parts_had h) s
    shown = record { holds = f.holds; registered = f.registered }

    all : IsPart (parts_had h) (parts_had h)
    all = record { lanes = λ i x e. e; banks = λ i x e. e; shards = λ i x e. e; readys = λ i x e. e; registries = λ i x e. e; clocks = λ c e. e }

    unfit : AreOperandsRefused (parts_had h) op fault → refusal s op ≡ Some fault
    unfit e = refuses s op fault (unfit_same s (state_of (whole h.bank) (whole h.registry)) op (λ n among. (f.holds.channels_are n, f.registered n)) ∙ e)

    crowd : IsCrowded (parts_had h) op fault → refusal s op ≡ Some fault
    crowd c = crowd_refuses s op fault (c.0 s (shows (parts_had h) (parts_had h) s shown all)) (none_ready (parts_had h) (parts_had h) s (branches_of op) shown all c.2) c.1 (some_crowded (parts_had h) (parts_had h) s (branches_of op) fault shown all c.3)

  pub refused_follows : (h : Has A) (s : State) (t : ℕ) (a : TaskAgent A) (op : OpView) (fault : Fault) (at : Place) (r : Option PortId) → Follows place stands program h s → IsAll h → IsAt place stands program h s t a → option_map port_number r ≡ a.result
      → place a.agent ≡ at_op (record { op = op; place = at }) → PlanTells (parts_had h) op (to_refuse fault) → (s2 : State) × Step program s (is_end t (Faulted fault at r)) s2 × Follows place stands program (without_task h t a.result) s2
  refused_follows h s t a op fault at r f all is port stood tells =
      fault_follows h s t a fault at r f all is port (ap (fault_at s) stood ∙ ap (option_map (λ z. (z, at))) (refused h s op fault f tells))

  -- the clock reaches m, and the channels that are due are closed
  pub ticked_follows : (h : Has A) (s : State) (m : ℕ) (ports : List ℕ) (c : Times) → Follows place stands program h s → IsAll h → h.times ≡ Some c → c.now ≤ m → m < moments → due m c.deadlines ≡ ports → ports ≢ []
      → (s2 : State) × Step program s (ticked m ports) s2 × Follows place stands program (ticked_by m ports h) s2
  ticked_follows h s m ports c f all has late bound is some = let same : c ≡ record { deadlines = s.deadlines; now = s.now } = some_same c (record { deadlines = s.deadlines; now = s.now }) (sym has ∙ f.times) in
      let s2 : State = record s { channels = shut_all ports s.channels; deadlines = open_after m s.deadlines; now = m } in (
        s2,
        (subst (λ (z : Times). z.now ≤ m) same late, bound, ap (λ (z : Times). due m z.deadlines) (sym same) ∙ is, some, refl),
        follows_by place stands program (ticked_by m ports h) s2
            (closed_held ports h.bank (alive (whole h.shard)) s.channels s.waits s.used all.bank_placed f.holds) f.registered (tracks_of place stands program h s f) (ap (option_map (ticked_at m)) f.times) f.used,
      )
