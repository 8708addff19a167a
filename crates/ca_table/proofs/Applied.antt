-- A plan's event that was applied to what a worker holds, as its law speaks of the parts of a run.
use Rattle.std.proofs.Common.{◌≡◌, ◌∙◌, ℕ, List, [], ◌∷◌, ◌++◌, refl, sym, ap, subst, Bool, true, false, cond, Option, Some, None, option_map, eqb, eq-eqb, ne_eqb, is_some}
use Rattle.ca_value.specs.Tree.{Tree}
use Rattle.ca_term.specs.Operation.{OpView, SeedView, spawning}
use Rattle.ca_term.specs.Program.{ProgramView}
use Rattle.ca_meaning.specs.Body.{At}
use Rattle.ca_meaning.specs.ChannelSteps.{other_side}
use Rattle.ca_meaning.specs.Registry.{Registry}
use Rattle.ca_meaning.specs.Wait.{port_of, side_of, told}
use Rattle.ca_commit.specs.Agents.{TaskAgent, starts_of}
use Rattle.ca_commit.specs.Applying.{HasParts, ReadyBy, RunsBy, number_of}
use Rattle.ca_commit.specs.Contents.{Kept, LaneView, Parts, TimersPart, at_key, home, whole}
use Rattle.ca_commit.specs.Listing.{listed}
use Rattle.ca_commit.specs.Listings.{parts}
use Rattle.ca_commit.specs.Moves.{Becomes, Stays}
use Rattle.ca_commit.specs.Numbers.{number_of_bank}
use Rattle.ca_commit.specs.PlanMoves.{HasPartsIn, IsApplied, OthersStay, ReadyTo, RunsOn, StartsIn, TimesTo}
use Rattle.ca_commit.specs.Planning.{Planned, to_close, to_default, to_do, to_look, to_make, to_meet, to_park, to_post, to_print, to_prune, to_refuse, to_register, to_spawn}
use Rattle.ca_commit.specs.Showing.{bank_in, channels_held, registries_held, registries_in, waits_held}
use Rattle.ca_commit.specs.Tasks.{agent_of, task_view, tasks_in}
use Rattle.ca_commit.specs.Waking.{WakesBy, passing, ready_in}
use Rattle.ca_commit.specs.declared.held.Held.{Held}
use Rattle.ca_commit.specs.declared.held.HeldBank.{HeldBank}
use Rattle.ca_commit.specs.declared.task.Task.{Task}
use Rattle.ca_table.specs.Bearing.{parts_held}
use Rattle.ca_table.specs.Committing.{IsDone, IsPlanDue}

pub is_there : {X : Type 0} (o : Option X) → is_some o ≡ true → (x : X) × (o ≡ Some x)
is_there None e = absurd (let z : false ≡ true = e in cc)
is_there (Some x) e = (x, refl)

-- what is told of a worker's own part
pub own : {Y : Type 0} (w : ℕ) (o : Option Y) → cond (eqb w w) o None ≡ o
own w o = ap (λ b. cond b o None) (eq-eqb w w refl)

pub other_none : {Y : Type 0} (w i : ℕ) (o : Option Y) → (i ≡ w → ⊥) → cond (eqb w i) o None ≡ None
other_none w i o ne = ap (λ b. cond b o None) (ne_eqb w i (λ e. ne (sym e)))

-- what holds of two holds of both as the worker's own
pub own_two : {Y : Type 0} (w : ℕ) (P : Option Y → Option Y → Type 0) (o z : Option Y) → P o z → P (cond (eqb w w) o None) (cond (eqb w w) z None)
own_two w P o z p = subst (λ (s : Bool). P (cond s o None) (cond s z None)) (sym (eq-eqb w w refl)) p

module _ {A : Type 0} (w : ℕ) (lane : Option (LaneView (TaskAgent A))) (timers : Option TimersPart) (held : Held A) where
  abbrev old : Parts (TaskAgent A)
  old = parts_held w lane timers held

  pub own_ready : is_some held.ready ≡ true → (q : List (ℕ × TaskAgent A)) × (old.ready w ≡ Some q)
  own_ready e = let r = is_there held.ready e in (tasks_in r.0, own w (ready_in held.ready) ∙ ap (option_map tasks_in) r.1)

  pub registries_there : (i : ℕ) → is_some (channels_held held.banks i) ≡ true → is_some (registries_held held.banks i) ≡ true
  registries_there i = by (listed number_of_bank (parts held.banks) i) where
    by : (o : Option HeldBank) → is_some (option_map bank_in o) ≡ true → is_some (option_map registries_in o) ≡ true
    by None e = e
    by (Some x) e = refl

  none_at : {Y : Type 0} (m : ℕ → Option (ℕ → Option Y)) (p : ℕ) (f : ℕ → Option Y) → m (home p) ≡ Some f → whole m p ≡ None → f p ≡ None
  none_at m p f e none = sym (ap (λ o. at_key o p) e) ∙ none

  has_new : (p : ℕ) → is_some (channels_held held.banks (home p)) ≡ true → whole (channels_held held.banks) p ≡ None → whole (registries_held held.banks) p ≡ None
      → (f : ℕ → Option Kept) × (g : ℕ → Option Registry) × (old.bank (home p) ≡ Some f) × (f p ≡ None) × (old.registry (home p) ≡ Some g) × (g p ≡ None)
  has_new p e no_channel no_registry =
      let a = is_there (channels_held held.banks (home p)) e in
      let b = is_there (registries_held held.banks (home p)) (registries_there (home p) e) in
      (a.0, b.0, a.1, none_at (channels_held held.banks) p a.0 a.1 no_channel, b.1, none_at (registries_held held.banks) p b.0 b.1 no_registry)

  pub has_parts_in : (q : Planned) → HasParts held q → (whole (channels_held held.banks) held.new_port ≡ None) × (whole (registries_held held.banks) held.new_port ≡ None) → HasPartsIn w held.new_port held.new_wait q old
  has_parts_in (to_meet k b alts wait o) has new = own_ready has
  has_parts_in (to_park bs) has new = is_there (waits_held held.shards (home held.new_wait)) has
  has_parts_in (to_post bs) has new = is_there (waits_held held.shards (home held.new_wait)) has
  has_parts_in (to_make what) has new = has_new held.new_port has.0 new.0 new.1
  has_parts_in (to_spawn kind r) has new = own_ready has
  has_parts_in (to_do k b alts) has new = tt
  has_parts_in (to_default v) has new = tt
  has_parts_in (to_close p) has new = tt
  has_parts_in (to_register name args) has new = tt
  has_parts_in (to_print line) has new = tt
  has_parts_in (to_look v) has new = tt
  has_parts_in (to_prune p side i) has new = tt
  has_parts_in (to_refuse f) has new = tt

module _ {A : Type 0} (gives : A → Tree → A → Type 0) (w : ℕ) (lane : Option (LaneView (TaskAgent A))) (timers : Option TimersPart) (held : Held A) (task : Task A) where
  abbrev Runs : Planned → Option (Task A) → Type 0
  Runs q o = RunsOn gives task.number held.new_port (parts_held w lane timers held) q (agent_of task) (option_map task_view o)

  abbrev with_number : (c : Task A) → c.number ≡ task.number → option_map task_view (Some c) ≡ Some (task.number, agent_of c)
  with_number c e = ap (λ (k : ℕ). Some (k, agent_of c)) e

  pub runs_on : (q : Planned) (o : Option (Task A)) → RunsBy gives held task q o → Runs q o
  runs_on (to_park bs) o e = ap (option_map task_view) e
  runs_on (to_do k b alts) None e = absurd e
  runs_on (to_do k b alts) (Some c) e = (agent_of c, with_number c e.0, e.1)
  runs_on (to_meet k b alts v o) None e = absurd e
  runs_on (to_meet k b alts v o) (Some c) e = (agent_of c, with_number c e.0, e.1)
  runs_on (to_post bs) None e = absurd e
  runs_on (to_post bs) (Some c) e = (agent_of c, with_number c e.0, e.1)
  runs_on (to_default v) None e = absurd e
  runs_on (to_default v) (Some c) e = (agent_of c, with_number c e.0, e.1)
  runs_on (to_make what) None e = absurd e
  runs_on (to_make what) (Some c) e = (agent_of c, with_number c e.0, e.1)
  runs_on (to_spawn kind r) None e = absurd e
  runs_on (to_spawn kind r) (Some c) e = (agent_of c, with_number c e.0, e.1)
  runs_on (to_close p) None e = absurd e
  runs_on (to_close p) (Some c) e = (agent_of c, with_number c e.0, e.1)
  runs_on (to_register name args) None e = absurd e
  runs_on (to_register name args) (Some c) e = (agent_of c, with_number c e.0, e.1)
  runs_on (to_print line) None e = absurd e
  runs_on (to_print line) (Some c) e = (agent_of c, with_number c e.0, e.1)
  runs_on (to_look v) None e = absurd e
  runs_on (to_look v) (Some c) e = (agent_of c, with_number c e.0, e.1)
  runs_on (to_prune p side i) None e = absurd e
  runs_on (to_prune p side i) (Some c) e = (agent_of c, with_number c e.0, e.1)
  runs_on (to_refuse f) None e = absurd e
  runs_on (to_refuse f) (Some c) e = (agent_of c, with_number c e.0, e.1)

module _ {A : Type 0} (place : A → At) (gives : A → Tree → A → Type 0) (starts : ProgramView → SeedView → A → Type 0) (w : ℕ) (lane lane2 : Option (LaneView (TaskAgent A))) (timers timers2 : Option TimersPart) (held held2 : Held A) (spawned : Option (Task A)) where
  abbrev before : Parts (TaskAgent A)
  before = parts_held w lane timers held

  abbrev after : Parts (TaskAgent A)
  after = parts_held w lane2 timers2 held2

  abbrev Queue : Type 0
  Queue = Option (List (ℕ × TaskAgent A))

  others_stay : OthersStay w before after
  others_stay i ne = other_none w i (ready_in held2.ready) ne ∙ sym (other_none w i (ready_in held.ready) ne)

  stay : ready_in held2.ready ≡ ready_in held.ready → Stays before.ready after.ready
  stay e i = ap (λ o. cond (eqb w i) o None) e

  both_own : (P : Queue → Queue → Type 0) → P (ready_in held.ready) (ready_in held2.ready) → P (before.ready w) (after.ready w)
  both_own P p = own_two w P (ready_in held.ready) (ready_in held2.ready) p

  abbrev StartsAs : ProgramView → OpView → Task A → Type 0
  StartsAs program op s = (seed : SeedView) → op ≡ spawning seed → starts_of starts program seed (agent_of s)

  abbrev numbered : Queue → ℕ → TaskAgent A → Queue
  numbered o u a = option_map (λ q. q ++ (u, a) ∷ []) o

  starts_in : (program : ProgramView) (op : OpView) (s : Task A) → spawned ≡ Some s → ready_in held2.ready ≡ numbered (ready_in held.ready) s.number (agent_of s) → StartsAs program op s → StartsIn place gives starts w (number_of spawned) program op before after
  starts_in program op s e last st = (agent_of s, st, both_own (λ x y. y ≡ numbered x (number_of spawned) (agent_of s)) (subst (λ (k : ℕ). ready_in held2.ready ≡ numbered (ready_in held.ready) k (agent_of s)) (sym (ap number_of e)) last))

  pub ready_to : (program : ProgramView) (op : OpView) (q : Planned) → ReadyBy place gives held held2 spawned q → ((s : Task A) → spawned ≡ Some s → StartsAs program op s) → ReadyTo place gives starts w (number_of spawned) program op q before after
  ready_to program op (to_meet k b alts wait o) e st = (both_own (λ x y. WakesBy place gives (whole (waits_held held.shards) wait) (port_of b) (told (other_side (side_of b)) (passing (whole (channels_held held.banks) (port_of b)) b)) x y) e, others_stay)
  ready_to program op (to_spawn kind r) e st = (starts_in program op e.0 e.1 e.2 (st e.0 e.1), others_stay)
  ready_to program op (to_do k b alts) e st = stay e
  ready_to program op (to_park bs) e st = stay e
  ready_to program op (to_post bs) e st = stay e
  ready_to program op (to_default v) e st = stay e
  ready_to program op (to_make what) e st = stay e
  ready_to program op (to_close p) e st = stay e
  ready_to program op (to_register name args) e st = stay e
  ready_to program op (to_print line) e st = stay e
  ready_to program op (to_look v) e st = stay e
  ready_to program op (to_prune p side i) e st = stay e
  ready_to program op (to_refuse f) e st = stay e

-- a worker's lane alone goes on
pub lane_goes : {L : Type 0} (w : ℕ) (l l2 : L) → Becomes (λ v. cond (eqb w v) (Some l) None) (λ v. cond (eqb w v) (Some l2) None) w l l2
lane_goes w l l2 = record { was = own w (Some l); is = own w (Some l2); others = λ j ne. other_none w j (Some l2) ne ∙ sym (other_none w j (Some l) ne) }

module _ {A : Type 0} (place : A → At) (advances : ProgramView → A → A → Type 0) (gives : A → Tree → A → Type 0) (starts : ProgramView → SeedView → A → Type 0)
    (w n : ℕ) (q : Planned) (lane lane2 : LaneView (TaskAgent A)) (timers timers2 : Option TimersPart) (held held2 : Held A) (task : Task A) (spawned running : Option (Task A)) where
  pub applied : IsPlanDue place advances gives starts w n q lane held task spawned → IsDone place advances gives starts q lane lane2 held held2 task spawned running → TimesTo held.new_port held.moment q timers timers2
      → IsApplied place advances gives starts w n task.number (number_of spawned) held.new_port held.new_wait held.moment q (parts_held w (Some lane) timers held) (parts_held w (Some lane2) timers2 held2)
  applied due did times = record {
    op = due.plan_for.0.op;
    at = due.plan_for.0.place;
    start = due.plan_for.2;
    is_plan = sym due.plan_for.3;
    is_event = due.is_event;
    placed = due.placed;
    stands = record { lane = lane; lane2 = lane2; agent = due.agent; agent1 = agent_of task; lanes = lane_goes w lane lane2; task = due.has_task; advanced = due.advanced; stood = due.plan_for.1; program_stays = did.program; since = did.since };
    task_is = λ kind r e. let s = subst (ReadyBy place gives held held2 spawned) e did.ready in ap number_of s.1 ∙ due.new_task s.0 s.1;
    port_is = due.port_is;
    wait_is = due.wait_is;
    counts = did.counts;
    has_parts = has_parts_in w (Some lane) timers held q due.has_parts due.new_port;
    runs_on = subst (λ (o : Option (ℕ × TaskAgent A)). RunsOn gives task.number held.new_port (parts_held w (Some lane) timers held) q (agent_of task) o) (sym did.in_lane) (runs_on gives w (Some lane) timers held task q running did.runs);
    banks = did.channels;
    registries = did.registries;
    shards = did.waits;
    readys = ready_to place gives starts w (Some lane) (Some lane2) timers timers2 held held2 spawned lane.program due.plan_for.0.op q did.ready (λ s e seed op. due.started s e due.plan_for.0 due.plan_for.1 seed op);
    timers = times;
  }
