-- The tasks that can go on, those that wait and those that were ever made, over an event of a state's tasks.
use Rattle.std.proofs.Common.{◌≡◌, ℕ, List, [], ◌∷◌, ◌++◌, refl, sym, ap, ◌∙◌, subst, Bool, true, false, cond, Option, Some, None, is_some, eqb, eqb-true, eq-eqb, ne_eqb}
use Rattle.std.specs.Map.{update}
use Rattle.std.proofs.lemmas.Map.{update_here, update_apart}
use mathlib.Core.Logic.{dite}
use native.Mathlib.Decide.{ℕ_discrete}
use Rattle.ca_meaning.specs.Body.{At}
use Rattle.ca_meaning.specs.Going.{Runs}
use Rattle.ca_meaning.specs.State.{Task, Tasks, over, running, runs, waiting}
use Rattle.ca_meaning.specs.Task.{TaskBody, body_at}
use Rattle.ca_meaning.specs.Wait.{Wait, is_live, owner_of, without}
use Rattle.ca_meaning.proofs.Waits.{owner_before, owner_else, owner_joined}
use Rattle.ca_commit.specs.Contents.{Parked, nobody, owner}
use Rattle.ca_commit.specs.Seated.{PausedAt, StandsAs, Waits}
use Rattle.ca_commit.proofs.Laid.{same_map}
use Rattle.ca_commit.proofs.Seats.{as_else, runs_not, some_same}
use Rattle.ca_follow.specs.Applies.{and_number}

-- a task waits on one wait
one_wait : (o : Option Task) (x y : Task) (v w : ℕ) → o ≡ Some x → x.mode ≡ waiting v → o ≡ Some y → y.mode ≡ waiting w → v ≡ w
one_wait o x y v w e m f k = let j : waiting v ≡ waiting w = sym m ∙ ap (λ (z : Task). z.mode) (some_same x y (sym e ∙ f)) ∙ k in cc

pub none_there : {X G : Type 0} (o : Option X) (x : X) → o ≡ None → o ≡ Some x → G
none_there o x e f = absurd (let k : None ≡ Some x = sym e ∙ f in cc)

-- what an entry of a map says, where the map was changed there
here : {X : Type 0} (f : ℕ → Option X) (t u : ℕ) (o p : Option X) → t ≡ u → update eqb f t o u ≡ p → o ≡ p
here f t u o p z e = sym (update_here f t o) ∙ ap (update eqb f t o) z ∙ e

-- and where it was changed elsewhere
there : {X : Type 0} (f : ℕ → Option X) (t u : ℕ) (o p : Option X) → (t ≡ u → ⊥) → update eqb f t o u ≡ p → f u ≡ p
there f t u o p ne e = sym (update_apart f t o u (λ z. ne (sym z))) ∙ e

is_here : {X : Type 0} (f : ℕ → Option X) (t u : ℕ) (o : Option X) → t ≡ u → update eqb f t o u ≡ o
is_here f t u o z = ap (update eqb f t o) (sym z) ∙ update_here f t o

is_there : {X : Type 0} (f : ℕ → Option X) (t u : ℕ) (o p : Option X) → (t ≡ u → ⊥) → f u ≡ p → update eqb f t o u ≡ p
is_there f t u o p ne e = update_apart f t o u (λ z. ne (sym z)) ∙ e

module _ {A : Type 0} (place : A → At) (stands : A → Option ℕ → TaskBody → Type 0) where
  abbrev Agents : Type 0
  Agents = ℕ → Option A

  abbrev Shards : Type 0
  Shards = ℕ → Option (Parked A)

  -- task u waits on w, and its agent has halted where its body stands
  abbrev pub IsOwner : Tasks → List Wait → ℕ → ℕ → A → Type 0
  IsOwner tasks waits w u a = (owner_of w waits ≡ Some u) × ((x : Task) × Waits tasks u w x × stands a x.result x.body × PausedAt (place a) (body_at x.body))

  -- exactly the tasks that run can go on, the owners of waits are in their shards, and each task is known
  pub record Tracks (agents : Agents) (parked : Shards) (given : ℕ → Bool) (tasks : Tasks) (waits : List Wait) : Type 0 where
    pub ready : (t : ℕ) (a : A) → agents t ≡ Some a → StandsAs stands tasks t a
    pub runs : (t : ℕ) (x : Task) → Runs tasks t x → (a : A) × (agents t ≡ Some a)
    pub owners : (w u : ℕ) (a : A) → parked w ≡ Some (owner u a) → IsOwner tasks waits w u a
    pub nobodies : (w : ℕ) → parked w ≡ Some nobody → owner_of w waits ≡ None
    pub known : (t : ℕ) → is_some (tasks t) ≡ given t

  -- maps that agree with these everywhere track the same
  pub tracks_same : (agents agents2 : Agents) (parked parked2 : Shards) (known known2 : ℕ → Bool) (tasks : Tasks) (waits : List Wait) → ((v : ℕ) → agents2 v ≡ agents v) → ((v : ℕ) → parked2 v ≡ parked v) → ((v : ℕ) → known2 v ≡ known v)
      → Tracks agents parked known tasks waits → Tracks agents2 parked2 known2 tasks waits
  tracks_same agents agents2 parked parked2 known known2 tasks waits a p k h =
      subst (λ (f : Agents). Tracks f parked2 known2 tasks waits) (sym (same_map agents2 agents a))
      (subst (λ (f : Shards). Tracks agents f known2 tasks waits) (sym (same_map parked2 parked p))
      (subst (λ (f : ℕ → Bool). Tracks agents parked f tasks waits) (sym (same_map known2 known k)) h))

  -- whoever waits isn't the task that runs
  owner_apart : (tasks : Tasks) (waits : List Wait) (t : ℕ) (x : Task) (o : Option Task) (w u : ℕ) (a : A) → Runs tasks t x → IsOwner tasks waits w u a → IsOwner (update eqb tasks t o) waits w u a
  owner_apart tasks waits t x o w u a is k = (k.0, (k.1.0, (update_apart tasks t o u (λ z. runs_not (tasks t) x k.1.0 w is.0 is.1 (ap tasks (sym z) ∙ k.1.1.0) k.1.1.1) ∙ k.1.1.0, k.1.1.1), k.1.2, k.1.3))

  -- a task that is there stays known
  still_known : (known : ℕ → Bool) (tasks : Tasks) (t : ℕ) (x y : Task) → ((u : ℕ) → is_some (tasks u) ≡ known u) → tasks t ≡ Some x → (u : ℕ) → is_some (update eqb tasks t (Some y) u) ≡ known u
  still_known known tasks t x y k is u = by (eqb t u) refl where
    by : (b : Bool) → eqb t u ≡ b → is_some (cond b (Some y) (tasks u)) ≡ known u
    by true e = sym (ap (λ (o : Option Task). is_some o) is) ∙ k t ∙ ap known (eqb-true t u e)
    by false e = k u

  -- the agent and the task of one number, at once
  ready_at : (agents : Agents) (tasks : Tasks) (t : ℕ) (a2 : A) (res : Option ℕ) (b2 : TaskBody) → ((u : ℕ) (c : A) → agents u ≡ Some c → StandsAs stands tasks u c) → stands a2 res b2
      → (u : ℕ) (c : A) → update eqb agents t (Some a2) u ≡ Some c → StandsAs stands (update eqb tasks t (Some (runs res b2))) u c
  ready_at agents tasks t a2 res b2 r st u c e = dite (ℕ_discrete t u)
      (λ z. (runs res b2, (is_here tasks t u (Some (runs res b2)) z, refl), subst (λ (d : A). stands d res b2) (some_same a2 c (here agents t u (Some a2) (Some c) z e)) st))
      (λ ne. as_else stands tasks t u c (Some (runs res b2)) ne (r u c (there agents t u (Some a2) (Some c) ne e)))

  runs_at : (agents : Agents) (tasks : Tasks) (t : ℕ) (a2 : A) (new : Task) → ((u : ℕ) (x : Task) → Runs tasks u x → (a : A) × (agents u ≡ Some a))
      → (u : ℕ) (x : Task) → Runs (update eqb tasks t (Some new)) u x → (a : A) × (update eqb agents t (Some a2) u ≡ Some a)
  runs_at agents tasks t a2 new r u x e = dite (ℕ_discrete t u)
      (λ z. (a2, is_here agents t u (Some a2) z))
      (λ ne. let k = r u x (there tasks t u (Some new) (Some x) ne e.0, e.1) in (k.0, is_there agents t u (Some a2) (Some k.0) ne k.1))

  -- task t, which runs, goes on as another agent
  pub task_goes : (agents : Agents) (parked : Shards) (known : ℕ → Bool) (tasks : Tasks) (waits : List Wait) (t : ℕ) (x : Task) (a2 : A) (res : Option ℕ) (b2 : TaskBody) → Tracks agents parked known tasks waits
      → Runs tasks t x → stands a2 res b2 → Tracks (update eqb agents t (Some a2)) parked known (update eqb tasks t (Some (runs res b2))) waits
  task_goes agents parked known tasks waits t x a2 res b2 h is st = record {
    ready = ready_at agents tasks t a2 res b2 h.ready st;
    runs = runs_at agents tasks t a2 (runs res b2) h.runs;
    owners = λ w u c e. owner_apart tasks waits t x (Some (runs res b2)) w u c is (h.owners w u c e);
    nobodies = h.nobodies;
    known = still_known known tasks t x (runs res b2) h.known is.0;
  }

  -- task t, which runs, advances, and its task stays
  pub task_advances : (agents : Agents) (parked : Shards) (known : ℕ → Bool) (tasks : Tasks) (waits : List Wait) (t : ℕ) (x : Task) (a2 : A) → Tracks agents parked known tasks waits
      → Runs tasks t x → stands a2 x.result x.body → Tracks (update eqb agents t (Some a2)) parked known tasks waits
  task_advances agents parked known tasks waits t x a2 h is st = record {
    ready = λ u c e. dite (ℕ_discrete t u)
        (λ z. subst (λ (v : ℕ). StandsAs stands tasks v c) z (x, is, subst (λ (d : A). stands d x.result x.body) (some_same a2 c (here agents t u (Some a2) (Some c) z e)) st))
        (λ ne. h.ready u c (there agents t u (Some a2) (Some c) ne e));
    runs = λ u y e. dite (ℕ_discrete t u)
        (λ z. (a2, is_here agents t u (Some a2) z))
        (λ ne. let k = h.runs u y e in (k.0, is_there agents t u (Some a2) (Some k.0) ne k.1));
    owners = h.owners;
    nobodies = h.nobodies;
    known = h.known;
  }

  -- task t runs no more; what is in the shards is told apart
  stopped : (agents : Agents) (parked parked2 : Shards) (known : ℕ → Bool) (tasks : Tasks) (waits waits2 : List Wait) (t : ℕ) (x y : Task) → Tracks agents parked known tasks waits
      → Runs tasks t x → (y.mode ≡ running → ⊥) → ((w u : ℕ) (a : A) → parked2 w ≡ Some (owner u a) → IsOwner (update eqb tasks t (Some y)) waits2 w u a) → ((w : ℕ) → parked2 w ≡ Some nobody → owner_of w waits2 ≡ None)
      → Tracks (update eqb agents t None) parked2 known (update eqb tasks t (Some y)) waits2
  stopped agents parked parked2 known tasks waits waits2 t x y h is mode own nob = record {
    ready = λ u c e. dite (ℕ_discrete t u)
        (λ z. absurd (let k : None ≡ Some c = here agents t u None (Some c) z e in cc))
        (λ ne. as_else stands tasks t u c (Some y) ne (h.ready u c (there agents t u None (Some c) ne e)));
    runs = λ u z e. dite (ℕ_discrete t u)
        (λ i. absurd (mode (ap (λ (w : Task). w.mode) (some_same y z (here tasks t u (Some y) (Some z) i e.0)) ∙ e.1)))
        (λ ne. let k = h.runs u z (there tasks t u (Some y) (Some z) ne e.0, e.1) in (k.0, is_there agents t u None (Some k.0) ne k.1));
    owners = own;
    nobodies = nob;
    known = still_known known tasks t x y h.known is.0;
  }

  -- task t, which runs, is over
  pub task_over : (agents : Agents) (parked : Shards) (known : ℕ → Bool) (tasks : Tasks) (waits : List Wait) (t : ℕ) (x y : Task) → Tracks agents parked known tasks waits
      → Runs tasks t x → y.mode ≡ over → Tracks (update eqb agents t None) parked known (update eqb tasks t (Some y)) waits
  task_over agents parked known tasks waits t x y h is mode = stopped agents parked parked known tasks waits waits t x y h is (λ m. let k : over ≡ running = sym mode ∙ m in absurd cc)
      (λ w u a e. owner_apart tasks waits t x (Some y) w u a is (h.owners w u a e)) h.nobodies

  -- task t, which runs, waits on the new wait z as y, and its agent a1 is in that wait's shard
  pub task_waits : (agents : Agents) (parked : Shards) (known : ℕ → Bool) (tasks : Tasks) (waits : List Wait) (t : ℕ) (x y : Task) (a1 : A) (z : Wait) → Tracks agents parked known tasks waits
      → Runs tasks t x → y.mode ≡ waiting z.number → stands a1 y.result y.body → PausedAt (place a1) (body_at y.body) → z.owner ≡ Some t → is_live z.number waits ≡ false
      → Tracks (update eqb agents t None) (update eqb parked z.number (Some (owner t a1))) known (update eqb tasks t (Some y)) (waits ++ z ∷ [])
  task_waits agents parked known tasks waits t x y a1 z h is mode st at own fresh =
      stopped agents parked (update eqb parked z.number (Some (owner t a1))) known tasks waits (waits ++ z ∷ []) t x y h is (λ m. let k : running ≡ waiting z.number = sym m ∙ mode in absurd cc)
      (λ w u c e. dite (ℕ_discrete z.number w)
      (λ i. let k : owner t a1 ≡ owner u c = some_same (owner t a1) (owner u c) (here parked z.number w (Some (owner t a1)) (Some (owner u c)) i e) in let tu : t ≡ u = cc in let ac : a1 ≡ c = cc in (
        ap (λ n. owner_of n (waits ++ z ∷ [])) (sym i) ∙ owner_joined waits z fresh ∙ own ∙ ap Some tu,
        (y, (is_here tasks t u (Some y) tu, mode ∙ ap waiting i), subst (λ (d : A). stands d y.result y.body) ac st, subst (λ (d : A). PausedAt (place d) (body_at y.body)) ac at),
      ))
      (λ ne. let k = owner_apart tasks waits t x (Some y) w u c is (h.owners w u c (there parked z.number w (Some (owner t a1)) (Some (owner u c)) ne e)) in
      (owner_before w waits z (ne_eqb w z.number (λ j. ne (sym j))) ∙ k.0, k.1)))
      (λ w e. dite (ℕ_discrete z.number w)
      (λ i. absurd (let k : owner t a1 ≡ nobody = some_same (owner t a1) nobody (here parked z.number w (Some (owner t a1)) (Some nobody) i e) in cc))
      (λ ne. owner_before w waits z (ne_eqb w z.number (λ j. ne (sym j))) ∙ h.nobodies w (there parked z.number w (Some (owner t a1)) (Some nobody) ne e)))

  -- a new wait that nobody waits on
  pub wait_posted : (agents : Agents) (parked : Shards) (known : ℕ → Bool) (tasks : Tasks) (waits : List Wait) (z : Wait) → Tracks agents parked known tasks waits
      → z.owner ≡ None → is_live z.number waits ≡ false → Tracks agents (update eqb parked z.number (Some nobody)) known tasks (waits ++ z ∷ [])
  wait_posted agents parked known tasks waits z h own fresh = record {
    ready = h.ready;
    runs = h.runs;
    owners = λ w u c e. dite (ℕ_discrete z.number w)
        (λ i. absurd (let k : nobody ≡ owner u c = some_same nobody (owner u c) (here parked z.number w (Some nobody) (Some (owner u c)) i e) in cc))
        (λ ne. let k = h.owners w u c (there parked z.number w (Some nobody) (Some (owner u c)) ne e) in (owner_before w waits z (ne_eqb w z.number (λ j. ne (sym j))) ∙ k.0, k.1));
    nobodies = λ w e. dite (ℕ_discrete z.number w)
        (λ i. ap (λ n. owner_of n (waits ++ z ∷ [])) (sym i) ∙ owner_joined waits z fresh ∙ own)
        (λ ne. owner_before w waits z (ne_eqb w z.number (λ j. ne (sym j))) ∙ h.nobodies w (there parked z.number w (Some nobody) (Some nobody) ne e));
    known = h.known;
  }

  -- the owner of wait w goes on, and the wait is gone
  pub owner_wakes : (agents : Agents) (parked : Shards) (known : ℕ → Bool) (tasks : Tasks) (waits : List Wait) (w u : ℕ) (a a2 : A) (res : Option ℕ) (b2 : TaskBody) → Tracks agents parked known tasks waits
      → parked w ≡ Some (owner u a) → stands a2 res b2 → Tracks (update eqb agents u (Some a2)) (update eqb parked w None) known (update eqb tasks u (Some (runs res b2))) (without w waits)
  owner_wakes agents parked known tasks waits w u a a2 res b2 h at st = record {
    ready = ready_at agents tasks u a2 res b2 h.ready st;
    runs = runs_at agents tasks u a2 new h.runs;
    owners = λ v t c e. dite (ℕ_discrete w v)
        (λ i. absurd (let k : None ≡ Some (owner t c) = here parked w v None (Some (owner t c)) i e in cc))
        (λ ne. let k = h.owners v t c (there parked w v None (Some (owner t c)) ne e) in
        (owner_else v w waits (ne_eqb w v ne) ∙ k.0, (k.1.0, (update_apart tasks u (Some new) t (λ z. ne (one_wait (tasks u) mine.1.0 k.1.0 w v mine.1.1.0 mine.1.1.1 (ap tasks (sym z) ∙ k.1.1.0) k.1.1.1)) ∙ k.1.1.0, k.1.1.1), k.1.2, k.1.3)));
    nobodies = λ v e. dite (ℕ_discrete w v)
        (λ i. absurd (let k : None ≡ Some nobody = here parked w v None (Some nobody) i e in cc))
        (λ ne. owner_else v w waits (ne_eqb w v ne) ∙ h.nobodies v (there parked w v None (Some nobody) ne e));
    known = still_known known tasks u mine.1.0 new h.known mine.1.1.0;
  } where
    new : Task
    new = runs res b2

    mine : IsOwner tasks waits w u a
    mine = h.owners w u a at

  -- wait w, which nobody waits on, is gone
  pub wait_gone : (agents : Agents) (parked : Shards) (known : ℕ → Bool) (tasks : Tasks) (waits : List Wait) (w : ℕ) → Tracks agents parked known tasks waits
      → Tracks agents (update eqb parked w None) known tasks (without w waits)
  wait_gone agents parked known tasks waits w h = record {
    ready = h.ready;
    runs = h.runs;
    owners = λ v u c e. dite (ℕ_discrete w v)
        (λ i. absurd (let k : None ≡ Some (owner u c) = here parked w v None (Some (owner u c)) i e in cc))
        (λ ne. let k = h.owners v u c (there parked w v None (Some (owner u c)) ne e) in (owner_else v w waits (ne_eqb w v ne) ∙ k.0, k.1));
    nobodies = λ v e. dite (ℕ_discrete w v)
        (λ i. absurd (let k : None ≡ Some nobody = here parked w v None (Some nobody) i e in cc))
        (λ ne. owner_else v w waits (ne_eqb w v ne) ∙ h.nobodies v (there parked w v None (Some nobody) ne e));
    known = h.known;
  }

  -- u is a new task
  pub task_new : (agents : Agents) (parked : Shards) (known : ℕ → Bool) (tasks : Tasks) (waits : List Wait) (u : ℕ) (a : A) (res : Option ℕ) (b : TaskBody) → Tracks agents parked known tasks waits
      → tasks u ≡ None → stands a res b → Tracks (update eqb agents u (Some a)) parked (and_number known u) (update eqb tasks u (Some (runs res b))) waits
  task_new agents parked known tasks waits u a res b h none st = record {
    ready = ready_at agents tasks u a res b h.ready st;
    runs = runs_at agents tasks u a (runs res b) h.runs;
    owners = λ w t c e. let k = h.owners w t c e in (k.0, (k.1.0, (update_apart tasks u (Some (runs res b)) t (λ z. none_there (tasks u) k.1.0 none (ap tasks (sym z) ∙ k.1.1.0)) ∙ k.1.1.0, k.1.1.1), k.1.2, k.1.3));
    nobodies = h.nobodies;
    known = λ t. dite (ℕ_discrete u t)
        (λ z. ap (λ (o : Option Task). is_some o) (is_here tasks u t (Some (runs res b)) z) ∙ sym (ap (λ c. cond c true (known t)) (eq-eqb t u (sym z))))
        (λ ne. ap (λ (o : Option Task). is_some o) (update_apart tasks u (Some (runs res b)) t (λ z. ne (sym z))) ∙ h.known t ∙ sym (ap (λ c. cond c true (known t)) (ne_eqb t u (λ z. ne (sym z)))));
  }
