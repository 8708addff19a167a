-- The event of a plan was made and all who can go on were taken: so the plan is applied.
use Rattle.std.proofs.Common.{◌≡◌, ℕ, List, [], ◌∷◌, ◌++◌, refl, sym, ap, ◌∙◌, subst, Bool, true, false, cond, Option, Some, None, option_map, eqb, eqb-true}
use Rattle.std.specs.Map.{update}
use Rattle.ca_value.specs.Tree.{Tree}
use Rattle.ca_term.specs.Operation.{OpView, SeedView, spawning}
use Rattle.ca_term.specs.Program.{ProgramView}
use Rattle.ca_meaning.specs.Body.{At}
use Rattle.ca_meaning.specs.ChannelSteps.{other_side}
use Rattle.ca_meaning.specs.Wait.{port_of, side_of, told}
use Rattle.ca_commit.specs.Agents.{TaskAgent, starts_of}
use Rattle.ca_commit.specs.Applying.{BankChannels, ReadyBy, RunsBy, channels_by, registries_by, times_by, waits_by}
use Rattle.ca_commit.specs.Contents.{Parked, nobody, owner, whole}
use Rattle.ca_commit.specs.Parking.{waiting_as}
use Rattle.ca_commit.specs.Planning.{Planned, to_close, to_default, to_do, to_look, to_make, to_meet, to_park, to_post, to_print, to_prune, to_refuse, to_register, to_spawn}
use Rattle.ca_commit.specs.Showing.{channels_held, registries_held, waits_held}
use Rattle.ca_commit.specs.Tasks.{agent_of, task_view}
use Rattle.ca_commit.specs.Waking.{WakesBy, passing, ready_in}
use Rattle.ca_commit.specs.declared.held.Held.{Held}
use Rattle.ca_commit.specs.declared.task.Task.{Task}
use Rattle.ca_commit.proofs.Laid.{same_map}
use Rattle.ca_commit.proofs.Seats.{some_same}
use Rattle.ca_follow.specs.Applies.{Applies, GoesTo, PlanWakes, and_number, known_by, knows_all, knows_own, used_by, with_all, with_own}
use Rattle.ca_follow.specs.Has.{Has}
use Rattle.ca_follow.proofs.Plain.{again, back}

-- what was known stays so
known_here : (f : ℕ → Bool) (u : ℕ) → f u ≡ true → (v : ℕ) → and_number f u v ≡ f v
known_here f u e v = by (eqb v u) refl where
  by : (b : Bool) → eqb v u ≡ b → cond b true (f v) ≡ f v
  by true is = sym e ∙ ap f (sym (eqb-true v u is))
  by false is = refl

module _ {A : Type 0} where
  -- the task's own number, if it goes on
  abbrev pub IsOwn : ℕ → Option (ℕ × TaskAgent A) → Type 0
  IsOwn t None = Unit {0}
  IsOwn t (Some x) = x.0 ≡ t

  -- the agent with which it goes on
  abbrev pub agent_in : Option (ℕ × TaskAgent A) → Option (TaskAgent A)
  agent_in o = option_map (λ x. x.1) o

  own_runs : (f : ℕ → Option (TaskAgent A)) (t : ℕ) (b : TaskAgent A) (o : Option (ℕ × TaskAgent A)) → f t ≡ None → IsOwn t o → (v : ℕ) → with_own o f v ≡ update eqb (update eqb f t (Some b)) t (agent_in o) v
  own_runs f t b (Some x) out own v = ap (λ n. update eqb f n (Some x.1) v) own ∙ again f t (Some b) (Some x.1) v
  own_runs f t b None out own v = by (eqb t v) refl where
    by : (c : Bool) → eqb t v ≡ c → f v ≡ cond c None (cond c (Some b) (f v))
    by true is = ap f (sym (eqb-true t v is)) ∙ out
    by false is = refl

  own_known : (f : ℕ → Bool) (t : ℕ) (o : Option (ℕ × TaskAgent A)) → f t ≡ true → IsOwn t o → (v : ℕ) → knows_own o f v ≡ f v
  own_known f t None e own v = refl
  own_known f t (Some x) e own v = known_here f x.0 (ap f own ∙ e) v

module _ {A : Type 0} (place : A → At) (gives : A → Tree → A → Type 0) where
  -- who stands in the ready part after the event, where nobody stood there before
  abbrev pub Woken : Planned → BankChannels → (ℕ → Option (ℕ → Option (Parked (TaskAgent A)))) → Option (ℕ × TaskAgent A) → List (ℕ × TaskAgent A) → Type 0
  Woken (to_meet k b alts v o) cs sh s woken = WakesBy place gives (whole sh v) (port_of b) (told (other_side (side_of b)) (passing (whole cs (port_of b)) b)) (Some []) (Some woken)
  Woken (to_spawn kind r) cs sh s woken = (x : ℕ × TaskAgent A) × (s ≡ Some x) × (woken ≡ x ∷ [])
  Woken other cs sh s woken = woken ≡ []

  -- where the ready part was empty it has whoever waits no more
  pub wakes_some : (o : Option (Parked (TaskAgent A))) (p : ℕ) (v : Tree) (new : Option (List (ℕ × TaskAgent A))) → WakesBy place gives o p v (Some []) new → (woken : List (ℕ × TaskAgent A)) × (new ≡ Some woken) × WakesBy place gives o p v (Some []) (Some woken)
  wakes_some None p v new w = ([], w, refl)
  wakes_some (Some nobody) p v new w = ([], w, refl)
  wakes_some (Some (owner u a)) p v new w = ((u, w.0) ∷ [], w.4, (w.0, w.1, w.2, w.3, refl))

  pub woken_by : (old new : Held A) (s : Option (Task A)) (q : Planned) → ready_in old.ready ≡ Some [] → ReadyBy place gives old new s q
      → (woken : List (ℕ × TaskAgent A)) × (ready_in new.ready ≡ Some woken) × Woken q (channels_held old.banks) (waits_held old.shards) (option_map task_view s) woken
  woken_by old new s (to_meet k b alts v o) e r = wakes_some (whole (waits_held old.shards) v) (port_of b) (told (other_side (side_of b)) (passing (whole (channels_held old.banks) (port_of b)) b)) (ready_in new.ready)
      (subst (λ (z : Option (List (ℕ × TaskAgent A))). WakesBy place gives (whole (waits_held old.shards) v) (port_of b) (told (other_side (side_of b)) (passing (whole (channels_held old.banks) (port_of b)) b)) z (ready_in new.ready)) e r)
  woken_by old new s (to_spawn kind r) e g = (task_view g.0 ∷ [], g.2 ∙ ap (λ (z : Option (List (ℕ × TaskAgent A))). option_map (λ l. l ++ task_view g.0 ∷ []) z) e, (task_view g.0, ap (λ (z : Option (Task A)). option_map task_view z) g.1, refl))
  woken_by old new s (to_do k b alts) e r = ([], r ∙ e, refl)
  woken_by old new s (to_park bs) e r = ([], r ∙ e, refl)
  woken_by old new s (to_post bs) e r = ([], r ∙ e, refl)
  woken_by old new s (to_default v) e r = ([], r ∙ e, refl)
  woken_by old new s (to_make what) e r = ([], r ∙ e, refl)
  woken_by old new s (to_close p) e r = ([], r ∙ e, refl)
  woken_by old new s (to_register name args) e r = ([], r ∙ e, refl)
  woken_by old new s (to_print line) e r = ([], r ∙ e, refl)
  woken_by old new s (to_look w) e r = ([], r ∙ e, refl)
  woken_by old new s (to_prune p side i) e r = ([], r ∙ e, refl)
  woken_by old new s (to_refuse f) e r = ([], r ∙ e, refl)

  -- the task that goes on is the one whose event it was
  pub runs_own : (h : Held A) (t : Task A) (q : Planned) (o : Option (Task A)) → RunsBy gives h t q o → IsOwn t.number (option_map task_view o)
  runs_own h t q None r = tt
  runs_own h t (to_do k b alts) (Some c) r = r.0
  runs_own h t (to_meet k b alts v o) (Some c) r = r.0
  runs_own h t (to_park bs) (Some c) r = absurd (let z : Some c ≡ None = r in cc)
  runs_own h t (to_post bs) (Some c) r = r.0
  runs_own h t (to_default v) (Some c) r = r.0
  runs_own h t (to_make what) (Some c) r = r.0
  runs_own h t (to_spawn kind x) (Some c) r = r.0
  runs_own h t (to_close p) (Some c) r = r.0
  runs_own h t (to_register name args) (Some c) r = r.0
  runs_own h t (to_print line) (Some c) r = r.0
  runs_own h t (to_look w) (Some c) r = r.0
  runs_own h t (to_prune p side i) (Some c) r = r.0
  runs_own h t (to_refuse f) (Some c) r = r.0

  module _ (starts : ProgramView → SeedView → A → Type 0) where
    -- and it goes on with the answer, or waits
    pub goes_by : (h : Held A) (t : Task A) (q : Planned) (o : Option (Task A)) (x : Has A) → RunsBy gives h t q o
        → GoesTo place gives starts q h.new_port (record x { bank = channels_held h.banks; registry = registries_held h.banks }) (agent_of t) (agent_in (option_map task_view o))
    goes_by h t (to_park bs) None x r = refl
    goes_by h t (to_park bs) (Some c) x r = absurd (let z : Some c ≡ None = r in cc)
    goes_by h t (to_do k b alts) (Some c) x r = (agent_of c, refl, r.1)
    goes_by h t (to_meet k b alts v o) (Some c) x r = (agent_of c, refl, r.1)
    goes_by h t (to_post bs) (Some c) x r = (agent_of c, refl, r.1)
    goes_by h t (to_default v) (Some c) x r = (agent_of c, refl, r.1)
    goes_by h t (to_make what) (Some c) x r = (agent_of c, refl, r.1)
    goes_by h t (to_spawn kind y) (Some c) x r = (agent_of c, refl, r.1)
    goes_by h t (to_close p) (Some c) x r = (agent_of c, refl, r.1)
    goes_by h t (to_register name args) (Some c) x r = (agent_of c, refl, r.1)
    goes_by h t (to_print line) (Some c) x r = (agent_of c, refl, r.1)
    goes_by h t (to_look w) (Some c) x r = (agent_of c, refl, r.1)
    goes_by h t (to_prune p side i) (Some c) x r = (agent_of c, refl, r.1)
    goes_by h t (to_refuse f) (Some c) x r = (agent_of c, refl, r.1)
    goes_by h t (to_do k b alts) None x r = absurd r
    goes_by h t (to_meet k b alts v o) None x r = absurd r
    goes_by h t (to_post bs) None x r = absurd r
    goes_by h t (to_default v) None x r = absurd r
    goes_by h t (to_make what) None x r = absurd r
    goes_by h t (to_spawn kind y) None x r = absurd r
    goes_by h t (to_close p) None x r = absurd r
    goes_by h t (to_register name args) None x r = absurd r
    goes_by h t (to_print line) None x r = absurd r
    goes_by h t (to_look w) None x r = absurd r
    goes_by h t (to_prune p side i) None x r = absurd r
    goes_by h t (to_refuse f) None x r = absurd r

    -- What an event left of these parts, and who can go on by it: its own task, and those who stood in the ready part.
    pub record GoneOn (q : Planned) (t u p w m : ℕ) (a : TaskAgent A) (h h2 : Has A) (s : Option (ℕ × TaskAgent A)) : Type 0 where
      pub bank : (i : ℕ) → h2.bank i ≡ channels_by p w q h.bank i
      pub registry : (i : ℕ) → h2.registry i ≡ registries_by p q h.registry i
      pub shard : (i : ℕ) → h2.shard i ≡ waits_by w (owner t (waiting_as place a)) nobody q h.shard i
      pub times : h2.times ≡ times_by p m q h.times
      pub own : Option (ℕ × TaskAgent A)
      pub is_own : IsOwn t own
      pub runs : GoesTo place gives starts q p h a (agent_in own)
      pub woken : List (ℕ × TaskAgent A)
      pub wakes : Woken q h.bank h.shard s woken
      pub running : (v : ℕ) → h2.running v ≡ with_all woken (with_own own h.running) v
      pub known : (v : ℕ) → h2.known v ≡ knows_all woken (knows_own own h.known) v
      pub used : (v : ℕ) → h2.used v ≡ used_by w q h.used v

    -- the new task is that of the seed, under its number
    abbrev pub IsStarted : ProgramView → OpView → ℕ → Option (ℕ × TaskAgent A) → Type 0
    IsStarted program op u None = Unit {0}
    IsStarted program op u (Some x) = (x.0 ≡ u) × ((seed : SeedView) → op ≡ spawning seed → starts_of starts program seed x.1)

    wakes_of_woken : (program : ProgramView) (op : OpView) (q : Planned) (u : ℕ) (h : Has A) (s : Option (ℕ × TaskAgent A)) (woken : List (ℕ × TaskAgent A)) → IsStarted program op u s → Woken q h.bank h.shard s woken → PlanWakes place gives starts program op q u h woken
    wakes_of_woken program op (to_spawn kind r) u h s woken st k =
        let g = subst (λ (z : Option (ℕ × TaskAgent A)). IsStarted program op u z) k.1 st in
        (k.0.1, k.2 ∙ ap (λ n. (n, k.0.1) ∷ []) g.0, g.1)
    wakes_of_woken program op (to_meet k b alts v o) u h s woken st w = w
    wakes_of_woken program op (to_do k b alts) u h s woken st w = w
    wakes_of_woken program op (to_park bs) u h s woken st w = w
    wakes_of_woken program op (to_post bs) u h s woken st w = w
    wakes_of_woken program op (to_default v) u h s woken st w = w
    wakes_of_woken program op (to_make what) u h s woken st w = w
    wakes_of_woken program op (to_close p) u h s woken st w = w
    wakes_of_woken program op (to_register name args) u h s woken st w = w
    wakes_of_woken program op (to_print line) u h s woken st w = w
    wakes_of_woken program op (to_look v) u h s woken st w = w
    wakes_of_woken program op (to_prune p side i) u h s woken st w = w
    wakes_of_woken program op (to_refuse f) u h s woken st w = w

    -- whoever wakes was known, and a new task is so now
    pub woken_known : (o : Option (Parked (TaskAgent A))) (p : ℕ) (v : Tree) (f : ℕ → Bool) (woken : List (ℕ × TaskAgent A)) → ((u : ℕ) (a : TaskAgent A) → o ≡ Some (owner u a) → f u ≡ true) → WakesBy place gives o p v (Some []) (Some woken) → (n : ℕ) → knows_all woken f n ≡ f n
    woken_known None p v f woken k w n = ap (λ (l : List (ℕ × TaskAgent A)). knows_all l f n) (some_same woken [] w)
    woken_known (Some nobody) p v f woken k w n = ap (λ (l : List (ℕ × TaskAgent A)). knows_all l f n) (some_same woken [] w)
    woken_known (Some (owner u a)) p v f woken k w n = ap (λ (l : List (ℕ × TaskAgent A)). knows_all l f n) (some_same woken ((u, w.0) ∷ []) w.4) ∙ known_here f u (k u a refl) n

    all_known : (program : ProgramView) (op : OpView) (q : Planned) (u : ℕ) (h : Has A) (s : Option (ℕ × TaskAgent A)) (woken : List (ℕ × TaskAgent A)) → ((w v : ℕ) (a : TaskAgent A) → whole h.shard w ≡ Some (owner v a) → h.known v ≡ true)
        → PlanWakes place gives starts program op q u h woken → (n : ℕ) → knows_all woken h.known n ≡ known_by u q h.known n
    all_known program op (to_meet k b alts v o) u h s woken waits w n = woken_known (whole h.shard v) (port_of b) (told (other_side (side_of b)) (passing (whole h.bank (port_of b)) b)) h.known woken (λ x a e. waits v x a e) w n
    all_known program op (to_spawn kind r) u h s woken waits w n = ap (λ (l : List (ℕ × TaskAgent A)). knows_all l h.known n) w.1
    all_known program op (to_do k b alts) u h s woken waits w n = ap (λ (l : List (ℕ × TaskAgent A)). knows_all l h.known n) w
    all_known program op (to_park bs) u h s woken waits w n = ap (λ (l : List (ℕ × TaskAgent A)). knows_all l h.known n) w
    all_known program op (to_post bs) u h s woken waits w n = ap (λ (l : List (ℕ × TaskAgent A)). knows_all l h.known n) w
    all_known program op (to_default v) u h s woken waits w n = ap (λ (l : List (ℕ × TaskAgent A)). knows_all l h.known n) w
    all_known program op (to_make what) u h s woken waits w n = ap (λ (l : List (ℕ × TaskAgent A)). knows_all l h.known n) w
    all_known program op (to_close p) u h s woken waits w n = ap (λ (l : List (ℕ × TaskAgent A)). knows_all l h.known n) w
    all_known program op (to_register name args) u h s woken waits w n = ap (λ (l : List (ℕ × TaskAgent A)). knows_all l h.known n) w
    all_known program op (to_print line) u h s woken waits w n = ap (λ (l : List (ℕ × TaskAgent A)). knows_all l h.known n) w
    all_known program op (to_look v) u h s woken waits w n = ap (λ (l : List (ℕ × TaskAgent A)). knows_all l h.known n) w
    all_known program op (to_prune p side i) u h s woken waits w n = ap (λ (l : List (ℕ × TaskAgent A)). knows_all l h.known n) w
    all_known program op (to_refuse f) u h s woken waits w n = ap (λ (l : List (ℕ × TaskAgent A)). knows_all l h.known n) w

    -- so the plan is applied, for whichever agent task t could go on as before
    pub gone_applies : (program : ProgramView) (op : OpView) (q : Planned) (t u p w m : ℕ) (a b : TaskAgent A) (h h2 : Has A) (s : Option (ℕ × TaskAgent A)) → GoneOn q t u p w m a h h2 s → IsStarted program op u s
        → h.running t ≡ None → h.known t ≡ true → ((v n : ℕ) (c : TaskAgent A) → whole h.shard v ≡ Some (owner n c) → h.known n ≡ true) → Applies place gives starts program op q t u p w m a (back t b h) h2
    gone_applies program op q t u p w m a b h h2 s g st out known waits =
        let wakes = wakes_of_woken program op q u h s g.woken st g.wakes in record {
          bank = g.bank;
          registry = g.registry;
          shard = g.shard;
          times = g.times;
          woken = g.woken;
          wakes = moved q wakes;
          goes = agent_in g.own;
          answered = answers q g.runs;
          running = λ v. g.running v ∙ ap (λ (f : ℕ → Option (TaskAgent A)). with_all g.woken f v) (same_map (with_own g.own h.running) (update eqb (update eqb h.running t (Some b)) t (agent_in g.own)) (own_runs h.running t b g.own out g.is_own));
          known = λ v. g.known v ∙ ap (λ (f : ℕ → Bool). knows_all g.woken f v) (same_map (knows_own g.own h.known) h.known (own_known h.known t g.own known g.is_own)) ∙ all_known program op q u h s g.woken waits wakes v;
          used = g.used;
        } where
          moved : (q : Planned) → PlanWakes place gives starts program op q u h g.woken → PlanWakes place gives starts program op q u (back t b h) g.woken
          moved (to_do i b alts) k = k
          moved (to_meet i b alts x o) k = k
          moved (to_park bs) k = k
          moved (to_post bs) k = k
          moved (to_default x) k = k
          moved (to_make what) k = k
          moved (to_spawn kind r) k = k
          moved (to_close z) k = k
          moved (to_register name args) k = k
          moved (to_print line) k = k
          moved (to_look x) k = k
          moved (to_prune z side i) k = k
          moved (to_refuse e) k = k

          answers : (q : Planned) → GoesTo place gives starts q p h a (agent_in g.own) → GoesTo place gives starts q p (back t b h) a (agent_in g.own)
          answers (to_do i b alts) k = k
          answers (to_meet i b alts x o) k = k
          answers (to_park bs) k = k
          answers (to_post bs) k = k
          answers (to_default x) k = k
          answers (to_make what) k = k
          answers (to_spawn kind r) k = k
          answers (to_close z) k = k
          answers (to_register name args) k = k
          answers (to_print line) k = k
          answers (to_look x) k = k
          answers (to_prune z side i) k = k
          answers (to_refuse e) k = k
