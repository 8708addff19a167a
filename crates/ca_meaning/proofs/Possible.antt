-- Each running task has a possible event, and a run that is stuck is quiet.
use Rattle.std.proofs.Common.{◌≡◌, ◌≢◌, ℕ, zero, suc, ◌+◌, ◌-◌, ◌<◌, ◌≤◌, List, [], ◌∷◌, ◌++◌, refl, sym, ap, ◌∙◌, subst, arith, Bool, true, false, cond, Option, Some, None, option_map, eqb, eq-eqb, ne_eqb, slice_get, filter, map, nat_le, leb-false}
use Rattle.std.specs.Map.{update}
use Rattle.std.proofs.lemmas.Map.{update_apart}
use Rattle.ca_value.specs.Tree.{Tree, Trees, nil, bool, int, text, key, vector, map as map_of, port}
use Rattle.ca_value.specs.declared.value.PortId.{PortId}
use Rattle.ca_term.specs.declared.place.Place.{Place}
use Rattle.ca_term.specs.declared.fault.Fault.{Fault}
use Rattle.ca_term.specs.declared.event.Side.{Side}
use Rattle.ca_term.specs.declared.event.Side.TheVariants.{Take, Put}
use Rattle.ca_term.specs.declared.event.Ending.TheVariants.{Ended, Faulted}
use Rattle.ca_term.specs.declared.head.RegisterName.{RegisterName}
use Rattle.ca_term.specs.Operation.{OpView, WantView, taking, putting, choosing, making, spawning, closing, registering, printing, posting, WhatView, unbuffered, fixed, dropping, sliding, promise, timeout, mult, mix, publication, SeedView}
use Rattle.ca_term.specs.Program.{ProgramView}
use Rattle.ca_term.specs.Event.{BranchView, put_of, EventView, made, spawned, done, met, parked, posted, settled, defaulted, closed, registered, printed, ticked, over as is_over, port_number as number_of}
use Rattle.ca_meaning.specs.Body.{At, local, at_op, ended, faulted, nowhere}
use Rattle.ca_meaning.specs.Channel.{Channel}
use Rattle.ca_meaning.specs.Registry.{Registered, answers, refuses}
use Rattle.ca_meaning.specs.Wait.{Handler, side_of, port_of, front, without, owner_of, told, is_among}
use Rattle.ca_meaning.specs.Row.{Row, not_ready, completes, meets, Settling, unsettled, settles, settle_row}
use Rattle.ca_meaning.specs.Task.{TaskBody, script, system_task, body_at, body_fill, BodyRest, new_task, body_reply}
use Rattle.ca_meaning.specs.State.{State, Task, Tasks, Deadline, running, waiting, over, runs, shut_at, shut_all, shut_result, due, open_after}
use Rattle.ca_meaning.specs.Choice.{branches_of, default_of, parks, row, is_ready, any_ready, Picks}
use Rattle.ca_meaning.specs.Refusal.{is_channel, not_a_channel, nil_put, unfit, too_many, refusal, registering_gives, fault_of_registered, unmet, needs_to_register, fault_at}
use Rattle.ca_meaning.specs.Going.{RunsAtOperation, Goes, Wakes}
use Rattle.ca_meaning.specs.ChannelSteps.{other_side, with_default}
use Rattle.ca_meaning.specs.TaskSteps.{moments, IsMoment, kind_of, result_of}
use Rattle.ca_meaning.specs.Steps.{Step}
use Rattle.ca_meaning.specs.Ends.{IsPossible}
use Rattle.ca_meaning.specs.Sound.{Each, AllOwned, Sound}
use Rattle.ca_meaning.specs.EndsLaw.{HasEvent, IsQuiet}
use Rattle.ca_meaning.proofs.Rests.{rests}
use Rattle.ca_meaning.proofs.Systems.{system_rests}
use Rattle.ca_meaning.proofs.Refusals.{or_none}

-- a number that was never given
abbrev above : List ℕ → ℕ
above [] = 0
above (x ∷ xs) = suc x + above xs

not_there : (used : List ℕ) (w : ℕ) → above used ≤ w → is_among w used ≡ false
not_there [] w le = refl
not_there (x ∷ xs) w le = ap (λ c. cond c true (is_among w xs)) (ne_eqb w x (λ e. let k : suc x + above xs ≤ w = le in let j : w ≡ x = e in omega (arith, k, j))) ∙ not_there xs w (let k : suc x + above xs ≤ w = le in omega (arith, k))

new_wait : (used : List ℕ) → is_among (above used) used ≡ false
new_wait used = not_there used (above used) (omega arith)

pub body_rests : (program : ProgramView) (b : TaskBody) → (c : TaskBody) × BodyRest program b c
body_rests program (script b) = let r = rests program b in (script r.0, (r.0, r.1, refl))
body_rests program (system_task b) = let r = system_rests program b in (system_task r.0, (r.0, r.1, refl))

pub goes_there : (program : ProgramView) (tasks : Tasks) (t : ℕ) (x : Task) (v : Tree) → (after : Tasks) × Goes program tasks t x v after
goes_there program tasks t x v = let r = body_rests program (body_fill v x.body) in (update eqb tasks t (Some (runs x.result r.0)), (r.0, r.1, refl))

waits_not_runs : {G : Type 0} (x y : Task) (w : ℕ) → x ≡ y → x.mode ≡ running → y.mode ≡ waiting w → G
waits_not_runs x y w e a b = let k : running ≡ waiting w = sym a ∙ ap (λ (z : Task). z.mode) e ∙ b in absurd cc

some_task : (x y : Task) → Some x ≡ Some y → x ≡ y
some_task x y e = cc

-- the owner of a wait can be woken, also after a running task went on
wakes_there : (program : ProgramView) (s : State) → AllOwned s.tasks s.waits → (tasks : Tasks) → ((u w : ℕ) (y : Task) → s.tasks u ≡ Some y → y.mode ≡ waiting w → tasks u ≡ Some y) → (w p : ℕ) (v : Tree) (o : Option ℕ) → owner_of w s.waits ≡ o → (after : Tasks) × Wakes program o tasks w p v after
wakes_there program s own tasks kept w p v None e = (tasks, refl)
wakes_there program s own tasks kept w p v (Some u) e = let o = own w u e in let g = goes_there program tasks u o.0 (body_reply o.0.body p v) in (g.0, (o.0, kept u w o.0 o.1 o.2, o.2, g.1))

pub waiters_kept : (s : State) (t : ℕ) (x z : Task) → s.tasks t ≡ Some x → x.mode ≡ running → (u w : ℕ) (y : Task) → s.tasks u ≡ Some y → y.mode ≡ waiting w → update eqb s.tasks t (Some z) u ≡ Some y
waiters_kept s t x z at r u w y is m = update_apart s.tasks t (Some z) u (λ (e : u ≡ t). waits_not_runs x y w (some_task x y (sym at ∙ ap s.tasks (sym e) ∙ is)) r m) ∙ is

-- the first branch that is ready
abbrev First : State → List BranchView → Type 0
First s bs = (k : ℕ) × (b : BranchView) × (slice_get bs k ≡ Some b) × (is_ready (row s b) ≡ true) × ((j : ℕ) (o : BranchView) → j < k → slice_get bs j ≡ Some o → row s o ≡ not_ready)

first_ready : (s : State) (bs : List BranchView) → any_ready s bs ≡ true → First s bs
first_ready s [] e = absurd (let k : false ≡ true = e in cc)
first_ready s (b ∷ bs) e = by (row s b) refl e (first_ready s bs) where
  before : row s b ≡ not_ready → (k : ℕ) → ((j : ℕ) (o : BranchView) → j < k → slice_get bs j ≡ Some o → row s o ≡ not_ready) → (j : ℕ) (o : BranchView) → j < suc k → slice_get (b ∷ bs) j ≡ Some o → row s o ≡ not_ready
  before n k f zero o lt is = subst (λ (o : BranchView). row s o ≡ not_ready) (let k : b ≡ o = cc in k) n
  before n k f (suc j) o lt is = f j o (omega (arith, lt)) is

  here_it : is_ready (row s b) ≡ true → First s (b ∷ bs)
  here_it r = (0, b, refl, r, λ j o lt. absurd (omega (arith, lt)))

  by : (r : Row) → row s b ≡ r → cond (is_ready r) true (any_ready s bs) ≡ true → (any_ready s bs ≡ true → First s bs) → First s (b ∷ bs)
  by not_ready n e more = let f = more e in (suc f.0, f.1, f.2, f.3, before n f.0 f.4)
  by (completes a d) n e more = here_it (ap is_ready n)
  by (meets h v) n e more = here_it (ap is_ready n)

self : (t : ℕ) → eqb t t ≡ true
self t = eq-eqb t t refl

port_there : (s : State) (v : Tree) → is_channel s v ≡ true → (n : ℕ) × (v ≡ port n)
port_there s (port n) e = (n, refl)
port_there s nil e = absurd (let k : false ≡ true = e in cc)
port_there s (bool b) e = absurd (let k : false ≡ true = e in cc)
port_there s (int z) e = absurd (let k : false ≡ true = e in cc)
port_there s (text t) e = absurd (let k : false ≡ true = e in cc)
port_there s (key t) e = absurd (let k : false ≡ true = e in cc)
port_there s (vector vs) e = absurd (let k : false ≡ true = e in cc)
port_there s (map_of ps) e = absurd (let k : false ≡ true = e in cc)

is_port : (s : State) (v : Tree) → not_a_channel s v ≡ None → (n : ℕ) × (v ≡ port n)
is_port s v e = by (is_channel s v) refl e where
  by : (b : Bool) → is_channel s v ≡ b → cond b None (Some Fault.NotAPort) ≡ None → (n : ℕ) × (v ≡ port n)
  by true is e = port_there s v is
  by false is e = absurd (let k : Some Fault.NotAPort ≡ None = e in cc)

abbrev as_port : Option ℕ → Option PortId
as_port None = None
as_port (Some n) = Some (record { n = n })

as_port_number : (o : Option ℕ) → option_map number_of (as_port o) ≡ o
as_port_number None = refl
as_port_number (Some n) = refl

module _ (program : ProgramView) (s : State) (sound : Sound s) (t : ℕ) (x : Task) (there : s.tasks t ≡ Some x) (goes : x.mode ≡ running) where
  faults : (f : Fault) (p : Place) → fault_at s (body_at x.body) ≡ Some (f, p) → HasEvent program s t
  faults f p e = (
    is_over t (Faulted f p (as_port x.result)),
    record s { tasks = update eqb s.tasks t (Some (record x { mode = over })); channels = shut_result (option_map number_of (as_port x.result)) s.channels },
    (x, (there, goes), e, sym (as_port_number x.result), refl),
    self t,
  )

  ends : (v : Tree) → body_at x.body ≡ ended v → HasEvent program s t
  ends v e = (is_over t Ended, record s { tasks = update eqb s.tasks t (Some (record x { mode = over })) }, (x, v, (there, goes), e, refl), self t)

  ready : (op : OpView) → RunsAtOperation s t op x → First s (branches_of op) → HasEvent program s t
  ready op st f = by (row s f.1) refl f.3 where
    picks : Picks s op f.0 f.1
    picks = (f.2, λ pr. f.4)

    by : (r : Row) → row s f.1 ≡ r → is_ready r ≡ true → HasEvent program s t
    by not_ready e r = absurd (let k : false ≡ true = r in cc)
    by (completes a d) e r = let g = goes_there program s.tasks t x (body_reply x.body (port_of f.1) a) in (
      done t f.0 f.1 a,
      record s { tasks = g.0; channels = update eqb s.channels (port_of f.1) (Some d) },
      (x, op, g.0, d, st, picks, e, g.1, refl),
      self t,
    )
    by (meets h v) e r =
        let g = goes_there program s.tasks t x (body_reply x.body (port_of f.1) (told (side_of f.1) v)) in
        let w = wakes_there program s sound.owned g.0 (λ u w y is m. ap (λ (z : Tasks). z u) g.1.2 ∙ waiters_kept s t x (runs x.result g.1.0) there goes u w y is m) h.wait (port_of f.1) (told (other_side (side_of f.1)) v) (owner_of h.wait s.waits) refl in (
          met t f.0 (side_of f.1) (port_of f.1) v h.wait h.branch,
          record s { tasks = w.0; waits = without h.wait s.waits },
          (x, op, f.1, h, g.0, w.0, st, picks, refl, refl, e, refl, refl, g.1, w.1, refl),
          self t,
        )

  choice : (op : OpView) → RunsAtOperation s t op x → (any_ready s (branches_of op) ≡ false → HasEvent program s t) → HasEvent program s t
  choice op st otherwise = by (any_ready s (branches_of op)) refl where
    by : (b : Bool) → any_ready s (branches_of op) ≡ b → HasEvent program s t
    by true e = ready op st (first_ready s (branches_of op) e)
    by false e = otherwise e

  park : (op : OpView) → RunsAtOperation s t op x → parks op ≡ true → default_of op ≡ None → any_ready s (branches_of op) ≡ false → HasEvent program s t
  park op st p d n = let w = above s.used in (
    parked t w (branches_of op),
    record s {
      tasks = update eqb s.tasks t (Some (record x { mode = waiting w }));
      waits = s.waits ++ record { number = w; owner = Some t; branches = branches_of op } ∷ [];
      used = w ∷ s.used;
    },
    (x, op, st, p, refl, d, n, new_wait s.used, refl),
    self t,
  )

  default : (op : OpView) (v : Tree) → RunsAtOperation s t op x → default_of op ≡ Some v → any_ready s (branches_of op) ≡ false → HasEvent program s t
  default op v st d n = let g = goes_there program s.tasks t x (with_default v) in (defaulted t v, record s { tasks = g.0 }, (x, op, g.0, st, d, n, g.1, refl), self t)

  post : (c v : Tree) → RunsAtOperation s t (posting c v) x → any_ready s (branches_of (posting c v)) ≡ false → HasEvent program s t
  post c v st n =
      let q = is_port s c (or_none (not_a_channel s c) (nil_put v) (or_none (unfit s (posting c v)) (too_many s (posting c v)) st.3).0).0 in
      let w = above s.used in
      let g = goes_there program s.tasks t x (bool true) in (
        posted t w q.0 v,
        record s { tasks = g.0; waits = s.waits ++ record { number = w; owner = None; branches = put_of q.0 v ∷ [] } ∷ []; used = w ∷ s.used },
        (x, g.0, subst (λ z. RunsAtOperation s t (posting z v) x) q.1 st, subst (λ z. any_ready s (branches_of (posting z v)) ≡ false) q.1 n, new_wait s.used, g.1, refl),
        self t,
      )

  is_moment : (what : WhatView) → (m : Option ℕ) × IsMoment s.now what m
  is_moment (timeout n) = (Some s.now, (omega arith, sound.clock))
  is_moment unbuffered = (None, refl)
  is_moment (fixed n) = (None, refl)
  is_moment (dropping n) = (None, refl)
  is_moment (sliding n) = (None, refl)
  is_moment promise = (None, refl)
  is_moment (mult source) = (None, refl)
  is_moment (mix out changes) = (None, refl)
  is_moment (publication source) = (None, refl)

  make : (what : WhatView) → RunsAtOperation s t (making what) x → HasEvent program s t
  make what st =
      let p = sound.channels_end.0 + sound.registries_end.0 in
      let m = is_moment what in
      let g = goes_there program s.tasks t x (port p) in
      (made t p what m.0, _, (x, g.0, st, sound.channels_end.1 p (omega arith), sound.registries_end.1 p (omega arith), m.1, g.1, refl), self t)

  spawn : (seed : SeedView) → RunsAtOperation s t (spawning seed) x → HasEvent program s t
  spawn seed st =
      let u = sound.tasks_end.0 in
      let g = goes_there program s.tasks t x nil in
      let b = body_rests program (new_task program seed) in
      (spawned t u (kind_of seed) (result_of seed), record s { tasks = update eqb g.0 u (Some (runs (result_of seed) b.0)) }, (x, seed, g.0, b.0, st, sound.tasks_end.1 u (omega arith), refl, refl, g.1, b.1, refl), self t)

  close : (c : Tree) → RunsAtOperation s t (closing c) x → HasEvent program s t
  close c st =
      let q = is_port s c (or_none (unfit s (closing c)) (too_many s (closing c)) st.3).0 in
      let g = goes_there program s.tasks t x nil in
      (closed t q.0, record s { tasks = g.0; channels = shut_at q.0 s.channels }, (x, g.0, subst (λ z. RunsAtOperation s t (closing z) x) q.1 st, g.1, refl), self t)

  register_it : (name : RegisterName) (args : Trees) → RunsAtOperation s t (registering name args) x → HasEvent program s t
  register_it name args st = by (registering_gives s name args) refl where
    none_wrong : fault_of_registered (registering_gives s name args) ≡ None
    none_wrong = (or_none (unmet s (needs_to_register name) args) (fault_of_registered (registering_gives s name args)) (or_none (unfit s (registering name args)) (too_many s (registering name args)) st.3).0).1

    by : (r : Registered) → registering_gives s name args ≡ r → HasEvent program s t
    by (refuses f) e = absurd (let k : Some f ≡ None = sym (ap fault_of_registered e) ∙ none_wrong in cc)
    by (answers v r) e = let g = goes_there program s.tasks t x v in (registered t name args v, _, (x, r, g.0, st, e, g.1, refl), self t)

  print_it : (line : List ℕ) → RunsAtOperation s t (printing line) x → HasEvent program s t
  print_it line st = let g = goes_there program s.tasks t x nil in (printed t line, record s { tasks = g.0 }, (x, g.0, st, g.1, refl), self t)

  choose : (ports : Trees) (priority : Bool) (d : Option Tree) → RunsAtOperation s t (choosing ports priority d) x → HasEvent program s t
  choose ports priority None st = choice (choosing ports priority None) st (park (choosing ports priority None) st refl refl)
  choose ports priority (Some v) st = choice (choosing ports priority (Some v)) st (default (choosing ports priority (Some v)) v st refl)

  does : (op : OpView) → RunsAtOperation s t op x → HasEvent program s t
  does (taking c) st = choice (taking c) st (park (taking c) st refl refl)
  does (putting c v) st = choice (putting c v) st (park (putting c v) st refl refl)
  does (choosing ports priority d) st = choose ports priority d st
  does (posting c v) st = choice (posting c v) st (post c v st)
  does (making what) st = make what st
  does (spawning seed) st = spawn seed st
  does (closing c) st = close c st
  does (registering name args) st = register_it name args st
  does (printing line) st = print_it line st

  at_it : (w : WantView) → body_at x.body ≡ at_op w → (o : Option Fault) → refusal s w.op ≡ o → HasEvent program s t
  at_it w e (Some f) r = faults f w.place (ap (fault_at s) e ∙ ap (option_map (λ f. (f, w.place))) r)
  at_it w e None r = does w.op (there, goes, (w.place, e), r)

  pub has_event : body_at x.body ≢ nowhere → HasEvent program s t
  has_event ne = by (body_at x.body) refl where
    by : (a : At) → body_at x.body ≡ a → HasEvent program s t
    by local e = absurd (sound.rested t x there e)
    by (at_op w) e = at_it w e (refusal s w.op) refl
    by (ended v) e = ends v e
    by (faulted f p) e = faults f p (ap (fault_at s) e)
    by nowhere e = absurd (ne e)

-- quiet states
settle_there : (program : ProgramView) (s : State) → Sound s → (p : ℕ) (c : Channel) → s.channels p ≡ Some c → (side : Side) (h : Handler) (v : Tree) (d : Channel) → settle_row c (front Take p s.waits) (front Put p s.waits) ≡ settles side h v d → IsPossible program s
settle_there program s sound p c at side h v d e =
    let w = wakes_there program s sound.owned s.tasks (λ u w y is m. is) h.wait p (told side v) (owner_of h.wait s.waits) refl in
    (settled h.wait h.branch side p v, record s { tasks = w.0; channels = update eqb s.channels p (Some d); waits = without h.wait s.waits }, (c, d, h, w.0, at, e, refl, refl, w.1, refl))

le_is : (a b : ℕ) → a ≤ b → nat_le a b ≡ true
le_is a b le = by (nat_le a b) refl where
  by : (t : Bool) → nat_le a b ≡ t → nat_le a b ≡ true
  by true e = e
  by false e = absurd (let lt : b < a = leb-false a b e in omega (arith, lt, le))

-- at the last moment each open deadline is due
some_due : (d : Deadline) (ds : List Deadline) → d.moment < moments → due (moments - 1) (d ∷ ds) ≢ []
some_due d ds lt k = by (nat_le d.moment (moments - 1)) (le_is d.moment (moments - 1) (omega arith)) k where
  by : (t : Bool) → t ≡ true → map (λ (d : Deadline). d.port) (cond t (d ∷ filter (λ (d : Deadline). nat_le d.moment (moments - 1)) ds) (filter (λ (d : Deadline). nat_le d.moment (moments - 1)) ds)) ≡ [] → ⊥
  by true e k = cc
  by false e k = let j : false ≡ true = e in cc

tick_there : (program : ProgramView) (s : State) → Sound s → (d : Deadline) (ds : List Deadline) → s.deadlines ≡ d ∷ ds → IsPossible program s
tick_there program s sound d ds e =
    let m = moments - 1 in
    let n : s.now < moments = sound.clock in
    let dm : d.moment < moments = (subst (Each (λ (d : Deadline). d.moment < moments)) e sound.dated).0 in
    let some : due m s.deadlines ≢ [] = (λ k. some_due d ds dm (ap (due m) (sym e) ∙ k)) in
    (ticked m (due m s.deadlines), record s { channels = shut_all (due m s.deadlines) s.channels; deadlines = open_after m s.deadlines; now = m }, (omega (arith, n), omega arith, refl, some, refl))

pub stuck_quiet : (program : ProgramView) (s : State) → Sound s → ((t : ℕ) (x : Task) → s.tasks t ≡ Some x → body_at x.body ≢ nowhere) → (IsPossible program s → ⊥) → IsQuiet s
stuck_quiet program s sound somewhere stuck = record {
  no_task = λ t x there goes. let h = has_event program s sound t x there goes (somewhere t x there) in stuck (h.0, h.1, h.2);
  no_settle = λ p c at. settle p c at (settle_row c (front Take p s.waits) (front Put p s.waits)) refl;
  no_deadline = deadline s.deadlines refl;
} where
  settle : (p : ℕ) (c : Channel) → s.channels p ≡ Some c → (r : Settling) → settle_row c (front Take p s.waits) (front Put p s.waits) ≡ r → settle_row c (front Take p s.waits) (front Put p s.waits) ≡ unsettled
  settle p c at unsettled e = e
  settle p c at (settles side h v d) e = absurd (stuck (settle_there program s sound p c at side h v d e))

  deadline : (ds : List Deadline) → s.deadlines ≡ ds → s.deadlines ≡ []
  deadline [] e = e
  deadline (d ∷ ds) e = absurd (stuck (tick_there program s sound d ds e))

runs_not : {G : Type 0} (s : State) → IsQuiet s → (t : ℕ) (x : Task) → s.tasks t ≡ Some x → x.mode ≡ running → G
runs_not s q t x there goes = absurd (q.no_task t x there goes)

stands_not : {G : Type 0} (s : State) → IsQuiet s → (t : ℕ) (op : OpView) (x : Task) → RunsAtOperation s t op x → G
stands_not s q t op x st = runs_not s q t x st.0 st.1

pub quiet_stuck : (program : ProgramView) (s s2 : State) (e : EventView) → IsQuiet s → Step program s e s2 → ⊥
quiet_stuck program s s2 (made t p what moment) q x = stands_not s q t (making what) x.0 x.2
quiet_stuck program s s2 (spawned t u kind result) q x = stands_not s q t (spawning x.1) x.0 x.4
quiet_stuck program s s2 (done t k b a) q x = stands_not s q t x.1 x.0 x.4
quiet_stuck program s s2 (met t k side p v w o) q x = stands_not s q t x.1 x.0 x.6
quiet_stuck program s s2 (parked t w bs) q x = stands_not s q t x.1 x.0 x.2
quiet_stuck program s s2 (posted t w p v) q x = stands_not s q t (posting (port p) v) x.0 x.2
quiet_stuck program s s2 (settled w k side p v) q x = let j : unsettled ≡ settles side x.2 v x.1 = sym (q.no_settle p x.0 x.4) ∙ x.5 in cc
quiet_stuck program s s2 (defaulted t v) q x = stands_not s q t x.1 x.0 x.3
quiet_stuck program s s2 (closed t p) q x = stands_not s q t (closing (port p)) x.0 x.2
quiet_stuck program s s2 (registered t name args v) q x = stands_not s q t (registering name args) x.0 x.3
quiet_stuck program s s2 (printed t line) q x = stands_not s q t (printing line) x.0 x.2
quiet_stuck program s s2 (ticked m ports) q x = x.3 (sym x.2 ∙ ap (due m) q.no_deadline)
quiet_stuck program s s2 (is_over t Ended) q x = runs_not s q t x.0 x.2.0 x.2.1
quiet_stuck program s s2 (is_over t (Faulted fault place result)) q x = runs_not s q t x.0 x.1.0 x.1.1
