-- How the desk that is read off the parts changes with them.
use Rattle.std.proofs.Common.{◌≡◌, ◌≢◌, ℕ, suc, ◌+◌, List, [], ◌∷◌, ◌++◌, refl, sym, ap, ◌∙◌, Bool, true, false, cond, Option, Some, None, map, eqb, eq-eqb, ne_eqb, arith}
use Rattle.std.specs.Map.{update}
use Rattle.ca_term.specs.Operation.{OpView}
use Rattle.ca_meaning.specs.Sound.{Each}
use Rattle.ca_meaning.specs.Solo.{Desk, alts_counted, event_counted, made_one, left, joined_by}
use Rattle.ca_meaning.proofs.Waits.{each-append}
use Rattle.ca_commit.specs.Agents.{TaskAgent}
use Rattle.ca_commit.specs.Contents.{Counts, LaneView, Parked, nobody, owner}
use Rattle.ca_commit.specs.Seated.{Apart}
use Rattle.ca_commit.proofs.Seats.{some_same, first_same, second_same}
use Rattle.ca_alone.specs.Reading.{ReadsOff, lane_read, task_number}

-- the counts with one more of task t
abbrev pub more_alts : OpView → ℕ → Desk → ℕ → ℕ
more_alts op t d u = cond (eqb t u) (alts_counted op (d.alts u)) (d.alts u)

more_here : (op : OpView) (t : ℕ) (d : Desk) → more_alts op t d t ≡ alts_counted op (d.alts t)
more_here op t d = ap (λ b. cond b (alts_counted op (d.alts t)) (d.alts t)) (eq-eqb t t refl)

more_apart : (op : OpView) (t u : ℕ) (d : Desk) → t ≢ u → more_alts op t d u ≡ d.alts u
more_apart op t u d ne = ap (λ b. cond b (alts_counted op (d.alts u)) (d.alts u)) (ne_eqb t u ne)

abbrev pub with_alts : OpView → ℕ → Desk → Desk
with_alts op t d = record d { alts = more_alts op t d }

abbrev pub Waiting : Type 0 → Type 0
Waiting A = ℕ → Option (Parked (TaskAgent A))

module _ {A : Type 0} where
  -- the counts of the tasks that stand in a part
  abbrev pub Counted : Desk → List (ℕ × TaskAgent A) → Type 0
  Counted d q = Each (λ x. x.1.alts ≡ d.alts x.0) q

  -- task t is in none of the shards
  abbrev pub NoOwner : ℕ → Waiting A → Type 0
  NoOwner t parked = (w u : ℕ) (a : TaskAgent A) → parked w ≡ Some (owner u a) → t ≢ u

  each_more : (op : OpView) (t : ℕ) (d : Desk) (q : List (ℕ × TaskAgent A)) → Apart t q → Counted d q → Counted (with_alts op t d) q
  each_more op t d [] a c = tt
  each_more op t d (x ∷ q) a c = (c.0 ∙ sym (more_apart op t x.0 d a.0), each_more op t d q a.1 c.1)

  pub map_snoc : (q : List (ℕ × TaskAgent A)) (x : ℕ × TaskAgent A) → map task_number (q ++ x ∷ []) ≡ map task_number q ++ x.0 ∷ []
  map_snoc [] x = refl
  map_snoc (y ∷ q) x = ap (λ l. y.0 ∷ l) (map_snoc q x)

  one_agent : (o : Option (ℕ × TaskAgent A)) (t u : ℕ) (a c : TaskAgent A) (f : ℕ → ℕ) → o ≡ Some (t, a) → a.alts ≡ f t → o ≡ Some (u, c) → c.alts ≡ f u
  one_agent o t u a c f e is k = let same = some_same (t, a) (u, c) (sym e ∙ k) in
      sym (ap (λ (z : TaskAgent A). z.alts) (second_same t u a c same)) ∙ is ∙ ap f (first_same t u a c same)

  empty_lane : {G : Type 0} (o : Option (ℕ × TaskAgent A)) (u : ℕ) (c : TaskAgent A) → o ≡ None → o ≡ Some (u, c) → G
  empty_lane o u c e k = absurd (let j : None ≡ Some (u, c) = sym e ∙ k in cc)

  -- the lane's task made an event, which was an alts or not
  pub counts_one : (l l2 : LaneView (TaskAgent A)) (q : List (ℕ × TaskAgent A)) (parked : Waiting A) (d : Desk) (op : OpView) (t : ℕ) (a a2 : TaskAgent A) → ReadsOff l q parked d → l.task ≡ Some (t, a) → Apart t q → NoOwner t parked
      → l2.task ≡ Some (t, a2) → a2.alts ≡ alts_counted op a.alts → l2.since ≡ l.since + 1 → l2.counts ≡ l.counts → ReadsOff l2 q parked (made_one (with_alts op t d))
  counts_one l l2 q parked d op t a a2 r on apart none on2 alts since counts = record {
    lane_is = ap event_counted (r.lane_is ∙ ap (λ o. lane_read o l.since) on) ∙ ap (λ n. Some (record { task = t; events = n })) (let z : suc l.since ≡ l2.since = omega (arith, since) in z) ∙ sym (ap (λ o. lane_read o l2.since) on2);
    ready_is = r.ready_is;
    tasks = r.tasks ∙ sym (ap (λ (c : Counts). c.tasks) counts);
    ports = r.ports ∙ sym (ap (λ (c : Counts). c.ports) counts);
    waits = r.waits ∙ sym (ap (λ (c : Counts). c.waits) counts);
    lane_counts = λ u c e. one_agent l2.task t u a2 c (more_alts op t d) on2 (alts ∙ ap (alts_counted op) (r.lane_counts t a on) ∙ sym (more_here op t d)) e;
    ready_counts = each_more op t d q apart r.ready_counts;
    parked_counts = λ w u c e. r.parked_counts w u c e ∙ sym (more_apart op t u d (none w u c e));
  }

  -- .. that isn't an alts; the worker may have given numbers, and asked the clock
  pub counts_on : (l l2 : LaneView (TaskAgent A)) (q : List (ℕ × TaskAgent A)) (parked : Waiting A) (d : Desk) (t : ℕ) (a a2 : TaskAgent A) (tasks ports waits : ℕ) (readings : List ℕ) → ReadsOff l q parked d → l.task ≡ Some (t, a)
      → l2.task ≡ Some (t, a2) → a2.alts ≡ a.alts → l2.since ≡ l.since + 1 → tasks ≡ l2.counts.tasks → ports ≡ l2.counts.ports → waits ≡ l2.counts.waits
      → ReadsOff l2 q parked (made_one (record d { tasks = tasks; ports = ports; waits = waits; readings = readings }))
  counts_on l l2 q parked d t a a2 tasks ports waits readings r on on2 alts since ts ps ws = record {
    lane_is = ap event_counted (r.lane_is ∙ ap (λ o. lane_read o l.since) on) ∙ ap (λ n. Some (record { task = t; events = n })) (let z : suc l.since ≡ l2.since = omega (arith, since) in z) ∙ sym (ap (λ o. lane_read o l2.since) on2);
    ready_is = r.ready_is;
    tasks = ts;
    ports = ps;
    waits = ws;
    lane_counts = λ u c e. one_agent l2.task t u a2 c d.alts on2 (alts ∙ r.lane_counts t a on) e;
    ready_counts = r.ready_counts;
    parked_counts = r.parked_counts;
  }

  -- it parks, and its agent is in a shard
  pub counts_parked : (l l2 : LaneView (TaskAgent A)) (q : List (ℕ × TaskAgent A)) (parked : Waiting A) (d : Desk) (op : OpView) (t wait : ℕ) (a a2 : TaskAgent A) → ReadsOff l q parked d → l.task ≡ Some (t, a) → Apart t q → NoOwner t parked
      → l2.task ≡ None → a2.alts ≡ alts_counted op a.alts → l2.counts ≡ record { tasks = l.counts.tasks; ports = l.counts.ports; waits = l.counts.waits + 1 } → wait ≡ suc d.waits
      → ReadsOff l2 q (update eqb parked wait (Some (owner t a2))) (left (record (with_alts op t d) { waits = wait }))
  counts_parked l l2 q parked d op t wait a a2 r on apart none off alts counts next = record {
    lane_is = sym (ap (λ o. lane_read o l2.since) off);
    ready_is = r.ready_is;
    tasks = r.tasks ∙ sym (ap (λ (c : Counts). c.tasks) counts);
    ports = r.ports ∙ sym (ap (λ (c : Counts). c.ports) counts);
    waits = next ∙ ap suc r.waits ∙ (let z : suc l.counts.waits ≡ l.counts.waits + 1 = omega arith in z) ∙ sym (ap (λ (c : Counts). c.waits) counts);
    lane_counts = λ u c e. empty_lane l2.task u c off e;
    ready_counts = each_more op t d q apart r.ready_counts;
    parked_counts = λ w u c e. by w u c (eqb wait w) e;
  } where
    by : (w u : ℕ) (c : TaskAgent A) (b : Bool) → cond b (Some (owner t a2)) (parked w) ≡ Some (owner u c) → c.alts ≡ more_alts op t d u
    by w u c true e = (let k : owner t a2 ≡ owner u c = some_same (owner t a2) (owner u c) e in let tu : t ≡ u = cc in let ac : a2 ≡ c = cc in
        sym (ap (λ (z : TaskAgent A). z.alts) ac) ∙ alts ∙ ap (alts_counted op) (r.lane_counts t a on) ∙ sym (more_here op t d) ∙ ap (more_alts op t d) tu)
    by w u c false e = r.parked_counts w u c e ∙ sym (more_apart op t u d (none w u c e))

  -- it is over
  pub counts_less : (l l2 : LaneView (TaskAgent A)) (q : List (ℕ × TaskAgent A)) (parked : Waiting A) (d : Desk) → ReadsOff l q parked d → l2.task ≡ None → l2.counts ≡ l.counts → ReadsOff l2 q parked (left d)
  counts_less l l2 q parked d r off counts = record {
    lane_is = sym (ap (λ o. lane_read o l2.since) off);
    ready_is = r.ready_is;
    tasks = r.tasks ∙ sym (ap (λ (c : Counts). c.tasks) counts);
    ports = r.ports ∙ sym (ap (λ (c : Counts). c.ports) counts);
    waits = r.waits ∙ sym (ap (λ (c : Counts). c.waits) counts);
    lane_counts = λ u c e. empty_lane l2.task u c off e;
    ready_counts = r.ready_counts;
    parked_counts = r.parked_counts;
  }

  -- a task that is new, or was woken, stands last in the ready part
  pub counts_joined : (l : LaneView (TaskAgent A)) (q : List (ℕ × TaskAgent A)) (parked : Waiting A) (d : Desk) (u : ℕ) (a : TaskAgent A) → ReadsOff l q parked d → a.alts ≡ d.alts u → ReadsOff l (q ++ (u, a) ∷ []) parked (joined_by (Some u) d)
  counts_joined l q parked d u a r alts = record {
    lane_is = r.lane_is;
    ready_is = ap (λ l. l ++ u ∷ []) r.ready_is ∙ sym (map_snoc q (u, a));
    tasks = r.tasks;
    ports = r.ports;
    waits = r.waits;
    lane_counts = r.lane_counts;
    ready_counts = each-append (λ x. x.1.alts ≡ d.alts x.0) q ((u, a) ∷ []) r.ready_counts (alts, tt);
    parked_counts = r.parked_counts;
  }

  -- no owner came to the shards
  pub counts_fewer : (l : LaneView (TaskAgent A)) (q : List (ℕ × TaskAgent A)) (parked parked2 : Waiting A) (d : Desk) → ReadsOff l q parked d → ((w u : ℕ) (a : TaskAgent A) → parked2 w ≡ Some (owner u a) → parked w ≡ Some (owner u a)) → ReadsOff l q parked2 d
  counts_fewer l q parked parked2 d r fewer = record {
    lane_is = r.lane_is;
    ready_is = r.ready_is;
    tasks = r.tasks;
    ports = r.ports;
    waits = r.waits;
    lane_counts = r.lane_counts;
    ready_counts = r.ready_counts;
    parked_counts = λ w u a e. r.parked_counts w u a (fewer w u a e);
  }

  -- a wait left its shard
  pub owner_left : (parked parked2 : Waiting A) (wait : ℕ) → ((w : ℕ) → parked2 w ≡ update eqb parked wait None w) → (w u : ℕ) (a : TaskAgent A) → parked2 w ≡ Some (owner u a) → parked w ≡ Some (owner u a)
  owner_left parked parked2 wait is w u a e = by (eqb wait w) (sym (is w) ∙ e) where
    by : (b : Bool) → cond b None (parked w) ≡ Some (owner u a) → parked w ≡ Some (owner u a)
    by true k = absurd (let j : None ≡ Some (owner u a) = k in cc)
    by false k = k

  -- nobody came to a shard with a new wait
  pub owner_stays : (parked parked2 : Waiting A) (wait : ℕ) → ((w : ℕ) → parked2 w ≡ update eqb parked wait (Some nobody) w) → (w u : ℕ) (a : TaskAgent A) → parked2 w ≡ Some (owner u a) → parked w ≡ Some (owner u a)
  owner_stays parked parked2 wait is w u a e = by (eqb wait w) (sym (is w) ∙ e) where
    by : (b : Bool) → cond b (Some nobody) (parked w) ≡ Some (owner u a) → parked w ≡ Some (owner u a)
    by true k = absurd (let j : nobody ≡ owner u a = some_same nobody (owner u a) k in cc)
    by false k = k
