-- What is made and asked for a plan's event leaves what is held as it was, as far as others see it.
use Rattle.std.proofs.Common.{◌≡◌, ◌∙◌, ℕ, ◌<◌, ◌≤◌, ◌^◌, List, refl, sym, ap, subst, Option, Some, None, is_some}
use Rattle.ca_timers.specs.Readings.{Tells}
use Rattle.ca_timers.specs.Timers.{TimersView}
use Rattle.ca_term.specs.Operation.{SeedView, WantView, WhatView, dropping, fixed, mix, mult, promise, publication, sliding, spawning, timeout, unbuffered}
use Rattle.ca_term.specs.Program.{ProgramView}
use Rattle.ca_meaning.specs.Body.{At, at_op}
use Rattle.ca_commit.specs.Agents.{starts_of}
use Rattle.ca_commit.specs.Applying.{HasParts, IsMade}
use Rattle.ca_commit.specs.Contents.{TimersPart, home}
use Rattle.ca_commit.specs.NewPort.{HasTimers, Times, times_in, times_of}
use Rattle.ca_commit.specs.Planning.{Planned, to_close, to_default, to_do, to_look, to_make, to_meet, to_park, to_post, to_print, to_prune, to_refuse, to_register, to_spawn}
use Rattle.ca_commit.specs.Showing.{channels_held, registries_held, waits_held}
use Rattle.ca_commit.specs.TaskMoves.{GoOnBy}
use Rattle.ca_commit.specs.Tasks.{agent_of}
use Rattle.ca_commit.specs.Waking.{ready_in}
use Rattle.ca_commit.specs.declared.held.Held.{Held}
use Rattle.ca_commit.specs.declared.planned.Plan.{Plan}
use Rattle.ca_commit.specs.declared.planned.Plan.TheVariants as P
use Rattle.ca_commit.specs.declared.task.Task.{Task}
use Rattle.ca_table.specs.Bearing.{ShowSame}
use Rattle.ca_table.specs.Needing.{is_timeout, needs_ready, needs_timers}
use Rattle.ca_table.specs.Parts.{clockwork_seen, mark_view}
use Rattle.ca_pool.specs.AtEvent.{SameNext}
use Rattle.ca_pool.specs.Desk.{ClockBox, SameNumbers}
use Rattle.ca_pool.specs.Preparing.{ButTimers, HasRest, ClockAnswered, StartsFor, clock_with, in_place}

-- a clock that tells its answers goes on by one
pub tells_on : (old new : Option (List ℕ)) (m : ℕ) → Tells old new m → GoOnBy m old new
tells_on None new m t = tt
tells_on (Some told) None m t = absurd t
tells_on (Some told) (Some now) m t = ap Some t

-- with other timers in place of its own
pub answered_in : (m : ℕ) (c c2 : TimersPart) (o : Option TimersView) → ClockAnswered m c c2 → ClockAnswered m (in_place c o) (in_place c2 o)
answered_in m c c2 None a = a
answered_in m c c2 (Some t) a = record { deadlines = refl; now = refl; later = a.later; bound = a.bound; least = a.least; faults = a.faults; readings = a.readings; mark = a.mark }

has_timers : (what : WhatView) (o : Option TimersView) → is_some o ≡ is_timeout what → HasTimers what o
has_timers (timeout n) o e = e
has_timers unbuffered o e = tt
has_timers (fixed n) o e = tt
has_timers (dropping n) o e = tt
has_timers (sliding n) o e = tt
has_timers promise o e = tt
has_timers (mult s) o e = tt
has_timers (mix a b) o e = tt
has_timers (publication s) o e = tt

module _ {A : Type 0} where
  pub shown_itself : (h : Held A) → ShowSame h h
  shown_itself h = record { channels = λ i. refl; registries = λ i. refl; waits = λ i. refl; ready = refl }

  pub shown_both : (x y z : Held A) → ShowSame x y → ShowSame y z → ShowSame x z
  shown_both x y z a b = record { channels = λ i. b.channels i ∙ a.channels i; registries = λ i. b.registries i ∙ a.registries i; waits = λ i. b.waits i ∙ a.waits i; ready = b.ready ∙ a.ready }

  pub shown_times : (x y : Held A) → ButTimers x y → ShowSame x y
  shown_times x y b = record { channels = λ i. ap (λ s. channels_held s i) b.banks; registries = λ i. ap (λ s. registries_held s i) b.banks; waits = λ i. ap (λ s. waits_held s i) b.shards; ready = ap ready_in b.ready }

  pub next_itself : (h : Held A) → SameNext h h
  next_itself h = record { task = refl; port = refl; wait = refl }

  pub next_both : (x y z : Held A) → SameNext x y → SameNext y z → SameNext x z
  next_both x y z a b = record { task = b.task ∙ a.task; port = b.port ∙ a.port; wait = b.wait ∙ a.wait }

  pub next_of : (x y : Held A) → SameNumbers x y → SameNext x y
  next_of x y n = record { task = n.task; port = n.port; wait = n.wait }

  -- all that the event needs is held
  pub all_parts : (q : Planned) (old new : Held A) → HasRest old q → ((i : ℕ) → is_some (channels_held new.banks i) ≡ is_some (channels_held old.banks i)) → ((i : ℕ) → is_some (waits_held new.shards i) ≡ is_some (waits_held old.shards i)) → SameNext old new
      → is_some new.ready ≡ needs_ready q → is_some new.timers ≡ needs_timers q → HasParts new q
  all_parts (to_meet k b alts w o) old new rest banks shards next ready timers = ready
  all_parts (to_park bs) old new rest banks shards next ready timers = shards (home new.new_wait) ∙ ap (λ (k : ℕ). is_some (waits_held old.shards (home k))) next.wait ∙ rest
  all_parts (to_post bs) old new rest banks shards next ready timers = shards (home new.new_wait) ∙ ap (λ (k : ℕ). is_some (waits_held old.shards (home k))) next.wait ∙ rest
  all_parts (to_make what) old new rest banks shards next ready timers = (banks (home new.new_port) ∙ ap (λ (k : ℕ). is_some (channels_held old.banks (home k))) next.port ∙ rest, has_timers what new.timers timers)
  all_parts (to_spawn kind r) old new rest banks shards next ready timers = ready
  all_parts (to_do k b alts) old new rest banks shards next ready timers = tt
  all_parts (to_default v) old new rest banks shards next ready timers = tt
  all_parts (to_close p) old new rest banks shards next ready timers = tt
  all_parts (to_register name args) old new rest banks shards next ready timers = tt
  all_parts (to_print line) old new rest banks shards next ready timers = tt
  all_parts (to_look v) old new rest banks shards next ready timers = tt
  all_parts (to_prune p side i) old new rest banks shards next ready timers = tt
  all_parts (to_refuse f) old new rest banks shards next ready timers = tt

  -- what was made is there, whatever the clock answered
  pub made_still : (place : A → At) (h : Held A) (m : ℕ) (p : Plan) → IsMade place h p → IsMade place (record h { moment = m }) p
  made_still place h m (P.Done c) e = e
  made_still place h m (P.Meet c w o) e = e
  made_still place h m (P.Park j) e = e
  made_still place h m (P.Post j) e = e
  made_still place h m (P.Default v) e = e
  made_still place h m (P.Make what) e = e
  made_still place h m (P.Spawn kind r) e = e
  made_still place h m (P.Close p) e = e
  made_still place h m (P.Register name args again) e = e
  made_still place h m (P.Print line) e = e
  made_still place h m (P.Look w) e = e
  made_still place h m (P.Prune p side i) e = e
  made_still place h m (P.Refused f) e = e

of_times : TimersPart → Times → TimersPart
of_times c t = record { deadlines = t.deadlines; now = t.now; least = c.least; faults = c.faults; readings = c.readings; mark = c.mark }

some_times : (x y : Times) → Some x ≡ Some y → x ≡ y
some_times x y e = cc

place_same : (c : TimersPart) (o z : Option TimersView) → times_in z ≡ times_in o → in_place c z ≡ in_place c o
unfolding of_times
place_same c None None e = refl
place_same c None (Some t) e = absurd (let k : Some (times_of t) ≡ None = e in cc)
place_same c (Some t) None e = absurd (let k : None ≡ Some (times_of t) = e in cc)
place_same c (Some t) (Some u) e = ap (of_times c) (some_times (times_of u) (times_of t) e)

-- what reserving leaves of the timers is what the clockwork shows
pub times_same : {C : Type 0} (least faults : C → ℕ) (readings : C → Option (List ℕ)) (clock : Option (ClockBox C)) (o z : Option TimersView) → times_in z ≡ times_in o → clock_with least faults readings clock z ≡ clock_with least faults readings clock o
times_same least faults readings None o z e = refl
times_same least faults readings (Some c) o z e = ap Some (place_same (clockwork_seen least faults readings c.value) o z e)

pub times_there : (o z : Option TimersView) → times_in z ≡ times_in o → is_some z ≡ is_some o
times_there None None e = refl
times_there None (Some t) e = absurd (let k : Some (times_of t) ≡ None = e in cc)
times_there (Some t) None e = absurd (let k : None ≡ Some (times_of t) = e in cc)
times_there (Some t) (Some u) e = refl

same_want : (x y : WantView) → at_op x ≡ at_op y → x ≡ y
same_want x y e = cc

same_seed : (x y : SeedView) → spawning x ≡ spawning y → x ≡ y
same_seed x y e = cc

-- the task of the seed that the operation starts
pub starts_for : {A : Type 0} (place : A → At) (starts : ProgramView → SeedView → A → Type 0) (program : ProgramView) (task s : Task A) (w : WantView) (seed : SeedView) → place task.agent ≡ at_op w → w.op ≡ spawning seed → starts_of starts program seed (agent_of s) → StartsFor place starts program task s
starts_for place starts program task s w seed at op st = λ want is other e. subst (λ (x : SeedView). starts_of starts program x (agent_of s)) (same_seed seed other (sym op ∙ ap (λ (x : WantView). x.op) (same_want w want (sym at ∙ is)) ∙ e)) st

module _ {C : Type 0} (least faults : C → ℕ) (readings : C → Option (List ℕ)) where
  abbrev works : ClockBox C → TimersPart
  works c = clockwork_seen least faults readings c.value

  -- the timers stand beside the clockwork, or in it
  pub seen_parted : (c0 c : ClockBox C) (t : TimersView) → t ≡ c0.value.timers → c.value.clock ≡ c0.value.clock → c.value.mark ≡ c0.value.mark → in_place (works c) (Some t) ≡ works c0
  seen_parted c0 c t times clock mark = λ i. record { deadlines = (times i).deadlines; now = (times i).moment; least = least (clock i); faults = faults (clock i); readings = readings (clock i); mark = mark_view (mark i) }

  -- the clock was asked, and the rest stayed
  pub seen_asked : (m : ℕ) (c c2 : ClockBox C) → c2.value.timers ≡ c.value.timers → c2.value.mark ≡ c.value.mark → least c.value.clock ≤ m → m < 2 ^ 62 → least c2.value.clock ≡ m → faults c2.value.clock ≡ faults c.value.clock → Tells (readings c.value.clock) (readings c2.value.clock) m → ClockAnswered m (works c) (works c2)
  seen_asked m c c2 times mark later bound now fault tells = record {
    deadlines = ap (λ t. t.deadlines) times;
    now = ap (λ t. t.moment) times;
    later = later;
    bound = bound;
    least = now;
    faults = fault;
    readings = tells_on (readings c.value.clock) (readings c2.value.clock) m tells;
    mark = ap mark_view mark;
  }

  -- it was not asked
  pub seen_still : (c c2 : ClockBox C) (o : Option TimersView) → c2.value.timers ≡ c.value.timers → c2.value.mark ≡ c.value.mark → least c2.value.clock ≡ least c.value.clock → faults c2.value.clock ≡ faults c.value.clock → readings c2.value.clock ≡ readings c.value.clock → Some (in_place (works c2) o) ≡ Some (in_place (works c) o)
  seen_still c c2 o times mark l f r = ap (λ z. Some (in_place z o)) (λ i. record { deadlines = (times i).deadlines; now = (times i).moment; least = l i; faults = f i; readings = r i; mark = mark_view (mark i) })
