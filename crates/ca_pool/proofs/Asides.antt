-- What a worker draws beside its lane: what a channel served, what the clock did, and what it answered to a mark.
use Rattle.std.proofs.Common.{◌≡◌, ◌≢◌, ◌∙◌, ℕ, ◌+◌, ◌<◌, List, [], ◌∷◌, ◌++◌, refl, sym, ap, subst, arith, Bool, true, false, cond, Option, Some, None, eqb, eq-eqb, is_some}
use Rattle.std.specs.Prelude.{option_map}
use Rattle.ca_value.specs.Tree.{Tree}
use Rattle.ca_value.specs.Deadlines.{due, open_after}
use Rattle.ca_term.specs.declared.event.Event.{Event}
use Rattle.ca_term.specs.declared.event.Side.{Side}
use Rattle.ca_term.specs.Cost.{cost_of}
use Rattle.ca_term.specs.Event.{EventView, event_view, ticked}
use Rattle.ca_term.specs.Operation.{SeedView}
use Rattle.ca_term.specs.Program.{ProgramView}
use Rattle.ca_agent.specs.Agents.{StaysOverCode}
use Rattle.ca_bank.specs.Kept.{closed_channel}
use Rattle.ca_meaning.specs.Body.{At}
use Rattle.ca_meaning.specs.Cost.{cost}
use Rattle.ca_meaning.specs.Task.{reply_at}
use Rattle.ca_meaning.specs.Wait.{is_among, told}
use Rattle.ca_commit.specs.Agents.{TaskAgent}
use Rattle.ca_commit.specs.Contents.{Kept, Parked, Parts, TimersPart, clock_failed, home, nobody, owner, stopped, whole}
use Rattle.ca_commit.specs.EventMoves.{times_shown}
use Rattle.ca_commit.specs.Finding.{serves}
use Rattle.ca_commit.specs.Listing.{changed_at, listed}
use Rattle.ca_commit.specs.Listings.{parts}
use Rattle.ca_commit.specs.Moving.{MovesTurn}
use Rattle.ca_commit.specs.Numbers.{number_of_bank, number_of_shard}
use Rattle.ca_commit.specs.Running.{Placed}
use Rattle.ca_commit.specs.Settling.{IsSettled, served_in, settle_change, value_settled}
use Rattle.ca_commit.specs.Showing.{bank_in, channels_held, registries_held, shard_in, waits_held}
use Rattle.ca_commit.specs.SilentMoves.{Asked, Failed, Marked, MovesTimers, Stopped}
use Rattle.ca_commit.specs.TaskMoves.{GoOnBy, MovesTick, ReadsClock, stop_marked, with_mark}
use Rattle.ca_commit.specs.Tasks.{tasks_in}
use Rattle.ca_commit.specs.Ticking.{closed_all}
use Rattle.ca_commit.specs.Touched as said
use Rattle.ca_commit.specs.Waking.{WakesBy, ready_in}
use Rattle.ca_commit.specs.declared.held.Held.{Held}
use Rattle.ca_commit.specs.declared.held.HeldBank.{HeldBank}
use Rattle.ca_commit.proofs.EventMoves.{tick_moves}
use Rattle.ca_states.specs.Code.{CodeView}
use Rattle.ca_states.specs.ValidCode.{valid_code}
use Rattle.ca_states.specs.declared.valid_code.ValidCode.{ValidCode}
use Rattle.ca_table.specs.Bearing.{ShowSame, parts_held}
use Rattle.ca_table.specs.Carriers.{IsMoved, is_now, was}
use Rattle.ca_table.specs.Carrying.{Carries}
use Rattle.ca_table.specs.Covering.{turn_names}
use Rattle.ca_table.specs.Draws.{MayHold}
use Rattle.ca_table.specs.Needing.{Brings, drawn_with}
use Rattle.ca_table.specs.OneCode.{advances_over, gives_over, starts_over}
use Rattle.ca_table.specs.Parts.{clockwork_seen, part_seen}
use Rattle.ca_table.specs.Seen.{PartSeen}
use Rattle.ca_table.specs.declared.part.Contents.TheVariants as V
use Rattle.ca_table.specs.declared.part.Lane.{Lane}
use Rattle.ca_table.specs.declared.part.Part.{Part}
use Rattle.ca_table.proofs.Bearing.{both_carried}
use Rattle.ca_table.proofs.MadeOf.{all_alike, bears}
use Rattle.ca_table.proofs.Needing.{BanksOf, covers_by}
use Rattle.ca_table.proofs.SettleMoved.{settles_draw}
use Rattle.ca_table.proofs.Staying.{changed_still, shows_there}
use Rattle.ca_pool.specs.Asking.{HasBanksOf, HasFailed, IsAsked, SameTimes, TimesBy, moment_passed}
use Rattle.ca_pool.specs.Desk.{ClockBox, IsMovedWith, SameHeld, holds_banks, holds_shards, laid_aside}
use Rattle.ca_pool.proofs.Desk.{aside_brings, aside_turned, lies_there, some_map}

-- a part is there where what it shows is
there_by : {T V : Type 0} (view : T → V) (o z : Option T) → is_some (option_map view z) ≡ is_some (option_map view o) → is_some z ≡ is_some o
there_by view o z e = sym (shows_there view z) ∙ e ∙ shows_there view o

-- the same parts are held where they show the same
pub same_shown : {A C : Type 0} (clock0 clock : Option (ClockBox C)) (old new : Held A) → is_some clock ≡ is_some clock0 → ShowSame old new → SameHeld clock0 clock old new
same_shown clock0 clock old new e s = record {
  banks = λ i. there_by bank_in (listed number_of_bank (parts old.banks) i) (listed number_of_bank (parts new.banks) i) (ap is_some (s.channels i));
  shards = λ i. there_by shard_in (listed number_of_shard (parts old.shards) i) (listed number_of_shard (parts new.shards) i) (ap is_some (s.waits i));
  ready = there_by tasks_in old.ready new.ready (ap is_some s.ready);
  timers = e;
}

-- a task that is woken is over the code where it was
pub wakes_over : {A : Type 0} (over : CodeView → A → Type 0) (code : CodeView) (place : A → At) (gives : A → Tree → A → Type 0) → StaysOverCode over gives → (o : Option (Parked (TaskAgent A))) (p : ℕ) (v : Tree) (old new : Option (List (ℕ × TaskAgent A))) → WakesBy place gives o p v old new → WakesBy place (gives_over over code gives) o p v old new
wakes_over over code place gives law None p v old new w = w
wakes_over over code place gives law (Some nobody) p v old new w = w
wakes_over over code place gives law (Some (owner u a)) p v old new w = (w.0, w.1, w.2, (w.3, law code a.agent w.0.agent (reply_at (place a.agent) p v) w.3), w.4)

woken_there : {A : Type 0} (place : A → At) (gives : A → Tree → A → Type 0) (o : Option (Parked (TaskAgent A))) (p : ℕ) (v : Tree) (old new : Option (List (ℕ × TaskAgent A))) → WakesBy place gives o p v old new → is_some new ≡ is_some old
woken_there place gives None p v old new w = ap is_some w
woken_there place gives (Some nobody) p v old new w = ap is_some w
woken_there place gives (Some (owner u a)) p v old new w = ap is_some w.4 ∙ some_map (λ q. q ++ (u, w.0) ∷ []) old

module _ {A : Type 0} (place : A → At) (gives : A → Tree → A → Type 0) (held held2 : Held A) (p wait o : ℕ) (side : Side) (e : Event) (s : IsSettled place gives held held2 p side wait o e) where
  abbrev value : Tree
  value = value_settled side (whole (channels_held held.banks) p)

  -- settling leaves which parts are held
  pub settled_held : {C : Type 0} (clock : Option (ClockBox C)) → SameHeld clock clock held held2
  settled_held clock = record {
    banks = λ i. there_by bank_in (listed number_of_bank (parts held.banks) i) (listed number_of_bank (parts held2.banks) i) (ap is_some (s.channels i) ∙ changed_still p (option_map (settle_change side value)) (channels_held held.banks) i);
    shards = λ i. there_by shard_in (listed number_of_shard (parts held.shards) i) (listed number_of_shard (parts held2.shards) i) (ap is_some (s.waits i) ∙ changed_still wait (λ z. None) (waits_held held.shards) i);
    ready = there_by tasks_in held.ready held2.ready (woken_there place gives (whole (waits_held held.shards) wait) p (told side value) (ready_in held.ready) (ready_in held2.ready) s.wakes);
    timers = refl;
  }

  pub settled_over : (over : CodeView → A → Type 0) (code : CodeView) → StaysOverCode over gives → IsSettled place (gives_over over code gives) held held2 p side wait o e
  settled_over over code law = record {
    event = s.event;
    channels = s.channels;
    registries = s.registries;
    waits = s.waits;
    wakes = wakes_over over code place gives law (whole (waits_held held.shards) wait) p (told side value) (ready_in held.ready) (ready_in held2.ready) s.wakes;
    numbers = s.numbers;
  }

still_one : (p : ℕ) (ps : List ℕ) (m : ℕ → Option (ℕ → Option Kept)) (i : ℕ) → is_some (closed_all ps (changed_at p (option_map closed_channel) m) i) ≡ is_some (changed_at p (option_map closed_channel) m i) → is_some (closed_all (p ∷ ps) m i) ≡ is_some (m i)
still_one p ps m i e = e ∙ changed_still p (option_map closed_channel) m i

-- closing channels leaves which banks there are
all_still : (ps : List ℕ) (m : ℕ → Option (ℕ → Option Kept)) (i : ℕ) → is_some (closed_all ps m i) ≡ is_some (m i)
all_still [] m i = refl
all_still (p ∷ ps) m i = still_one p ps m i (all_still ps (changed_at p (option_map closed_channel) m) i)

-- what holds of all that are among them holds of all of them
all_in : (P : ℕ → Type 0) (ps : List ℕ) → ((p : ℕ) → is_among p ps ≡ true → P p) → said.AllHave P ps
all_in P [] h = tt
all_in P (p ∷ ps) h = (h p (ap (λ b. cond b true (is_among p ps)) (eq-eqb p p refl)), all_in P ps (λ q among. h q (by (eqb q p) among))) where
  by : (b : Bool) {c : Bool} → c ≡ true → cond b true c ≡ true
  by true e = refl
  by false e = e

module _ {A C : Type 0} (least faults : C → ℕ) (readings : C → Option (List ℕ)) (clock0 clock : ClockBox C) (held0 held : Held A) (m : ℕ) (c1 : TimersPart) (e : EventView) where
  abbrev was_so : TimersPart
  was_so = clockwork_seen least faults readings clock0.value

  abbrev is_so : TimersPart
  is_so = clockwork_seen least faults readings clock.value

  abbrev ps : List ℕ
  ps = due m c1.deadlines

  -- the tick of moment m, where the clock was asked and its answer left the timers as c1
  pub record Ticks : Type 0 where
    pub asked : IsAsked m was_so c1
    pub passed_by : is_so ≡ moment_passed m c1
    pub event : e ≡ ticked m ps
    pub some : ps ≢ []
    pub placed : Placed (channels_held held0.banks)
    pub there : HasBanksOf held0 ps
    pub channels : (i : ℕ) → channels_held held.banks i ≡ closed_all ps (channels_held held0.banks) i
    pub registries : (i : ℕ) → registries_held held.banks i ≡ registries_held held0.banks i
    pub shards : held.shards ≡ held0.shards
    pub ready : held.ready ≡ held0.ready
    pub none : held0.ready ≡ None

module _ {A C : Type 0} (over : CodeView → A → Type 0) (place : A → At) (advances : ProgramView → A → A → Type 0) (gives : A → Tree → A → Type 0) (starts : ProgramView → SeedView → A → Type 0) (least faults : C → ℕ) (readings : C → Option (List ℕ)) (code : ValidCode) (n w : ℕ) (l : Lane A) where
  abbrev seen : Part A C → PartSeen A
  seen = part_seen least faults readings

  abbrev Turns : said.Turn → Parts (TaskAgent A) → Parts (TaskAgent A) → Type 0
  Turns = MovesTurn place (advances_over over (valid_code code) advances) (gives_over over (valid_code code) gives) (starts_over over (valid_code code) starts) w n

  -- what a channel served
  pub served_moved : (law : StaysOverCode over gives) (held held2 : Held A) (p wait o : ℕ) (side : Side) (e : Event) → served_in held p ≡ serves side wait o → is_some held.ready ≡ true → IsSettled place gives held held2 p side wait o e
      → IsMovedWith over place advances gives starts seen code n w (holds_banks held2) (holds_shards held2) (said.shown (event_view e)) (laid_aside seen n code w l None held None held2)
  served_moved law held held2 p wait o side e served ready s ports looked banks shards =
      let same = settled_held place gives held held2 p wait o side e s {C = C} None in
      settles_draw over place advances gives starts seen code w n p wait o side (laid_aside seen n code w l None held None held2) held held2 e ports looked
      (aside_turned least faults readings n code w l None None held held2 same) refl served ready (settled_over place gives held held2 p wait o side e s over (valid_code code) law)
      (aside_brings least faults readings n code w l None None held held2 same ports looked false true banks shards refl (sym (same.ready ∙ ready)))

  -- what is drawn over the timers, and whatever is held beside them
  module _ (clock0 clock : ClockBox C) (held0 held : Held A) (same : SameHeld (Some clock0) (Some clock) held0 held) (what : said.Turn) (ports looked : List ℕ)
      (banks : (i : ℕ) → i < 16 → said.homes ports i ≡ holds_banks held i) (shards : (i : ℕ) → i < 16 → said.homes looked i ≡ holds_shards held i) (ready : held.ready ≡ None) where
    abbrev h : Carries (Part A C × PartSeen A)
    h = laid_aside seen n code w l (Some clock0) held0 (Some clock) held

    abbrev c0 : Option TimersPart
    c0 = Some (clockwork_seen least faults readings clock0.value)

    abbrev c1 : Option TimersPart
    c1 = Some (clockwork_seen least faults readings clock.value)

    clock_moved : (x : said.NamedParts) → what ≢ said.stalls → turn_names w what ≡ x → x.lane ≡ false → x.timers ≡ true → x.ready ≡ None → BanksOf h x.ports → x.waits ≡ []
        → Turns what (parts_held w None c0 held0) (parts_held w None c1 held) → IsMoved over place advances gives starts seen code n w (drawn_with w n what ports looked) h
    clock_moved x some names lane timed none banks_of no_waits turns =
        let t = aside_turned least faults readings n code w l (Some clock0) (Some clock) held0 held same in
        let a = bears n w was h None c0 held0 t.before in
        let b = bears n w (is_now seen) h None c1 held t.after in
        record {
          by = refl;
          of = refl;
          covers = covers_by h w n what ports looked x some names lane brings banks_of (subst (λ (v : List ℕ). said.AllHave (λ v. is_some (h.shards (home v)) ≡ true) v) (sym no_waits) tt);
          alike = all_alike n w was (is_now seen) h None None c0 c1 held0 held t.before t.after;
          moves = both_carried was (is_now seen) w h None None c0 c1 held0 held a b (Turns what) turns;
        } where
          brings : Brings ports looked x.timers x.ready h
          brings = subst (λ (b : Bool). Brings ports looked b x.ready h) (sym timed) (subst (λ (o : Option ℕ). Brings ports looked true o h) (sym none)
              (aside_brings least faults readings n code w l (Some clock0) (Some clock) held0 held same ports looked true false banks shards refl (sym (ap is_some ready))))

  silent_moves : (How : TimersPart → TimersPart → Type 0) (c c2 : TimersPart) (held0 held : Held A) → ShowSame held0 held → SameTimes c c2 → How c c2 → MovesTimers How (parts_held w None (Some c) held0) (parts_held w None (Some c2) held)
  silent_moves How c c2 held0 held show same how = record {
    clock = c;
    clock2 = c2;
    was = refl;
    is = refl;
    deadlines = same.deadlines;
    now = same.now;
    least = same.least;
    how = how;
    banks = show.channels;
    registries = show.registries;
    lanes = λ i. refl;
    shards = show.waits;
    readys = λ r. ap (λ o. cond (eqb w r) o None) show.ready;
  }

  -- what a clockwork shows
  abbrev shows : ClockBox C → TimersPart
  shows clock = clockwork_seen least faults readings clock.value

  -- a silent event of the timers
  pub timed_moved : (clock0 clock : ClockBox C) (held0 held : Held A) (what : said.Turn) → ShowSame held0 held → held.ready ≡ None → TimesBy what (clockwork_seen least faults readings clock0.value) (clockwork_seen least faults readings clock.value)
      → IsMovedWith over place advances gives starts seen code n w (holds_banks held) (holds_shards held) what (laid_aside seen n code w l (Some clock0) held0 (Some clock) held)
  timed_moved clock0 clock held0 held what show ready t ports looked banks shards = by what t where
    same : SameHeld (Some clock0) (Some clock) held0 held
    same = same_shown (Some clock0) (Some clock) held0 held refl show

    equal : (shows clock) ≡ with_mark stopped (shows clock0) → SameTimes (shows clock0) (shows clock)
    equal e = record { deadlines = ap (λ (x : TimersPart). x.deadlines) e; now = ap (λ (x : TimersPart). x.now) e; least = let k : (shows clock).least ≡ (shows clock0).least = ap (λ (x : TimersPart). x.least) e in omega (arith, k) }

    kept : (shows clock) ≡ (shows clock0) → SameTimes (shows clock0) (shows clock)
    kept e = record { deadlines = ap (λ (x : TimersPart). x.deadlines) e; now = ap (λ (x : TimersPart). x.now) e; least = let k : (shows clock).least ≡ (shows clock0).least = ap (λ (x : TimersPart). x.least) e in omega (arith, k) }

    by : (what : said.Turn) → TimesBy what (shows clock0) (shows clock) → IsMoved over place advances gives starts seen code n w (drawn_with w n what ports looked) (laid_aside seen n code w l (Some clock0) held0 (Some clock) held)
    by said.asks_clock t = clock_moved clock0 clock held0 held same said.asks_clock ports looked banks shards ready said.only_timers (λ e. cc) refl refl refl refl tt refl (silent_moves Asked (shows clock0) (shows clock) held0 held show t.0 t.1)
    by said.fails t = clock_moved clock0 clock held0 held same said.fails ports looked banks shards ready said.only_timers (λ e. cc) refl refl refl refl tt refl (silent_moves Failed (shows clock0) (shows clock) held0 held show t.0 t.1)
    by said.stops t = clock_moved clock0 clock held0 held same said.stops ports looked banks shards ready said.only_timers (λ e. cc) refl refl refl refl tt refl (silent_moves Stopped (shows clock0) (shows clock) held0 held show (equal t) t)
    by said.halts t = clock_moved clock0 clock held0 held same said.halts ports looked banks shards ready said.only_timers (λ e. cc) refl refl refl refl tt refl (silent_moves Marked (shows clock0) (shows clock) held0 held show (kept t.0) t)
    by (said.shown e) t = absurd t
    by (said.picks r) t = absurd t
    by said.yields t = absurd t
    by (said.prunes side p wait) t = absurd t
    by said.stalls t = absurd t

  -- what is due at m closes
  module _ (clock0 clock : ClockBox C) (held0 held : Held A) (m : ℕ) (c1 : TimersPart) (e : EventView) where
    pub ticked_held : Ticks least faults readings clock0 clock held0 held m c1 e → SameHeld (Some clock0) (Some clock) held0 held
    ticked_held t = record {
      banks = λ i. there_by bank_in (listed number_of_bank (parts held0.banks) i) (listed number_of_bank (parts held.banks) i) (ap is_some (t.channels i) ∙ all_still (due m c1.deadlines) (channels_held held0.banks) i);
      shards = λ i. ap (λ s. is_some (listed number_of_shard (parts s) i)) t.shards;
      ready = ap is_some t.ready;
      timers = refl;
    }

    reads : Ticks least faults readings clock0 clock held0 held m c1 e → ReadsClock m (clockwork_seen least faults readings clock0.value) (clockwork_seen least faults readings clock.value)
    reads t = let q = t.passed_by in record {
      now = ap (λ (x : TimersPart). x.now) q;
      later = t.asked.later;
      least = ap (λ (x : TimersPart). x.least) q ∙ t.asked.least;
      faults = ap (λ (x : TimersPart). x.faults) q ∙ t.asked.faults;
      readings = subst (λ (r : Option (List ℕ)). GoOnBy m (clockwork_seen least faults readings clock0.value).readings r) (sym (ap (λ (x : TimersPart). x.readings) q)) t.asked.readings;
      mark = ap (λ (x : TimersPart). x.mark) q ∙ t.asked.mark;
    }

    held_at : (p : ℕ) (o : Option HeldBank) → is_some o ≡ true → (f : ℕ → Option Kept) × (option_map bank_in o ≡ Some f)
    held_at p None e = absurd (let z : false ≡ true = e in cc)
    held_at p (Some b) e = (bank_in b, refl)

    ticks : Ticks least faults readings clock0 clock held0 held m c1 e → MovesTick m (due m c1.deadlines) (parts_held w None (Some (clockwork_seen least faults readings clock0.value)) held0) (parts_held w None (Some (clockwork_seen least faults readings clock.value)) held)
    ticks t = tick_moves (parts_held w None (Some (clockwork_seen least faults readings clock0.value)) held0) (parts_held w None (Some (clockwork_seen least faults readings clock.value)) held) m (due m c1.deadlines) (clockwork_seen least faults readings clock0.value) (clockwork_seen least faults readings clock.value) t.placed refl refl t.asked.late t.asked.bound
        (ap (due m) (sym t.asked.deadlines)) t.some (ap times_shown t.passed_by ∙ ap (λ ds. record { deadlines = open_after m ds; now = m }) t.asked.deadlines) (reads t)
        (λ p among. held_at p (listed number_of_bank (parts held0.banks) (home p)) (t.there p among))
        t.channels t.registries (λ i. refl) (λ i. ap (λ s. waits_held s i) t.shards) (λ r. ap (λ o. cond (eqb w r) (ready_in o) None) t.ready)

    pub ticked_moved : Ticks least faults readings clock0 clock held0 held m c1 e → IsMovedWith over place advances gives starts seen code n w (holds_banks held) (holds_shards held) (said.shown e) (laid_aside seen n code w l (Some clock0) held0 (Some clock) held)
    ticked_moved t ports looked banks shards = subst (λ (x : EventView). IsMoved over place advances gives starts seen code n w (drawn_with w n (said.shown x) ports looked) (laid_aside seen n code w l (Some clock0) held0 (Some clock) held)) (sym t.event)
        (clock_moved clock0 clock held0 held (ticked_held t) (said.shown (ticked m (due m c1.deadlines))) ports looked banks shards (t.ready ∙ t.none) (said.event_names w (ticked m (due m c1.deadlines))) (λ e. cc) refl refl refl refl
        (all_in (λ p. is_some ((laid_aside seen n code w l (Some clock0) held0 (Some clock) held).banks (home p)) ≡ true) (due m c1.deadlines)
        (λ p among. lies_there seen n code V.Bank (listed number_of_bank (parts held0.banks) (home p)) (listed number_of_bank (parts held.banks) (home p)) ((ticked_held t).banks (home p)) ∙ (ticked_held t).banks (home p) ∙ t.there p among))
        refl (ticks t))

-- the clock was asked, and nothing closes
pub asked_reads : (m : ℕ) (c c2 : TimersPart) → IsAsked m c c2 → TimesBy said.asks_clock c c2
asked_reads m c c2 a = (
  record { deadlines = a.deadlines; now = a.now; least = let k = a.later in let e = a.least in omega (arith, k, e) },
  (a.faults, subst (λ (x : ℕ). GoOnBy x c.readings c2.readings) (sym a.least) a.readings, a.mark),
)

-- it failed, and that is marked
pub failed_fails : (c c2 c3 : TimersPart) → HasFailed c c2 → c3 ≡ with_mark clock_failed c2 → TimesBy said.fails c c3
failed_fails c c2 c3 f e = subst (λ (x : TimersPart). TimesBy said.fails c x) (sym e) (
  record { deadlines = f.deadlines; now = f.now; least = f.least },
  (f.readings, f.faults, ap (λ k. stop_marked k clock_failed) f.mark),
)

-- an asking of timers that showed the same
pub asked_after : (m : ℕ) (c d c2 : TimersPart) → d ≡ c → IsAsked m d c2 → IsAsked m c c2
asked_after m c d c2 e a = subst (λ (x : TimersPart). IsAsked m x c2) e a

-- and one whose timers show the same
pub asked_before : (m : ℕ) (c c2 d : TimersPart) → d ≡ c2 → IsAsked m c c2 → IsAsked m c d
asked_before m c c2 d e a = subst (λ (x : TimersPart). IsAsked m c x) (sym e) a

-- what one event costs
pub cost_one : (e : EventView) → cost (e ∷ []) ≡ cost_of e
cost_one e = let k : cost (e ∷ []) ≡ cost_of e + cost [] = refl in let z : cost [] ≡ 0 = refl in omega (arith, k, z)

-- at a silent event of the timers any part may be held
pub may_any : (w n i : ℕ) (t : said.Turn) (c c2 : TimersPart) → TimesBy t c c2 → MayHold w n t i
may_any w n i said.asks_clock c c2 t = tt
may_any w n i said.fails c c2 t = tt
may_any w n i said.stops c c2 t = tt
may_any w n i said.halts c c2 t = tt
may_any w n i (said.shown e) c c2 t = absurd t
may_any w n i (said.picks r) c c2 t = absurd t
may_any w n i said.yields c c2 t = absurd t
may_any w n i (said.prunes side p wait) c c2 t = absurd t
may_any w n i said.stalls c c2 t = absurd t
