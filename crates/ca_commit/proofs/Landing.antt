-- From what became of each map to parts that stand for the next state.
use Rattle.std.proofs.Common.{◌≡◌, ℕ, ◌<◌, ◌≤◌, List, refl, sym, ap, ◌∙◌, subst, Bool, true, false, cond, Option, Some, eqb, eqb-true}
use Rattle.std.specs.Map.{update}
use Rattle.ca_term.specs.Program.{ProgramView}
use Rattle.ca_meaning.specs.Body.{At}
use Rattle.ca_meaning.specs.Registry.{Registry}
use Rattle.ca_meaning.specs.Task.{TaskBody}
use Rattle.ca_meaning.specs.State.{State}
use Rattle.ca_commit.specs.Contents.{Kept, LaneView, Parked, Parts, TimersPart, alive, whole}
use Rattle.ca_commit.specs.Holds.{KeepsChannels}
use Rattle.ca_commit.specs.Moves.{Alters, Becomes, Stays}
use Rattle.ca_commit.specs.Running.{or_was}
use Rattle.ca_commit.specs.Seated.{Seated}
use Rattle.ca_commit.specs.Stands.{NumbersGiven, Stands, Whole, WholeStands, whole_of}
use Rattle.ca_commit.proofs.Laid.{IsPart, Within, laid, laid_becomes, laid_parts, laid_same, laid_whole, same_map, untouched}

abbrev pub Clocked : Option TimersPart → State → Type 0
Clocked timers s = (c : TimersPart) → timers ≡ Some c → (c.deadlines ≡ s.deadlines) × (c.now ≡ s.now) × (c.now ≤ c.least)

-- the same for one kind of parts
pub altered : {X : Type 0} (now old new : ℕ → Option (ℕ → Option X)) (p : ℕ) (x : Option X) → Within old now → Alters old new p x → whole (laid now new) ≡ update eqb (whole now) p x
altered {X} now old new p x in' a = same_map (whole (laid now new)) (update eqb (whole now) p x) (laid_whole now old new p x in' a)

pub unaltered : {X : Type 0} (now old new : ℕ → Option (ℕ → Option X)) → Within old now → Stays old new → whole (laid now new) ≡ whole now
unaltered {X} now old new in' e = ap (λ (f : ℕ → Option (ℕ → Option X)). whole f) (untouched {X = ℕ → Option X} now old new in' e)

module _ {A : Type 0} where
  -- all maps are told, so the whole is
  pub whole_is : (now new : Parts A) (all : Whole A) → laid now.lane new.lane ≡ all.lane → whole (laid now.bank new.bank) ≡ all.ports → whole (laid now.registry new.registry) ≡ all.registries
      → whole (laid now.shard new.shard) ≡ all.parked → laid now.ready new.ready ≡ all.ready → or_was new.timers now.timers ≡ all.timers → whole_of (laid_parts now new) ≡ all
  whole_is now new all a b c d e f = λ i. record { lane = a i; ports = b i; registries = c i; parked = d i; ready = e i; timers = f i }

  pub timers_as_before : (now old new : Parts A) → IsPart old now → new.timers ≡ old.timers → or_was new.timers now.timers ≡ now.timers
  timers_as_before now old new part e = laid_same old.timers new.timers now.timers e part.clocks

module _ {A : Type 0} (place : A → At) (stands : ProgramView → A → Option ℕ → TaskBody → Type 0) (program : ProgramView) (n : ℕ) where
  lanes_stay : (now : Parts A) (s : State) (w : ℕ) (l l2 : LaneView A) → Stands place stands program n now s → now.lane w ≡ Some l → l2.program ≡ l.program
      → (v : ℕ) (m : LaneView A) → update eqb now.lane w (Some l2) v ≡ Some m → (m.program ≡ program) × (v < n)
  lanes_stay now s w l l2 st at p v m = by (eqb w v) refl where
    mine : (l.program ≡ program) × (w < n)
    mine = st.lanes w l at

    by : (b : Bool) → eqb w v ≡ b → cond b (Some l2) (now.lane v) ≡ Some m → (m.program ≡ program) × (v < n)
    by true is e = let same : l2 ≡ m = cc in (ap (λ (x : LaneView A). x.program) (sym same) ∙ p ∙ mine.0, subst (λ (v : ℕ). v < n) (eqb-true w v is) mine.1)
    by false is e = st.lanes v m e

  -- an event that touches the lane w
  pub lands : (now old new : Parts A) (s s2 : State) (w : ℕ) (l l2 : LaneView A) (ports : ℕ → Option Kept) (registries : ℕ → Option Registry) (parked : ℕ → Option (Parked A)) (ready : ℕ → Option (List (ℕ × A))) (timers : Option TimersPart)
      → Stands place stands program n now s → IsPart old now → Becomes old.lane new.lane w l l2 → l2.program ≡ l.program
      → whole (laid now.bank new.bank) ≡ ports → whole (laid now.registry new.registry) ≡ registries → whole (laid now.shard new.shard) ≡ parked → laid now.ready new.ready ≡ ready → or_was new.timers now.timers ≡ timers
      → KeepsChannels ports (alive parked) s2.channels s2.waits s2.used → ((p : ℕ) → s2.registries p ≡ registries p) → Seated place (stands program) (update eqb now.lane w (Some l2)) ready parked s2.tasks s2.waits → Clocked timers s2 → NumbersGiven n (update eqb now.lane w (Some l2)) s2
      → Stands place stands program n (laid_parts now new) s2
  lands now old new s s2 w l l2 ports registries parked ready timers st part lanes keeps banks regs shards readys clock holds registered seated clocked numbered =
      subst (λ (x : Whole A). WholeStands place stands program n x s2) (sym (whole_is now new all (laid_becomes now.lane old.lane new.lane w l l2 part.lanes lanes) banks regs shards readys clock)) (record {
        lanes = lanes_stay now s w l l2 st (part.lanes w l lanes.was) keeps;
        holds = holds;
        registered = registered;
        seated = seated;
        clocked = clocked;
        numbered = numbered;
      }) where
        all : Whole A
        all = record { lane = update eqb now.lane w (Some l2); ports = ports; registries = registries; parked = parked; ready = ready; timers = timers }

  -- an event that touches no lane
  pub lands_still : (now old new : Parts A) (s s2 : State) (ports : ℕ → Option Kept) (parked : ℕ → Option (Parked A)) (ready : ℕ → Option (List (ℕ × A))) (timers : Option TimersPart)
      → Stands place stands program n now s → IsPart old now → Stays old.lane new.lane → Stays old.registry new.registry → s2.registries ≡ s.registries
      → whole (laid now.bank new.bank) ≡ ports → whole (laid now.shard new.shard) ≡ parked → laid now.ready new.ready ≡ ready → or_was new.timers now.timers ≡ timers
      → KeepsChannels ports (alive parked) s2.channels s2.waits s2.used → Seated place (stands program) now.lane ready parked s2.tasks s2.waits → Clocked timers s2 → NumbersGiven n now.lane s2
      → Stands place stands program n (laid_parts now new) s2
  lands_still now old new s s2 ports parked ready timers st part lanes regs same banks shards readys clock holds seated clocked numbered =
      subst (λ (x : Whole A). WholeStands place stands program n x s2) (sym (whole_is now new all (untouched now.lane old.lane new.lane part.lanes lanes) banks (unaltered now.registry old.registry new.registry part.registries regs) shards readys clock)) (record {
        lanes = st.lanes;
        holds = holds;
        registered = λ p. ap (λ (f : ℕ → Option Registry). f p) same ∙ st.registered p;
        seated = seated;
        clocked = clocked;
        numbered = numbered;
      }) where
        all : Whole A
        all = record { lane = now.lane; ports = ports; registries = whole now.registry; parked = parked; ready = ready; timers = timers }
