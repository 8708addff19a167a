-- What the parts that are held tell of the state, where the banks and the shards together stand for it.
use Rattle.std.proofs.Common.{⊎_elim, ◌≡◌, ℕ, ◌<◌, ◌≤◌, List, [], ◌∷◌, refl, sym, ap, ◌∙◌, subst, true, cond, Option, Some, None}
use Rattle.ca_term.specs.declared.fault.Fault.{Fault}
use Rattle.ca_term.specs.Program.{ProgramView}
use Rattle.ca_term.specs.Operation.{OpView}
use Rattle.ca_term.specs.Event.{BranchView}
use Rattle.ca_meaning.specs.Body.{At}
use Rattle.ca_meaning.specs.Wait.{side_of, port_of, queue, pending}
use Rattle.ca_meaning.specs.Row.{not_ready}
use Rattle.ca_meaning.specs.Task.{TaskBody}
use Rattle.ca_meaning.specs.State.{State}
use Rattle.ca_meaning.specs.Choice.{row, is_ready, any_ready, NoneReady, Picks}
use Rattle.ca_meaning.specs.Refusal.{crowded}
use Rattle.ca_commit.specs.Asks.{Asks, row_raw}
use Rattle.ca_commit.specs.Contents.{Kept, Parts, alive_in, at_key, channel_of, home, on, whole}
use Rattle.ca_commit.specs.Holds.{KeepsChannels, groups, live_of}
use Rattle.ca_commit.specs.Moves.{AllSeen, CrowdedIn, FewIn, FewOn, NoneReadyIn, PicksIn, Shows, Unready}
use Rattle.ca_commit.specs.Stands.{Stands}
use Rattle.ca_commit.proofs.Counts.{groups_are, live_seen}
use Rattle.ca_commit.proofs.Fitting.{crowded_here, crowded_later, few_at, few_more, many_at, short_queue}
use Rattle.ca_commit.proofs.Holding.{asks_more, row_right}
use Rattle.ca_commit.proofs.Joining.{alive_more}
use Rattle.ca_commit.proofs.Laid.{IsPart, seen}

-- the banks and the shards hold the state's channels, waits and registries
pub record Shown {A : Type 0} (now : Parts A) (s : State) : Type 0 where
  pub holds : KeepsChannels (whole now.bank) (alive_in now) s.channels s.waits s.used
  pub registered : (p : ℕ) → s.registries p ≡ whole now.registry p

-- so they do where the parts of a run stand for it
pub shown_by : {A : Type 0} {place : A → At} {stands : ProgramView → A → Option ℕ → TaskBody → Type 0} {program : ProgramView} {n : ℕ} {now : Parts A} {s : State} → Stands place stands program n now s → Shown now s
shown_by st = record { holds = st.holds; registered = st.registered }

module _ {A : Type 0} where
  -- the held banks are those of the state
  pub shows : (now old : Parts A) (s : State) → Shown now s → IsPart old now → Shows old s
  shows now old s st part = record {
    channels = λ p f e. st.holds.channels_are p ∙ ap (λ (o : Option (ℕ → Option Kept)). channel_of (at_key o p)) (part.banks (home p) f e);
    registries = λ p f e. st.registered p ∙ ap (λ (o : Option (ℕ → Option _)). at_key o p) (part.registries (home p) f e);
  }

  -- a branch that isn't ready there isn't ready in the state
  pub unready_in : (now old : Parts A) (s : State) (b : BranchView) → Shown now s → IsPart old now → Unready old b → row s b ≡ not_ready
  unready_in now old s b st part u = row_right (whole now.bank) (alive_in now) s b u.0 st.holds (seen now.bank old.bank part.banks (port_of b) u.0 u.1) (asks_more (alive_in old) (alive_in now) (alive_more old now part) b u.0 u.2) ∙ u.3

  pub none_ready : (now old : Parts A) (s : State) (bs : List BranchView) → Shown now s → IsPart old now → NoneReadyIn old bs → NoneReady s bs
  none_ready now old s [] st part a = refl
  none_ready now old s (b ∷ bs) st part a = ap (λ r. cond (is_ready r) true (any_ready s bs)) (unready_in now old s b st part a.0) ∙ none_ready now old s bs st part a.1

  -- the live handlers of a side are those of its queue
  pub live_right : (now old : Parts A) (s : State) (b : BranchView) (k : Kept) → Shown now s → IsPart old now → whole old.bank (port_of b) ≡ Some k → live_of (alive_in now) (on (side_of b) k) ≡ queue (side_of b) (port_of b) s.waits
  live_right now old s b k st part there = st.holds.queues (side_of b) (port_of b) k (seen now.bank old.bank part.banks (port_of b) k there)

  -- where all of a side's waits are seen, its live ones are as many as the state's
  pub counted : (now old : Parts A) (s : State) (b : BranchView) (k : Kept) → Shown now s → IsPart old now → whole old.bank (port_of b) ≡ Some k → AllSeen old (on (side_of b) k) → groups (live_of (alive_in old) (on (side_of b) k)) ≡ pending (side_of b) (port_of b) s.waits
  counted now old s b k st part there all = ap groups (live_seen old now (on (side_of b) k) part all ∙ live_right now old s b k st part there) ∙ groups_are (side_of b) (port_of b) s.waits st.holds.differ

  pub few : (now old : Parts A) (s : State) (b : BranchView) (k : Kept) → Shown now s → IsPart old now → whole old.bank (port_of b) ≡ Some k → FewOn old (on (side_of b) k) → pending (side_of b) (port_of b) s.waits < 1024
  few now old s b k st part there f = ⊎_elim (λ lt. short_queue (alive_in now) (side_of b) (port_of b) s.waits (on (side_of b) k) (live_right now old s b k st part there) lt) (λ c. subst (λ (m : ℕ). m < 1024) (counted now old s b k st part there c.0) c.1) f

  -- whether a queue has room for one more is seen there
  pub none_crowded : (now old : Parts A) (s : State) (bs : List BranchView) → Shown now s → IsPart old now → FewIn old bs → crowded s bs ≡ None
  none_crowded now old s [] st part a = refl
  none_crowded now old s (b ∷ bs) st part a = few_more s b bs (few now old s b a.0.0 st part a.0.1 a.0.2) (none_crowded now old s bs st part a.1)

  pub some_crowded : (now old : Parts A) (s : State) (bs : List BranchView) (f : Fault) → Shown now s → IsPart old now → CrowdedIn old bs f → crowded s bs ≡ Some f
  some_crowded now old s [] f st part a = absurd a
  some_crowded now old s (b ∷ bs) f st part a = ⊎_elim
      (λ m. crowded_here s b bs f (many_at s b (subst (λ (k : ℕ). 1024 ≤ k) (counted now old s b a.0 st part a.1 m.0) m.1) ∙ ap Some (sym m.2)))
      (λ m. crowded_later s b bs f (few_at s b (few now old s b a.0 st part a.1 m.0)) (some_crowded now old s bs f st part m.1)) a.2

  -- what a branch comes to is seen there
  pub row_seen : (now old : Parts A) (s : State) (b : BranchView) (k : Kept) → Shown now s → IsPart old now → whole old.bank (port_of b) ≡ Some k → Asks (alive_in old) b k → row s b ≡ row_raw k b
  row_seen now old s b k st part there asks = row_right (whole now.bank) (alive_in now) s b k st.holds (seen now.bank old.bank part.banks (port_of b) k there) (asks_more (alive_in old) (alive_in now) (alive_more old now part) b k asks)

  pub picks_in : (now old : Parts A) (s : State) (op : OpView) (k : ℕ) (b : BranchView) → Shown now s → IsPart old now → PicksIn old op k b → Picks s op k b
  picks_in now old s op k b st part p = (p.0, λ e j o lt is. unready_in now old s o st part (p.1 e j o lt is))
