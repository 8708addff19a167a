-- A run that a worker leaves because nothing can go on is quiet.
use Rattle.std.proofs.Common.{◌≡◌, ℕ, ◌<◌, ◌+◌, List, [], refl, sym, ap, ap₂, ◌∙◌, subst, arith, true, false, cond, Option, Some, None, is_some, nat_lt, Contains}
use Rattle.std.proofs.lemmas.Bool.{lt-ltb, le-ltb}
use Rattle.ca_term.specs.declared.event.Side.{Side}
use Rattle.ca_term.specs.declared.event.Side.TheVariants.{Take, Put}
use Rattle.ca_term.specs.Program.{ProgramView}
use Rattle.ca_meaning.specs.Body.{At}
use Rattle.ca_meaning.specs.Channel.{Channel}
use Rattle.ca_meaning.specs.EndsLaw.{IsQuiet}
use Rattle.ca_meaning.specs.Row.{unsettled, settle_row}
use Rattle.ca_meaning.specs.Task.{TaskBody}
use Rattle.ca_meaning.specs.Wait.{Handler, head, front, is_among}
use Rattle.ca_meaning.specs.State.{State}
use Rattle.ca_commit.specs.Agents.{TaskAgent, place_of, stands_of}
use Rattle.ca_commit.specs.Contents.{Content, PartContents, Kept, Parked, Parts, TimersPart, a_bank, a_lane, a_ready, a_shard, alive, alive_in, away, channel_of, on, the_timers, whole}
use Rattle.ca_commit.specs.Gathered.{away_kind, bank_kind, kind_at, kind_of_part, lane_kind, parts_of, pick, ready_kind, shard_kind, sorted, timers_kind, timers_of}
use Rattle.ca_commit.specs.Holds.{live_of}
use Rattle.ca_commit.specs.Running.{AreAt, RunStands}
use Rattle.ca_commit.specs.Seated.{Seat, SitsAt, in_lane, in_ready}
use Rattle.ca_commit.specs.SilentMoves.{MovesStall}
use Rattle.ca_commit.specs.Stands.{Stands}
use Rattle.ca_commit.specs.Touched.{stalls, turn_touches}
use Rattle.ca_commit.proofs.Among.{among_all, pick_all}
use Rattle.ca_commit.proofs.Gathering.{parts_in, picks_within}
use Rattle.ca_commit.proofs.Laid.{IsPart, Within, same_map, seen}
use Rattle.ca_commit.proofs.Seats.{no_task}

-- two maps, each within the other
both_within : {X : Type 0} (f g : ℕ → Option X) → Within f g → Within g f → f ≡ g
both_within {X} f g a b = same_map f g (λ i. by (f i) (g i) i refl refl) where
  by : (o p : Option X) (i : ℕ) → f i ≡ o → g i ≡ p → f i ≡ g i
  by (Some x) p i e h = e ∙ sym (a i x e)
  by None None i e h = e ∙ sym h
  by None (Some y) i e h = b i y h ∙ sym h

empty_no : {A G : Type 0} (q : List (ℕ × A)) (x : ℕ × A) → q ≡ [] → Contains q x → G
empty_no {A} {G} q x e c = no (subst (λ (l : List (ℕ × A)). Contains l x) e c) where
  no : Contains [] x → G
  no (k, lt, f) = absurd (omega (arith, lt))

module _ {A : Type 0} (place : A → At) (stands : ProgramView → A → Option ℕ → TaskBody → Type 0) (program : ProgramView) (n : ℕ) where
  -- all parts are held
  pub is_quiet : (now old new : Parts A) (s : State) → Stands place stands program n now s → IsPart old now → IsPart now old → (c : TimersPart) → now.timers ≡ Some c → MovesStall old new → IsQuiet s
  is_quiet now old new s st part all c clock m = record {
    no_task = λ t x e run. no_seat t (st.seated.seat t) (st.seated.found t x (e, run));
    no_settle = λ p k e. settles_not p k (whole now.bank p) refl (sym (st.holds.channels_are p) ∙ e);
    no_deadline = sym (st.clocked c clock).0 ∙ m.none_open c (all.clocks c clock);
  } where
    no_seat : {G : Type 0} (t : ℕ) (seat : Seat) → SitsAt (stands program) now.lane now.ready seat t → G
    no_seat t (in_lane w) e = no_task e.0 e.0 t e.1 refl (m.idle w e.0 (all.lanes w e.0 e.2)) e.3
    no_seat t (in_ready r) e = empty_no e.0 (t, e.1) (m.none_ready r e.0 (all.readys r e.0 e.2)) e.3

    same : alive_in old ≡ alive_in now
    same = ap (λ (f : ℕ → Option (ℕ → Option (Parked A))). alive (whole f)) (both_within old.shard now.shard part.shards all.shards)

    live : (side : Side) (p : ℕ) (k : Kept) → whole now.bank p ≡ Some k → head (live_of (alive_in old) (on side k)) ≡ front side p s.waits
    live side p k e = ap (λ f. head (live_of f (on side k))) same ∙ ap head (st.holds.queues side p k e)

    settles_not : (p : ℕ) (c : Channel) (o : Option Kept) → whole now.bank p ≡ o → channel_of o ≡ Some c → settle_row c (front Take p s.waits) (front Put p s.waits) ≡ unsettled
    settles_not p c None is e = absurd (let z : None ≡ Some c = e in cc)
    settles_not p c (Some k) is e = let kc : k.channel ≡ c = cc in ap (λ (x : Channel). settle_row x (front Take p s.waits) (front Put p s.waits)) (sym kc)
        ∙ ap₂ (λ (x y : Option Handler). settle_row k.channel x y) (sym (live Take p k is)) (sym (live Put p k is)) ∙ m.none_settles p k (seen old.bank now.bank all.banks p k is)

module _ {A : Type 0} where
  -- the timers have their place
  timers_there : (n : ℕ) (now : ℕ → Option (Content A)) → ((i : ℕ) → i < n + 33 + n → is_some (now i) ≡ true) → ((i : ℕ) (c : Content A) → now i ≡ Some c → (c.workers ≡ n) × (kind_of_part c.held ≡ kind_at n i)) → (c : TimersPart) × (sorted timers_of (now (n + 32)) ≡ Some c)
  timers_there n now there kinds = by (now (n + 32)) refl (there (n + 32) (omega arith)) where
    kind_is : kind_at n (n + 32) ≡ timers_kind
    kind_is = ap (λ b. cond b lane_kind (cond (nat_lt (n + 32) (n + 16)) bank_kind (cond (nat_lt (n + 32) (n + 32)) shard_kind (cond (nat_lt (n + 32) (n + 33)) timers_kind ready_kind)))) (le-ltb (n + 32) n (omega arith))
        ∙ ap (λ b. cond b bank_kind (cond (nat_lt (n + 32) (n + 32)) shard_kind (cond (nat_lt (n + 32) (n + 33)) timers_kind ready_kind))) (le-ltb (n + 32) (n + 16) (omega arith))
        ∙ ap (λ b. cond b shard_kind (cond (nat_lt (n + 32) (n + 33)) timers_kind ready_kind)) (le-ltb (n + 32) (n + 32) (omega arith))
        ∙ ap (λ b. cond b timers_kind ready_kind) (lt-ltb (n + 32) (n + 33) (omega arith))

    of_kind : (h : PartContents A) → kind_of_part h ≡ timers_kind → (c : TimersPart) × (timers_of h ≡ Some c)
    of_kind (the_timers t) e = (t, refl)
    of_kind (a_lane l) e = absurd (let z : lane_kind ≡ timers_kind = e in cc)
    of_kind (a_bank b) e = absurd (let z : bank_kind ≡ timers_kind = e in cc)
    of_kind (a_shard g) e = absurd (let z : shard_kind ≡ timers_kind = e in cc)
    of_kind (a_ready q) e = absurd (let z : ready_kind ≡ timers_kind = e in cc)
    of_kind away e = absurd (let z : away_kind ≡ timers_kind = e in cc)

    by : (o : Option (Content A)) → now (n + 32) ≡ o → is_some o ≡ true → (c : TimersPart) × (sorted timers_of o ≡ Some c)
    by None e is = absurd (let z : false ≡ true = is in cc)
    by (Some x) e is = of_kind x.held ((kinds (n + 32) x e).1 ∙ kind_is)

module _ {A : Type 0} (place : A → At) (stands : ProgramView → A → TaskBody → Type 0) (program : ProgramView) (n : ℕ) where
  pub quiet : (w : ℕ) (ports looked : List ℕ) (now : ℕ → Option (Content (TaskAgent A))) (before after : List (Content (TaskAgent A))) (s : State) → RunStands place stands program n now s → AreAt now (turn_touches w n ports looked stalls) before
      → MovesStall (parts_of n (pick (turn_touches w n ports looked stalls) before)) (parts_of n (pick (turn_touches w n ports looked stalls) after)) → IsQuiet s
  quiet w ports looked now before after s run at m = is_quiet (place_of place) (stands_of stands) program n (parts_of n now) (parts_of n (pick is before)) (parts_of n (pick is after)) s run.stand
      (parts_in n (pick is before) now (picks_within now is before at)) (parts_in n now (pick is before) (λ i c e. pick_all now is before i at (all i (run.no_more i c e)) ∙ e)) clock.0 clock.1 m where
        is : List ℕ
        is = turn_touches w n ports looked stalls

        all : (i : ℕ) → i < n + 33 + n → is_among i is ≡ true
        all i lt = among_all (n + 33 + n) i lt

        clock : (c : TimersPart) × (sorted timers_of (now (n + 32)) ≡ Some c)
        clock = timers_there n now run.there run.kinds
