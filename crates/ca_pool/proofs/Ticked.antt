-- What a tick over what is held and the timers leaves for its event, and what follows where nothing is due.
use Rattle.std.proofs.Common.{◌≡◌, ◌≢◌, ◌∙◌, ℕ, zero, suc, ◌+◌, ◌<◌, List, [], ◌∷◌, ◌++◌, take, refl, sym, ap, subst, arith, Bool, true, false, cond, Option, Some, None, eqb, eqb-true, eq-eqb}
use Rattle.std.specs.Prelude.{slice_get, IfSome, IfNone}
use mathlib.Core.Logic.{dite}
use native.Mathlib.Decide.{ℕ_discrete}
use Rattle.ca_value.specs.Deadlines.{due}
use Rattle.ca_term.specs.declared.event.Event.{Event}
use Rattle.ca_term.specs.Event.{event_view, ticked}
use Rattle.ca_meaning.specs.Wait.{is_among}
use Rattle.ca_commit.specs.Contents.{TimersPart, home}
use Rattle.ca_commit.specs.Running.{Placed}
use Rattle.ca_commit.specs.Showing.{channels_held, registries_held, waits_held}
use Rattle.ca_commit.specs.Ticking.{closed_all}
use Rattle.ca_commit.specs.Touched as said
use Rattle.ca_commit.specs.Waking.{ready_in}
use Rattle.ca_commit.specs.declared.held.Held.{Held}
use Rattle.ca_table.specs.Bearing.{ShowSame}
use Rattle.ca_table.specs.Homes.{has_home}
use Rattle.ca_table.specs.Parts.{clockwork_seen}
use Rattle.ca_table.specs.declared.homes.Homes.{Homes}
use Rattle.ca_pool.specs.Asking.{HasBanksOf, HasHomes, IsAsked, TimesBy, moment_passed}
use Rattle.ca_pool.specs.Desk.{ClockBox}
use Rattle.ca_pool.proofs.Asides.{Ticks, asked_before, asked_reads}

for_some : {X : Type 0} (P : X → Type 0) (o : Option X) (x : X) → o ≡ Some x → IfSome o P → P x
for_some P None x e p = absurd (let z : None ≡ Some x = e in cc)
for_some P (Some y) x e p = let z : y ≡ x = cc in subst P z p

for_none : {X : Type 0} (Q : Type 0) (o : Option X) → o ≡ None → IfNone o Q → Q
for_none Q None e p = p
for_none Q (Some y) e p = absurd (let z : Some y ≡ None = e in cc)

module _ {A C : Type 0} (least faults : C → ℕ) (readings : C → Option (List ℕ)) (clock0 clock1 clock2 : ClockBox C) (held0 held : Held A) (m : ℕ) (o : Option Event) where
  abbrev shows : ClockBox C → TimersPart
  shows c = clockwork_seen least faults readings c.value

  abbrev ps : List ℕ
  ps = due m clock1.value.timers.deadlines

  pub ticks_by : (e : Event) → o ≡ Some e → IsAsked m (shows clock0) (shows clock1) → IfSome o (λ e. (event_view e ≡ ticked m ps) × (ps ≢ []) × (shows clock2 ≡ moment_passed m (shows clock1))) → Placed (channels_held held0.banks) → HasBanksOf held0 ps
      → ((i : ℕ) → channels_held held.banks i ≡ closed_all ps (channels_held held0.banks) i) → ((i : ℕ) → registries_held held.banks i ≡ registries_held held0.banks i) → held.shards ≡ held0.shards → held.ready ≡ held0.ready → held0.ready ≡ None
      → Ticks least faults readings clock0 clock2 held0 held m (shows clock1) (event_view e)
  ticks_by e is asked some placed there channels registries shards ready none =
      let s = for_some (λ e. (event_view e ≡ ticked m ps) × (ps ≢ []) × (shows clock2 ≡ moment_passed m (shows clock1))) o e is some in
      record { asked = asked; passed_by = s.2; event = s.0; some = s.1; placed = placed; there = there; channels = channels; registries = registries; shards = shards; ready = ready; none = none }

  pub same_by : o ≡ None → IfNone o ((ps ≡ []) × (shows clock2 ≡ shows clock1)) → ((i : ℕ) → channels_held held.banks i ≡ closed_all ps (channels_held held0.banks) i) → ((i : ℕ) → registries_held held.banks i ≡ registries_held held0.banks i) → held.shards ≡ held0.shards → held.ready ≡ held0.ready → ShowSame held0 held
  same_by is none channels registries shards ready = let s = for_none ((ps ≡ []) × (shows clock2 ≡ shows clock1)) o is none in record {
    channels = λ i. channels i ∙ ap (λ (l : List ℕ). closed_all l (channels_held held0.banks) i) s.0;
    registries = registries;
    waits = λ i. ap (λ z. waits_held z i) shards;
    ready = ap ready_in ready;
  }

  pub reads_by : o ≡ None → IsAsked m (shows clock0) (shows clock1) → IfNone o ((ps ≡ []) × (shows clock2 ≡ shows clock1)) → TimesBy said.asks_clock (shows clock0) (shows clock2)
  reads_by is asked none = let s = for_none ((ps ≡ []) × (shows clock2 ≡ shows clock1)) o is none in asked_reads m (shows clock0) (shows clock2) (asked_before m (shows clock0) (shows clock1) (shows clock2) s.1 asked)

-- what the event is, and that nothing is due where there is none
module _ {C : Type 0} (least faults : C → ℕ) (readings : C → Option (List ℕ)) (clock clock2 : ClockBox C) (m : ℕ) (o : Option Event) where
  abbrev closes : List ℕ
  closes = due m clock.value.timers.deadlines

  pub event_is : (e : Event) → o ≡ Some e → IfSome o (λ e. (event_view e ≡ ticked m closes) × (closes ≢ []) × (clockwork_seen least faults readings clock2.value ≡ moment_passed m (clockwork_seen least faults readings clock.value))) → event_view e ≡ ticked m closes
  event_is e is some = (for_some (λ e. (event_view e ≡ ticked m closes) × (closes ≢ []) × (clockwork_seen least faults readings clock2.value ≡ moment_passed m (clockwork_seen least faults readings clock.value))) o e is some).0

  pub none_due : o ≡ None → IfNone o ((closes ≡ []) × (clockwork_seen least faults readings clock2.value ≡ clockwork_seen least faults readings clock.value)) → closes ≡ []
  none_due is none = (for_none ((closes ≡ []) × (clockwork_seen least faults readings clock2.value ≡ clockwork_seen least faults readings clock.value)) o is none).0

-- the items up to a place, and all of them
pub took_more : (xs : List ℕ) (m x : ℕ) → slice_get xs m ≡ Some x → take (m + 1) xs ≡ take m xs ++ x ∷ []
took_more [] m x e = absurd (let z : None ≡ Some x = e in cc)
took_more (y ∷ ys) zero x e = let z : y ≡ x = cc in ap (λ (v : ℕ). v ∷ []) z
took_more (y ∷ ys) (suc m) x e = ap (λ (k : ℕ). take k (y ∷ ys)) (let k : suc m + 1 ≡ suc (m + 1) = omega arith in k) ∙ ap (λ (zs : List ℕ). y ∷ zs) (took_more ys m x e)

pub took_all : (xs : List ℕ) (m : ℕ) → slice_get xs m ≡ None → take m xs ≡ xs
took_all [] zero e = refl
took_all [] (suc m) e = refl
took_all (y ∷ ys) zero e = absurd (let z : Some y ≡ None = e in cc)
took_all (y ∷ ys) (suc m) e = ap (λ (zs : List ℕ). y ∷ zs) (took_all ys m e)

-- the banks of the ports at the first places
abbrev pub HasSome : Homes → List ℕ → ℕ → Type 0
HasSome homes ps m = (j p : ℕ) → j < m → slice_get ps j ≡ Some p → has_home homes (home p) ≡ true

place_before : (xs : List ℕ) (m j y : ℕ) → slice_get xs m ≡ None → slice_get xs j ≡ Some y → j < m
place_before [] m zero y e h = absurd (let z : None ≡ Some y = h in cc)
place_before [] m (suc j) y e h = absurd (let z : None ≡ Some y = h in cc)
place_before (x ∷ xs) zero j y e h = absurd (let z : Some x ≡ None = e in cc)
place_before (x ∷ xs) (suc m) zero y e h = omega arith
place_before (x ∷ xs) (suc m) (suc j) y e h = let k = place_before xs m j y e h in omega (arith, k)

among_place : (p : ℕ) (xs : List ℕ) → is_among p xs ≡ true → (j : ℕ) × (slice_get xs j ≡ Some p)
among_place p [] e = absurd (let z : false ≡ true = e in cc)
among_place p (x ∷ xs) e = by (eqb p x) refl (among_place p xs) e where
  by : (b : Bool) → eqb p x ≡ b → (is_among p xs ≡ true → (j : ℕ) × (slice_get xs j ≡ Some p)) → cond b true (is_among p xs) ≡ true → (j : ℕ) × (slice_get (x ∷ xs) j ≡ Some p)
  by true is rest e = (0, ap Some (sym (eqb-true p x is)))
  by false is rest e = let r = rest e in (suc r.0, r.1)

pub has_all : (homes : Homes) (ps : List ℕ) (m : ℕ) → HasSome homes ps m → slice_get ps m ≡ None → HasHomes homes ps
has_all homes ps m some none p among = let j = among_place p ps among in some j.0 p (place_before ps m j.0 p none j.1) j.1

pub none_yet : (homes : Homes) (ps : List ℕ) → HasSome homes ps 0
none_yet homes ps j p lt e = absurd (omega (arith, lt))

pub one_more : (homes new : Homes) (ps : List ℕ) (m p : ℕ) → HasSome homes ps m → ((i : ℕ) → has_home new i ≡ cond (eqb (home p) i) true (has_home homes i)) → slice_get ps m ≡ Some p → HasSome new ps (m + 1)
one_more homes new ps m p some added at j q lt e = added (home q) ∙ dite (ℕ_discrete j m)
    (λ same. let k : Some q ≡ Some p = sym e ∙ ap (slice_get ps) same ∙ at in let z : p ≡ q = cc in ap (λ b. cond b true (has_home homes (home q))) (eq-eqb (home p) (home q) (ap home z)))
    (λ ne. by (eqb (home p) (home q)) (some j q (omega (arith, lt, ne)) e)) where
      by : (b : Bool) {c : Bool} → c ≡ true → cond b true c ≡ true
      by true e = refl
      by false e = e
