-- What an event names is among what it touches, and so it is held.
use Rattle.std.proofs.Common.{◌≡◌, ℕ, ◌<◌, ◌+◌, ◌%◌, List, [], ◌++◌, refl, sym, ap, ◌∙◌, subst, arith, Bool, true, false, cond, Option, Some, None}
use Rattle.std.proofs.lemmas.Bool.{lt-ltb}
use Rattle.std.proofs.Math.Nat.{mod-lt}
use Rattle.ca_term.specs.Event.{EventView}
use Rattle.ca_meaning.specs.Wait.{is_among}
use Rattle.ca_commit.specs.Contents.{Content, home}
use Rattle.ca_commit.specs.Gathered.{HoldsNamed, bank_of, channels_of, gather, lane_of, parts_of, pick, ready_of, registries_of, shard_of, sorted, timers_of}
use Rattle.ca_commit.specs.Running.{AreAt}
use Rattle.ca_commit.specs.Touched.{Drawn, NamedParts, event_names, homes, listed_if, ready_at, shown, touched, touches, turn_touches, wanted}
use Rattle.ca_commit.proofs.Among.{among_first, among_left, among_map, among_right, among_wanted, pick_all}

one_among : (b : Bool) (i : ℕ) → b ≡ true → is_among i (listed_if b i) ≡ true
one_among true i e = among_first i [] i refl
one_among false i e = absurd (let z : false ≡ true = e in cc)

ready_among : (n r : ℕ) (o : Option ℕ) → o ≡ Some r → is_among (n + 33 + r) (ready_at n o) ≡ true
ready_among n r (Some q) e = let z : q ≡ r = cc in among_first (n + 33 + r) [] (n + 33 + q) (ap (λ k. n + 33 + k) (sym z))
ready_among n r None e = absurd (let z : None ≡ Some r = e in cc)

pub home_below : (n : ℕ) → home n < 0 + 16
home_below n = let z : n % 16 < 16 = mod-lt n (let y : 0 < 16 = omega arith in y) in omega (arith, z)

home_among : (base p : ℕ) (ns : List ℕ) → is_among p ns ≡ true → is_among (base + home p) (wanted (homes ns) base 0 16) ≡ true
home_among base p ns e = among_wanted (homes ns) base 0 16 (home p) (omega arith) (home_below p) (among_map home p ns e)

module _ {A : Type 0} (w n : ℕ) (ports looked : List ℕ) (x : NamedParts) (now : ℕ → Option (Content A)) (before : List (Content A)) (at : AreAt now (touched w n ports looked x) before) where
  abbrev is : List ℕ
  is = touched w n ports looked x

  held_at : (i : ℕ) → is_among i is ≡ true → pick is before i ≡ now i
  held_at i e = pick_all now is before i at e

  holds_named : HoldsNamed w ports looked x (parts_of n (pick is before)) (parts_of n now)
  holds_named = record {
    lane = λ e. ap (sorted lane_of) (held_at w (among_left w lanes rest1 (one_among x.lane w e)));
    banks = λ p e. let k = held_at (n + home p) (among_right (n + home p) lanes rest1 (among_left (n + home p) banks rest2 (home_among n p (x.ports ++ ports) e))) in
        (ap (λ o. channels_of (sorted bank_of o)) k, ap (λ o. registries_of (sorted bank_of o)) k);
    shards = λ v e. ap (sorted shard_of) (held_at (n + 16 + home v) (among_right (n + 16 + home v) lanes rest1 (among_right (n + 16 + home v) banks rest2 (among_left (n + 16 + home v) shards rest3 (home_among (n + 16) v (x.waits ++ looked) e)))));
    timers = λ e. ap (sorted timers_of) (held_at (n + 32) (among_right (n + 32) lanes rest1 (among_right (n + 32) banks rest2 (among_right (n + 32) shards rest3 (among_left (n + 32) (listed_if x.timers (n + 32)) (ready_at n x.ready) (one_among x.timers (n + 32) e))))));
    ready = λ r e. ap (sorted ready_of) (held_at (n + 33 + r) (among_right (n + 33 + r) lanes rest1 (among_right (n + 33 + r) banks rest2 (among_right (n + 33 + r) shards rest3 (among_right (n + 33 + r) (listed_if x.timers (n + 32)) (ready_at n x.ready) (ready_among n r x.ready e))))));
  } where
    lanes : List ℕ
    lanes = listed_if x.lane w

    banks : List ℕ
    banks = wanted (homes (x.ports ++ ports)) n 0 16

    shards : List ℕ
    shards = wanted (homes (x.waits ++ looked)) (n + 16) 0 16

    rest3 : List ℕ
    rest3 = listed_if x.timers (n + 32) ++ ready_at n x.ready

    rest2 : List ℕ
    rest2 = shards ++ rest3

    rest1 : List ℕ
    rest1 = banks ++ rest2

pub named_held : {A : Type 0} (d : Drawn) (e : EventView) (now : ℕ → Option (Content A)) (before : List (Content A)) → d.worker < d.workers → d.what ≡ shown e → AreAt now (touches d) before → HoldsNamed d.worker d.ports d.looked (event_names d.worker e) (gather d before) (parts_of d.workers now)
named_held {A} d e now before lt is at = subst (λ ts. HoldsNamed d.worker d.ports d.looked x (parts_of d.workers (pick ts before)) (parts_of d.workers now)) (sym all) (holds_named d.worker d.workers d.ports d.looked x now before (subst (λ ts. AreAt now ts before) all at)) where
  x : NamedParts
  x = event_names d.worker e

  all : touches d ≡ touched d.worker d.workers d.ports d.looked x
  all = ap (λ b. cond b (turn_touches d.worker d.workers d.ports d.looked d.what) []) (lt-ltb d.worker d.workers lt) ∙ ap (turn_touches d.worker d.workers d.ports d.looked) is
