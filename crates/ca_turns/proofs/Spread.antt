-- A step that keeps a rule keeps it of a table whose words and slots stand on lines of their own.
use Rattle.std.proofs.Common.{◌≡◌, ℕ, zero, suc, ◌+◌, ◌/◌, ◌<◌, ◌≤◌, List, [], ◌∷◌, ◌++◌, map, length, get_or, set, drop, replicate, sym, refl, ap, ap₂, ◌∙◌, subst, arith, get_or-set_other, length-set}
use mathlib.Core.Option.{none, some, some-injective, some-ne-none}
use mathlib.Core.Option as maybe
use lib.ListN.{get_elem?, length-map, length-drop, length-replicate}
use lib.Seq.{map-set}
use Rattle.std.specs.Prelude.{Option, ◌-◌}
use Rattle.atomic_table.proofs.Lists.{at_map}
use Rattle.crossbeam_utils.specs.Padded.{padded_value}
use Rattle.atomic_table.specs.Table.{State, Me, Act, keeps, takes, gives, chain, rest, turned, carried_after, homes_after, Valid, Allows, Splits, Joins, opening, Final, Seen}
use Rattle.ca_turns.specs.Lines.{line_address, words_of, Padded, bare_homes, bare_out, bare, bare_table, InLines}

pub eighth : (k : ℕ) → line_address k / 8 ≡ k
eighth k = omega arith

dropped : (m : ℕ) (ws : List ℕ) (i : ℕ) → get_or (drop m ws) i 0 ≡ get_or ws (m + i) 0
dropped zero ws i = ap (λ j. get_or ws j 0) (omega arith)
dropped (suc m) [] i = refl
dropped (suc m) (w ∷ ws) i = dropped m ws i ∙ ap (λ j. get_or (w ∷ ws) j 0) (let e : suc (m + i) ≡ suc m + i = omega arith in e)

-- the k-th of the first n words
pub word_at : (n k : ℕ) (ws : List ℕ) → k < n → get_or (words_of n ws) k 0 ≡ get_or ws (line_address k) 0
word_at zero k ws h = absurd (omega arith)
word_at (suc n) zero ws h = refl
word_at (suc n) (suc k) ws h = word_at n k (drop 8 ws) (omega arith) ∙ dropped 8 ws (line_address k) ∙ ap (λ i. get_or ws i 0) (let e : 8 + line_address k ≡ line_address (suc k) = omega arith in e)

-- a write to the k-th of them
pub words_set : (n k x : ℕ) (ws : List ℕ) → line_address k < length ws → words_of n (set ws (line_address k) x) ≡ set (words_of n ws) k x
words_set zero k x ws h = refl
words_set (suc n) zero x [] h = absurd (omega arith)
words_set (suc n) zero x (w ∷ ws) h = refl
words_set (suc n) (suc k) x ws h = ap₂ (λ y ys. y ∷ ys) (get_or-set_other ws (line_address (suc k)) 0 x 0 (λ e. omega arith)) (
    ap (λ i. words_of n (drop 8 (set ws i x))) (let e : line_address (suc k) ≡ 8 + line_address k = omega arith in e) ∙ ap (words_of n) (drop_set 8 (line_address k) ws)
    ∙ words_set n k x (drop 8 ws) (let l : length (drop 8 ws) ≡ length ws - 8 = length-drop 8 ws in omega arith))
  where
    drop_set : (m i : ℕ) (ws : List ℕ) → drop m (set ws (m + i) x) ≡ set (drop m ws) i x
    drop_set zero i ws = ap (λ j. set ws j x) (omega arith)
    drop_set (suc m) i [] = refl
    drop_set (suc m) i (w ∷ ws) = ap (λ j. drop (suc m) (set (w ∷ ws) j x)) (let e : suc m + i ≡ suc (m + i) = omega arith in e) ∙ drop_set m i ws

-- where all words are 0
words_zero : (n : ℕ) (ws : List ℕ) → ((i : ℕ) → ◌≡◌ {A = ℕ} (get_or ws i 0) 0) → words_of n ws ≡ replicate n 0
words_zero zero ws h = refl
words_zero (suc n) ws h = ap₂ (λ y ys. y ∷ ys) (h 0) (words_zero n (drop 8 ws) (λ i. dropped 8 ws i ∙ h (8 + i)))

zero_at : (n i : ℕ) → ◌≡◌ {A = ℕ} (get_or (replicate {A = ℕ} n 0) i 0) 0
zero_at zero i = refl
zero_at (suc n) zero = refl
zero_at (suc n) (suc i) = zero_at n i

module _ {P : Type 0} where
  at_home : (hs : List (maybe.Option (Padded P))) (k : ℕ) (y : Option P) → get_elem? (bare_homes hs) k ≡ some (some y) → (z : Padded P) × (get_elem? hs k ≡ some (some z)) × (padded_value z ≡ y)
  at_home [] k y e = absurd (some-ne-none (some y) (sym e))
  at_home (none ∷ hs) zero y e = absurd (some-ne-none y (sym (some-injective none (some y) e)))
  at_home (some z ∷ hs) zero y e = (z, refl, some-injective (padded_value z) y (some-injective (some (padded_value z)) (some y) e))
  at_home (h ∷ hs) (suc k) y e = at_home hs k y e

  length-homes_after : (hs : List (maybe.Option (Padded P))) (out : List (ℕ × Padded P)) (a : Act (Padded P)) → length (homes_after hs out a) ≡ length hs
  length-homes_after hs out keeps = refl
  length-homes_after hs out (takes k z) = length-set hs k none
  length-homes_after hs [] gives = refl
  length-homes_after hs (x ∷ xs) gives = length-set hs x.0 (some x.1)
  length-homes_after hs out (chain a b) = length-homes_after (homes_after hs out a) (carried_after out a) b ∙ length-homes_after hs out a

  -- an act on the slots as they are, for one on what they hold
  lift : (hs : List (maybe.Option (Padded P))) (out : List (ℕ × Padded P)) (a : Act (Option P)) → Valid (bare_homes hs) (bare_out out) a
      → (b : Act (Padded P)) × Valid hs out b × (bare_homes (homes_after hs out b) ≡ homes_after (bare_homes hs) (bare_out out) a) × (bare_out (carried_after out b) ≡ carried_after (bare_out out) a)
  lift hs out keeps ok = (keeps, tt, refl, refl)
  lift hs out (takes k y) ok = let z = at_home hs k y ok in (takes k z.0, z.1, map-set (maybe.map padded_value) hs k none, ap (λ (v : Option P). (k, v) ∷ bare_out out) z.2)
  lift hs [] gives ok = (gives, tt, refl, refl)
  lift hs (x ∷ xs) gives ok = (gives, tt, map-set (maybe.map padded_value) hs x.0 (some x.1), refl)
  lift hs out (chain a b) ok = let x = lift hs out a ok.0 in
      let y = lift (homes_after hs out x.0) (carried_after out x.0) b (subst (λ (z : List (maybe.Option (Option P)) × List (ℕ × Option P)). Valid z.0 z.1 b) (λ i. (sym x.2 i, sym x.3 i)) ok.1) in (
        chain x.0 y.0,
        (x.1, y.1),
        y.2 ∙ ap₂ (λ h o. homes_after h o b) x.2 x.3,
        y.3 ∙ ap (λ o. carried_after o b) x.3,
      )

  -- what a slot held that is taken out at the end
  pub taken_out : (now all : List (Padded P)) (i : ℕ) (z : Padded P) (y : Option P) → now ≡ all → get_elem? now i ≡ some z → y ≡ padded_value z → get_elem? (map padded_value all) i ≡ some y
  taken_out now all i z y same at is = at_map padded_value all i z (sym (ap (λ l. get_elem? l i) same) ∙ at) ∙ ap some (sym is)

  pub none_out : (out : List (ℕ × Padded P)) → bare_out out ≡ [] → out ≡ []
  none_out [] e = refl
  none_out (x ∷ xs) e = absurd (let h : suc (length (bare_out xs)) ≡ 0 = ap length e in omega arith)

  -- the slot taken last, with its padding
  pub padded_front : (out : List (ℕ × Padded P)) (i : ℕ) (y : Option P) (m : List (ℕ × Option P)) → bare_out out ≡ (i, y) ∷ m → (z : Padded P) × (out ≡ (i, z) ∷ rest out)
  padded_front [] i y m e = absurd (let h : 0 ≡ suc (length m) = ap length e in omega arith)
  padded_front (x ∷ xs) i y m e = (x.1, ap (λ (k : ℕ). (k, x.1) ∷ xs) (ap (first i) e))
    where
      first : ℕ → List (ℕ × Option P) → ℕ
      first d [] = d
      first d (x ∷ xs) = x.0

  pub bare_turned : (out : List (ℕ × Padded P)) → bare_out (turned out) ≡ turned (bare_out out)
  bare_turned [] = refl
  bare_turned (x ∷ xs) = go xs
    where
      go : (xs : List (ℕ × Padded P)) → bare_out (xs ++ x ∷ []) ≡ bare_out xs ++ (x.0, padded_value x.1) ∷ []
      go [] = refl
      go (y ∷ ys) = ap (λ z. (y.0, padded_value y.1) ∷ z) (go ys)

  module _ {V : Type 0} (rule : State (Option P) V → Type 0) where
    pub spread : (n id k : ℕ) (me : Me (Padded P) V) (f : ℕ → ℕ) (then : ℕ → Me (Option P) V → Type 0) → k ≤ n → Allows rule n id (bare me) k f then → Allows (InLines rule) n id me (line_address k) f (λ r m. then r (bare m))
    spread n id k me f then near go s r wide at small =
        let hs = s.homes in let long : length hs ≡ n = wide in let is : get_or (words_of (length hs + 1) s.words) k 0 ≡ get_or s.words (line_address k) 0 = word_at (length hs + 1) k s.words (omega arith) in
        let x = go (bare_table s) r.ruled (length-map hs (maybe.map padded_value) ∙ wide) at (subst (λ (w : ℕ). w < 18446744073709551616) (sym is) small) in let y = lift hs me.1 x.1 x.2 in
        let v : ℕ = f (get_or s.words (line_address k) 0) in let same = length-homes_after hs me.1 y.0 in let room : line_address k < length s.words = (let w : length s.words ≡ line_address (length hs + 1) = r.wide in omega arith) in (
          x.0,
          y.0,
          y.1,
          record {
            wide = length-set s.words (line_address k) v ∙ r.wide ∙ ap (λ m. line_address (m + 1)) (sym same);
            ruled = let words = sym (ap (λ m. words_of (m + 1) (set s.words (line_address k) v)) same ∙ words_set (length hs + 1) k v s.words room ∙ ap (λ w. set (words_of (length hs + 1) s.words) k (f w)) (sym is)) in
                subst (λ (z : List ℕ × List (maybe.Option (Option P))). rule record { words = z.0; homes = z.1; views = set s.views id x.0 }) (λ i. (words i, sym y.2 i)) x.3;
          },
          subst (λ (z : ℕ × List (ℕ × Option P)). then z.0 (x.0, z.1)) (λ i. (is i, sym y.3 i)) x.4,
        )

    pub spread_split : (id : ℕ) (v left right : V) → Splits rule id v left right → Splits (InLines {P = P} rule) id v left right
    spread_split id v left right go s r at = record { wide = r.wide; ruled = go (bare_table s) r.ruled at }

    pub spread_join : (id : ℕ) (v : V) (other : ℕ) (w both spent : V) → Joins rule id v other w both spent → Joins (InLines {P = P} rule) id v other w both spent
    spread_join id v other w both spent go s r at apart at' = record { wide = r.wide; ruled = go (bare_table s) r.ruled at apart at' }

    pub spread_open : (ws : List ℕ) (xs : List (Padded P)) (ys : List (Option P)) (v : V) → ws ≡ replicate (line_address (length xs + 1)) 0 → map padded_value xs ≡ ys → rule (opening (replicate (length ys + 1) 0) ys v) → InLines rule (opening ws xs v)
    spread_open ws xs ys v zeros are go = let hs = map some xs in let long : length hs ≡ length xs = length-map xs some in let as_many : length ys ≡ length xs = sym (ap length are) ∙ length-map xs padded_value in record {
      wide = ap length zeros ∙ length-replicate (line_address (length xs + 1)) 0 ∙ ap (λ m. line_address (m + 1)) (sym long);
      ruled = let words = sym (words_zero (length hs + 1) ws (λ i. ap (λ l. get_or l i 0) zeros ∙ zero_at (line_address (length xs + 1)) i) ∙ ap (λ m. replicate {A = ℕ} (m + 1) 0) (long ∙ sym as_many)) in
          subst (λ (z : List ℕ × List (maybe.Option (Option P))). rule record { words = z.0; homes = z.1; views = v ∷ [] }) (λ i. (words i, sym (all_home xs ∙ ap (map some) are) i)) go;
    }
      where
        all_home : (xs : List (Padded P)) → bare_homes (map some xs) ≡ map some (map padded_value xs)
        all_home [] = refl
        all_home (x ∷ xs) = ap (λ z. some (padded_value x) ∷ z) (all_home xs)

    pub spread_end : (ws : List ℕ) (xs : List (Padded P)) (id : ℕ) (v : V) → Final (Seen (InLines rule) id v) ws xs → Final (Seen rule id v) (words_of (length xs + 1) ws) (map padded_value xs)
    spread_end ws xs id v (s, (r, at), words, long, same) = (
      bare_table s,
      (r.ruled, at),
      ap₂ (λ n w. words_of (n + 1) w) long words,
      length-map s.homes (maybe.map padded_value) ∙ long ∙ sym (length-map xs padded_value),
      λ k y e. let z = at_home s.homes k y e in at_map padded_value xs k z.0 (same k z.0 z.1) ∙ ap some z.2,
    )
