-- Channels in order of number, each new one at its place.
use Rattle.std.proofs.Common.{◌≡◌, ◌≢◌, inl, inr, ⊎_elim, ℕ, ◌<◌, ◌≤◌, List, [], ◌∷◌, ◌++◌, refl, Bool, true, false, cond, nat_le, arith}
use Rattle.std.proofs.lemmas.Bool.Decides.{nat_tests}
use Rattle.ca_term.specs.Event.{EventView}
use Rattle.ca_meaning.specs.Sound.{Each}
use Rattle.ca_report.specs.Made.{Made, made_placed, with_channel_made, made_from, channels_made, Below, Rising, IsAmong}

abbrev pub NotAmong : ℕ → List Made → Type 0
NotAmong n [] = Unit {0}
NotAmong n (x ∷ xs) = (n ≢ x.port) × NotAmong n xs

pub le_true : (a b : ℕ) → nat_le a b ≡ true → a ≤ b
le_true a b e = grind (arith, nat_tests)

pub le_false : (a b : ℕ) → nat_le a b ≡ false → b < a
le_false a b e = grind (arith, nat_tests)

below_less : (n m : ℕ) (xs : List Made) → n < m → Below m xs → Below n xs
below_less n m [] lt b = tt
below_less n m (x ∷ xs) lt b = (omega (arith, b.0), below_less n m xs lt b.1)

below_placed : (n : ℕ) (m : Made) (xs : List Made) → n < m.port → Below n xs → Below n (made_placed m xs)
below_placed n m [] lt b = (lt, tt)
below_placed n m (x ∷ xs) lt b = by (nat_le m.port x.port) (below_placed n m xs lt b.1) where
  by : (y : Bool) → Below n (made_placed m xs) → Below n (cond y (m ∷ x ∷ xs) (x ∷ made_placed m xs))
  by true rest = (lt, b)
  by false rest = (b.0, rest)

pub placed_rising : (m : Made) (xs : List Made) → NotAmong m.port xs → Rising xs → Rising (made_placed m xs)
placed_rising m [] n r = (tt, tt)
placed_rising m (x ∷ xs) n r = by (nat_le m.port x.port) refl (placed_rising m xs n.1 r.1) where
  by : (y : Bool) → nat_le m.port x.port ≡ y → Rising (made_placed m xs) → Rising (cond y (m ∷ x ∷ xs) (x ∷ made_placed m xs))
  by true is rest = let lt : m.port < x.port = omega (arith, le_true m.port x.port is, n.0) in ((lt, below_less m.port x.port xs lt r.0), r)
  by false is rest = (below_placed x.port m xs (le_false m.port x.port is) r.0, rest)

pub each_placed : (P : Made → Type 0) (m : Made) (xs : List Made) → P m → Each P xs → Each P (made_placed m xs)
each_placed P m [] h all = (h, tt)
each_placed P m (x ∷ xs) h all = by (nat_le m.port x.port) (each_placed P m xs h all.1) where
  by : (y : Bool) → Each P (made_placed m xs) → Each P (cond y (m ∷ x ∷ xs) (x ∷ made_placed m xs))
  by true rest = (h, all)
  by false rest = (all.0, rest)

made_from_last : (ms : List Made) (es : List EventView) (e : EventView) → made_from ms (es ++ e ∷ []) ≡ with_channel_made e (made_from ms es)
made_from_last ms [] e = refl
made_from_last ms (x ∷ es) e = made_from_last (with_channel_made x ms) es e

pub made_last : (es : List EventView) (e : EventView) → channels_made (es ++ e ∷ []) ≡ with_channel_made e (channels_made es)
made_last es e = made_from_last [] es e

pub among_placed : (p : ℕ) (m : Made) (xs : List Made) → IsAmong p xs → IsAmong p (made_placed m xs)
among_placed p m [] h = absurd h
among_placed p m (x ∷ xs) h = by (nat_le m.port x.port) (among_placed p m xs) where
  by : (y : Bool) → (IsAmong p xs → IsAmong p (made_placed m xs)) → IsAmong p (cond y (m ∷ x ∷ xs) (x ∷ made_placed m xs))
  by true rest = inr h
  by false rest = ⊎_elim (λ e. inl e) (λ k. inr (rest k)) h

pub among_new : (m : Made) (xs : List Made) → IsAmong m.port (made_placed m xs)
among_new m [] = inl refl
among_new m (x ∷ xs) = by (nat_le m.port x.port) (among_new m xs) where
  by : (y : Bool) → IsAmong m.port (made_placed m xs) → IsAmong m.port (cond y (m ∷ x ∷ xs) (x ∷ made_placed m xs))
  by true rest = inl refl
  by false rest = inr rest
