-- How a marker line parts an input into a script and a journal.
use Rattle.std.specs.Prelude.{◌≡◌, ◌≤◌, ◌⊎◌, ℕ, List, [], ◌∷◌, ◌++◌, length, codes}

-- the marker line, with its line feed
abbrev pub marker : List ℕ
marker = codes ";;; journal\n"

-- it is empty or ends with a line feed (10), so that a line begins behind it
abbrev pub EndsLine : List ℕ → Type 0
EndsLine front = (front ≡ []) ⊎ ((line : List ℕ) × (front ≡ line ++ 10 ∷ []))

-- the input is the script, a marker line and the journal
abbrev pub IsMarked : List ℕ → List ℕ → List ℕ → Type 0
IsMarked input script journal = EndsLine script × (input ≡ script ++ (marker ++ journal))

-- and no marker line stands before that one
pub record IsParted (input script journal : List ℕ) : Type 0 where
  pub marked : IsMarked input script journal
  pub first : (front behind : List ℕ) → IsMarked input front behind → length script ≤ length front

-- the input has no marker line
abbrev pub IsUnparted : List ℕ → Type 0
IsUnparted input = (script journal : List ℕ) → IsMarked input script journal → ⊥
