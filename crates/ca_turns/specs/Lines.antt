-- How a table lies in memory: each word and each slot stands on lines of the cache of its own. The one-history rule sees the table without what lies between.
use Rattle.std.specs.Prelude.{◌≡◌, ℕ, zero, suc, ◌+◌, ◌*◌, ◌/◌, List, [], ◌∷◌, length, map, drop, Option, slice_index_or}
use mathlib.Core.Option as maybe
use Rattle.crossbeam_utils.specs.declared.cache_padded.CachePadded.{CachePadded}
use Rattle.crossbeam_utils.specs.Padded.{padded_value}
use Rattle.atomic_table.specs.Table.{State, Me, Step}

-- where in memory the word k of the rule stands: eight words of 8 bytes are a line of 64
abbrev pub line_address : ℕ → ℕ
line_address k = 8 * k

-- the first n words that stand so
abbrev pub words_of : ℕ → List ℕ → List ℕ
words_of zero ws = []
words_of (suc n) ws = slice_index_or ws 0 0 ∷ words_of n (drop 8 ws)

-- what a slot holds
abbrev pub Padded : Type 0 → Type 0
Padded P = CachePadded (Option P)

module _ {P : Type 0} where
  abbrev pub bare_homes : List (maybe.Option (Padded P)) → List (maybe.Option (Option P))
  bare_homes hs = map (maybe.map padded_value) hs

  abbrev pub bare_out : List (ℕ × Padded P) → List (ℕ × Option P)
  bare_out out = map (λ x. (x.0, padded_value x.1)) out

  -- a step on a word, at the word of the rule that stands there
  abbrev pub bare_step : Step (Padded P) → Step (Option P)
  bare_step s = record { slots = s.slots; word = s.word / 8; first = s.first; second = s.second; said = maybe.map padded_value s.said }

module _ {P V : Type 0} where
  -- a seat, its slots without their padding
  abbrev pub bare : Me (Padded P) V → Me (Option P) V
  bare me = (me.0, bare_out me.1)

  -- a table without what lies between its words and its slots
  abbrev pub bare_table : State (Padded P) V → State (Option P) V
  bare_table s = record { words = words_of (length s.homes + 1) s.words; homes = bare_homes s.homes; views = s.views }

  -- the rule holds of the table without what lies between
  pub record InLines (rule : State (Option P) V → Type 0) (s : State (Padded P) V) : Type 0 where
    pub wide : length s.words ≡ line_address (length s.homes + 1)
    pub ruled : rule (bare_table s)

  -- what a step tells, of the rule's table
  abbrev pub in_lines : (Step (Option P) → Me (Option P) V → ℕ → Me (Option P) V → Type 0) → Step (Padded P) → Me (Padded P) V → ℕ → Me (Padded P) V → Type 0
  in_lines then s m r n = then (bare_step s) (bare m) r (bare n)
