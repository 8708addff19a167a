-- The branches of a term, each as how many blocks its two sides finish.
use Rattle.std.specs.Prelude.{◌≡◌, List, [], ◌∷◌, ◌++◌}
use Rattle.ca_term.specs.Kernel.{Kernel, Kernels, Bindings, const, var, branch, bind, loop, seq, frame, turn, apply, none, item, empty, binding}
use Rattle.ca_lower.specs.declared.sizes.Split.{Split}
use Rattle.ca_lower.specs.Emit.{blocks}

-- how many blocks the sides of a branch finish
abbrev pub split : Kernel → Kernel → Split
split a b = record { then = blocks a; otherwise = blocks b }

-- a list's end is its top
abbrev pub on_top : Split → List Split → List Split
on_top s rest = rest ++ s ∷ []

abbrev mutual
  -- the branches of a term on top of a list, the one that is laid out first above the others
  pub stacked : Kernel → List Split → List Split
  stacked (const v) rest = rest
  stacked (var x) rest = rest
  stacked (branch c a b) rest = stacked c (on_top (split a b) (stacked a (stacked b rest)))
  stacked (bind bs body) rest = stacked_bound bs (stacked body rest)
  stacked (loop fs bs body) rest = stacked_bound bs (stacked body rest)
  stacked (seq ts) rest = stacked_all ts rest
  stacked (frame body) rest = rest
  stacked (turn ns text now) rest = rest
  stacked (apply f ts p) rest = stacked_all ts rest

  pub stacked_all : Kernels → List Split → List Split
  stacked_all none rest = rest
  stacked_all (item t ts) rest = stacked t (stacked_all ts rest)

  pub stacked_bound : Bindings → List Split → List Split
  stacked_bound empty rest = rest
  stacked_bound (binding n t bs) rest = stacked t (stacked_bound bs rest)

-- the list has these on top
pub record IsOnTop (these : List Split → List Split) (s : List Split) : Type 0 where
  pub rest : List Split
  pub is : s ≡ these rest

-- they are taken from it, and what is below them stays
pub record TakesSplits (these : List Split → List Split) (s left : List Split) : Type 0 where
  pub leaves : (rest : List Split) → s ≡ these rest → left ≡ rest
