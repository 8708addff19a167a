-- The law of `take`. (core.async API reference: `take`.)
use Rattle.std.specs.Prelude.{◌≡◌, ℕ, pos, ◌≤◌, List, ◌⊎◌, length, Bool, true, false, map, eqb}
use Rattle.std.specs.List.{list_any}
use Rattle.ca_value.specs.Tree.{Tree, int}
use Rattle.ca_term.specs.declared.event.Ending.TheVariants.{Ended}
use Rattle.ca_term.specs.Program.{ProgramView}
use Rattle.ca_term.specs.Event.{EventView}
use Rattle.ca_meaning.specs.Operands.{is_nil, port_of_value}
use Rattle.ca_laws.specs.Deeds.{Deed, did_take, did_close, did_end, deeds}
use Rattle.ca_laws.specs.Taken.{taken, put_in, Begins}
use Rattle.ca_derived_laws.specs.StartsAs.{StartsAs}
use Rattle.ca_derived_laws.specs.TakeTask.{TakeTask, take_text}

-- a negative number counts as 0; what is no number is refused by the first comparison
abbrev pub at_most : Tree → ℕ
at_most (int (pos n)) = n
at_most v = 0

-- a take gave nil
abbrev pub found_nil : Deed → Bool
found_nil (did_take k p a) = is_nil a
found_nil d = false

abbrev pub has_ended : Deed → Bool
has_ended (did_end Ended) = true
has_ended d = false

abbrev pub deed_closes : ℕ → Deed → Bool
deed_closes p (did_close q) = eqb q p
deed_closes p d = false

-- one of its deeds is such
abbrev pub Did : (Deed → Bool) → List Deed → Type 0
Did test ds = list_any test ds ≡ true

-- each of the values, put into that channel
abbrev pub onto : ℕ → List Tree → List (ℕ × Tree)
onto p vs = map (λ v. (p, v)) vs

-- What a take of at most n values into its target did: it put the first of the values that it took, in their order,
-- into its target, and it took at most n; where it ended, it closed its target, and took n values or found the end.
pub record TookAtMost (n : ℕ) (target : ℕ) (ds : List Deed) : Type 0 where
  pub order : Begins (put_in ds) (onto target (taken ds))
  pub bound : length (taken ds) ≤ n
  pub whole : Did has_ended ds → Did (deed_closes target) ds × ((length (taken ds) ≡ n) ⊎ Did found_nil ds)

-- each task whose body at its Spawn is that of a take
abbrev pub TakeLaw : ProgramView → List EventView → Type 0
TakeLaw program journal = (t : ℕ) (x : TakeTask) → StartsAs program journal t (take_text x) → TookAtMost (at_most x.bound) (port_of_value x.target) (deeds t journal)
