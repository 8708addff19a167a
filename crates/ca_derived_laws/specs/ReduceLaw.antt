-- The law of `reduce`. (core.async API reference: `reduce`, `into`.)
use Rattle.std.specs.Prelude.{◌≡◌, ℕ, List, [], ◌∷◌, cond, flat_map}
use Rattle.ca_value.specs.Tree.{Tree}
use Rattle.ca_term.specs.declared.place.Place.{Place}
use Rattle.ca_term.specs.declared.head.Head.{Head}
use Rattle.ca_term.specs.Kernel.{const}
use Rattle.ca_term.specs.Program.{ProgramView}
use Rattle.ca_term.specs.Event.{EventView}
use Rattle.ca_meaning.specs.Body.{BodyView, at, ended, new_body}
use Rattle.ca_meaning.specs.Rest.{Rest}
use Rattle.ca_meaning.specs.Operands.{is_nil}
use Rattle.ca_laws.specs.Deeds.{Deed, did_put, did_post, deeds}
use Rattle.ca_laws.specs.Taken.{taken}
use Rattle.ca_derived_laws.specs.PlainHeads.{IsPlainFor}
use Rattle.ca_derived_laws.specs.TakeLaw.{Did, has_ended, found_nil}
use Rattle.ca_derived_laws.specs.StartsAs.{StartsAs}
use Rattle.ca_derived_laws.specs.ReduceTask.{ReduceTask, reduce_applies, reduce_text}

-- a call of f on these, its turns and its depth counted from 0, comes to v
abbrev pub Comes : ProgramView → Head → Place → Tree → Tree → Tree → Type 0
Comes program f p w a v = (c : BodyView) × Rest program (new_body (reduce_applies f (const w) (const a) p)) c × (at c ≡ ended v)

-- f folded over the values from w comes to v
abbrev pub Folded : ProgramView → Head → Place → Tree → List Tree → Tree → Type 0
Folded program f p w [] v = v ≡ w
Folded program f p w (a ∷ vs) v = (u : Tree) × Comes program f p w a u × Folded program f p u vs v

-- the channels and the values that it put or posted, in order
abbrev pub posted_by : Deed → List (ℕ × Tree)
posted_by (did_put k p v a) = (p, v) ∷ []
posted_by (did_post w p v) = (p, v) ∷ []
posted_by d = []

abbrev pub values_posted : List Deed → List (ℕ × Tree)
values_posted ds = flat_map posted_by ds

-- What a reduce by f from w with that result port did: where it ended, a take gave nil, and it posted there, once, f
-- folded over the values that it took, or nothing where that is nil.
abbrev pub Reduced : ProgramView → Head → Place → Tree → ℕ → List Deed → Type 0
Reduced program f p w r ds = Did has_ended ds → Did found_nil ds × ((v : Tree) × Folded program f p w (taken ds) v × (values_posted ds ≡ cond (is_nil v) [] ((r, v) ∷ [])))

-- each task whose body at its Spawn is that of a reduce by a builtin or a plain function
abbrev pub ReduceLaw : ProgramView → List EventView → Type 0
ReduceLaw program journal = (t : ℕ) (x : ReduceTask) → StartsAs program journal t (reduce_text x) → IsPlainFor program x.function 2 → Reduced program x.function x.place x.initial x.result (deeds t journal)
