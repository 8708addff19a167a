-- What the loops come to, once their shape was judged.
use Rattle.std.specs.Prelude.{ℕ, pos, List, [], ◌∷◌, map}
use Rattle.ca_value.specs.Tree.{nil, int}
use Rattle.ca_value.specs.declared.builtin.Builtin.TheVariants.{Inc, Less, Nth, Items, Count}
use Rattle.ca_term.specs.declared.place.Place.{Place}
use Rattle.ca_term.specs.declared.head.Head.TheVariants.{Recur, Builtin}
use Rattle.ca_term.specs.Kernel.{Kernel, Kernels, const, var, branch, bind, loop, seq, apply, none, item}
use Rattle.ca_term.specs.View.{kernels_of}
use Rattle.ca_forms.specs.declared.error.CheckErrorKind.TheVariants.{BadForm}
use Rattle.ca_forms.specs.Outcome.{Gathered, WalkOutcome, after_walk, limited}
use Rattle.ca_forms.specs.Meaning.{Meaning, size, fail_with, block, loops, numbered}
use Rattle.ca_forms.specs.Binders.{Part, Binder, spread, letting}
use Rattle.ca_forms.specs.Judged.{total_bounds}
use Rattle.ca_forms.specs.Operands.{with_last_term}
use Rattle.ca_forms.specs.Plain.{meanings, looping, nth_bound}

-- a `loop` whose shape was judged
abbrev pub loop_parts : Place → List Part → Meaning
loop_parts p [] = fail_with BadForm p
loop_parts p (b ∷ es) = looping (total_bounds b.within) (block (meanings es)) p

-- the same without a pattern
abbrev pub loop_names : Place → List Part → Meaning
loop_names p [] = fail_with BadForm p
loop_names p (b ∷ es) = λ env. loops (spread p (size env) (total_bounds b.within)) (block (meanings es)) env

-- what is done while a test holds: these terms, and then a `recur`
abbrev pub turn_of : Kernel → Kernels → Kernel → Gathered → WalkOutcome Kernel
turn_of test ts next s = after_walk (limited (seq (with_last_term ts next)) s) (λ u s.
    after_walk (limited (branch test u (const nil)) s) (λ v s. limited (seq (item v none)) s))

-- the loop of such turns, over these values from number n on
abbrev pub rounds : ℕ → List Kernel → Kernel → Kernels → Kernel → Gathered → WalkOutcome Kernel
rounds n vs test ts next s = after_walk (turn_of test ts next s) (λ u s. limited (loop [] (numbered n vs) u) s)

-- (recur), and (recur (inc i))
abbrev pub recur_term : List Kernel → Place → Kernel
recur_term ts p = apply Recur (kernels_of ts) p

abbrev pub next_term : ℕ → Place → Kernel
next_term i p = apply (Builtin Inc) (kernels_of (var i ∷ [])) p

-- the loop that counts from 0 up to the number n, by the name i
abbrev pub counted_rounds : ℕ → ℕ → Kernels → Place → Gathered → WalkOutcome Kernel
counted_rounds i n ts p s =
    rounds i (const (int (pos 0)) ∷ []) (apply (Builtin Less) (kernels_of (map var (i ∷ n ∷ []))) p) ts (recur_term (next_term i p ∷ []) p) s

-- these values under hidden names from number n on, and a body
abbrev pub under : ℕ → List Kernel → Kernel → Gathered → WalkOutcome Kernel
under n vs u s = after_walk (limited (seq (item u none)) s) (λ x s. limited (bind (numbered n vs) x) s)

-- item j of the value of the name h, and a `let` of it
abbrev pub nth_term : ℕ → ℕ → Place → Kernel
nth_term h j p = apply (Builtin Nth) (kernels_of (map var (h ∷ j ∷ []))) p

abbrev pub item_of : Binder → ℕ → ℕ → Meaning → Place → Meaning
item_of b h j body p = letting (nth_bound b h j p ∷ []) body p

-- the items of a value, and how many a name has
abbrev pub items_call : Kernel → Place → Kernel
items_call v p = apply (Builtin Items) (item v none) p

abbrev pub count_term : ℕ → Place → Kernel
count_term h p = apply (Builtin Count) (kernels_of (map var (h ∷ []))) p
