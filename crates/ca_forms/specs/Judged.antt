-- A shape is judged apart from the walk: what is wrong with bindings, and what they bind, read without a test.
use Rattle.std.specs.Prelude.{ℕ, zero, suc, pos, List, [], ◌∷◌, length, map, Option, None, Some, Bool, false, cond, nat_lt}
use Rattle.ca_value.specs.Tree.{int}
use Rattle.ca_value.specs.declared.builtin.Builtin.TheVariants.{Part as PartOf}
use Rattle.ca_term.specs.declared.place.Place.{Place}
use Rattle.ca_term.specs.declared.head.Head.TheVariants.{Builtin}
use Rattle.ca_term.specs.Kernel.{Kernel, Bindings, const, var, apply, branch, bind, seq, empty, binding, none as no_terms, item as term}
use Rattle.ca_forms.specs.Outcome.{Gathered, WalkOutcome, done, after_walk, limited}
use Rattle.ca_forms.specs.Meaning.{Meaning, Named, size, fail_with, lets, block}
use Rattle.ca_forms.specs.Plain.{meanings, and_of, or_of}
use Rattle.ca_reader.specs.declared.form.Bracket.TheVariants.{Square}
use Rattle.ca_reader.specs.Form.{FormTree, FormTrees, form, atom, group, symbol, none, item}
use Rattle.ca_forms.specs.declared.error.CheckErrorKind.{CheckErrorKind}
use Rattle.ca_forms.specs.declared.error.CheckErrorKind.TheVariants.{BadForm, TooMany}
use Rattle.ca_forms.specs.Binders.{Pair, Part, Binder, Bound, one, many, spread}

-- what is wrong with the bindings of a `let` or a `loop`
abbrev pub bounds_error : Option (List Bound) → Option CheckErrorKind
bounds_error None = Some BadForm
bounds_error (Some bs) = cond (nat_lt 64 (length bs)) (Some TooMany) None

-- a name, or nothing for another form
abbrev pub total_name : FormTree → List ℕ
total_name (form (atom (symbol s)) p) = s
total_name (form s p) = []

abbrev pub total_names : FormTrees → List (List ℕ)
total_names none = []
total_names (item f fs) = total_name f ∷ total_names fs

abbrev pub total_binder : FormTree → Binder
total_binder (form (atom (symbol s)) p) = one s
total_binder (form (group Square fs) p) = many (total_names fs) p
total_binder (form s p) = one []

abbrev pub total_bounds : List Pair → List Bound
total_bounds [] = []
total_bounds (b ∷ []) = []
total_bounds (b ∷ e ∷ bs) = record { by = total_binder b.form; means = e.means } ∷ total_bounds bs

-- the names that bindings bind
abbrev pub bound_names : List Named → List (List ℕ)
bound_names bs = map (λ b. b.name) bs

-- item i of the value of the name h, and n items from i on
abbrev pub part_term : Place → ℕ → ℕ → Kernel
part_term p h i = apply (Builtin PartOf) (term (var h) (term (const (int (pos i))) no_terms)) p

abbrev pub part_terms : Place → ℕ → ℕ → ℕ → List Kernel
part_terms p h i zero = []
part_terms p h i (suc n) = part_term p h i ∷ part_terms p h (suc i) n

-- a `let` whose shape was judged
abbrev pub let_parts : Place → List Part → Meaning
let_parts p [] = fail_with BadForm p
let_parts p (b ∷ es) = λ env. lets (spread p (size env) (total_bounds b.within)) (block (meanings es)) env

-- (let [n t] (if n u n)) for `and`, (let [n t] (if n n u)) for `or`, from the value t and the rest u
abbrev pub chained : Bool → ℕ → Kernel → Kernel → Gathered → WalkOutcome Kernel
chained both n t u s = after_walk (limited (cond both (branch (var n) u (var n)) (branch (var n) (var n) u)) s)
    (λ y s. after_walk (limited (seq (term y no_terms)) s) (λ x s. limited (bind (binding n t empty) x) s))

-- the same for values under hidden names, from the last operand back
abbrev pub chain_of : Bool → Bindings → Kernel → Gathered → WalkOutcome Kernel
chain_of both empty u s = done u s
chain_of both (binding n t bs) u s = after_walk (chain_of both bs u s) (chained both n t)

-- an `and`, or an `or`
abbrev pub more_of : Bool → List Meaning → Meaning
more_of both ms = cond both (and_of ms) (or_of ms)

-- a pattern of more than 4,096 names
abbrev pub over_long : Binder → Bool
over_long (one x) = false
over_long (many xs q) = nat_lt 4096 (length xs)

-- the names that a binder binds, and what is bound behind its value, which has the number n
abbrev pub binder_names : Binder → List (List ℕ)
binder_names (one x) = x ∷ []
binder_names (many xs q) = [] ∷ xs

abbrev pub binder_parts : Place → ℕ → Binder → List Kernel
binder_parts p n (one x) = []
binder_parts p n (many xs q) = part_terms p n 0 (length xs)

-- the names of a pattern, none of another form
abbrev pub pattern_of : FormTree → FormTrees
pattern_of (form (group Square fs) p) = fs
pattern_of (form s p) = none
