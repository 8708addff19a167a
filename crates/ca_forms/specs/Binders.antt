-- What binds names: a symbol, or a vector of symbols, a pattern. A pattern's value gets a hidden name, and each
-- name in the pattern is a part of it.
use Rattle.std.specs.Prelude.{ℕ, suc, ◌+◌, pos, List, [], ◌∷◌, ◌++◌, length, Option, None, Some, Bool, true, false, cond, ◌||◌, ◌==◌, nat_lt, codes}
use Rattle.std.specs.List.{list_any}
use Rattle.std.specs.Str.{bytes_eq}
use Rattle.ca_value.specs.Tree.{int}
use Rattle.ca_value.specs.declared.builtin.Builtin.TheVariants.{Part as PartOf}
use Rattle.ca_term.specs.declared.place.Place.{Place}
use Rattle.ca_term.specs.declared.head.Head.TheVariants.{Builtin}
use Rattle.ca_reader.specs.declared.form.Bracket.TheVariants.{Round, Square, Curly}
use Rattle.ca_reader.specs.Form.{FormTree, FormTrees, Atom, form, atom, group, symbol, none, item}
use Rattle.ca_forms.specs.declared.special.Special.{Special}
use Rattle.ca_forms.specs.declared.error.CheckErrorKind.TheVariants.{TooMany}
use Rattle.ca_forms.specs.Words.{special, is_inner}
use Rattle.ca_forms.specs.Meaning.{Meaning, Named, size, constant_value, local_name, fail_with, operation, lets}

-- a form inside a list, with its meaning
pub record Pair : Type 0 where
  pub form : FormTree
  pub means : Meaning

-- a part of a list: its form, its meaning, and what stands in it
pub record Part : Type 0 where
  pub form : FormTree
  pub means : Meaning
  pub within : List Pair

pub data Binder : Type 0 where
  one : List ℕ → Binder
  many : List (List ℕ) → Place → Binder

abbrev pub is_form : Option Special → Bool
is_form None = false
is_form (Some k) = cond (is_inner k) false true

-- `&` and a qualified name, one with a `/` in it, name nothing
abbrev pub is_odd : List ℕ → Bool
is_odd s = list_any (λ b. b == 47) s || bytes_eq s (codes "&")

-- a name that no local can have: that of a form, or an odd one
abbrev pub is_reserved : List ℕ → Bool
is_reserved s = is_form (special s) || is_odd s

abbrev pub free_name : Atom → Option (List ℕ)
free_name (symbol s) = cond (is_reserved s) None (Some s)
free_name a = None

abbrev pub name_in : FormTree → Option (List ℕ)
name_in (form (atom a) p) = free_name a
name_in (form (group b fs) p) = None

-- a name before others, if all are there
abbrev pub with_name : Option (List ℕ) → Option (List (List ℕ)) → Option (List (List ℕ))
with_name None r = None
with_name (Some x) None = None
with_name (Some x) (Some xs) = Some (x ∷ xs)

abbrev pub names_in : FormTrees → Option (List (List ℕ))
names_in none = Some []
names_in (item f fs) = with_name (name_in f) (names_in fs)

abbrev pub single : Option (List ℕ) → Option Binder
single None = None
single (Some x) = Some (one x)

abbrev pub pattern : Option (List (List ℕ)) → Place → Option Binder
pattern None p = None
pattern (Some xs) p = Some (many xs p)

abbrev pub binder : FormTree → Option Binder
binder (form (atom a) p) = single (free_name a)
binder (form (group Square fs) p) = pattern (names_in fs) p
binder (form (group Round fs) p) = None
binder (form (group Curly fs) p) = None

-- what binds, and what gives its value
pub record Bound : Type 0 where
  pub by : Binder
  pub means : Meaning

abbrev pub with_bound : Option Binder → Meaning → Option (List Bound) → Option (List Bound)
with_bound None m r = None
with_bound (Some b) m None = None
with_bound (Some b) m (Some bs) = Some (record { by = b; means = m } ∷ bs)

abbrev pub bounds : List Pair → Option (List Bound)
bounds [] = Some []
bounds (b ∷ []) = None
bounds (b ∷ e ∷ bs) = with_bound (binder b.form) e.means (bounds bs)

abbrev pub is_vector : FormTree → Bool
is_vector (form (group Square fs) p) = true
is_vector (form s p) = false

-- the bindings that a vector has, if it is one, and is right
abbrev pub bindings_in : Part → Option (List Bound)
bindings_in b = cond (is_vector b.form) (bounds b.within) None

-- so many items stand in the list, vector or map form at the place
abbrev pub counted : ℕ → Place → Meaning → Meaning
counted n p m = cond (nat_lt 4096 n) (fail_with TooMany p) m

-- the names of a pattern whose value is h, from its item i on
abbrev pub spread_items : Place → ℕ → List (List ℕ) → ℕ → List Named
spread_items p h [] i = []
spread_items p h (x ∷ xs) i =
    record { name = x; means = operation (Builtin PartOf) (local_name h ∷ constant_value (int (pos i)) ∷ []) p } ∷ spread_items p h xs (suc i)

-- how many names a binder binds, a pattern's own among them
abbrev pub width : Binder → ℕ
width (one x) = 1
width (many xs q) = suc (length xs)

abbrev pub spread_one : Place → ℕ → Binder → Meaning → List Named
spread_one p n (one x) m = record { name = x; means = m } ∷ []
spread_one p n (many xs q) m = record { name = []; means = counted (length xs) q m } ∷ spread_items p n xs 0

-- the single names that bindings bind, in a scope of n names, at the form at p
abbrev pub spread : Place → ℕ → List Bound → List Named
spread p n [] = []
spread p n (b ∷ bs) = spread_one p n b.by b.means ++ spread p (n + width b.by) bs

-- (let [b e ..] body)
abbrev pub letting : List Bound → Meaning → Place → Meaning
letting bs body p env = lets (spread p (size env) bs) body env

abbrev pub is_pattern : Binder → Bool
is_pattern (one x) = false
is_pattern (many xs q) = true

-- the name that stands for the whole value
abbrev pub whole_name : Binder → List ℕ
whole_name (one x) = x
whole_name (many xs q) = []

-- the names of the patterns among the binders whose values are the names from n on
abbrev pub patterns : Place → ℕ → List Binder → List Named
patterns p n [] = []
patterns p n (one x ∷ bs) = patterns p (suc n) bs
patterns p n (many xs q ∷ bs) = spread_items p n xs 0 ++ patterns p (suc n) bs

-- the body behind a Let of the patterns, if there are any
abbrev pub unpacked : Place → ℕ → List Binder → Meaning → Meaning
unpacked p n bs body = cond (list_any is_pattern bs) (lets (patterns p n bs) body) body
