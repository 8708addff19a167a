-- The rows of the forms that need no channel. A row says what a form at p means by what its parts mean; its
-- shape is judged first, so a form's own error comes before those of its parts.
use Rattle.std.specs.Prelude.{ℕ, ◌+◌, pos, List, [], ◌∷◌, ◌++◌, length, map, Option, None, Some, Bool, true, false, cond, nat_lt, nat_eq}
use Rattle.std.specs.List.{list_any}
use Rattle.ca_value.specs.Tree.{int, bool}
use Rattle.ca_value.specs.declared.builtin.Builtin.TheVariants.{Inc, Less, Nth, Count, Items, IsSome}
use Rattle.ca_term.specs.declared.place.Place.{Place}
use Rattle.ca_term.specs.declared.head.Head.TheVariants.{Recur, Builtin}
use Rattle.ca_forms.specs.declared.error.CheckErrorKind.TheVariants.{BadForm, BadArity, RecurNotTail, TooMany}
use Rattle.ca_forms.specs.Meaning.{Meaning, Named, size, constant_value, nothing, local_name, fail_with, iff, unless, operation, block, unnamed, lets, loops, name_as, hide}
use Rattle.ca_forms.specs.Binders.{Part, Binder, Bound, one, many, bindings_in, spread, letting, is_pattern, whole_name, width, patterns}

abbrev pub meanings : List Part → List Meaning
meanings ps = map (λ q. q.means) ps

abbrev pub constant_number : ℕ → Meaning
constant_number n = constant_value (int (pos n))

-- at most 64 bindings
abbrev pub let_of : Option (List Bound) → Meaning → Place → Meaning
let_of None body p = fail_with BadForm p
let_of (Some bs) body p = cond (nat_lt 64 (length bs)) (fail_with TooMany p) (letting bs body p)

-- (let [b e ..] e ..)
abbrev pub row_let : Place → List Part → Meaning
row_let p [] = fail_with BadForm p
row_let p (b ∷ es) = let_of (bindings_in b) (block (meanings es)) p

-- (if c a), (if c a b)
abbrev pub row_if : Place → List Part → Meaning
row_if p (c ∷ a ∷ []) = iff c.means a.means nothing
row_if p (c ∷ a ∷ b ∷ []) = iff c.means a.means b.means
row_if p ps = fail_with BadForm p

-- (if-not c a), (if-not c a b)
abbrev pub row_if_not : Place → List Part → Meaning
row_if_not p (c ∷ a ∷ []) = unless c.means a.means nothing
row_if_not p (c ∷ a ∷ b ∷ []) = unless c.means a.means b.means
row_if_not p ps = fail_with BadForm p

-- (when c e ..)
abbrev pub row_when : Place → List Part → Meaning
row_when p [] = fail_with BadForm p
row_when p (c ∷ es) = iff c.means (block (meanings es)) nothing

-- (when-not c e ..)
abbrev pub row_when_not : Place → List Part → Meaning
row_when_not p [] = fail_with BadForm p
row_when_not p (c ∷ es) = unless c.means (block (meanings es)) nothing

abbrev pub has_even_length : {A : Type 0} → List A → Bool
has_even_length [] = true
has_even_length (x ∷ []) = false
has_even_length (x ∷ y ∷ zs) = has_even_length zs

abbrev pub cond_of : List Meaning → Meaning
cond_of [] = nothing
cond_of (c ∷ []) = nothing
cond_of (c ∷ e ∷ ms) = iff c e (cond_of ms)

-- (cond c e ..)
abbrev pub row_cond : Place → List Part → Meaning
row_cond p ps = cond (has_even_length ps) (cond_of (meanings ps)) (fail_with BadForm p)

-- (and), (and a), (and a b ..), which is (let [h a] (if h (and b ..) h))
abbrev pub and_of : List Meaning → Meaning
and_of [] = constant_value (bool true)
and_of (a ∷ []) = a
and_of (a ∷ b ∷ ms) = hide a (λ h. iff (local_name h) (and_of (b ∷ ms)) (local_name h))

-- (or), (or a), (or a b ..), which is (let [h a] (if h h (or b ..)))
abbrev pub or_of : List Meaning → Meaning
or_of [] = nothing
or_of (a ∷ []) = a
or_of (a ∷ b ∷ ms) = hide a (λ h. iff (local_name h) (local_name h) (or_of (b ∷ ms)))

-- what a name is tested by: its truth, or that it isn't nil
abbrev pub by_truth : Place → ℕ → Meaning
by_truth p h = local_name h

abbrev pub by_some : Place → ℕ → Meaning
by_some p h = operation (Builtin IsSome) (local_name h ∷ []) p

-- a symbol and its value alone
abbrev pub lone_name : Binder → Meaning → Option Named
lone_name (one x) m = Some (record { name = x; means = m })
lone_name (many xs q) m = None

abbrev pub one_bound : Option (List Bound) → Option Named
one_bound (Some (b ∷ [])) = lone_name b.by b.means
one_bound bs = None

-- (let [h e] (if h (let [x h] a) b)), h being tested
abbrev pub if_bound : (Place → ℕ → Meaning) → Option Named → Meaning → Meaning → Place → Meaning
if_bound test None a b p = fail_with BadForm p
if_bound test (Some x) a b p = hide x.means (λ h. iff (test p h) (name_as x.name (local_name h) a) b)

-- (if-let [x e] a), (if-let [x e] a b), (if-some [x e] a), (if-some [x e] a b)
abbrev pub row_if_bound : (Place → ℕ → Meaning) → Place → List Part → Meaning
row_if_bound test p (x ∷ a ∷ []) = if_bound test (one_bound (bindings_in x)) (block (a.means ∷ [])) nothing p
row_if_bound test p (x ∷ a ∷ b ∷ []) = if_bound test (one_bound (bindings_in x)) (block (a.means ∷ [])) b.means p
row_if_bound test p ps = fail_with BadForm p

-- (when-let [x e] a ..), (when-some [x e] a ..)
abbrev pub row_when_bound : (Place → ℕ → Meaning) → Place → List Part → Meaning
row_when_bound test p [] = fail_with BadForm p
row_when_bound test p (x ∷ es) = if_bound test (one_bound (bindings_in x)) (block (meanings es)) nothing p

-- for each binding its name and its value, which `let` has bound from number n on
abbrev pub again : ℕ → List Bound → List Named
again n [] = []
again n (b ∷ bs) = record { name = whole_name b.by; means = local_name n } ∷ again (n + width b.by) bs

abbrev pub binders : List Bound → List Binder
binders bs = map (λ b. b.by) bs

-- (let [b e ..] (loop [h b ..] (let [b h ..] body))), h being a hidden name for a pattern
abbrev pub loop_over_patterns : List Bound → Meaning → Place → Meaning
loop_over_patterns bs body p env = letting bs
    (block ((λ env2. loops (again (size env) bs) (block (lets (patterns p (size env2) (binders bs)) body ∷ [])) env2) ∷ [])) p env

abbrev pub looping : List Bound → Meaning → Place → Meaning
looping bs body p env = cond (list_any is_pattern (binders bs)) (loop_over_patterns bs body p env) (loops (spread p (size env) bs) body env)

abbrev pub loop_of : Option (List Bound) → Meaning → Place → Meaning
loop_of None body p = fail_with BadForm p
loop_of (Some bs) body p = cond (nat_lt 64 (length bs)) (fail_with TooMany p) (looping bs body p)

-- (loop [b e ..] e ..)
abbrev pub row_loop : Place → List Part → Meaning
row_loop p [] = fail_with BadForm p
row_loop p (b ∷ es) = loop_of (bindings_in b) (block (meanings es)) p

abbrev pub recur_of : Option ℕ → List Meaning → Place → Meaning
recur_of None ms p = fail_with RecurNotTail p
recur_of (Some n) ms p = cond (nat_eq (length ms) n) (operation Recur ms p) (fail_with BadArity p)

-- (recur e ..)
abbrev pub row_recur : Place → List Part → Meaning
row_recur p ps env = recur_of env.target (meanings ps) p env

-- (recur (inc i))
abbrev pub recur_with_next : ℕ → Place → Meaning
recur_with_next i p = operation Recur (operation (Builtin Inc) (local_name i ∷ []) p ∷ []) p

-- (while c e ..), which is (loop [] (when c e .. (recur)))
abbrev pub row_while : Place → List Part → Meaning
row_while p [] = fail_with BadForm p
row_while p (c ∷ es) = loops [] (block (iff c.means (block (meanings es ++ operation Recur [] p ∷ [])) nothing ∷ []))

-- (loop [i 0] (when (< i n) e .. (recur (inc i))))
abbrev pub counting : List ℕ → ℕ → List Meaning → Place → Meaning
counting i n ms p env = loops (record { name = i; means = constant_number 0 } ∷ [])
    (block (iff (operation (Builtin Less) (local_name (size env) ∷ local_name n ∷ []) p) (block (ms ++ recur_with_next (size env) p ∷ [])) nothing ∷ [])) env

abbrev pub dotimes : Option Named → List Meaning → Place → Meaning
dotimes None ms p = fail_with BadForm p
dotimes (Some i) ms p = hide i.means (λ h. counting i.name h ms p)

-- (dotimes [i n] e ..), which is (let [h n] (loop [i 0] (when (< i h) e .. (recur (inc i)))))
abbrev pub row_dotimes : Place → List Part → Meaning
row_dotimes p [] = fail_with BadForm p
row_dotimes p (b ∷ es) = dotimes (one_bound (bindings_in b)) (meanings es) p

-- b bound to the item of h at the number of the name j
abbrev pub nth_bound : Binder → ℕ → ℕ → Place → Bound
nth_bound b h j p = record { by = b; means = operation (Builtin Nth) (local_name h ∷ local_name j ∷ []) p }

abbrev pub doseq : Option (List Bound) → Meaning → Place → Meaning
doseq (Some (b ∷ [])) body p env = lets
    (unnamed (operation (Builtin Items) (b.means ∷ []) p) ∷ unnamed (operation (Builtin Count) (local_name (size env) ∷ []) p) ∷ [])
    (block (counting [] (size env + 1) (letting (nth_bound b.by (size env) (size env + 2) p ∷ []) body p ∷ []) p ∷ [])) env
doseq bs body p env = fail_with BadForm p env

-- (doseq [b e] e ..), which is
-- (let [h (items e) k (count h)] (loop [j 0] (when (< j k) (let [b (nth h j)] e ..) (recur (inc j)))))
abbrev pub row_doseq : Place → List Part → Meaning
row_doseq p [] = fail_with BadForm p
row_doseq p (b ∷ es) = doseq (bindings_in b) (block (meanings es)) p
