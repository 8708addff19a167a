-- The rows of the plain forms make tidy terms.
use Rattle.std.proofs.Common.{◌≡◌, ℕ, suc, ◌+◌, ◌<◌, ◌≤◌, List, [], ◌∷◌, ◌++◌, length, refl, subst, arith, Option, Some, None, Bool, true, false, cond, nat_lt, nat_eq, pos}
use Rattle.std.specs.List.{list_any}
use Rattle.std.proofs.lemmas.List.{length-map}
use Rattle.ca_value.specs.Tree.{int, bool}
use Rattle.ca_value.specs.declared.builtin.Builtin.TheVariants.{Part as PartOf, Inc, Less, Nth, Count, Items, IsSome}
use Rattle.ca_term.specs.declared.place.Place.{Place}
use Rattle.ca_term.specs.declared.head.Head.TheVariants.{Recur, Builtin}
use Rattle.ca_forms.specs.declared.error.CheckErrorKind.TheVariants.{BadForm, BadArity, TooMany}
use Rattle.ca_forms.specs.Outcome.{Gathered}
use Rattle.ca_forms.specs.Meaning.{Env, Meaning, Named, size, constant_value, nothing, local_name, fail_with, iff, operation, block, unnamed, lets, loops, name_as}
use Rattle.ca_forms.specs.Binders.{Part, Pair, Binder, Bound, one, many, with_bound, bounds, binder, is_vector, bindings_in, spread_items, spread_one, spread, width, letting, is_pattern, patterns}
use Rattle.ca_forms.specs.Plain.{meanings, constant_number, let_of, row_let, row_if, row_if_not, row_when, row_when_not, has_even_length, cond_of, row_cond, and_of, or_of, by_truth, by_some, lone_name, one_bound, if_bound, row_if_bound, row_when_bound, again, binders, loop_over_patterns, looping, loop_of, row_loop, recur_of, row_recur, recur_with_next, row_while, counting, dotimes, row_dotimes, nth_bound, doseq, row_doseq}
use Rattle.ca_sealed.proofs.Outcomes.{spread_one_length, widths, spread_length, again_length}
use Rattle.ca_sealed.proofs.Words.{Holds, Makes, Keeps, weaken, tidy_constant, tidy_nothing, tidy_local, tidy_fail, tidy_cond, tidy_iff, tidy_unless, AllKeep, all_weaken, all_append, tidy_operation, tidy_block, tidy_body, tidy_when, NamedKeep, named_weaken, named_append, tidy_lets, tidy_loops, tidy_name_as, at_size, tidy_hide}

-- each part of a form makes tidy terms, and so do its own parts
abbrev pub PairsKeep : ℕ → List Pair → Type 0
PairsKeep g [] = Unit {0}
PairsKeep g (q ∷ qs) = Keeps g 0 q.means × PairsKeep g qs

abbrev pub PartsKeep : ℕ → List Part → Type 0
PartsKeep g [] = Unit {0}
PartsKeep g (q ∷ qs) = Keeps g 0 q.means × PairsKeep g q.within × PartsKeep g qs

pub means_keep : (g : ℕ) (qs : List Part) → PartsKeep g qs → AllKeep g 0 (meanings qs)
means_keep g [] f = tt
means_keep g (q ∷ qs) f = (f.0, means_keep g qs f.2)

pub block_keep : (g n : ℕ) (qs : List Part) → PartsKeep g qs → Keeps g n (block (meanings qs))
block_keep g n qs f = weaken g 0 n (block (meanings qs)) (omega arith) (tidy_block g 0 (meanings qs) (means_keep g qs f))

-- binders
abbrev pub BoundsKeep : ℕ → List Bound → Type 0
BoundsKeep g [] = Unit {0}
BoundsKeep g (b ∷ bs) = Keeps g 0 b.means × BoundsKeep g bs

pub with_bound_keep : (g : ℕ) (b : Option Binder) (m : Meaning) (r : Option (List Bound)) → Keeps g 0 m → ((bs : List Bound) → r ≡ Some bs → BoundsKeep g bs)
    → (bs : List Bound) → with_bound b m r ≡ Some bs → BoundsKeep g bs
with_bound_keep g None m r f h bs e = cc
with_bound_keep g (Some b) m None f h bs e = cc
with_bound_keep g (Some b) m (Some cs) f h [] e = tt
with_bound_keep g (Some b) m (Some cs) f h (d ∷ ds) e = subst (λ o. OptionKeeps o) e (f, h cs refl) where
  OptionKeeps : Option (List Bound) → Type 0
  OptionKeeps None = Unit {0}
  OptionKeeps (Some bs) = BoundsKeep g bs

pub bounds_keep : (g : ℕ) (qs : List Pair) → PairsKeep g qs → (bs : List Bound) → bounds qs ≡ Some bs → BoundsKeep g bs
bounds_keep g [] f [] e = tt
bounds_keep g [] f (b ∷ bs) e = cc
bounds_keep g (b ∷ []) f bs e = cc
bounds_keep g (b ∷ c ∷ qs) f bs e = with_bound_keep g (binder b.form) c.means (bounds qs) f.1.0 (bounds_keep g qs f.1.1) bs e

pub bindings_keep : (g : ℕ) (q : Part) → PairsKeep g q.within → (bs : List Bound) → bindings_in q ≡ Some bs → BoundsKeep g bs
bindings_keep g q f bs e = by (is_vector q.form) (bounds_keep g q.within f) e where
  by : (b : Bool) → ((bs : List Bound) → bounds q.within ≡ Some bs → BoundsKeep g bs) → cond b (bounds q.within) None ≡ Some bs → BoundsKeep g bs
  by true h e = h bs e
  by false h e = cc

pub items_keep : (g : ℕ) (p : Place) (h : ℕ) (xs : List (List ℕ)) (i n : ℕ) → h < n → NamedKeep g n (spread_items p h xs i)
items_keep g p h [] i n l = tt
items_keep g p h (x ∷ xs) i n l = (
  tidy_operation g n (Builtin PartOf) (local_name h ∷ constant_value (int (pos i)) ∷ []) p (tidy_local g n h l, (tidy_constant g n (int (pos i)) tt, tt)) (λ ts. refl),
  items_keep g p h xs (suc i) (suc n) (omega (arith, l)),
)

pub spread_one_keep : (g : ℕ) (p : Place) (n : ℕ) (b : Binder) (m : Meaning) → Keeps g n m → NamedKeep g n (spread_one p n b m)
spread_one_keep g p n (one x) m f = (f, tt)
spread_one_keep g p n (many xs q) m f =
    (tidy_cond g n (nat_lt 4096 (length xs)) (fail_with TooMany q) m (tidy_fail g n TooMany q) f, items_keep g p n xs 0 (suc n) (omega arith))

pub spread_keep : (g : ℕ) (p : Place) (n : ℕ) (bs : List Bound) → BoundsKeep g bs → NamedKeep g n (spread p n bs)
spread_keep g p n [] f = tt
spread_keep g p n (b ∷ bs) f = named_append g n (spread_one p n b.by b.means) (spread p (n + width b.by) bs) (spread_one_keep g p n b.by b.means (weaken g 0 n b.means (omega arith) f.0))
    (named_weaken g (n + width b.by) (n + length (spread_one p n b.by b.means)) (spread p (n + width b.by) bs) (omega (arith, spread_one_length p n b.by b.means)) (spread_keep g p (n + width b.by) bs f.1))

pub tidy_letting : (g n : ℕ) (bs : List Bound) (body : Meaning) (p : Place) → BoundsKeep g bs → Keeps g n body → Keeps g n (letting bs body p)
tidy_letting g n bs body p f h = at_size g n (letting bs body p) (λ env s l st. tidy_lets g (size env) (spread p (size env) bs) body (spread_keep g p (size env) bs f)
    (weaken g n (size env + length (spread p (size env) bs)) body (omega (arith, l)) h) env s st)

pub tidy_let_of : (g : ℕ) (o : Option (List Bound)) (body : Meaning) (p : Place) → ((bs : List Bound) → o ≡ Some bs → BoundsKeep g bs) → Keeps g 0 body → Keeps g 0 (let_of o body p)
tidy_let_of g None body p f h = tidy_fail g 0 BadForm p
tidy_let_of g (Some bs) body p f h = tidy_cond g 0 (nat_lt 64 (length bs)) (fail_with TooMany p) (letting bs body p) (tidy_fail g 0 TooMany p) (tidy_letting g 0 bs body p (f bs refl) h)

pub tidy_row_let : (g : ℕ) (p : Place) (qs : List Part) → PartsKeep g qs → Keeps g 0 (row_let p qs)
tidy_row_let g p [] f = tidy_fail g 0 BadForm p
tidy_row_let g p (b ∷ qs) f = tidy_let_of g (bindings_in b) (block (meanings qs)) p (bindings_keep g b f.1) (block_keep g 0 qs f.2)

pub tidy_row_if : (g : ℕ) (p : Place) (qs : List Part) → PartsKeep g qs → Keeps g 0 (row_if p qs)
tidy_row_if g p [] f = tidy_fail g 0 BadForm p
tidy_row_if g p (a ∷ []) f = tidy_fail g 0 BadForm p
tidy_row_if g p (a ∷ b ∷ []) f = tidy_iff g 0 a.means b.means nothing f.0 f.2.0 (tidy_nothing g 0)
tidy_row_if g p (a ∷ b ∷ c ∷ []) f = tidy_iff g 0 a.means b.means c.means f.0 f.2.0 f.2.2.0
tidy_row_if g p (a ∷ b ∷ c ∷ d ∷ qs) f = tidy_fail g 0 BadForm p

pub tidy_row_if_not : (g : ℕ) (p : Place) (qs : List Part) → PartsKeep g qs → Keeps g 0 (row_if_not p qs)
tidy_row_if_not g p [] f = tidy_fail g 0 BadForm p
tidy_row_if_not g p (a ∷ []) f = tidy_fail g 0 BadForm p
tidy_row_if_not g p (a ∷ b ∷ []) f = tidy_unless g 0 a.means b.means nothing f.0 f.2.0 (tidy_nothing g 0)
tidy_row_if_not g p (a ∷ b ∷ c ∷ []) f = tidy_unless g 0 a.means b.means c.means f.0 f.2.0 f.2.2.0
tidy_row_if_not g p (a ∷ b ∷ c ∷ d ∷ qs) f = tidy_fail g 0 BadForm p

pub tidy_row_when : (g : ℕ) (p : Place) (qs : List Part) → PartsKeep g qs → Keeps g 0 (row_when p qs)
tidy_row_when g p [] f = tidy_fail g 0 BadForm p
tidy_row_when g p (a ∷ qs) f = tidy_iff g 0 a.means (block (meanings qs)) nothing f.0 (block_keep g 0 qs f.2) (tidy_nothing g 0)

pub tidy_row_when_not : (g : ℕ) (p : Place) (qs : List Part) → PartsKeep g qs → Keeps g 0 (row_when_not p qs)
tidy_row_when_not g p [] f = tidy_fail g 0 BadForm p
tidy_row_when_not g p (a ∷ qs) f = tidy_unless g 0 a.means (block (meanings qs)) nothing f.0 (block_keep g 0 qs f.2) (tidy_nothing g 0)

pub tidy_cond_of : (g n : ℕ) (ms : List Meaning) → AllKeep g n ms → Keeps g n (cond_of ms)
tidy_cond_of g n [] f = tidy_nothing g n
tidy_cond_of g n (a ∷ []) f = tidy_nothing g n
tidy_cond_of g n (a ∷ b ∷ ms) f = tidy_iff g n a b (cond_of ms) f.0 f.1.0 (tidy_cond_of g n ms f.1.1)

pub tidy_row_cond : (g : ℕ) (p : Place) (qs : List Part) → PartsKeep g qs → Keeps g 0 (row_cond p qs)
tidy_row_cond g p qs f = tidy_cond g 0 (has_even_length qs) (cond_of (meanings qs)) (fail_with BadForm p) (tidy_cond_of g 0 (meanings qs) (means_keep g qs f)) (tidy_fail g 0 BadForm p)

pub tidy_and : (g n : ℕ) (ms : List Meaning) → AllKeep g n ms → Keeps g n (and_of ms)
tidy_and g n [] f = tidy_constant g n (bool true) tt
tidy_and g n (a ∷ []) f = f.0
tidy_and g n (a ∷ b ∷ ms) f = tidy_hide g n a (λ h. iff (local_name h) (and_of (b ∷ ms)) (local_name h)) f.0
    (λ h l. tidy_iff g (suc h) (local_name h) (and_of (b ∷ ms)) (local_name h) (tidy_local g (suc h) h (omega arith)) (weaken g n (suc h) (and_of (b ∷ ms)) (omega (arith, l)) (tidy_and g n (b ∷ ms) f.1)) (tidy_local g (suc h) h (omega arith)))

pub tidy_or : (g n : ℕ) (ms : List Meaning) → AllKeep g n ms → Keeps g n (or_of ms)
tidy_or g n [] f = tidy_nothing g n
tidy_or g n (a ∷ []) f = f.0
tidy_or g n (a ∷ b ∷ ms) f = tidy_hide g n a (λ h. iff (local_name h) (local_name h) (or_of (b ∷ ms))) f.0
    (λ h l. tidy_iff g (suc h) (local_name h) (local_name h) (or_of (b ∷ ms)) (tidy_local g (suc h) h (omega arith)) (tidy_local g (suc h) h (omega arith)) (weaken g n (suc h) (or_of (b ∷ ms)) (omega (arith, l)) (tidy_or g n (b ∷ ms) f.1)))

-- a test of a name
abbrev pub TestKeeps : ℕ → (Place → ℕ → Meaning) → Type 0
TestKeeps g test = (p : Place) (h : ℕ) → Keeps g (suc h) (test p h)

pub tidy_truth : (g : ℕ) → TestKeeps g by_truth
tidy_truth g p h = tidy_local g (suc h) h (omega arith)

pub tidy_some : (g : ℕ) → TestKeeps g by_some
tidy_some g p h = tidy_operation g (suc h) (Builtin IsSome) (local_name h ∷ []) p (tidy_local g (suc h) h (omega arith), tt) (λ ts. refl)

abbrev pub IfNamedKeeps : ℕ → Option Named → Type 0
IfNamedKeeps g None = Unit {0}
IfNamedKeeps g (Some x) = Keeps g 0 x.means

pub tidy_only : (g : ℕ) (b : Binder) (m : Meaning) → Keeps g 0 m → IfNamedKeeps g (lone_name b m)
tidy_only g (one x) m f = f
tidy_only g (many xs q) m f = tt

pub tidy_one_bound : (g : ℕ) (o : Option (List Bound)) → ((bs : List Bound) → o ≡ Some bs → BoundsKeep g bs) → IfNamedKeeps g (one_bound o)
tidy_one_bound g None f = tt
tidy_one_bound g (Some []) f = tt
tidy_one_bound g (Some (b ∷ [])) f = tidy_only g b.by b.means (f (b ∷ []) refl).0
tidy_one_bound g (Some (b ∷ c ∷ bs)) f = tt

pub tidy_if_bound : (g : ℕ) (test : Place → ℕ → Meaning) (x : Option Named) (a b : Meaning) (p : Place) → TestKeeps g test → IfNamedKeeps g x → Keeps g 0 a → Keeps g 0 b → Keeps g 0 (if_bound test x a b p)
tidy_if_bound g test None a b p t f ga gb = tidy_fail g 0 BadForm p
tidy_if_bound g test (Some x) a b p t f ga gb = tidy_hide g 0 x.means (λ h. iff (test p h) (name_as x.name (local_name h) a) b) f
    (λ h l. tidy_iff g (suc h) (test p h) (name_as x.name (local_name h) a) b (t p h)
    (tidy_name_as g (suc h) x.name (local_name h) a (tidy_local g (suc h) h (omega arith)) (weaken g 0 (suc (suc h)) a (omega arith) ga)) (weaken g 0 (suc h) b (omega arith) gb))

pub tidy_row_if_bound : (g : ℕ) (test : Place → ℕ → Meaning) (p : Place) (qs : List Part) → TestKeeps g test → PartsKeep g qs → Keeps g 0 (row_if_bound test p qs)
tidy_row_if_bound g test p [] t f = tidy_fail g 0 BadForm p
tidy_row_if_bound g test p (a ∷ []) t f = tidy_fail g 0 BadForm p
tidy_row_if_bound g test p (x ∷ a ∷ []) t f = tidy_if_bound g test (one_bound (bindings_in x)) (block (a.means ∷ [])) nothing p t
    (tidy_one_bound g (bindings_in x) (bindings_keep g x f.1)) (tidy_body g 0 a.means f.2.0) (tidy_nothing g 0)
tidy_row_if_bound g test p (x ∷ a ∷ b ∷ []) t f = tidy_if_bound g test (one_bound (bindings_in x)) (block (a.means ∷ [])) b.means p t
    (tidy_one_bound g (bindings_in x) (bindings_keep g x f.1)) (tidy_body g 0 a.means f.2.0) f.2.2.0
tidy_row_if_bound g test p (a ∷ b ∷ c ∷ d ∷ qs) t f = tidy_fail g 0 BadForm p

pub tidy_row_when_bound : (g : ℕ) (test : Place → ℕ → Meaning) (p : Place) (qs : List Part) → TestKeeps g test → PartsKeep g qs → Keeps g 0 (row_when_bound test p qs)
tidy_row_when_bound g test p [] t f = tidy_fail g 0 BadForm p
tidy_row_when_bound g test p (x ∷ qs) t f = tidy_if_bound g test (one_bound (bindings_in x)) (block (meanings qs)) nothing p t
    (tidy_one_bound g (bindings_in x) (bindings_keep g x f.1)) (block_keep g 0 qs f.2) (tidy_nothing g 0)

-- loops
pub again_keep : (g n : ℕ) (bs : List Bound) (m : ℕ) → n + widths bs ≤ m → NamedKeep g m (again n bs)
again_keep g n [] m l = tt
again_keep g n (b ∷ bs) m l = (tidy_local g m n (omega (arith, l, at_least b.by)), again_keep g (n + width b.by) bs (suc m) (omega (arith, l))) where
  at_least : (b : Binder) → 1 ≤ width b
  at_least (one x) = omega arith
  at_least (many xs q) = omega arith

pub patterns_keep : (g : ℕ) (p : Place) (n : ℕ) (bs : List Binder) (m : ℕ) → n + length bs ≤ m → NamedKeep g m (patterns p n bs)
patterns_keep g p n [] m l = tt
patterns_keep g p n (one x ∷ bs) m l = patterns_keep g p (suc n) bs m (omega (arith, l))
patterns_keep g p n (many xs q ∷ bs) m l = named_append g m (spread_items p n xs 0) (patterns p (suc n) bs) (items_keep g p n xs 0 m (omega (arith, l)))
    (patterns_keep g p (suc n) bs (m + length (spread_items p n xs 0)) (omega (arith, l)))

-- over so many names from n on
pub tidy_over_patterns : (g : ℕ) (p : Place) (n : ℕ) (bs : List Binder) (body : Meaning) (m : ℕ) → n + length bs ≤ m → Keeps g 0 body → Keeps g m (lets (patterns p n bs) body)
tidy_over_patterns g p n bs body m l h = tidy_lets g m (patterns p n bs) body (patterns_keep g p n bs m l) (weaken g 0 (m + length (patterns p n bs)) body (omega arith) h)

pub tidy_loop_over_patterns : (g : ℕ) (bs : List Bound) (body : Meaning) (p : Place) → BoundsKeep g bs → Keeps g 0 body → Keeps g 0 (loop_over_patterns bs body p)
tidy_loop_over_patterns g bs body p f h = at_size g 0 (loop_over_patterns bs body p) (λ env s l st.
    tidy_lets g (size env) (spread p (size env) bs)
    (block ((λ env2. loops (again (size env) bs) (block (lets (patterns p (size env2) (binders bs)) body ∷ [])) env2) ∷ []))
    (spread_keep g p (size env) bs f)
    (tidy_body g (size env + length (spread p (size env) bs)) (λ env2. loops (again (size env) bs) (block (lets (patterns p (size env2) (binders bs)) body ∷ [])) env2)
    (at_size g (size env + length (spread p (size env) bs)) (λ env2. loops (again (size env) bs) (block (lets (patterns p (size env2) (binders bs)) body ∷ [])) env2)
    (λ env2 s2 l2 st2. tidy_loops g (size env2) (again (size env) bs) (block (lets (patterns p (size env2) (binders bs)) body ∷ []))
    (again_keep g (size env) bs (size env2) (omega (arith, l2, spread_length p (size env) bs)))
    (tidy_body g (size env2 + length (again (size env) bs)) (lets (patterns p (size env2) (binders bs)) body)
    (tidy_over_patterns g p (size env2) (binders bs) body (size env2 + length (again (size env) bs))
    (omega (arith, again_length (size env) bs, length-map bs (λ (b : Bound). b.by))) h)) env2 s2 st2))) env s st)

pub tidy_looping : (g : ℕ) (bs : List Bound) (body : Meaning) (p : Place) → BoundsKeep g bs → Keeps g 0 body → Keeps g 0 (looping bs body p)
tidy_looping g bs body p f h = at_size g 0 (looping bs body p) (λ env s l st. by (list_any is_pattern (binders bs)) env s st) where
  by : (b : Bool) (env : Env) (s : Gathered) → Holds g (size env) env → Makes env s (cond b (loop_over_patterns bs body p env) (loops (spread p (size env) bs) body env) s)
  by true env s st = tidy_loop_over_patterns g bs body p f h env s (omega arith, st.1, st.2)
  by false env s st = tidy_loops g (size env) (spread p (size env) bs) body (spread_keep g p (size env) bs f)
      (weaken g 0 (size env + length (spread p (size env) bs)) body (omega arith) h) env s st

pub tidy_loop_of : (g : ℕ) (o : Option (List Bound)) (body : Meaning) (p : Place) → ((bs : List Bound) → o ≡ Some bs → BoundsKeep g bs) → Keeps g 0 body → Keeps g 0 (loop_of o body p)
tidy_loop_of g None body p f h = tidy_fail g 0 BadForm p
tidy_loop_of g (Some bs) body p f h = tidy_cond g 0 (nat_lt 64 (length bs)) (fail_with TooMany p) (looping bs body p) (tidy_fail g 0 TooMany p) (tidy_looping g bs body p (f bs refl) h)

pub tidy_row_loop : (g : ℕ) (p : Place) (qs : List Part) → PartsKeep g qs → Keeps g 0 (row_loop p qs)
tidy_row_loop g p [] f = tidy_fail g 0 BadForm p
tidy_row_loop g p (b ∷ qs) f = tidy_loop_of g (bindings_in b) (block (meanings qs)) p (bindings_keep g b f.1) (block_keep g 0 qs f.2)

pub tidy_row_recur : (g : ℕ) (p : Place) (qs : List Part) → PartsKeep g qs → Keeps g 0 (row_recur p qs)
tidy_row_recur g p qs f env s st = by env.target where
  by : (o : Option ℕ) → Makes env s (recur_of o (meanings qs) p env s)
  by None = tt
  by (Some j) = tidy_cond g 0 (nat_eq (length (meanings qs)) j) (operation Recur (meanings qs) p) (fail_with BadArity p)
      (tidy_operation g 0 Recur (meanings qs) p (means_keep g qs f) (λ ts. refl)) (tidy_fail g 0 BadArity p) env s st

pub tidy_next : (g n i : ℕ) (p : Place) → i < n → Keeps g n (recur_with_next i p)
tidy_next g n i p l = tidy_operation g n Recur (operation (Builtin Inc) (local_name i ∷ []) p ∷ []) p
    (tidy_operation g n (Builtin Inc) (local_name i ∷ []) p (tidy_local g n i l, tt) (λ ts. refl), tt) (λ ts. refl)

pub tidy_row_while : (g : ℕ) (p : Place) (qs : List Part) → PartsKeep g qs → Keeps g 0 (row_while p qs)
tidy_row_while g p [] f = tidy_fail g 0 BadForm p
tidy_row_while g p (c ∷ qs) f = tidy_loops g 0 [] (block (iff c.means (block (meanings qs ++ operation Recur [] p ∷ [])) nothing ∷ [])) tt
    (tidy_when g 0 c.means (block (meanings qs ++ operation Recur [] p ∷ [])) f.0
    (tidy_block g 0 (meanings qs ++ operation Recur [] p ∷ []) (all_append g 0 (meanings qs) (operation Recur [] p ∷ []) (means_keep g qs f.2)
    (tidy_operation g 0 Recur [] p tt (λ ts. refl), tt))))

-- ms stand in a scope of at least m names, to which the name that counts may be added
pub tidy_counting : (g : ℕ) (m : ℕ) (i : List ℕ) (n : ℕ) (ms : List Meaning) (p : Place) → n < m → ((h : ℕ) → m ≤ h → AllKeep g (suc h) ms) → Keeps g m (counting i n ms p)
tidy_counting g m i n ms p l f = at_size g m (counting i n ms p) (λ env s l2 st.
    tidy_loops g (size env) (record { name = i; means = constant_number 0 } ∷ [])
    (block (iff (operation (Builtin Less) (local_name (size env) ∷ local_name n ∷ []) p) (block (ms ++ recur_with_next (size env) p ∷ [])) nothing ∷ []))
    (tidy_constant g (size env) (int (pos 0)) tt, tt)
    (tidy_when g (size env + 1) (operation (Builtin Less) (local_name (size env) ∷ local_name n ∷ []) p) (block (ms ++ recur_with_next (size env) p ∷ []))
    (tidy_operation g (size env + 1) (Builtin Less) (local_name (size env) ∷ local_name n ∷ []) p
    (tidy_local g (size env + 1) (size env) (omega arith), (tidy_local g (size env + 1) n (omega (arith, l, l2)), tt)) (λ ts. refl))
    (tidy_block g (size env + 1) (ms ++ recur_with_next (size env) p ∷ []) (all_append g (size env + 1) ms (recur_with_next (size env) p ∷ [])
    (all_weaken g (suc (size env)) (size env + 1) ms (omega arith) (f (size env) l2)) (tidy_next g (size env + 1) (size env) p (omega arith), tt)))) env s st)

pub tidy_dotimes : (g : ℕ) (o : Option Named) (ms : List Meaning) (p : Place) → IfNamedKeeps g o → AllKeep g 0 ms → Keeps g 0 (dotimes o ms p)
tidy_dotimes g None ms p f h = tidy_fail g 0 BadForm p
tidy_dotimes g (Some i) ms p f h = tidy_hide g 0 i.means (λ n. counting i.name n ms p) f
    (λ n l. tidy_counting g (suc n) i.name n ms p (omega arith) (λ m l2. all_weaken g 0 (suc m) ms (omega arith) h))

pub tidy_row_dotimes : (g : ℕ) (p : Place) (qs : List Part) → PartsKeep g qs → Keeps g 0 (row_dotimes p qs)
tidy_row_dotimes g p [] f = tidy_fail g 0 BadForm p
tidy_row_dotimes g p (b ∷ qs) f = tidy_dotimes g (one_bound (bindings_in b)) (meanings qs) p (tidy_one_bound g (bindings_in b) (bindings_keep g b f.1)) (means_keep g qs f.2)

pub tidy_letting_one : (g n : ℕ) (b : Bound) (body : Meaning) (p : Place) → Keeps g n b.means → Keeps g 0 body → Keeps g n (letting (b ∷ []) body p)
tidy_letting_one g n b body p f h = at_size g n (letting (b ∷ []) body p) (λ env s l st. tidy_lets g (size env) (spread p (size env) (b ∷ [])) body
    (named_append g (size env) (spread_one p (size env) b.by b.means) [] (spread_one_keep g p (size env) b.by b.means (weaken g n (size env) b.means l f)) tt)
    (weaken g 0 (size env + length (spread p (size env) (b ∷ []))) body (omega arith) h) env s st)

pub tidy_nth_bound : (g n : ℕ) (b : Binder) (h j : ℕ) (p : Place) → h < n → j < n → Keeps g n (nth_bound b h j p).means
tidy_nth_bound g n b h j p l k = tidy_operation g n (Builtin Nth) (local_name h ∷ local_name j ∷ []) p (tidy_local g n h l, (tidy_local g n j k, tt)) (λ ts. refl)

pub tidy_doseq_one : (g : ℕ) (b : Bound) (body : Meaning) (p : Place) → Keeps g 0 b.means → Keeps g 0 body → Keeps g 0 (doseq (Some (b ∷ [])) body p)
tidy_doseq_one g b body p f h = at_size g 0 (doseq (Some (b ∷ [])) body p) (λ env s l st.
    tidy_lets g (size env) (unnamed (operation (Builtin Items) (b.means ∷ []) p) ∷ unnamed (operation (Builtin Count) (local_name (size env) ∷ []) p) ∷ [])
    (block (counting [] (size env + 1) (letting (nth_bound b.by (size env) (size env + 2) p ∷ []) body p ∷ []) p ∷ [])) (
      tidy_operation g (size env) (Builtin Items) (b.means ∷ []) p (weaken g 0 (size env) b.means (omega arith) f, tt) (λ ts. refl),
      (tidy_operation g (suc (size env)) (Builtin Count) (local_name (size env) ∷ []) p (tidy_local g (suc (size env)) (size env) (omega arith), tt) (λ ts. refl), tt),
    )
    (tidy_body g (size env + 2) (counting [] (size env + 1) (letting (nth_bound b.by (size env) (size env + 2) p ∷ []) body p ∷ []) p)
    (tidy_counting g (size env + 2) [] (size env + 1) (letting (nth_bound b.by (size env) (size env + 2) p ∷ []) body p ∷ []) p (omega arith)
    (λ n l2. (
      tidy_letting_one g (suc n) (nth_bound b.by (size env) (size env + 2) p) body p
          (tidy_nth_bound g (suc n) b.by (size env) (size env + 2) p (omega (arith, l2)) (omega (arith, l2))) h,
      tt,
    )))) env s st)

pub tidy_doseq : (g : ℕ) (o : Option (List Bound)) (body : Meaning) (p : Place) → ((bs : List Bound) → o ≡ Some bs → BoundsKeep g bs) → Keeps g 0 body → Keeps g 0 (doseq o body p)
tidy_doseq g None body p f h = tidy_fail g 0 BadForm p
tidy_doseq g (Some []) body p f h = tidy_fail g 0 BadForm p
tidy_doseq g (Some (b ∷ [])) body p f h = tidy_doseq_one g b body p (f (b ∷ []) refl).0 h
tidy_doseq g (Some (b ∷ c ∷ bs)) body p f h = tidy_fail g 0 BadForm p

pub tidy_row_doseq : (g : ℕ) (p : Place) (qs : List Part) → PartsKeep g qs → Keeps g 0 (row_doseq p qs)
tidy_row_doseq g p [] f = tidy_fail g 0 BadForm p
tidy_row_doseq g p (b ∷ qs) f = tidy_doseq g (bindings_in b) (block (meanings qs)) p (bindings_keep g b f.1) (block_keep g 0 qs f.2)
