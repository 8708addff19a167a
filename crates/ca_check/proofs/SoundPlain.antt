-- The rows of the plain forms make terms that stand well.
use Rattle.std.proofs.Common.{◌≡◌, ℕ, suc, ◌+◌, ◌<◌, ◌≤◌, List, [], ◌∷◌, ◌++◌, length, refl, sym, ap, ◌∙◌, subst, arith, Option, Some, None, Bool, true, false, cond, nat_lt, nat_eq, pos}
use Rattle.std.specs.List.{list_any}
use Rattle.std.proofs.lemmas.List.{length-append, length-map}
use Rattle.std.proofs.lemmas.Bool.{eqb-true}
use Rattle.ca_value.specs.Tree.{nil, int, bool}
use Rattle.ca_value.specs.IsValue.{IsInteger}
use Rattle.ca_value.specs.declared.builtin.Builtin.TheVariants.{Part as PartOf, Inc, Less, Nth, Count, Items, IsSome}
use Rattle.ca_term.specs.declared.place.Place.{Place}
use Rattle.ca_term.specs.declared.head.Head.TheVariants.{Recur, Builtin}
use Rattle.ca_forms.specs.declared.error.CheckErrorKind.TheVariants.{BadForm, BadArity, TooMany}
use Rattle.ca_forms.specs.Outcome.{Gathered}
use Rattle.ca_forms.specs.Meaning.{Env, Meaning, Named, size, constant_value, nothing, local_name, fail_with, iff, operation, block, unnamed, lets, loops, name_as}
use Rattle.ca_forms.specs.Binders.{Part, Pair, Binder, Bound, one, many, with_bound, bounds, binder, is_vector, bindings_in, spread_items, spread_one, spread, width, letting, is_pattern, patterns}
use Rattle.ca_forms.specs.Plain.{meanings, constant_number, let_of, row_let, row_if, row_if_not, row_when, row_when_not, has_even_length, cond_of, row_cond, and_of, or_of, by_truth, by_some, lone_name, one_bound, if_bound, row_if_bound, row_when_bound, again, binders, loop_over_patterns, looping, loop_of, row_loop, recur_of, row_recur, recur_with_next, row_while, counting, dotimes, row_dotimes, nth_bound, doseq, row_doseq}
use Rattle.ca_check.proofs.Places.{small, HasPlaces, HavePlaces, where_done, lets_places, loops_places}
use Rattle.ca_check.proofs.Sound.{Ground, Stands, Makes, Sound, Aimed, aimed, weaken, sound_constant, sound_local, sound_fail, sound_cond, sound_iff, sound_unless, AllSound, all_weaken, makes_operation, sound_operation, aimed_recur, sound_block, sound_body, aimed_block, aimed_when, NamedSound, named_weaken, named_append, sound_lets, sound_loops, sound_name_as, at_size, sound_hide}

-- each part of a form is sound, and so are its own parts
abbrev pub PairsSound : Ground → List Pair → Type 0
PairsSound g [] = Unit {0}
PairsSound g (q ∷ qs) = Sound g 0 q.means × PairsSound g qs

abbrev pub PartsSound : Ground → List Part → Type 0
PartsSound g [] = Unit {0}
PartsSound g (q ∷ qs) = Sound g 0 q.means × PairsSound g q.within × PartsSound g qs

pub means_sound : (g : Ground) (qs : List Part) → PartsSound g qs → AllSound g 0 (meanings qs)
means_sound g [] f = tt
means_sound g (q ∷ qs) f = (f.0, means_sound g qs f.2)

pub block_sound : (g : Ground) (n : ℕ) (qs : List Part) → PartsSound g qs → Sound g n (block (meanings qs))
block_sound g n qs f = weaken g 0 n (block (meanings qs)) (omega arith) (sound_block g 0 (meanings qs) (means_sound g qs f))

-- binders
abbrev pub BoundsSound : Ground → List Bound → Type 0
BoundsSound g [] = Unit {0}
BoundsSound g (b ∷ bs) = Sound g 0 b.means × BoundsSound g bs

pub with_bound_sound : (g : Ground) (b : Option Binder) (m : Meaning) (r : Option (List Bound)) → Sound g 0 m → ((bs : List Bound) → r ≡ Some bs → BoundsSound g bs)
    → (bs : List Bound) → with_bound b m r ≡ Some bs → BoundsSound g bs
with_bound_sound g None m r f h bs e = cc
with_bound_sound g (Some b) m None f h bs e = cc
with_bound_sound g (Some b) m (Some cs) f h [] e = tt
with_bound_sound g (Some b) m (Some cs) f h (d ∷ ds) e = subst (λ o. OptionSound o) e (f, h cs refl) where
  OptionSound : Option (List Bound) → Type 0
  OptionSound None = Unit {0}
  OptionSound (Some bs) = BoundsSound g bs

pub bounds_sound : (g : Ground) (qs : List Pair) → PairsSound g qs → (bs : List Bound) → bounds qs ≡ Some bs → BoundsSound g bs
bounds_sound g [] f [] e = tt
bounds_sound g [] f (b ∷ bs) e = cc
bounds_sound g (b ∷ []) f bs e = cc
bounds_sound g (b ∷ c ∷ qs) f bs e = with_bound_sound g (binder b.form) c.means (bounds qs) f.1.0 (bounds_sound g qs f.1.1) bs e

pub bindings_sound : (g : Ground) (q : Part) → PairsSound g q.within → (bs : List Bound) → bindings_in q ≡ Some bs → BoundsSound g bs
bindings_sound g q f bs e = by (is_vector q.form) (bounds_sound g q.within f) e where
  by : (b : Bool) → ((bs : List Bound) → bounds q.within ≡ Some bs → BoundsSound g bs) → cond b (bounds q.within) None ≡ Some bs → BoundsSound g bs
  by true h e = h bs e
  by false h e = cc

pub items_sound : (g : Ground) (p : Place) (h : ℕ) (xs : List (List ℕ)) (i n : ℕ) → h < n → ((j : ℕ) → j < i + length xs → IsInteger g.rules.scalars (pos j)) → NamedSound g n (spread_items p h xs i)
items_sound g p h [] i n l f = tt
items_sound g p h (x ∷ xs) i n l f = (
  sound_operation g n (Builtin PartOf) (local_name h ∷ constant_value (int (pos i)) ∷ []) p (sound_local g n h l, (sound_constant g n (int (pos i)) (f i (omega arith)), tt)) (λ target. refl),
  items_sound g p h xs (suc i) (suc n) (omega (arith, l)) (λ j k. f j (omega (arith, k))),
)

pub items_length : (p : Place) (h : ℕ) (xs : List (List ℕ)) (i : ℕ) → length (spread_items p h xs i) ≡ length xs
items_length p h [] i = refl
items_length p h (x ∷ xs) i = ap suc (items_length p h xs (suc i))

pub spread_one_length : (p : Place) (n : ℕ) (b : Binder) (m : Meaning) → length (spread_one p n b m) ≡ width b
spread_one_length p n (one x) m = refl
spread_one_length p n (many xs q) m = ap suc (items_length p n xs 0)

pub spread_one_sound : (g : Ground) (p : Place) (n : ℕ) (b : Binder) (m : Meaning) → HasPlaces g.rules.scalars b → Sound g n m → NamedSound g n (spread_one p n b m)
spread_one_sound g p n (one x) m h f = (f, tt)
spread_one_sound g p n (many xs q) m h f =
    (sound_cond g n (nat_lt 4096 (length xs)) (fail_with TooMany q) m (sound_fail g n TooMany q) f, items_sound g p n xs 0 (suc n) (omega arith) (λ j k. h j (omega (arith, k))))

abbrev pub widths : List Bound → ℕ
widths [] = 0
widths (b ∷ bs) = width b.by + widths bs

pub spread_length : (p : Place) (n : ℕ) (bs : List Bound) → length (spread p n bs) ≡ widths bs
spread_length p n [] = refl
spread_length p n (b ∷ bs) = length-append (spread_one p n b.by b.means) (spread p (n + width b.by) bs) ∙ omega (arith, spread_one_length p n b.by b.means, spread_length p (n + width b.by) bs)

pub spread_sound : (g : Ground) (p : Place) (n : ℕ) (bs : List Bound) → HavePlaces g.rules.scalars (binders bs) → BoundsSound g bs → NamedSound g n (spread p n bs)
spread_sound g p n [] h f = tt
spread_sound g p n (b ∷ bs) h f = named_append g n (spread_one p n b.by b.means) (spread p (n + width b.by) bs) (spread_one_sound g p n b.by b.means h.0 (weaken g 0 n b.means (omega arith) f.0))
    (named_weaken g (n + width b.by) (n + length (spread_one p n b.by b.means)) (spread p (n + width b.by) bs) (omega (arith, spread_one_length p n b.by b.means)) (spread_sound g p (n + width b.by) bs h.1 f.1))

pub sound_letting : (g : Ground) (n : ℕ) (bs : List Bound) (body : Meaning) (p : Place) → BoundsSound g bs → Sound g n body → Sound g n (letting bs body p)
sound_letting g n bs body p f h = at_size g n (letting bs body p) (λ env s l st.
    where_done (HavePlaces g.rules.scalars (binders bs)) _ (lets (spread p (size env) bs) body env s) (lets_places g.rules.scalars p (size env) bs body env s) (λ k.
    sound_lets g (size env) (spread p (size env) bs) body (spread_sound g p (size env) bs k f)
    (weaken g n (size env + length (spread p (size env) bs)) body (omega (arith, l)) h) env s st))

pub sound_let_of : (g : Ground) (o : Option (List Bound)) (body : Meaning) (p : Place) → ((bs : List Bound) → o ≡ Some bs → BoundsSound g bs) → Sound g 0 body → Sound g 0 (let_of o body p)
sound_let_of g None body p f h = sound_fail g 0 BadForm p
sound_let_of g (Some bs) body p f h = sound_cond g 0 (nat_lt 64 (length bs)) (fail_with TooMany p) (letting bs body p) (sound_fail g 0 TooMany p) (sound_letting g 0 bs body p (f bs refl) h)

pub sound_row_let : (g : Ground) (p : Place) (qs : List Part) → PartsSound g qs → Sound g 0 (row_let p qs)
sound_row_let g p [] f = sound_fail g 0 BadForm p
sound_row_let g p (b ∷ qs) f = sound_let_of g (bindings_in b) (block (meanings qs)) p (bindings_sound g b f.1) (block_sound g 0 qs f.2)

pub sound_row_if : (g : Ground) (p : Place) (qs : List Part) → PartsSound g qs → Sound g 0 (row_if p qs)
sound_row_if g p [] f = sound_fail g 0 BadForm p
sound_row_if g p (a ∷ []) f = sound_fail g 0 BadForm p
sound_row_if g p (a ∷ b ∷ []) f = sound_iff g 0 a.means b.means nothing f.0 f.2.0 (sound_constant g 0 nil tt)
sound_row_if g p (a ∷ b ∷ c ∷ []) f = sound_iff g 0 a.means b.means c.means f.0 f.2.0 f.2.2.0
sound_row_if g p (a ∷ b ∷ c ∷ d ∷ qs) f = sound_fail g 0 BadForm p

pub sound_row_if_not : (g : Ground) (p : Place) (qs : List Part) → PartsSound g qs → Sound g 0 (row_if_not p qs)
sound_row_if_not g p [] f = sound_fail g 0 BadForm p
sound_row_if_not g p (a ∷ []) f = sound_fail g 0 BadForm p
sound_row_if_not g p (a ∷ b ∷ []) f = sound_unless g 0 a.means b.means nothing f.0 f.2.0 (sound_constant g 0 nil tt)
sound_row_if_not g p (a ∷ b ∷ c ∷ []) f = sound_unless g 0 a.means b.means c.means f.0 f.2.0 f.2.2.0
sound_row_if_not g p (a ∷ b ∷ c ∷ d ∷ qs) f = sound_fail g 0 BadForm p

pub sound_row_when : (g : Ground) (p : Place) (qs : List Part) → PartsSound g qs → Sound g 0 (row_when p qs)
sound_row_when g p [] f = sound_fail g 0 BadForm p
sound_row_when g p (a ∷ qs) f = sound_iff g 0 a.means (block (meanings qs)) nothing f.0 (block_sound g 0 qs f.2) (sound_constant g 0 nil tt)

pub sound_row_when_not : (g : Ground) (p : Place) (qs : List Part) → PartsSound g qs → Sound g 0 (row_when_not p qs)
sound_row_when_not g p [] f = sound_fail g 0 BadForm p
sound_row_when_not g p (a ∷ qs) f = sound_unless g 0 a.means (block (meanings qs)) nothing f.0 (block_sound g 0 qs f.2) (sound_constant g 0 nil tt)

pub sound_cond_of : (g : Ground) (n : ℕ) (ms : List Meaning) → AllSound g n ms → Sound g n (cond_of ms)
sound_cond_of g n [] f = sound_constant g n nil tt
sound_cond_of g n (a ∷ []) f = sound_constant g n nil tt
sound_cond_of g n (a ∷ b ∷ ms) f = sound_iff g n a b (cond_of ms) f.0 f.1.0 (sound_cond_of g n ms f.1.1)

pub sound_row_cond : (g : Ground) (p : Place) (qs : List Part) → PartsSound g qs → Sound g 0 (row_cond p qs)
sound_row_cond g p qs f = sound_cond g 0 (has_even_length qs) (cond_of (meanings qs)) (fail_with BadForm p) (sound_cond_of g 0 (meanings qs) (means_sound g qs f)) (sound_fail g 0 BadForm p)

pub sound_and : (g : Ground) (n : ℕ) (ms : List Meaning) → AllSound g n ms → Sound g n (and_of ms)
sound_and g n [] f = sound_constant g n (bool true) tt
sound_and g n (a ∷ []) f = f.0
sound_and g n (a ∷ b ∷ ms) f = sound_hide g n a (λ h. iff (local_name h) (and_of (b ∷ ms)) (local_name h)) f.0
    (λ h l. sound_iff g (suc h) (local_name h) (and_of (b ∷ ms)) (local_name h) (sound_local g (suc h) h (omega arith)) (weaken g n (suc h) (and_of (b ∷ ms)) (omega (arith, l)) (sound_and g n (b ∷ ms) f.1)) (sound_local g (suc h) h (omega arith)))

pub sound_or : (g : Ground) (n : ℕ) (ms : List Meaning) → AllSound g n ms → Sound g n (or_of ms)
sound_or g n [] f = sound_constant g n nil tt
sound_or g n (a ∷ []) f = f.0
sound_or g n (a ∷ b ∷ ms) f = sound_hide g n a (λ h. iff (local_name h) (local_name h) (or_of (b ∷ ms))) f.0
    (λ h l. sound_iff g (suc h) (local_name h) (local_name h) (or_of (b ∷ ms)) (sound_local g (suc h) h (omega arith)) (sound_local g (suc h) h (omega arith)) (weaken g n (suc h) (or_of (b ∷ ms)) (omega (arith, l)) (sound_or g n (b ∷ ms) f.1)))

-- a test of a name
abbrev pub TestSound : Ground → (Place → ℕ → Meaning) → Type 0
TestSound g test = (p : Place) (h : ℕ) → Sound g (suc h) (test p h)

pub sound_truth : (g : Ground) → TestSound g by_truth
sound_truth g p h = sound_local g (suc h) h (omega arith)

pub sound_some : (g : Ground) → TestSound g by_some
sound_some g p h = sound_operation g (suc h) (Builtin IsSome) (local_name h ∷ []) p (sound_local g (suc h) h (omega arith), tt) (λ target. refl)

abbrev pub IfNamed : Ground → Option Named → Type 0
IfNamed g None = Unit {0}
IfNamed g (Some x) = Sound g 0 x.means

pub sound_only : (g : Ground) (b : Binder) (m : Meaning) → Sound g 0 m → IfNamed g (lone_name b m)
sound_only g (one x) m f = f
sound_only g (many xs q) m f = tt

pub sound_one_bound : (g : Ground) (o : Option (List Bound)) → ((bs : List Bound) → o ≡ Some bs → BoundsSound g bs) → IfNamed g (one_bound o)
sound_one_bound g None f = tt
sound_one_bound g (Some []) f = tt
sound_one_bound g (Some (b ∷ [])) f = sound_only g b.by b.means (f (b ∷ []) refl).0
sound_one_bound g (Some (b ∷ c ∷ bs)) f = tt

pub sound_if_bound : (g : Ground) (test : Place → ℕ → Meaning) (x : Option Named) (a b : Meaning) (p : Place) → TestSound g test → IfNamed g x → Sound g 0 a → Sound g 0 b → Sound g 0 (if_bound test x a b p)
sound_if_bound g test None a b p t f ga gb = sound_fail g 0 BadForm p
sound_if_bound g test (Some x) a b p t f ga gb = sound_hide g 0 x.means (λ h. iff (test p h) (name_as x.name (local_name h) a) b) f
    (λ h l. sound_iff g (suc h) (test p h) (name_as x.name (local_name h) a) b (t p h)
    (sound_name_as g (suc h) x.name (local_name h) a (sound_local g (suc h) h (omega arith)) (weaken g 0 (suc (suc h)) a (omega arith) ga)) (weaken g 0 (suc h) b (omega arith) gb))

pub sound_row_if_bound : (g : Ground) (test : Place → ℕ → Meaning) (p : Place) (qs : List Part) → TestSound g test → PartsSound g qs → Sound g 0 (row_if_bound test p qs)
sound_row_if_bound g test p [] t f = sound_fail g 0 BadForm p
sound_row_if_bound g test p (a ∷ []) t f = sound_fail g 0 BadForm p
sound_row_if_bound g test p (x ∷ a ∷ []) t f = sound_if_bound g test (one_bound (bindings_in x)) (block (a.means ∷ [])) nothing p t
    (sound_one_bound g (bindings_in x) (bindings_sound g x f.1)) (sound_body g 0 a.means f.2.0) (sound_constant g 0 nil tt)
sound_row_if_bound g test p (x ∷ a ∷ b ∷ []) t f = sound_if_bound g test (one_bound (bindings_in x)) (block (a.means ∷ [])) b.means p t
    (sound_one_bound g (bindings_in x) (bindings_sound g x f.1)) (sound_body g 0 a.means f.2.0) f.2.2.0
sound_row_if_bound g test p (a ∷ b ∷ c ∷ d ∷ qs) t f = sound_fail g 0 BadForm p

pub sound_row_when_bound : (g : Ground) (test : Place → ℕ → Meaning) (p : Place) (qs : List Part) → TestSound g test → PartsSound g qs → Sound g 0 (row_when_bound test p qs)
sound_row_when_bound g test p [] t f = sound_fail g 0 BadForm p
sound_row_when_bound g test p (x ∷ qs) t f = sound_if_bound g test (one_bound (bindings_in x)) (block (meanings qs)) nothing p t
    (sound_one_bound g (bindings_in x) (bindings_sound g x f.1)) (block_sound g 0 qs f.2) (sound_constant g 0 nil tt)

-- loops
pub again_sound : (g : Ground) (n : ℕ) (bs : List Bound) (m : ℕ) → n + widths bs ≤ m → NamedSound g m (again n bs)
again_sound g n [] m l = tt
again_sound g n (b ∷ bs) m l = (sound_local g m n (omega (arith, l, at_least b.by)), again_sound g (n + width b.by) bs (suc m) (omega (arith, l))) where
  at_least : (b : Binder) → 1 ≤ width b
  at_least (one x) = omega arith
  at_least (many xs q) = omega arith

pub again_length : (n : ℕ) (bs : List Bound) → length (again n bs) ≡ length bs
again_length n [] = refl
again_length n (b ∷ bs) = ap suc (again_length (n + width b.by) bs)

pub patterns_sound : (g : Ground) (p : Place) (n : ℕ) (bs : List Binder) (m : ℕ) → n + length bs ≤ m → HavePlaces g.rules.scalars bs → NamedSound g m (patterns p n bs)
patterns_sound g p n [] m l h = tt
patterns_sound g p n (one x ∷ bs) m l h = patterns_sound g p (suc n) bs m (omega (arith, l)) h.1
patterns_sound g p n (many xs q ∷ bs) m l h = named_append g m (spread_items p n xs 0) (patterns p (suc n) bs) (items_sound g p n xs 0 m (omega (arith, l)) (λ j k. h.0 j (omega (arith, k))))
    (patterns_sound g p (suc n) bs (m + length (spread_items p n xs 0)) (omega (arith, l)) h.1)

-- over so many names from n on
pub sound_over_patterns : (g : Ground) (p : Place) (n : ℕ) (bs : List Binder) (body : Meaning) (m : ℕ) → n + length bs ≤ m → HavePlaces g.rules.scalars bs → Sound g 0 body → Sound g m (lets (patterns p n bs) body)
sound_over_patterns g p n bs body m l k h = sound_lets g m (patterns p n bs) body (patterns_sound g p n bs m l k) (weaken g 0 (m + length (patterns p n bs)) body (omega arith) h)

pub sound_loop_over_patterns : (g : Ground) (bs : List Bound) (body : Meaning) (p : Place) → BoundsSound g bs → Sound g 0 body → Sound g 0 (loop_over_patterns bs body p)
sound_loop_over_patterns g bs body p f h = at_size g 0 (loop_over_patterns bs body p) (λ env s l st.
    where_done (HavePlaces g.rules.scalars (binders bs)) _ (loop_over_patterns bs body p env s) (lets_places g.rules.scalars p (size env) bs
    (block ((λ env2. loops (again (size env) bs) (block (lets (patterns p (size env2) (binders bs)) body ∷ [])) env2) ∷ [])) env s) (λ places.
    sound_lets g (size env) (spread p (size env) bs)
    (block ((λ env2. loops (again (size env) bs) (block (lets (patterns p (size env2) (binders bs)) body ∷ [])) env2) ∷ []))
    (spread_sound g p (size env) bs places f)
    (sound_body g (size env + length (spread p (size env) bs)) (λ env2. loops (again (size env) bs) (block (lets (patterns p (size env2) (binders bs)) body ∷ [])) env2)
    (at_size g (size env + length (spread p (size env) bs)) (λ env2. loops (again (size env) bs) (block (lets (patterns p (size env2) (binders bs)) body ∷ [])) env2)
    (λ env2 s2 l2 st2. sound_loops g (size env2) (again (size env) bs) (block (lets (patterns p (size env2) (binders bs)) body ∷ []))
    (again_sound g (size env) bs (size env2) (omega (arith, l2, spread_length p (size env) bs)))
    (aimed g (size env2 + length (again (size env) bs)) (length (again (size env) bs)) (block (lets (patterns p (size env2) (binders bs)) body ∷ []))
    (sound_body g (size env2 + length (again (size env) bs)) (lets (patterns p (size env2) (binders bs)) body)
    (sound_over_patterns g p (size env2) (binders bs) body (size env2 + length (again (size env) bs))
    (omega (arith, again_length (size env) bs, length-map bs (λ (b : Bound). b.by))) places h))) env2 s2 st2))) env s st))

pub sound_looping : (g : Ground) (bs : List Bound) (body : Meaning) (p : Place) → BoundsSound g bs → Sound g 0 body → Sound g 0 (looping bs body p)
sound_looping g bs body p f h = at_size g 0 (looping bs body p) (λ env s l st. by (list_any is_pattern (binders bs)) env s st) where
  by : (b : Bool) (env : Env) (s : Gathered) → Stands g (size env) env → Makes g env s (cond b (loop_over_patterns bs body p env) (loops (spread p (size env) bs) body env) s)
  by true env s st = sound_loop_over_patterns g bs body p f h env s (omega arith, st.1, st.2)
  by false env s st = where_done (HavePlaces g.rules.scalars (binders bs)) _ (loops (spread p (size env) bs) body env s) (loops_places g.rules.scalars p (size env) bs body env s) (λ places.
      sound_loops g (size env) (spread p (size env) bs) body (spread_sound g p (size env) bs places f)
      (aimed g (size env + length (spread p (size env) bs)) (length (spread p (size env) bs)) body (weaken g 0 (size env + length (spread p (size env) bs)) body (omega arith) h)) env s st)

pub sound_loop_of : (g : Ground) (o : Option (List Bound)) (body : Meaning) (p : Place) → ((bs : List Bound) → o ≡ Some bs → BoundsSound g bs) → Sound g 0 body → Sound g 0 (loop_of o body p)
sound_loop_of g None body p f h = sound_fail g 0 BadForm p
sound_loop_of g (Some bs) body p f h = sound_cond g 0 (nat_lt 64 (length bs)) (fail_with TooMany p) (looping bs body p) (sound_fail g 0 TooMany p) (sound_looping g bs body p (f bs refl) h)

pub sound_row_loop : (g : Ground) (p : Place) (qs : List Part) → PartsSound g qs → Sound g 0 (row_loop p qs)
sound_row_loop g p [] f = sound_fail g 0 BadForm p
sound_row_loop g p (b ∷ qs) f = sound_loop_of g (bindings_in b) (block (meanings qs)) p (bindings_sound g b f.1) (block_sound g 0 qs f.2)

pub sound_row_recur : (g : Ground) (p : Place) (qs : List Part) → PartsSound g qs → Sound g 0 (row_recur p qs)
sound_row_recur g p qs f env s st = by env.target refl where
  tested : (j : ℕ) → env.target ≡ Some j → (b : Bool) → (b ≡ true → length (meanings qs) ≡ j) → Makes g env s (cond b (operation Recur (meanings qs) p) (fail_with BadArity p) env s)
  tested j e false h = tt
  tested j e true h = makes_operation g 0 Recur (meanings qs) p env s st (means_sound g qs f) (e ∙ ap (λ n. Some n) (sym (h refl)))

  by : (o : Option ℕ) → env.target ≡ o → Makes g env s (recur_of o (meanings qs) p env s)
  by None e = tt
  by (Some j) e = tested j e (nat_eq (length (meanings qs)) j) (eqb-true (length (meanings qs)) j)

pub aimed_next : (g : Ground) (n i : ℕ) (p : Place) → i < n → Aimed g n 1 (recur_with_next i p)
aimed_next g n i p l = aimed_recur g n (operation (Builtin Inc) (local_name i ∷ []) p ∷ []) p
    (sound_operation g n (Builtin Inc) (local_name i ∷ []) p (sound_local g n i l, tt) (λ target. refl), tt)

pub sound_row_while : (g : Ground) (p : Place) (qs : List Part) → PartsSound g qs → Sound g 0 (row_while p qs)
sound_row_while g p [] f = sound_fail g 0 BadForm p
sound_row_while g p (c ∷ qs) f = sound_loops g 0 [] (block (iff c.means (block (meanings qs ++ operation Recur [] p ∷ [])) nothing ∷ [])) tt
    (aimed_when g 0 0 c.means (block (meanings qs ++ operation Recur [] p ∷ [])) f.0
    (aimed_block g 0 0 (meanings qs) (operation Recur [] p) (means_sound g qs f.2) (aimed_recur g 0 [] p tt)))

-- ms stand in a scope of at least m names, to which the name that counts may be added
pub sound_counting : (g : Ground) (m : ℕ) (i : List ℕ) (n : ℕ) (ms : List Meaning) (p : Place) → n < m → ((h : ℕ) → m ≤ h → AllSound g (suc h) ms) → Sound g m (counting i n ms p)
sound_counting g m i n ms p l f = at_size g m (counting i n ms p) (λ env s l2 st.
    sound_loops g (size env) (record { name = i; means = constant_number 0 } ∷ [])
    (block (iff (operation (Builtin Less) (local_name (size env) ∷ local_name n ∷ []) p) (block (ms ++ recur_with_next (size env) p ∷ [])) nothing ∷ []))
    (sound_constant g (size env) (int (pos 0)) (small g.rules.scalars 0 (omega arith)), tt)
    (aimed_when g (size env + 1) 1 (operation (Builtin Less) (local_name (size env) ∷ local_name n ∷ []) p) (block (ms ++ recur_with_next (size env) p ∷ []))
    (sound_operation g (size env + 1) (Builtin Less) (local_name (size env) ∷ local_name n ∷ []) p
    (sound_local g (size env + 1) (size env) (omega arith), (sound_local g (size env + 1) n (omega (arith, l, l2)), tt)) (λ target. refl))
    (aimed_block g (size env + 1) 1 ms (recur_with_next (size env) p) (all_weaken g (suc (size env)) (size env + 1) ms (omega arith) (f (size env) l2))
    (aimed_next g (size env + 1) (size env) p (omega arith)))) env s st)

pub sound_dotimes : (g : Ground) (o : Option Named) (ms : List Meaning) (p : Place) → IfNamed g o → AllSound g 0 ms → Sound g 0 (dotimes o ms p)
sound_dotimes g None ms p f h = sound_fail g 0 BadForm p
sound_dotimes g (Some i) ms p f h = sound_hide g 0 i.means (λ n. counting i.name n ms p) f
    (λ n l. sound_counting g (suc n) i.name n ms p (omega arith) (λ m l2. all_weaken g 0 (suc m) ms (omega arith) h))

pub sound_row_dotimes : (g : Ground) (p : Place) (qs : List Part) → PartsSound g qs → Sound g 0 (row_dotimes p qs)
sound_row_dotimes g p [] f = sound_fail g 0 BadForm p
sound_row_dotimes g p (b ∷ qs) f = sound_dotimes g (one_bound (bindings_in b)) (meanings qs) p (sound_one_bound g (bindings_in b) (bindings_sound g b f.1)) (means_sound g qs f.2)

pub sound_letting_one : (g : Ground) (n : ℕ) (b : Bound) (body : Meaning) (p : Place) → Sound g n b.means → Sound g 0 body → Sound g n (letting (b ∷ []) body p)
sound_letting_one g n b body p f h = at_size g n (letting (b ∷ []) body p) (λ env s l st.
    where_done (HavePlaces g.rules.scalars (binders (b ∷ []))) _ (lets (spread p (size env) (b ∷ [])) body env s) (lets_places g.rules.scalars p (size env) (b ∷ []) body env s) (λ places.
    sound_lets g (size env) (spread p (size env) (b ∷ [])) body
    (named_append g (size env) (spread_one p (size env) b.by b.means) [] (spread_one_sound g p (size env) b.by b.means places.0 (weaken g n (size env) b.means l f)) tt)
    (weaken g 0 (size env + length (spread p (size env) (b ∷ []))) body (omega arith) h) env s st))

pub sound_nth_bound : (g : Ground) (n : ℕ) (b : Binder) (h j : ℕ) (p : Place) → h < n → j < n → Sound g n (nth_bound b h j p).means
sound_nth_bound g n b h j p l k = sound_operation g n (Builtin Nth) (local_name h ∷ local_name j ∷ []) p (sound_local g n h l, (sound_local g n j k, tt)) (λ target. refl)

pub sound_doseq_one : (g : Ground) (b : Bound) (body : Meaning) (p : Place) → Sound g 0 b.means → Sound g 0 body → Sound g 0 (doseq (Some (b ∷ [])) body p)
sound_doseq_one g b body p f h = at_size g 0 (doseq (Some (b ∷ [])) body p) (λ env s l st.
    sound_lets g (size env) (unnamed (operation (Builtin Items) (b.means ∷ []) p) ∷ unnamed (operation (Builtin Count) (local_name (size env) ∷ []) p) ∷ [])
    (block (counting [] (size env + 1) (letting (nth_bound b.by (size env) (size env + 2) p ∷ []) body p ∷ []) p ∷ [])) (
      sound_operation g (size env) (Builtin Items) (b.means ∷ []) p (weaken g 0 (size env) b.means (omega arith) f, tt) (λ target. refl),
      (sound_operation g (suc (size env)) (Builtin Count) (local_name (size env) ∷ []) p (sound_local g (suc (size env)) (size env) (omega arith), tt) (λ target. refl), tt),
    )
    (sound_body g (size env + 2) (counting [] (size env + 1) (letting (nth_bound b.by (size env) (size env + 2) p ∷ []) body p ∷ []) p)
    (sound_counting g (size env + 2) [] (size env + 1) (letting (nth_bound b.by (size env) (size env + 2) p ∷ []) body p ∷ []) p (omega arith)
    (λ n l2. (
      sound_letting_one g (suc n) (nth_bound b.by (size env) (size env + 2) p) body p
          (sound_nth_bound g (suc n) b.by (size env) (size env + 2) p (omega (arith, l2)) (omega (arith, l2))) h,
      tt,
    )))) env s st)

pub sound_doseq : (g : Ground) (o : Option (List Bound)) (body : Meaning) (p : Place) → ((bs : List Bound) → o ≡ Some bs → BoundsSound g bs) → Sound g 0 body → Sound g 0 (doseq o body p)
sound_doseq g None body p f h = sound_fail g 0 BadForm p
sound_doseq g (Some []) body p f h = sound_fail g 0 BadForm p
sound_doseq g (Some (b ∷ [])) body p f h = sound_doseq_one g b body p (f (b ∷ []) refl).0 h
sound_doseq g (Some (b ∷ c ∷ bs)) body p f h = sound_fail g 0 BadForm p

pub sound_row_doseq : (g : Ground) (p : Place) (qs : List Part) → PartsSound g qs → Sound g 0 (row_doseq p qs)
sound_row_doseq g p [] f = sound_fail g 0 BadForm p
sound_row_doseq g p (b ∷ qs) f = sound_doseq g (bindings_in b) (block (meanings qs)) p (bindings_sound g b f.1) (block_sound g 0 qs f.2)
