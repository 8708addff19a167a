-- The rows of the plain forms add the go bodies of their parts in order.
use Rattle.std.proofs.Common.{◌≡◌, ℕ, suc, ◌+◌, List, [], ◌∷◌, ◌++◌, length, map, refl, sym, ap, ◌∙◌, subst, Option, Some, None, Bool, true, false, cond, nat_lt, nat_eq, pos}
use Rattle.std.specs.List.{list_any}
use Rattle.std.proofs.lemmas.List.{append-nil}
use Rattle.ca_value.specs.Tree.{nil, int, bool}
use Rattle.ca_value.specs.declared.builtin.Builtin.TheVariants.{Part as PartOf, Inc, Less, Nth, Count, Items, IsSome}
use Rattle.ca_term.specs.declared.place.Place.{Place}
use Rattle.ca_term.specs.declared.head.Head.TheVariants.{Recur, Builtin}
use Rattle.ca_reader.specs.declared.form.Bracket.TheVariants.{Round, Square, Curly}
use Rattle.ca_reader.specs.Form.{FormTree, FormTrees, form, atom, group, none, item}
use Rattle.ca_forms.specs.declared.error.CheckErrorKind.TheVariants.{BadForm, BadArity, RecurNotTail, TooMany}
use Rattle.ca_forms.specs.Meaning.{Meaning, Named, size, constant_value, nothing, local_name, fail_with, iff, unless, operation, block, unnamed, lets, loops, name_as}
use Rattle.ca_forms.specs.Binders.{Part, Pair, Binder, Bound, one, many, name_in, with_name, names_in, pattern, binder, with_bound, bounds, is_vector, bindings_in, spread_items, spread_one, spread, width, letting, is_pattern, patterns}
use Rattle.ca_forms.specs.Plain.{meanings, constant_number, let_of, row_let, row_if, row_if_not, row_when, row_when_not, has_even_length, cond_of, row_cond, and_of, or_of, by_truth, by_some, lone_name, one_bound, if_bound, row_if_bound, row_when_bound, again, binders, loop_over_patterns, looping, loop_of, row_loop, recur_of, row_recur, recur_with_next, row_while, counting, dotimes, row_dotimes, nth_bound, doseq, row_doseq}
use Rattle.ca_forms.specs.Channels.{is_list, word_of}
use Rattle.ca_check.specs.Order.{is_go, go_blocks, go_blocks_in}
use Rattle.ca_check.proofs.Ordered.{Leaves, Ordered, ordered_same, ordered_constant, ordered_local, ordered_fail, ordered_cond, ordered_iff, ordered_unless, total, total_append, AllOrdered, all_append, ordered_operation, ordered_block, ordered_body, NamedOrdered, named_append, ordered_lets, ordered_loops, ordered_name_as, ordered_hide}

-- the go blocks of each part
abbrev pub blocks_of : List Part → List (List Place)
blocks_of qs = map (λ q. go_blocks_in q.form) qs

abbrev pub pair_blocks : List Pair → List (List Place)
pair_blocks qs = map (λ q. go_blocks_in q.form) qs

abbrev pub PairsOrdered : List Pair → Type 0
PairsOrdered [] = Unit {0}
PairsOrdered (q ∷ qs) = Ordered (go_blocks_in q.form) q.means × PairsOrdered qs

-- A part adds its go blocks, and so do its own parts. They are all that it has, where it is a vector or a list that
-- is no go block.
pub record PartOrdered (q : Part) : Type 0 where
  pub means : Ordered (go_blocks_in q.form) q.means
  pub within : PairsOrdered q.within
  pub vector : is_vector q.form ≡ true → go_blocks_in q.form ≡ total (pair_blocks q.within)
  pub list : is_list q.form ≡ true → is_go (word_of q.within) ≡ false → go_blocks_in q.form ≡ total (pair_blocks q.within)

abbrev pub PartsOrdered : List Part → Type 0
PartsOrdered [] = Unit {0}
PartsOrdered (q ∷ qs) = PartOrdered q × PartsOrdered qs

pub means_ordered : (qs : List Part) → PartsOrdered qs → AllOrdered (blocks_of qs) (meanings qs)
means_ordered [] f = tt
means_ordered (q ∷ qs) f = (f.0.means, means_ordered qs f.1)

pub block_ordered : (qs : List Part) → PartsOrdered qs → Ordered (total (blocks_of qs)) (block (meanings qs))
block_ordered qs f = ordered_block (blocks_of qs) (meanings qs) (means_ordered qs f)

-- what binds names holds no go block
pub name_none : (f : FormTree) (x : List ℕ) → name_in f ≡ Some x → go_blocks_in f ≡ []
name_none (form (atom a) p) x e = refl
name_none (form (group b fs) p) x e = cc

pub names_none : (fs : FormTrees) (xs : List (List ℕ)) → names_in fs ≡ Some xs → go_blocks fs ≡ []
names_none none xs e = refl
names_none (item f fs) xs e = by (name_in f) (names_in fs) (name_none f) (names_none fs) e where
  by : (o : Option (List ℕ)) (r : Option (List (List ℕ))) → ((x : List ℕ) → o ≡ Some x → go_blocks_in f ≡ []) → ((ys : List (List ℕ)) → r ≡ Some ys → go_blocks fs ≡ [])
      → with_name o r ≡ Some xs → go_blocks_in f ++ go_blocks fs ≡ []
  by None r g h = λ e. cc
  by (Some x) None g h = λ e. cc
  by (Some x) (Some ys) g h = λ e. rw (g x refl, h ys refl) refl

pub binder_none : (f : FormTree) (b : Binder) → binder f ≡ Some b → go_blocks_in f ≡ []
binder_none (form (atom a) p) b e = refl
binder_none (form (group Square fs) p) b e = by (names_in fs) (names_none fs) e where
  by : (r : Option (List (List ℕ))) → ((ys : List (List ℕ)) → r ≡ Some ys → go_blocks fs ≡ []) → pattern r p ≡ Some b → go_blocks fs ≡ []
  by None h = λ e. cc
  by (Some ys) h = λ e. h ys refl
binder_none (form (group Round fs) p) b e = cc
binder_none (form (group Curly fs) p) b e = cc

-- bindings
abbrev pub BoundsOrdered : List (List Place) → List Bound → Type 0
BoundsOrdered [] [] = Unit {0}
BoundsOrdered [] (b ∷ bs) = ⊥
BoundsOrdered (ps ∷ pss) [] = ⊥
BoundsOrdered (ps ∷ pss) (b ∷ bs) = Ordered ps b.means × BoundsOrdered pss bs

-- the values of these bindings add these
pub record Bind (ps : List Place) (bs : List Bound) : Type 0 where
  pub blocks : List (List Place)
  pub ordered : BoundsOrdered blocks bs
  pub are : total blocks ≡ ps

abbrev pub MayBind : List Place → Option (List Bound) → Type 0
MayBind ps None = Unit {0}
MayBind ps (Some bs) = Bind ps bs

pub with_bound_ordered : (o : Option Binder) (m : Meaning) (r : Option (List Bound)) (ps qs rs : List Place) → ((b : Binder) → o ≡ Some b → ps ≡ []) → Ordered qs m → MayBind rs r
    → MayBind (ps ++ (qs ++ rs)) (with_bound o m r)
with_bound_ordered None m r ps qs rs z f h = tt
with_bound_ordered (Some b) m None ps qs rs z f h = tt
with_bound_ordered (Some b) m (Some bs) ps qs rs z f h = record {
  blocks = qs ∷ h.blocks;
  ordered = (f, h.ordered);
  are = ap (λ l. qs ++ l) h.are ∙ sym (ap (λ l. l ++ (qs ++ rs)) (z b refl));
}

pub bounds_ordered : (qs : List Pair) → PairsOrdered qs → MayBind (total (pair_blocks qs)) (bounds qs)
bounds_ordered [] f = record { blocks = []; ordered = tt; are = refl }
bounds_ordered (b ∷ []) f = tt
bounds_ordered (b ∷ e ∷ qs) f = with_bound_ordered (binder b.form) e.means (bounds qs) (go_blocks_in b.form) (go_blocks_in e.form) (total (pair_blocks qs))
    (binder_none b.form) f.1.0 (bounds_ordered qs f.1.1)

pub bindings_ordered : (q : Part) → PartOrdered q → MayBind (go_blocks_in q.form) (bindings_in q)
bindings_ordered q f = by (is_vector q.form) f.vector where
  by : (b : Bool) → (b ≡ true → go_blocks_in q.form ≡ total (pair_blocks q.within)) → MayBind (go_blocks_in q.form) (cond b (bounds q.within) None)
  by true e = subst (λ l. MayBind l (bounds q.within)) (sym (e refl)) (bounds_ordered q.within f.within)
  by false e = tt

-- single names, whose values add these
pub record Names (ps : List Place) (bs : List Named) : Type 0 where
  pub blocks : List (List Place)
  pub ordered : NamedOrdered blocks bs
  pub are : total blocks ≡ ps

pub no_names : Names [] []
no_names = record { blocks = []; ordered = tt; are = refl }

pub one_more : (ps qs : List Place) (b : Named) (bs : List Named) → Ordered ps b.means → Names qs bs → Names (ps ++ qs) (b ∷ bs)
one_more ps qs b bs f h = record { blocks = ps ∷ h.blocks; ordered = (f, h.ordered); are = ap (λ l. ps ++ l) h.are }

pub some_more : (ps qs : List Place) (bs cs : List Named) → Names ps bs → Names qs cs → Names (ps ++ qs) (bs ++ cs)
some_more ps qs bs cs f g = record {
  blocks = f.blocks ++ g.blocks;
  ordered = named_append f.blocks g.blocks bs cs f.ordered g.ordered;
  are = total_append f.blocks g.blocks ∙ ap (λ l. l ++ total g.blocks) f.are ∙ ap (λ l. ps ++ l) g.are;
}

pub names_same : (ps qs : List Place) (bs : List Named) → ps ≡ qs → Names ps bs → Names qs bs
names_same ps qs bs e h = subst (λ l. Names l bs) e h

pub lets_ordered : (ps qs : List Place) (bs : List Named) (body : Meaning) → Names ps bs → Ordered qs body → Ordered (ps ++ qs) (lets bs body)
lets_ordered ps qs bs body h g = ordered_same (total h.blocks ++ qs) (ps ++ qs) (lets bs body) (ap (λ l. l ++ qs) h.are) (ordered_lets h.blocks qs bs body h.ordered g)

pub loops_ordered : (ps qs : List Place) (bs : List Named) (body : Meaning) → Names ps bs → Ordered qs body → Ordered (ps ++ qs) (loops bs body)
loops_ordered ps qs bs body h g = ordered_same (total h.blocks ++ qs) (ps ++ qs) (loops bs body) (ap (λ l. l ++ qs) h.are) (ordered_loops h.blocks qs bs body h.ordered g)

pub items_ordered : (p : Place) (h : ℕ) (xs : List (List ℕ)) (i : ℕ) → Names [] (spread_items p h xs i)
items_ordered p h [] i = no_names
items_ordered p h (x ∷ xs) i = one_more [] [] (record { name = x; means = operation (Builtin PartOf) (local_name h ∷ constant_value (int (pos i)) ∷ []) p }) (spread_items p h xs (suc i))
    (ordered_operation ([] ∷ [] ∷ []) (Builtin PartOf) (local_name h ∷ constant_value (int (pos i)) ∷ []) p (ordered_local h, (ordered_constant (int (pos i)), tt)))
    (items_ordered p h xs (suc i))

pub spread_one_ordered : (ps : List Place) (p : Place) (n : ℕ) (b : Binder) (m : Meaning) → Ordered ps m → Names (ps ++ []) (spread_one p n b m)
spread_one_ordered ps p n (one x) m f = one_more ps [] (record { name = x; means = m }) [] f no_names
spread_one_ordered ps p n (many xs q) m f = one_more ps [] (record { name = []; means = cond (nat_lt 4096 (length xs)) (fail_with TooMany q) m }) (spread_items p n xs 0)
    (ordered_cond ps (nat_lt 4096 (length xs)) (fail_with TooMany q) m (ordered_fail ps TooMany q) f) (items_ordered p n xs 0)

pub spread_ordered : (pss : List (List Place)) (p : Place) (n : ℕ) (bs : List Bound) → BoundsOrdered pss bs → Names (total pss) (spread p n bs)
spread_ordered [] p n [] f = no_names
spread_ordered [] p n (b ∷ bs) f = absurd f
spread_ordered (ps ∷ pss) p n [] f = absurd f
spread_ordered (ps ∷ pss) p n (b ∷ bs) f = names_same ((ps ++ []) ++ total pss) (ps ++ total pss) (spread_one p n b.by b.means ++ spread p (n + width b.by) bs)
    (ap (λ l. l ++ total pss) (append-nil ps))
    (some_more (ps ++ []) (total pss) (spread_one p n b.by b.means) (spread p (n + width b.by) bs) (spread_one_ordered ps p n b.by b.means f.0) (spread_ordered pss p (n + width b.by) bs f.1))

pub spread_names : (ps : List Place) (p : Place) (n : ℕ) (bs : List Bound) → Bind ps bs → Names ps (spread p n bs)
spread_names ps p n bs h = names_same (total h.blocks) ps (spread p n bs) h.are (spread_ordered h.blocks p n bs h.ordered)

pub ordered_letting : (ps qs : List Place) (bs : List Bound) (body : Meaning) (p : Place) → Bind ps bs → Ordered qs body → Ordered (ps ++ qs) (letting bs body p)
ordered_letting ps qs bs body p h g env s = lets_ordered ps qs (spread p (size env) bs) body (spread_names ps p (size env) bs h) g env s

pub ordered_let_of : (ps qs : List Place) (o : Option (List Bound)) (body : Meaning) (p : Place) → MayBind ps o → Ordered qs body → Ordered (ps ++ qs) (let_of o body p)
ordered_let_of ps qs None body p h g = ordered_fail (ps ++ qs) BadForm p
ordered_let_of ps qs (Some bs) body p h g = ordered_cond (ps ++ qs) (nat_lt 64 (length bs)) (fail_with TooMany p) (letting bs body p) (ordered_fail (ps ++ qs) TooMany p) (ordered_letting ps qs bs body p h g)

pub ordered_row_let : (p : Place) (qs : List Part) → PartsOrdered qs → Ordered (total (blocks_of qs)) (row_let p qs)
ordered_row_let p [] f = ordered_fail [] BadForm p
ordered_row_let p (b ∷ qs) f = ordered_let_of (go_blocks_in b.form) (total (blocks_of qs)) (bindings_in b) (block (meanings qs)) p (bindings_ordered b f.0) (block_ordered qs f.1)

pub ordered_row_if : (p : Place) (qs : List Part) → PartsOrdered qs → Ordered (total (blocks_of qs)) (row_if p qs)
ordered_row_if p [] f = λ env s. tt
ordered_row_if p (a ∷ []) f = λ env s. tt
ordered_row_if p (a ∷ b ∷ []) f = ordered_iff (go_blocks_in a.form) (go_blocks_in b.form) [] a.means b.means nothing f.0.means f.1.0.means (ordered_constant nil)
ordered_row_if p (a ∷ b ∷ c ∷ []) f = ordered_iff (go_blocks_in a.form) (go_blocks_in b.form) (go_blocks_in c.form) a.means b.means c.means f.0.means f.1.0.means f.1.1.0.means
ordered_row_if p (a ∷ b ∷ c ∷ d ∷ qs) f = λ env s. tt

pub ordered_row_if_not : (p : Place) (qs : List Part) → PartsOrdered qs → Ordered (total (blocks_of qs)) (row_if_not p qs)
ordered_row_if_not p [] f = λ env s. tt
ordered_row_if_not p (a ∷ []) f = λ env s. tt
ordered_row_if_not p (a ∷ b ∷ []) f = ordered_unless (go_blocks_in a.form) (go_blocks_in b.form) [] a.means b.means nothing f.0.means f.1.0.means (ordered_constant nil)
ordered_row_if_not p (a ∷ b ∷ c ∷ []) f = ordered_unless (go_blocks_in a.form) (go_blocks_in b.form) (go_blocks_in c.form) a.means b.means c.means f.0.means f.1.0.means f.1.1.0.means
ordered_row_if_not p (a ∷ b ∷ c ∷ d ∷ qs) f = λ env s. tt

-- a choice with nothing on the other side
pub short : (ps qs : List Place) (m : Meaning) → Ordered (ps ++ (qs ++ [])) m → Ordered (ps ++ qs) m
short ps qs m f = ordered_same (ps ++ (qs ++ [])) (ps ++ qs) m (ap (λ l. ps ++ l) (append-nil qs)) f

pub ordered_row_when : (p : Place) (qs : List Part) → PartsOrdered qs → Ordered (total (blocks_of qs)) (row_when p qs)
ordered_row_when p [] f = ordered_fail [] BadForm p
ordered_row_when p (a ∷ qs) f = short (go_blocks_in a.form) (total (blocks_of qs)) (iff a.means (block (meanings qs)) nothing)
    (ordered_iff (go_blocks_in a.form) (total (blocks_of qs)) [] a.means (block (meanings qs)) nothing f.0.means (block_ordered qs f.1) (ordered_constant nil))

pub ordered_row_when_not : (p : Place) (qs : List Part) → PartsOrdered qs → Ordered (total (blocks_of qs)) (row_when_not p qs)
ordered_row_when_not p [] f = ordered_fail [] BadForm p
ordered_row_when_not p (a ∷ qs) f = short (go_blocks_in a.form) (total (blocks_of qs)) (unless a.means (block (meanings qs)) nothing)
    (ordered_unless (go_blocks_in a.form) (total (blocks_of qs)) [] a.means (block (meanings qs)) nothing f.0.means (block_ordered qs f.1) (ordered_constant nil))

pub ordered_cond_of : (qs : List Part) → PartsOrdered qs → has_even_length qs ≡ true → Ordered (total (blocks_of qs)) (cond_of (meanings qs))
ordered_cond_of [] f e = ordered_constant nil
ordered_cond_of (c ∷ []) f e = cc
ordered_cond_of (c ∷ a ∷ qs) f e = ordered_same (go_blocks_in c.form ++ (go_blocks_in a.form ++ (total (blocks_of qs) ++ []))) (go_blocks_in c.form ++ (go_blocks_in a.form ++ total (blocks_of qs)))
    (iff c.means a.means (cond_of (meanings qs))) (ap (λ l. go_blocks_in c.form ++ (go_blocks_in a.form ++ l)) (append-nil (total (blocks_of qs))))
    (ordered_iff (go_blocks_in c.form) (go_blocks_in a.form) (total (blocks_of qs)) c.means a.means (cond_of (meanings qs)) f.0.means f.1.0.means (ordered_cond_of qs f.1.1 e))

pub ordered_row_cond : (p : Place) (qs : List Part) → PartsOrdered qs → Ordered (total (blocks_of qs)) (row_cond p qs)
ordered_row_cond p qs f = by (has_even_length qs) (ordered_cond_of qs f) where
  by : (b : Bool) → (b ≡ true → Ordered (total (blocks_of qs)) (cond_of (meanings qs))) → Ordered (total (blocks_of qs)) (cond b (cond_of (meanings qs)) (fail_with BadForm p))
  by true g = g refl
  by false g = ordered_fail (total (blocks_of qs)) BadForm p

pub ordered_and : (pss : List (List Place)) (ms : List Meaning) → AllOrdered pss ms → Ordered (total pss) (and_of ms)
ordered_and [] [] f = ordered_constant (bool true)
ordered_and [] (m ∷ ms) f = absurd f
ordered_and (ps ∷ pss) [] f = absurd f
ordered_and (ps ∷ []) (a ∷ []) f = ordered_same ps (ps ++ []) a (sym (append-nil ps)) f.0
ordered_and (ps ∷ qs ∷ pss) (a ∷ []) f = absurd f.1
ordered_and (ps ∷ []) (a ∷ b ∷ ms) f = absurd f.1
ordered_and (ps ∷ qs ∷ pss) (a ∷ b ∷ ms) f = ordered_hide ps (total (qs ∷ pss)) a (λ h. iff (local_name h) (and_of (b ∷ ms)) (local_name h)) f.0
    (λ h. short [] (total (qs ∷ pss)) (iff (local_name h) (and_of (b ∷ ms)) (local_name h)) (ordered_iff [] (total (qs ∷ pss)) [] (local_name h) (and_of (b ∷ ms)) (local_name h) (ordered_local h) (ordered_and (qs ∷ pss) (b ∷ ms) f.1) (ordered_local h)))

pub ordered_or : (pss : List (List Place)) (ms : List Meaning) → AllOrdered pss ms → Ordered (total pss) (or_of ms)
ordered_or [] [] f = ordered_constant nil
ordered_or [] (m ∷ ms) f = absurd f
ordered_or (ps ∷ pss) [] f = absurd f
ordered_or (ps ∷ []) (a ∷ []) f = ordered_same ps (ps ++ []) a (sym (append-nil ps)) f.0
ordered_or (ps ∷ qs ∷ pss) (a ∷ []) f = absurd f.1
ordered_or (ps ∷ []) (a ∷ b ∷ ms) f = absurd f.1
ordered_or (ps ∷ qs ∷ pss) (a ∷ b ∷ ms) f = ordered_hide ps (total (qs ∷ pss)) a (λ h. iff (local_name h) (local_name h) (or_of (b ∷ ms))) f.0
    (λ h. short [] (total (qs ∷ pss)) (iff (local_name h) (local_name h) (or_of (b ∷ ms))) (ordered_iff [] [] (total (qs ∷ pss)) (local_name h) (local_name h) (or_of (b ∷ ms)) (ordered_local h) (ordered_local h) (ordered_or (qs ∷ pss) (b ∷ ms) f.1)))

-- a test of a name
abbrev pub TestOrdered : (Place → ℕ → Meaning) → Type 0
TestOrdered test = (p : Place) (h : ℕ) → Ordered [] (test p h)

pub ordered_truth : TestOrdered by_truth
ordered_truth p h = ordered_local h

pub ordered_some : TestOrdered by_some
ordered_some p h = ordered_operation ([] ∷ []) (Builtin IsSome) (local_name h ∷ []) p (ordered_local h, tt)

abbrev pub IfNamed : List Place → Option Named → Type 0
IfNamed ps None = Unit {0}
IfNamed ps (Some x) = Ordered ps x.means

pub ordered_only : (ps : List Place) (b : Binder) (m : Meaning) → Ordered ps m → IfNamed ps (lone_name b m)
ordered_only ps (one x) m f = f
ordered_only ps (many xs q) m f = tt

pub ordered_one_bound : (ps : List Place) (o : Option (List Bound)) → MayBind ps o → IfNamed ps (one_bound o)
ordered_one_bound ps None h = tt
ordered_one_bound ps (Some []) h = tt
ordered_one_bound ps (Some (b ∷ [])) h = ordered_only ps b.by b.means (by h.blocks h.ordered h.are) where
  by : (pss : List (List Place)) → BoundsOrdered pss (b ∷ []) → total pss ≡ ps → Ordered ps b.means
  by [] f e = absurd f
  by (qs ∷ []) f e = ordered_same qs ps b.means (sym (append-nil qs) ∙ e) f.0
  by (qs ∷ rs ∷ pss) f e = absurd f.1
ordered_one_bound ps (Some (b ∷ c ∷ bs)) h = tt

pub ordered_if_bound : (ps qs rs : List Place) (test : Place → ℕ → Meaning) (x : Option Named) (a b : Meaning) (p : Place) → TestOrdered test → IfNamed ps x → Ordered qs a → Ordered rs b
    → Ordered (ps ++ (qs ++ (rs ++ []))) (if_bound test x a b p)
ordered_if_bound ps qs rs test None a b p t f g h = ordered_fail (ps ++ (qs ++ (rs ++ []))) BadForm p
ordered_if_bound ps qs rs test (Some x) a b p t f g h = ordered_hide ps (qs ++ (rs ++ [])) x.means (λ n. iff (test p n) (name_as x.name (local_name n) a) b) f
    (λ n. ordered_iff [] qs rs (test p n) (name_as x.name (local_name n) a) b (t p n) (ordered_name_as [] qs x.name (local_name n) a (ordered_local n) g) h)

pub ordered_row_if_bound : (test : Place → ℕ → Meaning) (p : Place) (qs : List Part) → TestOrdered test → PartsOrdered qs → Ordered (total (blocks_of qs)) (row_if_bound test p qs)
ordered_row_if_bound test p [] t f = λ env s. tt
ordered_row_if_bound test p (a ∷ []) t f = λ env s. tt
ordered_row_if_bound test p (x ∷ a ∷ []) t f = ordered_if_bound (go_blocks_in x.form) (go_blocks_in a.form) [] test (one_bound (bindings_in x)) (block (a.means ∷ [])) nothing p t
    (ordered_one_bound (go_blocks_in x.form) (bindings_in x) (bindings_ordered x f.0)) (ordered_body (go_blocks_in a.form) a.means f.1.0.means) (ordered_constant nil)
ordered_row_if_bound test p (x ∷ a ∷ b ∷ []) t f = ordered_if_bound (go_blocks_in x.form) (go_blocks_in a.form) (go_blocks_in b.form) test (one_bound (bindings_in x)) (block (a.means ∷ [])) b.means p t
    (ordered_one_bound (go_blocks_in x.form) (bindings_in x) (bindings_ordered x f.0)) (ordered_body (go_blocks_in a.form) a.means f.1.0.means) f.1.1.0.means
ordered_row_if_bound test p (a ∷ b ∷ c ∷ d ∷ qs) t f = λ env s. tt

pub ordered_row_when_bound : (test : Place → ℕ → Meaning) (p : Place) (qs : List Part) → TestOrdered test → PartsOrdered qs → Ordered (total (blocks_of qs)) (row_when_bound test p qs)
ordered_row_when_bound test p [] t f = λ env s. tt
ordered_row_when_bound test p (x ∷ qs) t f = short (go_blocks_in x.form) (total (blocks_of qs)) (if_bound test (one_bound (bindings_in x)) (block (meanings qs)) nothing p)
    (ordered_if_bound (go_blocks_in x.form) (total (blocks_of qs)) [] test (one_bound (bindings_in x)) (block (meanings qs)) nothing p t
    (ordered_one_bound (go_blocks_in x.form) (bindings_in x) (bindings_ordered x f.0)) (block_ordered qs f.1) (ordered_constant nil))

-- loops
pub again_names : (n : ℕ) (bs : List Bound) → Names [] (again n bs)
again_names n [] = no_names
again_names n (b ∷ bs) = one_more [] [] _ (again (n + width b.by) bs) (ordered_local n) (again_names (n + width b.by) bs)

pub patterns_names : (p : Place) (n : ℕ) (bs : List Binder) → Names [] (patterns p n bs)
patterns_names p n [] = no_names
patterns_names p n (one x ∷ bs) = patterns_names p (suc n) bs
patterns_names p n (many xs q ∷ bs) = some_more [] [] (spread_items p n xs 0) (patterns p (suc n) bs) (items_ordered p n xs 0) (patterns_names p (suc n) bs)

pub ordered_over_patterns : (qs : List Place) (p : Place) (n : ℕ) (bs : List Binder) (body : Meaning) → Ordered qs body → Ordered qs (lets (patterns p n bs) body)
ordered_over_patterns qs p n bs body g = lets_ordered [] qs (patterns p n bs) body (patterns_names p n bs) g

pub ordered_loop_over_patterns : (ps qs : List Place) (bs : List Bound) (body : Meaning) (p : Place) → Bind ps bs → Ordered qs body → Ordered (ps ++ qs) (loop_over_patterns bs body p)
ordered_loop_over_patterns ps qs bs body p h g env s = ordered_letting ps qs bs
    (block ((λ env2. loops (again (size env) bs) (block (lets (patterns p (size env2) (binders bs)) body ∷ [])) env2) ∷ [])) p h
    (ordered_body qs (λ env2. loops (again (size env) bs) (block (lets (patterns p (size env2) (binders bs)) body ∷ [])) env2)
    (λ env2 s2. loops_ordered [] qs (again (size env) bs) (block (lets (patterns p (size env2) (binders bs)) body ∷ [])) (again_names (size env) bs)
    (ordered_body qs (lets (patterns p (size env2) (binders bs)) body) (ordered_over_patterns qs p (size env2) (binders bs) body g)) env2 s2)) env s

pub ordered_looping : (ps qs : List Place) (bs : List Bound) (body : Meaning) (p : Place) → Bind ps bs → Ordered qs body → Ordered (ps ++ qs) (looping bs body p)
ordered_looping ps qs bs body p h g env s = by (list_any is_pattern (binders bs)) where
  by : (b : Bool) → Leaves (ps ++ qs) s (cond b (loop_over_patterns bs body p env) (loops (spread p (size env) bs) body env) s)
  by true = ordered_loop_over_patterns ps qs bs body p h g env s
  by false = loops_ordered ps qs (spread p (size env) bs) body (spread_names ps p (size env) bs h) g env s

pub ordered_loop_of : (ps qs : List Place) (o : Option (List Bound)) (body : Meaning) (p : Place) → MayBind ps o → Ordered qs body → Ordered (ps ++ qs) (loop_of o body p)
ordered_loop_of ps qs None body p h g = ordered_fail (ps ++ qs) BadForm p
ordered_loop_of ps qs (Some bs) body p h g = ordered_cond (ps ++ qs) (nat_lt 64 (length bs)) (fail_with TooMany p) (looping bs body p) (ordered_fail (ps ++ qs) TooMany p) (ordered_looping ps qs bs body p h g)

pub ordered_row_loop : (p : Place) (qs : List Part) → PartsOrdered qs → Ordered (total (blocks_of qs)) (row_loop p qs)
ordered_row_loop p [] f = ordered_fail [] BadForm p
ordered_row_loop p (b ∷ qs) f = ordered_loop_of (go_blocks_in b.form) (total (blocks_of qs)) (bindings_in b) (block (meanings qs)) p (bindings_ordered b f.0) (block_ordered qs f.1)

pub ordered_recur_of : (o : Option ℕ) (pss : List (List Place)) (ms : List Meaning) (p : Place) → AllOrdered pss ms → Ordered (total pss) (recur_of o ms p)
ordered_recur_of None pss ms p f = ordered_fail (total pss) RecurNotTail p
ordered_recur_of (Some n) pss ms p f = ordered_cond (total pss) (nat_eq (length ms) n) (operation Recur ms p) (fail_with BadArity p) (ordered_operation pss Recur ms p f) (ordered_fail (total pss) BadArity p)

pub ordered_row_recur : (p : Place) (qs : List Part) → PartsOrdered qs → Ordered (total (blocks_of qs)) (row_recur p qs)
ordered_row_recur p qs f env s = ordered_recur_of env.target (blocks_of qs) (meanings qs) p (means_ordered qs f) env s

-- a body and a `recur` behind it
pub ordered_turn : (pss : List (List Place)) (ms : List Meaning) (again : Meaning) → AllOrdered pss ms → Ordered [] again → Ordered (total pss) (block (ms ++ again ∷ []))
ordered_turn pss ms again f g = ordered_same (total (pss ++ [] ∷ [])) (total pss) (block (ms ++ again ∷ [])) (total_append pss ([] ∷ []) ∙ append-nil (total pss))
    (ordered_block (pss ++ [] ∷ []) (ms ++ again ∷ []) (all_append pss ([] ∷ []) ms (again ∷ []) f (g, tt)))

pub ordered_row_while : (p : Place) (qs : List Part) → PartsOrdered qs → Ordered (total (blocks_of qs)) (row_while p qs)
ordered_row_while p [] f = ordered_fail [] BadForm p
ordered_row_while p (c ∷ qs) f = loops_ordered [] (go_blocks_in c.form ++ total (blocks_of qs)) [] (block (iff c.means (block (meanings qs ++ operation Recur [] p ∷ [])) nothing ∷ [])) no_names
    (ordered_body (go_blocks_in c.form ++ total (blocks_of qs)) (iff c.means (block (meanings qs ++ operation Recur [] p ∷ [])) nothing)
    (short (go_blocks_in c.form) (total (blocks_of qs)) (iff c.means (block (meanings qs ++ operation Recur [] p ∷ [])) nothing)
    (ordered_iff (go_blocks_in c.form) (total (blocks_of qs)) [] c.means (block (meanings qs ++ operation Recur [] p ∷ [])) nothing f.0.means
    (ordered_turn (blocks_of qs) (meanings qs) (operation Recur [] p) (means_ordered qs f.1) (ordered_operation [] Recur [] p tt)) (ordered_constant nil))))

pub ordered_next : (i : ℕ) (p : Place) → Ordered [] (recur_with_next i p)
ordered_next i p = ordered_operation ([] ∷ []) Recur (operation (Builtin Inc) (local_name i ∷ []) p ∷ []) p
    (ordered_operation ([] ∷ []) (Builtin Inc) (local_name i ∷ []) p (ordered_local i, tt), tt)

pub ordered_counting : (pss : List (List Place)) (i : List ℕ) (n : ℕ) (ms : List Meaning) (p : Place) → AllOrdered pss ms → Ordered (total pss) (counting i n ms p)
ordered_counting pss i n ms p f env s = loops_ordered [] (total pss) (record { name = i; means = constant_number 0 } ∷ [])
    (block (iff (operation (Builtin Less) (local_name (size env) ∷ local_name n ∷ []) p) (block (ms ++ recur_with_next (size env) p ∷ [])) nothing ∷ []))
    (one_more [] [] (record { name = i; means = constant_number 0 }) [] (ordered_constant (int (pos 0))) no_names)
    (ordered_body (total pss) (iff (operation (Builtin Less) (local_name (size env) ∷ local_name n ∷ []) p) (block (ms ++ recur_with_next (size env) p ∷ [])) nothing)
    (short [] (total pss) (iff (operation (Builtin Less) (local_name (size env) ∷ local_name n ∷ []) p) (block (ms ++ recur_with_next (size env) p ∷ [])) nothing)
    (ordered_iff [] (total pss) [] (operation (Builtin Less) (local_name (size env) ∷ local_name n ∷ []) p) (block (ms ++ recur_with_next (size env) p ∷ [])) nothing
    (ordered_operation ([] ∷ [] ∷ []) (Builtin Less) (local_name (size env) ∷ local_name n ∷ []) p (ordered_local (size env), (ordered_local n, tt)))
    (ordered_turn pss ms (recur_with_next (size env) p) f (ordered_next (size env) p)) (ordered_constant nil)))) env s

pub ordered_dotimes : (ps : List Place) (pss : List (List Place)) (o : Option Named) (ms : List Meaning) (p : Place) → IfNamed ps o → AllOrdered pss ms → Ordered (ps ++ total pss) (dotimes o ms p)
ordered_dotimes ps pss None ms p h f = ordered_fail (ps ++ total pss) BadForm p
ordered_dotimes ps pss (Some i) ms p h f = ordered_hide ps (total pss) i.means (λ n. counting i.name n ms p) h (λ n. ordered_counting pss i.name n ms p f)

pub ordered_row_dotimes : (p : Place) (qs : List Part) → PartsOrdered qs → Ordered (total (blocks_of qs)) (row_dotimes p qs)
ordered_row_dotimes p [] f = ordered_fail [] BadForm p
ordered_row_dotimes p (b ∷ qs) f = ordered_dotimes (go_blocks_in b.form) (blocks_of qs) (one_bound (bindings_in b)) (meanings qs) p
    (ordered_one_bound (go_blocks_in b.form) (bindings_in b) (bindings_ordered b f.0)) (means_ordered qs f.1)

-- the items of a collection, and their count
pub ordered_items : (ps qs : List Place) (b : Bound) (body : Meaning) (p : Place) → Ordered ps b.means → Ordered qs body → Ordered (ps ++ qs) (doseq (Some (b ∷ [])) body p)
ordered_items ps qs b body p f g env s = lets_ordered ps qs
    (unnamed (operation (Builtin Items) (b.means ∷ []) p) ∷ unnamed (operation (Builtin Count) (local_name (size env) ∷ []) p) ∷ [])
    (block (counting [] (size env + 1) (letting (nth_bound b.by (size env) (size env + 2) p ∷ []) body p ∷ []) p ∷ []))
    (names_same (ps ++ []) ps _ (append-nil ps) (one_more ps [] _ _ (ordered_same (ps ++ []) ps _ (append-nil ps) (ordered_operation (ps ∷ []) (Builtin Items) (b.means ∷ []) p (f, tt)))
    (one_more [] [] _ [] (ordered_operation ([] ∷ []) (Builtin Count) (local_name (size env) ∷ []) p (ordered_local (size env), tt)) no_names)))
    (ordered_body qs (counting [] (size env + 1) (letting (nth_bound b.by (size env) (size env + 2) p ∷ []) body p ∷ []) p)
    (ordered_same (qs ++ []) qs (counting [] (size env + 1) (letting (nth_bound b.by (size env) (size env + 2) p ∷ []) body p ∷ []) p) (append-nil qs)
    (ordered_counting (qs ∷ []) [] (size env + 1) (letting (nth_bound b.by (size env) (size env + 2) p ∷ []) body p ∷ []) p
    (ordered_letting [] qs (nth_bound b.by (size env) (size env + 2) p ∷ []) body p (nth_bind (size env)) g, tt)))) env s where
      nth_bind : (h : ℕ) → Bind [] (nth_bound b.by h (h + 2) p ∷ [])
      nth_bind h = record {
        blocks = [] ∷ [];
        ordered = (ordered_operation ([] ∷ [] ∷ []) (Builtin Nth) (local_name h ∷ local_name (h + 2) ∷ []) p (ordered_local h, (ordered_local (h + 2), tt)), tt);
        are = refl;
      }

pub ordered_doseq : (ps qs : List Place) (o : Option (List Bound)) (body : Meaning) (p : Place) → MayBind ps o → Ordered qs body → Ordered (ps ++ qs) (doseq o body p)
ordered_doseq ps qs None body p h g = λ env s. tt
ordered_doseq ps qs (Some []) body p h g = λ env s. tt
ordered_doseq ps qs (Some (b ∷ [])) body p h g = by h.blocks h.ordered h.are where
  by : (pss : List (List Place)) → BoundsOrdered pss (b ∷ []) → total pss ≡ ps → Ordered (ps ++ qs) (doseq (Some (b ∷ [])) body p)
  by [] f e = absurd f
  by (rs ∷ []) f e = ordered_items ps qs b body p (ordered_same rs ps b.means (sym (append-nil rs) ∙ e) f.0) g
  by (rs ∷ ts ∷ pss) f e = absurd f.1
ordered_doseq ps qs (Some (b ∷ c ∷ bs)) body p h g = λ env s. tt

pub ordered_row_doseq : (p : Place) (qs : List Part) → PartsOrdered qs → Ordered (total (blocks_of qs)) (row_doseq p qs)
ordered_row_doseq p [] f = ordered_fail [] BadForm p
ordered_row_doseq p (b ∷ qs) f = ordered_doseq (go_blocks_in b.form) (total (blocks_of qs)) (bindings_in b) (block (meanings qs)) p (bindings_ordered b f.0) (block_ordered qs f.1)
