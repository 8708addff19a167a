-- The walk of a split's task.
use Rattle.std.proofs.Common.{append-nil, ◌≡◌, ◌≢◌, ℕ, suc, ◌<◌, ◌≤◌, List, [], ◌∷◌, ◌++◌, length, nat_lt, slice_set, refl, sym, ap, ◌∙◌, subst, arith, true, false, Option, Some, None}
use Rattle.std.specs.Prelude.{codes}
use Rattle.std.specs.Str.{bytes_eq}
use Rattle.std.proofs.lemmas.Bool.{lt-ltb, le-ltb}
use Rattle.ca_value.specs.Tree.{Tree, key}
use Rattle.ca_value.specs.declared.builtin.Builtin.TheVariants.{Get}
use Rattle.ca_term.specs.declared.place.Place.{Place}
use Rattle.ca_term.specs.declared.head.Head.{Head}
use Rattle.ca_term.specs.declared.head.Head.TheVariants.{Builtin, Call}
use Rattle.ca_reader.specs.Form.{FormTree, form, atom, symbol}
use Rattle.ca_forms.specs.Uses.{uses}
use Rattle.ca_forms.specs.Go.{go_spawned, unmade}
use Rattle.ca_forms.specs.Outcome.{Gathered, done}
use Rattle.ca_forms.specs.Walk.{walk}
use Rattle.ca_forms.specs.Meaning.{Env, size, lookup}
use Rattle.ca_derived.specs.Rows.{parting}
use Rattle.ca_derived_kernels.specs.WalkedReduce.{IsWritableName}
use Rattle.ca_derived_kernels.specs.WalkedSplit.{IsFreeName, Tests, by_builtin, by_function, by_keyword, BoundSplit, split_text_over, SplitStarts, SplitWalked, behind_split_let, SplitBinds}
use Rattle.ca_derived_kernels.proofs.Walking.{another, newest, same, apart, longer, other, first, second, third, fourth}

pub split_starts : SplitStarts
split_starts f None m c t u r p vc vt vu q lc lt lu lr ct cu tu cr tr ur = rw (
  other c t u r vc vt vu q m (λ e. omega (arith, e, lc)) (λ e. omega (arith, e, lt)) (λ e. omega (arith, e, lu)) (λ e. omega (arith, e, lr)),
  first c t u r vc vt vu q,
  second c t u r vc vt vu q (λ e. ct (sym e)),
  third c t u r vc vt vu q (λ e. cu (sym e)) (λ e. tu (sym e)),
  fourth c t u r vc vt vu q (λ e. cr (sym e)) (λ e. tr (sym e)) (λ e. ur (sym e)),
) refl
split_starts f (Some k) m c t u r p vc vt vu q lc lt lu lr ct cu tu cr tr ur = rw (
  other c t u r vc vt vu q m (λ e. omega (arith, e, lc)) (λ e. omega (arith, e, lt)) (λ e. omega (arith, e, lu)) (λ e. omega (arith, e, lr)),
  first c t u r vc vt vu q,
  second c t u r vc vt vu q (λ e. ct (sym e)),
  third c t u r vc vt vu q (λ e. cu (sym e)) (λ e. tu (sym e)),
  fourth c t u r vc vt vu q (λ e. cr (sym e)) (λ e. tr (sym e)) (λ e. ur (sym e)),
) refl

module _ (env : Env) (q : FormTree) (f : Head) (o : Option Tree) (g : Gathered) (p : Place) (c t u : ℕ) (x : BoundSplit env q f o c t u) where
  abbrev inner_scope : List (List ℕ)
  inner_scope = env.scope ++ [] ∷ []

  abbrev value_scope : List (List ℕ)
  value_scope = inner_scope ++ codes "#value" ∷ []

  at_inner : (n : List ℕ) (v : Option ℕ) → bytes_eq n [] ≡ false → lookup n env.scope ≡ v → lookup n inner_scope ≡ v
  at_inner n v e h = another n [] env.scope v e h

  at_value : (n : List ℕ) (v : Option ℕ) → bytes_eq n [] ≡ false → bytes_eq n (codes "#value") ≡ false → lookup n env.scope ≡ v → lookup n value_scope ≡ v
  at_value n v e k h = another n (codes "#value") inner_scope v k (at_inner n v e h)

  value_at_value : lookup (codes "#value") value_scope ≡ Some (length inner_scope)
  value_at_value = newest (codes "#value") inner_scope refl

  m_is : length inner_scope ≡ suc (length env.scope)
  m_is = longer env.scope []

  below : (n : ℕ) → n < length env.scope → nat_lt n (length env.scope) ≡ true
  below n h = lt-ltb n (length env.scope) h

  above : (n : ℕ) → length env.scope ≤ n → nat_lt n (length env.scope) ≡ false
  above n h = le-ltb n (length env.scope) h

  module _ (lc : c < length env.scope) (lt : t < length env.scope) (lu : u < length env.scope) (ct : c ≢ t) (cu : c ≢ u) (tu : t ≢ u) where
    uses_are : (h : Head) (k : Option Tree) → uses (length env.scope) (split_text_over h k (suc (length env.scope)) c t u (length env.scope) p) [] ≡ c ∷ t ∷ u ∷ []
    uses_are h None = rw (
      above (suc (length env.scope)) (omega arith),
      above (length env.scope) (omega arith),
      below c lc,
      below t lt,
      below u lu,
      apart t c (λ e. ct (sym e)),
      apart u c (λ e. cu (sym e)),
      apart u t (λ e. tu (sym e)),
      same t,
      apart t c (λ e. ct (sym e)),
      same u,
      apart u c (λ e. cu (sym e)),
      apart u t (λ e. tu (sym e)),
    ) refl
    uses_are h (Some k) = rw (
      above (suc (length env.scope)) (omega arith),
      above (length env.scope) (omega arith),
      below c lc,
      below t lt,
      below u lu,
      apart t c (λ e. ct (sym e)),
      apart u c (λ e. cu (sym e)),
      apart u t (λ e. tu (sym e)),
      same t,
      apart t c (λ e. ct (sym e)),
      same u,
      apart u c (λ e. cu (sym e)),
      apart u t (λ e. tu (sym e)),
    ) refl

    abbrev Walked : Head → Option Tree → FormTree → Type 0
    Walked h k z = walk (parting p z) env g
        ≡ done (go_spawned (length g.bodies) (size env) (c ∷ t ∷ u ∷ []) p)
        (record g { bodies = slice_set (g.bodies ++ unmade ∷ []) (length g.bodies) (record { parameters = c ∷ t ∷ u ∷ size env ∷ []; body = split_text_over h k (suc (size env)) c t u (size env) p }) })

    walked : Tests env q f o → Walked f o q
    walked (by_builtin s z b qs fb oo free none is one) = subst (λ h. Walked h o q) (sym fb) (subst (λ k. Walked (Builtin b) k q) (sym oo) (subst (Walked (Builtin b) None) (sym qs)
        (rw (
          append-nil inner_scope,
          at_inner (codes "#channel") (Some c) refl x.channel,
          at_value (codes "nil?") None refl refl x.is_nil,
          x.is_nil_free,
          value_at_value,
          at_value (codes "#true") (Some t) refl refl x.yes,
          at_value (codes "#false") (Some u) refl refl x.no,
          free.no_form,
          at_value s None free.written free.no_value free.plain,
          none,
          is,
          one,
          value_at_value,
          m_is,
          uses_are (Builtin b) None,
        ) refl)))
    walked (by_function s z n i qs fn oo free is one none) = subst (λ h. Walked h o q) (sym fn) (subst (λ k. Walked (Call n) k q) (sym oo) (subst (Walked (Call n) None) (sym qs)
        (rw (
          append-nil inner_scope,
          at_inner (codes "#channel") (Some c) refl x.channel,
          at_value (codes "nil?") None refl refl x.is_nil,
          x.is_nil_free,
          value_at_value,
          at_value (codes "#true") (Some t) refl refl x.yes,
          at_value (codes "#false") (Some u) refl refl x.no,
          free.no_form,
          at_value s None free.written free.no_value free.plain,
          is,
          one,
          none,
          value_at_value,
          m_is,
          uses_are (Call n) None,
        ) refl)))
    walked (by_keyword s z qs fb oo short) = subst (λ h. Walked h o q) (sym fb) (subst (λ k. Walked (Builtin Get) k q) (sym oo) (subst (Walked (Builtin Get) (Some (key s))) (sym qs)
        (rw (
          append-nil inner_scope,
          at_inner (codes "#channel") (Some c) refl x.channel,
          at_value (codes "nil?") None refl refl x.is_nil,
          x.is_nil_free,
          value_at_value,
          at_value (codes "#true") (Some t) refl refl x.yes,
          at_value (codes "#false") (Some u) refl refl x.no,
          short,
          value_at_value,
          m_is,
          uses_are (Builtin Get) (Some (key s)),
        ) refl)))

pub split_walked : SplitWalked
split_walked env q f o g p c t u x lc lt lu ct cu tu = walked env q f o g p c t u x lc lt lu ct cu tu x.tests

pub split_binds : SplitBinds
split_binds env q f o is_nil is_nil_free outside tests = record {
  channel = another (codes "#channel") (codes "#false") two (Some (length env.scope)) refl (another (codes "#channel") (codes "#true") one (Some (length env.scope)) refl (newest (codes "#channel") env.scope refl));
  yes = another (codes "#true") (codes "#false") two (Some (suc (length env.scope))) refl (newest (codes "#true") one refl ∙ ap (λ n. Some n) (longer env.scope (codes "#channel")));
  no = newest (codes "#false") two refl ∙ ap (λ n. Some n) (longer one (codes "#true") ∙ ap suc (longer env.scope (codes "#channel")));
  is_nil = past (codes "nil?") refl refl refl is_nil;
  is_nil_free = is_nil_free;
  tests = by tests;
} where
  one : List (List ℕ)
  one = env.scope ++ codes "#channel" ∷ []

  two : List (List ℕ)
  two = one ++ codes "#true" ∷ []

  past : (x : List ℕ) → bytes_eq x (codes "#channel") ≡ false → bytes_eq x (codes "#true") ≡ false → bytes_eq x (codes "#false") ≡ false → lookup x env.scope ≡ None → lookup x (two ++ codes "#false" ∷ []) ≡ None
  past x e g h k = another x (codes "#false") two None h (another x (codes "#true") one None g (another x (codes "#channel") env.scope None e k))

  free : (s : List ℕ) → IsWritableName s → IsFreeName env s → IsFreeName (behind_split_let env) s
  free s w n = record { plain = past s (w (codes "channel")) (w (codes "true")) (w (codes "false")) n.plain; no_form = n.no_form; written = n.written; no_value = n.no_value }

  by : Tests env q f o → Tests (behind_split_let env) q f o
  by (by_builtin s p b e h i n j k l) = by_builtin s p b e h i (free s (outside s p e) n) j k l
  by (by_function s p m g e h i n j k l) = by_function s p m g e h i (free s (outside s p e) n) j k l
  by (by_keyword s p e h i j) = by_keyword s p e h i j
