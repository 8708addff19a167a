-- The walk of a reduce's task.
use Rattle.std.proofs.Common.{◌≡◌, ◌≢◌, ℕ, suc, ◌<◌, ◌≤◌, List, [], ◌∷◌, ◌++◌, length, nat_lt, slice_set, refl, sym, ap, subst, ◌∙◌, arith, true, false, Option, Some, None}
use Rattle.std.specs.Prelude.{codes}
use Rattle.std.specs.Str.{bytes_eq}
use Rattle.ca_value.specs.Tree.{Tree, port}
use Rattle.ca_term.specs.declared.place.Place.{Place}
use Rattle.ca_term.specs.declared.head.Head.{Head}
use Rattle.ca_term.specs.declared.head.Head.TheVariants.{Builtin, Call}
use Rattle.ca_term.specs.Kernel.{const, var, put}
use Rattle.ca_reader.specs.Form.{form, atom, symbol}
use Rattle.ca_forms.specs.Uses.{uses}
use Rattle.ca_forms.specs.Go.{go_spawned, unmade}
use Rattle.ca_forms.specs.Outcome.{Gathered, done}
use Rattle.ca_forms.specs.Walk.{walk}
use Rattle.ca_forms.specs.Meaning.{Env, size, lookup}
use Rattle.ca_derived.specs.Rows.{reducing}
use Rattle.ca_derived_kernels.specs.WalkedReduce.{NamesHead, a_builtin, a_function, BoundReduce, reduce_text_over, ReduceStarts, ReduceWalked, behind_reduce_let, IsWritableName, ReduceBinds}
use Rattle.std.proofs.lemmas.Bool.{lt-ltb, le-ltb}
use Rattle.ca_derived_kernels.proofs.Walking.{another, newest, same, apart, longer}

module _ (i c r : ℕ) (vi vc : Tree) (q : ℕ) where
  other : (n : ℕ) → n ≢ i → n ≢ c → n ≢ r → put r (port q) (put c vc (put i vi (var n))) ≡ var n
  other n ni nc nr = rw (apart n i ni, apart n c nc, apart n r nr) refl

  first : put r (port q) (put c vc (put i vi (var i))) ≡ const vi
  first = rw (same i) refl

  second : c ≢ i → put r (port q) (put c vc (put i vi (var c))) ≡ const vc
  second ci = rw (apart c i ci, same c) refl

  third : r ≢ i → r ≢ c → put r (port q) (put c vc (put i vi (var r))) ≡ const (port q)
  third ri rc = rw (apart r i ri, apart r c rc, same r) refl

pub reduce_starts : ReduceStarts
reduce_starts f m i c r p vi vc q li lc lr ic ir cr = rw (
  other i c r vi vc q m (λ e. omega (arith, e, li)) (λ e. omega (arith, e, lc)) (λ e. omega (arith, e, lr)),
  other i c r vi vc q (suc m) (λ e. omega (arith, e, li)) (λ e. omega (arith, e, lc)) (λ e. omega (arith, e, lr)),
  first i c r vi vc q,
  second i c r vi vc q (λ e. ic (sym e)),
  third i c r vi vc q (λ e. ir (sym e)) (λ e. cr (sym e)),
) refl

module _ (env : Env) (s : List ℕ) (f : Head) (g : Gathered) (p q : Place) (i c : ℕ) (x : BoundReduce env s f i c) where
  abbrev inner_scope : List (List ℕ)
  inner_scope = env.scope ++ [] ∷ []

  abbrev loop_scope : List (List ℕ)
  loop_scope = inner_scope ++ codes "#result" ∷ []

  abbrev value_scope : List (List ℕ)
  value_scope = loop_scope ++ codes "#value" ∷ []

  at_inner : (n : List ℕ) (v : Option ℕ) → bytes_eq n [] ≡ false → lookup n env.scope ≡ v → lookup n inner_scope ≡ v
  at_inner n v e h = another n [] env.scope v e h

  at_loop : (n : List ℕ) (v : Option ℕ) → bytes_eq n [] ≡ false → bytes_eq n (codes "#result") ≡ false → lookup n env.scope ≡ v → lookup n loop_scope ≡ v
  at_loop n v e k h = another n (codes "#result") inner_scope v k (at_inner n v e h)

  at_value : (n : List ℕ) (v : Option ℕ) → bytes_eq n [] ≡ false → bytes_eq n (codes "#result") ≡ false → bytes_eq n (codes "#value") ≡ false → lookup n env.scope ≡ v → lookup n value_scope ≡ v
  at_value n v e k l h = another n (codes "#value") loop_scope v l (at_loop n v e k h)

  result_at_value : lookup (codes "#result") value_scope ≡ Some (length inner_scope)
  result_at_value = another (codes "#result") (codes "#value") loop_scope (Some (length inner_scope)) refl (newest (codes "#result") inner_scope refl)

  value_at_value : lookup (codes "#value") value_scope ≡ Some (length loop_scope)
  value_at_value = newest (codes "#value") loop_scope refl

  m_is : length inner_scope ≡ suc (length env.scope)
  m_is = longer env.scope []

  v_is : length loop_scope ≡ suc (suc (length env.scope))
  v_is = longer inner_scope (codes "#result") ∙ ap suc m_is

  below : (n : ℕ) → n < length env.scope → nat_lt n (length env.scope) ≡ true
  below n h = lt-ltb n (length env.scope) h

  above : (n : ℕ) → length env.scope ≤ n → nat_lt n (length env.scope) ≡ false
  above n h = le-ltb n (length env.scope) h

  module _ (li : i < length env.scope) (lc : c < length env.scope) (ic : i ≢ c) where
    uses_are : (h : Head) → uses (length env.scope) (reduce_text_over h (suc (length env.scope)) i c (length env.scope) p) [] ≡ i ∷ c ∷ []
    uses_are h = rw (above (suc (length env.scope)) (omega arith), above (suc (suc (length env.scope))) (omega arith), above (length env.scope) (omega arith), below i li, below c lc, apart c i (λ e. ic (sym e))) refl

    abbrev Walked : Head → Type 0
    Walked h = walk (reducing p (form (atom (symbol s)) q)) env g
        ≡ done (go_spawned (length g.bodies) (size env) (i ∷ c ∷ []) p)
        (record g { bodies = slice_set (g.bodies ++ unmade ∷ []) (length g.bodies) (record { parameters = i ∷ c ∷ size env ∷ []; body = reduce_text_over h (suc (size env)) i c (size env) p }) })

    walked : NamesHead env s f → Walked f
    walked (a_builtin b fb free is two) = subst Walked (sym fb) (rw (
      at_inner (codes "#initial") (Some i) refl x.initial,
      at_loop (codes "#channel") (Some c) refl refl x.channel,
      at_value (codes "nil?") None refl refl refl x.is_nil,
      x.is_nil_free,
      value_at_value,
      result_at_value,
      x.no_form,
      at_value s None x.written x.no_result x.no_value x.plain,
      free,
      is,
      two,
      result_at_value,
      value_at_value,
      m_is,
      v_is,
      uses_are (Builtin b),
    ) refl)
    walked (a_function n k fn is two none) = subst Walked (sym fn) (rw (
      at_inner (codes "#initial") (Some i) refl x.initial,
      at_loop (codes "#channel") (Some c) refl refl x.channel,
      at_value (codes "nil?") None refl refl refl x.is_nil,
      x.is_nil_free,
      value_at_value,
      result_at_value,
      x.no_form,
      at_value s None x.written x.no_result x.no_value x.plain,
      is,
      two,
      none,
      result_at_value,
      value_at_value,
      m_is,
      v_is,
      uses_are (Call n),
    ) refl)

pub reduce_walked : ReduceWalked
reduce_walked env s f g p q i c x li lc ic = walked env s f g p q i c x li lc ic x.names

pub reduce_binds : ReduceBinds
reduce_binds env s f is_nil is_nil_free plain no_form written outside names = record {
  initial = another (codes "#initial") (codes "#channel") one (Some (length env.scope)) refl (newest (codes "#initial") env.scope refl);
  channel = newest (codes "#channel") one refl ∙ ap (λ n. Some n) (longer env.scope (codes "#initial"));
  is_nil = past (codes "nil?") refl refl is_nil;
  is_nil_free = is_nil_free;
  plain = past s (outside (codes "initial")) (outside (codes "channel")) plain;
  no_form = no_form;
  written = written;
  no_result = outside (codes "result");
  no_value = outside (codes "value");
  names = by names;
} where
  one : List (List ℕ)
  one = env.scope ++ codes "#initial" ∷ []

  past : (x : List ℕ) → bytes_eq x (codes "#initial") ≡ false → bytes_eq x (codes "#channel") ≡ false → lookup x env.scope ≡ None → lookup x (one ++ codes "#channel" ∷ []) ≡ None
  past x e f h = another x (codes "#channel") one None f (another x (codes "#initial") env.scope None e h)

  by : NamesHead env s f → NamesHead (behind_reduce_let env) s f
  by (a_builtin b e h j k) = a_builtin b e h j k
  by (a_function n g e h j k) = a_function n g e h j k
