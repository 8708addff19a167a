-- The walk of a take's go form.
use Rattle.std.proofs.Common.{◌≡◌, ◌≢◌, ℕ, suc, ◌<◌, ◌≤◌, ◌+◌, List, [], ◌∷◌, ◌++◌, length, nat_lt, slice_set, refl, sym, ap, ◌∙◌, arith, true, false, cond, ◌==◌, Option, Some, None, eq-eqb, ne_eqb}
use Rattle.std.specs.Prelude.{codes}
use Rattle.std.specs.Str.{bytes_eq}
use Rattle.std.proofs.lemmas.Bool.{lt-ltb, le-ltb}
use Rattle.ca_forms.specs.Uses.{uses}
use Rattle.ca_forms.specs.Go.{go_spawned, unmade}
use Rattle.ca_value.specs.Tree.{Tree, port}
use Rattle.ca_term.specs.Kernel.{const, var, put}
use Rattle.ca_term.specs.declared.place.Place.{Place}
use Rattle.ca_forms.specs.Outcome.{Gathered, done}
use Rattle.ca_forms.specs.Walk.{walk}
use Rattle.ca_derived.specs.Rows.{task_of_take}
use Rattle.ca_forms.specs.Meaning.{Env, size, lookup, last_position}
use Rattle.ca_derived_kernels.specs.Walked.{TakeNamesBound, take_text_over, TextsStart, TakesWalked, TakeBinds}

-- the innermost name is the last one
last_more : (x y : List ℕ) (ys : List (List ℕ)) (i : ℕ) (best : Option ℕ) → last_position x (ys ++ y ∷ []) i best ≡ cond (bytes_eq x y) (Some (i + length ys)) (last_position x ys i best)
last_more x y [] i best = ap (λ n. cond (bytes_eq x y) (Some n) best) (let k : i ≡ i + 0 = omega arith in k)
last_more x y (z ∷ zs) i best = last_more x y zs (suc i) (cond (bytes_eq x z) (Some i) best) ∙ ap (λ n. cond (bytes_eq x y) (Some n) (last_position x zs (suc i) (cond (bytes_eq x z) (Some i) best))) (let k : suc i + length zs ≡ i + suc (length zs) = omega arith in k)

pub another : (x y : List ℕ) (ys : List (List ℕ)) (o : Option ℕ) → bytes_eq x y ≡ false → lookup x ys ≡ o → lookup x (ys ++ y ∷ []) ≡ o
another x y ys o e h = last_more x y ys 0 None ∙ ap (λ b. cond b (Some (0 + length ys)) (lookup x ys)) e ∙ h

pub newest : (x : List ℕ) (ys : List (List ℕ)) → bytes_eq x x ≡ true → lookup x (ys ++ x ∷ []) ≡ Some (length ys)
newest x ys e = last_more x x ys 0 None ∙ ap (λ b. cond b (Some (0 + length ys)) (lookup x ys)) e ∙ ap (λ n. Some n) (let k : 0 + length ys ≡ length ys = omega arith in k)

pub same : (m : ℕ) → (m == m) ≡ true
same m = eq-eqb m m refl

pub apart : (m n : ℕ) → m ≢ n → (m == n) ≡ false
apart m n e = ne_eqb m n e

module _ (b c o r : ℕ) (vb vc vo : Tree) (q : ℕ) where
  pub other : (n : ℕ) → n ≢ b → n ≢ c → n ≢ o → n ≢ r → put r (port q) (put o vo (put c vc (put b vb (var n)))) ≡ var n
  other n nb nc nx nr = rw (apart n b nb, apart n c nc, apart n o nx, apart n r nr) refl

  pub first : put r (port q) (put o vo (put c vc (put b vb (var b)))) ≡ const vb
  first = rw (same b) refl

  pub second : c ≢ b → put r (port q) (put o vo (put c vc (put b vb (var c)))) ≡ const vc
  second cb = rw (apart c b cb, same c) refl

  pub third : o ≢ b → o ≢ c → put r (port q) (put o vo (put c vc (put b vb (var o)))) ≡ const vo
  third ob oc = rw (apart o b ob, apart o c oc, same o) refl

  pub fourth : r ≢ b → r ≢ c → r ≢ o → put r (port q) (put o vo (put c vc (put b vb (var r)))) ≡ const (port q)
  fourth rb rc ro = rw (apart r b rb, apart r c rc, apart r o ro, same r) refl

pub texts_start : TextsStart
texts_start m b c o r p vb vc vo q lb lc lo lr bc bo co br cr or = rw (
  other b c o r vb vc vo q m (λ e. omega (arith, e, lb)) (λ e. omega (arith, e, lc)) (λ e. omega (arith, e, lo)) (λ e. omega (arith, e, lr)),
  other b c o r vb vc vo q (suc m) (λ e. omega (arith, e, lb)) (λ e. omega (arith, e, lc)) (λ e. omega (arith, e, lo)) (λ e. omega (arith, e, lr)),
  other b c o r vb vc vo q (suc (suc m)) (λ e. omega (arith, e, lb)) (λ e. omega (arith, e, lc)) (λ e. omega (arith, e, lo)) (λ e. omega (arith, e, lr)),
  first b c o r vb vc vo q,
  second b c o r vb vc vo q (λ e. bc (sym e)),
  third b c o r vb vc vo q (λ e. bo (sym e)) (λ e. co (sym e)),
  fourth b c o r vb vc vo q (λ e. br (sym e)) (λ e. cr (sym e)) (λ e. or (sym e)),
) refl

pub longer : (ys : List (List ℕ)) (y : List ℕ) → length (ys ++ y ∷ []) ≡ suc (length ys)
longer [] y = refl
longer (z ∷ zs) y = ap suc (longer zs y)

module _ (env : Env) (s : Gathered) (p : Place) (b c o : ℕ) (x : TakeNamesBound env b c o) where
  abbrev inner_scope : List (List ℕ)
  inner_scope = env.scope ++ [] ∷ []

  abbrev loop_scope : List (List ℕ)
  loop_scope = inner_scope ++ codes "#count" ∷ []

  abbrev hidden_scope : List (List ℕ)
  hidden_scope = loop_scope ++ [] ∷ []

  abbrev value_scope : List (List ℕ)
  value_scope = hidden_scope ++ codes "#value" ∷ []

  at_inner : (n : List ℕ) (v : Option ℕ) → bytes_eq n [] ≡ false → lookup n env.scope ≡ v → lookup n inner_scope ≡ v
  at_inner n v e h = another n [] env.scope v e h

  at_loop : (n : List ℕ) (v : Option ℕ) → bytes_eq n [] ≡ false → bytes_eq n (codes "#count") ≡ false → lookup n env.scope ≡ v → lookup n loop_scope ≡ v
  at_loop n v e f h = another n (codes "#count") inner_scope v f (at_inner n v e h)

  at_value : (n : List ℕ) (v : Option ℕ) → bytes_eq n [] ≡ false → bytes_eq n (codes "#value") ≡ false → lookup n loop_scope ≡ v → lookup n value_scope ≡ v
  at_value n v e f h = another n (codes "#value") hidden_scope v f (another n [] loop_scope v e h)

  count_at_loop : lookup (codes "#count") loop_scope ≡ Some (length inner_scope)
  count_at_loop = newest (codes "#count") inner_scope refl

  count_at_value : lookup (codes "#count") value_scope ≡ Some (length inner_scope)
  count_at_value = at_value (codes "#count") (Some (length inner_scope)) refl refl count_at_loop

  value_at_value : lookup (codes "#value") value_scope ≡ Some (length hidden_scope)
  value_at_value = newest (codes "#value") hidden_scope refl

  m_is : length inner_scope ≡ suc (length env.scope)
  m_is = longer env.scope []

  h_is : length loop_scope ≡ suc (suc (length env.scope))
  h_is = longer inner_scope (codes "#count") ∙ ap suc m_is

  v_is : length hidden_scope ≡ suc (suc (suc (length env.scope)))
  v_is = longer loop_scope [] ∙ ap suc h_is

  below : (n : ℕ) → n < length env.scope → nat_lt n (length env.scope) ≡ true
  below n h = lt-ltb n (length env.scope) h

  above : (n : ℕ) → length env.scope ≤ n → nat_lt n (length env.scope) ≡ false
  above n h = le-ltb n (length env.scope) h

  module _ (lb : b < length env.scope) (lc : c < length env.scope) (lo : o < length env.scope) (bc : b ≢ c) (bo : b ≢ o) (co : c ≢ o) where
    uses_are : uses (length env.scope) (take_text_over (suc (length env.scope)) b c o (length env.scope) p) [] ≡ b ∷ c ∷ o ∷ []
    uses_are = rw (
      above (suc (length env.scope)) (omega arith),
      above (suc (suc (length env.scope))) (omega arith),
      above (suc (suc (suc (length env.scope)))) (omega arith),
      above (length env.scope) (omega arith),
      below b lb,
      below c lc,
      below o lo,
      apart c b (λ e. bc (sym e)),
      apart o b (λ e. bo (sym e)),
      apart o c (λ e. co (sym e)),
      same o,
      apart o b (λ e. bo (sym e)),
      apart o c (λ e. co (sym e)),
    ) refl

    pub walked : walk (task_of_take p) env s
        ≡ done (go_spawned (length s.bodies) (size env) (b ∷ c ∷ o ∷ []) p)
        (record s { bodies = slice_set (s.bodies ++ unmade ∷ []) (length s.bodies) (record { parameters = b ∷ c ∷ o ∷ size env ∷ []; body = take_text_over (suc (size env)) b c o (size env) p }) })
    walked = rw (
      at_loop (codes "<") None refl refl x.less,
      x.less_free,
      count_at_loop,
      at_loop (codes "#bound") (Some b) refl refl x.bound,
      at_loop (codes "#channel") (Some c) refl refl x.channel,
      at_value (codes "#out") (Some o) refl refl (at_loop (codes "#out") (Some o) refl refl x.out),
      value_at_value,
      at_value (codes "inc") None refl refl (at_loop (codes "inc") None refl refl x.inc),
      x.inc_free,
      count_at_value,
      at_inner (codes "#out") (Some o) refl x.out,
      m_is,
      h_is,
      v_is,
      uses_are,
    ) refl

pub takes_walked : TakesWalked
takes_walked env s p b c o x lb lc lo bc bo co = walked env s p b c o x lb lc lo bc bo co

pub take_binds : TakeBinds
take_binds env less inc less_free inc_free = record {
  bound = another (codes "#bound") (codes "#out") two (Some (length env.scope)) refl (another (codes "#bound") (codes "#channel") one (Some (length env.scope)) refl (newest (codes "#bound") env.scope refl));
  channel = another (codes "#channel") (codes "#out") two (Some (suc (length env.scope))) refl (newest (codes "#channel") one refl ∙ ap (λ n. Some n) (longer env.scope (codes "#bound")));
  out = newest (codes "#out") two refl ∙ ap (λ n. Some n) (longer one (codes "#channel") ∙ ap suc (longer env.scope (codes "#bound")));
  less = past (codes "<") refl refl refl less;
  inc = past (codes "inc") refl refl refl inc;
  less_free = less_free;
  inc_free = inc_free;
} where
  one : List (List ℕ)
  one = env.scope ++ codes "#bound" ∷ []

  two : List (List ℕ)
  two = one ++ codes "#channel" ∷ []

  past : (x : List ℕ) → bytes_eq x (codes "#bound") ≡ false → bytes_eq x (codes "#channel") ≡ false → bytes_eq x (codes "#out") ≡ false → lookup x env.scope ≡ None → lookup x (two ++ codes "#out" ∷ []) ≡ None
  past x e f g h = another x (codes "#out") two None g (another x (codes "#channel") one None f (another x (codes "#bound") env.scope None e h))
