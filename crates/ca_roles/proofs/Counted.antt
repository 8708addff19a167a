-- A value that is put in for a name counts as the name did.
use Rattle.std.proofs.Common.{◌≡◌, ◌≢◌, ℕ, ◌+◌, ◌≤◌, arith, refl, sym, ap, ap₂, ◌∙◌, Bool, true, false, cond, ◌==◌, eqb-true}
use Rattle.ca_value.specs.Tree.{Tree}
use Rattle.ca_term.specs.declared.head.Head.{Head}
use Rattle.ca_term.specs.Kernel.{Kernel, Kernels, Bindings, const, var, branch, bind, loop, seq, frame, turn, apply, none, item, empty, binding, put, put_items, put_bindings}
use Rattle.ca_roles.specs.Once.{User, the_feed, the_collect, the_mult, user_of, is_user, Test, known, is_in, stands_for_port, holds_of_first, behind_first, own_operand, one_if, node, use_count, uses_all, uses_behind}

pub at_most : (n : ℕ) → n ≡ 0 → n ≤ 1
at_most n e = omega (arith, e)

-- the term doesn't bind the name
abbrev mutual
  pub Unbound : ℕ → Kernel → Type 0
  Unbound m (const v) = Unit {0}
  Unbound m (var n) = Unit {0}
  Unbound m (branch c a b) = Unbound m c × Unbound m a × Unbound m b
  Unbound m (bind bs body) = UnboundIn m bs × Unbound m body
  Unbound m (loop fs bs body) = UnboundIn m bs × Unbound m body
  Unbound m (seq ts) = AllUnbound m ts
  Unbound m (frame body) = Unit {0}
  Unbound m (turn ns again now) = Unit {0}
  Unbound m (apply h ts p) = AllUnbound m ts

  pub AllUnbound : ℕ → Kernels → Type 0
  AllUnbound m none = Unit {0}
  AllUnbound m (item t ts) = Unbound m t × AllUnbound m ts

  pub UnboundIn : ℕ → Bindings → Type 0
  UnboundIn m empty = Unit {0}
  UnboundIn m (binding n t bs) = (n ≢ m) × Unbound m t × UnboundIn m bs

-- the order in which two names become known
pub known_swap : (N : Test) (m n : ℕ) (b c : Bool) → n ≢ m → (i : ℕ) → known (known N n c) m b i ≡ known (known N m b) n c i
known_swap N m n b c ne i = by (i == m) (i == n) refl refl where
  by : (x y : Bool) → (i == m) ≡ x → (i == n) ≡ y → cond x b (cond y c (N i)) ≡ cond y c (cond x b (N i))
  by true true e f = absurd (ne (sym (eqb-true i n f) ∙ eqb-true i m e))
  by true false e f = refl
  by false true e f = refl
  by false false e f = refl

module _ (k : User) (P : Test) (m : ℕ) (v : Tree) where
  abbrev pub with_it : Test → Test
  with_it N = known N m (is_in P v)

  pub put_stands : (N : Test) (t : Kernel) → stands_for_port P N (put m v t) ≡ stands_for_port P (with_it N) t
  put_stands N (const w) = refl
  put_stands N (var n) = by (n == m) where
    by : (b : Bool) → stands_for_port P N (cond b (const v) (var n)) ≡ cond b (is_in P v) (N n)
    by true = refl
    by false = refl
  put_stands N (branch c a b) = refl
  put_stands N (bind bs body) = refl
  put_stands N (loop fs bs body) = refl
  put_stands N (seq ts) = refl
  put_stands N (frame body) = refl
  put_stands N (turn ns again now) = refl
  put_stands N (apply h ts p) = refl

  put_first : (N : Test) (ts : Kernels) → holds_of_first (stands_for_port P N) (put_items m v ts) ≡ holds_of_first (stands_for_port P (with_it N)) ts
  put_first N none = refl
  put_first N (item t ts) = put_stands N t

  put_behind : (f g : Kernels → Bool) → ((ts : Kernels) → f (put_items m v ts) ≡ g ts) → (ts : Kernels) → behind_first f (put_items m v ts) ≡ behind_first g ts
  put_behind f g e none = refl
  put_behind f g e (item t ts) = e ts

  put_third : (N : Test) (ts : Kernels) → behind_first (behind_first (holds_of_first (stands_for_port P N))) (put_items m v ts) ≡ behind_first (behind_first (holds_of_first (stands_for_port P (with_it N)))) ts
  put_third N ts = put_behind (behind_first (holds_of_first (stands_for_port P N))) (behind_first (holds_of_first (stands_for_port P (with_it N)))) (put_behind (holds_of_first (stands_for_port P N)) (holds_of_first (stands_for_port P (with_it N))) (put_first N)) ts

  put_own : (j : User) (N : Test) (ts : Kernels) → own_operand j (stands_for_port P N) (put_items m v ts) ≡ own_operand j (stands_for_port P (with_it N)) ts
  put_own the_feed N ts = put_third N ts
  put_own the_collect N ts = put_first N ts
  put_own the_mult N ts = put_third N ts

  put_node : (N : Test) (h : Head) (ts : Kernels) → node k P N h (put_items m v ts) ≡ node k P (with_it N) h ts
  put_node N h ts = ap (λ b. cond (is_user k (user_of h)) (one_if b) 0) (put_own k N ts)

  mutual
    pub put_uses : (t : Kernel) (N : Test) → Unbound m t → use_count k P (put m v t) N ≡ use_count k P t (with_it N)
    put_uses (const w) N u = refl
    put_uses (var n) N u = by (n == m) where
      by : (b : Bool) → use_count k P (cond b (const v) (var n)) N ≡ 0
      by true = refl
      by false = refl
    put_uses (branch c a b) N u = ap₂ (λ x y. x + y) (ap₂ (λ x y. x + y) (put_uses c N u.0) (put_uses a N u.1)) (put_uses b N u.2)
    put_uses (bind bs body) N u = put_uses_behind bs N (use_count k P (put m v body)) (use_count k P body) u.0 (λ M. put_uses body M u.1)
    put_uses (loop fs bs body) N u = put_uses_behind bs N (λ M. use_count k P (put m v body) M + use_count k P (put m v body) M) (λ M. use_count k P body M + use_count k P body M) u.0 (λ M. ap₂ (λ x y. x + y) (put_uses body M u.1) (put_uses body M u.1))
    put_uses (seq ts) N u = put_uses_all ts N u
    put_uses (frame body) N u = refl
    put_uses (turn ns again now) N u = refl
    put_uses (apply h ts p) N u = ap₂ (λ x y. x + y) (put_node N h ts) (put_uses_all ts N u)

    put_uses_all : (ts : Kernels) (N : Test) → AllUnbound m ts → uses_all k P (put_items m v ts) N ≡ uses_all k P ts (with_it N)
    put_uses_all none N u = refl
    put_uses_all (item t ts) N u = ap₂ (λ x y. x + y) (put_uses t N u.0) (put_uses_all ts N u.1)

    pub put_uses_behind : (bs : Bindings) (N : Test) (K L : Test → ℕ) → UnboundIn m bs → ((M : Test) → K M ≡ L (with_it M)) → uses_behind k P (put_bindings m v bs) N K ≡ uses_behind k P bs (with_it N) L
    put_uses_behind empty N K L u f = f N
    put_uses_behind (binding n t bs) N K L u f = ap₂ (λ x y. x + y) (put_uses t N u.1)
        (put_uses_behind bs (known N n (stands_for_port P N (put m v t))) K L u.2 f ∙ ap (λ (M : Test). uses_behind k P bs M L) (same ∙ ap (known (with_it N) n) (put_stands N t))) where
          same : with_it (known N n (stands_for_port P N (put m v t))) ≡ known (with_it N) n (stands_for_port P N (put m v t))
          same = λ i j. known_swap N m n (is_in P v) (stands_for_port P N (put m v t)) u.0 j i
