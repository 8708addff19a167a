-- Values that are none of the ports, put in for names: nothing more can be started.
use Rattle.std.proofs.Common.{◌≡◌, ℕ, ◌+◌, List, [], ◌∷◌, refl, sym, ap, ap₂, ◌∙◌, Bool, true, false, cond, ◌==◌, eqb-true, Some}
use Rattle.std.proofs.Math.Path.{fun_ext}
use Rattle.ca_value.specs.Tree.{Tree, nil, bool, int, text, key, vector, map, port}
use Rattle.ca_term.specs.Kernel.{Kernel, Bindings, Founds, empty, binding, put, put_bindings, puts}
use Rattle.ca_meaning.specs.Started.{named}
use Rattle.ca_meaning.specs.Sound.{Each}
use Rattle.ca_meaning.proofs.Waits.{each-weaker}
use Rattle.ca_roles.specs.Roles.{public, Roles, no_roles, IsPublic}
use Rattle.ca_roles.specs.Once.{User, Test, no_names, known, is_in, stands_for_port, use_count, uses_behind}
use Rattle.ca_roles.proofs.Counted.{Unbound, UnboundIn, put_stands, put_uses}
use Rattle.ca_roles.proofs.Unused.{not_true, known_else}
use Rattle.ca_roles.proofs.Unbinding.{put_unbound}

-- none of the ports is public
abbrev pub NonePublic : Test → Roles → Type 0
NonePublic P roles = (n : ℕ) → P n ≡ true → roles n ≡ Some public → ⊥

-- so a public value is none of them
pub public_apart : (P : Test) (roles : Roles) → NonePublic P roles → (v : Tree) → IsPublic roles v → is_in P v ≡ false
public_apart P roles a (port n) h = not_true (P n) (λ e. a n e h)
public_apart P roles a nil h = refl
public_apart P roles a (bool b) h = refl
public_apart P roles a (int z) h = refl
public_apart P roles a (text s) h = refl
public_apart P roles a (key s) h = refl
public_apart P roles a (vector vs) h = refl
public_apart P roles a (map ps) h = refl

pub apart_known : (N : Test) (n : ℕ) → N n ≡ false → known N n false ≡ N
apart_known N n e = fun_ext (λ m. by m (m == n) refl) where
  by : (m : ℕ) (b : Bool) → (m == n) ≡ b → cond (m == n) false (N m) ≡ N m
  by m true i = ap (λ b. cond b false (N m)) i ∙ sym (ap N (eqb-true m n i) ∙ e)
  by m false i = ap (λ b. cond b false (N m)) i

abbrev pub Apart : Test → Founds → Type 0
Apart P fs = Each (λ (f : ℕ × Tree). is_in P f.1 ≡ false) fs

abbrev pub AreUnbound : Founds → Kernel → Type 0
AreUnbound fs t = Each (λ (f : ℕ × Tree). Unbound f.0 t) fs

module _ (k : User) (P : Test) where
  put_apart : (n : ℕ) (v : Tree) (t : Kernel) (N : Test) → is_in P v ≡ false → N n ≡ false → Unbound n t → use_count k P (put n v t) N ≡ use_count k P t N
  put_apart n v t N e f u = put_uses k P n v t N u ∙ ap (use_count k P t) (ap (known N n) e ∙ apart_known N n f)

  pub puts_apart : (fs : Founds) (t : Kernel) → Apart P fs → AreUnbound fs t → use_count k P (puts fs t) no_names ≡ use_count k P t no_names
  puts_apart [] t a u = refl
  puts_apart (f ∷ fs) t a u =
      puts_apart fs (put f.0 f.1 t) a.1 (each-weaker (λ (g : ℕ × Tree). Unbound g.0 t) (λ (g : ℕ × Tree). Unbound g.0 (put f.0 f.1 t)) fs (λ g. put_unbound g.0 f.0 f.1 t) u.1)
      ∙ put_apart f.0 f.1 t no_names a.0 refl u.0

  pub put_behind_apart : (n : ℕ) (v : Tree) (bs : Bindings) (N : Test) (K : Test → ℕ) → is_in P v ≡ false → N n ≡ false → UnboundIn n bs → uses_behind k P (put_bindings n v bs) N K ≡ uses_behind k P bs N K
  put_behind_apart n v empty N K e f u = refl
  put_behind_apart n v (binding m t bs) N K e f u = ap₂ (λ x y. x + y) (put_apart n v t N e f u.1)
      (put_behind_apart n v bs (known N m (stands_for_port P N (put n v t))) K e (known_else 0 N no_roles m (stands_for_port P N (put n v t)) n (λ i. u.0 (sym i)) ∙ f) u.2
      ∙ ap (λ b. uses_behind k P bs (known N m b) K) (put_stands k P n v N t ∙ ap (λ (M : Test). stands_for_port P M t) (ap (known N n) e ∙ apart_known N n f)))

-- values beside names
pub named_values : (P : Tree → Type 0) (ns : List ℕ) (vs : List Tree) → Each P vs → Each (λ (f : ℕ × Tree). P f.1) (named ns vs)
named_values P [] vs h = tt
named_values P (n ∷ ns) [] h = tt
named_values P (n ∷ ns) (v ∷ vs) h = (h.0, named_values P ns vs h.1)

pub named_names : (P : ℕ → Type 0) (ns : List ℕ) (vs : List Tree) → Each P ns → Each (λ (f : ℕ × Tree). P f.0) (named ns vs)
named_names P [] vs h = tt
named_names P (n ∷ ns) [] h = tt
named_names P (n ∷ ns) (v ∷ vs) h = (h.0, named_names P ns vs h.1)
