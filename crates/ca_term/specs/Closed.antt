-- Each name in a term is bound.
use Rattle.std.specs.Prelude.{◌≡◌, ℕ, List, [], ◌∷◌, ◌⊎◌}
use Rattle.ca_term.specs.Kernel.{Kernel, Kernels, Bindings, Founds, const, var, branch, bind, loop, seq, frame, turn, apply, none, item, empty, binding}

abbrev pub IsIn : ℕ → List ℕ → Type 0
IsIn m [] = ⊥
IsIn m (n ∷ ns) = (m ≡ n) ⊎ IsIn m ns

-- the names in scope behind the bindings
abbrev pub names_behind : Bindings → List ℕ → List ℕ
names_behind empty ns = ns
names_behind (binding n t bs) ns = names_behind bs (n ∷ ns)

-- the names in scope behind those that have their values
abbrev pub behind_found : Founds → List ℕ → List ℕ
behind_found [] ns = ns
behind_found (f ∷ fs) ns = behind_found fs (f.0 ∷ ns)

-- each name in the term is one of ns, or bound within; frames and turns stand alone
abbrev mutual
  pub IsClosed : List ℕ → Kernel → Type 0
  IsClosed ns (const v) = Unit {0}
  IsClosed ns (var n) = IsIn n ns
  IsClosed ns (branch c a b) = IsClosed ns c × IsClosed ns a × IsClosed ns b
  IsClosed ns (bind bs body) = AreClosedBindings ns bs × IsClosed (names_behind bs ns) body
  IsClosed ns (loop fs bs body) = AreClosedBindings ns bs × IsClosed (names_behind bs (behind_found fs ns)) body
  IsClosed ns (seq ts) = AreClosed ns ts
  IsClosed ns (frame body) = IsClosed [] body
  IsClosed ns (turn names text now) = IsClosed names text × IsClosed [] now
  IsClosed ns (apply h ts p) = AreClosed ns ts

  pub AreClosed : List ℕ → Kernels → Type 0
  AreClosed ns none = Unit {0}
  AreClosed ns (item t ts) = IsClosed ns t × AreClosed ns ts

  pub AreClosedBindings : List ℕ → Bindings → Type 0
  AreClosedBindings ns empty = Unit {0}
  AreClosedBindings ns (binding n t bs) = IsClosed ns t × AreClosedBindings (n ∷ ns) bs
