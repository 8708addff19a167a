-- What a sealed term doesn't start: with public names, and with ports that aren't hidden ones of its task.
use Rattle.std.proofs.Common.{◌≡◌, ◌⊎◌, inl, inr, ℕ, ◌+◌, ◌≤◌, List, [], ◌∷◌, refl, sym, ap, ap₂, ◌∙◌, subst, arith, Bool, true, false, cond, not, ◌||◌, ◌&&◌, ◌==◌, eqb, eqb-true, eq-eqb, Some, None}
use Rattle.std.proofs.lemmas.Map.{update_here, update_apart}
use Rattle.ca_term.specs.declared.place.Place.{Place}
use Rattle.ca_term.specs.declared.head.Head.{Head}
use Rattle.ca_term.specs.declared.head.Head.TheVariants.{Recur, Builtin, Call, Take, Put, Alts, Make, Spawn, Close, Register, Print, Post}
use Rattle.ca_term.specs.declared.head.SeedKind.TheVariants.{Go, System}
use Rattle.ca_term.specs.declared.head.SystemTask.{SystemTask}
use Rattle.ca_term.specs.Kernel.{Kernel, Kernels, Bindings, const, var, branch, bind, loop, seq, frame, turn, apply, none, item, empty, binding}
use Rattle.ca_roles.specs.Roles.{Hidden, replies, Role, public, hidden, Roles, no_roles, known_as}
use Rattle.ca_roles.specs.Sealed.{IsNamed, IsHiddenPort, IsMake, IsHiddenBound, hides, is_four, is_onto, hides_in, HasMask, plain, of_job, of_feed, of_collect, of_mult, Sealed, AllSealed, SealedBindings, SealedInits, SealedFounds, all_public}
use Rattle.ca_roles.specs.Once.{User, the_feed, the_collect, the_mult, user_of, is_user, Test, no_names, no_ports, only, IsUsedOnce, known, stands_for_port, holds_of_first, behind_first, own_operand, one_if, node, use_count, uses_all, uses_behind}

pub hides_less : (h : Head) (ts : Kernels) → hides_in h ts ≡ false → hides h ≡ false
hides_less h ts e = by (hides h) (is_onto h && not (is_four ts)) e where
  by : (b c : Bool) → b || c ≡ false → b ≡ false
  by true c e = absurd (let k : true ≡ false = e in cc)
  by false c e = refl

-- a form that hides nothing starts none of the tasks
pub starts_none : (h : Head) → hides h ≡ false → user_of h ≡ None
starts_none (Spawn (Go n)) e = refl
starts_none (Spawn (System SystemTask.Mult)) e = absurd (let k : true ≡ false = e in cc)
starts_none (Spawn (System SystemTask.Deliver)) e = refl
starts_none (Spawn (System SystemTask.Mix)) e = refl
starts_none (Spawn (System (SystemTask.Pub f))) e = refl
starts_none (Spawn (System SystemTask.Pipe)) e = refl
starts_none (Spawn (System SystemTask.Merge)) e = refl
starts_none (Spawn (System SystemTask.Onto)) e = refl
starts_none (Spawn (System SystemTask.Feed)) e = absurd (let k : true ≡ false = e in cc)
starts_none (Spawn (System (SystemTask.Job x f))) e = refl
starts_none (Spawn (System SystemTask.Collect)) e = absurd (let k : true ≡ false = e in cc)
starts_none Recur e = refl
starts_none (Builtin b) e = refl
starts_none (Call n) e = refl
starts_none Take e = refl
starts_none Put e = refl
starts_none (Alts o) e = refl
starts_none (Make k) e = refl
starts_none Close e = refl
starts_none (Register n) e = refl
starts_none Print e = refl
starts_none Post e = refl

pub nobody_is : (k : User) → is_user k None ≡ false
nobody_is the_feed = refl
nobody_is the_collect = refl
nobody_is the_mult = refl

-- none of the ports, and none of the names, is a hidden one of the task
abbrev pub NoHidden : ℕ → Test → Roles → Type 0
NoHidden me P roles = (n : ℕ) (h : Hidden) → P n ≡ true → roles n ≡ Some (hidden me h) → ⊥

pub not_true : (b : Bool) → (b ≡ true → ⊥) → b ≡ false
not_true true f = absurd (f refl)
not_true false f = refl

-- with a name more
module _ (me : ℕ) (N : Test) (scope : Roles) (n : ℕ) where
  pub known_here : (b : Bool) → known N n b n ≡ b
  known_here b = ap (λ c. cond c b (N n)) (eq-eqb n n refl)

  names_more : (M : Test) (r : Role) → NoHidden me N scope → ((m : ℕ) → (m ≡ n → ⊥) → M m ≡ N m) → ((h : Hidden) → M n ≡ true → r ≡ hidden me h → ⊥) → NoHidden me M (known_as scope n r)
  names_more M r names others new m h is at = by (eqb m n) refl where
    by : (b : Bool) → eqb m n ≡ b → ⊥
    by true mn =
        let e = eqb-true m n mn in
        let i : Some r ≡ Some (hidden me h) = sym (update_here scope n (Some r)) ∙ ap (known_as scope n r) (sym e) ∙ at in
        new h (ap M (sym e) ∙ is) (let g : r ≡ hidden me h = cc in g)
    by false mn =
        let ne : m ≡ n → ⊥ = λ e. let j : true ≡ false = sym (eq-eqb m n e) ∙ mn in cc in
        names m h (sym (others m ne) ∙ is) (sym (update_apart scope n (Some r) m ne) ∙ at)

  pub known_else : (b : Bool) (m : ℕ) → (m ≡ n → ⊥) → known N n b m ≡ N m
  known_else b m ne = by (m == n) refl where
    by : (c : Bool) → (m == n) ≡ c → cond c b (N m) ≡ N m
    by false e = refl
    by true e = absurd (ne (eqb-true m n e))

  -- a public one
  pub found_more : NoHidden me N scope → NoHidden me N (known_as scope n public)
  found_more names = names_more N public names (λ m ne. refl) (λ h i e. cc)

  pub public_more : (b : Bool) → NoHidden me N scope → NoHidden me (known N n b) (known_as scope n public)
  public_more b names = names_more (known N n b) public names (known_else b) (λ h i e. cc)

  -- one that stands for none of them
  pub apart_more : (r : Role) (b : Bool) → b ≡ false → NoHidden me N scope → NoHidden me (known N n b) (known_as scope n r)
  apart_more r b f names = names_more (known N n b) r names (known_else b) (λ h i e. let j : true ≡ false = sym i ∙ known_here b ∙ f in cc)

pub no_names_hidden : (me : ℕ) (scope : Roles) → NoHidden me no_names scope
no_names_hidden me scope n h e at = cc

module _ (k : User) (me : ℕ) (P : Test) (roles : Roles) (ports : NoHidden me P roles) where
  pub port_apart : (h : Hidden) (t : Kernel) (N : Test) → IsHiddenPort me roles h t → stands_for_port P N t ≡ false
  port_apart h t N j = ap (stands_for_port P N) j.1 ∙ not_true (P j.0) (λ e. ports j.0 h e j.2)

  named_apart : (scope : Roles) (r : Role) (t : Kernel) (N : Test) → NoHidden me N scope → IsNamed me roles scope r t → stands_for_port P N t ≡ false
  named_apart scope public t N names i = absurd i
  named_apart scope (hidden u h) t N names i = by i.1 where
    by : IsHiddenPort me roles h t ⊎ ((n : ℕ) × (t ≡ var n) × (scope n ≡ Some (hidden me h))) → stands_for_port P N t ≡ false
    by (inl j) = port_apart h t N j
    by (inr j) = ap (stands_for_port P N) j.1 ∙ not_true (N j.0) (λ e. names j.0 h e j.2)

  pub named_uses : (scope : Roles) (r : Role) (t : Kernel) (N : Test) → IsNamed me roles scope r t → use_count k P t N ≡ 0
  named_uses scope public t N i = absurd i
  named_uses scope (hidden u h) t N i = by i.1 where
    by : IsHiddenPort me roles h t ⊎ ((n : ℕ) × (t ≡ var n) × (scope n ≡ Some (hidden me h))) → use_count k P t N ≡ 0
    by (inl j) = ap (λ x. use_count k P x N) j.1
    by (inr j) = ap (λ x. use_count k P x N) j.1

  -- a hidden operand is a name, or a port
  first_apart : (scope : Roles) (u : ℕ) (h : Hidden) (mask : List Role) (ts : Kernels) (N : Test) → NoHidden me N scope → AllSealed me roles (hidden u h ∷ mask) ts scope → holds_of_first (stands_for_port P N) ts ≡ false
  first_apart scope u h mask none N names a = refl
  first_apart scope u h mask (item t ts) N names a = named_apart scope (hidden u h) t N names a.0

  third_apart : (scope : Roles) (q r : Role) (u : ℕ) (h : Hidden) (mask : List Role) (ts : Kernels) (N : Test) → NoHidden me N scope → AllSealed me roles (q ∷ r ∷ hidden u h ∷ mask) ts scope → behind_first (behind_first (holds_of_first (stands_for_port P N))) ts ≡ false
  third_apart scope q r u h mask none N names a = refl
  third_apart scope q r u h mask (item t none) N names a = refl
  third_apart scope q r u h mask (item t (item w ts)) N names a = first_apart scope u h mask ts N names a.1.1

  pub node_unused : (scope : Roles) (mask : List Role) (f : Head) (p : Place) (ts : Kernels) (N : Test) → NoHidden me N scope → HasMask me f p ts mask → AllSealed me roles mask ts scope → node k P N f ts ≡ 0
  node_unused scope mask f p ts N names (plain e) a = ap (λ b. cond b (one_if (own_operand k (stands_for_port P N) ts)) 0) (ap (is_user k) (starts_none f (hides_less f ts e)) ∙ nobody_is k)
  node_unused scope mask f p ts N names (of_job w e) a = ap (λ b. cond b (one_if (own_operand k (stands_for_port P N) ts)) 0) (nobody_is k)
  node_unused scope mask f p ts N names (of_feed w) a = by k where
    by : (j : User) → cond (is_user j (Some the_feed)) (one_if (own_operand j (stands_for_port P N) ts)) 0 ≡ 0
    by the_feed = ap one_if (third_apart scope _ _ _ _ _ ts N names a)
    by the_collect = refl
    by the_mult = refl
  node_unused scope mask f p ts N names (of_collect w) a = by k where
    by : (j : User) → cond (is_user j (Some the_collect)) (one_if (own_operand j (stands_for_port P N) ts)) 0 ≡ 0
    by the_feed = refl
    by the_collect = ap one_if (first_apart scope me (replies w) [] ts N names a)
    by the_mult = refl
  node_unused scope mask f p ts N names of_mult a = by k where
    by : (j : User) → cond (is_user j (Some the_mult)) (one_if (own_operand j (stands_for_port P N) ts)) 0 ≡ 0
    by the_feed = refl
    by the_collect = refl
    by the_mult = ap one_if (third_apart scope _ _ _ _ _ ts N names a)

  pub both : (a b : ℕ) → a ≡ 0 → b ≡ 0 → a + b ≡ 0
  both a b e f = ap₂ (λ x y. x + y) e f

  pub founds_names : (fs : _) (N : Test) (s e : Roles) → NoHidden me N s → SealedFounds roles fs s e → NoHidden me N e
  founds_names [] N s e names h = subst (NoHidden me N) (sym h) names
  founds_names (f ∷ fs) N s e names h = founds_names fs N (known_as s f.0 public) e (found_more me N s f.0 names) h.2

  -- the bindings' names, by their roles
  bound_names : (r : Role) (n : ℕ) (t : Kernel) (N : Test) (scope : Roles) → NoHidden me N scope → IsHiddenBound me roles r t (Sealed me roles t scope) → NoHidden me (known N n (stands_for_port P N t)) (known_as scope n r)
  bound_names public n t N scope names b = public_more me N scope n (stands_for_port P N t) names
  bound_names (hidden u h) n t N scope names b = apart_more me N scope n (hidden u h) (stands_for_port P N t) (by b.1) names where
    by : (IsMake h t × Sealed me roles t scope) ⊎ IsHiddenPort me roles h t → stands_for_port P N t ≡ false
    by (inl m) = ap (stands_for_port P N) m.0.3
    by (inr i) = port_apart h t N i

  bound_uses : (r : Role) (t : Kernel) (N : Test) (scope : Roles) → (Sealed me roles t scope → use_count k P t N ≡ 0) → IsHiddenBound me roles r t (Sealed me roles t scope) → use_count k P t N ≡ 0
  bound_uses public t N scope f b = f b
  bound_uses (hidden u h) t N scope f b = by b.1 where
    by : (IsMake h t × Sealed me roles t scope) ⊎ IsHiddenPort me roles h t → use_count k P t N ≡ 0
    by (inl m) = f m.1
    by (inr i) = ap (λ x. use_count k P x N) i.1

  mutual
    pub unused : (t : Kernel) (N : Test) (scope : Roles) → NoHidden me N scope → Sealed me roles t scope → use_count k P t N ≡ 0
    unused (const v) N s names h = refl
    unused (var n) N s names h = refl
    unused (branch c a b) N s names h = both (use_count k P c N + use_count k P a N) (use_count k P b N) (both (use_count k P c N) (use_count k P a N) (unused c N s names h.0) (unused a N s names h.1)) (unused b N s names h.2)
    unused (bind bs body) N s names h = unused_behind bs N s h.0 (use_count k P body) names h.1 (λ M m. unused body M h.0 m h.2)
    unused (loop fs bs body) N s names h = unused_inits bs N s h.0 (λ M. use_count k P body M + use_count k P body M) names h.2 (λ M m. let e = unused body M h.1 (founds_names fs M h.0 h.1 m h.3) h.4 in both (use_count k P body M) (use_count k P body M) e e)
    unused (seq ts) N s names h = unused_all [] ts N s names h
    unused (frame body) N s names h = unused body no_names no_roles (no_names_hidden me no_roles) h
    unused (turn ns again now) N s names h =
        let e = unused again no_names (all_public ns) (no_names_hidden me (all_public ns)) h.0 in
        both (use_count k P again no_names + use_count k P again no_names) (use_count k P now no_names) (both (use_count k P again no_names) (use_count k P again no_names) e e) (unused now no_names no_roles (no_names_hidden me no_roles) h.1)
    unused (apply f ts p) N s names h = both (node k P N f ts) (uses_all k P ts N) (node_unused s h.0 f p ts N names h.1 h.2) (unused_all h.0 ts N s names h.2)

    pub unused_all : (mask : List Role) (ts : Kernels) (N : Test) (scope : Roles) → NoHidden me N scope → AllSealed me roles mask ts scope → uses_all k P ts N ≡ 0
    unused_all mask none N s names h = refl
    unused_all [] (item t ts) N s names h = both (use_count k P t N) (uses_all k P ts N) (unused t N s names h.0) (unused_all [] ts N s names h.1)
    unused_all (public ∷ mask) (item t ts) N s names h = both (use_count k P t N) (uses_all k P ts N) (unused t N s names h.0) (unused_all mask ts N s names h.1)
    unused_all (hidden u x ∷ mask) (item t ts) N s names h = both (use_count k P t N) (uses_all k P ts N) (named_uses s (hidden u x) t N h.0) (unused_all mask ts N s names h.1)

    pub unused_behind : (bs : Bindings) (N : Test) (scope inner : Roles) (K : Test → ℕ) → NoHidden me N scope → SealedBindings me roles bs scope inner → ((M : Test) → NoHidden me M inner → K M ≡ 0) → uses_behind k P bs N K ≡ 0
    unused_behind empty N s e K names h f = f N (subst (NoHidden me N) (sym h) names)
    unused_behind (binding n t bs) N s e K names h f =
        both (use_count k P t N) (uses_behind k P bs (known N n (stands_for_port P N t)) K)
        (bound_uses h.0 t N s (unused t N s names) h.1)
        (unused_behind bs (known N n (stands_for_port P N t)) (known_as s n h.0) e K (bound_names h.0 n t N s names h.1) h.3 f)

    pub unused_inits : (bs : Bindings) (N : Test) (scope inner : Roles) (K : Test → ℕ) → NoHidden me N scope → SealedInits me roles bs scope inner → ((M : Test) → NoHidden me M inner → K M ≡ 0) → uses_behind k P bs N K ≡ 0
    unused_inits empty N s e K names h f = f N (subst (NoHidden me N) (sym h) names)
    unused_inits (binding n t bs) N s e K names h f =
        both (use_count k P t N) (uses_behind k P bs (known N n (stands_for_port P N t)) K)
        (unused t N s names h.0)
        (unused_inits bs (known N n (stands_for_port P N t)) (known_as s n public) e K (public_more me N s n (stands_for_port P N t) names) h.2 f)

pub only_public : (me : ℕ) (scope : Roles) (n : ℕ) → scope n ≡ Some public → NoHidden me (only n) scope
only_public me scope n at m h e is = by (eqb m n) refl where
  by : (b : Bool) → eqb m n ≡ b → ⊥
  by true mn = let i : Some public ≡ Some (hidden me h) = sym at ∙ ap scope (sym (eqb-true m n mn)) ∙ is in cc
  by false mn = let j : false ≡ true = sym (ap (λ c. cond c true false) mn) ∙ e in cc

-- a public name of a `let` is used at most once, since it isn't used so at all
pub public_once : (me : ℕ) (roles scope inner : Roles) (n : ℕ) (bs : Bindings) (body : Kernel) → scope n ≡ Some public → SealedBindings me roles bs scope inner → Sealed me roles body inner → IsUsedOnce n bs body
public_once me roles scope inner n bs body at h b k =
    let e = unused_behind k me no_ports roles (λ m x i r. let j : false ≡ true = i in cc) bs (only n) scope inner (use_count k no_ports body) (only_public me scope n at) h (λ M m. unused k me no_ports roles (λ m x i r. let j : false ≡ true = i in cc) body M inner m b) in
    subst (λ x. x ≤ 1) (sym e) (none_or_one 0) where
      none_or_one : (a : ℕ) → 0 ≤ 1
      none_or_one a = omega arith
