-- A local step leaves a sealed term sealed: what it makes of the redex.
use Rattle.std.proofs.Common.{◌≡◌, ℕ, ◌≤◌, List, [], ◌∷◌, ◌++◌, length, refl, sym, ap, ◌∙◌, subst, arith, Bool, true, false, cond, not, eqb, eqb-true, eq-eqb, inl, inr, Option, Some, None}
use Rattle.std.proofs.Math.Path.{fun_ext}
use Rattle.std.proofs.lemmas.Map.{update_here, update_apart}
use Rattle.ca_value.specs.Tree.{Tree}
use Rattle.ca_term.specs.declared.place.Place.{Place}
use Rattle.ca_term.specs.declared.head.Head.{Head}
use Rattle.ca_term.specs.declared.head.Head.TheVariants.{Recur, Builtin, Call, Take, Put, Alts, Make, Spawn, Close, Register, Print, Post}
use Rattle.ca_term.specs.Kernel.{Kernel, Kernels, Bindings, Founds, const, var, branch, bind, loop, seq, frame, turn, apply, none, item, empty, binding}
use Rattle.ca_term.specs.Fits.{count_terms, Fits}
use Rattle.ca_term.specs.Program.{ProgramView}
use Rattle.ca_meaning.specs.Redex.{is_value, value_of, values_of}
use Rattle.ca_meaning.specs.Operands.{truth, values_in}
use Rattle.ca_meaning.specs.Started.{names_found, procedure_at}
use Rattle.ca_meaning.specs.Body.{contract, after_turn}
use Rattle.ca_meaning.specs.Parts.{is_whole}
use Rattle.ca_meaning.proofs.Contracts.{Judges, length-values}
use Rattle.ca_roles.specs.Roles.{Hidden, Role, public, hidden, Roles, no_roles, known_as, IsPublic, ArePublic, Is}
use Rattle.ca_roles.specs.Sealed.{IsMake, IsHiddenBound, hides, HasMask, plain, of_job, of_feed, of_collect, of_mult, SealedFounds, all_public, Sealed, AllSealed, IsSealed}
use Rattle.ca_roles.proofs.Sealing.{Agree, put_sealed, put_bindings_sealed, put_inits, put_founds}
use Rattle.ca_roles.proofs.Starting.{same_roles, values_public, PublicFounds, puts_sealed, text_sealed, started_sealed, procedure_sealed}
use Rattle.ca_roles.proofs.Clean.{builtins_make_no_ports}

-- where no operand of the form is hidden
pub no_mask : (me : ℕ) (h : Head) (p : Place) (ts : Kernels) (mask : List Role) → hides h ≡ false → HasMask me h p ts mask → mask ≡ []
no_mask me h p ts mask e (plain f) = refl
no_mask me h p ts mask e (of_job w k) = absurd (let j : true ≡ false = e in cc)
no_mask me h p ts mask e (of_feed w) = absurd (let j : true ≡ false = e in cc)
no_mask me h p ts mask e (of_collect w) = absurd (let j : true ≡ false = e in cc)
no_mask me h p ts mask e of_mult = absurd (let j : true ≡ false = e in cc)

-- the names that have their values are in scope behind them
abbrev known_all : List ℕ → Roles → Roles
known_all [] s = s
known_all (n ∷ ns) s = known_as (known_all ns s) n public

known_last : (ns : List ℕ) (s : Roles) (n m : ℕ) → known_all ns (known_as s n public) m ≡ known_as (known_all ns s) n public m
known_last [] s n m = refl
known_last (k ∷ ns) s n m = ap (cond (eqb k m) (Some public)) (known_last ns s n m) ∙ by (eqb k m) (eqb n m) (known_all ns s m) where
  by : (a b : Bool) (o : Option Role) → cond a (Some public) (cond b (Some public) o) ≡ cond b (Some public) (cond a (Some public) o)
  by true true o = refl
  by true false o = refl
  by false true o = refl
  by false false o = refl

founds_known : (roles : Roles) (fs : Founds) (s e : Roles) → SealedFounds roles fs s e → (m : ℕ) → e m ≡ known_all (names_found fs) s m
founds_known roles [] s e h m = ap (λ (z : Roles). z m) h
founds_known roles (f ∷ fs) s e h m = founds_known roles fs (known_as s f.0 public) e h.2 m ∙ known_last (names_found fs) s f.0 m

all_known : (ns : List ℕ) (m : ℕ) → known_all ns no_roles m ≡ all_public ns m
all_known [] m = refl
all_known (n ∷ ns) m = ap (cond (eqb n m) (Some public)) (all_known ns m)

pub founds_scope : (roles : Roles) (fs : Founds) (e : Roles) → SealedFounds roles fs no_roles e → e ≡ all_public (names_found fs)
founds_scope roles fs e h = fun_ext (λ m. founds_known roles fs no_roles e h m ∙ all_known (names_found fs) m)

pub founds_public : (roles : Roles) (fs : Founds) (s e : Roles) → SealedFounds roles fs s e → PublicFounds roles fs
founds_public roles [] s e h = tt
founds_public roles (f ∷ fs) s e h = (h.0, founds_public roles fs (known_as s f.0 public) e h.2)

-- one more name that has its value
founds_last : (roles : Roles) (fs : Founds) (s e : Roles) (n : ℕ) (v : Tree) → IsPublic roles v → e n ≡ None → SealedFounds roles fs s e → SealedFounds roles (fs ++ (n, v) ∷ []) s (known_as e n public)
founds_last roles [] s e n v p free h = (p, ap (λ (z : Roles). z n) (sym h) ∙ free, ap (λ (z : Roles). known_as z n public) h)
founds_last roles (f ∷ fs) s e n v p free h = (h.0, h.1, founds_last roles fs (known_as s f.0 public) e n v p free h.2)

pub is_there : (v : Bool) → not (not v) ≡ true → v ≡ true
is_there true e = refl
is_there false e = e

module _ (me : ℕ) (roles : Roles) where
  -- the value of a term that is one; of another it is nil
  pub value_public : (s : Roles) (t : Kernel) → Sealed me roles t s → IsPublic roles (value_of t)
  value_public s (const v) h = h
  value_public s (var n) h = tt
  value_public s (branch c a b) h = tt
  value_public s (bind bs body) h = tt
  value_public s (loop fs bs body) h = tt
  value_public s (seq ts) h = tt
  value_public s (frame body) h = tt
  value_public s (turn ns again now) h = tt
  value_public s (apply f ts p) h = tt

  pub items_public : (s : Roles) (ts : Kernels) → AllSealed me roles [] ts s → ArePublic roles (values_of ts)
  items_public s none h = tt
  items_public s (item t ts) h = (value_public s t h.0, items_public s ts h.1)

  -- the operands of a form that hides none
  pub operands_public : (h : Head) (ts : Kernels) (p : Place) → hides h ≡ false → Sealed me roles (apply h ts p) no_roles → ArePublic roles (values_of ts)
  operands_public h ts p e s = items_public no_roles ts (subst (λ mask. AllSealed me roles mask ts no_roles) (no_mask me h p ts s.0 e s.1) s.2)

  make_no_value : (x : Hidden) (t : Kernel) → IsMake x t → is_value t ≡ true → ⊥
  make_no_value x t h e = let k : false ≡ true = ap is_value (sym h.3) ∙ e in cc

  -- the value of a binding's term has the role of its name
  bound_is : (s : Roles) (r : Role) (t : Kernel) → is_value t ≡ true → IsHiddenBound me roles r t (Sealed me roles t s) → Is roles r (value_of t)
  bound_is s public t v h = value_public s t h
  bound_is s (hidden u x) t v (e, inl h) = absurd (make_no_value x t h.0 v)
  bound_is s (hidden u x) t v (e, inr h) = (h.0, ap value_of h.1, subst (λ w. roles h.0 ≡ Some (hidden w x)) (sym e) h.2)

  beside : (n : ℕ) (r : Role) → Agree n (known_as no_roles n r) no_roles
  beside n r m ne = sym (update_apart no_roles n (Some r) m ne)

  pub let_sealed : (program : ProgramView) (n : ℕ) (t : Kernel) (bs : Bindings) (body : Kernel) → is_value t ≡ true → Sealed me roles (bind (binding n t bs) body) no_roles → Sealed me roles (contract program (bind (binding n t bs) body)) no_roles
  let_sealed program n t bs body v h =
      let b = h.1 in
      let is = bound_is no_roles b.0 t v b.1 in
      let here : known_as no_roles n b.0 n ≡ Some b.0 = update_here no_roles n (Some b.0) in
      let k = put_bindings_sealed me roles roles (same_roles roles) n (value_of t) b.0 is None bs (known_as no_roles n b.0) no_roles h.0 (here, beside n b.0, refl) b.3 in
      (k.0, k.1, put_sealed me roles roles (same_roles roles) n (value_of t) b.0 is body h.0 k.0 k.2.0 k.2.1 h.2)

  -- where all names of a loop have their values
  pub turn_sealed : (program : ProgramView) (fs : Founds) (body : Kernel) → Sealed me roles (loop fs empty body) no_roles → Sealed me roles (contract program (loop fs empty body)) no_roles
  turn_sealed program fs body h =
      let founds : SealedFounds roles fs no_roles h.1 = subst (λ (z : Roles). SealedFounds roles fs z h.1) h.2 h.3 in
      let text : Sealed me roles body (all_public (names_found fs)) = subst (λ (z : Roles). Sealed me roles body z) (founds_scope roles fs h.1 founds) h.4 in
      (text, puts_sealed me roles roles (same_roles roles) fs body (founds_public roles fs no_roles h.1 founds) text)

  -- where one more has
  pub loop_sealed : (program : ProgramView) (fs : Founds) (n : ℕ) (t : Kernel) (bs : Bindings) (body : Kernel) → Sealed me roles (loop fs (binding n t bs) body) no_roles → Sealed me roles (contract program (loop fs (binding n t bs) body)) no_roles
  loop_sealed program fs n t bs body h =
      let v = value_of t in
      let is = value_public no_roles t h.2.0 in
      let here : known_as no_roles n public n ≡ Some public = update_here no_roles n (Some public) in
      let f = put_inits me roles roles (same_roles roles) n v public is None bs (known_as no_roles n public) no_roles h.0 (here, beside n public, refl) h.2.2 in
      let k = put_founds me roles roles (same_roles roles) n v public is None fs h.0 f.0 h.1 f.2 h.3 in
      (f.0, known_as k.0 n public, f.1, founds_last roles fs f.0 k.0 n v is k.2.2 k.1, subst (λ (z : Roles). Sealed me roles body z) (fun_ext (λ m. scope h.1 k.0 k.2.0 k.2.1 m (eqb n m) refl)) h.4) where
        scope : (e z : Roles) → e n ≡ Some public → Agree n e z → (m : ℕ) (b : Bool) → eqb n m ≡ b → e m ≡ cond b (Some public) (z m)
        scope e z at a m true i = ap e (sym (eqb-true n m i)) ∙ at
        scope e z at a m false i = sym (a m (λ k. let j : true ≡ false = sym (eq-eqb n m (sym k)) ∙ i in cc))

-- Each recur stands in its loop, and each function that is called takes so many values.
module _ (program : ProgramView) (sealed : IsSealed program) (S : Option ℕ → Head → ℕ → Type 0) (judges : Judges program S) (me : ℕ) (roles : Roles) where
  enough : (names : List ℕ) (ts : Kernels) → length names ≡ count_terms ts → length names ≤ length (values_in (values_of ts))
  enough names ts e = let k = length-values ts in omega (arith, e, k)

  same_number : (m n : ℕ) → Some m ≡ Some n → m ≡ n
  same_number m n e = cc

  again_sealed : (names : List ℕ) (text : Kernel) (ts : Kernels) (p : Place) → Fits S (Some (length names)) (apply Recur ts p) → Sealed me roles text (all_public names) → Sealed me roles (apply Recur ts p) no_roles → Sealed me roles (after_turn names text (apply Recur ts p)) no_roles
  again_sealed names text ts p f h g =
      let many = enough names ts (same_number (length names) (count_terms ts) (judges.recurs (Some (length names)) (count_terms ts) f.0)) in
      (h, text_sealed me roles roles (same_roles roles) names (values_in (values_of ts)) text many (values_public roles (values_of ts) (operands_public me roles Recur ts p refl g)) h)

  turned_sealed : (names : List ℕ) (text now : Kernel) → Fits S (Some (length names)) now → Sealed me roles text (all_public names) → Sealed me roles now no_roles → Sealed me roles (after_turn names text now) no_roles
  turned_sealed names text (apply Recur ts p) f h g = again_sealed names text ts p f h g
  turned_sealed names text (const v) f h g = g
  turned_sealed names text (var n) f h g = g
  turned_sealed names text (branch c a b) f h g = g
  turned_sealed names text (bind bs body) f h g = g
  turned_sealed names text (loop fs bs body) f h g = g
  turned_sealed names text (seq ts) f h g = g
  turned_sealed names text (frame body) f h g = g
  turned_sealed names text (turn ns t now) f h g = g
  turned_sealed names text (apply (Builtin b) ts p) f h g = g
  turned_sealed names text (apply (Call n) ts p) f h g = g
  turned_sealed names text (apply Take ts p) f h g = g
  turned_sealed names text (apply Put ts p) f h g = g
  turned_sealed names text (apply (Alts options) ts p) f h g = g
  turned_sealed names text (apply (Make kind) ts p) f h g = g
  turned_sealed names text (apply (Spawn kind) ts p) f h g = g
  turned_sealed names text (apply Close ts p) f h g = g
  turned_sealed names text (apply (Register name) ts p) f h g = g
  turned_sealed names text (apply Print ts p) f h g = g
  turned_sealed names text (apply Post ts p) f h g = g

  either : (b : Bool) (x y : Kernel) → Sealed me roles x no_roles → Sealed me roles y no_roles → Sealed me roles (cond b x y) no_roles
  either true x y h g = h
  either false x y h g = g

  pub contract_sealed : (target : Option ℕ) (t : Kernel) → is_whole t ≡ true → Fits S target t → Sealed me roles t no_roles → Sealed me roles (contract program t) no_roles
  contract_sealed target (const v) w f h = h
  contract_sealed target (var n) w f h = h
  contract_sealed target (branch c a b) w f h = either (truth (value_of c)) a b h.1 h.2
  contract_sealed target (bind empty body) w f h = subst (λ (z : Roles). Sealed me roles body z) h.1 h.2
  contract_sealed target (bind (binding n t bs) body) w f h = let_sealed me roles program n t bs body (is_there (is_value t) w) h
  contract_sealed target (loop fs empty body) w f h = turn_sealed me roles program fs body h
  contract_sealed target (loop fs (binding n t bs) body) w f h = loop_sealed me roles program fs n t bs body h
  contract_sealed target (seq none) w f h = tt
  contract_sealed target (seq (item t none)) w f h = h.0
  contract_sealed target (seq (item t (item u us))) w f h = h.1
  contract_sealed target (frame body) w f h = h
  contract_sealed target (turn names text now) w f h = turned_sealed names text now f.1 h.0 h.1
  contract_sealed target (apply (Builtin b) ts p) w f h = builtins_make_no_ports roles b (values_of ts) (operands_public me roles (Builtin b) ts p refl h)
  contract_sealed target (apply (Call n) ts p) w f h =
      let many = enough (procedure_at program.functions n).parameters ts (judges.counted target n (count_terms ts) f.0) in
      started_sealed me roles (procedure_at program.functions n) (values_in (values_of ts)) many (values_public roles (values_of ts) (operands_public me roles (Call n) ts p refl h)) (procedure_sealed program.functions n sealed.functions)
  contract_sealed target (apply Recur ts p) w f h = h
  contract_sealed target (apply Take ts p) w f h = h
  contract_sealed target (apply Put ts p) w f h = h
  contract_sealed target (apply (Alts options) ts p) w f h = h
  contract_sealed target (apply (Make kind) ts p) w f h = h
  contract_sealed target (apply (Spawn kind) ts p) w f h = h
  contract_sealed target (apply Close ts p) w f h = h
  contract_sealed target (apply (Register name) ts p) w f h = h
  contract_sealed target (apply Print ts p) w f h = h
  contract_sealed target (apply Post ts p) w f h = h
