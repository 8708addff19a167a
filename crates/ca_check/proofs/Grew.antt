-- What a walk leaves: go bodies that are added, each of them right, if the numbers of their parameters are those
-- that the program knows. A go body that isn't made yet has no parameters.
use Rattle.std.proofs.Common.{◌≡◌, ◌⊎◌, inl, ⊎_elim, ℕ, List, [], ◌∷◌, ◌++◌, length, refl, sym, ap, ◌∙◌, subst, Bool, true, false, cond, nat_le, slice_set}
use Rattle.std.proofs.lemmas.List.{append-nil, append_assoc}
use Rattle.ca_value.specs.Tree.{nil}
use Rattle.ca_term.specs.Kernel.{Kernel, const}
use Rattle.ca_term.specs.Program.{ProcedureView, arity, IsProcedure}
use Rattle.ca_term.specs.Fits.{Takes}
use Rattle.ca_term.specs.Constants.{HasScalars}
use Rattle.ca_forms.specs.Depth.{kernel_depth}
use Rattle.ca_forms.specs.Uses.{IsGoBody}
use Rattle.ca_forms.specs.Outcome.{Gathered, WalkOutcome, done, refused, after_walk, limited}
use Rattle.ca_forms.specs.Go.{unmade}
use Rattle.ca_check.proofs.Well.{Rules}

abbrev pub Each : {A : Type 0} → (A → Type 0) → List A → Type 0
Each P [] = Unit {0}
Each P (x ∷ xs) = P x × Each P xs

pub each_append : {A : Type 0} (P : A → Type 0) (xs ys : List A) → Each P xs → Each P ys → Each P (xs ++ ys)
each_append P [] ys g h = h
each_append P (x ∷ xs) ys g h = (g.0, each_append P xs ys g.1 h)

-- the bodies so far are those of which the numbers of parameters are known, but for those not made yet
abbrev pub Agrees : List ProcedureView → List ℕ → Type 0
Agrees [] ks = Unit {0}
Agrees (b ∷ bs) [] = ⊥
Agrees (b ∷ bs) (k ∷ ks) = ((arity b ≡ 0) ⊎ (arity b ≡ k)) × Agrees bs ks

-- one of the bodies put in place of another
pub set_between : (xs : List ProcedureView) (u : ProcedureView) (ys : List ProcedureView) (v : ProcedureView) → slice_set (xs ++ u ∷ ys) (length xs) v ≡ xs ++ v ∷ ys
set_between [] u ys v = refl
set_between (x ∷ xs) u ys v = ap (λ (l : List ProcedureView). x ∷ l) (set_between xs u ys v)

pub agrees_prefix : (xs ys : List ProcedureView) (ks : List ℕ) → Agrees (xs ++ ys) ks → Agrees xs ks
agrees_prefix [] ys ks a = tt
agrees_prefix (x ∷ xs) ys [] a = a
agrees_prefix (x ∷ xs) ys (k ∷ ks) a = (a.0, agrees_prefix xs ys ks a.1)

-- also where one of them isn't made yet
pub agrees_unmade : (xs : List ProcedureView) (b : ProcedureView) (ys : List ProcedureView) (ks : List ℕ) → Agrees (xs ++ b ∷ ys) ks → Agrees (xs ++ unmade ∷ ys) ks
agrees_unmade [] b ys [] a = a
agrees_unmade [] b ys (k ∷ ks) a = (inl refl, a.1)
agrees_unmade (x ∷ xs) b ys [] a = a
agrees_unmade (x ∷ xs) b ys (k ∷ ks) a = (a.0, agrees_unmade xs b ys ks a.1)

pub agrees_at : (xs : List ProcedureView) (b : ProcedureView) (ys : List ProcedureView) (ks : List ℕ) → (arity b ≡ 0 → ⊥) → Agrees (xs ++ b ∷ ys) ks → Takes ks (length xs) (arity b)
agrees_at [] b ys [] n a = a
agrees_at [] b ys (k ∷ ks) n a = ⊎_elim (λ e. absurd (n e)) (λ e. sym e) a.0
agrees_at (x ∷ xs) b ys [] n a = a
agrees_at (x ∷ xs) b ys (k ∷ ks) n a = agrees_at xs b ys ks n a.1

-- a text that is right, with constants as said
abbrev pub IsRight : Rules → ProcedureView → Type 0
IsRight k b = IsProcedure k.known b × HasScalars k.scalars b.body

-- a go body that is right
abbrev pub IsMade : Rules → ProcedureView → Type 0
IsMade k b = IsRight k b × IsGoBody b

pub record Grew (k : Rules) (s s2 : Gathered) (P : Type 0) : Type 0 where
  pub more : List ProcedureView
  pub extends : s2.bodies ≡ s.bodies ++ more
  pub holds : Agrees s2.bodies k.known.bodies → Each (IsMade k) more × P

pub stays : (k : Rules) (s : Gathered) (P : Type 0) → P → Grew k s s P
stays k s P p = record { more = []; extends = sym (append-nil s.bodies); holds = λ a. (tt, p) }

pub gives : (k : Rules) (s s2 : Gathered) (P Q : Type 0) → (P → Q) → Grew k s s2 P → Grew k s s2 Q
gives k s s2 P Q f x = record { more = x.more; extends = x.extends; holds = λ a. ((x.holds a).0, f (x.holds a).1) }

-- one walk after the other
pub behind_it : (k : Rules) (s s1 s2 : Gathered) (P Q : Type 0) → Grew k s s1 P → Grew k s1 s2 Q → Grew k s s2 (P × Q)
behind_it k s s1 s2 P Q x y = record {
  more = x.more ++ y.more;
  extends = y.extends ∙ ap (λ (l : List ProcedureView). l ++ y.more) x.extends ∙ append_assoc s.bodies x.more y.more;
  holds = λ a. let h : Each (IsMade k) x.more × P = x.holds (agrees_prefix s1.bodies y.more k.known.bodies (subst (λ l. Agrees l k.known.bodies) y.extends a)) in
      let i : Each (IsMade k) y.more × Q = y.holds a in
      (each_append (IsMade k) x.more y.more h.0 i.0, (h.1, i.1));
}

-- where something was done, it is this
abbrev pub IfDone : {A : Type 0} → WalkOutcome A → (A → Gathered → Type 0) → Type 0
IfDone (done a s) P = P a s
IfDone (refused e p) P = Unit {0}

pub if_after : {A B : Type 0} (o : WalkOutcome A) (f : A → Gathered → WalkOutcome B) (P : A → Gathered → Type 0) (Q : B → Gathered → Type 0)
    → IfDone o P → ((a : A) (s : Gathered) → P a s → IfDone (f a s) Q) → IfDone (after_walk o f) Q
if_after (done a s) f P Q h g = g a s h
if_after (refused e p) f P Q h g = tt

pub any_done : {A : Type 0} (o : WalkOutcome A) → IfDone o (λ a s. Unit {0})
any_done (done a s) = tt
any_done (refused e p) = tt

pub if_cond : {A : Type 0} (b : Bool) (x y : WalkOutcome A) (Q : A → Gathered → Type 0) → IfDone x Q → IfDone y Q → IfDone (cond b x y) Q
if_cond true x y Q g h = g
if_cond false x y Q g h = h

-- nil in place of a term that is too deep
pub if_limited : (k : Rules) (W : Kernel → Type 0) (s s2 : Gathered) (t : Kernel) → W (const nil) → Grew k s s2 (W t) → IfDone (limited t s2) (λ u s3. Grew k s s3 (W u))
if_limited k W s s2 t w x = if_cond (nat_le (kernel_depth t) 400) (done t s2) (done (const nil) (record s2 { deep = true })) (λ u s3. Grew k s s3 (W u))
    x (record { more = x.more; extends = x.extends; holds = λ a. ((x.holds a).0, w) })
