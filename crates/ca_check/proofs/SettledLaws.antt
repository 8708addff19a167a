-- A function's body is walked until no further name comes up.
use Rattle.std.proofs.Common.{◌≡◌, ℕ, suc, List, [], ◌∷◌, ◌++◌, length, map, take, ◌<◌, ◌≤◌, refl, sym, ap, ◌∙◌, Bool, true, false, cond, nat_lt, nat_eq, Some, ◌&&◌}
use Rattle.std.proofs.lemmas.Bool.{lt-ltb, le-ltb, eq-eqb, eqb-true}
use Rattle.std.proofs.lemmas.List.{length-map, map-append}
use Rattle.ca_value.specs.Seq.{list}
use Rattle.ca_term.specs.declared.place.Place.{Place}
use Rattle.ca_term.specs.Kernel.{Kernel}
use Rattle.ca_term.specs.declared.program.Procedure.{Procedure}
use Rattle.ca_term.specs.View.{kernel}
use Rattle.ca_term.specs.Program.{ProcedureView, procedure_view}
use Rattle.ca_check.specs.declared.defn.Pass.{Pass}
use Rattle.ca_forms.specs.declared.error.CheckErrorKind.TheVariants.{TooMany}
use Rattle.ca_forms.specs.declared.error.CheckError.{CheckError}
use Rattle.ca_forms.specs.declared.error.CheckError.TheVariants.{Fault, OutOfMemory}
use Rattle.ca_forms.specs.declared.gathered.Bodies.{Bodies}
use Rattle.ca_forms.specs.Depth.{kernel_depth}
use Rattle.ca_forms.specs.Uses.{uses, aims_out, is_plain}
use Rattle.ca_forms.specs.Outcome.{Gathered, WalkOutcome, done, refused, after_walk}
use Rattle.ca_forms.specs.Meaning.{Meaning, Signature}
use Rattle.ca_forms.specs.Tops.{Tops, Written, Settled, straight, body_of, signature, function_env, judged_body, body_settled, add_function, with_function, is_empty, plain_with, numbers, names_of}
use Rattle.ca_check.specs.TopsView.{body_in, settled_function}
use Rattle.ca_forms.specs.WalkView.{gathered, Fails}
use Rattle.ca_forms.proofs.PartLaws.{after_fails}

abbrev pub for_good : Bool → Pass
for_good looping = cond looping Pass.Looped Pass.Straight

body_is : (looping : Bool) (f : Written) (p : Place) → body_in (for_good looping) f p ≡ body_of looping f p
body_is true f p = refl
body_is false f p = refl

module _ (looping : Bool) (hidden : List ℕ) (f : Written) (p : Place) (t : Tops) (s : Gathered) where
  abbrev pub walked : WalkOutcome Kernel
  walked = body_in (for_good looping) f p (function_env (signature f hidden false) t) s

  abbrev again : ℕ → Kernel → Gathered → WalkOutcome Settled
  again n body s2 = cond (nat_lt 64 (length (uses (length t.scope) body hidden))) (refused TooMany p)
      (cond (nat_eq (length (uses (length t.scope) body hidden)) (length hidden)) (done (record { body = body; hidden = hidden }) s2) (body_settled n looping (uses (length t.scope) body hidden) f p t s))

  settled_is : (n : ℕ) → body_settled (suc n) looping hidden f p t s ≡ after_walk walked (again n)
  settled_is n = ap (λ (m : Meaning). after_walk (m (function_env (signature f hidden false) t) s) (again n)) (sym (body_is looping f p))

  pub settled_walked : (n : ℕ) (b : Kernel) (s2 : Gathered) → walked ≡ done b s2 → body_settled (suc n) looping hidden f p t s ≡ again n b s2
  settled_walked n b s2 w = settled_is n ∙ ap (λ (o : WalkOutcome Kernel). after_walk o (again n)) w

  pub settled_many : (n : ℕ) (b : Kernel) (s2 : Gathered) (used : List ℕ) → walked ≡ done b s2 → used ≡ uses (length t.scope) b hidden → 64 < length used
      → body_settled (suc n) looping hidden f p t s ≡ refused TooMany p
  settled_many n b s2 used w u h = settled_walked n b s2 w ∙ ap (λ c. cond c (refused TooMany p) (cond (nat_eq (length (uses (length t.scope) b hidden)) (length hidden)) (done (record { body = b; hidden = hidden }) s2) (body_settled n looping (uses (length t.scope) b hidden) f p t s))) (ap (λ (l : List ℕ). nat_lt 64 (length l)) (sym u) ∙ lt-ltb 64 (length used) h)

  settled_few : (n : ℕ) (b : Kernel) (s2 : Gathered) (used : List ℕ) → walked ≡ done b s2 → used ≡ uses (length t.scope) b hidden → length used ≤ 64
      → body_settled (suc n) looping hidden f p t s ≡ cond (nat_eq (length used) (length hidden)) (done (record { body = b; hidden = hidden }) s2) (body_settled n looping used f p t s)
  settled_few n b s2 used w u h = settled_walked n b s2 w ∙ ap (λ (l : List ℕ). cond (nat_lt 64 (length l)) (refused TooMany p) (cond (nat_eq (length l) (length hidden)) (done (record { body = b; hidden = hidden }) s2) (body_settled n looping l f p t s))) (sym u)
      ∙ ap (λ c. cond c (refused TooMany p) (cond (nat_eq (length used) (length hidden)) (done (record { body = b; hidden = hidden }) s2) (body_settled n looping used f p t s))) (le-ltb 64 (length used) h)

  pub settled_done : (n : ℕ) (b : Kernel) (s2 : Gathered) (used : List ℕ) → walked ≡ done b s2 → used ≡ uses (length t.scope) b hidden → length used ≤ 64 → length used ≡ length hidden
      → body_settled (suc n) looping hidden f p t s ≡ done (record { body = b; hidden = hidden }) s2
  settled_done n b s2 used w u h e = settled_few n b s2 used w u h ∙ ap (λ c. cond c (done (record { body = b; hidden = hidden }) s2) (body_settled n looping used f p t s)) (eq-eqb (length used) (length hidden) e)

  pub settled_on : (n : ℕ) (b : Kernel) (s2 : Gathered) (used : List ℕ) → walked ≡ done b s2 → used ≡ uses (length t.scope) b hidden → length used ≤ 64 → (length used ≡ length hidden → ⊥)
      → body_settled (suc n) looping hidden f p t s ≡ body_settled n looping used f p t s
  settled_on n b s2 used w u h e = settled_few n b s2 used w u h ∙ by (nat_eq (length used) (length hidden)) (λ x. e (eqb-true (length used) (length hidden) x)) where
    by : (c : Bool) → (c ≡ true → ⊥) → cond c (done (record { body = b; hidden = hidden }) s2) (body_settled n looping used f p t s) ≡ body_settled n looping used f p t s
    by true x = absurd (x refl)
    by false x = refl

  pub settled_fails : (x : CheckError) (n : ℕ) → Fails x walked → Fails x (body_settled (suc n) looping hidden f p t s)
  settled_fails OutOfMemory n h = tt
  settled_fails (Fault k q) n h = settled_is n ∙ ap (λ (o : WalkOutcome Kernel). after_walk o (again n)) h

module _ (f : Written) (p : Place) (t : Tops) (s : Gathered) where
  abbrev first_walk : WalkOutcome Kernel
  first_walk = body_in Pass.First f p (function_env (signature f [] false) t) s

  abbrev judged_walk : WalkOutcome Kernel
  judged_walk = judged_body f (straight (Some (length f.parameters)) f p) (function_env (signature f [] false) t) s

  abbrev behind_first : Kernel → Gathered → WalkOutcome Tops
  behind_first first s1 = cond s1.deep (refused TooMany p) (settled_function (aims_out first) (uses (length t.scope) first []) f p t s)

  pub first_is : (b : Kernel) (s1 : Gathered) → judged_walk ≡ first_walk → first_walk ≡ done b s1 → s1.deep ≡ false
      → add_function f p t s ≡ settled_function (aims_out b) (uses (length t.scope) b []) f p t s
  first_is b s1 j w d = ap (λ (o : WalkOutcome Kernel). after_walk o behind_first) (j ∙ w)
      ∙ ap (λ c. cond c (refused TooMany p) (settled_function (aims_out b) (uses (length t.scope) b []) f p t s)) d

  pub first_deep : (b : Kernel) (s1 : Gathered) → judged_walk ≡ first_walk → first_walk ≡ done b s1 → s1.deep ≡ true → add_function f p t s ≡ refused TooMany p
  first_deep b s1 j w d = ap (λ (o : WalkOutcome Kernel). after_walk o behind_first) (j ∙ w)
      ∙ ap (λ c. cond c (refused TooMany p) (settled_function (aims_out b) (uses (length t.scope) b []) f p t s)) d

  pub first_fails : (x : CheckError) → Fails x judged_walk → Fails x (add_function f p t s)
  first_fails x h = after_fails x judged_walk behind_first h

-- what a walk gathered is left
pub left_behind : (g g1 g2 : Bodies) (n : ℕ) (d : Bool) → n ≡ length (list g.bodies) → d ≡ g.deep
    → take (length (gathered g).bodies) (gathered g1).bodies ≡ (gathered g).bodies
    → gathered g2 ≡ record { bodies = take n (gathered g1).bodies; deep = d } → gathered g2 ≡ gathered g
left_behind g g1 g2 n d e f k h =
    let many : n ≡ length (gathered g).bodies = e ∙ sym (length-map (list g.bodies) procedure_view) in
    h ∙ ap (λ m. record { bodies = take m (gathered g1).bodies; deep = d }) many
    ∙ ap (λ (bs : List ProcedureView). record { bodies = bs; deep = d }) k
    ∙ ap (λ b. record { bodies = (gathered g).bodies; deep = b }) f

pub settle_step : (looping : Bool) (f : Written) (p : Place) (h h2 : List ℕ) (t t2 : Tops) (s s2 : Gathered) (m n : ℕ) (o : WalkOutcome Settled) → suc m ≡ n → t2 ≡ t → s2 ≡ s
    → body_settled (suc m) looping h f p t s ≡ body_settled m looping h2 f p t s → body_settled n looping h f p t s ≡ o → body_settled m looping h2 f p t2 s2 ≡ o
settle_step looping f p h h2 t t2 s s2 m n o e a b w same = ap (λ (z : Tops). body_settled m looping h2 f p z s2) a ∙ ap (λ z. body_settled m looping h2 f p t z) b ∙ sym w
    ∙ ap (λ k. body_settled k looping h f p t s) e ∙ same

pub settle_done : (looping : Bool) (f : Written) (p : Place) (h : List ℕ) (t : Tops) (s : Gathered) (m n : ℕ) (o u : WalkOutcome Settled) → suc m ≡ n
    → body_settled (suc m) looping h f p t s ≡ u → body_settled n looping h f p t s ≡ o → o ≡ u
settle_done looping f p h t s m n o u e w same = sym same ∙ ap (λ k. body_settled k looping h f p t s) (sym e) ∙ w

pub settle_fails : (x : CheckError) (looping : Bool) (f : Written) (p : Place) (h : List ℕ) (t : Tops) (s : Gathered) (m n : ℕ) (o : WalkOutcome Settled) → suc m ≡ n
    → Fails x (body_settled (suc m) looping h f p t s) → body_settled n looping h f p t s ≡ o → Fails x o
settle_fails OutOfMemory looping f p h t s m n o e w same = tt
settle_fails (Fault k q) looping f p h t s m n o e w same = settle_done looping f p h t s m n o (refused k q) e w same

pub settle_over : (looping : Bool) (f : Written) (p : Place) (h : List ℕ) (t : Tops) (s : Gathered) (n : ℕ) (o : WalkOutcome Settled) → n ≡ 0
    → body_settled n looping h f p t s ≡ o → o ≡ refused TooMany p
settle_over looping f p h t s n o e same = sym same ∙ ap (λ k. body_settled k looping h f p t s) e

-- a function, behind a first walk
module _ (looping : Bool) (h : List ℕ) (f : Written) (p : Place) (t t1 : Tops) (s s1 : Gathered)
    (told : add_function f p t s ≡ settled_function looping h f p t s) (kept : t1 ≡ t) (left : s1 ≡ s) where
  back : body_settled 66 looping h f p t s ≡ body_settled 66 looping h f p t1 s1
  back = ap (λ (z : Tops). body_settled 66 looping h f p z s) (sym kept) ∙ ap (λ z. body_settled 66 looping h f p t1 z) (sym left)

  abbrev measured : Settled → Gathered → WalkOutcome Tops
  measured r s2 = cond (nat_lt 60 (kernel_depth r.body)) (refused TooMany p) (done (with_function f r.hidden r.body t) s2)

  pub add_fails : (x : CheckError) → Fails x (body_settled 66 looping h f p t1 s1) → Fails x (add_function f p t s)
  add_fails OutOfMemory w = tt
  add_fails (Fault k q) w = told ∙ ap (λ (o : WalkOutcome Settled). after_walk o measured) (back ∙ w)

  pub add_deep : (r : Settled) (s2 : Gathered) → body_settled 66 looping h f p t1 s1 ≡ done r s2 → 60 < kernel_depth r.body → add_function f p t s ≡ refused TooMany p
  add_deep r s2 w d = told ∙ ap (λ (o : WalkOutcome Settled). after_walk o measured) (back ∙ w)
      ∙ ap (λ c. cond c (refused TooMany p) (done (with_function f r.hidden r.body t) s2)) (lt-ltb 60 (kernel_depth r.body) d)

  pub add_done : (r : Settled) (s2 s3 : Gathered) (t2 t3 : Tops) → body_settled 66 looping h f p t1 s1 ≡ done r s2 → kernel_depth r.body ≤ 60 → t2 ≡ t1 → t3 ≡ with_function f r.hidden r.body t2 → s3 ≡ s2
      → add_function f p t s ≡ done t3 s3
  add_done r s2 s3 t2 t3 w d a b g = told ∙ ap (λ (o : WalkOutcome Settled). after_walk o measured) (back ∙ w)
      ∙ ap (λ c. cond c (refused TooMany p) (done (with_function f r.hidden r.body t) s2)) (le-ltb 60 (kernel_depth r.body) d)
      ∙ ap (λ (z : Tops). done (with_function f r.hidden r.body z) s2) (sym (a ∙ kept)) ∙ ap (λ (z : Tops). done z s2) (sym b) ∙ ap (λ z. done t3 z) (sym g)

-- a function was added
pub defined_is : (f : Written) (hidden : List ℕ) (b : Kernel) (t t2 : Tops) → t2.scope ≡ t.scope
    → t2.functions ≡ t.functions ++ signature f hidden (is_empty hidden && is_plain (plain_with (length t.functions) t.functions) b) ∷ []
    → t2.procedures ≡ t.procedures ++ record { parameters = numbers (length t.scope) (names_of f.parameters) ++ hidden; body = b } ∷ []
    → t2.defined ≡ suc t.defined → t2 ≡ with_function f hidden b t
defined_is f hidden b t t2 x y z w =
    ap (λ (v : List (List ℕ)). record { scope = v; functions = t2.functions; procedures = t2.procedures; defined = t2.defined }) x
    ∙ ap (λ (v : List Signature). record { scope = t.scope; functions = v; procedures = t2.procedures; defined = t2.defined }) y
    ∙ ap (λ (v : List ProcedureView). record { scope = t.scope; functions = (with_function f hidden b t).functions; procedures = v; defined = t2.defined }) z
    ∙ ap (λ v. record { scope = t.scope; functions = (with_function f hidden b t).functions; procedures = (with_function f hidden b t).procedures; defined = v }) w

pub one_procedure : (ps qs : List Procedure) (q : Procedure) (ks ns : List ℕ) (b : Kernel) → qs ≡ ps ++ q ∷ [] → list q.parameters ≡ ks ++ ns → kernel q.body ≡ b
    → map procedure_view qs ≡ map procedure_view ps ++ record { parameters = ks ++ ns; body = b } ∷ []
one_procedure ps qs q ks ns b e g h = ap (λ (l : List Procedure). map procedure_view l) e ∙ map-append procedure_view ps (q ∷ [])
    ∙ ap (λ (l : List ℕ). map procedure_view ps ++ record { parameters = l; body = kernel q.body } ∷ []) g
    ∙ ap (λ z. map procedure_view ps ++ record { parameters = ks ++ ns; body = z } ∷ []) h
