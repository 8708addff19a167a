-- What a local step makes of a redex keeps what holds of it: no name is free, and each head suits.
use Rattle.std.proofs.Common.{◌≡◌, ℕ, suc, ◌+◌, ◌≤◌, List, [], ◌∷◌, ◌++◌, length, length-append, refl, ap, subst, arith, Bool, true, false, cond, ◌||◌, Option, Some, None}
use Rattle.std.proofs.lemmas.List.{length-map}
use Rattle.ca_value.specs.Tree.{Tree}
use Rattle.ca_term.specs.declared.head.Head.{Head}
use Rattle.ca_term.specs.declared.head.Head.TheVariants.{Recur, Builtin, Call, Take, Put, Alts, Make, Spawn, Close, Register, Print, Post}
use Rattle.ca_term.specs.Kernel.{Kernel, Kernels, Bindings, Founds, const, var, branch, bind, loop, seq, frame, turn, apply, none, item, empty, binding, put_bindings}
use Rattle.ca_term.specs.Closed.{IsClosed}
use Rattle.ca_term.specs.Fits.{count_terms, count_bindings, Fits}
use Rattle.ca_term.specs.Program.{ProgramView}
use Rattle.ca_meaning.specs.Redex.{is_value, value_of, values_of, is_ready_recur}
use Rattle.ca_meaning.specs.Operands.{truth, values_in}
use Rattle.ca_meaning.specs.Started.{named, names_found, procedure_at}
use Rattle.ca_meaning.specs.Body.{contract, after_turn}
use Rattle.ca_meaning.specs.Parts.{is_whole}
use Rattle.ca_meaning.proofs.Closed.{choose, named-closed, bound-loop, bound-turn, bound-let}
use Rattle.ca_meaning.proofs.PutFits.{put-fits, put-bindings, puts-fits, count_bindings-put}

-- What a judge of heads tells of them: a recur stands in a loop of its arity, and a function that is called is
-- a text of the program with so many parameters.
pub record Judges (program : ProgramView) (S : Option ℕ → Head → ℕ → Type 0) : Type 0 where
  pub recurs : (target : Option ℕ) (k : ℕ) → S target Recur k → target ≡ Some k
  pub counted : (target : Option ℕ) (n k : ℕ) → S target (Call n) k → length (procedure_at program.functions n).parameters ≡ k
  pub bound : (target : Option ℕ) (n k : ℕ) → S target (Call n) k → IsClosed (procedure_at program.functions n).parameters (procedure_at program.functions n).body
  pub fits : (target : Option ℕ) (n k : ℕ) → S target (Call n) k → Fits S None (procedure_at program.functions n).body

pub length-values : (ts : Kernels) → length (values_in (values_of ts)) ≡ count_terms ts
length-values none = refl
length-values (item t ts) = ap suc (length-values ts)

same-number : (m n : ℕ) → Some m ≡ Some n → m ≡ n
same-number m n e = cc

module _ (program : ProgramView) (S : Option ℕ → Head → ℕ → Type 0) (judges : Judges program S) where
  enough : (names : List ℕ) (ts : Kernels) → length names ≡ count_terms ts → length names ≤ length (values_in (values_of ts))
  enough names ts e = let k = length-values ts in omega (arith, e, k)

  turned-closed : (names : List ℕ) (text now : Kernel) → (is_value now || is_ready_recur now) ≡ true → Fits S (Some (length names)) now → IsClosed names text → IsClosed [] now → IsClosed [] (after_turn names text now)
  turned-closed names text (apply Recur ts p) w f h g = (h, named-closed names (values_in (values_of ts)) text (enough names ts (same-number (length names) (count_terms ts) (judges.recurs (Some (length names)) (count_terms ts) f.0))) h)
  turned-closed names text (const v) w f h g = tt
  turned-closed names text (var n) w f h g = g
  turned-closed names text (branch c a b) w f h g = g
  turned-closed names text (bind bs body) w f h g = g
  turned-closed names text (loop fs bs body) w f h g = g
  turned-closed names text (seq ts) w f h g = g
  turned-closed names text (frame body) w f h g = g
  turned-closed names text (turn ns t now) w f h g = g
  turned-closed names text (apply (Builtin b) ts p) w f h g = g
  turned-closed names text (apply (Call n) ts p) w f h g = g
  turned-closed names text (apply Take ts p) w f h g = g
  turned-closed names text (apply Put ts p) w f h g = g
  turned-closed names text (apply (Alts options) ts p) w f h g = g
  turned-closed names text (apply (Make kind) ts p) w f h g = g
  turned-closed names text (apply (Spawn kind) ts p) w f h g = g
  turned-closed names text (apply Close ts p) w f h g = g
  turned-closed names text (apply (Register name) ts p) w f h g = g
  turned-closed names text (apply Print ts p) w f h g = g
  turned-closed names text (apply Post ts p) w f h g = g

  pub contract-closed : (target : Option ℕ) (t : Kernel) → is_whole t ≡ true → Fits S target t → IsClosed [] t → IsClosed [] (contract program t)
  contract-closed target (const v) w f h = tt
  contract-closed target (var n) w f h = h
  contract-closed target (branch c a b) w f h = choose (truth (value_of c)) a b h.1 h.2
  contract-closed target (bind empty body) w f h = h.1
  contract-closed target (bind (binding n t bs) body) w f h = bound-let n t bs body h
  contract-closed target (loop fs empty body) w f h = bound-turn fs body h
  contract-closed target (loop fs (binding n t bs) body) w f h = bound-loop fs n t bs body h
  contract-closed target (seq none) w f h = tt
  contract-closed target (seq (item t none)) w f h = h.0
  contract-closed target (seq (item t (item u us))) w f h = h.1
  contract-closed target (frame body) w f h = h
  contract-closed target (turn ns text now) w f h = turned-closed ns text now w f.1 h.0 h.1
  contract-closed target (apply (Builtin b) ts p) w f h = tt
  contract-closed target (apply (Call n) ts p) w f h = named-closed (procedure_at program.functions n).parameters (values_in (values_of ts)) (procedure_at program.functions n).body (enough (procedure_at program.functions n).parameters ts (judges.counted target n (count_terms ts) f.0)) (judges.bound target n (count_terms ts) f.0)
  contract-closed target (apply Recur ts p) w f h = h
  contract-closed target (apply Take ts p) w f h = h
  contract-closed target (apply Put ts p) w f h = h
  contract-closed target (apply (Alts options) ts p) w f h = h
  contract-closed target (apply (Make kind) ts p) w f h = h
  contract-closed target (apply (Spawn kind) ts p) w f h = h
  contract-closed target (apply Close ts p) w f h = h
  contract-closed target (apply (Register name) ts p) w f h = h
  contract-closed target (apply Print ts p) w f h = h
  contract-closed target (apply Post ts p) w f h = h

  choose-fits : (target : Option ℕ) (b : Bool) (x y : Kernel) → Fits S target x → Fits S target y → Fits S target (cond b x y)
  choose-fits target true x y g h = g
  choose-fits target false x y g h = h

  turned-fits : (target : Option ℕ) (names : List ℕ) (text now : Kernel) → (is_value now || is_ready_recur now) ≡ true → Fits S (Some (length names)) text → Fits S target (after_turn names text now)
  turned-fits target names text (apply Recur ts p) w f = (f, puts-fits S (named names (values_in (values_of ts))) (Some (length names)) text f)
  turned-fits target names text (const v) w f = tt
  turned-fits target names text (var n) w f = cc
  turned-fits target names text (branch c a b) w f = cc
  turned-fits target names text (bind bs body) w f = cc
  turned-fits target names text (loop fs bs body) w f = cc
  turned-fits target names text (seq ts) w f = cc
  turned-fits target names text (frame body) w f = cc
  turned-fits target names text (turn ns t now) w f = cc
  turned-fits target names text (apply (Builtin b) ts p) w f = cc
  turned-fits target names text (apply (Call n) ts p) w f = cc
  turned-fits target names text (apply Take ts p) w f = cc
  turned-fits target names text (apply Put ts p) w f = cc
  turned-fits target names text (apply (Alts options) ts p) w f = cc
  turned-fits target names text (apply (Make kind) ts p) w f = cc
  turned-fits target names text (apply (Spawn kind) ts p) w f = cc
  turned-fits target names text (apply Close ts p) w f = cc
  turned-fits target names text (apply (Register name) ts p) w f = cc
  turned-fits target names text (apply Print ts p) w f = cc
  turned-fits target names text (apply Post ts p) w f = cc

  frame-fits : (target : Option ℕ) (body : Kernel) → is_value body ≡ true → Fits S target body
  frame-fits target (const v) w = tt
  frame-fits target (var n) w = cc
  frame-fits target (branch c a b) w = cc
  frame-fits target (bind bs body) w = cc
  frame-fits target (loop fs bs body) w = cc
  frame-fits target (seq ts) w = cc
  frame-fits target (frame body) w = cc
  frame-fits target (turn ns t now) w = cc
  frame-fits target (apply f ts p) w = cc

  loop-fits : (fs : Founds) (n : ℕ) (v : Tree) (bs : Bindings) (body : Kernel) → Fits S (Some (length fs + suc (count_bindings bs))) body → Fits S (Some (length (fs ++ (n, v) ∷ []) + count_bindings (put_bindings n v bs))) body
  loop-fits fs n v bs body h =
      let a = length-append fs ((n, v) ∷ []) in
      let b = count_bindings-put n v bs in
      let e : length fs + suc (count_bindings bs) ≡ length (fs ++ (n, v) ∷ []) + count_bindings (put_bindings n v bs) = omega (arith, a, b) in
      subst (λ k. Fits S (Some k) body) e h

  turn-fits : (fs : Founds) (body : Kernel) → Fits S (Some (length fs + 0)) body → Fits S (Some (length (names_found fs))) body
  turn-fits fs body h =
      let a = length-map fs (λ (f : ℕ × Tree). f.0) in
      let e : length fs + 0 ≡ length (names_found fs) = omega (arith, a) in
      subst (λ k. Fits S (Some k) body) e h

  pub contract-fits : (target : Option ℕ) (t : Kernel) → is_whole t ≡ true → Fits S target t → Fits S target (contract program t)
  contract-fits target (const v) w f = tt
  contract-fits target (var n) w f = tt
  contract-fits target (branch c a b) w f = choose-fits target (truth (value_of c)) a b f.1 f.2
  contract-fits target (bind empty body) w f = f.1
  contract-fits target (bind (binding n t bs) body) w f = (put-bindings S n (value_of t) bs f.0.1, put-fits S n (value_of t) target body f.1)
  contract-fits target (loop fs empty body) w f = let k = turn-fits fs body f.1 in (k, puts-fits S fs (Some (length (names_found fs))) body k)
  contract-fits target (loop fs (binding n t bs) body) w f = (put-bindings S n (value_of t) bs f.0.1, loop-fits fs n (value_of t) bs body f.1)
  contract-fits target (seq none) w f = tt
  contract-fits target (seq (item t none)) w f = f
  contract-fits target (seq (item t (item u us))) w f = f.1
  contract-fits target (frame body) w f = frame-fits target body w
  contract-fits target (turn ns text now) w f = turned-fits target ns text now w f.0
  contract-fits target (apply (Builtin b) ts p) w f = tt
  contract-fits target (apply (Call n) ts p) w f = puts-fits S (named (procedure_at program.functions n).parameters (values_in (values_of ts))) None (procedure_at program.functions n).body (judges.fits target n (count_terms ts) f.0)
  contract-fits target (apply Recur ts p) w f = f
  contract-fits target (apply Take ts p) w f = f
  contract-fits target (apply Put ts p) w f = f
  contract-fits target (apply (Alts options) ts p) w f = f
  contract-fits target (apply (Make kind) ts p) w f = f
  contract-fits target (apply (Spawn kind) ts p) w f = f
  contract-fits target (apply Close ts p) w f = f
  contract-fits target (apply (Register name) ts p) w f = f
  contract-fits target (apply Print ts p) w f = f
  contract-fits target (apply Post ts p) w f = f
