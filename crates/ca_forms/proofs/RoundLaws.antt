-- Loops, and bodies of one form.
use Rattle.std.proofs.Common.{◌≡◌, suc, ◌+◌, List, [], ◌∷◌, ◌++◌, length, refl, ap, ◌∙◌, arith, length-append, Some}
use Rattle.ca_term.specs.declared.term.Term.{Term}
use Rattle.ca_term.specs.Kernel.{Kernel, Kernels, Bindings, loop, seq, none, item}
use Rattle.ca_term.specs.View.{kernel, kernels}
use Rattle.ca_forms.specs.declared.error.CheckError.{CheckError}
use Rattle.ca_forms.specs.declared.error.CheckError.TheVariants.{Fault, OutOfMemory}
use Rattle.ca_forms.specs.Outcome.{Gathered, WalkOutcome, done, refused, after_walk, limited}
use Rattle.ca_forms.specs.Meaning.{Env, Meaning, Named, inner, means_in_order, block, binds, behind, loops, iff, nothing}
use Rattle.ca_forms.specs.Operands.{with_last_term}
use Rattle.ca_forms.specs.Rounds.{turn_of}
use Rattle.ca_forms.specs.WalkView.{Fails}
use Rattle.ca_forms.proofs.PartLaws.{after_after, before_inner}

pub kernels_last : (ts : List Term) (t : Term) → kernels (ts ++ t ∷ []) ≡ with_last_term (kernels ts) (kernel t)
kernels_last [] t = refl
kernels_last (u ∷ ts) t = ap (item (kernel u)) (kernels_last ts t)

-- a body of one form
pub block_one : (m : Meaning) (e : Env) (s : Gathered) → block (m ∷ []) e s ≡ after_walk (m e s) (λ t s. limited (seq (item t none)) s)
block_one m e s = by (m e s) where
  by : (o : WalkOutcome Kernel) → after_walk (after_walk o (λ t s. after_walk (done none s) (λ ts s. done (item t ts) s))) (λ ts s. limited (seq ts) s) ≡ after_walk o (λ t s. limited (seq (item t none)) s)
  by (done t s) = refl
  by (refused x p) = refl

block_more : (ms : List Meaning) (m : Meaning) (e : Env) (s : Gathered) → block (ms ++ m ∷ []) e s ≡ after_walk (means_in_order (ms ++ m ∷ []) e s) (λ ts s. limited (seq ts) s)
block_more [] m e s = refl
block_more (a ∷ ms) m e s = refl

-- the last one stands where the whole stands, the others outside tail position
pub in_order_last : (ms : List Meaning) (m : Meaning) (e : Env) (s : Gathered)
    → means_in_order (ms ++ m ∷ []) e s ≡ after_walk (means_in_order ms (inner e) s) (λ ts s. after_walk (m e s) (λ u s. done (with_last_term ts u) s))
in_order_last [] m e s = refl
in_order_last (a ∷ ms) m e s = rw (length-append ms (m ∷ []), before_inner (length ms) e, more) (by (a (inner e) s) (λ s2. in_order_last ms m e s2)) where
  more : length ms + 1 ≡ suc (length ms)
  more = omega arith

  by : (o : WalkOutcome Kernel) → ((s2 : Gathered) → means_in_order (ms ++ m ∷ []) e s2 ≡ after_walk (means_in_order ms (inner e) s2) (λ ts s. after_walk (m e s) (λ u s. done (with_last_term ts u) s)))
      → after_walk o (λ t s. after_walk (means_in_order (ms ++ m ∷ []) e s) (λ ts s. done (item t ts) s))
      ≡ after_walk (after_walk o (λ t s. after_walk (means_in_order ms (inner e) s) (λ ts s. done (item t ts) s))) (λ ts s. after_walk (m e s) (λ u s. done (with_last_term ts u) s))
  by (refused x p) ih = refl
  by (done t s) ih = rw (ih s) (rest (means_in_order ms (inner e) s)) where
    rest : (o : WalkOutcome Kernels) → after_walk (after_walk o (λ ts s. after_walk (m e s) (λ u s. done (with_last_term ts u) s))) (λ ts s. done (item t ts) s)
        ≡ after_walk (after_walk o (λ ts s. done (item t ts) s)) (λ ts s. after_walk (m e s) (λ u s. done (with_last_term ts u) s))
    rest (refused x p) = refl
    rest (done ts s) = after_after (m e s) _ _

-- a turn by its test, its body and its `recur`
abbrev pub turns : Meaning → List Meaning → Meaning → Meaning
turns c ms next = block (iff c (block (ms ++ next ∷ [])) nothing ∷ [])

pub turn_walked : (c next : Meaning) (ms : List Meaning) (e : Env) (t u : Kernel) (ts : Kernels) (s s1 s2 : Gathered) → c (inner e) s ≡ done t s1 → means_in_order ms (inner e) s1 ≡ done ts s2 → next e s2 ≡ done u s2
    → turns c ms next e s ≡ turn_of t ts u s2
turn_walked c next ms e t u ts s s1 s2 h g k =
    block_one (iff c (block (ms ++ next ∷ [])) nothing) e s
    ∙ rw (h, block_more ms next e s1, in_order_last ms next e s1, g, k) (after_after (limited (seq (with_last_term ts u)) s2) _ _)

pub turn_fails : (x : CheckError) (c next : Meaning) (ms : List Meaning) (e : Env) (s : Gathered) → Fails x (c (inner e) s) → Fails x (turns c ms next e s)
turn_fails OutOfMemory c next ms e s h = tt
turn_fails (Fault q p) c next ms e s h = rw h refl

pub turn_body_fails : (x : CheckError) (c next : Meaning) (ms : List Meaning) (e : Env) (t : Kernel) (s s1 : Gathered) → c (inner e) s ≡ done t s1 → Fails x (means_in_order ms (inner e) s1) → Fails x (turns c ms next e s)
turn_body_fails OutOfMemory c next ms e t s s1 h g = tt
turn_body_fails (Fault q p) c next ms e t s s1 h g = rw (h, block_more ms next e s1, in_order_last ms next e s1, g) refl

-- a loop by its values and its body
pub loops_walked : (bs : List Named) (m : Meaning) (e : Env) (ts : Bindings) (s s1 : Gathered) (o : WalkOutcome Kernel) → binds bs e s ≡ done ts s1 → m (record (behind bs e) { target = Some (length bs) }) s1 ≡ o
    → loops bs m e s ≡ after_walk o (λ u s. limited (loop [] ts u) s)
loops_walked bs m e ts s s1 o h g = rw (h, g) refl

pub loops_fails : (x : CheckError) (bs : List Named) (m : Meaning) (e : Env) (ts : Bindings) (s s1 : Gathered) → binds bs e s ≡ done ts s1 → Fails x (m (record (behind bs e) { target = Some (length bs) }) s1) → Fails x (loops bs m e s)
loops_fails OutOfMemory bs m e ts s s1 h g = tt
loops_fails (Fault q p) bs m e ts s s1 h g = rw (h, g) refl
