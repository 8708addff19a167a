-- A runner and a body that go alike.
use Rattle.std.proofs.Common.{◌≡◌, ℕ, zero, suc, ◌≤◌, List, length, None, Option, false, sym, ap, ap₂, ◌∙◌, subst, arith}
use Rattle.ca_value.specs.Tree.{Tree}
use Rattle.ca_term.specs.Program.{ProgramView}
use Rattle.ca_term.specs.Kernel.{Kernel}
use Rattle.ca_meaning.specs.Redex.{redex, replace, is_value, is_ready_recur}
use Rattle.ca_meaning.specs.Body.{BodyView, local, at, standing, contract, turns_after, depth_after, fault_of, step, fill}
use Rattle.ca_meaning.specs.declared.body.FaultAt.{FaultAt}
use Rattle.ca_meaning.specs.Rest.{LocalSteps, here, after}
use Rattle.ca_states.specs.Code.{CodeView}
use Rattle.ca_states.specs.Machine.{Frame, RunnerState, Move, goes, ends, faults, waits, runs_block, move, resumed}
use Rattle.ca_lower.specs.Lowered.{After, AreAlike}
use Rattle.ca_lower.specs.Implements.{CodePosition, position, start_of}
use Rattle.ca_meaning.proofs.Contexts.{Context}

abbrev pub body : Kernel → ℕ → ℕ → BodyView
body t turns depth = record { term = t; turns = turns; depth = depth; fault = None }

abbrev pub next_of : Kernel → ℕ → ℕ → Option FaultAt → BodyView
next_of t turns depth f = record { term = t; turns = turns; depth = depth; fault = f }

abbrev pub state : ℕ → List Tree → List Frame → ℕ → RunnerState
state n s K turns = record { block = n; slots = s; frames = K; turns = turns }

abbrev pub run_from : CodeView → CodePosition → List Tree → List Frame → ℕ → Move
run_from C (position n is x) s K turns = runs_block C is x (state n s K turns)

-- alike from a place in a block on
abbrev pub AlikeAt : ProgramView → CodeView → ℕ → CodePosition → List Tree → List Frame → ℕ → Kernel → Type 0
AlikeAt P C n p s K turns t = After P (AreAlike P C n) (run_from C p s K turns) (body t turns (length K))

module _ (P : ProgramView) where
  pub steps_on : {a b c : BodyView} → LocalSteps P a b → LocalSteps P b c → LocalSteps P a c
  steps_on here q = q
  steps_on (after l p) q = after l (steps_on p q)

  pub after_back : (G : RunnerState → BodyView → Type 0) → ((c : RunnerState) (a b : BodyView) → LocalSteps P a b → G c b → G c a) → (m : Move) (a b : BodyView) → LocalSteps P a b → After P G m b → After P G m a
  after_back G h (goes c) a b s g = h c a b s g
  after_back G h (ends v turns) a b s g = (g.0, steps_on s g.1, g.2, g.3)
  after_back G h (faults f p turns) a b s g = (g.0, steps_on s g.1, g.2, g.3)
  after_back G h (waits w d c) a b s g = (g.0, steps_on s g.1, g.2, g.3, g.4)

  pub after_map : (G H : RunnerState → BodyView → Type 0) → ((c : RunnerState) (b : BodyView) → G c b → H c b) → (m : Move) (b : BodyView) → After P G m b → After P H m b
  after_map G H h (goes c) b g = h c b g
  after_map G H h (ends v turns) b g = g
  after_map G H h (faults f p turns) b g = g
  after_map G H h (waits w d c) b g = (g.0, g.1, g.2, g.3, λ v. h (resumed v d c) (fill v g.0) (g.4 v))

  module _ (C : CodeView) where
    pub alike_back : (n : ℕ) (c : RunnerState) (a b : BodyView) → LocalSteps P a b → AreAlike P C n c b → AreAlike P C n c a
    alike_back zero c a b s g = tt
    alike_back (suc n) c a b s g = after_back (AreAlike P C n) (alike_back n) (move C c) a b s g

    pub alike_less : (m n : ℕ) → m ≤ n → (c : RunnerState) (b : BodyView) → AreAlike P C n c b → AreAlike P C m c b
    alike_less zero n le c b g = tt
    alike_less (suc m) zero le c b g = absurd (omega arith)
    alike_less (suc m) (suc n) le c b g = let le' : m ≤ n = omega (arith, le) in after_map (AreAlike P C n) (AreAlike P C m) (alike_less m n le') (move C c) b g

    -- to another block
    pub alike_next : (n : ℕ) (to : ℕ) (s : List Tree) (K : List Frame) (turns : ℕ) (b : BodyView) → ((m : ℕ) → suc m ≤ n → After P (AreAlike P C m) (run_from C (start_of C to) s K turns) b) → AreAlike P C n (state to s K turns) b
    alike_next zero to s K turns b h = tt
    alike_next (suc n) to s K turns b h = h n (omega arith)

  -- where a body stands whose term goes on at a place
  pub stands : (E : Kernel → Kernel) (r : Kernel) (turns depth : ℕ) → Context E → is_value r ≡ false → is_ready_recur r ≡ false → redex r ≡ r → at (body (E r) turns depth) ≡ standing turns depth r
  stands E r turns depth c v q e = ap (standing turns depth) (c.redex_in r v q ∙ e)

  pub filled : (E : Kernel → Kernel) (r u : Kernel) → Context E → is_value r ≡ false → is_ready_recur r ≡ false → replace u r ≡ u → replace u (E r) ≡ E u
  filled E r u c v q e = c.replace_in u r v q ∙ ap E e

  -- one local step at the place
  pub fire : (E : Kernel → Kernel) (r u : Kernel) (turns depth : ℕ) → Context E → is_value r ≡ false → is_ready_recur r ≡ false → redex r ≡ r → contract P r ≡ u → replace u r ≡ u → fault_of r ≡ None → standing turns depth r ≡ local
      → LocalSteps P (body (E r) turns depth) (body (E u) (turns_after r turns) (depth_after r depth))
  fire E r u turns depth c v q e k x f l =
      let place : redex (E r) ≡ r = c.redex_in r v q ∙ e in
      let to : step P (body (E r) turns depth) ≡ body (E u) (turns_after r turns) (depth_after r depth) =
      ap (λ z. next_of (replace (contract P z) (E r)) (turns_after z turns) (depth_after z depth) (fault_of z)) place
      ∙ ap (λ z. next_of (replace z (E r)) (turns_after r turns) (depth_after r depth) (fault_of r)) k
      ∙ ap₂ (λ t g. next_of t (turns_after r turns) (depth_after r depth) g) (filled E r u c v q x) f in
      after (stands E r turns depth c v q e ∙ l) (subst (λ b. LocalSteps P b (body (E u) (turns_after r turns) (depth_after r depth))) (sym to) here)
