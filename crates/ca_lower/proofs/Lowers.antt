-- Code that implements each text of a program stands for it; and what its runners come to.
use Rattle.std.proofs.Common.{◌≡◌, ◌≢◌, ℕ, zero, suc, ◌<◌, ◌≤◌, List, [], ◌∷◌, length, None, false, refl, sym, ◌∙◌, subst, arith, nat_lt, ◌==◌}
use Rattle.std.proofs.lemmas.Bool.{and_parts, eqb-true, ltb-true}
use Rattle.ca_value.specs.Tree.{Tree}
use Rattle.ca_term.specs.declared.place.Place.{Place}
use Rattle.ca_term.specs.declared.head.Head.TheVariants.{Call}
use Rattle.ca_term.specs.Kernel.{Kernel, const, var, apply, none, item}
use Rattle.ca_term.specs.Operation.{WantView}
use Rattle.ca_term.specs.Program.{ProgramView, ProcedureView, arity}
use Rattle.ca_meaning.specs.Body.{BodyView, At, local, at, at_op, fill, new_body}
use Rattle.ca_meaning.specs.Rest.{here}
use Rattle.ca_meaning.specs.Started.{named, procedure_at, started as started_text}
use Rattle.ca_meaning.proofs.Rests.{one_rest}
use Rattle.ca_states.specs.declared.code.EntryPoint.{EntryPoint}
use Rattle.ca_states.specs.declared.code.Exit.TheVariants.{Return}
use Rattle.ca_states.specs.Code.{CodeView, block_at, function_at, body_entry}
use Rattle.ca_states.specs.Machine.{Frame, RunnerState, Move, goes, ends, faults, waits, read, begun, begun_at, returned, move, runner_started, outermost, calling, resumed, IsHalt, ComesTo, halts, goes_on}
use Rattle.ca_states.specs.declared.runner.Start.TheVariants.{Function}
use Rattle.ca_states.specs.Valid.{main_entry}
use Rattle.ca_states.specs.Standing.{IsStart}
use Rattle.ca_lower.specs.Implements.{position, start_of, in_slots, ImplementsText, ImplementsProgram}
use Rattle.ca_lower.specs.Lowered.{After, AreAlike, StandsFor, Lowered}
use Rattle.ca_lower.proofs.Slots.{Holds, holds_begun}
use Rattle.ca_meaning.proofs.Contexts.{Context, whole}
use Rattle.ca_lower.proofs.Alike.{body, AlikeAt}
use Rattle.ca_lower.proofs.Heads.{called_at}
use Rattle.ca_lower.proofs.Goes.{Calls}
use Rattle.ca_lower.proofs.Loops.{gen}

module _ (P : ProgramView) (C : CodeView) where
  -- a text, from its entry point on
  text_alike : (t : ProcedureView) (e : EntryPoint) → ImplementsText C t e → (n : ℕ) → Calls P C n → (vs : List Tree) (K : List Frame) (E : Kernel → Kernel) (turns : ℕ) → length vs ≡ e.values → Context E → ((m : ℕ) → m ≤ n → (v : Tree) (turns : ℕ) → After P (AreAlike P C m) (returned v K turns) (body (E (const v)) turns (length K)))
      → AlikeAt P C n (start_of C e.block) (begun_at C e vs) K turns (E (started_text t vs))
  text_alike t e (b, ar, im) n calls vs K E turns len ctx ret =
      let width = (block_at C e.block).width in
      let here_holds : Holds (in_slots t.parameters 0) (named t.parameters vs) (begun width vs) e.values =
      subst (Holds (in_slots t.parameters 0) (named t.parameters vs) (begun width vs)) ar (holds_begun t.parameters vs width (len ∙ sym ar)) in
      gen P C t.body n None (in_slots t.parameters 0) (named t.parameters vs) e.values (start_of C e.block) (position b [] (Return e.values)) (begun_at C e vs) K E turns
      calls im here_holds tt ctx tt (λ k le s2 turns2 same2. ret k le (read s2 e.values) turns2)

  module _ (all : ImplementsProgram C P) where
    calls : (fuel n : ℕ) → n ≤ fuel → Calls P C n
    calls fuel n le zero le2 f vs K E turns ltf len ctx ret = tt
    calls zero n le (suc m) le2 f vs K E turns ltf len ctx ret = absurd (omega (arith, le, le2))
    calls (suc fuel) n le (suc m) le2 f vs K E turns ltf len ctx ret =
        let count = all.as_many in
        text_alike (procedure_at P.functions f) (function_at C f) (all.functions f (omega (arith, ltf, count))) m (calls fuel m (omega (arith, le, le2))) vs K E turns len ctx
        (λ k le3 v turns2. ret k (omega (arith, le3)) v turns2)

    text_stands : (t : ProcedureView) (e : EntryPoint) → ImplementsText C t e → (vs : List Tree) → length vs ≡ arity t → StandsFor P C (runner_started C e vs) (new_body (started_text t vs))
    text_stands t e im vs len = record { alike = by }
      where
        by : (n : ℕ) → AreAlike P C n (runner_started C e vs) (new_body (started_text t vs))
        by zero = tt
        by (suc n) = text_alike t e im n (calls n n (omega arith)) vs [] (λ u. u) 0 (len ∙ im.1) whole (λ m le v turns. (body (const v) turns 0, here, refl, refl))

    -- the text that has the value which it takes ends with what its first slot holds
    given_back : (n : ℕ) (s : List Tree) (turns : ℕ) → AlikeAt P C n (start_of C C.identity) s [] turns (const (read s 0))
    given_back n s turns =
        let v = read s 0 in
        let t = all.identity in
        gen P C (var 0) n None (in_slots (0 ∷ []) 0) ((0, v) ∷ []) 1 (start_of C C.identity) (position t.0 [] (Return 1)) s [] (λ u. u) turns
        (calls n n (omega arith)) t.2 (refl, omega arith, refl, tt) tt whole tt (λ k le s2 turns2 same. (body (const (read s2 1)) turns2 0, here, refl, refl))

    call_stands : (n : ℕ) (v : Tree) (p : Place) → n < length C.functions → (function_at C n).values ≡ 1 → StandsFor P C (calling C n (v ∷ [])) (new_body (apply (Call n) (item (const v) none) p))
    call_stands n v p lt one = record { alike = by }
      where
        by : (m : ℕ) → AreAlike P C m (calling C n (v ∷ [])) (new_body (apply (Call n) (item (const v) none) p))
        by m =
            let s = (outermost C).slots in
            called_at P C m n 0 C.identity (start_of C C.identity) p (v ∷ []) s s [] (λ u. u) 0 false false refl refl whole (λ k below. refl) (calls m m (omega arith)) lt (sym one) refl
            (λ k le s2 turns same. given_back k s2 turns)

    starts_there : (n : ℕ) → IsStart C (Function n) 1 → (n < length C.functions) × ((function_at C n).values ≡ 1)
    starts_there n h =
        let two = and_parts (nat_lt n (length C.functions)) ((function_at C n).values == 1) h in
        (ltb-true n (length C.functions) two.0, eqb-true (function_at C n).values 1 two.1)

    pub lowered : Lowered P C
    lowered = record {
      main = text_stands (record { parameters = []; body = P.main }) (main_entry C) all.main [] refl;
      bodies = λ n vs lt len. text_stands (procedure_at P.bodies n) (body_entry C n) (all.bodies n lt) vs len;
      functions = λ n vs lt len. text_stands (procedure_at P.functions n) (function_at C n) (all.functions n lt) vs len;
      calls = λ n v p start. let there = starts_there n start in call_stands n v p there.0 there.1;
    }

  not_local : (a : At) (w : WantView) → a ≡ at_op w → a ≢ local
  not_local a w e l = let f : at_op w ≡ local = sym e ∙ l in absurd cc

  ended : (m : Move) (b : BodyView) → IsHalt m → ((n : ℕ) → After P (AreAlike P C n) m b) → After P (StandsFor P C) m b
  ended (goes c) b h g = absurd h
  ended (ends v turns) b h g = g 0
  ended (faults f p turns) b h g = g 0
  ended (waits w d c) b h g =
      let a = g 0 in (
        a.0,
        a.1,
        a.2,
        a.3,
        λ v. record {
          alike = λ n.
              let z = g n in
              let e : z.0 ≡ a.0 = one_rest P b z.0 a.0 (record { reached = z.1; over = not_local (at z.0) w z.2 }) (record { reached = a.1; over = not_local (at a.0) w a.2 }) in
              subst (λ x. AreAlike P C n (resumed v d c) (fill v x)) e (z.4 v);
        },
      )

  pub comes : {c : RunnerState} {m : Move} (b : BodyView) → StandsFor P C c b → ComesTo C c m → After P (StandsFor P C) m b
  comes b g (goes_on c d m e r) = comes b (record { alike = λ n. subst (λ x. After P (AreAlike P C n) x b) e (g.alike (suc n)) }) r
  comes b g (halts {c} h) = ended (move C c) b h (λ n. g.alike (suc n))
