-- A runner that stands for a body: it comes to the same operations with the same values, ends with the same
-- value or faults alike, at the same place and with as many turns, after any answers.
use Rattle.std.specs.Prelude.{◌≡◌, ℕ, zero, suc, ◌<◌, List, [], ◌∷◌, length}
use Rattle.ca_value.specs.Tree.{Tree}
use Rattle.ca_term.specs.declared.place.Place.{Place}
use Rattle.ca_term.specs.declared.head.Head.TheVariants.{Call}
use Rattle.ca_term.specs.Kernel.{const, apply, none, item}
use Rattle.ca_term.specs.Program.{ProgramView, arity}
use Rattle.ca_meaning.specs.Body.{BodyView, at, at_op, ended, faulted, fill, new_body}
use Rattle.ca_meaning.specs.Rest.{LocalSteps}
use Rattle.ca_meaning.specs.Started.{procedure_at, started as started_text}
use Rattle.ca_states.specs.Code.{CodeView, function_at, body_entry}
use Rattle.ca_states.specs.Machine.{RunnerState, Move, goes, ends, faults, waits, move, runner_started, calling, resumed}
use Rattle.ca_states.specs.Valid.{main_entry}
use Rattle.ca_states.specs.declared.runner.Start.TheVariants.{Function}
use Rattle.ca_states.specs.Standing.{IsStart}

-- what a block comes to is what the body comes to by local steps, where G relates what goes on
abbrev pub After : ProgramView → (RunnerState → BodyView → Type 0) → Move → BodyView → Type 0
After P G (goes c) b = G c b
After P G (ends v turns) b = (c : BodyView) × LocalSteps P b c × (at c ≡ ended v) × (c.turns ≡ turns)
After P G (faults f p turns) b = (c : BodyView) × LocalSteps P b c × (at c ≡ faulted f p) × (c.turns ≡ turns)
After P G (waits want answer d) b =
    (c : BodyView) × LocalSteps P b c × (at c ≡ at_op want) × (c.turns ≡ d.turns) × ((v : Tree) → G (resumed v answer d) (fill v c))

-- alike for so many blocks
abbrev pub AreAlike : ProgramView → CodeView → ℕ → RunnerState → BodyView → Type 0
AreAlike P C zero c b = Unit {0}
AreAlike P C (suc n) c b = After P (AreAlike P C n) (move C c) b

-- the runner goes as the body does, however long
pub record StandsFor (P : ProgramView) (C : CodeView) (c : RunnerState) (b : BodyView) : Type 0 where
  pub alike : (n : ℕ) → AreAlike P C n c b

-- The code of a program: a new runner at the main text, at each go body and at each function, with any values,
-- stands for that text with the values put in; and one that calls a function of one value by itself stands for that
-- call, at any place.
pub record Lowered (P : ProgramView) (C : CodeView) : Type 0 where
  pub main : StandsFor P C (runner_started C (main_entry C) []) (new_body P.main)
  pub bodies : (n : ℕ) (vs : List Tree) → n < length P.bodies → length vs ≡ arity (procedure_at P.bodies n)
      → StandsFor P C (runner_started C (body_entry C n) vs) (new_body (started_text (procedure_at P.bodies n) vs))
  pub functions : (n : ℕ) (vs : List Tree) → n < length P.functions → length vs ≡ arity (procedure_at P.functions n)
      → StandsFor P C (runner_started C (function_at C n) vs) (new_body (started_text (procedure_at P.functions n) vs))
  pub calls : (n : ℕ) (v : Tree) (p : Place) → IsStart C (Function n) 1 → StandsFor P C (calling C n (v ∷ [])) (new_body (apply (Call n) (item (const v) none) p))
