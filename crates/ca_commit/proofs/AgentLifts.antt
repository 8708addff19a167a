-- An agent's laws are those of the agent with its task's result port.
use Rattle.std.proofs.Common.{sym, ap, ◌∙◌, subst}
use Rattle.ca_value.specs.Tree.{Tree}
use Rattle.ca_term.specs.Program.{ProgramView}
use Rattle.ca_term.specs.Operation.{SeedView}
use Rattle.ca_meaning.specs.Body.{At}
use Rattle.ca_meaning.specs.Task.{TaskBody}
use Rattle.ca_agent.specs.Agents.{Advanced, Answered, Started}
use Rattle.ca_commit.specs.Agents.{advances_of, gives_of, parks_of, place_of, result_port, stands_of, starts_of, wakes_of}
use Rattle.ca_commit.proofs.AgentLaws.{Begins, GoesOn, StaysPaused, TakesAnswers, TellsResult}

module _ {A : Type 0} (stands : ProgramView → A → TaskBody → Type 0) (place : A → At) where
  pub lifts_advance : (advances : ProgramView → A → A → Type 0) → Advanced stands place advances → GoesOn (stands_of stands) (place_of place) (advances_of advances)
  lifts_advance advances law program a c r b st go = let k = law program a.agent c.agent b st.1 go.2 in ((go.0 ∙ st.0, k.0), k.1)

  pub lifts_answer : (gives : A → Tree → A → Type 0) → Answered stands place gives → TakesAnswers (stands_of stands) (place_of place) (gives_of place gives)
  lifts_answer gives law program a c r b w v st e f go = let k = law program a.agent c.agent b w v st.1 e f go.2 in (k.0, k.1, (go.0 ∙ st.0, k.2))

  pub lifts_wake : (gives : A → Tree → A → Type 0) → Answered stands place gives → TakesAnswers (stands_of stands) (place_of place) (wakes_of gives)
  lifts_wake gives law program a c r b w v st e f go = let k = law program a.agent c.agent b w v st.1 e f go.2 in (k.0, k.1, (go.0 ∙ st.0, k.2))

  pub lifts_park : StaysPaused (stands_of stands) (place_of place) (parks_of place)
  lifts_park program a c r b st go = ((go.0 ∙ st.0, subst (λ (x : A). stands program x b) (sym go.2) st.1), ap place go.2)

  pub lifts_start : (starts : ProgramView → SeedView → A → Type 0) → Started stands place starts → Begins (stands_of stands) (place_of place) (starts_of starts)
  lifts_start starts law program seed a go = let k = law program seed a.agent go.2 in (k.0, k.1, (go.0, k.2))

  pub lifts_result : TellsResult (stands_of stands) (place_of place) result_port
  lifts_result program a r b st = st.0
