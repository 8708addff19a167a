-- Whether the code has the task that an operation starts.
use Rattle.ca_term.specs.Operation.{OpView, spawning}
use Rattle.ca_meaning.specs.Body.{At, at_op}
use Rattle.ca_states.specs.Code.{CodeView}
use Rattle.ca_agent.specs.Seeds.{HasSeed}

-- an operation that starts a task starts one that the code has
abbrev pub HasTask : CodeView → OpView → Type 0
HasTask C (spawning seed) = HasSeed C seed
HasTask C op = Unit {0}

-- so where something is paused
abbrev pub HasTaskAt : CodeView → At → Type 0
HasTaskAt C (at_op w) = HasTask C w.op
HasTaskAt C p = Unit {0}
