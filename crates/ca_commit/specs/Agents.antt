-- An agent with its task's result port, and how many alts the task did or waits at.
use Rattle.std.specs.Prelude.{◌≡◌, ℕ, suc, Option}
use Rattle.ca_value.specs.Tree.{Tree}
use Rattle.ca_term.specs.Program.{ProgramView}
use Rattle.ca_term.specs.Operation.{OpView, SeedView, taking, putting, choosing, making, spawning, closing, registering, printing, posting}
use Rattle.ca_meaning.specs.Body.{At, local, at_op, ended, faulted, nowhere}
use Rattle.ca_meaning.specs.Task.{TaskBody}
use Rattle.ca_meaning.specs.TaskSteps.{result_of}

pub record TaskAgent (A : Type 0) : Type 0 where
  pub result : Option ℕ
  pub alts : ℕ
  pub agent : A

abbrev pub alts_by : OpView → ℕ → ℕ
alts_by (choosing ports priority default) n = suc n
alts_by (taking c) n = n
alts_by (putting c v) n = n
alts_by (making what) n = n
alts_by (spawning seed) n = n
alts_by (closing c) n = n
alts_by (registering name args) n = n
alts_by (printing line) n = n
alts_by (posting c v) n = n

abbrev pub alts_at : At → ℕ → ℕ
alts_at (at_op want) n = alts_by want.op n
alts_at local n = n
alts_at (ended v) n = n
alts_at (faulted f p) n = n
alts_at nowhere n = n

abbrev pub result_port : {A : Type 0} → TaskAgent A → Option ℕ
result_port a = a.result

-- the five relations of an agent, of it and its task
abbrev pub stands_of : {A : Type 0} → (ProgramView → A → TaskBody → Type 0) → ProgramView → TaskAgent A → Option ℕ → TaskBody → Type 0
stands_of stands program a r b = (a.result ≡ r) × stands program a.agent b

abbrev pub place_of : {A : Type 0} → (A → At) → TaskAgent A → At
place_of place a = place a.agent

abbrev pub advances_of : {A : Type 0} → (ProgramView → A → A → Type 0) → ProgramView → TaskAgent A → TaskAgent A → Type 0
advances_of advances program a c = (c.result ≡ a.result) × (c.alts ≡ a.alts) × advances program a.agent c.agent

-- answered by its own event
abbrev pub gives_of : {A : Type 0} → (A → At) → (A → Tree → A → Type 0) → TaskAgent A → Tree → TaskAgent A → Type 0
gives_of place gives a v c = (c.result ≡ a.result) × (c.alts ≡ alts_at (place a.agent) a.alts) × gives a.agent v c.agent

-- it waits, and has its alts counted
abbrev pub parks_of : {A : Type 0} → (A → At) → TaskAgent A → TaskAgent A → Type 0
parks_of place a c = (c.result ≡ a.result) × (c.alts ≡ alts_at (place a.agent) a.alts) × (c.agent ≡ a.agent)

-- answered after it waited
abbrev pub wakes_of : {A : Type 0} → (A → Tree → A → Type 0) → TaskAgent A → Tree → TaskAgent A → Type 0
wakes_of gives a v c = (c.result ≡ a.result) × (c.alts ≡ a.alts) × gives a.agent v c.agent

abbrev pub starts_of : {A : Type 0} → (ProgramView → SeedView → A → Type 0) → ProgramView → SeedView → TaskAgent A → Type 0
starts_of starts program seed c = (c.result ≡ result_of seed) × (c.alts ≡ 0) × starts program seed c.agent
