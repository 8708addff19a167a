-- A system task as it runs: its body, and where it is. What it stands for, and how it goes on.
use Rattle.std.specs.Prelude.{◌≡◌, Option, Some, None, IsTrue}
use Rattle.ca_value.specs.Tree.{Tree}
use Rattle.ca_value.specs.View.{view}
use Rattle.ca_term.specs.declared.head.PlainFunction.{PlainFunction}
use Rattle.ca_term.specs.Operation.{SeedView, go, system}
use Rattle.ca_term.specs.Program.{ProgramView}
use Rattle.ca_meaning.specs.Body.{At, local}
use Rattle.ca_meaning.specs.System.{SystemBody, SystemRest, new_system, system_at, system_fill}
use Rattle.ca_meaning.specs.Task.{TaskBody, script, system_task}
use Rattle.ca_states.specs.Code.{CodeView}
use Rattle.ca_states.specs.Valid.{is_applied}
use Rattle.ca_machine.specs.Tasks.{HasTaskAt}
use Rattle.ca_system.specs.Applications.{function_of}
use Rattle.ca_system.specs.Stands.{stand_at}
use Rattle.ca_system_tasks.specs.Tables.{table_body}
use Rattle.ca_tasks.specs.declared.system.SystemTask.{SystemTask}
use Rattle.ca_tasks.specs.declared.system.Stage.{Stage}
use Rattle.ca_tasks.specs.declared.system.Stage.TheVariants.{Resting, Answered, Standing}

-- its body, with its answer where it has one that it has not followed yet; and where it is, at a local step where it
-- goes on
pub record SystemView : Type 0 where
  pub body : SystemBody
  pub place : At

abbrev pub system_going_on : SystemBody → SystemView
system_going_on b = record { body = b; place = local }

abbrev pub stage_view : SystemBody → Stage → SystemView
stage_view b Resting = system_going_on b
stage_view b (Answered v) = system_going_on (system_fill (view v) b)
stage_view b (Standing s) = record { body = b; place = stand_at s }

abbrev pub system_view : SystemTask → SystemView
system_view t = stage_view (table_body t.table) t.stage

-- paused, it stands for its body; else for the body that its own comes to rest as
abbrev pub StandsFrom : ProgramView → At → SystemBody → SystemBody → Type 0
StandsFrom P local m b = SystemRest P m b
StandsFrom P p m b = (b ≡ m) × (p ≡ system_at m)

-- a system task stands for no script's text
abbrev pub SystemStandsAs : ProgramView → SystemView → TaskBody → Type 0
SystemStandsAs P m (script b) = ⊥
SystemStandsAs P m (system_task b) = StandsFrom P m.place m.body b

-- it comes to rest, and is where its body is
abbrev pub SystemGoesOn : ProgramView → SystemView → SystemView → Type 0
SystemGoesOn P m n = SystemRest P m.body n.body × (n.place ≡ system_at n.body)

-- to its next pause; where it is paused it stays
abbrev pub SystemAdvancesFrom : ProgramView → At → SystemView → SystemView → Type 0
SystemAdvancesFrom P local m n = SystemGoesOn P m n
SystemAdvancesFrom P p m n = n ≡ m

abbrev pub SystemAdvances : ProgramView → SystemView → SystemView → Type 0
SystemAdvances P m n = SystemAdvancesFrom P m.place m n

-- the answer is kept, and the task goes on
abbrev pub SystemGives : SystemView → Tree → SystemView → Type 0
SystemGives m v n = n ≡ system_going_on (system_fill v m.body)

-- a new task of a system task's seed, none of another
abbrev pub SystemStarts : SeedView → SystemView → Type 0
SystemStarts (go n values result place) m = ⊥
SystemStarts (system kind values place) m = m ≡ system_going_on (new_system kind values place)

-- the code has the function, with one parameter
abbrev pub HasAppliedFunction : CodeView → Option PlainFunction → Type 0
HasAppliedFunction C None = Unit {0}
HasAppliedFunction C (Some f) = IsTrue (is_applied C f)

-- the code has the function that the task applies, if it applies one
abbrev pub HasItsFunction : CodeView → SystemBody → Type 0
HasItsFunction C b = HasAppliedFunction C (function_of b)

-- over that code, and at no operation that starts a task which the code hasn't
abbrev pub IsSystemOver : CodeView → SystemView → Type 0
IsSystemOver C m = HasItsFunction C m.body × HasTaskAt C m.place
