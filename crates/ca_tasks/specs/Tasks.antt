-- A task of a run is an agent as its machine is, or its system task.
use Rattle.ca_value.specs.Tree.{Tree}
use Rattle.ca_term.specs.Operation.{SeedView}
use Rattle.ca_term.specs.Program.{ProgramView}
use Rattle.ca_meaning.specs.Body.{At}
use Rattle.ca_meaning.specs.Task.{TaskBody}
use Rattle.ca_states.specs.Code.{CodeView}
use Rattle.ca_machine.specs.Machines as M
use Rattle.ca_machine.specs.View.{machine_view}
use Rattle.ca_tasks.specs.declared.task.AnyTask.{AnyTask}
use Rattle.ca_tasks.specs.declared.task.AnyTask.TheVariants.{Text, System}
use Rattle.ca_tasks.specs.Systems as S
use Rattle.ca_tasks.specs.Systems.{system_view}

abbrev pub task_over_code : CodeView → AnyTask → Type 0
task_over_code C (Text m) = M.IsOver C (machine_view m.value)
task_over_code C (System t) = S.IsSystemOver C (system_view t.value)

abbrev pub stands : ProgramView → AnyTask → TaskBody → Type 0
stands P (Text m) b = M.MachineStandsAs P (machine_view m.value) b
stands P (System t) b = S.SystemStandsAs P (system_view t.value) b

abbrev pub place : AnyTask → At
place (Text m) = (machine_view m.value).place
place (System t) = (system_view t.value).place

abbrev pub advances : ProgramView → AnyTask → AnyTask → Type 0
advances P (Text m) (Text n) = M.Advances (machine_view m.value) (machine_view n.value)
advances P (Text m) (System t) = ⊥
advances P (System t) (Text m) = ⊥
advances P (System t) (System u) = S.SystemAdvances P (system_view t.value) (system_view u.value)

abbrev pub gives : AnyTask → Tree → AnyTask → Type 0
gives (Text m) v (Text n) = M.MachineGives (machine_view m.value) v (machine_view n.value)
gives (Text m) v (System t) = ⊥
gives (System t) v (Text m) = ⊥
gives (System t) v (System u) = S.SystemGives (system_view t.value) v (system_view u.value)

abbrev pub starts : ProgramView → SeedView → AnyTask → Type 0
starts P seed (Text m) = M.Starts P seed (machine_view m.value)
starts P seed (System t) = S.SystemStarts seed (system_view t.value)
