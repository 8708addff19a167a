-- A task of a run is a lawful agent, since its machine is, or its system task.
use Rattle.std.proofs.Common.{◌≡◌}
use Rattle.ca_value.specs.Tree.{Tree}
use Rattle.ca_term.specs.declared.place.Place.{Place}
use Rattle.ca_term.specs.Operation.{SeedView, WantView, spawning}
use Rattle.ca_term.specs.Program.{ProgramView}
use Rattle.ca_meaning.specs.Body.{at_op}
use Rattle.ca_meaning.specs.Task.{TaskBody, BodyRest, body_at, body_fill, new_task}
use Rattle.ca_states.specs.Code.{CodeView}
use Rattle.ca_agent.specs.Seeds.{HasSeed}
use Rattle.ca_machine.specs.MachineLaws as M
use Rattle.ca_machine.specs.View.{machine_view}
use Rattle.ca_tasks.specs.declared.task.AnyTask.{AnyTask}
use Rattle.ca_tasks.specs.declared.task.AnyTask.TheVariants.{Text, System}
use Rattle.ca_tasks.specs.SystemLaws as S
use Rattle.ca_tasks.specs.Systems.{system_view}
use Rattle.ca_tasks.specs.Tasks.{advances, gives, task_over_code, place, stands, starts}

pub task_advanced : (P : ProgramView) (a c : AnyTask) (b : TaskBody) → stands P a b → advances P a c → stands P c b × (place c ≡ body_at b)
task_advanced P (Text m) (Text n) b st go_on = M.machine_advanced P (machine_view m.value) (machine_view n.value) b st go_on
task_advanced P (Text m) (System t) b st go_on = absurd go_on
task_advanced P (System t) (Text m) b st go_on = absurd go_on
task_advanced P (System t) (System u) b st go_on = S.system_advanced P (system_view t.value) (system_view u.value) b st go_on

pub task_answered : (P : ProgramView) (a c : AnyTask) (b : TaskBody) (w : WantView) (v : Tree) → stands P a b → place a ≡ body_at b → place a ≡ at_op w → gives a v c → (d : TaskBody) × BodyRest P (body_fill v b) d × stands P c d
task_answered P (Text m) (Text n) b w v st at is g = M.machine_answered P (machine_view m.value) (machine_view n.value) b w v st is g
task_answered P (Text m) (System t) b w v st at is g = absurd g
task_answered P (System t) (Text m) b w v st at is g = absurd g
task_answered P (System t) (System u) b w v st at is g = S.system_answered P (system_view t.value) (system_view u.value) b w v st is g

pub task_stays : (C : CodeView) (a c : AnyTask) (v : Tree) → gives a v c → task_over_code C a → task_over_code C c
task_stays C (Text m) (Text n) v g = M.machine_stays_over C (machine_view m.value) (machine_view n.value) v g
task_stays C (Text m) (System t) v g = absurd g
task_stays C (System t) (Text m) v g = absurd g
task_stays C (System t) (System u) v g = S.system_stays_over C (system_view t.value) (system_view u.value) v g

pub task_asked : (C : CodeView) (a : AnyTask) (seed : SeedView) (p : Place) → task_over_code C a → place a ≡ at_op (record { op = spawning seed; place = p }) → HasSeed C seed
task_asked C (Text m) seed p o e = M.machine_asked C (machine_view m.value) seed p o e
task_asked C (System t) seed p o e = S.system_asked C (system_view t.value) seed p o e

pub task_started : (P : ProgramView) (seed : SeedView) (a : AnyTask) → starts P seed a → (b : TaskBody) × BodyRest P (new_task P seed) b × stands P a b
task_started P seed (Text m) s = M.machine_started P seed (machine_view m.value) s
task_started P seed (System t) s = S.system_started P seed (system_view t.value) s
