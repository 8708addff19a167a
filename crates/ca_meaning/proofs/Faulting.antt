-- The worked journal of `(def g (go (quot 1 0))) (println (<!! g))`: each of its steps is possible, and
-- changed ones are not.
use Rattle.std.proofs.Common.{◌≡◌, ℕ, [], ◌∷◌, refl, Some, None, eqb, pos, codes, take}
use Rattle.std.specs.Map.{update}
use Rattle.ca_value.specs.Builtins.{builtin_result}
use Rattle.ca_value.specs.Tree.{nil, int, port, none}
use Rattle.ca_term.specs.declared.fault.Fault.TheVariants.{ZeroDivisor}
use Rattle.ca_term.specs.declared.event.Side.TheVariants.{Take}
use Rattle.ca_term.specs.declared.event.Ending.TheVariants.{Ended, Faulted}
use Rattle.ca_term.specs.declared.event.TaskKind.{TaskKind}
use Rattle.ca_term.specs.Operation.{fixed, taking, go, SeedView}
use Rattle.ca_term.specs.Event.{take_of, made, spawned, parked, settled, printed, over as is_over}
use Rattle.ca_value.specs.Buffer.{fixed_buffer}
use Rattle.ca_meaning.specs.Channel.{Channel, new_channel, shut}
use Rattle.ca_meaning.specs.Body.{BodyView, fill, new_body}
use Rattle.ca_meaning.specs.Task.{script, new_task}
use Rattle.ca_meaning.specs.State.{State, waiting, over, Opening, opening_state, shut_at}
use Rattle.ca_meaning.specs.Going.{Runs}
use Rattle.ca_meaning.specs.Steps.{Step}
use Rattle.ca_meaning.specs.Legal.{Reaches, Legal}
use Rattle.ca_meaning.specs.Worked.{line, go_faulted, Never}
use Rattle.ca_meaning.specs.Scripts.{faulting}
use Rattle.ca_meaning.proofs.Walks.{later, walk, goes, at_column, main_task, go_task, body_of, settles_only, settles_not, faults_only, faults_not_ends, not_number, impossible}

-- the main text as it comes to rest, time after time
abbrev pub main0 : BodyView
main0 = new_body faulting.main

abbrev pub main1 : BodyView
main1 = later faulting 2 (fill (port 1) main0)

abbrev pub main2 : BodyView
main2 = later faulting 3 (fill nil main1)

abbrev pub main3 : BodyView
main3 = fill nil main2

abbrev pub main4 : BodyView
main4 = later faulting 2 (fill nil main3)

abbrev seed : SeedView
seed = go 0 none 1 (at_column 8)

abbrev pub task0 : BodyView
task0 = later faulting 2 (body_of (new_task faulting seed))

abbrev pub r : Channel
r = new_channel fixed_buffer 1

-- the states
abbrev pub s0 : State
s0 = opening_state (script main0)

abbrev pub s1 : State
s1 = record s0 { tasks = update eqb s0.tasks 0 (Some (main_task main1)); channels = update eqb s0.channels 1 (Some r); registries = update eqb s0.registries 1 None }

abbrev pub s2 : State
s2 = record s1 { tasks = update eqb (update eqb s1.tasks 0 (Some (main_task main2))) 1 (Some (go_task 1 task0)) }

abbrev pub s3 : State
s3 = record s2 { tasks = update eqb s2.tasks 0 (Some (record (main_task main2) { mode = waiting 1 })); waits = record { number = 1; owner = Some 0; branches = take_of 1 ∷ [] } ∷ []; used = 1 ∷ [] }

abbrev pub s4 : State
s4 = record s3 { tasks = update eqb s3.tasks 1 (Some (record (go_task 1 task0) { mode = over })); channels = shut_at 1 s3.channels }

abbrev pub s5 : State
s5 = record s4 { tasks = update eqb s4.tasks 0 (Some (main_task main3)); channels = update eqb s4.channels 1 (Some (shut r)); waits = [] }

abbrev pub s6 : State
s6 = record s5 { tasks = update eqb s5.tasks 0 (Some (main_task main4)) }

abbrev pub s7 : State
s7 = record s6 { tasks = update eqb s6.tasks 0 (Some (record (main_task main4) { mode = over })) }

pub opens : Opening faulting s0
opens = (script main0, (main0, walk faulting 0 main0 refl, refl), refl)

pub makes : Step faulting s0 (made 0 1 (fixed 1) None) s1
makes = (main_task main0, s1.tasks, (refl, refl, (at_column 8, refl), refl), refl, refl, refl, goes faulting s0.tasks 0 (main_task main0) main0 (port 1) 2 refl (refl, (refl, refl)), refl)

pub starts : Step faulting s1 (spawned 0 1 TaskKind.Go (Some 1)) s2
unfolding builtin_result
starts = (
  main_task main1,
  seed,
  update eqb s1.tasks 0 (Some (main_task main2)),
  script task0,
  (refl, refl, (at_column 8, refl), refl),
  refl,
  refl,
  refl,
  goes faulting s1.tasks 0 (main_task main1) main1 nil 3 refl (refl, (refl, (refl, refl))),
  (task0, walk faulting 2 (body_of (new_task faulting seed)) (refl, (refl, refl)), refl),
  refl,
)

pub waits : Step faulting s2 (parked 0 1 (take_of 1 ∷ [])) s3
waits = (main_task main2, taking (port 1), (refl, refl, (at_column 34, refl), refl), refl, refl, refl, refl, refl, refl)

pub faults : Step faulting s3 (is_over 1 (Faulted ZeroDivisor (at_column 12) (Some (record { n = 1 })))) s4
unfolding builtin_result
faults = (go_task 1 task0, (refl, refl), refl, refl, refl)

pub settles_r : Step faulting s4 (settled 1 0 Take 1 nil) s5
settles_r = (
  shut r,
  shut r,
  record { wait = 1; branch = 0; value = nil },
  s5.tasks,
  refl,
  refl,
  refl,
  refl,
  (record (main_task main2) { mode = waiting 1 }, refl, refl, goes faulting s4.tasks 0 (record (main_task main2) { mode = waiting 1 }) main2 nil 0 refl refl),
  refl,
)

pub prints : Step faulting s5 (printed 0 (line (codes "nil"))) s6
prints = (main_task main3, s6.tasks, (refl, refl, (at_column 25, refl), refl), goes faulting s5.tasks 0 (main_task main3) main3 nil 2 refl (refl, (refl, refl)), refl)

pub ends : Step faulting s6 (is_over 0 Ended) s7
ends = (main_task main4, nil, (refl, refl), refl, refl)

pub legal : Legal faulting go_faulted
legal = record {
  state = s7;
  reaches = record { opening = s0; opens = opens; steps = (s1, makes, (s2, starts, (s3, waits, (s4, faults, (s5, settles_r, (s6, prints, (s7, ends, refl))))))) };
  goes_on = (refl, (refl, (refl, (refl, (refl, (refl, tt))))));
}

until_wait : Reaches faulting (take 3 go_faulted) s3
until_wait = record { opening = s0; opens = opens; steps = (s1, makes, (s2, starts, (s3, waits, refl))) }

until_fault : Reaches faulting (take 4 go_faulted) s4
until_fault = record { opening = s0; opens = opens; steps = (s1, makes, (s2, starts, (s3, waits, (s4, faults, refl)))) }

task_runs : Runs s3.tasks 1 (go_task 1 task0)
task_runs = (refl, refl)

no_number : (n : ℕ) → None ≡ Some n → ⊥
no_number n e = cc

pub no_port : Never faulting 3 go_faulted (is_over 1 (Faulted ZeroDivisor (at_column 12) None))
no_port rest = impossible faulting (take 3 go_faulted) rest (is_over 1 (Faulted ZeroDivisor (at_column 12) None)) s3 until_wait (λ z k. no_number 1 (faults_only faulting s3 z 1 (go_task 1 task0) task_runs ZeroDivisor (at_column 12) None k).1)

pub no_value : Never faulting 3 go_faulted (is_over 1 Ended)
unfolding builtin_result
no_value rest = impossible faulting (take 3 go_faulted) rest (is_over 1 Ended) s3 until_wait (λ z k. faults_not_ends faulting s3 z 1 (go_task 1 task0) task_runs ZeroDivisor (at_column 12) refl k)

pub before_fault : Never faulting 3 go_faulted (settled 1 0 Take 1 nil)
before_fault rest = impossible faulting (take 3 go_faulted) rest (settled 1 0 Take 1 nil) s3 until_wait (λ z k. settles_not faulting s3 z 1 0 Take 1 nil r refl refl k)

pub other_value : Never faulting 4 go_faulted (settled 1 0 Take 1 (int (pos 7)))
other_value rest = impossible faulting (take 4 go_faulted) rest (settled 1 0 Take 1 (int (pos 7))) s4 until_fault
    (λ z k. not_number 7 (settles_only faulting s4 z 1 0 Take 1 (int (pos 7)) (shut r) refl Take nil (record { wait = 1; branch = 0; value = nil }) (shut r) refl k).0)
