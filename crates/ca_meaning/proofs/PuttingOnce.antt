-- The worked journal of `(def c (chan)) (go (>! c 42)) (println (<!! c))`: each of its steps is possible.
use Rattle.std.proofs.Common.{◌≡◌, ℕ, [], ◌∷◌, refl, Some, None, true, false, eqb, pos, codes, take, arith}
use Rattle.std.specs.Map.{update}
use Rattle.std.specs.Fmt.{digits}
use Rattle.ca_value.specs.Builtins.{builtin_result}
use Rattle.ca_value.specs.Tree.{Tree, nil, bool, int, port, none, item}
use Rattle.ca_term.specs.declared.event.Side.TheVariants.{Put}
use Rattle.ca_term.specs.Operation.{unbuffered, fixed, taking, putting, posting, go, SeedView}
use Rattle.ca_term.specs.declared.event.Ending.TheVariants.{Ended}
use Rattle.ca_term.specs.declared.event.TaskKind.{TaskKind}
use Rattle.ca_term.specs.Event.{BranchView, take_of, put_of, made, spawned, done, met, parked, closed, printed, over as is_over}
use Rattle.ca_value.specs.Buffer.{no_buffer, fixed_buffer}
use Rattle.ca_meaning.specs.Channel.{Channel, new_channel}
use Rattle.ca_meaning.specs.Body.{BodyView, fill, new_body}
use Rattle.ca_meaning.specs.Task.{script, new_task}
use Rattle.ca_meaning.specs.Wait.{Handler}
use Rattle.ca_meaning.specs.State.{State, waiting, over, Opening, opening_state, shut_at}
use Rattle.ca_meaning.specs.Going.{RunsAtOperation}
use Rattle.ca_meaning.specs.Steps.{Step}
use Rattle.ca_meaning.specs.Legal.{Reaches, Legal}
use Rattle.ca_meaning.specs.Worked.{line, put_and_take, Never}
use Rattle.ca_meaning.specs.Scripts.{putting_once}
use Rattle.ca_meaning.proofs.Walks.{later, walk, goes, at_column, main_task, go_task, body_of, meets_only, meets_not_done, other_number, impossible}

-- the main text as it comes to rest, time after time
abbrev pub main0 : BodyView
main0 = new_body putting_once.main

abbrev pub main1 : BodyView
main1 = later putting_once 1 (fill (port 1) main0)

abbrev pub main2 : BodyView
main2 = later putting_once 2 (fill (port 2) main1)

abbrev pub main3 : BodyView
main3 = later putting_once 3 (fill nil main2)

abbrev pub main4 : BodyView
main4 = fill (int (pos 42)) main3

abbrev pub main5 : BodyView
main5 = later putting_once 2 (fill nil main4)

abbrev pub seed : SeedView
seed = go 0 (item (port 1) none) 2 (at_column 16)

-- the go block's task, likewise
abbrev pub task0 : BodyView
task0 = later putting_once 1 (body_of (new_task putting_once seed))

abbrev pub task1 : BodyView
task1 = later putting_once 4 (fill (bool true) task0)

abbrev pub task2 : BodyView
task2 = later putting_once 2 (fill (bool true) task1)

abbrev pub task3 : BodyView
task3 = fill nil task2

abbrev pub c : Channel
c = new_channel no_buffer 0

abbrev pub r : Channel
r = new_channel fixed_buffer 1

abbrev pub r_done : Channel
r_done = record r { held = bool true ∷ [] }

-- the states
abbrev pub s0 : State
s0 = opening_state (script main0)

abbrev pub s1 : State
s1 = record s0 { tasks = update eqb s0.tasks 0 (Some (main_task main1)); channels = update eqb s0.channels 1 (Some c); registries = update eqb s0.registries 1 None }

abbrev pub s2 : State
s2 = record s1 { tasks = update eqb s1.tasks 0 (Some (main_task main2)); channels = update eqb s1.channels 2 (Some r); registries = update eqb s1.registries 2 None }

abbrev pub s3 : State
s3 = record s2 { tasks = update eqb (update eqb s2.tasks 0 (Some (main_task main3))) 1 (Some (go_task 2 task0)) }

abbrev pub s4 : State
s4 = record s3 { tasks = update eqb s3.tasks 0 (Some (record (main_task main3) { mode = waiting 1 })); waits = record { number = 1; owner = Some 0; branches = take_of 1 ∷ [] } ∷ []; used = 1 ∷ [] }

abbrev pub s5 : State
s5 = record s4 { tasks = update eqb (update eqb s4.tasks 1 (Some (go_task 2 task1))) 0 (Some (main_task main4)); waits = [] }

abbrev pub s6 : State
s6 = record s5 { tasks = update eqb s5.tasks 1 (Some (go_task 2 task2)); channels = update eqb s5.channels 2 (Some r_done) }

abbrev pub s7 : State
s7 = record s6 { tasks = update eqb s6.tasks 1 (Some (go_task 2 task3)); channels = shut_at 2 s6.channels }

abbrev pub s8 : State
s8 = record s7 { tasks = update eqb s7.tasks 1 (Some (record (go_task 2 task3) { mode = over })) }

abbrev pub s9 : State
s9 = record s8 { tasks = update eqb s8.tasks 0 (Some (main_task main5)) }

abbrev pub s10 : State
s10 = record s9 { tasks = update eqb s9.tasks 0 (Some (record (main_task main5) { mode = over })) }

pub makes_c : Step putting_once s0 (made 0 1 unbuffered None) s1
makes_c = (main_task main0, s1.tasks, (refl, refl, (at_column 8, refl), refl), refl, refl, refl, goes putting_once s0.tasks 0 (main_task main0) main0 (port 1) 1 refl (refl, refl), refl)

pub makes_r : Step putting_once s1 (made 0 2 (fixed 1) None) s2
makes_r = (main_task main1, s2.tasks, (refl, refl, (at_column 16, refl), refl), refl, refl, refl, goes putting_once s1.tasks 0 (main_task main1) main1 (port 2) 2 refl (refl, (refl, refl)), refl)

pub starts : Step putting_once s2 (spawned 0 1 TaskKind.Go (Some 2)) s3
starts = (
  main_task main2,
  seed,
  update eqb s2.tasks 0 (Some (main_task main3)),
  script task0,
  (refl, refl, (at_column 16, refl), refl),
  refl,
  refl,
  refl,
  goes putting_once s2.tasks 0 (main_task main2) main2 nil 3 refl (refl, (refl, (refl, refl))),
  (task0, walk putting_once 1 (body_of (new_task putting_once seed)) (refl, refl), refl),
  refl,
)

pub waits : Step putting_once s3 (parked 0 1 (take_of 1 ∷ [])) s4
waits = (main_task main3, taking (port 1), (refl, refl, (at_column 40, refl), refl), refl, refl, refl, refl, refl, refl)

pub meets_it : Step putting_once s4 (met 1 0 Put 1 (int (pos 42)) 1 0) s5
unfolding builtin_result digits
meets_it = (
  go_task 2 task0,
  putting (port 1) (int (pos 42)),
  put_of 1 (int (pos 42)),
  record { wait = 1; branch = 0; value = nil },
  update eqb s4.tasks 1 (Some (go_task 2 task1)),
  s5.tasks,
  (refl, refl, (at_column 20, refl), refl),
  (refl, λ e. absurd (let k : false ≡ true = e in cc)),
  refl,
  refl,
  refl,
  refl,
  refl,
  goes putting_once s4.tasks 1 (go_task 2 task0) task0 (bool true) 4 refl (refl, (refl, (refl, (refl, refl)))),
  (record (main_task main3) { mode = waiting 1 }, refl, refl, goes putting_once (update eqb s4.tasks 1 (Some (go_task 2 task1))) 0 (record (main_task main3) { mode = waiting 1 }) main3 (int (pos 42)) 0 refl refl),
  refl,
)

pub puts_result : Step putting_once s5 (done 1 0 (put_of 2 (bool true)) (bool true)) s6
unfolding builtin_result
puts_result = (
  go_task 2 task1,
  posting (port 2) (bool true),
  s6.tasks,
  r_done,
  (refl, refl, (at_column 16, refl), refl),
  (refl, λ e. absurd (let k : false ≡ true = e in cc)),
  refl,
  goes putting_once s5.tasks 1 (go_task 2 task1) task1 (bool true) 2 refl (refl, (refl, refl)),
  refl,
)

pub closes : Step putting_once s6 (closed 1 2) s7
unfolding builtin_result
closes = (go_task 2 task2, s7.tasks, (refl, refl, (at_column 16, refl), refl), goes putting_once s6.tasks 1 (go_task 2 task2) task2 nil 0 refl refl, refl)

pub ends : Step putting_once s7 (is_over 1 Ended) s8
unfolding builtin_result
ends = (go_task 2 task3, nil, (refl, refl), refl, refl)

pub prints : Step putting_once s8 (printed 0 (line (codes "42"))) s9
unfolding digits builtin_result
prints = (main_task main4, s9.tasks, (refl, refl, (at_column 31, refl), refl), goes putting_once s8.tasks 0 (main_task main4) main4 nil 2 refl (refl, (refl, refl)), refl)

pub main_ends : Step putting_once s9 (is_over 0 Ended) s10
unfolding builtin_result
main_ends = (main_task main5, nil, (refl, refl), refl, refl)

pub opens : Opening putting_once s0
opens = (script main0, (main0, walk putting_once 0 main0 refl, refl), refl)

pub legal : Legal putting_once put_and_take
legal = record {
  state = s10;
  reaches = record {
    opening = s0;
    opens = opens;
    steps = (s1, makes_c, (s2, makes_r, (s3, starts, (s4, waits, (s5, meets_it, (s6, puts_result, (s7, closes, (s8, ends, (s9, prints, (s10, main_ends, refl))))))))));
  };
  goes_on = (refl, (refl, (refl, (refl, (refl, (refl, (refl, (refl, (refl, tt)))))))));
}

-- the first four events lead to s4
until_wait : Reaches putting_once (take 4 put_and_take) s4
until_wait = record { opening = s0; opens = opens; steps = (s1, makes_c, (s2, makes_r, (s3, starts, (s4, waits, refl)))) }

pub puts_there : RunsAtOperation s4 1 (putting (port 1) (int (pos 42))) (go_task 2 task0)
puts_there = (refl, refl, (at_column 20, refl), refl)

abbrev pub put : BranchView
put = put_of 1 (int (pos 42))

abbrev waiting_take : Handler
waiting_take = record { wait = 1; branch = 0; value = nil }

-- whoever is met, it is that wait, and 42 passes
only_that : (v : Tree) (w o : ℕ) (z : State) → Step putting_once s4 (met 1 0 Put 1 v w o) z → (v ≡ int (pos 42)) × (w ≡ 1) × (o ≡ 0)
only_that v w o z k = meets_only putting_once s4 z 1 (putting (port 1) (int (pos 42))) (go_task 2 task0) puts_there 0 put waiting_take (int (pos 42)) Put 1 v w o refl refl k

pub other_value : Never putting_once 4 put_and_take (met 1 0 Put 1 (int (pos 43)) 1 0)
other_value rest = impossible putting_once (take 4 put_and_take) rest (met 1 0 Put 1 (int (pos 43)) 1 0) s4 until_wait (λ z k. other_number 43 42 refl (only_that (int (pos 43)) 1 0 z k).0)

pub other_wait : Never putting_once 4 put_and_take (met 1 0 Put 1 (int (pos 42)) 2 0)
other_wait rest = impossible putting_once (take 4 put_and_take) rest (met 1 0 Put 1 (int (pos 42)) 2 0) s4 until_wait (λ z k. let e : 2 ≡ 1 = (only_that (int (pos 42)) 2 0 z k).1 in omega (arith, e))

pub no_done : Never putting_once 4 put_and_take (done 1 0 put (bool true))
no_done rest = impossible putting_once (take 4 put_and_take) rest (done 1 0 put (bool true)) s4 until_wait
    (λ z k. meets_not_done putting_once s4 z 1 (putting (port 1) (int (pos 42))) (go_task 2 task0) puts_there 0 put put waiting_take (int (pos 42)) (bool true) refl refl k)
