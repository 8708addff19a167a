-- The worked journal of `(def c (chan)) (go (<! c)) (go (<! c)) (>!! c 42)`: each of its steps is possible,
-- and changed ones are not.
use Rattle.std.proofs.Common.{◌≡◌, ℕ, [], ◌∷◌, refl, Some, None, true, false, eqb, pos, take, arith}
use Rattle.std.specs.Map.{update}
use Rattle.ca_value.specs.Builtins.{builtin_result}
use Rattle.ca_value.specs.Tree.{Tree, nil, bool, int, port, none, item}
use Rattle.ca_term.specs.declared.event.Side.TheVariants.{Put}
use Rattle.ca_term.specs.declared.event.Ending.TheVariants.{Ended}
use Rattle.ca_term.specs.declared.event.TaskKind.{TaskKind}
use Rattle.ca_term.specs.Operation.{OpView, unbuffered, fixed, taking, putting, go, SeedView}
use Rattle.ca_term.specs.Event.{BranchView, take_of, put_of, made, spawned, done, met, parked, over as is_over}
use Rattle.ca_value.specs.Buffer.{no_buffer, fixed_buffer}
use Rattle.ca_meaning.specs.Channel.{Channel, new_channel}
use Rattle.ca_meaning.specs.Body.{BodyView, fill, new_body}
use Rattle.ca_meaning.specs.Task.{script, new_task}
use Rattle.ca_meaning.specs.Wait.{Handler}
use Rattle.ca_meaning.specs.State.{State, waiting, over, Opening, opening_state}
use Rattle.ca_meaning.specs.Going.{RunsAtOperation}
use Rattle.ca_meaning.specs.Steps.{Step}
use Rattle.ca_meaning.specs.Legal.{Reaches, Legal}
use Rattle.ca_meaning.specs.Worked.{takes_one, first_taker, Never}
use Rattle.ca_meaning.specs.Scripts.{taking_twice}
use Rattle.ca_meaning.proofs.Walks.{later, walk, goes, at_column, main_task, go_task, body_of, meets_only, meets_not_done, other_number, impossible}

-- the main text as it comes to rest, time after time
abbrev main0 : BodyView
main0 = new_body taking_twice.main

abbrev main1 : BodyView
main1 = later taking_twice 1 (fill (port 1) main0)

abbrev main2 : BodyView
main2 = later taking_twice 2 (fill (port 2) main1)

abbrev main3 : BodyView
main3 = later taking_twice 3 (fill nil main2)

abbrev main4 : BodyView
main4 = later taking_twice 2 (fill (port 3) main3)

abbrev main5 : BodyView
main5 = later taking_twice 3 (fill nil main4)

abbrev main6 : BodyView
main6 = later taking_twice 2 (fill (bool true) main5)

abbrev seed1 : SeedView
seed1 = go 0 (item (port 1) none) 2 (at_column 16)

abbrev seed2 : SeedView
seed2 = go 1 (item (port 1) none) 3 (at_column 28)

-- the two tasks; the first one goes on with 42
abbrev first0 : BodyView
first0 = later taking_twice 1 (body_of (new_task taking_twice seed1))

abbrev first1 : BodyView
first1 = later taking_twice 4 (fill (int (pos 42)) first0)

abbrev second0 : BodyView
second0 = later taking_twice 1 (body_of (new_task taking_twice seed2))

abbrev c : Channel
c = new_channel no_buffer 0

abbrev r : Channel
r = new_channel fixed_buffer 1

-- the states
abbrev s0 : State
s0 = opening_state (script main0)

abbrev s1 : State
s1 = record s0 { tasks = update eqb s0.tasks 0 (Some (main_task main1)); channels = update eqb s0.channels 1 (Some c); registries = update eqb s0.registries 1 None }

abbrev s2 : State
s2 = record s1 { tasks = update eqb s1.tasks 0 (Some (main_task main2)); channels = update eqb s1.channels 2 (Some r); registries = update eqb s1.registries 2 None }

abbrev s3 : State
s3 = record s2 { tasks = update eqb (update eqb s2.tasks 0 (Some (main_task main3))) 1 (Some (go_task 2 first0)) }

abbrev s4 : State
s4 = record s3 { tasks = update eqb s3.tasks 0 (Some (main_task main4)); channels = update eqb s3.channels 3 (Some r); registries = update eqb s3.registries 3 None }

abbrev s5 : State
s5 = record s4 { tasks = update eqb (update eqb s4.tasks 0 (Some (main_task main5))) 2 (Some (go_task 3 second0)) }

abbrev s6 : State
s6 = record s5 { tasks = update eqb s5.tasks 1 (Some (record (go_task 2 first0) { mode = waiting 1 })); waits = takes_one 1 1 ∷ []; used = 1 ∷ [] }

abbrev s7 : State
s7 = record s6 { tasks = update eqb s6.tasks 2 (Some (record (go_task 3 second0) { mode = waiting 2 })); waits = takes_one 1 1 ∷ takes_one 2 2 ∷ []; used = 2 ∷ 1 ∷ [] }

abbrev s8 : State
s8 = record s7 { tasks = update eqb (update eqb s7.tasks 0 (Some (main_task main6))) 1 (Some (go_task 2 first1)); waits = takes_one 2 2 ∷ [] }

abbrev s9 : State
s9 = record s8 { tasks = update eqb s8.tasks 0 (Some (record (main_task main6) { mode = over })) }

abbrev op : OpView
op = putting (port 1) (int (pos 42))

abbrev put : BranchView
put = put_of 1 (int (pos 42))

abbrev first_handler : Handler
first_handler = record { wait = 1; branch = 0; value = nil }

opens : Opening taking_twice s0
opens = (script main0, (main0, walk taking_twice 0 main0 refl, refl), refl)

makes_c : Step taking_twice s0 (made 0 1 unbuffered None) s1
makes_c = (main_task main0, s1.tasks, (refl, refl, (at_column 8, refl), refl), refl, refl, refl, goes taking_twice s0.tasks 0 (main_task main0) main0 (port 1) 1 refl (refl, refl), refl)

makes_one : Step taking_twice s1 (made 0 2 (fixed 1) None) s2
makes_one = (main_task main1, s2.tasks, (refl, refl, (at_column 16, refl), refl), refl, refl, refl, goes taking_twice s1.tasks 0 (main_task main1) main1 (port 2) 2 refl (refl, (refl, refl)), refl)

starts_one : Step taking_twice s2 (spawned 0 1 TaskKind.Go (Some 2)) s3
starts_one = (
  main_task main2,
  seed1,
  update eqb s2.tasks 0 (Some (main_task main3)),
  script first0,
  (refl, refl, (at_column 16, refl), refl),
  refl,
  refl,
  refl,
  goes taking_twice s2.tasks 0 (main_task main2) main2 nil 3 refl (refl, (refl, (refl, refl))),
  (first0, walk taking_twice 1 (body_of (new_task taking_twice seed1)) (refl, refl), refl),
  refl,
)

makes_two : Step taking_twice s3 (made 0 3 (fixed 1) None) s4
makes_two = (main_task main3, s4.tasks, (refl, refl, (at_column 28, refl), refl), refl, refl, refl, goes taking_twice s3.tasks 0 (main_task main3) main3 (port 3) 2 refl (refl, (refl, refl)), refl)

starts_two : Step taking_twice s4 (spawned 0 2 TaskKind.Go (Some 3)) s5
starts_two = (
  main_task main4,
  seed2,
  update eqb s4.tasks 0 (Some (main_task main5)),
  script second0,
  (refl, refl, (at_column 28, refl), refl),
  refl,
  refl,
  refl,
  goes taking_twice s4.tasks 0 (main_task main4) main4 nil 3 refl (refl, (refl, (refl, refl))),
  (second0, walk taking_twice 1 (body_of (new_task taking_twice seed2)) (refl, refl), refl),
  refl,
)

waits_one : Step taking_twice s5 (parked 1 1 (take_of 1 ∷ [])) s6
waits_one = (go_task 2 first0, taking (port 1), (refl, refl, (at_column 20, refl), refl), refl, refl, refl, refl, refl, refl)

waits_two : Step taking_twice s6 (parked 2 2 (take_of 1 ∷ [])) s7
waits_two = (go_task 3 second0, taking (port 1), (refl, refl, (at_column 32, refl), refl), refl, refl, refl, refl, refl, refl)

puts_there : RunsAtOperation s7 0 op (main_task main5)
puts_there = (refl, refl, (at_column 40, refl), refl)

meets_it : Step taking_twice s7 (met 0 0 Put 1 (int (pos 42)) 1 0) s8
unfolding builtin_result
meets_it = (
  main_task main5,
  op,
  put,
  first_handler,
  update eqb s7.tasks 0 (Some (main_task main6)),
  s8.tasks,
  puts_there,
  (refl, λ e. absurd (let k : false ≡ true = e in cc)),
  refl,
  refl,
  refl,
  refl,
  refl,
  goes taking_twice s7.tasks 0 (main_task main5) main5 (bool true) 2 refl (refl, (refl, refl)),
  (record (go_task 2 first0) { mode = waiting 1 }, refl, refl, goes taking_twice (update eqb s7.tasks 0 (Some (main_task main6))) 1 (record (go_task 2 first0) { mode = waiting 1 }) first0 (int (pos 42)) 4 refl (refl, (refl, (refl, (refl, refl))))),
  refl,
)

ends : Step taking_twice s8 (is_over 0 Ended) s9
ends = (main_task main6, nil, (refl, refl), refl, refl)

until_waits : Reaches taking_twice (take 7 first_taker) s7
until_waits = record { opening = s0; opens = opens; steps = (s1, makes_c, (s2, makes_one, (s3, starts_one, (s4, makes_two, (s5, starts_two, (s6, waits_one, (s7, waits_two, refl))))))) }

pub legal : Legal taking_twice first_taker
legal = record {
  state = s9;
  reaches = record { opening = s0; opens = opens; steps = (s1, makes_c, (s2, makes_one, (s3, starts_one, (s4, makes_two, (s5, starts_two, (s6, waits_one, (s7, waits_two, (s8, meets_it, (s9, ends, refl))))))))) };
  goes_on = (refl, (refl, (refl, (refl, (refl, (refl, (refl, (refl, tt))))))));
}

-- whoever is met, it is the first wait, and 42 passes
only_first : (v : Tree) (w o : ℕ) (z : State) → Step taking_twice s7 (met 0 0 Put 1 v w o) z → (v ≡ int (pos 42)) × (w ≡ 1) × (o ≡ 0)
only_first v w o z k = meets_only taking_twice s7 z 0 op (main_task main5) puts_there 0 put first_handler (int (pos 42)) Put 1 v w o refl refl k

pub newest_taker : Never taking_twice 7 first_taker (met 0 0 Put 1 (int (pos 42)) 2 0)
newest_taker rest = impossible taking_twice (take 7 first_taker) rest (met 0 0 Put 1 (int (pos 42)) 2 0) s7 until_waits (λ z k. let e : 2 ≡ 1 = (only_first (int (pos 42)) 2 0 z k).1 in omega (arith, e))

pub other_value : Never taking_twice 7 first_taker (met 0 0 Put 1 (int (pos 43)) 1 0)
other_value rest = impossible taking_twice (take 7 first_taker) rest (met 0 0 Put 1 (int (pos 43)) 1 0) s7 until_waits (λ z k. other_number 43 42 refl (only_first (int (pos 43)) 1 0 z k).0)

pub no_done : Never taking_twice 7 first_taker (done 0 0 put (bool true))
no_done rest = impossible taking_twice (take 7 first_taker) rest (done 0 0 put (bool true)) s7 until_waits (λ z k. meets_not_done taking_twice s7 z 0 op (main_task main5) puts_there 0 put put first_handler (int (pos 42)) (bool true) refl refl k)
