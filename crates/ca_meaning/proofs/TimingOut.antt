-- The worked journal of `(def t (timeout 100)) (def r (alts!! [(chan) t])) (println (first r) (= (nth r 1) t))`:
-- each of its steps is possible, and changed ones are not.
use Rattle.std.proofs.Common.{◌≡◌, [], ◌∷◌, refl, Some, None, Bool, true, false, eqb, codes, take, arith}
use Rattle.std.specs.Map.{update}
use Rattle.std.specs.Fmt.{digits}
use Rattle.ca_value.specs.Builtins.{builtin_result}
use Rattle.ca_value.specs.Tree.{nil, bool, port, vector, none, item}
use Rattle.ca_term.specs.declared.event.Side.TheVariants.{Take}
use Rattle.ca_term.specs.declared.event.Ending.TheVariants.{Ended}
use Rattle.ca_term.specs.Operation.{OpView, unbuffered, timeout, choosing}
use Rattle.ca_term.specs.Event.{take_of, made, parked, ticked, settled, printed, over as is_over}
use Rattle.ca_value.specs.Buffer.{no_buffer}
use Rattle.ca_meaning.specs.Channel.{Channel, new_channel, shut}
use Rattle.ca_meaning.specs.Body.{BodyView, fill, new_body}
use Rattle.ca_meaning.specs.Task.{script}
use Rattle.ca_meaning.specs.State.{State, waiting, over, Opening, opening_state, shut_at}
use Rattle.ca_meaning.specs.Steps.{Step}
use Rattle.ca_meaning.specs.Legal.{Reaches, Legal}
use Rattle.ca_meaning.specs.Worked.{line, timed_out, Never}
use Rattle.ca_meaning.specs.Scripts.{timing_out}
use Rattle.ca_meaning.proofs.Walks.{later, walk, goes, at_column, main_task, settles_only, settles_not, ticks_when_due, impossible}

-- the main text as it comes to rest, time after time
abbrev pub main0 : BodyView
main0 = new_body timing_out.main

abbrev pub main1 : BodyView
main1 = later timing_out 1 (fill (port 1) main0)

abbrev pub main2 : BodyView
main2 = later timing_out 1 (fill (port 2) main1)

abbrev pub main3 : BodyView
main3 = later timing_out 4 (fill (vector (item nil (item (port 1) none))) main2)

abbrev pub main4 : BodyView
main4 = later timing_out 2 (fill nil main3)

abbrev pub c : Channel
c = new_channel no_buffer 0

-- the states
abbrev pub s0 : State
s0 = opening_state (script main0)

abbrev pub s1 : State
s1 = record s0 { tasks = update eqb s0.tasks 0 (Some (main_task main1)); channels = update eqb s0.channels 1 (Some c); registries = update eqb s0.registries 1 None; deadlines = record { moment = 100; port = 1 } ∷ []; now = 0 }

abbrev pub s2 : State
s2 = record s1 { tasks = update eqb s1.tasks 0 (Some (main_task main2)); channels = update eqb s1.channels 2 (Some c); registries = update eqb s1.registries 2 None }

abbrev pub s3 : State
s3 = record s2 { tasks = update eqb s2.tasks 0 (Some (record (main_task main2) { mode = waiting 1 })); waits = record { number = 1; owner = Some 0; branches = take_of 2 ∷ take_of 1 ∷ [] } ∷ []; used = 1 ∷ [] }

abbrev pub s4 : State
s4 = record s3 { channels = shut_at 1 s3.channels; deadlines = []; now = 100 }

abbrev pub s5 : State
s5 = record s4 { tasks = update eqb s4.tasks 0 (Some (main_task main3)); channels = update eqb s4.channels 1 (Some (shut c)); waits = [] }

abbrev pub s6 : State
s6 = record s5 { tasks = update eqb s5.tasks 0 (Some (main_task main4)) }

abbrev pub s7 : State
s7 = record s6 { tasks = update eqb s6.tasks 0 (Some (record (main_task main4) { mode = over })) }

abbrev pub alts : OpView
alts = choosing (item (port 2) (item (port 1) none)) false None

pub opens : Opening timing_out s0
opens = (script main0, (main0, walk timing_out 0 main0 refl, refl), refl)

pub makes_t : Step timing_out s0 (made 0 1 (timeout 100) (Some 0)) s1
makes_t = (main_task main0, s1.tasks, (refl, refl, (at_column 8, refl), refl), refl, refl, (omega arith, omega arith), goes timing_out s0.tasks 0 (main_task main0) main0 (port 1) 1 refl (refl, refl), refl)

pub makes_c : Step timing_out s1 (made 0 2 unbuffered None) s2
unfolding builtin_result
makes_c = (main_task main1, s2.tasks, (refl, refl, (at_column 39, refl), refl), refl, refl, refl, goes timing_out s1.tasks 0 (main_task main1) main1 (port 2) 1 refl (refl, refl), refl)

pub waits : Step timing_out s2 (parked 0 1 (take_of 2 ∷ take_of 1 ∷ [])) s3
unfolding builtin_result
waits = (main_task main2, alts, (refl, refl, (at_column 30, refl), refl), refl, refl, refl, refl, refl, refl)

pub ticks : Step timing_out s3 (ticked 100 (1 ∷ [])) s4
ticks = (omega arith, omega arith, refl, λ e. cc, refl)

pub settles_t : Step timing_out s4 (settled 1 1 Take 1 nil) s5
unfolding builtin_result
settles_t = (
  shut c,
  shut c,
  record { wait = 1; branch = 1; value = nil },
  s5.tasks,
  refl,
  refl,
  refl,
  refl,
  (record (main_task main2) { mode = waiting 1 }, refl, refl, goes timing_out s4.tasks 0 (record (main_task main2) { mode = waiting 1 }) main2 (vector (item nil (item (port 1) none))) 4 refl (refl, (refl, (refl, (refl, refl))))),
  refl,
)

pub prints : Step timing_out s5 (printed 0 (line (codes "nil true"))) s6
unfolding digits builtin_result
prints = (main_task main3, s6.tasks, (refl, refl, (at_column 51, refl), refl), goes timing_out s5.tasks 0 (main_task main3) main3 nil 2 refl (refl, (refl, refl)), refl)

pub ends : Step timing_out s6 (is_over 0 Ended) s7
unfolding builtin_result
ends = (main_task main4, nil, (refl, refl), refl, refl)

pub legal : Legal timing_out timed_out
legal = record {
  state = s7;
  reaches = record { opening = s0; opens = opens; steps = (s1, makes_t, (s2, makes_c, (s3, waits, (s4, ticks, (s5, settles_t, (s6, prints, (s7, ends, refl))))))) };
  goes_on = (refl, (refl, (refl, (refl, (refl, (refl, tt))))));
}

not_nil : (b : Bool) → bool b ≡ nil → ⊥
not_nil b e = cc

until_wait : Reaches timing_out (take 3 timed_out) s3
until_wait = record { opening = s0; opens = opens; steps = (s1, makes_t, (s2, makes_c, (s3, waits, refl))) }

until_tick : Reaches timing_out (take 4 timed_out) s4
until_tick = record { opening = s0; opens = opens; steps = (s1, makes_t, (s2, makes_c, (s3, waits, (s4, ticks, refl)))) }

pub too_early : Never timing_out 3 timed_out (ticked 99 (1 ∷ []))
too_early rest = impossible timing_out (take 3 timed_out) rest (ticked 99 (1 ∷ [])) s3 until_wait (λ z k. ticks_when_due s3 z 99 (1 ∷ []) refl k)

pub before_tick : Never timing_out 3 timed_out (settled 1 1 Take 1 nil)
before_tick rest = impossible timing_out (take 3 timed_out) rest (settled 1 1 Take 1 nil) s3 until_wait (λ z k. settles_not timing_out s3 z 1 1 Take 1 nil c refl refl k)

pub other_branch : Never timing_out 4 timed_out (settled 1 0 Take 2 nil)
other_branch rest = impossible timing_out (take 4 timed_out) rest (settled 1 0 Take 2 nil) s4 until_tick (λ z k. settles_not timing_out s4 z 1 0 Take 2 nil c refl refl k)

pub other_answer : Never timing_out 4 timed_out (settled 1 1 Take 1 (bool true))
other_answer rest = impossible timing_out (take 4 timed_out) rest (settled 1 1 Take 1 (bool true)) s4 until_tick
    (λ z k. not_nil true (settles_only timing_out s4 z 1 1 Take 1 (bool true) (shut c) refl Take nil (record { wait = 1; branch = 1; value = nil }) (shut c) refl k).0)
