-- The worked journal of `(def c (chan)) (close! c) (println (>!! c 1))`: each of its steps is possible, and
-- changed ones are not.
use Rattle.std.proofs.Common.{◌≡◌, ℕ, [], ◌∷◌, refl, Some, None, true, false, eqb, pos, codes, take}
use Rattle.std.specs.Map.{update}
use Rattle.ca_value.specs.Tree.{Tree, nil, bool, int, port}
use Rattle.ca_term.specs.declared.event.Ending.TheVariants.{Ended}
use Rattle.ca_term.specs.Operation.{OpView, unbuffered, putting}
use Rattle.ca_term.specs.Event.{BranchView, put_of, made, done, parked, closed, printed, over as is_over}
use Rattle.ca_value.specs.Buffer.{no_buffer}
use Rattle.ca_meaning.specs.Channel.{Channel, new_channel, shut}
use Rattle.ca_meaning.specs.Body.{BodyView, fill, new_body}
use Rattle.ca_meaning.specs.Task.{script}
use Rattle.ca_meaning.specs.State.{State, over, Opening, opening_state, shut_at}
use Rattle.ca_meaning.specs.Going.{RunsAtOperation}
use Rattle.ca_meaning.specs.Steps.{Step}
use Rattle.ca_meaning.specs.Legal.{Reaches, Legal}
use Rattle.ca_meaning.specs.Worked.{line, put_late, Never}
use Rattle.ca_meaning.specs.Scripts.{putting_late}
use Rattle.ca_meaning.proofs.Walks.{later, walk, goes, at_column, main_task, done_only, parks_unready, other_number, impossible}

-- the main text as it comes to rest, time after time
abbrev pub main0 : BodyView
main0 = new_body putting_late.main

abbrev pub main1 : BodyView
main1 = later putting_late 1 (fill (port 1) main0)

abbrev pub main2 : BodyView
main2 = later putting_late 1 (fill nil main1)

abbrev pub main3 : BodyView
main3 = fill (bool false) main2

abbrev pub main4 : BodyView
main4 = later putting_late 2 (fill nil main3)

abbrev pub c : Channel
c = new_channel no_buffer 0

-- the states
abbrev pub s0 : State
s0 = opening_state (script main0)

abbrev pub s1 : State
s1 = record s0 { tasks = update eqb s0.tasks 0 (Some (main_task main1)); channels = update eqb s0.channels 1 (Some c); registries = update eqb s0.registries 1 None }

abbrev pub s2 : State
s2 = record s1 { tasks = update eqb s1.tasks 0 (Some (main_task main2)); channels = shut_at 1 s1.channels }

abbrev pub s3 : State
s3 = record s2 { tasks = update eqb s2.tasks 0 (Some (main_task main3)); channels = update eqb s2.channels 1 (Some (shut c)) }

abbrev pub s4 : State
s4 = record s3 { tasks = update eqb s3.tasks 0 (Some (main_task main4)) }

abbrev pub s5 : State
s5 = record s4 { tasks = update eqb s4.tasks 0 (Some (record (main_task main4) { mode = over })) }

abbrev pub op : OpView
op = putting (port 1) (int (pos 1))

abbrev pub put : BranchView
put = put_of 1 (int (pos 1))

pub opens : Opening putting_late s0
opens = (script main0, (main0, walk putting_late 0 main0 refl, refl), refl)

pub makes : Step putting_late s0 (made 0 1 unbuffered None) s1
makes = (main_task main0, s1.tasks, (refl, refl, (at_column 8, refl), refl), refl, refl, refl, goes putting_late s0.tasks 0 (main_task main0) main0 (port 1) 1 refl (refl, refl), refl)

pub closes : Step putting_late s1 (closed 0 1) s2
closes = (main_task main1, s2.tasks, (refl, refl, (at_column 16, refl), refl), goes putting_late s1.tasks 0 (main_task main1) main1 nil 1 refl (refl, refl), refl)

pub puts_there : RunsAtOperation s2 0 op (main_task main2)
puts_there = (refl, refl, (at_column 36, refl), refl)

pub puts_it : Step putting_late s2 (done 0 0 put (bool false)) s3
puts_it = (main_task main2, op, s3.tasks, shut c, puts_there, (refl, λ e. absurd (let k : false ≡ true = e in cc)), refl, goes putting_late s2.tasks 0 (main_task main2) main2 (bool false) 0 refl refl, refl)

pub prints : Step putting_late s3 (printed 0 (line (codes "false"))) s4
prints = (main_task main3, s4.tasks, (refl, refl, (at_column 27, refl), refl), goes putting_late s3.tasks 0 (main_task main3) main3 nil 2 refl (refl, (refl, refl)), refl)

pub ends : Step putting_late s4 (is_over 0 Ended) s5
ends = (main_task main4, nil, (refl, refl), refl, refl)

pub legal : Legal putting_late put_late
legal = record {
  state = s5;
  reaches = record { opening = s0; opens = opens; steps = (s1, makes, (s2, closes, (s3, puts_it, (s4, prints, (s5, ends, refl))))) };
  goes_on = (refl, (refl, (refl, (refl, tt))));
}

until_close : Reaches putting_late (take 2 put_late) s2
until_close = record { opening = s0; opens = opens; steps = (s1, makes, (s2, closes, refl)) }

-- the one Done is that of the put, answered false
only_false : (b : BranchView) (a : Tree) (z : State) → Step putting_late s2 (done 0 0 b a) z → (b ≡ put) × (a ≡ bool false)
only_false b a z k = done_only putting_late s2 z 0 op (main_task main2) puts_there 0 put b (bool false) a (shut c) refl refl k

true_is_false : bool true ≡ bool false → ⊥
true_is_false e = cc

of_put : (m n : ℕ) → put_of 1 (int (pos m)) ≡ put_of 1 (int (pos n)) → int (pos m) ≡ int (pos n)
of_put m n e = cc

pub put_true : Never putting_late 2 put_late (done 0 0 put (bool true))
put_true rest = impossible putting_late (take 2 put_late) rest (done 0 0 put (bool true)) s2 until_close (λ z k. true_is_false (only_false put (bool true) z k).1)

pub other_value : Never putting_late 2 put_late (done 0 0 (put_of 1 (int (pos 2))) (bool false))
other_value rest = impossible putting_late (take 2 put_late) rest (done 0 0 (put_of 1 (int (pos 2))) (bool false)) s2 until_close (λ z k. other_number 2 1 refl (of_put 2 1 (only_false (put_of 1 (int (pos 2))) (bool false) z k).0))

pub no_wait : Never putting_late 2 put_late (parked 0 1 (put ∷ []))
no_wait rest = impossible putting_late (take 2 put_late) rest (parked 0 1 (put ∷ [])) s2 until_close (λ z k. parks_unready putting_late s2 z 0 op (main_task main2) puts_there 1 (put ∷ []) refl k)
