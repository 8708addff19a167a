-- The worked journal of `(def c (chan)) (go (>! c 42)) (println (<!! c))` is that of one worker.
use Rattle.std.proofs.Common.{[], ◌∷◌, refl, ◌∙◌, Some, None, true, pos, codes, arith}
use Rattle.std.proofs.lemmas.Map.{update_apart}
use Rattle.ca_value.specs.Builtins.{builtin_result}
use Rattle.ca_value.specs.Tree.{bool, int, port}
use Rattle.ca_term.specs.declared.event.Side.TheVariants.{Put}
use Rattle.ca_term.specs.declared.event.Ending.TheVariants.{Ended}
use Rattle.ca_term.specs.declared.event.TaskKind.{TaskKind}
use Rattle.ca_term.specs.Operation.{unbuffered, fixed, taking, putting, posting}
use Rattle.ca_term.specs.Event.{take_of, put_of, made, spawned, done, met, parked, closed, printed, over as is_over}
use Rattle.ca_meaning.specs.Channel.{shut}
use Rattle.ca_meaning.specs.Worked.{line, put_and_take}
use Rattle.ca_meaning.specs.Scripts.{putting_once}
use Rattle.ca_meaning.specs.Solo.{Desk, Solo, IsNext, NoneSettles, opening_desk, made_one, left, joined_by}
use Rattle.ca_meaning.proofs.Walks.{main_task, go_task, at_column}
use Rattle.ca_meaning.proofs.Desks.{Others, picked, told, none_settles, picks, goes_on_lane}
use Rattle.ca_meaning.proofs.PuttingOnce.{main3, task0, task1, c, r, r_done, s0, s1, s2, s3, s4, s5, s6, s7, s8, s9, s10, opens, makes_c, makes_r, starts, waits, meets_it, puts_result, closes, ends, prints, main_ends}

-- the desks
abbrev d0 : Desk
d0 = opening_desk []

abbrev d1 : Desk
d1 = made_one (record (picked d0 0 []) { ports = 1 })

abbrev d2 : Desk
d2 = made_one (record d1 { ports = 2 })

abbrev d3 : Desk
d3 = joined_by (Some 1) (made_one (record d2 { tasks = 1 }))

abbrev d4 : Desk
d4 = left (record (told (taking (port 1)) 0 d3) { waits = 1 })

abbrev d5 : Desk
d5 = joined_by (Some 0) (made_one (told (putting (port 1) (int (pos 42))) 1 (picked d4 1 [])))

abbrev d6 : Desk
d6 = made_one (told (posting (port 2) (bool true)) 1 d5)

abbrev d7 : Desk
d7 = made_one d6

abbrev d8 : Desk
d8 = left d7

abbrev d9 : Desk
d9 = made_one (picked d8 0 [])

abbrev d10 : Desk
d10 = left d9

others1 : Others s1
others1 p a b = update_apart s0.channels 1 (Some c) p a

others2 : Others s2
others2 p a b = update_apart s1.channels 2 (Some r) p b ∙ others1 p a b

others6 : Others s6
others6 p a b = update_apart s5.channels 2 (Some r_done) p b ∙ others2 p a b

others7 : Others s7
others7 p a b = update_apart s6.channels 2 (Some (shut r_done)) p b ∙ others6 p a b

still0 : NoneSettles s0
still0 = none_settles s0 (λ p a b. refl) None None refl refl tt tt

still1 : NoneSettles s1
still1 = none_settles s1 others1 (Some c) None refl refl refl tt

still2 : NoneSettles s2
still2 = none_settles s2 others2 (Some c) (Some r) refl refl refl refl

still3 : NoneSettles s3
still3 = none_settles s3 others2 (Some c) (Some r) refl refl refl refl

still4 : NoneSettles s4
still4 = none_settles s4 others2 (Some c) (Some r) refl refl refl refl

still5 : NoneSettles s5
still5 = none_settles s5 others2 (Some c) (Some r) refl refl refl refl

still6 : NoneSettles s6
still6 = none_settles s6 others6 (Some c) (Some r_done) refl refl refl refl

still7 : NoneSettles s7
still7 = none_settles s7 others7 (Some c) (Some (shut r_done)) refl refl refl refl

still8 : NoneSettles s8
still8 = none_settles s8 others7 (Some c) (Some (shut r_done)) refl refl refl refl

still9 : NoneSettles s9
still9 = none_settles s9 others7 (Some c) (Some (shut r_done)) refl refl refl refl

next0 : IsNext s0 d0 (made 0 1 unbuffered None) d1
next0 = (picked d0 0 [], still0, picks s0 d0 0 [] refl refl refl, (picked d0 0 [], refl, refl, refl))

next1 : IsNext s1 d1 (made 0 2 (fixed 1) None) d2
next1 = (d1, still1, goes_on_lane s1 d1 0 1 refl (omega arith), (d1, refl, refl, refl))

next2 : IsNext s2 d2 (spawned 0 1 TaskKind.Go (Some 2)) d3
next2 = (d2, still2, goes_on_lane s2 d2 0 2 refl (omega arith), (refl, refl))

next3 : IsNext s3 d3 (parked 0 1 (take_of 1 ∷ [])) d4
next3 = (d3, still3, goes_on_lane s3 d3 0 3 refl (omega arith), (told (taking (port 1)) 0 d3, refl, (main_task main3, taking (port 1), refl, (at_column 40, refl), refl), refl))

next4 : IsNext s4 d4 (met 1 0 Put 1 (int (pos 42)) 1 0) d5
next4 = (
  picked d4 1 [],
  still4,
  picks s4 d4 1 [] refl refl refl,
  (
    told (putting (port 1) (int (pos 42))) 1 (picked d4 1 []),
    (go_task 2 task0, putting (port 1) (int (pos 42)), refl, (at_column 20, refl), λ pr j o is lt. absurd (omega (arith, lt))),
    (go_task 2 task0, putting (port 1) (int (pos 42)), refl, (at_column 20, refl), refl),
    refl,
  ),
)

next5 : IsNext s5 d5 (done 1 0 (put_of 2 (bool true)) (bool true)) d6
unfolding builtin_result
next5 = (
  d5,
  still5,
  goes_on_lane s5 d5 1 1 refl (omega arith),
  (
    told (posting (port 2) (bool true)) 1 d5,
    (go_task 2 task1, posting (port 2) (bool true), refl, (at_column 16, refl), λ pr j o is lt. absurd (omega (arith, lt))),
    (go_task 2 task1, posting (port 2) (bool true), refl, (at_column 16, refl), refl),
    refl,
  ),
)

next6 : IsNext s6 d6 (closed 1 2) d7
next6 = (d6, still6, goes_on_lane s6 d6 1 2 refl (omega arith), refl)

next7 : IsNext s7 d7 (is_over 1 Ended) d8
next7 = (d7, still7, goes_on_lane s7 d7 1 3 refl (omega arith), refl)

next8 : IsNext s8 d8 (printed 0 (line (codes "42"))) d9
next8 = (picked d8 0 [], still8, picks s8 d8 0 [] refl refl refl, refl)

next9 : IsNext s9 d9 (is_over 0 Ended) d10
next9 = (d9, still9, goes_on_lane s9 d9 0 1 refl (omega arith), refl)

pub solo : Solo putting_once [] put_and_take
solo = record {
  opening = s0;
  state = s10;
  desk = d10;
  opens = opens;
  steps = (s1, d1, makes_c, next0, (s2, d2, makes_r, next1, (s3, d3, starts, next2, (s4, d4, waits, next3, (s5, d5, meets_it, next4, (s6, d6, puts_result, next5, (s7, d7, closes, next6, (s8, d8, ends, next7, (s9, d9, prints, next8, (s10, d10, main_ends, next9, (refl, refl)))))))))));
  none_left = refl;
}
