-- The worked journal of `(def c (chan)) (close! c) (println (>!! c 1))` is that of one worker.
use Rattle.std.proofs.Common.{[], refl, ◌∙◌, Some, None, false, codes, arith}
use Rattle.std.proofs.lemmas.Map.{update_apart}
use Rattle.ca_value.specs.Tree.{bool}
use Rattle.ca_term.specs.declared.event.Ending.TheVariants.{Ended}
use Rattle.ca_term.specs.Operation.{unbuffered}
use Rattle.ca_term.specs.Event.{made, done, closed, printed, over as is_over}
use Rattle.ca_meaning.specs.Channel.{shut}
use Rattle.ca_meaning.specs.Worked.{line, put_late}
use Rattle.ca_meaning.specs.Scripts.{putting_late}
use Rattle.ca_meaning.specs.Solo.{Desk, Solo, IsNext, NoneSettles, opening_desk, made_one, left}
use Rattle.ca_meaning.proofs.Walks.{main_task, at_column}
use Rattle.ca_meaning.proofs.Desks.{Others, picked, told, none_settles, picks, goes_on_lane}
use Rattle.ca_meaning.proofs.PuttingLate.{main2, c, op, put, s0, s1, s2, s3, s4, s5, opens, makes, closes, puts_it, prints, ends}

-- the desks
abbrev d0 : Desk
d0 = opening_desk []

abbrev d1 : Desk
d1 = made_one (record (picked d0 0 []) { ports = 1 })

abbrev d2 : Desk
d2 = made_one d1

abbrev d3 : Desk
d3 = made_one (told op 0 d2)

abbrev d4 : Desk
d4 = made_one d3

abbrev d5 : Desk
d5 = left d4

others1 : Others s1
others1 p a b = update_apart s0.channels 1 (Some c) p a

others2 : Others s2
others2 p a b = update_apart s1.channels 1 (Some (shut c)) p a ∙ others1 p a b

others3 : Others s3
others3 p a b = update_apart s2.channels 1 (Some (shut c)) p a ∙ others2 p a b

still0 : NoneSettles s0
still0 = none_settles s0 (λ p a b. refl) None None refl refl tt tt

still1 : NoneSettles s1
still1 = none_settles s1 others1 (Some c) None refl refl refl tt

still2 : NoneSettles s2
still2 = none_settles s2 others2 (Some (shut c)) None refl refl refl tt

still3 : NoneSettles s3
still3 = none_settles s3 others3 (Some (shut c)) None refl refl refl tt

still4 : NoneSettles s4
still4 = none_settles s4 others3 (Some (shut c)) None refl refl refl tt

next0 : IsNext s0 d0 (made 0 1 unbuffered None) d1
next0 = (picked d0 0 [], still0, picks s0 d0 0 [] refl refl refl, (picked d0 0 [], refl, refl, refl))

next1 : IsNext s1 d1 (closed 0 1) d2
next1 = (d1, still1, goes_on_lane s1 d1 0 1 refl (omega arith), refl)

next2 : IsNext s2 d2 (done 0 0 put (bool false)) d3
next2 = (
  d2,
  still2,
  goes_on_lane s2 d2 0 2 refl (omega arith),
  (told op 0 d2, (main_task main2, op, refl, (at_column 36, refl), λ pr j o is lt. absurd (omega (arith, lt))), (main_task main2, op, refl, (at_column 36, refl), refl), refl),
)

next3 : IsNext s3 d3 (printed 0 (line (codes "false"))) d4
next3 = (d3, still3, goes_on_lane s3 d3 0 3 refl (omega arith), refl)

next4 : IsNext s4 d4 (is_over 0 Ended) d5
next4 = (d4, still4, goes_on_lane s4 d4 0 4 refl (omega arith), refl)

pub solo : Solo putting_late [] put_late
solo = record {
  opening = s0;
  state = s5;
  desk = d5;
  opens = opens;
  steps = (s1, d1, makes, next0, (s2, d2, closes, next1, (s3, d3, puts_it, next2, (s4, d4, prints, next3, (s5, d5, ends, next4, (refl, refl))))));
  none_left = refl;
}
