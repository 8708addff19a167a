-- The worked journal of `(def g (go (quot 1 0))) (println (<!! g))` is that of one worker.
use Rattle.std.proofs.Common.{◌≡◌, [], ◌∷◌, refl, ◌∙◌, subst, Some, None, codes, arith}
use Rattle.std.proofs.lemmas.Map.{update_apart}
use Rattle.ca_value.specs.Tree.{nil, port}
use Rattle.ca_term.specs.declared.fault.Fault.TheVariants.{ZeroDivisor}
use Rattle.ca_term.specs.declared.event.Side.TheVariants.{Take}
use Rattle.ca_term.specs.declared.event.Ending.TheVariants.{Ended, Faulted}
use Rattle.ca_term.specs.declared.event.TaskKind.{TaskKind}
use Rattle.ca_term.specs.Operation.{fixed, taking}
use Rattle.ca_term.specs.Event.{take_of, made, spawned, parked, settled, printed, over as is_over}
use Rattle.ca_meaning.specs.Channel.{shut}
use Rattle.ca_meaning.specs.Worked.{line, go_faulted}
use Rattle.ca_meaning.specs.Scripts.{faulting}
use Rattle.ca_meaning.specs.Solo.{Desk, Solo, IsNext, CanSettle, NoneSettles, SettlesFirst, opening_desk, made_one, left, joined_by}
use Rattle.ca_meaning.proofs.Walks.{main_task, at_column}
use Rattle.ca_meaning.proofs.Desks.{Others, picked, told, none_settles, quiet_at, picks, goes_on_lane}
use Rattle.ca_meaning.proofs.Faulting.{main2, r, s0, s1, s2, s3, s4, s5, s6, s7, opens, makes, starts, waits, faults, settles_r, prints, ends}

-- the desks
abbrev d0 : Desk
d0 = opening_desk []

abbrev d1 : Desk
d1 = made_one (record (picked d0 0 []) { ports = 1 })

abbrev d2 : Desk
d2 = joined_by (Some 1) (made_one (record d1 { tasks = 1 }))

abbrev d3 : Desk
d3 = left (record (told (taking (port 1)) 0 d2) { waits = 1 })

abbrev d4 : Desk
d4 = left (picked d3 1 [])

abbrev d5 : Desk
d5 = joined_by (Some 0) d4

abbrev d6 : Desk
d6 = made_one (picked d5 0 [])

abbrev d7 : Desk
d7 = left d6

others1 : Others s1
others1 p a b = update_apart s0.channels 1 (Some r) p a

others5 : Others s5
others5 p a b = update_apart s4.channels 1 (Some (shut r)) p a ∙ update_apart s3.channels 1 (Some (shut r)) p a ∙ others1 p a b

still0 : NoneSettles s0
still0 = none_settles s0 (λ p a b. refl) None None refl refl tt tt

still1 : NoneSettles s1
still1 = none_settles s1 others1 (Some r) None refl refl refl tt

still2 : NoneSettles s2
still2 = none_settles s2 others1 (Some r) None refl refl refl tt

still3 : NoneSettles s3
still3 = none_settles s3 others1 (Some r) None refl refl refl tt

still5 : NoneSettles s5
still5 = none_settles s5 others5 (Some (shut r)) None refl refl refl tt

still6 : NoneSettles s6
still6 = none_settles s6 others5 (Some (shut r)) None refl refl refl tt

next0 : IsNext s0 d0 (made 0 1 (fixed 1) None) d1
next0 = (picked d0 0 [], still0, picks s0 d0 0 [] refl refl refl, (picked d0 0 [], refl, refl, refl))

next1 : IsNext s1 d1 (spawned 0 1 TaskKind.Go (Some 1)) d2
next1 = (d1, still1, goes_on_lane s1 d1 0 1 refl (omega arith), (refl, refl))

next2 : IsNext s2 d2 (parked 0 1 (take_of 1 ∷ [])) d3
next2 = (d2, still2, goes_on_lane s2 d2 0 2 refl (omega arith), (told (taking (port 1)) 0 d2, refl, (main_task main2, taking (port 1), refl, (at_column 34, refl), refl), refl))

next3 : IsNext s3 d3 (is_over 1 (Faulted ZeroDivisor (at_column 12) (Some (record { n = 1 })))) d4
next3 = (picked d3 1 [], still3, picks s3 d3 1 [] refl refl refl, refl)

-- channel 0 isn't there
first : SettlesFirst s4 1
first q lt x = quiet_at s4 0 None refl tt (let e : q ≡ 0 = omega (arith, lt) in subst (CanSettle s4) e x)

next4 : IsNext s4 d4 (settled 1 0 Take 1 nil) d5
next4 = (first, refl)

next5 : IsNext s5 d5 (printed 0 (line (codes "nil"))) d6
next5 = (picked d5 0 [], still5, picks s5 d5 0 [] refl refl refl, refl)

next6 : IsNext s6 d6 (is_over 0 Ended) d7
next6 = (d6, still6, goes_on_lane s6 d6 0 1 refl (omega arith), refl)

pub solo : Solo faulting [] go_faulted
solo = record {
  opening = s0;
  state = s7;
  desk = d7;
  opens = opens;
  steps = (s1, d1, makes, next0, (s2, d2, starts, next1, (s3, d3, waits, next2, (s4, d4, faults, next3, (s5, d5, settles_r, next4, (s6, d6, prints, next5, (s7, d7, ends, next6, (refl, refl))))))));
  none_left = refl;
}
