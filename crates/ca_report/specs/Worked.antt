-- Worked journals and the reports on them.
use Rattle.std.specs.Prelude.{ℕ, List, [], ◌∷◌, Some, None, true, pos, codes}
use Rattle.ca_value.specs.Tree.{nil, bool, int}
use Rattle.ca_term.specs.declared.event.Ending.TheVariants.{Ended}
use Rattle.ca_term.specs.Operation.{unbuffered, dropping}
use Rattle.ca_term.specs.Event.{take_of, put_of, EventView, made, done, parked, closed, printed, over}
use Rattle.ca_meaning.specs.History.{channel_in}
use Rattle.ca_meaning.specs.State.{State}
use Rattle.ca_meaning.specs.Wait.{Wait}
use Rattle.ca_meaning.specs.Worked.{line}

-- a state with the channels that the journal tells, and these waits; a report reads nothing else of it
abbrev pub told_by : List EventView → List Wait → State
told_by journal waits = record {
  tasks = λ t. None;
  channels = λ p. channel_in p journal;
  registries = λ p. None;
  deadlines = [];
  now = 0;
  waits = waits;
  used = [];
}

-- `(def c (chan (dropping-buffer 1))) (println (>!! c 1) (>!! c 2)) (close! c) (println (<!! c) (<!! c))`
abbrev pub put_twice : List EventView
put_twice =
    made 0 1 (dropping 1) None
    ∷ done 0 0 (put_of 1 (int (pos 1))) (bool true)
    ∷ done 0 0 (put_of 1 (int (pos 2))) (bool true)
    ∷ printed 0 (line (codes "true true"))
    ∷ closed 0 1
    ∷ done 0 0 (take_of 1) (int (pos 1))
    ∷ done 0 0 (take_of 1) nil
    ∷ printed 0 (line (codes "1 nil"))
    ∷ over 0 Ended
    ∷ []

abbrev pub put_twice_lines : List (List ℕ)
put_twice_lines =
    codes "events 9 cost 9"
    ∷ codes "p1 chan dropping 1: accepted 2 passed 0 given 1 dropped 1 held 0 closed"
    ∷ []

-- `(def c (chan)) (alts!! [c [c 1]])`
abbrev pub both_sides : List EventView
both_sides = made 0 1 unbuffered None ∷ parked 0 1 (take_of 1 ∷ put_of 1 (int (pos 1)) ∷ []) ∷ []

abbrev pub both_sides_wait : Wait
both_sides_wait = record { number = 1; owner = Some 0; branches = take_of 1 ∷ put_of 1 (int (pos 1)) ∷ [] }

abbrev pub both_sides_lines : List (List ℕ)
both_sides_lines =
    codes "events 2 cost 2"
    ∷ codes "p1 chan none: accepted 0 passed 0 given 0 dropped 0 held 0 open"
    ∷ codes "w1 t0: take p1, put p1 1"
    ∷ []

abbrev pub put_and_take_report : List (List ℕ)
put_and_take_report =
    codes "events 10 cost 10"
    ∷ codes "p1 chan none: accepted 0 passed 1 given 0 dropped 0 held 0 open"
    ∷ codes "p2 chan fixed 1: accepted 1 passed 0 given 0 dropped 0 held 1 closed"
    ∷ []
