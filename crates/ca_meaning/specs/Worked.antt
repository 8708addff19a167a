-- Worked journals, and the moments in them that a wrong rule would spoil.
use Rattle.std.specs.Prelude.{◌≡◌, ℕ, List, [], ◌∷◌, ◌++◌, take, Some, None, true, false, pos, codes}
use Rattle.ca_value.specs.Tree.{nil, bool, int, port}
use Rattle.ca_value.specs.Buffer.{no_buffer}
use Rattle.ca_term.specs.declared.place.Place.{Place}
use Rattle.ca_term.specs.declared.fault.Fault.{Fault}
use Rattle.ca_term.specs.declared.fault.Fault.TheVariants.{ZeroDivisor}
use Rattle.ca_term.specs.declared.event.Side.TheVariants.{Take, Put}
use Rattle.ca_term.specs.declared.event.Ending.TheVariants.{Ended, Faulted}
use Rattle.ca_term.specs.declared.event.TaskKind.{TaskKind}
use Rattle.ca_term.specs.Operation.{unbuffered, fixed, timeout, putting}
use Rattle.ca_term.specs.Program.{ProgramView}
use Rattle.ca_term.specs.Event.{take_of, put_of, EventView, made, spawned, done, met, parked, settled, closed, printed, ticked, over}
use Rattle.ca_meaning.specs.Channel.{Channel, new_channel, shut}
use Rattle.ca_meaning.specs.Body.{faulted}
use Rattle.ca_meaning.specs.Task.{body_at}
use Rattle.ca_meaning.specs.Wait.{Wait}
use Rattle.ca_meaning.specs.State.{State, Task, waiting}
use Rattle.ca_meaning.specs.Going.{Runs, RunsAtOperation}
use Rattle.ca_meaning.specs.Legal.{Legal}

abbrev pub line : List ℕ → List ℕ
line s = s ++ 10 ∷ []

abbrev pub lines : List (List ℕ) → List ℕ
lines [] = []
lines (s ∷ ss) = line s ++ lines ss

-- `(def c (chan)) (go (>! c 42)) (println (<!! c))`
abbrev pub put_and_take : List EventView
put_and_take =
    made 0 1 unbuffered None
    ∷ made 0 2 (fixed 1) None
    ∷ spawned 0 1 TaskKind.Go (Some 2)
    ∷ parked 0 1 (take_of 1 ∷ [])
    ∷ met 1 0 Put 1 (int (pos 42)) 1 0
    ∷ done 1 0 (put_of 2 (bool true)) (bool true)
    ∷ closed 1 2
    ∷ over 1 Ended
    ∷ printed 0 (line (codes "42"))
    ∷ over 0 Ended
    ∷ []

abbrev pub put_and_take_lines : List (List ℕ)
put_and_take_lines =
    codes "0 make t0 p1 chan none"
    ∷ codes "1 make t0 p2 chan fixed 1"
    ∷ codes "2 spawn t0 t1 go p2"
    ∷ codes "3 park t0 w1 take p1"
    ∷ codes "4 meet t1 0 put p1 42 w1 0"
    ∷ codes "5 done t1 0 put p2 true true"
    ∷ codes "6 close t1 p2"
    ∷ codes "7 end t1"
    ∷ codes "8 print t0 \"42\\n\""
    ∷ codes "9 end t0"
    ∷ []

-- `(def t (timeout 100)) (def r (alts!! [(chan) t])) (println (first r) (= (nth r 1) t))`
abbrev pub timed_out : List EventView
timed_out =
    made 0 1 (timeout 100) (Some 0)
    ∷ made 0 2 unbuffered None
    ∷ parked 0 1 (take_of 2 ∷ take_of 1 ∷ [])
    ∷ ticked 100 (1 ∷ [])
    ∷ settled 1 1 Take 1 nil
    ∷ printed 0 (line (codes "nil true"))
    ∷ over 0 Ended
    ∷ []

abbrev pub timed_out_lines : List (List ℕ)
timed_out_lines =
    codes "0 make t0 p1 timeout 100 at 0"
    ∷ codes "1 make t0 p2 chan none"
    ∷ codes "2 park t0 w1 take p2, take p1"
    ∷ codes "3 tick 100 p1"
    ∷ codes "4 settle w1 1 take p1 nil"
    ∷ codes "5 print t0 \"nil true\\n\""
    ∷ codes "6 end t0"
    ∷ []

-- `(def g (go (quot 1 0))) (println (<!! g))`
abbrev pub go_faulted : List EventView
go_faulted =
    made 0 1 (fixed 1) None
    ∷ spawned 0 1 TaskKind.Go (Some 1)
    ∷ parked 0 1 (take_of 1 ∷ [])
    ∷ over 1 (Faulted ZeroDivisor (record { line = 1; column = 12 }) (Some (record { n = 1 })))
    ∷ settled 1 0 Take 1 nil
    ∷ printed 0 (line (codes "nil"))
    ∷ over 0 Ended
    ∷ []

abbrev pub go_faulted_lines : List (List ℕ)
go_faulted_lines =
    codes "0 make t0 p1 chan fixed 1"
    ∷ codes "1 spawn t0 t1 go p1"
    ∷ codes "2 park t0 w1 take p1"
    ∷ codes "3 fault t1 ZeroDivisor 1:12 p1"
    ∷ codes "4 settle w1 0 take p1 nil"
    ∷ codes "5 print t0 \"nil\\n\""
    ∷ codes "6 end t0"
    ∷ []

-- `(def c (chan)) (close! c) (println (>!! c 1))`
abbrev pub put_late : List EventView
put_late =
    made 0 1 unbuffered None
    ∷ closed 0 1
    ∷ done 0 0 (put_of 1 (int (pos 1))) (bool false)
    ∷ printed 0 (line (codes "false"))
    ∷ over 0 Ended
    ∷ []

abbrev pub put_late_lines : List (List ℕ)
put_late_lines =
    codes "0 make t0 p1 chan none"
    ∷ codes "1 close t0 p1"
    ∷ codes "2 done t0 0 put p1 1 false"
    ∷ codes "3 print t0 \"false\\n\""
    ∷ codes "4 end t0"
    ∷ []

-- `(def c (chan)) (go (<! c)) (go (<! c)) (>!! c 42)`
abbrev pub first_taker : List EventView
first_taker =
    made 0 1 unbuffered None
    ∷ made 0 2 (fixed 1) None
    ∷ spawned 0 1 TaskKind.Go (Some 2)
    ∷ made 0 3 (fixed 1) None
    ∷ spawned 0 2 TaskKind.Go (Some 3)
    ∷ parked 1 1 (take_of 1 ∷ [])
    ∷ parked 2 2 (take_of 1 ∷ [])
    ∷ met 0 0 Put 1 (int (pos 42)) 1 0
    ∷ over 0 Ended
    ∷ []

abbrev pub first_taker_lines : List (List ℕ)
first_taker_lines =
    codes "0 make t0 p1 chan none"
    ∷ codes "1 make t0 p2 chan fixed 1"
    ∷ codes "2 spawn t0 t1 go p2"
    ∷ codes "3 make t0 p3 chan fixed 1"
    ∷ codes "4 spawn t0 t2 go p3"
    ∷ codes "5 park t1 w1 take p1"
    ∷ codes "6 park t2 w2 take p1"
    ∷ codes "7 meet t0 0 put p1 42 w1 0"
    ∷ codes "8 end t0"
    ∷ []

-- after its first n events a run of the program can't go on so
abbrev pub Never : ProgramView → ℕ → List EventView → EventView → Type 0
Never program n journal e = (rest : List EventView) → Legal program (take n journal ++ e ∷ rest) → ⊥

-- task u's wait w to take from channel 1
abbrev pub takes_one : ℕ → ℕ → Wait
takes_one w u = record { number = w; owner = Some u; branches = take_of 1 ∷ [] }

-- Task 1 stands at a put of 42 into channel 1, from which task 0 waits to take, and since later task 3.
pub record AtMeeting (s : State) (x : Task) : Type 0 where
  pub stands : RunsAtOperation s 1 (putting (port 1) (int (pos 42))) x
  pub channel : s.channels 1 ≡ Some (new_channel no_buffer 0)
  pub waits : s.waits ≡ takes_one 1 0 ∷ takes_one 2 3 ∷ []
  pub taker : (y : Task) × (s.tasks 0 ≡ Some y) × (y.mode ≡ waiting 1)

-- Task 1 stands at a put into channel 1, which is closed.
pub record AtClosed (s : State) (x : Task) : Type 0 where
  pub stands : RunsAtOperation s 1 (putting (port 1) (int (pos 42))) x
  pub channel : (c : Channel) × (s.channels 1 ≡ Some (shut c))

-- The timeout's channel 1 has closed, and task 0 waits for it beside channel 2.
pub record AtTimeout (s : State) : Type 0 where
  pub channel : s.channels 1 ≡ Some (shut (new_channel no_buffer 0))
  pub other : s.channels 2 ≡ Some (new_channel no_buffer 0)
  pub waits : s.waits ≡ record { number = 1; owner = Some 0; branches = take_of 2 ∷ take_of 1 ∷ [] } ∷ []
  pub taker : (y : Task) × (s.tasks 0 ≡ Some y) × (y.mode ≡ waiting 1)

-- Task 1, whose result port is channel 1, stands at a fault.
pub record AtFault (s : State) (x : Task) (f : Fault) (p : Place) : Type 0 where
  pub runs : Runs s.tasks 1 x
  pub result : x.result ≡ Some 1
  pub fault : body_at x.body ≡ faulted f p
