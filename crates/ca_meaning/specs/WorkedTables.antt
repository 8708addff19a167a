-- The tables of the system tasks, each followed from a new task to its end. Ports are numbered in the order of the
-- task's values.
use Rattle.std.specs.Prelude.{◌≡◌, List, [], ◌∷◌, pos, true, false, codes, None}
use Rattle.ca_value.specs.Tree.{Tree, nil, bool, int, key, vector, port, trees_of}
use Rattle.ca_term.specs.declared.place.Place.{Place}
use Rattle.ca_term.specs.declared.head.SystemTask.{SystemTask}
use Rattle.ca_term.specs.declared.head.RegisterName.{RegisterName}
use Rattle.ca_term.specs.declared.head.RegisterName.TheVariants.{Taps, Untap, Modes, Unmix, Find, Topics}
use Rattle.ca_term.specs.Operation.{OpView, taking, putting, choosing, making, spawning, closing, registering, fixed, system}
use Rattle.ca_term.specs.Program.{ProgramView}
use Rattle.ca_meaning.specs.Body.{at_op, ended}
use Rattle.ca_meaning.specs.System.{SystemBody, new_system, system_at, system_fill, SystemRest}

-- an operation, and its answer
abbrev pub WorkedRow : Type 0
WorkedRow = OpView × Tree

-- it asks for each operation in turn, at its place, gets the answer and goes on; then it ends
abbrev pub GoesThrough : ProgramView → Place → SystemBody → List WorkedRow → Type 0
GoesThrough program p b [] = system_at b ≡ ended nil
GoesThrough program p b (r ∷ rs) = (system_at b ≡ at_op (record { op = r.0; place = p })) × (c : SystemBody) × SystemRest program (system_fill r.1 b) c × GoesThrough program p c rs

-- so does a new task with these values
abbrev pub Works : ProgramView → Place → SystemTask → List Tree → List WorkedRow → Type 0
Works program p kind values rows = GoesThrough program p (new_system kind (trees_of values) p) rows

abbrev pub seven : Tree
seven = int (pos 7)

abbrev pub eight : Tree
eight = int (pos 8)

abbrev pub true_value : Tree
true_value = bool true

abbrev pub false_value : Tree
false_value = bool false

abbrev pub list_of : List Tree → Tree
list_of vs = vector (trees_of vs)

abbrev pub asks_registry : RegisterName → List Tree → OpView
asks_registry name args = registering name (trees_of args)

abbrev pub asks_any : List Tree → OpView
asks_any ports = choosing (trees_of ports) false None

-- Mult 1 has two taps, of which the first closes with the source 2: 7 is delivered to both, and both answer on 3 before
-- the next take.
abbrev pub two_taps : Tree
two_taps = list_of (list_of (port 4 ∷ true_value ∷ []) ∷ list_of (port 5 ∷ false_value ∷ []) ∷ [])

abbrev pub delivery_spawned : Place → Tree → OpView
delivery_spawned p c = spawning (system SystemTask.Deliver (trees_of (port 1 ∷ c ∷ seven ∷ port 3 ∷ [])) p)

abbrev pub mult_rows : Place → List WorkedRow
mult_rows p =
    (taking (port 2), seven)
    ∷ (asks_registry Taps (port 1 ∷ []), two_taps)
    ∷ (delivery_spawned p (port 4), nil)
    ∷ (delivery_spawned p (port 5), nil)
    ∷ (taking (port 3), true_value)
    ∷ (taking (port 3), true_value)
    ∷ (taking (port 2), nil)
    ∷ (asks_registry Taps (port 1 ∷ []), two_taps)
    ∷ (closing (port 4), nil)
    ∷ []

-- Tap 4 is closed, so it is removed; the delivery answers on 3 all the same.
abbrev pub deliver_rows : List WorkedRow
deliver_rows =
    (putting (port 4) seven, false_value)
    ∷ (asks_registry Untap (port 1 ∷ port 4 ∷ []), nil)
    ∷ (putting (port 3) true_value, true_value)
    ∷ []

-- Mix 1 has the output 2, the change channel 3, and the sources 4, 5 and 6, of which 5 is muted and 6 paused. So 4 and 5
-- are read, and 4 alone is heard. Source 5 closes and is dropped; a change has the modes read again; then the output
-- is closed.
abbrev pub source_of : Tree → Tree → Tree → Tree
source_of c muted paused = list_of (c ∷ muted ∷ paused ∷ false_value ∷ [])

abbrev pub muting : Tree
muting = key (codes "mute")

abbrev pub mix_rows : List WorkedRow
mix_rows =
    (asks_registry Modes (port 1 ∷ []), list_of (muting ∷ source_of (port 4) false_value false_value ∷ source_of (port 5) true_value false_value ∷ source_of (port 6) false_value true_value ∷ []))
    ∷ (asks_any (port 4 ∷ port 5 ∷ port 3 ∷ []), list_of (seven ∷ port 5 ∷ []))
    ∷ (asks_any (port 4 ∷ port 5 ∷ port 3 ∷ []), list_of (eight ∷ port 4 ∷ []))
    ∷ (putting (port 2) eight, true_value)
    ∷ (asks_any (port 4 ∷ port 5 ∷ port 3 ∷ []), list_of (nil ∷ port 5 ∷ []))
    ∷ (asks_registry Unmix (port 1 ∷ port 5 ∷ []), port 3)
    ∷ (asks_registry Modes (port 1 ∷ []), list_of (muting ∷ source_of (port 4) false_value false_value ∷ source_of (port 6) false_value true_value ∷ []))
    ∷ (asks_any (port 4 ∷ port 3 ∷ []), list_of (true_value ∷ port 3 ∷ []))
    ∷ (asks_registry Modes (port 1 ∷ []), list_of (muting ∷ source_of (port 4) false_value false_value ∷ []))
    ∷ (asks_any (port 4 ∷ port 3 ∷ []), list_of (seven ∷ port 4 ∷ []))
    ∷ (putting (port 2) seven, false_value)
    ∷ []

-- Publication 1 with the source 2; the topic of a number is whether it is odd. That of 7 has the channel 5, that of 8
-- has none.
abbrev pub pub_rows : List WorkedRow
pub_rows =
    (taking (port 2), seven)
    ∷ (asks_registry Find (port 1 ∷ true_value ∷ []), list_of (port 4 ∷ port 5 ∷ []))
    ∷ (putting (port 5) seven, true_value)
    ∷ (taking (port 2), eight)
    ∷ (asks_registry Find (port 1 ∷ false_value ∷ []), nil)
    ∷ (taking (port 2), nil)
    ∷ (asks_registry Topics (port 1 ∷ []), list_of (port 5 ∷ []))
    ∷ (closing (port 5), nil)
    ∷ []

-- From 1 to 2, which closes with it.
abbrev pub pipe_rows : List WorkedRow
pipe_rows =
    (taking (port 1), seven)
    ∷ (putting (port 2) seven, true_value)
    ∷ (taking (port 1), nil)
    ∷ (closing (port 2), nil)
    ∷ []

-- The inputs are 3, 4 and 3 again, the output is 2. Closed, 3 leaves wherever it stands.
abbrev pub merge_rows : List WorkedRow
merge_rows =
    (asks_any (port 3 ∷ port 4 ∷ port 3 ∷ []), list_of (seven ∷ port 4 ∷ []))
    ∷ (putting (port 2) seven, true_value)
    ∷ (asks_any (port 3 ∷ port 4 ∷ port 3 ∷ []), list_of (nil ∷ port 3 ∷ []))
    ∷ (asks_any (port 4 ∷ []), list_of (nil ∷ port 4 ∷ []))
    ∷ (closing (port 2), nil)
    ∷ []

-- 7, 8 and 7 again go onto 1, which is closed when 8 comes; the result port is 2.
abbrev pub onto_rows : List WorkedRow
onto_rows =
    (putting (port 1) seven, true_value)
    ∷ (putting (port 1) eight, false_value)
    ∷ (closing (port 1), nil)
    ∷ (closing (port 2), nil)
    ∷ []

-- The source is 1, the jobs' channel 2, the queue 3. The value 7 gets the reply port 9.
abbrev pub feed_rows : List WorkedRow
feed_rows =
    (taking (port 1), seven)
    ∷ (making (fixed 1), port 9)
    ∷ (putting (port 2) (list_of (seven ∷ port 9 ∷ [])), true_value)
    ∷ (putting (port 3) (port 9), true_value)
    ∷ (taking (port 1), nil)
    ∷ (closing (port 2), nil)
    ∷ (closing (port 3), nil)
    ∷ []

-- A job of `(filter odd?)` over the jobs' channel 1: it answers 7 with 7, and 8 with nothing.
abbrev pub job_rows : List WorkedRow
job_rows =
    (taking (port 1), list_of (seven ∷ port 9 ∷ []))
    ∷ (putting (port 9) (list_of (seven ∷ [])), true_value)
    ∷ (taking (port 1), list_of (eight ∷ port 10 ∷ []))
    ∷ (putting (port 10) (list_of []), true_value)
    ∷ (taking (port 1), nil)
    ∷ []

-- The queue is 1, the target 2, the result port 3. The first reply port brings two outputs, the second none.
abbrev pub collect_rows : List WorkedRow
collect_rows =
    (taking (port 1), port 9)
    ∷ (taking (port 9), list_of (seven ∷ eight ∷ []))
    ∷ (putting (port 2) seven, true_value)
    ∷ (putting (port 2) eight, true_value)
    ∷ (taking (port 1), port 10)
    ∷ (taking (port 10), list_of [])
    ∷ (taking (port 1), nil)
    ∷ (closing (port 2), nil)
    ∷ (closing (port 3), nil)
    ∷ []
