-- The text of a journal: a line for each event, numbered from 0.
use Rattle.std.specs.Prelude.{ℕ, suc, List, [], ◌∷◌, ◌++◌, Option, Some, None, option_map, codes, decimal}
use Rattle.ca_value.specs.Tree.{Tree}
use Rattle.ca_value.specs.Printed.{readable_text, readable_items, quoted}
use Rattle.ca_term.specs.declared.event.Side.{Side}
use Rattle.ca_term.specs.declared.event.Side.TheVariants.{Take, Put}
use Rattle.ca_term.specs.declared.event.Ending.TheVariants.{Ended, Faulted}
use Rattle.ca_term.specs.declared.event.TaskKind.{TaskKind}
use Rattle.ca_term.specs.declared.event.TaskKind.TheVariants.{Go, Mult, Deliver, Mix, Pub, Pipe, Merge, Onto, Feed, Job, Collect}
use Rattle.ca_term.specs.declared.head.RegisterName.{RegisterName}
use Rattle.ca_term.specs.declared.head.RegisterName.TheVariants.{Tap, Untap, UntapAll, Taps, Admix, Unmix, UnmixAll, Toggle, SoloMode, Modes, Find, Place, Drop, Clear, Topics}
use Rattle.ca_term.specs.Operation.{WhatView, unbuffered, fixed, dropping, sliding, promise, timeout, mult, mix, publication}
use Rattle.ca_term.specs.Event.{BranchView, take_of, put_of, EventView, made, spawned, done, met, parked, posted, settled, defaulted, closed, registered, printed, ticked, over, port_number as number_of}
use Rattle.ca_meaning.specs.Operands.{port_of_value}
use Rattle.ca_meaning.specs.Texts.{◌⋅◌, fault_text, place_text}

abbrev pub task_text : ℕ → List ℕ
task_text t = 116 ∷ decimal t

abbrev pub port_text : ℕ → List ℕ
port_text p = 112 ∷ decimal p

abbrev pub wait_text : ℕ → List ℕ
wait_text w = 119 ∷ decimal w

abbrev pub maybe_port_text : Option ℕ → List ℕ
maybe_port_text None = codes "-"
maybe_port_text (Some p) = port_text p

abbrev pub side_text : Side → List ℕ
side_text Take = codes "take"
side_text Put = codes "put"

abbrev pub moment_text : Option ℕ → List ℕ
moment_text None = codes "-"
moment_text (Some m) = decimal m

abbrev pub what_text : WhatView → Option ℕ → List ℕ
what_text unbuffered moment = codes "chan none"
what_text (fixed n) moment = codes "chan fixed" ⋅ decimal n
what_text (dropping n) moment = codes "chan dropping" ⋅ decimal n
what_text (sliding n) moment = codes "chan sliding" ⋅ decimal n
what_text promise moment = codes "chan promise"
what_text (timeout n) moment = codes "timeout" ⋅ decimal n ⋅ codes "at" ⋅ moment_text moment
what_text (mult source) moment = codes "mult" ⋅ port_text (port_of_value source)
what_text (mix out changes) moment = codes "mix" ⋅ port_text (port_of_value out) ⋅ port_text (port_of_value changes)
what_text (publication source) moment = codes "pub" ⋅ port_text (port_of_value source)

abbrev pub kind_text : TaskKind → List ℕ
kind_text Go = codes "go"
kind_text Mult = codes "mult"
kind_text Deliver = codes "deliver"
kind_text Mix = codes "mix"
kind_text Pub = codes "pub"
kind_text Pipe = codes "pipe"
kind_text Merge = codes "merge"
kind_text Onto = codes "onto"
kind_text Feed = codes "feed"
kind_text Job = codes "job"
kind_text Collect = codes "collect"

abbrev pub name_text : RegisterName → List ℕ
name_text Tap = codes "tap"
name_text Untap = codes "untap"
name_text UntapAll = codes "untap-all"
name_text Taps = codes "taps"
name_text Admix = codes "admix"
name_text Unmix = codes "unmix"
name_text UnmixAll = codes "unmix-all"
name_text Toggle = codes "toggle"
name_text SoloMode = codes "solo-mode"
name_text Modes = codes "modes"
name_text Find = codes "find"
name_text Place = codes "place"
name_text Drop = codes "drop"
name_text Clear = codes "clear"
name_text Topics = codes "topics"

abbrev pub branch_text : BranchView → List ℕ
branch_text (take_of p) = codes "take" ⋅ port_text p
branch_text (put_of p v) = codes "put" ⋅ port_text p ⋅ readable_text v

-- joined by a comma and a space
abbrev pub branches_text : List BranchView → List ℕ
branches_text [] = []
branches_text (b ∷ []) = branch_text b
branches_text (b ∷ (c ∷ bs)) = branch_text b ++ (44 ∷ (32 ∷ branches_text (c ∷ bs)))

abbrev pub done_text : BranchView → Tree → List ℕ
done_text (take_of p) a = branch_text (take_of p) ⋅ readable_text a
done_text (put_of p v) a = branch_text (put_of p v) ⋅ readable_text a

-- each after a space
abbrev pub ports_text : List ℕ → List ℕ
ports_text [] = []
ports_text (p ∷ ps) = 32 ∷ (port_text p ++ ports_text ps)

abbrev pub event_text : EventView → List ℕ
event_text (made t p what moment) = codes "make" ⋅ task_text t ⋅ port_text p ⋅ what_text what moment
event_text (spawned t u kind result) = codes "spawn" ⋅ task_text t ⋅ task_text u ⋅ kind_text kind ⋅ maybe_port_text result
event_text (done t k b a) = codes "done" ⋅ task_text t ⋅ decimal k ⋅ done_text b a
event_text (met t k side p v w o) = codes "meet" ⋅ task_text t ⋅ decimal k ⋅ side_text side ⋅ port_text p ⋅ readable_text v ⋅ wait_text w ⋅ decimal o
event_text (parked t w bs) = codes "park" ⋅ task_text t ⋅ wait_text w ⋅ branches_text bs
event_text (posted t w p v) = codes "post" ⋅ task_text t ⋅ wait_text w ⋅ port_text p ⋅ readable_text v
event_text (settled w k side p v) = codes "settle" ⋅ wait_text w ⋅ decimal k ⋅ side_text side ⋅ port_text p ⋅ readable_text v
event_text (defaulted t v) = codes "default" ⋅ task_text t ⋅ readable_text v
event_text (closed t p) = codes "close" ⋅ task_text t ⋅ port_text p
event_text (registered t name args v) = codes "register" ⋅ task_text t ⋅ name_text name ⋅ readable_items args ⋅ readable_text v
event_text (printed t line) = codes "print" ⋅ task_text t ⋅ quoted line
event_text (ticked m ports) = (codes "tick" ⋅ decimal m) ++ ports_text ports
event_text (over t Ended) = codes "end" ⋅ task_text t
event_text (over t (Faulted fault place result)) = codes "fault" ⋅ task_text t ⋅ fault_text fault ⋅ place_text place ⋅ maybe_port_text (option_map number_of result)

-- line k, with its line feed
abbrev pub event_line : ℕ → EventView → List ℕ
event_line k e = (decimal k ⋅ event_text e) ++ 10 ∷ []

abbrev pub lines_from : ℕ → List EventView → List ℕ
lines_from k [] = []
lines_from k (e ∷ es) = event_line k e ++ lines_from (suc k) es

abbrev pub journal_text : List EventView → List ℕ
journal_text journal = lines_from 0 journal
