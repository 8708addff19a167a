-- An event as its line has it, up to the line feed. What is read leniently here is printed again, and compared with the line.
use Rattle.std.specs.Prelude.{ℕ, List, [], Option, Some, None, cond, nat_lt, length, codes}
use Rattle.std.specs.Str.{bytes_eq}
use Rattle.ca_value.specs.Tree.{trees_of}
use Rattle.ca_value.specs.declared.value.PortId.{PortId}
use Rattle.ca_term.specs.declared.event.Ending.TheVariants.{Ended, Faulted}
use Rattle.ca_term.specs.Event.{EventView, made, spawned, done, met, parked, posted, settled, defaulted, closed, registered, printed, ticked, over}
use Rattle.ca_journal_reader.specs.Found.{then}
use Rattle.ca_journal_reader.specs.Words.{word_in, decimal_in, numbered_in, byte_in}
use Rattle.ca_journal_reader.specs.ValueText.{text_from, value_field}
use Rattle.ca_journal_reader.specs.FieldText.{word_named, side_named, kind_named, name_named, fault_named, maybe_port_in, place_in, what_in, branch_in, branches_read, ports_read, values_read, arguments_parted}

abbrev pub next_read : {A B : Type 0} → Option A → (A → Option B) → Option B
next_read None f = None
next_read (Some x) f = f x

abbrev pub made_read : List ℕ → Option EventView
made_read s = then (numbered_in 116 s) (λ t s. then (numbered_in 112 s) (λ p s. then (what_in s) (λ w s. Some (made t p w.0 w.1))))

abbrev pub spawned_in : List ℕ → Option EventView
spawned_in s =
    then (numbered_in 116 s) (λ t s. then (numbered_in 116 s) (λ u s.
    then (word_named kind_named s) (λ kind s. then (maybe_port_in s) (λ result s. Some (spawned t u kind result)))))

abbrev pub done_in : List ℕ → Option EventView
done_in s =
    then (numbered_in 116 s) (λ t s. then (decimal_in s) (λ k s.
    then (branch_in s) (λ b s. then (value_field s) (λ a s. Some (done t k b a)))))

abbrev pub met_in : List ℕ → Option EventView
met_in s =
    then (numbered_in 116 s) (λ t s. then (decimal_in s) (λ k s. then (word_named side_named s) (λ side s.
    then (numbered_in 112 s) (λ p s. then (value_field s) (λ v s.
    then (numbered_in 119 s) (λ w s. then (decimal_in s) (λ o s. Some (met t k side p v w o))))))))

abbrev pub parked_read : List ℕ → Option EventView
parked_read s = then (numbered_in 116 s) (λ t s. then (numbered_in 119 s) (λ w s. next_read (branches_read s) (λ bs. Some (parked t w bs))))

abbrev pub posted_in : List ℕ → Option EventView
posted_in s =
    then (numbered_in 116 s) (λ t s. then (numbered_in 119 s) (λ w s.
    then (numbered_in 112 s) (λ p s. then (value_field s) (λ v s. Some (posted t w p v)))))

abbrev pub settled_in : List ℕ → Option EventView
settled_in s =
    then (numbered_in 119 s) (λ w s. then (decimal_in s) (λ k s. then (word_named side_named s) (λ side s.
    then (numbered_in 112 s) (λ p s. then (value_field s) (λ v s. Some (settled w k side p v))))))

abbrev pub defaulted_in : List ℕ → Option EventView
defaulted_in s = then (numbered_in 116 s) (λ t s. then (value_field s) (λ v s. Some (defaulted t v)))

abbrev pub closed_in : List ℕ → Option EventView
closed_in s = then (numbered_in 116 s) (λ t s. then (numbered_in 112 s) (λ p s. Some (closed t p)))

abbrev pub registered_in : List ℕ → Option EventView
registered_in s =
    then (numbered_in 116 s) (λ t s. then (word_named name_named s) (λ name s.
    next_read (values_read s) (λ ts. next_read (arguments_parted ts) (λ p. Some (registered t name (trees_of p.0) p.1)))))

abbrev pub printed_in : List ℕ → Option EventView
printed_in s = then (numbered_in 116 s) (λ t s. then (byte_in 34 s) (λ x s. then (text_from [] s) (λ line s. cond (nat_lt (length line) 131072) (Some (printed t line)) None)))

abbrev pub ticked_in : List ℕ → Option EventView
ticked_in s = then (decimal_in s) (λ m s. next_read (ports_read s) (λ ports. Some (ticked m ports)))

abbrev pub ended_in : List ℕ → Option EventView
ended_in s = then (numbered_in 116 s) (λ t s. Some (over t Ended))

abbrev pub port_read : Option ℕ → Option PortId
port_read None = None
port_read (Some n) = Some (record { n = n })

abbrev pub faulted_in : List ℕ → Option EventView
faulted_in s =
    then (numbered_in 116 s) (λ t s. then (word_named fault_named s) (λ fault s.
    then (place_in s) (λ place s. then (maybe_port_in s) (λ result s. Some (over t (Faulted fault place (port_read result)))))))

-- by the word in front
abbrev pub event_by : List ℕ → List ℕ → Option EventView
event_by w s =
    cond (bytes_eq w (codes "make")) (made_read s) (
    cond (bytes_eq w (codes "spawn")) (spawned_in s) (
    cond (bytes_eq w (codes "done")) (done_in s) (
    cond (bytes_eq w (codes "meet")) (met_in s) (
    cond (bytes_eq w (codes "park")) (parked_read s) (
    cond (bytes_eq w (codes "post")) (posted_in s) (
    cond (bytes_eq w (codes "settle")) (settled_in s) (
    cond (bytes_eq w (codes "default")) (defaulted_in s) (
    cond (bytes_eq w (codes "close")) (closed_in s) (
    cond (bytes_eq w (codes "register")) (registered_in s) (
    cond (bytes_eq w (codes "print")) (printed_in s) (
    cond (bytes_eq w (codes "tick")) (ticked_in s) (
    cond (bytes_eq w (codes "end")) (ended_in s) (
    cond (bytes_eq w (codes "fault")) (faulted_in s) (
    None))))))))))))))

abbrev pub event_in : List ℕ → Option EventView
event_in s = event_by (word_in s).0 (word_in s).1

-- behind the number of the line
abbrev pub entry_in : List ℕ → Option EventView
entry_in s = then (decimal_in s) (λ k s. event_in s)
