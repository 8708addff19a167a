-- Whether two events are one, as functions: they are of one kind, and all that they show is one.
use Rattle.std.specs.Prelude.{option_map, Bool, true, false, ◌&&◌, eqb}
use Rattle.std.specs.Str.{bytes_eq}
use Rattle.ca_term.specs.declared.event.Ending.{Ending}
use Rattle.ca_term.specs.declared.event.Ending.TheVariants.{Ended, Faulted}
use Rattle.ca_term.specs.Event.{EventView, made, spawned, done, met, parked, posted, settled, defaulted, closed, registered, printed, ticked, over, port_number}
use Rattle.ca_scene.specs.Same.{same, same_items, same_side, same_branch, same_branches, same_numbers, same_number, same_what, same_fault, same_place, same_name, same_kind}

-- Tests that hold of two events of that kind alone.
abbrev pub same_make : EventView → EventView → Bool
same_make (made t p c m) (made u q d n) = eqb t u && (eqb p q && (same_what c d && same_number m n))
same_make a b = false

abbrev pub same_spawn : EventView → EventView → Bool
same_spawn (spawned t x k r) (spawned u y l s) = eqb t u && (eqb x y && (same_kind k l && same_number r s))
same_spawn a b = false

abbrev pub same_done : EventView → EventView → Bool
same_done (done t k c v) (done u l d x) = eqb t u && (eqb k l && (same_branch c d && same v x))
same_done a b = false

abbrev pub same_meet : EventView → EventView → Bool
same_meet (met t k c p v w o) (met u l d q x y z) = eqb t u && (eqb k l && (same_side c d && (eqb p q && (same v x && (eqb w y && eqb o z)))))
same_meet a b = false

abbrev pub same_park : EventView → EventView → Bool
same_park (parked t w bs) (parked u y cs) = eqb t u && (eqb w y && same_branches bs cs)
same_park a b = false

abbrev pub same_post : EventView → EventView → Bool
same_post (posted t w p v) (posted u y q x) = eqb t u && (eqb w y && (eqb p q && same v x))
same_post a b = false

abbrev pub same_settle : EventView → EventView → Bool
same_settle (settled w k c p v) (settled y l d q x) = eqb w y && (eqb k l && (same_side c d && (eqb p q && same v x)))
same_settle a b = false

abbrev pub same_register : EventView → EventView → Bool
same_register (registered t n vs v) (registered u m xs x) = eqb t u && (same_name n m && (same_items vs xs && same v x))
same_register a b = false

-- what a task does alone
abbrev pub same_alone : EventView → EventView → Bool
same_alone (defaulted t v) (defaulted u x) = eqb t u && same v x
same_alone (closed t p) (closed u q) = eqb t u && eqb p q
same_alone (printed t line) (printed u other) = eqb t u && bytes_eq line other
same_alone a b = false

abbrev pub same_tick : EventView → EventView → Bool
same_tick (ticked m ps) (ticked n qs) = eqb m n && same_numbers ps qs
same_tick a b = false

abbrev pub same_ending : Ending → Ending → Bool
same_ending Ended Ended = true
same_ending (Faulted f p r) (Faulted g q s) = same_fault f g && (same_place p q && same_number (option_map port_number r) (option_map port_number s))
same_ending a b = false

abbrev pub same_end : EventView → EventView → Bool
same_end (over t e) (over u f) = eqb t u && same_ending e f
same_end a b = false

-- the two events are one
abbrev pub same_event : EventView → EventView → Bool
same_event (made t p c m) b = same_make (made t p c m) b
same_event (spawned t x k r) b = same_spawn (spawned t x k r) b
same_event (done t k c v) b = same_done (done t k c v) b
same_event (met t k c p v w o) b = same_meet (met t k c p v w o) b
same_event (parked t w bs) b = same_park (parked t w bs) b
same_event (posted t w p v) b = same_post (posted t w p v) b
same_event (settled w k c p v) b = same_settle (settled w k c p v) b
same_event (defaulted t v) b = same_alone (defaulted t v) b
same_event (closed t p) b = same_alone (closed t p) b
same_event (registered t n vs v) b = same_register (registered t n vs v) b
same_event (printed t line) b = same_alone (printed t line) b
same_event (ticked m ps) b = same_tick (ticked m ps) b
same_event (over t e) b = same_end (over t e) b
