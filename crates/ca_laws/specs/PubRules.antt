-- The rule of a publication: which topic it asks for, and where it puts a value. (core.async API reference: `pub`,
-- `sub`.)
use Rattle.std.specs.Prelude.{◌≡◌, ℕ, List, [], ◌∷◌, ◌⊎◌, slice_get, Option, Some, None, Ok, true, unwrap_or}
use Rattle.ca_value.specs.Tree.{Tree, Trees, port}
use Rattle.ca_term.specs.declared.place.Place.{Place}
use Rattle.ca_term.specs.declared.head.PlainFunction.{PlainFunction}
use Rattle.ca_term.specs.declared.head.RegisterName.TheVariants.{Find, Topics}
use Rattle.ca_term.specs.declared.head.SystemTask.TheVariants.{Pub}
use Rattle.ca_term.specs.Program.{ProgramView}
use Rattle.ca_term.specs.Operation.{OpView, taking, putting, choosing, making, spawning, closing, registering, printing, posting}
use Rattle.ca_term.specs.Event.{EventView}
use Rattle.ca_meaning.specs.Operands.{is_nil, port_of_value, first_of, second_of, third_of}
use Rattle.ca_meaning.specs.Asks.{ports_in, one_of, two_of}
use Rattle.ca_meaning.specs.Applied.{Applied}
use Rattle.ca_meaning.specs.PubTable.{PubPorts, channel_of_pair}
use Rattle.ca_meaning.specs.State.{State}
use Rattle.ca_laws.specs.Deeds.{Deed, did_take, did_register}
use Rattle.ca_laws.specs.Taken.{last_answer, FoundEnd, closes_since}
use Rattle.ca_laws.specs.Rules.{AllKeepToOf}
use Rattle.ca_term.specs.declared.event.TaskKind.{TaskKind}

-- the answer of its registry, until it takes again
abbrev pub found_after : Deed → Option Tree → Option Tree
found_after (did_register name args a) o = Some a
found_after (did_take k p a) o = None
found_after d o = o

abbrev pub found_from : Option Tree → List Deed → Option Tree
found_from o [] = o
found_from o (d ∷ ds) = found_from (found_after d o) ds

abbrev pub last_found : List Deed → Option Tree
last_found ds = found_from None ds

-- what a publication may ask for after all that it did
abbrev pub PubRule : ProgramView → PubPorts → Place → List Deed → OpView → Type 0
-- the next value of its source, where it put the last, or nobody has its topic
PubRule program x place before (taking c) = (c ≡ port x.source) × ((last_answer before ≡ None) ⊎ ((a : Tree) × (last_found before ≡ Some a) × (is_nil a ≡ true)))
-- who has the topic that its function makes of the value; or, after the end of its source, all topics
PubRule program x place before (registering name args) =
    ((v topic : Tree) × (name ≡ Find) × (args ≡ two_of (port x.publication) topic) × (last_answer before ≡ Some (x.source, v)) × (last_found before ≡ None) × Applied program x.topic x.keyword place v (Ok topic))
    ⊎ ((name ≡ Topics) × (args ≡ one_of (port x.publication)) × FoundEnd x.source before)
-- a put of the value into the channel that was found for it
PubRule program x place before (putting c v) = (a : Tree) × (p : ℕ) × (c ≡ port p) × (last_answer before ≡ Some (x.source, v)) × (last_found before ≡ Some a) × (channel_of_pair a ≡ Some p)
-- the close of the next topic's channel, after the end of its source
PubRule program x place before (closing c) = (a : Tree) × (p : ℕ) × (c ≡ port p) × (last_found before ≡ Some a) × (slice_get (unwrap_or (ports_in a) []) (closes_since before) ≡ Some p) × FoundEnd x.source before
PubRule program x place before (making what) = ⊥
PubRule program x place before (choosing ports priority default) = ⊥
PubRule program x place before (spawning seed) = ⊥
PubRule program x place before (printing line) = ⊥
PubRule program x place before (posting c v) = ⊥

-- its ports and its topic function are the values and the kind of the Spawn
abbrev pub pub_ports : PlainFunction → Trees → PubPorts
pub_ports f values = record { publication = port_of_value (first_of values); source = port_of_value (second_of values); topic = f; keyword = third_of values }

-- each publication keeps to its rule
abbrev pub PubsKeepTo : ProgramView → List EventView → State → Type 0
PubsKeepTo program journal s = AllKeepToOf (λ f. Pub f) (λ f values place. PubRule program (pub_ports f values) place) TaskKind.Pub program journal s
