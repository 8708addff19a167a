-- The rules of a mult and of its deliveries. (core.async API reference: `mult`, `tap`.)
use Rattle.std.specs.Prelude.{◌≡◌, ℕ, suc, ◌<◌, List, [], ◌∷◌, ◌++◌, ◌⊎◌, length, slice_get, Option, Some, true, unwrap_or}
use Rattle.ca_value.specs.Tree.{Tree, Trees, bool, port, item}
use Rattle.ca_term.specs.declared.place.Place.{Place}
use Rattle.ca_term.specs.declared.head.RegisterName.TheVariants.{Taps, Untap}
use Rattle.ca_term.specs.declared.event.TaskKind.{TaskKind}
use Rattle.ca_term.specs.declared.head.SystemTask.TheVariants.{Mult, Deliver}
use Rattle.ca_term.specs.Program.{ProgramView}
use Rattle.ca_term.specs.Operation.{OpView, taking, putting, choosing, making, spawning, closing, registering, printing, posting, system}
use Rattle.ca_term.specs.Event.{EventView, spawned}
use Rattle.ca_meaning.specs.Operands.{port_of_value, first_of, second_of, third_of}
use Rattle.ca_meaning.specs.Registry.{TapView}
use Rattle.ca_meaning.specs.Asks.{taps_in, one_of, two_of}
use Rattle.ca_meaning.specs.MultTable.{MultPorts, Delivery, closing_of}
use Rattle.ca_meaning.specs.System.{fourth_of}
use Rattle.ca_meaning.specs.State.{State}
use Rattle.ca_laws.specs.Deeds.{Deed, did_register, deeds}
use Rattle.ca_laws.specs.Taken.{put_in, last_answer, FoundEnd, takes_since, starts_since, closes_since}
use Rattle.ca_laws.specs.Rules.{KeepsTo, SpawnsFrom, AllKeepTo}

-- the taps of its last reading
abbrev pub taps_after : Deed → List TapView → List TapView
taps_after (did_register name args a) ts = unwrap_or (taps_in a) []
taps_after d ts = ts

abbrev pub taps_from : List TapView → List Deed → List TapView
taps_from ts [] = ts
taps_from ts (d ∷ ds) = taps_from (taps_after d ts) ds

abbrev pub taps_read : List Deed → List TapView
taps_read ds = taps_from [] ds

-- what a mult may ask for after all that it did
abbrev pub MultRule : MultPorts → Place → List Deed → OpView → Type 0
-- the answers of the deliveries that it started, one for each tap read; and the next value of its source, where all
-- have answered
MultRule x place before (taking c) =
    (starts_since before ≡ length (taps_read before))
    × (((c ≡ port x.source) × (takes_since before ≡ length (taps_read before))) ⊎ ((c ≡ port x.acks) × (takes_since before < length (taps_read before))))
-- its taps, right after it took from its source
MultRule x place before (registering name args) =
    (name ≡ Taps) × (args ≡ one_of (port x.mult)) × (v : Tree) × (last_answer before ≡ Some (x.source, v)) × (starts_since before ≡ length (taps_read before)) × (takes_since before ≡ suc (length (taps_read before)))
-- a delivery of the value that it took to the next tap read
MultRule x place before (spawning seed) =
    (v : Tree) × (tap : TapView) × (last_answer before ≡ Some (x.source, v)) × (takes_since before ≡ 0) × (slice_get (taps_read before) (starts_since before) ≡ Some tap)
    × (seed ≡ system Deliver (item (port x.mult) (item (port tap.channel) (two_of v (port x.acks)))) place)
-- the close of the next tap read that closes with the source, after the end of that
MultRule x place before (closing c) = (p : ℕ) × (c ≡ port p) × FoundEnd x.source before × (slice_get (closing_of (taps_read before)) (closes_since before) ≡ Some p)
MultRule x place before (putting c v) = ⊥
MultRule x place before (making what) = ⊥
MultRule x place before (choosing ports priority default) = ⊥
MultRule x place before (printing line) = ⊥
MultRule x place before (posting c v) = ⊥

-- What a delivery may ask for: first a put of its value into its tap, once; then, after that put was answered, a put
-- of true into the channel of answers, once, and before it the end of a tap that it found closed.
abbrev pub DeliverRule : Delivery → List Deed → OpView → Type 0
DeliverRule d before (putting c v) =
    ((c ≡ port d.channel) × (v ≡ d.value) × (put_in before ≡ []))
    ⊎ ((c ≡ port d.acks) × (v ≡ bool true) × (put_in before ≡ (d.channel, d.value) ∷ []))
DeliverRule d before (registering name args) = (name ≡ Untap) × (args ≡ two_of (port d.mult) (port d.channel)) × (put_in before ≡ (d.channel, d.value) ∷ [])
DeliverRule d before (taking c) = ⊥
DeliverRule d before (closing c) = ⊥
DeliverRule d before (making what) = ⊥
DeliverRule d before (choosing ports priority default) = ⊥
DeliverRule d before (spawning seed) = ⊥
DeliverRule d before (printing line) = ⊥
DeliverRule d before (posting c v) = ⊥

-- their ports are the values of the Spawn
abbrev pub mult_ports : Trees → MultPorts
mult_ports values = record { mult = port_of_value (first_of values); source = port_of_value (second_of values); acks = port_of_value (third_of values) }

abbrev pub delivery_of : Trees → Delivery
delivery_of values = record { mult = port_of_value (first_of values); channel = port_of_value (second_of values); value = third_of values; acks = port_of_value (fourth_of values) }

-- each mult and each delivery keeps to its rule
abbrev pub MultsKeepTo : ProgramView → List EventView → State → Type 0
MultsKeepTo program journal s = AllKeepTo Mult (λ values place. MultRule (mult_ports values) place) program journal s

abbrev pub DeliveriesKeepTo : ProgramView → List EventView → State → Type 0
DeliveriesKeepTo program journal s = AllKeepTo Deliver (λ values place. DeliverRule (delivery_of values)) program journal s

-- the delivery to the tap of the value
abbrev pub delivery_to : MultPorts → TapView → Tree → Delivery
delivery_to x tap v = record { mult = x.mult; channel = tap.channel; value = v; acks = x.acks }

-- the value that it took last, and the next tap that it read
abbrev pub IsNextDelivery : MultPorts → List Deed → Tree → TapView → Type 0
IsNextDelivery x before v tap = (last_answer before ≡ Some (x.source, v)) × (slice_get (taps_read before) (starts_since before) ≡ Some tap)

-- each delivery that a mult starts keeps to the rule for the value that the mult took, and the next tap that it read
abbrev pub StartedKeepTo : ProgramView → List EventView → State → Type 0
StartedKeepTo program journal s =
    (first middle last : List EventView) (w t u : ℕ) (r q : Option ℕ) → journal ≡ first ++ spawned w t TaskKind.Mult r ∷ (middle ++ spawned t u TaskKind.Deliver q ∷ last)
    → (values : Trees) × (place : Place) × (v : Tree) × (tap : TapView) × SpawnsFrom program first w (system Mult values place)
    × IsNextDelivery (mult_ports values) (deeds t (first ++ spawned w t TaskKind.Mult r ∷ middle)) v tap × KeepsTo (DeliverRule (delivery_to (mult_ports values) tap v)) u journal s
