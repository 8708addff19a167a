-- What each buffer shows: its values, its capacity and its room.
use Rattle.std.specs.Prelude.{ℕ, List, [], ◌∷◌, Option, Some, None}
use Rattle.ca_value.specs.Tree.{Tree}
use Rattle.ca_value.specs.View.{view}
use Rattle.ca_value.specs.declared.value.Value.{Value}
use Rattle.ca_buffers.specs.Ring.{ring_values, ring_capacity, ring_spare}
use Rattle.ca_buffers.specs.declared.fixed.Fixed.{Fixed}
use Rattle.ca_buffers.specs.declared.dropping.Dropping.{Dropping}
use Rattle.ca_buffers.specs.declared.sliding.Sliding.{Sliding}
use Rattle.ca_buffers.specs.declared.promise.Promise.{Promise}

abbrev pub fixed_held : Fixed → List Tree
fixed_held b = ring_values b.ring

abbrev pub fixed_capacity : Fixed → ℕ
fixed_capacity b = ring_capacity b.ring

abbrev pub fixed_spare : Fixed → ℕ
fixed_spare b = ring_spare b.ring

abbrev pub dropping_held : Dropping → List Tree
dropping_held b = ring_values b.ring

abbrev pub dropping_capacity : Dropping → ℕ
dropping_capacity b = ring_capacity b.ring

abbrev pub dropping_spare : Dropping → ℕ
dropping_spare b = ring_spare b.ring

abbrev pub sliding_held : Sliding → List Tree
sliding_held b = ring_values b.ring

abbrev pub sliding_capacity : Sliding → ℕ
sliding_capacity b = ring_capacity b.ring

abbrev pub sliding_spare : Sliding → ℕ
sliding_spare b = ring_spare b.ring

abbrev pub kept_value : Option Value → List Tree
kept_value None = []
kept_value (Some v) = view v ∷ []

abbrev pub promise_held : Promise → List Tree
promise_held b = kept_value b.value
