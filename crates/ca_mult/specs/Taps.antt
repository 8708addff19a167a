-- A tap as an answer tells it.
use Rattle.std.specs.Prelude.{List, Option, Some, None, map as each_of}
use Rattle.ca_value.specs.Seq.{list}
use Rattle.ca_value.specs.declared.seq.Seq.{Seq}
use Rattle.ca_value.specs.Tree.{Tree, bool, vector, port, none, item}
use Rattle.ca_meaning.specs.Registry.{TapView}
use Rattle.ca_mult.specs.declared.taps.Tap.{Tap}

abbrev pub mult_tap_view : Tap → TapView
mult_tap_view t = record { channel = t.channel.n; closes = t.closes }

abbrev pub taps_view : Seq Tap → List TapView
taps_view ts = each_of mult_tap_view (list ts)

-- `[channel boolean]`
abbrev pub tap_from : Tree → Tree → Option TapView
tap_from (port c) (bool z) = Some (record { channel = c; closes = z })
tap_from v w = None

abbrev pub tap_in : Tree → Option TapView
tap_in (vector (item v (item w none))) = tap_from v w
tap_in v = None
