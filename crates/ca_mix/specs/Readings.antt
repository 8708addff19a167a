-- The sources of a mix as an answer tells them, and what it reads and what is heard.
use Rattle.std.specs.Prelude.{ℕ, Bool, not, ◌||◌, cond, List, Option, Some, None, filter, map as each_of}
use Rattle.ca_value.specs.Seq.{list}
use Rattle.ca_value.specs.declared.seq.Seq.{Seq}
use Rattle.ca_value.specs.Tree.{Tree, bool, vector, port, none, item}
use Rattle.ca_meaning.specs.Registry.{Source as SourceView}
use Rattle.ca_meaning.specs.MixTable.{ModesRead}
use Rattle.ca_mix.specs.declared.modes.Source.{Source}
use Rattle.ca_mix.specs.declared.modes.Modes.{Modes}
use Rattle.ca_mix.specs.declared.modes.Reading.{Reading}

abbrev pub mix_source_view : Source → SourceView
mix_source_view s = record { channel = s.channel.n; mute = s.mute; pause = s.pause; solo = s.solo }

abbrev pub sources_view : Seq Source → List SourceView
sources_view xs = each_of mix_source_view (list xs)

abbrev pub modes_view : Modes → ModesRead
modes_view m = record { pausing = m.pausing; sources = sources_view m.sources }

-- the channels that it reads, and those that are heard
abbrev pub reading_view : Reading → List ℕ × List ℕ
reading_view r = (each_of (λ p. p.n) r.reads.items, each_of (λ p. p.n) r.heard.items)

abbrev pub bool_in : Tree → Option Bool
bool_in (bool b) = Some b
bool_in v = None

-- `[channel mute pause solo]`
abbrev pub source_from : Tree → Tree → Tree → Tree → Option SourceView
source_from (port c) (bool m) (bool p) (bool s) = Some (record { channel = c; mute = m; pause = p; solo = s })
source_from c m p s = None

abbrev pub source_in : Tree → Option SourceView
source_in (vector (item c (item m (item p (item s none))))) = source_from c m p s
source_in v = None

-- a source by its modes, where soloed ones stand alone or not
abbrev pub is_read : Bool → SourceView → Bool
is_read solo_alone x = cond solo_alone x.solo (x.solo || not x.pause)

abbrev pub is_heard : Bool → SourceView → Bool
is_heard solo_alone x = cond solo_alone x.solo (not x.mute)

-- the channels of the sources that pass the test
abbrev pub channels_where : (SourceView → Bool) → List SourceView → List ℕ
channels_where test xs = each_of (λ x. x.channel) (filter test xs)
