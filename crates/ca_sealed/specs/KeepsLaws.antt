-- What each run of an accepted script keeps to.
use Rattle.std.specs.Prelude.{◌≡◌, List, ◌++◌}
use Rattle.ca_value.specs.IsValue.{written}
use Rattle.ca_term.specs.Program.{ProgramView}
use Rattle.ca_term.specs.Event.{EventView}
use Rattle.ca_meaning.specs.ChannelLaw.{ChannelLaw}
use Rattle.ca_meaning.specs.Legal.{Reaches}
use Rattle.ca_meaning.specs.RunValues.{EventHas}
use Rattle.ca_meaning.specs.Sound.{Each}
use Rattle.ca_meaning.specs.State.{State}
use Rattle.ca_meaning.specs.WaitLaw.{WaitLaw}
use Rattle.ca_laws.specs.MixLaw.{MixLaw}
use Rattle.ca_networks.specs.MultLaw.{MultLaw}
use Rattle.ca_networks.specs.PipelineLaw.{PipelineLaw}
use Rattle.ca_derived_laws.specs.TakeLaw.{TakeLaw}
use Rattle.ca_derived_laws.specs.ReduceLaw.{ReduceLaw}
use Rattle.ca_derived_laws.specs.SplitLaw.{SplitLaw}

pub record KeepsLaws (program : ProgramView) (journal : List EventView) : Type 0 where
  -- each value in it is one: within the bounds on values, its integers in 64 bits and its keywords as a script can write them
  pub values : Each (EventHas written) journal
  -- each channel gives what it got in the order of its buffer
  pub channels : ChannelLaw journal
  -- each operation has one event, and each wait is completed once at most
  pub waits : WaitLaw program journal
  -- a mix passes on what its modes let through
  pub mixes : (s : State) → Reaches program journal s → MixLaw program journal s
  -- A mult puts each value once into each of its taps before it takes the next: each beginning of the journal leads to a
  -- state, in which the law holds of the value that was taken last by then.
  pub mults : (before after : List EventView) → journal ≡ before ++ after → (s : State) × Reaches program before s × MultLaw program before s
  -- a pipeline puts its outputs in the order of its inputs
  pub pipelines : PipelineLaw program journal
  -- a take passes on the first values that it took, and takes no more than it was told
  pub takes : TakeLaw program journal
  -- a reduce posts its function folded over the values that it took
  pub reduces : ReduceLaw program journal
  -- a split puts each value that it took into the channel that its test says
  pub splits : SplitLaw program journal
