use Rattle.std.proofs.Common.{sym}
use Rattle.ca_value.specs.Seq.{list}
use Rattle.ca_states.specs.Code.{no_entry}
use Rattle.ca_states.proofs.StandingLaws.{none_here}
use Rattle.ca_states.proofs.entry.entry_or_none.Goals as goal

pub returns-in-None : goal.returns-in-None
returns-in-None c = sym (none_here (list c.args.entries.now) c.args.number no_entry (sym c.in-None.ensures))
