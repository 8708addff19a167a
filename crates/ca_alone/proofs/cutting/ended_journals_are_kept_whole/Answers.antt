use Rattle.ca_alone.proofs.CutWhole.{cut_whole}
use Rattle.ca_alone.proofs.cutting.ended_journals_are_kept_whole.Goals as goal

pub returns : goal.returns
returns c = cut_whole
