use Rattle.ca_laws.proofs.Working.{jobs_keep_to}
use Rattle.ca_laws.proofs.pipelines.jobs_answer_with_outputs.Goals as goal

pub returns : goal.returns
returns c = jobs_keep_to
