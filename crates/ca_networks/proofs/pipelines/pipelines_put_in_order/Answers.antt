use Rattle.ca_networks.proofs.Guarding.{runs_are_guarded}
use Rattle.ca_networks.proofs.PipelineKept.{pipeline_law}
use Rattle.ca_networks.proofs.pipelines.pipelines_put_in_order.Goals as goal

pub returns : goal.returns
returns c = λ program checked sealed starts journal s reached. pipeline_law program journal s (runs_are_guarded program checked sealed starts journal s reached)
