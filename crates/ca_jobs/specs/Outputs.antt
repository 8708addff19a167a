-- What a job makes of a value, in the words of the meaning.
use Rattle.ca_value.specs.Tree.{trees_of}
use Rattle.ca_value.specs.View.{vector_trees}
use Rattle.ca_meaning.specs.Applied.{Outputs, outputs, no_outputs}
use Rattle.ca_jobs.specs.declared.outputs.Outputs.{Outputs as OutputsCode}
use Rattle.ca_jobs.specs.declared.outputs.Outputs.TheVariants.{All, None}

abbrev pub outputs_view : OutputsCode → Outputs
outputs_view (All ys) = outputs (trees_of (vector_trees ys))
outputs_view (None f) = no_outputs f
