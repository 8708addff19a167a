-- The body of a system task of any kind.
use Rattle.ca_meaning.specs.System.{SystemBody}
use Rattle.ca_system.specs.Stands.{running_body}
use Rattle.ca_jobs.specs.Jobs.{job_body}
use Rattle.ca_mix.specs.Mixes.{mix_body}
use Rattle.ca_mult.specs.Deliveries.{deliver_body}
use Rattle.ca_mult.specs.Mults.{mult_body}
use Rattle.ca_pipes.specs.CollectViews.{collect_body}
use Rattle.ca_pipes.specs.FeedViews.{feed_body}
use Rattle.ca_pipes.specs.MergeViews.{merge_body}
use Rattle.ca_pipes.specs.OntoViews.{onto_body}
use Rattle.ca_pipes.specs.PipeViews.{pipe_body}
use Rattle.ca_pubsub.specs.Publications.{pub_body}
use Rattle.ca_system_tasks.specs.declared.table.SystemTable.{SystemTable}
use Rattle.ca_system_tasks.specs.declared.table.SystemTable.TheVariants.{Mult, Deliver, Mix, Pub, Pipe, Merge, Onto, Feed, Job, Collect}

abbrev pub table_body : SystemTable → SystemBody
table_body (Mult t) = running_body mult_body t
table_body (Deliver t) = running_body deliver_body t
table_body (Mix t) = running_body mix_body t
table_body (Pub t) = running_body pub_body t
table_body (Pipe t) = running_body pipe_body t
table_body (Merge t) = running_body merge_body t
table_body (Onto t) = running_body onto_body t
table_body (Feed t) = running_body feed_body t
table_body (Job t) = running_body job_body t
table_body (Collect t) = running_body collect_body t
