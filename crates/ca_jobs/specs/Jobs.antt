-- A job as a body of its table.
use Rattle.ca_value.specs.Tree.{trees_of}
use Rattle.ca_value.specs.View.{view, vector_trees}
use Rattle.ca_term.specs.declared.place.Place.{Place}
use Rattle.ca_meaning.specs.Applied.{Work}
use Rattle.ca_meaning.specs.PipelineTable.{JobState, job_takes, job_works, job_replies}
use Rattle.ca_meaning.specs.System.{SystemBody, a_job}
use Rattle.ca_system.specs.Stands.{next_view}
use Rattle.ca_system.specs.declared.stand.Next.{Next as NextState}
use Rattle.ca_jobs.specs.declared.job.Work.{Work as WorkCode}
use Rattle.ca_jobs.specs.declared.job.State.{State}
use Rattle.ca_jobs.specs.declared.job.State.TheVariants.{Takes, Works, Replies}

abbrev pub work_view : WorkCode → Place → Work
work_view w p = record { transform = w.transform; function = w.function; keyword = view w.keyword; place = p }

abbrev pub job_state_view : State → JobState
job_state_view Takes = job_takes
job_state_view (Works v p) = job_works (view v) p.n
job_state_view (Replies p ys) = job_replies p.n (trees_of (vector_trees ys))

abbrev pub job_body : WorkCode → Place → NextState State → SystemBody
job_body k p x = a_job k.jobs.n (work_view k p) (next_view job_state_view x)
