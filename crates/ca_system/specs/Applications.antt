-- Where a system task applies a plain function: a publication makes the topic of its value so, a job the outputs of its.
-- Then it is at rest once it has what the function came to, and a task that applies none is at rest as it is.
use Rattle.std.specs.Prelude.{◌≡◌, Option, Some, None, option_map}
use Rattle.ca_value.specs.Tree.{Tree}
use Rattle.ca_term.specs.declared.head.PlainFunction.{PlainFunction}
use Rattle.ca_term.specs.declared.place.Place.{Place}
use Rattle.ca_term.specs.Program.{ProgramView}
use Rattle.ca_meaning.specs.Applied.{Applied, Returned, Work, outputs_by}
use Rattle.ca_meaning.specs.Asks.{Next, to}
use Rattle.ca_meaning.specs.PipelineTable.{JobState, job_works, worked_by}
use Rattle.ca_meaning.specs.PubTable.{PubState, pub_sorts, sorted_by}
use Rattle.ca_meaning.specs.System.{SystemBody, a_pub, a_job}

-- the function, the keyword where that is the function, the place of the form that applies it, and the value
pub record ApplicationView : Type 0 where
  pub function : PlainFunction
  pub keyword : Tree
  pub place : Place
  pub value : Tree

-- the value whose topic is to be made
abbrev pub sorting : Next PubState → Option Tree
sorting (to (pub_sorts v)) = Some v
sorting x = None

-- the value whose outputs are to be made
abbrev pub working : Next JobState → Option Tree
working (to (job_works v r)) = Some v
working x = None

-- the function that it is about to apply, if any
abbrev pub pending_application : SystemBody → Option ApplicationView
pending_application (a_pub t p x) = option_map (λ v. record { function = t.topic; keyword = t.keyword; place = p; value = v }) (sorting x)
pending_application (a_job j w x) = option_map (λ v. record { function = w.function; keyword = w.keyword; place = w.place; value = v }) (working x)
pending_application b = None

abbrev pub topic_returned : Returned → Next PubState → Next PubState
topic_returned r (to (pub_sorts v)) = sorted_by v r
topic_returned r x = x

abbrev pub work_done : Work → Returned → Next JobState → Next JobState
work_done w r (to (job_works v p)) = worked_by p (outputs_by w.transform v r)
work_done w r x = x

-- the body once that function came to r
abbrev pub function_applied : Returned → SystemBody → SystemBody
function_applied r (a_pub t p x) = a_pub t p (topic_returned r x)
function_applied r (a_job j w x) = a_job j w (work_done w r x)
function_applied r b = b

-- the application comes to r
abbrev pub ApplicationComesTo : ProgramView → ApplicationView → Returned → Type 0
ApplicationComesTo program a r = Applied program a.function a.keyword a.place a.value r

-- c is b with what its function came to; where it applies none, c is b
abbrev pub FunctionApplied : ProgramView → Option ApplicationView → SystemBody → SystemBody → Type 0
FunctionApplied program None b c = c ≡ b
FunctionApplied program (Some a) b c = (r : Returned) × ApplicationComesTo program a r × (c ≡ function_applied r b)

-- the function that the task applies to each value, if it applies one
abbrev pub function_of : SystemBody → Option PlainFunction
function_of (a_pub t p x) = Some t.topic
function_of (a_job j w x) = Some w.function
function_of b = None
