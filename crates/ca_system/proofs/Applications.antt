-- A system task that applies no function is at rest, and one that does once it has what its function came to.
use Rattle.std.proofs.Common.{◌≡◌, ℕ, refl, sym, ap, subst, Option, Some, None, option_map}
use Rattle.std.specs.Prelude.{Ok, Err}
use Rattle.ca_value.specs.Tree.{Tree, Trees}
use Rattle.ca_term.specs.declared.head.SystemTask.{SystemTask}
use Rattle.ca_term.specs.declared.place.Place.{Place}
use Rattle.ca_term.specs.Program.{ProgramView}
use Rattle.ca_meaning.specs.Applied.{Returned, Outputs, outputs, no_outputs, outputs_by}
use Rattle.ca_meaning.specs.Asks.{to, stop, fail}
use Rattle.ca_meaning.specs.PipelineTable.{job_takes, job_works, job_replies, worked_by}
use Rattle.ca_meaning.specs.PubTable.{pub_takes, pub_sorts, pub_finds, pub_puts, pub_reads_last, pub_closes}
use Rattle.ca_meaning.specs.System.{SystemBody, a_mult, a_delivery, a_mix, a_pub, a_pipe, a_merge, an_onto, a_feed, a_job, a_collect, SystemRest, new_system, system_fill}
use Rattle.ca_system.specs.Applications.{FunctionApplied, function_applied, function_of, pending_application, sorting, working, ApplicationView, ApplicationComesTo}

pub rested : (P : ProgramView) (b c : SystemBody) → FunctionApplied P (pending_application b) b c → SystemRest P b c
rested P (a_mult t p x) c e = e
rested P (a_delivery t p x) c e = e
rested P (a_mix t p x) c e = e
rested P (a_pub t p (to (pub_sorts v))) c e = e
rested P (a_pub t p (to pub_takes)) c e = e
rested P (a_pub t p (to (pub_finds topic v))) c e = e
rested P (a_pub t p (to (pub_puts q v))) c e = e
rested P (a_pub t p (to pub_reads_last)) c e = e
rested P (a_pub t p (to (pub_closes q qs))) c e = e
rested P (a_pub t p stop) c e = e
rested P (a_pub t p (fail f)) c e = e
rested P (a_pipe t p x) c e = e
rested P (a_merge t p x) c e = e
rested P (an_onto t p x) c e = e
rested P (a_feed t p x) c e = e
rested P (a_job j w (to (job_works v q))) c e = (outputs_by w.transform v e.0, (e.0, e.1, refl), e.2)
rested P (a_job j w (to job_takes)) c e = e
rested P (a_job j w (to (job_replies q ys))) c e = e
rested P (a_job j w stop) c e = e
rested P (a_job j w (fail f)) c e = e
rested P (a_collect t p x) c e = e

-- where it applies none
pub still : (P : ProgramView) (b : SystemBody) → pending_application b ≡ None → SystemRest P b b
still P b e = rested P b b (subst (λ o. FunctionApplied P o b b) (sym e) refl)

-- where it has what its function came to
pub came : (P : ProgramView) (b c : SystemBody) (a : ApplicationView) (r : Returned) → pending_application b ≡ Some a → ApplicationComesTo P a r → c ≡ function_applied r b → SystemRest P b c
came P b c a r e h is = rested P b c (subst (λ o. FunctionApplied P o b c) (sym e) (r, h, is))

worked_once : (q : ℕ) (o : Outputs) → working (worked_by q o) ≡ None
worked_once q (outputs ys) = refl
worked_once q (no_outputs f) = refl

-- then it applies no function
pub applied_once : (r : Returned) (b : SystemBody) → pending_application (function_applied r b) ≡ None
applied_once r (a_mult t p x) = refl
applied_once r (a_delivery t p x) = refl
applied_once r (a_mix t p x) = refl
applied_once (Ok u) (a_pub t p (to (pub_sorts v))) = refl
applied_once (Err f) (a_pub t p (to (pub_sorts v))) = refl
applied_once r (a_pub t p (to pub_takes)) = refl
applied_once r (a_pub t p (to (pub_finds topic v))) = refl
applied_once r (a_pub t p (to (pub_puts q v))) = refl
applied_once r (a_pub t p (to pub_reads_last)) = refl
applied_once r (a_pub t p (to (pub_closes q qs))) = refl
applied_once r (a_pub t p stop) = refl
applied_once r (a_pub t p (fail f)) = refl
applied_once r (a_pipe t p x) = refl
applied_once r (a_merge t p x) = refl
applied_once r (an_onto t p x) = refl
applied_once r (a_feed t p x) = refl
applied_once r (a_job j w (to (job_works v q))) = ap (option_map (λ u. record { function = w.function; keyword = w.keyword; place = w.place; value = u })) (worked_once q (outputs_by w.transform v r))
applied_once r (a_job j w (to job_takes)) = refl
applied_once r (a_job j w (to (job_replies q ys))) = refl
applied_once r (a_job j w stop) = refl
applied_once r (a_job j w (fail f)) = refl
applied_once r (a_collect t p x) = refl

-- and a new task applies none
pub new_applies_none : (task : SystemTask) (vs : Trees) (p : Place) → pending_application (new_system task vs p) ≡ None
new_applies_none SystemTask.Mult vs p = refl
new_applies_none SystemTask.Deliver vs p = refl
new_applies_none SystemTask.Mix vs p = refl
new_applies_none (SystemTask.Pub f) vs p = refl
new_applies_none SystemTask.Pipe vs p = refl
new_applies_none SystemTask.Merge vs p = refl
new_applies_none SystemTask.Onto vs p = refl
new_applies_none SystemTask.Feed vs p = refl
new_applies_none (SystemTask.Job x f) vs p = refl
new_applies_none SystemTask.Collect vs p = refl

-- its function stays
pub function_kept : (r : Returned) (b : SystemBody) → function_of (function_applied r b) ≡ function_of b
function_kept r (a_mult t p x) = refl
function_kept r (a_delivery t p x) = refl
function_kept r (a_mix t p x) = refl
function_kept r (a_pub t p x) = refl
function_kept r (a_pipe t p x) = refl
function_kept r (a_merge t p x) = refl
function_kept r (an_onto t p x) = refl
function_kept r (a_feed t p x) = refl
function_kept r (a_job j w x) = refl
function_kept r (a_collect t p x) = refl

pub function_filled : (v : Tree) (b : SystemBody) → function_of (system_fill v b) ≡ function_of b
function_filled v (a_mult t p x) = refl
function_filled v (a_delivery t p x) = refl
function_filled v (a_mix t p x) = refl
function_filled v (a_pub t p x) = refl
function_filled v (a_pipe t p x) = refl
function_filled v (a_merge t p x) = refl
function_filled v (an_onto t p x) = refl
function_filled v (a_feed t p x) = refl
function_filled v (a_job j w x) = refl
function_filled v (a_collect t p x) = refl

-- which it applies to each value
pub function_pending : (b : SystemBody) (a : ApplicationView) → pending_application b ≡ Some a → function_of b ≡ Some a.function
function_pending (a_mult t p x) a e = absurd (let k : None ≡ Some a = e in cc)
function_pending (a_delivery t p x) a e = absurd (let k : None ≡ Some a = e in cc)
function_pending (a_mix t p x) a e = absurd (let k : None ≡ Some a = e in cc)
function_pending (a_pub t p x) a e = by (sorting x) e where
  by : (o : Option Tree) → option_map (λ v. record { function = t.topic; keyword = t.keyword; place = p; value = v }) o ≡ Some a → Some t.topic ≡ Some a.function
  by None e = absurd (let k : None ≡ Some a = e in cc)
  by (Some v) e = ap (λ o. option_map (λ x. x.function) o) e
function_pending (a_pipe t p x) a e = absurd (let k : None ≡ Some a = e in cc)
function_pending (a_merge t p x) a e = absurd (let k : None ≡ Some a = e in cc)
function_pending (an_onto t p x) a e = absurd (let k : None ≡ Some a = e in cc)
function_pending (a_feed t p x) a e = absurd (let k : None ≡ Some a = e in cc)
function_pending (a_job j w x) a e = by (working x) e where
  by : (o : Option Tree) → option_map (λ v. record { function = w.function; keyword = w.keyword; place = w.place; value = v }) o ≡ Some a → Some w.function ≡ Some a.function
  by None e = absurd (let k : None ≡ Some a = e in cc)
  by (Some v) e = ap (λ o. option_map (λ x. x.function) o) e
function_pending (a_collect t p x) a e = absurd (let k : None ≡ Some a = e in cc)
