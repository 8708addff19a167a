-- Jobs keep to their rule.
use Rattle.std.proofs.Common.{◌≡◌, ℕ, List, [], ◌∷◌, ◌++◌, refl, sym, subst, Bool, true, false, cond, Option, Some, None}
use Rattle.ca_value.specs.Tree.{Tree, Trees, nil, vector, port}
use Rattle.ca_term.specs.declared.fault.Fault.TheVariants.{WrongKind}
use Rattle.ca_term.specs.declared.head.SystemTask.{SystemTask}
use Rattle.ca_term.specs.Operation.{OpView, taking, putting}
use Rattle.ca_term.specs.Program.{ProgramView}
use Rattle.ca_term.specs.Event.{EventView}
use Rattle.ca_meaning.specs.Body.{ended, faulted, at_op}
use Rattle.ca_meaning.specs.Operands.{is_nil, port_of_value, first_of}
use Rattle.ca_meaning.specs.Choice.{branches_of}
use Rattle.ca_meaning.specs.State.{State}
use Rattle.ca_meaning.specs.Legal.{Reaches}
use Rattle.ca_meaning.specs.Task.{system_task}
use Rattle.ca_meaning.specs.Going.{IsAtOp}
use Rattle.ca_meaning.specs.Asks.{Next, to, stop, fail, needing, value_and_port, too_large_here}
use Rattle.ca_meaning.specs.Applied.{Work, Outputs, outputs, no_outputs, Outs}
use Rattle.ca_meaning.specs.PipelineTable.{job_takes, job_works, job_replies, worked_by}
use Rattle.ca_meaning.specs.System.{SystemBody, a_job, system_fill, SystemRest}
use Rattle.ca_laws.specs.Deeds.{Deed, did_wait, did_end}
use Rattle.ca_laws.specs.Taken.{answer_after, last_answer}
use Rattle.ca_laws.specs.PipelineRules.{JobRule, job_work, JobsKeepTo}
use Rattle.ca_laws.proofs.Acts.{Replies, got, gave}
use Rattle.ca_laws.proofs.More.{answer_more}
use Rattle.ca_laws.proofs.Tables.{asked, Keeps, keeps_from, spawned_at, job_seed}
use Rattle.ca_term.specs.declared.event.TaskKind.{TaskKind}

-- a job at rest: it takes, or puts its outputs on the reply port
data Rests : Type 0 where
  takes : Rests
  replies : ℕ → Trees → Rests

module _ (program : ProgramView) (j : ℕ) (w : Work) where
  abbrev job_body : Next Rests → SystemBody
  job_body (to takes) = a_job j w (to job_takes)
  job_body (to (replies p ys)) = a_job j w (to (job_replies p ys))
  job_body stop = a_job j w stop
  job_body (fail g) = a_job j w (fail g)

  abbrev job_op : Rests → OpView
  job_op takes = taking (port j)
  job_op (replies p ys) = putting (port p) (vector ys)

  only : (n : Next Rests) (op : OpView) → IsAtOp (system_task (job_body n)) op → (x : Rests) × (n ≡ to x) × (op ≡ job_op x)
  only (to takes) op at = (takes, refl, asked w.place None (taking (port j)) (record { op = op; place = at.0 }) at.1)
  only (to (replies p ys)) op at = (replies p ys, refl, asked w.place (too_large_here (vector ys)) (putting (port p) (vector ys)) (record { op = op; place = at.0 }) at.1)
  only stop op at = absurd (let e : ended nil ≡ at_op (record { op = op; place = at.0 }) = at.1 in cc)
  only (fail g) op at = absurd (let e : faulted g w.place ≡ at_op (record { op = op; place = at.0 }) = at.1 in cc)

  -- it owes the outputs of the value that it took
  abbrev Owes : ℕ → Trees → Option (ℕ × Tree) → Type 0
  Owes p ys o = (a v : Tree) × (o ≡ Some (j, a)) × (value_and_port a ≡ Some (v, p)) × Outs program w v (outputs ys)

  abbrev JobsAt : Next Rests → Option (ℕ × Tree) → Type 0
  JobsAt (to takes) o = o ≡ None
  JobsAt (to (replies p ys)) o = Owes p ys o
  JobsAt stop o = Unit {0}
  JobsAt (fail g) o = Unit {0}

  abbrev JobAt : Next Rests → List Deed → Type 0
  JobAt n ds = JobsAt n (last_answer ds)

  by_deed : (n : Next Rests) (ds : List Deed) (d c : Deed) → d ≡ c → JobsAt n (answer_after c (last_answer ds)) → JobAt n (ds ++ d ∷ [])
  by_deed n ds d c is k = subst (λ z. JobAt n (ds ++ z ∷ [])) (sym is) (subst (JobsAt n) (sym (answer_more None ds c)) k)

  allowed : (x : Rests) (ds : List Deed) → JobAt (to x) ds → JobRule program j w ds (job_op x)
  allowed takes ds k = (refl, k)
  allowed (replies p ys) ds k = (k.0, k.1, p, ys, k.2, k.3, refl, k.4, refl)

  -- what is after an answer
  abbrev Goes : List Deed → SystemBody → Type 0
  Goes ds c = (n : Next Rests) × (c ≡ job_body n) × JobAt n ds

  answered : (x : Rests) (ds : List Deed) (d : Deed) (a : Tree) (c : SystemBody) → JobAt (to x) ds → Replies (job_op x) d a → SystemRest program (system_fill a (job_body (to x))) c → Goes (ds ++ d ∷ []) c
  answered takes ds d a c k (got is) r = by (is_nil a) (value_and_port a) refl r where
    works : (v : Tree) (p : ℕ) → value_and_port a ≡ Some (v, p) → (o : Outputs) → Outs program w v o → c ≡ a_job j w (worked_by p o) → Goes (ds ++ d ∷ []) c
    works v p e (outputs ys) out is' = (to (replies p ys), is', by_deed (to (replies p ys)) ds d _ is (a, v, refl, e, out))
    works v p e (no_outputs g) out is' = (fail g, is', tt)

    by : (b : Bool) (o : Option (Tree × ℕ)) → value_and_port a ≡ o → SystemRest program (a_job j w (cond b stop (needing o (λ c. to (job_works c.0 c.1))))) c → Goes (ds ++ d ∷ []) c
    by true o e r = (stop, r, tt)
    by false None e r = (fail WrongKind, r, tt)
    by false (Some z) e r = works z.0 z.1 e r.0 r.1 r.2
  answered (replies p ys) ds d a c k (gave is pa) r = (to takes, r, by_deed (to takes) ds d _ is refl)

  job_keeps : Keeps program job_body job_op JobAt (JobRule program j w)
  job_keeps = record {
    only = only;
    allowed = allowed;
    waits = λ x ds n k may. by_deed (to x) ds (did_wait n (branches_of (job_op x))) (did_wait n (branches_of (job_op x))) refl k;
    ends = λ n ds how k. by_deed n ds (did_end how) (did_end how) refl k;
    answered = answered;
  }

pub jobs_keep_to : (program : ProgramView) (journal : List EventView) (s : State) → Reaches program journal s → JobsKeepTo program journal s
jobs_keep_to program journal s r early late u t result is =
    let m = spawned_at program journal s r early late u t TaskKind.Job result is in
    let w = job_seed m.2.1.1 m.2.1.6 in
    let x = w.0.0 in
    let f = w.0.1 in
    let k = keeps_from program (SystemTask.Job x f) (λ values place. JobRule program (port_of_value (first_of values)) (job_work x f values place))
    (λ values place. job_body program (port_of_value (first_of values)) (job_work x f values place)) (λ values place. job_op program (port_of_value (first_of values)) (job_work x f values place)) (λ values place. JobAt program (port_of_value (first_of values)) (job_work x f values place))
    (λ values place. job_keeps program (port_of_value (first_of values)) (job_work x f values place)) (λ values place c r. (to takes, r, refl)) journal s r early late u t result is m w.1 w.2 w.3 in
    (w.0, w.1, w.2, k.0, k.1)
