-- A system task has one rest, and stands there at an operation, its end or a fault. It starts no go block.
use Rattle.std.proofs.Common.{◌≡◌, ◌≢◌, ℕ, [], ◌∷◌, ◌++◌, refl, sym, ap, ◌∙◌, subst, Bool, true, false, not, Option, Some, None}
use Rattle.std.specs.Prelude.{Ok, Err}
use Rattle.ca_value.specs.Tree.{Tree, Trees, bool, vector, port, item}
use Rattle.ca_term.specs.declared.place.Place.{Place}
use Rattle.ca_term.specs.declared.fault.Fault.{Fault}
use Rattle.ca_term.specs.declared.head.PlainFunction.{PlainFunction}
use Rattle.ca_term.specs.declared.head.PlainFunction.TheVariants.{Defined, Keyword}
use Rattle.ca_term.specs.declared.head.Head.TheVariants.{Call}
use Rattle.ca_term.specs.declared.head.SystemTask.{SystemTask}
use Rattle.ca_term.specs.Kernel.{const, apply, none as no_terms, item as term_item}
use Rattle.ca_term.specs.Operation.{OpView, taking, putting, choosing, making, spawning, closing, registering, printing, posting, go, system}
use Rattle.ca_term.specs.Program.{ProgramView}
use Rattle.ca_meaning.specs.Asking.{too_large_branches}
use Rattle.ca_meaning.specs.Body.{At, local, at_op, ended, faulted, nowhere, at, asking, new_body}
use Rattle.ca_meaning.specs.Asks.{pair_of, Ask, too_large_here, ask_to_put, ask_to_choose, Next, stands_at, to, stop, fail}
use Rattle.ca_meaning.specs.Applied.{Returned, returned_at, Applied, Work, Outputs, outputs, no_outputs, outputs_by, Outs}
use Rattle.ca_meaning.specs.MultTable.{MultPorts, mult_asks, mult_takes, mult_reads, mult_spawns, mult_waits, mult_reads_last, mult_closes, Delivery, deliver_asks, deliver_puts, deliver_untaps, deliver_answers}
use Rattle.ca_meaning.specs.MixTable.{port_trees, MixPorts, mix_asks, mix_reads, mix_chooses, mix_drops, mix_puts}
use Rattle.ca_meaning.specs.PubTable.{PubPorts, pub_takes, pub_sorts, pub_finds, pub_puts, pub_reads_last, pub_closes, sorted_by}
use Rattle.ca_meaning.specs.PipeTable.{PipePorts, pipe_asks, pipe_takes, pipe_puts, pipe_closes, merge_asks, merge_chooses, merge_puts, merge_closes, OntoPorts, onto_asks, onto_puts, onto_closes, onto_ends}
use Rattle.ca_meaning.specs.PipelineTable.{FeedPorts, feed_asks, feed_takes, feed_makes, feed_puts, feed_queues, feed_closes_jobs, feed_closes_replies, job_takes, job_works, job_replies, worked_by, CollectPorts, collect_asks, collect_takes, collect_opens, collect_puts, collect_closes, collect_ends}
use Rattle.ca_meaning.specs.System.{SystemBody, a_mult, a_delivery, a_mix, a_pub, a_pipe, a_merge, an_onto, a_feed, a_job, a_collect, new_system, system_at, SystemRest}
use Rattle.ca_meaning.proofs.Rests.{rests, one_rest}

abbrev starts_go : OpView → Bool
starts_go (spawning (go n values result place)) = true
starts_go (spawning (system kind values place)) = false
starts_go (taking c) = false
starts_go (putting c v) = false
starts_go (choosing ports priority default) = false
starts_go (making what) = false
starts_go (closing c) = false
starts_go (registering name args) = false
starts_go (printing line) = false
starts_go (posting c v) = false

-- at an operation that starts no go block, at its end or at a fault
abbrev pub is_firm : At → Bool
is_firm local = false
is_firm (at_op w) = not (starts_go w.op)
is_firm (ended v) = true
is_firm (faulted f p) = true
is_firm nowhere = false

asks_firmly : (p : Place) (o : Option Fault) (op : OpView) → starts_go op ≡ false → is_firm (asking p o op) ≡ true
asks_firmly p None op e = ap not e
asks_firmly p (Some f) op e = refl

abbrev AllFirm : {S : Type 0} → (S → Ask) → Type 0
AllFirm {S} asks = (x : S) (p : Place) → is_firm (asks x p) ≡ true

stands_firm : {S : Type 0} (p : Place) (asks : S → Ask) → AllFirm asks → (x : Next S) → is_firm (stands_at p asks x) ≡ true
stands_firm p asks all (to x) = all x p
stands_firm p asks all stop = refl
stands_firm p asks all (fail f) = refl

puts_firm : (c : ℕ) (v : Tree) (p : Place) → is_firm (ask_to_put c v p) ≡ true
puts_firm c v p = asks_firmly p (too_large_here v) (putting (port c) v) refl

chooses_firm : (vs : Trees) (p : Place) → is_firm (ask_to_choose vs p) ≡ true
chooses_firm vs p = asks_firmly p (too_large_branches vs) (choosing vs false None) refl

mult_firm : (t : MultPorts) → AllFirm (mult_asks t)
mult_firm t mult_takes p = refl
mult_firm t (mult_reads v) p = refl
mult_firm t (mult_spawns v x xs n) p = refl
mult_firm t (mult_waits n) p = refl
mult_firm t mult_reads_last p = refl
mult_firm t (mult_closes c cs) p = refl

deliver_firm : (t : Delivery) → AllFirm (deliver_asks t)
deliver_firm t deliver_puts p = puts_firm t.channel t.value p
deliver_firm t deliver_untaps p = refl
deliver_firm t deliver_answers p = puts_firm t.acks (bool true) p

mix_firm : (t : MixPorts) → AllFirm (mix_asks t)
mix_firm t mix_reads p = refl
mix_firm t (mix_chooses reads heard) p = chooses_firm (port_trees (reads ++ t.changes ∷ [])) p
mix_firm t (mix_drops c) p = refl
mix_firm t (mix_puts reads heard v) p = puts_firm t.out v p

pipe_firm : (t : PipePorts) → AllFirm (pipe_asks t)
pipe_firm t pipe_takes p = refl
pipe_firm t (pipe_puts v) p = puts_firm t.target v p
pipe_firm t pipe_closes p = refl

merge_firm : (t : ℕ) → AllFirm (merge_asks t)
merge_firm t (merge_chooses v vs) p = chooses_firm (item v vs) p
merge_firm t (merge_puts vs v) p = puts_firm t v p
merge_firm t merge_closes p = refl

onto_firm : (t : OntoPorts) → AllFirm (onto_asks t)
onto_firm t (onto_puts v vs) p = puts_firm t.target v p
onto_firm t onto_closes p = refl
onto_firm t onto_ends p = refl

feed_firm : (t : FeedPorts) → AllFirm (feed_asks t)
feed_firm t feed_takes p = refl
feed_firm t (feed_makes v) p = refl
feed_firm t (feed_puts v q) p = puts_firm t.jobs (pair_of v (port q)) p
feed_firm t (feed_queues q) p = puts_firm t.replies (port q) p
feed_firm t feed_closes_jobs p = refl
feed_firm t feed_closes_replies p = refl

collect_firm : (t : CollectPorts) → AllFirm (collect_asks t)
collect_firm t collect_takes p = refl
collect_firm t (collect_opens q) p = refl
collect_firm t (collect_puts y ys) p = puts_firm t.target y p
collect_firm t collect_closes p = refl
collect_firm t collect_ends p = refl

-- where it doesn't apply a function
abbrev IsFirm : SystemBody → Type 0
IsFirm b = is_firm (system_at b) ≡ true

sorted_firm : (t : PubPorts) (p : Place) (v : Tree) (r : Returned) → IsFirm (a_pub t p (sorted_by v r))
sorted_firm t p v (Ok w) = refl
sorted_firm t p v (Err f) = refl

worked_firm : (j : ℕ) (w : Work) (r : ℕ) (o : Outputs) → IsFirm (a_job j w (worked_by r o))
worked_firm j w r (outputs ys) = puts_firm r (vector ys) w.place
worked_firm j w r (no_outputs f) = refl

pub system_firm : (program : ProgramView) (b c : SystemBody) → SystemRest program b c → IsFirm c
system_firm program (a_mult t p x) c e = subst IsFirm (sym e) (stands_firm p (mult_asks t) (mult_firm t) x)
system_firm program (a_delivery t p x) c e = subst IsFirm (sym e) (stands_firm p (deliver_asks t) (deliver_firm t) x)
system_firm program (a_mix t p x) c e = subst IsFirm (sym e) (stands_firm p (mix_asks t) (mix_firm t) x)
system_firm program (a_pub t p (to (pub_sorts v))) c e = subst IsFirm (sym e.2) (sorted_firm t p v e.0)
system_firm program (a_pub t p (to pub_takes)) c e = subst IsFirm (sym e) refl
system_firm program (a_pub t p (to (pub_finds topic v))) c e = subst IsFirm (sym e) refl
system_firm program (a_pub t p (to (pub_puts q v))) c e = subst IsFirm (sym e) (puts_firm q v p)
system_firm program (a_pub t p (to pub_reads_last)) c e = subst IsFirm (sym e) refl
system_firm program (a_pub t p (to (pub_closes q qs))) c e = subst IsFirm (sym e) refl
system_firm program (a_pub t p stop) c e = subst IsFirm (sym e) refl
system_firm program (a_pub t p (fail f)) c e = subst IsFirm (sym e) refl
system_firm program (a_pipe t p x) c e = subst IsFirm (sym e) (stands_firm p (pipe_asks t) (pipe_firm t) x)
system_firm program (a_merge t p x) c e = subst IsFirm (sym e) (stands_firm p (merge_asks t) (merge_firm t) x)
system_firm program (an_onto t p x) c e = subst IsFirm (sym e) (stands_firm p (onto_asks t) (onto_firm t) x)
system_firm program (a_feed t p x) c e = subst IsFirm (sym e) (stands_firm p (feed_asks t) (feed_firm t) x)
system_firm program (a_job t p (to (job_works v r))) c e = subst IsFirm (sym e.2) (worked_firm t p r e.0)
system_firm program (a_job t p (to job_takes)) c e = subst IsFirm (sym e) refl
system_firm program (a_job t p (to (job_replies r ys))) c e = subst IsFirm (sym e) (puts_firm r (vector ys) p.place)
system_firm program (a_job t p stop) c e = subst IsFirm (sym e) refl
system_firm program (a_job t p (fail f)) c e = subst IsFirm (sym e) refl
system_firm program (a_collect t p x) c e = subst IsFirm (sym e) (stands_firm p (collect_asks t) (collect_firm t) x)

pub system_rested : (program : ProgramView) (b c : SystemBody) → SystemRest program b c → system_at c ≢ local
system_rested program b c r e = let k : false ≡ true = sym (ap is_firm e) ∙ system_firm program b c r in cc

pub never_nowhere : (program : ProgramView) (b c : SystemBody) → SystemRest program b c → system_at c ≢ nowhere
never_nowhere program b c r e = let k : false ≡ true = sym (ap is_firm e) ∙ system_firm program b c r in cc

-- a function that is applied comes to one thing
applies : (program : ProgramView) (f : PlainFunction) (keyword : Tree) (p : Place) (v : Tree) → (r : Returned) × Applied program f keyword p v r
applies program (Defined n) keyword p v = let r = rests program (new_body (apply (Call n) (term_item (const v) no_terms) p)) in (returned_at (at r.0), (r.0, r.1, refl))
applies program (PlainFunction.Builtin b) keyword p v = (_, refl)
applies program Keyword keyword p v = (_, refl)

applies_once : (program : ProgramView) (f : PlainFunction) (keyword : Tree) (p : Place) (v : Tree) (r s : Returned) → Applied program f keyword p v r → Applied program f keyword p v s → r ≡ s
applies_once program (Defined n) keyword p v r s a b = a.2 ∙ ap (λ c. returned_at (at c)) (one_rest program _ a.0 b.0 a.1 b.1) ∙ sym b.2
applies_once program (PlainFunction.Builtin c) keyword p v r s a b = a ∙ sym b
applies_once program Keyword keyword p v r s a b = a ∙ sym b

pub outs_once : (program : ProgramView) (w : Work) (v : Tree) (o q : Outputs) → Outs program w v o → Outs program w v q → o ≡ q
outs_once program w v o q a b = a.2 ∙ ap (outputs_by w.transform v) (applies_once program w.function w.keyword w.place v a.0 b.0 a.1 b.1) ∙ sym b.2

pub system_rests : (program : ProgramView) (b : SystemBody) → (c : SystemBody) × SystemRest program b c
system_rests program (a_mult t p x) = (_, refl)
system_rests program (a_delivery t p x) = (_, refl)
system_rests program (a_mix t p x) = (_, refl)
system_rests program (a_pub t p (to (pub_sorts v))) = let r = applies program t.topic t.keyword p v in (_, (r.0, r.1, refl))
system_rests program (a_pub t p (to pub_takes)) = (_, refl)
system_rests program (a_pub t p (to (pub_finds topic v))) = (_, refl)
system_rests program (a_pub t p (to (pub_puts q v))) = (_, refl)
system_rests program (a_pub t p (to pub_reads_last)) = (_, refl)
system_rests program (a_pub t p (to (pub_closes q qs))) = (_, refl)
system_rests program (a_pub t p stop) = (_, refl)
system_rests program (a_pub t p (fail f)) = (_, refl)
system_rests program (a_pipe t p x) = (_, refl)
system_rests program (a_merge t p x) = (_, refl)
system_rests program (an_onto t p x) = (_, refl)
system_rests program (a_feed t p x) = (_, refl)
system_rests program (a_job t p (to (job_works v q))) = let r = applies program p.function p.keyword p.place v in (_, (_, (r.0, r.1, refl), refl))
system_rests program (a_job t p (to job_takes)) = (_, refl)
system_rests program (a_job t p (to (job_replies r ys))) = (_, refl)
system_rests program (a_job t p stop) = (_, refl)
system_rests program (a_job t p (fail f)) = (_, refl)
system_rests program (a_collect t p x) = (_, refl)

pub system_once : (program : ProgramView) (b c d : SystemBody) → SystemRest program b c → SystemRest program b d → c ≡ d
system_once program (a_mult t p x) c d r q = r ∙ sym q
system_once program (a_delivery t p x) c d r q = r ∙ sym q
system_once program (a_mix t p x) c d r q = r ∙ sym q
system_once program (a_pub t p (to (pub_sorts v))) c d r q = r.2 ∙ ap (λ o. a_pub t p (sorted_by v o)) (applies_once program t.topic t.keyword p v r.0 q.0 r.1 q.1) ∙ sym q.2
system_once program (a_pub t p (to pub_takes)) c d r q = r ∙ sym q
system_once program (a_pub t p (to (pub_finds topic v))) c d r q = r ∙ sym q
system_once program (a_pub t p (to (pub_puts z v))) c d r q = r ∙ sym q
system_once program (a_pub t p (to pub_reads_last)) c d r q = r ∙ sym q
system_once program (a_pub t p (to (pub_closes z zs))) c d r q = r ∙ sym q
system_once program (a_pub t p stop) c d r q = r ∙ sym q
system_once program (a_pub t p (fail f)) c d r q = r ∙ sym q
system_once program (a_pipe t p x) c d r q = r ∙ sym q
system_once program (a_merge t p x) c d r q = r ∙ sym q
system_once program (an_onto t p x) c d r q = r ∙ sym q
system_once program (a_feed t p x) c d r q = r ∙ sym q
system_once program (a_job t p (to (job_works v z))) c d r q = r.2 ∙ ap (λ o. a_job t p (worked_by z o)) (outs_once program p v r.0 q.0 r.1 q.1) ∙ sym q.2
system_once program (a_job t p (to job_takes)) c d r q = r ∙ sym q
system_once program (a_job t p (to (job_replies z ys))) c d r q = r ∙ sym q
system_once program (a_job t p stop) c d r q = r ∙ sym q
system_once program (a_job t p (fail f)) c d r q = r ∙ sym q
system_once program (a_collect t p x) c d r q = r ∙ sym q

-- a new task does nothing before it asks for its first operation
pub new_rests : (program : ProgramView) (kind : SystemTask) (values : Trees) (place : Place) → SystemRest program (new_system kind values place) (new_system kind values place)
new_rests program SystemTask.Mult vs p = refl
new_rests program SystemTask.Deliver vs p = refl
new_rests program SystemTask.Mix vs p = refl
new_rests program (SystemTask.Pub f) vs p = refl
new_rests program SystemTask.Pipe vs p = refl
new_rests program SystemTask.Merge vs p = refl
new_rests program SystemTask.Onto vs p = refl
new_rests program SystemTask.Feed vs p = refl
new_rests program (SystemTask.Job x f) vs p = refl
new_rests program SystemTask.Collect vs p = refl
