-- What all banks and shards of a follower tell of the state, where they are its.
use Rattle.std.proofs.Common.{◌≡◌, ⊎_elim, ℕ, refl, sym, ap, ◌∙◌, subst, true, Some, None, slice_get}
use Rattle.ca_value.specs.Tree.{port}
use Rattle.ca_term.specs.declared.fault.Fault.{Fault}
use Rattle.ca_term.specs.declared.place.Place.{Place}
use Rattle.ca_term.specs.Event.{BranchView}
use Rattle.ca_term.specs.Operation.{OpView, closing, making, printing, registering, spawning}
use Rattle.ca_term.specs.Program.{ProgramView}
use Rattle.ca_meaning.specs.Body.{At, at_op}
use Rattle.ca_meaning.specs.Choice.{branches_of, is_ready, row}
use Rattle.ca_meaning.specs.Going.{RunsAtOperation}
use Rattle.ca_meaning.specs.Refusal.{crowded, refusal, too_many, unfit}
use Rattle.ca_meaning.specs.State.{State, Task}
use Rattle.ca_meaning.specs.Task.{TaskBody, body_at}
use Rattle.ca_commit.specs.Agents.{TaskAgent}
use Rattle.ca_commit.specs.Applying.{IsEvent}
use Rattle.ca_commit.specs.Contents.{Parts, whole}
use Rattle.ca_commit.specs.Deciding.{PlanTells, seen_in}
use Rattle.ca_commit.specs.Planning.{Planned, fitting, planned, state_of, to_close, to_default, to_do, to_look, to_make, to_meet, to_park, to_post, to_print, to_prune, to_refuse, to_register, to_spawn, unless_refused}
use Rattle.ca_commit.specs.Standing.{op_at}
use Rattle.ca_commit.proofs.Fitting.{crowd_refuses, default_fits, few_fits, fits, ready_fits, refuses, some_ready}
use Rattle.ca_commit.proofs.FitsMore.{first_none}
use Rattle.ca_commit.proofs.Laid.{IsPart}
use Rattle.ca_commit.proofs.NamesTold.{unfit_same}
use Rattle.ca_commit.proofs.Shown.{Shown, none_crowded, none_ready, row_seen, shows, some_crowded}
use Rattle.ca_follow.specs.Follows.{Follows, IsAt}
use Rattle.ca_follow.specs.Has.{Has, parts_had}

-- parts are a part of themselves
pub part_of_itself : {A : Type 0} (h : Parts A) → IsPart h h
part_of_itself h = record {
  lanes = λ i x e. e;
  banks = λ i x e. e;
  shards = λ i x e. e;
  readys = λ i x e. e;
  registries = λ i x e. e;
  clocks = λ c e. e;
}

module _ {A : Type 0} (h : Parts A) (s : State) (shown : Shown h s) where
  -- the operands are as right in the state as in the banks
  pub unfit_seen : (op : OpView) → unfit s op ≡ unfit (state_of (whole h.bank) (whole h.registry)) op
  unfit_seen op = unfit_same s (state_of (whole h.bank) (whole h.registry)) op (λ n e. (shown.holds.channels_are n, shown.registered n))

  -- the plan of an operation that isn't refused
  pub plan_fits : (op : OpView) (start : ℕ) → refusal s op ≡ None → planned (seen_in h) op start ≡ fitting (seen_in h) op start
  plan_fits op start e = ap (λ o. unless_refused (seen_in h) o (fitting (seen_in h) op start)) (sym (unfit_seen op) ∙ first_none (unfit s op) (too_many s op) e)

  no_branches : (op kind : OpView) → unfit s op ≡ None → op ≡ kind → crowded s (branches_of kind) ≡ None → refusal s op ≡ None
  no_branches op kind fit is none = fits s op fit (few_fits s op (ap (λ o. crowded s (branches_of o)) is ∙ none))

  ready_there : (op : OpView) (k : ℕ) (b : BranchView) → unfit s op ≡ None → slice_get (branches_of op) k ≡ Some b → is_ready (row s b) ≡ true → refusal s op ≡ None
  ready_there op k b fit at ready = fits s op fit (ready_fits s op (some_ready s (branches_of op) k b at ready))

  -- an operation whose plan is an event isn't refused
  pub event_fits : (op : OpView) (q : Planned) → PlanTells h op q → IsEvent q → refusal s op ≡ None
  event_fits op (to_do k b alts) t e = ready_there op k b (t.0 s (shows h h s shown (part_of_itself h))) t.1.0 (ap is_ready (row_seen h h s b t.2.kept shown (part_of_itself h) t.2.there t.2.asks ∙ t.2.by_row))
  event_fits op (to_meet k b alts w o) t e = ready_there op k b (t.0 s (shows h h s shown (part_of_itself h))) t.1.0 (ap is_ready (row_seen h h s b t.2.kept shown (part_of_itself h) t.2.there t.2.asks ∙ t.2.by_row))
  event_fits op (to_park bs) t e = fits s op (t.0 s (shows h h s shown (part_of_itself h))) (few_fits s op (none_crowded h h s (branches_of op) shown (part_of_itself h) t.3.few))
  event_fits op (to_post bs) t e = fits s op (t.0 s (shows h h s shown (part_of_itself h))) (few_fits s op (none_crowded h h s (branches_of op) shown (part_of_itself h) t.3.few))
  event_fits op (to_default v) t e = fits s op (t.0 s (shows h h s shown (part_of_itself h))) (default_fits s op v t.1)
  event_fits op (to_make what) t e = no_branches op (making what) (t.0 s (shows h h s shown (part_of_itself h))) t.1 refl
  event_fits op (to_spawn kind r) t e = no_branches op (spawning t.1.0) (t.0 s (shows h h s shown (part_of_itself h))) t.1.1 refl
  event_fits op (to_close p) t e = no_branches op (closing (port p)) (t.0 s (shows h h s shown (part_of_itself h))) t.1 refl
  event_fits op (to_register name args) t e = no_branches op (registering name args) (t.0 s (shows h h s shown (part_of_itself h))) t.1 refl
  event_fits op (to_print line) t e = no_branches op (printing line) (t.0 s (shows h h s shown (part_of_itself h))) t.1 refl
  event_fits op (to_look w) t e = absurd e
  event_fits op (to_prune p side place) t e = absurd e
  event_fits op (to_refuse f) t e = absurd e

  -- the fault of a plan that refuses is that of the operation
  pub refused_is : (op : OpView) (f : Fault) → PlanTells h op (to_refuse f) → refusal s op ≡ Some f
  refused_is op f t = ⊎_elim
      (λ e. refuses s op f (unfit_seen op ∙ e))
      (λ c. crowd_refuses s op f (c.0 s (shows h h s shown (part_of_itself h))) (none_ready h h s (branches_of op) shown (part_of_itself h) c.2) c.1 (some_crowded h h s (branches_of op) f shown (part_of_itself h) c.3)) t

module _ {A : Type 0} (place : A → At) (stands : ProgramView → A → TaskBody → Type 0) (program : ProgramView) where
  -- the banks and shards of a follower show the state
  pub follower_shows : (h : Has A) (s : State) → Follows place stands program h s → Shown (parts_had h) s
  follower_shows h s f = record { holds = f.holds; registered = f.registered }

  -- where a running task's agent is, its body stands, and they have one result port
  pub place_is : (h : Has A) (s : State) (t : ℕ) (a : TaskAgent A) (x : Task) → IsAt place stands program h s t a → s.tasks t ≡ Some x → (place a.agent ≡ body_at x.body) × (a.result ≡ x.result)
  place_is h s t a x is e = subst (λ (y : Task). (place a.agent ≡ body_at y.body) × (a.result ≡ y.result)) (let k : Some is.1.0 ≡ Some x = sym is.1.1.0 ∙ e in let same : is.1.0 ≡ x = cc in same) (is.1.3, is.1.2.0)

  -- the operation of its agent is the one at which the task stands
  pub op_is : (h : Has A) (s : State) (t : ℕ) (a : TaskAgent A) (op op2 : OpView) (at : Place) (x : Task) → IsAt place stands program h s t a → place a.agent ≡ at_op (record { op = op; place = at }) → RunsAtOperation s t op2 x → op ≡ op2
  op_is h s t a op op2 at x is stood st = ap op_at (sym stood ∙ (place_is h s t a x is st.0).0 ∙ st.2.1)
