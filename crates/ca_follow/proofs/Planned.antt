-- What the operation of a task becomes, once no stale handler stands in its way.
use Rattle.std.proofs.Common.{◌≡◌, inr, ℕ, ◌<◌, List, [], refl, sym, ap, ◌∙◌, subst, option_map, Option, None}
use Rattle.ca_term.specs.declared.event.Side.{Side}
use Rattle.ca_term.specs.declared.fault.Fault.{Fault}
use Rattle.ca_term.specs.Event.{BranchView}
use Rattle.ca_term.specs.Operation.{OpView, SeedView, WantView, op_view, spawning}
use Rattle.ca_term.specs.declared.event.TaskKind.{TaskKind}
use Rattle.ca_term.specs.declared.operation.Op.{Op}
use Rattle.ca_term.specs.declared.operation.Seed.{Seed}
use Rattle.ca_value.specs.declared.value.PortId.{PortId}
use Rattle.ca_meaning.specs.Body.{At, at_op, ended, faulted, local, nowhere}
use Rattle.ca_meaning.specs.Choice.{branches_of}
use Rattle.ca_bank.specs.Kept.{pruned}
use Rattle.ca_commit.specs.Agents.{TaskAgent}
use Rattle.ca_commit.specs.Applying.{BankChannels, HasSpawned, IsEvent, KeepsApart}
use Rattle.ca_commit.specs.Contents.{whole}
use Rattle.ca_commit.specs.Deciding.{IsStale, PlanTells, seen_in}
use Rattle.ca_commit.specs.Listing.{changed_at}
use Rattle.ca_commit.specs.Planning.{Planned, planned, state_of, to_close, to_default, to_do, to_look, to_make, to_meet, to_park, to_post, to_print, to_prune, to_refuse, to_register, to_spawn}
use Rattle.ca_commit.specs.Plans.{plan_view}
use Rattle.ca_commit.specs.declared.planned.Plan.{Plan}
use Rattle.ca_commit.specs.declared.planned.Plan.TheVariants as P
use Rattle.ca_commit.proofs.PlanTold.{plan_tells}
use Rattle.ca_commit.proofs.PlansApart.{plans_apart}
use Rattle.ca_states.specs.Code.{CodeView}
use Rattle.ca_tasks.specs.Tasks.{place}
use Rattle.ca_tasks.specs.declared.task.AnyTask.{AnyTask}
use Rattle.ca_follow.specs.Follower.{IsDecided, IsPlanOf, MayFault}
use Rattle.ca_follow.specs.Has.{AreAll, Has, parts_had}
use Rattle.ca_follow.proofs.NeverLooks.{never_looks}
use Rattle.ca_follow.proofs.Operates.{IsSomewhere, apart_behind}
use Rattle.ca_follow.specs.Pruning.{queued_in}
use Rattle.ca_follow.proofs.Prunes.{prunes_fewer}

-- the branches of the operation at which a task stands
abbrev pub branches_at : At → List BranchView
branches_at (at_op w) = branches_of w.op
branches_at local = []
branches_at (ended v) = []
branches_at (faulted f p) = []
branches_at nowhere = []

module _ (h : Has AnyTask) (a : TaskAgent AnyTask) (start : ℕ) where
  -- a handler that is to be pruned is stale
  pub plan_stale : (q : Planned) (p place : ℕ) (side : Side) → q ≡ to_prune p side place → IsPlanOf h a start q → IsStale (parts_had h) p side place
  plan_stale q p place side is plan = (subst (PlanTells (parts_had h) plan.0) (sym plan.3 ∙ is) (plan_tells (parts_had h) plan.0 start)).1.0

  -- and there are fewer handlers without it
  pub fewer_left : (q : Planned) (p i : ℕ) (side : Side) (new : BankChannels) → q ≡ to_prune p side i → IsPlanOf h a start q → ((n : ℕ) → new n ≡ changed_at p (option_map (pruned side i)) h.bank n)
      → queued_in (branches_at (place a.agent)) new < queued_in (branches_at (place a.agent)) h.bank
  fewer_left q p i side new is plan changed = subst (λ (z : At). queued_in (branches_at z) new < queued_in (branches_at z) h.bank) (sym plan.2) (prunes_fewer h plan.0 start p i side new (sym is ∙ plan.3) changed)

  -- where nothing is to be pruned, the plan is decided
  pub plan_decided : (q : Planned) → AreAll h.shard → IsPlanOf h a start q → ((p i : ℕ) (side : Side) → q ≡ to_prune p side i → ⊥) → IsDecided q
  plan_decided (to_look w) all plan none = never_looks h plan.0 start w all plan.3
  plan_decided (to_prune p side i) all plan none = none p i side refl
  plan_decided (to_do k b alts) all plan none = tt
  plan_decided (to_meet k b alts v o) all plan none = tt
  plan_decided (to_park bs) all plan none = tt
  plan_decided (to_post bs) all plan none = tt
  plan_decided (to_default v) all plan none = tt
  plan_decided (to_make what) all plan none = tt
  plan_decided (to_spawn kind r) all plan none = tt
  plan_decided (to_close p) all plan none = tt
  plan_decided (to_register name args) all plan none = tt
  plan_decided (to_print line) all plan none = tt
  plan_decided (to_refuse f) all plan none = tt

  -- what it brings is apart
  pub plan_apart : (code : CodeView) (t : ℕ) (q : Planned) → IsSomewhere code h t a → IsPlanOf h a start q → KeepsApart q
  plan_apart code t q b plan = subst KeepsApart (sym plan.3) (plans_apart (seen_in (parts_had h)) plan.0 start (apart_behind code h t a (record { op = plan.0; place = plan.1 }) b plan.2 (state_of (whole h.bank) (whole h.registry))))

-- an event is drawn with a plan that is decided and isn't refused
pub decided_event : (q : Planned) → IsDecided q → ((f : Fault) → q ≡ to_refuse f → ⊥) → IsEvent q
decided_event (to_look w) d none = d
decided_event (to_prune p side i) d none = d
decided_event (to_refuse f) d none = none f refl
decided_event (to_do k b alts) d none = tt
decided_event (to_meet k b alts v o) d none = tt
decided_event (to_park bs) d none = tt
decided_event (to_post bs) d none = tt
decided_event (to_default v) d none = tt
decided_event (to_make what) d none = tt
decided_event (to_spawn kind r) d none = tt
decided_event (to_close p) d none = tt
decided_event (to_register name args) d none = tt
decided_event (to_print line) d none = tt

-- the operation of a place, if it is one
abbrev op_at : OpView → At → OpView
op_at d (at_op w) = w.op
op_at d local = d
op_at d (ended v) = d
op_at d (faulted f p) = d
op_at d nowhere = d

-- what a plan is that stands for one
pub prune_only : (x : Plan) → ((q : PortId) (side : Side) (i : ℕ) → x ≡ P.Prune q side i → ⊥) → (p i : ℕ) (side : Side) → plan_view x ≡ to_prune p side i → ⊥
prune_only (P.Prune q s j) none p i side e = none q s j refl
prune_only (P.Done a) none p i side e = absurd (let z : plan_view (P.Done a) ≡ to_prune p side i = e in cc)
prune_only (P.Meet a w o) none p i side e = absurd (let z : plan_view (P.Meet a w o) ≡ to_prune p side i = e in cc)
prune_only (P.Park j) none p i side e = absurd (let z : plan_view (P.Park j) ≡ to_prune p side i = e in cc)
prune_only (P.Post j) none p i side e = absurd (let z : plan_view (P.Post j) ≡ to_prune p side i = e in cc)
prune_only (P.Default v) none p i side e = absurd (let z : plan_view (P.Default v) ≡ to_prune p side i = e in cc)
prune_only (P.Make what) none p i side e = absurd (let z : plan_view (P.Make what) ≡ to_prune p side i = e in cc)
prune_only (P.Spawn kind r) none p i side e = absurd (let z : plan_view (P.Spawn kind r) ≡ to_prune p side i = e in cc)
prune_only (P.Close q) none p i side e = absurd (let z : plan_view (P.Close q) ≡ to_prune p side i = e in cc)
prune_only (P.Register name args again) none p i side e = absurd (let z : plan_view (P.Register name args again) ≡ to_prune p side i = e in cc)
prune_only (P.Print line) none p i side e = absurd (let z : plan_view (P.Print line) ≡ to_prune p side i = e in cc)
prune_only (P.Look w) none p i side e = absurd (let z : plan_view (P.Look w) ≡ to_prune p side i = e in cc)
prune_only (P.Refused f) none p i side e = absurd (let z : plan_view (P.Refused f) ≡ to_prune p side i = e in cc)

pub refuse_only : (x : Plan) → ((f : Fault) → x ≡ P.Refused f → ⊥) → (f : Fault) → plan_view x ≡ to_refuse f → ⊥
refuse_only (P.Refused g) none f e = none g refl
refuse_only (P.Prune q s j) none f e = absurd (let z : plan_view (P.Prune q s j) ≡ to_refuse f = e in cc)
refuse_only (P.Done a) none f e = absurd (let z : plan_view (P.Done a) ≡ to_refuse f = e in cc)
refuse_only (P.Meet a w o) none f e = absurd (let z : plan_view (P.Meet a w o) ≡ to_refuse f = e in cc)
refuse_only (P.Park j) none f e = absurd (let z : plan_view (P.Park j) ≡ to_refuse f = e in cc)
refuse_only (P.Post j) none f e = absurd (let z : plan_view (P.Post j) ≡ to_refuse f = e in cc)
refuse_only (P.Default v) none f e = absurd (let z : plan_view (P.Default v) ≡ to_refuse f = e in cc)
refuse_only (P.Make what) none f e = absurd (let z : plan_view (P.Make what) ≡ to_refuse f = e in cc)
refuse_only (P.Spawn kind r) none f e = absurd (let z : plan_view (P.Spawn kind r) ≡ to_refuse f = e in cc)
refuse_only (P.Close q) none f e = absurd (let z : plan_view (P.Close q) ≡ to_refuse f = e in cc)
refuse_only (P.Register name args again) none f e = absurd (let z : plan_view (P.Register name args again) ≡ to_refuse f = e in cc)
refuse_only (P.Print line) none f e = absurd (let z : plan_view (P.Print line) ≡ to_refuse f = e in cc)
refuse_only (P.Look w) none f e = absurd (let z : plan_view (P.Look w) ≡ to_refuse f = e in cc)

-- nothing is started where the plan is no spawn, and a spawn is that of a seed
pub starts_none : (x : Plan) → ((k : TaskKind) (r : Option PortId) → x ≡ P.Spawn k r → ⊥) → HasSpawned {A = AnyTask} None (plan_view x)
starts_none (P.Spawn k r) none = absurd (none k r refl)
starts_none (P.Prune q s j) none = tt
starts_none (P.Done a) none = tt
starts_none (P.Meet a w o) none = tt
starts_none (P.Park j) none = tt
starts_none (P.Post j) none = tt
starts_none (P.Default v) none = tt
starts_none (P.Make what) none = tt
starts_none (P.Close q) none = tt
starts_none (P.Register name args again) none = tt
starts_none (P.Print line) none = tt
starts_none (P.Look w) none = tt
starts_none (P.Refused f) none = tt

pub spawn_only : (x : Op) → ((seed : Seed) → x ≡ Op.Spawn seed → ⊥) → (seed : SeedView) → op_view x ≡ spawning seed → ⊥
spawn_only (Op.Spawn s) none seed e = none s refl
spawn_only (Op.Take c) none seed e = absurd (let z : op_view (Op.Take c) ≡ spawning seed = e in cc)
spawn_only (Op.Put c v) none seed e = absurd (let z : op_view (Op.Put c v) ≡ spawning seed = e in cc)
spawn_only (Op.Alts ports priority default) none seed e = absurd (let z : op_view (Op.Alts ports priority default) ≡ spawning seed = e in cc)
spawn_only (Op.Make what) none seed e = absurd (let z : op_view (Op.Make what) ≡ spawning seed = e in cc)
spawn_only (Op.Close c) none seed e = absurd (let z : op_view (Op.Close c) ≡ spawning seed = e in cc)
spawn_only (Op.Register name values) none seed e = absurd (let z : op_view (Op.Register name values) ≡ spawning seed = e in cc)
spawn_only (Op.Print line) none seed e = absurd (let z : op_view (Op.Print line) ≡ spawning seed = e in cc)
spawn_only (Op.Post c v) none seed e = absurd (let z : op_view (Op.Post c v) ≡ spawning seed = e in cc)

-- so at another operation none is
pub none_started : (h : Has AnyTask) (a : TaskAgent AnyTask) (q : Planned) (w : WantView) → (start : ℕ) × IsPlanOf h a start q → place a.agent ≡ at_op w → ((seed : SeedView) → w.op ≡ spawning seed → ⊥) → HasSpawned {A = AnyTask} None q
none_started h a (to_spawn kind r) w plan here none =
    let told = subst (PlanTells (parts_had h) plan.1.0) (sym plan.1.3) (plan_tells (parts_had h) plan.1.0 plan.0) in
    absurd (none told.1.0 (ap (op_at w.op) (sym here ∙ plan.1.2) ∙ told.1.1))
none_started h a (to_look w) v plan here none = tt
none_started h a (to_prune p side i) w plan here none = tt
none_started h a (to_refuse f) w plan here none = tt
none_started h a (to_do k b alts) w plan here none = tt
none_started h a (to_meet k b alts v o) w plan here none = tt
none_started h a (to_park bs) w plan here none = tt
none_started h a (to_post bs) w plan here none = tt
none_started h a (to_default v) w plan here none = tt
none_started h a (to_make what) w plan here none = tt
none_started h a (to_close p) w plan here none = tt
none_started h a (to_register name args) w plan here none = tt
none_started h a (to_print line) w plan here none = tt

-- where the plan is refused, the task may fault there
pub refused_may : (h : Has AnyTask) (a : TaskAgent AnyTask) (start : ℕ) (q : Planned) (f : Fault) (w : WantView) → IsPlanOf h a start q → q ≡ to_refuse f → place a.agent ≡ at_op w → MayFault h a f w.place
refused_may h a start q f w plan is here = inr (w.op, start, here, subst (λ (o : OpView). planned (seen_in (parts_had h)) o start ≡ to_refuse f) (ap (op_at plan.0) (sym plan.2 ∙ here)) (sym plan.3 ∙ is))
