-- What is true of a plan over what was held for it stays true once the event's other parts are taken, and all is made.
use Rattle.std.proofs.Common.{◌≡◌, ◌∙◌, ℕ, refl, sym, ap, subst, true, Option, Some, None, is_some}
use Rattle.std.specs.Prelude.{IfSome}
use Rattle.ca_term.specs.Operation.{OpView}
use Rattle.ca_meaning.specs.Body.{At, at_op}
use Rattle.ca_meaning.specs.Refusal.{operands_to_make}
use Rattle.ca_meaning.specs.Registry.{Registry}
use Rattle.ca_meaning.specs.Wait.{is_among}
use Rattle.ca_commit.specs.Agents.{TaskAgent}
use Rattle.ca_commit.specs.Applying.{IsPlanFor, KeepsApart}
use Rattle.ca_commit.specs.Contents.{Counts, Kept, Parked, home, whole}
use Rattle.ca_commit.specs.Deciding.{PlanTells}
use Rattle.ca_commit.specs.Finding.{glance}
use Rattle.ca_commit.specs.Listing.{listed}
use Rattle.ca_commit.specs.Listings.{parts}
use Rattle.ca_commit.specs.Naming.{ports_among}
use Rattle.ca_commit.specs.Numbers.{number_of_shard}
use Rattle.ca_commit.specs.Planning.{Planned, planned, to_close, to_default, to_do, to_look, to_make, to_meet, to_park, to_post, to_print, to_prune, to_refuse, to_register, to_spawn}
use Rattle.ca_commit.specs.Plans.{plan_view}
use Rattle.ca_commit.specs.Running.{Placed}
use Rattle.ca_commit.specs.Showing.{channels_held, registries_held, seen, shard_in, state_held, waits_held}
use Rattle.ca_commit.specs.Tasks.{agent_of}
use Rattle.ca_commit.specs.Waking.{IsPaused}
use Rattle.ca_commit.specs.declared.held.Held.{Held}
use Rattle.ca_commit.specs.declared.planned.Plan.{Plan}
use Rattle.ca_commit.specs.declared.task.Task.{Task}
use Rattle.ca_commit.proofs.Among.{among_first}
use Rattle.ca_commit.proofs.PlanTold.{plan_tells}
use Rattle.ca_commit.proofs.PlansApart.{plans_apart}
use Rattle.ca_table.specs.Bearing.{parts_held}
use Rattle.ca_table.proofs.Staying.{shows_there}
use Rattle.ca_pool.specs.AtEvent.{HasNumbers}
use Rattle.ca_pool.specs.Desk.{ButReady, holds_shards}
use Rattle.ca_pool.specs.Named.{ports_to_hold}
use Rattle.ca_pool.specs.OwnPlans.{IsOwnPlanFor}
use Rattle.ca_pool.specs.Preparing.{HasRest, SpawnsAt}
use Rattle.ca_pool.specs.Resolving.{TaskBringsApart, IsResolved, IsSeen}

pub if_some : {X : Type 0} (P : X → Type 0) (o : Option X) (x : X) → IfSome o P → o ≡ Some x → P x
if_some P None x p e = absurd (let k : None ≡ Some x = e in cc)
if_some P (Some y) x p e = subst P (let k : y ≡ x = cc in k) p

-- it is a plan from some start
pub from_its_start : {A : Type 0} (place : A → At) (h : Held A) (q : Planned) (a : TaskAgent A) → IsOwnPlanFor place h q a → IsPlanFor place h q a
from_its_start place h q a own = (own.0, own.1, a.alts, own.2)

-- it starts a task only where the operation spawns it
pub own_spawns : {A : Type 0} (place : A → At) (h : Held A) (q : Planned) (a : TaskAgent A) → IsOwnPlanFor place h q a → SpawnsAt (place a.agent) q
own_spawns place h (to_spawn kind r) a own =
    let tells = subst (λ (q : Planned). PlanTells (parts_held 0 None None h) own.0.op q) (sym own.2) (plan_tells (parts_held 0 None None h) own.0.op a.alts) in
    (tells.1.0, own.0.place, own.1 ∙ ap (λ (o : OpView). at_op (record { op = o; place = own.0.place })) tells.1.1)
own_spawns place h (to_look w) a own = tt
own_spawns place h (to_prune p side i) a own = tt
own_spawns place h (to_refuse f) a own = tt
own_spawns place h (to_do k b alts) a own = tt
own_spawns place h (to_meet k b alts v o) a own = tt
own_spawns place h (to_park bs) a own = tt
own_spawns place h (to_post bs) a own = tt
own_spawns place h (to_default v) a own = tt
own_spawns place h (to_make what) a own = tt
own_spawns place h (to_close p) a own = tt
own_spawns place h (to_register name args) a own = tt
own_spawns place h (to_print line) a own = tt

module _ {A : Type 0} (place : A → At) (old new : Held A) (channels : (i : ℕ) → channels_held new.banks i ≡ channels_held old.banks i) (registries : (i : ℕ) → registries_held new.banks i ≡ registries_held old.banks i) (waits : (i : ℕ) → waits_held new.shards i ≡ waits_held old.shards i) where
  all_channels : channels_held new.banks ≡ channels_held old.banks
  all_channels = λ t i. channels i t

  all_registries : registries_held new.banks ≡ registries_held old.banks
  all_registries = λ t i. registries i t

  all_waits : waits_held new.shards ≡ waits_held old.shards
  all_waits = λ t i. waits i t

  pub plan_kept : (q : Planned) (a : TaskAgent A) → IsOwnPlanFor place old q a → IsOwnPlanFor place new q a
  plan_kept q a p = (p.0, p.1, p.2 ∙ sym (λ t. planned (record { ports = whole (all_channels t); registries = whole (all_registries t); see = glance (all_waits t) }) p.0.op a.alts))

  pub placed_kept : Placed (channels_held old.banks) → Placed (channels_held new.banks)
  placed_kept p = subst (λ (f : ℕ → Option (ℕ → Option Kept)). Placed f) (sym all_channels) p

  pub paused_kept : ((w : ℕ) → IsPaused place (whole (waits_held old.shards) w)) → (w : ℕ) → IsPaused place (whole (waits_held new.shards) w)
  paused_kept p w = subst (λ (f : ℕ → Option (ℕ → Option (Parked (TaskAgent A)))). IsPaused place (whole f w)) (sym all_waits) (p w)

  pub no_channel_kept : (p r : ℕ) → r ≡ p → whole (channels_held old.banks) p ≡ None → whole (channels_held new.banks) r ≡ None
  no_channel_kept p r e none = ap (λ (f : ℕ → Option (ℕ → Option Kept)). whole f r) all_channels ∙ ap (λ (k : ℕ). whole (channels_held old.banks) k) e ∙ none

  pub no_registry_kept : (p r : ℕ) → r ≡ p → whole (registries_held old.banks) p ≡ None → whole (registries_held new.banks) r ≡ None
  no_registry_kept p r e none = ap (λ (f : ℕ → Option (ℕ → Option Registry)). whole f r) all_registries ∙ ap (λ (k : ℕ). whole (registries_held old.banks) k) e ∙ none

-- the same numbers, of the same worker
pub numbers_moved : {A : Type 0} (w v n m : ℕ) (counts : Counts) (old new : Held A) → v ≡ w → m ≡ n → new.new_task ≡ old.new_task → new.new_port ≡ old.new_port → new.new_wait ≡ old.new_wait → HasNumbers w n counts old → HasNumbers v m counts new
numbers_moved w v n m counts old new e f task port wait h = subst (λ (k : ℕ). HasNumbers k m counts new) (sym e) (subst (λ (k : ℕ). HasNumbers w k counts new) (sym f) (record { task = task ∙ h.task; port = port ∙ h.port; wait = wait ∙ h.wait }))

-- the banks and shards that the event of a resolved plan needs are held
pub resolved_rest : {A : Type 0} (place : A → At) (held : Held A) (task : Task A) (p : Plan) → IsResolved place held task p → HasRest held (plan_view p)
resolved_rest {A} place held task p r = by (plan_view p) r.seen r.plan_for.2 where
  by : (q : Planned) → IsSeen (holds_shards held) held.new_wait q → q ≡ planned (seen held.banks held.shards) r.plan_for.0.op (agent_of task).alts → HasRest held q
  by (to_park bs) seen e = shows_there shard_in (listed number_of_shard (parts held.shards) (home held.new_wait)) ∙ seen
  by (to_post bs) seen e = shows_there shard_in (listed number_of_shard (parts held.shards) (home held.new_wait)) ∙ seen
  by (to_make what) seen e =
      let tells = subst (λ (q : Planned). PlanTells (parts_held 0 None None held) r.plan_for.0.op q) (sym e) (plan_tells (parts_held 0 None None held) r.plan_for.0.op (agent_of task).alts) in
      r.named r.plan_for.0 r.plan_for.1 held.new_port (subst (λ (op : OpView). is_among held.new_port (ports_to_hold op held.new_port) ≡ true) (sym tells.1) (among_first held.new_port (ports_among (operands_to_make what)) held.new_port refl))
  by (to_do k b alts) seen e = tt
  by (to_meet k b alts w o) seen e = tt
  by (to_default v) seen e = tt
  by (to_spawn kind x) seen e = tt
  by (to_close x) seen e = tt
  by (to_register name args) seen e = tt
  by (to_print line) seen e = tt
  by (to_look w) seen e = tt
  by (to_prune x side i) seen e = tt
  by (to_refuse f) seen e = tt

-- the ready part changes nothing of them
pub rest_ready : {A : Type 0} (q : Planned) (old new : Held A) → ButReady old new → HasRest old q → HasRest new q
rest_ready (to_park bs) old new b h = ap (λ s. is_some (waits_held s (home new.new_wait))) b.shards ∙ ap (λ (k : ℕ). is_some (waits_held old.shards (home k))) b.numbers.wait ∙ h
rest_ready (to_post bs) old new b h = ap (λ s. is_some (waits_held s (home new.new_wait))) b.shards ∙ ap (λ (k : ℕ). is_some (waits_held old.shards (home k))) b.numbers.wait ∙ h
rest_ready (to_make what) old new b h = ap (λ s. is_some (channels_held s (home new.new_port))) b.banks ∙ ap (λ (k : ℕ). is_some (channels_held old.banks (home k))) b.numbers.port ∙ h
rest_ready (to_do k b2 alts) old new b h = tt
rest_ready (to_meet k b2 alts w o) old new b h = tt
rest_ready (to_default v) old new b h = tt
rest_ready (to_spawn kind x) old new b h = tt
rest_ready (to_close x) old new b h = tt
rest_ready (to_register name args) old new b h = tt
rest_ready (to_print line) old new b h = tt
rest_ready (to_look w) old new b h = tt
rest_ready (to_prune x side i) old new b h = tt
rest_ready (to_refuse f) old new b h = tt

-- and what its operation names is apart
pub resolved_apart : {A : Type 0} (place : A → At) (held : Held A) (task : Task A) (p : Plan) → IsResolved place held task p → TaskBringsApart place task → KeepsApart (plan_view p)
resolved_apart place held task p r brings = subst (λ (q : Planned). KeepsApart q) (sym r.plan_for.2) (plans_apart (seen held.banks held.shards) r.plan_for.0.op (agent_of task).alts (brings r.plan_for.0 r.plan_for.1 (state_held held.banks)))
