-- What a follower makes of a task's operation leads on, and what it refuses no run has.
use Rattle.std.proofs.Common.{◌≡◌, ℕ, [], refl, sym, ap, ◌∙◌, subst, true, Option, Some, None, option_map, is_some}
use Rattle.std.specs.Prelude.{IfSome, IsSome, nat_eq}
use Rattle.indexmap.specs.IndexSet.{contains}
use Rattle.ca_value.specs.IsValue.{any}
use Rattle.ca_term.specs.declared.event.Side.{Side}
use Rattle.ca_term.specs.Event.{EventView}
use Rattle.ca_term.specs.Operation.{OpView, WantView}
use Rattle.ca_term.specs.declared.place.Place.{Place}
use Rattle.ca_term.specs.Program.{ProgramView}
use Rattle.ca_meaning.specs.Body.{at_op}
use Rattle.ca_meaning.specs.BodyViews.{is_at_op}
use Rattle.ca_meaning.specs.State.{State}
use Rattle.ca_meaning.specs.Steps.{Step}
use Rattle.ca_meaning.proofs.ValueRuns.{step_holds}
use Rattle.ca_meaning.proofs.ValuesWritten.{any_program, written_of}
use Rattle.ca_states.specs.Code.{CodeView}
use Rattle.ca_states.specs.ValidCode.{valid_code}
use Rattle.ca_bank.specs.Kept.{pruned}
use Rattle.ca_commit.specs.Agents.{TaskAgent}
use Rattle.ca_commit.specs.Applying.{IsEvent, event_of, times_by}
use Rattle.ca_commit.specs.Contents.{nobody, owner, whole}
use Rattle.ca_commit.specs.Deciding.{IsStale}
use Rattle.ca_commit.specs.Listing.{changed_at}
use Rattle.ca_commit.specs.NewPort.{KeepsCounts, Times, times_in}
use Rattle.ca_commit.specs.Parking.{waiting_as}
use Rattle.ca_commit.specs.Planning.{Planned, to_close, to_default, to_do, to_look, to_make, to_meet, to_park, to_post, to_print, to_prune, to_refuse, to_register, to_spawn}
use Rattle.ca_commit.specs.Registering.{AreApart}
use Rattle.ca_commit.specs.Showing.{channels_held, registries_held, waits_held}
use Rattle.ca_commit.specs.Tasks.{task_view}
use Rattle.ca_commit.specs.Waking.{IsPaused, ready_in}
use Rattle.ca_commit.specs.declared.held.Held.{Held}
use Rattle.ca_commit.specs.declared.task.Task.{Task}
use Rattle.ca_commit.proofs.Laid.{same_map}
use Rattle.ca_tasks.specs.TaskLaws.{task_answered, task_started, task_stays}
use Rattle.ca_tasks.specs.Tasks.{gives, task_over_code, place, stands, starts}
use Rattle.ca_tasks.specs.declared.task.AnyTask.{AnyTask}
use Rattle.ca_timers.specs.Timers.{TimersView}
use Rattle.ca_follow.specs.Applies.{Applies}
use Rattle.ca_follow.specs.Events.{AreNew, Numbers, event_start, task_of}
use Rattle.ca_follow.specs.Follower.{AppliedFor, IsBehind, IsFollower, IsMadeFor, IsOverCode, IsPlanOf, IsSpawnedTask, KeepsBehind, KnowsTask, LeadsBehind, RefusesBehind, FollowerStands, has, is_known_task, running_in, with_task, without_alts}
use Rattle.ca_follow.specs.Has.{Has, IsAll, parts_had}
use Rattle.ca_follow.specs.declared.follower.Follower.{Follower}
use Rattle.ca_follow.specs.declared.tasks.Tasks.{Tasks}
use Rattle.ca_follow.proofs.AllHeld.{all_by, held_changed}
use Rattle.ca_follow.proofs.GoneOn.{GoneOn, IsStarted, gone_applies}
use Rattle.ca_follow.proofs.Leading.{same_has}
use Rattle.ca_follow.proofs.Only.{only_event}
use Rattle.ca_follow.proofs.OnlyNew.{only_new}
use Rattle.ca_follow.proofs.Plain.{back_all, made_leads}
use Rattle.ca_follow.proofs.Pruned.{pruned_follows}
use Rattle.ca_follow.proofs.StillOver.{OwnersOver, owners_over, paused_by, running_over, still_owners}
use Rattle.ca_follow.proofs.Wanted.{wanted_apart}

module _ (code : CodeView) (e : EventView) (h : Has AnyTask) (t : ℕ) (a : TaskAgent AnyTask) (q : Planned) (all : IsAll h) (plan : IsPlanOf h a (event_start e) q) (event : IsEvent q) where
  -- the event that was made leads on
  pub leads_behind : (h2 : Has AnyTask) (held : Held AnyTask) → AreNew h q held.new_task held.new_port held.new_wait held.moment → AppliedFor code q t held a h h2
      → event_of h.bank h.registry t held.new_task held.new_port held.new_wait held.moment q ≡ e → LeadsBehind code e h t a h2
  leads_behind h2 held new applies is program s made behind =
      let k = made_leads place stands program gives task_answered starts task_started h h2 s plan.0 plan.1 (event_start e) q t held.new_task held.new_port held.new_wait held.moment a all
      behind.stands.follows behind.here plan.2 plan.3 event new (applies program plan.0 plan.1 made plan.2) in
      let step : Step program s e k.0 = subst (λ (x : EventView). Step program s x k.0) is k.1 in
      (k.0, step, record { follows = k.2; values = (step_holds any program (written_of any program made.checked (any_program program)) s k.0 e step behind.stands.values).0 })

  module _ (u p w m : ℕ) (mine : task_of e ≡ Some t) (numbers : Numbers e u p w m) where
    only_this : (program : ProgramView) (s s2 : State) → IsBehind program h t a s → Step program s e s2 → event_of h.bank h.registry t u p w m q ≡ e
    only_this program s s2 behind step = only_event place stands program (with_task t a h) s s2 e t u p w m a plan.0 plan.1 q behind.stands.follows (back_all h t a all) behind.here plan.2 plan.3 event step mine numbers

    -- an event that isn't the one that is made no run has
    pub refuses_other : (event_of h.bank h.registry t u p w m q ≡ e → ⊥) → RefusesBehind code e h t a
    refuses_other other program s s2 made behind step = other (only_this program s s2 behind step)

    -- nor one whose numbers aren't new
    pub refuses_old : (AreNew h q u p w m → ⊥) → RefusesBehind code e h t a
    refuses_old old program s s2 made behind step = old (only_new place stands program (with_task t a h) s s2 e t u p w m q behind.stands.follows step (only_this program s s2 behind step))

-- some run has the task paused there
abbrev pub IsSomewhere : CodeView → Has AnyTask → ℕ → TaskAgent AnyTask → Type 0
IsSomewhere code h t a = (program : ProgramView) × (s : State) × IsMadeFor program code × IsBehind program h t a s

pub apart_behind : (code : CodeView) (h : Has AnyTask) (t : ℕ) (a : TaskAgent AnyTask) (w : WantView) → IsSomewhere code h t a → place a.agent ≡ at_op w → (z : State) → AreApart z w.op
apart_behind code h t a w b here z = wanted_apart place stands b.0 (with_task t a h) b.1 t a w b.3.here b.3.stands.values here z

pub knows_behind : (code : CodeView) (h : Has AnyTask) (t : ℕ) (a : TaskAgent AnyTask) → IsSomewhere code h t a → KnowsTask h t
knows_behind code h t a b = let f = b.3.stands.follows in record {
  out = b.3.out;
  own = sym (f.known t) ∙ ap is_some b.3.here.1.1.0;
  waiting = λ w u c e. sym (f.known u) ∙ ap is_some (f.owners w u c e).1.1.0;
}

-- a stale handler that is pruned is no event
pub keeps_pruned : (h h2 : Has AnyTask) (p i : ℕ) (side : Side) → IsStale (parts_had h) p side i → h2 ≡ record h { bank = changed_at p (option_map (pruned side i)) h.bank } → (t : ℕ) (a : TaskAgent AnyTask) → KeepsBehind h h2 t a
keeps_pruned h h2 p i side stale is t a program s behind = subst (λ (z : Has AnyTask). IsBehind program z t a s) (sym is) (record {
  out = behind.out;
  stands = record { follows = pruned_follows place stands program (with_task t a h) s p side i stale behind.stands.follows; values = behind.stands.values };
  here = behind.here;
})

pub all_pruned : (h h2 : Has AnyTask) (p i : ℕ) (side : Side) → IsAll h → h2 ≡ record h { bank = changed_at p (option_map (pruned side i)) h.bank } → IsAll h2
all_pruned h h2 p i side all is = let b = held_changed p (option_map (pruned side i)) h.bank (all.banks, all.bank_placed) in subst IsAll (sym is)
    (record { banks = b.0; registries = all.registries; shards = all.shards; bank_placed = b.1; registry_placed = all.registry_placed; shard_placed = all.shard_placed })

-- a follower whose parts have what they had, but for the channels
pub follower_by : (f f2 : Follower) → IsFollower f → IsAll (has f2) → IsSome f2.held.timers → ready_in f2.held.ready ≡ Some [] → f2.code ≡ f.code → ((i : ℕ) → waits_held f2.held.shards i ≡ waits_held f.held.shards i) → f2.tasks ≡ f.tasks → IsFollower f2
follower_by f f2 is all timers ready code shards tasks = record {
  all = all;
  timers = timers;
  ready = ready;
  over_code = record {
    running = λ t a e. subst (λ z. task_over_code (valid_code z.now) a.agent) (sym code) (is.over_code.running t a (sym (ap (λ (z : Tasks). running_in z t) tasks) ∙ e));
    waiting = λ w u a e. subst (λ z. task_over_code (valid_code z.now) a.agent) (sym code) (is.over_code.waiting w u a (sym (ap (λ m. whole m w) same) ∙ e));
  };
  paused = λ w. subst (λ m. IsPaused place (whole m w)) (sym same) (is.paused w);
} where
  same : waits_held f2.held.shards ≡ waits_held f.held.shards
  same = same_map (waits_held f2.held.shards) (waits_held f.held.shards) shards

pub some_timers : (o : Option TimersView) → IsSome (times_in o) → IsSome o
some_timers None e = e
some_timers (Some x) e = refl

pub some_times : (o : Option TimersView) → IsSome o → IsSome (times_in o)
some_times None e = e
some_times (Some x) e = refl

pub same_timers : (o o2 : Option TimersView) → times_in o2 ≡ times_in o → IsSome o → IsSome o2
same_timers o o2 e is = some_timers o2 (subst (λ (z : Option Times). IsSome z) (sym e) (some_times o is))

times_stay : (p m : ℕ) (q : Planned) (c : Option Times) → IsSome c → IsSome (times_by p m q c)
times_stay p m (to_make what) None is = is
times_stay p m (to_make what) (Some c) is = refl
times_stay p m (to_do k b alts) c is = is
times_stay p m (to_meet k b alts w o) c is = is
times_stay p m (to_park bs) c is = is
times_stay p m (to_post bs) c is = is
times_stay p m (to_default v) c is = is
times_stay p m (to_spawn kind r) c is = is
times_stay p m (to_close z) c is = is
times_stay p m (to_register name args) c is = is
times_stay p m (to_print line) c is = is
times_stay p m (to_look w) c is = is
times_stay p m (to_prune z side i) c is = is
times_stay p m (to_refuse f) c is = is

-- where the event was made and all who can go on were taken, the plan is applied
started_as : (code : CodeView) (program : ProgramView) (op : OpView) (at : Place) (a : TaskAgent AnyTask) (u : ℕ) (o : Option (Task AnyTask)) → IsMadeFor program code → place a.agent ≡ at_op (record { op = op; place = at })
    → IfSome o (λ x. IsSpawnedTask code a u x) → IsStarted place gives starts program op u (option_map task_view o)
started_as code program op at a u None made here k = tt
started_as code program op at a u (Some x) made here k = (k.number, λ seed e. k.starts program seed at made (here ∙ ap (λ (o : OpView). at_op (record { op = o; place = at })) e))

pub applied_for : (code : CodeView) (q : Planned) (t : ℕ) (held : Held AnyTask) (a : TaskAgent AnyTask) (h h2 : Has AnyTask) (o : Option (Task AnyTask)) → GoneOn place gives starts q t held.new_task held.new_port held.new_wait held.moment (without_alts a) h h2 (option_map task_view o)
    → IfSome o (λ x. IsSpawnedTask code a held.new_task x) → KnowsTask h t → AppliedFor code q t held a h h2
applied_for code q t held a h h2 o g new k program op at made here = gone_applies place gives starts program op q t held.new_task held.new_port held.new_wait held.moment (without_alts a) (without_alts a) h h2 (option_map task_view o) g
    (started_as code program op at a held.new_task o made here new) k.out k.own k.waiting

spawned_over : (code : CodeView) (a : TaskAgent AnyTask) (u : ℕ) (o : Option (Task AnyTask)) → IfSome o (λ x. IsSpawnedTask code a u x) → (x : ℕ × TaskAgent AnyTask) → option_map task_view o ≡ Some x → task_over_code code x.1.agent
spawned_over code a u None k x e = absurd (let c : None ≡ Some x = e in cc)
spawned_over code a u (Some y) k x e = subst (λ (z : Option (ℕ × TaskAgent AnyTask)). IfSome z (λ v. task_over_code code v.1.agent)) e k.over_code

pub follower_after : (f f2 : Follower) (q : Planned) (t u p w m start : ℕ) (a : TaskAgent AnyTask) (o : Option (Task AnyTask)) → IsFollower f → task_over_code (valid_code f.code.now) a.agent → IsPlanOf (has f) a start q → GoneOn place gives starts q t u p w m (without_alts a) (has f) (has f2) (option_map task_view o)
    → IfSome o (λ x. IsSpawnedTask (valid_code f.code.now) a u x) → ready_in f2.held.ready ≡ Some [] → f2.code ≡ f.code → IsFollower f2
follower_after f f2 q t u p w m start a o is ov plan g new ready code = record {
  all = all_by (has f) (has f2) p w (owner t (waiting_as place (without_alts a))) nobody q is.all g.bank g.registry g.shard;
  timers = some_timers f2.held.timers (subst (λ (z : Option Times). IsSome z) (sym g.times) (times_stay p m q (times_in f.held.timers) (some_times f.held.timers is.timers)));
  ready = ready;
  over_code = subst (λ z. IsOverCode (valid_code z.now) (has f2)) (sym code) (record {
    running = running_over place gives starts (task_over_code now) (task_stays now) q t u p w m (without_alts a) (has f) (has f2) (option_map task_view o) g ov is.over_code.running own (spawned_over now a u o new);
    waiting = λ v n c e. (left v (owner n c) e).0;
  });
  paused = paused_by place gives starts (task_over_code now) (task_stays now) (has f2).shard left;
} where
  now : CodeView
  now = valid_code f.code.now

  own : OwnersOver place gives starts (task_over_code now) (task_stays now) (has f).shard
  own = owners_over place gives starts (task_over_code now) (task_stays now) (has f).shard is.over_code.waiting is.paused

  left : OwnersOver place gives starts (task_over_code now) (task_stays now) (has f2).shard
  left = still_owners place gives starts (task_over_code now) (task_stays now) q t u p w m (without_alts a) (has f) (has f2) (option_map task_view o) g ov (ap is_at_op plan.2) own

-- what a follower has without the handler
pub pruned_has : (f f2 : Follower) (p i : ℕ) (side : Side) → ((n : ℕ) → channels_held f2.held.banks n ≡ changed_at p (option_map (pruned side i)) (channels_held f.held.banks) n) → ((n : ℕ) → registries_held f2.held.banks n ≡ registries_held f.held.banks n)
    → f2.held.shards ≡ f.held.shards → f2.held.timers ≡ f.held.timers → f2.tasks ≡ f.tasks → f2.waits ≡ f.waits → has f2 ≡ record (has f) { bank = changed_at p (option_map (pruned side i)) (has f).bank }
pruned_has f f2 p i side b r s t k u = same_has (has f2) (record (has f) { bank = changed_at p (option_map (pruned side i)) (has f).bank }) b r (λ n. ap (λ z. waits_held z n) s) (ap times_in t)
    (λ v. ap (λ z. running_in z v) k) (λ v. ap (λ z. is_known_task z v) k) (λ v. ap (λ z. contains nat_eq z v) u)

pub stands_pruned : (h h2 : Has AnyTask) (p i : ℕ) (side : Side) → IsStale (parts_had h) p side i → h2 ≡ record h { bank = changed_at p (option_map (pruned side i)) h.bank } → (program : ProgramView) (s : State) → FollowerStands program h s → FollowerStands program h2 s
stands_pruned h h2 p i side stale is program s k = subst (λ (z : Has AnyTask). FollowerStands program z s) (sym is) (record { follows = pruned_follows place stands program h s p side i stale k.follows; values = k.values })

-- what is said of what a follower has and of its numbers, said of what it had
pub moved : (M : Has AnyTask → (u p w m : ℕ) → Type 0) (h g : Has AnyTask) (d d2 : Held AnyTask) → g ≡ h → KeepsCounts d d2 → M g d2.new_task d2.new_port d2.new_wait d2.moment → M h d.new_task d.new_port d.new_wait d.moment
moved M h g d d2 e k x = subst (λ n. M h d.new_task d.new_port d.new_wait n) k.3 (subst (λ n. M h d.new_task d.new_port n d2.moment) k.2 (subst (λ n. M h d.new_task n d2.new_wait d2.moment) k.1
    (subst (λ n. M h n d2.new_port d2.new_wait d2.moment) k.0 (subst (λ z. M z d2.new_task d2.new_port d2.new_wait d2.moment) e x))))

pub moved_on : (M : Has AnyTask → (u p w m : ℕ) → Type 0) (h g : Has AnyTask) (d d2 : Held AnyTask) → g ≡ h → KeepsCounts d d2 → M h d.new_task d.new_port d.new_wait d.moment → M g d2.new_task d2.new_port d2.new_wait d2.moment
moved_on M h g d d2 e k x = subst (λ n. M g d2.new_task d2.new_port d2.new_wait n) (sym k.3) (subst (λ n. M g d2.new_task d2.new_port n d.moment) (sym k.2) (subst (λ n. M g d2.new_task n d.new_wait d.moment) (sym k.1)
    (subst (λ n. M g n d.new_port d.new_wait d.moment) (sym k.0) (subst (λ z. M z d.new_task d.new_port d.new_wait d.moment) (sym e) x))))

-- what leads on from where the task is behind, leads on from where it was before
pub leads_before : (code : CodeView) (e : EventView) (h g h2 : Has AnyTask) (t : ℕ) (a : TaskAgent AnyTask) → KeepsBehind h g t a → LeadsBehind code e g t a h2 → LeadsBehind code e h t a h2
leads_before code e h g h2 t a keeps leads program s made b = leads program s made (keeps program s b)

pub refuses_before : (code : CodeView) (e : EventView) (h g : Has AnyTask) (t : ℕ) (a : TaskAgent AnyTask) → KeepsBehind h g t a → RefusesBehind code e g t a → RefusesBehind code e h t a
refuses_before code e h g t a keeps refuses program s s2 made b step = refuses program s s2 made (keeps program s b) step

pub somewhere_on : (code : CodeView) (h g : Has AnyTask) (t : ℕ) (a : TaskAgent AnyTask) → KeepsBehind h g t a → IsSomewhere code h t a → IsSomewhere code g t a
somewhere_on code h g t a keeps b = (b.0, b.1, b.2, keeps b.0 b.1 b.3)

pub at_its_op : (h : Has AnyTask) (a : TaskAgent AnyTask) (start : ℕ) (q : Planned) → IsPlanOf h a start q → is_at_op (place a.agent) ≡ true
at_its_op h a start q plan = ap is_at_op plan.2

abbrev pub AppliedWith : CodeView → Planned → ℕ → TaskAgent AnyTask → Has AnyTask → Has AnyTask → (u p w m : ℕ) → Type 0
AppliedWith code q t a h2 h u p w m = (program : ProgramView) (op : OpView) (at : Place) → IsMadeFor program code → place a.agent ≡ at_op (record { op = op; place = at })
    → Applies place gives starts program op q t u p w m (without_alts a) (with_task t (without_alts a) h) h2
