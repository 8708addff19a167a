-- Every guarded run keeps the pipeline law.
use Rattle.std.proofs.Common.{◌≡◌, ◌⊎◌, inl, inr, ℕ, List, [], ◌∷◌, ◌++◌, sym, ap, ◌∙◌, subst, Some, append_assoc}
use Rattle.ca_value.specs.Tree.{Trees}
use Rattle.ca_term.specs.declared.place.Place.{Place}
use Rattle.ca_term.specs.declared.head.PlainFunction.{PlainFunction}
use Rattle.ca_term.specs.declared.head.Transform.{Transform}
use Rattle.ca_term.specs.declared.event.TaskKind.{TaskKind}
use Rattle.ca_term.specs.declared.head.SystemTask.TheVariants.{Feed, Job, Collect}
use Rattle.ca_term.specs.Operation.{system}
use Rattle.ca_term.specs.Program.{ProgramView}
use Rattle.ca_term.specs.Event.{EventView, spawned}
use Rattle.ca_meaning.specs.Operands.{port_of_value, first_of}
use Rattle.ca_meaning.specs.Applied.{Work}
use Rattle.ca_meaning.specs.Asks.{to}
use Rattle.ca_meaning.specs.PipelineTable.{job_takes}
use Rattle.ca_meaning.specs.State.{State, running}
use Rattle.ca_meaning.specs.System.{a_job}
use Rattle.ca_laws.specs.Deeds.{deeds}
use Rattle.ca_laws.specs.Taken.{taken}
use Rattle.ca_laws.specs.Rules.{SpawnsFrom}
use Rattle.ca_laws.specs.PipelineRules.{feed_ports, job_work}
use Rattle.ca_roles.specs.Roles.{jobs, Role, hidden, Roles, no_roles}
use Rattle.ca_roles.specs.Typed.{TypedSystem, TypedBody}
use Rattle.ca_networks.specs.Networks.{IsSpawned, offered}
use Rattle.ca_networks.specs.PipelineLaw.{JobsDo, BeginsOutputs, PipelineLaw}
use Rattle.ca_networks.proofs.Guarded.{Guard, Guarded, IsGuarded}
use Rattle.ca_networks.proofs.Walking.{Keeps, Cut, guard_after, first_cut, last_part}
use Rattle.ca_networks.proofs.Standing.{Standing}
use Rattle.ca_networks.proofs.Spawning.{fresh_standing, which_first}
use Rattle.ca_networks.proofs.Carried.{outputs_begin}
use Rattle.ca_networks.proofs.Empty.{AllEmpty, none_empty, empty_keeps}
use Rattle.ca_networks.proofs.PipelineLaws.{Ends, feed_first, collect_first}

-- a role stays to the end
role_keeps : (program : ProgramView) (last : State) (q : ℕ) (r : Role) → Keeps program last (λ journal roles s. roles q ≡ Some r)
role_keeps program last q r journal rest roles more s mid e traced g k turn g2 steps p = turn.grows q r p

module _ (program : ProgramView) (journal : List EventView) (last : State) (guarded : IsGuarded program journal last) where
  guarded_as : (j : List EventView) → journal ≡ j → Guarded program no_roles guarded.opening j guarded.roles last
  guarded_as j is = subst (λ i. Guarded program no_roles guarded.opening i guarded.roles last) is guarded.guarded

  -- the channel of a job is one for its work
  job_role : (x : Transform) (f : PlainFunction) (values : Trees) (place : Place) (t : ℕ) → IsSpawned program journal (Job x f) values place t → (m : ℕ) × (guarded.roles (port_of_value (first_of values)) ≡ Some (hidden m (jobs (job_work x f values place))))
  job_role x f values place t is = (typed.0, last_part program is.early is.late (spawned is.spawner t TaskKind.Job is.result) guarded.roles last cut.0 (λ j r s. r (port_of_value (first_of values)) ≡ Some (hidden typed.0 (jobs (job_work x f values place)))) (role_keeps program last (port_of_value (first_of values)) (hidden typed.0 (jobs (job_work x f values place)))) typed.1) where
    cut : (cut : Cut program is.early (spawned is.spawner t TaskKind.Job is.result) is.late guarded.roles last) × ((P : List EventView → Roles → State → Type 0) → Keeps program cut.state P → P [] no_roles guarded.opening → P is.early cut.roles cut.state)
    cut = first_cut program is.early is.late (spawned is.spawner t TaskKind.Job is.result) guarded.roles guarded.opening last guarded.opens (guarded_as (is.early ++ spawned is.spawner t TaskKind.Job is.result ∷ is.late) is.told)

    job : (y : Standing (λ n. a_job (port_of_value (first_of values)) (job_work x f values place) n) t cut.0.state2) × (y.now ≡ to job_takes) × (y.task.mode ≡ running)
    job = fresh_standing program is.early cut.0.state cut.0.state2 is.spawner t (Job x f) is.result values place is.from cut.0.reaches cut.0.step (λ n. a_job (port_of_value (first_of values)) (job_work x f values place) n) (to job_takes) (λ b r. r)

    guard2 : Guard program cut.0.next cut.0.state2
    guard2 = guard_after program is.early (spawned is.spawner t TaskKind.Job is.result) is.late guarded.roles last cut.0

    typed : (m : ℕ) × (cut.0.next (port_of_value (first_of values)) ≡ Some (hidden m (jobs (job_work x f values place))))
    typed = let b : TypedSystem program cut.0.next (a_job (port_of_value (first_of values)) (job_work x f values place) job.0.now) = subst (TypedBody program t cut.0.next) job.0.body_is (guard2.typed.tasks t job.0.task job.0.there).body in (b.0, b.1)

  pub pipeline_law : PipelineLaw program journal
  pipeline_law fv cv pf pc tf tc isf isc cq = by (which_first isf.early isf.late isc.early isc.late (spawned isf.spawner tf TaskKind.Feed isf.result) (spawned isc.spawner tc TaskKind.Collect isc.result) (sym isf.told ∙ isc.told)) where
    -- at the end
    ends : (whole : List EventView) (xs ms vs : List EventView) → whole ≡ journal → Ends program last guarded.roles isf.spawner tf isc.spawner tc isf.result isc.result fv cv pf pc cq xs ms vs whole → (w : Work) × JobsDo program journal (feed_ports fv).jobs w × BeginsOutputs program w (taken (deeds tf journal)) (offered tc journal)
    ends whole xs ms vs is k = (
      k.1,
      λ x f values place t job to_jobs.
          let r = job_role x f values place t job in
          let i : Some (hidden r.0 (jobs (job_work x f values place))) ≡ Some (hidden k.0 (jobs k.1)) = sym r.1 ∙ ap guarded.roles to_jobs ∙ k.2.0.0 in
          (let w : job_work x f values place ≡ k.1 = cc in w),
      subst (λ j. BeginsOutputs program k.1 (taken (deeds tf j)) (offered tc j)) is
          (outputs_begin program k.1 guarded.roles k.2.1.fed.at.now k.2.1.collected.at.now k.2.1.collected.at.task.mode k.2.1.queued k.2.1.opened k.2.1.between (taken (deeds tf whole)) (offered tc whole) k.2.1.fed.feeds k.2.1.collected.collects k.2.1.split),
    )

    by : ((ms : List EventView) × (isc.early ≡ isf.early ++ spawned isf.spawner tf TaskKind.Feed isf.result ∷ ms) × (isf.late ≡ ms ++ spawned isc.spawner tc TaskKind.Collect isc.result ∷ isc.late))
        ⊎ (((ms : List EventView) × (isf.early ≡ isc.early ++ spawned isc.spawner tc TaskKind.Collect isc.result ∷ ms) × (isc.late ≡ ms ++ spawned isf.spawner tf TaskKind.Feed isf.result ∷ isf.late)) ⊎ ((isf.early ≡ isc.early) × (spawned isf.spawner tf TaskKind.Feed isf.result ≡ spawned isc.spawner tc TaskKind.Collect isc.result)))
        → (w : Work) × JobsDo program journal (feed_ports fv).jobs w × BeginsOutputs program w (taken (deeds tf journal)) (offered tc journal)
    by (inl k) =
        let F = spawned isf.spawner tf TaskKind.Feed isf.result in
        let C = spawned isc.spawner tc TaskKind.Collect isc.result in
        let is : journal ≡ isf.early ++ F ∷ (k.0 ++ C ∷ isc.late) = isf.told ∙ ap (λ z. isf.early ++ F ∷ z) k.2 in
        let cut = first_cut program isf.early (k.0 ++ C ∷ isc.late) F guarded.roles guarded.opening last guarded.opens (guarded_as (isf.early ++ F ∷ (k.0 ++ C ∷ isc.late)) is) in
        let empty = cut.1 (λ j r s. AllEmpty r s) (empty_keeps program cut.0.state) (none_empty guarded.opening) in
        ends ((isf.early ++ F ∷ k.0) ++ C ∷ isc.late) isf.early k.0 isc.late (append_assoc isf.early (F ∷ k.0) (C ∷ isc.late) ∙ sym is)
        (feed_first program last guarded.roles isf.spawner tf isc.spawner tc isf.result isc.result fv cv pf pc cq isf.early k.0 isc.late cut.0 empty isf.from (subst (λ j. SpawnsFrom program j isc.spawner (system Collect cv pc)) k.1 isc.from))
    by (inr (inl k)) =
        let F = spawned isf.spawner tf TaskKind.Feed isf.result in
        let C = spawned isc.spawner tc TaskKind.Collect isc.result in
        let is : journal ≡ isc.early ++ C ∷ (k.0 ++ F ∷ isf.late) = isc.told ∙ ap (λ z. isc.early ++ C ∷ z) k.2 in
        let cut = first_cut program isc.early (k.0 ++ F ∷ isf.late) C guarded.roles guarded.opening last guarded.opens (guarded_as (isc.early ++ C ∷ (k.0 ++ F ∷ isf.late)) is) in
        let empty = cut.1 (λ j r s. AllEmpty r s) (empty_keeps program cut.0.state) (none_empty guarded.opening) in
        ends ((isc.early ++ C ∷ k.0) ++ F ∷ isf.late) isc.early k.0 isf.late (append_assoc isc.early (C ∷ k.0) (F ∷ isf.late) ∙ sym is)
        (collect_first program last guarded.roles isf.spawner tf isc.spawner tc isf.result isc.result fv cv pf pc cq isc.early k.0 isf.late cut.0 empty isc.from (subst (λ j. SpawnsFrom program j isf.spawner (system Feed fv pf)) k.1 isf.from))
    by (inr (inr k)) = absurd (let i : spawned isf.spawner tf TaskKind.Feed isf.result ≡ spawned isc.spawner tc TaskKind.Collect isc.result = k.1 in cc)
