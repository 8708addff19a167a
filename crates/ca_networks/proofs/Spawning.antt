-- The task that a Spawn of the journal starts.
use Rattle.std.proofs.Common.{◌≡◌, ◌⊎◌, inl, inr, ℕ, List, [], ◌∷◌, ◌++◌, refl, sym, ap, ◌∙◌, subst, Option, Some, None, ◌≢◌}
use Rattle.std.proofs.lemmas.Map.{update_here}
use Rattle.ca_value.specs.Tree.{Tree, Trees}
use Rattle.ca_term.specs.declared.place.Place.{Place}
use Rattle.ca_term.specs.declared.event.TaskKind.{TaskKind}
use Rattle.ca_term.specs.declared.head.SystemTask.{SystemTask}
use Rattle.ca_term.specs.Operation.{OpView, SeedView, go, system, spawning}
use Rattle.ca_term.specs.Program.{ProgramView}
use Rattle.ca_term.specs.Event.{EventView, spawned}
use Rattle.ca_meaning.specs.Asks.{Next}
use Rattle.ca_meaning.specs.System.{SystemBody, new_system, SystemRest}
use Rattle.ca_meaning.specs.Task.{system_task, BodyRest, new_task}
use Rattle.ca_meaning.specs.State.{State, Task, Tasks, running, runs}
use Rattle.ca_meaning.specs.Going.{RunsAtOperation}
use Rattle.ca_meaning.specs.Refusal.{refusal}
use Rattle.ca_meaning.specs.Steps.{Step, Steps}
use Rattle.ca_meaning.specs.TaskSteps.{kind_of, kind_of_system}
use Rattle.ca_meaning.specs.Legal.{Reaches}
use Rattle.ca_meaning.proofs.Single.{same_task, same_op, same_seed, reached_once}
use Rattle.ca_meaning.proofs.ChannelLaws.{steps_split}
use Rattle.ca_meaning.proofs.Tasks.{tasks_of}
use Rattle.ca_laws.specs.Deeds.{deed, deeds}
use Rattle.ca_laws.specs.Rules.{SpawnsFrom}
use Rattle.ca_laws.proofs.Deeding.{and_deed, deeds_more, no_deed, Traced, traced_step}
use Rattle.ca_networks.specs.Networks.{AllSpawned}
use Rattle.ca_networks.proofs.Standing.{Standing, Table, moved}

module _ (program : ProgramView) (early : List EventView) (s s2 : State) (u t : ℕ) (kind : SystemTask) (result : Option ℕ) (values : Trees) (place : Place) (from : SpawnsFrom program early u (system kind values place)) (reaches : Reaches program early s) (k : Step program s (spawned u t (kind_of_system kind) result) s2) where
  same_state : from.before ≡ s
  same_state = reached_once program early from.before s from.reaches reaches

  spawner : from.spawner ≡ k.0
  spawner = same_task s.tasks u from.spawner k.0 (subst (λ (z : State). z.tasks u ≡ Some from.spawner) same_state from.stands.0) k.4.0

  pub seed_is : k.1 ≡ system kind values place
  seed_is = same_seed k.1 (system kind values place) (same_op k.0.body from.spawner.body (spawning k.1) (spawning (system kind values place)) (sym (ap (λ (z : Task). z.body) spawner)) k.4.2 from.stands.2)

  pub not_refused : refusal s (spawning (system kind values place)) ≡ None
  not_refused = subst (λ z. refusal s (spawning z) ≡ None) seed_is k.4.3

  pub fresh_body : BodyRest program (system_task (new_system kind values place)) k.3
  fresh_body = subst (λ z. BodyRest program (new_task program z) k.3) seed_is k.9

  pub fresh_there : s2.tasks t ≡ Some (runs result k.3)
  fresh_there = ap (λ (z : Tasks). z t) (tasks_of k.10) ∙ update_here k.2 t (Some (runs result k.3))

  -- it stands in the first state of its table
  pub fresh_standing : {S : Type 0} (body : Next S → SystemBody) (n : Next S) → ((c : SystemBody) → SystemRest program (new_system kind values place) c → c ≡ body n) → (y : Standing body t s2) × (y.now ≡ n) × (y.task.mode ≡ running)
  fresh_standing body n first = (record { now = n; task = runs result k.3; there = fresh_there; body_is = fresh_body.2 ∙ ap system_task (first fresh_body.0 fresh_body.1) }, refl, refl)

  pub fresh_deeds : Traced early s → deeds t (early ++ spawned u t (kind_of_system kind) result ∷ []) ≡ []
  fresh_deeds traced =
      let a = traced.told.absent t k.5 in
      let d = no_deed program s s2 t k.5 (spawned u t (kind_of_system kind) result) k in
      deeds_more t None early (spawned u t (kind_of_system kind) result) ∙ ap (λ w. and_deed (deeds t early) (deed t w (spawned u t (kind_of_system kind) result))) a.0 ∙ ap (and_deed (deeds t early)) d.0 ∙ ap (λ z. z ++ []) a.1

-- a task of a table stays one
pub stays_standing : (program : ProgramView) {S : Type 0} (body : Next S → SystemBody) (op_of : S → OpView) (next : Tree → S → Next S) → Table program body op_of next → (t : ℕ) (es journal : List EventView) (s last : State) → Traced journal s → Steps program s es last → Standing body t s → Standing body t last
stays_standing program body op_of next table t [] journal s last traced k x = subst (Standing body t) (sym k) x
stays_standing program body op_of next table t (e ∷ es) journal s last traced k x =
    stays_standing program body op_of next table t es (journal ++ e ∷ []) k.0 last (traced_step program journal s k.0 e k.1 traced) k.2 (moved program body op_of next table journal s k.0 e traced k.1 t x).0

-- two places of a list
pub which_first : {A : Type 0} (xs ys us vs : List A) (a b : A) → xs ++ a ∷ ys ≡ us ++ b ∷ vs → ((ms : List A) × (us ≡ xs ++ a ∷ ms) × (ys ≡ ms ++ b ∷ vs)) ⊎ (((ms : List A) × (xs ≡ us ++ b ∷ ms) × (vs ≡ ms ++ a ∷ ys)) ⊎ ((xs ≡ us) × (a ≡ b)))
which_first [] ys [] vs a b e = inr (inr (refl, let k : a ≡ b = cc in k))
which_first [] ys (u ∷ us) vs a b e = inl (us, ap (λ z. z ∷ us) (let k : u ≡ a = cc in k), let k : ys ≡ us ++ b ∷ vs = cc in k)
which_first (x ∷ xs) ys [] vs a b e = inr (inl (xs, ap (λ z. z ∷ xs) (let k : x ≡ b = cc in k), let k : vs ≡ xs ++ a ∷ ys = cc in k))
which_first {A} (x ∷ xs) ys (u ∷ us) vs a b e = by (which_first xs ys us vs a b (let k : xs ++ a ∷ ys ≡ us ++ b ∷ vs = cc in k)) where
  xu : x ≡ u
  xu = cc

  by : ((ms : List A) × (us ≡ xs ++ a ∷ ms) × (ys ≡ ms ++ b ∷ vs)) ⊎ (((ms : List A) × (xs ≡ us ++ b ∷ ms) × (vs ≡ ms ++ a ∷ ys)) ⊎ ((xs ≡ us) × (a ≡ b)))
      → ((ms : List A) × (u ∷ us ≡ x ∷ xs ++ a ∷ ms) × (ys ≡ ms ++ b ∷ vs)) ⊎ (((ms : List A) × (x ∷ xs ≡ u ∷ us ++ b ∷ ms) × (vs ≡ ms ++ a ∷ ys)) ⊎ ((x ∷ xs ≡ u ∷ us) × (a ≡ b)))
  by (inl k) = inl (k.0, ap (λ z. z ∷ us) (sym xu) ∙ ap (λ z. x ∷ z) k.1, k.2)
  by (inr (inl k)) = inr (inl (k.0, ap (λ z. z ∷ xs) xu ∙ ap (λ z. u ∷ z) k.1, k.2))
  by (inr (inr k)) = inr (inr (ap (λ z. z ∷ xs) xu ∙ ap (λ z. u ∷ z) k.0, k.1))

-- the seed of a system task
system_seed : (seed : SeedView) (word : TaskKind) → kind_of seed ≡ word → word ≢ TaskKind.Go → (kind : SystemTask) × (values : Trees) × (place : Place) × (kind_of_system kind ≡ word) × (seed ≡ system kind values place)
system_seed (go n values result place) word e apart = absurd (apart (sym e))
system_seed (system other values place) word e n = (other, values, place, e, refl)

pub all_spawned : (program : ProgramView) (journal : List EventView) (s : State) → Reaches program journal s → AllSpawned program journal
all_spawned program journal s r early late u t word result is n =
    let m = steps_split program early (spawned u t word result ∷ late) r.opening s (subst (λ j. Steps program r.opening j s) is r.steps) in
    let k = m.2 in
    let seed = system_seed k.1.1 word k.1.6 n in (
      seed.0,
      seed.3,
      seed.1,
      seed.2,
      record {
        early = early;
        late = late;
        spawner = u;
        result = result;
        told = is ∙ ap (λ z. early ++ spawned u t z result ∷ late) (sym seed.3);
        from = record { before = m.0; reaches = record { opening = r.opening; opens = r.opens; steps = m.1 }; spawner = k.1.0; stands = subst (λ z. RunsAtOperation m.0 u (spawning z) k.1.0) seed.4 k.1.4 };
      },
    )
