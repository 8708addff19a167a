-- A task that goes on from one of its stages to another, in every journal.
use Rattle.std.proofs.Common.{◌≡◌, ℕ, true, List, [], ◌∷◌, ◌++◌, sym, ap, ◌∙◌, subst, Option, Some, None, append_assoc, append-nil}
use Rattle.std.proofs.lemmas.Map.{update_here}
use Rattle.ca_value.specs.Tree.{Tree}
use Rattle.ca_term.specs.declared.event.Ending.{Ending}
use Rattle.ca_term.specs.declared.event.Ending.TheVariants.{Ended}
use Rattle.ca_term.specs.declared.event.TaskKind.{TaskKind}
use Rattle.ca_term.specs.Operation.{OpView, SeedView, spawning}
use Rattle.ca_term.specs.Program.{ProgramView}
use Rattle.ca_term.specs.Event.{EventView, spawned}
use Rattle.ca_meaning.specs.Body.{ended}
use Rattle.ca_meaning.specs.Choice.{branches_of, parks as may_park}
use Rattle.ca_meaning.specs.Task.{TaskBody, body_at, body_fill, BodyRest, new_task}
use Rattle.ca_meaning.specs.State.{State, Task, Tasks, runs}
use Rattle.ca_meaning.specs.Going.{IsAtOp}
use Rattle.ca_meaning.specs.Steps.{Step, Steps}
use Rattle.ca_meaning.specs.Legal.{Reaches}
use Rattle.ca_meaning.proofs.ChannelLaws.{steps_split}
use Rattle.ca_meaning.proofs.Tasks.{tasks_of}
use Rattle.ca_meaning.proofs.Single.{same_task, same_op, same_seed, reached_once}
use Rattle.ca_laws.specs.Deeds.{Deed, did_wait, did_end, deed, deeds}
use Rattle.ca_laws.specs.Rules.{SpawnsFrom}
use Rattle.ca_laws.proofs.Acts.{wait_of, Replies, Acts, idles, parks, stops, goes}
use Rattle.ca_laws.proofs.Acted.{acts}
use Rattle.ca_laws.proofs.Deeding.{and_deed, deeds_more, no_deed, Traced, traced_step, traced_steps, opening_traced}

-- What is to be shown of the stages: which bodies stand in one, and what its deeds are by then.
pub record KeepsStages (program : ProgramView) {S : Type 0} (Is : S → TaskBody → Type 0) (At : S → List Deed → Type 0) : Type 0 where
  pub waits : (n : S) (b : TaskBody) (op : OpView) (ds : List Deed) (w : ℕ) → Is n b → IsAtOp b op → may_park op ≡ true → At n ds → At n (ds ++ did_wait w (branches_of op) ∷ [])
  pub ends : (n : S) (b : TaskBody) (ds : List Deed) (how : Ending) → Is n b → (how ≡ Ended → (v : Tree) × (body_at b ≡ ended v)) → At n ds → At n (ds ++ did_end how ∷ [])
  pub answered : (n : S) (b c : TaskBody) (op : OpView) (ds : List Deed) (d : Deed) (a : Tree) → Is n b → IsAtOp b op → At n ds → Replies op d a → BodyRest program (body_fill a b) c → (k : S) × Is k c × At k (ds ++ d ∷ [])

-- task t stands in a stage, after such deeds
pub record InStage {S : Type 0} (Is : S → TaskBody → Type 0) (At : S → List Deed → Type 0) (t : ℕ) (journal : List EventView) (s : State) : Type 0 where
  pub now : S
  pub task : Task
  pub there : s.tasks t ≡ Some task
  pub is : Is now task.body
  pub stands : At now (deeds t journal)

module _ (program : ProgramView) {S : Type 0} (Is : S → TaskBody → Type 0) (At : S → List Deed → Type 0) (keeps : KeepsStages program Is At) (t : ℕ) where
  keeping_step : (journal : List EventView) (s s2 : State) (e : EventView) → Traced journal s → Step program s e s2 → InStage Is At t journal s → InStage Is At t (journal ++ e ∷ []) s2
  keeping_step journal s s2 e traced x k = by seen.2 where
    seen : (y : Task) × (s2.tasks t ≡ Some y) × Acts program k.task y (deed t (wait_of k.task.mode) e)
    seen = acts program s s2 t k.task k.there traced.stood traced.known.sound.waited e x

    after : (o : Option Deed) → deed t (wait_of k.task.mode) e ≡ o → deeds t (journal ++ e ∷ []) ≡ and_deed (deeds t journal) o
    after o is = deeds_more t None journal e ∙ ap (λ w. and_deed (deeds t journal) (deed t w e)) (traced.told.waits t k.task k.there) ∙ ap (and_deed (deeds t journal)) is

    with_one : (n : S) (c : Deed) → deed t (wait_of k.task.mode) e ≡ Some c → Is n seen.0.body → At n (deeds t journal ++ c ∷ []) → InStage Is At t (journal ++ e ∷ []) s2
    with_one n c is b at = record { now = n; task = seen.0; there = seen.1; is = b; stands = subst (At n) (sym (after (Some c) is)) at }

    kept : seen.0.body ≡ k.task.body → Is k.now seen.0.body
    kept same = subst (Is k.now) (sym same) k.is

    by : Acts program k.task seen.0 (deed t (wait_of k.task.mode) e) → InStage Is At t (journal ++ e ∷ []) s2
    by (idles is ye) = record { now = k.now; task = seen.0; there = seen.1; is = kept (ap (λ (q : Task). q.body) ye); stands = subst (At k.now) (sym (after None is ∙ append-nil (deeds t journal))) k.stands }
    by (parks op w is may at r ye) = with_one k.now (did_wait w (branches_of op)) is (kept (ap (λ (q : Task). q.body) ye)) (keeps.waits k.now k.task.body op (deeds t journal) w k.is at may k.stands)
    by (stops how is r v ye) = with_one k.now (did_end how) is (kept (ap (λ (q : Task). q.body) ye)) (keeps.ends k.now k.task.body (deeds t journal) how k.is v k.stands)
    by (goes op c a b is at ans r ye) =
        let n = keeps.answered k.now k.task.body b op (deeds t journal) c a k.is at k.stands ans r in
        with_one n.0 c is (subst (Is n.0) (sym (ap (λ (q : Task). q.body) ye)) n.1) n.2

  -- along the events
  keeping_steps : (es journal : List EventView) (s s2 : State) → Traced journal s → Steps program s es s2 → InStage Is At t journal s → InStage Is At t (journal ++ es) s2
  keeping_steps [] journal s s2 traced x k = subst (λ j. InStage Is At t j s2) (sym (append-nil journal)) (subst (λ z. InStage Is At t journal z) (sym x) k)
  keeping_steps (e ∷ es) journal s s2 traced x k =
      subst (λ j. InStage Is At t j s2) (append_assoc journal (e ∷ []) es)
      (keeping_steps es (journal ++ e ∷ []) x.0 s2 (traced_step program journal s x.0 e x.1 traced) x.2 (keeping_step journal s x.0 e traced x.1 k))

  -- at its Spawn
  keeping_begins : (journal : List EventView) (s s2 : State) (u : ℕ) (kind : TaskKind) (result : Option ℕ) (x : Step program s (spawned u t kind result) s2) (seed : SeedView) → x.1 ≡ seed
      → ((c : TaskBody) → BodyRest program (new_task program seed) c → (n : S) × Is n c × At n []) → Traced journal s → InStage Is At t (journal ++ spawned u t kind result ∷ []) s2
  keeping_begins journal s s2 u kind result x seed same begins traced = record {
    now = n.0;
    task = runs result x.3;
    there = ap (λ (z : Tasks). z t) (tasks_of x.10) ∙ update_here x.2 t (Some (runs result x.3));
    is = n.1;
    stands = subst (At n.0) (sym none) n.2;
  } where
    n : (n : S) × Is n x.3 × At n []
    n = begins x.3 (subst (λ z. BodyRest program (new_task program z) x.3) same x.9)

    none : deeds t (journal ++ spawned u t kind result ∷ []) ≡ []
    none =
        let a = traced.told.absent t x.5 in
        let d = no_deed program s s2 t x.5 (spawned u t kind result) x in
        deeds_more t None journal (spawned u t kind result) ∙ ap (λ w. and_deed (deeds t journal) (deed t w (spawned u t kind result))) a.0 ∙ ap (and_deed (deeds t journal)) d.0 ∙ ap (λ z. z ++ []) a.1

-- a task that begins in one of the stages stands in one of them ever after
pub stays_in : (program : ProgramView) {S : Type 0} (Is : S → TaskBody → Type 0) (At : S → List Deed → Type 0) → KeepsStages program Is At
    → (journal early late : List EventView) (s : State) (u t : ℕ) (kind : TaskKind) (result : Option ℕ) (seed : SeedView) → Reaches program journal s → journal ≡ early ++ spawned u t kind result ∷ late → SpawnsFrom program early u seed
    → ((c : TaskBody) → BodyRest program (new_task program seed) c → (n : S) × Is n c × At n []) → InStage Is At t journal s
stays_in program Is At keeps journal early late s u t kind result seed r is from begins =
    let event = spawned u t kind result in
    let m = steps_split program early (event ∷ late) r.opening s (subst (λ j. Steps program r.opening j s) is r.steps) in
    let k = m.2 in
    let here : Reaches program early m.0 = record { opening = r.opening; opens = r.opens; steps = m.1 } in
    let at_once : from.before ≡ m.0 = reached_once program early from.before m.0 from.reaches here in
    let spawner : from.spawner ≡ k.1.0 = same_task m.0.tasks u from.spawner k.1.0 (subst (λ (z : State). z.tasks u ≡ Some from.spawner) at_once from.stands.0) k.1.4.0 in
    let same : seed ≡ k.1.1 = same_seed seed k.1.1 (same_op from.spawner.body k.1.0.body (spawning seed) (spawning k.1.1) (ap (λ (z : Task). z.body) spawner) from.stands.2 k.1.4.2) in
    let traced = traced_steps program early [] r.opening m.0 m.1 (opening_traced program r.opening r.opens) in
    let begun = keeping_begins program Is At keeps t early m.0 k.0 u kind result k.1 seed (sym same) begins traced in
    subst (λ j. InStage Is At t j s) (append_assoc early (event ∷ []) late ∙ sym is)
    (keeping_steps program Is At keeps t late (early ++ event ∷ []) k.0 s (traced_step program early m.0 k.0 event k.1 traced) k.2 begun)
