-- The tasks of a network, and what they did.
use Rattle.std.specs.Prelude.{◌≡◌, ◌≢◌, ℕ, List, [], ◌∷◌, ◌++◌, Option, false, cond, eqb, flat_map}
use Rattle.ca_value.specs.Tree.{Tree, Trees}
use Rattle.ca_term.specs.declared.place.Place.{Place}
use Rattle.ca_term.specs.declared.event.Side.TheVariants.{Put}
use Rattle.ca_term.specs.declared.event.TaskKind.{TaskKind}
use Rattle.ca_meaning.specs.TaskSteps.{kind_of_system}
use Rattle.ca_term.specs.declared.head.SystemTask.{SystemTask}
use Rattle.ca_term.specs.Operation.{system}
use Rattle.ca_term.specs.Program.{ProgramView}
use Rattle.ca_term.specs.Event.{BranchView, put_of, EventView, spawned, done, met, parked}
use Rattle.ca_meaning.specs.Wait.{is_among}
use Rattle.ca_laws.specs.Deeds.{Deed, did_take, did_spawn}
use Rattle.ca_laws.specs.Rules.{SpawnsFrom}

-- the journal spawns task t as a system task of this kind, from these values, for the form at this place
pub record IsSpawned (program : ProgramView) (journal : List EventView) (kind : SystemTask) (values : Trees) (place : Place) (t : ℕ) : Type 0 where
  pub early : List EventView
  pub late : List EventView
  pub spawner : ℕ
  pub result : Option ℕ
  pub told : journal ≡ early ++ spawned spawner t (kind_of_system kind) result ∷ late
  pub from : SpawnsFrom program early spawner (system kind values place)

-- each system task of the journal was spawned from some values
abbrev pub AllSpawned : ProgramView → List EventView → Type 0
AllSpawned program journal =
    (early late : List EventView) (u t : ℕ) (word : TaskKind) (result : Option ℕ) → journal ≡ early ++ spawned u t word result ∷ late → word ≢ TaskKind.Go
    → (kind : SystemTask) × (kind_of_system kind ≡ word) × (values : Trees) × (place : Place) × IsSpawned program journal kind values place t

-- the value of an operation that only puts
abbrev pub put_value : List BranchView → List Tree
put_value (put_of p v ∷ []) = v ∷ []
put_value bs = []

-- The value that task t offers at the event: that of its put operation, where the event begins it or does it at once.
-- Where a put that waited is done, its value was offered before.
abbrev pub offers_at : ℕ → EventView → List Tree
offers_at t (done u k (put_of p v) a) = cond (eqb u t) (v ∷ []) []
offers_at t (met u k Put p v w o) = cond (eqb u t) (v ∷ []) []
offers_at t (parked u w bs) = cond (eqb u t) (put_value bs) []
offers_at t e = []

-- the values of all put operations of task t, in order, with the one at which it waits
abbrev pub offered : ℕ → List EventView → List Tree
offered t journal = flat_map (offers_at t) journal

-- the answers of its takes from that channel, in order
abbrev pub took_from : ℕ → Deed → List Tree
took_from p (did_take k q a) = cond (eqb q p) (a ∷ []) []
took_from p d = []

abbrev pub taken_from : ℕ → List Deed → List Tree
taken_from p ds = flat_map (took_from p) ds

-- the tasks that it started, in order
abbrev pub started_by : Deed → List ℕ
started_by (did_spawn u kind result) = u ∷ []
started_by d = []

abbrev pub tasks_started : List Deed → List ℕ
tasks_started ds = flat_map started_by ds

-- no two of the numbers are equal
abbrev pub AllNew : List ℕ → Type 0
AllNew [] = Unit {0}
AllNew (u ∷ us) = (is_among u us ≡ false) × AllNew us

-- the lists are equally long, and each of the one goes with the other's at its place
abbrev pub EachFor : {A B : Type 0} → (A → B → Type 0) → List A → List B → Type 0
EachFor P [] [] = Unit {0}
EachFor P (x ∷ xs) (y ∷ ys) = P x y × EachFor P xs ys
EachFor P [] (y ∷ ys) = ⊥
EachFor P (x ∷ xs) [] = ⊥
