-- What a journal tells of one task: all that it did, in order. A put or a take that waited is told where its wait
-- was completed, by whatever task or channel.
use Rattle.std.specs.Prelude.{◌≡◌, ℕ, List, [], ◌∷◌, slice_get, Option, Some, None, Bool, true, false, cond, eqb}
use Rattle.ca_value.specs.Tree.{Tree, Trees, bool}
use Rattle.ca_term.specs.declared.head.RegisterName.{RegisterName}
use Rattle.ca_term.specs.declared.event.TaskKind.{TaskKind}
use Rattle.ca_term.specs.declared.event.Side.{Side}
use Rattle.ca_term.specs.declared.event.Side.TheVariants.{Take, Put}
use Rattle.ca_term.specs.declared.event.Ending.{Ending}
use Rattle.ca_term.specs.Operation.{OpView, WhatView, SeedView, making, spawning, closing, registering, printing, posting}
use Rattle.ca_term.specs.Event.{BranchView, take_of, put_of, EventView, made, spawned, done, met, parked, posted, settled, defaulted, closed, registered, printed, ticked, over as is_over}
use Rattle.ca_meaning.specs.Operands.{port_of_value}
use Rattle.ca_meaning.specs.ChannelSteps.{other_side}
use Rattle.ca_meaning.specs.TaskSteps.{kind_of, result_of}
use Rattle.ca_meaning.specs.Choice.{branches_of, default_of}

pub data Deed : Type 0 where
  -- the number of the branch, the channel, and the answer
  did_take : ℕ → ℕ → Tree → Deed
  -- the number of the branch, the channel, the value, and the answer
  did_put : ℕ → ℕ → Tree → Tree → Deed
  -- it began to wait: the new wait, and its branches
  did_wait : ℕ → List BranchView → Deed
  -- the new wait, the channel and the value
  did_post : ℕ → ℕ → Tree → Deed
  did_default : Tree → Deed
  did_make : ℕ → WhatView → Option ℕ → Deed
  did_spawn : ℕ → TaskKind → Option ℕ → Deed
  did_close : ℕ → Deed
  did_register : RegisterName → Trees → Tree → Deed
  did_print : List ℕ → Deed
  did_end : Ending → Deed

-- w is the wait o
abbrev pub is_wait : ℕ → Option ℕ → Bool
is_wait w None = false
is_wait w (Some n) = eqb n w

-- branch k is done with the answer
abbrev pub deed_of : BranchView → ℕ → Tree → Deed
deed_of (take_of p) k a = did_take k p a
deed_of (put_of p v) k a = did_put k p v a

-- the value passes or is accepted at branch k, on that side of channel p
abbrev pub deed_on : Side → ℕ → ℕ → Tree → Deed
deed_on Take k p v = did_take k p v
deed_on Put k p v = did_put k p v (bool true)

-- what the event tells of task t, which waits on o, or on nothing
abbrev pub deed : ℕ → Option ℕ → EventView → Option Deed
deed t o (made u p what moment) = cond (eqb u t) (Some (did_make p what moment)) None
deed t o (spawned u n kind result) = cond (eqb u t) (Some (did_spawn n kind result)) None
deed t o (done u k b a) = cond (eqb u t) (Some (deed_of b k a)) None
deed t o (met u k side p v w j) = cond (eqb u t) (Some (deed_on side k p v)) (cond (is_wait w o) (Some (deed_on (other_side side) j p v)) None)
deed t o (parked u w bs) = cond (eqb u t) (Some (did_wait w bs)) None
deed t o (posted u w p v) = cond (eqb u t) (Some (did_post w p v)) None
deed t o (settled w k side p v) = cond (is_wait w o) (Some (deed_on side k p v)) None
deed t o (defaulted u v) = cond (eqb u t) (Some (did_default v)) None
deed t o (closed u p) = cond (eqb u t) (Some (did_close p)) None
deed t o (registered u name args v) = cond (eqb u t) (Some (did_register name args v)) None
deed t o (printed u line) = cond (eqb u t) (Some (did_print line)) None
deed t o (ticked m ports) = None
deed t o (is_over u how) = cond (eqb u t) (Some (did_end how)) None

-- the wait on which task t waits after the event
abbrev pub wait_after : ℕ → EventView → Option ℕ → Option ℕ
wait_after t (parked u w bs) o = cond (eqb u t) (Some w) o
wait_after t (met u k side p v w j) o = cond (is_wait w o) None o
wait_after t (settled w k side p v) o = cond (is_wait w o) None o
wait_after t e o = o

abbrev pub with_deed : Option Deed → List Deed → List Deed
with_deed None ds = ds
with_deed (Some d) ds = d ∷ ds

abbrev pub deeds_from : ℕ → Option ℕ → List EventView → List Deed
deeds_from t o [] = []
deeds_from t o (e ∷ es) = with_deed (deed t o e) (deeds_from t (wait_after t e o) es)

abbrev pub wait_from : ℕ → Option ℕ → List EventView → Option ℕ
wait_from t o [] = o
wait_from t o (e ∷ es) = wait_from t (wait_after t e o) es

-- all that task t did, in order, and the wait on which it waits; before its Spawn it did nothing
abbrev pub deeds : ℕ → List EventView → List Deed
deeds t journal = deeds_from t None journal

abbrev pub wait_in : ℕ → List EventView → Option ℕ
wait_in t journal = wait_from t None journal

-- the deed is of the operation: it is one of its branches, or the operation itself
abbrev pub IsDeedOf : OpView → Deed → Type 0
IsDeedOf op (did_take k p a) = slice_get (branches_of op) k ≡ Some (take_of p)
IsDeedOf op (did_put k p v a) = slice_get (branches_of op) k ≡ Some (put_of p v)
IsDeedOf op (did_wait w bs) = bs ≡ branches_of op
IsDeedOf op (did_post w p v) = (c : Tree) × (op ≡ posting c v) × (p ≡ port_of_value c)
IsDeedOf op (did_default v) = default_of op ≡ Some v
IsDeedOf op (did_make p what moment) = op ≡ making what
IsDeedOf op (did_spawn u kind result) = (seed : SeedView) × (op ≡ spawning seed) × (kind ≡ kind_of seed) × (result ≡ result_of seed)
IsDeedOf op (did_close p) = (c : Tree) × (op ≡ closing c) × (p ≡ port_of_value c)
IsDeedOf op (did_register name args a) = op ≡ registering name args
IsDeedOf op (did_print line) = op ≡ printing line
IsDeedOf op (did_end how) = ⊥
