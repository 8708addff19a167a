-- What an event is to a task: how its deed answers the operation at which it stands.
use Rattle.std.specs.Prelude.{◌≡◌, ◌⊎◌, ℕ, List, slice_get, Option, Some, None, Bool, true, false}
use Rattle.ca_value.specs.Tree.{Tree, Trees, nil, bool, port}
use Rattle.ca_term.specs.declared.head.RegisterName.{RegisterName}
use Rattle.ca_term.specs.declared.event.Ending.{Ending}
use Rattle.ca_term.specs.declared.event.Ending.TheVariants.{Ended}
use Rattle.ca_term.specs.Operation.{OpView, taking, putting, choosing, making, spawning, closing, registering, printing, posting, WhatView, SeedView}
use Rattle.ca_term.specs.Program.{ProgramView}
use Rattle.ca_term.specs.Event.{take_of, put_of}
use Rattle.ca_meaning.specs.Body.{ended}
use Rattle.ca_meaning.specs.Operands.{port_of_value}
use Rattle.ca_meaning.specs.ChannelSteps.{with_default}
use Rattle.ca_meaning.specs.TaskSteps.{kind_of, result_of}
use Rattle.ca_meaning.specs.Choice.{branches_of, parks as may_park}
use Rattle.ca_meaning.specs.Asks.{pair_of}
use Rattle.ca_meaning.specs.Task.{TaskBody, body_at, body_fill, BodyRest}
use Rattle.ca_meaning.specs.State.{Task, Mode, running, waiting, over, runs}
use Rattle.ca_meaning.specs.Going.{IsAtOp}
use Rattle.ca_laws.specs.Deeds.{Deed, did_take, did_put, did_wait, did_post, did_default, did_make, did_spawn, did_close, did_register, did_print, did_end}

abbrev pub wait_of : Mode → Option ℕ
wait_of running = None
wait_of (waiting w) = Some w
wait_of over = None

-- a put is answered by true, or by false where its channel is closed
abbrev pub IsPutAnswer : Tree → Type 0
IsPutAnswer a = (a ≡ bool true) ⊎ (a ≡ bool false)

-- how a deed answers the operation
pub data Replies : OpView → Deed → Tree → Type 0 where
  got : {c a : Tree} {d : Deed} → d ≡ did_take 0 (port_of_value c) a → Replies (taking c) d a
  gave : {c v a : Tree} {d : Deed} → d ≡ did_put 0 (port_of_value c) v a → IsPutAnswer a → Replies (putting c v) d a
  chose : {ports : Trees} {priority : Bool} {default : Option Tree} {a : Tree} {d : Deed} (k p : ℕ) (v : Tree) → d ≡ did_take k p v → slice_get (branches_of (choosing ports priority default)) k ≡ Some (take_of p) → a ≡ pair_of v (port p) → Replies (choosing ports priority default) d a
  chose_put : {ports : Trees} {priority : Bool} {default : Option Tree} {a : Tree} {d : Deed} (k p : ℕ) (u v : Tree) → d ≡ did_put k p u v → slice_get (branches_of (choosing ports priority default)) k ≡ Some (put_of p u) → a ≡ pair_of v (port p) → IsPutAnswer v → Replies (choosing ports priority default) d a
  chose_default : {ports : Trees} {priority : Bool} {default : Option Tree} {a : Tree} {d : Deed} (v : Tree) → d ≡ did_default v → default ≡ Some v → a ≡ with_default v → Replies (choosing ports priority default) d a
  posts : {c v a : Tree} {d : Deed} → d ≡ did_put 0 (port_of_value c) v a → IsPutAnswer a → Replies (posting c v) d a
  posts_late : {c v a : Tree} {d : Deed} (w : ℕ) → d ≡ did_post w (port_of_value c) v → a ≡ bool true → Replies (posting c v) d a
  creates : {what : WhatView} {a : Tree} {d : Deed} (p : ℕ) (moment : Option ℕ) → d ≡ did_make p what moment → a ≡ port p → Replies (making what) d a
  starts : {seed : SeedView} {a : Tree} {d : Deed} (u : ℕ) → d ≡ did_spawn u (kind_of seed) (result_of seed) → a ≡ nil → Replies (spawning seed) d a
  shuts : {c a : Tree} {d : Deed} → d ≡ did_close (port_of_value c) → a ≡ nil → Replies (closing c) d a
  enrols : {name : RegisterName} {args : Trees} {a : Tree} {d : Deed} → d ≡ did_register name args a → Replies (registering name args) d a
  prints : {line : List ℕ} {a : Tree} {d : Deed} → d ≡ did_print line → a ≡ nil → Replies (printing line) d a

-- what becomes of a task, which was x, by its deed, if it has one
pub data Acts (program : ProgramView) (x y : Task) (d : Option Deed) : Type 0 where
  idles : d ≡ None → y ≡ x → Acts program x y d
  parks : (op : OpView) (w : ℕ) → d ≡ Some (did_wait w (branches_of op)) → may_park op ≡ true → IsAtOp x.body op → x.mode ≡ running → y ≡ record x { mode = waiting w } → Acts program x y d
  -- it ends where its body has a value
  stops : (how : Ending) → d ≡ Some (did_end how) → x.mode ≡ running → (how ≡ Ended → (v : Tree) × (body_at x.body ≡ ended v)) → y ≡ record x { mode = over } → Acts program x y d
  goes : (op : OpView) (c : Deed) (a : Tree) (b : TaskBody) → d ≡ Some c → IsAtOp x.body op → Replies op c a → BodyRest program (body_fill a x.body) b → y ≡ runs x.result b → Acts program x y d
