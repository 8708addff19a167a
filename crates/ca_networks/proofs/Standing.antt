-- A task that stands in the table of its kind, and how an event moves it there.
use Rattle.std.proofs.Common.{◌≡◌, ◌++◌, ℕ, List, [], ◌∷◌, refl, sym, ap, ◌∙◌, subst, true, Option, Some, None}
use Rattle.ca_value.specs.Tree.{Tree}
use Rattle.ca_term.specs.declared.event.Ending.{Ending}
use Rattle.ca_term.specs.Operation.{OpView}
use Rattle.ca_term.specs.Program.{ProgramView}
use Rattle.ca_term.specs.Event.{EventView}
use Rattle.ca_meaning.specs.Asks.{Next, to}
use Rattle.ca_meaning.specs.Choice.{branches_of, parks as may_park}
use Rattle.ca_meaning.specs.System.{SystemBody, system_fill, SystemRest}
use Rattle.ca_meaning.specs.Task.{system_task, body_fill, BodyRest}
use Rattle.ca_meaning.specs.State.{State, Task, running, waiting, over}
use Rattle.ca_meaning.specs.Going.{IsAtOp}
use Rattle.ca_meaning.specs.Steps.{Step}
use Rattle.ca_laws.specs.Deeds.{Deed, did_wait, did_end, deed, deeds}
use Rattle.ca_laws.proofs.Acts.{wait_of, Replies, Acts, idles, parks, stops, goes}
use Rattle.ca_laws.proofs.Acted.{acts}
use Rattle.ca_laws.proofs.Deeding.{and_deed, deeds_more, Traced}

-- task t stands in the table
pub record Standing {S : Type 0} (body : Next S → SystemBody) (t : ℕ) (s : State) : Type 0 where
  pub now : Next S
  pub task : Task
  pub there : s.tasks t ≡ Some task
  pub body_is : task.body ≡ system_task (body now)

-- from the one state of the table to the other, by its deed, if it has one
pub data Moves {S : Type 0} (op_of : S → OpView) (next : Tree → S → Next S) (x y : Task) (n m : Next S) (o : Option Deed) : Type 0 where
  still : o ≡ None → m ≡ n → y.mode ≡ x.mode → Moves op_of next x y n m o
  waits : (z : S) (w : ℕ) → n ≡ to z → o ≡ Some (did_wait w (branches_of (op_of z))) → may_park (op_of z) ≡ true → x.mode ≡ running → m ≡ n → y.mode ≡ waiting w → Moves op_of next x y n m o
  ends : (how : Ending) → o ≡ Some (did_end how) → x.mode ≡ running → m ≡ n → y.mode ≡ over → Moves op_of next x y n m o
  answers : (z : S) (c : Deed) (a : Tree) → n ≡ to z → o ≡ Some c → Replies (op_of z) c a → m ≡ next a z → y.mode ≡ running → Moves op_of next x y n m o

-- a table whose tasks do nothing between two operations
pub record Table (program : ProgramView) {S : Type 0} (body : Next S → SystemBody) (op_of : S → OpView) (next : Tree → S → Next S) : Type 0 where
  pub only : (n : Next S) (op : OpView) → IsAtOp (system_task (body n)) op → (x : S) × (n ≡ to x) × (op ≡ op_of x)
  pub fills : (x : S) (a : Tree) (c : SystemBody) → SystemRest program (system_fill a (body (to x))) c → c ≡ body (next a x)

module _ (program : ProgramView) {S : Type 0} (body : Next S → SystemBody) (op_of : S → OpView) (next : Tree → S → Next S) (table : Table program body op_of next) (journal : List EventView) (s s2 : State) (e : EventView) (traced : Traced journal s) (k : Step program s e s2) (t : ℕ) (x : Standing body t s) where
  pub deeds_after : deeds t (journal ++ e ∷ []) ≡ and_deed (deeds t journal) (deed t (wait_of x.task.mode) e)
  deeds_after = deeds_more t None journal e ∙ ap (λ w. and_deed (deeds t journal) (deed t w e)) (traced.told.waits t x.task x.there)

  abbrev pub Moved : Type 0
  Moved = (y : Standing body t s2) × Moves op_of next x.task y.task x.now y.now (deed t (wait_of x.task.mode) e)

  pub moved : Moved
  moved = by seen.2 where
    seen : (y : Task) × (s2.tasks t ≡ Some y) × Acts program x.task y (deed t (wait_of x.task.mode) e)
    seen = acts program s s2 t x.task x.there traced.stood traced.known.sound.waited e k

    at_state : (op : OpView) → IsAtOp x.task.body op → (z : S) × (x.now ≡ to z) × (op ≡ op_of z)
    at_state op at = table.only x.now op (subst (λ b. IsAtOp b op) x.body_is at)

    same : seen.0.body ≡ x.task.body → Standing body t s2
    same is = record { now = x.now; task = seen.0; there = seen.1; body_is = is ∙ x.body_is }

    by : Acts program x.task seen.0 (deed t (wait_of x.task.mode) e) → Moved
    by (idles is ye) = (same (ap (λ (q : Task). q.body) ye), still is refl (ap (λ (q : Task). q.mode) ye))
    by (parks op w is may at r ye) =
        let o = at_state op at in
        (same (ap (λ (q : Task). q.body) ye), waits o.0 w o.1 (is ∙ ap (λ z. Some (did_wait w (branches_of z))) o.2) (ap may_park (sym o.2) ∙ may) r refl (ap (λ (q : Task). q.mode) ye))
    by (stops how is r v ye) = (same (ap (λ (q : Task). q.body) ye), ends how is r refl (ap (λ (q : Task). q.mode) ye))
    by (goes op c a b is at ans r ye) =
        let o = at_state op at in
        let rest : BodyRest program (system_task (system_fill a (body (to o.0)))) b = subst (λ z. BodyRest program (body_fill a z) b) (x.body_is ∙ ap (λ n. system_task (body n)) o.1) r in (
          record { now = next a o.0; task = seen.0; there = seen.1; body_is = ap (λ (q : Task). q.body) ye ∙ rest.2 ∙ ap system_task (table.fills o.0 a rest.0 rest.1) },
          answers o.0 c a o.1 is (subst (λ z. Replies z c a) o.2 ans) refl (ap (λ (q : Task). q.mode) ye),
        )
