-- What a step makes of a script's text, and of what it can start.
use Rattle.std.proofs.Common.{◌≡◌, ◌⊎◌, inl, inr, ℕ, ◌+◌, ◌≤◌, refl, sym, ap, ◌∙◌, subst, arith, Bool, true, false, eqb, eqb-true, eq-eqb, Option, Some, None}
use Rattle.ca_value.specs.Tree.{Tree, port}
use Rattle.ca_term.specs.declared.place.Place.{Place}
use Rattle.ca_term.specs.Operation.{OpView, WhatView, making}
use Rattle.ca_term.specs.Program.{ProgramView, IsProgram}
use Rattle.ca_term.specs.Event.{EventView}
use Rattle.ca_meaning.specs.Redex.{redex}
use Rattle.ca_meaning.specs.Body.{BodyView, at_op, at, fill}
use Rattle.ca_meaning.specs.Rest.{Rest}
use Rattle.ca_meaning.specs.Task.{TaskBody, script, system_task, body_fill, BodyRest}
use Rattle.ca_meaning.specs.State.{State, Task}
use Rattle.ca_meaning.specs.Going.{IsAtOp}
use Rattle.ca_meaning.specs.Steps.{Step}
use Rattle.ca_laws.specs.Deeds.{Deed, did_make, deed}
use Rattle.ca_laws.proofs.Acts.{wait_of, Replies, got, gave, chose, chose_put, chose_default, posts, posts_late, creates, starts, shuts, enrols, prints, Acts, idles, parks, stops, goes}
use Rattle.ca_roles.specs.Roles.{Hidden, public, hidden, Roles, no_roles, IsPublic}
use Rattle.ca_roles.specs.Sealed.{Sealed, IsSealed}
use Rattle.ca_roles.specs.Once.{User, UsesOnce, StartsOnce}
use Rattle.ca_roles.specs.Typed.{Typed}
use Rattle.ca_roles.proofs.Answered.{same_script, count, not_hidden, IsOfProgram, answered_once, answered_count, made_once, made_count, made_new}
use Rattle.ca_roles.proofs.Events.{made_event}
use Rattle.ca_roles.proofs.Counted.{at_most}

-- what answers the operations of scripts is public, but the ports of Makes
abbrev pub ScriptsGetPublic : Roles → State → EventView → Type 0
ScriptsGetPublic roles s e =
    (t : ℕ) (x : Task) (b : BodyView) (op : OpView) (c : Deed) (a : Tree) → s.tasks t ≡ Some x → x.body ≡ script b → deed t (wait_of x.mode) e ≡ Some c → IsAtOp x.body op → Replies op c a → ((what : WhatView) → op ≡ making what → ⊥) → IsPublic roles a

-- from b to d: nothing, or an answer
pub data Moved (program : ProgramView) (roles : Roles) (b d : BodyView) : Type 0 where
  idle : d ≡ b → Moved program roles b d
  answered : (op : OpView) (place : Place) (a : Tree) → at b ≡ at_op (record { op = op; place = place }) → ((what : WhatView) → op ≡ making what → ⊥) → IsPublic roles a → Rest program (fill a b) d → Moved program roles b d
  with_port : (p : ℕ) (what : WhatView) (place : Place) → at b ≡ at_op (record { op = making what; place = place }) → roles p ≡ None → Rest program (fill (port p) b) d → Moved program roles b d

-- a Make, or another operation
abbrev IsMaking : OpView → Deed → Tree → Type 0
IsMaking op c a = (p : ℕ) × (what : WhatView) × (moment : Option ℕ) × (op ≡ making what) × (c ≡ did_make p what moment) × (a ≡ port p)

replies_make : (op : OpView) (c : Deed) (a : Tree) → Replies op c a → IsMaking op c a ⊎ ((what : WhatView) → op ≡ making what → ⊥)
replies_make op c a (creates {what} p moment d i) = inl (p, what, moment, refl, d, i)
replies_make op c a (got d) = inr (λ what e. cc)
replies_make op c a (gave d i) = inr (λ what e. cc)
replies_make op c a (chose k p v d i j) = inr (λ what e. cc)
replies_make op c a (chose_put k p u v d i j l) = inr (λ what e. cc)
replies_make op c a (chose_default v d i j) = inr (λ what e. cc)
replies_make op c a (posts d i) = inr (λ what e. cc)
replies_make op c a (posts_late w d i) = inr (λ what e. cc)
replies_make op c a (starts u d i) = inr (λ what e. cc)
replies_make op c a (shuts d i) = inr (λ what e. cc)
replies_make op c a (enrols d) = inr (λ what e. cc)
replies_make op c a (prints d i) = inr (λ what e. cc)

module _ (program : ProgramView) (roles : Roles) (s s2 : State) (e : EventView) (typed : Typed program roles s) (step : Step program s e s2) (answers : ScriptsGetPublic roles s e) where
  -- a port that is made has no role before
  new_port : (t : ℕ) (o : Option ℕ) (p : ℕ) (what : WhatView) (moment : Option ℕ) → deed t o e ≡ Some (did_make p what moment) → roles p ≡ None
  new_port t o p what moment is = let x = subst (λ z. Step program s z s2) (made_event t o e p what moment is) step in typed.absent p x.3 x.4

  abbrev pub Was : Task → BodyView → Type 0
  Was x d = (b : BodyView) × (x.body ≡ script b) × Moved program roles b d

  -- by an answer
  gone_script : (t : ℕ) (x : Task) (b d : BodyView) (op : OpView) (c : Deed) (a : Tree) → s.tasks t ≡ Some x → x.body ≡ script b → deed t (wait_of x.mode) e ≡ Some c → IsAtOp x.body op → Replies op c a → Rest program (fill a b) d → Moved program roles b d
  gone_script t x b d op c a there is shows stood r rest = by (replies_make op c a r) where
    stands : IsAtOp (script b) op
    stands = subst (λ z. IsAtOp z op) is stood

    by : IsMaking op c a ⊎ ((what : WhatView) → op ≡ making what → ⊥) → Moved program roles b d
    by (inl m) =
        with_port m.0 m.1 stands.0 (subst (λ z. at b ≡ at_op (record { op = z; place = stands.0 })) m.3 stands.1) (new_port t (wait_of x.mode) m.0 m.1 m.2 (shows ∙ ap (λ z. Some z) m.4)) (subst (λ z. Rest program (fill z b) d) m.5 rest)
    by (inr other) = answered op stands.0 a stands.1 other (answers t x b op c a there is shows stood r other) rest

  -- a task of the state after the event that runs a script's text, and was there before
  pub was_script : (t : ℕ) (x y : Task) (d : BodyView) → s.tasks t ≡ Some x → Acts program x y (deed t (wait_of x.mode) e) → y.body ≡ script d → Was x d
  was_script t x y d there (idles o i) now = (d, ap (λ (z : Task). z.body) (sym i) ∙ now, idle refl)
  was_script t x y d there (parks op w o m at r i) now = (d, ap (λ (z : Task). z.body) (sym i) ∙ now, idle refl)
  was_script t x y d there (stops how o r v i) now = (d, ap (λ (z : Task). z.body) (sym i) ∙ now, idle refl)
  was_script t x y d there (goes op c a after o at r rest i) now = by x.body refl rest where
    after_is : after ≡ script d
    after_is = ap (λ (z : Task). z.body) (sym i) ∙ now

    by : (body : TaskBody) → x.body ≡ body → BodyRest program (body_fill a body) after → Was x d
    by (script b) is k = (b, is, gone_script t x b d op c a there is o at r (subst (Rest program (fill a b)) (same_script k.0 d (sym k.2 ∙ after_is)) k.1))
    by (system_task b) is k = absurd (let j : system_task k.0 ≡ script d = sym k.2 ∙ after_is in cc)

-- Of a text of task me in a checked program.
module _ (program : ProgramView) (checked : IsProgram program) (sealed : IsSealed program) (starts : StartsOnce program) (me : ℕ) (roles : Roles) (b d : BodyView) (f : IsOfProgram program checked sealed starts me b.term) (h : Sealed me roles b.term no_roles) (o : UsesOnce b.term) where
  pub moved_once : Moved program roles b d → UsesOnce d.term
  moved_once (idle i) = subst (λ (z : BodyView). UsesOnce z.term) (sym i) o
  moved_once (answered op place a at other answer rest) = answered_once program checked sealed starts me roles b d f h o a op place at other answer rest
  moved_once (with_port p what place at new rest) = made_once program checked sealed starts me roles b d f h o p what place at new rest

  first_le : (x y z : ℕ) → x + y ≤ z → x ≤ z
  first_le x y z l = omega (arith, l)

  -- of a hidden port
  pub moved_count : (k : User) (q m : ℕ) (x : Hidden) → roles q ≡ Some (hidden m x) → count k q b.term ≤ 1 → Moved program roles b d → count k q d.term ≤ count k q b.term
  moved_count k q m x is l (idle i) = subst (λ (z : BodyView). count k q z.term ≤ count k q b.term) (sym i) (same (count k q b.term)) where
    same : (n : ℕ) → n ≤ n
    same n = omega arith
  moved_count k q m x is l (answered op place a at other answer rest) = first_le (count k q d.term) (count k q (redex b.term)) (count k q b.term) (answered_count program checked sealed starts me roles b d f h o a op place at other answer rest k q (λ j. let i : Some (hidden m x) ≡ Some public = sym is ∙ j in cc) l)
  moved_count k q m x is l (with_port p what place at new rest) = made_count program checked sealed starts me roles b d f h o p what place at new rest k q (λ j. let i : Some (hidden m x) ≡ Some public = sym is ∙ j in cc) (λ j. let i : None ≡ Some (hidden m x) = sym new ∙ ap roles (sym j) ∙ is in cc) l

  -- of a port that had no role
  pub moved_new : (k : User) (q : ℕ) → roles q ≡ None → Moved program roles b d → count k q d.term ≤ 1
  moved_new k q new = by where
    zero_is : count k q b.term ≡ 0
    zero_is = not_hidden k q me roles b.term (λ x j. let i : None ≡ Some (hidden me x) = sym new ∙ j in cc) h

    less : (n m : ℕ) → n ≤ m → m ≡ 0 → n ≤ 1
    less n m l e = omega (arith, l, e)

    private : roles q ≡ Some public → ⊥
    private j = let i : None ≡ Some public = sym new ∙ j in cc

    by : Moved program roles b d → count k q d.term ≤ 1
    by (idle i) = subst (λ (z : BodyView). count k q z.term ≤ 1) (sym i) (at_most (count k q b.term) zero_is)
    by (answered op place a at other answer rest) = less (count k q d.term) (count k q b.term) (first_le (count k q d.term) (count k q (redex b.term)) (count k q b.term) (answered_count program checked sealed starts me roles b d f h o a op place at other answer rest k q private (at_most (count k q b.term) zero_is))) zero_is
    by (with_port p what place at none rest) = at_port (eqb q p) refl where
      at_port : (c : Bool) → eqb q p ≡ c → count k q d.term ≤ 1
      at_port true i = subst (λ z. count k z d.term ≤ 1) (sym (eqb-true q p i)) (made_new program checked sealed starts me roles b d f h o p what place at none rest k)
      at_port false i = less (count k q d.term) (count k q b.term) (made_count program checked sealed starts me roles b d f h o p what place at none rest k q private (λ j. let g : true ≡ false = sym (eq-eqb q p j) ∙ i in cc) (at_most (count k q b.term) zero_is)) zero_is
