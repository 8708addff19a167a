-- What makes the users of ports sole: a text starts each at most once, and by then no more.
use Rattle.std.proofs.Common.{◌≡◌, ℕ, ◌≤◌, refl, sym, ap, ◌∙◌, arith, Option, Some}
use Rattle.ca_term.specs.Operation.{SeedView, spawning}
use Rattle.ca_term.specs.Program.{ProgramView}
use Rattle.ca_meaning.specs.Redex.{redex}
use Rattle.ca_meaning.specs.Body.{BodyView}
use Rattle.ca_meaning.specs.System.{a_mult, a_delivery, a_mix, a_pub, a_pipe, a_merge, an_onto, a_feed, a_job, a_collect}
use Rattle.ca_meaning.specs.Task.{TaskBody, script, system_task, new_task}
use Rattle.ca_meaning.specs.State.{State, Task}
use Rattle.ca_meaning.specs.Going.{IsAtOp, RunsAtOperation}
use Rattle.ca_laws.specs.Deeds.{Deed}
use Rattle.ca_laws.proofs.Acts.{Acts, idles, parks, stops, goes}
use Rattle.ca_roles.specs.Roles.{Hidden, replies, acks, public, hidden, Roles, no_roles}
use Rattle.ca_roles.specs.Sealed.{Sealed, IsSealed}
use Rattle.ca_roles.specs.Once.{User, the_feed, the_collect, the_mult, only, UsesOnce}
use Rattle.ca_roles.specs.Typed.{TypedBody, Typed}
use Rattle.ca_roles.specs.SoleUsers.{own_of, owns, IsUser, AreSole}
use Rattle.ca_roles.proofs.Answered.{count, only_private, maker}
use Rattle.ca_roles.proofs.Owning.{gone_owns, system_starts}
use Rattle.ca_roles.proofs.Spending.{own_none, own_is, spends}
use Rattle.ca_roles.proofs.Rested.{redex_sealed}
use Rattle.ca_roles.proofs.Fewer.{redex_count}

-- In a state: each script's text can start each user of a port at most once, and where there is one, no more.
pub record Spent (s : State) : Type 0 where
  pub texts : (t : ℕ) (x : Task) (b : BodyView) → s.tasks t ≡ Some x → x.body ≡ script b → UsesOnce b.term
  pub once : (t : ℕ) (x : Task) (b : BodyView) (k : User) (q : ℕ) → s.tasks t ≡ Some x → x.body ≡ script b → count k q b.term ≤ 1
  pub spent : (t u : ℕ) (x : Task) (b : BodyView) (k : User) (q : ℕ) → s.tasks t ≡ Some x → x.body ≡ script b → IsUser s k q u → count k q b.term ≡ 0
  pub sole : AreSole s

-- the port of a user is a hidden one
pub user_hidden : (program : ProgramView) (me : ℕ) (roles : Roles) (b : TaskBody) (k : User) (q : ℕ) → TypedBody program me roles b → own_of b ≡ owns k q → (m : ℕ) × (x : Hidden) × (roles q ≡ Some (hidden m x))
user_hidden program me roles (script b) k q h e = own_none k q e
user_hidden program me roles (system_task (a_mult t l n)) k q h e = (h.2.0, acks, ap roles (sym (own_is the_mult k t.acks q e).1) ∙ h.2.1)
user_hidden program me roles (system_task (a_feed f l n)) k q h e = (h.0, replies h.1, ap roles (sym (own_is the_feed k f.replies q e).1) ∙ h.4)
user_hidden program me roles (system_task (a_collect c l n)) k q h e = (h.0, replies h.1, ap roles (sym (own_is the_collect k c.replies q e).1) ∙ h.4)
user_hidden program me roles (system_task (a_delivery d l n)) k q h e = own_none k q e
user_hidden program me roles (system_task (a_mix x l n)) k q h e = own_none k q e
user_hidden program me roles (system_task (a_pub p l n)) k q h e = own_none k q e
user_hidden program me roles (system_task (a_pipe p l n)) k q h e = own_none k q e
user_hidden program me roles (system_task (a_merge o l n)) k q h e = own_none k q e
user_hidden program me roles (system_task (an_onto o l n)) k q h e = own_none k q e
user_hidden program me roles (system_task (a_job j w n)) k q h e = own_none k q e

pub same_task : (x y : Task) → Some x ≡ Some y → x ≡ y
same_task x y e = cc

pub acts_own : (program : ProgramView) (x y : Task) (o : Option Deed) → Acts program x y o → own_of y.body ≡ own_of x.body
acts_own program x y o (idles d i) = ap (λ (z : Task). own_of z.body) i
acts_own program x y o (parks op w d m at r i) = ap (λ (z : Task). own_of z.body) i
acts_own program x y o (stops how d r v i) = ap (λ (z : Task). own_of z.body) i
acts_own program x y o (goes op c a b d at r rest i) = ap (λ (z : Task). own_of z.body) i ∙ gone_owns program a x.body b rest

-- Where a task stands at the Spawn of a user of a port, there is none yet, and the task has made the port.
module _ (program : ProgramView) (sealed : IsSealed program) (roles : Roles) (s : State) (typed : Typed program roles s) (h : Spent s) (t : ℕ) (x : Task) (seed : SeedView) (stands : RunsAtOperation s t (spawning seed) x) (k : User) (q : ℕ) (own : own_of (new_task program seed) ≡ owns k q) where
  -- its text has the form
  abbrev pub Starter : Type 0
  Starter = (b : BodyView) × (x.body ≡ script b) × (1 ≤ count k q (redex b.term)) × Sealed t roles b.term no_roles

  pub starter : Starter
  starter = by x.body refl (typed.tasks t x stands.0).body stands.2 where
    by : (body : TaskBody) → x.body ≡ body → TypedBody program t roles body → IsAtOp body (spawning seed) → Starter
    by (script b) is text st = (b, is, spends program t roles s q k b seed st.0 st.1 stands.3 text own, text)
    by (system_task b) is text st = own_none k q (sym (system_starts program b seed st) ∙ own)

  pub made_by : (m : Hidden) × (roles q ≡ Some (hidden t m))
  made_by = maker k q t roles (redex starter.0.term) (redex_sealed t roles starter.0.term starter.3) starter.2

  pub none_before : (u : ℕ) → IsUser s k q u → ⊥
  none_before u user = by starter where
    by : Starter → ⊥
    by a =
        let none_left = h.spent t u x a.0 k q stands.0 a.1 user in
        let le = redex_count program sealed k t (only q) roles (only_private q roles (λ e. let j : Some public ≡ Some (hidden t made_by.0) = sym e ∙ made_by.1 in cc)) a.0.term a.3 in
        let one = a.2 in
        absurd (omega (arith, none_left, le, one))
