-- The form at which a body stands, by the operation that it asks for.
use Rattle.std.proofs.Common.{◌≡◌, ℕ, refl, subst, Bool, true, false, cond, nat_le, Option, Some, None}
use Rattle.std.specs.Prelude.{Result, Ok, Err}
use Rattle.ca_value.specs.Tree.{text as line_text}
use Rattle.ca_term.specs.declared.place.Place.{Place}
use Rattle.ca_term.specs.declared.fault.Fault.{Fault}
use Rattle.ca_term.specs.declared.fault.Fault.TheVariants.{Spun, TooDeep}
use Rattle.ca_term.specs.declared.head.Head.TheVariants.{Recur, Builtin, Call, Take, Put, Alts, Make, Spawn, Close, Register, Print, Post}
use Rattle.ca_term.specs.declared.head.MakeKind.{MakeKind}
use Rattle.ca_term.specs.declared.head.SeedKind.{SeedKind}
use Rattle.ca_term.specs.declared.head.AltsOptions.{AltsOptions}
use Rattle.ca_term.specs.declared.head.RegisterName.{RegisterName}
use Rattle.ca_term.specs.Kernel.{Kernel, Kernels, const, var, branch, bind, loop, seq, frame, turn, apply}
use Rattle.ca_term.specs.Operation.{OpView, WantView, WhatView, taking, putting, posting, making, spawning, closing, registering, printing}
use Rattle.ca_meaning.specs.declared.body.FaultAt.{FaultAt}
use Rattle.ca_meaning.specs.Operands.{first_of, second_of}
use Rattle.ca_meaning.specs.Asking.{too_large, bad_alts, alts_of, made_of, bad_operands, seed_of, bad_arguments}
use Rattle.ca_meaning.specs.Redex.{redex, values_of}
use Rattle.ca_meaning.specs.Body.{BodyView, At, local, at_op, faulted, asking_to_make, at_or, at, standing, standing_turn, line_of}
use Rattle.ca_roles.proofs.Ports.{asked}

-- the redex is a form of this operation
pub data Form : Kernel → OpView → Type 0 where
  takes : {ts : Kernels} {p : Place} → Form (apply Take ts p) (taking (first_of (values_of ts)))
  puts : {ts : Kernels} {p : Place} → Form (apply Put ts p) (putting (first_of (values_of ts)) (second_of (values_of ts)))
  posts : {ts : Kernels} {p : Place} → Form (apply Post ts p) (posting (first_of (values_of ts)) (second_of (values_of ts)))
  chooses : {o : AltsOptions} {ts : Kernels} {p : Place} → Form (apply (Alts o) ts p) (alts_of o (values_of ts))
  makes : {kind : MakeKind} {ts : Kernels} {p : Place} (what : WhatView) → made_of kind (values_of ts) ≡ Ok what → Form (apply (Make kind) ts p) (making what)
  spawns : {kind : SeedKind} {ts : Kernels} {p : Place} → bad_operands kind (values_of ts) ≡ None → Form (apply (Spawn kind) ts p) (spawning (seed_of kind (values_of ts) p))
  closes : {ts : Kernels} {p : Place} → Form (apply Close ts p) (closing (first_of (values_of ts)))
  registers : {name : RegisterName} {ts : Kernels} {p : Place} → bad_arguments name (values_of ts) ≡ None → Form (apply (Register name) ts p) (registering name (values_of ts))
  prints : {ts : Kernels} {p : Place} → Form (apply Print ts p) (printing (line_of (values_of ts)))

asked_to_make : (p : Place) (r : Result WhatView Fault) (want : WantView) → asking_to_make p r ≡ at_op want → (what : WhatView) × (r ≡ Ok what) × (making what ≡ want.op)
asked_to_make p (Ok what) want e = (what, refl, (asked p None (making what) want e).0)
asked_to_make p (Err f) want e = absurd (let k : faulted f p ≡ at_op want = e in cc)

either : {G : Type 0} (b : Bool) (f : Fault) (p : Place) (a : At) (want : WantView) → (a ≡ at_op want → G) → cond b (faulted f p) a ≡ at_op want → G
either true f p a want k e = absurd (let j : faulted f p ≡ at_op want = e in cc)
either false f p a want k e = k e

local_not : {G : Type 0} (want : WantView) → local ≡ at_op want → G
local_not want e = absurd cc

no_turn : {G : Type 0} (turns : ℕ) (now : Kernel) (want : WantView) → standing_turn turns now ≡ at_op want → G
no_turn {G} turns (apply Recur ts p) want e = either {G = G} (nat_le 999_999 turns) Spun p local want (local_not want) e
no_turn turns (const v) want e = local_not want e
no_turn turns (var n) want e = local_not want e
no_turn turns (branch c a b) want e = local_not want e
no_turn turns (bind bs body) want e = local_not want e
no_turn turns (loop fs bs body) want e = local_not want e
no_turn turns (seq ts) want e = local_not want e
no_turn turns (frame body) want e = local_not want e
no_turn turns (turn ns t now) want e = local_not want e
no_turn turns (apply (Builtin b) ts p) want e = local_not want e
no_turn turns (apply (Call n) ts p) want e = local_not want e
no_turn turns (apply Take ts p) want e = local_not want e
no_turn turns (apply Put ts p) want e = local_not want e
no_turn turns (apply (Alts o) ts p) want e = local_not want e
no_turn turns (apply (Make kind) ts p) want e = local_not want e
no_turn turns (apply (Spawn kind) ts p) want e = local_not want e
no_turn turns (apply Close ts p) want e = local_not want e
no_turn turns (apply (Register name) ts p) want e = local_not want e
no_turn turns (apply Print ts p) want e = local_not want e
no_turn turns (apply Post ts p) want e = local_not want e

module _ (turns depth : ℕ) where
  pub form_of : (r : Kernel) (want : WantView) → standing turns depth r ≡ at_op want → Form r want.op
  form_of (const v) want e = cc
  form_of (var n) want e = cc
  form_of (branch c a b) want e = local_not want e
  form_of (bind bs body) want e = local_not want e
  form_of (loop fs bs body) want e = local_not want e
  form_of (seq ts) want e = local_not want e
  form_of (frame body) want e = local_not want e
  form_of (turn ns t now) want e = no_turn turns now want e
  form_of (apply Recur ts p) want e = cc
  form_of (apply (Builtin b) ts p) want e = local_not want e
  form_of (apply (Call n) ts p) want e = either (nat_le 999_999 turns) Spun p (cond (nat_le 256 depth) (faulted TooDeep p) local) want (either (nat_le 256 depth) TooDeep p local want (local_not want)) e
  form_of (apply Take ts p) want e = subst (Form (apply Take ts p)) (asked p None (taking (first_of (values_of ts))) want e).0 takes
  form_of (apply Put ts p) want e = subst (Form (apply Put ts p)) (asked p (too_large (second_of (values_of ts))) (putting (first_of (values_of ts)) (second_of (values_of ts))) want e).0 puts
  form_of (apply Post ts p) want e = subst (Form (apply Post ts p)) (asked p (too_large (second_of (values_of ts))) (posting (first_of (values_of ts)) (second_of (values_of ts))) want e).0 posts
  form_of (apply (Alts o) ts p) want e = subst (Form (apply (Alts o) ts p)) (asked p (bad_alts o (values_of ts)) (alts_of o (values_of ts)) want e).0 chooses
  form_of (apply (Make kind) ts p) want e = let k = asked_to_make p (made_of kind (values_of ts)) want e in subst (Form (apply (Make kind) ts p)) k.2 (makes k.0 k.1)
  form_of (apply (Spawn kind) ts p) want e = let k = asked p (bad_operands kind (values_of ts)) (spawning (seed_of kind (values_of ts) p)) want e in subst (Form (apply (Spawn kind) ts p)) k.0 (spawns k.1)
  form_of (apply Close ts p) want e = subst (Form (apply Close ts p)) (asked p None (closing (first_of (values_of ts))) want e).0 closes
  form_of (apply (Register name) ts p) want e = let k = asked p (bad_arguments name (values_of ts)) (registering name (values_of ts)) want e in subst (Form (apply (Register name) ts p)) k.0 (registers k.1)
  form_of (apply Print ts p) want e = subst (Form (apply Print ts p)) (asked p (too_large (line_text (line_of (values_of ts)))) (printing (line_of (values_of ts))) want e).0 prints

without_fault : (f : Option FaultAt) (a : At) (want : WantView) → at_or f a ≡ at_op want → a ≡ at_op want
without_fault None a want e = e
without_fault (Some f) a want e = absurd (let k : faulted f.fault f.place ≡ at_op want = e in cc)

-- of a body that stands at an operation
pub body_form : (b : BodyView) (want : WantView) → at b ≡ at_op want → Form (redex b.term) want.op
body_form b want e = form_of b.turns b.depth (redex b.term) want (without_fault b.fault (standing b.turns b.depth (redex b.term)) want e)
