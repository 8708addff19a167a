-- Local steps leave each port of a term public, and it ends with a public value.
use Rattle.std.proofs.Common.{◌≡◌, ℕ, List, [], ◌∷◌, subst, Bool, true, false, cond, nat_le, Option, Some, None}
use Rattle.std.specs.Prelude.{Result, Ok, Err}
use Rattle.ca_value.specs.Tree.{Tree, Trees}
use Rattle.ca_term.specs.declared.place.Place.{Place}
use Rattle.ca_term.specs.declared.fault.Fault.{Fault}
use Rattle.ca_term.specs.declared.fault.Fault.TheVariants.{Spun, TooDeep}
use Rattle.ca_term.specs.declared.head.Head.{Head}
use Rattle.ca_term.specs.declared.head.Head.TheVariants.{Recur, Builtin, Call, Take, Put, Alts, Make, Spawn, Close, Register, Print, Post}
use Rattle.ca_term.specs.Kernel.{Kernel, const, var, branch, bind, loop, seq, frame, turn, apply, none, item, empty, binding}
use Rattle.ca_term.specs.Operation.{OpView, WhatView, making}
use Rattle.ca_term.specs.Program.{ProgramView, ProcedureView}
use Rattle.ca_meaning.specs.declared.body.FaultAt.{FaultAt}
use Rattle.ca_meaning.specs.Operands.{truth, values_in}
use Rattle.ca_meaning.specs.Redex.{redex, value_of, values_of}
use Rattle.ca_meaning.specs.Started.{named, procedure_at, started}
use Rattle.ca_meaning.specs.Body.{BodyView, At, local, at_op, ended, faulted, nowhere, at, at_or, standing, standing_turn, standing_with, asking, asking_to_make, contract, after_turn}
use Rattle.ca_meaning.specs.Rest.{LocalSteps, here, after}
use Rattle.ca_meaning.proofs.Waits.{each-append}
use Rattle.ca_roles.specs.Roles.{Roles, IsPublic, ArePublic}
use Rattle.ca_roles.specs.Sealed.{IsSealed, IsSealedProcedure}
use Rattle.ca_roles.proofs.Starting.{values_public, named_public, procedure_sealed}
use Rattle.ca_roles.proofs.Clean.{builtins_make_no_ports}
use Rattle.ca_roles.proofs.PublicTerms.{PublicTerm, sealed_public, one_of_two, puts_public, put_public, put_bindings_public, value_public, operands_public, redex_public, replace_public}

module _ (roles : Roles) where
  -- a text without ports, with public values in place of its names
  pub begun_public : (t : ProcedureView) (vs : Trees) → IsSealedProcedure t → ArePublic roles vs → PublicTerm roles (started t (values_in vs))
  begun_public t vs h p = puts_public roles (named t.parameters (values_in vs)) t.body (named_public roles t.parameters (values_in vs) (values_public roles vs p)) (sealed_public 0 roles t.body _ (h 0))

  again_public : (names : List ℕ) (text now : Kernel) → PublicTerm roles text → PublicTerm roles now → PublicTerm roles (after_turn names text now)
  again_public names text (apply Recur ts p) h g = (h, puts_public roles (named names (values_in (values_of ts))) text (named_public roles names (values_in (values_of ts)) (values_public roles (values_of ts) (operands_public roles ts g))) h)
  again_public names text (const v) h g = g
  again_public names text (var n) h g = tt
  again_public names text (branch c a b) h g = g
  again_public names text (bind bs body) h g = g
  again_public names text (loop fs bs body) h g = g
  again_public names text (seq ts) h g = g
  again_public names text (frame body) h g = g
  again_public names text (turn ns t now) h g = g
  again_public names text (apply (Builtin b) ts p) h g = g
  again_public names text (apply (Call n) ts p) h g = g
  again_public names text (apply Take ts p) h g = g
  again_public names text (apply Put ts p) h g = g
  again_public names text (apply (Alts o) ts p) h g = g
  again_public names text (apply (Make kind) ts p) h g = g
  again_public names text (apply (Spawn kind) ts p) h g = g
  again_public names text (apply Close ts p) h g = g
  again_public names text (apply (Register name) ts p) h g = g
  again_public names text (apply Print ts p) h g = g
  again_public names text (apply Post ts p) h g = g

module _ (program : ProgramView) (sealed : IsSealed program) (roles : Roles) where
  contract_public : (t : Kernel) → PublicTerm roles t → PublicTerm roles (contract program t)
  contract_public (const v) h = h
  contract_public (var n) h = tt
  contract_public (branch c a b) h = one_of_two roles (truth (value_of c)) a b h.1 h.2
  contract_public (bind empty body) h = h.1
  contract_public (bind (binding n t bs) body) h = let v = value_public roles t h.0.0 in (put_bindings_public roles n (value_of t) bs v h.0.1, put_public roles n (value_of t) body v h.1)
  contract_public (loop fs empty body) h = (h.2, puts_public roles fs body h.0 h.2)
  contract_public (loop fs (binding n t bs) body) h =
      let v = value_public roles t h.1.0 in
      (each-append (λ (f : ℕ × Tree). IsPublic roles f.1) fs ((n, value_of t) ∷ []) h.0 (v, tt), put_bindings_public roles n (value_of t) bs v h.1.1, h.2)
  contract_public (seq none) h = tt
  contract_public (seq (item t none)) h = h.0
  contract_public (seq (item t (item u us))) h = h.1
  contract_public (frame body) h = h
  contract_public (turn names text now) h = again_public roles names text now h.0 h.1
  contract_public (apply (Builtin b) ts p) h = builtins_make_no_ports roles b (values_of ts) (operands_public roles ts h)
  contract_public (apply (Call n) ts p) h = begun_public roles (procedure_at program.functions n) (values_of ts) (procedure_sealed program.functions n sealed.functions) (operands_public roles ts h)
  contract_public (apply Recur ts p) h = h
  contract_public (apply Take ts p) h = h
  contract_public (apply Put ts p) h = h
  contract_public (apply (Alts o) ts p) h = h
  contract_public (apply (Make kind) ts p) h = h
  contract_public (apply (Spawn kind) ts p) h = h
  contract_public (apply Close ts p) h = h
  contract_public (apply (Register name) ts p) h = h
  contract_public (apply Print ts p) h = h
  contract_public (apply Post ts p) h = h

  pub steps_public : {b c : BodyView} → LocalSteps program b c → PublicTerm roles b.term → PublicTerm roles c.term
  steps_public here h = h
  steps_public {b} {c} (after l s) h = steps_public s (replace_public roles (contract program (redex b.term)) b.term (contract_public (redex b.term) (redex_public roles b.term h)) h)

-- where a body doesn't end
not_asking : {G : Type 0} (p : Place) (f : Option Fault) (op : OpView) (w : Tree) → asking p f op ≡ ended w → G
not_asking p None op w e = absurd (let k : at_op (record { op = op; place = p }) ≡ ended w = e in cc)
not_asking p (Some f) op w e = absurd (let k : faulted f p ≡ ended w = e in cc)

not_making : {G : Type 0} (p : Place) (r : Result WhatView Fault) (w : Tree) → asking_to_make p r ≡ ended w → G
not_making p (Ok what) w e = not_asking p None (making what) w e
not_making p (Err f) w e = absurd (let k : faulted f p ≡ ended w = e in cc)

not_local : {G : Type 0} (w : Tree) → local ≡ ended w → G
not_local w e = absurd cc

not_either : {G : Type 0} (b : Bool) (f : Fault) (p : Place) (a : At) (w : Tree) → (a ≡ ended w → G) → cond b (faulted f p) a ≡ ended w → G
not_either true f p a w k e = absurd (let j : faulted f p ≡ ended w = e in cc)
not_either false f p a w k e = k e

not_turn : {G : Type 0} (turns : ℕ) (now : Kernel) (w : Tree) → standing_turn turns now ≡ ended w → G
not_turn {G} turns (apply Recur ts p) w e = not_either {G = G} (nat_le 999_999 turns) Spun p local w (not_local w) e
not_turn turns (const v) w e = not_local w e
not_turn turns (var n) w e = not_local w e
not_turn turns (branch c a b) w e = not_local w e
not_turn turns (bind bs body) w e = not_local w e
not_turn turns (loop fs bs body) w e = not_local w e
not_turn turns (seq ts) w e = not_local w e
not_turn turns (frame body) w e = not_local w e
not_turn turns (turn ns t now) w e = not_local w e
not_turn turns (apply (Builtin b) ts p) w e = not_local w e
not_turn turns (apply (Call n) ts p) w e = not_local w e
not_turn turns (apply Take ts p) w e = not_local w e
not_turn turns (apply Put ts p) w e = not_local w e
not_turn turns (apply (Alts o) ts p) w e = not_local w e
not_turn turns (apply (Make kind) ts p) w e = not_local w e
not_turn turns (apply (Spawn kind) ts p) w e = not_local w e
not_turn turns (apply Close ts p) w e = not_local w e
not_turn turns (apply (Register name) ts p) w e = not_local w e
not_turn turns (apply Print ts p) w e = not_local w e
not_turn turns (apply Post ts p) w e = not_local w e

not_with : {G : Type 0} (turns depth : ℕ) (vs : Trees) (p : Place) (h : Head) (w : Tree) → standing_with turns depth vs p h ≡ ended w → G
not_with turns depth vs p Recur w e = absurd (let k : nowhere ≡ ended w = e in cc)
not_with turns depth vs p (Builtin b) w e = not_local w e
not_with turns depth vs p (Call n) w e = not_either (nat_le 999_999 turns) Spun p (cond (nat_le 256 depth) (faulted TooDeep p) local) w (not_either (nat_le 256 depth) TooDeep p local w (not_local w)) e
not_with turns depth vs p Take w e = not_asking p None _ w e
not_with turns depth vs p Put w e = not_asking p _ _ w e
not_with turns depth vs p (Alts o) w e = not_asking p _ _ w e
not_with turns depth vs p (Make kind) w e = not_making p _ w e
not_with turns depth vs p (Spawn kind) w e = not_asking p _ _ w e
not_with turns depth vs p Close w e = not_asking p None _ w e
not_with turns depth vs p (Register name) w e = not_asking p _ _ w e
not_with turns depth vs p Print w e = not_asking p _ _ w e
not_with turns depth vs p Post w e = not_asking p _ _ w e

module _ (roles : Roles) where
  stands_public : (turns depth : ℕ) (r : Kernel) (w : Tree) → PublicTerm roles r → standing turns depth r ≡ ended w → IsPublic roles w
  stands_public turns depth (const v) w h e = subst (IsPublic roles) (let k : v ≡ w = cc in k) h
  stands_public turns depth (var n) w h e = absurd (let k : nowhere ≡ ended w = e in cc)
  stands_public turns depth (branch c a b) w h e = not_local w e
  stands_public turns depth (bind bs body) w h e = not_local w e
  stands_public turns depth (loop fs bs body) w h e = not_local w e
  stands_public turns depth (seq ts) w h e = not_local w e
  stands_public turns depth (frame body) w h e = not_local w e
  stands_public turns depth (turn ns again now) w h e = not_turn turns now w e
  stands_public turns depth (apply f ts p) w h e = not_with turns depth (values_of ts) p f w e

  pub ended_public : (b : BodyView) (w : Tree) → PublicTerm roles b.term → at b ≡ ended w → IsPublic roles w
  ended_public b w h e = stands_public b.turns b.depth (redex b.term) w (redex_public roles b.term h) (by b.fault (standing b.turns b.depth (redex b.term)) e) where
    by : (f : Option FaultAt) (a : At) → at_or f a ≡ ended w → a ≡ ended w
    by None a e = e
    by (Some f) a e = absurd (let k : faulted f.fault f.place ≡ ended w = e in cc)
