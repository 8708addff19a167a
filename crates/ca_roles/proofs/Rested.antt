-- Local steps and answers leave the body of a sealed script sealed.
use Rattle.std.proofs.Common.{◌≡◌, inl, inr, ℕ, zero, suc, refl, sym, ap, ◌∙◌, subst, Bool, true, false, cond, ◌&&◌, nat_le, Some, None}
use Rattle.std.specs.Prelude.{Result, Ok, Err, pos, negsuc}
use Rattle.ca_value.specs.Tree.{Tree, Trees, nil, bool, int, text, key, vector, map, port}
use Rattle.ca_term.specs.declared.place.Place.{Place}
use Rattle.ca_term.specs.declared.fault.Fault.{Fault}
use Rattle.ca_term.specs.declared.head.MakeKind.{MakeKind}
use Rattle.ca_term.specs.declared.head.Head.TheVariants.{Make}
use Rattle.ca_term.specs.Kernel.{Kernel, Kernels, const, apply}
use Rattle.ca_term.specs.Operation.{OpView, WhatView, making, unbuffered, fixed}
use Rattle.ca_term.specs.Fits.{Suits}
use Rattle.ca_term.specs.Program.{ProgramView, IsProgram, known_in}
use Rattle.ca_meaning.specs.Asking.{made_of, buffered}
use Rattle.ca_meaning.specs.Operands.{first_of}
use Rattle.ca_meaning.specs.Redex.{redex, replace, values_of}
use Rattle.ca_meaning.specs.Body.{BodyView, local, at_op, at, standing, asking_to_make, contract, step, fill}
use Rattle.ca_meaning.specs.IsBody.{IsBodyBy}
use Rattle.ca_meaning.specs.Rest.{LocalSteps, here, after, Rest}
use Rattle.ca_meaning.proofs.Sizes.{whole-redex, no_fault}
use Rattle.ca_meaning.proofs.RedexFits.{seat}
use Rattle.ca_meaning.proofs.Contracts.{Judges}
use Rattle.ca_meaning.proofs.Bodies.{stepped, program_judges}
use Rattle.ca_roles.specs.Roles.{Hidden, jobs, replies, reply, acks, Role, public, hidden, Roles, no_roles, Grows, IsPublic}
use Rattle.ca_roles.specs.Sealed.{HasHiddenBuffer, IsMake, Sealed, IsSealed}
use Rattle.ca_roles.proofs.Starting.{same_roles}
use Rattle.ca_roles.proofs.Contracting.{contract_sealed}
use Rattle.ca_roles.proofs.Holes.{Hole, hole}
use Rattle.ca_roles.proofs.Forms.{Form, makes, body_form}

pub redex_sealed : (me : ℕ) (roles : Roles) (t : Kernel) → Sealed me roles t no_roles → Sealed me roles (redex t) no_roles
redex_sealed me roles t h = by (hole me roles t h) where
  by : Hole me roles (redex t) (λ more u. Sealed me more (replace u t) no_roles) → Sealed me roles (redex t) no_roles
  by (inl k) = k.0
  by (inr k) = k.2

-- a Make is no local step
make_stands : (p : Place) (r : Result WhatView Fault) → asking_to_make p r ≡ local → ⊥
make_stands p (Ok what) e = cc
make_stands p (Err f) e = cc

make_not_local : (x : Hidden) (b : BodyView) → IsMake x (redex b.term) → at b ≡ local → ⊥
make_not_local x b m e = make_stands m.2 (made_of m.0 (values_of m.1)) (sym (ap (standing b.turns b.depth) m.3) ∙ (no_fault b.fault (standing b.turns b.depth (redex b.term)) e).1)

-- A script's body in a checked program.
module _ (program : ProgramView) (checked : IsProgram program) (sealed : IsSealed program) (me : ℕ) (roles : Roles) where
  abbrev IsOfProgram : Kernel → Type 0
  IsOfProgram t = IsBodyBy (Suits (known_in checked.plain program)) t

  judges : Judges program (Suits (known_in checked.plain program))
  judges = program_judges program checked.plain checked.functions_fit

  pub step_sealed : (b : BodyView) → at b ≡ local → IsOfProgram b.term → Sealed me roles b.term no_roles → Sealed me roles (step program b).term no_roles
  step_sealed b l f h = by (hole me roles b.term h) where
    by : Hole me roles (redex b.term) (λ more u. Sealed me more (replace u b.term) no_roles) → Sealed me roles (replace (contract program (redex b.term)) b.term) no_roles
    by (inl k) = let s = seat (Suits (known_in checked.plain program)) None b.term f.fits in k.1 roles (contract program (redex b.term)) (same_roles roles) (contract_sealed program sealed (Suits (known_in checked.plain program)) judges me roles s.target (redex b.term) (whole-redex b.term) s.fits k.0)
    by (inr k) = absurd (make_not_local k.0 b k.1 l)

  steps_sealed : {b c : BodyView} → LocalSteps program b c → IsOfProgram b.term → Sealed me roles b.term no_roles → Sealed me roles c.term no_roles
  steps_sealed here f h = h
  steps_sealed {b} {c} (after l s) f h = steps_sealed s (stepped program (Suits (known_in checked.plain program)) judges b.term f) (step_sealed b l f h)

  pub rest_sealed : (b c : BodyView) → Rest program b c → IsOfProgram b.term → Sealed me roles b.term no_roles → Sealed me roles c.term no_roles
  rest_sealed b c r f h = steps_sealed r.reached f h

-- what is made for the role
abbrev pub IsMadeFor : Hidden → WhatView → Type 0
IsMadeFor (jobs w) what = (n : ℕ) × (what ≡ fixed (suc n))
IsMadeFor (replies w) what = (n : ℕ) × (what ≡ fixed (suc n))
IsMadeFor (reply w v) what = ⊥
IsMadeFor acks what = what ≡ unbuffered

abbrev pub IsMadeAs : ℕ → WhatView → Role → Type 0
IsMadeAs me what public = Unit {0}
IsMadeAs me what (hidden t x) = (t ≡ me) × IsMadeFor x what

made_same : (r : Result WhatView Fault) (what what2 : WhatView) → r ≡ Ok what → r ≡ Ok what2 → what ≡ what2
made_same r what what2 e f = cc

made_fixed : (v : Tree) (what : WhatView) → buffered fixed v ≡ Ok what → (n : ℕ) × (what ≡ fixed (suc n))
made_fixed (int (pos n)) what e = by n e where
  in_range : (b : Bool) (n : ℕ) → cond b (Ok (fixed (suc n))) (Err Fault.OutOfRange) ≡ Ok what → (n : ℕ) × (what ≡ fixed (suc n))
  in_range true n e = (n, made_same (Ok (fixed (suc n))) what (fixed (suc n)) e refl)
  in_range false n e = absurd (let k : Err Fault.OutOfRange ≡ Ok what = e in cc)

  by : (n : ℕ) → buffered fixed (int (pos n)) ≡ Ok what → (n : ℕ) × (what ≡ fixed (suc n))
  by zero e = absurd (let k : Err Fault.OutOfRange ≡ Ok what = e in cc)
  by (suc n) e = in_range (nat_le 1 (suc n) && nat_le (suc n) 4096) n e
made_fixed (int (negsuc n)) what e = absurd (let k : Err Fault.OutOfRange ≡ Ok what = e in cc)
made_fixed nil what e = absurd (let k : Err Fault.WrongKind ≡ Ok what = e in cc)
made_fixed (bool b) what e = absurd (let k : Err Fault.WrongKind ≡ Ok what = e in cc)
made_fixed (text s) what e = absurd (let k : Err Fault.WrongKind ≡ Ok what = e in cc)
made_fixed (key s) what e = absurd (let k : Err Fault.WrongKind ≡ Ok what = e in cc)
made_fixed (vector vs) what e = absurd (let k : Err Fault.WrongKind ≡ Ok what = e in cc)
made_fixed (map ps) what e = absurd (let k : Err Fault.WrongKind ≡ Ok what = e in cc)
made_fixed (port n) what e = absurd (let k : Err Fault.WrongKind ≡ Ok what = e in cc)

made_as : (x : Hidden) (kind : MakeKind) (vs : Trees) (what : WhatView) → HasHiddenBuffer x kind → made_of kind vs ≡ Ok what → IsMadeFor x what
made_as (jobs w) kind vs what h e = made_fixed (first_of vs) what (ap (λ k. made_of k vs) (sym h) ∙ e)
made_as (replies w) kind vs what h e = made_fixed (first_of vs) what (ap (λ k. made_of k vs) (sym h) ∙ e)
made_as (reply w v) kind vs what h e = h
made_as acks kind vs what h e = made_same (Ok unbuffered) what unbuffered (ap (λ k. made_of k vs) (sym h) ∙ e) refl

make_form : (x : Hidden) (r : Kernel) (op : OpView) → IsMake x r → Form r op → (what : WhatView) × (op ≡ making what) × IsMadeFor x what
make_form x r op m f = by m.0 m.1 m.2 op m.4 (subst (λ (k : Kernel). Form k op) m.3 f) where
  by : (kind : MakeKind) (ts : Kernels) (p : Place) (op : OpView) → HasHiddenBuffer x kind → Form (apply (Make kind) ts p) op → (what : WhatView) × (op ≡ making what) × IsMadeFor x what
  by kind ts p op holds (makes what e) = (what, refl, made_as x kind (values_of ts) what holds e)

-- the role that the new port of a Make gets: with it, the body is sealed again
pub make_role : (me : ℕ) (roles : Roles) (b : BodyView) (what : WhatView) (place : Place) → at b ≡ at_op (record { op = making what; place = place }) → Sealed me roles b.term no_roles → (r : Role) × IsMadeAs me what r × ((more : Roles) (p : ℕ) → Grows roles more → more p ≡ Some r → Sealed me more (fill (port p) b).term no_roles)
make_role me roles b what place at h = by (hole me roles b.term h) where
  form : Form (redex b.term) (making what)
  form = body_form b (record { op = making what; place = place }) at

  same_what : (a c : WhatView) → making a ≡ making c → c ≡ a
  same_what a c e = cc

  by : Hole me roles (redex b.term) (λ more u. Sealed me more (replace u b.term) no_roles) → (r : Role) × IsMadeAs me what r × ((more : Roles) (p : ℕ) → Grows roles more → more p ≡ Some r → Sealed me more (replace (const (port p)) b.term) no_roles)
  by (inl k) = (public, tt, λ more p g e. k.1 more (const (port p)) g e)
  by (inr k) = let m = make_form k.0 (redex b.term) (making what) k.1 form in (hidden me k.0, (refl, subst (IsMadeFor k.0) (same_what what m.0 m.1) m.2), λ more p g e. k.3 more p g e)

-- another operation gets a public answer
pub fill_sealed : (me : ℕ) (roles more : Roles) (b : BodyView) (v : Tree) (op : OpView) (place : Place) → at b ≡ at_op (record { op = op; place = place }) → ((what : WhatView) → op ≡ making what → ⊥) → Grows roles more → Sealed me roles b.term no_roles → IsPublic more v → Sealed me more (fill v b).term no_roles
fill_sealed me roles more b v op place at other g h p = by (hole me roles b.term h) where
  by : Hole me roles (redex b.term) (λ more u. Sealed me more (replace u b.term) no_roles) → Sealed me more (replace (const v) b.term) no_roles
  by (inl k) = k.1 more (const v) g p
  by (inr k) = let m = make_form k.0 (redex b.term) op k.1 (body_form b (record { op = op; place = place }) at) in absurd (other m.0 m.1)
