-- How a script goes on after an answer: what its text can start by then.
use Rattle.std.proofs.Common.{◌≡◌, ℕ, ◌+◌, ◌≤◌, refl, sym, ap, ◌∙◌, arith, Bool, true, false, cond, eqb, eqb-true, eq-eqb, Option, Some, None}
use Rattle.std.proofs.lemmas.Map.{update_here, update_apart}
use Rattle.ca_value.specs.Tree.{Tree, port}
use Rattle.ca_term.specs.declared.place.Place.{Place}
use Rattle.ca_term.specs.Kernel.{Kernel, const}
use Rattle.ca_term.specs.Operation.{OpView, WhatView, making}
use Rattle.ca_term.specs.Fits.{Suits}
use Rattle.ca_term.specs.Program.{ProgramView, IsProgram, known_in}
use Rattle.ca_meaning.specs.Redex.{redex, replace}
use Rattle.ca_meaning.specs.Body.{BodyView, at_op, at, step, fill}
use Rattle.ca_meaning.specs.IsBody.{IsBodyBy}
use Rattle.ca_meaning.specs.Rest.{LocalSteps, here, after, Rest}
use Rattle.ca_meaning.proofs.Contracts.{Judges}
use Rattle.ca_meaning.proofs.Bodies.{stepped, filled, program_judges}
use Rattle.ca_roles.specs.Roles.{Hidden, Role, public, hidden, Roles, no_roles, known_as, Grows, IsPublic}
use Rattle.ca_roles.specs.Sealed.{Sealed, IsSealed}
use Rattle.ca_roles.specs.Once.{User, no_names, only, use_count, UsesOnce, StartsOnce}
use Rattle.ca_roles.proofs.Starting.{same_roles}
use Rattle.ca_roles.proofs.Rested.{step_sealed, rest_sealed, make_role, fill_sealed}
use Rattle.ca_roles.proofs.Unused.{no_names_hidden, unused}
use Rattle.ca_roles.proofs.PutPublic.{NonePublic, public_apart}
use Rattle.ca_roles.proofs.Replaced.{even}
use Rattle.ca_roles.proofs.Fewer.{step_count}
use Rattle.ca_roles.proofs.Onces.{replace_once, step_once}
use Rattle.ca_roles.proofs.NewPorts.{only_is}
use Rattle.ca_roles.proofs.Begun.{made_uses}
use Rattle.ca_meaning.specs.Task.{script}

pub same_script : (b c : BodyView) → script b ≡ script c → b ≡ c
same_script b c e = cc

-- how often the term can still start such a user of the port
abbrev pub count : User → ℕ → Kernel → ℕ
count k q t = use_count k (only q) t no_names

pub only_private : (q : ℕ) (roles : Roles) → (roles q ≡ Some public → ⊥) → NonePublic (only q) roles
only_private q roles private n e at = private (ap roles (sym (only_is q n e)) ∙ at)

-- a port without a role, or with a hidden one of another task
pub not_hidden : (k : User) (q me : ℕ) (roles : Roles) (t : Kernel) → ((h : Hidden) → roles q ≡ Some (hidden me h) → ⊥) → Sealed me roles t no_roles → count k q t ≡ 0
not_hidden k q me roles t other h = unused k me (only q) roles (λ n x e at. other x (ap roles (sym (only_is q n e)) ∙ at)) t no_names no_roles (no_names_hidden me no_roles) h

-- who can start a user of the port has made it
pub maker : (k : User) (q me : ℕ) (roles : Roles) (t : Kernel) → Sealed me roles t no_roles → 1 ≤ count k q t → (h : Hidden) × (roles q ≡ Some (hidden me h))
maker k q me roles t s l = by (roles q) refl where
  none_is : {G : Type 0} → count k q t ≡ 0 → G
  none_is e = absurd (omega (arith, l, e))

  by : (o : Option Role) → roles q ≡ o → (h : Hidden) × (roles q ≡ Some (hidden me h))
  by None e = none_is (not_hidden k q me roles t (λ h j. let i : None ≡ Some (hidden me h) = sym e ∙ j in cc) s)
  by (Some public) e = none_is (not_hidden k q me roles t (λ h j. let i : Some public ≡ Some (hidden me h) = sym e ∙ j in cc) s)
  by (Some (hidden u x)) e = at (eqb u me) refl where
    at : (b : Bool) → eqb u me ≡ b → (h : Hidden) × (roles q ≡ Some (hidden me h))
    at true i = (x, e ∙ ap (λ z. Some (hidden z x)) (eqb-true u me i))
    at false i = none_is (not_hidden k q me roles t (λ h j. let g : Some (hidden u x) ≡ Some (hidden me h) = sym e ∙ j in let f : u ≡ me = cc in let a : true ≡ false = sym (eq-eqb u me f) ∙ i in cc) s)

module _ (program : ProgramView) (checked : IsProgram program) (sealed : IsSealed program) (starts : StartsOnce program) (me : ℕ) where
  abbrev pub IsOfProgram : Kernel → Type 0
  IsOfProgram t = IsBodyBy (Suits (known_in checked.plain program)) t

  judges : Judges program (Suits (known_in checked.plain program))
  judges = program_judges program checked.plain checked.functions_fit

  next : (b : BodyView) → IsOfProgram b.term → IsOfProgram (step program b).term
  next b f = stepped program (Suits (known_in checked.plain program)) judges b.term f

  after_fill : (b : BodyView) (v : Tree) → IsOfProgram b.term → IsOfProgram (fill v b).term
  after_fill b v f = filled (Suits (known_in checked.plain program)) v b.term f

  pub steps_once : (roles : Roles) {b c : BodyView} → LocalSteps program b c → IsOfProgram b.term → Sealed me roles b.term no_roles → UsesOnce b.term → UsesOnce c.term
  steps_once roles here f h o = o
  steps_once roles {b} {c} (after l s) f h o = steps_once roles s (next b f) (step_sealed program checked sealed me roles b l f h) (step_once program sealed starts me roles b h o)

  through : (a b c : ℕ) → a ≤ b → b ≤ c → a ≤ c
  through a b c l m = omega (arith, l, m)

  stays : (a : ℕ) → a ≤ a
  stays a = omega arith

  steps_count : (roles : Roles) (k : User) (q : ℕ) → (roles q ≡ Some public → ⊥) → {b c : BodyView} → LocalSteps program b c → IsOfProgram b.term → Sealed me roles b.term no_roles → count k q b.term ≤ 1 → count k q c.term ≤ count k q b.term
  steps_count roles k q private {b} here f h l = stays (count k q b.term)
  steps_count roles k q private {b} {c} (after e s) f h l =
      let one = step_count program sealed k me (only q) roles (only_private q roles private) b h l in
      through (count k q c.term) (count k q (step program b).term) (count k q b.term)
      (steps_count roles k q private s (next b f) (step_sealed program checked sealed me roles b e f h) (through (count k q (step program b).term) (count k q b.term) 1 one l)) one

  module _ (roles : Roles) (b c : BodyView) (f : IsOfProgram b.term) (h : Sealed me roles b.term no_roles) (o : UsesOnce b.term) where
    -- a public answer, which is no new port
    module _ (v : Tree) (op : OpView) (place : Place) (stands : at b ≡ at_op (record { op = op; place = place })) (other : (what : WhatView) → op ≡ making what → ⊥) (answer : IsPublic roles v) (rest : Rest program (fill v b) c) where
      whole : Sealed me roles (fill v b).term no_roles
      whole = fill_sealed me roles roles b v op place stands other (same_roles roles) h answer

      pub answered_once : UsesOnce c.term
      answered_once = steps_once roles rest.reached (after_fill b v f) whole (replace_once (const v) tt b.term o)

      -- what the operation starts is started
      pub answered_count : (k : User) (q : ℕ) → (roles q ≡ Some public → ⊥) → count k q b.term ≤ 1 → count k q c.term + count k q (redex b.term) ≤ count k q b.term
      answered_count k q private l =
          let e = even k me (only q) roles (const v) (public_apart (only q) roles (only_private q roles private) v answer) b.term h in
          all (count k q (replace (const v) b.term)) (count k q (redex b.term)) (count k q b.term) (count k q c.term) e
          (steps_count roles k q private rest.reached (after_fill b v f) whole (less (count k q (replace (const v) b.term)) (count k q (redex b.term)) (count k q b.term) e l)) where
            less : (x r t : ℕ) → x + r ≡ t + 0 → t ≤ 1 → x ≤ 1
            less x r t e l = omega (arith, e, l)

            all : (x r t y : ℕ) → x + r ≡ t + 0 → y ≤ x → y + r ≤ t
            all x r t y e l = omega (arith, e, l)

    -- a new port
    module _ (p : ℕ) (what : WhatView) (place : Place) (stands : at b ≡ at_op (record { op = making what; place = place })) (new : roles p ≡ None) (rest : Rest program (fill (port p) b) c) where
      as_made : (r : Role) → Grows roles (known_as roles p r)
      as_made r n s e = by (eqb n p) refl where
        by : (i : Bool) → eqb n p ≡ i → known_as roles p r n ≡ Some s
        by true np = absurd (let j : None ≡ Some s = sym new ∙ ap roles (sym (eqb-true n p np)) ∙ e in cc)
        by false np = update_apart roles p (Some r) n (λ j. let i : true ≡ false = sym (eq-eqb n p j) ∙ np in cc) ∙ e

      abbrev role : Role
      role = (make_role me roles b what place stands h).0

      abbrev more : Roles
      more = known_as roles p role

      has_role : more p ≡ Some role
      has_role = update_here roles p (Some role)

      made_whole : Sealed me more (fill (port p) b).term no_roles
      made_whole = (make_role me roles b what place stands h).2 more p (as_made role) has_role

      pub made_once : UsesOnce c.term
      made_once = steps_once more rest.reached (after_fill b (port p) f) made_whole (replace_once (const (port p)) tt b.term o)

      -- with another port it starts no more than before
      pub made_count : (k : User) (q : ℕ) → (roles q ≡ Some public → ⊥) → (q ≡ p → ⊥) → count k q b.term ≤ 1 → count k q c.term ≤ count k q b.term
      made_count k q private ne l =
          let not_port : cond (eqb p q) true false ≡ false = by (eqb p q) refl in
          let e = even k me (only q) roles (const (port p)) not_port b.term h in
          let le = less (count k q (replace (const (port p)) b.term)) (count k q (redex b.term)) (count k q b.term) e in
          through (count k q c.term) (count k q (replace (const (port p)) b.term)) (count k q b.term)
          (steps_count more k q (λ j. private (sym (update_apart roles p (Some role) q ne) ∙ j)) rest.reached (after_fill b (port p) f) made_whole (through (count k q (replace (const (port p)) b.term)) (count k q b.term) 1 le l)) le where
            by : (i : Bool) → eqb p q ≡ i → cond (eqb p q) true false ≡ false
            by true i = absurd (ne (sym (eqb-true p q i)))
            by false i = ap (λ j. cond j true false) i

            less : (x r t : ℕ) → x + r ≡ t + 0 → x ≤ t
            less x r t e = omega (arith, e)

      -- and with the new one each user once
      pub made_new : (k : User) → count k p c.term ≤ 1
      made_new k = by role refl where
        none_or_one : (a : ℕ) → a ≡ 0 → a ≤ 1
        none_or_one a e = omega (arith, e)

        by : (r : Role) → role ≡ r → count k p c.term ≤ 1
        by public e =
            let at : more p ≡ Some public = has_role ∙ ap (λ r. Some r) e in
            none_or_one (count k p c.term) (not_hidden k p me more c.term (λ x j. let i : Some public ≡ Some (hidden me x) = sym at ∙ j in cc) (rest_sealed program checked sealed me more (fill (port p) b) c rest (after_fill b (port p) f) made_whole))
        by (hidden u x) e =
            let at : more p ≡ Some (hidden u x) = has_role ∙ ap (λ r. Some r) e in
            let one = made_uses k me p roles new b.term h o in
            through (count k p c.term) (count k p (replace (const (port p)) b.term)) 1 (steps_count more k p (λ j. let i : Some (hidden u x) ≡ Some public = sym at ∙ j in cc) rest.reached (after_fill b (port p) f) made_whole one) one
