-- What a sealed script asks for: of hidden ports nothing but the tasks that they are for, and what these begin with.
use Rattle.std.proofs.Common.{◌≡◌, ℕ, ◌≤◌, [], ◌∷◌, ◌++◌, length, refl, subst, arith, Bool, true, false, cond, ◌&&◌, nat_le, Option, Some, None}
use Rattle.std.specs.Prelude.{Result, Ok, Err, zero, suc, pos, negsuc}
use Rattle.ca_value.specs.Tree.{Tree, Trees, nil, bool, int, text, key, vector, map as map_of, port, none as no_trees, item as tree}
use Rattle.ca_term.specs.declared.place.Place.{Place}
use Rattle.ca_term.specs.declared.fault.Fault.{Fault}
use Rattle.ca_term.specs.declared.head.Head.TheVariants.{Take, Put, Alts, Make, Spawn, Close, Register, Post}
use Rattle.ca_term.specs.declared.head.SeedKind.{SeedKind}
use Rattle.ca_term.specs.declared.head.SystemTask.{SystemTask}
use Rattle.ca_term.specs.declared.head.AltsOptions.{AltsOptions}
use Rattle.ca_term.specs.declared.head.MakeKind.{MakeKind}
use Rattle.ca_term.specs.Kernel.{Kernel, Kernels, apply, none, item}
use Rattle.ca_term.specs.Operation.{OpView, spawning, WhatView, unbuffered, fixed, dropping, sliding, promise, timeout}
use Rattle.ca_term.specs.Fits.{Known, count_terms, SuitsSystem, Suits, Fits}
use Rattle.ca_term.specs.Program.{ProgramView, IsProgram, known_in}
use Rattle.ca_meaning.specs.Asking.{alts_ports, priority_in, default_in, ranged, sized, made_of, not_a_port, bad_collection, bad_operands, seed_of}
use Rattle.ca_meaning.specs.Operands.{port_of_value, first_of, second_of, last_of, without_last, values_in}
use Rattle.ca_meaning.specs.Redex.{redex, values_of}
use Rattle.ca_meaning.specs.Started.{procedure_at}
use Rattle.ca_meaning.specs.Body.{BodyView, at_op, at}
use Rattle.ca_meaning.specs.IsBody.{IsBodyBy}
use Rattle.ca_meaning.specs.State.{State}
use Rattle.ca_meaning.specs.System.{new_system}
use Rattle.ca_meaning.specs.Task.{script, new_task}
use Rattle.ca_meaning.specs.TaskSteps.{result_of_system}
use Rattle.ca_meaning.specs.Refusal.{unfit, too_many, refusal, unmet, needs_of_system}
use Rattle.ca_meaning.proofs.Waits.{each-append}
use Rattle.ca_meaning.proofs.Refusals.{or_none}
use Rattle.ca_meaning.proofs.RedexFits.{seat}
use Rattle.ca_meaning.proofs.Bodies.{taken}
use Rattle.ca_roles.specs.Roles.{Roles, no_roles, IsPublic, ArePublic}
use Rattle.ca_roles.specs.Sealed.{Sealed, IsSealed}
use Rattle.ca_roles.specs.Typed.{IsPublicPort, TypedSystem, TypedBody, IsTypedResult, IsPublicOption, IsPublicWhat, MayAsk}
use Rattle.ca_roles.proofs.Starting.{values_public, started_sealed, procedure_sealed}
use Rattle.ca_roles.proofs.Contracting.{operands_public}
use Rattle.ca_roles.proofs.Forms.{Form, takes, puts, posts, chooses, makes, spawns, closes, registers, prints, body_form}
use Rattle.ca_roles.proofs.Ports.{first_public, second_public, third_public, ports_in_public, takes_public, puts_public, posts_public, chooses_public, closes_public}
use Rattle.ca_roles.proofs.Rested.{redex_sealed}

module _ (roles : Roles) where
  pub last_public : (vs : Trees) → ArePublic roles vs → IsPublic roles (last_of vs)
  last_public no_trees h = tt
  last_public (tree v no_trees) h = h.0
  last_public (tree v (tree w ws)) h = last_public (tree w ws) h.1

  pub front_public : (vs : Trees) → ArePublic roles vs → ArePublic roles (without_last vs)
  front_public no_trees h = tt
  front_public (tree v no_trees) h = tt
  front_public (tree v (tree w ws)) h = (h.0, front_public (tree w ws) h.1)

  default_public : (o : AltsOptions) (vs : Trees) → ArePublic roles vs → IsPublicOption roles (default_in o vs)
  default_public AltsOptions.None vs h = tt
  default_public AltsOptions.Priority vs h = tt
  default_public AltsOptions.Default vs h = second_public roles vs h
  default_public AltsOptions.PriorityThenDefault vs h = third_public roles vs h
  default_public AltsOptions.DefaultThenPriority vs h = second_public roles vs h

  -- what is made of a number names no port
  abbrev Numbered : (ℕ → WhatView) → Type 0
  Numbered make = (n : ℕ) → IsPublicWhat roles (make n)

  same_what : (r : Result WhatView Fault) (a b : WhatView) → r ≡ Ok a → r ≡ Ok b → IsPublicWhat roles a → IsPublicWhat roles b
  same_what r a b e f h = subst (IsPublicWhat roles) (let k : a ≡ b = cc in k) h

  ranged_public : (low high : ℕ) (make : ℕ → WhatView) (v : Tree) (what : WhatView) → Numbered make → ranged low high make v ≡ Ok what → IsPublicWhat roles what
  ranged_public low high make (int (pos n)) what h e = by (nat_le low n && nat_le n high) e where
    by : (b : Bool) → cond b (Ok (make n)) (Err Fault.OutOfRange) ≡ Ok what → IsPublicWhat roles what
    by true e = same_what (Ok (make n)) (make n) what refl e (h n)
    by false e = absurd (let k : Err Fault.OutOfRange ≡ Ok what = e in cc)
  ranged_public low high make (int (negsuc n)) what h e = absurd (let k : Err Fault.OutOfRange ≡ Ok what = e in cc)
  ranged_public low high make nil what h e = absurd (let k : Err Fault.WrongKind ≡ Ok what = e in cc)
  ranged_public low high make (bool b) what h e = absurd (let k : Err Fault.WrongKind ≡ Ok what = e in cc)
  ranged_public low high make (text s) what h e = absurd (let k : Err Fault.WrongKind ≡ Ok what = e in cc)
  ranged_public low high make (key s) what h e = absurd (let k : Err Fault.WrongKind ≡ Ok what = e in cc)
  ranged_public low high make (vector vs) what h e = absurd (let k : Err Fault.WrongKind ≡ Ok what = e in cc)
  ranged_public low high make (map_of ps) what h e = absurd (let k : Err Fault.WrongKind ≡ Ok what = e in cc)
  ranged_public low high make (port n) what h e = absurd (let k : Err Fault.WrongKind ≡ Ok what = e in cc)

  sized_public : (v : Tree) (what : WhatView) → sized v ≡ Ok what → IsPublicWhat roles what
  sized_public nil what e = same_what (Ok unbuffered) unbuffered what refl e tt
  sized_public (int (pos zero)) what e = same_what (Ok unbuffered) unbuffered what refl e tt
  sized_public (int (pos (suc n))) what e = ranged_public 1 4096 fixed (int (pos (suc n))) what (λ k. tt) e
  sized_public (int (negsuc n)) what e = ranged_public 1 4096 fixed (int (negsuc n)) what (λ k. tt) e
  sized_public (bool b) what e = ranged_public 1 4096 fixed (bool b) what (λ k. tt) e
  sized_public (text s) what e = ranged_public 1 4096 fixed (text s) what (λ k. tt) e
  sized_public (key s) what e = ranged_public 1 4096 fixed (key s) what (λ k. tt) e
  sized_public (vector vs) what e = ranged_public 1 4096 fixed (vector vs) what (λ k. tt) e
  sized_public (map_of ps) what e = ranged_public 1 4096 fixed (map_of ps) what (λ k. tt) e
  sized_public (port n) what e = ranged_public 1 4096 fixed (port n) what (λ k. tt) e

  made_public : (kind : MakeKind) (vs : Trees) (what : WhatView) → ArePublic roles vs → made_of kind vs ≡ Ok what → IsPublicWhat roles what
  made_public MakeKind.Unbuffered vs what h e = same_what (Ok unbuffered) unbuffered what refl e tt
  made_public MakeKind.Sized vs what h e = sized_public (first_of vs) what e
  made_public MakeKind.Fixed vs what h e = ranged_public 1 4096 fixed (first_of vs) what (λ n. tt) e
  made_public MakeKind.Dropping vs what h e = ranged_public 1 4096 dropping (first_of vs) what (λ n. tt) e
  made_public MakeKind.Sliding vs what h e = ranged_public 1 4096 sliding (first_of vs) what (λ n. tt) e
  made_public MakeKind.Promise vs what h e = same_what (Ok promise) promise what refl e tt
  made_public MakeKind.Timeout vs what h e = ranged_public 0 86_400_000 timeout (first_of vs) what (λ n. tt) e
  made_public MakeKind.Mult vs what h e = same_what (Ok (WhatView.mult (first_of vs))) (WhatView.mult (first_of vs)) what refl e (first_public roles vs h)
  made_public MakeKind.Mix vs what h e = same_what (Ok (WhatView.mix (first_of vs) (second_of vs))) (WhatView.mix (first_of vs) (second_of vs)) what refl e (first_public roles vs h, second_public roles vs h)
  made_public MakeKind.Pub vs what h e = same_what (Ok (WhatView.publication (first_of vs))) (WhatView.publication (first_of vs)) what refl e (first_public roles vs h)

-- a go block's last operand is its result port
a_result : (v : Tree) → not_a_port v ≡ None → v ≡ port (port_of_value v)
a_result (port n) e = refl
a_result nil e = absurd (let k : Some Fault.WrongKind ≡ None = e in cc)
a_result (bool b) e = absurd (let k : Some Fault.WrongKind ≡ None = e in cc)
a_result (int z) e = absurd (let k : Some Fault.WrongKind ≡ None = e in cc)
a_result (text s) e = absurd (let k : Some Fault.WrongKind ≡ None = e in cc)
a_result (key s) e = absurd (let k : Some Fault.WrongKind ≡ None = e in cc)
a_result (vector vs) e = absurd (let k : Some Fault.WrongKind ≡ None = e in cc)
a_result (map_of ps) e = absurd (let k : Some Fault.WrongKind ≡ None = e in cc)

-- with its port a go block has enough values
pub enough_values : (ts : Kernels) (result : ℕ) → count_terms ts ≤ length (values_in (without_last (values_of ts)) ++ port result ∷ [])
enough_values none result = omega arith
enough_values (item t none) result = omega arith
enough_values (item t (item u us)) result = let k = enough_values (item u us) result in omega (arith, k)

module _ (program : ProgramView) (checked : IsProgram program) (sealed : IsSealed program) (me : ℕ) (roles : Roles) where
  -- the task of a go block: whatever its number, it is sealed
  pub go_sealed : (target : Option ℕ) (n : ℕ) (ts : Kernels) (p : Place) → Suits (known_in checked.plain program) target (Spawn (SeedKind.Go n)) (count_terms ts) → not_a_port (last_of (values_of ts)) ≡ None → Sealed me roles (apply (Spawn (SeedKind.Go n)) ts p) no_roles
      → ((u : ℕ) → TypedBody program u roles (new_task program (seed_of (SeedKind.Go n) (values_of ts) p))) × IsPublicPort roles (port_of_value (last_of (values_of ts)))
  go_sealed target n ts p f e h =
      let vs = values_of ts in
      let a = operands_public me roles (Spawn (SeedKind.Go n)) ts p refl h in
      let result : IsPublicPort roles (port_of_value (last_of vs)) = subst (IsPublic roles) (a_result (last_of vs) e) (last_public roles vs a) in
      let text = taken (known_in checked.plain program) program.bodies n (count_terms ts) checked.bodies_fit f in
      let arity : length (procedure_at program.bodies n).parameters ≡ count_terms ts = text.1 in
      let many = enough_values ts (port_of_value (last_of vs)) in
      let given = values_in (without_last vs) ++ port (port_of_value (last_of vs)) ∷ [] in
      (λ u. started_sealed u roles (procedure_at program.bodies n) given (omega (arith, many, arity)) (each-append (IsPublic roles) (values_in (without_last vs)) (port (port_of_value (last_of vs)) ∷ []) (values_public roles (without_last vs) (front_public roles vs a)) (result, tt)) (procedure_sealed program.bodies n sealed.bodies), result)

-- What a system task of this kind, spawned over these operands, begins with.
abbrev pub SystemSeeds : ProgramView → Known → ℕ → Roles → State → Type 0
SystemSeeds program known me roles s =
    (kind : SystemTask) (ts : Kernels) (p : Place) → Sealed me roles (apply (Spawn (SeedKind.System kind)) ts p) no_roles → SuitsSystem known kind → bad_collection kind (values_of ts) ≡ None → unmet s (needs_of_system kind) (values_of ts) ≡ None
    → TypedSystem program roles (new_system kind (values_of ts) p) × IsTypedResult roles (result_of_system kind (values_of ts))

module _ (program : ProgramView) (checked : IsProgram program) (sealed : IsSealed program) (me : ℕ) (roles : Roles) (s : State) (seeds : SystemSeeds program (known_in checked.plain program) me roles s) (body : BodyView) where
  abbrev Asks : OpView → Type 0
  Asks op = unfit s op ≡ None → MayAsk program roles (script body) op

  spawn_asks : (target : Option ℕ) (kind : SeedKind) (ts : Kernels) (p : Place) → bad_operands kind (values_of ts) ≡ None → Sealed me roles (apply (Spawn kind) ts p) no_roles → Fits (Suits (known_in checked.plain program)) target (apply (Spawn kind) ts p) → Asks (spawning (seed_of kind (values_of ts) p))
  spawn_asks target (SeedKind.Go n) ts p e h f u = go_sealed program checked sealed me roles target n ts p f.0 e h
  spawn_asks target (SeedKind.System kind) ts p e h f u = let k = seeds kind ts p h f.0 e u in (λ t. k.0, k.1)

  asks : (target : Option ℕ) (r : Kernel) (op : OpView) → Form r op → Sealed me roles r no_roles → Fits (Suits (known_in checked.plain program)) target r → Asks op
  asks target r op (takes {ts} {p}) h f u = takes_public roles s program (script body) (first_of (values_of ts)) (first_public roles (values_of ts) (operands_public me roles Take ts p refl h)) u
  asks target r op (puts {ts} {p}) h f u =
      let a = operands_public me roles Put ts p refl h in
      puts_public roles s program (script body) (first_of (values_of ts)) (second_of (values_of ts)) (first_public roles (values_of ts) a) (second_public roles (values_of ts) a) u
  asks target r op (posts {ts} {p}) h f u =
      let a = operands_public me roles Post ts p refl h in
      posts_public roles s program (script body) (first_of (values_of ts)) (second_of (values_of ts)) (first_public roles (values_of ts) a) (second_public roles (values_of ts) a) u
  asks target r op (chooses {o} {ts} {p}) h f u =
      let vs = values_of ts in
      let a = operands_public me roles (Alts o) ts p refl h in
      chooses_public roles s program (script body) (alts_ports (first_of vs)) (priority_in o vs) (default_in o vs) (ports_in_public roles (first_of vs) (first_public roles vs a)) (default_public roles o vs a) u
  asks target r op (makes {kind} {ts} {p} what e) h f u = made_public roles kind (values_of ts) what (operands_public me roles (Make kind) ts p refl h) e
  asks target r op (spawns {kind} {ts} {p} e) h f u = spawn_asks target kind ts p e h f u
  asks target r op (closes {ts} {p}) h f u = closes_public roles s program (script body) (first_of (values_of ts)) (first_public roles (values_of ts) (operands_public me roles Close ts p refl h)) u
  asks target r op (registers {name} {ts} {p} e) h f u = operands_public me roles (Register name) ts p refl h
  asks target r op (prints {ts} {p}) h f u = tt

  -- a script's body in a checked program
  pub script_asks : (op : OpView) (place : Place) → Sealed me roles body.term no_roles → IsBodyBy (Suits (known_in checked.plain program)) body.term → at body ≡ at_op (record { op = op; place = place }) → refusal s op ≡ None → MayAsk program roles (script body) op
  script_asks op place h f e r =
      let b = seat (Suits (known_in checked.plain program)) None body.term f.fits in
      asks b.target (redex body.term) op (body_form body (record { op = op; place = place }) e) (redex_sealed me roles body.term h) b.fits (or_none (unfit s op) (too_many s op) r).0
