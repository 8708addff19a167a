-- What a task of a program starts, the program has.
use Rattle.std.proofs.Common.{◌≡◌, ℕ, zero, suc, ◌<◌, List, [], ◌∷◌, length, map, refl, sym, ap, ◌∙◌, subst, arith, Bool, true, false, cond, nat_le, Option, Some, None, Result, Ok, Err}
use Rattle.ca_value.specs.Tree.{Trees, text as line_text}
use Rattle.ca_term.specs.declared.place.Place.{Place}
use Rattle.ca_term.specs.declared.fault.Fault.{Fault}
use Rattle.ca_term.specs.declared.fault.Fault.TheVariants.{WrongKind}
use Rattle.ca_term.specs.declared.head.Head.TheVariants.{Recur, Builtin, Call, Take, Put, Alts, Make, Spawn, Close, Register, Print, Post}
use Rattle.ca_term.specs.declared.head.SeedKind.{SeedKind}
use Rattle.ca_term.specs.declared.head.SystemTask.{SystemTask}
use Rattle.ca_term.specs.Kernel.{Kernel, Kernels, const, var, branch, bind, loop, seq, frame, turn, apply, none as no_terms, item as term}
use Rattle.ca_term.specs.Operation.{OpView, WantView, WhatView, taking, putting, making, SeedView, system, spawning, closing, registering, printing, posting}
use Rattle.ca_term.specs.Fits.{Known, count_terms, Takes, Suits, SuitsSystem, Fits}
use Rattle.ca_term.specs.Program.{ProgramView, ProcedureView, arity, known_in}
use Rattle.ca_term.specs.View.{kernel}
use Rattle.ca_meaning.specs.declared.body.FaultAt.{FaultAt}
use Rattle.ca_meaning.specs.Redex.{redex, values_of}
use Rattle.ca_meaning.specs.Operands.{first_of, last_of, second_of, values_in, without_last}
use Rattle.ca_meaning.specs.Asking.{too_large, bad_alts, alts_of, made_of, bad_operands, not_a_port, seed_of, bad_arguments}
use Rattle.ca_meaning.specs.Body.{At, local, at_op, faulted, line_of, asking, asking_to_make, at_or, standing, standing_turn}
use Rattle.ca_meaning.specs.Going.{IsAtOp}
use Rattle.ca_meaning.specs.Started.{procedure_at}
use Rattle.ca_meaning.proofs.RedexFits.{seat}
use Rattle.ca_scene.specs.declared.task.TaskBody.{TaskBody}
use Rattle.ca_scene.specs.Scene.{task_body}
use Rattle.ca_system_tasks.specs.Tables.{table_body}
use Rattle.ca_replay.specs.SceneOf.{IsKnown}
use Rattle.ca_replay.specs.Seeds.{IsSeedOf}
use Rattle.ca_replay.proofs.Calm.{system_seed}

-- an operation that is asked for is the form's own
asked : (p : Place) (f : Option Fault) (op : OpView) (w : WantView) → asking p f op ≡ at_op w → op ≡ w.op
asked p None op w e = cc
asked p (Some f) op w e = cc

unfaulted : (p : Place) (f : Option Fault) (op : OpView) (w : WantView) → asking p f op ≡ at_op w → f ≡ None
unfaulted p None op w e = refl
unfaulted p (Some f) op w e = cc

asked_to_make : (p : Place) (r : Result WhatView Fault) (w : WantView) → asking_to_make p r ≡ at_op w → (what : WhatView) × (making what ≡ w.op)
asked_to_make p (Ok what) w e = (what, cc)
asked_to_make p (Err f) w e = cc

either : {P : Type 0} (b : Bool) (f : Fault) (p : Place) (a : At) (w : WantView) → (a ≡ at_op w → P) → cond b (faulted f p) a ≡ at_op w → P
either true f p a w k e = cc
either false f p a w k e = k e

no_turn : {P : Type 0} (turns : ℕ) (now : Kernel) (w : WantView) → standing_turn turns now ≡ at_op w → P
no_turn {P} turns (apply Recur ts p) w e = either {P = P} (nat_le 999_999 turns) Fault.Spun p local w (λ k. cc) e
no_turn turns (const v) w e = cc
no_turn turns (var n) w e = cc
no_turn turns (branch c a b) w e = cc
no_turn turns (bind bs body) w e = cc
no_turn turns (loop fs bs body) w e = cc
no_turn turns (seq ts) w e = cc
no_turn turns (frame body) w e = cc
no_turn turns (turn ns t now) w e = cc
no_turn turns (apply (Builtin b) ts p) w e = cc
no_turn turns (apply (Call n) ts p) w e = cc
no_turn turns (apply Take ts p) w e = cc
no_turn turns (apply Put ts p) w e = cc
no_turn turns (apply (Alts options) ts p) w e = cc
no_turn turns (apply (Make kind) ts p) w e = cc
no_turn turns (apply (Spawn kind) ts p) w e = cc
no_turn turns (apply Close ts p) w e = cc
no_turn turns (apply (Register name) ts p) w e = cc
no_turn turns (apply Print ts p) w e = cc
no_turn turns (apply Post ts p) w e = cc

-- the seed is that of a form that fits
record IsSpawn (known : Known) (seed : SeedView) : Type 0 where
  kind : SeedKind
  terms : Kernels
  place : Place
  fits : Suits known None (Spawn kind) (count_terms terms)
  clean : bad_operands kind (values_of terms) ≡ None
  is : seed_of kind (values_of terms) place ≡ seed

seed_is : (a b : SeedView) → spawning a ≡ spawning b → a ≡ b
seed_is a b e = cc

any_target : (known : Known) (target : Option ℕ) (kind : SeedKind) (k : ℕ) → Suits known target (Spawn kind) k → Suits known None (Spawn kind) k
any_target known target (SeedKind.Go n) k h = h
any_target known target (SeedKind.System task) k h = h

spawns : (known : Known) (target : Option ℕ) (turns depth : ℕ) (t : Kernel) (seed : SeedView) (p : Place) → Fits (Suits known) target t → standing turns depth t ≡ at_op (record { op = spawning seed; place = p }) → IsSpawn known seed
spawns known target turns depth (apply (Spawn kind) ts q) seed p f e =
    let w : WantView = record { op = spawning seed; place = p } in
    record {
      kind = kind;
      terms = ts;
      place = q;
      fits = any_target known target kind (count_terms ts) f.0;
      clean = unfaulted q (bad_operands kind (values_of ts)) (spawning (seed_of kind (values_of ts) q)) w e;
      is = seed_is (seed_of kind (values_of ts) q) seed (asked q (bad_operands kind (values_of ts)) (spawning (seed_of kind (values_of ts) q)) w e);
    }
spawns known target turns depth (const v) seed p f e = cc
spawns known target turns depth (var m) seed p f e = cc
spawns known target turns depth (branch c a b) seed p f e = cc
spawns known target turns depth (bind bs body) seed p f e = cc
spawns known target turns depth (loop fs bs body) seed p f e = cc
spawns known target turns depth (seq ts) seed p f e = cc
spawns known target turns depth (frame body) seed p f e = cc
spawns known target turns depth (turn ns t now) seed p f e = no_turn turns now (record { op = spawning seed; place = p }) e
spawns known target turns depth (apply Recur ts q) seed p f e = cc
spawns known target turns depth (apply (Builtin b) ts q) seed p f e = cc
spawns known target turns depth (apply (Call m) ts q) seed p f e =
    let w : WantView = record { op = spawning seed; place = p } in
    either (nat_le 999_999 turns) Fault.Spun q (cond (nat_le 256 depth) (faulted Fault.TooDeep q) local) w (either (nat_le 256 depth) Fault.TooDeep q local w (λ k. cc)) e
spawns known target turns depth (apply Take ts q) seed p f e = let k : taking (first_of (values_of ts)) ≡ spawning seed = asked q None (taking (first_of (values_of ts))) (record { op = spawning seed; place = p }) e in cc
spawns known target turns depth (apply Put ts q) seed p f e = let k : putting (first_of (values_of ts)) (second_of (values_of ts)) ≡ spawning seed = asked q (too_large (second_of (values_of ts))) (putting (first_of (values_of ts)) (second_of (values_of ts))) (record { op = spawning seed; place = p }) e in cc
spawns known target turns depth (apply (Alts options) ts q) seed p f e = let k : alts_of options (values_of ts) ≡ spawning seed = asked q (bad_alts options (values_of ts)) (alts_of options (values_of ts)) (record { op = spawning seed; place = p }) e in cc
spawns known target turns depth (apply (Make kind) ts q) seed p f e = let k = asked_to_make q (made_of kind (values_of ts)) (record { op = spawning seed; place = p }) e in let j : making k.0 ≡ spawning seed = k.1 in cc
spawns known target turns depth (apply Close ts q) seed p f e = let k : closing (first_of (values_of ts)) ≡ spawning seed = asked q None (closing (first_of (values_of ts))) (record { op = spawning seed; place = p }) e in cc
spawns known target turns depth (apply (Register name) ts q) seed p f e = let k : registering name (values_of ts) ≡ spawning seed = asked q (bad_arguments name (values_of ts)) (registering name (values_of ts)) (record { op = spawning seed; place = p }) e in cc
spawns known target turns depth (apply Print ts q) seed p f e = let k : printing (line_of (values_of ts)) ≡ spawning seed = asked q (too_large (line_text (line_of (values_of ts)))) (printing (line_of (values_of ts))) (record { op = spawning seed; place = p }) e in cc
spawns known target turns depth (apply Post ts q) seed p f e = let k : posting (first_of (values_of ts)) (second_of (values_of ts)) ≡ spawning seed = asked q (too_large (second_of (values_of ts))) (posting (first_of (values_of ts)) (second_of (values_of ts))) (record { op = spawning seed; place = p }) e in cc

no_fault_there : (f : Option FaultAt) (a : At) (w : WantView) → at_or f a ≡ at_op w → a ≡ at_op w
no_fault_there None a w e = e
no_fault_there (Some f) a w e = cc

takes_there : (ps : List ProcedureView) (n k : ℕ) → Takes (map arity ps) n k → (n < length ps) × (k ≡ arity (procedure_at ps n))
takes_there [] n k h = absurd h
takes_there (p ∷ ps) zero k h = (omega arith, sym h)
takes_there (p ∷ ps) (suc n) k h = let r = takes_there ps n k h in let l : n < length ps = r.0 in (omega (arith, l), r.1)

-- with its port a go block has its values
all_values : (ts : Kernels) → not_a_port (last_of (values_of ts)) ≡ None → suc (length (values_in (without_last (values_of ts)))) ≡ count_terms ts
all_values no_terms e = absurd (let k : Some WrongKind ≡ None = e in cc)
all_values (term t no_terms) e = refl
all_values (term t (term u us)) e = ap suc (all_values (term u us) e)

system_kind : (program : ProgramView) (plain : ℕ → Bool) (task : SystemTask) (values : Trees) (p : Place) → SuitsSystem (known_in plain program) task → IsSeedOf program (system task values p)
system_kind program plain SystemTask.Mult values p h = tt
system_kind program plain SystemTask.Deliver values p h = tt
system_kind program plain SystemTask.Mix values p h = tt
system_kind program plain (SystemTask.Pub f) values p h = (plain, h)
system_kind program plain SystemTask.Pipe values p h = tt
system_kind program plain SystemTask.Merge values p h = tt
system_kind program plain SystemTask.Onto values p h = tt
system_kind program plain SystemTask.Feed values p h = tt
system_kind program plain (SystemTask.Job x f) values p h = (plain, h)
system_kind program plain SystemTask.Collect values p h = tt

form_seed : (program : ProgramView) (plain : ℕ → Bool) (kind : SeedKind) (ts : Kernels) (p : Place) → Suits (known_in plain program) None (Spawn kind) (count_terms ts) → bad_operands kind (values_of ts) ≡ None → IsSeedOf program (seed_of kind (values_of ts) p)
form_seed program plain (SeedKind.Go n) ts p h e = let r = takes_there program.bodies n (count_terms ts) h in (r.0, all_values ts e ∙ r.1)
form_seed program plain (SeedKind.System task) ts p h e = system_kind program plain task (values_of ts) p h

-- what a task of the program starts is a seed of it
pub seed_known : (program : ProgramView) (b : TaskBody) (seed : SeedView) → IsKnown program b → IsAtOp (task_body b) (spawning seed) → IsSeedOf program seed
seed_known program (TaskBody.Script b) seed known at =
    let S = Suits (known_in known.plain program) in
    let t = kernel b.term in
    let s = seat S None t known.suits.fits in
    let want : WantView = record { op = spawning seed; place = at.0 } in
    let k = spawns (known_in known.plain program) s.target b.turns b.depth (redex t) seed at.0 s.fits (no_fault_there b.fault (standing b.turns b.depth (redex t)) want at.1) in
    subst (IsSeedOf program) k.is (form_seed program known.plain k.kind k.terms k.place k.fits k.clean)
seed_known program (TaskBody.System t) seed known at = system_seed program (table_body t) seed at.0 at.1
