-- Along every legal journal of a checked program each task of a script's text has a body of that program.
use Rattle.std.proofs.Common.{◌≡◌, ◌≢◌, ℕ, ◌≤◌, List, [], ◌∷◌, ◌++◌, length, sym, ap, ◌∙◌, subst, arith, Bool, true, false, cond, nat_le, Option, Some, None, Result, Ok, Err}
use Rattle.ca_value.specs.Tree.{Tree, Trees, port, text as line_text}
use Rattle.ca_term.specs.declared.place.Place.{Place}
use Rattle.ca_term.specs.declared.fault.Fault.{Fault}
use Rattle.ca_term.specs.declared.head.Head.{Head}
use Rattle.ca_term.specs.declared.head.Head.TheVariants.{Recur, Builtin, Call, Take, Put, Alts, Make, Spawn, Close, Register, Print, Post}
use Rattle.ca_term.specs.declared.head.SeedKind.{SeedKind}
use Rattle.ca_term.specs.Kernel.{Kernel, Kernels, const, var, branch, bind, loop, seq, frame, turn, apply, none as no_terms, item as term}
use Rattle.ca_term.specs.Operation.{OpView, WantView, WhatView, taking, putting, making, SeedView, go, system, spawning, closing, registering, printing, posting}
use Rattle.ca_term.specs.Fits.{Known, count_terms, Takes, Suits, Fits}
use Rattle.ca_term.specs.Program.{ProgramView, IsProgram, known_in}
use Rattle.ca_term.specs.Event.{EventView}
use Rattle.ca_meaning.specs.declared.body.FaultAt.{FaultAt}
use Rattle.ca_meaning.specs.Redex.{redex, values_of}
use Rattle.ca_meaning.specs.Operands.{values_in, without_last, first_of, second_of}
use Rattle.ca_meaning.specs.Asking.{too_large, bad_alts, alts_of, made_of, bad_operands, seed_of, bad_arguments}
use Rattle.ca_meaning.specs.Started.{named, procedure_at}
use Rattle.ca_meaning.specs.Body.{BodyView, At, local, at_op, faulted, nowhere, line_of, asking, asking_to_make, at_or, at, standing, standing_turn, standing_with, fill, new_body}
use Rattle.ca_meaning.specs.IsBody.{IsBodyBy}
use Rattle.ca_meaning.specs.Rest.{LocalSteps, here, after}
use Rattle.ca_meaning.specs.System.{new_system, system_at, system_fill}
use Rattle.ca_meaning.specs.Task.{TaskBody, script, system_task, body_at, body_fill, BodyRest, new_task}
use Rattle.ca_meaning.specs.State.{State, Task, Opening}
use Rattle.ca_meaning.specs.Going.{IsAtOp}
use Rattle.ca_meaning.specs.Steps.{Steps}
use Rattle.ca_meaning.specs.Legal.{Reaches}
use Rattle.ca_meaning.proofs.Closed.{named-closed}
use Rattle.ca_meaning.proofs.PutFits.{puts-fits}
use Rattle.ca_meaning.proofs.RedexFits.{seat}
use Rattle.ca_meaning.proofs.Contracts.{Judges}
use Rattle.ca_meaning.proofs.Bodies.{stepped, filled, never_nowhere, suits_in_loop, taken, program_judges}
use Rattle.ca_meaning.proofs.Systems.{is_firm, system_firm}
use Rattle.ca_meaning.proofs.Tasks.{Kept, AllBodies, step_puts, puts_all}
use Rattle.ca_meaning.proofs.Soundness.{only_task}

-- a script's text is a body by the judge, and a system task stands somewhere and starts no go block
abbrev pub IsOf : Known → TaskBody → Type 0
IsOf known (script b) = IsBodyBy (Suits known) b.term
IsOf known (system_task b) = is_firm (system_at b) ≡ true

-- an operation that is asked for is the form's own
asked : (p : Place) (f : Option Fault) (op : OpView) (w : WantView) → asking p f op ≡ at_op w → op ≡ w.op
asked p None op w e = cc
asked p (Some f) op w e = cc

asked_to_make : (p : Place) (r : Result WhatView Fault) (w : WantView) → asking_to_make p r ≡ at_op w → (what : WhatView) × (making what ≡ w.op)
asked_to_make p (Ok what) w e = (what, cc)
asked_to_make p (Err f) w e = cc

either : {P : Type 0} (b : Bool) (f : Fault) (p : Place) (a : At) (w : WantView) → (a ≡ at_op w → P) → cond b (faulted f p) a ≡ at_op w → P
either true f p a w k e = cc
either false f p a w k e = k e

no_turn : {P : Type 0} (turns : ℕ) (now : Kernel) (w : WantView) → standing_turn turns now ≡ at_op w → P
no_turn {P} turns (apply Recur ts p) w e = either {P = P} (nat_le 999_999 turns) Fault.Spun p local w (λ k. cc) e
no_turn turns (const v) w e = cc
no_turn turns (var n) w e = cc
no_turn turns (branch c a b) w e = cc
no_turn turns (bind bs body) w e = cc
no_turn turns (loop fs bs body) w e = cc
no_turn turns (seq ts) w e = cc
no_turn turns (frame body) w e = cc
no_turn turns (turn ns t now) w e = cc
no_turn turns (apply (Builtin b) ts p) w e = cc
no_turn turns (apply (Call n) ts p) w e = cc
no_turn turns (apply Take ts p) w e = cc
no_turn turns (apply Put ts p) w e = cc
no_turn turns (apply (Alts options) ts p) w e = cc
no_turn turns (apply (Make kind) ts p) w e = cc
no_turn turns (apply (Spawn kind) ts p) w e = cc
no_turn turns (apply Close ts p) w e = cc
no_turn turns (apply (Register name) ts p) w e = cc
no_turn turns (apply Print ts p) w e = cc
no_turn turns (apply Post ts p) w e = cc

-- the values of a go block are its operands but the last, which fit its text
abbrev Spawns : Known → ℕ → Trees → Type 0
Spawns known n values = (ts : Kernels) × (values ≡ without_last (values_of ts)) × Takes known.bodies n (count_terms ts)

go_values : {n m r q : ℕ} {vs us : Trees} {p o : Place} → spawning (go n vs r p) ≡ spawning (go m us q o) → (n ≡ m) × (vs ≡ us)
go_values e = (cc, cc)

spawn_kind : (known : Known) (target : Option ℕ) (kind : SeedKind) (ts : Kernels) (q : Place) (n result : ℕ) (values : Trees) (p place : Place) → Suits known target (Spawn kind) (count_terms ts) → standing_with 0 0 (values_of ts) q (Spawn kind) ≡ at_op (record { op = spawning (go n values result place); place = p }) → Spawns known n values
spawn_kind known target (SeedKind.Go m) ts q n result values p place f e =
    let k = go_values (asked q (bad_operands (SeedKind.Go m) (values_of ts)) (spawning (seed_of (SeedKind.Go m) (values_of ts) q)) (record { op = spawning (go n values result place); place = p }) e) in
    (ts, sym k.1, subst (λ i. Takes known.bodies i (count_terms ts)) k.0 f)
spawn_kind known target (SeedKind.System task) ts q n result values p place f e = let k : spawning (system task (values_of ts) q) ≡ spawning (go n values result place) = asked q (bad_operands (SeedKind.System task) (values_of ts)) (spawning (seed_of (SeedKind.System task) (values_of ts) q)) (record { op = spawning (go n values result place); place = p }) e in cc

spawns : (known : Known) (target : Option ℕ) (turns depth : ℕ) (t : Kernel) (n result : ℕ) (values : Trees) (p place : Place) → Fits (Suits known) target t → standing turns depth t ≡ at_op (record { op = spawning (go n values result place); place = p }) → Spawns known n values
spawns known target turns depth (apply (Spawn kind) ts q) n result values p place f e = spawn_kind known target kind ts q n result values p place f.0 e
spawns known target turns depth (const v) n result values p place f e = cc
spawns known target turns depth (var m) n result values p place f e = cc
spawns known target turns depth (branch c a b) n result values p place f e = cc
spawns known target turns depth (bind bs body) n result values p place f e = cc
spawns known target turns depth (loop fs bs body) n result values p place f e = cc
spawns known target turns depth (seq ts) n result values p place f e = cc
spawns known target turns depth (frame body) n result values p place f e = cc
spawns known target turns depth (turn ns t now) n result values p place f e = no_turn turns now (record { op = spawning (go n values result place); place = p }) e
spawns known target turns depth (apply Recur ts q) n result values p place f e = cc
spawns known target turns depth (apply (Builtin b) ts q) n result values p place f e = cc
spawns known target turns depth (apply (Call m) ts q) n result values p place f e =
    let w : WantView = record { op = spawning (go n values result place); place = p } in
    either (nat_le 999_999 turns) Fault.Spun q (cond (nat_le 256 depth) (faulted Fault.TooDeep q) local) w (either (nat_le 256 depth) Fault.TooDeep q local w (λ k. cc)) e
spawns known target turns depth (apply Take ts q) n result values p place f e = let k : taking (first_of (values_of ts)) ≡ spawning (go n values result place) = asked q None (taking (first_of (values_of ts))) (record { op = spawning (go n values result place); place = p }) e in cc
spawns known target turns depth (apply Put ts q) n result values p place f e = let k : putting (first_of (values_of ts)) (second_of (values_of ts)) ≡ spawning (go n values result place) = asked q (too_large (second_of (values_of ts))) (putting (first_of (values_of ts)) (second_of (values_of ts))) (record { op = spawning (go n values result place); place = p }) e in cc
spawns known target turns depth (apply (Alts options) ts q) n result values p place f e = let k : alts_of options (values_of ts) ≡ spawning (go n values result place) = asked q (bad_alts options (values_of ts)) (alts_of options (values_of ts)) (record { op = spawning (go n values result place); place = p }) e in cc
spawns known target turns depth (apply (Make kind) ts q) n result values p place f e = let k = asked_to_make q (made_of kind (values_of ts)) (record { op = spawning (go n values result place); place = p }) e in let j : making k.0 ≡ spawning (go n values result place) = k.1 in cc
spawns known target turns depth (apply Close ts q) n result values p place f e = let k : closing (first_of (values_of ts)) ≡ spawning (go n values result place) = asked q None (closing (first_of (values_of ts))) (record { op = spawning (go n values result place); place = p }) e in cc
spawns known target turns depth (apply (Register name) ts q) n result values p place f e = let k : registering name (values_of ts) ≡ spawning (go n values result place) = asked q (bad_arguments name (values_of ts)) (registering name (values_of ts)) (record { op = spawning (go n values result place); place = p }) e in cc
spawns known target turns depth (apply Print ts q) n result values p place f e = let k : printing (line_of (values_of ts)) ≡ spawning (go n values result place) = asked q (too_large (line_text (line_of (values_of ts)))) (printing (line_of (values_of ts))) (record { op = spawning (go n values result place); place = p }) e in cc
spawns known target turns depth (apply Post ts q) n result values p place f e = let k : posting (first_of (values_of ts)) (second_of (values_of ts)) ≡ spawning (go n values result place) = asked q (too_large (second_of (values_of ts))) (posting (first_of (values_of ts)) (second_of (values_of ts))) (record { op = spawning (go n values result place); place = p }) e in cc

no_fault_there : (f : Option FaultAt) (a : At) (w : WantView) → at_or f a ≡ at_op w → a ≡ at_op w
no_fault_there None a w e = e
no_fault_there (Some f) a w e = cc

-- with its port a go block has enough values
enough_values : (ts : Kernels) (result : ℕ) → count_terms ts ≤ length (values_in (without_last (values_of ts)) ++ port result ∷ [])
enough_values no_terms result = omega arith
enough_values (term t no_terms) result = omega arith
enough_values (term t (term u us)) result = let k = enough_values (term u us) result in omega (arith, k)

module _ (program : ProgramView) (checked : IsProgram program) where
  abbrev known : Known
  known = known_in checked.plain program

  abbrev S : Option ℕ → Head → ℕ → Type 0
  S = Suits known

  judges : Judges program S
  judges = program_judges program checked.plain checked.functions_fit

  rested_of : {b c : BodyView} → LocalSteps program b c → IsBodyBy S b.term → IsBodyBy S c.term
  rested_of here h = h
  rested_of {b} {c} (after l steps) h = rested_of steps (stepped program S judges b.term h)

  rest_of : (b : BodyView) (c : TaskBody) → IsBodyBy S b.term → BodyRest program (script b) c → IsOf known c
  rest_of b c h r = subst (IsOf known) (sym r.2) (rested_of r.1.reached h)

  goes_of : (b c : TaskBody) (v : Tree) → IsOf known b → BodyRest program (body_fill v b) c → IsOf known c
  goes_of (script b) c v h r = rest_of (fill v b) c (filled S v b.term h) r
  goes_of (system_task b) c v h r = subst (IsOf known) (sym r.2) (system_firm program (system_fill v b) r.0 r.1)

  starts_of : (b c : TaskBody) (seed : SeedView) → IsOf known b → IsAtOp b (spawning seed) → BodyRest program (new_task program seed) c → IsOf known c
  starts_of b c (system kind values place) h at r = subst (IsOf known) (sym r.2) (system_firm program (new_system kind values place) r.0 r.1)
  starts_of (system_task b) c (go n values result place) h at r = absurd (let e : true ≡ false = sym h ∙ ap is_firm at.1 in cc)
  starts_of (script b) c (go n values result place) h at r =
      let s = seat S None b.term h.fits in
      let want : WantView = record { op = spawning (go n values result place); place = at.0 } in
      let k = spawns known s.target b.turns b.depth (redex b.term) n result values at.0 place s.fits (no_fault_there b.fault (standing b.turns b.depth (redex b.term)) want at.1) in
      let text = taken known program.bodies n (count_terms k.0) checked.bodies_fit k.2 in
      let given = values_in values ++ port result ∷ [] in
      let many : count_terms k.0 ≤ length given = subst (λ vs. count_terms k.0 ≤ length (values_in vs ++ port result ∷ [])) (sym k.1) (enough_values k.0 result) in
      let arity : length (procedure_at program.bodies n).parameters ≡ count_terms k.0 = text.1 in
      rest_of (new_body _) c (record {
        bound = named-closed (procedure_at program.bodies n).parameters given (procedure_at program.bodies n).body (omega (arith, many, arity)) text.0.bound;
        fits = puts-fits S (named (procedure_at program.bodies n).parameters given) None (procedure_at program.bodies n).body text.0.fits;
      }) r

  kept_of : Kept program (IsOf known)
  kept_of = record { goes = goes_of; starts = starts_of }

  opening_of : (s : State) → Opening program s → AllBodies (IsOf known) s.tasks
  opening_of s o = subst (λ (z : State). AllBodies (IsOf known) z.tasks) (sym o.2)
      (λ u x e. subst (λ (z : Task). IsOf known z.body) (sym (only_task o.0 u x e)) (rest_of (new_body program.main) o.0 (record { bound = checked.main_fits.bound; fits = checked.main_fits.fits }) o.1))

  steps_of : (es : List EventView) (s s2 : State) → Steps program s es s2 → AllBodies (IsOf known) s.tasks → AllBodies (IsOf known) s2.tasks
  steps_of [] s s2 x all = subst (λ (z : State). AllBodies (IsOf known) z.tasks) (sym x) all
  steps_of (e ∷ es) s s2 x all = steps_of es x.0 s2 x.2 (puts_all (IsOf known) s.tasks x.0.tasks (step_puts program (IsOf known) kept_of s x.0 e all x.1) all)

  pub reached_of : (journal : List EventView) (s : State) → Reaches program journal s → AllBodies (IsOf known) s.tasks
  reached_of journal s r = steps_of journal r.opening s r.steps (opening_of r.opening r.opens)

  pub bodies_of : (journal : List EventView) (s : State) (t : ℕ) (x : Task) (b : BodyView) → Reaches program journal s → s.tasks t ≡ Some x → x.body ≡ script b → IsBodyBy S b.term
  bodies_of journal s t x b r there is = subst (IsOf known) is (reached_of journal s r t x there)

  pub bodies_somewhere : (journal : List EventView) (s : State) (t : ℕ) (x : Task) (b : BodyView) → Reaches program journal s → s.tasks t ≡ Some x → x.body ≡ script b → at b ≢ nowhere
  bodies_somewhere journal s t x b r there is = never_nowhere S (suits_in_loop known) b (bodies_of journal s t x b r there is)

  stands_somewhere : (b : TaskBody) → IsOf known b → body_at b ≢ nowhere
  stands_somewhere (script b) h = never_nowhere S (suits_in_loop known) b h
  stands_somewhere (system_task b) h = λ e. let k : false ≡ true = sym (ap is_firm e) ∙ h in cc

  pub tasks_somewhere : (journal : List EventView) (s : State) → Reaches program journal s → (t : ℕ) (x : Task) → s.tasks t ≡ Some x → body_at x.body ≢ nowhere
  tasks_somewhere journal s r t x there = stands_somewhere x.body (reached_of journal s r t x there)
