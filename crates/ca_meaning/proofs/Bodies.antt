-- A body keeps what holds of every body, and never stands nowhere.
use Rattle.std.proofs.Common.{◌≡◌, ◌≢◌, ℕ, zero, suc, ◌<◌, List, [], ◌∷◌, length, map, get_or, refl, arith, Bool, true, false, cond, nat_le, Option, Some, None, Result, Ok, Err, IfOk}
use Rattle.std.specs.Prelude.{All}
use Rattle.ca_value.specs.Tree.{Tree}
use Rattle.ca_term.specs.declared.place.Place.{Place}
use Rattle.ca_term.specs.declared.fault.Fault.{Fault}
use Rattle.ca_term.specs.declared.head.Head.{Head}
use Rattle.ca_term.specs.declared.head.Head.TheVariants.{Recur, Builtin, Call, Take, Put, Alts, Make, Spawn, Close, Register, Print, Post}
use Rattle.ca_term.specs.declared.head.SeedKind.{SeedKind}
use Rattle.ca_term.specs.declared.head.PlainFunction.{PlainFunction}
use Rattle.ca_term.specs.declared.head.SystemTask.{SystemTask}
use Rattle.ca_term.specs.declared.head.SystemTask.TheVariants.{Mult, Deliver, Mix, Pub, Pipe, Merge, Onto, Feed, Job, Collect}
use Rattle.ca_term.specs.Kernel.{Kernel, const, var, branch, bind, loop, seq, frame, turn, apply}
use Rattle.ca_term.specs.Operation.{WantView, OpView, WhatView}
use Rattle.ca_term.specs.Closed.{IsClosed}
use Rattle.ca_term.specs.Fits.{Known, Takes, IsApplicable, SuitsSystem, IsOrderly, Suits, Fits}
use Rattle.ca_term.specs.Program.{ProgramView, ProcedureView, IsProcedure, arity, known_in}
use Rattle.ca_meaning.specs.declared.body.FaultAt.{FaultAt}
use Rattle.ca_meaning.specs.declared.body.Stand.TheVariants.{Local, AtOp}
use Rattle.ca_meaning.specs.Redex.{redex, replace}
use Rattle.ca_meaning.specs.Started.{procedure_at}
use Rattle.ca_meaning.specs.Body.{BodyView, At, local, at_op, ended, faulted, nowhere, asking, asking_to_make, at_or, at, standing, standing_turn, contract}
use Rattle.ca_meaning.specs.BodyViews.{stand_of, is_at_op}
use Rattle.ca_meaning.specs.IsBody.{IsBodyBy, IsBody, IsBodyOf}
use Rattle.ca_meaning.specs.Parts.{IsAdmitted}
use Rattle.ca_meaning.proofs.Sizes.{whole-redex}
use Rattle.ca_meaning.proofs.Closed.{redex-closed, replace-closed}
use Rattle.ca_meaning.proofs.PutFits.{fits-gentler}
use Rattle.ca_meaning.proofs.RedexFits.{is_recur, seat, no-bare-recur}
use Rattle.ca_meaning.proofs.Contracts.{Judges, contract-closed, contract-fits}

-- a local step
pub stepped : (program : ProgramView) (S : Option ℕ → Head → ℕ → Type 0) → Judges program S → (t : Kernel) → IsBodyBy S t → IsBodyBy S (replace (contract program (redex t)) t)
stepped program S judges t b =
    let s = seat S None t b.fits in
    let w = whole-redex t in
    let c = redex-closed t b.bound in
    record {
      bound = replace-closed (contract program (redex t)) t (contract-closed program S judges s.target (redex t) w s.fits c) b.bound;
      fits = s.back (contract program (redex t)) (contract-fits program S judges s.target (redex t) w s.fits);
    }

-- an answer
pub filled : (S : Option ℕ → Head → ℕ → Type 0) (v : Tree) (t : Kernel) → IsBodyBy S t → IsBodyBy S (replace (const v) t)
filled S v t b = record { bound = replace-closed (const v) t tt b.bound; fits = (seat S None t b.fits).back (const v) tt }

-- where a redex stands
somewhere-asking : (p : Place) (f : Option Fault) (op : OpView) → asking p f op ≢ nowhere
somewhere-asking p None op e = cc
somewhere-asking p (Some f) op e = cc

somewhere-making : (p : Place) (r : Result WhatView Fault) → asking_to_make p r ≢ nowhere
somewhere-making p (Ok what) e = cc
somewhere-making p (Err f) e = cc

somewhere-cond : (b : Bool) (x y : At) → x ≢ nowhere → y ≢ nowhere → cond b x y ≢ nowhere
somewhere-cond true x y g h = g
somewhere-cond false x y g h = h

not-faulted : (f : Fault) (p : Place) → faulted f p ≢ nowhere
not-faulted f p e = cc

not-local : local ≢ nowhere
not-local e = cc

somewhere-turn : (turns : ℕ) (now : Kernel) → standing_turn turns now ≢ nowhere
somewhere-turn turns (apply Recur ts p) = somewhere-cond (nat_le 999_999 turns) (faulted Fault.Spun p) local (not-faulted Fault.Spun p) not-local
somewhere-turn turns (const v) = not-local
somewhere-turn turns (var n) = not-local
somewhere-turn turns (branch c a b) = not-local
somewhere-turn turns (bind bs body) = not-local
somewhere-turn turns (loop fs bs body) = not-local
somewhere-turn turns (seq ts) = not-local
somewhere-turn turns (frame body) = not-local
somewhere-turn turns (turn ns t now) = not-local
somewhere-turn turns (apply (Builtin b) ts p) = not-local
somewhere-turn turns (apply (Call n) ts p) = not-local
somewhere-turn turns (apply Take ts p) = not-local
somewhere-turn turns (apply Put ts p) = not-local
somewhere-turn turns (apply (Alts options) ts p) = not-local
somewhere-turn turns (apply (Make kind) ts p) = not-local
somewhere-turn turns (apply (Spawn kind) ts p) = not-local
somewhere-turn turns (apply Close ts p) = not-local
somewhere-turn turns (apply (Register name) ts p) = not-local
somewhere-turn turns (apply Print ts p) = not-local
somewhere-turn turns (apply Post ts p) = not-local

somewhere : (turns depth : ℕ) (t : Kernel) → IsClosed [] t → is_recur t ≡ false → standing turns depth t ≢ nowhere
somewhere turns depth (const v) h r = λ e. cc
somewhere turns depth (var n) h r = absurd h
somewhere turns depth (branch c a b) h r = not-local
somewhere turns depth (bind bs body) h r = not-local
somewhere turns depth (loop fs bs body) h r = not-local
somewhere turns depth (seq ts) h r = not-local
somewhere turns depth (frame body) h r = not-local
somewhere turns depth (turn ns t now) h r = somewhere-turn turns now
somewhere turns depth (apply Recur ts p) h r = absurd (let k : true ≡ false = r in cc)
somewhere turns depth (apply (Builtin b) ts p) h r = not-local
somewhere turns depth (apply (Call n) ts p) h r = somewhere-cond (nat_le 999_999 turns) (faulted Fault.Spun p) (cond (nat_le 256 depth) (faulted Fault.TooDeep p) local) (not-faulted Fault.Spun p) (somewhere-cond (nat_le 256 depth) (faulted Fault.TooDeep p) local (not-faulted Fault.TooDeep p) not-local)
somewhere turns depth (apply Take ts p) h r = λ e. cc
somewhere turns depth (apply Put ts p) h r = somewhere-asking p _ _
somewhere turns depth (apply (Alts options) ts p) h r = somewhere-asking p _ _
somewhere turns depth (apply (Make kind) ts p) h r = somewhere-making p _
somewhere turns depth (apply (Spawn kind) ts p) h r = somewhere-asking p _ _
somewhere turns depth (apply Close ts p) h r = λ e. cc
somewhere turns depth (apply (Register name) ts p) h r = somewhere-asking p _ _
somewhere turns depth (apply Print ts p) h r = somewhere-asking p _ _
somewhere turns depth (apply Post ts p) h r = somewhere-asking p _ _

pub never_nowhere : (S : Option ℕ → Head → ℕ → Type 0) → ((k : ℕ) → S None Recur k → ⊥) → (b : BodyView) → IsBodyBy S b.term → at b ≢ nowhere
never_nowhere S in_loop b h = by b.fault where
  by : (f : Option FaultAt) → at_or f (standing b.turns b.depth (redex b.term)) ≢ nowhere
  by None = somewhere b.turns b.depth (redex b.term) (redex-closed b.term h.bound) (no-bare-recur S in_loop b.term h.fits)
  by (Some f) = not-faulted f.fault f.place

-- judges
pub orderly_in_loop : (k : ℕ) → IsOrderly None Recur k → ⊥
orderly_in_loop k e = let j : None ≡ Some k = e in cc

pub suits_in_loop : (known : Known) (k : ℕ) → Suits known None Recur k → ⊥
suits_in_loop known k e = let j : None ≡ Some k = e in cc

pub body_somewhere : (b : BodyView) → IsBody b.term → at b ≢ nowhere
body_somewhere b h = never_nowhere IsOrderly orderly_in_loop b h

-- the one of that number
takes_there : (ps : List ProcedureView) (n k : ℕ) → Takes (map arity ps) n k → (n < length ps) × (length (procedure_at ps n).parameters ≡ k)
takes_there [] n k h = absurd h
takes_there (p ∷ ps) zero k h = (omega arith, h)
takes_there (p ∷ ps) (suc n) k h = let r = takes_there ps n k h in let l : n < length ps = r.0 in (omega (arith, l), r.1)

-- a procedure that is named with that many values fits the program
pub taken : (known : Known) (ps : List ProcedureView) (n k : ℕ) → All (IsProcedure known) ps → Takes (map arity ps) n k → IsProcedure known (procedure_at ps n) × (length (procedure_at ps n).parameters ≡ k)
taken known ps n k all h = let r = takes_there ps n k h in (all n (record { parameters = []; body = const Tree.nil }) r.0, r.1)

pub program_judges : (program : ProgramView) (plain : ℕ → Bool) → All (IsProcedure (known_in plain program)) program.functions → Judges program (Suits (known_in plain program))
program_judges program plain all = record {
  recurs = λ target k h. h;
  counted = λ target n k h. (taken (known_in plain program) program.functions n k all h).1;
  bound = λ target n k h. (taken (known_in plain program) program.functions n k all h).0.bound;
  fits = λ target n k h. (taken (known_in plain program) program.functions n k all h).0.fits;
}

-- what suits the program is orderly
suits_orderly : (known : Known) (target : Option ℕ) (h : Head) (k : ℕ) → Suits known target h k → IsOrderly target h k
suits_orderly known target Recur k s = s
suits_orderly known target (Builtin b) k s = s
suits_orderly known target (Call n) k s = tt
suits_orderly known target Take k s = tt
suits_orderly known target Put k s = tt
suits_orderly known target (Alts options) k s = tt
suits_orderly known target (Make kind) k s = tt
suits_orderly known target (Spawn kind) k s = tt
suits_orderly known target Close k s = tt
suits_orderly known target (Register name) k s = tt
suits_orderly known target Print k s = tt
suits_orderly known target Post k s = tt

pub known_body : (program : ProgramView) (t : Kernel) → IsBodyOf program t → IsBody t
known_body program t b = record { bound = b.suits.bound; fits = fits-gentler (Suits (known_in b.plain program)) IsOrderly (suits_orderly (known_in b.plain program)) None t b.suits.fits }

-- where every function counts as plain, more suits
abbrev all_plain : ℕ → Bool
all_plain n = true

applied_all : (plain : ℕ → Bool) (program : ProgramView) (f : PlainFunction) → IsApplicable (known_in plain program) f → IsApplicable (known_in all_plain program) f
applied_all plain program (PlainFunction.Defined n) h = (h.0, refl)
applied_all plain program (PlainFunction.Builtin b) h = h
applied_all plain program PlainFunction.Keyword h = tt

system_all : (plain : ℕ → Bool) (program : ProgramView) (task : SystemTask) → SuitsSystem (known_in plain program) task → SuitsSystem (known_in all_plain program) task
system_all plain program Mult h = tt
system_all plain program Deliver h = tt
system_all plain program Mix h = tt
system_all plain program (Pub f) h = applied_all plain program f h
system_all plain program Pipe h = tt
system_all plain program Merge h = tt
system_all plain program Onto h = tt
system_all plain program Feed h = tt
system_all plain program (Job xf f) h = applied_all plain program f h
system_all plain program Collect h = tt

suits_all : (plain : ℕ → Bool) (program : ProgramView) (target : Option ℕ) (h : Head) (k : ℕ) → Suits (known_in plain program) target h k → Suits (known_in all_plain program) target h k
suits_all plain program target Recur k s = s
suits_all plain program target (Builtin b) k s = s
suits_all plain program target (Call n) k s = s
suits_all plain program target Take k s = tt
suits_all plain program target Put k s = tt
suits_all plain program target (Alts options) k s = tt
suits_all plain program target (Make kind) k s = tt
suits_all plain program target (Spawn (SeedKind.Go n)) k s = s
suits_all plain program target (Spawn (SeedKind.System task)) k s = system_all plain program task s
suits_all plain program target Close k s = tt
suits_all plain program target (Register name) k s = tt
suits_all plain program target Print k s = tt
suits_all plain program target Post k s = tt

fits_all : (plain : ℕ → Bool) (program : ProgramView) (t : Kernel) → Fits (Suits (known_in plain program)) None t → Fits (Suits (known_in all_plain program)) None t
fits_all plain program t h = fits-gentler (Suits (known_in plain program)) (Suits (known_in all_plain program)) (suits_all plain program) None t h

procedure_all : (plain : ℕ → Bool) (program : ProgramView) (p : ProcedureView) → IsProcedure (known_in plain program) p → IsProcedure (known_in all_plain program) p
procedure_all plain program p h = record { bound = h.bound; anew = h.anew; fits = fits_all plain program p.body h.fits; source = h.source }

-- a body of a program stays one by a local step, and with an answer
pub known_stepped : (program : ProgramView) (t : Kernel) → IsBodyOf program t → IsBodyOf program (replace (contract program (redex t)) t)
known_stepped program t b =
    let checked = b.checked in
    let judges = program_judges program all_plain (λ k d lt. procedure_all checked.plain program (get_or program.functions k d) (checked.functions_fit k d lt)) in
    record { checked = checked; plain = all_plain; suits = stepped program (Suits (known_in all_plain program)) judges t (record { bound = b.suits.bound; fits = fits_all b.plain program t b.suits.fits }) }

pub known_filled : (program : ProgramView) (v : Tree) (t : Kernel) → IsBodyOf program t → IsBodyOf program (replace (const v) t)
known_filled program v t b = record { checked = b.checked; plain = b.plain; suits = filled (Suits (known_in b.plain program)) v t b.suits }

-- the redex of a body has as many operands as a builtin takes
fits_admitted : (target : Option ℕ) (t : Kernel) → Fits IsOrderly target t → IsAdmitted t
fits_admitted target (apply (Builtin b) ts p) h = h.0
fits_admitted target (const v) h = tt
fits_admitted target (var n) h = tt
fits_admitted target (branch c a b) h = tt
fits_admitted target (bind bs body) h = tt
fits_admitted target (loop fs bs body) h = tt
fits_admitted target (seq ts) h = tt
fits_admitted target (frame body) h = tt
fits_admitted target (turn ns t now) h = tt
fits_admitted target (apply Recur ts p) h = tt
fits_admitted target (apply (Call n) ts p) h = tt
fits_admitted target (apply Take ts p) h = tt
fits_admitted target (apply Put ts p) h = tt
fits_admitted target (apply (Alts options) ts p) h = tt
fits_admitted target (apply (Make kind) ts p) h = tt
fits_admitted target (apply (Spawn kind) ts p) h = tt
fits_admitted target (apply Close ts p) h = tt
fits_admitted target (apply (Register name) ts p) h = tt
fits_admitted target (apply Print ts p) h = tt
fits_admitted target (apply Post ts p) h = tt

pub body_admitted : (t : Kernel) → IsBody t → IsAdmitted (redex t)
body_admitted t b = let s = seat IsOrderly None t b.fits in fits_admitted s.target (redex t) s.fits

-- what a test tells of where a body stands
pub op_when : (a : At) → is_at_op a ≡ true → (w : WantView) × (a ≡ at_op w)
op_when (at_op w) h = (w, refl)
op_when local h = cc
op_when (ended v) h = cc
op_when (faulted f p) h = cc
op_when nowhere h = cc

pub local_when : (a : At) → stand_of a ≡ Local → a ≡ local
local_when local h = refl
local_when (at_op w) h = cc
local_when (ended v) h = cc
local_when (faulted f p) h = cc
local_when nowhere h = cc

pub op_stands : (a : At) → stand_of a ≡ AtOp → is_at_op a ≡ true
op_stands (at_op w) h = refl
op_stands local h = cc
op_stands (ended v) h = cc
op_stands (faulted f p) h = cc
op_stands nowhere h = cc

-- no fault was met where a body stands at an operation
pub op_without_fault : (f : Option FaultAt) (a : At) → is_at_op (at_or f a) ≡ true → (at_or f a ≡ a) × (is_at_op a ≡ true)
op_without_fault None a h = (refl, h)
op_without_fault (Some f) a h = cc

pub if_ok_more : {A E : Type 0} {P Q : A → Type 0} (r : Result A E) → ((a : A) → P a → Q a) → IfOk r P → IfOk r Q
if_ok_more (Ok a) f h = f a h
if_ok_more (Err e) f h = tt
