-- A call of a plain function comes to no operation.
use Rattle.std.proofs.Common.{◌≡◌, ◌≢◌, ℕ, zero, suc, ◌+◌, List, [], ◌∷◌, length, ap, ◌∙◌, arith, Bool, true, false, cond, nat_le, Option, Some, None}
use Rattle.ca_value.specs.Tree.{Tree}
use Rattle.ca_term.specs.declared.place.Place.{Place}
use Rattle.ca_term.specs.declared.fault.Fault.TheVariants.{Spun, TooDeep}
use Rattle.ca_term.specs.declared.head.Head.{Head}
use Rattle.ca_term.specs.declared.head.Head.TheVariants.{Recur, Builtin, Call, Take, Put, Alts, Make, Spawn, Close, Register, Print, Post}
use Rattle.ca_term.specs.Operation.{WantView}
use Rattle.ca_term.specs.Kernel.{Kernel, Kernels, Bindings, const, var, branch, bind, loop, seq, frame, turn, apply, none, item, empty, binding}
use Rattle.ca_term.specs.Fits.{Known, Suits, Fits, FitTerms, FitInOrder, FitBindings, IsPlainHead, IsPlain, ArePlain, ArePlainBindings, count_bindings}
use Rattle.ca_term.specs.Program.{ProgramView, ProcedureView, IsProgram, ArePlainFrom, known_in}
use Rattle.ca_meaning.specs.declared.body.FaultAt.{FaultAt}
use Rattle.ca_meaning.specs.Redex.{redex}
use Rattle.ca_meaning.specs.Started.{procedure_at}
use Rattle.ca_meaning.specs.Body.{BodyView, local, at_op, faulted, nowhere, at, at_or, standing, standing_turn, new_body}
use Rattle.ca_meaning.specs.IsBody.{IsBodyBy}
use Rattle.ca_meaning.specs.Rest.{LocalSteps, here, after, Rest}
use Rattle.ca_meaning.proofs.RedexFits.{seat}
use Rattle.ca_meaning.proofs.Contracts.{Judges}
use Rattle.ca_meaning.proofs.Bodies.{stepped, never_nowhere, taken}
use Rattle.ca_derived_laws.specs.PlainHeads.{IsPlainFor}
use Rattle.ca_derived_laws.specs.ReduceTask.{reduce_applies}
use Rattle.ca_derived_laws.specs.SplitTask.{SplitTask, operands, operand_count, split_tests}

module _ (program : ProgramView) (checked : IsProgram program) where
  abbrev known : Known
  known = known_in checked.plain program

  -- a head that suits the program, and is no operation
  abbrev Plainly : Option ℕ → Head → ℕ → Type 0
  Plainly target h k = Suits known target h k × IsPlainHead checked.plain h

  mutual
    both : (target : Option ℕ) (t : Kernel) → Fits (Suits known) target t → IsPlain checked.plain t → Fits Plainly target t
    both target (const v) f p = tt
    both target (var n) f p = tt
    both target (branch c a b) f p = (both None c f.0 p.0, both target a f.1 p.1, both target b f.2 p.2)
    both target (bind bs body) f p = (both_bindings bs f.0 p.0, both target body f.1 p.1)
    both target (loop fs bs body) f p = (both_bindings bs f.0 p.0, both (Some (length fs + count_bindings bs)) body f.1 p.1)
    both target (seq ts) f p = both_in_order target ts f p
    both target (frame body) f p = both None body f p
    both target (turn names text now) f p = (both (Some (length names)) text f.0 p.0, both (Some (length names)) now f.1 p.1)
    both target (apply h ts q) f p = ((f.0, p.0), both_terms ts f.1 p.1)

    both_terms : (ts : Kernels) → FitTerms (Suits known) ts → ArePlain checked.plain ts → FitTerms Plainly ts
    both_terms none f p = tt
    both_terms (item t ts) f p = (both None t f.0 p.0, both_terms ts f.1 p.1)

    both_in_order : (target : Option ℕ) (ts : Kernels) → FitInOrder (Suits known) target ts → ArePlain checked.plain ts → FitInOrder Plainly target ts
    both_in_order target none f p = tt
    both_in_order target (item t none) f p = both target t f p.0
    both_in_order target (item t (item u us)) f p = (both None t f.0 p.0, both_in_order target (item u us) f.1 p.1)

    both_bindings : (bs : Bindings) → FitBindings (Suits known) bs → ArePlainBindings checked.plain bs → FitBindings Plainly bs
    both_bindings empty f p = tt
    both_bindings (binding n t bs) f p = (both None t f.0 p.0, both_bindings bs f.1 p.1)

  plain_at : (n i : ℕ) (ps : List ProcedureView) → ArePlainFrom checked.plain n ps → checked.plain (n + i) ≡ true → IsPlain checked.plain (procedure_at ps i).body
  plain_at n i [] a e = tt
  plain_at n zero (t ∷ ts) a e = a.0 (ap checked.plain (let k : n ≡ n + 0 = omega arith in k) ∙ e)
  plain_at n (suc i) (t ∷ ts) a e = plain_at (suc n) i ts a.1 (ap checked.plain (let k : suc n + i ≡ n + suc i = omega arith in k) ∙ e)

  judges : Judges program Plainly
  judges = record {
    recurs = λ target k h. h.0;
    counted = λ target n k h. (taken known program.functions n k checked.functions_fit h.0).1;
    bound = λ target n k h. (taken known program.functions n k checked.functions_fit h.0).0.bound;
    fits = λ target n k h. both None (procedure_at program.functions n).body (taken known program.functions n k checked.functions_fit h.0).0.fits (plain_at 0 n program.functions checked.plain_functions (ap checked.plain (let k : 0 + n ≡ n = omega arith in k) ∙ h.1));
  }

  kept : {b c : BodyView} → LocalSteps program b c → IsBodyBy Plainly b.term → IsBodyBy Plainly c.term
  kept here h = h
  kept {b} (after l s) h = kept s (stepped program Plainly judges b.term h)

  no_recur : (k : ℕ) → Plainly None Recur k → ⊥
  no_recur k h = let j : None ≡ Some k = h.0 in cc

  turn_asks : (turns : ℕ) (now : Kernel) (want : WantView) → standing_turn turns now ≢ at_op want
  turn_asks turns (const v) want e = cc
  turn_asks turns (var n) want e = cc
  turn_asks turns (branch c a b) want e = cc
  turn_asks turns (bind bs body) want e = cc
  turn_asks turns (loop fs bs body) want e = cc
  turn_asks turns (seq ts) want e = cc
  turn_asks turns (frame body) want e = cc
  turn_asks turns (turn ns t now) want e = cc
  turn_asks turns (apply Recur ts p) want e = by (nat_le 999_999 turns) e where
    by : (b : Bool) → cond b (faulted Spun p) local ≢ at_op want
    by true e = cc
    by false e = cc
  turn_asks turns (apply (Builtin b) ts p) want e = cc
  turn_asks turns (apply (Call n) ts p) want e = cc
  turn_asks turns (apply Take ts p) want e = cc
  turn_asks turns (apply Put ts p) want e = cc
  turn_asks turns (apply (Alts o) ts p) want e = cc
  turn_asks turns (apply (Make k) ts p) want e = cc
  turn_asks turns (apply (Spawn k) ts p) want e = cc
  turn_asks turns (apply Close ts p) want e = cc
  turn_asks turns (apply (Register k) ts p) want e = cc
  turn_asks turns (apply Print ts p) want e = cc
  turn_asks turns (apply Post ts p) want e = cc

  never_asks : (target : Option ℕ) (turns depth : ℕ) (r : Kernel) → Fits Plainly target r → (want : WantView) → standing turns depth r ≢ at_op want
  never_asks target turns depth (const v) f want e = cc
  never_asks target turns depth (var n) f want e = cc
  never_asks target turns depth (branch c a b) f want e = cc
  never_asks target turns depth (bind bs body) f want e = cc
  never_asks target turns depth (loop fs bs body) f want e = cc
  never_asks target turns depth (seq ts) f want e = cc
  never_asks target turns depth (frame body) f want e = cc
  never_asks target turns depth (turn ns t now) f want e = turn_asks turns now want e
  never_asks target turns depth (apply Recur ts p) f want e = cc
  never_asks target turns depth (apply (Builtin b) ts p) f want e = cc
  never_asks target turns depth (apply (Call n) ts p) f want e = by (nat_le 999_999 turns) (nat_le 256 depth) e where
    by : (b c : Bool) → cond b (faulted Spun p) (cond c (faulted TooDeep p) local) ≢ at_op want
    by true c e = cc
    by false true e = cc
    by false false e = cc
  never_asks target turns depth (apply Take ts p) f want e = f.0.1
  never_asks target turns depth (apply Put ts p) f want e = f.0.1
  never_asks target turns depth (apply (Alts o) ts p) f want e = f.0.1
  never_asks target turns depth (apply (Make k) ts p) f want e = f.0.1
  never_asks target turns depth (apply (Spawn k) ts p) f want e = f.0.1
  never_asks target turns depth (apply Close ts p) f want e = f.0.1
  never_asks target turns depth (apply (Register k) ts p) f want e = f.0.1
  never_asks target turns depth (apply Print ts p) f want e = f.0.1
  never_asks target turns depth (apply Post ts p) f want e = f.0.1

  never_at_op : (b : BodyView) → IsBodyBy Plainly b.term → (want : WantView) → at b ≢ at_op want
  never_at_op b h want = by b.fault where
    by : (o : Option FaultAt) → at_or o (standing b.turns b.depth (redex b.term)) ≢ at_op want
    by (Some g) e = cc
    by None e = let s = seat Plainly None b.term h.fits in never_asks s.target b.turns b.depth (redex b.term) s.fits want e

-- a call of f comes to a value or a fault
abbrev pub IsPlainCall : ProgramView → Head → Place → Type 0
IsPlainCall program f p = (w a : Tree) (c : BodyView) → Rest program (new_body (reduce_applies f (const w) (const a) p)) c → ((want : WantView) → at c ≢ at_op want) × (at c ≢ nowhere)

-- so does a call of the test
abbrev pub IsPlainTest : ProgramView → SplitTask → Type 0
IsPlainTest program x = (v : Tree) (c : BodyView) → Rest program (new_body (split_tests x (const v))) c → ((want : WantView) → at c ≢ at_op want) × (at c ≢ nowhere)

pub plain_calls : (program : ProgramView) (f : Head) (p : Place) → IsPlainFor program f 2 → IsPlainCall program f p
plain_calls program f p (checked, suits, plain) w a c r =
    let k = kept program checked r.reached (record { bound = (tt, (tt, tt)); fits = ((suits, plain), (tt, (tt, tt))) }) in
    (λ want. never_at_op program checked c k want, never_nowhere (Plainly program checked) (no_recur program checked) c k)

pub plain_tests : (program : ProgramView) (x : SplitTask) → IsPlainFor program x.function (operand_count x.further) → IsPlainTest program x
plain_tests program x (checked, suits, plain) v c r = (λ want. never_at_op program checked c k want, never_nowhere (Plainly program checked) (no_recur program checked) c k) where
  whole : (o : Option Tree) → Suits (known_in checked.plain program) None x.function (operand_count o) → IsBodyBy (Plainly program checked) (apply x.function (operands o (const v)) x.place)
  whole None s = record { bound = (tt, tt); fits = ((s, plain), (tt, tt)) }
  whole (Some w) s = record { bound = (tt, (tt, tt)); fits = ((s, plain), (tt, (tt, tt))) }

  k : IsBodyBy (Plainly program checked) c.term
  k = kept program checked r.reached (whole x.further suits)
