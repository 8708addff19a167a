-- A runner of valid code halts at no operation that starts a task which the code hasn't.
use Rattle.std.proofs.Common.{◌≡◌, ℕ, suc, List, [], ◌∷◌, length, Bool, true, false, Option, Some, None, refl, sym, ap, ◌∙◌, subst}
use Rattle.std.specs.Prelude.{cond, nat_le, nat_lt, IsTrue, Result, Ok, Err}
use Rattle.ca_value.specs.Tree.{Tree, Trees, int, none, item, trees_of}
use Rattle.ca_value.specs.Outcome.{Outcome}
use Rattle.ca_term.specs.declared.fault.Fault.{Fault}
use Rattle.ca_term.specs.declared.fault.Fault.TheVariants.{Spun, TooDeep}
use Rattle.ca_term.specs.declared.head.Head.{Head}
use Rattle.ca_term.specs.declared.head.Head.TheVariants as head
use Rattle.ca_term.specs.declared.head.SeedKind.{SeedKind}
use Rattle.ca_term.specs.declared.place.Place.{Place}
use Rattle.ca_term.specs.Asking.{alts_of, asked, asked_to_make, bad_alts, bad_arguments, bad_operands, line_of, made_of, not_a_port, seed_of, too_large, unless_faulted}
use Rattle.ca_term.specs.Operands.{first_of, last_of, second_of, values_in, without_last}
use Rattle.ca_term.specs.Operation.{OpView, WhatView, closing, making, posting, printing, putting, registering, spawning, taking}
use Rattle.ca_states.specs.declared.code.Exit.{Exit}
use Rattle.ca_states.specs.declared.code.Exit.TheVariants.{Jump, Branch, Test, TestInt, Call, Return, Cut}
use Rattle.ca_states.specs.declared.runner.Halt.{Halt}
use Rattle.ca_states.specs.declared.runner.Halt.TheVariants as halt
use Rattle.ca_states.specs.declared.runner.Runner.{Runner}
use Rattle.ca_states.specs.Code.{Instruction, CodeView, block_at, function_at}
use Rattle.ca_states.specs.Machine.{ComesTo, Effect, Frame, Move, RunnerState, builtin_applied, at_block, done, effect, ends, entered, failed, faults, goes, goes_on, halts, leaves, move, read, reads, returned, runs_block, slots_from, taken_all, test_answered, turned, waits_or_faults, waits, went}
use Rattle.ca_states.specs.Standing.{HaltedAs, HaltsAs, RunnerStands}
use Rattle.ca_states.specs.Valid.{is_counted_exit, is_operation, is_valid, takes}
use Rattle.ca_states.proofs.SlotLaws.{length_reads}
use Rattle.ca_states.proofs.StandingLaws.{ValidParts, exit_parts, goes_standing, valid_parts}
use Rattle.ca_machine.specs.Stages.{halted_at}
use Rattle.ca_machine.specs.Tasks.{HasTask, HasTaskAt}

pub counted : (vs : List Tree) → length (values_in (trees_of vs)) ≡ length vs
counted [] = refl
counted (v ∷ vs) = ap suc (counted vs)

-- a go block's last value is its result port
but_last : (vs : Trees) → not_a_port (last_of vs) ≡ None → suc (length (values_in (without_last vs))) ≡ length (values_in vs)
but_last none e = absurd (let s : Some Fault.WrongKind ≡ None = e in cc)
but_last (item v none) e = refl
but_last (item v (item w vs)) e = ap suc (but_last (item w vs) e)

module _ (C : CodeView) where
  asks : (o op : OpView) → HasTask C o → ◌≡◌ {A = Result OpView Fault} (Ok o) (Ok op) → HasTask C op
  asks o op has e = let same : o ≡ op = cc in subst (HasTask C) same has

  unless : (f : Option Fault) (o op : OpView) → (f ≡ None → HasTask C o) → unless_faulted f o ≡ Ok op → HasTask C op
  unless None o op has e = asks o op (has refl) e
  unless (Some f) o op has e = absurd (let s : Err f ≡ Ok op = e in cc)

  to_make : (r : Result WhatView Fault) (op : OpView) → asked_to_make r ≡ Ok op → HasTask C op
  to_make (Ok what) op e = asks (making what) op tt e
  to_make (Err f) op e = absurd (let s : Err f ≡ Ok op = e in cc)

  -- an operation of the code over as many values
  asked_has : (h : Head) (vs : Trees) (p : Place) (op : OpView) → IsTrue (is_operation C (length (values_in vs)) h) → asked h vs p ≡ Ok op → HasTask C op
  asked_has head.Recur vs p op is e = absurd (let s : false ≡ true = is in cc)
  asked_has (head.Builtin b) vs p op is e = absurd (let s : false ≡ true = is in cc)
  asked_has (head.Call n) vs p op is e = absurd (let s : false ≡ true = is in cc)
  asked_has head.Take vs p op is e = asks (taking (first_of vs)) op tt e
  asked_has head.Put vs p op is e = unless (too_large (second_of vs)) (putting (first_of vs) (second_of vs)) op (λ f. tt) e
  asked_has (head.Alts options) vs p op is e = unless (bad_alts options vs) (alts_of options vs) op (λ f. tt) e
  asked_has (head.Make kind) vs p op is e = to_make (made_of kind vs) op e
  asked_has (head.Spawn (SeedKind.Go n)) vs p op is e =
      unless (bad_operands (SeedKind.Go n) vs) (spawning (seed_of (SeedKind.Go n) vs p)) op (λ f. subst (λ m. IsTrue (takes C.bodies n m)) (sym (but_last vs f)) is) e
  asked_has (head.Spawn (SeedKind.System kind)) vs p op is e = unless (bad_operands (SeedKind.System kind) vs) (spawning (seed_of (SeedKind.System kind) vs p)) op (λ f. is) e
  asked_has head.Close vs p op is e = asks (closing (first_of vs)) op tt e
  asked_has (head.Register name) vs p op is e = unless (bad_arguments name vs) (registering name vs) op (λ f. tt) e
  asked_has head.Print vs p op is e = unless (too_large (Tree.text (line_of vs))) (printing (line_of vs)) op (λ f. tt) e
  asked_has head.Post vs p op is e = unless (too_large (second_of vs)) (posting (first_of vs) (second_of vs)) op (λ f. tt) e

  -- so of what a runner comes to
  abbrev HasIts : Move → Type 0
  HasIts (goes c) = Unit {0}
  HasIts (ends v turns) = Unit {0}
  HasIts (faults f p turns) = Unit {0}
  HasIts (waits want answer c) = HasTask C want.op

  either : (b : Bool) (x y : Move) → HasIts x → HasIts y → HasIts (cond b x y)
  either true x y h k = h
  either false x y h k = k

  tested_has : (p : Place) (c : RunnerState) (yes_to no_to : ℕ) (o : Outcome) → HasIts (test_answered p c yes_to no_to o)
  tested_has p c yes_to no_to (Ok v) = tt
  tested_has p c yes_to no_to (Err f) = tt

  returned_has : (v : Tree) (fs : List Frame) (turns : ℕ) → HasIts (returned v fs turns)
  returned_has v [] turns = tt
  returned_has v (f ∷ fs) turns = tt

  waiting_has : (p : Place) (answer : ℕ) (c : RunnerState) (o : Result OpView Fault) → ((op : OpView) → o ≡ Ok op → HasTask C op) → HasIts (waits_or_faults p answer c o)
  waiting_has p answer c (Ok op) h = h op refl
  waiting_has p answer c (Err f) h = tt

  leaves_has : (x : Exit) (c : RunnerState) → IsTrue (is_counted_exit C x) → HasIts (leaves C x c)
  leaves_has (Jump next p) c is =
      let turn = goes (record c { block = next; turns = suc c.turns }) in
      either (nat_lt c.block next) (goes (at_block next c)) (turned c.turns p turn) tt (either (nat_le 999_999 c.turns) (faults Spun p c.turns) turn tt tt)
  leaves_has (Branch a yes_to no_to) c is = tt
  leaves_has (Test b to left_at right_at yes_to no_to p) c is = tested_has p c yes_to no_to (builtin_applied b (read c.slots left_at ∷ read c.slots right_at ∷ []))
  leaves_has (TestInt b to left_at z yes_to no_to p) c is = tested_has p c yes_to no_to (builtin_applied b (read c.slots left_at ∷ int z ∷ []))
  leaves_has (Call f a k answer next p) c is =
      let frame : Frame = record { next = next; answer = answer; slots = taken_all c.slots (slots_from a k) } in
      let d = goes (entered C (function_at C f) (reads c.slots (slots_from a k)) frame c) in
      let deep = cond (nat_le 256 (length c.frames)) (faults TooDeep p c.turns) d in
      either (nat_le 999_999 c.turns) (faults Spun p c.turns) deep tt (either (nat_le 256 (length c.frames)) (faults TooDeep p c.turns) d tt tt)
  leaves_has (Return a) c is = returned_has (read c.slots a) c.frames c.turns
  leaves_has (Cut h a k answer next p) c is =
      let vs = reads c.slots (slots_from a k) in
      let many : length (values_in (trees_of vs)) ≡ k = counted vs ∙ length_reads c.slots a k in
      waiting_has p answer (record c { block = next; slots = taken_all c.slots (slots_from a k) }) (asked h (trees_of vs) p)
      (λ op. asked_has h (trees_of vs) p op (subst (λ m. IsTrue (is_operation C m h)) (sym many) is))

  went_has : (e : Effect) (c : RunnerState) (m : RunnerState → Move) → ((d : RunnerState) → HasIts (m d)) → HasIts (went e c m)
  went_has (done s) c m h = h (record c { slots = s })
  went_has (failed f p) c m h = tt

  runs_has : (is : List Instruction) (x : Exit) (c : RunnerState) → IsTrue (is_counted_exit C x) → HasIts (runs_block C is x c)
  runs_has [] x c ok = leaves_has x c ok
  runs_has (i ∷ is) x c ok = went_has (effect i c.slots) c (runs_block C is x) (λ d. runs_has is x d ok)

  move_has : ValidParts C → (c : RunnerState) → RunnerStands C c → HasIts (move C c)
  move_has v c s = runs_has (block_at C c.block).instrs (block_at C c.block).exit c (exit_parts C v c.block s.slots.0).counted

  comes_has : {c : RunnerState} {m : Move} → ValidParts C → RunnerStands C c → ComesTo C c m → HasIts m
  comes_has v s (goes_on c d m e r) = comes_has v (goes_standing C v c d s e).0 r
  comes_has v s (halts {c} h) = move_has v c s

  halted_has : (m : Move) (h : Halt) (r : Runner) → HasIts m → HaltedAs m h r → HasTaskAt C (halted_at h)
  halted_has m (halt.Cut w) r has e = subst HasIts e has
  halted_has m (halt.Ended v) r has e = tt
  halted_has m (halt.Faulted f p) r has e = tt

  pub halts_has : is_valid C ≡ true → (c : RunnerState) (h : Halt) (r : Runner) → RunnerStands C c → HaltsAs C c h r → HasTaskAt C (halted_at h)
  halts_has valid c h r s (m, comes, e) = halted_has m h r (comes_has (valid_parts C valid) s comes) e
