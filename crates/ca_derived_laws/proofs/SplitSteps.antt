-- Where the task of a split goes on to, by its local steps.
use Rattle.std.proofs.Common.{◌≡◌, ℕ, [], ◌∷◌, refl, sym, ap, ◌∙◌, subst, arith, Bool, true, false, cond, Ok, Option, Some, None}
use Rattle.ca_value.specs.Tree.{Tree, nil, bool, port}
use Rattle.ca_value.specs.Outcome.{Outcome}
use Rattle.ca_term.specs.declared.place.Place.{Place}
use Rattle.ca_term.specs.declared.fault.Fault.{Fault}
use Rattle.ca_term.specs.declared.head.Head.TheVariants.{Recur, Put, Post}
use Rattle.ca_term.specs.Operation.{putting}
use Rattle.ca_term.specs.Kernel.{Kernel, const, var, branch, bind, turn, apply, empty, put, put_items, none as no_terms, item as term}
use Rattle.ca_term.specs.View.{kernels_of}
use Rattle.ca_term.specs.Program.{ProgramView}
use Rattle.ca_meaning.specs.declared.body.FaultAt.{FaultAt}
use Rattle.ca_meaning.specs.Asking.{too_large}
use Rattle.ca_meaning.specs.Operands.{is_nil, truth}
use Rattle.ca_meaning.specs.Body.{BodyView, At, at, local, at_op, ended, faulted, nowhere, value_in, outcome_fault, new_body}
use Rattle.ca_meaning.specs.Rest.{Rest}
use Rattle.ca_meaning.proofs.Rests.{rests}
use Rattle.ca_derived_laws.specs.TakeTask.{does}
use Rattle.ca_derived_laws.specs.SplitTask.{SplitTask, operands, split_tests, split_shuts, split_gives, repeats, split_decides, split_asks, split_lets, split_round, split_ends, split_within, split_text}
use Rattle.ca_derived_laws.specs.SplitLaw.{TestComes}
use Rattle.ca_derived_laws.proofs.PlainCalling.{IsPlainTest}
use Rattle.ca_derived_laws.proofs.Resting.{goes, stays}
use Rattle.ca_derived_laws.proofs.Numbers.{nil_is}
use Rattle.ca_meaning.proofs.Contexts.{Context, whole, inside, in_bind, in_branch, in_turn, in_first, in_apply}
use Rattle.ca_derived_laws.proofs.Calls.{put_in, carried, behind, lower_rest, is_fault, value_at_end, stands_faulted}
use Rattle.ca_derived_laws.proofs.ReduceSteps.{deep}
use Rattle.ca_derived_laws.proofs.TakeSteps.{same, asking_stays}

module _ (x : SplitTask) where
  put_operands : (o : Option Tree) (v : Tree) → put_items x.first v (operands o (var x.first)) ≡ operands o (const v)
  put_operands None v = rw (same x.first) refl
  put_operands (Some k) v = rw (same x.first) refl

  put_decides : (v : Tree) → put x.first v (split_decides x (var x.first)) ≡ split_decides x (const v)
  put_decides v = rw (put_operands x.further v, same x.first) refl

  put_ends : (v : Tree) → put x.first v (split_ends x (var x.first)) ≡ split_ends x (const v)
  put_ends v = rw (same x.first) refl

module _ (program : ProgramView) (x : SplitTask) where
  abbrev running : Kernel → Kernel
  running now = split_within x (turn [] (split_round x) now)

  abbrev pub asking_at : ℕ → ℕ → BodyView
  asking_at n d = deep (running (split_lets x (split_asks x))) n d

  abbrev pub giving_at : Tree → Tree → ℕ → ℕ → BodyView
  giving_at c v n d = deep (running (repeats x (apply Put (term (const c) (term (const v) no_terms)) x.place))) n d

  abbrev pub shutting_yes_at : ℕ → ℕ → BodyView
  shutting_yes_at n d = deep (running (does (split_shuts x x.yes ∷ split_shuts x x.no ∷ []))) n d

  abbrev pub shutting_no_at : ℕ → ℕ → BodyView
  shutting_no_at n d = deep (running (split_shuts x x.no)) n d

  abbrev pub closing_at : ℕ → ℕ → BodyView
  closing_at n d = deep (split_shuts x (port x.result)) n d

  round_goes : (n d : ℕ) (c : BodyView) → Rest program (deep (running (split_round x)) n d) c → c ≡ asking_at n d
  round_goes n d c r = stays (λ e. cc) (goes refl r)

  -- the loop is left with nil
  left : (n d : ℕ) (c : BodyView) → Rest program (deep (running (const nil)) n d) c → c ≡ closing_at n d
  left n d c r = stays (λ e. cc) (goes refl (goes refl (goes refl (subst (λ o. Rest program (tested o) c) (nil_is nil) (goes refl named))))) where
    named : Rest program (deep (split_ends x (const nil)) n d) c
    named = goes refl (subst (λ t. Rest program (deep (bind empty t) n d) c) (put_ends x nil) (goes refl (goes refl r)))

    tested : Outcome → BodyView
    tested o = record {
      term = does (branch (const (value_in o)) (const nil) (apply Post (kernels_of (const (port x.result) ∷ const nil ∷ [])) x.place) ∷ split_shuts x (port x.result) ∷ []);
      turns = n;
      depth = d;
      fault = outcome_fault x.place o;
    }

  -- after a take
  pub data Took (a : Tree) (c : BodyView) : Type 0 where
    puts_next : (w : Tree) (n d : ℕ) → c ≡ giving_at (cond (truth w) x.yes x.no) a n d → is_nil a ≡ false → TestComes program x a w → Took a c
    shuts_next : (n d : ℕ) → c ≡ shutting_yes_at n d → is_nil a ≡ true → Took a c
    fails : (f : Fault) (p : Place) → at c ≡ faulted f p → Took a c

  context : (a : Tree) → Context (λ t. running (repeats x (split_gives x t (const a))))
  context a = inside (λ t. running (repeats x (apply Put (term t (term (const a) no_terms)) x.place))) (λ t. branch t (const x.yes) (const x.no))
      (inside (λ t. running (repeats x t)) (λ t. apply Put (term t (term (const a) no_terms)) x.place)
      (inside (λ t. running t) (λ t. repeats x t)
      (inside (λ t. split_within x t) (λ t. turn [] (split_round x) t) (inside (λ t. t) (λ t. split_within x t) whole (in_bind x.first empty (split_ends x (var x.first)))) (in_turn [] (split_round x)))
      (in_branch (apply Recur no_terms x.place) (const nil)))
      (in_first (λ ts. apply Put ts x.place) (term (const a) no_terms) (in_apply Put x.place)))
      (in_branch (const x.yes) (const x.no))

  called : (a : Tree) (d : ℕ) (c : BodyView) → IsPlainTest program x → is_nil a ≡ false → Rest program (deep (running (repeats x (split_gives x (split_tests x (const a)) (const a)))) 0 d) c → Took a c
  called a d c plain e r = by (at alone) refl where
    begun_at : BodyView
    begun_at = deep (split_tests x (const a)) 0 d

    rested : (z : BodyView) × Rest program begun_at z
    rested = rests program begun_at

    alone : BodyView
    alone = rested.0

    behind_it : Rest program (put_in (λ t. running (repeats x (split_gives x t (const a)))) alone) c
    behind_it = behind program (carried program (λ t. running (repeats x (split_gives x t (const a)))) (context a) rested.1.reached) r

    by_itself : is_fault (at alone) ≡ false → (z : BodyView) × Rest program (new_body (split_tests x (const a))) z × (at z ≡ at alone)
    by_itself f = lower_rest program begun_at alone 0 (omega arith) rested.1 f

    chosen : (w : Tree) → Rest program (deep (running (repeats x (split_gives x (const w) (const a)))) alone.turns alone.depth) c → c ≡ giving_at (cond (truth w) x.yes x.no) a alone.turns alone.depth
    chosen w k = by_truth (truth w) refl where
      by_truth : (b : Bool) → truth w ≡ b → c ≡ giving_at (cond (truth w) x.yes x.no) a alone.turns alone.depth
      by_truth true h = stays (asking_stays x.place (too_large a) (putting x.yes a)) (subst (λ (b : Bool). Rest program (deep (running (repeats x (apply Put (term (cond b (const x.yes) (const x.no)) (term (const a) no_terms)) x.place))) alone.turns alone.depth) c) h (goes refl k)) ∙ ap (λ b. giving_at (cond b x.yes x.no) a alone.turns alone.depth) (sym h)
      by_truth false h = stays (asking_stays x.place (too_large a) (putting x.no a)) (subst (λ (b : Bool). Rest program (deep (running (repeats x (apply Put (term (cond b (const x.yes) (const x.no)) (term (const a) no_terms)) x.place))) alone.turns alone.depth) c) h (goes refl k)) ∙ ap (λ b. giving_at (cond b x.yes x.no) a alone.turns alone.depth) (sym h)

    by : (o : At) → at alone ≡ o → Took a c
    by local f = absurd (rested.1.over f)
    by (at_op want) f = let z = by_itself (ap is_fault f) in absurd ((plain a z.0 z.1).0 want (z.2 ∙ f))
    by nowhere f = let z = by_itself (ap is_fault f) in absurd ((plain a z.0 z.1).1 (z.2 ∙ f))
    by (faulted g p) f =
        let k : at (put_in (λ t. running (repeats x (split_gives x t (const a)))) alone) ≡ faulted g p = stands_faulted (λ t. running (repeats x (split_gives x t (const a)))) alone g p (context a) f in
        fails g p (ap at (stays (λ l. let j : faulted g p ≡ local = sym k ∙ l in cc) behind_it) ∙ k)
    by (ended w) f =
        let z = by_itself (ap is_fault f) in
        let is = value_at_end alone w f in
        puts_next w alone.turns alone.depth
        (chosen w (subst (λ (o : Option FaultAt). Rest program (record { term = running (repeats x (split_gives x (const w) (const a))); turns = alone.turns; depth = alone.depth; fault = o }) c) is.1
        (subst (λ t. Rest program (record { term = running (repeats x (split_gives x t (const a))); turns = alone.turns; depth = alone.depth; fault = alone.fault }) c) is.0 behind_it)))
        e (z.0, z.1, z.2 ∙ f)

  pub took : IsPlainTest program x → (a : Tree) (d : ℕ) (c : BodyView) → Rest program (deep (running (split_lets x (const a))) 0 d) c → Took a c
  took plain a d c r = by (is_nil a) refl where
    decided : Rest program (deep (running (split_decides x (const a))) 0 d) c
    decided = goes refl (subst (λ t. Rest program (deep (running (bind empty t)) 0 d) c) (put_decides x a) (goes refl r))

    tested : Outcome → BodyView
    tested o = record { term = running (branch (const (value_in o)) (does (split_shuts x x.yes ∷ split_shuts x x.no ∷ [])) (repeats x (split_gives x (split_tests x (const a)) (const a)))); turns = 0; depth = d; fault = outcome_fault x.place o }

    told : (b : Bool) → is_nil a ≡ b → Rest program (tested (Ok (bool b))) c
    told b e = subst (λ z. Rest program (tested (Ok (bool z))) c) e (subst (λ o. Rest program (tested o) c) (nil_is a) (goes refl (goes refl decided)))

    by : (b : Bool) → is_nil a ≡ b → Took a c
    by true e = shuts_next 0 d (stays (λ e. cc) (goes refl (told true e))) e
    by false e = called a d c plain e (goes refl (told false e))

  -- after a put
  pub data Gave (c : BodyView) : Type 0 where
    again : (n d : ℕ) → c ≡ asking_at n d → Gave c
    leaves : (n d : ℕ) → c ≡ closing_at n d → Gave c

  pub gave : (a : Tree) (d : ℕ) (c : BodyView) → Rest program (deep (running (repeats x (const a))) 0 d) c → Gave c
  gave a d c r = by (truth a) refl where
    told : (b : Bool) → truth a ≡ b → Rest program (deep (running (cond b (apply Recur no_terms x.place) (const nil))) 0 d) c
    told b e = subst (λ (z : Bool). Rest program (deep (running (cond z (apply Recur no_terms x.place) (const nil))) 0 d) c) e (goes refl r)

    by : (b : Bool) → truth a ≡ b → Gave c
    by true e = again 1 d (round_goes 1 d c (goes refl (told true e)))
    by false e = leaves 0 d (left 0 d c (told false e))

  -- after the close of the first channel, and of the second
  pub shut_yes : (a : Tree) (d : ℕ) (c : BodyView) → Rest program (deep (running (does (const a ∷ split_shuts x x.no ∷ []))) 0 d) c → c ≡ shutting_no_at 0 d
  shut_yes a d c r = stays (λ e. cc) (goes refl (goes refl r))

  pub shut_no : (d : ℕ) (c : BodyView) → Rest program (deep (running (const nil)) 0 d) c → c ≡ closing_at 0 d
  shut_no d c r = left 0 d c r

  pub begun : (c : BodyView) → Rest program (new_body (split_text x)) c → c ≡ asking_at 0 0
  begun c r = round_goes 0 0 c (goes refl (goes refl r))
