-- Where the task of a reduce goes on to, by its local steps.
use Rattle.std.proofs.Common.{◌≡◌, ℕ, suc, [], ◌∷◌, refl, sym, ap, ◌∙◌, subst, arith, nat_le, Bool, true, false, cond, Ok, Option, None}
use Rattle.ca_value.specs.Tree.{Tree, nil, bool, port}
use Rattle.ca_value.specs.Outcome.{Outcome}
use Rattle.ca_term.specs.declared.place.Place.{Place}
use Rattle.ca_term.specs.declared.fault.Fault.{Fault}
use Rattle.ca_term.specs.declared.fault.Fault.TheVariants.{Spun}
use Rattle.ca_term.specs.declared.head.Head.TheVariants.{Recur, Post}
use Rattle.ca_term.specs.Operation.{posting}
use Rattle.ca_term.specs.Kernel.{Kernel, const, var, branch, bind, turn, apply, empty, put, none as no_terms}
use Rattle.ca_term.specs.View.{kernels_of}
use Rattle.ca_term.specs.Program.{ProgramView}
use Rattle.ca_meaning.specs.declared.body.FaultAt.{FaultAt}
use Rattle.ca_meaning.specs.Asking.{too_large}
use Rattle.ca_meaning.specs.Operands.{is_nil}
use Rattle.ca_meaning.specs.Body.{BodyView, At, at, local, at_op, ended, faulted, nowhere, value_in, outcome_fault, new_body}
use Rattle.ca_meaning.specs.Rest.{Rest}
use Rattle.ca_derived_laws.specs.TakeTask.{does}
use Rattle.ca_derived_laws.specs.ReduceLaw.{Comes}
use Rattle.ca_derived_laws.specs.ReduceTask.{ReduceTask, reduce_applies, folds, reduce_decides, reduce_lets, reduce_asks, reduce_round, closes_result, reduce_ends, reduce_within, reduce_text}
use Rattle.ca_derived_laws.proofs.PlainCalling.{IsPlainCall}
use Rattle.ca_derived_laws.proofs.Resting.{goes, stays}
use Rattle.ca_derived_laws.proofs.Numbers.{nil_is}
use Rattle.ca_meaning.proofs.Rests.{rests}
use Rattle.ca_meaning.proofs.Contexts.{Context, whole, inside, in_bind, in_turn, in_first, in_apply}
use Rattle.ca_derived_laws.proofs.Calls.{put_in, carried, behind, lower_rest, is_fault, value_at_end, stands_faulted}
use Rattle.ca_derived_laws.proofs.TakeSteps.{same, one_above, asking_stays}

module _ (x : ReduceTask) where
  put_round : (v : Tree) → put x.first v (reduce_round x (var x.first)) ≡ reduce_round x (const v)
  put_round v = rw (same x.first, one_above x.first) refl

  put_decides : (k a : Tree) → put (suc x.first) a (reduce_decides x (const k) (var (suc x.first))) ≡ reduce_decides x (const k) (const a)
  put_decides k a = rw (same (suc x.first)) refl

  put_ends : (v : Tree) → put x.first v (reduce_ends x (var x.first)) ≡ reduce_ends x (const v)
  put_ends v = rw (same x.first) refl

abbrev pub deep : Kernel → ℕ → ℕ → BodyView
deep t n d = record { term = t; turns = n; depth = d; fault = None }

module _ (program : ProgramView) (x : ReduceTask) where
  abbrev text : Kernel
  text = reduce_round x (var x.first)

  abbrev running : Kernel → Kernel
  running now = reduce_within x (turn (x.first ∷ []) text now)

  abbrev pub asking_at : Tree → ℕ → ℕ → BodyView
  asking_at v n d = deep (running (reduce_lets x (const v) (reduce_asks x))) n d

  abbrev pub posting_at : Tree → ℕ → ℕ → BodyView
  posting_at v n d = deep (does (apply Post (kernels_of (const (port x.result) ∷ const v ∷ [])) x.place ∷ closes_result x ∷ [])) n d

  abbrev pub closing_at : ℕ → ℕ → BodyView
  closing_at n d = deep (closes_result x) n d

  round_goes : (v : Tree) (n d : ℕ) (c : BodyView) → Rest program (deep (running (reduce_round x (const v))) n d) c → c ≡ asking_at v n d
  round_goes v n d c r = stays (λ e. cc) (goes refl r)

  -- with the value of its loop
  pub data Left (v : Tree) (c : BodyView) : Type 0 where
    posts : (n d : ℕ) → c ≡ posting_at v n d → is_nil v ≡ false → Left v c
    closes : (n d : ℕ) → c ≡ closing_at n d → is_nil v ≡ true → Left v c

  left : (v : Tree) (n d : ℕ) (c : BodyView) → Rest program (deep (running (const v)) n d) c → Left v c
  left v n d c r = by (is_nil v) refl where
    named : Rest program (deep (reduce_ends x (const v)) n d) c
    named = goes refl (subst (λ t. Rest program (deep (bind empty t) n d) c) (put_ends x v) (goes refl (goes refl r)))

    tested : Outcome → BodyView
    tested o = record {
      term = does (branch (const (value_in o)) (const nil) (apply Post (kernels_of (const (port x.result) ∷ const v ∷ [])) x.place) ∷ closes_result x ∷ []);
      turns = n;
      depth = d;
      fault = outcome_fault x.place o;
    }

    told : (b : Bool) → is_nil v ≡ b → Rest program (tested (Ok (bool b))) c
    told b e = subst (λ z. Rest program (tested (Ok (bool z))) c) e (subst (λ o. Rest program (tested o) c) (nil_is v) (goes refl named))

    by : (b : Bool) → is_nil v ≡ b → Left v c
    by true e = closes n d (stays (λ e. cc) (goes refl (goes refl (goes refl (told true e))))) e
    by false e = posts n d (stays (asking_stays x.place (too_large v) (posting (port x.result) v)) (goes refl (told false e))) e

  -- after a take
  pub data Took (v a : Tree) (c : BodyView) : Type 0 where
    folded : (w : Tree) (n d : ℕ) → c ≡ asking_at w n d → is_nil a ≡ false → Comes program x.function x.place v a w → Took v a c
    over : Left v c → is_nil a ≡ true → Took v a c
    fails : (f : Fault) (p : Place) → at c ≡ faulted f p → Took v a c

  -- the call stands in a hole
  context : Context (λ t. running (apply Recur (kernels_of (t ∷ [])) x.place))
  context = inside (λ t. running t) (λ t. apply Recur (kernels_of (t ∷ [])) x.place)
      (inside (λ t. reduce_within x t) (λ t. turn (x.first ∷ []) text t) (inside (λ t. t) (λ t. reduce_within x t) whole (in_bind x.first empty (reduce_ends x (var x.first)))) (in_turn (x.first ∷ []) text))
      (in_first (λ ts. apply Recur ts x.place) no_terms (in_apply Recur x.place))

  -- with the value of the call
  came : (v a w : Tree) (n d : ℕ) (c : BodyView) → is_nil a ≡ false → Comes program x.function x.place v a w → Rest program (deep (running (apply Recur (kernels_of (const w ∷ [])) x.place)) n d) c → Took v a c
  came v a w n d c e k r = by (nat_le 999_999 n) refl where
    turned : (b : Bool) → nat_le 999_999 n ≡ b → at (deep (running (apply Recur (kernels_of (const w ∷ [])) x.place)) n d) ≡ cond b (faulted Spun x.place) local
    turned b f = ap (λ z. cond z (faulted Spun x.place) local) f

    by : (b : Bool) → nat_le 999_999 n ≡ b → Took v a c
    by false f = folded w (suc n) d (round_goes w (suc n) d c (subst (λ t. Rest program (deep (running t) (suc n) d) c) (put_round x w) (goes (turned false f) r))) e k
    by true f = fails Spun x.place (ap at (stays (λ l. let j : faulted Spun x.place ≡ local = sym (turned true f) ∙ l in cc) r) ∙ turned true f)

  called : (v a : Tree) (d : ℕ) (c : BodyView) → IsPlainCall program x.function x.place → is_nil a ≡ false → Rest program (deep (running (folds x (const v) (const a))) 0 d) c → Took v a c
  called v a d c plain e r = by (at alone) refl where
    begun_at : BodyView
    begun_at = deep (reduce_applies x.function (const v) (const a) x.place) 0 d

    rested : (z : BodyView) × Rest program begun_at z
    rested = rests program begun_at

    alone : BodyView
    alone = rested.0

    behind_it : Rest program (put_in (λ t. running (apply Recur (kernels_of (t ∷ [])) x.place)) alone) c
    behind_it = behind program (carried program (λ t. running (apply Recur (kernels_of (t ∷ [])) x.place)) context rested.1.reached) r

    by_itself : is_fault (at alone) ≡ false → (z : BodyView) × Rest program (new_body (reduce_applies x.function (const v) (const a) x.place)) z × (at z ≡ at alone)
    by_itself f = lower_rest program begun_at alone 0 (omega arith) rested.1 f

    by : (o : At) → at alone ≡ o → Took v a c
    by local f = absurd (rested.1.over f)
    by (at_op want) f = let z = by_itself (ap is_fault f) in absurd ((plain v a z.0 z.1).0 want (z.2 ∙ f))
    by nowhere f = let z = by_itself (ap is_fault f) in absurd ((plain v a z.0 z.1).1 (z.2 ∙ f))
    by (faulted g p) f = fails g p (ap at (stays (λ l. let j : faulted g p ≡ local = sym (stands_faulted (λ t. running (apply Recur (kernels_of (t ∷ [])) x.place)) alone g p context f) ∙ l in cc) behind_it) ∙ stands_faulted (λ t. running (apply Recur (kernels_of (t ∷ [])) x.place)) alone g p context f)
    by (ended w) f =
        let z = by_itself (ap is_fault f) in
        let is = value_at_end alone w f in
        came v a w alone.turns alone.depth c e (z.0, z.1, z.2 ∙ f)
        (subst (λ (o : Option FaultAt). Rest program (record { term = running (apply Recur (kernels_of (const w ∷ [])) x.place); turns = alone.turns; depth = alone.depth; fault = o }) c) is.1
        (subst (λ t. Rest program (record { term = running (apply Recur (kernels_of (t ∷ [])) x.place); turns = alone.turns; depth = alone.depth; fault = alone.fault }) c) is.0 behind_it))

  pub took : IsPlainCall program x.function x.place → (v a : Tree) (d : ℕ) (c : BodyView) → Rest program (deep (running (reduce_lets x (const v) (const a))) 0 d) c → Took v a c
  took plain v a d c r = by (is_nil a) refl where
    decided : Rest program (deep (running (reduce_decides x (const v) (const a))) 0 d) c
    decided = goes refl (subst (λ t. Rest program (deep (running (bind empty t)) 0 d) c) (put_decides x v a) (goes refl r))

    tested : Outcome → BodyView
    tested o = record { term = running (branch (const (value_in o)) (const v) (folds x (const v) (const a))); turns = 0; depth = d; fault = outcome_fault x.place o }

    told : (b : Bool) → is_nil a ≡ b → Rest program (tested (Ok (bool b))) c
    told b e = subst (λ z. Rest program (tested (Ok (bool z))) c) e (subst (λ o. Rest program (tested o) c) (nil_is a) (goes refl (goes refl decided)))

    by : (b : Bool) → is_nil a ≡ b → Took v a c
    by true e = over (left v 0 d c (goes refl (told true e))) e
    by false e = called v a d c plain e (goes refl (told false e))

  -- at its Spawn
  pub begun : (c : BodyView) → Rest program (new_body (reduce_text x)) c → c ≡ asking_at x.initial 0 0
  begun c r = round_goes x.initial 0 0 c (subst (λ t. Rest program (deep (running t) 0 0) c) (put_round x x.initial) (goes refl (goes refl (goes refl r))))

  -- after its post
  pub shut : (a : Tree) (d : ℕ) (c : BodyView) → Rest program (deep (does (const a ∷ closes_result x ∷ [])) 0 d) c → c ≡ closing_at 0 d
  shut a d c r = stays (λ e. cc) (goes refl (goes refl r))
