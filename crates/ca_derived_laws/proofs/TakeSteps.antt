-- Where the task of a take goes on to, by its local steps.
use Rattle.std.proofs.Common.{◌≡◌, ◌≢◌, ℕ, suc, ◌<◌, ◌≤◌, pos, [], ◌∷◌, refl, ap, subst, arith, Bool, true, false, not, ◌==◌, Ok, Option, Some, None, eq-eqb, ne_eqb}
use Rattle.ca_value.specs.Tree.{Tree, nil, int, bool, port, item, none}
use Rattle.ca_value.specs.Outcome.{Outcome}
use Rattle.ca_value.specs.Builtins.{builtin_result}
use Rattle.ca_value.specs.declared.builtin.Builtin.TheVariants.{Less, Inc}
use Rattle.ca_term.specs.declared.place.Place.{Place}
use Rattle.ca_term.specs.declared.fault.Fault.{Fault}
use Rattle.ca_term.specs.declared.head.Head.TheVariants.{Recur, Post}
use Rattle.ca_term.specs.Operation.{OpView, putting}
use Rattle.ca_term.specs.Kernel.{Kernel, const, var, branch, bind, turn, apply, empty, put}
use Rattle.ca_term.specs.View.{kernels_of}
use Rattle.ca_term.specs.Program.{ProgramView}
use Rattle.ca_meaning.specs.declared.body.FaultAt.{FaultAt}
use Rattle.ca_meaning.specs.Asking.{task_fault, too_large}
use Rattle.ca_meaning.specs.Operands.{is_nil}
use Rattle.ca_meaning.specs.Body.{BodyView, local, asking, value_in, outcome_fault, new_body}
use Rattle.ca_meaning.specs.Rest.{Rest}
use Rattle.ca_derived_laws.specs.TakeTask.{TakeTask, does, let_name, take_repeats, gives_on, take_judges, tries, take_asks, take_round, take_shuts, take_ends, take_within, take_loops, take_text}
use Rattle.ca_derived_laws.specs.TakeLaw.{at_most}
use Rattle.ca_derived_laws.proofs.Resting.{goes, stays}
use Rattle.ca_derived_laws.proofs.Numbers.{some_is, nil_is, Next, next, past, next_is, Compared, less, enough, unlike, compared}

pub same : (m : ℕ) → (m == m) ≡ true
same m = eq-eqb m m refl

pub one_above : (m : ℕ) → (suc m == m) ≡ false
one_above m = ne_eqb (suc m) m (λ e. omega (arith, e))

two_above : (m : ℕ) → (suc (suc m) == m) ≡ false
two_above m = ne_eqb (suc (suc m)) m (λ e. omega (arith, e))

module _ (x : TakeTask) where
  put_round : (v : Tree) → put x.first v (take_round x (var x.first)) ≡ take_round x (const v)
  put_round v = rw (same x.first, one_above x.first, two_above x.first) refl

  put_judges : (k a : Tree) → put (suc x.first) a (take_judges x (const k) (var (suc x.first))) ≡ take_judges x (const k) (const a)
  put_judges k a = rw (same (suc x.first), one_above (suc x.first)) refl

  put_gives : (k a : Tree) → put (suc (suc x.first)) a (does (gives_on x (const k) (var (suc (suc x.first))) ∷ [])) ≡ does (gives_on x (const k) (const a) ∷ [])
  put_gives k a = rw (same (suc (suc x.first))) refl

  put_ends : (v : Tree) → put x.first v (take_ends x (var x.first)) ≡ take_ends x (const v)
  put_ends v = rw (same x.first) refl

abbrev pub body : Kernel → ℕ → BodyView
body t n = record { term = t; turns = n; depth = 0; fault = None }

pub asking_stays : (p : Place) (o : Option Fault) (op : OpView) → asking p o op ≢ local
asking_stays p None op e = cc
asking_stays p (Some f) op e = cc

module _ (program : ProgramView) (x : TakeTask) where
  abbrev text : Kernel
  text = take_round x (var x.first)

  -- the loop, where its text has become this
  abbrev running : Kernel → Kernel
  running now = take_loops x (turn (x.first ∷ []) text now)

  abbrev pub asking_at : ℕ → ℕ → BodyView
  asking_at k n = body (running (tries x (const (int (pos k))) (take_asks x))) n

  abbrev pub giving_at : ℕ → Tree → ℕ → BodyView
  giving_at k v n = body (running (gives_on x (const (int (pos k))) (const v))) n

  abbrev pub shutting_at : ℕ → BodyView
  shutting_at n = body (take_within x (take_shuts x (const x.target))) n

  abbrev pub closing_at : ℕ → BodyView
  closing_at n = body (take_shuts x (const (port x.result))) n

  -- where a round comes to whose count is k
  pub data Entered (k : ℕ) (c : BodyView) : Type 0 where
    asks_next : (n : ℕ) → c ≡ asking_at k n → k < at_most x.bound → Entered k c
    leaves : (n : ℕ) → c ≡ shutting_at n → at_most x.bound ≤ k → Entered k c
    fails : (f : FaultAt) → c.fault ≡ Some f → Entered k c

  -- the loop's value is nil
  left : (n : ℕ) (c : BodyView) → Rest program (body (running (const nil)) n) c → c ≡ shutting_at n
  left n c r = stays (λ e. cc) (goes refl (goes refl (goes refl r)))

  entered : (k n : ℕ) (c : BodyView) → Rest program (body (running (take_round x (const (int (pos k))))) n) c → Entered k c
  entered k n c r = by (compared k x.bound) where
    tested : Outcome → BodyView
    tested o = record { term = running (branch (const (value_in o)) (does (tries x (const (int (pos k))) (take_asks x) ∷ [])) (const nil)); turns = n; depth = 0; fault = outcome_fault x.place o }

    here : Rest program (tested (builtin_result Less (item (int (pos k)) (item x.bound none)))) c
    here = goes refl (goes refl r)

    by : Compared k x.bound → Entered k c
    by (less e h) = asks_next n (stays (λ e. cc) (goes refl (goes refl (subst (λ o. Rest program (tested o) c) e here)))) h
    by (enough e h) = leaves n (left n c (goes refl (subst (λ o. Rest program (tested o) c) e here))) h
    by (unlike f e) = fails (record { fault = task_fault f; place = x.place }) (ap (λ (b : BodyView). b.fault) (stays (λ e. cc) (subst (λ o. Rest program (tested o) c) e here)))

  -- after a take
  pub data Took (k : ℕ) (a : Tree) (c : BodyView) : Type 0 where
    gives_next : (n : ℕ) → c ≡ giving_at k a n → is_nil a ≡ false → Took k a c
    ends_next : (n : ℕ) → c ≡ shutting_at n → is_nil a ≡ true → Took k a c

  pub took : (k : ℕ) (a : Tree) (c : BodyView) → Rest program (body (running (tries x (const (int (pos k))) (const a))) 0) c → Took k a c
  took k a c r = by (is_nil a) refl where
    judged : Rest program (body (running (take_judges x (const (int (pos k))) (const a))) 0) c
    judged = goes refl (subst (λ t. Rest program (body (running (bind empty t)) 0) c) (put_judges x (int (pos k)) a) (goes refl r))

    tested : Outcome → BodyView
    tested o = record {
      term = running (branch (const (value_in o)) (let_name (suc (suc x.first)) (const a) (does (gives_on x (const (int (pos k))) (var (suc (suc x.first))) ∷ []))) (const nil));
      turns = 0;
      depth = 0;
      fault = outcome_fault x.place o;
    }

    told : (b : Bool) → is_nil a ≡ b → Rest program (tested (Ok (bool (not b)))) c
    told b e = subst (λ z. Rest program (tested (Ok (bool (not z)))) c) e (subst (λ o. Rest program (tested o) c) (some_is a) (goes refl (goes refl judged)))

    by : (b : Bool) → is_nil a ≡ b → Took k a c
    by true e = ends_next 0 (left 0 c (goes refl (told true e))) e
    by false e =
        let named : Rest program (body (running (bind empty (does (gives_on x (const (int (pos k))) (const a) ∷ [])))) 0) c
        = subst (λ t. Rest program (body (running (bind empty t)) 0) c) (put_gives x (int (pos k)) a) (goes refl (goes refl (told false e))) in
        gives_next 0 (stays (asking_stays x.place (too_large a) (putting x.target a)) (goes refl (goes refl named))) e

  -- after a put
  pub gave : (k : ℕ) (a : Tree) (c : BodyView) → Rest program (body (running (does (const a ∷ take_repeats x (const (int (pos k))) ∷ []))) 0) c → Entered (suc k) c
  gave k a c r = by (next_is k) where
    counted : Outcome → BodyView
    counted o = record { term = running (apply Recur (kernels_of (const (value_in o) ∷ [])) x.place); turns = 0; depth = 0; fault = outcome_fault x.place o }

    here : Rest program (counted (builtin_result Inc (item (int (pos k)) none))) c
    here = goes refl (goes refl (goes refl r))

    by : Next k → Entered (suc k) c
    by (next e) = entered (suc k) 1 c (subst (λ t. Rest program (body (running t) 1) c) (put_round x (int (pos (suc k)))) (goes refl (subst (λ o. Rest program (counted o) c) e here)))
    by (past f e) = fails (record { fault = task_fault f; place = x.place }) (ap (λ (b : BodyView). b.fault) (stays (λ e. cc) (subst (λ o. Rest program (counted o) c) e here)))

  -- at its Spawn
  pub begun : (c : BodyView) → Rest program (new_body (take_text x)) c → Entered 0 c
  begun c r = entered 0 0 c (subst (λ t. Rest program (body (running t) 0) c) (put_round x (int (pos 0))) (goes refl (goes refl r)))

  -- after the close of its target
  pub shut : (c : BodyView) → Rest program (body (take_within x (const nil)) 0) c → c ≡ closing_at 0
  shut c r = stays (λ e. cc) (goes refl (goes refl (goes refl (subst (λ o. Rest program (tested o) c) (nil_is nil) (goes refl named))))) where
    named : Rest program (body (take_ends x (const nil)) 0) c
    named = goes refl (subst (λ t. Rest program (body (bind empty t) 0) c) (put_ends x nil) (goes refl r))

    tested : Outcome → BodyView
    tested o = record {
      term = does (branch (const (value_in o)) (const nil) (apply Post (kernels_of (const (port x.result) ∷ const nil ∷ [])) x.place) ∷ take_shuts x (const (port x.result)) ∷ []);
      turns = 0;
      depth = 0;
      fault = outcome_fault x.place o;
    }
