-- What an operation becomes, branch by branch.
use Rattle.std.proofs.Common.{◌≡◌, ℕ, zero, suc, ◌+◌, ◌%◌, ◌<◌, List, [], ◌∷◌, length, map, take, drop, ◌-◌, refl, sym, ap, ◌∙◌, arith, Result, Ok, Err, IfOk, Bool, true, false, cond, Option, Some, None, option_map, get_or, drop-cons, add-one}
use Rattle.std.proofs.lemmas.List.{take_rest}
use Rattle.ca_value.specs.Tree.{Tree}
use Rattle.ca_value.specs.View.{view, trees}
use Rattle.ca_value.specs.declared.memory.OutOfMemory.{OutOfMemory}
use Rattle.ca_value.specs.declared.value.Value.{Value}
use Rattle.ca_term.specs.Operation.{OpView, choosing, posting, putting, taking}
use Rattle.ca_term.specs.Event.{BranchView, put_of, take_of}
use Rattle.ca_meaning.specs.Operands.{or_else, port_of_value, values_in}
use Rattle.ca_meaning.specs.Choice.{branch_of}
use Rattle.ca_meaning.specs.Refusal.{nil_put, not_a_channel}
use Rattle.ca_commit.specs.Planning.{Planned, Seen, all_counted, chosen, counted_for, decided, first_from, found_of, in_turn, otherwise, planned, state_of, to_park, unless_refused}
use Rattle.ca_commit.specs.Plans.{plan_view}
use Rattle.ca_commit.specs.Branching.{branches_in, plan_or, put_as, single_branch}
use Rattle.ca_commit.specs.declared.planned.Plan.{Plan}

-- the branches of an alts are those of its ports
pub branches_are : (vs : List Value) → map branch_of (values_in (trees vs)) ≡ branches_in vs
branches_are [] = refl
branches_are (v ∷ vs) = ap (λ bs. branch_of (view v) ∷ bs) (branches_are vs)

pub count_is : (vs : List Value) → length (branches_in vs) ≡ length vs
count_is [] = refl
count_is (v ∷ vs) = ap suc (count_is vs)

-- of one branch the looking begins there, whatever the start
pub begins_there : (n : ℕ) → n % 1 ≡ 0
begins_there n = let lt : n % 1 < 1 = omega arith in omega (arith, lt)

pub one_is : (x : Seen) (n : ℕ) (b : BranchView) (rest : Planned) → first_from x false (n % 1) (b ∷ []) rest ≡ decided (found_of x b) false 0 b rest
one_is x n b rest = ap (λ k. first_from x false k (b ∷ []) rest) (begins_there n)

-- what an alts becomes, by its ports
pub alts_is : (x : Seen) (vs : List Value) (priority : Bool) (default : Option Tree) (start : ℕ)
    → chosen x (choosing (trees vs) priority default) start ≡ first_from x true (cond priority 0 (start % length vs)) (branches_in vs) (otherwise x (choosing (trees vs) priority default) default)
alts_is x vs priority default start =
    ap (λ bs. first_from x true (cond priority 0 (start % length bs)) bs (otherwise x (choosing (trees vs) priority default) default)) (branches_are vs)
    ∙ ap (λ n. first_from x true (cond priority 0 (start % n)) (branches_in vs) (otherwise x (choosing (trees vs) priority default) default)) (count_is vs)

pub waits_is : (x : Seen) (vs : List Value) (priority : Bool) → otherwise x (choosing (trees vs) priority None) None ≡ all_counted x (branches_in vs) (to_park (branches_in vs))
waits_is x vs priority = ap (λ bs. all_counted x bs (to_park bs)) (branches_are vs)

-- the branches from a place on: the first of them, and then the others
pub cut_branches : (vs : List Value) (i : ℕ) (v : Value) → i < length vs → v ≡ get_or vs i v → branches_in (drop i vs) ≡ branch_of (view v) ∷ branches_in (drop (i + 1) vs)
cut_branches vs i v lt e = ap branches_in (drop-cons vs i v lt) ∙ ap (λ u. branch_of (view u) ∷ branches_in (drop (suc i) vs)) (sym e) ∙ ap (λ n. branch_of (view v) ∷ branches_in (drop n vs)) (sym (add-one i))

pub turn_step : (x : Seen) (base : ℕ) (vs : List Value) (i : ℕ) (v : Value) (rest : Planned) → i < length vs → v ≡ get_or vs i v
    → in_turn x true (base + i) (branches_in (drop i vs)) rest ≡ decided (found_of x (branch_of (view v))) true (base + i) (branch_of (view v)) (in_turn x true (base + (i + 1)) (branches_in (drop (i + 1) vs)) rest)
turn_step x base vs i v rest lt e = ap (λ bs. in_turn x true (base + i) bs rest) (cut_branches vs i v lt e)
    ∙ ap (λ n. decided (found_of x (branch_of (view v))) true (base + i) (branch_of (view v)) (in_turn x true n (branches_in (drop (i + 1) vs)) rest)) (let s : (base + i) + 1 ≡ base + (i + 1) = omega arith in s)

pub count_step : (x : Seen) (vs : List Value) (i : ℕ) (v : Value) (rest : Planned) → i < length vs → v ≡ get_or vs i v
    → all_counted x (branches_in (drop i vs)) rest ≡ counted_for x (branch_of (view v)) (all_counted x (branches_in (drop (i + 1) vs)) rest)
count_step x vs i v rest lt e = ap (λ bs. all_counted x bs rest) (cut_branches vs i v lt e)

pub drop_in : (vs : List Value) (n : ℕ) → branches_in (drop n vs) ≡ drop n (branches_in vs)
drop_in vs zero = refl
drop_in [] (suc n) = refl
drop_in (v ∷ vs) (suc n) = drop_in vs n

pub take_in : (vs : List Value) (n : ℕ) → branches_in (take n vs) ≡ take n (branches_in vs)
take_in vs zero = refl
take_in [] (suc n) = refl
take_in (v ∷ vs) (suc n) = ap (λ bs. branch_of (view v) ∷ bs) (take_in vs n)

-- the branches from a number on decide
pub first_part : (x : Seen) (at : ℕ) (vs : List Value) (p : Planned) → ((rest : Planned) → p ≡ in_turn x true at (branches_in (take (length vs - at) (drop at vs))) rest) → (rest : Planned) → p ≡ first_from x true at (branches_in vs) rest
first_part x at vs p f rest = f (in_turn x true 0 (take at (branches_in vs)) rest) ∙ ap (λ bs. in_turn x true at bs (in_turn x true 0 (take at (branches_in vs)) rest)) (ap branches_in (take_rest vs at) ∙ drop_in vs at)

-- or those before it
pub second_part : (x : Seen) (at : ℕ) (vs : List Value) (r : Result (Option Plan) OutOfMemory) → ((rest : Planned) → rest ≡ in_turn x true at (branches_in (take (length vs - at) (drop at vs))) rest) → IfOk r (λ o. (rest : Planned) → plan_or o rest ≡ in_turn x true 0 (branches_in (take at vs)) rest)
    → IfOk r (λ o. (rest : Planned) → plan_or o rest ≡ first_from x true at (branches_in vs) rest)
second_part x at vs (Ok o) f g = λ rest. g rest ∙ ap (λ bs. in_turn x true 0 bs rest) (take_in vs at) ∙ f (in_turn x true 0 (take at (branches_in vs)) rest) ∙ ap (λ bs. in_turn x true at bs (in_turn x true 0 (take at (branches_in vs)) rest)) (ap branches_in (take_rest vs at) ∙ drop_in vs at)
second_part x at vs (Err e) f g = tt

module _ (x : Seen) where
  -- a take, a put and a posted put have one branch
  take_is : (c : Tree) (start : ℕ) → not_a_channel (state_of x.ports x.registries) c ≡ None → planned x (taking c) start ≡ single_branch x true (take_of (port_of_value c))
  take_is c start e = ap (λ f. unless_refused x f (chosen x (taking c) start)) e ∙ one_is x start (take_of (port_of_value c)) (otherwise x (taking c) None)

  put_is : (c v : Tree) (start : ℕ) → or_else (not_a_channel (state_of x.ports x.registries) c) (nil_put v) ≡ None → planned x (putting c v) start ≡ single_branch x true (put_of (port_of_value c) v)
  put_is c v start e = ap (λ f. unless_refused x f (chosen x (putting c v) start)) e ∙ one_is x start (put_of (port_of_value c) v) (otherwise x (putting c v) None)

  post_is : (c v : Tree) (start : ℕ) → or_else (not_a_channel (state_of x.ports x.registries) c) (nil_put v) ≡ None → planned x (posting c v) start ≡ single_branch x false (put_of (port_of_value c) v)
  post_is c v start e = ap (λ f. unless_refused x f (chosen x (posting c v) start)) e ∙ one_is x start (put_of (port_of_value c) v) (otherwise x (posting c v) None)

  -- what the code has planned, where it plans anything
  becomes : (p q : Planned) (r : Result Plan OutOfMemory) → q ≡ p → IfOk r (λ k. plan_view k ≡ q) → IfOk r (λ k. plan_view k ≡ p)
  becomes p q (Ok k) e f = f ∙ e
  becomes p q (Err k) e f = tt

  pub take_planned : (c : Tree) (n start : ℕ) (r : Result Plan OutOfMemory) → not_a_channel (state_of x.ports x.registries) c ≡ None → n ≡ port_of_value c → IfOk r (λ k. plan_view k ≡ single_branch x true (take_of n)) → IfOk r (λ k. plan_view k ≡ planned x (taking c) start)
  take_planned c n start r e f h = becomes (planned x (taking c) start) (single_branch x true (take_of n)) r (ap (λ m. single_branch x true (take_of m)) f ∙ sym (take_is c start e)) h

  pub put_planned : (parks : Bool) (c v : Tree) (n start : ℕ) (r : Result Plan OutOfMemory) → or_else (not_a_channel (state_of x.ports x.registries) c) (nil_put v) ≡ None → n ≡ port_of_value c → IfOk r (λ k. plan_view k ≡ single_branch x parks (put_of n v)) → IfOk r (λ k. plan_view k ≡ planned x (put_as parks c v) start)
  put_planned true c v n start r e f h = becomes (planned x (putting c v) start) (single_branch x true (put_of n v)) r (ap (λ m. single_branch x true (put_of m v)) f ∙ sym (put_is c v start e)) h
  put_planned false c v n start r e f h = becomes (planned x (posting c v) start) (single_branch x false (put_of n v)) r (ap (λ m. single_branch x false (put_of m v)) f ∙ sym (post_is c v start e)) h

  -- an alts where no branch is ready
  pub unready_planned : (vs : List Value) (priority : Bool) (d : Option Value) (r : Result Plan OutOfMemory) → d ≡ None → IfOk r (λ k. plan_view k ≡ all_counted x (branches_in vs) (to_park (branches_in vs))) → IfOk r (λ k. plan_view k ≡ otherwise x (choosing (trees vs) priority (option_map view d)) (option_map view d))
  unready_planned vs priority d r e h = becomes (otherwise x (choosing (trees vs) priority (option_map view d)) (option_map view d)) (all_counted x (branches_in vs) (to_park (branches_in vs))) r (sym (ap (λ o. otherwise x (choosing (trees vs) priority (option_map view o)) (option_map view o)) e ∙ waits_is x vs priority)) h

  -- an alts whose operands are right
  from_is : (vs : List Value) (priority : Bool) (d : Option Tree) (start at : ℕ) → at ≡ cond priority 0 (start % length vs) → first_from x true at (branches_in vs) (otherwise x (choosing (trees vs) priority d) d) ≡ chosen x (choosing (trees vs) priority d) start
  from_is vs priority d start at e = ap (λ n. first_from x true n (branches_in vs) (otherwise x (choosing (trees vs) priority d) d)) e ∙ sym (alts_is x vs priority d start)

  pub found_planned : (vs : List Value) (priority : Bool) (d : Option Tree) (start at : ℕ) (o : Option Plan) (p : Plan) → at ≡ cond priority 0 (start % length vs) → o ≡ Some p → ((rest : Planned) → plan_or o rest ≡ first_from x true at (branches_in vs) rest) → plan_view p ≡ chosen x (choosing (trees vs) priority d) start
  found_planned vs priority d start at o p e f h = ap (λ z. plan_or z (otherwise x (choosing (trees vs) priority d) d)) (sym f) ∙ h (otherwise x (choosing (trees vs) priority d) d) ∙ from_is vs priority d start at e

  pub rest_planned : (vs : List Value) (priority : Bool) (d : Option Tree) (start at : ℕ) (o : Option Plan) (r : Result Plan OutOfMemory) → at ≡ cond priority 0 (start % length vs) → o ≡ None → ((rest : Planned) → plan_or o rest ≡ first_from x true at (branches_in vs) rest)
      → IfOk r (λ k. plan_view k ≡ otherwise x (choosing (trees vs) priority d) d) → IfOk r (λ k. plan_view k ≡ chosen x (choosing (trees vs) priority d) start)
  rest_planned vs priority d start at o r e f h g = becomes (chosen x (choosing (trees vs) priority d) start) (otherwise x (choosing (trees vs) priority d) d) r (ap (λ z. plan_or z (otherwise x (choosing (trees vs) priority d) d)) (sym f) ∙ h (otherwise x (choosing (trees vs) priority d) d) ∙ from_is vs priority d start at e) g

-- the operation is that one
pub plans_at : (x : Seen) (op v : OpView) (start : ℕ) (r : Result Plan OutOfMemory) → op ≡ v → IfOk r (λ k. plan_view k ≡ planned x v start) → IfOk r (λ k. plan_view k ≡ planned x op start)
plans_at x op v start r e h = becomes x (planned x op start) (planned x v start) r (ap (λ o. planned x o start) (sym e)) h

pub plan_at : (x : Seen) (op v : OpView) (start : ℕ) (p : Planned) → op ≡ v → p ≡ planned x v start → p ≡ planned x op start
plan_at x op v start p e h = h ∙ ap (λ o. planned x o start) (sym e)
