-- Where a body stands whose values are values, it asks with values, and puts what may be offered.
use Rattle.std.specs.Prelude.{map as each_of}
use Rattle.std.proofs.lemmas.Bool.Decides.{nat_tests}
use Rattle.std.proofs.Common.{◌≡◌, ℕ, zero, suc, ◌+◌, ◌≤◌, ◌<◌, List, length, refl, sym, ap, subst, arith, ◌∙◌, Bool, true, false, cond, if◌then◌else◌, Option, Some, None, Result, Ok, Err, nat_le, ◌&&◌, pos}
use Rattle.ca_value.specs.Tree.{Tree, Trees, nil, int, text, vector, none as no_values, item as value_item}
use Rattle.ca_value.specs.Measure.{weight_of, depth_of, weight_of_items, depth_of_items}
use Rattle.ca_value.specs.IsValue.{Scalars, IsValue, AreValues, IsRegular, AreRegular}
use Rattle.ca_value.specs.declared.fault.ValueFault.TheVariants.{TooHeavy, TooNested}
use Rattle.ca_term.specs.declared.place.Place.{Place}
use Rattle.ca_term.specs.declared.fault.Fault.{Fault}
use Rattle.ca_term.specs.declared.head.Head.{Head}
use Rattle.ca_term.specs.declared.head.Head.TheVariants.{Recur, Builtin, Call, Take, Put, Alts, Make, Spawn, Close, Register, Print, Post}
use Rattle.ca_term.specs.declared.head.AltsOptions.{AltsOptions}
use Rattle.ca_term.specs.declared.head.MakeKind.{MakeKind}
use Rattle.ca_term.specs.declared.head.SeedKind.{SeedKind}
use Rattle.ca_term.specs.Kernel.{Kernel, Kernels, const, turn, apply, none, item}
use Rattle.ca_term.specs.Fits.{count_terms}
use Rattle.ca_term.specs.Cost.{weight_of_branches}
use Rattle.ca_term.specs.Operation.{OpView, WhatView, fixed, dropping, sliding, timeout, putting, posting, printing}
use Rattle.ca_meaning.specs.declared.body.FaultAt.{FaultAt}
use Rattle.ca_meaning.specs.Redex.{redex, values_of}
use Rattle.ca_meaning.specs.Operands.{first_of, rest_of, second_of, third_of, without_last, count_of, is_pair, values_in}
use Rattle.ca_meaning.specs.Asking.{fault_in, too_large, too_large_branch, too_large_branches, alts_ports, not_a_vector, bad_branches, default_in, too_large_default, bad_alts, alts_of, ranged, sized, made_of, seed_of}
use Rattle.ca_meaning.specs.Body.{BodyView, At, local, faulted, line_of, asking, asking_to_make, standing_with, standing_turn, standing, at_or, at}
use Rattle.ca_meaning.specs.Asks.{too_large_here}
use Rattle.ca_meaning.specs.Choice.{branch_of}
use Rattle.ca_meaning.proofs.Refusals.{or_none}
use Rattle.ca_meaning.specs.RunValues.{IsOffered, HasValues, IsOfferedDefault, MadeOf, SeedHas, PortHas, PortsHave, OpHas, AtHas}
use Rattle.ca_meaning.proofs.ValueTerms.{nil_is_value, values_are, redex_has}

module _ (scalars : Scalars) where
  -- parts of a value
  pub parts_are : (ts : Trees) → AreRegular scalars ts → weight_of_items ts ≤ 131072 → depth_of_items ts ≤ 80 → AreValues scalars ts
  parts_are no_values d w n = tt
  parts_are (value_item t ts) d w n =
      let a : weight_of t + weight_of_items ts ≤ 131072 = w in
      (record { regular = d.0; light = omega (arith, a); shallow = omega (arith, n) }, parts_are ts d.1 (omega (arith, a)) (omega (arith, n)))

  pub vector_parts : (ts : Trees) → IsValue scalars (vector ts) → AreValues scalars ts
  vector_parts ts h =
      let a : suc (weight_of_items ts) ≤ 131072 = h.light in
      let b : suc (depth_of_items ts) ≤ 80 = h.shallow in
      parts_are ts h.regular (omega (arith, a)) (omega (arith, b))

  pub are_distinct : (ts : Trees) → AreValues scalars ts → AreRegular scalars ts
  are_distinct no_values h = tt
  are_distinct (value_item t ts) h = (h.0.regular, are_distinct ts h.1)

  pub offered_is_value : (v : Tree) → IsOffered scalars v → IsValue scalars v
  offered_is_value v h = let a = h.light in let b = h.shallow in record { regular = h.regular; light = omega (arith, a); shallow = omega (arith, b) }

  pub first_is : (vs : Trees) → AreValues scalars vs → IsValue scalars (first_of vs)
  first_is no_values h = nil_is_value scalars
  first_is (value_item v vs) h = h.0

  pub rest_is : (vs : Trees) → AreValues scalars vs → AreValues scalars (rest_of vs)
  rest_is no_values h = tt
  rest_is (value_item v vs) h = h.1

  pub second_is : (vs : Trees) → AreValues scalars vs → IsValue scalars (second_of vs)
  second_is vs h = first_is (rest_of vs) (rest_is vs h)

  pub third_is : (vs : Trees) → AreValues scalars vs → IsValue scalars (third_of vs)
  third_is vs h = second_is (rest_of vs) (rest_is vs h)

  -- what was judged
  judged_small : (v : Tree) (a b : Bool) → nat_le (weight_of v) 65536 ≡ a → nat_le (depth_of v) 64 ≡ b → IsRegular scalars v → fault_in (if a then (if b then Ok v else Err TooNested) else Err TooHeavy) ≡ None → IsOffered scalars v
  judged_small v true true p q d e = record { regular = d; light = grind (arith, nat_tests); shallow = grind (arith, nat_tests) }
  judged_small v true false p q d e = cc
  judged_small v false b p q d e = cc

  pub small_offered : (v : Tree) → IsRegular scalars v → too_large v ≡ None → IsOffered scalars v
  small_offered v d e = judged_small v (nat_le (weight_of v) 65536) (nat_le (depth_of v) 64) refl refl d e

  judged_here : (v : Tree) (a b : Bool) → nat_le (weight_of v) 131_000 ≡ a → nat_le (depth_of v) 78 ≡ b → IsRegular scalars v → cond a (cond b None (Some Fault.TooNested)) (Some Fault.TooHeavy) ≡ None → IsOffered scalars v
  judged_here v true true p q d e = record { regular = d; light = grind (arith, nat_tests); shallow = grind (arith, nat_tests) }
  judged_here v true false p q d e = cc
  judged_here v false b p q d e = cc

  pub here_offered : (v : Tree) → IsRegular scalars v → too_large_here v ≡ None → IsOffered scalars v
  here_offered v d e = judged_here v (nat_le (weight_of v) 131_000) (nat_le (depth_of v) 78) refl refl d e

  judged_line : (line : List ℕ) (a b : Bool) → nat_le (weight_of (text line)) 65536 ≡ a → fault_in (if a then (if b then Ok (text line) else Err TooNested) else Err TooHeavy) ≡ None → length line < 65_536
  judged_line line true b p e = let k : nat_le (suc (length line)) 65536 ≡ true = p in grind (arith, nat_tests)
  judged_line line false b p e = cc

  pub line_small : (line : List ℕ) → too_large (text line) ≡ None → length line < 65_536
  line_small line e = judged_line line (nat_le (weight_of (text line)) 65536) (nat_le (depth_of (text line)) 64) refl e

  -- the second of a pair
  second_distinct : (vs : Trees) → AreRegular scalars vs → IsRegular scalars (second_of vs)
  second_distinct no_values d = tt
  second_distinct (value_item a no_values) d = tt
  second_distinct (value_item a (value_item b vs)) d = d.1.0

  port_judged : (v : Tree) → IsRegular scalars v → too_large_branch v ≡ None → PortHas scalars v
  port_judged (vector vs) d e = by (is_pair vs) refl e where
    by : (b : Bool) → is_pair vs ≡ b → cond b (too_large (second_of vs)) None ≡ None → is_pair vs ≡ true → IsOffered scalars (second_of vs)
    by true is e t = small_offered (second_of vs) (second_distinct vs d) e
    by false is e t = absurd (let k : true ≡ false = sym t ∙ is in cc)
  port_judged v d e = tt

  pub ports_judged : (vs : Trees) → AreRegular scalars vs → too_large_branches vs ≡ None → PortsHave scalars vs
  ports_judged no_values d e = tt
  ports_judged (value_item v vs) d e = let k = or_none (too_large_branch v) (too_large_branches vs) e in (port_judged v d.0 k.0, ports_judged vs d.1 k.1)

  -- what the branches put is no heavier than the ports
  second_weighs : (vs : Trees) → weight_of (second_of vs) ≤ suc (weight_of_items vs)
  second_weighs no_values = omega arith
  second_weighs (value_item a no_values) = omega arith
  second_weighs (value_item a (value_item b vs)) = omega arith

  pub branches_light : (vs : Trees) → weight_of_branches (each_of branch_of (values_in vs)) ≤ weight_of_items vs
  branches_light no_values = omega arith
  branches_light (value_item (vector us) vs) = let k = branches_light vs in let s = second_weighs us in omega (arith, k, s)
  branches_light (value_item v vs) = let k = branches_light vs in omega (arith, k)

  ports_light : (v : Tree) → IsValue scalars v → weight_of_items (alts_ports v) ≤ 131_071
  ports_light (vector vs) h = let a = h.light in omega (arith, a)
  ports_light v h = omega arith

  ports_distinct : (v : Tree) → IsRegular scalars v → AreRegular scalars (alts_ports v)
  ports_distinct (vector vs) d = d
  ports_distinct v d = tt

  default_judged : (o : Option Tree) → ((v : Tree) → o ≡ Some v → IsRegular scalars v) → too_large_default o ≡ None → IsOfferedDefault scalars o
  default_judged None d e = tt
  default_judged (Some v) d e = small_offered v (d v refl) e

  some_distinct : (v w : Tree) → IsValue scalars v → Some v ≡ Some w → IsRegular scalars w
  some_distinct v w h e = subst (IsRegular scalars) (let k : v ≡ w = cc in k) h.regular

  default_distinct : (options : AltsOptions) (vs : Trees) → AreValues scalars vs → (v : Tree) → default_in options vs ≡ Some v → IsRegular scalars v
  default_distinct AltsOptions.None vs h v e = cc
  default_distinct AltsOptions.Priority vs h v e = cc
  default_distinct AltsOptions.Default vs h v e = some_distinct (second_of vs) v (second_is vs h) e
  default_distinct AltsOptions.PriorityThenDefault vs h v e = some_distinct (third_of vs) v (third_is vs h) e
  default_distinct AltsOptions.DefaultThenPriority vs h v e = some_distinct (second_of vs) v (second_is vs h) e

  alts_judged : (options : AltsOptions) (vs : Trees) → AreValues scalars vs → bad_alts options vs ≡ None → OpHas scalars (alts_of options vs)
  alts_judged options vs h e =
      let k = or_none (bad_branches (first_of vs)) (too_large_default (default_in options vs)) e in
      let j = or_none (not_a_vector (first_of vs)) (too_large_branches (alts_ports (first_of vs))) k.0 in
      let light = branches_light (alts_ports (first_of vs)) in
      let vector_light = ports_light (first_of vs) (first_is vs h) in
      (ports_judged (alts_ports (first_of vs)) (ports_distinct (first_of vs) (first_is vs h).regular) j.1, omega (arith, light, vector_light), default_judged (default_in options vs) (default_distinct options vs h) k.1)

  -- asking
  pub asks_with : (p : Place) (f : Option Fault) (op : OpView) → (f ≡ None → OpHas scalars op) → AtHas scalars (asking p f op)
  asks_with p None op h = h refl
  asks_with p (Some f) op h = tt

  abbrev MadeHas : Result WhatView Fault → Type 0
  MadeHas (Ok what) = MadeOf scalars what
  MadeHas (Err f) = Unit {0}

  makes_with : (p : Place) (r : Result WhatView Fault) → MadeHas r → AtHas scalars (asking_to_make p r)
  makes_with p (Ok what) h = h
  makes_with p (Err f) h = tt

  made_choice : (b : Bool) (x y : Result WhatView Fault) → MadeHas x → MadeHas y → MadeHas (cond b x y)
  made_choice true x y g h = g
  made_choice false x y g h = h

  ranged_has : (low high : ℕ) (make : ℕ → WhatView) (v : Tree) → ((n : ℕ) → MadeOf scalars (make n)) → MadeHas (ranged low high make v)
  ranged_has low high make (int (pos n)) h = made_choice (nat_le low n && nat_le n high) (Ok (make n)) (Err Fault.OutOfRange) (h n) tt
  ranged_has low high make v h = tt

  sized_has : (v : Tree) → MadeHas (sized v)
  sized_has nil = tt
  sized_has (int (pos zero)) = tt
  sized_has v = ranged_has 1 4096 fixed v (λ n. tt)

  made_has : (kind : MakeKind) (vs : Trees) → AreValues scalars vs → MadeHas (made_of kind vs)
  made_has MakeKind.Unbuffered vs h = tt
  made_has MakeKind.Sized vs h = sized_has (first_of vs)
  made_has MakeKind.Fixed vs h = ranged_has 1 4096 fixed (first_of vs) (λ n. tt)
  made_has MakeKind.Dropping vs h = ranged_has 1 4096 dropping (first_of vs) (λ n. tt)
  made_has MakeKind.Sliding vs h = ranged_has 1 4096 sliding (first_of vs) (λ n. tt)
  made_has MakeKind.Promise vs h = tt
  made_has MakeKind.Timeout vs h = ranged_has 0 86_400_000 timeout (first_of vs) (λ n. tt)
  made_has MakeKind.Mult vs h = first_is vs h
  made_has MakeKind.Mix vs h = (first_is vs h, second_is vs h)
  made_has MakeKind.Pub vs h = first_is vs h

  without_last_are : (vs : Trees) → AreValues scalars vs → AreValues scalars (without_last vs)
  without_last_are no_values h = tt
  without_last_are (value_item v no_values) h = tt
  without_last_are (value_item v (value_item w ws)) h = (h.0, without_last_are (value_item w ws) h.1)

  seed_has : (kind : SeedKind) (vs : Trees) (p : Place) → AreValues scalars vs → SeedHas scalars (seed_of kind vs p)
  seed_has (SeedKind.Go n) vs p h = without_last_are vs h
  seed_has (SeedKind.System task) vs p h = h

  count_values : (ts : Kernels) → count_of (values_of ts) ≡ count_terms ts
  count_values none = refl
  count_values (item t ts) = ap suc (count_values ts)

  fault_or_local : (b : Bool) (f : Fault) (p : Place) (a : At) → AtHas scalars a → AtHas scalars (cond b (faulted f p) a)
  fault_or_local true f p a h = tt
  fault_or_local false f p a h = h

  form_has : (turns depth : ℕ) (h : Head) (ts : Kernels) (p : Place) → HasValues scalars (apply h ts p) → AtHas scalars (standing_with turns depth (values_of ts) p h)
  form_has turns depth Recur ts p h = tt
  form_has turns depth (Builtin b) ts p h = tt
  form_has turns depth (Call n) ts p h = fault_or_local (nat_le 999_999 turns) Fault.Spun p (cond (nat_le 256 depth) (faulted Fault.TooDeep p) local) (fault_or_local (nat_le 256 depth) Fault.TooDeep p local tt)
  form_has turns depth Take ts p h = tt
  form_has turns depth Put ts p h = asks_with p _ (putting (first_of (values_of ts)) (second_of (values_of ts))) (small_offered (second_of (values_of ts)) (second_is (values_of ts) (values_are scalars ts h.1)).regular)
  form_has turns depth (Alts options) ts p h = asks_with p _ (alts_of options (values_of ts)) (alts_judged options (values_of ts) (values_are scalars ts h.1))
  form_has turns depth (Make kind) ts p h = makes_with p (made_of kind (values_of ts)) (made_has kind (values_of ts) (values_are scalars ts h.1))
  form_has turns depth (Spawn kind) ts p h = asks_with p _ _ (λ e. seed_has kind (values_of ts) p (values_are scalars ts h.1))
  form_has turns depth Close ts p h = tt
  form_has turns depth (Register name) ts p h = asks_with p _ _ (λ e. (values_are scalars ts h.1, subst (λ k. k ≤ 4) (sym (count_values ts)) h.0))
  form_has turns depth Print ts p h = asks_with p _ (printing (line_of (values_of ts))) (line_small (line_of (values_of ts)))
  form_has turns depth Post ts p h = asks_with p _ (posting (first_of (values_of ts)) (second_of (values_of ts))) (small_offered (second_of (values_of ts)) (second_is (values_of ts) (values_are scalars ts h.1)).regular)

  turn_stands : (turns : ℕ) (now : Kernel) → AtHas scalars (standing_turn turns now)
  turn_stands turns (apply Recur ts p) = fault_or_local (nat_le 999_999 turns) Fault.Spun p local tt
  turn_stands turns now = tt

  standing_has : (turns depth : ℕ) (t : Kernel) → HasValues scalars t → AtHas scalars (standing turns depth t)
  standing_has turns depth (turn names whole now) h = turn_stands turns now
  standing_has turns depth (apply f ts p) h = form_has turns depth f ts p h
  standing_has turns depth (const v) h = h
  standing_has turns depth t h = tt

  pub at_has : (b : BodyView) → HasValues scalars b.term → AtHas scalars (at b)
  at_has b h = by b.fault where
    by : (f : Option FaultAt) → AtHas scalars (at_or f (standing b.turns b.depth (redex b.term)))
    by None = standing_has b.turns b.depth (redex b.term) (redex_has scalars b.term h)
    by (Some f) = tt
