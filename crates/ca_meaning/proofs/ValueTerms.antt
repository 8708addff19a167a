-- A term whose constants are values stays one by a local step and with an answer.
use Rattle.std.proofs.Common.{◌≡◌, ℕ, zero, suc, List, [], ◌∷◌, ◌++◌, refl, sym, ap, subst, arith, Bool, true, false, cond, Ok, Err, ◌==◌}
use Rattle.ca_value.specs.Tree.{Tree, Trees, nil, none as no_values, item as value_item}
use Rattle.ca_value.specs.IsValue.{Scalars, any, written, IsKeyword, is_keyword, IsValue, AreValues}
use Rattle.ca_value.specs.Outcome.{Outcome}
use Rattle.ca_value.specs.Builtins.{builtin_result}
use Rattle.ca_value.specs.declared.builtin.Builtin.{Builtin as BuiltinName}
use Rattle.ca_value.proofs.SoundBuiltins.{result_is_value}
use Rattle.ca_term.specs.declared.head.Head.{Head}
use Rattle.ca_term.specs.declared.head.Head.TheVariants.{Recur, Builtin, Call}
use Rattle.ca_term.specs.declared.place.Place.{Place}
use Rattle.ca_term.specs.Kernel.{Kernel, Kernels, Bindings, Founds, const, var, branch, bind, loop, seq, frame, turn, apply, none, item, empty, binding, put, put_items, put_bindings, puts}
use Rattle.ca_term.specs.Fits.{count_terms}
use Rattle.ca_term.specs.Source.{IsFew}
use Rattle.ca_term.specs.Program.{ProgramView, ProcedureView}
use Rattle.ca_meaning.specs.Redex.{redex, redex_items, redex_binding, replace, replace_items, replace_binding, is_value, value_of, all_values, values_of, is_open, is_ready_recur}
use Rattle.ca_meaning.specs.Started.{named, procedure_at, started}
use Rattle.ca_meaning.specs.Operands.{truth, values_in}
use Rattle.ca_meaning.specs.Body.{BodyView, after_do, after_turn, after_apply, contract, value_in}
use Rattle.ca_meaning.specs.Rest.{LocalSteps, here, after}
use Rattle.ca_meaning.specs.RunValues.{FoundsAreValues, HasValues, HaveValues, BindingsHaveValues}

pub keyword_is : (scalars : Scalars) (s : List ℕ) → is_keyword s ≡ true → IsKeyword scalars s
keyword_is any s e = tt
keyword_is written s e = e

module _ (scalars : Scalars) where
  abbrev pub AllHaveValues : List ProcedureView → Type 0
  AllHaveValues [] = Unit {0}
  AllHaveValues (p ∷ ps) = HasValues scalars p.body × AllHaveValues ps

  -- a program's constants are values
  pub record IsWritten (program : ProgramView) : Type 0 where
    pub functions : AllHaveValues program.functions
    pub bodies : AllHaveValues program.bodies
    pub main : HasValues scalars program.main

  pub nil_is_value : IsValue scalars nil
  nil_is_value = record { regular = tt; light = omega arith; shallow = omega arith }

  -- values
  pub value_is : (t : Kernel) → HasValues scalars t → IsValue scalars (value_of t)
  value_is (const v) h = h
  value_is (var n) h = nil_is_value
  value_is (branch c a b) h = nil_is_value
  value_is (bind bs body) h = nil_is_value
  value_is (loop fs bs body) h = nil_is_value
  value_is (seq ts) h = nil_is_value
  value_is (frame body) h = nil_is_value
  value_is (turn ns text now) h = nil_is_value
  value_is (apply f ts p) h = nil_is_value

  pub values_are : (ts : Kernels) → HaveValues scalars ts → AreValues scalars (values_of ts)
  values_are none h = tt
  values_are (item t ts) h = (value_is t h.0, values_are ts h.1)

  -- a value put in for a name
  count_put : (n : ℕ) (v : Tree) (ts : Kernels) → count_terms (put_items n v ts) ≡ count_terms ts
  count_put n v none = refl
  count_put n v (item t ts) = ap suc (count_put n v ts)

  put_var : (b : Bool) (v : Tree) (m : ℕ) → IsValue scalars v → HasValues scalars (cond b (const v) (var m))
  put_var true v m h = h
  put_var false v m h = tt

  mutual
    pub put_has : (n : ℕ) (v : Tree) (t : Kernel) → IsValue scalars v → HasValues scalars t → HasValues scalars (put n v t)
    put_has n v (const w) i h = h
    put_has n v (var m) i h = put_var (m == n) v m i
    put_has n v (branch c a b) i h = (put_has n v c i h.0, put_has n v a i h.1, put_has n v b i h.2)
    put_has n v (bind bs body) i h = (put_bindings_has n v bs i h.0, put_has n v body i h.1)
    put_has n v (loop fs bs body) i h = (h.0, put_bindings_has n v bs i h.1, put_has n v body i h.2)
    put_has n v (seq ts) i h = put_items_has n v ts i h
    put_has n v (frame body) i h = h
    put_has n v (turn names text now) i h = h
    put_has n v (apply f ts p) i h = (subst (IsFew f) (sym (count_put n v ts)) h.0, put_items_has n v ts i h.1)

    put_items_has : (n : ℕ) (v : Tree) (ts : Kernels) → IsValue scalars v → HaveValues scalars ts → HaveValues scalars (put_items n v ts)
    put_items_has n v none i h = tt
    put_items_has n v (item t ts) i h = (put_has n v t i h.0, put_items_has n v ts i h.1)

    put_bindings_has : (n : ℕ) (v : Tree) (bs : Bindings) → IsValue scalars v → BindingsHaveValues scalars bs → BindingsHaveValues scalars (put_bindings n v bs)
    put_bindings_has n v empty i h = tt
    put_bindings_has n v (binding m t bs) i h = (put_has n v t i h.0, put_bindings_has n v bs i h.1)

  pub puts_has : (fs : Founds) (t : Kernel) → FoundsAreValues scalars fs → HasValues scalars t → HasValues scalars (puts fs t)
  puts_has [] t i h = h
  puts_has (f ∷ fs) t i h = puts_has fs (put f.0 f.1 t) i.1 (put_has f.0 f.1 t i.0 h)

  abbrev pub EachIsValue : List Tree → Type 0
  EachIsValue [] = Unit {0}
  EachIsValue (v ∷ vs) = IsValue scalars v × EachIsValue vs

  pub in_list : (vs : Trees) → AreValues scalars vs → EachIsValue (values_in vs)
  in_list no_values h = tt
  in_list (value_item v vs) h = (h.0, in_list vs h.1)

  pub named_are : (ns : List ℕ) (vs : List Tree) → EachIsValue vs → FoundsAreValues scalars (named ns vs)
  named_are [] vs h = tt
  named_are (n ∷ ns) [] h = tt
  named_are (n ∷ ns) (v ∷ vs) h = (h.0, named_are ns vs h.1)

  pub found_more : (fs : Founds) (n : ℕ) (v : Tree) → FoundsAreValues scalars fs → IsValue scalars v → FoundsAreValues scalars (fs ++ (n, v) ∷ [])
  found_more [] n v h i = (i, tt)
  found_more (f ∷ fs) n v h i = (h.0, found_more fs n v h.1 i)

  -- choices
  pub choose : (b : Bool) (x y : Kernel) → HasValues scalars x → HasValues scalars y → HasValues scalars (cond b x y)
  choose true x y g h = g
  choose false x y g h = h

  choose_items : (b : Bool) (x y : Kernels) → HaveValues scalars x → HaveValues scalars y → HaveValues scalars (cond b x y)
  choose_items true x y g h = g
  choose_items false x y g h = h

  -- the redex
  mutual
    pub redex_has : (t : Kernel) → HasValues scalars t → HasValues scalars (redex t)
    redex_has (const v) h = h
    redex_has (var n) h = h
    redex_has (branch c a b) h = choose (is_value c) (branch c a b) (redex c) h (redex_has c h.0)
    redex_has (bind bs body) h = redex_binding_has bs (bind bs body) h.0 h
    redex_has (loop fs bs body) h = redex_binding_has bs (loop fs bs body) h.1 h
    redex_has (seq none) h = h
    redex_has (seq (item t none)) h = h
    redex_has (seq (item t (item u us))) h = choose (is_value t) (seq (item t (item u us))) (redex t) h (redex_has t h.0)
    redex_has (frame body) h = choose (is_value body) (frame body) (redex body) h (redex_has body h)
    redex_has (turn ns text now) h = choose (is_value now) (turn ns text now) (cond (is_ready_recur now) (turn ns text now) (redex now)) h (choose (is_ready_recur now) (turn ns text now) (redex now) h (redex_has now h.1))
    redex_has (apply f ts p) h = redex_items_has ts (apply f ts p) h.1 h

    redex_items_has : (ts : Kernels) (whole : Kernel) → HaveValues scalars ts → HasValues scalars whole → HasValues scalars (redex_items ts whole)
    redex_items_has none whole h g = g
    redex_items_has (item t ts) whole h g = choose (is_value t) (redex_items ts whole) (redex t) (redex_items_has ts whole h.1 g) (redex_has t h.0)

    redex_binding_has : (bs : Bindings) (whole : Kernel) → BindingsHaveValues scalars bs → HasValues scalars whole → HasValues scalars (redex_binding bs whole)
    redex_binding_has empty whole h g = g
    redex_binding_has (binding n t bs) whole h g = choose (is_value t) whole (redex t) g (redex_has t h.0)

  -- another term in place of the redex
  choose_few : (f : Head) (b : Bool) (x y : Kernels) → IsFew f (count_terms x) → IsFew f (count_terms y) → IsFew f (count_terms (cond b x y))
  choose_few f true x y g h = g
  choose_few f false x y g h = h

  count_choice : (b : Bool) (x y : Kernels) (k : ℕ) → count_terms x ≡ k → count_terms y ≡ k → count_terms (cond b x y) ≡ k
  count_choice true x y k g h = g
  count_choice false x y k g h = h

  count_replace : (u : Kernel) (ts : Kernels) → count_terms (replace_items u ts) ≡ count_terms ts
  count_replace u none = refl
  count_replace u (item t ts) = count_choice (is_value t) (item t (replace_items u ts)) (item (replace u t) ts) (suc (count_terms ts)) (ap suc (count_replace u ts)) refl

  mutual
    pub replace_has : (u t : Kernel) → HasValues scalars u → HasValues scalars t → HasValues scalars (replace u t)
    replace_has u (const v) g h = g
    replace_has u (var n) g h = g
    replace_has u (branch c a b) g h = choose (is_value c) u (branch (replace u c) a b) g (replace_has u c g h.0, h.1, h.2)
    replace_has u (bind bs body) g h = choose (is_open bs) (bind (replace_binding u bs) body) u (replace_binding_has u bs g h.0, h.1) g
    replace_has u (loop fs bs body) g h = choose (is_open bs) (loop fs (replace_binding u bs) body) u (h.0, replace_binding_has u bs g h.1, h.2) g
    replace_has u (seq none) g h = g
    replace_has u (seq (item t none)) g h = g
    replace_has u (seq (item t (item v vs))) g h = choose (is_value t) u (seq (item (replace u t) (item v vs))) g (replace_has u t g h.0, h.1)
    replace_has u (frame body) g h = choose (is_value body) u (frame (replace u body)) g (replace_has u body g h)
    replace_has u (turn ns text now) g h = choose (is_value now) u (cond (is_ready_recur now) u (turn ns text (replace u now))) g (choose (is_ready_recur now) u (turn ns text (replace u now)) g (h.0, replace_has u now g h.1))
    replace_has u (apply f ts p) g h = choose (all_values ts) u (apply f (replace_items u ts) p) g (subst (IsFew f) (sym (count_replace u ts)) h.0, replace_items_has u ts g h.1)

    replace_items_has : (u : Kernel) (ts : Kernels) → HasValues scalars u → HaveValues scalars ts → HaveValues scalars (replace_items u ts)
    replace_items_has u none g h = tt
    replace_items_has u (item t ts) g h = choose_items (is_value t) (item t (replace_items u ts)) (item (replace u t) ts) (h.0, replace_items_has u ts g h.1) (replace_has u t g h.0, h.1)

    replace_binding_has : (u : Kernel) (bs : Bindings) → HasValues scalars u → BindingsHaveValues scalars bs → BindingsHaveValues scalars (replace_binding u bs)
    replace_binding_has u empty g h = tt
    replace_binding_has u (binding n t bs) g h = (replace_has u t g h.0, h.1)

  -- a local step
  pub outcome_is_value : (b : BuiltinName) (vs : Trees) (o : Outcome) → builtin_result b vs ≡ o → AreValues scalars vs → IsValue scalars (value_in o)
  outcome_is_value b vs (Ok v) e h = result_is_value scalars b vs v h e
  outcome_is_value b vs (Err f) e h = nil_is_value

  pub procedure_has : (ps : List ProcedureView) (n : ℕ) → AllHaveValues ps → HasValues scalars (procedure_at ps n).body
  procedure_has [] n h = nil_is_value
  procedure_has (p ∷ ps) zero h = h.0
  procedure_has (p ∷ ps) (suc n) h = procedure_has ps n h.1

  pub started_has : (ps : List ProcedureView) (n : ℕ) (vs : List Tree) → AllHaveValues ps → EachIsValue vs → HasValues scalars (started (procedure_at ps n) vs)
  started_has ps n vs h i = puts_has (named (procedure_at ps n).parameters vs) (procedure_at ps n).body (named_are (procedure_at ps n).parameters vs i) (procedure_has ps n h)

  do_has : (ts : Kernels) → HaveValues scalars ts → HasValues scalars (after_do ts)
  do_has none h = nil_is_value
  do_has (item t none) h = h.0
  do_has (item t (item u us)) h = h.1

  turn_has : (names : List ℕ) (text now : Kernel) → HasValues scalars text → HasValues scalars now → HasValues scalars (after_turn names text now)
  turn_has names text (apply Recur ts p) g h = (g, puts_has (named names (values_in (values_of ts))) text (named_are names (values_in (values_of ts)) (in_list (values_of ts) (values_are ts h.1))) g)
  turn_has names text now g h = h

  module _ (program : ProgramView) (written : IsWritten program) where
    apply_has : (h : Head) (ts : Kernels) (p : Place) → HasValues scalars (apply h ts p) → HasValues scalars (after_apply program ts p h)
    apply_has (Builtin b) ts p h = outcome_is_value b (values_of ts) (builtin_result b (values_of ts)) refl (values_are ts h.1)
    apply_has (Call n) ts p h = started_has program.functions n (values_in (values_of ts)) written.functions (in_list (values_of ts) (values_are ts h.1))
    apply_has f ts p h = h

    contract_has : (t : Kernel) → HasValues scalars t → HasValues scalars (contract program t)
    contract_has (const v) h = h
    contract_has (var n) h = h
    contract_has (branch c a b) h = choose (truth (value_of c)) a b h.1 h.2
    contract_has (bind empty body) h = h.1
    contract_has (bind (binding n t bs) body) h = (put_bindings_has n (value_of t) bs (value_is t h.0.0) h.0.1, put_has n (value_of t) body (value_is t h.0.0) h.1)
    contract_has (loop fs empty body) h = (h.2, puts_has fs body h.0 h.2)
    contract_has (loop fs (binding n t bs) body) h = (found_more fs n (value_of t) h.0 (value_is t h.1.0), put_bindings_has n (value_of t) bs (value_is t h.1.0) h.1.1, h.2)
    contract_has (seq ts) h = do_has ts h
    contract_has (frame body) h = h
    contract_has (turn ns text now) h = turn_has ns text now h.0 h.1
    contract_has (apply f ts p) h = apply_has f ts p h

    pub stepped_has : (t : Kernel) → HasValues scalars t → HasValues scalars (replace (contract program (redex t)) t)
    stepped_has t h = replace_has (contract program (redex t)) t (contract_has (redex t) (redex_has t h)) h

    pub rested_has : {b c : BodyView} → LocalSteps program b c → HasValues scalars b.term → HasValues scalars c.term
    rested_has here h = h
    rested_has {b} {c} (after l steps) h = rested_has steps (stepped_has b.term h)

  pub filled_has : (v : Tree) (t : Kernel) → IsValue scalars v → HasValues scalars t → HasValues scalars (replace (const v) t)
  filled_has v t i h = replace_has (const v) t i h
