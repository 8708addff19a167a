-- A call in a hole goes as it goes alone; and from a lesser depth a body goes alike, where it doesn't fault.
use Rattle.std.proofs.Common.{◌≡◌, ◌≢◌, ℕ, ◌<◌, ◌≤◌, refl, sym, ap, ◌∙◌, subst, arith, Bool, true, false, cond, nat_le, Ok, Err, Option, Some, None, Result}
use Rattle.std.proofs.lemmas.Bool.{lt-leb, leb-false}
use Rattle.ca_value.specs.Tree.{Tree}
use Rattle.ca_term.specs.declared.place.Place.{Place}
use Rattle.ca_term.specs.declared.fault.Fault.{Fault}
use Rattle.ca_term.specs.declared.fault.Fault.TheVariants.{Spun, TooDeep}
use Rattle.ca_term.specs.declared.head.Head.TheVariants.{Recur, Builtin, Call, Take, Put, Alts, Make, Spawn, Close, Register, Print, Post}
use Rattle.ca_term.specs.Operation.{OpView, WhatView}
use Rattle.ca_term.specs.Kernel.{Kernel, Kernels, Bindings, const, var, branch, bind, loop, seq, frame, turn, apply, none, item, empty, binding}
use Rattle.ca_term.specs.Program.{ProgramView}
use Rattle.ca_meaning.specs.declared.body.FaultAt.{FaultAt}
use Rattle.ca_meaning.specs.Redex.{redex, redex_items, redex_binding, replace, is_value, all_values, is_ready_recur, values_of}
use Rattle.ca_meaning.specs.Asking.{made_of}
use Rattle.ca_meaning.specs.Body.{BodyView, At, local, ended, faulted, nowhere, at, at_or, standing, at_turn, at_call, asking, asking_to_make, step, contract, turns_after, depth_after, fault_of}
use Rattle.ca_meaning.specs.Rest.{LocalSteps, here, after, Rest}
use Rattle.ca_meaning.proofs.Sizes.{redex_items-values, no_fault}
use Rattle.ca_meaning.proofs.Contexts.{Context}
use Rattle.ca_derived_laws.proofs.Resting.{goes}

abbrev is_ended : At → Bool
is_ended (ended v) = true
is_ended a = false

asking_goes : (p : Place) (o : Option Fault) (op : OpView) → is_ended (asking p o op) ≡ false
asking_goes p None op = refl
asking_goes p (Some f) op = refl

making_goes : (p : Place) (o : Result WhatView Fault) → is_ended (asking_to_make p o) ≡ false
making_goes p (Ok w) = refl
making_goes p (Err f) = refl

turn_goes : (turns : ℕ) (p : Place) → is_ended (at_turn turns p) ≡ false
turn_goes turns p = by (nat_le 999_999 turns) where
  by : (b : Bool) → is_ended (cond b (faulted Spun p) local) ≡ false
  by true = refl
  by false = refl

call_goes : (turns depth : ℕ) (p : Place) → is_ended (at_call turns depth p) ≡ false
call_goes turns depth p = by (nat_le 999_999 turns) (nat_le 256 depth) where
  by : (b c : Bool) → is_ended (cond b (faulted Spun p) (cond c (faulted TooDeep p) local)) ≡ false
  by true c = refl
  by false true = refl
  by false false = refl

-- only a value stands at its end
ends_as_value : (turns depth : ℕ) (r : Kernel) → is_ended (standing turns depth r) ≡ true → is_value r ≡ true
ends_as_value turns depth (const v) h = refl
ends_as_value turns depth (var n) h = cc
ends_as_value turns depth (branch c a b) h = cc
ends_as_value turns depth (bind bs body) h = cc
ends_as_value turns depth (loop fs bs body) h = cc
ends_as_value turns depth (seq ts) h = cc
ends_as_value turns depth (frame body) h = cc
ends_as_value turns depth (turn names text (const v)) h = cc
ends_as_value turns depth (turn names text (var n)) h = cc
ends_as_value turns depth (turn names text (branch c a b)) h = cc
ends_as_value turns depth (turn names text (bind bs body)) h = cc
ends_as_value turns depth (turn names text (loop fs bs body)) h = cc
ends_as_value turns depth (turn names text (seq ts)) h = cc
ends_as_value turns depth (turn names text (frame body)) h = cc
ends_as_value turns depth (turn names text (turn ns u now)) h = cc
ends_as_value turns depth (turn names text (apply Recur ts p)) h = let k = turn_goes turns p in cc
ends_as_value turns depth (turn names text (apply (Builtin b) ts p)) h = cc
ends_as_value turns depth (turn names text (apply (Call n) ts p)) h = cc
ends_as_value turns depth (turn names text (apply Take ts p)) h = cc
ends_as_value turns depth (turn names text (apply Put ts p)) h = cc
ends_as_value turns depth (turn names text (apply (Alts o) ts p)) h = cc
ends_as_value turns depth (turn names text (apply (Make k) ts p)) h = cc
ends_as_value turns depth (turn names text (apply (Spawn k) ts p)) h = cc
ends_as_value turns depth (turn names text (apply Close ts p)) h = cc
ends_as_value turns depth (turn names text (apply (Register k) ts p)) h = cc
ends_as_value turns depth (turn names text (apply Print ts p)) h = cc
ends_as_value turns depth (turn names text (apply Post ts p)) h = cc
ends_as_value turns depth (apply Recur ts p) h = cc
ends_as_value turns depth (apply (Builtin b) ts p) h = cc
ends_as_value turns depth (apply (Call n) ts p) h = let k = call_goes turns depth p in cc
ends_as_value turns depth (apply Take ts p) h = cc
ends_as_value turns depth (apply Put ts p) h = absurd (let k : true ≡ false = sym h ∙ asking_goes p _ _ in cc)
ends_as_value turns depth (apply (Alts o) ts p) h = absurd (let k : true ≡ false = sym h ∙ asking_goes p _ _ in cc)
ends_as_value turns depth (apply (Make k) ts p) h = absurd (let j : true ≡ false = sym h ∙ making_goes p (made_of k (values_of ts)) in cc)
ends_as_value turns depth (apply (Spawn k) ts p) h = absurd (let j : true ≡ false = sym h ∙ asking_goes p _ _ in cc)
ends_as_value turns depth (apply Close ts p) h = cc
ends_as_value turns depth (apply (Register k) ts p) h = absurd (let j : true ≡ false = sym h ∙ asking_goes p _ _ in cc)
ends_as_value turns depth (apply Print ts p) h = absurd (let k : true ≡ false = sym h ∙ asking_goes p _ _ in cc)
ends_as_value turns depth (apply Post ts p) h = absurd (let k : true ≡ false = sym h ∙ asking_goes p _ _ in cc)

either : {v : Bool} (b : Bool) → v ≡ b → (x y : Kernel) → is_value x ≡ false → (v ≡ false → is_value y ≡ false) → is_value (cond b x y) ≡ false
either true e x y h k = h
either false e x y h k = k e

twice : {v : Bool} (b c : Bool) → v ≡ b → (x y : Kernel) → is_value x ≡ false → (v ≡ false → is_value y ≡ false) → is_value (cond b x (cond c x y)) ≡ false
twice true c e x y h k = h
twice false true e x y h k = h
twice false false e x y h k = k e

-- the redex of what is no value is none
mutual
  open_redex : (t : Kernel) → is_value t ≡ false → is_value (redex t) ≡ false
  open_redex (const v) h = cc
  open_redex (var n) h = refl
  open_redex (branch c a b) h = either (is_value c) refl (branch c a b) (redex c) refl (open_redex c)
  open_redex (bind bs body) h = open_binding bs (bind bs body) refl
  open_redex (loop fs bs body) h = open_binding bs (loop fs bs body) refl
  open_redex (seq none) h = refl
  open_redex (seq (item t none)) h = refl
  open_redex (seq (item t (item u us))) h = either (is_value t) refl (seq (item t (item u us))) (redex t) refl (open_redex t)
  open_redex (frame body) h = either (is_value body) refl (frame body) (redex body) refl (open_redex body)
  open_redex (turn ns text now) h = twice (is_value now) (is_ready_recur now) refl (turn ns text now) (redex now) refl (open_redex now)
  open_redex (apply f ts p) h = open_items ts (apply f ts p) refl

  open_items : (ts : Kernels) (r : Kernel) → is_value r ≡ false → is_value (redex_items ts r) ≡ false
  open_items none r h = h
  open_items (item t ts) r h = either (is_value t) refl (redex_items ts r) (redex t) (open_items ts r h) (open_redex t)

  open_binding : (bs : Bindings) (r : Kernel) → is_value r ≡ false → is_value (redex_binding bs r) ≡ false
  open_binding empty r h = h
  open_binding (binding n t bs) r h = either (is_value t) refl r (redex t) h (open_redex t)

-- a body that stands at its end is its value
pub value_at_end : (b : BodyView) (v : Tree) → at b ≡ ended v → (b.term ≡ const v) × (b.fault ≡ None)
value_at_end b v e = by b.fault refl where
  whole : (t : Kernel) → standing b.turns b.depth (redex t) ≡ ended v → (w : Bool) → is_value t ≡ w → t ≡ const v
  whole t k false o = absurd (let j : true ≡ false = sym (ends_as_value b.turns b.depth (redex t) (ap is_ended k)) ∙ open_redex t o in cc)
  whole (const w) k true o = ap const (let j : w ≡ v = cc in j)
  whole (var n) k true o = cc
  whole (branch c x y) k true o = cc
  whole (bind bs body) k true o = cc
  whole (loop fs bs body) k true o = cc
  whole (seq ts) k true o = cc
  whole (frame body) k true o = cc
  whole (turn ns text now) k true o = cc
  whole (apply f ts p) k true o = cc

  by : (f : Option FaultAt) → b.fault ≡ f → (b.term ≡ const v) × (b.fault ≡ None)
  by None f = (whole b.term (ap (λ o. at_or o (standing b.turns b.depth (redex b.term))) (sym f) ∙ e) (is_value b.term) refl, f)
  by (Some g) f = absurd (let j : faulted g.fault g.place ≡ ended v = ap (λ o. at_or o (standing b.turns b.depth (redex b.term))) (sym f) ∙ e in cc)

-- a term that neither is a value nor a recur without its turn
pub record IsOpen (t : Kernel) : Type 0 where
  pub value : is_value t ≡ false
  pub recur : is_ready_recur t ≡ false

pub open_term : (turns depth : ℕ) (t : Kernel) (a : At) → standing turns depth (redex t) ≡ a → is_ended a ≡ false → a ≢ nowhere → IsOpen t
open_term turns depth (const v) a e h n = absurd (let j : true ≡ false = ap is_ended e ∙ h in cc)
open_term turns depth (var m) a e h n = record { value = refl; recur = refl }
open_term turns depth (branch c x y) a e h n = record { value = refl; recur = refl }
open_term turns depth (bind bs body) a e h n = record { value = refl; recur = refl }
open_term turns depth (loop fs bs body) a e h n = record { value = refl; recur = refl }
open_term turns depth (seq ts) a e h n = record { value = refl; recur = refl }
open_term turns depth (frame body) a e h n = record { value = refl; recur = refl }
open_term turns depth (turn ns text now) a e h n = record { value = refl; recur = refl }
open_term turns depth (apply Recur ts p) a e h n = by (all_values ts) refl where
  by : (b : Bool) → all_values ts ≡ b → IsOpen (apply Recur ts p)
  by true o = absurd (n (sym e ∙ ap (standing turns depth) (redex_items-values ts (apply Recur ts p) o)))
  by false o = record { value = refl; recur = o }
open_term turns depth (apply (Builtin b) ts p) a e h n = record { value = refl; recur = refl }
open_term turns depth (apply (Call m) ts p) a e h n = record { value = refl; recur = refl }
open_term turns depth (apply Take ts p) a e h n = record { value = refl; recur = refl }
open_term turns depth (apply Put ts p) a e h n = record { value = refl; recur = refl }
open_term turns depth (apply (Alts o) ts p) a e h n = record { value = refl; recur = refl }
open_term turns depth (apply (Make k) ts p) a e h n = record { value = refl; recur = refl }
open_term turns depth (apply (Spawn k) ts p) a e h n = record { value = refl; recur = refl }
open_term turns depth (apply Close ts p) a e h n = record { value = refl; recur = refl }
open_term turns depth (apply (Register k) ts p) a e h n = record { value = refl; recur = refl }
open_term turns depth (apply Print ts p) a e h n = record { value = refl; recur = refl }
open_term turns depth (apply Post ts p) a e h n = record { value = refl; recur = refl }

abbrev pub put_in : (Kernel → Kernel) → BodyView → BodyView
put_in E b = record b { term = E b.term }

pub stands_in : (E : Kernel → Kernel) (b : BodyView) → Context E → IsOpen b.term → at (put_in E b) ≡ at b
stands_in E b c o = ap (λ r. at_or b.fault (standing b.turns b.depth r)) (c.redex_in b.term o.value o.recur)

module _ (program : ProgramView) where
  steps_in : (E : Kernel → Kernel) (b : BodyView) → Context E → IsOpen b.term → step program (put_in E b) ≡ put_in E (step program b)
  steps_in E b c o =
      let r : redex (E b.term) ≡ redex b.term = c.redex_in b.term o.value o.recur in
      ap (λ z. stepped (replace (contract program z) (E b.term)) z) r ∙ ap (λ t. stepped t (redex b.term)) (c.replace_in (contract program (redex b.term)) b.term o.value o.recur) where
        stepped : Kernel → Kernel → BodyView
        stepped t z = record { term = t; turns = turns_after z b.turns; depth = depth_after z b.depth; fault = fault_of z }

  -- the local steps of a body are those of a body that has it in a hole
  pub carried : (E : Kernel → Kernel) {b c : BodyView} → Context E → LocalSteps program b c → LocalSteps program (put_in E b) (put_in E c)
  carried E x here = here
  carried E {b} {c} x (after l s) =
      let n = no_fault b.fault (standing b.turns b.depth (redex b.term)) l in
      let o = open_term b.turns b.depth b.term local n.1 refl (λ e. cc) in
      after (stands_in E b x o ∙ l) (subst (λ z. LocalSteps program z (put_in E c)) (sym (steps_in E b x o)) (carried E x s))

  -- where a body goes on behind some of its steps
  pub behind : {b c d : BodyView} → LocalSteps program b c → Rest program b d → Rest program c d
  behind here r = r
  behind (after l s) r = behind s (goes l r)

abbrev pub is_fault : At → Bool
is_fault (faulted f p) = true
is_fault a = false

lower_call : (turns big small : ℕ) (p : Place) (a : At) → small ≤ big → at_call turns big p ≡ a → is_fault a ≡ false → at_call turns small p ≡ a
lower_call turns big small p a h e n = by (nat_le 999_999 turns) refl (nat_le 256 big) refl where
  by : (x : Bool) → nat_le 999_999 turns ≡ x → (y : Bool) → nat_le 256 big ≡ y → at_call turns small p ≡ a
  by true f y g = absurd (let j : faulted Spun p ≡ a = ap (λ b. cond b (faulted Spun p) (cond (nat_le 256 big) (faulted TooDeep p) local)) (sym f) ∙ e in let k : true ≡ false = ap is_fault j ∙ n in cc)
  by false f true g = absurd (let j : faulted TooDeep p ≡ a = ap (λ c. cond false (faulted Spun p) (cond c (faulted TooDeep p) local)) (sym g) ∙ ap (λ b. cond b (faulted Spun p) (cond (nat_le 256 big) (faulted TooDeep p) local)) (sym f) ∙ e in let k : true ≡ false = ap is_fault j ∙ n in cc)
  by false f false g =
      let less : nat_le 256 small ≡ false = lt-leb 256 small (let k : big < 256 = leb-false 256 big g in omega (arith, k, h)) in
      ap (λ b. cond b (faulted Spun p) (cond (nat_le 256 small) (faulted TooDeep p) local)) f ∙ ap (λ c. cond false (faulted Spun p) (cond c (faulted TooDeep p) local)) (less ∙ sym g)
      ∙ ap (λ b. cond b (faulted Spun p) (cond (nat_le 256 big) (faulted TooDeep p) local)) (sym f) ∙ e

lower_standing : (turns big small : ℕ) (r : Kernel) (a : At) → small ≤ big → standing turns big r ≡ a → is_fault a ≡ false → standing turns small r ≡ a
lower_standing turns big small (const v) a h e n = e
lower_standing turns big small (var m) a h e n = e
lower_standing turns big small (branch c x y) a h e n = e
lower_standing turns big small (bind bs body) a h e n = e
lower_standing turns big small (loop fs bs body) a h e n = e
lower_standing turns big small (seq ts) a h e n = e
lower_standing turns big small (frame body) a h e n = e
lower_standing turns big small (turn ns text now) a h e n = e
lower_standing turns big small (apply Recur ts p) a h e n = e
lower_standing turns big small (apply (Builtin b) ts p) a h e n = e
lower_standing turns big small (apply (Call m) ts p) a h e n = lower_call turns big small p a h e n
lower_standing turns big small (apply Take ts p) a h e n = e
lower_standing turns big small (apply Put ts p) a h e n = e
lower_standing turns big small (apply (Alts o) ts p) a h e n = e
lower_standing turns big small (apply (Make k) ts p) a h e n = e
lower_standing turns big small (apply (Spawn k) ts p) a h e n = e
lower_standing turns big small (apply Close ts p) a h e n = e
lower_standing turns big small (apply (Register k) ts p) a h e n = e
lower_standing turns big small (apply Print ts p) a h e n = e
lower_standing turns big small (apply Post ts p) a h e n = e

lower_depth : (r : Kernel) (big small : ℕ) → small ≤ big → depth_after r small ≤ depth_after r big
lower_depth (const v) big small h = h
lower_depth (var m) big small h = h
lower_depth (branch c x y) big small h = h
lower_depth (bind bs body) big small h = h
lower_depth (loop fs bs body) big small h = h
lower_depth (seq ts) big small h = h
lower_depth (frame body) big small h = omega (arith, h)
lower_depth (turn ns text now) big small h = h
lower_depth (apply Recur ts p) big small h = h
lower_depth (apply (Builtin b) ts p) big small h = h
lower_depth (apply (Call m) ts p) big small h = omega (arith, h)
lower_depth (apply Take ts p) big small h = h
lower_depth (apply Put ts p) big small h = h
lower_depth (apply (Alts o) ts p) big small h = h
lower_depth (apply (Make k) ts p) big small h = h
lower_depth (apply (Spawn k) ts p) big small h = h
lower_depth (apply Close ts p) big small h = h
lower_depth (apply (Register k) ts p) big small h = h
lower_depth (apply Print ts p) big small h = h
lower_depth (apply Post ts p) big small h = h

abbrev pub with_depth : ℕ → BodyView → BodyView
with_depth n b = record b { depth = n }

at_lower : (b : BodyView) (n : ℕ) (a : At) → n ≤ b.depth → at b ≡ a → is_fault a ≡ false → at (with_depth n b) ≡ a
at_lower b n a h e f = by b.fault refl where
  by : (o : Option FaultAt) → b.fault ≡ o → at (with_depth n b) ≡ a
  by None o = ap (λ g. at_or g (standing b.turns n (redex b.term))) o ∙ lower_standing b.turns b.depth n (redex b.term) a h (ap (λ g. at_or g (standing b.turns b.depth (redex b.term))) (sym o) ∙ e) f
  by (Some g) o = absurd (let j : faulted g.fault g.place ≡ a = ap (λ i. at_or i (standing b.turns b.depth (redex b.term))) (sym o) ∙ e in let k : true ≡ false = ap is_fault j ∙ f in cc)

module _ (program : ProgramView) where
  lower_steps : {b c : BodyView} (n : ℕ) → n ≤ b.depth → LocalSteps program b c → (m : ℕ) × (m ≤ c.depth) × LocalSteps program (with_depth n b) (with_depth m c)
  lower_steps n h here = (n, h, here)
  lower_steps {b} n h (after l s) =
      let k = lower_steps (depth_after (redex b.term) n) (lower_depth (redex b.term) b.depth n h) s in
      (k.0, k.1, after (at_lower b n local h l refl) k.2)

  -- what doesn't fault comes to the same from a lesser depth
  pub lower_rest : (b c : BodyView) (n : ℕ) → n ≤ b.depth → Rest program b c → is_fault (at c) ≡ false → (d : BodyView) × Rest program (with_depth n b) d × (at d ≡ at c)
  lower_rest b c n h r f =
      let k = lower_steps n h r.reached in
      let e : at (with_depth k.0 c) ≡ at c = at_lower c k.0 (at c) k.1 refl f in
      (with_depth k.0 c, record { reached = k.2; over = λ j. r.over (sym e ∙ j) }, e)

-- a body in a hole faults where it does
pub stands_faulted : (E : Kernel → Kernel) (b : BodyView) (f : Fault) (p : Place) → Context E → at b ≡ faulted f p → at (put_in E b) ≡ faulted f p
stands_faulted E b f p x e = by b.fault refl where
  by : (o : Option FaultAt) → b.fault ≡ o → at (put_in E b) ≡ faulted f p
  by None o = stands_in E b x (open_term b.turns b.depth b.term (faulted f p) (ap (λ g. at_or g (standing b.turns b.depth (redex b.term))) (sym o) ∙ e) refl (λ j. cc)) ∙ e
  by (Some g) o = ap (λ i. at_or i (standing b.turns b.depth (redex (E b.term)))) o ∙ ap (λ i. at_or i (standing b.turns b.depth (redex b.term))) (sym o) ∙ e
