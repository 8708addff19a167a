-- What a step does to the size of a term.
use Rattle.std.proofs.Common.{◌≡◌, ◌≢◌, ℕ, ◌+◌, ◌^◌, ◌<◌, suc, List, [], ◌∷◌, refl, ap, ◌∙◌, Bool, true, false, cond, not, ◌&&◌, ◌||◌, nat_le, leb-false, arith, Option, Some, None, Result, Ok, Err, ◌⊎◌, inl, inr}
use Rattle.ca_value.specs.Tree.{Tree, text as line_text}
use Rattle.ca_term.specs.declared.place.Place.{Place}
use Rattle.ca_term.specs.declared.head.Head.{Head}
use Rattle.ca_term.specs.declared.head.Head.TheVariants.{Recur, Builtin, Call, Take, Put, Alts, Make, Spawn, Close, Register, Print, Post}
use Rattle.ca_term.specs.declared.fault.Fault.{Fault}
use Rattle.ca_term.specs.declared.fault.Fault.TheVariants.{Spun, TooDeep}
use Rattle.ca_term.specs.Program.{ProgramView}
use Rattle.ca_meaning.specs.declared.body.FaultAt.{FaultAt}
use Rattle.ca_term.specs.Kernel.{Kernel, Kernels, Bindings, Founds, const, var, branch, bind, loop, seq, frame, turn, apply, none, item, empty, binding, put, put_items, put_bindings, puts}
use Rattle.ca_term.specs.Operation.{OpView, WhatView, putting, posting, spawning, registering, printing}
use Rattle.ca_meaning.specs.Redex.{redex, redex_items, replace, replace_items, is_value, value_of, values_of, all_values, is_ready_recur}
use Rattle.ca_meaning.specs.Operands.{truth, first_of, second_of}
use Rattle.ca_meaning.specs.Asking.{too_large, bad_alts, alts_of, made_of, bad_operands, seed_of, bad_arguments}
use Rattle.ca_meaning.specs.Body.{BodyView, At, local, faulted, at, at_or, line_of, asking, asking_to_make, contract, standing, standing_turn, turns_after, depth_after, step}
use Rattle.ca_meaning.specs.Parts.{is_whole}
use Rattle.ca_meaning.specs.Size.{size_of, size_of_items, size_of_bindings}

or-second : (a b : Bool) → b ≡ true → (a || b) ≡ true
or-second true b e = refl
or-second false b e = e

whole-one : (v : Bool) (whole inside : Kernel) → (v ≡ true → is_whole whole ≡ true) → is_whole inside ≡ true → is_whole (cond v whole inside) ≡ true
whole-one true whole inside f e = f refl
whole-one false whole inside f e = e

size-cond : (b : Bool) (n : ℕ) (v : Tree) → size_of (cond b (const v) (var n)) ≡ 1
size-cond true n v = refl
size-cond false n v = refl

-- the redex of a redex is the whole of it
mutual
  pub whole-redex : (t : Kernel) → is_whole (redex t) ≡ true
  whole-redex (const v) = refl
  whole-redex (var n) = refl
  whole-redex (branch c a b) = whole-one (is_value c) (branch c a b) (redex c) (λ e. e) (whole-redex c)
  whole-redex (bind empty body) = refl
  whole-redex (bind (binding n t bs) body) = whole-one (is_value t) (bind (binding n t bs) body) (redex t) (λ e. ap (λ b. not (not b)) e) (whole-redex t)
  whole-redex (loop fs empty body) = refl
  whole-redex (loop fs (binding n t bs) body) = whole-one (is_value t) (loop fs (binding n t bs) body) (redex t) (λ e. ap (λ b. not (not b)) e) (whole-redex t)
  whole-redex (seq none) = refl
  whole-redex (seq (item t none)) = refl
  whole-redex (seq (item t (item u us))) = whole-one (is_value t) (seq (item t (item u us))) (redex t) (λ e. ap (λ b. not (not b)) e) (whole-redex t)
  whole-redex (frame body) = whole-one (is_value body) (frame body) (redex body) (λ e. e) (whole-redex body)
  whole-redex (turn ns text now) = whole-one (is_value now) (turn ns text now) (cond (is_ready_recur now) (turn ns text now) (redex now)) (λ e. ap (λ b. b || is_ready_recur now) e)
      (whole-one (is_ready_recur now) (turn ns text now) (redex now) (λ e. or-second (is_value now) (is_ready_recur now) e) (whole-redex now))
  whole-redex (apply h ts p) = whole-items ts (apply h ts p) (λ e. e)

  whole-items : (ts : Kernels) (here : Kernel) → (all_values ts ≡ true → is_whole here ≡ true) → is_whole (redex_items ts here) ≡ true
  whole-items none here f = f refl
  whole-items (item t ts) here f = by (is_value t) refl (whole-items ts here) (whole-redex t) where
    by : (v : Bool) → is_value t ≡ v → ((all_values ts ≡ true → is_whole here ≡ true) → is_whole (redex_items ts here) ≡ true) → is_whole (redex t) ≡ true → is_whole (cond v (redex_items ts here) (redex t)) ≡ true
    by true e more one = more (λ a. f (ap (λ v. v && all_values ts) e ∙ a))
    by false e more one = one

mutual
  size-put : (n : ℕ) (v : Tree) (t : Kernel) → size_of (put n v t) ≡ size_of t
  size-put n v (const w) = refl
  size-put n v (var m) = size-cond _ m v
  size-put n v (branch c a b) = rw (size-put n v c, size-put n v a, size-put n v b) refl
  size-put n v (bind bs body) = rw (size_bindings-put n v bs, size-put n v body) refl
  size-put n v (loop fs bs body) = rw (size_bindings-put n v bs, size-put n v body) refl
  size-put n v (seq ts) = ap (λ k. suc (suc k)) (size_items-put n v ts)
  size-put n v (frame body) = refl
  size-put n v (turn ns text now) = refl
  size-put n v (apply h ts p) = ap (λ k. suc (suc k)) (size_items-put n v ts)

  size_items-put : (n : ℕ) (v : Tree) (ts : Kernels) → size_of_items (put_items n v ts) ≡ size_of_items ts
  size_items-put n v none = refl
  size_items-put n v (item t ts) = rw (size-put n v t, size_items-put n v ts) refl

  size_bindings-put : (n : ℕ) (v : Tree) (bs : Bindings) → size_of_bindings (put_bindings n v bs) ≡ size_of_bindings bs
  size_bindings-put n v empty = refl
  size_bindings-put n v (binding m t bs) = rw (size-put n v t, size_bindings-put n v bs) refl

pub redex_items-values : (ts : Kernels) (here : Kernel) → all_values ts ≡ true → redex_items ts here ≡ here
redex_items-values none here h = refl
redex_items-values (item t ts) here h = by (is_value t) h (redex_items-values ts here)
  where
    by : (v : Bool) → (v && all_values ts) ≡ true → (all_values ts ≡ true → redex_items ts here ≡ here) → cond v (redex_items ts here) (redex t) ≡ here
    by true h rest = rest h
    by false h rest = cc

-- an exchange of the redex for u changes the size by the difference of the two
abbrev Exchanges : Kernel → Kernel → Type 0
Exchanges u t = size_of (replace u t) + size_of (redex t) ≡ size_of t + size_of u

abbrev ExchangesItems : Kernel → Kernels → Type 0
ExchangesItems u ts = (here : Kernel) → all_values ts ≡ false → size_of_items (replace_items u ts) + size_of (redex_items ts here) ≡ size_of_items ts + size_of u

of-branch : (u c a b : Kernel) (v : Bool) → Exchanges u c → size_of (cond v u (branch (replace u c) a b)) + size_of (cond v (branch c a b) (redex c)) ≡ suc (size_of c + size_of a + size_of b) + size_of u
of-branch u c a b true e = omega arith
of-branch u c a b false e = omega arith

of-apply : (u : Kernel) (h : Head) (ts : Kernels) (p : Place) (v : Bool) → all_values ts ≡ v → ExchangesItems u ts → size_of (cond v u (apply h (replace_items u ts) p)) + size_of (redex_items ts (apply h ts p)) ≡ suc (suc (size_of_items ts)) + size_of u
of-apply u h ts p true e rest = rw (redex_items-values ts (apply h ts p) e) (omega arith)
of-apply u h ts p false e rest = omega (arith, rest (apply h ts p) e)

of-item : (u t : Kernel) (ts : Kernels) (here : Kernel) (v : Bool) → (v && all_values ts) ≡ false → Exchanges u t → ExchangesItems u ts → size_of_items (cond v (item t (replace_items u ts)) (item (replace u t) ts)) + size_of (cond v (redex_items ts here) (redex t)) ≡ size_of t + size_of_items ts + size_of u
of-item u t ts here true h e rest = omega (arith, rest here h)
of-item u t ts here false h e rest = omega arith

of-bind : (u : Kernel) (n : ℕ) (t : Kernel) (bs : Bindings) (body : Kernel) (v : Bool) → Exchanges u t → size_of (cond (not v) (bind (binding n (replace u t) bs) body) u) + size_of (cond v (bind (binding n t bs) body) (redex t)) ≡ suc (size_of t + size_of_bindings bs + size_of body) + size_of u
of-bind u n t bs body true e = omega arith
of-bind u n t bs body false e = omega arith

of-loop : (u : Kernel) (fs : Founds) (n : ℕ) (t : Kernel) (bs : Bindings) (body : Kernel) (v : Bool) → Exchanges u t → size_of (cond (not v) (loop fs (binding n (replace u t) bs) body) u) + size_of (cond v (loop fs (binding n t bs) body) (redex t)) ≡ suc (suc (size_of t + size_of_bindings bs + size_of body)) + size_of u
of-loop u fs n t bs body true e = omega arith
of-loop u fs n t bs body false e = omega arith

of-seq : (u t v : Kernel) (vs : Kernels) (b : Bool) → Exchanges u t → size_of (cond b u (seq (item (replace u t) (item v vs)))) + size_of (cond b (seq (item t (item v vs))) (redex t)) ≡ suc (suc (size_of t + (size_of v + size_of_items vs))) + size_of u
of-seq u t v vs true e = omega arith
of-seq u t v vs false e = omega arith

of-frame : (u body : Kernel) (v : Bool) → Exchanges u body → size_of (cond v u (frame (replace u body))) + size_of (cond v (frame body) (redex body)) ≡ suc (size_of body) + size_of u
of-frame u body true e = omega arith
of-frame u body false e = omega arith

of-turn : (u now whole : Kernel) (make : Kernel → Kernel) (v r : Bool) → ((k : Kernel) → size_of (make k) ≡ suc (size_of k)) → whole ≡ make now → Exchanges u now → size_of (cond v u (cond r u (make (replace u now)))) + size_of (cond v whole (cond r whole (redex now))) ≡ suc (size_of now) + size_of u
of-turn u now whole make true r s w e = rw w (omega (arith, s now))
of-turn u now whole make false true s w e = rw w (omega (arith, s now))
of-turn u now whole make false false s w e = omega (arith, s (replace u now))

mutual
  size-replace : (u t : Kernel) → Exchanges u t
  size-replace u (const v) = omega arith
  size-replace u (var n) = omega arith
  size-replace u (branch c a b) = of-branch u c a b (is_value c) (size-replace u c)
  size-replace u (bind empty body) = omega arith
  size-replace u (bind (binding n t bs) body) = of-bind u n t bs body (is_value t) (size-replace u t)
  size-replace u (loop fs empty body) = omega arith
  size-replace u (loop fs (binding n t bs) body) = of-loop u fs n t bs body (is_value t) (size-replace u t)
  size-replace u (seq none) = omega arith
  size-replace u (seq (item t none)) = omega arith
  size-replace u (seq (item t (item v vs))) = of-seq u t v vs (is_value t) (size-replace u t)
  size-replace u (frame body) = of-frame u body (is_value body) (size-replace u body)
  size-replace u (turn ns text now) = of-turn u now (turn ns text now) (turn ns text) (is_value now) (is_ready_recur now) (λ k. refl) refl (size-replace u now)
  size-replace u (apply h ts p) = of-apply u h ts p (all_values ts) refl (size_items-replace u ts)

  size_items-replace : (u : Kernel) (ts : Kernels) → ExchangesItems u ts
  size_items-replace u none = λ here h. cc
  size_items-replace u (item t ts) = λ here h. of-item u t ts here (is_value t) h (size-replace u t) (size_items-replace u ts)

size-pos : (t : Kernel) → 0 < size_of t
size-pos (const v) = omega arith
size-pos (var n) = omega arith
size-pos (branch c a b) = omega arith
size-pos (bind bs body) = omega arith
size-pos (loop fs bs body) = omega arith
size-pos (seq ts) = omega arith
size-pos (frame body) = omega arith
size-pos (turn ns text now) = omega arith
size-pos (apply h ts p) = omega arith

size-choice : (v : Bool) (c a b : Kernel) → size_of (cond v a b) < suc (size_of c + size_of a + size_of b)
size-choice true c a b = omega arith
size-choice false c a b = omega arith

size-puts : (fs : Founds) (t : Kernel) → size_of (puts fs t) ≡ size_of t
size-puts [] t = refl
size-puts (f ∷ fs) t = size-puts fs (put f.0 f.1 t) ∙ size-put f.0 f.1 t

-- an operation is no local step
never-asks : {P : Type 0} (p : Place) (f : Option Fault) (op : OpView) → asking p f op ≡ local → P
never-asks p None op h = cc
never-asks p (Some f) op h = cc

never-makes : {P : Type 0} (p : Place) (r : Result WhatView Fault) → asking_to_make p r ≡ local → P
never-makes p (Ok what) h = cc
never-makes p (Err f) h = cc

-- a turn is left of those before the last one
few_turns : (turns : ℕ) (p : Place) (b : Bool) (a : At) → nat_le 999_999 turns ≡ b → cond b (faulted Spun p) a ≡ local → turns < 999_999
few_turns turns p true a e h = cc
few_turns turns p false a e h = leb-false 999_999 turns e

few_calls : (depth : ℕ) (p : Place) (b c : Bool) (f : At) → nat_le 256 depth ≡ c → f ≢ local → cond b f (cond c (faulted TooDeep p) local) ≡ local → depth < 256
few_calls depth p true c f e n h = absurd (n h)
few_calls depth p false true f e n h = cc
few_calls depth p false false f e n h = leb-false 256 depth e

-- What a local step does to the measure of a body: it makes the term smaller, or takes one of the turns left.
abbrev Falls : ProgramView → ℕ → Kernel → Type 0
Falls program turns t = ((turns_after t turns ≡ turns) × (size_of (contract program t) < size_of t)) ⊎ ((turns_after t turns ≡ suc turns) × (turns < 999_999))

falls-turn : (program : ProgramView) (turns : ℕ) (names : List ℕ) (text now : Kernel) → standing_turn turns now ≡ local → (is_value now || is_ready_recur now) ≡ true → Falls program turns (turn names text now)
falls-turn program turns names text (const v) h w = inl (refl, omega arith)
falls-turn program turns names text (var n) h w = cc
falls-turn program turns names text (branch c a b) h w = cc
falls-turn program turns names text (bind bs body) h w = cc
falls-turn program turns names text (loop fs bs body) h w = cc
falls-turn program turns names text (seq ts) h w = cc
falls-turn program turns names text (frame body) h w = cc
falls-turn program turns names text (turn ns t now) h w = cc
falls-turn program turns names text (apply Recur ts p) h w = inr (ap (λ b. cond b (suc turns) turns) w, few_turns turns p (nat_le 999_999 turns) local refl h)
falls-turn program turns names text (apply (Builtin b) ts p) h w = cc
falls-turn program turns names text (apply (Call n) ts p) h w = cc
falls-turn program turns names text (apply Take ts p) h w = cc
falls-turn program turns names text (apply Put ts p) h w = cc
falls-turn program turns names text (apply (Alts options) ts p) h w = cc
falls-turn program turns names text (apply (Make kind) ts p) h w = cc
falls-turn program turns names text (apply (Spawn kind) ts p) h w = cc
falls-turn program turns names text (apply Close ts p) h w = cc
falls-turn program turns names text (apply (Register name) ts p) h w = cc
falls-turn program turns names text (apply Print ts p) h w = cc
falls-turn program turns names text (apply Post ts p) h w = cc

falls-contract : (program : ProgramView) (turns depth : ℕ) (t : Kernel) → standing turns depth t ≡ local → is_whole t ≡ true → Falls program turns t
falls-contract program turns depth (bind empty body) h w = inl (refl, omega arith)
falls-contract program turns depth (bind (binding n t bs) body) h w = inl (refl, omega (arith, size-pos t, size-put n (value_of t) body, size_bindings-put n (value_of t) bs))
falls-contract program turns depth (seq none) h w = inl (refl, omega arith)
falls-contract program turns depth (seq (item t none)) h w = inl (refl, omega arith)
falls-contract program turns depth (seq (item t (item u us))) h w = inl (refl, omega (arith, size-pos t))
falls-contract program turns depth (const v) h w = cc
falls-contract program turns depth (var n) h w = cc
falls-contract program turns depth (branch c a b) h w = inl (refl, size-choice (truth (value_of c)) c a b)
falls-contract program turns depth (loop fs empty body) h w = inl (refl, omega (arith, size-puts fs body))
falls-contract program turns depth (loop fs (binding n t bs) body) h w = inl (refl, omega (arith, size-pos t, size_bindings-put n (value_of t) bs))
falls-contract program turns depth (frame body) h w = inl (refl, omega arith)
falls-contract program turns depth (turn ns text now) h w = falls-turn program turns ns text now h w
falls-contract program turns depth (apply (Builtin b) ts p) h w = inl (refl, omega arith)
falls-contract program turns depth (apply Recur ts p) h w = cc
falls-contract program turns depth (apply (Call n) ts p) h w = inr (refl, few_turns turns p (nat_le 999_999 turns) (cond (nat_le 256 depth) (faulted TooDeep p) local) refl h)
falls-contract program turns depth (apply Take ts p) h w = cc
falls-contract program turns depth (apply Put ts p) h w = never-asks p (too_large (second_of (values_of ts))) (putting (first_of (values_of ts)) (second_of (values_of ts))) h
falls-contract program turns depth (apply (Alts options) ts p) h w = never-asks p (bad_alts options (values_of ts)) (alts_of options (values_of ts)) h
falls-contract program turns depth (apply (Make kind) ts p) h w = never-makes p (made_of kind (values_of ts)) h
falls-contract program turns depth (apply (Spawn kind) ts p) h w = never-asks p (bad_operands kind (values_of ts)) (spawning (seed_of kind (values_of ts) p)) h
falls-contract program turns depth (apply Close ts p) h w = cc
falls-contract program turns depth (apply (Register name) ts p) h w = never-asks p (bad_arguments name (values_of ts)) (registering name (values_of ts)) h
falls-contract program turns depth (apply Print ts p) h w = never-asks p (too_large (line_text (line_of (values_of ts)))) (printing (line_of (values_of ts))) h
falls-contract program turns depth (apply Post ts p) h w = never-asks p (too_large (second_of (values_of ts))) (posting (first_of (values_of ts)) (second_of (values_of ts))) h

-- no fault was met where a body goes on
pub no_fault : (f : Option FaultAt) (a : At) → at_or f a ≡ local → (f ≡ None) × (a ≡ local)
no_fault None a h = (refl, h)
no_fault (Some f) a h = cc

-- A local step makes the term smaller, or takes one of the turns left.
pub step-falls : (program : ProgramView) (b : BodyView) → at b ≡ local → (((step program b).turns ≡ b.turns) × (size_of (step program b).term < size_of b.term)) ⊎ (((step program b).turns ≡ suc b.turns) × (b.turns < 999_999))
step-falls program b h = by (falls-contract program b.turns b.depth (redex b.term) (no_fault b.fault (standing b.turns b.depth (redex b.term)) h).1 (whole-redex b.term)) where
  by : Falls program b.turns (redex b.term) → (((step program b).turns ≡ b.turns) × (size_of (step program b).term < size_of b.term)) ⊎ (((step program b).turns ≡ suc b.turns) × (b.turns < 999_999))
  by (inl f) = inl (f.0, (let less : size_of (contract program (redex b.term)) < size_of (redex b.term) = f.1 in omega (arith, size-replace (contract program (redex b.term)) b.term, less)))
  by (inr f) = inr f

-- the depth of a body that goes on fits its type
pub small-depth : (turns depth : ℕ) (t : Kernel) → standing turns depth t ≡ local → depth < 2 ^ 64 → depth_after t depth < 2 ^ 64
small-depth turns depth (const v) h d = cc
small-depth turns depth (var n) h d = cc
small-depth turns depth (branch c a b) h d = d
small-depth turns depth (bind bs body) h d = d
small-depth turns depth (loop fs bs body) h d = d
small-depth turns depth (seq ts) h d = d
small-depth turns depth (frame body) h d = omega (arith, d)
small-depth turns depth (turn ns text now) h d = d
small-depth turns depth (apply (Call n) ts p) h d = let few : depth < 256 = few_calls depth p (nat_le 999_999 turns) (nat_le 256 depth) (faulted Spun p) refl (λ e. cc) h in omega (arith, few)
small-depth turns depth (apply Recur ts p) h d = d
small-depth turns depth (apply (Builtin b) ts p) h d = d
small-depth turns depth (apply Take ts p) h d = d
small-depth turns depth (apply Put ts p) h d = d
small-depth turns depth (apply (Alts options) ts p) h d = d
small-depth turns depth (apply (Make kind) ts p) h d = d
small-depth turns depth (apply (Spawn kind) ts p) h d = d
small-depth turns depth (apply Close ts p) h d = d
small-depth turns depth (apply (Register name) ts p) h d = d
small-depth turns depth (apply Print ts p) h d = d
small-depth turns depth (apply Post ts p) h d = d

pub small-turns : (program : ProgramView) (b : BodyView) → at b ≡ local → b.turns < 2 ^ 64 → turns_after (redex b.term) b.turns < 2 ^ 64
small-turns program b h t = by (step-falls program b h) where
  by : (((step program b).turns ≡ b.turns) × (size_of (step program b).term < size_of b.term)) ⊎ (((step program b).turns ≡ suc b.turns) × (b.turns < 999_999)) → turns_after (redex b.term) b.turns < 2 ^ 64
  by (inl f) = let e : turns_after (redex b.term) b.turns ≡ b.turns = f.0 in omega (arith, e, t)
  by (inr f) = let e : turns_after (redex b.term) b.turns ≡ suc b.turns = f.0 in let less : b.turns < 999_999 = f.1 in omega (arith, e, less)
