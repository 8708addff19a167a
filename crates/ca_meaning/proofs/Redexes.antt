-- The redex of a sequence, and of lists of terms.
use Rattle.std.proofs.Common.{◌≡◌, List, [], ◌∷◌, ◌≢◌, refl, Bool, true, false, cond, not, rules, ◌&&◌, ◌||◌, ap}
use Rattle.ca_value.specs.Seq.{list}
use Rattle.ca_value.specs.declared.seq.Seq.{Seq}
use Rattle.ca_term.specs.declared.term.Term.{Term, Do, Apply, the_lemmas}
use Rattle.ca_term.specs.Kernel.{Kernel, Kernels, const, var, branch, bind, loop, seq, frame, turn, apply, none, item, empty, binding}
use Rattle.ca_term.specs.declared.place.Place.{Place}
use Rattle.ca_term.specs.declared.head.Head.{Head}
use Rattle.ca_term.specs.View.{kernel, kernels}
use Rattle.ca_meaning.specs.Redex.{redex, redex_items, is_value, all_values, is_ready_recur, replace, replace_items}
use Rattle.ca_meaning.specs.Body.{after_do}
use Rattle.ca_meaning.proofs.Sizes.{redex_items-values}
use Rattle.ca_meaning.specs.Parts.{is_open_sequence, is_whole}

pub is_open_sequence-several : (t : Term) (ts : List Term) → ts ≢ [] → is_open_sequence (kernels (t ∷ ts)) ≡ not (is_value (kernel t))
is_open_sequence-several t [] h = absurd (h refl)
is_open_sequence-several t (u ∷ us) h = refl

pub redex-open_sequence : (ts : Kernels) (here : Kernel) → is_open_sequence ts ≡ true → redex (seq ts) ≡ redex_items ts here
redex-open_sequence none here h = cc
redex-open_sequence (item t none) here h = cc
redex-open_sequence (item t (item u us)) here h = by (is_value t) h
  where
    by : (v : Bool) → not v ≡ true → cond v (seq (item t (item u us))) (redex t) ≡ cond v (redex_items (item u us) here) (redex t)
    by true h = cc
    by false h = refl

-- where the redex is the whole term
pub redex-whole : (t : Kernel) → is_whole t ≡ true → redex t ≡ t
redex-whole (const v) h = refl
redex-whole (var n) h = refl
redex-whole (branch c a b) h = ap (λ v. cond v (branch c a b) (redex c)) h
redex-whole (bind empty body) h = refl
redex-whole (bind (binding n t bs) body) h = by (is_value t) h where
  by : (v : Bool) → not (not v) ≡ true → cond v (bind (binding n t bs) body) (redex t) ≡ bind (binding n t bs) body
  by true h = refl
  by false h = cc
redex-whole (loop fs empty body) h = refl
redex-whole (loop fs (binding n t bs) body) h = by (is_value t) h where
  by : (v : Bool) → not (not v) ≡ true → cond v (loop fs (binding n t bs) body) (redex t) ≡ loop fs (binding n t bs) body
  by true h = refl
  by false h = cc
redex-whole (seq none) h = refl
redex-whole (seq (item t none)) h = refl
redex-whole (seq (item t (item u us))) h = by (is_value t) h where
  by : (v : Bool) → not (not v) ≡ true → cond v (seq (item t (item u us))) (redex t) ≡ seq (item t (item u us))
  by true h = refl
  by false h = cc
redex-whole (frame body) h = ap (λ v. cond v (frame body) (redex body)) h
redex-whole (turn ns text now) h = by (is_value now) (is_ready_recur now) h where
  by : (v r : Bool) → (v || r) ≡ true → cond v (turn ns text now) (cond r (turn ns text now) (redex now)) ≡ turn ns text now
  by true r h = refl
  by false true h = refl
  by false false h = cc
redex-whole (apply f ts p) h = redex_items-values ts (apply f ts p) h

pub kernel-Do : (ts : Seq Term) → kernel (Do ts) ≡ seq (kernels (list ts))
kernel-Do ts = search (rules, the_lemmas)

pub not-false : (b : Bool) → not b ≡ false → b ≡ true
not-false true h = refl
not-false false h = cc

pub replace-open_sequence : (u : Kernel) (ts : Kernels) → is_open_sequence ts ≡ true → replace u (seq ts) ≡ seq (replace_items u ts)
replace-open_sequence u none h = cc
replace-open_sequence u (item t none) h = cc
replace-open_sequence u (item t (item v vs)) h = by (is_value t) h
  where
    by : (b : Bool) → not b ≡ true → cond b u (seq (item (replace u t) (item v vs))) ≡ seq (cond b (item t (replace_items u (item v vs))) (item (replace u t) (item v vs)))
    by true h = cc
    by false h = refl

pub all_values-open_sequence : (ts : Kernels) → is_open_sequence ts ≡ true → all_values ts ≡ false
all_values-open_sequence none h = cc
all_values-open_sequence (item t none) h = cc
all_values-open_sequence (item t (item v vs)) h = by (is_value t) h
  where
    by : (b : Bool) → not b ≡ true → (b && all_values (item v vs)) ≡ false
    by true h = cc
    by false h = refl

pub after_do-several : (t : Term) (ts : List Term) → ts ≢ [] → after_do (kernels (t ∷ ts)) ≡ seq (kernels ts)
after_do-several t [] h = absurd (h refl)
after_do-several t (u ∷ us) h = refl

pub kernel-Apply : (h : Head) (ts : Seq Term) (p : Place) → kernel (Apply h ts p) ≡ apply h (kernels (list ts)) p
kernel-Apply h ts p = search (rules, the_lemmas)
