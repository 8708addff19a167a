-- Heads whose operands are values.
use Rattle.std.proofs.Common.{◌≡◌, ℕ, List, [], ◌∷◌, false, refl, ap, ◌∙◌, cond}
use Rattle.ca_value.specs.Tree.{Tree, trees_of}
use Rattle.ca_term.specs.declared.place.Place.{Place}
use Rattle.ca_term.specs.declared.head.Head.{Head}
use Rattle.ca_term.specs.declared.head.Head.TheVariants.{Recur, Builtin, Call, Take, Put, Alts, Make, Spawn, Close, Register, Print, Post}
use Rattle.ca_term.specs.Kernel.{Kernel, Kernels, apply, turn}
use Rattle.ca_term.specs.Asking.{asked}
use Rattle.ca_meaning.specs.Redex.{redex, redex_items, replace, replace_items, is_ready_recur}
use Rattle.ca_meaning.specs.Body.{standing, standing_with}
use Rattle.ca_meaning.proofs.Asked.{IsOperation, at_asked, asked_with}
use Rattle.ca_lower.proofs.Puts.{consts, all-consts, values-consts}

items_consts : (vs : List Tree) (here : Kernel) → redex_items (consts vs) here ≡ here
items_consts [] here = refl
items_consts (v ∷ vs) here = items_consts vs here

pub apply_redex : (h : Head) (vs : List Tree) (p : Place) → redex (apply h (consts vs) p) ≡ apply h (consts vs) p
apply_redex h vs p = items_consts vs (apply h (consts vs) p)

pub apply_replace : (u : Kernel) (h : Head) (vs : List Tree) (p : Place) → replace u (apply h (consts vs) p) ≡ u
apply_replace u h vs p = ap (λ o. cond o u (apply h (replace_items u (consts vs)) p)) (all-consts vs)

pub turn_redex : (ns : List ℕ) (text : Kernel) (vs : List Tree) (p : Place) → redex (turn ns text (apply Recur (consts vs) p)) ≡ turn ns text (apply Recur (consts vs) p)
turn_redex ns text vs p = ap (λ o. cond o (turn ns text (apply Recur (consts vs) p)) (redex (apply Recur (consts vs) p))) (all-consts vs)

pub turn_replace : (u : Kernel) (ns : List ℕ) (text : Kernel) (vs : List Tree) (p : Place) → replace u (turn ns text (apply Recur (consts vs) p)) ≡ u
turn_replace u ns text vs p = ap (λ o. cond o u (turn ns text (replace u (apply Recur (consts vs) p)))) (all-consts vs)

pub not_ready : (h : Head) (ts : Kernels) (p : Place) → IsOperation h → is_ready_recur (apply h ts p) ≡ false
not_ready Recur ts p o = absurd o
not_ready (Builtin b) ts p o = absurd o
not_ready (Call n) ts p o = absurd o
not_ready Take ts p o = refl
not_ready Put ts p o = refl
not_ready (Alts options) ts p o = refl
not_ready (Make kind) ts p o = refl
not_ready (Spawn kind) ts p o = refl
not_ready Close ts p o = refl
not_ready (Register name) ts p o = refl
not_ready Print ts p o = refl
not_ready Post ts p o = refl

pub asks_at : (h : Head) (vs : List Tree) (p : Place) (turns depth : ℕ) → IsOperation h → standing turns depth (apply h (consts vs) p) ≡ at_asked p (asked h (trees_of vs) p)
asks_at h vs p turns depth o = ap (λ ts. standing_with turns depth ts p h) (values-consts vs) ∙ asked_with h (trees_of vs) p turns depth o
