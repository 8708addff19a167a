-- Where a body stands whose operands are values: at what they ask for.
use Rattle.std.proofs.Common.{◌≡◌, ℕ, None, Some, Option, true, false, refl, sym, ap, ◌∙◌, cond}
use Rattle.std.specs.Prelude.{Result, Ok, Err, Bool, nat_le}
use Rattle.ca_value.specs.Tree.{Trees}
use Rattle.ca_term.specs.declared.place.Place.{Place}
use Rattle.ca_term.specs.declared.fault.Fault.{Fault}
use Rattle.ca_term.specs.declared.fault.Fault.TheVariants.{Spun, TooDeep}
use Rattle.ca_term.specs.declared.head.Head.{Head}
use Rattle.ca_term.specs.declared.head.Head.TheVariants.{Recur, Builtin, Call, Take, Put, Alts, Make, Spawn, Close, Register, Print, Post}
use Rattle.ca_term.specs.Operation.{OpView, WhatView}
use Rattle.ca_term.specs.Asking.{asked, asked_to_make, unless_faulted, made_of}
use Rattle.ca_meaning.specs.Body.{At, local, at_op, faulted, asking, asking_to_make, standing_with}
use Rattle.ca_meaning.specs.BodyViews.{is_at_op}

-- a head that asks for an event
abbrev pub IsOperation : Head → Type 0
IsOperation Recur = ⊥
IsOperation (Builtin b) = ⊥
IsOperation (Call n) = ⊥
IsOperation Take = Unit {0}
IsOperation Put = Unit {0}
IsOperation (Alts options) = Unit {0}
IsOperation (Make kind) = Unit {0}
IsOperation (Spawn kind) = Unit {0}
IsOperation Close = Unit {0}
IsOperation (Register name) = Unit {0}
IsOperation Print = Unit {0}
IsOperation Post = Unit {0}

-- where a body stands that asks for this
abbrev pub at_asked : Place → Result OpView Fault → At
at_asked p (Ok op) = at_op (record { op = op; place = p })
at_asked p (Err f) = faulted f p

asks : (p : Place) (f : Option Fault) (op : OpView) → asking p f op ≡ at_asked p (unless_faulted f op)
asks p None op = refl
asks p (Some f) op = refl

asks_to_make : (p : Place) (r : Result WhatView Fault) → asking_to_make p r ≡ at_asked p (asked_to_make r)
asks_to_make p (Ok what) = refl
asks_to_make p (Err f) = refl

pub asked_with : (h : Head) (vs : Trees) (p : Place) (turns depth : ℕ) → IsOperation h → standing_with turns depth vs p h ≡ at_asked p (asked h vs p)
asked_with Recur vs p turns depth o = absurd o
asked_with (Builtin b) vs p turns depth o = absurd o
asked_with (Call n) vs p turns depth o = absurd o
asked_with Take vs p turns depth o = refl
asked_with Put vs p turns depth o = asks p _ _
asked_with (Alts options) vs p turns depth o = asks p _ _
asked_with (Make kind) vs p turns depth o = asks_to_make p (made_of kind vs)
asked_with (Spawn kind) vs p turns depth o = asks p _ _
asked_with Close vs p turns depth o = refl
asked_with (Register name) vs p turns depth o = asks p _ _
asked_with Print vs p turns depth o = asks p _ _
asked_with Post vs p turns depth o = asks p _ _

-- a call is no operation
no_op : (turns_over calls_over : Bool) (p : Place) → is_at_op (cond turns_over (faulted Spun p) (cond calls_over (faulted TooDeep p) local)) ≡ true → ⊥
no_op true b p h = absurd (let k : false ≡ true = h in cc)
no_op false true p h = absurd (let k : false ≡ true = h in cc)
no_op false false p h = absurd (let k : false ≡ true = h in cc)

operation : (h : Head) (vs : Trees) (p : Place) (turns depth : ℕ) → is_at_op (standing_with turns depth vs p h) ≡ true → IsOperation h
operation Recur vs p turns depth h = absurd (let k : false ≡ true = h in cc)
operation (Builtin b) vs p turns depth h = absurd (let k : false ≡ true = h in cc)
operation (Call n) vs p turns depth h = no_op (nat_le 999_999 turns) (nat_le 256 depth) p h
operation Take vs p turns depth h = tt
operation Put vs p turns depth h = tt
operation (Alts options) vs p turns depth h = tt
operation (Make kind) vs p turns depth h = tt
operation (Spawn kind) vs p turns depth h = tt
operation Close vs p turns depth h = tt
operation (Register name) vs p turns depth h = tt
operation Print vs p turns depth h = tt
operation Post vs p turns depth h = tt

-- at an operation it stands at what is asked for
pub wanted : (h : Head) (vs : Trees) (p : Place) (o : Result OpView Fault) → o ≡ asked h vs p → (turns depth : ℕ) → is_at_op (standing_with turns depth vs p h) ≡ true → standing_with turns depth vs p h ≡ at_asked p o
wanted h vs p o e turns depth is = asked_with h vs p turns depth (operation h vs p turns depth is) ∙ ap (at_asked p) (sym e)

-- and at no fault
pub unfaulted : (h : Head) (vs : Trees) (p : Place) (f : Fault) → Err f ≡ asked h vs p → (turns depth : ℕ) → is_at_op (standing_with turns depth vs p h) ≡ true → ⊥
unfaulted h vs p f e turns depth is = absurd (let k : false ≡ true = sym (ap is_at_op (wanted h vs p (Err f) e turns depth is)) ∙ is in cc)
