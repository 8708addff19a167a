-- A body comes to a value only where its term is one.
use Rattle.std.proofs.Common.{◌≡◌, ℕ, None, Some, Option, true, false, refl, cond}
use Rattle.std.specs.Prelude.{Result, Ok, Err, Bool, nat_le}
use Rattle.ca_value.specs.Tree.{Trees}
use Rattle.ca_term.specs.declared.place.Place.{Place}
use Rattle.ca_term.specs.declared.fault.Fault.{Fault}
use Rattle.ca_term.specs.declared.fault.Fault.TheVariants.{Spun, TooDeep}
use Rattle.ca_term.specs.declared.head.Head.{Head}
use Rattle.ca_term.specs.declared.head.Head.TheVariants.{Recur, Builtin, Call, Take, Put, Alts, Make, Spawn, Close, Register, Print, Post}
use Rattle.ca_term.specs.Kernel.{Kernel, const, var, branch, bind, loop, seq, frame, turn, apply}
use Rattle.ca_term.specs.Operation.{OpView, WhatView}
use Rattle.ca_meaning.specs.Asking.{bad_alts, made_of, bad_operands, bad_arguments, too_large}
use Rattle.ca_meaning.specs.Body.{At, local, at_op, faulted, asking, asking_to_make, at_turn, at_call, standing_with, standing_turn}
use Rattle.ca_meaning.specs.BodyViews.{ended_value}

abbrev NoValue : At → Type 0
NoValue a = None ≡ ended_value a

either : (b : Bool) (x y : At) → NoValue x → NoValue y → NoValue (cond b x y)
either true x y e f = e
either false x y e f = f

no_value_asked : (p : Place) (o : Option Fault) (op : OpView) → NoValue (asking p o op)
no_value_asked p None op = refl
no_value_asked p (Some f) op = refl

no_value_made : (p : Place) (r : Result WhatView Fault) → NoValue (asking_to_make p r)
no_value_made p (Ok what) = refl
no_value_made p (Err f) = refl

no_value_called : (turns depth : ℕ) (p : Place) → NoValue (at_call turns depth p)
no_value_called turns depth p =
    either (nat_le 999_999 turns) _ _ refl (either (nat_le 256 depth) (faulted TooDeep p) local refl refl)

no_value_spun : (turns : ℕ) (p : Place) → NoValue (at_turn turns p)
no_value_spun turns p = either (nat_le 999_999 turns) (faulted Spun p) local refl refl

pub no_value_with : (turns depth : ℕ) (vs : Trees) (p : Place) (h : Head) → NoValue (standing_with turns depth vs p h)
no_value_with turns depth vs p Recur = refl
no_value_with turns depth vs p (Builtin b) = refl
no_value_with turns depth vs p (Call n) = no_value_called turns depth p
no_value_with turns depth vs p Take = refl
no_value_with turns depth vs p Put = no_value_asked p _ _
no_value_with turns depth vs p (Alts options) = no_value_asked p _ _
no_value_with turns depth vs p (Make kind) = no_value_made p _
no_value_with turns depth vs p (Spawn kind) = no_value_asked p _ _
no_value_with turns depth vs p Close = refl
no_value_with turns depth vs p (Register name) = no_value_asked p _ _
no_value_with turns depth vs p Print = no_value_asked p _ _
no_value_with turns depth vs p Post = no_value_asked p _ _

pub no_value_turned : (turns : ℕ) (now : Kernel) → NoValue (standing_turn turns now)
no_value_turned turns (const v) = refl
no_value_turned turns (var n) = refl
no_value_turned turns (branch c a b) = refl
no_value_turned turns (bind bs body) = refl
no_value_turned turns (loop fs bs body) = refl
no_value_turned turns (seq ts) = refl
no_value_turned turns (frame body) = refl
no_value_turned turns (turn names text now) = refl
no_value_turned turns (apply Recur ts p) = no_value_spun turns p
no_value_turned turns (apply (Builtin b) ts p) = refl
no_value_turned turns (apply (Call n) ts p) = refl
no_value_turned turns (apply (Alts options) ts p) = refl
no_value_turned turns (apply (Make kind) ts p) = refl
no_value_turned turns (apply (Spawn kind) ts p) = refl
no_value_turned turns (apply (Register name) ts p) = refl
no_value_turned turns (apply Take ts p) = refl
no_value_turned turns (apply Put ts p) = refl
no_value_turned turns (apply Close ts p) = refl
no_value_turned turns (apply Print ts p) = refl
no_value_turned turns (apply Post ts p) = refl
