-- What a try gave that may have found a part held by another worker.
use Rattle.std.proofs.Common.{◌≡◌, ◌∙◌, ℕ, ap, Option, Some, None}
use Rattle.std.specs.Prelude.{IfNone, IfSome}
use Rattle.ca_term.specs.Program.{ProgramView}
use Rattle.ca_meaning.specs.Task.{TaskBody}
use Rattle.ca_states.specs.Code.{CodeView}
use Rattle.ca_states.specs.ValidCode.{valid_code}
use Rattle.ca_states.specs.declared.valid_code.ValidCode.{ValidCode}
use Rattle.ca_turns.specs.Hands.{Held, IsWithout, TableId}
use Rattle.ca_table.specs.Carriers.{IsCarrying}
use Rattle.ca_table.specs.Carrying.{Carries, IsPlace, Place, at_places, number_at, part_at}
use Rattle.ca_table.specs.Grips.{Grips, SameTurns}
use Rattle.ca_table.specs.Seen.{PartSeen}
use Rattle.ca_table.specs.Workers.{KeepsLeft}
use Rattle.ca_table.specs.declared.drawn.Drawn.{Drawn}
use Rattle.ca_table.specs.declared.part.Part.{Part}
use Rattle.ca_table.specs.declared.worker.Worker.{Worker}
use Rattle.ca_table.proofs.Carried.{at_place}
use Rattle.ca_table.proofs.Gripping.{no_fit}
use Rattle.ca_table.proofs.Seats.{same_one, with_hand}

pub if_held : {X : Type 0} {P Q R : X → Type 0} (o : Option X) → ((x : X) → P x → Q x → R x) → IfSome o P → IfSome o Q → IfSome o R
if_held None f p q = p
if_held (Some x) f p q = f x p q

pub if_busy : {X : Type 0} {P Q : Type 0} (o : Option X) → (P → Q) → IfNone o P → IfNone o Q
if_busy None f p = f p
if_busy (Some x) f p = p

module _ {A C : Type 0} (over : CodeView → A → Type 0) (stands_as : ProgramView → A → TaskBody → Type 0) (program : ProgramView) (code : ValidCode) (id : TableId) (n : ℕ) (w : Worker A C) where
  -- a hand that holds the same
  pub held_same : (hand : Held (Part A C) (PartSeen A) Drawn) → SameTurns w.hand hand → KeepsLeft w.hand.view hand.view → (h : Carries (Part A C × PartSeen A)) → ((g : ℕ → Option (Part A C × PartSeen A)) → Grips w.hand g → Grips hand g)
      → IsCarrying over stands_as program code id n w h → IsCarrying over stands_as program code id n (with_hand w hand) h
  held_same hand same left h keeps s = record { one = same_one over stands_as program (valid_code code) id n w hand same left s.one; grips = keeps (at_places n w.number h) s.grips; sorted = s.sorted; coded = s.coded }

  -- where it carries nothing, its hand holds nothing
  pub not_held : (at : ℕ) (z : Place) → IsPlace z → at ≡ number_at n w.number z → (h : Carries (Part A C × PartSeen A)) → part_at z h ≡ None → IsCarrying over stands_as program code id n w h → IsWithout w.hand at
  not_held at z is e h none s = no_fit w.hand (at_places n w.number h) at s.grips (ap (at_places n w.number h) e ∙ at_place n w.number s.one.below z is h ∙ none)
