-- A worker that holds parts one after another, or gives them back.
use Rattle.std.proofs.Common.{◌≡◌, ◌∙◌, ℕ, ◌+◌, ◌≤◌, refl, arith, Option, Some, None, eqb}
use Rattle.std.specs.Map.{update}
use Rattle.ca_term.specs.Program.{ProgramView}
use Rattle.ca_meaning.specs.Task.{TaskBody}
use Rattle.ca_states.specs.Code.{CodeView}
use Rattle.ca_turns.specs.Hands.{TableId}
use Rattle.ca_table.specs.Grips.{SameTurns}
use Rattle.ca_table.specs.Seen.{PartSeen}
use Rattle.ca_table.specs.Workers.{IsOne, KeepsLeft, SameWorker}
use Rattle.ca_table.specs.declared.part.Part.{Part}
use Rattle.ca_table.specs.declared.worker.Worker.{Worker}
use Rattle.ca_table.proofs.Seats.{then_same}
use Rattle.ca_pool.specs.Surveys.{Drops, Fills, Surveys}
use Rattle.ca_pool.proofs.AllParts.{drops_more, drops_none, fills_more, fills_none}
use Rattle.ca_pool.proofs.Lefts.{kept_left, left_both}
use Rattle.ca_pool.proofs.Stays.{same_turns}

module _ {A C : Type 0} where
  pub workers_then : (o m n : Worker A C) → SameWorker o m → SameWorker m n → SameWorker o n
  workers_then o m n p q = record { number = q.number ∙ p.number; workers = q.workers ∙ p.workers; program = q.program ∙ p.program; code = q.code ∙ p.code }

  -- the same worker, whose hand did more but drew nothing
  pub record DidMore (old new : Worker A C) : Type 0 where
    pub same : SameWorker old new
    pub turns : SameTurns old.hand new.hand
    pub entries : new.entries ≡ old.entries
    pub left : KeepsLeft old.hand.view new.hand.view

  pub did_none : (w : Worker A C) → DidMore w w
  did_none w = record { same = record { number = refl; workers = refl; program = refl; code = refl }; turns = same_turns w.hand w.hand refl; entries = refl; left = kept_left w.hand.view w.hand.view refl }

  pub did_more : (o m n : Worker A C) → DidMore o m → SameWorker m n → SameTurns m.hand n.hand → n.entries ≡ m.entries → KeepsLeft m.hand.view n.hand.view → DidMore o n
  did_more o m n p same turns entries left = record {
    same = workers_then o m n p.same same;
    turns = then_same o.hand m.hand n.hand p.turns turns;
    entries = entries ∙ p.entries;
    left = left_both o.hand.view m.hand.view n.hand.view p.turns.same.stands_for p.turns.same.hands p.turns.turns p.left left;
  }

module _ {A C : Type 0} (over : CodeView → A → Type 0) (stands_as : ProgramView → A → TaskBody → Type 0) (id : TableId) (seen : Part A C → PartSeen A) (first : ℕ) (w0 w : Worker A C) (at : ℕ) where
  -- it holds the parts from the first on, before that one
  pub record IsHoldingTo : Type 0 where
    pub did : DidMore w0 w
    pub order : first ≤ at
    pub holds : (program : ProgramView) (code : CodeView) (n : ℕ) → IsOne over stands_as program code id n w0 → (g : ℕ → Option (Part A C)) → Surveys seen n code w0.hand g → (g2 : ℕ → Option (Part A C)) × Surveys seen n code w.hand g2 × Fills first at g g2

module _ {A C : Type 0} (over : CodeView → A → Type 0) (stands_as : ProgramView → A → TaskBody → Type 0) (id : TableId) (seen : Part A C → PartSeen A) (first : ℕ) (w0 : Worker A C) where
  pub none_held : IsHoldingTo over stands_as id seen first w0 w0 first
  none_held = record { did = did_none w0; order = omega arith; holds = λ P code n one g s. (g, s, fills_none first g) }

  pub one_held : (w v : Worker A C) (at : ℕ) → IsHoldingTo over stands_as id seen first w0 w at → SameWorker w v → SameTurns w.hand v.hand → v.entries ≡ w.entries → KeepsLeft w.hand.view v.hand.view
      → ((program : ProgramView) (code : CodeView) (n : ℕ) → IsOne over stands_as program code id n w0 → (g : ℕ → Option (Part A C)) → Surveys seen n code w.hand g → (x : Part A C) × Surveys seen n code v.hand (update eqb g at (Some x)))
      → IsHoldingTo over stands_as id seen first w0 v (at + 1)
  one_held w v at h same turns entries left more = record {
    did = did_more w0 w v h.did same turns entries left;
    order = let o = h.order in omega (arith, o);
    holds = λ P code n one g s. let f = h.holds P code n one g s in let x = more P code n one f.0 f.1 in (update eqb f.0 at (Some x.0), x.1, fills_more first at g f.0 x.0 h.order f.2);
  }

module _ {A C : Type 0} (seen : Part A C → PartSeen A) (first : ℕ) (w0 w : Worker A C) (at : ℕ) where
  -- it has given them back
  pub record IsGivingTo : Type 0 where
    pub did : DidMore w0 w
    pub order : first ≤ at
    pub gives : (n : ℕ) (code : CodeView) (g : ℕ → Option (Part A C)) → Surveys seen n code w0.hand g → (g2 : ℕ → Option (Part A C)) × Surveys seen n code w.hand g2 × Drops first at g g2

module _ {A C : Type 0} (seen : Part A C → PartSeen A) (first : ℕ) (w0 : Worker A C) where
  pub none_given : IsGivingTo seen first w0 w0 first
  none_given = record { did = did_none w0; order = omega arith; gives = λ n code g s. (g, s, drops_none first g) }

  pub one_given : (w v : Worker A C) (at : ℕ) → IsGivingTo seen first w0 w at → SameWorker w v → SameTurns w.hand v.hand → v.entries ≡ w.entries → KeepsLeft w.hand.view v.hand.view
      → ((n : ℕ) (code : CodeView) (g : ℕ → Option (Part A C)) → Surveys seen n code w.hand g → Surveys seen n code v.hand (update eqb g at None))
      → IsGivingTo seen first w0 v (at + 1)
  one_given w v at h same turns entries left less = record {
    did = did_more w0 w v h.did same turns entries left;
    order = let o = h.order in omega (arith, o);
    gives = λ n code g s. let f = h.gives n code g s in (update eqb f.0 at None, less n code f.0 f.1, drops_more first at g f.0 h.order f.2);
  }
