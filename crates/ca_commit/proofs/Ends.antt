-- What the end of a task promises of the parts is how its event moves them.
use Rattle.std.proofs.Common.{◌≡◌, inl, inr, ⊎_elim, ℕ, sym, ap, ◌∙◌, subst, Option, Some, option_map, unwrap_or}
use Rattle.ca_value.specs.Tree.{Tree}
use Rattle.ca_term.specs.Event.{port_number}
use Rattle.ca_term.specs.Operation.{SeedView}
use Rattle.ca_term.specs.Program.{ProgramView}
use Rattle.ca_meaning.specs.Body.{At, at_op, faulted}
use Rattle.ca_commit.specs.Agents.{TaskAgent, advances_of, place_of, result_port}
use Rattle.ca_commit.specs.Contents.{LaneView, Parts}
use Rattle.ca_commit.specs.Deciding.{PlanTells}
use Rattle.ca_commit.specs.Ending.{EndMoves, FaultMoves, RefusedMoves}
use Rattle.ca_commit.specs.Moves.{Stood}
use Rattle.ca_commit.proofs.EventMoves.{result_closes}
use Rattle.ca_commit.proofs.NamesTold.{names_told}
use Rattle.ca_commit.proofs.PlanTold.{plan_tells}

module _ {A : Type 0} (place : A → At) (advances : ProgramView → A → A → Type 0) where
  -- the lane's task has the result port with which it halts
  result_stays : (w t : ℕ) (at : At) (old new : Parts (TaskAgent A)) (stands : Stood (place_of place) (advances_of advances) w t at old new) (r : Option ℕ) → stands.agent1.result ≡ r
      → (l : LaneView (TaskAgent A)) (a : TaskAgent A) → old.lane w ≡ Some l → l.task ≡ Some (t, a) → result_port a ≡ r
  result_stays w t at old new stands r is l a there task = ap result_port agent ∙ sym stands.advanced.0 ∙ is where
    lane : l ≡ stands.lane
    lane = ap (λ (o : Option (LaneView (TaskAgent A))). unwrap_or o l) (sym there ∙ stands.lanes.was)

    agent : a ≡ stands.agent
    agent = ap (λ (o : Option (ℕ × TaskAgent A)). (unwrap_or o (t, a)).1) (sym task ∙ ap (λ (x : LaneView (TaskAgent A)). x.task) lane ∙ stands.task)

module _ {A : Type 0} (place : A → At) (advances : ProgramView → A → A → Type 0) (gives : A → Tree → A → Type 0) (starts : ProgramView → SeedView → A → Type 0) where
  pub end_moves : EndMoves place advances gives starts
  end_moves old new w n t v halts banks = record { v = v; halts = halts; banks = banks }

  pub fault_moves : FaultMoves place advances gives starts
  fault_moves old new w n t f at r halts closes = record {
    halts = inl halts;
    result_is = result_stays place advances w t (faulted f at) old new halts.stands (option_map port_number r) closes.result_is;
    banks = result_closes place advances old new (option_map port_number r) closes.held closes.banks;
  }

  pub refused_moves : RefusedMoves place advances gives starts
  refused_moves old new w n t start op f at r plan held halts closes = record {
    halts = inr (⊎_elim (λ e. inl (op, halts, names_told old op f held e)) (λ c. inr (op, halts, c.0, c.1, c.2, c.3)) (subst (PlanTells old op) plan (plan_tells old op start)));
    result_is = result_stays place advances w t (at_op (record { op = op; place = at })) old new halts.stands (option_map port_number r) closes.result_is;
    banks = result_closes place advances old new (option_map port_number r) closes.held closes.banks;
  }
