-- An event that came of a plan over held parts, made with the number of the task's earlier alts, chose as the schedule does.
use Rattle.std.proofs.Common.{◌≡◌, ◌∙◌, ℕ, refl, sym, ap, subst, Some}
use Rattle.ca_term.specs.Operation.{WantView}
use Rattle.ca_term.specs.Program.{ProgramView}
use Rattle.ca_meaning.specs.Body.{At, at_op}
use Rattle.ca_meaning.specs.Choice.{branches_of}
use Rattle.ca_meaning.specs.Solo.{Chooses, Desk, IsFirstFrom}
use Rattle.ca_meaning.specs.State.{State}
use Rattle.ca_meaning.specs.Task.{TaskBody}
use Rattle.ca_agent.specs.Agents.{Advanced}
use Rattle.ca_commit.specs.Agents.{TaskAgent, advances_of, place_of, stands_of}
use Rattle.ca_commit.specs.Applying.{event_of}
use Rattle.ca_commit.specs.Contents.{LaneView, Parts}
use Rattle.ca_commit.specs.Deciding.{seen_in}
use Rattle.ca_commit.specs.Planning.{Planned, planned, to_close, to_default, to_do, to_look, to_make, to_meet, to_park, to_post, to_print, to_prune, to_refuse, to_register, to_spawn}
use Rattle.ca_commit.specs.Stands.{Stands}
use Rattle.ca_commit.proofs.AgentLifts.{lifts_advance}
use Rattle.ca_commit.proofs.Laid.{IsPart}
use Rattle.ca_commit.proofs.Seats.{some_same}
use Rattle.ca_alone.specs.OwnTurn.{branch_taken}
use Rattle.ca_alone.specs.Reading.{DeskReads}
use Rattle.ca_alone.specs.Standing.{ChoosesWell}
use Rattle.ca_alone.proofs.Choosing.{plan_takes_first}
use Rattle.ca_alone.proofs.Turned.{OpOf}

module _ {A : Type 0} (place : A → At) (stands : ProgramView → A → TaskBody → Type 0) (advances : ProgramView → A → A → Type 0) (advance_law : Advanced stands place advances) (program : ProgramView)
    (now : Parts (TaskAgent A)) (s : State) (st : Stands (place_of place) (stands_of stands) program 1 now s) (d : Desk) (r : DeskReads now d) (old : Parts (TaskAgent A)) (within : IsPart old now)
    (lane : LaneView (TaskAgent A)) (there : now.lane 0 ≡ Some lane) (t : ℕ) (agent a : TaskAgent A) (task : lane.task ≡ Some (t, agent)) (advanced : advances_of advances program agent a) (want : WantView) (at : place a.agent ≡ at_op want) where
  -- the lane's task stands at the operation
  stands_at : OpOf s t want.op
  stands_at =
      let sits = (st.seated.laned 0 lane t agent there task).1 in
      let g = lifts_advance stands place advances advance_law program agent a sits.0.result sits.0.body sits.2 advanced in
      (sits.0, sits.1.0, (want.place, sym g.1 ∙ at))

  -- it told how many alts it made
  counted : a.alts ≡ d.alts t
  counted = advanced.1 ∙ r.reads.lane_counts t agent (ap (λ (z : LaneView (TaskAgent A)). z.task) (some_same r.lane lane (sym r.in_lane ∙ there)) ∙ task)

  chooses : (q : Planned) (k : ℕ) → q ≡ planned (seen_in old) want.op a.alts → branch_taken q ≡ Some k → Chooses s d t k
  chooses q k is e =
      let o = stands_at in
      (o.0, want.op, o.1, o.2, λ plain. subst (λ n. IsFirstFrom s (branches_of want.op) n k) counted (plan_takes_first (place_of place) (stands_of stands) program 1 now old s want.op a.alts k st within (ap branch_taken (sym is) ∙ e) plain))

  pub planned_chooses : (u p v m : ℕ) (q : Planned) → q ≡ planned (seen_in old) want.op a.alts → ChoosesWell s d (event_of old.bank old.registry t u p v m q)
  planned_chooses u p v m (to_do k b alts) is = chooses (to_do k b alts) k is refl
  planned_chooses u p v m (to_meet k b alts wait o) is = chooses (to_meet k b alts wait o) k is refl
  planned_chooses u p v m (to_park bs) is = tt
  planned_chooses u p v m (to_post bs) is = tt
  planned_chooses u p v m (to_default z) is = tt
  planned_chooses u p v m (to_make what) is = tt
  planned_chooses u p v m (to_spawn kind result) is = tt
  planned_chooses u p v m (to_close c) is = tt
  planned_chooses u p v m (to_register name args) is = tt
  planned_chooses u p v m (to_print line) is = tt
  planned_chooses u p v m (to_look w) is = tt
  planned_chooses u p v m (to_prune c side i) is = tt
  planned_chooses u p v m (to_refuse f) is = tt
