-- A branch that is done at once: what its event leaves follows the state to which it is a step.
use Rattle.std.proofs.Common.{◌≡◌, ℕ, refl, sym, ap, ◌∙◌, subst, Bool, Option, Some, option_map, eqb}
use Rattle.std.specs.Map.{update}
use Rattle.ca_value.specs.Tree.{Tree}
use Rattle.ca_term.specs.Event.{BranchView}
use Rattle.ca_term.specs.Operation.{SeedView}
use Rattle.ca_term.specs.Program.{ProgramView}
use Rattle.ca_meaning.specs.Body.{At}
use Rattle.ca_meaning.specs.Choice.{branches_of, is_ready, row}
use Rattle.ca_meaning.specs.Row.{completes}
use Rattle.ca_meaning.specs.State.{State, runs}
use Rattle.ca_meaning.specs.Task.{TaskBody, reply_to}
use Rattle.ca_meaning.specs.Wait.{port_of}
use Rattle.ca_agent.specs.Agents.{Answered}
use Rattle.ca_commit.specs.Contents.{Kept, alive, whole, with_channel}
use Rattle.ca_commit.specs.Holds.{KeepsChannels}
use Rattle.ca_commit.specs.Planning.{to_do}
use Rattle.ca_commit.specs.Replies.{GoesOn, done_answer, done_change, reply_by}
use Rattle.ca_commit.proofs.Fitting.{ready_fits, some_ready}
use Rattle.ca_commit.proofs.Holding.{changed}
use Rattle.ca_commit.proofs.RowsDone.{reply_is, row_done}
use Rattle.ca_commit.proofs.Shown.{picks_in, row_seen}
use Rattle.ca_commit.proofs.Steps.{replied}
use Rattle.ca_follow.specs.Has.{parts_had}
use Rattle.ca_follow.proofs.Changed.{part_with, whole_entered}
use Rattle.ca_follow.proofs.Going.{LeadsOn, alone_follows, is_part, one_goes, registered_still, shown_of, stands_there, went}

module _ {A : Type 0} (place : A → At) (stands : ProgramView → A → TaskBody → Type 0) (program : ProgramView) (gives : A → Tree → A → Type 0) (answers_law : Answered stands place gives) (starts : ProgramView → SeedView → A → Type 0) where
  pub done_follows : (k : ℕ) (b : BranchView) (alts : Bool) → LeadsOn place stands program gives starts (to_do k b alts)
  done_follows k b alts h h2 s op at t u p w m a f all is here tells new x = let q = port_of b in let e = tells.2 in let v = done_answer (whole h.bank q) b in
      let shown = shown_of place stands program h s f in let by_row = row_done e.kept b e.answer e.after e.by_row in
      let answer : reply_by alts q v ≡ reply_to op q v = ap (λ (z : Bool). reply_by z q v) tells.3 ∙ reply_is op q v in
      let c = x.answered.0 in let g = went place stands program gives answers_law h s t a c alts (record { op = op; place = at }) (reply_to op q v) is here (subst (λ (z : Tree). GoesOn gives alts a z c) answer x.answered.2) in
      let is_row : row s b ≡ completes v e.after = row_seen (parts_had h) (parts_had h) s b e.kept shown (is_part h) e.there e.asks ∙ e.by_row ∙ ap (λ (z : Tree). completes z e.after) (sym (ap (λ (o : Option Kept). done_answer o b) e.there ∙ by_row.0)) in
      let picks = picks_in (parts_had h) (parts_had h) s op k b shown (is_part h) tells.1 in let held = part_with h.bank q e.kept e.there in
      let banks : whole h2.bank ≡ update eqb (whole h.bank) q (Some (with_channel e.after e.kept)) = whole_entered q (option_map (done_change b)) h.bank h2.bank held.0 held.1 x.bank
      ∙ ap (λ (o : Option Kept). update eqb (whole h.bank) q (option_map (done_change b) o)) e.there ∙ ap (λ (z : Kept). update eqb (whole h.bank) q (Some z)) by_row.1 in
      let s2 : State = record s { tasks = update eqb s.tasks t (Some (runs g.0.result g.3.0)); channels = update eqb s.channels q (Some e.after) } in (
        s2,
        (
          g.0,
          op,
          s2.tasks,
          e.after,
          stands_there place stands program h s t op at g.0 f g.1 g.2 tells.0 (ready_fits s op (some_ready s (branches_of op) k b picks.0 (ap is_ready is_row))),
          picks,
          is_row,
          (g.3.0, replied program g.0 op at q v g.3.0 g.2 g.3.1, refl),
          refl,
        ),
        alone_follows place stands program h h2 s s2 t g.0 c g.3.0 f g.1 g.3.2 refl refl refl (one_goes place stands program h h2 t c x.woken x.goes x.wakes x.answered.1 x.running) x.shard x.known x.used
            (subst (λ (z : ℕ → Option Kept). KeepsChannels z (alive (whole h.shard)) s2.channels s.waits s.used) (sym banks) (changed (whole h.bank) (alive (whole h.shard)) s.channels s.waits s.used q e.kept e.after f.holds e.there))
            (registered_still place stands program h h2 s f x.registry) (x.times ∙ f.times),
      )
