-- Events of waits that move the parts they touch are steps: Meet, Settle, Park and Post.
use Rattle.std.proofs.Common.{◌≡◌, ℕ, List, ◌∷◌, refl, sym, ap, ◌∙◌, subst, Bool, Option, Some, None, eqb}
use Rattle.std.specs.Map.{update}
use Rattle.std.proofs.lemmas.Map.{update_here}
use Rattle.ca_value.specs.Tree.{Tree}
use Rattle.ca_term.specs.declared.event.Side.{Side}
use Rattle.ca_term.specs.declared.event.Side.TheVariants.{Take, Put}
use Rattle.ca_term.specs.Program.{ProgramView}
use Rattle.ca_term.specs.Event.{met, settled}
use Rattle.ca_meaning.specs.Body.{At}
use Rattle.ca_meaning.specs.Wait.{Handler, port_of, front, without, told}
use Rattle.ca_meaning.specs.Row.{meets, settles, settle_row}
use Rattle.ca_meaning.specs.Task.{TaskBody, reply_to}
use Rattle.ca_meaning.specs.Choice.{branches_of, row, is_ready}
use Rattle.ca_meaning.specs.ChannelSteps.{other_side}
use Rattle.ca_meaning.specs.State.{State, runs}
use Rattle.ca_commit.specs.ChannelMoves.{MovesMeet, MovesSettle}
use Rattle.ca_commit.specs.Contents.{Kept, Parts, alive, alive_in, channel_of, on, put_on, whole, with_channel}
use Rattle.ca_commit.specs.Holds.{KeepsChannels}
use Rattle.ca_commit.specs.Stands.{Stands, port_count, task_count}
use Rattle.ca_commit.proofs.AgentLaws.{GoesOn, TakesAnswers}
use Rattle.ca_commit.proofs.Answering.{stands_at}
use Rattle.ca_commit.proofs.Fitting.{ready_fits, some_ready}
use Rattle.ca_commit.proofs.Holding.{but_wait, changed, pruned, settle_right, settles_more, taken_out}
use Rattle.ca_commit.proofs.Joining.{alive_but, alive_more, is_dead, twice}
use Rattle.ca_commit.proofs.Laid.{IsPart, laid_parts, seen}
use Rattle.ca_commit.proofs.Landing.{altered, lands, lands_still, timers_as_before, unaltered}
use Rattle.ca_commit.proofs.Numbers.{from_both, from_same, from_there, none_grow, numbered_more, same_grow, used_same}
use Rattle.ca_commit.proofs.Shown.{picks_in, row_seen, shown_by}
use Rattle.ca_commit.proofs.Steps.{ready_after, ready_is, replied, seated_on, wakes_up, went}
use Rattle.ca_commit.proofs.TaskEvents.{Leads}

module _ {A : Type 0} (place : A → At) (stands : ProgramView → A → Option ℕ → TaskBody → Type 0) (program : ProgramView) (n : ℕ) where
  -- a wait's handler was served: both are gone
  served : (now : Parts A) (s : State) (side : Side) (q wait : ℕ) (kept : Kept) (h : Handler) (rest : List Handler) → Stands place stands program n now s → whole now.bank q ≡ Some kept → on side kept ≡ h ∷ rest → h.wait ≡ wait
      → KeepsChannels (update eqb (whole now.bank) q (Some (put_on side rest kept))) (alive (update eqb (whole now.shard) wait None)) s.channels (without wait s.waits) s.used
  served now s side q wait kept h rest st there front is = subst (λ (f : ℕ → Bool). KeepsChannels (update eqb (whole now.bank) q (Some (put_on side rest kept))) f s.channels (without wait s.waits) s.used) (sym (alive_but (whole now.shard) wait))
      (pruned (whole now.bank) (but_wait (alive_in now) wait) s.channels (without wait s.waits) s.used q kept side h rest (taken_out (whole now.bank) (alive_in now) s.channels s.waits s.used wait st.holds) there front (is_dead (alive_in now) wait h.wait (sym is)))

  module _ (wakes : A → Tree → A → Type 0) (wakes_law : TakesAnswers stands place wakes) where
    pub settle_steps : (now old new : Parts A) (s : State) (w wait k : ℕ) (side : Side) (p : ℕ) (v : Tree) → Stands place stands program n now s → IsPart old now → MovesSettle place wakes w wait k side p v old new → Leads place stands program n (laid_parts now new) s (settled wait k side p v)
    settle_steps now old new s w wait k side p v st part m = let there = seen now.bank old.bank part.banks p m.kept m.there in let here = st.holds.channels_are p ∙ ap channel_of there in
        let right : settle_row m.kept.channel (front Take p s.waits) (front Put p s.waits) ≡ settles side m.h v m.after = settle_right (whole now.bank) (alive_in now) s p m.kept st.holds there (settles_more (alive_in old) (alive_in now) (alive_more old now part) m.kept m.asks) ∙ m.by_row in
        let kept1 = put_on side m.rest m.kept in let kept2 = with_channel m.after kept1 in let parked2 = update eqb (whole now.shard) wait None in
        let wk = wakes_up place stands program n wakes wakes_law n now.lane now old new s w wait p (told side v) s.tasks part m.parked (seen now.shard old.shard part.shards wait m.parked m.lives) m.wakes_up st.seated in
        let s2 : State = record s { tasks = wk.0; channels = update eqb s.channels p (Some m.after); waits = without wait s.waits } in
        let holds2 = changed (update eqb (whole now.bank) p (Some kept1)) (alive parked2) s.channels (without wait s.waits) s.used p kept1 m.after (served now s side p wait m.kept m.h m.rest st there m.in_front m.wait_is) (update_here (whole now.bank) p (Some kept1)) in (
          s2,
          (m.kept.channel, m.after, m.h, wk.0, here, right, m.wait_is, m.branch_is, wk.1, refl),
          lands_still place stands program n now old new s s2 (update eqb (whole now.bank) p (Some kept2)) parked2 (ready_after place stands program n wakes wakes_law now old new w p m.parked (told side v) m.wakes_up) now.timers st part m.lanes m.registries refl
              (altered now.bank old.bank new.bank p (Some kept2) part.banks m.banks) (altered now.shard old.shard new.shard wait None part.shards m.shards) (ready_is place stands program n wakes wakes_law now old new w p m.parked (told side v) part m.wakes_up) (timers_as_before now old new part m.timers)
              (subst (λ (f : ℕ → Option Kept). KeepsChannels f (alive parked2) s2.channels s2.waits s.used) (twice (whole now.bank) p (Some kept1) (Some kept2)) holds2) wk.2 st.clocked
              (numbered_more n now.lane now.lane s s2 st.numbered (none_grow now.lane) wk.3 (from_there n port_count now.lane s.channels p m.kept.channel m.after here) (from_same n port_count now.lane s.registries) (used_same n now.lane s.used)),
        )

    module _ (advances : ProgramView → A → A → Type 0) (goes_on_law : GoesOn stands place advances) (gives : A → Tree → A → Type 0) (answers_law : TakesAnswers stands place gives) where
      pub meet_steps : (now old new : Parts A) (s : State) (w t k : ℕ) (side : Side) (p : ℕ) (v : Tree) (wait k2 : ℕ) → Stands place stands program n now s → IsPart old now → MovesMeet place advances gives wakes w t k side p v wait k2 old new → Leads place stands program n (laid_parts now new) s (met t k side p v wait k2)
      meet_steps now old new s w t k side p v wait k2 st part m = let a = m.answers in let q = port_of m.b in let opp = other_side side in let op = m.op in
          let g = went place stands program n advances goes_on_law gives answers_law now old new s w t op (reply_to op p (told side v)) st part a in let x = g.0 in let tasks = update eqb s.tasks t (Some (runs x.result g.4.0)) in
          let there = seen now.bank old.bank part.banks q m.kept m.there in let is_row : row s m.b ≡ meets m.h v = row_seen now old s m.b m.kept (shown_by st) part m.there m.asks ∙ m.by_row in
          let picks = picks_in now old s op k m.b (shown_by st) part m.picks in let kept2 = put_on opp m.rest m.kept in let parked2 = update eqb (whole now.shard) wait None in
          let l = a.stands.lane in let l2 = a.stands.lane2 in let at_lane = part.lanes w l a.stands.lanes.was in let lane2 = update eqb now.lane w (Some l2) in
          let wk = wakes_up place stands program n wakes wakes_law n lane2 now old new s w wait p (told opp v) tasks part m.parked (seen now.shard old.shard part.shards wait m.parked m.lives) m.wakes_up
          (seated_on place stands program n advances goes_on_law gives answers_law now old new s w t op (reply_to op p (told side v)) st part a g) in
          let s2 : State = record s { tasks = wk.0; waits = without wait s.waits } in (
            s2,
            (
              x,
              op,
              m.b,
              m.h,
              tasks,
              wk.0,
              stands_at place stands program n advances goes_on_law gives answers_law now old new s w t op (reply_to op p (told side v)) st part a g (ready_fits s op (some_ready s (branches_of op) k m.b picks.0 (ap is_ready is_row))),
              picks,
              m.side_is,
              m.port_is,
              is_row,
              m.wait_is,
              m.branch_is,
              (g.4.0, replied program x op a.at p (told side v) g.4.0 g.3 g.4.1, refl),
              wk.1,
              refl,
            ),
            lands place stands program n now old new s s2 w l l2 (update eqb (whole now.bank) q (Some kept2)) (whole now.registry) parked2 (ready_after place stands program n wakes wakes_law now old new w p m.parked (told opp v) m.wakes_up) now.timers st part a.stands.lanes a.stands.program_stays
                (altered now.bank old.bank new.bank q (Some kept2) part.banks m.banks) (unaltered now.registry old.registry new.registry part.registries m.registries) (altered now.shard old.shard new.shard wait None part.shards m.shards)
                (ready_is place stands program n wakes wakes_law now old new w p m.parked (told opp v) part m.wakes_up) (timers_as_before now old new part m.timers)
                (served now s opp q wait m.kept m.h m.rest st there m.in_front m.wait_is) st.registered wk.2 st.clocked
                (numbered_more n now.lane lane2 s s2 st.numbered (same_grow now.lane w l l2 at_lane m.counts) (from_both n task_count lane2 s.tasks tasks wk.0 (from_there n task_count lane2 s.tasks t x (runs x.result g.4.0) g.1) wk.3)
                (from_same n port_count lane2 s.channels) (from_same n port_count lane2 s.registries) (used_same n lane2 s.used)),
          )
