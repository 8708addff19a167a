-- Events of one task on channels that move the parts they touch are steps: Done, Default and Close.
use Rattle.std.proofs.Common.{◌≡◌, ℕ, refl, sym, ap, ◌∙◌, subst, Option, Some, option_map, eqb}
use Rattle.std.specs.Map.{update}
use Rattle.ca_value.specs.Tree.{Tree, nil, port}
use Rattle.ca_term.specs.Program.{ProgramView}
use Rattle.ca_term.specs.Operation.{closing}
use Rattle.ca_term.specs.Event.{BranchView, done, defaulted, closed}
use Rattle.ca_meaning.specs.Body.{At}
use Rattle.ca_meaning.specs.Channel.{Channel, shut}
use Rattle.ca_meaning.specs.Wait.{port_of}
use Rattle.ca_meaning.specs.Row.{completes}
use Rattle.ca_meaning.specs.Task.{TaskBody, reply_to}
use Rattle.ca_meaning.specs.Choice.{branches_of, row, is_ready}
use Rattle.ca_meaning.specs.ChannelSteps.{with_default}
use Rattle.ca_meaning.specs.State.{State, Channels, runs, shut_at}
use Rattle.ca_commit.specs.ChannelMoves.{MovesClose, MovesDefault, MovesDone}
use Rattle.ca_commit.specs.Contents.{Parts, alive_in, channel_of, whole, with_channel}
use Rattle.ca_commit.specs.Holds.{KeepsChannels}
use Rattle.ca_commit.specs.Stands.{Stands, port_count}
use Rattle.ca_commit.proofs.AgentLaws.{GoesOn, TakesAnswers}
use Rattle.ca_commit.proofs.Answering.{goes_to, stands_at}
use Rattle.ca_commit.proofs.Fitting.{default_fits, ready_fits, some_ready}
use Rattle.ca_commit.proofs.Holding.{changed}
use Rattle.ca_commit.proofs.Laid.{IsPart, laid_parts, seen}
use Rattle.ca_commit.proofs.Landing.{altered, unaltered}
use Rattle.ca_commit.proofs.Numbers.{From, from_same, from_there}
use Rattle.ca_commit.proofs.Shown.{none_ready, picks_in, row_seen, shown_by}
use Rattle.ca_commit.proofs.Steps.{replied, went}
use Rattle.ca_commit.proofs.TaskEvents.{Leads}

module _ {A : Type 0} (place : A → At) (stands : ProgramView → A → Option ℕ → TaskBody → Type 0) (program : ProgramView) (n : ℕ)
    (advances : ProgramView → A → A → Type 0) (goes_on_law : GoesOn stands place advances) (gives : A → Tree → A → Type 0) (answers_law : TakesAnswers stands place gives) where
  pub done_steps : (now old new : Parts A) (s : State) (w t k : ℕ) (b : BranchView) (v : Tree) → Stands place stands program n now s → IsPart old now → MovesDone place advances gives w t k b v old new → Leads place stands program n (laid_parts now new) s (done t k b v)
  done_steps now old new s w t k b v st part m = let p = port_of b in let a = m.answers in let op = m.op in let g = went place stands program n advances goes_on_law gives answers_law now old new s w t op (reply_to op p v) st part a in
      let x = g.0 in let tasks = update eqb s.tasks t (Some (runs x.result g.4.0)) in let there = seen now.bank old.bank part.banks p m.kept m.there in
      let is_row : row s b ≡ completes v m.after = row_seen now old s b m.kept (shown_by st) part m.there m.asks ∙ m.by_row in
      let picks = picks_in now old s op k b (shown_by st) part m.picks in let lane2 = update eqb now.lane w (Some a.stands.lane2) in
      let s2 : State = record s { tasks = tasks; channels = update eqb s.channels p (Some m.after) } in (
        s2,
        (
          x,
          op,
          tasks,
          m.after,
          stands_at place stands program n advances goes_on_law gives answers_law now old new s w t op (reply_to op p v) st part a g (ready_fits s op (some_ready s (branches_of op) k b picks.0 (ap is_ready is_row))),
          picks,
          is_row,
          (g.4.0, replied program x op a.at p v g.4.0 g.3 g.4.1, refl),
          refl,
        ),
        goes_to place stands program n advances goes_on_law gives answers_law now old new s s2 w t op (reply_to op p v) (update eqb (whole now.bank) p (Some (with_channel m.after m.kept))) (whole now.registry) st part a g m.counts refl refl refl refl refl
            (altered now.bank old.bank new.bank p (Some (with_channel m.after m.kept)) part.banks m.banks) (unaltered now.registry old.registry new.registry part.registries m.registries) m.shards m.readys m.timers
            (changed (whole now.bank) (alive_in now) s.channels s.waits s.used p m.kept m.after st.holds there) st.registered
            (from_there n port_count lane2 s.channels p m.kept.channel m.after (st.holds.channels_are p ∙ ap channel_of there)) (from_same n port_count lane2 s.registries),
      )

  pub default_steps : (now old new : Parts A) (s : State) (w t : ℕ) (v : Tree) → Stands place stands program n now s → IsPart old now → MovesDefault place advances gives w t v old new → Leads place stands program n (laid_parts now new) s (defaulted t v)
  default_steps now old new s w t v st part m = let a = m.answers in let op = m.op in let g = went place stands program n advances goes_on_law gives answers_law now old new s w t op (with_default v) st part a in
      let x = g.0 in let tasks = update eqb s.tasks t (Some (runs x.result g.4.0)) in let lane2 = update eqb now.lane w (Some a.stands.lane2) in
      let s2 : State = record s { tasks = tasks } in (
        s2,
        (x, op, tasks, stands_at place stands program n advances goes_on_law gives answers_law now old new s w t op (with_default v) st part a g (default_fits s op v m.default_is), m.default_is, none_ready now old s (branches_of op) (shown_by st) part m.unready, (g.4.0, g.4.1, refl), refl),
        goes_to place stands program n advances goes_on_law gives answers_law now old new s s2 w t op (with_default v) (whole now.bank) (whole now.registry) st part a g m.counts refl refl refl refl refl
            (unaltered now.bank old.bank new.bank part.banks m.banks) (unaltered now.registry old.registry new.registry part.registries m.registries) m.shards m.readys m.timers st.holds st.registered
            (from_same n port_count lane2 s.channels) (from_same n port_count lane2 s.registries),
      )

  pub close_steps : (now old new : Parts A) (s : State) (w t p : ℕ) → Stands place stands program n now s → IsPart old now → MovesClose place advances gives w t p old new → Leads place stands program n (laid_parts now new) s (closed t p)
  close_steps now old new s w t p st part m = let a = m.answers in let op = closing (port p) in let g = went place stands program n advances goes_on_law gives answers_law now old new s w t op nil st part a in
      let x = g.0 in let tasks = update eqb s.tasks t (Some (runs x.result g.4.0)) in let there = seen now.bank old.bank part.banks p m.kept m.there in let lane2 = update eqb now.lane w (Some a.stands.lane2) in
      let here : s.channels p ≡ Some m.kept.channel = st.holds.channels_are p ∙ ap channel_of there in
      let shuts : update eqb s.channels p (Some (shut m.kept.channel)) ≡ shut_at p s.channels = ap (λ (o : Option Channel). update eqb s.channels p (option_map shut o)) (sym here) in
      let s2 : State = record s { tasks = tasks; channels = shut_at p s.channels } in (
        s2,
        (x, tasks, stands_at place stands program n advances goes_on_law gives answers_law now old new s w t op nil st part a g refl, (g.4.0, g.4.1, refl), refl),
        goes_to place stands program n advances goes_on_law gives answers_law now old new s s2 w t op nil (update eqb (whole now.bank) p (Some (with_channel (shut m.kept.channel) m.kept))) (whole now.registry) st part a g m.counts refl refl refl refl refl
            (altered now.bank old.bank new.bank p (Some (with_channel (shut m.kept.channel) m.kept)) part.banks m.banks) (unaltered now.registry old.registry new.registry part.registries m.registries) m.shards m.readys m.timers
            (subst (λ (f : Channels). KeepsChannels (update eqb (whole now.bank) p (Some (with_channel (shut m.kept.channel) m.kept))) (alive_in now) f s.waits s.used) shuts (changed (whole now.bank) (alive_in now) s.channels s.waits s.used p m.kept (shut m.kept.channel) st.holds there)) st.registered
            (subst (λ (f : Channels). From n port_count lane2 s.channels f) shuts (from_there n port_count lane2 s.channels p m.kept.channel (shut m.kept.channel) here)) (from_same n port_count lane2 s.registries),
      )
