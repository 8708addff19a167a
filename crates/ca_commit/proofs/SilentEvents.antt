-- Silent events that move the parts they touch leave the state as it is.
use Rattle.std.proofs.Common.{◌≡◌, ℕ, ◌≤◌, List, [], ◌∷◌, ◌++◌, refl, sym, ap, ◌∙◌, subst, false, Option, Some, eqb, is_some}
use Rattle.std.specs.Map.{update}
use Rattle.ca_term.specs.declared.event.Side.{Side}
use Rattle.ca_term.specs.Program.{ProgramView}
use Rattle.ca_meaning.specs.Body.{At}
use Rattle.ca_meaning.specs.Task.{TaskBody}
use Rattle.ca_meaning.specs.State.{State}
use Rattle.ca_commit.specs.Contents.{LaneView, Parked, Parts, TimersPart, alive_in, at_key, home, put_on, whole}
use Rattle.ca_commit.specs.Moves.{Becomes}
use Rattle.ca_commit.specs.Running.{or_was}
use Rattle.ca_commit.specs.Seated.{Seated}
use Rattle.ca_commit.specs.SilentMoves.{MovesPick, MovesPrune, MovesStall, MovesTimers, MovesYield, SameLane, StayPut}
use Rattle.ca_commit.specs.Stands.{Stands, port_count, task_count}
use Rattle.ca_commit.proofs.Holding.{pruned_at}
use Rattle.ca_commit.proofs.Laid.{IsPart, laid_becomes, laid_parts, seen, untouched}
use Rattle.ca_commit.proofs.Landing.{altered, lands, lands_still, timers_as_before, unaltered}
use Rattle.ca_commit.proofs.Numbers.{from_same, le_both, numbered_more, same_grow, used_same}
use Rattle.ca_commit.proofs.Seats.{some_same}
use Rattle.ca_commit.proofs.Turning.{picked, yielded}

module _ {A : Type 0} (place : A → At) (stands : ProgramView → A → Option ℕ → TaskBody → Type 0) (program : ProgramView) (n : ℕ) where
  -- a lane and a ready part change, and no task but its place
  moves_over : (now old new : Parts A) (s : State) (w r : ℕ) (l l2 : LaneView A) (q q2 : List (ℕ × A)) → Stands place stands program n now s → IsPart old now → Becomes old.lane new.lane w l l2 → SameLane l l2 → Becomes old.ready new.ready r q q2 → StayPut old new
      → Seated place (stands program) (update eqb now.lane w (Some l2)) (update eqb now.ready r (Some q2)) (whole now.shard) s.tasks s.waits → Stands place stands program n (laid_parts now new) s
  moves_over now old new s w r l l2 q q2 st part lanes same readys others seated = lands place stands program n now old new s s w l l2 (whole now.bank) (whole now.registry) (whole now.shard) (update eqb now.ready r (Some q2)) now.timers st part lanes same.0
      (unaltered now.bank old.bank new.bank part.banks others.banks) (unaltered now.registry old.registry new.registry part.registries others.registries) (unaltered now.shard old.shard new.shard part.shards others.shards)
      (laid_becomes now.ready old.ready new.ready r q q2 part.readys readys) (timers_as_before now old new part others.timers) st.holds st.registered seated st.clocked
      (numbered_more n now.lane lane2 s s st.numbered (same_grow now.lane w l l2 (part.lanes w l lanes.was) same.1) (from_same n task_count lane2 s.tasks) (from_same n port_count lane2 s.channels) (from_same n port_count lane2 s.registries) (used_same n lane2 s.used)) where
        lane2 : ℕ → Option (LaneView A)
        lane2 = update eqb now.lane w (Some l2)

  pub pick_same : (now old new : Parts A) (s : State) (w r : ℕ) → Stands place stands program n now s → IsPart old now → MovesPick w r old new → Stands place stands program n (laid_parts now new) s
  pick_same now old new s w r st part m = moves_over now old new s w r m.lane m.lane2 (m.x ∷ m.rest) m.rest st part m.lanes m.same m.readys m.others
      (picked place (stands program) now.lane now.ready (whole now.shard) s.tasks s.waits w r m.lane m.lane2 m.x m.rest st.seated (part.lanes w m.lane m.lanes.was) m.empty m.task (part.readys r (m.x ∷ m.rest) m.readys.was))

  pub yield_same : (now old new : Parts A) (s : State) (w : ℕ) → Stands place stands program n now s → IsPart old now → MovesYield w old new → Stands place stands program n (laid_parts now new) s
  yield_same now old new s w st part m = moves_over now old new s w w m.lane m.lane2 m.queue (m.queue ++ (m.t, m.agent) ∷ []) st part m.lanes m.same m.readys m.others
      (yielded place (stands program) now.lane now.ready (whole now.shard) s.tasks s.waits w w m.t m.lane m.lane2 m.agent m.queue st.seated (part.lanes w m.lane m.lanes.was) m.task m.empty (part.readys w m.queue m.readys.was))

  pub prune_same : (now old new : Parts A) (s : State) (side : Side) (p wait : ℕ) → Stands place stands program n now s → IsPart old now → MovesPrune side p wait old new → Stands place stands program n (laid_parts now new) s
  prune_same now old new s side p wait st part m = let there = seen now.bank old.bank part.banks p m.kept m.there in let kept2 = put_on side (m.front ++ m.rest) m.kept in
      let dead : alive_in now m.h.wait ≡ false = ap is_some (ap (λ (o : Option (ℕ → Option (Parked A))). at_key o m.h.wait) (part.shards (home m.h.wait) m.from m.shard) ∙ m.gone) in
      lands_still place stands program n now old new s s (update eqb (whole now.bank) p (Some kept2)) (whole now.shard) now.ready now.timers st part m.lanes m.registries refl
      (altered now.bank old.bank new.bank p (Some kept2) part.banks m.banks) (unaltered now.shard old.shard new.shard part.shards m.shards) (untouched now.ready old.ready new.ready part.readys m.readys) (timers_as_before now old new part m.timers)
      (pruned_at (whole now.bank) (alive_in now) s.channels s.waits s.used p m.kept side m.front m.h m.rest st.holds there m.in_queue dead) st.seated st.clocked st.numbered

  -- the clock and the mark are no part of a state
  pub timers_same : (How : TimersPart → TimersPart → Type 0) (now old new : Parts A) (s : State) → Stands place stands program n now s → IsPart old now → MovesTimers How old new → Stands place stands program n (laid_parts now new) s
  timers_same How now old new s st part m = let k = st.clocked m.clock (part.clocks m.clock m.was) in
      lands_still place stands program n now old new s s (whole now.bank) (whole now.shard) now.ready (or_was new.timers now.timers) st part m.lanes m.registries refl
      (unaltered now.bank old.bank new.bank part.banks m.banks) (unaltered now.shard old.shard new.shard part.shards m.shards) (untouched now.ready old.ready new.ready part.readys m.readys) refl st.holds st.seated
      (λ c e. let same : m.clock2 ≡ c = some_same m.clock2 c (sym (ap (λ (o : Option TimersPart). or_was o now.timers) m.is) ∙ e) in
      subst (λ (z : TimersPart). (z.deadlines ≡ s.deadlines) × (z.now ≡ s.now) × (z.now ≤ z.least)) same (m.deadlines ∙ k.0, m.now ∙ k.1, later m.clock m.clock2 m.now m.least k.2)) st.numbered where
        later : (c d : TimersPart) → d.now ≡ c.now → c.least ≤ d.least → c.now ≤ c.least → d.now ≤ d.least
        later c d e a b = subst (λ z. z ≤ d.least) (sym e) (le_both c.now c.least d.least b a)

  pub stall_same : (now old new : Parts A) (s : State) → Stands place stands program n now s → IsPart old now → MovesStall old new → Stands place stands program n (laid_parts now new) s
  stall_same now old new s st part m = let o = m.others in lands_still place stands program n now old new s s (whole now.bank) (whole now.shard) now.ready now.timers st part m.lanes o.registries refl
      (unaltered now.bank old.bank new.bank part.banks o.banks) (unaltered now.shard old.shard new.shard part.shards o.shards) (untouched now.ready old.ready new.ready part.readys m.readys) (timers_as_before now old new part o.timers)
      st.holds st.seated st.clocked st.numbered
