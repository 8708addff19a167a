-- What an event of the lane's task leaves of the parts is what it leaves of the desk.
use Rattle.std.proofs.Common.{⊎_elim, ◌≡◌, ℕ, suc, List, [], ◌∷◌, ◌++◌, refl, sym, ap, ◌∙◌, subst, true, false, Option, Some, None, arith, eqb}
use Rattle.std.specs.Prelude.{option_to_list}
use Rattle.std.specs.Map.{update}
use Rattle.ca_value.specs.Tree.{Tree, bool, nil, port}
use Rattle.ca_term.specs.declared.event.Ending.TheVariants.{Ended, Faulted}
use Rattle.ca_term.specs.declared.event.TaskKind.{TaskKind}
use Rattle.ca_term.specs.Program.{ProgramView}
use Rattle.ca_term.specs.Operation.{OpView, SeedView, closing, making, posting, printing, registering, spawning}
use Rattle.ca_term.specs.Event.{EventView, made, spawned, done, met, parked, posted, settled, defaulted, closed, registered, printed, ticked, over}
use Rattle.ca_meaning.specs.Body.{At, at_op, ended, faulted}
use Rattle.ca_meaning.specs.ChannelSteps.{other_side, with_default}
use Rattle.ca_meaning.specs.Task.{TaskBody, reply_to}
use Rattle.ca_meaning.specs.Wait.{owner_of, port_of, told}
use Rattle.ca_meaning.specs.State.{State}
use Rattle.ca_meaning.specs.EndsLaw.{is_of}
use Rattle.ca_meaning.specs.Solo.{Desk, alts_counted, ReadsMoment, joined_by, left, made_one, Leaves}
use Rattle.ca_agent.specs.Agents.{Advanced}
use Rattle.ca_commit.specs.Agents.{TaskAgent, advances_of, alts_at, gives_of, place_of, stands_of, wakes_of}
use Rattle.ca_commit.specs.Contents.{Counts, LaneView, Parked, Parts, nobody, owner, whole}
use Rattle.ca_commit.specs.Moves.{Alters, Answers, Becomes, WakesIn}
use Rattle.ca_commit.specs.Moving.{MovesShown}
use Rattle.ca_commit.specs.Running.{or_was}
use Rattle.ca_commit.specs.Stands.{Stands}
use Rattle.ca_commit.specs.TaskMoves.{Halts}
use Rattle.ca_commit.proofs.Laid.{IsPart, laid_parts, seen, untouched}
use Rattle.ca_commit.proofs.Seats.{some_same}
use Rattle.ca_alone.specs.Reading.{DeskReads, ReadsOff}
use Rattle.ca_alone.specs.Standing.{ChoosesWell, clock_answers}
use Rattle.ca_alone.proofs.Counting.{counts_fewer, counts_joined, counts_less, counts_parked, owner_left, owner_stays, with_alts}
use Rattle.ca_alone.proofs.Turned.{and_wait, elsewhere, lane_found, lane_left, none_counted, one_counted, only_lane, op_found, queue_left, same_alts}

-- the clock is asked where the event tells a moment
moment_desk : (m : Option ℕ) (d : Desk) → d.readings ≡ option_to_list m → (rs : List ℕ) × ReadsMoment m d (record d { readings = rs }) × (rs ≡ [])
moment_desk None d e = (d.readings, refl, e)
moment_desk (Some m) d e = ([], ([], e, refl), refl)

pub joined_readings : (o : Option ℕ) (d : Desk) → (joined_by o d).readings ≡ d.readings
joined_readings None d = refl
joined_readings (Some u) d = refl

module _ {A : Type 0} where
  -- the desk after an event
  abbrev pub Left : State → Parts (TaskAgent A) → Desk → EventView → Type 0
  Left s h2 d e = (d2 : Desk) × Leaves s d e d2 × DeskReads h2 d2 × (d2.readings ≡ [])

  queue_was : (now old new : Parts (TaskAgent A)) (part : IsPart old now) (d : Desk) (r : DeskReads now d) (q q2 : List (ℕ × TaskAgent A)) → Becomes old.ready new.ready 0 q q2 → r.queue ≡ q
  queue_was now old new part d r q q2 b = some_same r.queue q (sym r.in_ready ∙ part.readys 0 q b.was)

module _ {A : Type 0} (place : A → At) (stands : ProgramView → A → TaskBody → Type 0) (gives : A → Tree → A → Type 0) (program : ProgramView)
    (now old new : Parts (TaskAgent A)) (s : State) (st : Stands (place_of place) (stands_of stands) program 1 now s) (part : IsPart old now) (d : Desk) (r : DeskReads now d) where
  -- whoever waited stands last in the ready part, and the wait is gone
  pub wakes_reads : (l2 : LaneView (TaskAgent A)) (wait p : ℕ) (v : Tree) (d1 : Desk) (x : Parked (TaskAgent A)) → or_was (new.lane 0) (now.lane 0) ≡ Some l2 → whole now.shard wait ≡ Some x → WakesIn (place_of place) (wakes_of gives) old new 0 p x v
      → Alters old.shard new.shard wait None → ReadsOff l2 r.queue (whole now.shard) d1 → DeskReads (laid_parts now new) (joined_by (owner_of wait s.waits) d1)
  wakes_reads l2 wait p v d1 nobody at is w shards k = subst (λ (o : Option ℕ). DeskReads (laid_parts now new) (joined_by o d1)) (sym (st.seated.nobodies wait is))
      (and_wait now old new part d r l2 r.queue d1 wait None at (queue_left now old new part d r w) shards (counts_fewer l2 r.queue (whole now.shard) (update eqb (whole now.shard) wait None) d1 k (owner_left (whole now.shard) (update eqb (whole now.shard) wait None) wait (λ w. refl))))
  wakes_reads l2 wait p v d1 (owner u a) at is w shards k = subst (λ (o : Option ℕ). DeskReads (laid_parts now new) (joined_by o d1)) (sym (st.seated.owners wait u a is).0)
      (and_wait now old new part d r l2 (w.1 ++ (u, w.0) ∷ []) (joined_by (Some u) d1) wait None at (ap (λ o. or_was o (now.ready 0)) w.3.is) shards
      (counts_fewer l2 (w.1 ++ (u, w.0) ∷ []) (whole now.shard) (update eqb (whole now.shard) wait None) (joined_by (Some u) d1)
      (counts_joined l2 w.1 (whole now.shard) d1 u w.0 (subst (λ (q : List (ℕ × TaskAgent A)). ReadsOff l2 q (whole now.shard) d1) (queue_was now old new part d r w.1 (w.1 ++ (u, w.0) ∷ []) w.3) k) (w.2.1 ∙ k.parked_counts wait u a is))
      (owner_left (whole now.shard) (update eqb (whole now.shard) wait None) wait (λ w. refl))))

module _ {A : Type 0} (place : A → At) (stands : ProgramView → A → TaskBody → Type 0) (advances : ProgramView → A → A → Type 0) (gives : A → Tree → A → Type 0) (starts : ProgramView → SeedView → A → Type 0) (advance_law : Advanced stands place advances) (program : ProgramView)
    (now old new : Parts (TaskAgent A)) (s : State) (st : Stands (place_of place) (stands_of stands) program 1 now s) (part : IsPart old now) (d : Desk) (r : DeskReads now d) where
  abbrev Moved : EventView → Type 0
  Moved e = MovesShown place advances gives starts 0 1 e old new

  -- it goes on from what isn't an alts, and gave no number
  same_counts : (t : ℕ) (op : OpView) (v : Tree) (a : Answers (place_of place) (advances_of advances) (gives_of place gives) 0 t op v old new) → alts_counted op a.stands.agent.alts ≡ a.stands.agent.alts → a.stands.lane2.counts ≡ a.stands.lane.counts → ReadsOff a.stands.lane2 r.queue (whole now.shard) (made_one d)
  same_counts t op v a same counts = let f = lane_found now old new part d r a.stands.lane a.stands.lanes.was in
      none_counted place stands advances advance_law program now old new s st part d r t gives op v a d.tasks d.ports d.waits d.readings same (f.tasks ∙ sym (ap (λ (c : Counts). c.tasks) counts)) (f.ports ∙ sym (ap (λ (c : Counts). c.ports) counts)) (f.waits ∙ sym (ap (λ (c : Counts). c.waits) counts))

  -- an end leaves the lane empty
  over_leaves : (t : ℕ) (at : At) → (h : Halts (place_of place) (advances_of advances) 0 t at old new) → DeskReads (laid_parts now new) (left d)
  over_leaves t at h = only_lane now old new part d r h.stands.lane2 (left d) h.stands.lanes.is h.readys h.shards
      (counts_less h.stands.lane h.stands.lane2 r.queue (whole now.shard) d (lane_found now old new part d r h.stands.lane h.stands.lanes.was) h.empty h.counts)

  -- where a new task has made no alts, and the branch is the schedule's
  pub shown_leaves : (t : ℕ) (e : EventView) → is_of t e ≡ true → d.readings ≡ clock_answers e → ((t u : ℕ) (kind : TaskKind) (result : Option ℕ) → e ≡ spawned t u kind result → d.alts u ≡ 0) → ChoosesWell s d e → Moved e → Left s (laid_parts now new) d e
  shown_leaves z (made t p what moment) is asks fresh well m =
      let y = moment_desk moment d asks in let a = m.answers in let f = lane_found now old new part d r a.stands.lane a.stands.lanes.was in
      let next : p ≡ suc d.ports = (let n = m.next in let e = f.ports in omega (arith, n, e)) in
      let d2 = made_one (record d { ports = p; readings = y.0 }) in (
        d2,
        (record d { readings = y.0 }, next, y.1, refl),
        only_lane now old new part d r a.stands.lane2 d2 a.stands.lanes.is m.readys m.shards
            (none_counted place stands advances advance_law program now old new s st part d r t gives (making what) (port p) a d.tasks p d.waits y.0 refl (f.tasks ∙ sym (ap (λ (c : Counts). c.tasks) m.counts)) (let n = m.next in let c = ap (λ (c : Counts). c.ports) m.counts in omega (arith, n, c)) (f.waits ∙ sym (ap (λ (c : Counts). c.waits) m.counts))),
        y.2,
      )
  shown_leaves z (spawned t u kind result) is asks fresh well m = let a = m.answers in let f = lane_found now old new part d r a.stands.lane a.stands.lanes.was in
      let next : u ≡ suc d.tasks = (let n = m.next in let e = f.tasks in omega (arith, n, e)) in
      let d1 = made_one (record d { tasks = u }) in
      let k = none_counted place stands advances advance_law program now old new s st part d r t gives (spawning m.seed) nil a u d.ports d.waits d.readings refl (let n = m.next in let c = ap (λ (c : Counts). c.tasks) m.counts in omega (arith, n, c)) (f.ports ∙ sym (ap (λ (c : Counts). c.ports) m.counts)) (f.waits ∙ sym (ap (λ (c : Counts). c.waits) m.counts)) in
      let q = m.queue in (
        joined_by (Some u) d1,
        (next, refl),
        record {
          lane = a.stands.lane2;
          in_lane = lane_left now old new part d r a.stands.lane2 a.stands.lanes.is;
          queue = q ++ (u, m.agent) ∷ [];
          in_ready = ap (λ o. or_was o (now.ready 0)) m.readys.is;
          reads = subst (λ (g : ℕ → Option (ℕ → Option (Parked (TaskAgent A)))). ReadsOff a.stands.lane2 (q ++ (u, m.agent) ∷ []) (whole g) (joined_by (Some u) d1)) (sym (untouched now.shard old.shard new.shard part.shards m.shards))
              (counts_joined a.stands.lane2 q (whole now.shard) d1 u m.agent (subst (λ (q : List (ℕ × TaskAgent A)). ReadsOff a.stands.lane2 q (whole now.shard) d1) (queue_was now old new part d r q (q ++ (u, m.agent) ∷ []) m.readys) k) (m.started.1 ∙ sym (fresh t u kind result refl)));
        },
        asks,
      )
  shown_leaves z (done t k b v) is asks fresh well m = let a = m.answers in
      let o = op_found place stands advances advance_law program now old new s st part d r t m.op a.at a.stands in let d1 = with_alts m.op t d in (
        made_one d1,
        (d1, well, (o.0, m.op, o.1, o.2, refl), refl),
        only_lane now old new part d r a.stands.lane2 (made_one d1) a.stands.lanes.is m.readys m.shards (one_counted place stands advances advance_law program now old new s st part d r t gives m.op (reply_to m.op (port_of b) v) a m.counts),
        asks,
      )
  shown_leaves z (met t k side p v wait o2) is asks fresh well m = let a = m.answers in
      let o = op_found place stands advances advance_law program now old new s st part d r t m.op a.at a.stands in let d1 = with_alts m.op t d in (
        joined_by (owner_of wait s.waits) (made_one d1),
        (d1, well, (o.0, m.op, o.1, o.2, refl), refl),
        wakes_reads place stands gives program now old new s st part d r a.stands.lane2 wait p (told (other_side side) v) (made_one d1) m.parked (lane_left now old new part d r a.stands.lane2 a.stands.lanes.is) (seen now.shard old.shard part.shards wait m.parked m.lives) m.wakes_up m.shards
            (one_counted place stands advances advance_law program now old new s st part d r t gives m.op (reply_to m.op p (told side v)) a m.counts),
        joined_readings (owner_of wait s.waits) (made_one d1) ∙ asks,
      )
  shown_leaves z (parked t wait bs) is asks fresh well m = let b = m.stands in let j = m.joins in
      let o = op_found place stands advances advance_law program now old new s st part d r t m.op m.at b in let d1 = with_alts m.op t d in
      let f = lane_found now old new part d r b.lane b.lanes.was in let e = elsewhere place stands advances advance_law program now old new s st part d r t (at_op (record { op = m.op; place = m.at })) b in
      let next : wait ≡ suc d.waits = (let n = j.next in let e = f.waits in omega (arith, n, e)) in
      let alts : m.agent2.alts ≡ alts_counted m.op b.agent.alts = m.waits_as.1 ∙ ap (λ (z : At). alts_at z b.agent1.alts) b.stood ∙ same_alts m.op b.agent1.alts ∙ ap (alts_counted m.op) b.advanced.1 in (
        left (record d1 { waits = wait }),
        (d1, next, (o.0, m.op, o.1, o.2, refl), refl),
        and_wait now old new part d r b.lane2 r.queue (left (record d1 { waits = wait })) wait (Some (owner t m.agent2)) (lane_left now old new part d r b.lane2 b.lanes.is) (queue_left now old new part d r j.readys) j.shards
            (counts_parked b.lane b.lane2 r.queue (whole now.shard) d m.op t wait b.agent m.agent2 f b.task e.0 e.1 m.empty alts j.counts next),
        asks,
      )
  shown_leaves z (posted t wait p v) is asks fresh well m = let a = m.answers in let j = m.joins in let f = lane_found now old new part d r a.stands.lane a.stands.lanes.was in
      let next : wait ≡ suc d.waits = (let n = j.next in let e = f.waits in omega (arith, n, e)) in
      let d2 = made_one (record d { waits = wait }) in let parked2 = update eqb (whole now.shard) wait (Some nobody) in
      let k = none_counted place stands advances advance_law program now old new s st part d r t gives (posting (port p) v) (bool true) a d.tasks d.ports wait d.readings refl (f.tasks ∙ sym (ap (λ (c : Counts). c.tasks) j.counts)) (f.ports ∙ sym (ap (λ (c : Counts). c.ports) j.counts)) (let n = j.next in let c = ap (λ (c : Counts). c.waits) j.counts in omega (arith, n, c)) in (
        d2,
        (next, refl),
        and_wait now old new part d r a.stands.lane2 r.queue d2 wait (Some nobody) (lane_left now old new part d r a.stands.lane2 a.stands.lanes.is) (queue_left now old new part d r j.readys) j.shards
            (counts_fewer a.stands.lane2 r.queue (whole now.shard) parked2 d2 k (owner_stays (whole now.shard) parked2 wait (λ w. refl))),
        asks,
      )
  shown_leaves z (settled w k side p v) is asks fresh well m = absurd (let q : false ≡ true = is in cc)
  shown_leaves z (defaulted t v) is asks fresh well m = let a = m.answers in
      let o = op_found place stands advances advance_law program now old new s st part d r t m.op a.at a.stands in let d1 = with_alts m.op t d in (
        made_one d1,
        (d1, (o.0, m.op, o.1, o.2, refl), refl),
        only_lane now old new part d r a.stands.lane2 (made_one d1) a.stands.lanes.is m.readys m.shards (one_counted place stands advances advance_law program now old new s st part d r t gives m.op (with_default v) a m.counts),
        asks,
      )
  shown_leaves z (closed t p) is asks fresh well m = (made_one d, refl, only_lane now old new part d r m.answers.stands.lane2 (made_one d) m.answers.stands.lanes.is m.readys m.shards (same_counts t (closing (port p)) nil m.answers refl m.counts), asks)
  shown_leaves z (registered t name args v) is asks fresh well m = (made_one d, refl, only_lane now old new part d r m.acts.stands.lane2 (made_one d) m.acts.stands.lanes.is m.readys m.shards (same_counts t (registering name args) v m.acts refl m.counts), asks)
  shown_leaves z (printed t line) is asks fresh well m = (made_one d, refl, only_lane now old new part d r m.answers.stands.lane2 (made_one d) m.answers.stands.lanes.is m.readys m.shards (same_counts t (printing line) nil m.answers refl m.counts), asks)
  shown_leaves z (ticked m' ports) is asks fresh well m = absurd (let q : false ≡ true = is in cc)
  shown_leaves z (over t Ended) is asks fresh well m = (left d, refl, over_leaves t (ended m.v) m.halts, asks)
  shown_leaves z (over t (Faulted fault at res)) is asks fresh well m = (left d, refl, ⊎_elim (λ h. over_leaves t (faulted fault at) h) (λ k. ⊎_elim (λ h. over_leaves t (at_op (record { op = h.0; place = at })) h.1) (λ h. over_leaves t (at_op (record { op = h.0; place = at })) h.1) k) m.halts, asks)
