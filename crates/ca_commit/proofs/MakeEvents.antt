-- A new channel, registry or timeout, and a Tick, are steps.
use Rattle.std.proofs.Common.{◌⊎◌, inl, ◌≡◌, ℕ, ◌≤◌, List, refl, sym, ap, ◌∙◌, subst, Bool, true, false, cond, Option, Some, None, option_map, unwrap_or, eqb}
use Rattle.std.specs.Map.{update}
use Rattle.ca_value.specs.Tree.{Tree, port}
use Rattle.ca_term.specs.Program.{ProgramView}
use Rattle.ca_term.specs.Operation.{WhatView, making, unbuffered, fixed, dropping, sliding, promise, timeout, mult, mix, publication}
use Rattle.ca_term.specs.Event.{made, ticked}
use Rattle.ca_meaning.specs.Body.{At}
use Rattle.ca_meaning.specs.Channel.{Channel, shut, channel_made}
use Rattle.ca_meaning.specs.Registry.{registry_made}
use Rattle.ca_meaning.specs.Task.{TaskBody}
use Rattle.ca_meaning.specs.TaskSteps.{IsMoment, with_deadline}
use Rattle.ca_meaning.specs.Wait.{Wait, is_among}
use Rattle.ca_meaning.specs.State.{State, Channels, Deadline, runs, due, open_after, shut_all}
use Rattle.ca_commit.specs.Contents.{Kept, LaneView, Parts, TimersPart, alive, alive_in, channel_of, whole}
use Rattle.ca_commit.specs.Holds.{KeepsChannels, empty_kept, shut_in}
use Rattle.ca_commit.specs.Running.{or_was}
use Rattle.ca_commit.specs.Stands.{GivenByWorker, Stands, port_count, task_count, wait_count}
use Rattle.ca_commit.specs.TaskMoves.{MakesTimed, MovesMake, MovesTick}
use Rattle.ca_commit.proofs.AgentLaws.{GoesOn, TakesAnswers}
use Rattle.ca_commit.proofs.Answering.{stands_at}
use Rattle.ca_commit.proofs.Holding.{made_holds}
use Rattle.ca_commit.proofs.Laid.{IsPart, laid, laid_parts, none_put, same_map, untouched}
use Rattle.ca_commit.proofs.Landing.{altered, lands, lands_still, timers_as_before, unaltered}
use Rattle.ca_commit.proofs.Numbers.{From, all_grow, equal_le, from_new, from_same, from_there, given_next, is_none, none_grow, not_given, numbered_more, one_more_le, used_same}
use Rattle.ca_commit.proofs.Seats.{some_same}
use Rattle.ca_commit.proofs.Steps.{seated_on, went}
use Rattle.ca_commit.proofs.TaskEvents.{Leads}
use Rattle.ca_commit.proofs.Ticking.{laid_shut, shut_all_is, shut_holds}

-- what has no moment opens no deadline
plain_moment : (now : ℕ) (what : WhatView) → IsMoment 0 what None → IsMoment now what None
plain_moment now unbuffered e = e
plain_moment now (fixed n) e = e
plain_moment now (dropping n) e = e
plain_moment now (sliding n) e = e
plain_moment now promise e = e
plain_moment now (timeout n) e = e
plain_moment now (mult source) e = e
plain_moment now (mix out changes) e = e
plain_moment now (publication source) e = e

plain_deadlines : (p m : ℕ) (what : WhatView) (ds : List Deadline) → IsMoment 0 what None → with_deadline p what m ds ≡ ds
plain_deadlines p m unbuffered ds e = refl
plain_deadlines p m (fixed n) ds e = refl
plain_deadlines p m (dropping n) ds e = refl
plain_deadlines p m (sliding n) ds e = refl
plain_deadlines p m promise ds e = refl
plain_deadlines p m (timeout n) ds e = absurd e
plain_deadlines p m (mult source) ds e = refl
plain_deadlines p m (mix out changes) ds e = refl
plain_deadlines p m (publication source) ds e = refl

-- a port is new, with a channel or without one
new_port : (ports : ℕ → Option Kept) (alive : ℕ → Bool) (channels : Channels) (waits : List Wait) (used : List ℕ) (p : ℕ) (o : Option Channel) → KeepsChannels ports alive channels waits used → ports p ≡ None → channels p ≡ None
    → KeepsChannels (update eqb ports p (option_map empty_kept o)) alive (update eqb channels p o) waits used
new_port ports alive channels waits used p (Some c) h a b = made_holds ports alive channels waits used p c h a
new_port ports alive channels waits used p None h a b = subst (λ f. KeepsChannels f alive (update eqb channels p None) waits used) (sym (none_put ports p a)) (subst (λ f. KeepsChannels ports alive f waits used) (sym (none_put channels p b)) h)

channel_gone : (o : Option Kept) → channel_of o ≡ None → o ≡ None
channel_gone None e = refl
channel_gone (Some k) e = absurd (let z : Some k.channel ≡ None = e in cc)

module _ {A : Type 0} (place : A → At) (stands : ProgramView → A → Option ℕ → TaskBody → Type 0) (program : ProgramView) (n : ℕ) where
  -- the clock where a port is made
  made_clock : (now old new : Parts A) (s : State) (p : ℕ) (what : WhatView) (moment : Option ℕ) → Stands place stands program n now s → IsPart old now → MakesTimed p what moment old.timers new.timers
      → IsMoment s.now what moment × ((c : TimersPart) → or_was new.timers now.timers ≡ Some c → (c.deadlines ≡ with_deadline p what (unwrap_or moment s.now) s.deadlines) × (c.now ≡ unwrap_or moment s.now) × (c.now ≤ c.least))
  made_clock now old new s p what None st part m = (
    plain_moment s.now what m.0,
    λ c e. let k = st.clocked c (sym (timers_as_before now old new part m.1) ∙ e) in (k.0 ∙ sym (plain_deadlines p s.now what s.deadlines m.0), k.1, k.2),
  )
  made_clock now old new s p what (Some moment) st part m = let k = st.clocked m.0 (part.clocks m.0 m.2) in (
    subst (λ z. IsMoment z what (Some moment)) k.1 m.4,
    λ c e. let same : m.1 ≡ c = some_same m.1 c (sym (ap (λ (o : Option TimersPart). or_was o now.timers) m.3) ∙ e) in
        subst (λ (z : TimersPart). (z.deadlines ≡ with_deadline p what moment s.deadlines) × (z.now ≡ moment) × (z.now ≤ z.least)) same
        (m.6 ∙ ap (with_deadline p what moment) k.0, m.5.now, equal_le m.1.now m.1.least (m.5.least ∙ sym m.5.now)),
  )

  module _ (advances : ProgramView → A → A → Type 0) (goes_on_law : GoesOn stands place advances) (gives : A → Tree → A → Type 0) (answers_law : TakesAnswers stands place gives) where
    pub make_steps : (now old new : Parts A) (s : State) (w t p : ℕ) (what : WhatView) (moment : Option ℕ) → Stands place stands program n now s → IsPart old now → MovesMake place advances gives w n t p what moment old new → Leads place stands program n (laid_parts now new) s (made t p what moment)
    make_steps now old new s w t p what moment st part m = let a = m.answers in let op = making what in let g = went place stands program n advances goes_on_law gives answers_law now old new s w t op (port p) st part a in
        let x = g.0 in let tasks = update eqb s.tasks t (Some (runs x.result g.4.0)) in let l = a.stands.lane in let l2 = a.stands.lane2 in let lane2 = update eqb now.lane w (Some l2) in
        let at_lane = part.lanes w l a.stands.lanes.was in let clock = made_clock now old new s p what moment st part m.timers in
        let fresh : GivenByWorker n port_count now.lane p → ⊥ = not_given n port_count now.lane w l p (st.lanes w l at_lane).1 at_lane m.next in
        let no_channel : s.channels p ≡ None = is_none (s.channels p) (λ c e. fresh (st.numbered.ports p c e)) in
        let no_registry : s.registries p ≡ None = is_none (s.registries p) (λ r e. fresh (st.numbered.registries p r e)) in
        let here = given_next n port_count now.lane w l l2 p (st.lanes w l at_lane).1 m.next (ap port_count m.counts) in
        let s2 : State = record s { tasks = tasks; channels = update eqb s.channels p (channel_made what); registries = update eqb s.registries p (registry_made what); deadlines = with_deadline p what (unwrap_or moment s.now) s.deadlines; now = unwrap_or moment s.now } in (
          s2,
          (x, tasks, stands_at place stands program n advances goes_on_law gives answers_law now old new s w t op (port p) st part a g refl, no_channel, no_registry, clock.0, (g.4.0, g.4.1, refl), refl),
          lands place stands program n now old new s s2 w l l2 (update eqb (whole now.bank) p (option_map empty_kept (channel_made what))) (update eqb (whole now.registry) p (registry_made what)) (whole now.shard) now.ready (or_was new.timers now.timers) st part a.stands.lanes a.stands.program_stays
              (altered now.bank old.bank new.bank p (option_map empty_kept (channel_made what)) part.banks m.banks) (altered now.registry old.registry new.registry p (registry_made what) part.registries m.registries)
              (unaltered now.shard old.shard new.shard part.shards m.shards) (untouched now.ready old.ready new.ready part.readys m.readys) refl
              (new_port (whole now.bank) (alive_in now) s.channels s.waits s.used p (channel_made what) st.holds (channel_gone (whole now.bank p) (sym (st.holds.channels_are p) ∙ no_channel)) no_channel)
              (λ q. ap (λ o. cond (eqb p q) (registry_made what) o) (st.registered q))
              (seated_on place stands program n advances goes_on_law gives answers_law now old new s w t op (port p) st part a g) clock.1
              (numbered_more n now.lane lane2 s s2 st.numbered
              (all_grow now.lane w l l2 at_lane (equal_le l.counts.tasks l2.counts.tasks (ap task_count m.counts)) (one_more_le l.counts.ports l2.counts.ports (ap port_count m.counts)) (equal_le l.counts.waits l2.counts.waits (ap wait_count m.counts)))
              (from_there n task_count lane2 s.tasks t x (runs x.result g.4.0) g.1) (from_new n port_count lane2 s.channels p (channel_made what) here) (from_new n port_count lane2 s.registries p (registry_made what) here) (used_same n lane2 s.used)),
        )

  shut_from_there : (lane : ℕ → Option (LaneView A)) (ps : List ℕ) (ch : Channels) → From n port_count lane ch (shut_all ps ch)
  shut_from_there lane ps ch q c e = by (is_among q ps) (ch q) refl (sym (shut_all_is ps ch q) ∙ e) where
    by : (b : Bool) (o : Option Channel) → ch q ≡ o → cond b (option_map shut o) o ≡ Some c → ((d : Channel) × (ch q ≡ Some d)) ⊎ GivenByWorker n port_count lane q
    by true None is e = absurd (let z : None ≡ Some c = e in cc)
    by false None is e = absurd (let z : None ≡ Some c = e in cc)
    by true (Some d) is e = inl (d, is)
    by false (Some d) is e = inl (d, is)

  pub tick_steps : (now old new : Parts A) (s : State) (moment : ℕ) (ports : List ℕ) → Stands place stands program n now s → IsPart old now → MovesTick moment ports old new → Leads place stands program n (laid_parts now new) s (ticked moment ports)
  tick_steps now old new s moment ports st part m = let c = st.clocked m.clock (part.clocks m.clock m.was) in
      let s2 : State = record s { channels = shut_all ports s.channels; deadlines = open_after moment s.deadlines; now = moment } in (
        s2,
        (subst (λ z. z ≤ moment) c.1 m.late, m.bound, ap (due moment) (sym c.0) ∙ m.due_are, m.some, refl),
        lands_still place stands program n now old new s s2 (shut_in ports (whole now.bank)) (whole now.shard) now.ready (or_was new.timers now.timers) st part m.lanes m.registries refl
            (same_map (whole (laid now.bank new.bank)) (shut_in ports (whole now.bank)) (laid_shut now.bank old.bank new.bank ports part.banks m.banks m.there)) (unaltered now.shard old.shard new.shard part.shards m.shards) (untouched now.ready old.ready new.ready part.readys m.readys) refl
            (shut_holds ports (whole now.bank) (alive_in now) s.channels s.waits s.used st.holds) st.seated
            (λ d e. let same : m.clock2 ≡ d = some_same m.clock2 d (sym (ap (λ (o : Option TimersPart). or_was o now.timers) m.is) ∙ e) in
            subst (λ (z : TimersPart). (z.deadlines ≡ s2.deadlines) × (z.now ≡ s2.now) × (z.now ≤ z.least)) same (m.left ∙ ap (open_after moment) c.0, m.reads.now, equal_le m.clock2.now m.clock2.least (m.reads.least ∙ sym m.reads.now)))
            (numbered_more n now.lane now.lane s s2 st.numbered (none_grow now.lane) (from_same n task_count now.lane s.tasks) (shut_from_there now.lane ports s.channels) (from_same n port_count now.lane s.registries) (used_same n now.lane s.used)),
      )
