-- The ends of tasks, by a value or by a fault, are steps.
use Rattle.std.proofs.Common.{⊎_elim, ◌≡◌, ℕ, ◌≤◌, refl, sym, ap, ◌∙◌, subst, Bool, true, false, Option, Some, None, option_map, eqb}
use Rattle.std.specs.Map.{update}
use Rattle.ca_term.specs.declared.place.Place.{Place}
use Rattle.ca_term.specs.declared.fault.Fault.{Fault}
use Rattle.ca_term.specs.declared.event.Ending.TheVariants.{Ended}
use Rattle.ca_term.specs.Program.{ProgramView}
use Rattle.ca_term.specs.Event.{over}
use Rattle.ca_meaning.specs.Body.{At, at_op, ended, faulted}
use Rattle.ca_meaning.specs.Channel.{Channel, shut}
use Rattle.ca_meaning.specs.Task.{TaskBody}
use Rattle.ca_meaning.specs.Choice.{branches_of}
use Rattle.ca_meaning.specs.Refusal.{fault_at}
use Rattle.ca_meaning.specs.TaskSteps.{FaultStep}
use Rattle.ca_meaning.specs.State.{State, Task, Channels, over as is_over, shut_at, shut_result}
use Rattle.ca_commit.specs.Contents.{Kept, LaneView, Parts, TimersPart, alive_in, at_key, channel_of, home, main_over, whole}
use Rattle.ca_commit.specs.Holds.{KeepsChannels, shut_kept}
use Rattle.ca_commit.specs.Moves.{Alters, Stood}
use Rattle.ca_commit.specs.Running.{or_was}
use Rattle.ca_commit.specs.Stands.{Stands, port_count, task_count}
use Rattle.ca_commit.specs.TaskMoves.{Halts, MarksEnd, MovesEnd, MovesFault, ShutsAt, with_mark}
use Rattle.ca_commit.proofs.AgentLaws.{GoesOn, TellsResult}
use Rattle.ca_commit.proofs.Fitting.{crowd_refuses, refuses}
use Rattle.ca_commit.proofs.Holding.{changed}
use Rattle.ca_commit.proofs.Laid.{IsPart, laid, laid_parts, none_put, untouched}
use Rattle.ca_commit.proofs.Landing.{Clocked, altered, lands, timers_as_before, unaltered}
use Rattle.ca_commit.proofs.Numbers.{From, from_same, from_there, numbered_more, same_grow, used_same}
use Rattle.ca_commit.proofs.Seats.{leaves, some_same}
use Rattle.ca_commit.proofs.Shown.{none_ready, shown_by, shows, some_crowded}
use Rattle.ca_commit.proofs.Steps.{stood}
use Rattle.ca_commit.proofs.TaskEvents.{Leads}

shut_there : {A : Type 0} (n : ℕ) (lane : ℕ → Option (LaneView A)) (s : State) (p : ℕ) (o : Option Channel) → s.channels p ≡ o → From n port_count lane s.channels (shut_at p s.channels)
shut_there {A} n lane s p (Some c) e = subst (λ (o : Option Channel). From n port_count lane s.channels (update eqb s.channels p (option_map shut o))) (sym e) (from_there n port_count lane s.channels p c (shut c) e)
shut_there {A} n lane s p None e = subst (λ (f : Channels). From n port_count lane s.channels f) (sym (ap (λ (o : Option Channel). update eqb s.channels p (option_map shut o)) e ∙ none_put s.channels p e)) (from_same n port_count lane s.channels)

module _ {A : Type 0} (place : A → At) (stands : ProgramView → A → Option ℕ → TaskBody → Type 0) (program : ProgramView) (n : ℕ) where
  -- the marks of a run are no part of its state
  marked_clock : (now old new : Parts A) (s : State) (b : Bool) → Stands place stands program n now s → IsPart old now → MarksEnd b old.timers new.timers → Clocked (or_was new.timers now.timers) s
  marked_clock now old new s false st part m c e = st.clocked c (sym (timers_as_before now old new part m) ∙ e)
  marked_clock now old new s true st part m c e = let k = st.clocked m.0 (part.clocks m.0 m.1) in let same : with_mark main_over m.0 ≡ c = some_same (with_mark main_over m.0) c (sym (ap (λ (o : Option TimersPart). or_was o now.timers) m.2) ∙ e) in
      (ap (λ (z : TimersPart). z.deadlines) (sym same) ∙ k.0, ap (λ (z : TimersPart). z.now) (sym same) ∙ k.1, subst (λ (z : TimersPart). z.now ≤ z.least) same k.2)

  -- what is in a held bank is in it
  held_same : {w : Option Kept} {new : ℕ → Option (ℕ → Option Kept)} (now old : Parts A) (p : ℕ) → Alters old.bank new p w → IsPart old now → whole old.bank p ≡ whole now.bank p
  held_same now old p a part = ap (λ (o : Option (ℕ → Option Kept)). at_key o p) (a.was ∙ sym (part.banks (home p) a.from a.was))

  shut_one : (now : Parts A) (s : State) (p : ℕ) (o : Option Kept) → whole now.bank p ≡ o → Stands place stands program n now s → KeepsChannels (update eqb (whole now.bank) p (option_map shut_kept (whole now.bank p))) (alive_in now) (shut_at p s.channels) s.waits s.used
  shut_one now s p (Some k) e st = subst (λ (o : Option Kept). KeepsChannels (update eqb (whole now.bank) p (option_map shut_kept o)) (alive_in now) (shut_at p s.channels) s.waits s.used) (sym e)
      (subst (λ (o : Option Channel). KeepsChannels (update eqb (whole now.bank) p (Some (shut_kept k))) (alive_in now) (update eqb s.channels p (option_map shut o)) s.waits s.used) (sym (st.holds.channels_are p ∙ ap channel_of e))
      (changed (whole now.bank) (alive_in now) s.channels s.waits s.used p k (shut k.channel) st.holds e))
  shut_one now s p None e st = let none : s.channels p ≡ None = st.holds.channels_are p ∙ ap channel_of e in
      subst (λ (f : ℕ → Option Kept). KeepsChannels f (alive_in now) (shut_at p s.channels) s.waits s.used) (sym (ap (λ (o : Option Kept). update eqb (whole now.bank) p (option_map shut_kept o)) e ∙ none_put (whole now.bank) p e))
      (subst (λ (f : Channels). KeepsChannels (whole now.bank) (alive_in now) f s.waits s.used) (sym (ap (λ (o : Option Channel). update eqb s.channels p (option_map shut o)) none ∙ none_put s.channels p none)) st.holds)

  fault_banks : (now old new : Parts A) (s : State) (lane2 : ℕ → Option (LaneView A)) → Stands place stands program n now s → IsPart old now → (r : Option ℕ) → ShutsAt r old.bank new.bank
      → (ports : ℕ → Option Kept) × (whole (laid now.bank new.bank) ≡ ports) × KeepsChannels ports (alive_in now) (shut_result r s.channels) s.waits s.used × From n port_count lane2 s.channels (shut_result r s.channels)
  fault_banks now old new s lane2 st part None h = (whole now.bank, unaltered now.bank old.bank new.bank part.banks h, st.holds, from_same n port_count lane2 s.channels)
  fault_banks now old new s lane2 st part (Some p) h = (
    update eqb (whole now.bank) p (option_map shut_kept (whole now.bank p)),
    altered now.bank old.bank new.bank p (option_map shut_kept (whole old.bank p)) part.banks h ∙ ap (λ (o : Option Kept). update eqb (whole now.bank) p (option_map shut_kept o)) (held_same now old p h part),
    shut_one now s p (whole now.bank p) refl st,
    shut_there n lane2 s p (s.channels p) refl,
  )

  module _ (advances : ProgramView → A → A → Type 0) (goes_on_law : GoesOn stands place advances) where
    -- the task is over, and its result port, if that is said, closed
    halted : (now old new : Parts A) (s s2 : State) (w t : ℕ) (at : At) (r : Option ℕ) (st : Stands place stands program n now s) (part : IsPart old now) (m : Halts place advances w t at old new) (x : Task) → s.tasks t ≡ Some x → ShutsAt r old.bank new.bank
        → s2 ≡ record s { tasks = update eqb s.tasks t (Some (record x { mode = is_over })); channels = shut_result r s.channels } → Stands place stands program n (laid_parts now new) s2
    halted now old new s s2 w t at r st part m x is banks eq = subst (λ z. Stands place stands program n (laid_parts now new) z) (sym eq) (lands place stands program n now old new s s3 w a.lane a.lane2 b.0 (whole now.registry) (whole now.shard) now.ready (or_was new.timers now.timers) st part a.lanes a.program_stays
        b.1 (unaltered now.registry old.registry new.registry part.registries m.registries) (unaltered now.shard old.shard new.shard part.shards m.shards) (untouched now.ready old.ready new.ready part.readys m.readys) refl
        b.2 st.registered (leaves place (stands program) now.lane now.ready (whole now.shard) s.tasks s.waits w t a.lane a.lane2 a.agent y st.seated at_lane a.task m.empty refl)
        (marked_clock now old new s (eqb t 0) st part m.timers)
        (numbered_more n now.lane lane2 s s3 st.numbered (same_grow now.lane w a.lane a.lane2 at_lane m.counts) (from_there n task_count lane2 s.tasks t x y is) b.3 (from_same n port_count lane2 s.registries) (used_same n lane2 s.used))) where
          a : Stood place advances w t at old new
          a = m.stands

          y : Task
          y = record x { mode = is_over }

          s3 : State
          s3 = record s { tasks = update eqb s.tasks t (Some y); channels = shut_result r s.channels }

          at_lane : now.lane w ≡ Some a.lane
          at_lane = part.lanes w a.lane a.lanes.was

          lane2 : ℕ → Option (LaneView A)
          lane2 = update eqb now.lane w (Some a.lane2)

          b : (ports : ℕ → Option Kept) × (whole (laid now.bank new.bank) ≡ ports) × KeepsChannels ports (alive_in now) (shut_result r s.channels) s.waits s.used × From n port_count lane2 s.channels (shut_result r s.channels)
          b = fault_banks now old new s lane2 st part r banks

    pub end_steps : (now old new : Parts A) (s : State) (w t : ℕ) → Stands place stands program n now s → IsPart old now → MovesEnd place advances w t old new → Leads place stands program n (laid_parts now new) s (over t Ended)
    end_steps now old new s w t st part m = let z = stood place stands program n advances goes_on_law now old new s w t (ended m.v) st part m.halts.stands in let x = z.0 in
        let s2 : State = record s { tasks = update eqb s.tasks t (Some (record x { mode = is_over })) } in
        (s2, (x, m.v, (z.1, z.2), z.5, refl), halted now old new s s2 w t (ended m.v) None st part m.halts x z.1 m.banks refl)

    -- what is known of a task that halts there
    abbrev Faults : (now new : Parts A) (s : State) (t : ℕ) (f : Fault) (at : Place) (r : Option ℕ) → Type 0
    Faults now new s t f at r = (s2 : State) × FaultStep s t f at r s2 × Stands place stands program n (laid_parts now new) s2

    fault_with : (result : A → Option ℕ) → TellsResult stands place result → (now old new : Parts A) (s : State) (w t : ℕ) (f : Fault) (place2 : Place) (r : Option ℕ) (at : At) → Stands place stands program n now s → IsPart old now
        → (m : Halts place advances w t at old new) → ((l : LaneView A) (a : A) → old.lane w ≡ Some l → l.task ≡ Some (t, a) → result a ≡ r) → ShutsAt r old.bank new.bank → fault_at s at ≡ Some (f, place2) → Faults now new s t f place2 r
    fault_with result tells now old new s w t f place2 r at st part m is banks e = let z = stood place stands program n advances goes_on_law now old new s w t at st part m.stands in let x = z.0 in
        let sits = (st.seated.laned w m.stands.lane t m.stands.agent (part.lanes w m.stands.lane m.stands.lanes.was) m.stands.task).1 in
        let same : sits.0 ≡ x = some_same sits.0 x (sym sits.1.0 ∙ z.1) in
        let port : x.result ≡ r = ap (λ (y : Task). y.result) (sym same) ∙ sym (tells program m.stands.agent sits.0.result sits.0.body sits.2) ∙ is m.stands.lane m.stands.agent m.stands.lanes.was m.stands.task in
        let s2 : State = record s { tasks = update eqb s.tasks t (Some (record x { mode = is_over })); channels = shut_result r s.channels } in
        (s2, (x, (z.1, z.2), ap (fault_at s) z.5 ∙ e, port, refl), halted now old new s s2 w t at r st part m x z.1 banks refl)

    pub fault_steps : (result : A → Option ℕ) → TellsResult stands place result → (now old new : Parts A) (s : State) (w t : ℕ) (f : Fault) (at : Place) (r : Option ℕ) → Stands place stands program n now s → IsPart old now → MovesFault place advances result w t f at r old new → Faults now new s t f at r
    fault_steps result tells now old new s w t f at r st part m = ⊎_elim
        (λ h. fault_with result tells now old new s w t f at r (faulted f at) st part h m.result_is m.banks refl)
        (λ h. ⊎_elim
        (λ u. fault_with result tells now old new s w t f at r (at_op (record { op = u.0; place = at })) st part u.1 m.result_is m.banks (ap (option_map (λ z. (z, at))) (refuses s u.0 f (u.2 s (shows now old s (shown_by st) part)))))
        (λ c. fault_with result tells now old new s w t f at r (at_op (record { op = c.0; place = at })) st part c.1 m.result_is m.banks (ap (option_map (λ z. (z, at)))
        (crowd_refuses s c.0 f (c.2 s (shows now old s (shown_by st) part)) (none_ready now old s (branches_of c.0) (shown_by st) part c.4) c.3 (some_crowded now old s (branches_of c.0) f (shown_by st) part c.5)))) h) m.halts
