-- The moves that make no event of a task keep the schedule.
use Rattle.std.proofs.Common.{◌≡◌, inl, inr, ⊎_elim, ℕ, List, [], ◌∷◌, ◌++◌, refl, sym, ap, ◌∙◌, subst, Some, None}
use Rattle.ca_term.specs.Program.{ProgramView}
use Rattle.ca_term.specs.Event.{EventView, ticked}
use Rattle.ca_meaning.specs.State.{State}
use Rattle.ca_meaning.specs.Steps.{Step}
use Rattle.ca_meaning.specs.Solo.{Desk, CanSettle, NoneSettles, IsFree, AsksBefore, AsksAfter}
use Rattle.ca_solo.specs.Stirs.{Ordered, OnlyThese}
use Rattle.ca_solo.specs.Positions.{settling, free, picked, in_time, Position, on_lane, with_readings}
use Rattle.ca_solo.specs.Moves.{PicksFront, IsInTime, IsLate, WaitsIdle, PassesOne, Yields, Rests}
use Rattle.ca_solo.specs.Alone.{Alone}
use Rattle.ca_solo.proofs.Settling.{settles_later}
use Rattle.ca_solo.proofs.Following.{sound, silent, shows, follows_in, no_ready, is_free_of}

module _ (program : ProgramView) (readings : List ℕ) (journal : List EventView) where
  pub picks_kept : (w w2 : Position) → Alone program readings journal w → PicksFront w w2 → Alone program readings journal w2
  picks_kept w w2 a x =
      let f = follows_in program readings journal w free a x.2 in
      subst (Alone program readings journal) (sym x.4) (silent program readings journal w (record { state = w.state; desk = on_lane w.desk x.0 x.1; phase = picked }) a refl (
        (x.0, x.1, is_free_of a.desk w.desk (x.0 ∷ x.1) f.0 x.3, ap (λ z. on_lane z x.0 x.1) f.0.2),
        f.1,
      ))

  pub in_time_kept : (w w2 : Position) → Alone program readings journal w → IsInTime w w2 → Alone program readings journal w2
  in_time_kept w w2 a x =
      let f = follows_in program readings journal w picked a x.1 in
      subst (Alone program readings journal) (sym x.3) (silent program readings journal w (record { state = w.state; desk = with_readings x.0 w.desk; phase = in_time }) a refl (
        f.0.0,
        (
          f.0.1,
          x.0,
          f.0.2,
          subst (λ r. AsksBefore w.state.deadlines r x.0) (ap (λ (z : Desk). z.readings) f.0.3) x.2,
          ap (with_readings x.0) f.0.3,
        ),
        f.1,
      ))

  pub only_due : (w : Position) → Alone program readings journal w → (s2 : State) (m : ℕ) (ports us : List ℕ) → NoneSettles w.state → Step program w.state (ticked m ports) s2 → Ordered ports us → OnlyThese s2 us
  only_due w a s2 m ports us none step order q can = ⊎_elim (λ i. order.1 q i) (λ k. absurd (none q k)) (settles_later program w.state s2 (ticked m ports) (sound program readings journal w a) step q can)

  pub late_kept : (w w2 : Position) (m : ℕ) (ports : List ℕ) → Alone program readings journal w → IsLate program w m ports w2 → Alone program readings (journal ++ ticked m ports ∷ []) w2
  late_kept w w2 m ports a x =
      let f = follows_in program readings journal w picked a x.3 in
      let d2 = with_readings x.0 w.desk in
      subst (Alone program readings (journal ++ ticked m ports ∷ [])) (sym x.7) (shows program readings journal w (record { state = x.2; desk = d2; phase = settling x.1 }) a (ticked m ports) d2 x.5 (
        f.1,
        inl (
          f.0.0,
          f.0.1,
          x.0,
          f.0.2,
          subst (λ r. AsksAfter w.state.deadlines m r x.0) (ap (λ (z : Desk). z.readings) f.0.3) x.4,
          ap (with_readings x.0) f.0.3,
        ),
      )
      (refl, x.6.0, only_due w a x.2 m ports x.1 f.1 x.5 x.6))

  pub waits_idle_kept : (w w2 : Position) (m : ℕ) (ports : List ℕ) → Alone program readings journal w → WaitsIdle program w m ports w2 → Alone program readings (journal ++ ticked m ports ∷ []) w2
  waits_idle_kept w w2 m ports a x =
      let f = follows_in program readings journal w free a x.3 in
      let d = a.desk in
      let d2 = record w.desk { readings = x.0 } in
      let free_of = is_free_of d w.desk [] f.0 x.4 in
      let empty : f.0.0 ≡ d.ready = sym (ap (λ (z : Desk). z.ready) f.0.2) ∙ x.4 ∙ sym (no_ready d.lane d.ready free_of) in
      subst (Alone program readings (journal ++ ticked m ports ∷ [])) (sym x.8) (shows program readings journal w (record { state = x.2; desk = d2; phase = settling x.1 }) a (ticked m ports) d2 x.6 (
        f.1,
        inr (
          x.0,
          free_of,
          subst (λ r. AsksAfter w.state.deadlines m r x.0) (ap (λ (z : Desk). z.readings) f.0.2) x.5,
          ap (λ (z : Desk). record z { readings = x.0 }) f.0.2 ∙ ap (λ r. record d { ready = r; lane = None; readings = x.0 }) empty,
        ),
      )
      (refl, x.7.0, only_due w a x.2 m ports x.1 f.1 x.6 x.7))

  pub passes_one_kept : (w w2 : Position) → Alone program readings journal w → PassesOne w w2 → Alone program readings journal w2
  passes_one_kept w w2 a x =
      let f = follows_in program readings journal w (settling (x.0 ∷ x.1)) a x.2 in
      subst (Alone program readings journal) (sym x.4) (silent program readings journal w (record w { phase = settling x.1 }) a refl
      (f.0, f.1.1, λ q can. ⊎_elim (λ is. absurd (x.3 (subst (CanSettle w.state) is can))) (λ i. i) (f.2 q can)))

  pub yields_kept : (w w2 : Position) → Alone program readings journal w → Yields w w2 → Alone program readings journal w2
  yields_kept w w2 a x =
      let f = follows_in program readings journal w (settling []) a x.1 in
      let d = a.desk in
      let ready = w.desk.ready ++ x.0.task ∷ [] in
      let on : d.lane ≡ Some x.0 = ap (λ (z : Desk). z.lane) f.0 ∙ x.2 in
      subst (Alone program readings journal) (sym x.4) (silent program readings journal w (record w { desk = record w.desk { ready = ready; lane = None }; phase = free }) a refl (
        (
          ready,
          subst (λ l. IsFree l d.ready ready) (sym on) (x.3, ap (λ (z : Desk). z.ready ++ x.0.task ∷ []) (sym f.0)),
          ap (λ (z : Desk). record z { ready = ready; lane = None }) (sym f.0),
        ),
        f.2,
      ))

  pub rests_kept : (w w2 : Position) → Alone program readings journal w → Rests w w2 → Alone program readings journal w2
  rests_kept w w2 a x =
      let f = follows_in program readings journal w (settling []) a x.0 in
      let d = a.desk in
      let none : d.lane ≡ None = ap (λ (z : Desk). z.lane) f.0 ∙ x.1 in
      subst (Alone program readings journal) (sym x.2) (silent program readings journal w (record w { phase = free }) a refl (
        (d.ready, subst (λ l. IsFree l d.ready d.ready) (sym none) refl, sym f.0 ∙ ap (λ l. record d { lane = l }) none),
        f.2,
      ))
