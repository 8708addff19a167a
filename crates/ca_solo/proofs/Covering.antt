-- Each run of the schedule is made of moves.
use Rattle.std.proofs.Common.{◌≡◌, ◌⊎◌, inl, inr, ⊎_elim, ℕ, ◌<◌, ◌≤◌, List, [], ◌∷◌, ◌++◌, refl, sym, ap, ap₂, ◌∙◌, subst, arith, Bool, true, false, Option, Some, None, eqb, eq-eqb, nat_lt, ltb-true, ltb-false, append-nil, append_assoc}
use Rattle.ca_term.specs.Program.{ProgramView}
use Rattle.ca_term.specs.Event.{EventView, made, spawned, done, met, parked, posted, settled, defaulted, closed, registered, printed, ticked, over as is_over}
use Rattle.ca_meaning.specs.State.{State}
use Rattle.ca_meaning.specs.Steps.{Step}
use Rattle.ca_meaning.specs.Sound.{Each, Sound}
use Rattle.ca_meaning.specs.EndsLaw.{is_of}
use Rattle.ca_meaning.specs.Solo.{Lane, Desk, CanSettle, NoneSettles, SettlesFirst, patience, IsFree, IsTurnOf, TicksAtPick, TicksIdle, Leaves, TaskTurn, IsNext, SoloSteps, Solo, opening_desk}
use Rattle.ca_meaning.proofs.Soundness.{step_sound, opening_sound}
use Rattle.ca_solo.specs.Stirs.{stirred, AmongPorts, PortsAscend, Ordered, OnlyThese}
use Rattle.ca_solo.specs.Positions.{settling, free, picked, in_time, Position, on_lane, with_readings}
use Rattle.ca_solo.specs.Moves.{SoloMove, picks, is_in_time, is_late, waits_idle, makes_one, settles_one, passes_one, yields, rests, SoloMoves, stays, goes_on, MadeByMoves}
use Rattle.ca_solo.proofs.Settling.{settled_can, settles_later}
use Rattle.ca_solo.proofs.Eventing.{stirs_one}
use Rattle.ca_solo.proofs.Following.{no_ready}
use Rattle.ca_solo.proofs.Sorting.{in_order}
use Rattle.ca_solo.proofs.Keeping.{none_at_opening}

abbrev pub at_settling : State → Desk → List ℕ → Position
at_settling s d us = record { state = s; desk = d; phase = settling us }

abbrev at_free : State → Desk → List ℕ → Position
at_free s d ready = record { state = s; desk = record d { ready = ready; lane = None }; phase = free }

abbrev at_picked : State → Desk → ℕ → List ℕ → Position
at_picked s d t rest = record { state = s; desk = on_lane d t rest; phase = picked }

abbrev at_in_time : State → Desk → ℕ → List ℕ → List ℕ → Position
at_in_time s d t rest later = record { state = s; desk = with_readings later (on_lane d t rest); phase = in_time }

module _ (program : ProgramView) where
  one_move : (w w2 : Position) (hs : List EventView) → SoloMove program w w2 hs → SoloMoves program w w2 hs
  one_move w w2 hs x = goes_on hs stays x

  pub run_more : (w m : Position) (es : List EventView) → SoloMoves program w m es → (w2 : Position) (fs : List EventView) → SoloMoves program m w2 fs → SoloMoves program w w2 (es ++ fs)
  run_more w m es r _ _ stays = subst (SoloMoves program w m) (sym (append-nil es)) r
  run_more w m es r _ _ (goes_on {m = n} {w2 = w2} {es = gs} hs q x) = subst (SoloMoves program w w2) (append_assoc es gs hs) (goes_on hs (run_more w m es r n gs q) x)

  -- where nothing settles all is passed
  pass_all : (s : State) (d : Desk) (us : List ℕ) → NoneSettles s → SoloMoves program (at_settling s d us) (at_settling s d []) []
  pass_all s d [] none = stays
  pass_all s d (p ∷ ps) none = run_more (at_settling s d (p ∷ ps)) (at_settling s d ps) [] (one_move (at_settling s d (p ∷ ps)) (at_settling s d ps) [] (passes_one (p, ps, refl, none p, refl) refl)) (at_settling s d []) [] (pass_all s d ps none)

  -- else up to the first that settles
  abbrev Front : State → Desk → List ℕ → ℕ → Type 0
  Front s d us p = (ps : List ℕ) × SoloMoves program (at_settling s d us) (at_settling s d (p ∷ ps)) [] × PortsAscend (p ∷ ps) × OnlyThese s (p ∷ ps)

  pass_to : (s : State) (d : Desk) (p : ℕ) (us : List ℕ) → PortsAscend us → OnlyThese s us → AmongPorts p us → SettlesFirst s p → Front s d us p
  pass_to s d p [] up only i first = absurd i
  pass_to s d p (q ∷ qs) up only i first = by (λ only i. pass_to s d p qs up.1 only i first) (nat_lt q p) refl where
    least : (us : List ℕ) → Each (λ r. q ≤ r) us → AmongPorts p us → q ≤ p
    least [] all i = absurd i
    least (u ∷ us) all (inl e) = let k : q ≤ u = all.0 in let f : p ≡ u = e in omega (arith, k, f)
    least (u ∷ us) all (inr k) = least us all.1 k

    here : (p ≡ q) ⊎ AmongPorts p qs → p ≤ q → p ≡ q
    here (inl e) le = e
    here (inr k) le = let j : q ≤ p = least qs up.0 k in omega (arith, j, le)

    further : q < p → (p ≡ q) ⊎ AmongPorts p qs → AmongPorts p qs
    further lt (inl e) = absurd (let f : p ≡ q = e in omega (arith, lt, f))
    further lt (inr k) = k

    by : (OnlyThese s qs → AmongPorts p qs → Front s d qs p) → (t : Bool) → nat_lt q p ≡ t → Front s d (q ∷ qs) p
    by again true e =
        let lt : q < p = ltb-true q p e in
        let cannot = first q lt in
        let r = again (λ z can. ⊎_elim (λ is. absurd (cannot (subst (CanSettle s) is can))) (λ k. k) (only z can)) (further lt i) in
        (r.0, run_more (at_settling s d (q ∷ qs)) (at_settling s d qs) [] (one_move (at_settling s d (q ∷ qs)) (at_settling s d qs) [] (passes_one (q, qs, refl, cannot, refl) refl)) (at_settling s d (p ∷ r.0)) [] r.1, r.2, r.3)
    by again false e = subst (Front s d (q ∷ qs)) (sym (here i (ltb-false q p e))) (qs, stays, up, only)

  -- the lane is given back, or is empty
  free_it : (s : State) (d : Desk) (ready : List ℕ) → IsFree d.lane d.ready ready → SoloMoves program (at_settling s d []) (at_free s d ready) []
  free_it s d ready f = by d.lane refl f where
    by : (l : Option Lane) → d.lane ≡ l → IsFree l d.ready ready → SoloMoves program (at_settling s d []) (at_free s d ready) []
    by None e f = one_move (at_settling s d []) (at_free s d ready) [] (rests (refl, e, ap₂ (λ (r : List ℕ) (l : Option Lane). record { state = s; desk = record d { ready = r; lane = l }; phase = free }) f (sym e)) refl)
    by (Some lane) e f = one_move (at_settling s d []) (at_free s d ready) [] (yields (lane, refl, e, f.0, ap (λ r. at_free s d r) f.1) refl)

  -- nothing settles, and the front task is picked
  pick_it : (s : State) (d : Desk) (us : List ℕ) (t : ℕ) (rest : List ℕ) → NoneSettles s → IsFree d.lane d.ready (t ∷ rest) → SoloMoves program (at_settling s d us) (at_picked s d t rest) []
  pick_it s d us t rest none f =
      let w = at_free s d (t ∷ rest) in
      let w2 = at_picked s d t rest in
      run_more (at_settling s d us) w [] (run_more (at_settling s d us) (at_settling s d []) [] (pass_all s d us none) w [] (free_it s d (t ∷ rest) f)) w2 [] (one_move w w2 [] (picks (t, rest, refl, refl, refl) refl))

  few : 0 < patience
  few = omega arith

  abbrev Then : State → Desk → List ℕ → EventView → State → Desk → Type 0
  Then s d us e s2 d2 = (vs : List ℕ) × SoloMoves program (at_settling s d us) (at_settling s2 d2 vs) (e ∷ []) × PortsAscend vs × OnlyThese s2 vs

  -- an event of a task
  task_next : (s : State) (d : Desk) (us : List ℕ) (t : ℕ) (e : EventView) (s2 : State) (d2 : Desk) → Sound s → is_of t e ≡ true → Step program s e s2 → TaskTurn s d t e d2 → Then s d us e s2 d2
  task_next s d us t e s2 d2 sound is step x = (stirred s e, by x.2, stirs_one s t e is, λ q can. ⊎_elim (λ i. i) (λ k. absurd (x.1 q k)) (settles_later program s s2 e sound step q can)) where
    by : IsTurnOf s d t x.0 → SoloMoves program (at_settling s d us) (at_settling s2 d2 (stirred s e)) (e ∷ [])
    by (inl g) = run_more (at_settling s d us) (at_settling s d []) [] (pass_all s d us x.1) (at_settling s2 d2 (stirred s e)) (e ∷ [])
        (one_move (at_settling s d []) (at_settling s2 d2 (stirred s e)) (e ∷ []) (makes_one e (g.0, s2, d2, tt, g.1, g.2, subst (λ n. is_of n e ≡ true) (sym g.3) is, step, subst (λ z. Leaves s z e d2) g.4 x.3, refl) refl))
    by (inr g) =
        let m = at_picked s d t g.0 in
        let n = at_in_time s d t g.0 g.1 in
        run_more (at_settling s d us) n [] (run_more (at_settling s d us) m [] (pick_it s d us t g.0 x.1 g.2) n [] (one_move m n [] (is_in_time (g.1, refl, g.3, refl) refl)))
        (at_settling s2 d2 (stirred s e)) (e ∷ [])
        (one_move n (at_settling s2 d2 (stirred s e)) (e ∷ []) (makes_one e (record { task = t; events = 0 }, s2, d2, tt, refl, few, is, step, subst (λ z. Leaves s z e d2) g.4 x.3, refl) refl))

  -- a Tick
  tick_next : (s : State) (d : Desk) (us : List ℕ) (m : ℕ) (ports : List ℕ) (s2 : State) (d2 : Desk) → Sound s → NoneSettles s → Step program s (ticked m ports) s2 → TicksAtPick s d m d2 ⊎ TicksIdle s d m d2 → Then s d us (ticked m ports) s2 d2
  tick_next s d us m ports s2 d2 sound none step x = let o = in_order ports in (o.0, by o.0 o.1 x, o.1.0, λ q can. ⊎_elim (λ i. o.1.1 q i) (λ k. absurd (none q k)) (settles_later program s s2 (ticked m ports) sound step q can)) where
    by : (vs : List ℕ) → Ordered ports vs → TicksAtPick s d m d2 ⊎ TicksIdle s d m d2 → SoloMoves program (at_settling s d us) (at_settling s2 d2 vs) (ticked m ports ∷ [])
    by vs o (inl g) =
        let w = at_picked s d g.0 g.1 in
        run_more (at_settling s d us) w [] (pick_it s d us g.0 g.1 none g.3) (at_settling s2 d2 vs) (ticked m ports ∷ [])
        (one_move w (at_settling s2 d2 vs) (ticked m ports ∷ []) (is_late m ports (g.2, vs, s2, refl, g.4, step, o, ap (λ z. at_settling s2 z vs) g.5) refl))
    by vs o (inr g) =
        let w = at_free s d [] in
        run_more (at_settling s d us) w [] (run_more (at_settling s d us) (at_settling s d []) [] (pass_all s d us none) w [] (free_it s d [] g.1)) (at_settling s2 d2 vs) (ticked m ports ∷ [])
        (one_move w (at_settling s2 d2 vs) (ticked m ports ∷ []) (waits_idle m ports (
          g.0,
          vs,
          s2,
          refl,
          refl,
          g.2,
          step,
          o,
          ap (λ z. at_settling s2 z vs) (g.3 ∙ ap (λ r. record d { ready = r; lane = None; readings = g.0 }) (no_ready d.lane d.ready g.1)),
        ) refl))

  self : (t : ℕ) → eqb t t ≡ true
  self t = eq-eqb t t refl

  next_moves : (s : State) (d : Desk) (us : List ℕ) (e : EventView) (s2 : State) (d2 : Desk) → Sound s → PortsAscend us → OnlyThese s us → Step program s e s2 → IsNext s d e d2 → Then s d us e s2 d2
  next_moves s d us (settled x k side p v) s2 d2 sound up only step next =
      let f = pass_to s d p us up only (only p (settled_can program s s2 x k p side v step)) next.0 in
      let h = settled x k side p v in (
        p ∷ f.0,
        run_more (at_settling s d us) (at_settling s d (p ∷ f.0)) [] f.1 (at_settling s2 d2 (p ∷ f.0)) (h ∷ [])
            (one_move (at_settling s d (p ∷ f.0)) (at_settling s2 d2 (p ∷ f.0)) (h ∷ []) (settles_one h (p, f.0, x, k, side, v, s2, refl, refl, step, ap (λ z. at_settling s2 z (p ∷ f.0)) next.1) refl)),
        f.2,
        λ q can. ⊎_elim (λ i. absurd i) (λ k. f.3 q k) (settles_later program s s2 h sound step q can),
      )
  next_moves s d us (ticked m ports) s2 d2 sound up only step next = tick_next s d us m ports s2 d2 sound next.0 step next.1
  next_moves s d us (made t p what moment) s2 d2 sound up only step next = task_next s d us t (made t p what moment) s2 d2 sound (self t) step next
  next_moves s d us (spawned t u kind result) s2 d2 sound up only step next = task_next s d us t (spawned t u kind result) s2 d2 sound (self t) step next
  next_moves s d us (done t k b a) s2 d2 sound up only step next = task_next s d us t (done t k b a) s2 d2 sound (self t) step next
  next_moves s d us (met t k side p v w o) s2 d2 sound up only step next = task_next s d us t (met t k side p v w o) s2 d2 sound (self t) step next
  next_moves s d us (parked t w bs) s2 d2 sound up only step next = task_next s d us t (parked t w bs) s2 d2 sound (self t) step next
  next_moves s d us (posted t w p v) s2 d2 sound up only step next = task_next s d us t (posted t w p v) s2 d2 sound (self t) step next
  next_moves s d us (defaulted t v) s2 d2 sound up only step next = task_next s d us t (defaulted t v) s2 d2 sound (self t) step next
  next_moves s d us (closed t p) s2 d2 sound up only step next = task_next s d us t (closed t p) s2 d2 sound (self t) step next
  next_moves s d us (registered t name args v) s2 d2 sound up only step next = task_next s d us t (registered t name args v) s2 d2 sound (self t) step next
  next_moves s d us (printed t line) s2 d2 sound up only step next = task_next s d us t (printed t line) s2 d2 sound (self t) step next
  next_moves s d us (is_over t how) s2 d2 sound up only step next = task_next s d us t (is_over t how) s2 d2 sound (self t) step next

  pub steps_move : (es : List EventView) (s : State) (d : Desk) (us : List ℕ) (s2 : State) (d2 : Desk) → Sound s → PortsAscend us → OnlyThese s us → SoloSteps program s d es s2 d2 → (vs : List ℕ) × SoloMoves program (at_settling s d us) (at_settling s2 d2 vs) es
  steps_move [] s d us s2 d2 sound up only x = (us, subst (λ z. SoloMoves program (at_settling s d us) z []) (ap₂ (λ a b. at_settling a b us) (sym x.0) (sym x.1)) stays)
  steps_move (e ∷ es) s d us s2 d2 sound up only x =
      let n = next_moves s d us e x.0 x.1 sound up only x.2 x.3 in
      let r = steps_move es x.0 x.1 n.0 s2 d2 (step_sound program s x.0 e x.2 sound) n.2 n.3 x.4 in
      (r.0, run_more (at_settling s d us) (at_settling x.0 x.1 n.0) (e ∷ []) n.1 (at_settling s2 d2 r.0) es r.1)

pub schedule_moves : (program : ProgramView) (readings : List ℕ) (journal : List EventView) → Solo program readings journal → MadeByMoves program readings journal
schedule_moves program readings journal x =
    let r = steps_move program journal x.opening (opening_desk readings) [] x.state x.desk (opening_sound program x.opening x.opens) tt (none_at_opening program x.opening x.opens) x.steps in
    (x.opening, at_settling x.state x.desk r.0, x.opens, r.1, tt, x.none_left)
