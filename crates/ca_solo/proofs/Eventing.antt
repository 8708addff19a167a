-- Events of a task, and channels that settle, keep the schedule.
use Rattle.std.proofs.Common.{◌≡◌, inl, inr, ⊎_elim, ℕ, ◌<◌, ◌≤◌, List, [], ◌∷◌, ◌++◌, refl, sym, ap, ◌∙◌, subst, arith, Bool, true, false, cond, Option, Some, None, option_map}
use Rattle.ca_term.specs.declared.event.Ending.TheVariants.{Ended, Faulted}
use Rattle.ca_term.specs.Program.{ProgramView}
use Rattle.ca_term.specs.Event.{BranchView, EventView, made, spawned, done, met, parked, posted, settled, defaulted, closed, registered, printed, ticked, over as is_over, port_number}
use Rattle.ca_meaning.specs.Channel.{Channel}
use Rattle.ca_meaning.specs.Wait.{owner_of, port_of}
use Rattle.ca_meaning.specs.State.{State}
use Rattle.ca_meaning.specs.Sound.{Each}
use Rattle.ca_meaning.specs.EndsLaw.{is_of}
use Rattle.ca_meaning.specs.Solo.{Lane, Desk, NoneSettles, SettlesFirst, patience, IsPicked, IsTurnOf, joined_by}
use Rattle.ca_solo.specs.Stirs.{port_if, done_stirs, done_stirred, stirred, AmongPorts, PortsAscend, OnlyThese}
use Rattle.ca_solo.specs.Positions.{Phase, settling, free, picked, in_time, Position}
use Rattle.ca_solo.specs.Moves.{MayMake, MakesOne, SettlesOne}
use Rattle.ca_solo.specs.Alone.{PhaseFollows, Alone}
use Rattle.ca_solo.proofs.Settling.{settles_later}
use Rattle.ca_solo.proofs.Following.{next_of, sound, shows, follows_in}

-- an event of a task stirs one channel at most
one_ascends : (o : Option ℕ) → PortsAscend (port_if o)
one_ascends None = tt
one_ascends (Some p) = (tt, tt)

one_done : (o : Option Channel) (b : BranchView) → PortsAscend (done_stirred o b)
one_done None b = tt
one_done (Some c) b = by (done_stirs c b) where
  by : (t : Bool) → PortsAscend (cond t (port_of b ∷ []) [])
  by true = (tt, tt)
  by false = tt

pub stirs_one : (s : State) (t : ℕ) (e : EventView) → is_of t e ≡ true → PortsAscend (stirred s e)
stirs_one s t (made u p what moment) is = tt
stirs_one s t (spawned u v kind result) is = tt
stirs_one s t (done u k b a) is = one_done (s.channels (port_of b)) b
stirs_one s t (met u k side p v w o) is = tt
stirs_one s t (parked u w bs) is = tt
stirs_one s t (posted u w p v) is = tt
stirs_one s t (settled w k side p v) is = tt
stirs_one s t (defaulted u v) is = tt
stirs_one s t (closed u p) is = (tt, tt)
stirs_one s t (registered u name args v) is = tt
stirs_one s t (printed u line) is = tt
stirs_one s t (ticked m ports) is = absurd (let k : false ≡ true = is in cc)
stirs_one s t (is_over u Ended) is = tt
stirs_one s t (is_over u (Faulted fault place result)) is = one_ascends (option_map port_number result)

least_first : (s : State) (p : ℕ) (ps : List ℕ) → PortsAscend (p ∷ ps) → OnlyThese s (p ∷ ps) → SettlesFirst s p
least_first s p ps up only q lt can = ⊎_elim (λ is. let e : q ≡ p = is in omega (arith, e, lt)) (λ more. by ps up.0 more) (only q can) where
  by : (qs : List ℕ) → Each (λ q. p ≤ q) qs → AmongPorts q qs → ⊥
  by [] a i = i
  by (r ∷ rs) a (inl e) = let le : p ≤ r = a.0 in omega (arith, e, le, lt)
  by (r ∷ rs) a (inr i) = by rs a.1 i

-- the position keeps the schedule

module _ (program : ProgramView) (readings : List ℕ) (journal : List EventView) where
  same_lane : (l : Option Lane) (a b : Lane) → l ≡ Some a → l ≡ Some b → a ≡ b
  same_lane l a b x y = let e : Some a ≡ Some b = sym x ∙ y in cc

  -- whose turn it is, and that no channel settles
  abbrev Turn : Position → Desk → ℕ → Type 0
  Turn w d t = NoneSettles w.state × IsTurnOf w.state d t w.desk

  turn_at : (w : Position) (d : Desk) (f : Phase) (lane : Lane) → PhaseFollows w.state d w.desk f → MayMake f → w.desk.lane ≡ Some lane → lane.events < patience → Turn w d lane.task
  turn_at w d (settling []) lane x may on few = (x.2, inl (lane, ap (λ (z : Desk). z.lane) x.0 ∙ on, few, refl, sym x.0))
  turn_at w d (settling (p ∷ ps)) lane x may on few = absurd may
  turn_at w d free lane x may on few = absurd may
  turn_at w d picked lane x may on few = absurd may
  turn_at w d in_time lane x may on few =
      let l : record { task = x.0; events = 0 } ≡ lane = same_lane w.desk.lane _ lane (ap (λ (z : Desk). z.lane) x.1.4) on in
      (x.2, inr (subst (λ n. IsPicked w.state d n w.desk) (ap (λ (z : Lane). z.task) l) x.1))

  pub makes_one_kept : (w w2 : Position) (e : EventView) → Alone program readings journal w → MakesOne program w e w2 → Alone program readings (journal ++ e ∷ []) w2
  makes_one_kept w w2 e a x =
      let t = turn_at w a.desk w.phase x.0 a.follows x.3 x.4 x.5 in
      subst (Alone program readings (journal ++ e ∷ [])) (sym x.9) (shows program readings journal w (record { state = x.1; desk = x.2; phase = settling (stirred w.state e) }) a e x.2 x.7
      (next_of w.state a.desk x.2 x.0.task e x.6 (w.desk, t.0, t.1, x.8))
      (refl, stirs_one w.state x.0.task e x.6, λ q can. ⊎_elim (λ i. i) (λ k. absurd (t.0 q k)) (settles_later program w.state x.1 e (sound program readings journal w a) x.7 q can)))

  pub settles_one_kept : (w w2 : Position) (e : EventView) → Alone program readings journal w → SettlesOne program w e w2 → Alone program readings (journal ++ e ∷ []) w2
  settles_one_kept w w2 e a x =
      let f = follows_in program readings journal w (settling (x.0 ∷ x.1)) a x.7 in
      let h = settled x.2 x.3 x.4 x.0 x.5 in
      let d2 = joined_by (owner_of x.2 w.state.waits) w.desk in
      subst (λ z. Alone program readings (journal ++ z ∷ []) w2) (sym x.8) (subst (Alone program readings (journal ++ h ∷ [])) (sym x.10) (shows program readings journal w (record { state = x.6; desk = d2; phase = settling (x.0 ∷ x.1) }) a h d2 x.9
      (least_first w.state x.0 x.1 f.1 f.2, ap (joined_by (owner_of x.2 w.state.waits)) (sym f.0))
      (refl, f.1, λ q can. ⊎_elim (λ i. absurd i) (λ k. f.2 q k) (settles_later program w.state x.6 h (sound program readings journal w a) x.9 q can))))
