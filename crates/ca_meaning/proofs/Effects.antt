-- What each event does to channels and waits: one of seven changes.
use Rattle.std.proofs.Common.{◌≡◌, ℕ, List, [], ◌∷◌, ◌++◌, refl, sym, ap, ◌∙◌, subst, true, false, Option, Some, None, eqb, option_map}
use Rattle.std.specs.Map.{update}
use Rattle.ca_value.specs.Tree.{Tree}
use Rattle.ca_term.specs.declared.event.Side.{Side}
use Rattle.ca_term.specs.declared.event.Side.TheVariants.{Take, Put}
use Rattle.ca_term.specs.declared.event.Ending.TheVariants.{Ended, Faulted}
use Rattle.ca_term.specs.Operation.{WhatView, posting}
use Rattle.ca_value.specs.Tree.{port}
use Rattle.ca_term.specs.Program.{ProgramView}
use Rattle.ca_term.specs.Event.{BranchView, take_of, put_of, EventView, made, spawned, done, met, parked, posted, settled, defaulted, closed, registered, printed, ticked, over, port_number}
use Rattle.ca_meaning.specs.Channel.{Channel, channel_made}
use Rattle.ca_meaning.specs.Wait.{Wait, Handler, port_of, front, without, is_live, is_among}
use Rattle.ca_meaning.specs.Row.{Row, not_ready, completes, meets, row_on, settles, settle_row}
use Rattle.ca_meaning.specs.State.{State, shut_all, shut_result}
use Rattle.ca_meaning.specs.Choice.{branches_of, any_ready}
use Rattle.ca_meaning.specs.Steps.{Step}
use Rattle.ca_meaning.specs.Sound.{Each}
use Rattle.ca_meaning.proofs.Waits.{front_live}
use Rattle.ca_meaning.proofs.Rows.{row_channel, take_meets, put_meets, Settled, moved_in, served, served_nil, settle_does}
use Rattle.ca_meaning.proofs.Refusals.{GoodBranch, good_branches, each-get}

pub data Effect (s s2 : State) : Type 0 where
  still : s2.channels ≡ s.channels → s2.waits ≡ s.waits → s2.used ≡ s.used → Effect s s2
  done_there : (b : BranchView) (c d : Channel) (a : Tree) → s.channels (port_of b) ≡ Some c → GoodBranch s.channels b → row_on c (front Take (port_of b) s.waits) (front Put (port_of b) s.waits) b ≡ completes a d
      → s2.channels ≡ update eqb s.channels (port_of b) (Some d) → s2.waits ≡ s.waits → s2.used ≡ s.used → Effect s s2
  met_there : (w : ℕ) → is_live w s.waits ≡ true → s2.channels ≡ s.channels → s2.waits ≡ without w s.waits → s2.used ≡ s.used → Effect s s2
  joined : (x : Wait) → is_among x.number s.used ≡ false → any_ready s x.branches ≡ false → Each (GoodBranch s.channels) x.branches
      → s2.channels ≡ s.channels → s2.waits ≡ s.waits ++ x ∷ [] → s2.used ≡ x.number ∷ s.used → Effect s s2
  settled_there : (p : ℕ) (c d : Channel) (side : Side) (h : Handler) (v : Tree) → s.channels p ≡ Some c → settle_row c (front Take p s.waits) (front Put p s.waits) ≡ settles side h v d → is_live h.wait s.waits ≡ true
      → s2.channels ≡ update eqb s.channels p (Some d) → s2.waits ≡ without h.wait s.waits → s2.used ≡ s.used → Effect s s2
  made_there : (p : ℕ) (what : WhatView) → s.channels p ≡ None → s2.channels ≡ update eqb s.channels p (channel_made what) → s2.waits ≡ s.waits → s2.used ≡ s.used → Effect s s2
  shut_there : (ports : List ℕ) → s2.channels ≡ shut_all ports s.channels → s2.waits ≡ s.waits → s2.used ≡ s.used → Effect s s2

abbrev pub channels_of : {s t : State} → s ≡ t → s.channels ≡ t.channels
channels_of e = ap (λ (z : State). z.channels) e

abbrev pub waits_of : {s t : State} → s ≡ t → s.waits ≡ t.waits
waits_of e = ap (λ (z : State). z.waits) e

abbrev pub used_of : {s t : State} → s ≡ t → s.used ≡ t.used
used_of e = ap (λ (z : State). z.used) e

-- the wait that a branch meets is there
pub met_live : (c : Channel) (b : BranchView) (ws : List Wait) (h : Handler) (v : Tree) → row_on c (front Take (port_of b) ws) (front Put (port_of b) ws) b ≡ meets h v → is_live h.wait ws ≡ true
met_live c (take_of p) ws h v e = front_live Put p ws h (take_meets c (front Put p ws) h v e).in_front
met_live c (put_of p u) ws h v e = front_live Take p ws h (put_meets c (front Take p ws) (front Put p ws) u h v e).in_front

pub settled_live : (c : Channel) (p : ℕ) (ws : List Wait) (side : Side) (h : Handler) (v : Tree) (d : Channel) → Settled c (front Take p ws) (front Put p ws) side h v d → is_live h.wait ws ≡ true
settled_live c p ws side h v d (moved_in a b e f g i) = front_live Put p ws h b
settled_live c p ws side h v d (served a b vs e f) = front_live Take p ws h b
settled_live c p ws side h v d (served_nil a b e f g i) = front_live Take p ws h b

not_done : (r : Row) (a : Tree) (d : Channel) → r ≡ completes a d → r ≡ not_ready → ⊥
not_done r a d e n = let k : not_ready ≡ completes a d = sym n ∙ e in absurd cc

not_met : (r : Row) (h : Handler) (v : Tree) → r ≡ meets h v → r ≡ not_ready → ⊥
not_met r h v e n = let k : not_ready ≡ meets h v = sym n ∙ e in absurd cc

shut_by : (s s2 : State) (result : Option ℕ) → s2.channels ≡ shut_result result s.channels → s2.waits ≡ s.waits → s2.used ≡ s.used → Effect s s2
shut_by s s2 None a b c = still a b c
shut_by s s2 (Some p) a b c = shut_there (p ∷ []) a b c

pub effect_of : (program : ProgramView) (s s2 : State) (e : EventView) → Step program s e s2 → Effect s s2
effect_of program s s2 (made t p what moment) x = made_there p what x.3 (channels_of x.7) (waits_of x.7) (used_of x.7)
effect_of program s s2 (spawned t u kind result) x = still (channels_of x.10) (waits_of x.10) (used_of x.10)
effect_of program s s2 (done t k b a) x =
    let r = row_channel (s.channels (port_of b)) (front Take (port_of b) s.waits) (front Put (port_of b) s.waits) b (completes a x.3) x.6 (not_done (completes a x.3) a x.3 refl) in
    done_there b r.0 x.3 a r.1 (each-get (GoodBranch s.channels) (branches_of x.1) k b (good_branches s x.1 x.4.3) x.5.0) r.2 (channels_of x.8) (waits_of x.8) (used_of x.8)
effect_of program s s2 (met t k side p v w o) x =
    let r = row_channel (s.channels (port_of x.2)) (front Take (port_of x.2) s.waits) (front Put (port_of x.2) s.waits) x.2 (meets x.3 v) x.10 (not_met (meets x.3 v) x.3 v refl) in
    met_there w (ap (λ n. is_live n s.waits) (sym x.11) ∙ met_live r.0 x.2 s.waits x.3 v r.2) (channels_of x.15) (waits_of x.15) (used_of x.15)
effect_of program s s2 (parked t w bs) x =
    joined (record { number = w; owner = Some t; branches = bs }) x.7 x.6 (subst (Each (GoodBranch s.channels)) x.4 (good_branches s x.1 x.2.3)) (channels_of x.8) (waits_of x.8) (used_of x.8)
effect_of program s s2 (posted t w p v) x =
    joined (record { number = w; owner = None; branches = put_of p v ∷ [] }) x.4 x.3 (good_branches s (posting (port p) v) x.2.3) (channels_of x.6) (waits_of x.6) (used_of x.6)
effect_of program s s2 (settled w k side p v) x =
    settled_there p x.0 x.1 side x.2 v x.4 x.5 (settled_live x.0 p s.waits side x.2 v x.1 (settle_does x.0 (front Take p s.waits) (front Put p s.waits) side x.2 v x.1 x.5))
    (channels_of x.9) (waits_of x.9 ∙ ap (λ n. without n s.waits) (sym x.6)) (used_of x.9)
effect_of program s s2 (defaulted t v) x = still (channels_of x.7) (waits_of x.7) (used_of x.7)
effect_of program s s2 (closed t p) x = shut_there (p ∷ []) (channels_of x.4) (waits_of x.4) (used_of x.4)
effect_of program s s2 (registered t name args v) x = still (channels_of x.6) (waits_of x.6) (used_of x.6)
effect_of program s s2 (printed t line) x = still (channels_of x.4) (waits_of x.4) (used_of x.4)
effect_of program s s2 (ticked m ports) x = shut_there ports (channels_of x.4) (waits_of x.4) (used_of x.4)
effect_of program s s2 (over t Ended) x = still (channels_of x.4) (waits_of x.4) (used_of x.4)
effect_of program s s2 (over t (Faulted fault place result)) x = shut_by s s2 (option_map port_number result) (channels_of x.4) (waits_of x.4) (used_of x.4)
