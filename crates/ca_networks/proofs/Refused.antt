-- A put is answered by false only where its channel is closed.
use Rattle.std.proofs.Common.{◌≡◌, ℕ, sym, ap, ◌∙◌, Bool, true, false, cond, Option, Some, None, eqb}
use Rattle.ca_value.specs.Tree.{Tree, bool}
use Rattle.ca_term.specs.declared.event.Side.{Side}
use Rattle.ca_term.specs.declared.event.Side.TheVariants.{Take, Put}
use Rattle.ca_term.specs.Program.{ProgramView}
use Rattle.ca_term.specs.Event.{BranchView, take_of, put_of, EventView, made, spawned, done, met, parked, posted, settled, defaulted, closed, registered, printed, ticked, over as is_over}
use Rattle.ca_meaning.specs.Channel.{Channel}
use Rattle.ca_meaning.specs.Wait.{front}
use Rattle.ca_meaning.specs.Row.{completes as row_completes, row_on}
use Rattle.ca_meaning.specs.Choice.{row}
use Rattle.ca_meaning.specs.ChannelSteps.{other_side}
use Rattle.ca_meaning.specs.State.{State}
use Rattle.ca_meaning.specs.Steps.{Step}
use Rattle.ca_meaning.proofs.Rows.{PutDone, refused, promised, accepted, put_done, row_channel}
use Rattle.ca_laws.specs.Deeds.{Deed, did_take, did_put, did_wait, did_post, did_default, did_make, did_spawn, did_close, did_register, did_print, did_end, is_wait, deed_of, deed_on, deed}
use Rattle.ca_roles.proofs.Events.{one_deed}

abbrev pub IsClosed : State → ℕ → Type 0
IsClosed s p = (c : Channel) × (s.channels p ≡ Some c) × (c.closed ≡ true)

other_deed : {G : Type 0} (b : Bool) (c d : Deed) → (c ≡ d → ⊥) → cond b (Some c) None ≡ Some d → G
other_deed b c d ne e = absurd (ne (one_deed b c d e).1)

not_false : {G : Type 0} (a : Tree) → a ≡ bool true → a ≡ bool false → G
not_false a t f = absurd (let k : bool true ≡ bool false = sym t ∙ f in cc)

on_side : (side : Side) (j q k p : ℕ) (w v : Tree) → deed_on side j q w ≡ did_put k p v (bool false) → ⊥
on_side Take j q k p w v e = let i : did_take j q w ≡ did_put k p v (bool false) = e in cc
on_side Put j q k p w v e = let i : did_put j q w (bool true) ≡ did_put k p v (bool false) = e in cc

module _ (program : ProgramView) (s s2 : State) (t : ℕ) (o : Option ℕ) (k p : ℕ) (v : Tree) where
  abbrev it : Deed
  it = did_put k p v (bool false)

  pub refused_closed : (e : EventView) → Step program s e s2 → deed t o e ≡ Some (did_put k p v (bool false)) → IsClosed s p
  refused_closed (done u j b a) x is = by b x.6 (one_deed (eqb u t) (deed_of b j a) it is).1 where
    by : (b : BranchView) → row s b ≡ row_completes a x.3 → deed_of b j a ≡ did_put k p v (bool false) → IsClosed s p
    by (take_of q) r e = absurd (let i : did_take j q a ≡ did_put k p v (bool false) = e in cc)
    by (put_of q w) r e = at (put_done d.0 (front Take q s.waits) (front Put q s.waits) w a x.3 d.2) where
      d : (c : Channel) × (s.channels q ≡ Some c) × (row_on c (front Take q s.waits) (front Put q s.waits) (put_of q w) ≡ row_completes a x.3)
      d = row_channel (s.channels q) (front Take q s.waits) (front Put q s.waits) (put_of q w) (row_completes a x.3) r (λ i. cc)

      qp : q ≡ p
      qp = let i : did_put j q w a ≡ did_put k p v (bool false) = e in cc

      af : a ≡ bool false
      af = let i : did_put j q w a ≡ did_put k p v (bool false) = e in cc

      at : PutDone d.0 (front Take q s.waits) (front Put q s.waits) w a x.3 → IsClosed s p
      at (refused cl an dk) = (d.0, ap s.channels (sym qp) ∙ d.1, cl)
      at (promised cl pr an dk) = not_false a an af
      at (accepted cl pr r tn pn an dk) = not_false a an af
  refused_closed (met u j side q w n i) x is = by (eqb u t) is where
    by : (b : Bool) → cond b (Some (deed_on side j q w)) (cond (is_wait n o) (Some (deed_on (other_side side) i q w)) None) ≡ Some (did_put k p v (bool false)) → IsClosed s p
    by true e = other_deed true (deed_on side j q w) it (on_side side j q k p w v) e
    by false e = other_deed (is_wait n o) (deed_on (other_side side) i q w) it (on_side (other_side side) i q k p w v) e
  refused_closed (settled n j side q w) x is = other_deed (is_wait n o) (deed_on side j q w) it (on_side side j q k p w v) is
  refused_closed (made u q what m) x is = other_deed (eqb u t) (did_make q what m) it (λ q. cc) is
  refused_closed (spawned u n kind r) x is = other_deed (eqb u t) (did_spawn n kind r) it (λ q. cc) is
  refused_closed (parked u w bs) x is = other_deed (eqb u t) (did_wait w bs) it (λ q. cc) is
  refused_closed (posted u w q i) x is = other_deed (eqb u t) (did_post w q i) it (λ q. cc) is
  refused_closed (defaulted u i) x is = other_deed (eqb u t) (did_default i) it (λ q. cc) is
  refused_closed (closed u q) x is = other_deed (eqb u t) (did_close q) it (λ q. cc) is
  refused_closed (registered u name args i) x is = other_deed (eqb u t) (did_register name args i) it (λ q. cc) is
  refused_closed (printed u line) x is = other_deed (eqb u t) (did_print line) it (λ q. cc) is
  refused_closed (ticked m ports) x is = absurd (let q : None ≡ Some (did_put k p v (bool false)) = is in cc)
  refused_closed (is_over u how) x is = other_deed (eqb u t) (did_end how) it (λ q. cc) is
