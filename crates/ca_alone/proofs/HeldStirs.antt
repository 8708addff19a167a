-- What is held outside the hand tells which channels an event may bring to settle.
use Rattle.std.proofs.Common.{◌≡◌, ◌∙◌, ℕ, refl, sym, ap, subst, Option, Some, None}
use Rattle.ca_term.specs.declared.event.Ending.TheVariants.{Ended, Faulted}
use Rattle.ca_term.specs.Event.{EventView, made, spawned, done, met, parked, posted, settled, defaulted, closed, registered, printed, ticked, over}
use Rattle.ca_term.specs.Operation.{OpView}
use Rattle.ca_term.specs.Program.{ProgramView}
use Rattle.ca_meaning.specs.Body.{At}
use Rattle.ca_meaning.specs.Channel.{Channel}
use Rattle.ca_meaning.specs.State.{State}
use Rattle.ca_meaning.specs.Task.{TaskBody}
use Rattle.ca_meaning.specs.Wait.{port_of}
use Rattle.ca_commit.specs.Agents.{TaskAgent}
use Rattle.ca_commit.specs.Applying.{event_of}
use Rattle.ca_commit.specs.Contents.{Kept, Parts, at_key, channel_of, home, whole}
use Rattle.ca_commit.specs.Deciding.{PlanTells, seen_in}
use Rattle.ca_commit.specs.Planning.{Planned, planned, to_close, to_default, to_do, to_look, to_make, to_meet, to_park, to_post, to_print, to_prune, to_refuse, to_register, to_spawn}
use Rattle.ca_commit.proofs.Laid.{Within}
use Rattle.ca_commit.proofs.PlanTold.{plan_tells}
use Rattle.ca_commit.proofs.Steps.{StandsFor}
use Rattle.ca_solo.specs.Stirs.{done_stirred, stirred}
use Rattle.ca_alone.specs.Stirring.{HoldsDone, stirs_in}

module _ {A : Type 0} (place : TaskAgent A → At) (stands : ProgramView → TaskAgent A → Option ℕ → TaskBody → Type 0) (program : ProgramView) (n : ℕ) (now : Parts (TaskAgent A)) (s : State) (st : StandsFor place stands program n now s) (held : ℕ → Option (ℕ → Option Kept)) (within : Within held now.bank) where
  -- the channel is that of the state
  shown : (p : ℕ) (f : ℕ → Option Kept) → held (home p) ≡ Some f → s.channels p ≡ channel_of (whole held p)
  shown p f e = st.holds.channels_are p ∙ ap (λ (o : Option (ℕ → Option Kept)). channel_of (at_key o p)) (within (home p) f e ∙ sym e)

  pub held_stirs : (e : EventView) → HoldsDone held e → stirred s e ≡ stirs_in (whole held) e
  held_stirs (done t k b a) there = ap (λ (o : Option Channel). done_stirred o b) (shown (port_of b) there.0 there.1)
  held_stirs (closed t p) there = refl
  held_stirs (ticked m ps) there = refl
  held_stirs (over t Ended) there = refl
  held_stirs (over t (Faulted fault at result)) there = refl
  held_stirs (made t p what moment) there = refl
  held_stirs (spawned t u kind result) there = refl
  held_stirs (met t k side p v w o) there = refl
  held_stirs (parked t w bs) there = refl
  held_stirs (posted t w p v) there = refl
  held_stirs (settled w k side p v) there = refl
  held_stirs (defaulted t v) there = refl
  held_stirs (registered t name args v) there = refl
  held_stirs (printed t line) there = refl

-- what is there in a whole is there in a part
in_part : {X : Type 0} (parts : ℕ → Option (ℕ → Option X)) (p : ℕ) (x : X) → whole parts p ≡ Some x → (f : ℕ → Option X) × (parts (home p) ≡ Some f)
in_part {X} parts p x e = by (parts (home p)) refl e where
  by : (o : Option (ℕ → Option X)) → parts (home p) ≡ o → at_key o p ≡ Some x → (f : ℕ → Option X) × (parts (home p) ≡ Some f)
  by None is k = absurd (let z : None ≡ Some x = k in cc)
  by (Some f) is k = (f, is)

module _ {A : Type 0} (old : Parts (TaskAgent A)) (op : OpView) (start t u p v m : ℕ) where
  told_holds : (q : Planned) → PlanTells old op q → HoldsDone old.bank (event_of old.bank old.registry t u p v m q)
  told_holds (to_do k b alts) x = in_part old.bank (port_of b) x.2.kept x.2.there
  told_holds (to_meet k b alts wait o) x = tt
  told_holds (to_park bs) x = tt
  told_holds (to_post bs) x = tt
  told_holds (to_default z) x = tt
  told_holds (to_make what) x = tt
  told_holds (to_spawn kind result) x = tt
  told_holds (to_close c) x = tt
  told_holds (to_register name args) x = tt
  told_holds (to_print line) x = tt
  told_holds (to_look w) x = tt
  told_holds (to_prune c side i) x = tt
  told_holds (to_refuse f) x = tt

  -- the event of a plan is done at a channel whose bank is held
  pub planned_holds : (q : Planned) → q ≡ planned (seen_in old) op start → HoldsDone old.bank (event_of old.bank old.registry t u p v m q)
  planned_holds q is = told_holds q (subst (PlanTells old op) (sym is) (plan_tells old op start))
