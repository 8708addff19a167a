-- The numbers that an event of the meaning gives are new to the follower.
use Rattle.std.proofs.Common.{◌≡◌, ℕ, refl, sym, ap, ◌∙◌, subst, Option, Some, None, is_some}
use Rattle.ca_term.specs.Event.{EventView}
use Rattle.ca_term.specs.Operation.{WhatView, dropping, fixed, mix, mult, promise, publication, sliding, timeout, unbuffered}
use Rattle.ca_term.specs.Program.{ProgramView}
use Rattle.ca_meaning.specs.Body.{At}
use Rattle.ca_meaning.specs.State.{State}
use Rattle.ca_meaning.specs.Steps.{Step}
use Rattle.ca_meaning.specs.Task.{TaskBody}
use Rattle.ca_meaning.specs.TaskSteps.{IsMoment}
use Rattle.ca_commit.specs.Applying.{event_of}
use Rattle.ca_commit.specs.Contents.{Kept, channel_of, whole}
use Rattle.ca_commit.specs.NewPort.{Times, moment_for}
use Rattle.ca_commit.specs.Planning.{Planned, to_close, to_default, to_do, to_look, to_make, to_meet, to_park, to_post, to_print, to_prune, to_refuse, to_register, to_spawn}
use Rattle.ca_follow.specs.Events.{AreNew, IsNotBefore, IsReading}
use Rattle.ca_follow.specs.Follows.{Follows}
use Rattle.ca_follow.specs.Has.{Has}

no_channel : (o : Option Kept) → channel_of o ≡ None → o ≡ None
no_channel None e = refl
no_channel (Some k) e = absurd (let c : Some k.channel ≡ None = e in cc)

-- a moment of the meaning is a reading for what stands at that moment
reading : (s : State) (o : Option Times) (what : WhatView) (m : ℕ) → o ≡ Some (record { deadlines = s.deadlines; now = s.now }) → IsMoment s.now what (moment_for what m) → IsReading o what m
reading s o (timeout n) m is at = (subst (λ (c : Option Times). IsNotBefore c m) (sym is) at.0, at.1)
reading s o unbuffered m is at = tt
reading s o (fixed n) m is at = tt
reading s o (dropping n) m is at = tt
reading s o (sliding n) m is at = tt
reading s o promise m is at = tt
reading s o (mult source) m is at = tt
reading s o (mix out changes) m is at = tt
reading s o (publication source) m is at = tt

module _ {A : Type 0} (place : A → At) (stands : ProgramView → A → TaskBody → Type 0) (program : ProgramView) where
  step_new : (h : Has A) (s s2 : State) (t u p w m : ℕ) (q : Planned) → Follows place stands program h s → Step program s (event_of h.bank h.registry t u p w m q) s2 → AreNew h q u p w m
  step_new h s s2 t u p w m (to_make what) f step = (no_channel (whole h.bank p) (sym (f.holds.channels_are p) ∙ step.3), sym (f.registered p) ∙ step.4, reading s h.times what m f.times step.5)
  step_new h s s2 t u p w m (to_spawn kind r) f step = sym (f.known u) ∙ ap is_some step.5
  step_new h s s2 t u p w m (to_park bs) f step = sym (f.used w) ∙ step.7
  step_new h s s2 t u p w m (to_post bs) f step = sym (f.used w) ∙ step.4
  step_new h s s2 t u p w m (to_do k b alts) f step = tt
  step_new h s s2 t u p w m (to_meet k b alts x o) f step = tt
  step_new h s s2 t u p w m (to_default v) f step = tt
  step_new h s s2 t u p w m (to_close z) f step = tt
  step_new h s s2 t u p w m (to_register name args) f step = tt
  step_new h s s2 t u p w m (to_print line) f step = tt
  step_new h s s2 t u p w m (to_look x) f step = tt
  step_new h s s2 t u p w m (to_prune z side i) f step = tt
  step_new h s s2 t u p w m (to_refuse g) f step = tt

  pub only_new : (h : Has A) (s s2 : State) (e : EventView) (t u p w m : ℕ) (q : Planned)
      → Follows place stands program h s → Step program s e s2 → event_of h.bank h.registry t u p w m q ≡ e → AreNew h q u p w m
  only_new h s s2 e t u p w m q follows step is = step_new h s s2 t u p w m q follows (subst (λ (x : EventView). Step program s x s2) (sym is) step)
