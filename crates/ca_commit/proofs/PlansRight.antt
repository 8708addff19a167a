-- What `plan` answers is right for what is held.
use Rattle.std.proofs.Common.{◌≡◌, List, [], ◌∷◌, sym, ap, ◌∙◌, subst, None, is_some, true}
use Rattle.ca_term.specs.Event.{BranchView}
use Rattle.ca_term.specs.Operation.{OpView}
use Rattle.ca_meaning.specs.Body.{At}
use Rattle.ca_meaning.specs.BodyViews.{is_at_op}
use Rattle.ca_commit.specs.Agents.{TaskAgent}
use Rattle.ca_commit.specs.Applying.{IsPlanFor, IsRight}
use Rattle.ca_commit.specs.Contents.{Parts, whole}
use Rattle.ca_commit.specs.Deciding.{PlanTells}
use Rattle.ca_commit.specs.Moves.{NoneReadyIn}
use Rattle.ca_commit.specs.Parking.{AreChannels}
use Rattle.ca_commit.specs.Planning.{Planned, to_close, to_default, to_do, to_look, to_make, to_meet, to_park, to_post, to_print, to_prune, to_refuse, to_register, to_spawn}
use Rattle.ca_commit.specs.Showing.{channels_held, registries_held, waits_held}
use Rattle.ca_commit.specs.declared.held.Held.{Held}
use Rattle.ca_commit.proofs.PlanTold.{plan_tells}

module _ {A : Type 0} where
  abbrev parts_held : Held A → Parts (TaskAgent A)
  parts_held h = record { lane = λ w. None; bank = channels_held h.banks; registry = registries_held h.banks; shard = waits_held h.shards; ready = λ r. None; timers = None }

  channels_there : (h : Parts (TaskAgent A)) (bs : List BranchView) → NoneReadyIn h bs → AreChannels (whole h.bank) bs
  channels_there h [] a = tt
  channels_there h (b ∷ bs) a = (ap is_some a.0.1, channels_there h bs a.1)

  right : (h : Held A) (op : OpView) (p : Planned) → PlanTells (parts_held h) op p → IsRight h p
  right h op (to_do k b alts) t = (t.2.kept, t.2.answer, t.2.after, t.2.there, t.2.by_row)
  right h op (to_park bs) t = channels_there (parts_held h) bs (subst (NoneReadyIn (parts_held h)) t.1 t.3.unready)
  right h op (to_post bs) t = channels_there (parts_held h) bs (subst (NoneReadyIn (parts_held h)) t.1 t.3.unready)
  right h op (to_register name args) t = ap is_some t.2.there
  right h op (to_meet k b alts w o) t = tt
  right h op (to_default v) t = tt
  right h op (to_make what) t = tt
  right h op (to_spawn kind r) t = tt
  right h op (to_close q) t = tt
  right h op (to_print line) t = tt
  right h op (to_look w) t = tt
  right h op (to_prune q side place) t = tt
  right h op (to_refuse f) t = tt

  pub plan_right : (place : A → At) (h : Held A) (p q : Planned) (a : TaskAgent A) → IsPlanFor place h p a → p ≡ q → IsRight h q
  plan_right place h p q a is e = right h is.0.op q (subst (PlanTells (parts_held h) is.0.op) (sym is.3 ∙ e) (plan_tells (parts_held h) is.0.op is.2))

  pub plan_at : (place : A → At) (h : Held A) (p : Planned) (a : TaskAgent A) → IsPlanFor place h p a → is_at_op (place a.agent) ≡ true
  plan_at place h p a is = ap is_at_op is.1
