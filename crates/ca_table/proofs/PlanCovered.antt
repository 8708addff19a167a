-- The event of a plan covers what its worker carries, and moves it.
use Rattle.std.proofs.Common.{◌≡◌, ◌≢◌, ◌∙◌, ℕ, List, [], ◌∷◌, refl, sym, subst, map}
use Rattle.ca_value.specs.Tree.{Tree}
use Rattle.ca_term.specs.Event.{BranchView, EventView, put_of}
use Rattle.ca_term.specs.Operation.{OpView, SeedView, dropping, fixed, mix, mult, promise, publication, sliding, timeout, unbuffered}
use Rattle.ca_term.specs.Program.{ProgramView}
use Rattle.ca_meaning.specs.Body.{At}
use Rattle.ca_meaning.specs.Wait.{port_of}
use Rattle.ca_commit.specs.Agents.{TaskAgent}
use Rattle.ca_commit.specs.Applying.{BankChannels, IsEvent, Members, event_of}
use Rattle.ca_commit.specs.Contents.{Content, Parts, home}
use Rattle.ca_commit.specs.Deciding.{PlanTells}
use Rattle.ca_commit.specs.Entering.{registry_of}
use Rattle.ca_commit.specs.Moves.{NoneReadyIn}
use Rattle.ca_commit.specs.Moving.{MovesTurn}
use Rattle.ca_commit.specs.Parking.{front_port}
use Rattle.ca_commit.specs.PlanMoves.{HasPartsIn, IsApplied}
use Rattle.ca_commit.specs.Planning.{Planned, to_close, to_default, to_do, to_look, to_make, to_meet, to_park, to_post, to_print, to_prune, to_refuse, to_register, to_spawn}
use Rattle.ca_commit.specs.Touched as said
use Rattle.ca_commit.proofs.PlanMoving.{plan_moves}
use Rattle.ca_commit.proofs.PlanTold.{plan_tells}
use Rattle.ca_table.specs.Carrying.{Carries, carried}
use Rattle.ca_table.specs.Covering.{Covers, turn_names}
use Rattle.ca_table.specs.Needing.{Brings, drawn_with, needed, needs_ready, needs_timers, own_if, ports_needed, waits_needed}
use Rattle.ca_table.proofs.Needing.{BanksOf, ShardsOf, bank_held, covers_by, in_bank, in_registries, in_shard, lane_held, shard_held}

pub no_stall : (e : EventView) → said.shown e ≢ said.stalls
no_stall e s = cc

-- what the event of a plan names is what the plan needs
pub names_needed : (cs : BankChannels) (rs : Members) (w t u p v m : ℕ) (q : Planned) → IsEvent q → turn_names w (said.shown (event_of cs rs t u p v m q)) ≡ needed w p v q
names_needed cs rs w t u p v m (to_do k b alts) is = refl
names_needed cs rs w t u p v m (to_meet k b alts wait o) is = refl
names_needed cs rs w t u p v m (to_park bs) is = refl
names_needed cs rs w t u p v m (to_post bs) is = refl
names_needed cs rs w t u p v m (to_default z) is = refl
names_needed cs rs w t u p v m (to_make unbuffered) is = refl
names_needed cs rs w t u p v m (to_make (fixed n)) is = refl
names_needed cs rs w t u p v m (to_make (dropping n)) is = refl
names_needed cs rs w t u p v m (to_make (sliding n)) is = refl
names_needed cs rs w t u p v m (to_make promise) is = refl
names_needed cs rs w t u p v m (to_make (timeout n)) is = refl
names_needed cs rs w t u p v m (to_make (mult c)) is = refl
names_needed cs rs w t u p v m (to_make (mix c d)) is = refl
names_needed cs rs w t u p v m (to_make (publication c)) is = refl
names_needed cs rs w t u p v m (to_spawn kind r) is = refl
names_needed cs rs w t u p v m (to_close z) is = refl
names_needed cs rs w t u p v m (to_register name args) is = refl
names_needed cs rs w t u p v m (to_print line) is = refl
names_needed cs rs w t u p v m (to_look z) is = absurd is
names_needed cs rs w t u p v m (to_prune z side i) is = absurd is
names_needed cs rs w t u p v m (to_refuse f) is = absurd is

module _ {A X : Type 0} (f : X → Content A) (w p v : ℕ) (h : Carries X) where
  abbrev old : Parts A
  old = carried f w h

  all_unready : (bs : List BranchView) → NoneReadyIn old bs → BanksOf h (map port_of bs)
  all_unready [] u = tt
  all_unready (b ∷ bs) u = (in_bank f w h (port_of b) u.0.0 u.0.1, all_unready bs u.1)

  front_unready : (q : ℕ) (z : Tree) → NoneReadyIn old (put_of q z ∷ []) → BanksOf h (front_port (put_of q z ∷ []) ∷ [])
  front_unready q z u = (in_bank f w h q u.0.0 u.0.1, tt)

  ports_held : (op : OpView) (q : Planned) → PlanTells old op q → HasPartsIn w p v q old → BanksOf h (ports_needed p q)
  ports_held op (to_do k b alts) e has = (in_bank f w h (port_of b) e.2.kept e.2.there, tt)
  ports_held op (to_meet k b alts wait o) e has = (in_bank f w h (port_of b) e.2.kept e.2.there, tt)
  ports_held op (to_park bs) e has = all_unready bs (subst (NoneReadyIn old) e.1 e.3.unready)
  ports_held op (to_post bs) e has =
      subst (λ (l : List BranchView). BanksOf h (front_port l ∷ [])) (sym e.4.3) (front_unready e.4.0 e.4.1 (subst (NoneReadyIn old) (e.1 ∙ e.4.3) e.3.unready))
  ports_held op (to_default z) e has = tt
  ports_held op (to_make what) e has = (bank_held f w h (home p) has.0 has.2, tt)
  ports_held op (to_spawn kind r) e has = tt
  ports_held op (to_close z) e has = (in_bank f w h z e.2.0 e.2.1, tt)
  ports_held op (to_register name args) e has = (in_registries f w h (registry_of args) e.2.old e.2.there, tt)
  ports_held op (to_print line) e has = tt
  ports_held op (to_look z) e has = tt
  ports_held op (to_prune z side i) e has = tt
  ports_held op (to_refuse z) e has = tt

  waits_held : (op : OpView) (q : Planned) → PlanTells old op q → HasPartsIn w p v q old → ShardsOf h (waits_needed v q)
  waits_held op (to_do k b alts) e has = tt
  waits_held op (to_meet k b alts wait o) e has = (in_shard f w h wait e.2.lives, tt)
  waits_held op (to_park bs) e has = (shard_held f w h (home v) has.0 has.1, tt)
  waits_held op (to_post bs) e has = (shard_held f w h (home v) has.0 has.1, tt)
  waits_held op (to_default z) e has = tt
  waits_held op (to_make what) e has = tt
  waits_held op (to_spawn kind r) e has = tt
  waits_held op (to_close z) e has = tt
  waits_held op (to_register name args) e has = tt
  waits_held op (to_print line) e has = tt
  waits_held op (to_look z) e has = tt
  waits_held op (to_prune z side i) e has = tt
  waits_held op (to_refuse z) e has = tt

module _ {A X : Type 0} (place : A → At) (advances : ProgramView → A → A → Type 0) (gives : A → Tree → A → Type 0) (starts : ProgramView → SeedView → A → Type 0) (f g : X → Content (TaskAgent A))
    (w n t u p v m : ℕ) (q : Planned) (h : Carries X) (x : IsApplied place advances gives starts w n t u p v m q (carried f w h) (carried g w h)) where
  abbrev before : Parts (TaskAgent A)
  before = carried f w h

  abbrev event : EventView
  event = event_of before.bank before.registry t u p v m q

  told : PlanTells before x.op q
  told = subst (PlanTells before x.op) x.is_plan (plan_tells before x.op x.start)

  -- it covers what is carried
  pub plan_covers : (ports looked : List ℕ) → Brings ports looked (needs_timers q) (own_if (needs_ready q) w) h → Covers (drawn_with w n (said.shown event) ports looked) h
  plan_covers ports looked brings = covers_by h w n (said.shown event) ports looked (needed w p v q) (no_stall event) (names_needed before.bank before.registry w t u p v m q x.is_event)
      (sym (lane_held f w h x.stands.lane x.stands.lanes.was)) brings (ports_held f w p v h x.op q told x.has_parts) (waits_held f w p v h x.op q told x.has_parts)

  -- and moves it
  pub plan_turns : MovesTurn place advances gives starts w n (said.shown event) before (carried g w h)
  plan_turns = plan_moves place advances gives starts before (carried g w h) w n t u p v m q x
