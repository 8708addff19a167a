-- A plan that was applied is a step, and what is there then follows the state to which it leads.
use Rattle.std.proofs.Common.{◌≡◌, ℕ, sym, subst}
use Rattle.ca_value.specs.Tree.{Tree}
use Rattle.ca_term.specs.declared.place.Place.{Place}
use Rattle.ca_term.specs.Operation.{OpView, SeedView}
use Rattle.ca_term.specs.Program.{ProgramView}
use Rattle.ca_meaning.specs.Body.{At, at_op}
use Rattle.ca_meaning.specs.State.{State}
use Rattle.ca_meaning.specs.Steps.{Step}
use Rattle.ca_meaning.specs.Task.{TaskBody}
use Rattle.ca_agent.specs.Agents.{Answered, Started}
use Rattle.ca_commit.specs.Agents.{TaskAgent}
use Rattle.ca_commit.specs.Applying.{IsEvent, event_of}
use Rattle.ca_commit.specs.Deciding.{PlanTells, seen_in}
use Rattle.ca_commit.specs.Planning.{Planned, planned, to_close, to_default, to_do, to_look, to_make, to_meet, to_park, to_post, to_print, to_prune, to_refuse, to_register, to_spawn}
use Rattle.ca_commit.proofs.PlanTold.{plan_tells}
use Rattle.ca_follow.specs.Applies.{Applies}
use Rattle.ca_follow.specs.Events.{AreNew}
use Rattle.ca_follow.specs.Follows.{Follows, IsAt}
use Rattle.ca_follow.specs.Has.{Has, IsAll, parts_had}
use Rattle.ca_follow.proofs.Answers.{close_follows, default_follows, print_follows, register_follows}
use Rattle.ca_follow.proofs.Done.{done_follows}
use Rattle.ca_follow.proofs.Going.{LeadsOn}
use Rattle.ca_follow.proofs.Joined.{park_follows, post_follows}
use Rattle.ca_follow.proofs.Makes.{make_follows, spawn_follows}
use Rattle.ca_follow.proofs.Served.{meet_follows}

module _ {A : Type 0} (place : A → At) (stands : ProgramView → A → TaskBody → Type 0) (program : ProgramView) (gives : A → Tree → A → Type 0) (answers_law : Answered stands place gives) (starts : ProgramView → SeedView → A → Type 0) (starts_law : Started stands place starts) where
  by_plan : (q : Planned) → IsEvent q → LeadsOn place stands program gives starts q
  by_plan (to_do k b alts) e = done_follows place stands program gives answers_law starts k b alts
  by_plan (to_meet k b alts v o) e = meet_follows place stands program gives answers_law starts k b alts v o
  by_plan (to_park bs) e = park_follows place stands program gives starts bs
  by_plan (to_post bs) e = post_follows place stands program gives answers_law starts bs
  by_plan (to_default v) e = default_follows place stands program gives answers_law starts v
  by_plan (to_make what) e = make_follows place stands program gives answers_law starts what
  by_plan (to_spawn kind r) e = spawn_follows place stands program gives answers_law starts starts_law kind r
  by_plan (to_close q) e = close_follows place stands program gives answers_law starts q
  by_plan (to_register name args) e = register_follows place stands program gives answers_law starts name args
  by_plan (to_print line) e = print_follows place stands program gives answers_law starts line
  by_plan (to_look v) e = absurd e
  by_plan (to_prune q side i) e = absurd e
  by_plan (to_refuse f) e = absurd e

  pub applied_follows : (h h2 : Has A) (s : State) (op : OpView) (at : Place) (start : ℕ) (q : Planned) (t u p w m : ℕ) (a : TaskAgent A) → Follows place stands program h s → IsAll h → IsAt place stands program h s t a → place a.agent ≡ at_op (record { op = op; place = at })
      → q ≡ planned (seen_in (parts_had h)) op start → IsEvent q → AreNew h q u p w m → Applies place gives starts program op q t u p w m a h h2
      → (s2 : State) × Step program s (event_of h.bank h.registry t u p w m q) s2 × Follows place stands program h2 s2
  applied_follows h h2 s op at start q t u p w m a f all is here plan event new x =
      by_plan q event h h2 s op at t u p w m a f all is here (subst (λ (z : Planned). PlanTells (parts_had h) op z) (sym plan) (plan_tells (parts_had h) op start)) new x
