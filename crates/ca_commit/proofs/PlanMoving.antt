-- What the calls of a plan's event promise of the parts is how that event moves them, event by event.
use Rattle.std.proofs.Common.{◌≡◌, ℕ, List, ◌∷◌, [], ◌++◌, refl, sym, ap, ◌∙◌, subst, Bool, true, false, Some, option_map, eqb, eqb-true}
use Rattle.std.proofs.lemmas.Bool.{eqb-false}
use Rattle.ca_value.specs.Tree.{Tree, bool, nil, port}
use Rattle.ca_term.specs.declared.place.Place.{Place}
use Rattle.ca_term.specs.Program.{ProgramView}
use Rattle.ca_term.specs.Operation.{OpView, SeedView, choosing, closing, making, posting, printing, putting, registering, spawning, taking}
use Rattle.ca_meaning.specs.Body.{At, at_op}
use Rattle.ca_meaning.specs.Choice.{default_of}
use Rattle.ca_meaning.specs.Operands.{rest_of}
use Rattle.ca_meaning.specs.ChannelSteps.{with_default}
use Rattle.ca_meaning.specs.Task.{reply_to}
use Rattle.ca_meaning.specs.Wait.{port_of, side_of, told as told_of}
use Rattle.ca_commit.specs.Agents.{TaskAgent, advances_of, alts_at, gives_of, place_of}
use Rattle.ca_commit.specs.Applying.{answer_by, counts_alts, event_of}
use Rattle.ca_commit.specs.Contents.{Parts, whole}
use Rattle.ca_commit.specs.Deciding.{PlanTells}
use Rattle.ca_commit.specs.Moves.{Answers, FitIn, Stays, Stood}
use Rattle.ca_commit.specs.Moving.{MovesShown}
use Rattle.ca_commit.specs.PlanMoves.{IsApplied, OthersStay, PlanMoves}
use Rattle.ca_commit.specs.Planning.{Planned, is_alts, to_close, to_default, to_do, to_look, to_make, to_meet, to_park, to_post, to_print, to_prune, to_refuse, to_register, to_spawn}
use Rattle.ca_commit.specs.Replies.{GoesOn, counted_alts, done_answer, reply_by}
use Rattle.ca_commit.specs.Waking.{passing}
use Rattle.ca_commit.specs.Entering.{answer_of, registry_of}
use Rattle.ca_commit.proofs.Drawings.{done_moves}
use Rattle.ca_commit.proofs.EventMoves.{close_moves, default_moves, make_moves, park_moves, post_moves, print_moves, register_moves, spawn_moves}
use Rattle.ca_commit.proofs.Meetings.{meet_moves}
use Rattle.ca_commit.proofs.PlanTold.{plan_tells}
use Rattle.ca_commit.proofs.RowsDone.{alts_is, reply_is}

-- an operation with a default is an alts
default_alts : (op : OpView) (v : Tree) → default_of op ≡ Some v → is_alts op ≡ true
default_alts (choosing ports priority default) v e = refl
default_alts (taking c) v e = absurd cc
default_alts (putting c u) v e = absurd cc
default_alts (posting c u) v e = absurd cc
default_alts (making what) v e = absurd cc
default_alts (spawning seed) v e = absurd cc
default_alts (closing c) v e = absurd cc
default_alts (registering name args) v e = absurd cc
default_alts (printing line) v e = absurd cc

-- where the worker's ready part stays, all do
all_stay : {A : Type 0} (w : ℕ) (old new : Parts A) → OthersStay w old new → new.ready w ≡ old.ready w → Stays old.ready new.ready
all_stay w old new others same i = by (eqb i w) refl where
  by : (b : Bool) → eqb i w ≡ b → new.ready i ≡ old.ready i
  by true e = subst (λ (j : ℕ). new.ready j ≡ old.ready j) (sym (eqb-true i w e)) same
  by false e = others i (eqb-false i w e)

module _ {A : Type 0} (place : A → At) (advances : ProgramView → A → A → Type 0) (gives : A → Tree → A → Type 0) where
  -- the answer counts an alts, as its operation says
  given_to : (op : OpView) (at : Place) (alts : Bool) (v : Tree) (a c : TaskAgent A) → place a.agent ≡ at_op (record { op = op; place = at }) → is_alts op ≡ alts → GoesOn gives alts a v c → gives_of place gives a v c
  given_to op at alts v a c stood e g = (g.0, g.1 ∙ ap (λ b. counted_alts b a.alts) (sym e) ∙ alts_is op a.alts ∙ sym (ap (λ z. alts_at z a.alts) stood), g.2)

  -- so the task goes on
  abbrev goes_on : (w t : ℕ) (op : OpView) (at : Place) (alts : Bool) (v v2 : Tree) (old new : Parts (TaskAgent A)) (stands : Stood (place_of place) (advances_of advances) w t (at_op (record { op = op; place = at })) old new) (c : TaskAgent A)
      → stands.lane2.task ≡ Some (t, c) → GoesOn gives alts stands.agent1 v c → is_alts op ≡ alts → v ≡ v2 → FitIn old op → Answers (place_of place) (advances_of advances) (gives_of place gives) w t op v2 old new
  goes_on w t op at alts v v2 old new stands c task given is same fit = record {
    at = at;
    stands = stands;
    agent2 = c;
    given = subst (λ (z : Tree). gives_of place gives stands.agent1 z c) same (given_to op at alts v stands.agent1 c stands.stood is given);
    task2 = task;
    fit = fit;
  }

module _ {A : Type 0} (place : A → At) (advances : ProgramView → A → A → Type 0) (gives : A → Tree → A → Type 0) (starts : ProgramView → SeedView → A → Type 0) where
  abbrev Moved : (w n t u p v m : ℕ) → Planned → Parts (TaskAgent A) → Parts (TaskAgent A) → Type 0
  Moved w n t u p v m q old new = MovesShown place advances gives starts w n (event_of old.bank old.registry t u p v m q) old new

  abbrev told : (w n t u p v m : ℕ) (q : Planned) (old new : Parts (TaskAgent A)) (x : IsApplied place advances gives starts w n t u p v m q old new) → PlanTells old x.op q
  told w n t u p v m q old new x = subst (PlanTells old x.op) x.is_plan (plan_tells old x.op x.start)

  abbrev answered : (w n t u p v m : ℕ) (q : Planned) (old new : Parts (TaskAgent A)) (x : IsApplied place advances gives starts w n t u p v m q old new) (c : TaskAgent A) (reply : Tree)
      → x.stands.lane2.task ≡ Some (t, c) → GoesOn gives (counts_alts q) x.stands.agent1 (answer_by old.bank old.registry p q) c → is_alts x.op ≡ counts_alts q → answer_by old.bank old.registry p q ≡ reply → FitIn old x.op → Answers (place_of place) (advances_of advances) (gives_of place gives) w t x.op reply old new
  answered w n t u p v m q old new x c reply task given is same fit = goes_on place advances gives w t x.op x.at (counts_alts q) (answer_by old.bank old.registry p q) reply old new x.stands c task given is same fit

  pub plan_moves : PlanMoves place advances gives starts
  plan_moves old new w n t u p v m (to_do k b alts) x = let e = told w n t u p v m (to_do k b alts) old new x in
      let is = ap (λ (a : Bool). reply_by a (port_of b) (done_answer (whole old.bank (port_of b)) b)) e.3 ∙ reply_is x.op (port_of b) (done_answer (whole old.bank (port_of b)) b) in
      done_moves (place_of place) (advances_of advances) (gives_of place gives) old new w t k x.op b e.2 e.1
      (answered w n t u p v m (to_do k b alts) old new x x.runs_on.0 (reply_to x.op (port_of b) (done_answer (whole old.bank (port_of b)) b)) x.runs_on.1 x.runs_on.2 (sym e.3) is e.0)
      x.counts x.banks x.registries x.shards x.readys x.timers
  plan_moves old new w n t u p v m (to_meet k b alts wait o) x = let e = told w n t u p v m (to_meet k b alts wait o) old new x in
      let passed = told_of (side_of b) (passing (whole old.bank (port_of b)) b) in
      let is = ap (λ (a : Bool). reply_by a (port_of b) passed) e.3 ∙ reply_is x.op (port_of b) passed in
      meet_moves place advances gives old new w t k wait o x.op b x.has_parts.0 e.2 e.1
      (answered w n t u p v m (to_meet k b alts wait o) old new x x.runs_on.0 (reply_to x.op (port_of b) passed) x.runs_on.1 x.runs_on.2 (sym e.3) is e.0)
      x.counts x.banks x.registries x.shards x.has_parts.1 x.readys.1 (all_stay w old new x.readys.1) x.readys.0 x.timers
  plan_moves old new w n t u p v m (to_park bs) x = park_moves place advances old new w n t v x.op x.at bs x.has_parts.0 (told w n t u p v m (to_park bs) old new x) x.placed
      x.stands x.runs_on x.wait_is x.counts x.banks x.registries x.has_parts.1 x.shards x.readys x.timers
  plan_moves old new w n t u p v m (to_post bs) x = let e = told w n t u p v m (to_post bs) old new x in
      post_moves place advances gives old new w n t v x.op bs x.has_parts.0 e x.placed
      (answered w n t u p v m (to_post bs) old new x x.runs_on.0 (bool true) x.runs_on.1 x.runs_on.2 (ap is_alts e.4.2) refl e.0)
      x.wait_is x.counts x.banks x.registries x.has_parts.1 x.shards x.readys x.timers
  plan_moves old new w n t u p v m (to_default z) x = let e = told w n t u p v m (to_default z) old new x in
      default_moves place advances gives old new w t x.op z e
      (answered w n t u p v m (to_default z) old new x x.runs_on.0 (with_default z) x.runs_on.1 x.runs_on.2 (default_alts x.op z e.1) refl e.0)
      x.counts (x.banks, x.registries, x.shards, x.readys, x.timers)
  plan_moves old new w n t u p v m (to_make what) x = let e = told w n t u p v m (to_make what) old new x in
      make_moves place advances gives old new w n t p m x.op what x.has_parts.0 x.has_parts.1 e
      (answered w n t u p v m (to_make what) old new x x.runs_on.0 (port p) x.runs_on.1 x.runs_on.2 (ap is_alts e.1) refl e.0)
      x.port_is x.counts x.has_parts.2 x.has_parts.3 x.banks x.has_parts.4 x.has_parts.5 x.registries x.shards x.readys x.timers
  plan_moves old new w n t u p v m (to_spawn kind r) x = let e = told w n t u p v m (to_spawn kind r) old new x in
      let a = x.readys.0.0 in let q = x.has_parts.0 in
      spawn_moves place advances gives starts old new w n t u x.op kind r a q e
      (answered w n t u p v m (to_spawn kind r) old new x x.runs_on.0 nil x.runs_on.1 x.runs_on.2 (ap is_alts e.1.1) refl e.0)
      (x.task_is kind r refl) x.counts x.readys.0.1
      (record { was = x.has_parts.1; is = x.readys.0.2 ∙ ap (option_map (λ (l : List (ℕ × TaskAgent A)). l ++ (u, a) ∷ [])) x.has_parts.1; others = x.readys.1 })
      x.banks x.registries x.shards x.timers
  plan_moves old new w n t u p v m (to_close z) x = let e = told w n t u p v m (to_close z) old new x in
      close_moves place advances gives old new w t z x.op e
      (answered w n t u p v m (to_close z) old new x x.runs_on.0 nil x.runs_on.1 x.runs_on.2 (ap is_alts e.1) refl e.0)
      x.counts x.banks x.registries x.shards x.readys x.timers
  plan_moves old new w n t u p v m (to_register name args) x = let e = told w n t u p v m (to_register name args) old new x in
      register_moves place advances gives old new w t x.op name args e
      (answered w n t u p v m (to_register name args) old new x x.runs_on.0 (answer_of (whole old.registry (registry_of args)) name (rest_of args)) x.runs_on.1 x.runs_on.2 (ap is_alts e.1) refl e.0)
      x.counts x.banks x.registries x.shards x.readys x.timers
  plan_moves old new w n t u p v m (to_print line) x = let e = told w n t u p v m (to_print line) old new x in
      print_moves place advances gives old new w t x.op line e
      (answered w n t u p v m (to_print line) old new x x.runs_on.0 nil x.runs_on.1 x.runs_on.2 (ap is_alts e.1) refl e.0)
      x.counts (x.banks, x.registries, x.shards, x.readys, x.timers)
  plan_moves old new w n t u p v m (to_look z) x = absurd x.is_event
  plan_moves old new w n t u p v m (to_prune z side i) x = absurd x.is_event
  plan_moves old new w n t u p v m (to_refuse f) x = absurd x.is_event
