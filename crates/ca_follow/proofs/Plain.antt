-- How many alts a task did is nothing to a follower, and what it makes leads on.
use Rattle.std.proofs.Common.{◌≡◌, ℕ, refl, Bool, true, false, cond, Option, Some, eqb}
use Rattle.std.specs.Map.{update}
use Rattle.std.proofs.lemmas.Map.{update_here}
use Rattle.ca_value.specs.Tree.{Tree}
use Rattle.ca_term.specs.declared.place.Place.{Place}
use Rattle.ca_term.specs.Operation.{OpView, SeedView}
use Rattle.ca_term.specs.Program.{ProgramView}
use Rattle.ca_meaning.specs.Body.{At, at_op}
use Rattle.ca_meaning.specs.State.{State}
use Rattle.ca_meaning.specs.Steps.{Step}
use Rattle.ca_meaning.specs.Task.{TaskBody}
use Rattle.ca_agent.specs.Agents.{Answered, Started}
use Rattle.ca_commit.specs.Agents.{TaskAgent, place_of, stands_of}
use Rattle.ca_commit.specs.Applying.{IsEvent, event_of}
use Rattle.ca_commit.specs.Contents.{whole}
use Rattle.ca_commit.specs.Deciding.{seen_in}
use Rattle.ca_commit.specs.Planning.{Planned, planned}
use Rattle.ca_follow.specs.Applies.{Applies}
use Rattle.ca_follow.specs.Events.{AreNew}
use Rattle.ca_follow.specs.Follows.{Follows, IsAt}
use Rattle.ca_follow.specs.Has.{Has, IsAll, parts_had}
use Rattle.ca_follow.proofs.Applied.{applied_follows}
use Rattle.ca_follow.proofs.Going.{follows_by, tracks_of}
use Rattle.ca_follow.proofs.Tracked.{task_advances, tracks_same}

-- the last entry counts
pub again : {X : Type 0} (f : ℕ → Option X) (t : ℕ) (o p : Option X) (v : ℕ) → update eqb f t p v ≡ update eqb (update eqb f t o) t p v
again {X} f t o p v = by (eqb t v) where
  by : (b : Bool) → cond b p (f v) ≡ cond b p (cond b o (f v))
  by true = refl
  by false = refl

-- the agent, whatever number of alts its task did
abbrev pub plain : {A : Type 0} → TaskAgent A → TaskAgent A
plain a = record { result = a.result; alts = 0; agent = a.agent }

-- and task t can go on as this agent
abbrev pub back : {A : Type 0} → ℕ → TaskAgent A → Has A → Has A
back t a h = record h { running = update eqb h.running t (Some a) }

pub back_all : {A : Type 0} (h : Has A) (t : ℕ) (a : TaskAgent A) → IsAll h → IsAll (back t a h)
back_all h t a all = record { banks = all.banks; registries = all.registries; shards = all.shards; bank_placed = all.bank_placed; registry_placed = all.registry_placed; shard_placed = all.shard_placed }

module _ {A : Type 0} (place : A → At) (stands : ProgramView → A → TaskBody → Type 0) (program : ProgramView) where
  pub plain_follows : (h : Has A) (s : State) (t : ℕ) (a : TaskAgent A) → Follows place stands program (back t a h) s → IsAt place stands program (back t a h) s t a
      → Follows place stands program (back t (plain a) h) s × IsAt place stands program (back t (plain a) h) s t (plain a)
  plain_follows h s t a f is = let x = is.1.0 in (
    follows_by place stands program (back t (plain a) h) s f.holds f.registered
        (tracks_same (place_of place) (stands_of stands program) (update eqb (update eqb h.running t (Some a)) t (Some (plain a))) (update eqb h.running t (Some (plain a))) (whole h.shard) (whole h.shard) h.known h.known s.tasks s.waits
        (λ v. again h.running t (Some a) (Some (plain a)) v) (λ v. refl) (λ v. refl)
        (task_advances (place_of place) (stands_of stands program) (update eqb h.running t (Some a)) (whole h.shard) h.known s.tasks s.waits t x (plain a) (tracks_of place stands program (back t a h) s f) is.1.1 is.1.2))
        f.times f.used,
    (update_here h.running t (Some (plain a)), (x, is.1.1, is.1.2, is.1.3)),
  )

  pub made_leads : (gives : A → Tree → A → Type 0) → Answered stands place gives → (starts : ProgramView → SeedView → A → Type 0) → Started stands place starts
      → (h h2 : Has A) (s : State) (op : OpView) (at : Place) (start : ℕ) (q : Planned) (t u p w m : ℕ) (a : TaskAgent A) → IsAll h → Follows place stands program (back t a h) s → IsAt place stands program (back t a h) s t a
      → place a.agent ≡ at_op (record { op = op; place = at }) → q ≡ planned (seen_in (parts_had h)) op start → IsEvent q → AreNew h q u p w m → Applies place gives starts program op q t u p w m (plain a) (back t (plain a) h) h2
      → (s2 : State) × Step program s (event_of h.bank h.registry t u p w m q) s2 × Follows place stands program h2 s2
  made_leads gives answers_law starts starts_law h h2 s op at start q t u p w m a all f is here plan event new x = let k = plain_follows h s t a f is in
      applied_follows place stands program gives answers_law starts starts_law
      (back t (plain a) h) h2 s op at start q t u p w m (plain a) k.0 (back_all h t (plain a) all) k.1 here plan event new x
