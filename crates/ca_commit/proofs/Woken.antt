-- A task that waited goes on.
use Rattle.std.proofs.Common.{◌≡◌, ℕ, List, [], ◌∷◌, ◌++◌, sym, ap, ◌∙◌, subst, Option, Some, None, option_map}
use Rattle.ca_value.specs.Tree.{Tree}
use Rattle.ca_value.specs.View.{view}
use Rattle.ca_value.specs.declared.value.Value.{Value}
use Rattle.ca_term.specs.Event.{port_number}
use Rattle.ca_bank.specs.declared.shard.Parked.{Parked as ParkedCode}
use Rattle.ca_bank.specs.declared.shard.Parked.TheVariants as C
use Rattle.ca_commit.specs.Agents.{TaskAgent}
use Rattle.ca_meaning.specs.Body.{At}
use Rattle.ca_meaning.specs.Task.{reply_at}
use Rattle.ca_commit.specs.Contents.{Parked, nobody, owner}
use Rattle.ca_commit.specs.Showing.{parked_view}
use Rattle.ca_commit.specs.Tasks.{agent_of, task_view}
use Rattle.ca_commit.specs.Waking.{IsMadeForWaiter, WakesBy, Woke}
use Rattle.ca_commit.specs.declared.task.Task.{Task}

pub woke_owner : {A : Type 0} (gives : A → Tree → A → Type 0) (p : Option (ParkedCode (Task A))) (t : Task A) (v : Option Value) (x : Value) (c : Task A) (old new : Option (List (ℕ × TaskAgent A)))
    → p ≡ Some (C.Owner t) → v ≡ Some x → c.number ≡ t.number → c.result ≡ t.result → c.alts ≡ t.alts → gives t.agent (view x) c.agent → new ≡ option_map (λ q. q ++ task_view c ∷ []) old → Woke gives (option_map parked_view p) v old new
woke_owner {A} gives p t v x c old new e f number result alts given pushed =
    subst (λ (z : Option (ParkedCode (Task A))). Woke gives (option_map parked_view z) v old new) (sym e)
    (subst (λ (z : Option Value). Woke gives (Some (owner t.number (agent_of t))) z old new) (sym f)
    (agent_of c, ap (option_map port_number) result, alts, given, pushed ∙ ap (λ (u : ℕ). option_map (λ (q : List (ℕ × TaskAgent A)). q ++ (u, agent_of c) ∷ []) old) number))

-- the answer that was made is the right one
pub wakes_by : {A : Type 0} (place : A → At) (gives : A → Tree → A → Type 0) (parked : Option (Parked (TaskAgent A))) (p : ℕ) (v : Tree) (made : Option Value) (old new : Option (List (ℕ × TaskAgent A))) → IsMadeForWaiter place parked p v made → Woke gives parked made old new → WakesBy place gives parked p v old new
wakes_by place gives None p v made old new m w = w
wakes_by place gives (Some nobody) p v made old new m w = w
wakes_by place gives (Some (owner u a)) p v None old new m w = absurd w
wakes_by {A} place gives (Some (owner u a)) p v (Some x) old new m w = (w.0, w.1, w.2, subst (λ (t : Tree). gives a.agent t w.0.agent) (let e : view x ≡ reply_at (place a.agent) p v = cc in e) w.3, w.4)

-- the same, of the parked and the answer that were there
pub wakes_from : {A : Type 0} (place : A → At) (gives : A → Tree → A → Type 0) (parked q : Option (Parked (TaskAgent A))) (p : ℕ) (v : Tree) (made m : Option Value) (old new : Option (List (ℕ × TaskAgent A))) → IsMadeForWaiter place parked p v made → q ≡ parked → m ≡ made → Woke gives q m old new → WakesBy place gives parked p v old new
wakes_from place gives parked q p v made m old new f e d w = wakes_by place gives parked p v made old new f (subst (λ (z : Option Value). Woke gives parked z old new) d (subst (λ (z : Option (Parked (TaskAgent _))). Woke gives z m old new) e w))
