-- Where an answer gives more than is said of it, an event that was applied gives more.
use Rattle.std.proofs.Common.{ℕ, List, Option, Some, None}
use Rattle.ca_value.specs.Tree.{Tree}
use Rattle.ca_meaning.specs.Body.{At}
use Rattle.ca_meaning.specs.ChannelSteps.{other_side}
use Rattle.ca_meaning.specs.Wait.{port_of, side_of, told}
use Rattle.ca_commit.specs.Agents.{TaskAgent}
use Rattle.ca_commit.specs.Applying.{ReadyBy, RunsBy}
use Rattle.ca_commit.specs.Contents.{Parked, nobody, owner, whole}
use Rattle.ca_commit.specs.Planning.{Planned, to_close, to_default, to_do, to_look, to_make, to_meet, to_park, to_post, to_print, to_prune, to_refuse, to_register, to_spawn}
use Rattle.ca_commit.specs.Showing.{channels_held, waits_held}
use Rattle.ca_commit.specs.Waking.{WakesBy, passing, ready_in}
use Rattle.ca_commit.specs.declared.held.Held.{Held}
use Rattle.ca_commit.specs.declared.task.Task.{Task}

module _ {A : Type 0} (place : A → At) (gives more : A → Tree → A → Type 0) (lift : (a : A) (v : Tree) (c : A) → gives a v c → more a v c) where
  pub wakes_more : (o : Option (Parked (TaskAgent A))) (p : ℕ) (v : Tree) (old new : Option (List (ℕ × TaskAgent A))) → WakesBy place gives o p v old new → WakesBy place more o p v old new
  wakes_more None p v old new e = e
  wakes_more (Some nobody) p v old new e = e
  wakes_more (Some (owner u a)) p v old new e = (e.0, e.1, e.2, lift _ _ _ e.3, e.4)

  pub ready_more : (old new : Held A) (s : Option (Task A)) (q : Planned) → ReadyBy place gives old new s q → ReadyBy place more old new s q
  ready_more old new s (to_meet k b alts w o) e = wakes_more (whole (waits_held old.shards) w) (port_of b) (told (other_side (side_of b)) (passing (whole (channels_held old.banks) (port_of b)) b)) (ready_in old.ready) (ready_in new.ready) e
  ready_more old new s (to_spawn kind r) e = e
  ready_more old new s (to_do k b alts) e = e
  ready_more old new s (to_park bs) e = e
  ready_more old new s (to_post bs) e = e
  ready_more old new s (to_default v) e = e
  ready_more old new s (to_make what) e = e
  ready_more old new s (to_close p) e = e
  ready_more old new s (to_register name args) e = e
  ready_more old new s (to_print line) e = e
  ready_more old new s (to_look v) e = e
  ready_more old new s (to_prune p side i) e = e
  ready_more old new s (to_refuse f) e = e

  pub runs_more : (held : Held A) (t : Task A) (q : Planned) (o : Option (Task A)) → RunsBy gives held t q o → RunsBy more held t q o
  runs_more held t (to_park bs) o e = e
  runs_more held t (to_do k b alts) None e = e
  runs_more held t (to_do k b alts) (Some c) e = (e.0, (e.1.0, e.1.1, lift _ _ _ e.1.2))
  runs_more held t (to_meet k b alts w o) None e = e
  runs_more held t (to_meet k b alts w o) (Some c) e = (e.0, (e.1.0, e.1.1, lift _ _ _ e.1.2))
  runs_more held t (to_post bs) None e = e
  runs_more held t (to_post bs) (Some c) e = (e.0, (e.1.0, e.1.1, lift _ _ _ e.1.2))
  runs_more held t (to_default v) None e = e
  runs_more held t (to_default v) (Some c) e = (e.0, (e.1.0, e.1.1, lift _ _ _ e.1.2))
  runs_more held t (to_make what) None e = e
  runs_more held t (to_make what) (Some c) e = (e.0, (e.1.0, e.1.1, lift _ _ _ e.1.2))
  runs_more held t (to_spawn kind r) None e = e
  runs_more held t (to_spawn kind r) (Some c) e = (e.0, (e.1.0, e.1.1, lift _ _ _ e.1.2))
  runs_more held t (to_close p) None e = e
  runs_more held t (to_close p) (Some c) e = (e.0, (e.1.0, e.1.1, lift _ _ _ e.1.2))
  runs_more held t (to_register name args) None e = e
  runs_more held t (to_register name args) (Some c) e = (e.0, (e.1.0, e.1.1, lift _ _ _ e.1.2))
  runs_more held t (to_print line) None e = e
  runs_more held t (to_print line) (Some c) e = (e.0, (e.1.0, e.1.1, lift _ _ _ e.1.2))
  runs_more held t (to_look v) None e = e
  runs_more held t (to_look v) (Some c) e = (e.0, (e.1.0, e.1.1, lift _ _ _ e.1.2))
  runs_more held t (to_prune p side i) None e = e
  runs_more held t (to_prune p side i) (Some c) e = (e.0, (e.1.0, e.1.1, lift _ _ _ e.1.2))
  runs_more held t (to_refuse f) None e = e
  runs_more held t (to_refuse f) (Some c) e = (e.0, (e.1.0, e.1.1, lift _ _ _ e.1.2))
