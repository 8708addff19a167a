-- What a channel that settles by itself does to what a follower has.
use Rattle.std.specs.Prelude.{◌≡◌, ℕ, List, [], Option, Some, None, option_map}
use Rattle.ca_value.specs.Tree.{Tree}
use Rattle.ca_term.specs.declared.event.Side.{Side}
use Rattle.ca_meaning.specs.Body.{At}
use Rattle.ca_meaning.specs.Wait.{told}
use Rattle.ca_commit.specs.Agents.{TaskAgent}
use Rattle.ca_commit.specs.Contents.{Kept, whole}
use Rattle.ca_commit.specs.Finding.{Serving, glance, rests, rests_on_stale, rests_on_unheld, serves, settle_at}
use Rattle.ca_commit.specs.Listing.{changed_at}
use Rattle.ca_commit.specs.Settling.{settle_change, value_settled}
use Rattle.ca_commit.specs.Waking.{WakesBy}
use Rattle.ca_follow.specs.Applies.{with_all}
use Rattle.ca_follow.specs.Has.{Has}

module _ {A : Type 0} (place : A → At) (gives : A → Tree → A → Type 0) where
  -- Channel p served this side, whose front handler is branch o of wait w: its owner can go on.
  pub record SettlesTo (p : ℕ) (side : Side) (w o : ℕ) (h h2 : Has A) : Type 0 where
    pub serves_it : settle_at (glance h.shard) (whole h.bank p) ≡ serves side w o
    pub bank : (i : ℕ) → h2.bank i ≡ changed_at p (option_map (settle_change side (value_settled side (whole h.bank p)))) h.bank i
    pub registry : (i : ℕ) → h2.registry i ≡ h.registry i
    pub shard : (i : ℕ) → h2.shard i ≡ changed_at w (λ z. None) h.shard i
    pub times : h2.times ≡ h.times
    pub woken : List (ℕ × TaskAgent A)
    pub wakes : WakesBy place gives (whole h.shard w) p (told side (value_settled side (whole h.bank p))) (Some []) (Some woken)
    pub running : (v : ℕ) → h2.running v ≡ with_all woken h.running v
    pub known : (v : ℕ) → h2.known v ≡ h.known v
    pub used : (v : ℕ) → h2.used v ≡ h.used v

-- a channel that settles so serves branch k of wait w on this side with v; or a stale handler has to go first
abbrev pub ServesOnly : ℕ → ℕ → Side → Tree → Option Kept → Serving → Type 0
ServesOnly w k side v o rests = ⊥
ServesOnly w k side v o (serves d x n) = (d ≡ side) × (x ≡ w) × (n ≡ k) × (value_settled side o ≡ v)
ServesOnly w k side v o (rests_on_stale d) = Unit {0}
ServesOnly w k side v o (rests_on_unheld x) = ⊥
