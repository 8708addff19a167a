-- What a channel that settles does.
use Rattle.std.specs.Prelude.{◌≡◌, ℕ, ◌<◌, Option, Some, None, option_map, true}
use Rattle.ca_value.specs.Tree.{Tree}
use Rattle.ca_value.specs.View.{view}
use Rattle.ca_term.specs.declared.event.Side.{Side}
use Rattle.ca_term.specs.declared.event.Side.TheVariants.{Put, Take}
use Rattle.ca_term.specs.Event.{event_view, settled}
use Rattle.ca_meaning.specs.Body.{At}
use Rattle.ca_meaning.specs.Wait.{head, told}
use Rattle.ca_bank.specs.Kept.{added, buffer_spare, pruned, removed, takes_one_more}
use Rattle.ca_commit.specs.Contents.{Kept, whole}
use Rattle.ca_commit.specs.Finding.{Serving, front_at, glance, held_at, rests, rests_on_stale, rests_on_unheld, serves, settle_at}
use Rattle.ca_commit.specs.Replies.{or_nil}
use Rattle.ca_term.specs.declared.event.Event.{Event}
use Rattle.ca_commit.specs.Listing.{changed_at}
use Rattle.ca_commit.specs.Showing.{channels_held, registries_held, spares_held, waits_held}
use Rattle.ca_commit.specs.Waking.{HasReadyRoom, IsMadeForWaiter, KeepsNumbers, WakesBy, ready_in, handler_value}
use Rattle.ca_commit.specs.declared.held.Held.{Held}
use Rattle.ca_commit.specs.declared.settling.SettleNext.{SettleNext}
use Rattle.ca_commit.specs.declared.settling.SettleNext.TheVariants as S

-- the value that moves in, or that a taker gets
abbrev pub value_settled : Side → Option Kept → Tree
value_settled Put o = handler_value (front_at Put o)
value_settled Take o = or_nil (head (held_at o))

-- a put's value moves in, a taker's leaves
abbrev pub channel_filled : Side → Tree → Kept → Kept
channel_filled Put v k = added v k
channel_filled Take v k = removed k

-- and the handler in front leaves its queue
abbrev pub settle_change : Side → Tree → Kept → Kept
settle_change side v k = pruned side 0 (channel_filled side v k)

-- a fixed buffer serves a put only where it has room
abbrev pub HasRoomToServe : Option Kept → Side → Type 0
HasRoomToServe o side = side ≡ Put → takes_one_more o ≡ true

-- what the held parts show that channel p settles
abbrev pub served_in : {A : Type 0} → Held A → ℕ → Serving
served_in h p = settle_at (glance (waits_held h.shards)) (whole (channels_held h.banks) p)

module _ {A : Type 0} (place : A → At) where
  -- what serving needs: the value for the event, and for the buffer; the answer of whoever waits; and room
  abbrev pub IsMadeToServe : Held A → ℕ → Side → ℕ → Type 0
  IsMadeToServe h p side w =
      (option_map view h.spare.value ≡ Some (value_settled side (whole (channels_held h.banks) p)))
      × (option_map view h.spare.answer ≡ Some (value_settled side (whole (channels_held h.banks) p)))
      × IsMadeForWaiter place (whole (waits_held h.shards) w) p (told side (value_settled side (whole (channels_held h.banks) p))) h.spare.partner
      × HasReadyRoom h.ready

  abbrev pub IsMadeToSettle : Held A → ℕ → Serving → Type 0
  IsMadeToSettle h p (serves side w o) = IsMadeToServe h p side w × (side ≡ Put → 0 < buffer_spare (whole (spares_held h.banks) p))
  IsMadeToSettle h p other = Unit {0}

  -- the event, and how it leaves the parts
  pub record IsSettled (gives : A → Tree → A → Type 0) (old new : Held A) (p : ℕ) (side : Side) (w o : ℕ) (e : Event) : Type 0 where
    pub event : event_view e ≡ settled w o side p (value_settled side (whole (channels_held old.banks) p))
    pub channels : (i : ℕ) → channels_held new.banks i ≡ changed_at p (option_map (settle_change side (value_settled side (whole (channels_held old.banks) p)))) (channels_held old.banks) i
    pub registries : (i : ℕ) → registries_held new.banks i ≡ registries_held old.banks i
    pub waits : (i : ℕ) → waits_held new.shards i ≡ changed_at w (λ z. None) (waits_held old.shards) i
    pub wakes : WakesBy place gives (whole (waits_held old.shards) w) p (told side (value_settled side (whole (channels_held old.banks) p))) (ready_in old.ready) (ready_in new.ready)
    pub numbers : KeepsNumbers old new

  -- what settling comes to
  abbrev pub Settles : (A → Tree → A → Type 0) → Held A → Held A → ℕ → Serving → SettleNext → Type 0
  Settles gives old new p rests S.None = new ≡ old
  Settles gives old new p (rests_on_stale side) (S.Prune q s place) = (q.n ≡ p) × (s ≡ side) × (place ≡ 0) × (new ≡ old)
  Settles gives old new p (rests_on_unheld w) (S.Look v) = (v.n ≡ w) × (new ≡ old)
  Settles gives old new p (serves side w o) (S.Settled e) = IsSettled gives old new p side w o e
  Settles gives old new p other result = ⊥
