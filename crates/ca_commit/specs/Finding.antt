-- What becomes of a branch, as far as the held parts tell. A row asks the handlers in front of its channel's queues:
-- such a handler is live or stale, or the shard of its wait isn't held.
use Rattle.std.specs.Prelude.{ℕ, List, [], Option, Some, None, is_some, Bool, false, ◌&&◌, cond}
use Rattle.ca_value.specs.Tree.{Tree}
use Rattle.ca_term.specs.declared.event.Side.{Side}
use Rattle.ca_term.specs.declared.event.Side.TheVariants.{Take, Put}
use Rattle.ca_term.specs.Event.{BranchView, take_of, put_of}
use Rattle.ca_meaning.specs.Channel.{is_promise, is_fixed}
use Rattle.ca_meaning.specs.Wait.{Handler, head}
use Rattle.ca_bank.specs.Kept.{queue_at, is_closed_at, takes_one_more}
use Rattle.ca_commit.specs.Contents.{Kept, home}

-- what the held shards tell of a wait
pub data Glance : Type 0 where
  here : Glance
  gone : Glance
  unseen : Glance

abbrev pub glance_in : {X : Type 0} → Option X → Glance
glance_in None = gone
glance_in (Some x) = here

abbrev pub glance_at : {X : Type 0} → Option (ℕ → Option X) → ℕ → Glance
glance_at None w = unseen
glance_at (Some f) w = glance_in (f w)

abbrev pub glance : {X : Type 0} → (ℕ → Option (ℕ → Option X)) → ℕ → Glance
glance shards w = glance_at (shards (home w)) w

-- of no channel nothing is true
abbrev pub is_promise_at : Option Kept → Bool
is_promise_at None = false
is_promise_at (Some k) = is_promise k.channel.policy

abbrev pub is_fixed_at : Option Kept → Bool
is_fixed_at None = false
is_fixed_at (Some k) = is_fixed k.channel.policy

abbrev pub held_at : Option Kept → List Tree
held_at None = []
held_at (Some k) = k.channel.held

abbrev pub holds_one : Option Kept → Bool
holds_one o = is_some (head (held_at o))

abbrev pub front_at : Side → Option Kept → Option Handler
front_at side o = head (queue_at side o)

pub data Finding : Type 0 where
  unready : Finding
  -- it is done at once
  alone : Finding
  -- it meets the front handler of the other side, which is branch o of wait w
  partner : (w o : ℕ) → Finding
  -- the front handler of this side is stale
  stale : Side → Finding
  -- the shard of this wait isn't held
  unheld : ℕ → Finding

-- what is found where this wait, in front of that side, is asked; live is what is found where it lives
abbrev pub found_by_asking : Glance → Side → ℕ → Finding → Finding
found_by_asking here side w live = live
found_by_asking gone side w live = stale side
found_by_asking unseen side w live = unheld w

module _ (see : ℕ → Glance) where
  -- a put that has room is done, unless a put waits
  abbrev pub find_rival : Option Handler → Finding
  find_rival None = alone
  find_rival (Some h) = found_by_asking (see h.wait) Put h.wait unready

  abbrev pub find_taker : Bool → Option Handler → Option Handler → Finding
  find_taker room (Some h) putter = found_by_asking (see h.wait) Take h.wait (partner h.wait h.branch)
  find_taker room None putter = cond room (find_rival putter) unready

  abbrev pub find_put : Bool → Bool → Bool → Option Handler → Option Handler → Finding
  find_put closed promise room taker putter = cond closed alone (cond promise alone (find_taker room taker putter))

  abbrev pub find_putter : Bool → Option Handler → Finding
  find_putter closed (Some h) = found_by_asking (see h.wait) Put h.wait (partner h.wait h.branch)
  find_putter closed None = cond closed alone unready

  abbrev pub find_take : Bool → Bool → Option Handler → Finding
  find_take holds closed putter = cond holds alone (find_putter closed putter)

  -- a take from the channel, and a put into it; of no channel they aren't ready
  abbrev pub take_at : Option Kept → Finding
  take_at o = find_take (holds_one o) (is_closed_at o) (front_at Put o)

  abbrev pub put_at : Option Kept → Finding
  put_at o = find_put (is_closed_at o) (is_promise_at o) (takes_one_more o) (front_at Take o) (front_at Put o)

  abbrev pub find_at : Option Kept → BranchView → Finding
  find_at o (take_of p) = take_at o
  find_at o (put_of p v) = put_at o

-- what a channel settles by itself
pub data Serving : Type 0 where
  rests : Serving
  -- the front handler of this side, which is branch o of wait w
  serves : (side : Side) (w o : ℕ) → Serving
  rests_on_stale : Side → Serving
  rests_on_unheld : ℕ → Serving

abbrev pub serving : Glance → Side → Handler → Serving
serving here side h = serves side h.wait h.branch
serving gone side h = rests_on_stale side
serving unseen side h = rests_on_unheld h.wait

module _ (see : ℕ → Glance) where
  abbrev pub serve_front : Side → Option Handler → Serving
  serve_front side None = rests
  serve_front side (Some h) = serving (see h.wait) side h

  -- a taker gets a value that is held, and nil once the channel is closed
  abbrev pub serve_taker : Bool → Bool → Option Handler → Serving
  serve_taker holds closed taker = cond holds (serve_front Take taker) (cond closed (serve_front Take taker) rests)

  -- a put moves into a fixed buffer with room, if one waits
  abbrev pub serve_putter : Option Handler → Serving → Serving
  serve_putter None taker = taker
  serve_putter (Some h) taker = serving (see h.wait) Put h

  abbrev pub serve : Bool → Option Handler → Serving → Serving
  serve room putter taker = cond room (serve_putter putter taker) taker

  abbrev pub settle_at : Option Kept → Serving
  settle_at o = serve (is_fixed_at o && takes_one_more o) (front_at Put o) (serve_taker (holds_one o) (is_closed_at o) (front_at Take o))
