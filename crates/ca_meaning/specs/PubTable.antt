-- A publication: each value goes to the topic that its function makes of it. (core.async API reference: `pub`,
-- `sub`.)
use Rattle.std.specs.Prelude.{ℕ, List, Option, Some, None, Ok, Err, cond}
use Rattle.ca_value.specs.Tree.{Tree, vector, port, none, item}
use Rattle.ca_term.specs.declared.head.PlainFunction.{PlainFunction}
use Rattle.ca_term.specs.declared.head.RegisterName.TheVariants.{Find, Topics}
use Rattle.ca_meaning.specs.Operands.{is_nil}
use Rattle.ca_meaning.specs.Asks.{Ask, ask_to_take, ask_to_put, ask_to_close, ask_to_register, applies, Next, to, fail, needing, closes_due, ports_in, one_of, two_of}
use Rattle.ca_meaning.specs.Applied.{Returned}

-- the publication, its source, its topic function, and the keyword where that is the function
pub record PubPorts : Type 0 where
  pub publication : ℕ
  pub source : ℕ
  pub topic : PlainFunction
  pub keyword : Tree

pub data PubState : Type 0 where
  pub_takes : PubState
  -- it makes the topic of the value
  pub_sorts : Tree → PubState
  -- the topic and the value
  pub_finds : Tree → Tree → PubState
  -- the topic's channel and the value
  pub_puts : ℕ → Tree → PubState
  -- the source is closed
  pub_reads_last : PubState
  -- the topic's channel that is closed, and those after it
  pub_closes : ℕ → List ℕ → PubState

abbrev pub pub_asks : PubPorts → PubState → Ask
pub_asks p pub_takes = ask_to_take p.source
pub_asks p (pub_sorts v) = applies
pub_asks p (pub_finds topic v) = ask_to_register Find (two_of (port p.publication) topic)
pub_asks p (pub_puts c v) = ask_to_put c v
pub_asks p pub_reads_last = ask_to_register Topics (one_of (port p.publication))
pub_asks p (pub_closes c cs) = ask_to_close c

-- `[mult channel]`
abbrev pub channel_of_pair : Tree → Option ℕ
channel_of_pair (vector (item (port m) (item (port c) none))) = Some c
channel_of_pair v = None

-- a value whose topic nobody has is dropped
abbrev pub pub_next : Tree → PubState → Next PubState
pub_next a pub_takes = cond (is_nil a) (to pub_reads_last) (to (pub_sorts a))
pub_next a (pub_sorts v) = to (pub_sorts v)
pub_next a (pub_finds topic v) = cond (is_nil a) (to pub_takes) (needing (channel_of_pair a) (λ c. to (pub_puts c v)))
pub_next a (pub_puts c v) = to pub_takes
pub_next a pub_reads_last = needing (ports_in a) (closes_due pub_closes)
pub_next a (pub_closes c cs) = closes_due pub_closes cs

-- where the topic is made
abbrev pub sorted_by : Tree → Returned → Next PubState
sorted_by v (Ok topic) = to (pub_finds topic v)
sorted_by v (Err f) = fail f
