-- A mult, and the task that delivers one value to one tap. (core.async API reference: `mult`, `tap`.)
use Rattle.std.specs.Prelude.{ℕ, zero, suc, List, [], ◌∷◌, true, filter, map as each_of, cond}
use Rattle.ca_value.specs.Tree.{Tree, bool, port, item}
use Rattle.ca_term.specs.declared.head.SystemTask.{SystemTask}
use Rattle.ca_term.specs.declared.head.RegisterName.TheVariants.{Taps, Untap}
use Rattle.ca_meaning.specs.Operands.{is_nil, truth}
use Rattle.ca_meaning.specs.Registry.{TapView}
use Rattle.ca_meaning.specs.Asks.{Ask, ask_to_take, ask_to_put, ask_to_spawn, ask_to_close, ask_to_register, Next, to, stop, needing, closes_due, taps_in, one_of, two_of}

-- The mult, its source, and the channel on which each delivery answers. A value goes to all taps at once, and
-- the next is taken when all have answered.
pub record MultPorts : Type 0 where
  pub mult : ℕ
  pub source : ℕ
  pub acks : ℕ

pub data MultState : Type 0 where
  mult_takes : MultState
  -- the value
  mult_reads : Tree → MultState
  -- the value, the tap whose delivery is due, those after it, and how many stand before it
  mult_spawns : Tree → TapView → List TapView → ℕ → MultState
  -- how many more answers are due
  mult_waits : ℕ → MultState
  -- the source is closed
  mult_reads_last : MultState
  -- the tap that is closed, and those after it
  mult_closes : ℕ → List ℕ → MultState

-- an answer for each delivery, and then the next value
abbrev pub acks_due : ℕ → Next MultState
acks_due zero = to mult_takes
acks_due (suc n) = to (mult_waits n)

-- a delivery to each tap in order, and then their answers
abbrev pub spawns_due : Tree → List TapView → ℕ → Next MultState
spawns_due v [] n = acks_due n
spawns_due v (t ∷ ts) n = to (mult_spawns v t ts n)

-- the taps that close with the source, in order
abbrev pub closing_of : List TapView → List ℕ
closing_of ts = each_of (λ t. t.channel) (filter (λ t. t.closes) ts)

abbrev pub mult_asks : MultPorts → MultState → Ask
mult_asks t mult_takes = ask_to_take t.source
mult_asks t (mult_reads v) = ask_to_register Taps (one_of (port t.mult))
mult_asks t (mult_spawns v x xs n) = ask_to_spawn SystemTask.Deliver (item (port t.mult) (item (port x.channel) (two_of v (port t.acks))))
mult_asks t (mult_waits n) = ask_to_take t.acks
mult_asks t mult_reads_last = ask_to_register Taps (one_of (port t.mult))
mult_asks t (mult_closes c cs) = ask_to_close c

abbrev pub mult_next : Tree → MultState → Next MultState
mult_next a mult_takes = cond (is_nil a) (to mult_reads_last) (to (mult_reads a))
mult_next a (mult_reads v) = needing (taps_in a) (λ ts. spawns_due v ts 0)
mult_next a (mult_spawns v x xs n) = spawns_due v xs (suc n)
mult_next a (mult_waits n) = acks_due n
mult_next a mult_reads_last = needing (taps_in a) (λ ts. closes_due mult_closes (closing_of ts))
mult_next a (mult_closes c cs) = closes_due mult_closes cs

-- A delivery: the mult, the tapped channel, the value, and the channel on which it answers. A tap that is closed
-- is removed.
pub record Delivery : Type 0 where
  pub mult : ℕ
  pub channel : ℕ
  pub value : Tree
  pub acks : ℕ

pub data DeliverState : Type 0 where
  deliver_puts : DeliverState
  deliver_untaps : DeliverState
  deliver_answers : DeliverState

abbrev pub deliver_asks : Delivery → DeliverState → Ask
deliver_asks d deliver_puts = ask_to_put d.channel d.value
deliver_asks d deliver_untaps = ask_to_register Untap (two_of (port d.mult) (port d.channel))
deliver_asks d deliver_answers = ask_to_put d.acks (bool true)

abbrev pub deliver_next : Tree → DeliverState → Next DeliverState
deliver_next a deliver_puts = cond (truth a) (to deliver_answers) (to deliver_untaps)
deliver_next a deliver_untaps = to deliver_answers
deliver_next a deliver_answers = stop
