-- What becomes of one branch: a function of its channel and of the fronts of its two queues.
-- (core.async API reference: `>!`, `<!`, `close!`, `offer!`, `poll!`.)
use Rattle.std.specs.Prelude.{List, [], ◌∷◌, Option, Some, None, Bool, true, false, ◌&&◌, cond}
use Rattle.ca_value.specs.Tree.{Tree, nil, bool}
use Rattle.ca_term.specs.declared.event.Side.{Side}
use Rattle.ca_term.specs.declared.event.Side.TheVariants.{Take, Put}
use Rattle.ca_term.specs.Event.{BranchView, take_of, put_of}
use Rattle.ca_meaning.specs.Channel.{Channel, has_room, keeping, giving, is_promise, is_fixed}
use Rattle.ca_meaning.specs.Wait.{Handler}

pub data Row : Type 0 where
  not_ready : Row
  -- it is done at once, with this answer, and leaves the channel so
  completes : Tree → Channel → Row
  -- it meets a waiting branch of the other side, and this value passes
  meets : Handler → Tree → Row

-- a put where nobody takes: it needs room, and no other put may wait
abbrev pub put_alone : Channel → Bool → Option Handler → Tree → Row
put_alone c false putter v = not_ready
put_alone c true None v = completes (bool true) (keeping c v)
put_alone c true (Some h) v = not_ready

abbrev pub put_open : Channel → Option Handler → Option Handler → Tree → Row
put_open c (Some h) putter v = meets h v
put_open c None putter v = put_alone c (has_room c) putter v

-- a put: a closed channel refuses it, a promise accepts it, a waiting taker gets it, a buffer keeps it
abbrev pub put_row : Channel → Option Handler → Option Handler → Tree → Row
put_row c taker putter v = cond c.closed (completes (bool false) c) (cond (is_promise c.policy) (completes (bool true) (keeping c v)) (put_open c taker putter v))

-- a take where nothing is held
abbrev pub take_empty : Channel → Option Handler → Row
take_empty c (Some h) = meets h h.value
take_empty c None = cond c.closed (completes nil c) not_ready

abbrev pub take_of_held : Channel → List Tree → Option Handler → Row
take_of_held c (v ∷ vs) putter = completes v (giving c)
take_of_held c [] putter = take_empty c putter

-- a take: the first value that is held, else that of the first waiting put, else nil once it is closed
abbrev pub take_row : Channel → Option Handler → Row
take_row c putter = take_of_held c c.held putter

abbrev pub row_on : Channel → Option Handler → Option Handler → BranchView → Row
row_on c taker putter (take_of p) = take_row c putter
row_on c taker putter (put_of p v) = put_row c taker putter v

abbrev pub row_at : Option Channel → Option Handler → Option Handler → BranchView → Row
row_at None taker putter b = not_ready
row_at (Some c) taker putter b = row_on c taker putter b

-- what a channel settles by itself
pub data Settling : Type 0 where
  unsettled : Settling
  -- the side and the handler that it serves, the value, and the channel afterwards
  settles : Side → Handler → Tree → Channel → Settling

-- a taker gets the first value that is held, and nil once the channel is closed and holds none
abbrev pub settle_take : Channel → List Tree → Option Handler → Settling
settle_take c vs None = unsettled
settle_take c (v ∷ vs) (Some h) = settles Take h v (giving c)
settle_take c [] (Some h) = cond c.closed (settles Take h nil c) unsettled

abbrev pub settle_put : Channel → Bool → Option Handler → Option Handler → Settling
settle_put c true taker (Some h) = settles Put h h.value (keeping c h.value)
settle_put c true taker None = settle_take c c.held taker
settle_put c false taker putter = settle_take c c.held taker

-- a put that waits moves into a fixed buffer with room; else a taker is served
abbrev pub settle_row : Channel → Option Handler → Option Handler → Settling
settle_row c taker putter = settle_put c (is_fixed c.policy && has_room c) taker putter
