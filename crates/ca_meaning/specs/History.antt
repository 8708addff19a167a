-- What a journal tells of a channel and of a wait, without any state.
use Rattle.std.specs.Prelude.{◌≡◌, ℕ, List, [], ◌∷◌, slice_get, Option, Some, None, option_map, Bool, true, false, cond, eqb}
use Rattle.ca_value.specs.Tree.{Tree}
use Rattle.ca_term.specs.declared.event.Side.{Side}
use Rattle.ca_term.specs.declared.event.Side.TheVariants.{Take, Put}
use Rattle.ca_term.specs.declared.event.Ending.TheVariants.{Faulted}
use Rattle.ca_term.specs.Event.{BranchView, take_of, put_of, EventView, made, done, met, parked, posted, settled, closed, ticked, over, port_number}
use Rattle.ca_meaning.specs.Operands.{is_nil, truth}
use Rattle.ca_meaning.specs.Channel.{Channel, channel_made, keeping, giving, shut}
use Rattle.ca_meaning.specs.Wait.{port_of}
use Rattle.ca_meaning.specs.ChannelSteps.{other_side}

-- what an event does to what a channel holds
pub data Mark : Type 0 where
  -- the value is accepted, to be held
  accept : Tree → Mark
  -- the value is given out of what is held
  give : Tree → Mark
  -- a take gets nil
  give_none : Mark
  -- the value passes from a put to a take and is never held
  pass : Tree → Mark
  no_mark : Mark

abbrev pub mark_of_take : Tree → Mark
mark_of_take a = cond (is_nil a) give_none (give a)

abbrev pub mark_of_put : Tree → Tree → Mark
mark_of_put v a = cond (truth a) (accept v) no_mark

abbrev pub mark_of_done : BranchView → Tree → Mark
mark_of_done (take_of p) a = mark_of_take a
mark_of_done (put_of p v) a = mark_of_put v a

abbrev pub mark_of_settled : Side → Tree → Mark
mark_of_settled Take v = mark_of_take v
mark_of_settled Put v = accept v

-- the mark of an event on channel p
abbrev pub mark_on : ℕ → EventView → Mark
mark_on p (done t k b a) = cond (eqb (port_of b) p) (mark_of_done b a) no_mark
mark_on p (met t k side q v w o) = cond (eqb q p) (pass v) no_mark
mark_on p (settled w k side q v) = cond (eqb q p) (mark_of_settled side v) no_mark
mark_on p e = no_mark

abbrev pub marked : Mark → Channel → Channel
marked (accept v) c = keeping c v
marked (give v) c = giving c
marked give_none c = c
marked (pass v) c = c
marked no_mark c = c

abbrev pub is_named : ℕ → List ℕ → Bool
is_named p [] = false
is_named p (q ∷ qs) = cond (eqb q p) true (is_named p qs)

abbrev pub is_result : ℕ → Option ℕ → Bool
is_result p None = false
is_result p (Some q) = eqb q p

-- the event closes channel p
abbrev pub closes : ℕ → EventView → Bool
closes p (closed t q) = eqb q p
closes p (ticked m ports) = is_named p ports
closes p (over t (Faulted fault place result)) = is_result p (option_map port_number result)
closes p e = false

abbrev pub shut_if : Bool → Channel → Channel
shut_if b c = cond b (shut c) c

-- channel p after the event
abbrev pub channel_after : ℕ → EventView → Option Channel → Option Channel
channel_after p (made t q what moment) o = cond (eqb q p) (channel_made what) o
channel_after p e o = option_map (λ c. shut_if (closes p e) (marked (mark_on p e) c)) o

-- channel p after the events, where it was this one before
abbrev pub channel_from : ℕ → Option Channel → List EventView → Option Channel
channel_from p o [] = o
channel_from p o (e ∷ es) = channel_from p (channel_after p e o) es

-- what the journal tells of channel p: its policy and capacity by its Make, what it holds by the marks,
-- and whether it is closed
abbrev pub channel_in : ℕ → List EventView → Option Channel
channel_in p journal = channel_from p None journal

-- the branch of that side
abbrev pub branch_on : Side → ℕ → Tree → BranchView
branch_on Take p v = take_of p
branch_on Put p v = put_of p v

-- the event makes the wait w, whose branch k is b
abbrev pub MakesBranch : ℕ → ℕ → BranchView → EventView → Type 0
MakesBranch w k b (parked t x bs) = (x ≡ w) × (slice_get bs k ≡ Some b)
MakesBranch w k b (posted t x p v) = (x ≡ w) × (k ≡ 0) × (b ≡ put_of p v)
MakesBranch w k b e = ⊥

-- the wait that the event completes, with the branch's number and the branch
abbrev pub completed_by : EventView → Option (ℕ × ℕ × BranchView)
completed_by (met t j side p v w k) = Some (w, k, branch_on (other_side side) p v)
completed_by (settled w k side p v) = Some (w, k, branch_on side p v)
completed_by e = None

abbrev pub completes_wait : ℕ → EventView → Bool
completes_wait w (met t j side p v x k) = eqb w x
completes_wait w (settled x k side p v) = eqb w x
completes_wait w e = false

abbrev pub makes : ℕ → EventView → Bool
makes w (parked t x bs) = eqb w x
makes w (posted t x p v) = eqb w x
makes w e = false

-- how many of the events pass
abbrev pub count : (EventView → Bool) → List EventView → ℕ
count test [] = 0
count test (e ∷ es) = cond (test e) (ℕ.suc (count test es)) (count test es)
