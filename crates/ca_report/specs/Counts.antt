-- What a journal tells of a channel in numbers: how many values it accepted, passed on, gave and dropped.
use Rattle.std.specs.Prelude.{ℕ, ◌-◌, List, Bool, true, false, cond, length}
use Rattle.ca_term.specs.Event.{EventView}
use Rattle.ca_meaning.specs.Channel.{Channel, is_promise}
use Rattle.ca_meaning.specs.History.{Mark, accept, give, pass, mark_on, count}

abbrev pub is_accept : Mark → Bool
is_accept (accept v) = true
is_accept m = false

abbrev pub is_pass : Mark → Bool
is_pass (pass v) = true
is_pass m = false

abbrev pub is_give : Mark → Bool
is_give (give v) = true
is_give m = false

-- how many of the events accept a value, to be held by channel p
abbrev pub accepted : ℕ → List EventView → ℕ
accepted p journal = count (λ e. is_accept (mark_on p e)) journal

-- how many pass one from a put to a take at channel p
abbrev pub passed : ℕ → List EventView → ℕ
passed p journal = count (λ e. is_pass (mark_on p e)) journal

-- how many give one out of what channel p holds
abbrev pub given_out : ℕ → List EventView → ℕ
given_out p journal = count (λ e. is_give (mark_on p e)) journal

-- what was accepted and is neither given nor held; what a promise gives it holds as before
abbrev pub lost : Bool → ℕ → ℕ → ℕ → ℕ
lost promise accepted given held = cond promise (accepted - held) (accepted - given - held)

-- how many values channel p, which is c after the journal, dropped
abbrev pub dropped : List EventView → ℕ → Channel → ℕ
dropped journal p c = lost (is_promise c.policy) (accepted p journal) (given_out p journal) (length c.held)
