-- What a task is answered, and what a branch that is done at once does to its channel.
use Rattle.std.specs.Prelude.{◌≡◌, ℕ, ◌+◌, ◌<◌, Option, Some, None, Bool, true, false, not, cond}
use Rattle.ca_value.specs.Tree.{Tree, bool, item, nil, none, port, vector}
use Rattle.ca_term.specs.Event.{BranchView, put_of, take_of}
use Rattle.ca_meaning.specs.Wait.{head}
use Rattle.ca_bank.specs.Kept.{Spares, added, buffer_spare, is_closed_at, removed, takes_one_more}
use Rattle.ca_commit.specs.Agents.{TaskAgent}
use Rattle.ca_commit.specs.Contents.{Kept}
use Rattle.ca_commit.specs.Finding.{held_at}

-- of an alts the port comes with the value
abbrev pub reply_by : Bool → ℕ → Tree → Tree
reply_by true p v = vector (item v (item (port p) none))
reply_by false p v = v

abbrev pub or_nil : Option Tree → Tree
or_nil None = nil
or_nil (Some v) = v

-- a take gets the first value that is held, or nil; a put is told whether the channel was open
abbrev pub done_answer : Option Kept → BranchView → Tree
done_answer o (take_of p) = or_nil (head (held_at o))
done_answer o (put_of p v) = bool (not (is_closed_at o))

abbrev pub done_change : BranchView → Kept → Kept
done_change (take_of p) k = removed k
done_change (put_of p v) k = cond k.channel.closed k (added v k)

-- the room that a put into an open channel needs
abbrev pub HasDoneRoom : Option Kept → Option Spares → BranchView → Type 0
HasDoneRoom o x (take_of p) = Unit {0}
HasDoneRoom o x (put_of p v) = is_closed_at o ≡ false → (takes_one_more o ≡ true) × (0 < buffer_spare x)

abbrev pub counted_alts : Bool → ℕ → ℕ
counted_alts true n = n + 1
counted_alts false n = n

-- the task's agent got the answer, and an alts is counted
abbrev pub GoesOn : {A : Type 0} → (A → Tree → A → Type 0) → Bool → TaskAgent A → Tree → TaskAgent A → Type 0
GoesOn gives alts a v c = (c.result ≡ a.result) × (c.alts ≡ counted_alts alts a.alts) × gives a.agent v c.agent
