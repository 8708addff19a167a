-- The channel law: what each channel did, read off a journal. (core.async API reference: `chan`, `>!`,
-- `<!`, `close!`: values are given in the order in which they were accepted, none is given twice or
-- made up, and a closed channel still gives what it holds.)
use Rattle.std.specs.Prelude.{◌≡◌, ◌⊎◌, ℕ, List, [], ◌∷◌, ◌++◌, Some, true, false}
use Rattle.ca_value.specs.Tree.{Tree}
use Rattle.ca_term.specs.Event.{EventView, put_of}
use Rattle.ca_meaning.specs.Channel.{Channel}
use Rattle.ca_meaning.specs.Sound.{ChannelFits}
use Rattle.ca_meaning.specs.History.{accept, give, give_none, pass, mark_on, channel_in, MakesBranch, completed_by}

-- the events before this one tell that channel p is c
abbrev pub TellsChannel : List EventView → ℕ → Channel → Type 0
TellsChannel before p c = channel_in p before ≡ Some c

-- the value comes from a put that waits since a moment when the channel was open
abbrev pub OfferedWhileOpen : List EventView → ℕ → EventView → Tree → Type 0
OfferedWhileOpen before p e v =
    (w k : ℕ) × (completed_by e ≡ Some (w, k, put_of p v))
    × ((early : List EventView) × (offer : EventView) × (late : List EventView) × (before ≡ early ++ offer ∷ late)
    × MakesBranch w k (put_of p v) offer × ((c : Channel) × TellsChannel early p c × (c.closed ≡ false)))

-- of one event, after those before it
pub record KeepsOrder (p : ℕ) (before : List EventView) (e : EventView) : Type 0 where
  -- a value that is given is the first that is held
  pub gives : (v : Tree) → mark_on p e ≡ give v → (c : Channel) × (vs : List Tree) × TellsChannel before p c × (c.held ≡ v ∷ vs)
  -- a value passes only where nothing is held
  pub passes : (v : Tree) → mark_on p e ≡ pass v → (c : Channel) × TellsChannel before p c × (c.held ≡ [])
  -- a take gets nil only after the channel closed and where nothing is held
  pub ends : mark_on p e ≡ give_none → (c : Channel) × TellsChannel before p c × (c.closed ≡ true) × (c.held ≡ [])
  -- after the channel closed only a put that waited before is accepted, or passes
  pub late : (v : Tree) (c : Channel) → (mark_on p e ≡ accept v) ⊎ (mark_on p e ≡ pass v) → TellsChannel before p c → c.closed ≡ true → OfferedWhileOpen before p e v

pub record ChannelLaw (journal : List EventView) : Type 0 where
  -- no channel ever holds more than its capacity
  pub fits : (p : ℕ) (before after : List EventView) (c : Channel) → journal ≡ before ++ after → TellsChannel before p c → ChannelFits c
  pub order : (p : ℕ) (before after : List EventView) (e : EventView) → journal ≡ before ++ e ∷ after → KeepsOrder p before e
