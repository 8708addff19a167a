-- Waits in order of arrival, and the queue of one side of one channel. (core.async API reference:
-- `>!`, `<!`, `put!`, `alts!`.)
use Rattle.std.specs.Prelude.{ℕ, suc, List, [], ◌∷◌, ◌++◌, Option, Some, None, Bool, true, false, not, eqb, cond, filter}
use Rattle.ca_value.specs.Tree.{Tree, nil, bool}
use Rattle.ca_term.specs.declared.event.Side.{Side}
use Rattle.ca_term.specs.declared.event.Side.TheVariants.{Take, Put}
use Rattle.ca_term.specs.Event.{BranchView, take_of, put_of}

abbrev pub side_of : BranchView → Side
side_of (take_of p) = Take
side_of (put_of p v) = Put

abbrev pub port_of : BranchView → ℕ
port_of (take_of p) = p
port_of (put_of p v) = p

-- the value that a branch brings; a take brings none
abbrev pub brought : BranchView → Tree
brought (take_of p) = nil
brought (put_of p v) = v

-- one wait of all its branches, which a task or nobody waits on
pub record Wait : Type 0 where
  pub number : ℕ
  pub owner : Option ℕ
  pub branches : List BranchView

-- a branch as it stands in a queue: its wait, its number there, and the value that it brings
pub record Handler : Type 0 where
  pub wait : ℕ
  pub branch : ℕ
  pub value : Tree

-- the branch stands on this side of the channel
abbrev pub is_on : Side → ℕ → BranchView → Bool
is_on Take p (take_of q) = eqb p q
is_on Take p (put_of q v) = false
is_on Put p (take_of q) = false
is_on Put p (put_of q v) = eqb p q

-- the handlers on this side of channel p of the wait w, whose branches are numbered from k on
abbrev pub handlers : Side → ℕ → ℕ → ℕ → List BranchView → List Handler
handlers side p w k [] = []
handlers side p w k (b ∷ bs) = cond (is_on side p b) (record { wait = w; branch = k; value = brought b } ∷ handlers side p w (suc k) bs) (handlers side p w (suc k) bs)

-- the queue of one side of a channel: the handlers there, wait by wait in order of arrival
abbrev pub queue : Side → ℕ → List Wait → List Handler
queue side p [] = []
queue side p (x ∷ xs) = handlers side p x.number 0 x.branches ++ queue side p xs

abbrev pub head : {A : Type 0} → List A → Option A
head [] = None
head (x ∷ xs) = Some x

-- the first such wait at its first such branch
abbrev pub front : Side → ℕ → List Wait → Option Handler
front side p ws = head (queue side p ws)

-- the list after the wait w was completed: all its branches are gone at once
abbrev pub without : ℕ → List Wait → List Wait
without w ws = filter (λ x. not (eqb w x.number)) ws

abbrev pub is_live : ℕ → List Wait → Bool
is_live w [] = false
is_live w (x ∷ xs) = cond (eqb w x.number) true (is_live w xs)

abbrev pub owner_of : ℕ → List Wait → Option ℕ
owner_of w [] = None
owner_of w (x ∷ xs) = cond (eqb w x.number) x.owner (owner_of w xs)

-- some branch stands on this side of the channel
abbrev pub joins : Side → ℕ → List BranchView → Bool
joins side p [] = false
joins side p (b ∷ bs) = cond (is_on side p b) true (joins side p bs)

-- how many waits stand on this side of the channel; each counts once
abbrev pub pending : Side → ℕ → List Wait → ℕ
pending side p [] = 0
pending side p (x ∷ xs) = cond (joins side p x.branches) (suc (pending side p xs)) (pending side p xs)

-- what a side is told when a value passes: a take gets it, a put gets true
abbrev pub told : Side → Tree → Tree
told Take v = v
told Put v = bool true

abbrev pub is_among : ℕ → List ℕ → Bool
is_among n [] = false
is_among n (m ∷ ms) = cond (eqb n m) true (is_among n ms)
