-- A turn of a lone worker, with the contents of what it touches before and after it.
use Rattle.std.specs.Prelude.{◌≡◌, ℕ, ◌<◌, ◌≤◌, List, [], ◌∷◌, Option, Some, None}
use Rattle.ca_value.specs.Tree.{Tree}
use Rattle.ca_term.specs.Operation.{SeedView}
use Rattle.ca_term.specs.Program.{ProgramView}
use Rattle.ca_meaning.specs.Body.{At}
use Rattle.ca_meaning.specs.State.{Deadline}
use Rattle.ca_commit.specs.Agents.{TaskAgent}
use Rattle.ca_commit.specs.Contents.{Content}
use Rattle.ca_commit.specs.Moving.{Moves}
use Rattle.ca_commit.specs.Planning.{Planned, to_do, to_meet, to_park, to_post, to_default, to_make, to_spawn, to_close, to_register, to_print, to_look, to_prune, to_refuse}
use Rattle.ca_commit.specs.Running.{AreAt}
use Rattle.ca_commit.specs.Touched.{Drawn, Turn, touches}

module _ {A : Type 0} (place : A → At) (advances : ProgramView → A → A → Type 0) (gives : A → Tree → A → Type 0) (starts : ProgramView → SeedView → A → Type 0) where
  -- the only worker draws it, over the contents now
  pub record IsOwnTurn (what : Turn) (now : ℕ → Option (Content (TaskAgent A))) (d : Drawn) (before after : List (Content (TaskAgent A))) : Type 0 where
    pub is : d.what ≡ what
    pub one : d.workers ≡ 1
    pub found : AreAt now (touches d) before
    pub moves : Moves place advances gives starts d before after

-- the clock's answer was before the first deadline
abbrev pub IsEarly : List Deadline → ℕ → Type 0
IsEarly [] m = ⊥
IsEarly (d ∷ ds) m = m < d.moment

-- .. or it wasn't
abbrev pub IsDue : List Deadline → ℕ → Type 0
IsDue [] m = ⊥
IsDue (d ∷ ds) m = d.moment ≤ m

-- the branch that a plan takes, if it takes one
abbrev pub branch_taken : Planned → Option ℕ
branch_taken (to_do k b alts) = Some k
branch_taken (to_meet k b alts w o) = Some k
branch_taken (to_park bs) = None
branch_taken (to_post bs) = None
branch_taken (to_default v) = None
branch_taken (to_make what) = None
branch_taken (to_spawn kind r) = None
branch_taken (to_close p) = None
branch_taken (to_register name args) = None
branch_taken (to_print line) = None
branch_taken (to_look w) = None
branch_taken (to_prune p side place) = None
branch_taken (to_refuse f) = None
