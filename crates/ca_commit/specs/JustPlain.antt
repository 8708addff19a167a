-- A take or a put of one branch is drawn with nothing beside what its line names.
use Rattle.std.specs.Prelude.{◌≡◌, ℕ, [], ◌∷◌, Option, true, length, nat_lt}
use Rattle.ca_value.specs.Tree.{Tree}
use Rattle.ca_term.specs.declared.event.Side.{Side}
use Rattle.ca_term.specs.Event.{done, met, parked, posted}
use Rattle.ca_term.specs.Operation.{OpView}
use Rattle.ca_meaning.specs.Choice.{branches_of}
use Rattle.ca_meaning.specs.Wait.{port_of, side_of}
use Rattle.ca_bank.specs.Kept.{queue_at}
use Rattle.ca_commit.specs.Contents.{Kept, Parts, whole}
use Rattle.ca_commit.specs.Finding.{Glance, find_at, unready}
use Rattle.ca_commit.specs.InPlace.{IsPlainOperation}
use Rattle.ca_commit.specs.Just.{TouchesJust}
use Rattle.ca_commit.specs.Standing.{nth_branch}
use Rattle.ca_commit.specs.Touched.{Drawn}

-- by what was seen of its channel, where the queue that it joins is short and its channel has no room behind which it waits
abbrev pub PlainJust : Type 0 → Type 0
PlainJust A = (d : Drawn) (old : Parts A) (kept : ℕ → Option Kept) (op : OpView) → d.ports ≡ [] → d.looked ≡ [] → IsPlainOperation kept op
    → whole old.bank (port_of (nth_branch (branches_of op) 0)) ≡ kept (port_of (nth_branch (branches_of op) 0))
    → ((t : ℕ) (v : Tree) → TouchesJust d op (done t 0 (nth_branch (branches_of op) 0) v) old)
    × ((t wait o : ℕ) (side : Side) (v : Tree) → TouchesJust d op (met t 0 side (port_of (nth_branch (branches_of op) 0)) v wait o) old)
    × (((see : ℕ → Glance) → unready ≡ find_at see (kept (port_of (nth_branch (branches_of op) 0))) (nth_branch (branches_of op) 0))
    → nat_lt (length (queue_at (side_of (nth_branch (branches_of op) 0)) (kept (port_of (nth_branch (branches_of op) 0))))) 1024 ≡ true
    → ((t wait : ℕ) → TouchesJust d op (parked t wait (nth_branch (branches_of op) 0 ∷ [])) old) × ((t wait : ℕ) (v : Tree) → TouchesJust d op (posted t wait (port_of (nth_branch (branches_of op) 0)) v) old))
