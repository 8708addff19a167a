-- The events of channels: how each leads from a state to a state. (core.async API reference: `>!`,
-- `<!`, `alts!`, `put!`, `offer!`, `poll!`, `close!`.)
use Rattle.std.specs.Prelude.{◌≡◌, ℕ, List, [], ◌∷◌, ◌++◌, Some, None, true, false, codes}
use Rattle.std.specs.Map.{update}
use Rattle.std.proofs.Math.Dec.{eqb}
use Rattle.ca_value.specs.Tree.{Tree, nil, bool, key, vector, port, none, item}
use Rattle.ca_term.specs.declared.event.Side.{Side}
use Rattle.ca_term.specs.declared.event.Side.TheVariants.{Take, Put}
use Rattle.ca_term.specs.Operation.{OpView, posting, closing}
use Rattle.ca_term.specs.Event.{BranchView, put_of}
use Rattle.ca_term.specs.Program.{ProgramView}
use Rattle.ca_meaning.specs.Channel.{Channel}
use Rattle.ca_meaning.specs.Wait.{Handler, side_of, port_of, front, without, owner_of, told, is_among}
use Rattle.ca_meaning.specs.Row.{completes, meets, settles, settle_row}
use Rattle.ca_meaning.specs.Task.{body_reply}
use Rattle.ca_meaning.specs.State.{State, Task, Tasks, waiting, shut_at}
use Rattle.ca_meaning.specs.Choice.{branches_of, default_of, parks, row, NoneReady, Picks}
use Rattle.ca_meaning.specs.Going.{RunsAtOperation, Goes, Wakes}

abbrev pub other_side : Side → Side
other_side Take = Put
other_side Put = Take

-- branch k of task t's operation, which is b, is done at once with the answer a
abbrev pub DoneStep : ProgramView → State → ℕ → ℕ → BranchView → Tree → State → Type 0
DoneStep program s t k b a s2 =
    (x : Task) × (op : OpView) × (tasks : Tasks) × (after : Channel)
    × RunsAtOperation s t op x
    × Picks s op k b
    × (row s b ≡ completes a after)
    × Goes program s.tasks t x (body_reply x.body (port_of b) a) tasks
    × (s2 ≡ record s { tasks = tasks; channels = update eqb s.channels (port_of b) (Some after) })

-- branch k of task t's operation, on this side of channel p, meets the first wait of the other side at
-- its first branch there, which is branch o of wait w; the value v passes; both go on
abbrev pub MeetStep : ProgramView → State → ℕ → ℕ → Side → ℕ → Tree → ℕ → ℕ → State → Type 0
MeetStep program s t k side p v w o s2 =
    (x : Task) × (op : OpView) × (b : BranchView) × (h : Handler) × (tasks woken : Tasks)
    × RunsAtOperation s t op x
    × Picks s op k b
    × (side_of b ≡ side)
    × (port_of b ≡ p)
    × (row s b ≡ meets h v)
    × (h.wait ≡ w)
    × (h.branch ≡ o)
    × Goes program s.tasks t x (body_reply x.body p (told side v)) tasks
    × Wakes program (owner_of w s.waits) tasks w p (told (other_side side) v) woken
    × (s2 ≡ record s { tasks = woken; waits = without w s.waits })

-- nothing is ready and there is no default: task t waits on the new wait w of all its branches
abbrev pub ParkStep : State → ℕ → ℕ → List BranchView → State → Type 0
ParkStep s t w bs s2 =
    (x : Task) × (op : OpView)
    × RunsAtOperation s t op x
    × (parks op ≡ true)
    × (branches_of op ≡ bs)
    × (default_of op ≡ None)
    × NoneReady s bs
    × (is_among w s.used ≡ false)
    × (s2 ≡ record s {
      tasks = update eqb s.tasks t (Some (record x { mode = waiting w }));
      waits = s.waits ++ record { number = w; owner = Some t; branches = bs } ∷ [];
      used = w ∷ s.used;
    })

-- a put that isn't ready waits without its task, which gets true
abbrev pub PostStep : ProgramView → State → ℕ → ℕ → ℕ → Tree → State → Type 0
PostStep program s t w p v s2 =
    (x : Task) × (tasks : Tasks)
    × RunsAtOperation s t (posting (port p) v) x
    × NoneReady s (put_of p v ∷ [])
    × (is_among w s.used ≡ false)
    × Goes program s.tasks t x (bool true) tasks
    × (s2 ≡ record s {
      tasks = tasks;
      waits = s.waits ++ record { number = w; owner = None; branches = put_of p v ∷ [] } ∷ [];
      used = w ∷ s.used;
    })

-- channel p serves the branch k of wait w, on this side, with the value v; its owner goes on
abbrev pub SettleStep : ProgramView → State → ℕ → ℕ → Side → ℕ → Tree → State → Type 0
SettleStep program s w k side p v s2 =
    (c after : Channel) × (h : Handler) × (woken : Tasks)
    × (s.channels p ≡ Some c)
    × (settle_row c (front Take p s.waits) (front Put p s.waits) ≡ settles side h v after)
    × (h.wait ≡ w)
    × (h.branch ≡ k)
    × Wakes program (owner_of w s.waits) s.tasks w p (told side v) woken
    × (s2 ≡ record s { tasks = woken; channels = update eqb s.channels p (Some after); waits = without w s.waits })

-- `[v :default]`
abbrev pub with_default : Tree → Tree
with_default v = vector (item v (item (key (codes "default")) none))

-- nothing is ready, and task t takes its default
abbrev pub DefaultStep : ProgramView → State → ℕ → Tree → State → Type 0
DefaultStep program s t v s2 =
    (x : Task) × (op : OpView) × (tasks : Tasks)
    × RunsAtOperation s t op x
    × (default_of op ≡ Some v)
    × NoneReady s (branches_of op)
    × Goes program s.tasks t x (with_default v) tasks
    × (s2 ≡ record s { tasks = tasks })

-- task t closes channel p
abbrev pub CloseStep : ProgramView → State → ℕ → ℕ → State → Type 0
CloseStep program s t p s2 =
    (x : Task) × (tasks : Tasks)
    × RunsAtOperation s t (closing (port p)) x
    × Goes program s.tasks t x nil tasks
    × (s2 ≡ record s { tasks = tasks; channels = shut_at p s.channels })
