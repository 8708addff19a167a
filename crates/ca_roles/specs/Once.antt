-- How often a term can still start the task that uses a hidden port alone, and texts in which each name stands for
-- such a port at most once.
use Rattle.std.specs.Prelude.{ℕ, ◌+◌, ◌≤◌, All, Option, Some, None, Bool, true, false, cond, ◌==◌}
use Rattle.ca_value.specs.Tree.{Tree, port}
use Rattle.ca_term.specs.declared.head.Head.{Head}
use Rattle.ca_term.specs.declared.head.Head.TheVariants.{Spawn}
use Rattle.ca_term.specs.declared.head.SeedKind.TheVariants.{System}
use Rattle.ca_term.specs.declared.head.SystemTask.TheVariants.{Mult, Feed, Collect}
use Rattle.ca_term.specs.Kernel.{Kernel, Kernels, Bindings, const, var, branch, bind, loop, seq, frame, turn, apply, none, item, empty, binding}
use Rattle.ca_term.specs.Program.{ProcedureView, ProgramView}

-- the tasks of which there is one alone for a port: the feed and the collect of a queue of replies, and the mult of a
-- channel of answers
pub data User : Type 0 where
  the_feed : User
  the_collect : User
  the_mult : User

-- the one that the form starts
abbrev pub user_of : Head → Option User
user_of (Spawn (System Feed)) = Some the_feed
user_of (Spawn (System Collect)) = Some the_collect
user_of (Spawn (System Mult)) = Some the_mult
user_of h = None

abbrev pub is_user : User → Option User → Bool
is_user the_feed (Some the_feed) = true
is_user the_collect (Some the_collect) = true
is_user the_mult (Some the_mult) = true
is_user k o = false

-- of ports, or of names
abbrev pub Test : Type 0
Test = ℕ → Bool

abbrev pub no_names : Test
no_names n = false

-- the same, with the answer for n
abbrev pub known : Test → ℕ → Bool → Test
known N n b m = cond (m == n) b (N m)

abbrev pub only : ℕ → Test
only n = known no_names n true

-- a value that is one of the ports
abbrev pub is_in : Test → Tree → Bool
is_in P (port n) = P n
is_in P v = false

-- the port itself, or a name of it
abbrev pub stands_for_port : Test → Test → Kernel → Bool
stands_for_port P N (const v) = is_in P v
stands_for_port P N (var n) = N n
stands_for_port P N t = false

abbrev pub holds_of_first : (Kernel → Bool) → Kernels → Bool
holds_of_first f none = false
holds_of_first f (item t ts) = f t

abbrev pub behind_first : (Kernels → Bool) → Kernels → Bool
behind_first f none = false
behind_first f (item t ts) = f ts

-- the port that it uses alone is a feed's and a mult's third operand, and a collect's first
abbrev pub own_operand : User → (Kernel → Bool) → Kernels → Bool
own_operand the_feed f ts = behind_first (behind_first (holds_of_first f)) ts
own_operand the_collect f ts = holds_of_first f ts
own_operand the_mult f ts = behind_first (behind_first (holds_of_first f)) ts

abbrev pub one_if : Bool → ℕ
one_if b = cond b 1 0

abbrev pub node : User → Test → Test → Head → Kernels → ℕ
node k P N h ts = cond (is_user k (user_of h)) (one_if (own_operand k (stands_for_port P N) ts)) 0

-- How many places of the term start such a task with one of the ports P, or with one of the names N or a name that is
-- bound to one. A loop's text counts twice, since it may run again.
abbrev mutual
  pub use_count : User → Test → Kernel → Test → ℕ
  use_count k P (const v) N = 0
  use_count k P (var n) N = 0
  use_count k P (branch c a b) N = use_count k P c N + use_count k P a N + use_count k P b N
  use_count k P (bind bs body) N = uses_behind k P bs N (use_count k P body)
  use_count k P (loop fs bs body) N = uses_behind k P bs N (λ (M : Test). use_count k P body M + use_count k P body M)
  use_count k P (seq ts) N = uses_all k P ts N
  use_count k P (frame body) N = use_count k P body no_names
  use_count k P (turn ns again now) N = use_count k P again no_names + use_count k P again no_names + use_count k P now no_names
  use_count k P (apply h ts p) N = node k P N h ts + uses_all k P ts N

  pub uses_all : User → Test → Kernels → Test → ℕ
  uses_all k P none N = 0
  uses_all k P (item t ts) N = use_count k P t N + uses_all k P ts N

  -- in the bindings, and in what stands behind them
  pub uses_behind : User → Test → Bindings → Test → (Test → ℕ) → ℕ
  uses_behind k P empty N K = K N
  uses_behind k P (binding n t bs) N K = use_count k P t N + uses_behind k P bs (known N n (stands_for_port P N t)) K

abbrev pub no_ports : Test
no_ports p = false

-- a name that these bindings and this text use at most once for each of the tasks
abbrev pub IsUsedOnce : ℕ → Bindings → Kernel → Type 0
IsUsedOnce n bs body = (k : User) → uses_behind k no_ports bs (only n) (use_count k no_ports body) ≤ 1

-- each name of each `let` in the term is used at most once
abbrev mutual
  pub UsesOnce : Kernel → Type 0
  UsesOnce (const v) = Unit {0}
  UsesOnce (var n) = Unit {0}
  UsesOnce (branch c a b) = UsesOnce c × UsesOnce a × UsesOnce b
  UsesOnce (bind bs body) = BindOnce bs body × UsesOnce body
  UsesOnce (loop fs bs body) = InitsOnce bs × UsesOnce body
  UsesOnce (seq ts) = AllOnce ts
  UsesOnce (frame body) = UsesOnce body
  UsesOnce (turn ns again now) = UsesOnce again × UsesOnce now
  UsesOnce (apply h ts p) = AllOnce ts

  pub AllOnce : Kernels → Type 0
  AllOnce none = Unit {0}
  AllOnce (item t ts) = UsesOnce t × AllOnce ts

  pub BindOnce : Bindings → Kernel → Type 0
  BindOnce empty body = Unit {0}
  BindOnce (binding n t bs) body = IsUsedOnce n bs body × UsesOnce t × BindOnce bs body

  pub InitsOnce : Bindings → Type 0
  InitsOnce empty = Unit {0}
  InitsOnce (binding n t bs) = UsesOnce t × InitsOnce bs

abbrev pub IsOnceProcedure : ProcedureView → Type 0
IsOnceProcedure t = UsesOnce t.body

-- the same of a whole program
pub record StartsOnce (program : ProgramView) : Type 0 where
  pub functions : All IsOnceProcedure program.functions
  pub bodies : All IsOnceProcedure program.bodies
  pub main : UsesOnce program.main
