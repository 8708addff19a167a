-- What an event of an operation with branches does to a bank, a shard, a ready part and a task, each where it lies.
use Rattle.std.specs.Prelude.{◌≡◌, ℕ, ◌+◌, ◌<◌, ◌^◌, is_some, Option, None, Some, true, false, eqb}
use Rattle.std.specs.Map.{update}
use Rattle.ca_value.specs.Tree.{Tree, port}
use Rattle.ca_term.specs.Operands.{is_nil}
use Rattle.ca_term.specs.Operation.{OpView, posting, putting, taking}
use Rattle.ca_term.specs.Event.{BranchView, take_of}
use Rattle.ca_meaning.specs.Body.{At}
use Rattle.ca_meaning.specs.ChannelSteps.{other_side}
use Rattle.ca_meaning.specs.Operands.{port_of_value}
use Rattle.ca_meaning.specs.Wait.{port_of, side_of, told}
use Rattle.ca_bank.specs.Bank.{SameBank, SameRegistries, kept_at}
use Rattle.ca_bank.specs.Kept.{entry_changed}
use Rattle.ca_bank.specs.Shard.{SameShard}
use Rattle.ca_bank.specs.declared.bank.Bank.{Bank}
use Rattle.ca_bank.specs.declared.shard.Shard.{Shard}
use Rattle.ca_commit.specs.Agents.{TaskAgent}
use Rattle.ca_commit.specs.Contents.{Kept, Parked}
use Rattle.ca_commit.specs.Replies.{GoesOn, done_answer, done_change, reply_by}
use Rattle.ca_commit.specs.Showing.{waits_of}
use Rattle.ca_commit.specs.Standing.{IsAtOne, branch_no, is_alts_at}
use Rattle.ca_commit.specs.Tasks.{agent_of, tasks_in}
use Rattle.ca_commit.specs.Waking.{WakesBy, passing}
use Rattle.ca_commit.specs.declared.task.Ready.{Ready}
use Rattle.ca_commit.specs.declared.task.Task.{Task}

-- the bank's channel p changes by f, and nothing else of it
abbrev pub Turns : ℕ → (Kept → Kept) → Bank → Bank → Type 0
Turns p f old new = ((q : ℕ) → kept_at new q ≡ entry_changed (kept_at old) p f q) × SameBank old new × SameRegistries old new

-- nothing of it changes but room
abbrev pub BankRests : Bank → Bank → Type 0
BankRests old new = ((q : ℕ) → kept_at new q ≡ kept_at old q) × SameBank old new × SameRegistries old new

-- a wait of the shard becomes x, and nothing else of it changes
abbrev pub Sets : {A : Type 0} → ℕ → Option (Parked (TaskAgent A)) → Shard (Task A) → Shard (Task A) → Type 0
Sets w x old new = ((v : ℕ) → waits_of new v ≡ update eqb (waits_of old) w x v) × SameShard old new

abbrev pub RestsIn : {A : Type 0} → Shard (Task A) → Shard (Task A) → Type 0
RestsIn old new = ((v : ℕ) → waits_of new v ≡ waits_of old v) × SameShard old new

module _ {A : Type 0} (place : A → At) where
  -- an alts can be counted
  abbrev pub CanCountAlts : Task A → Type 0
  CanCountAlts t = is_alts_at (place t.agent) ≡ true → t.alts + 1 < 2 ^ 64

  -- the task of a slot stands at an operation that is no alts
  abbrev pub IsTaskAtOne : Option (Task A) → Type 0
  IsTaskAtOne None = ⊥
  IsTaskAtOne (Some t) = IsAtOne (place t.agent)

  -- its branch
  abbrev pub task_branch : Option (Task A) → BranchView
  task_branch None = take_of 0
  task_branch (Some t) = branch_no (place t.agent) 0

-- the task goes on with v, the answer of an operation that is no alts
abbrev pub GoesWithAnswer : {A : Type 0} → (A → Tree → A → Type 0) → Tree → Task A → Task A → Type 0
GoesWithAnswer gives v old new = (new.number ≡ old.number) × GoesOn gives false (agent_of old) v (agent_of new)

module _ {A : Type 0} (place : A → At) (gives : A → Tree → A → Type 0) where
  -- the task goes on with what its operation answers where v passed on channel p; an alts is counted
  abbrev pub GoesOnAnswered : ℕ → Tree → Task A → Task A → Type 0
  GoesOnAnswered p v old new = (new.number ≡ old.number) × GoesOn gives (is_alts_at (place old.agent)) (agent_of old) (reply_by (is_alts_at (place old.agent)) p v) (agent_of new)

  -- branch k of the operation at which the task stands is done at once
  abbrev pub IsBranchDone : ℕ → Bank → Bank → Task A → Task A → Type 0
  IsBranchDone k bank bank2 task task2 =
      let b = branch_no (place task.agent) k in
      Turns (port_of b) (done_change b) bank bank2 × GoesOnAnswered (port_of b) (done_answer (kept_at bank (port_of b)) b) task task2

  -- whoever waits on w goes on with v, which passed on channel p, last in the ready part
  abbrev pub WakesOn : ℕ → ℕ → Tree → Shard (Task A) → Ready A → Ready A → Type 0
  WakesOn w p v shard old new = WakesBy place gives (waits_of shard w) p v (Some (tasks_in old)) (Some (tasks_in new))

  -- with what branch b passes
  abbrev pub BranchWakes : BranchView → ℕ → Bank → Shard (Task A) → Ready A → Ready A → Type 0
  BranchWakes b w bank shard old new = WakesOn w (port_of b) (told (other_side (side_of b)) (passing (kept_at bank (port_of b)) b)) shard old new

-- the operand is a channel that is there
abbrev pub IsChannelThere : (ℕ → Option Kept) → Tree → Type 0
IsChannelThere kept c = (c ≡ port (port_of_value c)) × (is_some (kept (port_of_value c)) ≡ true)

-- a take, or a put of a value that isn't nil, with its task or without it, whose channel is there
abbrev pub IsPlainOperation : (ℕ → Option Kept) → OpView → Type 0
IsPlainOperation kept (taking c) = IsChannelThere kept c
IsPlainOperation kept (putting c v) = IsChannelThere kept c × (is_nil v ≡ false)
IsPlainOperation kept (posting c v) = IsChannelThere kept c × (is_nil v ≡ false)
IsPlainOperation kept op = ⊥
