-- What a task that makes a port does to held parts, and the room that it needs.
use Rattle.std.specs.Prelude.{◌≡◌, ℕ, ◌<◌, ◌≤◌, List, Option, Some, None, IsSome, option_map, unwrap_or}
use Rattle.ca_value.specs.Deadlines.{Deadline}
use Rattle.ca_timers.specs.Timers.{TimersView}
use Rattle.ca_term.specs.Operation.{WhatView, timeout}
use Rattle.ca_meaning.specs.TaskSteps.{with_deadline}
use Rattle.ca_bank.specs.Bank.{channels_spare, registries_spare}
use Rattle.ca_commit.specs.Contents.{home}
use Rattle.ca_commit.specs.Listing.{listed}
use Rattle.ca_commit.specs.Listings.{parts}
use Rattle.ca_commit.specs.Numbers.{number_of_bank}
use Rattle.ca_commit.specs.declared.held.Held.{Held}
use Rattle.ca_commit.specs.declared.held.HeldBank.{HeldBank}
use Rattle.ca_commit.specs.declared.listing.Listing.{Listing}

-- the moment that the event shows: a timeout's is the clock's answer
abbrev pub moment_for : WhatView → ℕ → Option ℕ
moment_for (timeout n) m = Some m
moment_for what m = None

-- what timers show: the open deadlines, and the last moment
pub record Times : Type 0 where
  pub deadlines : List Deadline
  pub now : ℕ

abbrev pub times_of : TimersView → Times
times_of t = record { deadlines = t.deadlines; now = t.moment }

abbrev pub times_in : Option TimersView → Option Times
times_in o = option_map times_of o

-- a timeout at port p opens its deadline, and the clock's answer is the last moment
abbrev pub timed : ℕ → WhatView → ℕ → Times → Times
timed p what m c = record { deadlines = with_deadline p what m c.deadlines; now = unwrap_or (moment_for what m) c.now }

-- the bank of a port is held, and has room for one more
abbrev pub HasPortRoom : Listing HeldBank → ℕ → Type 0
HasPortRoom b p = (x : HeldBank) × (listed number_of_bank (parts b) (home p) ≡ Some x) × (0 < channels_spare x.bank.value) × (0 < registries_spare x.bank.value)

-- a timeout needs the timers
abbrev pub HasTimers : WhatView → Option TimersView → Type 0
HasTimers (timeout n) o = IsSome o
HasTimers what o = Unit {0}

-- with room for one more deadline
abbrev pub HasDeadlineRoom : WhatView → Option TimersView → Type 0
HasDeadlineRoom (timeout n) None = ⊥
HasDeadlineRoom (timeout n) (Some t) = 0 < t.spare
HasDeadlineRoom what o = Unit {0}

-- the clock never falls
abbrev pub IsNoEarlier : WhatView → Option TimersView → ℕ → Type 0
IsNoEarlier (timeout n) None m = Unit {0}
IsNoEarlier (timeout n) (Some t) m = t.moment ≤ m
IsNoEarlier what o m = Unit {0}

abbrev pub IsMadeToMake : {A : Type 0} → Held A → WhatView → Type 0
IsMadeToMake h what = HasPortRoom h.banks h.new_port × HasDeadlineRoom what h.timers

-- the numbers that an event may give stay, and the clock's answer
abbrev pub KeepsCounts : {A : Type 0} → Held A → Held A → Type 0
KeepsCounts old new = (new.new_task ≡ old.new_task) × (new.new_port ≡ old.new_port) × (new.new_wait ≡ old.new_wait) × (new.moment ≡ old.moment)
