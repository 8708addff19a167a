-- How the clock is asked, and what its timers' part is then.
use Rattle.std.specs.Prelude.{◌≡◌, ℕ, ◌<◌, ◌≤◌, List, Some, option_map, is_some, slice_get, true}
use Rattle.ca_value.specs.Deadlines.{Deadline, due, open_after}
use Rattle.ca_commit.specs.Contents.{TimersPart, home}
use Rattle.ca_commit.specs.Listing.{listed}
use Rattle.ca_commit.specs.Listings.{parts}
use Rattle.ca_commit.specs.Numbers.{number_of_bank}
use Rattle.ca_commit.specs.SilentMoves as silent
use Rattle.ca_commit.specs.TaskMoves.{GoOnBy}
use Rattle.ca_commit.specs.Ticking.{numbers_of_ports}
use Rattle.ca_commit.specs.Touched as said
use Rattle.ca_commit.specs.declared.held.Held.{Held}
use Rattle.ca_meaning.specs.TaskSteps.{moments}
use Rattle.ca_meaning.specs.Wait.{is_among}
use Rattle.ca_table.specs.Homes.{has_home}
use Rattle.ca_table.specs.declared.homes.Homes.{Homes}

-- that is the moment of the first of them
abbrev pub IsFirstMoment : ℕ → List Deadline → Type 0
IsFirstMoment first ds = option_map (λ (d : Deadline). d.moment) (slice_get ds 0) ≡ Some first

-- the clock answered m; deadlines, the moment of the run and the mark stay
pub record IsAsked (m : ℕ) (c c2 : TimersPart) : Type 0 where
  pub deadlines : c2.deadlines ≡ c.deadlines
  pub now : c2.now ≡ c.now
  pub late : c.now ≤ m
  pub bound : m < moments
  pub later : c.least ≤ m
  pub least : c2.least ≡ m
  pub faults : c2.faults ≡ c.faults
  pub readings : GoOnBy m c.readings c2.readings
  pub mark : c2.mark ≡ c.mark

-- it failed
pub record HasFailed (c c2 : TimersPart) : Type 0 where
  pub deadlines : c2.deadlines ≡ c.deadlines
  pub now : c2.now ≡ c.now
  pub least : c.least ≤ c2.least
  pub faults : silent.HasFault c.faults c2.faults
  pub readings : silent.StayTold c.readings c2.readings
  pub mark : c2.mark ≡ c.mark

-- deadlines and the moment of the run stay, and the clock never falls
pub record SameTimes (c c2 : TimersPart) : Type 0 where
  pub deadlines : c2.deadlines ≡ c.deadlines
  pub now : c2.now ≡ c.now
  pub least : c.least ≤ c2.least

-- how a silent event of the timers leaves them; there is no other
abbrev pub TimesBy : said.Turn → TimersPart → TimersPart → Type 0
TimesBy said.asks_clock c c2 = SameTimes c c2 × silent.Asked c c2
TimesBy said.fails c c2 = SameTimes c c2 × silent.Failed c c2
TimesBy said.stops c c2 = silent.Stopped c c2
TimesBy said.halts c c2 = silent.Marked c c2
TimesBy other c c2 = ⊥

-- what is due at m is gone, and m is the moment of the run
abbrev pub moment_passed : ℕ → TimersPart → TimersPart
moment_passed m c = record { deadlines = open_after m c.deadlines; now = m; least = c.least; faults = c.faults; readings = c.readings; mark = c.mark }

-- the list of the ports that are due was made
abbrev pub AreDuePortsMade : {A : Type 0} → Held A → TimersPart → ℕ → Type 0
AreDuePortsMade h c m = option_map numbers_of_ports h.spare.ports ≡ Some (due m c.deadlines)

-- the banks of all these ports are among them
abbrev pub HasHomes : Homes → List ℕ → Type 0
HasHomes homes ports = (p : ℕ) → is_among p ports ≡ true → has_home homes (home p) ≡ true

-- they are held
abbrev pub HasBanksOf : {A : Type 0} → Held A → List ℕ → Type 0
HasBanksOf h ports = (p : ℕ) → is_among p ports ≡ true → is_some (listed number_of_bank (parts h.banks) (home p)) ≡ true
