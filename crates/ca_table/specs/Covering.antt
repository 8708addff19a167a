-- What a worker carries at an event: just what the event touches.
use Rattle.std.specs.Prelude.{◌≡◌, ◌≢◌, ℕ, ◌<◌, [], ◌∷◌, ◌++◌, Option, Some, None, Bool, true, false, eqb, is_some}
use Rattle.ca_commit.specs.Touched as said
use Rattle.ca_table.specs.Carrying.{Carries}

-- what the event of worker w names by itself; one that stalls touches all parts
abbrev pub turn_names : ℕ → said.Turn → said.NamedParts
turn_names w (said.shown e) = said.event_names w e
turn_names w (said.picks r) = record { lane = true; ports = []; waits = []; timers = false; ready = Some r }
turn_names w said.yields = record { lane = true; ports = []; waits = []; timers = false; ready = Some w }
turn_names w (said.prunes side p wait) = record { lane = false; ports = p ∷ []; waits = wait ∷ []; timers = false; ready = None }
turn_names w said.asks_clock = said.only_timers
turn_names w said.fails = said.only_timers
turn_names w said.stops = said.only_timers
turn_names w said.halts = said.only_timers
turn_names w said.stalls = said.only_timers

-- it is the one that is named
abbrev pub is_named_one : Option ℕ → ℕ → Bool
is_named_one None r = false
is_named_one (Some q) r = eqb q r

pub record Covers {X : Type 0} (d : said.Drawn) (h : Carries X) : Type 0 where
  pub some : d.what ≢ said.stalls
  pub lane : (turn_names d.worker d.what).lane ≡ is_some h.lane
  pub banks : (i : ℕ) → i < 16 → said.homes ((turn_names d.worker d.what).ports ++ d.ports) i ≡ is_some (h.banks i)
  pub shards : (i : ℕ) → i < 16 → said.homes ((turn_names d.worker d.what).waits ++ d.looked) i ≡ is_some (h.shards i)
  pub timers : (turn_names d.worker d.what).timers ≡ is_some h.timers
  pub ready : (r : ℕ) → is_named_one (turn_names d.worker d.what).ready r ≡ is_some (h.ready r)

-- an event of worker w of n that names all that it touches
abbrev pub plain_drawn : ℕ → ℕ → said.Turn → said.Drawn
plain_drawn w n what = record { worker = w; workers = n; what = what; ports = []; looked = [] }
