-- A drawn event of the table as the definitions of a run have it: what it touches, and how it moves that.
use Rattle.std.specs.Prelude.{◌≡◌, ◌⊎◌, ℕ, ◌+◌, ◌<◌, ◌≤◌, List, [], ◌∷◌, map}
use Rattle.ca_value.specs.Tree.{Tree}
use Rattle.ca_term.specs.Event.{event_view, settled, ticked}
use Rattle.ca_term.specs.Operation.{SeedView}
use Rattle.ca_term.specs.Program.{ProgramView}
use Rattle.ca_meaning.specs.Body.{At}
use Rattle.ca_states.specs.Code.{CodeView}
use Rattle.ca_states.specs.ValidCode.{valid_code}
use Rattle.ca_turns.specs.Places as places
use Rattle.ca_commit.specs.Moving.{Moves}
use Rattle.ca_commit.specs.Touched as said
use Rattle.ca_commit.proofs.Apart.{touches_distinct}
use Rattle.ca_table.specs.Homes.{members}
use Rattle.ca_table.specs.OneCode.{AllCoded, advances_over, gives_over, starts_over}
use Rattle.ca_table.specs.Seen.{PartSeen, content_of}
use Rattle.ca_table.specs.declared.drawn.Drawn.{Drawn}
use Rattle.ca_table.specs.declared.drawn.Turned.{Turned}
use Rattle.ca_table.specs.declared.drawn.Turned.TheVariants as T

abbrev pub turn_view : Turned → said.Turn
turn_view (T.Shown e) = said.shown (event_view e)
turn_view (T.Pick r) = said.picks r
turn_view T.Yield = said.yields
turn_view (T.Prune side p w) = said.prunes side p.n w.n
turn_view T.Read = said.asks_clock
turn_view T.Fail = said.fails
turn_view T.Stop = said.stops
turn_view T.Halt = said.halts
turn_view T.Stall = said.stalls

abbrev pub drawn_view : Drawn → said.Drawn
drawn_view d = record { worker = d.worker; workers = d.workers; what = turn_view d.what; ports = members d.ports.value; looked = members d.looked.value }

abbrev pub drawn_touches : Drawn → List ℕ
drawn_touches d = said.touches (drawn_view d)

abbrev pub drawn_code : Drawn → CodeView
drawn_code d = valid_code d.code.value

-- as its event moves them, with the agents over the code that it and its parts have
abbrev pub drawn_moves : {A : Type 0} → (CodeView → A → Type 0) → (A → At) → (ProgramView → A → A → Type 0) → (A → Tree → A → Type 0) → (ProgramView → SeedView → A → Type 0) → Drawn → List (PartSeen A) → List (PartSeen A) → Type 0
drawn_moves over place advances gives starts d before after = AllCoded (drawn_code d) before after
    × Moves place (advances_over over (drawn_code d) advances) (gives_over over (drawn_code d) gives) (starts_over over (drawn_code d) starts) (drawn_view d) (map content_of before) (map content_of after)

-- a shard, or the worker's own ready part
abbrev pub IsAside : ℕ → ℕ → ℕ → Type 0
IsAside w n i = ((n + 16 ≤ i) × (i < n + 32)) ⊎ (i ≡ n + 33 + w)

-- Which other parts worker w of n may hold at what it draws: at an event of a task shards and its own ready part alone,
-- so no bank, timers or lane of another that the event doesn't touch; at the others any part.
abbrev pub MayHold : ℕ → ℕ → said.Turn → ℕ → Type 0
MayHold w n (said.shown (settled wait k side p v)) i = Unit {0}
MayHold w n (said.shown (ticked m ps)) i = Unit {0}
MayHold w n (said.shown other) i = IsAside w n i
MayHold w n other i = Unit {0}

abbrev pub drawn_allows : Drawn → ℕ → Type 0
drawn_allows d i = MayHold d.worker d.workers (turn_view d.what) i

all_apart : (P : ℕ → Type 0) (is : List ℕ) → said.AllHave P is → places.AllIn P is
all_apart P [] h = tt
all_apart P (i ∷ is) h = (h.0, all_apart P is h.1)

apart : (is : List ℕ) → said.NoneTwice is → places.IsDistinct is
apart [] h = tt
apart (i ∷ is) h = (all_apart _ is h.0, apart is h.1)

-- no drawn event touches a part twice
pub drawn_apart : (d : Drawn) → places.IsDistinct (drawn_touches d)
drawn_apart d = apart (drawn_touches d) (touches_distinct (drawn_view d))
