-- How a drawn event moves the contents of the parts that it touches.
use Rattle.std.specs.Prelude.{ℕ, ◌<◌, List, [], ◌∷◌, option_map}
use Rattle.ca_value.specs.Tree.{Tree}
use Rattle.ca_term.specs.declared.event.Ending.TheVariants.{Ended, Faulted}
use Rattle.ca_term.specs.Program.{ProgramView}
use Rattle.ca_term.specs.Operation.{SeedView}
use Rattle.ca_term.specs.Event.{EventView, made, spawned, done, met, parked, posted, settled, defaulted, closed, registered, printed, ticked, over, port_number}
use Rattle.ca_meaning.specs.Body.{At}
use Rattle.ca_commit.specs.Agents.{TaskAgent, advances_of, gives_of, parks_of, place_of, result_port, starts_of, wakes_of}
use Rattle.ca_commit.specs.ChannelMoves.{MovesClose, MovesDefault, MovesDone, MovesMeet, MovesPark, MovesPost, MovesSettle}
use Rattle.ca_commit.specs.Contents.{Content, Parts}
use Rattle.ca_commit.specs.Gathered.{AllAlike, gather}
use Rattle.ca_commit.specs.SilentMoves.{Asked, Failed, Marked, MovesPick, MovesPrune, MovesStall, MovesTimers, MovesYield, Stopped}
use Rattle.ca_commit.specs.TaskMoves.{MovesEnd, MovesFault, MovesMake, MovesPrint, MovesRegister, MovesSpawn, MovesTick}
use Rattle.ca_commit.specs.Touched.{Drawn, Turn, asks_clock, fails, halts, picks, prunes, shown, stalls, stops, yields}

-- what of it stands in the journal
abbrev pub visible : Turn → List EventView
visible (shown e) = e ∷ []
visible (picks r) = []
visible yields = []
visible (prunes side p wait) = []
visible asks_clock = []
visible fails = []
visible stops = []
visible halts = []
visible stalls = []

module _ {A : Type 0} (place : A → At) (advances : ProgramView → A → A → Type 0) (gives : A → Tree → A → Type 0) (starts : ProgramView → SeedView → A → Type 0) where
  abbrev pub MovesShown : ℕ → ℕ → EventView → Parts (TaskAgent A) → Parts (TaskAgent A) → Type 0
  MovesShown w n (made t p what moment) old new = MovesMake (place_of place) (advances_of advances) (gives_of place gives) w n t p what moment old new
  MovesShown w n (spawned t u kind r) old new = MovesSpawn (place_of place) (advances_of advances) (gives_of place gives) (starts_of starts) w n t u kind r old new
  MovesShown w n (done t k b v) old new = MovesDone (place_of place) (advances_of advances) (gives_of place gives) w t k b v old new
  MovesShown w n (met t k side p v wait o) old new = MovesMeet (place_of place) (advances_of advances) (gives_of place gives) (wakes_of gives) w t k side p v wait o old new
  MovesShown w n (parked t wait bs) old new = MovesPark (place_of place) (advances_of advances) (parks_of place) w n t wait bs old new
  MovesShown w n (posted t wait p v) old new = MovesPost (place_of place) (advances_of advances) (gives_of place gives) w n t wait p v old new
  MovesShown w n (settled wait k side p v) old new = MovesSettle (place_of place) (wakes_of gives) w wait k side p v old new
  MovesShown w n (defaulted t v) old new = MovesDefault (place_of place) (advances_of advances) (gives_of place gives) w t v old new
  MovesShown w n (closed t p) old new = MovesClose (place_of place) (advances_of advances) (gives_of place gives) w t p old new
  MovesShown w n (registered t name args v) old new = MovesRegister (place_of place) (advances_of advances) (gives_of place gives) w t name args v old new
  MovesShown w n (printed t line) old new = MovesPrint (place_of place) (advances_of advances) (gives_of place gives) w t line old new
  MovesShown w n (ticked m ports) old new = MovesTick m ports old new
  MovesShown w n (over t Ended) old new = MovesEnd (place_of place) (advances_of advances) w t old new
  MovesShown w n (over t (Faulted f at r)) old new = MovesFault (place_of place) (advances_of advances) result_port w t f at (option_map port_number r) old new

  abbrev pub MovesTurn : ℕ → ℕ → Turn → Parts (TaskAgent A) → Parts (TaskAgent A) → Type 0
  MovesTurn w n (shown e) old new = MovesShown w n e old new
  MovesTurn w n (picks r) old new = MovesPick w r old new
  MovesTurn w n yields old new = MovesYield w old new
  MovesTurn w n (prunes side p wait) old new = MovesPrune side p wait old new
  MovesTurn w n asks_clock old new = MovesTimers Asked old new
  MovesTurn w n fails old new = MovesTimers Failed old new
  MovesTurn w n stops old new = MovesTimers Stopped old new
  MovesTurn w n halts old new = MovesTimers Marked old new
  MovesTurn w n stalls old new = MovesStall old new

  -- before and after are the contents of what the event touches, in order
  abbrev pub Moves : Drawn → List (Content (TaskAgent A)) → List (Content (TaskAgent A)) → Type 0
  Moves d before after = (d.worker < d.workers) × AllAlike d.workers before after × MovesTurn d.worker d.workers d.what (gather d before) (gather d after)
