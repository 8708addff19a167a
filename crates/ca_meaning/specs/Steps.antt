-- How an event leads from a state to a state.
use Rattle.std.specs.Prelude.{◌≡◌, List, [], ◌∷◌, option_map}
use Rattle.ca_term.specs.declared.event.Ending.TheVariants.{Ended, Faulted}
use Rattle.ca_term.specs.Program.{ProgramView}
use Rattle.ca_term.specs.Event.{EventView, made, spawned, done, met, parked, posted, settled, defaulted, closed, registered, printed, ticked, over, port_number}
use Rattle.ca_meaning.specs.State.{State}
use Rattle.ca_meaning.specs.ChannelSteps.{DoneStep, MeetStep, ParkStep, PostStep, SettleStep, DefaultStep, CloseStep}
use Rattle.ca_meaning.specs.TaskSteps.{MakeStep, SpawnStep, RegisterStep, PrintStep, TickStep, EndStep, FaultStep}

abbrev pub Step : ProgramView → State → EventView → State → Type 0
Step program s (made t p what moment) s2 = MakeStep program s t p what moment s2
Step program s (spawned t u kind result) s2 = SpawnStep program s t u kind result s2
Step program s (done t k b a) s2 = DoneStep program s t k b a s2
Step program s (met t k side p v w o) s2 = MeetStep program s t k side p v w o s2
Step program s (parked t w bs) s2 = ParkStep s t w bs s2
Step program s (posted t w p v) s2 = PostStep program s t w p v s2
Step program s (settled w k side p v) s2 = SettleStep program s w k side p v s2
Step program s (defaulted t v) s2 = DefaultStep program s t v s2
Step program s (closed t p) s2 = CloseStep program s t p s2
Step program s (registered t name args v) s2 = RegisterStep program s t name args v s2
Step program s (printed t line) s2 = PrintStep program s t line s2
Step program s (ticked m ports) s2 = TickStep s m ports s2
Step program s (over t Ended) s2 = EndStep s t s2
Step program s (over t (Faulted fault place result)) s2 = FaultStep s t fault place (option_map port_number result) s2

-- the events lead, one after the other, from a state to a state
abbrev pub Steps : ProgramView → State → List EventView → State → Type 0
Steps program s [] s2 = s2 ≡ s
Steps program s (e ∷ es) s2 = (mid : State) × Step program s e mid × Steps program mid es s2
