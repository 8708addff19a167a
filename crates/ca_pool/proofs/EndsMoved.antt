-- The end of the lane's task, which the worker may draw.
use Rattle.std.proofs.Common.{◌≡◌, ◌∙◌, ℕ, ◌+◌, List, [], ◌∷◌, refl, sym, ap, subst, Bool, true, false, Option, Some, None, eqb, is_some, add-zero}
use Rattle.std.specs.Prelude.{option_map}
use Rattle.ca_value.specs.Tree.{Tree}
use Rattle.ca_term.specs.Cost.{cost_of}
use Rattle.ca_term.specs.declared.event.Ending.{Ending}
use Rattle.ca_term.specs.Event.{EventView, over as over_event}
use Rattle.ca_term.specs.Operation.{SeedView}
use Rattle.ca_term.specs.Program.{ProgramView, program_view}
use Rattle.ca_meaning.specs.Body.{At}
use Rattle.ca_meaning.specs.Cost.{cost}
use Rattle.ca_meaning.specs.Task.{TaskBody}
use Rattle.ca_states.specs.Code.{CodeView}
use Rattle.ca_states.specs.ValidCode.{valid_code}
use Rattle.ca_states.specs.declared.valid_code.ValidCode.{ValidCode}
use Rattle.ca_turns.specs.Hands.{TableId}
use Rattle.ca_commit.specs.Agents.{advances_of}
use Rattle.ca_commit.specs.Contents.{TimersPart, main_over}
use Rattle.ca_commit.specs.TaskMoves.{MarksEnd, with_mark}
use Rattle.ca_commit.specs.Tasks.{agent_of, task_view}
use Rattle.ca_commit.specs.Touched.{shown}
use Rattle.ca_commit.specs.declared.held.Held.{Held}
use Rattle.ca_commit.specs.declared.task.Task.{Task}
use Rattle.ca_table.specs.Carriers.{LaneBox}
use Rattle.ca_table.specs.OneCode.{advances_over}
use Rattle.ca_table.specs.Parts.{clockwork_seen, counts_view, lane_seen, part_seen}
use Rattle.ca_table.specs.Seen.{PartSeen, lane_of_seen}
use Rattle.ca_table.specs.Halting.{LeavesLane}
use Rattle.ca_table.specs.declared.part.Lane.{Lane}
use Rattle.ca_table.specs.declared.part.Part.{Part}
use Rattle.ca_table.specs.declared.worker.Worker.{Worker}
use Rattle.ca_pool.specs.Desk.{ClockBox, IsMovedWith, SameHeld, all_laid, holds_banks, holds_shards}
use Rattle.ca_pool.specs.Endings.{IsEnding}
use Rattle.ca_pool.specs.Prepared.{HasGone}
use Rattle.ca_pool.proofs.Desk.{all_brings, all_turned, clock_seen}

-- the one event costs what it costs
pub cost_one : (e : EventView) (k : ℕ) → k ≡ cost_of e → cost (e ∷ []) ≡ k
cost_one e k is = add-zero (cost_of e) ∙ sym is

module _ {C : Type 0} (least faults : C → ℕ) (readings : C → Option (List ℕ)) where
  abbrev as_seen : ClockBox C → TimersPart
  as_seen c = clockwork_seen least faults readings c.value

  -- the end of the main text marks the clockwork, which is there for that alone
  pub marks_end : (b : Bool) (clock : Option (ClockBox C)) (new : Option TimersPart) → is_some clock ≡ b → new ≡ option_map (λ c. with_mark main_over (as_seen c)) clock → MarksEnd b (option_map as_seen clock) new
  marks_end true None new there e = absurd (let z : false ≡ true = there in cc)
  marks_end true (Some c) new there e = (as_seen c, refl, e)
  marks_end false None new there e = e
  marks_end false (Some c) new there e = absurd (let z : true ≡ false = there in cc)

module _ {A : Type 0} (over : CodeView → A → Type 0) (place : A → At) (advances : ProgramView → A → A → Type 0) (program : ProgramView) (code : ValidCode) (l lane lane2 : Lane A) (task : Task A) (gone : HasGone over advances program code l lane task)
    (empty : lane2.task ≡ None) (since : lane2.since ≡ lane.since + 1) (its_program : lane2.program ≡ lane.program) (counts : lane2.counts ≡ lane.counts) where
  -- the task leaves the lane
  pub leaves_lane : (at : At) → place task.agent ≡ at → LeavesLane place (advances_over over (valid_code code) advances) at (lane_of_seen (lane_seen l)) (lane_of_seen (lane_seen lane2)) task
  leaves_lane at stands = record {
    agent = gone.left.agent;
    has_task = gone.left.was;
    advanced = subst (λ P. advances_of (advances_over over (valid_code code) advances) P gone.left.agent (agent_of task)) (sym gone.program_is) gone.left.advanced;
    stands = stands;
    empty = ap (option_map task_view) empty;
    program = ap (λ p. program_view p.value) (its_program ∙ gone.left.program_is);
    since = since ∙ ap (λ (k : ℕ). k + 1) gone.left.since_is;
    counts = ap counts_view (counts ∙ gone.left.counts_are);
  }

module _ {A C : Type 0} (over : CodeView → A → Type 0) (stands_as : ProgramView → A → TaskBody → Type 0) (place : A → At) (advances : ProgramView → A → A → Type 0) (gives : A → Tree → A → Type 0) (starts : ProgramView → SeedView → A → Type 0) (least faults : C → ℕ) (readings : C → Option (List ℕ)) (code : ValidCode) (id : TableId) (program : ProgramView) (n : ℕ) (l : Lane A)
    (clock clock2 : Option (ClockBox C)) (held0 held : Held A) (w : Worker A C) (lane : Lane A) (lane2 : LaneBox A) (task : Task A) (ending : Ending)
    (e : IsEnding over stands_as place advances gives starts (part_seen least faults readings) code id program n l clock held0 held w lane task ending)
    (there : is_some clock ≡ eqb task.number 0) (marks : option_map (λ c. clockwork_seen least faults readings c.value) clock2 ≡ option_map (λ c. with_mark main_over (clockwork_seen least faults readings c.value)) clock) (no_ready : held.ready ≡ None)
    (empty : lane2.value.task ≡ None) (since : lane2.value.since ≡ lane.since + 1) (its_program : lane2.value.program ≡ lane.program) (counts : lane2.value.counts ≡ lane.counts) where
  map_there : {X Y : Type 0} (f g : X → Y) (a b : Option X) → option_map f a ≡ option_map g b → is_some a ≡ is_some b
  map_there f g None None m = refl
  map_there f g None (Some y) m = absurd (let z : None ≡ Some (g y) = m in cc)
  map_there f g (Some x) None m = absurd (let z : Some (f x) ≡ None = m in cc)
  map_there f g (Some x) (Some y) m = refl

  abbrev shows : Part A C → PartSeen A
  shows = part_seen least faults readings

  pub ending_same : SameHeld clock clock2 held0 held
  ending_same = record { banks = e.same.banks; shards = e.same.shards; ready = e.same.ready; timers = map_there (as_seen least faults readings) (λ c. with_mark main_over (as_seen least faults readings c)) clock2 clock marks }

  pub ending_moved : IsMovedWith over place advances gives starts shows code n w.number (holds_banks held) (holds_shards held) (shown (over_event task.number ending)) (all_laid shows n code w.number l lane2 clock held0 clock2 held)
  ending_moved = λ ports looked banks shards. e.may.2 w.number n (all_laid shows n code w.number l lane2 clock held0 clock2 held) (lane_of_seen (lane_seen l)) (lane_of_seen (lane_seen lane2.value)) (clock_seen least faults readings clock) (clock_seen least faults readings clock2) ports looked (record {
    turned = all_turned least faults readings n code w.number l clock clock2 held0 held ending_same lane2;
    leaves = leaves_lane over place advances program code l lane lane2.value task e.gone empty since its_program counts e.may.0 e.may.1;
    marks = marks_end least faults readings (eqb task.number 0) clock (clock_seen least faults readings clock2) there marks;
    keep = e.keep;
    brings = all_brings least faults readings n code w.number l clock clock2 held0 held ending_same ports looked (eqb task.number 0) false banks shards (sym there ∙ sym ending_same.timers) (sym (ap is_some no_ready)) lane2;
  })
