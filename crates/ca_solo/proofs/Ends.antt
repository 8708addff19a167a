-- Where the one worker is free, nobody runs and no deadline is open, nothing can go on.
use Rattle.std.proofs.Common.{◌≡◌, ℕ, List, [], refl, sym, ◌∙◌, Some}
use Rattle.ca_term.specs.declared.event.Side.TheVariants.{Take, Put}
use Rattle.ca_term.specs.Program.{ProgramView}
use Rattle.ca_term.specs.Event.{EventView}
use Rattle.ca_meaning.specs.Channel.{Channel}
use Rattle.ca_meaning.specs.Wait.{front}
use Rattle.ca_meaning.specs.Row.{Settling, unsettled, settles, settle_row}
use Rattle.ca_meaning.specs.State.{State, Task, running}
use Rattle.ca_meaning.specs.Ends.{IsStuck}
use Rattle.ca_meaning.specs.EndsLaw.{IsQuiet}
use Rattle.ca_meaning.specs.Solo.{NoneSettles}
use Rattle.ca_solo.specs.Positions.{free, Position}
use Rattle.ca_solo.specs.Alone.{Alone}
use Rattle.ca_meaning.proofs.Possible.{quiet_stuck}
use Rattle.ca_solo.proofs.Following.{alone_reaches, follows_in}

-- nothing is possible where nobody runs, nothing settles and no deadline is open
pub quiet_by : (s : State) → NoneSettles s → ((t : ℕ) (x : Task) → s.tasks t ≡ Some x → x.mode ≡ running → ⊥) → s.deadlines ≡ [] → IsQuiet s
quiet_by s none nobody dated = record {
  no_task = λ t x at runs. absurd (nobody t x at runs);
  no_settle = λ p c at. settle p c at (settle_row c (front Take p s.waits) (front Put p s.waits)) refl;
  no_deadline = dated;
} where
  settle : (p : ℕ) (c : Channel) → s.channels p ≡ Some c → (r : Settling) → settle_row c (front Take p s.waits) (front Put p s.waits) ≡ r → settle_row c (front Take p s.waits) (front Put p s.waits) ≡ unsettled
  settle p c at unsettled e = e
  settle p c at (settles side h v d) e = absurd (none p (c, at, λ n. let k : unsettled ≡ settles side h v d = sym n ∙ e in cc))

pub stuck_there : (program : ProgramView) (readings : List ℕ) (journal : List EventView) (w : Position) → Alone program readings journal w → w.phase ≡ free → ((t : ℕ) (x : Task) → w.state.tasks t ≡ Some x → x.mode ≡ running → ⊥) → w.state.deadlines ≡ [] → IsStuck program journal
stuck_there program readings journal w a f nobody dated =
    let g = follows_in program readings journal w free a f in
    (w.state, alone_reaches program readings journal w a, λ p. quiet_stuck program w.state p.1 p.0 (quiet_by w.state g.1 nobody dated) p.2)
