-- The law of what channels drop.
use Rattle.std.proofs.Common.{◌≡◌, ⊎_elim, ℕ, ◌-◌, List, length, refl, ap, ◌∙◌, subst, Some, arith}
use Rattle.ca_value.specs.Buffer.{Policy, no_buffer, fixed_buffer, dropping_buffer, sliding_buffer, promise_buffer, is_promise}
use Rattle.ca_term.specs.Program.{ProgramView}
use Rattle.ca_term.specs.Event.{EventView}
use Rattle.ca_meaning.specs.Channel.{Channel}
use Rattle.ca_meaning.specs.Legal.{Reaches}
use Rattle.ca_meaning.specs.State.{State}
use Rattle.ca_report.specs.Counts.{accepted, given_out, lost}
use Rattle.ca_report.specs.Drops.{DropsBy}
use Rattle.ca_report.proofs.Balancing.{Balance}
use Rattle.ca_report.proofs.Telling.{Balanced, facts}

drops_by : (journal : List EventView) (p : ℕ) (c : Channel) (policy : Policy) → c.policy ≡ policy → Balance policy (accepted p journal) (given_out p journal) (c.held) → DropsBy policy journal p c
drops_by journal p c no_buffer is b = (omega arith, ap (λ q. lost (is_promise q) (accepted p journal) (given_out p journal) (length c.held)) is ∙ nothing) where
  nothing : accepted p journal - given_out p journal - length c.held ≡ 0
  nothing = omega arith
drops_by journal p c fixed_buffer is b = (omega arith, ap (λ q. lost (is_promise q) (accepted p journal) (given_out p journal) (length c.held)) is ∙ nothing) where
  nothing : accepted p journal - given_out p journal - length c.held ≡ 0
  nothing = omega arith
drops_by journal p c dropping_buffer is b = b
drops_by journal p c sliding_buffer is b = b
drops_by journal p c promise_buffer is b = ⊎_elim
    (λ n. (omega (arith, n.0, n.1), ap (λ q. lost (is_promise q) (accepted p journal) (given_out p journal) (length c.held)) is ∙ none n.0 n.1))
    (λ s. (omega (arith, s.0, s.1), ap (λ q. lost (is_promise q) (accepted p journal) (given_out p journal) (length c.held)) is ∙ one s.1))
    b where
      none : accepted p journal ≡ 0 → length c.held ≡ 0 → accepted p journal - length c.held ≡ accepted p journal - 1
      none a h = omega arith

      one : length c.held ≡ 1 → accepted p journal - length c.held ≡ accepted p journal - 1
      one h = omega arith

pub drops : (program : ProgramView) (journal : List EventView) (s : State) (p : ℕ) (c : Channel) → Reaches program journal s → s.channels p ≡ Some c → DropsBy c.policy journal p c
drops program journal s p c r at = drops_by journal p c c.policy refl (subst (Balanced journal p) at ((facts program journal s r).balanced p))
