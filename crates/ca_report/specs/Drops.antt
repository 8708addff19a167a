-- The law of what channels drop. (core.async API reference: `dropping-buffer`, `sliding-buffer`, `promise-chan`.)
use Rattle.std.specs.Prelude.{◌≡◌, ℕ, ◌+◌, ◌-◌, ◌≤◌, List, length}
use Rattle.ca_value.specs.Buffer.{Policy, no_buffer, fixed_buffer, dropping_buffer, sliding_buffer, promise_buffer}
use Rattle.ca_term.specs.Event.{EventView}
use Rattle.ca_meaning.specs.Channel.{Channel}
use Rattle.ca_report.specs.Counts.{accepted, given_out, dropped}

-- what was given and what is held was accepted
abbrev pub IsAccounted : List EventView → ℕ → Channel → Type 0
IsAccounted journal p c = given_out p journal + length c.held ≤ accepted p journal

-- of channel p, which is c after the journal
abbrev pub DropsBy : Policy → List EventView → ℕ → Channel → Type 0
DropsBy no_buffer journal p c = IsAccounted journal p c × (dropped journal p c ≡ 0)
DropsBy fixed_buffer journal p c = IsAccounted journal p c × (dropped journal p c ≡ 0)
DropsBy dropping_buffer journal p c = IsAccounted journal p c
DropsBy sliding_buffer journal p c = IsAccounted journal p c
-- all but the first
DropsBy promise_buffer journal p c = (length c.held ≤ accepted p journal) × (dropped journal p c ≡ accepted p journal - 1)
