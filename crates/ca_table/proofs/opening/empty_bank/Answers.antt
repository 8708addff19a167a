use Rattle.std.proofs.Common.{◌∙◌, ap, ap₂}
use Rattle.std.specs.FinMap as map
use Rattle.std.specs.Ordering.{nat_cmp}
use Rattle.ca_meaning.specs.Registry.{Registry}
use Rattle.ca_states.specs.ValidCode.{valid_code}
use Rattle.ca_bank.specs.Kept.{Kept}
use Rattle.ca_bank.specs.declared.bank.Bank.{Bank}
use Rattle.ca_registry.specs.Registry.{registry_view}
use Rattle.ca_bank.specs.Room.{kept_view}
use Rattle.ca_table.specs.Opening.{seen_part}
use Rattle.ca_table.specs.Parts.{bank_seen}
use Rattle.ca_table.specs.Seen.{seen_bank}
use Rattle.ca_table.proofs.Finite.{empty_finite}
use Rattle.ca_table.proofs.opening.empty_bank.Goals as goal

pub returns : goal.returns
returns g c = let b = c.new-bank in ap (λ code. seen_part {A = g.row.A.Denot} c.args.workers (valid_code code) (seen_bank (bank_seen c.in_ok-new.field-0.bank.value))) c.of.ensures
    ∙ ap (λ (x : Bank). seen_part c.args.workers (valid_code c.args.code.now) (seen_bank (bank_seen x))) c.in_ok-new.ensures.bank
    ∙ ap₂ (λ (x : map.FinMap nat_cmp Kept) (y : map.FinMap nat_cmp Registry). seen_part c.args.workers (valid_code c.args.code.now) (seen_bank (record { channels = x; registries = y }))) (empty_finite kept_view b.result.rooms b.ensures.channels) (empty_finite registry_view b.result.registries b.ensures.registries)
