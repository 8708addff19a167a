use Rattle.std.proofs.Common.{ℕ, List, Option, ◌∙◌, ap}
use Rattle.std.specs.Prelude.{nat_eq}
use Rattle.std.specs.Map.{lookup}
use Rattle.indexmap.specs.IndexMap.{get}
use Rattle.ca_bank.proofs.Seats.{either}
use Rattle.ca_bank.proofs.Tables.{table_has}
use Rattle.ca_bank.proofs.wait_table.WaitTable.new.Goals as goal

pub returns : goal.returns
returns g c n =
    table_has c.new.result c.new-2.result n ∙ ap (λ (o : Option g.row.V.Denot). either o (get nat_eq c.new-2.result n)) (c.new.ensures n) ∙ ap (λ (es : List (ℕ × g.row.V.Denot)). lookup (nat_eq n) es) c.new-2.ensures.empty
