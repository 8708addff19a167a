use Rattle.std.proofs.Common.{◌≡◌, Some, None, Option, ◌∙◌, sym, ap, arith}
use Rattle.std.specs.Prelude.{nat_eq}
use Rattle.indexmap.specs.IndexMap.{get}
use Rattle.ca_bank.specs.NearRow.{near_at}
use Rattle.ca_bank.specs.Waits.{WaitMap}
use Rattle.ca_bank.proofs.Seats.{either}
use Rattle.ca_bank.proofs.Tables.{table_has}
use Rattle.ca_bank.proofs.wait_table.WaitTable.get.Goals as goal

pub returns-in-Some : goal.returns-in-Some
returns-in-Some g c =
    let is = sym (table_has c.self.inside.near c.self.inside.far c.args.number) ∙ ap (λ (m : WaitMap g.row.V.Denot). get nat_eq m c.args.number) c.self.view_is in
    let near : near_at c.self.inside.near c.args.number ≡ Some c.in-Some.value.now = grind arith in
    ap (λ (o : Option g.row.V.Denot). either o (get nat_eq c.self.inside.far c.args.number)) (sym near) ∙ is

pub returns-in-None : goal.returns-in-None
returns-in-None g c =
    let is = sym (table_has c.self.inside.near c.self.inside.far c.args.number) ∙ ap (λ (m : WaitMap g.row.V.Denot). get nat_eq m c.args.number) c.self.view_is in
    let near : near_at c.self.inside.near c.args.number ≡ None = grind arith in
    let far : get nat_eq c.self.inside.far c.args.number ≡ None = c.self.invariant.above c.args.number (omega arith) in
    sym far ∙ ap (λ (o : Option g.row.V.Denot). either o (get nat_eq c.self.inside.far c.args.number)) (sym near) ∙ is

pub returns-in-None-2 : goal.returns-in-None-2
returns-in-None-2 g c =
    let is = sym (table_has c.self.inside.near c.self.inside.far c.args.number) ∙ ap (λ (m : WaitMap g.row.V.Denot). get nat_eq m c.args.number) c.self.view_is in
    let near : near_at c.self.inside.near c.args.number ≡ None = grind arith in
    c.far_get.ensures ∙ ap (λ (o : Option g.row.V.Denot). either o (get nat_eq c.self.inside.far c.args.number)) (sym near) ∙ is
