use Rattle.std.proofs.Common.{Some, Option, eqb, cond, ◌∙◌, sym, ap, arith}
use Rattle.std.specs.Prelude.{nat_eq}
use Rattle.indexmap.specs.IndexMap.{get}
use Rattle.ca_bank.specs.NearRow.{near_at}
use Rattle.ca_bank.specs.Waits.{WaitMap}
use Rattle.ca_bank.proofs.Seats.{near_put, far_put, apart_without, above_put}
use Rattle.ca_bank.proofs.Tables.{table_has}
use Rattle.ca_bank.proofs.wait_table.WaitTable.put.Goals as goal

pub returns-then-is_free-clause-values : goal.returns-then-is_free-clause-values
returns-then-is_free-clause-values g c n =
    let is = sym (table_has c.self.inside.near c.self.inside.far n) ∙ ap (λ (m : WaitMap g.row.V.Denot). get nat_eq m n) c.self.view_is in
    let both = near_put (near_at c.self.inside.near) (near_at c.put.new.self) (get nat_eq c.self.inside.far) c.args.number c.args.value c.put.ensures n in
    table_has c.put.new.self c.self.inside.far n ∙ both ∙ ap (λ (o : Option g.row.V.Denot). cond (eqb c.args.number n) (Some c.args.value) o) is

pub invariant_of-self-else-self-number : goal.invariant_of-self-else-self-number
invariant_of-self-else-self-number g c = record {
  apart = apart_without (near_at c.self.inside.near) (near_at c.far_put.new.near) (get nat_eq c.self.inside.far) (get nat_eq c.far_put.new.far) c.args.number (Some c.args.value) c.self.invariant.apart c.far_put.ensures.near c.far_put.ensures.far;
  above = above_put (get nat_eq c.self.inside.far) (get nat_eq c.far_put.new.far) c.args.number c.self.inside.last c.max-self-inside.result c.args.value c.self.invariant.above (omega (arith, c.max-self-inside.ensures)) (omega (arith, c.max-self-inside.ensures)) c.far_put.ensures.far;
}

pub returns-else-self-number-clause-values : goal.returns-else-self-number-clause-values
returns-else-self-number-clause-values g c n =
    let is = sym (table_has c.self.inside.near c.self.inside.far n) ∙ ap (λ (m : WaitMap g.row.V.Denot). get nat_eq m n) c.self.view_is in
    let both = far_put (near_at c.self.inside.near) (near_at c.far_put.new.near) (get nat_eq c.self.inside.far) (get nat_eq c.far_put.new.far) c.args.number c.args.value c.far_put.ensures.near c.far_put.ensures.far n in
    table_has c.far_put.new.near c.far_put.new.far n ∙ both ∙ ap (λ (o : Option g.row.V.Denot). cond (eqb c.args.number n) (Some c.args.value) o) is
