use Rattle.std.proofs.Common.{◌≡◌, Some, None, Option, eqb, cond, is_some, ◌∙◌, sym, ap, arith}
use Rattle.std.specs.Prelude.{nat_eq}
use Rattle.indexmap.specs.IndexMap.{get}
use Rattle.ca_bank.specs.NearRow.{near_at}
use Rattle.ca_bank.specs.Waits.{WaitMap}
use Rattle.ca_bank.proofs.Seats.{either, both_removed, stays_without, apart_without, above_removed}
use Rattle.ca_bank.proofs.Tables.{table_has}
use Rattle.ca_bank.proofs.wait_table.WaitTable.take.Goals as goal

pub returns-in-Some-clause-value : goal.returns-in-Some-clause-value
returns-in-Some-clause-value g c =
    let is = sym (table_has c.self.inside.near c.self.inside.far c.args.number) ∙ ap (λ (m : WaitMap g.row.V.Denot). get nat_eq m c.args.number) c.self.view_is in
    let near : near_at c.self.inside.near c.args.number ≡ Some c.in-Some.value = grind arith in
    ap (λ (o : Option g.row.V.Denot). either o (get nat_eq c.self.inside.far c.args.number)) (sym near) ∙ is

pub returns-in-Some-clause-values : goal.returns-in-Some-clause-values
returns-in-Some-clause-values g c n =
    let is = sym (table_has c.self.inside.near c.self.inside.far n) ∙ ap (λ (m : WaitMap g.row.V.Denot). get nat_eq m n) c.self.view_is in
    let near : near_at c.self.inside.near c.args.number ≡ Some c.in-Some.value = grind arith in
    let none : get nat_eq c.self.inside.far c.args.number ≡ None = c.self.invariant.apart c.args.number (ap is_some near) in
    let both = both_removed (near_at c.self.inside.near) (near_at c.take.new.self) (get nat_eq c.self.inside.far) (get nat_eq c.self.inside.far) c.args.number c.take.ensures.values (stays_without (get nat_eq c.self.inside.far) c.args.number none) n in
    table_has c.take.new.self c.self.inside.far n ∙ both ∙ ap (λ (o : Option g.row.V.Denot). cond (eqb c.args.number n) None o) is

pub returns-in-None-clause-value : goal.returns-in-None-clause-value
returns-in-None-clause-value g c =
    let is = sym (table_has c.self.inside.near c.self.inside.far c.args.number) ∙ ap (λ (m : WaitMap g.row.V.Denot). get nat_eq m c.args.number) c.self.view_is in
    let near : near_at c.self.inside.near c.args.number ≡ None = grind arith in
    c.far_take.ensures.value ∙ ap (λ (o : Option g.row.V.Denot). either o (get nat_eq c.self.inside.far c.args.number)) (sym near) ∙ is

pub returns-in-None-clause-values : goal.returns-in-None-clause-values
returns-in-None-clause-values g c n =
    let is = sym (table_has c.self.inside.near c.self.inside.far n) ∙ ap (λ (m : WaitMap g.row.V.Denot). get nat_eq m n) c.self.view_is in
    let both = both_removed (near_at c.self.inside.near) (near_at c.take.new.self) (get nat_eq c.self.inside.far) (get nat_eq c.far_take.new.far) c.args.number c.take.ensures.values c.far_take.ensures.values n in
    table_has c.take.new.self c.far_take.new.far n ∙ both ∙ ap (λ (o : Option g.row.V.Denot). cond (eqb c.args.number n) None o) is

pub invariant_of-self-in-None : goal.invariant_of-self-in-None
invariant_of-self-in-None g c = record {
  apart = apart_without (near_at c.self.inside.near) (near_at c.take.new.self) (get nat_eq c.self.inside.far) (get nat_eq c.far_take.new.far) c.args.number None c.self.invariant.apart c.take.ensures.values c.far_take.ensures.values;
  above = above_removed (get nat_eq c.self.inside.far) (get nat_eq c.far_take.new.far) c.args.number c.self.inside.last c.self.invariant.above c.far_take.ensures.values;
}
