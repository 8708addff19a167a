use Rattle.std.proofs.Common.{sym}
use Rattle.ca_forms.proofs.FunctionsLaws.{found_by_position, missed_by_position}
use Rattle.ca_forms.proofs.functions.Functions.find.Goals as goal

pub returns-in-Some-clause-some : goal.returns-in-Some-clause-some
returns-in-Some-clause-some c = rw (sym c.self.view_is) (found_by_position (λ v. v.items) c.args.name.now c.self.inside.table.entries c.in-Some.number c.in-Some.field-0-1.now c.in-Some.function.now (sym c.in-Some.ensures.index) c.in-Some.ensures.entry)

pub returns-in-None-clause-none : goal.returns-in-None-clause-none
returns-in-None-clause-none c = rw (sym c.self.view_is) (missed_by_position (λ v. v.items) c.args.name.now c.self.inside.table.entries (sym c.in-None.ensures.index))
