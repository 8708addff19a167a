use Rattle.std.proofs.Common.{arith, drop, sym, ◌∙◌}
use Rattle.ca_reader.specs.View.{form_tree}
use Rattle.ca_forms.specs.Tops.{one_top, def_top, bound_top}
use Rattle.ca_check.specs.TopsView.{tops_of}
use Rattle.ca_forms.specs.Walk.{walk}
use Rattle.ca_forms.specs.WalkView.{gathered, form_parts}
use Rattle.ca_check.proofs.TopLaws.{def_redefined, def_free, def_short, def_long, leads_by, stops_by}
use Rattle.ca_check.proofs.tops.Expansion.definition.Goals as goal

pub returns-then-is_taken-clause-err : goal.returns-then-is_taken-clause-err
returns-then-is_taken-clause-err c rest =
    def_redefined c.args.parts.now c.name-item.result c.value-item.result c.args.place rest (tops_of c.args.self.now.definitions) (gathered c.args.self.now.definitions.walker.gathered) c.in-Some.name.now (omega arith) c.name-item.is c.value-item.is
    c.in-Some.ensures (sym c.is_taken.ensures ∙ c.if-is_taken.true)

pub returns-else-is_taken-clause-ok : goal.returns-else-is_taken-clause-ok
returns-else-is_taken-clause-ok c =
    leads_by c.bind.result (one_top (def_top (form_parts (drop 1 c.args.parts.now))) c.args.place) (bound_top c.in-Some.name.now (walk (form_tree c.value-item.result)) 1 c.args.place) c.args.self.now c.bind.new.self
    (λ rest. def_free c.args.parts.now c.name-item.result c.value-item.result c.args.place rest (tops_of c.args.self.now.definitions) (gathered c.args.self.now.definitions.walker.gathered) c.in-Some.name.now (omega arith) c.name-item.is c.value-item.is
    c.in-Some.ensures (sym c.is_taken.ensures ∙ c.if-is_taken.false)) c.bind.ensures.ok

pub returns-else-is_taken-clause-err : goal.returns-else-is_taken-clause-err
returns-else-is_taken-clause-err c =
    stops_by c.bind.result (one_top (def_top (form_parts (drop 1 c.args.parts.now))) c.args.place) (bound_top c.in-Some.name.now (walk (form_tree c.value-item.result)) 1 c.args.place) c.args.self.now
    (λ rest. def_free c.args.parts.now c.name-item.result c.value-item.result c.args.place rest (tops_of c.args.self.now.definitions) (gathered c.args.self.now.definitions.walker.gathered) c.in-Some.name.now (omega arith) c.name-item.is c.value-item.is
    c.in-Some.ensures (sym c.is_taken.ensures ∙ c.if-is_taken.false)) c.bind.ensures.err

pub returns-in_default-clause-err : goal.returns-in_default-clause-err
returns-in_default-clause-err c rest = def_short c.args.parts.now c.args.place rest (tops_of c.args.self.now.definitions) (gathered c.args.self.now.definitions.walker.gathered) (omega arith)

pub returns-in_default-2-clause-err : goal.returns-in_default-2-clause-err
returns-in_default-2-clause-err c rest = def_long c.args.parts.now c.args.place rest (tops_of c.args.self.now.definitions) (gathered c.args.self.now.definitions.walker.gathered) (omega arith)
