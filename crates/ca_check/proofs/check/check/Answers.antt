use Rattle.std.proofs.Common.{rules, ◌≡◌, Ok, map, ap, sym, ◌∙◌, List}
use Rattle.ca_value.specs.Seq.{list}
use Rattle.ca_term.specs.Program.{program_view, procedure_view}
use Rattle.ca_term.specs.Kernel.{Kernel}
use Rattle.ca_reader.specs.declared.form.Form.{Form}
use Rattle.ca_reader.specs.View.{form_trees}
use Rattle.ca_check.specs.Expansion.{expansion_of, program_of, RefusesForms}
use Rattle.ca_forms.specs.WalkView.{gathered}
use Rattle.ca_check.proofs.Checked.{accepted_program}
use Rattle.ca_check.proofs.ScriptLaws.{refuses_is}
use Rattle.ca_check.proofs.check.check.Goals as goal

pub of-requires : goal.of-requires
of-requires c =
    let e = c.in_ok-expansion.expansion in
    let ran : expansion_of (form_trees (list c.args.forms.now)) ≡ Ok (program_view (record { functions = e.definitions.procedures; bodies = e.definitions.walker.gathered.bodies; main = c.in_ok-main.main }))
    = ap (λ (fs : List Form). expansion_of (form_trees fs)) (sym c.as_slice.ensures) ∙ ap program_of c.in_ok-expansion.ensures.ok
    ∙ ap (λ (k : Kernel). Ok (record { functions = map procedure_view (list e.definitions.procedures); bodies = (gathered e.definitions.walker.gathered).bodies; main = k })) (sym c.in_ok-main.ensures.ok) in
    accepted_program (form_trees (list c.args.forms.now)) _ ran

pub returns-clause-accepted : goal.returns-clause-accepted
returns-clause-accepted c =
    let e = c.in_ok-expansion.expansion in
    let ran : expansion_of (form_trees (list c.args.forms.now)) ≡ Ok (program_view (record { functions = e.definitions.procedures; bodies = e.definitions.walker.gathered.bodies; main = c.in_ok-main.main }))
    = ap (λ (fs : List Form). expansion_of (form_trees fs)) (sym c.as_slice.ensures) ∙ ap program_of c.in_ok-expansion.ensures.ok
    ∙ ap (λ (k : Kernel). Ok (record { functions = map procedure_view (list e.definitions.procedures); bodies = (gathered e.definitions.walker.gathered).bodies; main = k })) (sym c.in_ok-main.ensures.ok) in
    ran ∙ ap (λ p. Ok (program_view p)) (sym c.of.ensures)

pub returns-in_err-expansion-clause-refused : goal.returns-in_err-expansion-clause-refused
returns-in_err-expansion-clause-refused c =
    let h : RefusesForms c.in_err-expansion.field-0.0 (form_trees c.as_slice.result.now) = refuses_is c.in_err-expansion.field-0.0 (form_trees c.as_slice.result.now) c.in_err-expansion.ensures.err in
    let g : RefusesForms c.in_err-expansion.field-0.0 (form_trees (list c.args.forms.now)) = rw c.as_slice.ensures at h in
    search rules
