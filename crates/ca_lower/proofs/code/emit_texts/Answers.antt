use Rattle.std.proofs.Common.{◌≡◌, ◌-◌, ◌<◌, ◌++◌, ◌∷◌, [], length, Some, None, ap, ◌∙◌, arith, rules}
use Rattle.std.specs.Prelude.{slice_get}
use Rattle.ca_value.specs.Seq.{list}
use Rattle.ca_term.specs.Program.{procedure_view, program_view, arity}
use Rattle.ca_states.specs.declared.code.EntryPoint.{EntryPoint}
use Rattle.ca_lower.specs.Emit.{at_work, emit_text, greater, width_of}
use Rattle.ca_lower.specs.Views.{builder_view, texts_of}
use Rattle.ca_lower.proofs.LaidLaws.{laid_begin, laid_code, laid_next, laid_wide, got_within}
use Rattle.ca_lower.proofs.code.emit_texts.Goals as goal

pub returns-in_default-clause-code : goal.returns-in_default-clause-code
returns-in_default-clause-code c =
    let fs = texts_of (program_view c.args.program.now) c.args.texts in
    let e : slice_get fs c.loop-text.number ≡ None = search rules in
    laid_code fs c.loop-text.number (builder_view c.loop-text.builder) (builder_view c.args.builder.now) (list c.loop-text.laid.entries) c.loop-text.laid.widest e c.loop-text.invariant

pub returns-in_default-clause-begin : goal.returns-in_default-clause-begin
returns-in_default-clause-begin c =
    let fs = texts_of (program_view c.args.program.now) c.args.texts in
    let e : slice_get fs c.loop-text.number ≡ None = search rules in
    laid_begin fs c.loop-text.number (builder_view c.loop-text.builder) (builder_view c.args.builder.now) (list c.loop-text.laid.entries) c.loop-text.laid.widest e c.loop-text.invariant

pub returns-in_default-clause-wide : goal.returns-in_default-clause-wide
returns-in_default-clause-wide c =
    let fs = texts_of (program_view c.args.program.now) c.args.texts in
    let e : slice_get fs c.loop-text.number ≡ None = search rules in
    laid_wide fs c.loop-text.number (builder_view c.loop-text.builder) (builder_view c.args.builder.now) (list c.loop-text.laid.entries) c.loop-text.laid.widest e c.loop-text.invariant

pub loop-text-smaller : goal.loop-text-smaller
loop-text-smaller c =
    let fs = texts_of (program_view c.args.program.now) c.args.texts in
    let e : slice_get fs c.loop-text.number ≡ Some (procedure_view c.in-Some.text.now) = search rules in
    let lt = got_within fs c.loop-text.number (procedure_view c.in-Some.text.now) e in
    let n = c.in_ok-number.ensures in
    let less : length fs - c.in_ok-number.number < length fs - c.loop-text.number = omega (arith, lt, n) in
    less

pub loop-text-preserved : goal.loop-text-preserved
loop-text-preserved c =
    let fs = texts_of (program_view c.args.program.now) c.args.texts in
    let t = procedure_view c.in-Some.text.now in
    let B = builder_view c.loop-text.builder in
    let es = list c.loop-text.laid.entries in
    let e : slice_get fs c.loop-text.number ≡ Some t = search rules in
    let b : builder_view c.emit_text.new.builder ≡ emit_text t B = search rules in
    let w : c.in_ok-width.width ≡ width_of t = search rules in
    let one : EntryPoint = record { block = at_work B; values = arity t } in
    let added : list c.push.new.self ≡ es ++ one ∷ [] = search rules in
    laid_next fs c.loop-text.number c.in_ok-number.number t B (builder_view c.emit_text.new.builder) (builder_view c.args.builder.now) es (list c.push.new.self) c.loop-text.laid.widest c.greater.result
    e c.in_ok-number.ensures b added (c.greater.ensures ∙ ap (greater c.loop-text.laid.widest) w) c.loop-text.invariant
