use Rattle.std.proofs.Common.{rules, ◌≡◌, true, false, sym, ◌∙◌}
use Rattle.std.specs.List.{list_any}
use Rattle.ca_value.specs.Seq.{list}
use Rattle.ca_term.specs.View.{kernel}
use Rattle.ca_reader.specs.View.{form_trees}
use Rattle.ca_forms.specs.Binders.{is_pattern, unpacked}
use Rattle.ca_forms.specs.Meaning.{Meaning, block}
use Rattle.ca_forms.specs.Plain.{meanings}
use Rattle.ca_check.specs.TopsView.{total_binders}
use Rattle.ca_forms.specs.WalkView.{gathered, env, form_parts, terms_of, Fails}
use Rattle.ca_check.proofs.DefnLaws.{if_ok_by}
use Rattle.ca_check.proofs.PatternLaws.{unpacked_without, unpacked_walked, unpacked_fails}
use Rattle.ca_check.proofs.walk.Walker.unpacked.Goals as goal

pub returns-then-not-have_pattern-clause-ok : goal.returns-then-not-have_pattern-clause-ok
returns-then-not-have_pattern-clause-ok c =
    let m : Meaning = block (meanings (form_parts c.args.body.now)) in
    let bs = total_binders (form_trees c.args.parameters.now) in
    let no : list_any is_pattern bs ≡ false = sym c.have_pattern.ensures ∙ search rules in
    rw (unpacked_without c.args.place c.args.first bs m no) c.block.ensures.ok

pub returns-then-not-have_pattern-clause-err : goal.returns-then-not-have_pattern-clause-err
returns-then-not-have_pattern-clause-err c =
    let m : Meaning = block (meanings (form_parts c.args.body.now)) in
    let bs = total_binders (form_trees c.args.parameters.now) in
    let no : list_any is_pattern bs ≡ false = sym c.have_pattern.ensures ∙ search rules in
    rw (unpacked_without c.args.place c.args.first bs m no) c.block.ensures.err

pub returns-clause-ok : goal.returns-clause-ok
returns-clause-ok c =
    let m : Meaning = block (meanings (form_parts c.args.body.now)) in
    let bs = total_binders (form_trees c.args.parameters.now) in
    let e = env c.args.self.now.scope c.args.functions.now c.args.at in
    let yes : list_any is_pattern bs ≡ true = sym c.have_pattern.ensures ∙ search rules in
    if_ok_by c.bind.result _ _ (λ t h.
    unpacked_walked e c.args.place c.args.first bs m c.args.self.now.scope c.unpack_patterns.new.self.scope (gathered c.args.self.now.gathered) (gathered c.unpack_patterns.new.self.gathered) yes
    c.in_ok-values.ensures.names c.in_ok-values.ensures.gathered (kernel c.in_ok-made.made) (gathered c.block-2.new.self.gathered) (terms_of (list c.in_ok-values.values)) c.in_ok-made.ensures.ok c.in_ok-values.ensures.ok
    ∙ rw c.len-size.ensures at h) c.bind.ensures.ok

pub returns-in_err-made-clause-err : goal.returns-in_err-made-clause-err
returns-in_err-made-clause-err c =
    let m : Meaning = block (meanings (form_parts c.args.body.now)) in
    let bs = total_binders (form_trees c.args.parameters.now) in
    let e = env c.args.self.now.scope c.args.functions.now c.args.at in
    let yes : list_any is_pattern bs ≡ true = sym c.have_pattern.ensures ∙ search rules in
    let h : Fails c.in_err-made.field-0.0 (unpacked c.args.place c.args.first bs m e (gathered c.args.self.now.gathered))
    = unpacked_fails e c.args.place c.args.first bs m c.args.self.now.scope c.unpack_patterns.new.self.scope (gathered c.args.self.now.gathered) (gathered c.unpack_patterns.new.self.gathered) yes
    c.in_ok-values.ensures.names c.in_ok-values.ensures.gathered c.in_err-made.field-0.0 c.in_err-made.ensures.err in
    search rules
