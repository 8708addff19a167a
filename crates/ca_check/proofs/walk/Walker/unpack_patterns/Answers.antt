use Rattle.std.proofs.Common.{arith, ◌+◌, ◌<◌, ◌++◌, List, ℕ, length, ap, sym, ◌∙◌, length-append}
use Rattle.ca_value.specs.Seq.{list}
use Rattle.ca_reader.specs.View.{form_trees}
use Rattle.ca_forms.specs.Judged.{total_names}
use Rattle.ca_check.proofs.DefnLaws.{names_length}
use Rattle.ca_check.proofs.PatternLaws.{counted_at, parts_step, inner_step, inner_from, parts_over, inner_over}
use Rattle.ca_check.proofs.walk.Walker.unpack_patterns.Goals as goal

pub unpack-requires : goal.unpack-requires
unpack-requires c = counted_at c.args.parameters.now c.loop-i.i c.index-parameters-i.result c.pattern_items.result.now (omega arith) c.index-parameters-i.is c.pattern_items.ensures c.requires.patterns

pub loop-i-preserved : goal.loop-i-preserved
loop-i-preserved c =
    let within : c.loop-i.i < length c.args.parameters.now = omega arith in
    let names = c.in_ok-values.ensures.names in
    record {
      same = parts_step c.args.place c.args.first c.args.parameters.now c.loop-i.i c.index-parameters-i.result c.pattern_items.result.now (list c.loop-i.values) (list c.in_ok-values.values) within c.index-parameters-i.is c.pattern_items.ensures c.in_ok-values.ensures.ok ∙ c.loop-i.invariant.same;
      names = ap (λ (sc : List (List ℕ)). sc ++ inner_from c.args.parameters.now (c.loop-i.i + 1)) names
          ∙ inner_step c.loop-i.self.scope c.args.parameters.now c.loop-i.i c.index-parameters-i.result c.pattern_items.result.now within c.index-parameters-i.is c.pattern_items.ensures ∙ c.loop-i.invariant.names;
      longer = omega (arith, ap (λ (sc : List (List ℕ)). length sc) names, length-append c.loop-i.self.scope (total_names (form_trees c.pattern_items.result.now)), names_length c.pattern_items.result.now, c.in_ok-values.ensures.longer, c.loop-i.invariant.longer);
      kept = c.in_ok-values.ensures.gathered ∙ c.loop-i.invariant.kept;
    }

pub returns-clause-ok : goal.returns-clause-ok
returns-clause-ok c = sym (parts_over c.args.place c.args.first c.args.parameters.now c.loop-i.i (list c.loop-i.values) (omega arith)) ∙ c.loop-i.invariant.same

pub returns-clause-names : goal.returns-clause-names
returns-clause-names c = sym (inner_over c.loop-i.self.scope c.args.parameters.now c.loop-i.i (omega arith)) ∙ c.loop-i.invariant.names
