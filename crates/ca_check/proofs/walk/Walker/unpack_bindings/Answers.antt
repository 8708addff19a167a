use Rattle.std.proofs.Common.{◌<◌, ◌+◌, ◌*◌, ◌++◌, List, ℕ, length, ap, sym, ◌∙◌, arith, length-append}
use Rattle.ca_value.specs.Seq.{list}
use Rattle.ca_reader.specs.View.{form_trees}
use Rattle.ca_forms.specs.Judged.{total_names}
use Rattle.ca_check.specs.TopsView.{pattern_names}
use Rattle.ca_forms.specs.WalkView.{terms_of}
use Rattle.ca_check.proofs.AgainLaws.{unpack_step, inside_step, unpack_over, inside_over, counted_here, counted_next, many_from}
use Rattle.ca_check.proofs.DefnLaws.{names_length}
use Rattle.ca_forms.proofs.LoopLaws.{binders_from}
use Rattle.ca_check.proofs.walk.Walker.unpack_bindings.Goals as goal

pub unpack-requires : goal.unpack-requires
unpack-requires c =
    let h : 2 * c.loop-i.i + 1 < length c.args.items.now = omega (arith, c.loop-i-test.true) in
    counted_here c.args.items.now c.loop-i.i c.index-items-i.result c.pattern_items.result.now h c.index-items-i.is c.pattern_items.ensures c.loop-i.invariant.counted

pub loop-i-preserved : goal.loop-i-preserved
loop-i-preserved c =
    let h : 2 * c.loop-i.i + 1 < length c.args.items.now = omega (arith, c.loop-i-test.true) in
    let names = c.in_ok-values.ensures.names in
    record {
      same = unpack_step c.args.place c.args.first c.args.items.now c.loop-i.i c.index-items-i.result c.pattern_items.result.now (list c.loop-i.values) (list c.in_ok-values.values) h c.index-items-i.is c.pattern_items.ensures c.in_ok-values.ensures.ok ∙ c.loop-i.invariant.same;
      names = ap (λ (sc : List (List ℕ)). sc ++ pattern_names (binders_from c.args.items.now (c.loop-i.i + 1))) names
          ∙ inside_step c.loop-i.self.scope c.args.items.now c.loop-i.i c.index-items-i.result c.pattern_items.result.now h c.index-items-i.is c.pattern_items.ensures ∙ c.loop-i.invariant.names;
      longer = omega (arith, ap (λ (sc : List (List ℕ)). length sc) names, length-append c.loop-i.self.scope (total_names (form_trees c.pattern_items.result.now)), names_length c.pattern_items.result.now, c.in_ok-values.ensures.longer, c.loop-i.invariant.longer);
      kept = c.in_ok-values.ensures.gathered ∙ c.loop-i.invariant.kept;
      counted = counted_next c.args.items.now c.loop-i.i c.index-items-i.result h c.index-items-i.is c.loop-i.invariant.counted;
      room = omega (arith, many_from c.args.items.now c.loop-i.i c.index-items-i.result h c.index-items-i.is, c.loop-i.invariant.room);
    }

pub returns-clause-ok : goal.returns-clause-ok
returns-clause-ok c = sym (unpack_over c.args.place (c.args.first + c.loop-i.i) c.args.items.now c.loop-i.i (terms_of (list c.loop-i.values)) (omega (arith, c.loop-i-test.false))) ∙ c.loop-i.invariant.same

pub returns-clause-names : goal.returns-clause-names
returns-clause-names c = sym (inside_over c.args.items.now c.loop-i.i c.loop-i.self.scope (omega (arith, c.loop-i-test.false))) ∙ c.loop-i.invariant.names
