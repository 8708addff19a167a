use Rattle.std.proofs.Common.{rules, ◌≡◌, ◌+◌, ◌++◌, ap, sym, ◌∙◌, arith, List, ℕ}
use Rattle.ca_value.specs.Seq.{list}
use Rattle.ca_forms.specs.Tops.{numbers}
use Rattle.ca_check.proofs.DefnLaws.{numbers_step, numbers_over, names_from}
use Rattle.ca_check.proofs.function_body.parameter_numbers.Goals as goal

pub loop-i-preserved : goal.loop-i-preserved
loop-i-preserved c = record {
  same = ap (λ (ns : List ℕ). ns ++ numbers (c.args.first + (c.loop-i.i + 1)) (names_from c.args.parameters.now (c.loop-i.i + 1))) c.push.ensures.added
      ∙ numbers_step (list c.loop-i.numbers) c.args.first c.args.parameters.now c.loop-i.i (omega arith) ∙ c.loop-i.invariant.same;
  room = search rules;
}

pub returns : goal.returns
returns c =
    let start : c.args.first + 0 ≡ c.args.first = omega arith in
    record {
      ok = sym (numbers_over (list c.loop-i.numbers) c.args.first c.args.parameters.now c.loop-i.i (omega arith)) ∙ c.loop-i.invariant.same
          ∙ ap (λ n. numbers n (names_from c.args.parameters.now 0)) start;
    }
