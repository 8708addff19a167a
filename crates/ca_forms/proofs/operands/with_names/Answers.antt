use Rattle.std.proofs.Common.{rules, arith, ◌+◌, ap, sym, ◌∙◌, drop, get_or}
use Rattle.ca_value.specs.Seq.{list}
use Rattle.ca_term.specs.View.{kernels}
use Rattle.ca_forms.specs.Operands.{with_vars}
use Rattle.ca_forms.proofs.TermLaws.{with_vars_step, with_vars_end, drop_next, drop_all}
use Rattle.ca_forms.proofs.operands.with_names.Goals as goal

pub loop-name-preserved : goal.loop-name-preserved
loop-name-preserved c =
    let i = c.loop-name.name-index in
    let names = c.args.names.now in
    record {
      same = rw c.push.ensures.added (with_vars_step (list c.loop-name.operands) c.local.result (get_or names i 0) (drop (i + 1) names) c.local.ensures
          ∙ ap (with_vars (kernels (list c.loop-name.operands))) (sym (drop_next names i (omega arith))) ∙ c.loop-name.invariant.same);
      room = search rules;
    }

pub returns-clause-ok : goal.returns-clause-ok
returns-clause-ok c = sym (with_vars_end (kernels (list c.loop-name.operands)))
    ∙ ap (with_vars (kernels (list c.loop-name.operands))) (sym (drop_all c.args.names.now c.loop-name.name-index (omega arith))) ∙ c.loop-name.invariant.same
