use Rattle.std.proofs.Common.{◌≢◌, sym, ap, cond, None, length, arith}
use Rattle.ca_value.specs.View.{trees}
use Rattle.ca_term.specs.Operands.{second_of}
use Rattle.ca_term.specs.Asking.{too_large}
use Rattle.ca_asking.proofs.OperandLaws.{not-pair}
use Rattle.ca_asking.proofs.judging.pair_fault.Goals as goal

pub returns-else-items-eq2 : goal.returns-else-items-eq2
returns-else-items-eq2 c = let ne : length c.args.items.now ≢ 2 = omega arith in sym (ap (λ b. cond b (too_large (second_of (trees c.args.items.now))) None) (not-pair c.args.items.now ne))
