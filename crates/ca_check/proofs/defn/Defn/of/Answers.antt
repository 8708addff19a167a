use Rattle.ca_check.proofs.DefnLaws.{defn_short}
use Rattle.ca_check.proofs.defn.Defn.of.Goals as goal

pub returns-then-parts-lt3 : goal.returns-then-parts-lt3
returns-then-parts-lt3 c = defn_short c.args.parts.now c.if-parts-lt3.true
