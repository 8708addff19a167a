use Rattle.std.proofs.Common.{arith}
use Rattle.ca_reader.proofs.Stack.{pushed}
use Rattle.ca_reader.proofs.nest.Nest.push.Goals as goal

pub returns-clause-ok : goal.returns-clause-ok
returns-clause-ok c =
    pushed c.args.self.now.open.items c.args.self.now.forms.items c.push.new.self.items c.args.form (omega arith) c.in_ok-push.ensures.items
