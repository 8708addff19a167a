use Rattle.ca_reader.proofs.Stack.{end_inside}
use Rattle.ca_reader.proofs.nest.Nest.finish.Goals as goal

pub returns-clause-err : goal.returns-clause-err
returns-clause-err c = end_inside c.pop.new.self.items c.args.self.open.items c.in-Some.opened c.args.self.forms.items c.in-Some.ensures.items
