use Rattle.std.proofs.Common.{◌-◌, arith}
use Rattle.ca_reader.specs.declared.nest.Opened.{Opened}
use Rattle.ca_reader.proofs.Stack.{deep, not_deep, opened, base_opened}
use Rattle.ca_reader.proofs.nest.Nest.open.Goals as goal

pub returns-then-len-ge-MOST_OPEN-clause-err : goal.returns-then-len-ge-MOST_OPEN-clause-err
returns-then-len-ge-MOST_OPEN-clause-err c = deep c.args.self.now.open.items c.args.self.now.forms.items c.args.bracket c.args.place (omega arith)

pub returns-clause-ok : goal.returns-clause-ok
returns-clause-ok c = not_deep c.args.self.now.open.items c.args.self.now.forms.items c.args.bracket c.args.place (omega arith)

pub returns-clause-becomes : goal.returns-clause-becomes
returns-clause-becomes c =
    let o : Opened = record { before = c.len-2.result - c.args.self.now.base; bracket = c.args.bracket; place = c.args.place } in
    opened c.args.self.now.open.items c.push.new.self.items o c.args.self.now.forms.items c.in-Ok.ensures.items (omega arith)

pub returns-clause-sound : goal.returns-clause-sound
returns-clause-sound c =
    let o : Opened = record { before = c.len-2.result - c.args.self.now.base; bracket = c.args.bracket; place = c.args.place } in
    let b = base_opened c.args.self.now.open.items c.push.new.self.items o c.in-Ok.ensures.items in
    (omega arith, omega arith)
