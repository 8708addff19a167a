use Rattle.std.proofs.Common.{arith}
use Rattle.ca_check.proofs.DefnLaws.{names_many}
use Rattle.ca_check.proofs.walk.Walker.straight.Goals as goal

pub unpacked-requires-clause-room : goal.unpacked-requires-clause-room
unpacked-requires-clause-room c = omega (arith, c.len-size.ensures, names_many c.args.self.now.scope c.bind_parameters.new.self.scope c.args.defn.now.parameters.now c.in_ok-bind_parameters.ensures.ok)
