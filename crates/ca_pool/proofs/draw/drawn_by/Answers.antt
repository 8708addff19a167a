use Rattle.std.proofs.Common.{ap}
use Rattle.ca_table.specs.Draws.{turn_view}
use Rattle.ca_table.specs.Homes.{members}
use Rattle.ca_pool.proofs.draw.drawn_by.Goals as goal

pub returns-clause-view : goal.returns-clause-view
returns-clause-view g c = λ t. record { worker = c.args.worker.now.number; workers = c.args.worker.now.workers; what = turn_view c.args.what; ports = ap members c.of.ensures t; looked = ap members c.of-2.ensures t }
