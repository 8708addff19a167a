use denote.Builtin.{u64}
use denote.Param.{param}
use denote.Param.Send.{IsSync, sendable}
use Rattle.std.proofs.Crossing.{sync}
use Rattle.ca_table.specs.contracts.pool.Pool as Pool
use Rattle.ca_table.specs.contracts.pool.PoolObject.TheImpl.{ghosts, no_dict}
use Rattle.ca_states.proofs.Sending.{valid_code_sync}
use Rattle.ca_pool.proofs.Sending.{pool_sync, text_sync, worker_send}
use Rattle.ca_run_rows.proofs.Sending.{gate_sync}
use Rattle.ca_run_rows.proofs.beside.make_and_hold.Goals as goal

pub for_each_mut-requires-send-T : goal.for_each_mut-requires-send-T
for_each_mut-requires-send-T g c κs within = search (sendable, worker_send) depth 20

-- each reference that the closure captures, in the order of the call: a search over all of them breaks off
pub for_each_mut-requires-sync-F : goal.for_each_mut-requires-sync-F
for_each_mut-requires-sync-F g c κs within =
    let bounds = c.type_bounds in
    let number : IsSync u64 = search sendable in
    let table = pool_sync _ _ bounds.send-A bounds.send-C (Pool.the_row (param 1 g.row.A) (param 2 g.row.C)) (ghosts (param 1 g.row.A) (param 2 g.row.C) g.A.Agent no_dict g.C.Clock no_dict no_dict no_dict) in
    record { shared = λ x d o κ. ((((λ q. tt), bounds.sync-R.shared x.0.now x.0.ref_ptr.0 x.0.ref_ptr.1 _), (((λ q. tt), sync.shared x.1.now x.1.ref_ptr.0 x.1.ref_ptr.1 κ), (((λ q. tt), table.shared x.2.now x.2.ref_ptr.0 x.2.ref_ptr.1 _), (((λ q. tt), text_sync.shared x.3.now x.3.ref_ptr.0 x.3.ref_ptr.1 κ), (((λ q. tt), valid_code_sync.shared x.4.now x.4.ref_ptr.0 x.4.ref_ptr.1 _), (((λ q. tt), number.shared x.5.now x.5.ref_ptr.0 x.5.ref_ptr.1 κ), (((λ q. tt), gate_sync.shared x.6.now x.6.ref_ptr.0 x.6.ref_ptr.1 _), tt))))))), λ q. tt) }
