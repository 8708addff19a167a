-- The gate may be shared among threads.
use denote.Param.Send.{IsSync, sendable}
use denote.Param.SendFields.{declared_sync}
use Rattle.std.proofs.Crossing.{crosses}
use Rattle.ca_run_rows.specs.contracts.passing.Passes as Passes
use Rattle.ca_run_rows.specs.contracts.passing.Waits as Waits
use Rattle.ca_run_rows.specs.contracts.disjoint.Disjoint as Disjoint

passes_sync : IsSync Passes.the_row
passes_sync = declared_sync Passes.the_type (search (sendable, crosses) depth 20)

waits_sync : IsSync Waits.the_row
waits_sync = declared_sync Waits.the_type (search (sendable, crosses) depth 20)

pub gate_sync : IsSync Disjoint.the_row
gate_sync = declared_sync Disjoint.the_type (search (sendable, passes_sync, waits_sync) depth 20)
