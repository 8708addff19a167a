-- Code and its runners may go to another thread, and several may see the same code.
use denote.Param.Send.{IsSend, IsSync, sendable}
use denote.Param.SendFields.{declared_send, declared_sync, variants_send, variants_sync}
use Rattle.std.proofs.Crossing.{crosses}
use Rattle.ca_value.proofs.Crosses.{value_send, value_sync, vector_send}
use Rattle.ca_value.proofs.seq.Seq.TheSendSync as seq
use Rattle.ca_value.proofs.value.PortId.TheSendSync as port
use Rattle.ca_value.proofs.builtin.Builtin.TheSendSync as builtin
use Rattle.ca_term.proofs.fault.Fault.TheSendSync as fault
use Rattle.ca_term.proofs.head.RegisterName.TheSendSync as name
use Rattle.ca_term.proofs.head.SystemTask.TheSendSync as task
use Rattle.ca_term.proofs.place.Place.TheSendSync as place
use Rattle.ca_term.specs.contracts.operation.GoSeed as GoSeed
use Rattle.ca_term.specs.contracts.operation.Op as Op
use Rattle.ca_term.specs.contracts.operation.Seed as Seed
use Rattle.ca_term.specs.contracts.operation.SystemSeed as SystemSeed
use Rattle.ca_term.specs.contracts.operation.Want as Want
use Rattle.ca_term.specs.contracts.operation.What as What
use Rattle.ca_states.proofs.code.EntryPoint.TheSendSync as entry_point
use Rattle.ca_states.proofs.code.Exit.TheSendSync as exit
use Rattle.ca_states.proofs.code.Mark.TheSendSync as code_mark
use Rattle.ca_states.proofs.code.SlotSet.TheSendSync as slots
use Rattle.ca_states.specs.contracts.calls.Calls as Calls
use Rattle.ca_states.specs.contracts.calls.Frame as Frame
use Rattle.ca_states.specs.contracts.code.Block as Block
use Rattle.ca_states.specs.contracts.code.Code as Code
use Rattle.ca_states.specs.contracts.code.Instr as Instr
use Rattle.ca_states.specs.contracts.runner.Halt as Halt
use Rattle.ca_states.specs.contracts.runner.Runner as Runner
use Rattle.ca_states.specs.contracts.valid_code.ValidCode as ValidCode

ruleset sends = (sendable, crosses, value_send, seq.the_send, port.the_send, builtin.the_send, fault.the_send, name.the_send, task.the_send, place.the_send)

ruleset syncs = (sendable, crosses, value_sync, seq.the_sync, builtin.the_sync, place.the_sync)

-- what a task asks for
what_send : IsSend What.the_row
what_send = variants_send What.enum (search sends depth 20)

go_seed_send : IsSend GoSeed.the_row
go_seed_send = declared_send GoSeed.the_type (search sends depth 20)

system_seed_send : IsSend SystemSeed.the_row
system_seed_send = declared_send SystemSeed.the_type (search sends depth 20)

seed_send : IsSend Seed.the_row
seed_send = variants_send Seed.enum (search (sendable, go_seed_send, system_seed_send) depth 20)

op_send : IsSend Op.the_row
op_send = variants_send Op.enum (search (sends, vector_send, what_send, seed_send) depth 20)

pub want_send : IsSend Want.the_row
want_send = declared_send Want.the_type (search (sendable, op_send, place.the_send) depth 20)

-- where it stands
pub halt_send : IsSend Halt.the_row
halt_send = variants_send Halt.enum (search (sendable, want_send, value_send, fault.the_send, place.the_send) depth 20)

frame_send : IsSend Frame.the_row
frame_send = declared_send Frame.the_type (search sends depth 20)

calls_send : IsSend Calls.the_row
calls_send = declared_send Calls.the_type (search (sends, frame_send) depth 20)

pub runner_send : IsSend Runner.the_row
runner_send = declared_send Runner.the_type (search (sends, calls_send) depth 20)

-- the code
instr_send : IsSend Instr.the_row
instr_send = variants_send Instr.enum (search sends depth 20)

instr_sync : IsSync Instr.the_row
instr_sync = variants_sync Instr.enum (search syncs depth 20)

block_send : IsSend Block.the_row
block_send = declared_send Block.the_type (search (sends, slots.the_send, instr_send, exit.the_send) depth 20)

block_sync : IsSync Block.the_row
block_sync = declared_sync Block.the_type (search (syncs, slots.the_sync, instr_sync, exit.the_sync) depth 20)

code_send : IsSend Code.the_row
code_send = declared_send Code.the_type (search (sends, block_send, entry_point.the_send, code_mark.the_send) depth 20)

code_sync : IsSync Code.the_row
code_sync = declared_sync Code.the_type (search (syncs, block_sync, entry_point.the_sync, code_mark.the_sync) depth 20)

pub valid_code_send : IsSend ValidCode.the_row
valid_code_send = declared_send ValidCode.the_type (search (sendable, code_send) depth 20)

pub valid_code_sync : IsSync ValidCode.the_row
valid_code_sync = declared_sync ValidCode.the_type (search (sendable, code_sync) depth 20)
