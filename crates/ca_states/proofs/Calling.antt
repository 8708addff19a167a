-- A runner that calls a function by itself stands in valid code.
use Rattle.std.proofs.Common.{◌≡◌, ℕ, ◌<◌, ◌≤◌, List, [], length, arith}
use Rattle.ca_value.specs.Tree.{Tree}
use Rattle.ca_states.specs.Code.{CodeView, block_at, function_at}
use Rattle.ca_states.specs.Machine.{begun, calling}
use Rattle.ca_states.specs.Valid.{identity_entry}
use Rattle.ca_states.specs.Standing.{HasRoom, RunnerStands}
use Rattle.ca_states.proofs.StandingLaws.{ValidParts, has_room, begun_length}

-- the text that it returns to has a slot for its value
pub identity_room : (C : CodeView) → ValidParts C → HasRoom C (identity_entry C) 1
identity_room C v = has_room C v (identity_entry C) v.identity

pub calling_standing : (C : CodeView) → ValidParts C → (n : ℕ) (vs : List Tree) → HasRoom C (function_at C n) (length vs) → RunnerStands C (calling C n vs)
calling_standing C v n vs room =
    let own = identity_room C v in
    let width = (block_at C C.identity).width in
    let one : 1 ≤ width = own.1 in
    let wide : length (begun width []) ≡ width = begun_length width [] (omega arith) in
    let first : 0 < length (begun width []) = omega (arith, wide, one) in
    record { slots = (room.0, begun_length (block_at C (function_at C n).block).width vs room.1); frames = ((own.0, wide), first, tt); turns = omega arith; depth = omega arith }
