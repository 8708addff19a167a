-- Which buffer a policy of the code names.
use Rattle.ca_value.specs.Buffer.{Policy, no_buffer, fixed_buffer, dropping_buffer, sliding_buffer, promise_buffer}
use Rattle.ca_meaning.specs.declared.row.Policy.{Policy as PolicyCode}

abbrev pub policy_view : PolicyCode → Policy
policy_view PolicyCode.NoBuffer = no_buffer
policy_view PolicyCode.Fixed = fixed_buffer
policy_view PolicyCode.Dropping = dropping_buffer
policy_view PolicyCode.Sliding = sliding_buffer
policy_view PolicyCode.Promise = promise_buffer
