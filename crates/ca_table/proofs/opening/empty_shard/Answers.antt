use Rattle.std.proofs.Common.{◌∙◌, ap}
use Rattle.std.specs.Prelude.{option_map}
use Rattle.ca_states.specs.ValidCode.{valid_code}
use Rattle.ca_bank.specs.declared.shard.Shard.{Shard}
use Rattle.ca_commit.specs.declared.task.Task.{Task}
use Rattle.ca_commit.specs.Showing.{parked_view}
use Rattle.ca_table.specs.Opening.{seen_part}
use Rattle.ca_table.specs.Parts.{shard_seen}
use Rattle.ca_table.specs.Seen.{seen_shard}
use Rattle.ca_table.proofs.Finite.{empty_finite}
use Rattle.ca_table.proofs.opening.empty_shard.Goals as goal

pub returns : goal.returns
returns g c = let s = c.new-shard in ap (λ code. seen_part {A = g.row.A.Denot} c.args.workers (valid_code code) (seen_shard (shard_seen c.in_ok-new.field-0.shard.value))) c.of.ensures
    ∙ ap (λ (x : Shard (Task g.row.A.Denot)). seen_part c.args.workers (valid_code c.args.code.now) (seen_shard (shard_seen x))) c.in_ok-new.ensures.shard
    ∙ ap (λ x. seen_part c.args.workers (valid_code c.args.code.now) (seen_shard x)) (empty_finite parked_view s.result.waits (λ w. ap (option_map parked_view) (s.ensures.empty w)))
