use Rattle.std.proofs.Common.{rules, ◌≡◌, ◌%◌, cond, length, None, option_map}
use Rattle.ca_value.specs.View.{trees, view}
use Rattle.ca_term.specs.Operation.{choosing}
use Rattle.ca_meaning.specs.Refusal.{bad_choice}
use Rattle.ca_commit.specs.Showing.{state_held}
use Rattle.ca_commit.specs.Standing.{op_at}
use Rattle.ca_commit.proofs.ChoosingLaws.{op_chosen, op_seen}
use Rattle.ca_commit.proofs.choosing.choose.Goals as goal

pub returns-in-None-clause-chosen : goal.returns-in-None-clause-chosen
returns-in-None-clause-chosen g c =
    let vs = c.as_slice-items.result.now in
    let op : op_at (g.A.Agent.place c.args.agent.now) ≡ choosing (trees vs) c.in-Alts.priority (option_map view c.in-Alts.default) = search rules in
    let right : bad_choice (state_held c.args.banks.now) (trees vs) ≡ None = search rules in
    let at : c.first_number-at.result ≡ cond c.in-Alts.priority 0 (c.args.start % length vs) = c.first_number-at.ensures.number in
    op_chosen c.args.banks.now (g.A.Agent.place c.args.agent.now) vs c.in-Alts.priority (option_map view c.in-Alts.default) c.args.start c.first_number-at.result c.from_number.result op right at c.from_number.ensures.there c.from_number.ensures.choice

pub returns-in-None-clause-there : goal.returns-in-None-clause-there
returns-in-None-clause-there g c =
    let vs = c.as_slice-items.result.now in
    let op : op_at (g.A.Agent.place c.args.agent.now) ≡ choosing (trees vs) c.in-Alts.priority (option_map view c.in-Alts.default) = search rules in
    op_seen c.args.banks.now (g.A.Agent.place c.args.agent.now) vs c.in-Alts.priority (option_map view c.in-Alts.default) c.from_number.result op c.from_number.ensures.there
