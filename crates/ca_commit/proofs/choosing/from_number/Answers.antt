use Rattle.ca_commit.proofs.ChoosingLaws.{first_chosen, second_chosen, second_seen}
use Rattle.ca_commit.proofs.choosing.from_number.Goals as goal

pub returns-in-Branch-clause-choice : goal.returns-in-Branch-clause-choice
returns-in-Branch-clause-choice c = first_chosen c.args.banks.now c.args.ports.now c.args.at c.in-Branch.number c.in-Branch.sight c.in-Branch.ensures.there c.in-Branch.ensures.choice

pub returns-in-Unready-clause-choice : goal.returns-in-Unready-clause-choice
returns-in-Unready-clause-choice c = second_chosen c.args.banks.now c.args.ports.now c.args.at c.in_turn-in-Unready.result c.in-Unready.ensures.choice c.in_turn-in-Unready.ensures.there c.in_turn-in-Unready.ensures.choice

pub returns-in-Unready-clause-there : goal.returns-in-Unready-clause-there
returns-in-Unready-clause-there c = second_seen c.args.banks.now c.args.ports.now c.args.at c.in_turn-in-Unready.result c.in_turn-in-Unready.ensures.there
