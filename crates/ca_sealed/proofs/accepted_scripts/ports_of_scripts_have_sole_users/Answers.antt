use Rattle.ca_sealed.proofs.accepted_scripts.ports_of_scripts_have_sole_users.Goals as goal

pub returns-clause-sole : goal.returns-clause-sole
returns-clause-sole c forms program e = c.ports_have_sole_users.ensures.sole program (c.programs_are_checked.ensures forms program e) (c.checked_programs_are_sealed.ensures forms program e) (c.checked_programs_start_once.ensures forms program e)

pub returns-clause-first : goal.returns-clause-first
returns-clause-first c forms program e = c.ports_have_sole_users.ensures.first program (c.programs_are_checked.ensures forms program e) (c.checked_programs_are_sealed.ensures forms program e) (c.checked_programs_start_once.ensures forms program e)
