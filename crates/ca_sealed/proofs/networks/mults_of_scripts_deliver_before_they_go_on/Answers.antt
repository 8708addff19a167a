use Rattle.ca_sealed.proofs.networks.mults_of_scripts_deliver_before_they_go_on.Goals as goal

pub returns : goal.returns
returns c = λ forms program e. c.mults_deliver_before_they_go_on.ensures program (c.programs_are_checked.ensures forms program e) (c.checked_programs_are_sealed.ensures forms program e) (c.checked_programs_start_once.ensures forms program e)
