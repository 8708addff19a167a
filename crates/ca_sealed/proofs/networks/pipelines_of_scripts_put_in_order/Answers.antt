use Rattle.ca_sealed.proofs.networks.pipelines_of_scripts_put_in_order.Goals as goal

pub returns : goal.returns
returns c = λ forms program e. c.pipelines_put_in_order.ensures program (c.programs_are_checked.ensures forms program e) (c.checked_programs_are_sealed.ensures forms program e) (c.checked_programs_start_once.ensures forms program e)
