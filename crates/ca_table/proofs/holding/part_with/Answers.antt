use Rattle.ca_table.proofs.holding.part_with.Goals as goal

pub returns : goal.returns
returns g c = λ t. record { workers = c.args.workers; code = record { marker = record {}; value = c.of.ensures t }; contents = c.args.contents }
