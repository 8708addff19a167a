use Rattle.std.proofs.Common.{◌∙◌, Some, codes, ap₂}
use Rattle.std.specs.Prelude.{option_to_list}
use Rattle.clap.specs.Words.{found_of, rows_of}
use Rattle.clap.proofs.WalkLemmas.{first_value-rows, one_text-rows}
use Rattle.ca_words.specs.Words.{load_with, one_number, run_with, setting}
use Rattle.ca_words.proofs.reading.read.Goals as goal

pub returns-in-Run : goal.returns-in-Run
returns-in-Run c =
    let f = found_of c.args.matches.now in
    let rows = rows_of f in
    rw c.in-Run.is (λ journal e. c.read_run.ensures journal (one_text-rows f (codes "journal") ∙ e)
    ∙ ap₂ (λ w b. run_with (setting 1 1 16 (option_to_list w)) (setting 1000000 1 4000000 (option_to_list b)) (Some journal))
    (first_value-rows f (codes "workers")) (first_value-rows f (codes "budget")))

pub returns-in-Load : goal.returns-in-Load
returns-in-Load c =
    let f = found_of c.args.matches.now in
    rw c.in-Load.is (c.read_load.ensures
    ∙ ap₂ (λ n w. load_with (one_number 1 20000 (option_to_list n)) (setting 1 1 16 (option_to_list w)))
    (first_value-rows f (codes "n")) (first_value-rows f (codes "workers")))
