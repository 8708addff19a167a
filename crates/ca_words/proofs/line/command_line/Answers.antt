use Rattle.std.proofs.Common.{rules, ap, ap₂, codes, ◌≡◌, ◌∙◌}
use Rattle.clap.specs.Words.{App, app_of, shape_of, new_app, with_subcommand}
use Rattle.ca_words.specs.Line.{run_line, load_line, with_settings}
use Rattle.ca_words.proofs.line.command_line.Goals as goal

pub returns : goal.returns
returns c =
    let run = c.in_ok-run.ensures in
    let load = c.in_ok-load.ensures in
    let run_is : shape_of c.in_ok-run.run' ≡ run_line.top = ap (λ (a : App). a.top) run.0 in
    let check_is : shape_of c.new-check.result ≡ (new_app (codes "check")).top = ap (λ (a : App). a.top) c.new-check.ensures.app in
    let load_is : shape_of c.in_ok-load.load ≡ load_line.top = ap (λ (a : App). a.top) load.0 in
    let replay_is : shape_of c.new-replay.result ≡ (new_app (codes "replay")).top = ap (λ (a : App). a.top) c.new-replay.ensures.app in
    let follow_is : shape_of c.new-follow.result ≡ (new_app (codes "follow")).top = ap (λ (a : App). a.top) c.new-follow.ensures.app in
    let report_is : shape_of c.new-report.result ≡ (new_app (codes "report")).top = ap (λ (a : App). a.top) c.new-report.ensures.app in
    let start_is : app_of c.disable_help_subcommand-start.result ≡ with_settings (new_app (codes "runzolev")) = search rules in
    let one_is = c.in_ok-one.ensures.shape run.1 ∙ ap₂ with_subcommand start_is run_is in
    let two_is = c.in_ok-two.ensures.shape c.new-check.ensures.local ∙ ap₂ with_subcommand one_is check_is in
    let three_is = c.in_ok-three.ensures.shape load.1 ∙ ap₂ with_subcommand two_is load_is in
    let four_is = c.in_ok-four.ensures.shape c.new-replay.ensures.local ∙ ap₂ with_subcommand three_is replay_is in
    let five_is = c.in_ok-five.ensures.shape c.new-follow.ensures.local ∙ ap₂ with_subcommand four_is follow_is in
    c.in_ok-six.ensures.shape c.new-report.ensures.local ∙ ap₂ with_subcommand five_is report_is
