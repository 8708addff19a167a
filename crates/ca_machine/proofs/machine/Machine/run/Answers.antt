use Rattle.std.proofs.Common.{refl, sym, subst}
use Rattle.ca_states.specs.Machine.{ComesTo}
use Rattle.ca_states.specs.Standing.{RunnerStands, state_view}
use Rattle.ca_states.specs.ValidCode.{valid_code}
use Rattle.ca_machine.proofs.Halting.{goes, halts_in}
use Rattle.ca_machine.proofs.Tasks.{halts_has}
use Rattle.ca_machine.proofs.machine.Machine.run.Goals as goal

pub returns-in-Ok-clause-runs : goal.returns-in-Ok-clause-runs
returns-in-Ok-clause-runs c =
    let m = c.args.self.now in
    let h = c.in-Ok.ensures.halts in
    (refl, h.0, subst (λ C. ComesTo C (state_view m.runner) h.0) (sym c.requires.code) h.1, halts_in (valid_code m.code.value) h.0 c.run_to.new.halt c.run_to.new.self h.2)

pub returns-in-Ok-clause-has : goal.returns-in-Ok-clause-has
returns-in-Ok-clause-has c =
    let m = c.args.self.now in
    let C = valid_code c.args.code.now in
    let stands = subst (λ D. RunnerStands D (state_view m.runner)) c.requires.code (goes (valid_code m.code.value) m.runner m.stage m.halt c.requires.going m.ready) in
    halts_has C c.args.code.now.valid (state_view m.runner) c.run_to.new.halt c.run_to.new.self stands c.in-Ok.ensures.halts
