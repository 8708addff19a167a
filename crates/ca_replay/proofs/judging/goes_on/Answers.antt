use Rattle.std.proofs.Common.{◌≡◌, ◌∙◌, subst, true, false}
use Rattle.std.specs.Prelude.{IfOk}
use Rattle.ca_term.specs.Event.{EventView, event_view}
use Rattle.ca_journal.specs.Note.{note_view}
use Rattle.ca_replay.specs.Judged.{IsRefused, LeadsOn, SeesOn}
use Rattle.ca_replay.proofs.judging.goes_on.Goals as goal

pub returns-clause-run : goal.returns-clause-run
returns-clause-run g c =
    let e : event_view c.event.result.now ≡ note_view c.args.note.now = c.event.ensures ∙ c.in_ok-shown.ensures in
    subst (λ (v : EventView). IfOk c.does-is_legal.result (λ b. b ≡ true → LeadsOn g.O.Observer.most v c.args.world.now c.does-is_legal.new.world)) e c.does-is_legal.ensures.run

pub returns-clause-saw : goal.returns-clause-saw
returns-clause-saw g c =
    let e : event_view c.event.result.now ≡ note_view c.args.note.now = c.event.ensures ∙ c.in_ok-shown.ensures in
    subst (λ (v : EventView). IfOk c.does-is_legal.result (λ b. b ≡ true → SeesOn g.O.Observer.saw g.O.Observer.most v c.args.world.now c.args.observer.now c.does-is_legal.new.observer)) e c.does-is_legal.ensures.saw

pub returns-clause-refused : goal.returns-clause-refused
returns-clause-refused g c =
    let e : event_view c.event.result.now ≡ note_view c.args.note.now = c.event.ensures ∙ c.in_ok-shown.ensures in
    subst (λ (v : EventView). IfOk c.does-is_legal.result (λ b. b ≡ false → IsRefused v c.args.world.now)) e c.does-is_legal.ensures.refused
