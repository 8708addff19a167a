use Rattle.std.proofs.Common.{◌≡◌, ◌∙◌, subst, true, false}
use Rattle.std.specs.Prelude.{IfOk}
use Rattle.ca_term.specs.Event.{EventView, event_view}
use Rattle.ca_states.specs.ValidCode.{valid_code}
use Rattle.ca_journal.specs.Note.{note_view}
use Rattle.ca_follow.specs.Follower.{Leads, Refuses, has}
use Rattle.ca_follow.proofs.following.goes_on.Goals as goal

pub returns-clause-leads : goal.returns-clause-leads
returns-clause-leads c =
    let e : event_view c.event.result.now ≡ note_view c.args.note.now = c.event.ensures ∙ c.in_ok-shown.ensures in
    subst (λ (v : EventView). IfOk c.step-is_legal.result (λ b. b ≡ true → Leads (valid_code c.args.follower.now.code.now) v (has c.args.follower.now) (has c.step-is_legal.new.self))) e c.step-is_legal.ensures.allowed

pub returns-clause-refused : goal.returns-clause-refused
returns-clause-refused c =
    let e : event_view c.event.result.now ≡ note_view c.args.note.now = c.event.ensures ∙ c.in_ok-shown.ensures in
    subst (λ (v : EventView). IfOk c.step-is_legal.result (λ b. b ≡ false → Refuses (valid_code c.args.follower.now.code.now) v (has c.args.follower.now))) e c.step-is_legal.ensures.refused
