use Rattle.std.proofs.Common.{◌≡◌, ◌+◌, ◌<◌, ◌^◌, sym, ap, subst, ◌∙◌, arith}
use Rattle.std.proofs.lemmas.Result.{on_ok_weaker}
use Rattle.ca_term.specs.Event.{event_view}
use Rattle.ca_term.specs.Cost.{cost_of}
use Rattle.ca_meaning.specs.Cost.{cost}
use Rattle.ca_report.specs.Made.{channels_made}
use Rattle.ca_report.specs.Tallied.{AllFew}
use Rattle.ca_report.proofs.Seeing.{light, cheap, tallied, legal_told}
use Rattle.ca_report.proofs.Tallying.{all_few}
use Rattle.ca_report.proofs.tally.TallyObserver.see.Goals as goal

pub cost-requires : goal.cost-requires
cost-requires c =
    let r = c.requires in let e = event_view c.args.event.now in
    light r.0 r.1 e r.3.checked (legal_told (2 ^ 32) r.0 r.1 e c.args._world.now r.3)

pub overflow_add-self-2 : goal.overflow_add-self-2
overflow_add-self-2 c =
    let r = c.requires in let e = event_view c.args.event.now in
    let fits : cost r.1 + cost_of e < 2 ^ 64 = cheap r.0 r.1 e r.3.checked (legal_told (2 ^ 32) r.0 r.1 e c.args._world.now r.3) r.3.few in
    let mine : c.args.self.now.cost ≡ cost r.1 = r.2.cost in
    omega (arith, fits, mine)

pub note-requires : goal.note-requires
note-requires c = let r = c.requires in subst AllFew (sym r.2.rows) (all_few r.1 (channels_made r.1) r.3.few)

pub returns : goal.returns
returns c =
    let e = event_view c.args.event.now in
    let costs : c.note.new.self.cost ≡ c.args.self.now.cost + cost_of e = c.note.ensures.cost ∙ ap (λ n. c.args.self.now.cost + n) c.cost.ensures in
    on_ok_weaker c.note.result (λ rows_are program before saw told. tallied c.args.self.now c.note.new.self program before e saw told.checked (legal_told (2 ^ 32) program before e c.args._world.now told) c.note.ensures.events costs rows_are) c.note.ensures.rows
