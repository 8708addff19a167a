use Rattle.std.proofs.Common.{◌∙◌, ◌≤◌, ℕ, List, Option, ap, subst, refl}
use Rattle.ca_timers.specs.Readings.{Tells}
use Rattle.ca_table.specs.Parts.{clockwork_seen}
use Rattle.ca_pool.specs.Desk.{ClockBox}
use Rattle.ca_pool.specs.Preparing.{in_place}
use Rattle.ca_pool.proofs.Preparations.{answered_in, seen_asked, seen_still}
use Rattle.ca_pool.proofs.preparation.ask.Goals as goal

pub returns-in-Err-clause-refused : goal.returns-in-Err-clause-refused
returns-in-Err-clause-refused g c = λ o. let K = g.C.Clock in let q = c.reserve.ensures in let c0 = c.args.clock in let e = c.deref_mut.ensures.value in
    let c2 : ClockBox g.row.C.Denot = record c0 { value = record c.deref_mut.result.now { clock = c.reserve.new.self } } in
    seen_still K.least K.faults K.readings c0 c2 o (ap (λ x. x.timers) e) (ap (λ x. x.mark) e) (q.least ∙ ap (λ x. K.least x.clock) e) (q.faults ∙ ap (λ x. K.faults x.clock) e) (q.readings ∙ ap (λ x. K.readings x.clock) e)

pub returns-in-Ok-clause-asked : goal.returns-in-Ok-clause-asked
returns-in-Ok-clause-asked g c = λ o. let K = g.C.Clock in let q = c.reserve.ensures in let n = c.now-moment.ensures in let m = c.now-moment.result in let c0 = c.args.clock in let e = c.deref_mut.ensures.value in let f = c.deref_mut-in-Ok.ensures.value in
    let c2 : ClockBox g.row.C.Denot = record c0 { value = record c.deref_mut-in-Ok.result.now { clock = c.now-moment.new.self } } in
    let least = ap (λ x. K.least x.clock) f ∙ q.least ∙ ap (λ x. K.least x.clock) e in
    let told = ap (λ x. K.readings x.clock) f ∙ q.readings ∙ ap (λ x. K.readings x.clock) e in
    let tells = subst (λ (x : Option (List ℕ)). Tells x (K.readings c.now-moment.new.self) m) told n.readings in
    let later = subst (λ (x : ℕ). x ≤ m) least n.later in
    let a = seen_asked K.least K.faults K.readings m c0 c2 (ap (λ x. x.timers) f ∙ ap (λ x. x.timers) e) (ap (λ x. x.mark) f ∙ ap (λ x. x.mark) e) later n.bound n.least (n.faults ∙ ap (λ x. K.faults x.clock) f ∙ q.faults ∙ ap (λ x. K.faults x.clock) e) tells in
    (in_place (clockwork_seen K.least K.faults K.readings c2.value) o, refl, answered_in m (clockwork_seen K.least K.faults K.readings c0.value) (clockwork_seen K.least K.faults K.readings c2.value) o a)
