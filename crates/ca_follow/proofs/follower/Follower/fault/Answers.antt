use Rattle.std.proofs.Common.{◌≡◌, refl, sym, ap, ◌∙◌, subst, true, false, option_map}
use Rattle.std.specs.Prelude.{IsSome}
use Rattle.ca_term.specs.Event.{event_view, port_number}
use Rattle.ca_states.specs.ValidCode.{valid_code}
use Rattle.ca_commit.specs.NewPort.{times_in}
use Rattle.ca_commit.specs.Running.{Placed}
use Rattle.ca_commit.specs.Showing.{waits_held}
use Rattle.ca_commit.specs.Tasks.{agent_of}
use Rattle.ca_commit.specs.Ticking.{closed_result}
use Rattle.ca_commit.specs.Waking.{ready_in}
use Rattle.ca_follow.specs.Follower.{has}
use Rattle.ca_follow.specs.Has.{AreAll}
use Rattle.ca_follow.proofs.AllHeld.{held_result, held_same}
use Rattle.ca_follow.proofs.Leading.{fault_leads, fault_refuses, same_has}
use Rattle.ca_follow.proofs.Operates.{follower_by}
use Rattle.ca_follow.proofs.follower.Follower.fault.Goals as goal

pub returns-clause-allowed : goal.returns-clause-allowed
returns-clause-allowed c same = let h = has c.args.self.now in let a = agent_of c.args.task.now in let g = has (record c.args.self.now { held = c.apply_fault.new.held }) in
    fault_leads (valid_code c.args.self.now.code.now) (event_view c.args.event.now) h c.args.task.now.number a c.args.fault c.args.place c.args.task.now.result c.requires.follower.all c.requires.faults refl g
    (c.agrees.ensures.0 same)
    (same_has (record h { bank = closed_result a.result h.bank }) g (λ i. sym (c.apply_fault.ensures.channels i)) (λ i. sym (c.apply_fault.ensures.registries i)) (λ i. ap (λ z. waits_held z i) (sym c.apply_fault.ensures.others.0))
    (ap times_in (sym c.apply_fault.ensures.others.1)) (λ v. refl) (λ v. refl) (λ v. refl))

pub returns-clause-refused : goal.returns-clause-refused
returns-clause-refused c other =
    fault_refuses (valid_code c.args.self.now.code.now) (event_view c.args.event.now) (has c.args.self.now) c.args.task.now.number (agent_of c.args.task.now) c.args.fault c.args.place c.args.task.now.result
    c.requires.follower.all c.requires.faults refl c.requires.mine (λ is. let z : true ≡ false = sym (c.agrees.ensures.1 is) ∙ other in absurd cc)

pub returns-clause-follower : goal.returns-clause-follower
returns-clause-follower c = let f = c.args.self.now in let g = record f { held = c.apply_fault.new.held } in let e = c.apply_fault.ensures in let o = e.others in
    let r = option_map port_number c.args.task.now.result in let all = c.requires.follower.all in let b = held_same (closed_result r (has f).bank) (has g).bank e.channels (held_result r (has f).bank (all.banks, all.bank_placed)) in
    let k = held_same (has f).registry (has g).registry e.registries (all.registries, all.registry_placed) in
    follower_by f g c.requires.follower (record { banks = b.0; registries = k.0; shards = subst (λ z. AreAll (waits_held z)) (sym o.0) all.shards; bank_placed = b.1; registry_placed = k.1; shard_placed = subst (λ z. Placed (waits_held z)) (sym o.0) all.shard_placed })
    (subst (λ z. IsSome z) (sym o.1) c.requires.follower.timers) (ap ready_in o.2 ∙ c.requires.follower.ready) refl (λ i. ap (λ z. waits_held z i) o.0) refl
