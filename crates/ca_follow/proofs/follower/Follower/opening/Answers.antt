use Rattle.ca_states.specs.ValidCode.{valid_code}
use Rattle.ca_follow.specs.declared.follower.Follower.{Follower}
use Rattle.ca_follow.proofs.Opens.{opened_follower, opened_of, opened_stands}
use Rattle.ca_follow.proofs.follower.Follower.opening.Goals as goal

pub returns-clause-follower : goal.returns-clause-follower
returns-clause-follower c = let h = c.in_ok-all_parts.ensures in let p = c.in_ok-put.ensures in let new = c.new-tasks in let main = c.in_ok-main.field-0 in
    let f : Follower = record { code = c.args.code; held = c.in_ok-all_parts.field-0; tasks = c.put.new.self; waits = c.new.result } in
    opened_follower f main (opened_of f new.result main h.banks h.registries h.shards h.timers new.ensures.running new.ensures.known p.running p.known c.new.ensures.empty) c.in_ok-main.ensures.over h.ready

pub returns-clause-opens : goal.returns-clause-opens
returns-clause-opens c = let h = c.in_ok-all_parts.ensures in let p = c.in_ok-put.ensures in let new = c.new-tasks in let main = c.in_ok-main.field-0 in
    let f : Follower = record { code = c.args.code; held = c.in_ok-all_parts.field-0; tasks = c.put.new.self; waits = c.new.result } in
    λ program made. opened_stands f main (opened_of f new.result main h.banks h.registries h.shards h.timers new.ensures.running new.ensures.known p.running p.known c.new.ensures.empty) program (valid_code c.args.code.now) made (λ b. c.in_ok-main.ensures.stands program b)
