use Rattle.std.proofs.Common.{◌∙◌, ◌<◌, ℕ, sym, ap, subst}
use Rattle.ca_meaning.specs.State.{State}
use Rattle.ca_term.specs.Program.{ProgramView}
use Rattle.ca_commit.specs.Contents.{whole}
use Rattle.ca_bank.specs.Kept.{pruned}
use Rattle.ca_commit.specs.Listing.{changed_at}
use Rattle.ca_commit.specs.Showing.{channels_held}
use Rattle.std.proofs.Common.{option_map}
use Rattle.ca_follow.specs.Follower.{SettledBy, FollowerStands, has}
use Rattle.ca_follow.proofs.Prunes.{settle_prunes_fewer}
use Rattle.ca_follow.proofs.Settled.{left_in, less_left, settled_after, stale_there}
use Rattle.ca_follow.proofs.follower.Follower.settled.Goals as goal

pub prune-requires-clause-follower : goal.prune-requires-clause-follower
prune-requires-clause-follower c = let first = c.args.self.now in let p = c.args.port.n in let k = c.in-Prune in
    (stale_there first c.loop-next.self p k.field-0 k.side k.place (subst (λ n. SettledBy first c.loop-next.self p n) k.is c.loop-next.invariant.settled)).follower

pub prune-requires-clause-stale : goal.prune-requires-clause-stale
prune-requires-clause-stale c = let first = c.args.self.now in let p = c.args.port.n in let k = c.in-Prune in
    (stale_there first c.loop-next.self p k.field-0 k.side k.place (subst (λ n. SettledBy first c.loop-next.self p n) k.is c.loop-next.invariant.settled)).stale

pub loop-next-smaller : goal.loop-next-smaller
loop-next-smaller c = let first = c.args.self.now in let old = c.loop-next.self in let new = c.settled_once-in-Prune.new.self in let p = c.args.port.n in let k = c.in-Prune in
    let there = stale_there first old p k.field-0 k.side k.place (subst (λ n. SettledBy first old p n) k.is c.loop-next.invariant.settled) in
    let cs = channels_held new.held.banks in let before = channels_held old.held.banks in
    subst (λ n. left_in c.in_ok-next-2.next (whole cs p) < left_in n (whole before p)) (sym k.is) (less_left c.in_ok-next-2.next (whole cs p) (whole before p)
    (λ again. settle_prunes_fewer (has old) p k.side cs there.rests_so
    (λ i. c.in_ok-next-2.ensures.channels again i ∙ c.prune.ensures.channels i ∙ ap (λ (n : ℕ). changed_at p (option_map (pruned k.side n)) before i) there.in_front)))

pub loop-next-preserved : goal.loop-next-preserved
loop-next-preserved c = let first = c.args.self.now in let old = c.loop-next.self in let p = c.args.port.n in let k = c.in-Prune in
    let there = stale_there first old p k.field-0 k.side k.place (subst (λ n. SettledBy first old p n) k.is c.loop-next.invariant.settled) in record {
      settled = settled_after c.prune.new.self c.settled_once-in-Prune.new.self p first c.in_ok-next-2.next (λ (program : ProgramView) (s : State) (st : FollowerStands program (has first) s). c.prune.ensures.stands program s (there.stands program s st)) c.in_ok-next-2.ensures.settled;
      code = c.settled_once-in-Prune.ensures.code ∙ c.prune.ensures.code ∙ c.loop-next.invariant.code;
    }
