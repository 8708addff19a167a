use Rattle.std.proofs.Common.{◌≡◌, ◌∙◌, sym, subst, None}
use Rattle.std.proofs.Math.Nat.{mod-eq_of_lt}
use Rattle.ca_commit.specs.Contents.{home}
use Rattle.ca_commit.specs.Running.{Placed}
use Rattle.ca_commit.specs.Showing.{channels_held}
use Rattle.ca_table.specs.Parts.{part_seen}
use Rattle.ca_table.proofs.Drawing.{drew_later, drew_none}
use Rattle.ca_pool.proofs.AtEvents.{own_number}
use Rattle.ca_pool.proofs.Resolutions.{numbers_both}
use Rattle.ca_pool.proofs.ShardsAbove.{more_held, none_from}
use Rattle.ca_pool.proofs.Lone.{stayed_both, stayed_same}
use Rattle.ca_pool.proofs.resolution.take_above.Goals as goal

pub take_shard-requires-clause-above : goal.take_shard-requires-clause-above
take_shard-requires-clause-above g c = let a = g.A.Agent in let K = g.C.Clock in let r = c.requires.carries in let wanted = c.args.wanted.now in
    none_from a.over a.stands (part_seen K.least K.faults K.readings) c.args.code.now c.args.table.now.id r.0 r.1 r.2 None c.args.held.now c.args.worker.now r.3 wanted.banks wanted.shards c.args.number c.requires.these c.requires.above

pub put_off-requires-clause-carries : goal.put_off-requires-clause-carries
put_off-requires-clause-carries g c = let a = g.A.Agent in let K = g.C.Clock in let r = c.requires.carries in let t = c.take_shard in
    (r.0, r.1, r.2, own_number a.over a.stands c.args.code.now c.args.table.now.id r.0 r.1 r.2 K.least K.faults K.readings c.args.worker.now t.new.worker None t.new.held t.ensures.same.number (t.ensures.carries r.0 r.1 r.2 r.3))

pub put_off-requires-clause-timers : goal.put_off-requires-clause-timers
put_off-requires-clause-timers g c = c.take_shard.ensures.others.timers ∙ c.requires.held.timers

pub returns-in-Ok-clause-drew : goal.returns-in-Ok-clause-drew
returns-in-Ok-clause-drew g c = drew_none c.take_shard.ensures.same c.take_shard.ensures.turns

pub returns-in-Ok-clause-numbers : goal.returns-in-Ok-clause-numbers
returns-in-Ok-clause-numbers g c = c.take_shard.ensures.others.numbers

pub returns-in-Ok-clause-took : goal.returns-in-Ok-clause-took
returns-in-Ok-clause-took g c = let a = g.A.Agent in let K = g.C.Clock in let t = c.take_shard in let o = t.ensures.others in let wanted = c.args.wanted.now in let k = c.args.number in
    let own : home k ≡ k = mod-eq_of_lt c.requires.number in
    record {
      holds = record { placed = subst (λ x. Placed (channels_held x)) (sym o.banks) c.requires.held.placed; paused = t.ensures.paused; ready = o.ready ∙ c.requires.held.ready; timers = o.timers ∙ c.requires.held.timers };
      these = more_held wanted.banks wanted.shards c.add.new.self k c.args.held.now t.new.held c.requires.number c.requires.these o.banks c.in-Ok.ensures.there t.ensures.kept c.add.ensures own;
      carries = λ program n l s. own_number a.over a.stands c.args.code.now c.args.table.now.id program n l K.least K.faults K.readings c.args.worker.now t.new.worker None t.new.held t.ensures.same.number (t.ensures.carries program n l s);
    }

pub returns-in-Err-clause-drew : goal.returns-in-Err-clause-drew
returns-in-Err-clause-drew g c = drew_later c.take_shard.ensures.same c.take_shard.ensures.turns (drew_none c.put_off.ensures.same c.put_off.ensures.turns)

pub returns-in-Err-clause-numbers : goal.returns-in-Err-clause-numbers
returns-in-Err-clause-numbers g c = numbers_both c.args.held.now c.take_shard.new.held c.put_off.new.held c.take_shard.ensures.others.numbers c.put_off.ensures.numbers

pub returns-in-Err-clause-refused : goal.returns-in-Err-clause-refused
returns-in-Err-clause-refused g c = let a = g.A.Agent in let K = g.C.Clock in let t = c.take_shard in record {
  bare = c.put_off.ensures.bare;
  carries = λ program n l s. c.put_off.ensures.carries program n l (own_number a.over a.stands c.args.code.now c.args.table.now.id program n l K.least K.faults K.readings c.args.worker.now t.new.worker None t.new.held t.ensures.same.number (t.ensures.carries program n l s));
}

pub returns-in-Ok-clause-stayed : goal.returns-in-Ok-clause-stayed
returns-in-Ok-clause-stayed g c = stayed_same c.take_shard.ensures.same c.take_shard.ensures.turns

pub returns-in-Err-clause-stayed : goal.returns-in-Err-clause-stayed
returns-in-Err-clause-stayed g c = stayed_both (stayed_same c.take_shard.ensures.same c.take_shard.ensures.turns) (stayed_same c.put_off.ensures.same c.put_off.ensures.turns)
