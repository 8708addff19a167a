use Rattle.std.proofs.Common.{◌≡◌, ◌∙◌, ◌+◌, ◌∷◌, arith}
use Rattle.std.specs.Prelude.{None}
use Rattle.ca_turns.specs.Places.{total}
use Rattle.ca_turns_counters.specs.Working.{IsReadyToCount, Repeats, stand, events_drawn}
use Rattle.ca_turns_counters.proofs.Rests.{last_is, rest_grows, total_less}
use Rattle.ca_turns_counters.proofs.gathering.gather.Goals as goal

pub merge-requires : goal.merge-requires
merge-requires c = let i = c.loop-others.invariant in let r = last_is (λ w. IsReadyToCount c.args.table.now.id w × (w.spare ≡ None)) c.args.others.items c.loop-others.others.items c.take_last-next.new.self.items i.1.0 c.take_last-next.result i.1.1 c.take_last-next.ensures.items c.requires.ready.1 in
    record { ready = (i.0.0, r.0, r.1) }

pub loop-others-preserved : goal.loop-others-preserved
loop-others-preserved c = let i = c.loop-others.invariant in let m = c.in_ok-merge.ensures in let all = c.args.others.items in let xs = c.loop-others.others.items in let ys = c.take_last-next.new.self.items in let x = c.take_last-next.result in let f = c.take_last-next.ensures.items in (
  (m.ready, m.spare ∙ i.0.1),
  (x ∷ i.1.0, rest_grows all xs ys i.1.0 x i.1.1 f),
  (let a = total_less stand xs ys x f in let b = m.stand in let d = i.2 in let e : stand c.merge.new.into + total stand ys ≡ stand c.args.all + total stand all = omega arith in e),
  (let a = total_less events_drawn xs ys x f in let b = m.drew in let d = i.3 in let e : events_drawn c.merge.new.into + total events_drawn ys ≡ events_drawn c.args.all + total events_drawn all = omega arith in e),
  m.opening ∙ i.4,
  m.opened_for ∙ i.5,
  λ e mine others. m.repeats e (i.6 e mine others) (last_is (Repeats e) all xs ys i.1.0 x i.1.1 f others),
)
