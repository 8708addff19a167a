use Rattle.std.proofs.Common.{◌≡◌, ◌∙◌, ◌+◌, ◌<◌, ◌∷◌, [], ◌++◌, length, sym, ap, subst, arith, length-append}
use Rattle.std.proofs.lemmas.List.Elements.{All-push}
use Rattle.std.specs.Prelude.{All, option_to_list}
use Rattle.ca_turns.specs.Places.{total}
use Rattle.ca_turns.specs.Views.{hands_stood_for}
use Rattle.ca_turns.specs.Hands.{IsFresh}
use Rattle.ca_turns.proofs.Lists.{total-snoc}
use Rattle.ca_turns_counters.specs.Turning.{Counting}
use Rattle.ca_turns_counters.specs.Working.{IsNew, spare_stands, stand}
use Rattle.ca_turns_counters.proofs.News.{new_worker, total_spare}
use Rattle.ca_turns_counters.proofs.Rests.{last_is, rest_grows, total_less, maybe_is, maybe_grows, total_maybe}
use Rattle.ca_turns_counters.proofs.gathering.enlist.Goals as goal

pub loop-alloc-preserved : goal.loop-alloc-preserved
loop-alloc-preserved c = let i = c.loop-alloc.invariant in let all = c.args.hands.items in let xs = c.loop-alloc.hands.items in let ys = c.take_last-hand.new.self.items in let zs = c.spare_of-spare.new.hands.items in let hand = c.take_last-hand.result in let spare = c.spare_of-spare.result in
    let w = c.in_ok-worker_of.field-0 in let m = c.in_ok-worker_of.ensures in let e = c.take_last-hand.ensures.items in let f = c.spare_of-spare.ensures in let ws = c.loop-alloc.workers.items in let p = c.in_ok-push.ensures.items in let more = rest_grows all xs ys i.1.0 hand i.1.1 e in (
      (let a : length c.push.new.self.items ≡ length ws + 1 = ap length p ∙ length-append ws (w ∷ []) in let b : 0 < length zs + length c.push.new.self.items = omega arith in b),
      (option_to_list spare ++ (hand ∷ i.1.0), maybe_grows all ys (hand ∷ i.1.0) zs spare more f),
      (let a : total stand c.push.new.self.items ≡ total stand ws + stand w = ap (total stand) p ∙ total-snoc stand ws w in let b = total_less (λ (h : Counting). hands_stood_for h.view) xs ys hand e in let d = total_maybe (λ (h : Counting). hands_stood_for h.view) ys zs spare f in let s = total_spare spare in
          let k : hands_stood_for w.hand.view ≡ hands_stood_for hand.view = ap (λ (h : Counting). hands_stood_for h.view) m.hands.0 in let l : spare_stands w.spare ≡ spare_stands spare = ap spare_stands m.hands.1 in let t = i.2 in
          let r : total stand c.push.new.self.items + total (λ (h : Counting). hands_stood_for h.view) zs ≡ total (λ (h : Counting). hands_stood_for h.view) all = omega arith in r),
      λ id cs n fresh. subst (All (IsNew id cs n c.args.room)) (sym p) (All-push (IsNew id cs n c.args.room) ws w (i.3 id cs n fresh)
          (new_worker w hand spare id cs n c.args.room m.hands.0 m.hands.1 m.room.0 m.room.1 (last_is (IsFresh id cs n) all xs ys i.1.0 hand i.1.1 e fresh) (maybe_is (IsFresh id cs n) all ys (hand ∷ i.1.0) zs spare more f fresh))),
    )
