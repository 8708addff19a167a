use Rattle.std.proofs.Common.{rules, ◌≡◌, ◌∙◌, ◌+◌, ◌-◌, ◌*◌, ◌<◌, ◌≤◌, ◌^◌, ◌∷◌, ℕ, map, length, replicate, sym, ap, subst, arith}
use Rattle.std.proofs.lemmas.List.Elements.{All-pop, All-weaker}
use Rattle.std.specs.Prelude.{Some, None, vec_len}
use Rattle.ca_turns.specs.History.{Run}
use Rattle.ca_turns.specs.Hands.{IsFresh}
use Rattle.ca_turns.specs.Views.{hands_stood_for}
use Rattle.ca_turns_counters.specs.declared.counters.Event.TheVariants.{One}
use Rattle.ca_turns_counters.specs.Adding.{counters_added, Adds}
use Rattle.ca_turns_counters.specs.Working.{IsNew, IsReadyToCount, Repeats, Worked}
use Rattle.ca_turns_counters.proofs.Counts.{none_repeated, stands_for_all, same_list, first_zero}
use Rattle.ca_turns_counters.proofs.Rests.{carried}
use Rattle.ca_turns_counters.proofs.Sums.{ran}
use Rattle.ca_turns_counters.proofs.counting.count.Goals as goal

room : (len cap n : ℕ) → cap < 2 ^ 63 → len ≤ cap → len ≡ n → 0 + n < 2 ^ 64
room len cap n h le e = omega arith

pub work_all-requires-clause-ready : goal.work_all-requires-clause-ready
work_all-requires-clause-ready g c = λ _ _ k d h. let n = c.in_ok-workers.ensures.fresh c.in_ok-table.table.id (map (λ (x : ℕ). x) c.in_ok-parts.parts.items) c.args.hands c.in_ok-table.ensures.fresh k d h in (n.ready, n.none_drawn, n.has_room)

pub gather-requires : goal.gather-requires
gather-requires g c = let id = c.in_ok-table.table.id in let cs = map (λ (x : ℕ). x) c.in_ok-parts.parts.items in let news = c.work_all.new.workers.items in let others = c.take_last-first.new.self.items in
    let all = carried (Worked id c.args.even.now c.args.odd.now c.args.times) (IsNew id cs c.args.hands (2 * c.args.times)) (λ w. IsReadyToCount id w × (w.spare ≡ None)) (λ x y r _. (r.ready, r.spare)) c.in_ok-workers.workers.items news
    c.work_all.ensures.many c.work_all.ensures.worked (c.in_ok-workers.ensures.fresh id cs c.args.hands c.in_ok-table.ensures.fresh) in
    let pop = All-pop (λ w. IsReadyToCount id w × (w.spare ≡ None)) news others (Some c.take_last-first.result) c.take_last-first.ensures.items all in record { ready = (pop.1.0, pop.0) }

pub close-closed-requires-clause-all : goal.close-closed-requires-clause-all
close-closed-requires-clause-all g c = let id = c.in_ok-table.table.id in let cs = map (λ (x : ℕ). x) c.in_ok-parts.parts.items in let news = c.work_all.new.workers.items in let others = c.take_last-first.new.self.items in let olds = c.in_ok-workers.workers.items in
    let made = c.in_ok-workers.ensures.fresh id cs c.args.hands c.in_ok-table.ensures.fresh in let m = c.in_ok-hand.ensures in let R = Worked id c.args.even.now c.args.odd.now c.args.times in
    let spares = All-pop (λ w. w.spare ≡ None) news others (Some c.take_last-first.result) c.take_last-first.ensures.items (carried R (IsNew id cs c.args.hands (2 * c.args.times)) (λ w. w.spare ≡ None) (λ x y r _. r.spare) olds news c.work_all.ensures.many c.work_all.ensures.worked made) in
    let hands = All-pop (λ w. w.hand.view.hands ≡ c.args.hands) news others (Some c.take_last-first.result) c.take_last-first.ensures.items
    (carried R (IsNew id cs c.args.hands (2 * c.args.times)) (λ w. w.hand.view.hands ≡ c.args.hands) (λ x y r n. r.same.opened_for ∙ n.opened_for) olds news c.work_all.ensures.many c.work_all.ensures.worked made) in
    stands_for_all id c.args.even.now c.args.odd.now c.args.times c.args.hands olds news others c.take_last-first.result c.in_ok-hand.field-0 c.in_ok-table.dealt.items c.take_last-first.ensures.items c.work_all.ensures.many c.work_all.ensures.worked c.in_ok-workers.ensures.stand
    (All-weaker (IsFresh id cs c.args.hands) (λ h. hands_stood_for h.view ≡ 1) (λ h f. f.stands_for_one) c.in_ok-table.dealt.items c.in_ok-table.ensures.fresh) c.in_ok-table.ensures.hands m.stand (m.ready.1 ∙ spares.1) ∙ sym (m.opened_for ∙ hands.1)

pub returns : goal.returns
returns g c = record {
  first = λ e o. let id = c.in_ok-table.table.id in let cs = map (λ (x : ℕ). x) c.in_ok-parts.parts.items in let news = c.work_all.new.workers.items in let others = c.take_last-first.new.self.items in let olds = c.in_ok-workers.workers.items in
      let made = c.in_ok-workers.ensures.fresh id cs c.args.hands c.in_ok-table.ensures.fresh in let m = c.in_ok-hand.ensures in let R = Worked id c.args.even.now c.args.odd.now c.args.times in let new = IsNew id cs c.args.hands (2 * c.args.times) in
      let all_first = All-pop (Repeats (One 0)) news others (Some c.take_last-first.result) c.take_last-first.ensures.items (carried R new (Repeats (One 0)) (λ x y r n. r.repeats (One 0) e o (none_repeated (One 0) x n.none_drawn)) olds news c.work_all.ensures.many c.work_all.ensures.worked made) in
      let opening = All-pop (λ w. w.hand.view.opening ≡ cs) news others (Some c.take_last-first.result) c.take_last-first.ensures.items (carried R new (λ w. w.hand.view.opening ≡ cs) (λ x y r n. r.same.opening ∙ n.opening) olds news c.work_all.ensures.many c.work_all.ensures.worked made) in
      let firsts = m.repeats (One 0) all_first.1 all_first.0 in let h = c.close-closed.ensures.history in let zeros : c.in_ok-parts.parts.items ≡ replicate c.args.counters 0 = search rules in
      let opened = m.opening ∙ opening.1 ∙ same_list c.in_ok-parts.parts.items ∙ zeros ∙ first_zero c.args.counters c.requires.counters.0 in
      let noted : vec_len c.in_ok-hand.field-0.numbers ≡ length h.0 = m.ready.0.noted ∙ h.2.0 in
      let n = c.in_ok-hand.field-0.numbers.small in let o = c.in_ok-hand.field-0.numbers.ok in let small : 0 + length h.0 < 2 ^ 64 = room c.in_ok-hand.field-0.numbers.len c.in_ok-hand.field-0.numbers.cap (length h.0) n o.1 noted in
      sym (same_list c.close-closed.result.parts.items) ∙ ran h.0 0 (replicate (c.args.counters - 1) 0) (map (λ (x : ℕ). x) c.close-closed.result.parts.items) (λ n t at. let k = h.2.1 n t at in firsts k.0 t k.1) small
      (subst (λ l. Run counters_added Adds l h.0 (map (λ (x : ℕ). x) c.close-closed.result.parts.items)) opened h.1.run) ∙ ap (λ n. n ∷ replicate (c.args.counters - 1) 0) (let z : 0 + length h.0 ≡ vec_len c.in_ok-hand.field-0.numbers = omega arith in z);
}
