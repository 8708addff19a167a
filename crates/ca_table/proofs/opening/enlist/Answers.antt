use Rattle.std.proofs.Common.{◌≡◌, ◌∙◌, ◌+◌, [], ◌∷◌, ◌++◌, length, refl, sym, ap, subst, arith, length-append, Some}
use Rattle.std.proofs.lemmas.List.Elements.{All-pop, All-push}
use Rattle.std.specs.Prelude.{All, option_to_list}
use Rattle.ca_term.specs.Program.{program_view}
use Rattle.ca_states.specs.ValidCode.{valid_code}
use Rattle.ca_turns.specs.Hands.{IsFresh}
use Rattle.ca_table.specs.Workers.{IsNewWorker}
use Rattle.ca_table.proofs.opening.enlist.Goals as goal

pub loop-hand-preserved : goal.loop-hand-preserved
loop-hand-preserved g c = let i = c.loop-hand.invariant in let xs = c.loop-hand.hands.items in let ys = c.pop.new.self.items in let ws = c.loop-hand.all.items in let hand = c.in-Some.hand in
    let popped : xs ≡ ys ++ hand ∷ [] = c.pop.ensures.items ∙ ap (λ o. ys ++ option_to_list o) c.in-Some.is in
    let pushed = c.in_ok-push.ensures.items in
    let shorter : length xs ≡ length ys + 1 = ap length popped ∙ length-append ys (hand ∷ []) in
    let longer = ap length pushed ∙ length-append ws (_ ∷ []) in
    let count = i.0 in (
      omega (arith, shorter, longer, count),
      λ id cs n fresh. let both = All-pop (IsFresh id cs n) xs ys (Some hand) popped (i.1 id cs n fresh).0 in (
        both.0,
        subst (All (IsNewWorker (program_view c.args.program.now) (valid_code c.args.code.now) c.args.workers id cs n)) (sym pushed) (All-push (IsNewWorker (program_view c.args.program.now) (valid_code c.args.code.now) c.args.workers id cs n) ws _ (i.1 id cs n fresh).1 (record {
          of = refl;
          below = omega (arith, shorter, count);
          of_program = ap program_view c.of.ensures;
          of_code = ap valid_code c.of-in-Some.ensures;
          notes = c.new.ensures;
          fresh = both.1;
        })),
      ),
    )

pub returns-clause-new : goal.returns-clause-new
returns-clause-new g c = λ id cs n fresh. (c.loop-hand.invariant.1 id cs n fresh).1
