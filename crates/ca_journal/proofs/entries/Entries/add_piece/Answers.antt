use Rattle.std.proofs.Common.{◌≡◌, ◌≤◌, List, ◌∷◌, ◌++◌, [], sym, ◌∙◌, ap, ap₂, subst}
use Rattle.ca_meaning.specs.Cost.{cost}
use Rattle.ca_journal.specs.Numbered.{Numbered, events_of, laid}
use Rattle.ca_journal.specs.Mains.{mains}
use Rattle.ca_journal.proofs.Pieces.{piece_added}
use Rattle.ca_journal.proofs.Saying.{said_piece}
use Rattle.ca_journal.proofs.entries.Entries.add_piece.Goals as goal

grown : (c : goal.After-push_reserved) → c.push_reserved.new.self.items ≡ c.args.self.now.full.items ++ c.args.self.now.last ∷ []
grown c = c.push_reserved.ensures.items ∙ ap₂ (λ ps p. ps ++ p ∷ []) c.reserve.ensures.items c.replace-last.ensures.value

none : (c : goal.After-push_reserved) → c.replace-last.new.dest.items ≡ []
none c = ap (λ p. p.items) c.replace-last.ensures.after ∙ c.in_ok-piece.ensures.items

same : (c : goal.After-push_reserved) → laid c.push_reserved.new.self.items c.replace-last.new.dest ≡ laid c.args.self.now.full.items c.args.self.now.last
same c = piece_added c.args.self.now.full.items c.push_reserved.new.self.items c.args.self.now.last c.replace-last.new.dest (grown c) (none c)

pub invariant_of-self-2 : goal.invariant_of-self-2
invariant_of-self-2 c = record {
  told = c.args.self.now.told ∙ sym (said_piece c.args.self.now.full.items c.push_reserved.new.self.items c.args.self.now.last c.replace-last.new.dest (grown c) (none c));
  counted = λ lt. subst (λ (es : List Numbered). cost (events_of es) ≤ c.args.self.now.spent) (sym (same c)) (c.args.self.now.counted lt);
  ended = λ lt. ap (λ (es : List Numbered). mains (events_of es)) (same c) ∙ c.args.self.now.ended lt;
}

pub returns-clause-same : goal.returns-clause-same
returns-clause-same c = piece_added c.args.self.now.full.items c.push_reserved.new.self.items c.args.self.now.last c.replace-last.new.dest (c.push_reserved.ensures.items ∙ ap₂ (λ ps p. ps ++ p ∷ []) c.reserve.ensures.items c.replace-last.ensures.value) (ap (λ p. p.items) c.replace-last.ensures.after ∙ c.in_ok-piece.ensures.items)
