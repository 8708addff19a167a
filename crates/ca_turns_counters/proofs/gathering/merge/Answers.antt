use Rattle.std.proofs.Common.{◌∙◌, sym, ap, ⊎_elim}
use lib.ListN.{get_elem?}
use Rattle.ca_turns.proofs.Lists.{at_either}
use Rattle.ca_turns_counters.proofs.gathering.merge.Goals as goal

pub returns-clause-repeats : goal.returns-clause-repeats
returns-clause-repeats c = λ e mine others k t at. ⊎_elim (λ old. mine k t old) (λ new. others new.0 t new.2)
    (at_either c.args.into.now.hand.view.turns c.args.from.hand.view.turns k t (ap (λ v. get_elem? v.turns k) (sym c.join_hands.ensures.view) ∙ at))
