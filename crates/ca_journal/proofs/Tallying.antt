-- What lists come to together, one list after the other.
use Rattle.std.proofs.Common.{◌≡◌, ℕ, ◌+◌, ◌<◌, List, ◌∷◌, ◌++◌, length, get_or, drop, map, ◌∙◌, ap, arith}
use Rattle.std.proofs.lemmas.Grind.{common_steps}
use Rattle.ca_meaning.specs.Cost.{cost}
use Rattle.ca_journal.specs.declared.entries.Entries.{Entries}
use Rattle.ca_journal.specs.Mains.{mains}
use Rattle.ca_journal.specs.Merge.{entries, events_of, joined}
use Rattle.ca_journal.proofs.Spending.{cost_append, events_append, mains_append}

one_list : (ls : List Entries) (i : ℕ) (l : Entries) → i < length ls → l ≡ get_or ls i l → drop i ls ≡ l ∷ drop (i + 1) ls
one_list ls i l lt is = grind (arith, common_steps, is)

here : (ls : List Entries) (i : ℕ) (l : Entries) → i < length ls → l ≡ get_or ls i l → events_of (joined (map entries (drop i ls))) ≡ events_of (entries l) ++ events_of (joined (map entries (drop (i + 1) ls)))
here ls i l lt is = ap (λ (s : List Entries). events_of (joined (map entries s))) (one_list ls i l lt is) ∙ events_append (entries l) (joined (map entries (drop (i + 1) ls)))

pub cost_step : (ls : List Entries) (i : ℕ) (l : Entries) → i < length ls → l ≡ get_or ls i l → cost (events_of (joined (map entries (drop i ls)))) ≡ cost (events_of (entries l)) + cost (events_of (joined (map entries (drop (i + 1) ls))))
cost_step ls i l lt is = ap cost (here ls i l lt is) ∙ cost_append (events_of (entries l)) (events_of (joined (map entries (drop (i + 1) ls))))

pub mains_step : (ls : List Entries) (i : ℕ) (l : Entries) → i < length ls → l ≡ get_or ls i l → mains (events_of (joined (map entries (drop i ls)))) ≡ mains (events_of (entries l)) + mains (events_of (joined (map entries (drop (i + 1) ls))))
mains_step ls i l lt is = ap mains (here ls i l lt is) ∙ mains_append (events_of (entries l)) (events_of (joined (map entries (drop (i + 1) ls))))
