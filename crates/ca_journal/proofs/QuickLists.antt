-- The end of a journal that costs less than the budget, from what its lists come to together.
use Rattle.std.proofs.Common.{◌≡◌, ℕ, ◌≤◌, ◌<◌, List, [], ◌∷◌, ◌++◌, length, true, false, Option, Some, None, refl, ◌∙◌, ap, arith}
use Rattle.std.specs.Prelude.{is_some}
use Rattle.ca_meaning.specs.Cost.{cost}
use Rattle.ca_journal.specs.declared.cut.CutAt.{CutAt}
use Rattle.ca_journal.specs.Cut.{main_end, end_in}
use Rattle.ca_journal.specs.Kept.{upto}
use Rattle.ca_journal.specs.Latest.{latest}
use Rattle.ca_journal.specs.Mains.{mains}
use Rattle.ca_journal.specs.Merge.{Numbered, events_of, in_order, joined, EachAscends}
use Rattle.ca_journal.proofs.Latest.{latest_is_last}
use Rattle.ca_journal.proofs.Quick.{cost_in_order, mains_in_order, quick_none, quick_last}
use Rattle.ca_journal.proofs.Spending.{events_append}

pub all_kept : {A : Type 0} (o : Option ℕ) (es : List A) → false ≡ is_some o → upto o es ≡ es
all_kept {A} None es h = refl
all_kept {A} (Some n) es h = absurd (let q : false ≡ true = h in cc)

less : (spent budget : ℕ) (es : List Numbered) → cost (events_of es) ≤ spent → spent < budget → cost (events_of (in_order es)) < budget
less spent budget es c lt = omega (arith, cost_in_order es, c, lt)

pub no_end : (lists : List (List Numbered)) (spent budget : ℕ) → cost (events_of (joined lists)) ≤ spent → spent < budget → mains (events_of (joined lists)) ≡ 0 → end_in budget (events_of (in_order (joined lists))) ≡ None
no_end lists spent budget c lt none = quick_none budget (events_of (in_order (joined lists))) (less spent budget (joined lists) c lt) (mains_in_order (joined lists) ∙ none)

pub end_is_last : (lists : List (List Numbered)) (spent budget : ℕ) (m : Numbered) (at : CutAt) → EachAscends lists → cost (events_of (joined lists)) ≤ spent → spent < budget → mains (events_of (joined lists)) ≡ 1 → latest lists ≡ Some m → main_end m.event ≡ Some at → end_in budget (events_of (in_order (joined lists))) ≡ Some (length (events_of (in_order (joined lists))), at)
end_is_last lists spent budget m at up c lt one last over =
    let i = latest_is_last lists m up last in
    let stands : events_of (in_order (joined lists)) ≡ events_of i.0 ++ m.event ∷ [] = ap events_of i.1 ∙ events_append i.0 (m ∷ []) in
    quick_last budget (events_of (in_order (joined lists))) (events_of i.0) m.event at stands (less spent budget (joined lists) c lt) (mains_in_order (joined lists) ∙ one) over
