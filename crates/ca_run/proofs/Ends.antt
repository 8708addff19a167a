-- The line that tells of an end, by the end of the run.
use Rattle.std.proofs.Common.{◌≡◌, ℕ, List, Option, None, Some, ap, subst, sym, ◌∙◌, refl}
use Rattle.ca_value.specs.declared.value.PortId.{PortId}
use Rattle.ca_term.specs.declared.event.Ending.TheVariants.{Faulted as FaultedEnding}
use Rattle.ca_term.specs.declared.fault.Fault.{Fault as FaultKind}
use Rattle.ca_term.specs.declared.place.Place.{Place as PlaceKind}
use Rattle.ca_term.specs.Event.{EventView, over}
use Rattle.ca_term.specs.Program.{ProgramView}
use Rattle.ca_meaning.specs.Ends.{RunEnd, faulted, EndsWith, HasEnd}
use Rattle.ca_journal.specs.Latest.{last_listed}
use Rattle.ca_journal.proofs.Latest.{last_push}
use Rattle.ca_run.specs.Answers.{end_shown, line_of_end, main_fault}
use Rattle.ca_run.specs.declared.run.ScriptEnd.TheVariants.{Faulted}
use Rattle.ca_run.specs.Top.{EndLine}

-- the fault that an event tells, where there is one
abbrev pub told_of : Option EventView → Option (FaultKind × PlaceKind)
told_of None = None
told_of (Some e) = main_fault e

-- the fault that the last event tells
abbrev pub Told : List EventView → Option (FaultKind × PlaceKind) → Type 0
Told journal o = (f : FaultKind) (p : PlaceKind) (r : Option PortId) → EndsWith journal (over 0 (FaultedEnding f p r)) → o ≡ Some (f, p)

-- what an event that ends the main text by a fault tells
pub told_by : (journal : List EventView) (o : Option EventView) → o ≡ last_listed journal → Told journal (told_of o)
told_by journal o last f p r ends = ap told_of (last ∙ ap last_listed ends.1 ∙ last_push ends.0 (over 0 (FaultedEnding f p r)))

has_fault : (program : ProgramView) (budget : ℕ) (journal : List EventView) (end : RunEnd) → HasEnd program budget journal end → end ≡ faulted → HasEnd program budget journal faulted
has_fault program budget journal end h e = subst (HasEnd program budget journal) e h

pub is_told : (program : ProgramView) (budget : ℕ) (journal : List EventView) (end : RunEnd) (o : Option (FaultKind × PlaceKind)) → HasEnd program budget journal end → end ≡ faulted → Told journal o → o ≡ None → ⊥
is_told program budget journal end o h e told none =
    let f = (has_fault program budget journal end h e).1 in
    absurd (let z : ◌≡◌ {A = Option (FaultKind × PlaceKind)} (Some (f.0, f.1)) None = sym (told f.0 f.1 f.2 f.3) ∙ none in cc)

same : (x y : FaultKind × PlaceKind) → Some x ≡ Some y → x ≡ y
same x y e = cc

same_fault : (f g : FaultKind) (p q : PlaceKind) → ◌≡◌ {A = Option (FaultKind × PlaceKind)} (Some (f, p)) (Some (g, q)) → Faulted f p ≡ Faulted g q
same_fault f g p q e = ap (λ (x : FaultKind × PlaceKind). Faulted x.0 x.1) (same (f, p) (g, q) e)

pub fault_line : (program : ProgramView) (budget : ℕ) (journal : List EventView) (end : RunEnd) (f : FaultKind) (p : PlaceKind) (o : Option (FaultKind × PlaceKind)) → HasEnd program budget journal end → end ≡ faulted → Told journal o → o ≡ Some (f, p) → EndLine journal (end_shown (Faulted f p)) (line_of_end (Faulted f p))
fault_line program budget journal end f p o h e told some =
    let x = (has_fault program budget journal end h e).1 in
    let same : Faulted x.0 x.1 ≡ Faulted f p = same_fault x.0 f x.1 p (sym (told x.0 x.1 x.2 x.3) ∙ some) in
    subst (λ y. EndLine journal (end_shown y) (line_of_end y)) same (x.0, x.1, x.2, x.3, refl)
