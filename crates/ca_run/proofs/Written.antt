-- A journal that a run writes behind its script is read back, and is legal.
use Rattle.std.proofs.Common.{◌≡◌, ℕ, suc, ◌<◌, ◌≤◌, List, [], ◌∷◌, ◌++◌, length, take, drop, Option, Some, Result, Ok, refl, sym, ap, subst, ◌∙◌, arith, inl, inr, length-append, ◌⊎◌}
use Rattle.std.proofs.lemmas.List.{take-append-drop}
use Rattle.ca_value.specs.Tree.{Tree, Trees, TreePairs, text, none, item}
use Rattle.ca_value.specs.IsValue.{written, AreValues, IsValue}
use Rattle.ca_term.specs.Event.{EventView, BranchView, take_of, put_of, made, spawned, done, met, parked, posted, settled, defaulted, closed, registered, printed, ticked, over}
use Rattle.ca_term.specs.Program.{ProgramView}
use Rattle.ca_meaning.specs.Legal.{EndsLast, Legal}
use Rattle.ca_meaning.specs.RunValues.{EventHas, IsOffered, OffersIn}
use Rattle.ca_meaning.specs.Shown.{EventShown}
use Rattle.ca_meaning.specs.Sound.{Each}
use Rattle.ca_meaning.specs.State.{State}
use Rattle.ca_meaning.specs.Steps.{Steps}
use Rattle.ca_meaning.proofs.ChannelLaws.{steps_split}
use Rattle.ca_meaning.specs.Journal.{journal_text}
use Rattle.ca_reader.proofs.Nesting.{one_reading}
use Rattle.ca_reader.specs.Form.{FormTrees}
use Rattle.ca_derived.specs.Outcome.{made as expanded}
use Rattle.ca_derived.specs.Expand.{expand}
use Rattle.ca_forms.specs.declared.error.CheckErrorKind.{CheckErrorKind}
use Rattle.ca_check.specs.Expansion.{expansion_of}
use Rattle.ca_term.specs.declared.place.Place.{Place}
use Rattle.ca_journal_reader.specs.Input.{IsBadLine, IsTold, JournalReads, and_last, branch_values, branches_values, values_shown}
use Rattle.ca_replay.specs.Verdict.{IsFirstIllegal}
use Rattle.ca_run.specs.Findings.{AsksOf, IsRejected}
use Rattle.ca_run.specs.Inputs.{ProgramOf}
use Rattle.ca_run.specs.Marker.{IsParted}
use Rattle.ca_run.specs.Top.{IsParts}
use Rattle.ca_run.specs.Written.{IsWritten}
use Rattle.ca_run.proofs.Markers.{not_both, one_journal, one_script, parted_again}

-- ---- each event of a run can be told by a line

offered_value : (t : Tree) → IsOffered written t → IsValue written t
offered_value t h = record { regular = h.regular; light = (let l = h.light in omega (arith, l)); shallow = (let d = h.shallow in omega (arith, d)) }

line_value : (line : List ℕ) → length line < 65_536 → IsValue written (text line)
line_value line short = record { regular = tt; light = omega (arith, short); shallow = omega arith }

branch_told : (b : BranchView) (ts : Trees) → OffersIn written b → AreValues written ts → AreValues written (branch_values b ts)
branch_told (take_of p) ts o h = h
branch_told (put_of p v) ts o h = (offered_value v o, h)

branches_told : (bs : List BranchView) → Each (OffersIn written) bs → AreValues written (branches_values bs)
branches_told [] h = tt
branches_told (b ∷ bs) h = branch_told b (branches_values bs) h.0 (branches_told bs h.1)

last_told : (ts : Trees) (v : Tree) → AreValues written ts → IsValue written v → AreValues written (and_last ts v)
last_told none v h k = (k, tt)
last_told (item t ts) v h k = (h.0, last_told ts v h.1 k)

values_told : (e : EventView) → EventHas written e → AreValues written (values_shown e)
values_told (made t p what moment) h = tt
values_told (spawned t u kind result) h = tt
values_told (done t k b a) h = branch_told b (item a none) h.0 (offered_value a h.1, tt)
values_told (met t k side p v w o) h = (offered_value v h, tt)
values_told (parked t w bs) h = branches_told bs h.0
values_told (posted t w p v) h = (offered_value v h, tt)
values_told (settled w k side p v) h = (offered_value v h, tt)
values_told (defaulted t v) h = (offered_value v h, tt)
values_told (closed t p) h = tt
values_told (registered t name args v) h = last_told args v h.0 h.2
values_told (printed t line) h = (line_value line h, tt)
values_told (ticked m ports) h = tt
values_told (over t how) h = tt

pub all_told : (es : List EventView) → Each (EventHas written) es → Each EventShown es → Each IsTold es
all_told [] h s = tt
all_told (e ∷ es) h s = (record { shown = s.0; values = values_told e h.0 }, all_told es h.1 s.1)

-- ---- each beginning of a legal journal is one

goes_front : (xs ys : List EventView) → EndsLast (xs ++ ys) → EndsLast xs
goes_front [] ys h = tt
goes_front (x ∷ []) ys h = tt
goes_front (x ∷ y ∷ xs) ys h = (h.0, goes_front (y ∷ xs) ys h.1)

pub legal_front : (program : ProgramView) (journal : List EventView) (k : ℕ) → Legal program journal → Legal program (take k journal)
legal_front program journal k h =
    let parts : journal ≡ take k journal ++ drop k journal = sym (take-append-drop k journal) in
    let split = steps_split program (take k journal) (drop k journal) h.reaches.opening h.state (subst (λ (z : List EventView). Steps program h.reaches.opening z h.state) parts h.reaches.steps) in
    record {
      state = split.0;
      reaches = record { opening = h.reaches.opening; opens = h.reaches.opens; steps = split.1 };
      goes_on = goes_front (take k journal) (drop k journal) (subst EndsLast parts h.goes_on);
    }

-- ---- what an input of both comes to

one_made : (a b : FormTrees) → expanded a ≡ expanded b → a ≡ b
one_made a b e = cc

one_ok : (a b : ProgramView) → ◌≡◌ {A = Result ProgramView (CheckErrorKind × Place)} (Ok a) (Ok b) → a ≡ b
one_ok a b e = cc

one_program : (input : List ℕ) (a b : ProgramView) → ProgramOf input a → ProgramOf input b → a ≡ b
one_program input a b p q =
    let forms = one_reading input p.1.0 q.1.0 p.1.1 q.1.1 in
    let derived = one_made p.0 q.0 (sym p.1.2 ∙ ap expand forms ∙ q.1.2) in
    one_ok a b (sym p.2 ∙ ap expansion_of derived ∙ q.2)

module _ (script : List ℕ) (program : ProgramView) (journal : List EventView) (input : List ℕ) (w : IsWritten script program journal input) where
  parts : IsParted input script (journal_text journal)
  parts = subst (λ (z : List ℕ). IsParted z script (journal_text journal)) (sym w.text) (parted_again script (journal_text journal) w.ends w.unmarked)

  pub asks_of : JournalReads (journal_text journal) journal → AsksOf input program journal
  asks_of r = record { text = journal_text journal; asks = record { script = script; parted = parts; short = w.short; is_program = w.is_program }; reads = r }

  pub none_illegal : (k : ℕ) → IsFirstIllegal program journal k → ⊥
  none_illegal k h = h.illegal (legal_front program journal (suc k) w.legal)

  pub has_script : IsParts (Some input)
  has_script = (input, script, journal_text journal, refl, w.within, parts, w.short, (program, w.is_program))

  abbrev OneJournal : Type 0
  OneJournal = (bytes : List ℕ) (es fs : List EventView) → JournalReads bytes es → JournalReads bytes fs → es ≡ fs

  abbrev NotBoth : Type 0
  NotBoth = (bytes : List ℕ) (es : List EventView) (k : ℕ) → JournalReads bytes es → IsBadLine k bytes → ⊥

  pub none_rejected : JournalReads (journal_text journal) journal → OneJournal → NotBoth → (line : List ℕ) → IsRejected input line → ⊥
  none_rejected r once apart line (inl h) = not_both input script (journal_text journal) parts h.0
  none_rejected r once apart line (inr (inl h)) =
      let same : h.1 ≡ journal_text journal = one_journal input h.3.script h.1 script (journal_text journal) h.3.parted parts in
      apart (journal_text journal) journal h.2 r (subst (IsBadLine h.2) same h.4)
  none_rejected r once apart line (inr (inr h)) =
      let asks = h.3.asks in
      let same_text : h.3.text ≡ journal_text journal = one_journal input asks.script h.3.text script (journal_text journal) asks.parted parts in
      let same_script : asks.script ≡ script = one_script input asks.script h.3.text script (journal_text journal) asks.parted parts in
      let same_program : h.0 ≡ program = one_program script h.0 program (subst (λ (z : List ℕ). ProgramOf z h.0) same_script asks.is_program) w.is_program in
      let same_journal : h.1 ≡ journal = once (journal_text journal) h.1 journal (subst (λ (z : List ℕ). JournalReads z h.1) same_text h.3.reads) r in
      none_illegal h.2 (subst (λ (p : ProgramView). IsFirstIllegal p journal h.2) same_program (subst (λ (j : List EventView). IsFirstIllegal h.0 j h.2) same_journal h.4))
