-- Lines are read one after the other.
use Rattle.std.proofs.Common.{◌≡◌, ℕ, suc, ◌+◌, ◌<◌, ◌≤◌, ◌^◌, List, [], ◌∷◌, ◌++◌, length, refl, sym, ap, ap₂, subst, ◌∙◌, arith, Option, Some, None, Result, Ok, Err, append_assoc, append-nil, length-append}
use Rattle.std.specs.Fmt.{decimal}
use Rattle.ca_term.specs.Event.{EventView}
use Rattle.ca_meaning.specs.Sound.{Each}
use Rattle.ca_meaning.specs.Journal.{event_text, event_line, lines_from, journal_text}
use Rattle.ca_meaning.specs.Shown.{EventShown}
use Rattle.ca_meaning.proofs.LineValues.{behind_one}
use Rattle.ca_meaning.proofs.LinesTold.{event_told as text_told, journal_told}
use Rattle.ca_journal.specs.Merge.{Numbered, NoneLower, Ascends, events_of}
use Rattle.ca_journal_reader.specs.Words.{word_behind}
use Rattle.ca_journal_reader.specs.EventText.{entry_in}
use Rattle.ca_journal_reader.specs.Input.{IsTold, JournalReads, IsBadLine, HasNoLine}
use Rattle.ca_journal_reader.specs.Front.{HasLine}
use Rattle.ca_journal_reader.proofs.Numbers.{word_back, word_there}
use Rattle.ca_journal_reader.proofs.EventBack.{line_text, entry_back}
use Rattle.ca_journal_reader.proofs.EventTold.{event_told}

-- a line that isn't one
some_is : {A : Type 0} (x y : A) → Some x ≡ Some y → x ≡ y
some_is x y e = cc

pub line_none : (k : ℕ) (s : List ℕ) → k < 2 ^ 64 → entry_in s ≡ None → HasNoLine k s
line_none k s lt is = λ e r h eq. let b : None ≡ Some e = sym is ∙ ap entry_in eq ∙ entry_back k e r lt h in cc

abbrev err_or : {A E : Type 0} → E → Result A E → E
err_or d (Ok x) = d
err_or d (Err e) = e

pub err_is : {A E : Type 0} (r : Result A E) (x y : E) → r ≡ Err x → r ≡ Err y → x ≡ y
err_is r x y e f = ap (λ z. err_or x z) (sym e ∙ f)

no_some : {A P : Type 0} (o : Option A) (x : A) → o ≡ None → o ≡ Some x → P
no_some o x e f = let k : None ≡ Some x = sym e ∙ f in cc

pub line_other : (k : ℕ) (s : List ℕ) (e : EventView) (printed : List ℕ) → k < 2 ^ 64 → entry_in s ≡ Some e → printed ≡ event_line k e → word_behind printed s ≡ None → HasNoLine k s
line_other k s e printed lt is line no_line = λ f r h eq.
    let same : e ≡ f = some_is e f (sym is ∙ ap entry_in eq ∙ entry_back k f r lt h) in
    no_some (word_behind printed s) (tt, r) no_line (ap₂ (λ (w z : List ℕ). word_behind w z) (line ∙ ap (λ g. event_line k g) same) eq ∙ word_back (event_line k f) r)

pub line_there : (k : ℕ) (s : List ℕ) (e : EventView) (printed rest : List ℕ) (before behind : List Numbered)
    → entry_in s ≡ Some e → printed ≡ event_line k e → word_behind printed s ≡ Some (tt, rest) → behind ≡ before ++ record { number = k; event = e } ∷ [] → HasLine k s rest before behind
line_there k s e printed rest before behind is line passed added = record { event = e; told = event_told s e is; text = word_there printed s rest tt passed ∙ ap (λ z. z ++ rest) line; noted = added }

-- the events of some lines, with their numbers
abbrev pub numbered_from : ℕ → List EventView → List Numbered
numbered_from k [] = []
numbered_from k (e ∷ es) = record { number = k; event = e } ∷ numbered_from (suc k) es

numbered_more : (k : ℕ) (es : List EventView) (e : EventView) → numbered_from k (es ++ e ∷ []) ≡ numbered_from k es ++ record { number = k + length es; event = e } ∷ []
numbered_more k [] e = ap (λ (n : ℕ). record { number = n; event = e } ∷ []) (let i : k ≡ k + 0 = omega arith in i)
numbered_more k (f ∷ es) e = ap (λ z. record { number = k; event = f } ∷ z) (numbered_more (suc k) es e ∙ ap (λ (n : ℕ). numbered_from (suc k) es ++ record { number = n; event = e } ∷ []) (let i : suc k + length es ≡ k + suc (length es) = omega arith in i))

numbered_events : (k : ℕ) (es : List EventView) → events_of (numbered_from k es) ≡ es
numbered_events k [] = refl
numbered_events k (e ∷ es) = ap (λ z. e ∷ z) (numbered_events (suc k) es)

none_lower : (m k : ℕ) (es : List EventView) → m ≤ k → NoneLower m (numbered_from k es)
none_lower m k [] le = tt
none_lower m k (e ∷ es) le = (le, none_lower m (suc k) es (omega (arith, le)))

ascends : (k : ℕ) (es : List EventView) → Ascends (numbered_from k es)
ascends k [] = tt
ascends k (e ∷ es) = (none_lower k (suc k) es (omega arith), ascends (suc k) es)

lines_more : (k : ℕ) (es : List EventView) (e : EventView) → lines_from k (es ++ e ∷ []) ≡ lines_from k es ++ event_line (k + length es) e
lines_more k [] e = append-nil (event_line k e) ∙ ap (λ n. event_line n e) (let i : k ≡ k + 0 = omega arith in i)
lines_more k (f ∷ es) e =
    ap (λ z. event_line k f ++ z) (lines_more (suc k) es e ∙ ap (λ n. lines_from (suc k) es ++ event_line n e) (let i : suc k + length es ≡ k + suc (length es) = omega arith in i))
    ∙ sym (append_assoc (event_line k f) (lines_from (suc k) es) (event_line (k + suc (length es)) e))

each_more : (es : List EventView) (e : EventView) → Each IsTold es → IsTold e → Each IsTold (es ++ e ∷ [])
each_more [] e h k = (k, tt)
each_more (f ∷ es) e h k = (h.0, each_more es e h.1 k)

-- what was read of the bytes, and what is left
pub record ReadTo (bytes : List ℕ) (noted : List Numbered) (number : ℕ) (rest : List ℕ) : Type 0 where
  pub es : List EventView
  pub are : noted ≡ numbered_from 0 es
  pub count : length es ≡ number
  pub text : bytes ≡ journal_text es ++ rest
  pub told : Each IsTold es
  pub room : number + length rest ≤ length bytes

pub read_none : (bytes : List ℕ) → ReadTo bytes [] 0 bytes
read_none bytes = record { es = []; are = refl; count = refl; text = refl; told = tt; room = omega arith }

line_long : (k : ℕ) (e : EventView) (r : List ℕ) → suc (length r) ≤ length (event_line k e ++ r)
line_long k e r =
    let a = length-append (event_line k e) r in
    let b : length (event_line k e) ≡ length (decimal k ++ (32 ∷ event_text e)) + 1 = length-append (decimal k ++ (32 ∷ event_text e)) (10 ∷ []) in
    omega (arith, a, b)

more_lines : (bytes : List ℕ) (noted now : List Numbered) (n : ℕ) (rest behind : List ℕ) (e : EventView)
    → ReadTo bytes noted n rest → IsTold e → rest ≡ event_line n e ++ behind → now ≡ noted ++ record { number = n; event = e } ∷ [] → ReadTo bytes now (n + 1) behind
more_lines bytes noted now n rest behind e h told line added = record {
  es = h.es ++ e ∷ [];
  are = added ∙ ap₂ (λ (z : List Numbered) (m : ℕ). z ++ record { number = m; event = e } ∷ []) h.are (let c = h.count in let i : n ≡ 0 + length h.es = omega (arith, c) in i) ∙ sym (numbered_more 0 h.es e);
  count = (let c = h.count in let l : length (h.es ++ e ∷ []) ≡ length h.es + 1 = length-append h.es (e ∷ []) in omega (arith, c, l));
  text = h.text ∙ ap (λ z. journal_text h.es ++ z) line
      ∙ ap (λ m. journal_text h.es ++ (event_line m e ++ behind)) (let c = h.count in let i : n ≡ 0 + length h.es = omega (arith, c) in i)
      ∙ sym (append_assoc (journal_text h.es) (event_line (0 + length h.es) e) behind) ∙ ap (λ z. z ++ behind) (sym (lines_more 0 h.es e));
  told = each_more h.es e h.told told;
  room = (let r = h.room in let l : suc (length behind) ≤ length rest = subst (λ (z : List ℕ). suc (length behind) ≤ length z) (sym line) (line_long n e behind) in omega (arith, r, l));
}

pub read_more : (bytes : List ℕ) (noted now : List Numbered) (n : ℕ) (rest behind : List ℕ) → ReadTo bytes noted n rest → HasLine n rest behind noted now → ReadTo bytes now (n + 1) behind
read_more bytes noted now n rest behind h l = more_lines bytes noted now n rest behind l.event h l.told l.text l.noted

pub read_ascends : (bytes : List ℕ) (noted : List Numbered) (n : ℕ) (rest : List ℕ) → ReadTo bytes noted n rest → Ascends noted
read_ascends bytes noted n rest h = subst Ascends (sym h.are) (ascends 0 h.es)

pub read_all : (bytes : List ℕ) (noted : List Numbered) (n : ℕ) (rest : List ℕ) (es : List EventView) → ReadTo bytes noted n rest → rest ≡ [] → es ≡ events_of noted → JournalReads bytes es
read_all bytes noted n rest es h over are =
    let same : h.es ≡ es = sym (are ∙ ap events_of h.are ∙ numbered_events 0 h.es) in
    subst (λ (z : List EventView). JournalReads bytes z) same (record { text = h.text ∙ ap (λ z. journal_text h.es ++ z) over ∙ append-nil (journal_text h.es); told = h.told })

pub none_left : (s : List ℕ) → length s ≡ 0 → s ≡ []
none_left [] e = refl
none_left (b ∷ s) e = absurd (omega (arith, e))

-- one reading
same_front : (w x y : List ℕ) → w ++ x ≡ w ++ y → x ≡ y
same_front [] x y e = e
same_front (b ∷ w) x y e = same_front w x y (behind_one b b (w ++ x) (w ++ y) e)

line_apart : (k : ℕ) (e f : EventView) (r s : List ℕ) → EventShown e → EventShown f → event_line k e ++ r ≡ event_line k f ++ s → (e ≡ f) × (r ≡ s)
line_apart k e f r s g h x = text_told e f r s g h (behind_one 32 32 _ _ (same_front (decimal k) _ _ (sym (line_text k e r) ∙ x ∙ line_text k f s)))

all_shown : (es : List EventView) → Each IsTold es → Each EventShown es
all_shown [] h = tt
all_shown (e ∷ es) h = (h.0.shown, all_shown es h.1)

pub one_journal_read : (bytes : List ℕ) (es fs : List EventView) → JournalReads bytes es → JournalReads bytes fs → es ≡ fs
one_journal_read bytes es fs g h = journal_told es fs (all_shown es g.told) (all_shown fs h.told) (sym g.text ∙ h.text)

-- from line k on
bad_apart : (k m : ℕ) (es before : List EventView) (behind : List ℕ) → Each IsTold es → Each IsTold before → lines_from k es ≡ lines_from k before ++ behind → k + length before ≡ m → HasNoLine m behind → (behind ≡ [] → ⊥) → ⊥
bad_apart k m [] [] behind g h x at bad more = more (sym x)
bad_apart k m (e ∷ es) [] behind g h x at bad more = bad e (lines_from (suc k) es) g.0 (sym x ∙ ap (λ n. event_line n e ++ lines_from (suc k) es) (let i : k ≡ m = omega (arith, at) in i))
bad_apart k m [] (f ∷ before) behind g h x at bad more = let l = line_long k f (lines_from (suc k) before ++ behind) in let y : length (event_line k f ++ (lines_from (suc k) before ++ behind)) ≡ 0 = ap length (sym (x ∙ append_assoc (event_line k f) (lines_from (suc k) before) behind)) in absurd (omega (arith, l, y))
bad_apart k m (e ∷ es) (f ∷ before) behind g h x at bad more =
    let a = line_apart k e f (lines_from (suc k) es) (lines_from (suc k) before ++ behind) g.0.shown h.0.shown (x ∙ append_assoc (event_line k f) (lines_from (suc k) before) behind) in
    bad_apart (suc k) m es before behind g.1 h.1 a.1 (let i : suc k + length before ≡ m = omega (arith, at) in i) bad more

pub not_both : (bytes : List ℕ) (es : List EventView) (k : ℕ) → JournalReads bytes es → IsBadLine k bytes → ⊥
not_both bytes es k g h = bad_apart 0 k es h.before h.behind g.told h.told (sym g.text ∙ h.text) (let c = h.count in omega (arith, c)) h.bad h.more

bads_apart : (k m n : ℕ) (es fs : List EventView) (r s : List ℕ) → Each IsTold es → Each IsTold fs → lines_from k es ++ r ≡ lines_from k fs ++ s → k + length es ≡ m → k + length fs ≡ n → HasNoLine m r → HasNoLine n s → m ≡ n
bads_apart k m n [] [] r s g h x a b c d = omega (arith, a, b)
bads_apart k m n (e ∷ es) [] r s g h x a b c d = absurd (d e (lines_from (suc k) es ++ r) g.0 (sym x ∙ append_assoc (event_line k e) (lines_from (suc k) es) r ∙ ap (λ z. event_line z e ++ (lines_from (suc k) es ++ r)) (let i : k ≡ n = omega (arith, b) in i)))
bads_apart k m n [] (f ∷ fs) r s g h x a b c d = absurd (c f (lines_from (suc k) fs ++ s) h.0 (x ∙ append_assoc (event_line k f) (lines_from (suc k) fs) s ∙ ap (λ z. event_line z f ++ (lines_from (suc k) fs ++ s)) (let i : k ≡ m = omega (arith, a) in i)))
bads_apart k m n (e ∷ es) (f ∷ fs) r s g h x a b c d =
    let y = line_apart k e f (lines_from (suc k) es ++ r) (lines_from (suc k) fs ++ s) g.0.shown h.0.shown (sym (append_assoc (event_line k e) (lines_from (suc k) es) r) ∙ x ∙ append_assoc (event_line k f) (lines_from (suc k) fs) s) in
    bads_apart (suc k) m n es fs r s g.1 h.1 y.1 (let i : suc k + length es ≡ m = omega (arith, a) in i) (let i : suc k + length fs ≡ n = omega (arith, b) in i) c d

pub one_bad_line : (bytes : List ℕ) (j k : ℕ) → IsBadLine j bytes → IsBadLine k bytes → j ≡ k
one_bad_line bytes j k g h = bads_apart 0 j k g.before h.before g.behind h.behind g.told h.told (sym g.text ∙ h.text) (let c = g.count in omega (arith, c)) (let c = h.count in omega (arith, c)) g.bad h.bad
