-- What a journal's text is as an input: which journal is read from bytes, and which line is the first that is none.
use Rattle.std.specs.Prelude.{◌≡◌, ℕ, List, [], ◌∷◌, ◌++◌, length}
use Rattle.ca_value.specs.Tree.{Tree, Trees, text, none, item}
use Rattle.ca_value.specs.IsValue.{written, AreValues}
use Rattle.ca_term.specs.Event.{EventView, BranchView, take_of, put_of, made, spawned, done, met, parked, posted, settled, defaulted, closed, registered, printed, ticked, over}
use Rattle.ca_meaning.specs.Sound.{Each}
use Rattle.ca_meaning.specs.Shown.{EventShown}
use Rattle.ca_meaning.specs.Journal.{event_line, journal_text}

-- the values that an event's line shows
abbrev pub and_last : Trees → Tree → Trees
and_last none v = item v none
and_last (item t ts) v = item t (and_last ts v)

abbrev pub branch_values : BranchView → Trees → Trees
branch_values (take_of p) ts = ts
branch_values (put_of p v) ts = item v ts

abbrev pub branches_values : List BranchView → Trees
branches_values [] = none
branches_values (b ∷ bs) = branch_values b (branches_values bs)

abbrev pub values_shown : EventView → Trees
values_shown (made t p what moment) = none
values_shown (spawned t u kind result) = none
values_shown (done t k b a) = branch_values b (item a none)
values_shown (met t k side p v w o) = item v none
values_shown (parked t w bs) = branches_values bs
values_shown (posted t w p v) = item v none
values_shown (settled w k side p v) = item v none
values_shown (defaulted t v) = item v none
values_shown (closed t p) = none
values_shown (registered t name args v) = and_last args v
values_shown (printed t line) = item (text line) none
values_shown (ticked m ports) = none
values_shown (over t how) = none

-- An event that a line can tell: it holds no more than its line shows, and each value in it is a value whose keywords are
-- keywords and whose integers lie in 64 bits.
pub record IsTold (e : EventView) : Type 0 where
  pub shown : EventShown e
  pub values : AreValues written (values_shown e)

-- The bytes are this journal's text.
pub record JournalReads (bytes : List ℕ) (journal : List EventView) : Type 0 where
  pub text : bytes ≡ journal_text journal
  pub told : Each IsTold journal

-- The bytes don't begin with a line k.
abbrev pub HasNoLine : ℕ → List ℕ → Type 0
HasNoLine k bytes = (e : EventView) (rest : List ℕ) → IsTold e → bytes ≡ event_line k e ++ rest → ⊥

-- Lines 0 to k - 1 are a journal's text, and what follows isn't empty and doesn't begin with a line k.
pub record IsBadLine (k : ℕ) (bytes : List ℕ) : Type 0 where
  pub before : List EventView
  pub behind : List ℕ
  pub count : length before ≡ k
  pub text : bytes ≡ journal_text before ++ behind
  pub told : Each IsTold before
  pub more : behind ≡ [] → ⊥
  pub bad : HasNoLine k behind
