-- One event more, in the counts of a journal.
use Rattle.std.proofs.Common.{◌≡◌, ℕ, suc, ◌+◌, List, [], ◌∷◌, ◌++◌, Bool, true, false, cond, arith}
use Rattle.ca_term.specs.Event.{EventView}
use Rattle.ca_meaning.specs.History.{count, mark_on}
use Rattle.ca_report.specs.Counts.{is_accept, is_pass, is_give, accepted, passed, given_out}

abbrev pub bit : Bool → ℕ
bit b = cond b 1 0

one_first : (b : Bool) (n : ℕ) → cond b (suc n) n ≡ n + bit b
one_first true n = omega arith
one_first false n = omega arith

next : (b : Bool) (m n k : ℕ) → m ≡ n + k → cond b (suc m) m ≡ cond b (suc n) n + k
next true m n k e = omega arith
next false m n k e = e

pub count_last : (test : EventView → Bool) (es : List EventView) (e : EventView) → count test (es ++ e ∷ []) ≡ count test es + bit (test e)
count_last test [] e = one_first (test e) 0
count_last test (x ∷ es) e = next (test x) (count test (es ++ e ∷ [])) (count test es) (bit (test e)) (count_last test es e)

pub accepted_last : (p : ℕ) (es : List EventView) (e : EventView) → accepted p (es ++ e ∷ []) ≡ accepted p es + bit (is_accept (mark_on p e))
accepted_last p es e = count_last (λ x. is_accept (mark_on p x)) es e

pub passed_last : (p : ℕ) (es : List EventView) (e : EventView) → passed p (es ++ e ∷ []) ≡ passed p es + bit (is_pass (mark_on p e))
passed_last p es e = count_last (λ x. is_pass (mark_on p x)) es e

pub given_last : (p : ℕ) (es : List EventView) (e : EventView) → given_out p (es ++ e ∷ []) ≡ given_out p es + bit (is_give (mark_on p e))
given_last p es e = count_last (λ x. is_give (mark_on p x)) es e
