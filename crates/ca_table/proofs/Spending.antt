-- The cost of all events that workers noted is the sum of what each worker's cost.
use Rattle.std.proofs.Common.{◌≡◌, ◌∙◌, ℕ, ◌+◌, List, [], ◌∷◌, ◌++◌, length, map, refl, sym, ap, arith, Bool, true, false, cond, zero-add}
use mathlib.Core.List.{append-nil}
use Rattle.std.specs.Prelude.{nat_le}
use Rattle.ca_term.specs.Cost.{cost_of}
use Rattle.ca_term.specs.Event.{EventView}
use Rattle.ca_journal.specs.Merge.{Numbered, entries, events_of, in_order, joined, placed}
use Rattle.ca_journal.specs.declared.entries.Entries.{Entries}
use Rattle.ca_meaning.specs.Cost.{cost}
use Rattle.ca_turns.specs.Places.{total}
use Rattle.ca_turns.proofs.Lists.{total-snoc}
use Rattle.ca_table.specs.Worked.{spent}
use Rattle.ca_table.specs.declared.worker.Worker.{Worker}
use Rattle.ca_table.proofs.Joining.{no_total}

-- what the events of these entries cost
abbrev pub cost_in : List Numbered → ℕ
cost_in es = cost (events_of es)

cost_placed : (e : Numbered) (es : List Numbered) → cost_in (placed e es) ≡ cost_of e.event + cost_in es
cost_placed e [] = refl
cost_placed e (f ∷ es) = by (nat_le e.number f.number) (cost_placed e es) where
  by : (b : Bool) → cost_in (placed e es) ≡ cost_of e.event + cost_in es → cost_in (cond b (e ∷ f ∷ es) (f ∷ placed e es)) ≡ cost_of e.event + (cost_of f.event + cost_in es)
  by true k = refl
  by false k = omega (arith, k)

-- their order doesn't matter
pub cost_ordered : (es : List Numbered) → cost_in (in_order es) ≡ cost_in es
cost_ordered [] = refl
cost_ordered (e ∷ es) = cost_placed e (in_order es) ∙ ap (λ (n : ℕ). cost_of e.event + n) (cost_ordered es)

cost_append : (es fs : List Numbered) → cost_in (es ++ fs) ≡ cost_in es + cost_in fs
cost_append [] fs = sym (zero-add (cost_in fs))
cost_append (e ∷ es) fs = let k = cost_append es fs in omega (arith, k)

-- one list more
pub cost_more : (lists : List Entries) (e : Entries) → cost_in (joined (map entries (lists ++ e ∷ []))) ≡ cost_in (joined (map entries lists)) + cost_in (entries e)
cost_more [] e = ap cost_in (append-nil (entries e)) ∙ sym (zero-add (cost_in (entries e)))
cost_more (l ∷ lists) e = let a = cost_append (entries l) (joined (map entries (lists ++ e ∷ []))) in let b = cost_append (entries l) (joined (map entries lists)) in let k = cost_more lists e in omega (arith, a, b, k)

pub cost_alone : {lists : List Entries} (e : Entries) (n : ℕ) → lists ≡ e ∷ [] → cost_in (joined (map entries lists)) + n ≡ cost_in (entries e) + n
cost_alone e n is = ap (λ (l : List Entries). cost_in (joined (map entries l)) + n) is ∙ ap (λ (es : List Numbered). cost_in es + n) (append-nil (entries e))

one_moved : (a b c d e n : ℕ) → a ≡ b + e → c ≡ d + e → b + c ≡ n → a + d ≡ n
one_moved a b c d e n p q r = omega (arith, p, q, r)

all_moved : (a c d e f : ℕ) → a ≡ f → c ≡ d + e → f ≡ e + d → a ≡ c
all_moved a c d e f p q r = omega (arith, p, q, r)

none_left : (a c n : ℕ) → c ≡ 0 → a + c ≡ n → a ≡ n
none_left a c n p q = omega (arith, p, q)

module _ {A C : Type 0} where
  abbrev worth : Worker A C → ℕ
  worth = spent {A = A} {C = C}

  -- what one worker noted joins what others did
  pub spent_join : {new : List Entries} (lists : List Entries) (w : Worker A C) (xs ys : List (Worker A C)) (n : ℕ) → new ≡ lists ++ w.entries ∷ [] → xs ≡ ys ++ w ∷ [] → cost_in (joined (map entries lists)) + total (spent {A = A} {C = C}) xs ≡ n → cost_in (joined (map entries new)) + total (spent {A = A} {C = C}) ys ≡ n
  spent_join {new} lists w xs ys n more popped all =
      one_moved (cost_in (joined (map entries new))) (cost_in (joined (map entries lists))) (total worth xs) (total worth ys) (worth w) n
      (ap (λ (l : List Entries). cost_in (joined (map entries l))) more ∙ cost_more lists w.entries) (ap (total worth) popped ∙ total-snoc worth ys w) all

  pub spent_joined : (lists : List Entries) (xs : List (Worker A C)) (n : ℕ) → length xs ≡ 0 → cost_in (joined (map entries lists)) + total (spent {A = A} {C = C}) xs ≡ n → cost_in (joined (map entries lists)) ≡ n
  spent_joined lists xs n none all = none_left (cost_in (joined (map entries lists))) (total worth xs) n (no_total worth xs none) all

  -- the merged journal costs what all workers noted
  pub spent_all : {es : List EventView} (lists : List Entries) (ys : List (Worker A C)) (first : Worker A C) (xs : List (Worker A C)) → es ≡ events_of (in_order (joined (map entries lists))) → xs ≡ ys ++ first ∷ [] → cost_in (joined (map entries lists)) ≡ spent first + total (spent {A = A} {C = C}) ys → cost es ≡ total (spent {A = A} {C = C}) xs
  spent_all {es} lists ys first xs merged popped all =
      all_moved (cost es) (total worth xs) (total worth ys) (worth first) (cost_in (joined (map entries lists))) (ap cost merged ∙ cost_ordered (joined (map entries lists))) (ap (total worth) popped ∙ total-snoc worth ys first) all
