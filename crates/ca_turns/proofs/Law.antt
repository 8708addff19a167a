-- Drawn turns, each of which shows what the last one before it left, are one run.
use Rattle.std.proofs.Common.{◌≡◌, ℕ, zero, suc, ◌+◌, ◌<◌, ◌≤◌, ◌⊎◌, List, [], ◌∷◌, ◌++◌, length, sym, refl, ap, ◌∙◌, subst, inl, inr, ⊎_elim, arith, length-append}
use mathlib.Core.Path.{Path}
use mathlib.Core.Option.{some, some-injective, some-ne-none}
use native.Mathlib.Decide.{dec_le}
use lib.ListN.{get_elem?}
use Rattle.ca_turns.specs.declared.rule.Turn.{Turn}
use Rattle.ca_turns.specs.Places.{write, IsDistinct}
use Rattle.ca_turns.specs.History.{LeavesPart, Untouched, Run}
use Rattle.ca_turns.proofs.Lists.{in_range, there_is, at_snoc}
use Rattle.ca_turns.proofs.Runs.{one_index, one_more, length-write, last_in, reads_by}

module _ {C E : Type 0} (touches : E → List ℕ) (moves : E → List C → List C → Type 0) (opening : List C) (D : Turn C E → Type 0) where
  -- what the turn of the greatest number below n that touches the part left, or the first content
  abbrev pub Last : ℕ → ℕ → C → Type 0
  Last n p c = ((t : Turn C E) × D t × (t.number < n) × LeavesPart touches t p c × ((u : Turn C E) → D u → t.number < u.number → u.number < n → Untouched touches u p))
      ⊎ (((u : Turn C E) → D u → u.number < n → Untouched touches u p) × (get_elem? opening p ≡ some c))

  abbrev pub History : ℕ → Type 0
  History n = (log : List (Turn C E)) × (z : List C) × Run touches moves opening log z × (length log ≡ n) × (length z ≡ length opening) × ((m : ℕ) (t : Turn C E) → get_elem? log m ≡ some t → D t × (t.number ≡ m))

  module _ (one : (t u : Turn C E) → D t → D u → t.number ≡ u.number → Path (Turn C E) t u) (apart : (e : E) → IsDistinct (touches e)) where
    -- there is one last content
    pub one_last : (n p : ℕ) (c d : C) → Last n p c → Last n p d → c ≡ d
    one_last n p c d a b = ⊎_elim
        (λ x. ⊎_elim (λ y. same x y) (λ y. absurd (y.0 x.0 x.1 x.2 x.3.0 x.3.1)) b)
        (λ x. ⊎_elim (λ y. absurd (x.0 y.0 y.1 y.2 y.3.0 y.3.1)) (λ y. some-injective c d (sym x.1 ∙ y.1)) b) a
      where
        leaves : (t u : Turn C E) → Path (Turn C E) t u → LeavesPart touches t p c → LeavesPart touches u p d → c ≡ d
        leaves t u e x y = let y' = subst (λ (z : Turn C E). LeavesPart touches z p d) (sym e) y in let m = one_index (touches t.event) (apart t.event) x.0 y'.0 p x.1 y'.1 in some-injective c d (sym x.2 ∙ ap (get_elem? t.after) m ∙ y'.2)

        same : ((t : Turn C E) × D t × (t.number < n) × LeavesPart touches t p c × ((u : Turn C E) → D u → t.number < u.number → u.number < n → Untouched touches u p))
            → ((t : Turn C E) × D t × (t.number < n) × LeavesPart touches t p d × ((u : Turn C E) → D u → t.number < u.number → u.number < n → Untouched touches u p)) → c ≡ d
        same x y = elim (dec_le x.0.number y.0.number) [
          | yes le ↦ elim (dec_le y.0.number x.0.number) [
            | yes ge ↦ leaves x.0 y.0 (one x.0 y.0 x.1 y.1 (let a : x.0.number ≤ y.0.number = le in let b : y.0.number ≤ x.0.number = ge in omega arith)) x.3 y.3
            | no less ↦ absurd (x.4 y.0 y.1 (omega arith) y.2 y.3.0 y.3.1)
          ]
          | no more ↦ absurd (y.4 x.0 x.1 (omega arith) x.2 x.3.0 x.3.1)
        ]

    module _ (w : ℕ) (at : (n : ℕ) → n < w → (t : Turn C E) × D t × (t.number ≡ n)) (fits : (t : Turn C E) → D t → (length t.before ≡ length (touches t.event)) × (length t.after ≡ length (touches t.event)) × moves t.event t.before t.after)
        (inside : (t : Turn C E) → D t → (m p : ℕ) → get_elem? (touches t.event) m ≡ some p → p < length opening)
        (chain : (t : Turn C E) → D t → (m p : ℕ) (c : C) → get_elem? (touches t.event) m ≡ some p → get_elem? t.before m ≡ some c → Last t.number p c) where
      pub last_of : (n : ℕ) (h : History n) (p : ℕ) (c : C) → get_elem? h.1 p ≡ some c → Last n p c
      last_of n h p c e = ⊎_elim
          (λ l. let f = h.5 l.0 l.1 l.2 in let lt : l.0 < length h.0 = in_range h.0 l.0 l.1 l.2 in let is : l.1.number ≡ l.0 = f.1 in let long : length h.0 ≡ n = h.3 in
          inl (l.1, f.0, (let g : l.1.number < n = omega arith in g), l.3, λ u d more less. let b = back h u d (omega arith) in l.4 u.number u (omega arith) b))
          (λ l. inr ((λ u d less. let long : length h.0 ≡ n = h.3 in l.0 u.number u (back h u d (omega arith))), l.1))
          (last_in touches moves opening h.0 h.1 h.2 p c e)
        where
          back : (h : History n) (u : Turn C E) → D u → u.number < length h.0 → get_elem? h.0 u.number ≡ some u
          back h u d lt = let x = there_is h.0 u.number lt in let f = h.5 u.number x.0 x.1 in x.1 ∙ ap some (one x.0 u f.0 d f.1)

      pub law : (n : ℕ) → n ≤ w → History n
      law zero le = ([], opening, refl, refl, refl, λ m t e. absurd (some-ne-none t (sym e)))
      law (suc n) le = let h = law n (omega arith) in let a = at n (omega arith) in let t = a.0 in let f = fits t a.1 in
          let reads = reads_by h.1 (touches t.event) t.before f.0 (λ m p c e g. let x = there_is h.1 p (let i : p < length opening = inside t a.1 m p e in let l : length h.1 ≡ length opening = h.4 in omega arith) in
          x.1 ∙ ap some (one_last n p x.0 c (last_of n h p x.0 x.1) (subst (λ k. Last k p c) a.2 (chain t a.1 m p c e g)))) in (
            h.0 ++ t ∷ [],
            write h.1 (touches t.event) t.after,
            one_more touches moves opening h.0 t h.1 h.2 (reads, f.2, f.1),
            (let l : length h.0 ≡ n = h.3 in let m : length (h.0 ++ t ∷ []) ≡ length h.0 + 1 = length-append h.0 (t ∷ []) in omega arith),
            length-write h.1 (touches t.event) t.after ∙ h.4,
            λ m u e. ⊎_elim (h.5 m u) (λ z. let is = z.1 in (subst D is a.1, ap (λ (y : Turn C E). y.number) (sym is) ∙ a.2 ∙ sym h.3 ∙ sym z.0)) (at_snoc h.0 t u m e),
          )
