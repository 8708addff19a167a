-- What the rule with its witnesses says of the turns in the hands' lists.
use Rattle.std.proofs.Common.{◌≡◌, ℕ, ◌<◌, ◌≤◌, List, [], ◌∷◌, length, take, sym, refl, ap, ◌∙◌, subst, inl, inr, ⊎_elim, arith}
use mathlib.Core.Path.{Path}
use mathlib.Core.Option.{some, some-injective}
use lib.ListN.{get_elem?}
use Rattle.std.specs.Prelude.{Option}
use Rattle.atomic_table.specs.Table.{State}
use Rattle.ca_turns.specs.declared.rule.Turn.{Turn}
use Rattle.ca_turns.specs.declared.rule.View.{View}
use Rattle.ca_turns.specs.History.{Run}
use Rattle.ca_turns.specs.OneHistory.{IsTurnAt, IsDrawn, LastLeft}
use Rattle.ca_turns.proofs.Lists.{in_range}
use Rattle.ca_turns.proofs.Runs.{last_in, up_to, in_take, below, read_one, read_some, long_reads, long_run}
use Rattle.ca_turns.proofs.Ruled.{Ruled}

module _ {P C E : Type 0} (content : P → C) (touches : E → List ℕ) (moves : E → List C → List C → Type 0) (opening : List C) (hands : ℕ) (s : State (Option P) (View C E)) (r : Ruled content touches moves opening hands s) where
  pub drawn_is : (t : Turn C E) → IsDrawn s.views t → get_elem? r.log t.number ≡ some t
  drawn_is t (j, k, v, e, f) = ((r.each_view j v e).drew k t f).0

  pub logged : (n : ℕ) (t : Turn C E) → get_elem? r.log n ≡ some t → (t.number ≡ n) × IsDrawn s.views t
  logged n t e = let o = r.owned n (in_range r.log n t e) in let d = ((r.each_view (r.owner n).0 o.0 o.2).drew (r.owner n).1 o.1 o.3) in let is : Path (Turn C E) o.1 t = some-injective o.1 t (sym d.0 ∙ ap (get_elem? r.log) o.4 ∙ e) in
      (ap (λ (z : Turn C E). z.number) (sym is) ∙ o.4, ((r.owner n).0, (r.owner n).1, o.0, o.2, o.3 ∙ ap some is))

  read_back : (n : ℕ) → n ≤ length r.log → (z : List C) → Run touches moves opening (take n r.log) z → (p : ℕ) (c : C) → get_elem? z p ≡ some c → LastLeft s.views touches opening n p c
  read_back n le z runs p c e = ⊎_elim
      (λ l. let lt = below r.log n l.0 l.1 l.2 in let g = logged l.0 l.1 (sym (in_take r.log n l.0 lt) ∙ l.2) in let is : l.1.number ≡ l.0 = g.0 in
      inl (l.1, g.1, (let a : l.1.number < n = omega arith in a), l.3, λ u d more less. l.4 u.number u (omega arith) (in_take r.log n u.number less ∙ drawn_is u d)))
      (λ l. inr ((λ u d less. l.0 u.number u (in_take r.log n u.number less ∙ drawn_is u d)), l.1))
      (last_in touches moves opening (take n r.log) z runs p c e)

  -- what a turn shows of a part before it is what the last turn before it left there
  pub before_is : (t : Turn C E) → IsDrawn s.views t → (m p : ℕ) (c : C) → get_elem? (touches t.event) m ≡ some p → get_elem? t.before m ≡ some c → LastLeft s.views touches opening t.number p c
  before_is t d m p c e f = let at = drawn_is t d in let u = up_to touches moves opening r.log r.now t.number t r.runs at in let lt : t.number < length r.log = in_range r.log t.number t at in
      read_back t.number (omega arith) u.0 u.1 p c (read_one u.0 (touches t.event) t.before u.2.0 m p c e f)

  pub each_moves : (t : Turn C E) → IsDrawn s.views t → (length t.before ≡ length (touches t.event)) × (length t.after ≡ length (touches t.event)) × moves t.event t.before t.after
  each_moves t d = let u = up_to touches moves opening r.log r.now t.number t r.runs (drawn_is t d) in (long_reads u.0 (touches t.event) t.before u.2.0, u.2.2, u.2.1)

  -- a turn's parts are parts of the table
  pub inside : (t : Turn C E) → IsDrawn s.views t → (m p : ℕ) → get_elem? (touches t.event) m ≡ some p → p < length opening
  inside t d m p e = let u = up_to touches moves opening r.log r.now t.number t r.runs (drawn_is t d) in let at = read_some u.0 (touches t.event) t.before u.2.0 m p e in
      subst (λ n. p < n) (long_run touches moves opening (take t.number r.log) u.0 u.1) (in_range u.0 p at.0 at.1)

  pub one_place : (i a j b : ℕ) (t u : Turn C E) → IsTurnAt s.views i a t → IsTurnAt s.views j b u → t.number ≡ u.number → (i ≡ j) × (a ≡ b)
  one_place i a j b t u x y e = let o = ((r.each_view i x.0 x.1).drew a t x.2).1 in let o' = ((r.each_view j y.0 y.1).drew b u y.2).1 in let p : Path (ℕ × ℕ) (i, a) (j, b) = sym o ∙ ap r.owner e ∙ o' in (ap (λ (z : ℕ × ℕ). z.0) p, ap (λ (z : ℕ × ℕ). z.1) p)

  pub at_number : (n : ℕ) → n < length r.log → (t : Turn C E) × IsDrawn s.views t × (t.number ≡ n)
  at_number n h = let o = r.owned n h in (o.1, ((r.owner n).0, (r.owner n).1, o.0, o.2, o.3), o.4)

  pub none_above : (t : Turn C E) → IsDrawn s.views t → t.number < length r.log
  none_above t d = in_range r.log t.number t (drawn_is t d)

  -- the content of a part now
  pub now_is : (p : ℕ) (c : C) → get_elem? r.now p ≡ some c → LastLeft s.views touches opening (length r.log) p c
  now_is p c e = read_back (length r.log) (omega arith) r.now (subst (λ l. Run touches moves opening l r.now) (sym (whole r.log)) r.runs) p c e
    where
      whole : (l : List (Turn C E)) → take (length l) l ≡ l
      whole [] = refl
      whole (x ∷ l) = ap (λ z. x ∷ z) (whole l)
