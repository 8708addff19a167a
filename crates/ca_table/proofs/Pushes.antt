-- One more of the same at the end.
use Rattle.std.proofs.Common.{◌≡◌, ◌∙◌, ℕ, zero, suc, ◌+◌, List, [], ◌∷◌, ◌++◌, map, replicate, refl, ap, arith}
use mathlib.Core.List.{append_assoc}

module _ {X : Type 0} where
  rep_snoc : (n : ℕ) (x : X) → replicate n x ++ x ∷ [] ≡ replicate (suc n) x
  rep_snoc zero x = refl
  rep_snoc (suc n) x = ap (λ l. x ∷ l) (rep_snoc n x)

  pub one_more : (new mid old : List X) (n : ℕ) (x : X) → new ≡ mid ++ x ∷ [] → mid ≡ old ++ replicate n x → new ≡ old ++ replicate (n + 1) x
  one_more new mid old n x e f = e ∙ ap (λ l. l ++ x ∷ []) f ∙ append_assoc old (replicate n x) (x ∷ []) ∙ ap (λ l. old ++ l) (rep_snoc n x) ∙ ap (λ (m : ℕ). old ++ replicate m x) (let k : suc n ≡ n + 1 = omega arith in k)

  pub all_pushed : (p0 p1 p2 p3 p4 p5 p6 ls bs ss rs : List X) (t f : X) → p0 ≡ [] → p1 ≡ p0 ++ ls → p2 ≡ p1 ++ bs → p3 ≡ p2 ++ ss → p4 ≡ p3 ++ t ∷ [] → p5 ≡ p4 ++ f ∷ [] → p6 ≡ p5 ++ rs → p6 ≡ ls ++ (bs ++ (ss ++ (t ∷ (f ∷ rs))))
  all_pushed p0 p1 p2 p3 p4 p5 p6 ls bs ss rs t f a b c d e g h =
      h ∙ ap (λ l. l ++ rs) (g ∙ ap (λ l. l ++ f ∷ []) (e ∙ ap (λ l. l ++ t ∷ []) (d ∙ ap (λ l. l ++ ss) (c ∙ ap (λ l. l ++ bs) (b ∙ ap (λ l. l ++ ls) a)))))
      ∙ append_assoc (((ls ++ bs) ++ ss) ++ t ∷ []) (f ∷ []) rs ∙ append_assoc ((ls ++ bs) ++ ss) (t ∷ []) (f ∷ rs) ∙ append_assoc (ls ++ bs) ss (t ∷ (f ∷ rs)) ∙ append_assoc ls bs (ss ++ (t ∷ (f ∷ rs)))

map_snoc : {P S : Type 0} (seen : P → S) (l : List P) (p : P) → map seen (l ++ p ∷ []) ≡ map seen l ++ seen p ∷ []
map_snoc seen [] p = refl
map_snoc seen (x ∷ l) p = ap (λ k. seen x ∷ k) (map_snoc seen l p)

pub pushed : {P S : Type 0} (seen : P → S) (new old : List P) (p : P) (s : S) → new ≡ old ++ p ∷ [] → seen p ≡ s → map seen new ≡ map seen old ++ s ∷ []
pushed seen new old p s e f = ap (map seen) e ∙ map_snoc seen old p ∙ ap (λ x. map seen old ++ x ∷ []) f
