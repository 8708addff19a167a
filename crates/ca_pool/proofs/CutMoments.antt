-- The moments of the events that a cut keeps stand first among those of the journal, and so among the same answers.
use Rattle.std.proofs.Common.{◌≡◌, inl, inr, ℕ, zero, suc, List, [], ◌∷◌, ◌++◌, take, refl, sym, ap, subst, ◌∙◌, append_assoc, Option, Some, None}
use Rattle.ca_term.specs.Event.{EventView}
use Rattle.ca_journal.specs.Cut.{End, kept}
use Rattle.ca_table.specs.Moments.{KeepsTime, StandIn, moment_told, moments_told}

stand_first : (xs zs ys : List ℕ) → StandIn (xs ++ zs) ys → StandIn xs ys
stand_first [] zs ys h = tt
stand_first (x ∷ xs) zs [] h = h
stand_first (x ∷ xs) zs (y ∷ ys) (inl h) = inl (h.0, stand_first xs zs ys h.1)
stand_first (x ∷ xs) zs (y ∷ ys) (inr h) = inr (stand_first (x ∷ xs) zs ys h)

-- what stands behind the moments of the first events
later : (n : ℕ) (es : List EventView) → (zs : List ℕ) × (moments_told es ≡ moments_told (take n es) ++ zs)
later zero [] = ([], refl)
later zero (e ∷ es) = (moments_told (e ∷ es), refl)
later (suc n) [] = ([], refl)
later (suc n) (e ∷ es) = let r = later n es in (r.0, ap (λ (ms : List ℕ). moment_told e ++ ms) r.1 ∙ sym (append_assoc (moment_told e) (moments_told (take n es)) r.0))

keeps_first : (n : ℕ) (es : List EventView) (least : ℕ) (before after : Option (List ℕ)) → KeepsTime es least before after → KeepsTime (take n es) least before after
keeps_first n es least before after k = let r = later n es in record {
  answers = k.answers;
  last = k.last;
  rise = k.rise;
  told = k.told;
  among = stand_first (moments_told (take n es)) r.0 k.answers (subst (λ (ms : List ℕ). StandIn ms k.answers) r.1 k.among);
}

pub keeps_cut : (c : Option End) (es : List EventView) (least : ℕ) (before after : Option (List ℕ)) → KeepsTime es least before after → KeepsTime (kept c es) least before after
keeps_cut None es least before after k = k
keeps_cut (Some c) es least before after k = keeps_first c.0 es least before after k
