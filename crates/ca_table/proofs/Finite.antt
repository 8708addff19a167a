-- A table seen as a finite map: what it shows at a key, and that tables which show the same are the same.
use Rattle.std.proofs.Common.{◌≡◌, ◌∙◌, ℕ, List, [], ◌∷◌, map as each, refl, sym, ap, Some, None, Bool, true, false, cond}
use Rattle.std.specs.Prelude.{nat_eq, option_map}
use Rattle.std.specs.Map.{lookup}
use Rattle.std.specs.Ordering.{nat_cmp}
use Rattle.std.specs.FinMap as map
use Rattle.std.specs.Cmp.{nat_cmp_total, unsigned_tied}
use Rattle.indexmap.specs.IndexMap.{IndexMap, get}
use Rattle.ca_table.specs.Parts.{finite}

module _ {V X : Type 0} (show : V → X) where
  found : (p : ℕ) (es : List (ℕ × V)) → map.find nat_cmp p (each (λ e. (e.0, show e.1)) es) ≡ option_map show (lookup (nat_eq p) es)
  found p [] = refl
  found p (e ∷ es) = ap (λ b. cond b (Some (show e.1)) (map.find nat_cmp p (each (λ e. (e.0, show e.1)) es))) (unsigned_tied p e.0)
      ∙ ap (λ o. cond (nat_eq p e.0) (Some (show e.1)) o) (found p es) ∙ over (nat_eq p e.0) where
        over : (b : Bool) → cond b (Some (show e.1)) (option_map show (lookup (nat_eq p) es)) ≡ option_map show (cond b (Some e.1) (lookup (nat_eq p) es))
        over true = refl
        over false = refl

  pub get_finite : {S : Type 0} (m : IndexMap ℕ V S) (p : ℕ) → map.get (finite show m) p ≡ option_map show (get nat_eq m p)
  get_finite m p = map.get-from_entries nat_cmp_total (each (λ e. (e.0, show e.1)) m.entries) p ∙ found p m.entries

  pub same_finite : {S : Type 0} (m n : IndexMap ℕ V S) → ((p : ℕ) → option_map show (get nat_eq m p) ≡ option_map show (get nat_eq n p)) → finite show m ≡ finite show n
  same_finite m n h = map.same_map nat_cmp_total map.nat_cmp-IsAntisymmetric (finite show m) (finite show n) (λ p. get_finite m p ∙ h p ∙ sym (get_finite n p))

  pub empty_finite : {S : Type 0} (m : IndexMap ℕ V S) → ((p : ℕ) → option_map show (get nat_eq m p) ≡ None) → finite show m ≡ map.empty
  empty_finite m h = map.same_map nat_cmp_total map.nat_cmp-IsAntisymmetric (finite show m) map.empty (λ p. get_finite m p ∙ h p ∙ sym (map.get-empty nat_cmp p))
