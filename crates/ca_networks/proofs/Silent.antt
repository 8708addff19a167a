-- A task that isn't there offered nothing.
use Rattle.std.proofs.Common.{◌≡◌, ℕ, List, [], ◌∷◌, ◌++◌, refl, ap, ◌∙◌, Bool, true, false, cond, Option, Some, None, eqb}
use Rattle.ca_value.specs.Tree.{Tree}
use Rattle.ca_term.specs.declared.event.Side.TheVariants.{Take, Put}
use Rattle.ca_term.specs.Event.{take_of, put_of, EventView, made, spawned, done, met, parked, posted, settled, defaulted, closed, registered, printed, ticked, over as is_over}
use Rattle.ca_meaning.specs.State.{State}
use Rattle.ca_laws.specs.Deeds.{Deed, deed, wait_after, with_deed, deeds_from}
use Rattle.ca_laws.proofs.Deeding.{Traced}
use Rattle.ca_networks.specs.Networks.{put_value, offers_at, offered}

nothing_if : (b : Bool) (d : Deed) (o : Option Deed) (vs : List Tree) → cond b (Some d) o ≡ None → cond b vs [] ≡ []
nothing_if true d o vs e = absurd (let k : Some d ≡ None = e in cc)
nothing_if false d o vs e = refl

offers_none : (t : ℕ) (o : Option ℕ) (e : EventView) → deed t o e ≡ None → offers_at t e ≡ []
offers_none t o (done u k (put_of p v) a) is = nothing_if (eqb u t) _ None (v ∷ []) is
offers_none t o (done u k (take_of p) a) is = refl
offers_none t o (met u k Put p v w j) is = nothing_if (eqb u t) _ _ (v ∷ []) is
offers_none t o (met u k Take p v w j) is = refl
offers_none t o (parked u w bs) is = nothing_if (eqb u t) _ None (put_value bs) is
offers_none t o (made u p what m) is = refl
offers_none t o (spawned u n kind r) is = refl
offers_none t o (posted u w p v) is = refl
offers_none t o (settled w k side p v) is = refl
offers_none t o (defaulted u v) is = refl
offers_none t o (closed u p) is = refl
offers_none t o (registered u name args v) is = refl
offers_none t o (printed u line) is = refl
offers_none t o (ticked m ports) is = refl
offers_none t o (is_over u how) is = refl

no_deeds : (o : Option Deed) (ds : List Deed) → with_deed o ds ≡ [] → (o ≡ None) × (ds ≡ [])
no_deeds None ds e = (refl, e)
no_deeds (Some d) ds e = absurd (let k : d ∷ ds ≡ [] = e in cc)

silent : (t : ℕ) (o : Option ℕ) (es : List EventView) → deeds_from t o es ≡ [] → offered t es ≡ []
silent t o [] is = refl
silent t o (e ∷ es) is =
    let k = no_deeds (deed t o e) (deeds_from t (wait_after t e o) es) is in
    ap (λ z. z ++ offered t es) (offers_none t o e k.0) ∙ silent t (wait_after t e o) es k.1

pub absent_offers : (t : ℕ) (journal : List EventView) (s : State) → Traced journal s → s.tasks t ≡ None → offered t journal ≡ []
absent_offers t journal s traced gone = silent t None journal (traced.told.absent t gone).1
