-- Held parts of which one entry is another, seen as one map.
use Rattle.std.proofs.Common.{◌≡◌, ℕ, sym, ap, ◌∙◌, cond, Option, eqb, ne_eqb}
use Rattle.std.specs.Map.{update}
use mathlib.Core.Logic.{dite}
use native.Mathlib.Decide.{ℕ_discrete}
use Rattle.ca_commit.specs.Contents.{at_key, home, whole}
use Rattle.ca_commit.specs.Moves.{Alters}
use Rattle.ca_commit.proofs.Laid.{same_map}

pub whole_altered : {X : Type 0} (m new : ℕ → Option (ℕ → Option X)) (n : ℕ) (w : Option X) → Alters m new n w → whole new ≡ update eqb (whole m) n w
whole_altered {X} m new n w a = same_map (whole new) (update eqb (whole m) n w) (λ q. dite (ℕ_discrete (home q) (home n))
    (λ e. ap (λ (i : ℕ). at_key (new i) q) e ∙ ap (λ (o : Option (ℕ → Option X)). at_key o q) a.is
    ∙ ap (λ (o : Option X). cond (eqb n q) w o) (sym (ap (λ (i : ℕ). at_key (m i) q) e ∙ ap (λ (o : Option (ℕ → Option X)). at_key o q) a.was)))
    (λ ne. ap (λ (o : Option (ℕ → Option X)). at_key o q) (a.others (home q) ne) ∙ sym (ap (λ c. cond c w (whole m q)) (ne_eqb n q (λ e. ne (ap home (sym e)))))))
