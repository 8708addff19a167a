-- What a clock tells of its answers.
use Rattle.std.specs.Prelude.{◌≡◌, ℕ, List, [], ◌∷◌, ◌++◌, Option, Some, None, ⊤}

-- told answers go on by one
abbrev pub Tells : Option (List ℕ) → Option (List ℕ) → ℕ → Type 0
Tells None new moment = ⊤
Tells (Some told) None moment = ⊥
Tells (Some told) (Some now) moment = now ≡ told ++ moment ∷ []

-- told answers stay
abbrev pub StaysTold : Option (List ℕ) → Option (List ℕ) → Type 0
StaysTold None new = ⊤
StaysTold (Some told) None = ⊥
StaysTold (Some told) (Some now) = now ≡ told
