-- Each body has exactly one body after all its local steps.
use Rattle.std.proofs.Common.{◌≡◌, ◌≢◌, ℕ, zero, suc, ◌+◌, ◌<◌, ◌≤◌, refl, ap, arith, ◌⊎◌, inl, inr}
use Rattle.ca_term.specs.Program.{ProgramView}
use Rattle.ca_meaning.specs.Body.{BodyView, At, at, local, at_op, ended, faulted, nowhere, step}
use Rattle.ca_meaning.specs.Rest.{LocalSteps, here, after, Rest}
use Rattle.ca_meaning.specs.Size.{size_of}
use Rattle.ca_meaning.proofs.Sizes.{step-falls}

one_end : {program : ProgramView} {b c d : BodyView} → LocalSteps program b c → LocalSteps program b d → at c ≢ local → at d ≢ local → c ≡ d
one_end here here h g = refl
one_end here (after l s) h g = absurd (h l)
one_end (after l s) here h g = absurd (g l)
one_end (after l s) (after m r) h g = one_end s r h g

pub one_rest : (program : ProgramView) (b c d : BodyView) → Rest program b c → Rest program b d → c ≡ d
one_rest program b c d r s = one_end r.reached s.reached r.over s.over

-- one more local step at the end
pub step_more : {program : ProgramView} {b c : BodyView} → LocalSteps program b c → at c ≡ local → LocalSteps program b (step program c)
step_more here h = after h here
step_more (after l s) h = after l (step_more s h)

-- whether a body goes on by a local step
local_or_not : (a : At) → (P : Type 0) → (a ≡ local → P) → (a ≢ local → P) → P
local_or_not local P f g = f refl
local_or_not (at_op w) P f g = g (λ e. cc)
local_or_not (ended v) P f g = g (λ e. cc)
local_or_not (faulted f' p) P f g = g (λ e. cc)
local_or_not nowhere P f g = g (λ e. cc)

abbrev Rests : ProgramView → BodyView → Type 0
Rests program b = (c : BodyView) × Rest program b c

rests_after : (program : ProgramView) (b : BodyView) → at b ≡ local → Rests program (step program b) → Rests program b
rests_after program b l r = (r.0, record { reached = after l r.1.reached; over = r.1.over })

-- with so many turns left, and a term so large
rests_sized : (program : ProgramView) (k : ℕ) → ((b : BodyView) → 999_999 < b.turns + k → b.turns ≤ 999_999 → Rests program b) → (n : ℕ) (b : BodyView) → 999_999 < b.turns + suc k → size_of b.term < n → Rests program b
rests_sized program k fewer zero b t h = absurd (omega arith)
rests_sized program k fewer (suc n) b t h =
    local_or_not (at b) (Rests program b)
    (λ l. rests_after program b l (by (rests_sized program k fewer n (step program b)) (step-falls program b l)))
    (λ o. (b, record { reached = here; over = o }))
  where
    by : (999_999 < (step program b).turns + suc k → size_of (step program b).term < n → Rests program (step program b)) → (((step program b).turns ≡ b.turns) × (size_of (step program b).term < size_of b.term)) ⊎ (((step program b).turns ≡ suc b.turns) × (b.turns < 999_999)) → Rests program (step program b)
    by smaller (inl f) = let e : (step program b).turns ≡ b.turns = f.0 in let less : size_of (step program b).term < size_of b.term = f.1 in smaller (omega (arith, e, t)) (omega (arith, less, h))
    by smaller (inr f) = let e : (step program b).turns ≡ suc b.turns = f.0 in let less : b.turns < 999_999 = f.1 in fewer (step program b) (omega (arith, e, t)) (omega (arith, e, less))

rests_within : (program : ProgramView) (k : ℕ) (b : BodyView) → 999_999 < b.turns + suc k → Rests program b
rests_within program zero b h = rests_sized program zero (λ c p q. absurd (omega arith)) (suc (size_of b.term)) b h (omega arith)
rests_within program (suc k) b h = rests_sized program (suc k) (λ c p q. rests_within program k c p) (suc (size_of b.term)) b h (omega arith)

pub rests : (program : ProgramView) (b : BodyView) → (c : BodyView) × Rest program b c
rests program b = rests_within program 999_999 b (omega arith)

-- how many local steps a body has before it
abbrev count : {program : ProgramView} {b c : BodyView} → LocalSteps program b c → ℕ
count here = 0
count (after l s) = suc (count s)

same_count : {program : ProgramView} {b c d : BodyView} (r : LocalSteps program b c) (s : LocalSteps program b d) → at c ≢ local → at d ≢ local → count r ≡ count s
same_count here here h g = refl
same_count here (after l s) h g = absurd (h l)
same_count (after l s) here h g = absurd (g l)
same_count (after l s) (after m r) h g = ap suc (same_count s r h g)

pub steps_left : ProgramView → BodyView → ℕ
steps_left program b = count (rests program b).1.reached

pub left-step : (program : ProgramView) (b : BodyView) → at b ≡ local → steps_left program b ≡ suc (steps_left program (step program b))
unfolding steps_left
left-step program b l =
    let r = rests program b in
    let s = rests program (step program b) in
    same_count r.1.reached (after l s.1.reached) r.1.over s.1.over
