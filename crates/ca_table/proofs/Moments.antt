-- Answers that never fall, told ones, and the moments that stand among them, one list after another.
use Rattle.std.proofs.Common.{◌≡◌, ◌∙◌, ⊎_elim, inl, inr, ℕ, ◌≤◌, List, [], ◌∷◌, ◌++◌, refl, sym, ap, subst, arith, Option, Some, None}
use mathlib.Core.List.{append_assoc, append-nil}
use Rattle.ca_term.specs.Event.{EventView}
use Rattle.ca_commit.specs.Moving.{visible}
use Rattle.ca_commit.specs.Touched as said
use Rattle.ca_table.specs.Moments.{NeverFall, StandIn, ToldWentOn, moment_told, moments_told, turn_asked}

-- the first is no later than the last
pub rises : (first last : ℕ) (ms : List ℕ) → NeverFall first ms last → first ≤ last
rises first last [] f = f
rises first last (m ∷ ms) f = let a = f.0 in let b = rises m last ms f.1 in omega (arith, a, b)

lower_first : (a b last : ℕ) (ms : List ℕ) → a ≤ b → NeverFall b ms last → NeverFall a ms last
lower_first a b last [] le f = omega (arith, le, f)
lower_first a b last (m ∷ ms) le f = ((let k = f.0 in omega (arith, le, k)), f.1)

pub fall_after : (a b c : ℕ) (ms ns : List ℕ) → NeverFall a ms b → NeverFall b ns c → NeverFall a (ms ++ ns) c
fall_after a b c [] ns f g = lower_first a b c ns f g
fall_after a b c (m ∷ ms) ns f g = (f.0, fall_after m b c ms ns f.1 g)

pub went_after : (ms ns : List ℕ) (o p q : Option (List ℕ)) → ToldWentOn ms o p → ToldWentOn ns p q → ToldWentOn (ms ++ ns) o q
went_after ms ns None p q f g = tt
went_after ms ns (Some told) p q f g = subst (λ z. ToldWentOn ns z q) f g ∙ ap Some (append_assoc told ms ns)

stand_later : (ys us vs : List ℕ) → StandIn us vs → StandIn us (ys ++ vs)
stand_later [] us vs h = h
stand_later (y ∷ ys) [] vs h = tt
stand_later (y ∷ ys) (u ∷ us) vs h = inr (stand_later ys (u ∷ us) vs h)

pub stand_after : (xs ys us vs : List ℕ) → StandIn xs ys → StandIn us vs → StandIn (xs ++ us) (ys ++ vs)
stand_after [] ys us vs h k = stand_later ys us vs k
stand_after (x ∷ xs) [] us vs h k = absurd h
stand_after (x ∷ xs) (y ∷ ys) us vs h k = ⊎_elim (λ z. inl (z.0, stand_after xs ys us vs z.1 k)) (λ z. inr (stand_after (x ∷ xs) ys us vs z k)) h

pub moments_after : (es fs : List EventView) → moments_told (es ++ fs) ≡ moments_told es ++ moments_told fs
moments_after [] fs = refl
moments_after (e ∷ es) fs = ap (λ ms. moment_told e ++ ms) (moments_after es fs) ∙ sym (append_assoc (moment_told e) (moments_told es) (moments_told fs))

stand_all : (xs : List ℕ) → StandIn xs xs
stand_all [] = tt
stand_all (x ∷ xs) = inl (refl, stand_all xs)

-- the moment that a turn tells is among the answers that it took
pub told_among : (what : said.Turn) (least : ℕ) → StandIn (moments_told (visible what)) (turn_asked what least)
told_among (said.shown e) least = subst (λ ms. StandIn ms (moment_told e)) (sym (append-nil (moment_told e))) (stand_all (moment_told e))
told_among (said.picks r) least = tt
told_among said.yields least = tt
told_among (said.prunes side p wait) least = tt
told_among said.asks_clock least = tt
told_among said.fails least = tt
told_among said.stops least = tt
told_among said.halts least = tt
told_among said.stalls least = tt
