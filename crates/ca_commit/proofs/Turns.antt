-- Branches looked at in turn: the first that isn't unready decides, or none does.
use Rattle.std.proofs.Common.{◌≡◌, ◌⊎◌, inl, inr, ⊎_elim, ℕ, zero, suc, ◌+◌, ◌<◌, List, [], ◌∷◌, take, drop, refl, sym, ap, ◌∙◌, subst, arith, Bool, Some, slice_get}
use Rattle.ca_term.specs.Event.{BranchView}
use Rattle.ca_commit.specs.Finding.{Finding, alone, partner, stale, unheld, unready}
use Rattle.ca_commit.specs.Planning.{Planned, Seen, decided, first_from, found_of, in_turn}

none_get : {X : Type 0} (i : ℕ) (o : X) → slice_get [] i ≡ Some o → ⊥
none_get zero o e = absurd cc
none_get (suc i) o e = absurd cc

get_drop : {X : Type 0} (s : ℕ) (xs : List X) (j : ℕ) → slice_get (drop s xs) j ≡ slice_get xs (s + j)
get_drop zero xs j = ap (slice_get xs) (let e : j ≡ 0 + j = omega arith in e)
get_drop (suc s) [] zero = refl
get_drop (suc s) [] (suc j) = refl
get_drop (suc s) (x ∷ xs) j = get_drop s xs j ∙ ap (slice_get (x ∷ xs)) (let e : suc (s + j) ≡ suc s + j = omega arith in e)

get_take : {X : Type 0} (s : ℕ) (xs : List X) (j : ℕ) (x : X) → slice_get (take s xs) j ≡ Some x → slice_get xs j ≡ Some x
get_take zero xs j x e = absurd (none_get j x e)
get_take (suc s) [] j x e = absurd (none_get j x e)
get_take (suc s) (y ∷ xs) zero x e = e
get_take (suc s) (y ∷ xs) (suc j) x e = get_take s xs j x e

get_split : {X : Type 0} (s : ℕ) (xs : List X) (i : ℕ) (x : X) → slice_get xs i ≡ Some x → (slice_get (take s xs) i ≡ Some x) ⊎ ((m : ℕ) × (slice_get (drop s xs) m ≡ Some x))
get_split zero xs i x e = inr (i, e)
get_split (suc s) [] i x e = absurd (none_get i x e)
get_split (suc s) (y ∷ xs) zero x e = inl e
get_split (suc s) (y ∷ xs) (suc i) x e = get_split s xs i x e

decided_alike : (f : Finding) (alts : Bool) (k : ℕ) (b : BranchView) (p q : Planned) → (f ≡ unready → ⊥) → decided f alts k b p ≡ decided f alts k b q
decided_alike unready alts k b p q ne = absurd (ne refl)
decided_alike alone alts k b p q ne = refl
decided_alike (partner w o) alts k b p q ne = refl
decided_alike (stale side) alts k b p q ne = refl
decided_alike (unheld w) alts k b p q ne = refl

module _ (x : Seen) (alts : Bool) where
  abbrev pub UnreadyBefore : List BranchView → ℕ → Type 0
  UnreadyBefore bs j = (i : ℕ) (o : BranchView) → i < j → slice_get bs i ≡ Some o → found_of x o ≡ unready

  -- the branch at place j decides
  pub record Decides (bs : List BranchView) (number : ℕ → ℕ) (before : Type 0) (p rest : Planned) : Type 0 where
    pub place : ℕ
    pub branch : BranchView
    pub finding : Finding
    pub is_branch : slice_get bs place ≡ Some branch
    pub is_found : found_of x branch ≡ finding
    pub ready : finding ≡ unready → ⊥
    pub decides : p ≡ decided finding alts (number place) branch rest
    pub first : before → UnreadyBefore bs place

  -- none does
  abbrev pub NoneDecides : List BranchView → Planned → Planned → Type 0
  NoneDecides bs p rest = ((i : ℕ) (o : BranchView) → slice_get bs i ≡ Some o → found_of x o ≡ unready) × (p ≡ rest)

  turn_tells : (k : ℕ) (bs : List BranchView) (rest : Planned) → Decides bs (λ j. k + j) (Unit {0}) (in_turn x alts k bs rest) rest ⊎ NoneDecides bs (in_turn x alts k bs rest) rest
  turn_tells k [] rest = inr ((λ i o e. absurd (none_get i o e)), refl)
  turn_tells k (b ∷ bs) rest = by (found_of x b) refl (turn_tells (k + 1) bs rest) where
    first_one : (f : Finding) → found_of x b ≡ f → (f ≡ unready → ⊥) → Decides (b ∷ bs) (λ j. k + j) (Unit {0}) (in_turn x alts k (b ∷ bs) rest) rest
    first_one f e ne = record {
      place = 0;
      branch = b;
      finding = f;
      is_branch = refl;
      is_found = e;
      ready = ne;
      decides = ap (λ g. decided g alts k b (in_turn x alts (k + 1) bs rest)) e ∙ decided_alike f alts k b (in_turn x alts (k + 1) bs rest) rest ne ∙ ap (λ n. decided f alts n b rest) (let s : k ≡ k + 0 = omega arith in s);
      first = λ u i o lt g. absurd (omega (arith, lt));
    }

    passed : found_of x b ≡ unready → in_turn x alts k (b ∷ bs) rest ≡ in_turn x alts (k + 1) bs rest
    passed e = ap (λ g. decided g alts k b (in_turn x alts (k + 1) bs rest)) e

    before : (d : Decides bs (λ j. (k + 1) + j) (Unit {0}) (in_turn x alts (k + 1) bs rest) rest) → found_of x b ≡ unready → (i : ℕ) (o : BranchView) → i < suc d.place → slice_get (b ∷ bs) i ≡ Some o → found_of x o ≡ unready
    before d e zero o lt g = ap (found_of x) (let s : o ≡ b = cc in s) ∙ e
    before d e (suc i) o lt g = d.first tt i o (omega (arith, lt)) g

    all : ((i : ℕ) (o : BranchView) → slice_get bs i ≡ Some o → found_of x o ≡ unready) → found_of x b ≡ unready → (i : ℕ) (o : BranchView) → slice_get (b ∷ bs) i ≡ Some o → found_of x o ≡ unready
    all f e zero o g = ap (found_of x) (let s : o ≡ b = cc in s) ∙ e
    all f e (suc i) o g = f i o g

    later : found_of x b ≡ unready → Decides bs (λ j. (k + 1) + j) (Unit {0}) (in_turn x alts (k + 1) bs rest) rest → Decides (b ∷ bs) (λ j. k + j) (Unit {0}) (in_turn x alts k (b ∷ bs) rest) rest
    later e d = record {
      place = suc d.place;
      branch = d.branch;
      finding = d.finding;
      is_branch = d.is_branch;
      is_found = d.is_found;
      ready = d.ready;
      decides = passed e ∙ d.decides ∙ ap (λ n. decided d.finding alts n d.branch rest) (let s : (k + 1) + d.place ≡ k + suc d.place = omega arith in s);
      first = λ u. before d e;
    }

    by : (f : Finding) → found_of x b ≡ f → Decides bs (λ j. (k + 1) + j) (Unit {0}) (in_turn x alts (k + 1) bs rest) rest ⊎ NoneDecides bs (in_turn x alts (k + 1) bs rest) rest
        → Decides (b ∷ bs) (λ j. k + j) (Unit {0}) (in_turn x alts k (b ∷ bs) rest) rest ⊎ NoneDecides (b ∷ bs) (in_turn x alts k (b ∷ bs) rest) rest
    by unready e t = ⊎_elim (λ d. inl (later e d)) (λ n. inr (all n.0 e, passed e ∙ n.1)) t
    by alone e t = inl (first_one alone e (λ q. absurd cc))
    by (partner w o) e t = inl (first_one (partner w o) e (λ q. absurd cc))
    by (stale side) e t = inl (first_one (stale side) e (λ q. absurd cc))
    by (unheld w) e t = inl (first_one (unheld w) e (λ q. absurd cc))

  -- from number s on, and then those before it; from 0 on each before the one that decides is unready
  pub from_tells : (s : ℕ) (bs : List BranchView) (rest : Planned) → Decides bs (λ j. j) (s ≡ 0) (first_from x alts s bs rest) rest ⊎ NoneDecides bs (first_from x alts s bs rest) rest
  from_tells s bs rest = ⊎_elim (λ d. inl (first_half d)) (λ n. ⊎_elim (λ d. inl (second_half n d)) (λ m. inr (neither n m)) (turn_tells 0 (take s bs) rest)) (turn_tells s (drop s bs) (in_turn x alts 0 (take s bs) rest)) where
    first_half : Decides (drop s bs) (λ j. s + j) (Unit {0}) (first_from x alts s bs rest) (in_turn x alts 0 (take s bs) rest) → Decides bs (λ j. j) (s ≡ 0) (first_from x alts s bs rest) rest
    first_half d = record {
      place = s + d.place;
      branch = d.branch;
      finding = d.finding;
      is_branch = sym (get_drop s bs d.place) ∙ d.is_branch;
      is_found = d.is_found;
      ready = d.ready;
      decides = d.decides ∙ decided_alike d.finding alts (s + d.place) d.branch (in_turn x alts 0 (take s bs) rest) rest d.ready;
      first = λ z i o lt g. d.first tt i o (omega (arith, lt, z)) (get_drop s bs i ∙ ap (slice_get bs) (let e : s + i ≡ i = omega (arith, z) in e) ∙ g);
    }

    second_half : NoneDecides (drop s bs) (first_from x alts s bs rest) (in_turn x alts 0 (take s bs) rest) → Decides (take s bs) (λ j. 0 + j) (Unit {0}) (in_turn x alts 0 (take s bs) rest) rest → Decides bs (λ j. j) (s ≡ 0) (first_from x alts s bs rest) rest
    second_half n d = record {
      place = d.place;
      branch = d.branch;
      finding = d.finding;
      is_branch = get_take s bs d.place d.branch d.is_branch;
      is_found = d.is_found;
      ready = d.ready;
      decides = n.1 ∙ d.decides ∙ ap (λ m. decided d.finding alts m d.branch rest) (let e : 0 + d.place ≡ d.place = omega arith in e);
      first = λ z. absurd (none_get d.place d.branch (subst (λ (m : ℕ). slice_get (take m bs) d.place ≡ Some d.branch) z d.is_branch));
    }

    neither : NoneDecides (drop s bs) (first_from x alts s bs rest) (in_turn x alts 0 (take s bs) rest) → NoneDecides (take s bs) (in_turn x alts 0 (take s bs) rest) rest → NoneDecides bs (first_from x alts s bs rest) rest
    neither n m = ((λ i o g. ⊎_elim (λ e. m.0 i o e) (λ e. n.0 e.0 o e.1) (get_split s bs i o g)), n.1 ∙ m.1)
