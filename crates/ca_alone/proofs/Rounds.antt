-- A plan that takes a branch without priority takes the first that isn't unready, going round from the start.
use Rattle.std.proofs.Common.{◌≡◌, ◌⊎◌, inl, inr, ⊎_elim, ℕ, zero, suc, ◌+◌, ◌-◌, ◌<◌, ◌≤◌, List, [], ◌∷◌, length, take, drop, refl, sym, ap, ◌∙◌, subst, arith, Bool, true, false, cond, Some, None, slice_get, nat_lt, ltb-true, ltb-false}
use Rattle.ca_term.specs.Event.{BranchView}
use Rattle.ca_meaning.specs.Solo.{distance}
use Rattle.ca_commit.specs.Finding.{Finding, alone, partner, stale, unheld, unready}
use Rattle.ca_alone.specs.OwnTurn.{branch_taken}
use Rattle.ca_commit.specs.Planning.{Planned, Seen, decided, first_from, found_of, in_turn}

get_drop : {X : Type 0} (s : ℕ) (xs : List X) (j : ℕ) → slice_get (drop s xs) j ≡ slice_get xs (s + j)
get_drop zero xs j = ap (slice_get xs) (let e : j ≡ 0 + j = omega arith in e)
get_drop (suc s) [] zero = refl
get_drop (suc s) [] (suc j) = refl
get_drop (suc s) (x ∷ xs) j = get_drop s xs j ∙ ap (slice_get (x ∷ xs)) (let e : suc (s + j) ≡ suc s + j = omega arith in e)

get_take : {X : Type 0} (s : ℕ) (xs : List X) (j : ℕ) → j < s → slice_get (take s xs) j ≡ slice_get xs j
get_take zero xs j lt = absurd (omega (arith, lt))
get_take (suc s) [] zero lt = refl
get_take (suc s) [] (suc j) lt = refl
get_take (suc s) (x ∷ xs) zero lt = refl
get_take (suc s) (x ∷ xs) (suc j) lt = get_take s xs j (omega (arith, lt))

short_take : {X : Type 0} (s : ℕ) (xs : List X) → length (take s xs) ≤ s
short_take zero xs = omega arith
short_take (suc s) [] = omega arith
short_take (suc s) (x ∷ xs) = let k : length (take s xs) ≤ s = short_take s xs in omega (arith, k)

module _ (x : Seen) (alts : Bool) where
  abbrev pub AllUnready : List BranchView → Type 0
  AllUnready bs = (i : ℕ) (o : BranchView) → slice_get bs i ≡ Some o → found_of x o ≡ unready

  abbrev UnreadyTo : List BranchView → ℕ → Type 0
  UnreadyTo bs j = (i : ℕ) (o : BranchView) → i < j → slice_get bs i ≡ Some o → found_of x o ≡ unready

  abbrev Turned : ℕ → List BranchView → ℕ → Type 0
  Turned base bs k = (j : ℕ) × (k ≡ base + j) × (j < length bs) × UnreadyTo bs j

  in_turn_takes : (base : ℕ) (bs : List BranchView) (rest : Planned) (k : ℕ) → branch_taken (in_turn x alts base bs rest) ≡ Some k → Turned base bs k ⊎ (AllUnready bs × (branch_taken rest ≡ Some k))
  in_turn_takes base [] rest k e = inr ((λ i o g. no i o g), e) where
    no : (i : ℕ) (o : BranchView) → slice_get [] i ≡ Some o → found_of x o ≡ unready
    no zero o g = absurd (let z : None ≡ Some o = g in cc)
    no (suc i) o g = absurd (let z : None ≡ Some o = g in cc)
  in_turn_takes base (b ∷ bs) rest k e = by (found_of x b) refl (λ g. in_turn_takes (base + 1) bs rest k g) e where
    here : Some base ≡ Some k → Turned base (b ∷ bs) k ⊎ (AllUnready (b ∷ bs) × (branch_taken rest ≡ Some k))
    here s = inl (0, (let z : base ≡ k = cc in omega (arith, z)), omega arith, λ i o lt g. absurd (omega (arith, lt)))

    later : found_of x b ≡ unready → Turned (base + 1) bs k ⊎ (AllUnready bs × (branch_taken rest ≡ Some k)) → Turned base (b ∷ bs) k ⊎ (AllUnready (b ∷ bs) × (branch_taken rest ≡ Some k))
    later f t = ⊎_elim (λ d. inl (suc d.0, (let z : k ≡ base + 1 + d.0 = d.1 in omega (arith, z)), (let z : d.0 < length bs = d.2 in omega (arith, z)), to d.0 d.3)) (λ d. inr (all d.0, d.1)) t where
      to : (j : ℕ) → UnreadyTo bs j → UnreadyTo (b ∷ bs) (suc j)
      to j u zero o lt g = ap (found_of x) (let s : o ≡ b = cc in s) ∙ f
      to j u (suc i) o lt g = u i o (omega (arith, lt)) g

      all : AllUnready bs → AllUnready (b ∷ bs)
      all u zero o g = ap (found_of x) (let s : o ≡ b = cc in s) ∙ f
      all u (suc i) o g = u i o g

    by : (f : Finding) → found_of x b ≡ f → (branch_taken (in_turn x alts (base + 1) bs rest) ≡ Some k → Turned (base + 1) bs k ⊎ (AllUnready bs × (branch_taken rest ≡ Some k))) → branch_taken (decided f alts base b (in_turn x alts (base + 1) bs rest)) ≡ Some k → Turned base (b ∷ bs) k ⊎ (AllUnready (b ∷ bs) × (branch_taken rest ≡ Some k))
    by unready f next g = later f (next g)
    by alone f next g = here g
    by (partner w o) f next g = here g
    by (stale side) f next g = absurd (let z : None ≡ Some k = g in cc)
    by (unheld w) f next g = absurd (let z : None ≡ Some k = g in cc)

  -- each branch that the round comes to before branch k is unready
  abbrev pub FirstFound : ℕ → List BranchView → ℕ → Type 0
  FirstFound start bs k = (j : ℕ) (o : BranchView) → slice_get bs j ≡ Some o → distance (length bs) start j < distance (length bs) start k → found_of x o ≡ unready

  after_start : (start : ℕ) (bs : List BranchView) (m : ℕ) → start + m < length bs → UnreadyTo (drop start bs) m → FirstFound start bs (start + m)
  after_start start bs m within u j o at less = by (nat_lt j start) refl (nat_lt (start + m) start) refl less where
    by : (b : Bool) → nat_lt j start ≡ b → (c : Bool) → nat_lt (start + m) start ≡ c → cond b (j + (length bs - start)) (j - start) < cond c (start + m + (length bs - start)) (start + m - start) → found_of x o ≡ unready
    by b e true f lt = absurd (let z : start + m < start = ltb-true (start + m) start f in omega (arith, z))
    by true e false f lt = absurd (let z : j + (length bs - start) < start + m - start = lt in omega (arith, z, within))
    by false e false f lt =
        let z : j - start < start + m - start = lt in
        let ge : start ≤ j = ltb-false j start e in
        u (j - start) o (omega (arith, z, ge)) (get_drop start bs (j - start) ∙ ap (slice_get bs) (let k : start + (j - start) ≡ j = omega (arith, ge) in k) ∙ at)

  before_start : (start : ℕ) (bs : List BranchView) (m : ℕ) → m < start → AllUnready (drop start bs) → UnreadyTo (take start bs) m → FirstFound start bs m
  before_start start bs m lt all u j o at less = by (nat_lt j start) refl (nat_lt m start) refl less where
    by : (b : Bool) → nat_lt j start ≡ b → (c : Bool) → nat_lt m start ≡ c → cond b (j + (length bs - start)) (j - start) < cond c (m + (length bs - start)) (m - start) → found_of x o ≡ unready
    by b e false f z = absurd (let k : start ≤ m = ltb-false m start f in omega (arith, k, lt))
    by true e true f z =
        let y : j + (length bs - start) < m + (length bs - start) = z in
        u j o (omega (arith, y)) (get_take start bs j (omega (arith, y, lt)) ∙ at)
    by false e true f z = let ge : start ≤ j = ltb-false j start e in all (j - start) o (get_drop start bs (j - start) ∙ ap (slice_get bs) (let k : start + (j - start) ≡ j = omega (arith, ge) in k) ∙ at)

  drop_length : {X : Type 0} (s : ℕ) (xs : List X) (m : ℕ) → m < length (drop s xs) → s + m < length xs
  drop_length zero xs m lt = omega (arith, lt)
  drop_length (suc s) [] m lt = absurd (let z : m < 0 = lt in omega (arith, z))
  drop_length (suc s) (y ∷ xs) m lt = let k : s + m < length xs = drop_length s xs m lt in omega (arith, k)

  pub first_found : (start : ℕ) (bs : List BranchView) (rest : Planned) (k : ℕ) → branch_taken rest ≡ None → branch_taken (first_from x alts start bs rest) ≡ Some k → FirstFound start bs k
  first_found start bs rest k none e = ⊎_elim first (λ a. ⊎_elim (second a.0) (λ c. absurd (let z : None ≡ Some k = sym none ∙ c.1 in cc)) (in_turn_takes 0 (take start bs) rest k a.1)) (in_turn_takes start (drop start bs) (in_turn x alts 0 (take start bs) rest) k e) where
    first : Turned start (drop start bs) k → FirstFound start bs k
    first t = subst (FirstFound start bs) (sym t.1) (after_start start bs t.0 (drop_length start bs t.0 t.2) t.3)

    second : AllUnready (drop start bs) → Turned 0 (take start bs) k → FirstFound start bs k
    second all t = let short = short_take start bs in subst (FirstFound start bs) (let z : t.0 ≡ k = omega (arith, t.1) in z) (before_start start bs t.0 (omega (arith, t.2, short)) all t.3)
