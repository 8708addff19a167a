-- What a channel accepted, gave and holds, event by event.
use Rattle.std.proofs.Common.{◌≡◌, ◌⊎◌, inl, inr, ⊎_elim, ℕ, suc, ◌+◌, ◌<◌, ◌≤◌, List, [], ◌∷◌, ◌++◌, length, length-append, refl, ap, Bool, true, false, arith}
use Rattle.ca_value.specs.Tree.{Tree}
use Rattle.ca_value.specs.Buffer.{Policy, no_buffer, fixed_buffer, dropping_buffer, sliding_buffer, promise_buffer, is_promise, is_full, room_by, keep_by, give_first as given_from, without_first}
use Rattle.ca_meaning.specs.Channel.{Channel, has_room}
use Rattle.ca_meaning.specs.History.{Mark, accept, give, give_none, pass, no_mark, marked, shut_if}
use Rattle.ca_report.specs.Counts.{is_accept, is_give}
use Rattle.ca_report.proofs.Counting.{bit}

-- what was accepted is given or held, but for what the policy drops
abbrev pub Balance : Policy → ℕ → ℕ → List Tree → Type 0
Balance no_buffer a g h = a ≡ g + length h
Balance fixed_buffer a g h = a ≡ g + length h
Balance dropping_buffer a g h = g + length h ≤ a
Balance sliding_buffer a g h = g + length h ≤ a
Balance promise_buffer a g h = ((a ≡ 0) × (length h ≡ 0)) ⊎ ((0 < a) × (length h ≡ 1))

-- what a mark says of the channel that it is on
abbrev pub MarkOn : Channel → Mark → Type 0
MarkOn c (accept v) = (is_promise c.policy ≡ true) ⊎ (has_room c ≡ true)
MarkOn c (give v) = (vs : List Tree) × (c.held ≡ v ∷ vs)
MarkOn c (pass v) = Unit {0}
MarkOn c give_none = Unit {0}
MarkOn c no_mark = Unit {0}

one_more : (vs : List Tree) (v : Tree) → length (vs ++ v ∷ []) ≡ length vs + 1
one_more vs v = simp length-append

less_first : (vs : List Tree) (v : Tree) → length (without_first (vs ++ v ∷ [])) ≡ length vs
less_first [] v = refl
less_first (w ∷ ws) v = let k : length (ws ++ v ∷ []) ≡ suc (length ws) = omega (arith, one_more ws v) in k

-- a value is accepted
kept : (policy : Policy) (full : Bool) (h : List Tree) (v : Tree) (a g : ℕ) → (is_promise policy ≡ true) ⊎ (room_by policy full ≡ true) → Balance policy a g h → Balance policy (a + 1) (g + 0) (keep_by policy full h v)
kept no_buffer full h v a g r b = absurd (⊎_elim (λ p. let k : false ≡ true = p in cc) (λ p. let k : false ≡ true = p in cc) r)
kept fixed_buffer full h v a g r b = omega (arith, one_more h v)
kept dropping_buffer true h v a g r b = omega arith
kept dropping_buffer false h v a g r b = omega (arith, one_more h v)
kept sliding_buffer true h v a g r b = omega (arith, less_first h v)
kept sliding_buffer false h v a g r b = omega (arith, one_more h v)
kept promise_buffer full [] v a g r b = inr (omega arith, refl)
kept promise_buffer full (w ∷ ws) v a g r b = ⊎_elim (λ n. absurd (let k : suc (length ws) ≡ 0 = n.1 in cc)) (λ s. inr (omega (arith, s.0), s.1)) b

-- the first value is given
gave : (policy : Policy) (h : List Tree) (v : Tree) (vs : List Tree) (a g : ℕ) → h ≡ v ∷ vs → Balance policy a g h → Balance policy (a + 0) (g + 1) (given_from policy h)
gave no_buffer h v vs a g e b = omega (arith, ap length e, ap (λ (z : List Tree). length (without_first z)) e)
gave fixed_buffer h v vs a g e b = omega (arith, ap length e, ap (λ (z : List Tree). length (without_first z)) e)
gave dropping_buffer h v vs a g e b = omega (arith, ap length e, ap (λ (z : List Tree). length (without_first z)) e)
gave sliding_buffer h v vs a g e b = omega (arith, ap length e, ap (λ (z : List Tree). length (without_first z)) e)
gave promise_buffer h v vs a g e b = ⊎_elim (λ n. inl (omega (arith, n.0), n.1)) (λ s. inr (omega (arith, s.0), s.1)) b

stayed : (policy : Policy) (h : List Tree) (a g : ℕ) → Balance policy a g h → Balance policy (a + 0) (g + 0) h
stayed no_buffer h a g b = omega arith
stayed fixed_buffer h a g b = omega arith
stayed dropping_buffer h a g b = omega arith
stayed sliding_buffer h a g b = omega arith
stayed promise_buffer h a g b = ⊎_elim (λ n. inl (omega (arith, n.0), n.1)) (λ s. inr (omega (arith, s.0), s.1)) b

pub marked_balance : (m : Mark) (c : Channel) (a g : ℕ) → MarkOn c m → Balance c.policy a g c.held → Balance c.policy (a + bit (is_accept m)) (g + bit (is_give m)) (marked m c).held
marked_balance (accept v) c a g on b = kept c.policy (is_full c.capacity c.held) c.held v a g on b
marked_balance (give v) c a g on b = gave c.policy c.held v on.0 a g on.1 b
marked_balance (pass v) c a g on b = stayed c.policy c.held a g b
marked_balance give_none c a g on b = stayed c.policy c.held a g b
marked_balance no_mark c a g on b = stayed c.policy c.held a g b

pub shut_balance : (x : Bool) (policy : Policy) (c : Channel) (a g : ℕ) → Balance policy a g c.held → Balance policy a g (shut_if x c).held
shut_balance true policy c a g b = b
shut_balance false policy c a g b = b

pub marked_policy : (x : Bool) (m : Mark) (c : Channel) → (shut_if x (marked m c)).policy ≡ c.policy
marked_policy true (accept v) c = refl
marked_policy true (give v) c = refl
marked_policy true (pass v) c = refl
marked_policy true give_none c = refl
marked_policy true no_mark c = refl
marked_policy false (accept v) c = refl
marked_policy false (give v) c = refl
marked_policy false (pass v) c = refl
marked_policy false give_none c = refl
marked_policy false no_mark c = refl

pub empty_balance : (policy : Policy) → Balance policy 0 0 []
empty_balance no_buffer = refl
empty_balance fixed_buffer = refl
empty_balance dropping_buffer = omega arith
empty_balance sliding_buffer = omega arith
empty_balance promise_buffer = inl (refl, refl)
