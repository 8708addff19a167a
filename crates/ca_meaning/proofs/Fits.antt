-- What a channel holds after it kept or gave a value.
use Rattle.std.proofs.Common.{◌≡◌, ℕ, zero, suc, ◌<◌, ◌≤◌, List, [], ◌∷◌, ◌++◌, length, refl, ap, ◌∙◌, arith, Bool, true, false, not, nat_le, length-append, leb-true, leb-false}
use Rattle.ca_value.specs.Tree.{Tree}
use Rattle.ca_value.specs.Buffer.{Policy, no_buffer, fixed_buffer, dropping_buffer, sliding_buffer, promise_buffer, is_full, room_by, keep_by, give_first, without_first, only_first}
use Rattle.ca_meaning.specs.Channel.{Channel, FitsPolicy, has_room, keeping, giving, is_fixed, new_channel, with_buffer}
use Rattle.ca_meaning.specs.Sound.{ChannelFits, Each, IsNotNil}
use Rattle.ca_meaning.proofs.Waits.{each-append}

length-without_first : (vs : List Tree) → length (without_first vs) ≤ length vs
length-without_first [] = omega arith
length-without_first (v ∷ vs) = omega arith

length-moved_on : (vs : List Tree) (v : Tree) → length (without_first (vs ++ v ∷ [])) ≡ length vs
length-moved_on [] v = refl
length-moved_on (w ∷ vs) v = let e = length-append vs (v ∷ []) in omega (arith, e)

length-only_first : (vs : List Tree) (v : Tree) → length vs ≤ 1 → length (only_first vs v) ≤ 1
length-only_first [] v h = omega arith
length-only_first (w ∷ vs) v h = h

longer : (vs : List Tree) (v : Tree) (n : ℕ) → nat_le n (length vs) ≡ false → length (vs ++ v ∷ []) ≤ n
longer vs v n e = let lt : length vs < n = leb-false n (length vs) e in let l = length-append vs (v ∷ []) in omega (arith, l, lt)

keep_fits : (policy : Policy) (n : ℕ) (vs : List Tree) (v : Tree) (f : Bool) → nat_le n (length vs) ≡ f → room_by policy f ≡ true → FitsPolicy policy n → length vs ≤ n → length (keep_by policy f vs v) ≤ n
keep_fits no_buffer n vs v f e r p h = absurd (let k : false ≡ true = r in cc)
keep_fits fixed_buffer n vs v true e r p h = absurd (let k : false ≡ true = r in cc)
keep_fits fixed_buffer n vs v false e r p h = longer vs v n e
keep_fits dropping_buffer n vs v true e r p h = h
keep_fits dropping_buffer n vs v false e r p h = longer vs v n e
keep_fits sliding_buffer n vs v true e r p h = let l = length-moved_on vs v in omega (arith, l, h)
keep_fits sliding_buffer n vs v false e r p h = longer vs v n e
keep_fits promise_buffer n vs v f e r p h = let l = length-only_first vs v (let k : length vs ≤ n = h in let q : n ≡ 1 = p in omega (arith, k, q)) in let q : n ≡ 1 = p in omega (arith, l, q)

pub keeping_fits : (c : Channel) (v : Tree) → has_room c ≡ true → ChannelFits c → ChannelFits (keeping c v)
keeping_fits c v r f = (keep_fits c.policy c.capacity c.held v (is_full c.capacity c.held) refl r f.1 f.0, f.1)

give_fits : (policy : Policy) (vs : List Tree) → length (give_first policy vs) ≤ length vs
give_fits no_buffer vs = length-without_first vs
give_fits fixed_buffer vs = length-without_first vs
give_fits dropping_buffer vs = length-without_first vs
give_fits sliding_buffer vs = length-without_first vs
give_fits promise_buffer vs = omega arith

pub giving_fits : (c : Channel) → ChannelFits c → ChannelFits (giving c)
giving_fits c f = let g = give_fits c.policy c.held in let h : length c.held ≤ c.capacity = f.0 in (omega (arith, g, h), f.1)

none_fits : (n : ℕ) → 0 ≤ n
none_fits n = omega arith

buffer_fits : (policy : Policy) → ((n : ℕ) → FitsPolicy policy (suc n)) → (n : ℕ) → ChannelFits (with_buffer policy n)
buffer_fits policy f zero = (none_fits 0, refl)
buffer_fits policy f (suc n) = (none_fits (suc n), f n)

positive : (n : ℕ) → 0 < suc n
positive n = omega arith

pub fixed_fits : (n : ℕ) → ChannelFits (with_buffer fixed_buffer n)
fixed_fits n = buffer_fits fixed_buffer positive n

pub dropping_fits : (n : ℕ) → ChannelFits (with_buffer dropping_buffer n)
dropping_fits n = buffer_fits dropping_buffer positive n

pub sliding_fits : (n : ℕ) → ChannelFits (with_buffer sliding_buffer n)
sliding_fits n = buffer_fits sliding_buffer positive n

pub plain_fits : ChannelFits (new_channel no_buffer 0)
plain_fits = (none_fits 0, refl)

pub promise_fits : ChannelFits (new_channel promise_buffer 1)
promise_fits = (none_fits 1, refl)

-- a fixed buffer that holds nothing has room
pub fixed_has_room : (c : Channel) → ChannelFits c → is_fixed c.policy ≡ true → c.held ≡ [] → has_room c ≡ true
fixed_has_room c f is none = by c.policy is f.1 where
  positive_room : (n : ℕ) → 0 < n → (b : Bool) → nat_le n 0 ≡ b → not b ≡ true
  positive_room n lt false e = refl
  positive_room n lt true e = absurd (let le : n ≤ 0 = leb-true n 0 e in omega (arith, le, lt))

  by : (p : Policy) → is_fixed p ≡ true → FitsPolicy p c.capacity → room_by p (is_full c.capacity c.held) ≡ true
  by fixed_buffer is lt = ap (λ (vs : List Tree). not (nat_le c.capacity (length vs))) none ∙ positive_room c.capacity lt (nat_le c.capacity 0) refl
  by no_buffer is lt = absurd (let k : false ≡ true = is in cc)
  by dropping_buffer is lt = absurd (let k : false ≡ true = is in cc)
  by sliding_buffer is lt = absurd (let k : false ≡ true = is in cc)
  by promise_buffer is lt = absurd (let k : false ≡ true = is in cc)

-- values that aren't nil
without_first_not_nil : (vs : List Tree) → Each IsNotNil vs → Each IsNotNil (without_first vs)
without_first_not_nil [] a = tt
without_first_not_nil (v ∷ vs) a = a.1

longer_not_nil : (vs : List Tree) (v : Tree) → Each IsNotNil vs → IsNotNil v → Each IsNotNil (vs ++ v ∷ [])
longer_not_nil vs v a n = each-append IsNotNil vs (v ∷ []) a (n, tt)

keep_not_nil : (policy : Policy) (f : Bool) (vs : List Tree) (v : Tree) → Each IsNotNil vs → IsNotNil v → Each IsNotNil (keep_by policy f vs v)
keep_not_nil no_buffer f vs v a n = longer_not_nil vs v a n
keep_not_nil fixed_buffer f vs v a n = longer_not_nil vs v a n
keep_not_nil dropping_buffer true vs v a n = a
keep_not_nil dropping_buffer false vs v a n = longer_not_nil vs v a n
keep_not_nil sliding_buffer true vs v a n = without_first_not_nil (vs ++ v ∷ []) (longer_not_nil vs v a n)
keep_not_nil sliding_buffer false vs v a n = longer_not_nil vs v a n
keep_not_nil promise_buffer f [] v a n = (n, tt)
keep_not_nil promise_buffer f (w ∷ vs) v a n = a

pub keeping_not_nil : (c : Channel) (v : Tree) → Each IsNotNil c.held → IsNotNil v → Each IsNotNil (keeping c v).held
keeping_not_nil c v a n = keep_not_nil c.policy (is_full c.capacity c.held) c.held v a n

give_not_nil : (policy : Policy) (vs : List Tree) → Each IsNotNil vs → Each IsNotNil (give_first policy vs)
give_not_nil no_buffer vs a = without_first_not_nil vs a
give_not_nil fixed_buffer vs a = without_first_not_nil vs a
give_not_nil dropping_buffer vs a = without_first_not_nil vs a
give_not_nil sliding_buffer vs a = without_first_not_nil vs a
give_not_nil promise_buffer vs a = a

pub giving_not_nil : (c : Channel) → Each IsNotNil c.held → Each IsNotNil (giving c).held
giving_not_nil c a = give_not_nil c.policy c.held a
