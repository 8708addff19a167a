-- Going round the branches of an alts from the number of the task's earlier ones comes to the first ready
-- branch of the schedule.
use Rattle.std.proofs.Common.{◌≡◌, ℕ, ◌+◌, ◌-◌, ◌%◌, ◌<◌, ◌≤◌, List, length, refl, sym, subst, arith, Bool, true, false, cond, Some, slice_get, nat_lt, ltb-true, ltb-false}
use Rattle.std.proofs.lemmas.Option.{slice_get_within}
use Rattle.std.proofs.Math.Nat.{mod-lt}
use Rattle.ca_term.specs.Event.{BranchView}
use Rattle.ca_meaning.specs.State.{State}
use Rattle.ca_meaning.specs.Solo.{distance, IsFirstFrom}
use Rattle.ca_solo.specs.Rounds.{in_round, UnreadyBefore}

-- the branch that lies as far from the start as branch j is j
round_comes : (n start j : ℕ) → start < n → j < n → in_round n start (distance n start j) ≡ j
round_comes n start j sn jn = by (nat_lt j start) refl where
  after : (d : ℕ) (b : Bool) → nat_lt (start + d) n ≡ b → start + d ≡ j → cond b (start + d) (start + d - n) ≡ j
  after d true e is = is
  after d false e is = absurd (let k : n ≤ start + d = ltb-false (start + d) n e in let i : start + d ≡ j = is in omega (arith, k, i, jn))

  around : (d : ℕ) (b : Bool) → nat_lt (start + d) n ≡ b → start + d ≡ j + n → cond b (start + d) (start + d - n) ≡ j
  around d true e is = absurd (let k : start + d < n = ltb-true (start + d) n e in let i : start + d ≡ j + n = is in omega (arith, k, i))
  around d false e is = let i : start + d ≡ j + n = is in omega (arith, i)

  by : (b : Bool) → nat_lt j start ≡ b → in_round n start (cond b (j + (n - start)) (j - start)) ≡ j
  by true e = let lt : j < start = ltb-true j start e in around (j + (n - start)) (nat_lt (start + (j + (n - start))) n) refl (omega (arith, lt, sn))
  by false e = let le : start ≤ j = ltb-false j start e in after (j - start) (nat_lt (start + (j - start)) n) refl (omega (arith, le))

-- and branch number h of the round lies h from the start
round_lies : (n start h : ℕ) → start < n → h < n → distance n start (in_round n start h) ≡ h
round_lies n start h sn hn = by (nat_lt (start + h) n) refl where
  on : (b : Bool) → nat_lt (start + h) start ≡ b → cond b (start + h + (n - start)) (start + h - start) ≡ h
  on true e = absurd (let k : start + h < start = ltb-true (start + h) start e in omega (arith, k))
  on false e = omega arith

  around : n ≤ start + h → (b : Bool) → nat_lt (start + h - n) start ≡ b → cond b (start + h - n + (n - start)) (start + h - n - start) ≡ h
  around le true e = omega (arith, le, sn)
  around le false e = absurd (let k : start ≤ start + h - n = ltb-false (start + h - n) start e in omega (arith, k, le, hn, sn))

  by : (b : Bool) → nat_lt (start + h) n ≡ b → distance n start (cond b (start + h) (start + h - n)) ≡ h
  by true e = on (nat_lt (start + h) start) refl
  by false e = around (ltb-false (start + h) n e) (nat_lt (start + h - n) start) refl

pub first_from : (s : State) (bs : List BranchView) (turns i : ℕ) → i < length bs → UnreadyBefore s bs (turns % length bs) i → IsFirstFrom s bs turns (in_round (length bs) (turns % length bs) i)
first_from s bs turns i lt unready j o at less =
    let n = length bs in
    let start = turns % n in
    let sn : start < n = mod-lt turns (let k : i < n = lt in omega (arith, k)) in
    let jn : j < n = slice_get_within bs j o at in
    unready (distance n start j) o (subst (λ h. distance n start j < h) (round_lies n start i sn lt) less)
    (subst (λ h. slice_get bs h ≡ Some o) (sym (round_comes n start j sn jn)) at)
