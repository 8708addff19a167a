-- The schedule of one worker on states that are given: no channel settles, and whose turn it is.
use Rattle.std.proofs.Common.{◌≡◌, ◌≢◌, inl, inr, ℕ, ◌<◌, List, [], ◌∷◌, refl, sym, ◌∙◌, subst, Bool, true, false, Option, Some, None, eqb, eqb-true, eq-eqb, cond}
use Rattle.ca_term.specs.declared.event.Side.TheVariants.{Take, Put}
use Rattle.ca_term.specs.Operation.{OpView}
use Rattle.ca_meaning.specs.Channel.{Channel}
use Rattle.ca_meaning.specs.Wait.{front}
use Rattle.ca_meaning.specs.Row.{unsettled, settle_row}
use Rattle.ca_meaning.specs.State.{State}
use Rattle.ca_meaning.specs.Solo.{Desk, CanSettle, NoneSettles, IsFree, AsksBefore, IsTurnOf, patience, alts_counted}

-- the desk with a task picked, and with an operation of its counted
abbrev pub picked : Desk → ℕ → List ℕ → Desk
picked d t rest = record d { ready = rest; lane = Some (record { task = t; events = 0 }) }

abbrev pub told : OpView → ℕ → Desk → Desk
told op t d = record d { alts = λ u. cond (eqb t u) (alts_counted op (d.alts u)) (d.alts u) }

-- no channel but 1 and 2 is there
abbrev pub Others : State → Type 0
Others s = (p : ℕ) → p ≢ 1 → p ≢ 2 → s.channels p ≡ None

-- the channel on p, if there is one, doesn't settle
abbrev pub Quiet : State → ℕ → Option Channel → Type 0
Quiet s p None = Unit {0}
Quiet s p (Some c) = settle_row c (front Take p s.waits) (front Put p s.waits) ≡ unsettled

pub quiet_at : (s : State) (p : ℕ) (o : Option Channel) → s.channels p ≡ o → Quiet s p o → CanSettle s p → ⊥
quiet_at s p None e q x = let k : None ≡ Some x.0 = sym e ∙ x.1 in absurd cc
quiet_at s p (Some c) e q x =
    let k : Some c ≡ Some x.0 = sym e ∙ x.1 in
    x.2 (subst (λ d. settle_row d (front Take p s.waits) (front Put p s.waits) ≡ unsettled) (let i : c ≡ x.0 = cc in i) q)

not_at : (p n : ℕ) → eqb p n ≡ false → p ≢ n
not_at p n e k = let j : true ≡ false = sym (eq-eqb p n k) ∙ e in cc

pub none_settles : (s : State) → Others s → (a b : Option Channel) → s.channels 1 ≡ a → s.channels 2 ≡ b → Quiet s 1 a → Quiet s 2 b → NoneSettles s
none_settles s others a b ea eb qa qb p = by (eqb p 1) (eqb p 2) refl refl where
  by : (m n : Bool) → eqb p 1 ≡ m → eqb p 2 ≡ n → CanSettle s p → ⊥
  by true n e f x = quiet_at s 1 a ea qa (subst (CanSettle s) (eqb-true p 1 e) x)
  by false true e f x = quiet_at s 2 b eb qb (subst (CanSettle s) (eqb-true p 2 f) x)
  by false false e f x = quiet_at s p None (others p (not_at p 1 e) (not_at p 2 f)) tt x

-- the first ready task is picked, where none is and no deadline is open
pub picks : (s : State) (d : Desk) (t : ℕ) (rest : List ℕ) → d.lane ≡ None → d.ready ≡ t ∷ rest → s.deadlines ≡ [] → IsTurnOf s d t (picked d t rest)
picks s d t rest free ready none =
    inr (rest, d.readings, subst (λ l. IsFree l d.ready (t ∷ rest)) (sym free) (sym ready), subst (λ ds. AsksBefore ds d.readings d.readings) (sym none) refl, refl)

-- the task that was picked has made fewer than 64 events
pub goes_on_lane : (s : State) (d : Desk) (t n : ℕ) → d.lane ≡ Some (record { task = t; events = n }) → n < patience → IsTurnOf s d t d
goes_on_lane s d t n lane few = inl (record { task = t; events = n }, lane, few, refl, refl)
