-- The only hand of a table: the history is its own list, and what it holds is what its turns left.
use Rattle.std.proofs.Common.{◌≡◌, ◌∙◌, ℕ, zero, suc, ◌+◌, ◌<◌, ◌≤◌, List, [], ◌∷◌, ◌++◌, length, map, refl, sym, ap, ap₂, subst, arith, Option, Some, None, length-set, set}
use mathlib.Core.Option.{none, some, some-injective}
use lib.ListN.{get_elem?}
use Rattle.ca_turns.specs.declared.rule.Turn.{Turn}
use Rattle.ca_turns.specs.declared.rule.View.{View}
use Rattle.ca_turns.specs.History.{TurnGoes, Run}
use Rattle.ca_turns.specs.Places.{write}
use Rattle.ca_turns.specs.Steps.{Sees, SeesOne}
use Rattle.ca_turns.specs.Views.{drawing, having_missed, holding, missing_part, hands_stood_for, new_turn}
use Rattle.ca_turns.specs.Hands.{AllThere, Held, look}
use Rattle.ca_turns.proofs.Looks.{all_read}
use Rattle.ca_turns.proofs.Lists.{in_range, none_some}
use Rattle.ca_turns.proofs.Runs.{both_written, length-write, reads_now}
use Rattle.ca_journal.specs.Merge.{events_of, in_order}
use Rattle.ca_table.specs.Draws.{drawn_touches}
use Rattle.ca_table.specs.Grips.{SameHand, SameTurns}
use Rattle.ca_table.specs.LoneHands.{HoldsLeft, contents_left, left_now}
use Rattle.ca_table.specs.Running.{shown_by}
use Rattle.ca_table.specs.Workers.{AllAbove, KeepsLeft, noted}
use Rattle.ca_table.specs.declared.drawn.Drawn.{Drawn}
use Rattle.ca_table.proofs.Gathers.{gathered}

-- two lists of one length that have the same at each place
same_list : {X : Type 0} (xs ys : List X) → length xs ≡ length ys → ((k : ℕ) (x : X) → get_elem? ys k ≡ some x → get_elem? xs k ≡ some x) → xs ≡ ys
same_list {X} [] [] e f = refl
same_list {X} [] (y ∷ ys) e f = absurd (let k : none ≡ some y = f 0 y refl in cc)
same_list {X} (x ∷ xs) [] e f = absurd (let k : suc (length xs) ≡ 0 = e in omega (arith, k))
same_list {X} (x ∷ xs) (y ∷ ys) e f = ap (λ z. z ∷ xs) (some-injective x y (f 0 y refl)) ∙ ap (λ l. y ∷ l) (same_list xs ys (let k : suc (length xs) ≡ suc (length ys) = e in omega (arith, k)) (λ k z g. f (suc k) z g))

module _ {C : Type 0} where
  abbrev AllBelow : ℕ → List (Turn C Drawn) → Type 0
  AllBelow n ts = (k : ℕ) (t : Turn C Drawn) → get_elem? ts k ≡ some t → t.number < n

  -- numbers that rise from a on and stay below b are at most b - a
  few : (ts : List (Turn C Drawn)) (a b : ℕ) → a ≤ b → AllAbove a ts → AllBelow b ts → a + length ts ≤ b
  few [] a b le up down = omega (arith, le)
  few (t ∷ ts) a b le up down = let lt : t.number < b = down 0 t refl in let lo : a ≤ t.number = up.0 in let k = few ts (t.number + 1) b (omega (arith, lt)) up.1 (λ k u e. down (suc k) u e) in omega (arith, k, lo)

  first_is : (u : Turn C Drawn) (ts : List (Turn C Drawn)) (m : ℕ) → AllAbove m (u ∷ ts) → AllBelow (m + suc (length ts)) (u ∷ ts) → u.number ≡ m
  first_is u ts m up down = let lt : u.number < m + suc (length ts) = down 0 u refl in let lo : m ≤ u.number = up.0 in let f = few ts (u.number + 1) (m + suc (length ts)) (omega (arith, lt)) up.1 (λ k u e. down (suc k) u e) in omega (arith, f, lo)

  -- so where there are as many, each is the next
  each_next : (ts : List (Turn C Drawn)) (m : ℕ) → AllAbove m ts → AllBelow (m + length ts) ts → (k : ℕ) (t : Turn C Drawn) → get_elem? ts k ≡ some t → t.number ≡ m + k
  each_next [] m up down k t e = absurd (let z : none ≡ some t = e in cc)
  each_next (u ∷ ts) m up down zero t e = ap (λ (z : Turn C Drawn). z.number) (sym (some-injective u t e)) ∙ first_is u ts m up down ∙ (let z : m ≡ m + 0 = omega arith in z)
  each_next (u ∷ ts) m up down (suc k) t e = each_next ts (m + 1) (subst (λ n. AllAbove n ts) (ap (λ n. n + 1) (first_is u ts m up down)) up.1) (λ j v g. (let z : v.number < m + suc (length ts) = down (suc j) v g in omega (arith, z))) k t e ∙ (let z : m + 1 + k ≡ m + suc k = omega arith in z)

  module _ (touches : Drawn → List ℕ) (moves : Drawn → List C → List C → Type 0) (v : View C Drawn) (log : List (Turn C Drawn)) (now : List C) (sees : Sees touches moves v log now) (alone : hands_stood_for v ≡ v.hands) (up : AllAbove 0 v.turns) where
    -- the history that the only hand sees is its own list
    pub own_log : log ≡ v.turns
    own_log = let long : length v.turns ≡ length log = (sees.alone alone).0 in
        same_list log v.turns (sym long) (λ k t e. subst (λ n. get_elem? log n ≡ some t) (each_next v.turns 0 up (λ j u f. (let lt = in_range log u.number u (sees.mine j u f) in omega (arith, lt, long))) k t e ∙ (let z : 0 + k ≡ k = omega arith in z)) (sees.mine k t e))

module _ {C E : Type 0} (touches : E → List ℕ) where
  pub left_more : (cs : List C) (ts : List (Turn C E)) (t : Turn C E) → contents_left touches cs (ts ++ t ∷ []) ≡ write (contents_left touches cs ts) (touches t.event) t.after
  left_more cs [] t = refl
  left_more cs (u ∷ ts) t = left_more (write cs (touches u.event) u.after) ts t

  pub left_long : (cs : List C) (ts : List (Turn C E)) → length (contents_left touches cs ts) ≡ length cs
  left_long cs [] = refl
  left_long cs (t ∷ ts) = left_long (write cs (touches t.event) t.after) ts ∙ length-write cs (touches t.event) t.after

  module _ (moves : E → List C → List C → Type 0) where
    -- a run's last contents are those that its turns left
    pub ran : (cs : List C) (ts : List (Turn C E)) (last : List C) → Run touches moves cs ts last → last ≡ contents_left touches cs ts
    ran cs [] last r = sym r
    ran cs (t ∷ ts) last r = ran (write cs (touches t.event) t.after) ts last r.1

    -- and its last turn found what those before it left
    pub last_goes : (cs : List C) (ts : List (Turn C E)) (t : Turn C E) (last : List C) → Run touches moves cs (ts ++ t ∷ []) last → TurnGoes touches moves (contents_left touches cs ts) t
    last_goes cs [] t last r = r.0
    last_goes cs (u ∷ ts) t last r = last_goes (write cs (touches u.event) u.after) ts t last r.1

    -- the turns before it were a run too
    pub ran_before : (cs : List C) (ts : List (Turn C E)) (t : Turn C E) (last : List C) → Run touches moves cs (ts ++ t ∷ []) last → Run touches moves cs ts (contents_left touches cs ts)
    ran_before cs [] t last r = refl
    ran_before cs (u ∷ ts) t last r = (r.0, ran_before (write cs (touches u.event) u.after) ts t last r.1)

held_before : {X : Type 0} (h : List (Option X)) (j i : ℕ) (c : X) → get_elem? (set h j None) i ≡ some (Some c) → get_elem? h i ≡ some (Some c)
held_before [] j i c e = e
held_before (x ∷ h) zero zero c e = absurd (none_some c (some-injective None (Some c) e))
held_before (x ∷ h) zero (suc i) c e = e
held_before (x ∷ h) (suc j) zero c e = e
held_before (x ∷ h) (suc j) (suc i) c e = held_before h j i c e

module _ {C E : Type 0} (touches : E → List ℕ) where
  -- a draw keeps that what is held is what the turns left ..
  pub draw_left : (v : View C E) (t : Turn C E) → HoldsLeft touches v → HoldsLeft touches (drawing v (touches t.event) t)
  draw_left v t h = record {
    long = length-write v.held (touches t.event) (map Some t.after) ∙ h.long;
    held = λ i c e. ap (λ l. get_elem? l i) (left_more touches v.opening v.turns t) ∙ both_written v.held (left_now touches v) (h.long ∙ sym (left_long touches v.opening v.turns)) h.held (touches t.event) t.after i c e;
  }

  -- .. and so does what gives a part back
  pub give_left : (v : View C E) (j : ℕ) → HoldsLeft touches v → HoldsLeft touches (holding v j None)
  give_left v j h = record {
    long = length-set v.held j None ∙ h.long;
    held = λ i c e. h.held i c (held_before v.held j i c e);
  }

  -- finding a part held changes nothing of it
  pub miss_left : (v : View C E) (j : ℕ) → HoldsLeft touches v → HoldsLeft touches (missing_part v j)
  miss_left v j h = record { long = h.long; held = h.held }

  -- what is drawn found what the turns before it left
  pub draw_goes : (moves : E → List C → List C → Type 0) (v : View C E) (n : ℕ) (e : E) (after : List C) → HoldsLeft touches v → AllThere v.held (touches e) → moves e (look v.held (touches e)) after → length after ≡ length (touches e) → TurnGoes touches moves (left_now touches v) (new_turn n e (look v.held (touches e)) after)
  draw_goes moves v n e after h all m long = (reads_now v.held (left_now touches v) h.held (touches e) (look v.held (touches e)) (all_read v.held (touches e) all), m, long)

module _ {C : Type 0} (touches : Drawn → List ℕ) (moves : Drawn → List C → List C → Type 0) where
  -- what the only hand sees is what its turns left
  pub own_contents : (v : View C Drawn) (log : List (Turn C Drawn)) (now : List C) → Sees touches moves v log now → hands_stood_for v ≡ v.hands → AllAbove 0 v.turns → now ≡ left_now touches v
  own_contents v log now sees alone up = ran touches moves v.opening log now sees.run ∙ ap (contents_left touches v.opening) (own_log touches moves v log now sees alone up)

  -- and so is what it holds, once it has held a part
  pub hold_left : (v : View C Drawn) → SeesOne touches moves v → hands_stood_for v ≡ v.hands → AllAbove 0 v.turns → length v.held ≡ length v.opening → HoldsLeft touches v
  hold_left v sees alone up long = record { long = long; held = λ i c e. ap (λ l. get_elem? l i) (sym (own_contents v sees.0 sees.1 sees.2 alone up)) ∙ sees.2.held i c e }

  -- also where it found the part held some times before
  pub hold_more : (v : View C Drawn) (missed : List ℕ) (i : ℕ) (c : C) → HoldsLeft touches v → SeesOne touches moves (holding (having_missed v missed) i (Some c)) → hands_stood_for v ≡ v.hands → AllAbove 0 v.turns → HoldsLeft touches (holding (having_missed v missed) i (Some c))
  hold_more v missed i c h sees alone up = hold_left (holding (having_missed v missed) i (Some c)) sees alone up (length-set v.held i (Some c) ∙ h.long)

  -- its turns are a run
  pub own_run : (v : View C Drawn) → SeesOne touches moves v → hands_stood_for v ≡ v.hands → AllAbove 0 v.turns → Run touches moves v.opening v.turns (left_now touches v)
  own_run v sees alone up = subst (λ l. Run touches moves v.opening v.turns l) (own_contents v sees.0 sees.1 sees.2 alone up) (subst (λ l. Run touches moves v.opening l sees.1) (own_log touches moves v sees.0 sees.1 sees.2 alone up) sees.2.run)

-- what the only worker noted, in order, is what its turns show
pub own_journal : {C : Type 0} (touches : Drawn → List ℕ) (moves : Drawn → List C → List C → Type 0) (v : View C Drawn) (log : List (Turn C Drawn)) (now : List C) → Sees touches moves v log now → hands_stood_for v ≡ v.hands → AllAbove 0 v.turns → events_of (in_order (noted v.turns)) ≡ shown_by v.turns
own_journal touches moves v log now sees alone up = gathered v log sees.numbered (sees.alone alone) ∙ ap shown_by (own_log touches moves v log now sees alone up)

-- a hand that is as before holds what its turns left, if it did
pub keeps_view : {C : Type 0} (v v2 : View C Drawn) → v2 ≡ v → KeepsLeft v v2
keeps_view v v2 e = λ alone up h. subst (λ w. HoldsLeft drawn_touches w) (sym e) h

pub keeps_moved : {C : Type 0} (u v w : View C Drawn) → w ≡ v → KeepsLeft u v → KeepsLeft u w
keeps_moved u v w e keeps = λ alone up h. subst (λ z. HoldsLeft drawn_touches z) (sym e) (keeps alone up h)

module _ {P C : Type 0} (old new : Held P C Drawn) where
  -- the only hand was the only one before
  pub was_alone : SameHand old new → hands_stood_for new.view ≡ new.view.hands → hands_stood_for old.view ≡ old.view.hands
  was_alone same alone = sym (ap length same.stands_for) ∙ alone ∙ same.hands

  -- where nothing was drawn, what lies in the parts is as before
  pub left_same : SameTurns old new → left_now drawn_touches new.view ≡ left_now drawn_touches old.view
  left_same same = ap₂ (λ (cs : List C) (ts : List (Turn C Drawn)). contents_left drawn_touches cs ts) same.same.opening same.turns

  -- once it has held a part, it holds what its turns left
  pub held_left : (moves : Drawn → List C → List C → Type 0) → SameTurns old new → SeesOne drawn_touches moves new.view → length new.view.held ≡ length old.view.held → KeepsLeft old.view new.view
  held_left moves same sees long = λ alone up h. hold_left drawn_touches moves new.view sees (ap length same.same.stands_for ∙ alone ∙ sym same.same.hands) (subst (λ ts. AllAbove 0 ts) (sym same.turns) up) (long ∙ h.long ∙ sym (ap length same.same.opening))
