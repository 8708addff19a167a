-- Which kinds of turns stand in lists of turns, and among those of several workers.
use Rattle.std.proofs.Common.{◌≡◌, ◌∙◌, ◌⊎◌, inl, inr, ⊎_elim, List, [], ◌∷◌, ◌++◌, length, refl, sym, ap, subst, arith, Bool, true, false}
use mathlib.Core.List.{append_assoc, append-nil}
use Rattle.std.specs.Prelude.{◌||◌}
use Rattle.ca_turns.specs.declared.rule.Turn.{Turn}
use Rattle.ca_commit.specs.Moving.{visible}
use Rattle.ca_commit.specs.Touched as said
use Rattle.ca_table.specs.Draws.{turn_view}
use Rattle.ca_table.specs.Members.{In}
use Rattle.ca_table.specs.Running.{shown_by}
use Rattle.ca_table.specs.Seen.{PartSeen}
use Rattle.ca_table.specs.Worked.{AnyDrew, HasMainEnd, any_drew, ends_main, some_turn, has_drawn, obeys_mark, stays_stuck}
use Rattle.ca_table.specs.Workers.{turns_of}
use Rattle.ca_table.specs.declared.drawn.Drawn.{Drawn}
use Rattle.ca_table.specs.declared.worker.Worker.{Worker}
use Rattle.ca_table.proofs.Members.{in_either, in_first, in_second}

pub either_true : (a b : Bool) → (a || b) ≡ true → (a ≡ true) ⊎ (b ≡ true)
either_true true b e = inl refl
either_true false b e = inr e

pub both_false : (a b : Bool) → (a || b) ≡ false → (a ≡ false) × (b ≡ false)
both_false true b e = absurd (let z : true ≡ false = e in cc)
both_false false b e = (refl, e)

pub first_true : (a b : Bool) → a ≡ true → (a || b) ≡ true
first_true a b e = ap (λ x. x || b) e

pub second_true : (a b : Bool) → b ≡ true → (a || b) ≡ true
second_true true b e = refl
second_true false b e = e

pub or_grouped : (a b c : Bool) → ((a || b) || c) ≡ (a || (b || c))
or_grouped true b c = refl
or_grouped false b c = refl

pub or_turned : (a b : Bool) → (a || b) ≡ (b || a)
or_turned true true = refl
or_turned true false = refl
or_turned false true = refl
or_turned false false = refl

not_false : {G : Type 0} (b : Bool) → b ≡ false → b ≡ true → G
not_false b f t = absurd (let z : false ≡ true = sym f ∙ t in cc)

pub false_unless : (b : Bool) → (b ≡ true → ⊥) → b ≡ false
false_unless true never = absurd (never refl)
false_unless false never = refl

module _ {C : Type 0} (such : said.Turn → Bool) where
  pub has_append : (ts us : List (Turn C Drawn)) → some_turn such (ts ++ us) ≡ (some_turn such ts || some_turn such us)
  has_append [] us = refl
  has_append (t ∷ ts) us = ap (λ b. such (turn_view t.event.what) || b) (has_append ts us) ∙ sym (or_grouped (such (turn_view t.event.what)) (some_turn such ts) (some_turn such us))

  has_one : (ts : List (Turn C Drawn)) → some_turn such ts ≡ true → (t : Turn C Drawn) × In t ts × (such (turn_view t.event.what) ≡ true)
  has_one [] e = absurd (let z : false ≡ true = e in cc)
  has_one (t ∷ ts) e = ⊎_elim (λ k. (t, inl refl, k)) (λ k. let r = has_one ts k in (r.0, inr r.1, r.2)) (either_true (such (turn_view t.event.what)) (some_turn such ts) e)

  one_has : (ts : List (Turn C Drawn)) (t : Turn C Drawn) → In t ts → such (turn_view t.event.what) ≡ true → some_turn such ts ≡ true
  one_has [] t i e = absurd i
  one_has (u ∷ ts) t i e = ⊎_elim (λ is. first_true (such (turn_view u.event.what)) (some_turn such ts) (subst (λ (x : Turn C Drawn). such (turn_view x.event.what) ≡ true) is e)) (λ k. second_true (such (turn_view u.event.what)) (some_turn such ts) (one_has ts t k e)) i

  -- all turns of the one list stand in the other
  pub has_within : (ts us : List (Turn C Drawn)) → ((t : Turn C Drawn) → In t ts → In t us) → some_turn such ts ≡ true → some_turn such us ≡ true
  has_within ts us all e = let k = has_one ts e in one_has us k.0 (all k.0 k.1) k.2

  pub none_within : (ts us : List (Turn C Drawn)) → ((t : Turn C Drawn) → In t ts → In t us) → some_turn such us ≡ false → some_turn such ts ≡ false
  none_within ts us all e = false_unless (some_turn such ts) (λ h. not_false (some_turn such us) e (has_within ts us all h))

module _ {A C : Type 0} where
  -- one worker more
  turns_more : (ws : List (Worker A C)) (w : Worker A C) → turns_of (ws ++ w ∷ []) ≡ w.hand.view.turns ++ turns_of ws
  turns_more [] w = sym (append-nil w.hand.view.turns)
  turns_more (v ∷ ws) w = ap (λ ts. ts ++ v.hand.view.turns) (turns_more ws w) ∙ append_assoc w.hand.view.turns (turns_of ws) v.hand.view.turns

  -- all turns of the workers are those that were joined
  pub all_turns : {turns : List (Turn (PartSeen A) Drawn)} (ys : List (Worker A C)) (first : Worker A C) (xs : List (Worker A C)) → xs ≡ ys ++ first ∷ [] → turns ≡ first.hand.view.turns ++ turns_of ys → turns ≡ turns_of xs
  all_turns ys first xs popped all = all ∙ sym (ap turns_of popped ∙ turns_more ys first)

  -- the turns of one worker join those of others
  pub turns_join : {new : List (Turn (PartSeen A) Drawn)} (mine : List (Turn (PartSeen A) Drawn)) (w : Worker A C) (xs ys : List (Worker A C)) (b : List (Turn (PartSeen A) Drawn)) → new ≡ mine ++ w.hand.view.turns → xs ≡ ys ++ w ∷ [] → mine ++ turns_of xs ≡ b → new ++ turns_of ys ≡ b
  turns_join mine w xs ys b turns popped all = ap (λ ts. ts ++ turns_of ys) turns ∙ append_assoc mine w.hand.view.turns (turns_of ys) ∙ ap (λ ts. mine ++ ts) (sym (ap turns_of popped ∙ turns_more ys w)) ∙ all

  pub turns_joined : (mine : List (Turn (PartSeen A) Drawn)) (xs : List (Worker A C)) (b : List (Turn (PartSeen A) Drawn)) → length xs ≡ 0 → mine ++ turns_of xs ≡ b → mine ≡ b
  turns_joined mine [] b none all = sym (append-nil mine) ∙ all
  turns_joined mine (x ∷ xs) b none all = absurd (omega (arith, none))

  -- a turn is among them where some worker drew it
  pub drawn_by : (t : Turn (PartSeen A) Drawn) (ws : List (Worker A C)) → In t (turns_of ws) → AnyDrew t ws
  drawn_by t [] i = i
  drawn_by t (w ∷ ws) i = ⊎_elim (λ k. inr (drawn_by t ws k)) (λ k. inl k) (in_either t (turns_of ws) w.hand.view.turns i)

  pub by_drawn : (t : Turn (PartSeen A) Drawn) (ws : List (Worker A C)) → AnyDrew t ws → In t (turns_of ws)
  by_drawn t [] i = i
  by_drawn t (w ∷ ws) i = ⊎_elim (λ k. in_second t (turns_of ws) w.hand.view.turns k) (λ k. in_first t (turns_of ws) w.hand.view.turns (by_drawn t ws k)) i

module _ {A C : Type 0} (such : said.Turn → Bool) where
  has_turns : (ws : List (Worker A C)) → some_turn such (turns_of ws) ≡ any_drew such ws
  has_turns [] = refl
  has_turns (w ∷ ws) = has_append such (turns_of ws) w.hand.view.turns ∙ ap (λ b. b || has_drawn such w) (has_turns ws) ∙ or_turned (any_drew such ws) (has_drawn such w)

  pub of_all : {turns : List (Turn (PartSeen A) Drawn)} (ys : List (Worker A C)) (first : Worker A C) (xs : List (Worker A C)) → xs ≡ ys ++ first ∷ [] → turns ≡ first.hand.view.turns ++ turns_of ys → any_drew such xs ≡ some_turn such turns
  of_all ys first xs popped all = sym (ap (some_turn such) (all_turns ys first xs popped all) ∙ has_turns xs)

pub is_stall : (what : said.Turn) → stays_stuck what ≡ true → what ≡ said.stalls
is_stall said.stalls e = refl
is_stall (said.shown x) e = absurd (let z : false ≡ true = e in cc)
is_stall (said.picks r) e = absurd (let z : false ≡ true = e in cc)
is_stall said.yields e = absurd (let z : false ≡ true = e in cc)
is_stall (said.prunes side p w) e = absurd (let z : false ≡ true = e in cc)
is_stall said.asks_clock e = absurd (let z : false ≡ true = e in cc)
is_stall said.fails e = absurd (let z : false ≡ true = e in cc)
is_stall said.stops e = absurd (let z : false ≡ true = e in cc)
is_stall said.halts e = absurd (let z : false ≡ true = e in cc)

pub is_halt : (what : said.Turn) → obeys_mark what ≡ true → what ≡ said.halts
is_halt said.halts e = refl
is_halt (said.shown x) e = absurd (let z : false ≡ true = e in cc)
is_halt (said.picks r) e = absurd (let z : false ≡ true = e in cc)
is_halt said.yields e = absurd (let z : false ≡ true = e in cc)
is_halt (said.prunes side p w) e = absurd (let z : false ≡ true = e in cc)
is_halt said.asks_clock e = absurd (let z : false ≡ true = e in cc)
is_halt said.fails e = absurd (let z : false ≡ true = e in cc)
is_halt said.stops e = absurd (let z : false ≡ true = e in cc)
is_halt said.stalls e = absurd (let z : false ≡ true = e in cc)

main_visible : (what : said.Turn) → ends_main what ≡ true → HasMainEnd (visible what)
main_visible (said.shown x) e = (x, inl refl, e)
main_visible (said.picks r) e = absurd (let z : false ≡ true = e in cc)
main_visible said.yields e = absurd (let z : false ≡ true = e in cc)
main_visible (said.prunes side p w) e = absurd (let z : false ≡ true = e in cc)
main_visible said.asks_clock e = absurd (let z : false ≡ true = e in cc)
main_visible said.fails e = absurd (let z : false ≡ true = e in cc)
main_visible said.stops e = absurd (let z : false ≡ true = e in cc)
main_visible said.halts e = absurd (let z : false ≡ true = e in cc)
main_visible said.stalls e = absurd (let z : false ≡ true = e in cc)

-- the end of the main text is shown
pub main_shown : {C : Type 0} (ts : List (Turn C Drawn)) → some_turn ends_main ts ≡ true → HasMainEnd (shown_by ts)
main_shown [] e = absurd (let z : false ≡ true = e in cc)
main_shown (t ∷ ts) e = let what = turn_view t.event.what in ⊎_elim (λ h. let k = main_visible what h in (k.0, in_first k.0 (visible what) (shown_by ts) k.1, k.2)) (λ h. let k = main_shown ts h in (k.0, in_second k.0 (visible what) (shown_by ts) k.1, k.2)) (either_true (ends_main what) (some_turn ends_main ts) e)
