-- The end of a run among turns, and what all events but the last of them cost.
use Rattle.std.proofs.Common.{◌≡◌, ◌∙◌, ◌⊎◌, ⊎_elim, ℕ, ◌+◌, ◌<◌, ◌/◌, suc, List, [], ◌∷◌, ◌++◌, refl, sym, ap, subst, arith, Bool, true, false}
use Rattle.std.specs.Prelude.{◌||◌}
use mathlib.Core.List.{append-nil}
use Rattle.ca_term.specs.Cost.{weight_shown}
use Rattle.ca_term.specs.Event.{EventView}
use Rattle.ca_meaning.specs.Cost.{cost}
use Rattle.ca_meaning.specs.Ends.{but_last}
use Rattle.ca_turns.specs.declared.rule.Turn.{Turn}
use Rattle.ca_commit.specs.Touched as said
use Rattle.ca_table.specs.Draws.{turn_view}
use Rattle.ca_table.specs.Worked.{Sparing, ends_main, ends_so, finds_end, gives_up, fails_clock, some_turn, finds_run_end, leaves_run, obeys_mark, stays_stuck, tells_stop}
use Rattle.ca_table.specs.declared.drawn.Drawn.{Drawn}
use Rattle.ca_table.proofs.Having.{both_false, either_true, first_true, has_append, second_true}

-- what costs nothing is none
pub free_none : (es : List EventView) → cost es ≡ 0 → es ≡ []
free_none [] free = refl
free_none (e ∷ es) free = absurd (let z : suc (weight_shown e / 16) + cost es ≡ 0 = free in omega (arith, z))

pub nothing_free : (es : List EventView) → es ≡ [] → cost es ≡ 0
nothing_free es none = ap cost none

last_off : (es : List EventView) (e : EventView) → but_last (es ++ e ∷ []) ≡ es
last_off [] e = refl
last_off (f ∷ []) e = refl
last_off (f ∷ (g ∷ es)) e = ap (λ fs. f ∷ fs) (last_off (g ∷ es) e)

spare_by : (most : ℕ) (es : List EventView) → cost (but_last es) < most → Sparing most es
spare_by most [] less = tt
spare_by most (e ∷ es) less = less

-- one event more, where those before it cost less
pub spare_more : (most : ℕ) (es fs : List EventView) → but_last fs ≡ [] → (fs ≡ []) ⊎ (cost es < most) → Sparing most es → Sparing most (es ++ fs)
spare_more most es [] few by h = subst (Sparing most) (sym (append-nil es)) h
spare_more most es (f ∷ []) few by h = ⊎_elim
    (λ none. absurd (let z : f ∷ [] ≡ [] = none in cc))
    (λ less. spare_by most (es ++ f ∷ []) (subst (λ (gs : List EventView). cost gs < most) (sym (last_off es f)) less)) by
spare_more most es (f ∷ (g ∷ fs)) few by h = absurd (let z : f ∷ but_last (g ∷ fs) ≡ [] = few in cc)

module _ {C : Type 0} where
  -- whoever is such is other
  pub has_other : (such other : said.Turn → Bool) → ((what : said.Turn) → such what ≡ true → other what ≡ true) → (ts : List (Turn C Drawn)) → some_turn such ts ≡ true → some_turn other ts ≡ true
  has_other such other all [] e = e
  has_other such other all (t ∷ ts) e = let what = turn_view t.event.what in ⊎_elim
      (λ k. first_true (other what) (some_turn other ts) (all what k))
      (λ k. second_true (other what) (some_turn other ts) (has_other such other all ts k)) (either_true (such what) (some_turn such ts) e)

  pub none_other : (such other : said.Turn → Bool) → ((what : said.Turn) → other what ≡ false → such what ≡ false) → (ts : List (Turn C Drawn)) → some_turn other ts ≡ false → some_turn such ts ≡ false
  none_other such other all [] e = e
  none_other such other all (t ∷ ts) e = let what = turn_view t.event.what in let b = both_false (other what) (some_turn other ts) e in
      ap (λ c. c || some_turn such ts) (all what b.0) ∙ none_other such other all ts b.1

  -- none that gives the run up is one by which the clock failed, nor one that tells of want of memory
  pub no_failure : (ts : List (Turn C Drawn)) → some_turn gives_up ts ≡ false → some_turn fails_clock ts ≡ false
  no_failure ts none = none_other fails_clock gives_up (λ what e. (both_false (fails_clock what) (tells_stop what) e).0) ts none

  pub no_stop : (ts : List (Turn C Drawn)) → some_turn gives_up ts ≡ false → some_turn tells_stop ts ≡ false
  no_stop ts none = none_other tells_stop gives_up (λ what e. (both_false (fails_clock what) (tells_stop what) e).1) ts none

  -- the last of the second is the last of both
  ends_later : (such : said.Turn → Bool) (ts us : List (Turn C Drawn)) → ends_so such us ≡ true → ends_so such (ts ++ us) ≡ true
  ends_later such [] us e = e
  ends_later such (t ∷ []) [] e = absurd (let z : false ≡ true = e in cc)
  ends_later such (t ∷ []) (u ∷ us) e = e
  ends_later such (t ∷ (s ∷ ts)) us e = ends_later such (s ∷ ts) us e

  last_has : (such : said.Turn → Bool) (ts : List (Turn C Drawn)) → ends_so such ts ≡ true → some_turn such ts ≡ true
  last_has such [] e = e
  last_has such (t ∷ []) e = first_true (such (turn_view t.event.what)) false e
  last_has such (t ∷ (u ∷ us)) e = second_true (such (turn_view t.event.what)) (some_turn such (u ∷ us)) (last_has such (u ∷ us) e)

  -- the second finds the end
  pub finds_later : (ts us : List (Turn C Drawn)) → finds_end us ≡ true → finds_end (ts ++ us) ≡ true
  finds_later ts us e = ⊎_elim
      (λ k. first_true (some_turn ends_main (ts ++ us)) (ends_so leaves_run (ts ++ us)) (has_append ends_main ts us ∙ second_true (some_turn ends_main ts) (some_turn ends_main us) k))
      (λ k. second_true (some_turn ends_main (ts ++ us)) (ends_so leaves_run (ts ++ us)) (ends_later leaves_run ts us k)) (either_true (some_turn ends_main us) (ends_so leaves_run us) e)

  -- whoever finds the end leaves by one of these turns
  pub finds_leaves : (ts : List (Turn C Drawn)) → finds_end ts ≡ true → some_turn finds_run_end ts ≡ true
  finds_leaves ts e = ⊎_elim
      (λ k. has_other ends_main finds_run_end (λ what main. second_true (stays_stuck what) (obeys_mark what || ends_main what) (second_true (obeys_mark what) (ends_main what) main)) ts k)
      (λ k. has_other leaves_run finds_run_end (λ what run. left_by (stays_stuck what) (obeys_mark what) (ends_main what) run) ts (last_has leaves_run ts k)) (either_true (some_turn ends_main ts) (ends_so leaves_run ts) e) where
        left_by : (a b c : Bool) → (a || b) ≡ true → (a || (b || c)) ≡ true
        left_by true b c k = refl
        left_by false b c k = first_true b c k

  -- one turn finds it
  pub one_finds : (t : Turn C Drawn) → finds_run_end (turn_view t.event.what) ≡ true → finds_end (t ∷ []) ≡ true
  one_finds t e = let what = turn_view t.event.what in by (stays_stuck what) (obeys_mark what) (ends_main what) e where
    by : (a b c : Bool) → (a || (b || c)) ≡ true → ((c || false) || (a || b)) ≡ true
    by a b true k = refl
    by true b false k = refl
    by false true false k = refl
    by false false false k = k
