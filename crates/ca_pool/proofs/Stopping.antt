-- Where a round of workers ended, its journal has an end for their allowances together, or nothing can go on.
use Rattle.std.proofs.Common.{◌≡◌, ◌∙◌, ◌⊎◌, inl, inr, ⊎_elim, ℕ, ◌+◌, ◌*◌, ◌-◌, ◌/◌, ◌<◌, ◌≤◌, suc, List, [], ◌∷◌, All, refl, sym, ap, subst, arith, Bool, true, false, None, add-mul, div-add-mod', mod-lt, mul_comm, one-mul}
use Rattle.std.specs.Prelude.{◌||◌, ◌%◌}
use Rattle.ca_term.specs.Event.{EventView}
use Rattle.ca_meaning.specs.Cost.{cost}
use Rattle.ca_meaning.specs.EndsLaw.{IsQuiet}
use Rattle.ca_meaning.specs.State.{State}
use Rattle.ca_journal.specs.Cut.{end_in}
use Rattle.ca_turns.specs.declared.rule.Turn.{Turn}
use Rattle.ca_turns.specs.Places.{total}
use Rattle.ca_table.specs.Draws.{turn_view}
use Rattle.ca_table.specs.Worked.{HasDrawnNothing, HasMainEnd, any_drew, ends_main, gives_up, some_turn, has_drawn, finds_run_end, obeys_mark, spent, stays_stuck}
use Rattle.ca_table.specs.declared.drawn.Drawn.{Drawn}
use Rattle.ca_table.specs.declared.worker.Worker.{Worker}
use Rattle.ca_table.specs.declared.answer.WorkEnd.{WorkEnd}
use Rattle.ca_table.specs.declared.answer.WorkEnd.TheVariants.{Over, Spent}
use Rattle.ca_pool.proofs.CutRuns.{cut_by_cost, cut_by_main}
use Rattle.ca_table.proofs.Having.{either_true}

-- the allowances are the budget, or more
pub enough : (budget w : ℕ) → 0 < budget → 0 < w → budget ≤ w * ((budget - 1) / w + 1)
enough budget w lt some = subst (λ (n : ℕ). budget ≤ n) (sym whole) (by ((budget - 1) / w * w) ((budget - 1) % w) (div-add-mod' (budget - 1) w) (mod-lt (budget - 1) some)) where
  whole : w * ((budget - 1) / w + 1) ≡ (budget - 1) / w * w + w
  whole = mul_comm w ((budget - 1) / w + 1) ∙ add-mul ((budget - 1) / w) 1 w ∙ ap (λ (n : ℕ). (budget - 1) / w * w + n) (one-mul w)

  by : (p r : ℕ) → p + r ≡ budget - 1 → r < w → budget ≤ p + w
  by p r e less = omega (arith, e, less, lt)

-- of three
abbrev Three : (Bool → Bool → Bool → Type 0)
Three a b c = (a ≡ true) ⊎ ((b ≡ true) ⊎ (c ≡ true))

three : (a b c : Bool) → (a || (b || c)) ≡ true → Three a b c
three a b c e = ⊎_elim inl (λ k. inr (either_true b c k)) (either_true a (b || c) e)

either_three : (a b c x y z : Bool) → Three a b c ⊎ Three x y z → Three (a || x) (b || y) (c || z)
either_three true b c x y z h = inl refl
either_three false true c x y z h = inr (inl refl)
either_three false false true x y z h = inr (inr refl)
either_three false false false x y z h = ⊎_elim (λ k. ⊎_elim (λ q. absurd (never q)) (λ q. ⊎_elim (λ r. absurd (never r)) (λ r. absurd (never r)) q) k) (λ k. k) h where
  never : false ≡ true → ⊥
  never q = cc

has_left : {C : Type 0} (ts : List (Turn C Drawn)) → some_turn finds_run_end ts ≡ true → Three (some_turn stays_stuck ts) (some_turn obeys_mark ts) (some_turn ends_main ts)
has_left [] e = absurd (let z : false ≡ true = e in cc)
has_left (t ∷ ts) e = let w = turn_view t.event.what in either_three (stays_stuck w) (obeys_mark w) (ends_main w) (some_turn stays_stuck ts) (some_turn obeys_mark ts) (some_turn ends_main ts)
    (⊎_elim (λ k. inl (three (stays_stuck w) (obeys_mark w) (ends_main w) k)) (λ k. inr (has_left ts k)) (either_true (finds_run_end w) (some_turn finds_run_end ts) e))

module _ {A C : Type 0} where
  any_left : (ws : List (Worker A C)) → any_drew finds_run_end ws ≡ true → Three (any_drew stays_stuck ws) (any_drew obeys_mark ws) (any_drew ends_main ws)
  any_left [] e = absurd (let z : false ≡ true = e in cc)
  any_left (w ∷ ws) e = either_three (has_drawn stays_stuck w) (has_drawn obeys_mark w) (has_drawn ends_main w) (any_drew stays_stuck ws) (any_drew obeys_mark ws) (any_drew ends_main ws)
      (⊎_elim (λ k. inl (has_left w.hand.view.turns k)) (λ k. inr (any_left ws k)) (either_true (has_drawn finds_run_end w) (any_drew finds_run_end ws) e))

  -- nobody has given up before the first call
  pub none_yet : (ws : List (Worker A C)) → All HasDrawnNothing ws → any_drew gives_up ws ≡ false
  none_yet [] all = refl
  none_yet (w ∷ ws) all = ap (λ b. b || any_drew gives_up ws) (ap (some_turn gives_up) (all 0 w (omega arith))) ∙ none_yet ws (λ k d lt. all (suc k) d (omega (arith, lt)))

  -- so where no end is found in the journal the run is quiet
  pub quiet_by : (ws : List (Worker A C)) (e : WorkEnd) (es : List EventView) (s : State) (budget all before : ℕ) → 0 < budget → budget ≤ all
      → (e ≡ Spent → all + before ≤ total spent ws) → cost es ≡ total spent ws → (e ≡ Over → any_drew finds_run_end ws ≡ true) → any_drew gives_up ws ≡ false
      → (any_drew stays_stuck ws ≡ true → IsQuiet s) → (any_drew ends_main ws ≡ true → HasMainEnd es) → (any_drew gives_up ws ≡ false → any_drew obeys_mark ws ≡ true → HasMainEnd es)
      → end_in budget es ≡ None → IsQuiet s
  quiet_by ws Spent es s budget all before lt enough spends costs over none stuck main marked h = cut_by_cost budget es lt (let a = spends refl in omega (arith, a, costs, enough)) h
  quiet_by ws Over es s budget all before lt enough spends costs over none stuck main marked h =
      ⊎_elim stuck (λ k. ⊎_elim (λ q. cut_by_main budget es lt (marked none q) h) (λ q. cut_by_main budget es lt (main q) h) k) (any_left ws (over refl))
