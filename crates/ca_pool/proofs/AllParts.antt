-- A worker that holds parts as they were settled, all of them at last.
use Rattle.std.proofs.Common.{◌≡◌, ◌∙◌, ⊎_elim, inl, inr, ℕ, ◌+◌, ◌<◌, ◌≤◌, List, refl, sym, ap, subst, arith, Bool, true, false, cond, Option, Some, None, eqb, eq-eqb, ne_eqb, is_some}
use Rattle.std.specs.Prelude.{option_map}
use Rattle.std.specs.Map.{update}
use Rattle.std.proofs.lemmas.Bool.{cases_lt}
use Rattle.std.proofs.lemmas.Map.{update_here, update_apart}
use mathlib.Core.Logic.{dite}
use mathlib.Core.Option as core
use native.Mathlib.Decide.{ℕ_discrete}
use lib.ListN.{get_elem?}
use Rattle.ca_value.specs.Tree.{Tree}
use Rattle.ca_term.specs.Operation.{SeedView}
use Rattle.ca_term.specs.Program.{ProgramView}
use Rattle.ca_meaning.specs.Body.{At}
use Rattle.ca_meaning.specs.Task.{TaskBody}
use Rattle.ca_states.specs.Code.{CodeView}
use Rattle.ca_agent.specs.Agents.{Advanced, Answered, Started}
use Rattle.ca_turns.specs.Hands.{Held, HoldsNothing, IsPartSettled, IsWithout, SameBut}
use Rattle.ca_turns.specs.Steps.{SeesOne}
use Rattle.ca_table.specs.Draws.{drawn_moves, drawn_touches}
use Rattle.ca_table.specs.Grips.{GripFits, Grips}
use Rattle.ca_table.specs.Parts.{part_seen}
use Rattle.ca_table.specs.Running.{Knows}
use Rattle.ca_table.specs.Seen.{PartSeen}
use Rattle.ca_table.specs.declared.drawn.Drawn.{Drawn}
use Rattle.ca_table.specs.declared.part.Part.{Part}
use Rattle.ca_table.proofs.Gripping.{fit, grips_at, holds_nothing, no_fit}
use Rattle.ca_table.proofs.Knowing.{knows_same}
use Rattle.ca_table.proofs.Seeing.{code_is, kind_is}
use Rattle.ca_pool.specs.Surveys.{Drops, Fills, Fulls, IsSpread, Surveys, as_settled}

pub some_same : {X : Type 0} (x y : X) → Some x ≡ Some y → x ≡ y
some_same x y e = cc

pub there_is : {X : Type 0} (o : Option X) → is_some o ≡ true → (x : X) × (o ≡ Some x)
there_is None e = absurd (let z : false ≡ true = e in cc)
there_is (Some x) e = (x, refl)

pub not_there : {X : Type 0} (o : Option X) → is_some o ≡ false → o ≡ None
not_there None e = refl
not_there (Some x) e = absurd (let z : true ≡ false = e in cc)

-- a part, and what is settled of it
abbrev pub pair_of : {A C : Type 0} → (Part A C → PartSeen A) → Part A C → Part A C × PartSeen A
pair_of seen x = (x, seen x)

module _ {A C : Type 0} (seen : Part A C → PartSeen A) where
  abbrev Hand : Type 0
  Hand = Held (Part A C) (PartSeen A) Drawn

  as_updated : (g : ℕ → Option (Part A C)) (at : ℕ) (o : Option (Part A C)) → update eqb (as_settled seen g) at (option_map (pair_of seen) o) ≡ as_settled seen (update eqb g at o)
  as_updated g at o = λ t i. by i (eqb at i) t where
    by : (i : ℕ) (b : Bool) → cond b (option_map (pair_of seen) o) (option_map (pair_of seen) (g i)) ≡ option_map (pair_of seen) (cond b o (g i))
    by i true = refl
    by i false = refl

  module _ (n : ℕ) (code : CodeView) (old new : Hand) (g : ℕ → Option (Part A C)) (s : Surveys seen n code old g) where
    abbrev IsOf : Part A C → Type 0
    IsOf x = ((seen x).workers ≡ n) × ((seen x).code ≡ code)

    -- another part is there, or none
    surveys_with : (at : ℕ) (o : Option (Part A C)) → Grips new (update eqb (as_settled seen g) at (option_map (pair_of seen) o)) → ((x : Part A C) → o ≡ Some x → IsOf x) → Surveys seen n code new (update eqb g at o)
    surveys_with at o grips of = record {
      grips = subst (λ (f : ℕ → Option (Part A C × PartSeen A)). Grips new f) (as_updated g at o) grips;
      of = λ i x e. by i x (eqb at i) e;
    } where
      by : (i : ℕ) (x : Part A C) (b : Bool) → cond b o (g i) ≡ Some x → IsOf x
      by i x true e = of x e
      by i x false e = s.of i x e

    -- it is given back
    pub surveys_less : (at : ℕ) → SameBut at old new → IsWithout new at → Surveys seen n code new (update eqb g at None)
    surveys_less at same none = surveys_with at None (grips_at old new (as_settled seen g) at None same none s.grips) (λ x e. absurd (let z : None ≡ Some x = e in cc))

    -- nothing changed
    pub surveys_same : new.parts ≡ old.parts → new.view.held ≡ old.view.held → Surveys seen n code new g
    surveys_same parts held = record { grips = λ i. by i (as_settled seen g i) (s.grips i); of = s.of } where
      by : (i : ℕ) (o : Option (Part A C × PartSeen A)) → GripFits o old i → GripFits o new i
      by i None f = λ x e. f x (sym (ap (λ l. get_elem? l i) parts) ∙ e)
      by i (Some x) f = (ap (λ l. get_elem? l i) parts ∙ f.0, ap (λ l. get_elem? l i) held ∙ f.1)

    -- a part of it, with what was settled
    pub lies_at : (at : ℕ) (x : Part A C) → g at ≡ Some x → (get_elem? old.parts at ≡ core.some (Some x)) × (get_elem? old.view.held at ≡ core.some (Some (seen x)))
    lies_at at x e = fit old (as_settled seen g) at (x, seen x) s.grips (ap (option_map (pair_of seen)) e)

    pub settled_at : (at : ℕ) → is_some (g at) ≡ true → IsPartSettled seen old at
    settled_at at e = let x = there_is (g at) e in let f = lies_at at x.0 x.1 in (x.0, f.0, f.1)

    pub free_at : (at : ℕ) → g at ≡ None → IsWithout old at
    free_at at e = no_fit old (as_settled seen g) at s.grips (ap (option_map (pair_of seen)) e)

module _ {A C : Type 0} (over : CodeView → A → Type 0) (place : A → At) (stands : ProgramView → A → TaskBody → Type 0) (advances : ProgramView → A → A → Type 0) (gives : A → Tree → A → Type 0) (starts : ProgramView → SeedView → A → Type 0)
    (advance_law : Advanced stands place advances) (answer_law : Answered stands place gives) (start_law : Started stands place starts) (least faults : C → ℕ) (readings : C → Option (List ℕ)) (program : ProgramView) (code : CodeView) (n : ℕ) (old new : Held (Part A C) (PartSeen A) Drawn)
    (opening : new.view.opening ≡ old.view.opening) (knows : Knows over stands program code n old.view) (sees : SeesOne drawn_touches (drawn_moves over place advances gives starts) new.view) where
  abbrev shows : Part A C → PartSeen A
  shows = part_seen least faults readings

  known : Knows over stands program code n new.view
  known = knows_same over stands program code n old.view new.view opening knows

  -- one more part is held
  pub surveys_more : (at : ℕ) → SameBut at old new → (x : IsPartSettled shows new at) (g : ℕ → Option (Part A C)) → Surveys shows n code old g → Surveys shows n code new (update eqb g at (Some x.0))
  surveys_more at same x g s = surveys_with shows n code old new g s at (Some x.0) (grips_at old new (as_settled shows g) at (Some (x.0, shows x.0)) same (x.1, x.2) s.grips)
      (λ y e. subst (λ (z : Part A C). ((shows z).workers ≡ n) × ((shows z).code ≡ code)) (some_same x.0 y e) (
        (kind_is over place stands advances gives starts advance_law answer_law start_law program code n new.view known sees at (shows x.0) x.2).0,
        code_is over place stands advances gives starts advance_law answer_law start_law program code n new.view known sees at (shows x.0) x.2,
      ))

module _ {X : Type 0} where
  pub fills_none : (a : ℕ) (g : ℕ → Option X) → Fills a a g g
  fills_none a g = record { there = λ i le lt. absurd (omega (arith, le, lt)); others = λ i h. refl }

  -- the next is there too
  pub fills_more : (a b : ℕ) (g f : ℕ → Option X) (x : X) → a ≤ b → Fills a b g f → Fills a (b + 1) g (update eqb f b (Some x))
  fills_more a b g f x ord s = record {
    there = λ i le lt. dite (ℕ_discrete b i)
        (λ e. ap is_some (subst (λ (k : ℕ). update eqb f b (Some x) k ≡ Some x) e (update_here f b (Some x))))
        (λ ne. ap is_some (update_apart f b (Some x) i (λ e. ne (sym e))) ∙ s.there i le (omega (arith, lt, ne)));
    others = λ i h. update_apart f b (Some x) i (λ e. ⊎_elim (λ lt. omega (arith, lt, e, ord)) (λ le. omega (arith, le, e)) h) ∙ s.others i (⊎_elim (λ lt. inl lt) (λ le. inr (omega (arith, le))) h);
  }

  pub drops_none : (a : ℕ) (g : ℕ → Option X) → Drops a a g g
  drops_none a g = record { gone = λ i le lt. absurd (omega (arith, le, lt)); others = λ i h. refl }

  pub drops_more : (a b : ℕ) (g f : ℕ → Option X) → a ≤ b → Drops a b g f → Drops a (b + 1) g (update eqb f b None)
  drops_more a b g f ord s = record {
    gone = λ i le lt. dite (ℕ_discrete b i)
        (λ e. subst (λ (k : ℕ). update eqb f b None k ≡ None) e (update_here f b None))
        (λ ne. update_apart f b None i (λ e. ne (sym e)) ∙ s.gone i le (omega (arith, lt, ne)));
    others = λ i h. update_apart f b None i (λ e. ⊎_elim (λ lt. omega (arith, lt, e, ord)) (λ le. omega (arith, le, e)) h) ∙ s.others i (⊎_elim (λ lt. inl lt) (λ le. inr (omega (arith, le))) h);
  }

  -- one part alone is there
  pub only_there : (at : ℕ) (x : X) (i : ℕ) → is_some (update eqb (λ i. None) at (Some x) i) ≡ eqb at i
  only_there at x i = by (eqb at i) where
    by : (b : Bool) → is_some (cond b (Some x) None) ≡ b
    by true = refl
    by false = refl

  -- with those below it, as far as they were free
  pub spread_first : (low middle : ℕ) (g f : ℕ → Option X) → low ≤ middle → ((i : ℕ) → is_some (g i) ≡ eqb middle i) → Fills 0 low g f → IsSpread low middle (middle + 1) f
  spread_first low middle g f ord only s = record {
    below = λ i lt. s.there i (omega arith) lt;
    between = λ i le lt. s.others i (inr le) ∙ not_there (g i) (only i ∙ ne_eqb middle i (λ e. omega (arith, e, lt)));
    above = λ i le lt. ap is_some (s.others i (inr (omega (arith, le, ord)))) ∙ only i ∙ eq-eqb middle i (omega (arith, le, lt));
    beyond = λ i le more. s.others i (inr (omega (arith, le, ord))) ∙ not_there (g i) (only i ∙ ne_eqb middle i (λ e. omega (arith, e, more)));
  }

  -- and with those above it
  pub spread_more : (low middle high : ℕ) (g f : ℕ → Option X) → low ≤ middle → middle < high → IsSpread low middle (middle + 1) g → Fills (middle + 1) high g f → IsSpread low middle high f
  spread_more low middle high g f ord less s t = record {
    below = λ i lt. ap is_some (t.others i (inl (omega (arith, lt, ord)))) ∙ s.below i lt;
    between = λ i le lt. t.others i (inl (omega (arith, lt))) ∙ s.between i le lt;
    above = λ i le lt. ⊎_elim (λ near. ap is_some (t.others i (inl near)) ∙ s.above i le near) (λ far. t.there i far lt) (cases_lt i (middle + 1));
    beyond = λ i le more. t.others i (inr more) ∙ s.beyond i le (omega (arith, less, more));
  }

  -- all are there
  pub spread_all : (middle count : ℕ) (g : ℕ → Option X) → middle < count → IsSpread middle middle count g → Fulls count g
  spread_all middle count g lt s = record {
    there = λ i less. ⊎_elim (λ low. s.below i low) (λ high. s.above i high less) (cases_lt i middle);
    no_more = λ i more. s.beyond i (omega (arith, more, lt)) more;
  }

  -- none is there any more
  pub spread_none : (low middle high : ℕ) (g f e : ℕ → Option X) → low ≤ middle → IsSpread low middle high g → Drops 0 low g f → Drops middle high f e → (i : ℕ) → e i ≡ None
  spread_none low middle high g f e ord s a b i = ⊎_elim
      (λ lt. b.others i (inl (omega (arith, lt, ord))) ∙ a.gone i (omega arith) lt)
      (λ le. ⊎_elim (λ lt. b.others i (inl lt) ∙ a.others i (inr le) ∙ s.between i le lt)
      (λ past. ⊎_elim (λ lt. b.gone i past lt) (λ more. b.others i (inr more) ∙ a.others i (inr le) ∙ s.beyond i past more) (cases_lt i high)) (cases_lt i middle))
      (cases_lt i low)

  pub full_none : (count : ℕ) (g f : ℕ → Option X) → Fulls count g → Drops 0 count g f → (i : ℕ) → f i ≡ None
  full_none count g f s a i = ⊎_elim (λ lt. a.gone i (omega arith) lt) (λ le. a.others i (inr le) ∙ s.no_more i le) (cases_lt i count)

module _ {A C : Type 0} (seen : Part A C → PartSeen A) (n : ℕ) (code : CodeView) (h : Held (Part A C) (PartSeen A) Drawn) where
  -- a hand that holds nothing
  pub surveys_nothing : HoldsNothing h → Surveys seen n code h (λ i. None)
  surveys_nothing none = record { grips = λ i. none i; of = λ i x e. absurd (let z : None ≡ Some x = e in cc) }

  pub nothing_surveyed : (g : ℕ → Option (Part A C)) → Surveys seen n code h g → ((i : ℕ) → g i ≡ None) → HoldsNothing h
  nothing_surveyed g s none = holds_nothing h (as_settled seen g) s.grips (λ i. ap (option_map (pair_of seen)) (none i))
