-- A history of a table is a run of the program.
use Rattle.std.proofs.Common.{◌≡◌, ◌≢◌, ◌∙◌, ℕ, ◌<◌, List, [], ◌∷◌, ◌++◌, map, length, set, refl, rules, sym, ap, subst, Option, Some, None, Bool, true, false, cond, eqb, eqb-true}
use Rattle.std.specs.Prelude.{option_map}
use Rattle.std.proofs.lemmas.Bool.{eqb-false}
use mathlib.Core.Option as core
use lib.ListN.{get_elem?}
use Rattle.ca_value.specs.Tree.{Tree}
use Rattle.ca_term.specs.Event.{EventView}
use Rattle.ca_term.specs.Program.{ProgramView}
use Rattle.ca_term.specs.Operation.{SeedView}
use Rattle.ca_meaning.specs.Body.{At}
use Rattle.ca_meaning.specs.State.{State}
use Rattle.ca_meaning.specs.Steps.{Steps}
use Rattle.ca_meaning.specs.Task.{TaskBody}
use Rattle.ca_states.specs.Code.{CodeView}
use Rattle.ca_agent.specs.Agents.{Advanced, Answered, Started}
use Rattle.ca_turns.specs.declared.rule.Turn.{Turn}
use Rattle.ca_turns.specs.History.{TurnGoes, Run}
use Rattle.ca_turns.specs.Places.{AllIn, IsDistinct, ReadsPlaces, write}
use Rattle.ca_turns.proofs.Callers.{set_else, set_here}
use Rattle.ca_turns.proofs.Lists.{in_range}
use Rattle.ca_turns.proofs.Runs.{all_in}
use Rattle.ca_commit.specs.Agents.{TaskAgent}
use Rattle.ca_commit.specs.Contents.{Content}
use Rattle.ca_commit.specs.Gathered.{pick}
use Rattle.ca_commit.specs.Moving.{Moves, visible}
use Rattle.ca_commit.specs.Running.{AreAt, RunStands, or_was, contents_written}
use Rattle.ca_commit.proofs.Locality.{locality}
use Rattle.ca_table.specs.Draws.{drawn_apart, drawn_moves, drawn_touches, drawn_view, turn_view}
use Rattle.ca_table.specs.OneCode.{HaveCode, advances_over, gives_over, stands_over, starts_over}
use Rattle.ca_table.specs.Running.{TableStands, as_option, contents_at, shown_by}
use Rattle.ca_table.specs.Seen.{PartSeen, content_of}
use Rattle.ca_table.specs.declared.drawn.Drawn.{Drawn}
use Rattle.ca_table.proofs.Codes.{advanced_over, answered_over, drawn_has, leaves_code, started_over}

length_set : {X : Type 0} (l : List X) (i : ℕ) (x : X) → length (set l i x) ≡ length l
length_set l i x = search rules

module _ {A : Type 0} where
  abbrev as_content : core.Option (PartSeen A) → Option (Content (TaskAgent A))
  as_content o = option_map content_of (as_option o)

  pub reads_at : (now : List (PartSeen A)) (is : List ℕ) (cs : List (PartSeen A)) → ReadsPlaces now is cs → AreAt (contents_at now) is (map content_of cs)
  reads_at now [] [] r = tt
  reads_at now [] (c ∷ cs) r = r
  reads_at now (i ∷ is) [] r = r
  reads_at now (i ∷ is) (c ∷ cs) r = (ap as_content r.0, reads_at now is cs r.1)

  pub in_places : (now : List (PartSeen A)) (is : List ℕ) (cs : List (PartSeen A)) → ReadsPlaces now is cs → AllIn (λ i. i < length now) is
  in_places now [] cs r = tt
  in_places now (i ∷ is) [] r = absurd r
  in_places now (i ∷ is) (c ∷ cs) r = (in_range now i c r.0, in_places now is cs r.1)

  not_picked : (is : List ℕ) (cs : List (Content (TaskAgent A))) (i : ℕ) → AllIn (λ j. i ≢ j) is → pick is cs i ≡ None
  not_picked [] cs i h = refl
  not_picked (j ∷ is) [] i h = refl
  not_picked (j ∷ is) (c ∷ cs) i h = by (eqb j i) refl (not_picked is cs i h.1) where
    by : (b : Bool) → eqb j i ≡ b → pick is cs i ≡ None → cond b (Some c) (pick is cs i) ≡ None
    by true e rest = absurd (h.0 (sym (eqb-true j i e)))
    by false e rest = rest

  pub written_at : (now : List (PartSeen A)) (is : List ℕ) (cs : List (PartSeen A)) → AllIn (λ i. i < length now) is → IsDistinct is → (k : ℕ) → contents_at (write now is cs) k ≡ contents_written (contents_at now) is (map content_of cs) k
  written_at now [] cs r d k = refl
  written_at now (i ∷ is) [] r d k = refl
  written_at now (i ∷ is) (c ∷ cs) r d k = written_at (set now i c) is cs (all_in (λ j. j < length now) (λ j. j < length (set now i c)) (λ j lt. subst (λ (m : ℕ). j < m) (sym (length_set now i c)) lt) is r.1) d.1 k ∙ by (eqb i k) refl where
    by : (b : Bool) → eqb i k ≡ b → or_was (pick is (map content_of cs) k) (contents_at (set now i c) k) ≡ or_was (cond b (Some (content_of c)) (pick is (map content_of cs) k)) (contents_at now k)
    by true e = let same : i ≡ k = eqb-true i k e in
        ap (λ o. or_was o (contents_at (set now i c) k)) (subst (λ (j : ℕ). pick is (map content_of cs) j ≡ None) same (not_picked is (map content_of cs) i d.0))
        ∙ ap as_content (subst (λ (j : ℕ). get_elem? (set now i c) j ≡ core.some c) same (set_here now i c r.0))
    by false e = ap (λ o. or_was (pick is (map content_of cs) k) (as_content o)) (set_else now i k c (λ is. eqb-false i k e (sym is)))

pub steps_after : (program : ProgramView) (es fs : List EventView) (s s2 s3 : State) → Steps program s es s2 → Steps program s2 fs s3 → Steps program s (es ++ fs) s3
steps_after program [] fs s s2 s3 a b = subst (λ (z : State). Steps program z fs s3) a b
steps_after program (e ∷ es) fs s s2 s3 a b = (a.0, a.1, steps_after program es fs a.0 s2 s3 a.2 b)

module _ {A : Type 0} (over : CodeView → A → Type 0) (place : A → At) (stands : ProgramView → A → TaskBody → Type 0) (advances : ProgramView → A → A → Type 0) (gives : A → Tree → A → Type 0) (starts : ProgramView → SeedView → A → Type 0)
    (advance_law : Advanced stands place advances) (answer_law : Answered stands place gives) (start_law : Started stands place starts) (program : ProgramView) (code : CodeView) (n : ℕ) where
  abbrev moves : Drawn → List (PartSeen A) → List (PartSeen A) → Type 0
  moves = drawn_moves over place advances gives starts

  -- the parts stand for the state, with each agent over the code
  abbrev Stand : List (PartSeen A) → State → Type 0
  Stand = TableStands place (stands_over over code stands) program n

  -- a turn of the table is a step of the run
  pub turn_leads : (now : List (PartSeen A)) (s : State) (t : Turn (PartSeen A) Drawn) → HaveCode code now → Stand now s → TurnGoes drawn_touches moves now t
      → (s2 : State) × Steps program s (visible (turn_view t.event.what)) s2 × Stand (write now (drawn_touches t.event) t.after) s2
  turn_leads now s t have run g =
      let z = locality place (stands_over over code stands) (advances_over over code advances) (gives_over over code gives) (starts_over over code starts)
      (advanced_over over code place stands advances advance_law) (answered_over over code place stands gives answer_law) (started_over over code place stands starts start_law)
      program n (drawn_view t.event) (contents_at now) (map content_of t.before) (map content_of t.after) s run (reads_at now (drawn_touches t.event) t.before g.0) moved in
      (z.0, z.1, subst (λ (f : ℕ → Option (Content (TaskAgent A))). RunStands place (stands_over over code stands) program n f z.0) (sym whole) z.2) where
        whole : contents_at (write now (drawn_touches t.event) t.after) ≡ contents_written (contents_at now) (drawn_touches t.event) (map content_of t.after)
        whole = λ i k. written_at now (drawn_touches t.event) t.after (in_places now (drawn_touches t.event) t.before g.0) (drawn_apart t.event) k i

        moved : Moves place (advances_over over code advances) (gives_over over code gives) (starts_over over code starts) (drawn_view t.event) (map content_of t.before) (map content_of t.after)
        moved = subst (λ K. Moves place (advances_over over K advances) (gives_over over K gives) (starts_over over K starts) (drawn_view t.event) (map content_of t.before) (map content_of t.after)) (drawn_has over place advances gives starts code now t have g) g.1.1

  -- so the journal of a history leads to the state that the parts then stand for
  pub runs_on : (log : List (Turn (PartSeen A) Drawn)) (now last : List (PartSeen A)) (s : State) → HaveCode code now → Stand now s → Run drawn_touches moves now log last
      → (s2 : State) × Steps program s (shown_by log) s2 × Stand last s2
  runs_on [] now last s have run r = (s, refl, subst (λ (l : List (PartSeen A)). Stand l s) r run)
  runs_on (t ∷ ts) now last s have run r = let a = turn_leads now s t have run r.0 in
      let b = runs_on ts (write now (drawn_touches t.event) t.after) last a.0 (leaves_code over place advances gives starts code now t have r.0) a.2 r.1 in
      (b.0, steps_after program (visible (turn_view t.event.what)) (shown_by ts) s a.0 b.0 a.1 b.1, b.2)
