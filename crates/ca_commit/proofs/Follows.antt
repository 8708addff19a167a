-- What workers draw one after the other, whoever draws it, is a run.
use Rattle.std.proofs.Common.{ℕ, ◌<◌, List, [], ◌∷◌, ◌++◌, refl, sym, subst, Option}
use Rattle.ca_value.specs.Tree.{Tree}
use Rattle.ca_term.specs.Program.{ProgramView}
use Rattle.ca_term.specs.Operation.{SeedView}
use Rattle.ca_term.specs.Event.{EventView}
use Rattle.ca_meaning.specs.Body.{At, new_body}
use Rattle.ca_meaning.specs.Legal.{Reaches}
use Rattle.ca_meaning.specs.Task.{TaskBody, script, BodyRest}
use Rattle.ca_meaning.specs.State.{State, opening_state}
use Rattle.ca_meaning.specs.Steps.{Steps}
use Rattle.ca_agent.specs.Agents.{Advanced, Answered, Started}
use Rattle.ca_commit.specs.Agents.{TaskAgent}
use Rattle.ca_commit.specs.Contents.{Content}
use Rattle.ca_commit.specs.Histories.{Entry, EntriesFollow, journal}
use Rattle.ca_commit.specs.Moving.{visible}
use Rattle.ca_commit.specs.Opening.{opening_parts, unasked}
use Rattle.ca_commit.specs.Running.{RunStands, contents_written}
use Rattle.ca_commit.specs.Touched.{touches}
use Rattle.ca_commit.proofs.Locality.{locality}
use Rattle.ca_commit.proofs.Opens.{opens}

steps_after : (program : ProgramView) (es fs : List EventView) (s s2 s3 : State) → Steps program s es s2 → Steps program s2 fs s3 → Steps program s (es ++ fs) s3
steps_after program [] fs s s2 s3 a b = subst (λ (z : State). Steps program z fs s3) a b
steps_after program (e ∷ es) fs s s2 s3 a b = (a.0, a.1, steps_after program es fs a.0 s2 s3 a.2 b)

module _ {A : Type 0} (place : A → At) (stands : ProgramView → A → TaskBody → Type 0) (advances : ProgramView → A → A → Type 0) (gives : A → Tree → A → Type 0) (starts : ProgramView → SeedView → A → Type 0)
    (advance_law : Advanced stands place advances) (answer_law : Answered stands place gives) (start_law : Started stands place starts) (program : ProgramView) (n : ℕ) where
  follows : (now last : ℕ → Option (Content (TaskAgent A))) (es : List (Entry A)) (s : State) → RunStands place stands program n now s → EntriesFollow place advances gives starts now es last → (s2 : State) × Steps program s (journal es) s2 × RunStands place stands program n last s2
  follows now last [] s run f = (s, refl, subst (λ (x : ℕ → Option (Content (TaskAgent A))). RunStands place stands program n x s) (sym f) run)
  follows now last (e ∷ es) s run f = let k = locality place stands advances gives starts advance_law answer_law start_law program n e.drawn now e.before e.after s run f.0 f.1 in
      let r = follows (contents_written now (touches e.drawn) e.after) last es k.0 k.2 f.2 in (r.0, steps_after program (visible e.drawn.what) (journal es) s k.0 r.0 k.1 r.1, r.2)

  pub run_from_opening : (main : A) (body : TaskBody) (least faults : ℕ) (readings : Option (List ℕ)) (es : List (Entry A)) (last : ℕ → Option (Content (TaskAgent A))) → 0 < n → BodyRest program (script (new_body program.main)) body → stands program main body
      → EntriesFollow place advances gives starts (opening_parts n program main (unasked least faults readings)) es last → (s : State) × Reaches program (journal es) s × RunStands place stands program n last s
  run_from_opening main body least faults readings es last some rest st f =
      let k = follows (opening_parts n program main (unasked least faults readings)) last es (opening_state body) (opens place stands n program main body (unasked least faults readings) some st refl refl) f in
      (k.0, record { opening = opening_state body; opens = (body, rest, refl); steps = k.1 }, k.2)
