-- A lone worker's drawn event, over all parts of the run.
use Rattle.std.proofs.Common.{◌≡◌, ℕ, ◌<◌, List, refl, sym, ◌∙◌, subst, arith, Option, Some, None}
use Rattle.ca_value.specs.Tree.{Tree}
use Rattle.ca_term.specs.Program.{ProgramView}
use Rattle.ca_term.specs.Operation.{SeedView}
use Rattle.ca_meaning.specs.Body.{At}
use Rattle.ca_commit.specs.Agents.{TaskAgent}
use Rattle.ca_commit.specs.Contents.{Content, LaneView, Parts}
use Rattle.ca_commit.specs.Gathered.{AllAlike, kind_at, kind_of_part, lane_of, parts_of, pick, sorted}
use Rattle.ca_commit.specs.Moving.{Moves, MovesTurn}
use Rattle.ca_commit.specs.Running.{AreAt, contents_written}
use Rattle.ca_commit.specs.Touched.{Drawn, touches}
use Rattle.ca_commit.proofs.Gathering.{alike_at, parts_in, parts_laid, picks_within}
use Rattle.ca_commit.proofs.Laid.{IsPart, laid_parts}

abbrev pub held_before : {A : Type 0} → Drawn → List (Content (TaskAgent A)) → Parts (TaskAgent A)
held_before d cs = parts_of 1 (pick (touches d) cs)

-- what is touched is part of all, moves as the event says, and what it leaves lies over all the others
pub record IsLaid {A : Type 0} (place : A → At) (advances : ProgramView → A → A → Type 0) (gives : A → Tree → A → Type 0) (starts : ProgramView → SeedView → A → Type 0) (d : Drawn) (now : ℕ → Option (Content (TaskAgent A))) (before after : List (Content (TaskAgent A))) : Type 0 where
  pub part : IsPart (held_before d before) (parts_of 1 now)
  pub turn : MovesTurn place advances gives starts 0 1 d.what (held_before d before) (held_before d after)
  pub over : parts_of 1 (contents_written now (touches d) after) ≡ laid_parts (parts_of 1 now) (held_before d after)

lane_there : {A : Type 0} (o : Option (Content A)) (l : LaneView A) → sorted lane_of o ≡ Some l → (c : Content A) × (o ≡ Some c)
lane_there {A} None l e = absurd (let k : None ≡ Some l = e in cc)
lane_there {A} (Some c) l e = (c, refl)

module _ {A : Type 0} (place : A → At) (advances : ProgramView → A → A → Type 0) (gives : A → Tree → A → Type 0) (starts : ProgramView → SeedView → A → Type 0) (d : Drawn) (now : ℕ → Option (Content (TaskAgent A))) (before after : List (Content (TaskAgent A)))
    (at : AreAt now (touches d) before) (m : Moves place advances gives starts d before after) where
  -- the event's lane tells how many workers there are
  pub lone_by_lane : ((i : ℕ) (c : Content (TaskAgent A)) → now i ≡ Some c → (c.workers ≡ 1) × (kind_of_part c.held ≡ kind_at 1 i)) → (l : LaneView (TaskAgent A)) → sorted lane_of (pick (touches d) after d.worker) ≡ Some l → d.workers ≡ 1
  lone_by_lane kinds l e = let c = lane_there (pick (touches d) after d.worker) l e in let b = alike_at d.workers now (touches d) before after at m.1 d.worker c.0 c.1 in
      sym b.2.0 ∙ (kinds d.worker b.0 b.1).0

  pub laid_over : d.workers ≡ 1 → IsLaid place advances gives starts d now before after
  laid_over one = record {
    part = parts_in 1 (pick (touches d) before) now (picks_within now (touches d) before at);
    turn = subst (λ w. MovesTurn place advances gives starts w 1 d.what (held_before d before) (held_before d after)) zero
        (subst (λ n. MovesTurn place advances gives starts d.worker n d.what (parts_of n (pick (touches d) before)) (parts_of n (pick (touches d) after))) one m.2);
    over = parts_laid 1 now (touches d) before after at (subst (λ n. AllAlike n before after) one m.1);
  } where
    zero : d.worker ≡ 0
    zero = let lt : d.worker < 1 = subst (λ n. d.worker < n) one m.0 in omega (arith, lt)
