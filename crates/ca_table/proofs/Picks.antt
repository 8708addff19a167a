-- A lane and a ready part that a silent event moved.
use Rattle.std.proofs.Common.{◌≡◌, ◌≢◌, ◌∙◌, ℕ, List, [], ◌∷◌, ◌++◌, refl, sym, ap, subst, Bool, true, false, cond, Option, Some, None, eqb, eq-eqb, ne_eqb, is_some}
use Rattle.std.specs.Prelude.{option_map}
use Rattle.ca_value.specs.Tree.{Tree}
use Rattle.ca_term.specs.Operation.{SeedView}
use Rattle.ca_term.specs.Program.{ProgramView, program_view}
use Rattle.ca_meaning.specs.Body.{At}
use Rattle.ca_states.specs.Code.{CodeView}
use Rattle.ca_states.specs.declared.valid_code.ValidCode.{ValidCode}
use Rattle.ca_commit.specs.Agents.{TaskAgent}
use Rattle.ca_commit.specs.Contents.{Content}
use Rattle.ca_commit.specs.Gathered.{Alike}
use Rattle.ca_commit.specs.Moves.{Becomes}
use Rattle.ca_commit.specs.SilentMoves.{SameLane, StayPut}
use Rattle.ca_commit.specs.Tasks.{agent_of, task_view, tasks_in}
use Rattle.ca_commit.specs.Touched.{picks, stalls, yields}
use Rattle.ca_commit.specs.declared.task.Ready.{Ready}
use Rattle.ca_commit.specs.declared.task.Task.{Task}
use Rattle.ca_table.specs.Carriers.{IsMoved, LaneBox, both_back, is_now, part_of_ready, was}
use Rattle.ca_table.specs.Carrying.{Carries, EachCarried, carried, each_by, lane_place, nothing_carried, ready_place, with_at}
use Rattle.ca_table.specs.Covering.{plain_drawn}
use Rattle.ca_table.specs.Grips.{settled_one}
use Rattle.ca_table.specs.Parts.{counts_view, lane_seen, part_of, part_seen}
use Rattle.ca_table.specs.Seen.{PartSeen, lane_of_seen}
use Rattle.ca_table.specs.Workers.{part_of_lane}
use Rattle.ca_table.specs.declared.part.Contents.TheVariants as V
use Rattle.ca_table.specs.declared.part.Lane.{Lane}
use Rattle.ca_table.specs.declared.part.Part.{Part}
use Rattle.ca_table.proofs.Becoming.{lane_becomes, ready_becomes}
use Rattle.ca_table.proofs.Carried.{each_by_with, each_nothing, each_with}

pub some_none : {X : Type 0} (o : Option X) (x : X) → o ≡ None → o ≡ Some x → ⊥
some_none o x e f = let z : None ≡ Some x = sym e ∙ f in cc

pub some_same : {X : Type 0} (x y : X) → Some x ≡ Some y → x ≡ y
some_same x y e = cc

no_stall : (r : ℕ) → picks r ≢ stalls
no_stall r e = cc

yields_on : yields ≢ stalls
yields_on e = cc

named_there : {X : Type 0} (b : Bool) (x : X) → b ≡ is_some (cond b (Some x) None)
named_there true x = refl
named_there false x = refl

module _ {A C : Type 0} (over : CodeView → A → Type 0) (place : A → At) (advances : ProgramView → A → A → Type 0) (gives : A → Tree → A → Type 0) (starts : ProgramView → SeedView → A → Type 0) (least faults : C → ℕ) (readings : C → Option (List ℕ))
    (code : ValidCode) (n w at : ℕ) (l : Lane A) (q : List (ℕ × TaskAgent A)) (lane : LaneBox A) (ready : Ready A) where
  abbrev seen : Part A C → PartSeen A
  seen = part_seen least faults readings

  abbrev back : Carries (Part A C × PartSeen A)
  back = both_back n code at l q lane ready

  abbrev lane_part : Part A C × PartSeen A
  lane_part = (part_of n code (V.Lane lane), part_of_lane n code l)

  abbrev part_ready : Part A C × PartSeen A
  part_ready = (part_of n code (V.Ready ready), part_of_ready n code q)

  abbrev now_in : Part A C × PartSeen A → Content (TaskAgent A)
  now_in = is_now seen

  alike : EachCarried (λ x. Alike n (was x) (now_in x)) back
  alike = each_with (λ x. Alike n (was x) (now_in x)) (ready_place at) part_ready (with_at lane_place (Some lane_part) nothing_carried) (refl, refl, refl)
      (each_with (λ x. Alike n (was x) (now_in x)) lane_place lane_part nothing_carried (refl, refl, refl) (each_nothing (λ x. Alike n (was x) (now_in x))))

  lanes : Becomes (carried was w back).lane (carried now_in w back).lane w (lane_of_seen (lane_seen l)) (lane_of_seen (lane_seen lane.value))
  lanes = lane_becomes was now_in w back lane_part (lane_of_seen (lane_seen l)) (lane_of_seen (lane_seen lane.value)) refl refl refl

  readys : Becomes (carried was w back).ready (carried now_in w back).ready at q (tasks_in ready)
  readys = ready_becomes was now_in w back at part_ready q (tasks_in ready) (ap (λ b. cond b (Some part_ready) None) (eq-eqb at at refl)) refl refl
      (λ i x ne e. absurd (let none : None ≡ Some x = sym (ap (λ b. cond b (Some part_ready) None) (ne_eqb at i (λ k. ne (sym k)))) ∙ e in cc))

  -- once both are settled
  pub settled_back : each_by (settled_one seen) back ≡ with_at (ready_place at) (Some (part_of n code (V.Ready ready), part_of_ready n code (tasks_in ready))) (with_at lane_place (Some (part_of n code (V.Lane lane), part_of_lane n code lane.value)) nothing_carried)
  settled_back = each_by_with (settled_one seen) (ready_place at) (Some part_ready) (with_at lane_place (Some lane_part) nothing_carried)

  put : StayPut (carried was w back) (carried now_in w back)
  put = record { banks = λ i. refl; registries = λ i. refl; shards = λ i. refl; timers = refl }

  same_lane : lane.value.program ≡ l.program → lane.value.counts ≡ l.counts → SameLane (lane_of_seen (lane_seen l)) (lane_of_seen (lane_seen lane.value))
  same_lane p k = (ap (λ p. program_view p.value) p, ap counts_view k)

  pub picked : (t : Task A) → l.task ≡ None → lane.value.task ≡ Some t → lane.value.since ≡ 0 → lane.value.program ≡ l.program → lane.value.counts ≡ l.counts → q ≡ task_view t ∷ tasks_in ready → IsMoved over place advances gives starts seen code n w (plain_drawn w n (picks at)) back
  picked t free has since p k first = record {
    by = refl;
    of = refl;
    covers = record { some = no_stall at; lane = refl; banks = λ i lt. refl; shards = λ i lt. refl; timers = refl; ready = λ r. named_there (eqb at r) part_ready };
    alike = alike;
    moves = record {
      lane = lane_of_seen (lane_seen l);
      lane2 = lane_of_seen (lane_seen lane.value);
      x = task_view t;
      rest = tasks_in ready;
      lanes = lanes;
      empty = ap (option_map task_view) free;
      task = ap (option_map task_view) has;
      since = since;
      same = same_lane p k;
      readys = subst (λ (z : List (ℕ × TaskAgent A)). Becomes (carried was w back).ready (carried now_in w back).ready at z (tasks_in ready)) first readys;
      others = put;
    };
  }

  pub yielded : (t : Task A) → at ≡ w → l.task ≡ Some t → lane.value.task ≡ None → lane.value.program ≡ l.program → lane.value.counts ≡ l.counts → tasks_in ready ≡ q ++ task_view t ∷ [] → IsMoved over place advances gives starts seen code n w (plain_drawn w n yields) back
  yielded t own has free p k last = record {
    by = refl;
    of = refl;
    covers = record { some = yields_on; lane = refl; banks = λ i lt. refl; shards = λ i lt. refl; timers = refl; ready = λ r. ap (λ (k : ℕ). eqb k r) (sym own) ∙ named_there (eqb at r) part_ready };
    alike = alike;
    moves = record {
      lane = lane_of_seen (lane_seen l);
      lane2 = lane_of_seen (lane_seen lane.value);
      t = t.number;
      agent = agent_of t;
      queue = q;
      lanes = lanes;
      task = ap (option_map task_view) has;
      empty = ap (option_map task_view) free;
      same = same_lane p k;
      readys = subst (λ (k : ℕ). Becomes (carried was w back).ready (carried now_in w back).ready k q (q ++ task_view t ∷ [])) own (subst (λ (z : List (ℕ × TaskAgent A)). Becomes (carried was w back).ready (carried now_in w back).ready at q z) last readys);
      others = put;
    };
  }
