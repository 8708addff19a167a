-- Fresh hands make workers that are ready.
use Rattle.std.proofs.Common.{◌≡◌, ◌∙◌, ℕ, zero, suc, ◌+◌, ◌-◌, ◌<◌, ◌≤◌, List, [], ◌∷◌, ◌++◌, length, refl, sym, ap, subst, arith}
use Rattle.std.specs.Prelude.{All, None, Option, replicate, slice_index_or}
use lib.ListN.{get_elem?}
use Rattle.ca_term.specs.Program.{ProgramParts, ProgramView, program_view}
use Rattle.ca_meaning.specs.Body.{new_body}
use Rattle.ca_meaning.specs.Task.{BodyRest, TaskBody, script}
use Rattle.ca_states.specs.Code.{CodeView}
use Rattle.ca_turns.specs.Hands.{TableId}
use Rattle.ca_turns.specs.Places.{total}
use Rattle.ca_turns.proofs.Lists.{no_part}
use Rattle.ca_commit.specs.Opening.{unasked}
use Rattle.ca_commit.specs.Contents.{TimersPart}
use Rattle.ca_table.specs.Opening.{empty_bank, empty_shard, idle_lane, main_ready, none_ready, opening_list, seen_part}
use Rattle.ca_table.specs.Running.{Knows}
use Rattle.ca_table.specs.Seen.{PartSeen, seen_timers}
use Rattle.ca_table.specs.Workers.{AllAbove, IsNewWorker, IsReady, noted, part_count, stands_for}
use Rattle.ca_table.specs.declared.worker.Worker.{Worker}

long_rep : {X : Type 0} (k : ℕ) (x : X) (ys : List X) → length (replicate k x ++ ys) ≡ k + length ys
long_rep zero x ys = omega arith
long_rep (suc k) x ys = let e = long_rep k x ys in omega (arith, e)

long_replicate : {X : Type 0} (k : ℕ) (x : X) → length (replicate k x) ≡ k
long_replicate zero x = refl
long_replicate (suc k) x = ap suc (long_replicate k x)

module _ {A C : Type 0} (over : CodeView → A → Type 0) (stands : ProgramView → A → TaskBody → Type 0) (texts : ProgramParts) (code : CodeView) (n : ℕ) (id : TableId) (cs : List (PartSeen A)) where
  ready : (w : Worker A C) → id.slots ≡ part_count n → n ≤ 16 → Knows over stands (program_view texts) code n w.hand.view → IsNewWorker (program_view texts) code n id cs n w → IsReady over stands (program_view texts) code id n w
  ready w slots few knows new = record {
    one = record {
      table = new.fresh.table;
      slots = slots;
      of = new.of;
      few = few;
      below = new.below;
      of_program = new.of_program;
      of_code = new.of_code;
      knows = knows;
      opened_for = new.fresh.opened_for;
      above = subst (λ ts. AllAbove 0 ts) (sym new.fresh.turns) tt;
      notes = new.notes ∙ sym (ap noted new.fresh.turns);
      left = λ alone. record { long = ap length new.fresh.held ∙ long_replicate (length cs) None ∙ sym (ap length new.fresh.opening); held = λ i c e. absurd (no_part (length cs) i c (sym (ap (λ l. get_elem? l i) new.fresh.held) ∙ e)) };
    };
    nothing = λ i x e. no_part (length cs) i x (sym (ap (λ l. get_elem? l i) new.fresh.parts) ∙ e);
  }

  -- new workers of a table with the opening parts are ready
  pub all_ready : (main : A) (body : TaskBody) (least faults : ℕ) (readings : Option (List ℕ)) → BodyRest (program_view texts) (script (new_body (program_view texts).main)) body → stands (program_view texts) main body → over code main → cs ≡ opening_list n code texts main (unasked least faults readings) → 0 < n → n ≤ 16 → id.slots ≡ part_count n
      → (ws : List (Worker A C)) → All (IsNewWorker (program_view texts) code n id cs n) ws → All (IsReady over stands (program_view texts) code id n) ws
  all_ready main body least faults readings opens st at_code is more few slots ws h k d lt = let new = h k d lt in
      ready (slice_index_or ws k d) slots few (record { texts = texts; is_program = refl; main = main; body = body; opens = opens; stands_for = st; is_over = at_code; least = least; faults = faults; readings = readings; opening = new.fresh.opening ∙ is; some = more }) new

-- each of new workers stands for one hand
pub one_each : {A C : Type 0} (program : ProgramView) (code : CodeView) (n : ℕ) (id : TableId) (cs : List (PartSeen A)) (hands : ℕ) (ws : List (Worker A C)) → All (IsNewWorker program code n id cs hands) ws → total stands_for ws ≡ length ws
one_each program code n id cs hands [] h = refl
one_each program code n id cs hands (w ∷ ws) h = let first = h 0 w (omega arith) in let a = first.fresh.stands_for_one in let b = one_each program code n id cs hands ws (λ k d lt. h (suc k) d (omega (arith, lt))) in omega (arith, a, b)

pub for_one : {A C : Type 0} (program : ProgramView) (code : CodeView) (n : ℕ) (id : TableId) (cs : List (PartSeen A)) (hands : ℕ) (ws : List (Worker A C)) → All (IsNewWorker program code n id cs hands) ws → All (λ w. stands_for w ≡ 1) ws
for_one program code n id cs hands ws h k d lt = (h k d lt).fresh.stands_for_one

-- so many parts
pub long_list : {A : Type 0} (code : CodeView) (texts : ProgramParts) (n : ℕ) (main : A) (clock : TimersPart) → 0 < n → length (opening_list n code texts main clock) ≡ part_count n
long_list {A} code texts n main clock more =
    let a = long_rep n (idle_lane {A = A} n code texts) (replicate 16 (empty_bank n code) ++ (replicate 16 (empty_shard n code) ++ after)) in
    let b = long_rep 16 (empty_bank {A = A} n code) (replicate 16 (empty_shard n code) ++ after) in
    let c = long_rep 16 (empty_shard {A = A} n code) after in
    let d = long_replicate (n - 1) (none_ready {A = A} n code) in
    omega (arith, a, b, c, d, more) where
      after : List (PartSeen A)
      after = seen_part n code (seen_timers clock) ∷ (main_ready n code main ∷ replicate (n - 1) (none_ready n code))

-- of a list and one more
pub all_before : {X : Type 0} (P : X → Type 0) (xs : List X) (x : X) → All P (xs ++ x ∷ []) → All P xs
all_before P [] x h k d lt = absurd (omega (arith, lt))
all_before P (y ∷ ys) x h zero d lt = h 0 d (omega arith)
all_before P (y ∷ ys) x h (suc k) d lt = all_before P ys x (λ k d lt. h (suc k) d (omega (arith, lt))) k d (omega (arith, lt))

pub last_one : {X : Type 0} (P : X → Type 0) (xs : List X) (x : X) → All P (xs ++ x ∷ []) → P x
last_one P [] x h = h 0 x (omega arith)
last_one P (y ∷ ys) x h = last_one P ys x (λ k d lt. h (suc k) d (omega (arith, lt)))
