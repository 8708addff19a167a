-- Valid code that differs only in what it moves stands for the same programs.
use Rattle.std.proofs.Common.{◌≡◌, ℕ, zero, suc, ◌<◌, List, [], ◌∷◌, true, sym, ap, ◌∙◌, subst, arith}
use Rattle.std.proofs.lemmas.Bool.{ltb-true}
use Rattle.std.specs.Prelude.{nat_lt, slice_index_or}
use Rattle.ca_value.specs.Tree.{Tree}
use Rattle.ca_term.specs.Program.{ProgramView}
use Rattle.ca_meaning.specs.Body.{BodyView, fill}
use Rattle.ca_states.specs.declared.code.EntryPoint.{EntryPoint}
use Rattle.ca_states.specs.Code.{BlockView, CodeView, block_count, block_at, no_entry, function_at, body_entry}
use Rattle.ca_states.specs.Machine.{read, slot_written, begun, begun_at, RunnerState, Move, runner_started, outermost, calling}
use Rattle.ca_states.specs.Valid.{each, are_just, begins_well, main_entry, is_valid}
use Rattle.ca_states.proofs.RowLaws.{both}
use Rattle.ca_states.proofs.Calling.{identity_room}
use Rattle.ca_states.proofs.StandingLaws.{ValidParts, valid_parts}
use Rattle.ca_lower.specs.Lowered.{After, AreAlike, StandsFor, Lowered}
use Rattle.ca_moves.specs.Plain.{plain_code}
use Rattle.ca_moves.proofs.Twins.{StatesAlike, alike, no_frames, one_frame, Twin, both_go, both_end, both_fault, both_wait, plain_at, plain_begun, twin_move}

module _ (P : ProgramView) where
  to_moved : {D : CodeView} (G H : RunnerState → BodyView → Type 0) → ((c d : RunnerState) (b : BodyView) → StatesAlike D c d → G c b → H d b) → {m k : Move} (b : BodyView) → Twin D m k → After P G m b → After P H k b
  to_moved G H h b (both_go c d a) g = h c d b a g
  to_moved G H h b (both_end v turns) g = g
  to_moved G H h b (both_fault f p turns) g = g
  to_moved G H h b (both_wait w answer c d e a) g = (g.0, g.1, g.2, g.3 ∙ e, λ v. h _ _ (fill v g.0) (a v) (g.4 v))

  to_plain : {D : CodeView} (G H : RunnerState → BodyView → Type 0) → ((c d : RunnerState) (b : BodyView) → StatesAlike D c d → H d b → G c b) → {m k : Move} (b : BodyView) → Twin D m k → After P H k b → After P G m b
  to_plain G H h b (both_go c d a) g = h c d b a g
  to_plain G H h b (both_end v turns) g = g
  to_plain G H h b (both_fault f p turns) g = g
  to_plain G H h b (both_wait w answer c d e a) g = (g.0, g.1, g.2, g.3 ∙ sym e, λ v. h _ _ (fill v g.0) (a v) (g.4 v))

  module _ (D : CodeView) (valid : ValidParts D) where
    alike_moved : (n : ℕ) (c d : RunnerState) (b : BodyView) → StatesAlike D c d → AreAlike P (plain_code D) n c b → AreAlike P D n d b
    alike_moved zero c d b a g = tt
    alike_moved (suc n) c d b a g = to_moved (AreAlike P (plain_code D) n) (AreAlike P D n) (alike_moved n) b (twin_move D valid a) g

    alike_plain : (n : ℕ) (c d : RunnerState) (b : BodyView) → StatesAlike D c d → AreAlike P D n d b → AreAlike P (plain_code D) n c b
    alike_plain zero c d b a g = tt
    alike_plain (suc n) c d b a g = to_plain (AreAlike P (plain_code D) n) (AreAlike P D n) (alike_plain n) b (twin_move D valid a) g

    -- a start is like itself
    start_alike : (e : EntryPoint) → e.block < block_count D → (vs : List Tree) → StatesAlike D (runner_started (plain_code D) e vs) (runner_started D e vs)
    start_alike e lt vs = alike e.block (begun_at (plain_code D) e vs) (begun_at D e vs) [] [] 0 lt (λ k is. ap (λ u. read u k) (plain_begun D e vs)) no_frames

    to_moved_one : {c d : RunnerState} → StatesAlike D c d → (b : BodyView) → StandsFor P (plain_code D) c b → StandsFor P D d b
    to_moved_one {c} {d} a b g = record { alike = λ n. alike_moved n c d b a (g.alike n) }

    to_plain_one : {c d : RunnerState} → StatesAlike D c d → (b : BodyView) → StandsFor P D d b → StandsFor P (plain_code D) c b
    to_plain_one {c} {d} a b g = record { alike = λ n. alike_plain n c d b a (g.alike n) }

    stands_moved : (e : EntryPoint) → e.block < block_count D → (vs : List Tree) (b : BodyView) → StandsFor P (plain_code D) (runner_started (plain_code D) e vs) b → StandsFor P D (runner_started D e vs) b
    stands_moved e lt vs b g = to_moved_one (start_alike e lt vs) b g

    stands_plain : (e : EntryPoint) → e.block < block_count D → (vs : List Tree) (b : BodyView) → StandsFor P D (runner_started D e vs) b → StandsFor P (plain_code D) (runner_started (plain_code D) e vs) b
    stands_plain e lt vs b g = to_plain_one (start_alike e lt vs) b g

    main_there : D.main < block_count D
    main_there = ltb-true D.main (block_count D) (both (nat_lt D.main (block_count D)) (are_just 0 (block_at D D.main).entry) valid.main).0

    -- a function that is called by itself goes like itself
    calling_alike : (n : ℕ) → (function_at D n).block < block_count D → (vs : List Tree) → StatesAlike D (calling (plain_code D) n vs) (calling D n vs)
    calling_alike n lt vs =
        let e = function_at D n in
        let s = (outermost (plain_code D)).slots in
        let t = (outermost D).slots in
        let same : s ≡ t = ap (λ (b : BlockView). begun b.width []) (plain_at D.blocks D.identity) in
        alike e.block (begun_at (plain_code D) e vs) (begun_at D e vs) (outermost (plain_code D) ∷ []) (outermost D ∷ []) 1 lt (λ k is. ap (λ u. read u k) (plain_begun D e vs))
        (one_frame D.identity 0 s t [] [] (identity_room D valid).0 (λ v k is. ap (λ u. read (slot_written u 0 v) k) same) no_frames)

    -- where a text begins; past the last one the code begins at block 0
    entry_there : (es : List EntryPoint) → each (begins_well D) es ≡ true → (n : ℕ) → (slice_index_or es n no_entry).block < block_count D
    entry_there [] h n = let lt = main_there in omega (arith, lt)
    entry_there (e ∷ es) h zero = ltb-true e.block (block_count D) (both (nat_lt e.block (block_count D)) (are_just e.values (block_at D e.block).entry) (both (begins_well D e) (each (begins_well D) es) h).0).0
    entry_there (e ∷ es) h (suc n) = entry_there es (both (begins_well D e) (each (begins_well D) es) h).1 n

    lowered_moved : Lowered P (plain_code D) → Lowered P D
    lowered_moved low = record {
      main = stands_moved (main_entry D) main_there [] _ low.main;
      bodies = λ n vs lt len. stands_moved (body_entry D n) (entry_there D.bodies valid.bodies n) vs _ (low.bodies n vs lt len);
      functions = λ n vs lt len. stands_moved (function_at D n) (entry_there D.functions valid.functions n) vs _ (low.functions n vs lt len);
      calls = λ n v p start. to_moved_one (calling_alike n (entry_there D.functions valid.functions n) (v ∷ [])) _ (low.calls n v p start);
    }

    lowered_plain : Lowered P D → Lowered P (plain_code D)
    lowered_plain low = record {
      main = stands_plain (main_entry D) main_there [] _ low.main;
      bodies = λ n vs lt len. stands_plain (body_entry D n) (entry_there D.bodies valid.bodies n) vs _ (low.bodies n vs lt len);
      functions = λ n vs lt len. stands_plain (function_at D n) (entry_there D.functions valid.functions n) vs _ (low.functions n vs lt len);
      calls = λ n v p start. to_plain_one (calling_alike n (entry_there D.functions valid.functions n) (v ∷ [])) _ (low.calls n v p start);
    }

pub moved : (P : ProgramView) (C D : CodeView) → is_valid C ≡ true → is_valid D ≡ true → plain_code C ≡ plain_code D → Lowered P C → Lowered P D
moved P C D vc vd e low = lowered_moved P D (valid_parts D vd) (subst (Lowered P) e (lowered_plain P C (valid_parts C vc) low))
