-- Valid code goes as its plain code does: what a moved slot holds is never looked at.
use Rattle.std.proofs.Common.{◌≡◌, ℕ, zero, suc, ◌+◌, ◌<◌, ◌≤◌, List, [], ◌∷◌, length, map, Bool, true, false, refl, sym, ap, ◌∙◌, subst, arith, cond, ◌&&◌}
use Rattle.std.proofs.lemmas.Bool.{eqb-true, eqb-false, ltb-true}
use Rattle.std.specs.Prelude.{◌==◌, nat_lt, slice_index_or, Result, Ok, Err}
use Rattle.ca_value.specs.Tree.{Tree, int, trees_of}
use Rattle.ca_value.specs.Outcome.{Outcome}
use Rattle.ca_term.specs.declared.place.Place.{Place}
use Rattle.ca_term.specs.declared.fault.Fault.{Fault}
use Rattle.ca_term.specs.declared.fault.Fault.TheVariants.{Spun, TooDeep}
use Rattle.ca_term.specs.Asking.{task_fault, asked}
use Rattle.ca_term.specs.Operands.{truth}
use Rattle.ca_term.specs.Operation.{OpView, WantView}
use Rattle.ca_term.specs.Turns.{is_spun, is_too_deep}
use Rattle.ca_states.specs.declared.code.EntryPoint.{EntryPoint}
use Rattle.ca_states.specs.declared.code.Exit.{Exit}
use Rattle.ca_states.specs.declared.code.Exit.TheVariants.{Jump, Branch, Test, TestInt, Call, Return, Cut}
use Rattle.ca_states.specs.Code.{Slots, has_slot, Instruction, constant, copying, moving, clearing, one, two, two_int, pushing, putting, many, BlockView, CodeView, block_count, block_at, no_block, function_at}
use Rattle.ca_states.specs.Machine.{read, slot_written, reads, slot_taken, taken_all, slots_from, Effect, effect, slot_answered, builtin_applied, Frame, RunnerState, Move, goes, ends, faults, waits, begun, begun_at, turned, test_answered, called, returned, waits_or_faults, leaves, went, runs_block, move, resumed}
use Rattle.ca_states.specs.Touched.{read_by, read_at, targets}
use Rattle.ca_states.specs.Valid.{KnownSlots, each, is_counted_exit, is_target, is_in_range, leads_forward, slot_noted, noted_all, after_instruction, known_after, reads_known, known_past, implies, are_entry_slots_known, targets_known, knows_slots, is_valid_block}
use Rattle.ca_states.proofs.RowLaws.{both}
use Rattle.ca_states.proofs.StandingLaws.{ValidParts, block_parts, takes_room}
use Rattle.ca_moves.specs.Plain.{plain_instruction, exit_tests, untested, plain_instrs, plain_block, plain_code}
use Rattle.ca_moves.proofs.Agreeing.{Agree, agree_write, agree_one_taken, agree_one_written, agree_taken_all, read_same, reads_agree, EffectsAlike, both_done, both_failed, effects_agree}

each_from : (f : ℕ → Bool) (a n k : ℕ) → each f (slots_from a n) ≡ true → a ≤ k → k < a + n → f k ≡ true
each_from f a zero k h le lt = absurd (omega (arith, le, lt))
each_from f a (suc n) k h le lt =
    let z = both (f a) (each f (slots_from (suc a) n)) h in
    by (k == a) refl z.0 (λ ne. each_from f (suc a) n k z.1 (omega (arith, le, ne)) (omega (arith, lt)))
  where
    by : (b : Bool) → (k == a) ≡ b → f a ≡ true → ((k ≡ a → ⊥) → f k ≡ true) → f k ≡ true
    by true e first more = subst (λ j. f j ≡ true) (sym (eqb-true k a e)) first
    by false e first more = more (eqb-false k a e)

-- entry slots that are known
pub entries_known : (K : KnownSlots) (S : Slots) → are_entry_slots_known K S ≡ true → (k : ℕ) → has_slot S k ≡ true → K k ≡ true
entries_known K S h k is =
    let lt : k < S.below = ltb-true k S.below (both (nat_lt k S.below) _ is).0 in
    implied (has_slot S k) (K k) (each_from (λ j. implies (has_slot S j) (K j)) 0 S.below k h (omega arith) (omega (arith, lt))) is
  where
    implied : (a b : Bool) → implies a b ≡ true → a ≡ true → b ≡ true
    implied true b h is = h
    implied false b h is = absurd (let g : false ≡ true = is in cc)

-- calls that go on alike, whatever comes back
pub data FramesAlike (D : CodeView) : List Frame → List Frame → Type 0 where
  no_frames : FramesAlike D [] []
  one_frame : (next answer : ℕ) (s t : List Tree) (F G : List Frame) → next < block_count D → ((v : Tree) → Agree (has_slot (block_at D next).entry) (slot_written s answer v) (slot_written t answer v)) → FramesAlike D F G
      → FramesAlike D (record { next = next; answer = answer; slots = s } ∷ F) (record { next = next; answer = answer; slots = t } ∷ G)

frame_count : {D : CodeView} {F G : List Frame} → FramesAlike D F G → length F ≡ length G
frame_count no_frames = refl
frame_count (one_frame next answer s t F G lt a r) = ap suc (frame_count r)

abbrev pub standing : ℕ → List Tree → List Frame → ℕ → RunnerState
standing n s F turns = record { block = n; slots = s; frames = F; turns = turns }

-- at the same block, and the same in its entry slots
pub data StatesAlike (D : CodeView) : RunnerState → RunnerState → Type 0 where
  alike : (n : ℕ) (s t : List Tree) (F G : List Frame) (turns : ℕ) → n < block_count D → Agree (has_slot (block_at D n).entry) s t → FramesAlike D F G → StatesAlike D (standing n s F turns) (standing n t G turns)

-- moves of one kind, with the same values
pub data Twin (D : CodeView) : Move → Move → Type 0 where
  both_go : (c d : RunnerState) → StatesAlike D c d → Twin D (goes c) (goes d)
  both_end : (v : Tree) (turns : ℕ) → Twin D (ends v turns) (ends v turns)
  both_fault : (f : Fault) (p : Place) (turns : ℕ) → Twin D (faults f p turns) (faults f p turns)
  both_wait : (w : WantView) (answer : ℕ) (c d : RunnerState) → c.turns ≡ d.turns → ((v : Tree) → StatesAlike D (resumed v answer c) (resumed v answer d)) → Twin D (waits w answer c) (waits w answer d)

twin_cond : {D : CodeView} (b : Bool) (m k m2 k2 : Move) → Twin D m m2 → Twin D k k2 → Twin D (cond b m k) (cond b m2 k2)
twin_cond true m k m2 k2 p q = p
twin_cond false m k m2 k2 p q = q

twin_turned : {D : CodeView} (turns : ℕ) (p : Place) (m k : Move) → Twin D m k → Twin D (turned turns p m) (turned turns p k)
twin_turned turns p m k t = twin_cond (is_spun turns) _ _ _ _ (both_fault Spun p turns) t

-- a block's plain one stands at the same number
pub plain_at : (bs : List BlockView) (n : ℕ) → slice_index_or (map plain_block bs) n no_block ≡ plain_block (slice_index_or bs n no_block)
plain_at [] n = refl
plain_at (b ∷ bs) zero = refl
plain_at (b ∷ bs) (suc n) = plain_at bs n

pub plain_begun : (D : CodeView) (e : EntryPoint) (vs : List Tree) → begun_at (plain_code D) e vs ≡ begun_at D e vs
plain_begun D e vs = ap (λ (b : BlockView). begun b.width vs) (plain_at D.blocks e.block)

module _ (D : CodeView) (valid : ValidParts D) where
  abbrev C : CodeView
  C = plain_code D

  target_there : (w n : ℕ) → is_target D w n ≡ true → n < block_count D
  target_there w n h = ltb-true n (block_count D) (both (nat_lt n (block_count D)) ((block_at D n).width == w) h).0

  goes_alike : (K : KnownSlots) (w next : ℕ) (s t : List Tree) (F G : List Frame) (turns : ℕ) → is_target D w next ≡ true → are_entry_slots_known K (block_at D next).entry ≡ true → Agree K s t → FramesAlike D F G
      → Twin D (goes (standing next s F turns)) (goes (standing next t G turns))
  goes_alike K w next s t F G turns there known a f =
      both_go _ _ (alike next s t F G turns (target_there w next there) (λ k is. a k (entries_known K (block_at D next).entry known k is)) f)

  either_alike : (K : KnownSlots) (w yes_to no_to : ℕ) (s t : List Tree) (F G : List Frame) (turns : ℕ) → each (is_target D w) (yes_to ∷ no_to ∷ []) ≡ true → each (λ n. are_entry_slots_known K (block_at D n).entry) (yes_to ∷ no_to ∷ []) ≡ true → Agree K s t → FramesAlike D F G
      → (b : Bool) → Twin D (goes (standing (cond b yes_to no_to) s F turns)) (goes (standing (cond b yes_to no_to) t G turns))
  either_alike K w yes_to no_to s t F G turns there known a f b =
      let th = both (is_target D w yes_to) (each (is_target D w) (no_to ∷ [])) there in
      let kn = both (are_entry_slots_known K (block_at D yes_to).entry) (each (λ n. are_entry_slots_known K (block_at D n).entry) (no_to ∷ [])) known in
      by b th.0 (both (is_target D w no_to) true th.1).0 kn.0 (both (are_entry_slots_known K (block_at D no_to).entry) true kn.1).0
    where
      by : (b : Bool) → is_target D w yes_to ≡ true → is_target D w no_to ≡ true → are_entry_slots_known K (block_at D yes_to).entry ≡ true → are_entry_slots_known K (block_at D no_to).entry ≡ true
          → Twin D (goes (standing (cond b yes_to no_to) s F turns)) (goes (standing (cond b yes_to no_to) t G turns))
      by true ty tn ky kn = goes_alike K w yes_to s t F G turns ty ky a f
      by false ty tn ky kn = goes_alike K w no_to s t F G turns tn kn a f

  -- after a call's value or an operation's answer
  answered_alike : (K : KnownSlots) (next answer a n : ℕ) (s t : List Tree) → are_entry_slots_known (slot_noted true answer (noted_all false (slots_from a n) K)) (block_at D next).entry ≡ true → Agree K s t
      → (v : Tree) → Agree (has_slot (block_at D next).entry) (slot_written (taken_all s (slots_from a n)) answer v) (slot_written (taken_all t (slots_from a n)) answer v)
  answered_alike K next answer a n s t known h v k is =
      agree_write (noted_all false (slots_from a n) K) (taken_all s (slots_from a n)) (taken_all t (slots_from a n)) answer v (agree_taken_all (slots_from a n) K s t h) k
      (entries_known (slot_noted true answer (noted_all false (slots_from a n) K)) (block_at D next).entry known k is)

  returned_alike : {F G : List Frame} (v : Tree) (turns : ℕ) → FramesAlike D F G → Twin D (returned v F turns) (returned v G turns)
  returned_alike v turns no_frames = both_end v turns
  returned_alike v turns (one_frame next answer s t F G lt a r) = both_go _ _ (alike next (slot_written s answer v) (slot_written t answer v) F G turns lt (a v) r)

  -- a test, and the instruction and the branch that it stands for
  tests_alike : (K : KnownSlots) (w n to yes_to no_to : ℕ) (p : Place) (s t : List Tree) (F G : List Frame) (turns : ℕ) → each (is_target D w) (yes_to ∷ no_to ∷ []) ≡ true → each (λ m. are_entry_slots_known (slot_noted false to K) (block_at D m).entry) (yes_to ∷ no_to ∷ []) ≡ true → Agree K s t → FramesAlike D F G
      → (o u : Outcome) → o ≡ u → Twin D (went (slot_answered s to p o) (standing n s F turns) (leaves C (Branch to yes_to no_to))) (test_answered p (standing n t G turns) yes_to no_to u)
  tests_alike K w n to yes_to no_to p s t F G turns there known a f o u e =
      subst (λ x. Twin D (went (slot_answered s to p o) (standing n s F turns) (leaves C (Branch to yes_to no_to))) (test_answered p (standing n t G turns) yes_to no_to x)) e (by o)
    where
      by : (o : Outcome) → Twin D (went (slot_answered s to p o) (standing n s F turns) (leaves C (Branch to yes_to no_to))) (test_answered p (standing n t G turns) yes_to no_to o)
      by (Ok v) =
          subst (λ x. Twin D (goes (standing (cond (truth x) yes_to no_to) (slot_written s to v) F turns)) (goes (standing (cond (truth v) yes_to no_to) t G turns))) (sym (read_same s to v))
          (either_alike (slot_noted false to K) w yes_to no_to (slot_written s to v) t F G turns there known (agree_one_written K s t to v a) f (truth v))
      by (Err g) = both_fault (task_fault g) p turns

  -- the block is left
  twin_leaves : (x : Exit) (K : KnownSlots) (w n : ℕ) (s t : List Tree) (F G : List Frame) (turns : ℕ) → each K (read_at x) ≡ true → targets_known D K x ≡ true → each (is_target D w) (targets x) ≡ true → is_counted_exit D x ≡ true → Agree K s t → FramesAlike D F G
      → Twin D (runs_block C (exit_tests x) (untested x) (standing n s F turns)) (leaves D x (standing n t G turns))
  twin_leaves (Jump next p) K w n s t F G turns reads_ok known there counted a f =
      let th = (both (is_target D w next) true there).0 in
      let kn = (both (are_entry_slots_known K (block_at D next).entry) true known).0 in
      twin_cond (nat_lt n next) _ _ _ _ (goes_alike K w next s t F G turns th kn a f) (twin_turned turns p _ _ (goes_alike K w next s t F G (suc turns) th kn a f))
  twin_leaves (Branch b yes_to no_to) K w n s t F G turns reads_ok known there counted a f =
      subst (λ v. Twin D (goes (standing (cond (truth (read s b)) yes_to no_to) s F turns)) (goes (standing (cond (truth v) yes_to no_to) t G turns))) (a b (both (K b) true reads_ok).0)
      (either_alike K w yes_to no_to s t F G turns there known a f (truth (read s b)))
  twin_leaves (Test b to left right yes_to no_to p) K w n s t F G turns reads_ok known there counted a f =
      tests_alike K w n to yes_to no_to p s t F G turns there known a f (builtin_applied b (reads s (left ∷ right ∷ []))) (builtin_applied b (reads t (left ∷ right ∷ []))) (ap (builtin_applied b) (reads_agree (left ∷ right ∷ []) K s t reads_ok a))
  twin_leaves (TestInt b to left z yes_to no_to p) K w n s t F G turns reads_ok known there counted a f =
      tests_alike K w n to yes_to no_to p s t F G turns there known a f (builtin_applied b (read s left ∷ int z ∷ [])) (builtin_applied b (read t left ∷ int z ∷ [])) (ap (λ v. builtin_applied b (v ∷ int z ∷ [])) (a left (both (K left) true reads_ok).0))
  twin_leaves (Call m b k answer next p) K w n s t F G turns reads_ok known there counted a f =
      let vs = reads s (slots_from b k) in
      let e = function_at D m in
      let inside : e.block < block_count D = (takes_room D valid D.functions valid.functions m k counted).0 in
      let frames : FramesAlike D (record { next = next; answer = answer; slots = taken_all s (slots_from b k) } ∷ F) (record { next = next; answer = answer; slots = taken_all t (slots_from b k) } ∷ G) =
      one_frame next answer (taken_all s (slots_from b k)) (taken_all t (slots_from b k)) F G (target_there w next (both (is_target D w next) true there).0)
      (answered_alike K next answer b k s t (both (are_entry_slots_known (known_past (Call m b k answer next p) K) (block_at D next).entry) true known).0 a) f in
      let begins : begun_at C e vs ≡ begun_at D e (reads t (slots_from b k)) = plain_begun D e vs ∙ ap (begun_at D e) (reads_agree (slots_from b k) K s t reads_ok a) in
      let both_called : Twin D (goes (standing e.block (begun_at C e vs) (record { next = next; answer = answer; slots = taken_all s (slots_from b k) } ∷ F) (suc turns))) (goes (standing e.block (begun_at D e (reads t (slots_from b k))) (record { next = next; answer = answer; slots = taken_all t (slots_from b k) } ∷ G) (suc turns))) =
      both_go _ _ (alike e.block (begun_at C e vs) (begun_at D e (reads t (slots_from b k))) _ _ (suc turns) inside (λ j is. ap (λ u. read u j) begins) frames) in
      subst (λ l. Twin D (called turns F p (goes (standing e.block (begun_at C e vs) (record { next = next; answer = answer; slots = taken_all s (slots_from b k) } ∷ F) (suc turns))))
      (turned turns p (cond (is_too_deep l) (faults TooDeep p turns) (goes (standing e.block (begun_at D e (reads t (slots_from b k))) (record { next = next; answer = answer; slots = taken_all t (slots_from b k) } ∷ G) (suc turns)))))) (frame_count f)
      (twin_turned turns p _ _ (twin_cond (is_too_deep (length F)) _ _ _ _ (both_fault TooDeep p turns) both_called))
  twin_leaves (Return b) K w n s t F G turns reads_ok known there counted a f =
      subst (λ v. Twin D (returned (read s b) F turns) (returned v G turns)) (a b (both (K b) true reads_ok).0) (returned_alike (read s b) turns f)
  twin_leaves (Cut h b k answer next p) K w n s t F G turns reads_ok known there counted a f =
      let c = standing next (taken_all s (slots_from b k)) F turns in
      let d = standing next (taken_all t (slots_from b k)) G turns in
      let resumes : (v : Tree) → StatesAlike D (resumed v answer c) (resumed v answer d) = λ v.
      alike next (slot_written (taken_all s (slots_from b k)) answer v) (slot_written (taken_all t (slots_from b k)) answer v) F G 0 (target_there w next (both (is_target D w next) true there).0)
      (answered_alike K next answer b k s t (both (are_entry_slots_known (known_past (Cut h b k answer next p) K) (block_at D next).entry) true known).0 a v) f in
      subst (λ o. Twin D (waits_or_faults p answer c (asked h (trees_of (reads s (slots_from b k))) p)) (waits_or_faults p answer d o)) (ap (λ vs. asked h (trees_of vs) p) (reads_agree (slots_from b k) K s t reads_ok a))
      (by c d refl resumes (asked h (trees_of (reads s (slots_from b k))) p))
    where
      by : (c d : RunnerState) → c.turns ≡ d.turns → ((v : Tree) → StatesAlike D (resumed v answer c) (resumed v answer d)) → (o : Result OpView Fault) → Twin D (waits_or_faults p answer c o) (waits_or_faults p answer d o)
      by c d e resumes (Ok op) = both_wait (record { op = op; place = p }) answer c d e resumes
      by c d e resumes (Err g) = subst (λ z. Twin D (faults g p c.turns) (faults g p z)) e (both_fault g p c.turns)

  twin_went : (K : KnownSlots) (n : ℕ) (F G : List Frame) (turns : ℕ) (s t : List Tree) (E J : Effect) (m k : RunnerState → Move) → EffectsAlike K E J
      → ((s2 t2 : List Tree) → Agree K s2 t2 → Twin D (m (standing n s2 F turns)) (k (standing n t2 G turns))) → Twin D (went E (standing n s F turns) m) (went J (standing n t G turns) k)
  twin_went K n F G turns s t E J m k (both_done s2 t2 a) h = h s2 t2 a
  twin_went K n F G turns s t E J m k (both_failed g p) h = both_fault g p turns

  -- an instruction that both do
  both_do : (i : Instruction) (is js : List Instruction) (x y : Exit) (K : KnownSlots) (n : ℕ) (s t : List Tree) (F G : List Frame) (turns : ℕ) → each K (read_by i) ≡ true → Agree K s t
      → ((s2 t2 : List Tree) → Agree (after_instruction i K) s2 t2 → Twin D (runs_block C js y (standing n s2 F turns)) (runs_block D is x (standing n t2 G turns)))
      → Twin D (runs_block C (plain_instruction i ∷ js) y (standing n s F turns)) (runs_block D (i ∷ is) x (standing n t G turns))
  both_do i is js x y K n s t F G turns known a h = twin_went (after_instruction i K) n F G turns s t (effect (plain_instruction i) s) (effect i t) (runs_block C js y) (runs_block D is x) (effects_agree i K s t known a) h

  -- the first instruction; to let a value go is nothing in the plain code
  twin_first : (i : Instruction) (is : List Instruction) (x : Exit) (K : KnownSlots) (n : ℕ) (s t : List Tree) (F G : List Frame) (turns : ℕ) → each K (read_by i) ≡ true → Agree K s t
      → ((s2 t2 : List Tree) → Agree (after_instruction i K) s2 t2 → Twin D (runs_block C (plain_instrs is x) (untested x) (standing n s2 F turns)) (runs_block D is x (standing n t2 G turns)))
      → Twin D (runs_block C (plain_instrs (i ∷ is) x) (untested x) (standing n s F turns)) (runs_block D (i ∷ is) x (standing n t G turns))
  twin_first (constant to v) is x K n s t F G turns known a h = both_do (constant to v) is (plain_instrs is x) x (untested x) K n s t F G turns known a h
  twin_first (copying to b) is x K n s t F G turns known a h = both_do (copying to b) is (plain_instrs is x) x (untested x) K n s t F G turns known a h
  twin_first (moving to b) is x K n s t F G turns known a h = both_do (moving to b) is (plain_instrs is x) x (untested x) K n s t F G turns known a h
  twin_first (clearing b) is x K n s t F G turns known a h = h s (slot_taken t b) (agree_one_taken K s t b a)
  twin_first (one f to b p) is x K n s t F G turns known a h = both_do (one f to b p) is (plain_instrs is x) x (untested x) K n s t F G turns known a h
  twin_first (two f to b c p) is x K n s t F G turns known a h = both_do (two f to b c p) is (plain_instrs is x) x (untested x) K n s t F G turns known a h
  twin_first (two_int f to b z p) is x K n s t F G turns known a h = both_do (two_int f to b z p) is (plain_instrs is x) x (untested x) K n s t F G turns known a h
  twin_first (pushing to b c p) is x K n s t F G turns known a h = both_do (pushing to b c p) is (plain_instrs is x) x (untested x) K n s t F G turns known a h
  twin_first (putting to b k v p) is x K n s t F G turns known a h = both_do (putting to b k v p) is (plain_instrs is x) x (untested x) K n s t F G turns known a h
  twin_first (many f to b k p) is x K n s t F G turns known a h = both_do (many f to b k p) is (plain_instrs is x) x (untested x) K n s t F G turns known a h

  -- the rest of a block
  twin_runs : (is : List Instruction) (x : Exit) (K : KnownSlots) (w n : ℕ) (s t : List Tree) (F G : List Frame) (turns : ℕ) → reads_known K is ≡ true → each (known_after K is) (read_at x) ≡ true → targets_known D (known_after K is) x ≡ true → each (is_target D w) (targets x) ≡ true → is_counted_exit D x ≡ true → Agree K s t → FramesAlike D F G
      → Twin D (runs_block C (plain_instrs is x) (untested x) (standing n s F turns)) (runs_block D is x (standing n t G turns))
  twin_runs [] x K w n s t F G turns reads_ok leaves_ok known there counted a f = twin_leaves x K w n s t F G turns leaves_ok known there counted a f
  twin_runs (i ∷ is) x K w n s t F G turns reads_ok leaves_ok known there counted a f =
      let r = both (each K (read_by i)) (reads_known (after_instruction i K) is) reads_ok in
      twin_first i is x K n s t F G turns r.0 a (λ s2 t2 a2. twin_runs is x (after_instruction i K) w n s2 t2 F G turns r.1 leaves_ok known there counted a2 f)

  twin_block : (n : ℕ) (b : BlockView) → is_valid_block D n b ≡ true → (s t : List Tree) (F G : List Frame) (turns : ℕ) → Agree (has_slot b.entry) s t → FramesAlike D F G
      → Twin D (runs_block C (plain_instrs b.instrs b.exit) (untested b.exit) (standing n s F turns)) (runs_block D b.instrs b.exit (standing n t G turns))
  twin_block n b h s t F G turns a f =
      let K = has_slot b.entry in
      let parts = block_parts D n b h in
      let knows = (both (is_in_range D b && leads_forward n b.exit) (knows_slots D b) h).1 in
      let two = both (reads_known K b.instrs && each (known_after K b.instrs) (read_at b.exit)) (targets_known D (known_after K b.instrs) b.exit) knows in
      let one = both (reads_known K b.instrs) (each (known_after K b.instrs) (read_at b.exit)) two.0 in
      twin_runs b.instrs b.exit K b.width n s t F G turns one.0 one.1 two.1 parts.leads parts.counted a f

  -- runners that stand alike move alike
  pub twin_move : {c d : RunnerState} → StatesAlike D c d → Twin D (move C c) (move D d)
  twin_move (alike n s t F G turns lt a f) =
      subst (λ (b : BlockView). Twin D (runs_block C b.instrs b.exit (standing n s F turns)) (move D (standing n t G turns))) (sym (plain_at D.blocks n))
      (twin_block n (block_at D n) (valid.blocks n lt) s t F G turns a f)
