-- What a run with one worker was: the schedule's, over the answers that the clock in its timers gave.
use Rattle.std.proofs.Common.{◌≡◌, ◌∙◌, ℕ, zero, suc, ◌+◌, ◌-◌, ◌/◌, ◌<◌, List, [], ◌∷◌, ◌++◌, All, drop, length, map, take, refl, sym, ap, subst, arith, true, false, Option, Some, None}
use Rattle.std.specs.Prelude.{is_some, option_map, slice_index_or}
use Rattle.std.specs.declared.boxed.Box.{Box}
use Rattle.std.specs.declared.alloc.Global.{Global}
use mathlib.Core.Option as core
use lib.ListN.{get_elem?}
use Rattle.ca_value.specs.Tree.{Tree}
use Rattle.ca_term.specs.Event.{EventView}
use Rattle.ca_term.specs.Operation.{SeedView}
use Rattle.ca_term.specs.Program.{ProgramParts, ProgramView, program_view}
use Rattle.ca_meaning.specs.Body.{At}
use Rattle.ca_meaning.specs.Ends.{IsWithin}
use Rattle.ca_meaning.specs.Legal.{EndsLast}
use Rattle.ca_meaning.specs.Solo.{Solo}
use Rattle.ca_meaning.specs.State.{State}
use Rattle.ca_meaning.specs.Task.{TaskBody}
use Rattle.ca_states.specs.Code.{CodeView}
use Rattle.ca_states.specs.ValidCode.{valid_code}
use Rattle.ca_states.specs.declared.valid_code.ValidCode.{ValidCode}
use Rattle.ca_agent.specs.Agents.{Advanced, Answered, Started}
use Rattle.ca_turns.specs.Hands.{TableId}
use Rattle.ca_commit.specs.Agents.{TaskAgent}
use Rattle.ca_commit.specs.Contents.{Content, PartContents, TimersPart, a_bank, a_lane, a_ready, a_shard, away, the_timers}
use Rattle.ca_commit.specs.Gathered.{kind_of_part, parts_of, sorted, timers_kind, timers_of}
use Rattle.ca_commit.specs.Opening.{unasked}
use Rattle.ca_commit.proofs.Seats.{some_same}
use Rattle.ca_table.specs.Carrying.{timers_place}
use Rattle.ca_table.specs.Draws.{drawn_moves}
use Rattle.ca_table.specs.Moments.{ToldWentOn}
use Rattle.ca_table.specs.Opening.{opening_list}
use Rattle.ca_table.specs.Parts.{clockwork_seen, contents_seen, part_seen}
use Rattle.ca_table.specs.Running.{TableStands, as_option, contents_at}
use Rattle.ca_table.specs.Seen.{PartSeen, content_of, held_of}
use Rattle.ca_table.specs.Worked.{HasDrawnNothing, RanAlone}
use Rattle.ca_table.specs.Workers.{IsOpenedWith, IsReady, stands_for}
use Rattle.ca_table.specs.declared.part.Clockwork.{Clockwork}
use Rattle.ca_table.specs.declared.part.Contents.{Contents}
use Rattle.ca_table.specs.declared.part.Contents.TheVariants as V
use Rattle.ca_table.specs.declared.part.Part.{Part}
use Rattle.ca_table.specs.declared.worker.Worker.{Worker}
use Rattle.ca_table.proofs.Carriers.{kind_placed}
use Rattle.ca_table.proofs.Openings.{opens}
use Rattle.ca_alone.proofs.Stopping.{is_schedule}
use Rattle.ca_pool.specs.Answers.{BeginsAlone, StopsAlone}
use Rattle.ca_pool.specs.PoolEnds.{IsSolo}

-- one worker's allowance is the budget
pub all_of_it : (budget w : ℕ) → 0 < budget → w ≡ 1 → (budget - 1) / w + 1 ≡ budget
all_of_it budget w lt one = ap (λ (n : ℕ). (budget - 1) / n + 1) one ∙ (let e : (budget - 1) / 1 + 1 ≡ budget = omega (arith, lt) in e)

-- a list that was lent whole
pub lent_back : {X : Type 0} (xs ys : List X) (n : ℕ) → length xs ≡ length ys → n ≡ length ys → take n (xs ++ drop (length xs) ys) ≡ xs
lent_back {X} xs ys n e f = ap (λ (k : ℕ). take k (xs ++ drop (length xs) ys)) (f ∙ sym e) ∙ all_of xs (drop (length xs) ys) where
  all_of : (xs zs : List X) → take (length xs) (xs ++ zs) ≡ xs
  all_of [] zs = refl
  all_of (x ∷ xs) zs = ap (λ l. x ∷ l) (all_of xs zs)

-- the parts of a run, and the clock among them
module _ {A C : Type 0} (least faults : C → ℕ) (readings : C → Option (List ℕ)) where
  abbrev Seen : List (Part A C) → List (PartSeen A)
  Seen ps = map (part_seen least faults readings) ps

  there : (ps : List (Part A C)) (k : ℕ) (p : Part A C) → k < length ps → get_elem? (Seen ps) k ≡ core.some (part_seen least faults readings (slice_index_or ps k p))
  there [] k p lt = absurd (omega (arith, lt))
  there (x ∷ ps) zero p lt = refl
  there (x ∷ ps) (suc k) p lt = there ps k p (omega (arith, lt))

  inside : (ps : List (Part A C)) (k : ℕ) → is_some (contents_at (Seen ps) k) ≡ true → k < length ps
  inside [] zero e = absurd (let z : false ≡ true = e in cc)
  inside [] (suc k) e = absurd (let z : false ≡ true = e in cc)
  inside (x ∷ ps) zero e = omega arith
  inside (x ∷ ps) (suc k) e = let h = inside ps k e in omega (arith, h)

  lies : (ps : List (Part A C)) (k : ℕ) (p : Part A C) → k < length ps → contents_at (Seen ps) k ≡ Some (content_of (part_seen least faults readings (slice_index_or ps k p)))
  lies ps k p lt = ap (λ o. option_map content_of (as_option o)) (there ps k p lt)

  module _ (place : A → At) (stands_as : ProgramView → A → TaskBody → Type 0) (program : ProgramView) (n : ℕ) (ps : List (Part A C)) (s : State) (run : TableStands place stands_as program n (Seen ps) s) where
    pub timers_in : n + 32 < length ps
    timers_in = inside ps (n + 32) (run.there (n + 32) (omega arith))

    pub timers_kind_in : 0 < n → (p : Part A C) → kind_of_part (held_of (contents_seen least faults readings (slice_index_or ps (n + 32) p).contents)) ≡ timers_kind
    timers_kind_in some p = (run.kinds (n + 32) (content_of (part_seen least faults readings (slice_index_or ps (n + 32) p))) (lies ps (n + 32) p timers_in)).1 ∙ kind_placed n 0 some timers_place tt

  same_timers : (x : PartContents (TaskAgent A)) (t u : TimersPart) → x ≡ the_timers t → x ≡ the_timers u → t ≡ u
  same_timers x t u e f = cc

  -- a clock that lay in the timers
  pub clock_told : (x : Contents A C) (box : Box (Clockwork C) Global) (w : Clockwork C) (t : TimersPart) → x ≡ V.Timers box → w ≡ box.value → held_of (contents_seen least faults readings x) ≡ the_timers t → (least w.clock ≡ t.least) × (readings w.clock ≡ t.readings) × (faults w.clock ≡ t.faults)
  clock_told x box w t is opened e =
      let k = same_timers (held_of (contents_seen least faults readings x)) (clockwork_seen least faults readings w) t (ap (λ (y : Contents A C). held_of (contents_seen least faults readings y)) is ∙ ap (λ (v : Clockwork C). the_timers (clockwork_seen least faults readings v)) (sym opened)) e in
      (ap (λ (z : TimersPart). z.least) k, ap (λ (z : TimersPart). z.readings) k, ap (λ (z : TimersPart). z.faults) k)

  -- what the timers' part has in it
  pub timers_are : (n : ℕ) (ps : List (Part A C)) (p : Part A C) (t : TimersPart) → n + 32 < length ps → kind_of_part (held_of (contents_seen least faults readings (slice_index_or ps (n + 32) p).contents)) ≡ timers_kind
      → (parts_of n (contents_at (Seen ps))).timers ≡ Some t → held_of (contents_seen least faults readings (slice_index_or ps (n + 32) p).contents) ≡ the_timers t
  timers_are n ps p t lt kind e = of_kind (held_of (contents_seen least faults readings (slice_index_or ps (n + 32) p).contents)) kind (sym (ap (sorted timers_of) (lies ps (n + 32) p lt)) ∙ e) where
    of_kind : (h : PartContents (TaskAgent A)) → kind_of_part h ≡ timers_kind → timers_of h ≡ Some t → h ≡ the_timers t
    of_kind (the_timers u) k f = ap the_timers (some_same u t f)
    of_kind (a_lane l) k f = absurd (let z : None ≡ Some t = f in cc)
    of_kind (a_bank b) k f = absurd (let z : None ≡ Some t = f in cc)
    of_kind (a_shard g) k f = absurd (let z : None ≡ Some t = f in cc)
    of_kind (a_ready q) k f = absurd (let z : None ≡ Some t = f in cc)
    of_kind away k f = absurd (let z : None ≡ Some t = f in cc)

module _ {A C : Type 0} (over : CodeView → A → Type 0) (stands_as : ProgramView → A → TaskBody → Type 0) (code : ValidCode) (id : TableId) (program : ProgramView) where
  -- the only worker of a run, as its table was opened
  pub begins_all : (n : ℕ) (opening : List (PartSeen A)) (ws : List (Worker A C)) → n ≡ 1 → All (IsReady over stands_as program (valid_code code) id n) ws → All (λ w. stands_for w ≡ 1) ws → All HasDrawnNothing ws → All (IsOpenedWith opening) ws → All (BeginsAlone opening) ws
  begins_all n opening ws one ready each idle opened k d lt = let r = (ready k d lt).one in record {
    lone = (r.of ∙ one, each k d lt ∙ sym one ∙ sym r.opened_for);
    fresh = idle k d lt;
    opened = opened k d lt;
  }

module _ {A C : Type 0} (over : CodeView → A → Type 0) (place : A → At) (stands_as : ProgramView → A → TaskBody → Type 0) (advances : ProgramView → A → A → Type 0) (gives : A → Tree → A → Type 0) (starts : ProgramView → SeedView → A → Type 0)
    (advance_law : Advanced stands_as place advances) (answer_law : Answered stands_as place gives) (start_law : Started stands_as place starts) (code : ValidCode) (id : TableId) (program : ProgramView) where
  module _ (least faults : C → ℕ) (readings : C → Option (List ℕ)) (texts : ProgramParts) (main : A) (n : ℕ) (first last : C) (allowance : ℕ) (journal : List EventView) (parts : List (PartSeen A)) where
    abbrev clock : TimersPart
    clock = unasked (least first) (faults first) (readings first)

    opening_timers : n ≡ 1 → (parts_of 1 (contents_at (opening_list n (valid_code code) texts main clock))).timers ≡ Some clock
    opening_timers one = ap (λ (k : ℕ). (parts_of 1 (contents_at (opening_list k (valid_code code) texts main clock))).timers) one ∙ ap (λ (f : ℕ → Option (Content (TaskAgent A))). (parts_of 1 f).timers) (opens 1 (valid_code code) texts main clock (omega arith))

    pub is_solo : (ws : List (Worker A C)) → length ws ≡ n → n ≡ 1 → All (IsReady over stands_as program (valid_code code) id n) ws → All (StopsAlone over place stands_as advances gives starts code allowance (opening_list n (valid_code code) texts main clock)) ws
        → All (RanAlone (drawn_moves over place advances gives starts) journal parts) ws → ((t : TimersPart) → (parts_of n (contents_at parts)).timers ≡ Some t → (least last ≡ t.least) × (readings last ≡ t.readings) × (faults last ≡ t.faults))
        → IsSolo program journal (least first) (readings first) (readings last) × IsWithin allowance journal × EndsLast journal
    is_solo [] many one ready stops ran told = absurd (let k : 0 ≡ n = many in omega (arith, k, one))
    is_solo (w ∷ ws) many one ready stops ran told =
        let s = stops 0 w (omega arith) in
        let r = ran 0 w (omega arith) in
        let own = (ready 0 w (omega arith)).one.of_program in
        let k = is_schedule over place stands_as advances gives starts advance_law answer_law start_law (program_view w.program.value) (valid_code code) allowance w.hand.view s.stopped.stopped r.run in
        let given = k.answered clock (ap (λ (cs : List (PartSeen A)). (parts_of 1 (contents_at cs)).timers) s.opened ∙ opening_timers one) in
        let after = told given.clock (ap (λ (m : ℕ). (parts_of m (contents_at parts)).timers) one ∙ ap (λ (cs : List (PartSeen A)). (parts_of 1 (contents_at cs)).timers) (sym r.parts_left) ∙ given.in_timers) in (
          record {
            answers = k.answers;
            solo = subst (λ (p : ProgramView). Solo p k.answers journal) own (subst (λ (es : List EventView). Solo (program_view w.program.value) k.answers es) (sym r.shown) k.solo);
            last = given.clock.least;
            rise = given.gave.rise;
            told = subst (λ (o : Option (List ℕ)). ToldWentOn k.answers (readings first) o) (sym after.1) given.gave.told;
          },
          subst (λ (es : List EventView). IsWithin allowance es) (sym r.shown) k.within,
          subst EndsLast (sym r.shown) k.goes_on,
        )
