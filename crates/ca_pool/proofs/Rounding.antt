-- What the calls of all workers come to together.
use Rattle.std.proofs.Common.{◌≡◌, ◌∙◌, ◌⊎◌, inl, inr, ⊎_elim, ℕ, zero, suc, ◌+◌, ◌*◌, ◌<◌, ◌≤◌, List, [], ◌∷◌, All, length, refl, sym, ap, ap₂, subst, arith, Bool, true, false, Ok, Err, IfOk, suc-mul, zero-mul}
use Rattle.std.specs.Prelude.{◌||◌, OnOk, slice_index_or}
use Rattle.ca_value.specs.Tree.{Tree}
use Rattle.ca_term.specs.Operation.{SeedView}
use Rattle.ca_term.specs.Program.{ProgramView, program_view}
use Rattle.ca_meaning.specs.Body.{At}
use Rattle.ca_meaning.specs.Task.{TaskBody}
use Rattle.ca_states.specs.Code.{CodeView}
use Rattle.ca_states.specs.declared.valid_code.ValidCode.{ValidCode}
use Rattle.ca_turns.specs.Hands.{IsHolding, TableId}
use Rattle.ca_turns.specs.Places.{total}
use Rattle.ca_journal.specs.Merge.{entries}
use Rattle.ca_pool.specs.Answers.{WorkAnswer, BeginsAlone, EachWorked, HoldsLaneAtMost, IsWorked, StopsAlone, WorkedAlone, WorkedAloneAt, WorkedAt, answers_joined, joined_from}
use Rattle.ca_pool.specs.Lone.{IsLone, LoneStopped}
use Rattle.ca_table.specs.Seen.{PartSeen}
use Rattle.ca_table.specs.Worked.{HasWorked, any_drew, fails_clock, gives_up, some_turn, has_drawn, finds_run_end, spent}
use Rattle.ca_table.specs.Workers.{IsReady, noted, stands_for}
use Rattle.ca_table.specs.declared.worker.Worker.{Worker}
use Rattle.ca_table.specs.declared.answer.PoolStop.TheVariants.{ClockFailed, OutOfMemory}
use Rattle.ca_table.specs.declared.answer.WorkEnd.{WorkEnd}
use Rattle.ca_table.specs.declared.answer.WorkEnd.TheVariants.{Over, Spent}
use Rattle.ca_table.proofs.Drawing.{found_end, goes_on, spent_more}
use Rattle.ca_table.proofs.Having.{both_false, first_true, has_append, second_true}

pub on_ok : (r : WorkAnswer) (P : Type 0) → ((e : WorkEnd) → r ≡ Ok e → P) → OnOk r P
on_ok (Ok e) P f = f e refl
on_ok (Err x) P f = tt

pub any_ok : {P : Type 0} (r : WorkAnswer) → P → OnOk r P
any_ok (Ok e) p = p
any_ok (Err x) p = tt

pub if_ok : (r : WorkAnswer) (P : WorkEnd → Type 0) → ((e : WorkEnd) → r ≡ Ok e → P e) → IfOk r P
if_ok (Ok e) P f = f e refl
if_ok (Err x) P f = tt

of_ok : (r : WorkAnswer) (P : Type 0) (e : WorkEnd) → r ≡ Ok e → OnOk r P → P
of_ok r P e is h = subst (λ (a : WorkAnswer). OnOk a P) is h

at_ok : (r : WorkAnswer) (P : WorkEnd → Type 0) (e : WorkEnd) → r ≡ Ok e → IfOk r P → P e
at_ok r P e is h = subst (λ (a : WorkAnswer). IfOk a P) is h

abbrev Comes : WorkAnswer → Type 0
Comes a = (e : WorkEnd) × (a ≡ Ok e)

both_come : (a b : WorkAnswer) (e : WorkEnd) → answers_joined a b ≡ Ok e → Comes a × Comes b
both_come (Err OutOfMemory) b e h = absurd (let z : Err OutOfMemory ≡ Ok e = h in cc)
both_come (Err ClockFailed) (Err OutOfMemory) e h = absurd (let z : Err OutOfMemory ≡ Ok e = h in cc)
both_come (Err ClockFailed) (Err ClockFailed) e h = absurd (let z : Err ClockFailed ≡ Ok e = h in cc)
both_come (Err ClockFailed) (Ok f) e h = absurd (let z : Err ClockFailed ≡ Ok e = h in cc)
both_come (Ok f) (Err x) e h = absurd (let z : Err x ≡ Ok e = h in cc)
both_come (Ok f) (Ok Spent) e h = ((f, refl), (Spent, refl))
both_come (Ok f) (Ok Over) e h = ((f, refl), (Over, refl))

both_spent : (a b : WorkAnswer) → answers_joined a b ≡ Ok Spent → (a ≡ Ok Spent) × (b ≡ Ok Spent)
both_spent (Err OutOfMemory) b h = absurd (let z : Err OutOfMemory ≡ Ok Spent = h in cc)
both_spent (Err ClockFailed) (Err OutOfMemory) h = absurd (let z : Err OutOfMemory ≡ Ok Spent = h in cc)
both_spent (Err ClockFailed) (Err ClockFailed) h = absurd (let z : Err ClockFailed ≡ Ok Spent = h in cc)
both_spent (Err ClockFailed) (Ok f) h = absurd (let z : Err ClockFailed ≡ Ok Spent = h in cc)
both_spent (Ok f) (Err x) h = absurd (let z : Err x ≡ Ok Spent = h in cc)
both_spent (Ok f) (Ok Spent) h = (h, refl)
both_spent (Ok f) (Ok Over) h = absurd (let z : Ok Over ≡ Ok Spent = h in cc)

one_over : (a b : WorkAnswer) → answers_joined a b ≡ Ok Over → (a ≡ Ok Over) ⊎ (b ≡ Ok Over)
one_over (Err OutOfMemory) b h = absurd (let z : Err OutOfMemory ≡ Ok Over = h in cc)
one_over (Err ClockFailed) (Err OutOfMemory) h = absurd (let z : Err OutOfMemory ≡ Ok Over = h in cc)
one_over (Err ClockFailed) (Err ClockFailed) h = absurd (let z : Err ClockFailed ≡ Ok Over = h in cc)
one_over (Err ClockFailed) (Ok f) h = absurd (let z : Err ClockFailed ≡ Ok Over = h in cc)
one_over (Ok f) (Err x) h = absurd (let z : Err x ≡ Ok Over = h in cc)
one_over (Ok f) (Ok Spent) h = inl h
one_over (Ok f) (Ok Over) h = inr refl

-- the clock failed for one of two, and neither wants memory
abbrev Lasts : WorkAnswer → Type 0
Lasts a = Comes a ⊎ (a ≡ Err ClockFailed)

both_last : (a b : WorkAnswer) → answers_joined a b ≡ Err ClockFailed → Lasts a × Lasts b × ((a ≡ Err ClockFailed) ⊎ (b ≡ Err ClockFailed))
both_last (Err OutOfMemory) b h = absurd (let z : Err OutOfMemory ≡ Err ClockFailed = h in cc)
both_last (Err ClockFailed) (Err OutOfMemory) h = absurd (let z : Err OutOfMemory ≡ Err ClockFailed = h in cc)
both_last (Err ClockFailed) (Err ClockFailed) h = (inr refl, inr refl, inl refl)
both_last (Err ClockFailed) (Ok f) h = (inr refl, inl (f, refl), inl refl)
both_last (Ok f) (Err x) h = (inl (f, refl), inr h, inr h)
both_last (Ok f) (Ok Spent) h = absurd (let z : Ok f ≡ Err ClockFailed = h in cc)
both_last (Ok f) (Ok Over) h = absurd (let z : Ok Over ≡ Err ClockFailed = h in cc)

both_lasting : (a b : WorkAnswer) → Lasts (answers_joined a b) → Lasts a × Lasts b
both_lasting a b h = ⊎_elim (λ k. let r = both_come a b k.0 k.1 in (inl r.0, inl r.1)) (λ k. let r = both_last a b k in (r.0, r.1)) h

module _ {A C : Type 0} where
  -- each answer is a run's end
  abbrev AllCome : List (Worker A C) → Type 0
  AllCome [] = Unit {0}
  AllCome (w ∷ ws) = Comes w.answer × AllCome ws

  abbrev AllSpent : List (Worker A C) → Type 0
  AllSpent [] = Unit {0}
  AllSpent (w ∷ ws) = (w.answer ≡ Ok Spent) × AllSpent ws

  abbrev AllLast : List (Worker A C) → Type 0
  AllLast [] = Unit {0}
  AllLast (w ∷ ws) = Lasts w.answer × AllLast ws

  abbrev SomeFailed : List (Worker A C) → Type 0
  SomeFailed [] = ⊥
  SomeFailed (w ∷ ws) = (w.answer ≡ Err ClockFailed) ⊎ SomeFailed ws

  abbrev SomeOver : List (Worker A C) → Type 0
  SomeOver [] = ⊥
  SomeOver (w ∷ ws) = (w.answer ≡ Ok Over) ⊎ SomeOver ws

  all_come : (a : WorkAnswer) (ws : List (Worker A C)) (e : WorkEnd) → joined_from a ws ≡ Ok e → Comes a × AllCome ws
  all_come a [] e h = ((e, h), tt)
  all_come a (w ∷ ws) e h = let r = all_come (answers_joined a w.answer) ws e h in let b = both_come a w.answer r.0.0 r.0.1 in (b.0, (b.1, r.1))

  all_spent : (a : WorkAnswer) (ws : List (Worker A C)) → joined_from a ws ≡ Ok Spent → (a ≡ Ok Spent) × AllSpent ws
  all_spent a [] h = (h, tt)
  all_spent a (w ∷ ws) h = let r = all_spent (answers_joined a w.answer) ws h in let b = both_spent a w.answer r.0 in (b.0, (b.1, r.1))

  come_at : (ws : List (Worker A C)) → AllCome ws → (k : ℕ) (d : Worker A C) → k < length ws → Comes (slice_index_or ws k d).answer
  come_at [] all k d lt = absurd (omega (arith, lt))
  come_at (w ∷ ws) all zero d lt = all.0
  come_at (w ∷ ws) all (suc k) d lt = come_at ws all.1 k d (omega (arith, lt))

  some_over : (a : WorkAnswer) (ws : List (Worker A C)) → joined_from a ws ≡ Ok Over → (a ≡ Ok Over) ⊎ SomeOver ws
  some_over a [] h = inl h
  some_over a (w ∷ ws) h = ⊎_elim (λ k. ⊎_elim inl (λ q. inr (inl q)) (one_over a w.answer k)) (λ k. inr (inr k)) (some_over (answers_joined a w.answer) ws h)

  all_last : (a : WorkAnswer) (ws : List (Worker A C)) → Lasts (joined_from a ws) → Lasts a × AllLast ws
  all_last a [] h = (h, tt)
  all_last a (w ∷ ws) h = let r = all_last (answers_joined a w.answer) ws h in let b = both_lasting a w.answer r.0 in (b.0, (b.1, r.1))

  some_failed : (a : WorkAnswer) (ws : List (Worker A C)) → joined_from a ws ≡ Err ClockFailed → (a ≡ Err ClockFailed) ⊎ SomeFailed ws
  some_failed a [] h = inl h
  some_failed a (w ∷ ws) h = ⊎_elim (λ k. ⊎_elim inl (λ q. inr (inl q)) (both_last a w.answer k).2) (λ k. inr (inr k)) (some_failed (answers_joined a w.answer) ws h)

  -- what each worker's call did, one after another
  abbrev Pairs : ℕ → List (Worker A C) → List (Worker A C) → Type 0
  Pairs allowance [] [] = Unit {0}
  Pairs allowance [] (y ∷ ys) = ⊥
  Pairs allowance (x ∷ xs) [] = ⊥
  Pairs allowance (x ∷ xs) (y ∷ ys) = HasWorked allowance y.answer x y × Pairs allowance xs ys

  pairs : (allowance : ℕ) (xs ys : List (Worker A C)) → length ys ≡ length xs → EachWorked allowance xs ys → Pairs allowance xs ys
  pairs allowance [] [] e h = tt
  pairs allowance [] (y ∷ ys) e h = absurd (omega (arith, e))
  pairs allowance (x ∷ xs) [] e h = absurd (omega (arith, e))
  pairs allowance (x ∷ xs) (y ∷ ys) e h = (h 0 x (omega arith), pairs allowance xs ys (omega (arith, e)) (λ k d lt. h (suc k) d (omega (arith, lt))))

  -- a call with that answer
  answering : {allowance : ℕ} {x y : Worker A C} (a : WorkAnswer) → y.answer ≡ a → HasWorked allowance y.answer x y → HasWorked allowance a x y
  answering {allowance} {x} {y} a is h = subst (λ (b : WorkAnswer). HasWorked allowance b x y) is h

  stay_each : (allowance : ℕ) (xs ys : List (Worker A C)) → Pairs allowance xs ys → total stands_for ys ≡ total stands_for xs
  stay_each allowance [] [] p = refl
  stay_each allowance [] (y ∷ ys) p = absurd p
  stay_each allowance (x ∷ xs) [] p = absurd p
  stay_each allowance (x ∷ xs) (y ∷ ys) p = ap₂ (λ (a b : ℕ). a + b) p.0.stays_for (stay_each allowance xs ys p.1)

  none_gave : (allowance : ℕ) (xs ys : List (Worker A C)) → Pairs allowance xs ys → AllCome ys → any_drew gives_up xs ≡ false → any_drew gives_up ys ≡ false
  none_gave allowance [] [] p all e = e
  none_gave allowance [] (y ∷ ys) p all e = absurd p
  none_gave allowance (x ∷ xs) [] p all e = absurd p
  none_gave allowance (x ∷ xs) (y ∷ ys) p all e = let b = both_false (has_drawn gives_up x) (any_drew gives_up xs) e in
      ap₂ (λ (c d : Bool). c || d) (goes_on all.0.0 (answering (Ok all.0.0) all.0.1 p.0) b.0) (none_gave allowance xs ys p.1 all.1 b.1)

  -- it noted what it drew
  abbrev Notes : Worker A C → Type 0
  Notes w = entries w.entries ≡ noted w.hand.view.turns

  spent_one : (allowance : ℕ) (x y : Worker A C) → Notes x → Notes y → HasWorked allowance (Ok Spent) x y → allowance + spent x ≤ spent y
  spent_one allowance x y before after h = let all = spent_more x y h.more h.drew before after in let k = h.answers.1 in omega (arith, all, k)

  spent_each : (allowance : ℕ) (xs ys : List (Worker A C)) → Pairs allowance xs ys → AllSpent ys → All Notes xs → All Notes ys → length xs * allowance + total spent xs ≤ total spent ys
  spent_each allowance [] [] p all before after = subst (λ (m : ℕ). m + 0 ≤ 0) (sym (zero-mul allowance)) (omega arith)
  spent_each allowance [] (y ∷ ys) p all before after = absurd p
  spent_each allowance (x ∷ xs) [] p all before after = absurd p
  spent_each allowance (x ∷ xs) (y ∷ ys) p all before after = subst (λ (m : ℕ). m + (spent x + total spent xs) ≤ spent y + total spent ys) (sym (suc-mul (length xs) allowance))
      (one_more (length xs * allowance) (spent_one allowance x y (before 0 x (omega arith)) (after 0 x (omega arith)) (answering (Ok Spent) all.0 p.0))
      (spent_each allowance xs ys p.1 all.1 (λ k d lt. before (suc k) d (omega (arith, lt))) (λ k d lt. after (suc k) d (omega (arith, lt))))) where
        one_more : (m : ℕ) → allowance + spent x ≤ spent y → m + total spent xs ≤ total spent ys → (m + allowance) + (spent x + total spent xs) ≤ spent y + total spent ys
        one_more m a b = omega (arith, a, b)

  over_each : (allowance : ℕ) (xs ys : List (Worker A C)) → Pairs allowance xs ys → SomeOver ys → any_drew finds_run_end ys ≡ true
  over_each allowance [] [] p some = absurd some
  over_each allowance [] (y ∷ ys) p some = absurd p
  over_each allowance (x ∷ xs) [] p some = absurd p
  over_each allowance (x ∷ xs) (y ∷ ys) p some = ⊎_elim
      (λ is. first_true (has_drawn finds_run_end y) (any_drew finds_run_end ys) (found_end (answering (Ok Over) is p.0)))
      (λ k. second_true (has_drawn finds_run_end y) (any_drew finds_run_end ys) (over_each allowance xs ys p.1 k)) some

  failed_one : (allowance : ℕ) (x y : Worker A C) → HasWorked allowance (Err ClockFailed) x y → has_drawn fails_clock y ≡ true
  failed_one allowance x y h = ap (some_turn fails_clock) h.drew ∙ has_append fails_clock x.hand.view.turns h.more ∙ second_true (some_turn fails_clock x.hand.view.turns) (some_turn fails_clock h.more) h.answers.0

  failed_each : (allowance : ℕ) (xs ys : List (Worker A C)) → Pairs allowance xs ys → SomeFailed ys → any_drew fails_clock ys ≡ true
  failed_each allowance [] [] p some = absurd some
  failed_each allowance [] (y ∷ ys) p some = absurd p
  failed_each allowance (x ∷ xs) [] p some = absurd p
  failed_each allowance (x ∷ xs) (y ∷ ys) p some = ⊎_elim
      (λ is. first_true (has_drawn fails_clock y) (any_drew fails_clock ys) (failed_one allowance x y (answering (Err ClockFailed) is p.0)))
      (λ k. second_true (has_drawn fails_clock y) (any_drew fails_clock ys) (failed_each allowance xs ys p.1 k)) some

module _ {A C : Type 0} (over : CodeView → A → Type 0) (stands_as : ProgramView → A → TaskBody → Type 0) (program : ProgramView) (code : CodeView) (id : TableId) (n allowance : ℕ) where
  -- what a round says of its workers, before and after it
  pub record IsRound (r : WorkAnswer) (xs ys : List (Worker A C)) : Type 0 where
    pub before : All (IsReady over stands_as program code id n) xs
    pub many : length ys ≡ length xs
    pub ready : OnOk r (All (IsReady over stands_as program code id n) ys)
    pub failed : r ≡ Err ClockFailed → All (IsReady over stands_as program code id n) ys
    pub worked : EachWorked allowance xs ys
    pub answer : r ≡ joined_from (Ok Spent) ys

  module _ (r : WorkAnswer) (xs ys : List (Worker A C)) where
    last_at : (ws : List (Worker A C)) → AllLast ws → (k : ℕ) (d : Worker A C) → k < length ws → Lasts (slice_index_or ws k d).answer
    last_at [] all k d lt = absurd (omega (arith, lt))
    last_at (w ∷ ws) all zero d lt = all.0
    last_at (w ∷ ws) all (suc k) d lt = last_at ws all.1 k d (omega (arith, lt))

    -- where none wants memory, each gave all back
    ready_all : length ys ≡ length xs → WorkedAt over stands_as program code id n allowance xs ys → AllLast ys → All (IsReady over stands_as program code id n) ys
    ready_all many worked all k d lt = let y = slice_index_or ys k d in let h = worked k d (omega (arith, lt, many)) in
        ⊎_elim (λ come. of_ok y.answer (IsReady over stands_as program code id n y) come.0 come.1 h.ready) h.failed (last_at ys all k d lt)

    -- and whatever a worker answered, it has its lane at most
    kept_one : (a : WorkAnswer) (x y : Worker A C) → y.answer ≡ a → IsWorked over stands_as program code id n allowance x y → HoldsLaneAtMost y
    kept_one (Ok e) x y is w i holds = absurd ((of_ok y.answer (IsReady over stands_as program code id n y) e is w.ready).nothing i holds.0 holds.1)
    kept_one (Err ClockFailed) x y is w i holds = absurd ((w.failed is).nothing i holds.0 holds.1)
    kept_one (Err OutOfMemory) x y is w i holds = w.kept is i holds

    pub kept_all : length ys ≡ length xs → WorkedAt over stands_as program code id n allowance xs ys → All HoldsLaneAtMost ys
    kept_all many worked k d lt = let y = slice_index_or ys k d in kept_one y.answer (slice_index_or xs k d) y refl (worked k d (omega (arith, lt, many)))

    pub round_of_all : All (IsReady over stands_as program code id n) xs → r ≡ joined_from (Ok Spent) ys → length ys ≡ length xs → WorkedAt over stands_as program code id n allowance xs ys → IsRound r xs ys
    round_of_all before is many worked = record {
      before = before;
      many = many;
      ready = on_ok r _ (λ e k. ready_all many worked (all_last (Ok Spent) ys (inl (e, sym is ∙ k))).1);
      failed = λ k. ready_all many worked (all_last (Ok Spent) ys (inr (sym is ∙ k))).1;
      worked = λ k d lt. (worked k d lt).worked;
      answer = is;
    }

    module _ (round : IsRound r xs ys) where
      pairs_in : Pairs allowance xs ys
      pairs_in = pairs allowance xs ys round.many round.worked

      come : (e : WorkEnd) → r ≡ Ok e → AllCome ys
      come e k = (all_come (Ok Spent) ys e (sym round.answer ∙ k)).1

      noted_all : (ws : List (Worker A C)) → All (IsReady over stands_as program code id n) ws → All Notes ws
      noted_all ws all k d lt = (all k d lt).one.notes

      pub round_stays : total stands_for ys ≡ total stands_for xs
      round_stays = stay_each allowance xs ys pairs_in

      pub round_going : OnOk r (any_drew gives_up xs ≡ false → any_drew gives_up ys ≡ false)
      round_going = on_ok r _ (λ e k. none_gave allowance xs ys pairs_in (come e k))

      pub round_spent : IfOk r (λ e. e ≡ Spent → length xs * allowance + total spent xs ≤ total spent ys)
      round_spent = if_ok r _ (λ e k s. spent_each allowance xs ys pairs_in (all_spent (Ok Spent) ys (sym round.answer ∙ k ∙ ap Ok s)).1 (noted_all xs round.before) (noted_all ys (of_ok r _ e k round.ready)))

      pub round_over : IfOk r (λ e. e ≡ Over → any_drew finds_run_end ys ≡ true)
      round_over = if_ok r _ (λ e k s. over_each allowance xs ys pairs_in (⊎_elim (λ never. absurd (let z : Ok Spent ≡ Ok Over = never in cc)) (λ some. some) (some_over (Ok Spent) ys (sym round.answer ∙ k ∙ ap Ok s))))

      pub round_failed : r ≡ Err ClockFailed → any_drew fails_clock ys ≡ true
      round_failed k = failed_each allowance xs ys pairs_in (⊎_elim (λ never. absurd (let z : Ok Spent ≡ Err ClockFailed = never in cc)) (λ some. some) (some_failed (Ok Spent) ys (sym round.answer ∙ k)))

module _ {A C : Type 0} (over : CodeView → A → Type 0) (stands_as : ProgramView → A → TaskBody → Type 0) (program : ProgramView) (code : CodeView) (id : TableId) (n : ℕ) where
  -- a worker is ready as one of its own program and number of workers
  pub own_ready : (w : Worker A C) → IsReady over stands_as program code id n w → IsReady over stands_as (program_view w.program.value) code id w.workers w
  own_ready w r = subst (λ (p : ProgramView). IsReady over stands_as p code id w.workers w) (sym r.one.of_program) (subst (λ (m : ℕ). IsReady over stands_as program code id m w) (sym r.one.of) r)

  shared_ready : (old w : Worker A C) → IsReady over stands_as program code id n old → IsReady over stands_as (program_view old.program.value) code id old.workers w → IsReady over stands_as program code id n w
  shared_ready old w r h = subst (λ (m : ℕ). IsReady over stands_as program code id m w) r.one.of (subst (λ (p : ProgramView). IsReady over stands_as p code id old.workers w) r.one.of_program h)

  keeps_ready : (w : Worker A C) (a : WorkAnswer) → IsReady over stands_as program code id n w → IsReady over stands_as program code id n (record w { answer = a })
  keeps_ready w a r = record {
    one = record { table = r.one.table; slots = r.one.slots; of = r.one.of; few = r.one.few; below = r.one.below; of_program = r.one.of_program; of_code = r.one.of_code; knows = r.one.knows; opened_for = r.one.opened_for; above = r.one.above; notes = r.one.notes; left = r.one.left };
    nothing = r.nothing;
  }

  -- a worker that keeps the answer of its call
  keeps_worked : (allowance : ℕ) (old w : Worker A C) (a : WorkAnswer) → HasWorked allowance a old w → HasWorked allowance a old (record w { answer = a })
  keeps_worked allowance old w a h = record { number = h.number; table = h.table; opening = h.opening; stays_for = h.stays_for; more = h.more; drew = h.drew; sparing = h.sparing; answers = h.answers }

  pub answered : (allowance : ℕ) (old w : Worker A C) (a : WorkAnswer) → IsReady over stands_as program code id n old
      → OnOk a (IsReady over stands_as (program_view old.program.value) code id old.workers w) → (a ≡ Err ClockFailed → IsReady over stands_as (program_view old.program.value) code id old.workers w) → (a ≡ Err OutOfMemory → (i : ℕ) → IsHolding w.hand i → i ≡ old.number) → HasWorked allowance a old w
      → IsWorked over stands_as program code id n allowance old (record w { answer = a })
  answered allowance old w a r ready failed kept worked = record {
    ready = on_ok a _ (λ e k. keeps_ready w a (shared_ready old w r (of_ok a _ e k ready)));
    failed = λ k. keeps_ready w a (shared_ready old w r (failed k));
    kept = λ k i holds. kept k i holds ∙ sym worked.number;
    worked = keeps_worked allowance old w a worked;
  }

module _ {A C : Type 0} (over : CodeView → A → Type 0) (place : A → At) (stands_as : ProgramView → A → TaskBody → Type 0) (advances : ProgramView → A → A → Type 0) (gives : A → Tree → A → Type 0) (starts : ProgramView → SeedView → A → Type 0) (code : ValidCode) (allowance : ℕ) where
  abbrev Stops : List (PartSeen A) → Worker A C → Type 0
  Stops opening w = StopsAlone over place stands_as advances gives starts code allowance opening w

  -- an only worker that keeps the answer of its first call
  pub answered_alone : (old w : Worker A C) (a : WorkAnswer) → HasWorked allowance a old w
      → IfOk a (λ e. IsLone old → old.hand.view.turns ≡ [] → 0 < allowance → LoneStopped over place stands_as advances gives starts code allowance w)
      → WorkedAlone over place stands_as advances gives starts code allowance old (record w { answer = a })
  answered_alone old w a worked solo = on_ok a ((opening : List (PartSeen A)) → 0 < allowance → BeginsAlone opening old → Stops opening (record w { answer = a })) (λ e k opening some b.
      (let s = at_ok a (λ e. IsLone old → old.hand.view.turns ≡ [] → 0 < allowance → LoneStopped over place stands_as advances gives starts code allowance w) e k solo b.lone b.fresh some in record {
        stopped = record { lone = s.lone; stopped = s.stopped };
        opened = worked.opening ∙ b.opened;
      }))

  pub round_alone : (xs ys : List (Worker A C)) (r : WorkAnswer) → r ≡ joined_from (Ok Spent) ys → length ys ≡ length xs → WorkedAloneAt over place stands_as advances gives starts code allowance xs ys
      → OnOk r ((opening : List (PartSeen A)) → 0 < allowance → All (BeginsAlone opening) xs → All (Stops opening) ys)
  round_alone xs ys r is many worked = on_ok r ((opening : List (PartSeen A)) → 0 < allowance → All (BeginsAlone opening) xs → All (Stops opening) ys) (λ e came opening some begins k d lt.
      (let had : k < length xs = omega (arith, lt, many) in let c = come_at ys (all_come (Ok Spent) ys e (sym is ∙ came)).1 k d lt in
      of_ok (slice_index_or ys k d).answer ((opening : List (PartSeen A)) → 0 < allowance → BeginsAlone opening (slice_index_or xs k d) → Stops opening (slice_index_or ys k d)) c.0 c.1 (worked k d had) opening some (begins k d had)))
