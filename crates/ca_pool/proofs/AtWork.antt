-- A worker in a call: it stays at work, what its events cost together, and what it may answer by what it drew.
use Rattle.std.proofs.Common.{◌≡◌, ◌∙◌, ◌⊎◌, inl, inr, ⊎_elim, ℕ, ◌-◌, ◌<◌, List, [], ◌∷◌, ◌++◌, length, refl, sym, ap, ap₂, subst, arith, Bool, true, false, Option, Some, None, Result, Ok, Err, IfOk}
use Rattle.std.specs.Prelude.{◌||◌, IfErr, IsErrAnd, IsSome, OnErr, OnOk, option_map}
use mathlib.Core.List.{append-nil, append_assoc}
use Rattle.ca_term.specs.Event.{EventView, port_number}
use Rattle.ca_term.specs.Program.{ProgramView, program_view}
use Rattle.ca_meaning.specs.Task.{TaskBody}
use Rattle.ca_states.specs.Code.{CodeView}
use Rattle.ca_states.specs.ValidCode.{valid_code}
use Rattle.ca_states.specs.declared.valid_code.ValidCode.{ValidCode}
use Rattle.ca_lower.specs.Gos.{SameGos}
use Rattle.ca_lower.specs.Lowered.{Lowered}
use Rattle.ca_turns.specs.Hands.{TableId}
use Rattle.ca_turns.specs.declared.rule.Turn.{Turn}
use Rattle.ca_commit.specs.Moving.{visible}
use Rattle.ca_commit.specs.Tasks.{agent_of, task_view}
use Rattle.ca_commit.specs.Touched as said
use Rattle.ca_commit.specs.declared.task.Task.{Task}
use Rattle.ca_table.specs.Carriers.{IsCarrying, LaneBox, just_lane}
use Rattle.ca_table.specs.Grips.{SameHand, SameTurns}
use Rattle.ca_table.specs.LoneHands.{DrewTurn}
use Rattle.ca_table.specs.Running.{shown_by}
use Rattle.ca_table.specs.Worked.{AnswersFor, Drew, HasWorked, Sparing, fails_clock, gives_up, some_turn, tells_stop}
use Rattle.ca_table.specs.Workers.{IsReady, IsSeated, SameWorker}
use Rattle.ca_table.specs.declared.answer.PoolStop.{PoolStop}
use Rattle.ca_table.specs.declared.answer.PoolStop.TheVariants.{ClockFailed, OutOfMemory}
use Rattle.ca_table.specs.declared.answer.WorkEnd.{WorkEnd}
use Rattle.ca_table.specs.declared.answer.WorkEnd.TheVariants.{Over, Spent}
use Rattle.ca_table.specs.declared.drawn.Drawn.{Drawn}
use Rattle.ca_table.specs.declared.part.Lane.{Lane}
use Rattle.ca_table.specs.declared.worker.Worker.{Worker}
use Rattle.ca_table.proofs.Carriers.{carries_seated, seated_carries}
use Rattle.ca_table.proofs.Drawing.{cost_shown, drew_none, hands_both, shown_both, workers_both}
use Rattle.ca_table.proofs.Finding.{finds_later, free_none, no_failure, no_stop, spare_more}
use Rattle.ca_table.proofs.Having.{has_append, second_true}
use Rattle.ca_pool.specs.AtWork.{GaveUp, HasLost, HasSpent, IsAtWork}
use Rattle.ca_pool.specs.Leaving.{HasLeft, TaskOver}

-- turns of which the second show nothing
shown_first : {C : Type 0} (ts us : List (Turn C Drawn)) → shown_by us ≡ [] → shown_by (ts ++ us) ≡ shown_by ts
shown_first ts us hidden = shown_both ts us ∙ ap (λ (es : List EventView). shown_by ts ++ es) hidden ∙ append-nil (shown_by ts)

-- why the call is given up stays so
stops_so : {C : Type 0} (stop : PoolStop) (ts us : List (Turn C Drawn)) → some_turn gives_up ts ≡ false → AnswersFor 0 (Err stop) us → AnswersFor 0 (Err stop) (ts ++ us)
stops_so ClockFailed ts us going why = (
  has_append fails_clock ts us ∙ second_true (some_turn fails_clock ts) (some_turn fails_clock us) why.0,
  has_append tells_stop ts us ∙ ap₂ (λ (i j : Bool). i || j) (no_stop ts going) why.1,
)
stops_so OutOfMemory ts us going why = has_append fails_clock ts us ∙ ap₂ (λ (i j : Bool). i || j) (no_failure ts going) why

-- it asks for no allowance
any_allowance : {C : Type 0} (start : ℕ) (stop : PoolStop) (ts : List (Turn C Drawn)) → AnswersFor 0 (Err stop) ts → AnswersFor start (Err stop) ts
any_allowance start ClockFailed ts why = why
any_allowance start OutOfMemory ts why = why

module _ {A C : Type 0} where
  -- before the first event
  pub spent_first : {start : ℕ} {o n : Worker A C} → SameWorker o n → SameTurns o.hand n.hand → HasSpent start start false o n
  spent_first {start} {o} {n} same turns = record {
    same = same;
    hand = turns.same;
    more = [];
    turns = turns.turns ∙ sym (append-nil o.hand.view.turns);
    going = refl;
    finds = λ e. absurd (let z : false ≡ true = e in cc);
    within = tt;
    left_is = omega arith;
  }

  -- a call that wants memory, and one before it that drew no event of the journal
  pub gave_none : {o n : Worker A C} → Drew 0 false o n → GaveUp OutOfMemory o n
  gave_none d = record { same = d.same; hand = d.hand; more = d.more; turns = d.turns; hidden = free_none (shown_by d.more) d.costs; why = no_failure d.more d.going }

  pub gave_later : {stop : PoolStop} {o m n : Worker A C} → Drew 0 false o m → GaveUp stop m n → GaveUp stop o n
  gave_later {stop} {o} {m} {n} d g = record {
    same = workers_both o m n d.same g.same;
    hand = hands_both o.hand m.hand n.hand d.hand g.hand;
    more = d.more ++ g.more;
    turns = g.turns ∙ ap (λ ts. ts ++ g.more) d.turns ∙ append_assoc o.hand.view.turns d.more g.more;
    hidden = shown_first d.more g.more g.hidden ∙ free_none (shown_by d.more) d.costs;
    why = stops_so stop d.more g.more d.going g.why;
  }

  pub gave_after : {stop : PoolStop} {o m n : Worker A C} → SameWorker o m → SameTurns o.hand m.hand → GaveUp stop m n → GaveUp stop o n
  gave_after same turns g = gave_later (drew_none same turns) g

  -- the clock failed
  pub gave_failed : {o n : Worker A C} → SameWorker o n → SameHand o.hand n.hand → DrewTurn said.fails o.hand.view n.hand.view → GaveUp ClockFailed o n
  gave_failed same hand d = record {
    same = same;
    hand = hand;
    more = d.turn ∷ [];
    turns = d.after.turns;
    hidden = ap (λ (what : said.Turn). visible what ++ []) d.is;
    why = (ap (λ (what : said.Turn). fails_clock what || false) d.is, ap (λ (what : said.Turn). tells_stop what || false) d.is);
  }

  -- want of memory was told
  gave_told : {o n : Worker A C} → SameWorker o n → SameHand o.hand n.hand → DrewTurn said.stops o.hand.view n.hand.view → GaveUp OutOfMemory o n
  gave_told same hand d = record {
    same = same;
    hand = hand;
    more = d.turn ∷ [];
    turns = d.after.turns;
    hidden = ap (λ (what : said.Turn). visible what ++ []) d.is;
    why = ap (λ (what : said.Turn). fails_clock what || false) d.is;
  }

  -- a call that has drawn nothing
  pub worked_none : {start : ℕ} (w : Worker A C) → HasWorked start (Err OutOfMemory) w w
  worked_none w = record { number = refl; table = refl; opening = refl; stays_for = refl; more = []; drew = sym (append-nil w.hand.view.turns); sparing = tt; answers = refl }

  -- and one that draws no turn more
  pub worked_same : {start : ℕ} {answer : Result WorkEnd PoolStop} {w o n : Worker A C} → SameWorker o n → SameTurns o.hand n.hand → HasWorked start answer w o → HasWorked start answer w n
  worked_same same turns h = record {
    number = same.number ∙ h.number;
    table = turns.same.table ∙ h.table;
    opening = turns.same.opening ∙ h.opening;
    stays_for = ap length turns.same.stands_for ∙ h.stays_for;
    more = h.more;
    drew = turns.turns ∙ h.drew;
    sparing = h.sparing;
    answers = h.answers;
  }

  -- want of memory is told at last
  pub worked_told : {start : ℕ} {w o n : Worker A C} → SameWorker o n → SameHand o.hand n.hand → DrewTurn said.stops o.hand.view n.hand.view → HasWorked start (Err OutOfMemory) w o → HasWorked start (Err OutOfMemory) w n
  worked_told {start} {w} {o} {n} same hand d h = let g = gave_told same hand d in record {
    number = same.number ∙ h.number;
    table = hand.table ∙ h.table;
    opening = hand.opening ∙ h.opening;
    stays_for = ap length hand.stands_for ∙ h.stays_for;
    more = h.more ++ g.more;
    drew = g.turns ∙ ap (λ ts. ts ++ g.more) h.drew ∙ append_assoc w.hand.view.turns h.more g.more;
    sparing = subst (Sparing start) (sym (shown_first h.more g.more g.hidden)) h.sparing;
    answers = has_append fails_clock h.more g.more ∙ ap₂ (λ (i j : Bool). i || j) h.answers g.why;
  }

module _ {A C : Type 0} {start left : ℕ} {found : Bool} {w o n : Worker A C} where
  -- an event, where something is left or it costs nothing
  spent_then : {spends : ℕ} {over : Bool} (left2 : ℕ) → left2 ≡ left - spends → (spends ≡ 0) ⊎ (0 < left) → HasSpent start left found w o → Drew spends over o n → HasSpent start left2 over w n
  spent_then {spends} {over} left2 is by h d = record {
    same = workers_both w o n h.same d.same;
    hand = hands_both w.hand o.hand n.hand h.hand d.hand;
    more = h.more ++ d.more;
    turns = d.turns ∙ ap (λ ts. ts ++ d.more) h.turns ∙ append_assoc w.hand.view.turns h.more d.more;
    going = has_append gives_up h.more d.more ∙ ap₂ (λ (i j : Bool). i || j) h.going d.going;
    finds = λ e. finds_later h.more d.more (d.finds e);
    within = subst (Sparing start) (sym (shown_both h.more d.more)) (spare_more start (shown_by h.more) (shown_by d.more) d.few
        (⊎_elim (λ free. inl (free_none (shown_by d.more) (d.costs ∙ free))) (λ some. inr (let e = h.left_is in omega (arith, e, some))) by) h.within);
    left_is = let e = h.left_is in let k = cost_shown h.more d.more in let c = d.costs in omega (arith, e, is, k, c);
  }

  pub spent_event : {spends : ℕ} {over : Bool} (left2 : ℕ) → left2 ≡ left - spends → 0 < left → HasSpent start left found w o → Drew spends over o n → HasSpent start left2 over w n
  spent_event left2 is some h d = spent_then left2 is (inr some) h d

  -- a call more, which may find the end
  pub spent_by : {spends : ℕ} {over : Bool} (left2 : ℕ) (found2 : Bool) → left2 ≡ left - spends → found2 ≡ (over || found) → found ≡ false → 0 < left → HasSpent start left found w o → Drew spends over o n → HasSpent start left2 found2 w n
  spent_by {spends} {over} left2 found2 is found_is on some h d = subst (λ (b : Bool). HasSpent start left2 b w n) (sym (found_is ∙ ap (λ (b : Bool). over || b) on ∙ or_none over)) (spent_event left2 is some h d) where
    or_none : (b : Bool) → (b || false) ≡ b
    or_none true = refl
    or_none false = refl

  -- one that finds no end
  pub spent_on : {spends : ℕ} (left2 : ℕ) (found2 : Bool) → left2 ≡ left - spends → found2 ≡ found → found ≡ false → 0 < left → HasSpent start left found w o → Drew spends false o n → HasSpent start left2 found2 w n
  spent_on left2 found2 is found_is on some h d = spent_by left2 found2 is found_is on some h d

  -- one that draws no event of the journal
  pub spent_quiet : found ≡ false → HasSpent start left found w o → Drew 0 false o n → HasSpent start left found w n
  spent_quiet on h d = subst (λ (b : Bool). HasSpent start left b w n) (sym on) (spent_then left (omega arith) (inl refl) h d)

  -- nothing
  pub spent_none : SameWorker o n → SameTurns o.hand n.hand → HasSpent start left found w o → HasSpent start left found w n
  spent_none same turns h = record {
    same = workers_both w o n h.same same;
    hand = hands_both w.hand o.hand n.hand h.hand turns.same;
    more = h.more;
    turns = turns.turns ∙ h.turns;
    going = h.going;
    finds = h.finds;
    within = h.within;
    left_is = h.left_is;
  }

  -- the call is given up
  pub worked_up : {stop : PoolStop} → HasSpent start left found w o → GaveUp stop o n → HasWorked start (Err stop) w n
  worked_up {stop} h g = record {
    number = g.same.number ∙ h.same.number;
    table = g.hand.table ∙ h.hand.table;
    opening = g.hand.opening ∙ h.hand.opening;
    stays_for = ap length (g.hand.stands_for ∙ h.hand.stands_for);
    more = h.more ++ g.more;
    drew = g.turns ∙ ap (λ ts. ts ++ g.more) h.turns ∙ append_assoc w.hand.view.turns h.more g.more;
    sparing = subst (Sparing start) (sym (shown_first h.more g.more g.hidden)) h.within;
    answers = any_allowance start stop (h.more ++ g.more) (stops_so stop h.more g.more h.going g.why);
  }

  pub worked_out : HasSpent start left found w o → Drew 0 false o n → HasWorked start (Err OutOfMemory) w n
  worked_out h d = worked_up h (gave_none d)

  -- nothing was left, or the end was found
  pub worked_spent : left ≡ 0 → HasSpent start left found w o → SameWorker o n → SameTurns o.hand n.hand → HasWorked start (Ok Spent) w n
  worked_spent none h same turns = let k = spent_none same turns h in record {
    number = k.same.number;
    table = k.hand.table;
    opening = k.hand.opening;
    stays_for = ap length k.hand.stands_for;
    more = k.more;
    drew = k.turns;
    sparing = k.within;
    answers = (k.going, let e = k.left_is in omega (arith, e, none));
  }

  pub worked_over : 0 < left → found ≡ true → HasSpent start left found w o → SameWorker o n → SameTurns o.hand n.hand → HasWorked start (Ok Over) w n
  worked_over some is_found h same turns = let k = spent_none same turns h in record {
    number = k.same.number;
    table = k.hand.table;
    opening = k.hand.opening;
    stays_for = ap length k.hand.stands_for;
    more = k.more;
    drew = k.turns;
    sparing = k.within;
    answers = (k.going, let e = k.left_is in omega (arith, e, some), k.finds is_found);
  }

module _ {A C : Type 0} (over : CodeView → A → Type 0) (stands_as : ProgramView → A → TaskBody → Type 0) (code : ValidCode) (id : TableId) where
  module _ {old new : Worker A C} (same : SameWorker old new) where
    same_program : program_view old.program.value ≡ program_view new.program.value
    same_program = ap (λ p. program_view p.value) (sym same.program)

    -- the worker is at work, with this lane
    pub at_first : {lane : Lane A} → Lowered (program_view old.program.value) (valid_code code) → SameGos (program_view old.program.value) (valid_code code) → IsSeated over stands_as (program_view old.program.value) code id old.workers new lane → TaskOver over code lane → IsAtWork over stands_as code id new lane
    at_first {lane} lowered gos seated task = record {
      seated = subst (λ (n : ℕ). IsSeated over stands_as (program_view new.program.value) code id n new lane) (sym same.workers) (subst (λ (p : ProgramView). IsSeated over stands_as p code id old.workers new lane) same_program seated);
      task_over = task;
      lowered = subst (λ (p : ProgramView). Lowered p (valid_code code)) same_program lowered;
      gos = subst (λ (p : ProgramView). SameGos p (valid_code code)) same_program gos;
    }

    -- and stays so, with this lane
    pub at_later : {before lane : Lane A} → IsAtWork over stands_as code id old before → IsSeated over stands_as (program_view old.program.value) code id old.workers new lane → TaskOver over code lane → IsAtWork over stands_as code id new lane
    at_later at seated task = at_first at.lowered at.gos seated task

    -- or gives up
    pub lost_later : (lane : Lane A) → IsCarrying over stands_as (program_view old.program.value) code id old.workers new (just_lane old.workers code lane) → HasLost over stands_as code id new
    lost_later lane carries = record {
      lane = lane;
      carries = subst (λ (n : ℕ). IsCarrying over stands_as (program_view new.program.value) code id n new (just_lane n code lane)) (sym same.workers) (subst (λ (p : ProgramView). IsCarrying over stands_as p code id old.workers new (just_lane old.workers code lane)) same_program carries);
    }

    pub lost_seated : (lane : Lane A) → IsSeated over stands_as (program_view old.program.value) code id old.workers new lane → HasLost over stands_as code id new
    lost_seated lane seated = lost_later lane (seated_carries over stands_as (program_view old.program.value) code id old.workers new lane seated)

    pub ready_later : IsReady over stands_as (program_view old.program.value) (valid_code code) id old.workers new → IsReady over stands_as (program_view new.program.value) (valid_code code) id new.workers new
    ready_later ready = subst (λ (n : ℕ). IsReady over stands_as (program_view new.program.value) (valid_code code) id n new) (sym same.workers) (subst (λ (p : ProgramView). IsReady over stands_as p (valid_code code) id old.workers new) same_program ready)

    -- a worker that is ready now was so for the program and the number of workers that it began with
    pub ready_since : IsReady over stands_as (program_view new.program.value) (valid_code code) id new.workers new → IsReady over stands_as (program_view old.program.value) (valid_code code) id old.workers new
    ready_since ready = subst (λ (n : ℕ). IsReady over stands_as (program_view old.program.value) (valid_code code) id n new) same.workers (subst (λ (p : ProgramView). IsReady over stands_as p (valid_code code) id new.workers new) (sym same_program) ready)

    -- what keeps what is carried keeps the worker at work
    pub at_kept : (lane lane2 : LaneBox A) → lane2 ≡ lane → IsAtWork over stands_as code id old lane.value → ((program : ProgramView) (n : ℕ) (l : Lane A) → IsCarrying over stands_as program code id n old (just_lane n code l) → IsCarrying over stands_as program code id n new (just_lane n code l)) → IsAtWork over stands_as code id new lane2.value
    at_kept lane lane2 is at keeps = let p = program_view old.program.value in subst (λ (l : LaneBox A). IsAtWork over stands_as code id new l.value) (sym is)
        (at_later at (carries_seated over stands_as p code id old.workers new lane.value at.seated.lane_is (keeps p old.workers lane.value (seated_carries over stands_as p code id old.workers old lane.value at.seated))) at.task_over)

    pub lost_kept : {lane : Lane A} → IsAtWork over stands_as code id old lane → ((program : ProgramView) (n : ℕ) (l : Lane A) → IsCarrying over stands_as program code id n old (just_lane n code l) → IsCarrying over stands_as program code id n new (just_lane n code l)) → HasLost over stands_as code id new
    lost_kept {lane} at keeps = let p = program_view old.program.value in lost_later lane (keeps p old.workers lane (seated_carries over stands_as p code id old.workers old lane at.seated))

  pub lost_now : {w : Worker A C} {lane : Lane A} → IsAtWork over stands_as code id w lane → HasLost over stands_as code id w
  lost_now {w} {lane} at = record { lane = lane; carries = seated_carries over stands_as (program_view w.program.value) code id w.workers w lane at.seated }

  -- what it carries
  pub carried_at : {w : Worker A C} {lane : Lane A} → IsAtWork over stands_as code id w lane → (program : ProgramView) × (n : ℕ) × (l : Lane A) × IsCarrying over stands_as program code id n w (just_lane n code l)
  carried_at {w} {lane} at = (program_view w.program.value, w.workers, lane, seated_carries over stands_as (program_view w.program.value) code id w.workers w lane at.seated)

pub over_none : {A : Type 0} (over : CodeView → A → Type 0) (code : ValidCode) (lane : Lane A) → lane.task ≡ None → TaskOver over code lane
over_none over code lane none t is = absurd (let z : None ≡ Some t = sym none ∙ is in cc)

pub some_of : {X : Type 0} (o : Option X) → IsSome o → (x : X) × (o ≡ Some x)
some_of (Some x) h = (x, refl)
some_of None h = absurd (let z : false ≡ true = h in cc)

-- of an outcome that is known
pub on_ok : {X E P : Type 0} (r : Result X E) (x : X) → r ≡ Ok x → OnOk r P → P
on_ok {X} {E} {P} r x is h = subst (λ (o : Result X E). OnOk o P) is h

pub if_both : {X E : Type 0} {P Q R : X → Type 0} (r : Result X E) → ((x : X) → P x → Q x → R x) → IfOk r P → IfOk r Q → IfOk r R
if_both (Ok x) f p q = f x p q
if_both (Err e) f p q = tt

pub any_err : {X E P : Type 0} (r : Result X E) → P → OnErr r P
any_err (Ok x) p = tt
any_err (Err e) p = p

pub if_err : {X E : Type 0} {P Q : E → Type 0} (r : Result X E) → ((e : E) → P e → Q e) → IfErr r P → IfErr r Q
if_err (Ok x) f p = tt
if_err (Err e) f p = f e p

-- .. where that is said of one that is an error
pub if_err_and : {X E : Type 0} {P Q : E → Type 0} (r : Result X E) → ((e : E) → P e → Q e) → IsErrAnd r P → IfErr r Q
if_err_and (Ok x) f p = tt
if_err_and (Err e) f p = f e p

pub on_err : {X E P Q : Type 0} (r : Result X E) → (P → Q) → OnErr r P → OnErr r Q
on_err (Ok x) f p = tt
on_err (Err e) f p = f p

-- a task that left the lane and went on
pub has_left : {A : Type 0} (over : CodeView → A → Type 0) (advances : ProgramView → A → A → Type 0) (program : ProgramView) (code : ValidCode) (l lane : Lane A) (before task : Task A) → l.task ≡ Some before → lane.program ≡ l.program → lane.since ≡ l.since → lane.counts ≡ l.counts
    → task.number ≡ before.number → task.result ≡ before.result → task.alts ≡ before.alts → advances program before.agent task.agent → over (valid_code code) task.agent → HasLeft over advances program code l lane task
has_left over advances program code l lane before task is program_is since counts number port alts goes task_over = record {
  agent = agent_of before;
  was = ap (option_map task_view) is ∙ ap (λ (k : ℕ). Some (k, agent_of before)) (sym number);
  advanced = (ap (option_map port_number) port, alts, (goes, λ o. task_over));
  program_is = program_is;
  since_is = since;
  counts_are = counts;
}
