-- What calls of a worker drew, one after another: what it cost, and what it found.
use Rattle.std.proofs.Common.{◌≡◌, ◌∙◌, ℕ, ◌+◌, List, [], ◌∷◌, ◌++◌, refl, sym, ap, ap₂, subst, arith, Bool, true, false, zero-add, Ok}
use Rattle.std.specs.Prelude.{◌||◌}
use mathlib.Core.List.{append-nil, append_assoc}
use Rattle.ca_term.specs.Event.{EventView}
use Rattle.ca_meaning.specs.Cost.{cost}
use Rattle.ca_meaning.specs.Ends.{but_last}
use Rattle.ca_journal.specs.Merge.{Numbered, entries, events_of}
use Rattle.ca_turns.specs.Hands.{Held}
use Rattle.ca_turns.specs.Views.{new_turn}
use Rattle.ca_turns.specs.declared.rule.Turn.{Turn}
use Rattle.ca_commit.specs.Moving.{visible}
use Rattle.ca_table.specs.Draws.{turn_view}
use Rattle.ca_commit.specs.Touched as said
use Rattle.ca_table.specs.Grips.{SameHand, SameTurns}
use Rattle.ca_table.specs.LoneHands.{DrewTurn}
use Rattle.ca_table.specs.Running.{shown_by}
use Rattle.ca_table.specs.Seen.{PartSeen}
use Rattle.ca_table.specs.Worked.{AnswersFor, Drew, HasWorked, gives_up, some_turn, has_drawn, finds_run_end, spent}
use Rattle.ca_table.specs.Workers.{SameWorker, noted}
use Rattle.ca_table.specs.declared.answer.WorkEnd.{WorkEnd}
use Rattle.ca_table.specs.declared.answer.WorkEnd.TheVariants.{Over, Spent}
use Rattle.ca_table.specs.declared.drawn.Drawn.{Drawn}
use Rattle.ca_table.specs.declared.drawn.Turned.{Turned}
use Rattle.ca_table.specs.declared.part.Part.{Part}
use Rattle.ca_table.specs.declared.worker.Worker.{Worker}
use Rattle.ca_table.proofs.Finding.{finds_later, finds_leaves, free_none, one_finds}
use Rattle.ca_table.proofs.Gathers.{shown_noted}
use Rattle.ca_table.proofs.Having.{has_append, second_true}
use Rattle.ca_table.proofs.Seats.{with_hand}

cost_both : (es fs : List EventView) → cost (es ++ fs) ≡ cost es + cost fs
cost_both [] fs = sym (zero-add (cost fs))
cost_both (e ∷ es) fs = let k = cost_both es fs in omega (arith, k)

pub shown_both : {C : Type 0} (ts us : List (Turn C Drawn)) → shown_by (ts ++ us) ≡ shown_by ts ++ shown_by us
shown_both [] us = refl
shown_both (t ∷ ts) us = ap (λ l. visible (turn_view t.event.what) ++ l) (shown_both ts us) ∙ sym (append_assoc (visible (turn_view t.event.what)) (shown_by ts) (shown_by us))

pub cost_shown : {C : Type 0} (ts us : List (Turn C Drawn)) → cost (shown_by (ts ++ us)) ≡ cost (shown_by ts) + cost (shown_by us)
cost_shown ts us = ap cost (shown_both ts us) ∙ cost_both (shown_by ts) (shown_by us)

-- an event shows itself, or nothing
few_visible : (what : said.Turn) → but_last (visible what) ≡ []
few_visible (said.shown e) = refl
few_visible (said.picks r) = refl
few_visible said.yields = refl
few_visible (said.prunes side p w) = refl
few_visible said.asks_clock = refl
few_visible said.fails = refl
few_visible said.stops = refl
few_visible said.halts = refl
few_visible said.stalls = refl

module _ {A C : Type 0} where
  pub workers_both : (o m n : Worker A C) → SameWorker o m → SameWorker m n → SameWorker o n
  workers_both o m n p q = record { number = q.number ∙ p.number; workers = q.workers ∙ p.workers; program = q.program ∙ p.program; code = q.code ∙ p.code }

  pub hands_both : (x y z : Held (Part A C) (PartSeen A) Drawn) → SameHand x y → SameHand y z → SameHand x z
  hands_both x y z p q = record { table = q.table ∙ p.table; opening = q.opening ∙ p.opening; hands = q.hands ∙ p.hands; stands_for = q.stands_for ∙ p.stands_for }

  -- nothing
  pub drew_none : {o n : Worker A C} → SameWorker o n → SameTurns o.hand n.hand → Drew 0 false o n
  drew_none {o} {n} same turns = record {
    same = same;
    hand = turns.same;
    more = [];
    turns = turns.turns ∙ sym (append-nil o.hand.view.turns);
    costs = refl;
    few = refl;
    going = refl;
    finds = λ e. absurd (let z : false ≡ true = e in cc);
  }

  -- one turn, of which is known what it is, and nothing before or after it
  pub turn_drawn : (o n : Held (Part A C) (PartSeen A) Drawn) (what : said.Turn) (k : ℕ) (d : Drawn) (before after : List (PartSeen A)) → SameHand o n → n.view.turns ≡ o.view.turns ++ new_turn k d before after ∷ [] → turn_view d.what ≡ what → DrewTurn what o.view n.view
  turn_drawn o n what k d before after same turns is = record { turn = new_turn k d before after; is = is; after = record { opening = same.opening; turns = turns } }

  pub turn_later : (o m n : Held (Part A C) (PartSeen A) Drawn) (what : said.Turn) → SameTurns o m → DrewTurn what m.view n.view → DrewTurn what o.view n.view
  turn_later o m n what same d = record { turn = d.turn; is = d.is; after = record { opening = d.after.opening ∙ same.same.opening; turns = d.after.turns ∙ ap (λ ts. ts ++ d.turn ∷ []) same.turns } }

  pub turn_before : (o m n : Held (Part A C) (PartSeen A) Drawn) (what : said.Turn) → DrewTurn what o.view m.view → SameTurns m n → DrewTurn what o.view n.view
  turn_before o m n what d same = record { turn = d.turn; is = d.is; after = record { opening = same.same.opening ∙ d.after.opening; turns = same.turns ∙ d.after.turns } }

  -- nothing, by a call that changed the hand alone
  pub drew_held : (w : Worker A C) (h : Held (Part A C) (PartSeen A) Drawn) → SameTurns w.hand h → Drew 0 false w (with_hand w h)
  drew_held w h turns = drew_none {o = w} {n = with_hand w h} (record { number = refl; workers = refl; program = refl; code = refl }) turns

  -- one turn
  pub drew_one : {o n : Worker A C} (k : ℕ) (d : Drawn) (before after : List (PartSeen A)) → SameWorker o n → SameHand o.hand n.hand → n.hand.view.turns ≡ o.hand.view.turns ++ new_turn k d before after ∷ [] → gives_up (turn_view d.what) ≡ false
      → Drew (cost (visible (turn_view d.what))) (finds_run_end (turn_view d.what)) o n
  drew_one k d before after same hand turns kept = record {
    same = same;
    hand = hand;
    more = new_turn k d before after ∷ [];
    turns = turns;
    costs = ap cost (append-nil (visible (turn_view d.what)));
    few = ap but_last (append-nil (visible (turn_view d.what))) ∙ few_visible (turn_view d.what);
    going = ap (λ b. b || false) kept;
    finds = one_finds (new_turn k d before after);
  }

  -- one turn, of which is known what it is
  pub drew_what : {o n : Worker A C} (k : ℕ) (d : Drawn) (before after : List (PartSeen A)) (what : Turned) → SameWorker o n → SameHand o.hand n.hand → n.hand.view.turns ≡ o.hand.view.turns ++ new_turn k d before after ∷ [] → d.what ≡ what → gives_up (turn_view what) ≡ false
      → Drew (cost (visible (turn_view what))) (finds_run_end (turn_view what)) o n
  drew_what {o} {n} k d before after what same hand turns is kept = subst (λ (t : Turned). Drew (cost (visible (turn_view t))) (finds_run_end (turn_view t)) o n) is
      (drew_one {o = o} {n = n} k d before after same hand turns (ap (λ (t : Turned). gives_up (turn_view t)) is ∙ kept))

  -- one that no journal shows
  pub drew_hidden : {o n : Worker A C} (k : ℕ) (d : Drawn) (before after : List (PartSeen A)) (what : Turned) → SameWorker o n → SameHand o.hand n.hand → n.hand.view.turns ≡ o.hand.view.turns ++ new_turn k d before after ∷ [] → d.what ≡ what → visible (turn_view what) ≡ [] → gives_up (turn_view what) ≡ false
      → Drew 0 (finds_run_end (turn_view what)) o n
  drew_hidden {o} {n} k d before after what same hand turns is hidden kept = subst (λ (es : List EventView). Drew (cost es) (finds_run_end (turn_view what)) o n) hidden (drew_what {o = o} {n = n} k d before after what same hand turns is kept)

  -- what two calls drew, of which the first drew no event of the journal and found no end
  pub drew_both : {a : ℕ} {x : Bool} {o m n : Worker A C} → Drew 0 false o m → Drew a x m n → Drew a x o n
  drew_both {a} {x} {o} {m} {n} p q = record {
    same = workers_both o m n p.same q.same;
    hand = hands_both o.hand m.hand n.hand p.hand q.hand;
    more = p.more ++ q.more;
    turns = q.turns ∙ ap (λ ts. ts ++ q.more) p.turns ∙ append_assoc o.hand.view.turns p.more q.more;
    costs = ap cost shows ∙ q.costs;
    few = ap but_last shows ∙ q.few;
    going = has_append gives_up p.more q.more ∙ ap₂ (λ i j. i || j) p.going q.going;
    finds = λ e. finds_later p.more q.more (q.finds e);
  } where
    shows : shown_by (p.more ++ q.more) ≡ shown_by q.more
    shows = shown_both p.more q.more ∙ ap (λ es. es ++ shown_by q.more) (free_none (shown_by p.more) p.costs)

  -- the first of two drew nothing
  pub drew_later : {a : ℕ} {x : Bool} {o m n : Worker A C} → SameWorker o m → SameTurns o.hand m.hand → Drew a x m n → Drew a x o n
  drew_later {a} {x} {o} {m} {n} same turns q = record {
    same = workers_both o m n same q.same;
    hand = hands_both o.hand m.hand n.hand turns.same q.hand;
    more = q.more;
    turns = q.turns ∙ ap (λ ts. ts ++ q.more) turns.turns;
    costs = q.costs;
    few = q.few;
    going = q.going;
    finds = q.finds;
  }

  -- the second of two drew nothing
  pub drew_before : {a : ℕ} {x : Bool} {o m n : Worker A C} → Drew a x o m → SameWorker m n → SameTurns m.hand n.hand → Drew a x o n
  drew_before {a} {x} {o} {m} {n} p same turns = record {
    same = workers_both o m n p.same same;
    hand = hands_both o.hand m.hand n.hand p.hand turns.same;
    more = p.more;
    turns = turns.turns ∙ p.turns;
    costs = p.costs;
    few = p.few;
    going = p.going;
    finds = p.finds;
  }

  -- less is said of what was found
  pub drew_weaker : {a : ℕ} {x : Bool} {o n : Worker A C} → Drew a x o n → Drew a false o n
  drew_weaker p = record { same = p.same; hand = p.hand; more = p.more; turns = p.turns; costs = p.costs; few = p.few; going = p.going; finds = λ e. absurd (let z : false ≡ true = e in cc) }

  -- the same, said of what it cost and found in other words
  pub drew_as : {a b : ℕ} {x y : Bool} {o n : Worker A C} → a ≡ b → x ≡ y → Drew a x o n → Drew b y o n
  drew_as {a} {b} {x} {y} {o} {n} e f p = subst (λ (i : ℕ). Drew i y o n) e (subst (λ (c : Bool). Drew a c o n) f p)

  -- it noted so much more
  pub spent_more : (o n : Worker A C) (more : List (Turn (PartSeen A) Drawn)) → n.hand.view.turns ≡ o.hand.view.turns ++ more → entries o.entries ≡ noted o.hand.view.turns → entries n.entries ≡ noted n.hand.view.turns → spent n ≡ spent o + cost (shown_by more)
  spent_more o n more drew old new = worth n new ∙ ap (λ ts. cost (shown_by ts)) drew ∙ cost_shown o.hand.view.turns more ∙ ap (λ (i : ℕ). i + cost (shown_by more)) (sym (worth o old)) where
    worth : (w : Worker A C) → entries w.entries ≡ noted w.hand.view.turns → spent w ≡ cost (shown_by w.hand.view.turns)
    worth w is = ap (λ (es : List Numbered). cost (events_of es)) is ∙ ap cost (shown_noted w.hand.view.turns)

  -- a call that comes to an end doesn't give the run up
  pub goes_on : {allowance : ℕ} {o n : Worker A C} (e : WorkEnd) → HasWorked allowance (Ok e) o n → has_drawn gives_up o ≡ false → has_drawn gives_up n ≡ false
  goes_on {allowance} {o} {n} e h none = ap (some_turn gives_up) h.drew ∙ has_append gives_up o.hand.view.turns h.more ∙ ap₂ (λ i j. i || j) none (kept e h.answers) where
    kept : (e : WorkEnd) → AnswersFor allowance (Ok e) h.more → some_turn gives_up h.more ≡ false
    kept Spent a = a.0
    kept Over a = a.0

  -- it found the run's end
  pub found_end : {allowance : ℕ} {o n : Worker A C} → HasWorked allowance (Ok Over) o n → has_drawn finds_run_end n ≡ true
  found_end {allowance} {o} {n} h = ap (some_turn finds_run_end) h.drew ∙ has_append finds_run_end o.hand.view.turns h.more ∙ second_true (some_turn finds_run_end o.hand.view.turns) (some_turn finds_run_end h.more) (finds_leaves h.more h.answers.2)
