-- Banks that a worker tries to hold, one after another, and moves out.
use Rattle.std.proofs.Common.{◌≡◌, ◌≢◌, ◌∙◌, ⊎_elim, ℕ, ◌+◌, ◌<◌, ◌≤◌, List, [], length, refl, sym, ap, subst, arith, Bool, Option, Some, None, is_some}
use Rattle.std.proofs.lemmas.Bool.{cases_lt}
use mathlib.Core.Logic.{dite}
use native.Mathlib.Decide.{ℕ_discrete}
use Rattle.ca_term.specs.Program.{ProgramView}
use Rattle.ca_meaning.specs.Body.{At}
use Rattle.ca_meaning.specs.Task.{TaskBody}
use Rattle.ca_states.specs.Code.{CodeView}
use Rattle.ca_states.specs.ValidCode.{valid_code}
use Rattle.ca_states.specs.declared.valid_code.ValidCode.{ValidCode}
use Rattle.ca_turns.specs.Hands.{Held as HandHeld, TableId}
use Rattle.ca_turns.specs.Views.{hands_stood_for}
use Rattle.ca_commit.specs.Listing.{listed}
use Rattle.ca_commit.specs.Numbers.{number_of_bank}
use Rattle.ca_commit.specs.declared.held.HeldBank.{HeldBank}
use Rattle.ca_table.specs.Carriers.{IsCarrying}
use Rattle.ca_table.specs.Carrying.{Carries}
use Rattle.ca_table.specs.Grips.{SameHand, SameTurns}
use Rattle.ca_table.specs.Lifting.{HasNone, bank_row, lifted, with_row}
use Rattle.ca_table.specs.Parts.{contents_seen, part_seen}
use Rattle.ca_table.specs.Seen.{PartSeen, held_of}
use Rattle.ca_table.specs.Sound.{IsSound}
use Rattle.ca_table.specs.Workers.{SameWorker}
use Rattle.ca_table.specs.declared.part.Contents.TheVariants as V
use Rattle.ca_table.specs.declared.part.Part.{Part}
use Rattle.ca_table.specs.declared.worker.Worker.{Worker}
use Rattle.ca_table.proofs.Loads.{same_turns, same_worker, then_worker}
use Rattle.ca_table.proofs.Seats.{then_same}

-- a hand that isn't the only one wasn't before
pub fewer_before : {P C E : Type 0} (old new : HandHeld P C E) → SameHand old new → hands_stood_for new.view < new.view.hands → hands_stood_for old.view < old.view.hands
fewer_before old new same lt = subst (λ (k : ℕ). hands_stood_for old.view < k) same.hands (subst (λ (k : ℕ). k < new.view.hands) (ap (λ (l : List ℕ). length l) same.stands_for) lt)

module _ {A C : Type 0} (over : CodeView → A → Type 0) (stands_as : ProgramView → A → TaskBody → Type 0) (place : A → At) (code : ValidCode) (id : TableId) (least faults : C → ℕ) (readings : C → Option (List ℕ)) where
  abbrev Carry : Type 0
  Carry = Carries (Part A C × PartSeen A)

  abbrev Has : ProgramView → ℕ → Worker A C → Carry → Type 0
  Has program n = IsCarrying over stands_as program code id n

  abbrev pub out : ℕ → List HeldBank → ℕ → Option (Part A C × PartSeen A)
  out n xs = lifted n code V.Bank (part_seen least faults readings) number_of_bank xs

  abbrev Sound : ℕ → ℕ → HeldBank → Type 0
  Sound n i x = IsSound over place (valid_code code) n (n + i) (held_of (contents_seen least faults readings (V.Bank x)))

  -- those of the first k that are wanted were moved out into the list
  pub record IsTrying (has : ℕ → Bool) (w0 w : Worker A C) (xs : List HeldBank) (k : ℕ) : Type 0 where
    pub same : SameWorker w0 w
    pub turns : SameTurns w0.hand w.hand
    pub entries : w.entries ≡ w0.entries
    pub wanted : (i : ℕ) → i < k → is_some (listed number_of_bank xs i) ≡ has i
    pub none : (i : ℕ) → k ≤ i → listed number_of_bank xs i ≡ None
    pub sound : (i : ℕ) (x : HeldBank) → listed number_of_bank xs i ≡ Some x → Sound w0.workers i x
    pub carries : (program : ProgramView) (n : ℕ) (h : Carry) → HasNone bank_row h → Has program n w0 h → Has program n w (with_row bank_row (out n xs) h)

  pub none_tried : (has : ℕ → Bool) (w : Worker A C) (xs : List HeldBank) → xs ≡ [] → IsTrying has w w xs 0
  none_tried has w xs e = record {
    same = same_worker w;
    turns = same_turns w;
    entries = refl;
    wanted = λ i lt. absurd (omega (arith, lt));
    none = λ i le. ap (λ (l : List HeldBank). listed number_of_bank l i) e;
    sound = λ i x is. absurd (let z : None ≡ Some x = sym (ap (λ (l : List HeldBank). listed number_of_bank l i) e) ∙ is in cc);
    carries = λ program n h none s. subst (λ (f : Carry). Has program n w f) (λ t. record { lane = h.lane; banks = λ i. (none i ∙ sym (ap (λ (l : List HeldBank). out n l i) e)) t; shards = h.shards; timers = h.timers; ready = h.ready }) s;
  }

  module _ (has : ℕ → Bool) (w0 w : Worker A C) (xs : List HeldBank) (k : ℕ) (l : IsTrying has w0 w xs k) (v : Worker A C) (ys : List HeldBank)
      (kept : (i : ℕ) → i ≢ k → listed number_of_bank ys i ≡ listed number_of_bank xs i) (one : (x : HeldBank) → listed number_of_bank ys k ≡ Some x → Sound w.workers k x)
      (more : (program : ProgramView) (n : ℕ) (h : Carry) → Has program n w (with_row bank_row (out n xs) h) → Has program n v (with_row bank_row (out n ys) h)) where
    -- all is sound, and carried, whether the next one was free or not
    pub still_sound : (i : ℕ) (x : HeldBank) → listed number_of_bank ys i ≡ Some x → Sound w0.workers i x
    still_sound i x e = dite (ℕ_discrete i k)
        (λ is. subst (λ (j : ℕ). Sound w0.workers j x) (sym is) (subst (λ (n : ℕ). Sound n k x) l.same.workers (one x (sym (ap (listed number_of_bank ys) is) ∙ e))))
        (λ ne. l.sound i x (sym (kept i ne) ∙ e))

    pub still_carries : (program : ProgramView) (n : ℕ) (h : Carry) → HasNone bank_row h → Has program n w0 h → Has program n v (with_row bank_row (out n ys) h)
    still_carries program n h none s = more program n h (l.carries program n h none s)

    pub one_tried : SameWorker w v → SameTurns w.hand v.hand → v.entries ≡ w.entries → is_some (listed number_of_bank ys k) ≡ has k → IsTrying has w0 v ys (k + 1)
    one_tried same turns entries told = record {
      same = then_worker w0 w v l.same same;
      turns = then_same w0.hand w.hand v.hand l.turns turns;
      entries = entries ∙ l.entries;
      wanted = λ i lt. ⊎_elim
          (λ less. ap is_some (kept i (λ e. omega (arith, e, less))) ∙ l.wanted i less)
          (λ le. let e : k ≡ i = omega (arith, lt, le) in sym (ap (λ (j : ℕ). is_some (listed number_of_bank ys j)) e) ∙ told ∙ ap has e)
          (cases_lt i k);
      none = λ i le. kept i (λ e. omega (arith, e, le)) ∙ l.none i (omega (arith, le));
      sound = still_sound;
      carries = still_carries;
    }
