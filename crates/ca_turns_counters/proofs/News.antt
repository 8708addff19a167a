-- Workers that are made of fresh hands.
use Rattle.std.proofs.Common.{◌≡◌, ◌∙◌, ℕ, ◌≤◌, List, length, sym, refl, ap, subst, arith}
use Rattle.std.specs.Prelude.{Option, Some, None, IfSome, vec_len, vec_capacity, option_to_list}
use lib.ListN.{get_elem?}
use Rattle.ca_turns.specs.Hands.{TableId, IsFresh}
use Rattle.ca_turns.specs.Places.{total}
use Rattle.ca_turns.specs.Views.{hands_stood_for}
use Rattle.ca_turns.proofs.Lists.{no_part}
use Rattle.ca_turns_counters.specs.declared.workers.Worker.{Worker}
use Rattle.ca_turns_counters.specs.Turning.{Counting}
use Rattle.ca_turns_counters.specs.Working.{IsHandIdle, IsNew, spare_stands}

idle_of : (id : TableId) (cs : List ℕ) (n : ℕ) (h : Counting) → IsFresh id cs n h → IsHandIdle id h
idle_of id cs n h f = (f.table, (λ i x e. no_part (length cs) i x (sym (ap (λ l. get_elem? l i) f.parts) ∙ e)), ap length f.turns)

idle_spare : (id : TableId) (cs : List ℕ) (n : ℕ) (spare : Option Counting) → IfSome spare (IsFresh id cs n) → IfSome spare (IsHandIdle id)
idle_spare id cs n None f = tt
idle_spare id cs n (Some h) f = idle_of id cs n h f

pub new_worker : (w : Worker) (hand : Counting) (spare : Option Counting) (id : TableId) (cs : List ℕ) (n room : ℕ) → w.hand ≡ hand → w.spare ≡ spare → vec_len w.numbers ≡ 0 → room ≤ vec_capacity w.numbers → IsFresh id cs n hand → IfSome spare (IsFresh id cs n) → IsNew id cs n room w
new_worker w hand spare id cs n room is its none_noted has_room f g = let h = subst (IsFresh id cs n) (sym is) f in let idle = idle_of id cs n w.hand h in record {
  ready = record { table = idle.0; nothing = idle.1; noted = none_noted ∙ sym idle.2; spare = subst (λ o. IfSome o (IsHandIdle id)) (sym its) (idle_spare id cs n spare g) };
  opening = h.opening;
  opened_for = h.opened_for;
  none_drawn = idle.2;
  has_room = has_room;
}

pub total_spare : (spare : Option Counting) → total (λ h. hands_stood_for h.view) (option_to_list spare) ≡ spare_stands spare
total_spare None = refl
total_spare (Some h) = omega arith
