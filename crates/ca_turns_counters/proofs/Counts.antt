-- What the workers of a table come to, all together.
use Rattle.std.proofs.Common.{◌≡◌, ℕ, zero, suc, ◌+◌, ◌-◌, ◌<◌, List, [], ◌∷◌, ◌++◌, map, length, get_or, replicate, refl, ap, arith}
use Rattle.std.specs.Prelude.{All, None}
use Rattle.ca_turns.specs.Hands.{TableId}
use Rattle.ca_turns.specs.Places.{total}
use Rattle.ca_turns.specs.Views.{hands_stood_for}
use Rattle.ca_turns.proofs.Lists.{in_range}
use Rattle.ca_turns_counters.specs.declared.counters.Event.{Event}
use Rattle.ca_turns_counters.specs.declared.workers.Worker.{Worker}
use Rattle.ca_turns_counters.specs.Turning.{Counting}
use Rattle.ca_turns_counters.specs.Working.{Worked, Repeats, spare_stands, stand, events_drawn}
use Rattle.ca_turns_counters.proofs.Rests.{total_less, total_alike, total_each}

-- one who drew nothing repeated any event
pub none_repeated : (e : Event) (w : Worker) → events_drawn w ≡ 0 → Repeats e w
none_repeated e w none k t at = absurd (let h : k < length w.hand.view.turns = in_range w.hand.view.turns k t at in omega arith)

-- the last hand stands for as many hands as were dealt
pub stands_for_all : (id : TableId) (even odd : Event) (times n : ℕ) (olds news others : List Worker) (first all : Worker) (dealt : List Counting) → news ≡ others ++ first ∷ [] → length news ≡ length olds
    → ((k : ℕ) (d : Worker) → k < length olds → Worked id even odd times (get_or olds k d) (get_or news k d)) → total stand olds ≡ total (λ (h : Counting). hands_stood_for h.view) dealt → All (λ (h : Counting). hands_stood_for h.view ≡ 1) dealt → length dealt ≡ n
    → stand all ≡ stand first + total stand others → all.spare ≡ None → hands_stood_for all.hand.view ≡ n
stands_for_all id even odd times n olds news others first all dealt e many worked shared each count sum blank =
    let a = total_less stand news others first e in let b = total_alike stand olds news many (λ k d h. (worked k d h).same.stand) in let d = total_each (λ (h : Counting). hands_stood_for h.view) dealt each in let s : spare_stands all.spare ≡ 0 = ap spare_stands blank in
    let r : hands_stood_for all.hand.view ≡ n = omega arith in r

pub same_list : (xs : List ℕ) → map (λ (x : ℕ). x) xs ≡ xs
same_list [] = refl
same_list (x ∷ xs) = ap (λ l. x ∷ l) (same_list xs)

pub first_zero : (n : ℕ) → 0 < n → replicate {A = ℕ} n 0 ≡ 0 ∷ replicate (n - 1) 0
first_zero zero h = absurd (omega arith)
first_zero (suc n) h = ap (λ m. 0 ∷ replicate m 0) (omega arith)
