-- A new wait joins its queues.
use Rattle.std.proofs.Common.{◌≡◌, ℕ, zero, suc, drop, get_or, slice_get, ◌+◌, ◌≤◌, ◌<◌, List, [], ◌∷◌, length, map, refl, sym, ap, ◌∙◌, subst, Bool, true, false, cond, Option, Some, None, option_map, is_some, eqb, eqb-true, arith}
use Rattle.std.proofs.lemmas.List.{length-map}
use Rattle.ca_value.specs.Tree.{nil}
use Rattle.ca_term.specs.declared.event.Branch.{Branch}
use Rattle.ca_term.specs.declared.event.Side.{Side}
use Rattle.ca_term.specs.declared.event.Side.TheVariants.{Put, Take}
use Rattle.ca_term.specs.Event.{BranchView, branch_view}
use Rattle.ca_meaning.specs.Wait.{brought, port_of, side_of}
use Rattle.ca_bank.specs.Kept.{Kept, Spares, enqueued, one_less, queue_spare, spare_put_on}
use Rattle.ca_commit.specs.Contents.{whole}
use Rattle.ca_commit.specs.Listing.{changed_at}
use Rattle.ca_commit.specs.Parking.{AreChannels, Grown, QueuesTake, front_port, front_value, queued_from}
use Rattle.ca_commit.proofs.Laid.{same_map}
use Rattle.ca_commit.proofs.Wholes.{whole_changed}

pub queued_step : (w k k2 : ℕ) (b : BranchView) (bs : List BranchView) (m new : ℕ → Option (ℕ → Option Kept)) → k2 ≡ suc k
    → ((i : ℕ) → new i ≡ changed_at (port_of b) (option_map (enqueued (side_of b) (record { wait = w; branch = k; value = brought b }))) m i) → (i : ℕ) → queued_from w k2 bs new i ≡ queued_from w k (b ∷ bs) m i
queued_step w k k2 b bs m new next e i = ap (λ (j : ℕ). queued_from w j bs new i) next ∙ ap (λ f. queued_from w (suc k) bs f i) (same_map new (changed_at (port_of b) (option_map (enqueued (side_of b) (record { wait = w; branch = k; value = brought b }))) m) e)

-- room that was made on one side is there, and no queue has less
put_on_grows : (side side2 : Side) (k : ℕ) (o : Option Spares) → queue_spare side o ≤ k → queue_spare side2 o ≤ queue_spare side2 (option_map (spare_put_on side k) o)
put_on_grows side side2 k None le = omega arith
put_on_grows Take Take k (Some x) le = le
put_on_grows Take Put k (Some x) le = omega arith
put_on_grows Put Take k (Some x) le = omega arith
put_on_grows Put Put k (Some x) le = le

pub reserved_grows : (n : ℕ) (side : Side) (k : ℕ) (old new : ℕ → Option (ℕ → Option Spares)) → ((i : ℕ) → new i ≡ changed_at n (option_map (spare_put_on side k)) old i) → queue_spare side (whole old n) ≤ k → Grown (whole old) (whole new)
reserved_grows n side k old new is le side2 p = subst (λ (o : Option Spares). queue_spare side2 (whole old p) ≤ queue_spare side2 o) (sym (whole_changed n (spare_put_on side k) old new is p)) (by (eqb n p) refl) where
  by : (b : Bool) → eqb n p ≡ b → queue_spare side2 (whole old p) ≤ queue_spare side2 (cond b (option_map (spare_put_on side k) (whole old n)) (whole old p))
  by true e = subst (λ (z : ℕ). queue_spare side2 (whole old z) ≤ queue_spare side2 (option_map (spare_put_on side k) (whole old n))) (eqb-true n p e) (put_on_grows side side2 k (whole old n) le)
  by false e = omega arith

-- one handler more takes one place
less_by_one : (side side2 : Side) (o : Option Spares) → queue_spare side2 o ≤ suc (queue_spare side2 (option_map (one_less side) o))
less_by_one side side2 None = omega arith
less_by_one Take Take (Some x) = omega arith
less_by_one Take Put (Some x) = omega arith
less_by_one Put Take (Some x) = omega arith
less_by_one Put Put (Some x) = omega arith

pub joined_room : (n : ℕ) (side : Side) (old new : ℕ → Option (ℕ → Option Spares)) → ((i : ℕ) → new i ≡ changed_at n (option_map (one_less side)) old i) → (side2 : Side) (p : ℕ) → queue_spare side2 (whole old p) ≤ suc (queue_spare side2 (whole new p))
joined_room n side old new is side2 p = subst (λ (o : Option Spares). queue_spare side2 (whole old p) ≤ suc (queue_spare side2 o)) (sym (whole_changed n (one_less side) old new is p)) (by (eqb n p) refl) where
  by : (b : Bool) → eqb n p ≡ b → queue_spare side2 (whole old p) ≤ suc (queue_spare side2 (cond b (option_map (one_less side) (whole old n)) (whole old p)))
  by true e = subst (λ (z : ℕ). queue_spare side2 (whole old z) ≤ suc (queue_spare side2 (option_map (one_less side) (whole old n)))) (eqb-true n p e) (less_by_one side side2 (whole old n))
  by false e = omega arith

module _ (ports : ℕ → Option Kept) where
  pub takes_grown : (n : ℕ) (old new : ℕ → Option Spares) (bs : List BranchView) → Grown old new → QueuesTake n ports old bs → QueuesTake n ports new bs
  takes_grown n old new [] g t = tt
  takes_grown n old new (b ∷ bs) g t = (λ e. let x = t.0 e in let y = g (side_of b) (port_of b) in omega (arith, x, y), takes_grown n old new bs g t.1)

  pub takes_less : (n m : ℕ) (old new : ℕ → Option Spares) (bs : List BranchView) → n ≡ suc m → ((side : Side) (p : ℕ) → queue_spare side (old p) ≤ suc (queue_spare side (new p))) → QueuesTake n ports old bs → QueuesTake m ports new bs
  takes_less n m old new [] is g t = tt
  takes_less n m old new (b ∷ bs) is g t = (λ e. let x = t.0 e in let y = g (side_of b) (port_of b) in omega (arith, x, y, is), takes_less n m old new bs is g t.1)

  -- what the branches from some place on have, all have
  abbrev pub Follows : ℕ → (ℕ → Option Spares) → List BranchView → List BranchView → Type 0
  Follows n now rest all = (later : ℕ → Option Spares) → Grown now later → QueuesTake n ports later rest → QueuesTake n ports later all

  pub follows_step : (n : ℕ) (now new : ℕ → Option Spares) (b : BranchView) (rest tail all : List BranchView) → rest ≡ b ∷ tail → Grown now new → (is_some (ports (port_of b)) ≡ true → n ≤ queue_spare (side_of b) (new (port_of b))) → Follows n now rest all → Follows n new tail all
  follows_step n now new b rest tail all is grown room f later g t = f later (λ side p. let x = grown side p in let y = g side p in omega (arith, x, y))
      (subst (QueuesTake n ports later) (sym is) (λ e. let x = room e in let y = g (side_of b) (port_of b) in omega (arith, x, y), t))

pub grown_same : (x : ℕ → Option Spares) → Grown x x
grown_same x side p = omega arith

pub takes_same : (n : ℕ) (m m2 : ℕ → Option (ℕ → Option Kept)) (spares : ℕ → Option Spares) (bs : List BranchView) → ((i : ℕ) → m2 i ≡ m i) → QueuesTake n (whole m) spares bs → QueuesTake n (whole m2) spares bs
takes_same n m m2 spares bs e t = subst (λ f. QueuesTake n (whole f) spares bs) (sym (same_map m2 m e)) t

module _ (ports : ℕ → Option Kept) where
  -- the branch in front has room, as the others have when it stands in its queue
  pub first_takes : (spares : ℕ → Option Spares) (b : BranchView) (rest all : List BranchView) → all ≡ b ∷ rest → AreChannels ports all → QueuesTake (length all) ports spares all → 0 < queue_spare (side_of b) (spares (port_of b))
  first_takes spares b rest all is there takes =
      let t = subst (λ (z : List BranchView). QueuesTake (length z) ports spares z) is takes in let a = subst (AreChannels ports) is there in
      let x : suc (length rest) ≤ queue_spare (side_of b) (spares (port_of b)) = t.0 a.0 in omega (arith, x)

  pub rest_takes : (old new : ℕ → Option Spares) (b : BranchView) (rest all : List BranchView) → all ≡ b ∷ rest → ((side : Side) (p : ℕ) → queue_spare side (old p) ≤ suc (queue_spare side (new p))) → QueuesTake (length all) ports old all → QueuesTake (length rest) ports new rest
  rest_takes old new b rest all is less takes = let t : QueuesTake (length all) ports old (b ∷ rest) = subst (QueuesTake (length all) ports old) is takes in takes_less ports (length all) (length rest) old new rest (ap (λ (z : List BranchView). length z) is) less t.1

  pub rest_there : (b : BranchView) (rest all : List BranchView) → all ≡ b ∷ rest → AreChannels ports all → AreChannels ports rest
  rest_there b rest all is there = let t : AreChannels ports (b ∷ rest) = subst (AreChannels ports) is there in t.1

pub queued_on : (w k k2 : ℕ) (b : BranchView) (rest all : List BranchView) (m new : ℕ → Option (ℕ → Option Kept)) → all ≡ b ∷ rest → k2 ≡ suc k
    → ((i : ℕ) → new i ≡ changed_at (port_of b) (option_map (enqueued (side_of b) (record { wait = w; branch = k; value = brought b }))) m i) → (i : ℕ) → queued_from w k2 rest new i ≡ queued_from w k all m i
queued_on w k k2 b rest all m new is next e i = queued_step w k k2 b rest m new next e i ∙ ap (λ z. queued_from w k z m i) (sym is)

-- an item of a list that is walked by an index
pub drop_first : {X : Type 0} (xs : List X) (i : ℕ) (d : X) → i < length xs → drop i xs ≡ get_or xs i d ∷ drop (i + 1) xs
drop_first [] i d lt = absurd (omega (arith, lt))
drop_first (y ∷ xs) zero d lt = refl
drop_first (y ∷ xs) (suc i) d lt = let n : suc i + 1 ≡ suc (i + 1) = omega arith in drop_first xs i d (omega (arith, lt)) ∙ ap (λ (k : ℕ). get_or xs i d ∷ drop k (y ∷ xs)) (sym n)

pub drop_item : {X : Type 0} (xs : List X) (i : ℕ) (x : X) → i < length xs → x ≡ get_or xs i x → drop i xs ≡ x ∷ drop (i + 1) xs
drop_item xs i x lt e = drop_first xs i x lt ∙ ap (λ y. y ∷ drop (i + 1) xs) (sym e)

pub same_there : (m m2 : ℕ → Option (ℕ → Option Kept)) (p : ℕ) → ((i : ℕ) → m2 i ≡ m i) → is_some (whole m p) ≡ true → is_some (whole m2 p) ≡ true
same_there m m2 p e t = ap (λ f. is_some (whole f p)) (same_map m2 m e) ∙ t

pub all_take : (bs : List Branch) (m m2 : ℕ → Option (ℕ → Option Kept)) (spares : ℕ → Option Spares) → ((i : ℕ) → m2 i ≡ m i) → QueuesTake (length bs) (whole m) spares (map branch_view bs) → QueuesTake (length (map branch_view bs)) (whole m2) spares (map branch_view bs)
all_take bs m m2 spares e t = subst (λ (n : ℕ). QueuesTake n (whole m2) spares (map branch_view bs)) (sym (length-map bs branch_view)) (takes_same (length bs) m m2 spares (map branch_view bs) e t)

-- the first branch of a list
pub front_some : (bs : List Branch) (b : Branch) → slice_get bs 0 ≡ Some b → (front_port (map branch_view bs) ≡ port_of (branch_view b)) × (front_value (map branch_view bs) ≡ brought (branch_view b))
front_some [] b e = absurd (let k : None ≡ Some b = e in cc)
front_some (c ∷ bs) b e = let k : c ≡ b = cc in (ap (λ (z : Branch). port_of (branch_view z)) k, ap (λ (z : Branch). brought (branch_view z)) k)

pub front_none : (bs : List Branch) → slice_get bs 0 ≡ None → (front_port (map branch_view bs) ≡ 0) × (front_value (map branch_view bs) ≡ nil)
front_none [] e = (refl, refl)
front_none (c ∷ bs) e = absurd (let k : Some c ≡ None = e in cc)

pub room_for : (m : ℕ → Option (ℕ → Option Kept)) (spares : ℕ → Option Spares) (n : ℕ) (side side2 : Side) (p p2 : ℕ) → p ≡ p2 → side ≡ side2 → (is_some (whole m p) ≡ true → n ≤ queue_spare side (spares p)) → is_some (whole m p2) ≡ true → n ≤ queue_spare side2 (spares p2)
room_for m spares n side side2 p p2 e d f = subst (λ (q : ℕ). is_some (whole m q) ≡ true → n ≤ queue_spare side2 (spares q)) e (subst (λ (s : Side). is_some (whole m p) ≡ true → n ≤ queue_spare s (spares p)) d f)
