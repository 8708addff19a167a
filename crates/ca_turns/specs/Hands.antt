-- A hand and a table as their callers see them, and what a hand keeps in memory of what its seat has.
use Rattle.std.specs.Prelude.{◌≡◌, ◌≢◌, ℕ, ◌+◌, ◌<◌, ◌≤◌, List, [], ◌∷◌, length, map, Bool, true, false, Option, Some, None, nat_eq, slice_index_or, replicate}
use mathlib.Core.Option.{some}
use lib.ListN.{get_elem?}
use denote.RawPtr.{Ptr}
pub use Rattle.atomic_table.specs.Seated.{TableId}
use Rattle.atomic_table.specs.Table.{Me}
use Rattle.ca_turns.specs.declared.rule.View.{View}
use Rattle.ca_turns.specs.Places.{AllIn, IsDistinct}
use Rattle.ca_turns.specs.Lines.{line_address}
use Rattle.ca_turns.specs.Views.{hands_stood_for}

-- A table: which one it is, with its number of parts, `id.slots`, and where the vector of parts lies that it was opened with
pub record Opened : Type 0 where
  pub id : TableId
  pub memory : Ptr

-- a table of 1 to 256 parts, with a word for the events and one for each part, each on a line of its own
abbrev pub IsTableId : TableId → Type 0
IsTableId id = (id.words ≡ line_address (id.slots + 1)) × (id.slots ≤ 256)

-- A hand: which table it is of, what it knows, and the parts that it holds, as they are now, each at its number
pub record Held (P C E : Type 0) : Type 0 where
  pub table : TableId
  pub view : View C E
  pub parts : List (Option P)

module _ {P C E : Type 0} where
  abbrev pub IsHolding : Held P C E → ℕ → Type 0
  IsHolding h i = (x : P) × (get_elem? h.parts i ≡ some (Some x))

  abbrev pub IsWithout : Held P C E → ℕ → Type 0
  IsWithout h i = (x : P) → get_elem? h.parts i ≢ some (Some x)

  abbrev pub HoldsNothing : Held P C E → Type 0
  HoldsNothing h = (i : ℕ) (x : P) → get_elem? h.parts i ≢ some (Some x)

  -- the hand holds the part, whose content is as last settled
  abbrev pub IsPartSettled : (P → C) → Held P C E → ℕ → Type 0
  IsPartSettled content h i = (x : P) × (get_elem? h.parts i ≡ some (Some x)) × (get_elem? h.view.held i ≡ some (Some (content x)))

  -- what is held at each place but i, and its settled content, are the same
  abbrev pub SameBut : ℕ → Held P C E → Held P C E → Type 0
  SameBut i old new = (k : ℕ) → k ≢ i → (get_elem? new.parts k ≡ get_elem? old.parts k) × (get_elem? new.view.held k ≡ get_elem? old.view.held k)

  -- a hand of a table that was opened for some hands with parts of these contents, as it is then
  pub record IsFresh (id : TableId) (contents : List C) (hands : ℕ) (h : Held P C E) : Type 0 where
    pub table : h.table ≡ id
    pub parts : h.parts ≡ replicate (length contents) None
    pub opening : h.view.opening ≡ contents
    pub opened_for : h.view.hands ≡ hands
    pub held : h.view.held ≡ replicate (length contents) None
    pub turns : h.view.turns ≡ []
    pub stands_for_one : hands_stood_for h.view ≡ 1

-- what lies at these places, of those where something does
abbrev pub look_one : {A : Type 0} → Option A → List A → List A
look_one None xs = xs
look_one (Some x) xs = x ∷ xs

abbrev pub look : {A : Type 0} → List (Option A) → List ℕ → List A
look h [] = []
look h (i ∷ is) = look_one (slice_index_or h i None) (look h is)

abbrev pub is_there : {A : Type 0} → Option A → Bool
is_there None = false
is_there (Some x) = true

abbrev pub there : {A : Type 0} → List (Option A) → List Bool
there xs = map is_there xs

-- something lies at each of these places
abbrev pub AllThere : {A : Type 0} → List (Option A) → List ℕ → Type 0
AllThere h [] = Unit {0}
AllThere h (i ∷ is) = (slice_index_or (there h) i false ≡ true) × AllThere h is

-- none of these places is i
abbrev pub IsNone : List ℕ → ℕ → Type 0
IsNone is i = (m : ℕ) → get_elem? is m ≢ some i

abbrev pub places : {A : Type 0} → List (ℕ × A) → List ℕ
places xs = map (λ x. x.0) xs

abbrev pub one_where : Bool → ℕ
one_where true = 1
one_where false = 0

abbrev pub times : ℕ → List ℕ → ℕ
times i [] = 0
times i (j ∷ js) = one_where (nat_eq i j) + times i js

-- nothing lies in the slots that are out
abbrev pub Emptied : {A : Type 0} → List (ℕ × Option A) → Type 0
Emptied {A} xs = (k i : ℕ) (x : A) → get_elem? xs k ≡ some (i, Some x) → ⊥

-- each part that is here is among those whose slots are out
abbrev pub IsListed : List Bool → List ℕ → Type 0
IsListed bs out = (i : ℕ) → slice_index_or bs i false ≡ true → 0 < times i out

-- The slots that are out with a hand are those of the parts that it has, each once, and nothing lies in them
pub record IsOut {A : Type 0} (bs : List Bool) (out : List (ℕ × Option A)) : Type 0 where
  pub emptied : Emptied out
  pub listed : IsListed bs (places out)
  pub once : IsDistinct (places out)
  pub here : AllIn (λ i. slice_index_or bs i false ≡ true) (places out)

pub record IsHand {P C E : Type 0} (id : TableId) (me : Me (Option P) (View C E)) (parts : List (Option P)) (count : ℕ) : Type 0 where
  pub live : 0 < hands_stood_for me.0
  pub sized : length parts ≡ id.slots
  pub alike : there parts ≡ there me.0.held
  pub out : IsOut (there parts) me.1
  pub counted : count ≡ length me.0.turns

-- The vector that the parts came in is empty, with room for all of them, and lies in the one slot of another table
pub record IsTable {P : Type 0} (id keeper : TableId) (rest : List P) (capacity : ℕ) : Type 0 where
  pub sized : IsTableId id
  pub one : keeper.slots ≡ 1
  pub empty : rest ≡ []
  pub room : id.slots ≤ capacity
