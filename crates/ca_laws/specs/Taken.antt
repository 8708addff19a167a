-- What a task took, put, made and found, by its deeds.
use Rattle.std.specs.Prelude.{◌≡◌, ℕ, suc, List, [], ◌∷◌, ◌++◌, Option, Some, None, Bool, true, false, cond, flat_map}
use Rattle.ca_value.specs.Tree.{Tree}
use Rattle.ca_meaning.specs.Operands.{is_nil}
use Rattle.ca_laws.specs.Deeds.{Deed, did_take, did_put, did_make, did_spawn, did_close, did_register}

-- the answers of its takes, in order, but nil
abbrev pub taken_by : Deed → List Tree
taken_by (did_take k p a) = cond (is_nil a) [] (a ∷ [])
taken_by d = []

abbrev pub taken : List Deed → List Tree
taken ds = flat_map taken_by ds

-- the channels and the values of its puts, in order
abbrev pub put_by : Deed → List (ℕ × Tree)
put_by (did_put k p v a) = (p, v) ∷ []
put_by d = []

abbrev pub put_in : List Deed → List (ℕ × Tree)
put_in ds = flat_map put_by ds

abbrev pub sent_by : Deed → List Tree
sent_by (did_put k p v a) = v ∷ []
sent_by d = []

abbrev pub sent : List Deed → List Tree
sent ds = flat_map sent_by ds

-- the ports that it made, in order
abbrev pub made_by : Deed → List ℕ
made_by (did_make p what moment) = p ∷ []
made_by d = []

abbrev pub made_in : List Deed → List ℕ
made_in ds = flat_map made_by ds

-- the answer of its last take or alts, the channel and the value, until it puts something
abbrev pub answer_after : Deed → Option (ℕ × Tree) → Option (ℕ × Tree)
answer_after (did_take k p a) o = Some (p, a)
answer_after (did_put k p v a) o = None
answer_after d o = o

abbrev pub answer_from : Option (ℕ × Tree) → List Deed → Option (ℕ × Tree)
answer_from o [] = o
answer_from o (d ∷ ds) = answer_from (answer_after d o) ds

abbrev pub last_answer : List Deed → Option (ℕ × Tree)
last_answer ds = answer_from None ds

-- how many of its deeds pass the test since its last operation on a registry
abbrev pub since_after : (Deed → Bool) → Deed → ℕ → ℕ
since_after test (did_register name args a) n = 0
since_after test d n = cond (test d) (suc n) n

abbrev pub since_from : (Deed → Bool) → ℕ → List Deed → ℕ
since_from test n [] = n
since_from test n (d ∷ ds) = since_from test (since_after test d n) ds

abbrev pub is_take : Deed → Bool
is_take (did_take k p a) = true
is_take d = false

abbrev pub is_spawn_deed : Deed → Bool
is_spawn_deed (did_spawn u kind result) = true
is_spawn_deed d = false

abbrev pub is_close : Deed → Bool
is_close (did_close p) = true
is_close d = false

abbrev pub takes_since : List Deed → ℕ
takes_since ds = since_from is_take 0 ds

abbrev pub starts_since : List Deed → ℕ
starts_since ds = since_from is_spawn_deed 0 ds

abbrev pub closes_since : List Deed → ℕ
closes_since ds = since_from is_close 0 ds

-- it found that channel closed, with nothing left in it
abbrev pub FoundEnd : ℕ → List Deed → Type 0
FoundEnd source ds = (a : Tree) × (last_answer ds ≡ Some (source, a)) × (is_nil a ≡ true)

-- the list begins with these
abbrev pub Begins : {A : Type 0} → List A → List A → Type 0
Begins {A} xs ys = (rest : List A) × (ys ≡ xs ++ rest)
