-- What a journal's line can show: numbers of 64 bits, keywords of no byte that ends a word, a moment exactly of a
-- timeout, and ports where ports stand.
use Rattle.std.specs.Prelude.{◌≡◌, ◌<◌, ◌^◌, ℕ, ℤ, pos, negsuc, Bool, false, ◌||◌, ◌==◌, List, [], ◌∷◌, Option, Some, None}
use Rattle.ca_value.specs.Tree.{Tree, Trees, TreePairs, nil, bool, int, text, key, vector, map, port, none, item, empty, pair}
use Rattle.ca_value.specs.declared.value.PortId.{PortId}
use Rattle.ca_value.specs.IsValue.{written}
use Rattle.ca_term.specs.Program.{ProgramView, IsProgram}
use Rattle.ca_term.specs.Constants.{ProgramHasScalars}
use Rattle.ca_meaning.specs.Sound.{Each}
use Rattle.ca_meaning.specs.Legal.{Legal}
use Rattle.ca_term.specs.declared.event.Ending.TheVariants.{Ended, Faulted}
use Rattle.ca_term.specs.Operation.{WhatView, unbuffered, fixed, dropping, sliding, promise, timeout, mult, mix, publication}
use Rattle.ca_term.specs.Event.{EventView, BranchView, take_of, put_of, made, spawned, done, met, parked, posted, settled, defaulted, closed, registered, printed, ticked, over}

-- a byte that ends a word: a space, a line feed, a comma, `]` or `}`
abbrev pub ends_word : ℕ → Bool
ends_word b = (b == 32) || ((b == 10) || ((b == 44) || ((b == 93) || (b == 125))))

abbrev pub Solid : List ℕ → Type 0
Solid [] = Unit {0}
Solid (b ∷ s) = (ends_word b ≡ false) × Solid s

abbrev pub IsNumber : ℕ → Type 0
IsNumber n = n < 2 ^ 64

abbrev pub IsShownInteger : ℤ → Type 0
IsShownInteger (pos n) = n < 2 ^ 63
IsShownInteger (negsuc n) = n < 2 ^ 63

-- a value that a line can show
abbrev mutual
  pub IsShown : Tree → Type 0
  IsShown nil = Unit {0}
  IsShown (bool b) = Unit {0}
  IsShown (int z) = IsShownInteger z
  IsShown (text s) = Unit {0}
  IsShown (key s) = Solid s
  IsShown (vector ts) = AreShown ts
  IsShown (map ps) = PairsShown ps
  IsShown (port n) = IsNumber n

  pub AreShown : Trees → Type 0
  AreShown none = Unit {0}
  AreShown (item t ts) = IsShown t × AreShown ts

  pub PairsShown : TreePairs → Type 0
  PairsShown empty = Unit {0}
  PairsShown (pair k v ps) = IsShown k × IsShown v × PairsShown ps

abbrev pub MaybeNumber : Option ℕ → Type 0
MaybeNumber None = Unit {0}
MaybeNumber (Some n) = IsNumber n

abbrev pub MaybePort : Option PortId → Type 0
MaybePort None = Unit {0}
MaybePort (Some p) = IsNumber p.n

abbrev pub IsPort : Tree → Type 0
IsPort (port n) = IsNumber n
IsPort v = ⊥

-- a moment exactly of a timeout
abbrev pub WhatShown : WhatView → Option ℕ → Type 0
WhatShown unbuffered m = m ≡ None
WhatShown (fixed n) m = IsNumber n × (m ≡ None)
WhatShown (dropping n) m = IsNumber n × (m ≡ None)
WhatShown (sliding n) m = IsNumber n × (m ≡ None)
WhatShown promise m = m ≡ None
WhatShown (timeout n) None = ⊥
WhatShown (timeout n) (Some k) = IsNumber n × IsNumber k
WhatShown (mult source) m = IsPort source × (m ≡ None)
WhatShown (mix out changes) m = IsPort out × IsPort changes × (m ≡ None)
WhatShown (publication source) m = IsPort source × (m ≡ None)

abbrev pub BranchShown : BranchView → Type 0
BranchShown (take_of p) = IsNumber p
BranchShown (put_of p v) = IsNumber p × IsShown v

abbrev pub SomeShown : Trees → Type 0
SomeShown none = ⊥
SomeShown (item t ts) = IsShown t × AreShown ts

-- the event holds no more than its line shows
abbrev pub EventShown : EventView → Type 0
EventShown (made t p what moment) = IsNumber t × IsNumber p × WhatShown what moment
EventShown (spawned t u kind result) = IsNumber t × IsNumber u × MaybeNumber result
EventShown (done t k b a) = IsNumber t × IsNumber k × BranchShown b × IsShown a
EventShown (met t k side p v w o) = IsNumber t × IsNumber k × IsNumber p × IsShown v × IsNumber w × IsNumber o
EventShown (parked t w bs) = IsNumber t × IsNumber w × Each BranchShown bs
EventShown (posted t w p v) = IsNumber t × IsNumber w × IsNumber p × IsShown v
EventShown (settled w k side p v) = IsNumber w × IsNumber k × IsNumber p × IsShown v
EventShown (defaulted t v) = IsNumber t × IsShown v
EventShown (closed t p) = IsNumber t × IsNumber p
EventShown (registered t name args v) = IsNumber t × SomeShown args × IsShown v
EventShown (printed t line) = IsNumber t
EventShown (ticked m ports) = IsNumber m × Each IsNumber ports
EventShown (over t Ended) = IsNumber t
EventShown (over t (Faulted fault place result)) = IsNumber t × IsNumber place.line × IsNumber place.column × MaybePort result

-- What every event of a run satisfies, whatever the bounds: its line leaves nothing out. A moment is that of a timeout,
-- ports stand where a line shows ports, and an operation on a registry has an argument.
abbrev pub IsSomePort : Tree → Type 0
IsSomePort (port n) = Unit {0}
IsSomePort v = ⊥

abbrev pub WhatTold : WhatView → Option ℕ → Type 0
WhatTold (timeout n) None = ⊥
WhatTold (timeout n) (Some k) = Unit {0}
WhatTold (mult source) m = IsSomePort source × (m ≡ None)
WhatTold (mix out changes) m = IsSomePort out × IsSomePort changes × (m ≡ None)
WhatTold (publication source) m = IsSomePort source × (m ≡ None)
WhatTold what m = m ≡ None

abbrev pub HasFirst : Trees → Type 0
HasFirst none = ⊥
HasFirst (item t ts) = Unit {0}

abbrev pub EventTold : EventView → Type 0
EventTold (made t p what moment) = WhatTold what moment
EventTold (registered t name args v) = HasFirst args
EventTold e = Unit {0}

-- The numbers of an event lie in 64 bits, those of the ports in its values among them. A run gives them out as it goes,
-- and the meaning leaves open which.
abbrev mutual
  pub PortsFit : Tree → Type 0
  PortsFit (vector ts) = AllPortsFit ts
  PortsFit (map ps) = PairsPortsFit ps
  PortsFit (port n) = IsNumber n
  PortsFit v = Unit {0}

  pub AllPortsFit : Trees → Type 0
  AllPortsFit none = Unit {0}
  AllPortsFit (item t ts) = PortsFit t × AllPortsFit ts

  pub PairsPortsFit : TreePairs → Type 0
  PairsPortsFit empty = Unit {0}
  PairsPortsFit (pair k v ps) = PortsFit k × PortsFit v × PairsPortsFit ps

abbrev pub WhatNumbered : WhatView → Option ℕ → Type 0
WhatNumbered (fixed n) m = IsNumber n
WhatNumbered (dropping n) m = IsNumber n
WhatNumbered (sliding n) m = IsNumber n
WhatNumbered (timeout n) m = IsNumber n × MaybeNumber m
WhatNumbered (mult source) m = PortsFit source
WhatNumbered (mix out changes) m = PortsFit out × PortsFit changes
WhatNumbered (publication source) m = PortsFit source
WhatNumbered what m = Unit {0}

abbrev pub BranchNumbered : BranchView → Type 0
BranchNumbered (take_of p) = IsNumber p
BranchNumbered (put_of p v) = IsNumber p × PortsFit v

abbrev pub IsEventNumbered : EventView → Type 0
IsEventNumbered (made t p what moment) = IsNumber t × IsNumber p × WhatNumbered what moment
IsEventNumbered (spawned t u kind result) = IsNumber t × IsNumber u × MaybeNumber result
IsEventNumbered (done t k b a) = IsNumber t × IsNumber k × BranchNumbered b × PortsFit a
IsEventNumbered (met t k side p v w o) = IsNumber t × IsNumber k × IsNumber p × PortsFit v × IsNumber w × IsNumber o
IsEventNumbered (parked t w bs) = IsNumber t × IsNumber w × Each BranchNumbered bs
IsEventNumbered (posted t w p v) = IsNumber t × IsNumber w × IsNumber p × PortsFit v
IsEventNumbered (settled w k side p v) = IsNumber w × IsNumber k × IsNumber p × PortsFit v
IsEventNumbered (defaulted t v) = IsNumber t × PortsFit v
IsEventNumbered (closed t p) = IsNumber t × IsNumber p
IsEventNumbered (registered t name args v) = IsNumber t × AllPortsFit args × PortsFit v
IsEventNumbered (printed t line) = IsNumber t
IsEventNumbered (ticked m ports) = IsNumber m × Each IsNumber ports
IsEventNumbered (over t Ended) = IsNumber t
IsEventNumbered (over t (Faulted fault place result)) = IsNumber t × IsNumber place.line × IsNumber place.column × MaybePort result

-- A run of a checked program whose constants a script can write, with its numbers within 64 bits.
pub record IsWrittenRun (journal : List EventView) : Type 0 where
  pub program : ProgramView
  pub checked : IsProgram program
  pub constants : ProgramHasScalars written program
  pub legal : Legal program journal
  pub numbered : Each IsEventNumbered journal
