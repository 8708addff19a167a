-- What holds of the terms of a checked program, besides that each name is bound: a `recur` stands in tail
-- position of its loop and has its arity; each function, builtin and go body is there and takes so many
-- values; the names that are bound on one path differ.
use Rattle.std.specs.Prelude.{◌≡◌, ℕ, zero, suc, ◌+◌, List, [], ◌∷◌, length, Option, Some, None, Bool, true, IsTrue}
use Rattle.ca_value.specs.Builtins.{admits_arguments}
use Rattle.ca_term.specs.declared.head.Head.{Head}
use Rattle.ca_term.specs.declared.head.Head.TheVariants.{Recur, Builtin, Call, Take, Put, Alts, Make, Spawn, Close, Register, Print, Post}
use Rattle.ca_term.specs.declared.head.SeedKind.{SeedKind}
use Rattle.ca_term.specs.declared.head.SystemTask.{SystemTask}
use Rattle.ca_term.specs.declared.head.SystemTask.TheVariants.{Mult, Deliver, Mix, Pub, Pipe, Merge, Onto, Feed, Job, Collect}
use Rattle.ca_term.specs.declared.head.PlainFunction.{PlainFunction}
use Rattle.ca_term.specs.Kernel.{Kernel, Kernels, Bindings, Founds, const, var, branch, bind, loop, seq, frame, turn, apply, none, item, empty, binding}
use Rattle.ca_term.specs.Closed.{IsIn, names_behind, behind_found}

-- what a term may name: of each function and of each go body how many values it takes, and which
-- functions are plain
pub record Known : Type 0 where
  pub functions : List ℕ
  pub bodies : List ℕ
  pub plain : ℕ → Bool

abbrev pub count_terms : Kernels → ℕ
count_terms none = 0
count_terms (item t ts) = suc (count_terms ts)

abbrev pub count_bindings : Bindings → ℕ
count_bindings empty = 0
count_bindings (binding n t bs) = suc (count_bindings bs)

-- the one of that number is there and takes so many values
abbrev pub Takes : List ℕ → ℕ → ℕ → Type 0
Takes [] n k = ⊥
Takes (a ∷ as') zero k = a ≡ k
Takes (a ∷ as') (suc n) k = Takes as' n k

-- a function that a system task can apply: it takes one value, and has no operation
abbrev pub IsApplicable : Known → PlainFunction → Type 0
IsApplicable known (PlainFunction.Defined n) = Takes known.functions n 1 × (known.plain n ≡ true)
IsApplicable known (PlainFunction.Builtin b) = IsTrue (admits_arguments b 1)
IsApplicable known PlainFunction.Keyword = Unit {0}

abbrev pub SuitsSystem : Known → SystemTask → Type 0
SuitsSystem known Mult = Unit {0}
SuitsSystem known Deliver = Unit {0}
SuitsSystem known Mix = Unit {0}
SuitsSystem known (Pub f) = IsApplicable known f
SuitsSystem known Pipe = Unit {0}
SuitsSystem known Merge = Unit {0}
SuitsSystem known Onto = Unit {0}
SuitsSystem known Feed = Unit {0}
SuitsSystem known (Job xf f) = IsApplicable known f
SuitsSystem known Collect = Unit {0}

-- A head over so many operands, where a `recur` takes as many values as the target says, or has none: what
-- can be told without the program.
abbrev pub IsOrderly : Option ℕ → Head → ℕ → Type 0
IsOrderly target Recur k = target ≡ Some k
IsOrderly target (Builtin b) k = IsTrue (admits_arguments b k)
IsOrderly target (Call n) k = Unit {0}
IsOrderly target Take k = Unit {0}
IsOrderly target Put k = Unit {0}
IsOrderly target (Alts options) k = Unit {0}
IsOrderly target (Make kind) k = Unit {0}
IsOrderly target (Spawn kind) k = Unit {0}
IsOrderly target Close k = Unit {0}
IsOrderly target (Register name) k = Unit {0}
IsOrderly target Print k = Unit {0}
IsOrderly target Post k = Unit {0}

-- the same, and what it names is there
abbrev pub Suits : Known → Option ℕ → Head → ℕ → Type 0
Suits known target Recur k = target ≡ Some k
Suits known target (Builtin b) k = IsTrue (admits_arguments b k)
Suits known target (Call n) k = Takes known.functions n k
Suits known target Take k = Unit {0}
Suits known target Put k = Unit {0}
Suits known target (Alts options) k = Unit {0}
Suits known target (Make kind) k = Unit {0}
Suits known target (Spawn (SeedKind.Go n)) k = Takes known.bodies n k
Suits known target (Spawn (SeedKind.System task)) k = SuitsSystem known task
Suits known target Close k = Unit {0}
Suits known target (Register name) k = Unit {0}
Suits known target Print k = Unit {0}
Suits known target Post k = Unit {0}

-- each head in the term suits; a tail position has the target of the whole
abbrev mutual
  pub Fits : (Option ℕ → Head → ℕ → Type 0) → Option ℕ → Kernel → Type 0
  Fits S target (const v) = Unit {0}
  Fits S target (var n) = Unit {0}
  Fits S target (branch c a b) = Fits S None c × Fits S target a × Fits S target b
  Fits S target (bind bs body) = FitBindings S bs × Fits S target body
  Fits S target (loop fs bs body) = FitBindings S bs × Fits S (Some (length fs + count_bindings bs)) body
  Fits S target (seq ts) = FitInOrder S target ts
  Fits S target (frame body) = Fits S None body
  Fits S target (turn names text now) = Fits S (Some (length names)) text × Fits S (Some (length names)) now
  Fits S target (apply h ts p) = S target h (count_terms ts) × FitTerms S ts

  pub FitTerms : (Option ℕ → Head → ℕ → Type 0) → Kernels → Type 0
  FitTerms S none = Unit {0}
  FitTerms S (item t ts) = Fits S None t × FitTerms S ts

  -- the last one stands in tail position
  pub FitInOrder : (Option ℕ → Head → ℕ → Type 0) → Option ℕ → Kernels → Type 0
  FitInOrder S target none = Unit {0}
  FitInOrder S target (item t none) = Fits S target t
  FitInOrder S target (item t (item u us)) = Fits S None t × FitInOrder S target (item u us)

  pub FitBindings : (Option ℕ → Head → ℕ → Type 0) → Bindings → Type 0
  FitBindings S empty = Unit {0}
  FitBindings S (binding n t bs) = Fits S None t × FitBindings S bs

-- a new name
abbrev pub IsNewName : ℕ → List ℕ → Type 0
IsNewName n ns = IsIn n ns → ⊥

abbrev pub AreNewFound : List ℕ → Founds → Type 0
AreNewFound ns [] = Unit {0}
AreNewFound ns (f ∷ fs) = IsNewName f.0 ns × AreNewFound (f.0 ∷ ns) fs

-- no name in scope is bound again
abbrev mutual
  pub BindsAnew : List ℕ → Kernel → Type 0
  BindsAnew ns (const v) = Unit {0}
  BindsAnew ns (var n) = Unit {0}
  BindsAnew ns (branch c a b) = BindsAnew ns c × BindsAnew ns a × BindsAnew ns b
  BindsAnew ns (bind bs body) = BindingsAnew ns bs × BindsAnew (names_behind bs ns) body
  BindsAnew ns (loop fs bs body) = AreNewFound ns fs × BindingsAnew (behind_found fs ns) bs × BindsAnew (names_behind bs (behind_found fs ns)) body
  BindsAnew ns (seq ts) = TermsAnew ns ts
  BindsAnew ns (frame body) = BindsAnew [] body
  BindsAnew ns (turn names text now) = BindsAnew names text × BindsAnew [] now
  BindsAnew ns (apply h ts p) = TermsAnew ns ts

  pub TermsAnew : List ℕ → Kernels → Type 0
  TermsAnew ns none = Unit {0}
  TermsAnew ns (item t ts) = BindsAnew ns t × TermsAnew ns ts

  pub BindingsAnew : List ℕ → Bindings → Type 0
  BindingsAnew ns empty = Unit {0}
  BindingsAnew ns (binding n t bs) = IsNewName n ns × BindsAnew ns t × BindingsAnew (n ∷ ns) bs

-- without an operation, and with calls of plain functions alone
abbrev pub IsPlainHead : (ℕ → Bool) → Head → Type 0
IsPlainHead plain Recur = Unit {0}
IsPlainHead plain (Builtin b) = Unit {0}
IsPlainHead plain (Call n) = plain n ≡ true
IsPlainHead plain Take = ⊥
IsPlainHead plain Put = ⊥
IsPlainHead plain (Alts options) = ⊥
IsPlainHead plain (Make kind) = ⊥
IsPlainHead plain (Spawn kind) = ⊥
IsPlainHead plain Close = ⊥
IsPlainHead plain (Register name) = ⊥
IsPlainHead plain Print = ⊥
IsPlainHead plain Post = ⊥

abbrev mutual
  pub IsPlain : (ℕ → Bool) → Kernel → Type 0
  IsPlain plain (const v) = Unit {0}
  IsPlain plain (var n) = Unit {0}
  IsPlain plain (branch c a b) = IsPlain plain c × IsPlain plain a × IsPlain plain b
  IsPlain plain (bind bs body) = ArePlainBindings plain bs × IsPlain plain body
  IsPlain plain (loop fs bs body) = ArePlainBindings plain bs × IsPlain plain body
  IsPlain plain (seq ts) = ArePlain plain ts
  IsPlain plain (frame body) = IsPlain plain body
  IsPlain plain (turn names text now) = IsPlain plain text × IsPlain plain now
  IsPlain plain (apply h ts p) = IsPlainHead plain h × ArePlain plain ts

  pub ArePlain : (ℕ → Bool) → Kernels → Type 0
  ArePlain plain none = Unit {0}
  ArePlain plain (item t ts) = IsPlain plain t × ArePlain plain ts

  pub ArePlainBindings : (ℕ → Bool) → Bindings → Type 0
  ArePlainBindings plain empty = Unit {0}
  ArePlainBindings plain (binding n t bs) = IsPlain plain t × ArePlainBindings plain bs
