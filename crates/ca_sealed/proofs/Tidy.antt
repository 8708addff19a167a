-- A tidy term: what the expansion writes in a scope of so many names, each binder taking the next number. The forms that
-- have hidden names stand in it whole, and nothing else in it has any.
use Rattle.std.proofs.Common.{◌≡◌, ◌⊎◌, ℕ, zero, suc, ◌+◌, ◌<◌, List, [], ◌∷◌, false}
use Rattle.ca_value.specs.Tree.{Tree, nil, key}
use Rattle.ca_value.specs.declared.builtin.Builtin.TheVariants.{Equal}
use Rattle.ca_term.specs.declared.place.Place.{Place}
use Rattle.ca_term.specs.declared.head.MakeKind.{MakeKind}
use Rattle.ca_term.specs.declared.head.SystemTask.{SystemTask}
use Rattle.ca_term.specs.declared.head.RegisterName.{RegisterName}
use Rattle.ca_term.specs.Kernel.{Kernel, Kernels, Bindings, const, var, branch, bind, loop, seq, frame, turn, apply, none, item, empty, binding}
use Rattle.ca_term.specs.Fits.{count_bindings}
use Rattle.ca_term.specs.View.{kernels_of}
use Rattle.ca_meaning.specs.Applied.{Work}
use Rattle.ca_forms.specs.Channels.{whole_number, built, make_call, spawn_call, register_call, nth_call, repeated}
use Rattle.ca_forms.specs.Meaning.{numbered}
use Rattle.ca_roles.specs.Roles.{no_roles, IsPublic}
use Rattle.ca_roles.specs.Sealed.{hides_in}

-- the further operands of a job
pub data HasKeyword : Tree → List Kernel → Type 0 where
  bare : HasKeyword nil []
  keyed : {s : List ℕ} → HasKeyword (key s) (const (key s) ∷ [])

-- The terms behind the operands of a form that has hidden names, and its body; the next number is m.
pub data Secret : ℕ → Bindings → Kernel → Type 0 where
  -- `mult`: a takes the acknowledgements
  of_mult : {m h a o : ℕ} {p : Place} → h < m → a ≡ m → o ≡ suc m → Secret m
      (numbered m (make_call MakeKind.Unbuffered [] p ∷ make_call MakeKind.Mult (var h ∷ []) p ∷ []))
      (seq (kernels_of (spawn_call SystemTask.Mult (var o ∷ var h ∷ var a ∷ []) p ∷ var o ∷ [])))
  -- the mult that `sub` places
  of_place : {q hp ht a o w : ℕ} {p : Place} → hp < q → ht < q → a ≡ suc q → o ≡ suc (suc q) → w ≡ suc (suc (suc q)) → Secret q
      (numbered q (make_call MakeKind.Unbuffered [] p ∷ make_call MakeKind.Unbuffered [] p ∷ make_call MakeKind.Mult (var q ∷ []) p
      ∷ register_call RegisterName.Place (var hp ∷ var ht ∷ var o ∷ var q ∷ []) p ∷ []))
      (seq (kernels_of (branch (built Equal (nth_call w 0 p ∷ var o ∷ []) p) (spawn_call SystemTask.Mult (var o ∷ var q ∷ var a ∷ []) p) (const nil) ∷ var w ∷ [])))
  -- `pipeline`: j takes the jobs of the work, q their reply ports
  of_pipeline : {m n t f z j q r i : ℕ} (w : Work) (ks : List Kernel) → HasKeyword w.keyword ks → n < m → t < m → f < m → z < m
      → j ≡ m → q ≡ suc m → r ≡ suc (suc m) → i ≡ suc (suc (suc m)) → Secret m
      (numbered m (make_call MakeKind.Fixed (var n ∷ []) w.place ∷ make_call MakeKind.Fixed (var n ∷ []) w.place ∷ make_call MakeKind.Fixed (whole_number 1 ∷ []) w.place ∷ []))
      (seq (kernels_of (repeated n i (spawn_call (SystemTask.Job w.transform w.function) (var j ∷ ks) w.place) w.place
      ∷ spawn_call SystemTask.Feed (var f ∷ var j ∷ var q ∷ []) w.place
      ∷ spawn_call SystemTask.Collect (var q ∷ var t ∷ var z ∷ var r ∷ []) w.place
      ∷ var r ∷ [])))

-- what stands behind so many bindings
abbrev pub behind : ℕ → Bindings → Bindings
behind zero bs = bs
behind (suc i) empty = empty
behind (suc i) (binding m t bs) = behind i bs

abbrev mutual
  pub Tidy : ℕ → Kernel → Type 0
  Tidy n (const v) = IsPublic no_roles v
  Tidy n (var m) = m < n
  Tidy n (branch c a b) = Tidy n c × Tidy n a × Tidy n b
  Tidy n (bind bs body) = (TidyBindings n bs × Tidy (n + count_bindings bs) body) ⊎ ((i : ℕ) × TidyFirst n bs i × Secret (n + i) (behind i bs) body)
  Tidy n (loop [] bs body) = TidyBindings n bs × Tidy (n + count_bindings bs) body
  Tidy n (loop (f ∷ fs) bs body) = ⊥
  Tidy n (seq ts) = TidyTerms n ts
  Tidy n (frame body) = ⊥
  Tidy n (turn names text now) = ⊥
  Tidy n (apply h ts p) = (hides_in h ts ≡ false) × TidyTerms n ts

  pub TidyTerms : ℕ → Kernels → Type 0
  TidyTerms n none = Unit {0}
  TidyTerms n (item t ts) = Tidy n t × TidyTerms n ts

  pub TidyBindings : ℕ → Bindings → Type 0
  TidyBindings n empty = Unit {0}
  TidyBindings n (binding m t bs) = (m ≡ n) × Tidy n t × TidyBindings (suc n) bs

  -- the first bindings, so many of them
  pub TidyFirst : ℕ → Bindings → ℕ → Type 0
  TidyFirst n bs zero = Unit {0}
  TidyFirst n empty (suc i) = ⊥
  TidyFirst n (binding m t bs) (suc i) = (m ≡ n) × Tidy n t × TidyFirst (suc n) bs i
