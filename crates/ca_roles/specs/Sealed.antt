-- Sealed texts: in them no hidden port and no hidden name stands but where it is made, and as an operand of the Spawns
-- that it is for. (What the forms `mult`, `sub` and `pipeline` mean.)
use Rattle.std.specs.Prelude.{◌≡◌, ℕ, List, [], ◌∷◌, ◌⊎◌, All, Some, None, Bool, true, false, not, ◌||◌, ◌&&◌, ◌==◌}
use Rattle.ca_value.specs.Tree.{Tree, nil, port}
use Rattle.ca_term.specs.declared.place.Place.{Place}
use Rattle.ca_term.specs.declared.head.Head.{Head}
use Rattle.ca_term.specs.declared.head.Head.TheVariants.{Make, Spawn}
use Rattle.ca_term.specs.declared.head.SeedKind.TheVariants.{System}
use Rattle.ca_term.specs.declared.head.MakeKind.{MakeKind}
use Rattle.ca_term.specs.declared.head.MakeKind.TheVariants.{Unbuffered, Fixed}
use Rattle.ca_term.specs.declared.head.SystemTask.TheVariants.{Mult, Deliver, Onto, Feed, Job, Collect}
use Rattle.ca_term.specs.Fits.{count_terms}
use Rattle.ca_term.specs.Kernel.{Kernel, Kernels, Bindings, Founds, const, var, branch, bind, loop, seq, frame, turn, apply, none, item, empty, binding}
use Rattle.ca_term.specs.Program.{ProcedureView, ProgramView}
use Rattle.ca_meaning.specs.Applied.{Work}
use Rattle.ca_roles.specs.Roles.{Hidden, jobs, replies, reply, acks, Role, public, hidden, Roles, no_roles, known_as, IsPublic}

-- of the running task: a hidden port itself, which that task made
abbrev pub IsHiddenPort : ℕ → Roles → Hidden → Kernel → Type 0
IsHiddenPort me roles h t = (n : ℕ) × (t ≡ const (port n)) × (roles n ≡ Some (hidden me h))

-- at the place of a hidden operand stands its name, or the port itself
abbrev pub IsNamed : ℕ → Roles → Roles → Role → Kernel → Type 0
IsNamed me roles scope public t = ⊥
IsNamed me roles scope (hidden u h) t = (u ≡ me) × (IsHiddenPort me roles h t ⊎ ((n : ℕ) × (t ≡ var n) × (scope n ≡ Some (hidden me h))))

abbrev pub HiddenOperand : ℕ → Roles → Roles → Role → Kernel → Type 0 → Type 0
HiddenOperand me roles scope public t P = P
HiddenOperand me roles scope (hidden u h) t P = IsNamed me roles scope (hidden u h) t

-- a channel for it has such a buffer
abbrev pub HasHiddenBuffer : Hidden → MakeKind → Type 0
HasHiddenBuffer (jobs w) kind = kind ≡ Fixed
HasHiddenBuffer (replies w) kind = kind ≡ Fixed
HasHiddenBuffer (reply w v) kind = ⊥
HasHiddenBuffer acks kind = kind ≡ Unbuffered

-- a new channel for it
abbrev pub IsMake : Hidden → Kernel → Type 0
IsMake h t = (kind : MakeKind) × (ts : Kernels) × (p : Place) × (t ≡ apply (Make kind) ts p) × HasHiddenBuffer h kind

-- a hidden name is bound to a new channel, or by now to the port that was made
abbrev pub IsHiddenBound : ℕ → Roles → Role → Kernel → Type 0 → Type 0
IsHiddenBound me roles public t P = P
IsHiddenBound me roles (hidden u h) t P = (u ≡ me) × ((IsMake h t × P) ⊎ IsHiddenPort me roles h t)

-- a job's keyword is written there
pub data KeywordIs : Tree → Kernels → Type 0 where
  no_keyword : {j : Kernel} → KeywordIs nil (item j none)
  a_keyword : {j : Kernel} {k : Tree} → KeywordIs k (item j (item (const k) none))

-- the forms that have hidden operands
abbrev pub hides : Head → Bool
hides (Spawn (System (Job x f))) = true
hides (Spawn (System Feed)) = true
hides (Spawn (System Collect)) = true
hides (Spawn (System Mult)) = true
hides (Spawn (System Deliver)) = true
hides h = false

-- four operands, so that the last is the fourth
abbrev pub is_four : Kernels → Bool
is_four ts = count_terms ts == 4

-- the last operand of an onto is its result port
abbrev pub is_onto : Head → Bool
is_onto (Spawn (System Onto)) = true
is_onto h = false

-- the form has hidden operands, or is an onto without its four operands
abbrev pub hides_in : Head → Kernels → Bool
hides_in h ts = hides h || (is_onto h && not (is_four ts))

-- Which of a form's first operands are hidden, and for what. No text starts a delivery.
pub data HasMask : ℕ → Head → Place → Kernels → List Role → Type 0 where
  plain : {me : ℕ} {h : Head} {p : Place} {ts : Kernels} → hides_in h ts ≡ false → HasMask me h p ts []
  of_job : {me : ℕ} (w : Work) {ts : Kernels} → KeywordIs w.keyword ts → HasMask me (Spawn (System (Job w.transform w.function))) w.place ts (hidden me (jobs w) ∷ [])
  of_feed : {me : ℕ} (w : Work) {p : Place} {ts : Kernels} → HasMask me (Spawn (System Feed)) p ts (public ∷ hidden me (jobs w) ∷ hidden me (replies w) ∷ [])
  of_collect : {me : ℕ} (w : Work) {p : Place} {a b c d : Kernel} → HasMask me (Spawn (System Collect)) p (item a (item b (item c (item d none)))) (hidden me (replies w) ∷ [])
  of_mult : {me : ℕ} {p : Place} {ts : Kernels} → HasMask me (Spawn (System Mult)) p ts (public ∷ public ∷ hidden me acks ∷ [])

-- values found so far, each of a new name
abbrev pub SealedFounds : Roles → Founds → Roles → Roles → Type 0
SealedFounds roles [] scope behind = behind ≡ scope
SealedFounds roles (f ∷ fs) scope behind = IsPublic roles f.1 × (scope f.0 ≡ None) × SealedFounds roles fs (known_as scope f.0 public) behind

abbrev pub all_public : List ℕ → Roles
all_public [] = no_roles
all_public (n ∷ ns) = known_as (all_public ns) n public

-- A term that task me runs, with the roles of the ports and of the names in scope. Each binder binds a new name.
abbrev mutual
  pub Sealed : ℕ → Roles → Kernel → Roles → Type 0
  Sealed me roles (const v) scope = IsPublic roles v
  Sealed me roles (var n) scope = scope n ≡ Some public
  Sealed me roles (branch c a b) scope = Sealed me roles c scope × Sealed me roles a scope × Sealed me roles b scope
  Sealed me roles (bind bs body) scope = (inner : Roles) × SealedBindings me roles bs scope inner × Sealed me roles body inner
  Sealed me roles (loop fs bs body) scope = (mid inner : Roles) × SealedInits me roles bs scope mid × SealedFounds roles fs mid inner × Sealed me roles body inner
  Sealed me roles (seq ts) scope = AllSealed me roles [] ts scope
  Sealed me roles (frame body) scope = Sealed me roles body no_roles
  Sealed me roles (turn ns again now) scope = Sealed me roles again (all_public ns) × Sealed me roles now no_roles
  Sealed me roles (apply h ts p) scope = (mask : List Role) × HasMask me h p ts mask × AllSealed me roles mask ts scope

  pub AllSealed : ℕ → Roles → List Role → Kernels → Roles → Type 0
  AllSealed me roles mask none scope = Unit {0}
  AllSealed me roles [] (item t ts) scope = Sealed me roles t scope × AllSealed me roles [] ts scope
  AllSealed me roles (r ∷ mask) (item t ts) scope = HiddenOperand me roles scope r t (Sealed me roles t scope) × AllSealed me roles mask ts scope

  -- from the scope before the bindings to the one behind them
  pub SealedBindings : ℕ → Roles → Bindings → Roles → Roles → Type 0
  SealedBindings me roles empty scope inner = inner ≡ scope
  SealedBindings me roles (binding n t bs) scope inner = (r : Role) × IsHiddenBound me roles r t (Sealed me roles t scope) × (scope n ≡ None) × SealedBindings me roles bs (known_as scope n r) inner

  pub SealedInits : ℕ → Roles → Bindings → Roles → Roles → Type 0
  SealedInits me roles empty scope inner = inner ≡ scope
  SealedInits me roles (binding n t bs) scope inner = Sealed me roles t scope × (scope n ≡ None) × SealedInits me roles bs (known_as scope n public) inner

-- a text with these parameters, whatever task runs it
abbrev pub IsSealedProcedure : ProcedureView → Type 0
IsSealedProcedure t = (me : ℕ) → Sealed me no_roles t.body (all_public t.parameters)

pub record IsSealed (program : ProgramView) : Type 0 where
  pub functions : All IsSealedProcedure program.functions
  pub bodies : All IsSealedProcedure program.bodies
  pub main : (me : ℕ) → Sealed me no_roles program.main no_roles
