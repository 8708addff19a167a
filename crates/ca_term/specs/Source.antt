-- A term as a script's text gives it: nothing in it runs yet, and its constants are what a script can write.
use Rattle.std.specs.Prelude.{◌≡◌, ℕ, ◌≤◌, List, [], ◌∷◌, length}
use Rattle.ca_value.specs.Tree.{Tree, nil, bool, int, text, key, vector, map, port}
use Rattle.ca_term.specs.declared.head.Head.{Head}
use Rattle.ca_term.specs.declared.head.Head.TheVariants.{Register}
use Rattle.ca_term.specs.Fits.{count_terms}
use Rattle.ca_term.specs.Kernel.{Kernel, Kernels, Bindings, const, var, branch, bind, loop, seq, frame, turn, apply, none, item, empty, binding}

-- a constant: a scalar, and a text or a keyword of at most 65,535 bytes
abbrev pub IsLiteral : Tree → Type 0
IsLiteral nil = Unit {0}
IsLiteral (bool b) = Unit {0}
IsLiteral (int z) = Unit {0}
IsLiteral (text s) = length s ≤ 65_535
IsLiteral (key s) = length s ≤ 65_535
IsLiteral (vector ts) = ⊥
IsLiteral (map ps) = ⊥
IsLiteral (port n) = ⊥

-- an operation on a registry has at most four operands
abbrev pub IsFew : Head → ℕ → Type 0
IsFew (Register name) k = k ≤ 4
IsFew h k = Unit {0}

-- no call and no turn of a loop has begun in it
abbrev mutual
  pub IsSource : Kernel → Type 0
  IsSource (const v) = IsLiteral v
  IsSource (var x) = Unit {0}
  IsSource (branch c a b) = IsSource c × IsSource a × IsSource b
  IsSource (bind bs body) = AreSourceBindings bs × IsSource body
  IsSource (loop fs bs body) = (fs ≡ []) × AreSourceBindings bs × IsSource body
  IsSource (seq ts) = AreSource ts
  IsSource (frame body) = ⊥
  IsSource (turn ns whole now) = ⊥
  IsSource (apply f ts p) = IsFew f (count_terms ts) × AreSource ts

  pub AreSource : Kernels → Type 0
  AreSource none = Unit {0}
  AreSource (item t ts) = IsSource t × AreSource ts

  pub AreSourceBindings : Bindings → Type 0
  AreSourceBindings empty = Unit {0}
  AreSourceBindings (binding n t bs) = IsSource t × AreSourceBindings bs
