-- The names of the builtins in scripts. (Clojure reference, clojure.core.) `part`, `items` and
-- `worker-count` are hidden: a script can't name them.
use Rattle.std.specs.Prelude.{ℕ, List, Bool, true, false, codes}
use Rattle.ca_value.specs.declared.builtin.Builtin.{Builtin}

abbrev pub name_of : Builtin → List ℕ
name_of Builtin.Add = codes "+"
name_of Builtin.Multiply = codes "*"
name_of Builtin.Subtract = codes "-"
name_of Builtin.Inc = codes "inc"
name_of Builtin.Dec = codes "dec"
name_of Builtin.Quot = codes "quot"
name_of Builtin.Rem = codes "rem"
name_of Builtin.Mod = codes "mod"
name_of Builtin.Equal = codes "="
name_of Builtin.NotEqual = codes "not="
name_of Builtin.Less = codes "<"
name_of Builtin.Greater = codes ">"
name_of Builtin.LessOrEqual = codes "<="
name_of Builtin.GreaterOrEqual = codes ">="
name_of Builtin.Min = codes "min"
name_of Builtin.Max = codes "max"
name_of Builtin.Not = codes "not"
name_of Builtin.IsNil = codes "nil?"
name_of Builtin.IsSome = codes "some?"
name_of Builtin.IsTrue = codes "true?"
name_of Builtin.IsFalse = codes "false?"
name_of Builtin.IsZero = codes "zero?"
name_of Builtin.IsPos = codes "pos?"
name_of Builtin.IsNeg = codes "neg?"
name_of Builtin.IsEven = codes "even?"
name_of Builtin.IsOdd = codes "odd?"
name_of Builtin.Str = codes "str"
name_of Builtin.Vector = codes "vector"
name_of Builtin.HashMap = codes "hash-map"
name_of Builtin.Conj = codes "conj"
name_of Builtin.Nth = codes "nth"
name_of Builtin.Get = codes "get"
name_of Builtin.Count = codes "count"
name_of Builtin.IsEmpty = codes "empty?"
name_of Builtin.First = codes "first"
name_of Builtin.Last = codes "last"
name_of Builtin.Peek = codes "peek"
name_of Builtin.Pop = codes "pop"
name_of Builtin.Subvec = codes "subvec"
name_of Builtin.Assoc = codes "assoc"
name_of Builtin.Dissoc = codes "dissoc"
name_of Builtin.Keys = codes "keys"
name_of Builtin.Vals = codes "vals"
name_of Builtin.Contains = codes "contains?"
name_of Builtin.Range = codes "range"
name_of Builtin.Part = codes "part"
name_of Builtin.Items = codes "items"
name_of Builtin.WorkerCount = codes "worker-count"

abbrev pub is_hidden : Builtin → Bool
is_hidden Builtin.Part = true
is_hidden Builtin.Items = true
is_hidden Builtin.WorkerCount = true
is_hidden b = false
