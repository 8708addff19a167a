-- The builtins that have a name in scripts, one by one.
use Rattle.std.proofs.Common.{◌≡◌, ◌<◌, ℕ, zero, suc, Bool, true, false, not, ◌&&◌, List, [], ◌∷◌, length, get_or, refl, ap, sym, ◌∙◌, arith}
use Rattle.std.specs.Prelude.{Contains}
use Rattle.ca_value.specs.declared.builtin.Builtin.{Builtin}
use Rattle.ca_value.specs.Names.{is_hidden}

abbrev pub visible : List Builtin
visible = Builtin.Add ∷ Builtin.Multiply ∷ Builtin.Subtract ∷ Builtin.Inc ∷ Builtin.Dec ∷ Builtin.Quot ∷ Builtin.Rem ∷ Builtin.Mod ∷ Builtin.Equal ∷ Builtin.NotEqual ∷ Builtin.Less ∷ Builtin.Greater ∷ Builtin.LessOrEqual ∷ Builtin.GreaterOrEqual ∷ Builtin.Min ∷ Builtin.Max ∷ Builtin.Not ∷ Builtin.IsNil ∷ Builtin.IsSome ∷ Builtin.IsTrue ∷ Builtin.IsFalse ∷ Builtin.IsZero ∷ Builtin.IsPos ∷ Builtin.IsNeg ∷ Builtin.IsEven ∷ Builtin.IsOdd ∷ Builtin.Str ∷ Builtin.Vector ∷ Builtin.HashMap ∷ Builtin.Conj ∷ Builtin.Nth ∷ Builtin.Get ∷ Builtin.Count ∷ Builtin.IsEmpty ∷ Builtin.First ∷ Builtin.Last ∷ Builtin.Peek ∷ Builtin.Pop ∷ Builtin.Subvec ∷ Builtin.Assoc ∷ Builtin.Dissoc ∷ Builtin.Keys ∷ Builtin.Vals ∷ Builtin.Contains ∷ Builtin.Range ∷ []

are_visible : List Builtin → Bool
are_visible [] = true
are_visible (b ∷ bs) = not (is_hidden b) && are_visible bs

one_visible : (b c : Bool) → (not b && c) ≡ true → (b ≡ false) × (c ≡ true)
one_visible true c e = cc
one_visible false c e = (refl, e)

visible_at : (bs : List Builtin) → are_visible bs ≡ true → (k : ℕ) (d : Builtin) → k < length bs → is_hidden (get_or bs k d) ≡ false
unfolding are_visible
visible_at [] e k d h = absurd (omega arith)
visible_at (b ∷ bs) e zero d h = (one_visible (is_hidden b) (are_visible bs) e).0
visible_at (b ∷ bs) e (suc k) d h = visible_at bs (one_visible (is_hidden b) (are_visible bs) e).1 k d (omega arith)

all_visible : are_visible visible ≡ true
unfolding are_visible
all_visible = refl

-- a builtin of the list can be named
pub visible_in : (b : Builtin) → Contains visible b → is_hidden b ≡ false
visible_in b (k, h, e) = ap is_hidden (sym e) ∙ visible_at visible all_visible k b h

-- and one that can be named is in the list
pub placed : (b : Builtin) → is_hidden b ≡ false → (k : ℕ) × (k < length visible) × (get_or visible k b ≡ b)
placed Builtin.Add h = (0, omega arith, refl)
placed Builtin.Multiply h = (1, omega arith, refl)
placed Builtin.Subtract h = (2, omega arith, refl)
placed Builtin.Inc h = (3, omega arith, refl)
placed Builtin.Dec h = (4, omega arith, refl)
placed Builtin.Quot h = (5, omega arith, refl)
placed Builtin.Rem h = (6, omega arith, refl)
placed Builtin.Mod h = (7, omega arith, refl)
placed Builtin.Equal h = (8, omega arith, refl)
placed Builtin.NotEqual h = (9, omega arith, refl)
placed Builtin.Less h = (10, omega arith, refl)
placed Builtin.Greater h = (11, omega arith, refl)
placed Builtin.LessOrEqual h = (12, omega arith, refl)
placed Builtin.GreaterOrEqual h = (13, omega arith, refl)
placed Builtin.Min h = (14, omega arith, refl)
placed Builtin.Max h = (15, omega arith, refl)
placed Builtin.Not h = (16, omega arith, refl)
placed Builtin.IsNil h = (17, omega arith, refl)
placed Builtin.IsSome h = (18, omega arith, refl)
placed Builtin.IsTrue h = (19, omega arith, refl)
placed Builtin.IsFalse h = (20, omega arith, refl)
placed Builtin.IsZero h = (21, omega arith, refl)
placed Builtin.IsPos h = (22, omega arith, refl)
placed Builtin.IsNeg h = (23, omega arith, refl)
placed Builtin.IsEven h = (24, omega arith, refl)
placed Builtin.IsOdd h = (25, omega arith, refl)
placed Builtin.Str h = (26, omega arith, refl)
placed Builtin.Vector h = (27, omega arith, refl)
placed Builtin.HashMap h = (28, omega arith, refl)
placed Builtin.Conj h = (29, omega arith, refl)
placed Builtin.Nth h = (30, omega arith, refl)
placed Builtin.Get h = (31, omega arith, refl)
placed Builtin.Count h = (32, omega arith, refl)
placed Builtin.IsEmpty h = (33, omega arith, refl)
placed Builtin.First h = (34, omega arith, refl)
placed Builtin.Last h = (35, omega arith, refl)
placed Builtin.Peek h = (36, omega arith, refl)
placed Builtin.Pop h = (37, omega arith, refl)
placed Builtin.Subvec h = (38, omega arith, refl)
placed Builtin.Assoc h = (39, omega arith, refl)
placed Builtin.Dissoc h = (40, omega arith, refl)
placed Builtin.Keys h = (41, omega arith, refl)
placed Builtin.Vals h = (42, omega arith, refl)
placed Builtin.Contains h = (43, omega arith, refl)
placed Builtin.Range h = (44, omega arith, refl)
placed Builtin.Part h = cc
placed Builtin.Items h = cc
placed Builtin.WorkerCount h = cc
