-- The builtin that a name names is the only one that a script can name so.
use Rattle.std.proofs.Common.{◌≡◌, ◌≢◌, ℕ, List, [], ◌∷◌, Option, None, Some, Bool, true, false, cond, refl, sym, ap, ◌∙◌, find}
use Rattle.std.proofs.lemmas.Slice.Eq.{bytes_eq-Decides}
use Rattle.std.specs.Str.{bytes_eq}
use Rattle.ca_value.specs.declared.builtin.Builtin.{Builtin}
use Rattle.ca_value.specs.Names.{name_of, is_hidden}
use Rattle.ca_forms.specs.Words.{builtin, builtins}

pub builtin_back : (b : Builtin) → is_hidden b ≡ false → builtin (name_of b) ≡ Some b
builtin_back Builtin.Add h = refl
builtin_back Builtin.Multiply h = refl
builtin_back Builtin.Subtract h = refl
builtin_back Builtin.Inc h = refl
builtin_back Builtin.Dec h = refl
builtin_back Builtin.Quot h = refl
builtin_back Builtin.Rem h = refl
builtin_back Builtin.Mod h = refl
builtin_back Builtin.Equal h = refl
builtin_back Builtin.NotEqual h = refl
builtin_back Builtin.Less h = refl
builtin_back Builtin.Greater h = refl
builtin_back Builtin.LessOrEqual h = refl
builtin_back Builtin.GreaterOrEqual h = refl
builtin_back Builtin.Min h = refl
builtin_back Builtin.Max h = refl
builtin_back Builtin.Not h = refl
builtin_back Builtin.IsNil h = refl
builtin_back Builtin.IsSome h = refl
builtin_back Builtin.IsTrue h = refl
builtin_back Builtin.IsFalse h = refl
builtin_back Builtin.IsZero h = refl
builtin_back Builtin.IsPos h = refl
builtin_back Builtin.IsNeg h = refl
builtin_back Builtin.IsEven h = refl
builtin_back Builtin.IsOdd h = refl
builtin_back Builtin.Str h = refl
builtin_back Builtin.Vector h = refl
builtin_back Builtin.HashMap h = refl
builtin_back Builtin.Conj h = refl
builtin_back Builtin.Nth h = refl
builtin_back Builtin.Get h = refl
builtin_back Builtin.Count h = refl
builtin_back Builtin.IsEmpty h = refl
builtin_back Builtin.First h = refl
builtin_back Builtin.Last h = refl
builtin_back Builtin.Peek h = refl
builtin_back Builtin.Pop h = refl
builtin_back Builtin.Subvec h = refl
builtin_back Builtin.Assoc h = refl
builtin_back Builtin.Dissoc h = refl
builtin_back Builtin.Keys h = refl
builtin_back Builtin.Vals h = refl
builtin_back Builtin.Contains h = refl
builtin_back Builtin.Range h = refl
builtin_back Builtin.Part h = cc
builtin_back Builtin.Items h = cc
builtin_back Builtin.WorkerCount h = cc

abbrev all_shown : List Builtin → Bool
all_shown [] = true
all_shown (b ∷ bs) = cond (is_hidden b) false (all_shown bs)

none_named : (s : List ℕ) (bs : List Builtin) → all_shown bs ≡ true → ((b : Builtin) → is_hidden b ≡ false → name_of b ≢ s)
    → find (λ b. bytes_eq s (name_of b)) bs ≡ None
none_named s [] t h = refl
none_named s (b ∷ bs) t h = by (is_hidden b) (bytes_eq s (name_of b)) t (h b) (bytes_eq-Decides s (name_of b)).0 (λ u. none_named s bs u h) where
  by : (q r : Bool) → cond q false (all_shown bs) ≡ true → (q ≡ false → name_of b ≢ s) → (r ≡ true → s ≡ name_of b)
      → (all_shown bs ≡ true → find (λ b. bytes_eq s (name_of b)) bs ≡ None) → cond r (Some b) (find (λ b. bytes_eq s (name_of b)) bs) ≡ None
  by true r t d e ih = cc
  by false true t d e ih = absurd (d refl (sym (e refl)))
  by false false t d e ih = ih t

pub builtin_missing : (s : List ℕ) → ((b : Builtin) → is_hidden b ≡ false → name_of b ≢ s) → builtin s ≡ None
builtin_missing s h = none_named s builtins refl h

-- what a search that finds a builtin, or knows that there is none, answers
pub builtin_is : (s : List ℕ) (r : Option Builtin) → ((b : Builtin) → r ≡ Some b → (name_of b ≡ s) × (is_hidden b ≡ false))
    → (r ≡ None → (b : Builtin) → is_hidden b ≡ false → name_of b ≢ s) → r ≡ builtin s
builtin_is s None f m = sym (builtin_missing s (m refl))
builtin_is s (Some b) f m = let h = f b refl in sym (ap builtin (sym h.0) ∙ builtin_back b h.1)
