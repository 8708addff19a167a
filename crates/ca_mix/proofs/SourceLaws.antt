-- Sources along an answer's items.
use Rattle.std.proofs.Common.{◌≡◌, ◌≤◌, ◌<◌, ◌||◌, Bool, true, false, not, cond, length, filter, map, arith, List, [], ◌∷◌, ◌++◌, Option, Some, None, refl, sym, ap, ◌∙◌, append_assoc}
use Rattle.ca_value.specs.Tree.{Tree, Trees, bool, vector, port, none, item}
use Rattle.ca_value.specs.View.{trees}
use Rattle.ca_value.specs.declared.value.Value.{Value}
use Rattle.ca_meaning.specs.Registry.{Source}
use Rattle.ca_meaning.specs.MixTable.{soloed, sources_of, with_source}
use Rattle.ca_mix.specs.Readings.{source_in, channels_where, is_heard, is_read}

-- a list of sources before those of the rest, where all of these are sources
abbrev pub behind : List Source → Option (List Source) → Option (List Source)
behind xs None = None
behind xs (Some ys) = Some (xs ++ ys)

abbrev pub with_first : Option Source → Option (List Source) → Option (List Source)
with_first None xs = None
with_first (Some x) xs = with_source x xs

source_first : (v : Tree) (vs : Trees) → sources_of (item v vs) ≡ with_first (source_in v) (sources_of vs)
source_first (vector (item (port c) (item (bool m) (item (bool p) (item (bool s) none))))) vs = refl
source_first (vector (item a (item b (item c (item d (item e es)))))) vs = refl
source_first (vector (item a (item b (item c (item d none))))) vs = refl
source_first (vector (item a (item b (item c none)))) vs = refl
source_first (vector (item a (item b none))) vs = refl
source_first (vector (item a none)) vs = refl
source_first v vs = refl

behind_one : (xs : List Source) (x : Source) (ys : Option (List Source)) → behind (xs ++ x ∷ []) ys ≡ behind xs (with_source x ys)
behind_one xs x None = refl
behind_one xs x (Some ys) = ap (λ (zs : List Source). Some zs) (append_assoc xs (x ∷ []) ys)

-- a further item that is a source
pub source_more : (xs : List Source) (v : Tree) (vs : Trees) (x : Source) → source_in v ≡ Some x → behind (xs ++ x ∷ []) (sources_of vs) ≡ behind xs (sources_of (item v vs))
source_more xs v vs x e = behind_one xs x (sources_of vs) ∙ ap (behind xs) (sym (source_first v vs ∙ ap (λ o. with_first o (sources_of vs)) e))

-- and one that is none
pub source_wrong : (v : Tree) (vs : Trees) → source_in v ≡ None → sources_of (item v vs) ≡ None
source_wrong v vs e = source_first v vs ∙ ap (λ o. with_first o (sources_of vs)) e

-- a source has four parts
pub fewer_than_four : (vs : List Value) → length vs < 4 → source_in (vector (trees vs)) ≡ None
fewer_than_four [] h = refl
fewer_than_four (a ∷ []) h = refl
fewer_than_four (a ∷ b ∷ []) h = refl
fewer_than_four (a ∷ b ∷ c ∷ []) h = refl
fewer_than_four (a ∷ b ∷ c ∷ d ∷ vs) h = absurd (omega arith)

pub more_than_four : (vs : List Value) → 5 ≤ length vs → source_in (vector (trees vs)) ≡ None
more_than_four [] h = refl
more_than_four (a ∷ []) h = refl
more_than_four (a ∷ b ∷ []) h = refl
more_than_four (a ∷ b ∷ c ∷ []) h = refl
more_than_four (a ∷ b ∷ c ∷ d ∷ []) h = absurd (omega arith)
more_than_four (a ∷ b ∷ c ∷ d ∷ e ∷ vs) h = refl

-- soloed ones alone, or all those that pass
pub read_ones : (solo_alone : Bool) (xs : List Source) → channels_where (is_read solo_alone) xs ≡ map (λ x. x.channel) (cond solo_alone (soloed xs) (filter (λ x. x.solo || not x.pause) xs))
read_ones true xs = refl
read_ones false xs = refl

pub heard_ones : (solo_alone : Bool) (xs : List Source) → channels_where (is_heard solo_alone) xs ≡ map (λ x. x.channel) (cond solo_alone (soloed xs) (filter (λ x. not x.mute) xs))
heard_ones true xs = refl
heard_ones false xs = refl
