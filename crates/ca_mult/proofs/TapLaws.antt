-- Taps along an answer's items.
use Rattle.std.proofs.Common.{◌≡◌, ◌≤◌, ◌<◌, length, arith, List, [], ◌∷◌, ◌++◌, Option, Some, None, refl, sym, ap, ◌∙◌, append_assoc}
use Rattle.ca_value.specs.Tree.{Tree, Trees, bool, vector, port, none, item}
use Rattle.ca_value.specs.View.{trees}
use Rattle.ca_value.specs.declared.value.Value.{Value}
use Rattle.ca_meaning.specs.Asks.{taps_of, with_tap}
use Rattle.ca_meaning.specs.Registry.{TapView}
use Rattle.ca_mult.specs.Taps.{tap_in}

-- a list of taps before those of the rest, where all of these are taps
abbrev pub behind : List TapView → Option (List TapView) → Option (List TapView)
behind ts None = None
behind ts (Some us) = Some (ts ++ us)

abbrev pub with_first : Option TapView → Option (List TapView) → Option (List TapView)
with_first None ts = None
with_first (Some t) ts = with_tap t.channel t.closes ts

pub tap_first : (v : Tree) (vs : Trees) → taps_of (item v vs) ≡ with_first (tap_in v) (taps_of vs)
tap_first (vector (item (port c) (item (bool z) none))) vs = refl
tap_first (vector (item a (item b (item c cs)))) vs = refl
tap_first (vector (item a (item b none))) vs = refl
tap_first (vector (item a none)) vs = refl
tap_first v vs = refl

behind_one : (ts : List TapView) (t : TapView) (us : Option (List TapView)) → behind (ts ++ t ∷ []) us ≡ behind ts (with_tap t.channel t.closes us)
behind_one ts t None = refl
behind_one ts t (Some us) = ap (λ (vs : List TapView). Some vs) (append_assoc ts (t ∷ []) us)

-- a further item that is a tap
pub tap_more : (ts : List TapView) (v : Tree) (vs : Trees) (t : TapView) → tap_in v ≡ Some t → behind (ts ++ t ∷ []) (taps_of vs) ≡ behind ts (taps_of (item v vs))
tap_more ts v vs t e = behind_one ts t (taps_of vs) ∙ ap (behind ts) (sym (tap_first v vs ∙ ap (λ o. with_first o (taps_of vs)) e))

-- and one that is none
pub tap_wrong : (v : Tree) (vs : Trees) → tap_in v ≡ None → taps_of (item v vs) ≡ None
tap_wrong v vs e = tap_first v vs ∙ ap (λ o. with_first o (taps_of vs)) e

-- a tap has two parts
pub fewer_than_two : (vs : List Value) → length vs < 2 → tap_in (vector (trees vs)) ≡ None
fewer_than_two [] h = refl
fewer_than_two (v ∷ []) h = refl
fewer_than_two (v ∷ w ∷ vs) h = absurd (omega arith)

pub more_than_two : (vs : List Value) → 3 ≤ length vs → tap_in (vector (trees vs)) ≡ None
more_than_two [] h = refl
more_than_two (v ∷ []) h = refl
more_than_two (v ∷ w ∷ []) h = absurd (omega arith)
more_than_two (v ∷ w ∷ u ∷ vs) h = refl
