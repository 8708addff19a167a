-- The answers of a publication's registry, item by item.
use Rattle.std.proofs.Common.{◌≡◌, ℕ, ◌≤◌, ◌<◌, length, arith, List, [], ◌∷◌, ◌++◌, Option, Some, None, refl, sym, ap, ◌∙◌, append_assoc}
use Rattle.ca_value.specs.Tree.{Tree, Trees, vector, port, none, item}
use Rattle.ca_value.specs.View.{view, trees}
use Rattle.ca_value.specs.declared.value.Value.{Value}
use Rattle.ca_meaning.specs.Asks.{ports_of, with_port, port_in}
use Rattle.ca_meaning.specs.PubTable.{channel_of_pair}

-- a list of ports before those of the rest, where all of these are ports
abbrev pub behind : List ℕ → Option (List ℕ) → Option (List ℕ)
behind ns None = None
behind ns (Some ms) = Some (ns ++ ms)

abbrev pub with_first : Option ℕ → Option (List ℕ) → Option (List ℕ)
with_first None ns = None
with_first (Some n) ns = with_port n ns

pub port_first : (v : Tree) (vs : Trees) → ports_of (item v vs) ≡ with_first (port_in v) (ports_of vs)
port_first (port n) vs = refl
port_first v vs = refl

behind_one : (ns : List ℕ) (n : ℕ) (ms : Option (List ℕ)) → behind (ns ++ n ∷ []) ms ≡ behind ns (with_port n ms)
behind_one ns n None = refl
behind_one ns n (Some ms) = ap (λ (l : List ℕ). Some l) (append_assoc ns (n ∷ []) ms)

-- a further item that is a port
pub port_more : (ns : List ℕ) (v : Tree) (vs : Trees) (n : ℕ) → port_in v ≡ Some n → behind (ns ++ n ∷ []) (ports_of vs) ≡ behind ns (ports_of (item v vs))
port_more ns v vs n e = behind_one ns n (ports_of vs) ∙ ap (behind ns) (sym (port_first v vs ∙ ap (λ o. with_first o (ports_of vs)) e))

-- and one that is none
pub port_wrong : (v : Tree) (vs : Trees) → port_in v ≡ None → ports_of (item v vs) ≡ None
port_wrong v vs e = port_first v vs ∙ ap (λ o. with_first o (ports_of vs)) e

third_is_one_more : (a b c : Tree) (vs : Trees) → channel_of_pair (vector (item a (item b (item c vs)))) ≡ None
third_is_one_more (port m) (port n) c vs = refl
third_is_one_more (port m) b c vs = refl
third_is_one_more a b c vs = refl

-- a pair has two parts
pub fewer_than_two : (vs : List Value) → length vs < 2 → channel_of_pair (vector (trees vs)) ≡ None
fewer_than_two [] h = refl
fewer_than_two (v ∷ []) h = by (view v)
  where
    by : (a : Tree) → channel_of_pair (vector (item a none)) ≡ None
    by (port n) = refl
    by a = refl
fewer_than_two (v ∷ w ∷ vs) h = absurd (omega arith)

pub more_than_two : (vs : List Value) → 3 ≤ length vs → channel_of_pair (vector (trees vs)) ≡ None
more_than_two [] h = absurd (omega arith)
more_than_two (v ∷ []) h = absurd (omega arith)
more_than_two (v ∷ w ∷ []) h = absurd (omega arith)
more_than_two (v ∷ w ∷ u ∷ vs) h = third_is_one_more (view v) (view w) (view u) (trees vs)
