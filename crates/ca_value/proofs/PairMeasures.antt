-- How the measures of pairs go on.
use Rattle.std.proofs.Common.{◌≡◌, ◌≤◌, ◌<◌, ℕ, zero, suc, length, ◌+◌, List, [], ◌∷◌, ◌++◌, max, arith}
use Rattle.std.specs.Prelude.{slice_set, slice_index_or}
use Rattle.std.proofs.lemmas.List.{map_push}
use Rattle.ca_value.specs.Tree.{Tree, nil, pairs_of}
use Rattle.ca_value.specs.Measure.{weight_of, depth_of, weight_of_pairs, depth_of_pairs}
use Rattle.ca_value.specs.declared.value.Pair.{Pair}
use Rattle.ca_value.specs.View.{pair_view, pair_views}
use Rattle.ca_value.specs.Measured.{capped, ArePairsMeasured, IsDepthAfter}

weight-append : (ps : List (Tree × Tree)) (p : Tree × Tree) → weight_of_pairs (pairs_of (ps ++ p ∷ [])) ≡ weight_of_pairs (pairs_of ps) + (weight_of p.0 + weight_of p.1)
weight-append [] p = omega arith
weight-append (q ∷ ps) p = omega (arith, weight-append ps p)

depth-append : (ps : List (Tree × Tree)) (p : Tree × Tree) → depth_of_pairs (pairs_of (ps ++ p ∷ [])) ≡ max (depth_of_pairs (pairs_of ps)) (max (depth_of p.0) (depth_of p.1))
depth-append [] p = omega arith
depth-append (q ∷ ps) p = omega (arith, depth-append ps p)

measured-append : (ps : List (Tree × Tree)) (p : Tree × Tree) (w d w' d' : ℕ) → ArePairsMeasured ps w d →
    w' ≡ capped (w + capped (weight_of p.0 + weight_of p.1)) → d' ≡ max d (capped (max (depth_of p.0) (depth_of p.1))) → ArePairsMeasured (ps ++ p ∷ []) w' d'
measured-append ps p w d w' d' m e f = record {
  weighs = omega (arith, weight-append ps p, m.weighs, e);
  reaches = omega (arith, depth-append ps p, m.reaches, f);
}

-- a pair more at the end
pub measured-push : (new old : List Pair) (p : Pair) (w d w' d' : ℕ) → ArePairsMeasured (pair_views old) w d → new ≡ old ++ p ∷ [] →
    w' ≡ capped (w + capped (weight_of (pair_view p).0 + weight_of (pair_view p).1)) →
    d' ≡ max d (capped (max (depth_of (pair_view p).0) (depth_of (pair_view p).1))) → ArePairsMeasured (pair_views new) w' d'
measured-push new old p w d w' d' m e f g = rw (e, map_push pair_view old p) (measured-append (pair_views old) (pair_view p) w d w' d' m f g)

-- what a value put in the place of a pair's leaves
pub record IsValueSetIn (new old : List (Tree × Tree)) (v o : Tree) : Type 0 where
  pub lighter : weight_of o ≤ weight_of_pairs (pairs_of old)
  pub weighs : weight_of_pairs (pairs_of new) + weight_of o ≡ weight_of_pairs (pairs_of old) + weight_of v
  pub reaches : IsDepthAfter (depth_of_pairs (pairs_of old)) (depth_of o) (depth_of v) (depth_of_pairs (pairs_of new))

set_at : (ps : List (Tree × Tree)) (i : ℕ) (v : Tree) → i < length ps →
    IsValueSetIn (slice_set ps i ((slice_index_or ps i (nil, nil)).0, v)) ps v (slice_index_or ps i (nil, nil)).1
set_at [] i v h = absurd (omega arith)
set_at (p ∷ ps) zero v h = record {
  lighter = omega arith;
  weighs = omega arith;
  reaches = record { there = omega arith; least = omega arith; most = omega arith; rest = omega arith };
}
set_at (p ∷ ps) (suc i) v h =
    let s = set_at ps i v (omega arith) in
    record {
      lighter = omega (arith, s.lighter);
      weighs = omega (arith, s.weighs);
      reaches = record {
        there = omega (arith, s.reaches.there);
        least = omega (arith, s.reaches.least);
        most = omega (arith, s.reaches.most);
        rest = omega (arith, s.reaches.rest);
      };
    }

pub set_value_in : (ps new : List (Tree × Tree)) (i : ℕ) (v o : Tree) → i < length ps → o ≡ (slice_index_or ps i (nil, nil)).1 →
    new ≡ slice_set ps i ((slice_index_or ps i (nil, nil)).0, v) → IsValueSetIn new ps v o
set_value_in ps new i v o h was made = rw (made, was) (set_at ps i v h)
