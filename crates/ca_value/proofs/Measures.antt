-- How measures go on.
use Rattle.std.proofs.Common.{◌≡◌, ◌≤◌, ◌<◌, ℕ, zero, suc, length, get_or, ◌+◌, List, [], ◌∷◌, ◌++◌, max, ap, ◌∙◌, arith}
use Rattle.std.specs.Prelude.{slice_set, slice_get, Some}
use Rattle.std.proofs.lemmas.List.{map-append, length-map, map-set, get_or-map}
use Rattle.std.proofs.lemmas.Option.{get_or_from_slice_get}
use Rattle.ca_value.specs.Tree.{Tree, trees_of}
use Rattle.ca_value.specs.Measure.{weight_of, depth_of, weight_of_items, depth_of_items}
use Rattle.ca_value.specs.declared.value.Value.{Value}
use Rattle.ca_value.specs.View.{view, views}
use Rattle.ca_value.specs.Measured.{capped, IsMeasured, IsDepthAfter}

pub weight-append : (ts : List Tree) (t : Tree) → weight_of_items (trees_of (ts ++ t ∷ [])) ≡ weight_of_items (trees_of ts) + weight_of t
weight-append [] t = omega arith
weight-append (u ∷ ts) t = omega (arith, weight-append ts t)

pub depth-append : (ts : List Tree) (t : Tree) → depth_of_items (trees_of (ts ++ t ∷ [])) ≡ max (depth_of_items (trees_of ts)) (depth_of t)
depth-append [] t = omega arith
depth-append (u ∷ ts) t = omega (arith, depth-append ts t)

pub measured-append : (ts : List Tree) (t : Tree) (w d w' d' : ℕ) → IsMeasured ts w d → w' ≡ capped (w + capped (weight_of t)) → d' ≡ max d (capped (depth_of t)) → IsMeasured (ts ++ t ∷ []) w' d'
measured-append ts t w d w' d' m p q = record {
  weighs = omega (arith, weight-append ts t, m.weighs, p);
  reaches = omega (arith, depth-append ts t, m.reaches, q);
}

pub measured-push : (new old : List Value) (v : Value) (w d w' d' : ℕ) → IsMeasured (views old) w d → new ≡ old ++ v ∷ [] → w' ≡ capped (w + capped (weight_of (view v))) → d' ≡ max d (capped (depth_of (view v))) → IsMeasured (views new) w' d'
measured-push new old v w d w' d' m e p q =
    rw (e, map-append view old (v ∷ [])) (measured-append (views old) (view v) w d w' d' m p q)

pub weight-set : (ts : List Tree) (i : ℕ) (t d : Tree) → i < length ts → weight_of_items (trees_of (slice_set ts i t)) + weight_of (get_or ts i d) ≡ weight_of_items (trees_of ts) + weight_of t
weight-set [] i t d h = absurd (omega arith)
weight-set (u ∷ ts) zero t d h = omega arith
weight-set (u ∷ ts) (suc i) t d h = omega (arith, weight-set ts i t d (omega arith))

weight-there : (ts : List Tree) (i : ℕ) (d : Tree) → i < length ts → weight_of (get_or ts i d) ≤ weight_of_items (trees_of ts)
weight-there [] i d h = absurd (omega arith)
weight-there (u ∷ ts) zero d h = omega arith
weight-there (u ∷ ts) (suc i) d h = omega (arith, weight-there ts i d (omega arith))

pub depth-set : (ts : List Tree) (i : ℕ) (t d : Tree) → i < length ts → IsDepthAfter (depth_of_items (trees_of ts)) (depth_of (get_or ts i d)) (depth_of t) (depth_of_items (trees_of (slice_set ts i t)))
depth-set [] i t d h = absurd (omega arith)
depth-set (u ∷ ts) zero t d h = record { there = omega arith; least = omega arith; most = omega arith; rest = omega arith }
depth-set (u ∷ ts) (suc i) t d h =
    let s = depth-set ts i t d (omega arith) in
    record {
      there = omega (arith, s.there);
      least = omega (arith, s.least);
      most = omega (arith, s.most);
      rest = omega (arith, s.rest);
    }

-- what a value put in the place of another leaves
pub record IsSetIn (new old : List Value) (v o : Value) : Type 0 where
  pub lighter : weight_of (view o) ≤ weight_of_items (trees_of (views old))
  pub weighs : weight_of_items (trees_of (views new)) + weight_of (view o) ≡ weight_of_items (trees_of (views old)) + weight_of (view v)
  pub reaches : IsDepthAfter (depth_of_items (trees_of (views old))) (depth_of (view o)) (depth_of (view v)) (depth_of_items (trees_of (views new)))

pub set_in : (new old : List Value) (i : ℕ) (v o : Value) → i < length old → slice_get old i ≡ Some o → new ≡ slice_set old i v → IsSetIn new old v o
set_in new old i v o h at e =
    let ts : List Tree = views old in
    let inside : i < length ts = omega (arith, length-map old view) in
    let there : get_or ts i (view o) ≡ view o = get_or-map view old i o (view o) h ∙ ap view (get_or_from_slice_get old i o o at) in
    let made : views new ≡ slice_set ts i (view v) = ap views e ∙ map-set view old i v in
    let w = weight-set ts i (view v) (view o) inside in
    let l = weight-there ts i (view o) inside in
    let r = depth-set ts i (view v) (view o) inside in
    record {
      lighter = rw there at l;
      weighs = rw (made, ← there) w;
      reaches = rw made (rw there at r);
    }
