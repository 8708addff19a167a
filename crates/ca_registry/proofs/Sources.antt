-- The sources of a mix as the entries of a table, in order.
use Rattle.std.proofs.Common.{◌≡◌, ℕ, suc, ◌+◌, List, [], ◌∷◌, length, map, Some, None, Bool, true, false, not, cond, eqb, nat_eq, refl, sym, ◌∙◌, ap, arith}
use Rattle.std.proofs.lemmas.List.{length-map}
use Rattle.std.specs.Map.{lookup}
use Rattle.indexmap.specs.IndexMap.{insert_entry}
use Rattle.ca_meaning.specs.Registry.{Source, changed_source, plain_source, set_mode, set_modes, with_modes_in, toggled, all_channels, names_channel, channels_differ}
use Rattle.ca_value.specs.Equality.{pair_count}
use Rattle.ca_value.specs.View.{tree_pairs}
use Rattle.ca_value.specs.declared.value.Pair.{Pair}
use Rattle.ca_meaning.specs.Operands.{port_of_value, truth}
use Rattle.ca_value.specs.Tree.{Tree, TreePairs, nil, bool, int, text, key, vector, map as map_of, port, empty, pair}
use Rattle.std.specs.Prelude.{codes, is_some, ◌&&◌, filter}
use Rattle.std.specs.Str.{bytes_eq}
use Rattle.std.specs.Map.{remove_entry}
use Rattle.ca_registry.specs.declared.mix.Modes.{Modes}
use Rattle.ca_registry.specs.Mixes.{modes_or, source_view, is_source, new_in}
use Rattle.ca_registry.proofs.Members.{eqb_is, left_without}

-- a source that is changed is an entry of the table
pub changed_is : (c : ℕ) (f : Source → Source) (m : Modes) (es : List (ℕ × Modes)) → source_view (c, m) ≡ f (source_view (c, modes_or (lookup (nat_eq c) es))) → map source_view (insert_entry nat_eq es c m) ≡ changed_source c f (map source_view es)
changed_is c f m [] h = ap (λ (x : Source). x ∷ []) h
changed_is c f m (e ∷ es) h = by (nat_eq c e.0) refl h (changed_is c f m es) where
  by : (same : Bool) → nat_eq c e.0 ≡ same → source_view (c, m) ≡ f (source_view (c, modes_or (cond same (Some e.1) (lookup (nat_eq c) es)))) → (source_view (c, m) ≡ f (source_view (c, modes_or (lookup (nat_eq c) es))) → map source_view (insert_entry nat_eq es c m) ≡ changed_source c f (map source_view es)) → map source_view (cond same ((e.0, m) ∷ es) (e ∷ insert_entry nat_eq es c m)) ≡ cond same (f (source_view e) ∷ map source_view es) (source_view e ∷ changed_source c f (map source_view es))
  by true t k r =
      let q : source_view (e.0, m) ≡ f (source_view e) = ap (λ (n : ℕ). source_view (n, m)) (sym (eqb_is c e.0 t)) ∙ k ∙ ap (λ (n : ℕ). f (source_view (n, e.1))) (eqb_is c e.0 t) in
      ap (λ (x : Source). x ∷ map source_view es) q
  by false t k r = ap (λ (xs : List Source). source_view e ∷ xs) (r k)

pub is_source_of : (c : ℕ) (es : List (ℕ × Modes)) → is_source c (map source_view es) ≡ is_some (lookup (nat_eq c) es)
is_source_of c [] = refl
is_source_of c (e ∷ es) = by (nat_eq c e.0) (is_source_of c es) where
  by : (same : Bool) → is_source c (map source_view es) ≡ is_some (lookup (nat_eq c) es) → cond same true (is_source c (map source_view es)) ≡ is_some (cond same (Some e.1) (lookup (nat_eq c) es))
  by true r = refl
  by false r = r

pub unmixed_is : (c : ℕ) (es : List (ℕ × Modes)) → lookup (nat_eq c) (remove_entry (nat_eq c) es) ≡ None → map source_view (remove_entry (nat_eq c) es) ≡ filter (λ (x : Source). not (eqb c x.channel)) (map source_view es)
unmixed_is c es h = left_without source_view (λ (x : Source). x.channel) (λ e. refl) c es h

-- a change adds a source where there was none
pub changed_more : (c : ℕ) (f : Source → Source) (xs : List Source) → length (changed_source c f xs) ≡ length xs + cond (is_source c xs) 0 1
changed_more c f [] = refl
changed_more c f (x ∷ xs) = by (eqb c x.channel) (changed_more c f xs) where
  by : (same : Bool) → length (changed_source c f xs) ≡ length xs + cond (is_source c xs) 0 1 → length (cond same (f x ∷ xs) (x ∷ changed_source c f xs)) ≡ suc (length xs) + cond (cond same true (is_source c xs)) 0 1
  by true r = omega arith
  by false r = omega (arith, r)

abbrev Keeps : (Source → Source) → Type 0
Keeps f = (x : Source) → (f x).channel ≡ x.channel

-- and no other one
apart_stays : (d c : ℕ) (f : Source → Source) (xs : List Source) → Keeps f → eqb d c ≡ false → is_source d (changed_source c f xs) ≡ is_source d xs
apart_stays d c f [] k h = ap (λ (b : Bool). cond b true false) (ap (eqb d) (k (plain_source c)) ∙ h)
apart_stays d c f (x ∷ xs) k h = by (eqb c x.channel) (apart_stays d c f xs k h) where
  by : (same : Bool) → is_source d (changed_source c f xs) ≡ is_source d xs → is_source d (cond same (f x ∷ xs) (x ∷ changed_source c f xs)) ≡ cond (eqb d x.channel) true (is_source d xs)
  by true r = ap (λ (n : ℕ). cond (eqb d n) true (is_source d xs)) (k x)
  by false r = ap (λ (b : Bool). cond (eqb d x.channel) true b) r

set_mode_keeps : (m v : Tree) (x : Source) → (set_mode m v x).channel ≡ x.channel
set_mode_keeps (key name) v x = by (bytes_eq name (codes "mute")) (bytes_eq name (codes "pause")) (bytes_eq name (codes "solo")) where
  by : (a b c : Bool) → (cond a (record x { mute = truth v }) (cond b (record x { pause = truth v }) (cond c (record x { solo = truth v }) x))).channel ≡ x.channel
  by true b c = refl
  by false true c = refl
  by false false true = refl
  by false false false = refl
set_mode_keeps nil v x = refl
set_mode_keeps (bool b) v x = refl
set_mode_keeps (int z) v x = refl
set_mode_keeps (text t) v x = refl
set_mode_keeps (vector t) v x = refl
set_mode_keeps (map_of t) v x = refl
set_mode_keeps (port n) v x = refl

set_modes_keep : (ps : TreePairs) (x : Source) → (set_modes ps x).channel ≡ x.channel
set_modes_keep empty x = refl
set_modes_keep (pair k v ps) x = set_modes_keep ps (set_mode k v x) ∙ set_mode_keeps k v x

modes_in_keep : (m : Tree) → Keeps (with_modes_in m)
modes_in_keep (map_of ps) x = set_modes_keep ps x
modes_in_keep (key name) x = refl
modes_in_keep nil x = refl
modes_in_keep (bool b) x = refl
modes_in_keep (int z) x = refl
modes_in_keep (text t) x = refl
modes_in_keep (vector t) x = refl
modes_in_keep (port n) x = refl

new_apart : (c : ℕ) (f : Source → Source) (ps : TreePairs) (xs : List Source) → Keeps f → names_channel c ps ≡ false → new_in ps (changed_source c f xs) ≡ new_in ps xs
new_apart c f empty xs k h = refl
new_apart c f (pair p m ps) xs k h = by (eqb c (port_of_value p)) refl h (new_apart c f ps xs k) where
  turned : (a b : ℕ) → eqb a b ≡ false → eqb b a ≡ false
  turned a b q = grind arith

  by : (b : Bool) → eqb c (port_of_value p) ≡ b → cond b true (names_channel c ps) ≡ false → (names_channel c ps ≡ false → new_in ps (changed_source c f xs) ≡ new_in ps xs) → cond (is_source (port_of_value p) (changed_source c f xs)) 0 1 + new_in ps (changed_source c f xs) ≡ cond (is_source (port_of_value p) xs) 0 1 + new_in ps xs
  by true t q r = absurd (let z : true ≡ false = q in cc)
  by false t q r =
      let s : is_source (port_of_value p) (changed_source c f xs) ≡ is_source (port_of_value p) xs = apart_stays (port_of_value p) c f xs k (turned c (port_of_value p) t) in
      ap (λ (b : Bool). cond b 0 1 + new_in ps (changed_source c f xs)) s ∙ ap (λ (n : ℕ). cond (is_source (port_of_value p) xs) 0 1 + n) (r q)

-- how many sources there are after a toggle of different channels
pub toggled_more : (ps : TreePairs) (xs : List Source) → channels_differ ps ≡ true → length (toggled ps xs) ≡ length xs + new_in ps xs
toggled_more empty xs h = omega arith
toggled_more (pair p m ps) xs h = by (names_channel (port_of_value p) ps) refl h (toggled_more ps (changed_source (port_of_value p) (with_modes_in m) xs)) where
  by : (b : Bool) → names_channel (port_of_value p) ps ≡ b → (not b && channels_differ ps) ≡ true → (channels_differ ps ≡ true → length (toggled ps (changed_source (port_of_value p) (with_modes_in m) xs)) ≡ length (changed_source (port_of_value p) (with_modes_in m) xs) + new_in ps (changed_source (port_of_value p) (with_modes_in m) xs)) → length (toggled ps (changed_source (port_of_value p) (with_modes_in m) xs)) ≡ length xs + (cond (is_source (port_of_value p) xs) 0 1 + new_in ps xs)
  by true t q r = absurd (let z : false ≡ true = q in cc)
  by false t q r =
      let a : length (toggled ps (changed_source (port_of_value p) (with_modes_in m) xs)) ≡ length (changed_source (port_of_value p) (with_modes_in m) xs) + new_in ps (changed_source (port_of_value p) (with_modes_in m) xs) = r q in
      omega (arith, a, changed_more (port_of_value p) (with_modes_in m) xs, new_apart (port_of_value p) (with_modes_in m) ps xs (modes_in_keep m) t)

pub changed_size : (c : ℕ) (f : Source → Source) (es : List (ℕ × Modes)) → length (changed_source c f (map source_view es)) ≡ length es + cond (is_source c (map source_view es)) 0 1
changed_size c f es = omega (arith, changed_more c f (map source_view es), length-map es source_view)

pub toggled_size : (ps : TreePairs) (es : List (ℕ × Modes)) → channels_differ ps ≡ true → length (toggled ps (map source_view es)) ≡ length es + new_in ps (map source_view es)
toggled_size ps es h = omega (arith, toggled_more ps (map source_view es) h, length-map es source_view)

pub all_true : (ps : TreePairs) → all_channels (λ v. true) ps ≡ true
all_true empty = refl
all_true (pair k m ps) = all_true ps

pub counted_pairs : (ps : List Pair) → pair_count (tree_pairs ps) ≡ length ps
counted_pairs [] = refl
counted_pairs (p ∷ ps) = ap suc (counted_pairs ps)
