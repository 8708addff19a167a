-- The homes that the operands of an operation add are those of the ports that it names.
use Rattle.std.proofs.Common.{◌≡◌, ◌∙◌, ℕ, List, [], ◌∷◌, ◌++◌, refl, sym, ap, Bool, true, false, cond, eqb, eqb-true, eq-eqb, ne_eqb}
use Rattle.std.specs.Prelude.{◌||◌}
use Rattle.std.proofs.lemmas.Bool.{eqb-false}
use Rattle.ca_value.specs.Tree.{Tree, TreePairs, Trees, empty, item, none, pair, port, vector}
use Rattle.ca_term.specs.declared.head.RegisterName.{RegisterName}
use Rattle.ca_term.specs.declared.head.RegisterName.TheVariants.{Toggle}
use Rattle.ca_term.specs.Operation.{OpView, SeedView, choosing, closing, go, making, posting, printing, putting, registering, spawning, system, taking}
use Rattle.ca_meaning.specs.Operands.{first_of, second_of}
use Rattle.ca_meaning.specs.Refusal.{operands_to_make}
use Rattle.ca_meaning.specs.Registry.{pairs_in}
use Rattle.ca_commit.specs.Contents.{home}
use Rattle.ca_commit.specs.Naming.{listed_port, port_keys, port_of_item, ports_among, ports_of_items, ports_of_seed, ports_toggled}
use Rattle.ca_commit.specs.Touched.{homes}
use Rattle.ca_pool.specs.Named.{ports_to_hold, with_item, with_items, with_keys, with_operands, home_wanted, with_seed, with_toggle, with_value, with_values}

turned_eqb : (a b : ℕ) → eqb a b ≡ eqb b a
turned_eqb a b = by (eqb a b) refl where
  by : (c : Bool) → eqb a b ≡ c → c ≡ eqb b a
  by true e = sym (eq-eqb b a (sym (eqb-true a b e)))
  by false e = sym (ne_eqb b a (λ z. eqb-false a b e (sym z)))

-- in front of others
in_front : (a b c : Bool) → (b || (a || c)) ≡ ((a || b) || c)
in_front true true c = refl
in_front true false c = refl
in_front false b c = refl

or_cond : (a c : Bool) → cond a true c ≡ (cond a true false || c)
or_cond true c = refl
or_cond false c = refl

or_none : (a : Bool) → (a || false) ≡ a
or_none true = refl
or_none false = refl

module _ (i : ℕ) where
  abbrev Has : List ℕ → Bool
  Has ns = homes ns i

  has_both : (xs ys : List ℕ) → Has (xs ++ ys) ≡ (Has xs || Has ys)
  has_both [] ys = refl
  has_both (x ∷ xs) ys = by (eqb i (home x)) (has_both xs ys) where
    by : (b : Bool) → Has (xs ++ ys) ≡ (Has xs || Has ys) → cond b true (Has (xs ++ ys)) ≡ (cond b true (Has xs) || Has ys)
    by true e = refl
    by false e = e

  -- those of the first ports, then of the others
  has_more : (xs ys : List ℕ) (f : Bool → Bool) (b c : Bool) → ((d : Bool) → f d ≡ (Has ys || d)) → c ≡ (Has xs || b) → f c ≡ (Has (xs ++ ys) || b)
  has_more xs ys f b c rest first = rest c ∙ ap (λ d. Has ys || d) first ∙ in_front (Has xs) (Has ys) b ∙ ap (λ d. d || b) (sym (has_both xs ys))

  port_more : (n : ℕ) (b : Bool) → home_wanted n i b ≡ (Has (n ∷ []) || b)
  port_more n b = ap (λ c. cond c true b) (turned_eqb (home n) i) ∙ or_cond (eqb i (home n)) b

  value_more : (v : Tree) (b : Bool) → with_value v i b ≡ (Has (listed_port v) || b)
  value_more (port n) b = port_more n b
  value_more v b = refl

  values_more : (vs : Trees) (b : Bool) → with_values vs i b ≡ (Has (ports_among vs) || b)
  values_more none b = refl
  values_more (item v vs) b = has_more (listed_port v) (ports_among vs) (λ d. with_values vs i d) b (with_value v i b) (values_more vs) (value_more v b)

  item_more : (v : Tree) (b : Bool) → with_item v i b ≡ (Has (port_of_item v) || b)
  item_more (vector vs) b = value_more (first_of vs) b
  item_more v b = value_more v b

  items_more : (vs : Trees) (b : Bool) → with_items vs i b ≡ (Has (ports_of_items vs) || b)
  items_more none b = refl
  items_more (item v vs) b = has_more (port_of_item v) (ports_of_items vs) (λ d. with_items vs i d) b (with_item v i b) (items_more vs) (item_more v b)

  keys_more : (ps : TreePairs) (b : Bool) → with_keys ps i b ≡ (Has (port_keys ps) || b)
  keys_more empty b = refl
  keys_more (pair k v ps) b = has_more (listed_port k) (port_keys ps) (λ d. with_keys ps i d) b (with_value k i b) (keys_more ps) (value_more k b)

  toggle_more : (name : RegisterName) (args : Trees) (b : Bool) → with_toggle name args i b ≡ (Has (ports_toggled name args) || b)
  toggle_more Toggle args b = keys_more (pairs_in (second_of args)) b
  toggle_more name args b = refl

  seed_more : (seed : SeedView) (b : Bool) → with_seed seed i b ≡ (Has (ports_of_seed seed) || b)
  seed_more (go n values result place) b = port_more result b
  seed_more (system kind values place) b = values_more values b

  operands_more : (op : OpView) (p : ℕ) (b : Bool) → with_operands op p i b ≡ (Has (ports_to_hold op p) || b)
  operands_more (taking c) p b = value_more c b
  operands_more (putting c v) p b = value_more c b
  operands_more (posting c v) p b = value_more c b
  operands_more (choosing ports priority default) p b = items_more ports b
  operands_more (making what) p b = has_more (p ∷ []) (ports_among (operands_to_make what)) (λ d. with_values (operands_to_make what) i d) b (home_wanted p i b) (values_more (operands_to_make what)) (port_more p b)
  operands_more (spawning seed) p b = seed_more seed b
  operands_more (closing c) p b = value_more c b
  operands_more (registering name args) p b = has_more (ports_among args) (ports_toggled name args) (λ d. with_toggle name args i d) b (with_values args i b) (toggle_more name args) (values_more args b)
  operands_more (printing line) p b = refl

  -- of no others
  pub operands_alone : (op : OpView) (p : ℕ) → with_operands op p i false ≡ homes (ports_to_hold op p) i
  operands_alone op p = operands_more op p false ∙ or_none (Has (ports_to_hold op p))
