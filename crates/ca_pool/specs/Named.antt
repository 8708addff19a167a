-- The ports whose banks an operation needs, and their homes.
use Rattle.std.specs.Prelude.{ℕ, List, ◌∷◌, Bool, true, cond, eqb}
use Rattle.ca_value.specs.Tree.{Tree, TreePairs, Trees, empty, item, none, pair, port, vector}
use Rattle.ca_term.specs.declared.head.RegisterName.{RegisterName}
use Rattle.ca_term.specs.declared.head.RegisterName.TheVariants.{Toggle}
use Rattle.ca_term.specs.Operation.{OpView, SeedView, choosing, closing, go, making, posting, printing, putting, registering, spawning, system, taking}
use Rattle.ca_meaning.specs.Operands.{first_of, rest_of}
use Rattle.ca_meaning.specs.Refusal.{operands_to_make}
use Rattle.ca_meaning.specs.Registry.{pairs_in}
use Rattle.ca_commit.specs.Contents.{home}
use Rattle.ca_commit.specs.Naming.{named_ports, ports_among}

-- those that it names, and the one that it makes, which has number p
abbrev pub ports_to_hold : OpView → ℕ → List ℕ
ports_to_hold (making what) p = p ∷ ports_among (operands_to_make what)
ports_to_hold (taking c) p = named_ports (taking c)
ports_to_hold (putting c v) p = named_ports (putting c v)
ports_to_hold (posting c v) p = named_ports (posting c v)
ports_to_hold (choosing ports priority default) p = named_ports (choosing ports priority default)
ports_to_hold (spawning seed) p = named_ports (spawning seed)
ports_to_hold (closing c) p = named_ports (closing c)
ports_to_hold (registering name args) p = named_ports (registering name args)
ports_to_hold (printing line) p = named_ports (printing line)

-- whether home i is wanted once a port is, where it was wanted before or not
abbrev pub home_wanted : ℕ → ℕ → Bool → Bool
home_wanted n i was = cond (eqb (home n) i) true was

-- the same of a value, where it is a port, and of values one after another
abbrev pub with_value : Tree → ℕ → Bool → Bool
with_value (port n) i was = home_wanted n i was
with_value v i was = was

abbrev pub with_values : Trees → ℕ → Bool → Bool
with_values none i was = was
with_values (item v vs) i was = with_values vs i (with_value v i was)

-- of an item of an alts: it is a port, or a pair that begins with one
abbrev pub with_item : Tree → ℕ → Bool → Bool
with_item (vector vs) i was = with_value (first_of vs) i was
with_item v i was = with_value v i was

abbrev pub with_items : Trees → ℕ → Bool → Bool
with_items none i was = was
with_items (item v vs) i was = with_items vs i (with_item v i was)

-- of the keys of a map
abbrev pub with_keys : TreePairs → ℕ → Bool → Bool
with_keys empty i was = was
with_keys (pair k v ps) i was = with_keys ps i (with_value k i was)

-- of the map that a toggle has behind its mix
abbrev pub with_toggle : RegisterName → Trees → ℕ → Bool → Bool
with_toggle Toggle args i was = with_keys (pairs_in (first_of (rest_of args))) i was
with_toggle other args i was = was

-- of a go block its result port, and of another task the ports among its values
abbrev pub with_seed : SeedView → ℕ → Bool → Bool
with_seed (go n values result place) i was = home_wanted result i was
with_seed (system kind values place) i was = with_values values i was

-- of the operands of an operation, and of the port that it makes, which has number p
abbrev pub with_operands : OpView → (p : ℕ) → ℕ → Bool → Bool
with_operands (taking c) p i was = with_value c i was
with_operands (putting c v) p i was = with_value c i was
with_operands (posting c v) p i was = with_value c i was
with_operands (choosing ports priority default) p i was = with_items ports i was
with_operands (making what) p i was = with_values (operands_to_make what) i (home_wanted p i was)
with_operands (spawning seed) p i was = with_seed seed i was
with_operands (closing c) p i was = with_value c i was
with_operands (registering name args) p i was = with_toggle name args i (with_values args i was)
with_operands (printing line) p i was = was
