-- The ports that stand among an operation's operands. A worker that plans it holds the banks of these, and no others.
use Rattle.std.specs.Prelude.{◌≡◌, ℕ, List, [], ◌∷◌, ◌++◌, Option, Some, true}
use Rattle.ca_value.specs.Tree.{Tree, TreePairs, Trees, empty, item, none, pair, port, vector}
use Rattle.ca_term.specs.declared.head.RegisterName.{RegisterName}
use Rattle.ca_term.specs.declared.head.RegisterName.TheVariants.{Toggle}
use Rattle.ca_term.specs.Operation.{OpView, SeedView, choosing, closing, go, making, posting, printing, putting, registering, spawning, system, taking}
use Rattle.ca_meaning.specs.Operands.{first_of, second_of}
use Rattle.ca_meaning.specs.Refusal.{operands_to_make}
use Rattle.ca_meaning.specs.Registry.{Registry, pairs_in}
use Rattle.ca_meaning.specs.Wait.{is_among}
use Rattle.ca_commit.specs.Contents.{Kept, Parts, home}

-- a value, where it is a port
abbrev pub listed_port : Tree → List ℕ
listed_port (port n) = n ∷ []
listed_port v = []

-- the ports among values
abbrev pub ports_among : Trees → List ℕ
ports_among none = []
ports_among (item v vs) = listed_port v ++ ports_among vs

-- an item of an alts is a port, or a pair that begins with one
abbrev pub port_of_item : Tree → List ℕ
port_of_item (vector vs) = listed_port (first_of vs)
port_of_item v = listed_port v

abbrev pub ports_of_items : Trees → List ℕ
ports_of_items none = []
ports_of_items (item v vs) = port_of_item v ++ ports_of_items vs

abbrev pub port_keys : TreePairs → List ℕ
port_keys empty = []
port_keys (pair k v ps) = listed_port k ++ port_keys ps

-- the keys of a toggle's map
abbrev pub ports_toggled : RegisterName → Trees → List ℕ
ports_toggled Toggle args = port_keys (pairs_in (second_of args))
ports_toggled other args = []

-- of a go block its result port, and of another task the ports among its values
abbrev pub ports_of_seed : SeedView → List ℕ
ports_of_seed (go n values result place) = result ∷ []
ports_of_seed (system kind values place) = ports_among values

abbrev pub named_ports : OpView → List ℕ
named_ports (taking c) = listed_port c
named_ports (putting c v) = listed_port c
named_ports (posting c v) = listed_port c
named_ports (choosing ports priority default) = ports_of_items ports
named_ports (making what) = ports_among (operands_to_make what)
named_ports (spawning seed) = ports_of_seed seed
named_ports (closing c) = listed_port c
named_ports (registering name args) = ports_among args ++ ports_toggled name args
named_ports (printing line) = []

module _ {A : Type 0} where
  -- the bank of a port is held, its channels and its registries
  abbrev pub IsBankHeld : Parts A → ℕ → Type 0
  IsBankHeld h p = (f : ℕ → Option Kept) × (g : ℕ → Option Registry) × (h.bank (home p) ≡ Some f) × (h.registry (home p) ≡ Some g)

  -- the banks of all ports that the operation names are held
  abbrev pub NamesHeld : Parts A → OpView → Type 0
  NamesHeld h op = (p : ℕ) → is_among p (named_ports op) ≡ true → IsBankHeld h p
