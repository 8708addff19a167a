-- The mix law: from which channels a mix takes, and what it puts. (core.async API reference: `mix`, `admix`,
-- `toggle`, `solo-mode`.)
use Rattle.std.specs.Prelude.{◌≡◌, ℕ, List, [], ◌∷◌, ◌++◌, ◌⊎◌, slice_get, Option, Some, None, Bool, true, false, cond, eqb, map as each_of}
use Rattle.ca_value.specs.Tree.{Tree, Trees, port}
use Rattle.ca_term.specs.declared.head.RegisterName.TheVariants.{Modes, Unmix}
use Rattle.ca_term.specs.declared.head.SystemTask.TheVariants.{Mix}
use Rattle.ca_term.specs.Program.{ProgramView}
use Rattle.ca_term.specs.Operation.{OpView, taking, putting, choosing, making, spawning, closing, registering, printing, posting}
use Rattle.ca_term.specs.Event.{BranchView, take_of, EventView}
use Rattle.ca_meaning.specs.Operands.{is_nil, port_of_value, first_of, second_of, third_of}
use Rattle.ca_meaning.specs.Choice.{branches_of}
use Rattle.ca_meaning.specs.State.{State}
use Rattle.ca_meaning.specs.Asks.{one_of, two_of}
use Rattle.ca_meaning.specs.MixTable.{MixPorts, ModesRead, modes_in, read_of, heard_of, any_of}
use Rattle.ca_laws.specs.Deeds.{Deed, did_take, did_register}
use Rattle.ca_laws.specs.Taken.{last_answer}
use Rattle.ca_laws.specs.Rules.{AllKeepTo}

-- the last reading of its modes, until its change channel answers or a source is found closed
abbrev pub reading_after : MixPorts → Deed → Option ModesRead → Option ModesRead
reading_after x (did_register Modes args a) o = modes_in a
reading_after x (did_take k p a) o = cond (eqb p x.changes) None (cond (is_nil a) None o)
reading_after x d o = o

abbrev pub reading_from : MixPorts → Option ModesRead → List Deed → Option ModesRead
reading_from x o [] = o
reading_from x o (d ∷ ds) = reading_from x (reading_after x d o) ds

abbrev pub last_reading : MixPorts → List Deed → Option ModesRead
last_reading x ds = reading_from x None ds

abbrev pub takes_from : List ℕ → List BranchView
takes_from ps = each_of (λ p. take_of p) ps

abbrev pub is_port_heard : ModesRead → ℕ → Bool
is_port_heard m p = any_of (eqb p) (heard_of m)

-- what a mix may ask for after all that it did
abbrev pub MixRule : MixPorts → List Deed → OpView → Type 0
-- an alts that takes from exactly the channels which the last reading tells to read, and from its change channel
MixRule x before (choosing ports priority default) =
    (m : ModesRead) × (last_reading x before ≡ Some m) × (branches_of (choosing ports priority default) ≡ takes_from (read_of m ++ x.changes ∷ []))
-- a put, into its output, of the answer of its last alts, which came from a channel that the last reading tells to hear
MixRule x before (putting c v) =
    (c ≡ port x.out) × (m : ModesRead) × (p : ℕ) × (last_reading x before ≡ Some m) × (last_answer before ≡ Some (p, v)) × (is_port_heard m p ≡ true)
-- a reading of its own modes, or the end of a source that its last alts found closed
MixRule x before (registering name args) =
    ((name ≡ Modes) × (args ≡ one_of (port x.mix)))
    ⊎ ((p : ℕ) × (v : Tree) × (name ≡ Unmix) × (args ≡ two_of (port x.mix) (port p)) × (last_answer before ≡ Some (p, v)) × (is_nil v ≡ true) × (eqb p x.changes ≡ false))
-- and nothing else
MixRule x before (taking c) = ⊥
MixRule x before (making what) = ⊥
MixRule x before (spawning seed) = ⊥
MixRule x before (closing c) = ⊥
MixRule x before (printing line) = ⊥
MixRule x before (posting c v) = ⊥

-- As the journal tells it: the take at branch k, from channel p, is one that the last reading allows;
abbrev pub TakesRead : MixPorts → List Deed → ℕ → ℕ → Type 0
TakesRead x before k p = (m : ModesRead) × (last_reading x before ≡ Some m) × (slice_get (takes_from (read_of m ++ x.changes ∷ [])) k ≡ Some (take_of p))

-- and the put of v into channel p is of the answer of its last alts, from a channel that the last reading tells to hear
abbrev pub PutsHeard : MixPorts → List Deed → ℕ → Tree → Type 0
PutsHeard x before p v = (p ≡ x.out) × (m : ModesRead) × (q : ℕ) × (last_reading x before ≡ Some m) × (last_answer before ≡ Some (q, v)) × (is_port_heard m q ≡ true)

-- the mix, its output and its change channel are the values of its Spawn
abbrev pub mix_ports : Trees → MixPorts
mix_ports values = record { mix = port_of_value (first_of values); out = port_of_value (second_of values); changes = port_of_value (third_of values) }

-- each mix keeps to the rule
abbrev pub MixLaw : ProgramView → List EventView → State → Type 0
MixLaw program journal s = AllKeepTo Mix (λ values place. MixRule (mix_ports values)) program journal s
