-- A mix: what it reads, and what of that it passes on. (core.async API reference: `mix`, `admix`, `toggle`,
-- `solo-mode`.)
use Rattle.std.specs.Prelude.{ℕ, List, [], ◌∷◌, ◌++◌, Option, Some, None, option_map, Bool, true, false, not, ◌&&◌, ◌||◌, cond, eqb, codes, filter, map as each_of}
use Rattle.std.specs.Str.{bytes_eq}
use Rattle.ca_value.specs.Tree.{Tree, Trees, bool, key, vector, port, none, item, trees_of}
use Rattle.ca_term.specs.declared.head.RegisterName.TheVariants.{Modes, Unmix}
use Rattle.ca_meaning.specs.Operands.{is_nil, truth}
use Rattle.ca_meaning.specs.Registry.{Source}
use Rattle.ca_meaning.specs.Asks.{Ask, ask_to_put, ask_to_choose, ask_to_register, Next, to, stop, needing, value_and_port, one_of, two_of}

-- the mix, its output, and the channel that tells of a change of its modes
pub record MixPorts : Type 0 where
  pub mix : ℕ
  pub out : ℕ
  pub changes : ℕ

pub data MixState : Type 0 where
  mix_reads : MixState
  -- the channels that it reads, and those of them that are heard
  mix_chooses : List ℕ → List ℕ → MixState
  -- the source, which is closed
  mix_drops : ℕ → MixState
  -- the same lists, and the value
  mix_puts : List ℕ → List ℕ → Tree → MixState

-- a reading of the modes: whether the solo mode is pause, and the sources in order
pub record ModesRead : Type 0 where
  pub pausing : Bool
  pub sources : List Source

abbrev pub with_source : Source → Option (List Source) → Option (List Source)
with_source x None = None
with_source x (Some xs) = Some (x ∷ xs)

abbrev pub sources_of : Trees → Option (List Source)
sources_of none = Some []
sources_of (item (vector (item (port c) (item (bool m) (item (bool p) (item (bool s) none))))) vs) = with_source (record { channel = c; mute = m; pause = p; solo = s }) (sources_of vs)
sources_of (item v vs) = None

-- a vector of the solo mode and then `[channel mute pause solo]` for each source
abbrev pub modes_in : Tree → Option ModesRead
modes_in (vector (item (key k) vs)) = option_map (λ xs. record { pausing = bytes_eq k (codes "pause"); sources = xs }) (sources_of vs)
modes_in v = None

abbrev pub any_of : {A : Type 0} → (A → Bool) → List A → Bool
any_of test [] = false
any_of test (x ∷ xs) = cond (test x) true (any_of test xs)

abbrev pub any_solo : List Source → Bool
any_solo xs = any_of (λ (x : Source). x.solo) xs

abbrev pub soloed : List Source → List Source
soloed xs = filter (λ x. x.solo) xs

-- Where a source is soloed and the solo mode is pause, the soloed ones are read; else those that are soloed or
-- not paused.
abbrev pub read_of : ModesRead → List ℕ
read_of m = each_of (λ x. x.channel) (cond (any_solo m.sources && m.pausing) (soloed m.sources) (filter (λ x. x.solo || not x.pause) m.sources))

-- The soloed ones are heard, if there are any; else those that aren't muted.
abbrev pub heard_of : ModesRead → List ℕ
heard_of m = each_of (λ x. x.channel) (cond (any_solo m.sources) (soloed m.sources) (filter (λ x. not x.mute) m.sources))

abbrev pub port_trees : List ℕ → Trees
port_trees ns = trees_of (each_of (λ n. port n) ns)

abbrev pub mix_asks : MixPorts → MixState → Ask
mix_asks x mix_reads = ask_to_register Modes (one_of (port x.mix))
mix_asks x (mix_chooses reads heard) = ask_to_choose (port_trees (reads ++ x.changes ∷ []))
mix_asks x (mix_drops c) = ask_to_register Unmix (two_of (port x.mix) (port c))
mix_asks x (mix_puts reads heard v) = ask_to_put x.out v

-- the value came from the channel c: a change is read; a source that is closed is dropped; a value is passed on
-- where its source is heard
abbrev pub mix_chosen : MixPorts → List ℕ → List ℕ → Tree → ℕ → Next MixState
mix_chosen x reads heard v c =
    cond (eqb c x.changes) (to mix_reads)
    (cond (is_nil v) (to (mix_drops c))
    (cond (any_of (eqb c) heard) (to (mix_puts reads heard v)) (to (mix_chooses reads heard))))

abbrev pub mix_next : MixPorts → Tree → MixState → Next MixState
mix_next x a mix_reads = needing (modes_in a) (λ m. to (mix_chooses (read_of m) (heard_of m)))
mix_next x a (mix_chooses reads heard) = needing (value_and_port a) (λ c. mix_chosen x reads heard c.0 c.1)
mix_next x a (mix_drops c) = to mix_reads
mix_next x a (mix_puts reads heard v) = cond (truth a) (to (mix_chooses reads heard)) stop
