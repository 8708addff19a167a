-- Mults, mixes and publications, and the operations on them: a table. (core.async API reference:
-- `mult`, `tap`, `untap`, `untap-all`, `mix`, `admix`, `unmix`, `unmix-all`, `toggle`, `solo-mode`,
-- `pub`, `sub`, `unsub`, `unsub-all`.)
use Rattle.std.specs.Prelude.{ℕ, List, [], ◌∷◌, length, Option, Some, None, Bool, true, false, not, ◌&&◌, cond, eqb, nat_lt, codes, filter, map as each_of}
use Rattle.std.specs.Str.{bytes_eq}
use Rattle.ca_value.specs.Tree.{Tree, Trees, TreePairs, nil, bool, key, vector, map, port, none, item, empty, pair, trees_of}
use Rattle.ca_value.specs.Equality.{equals}
use Rattle.ca_term.specs.declared.fault.Fault.{Fault}
use Rattle.ca_term.specs.declared.fault.Fault.TheVariants.{NotAPort, TooManyMembers}
use Rattle.ca_term.specs.declared.head.RegisterName.{RegisterName}
use Rattle.ca_term.specs.declared.head.RegisterName.TheVariants.{Tap, Untap, UntapAll, Taps, Admix, Unmix, UnmixAll, Toggle, SoloMode, Modes, Find, Place, Drop, Clear, Topics}
use Rattle.ca_term.specs.Operation.{WhatView, unbuffered, fixed, dropping, sliding, promise, timeout, mult, mix, publication}
use Rattle.ca_meaning.specs.Operands.{port_of_value, truth, first_of, second_of, third_of}

-- a tapped channel, and whether it closes with the source
pub record TapView : Type 0 where
  pub channel : ℕ
  pub closes : Bool

pub record Source : Type 0 where
  pub channel : ℕ
  pub mute : Bool
  pub pause : Bool
  pub solo : Bool

-- a topic, its hidden mult and that mult's channel
pub record TopicView : Type 0 where
  pub topic : Tree
  pub mult : ℕ
  pub channel : ℕ

pub data Registry : Type 0 where
  -- the source, and the taps
  a_mult : ℕ → List TapView → Registry
  -- the output, the change channel, whether the solo mode is pause (else mute), and the sources
  a_mix : ℕ → ℕ → Bool → List Source → Registry
  -- the source, and the topics
  a_publication : ℕ → List TopicView → Registry

-- the new registry, where what is made is one
abbrev pub registry_made : WhatView → Option Registry
registry_made (mult source) = Some (a_mult (port_of_value source) [])
registry_made (mix out changes) = Some (a_mix (port_of_value out) (port_of_value changes) false [])
registry_made (publication source) = Some (a_publication (port_of_value source) [])
registry_made unbuffered = None
registry_made (fixed n) = None
registry_made (dropping n) = None
registry_made (sliding n) = None
registry_made promise = None
registry_made (timeout n) = None

-- what an operation comes to: its answer and the registry afterwards, or a fault, which changes nothing
pub data Registered : Type 0 where
  answers : Tree → Registry → Registered
  refuses : Fault → Registered

-- the registry that comes to be has room for its members
abbrev pub within_limit : ℕ → ℕ → Tree → Registry → Registered
within_limit limit members v r = cond (nat_lt limit members) (refuses TooManyMembers) (answers v r)

-- Taps: at most 1,024. A second tap of a channel keeps its place.
abbrev pub tapped : TapView → List TapView → List TapView
tapped t [] = t ∷ []
tapped t (u ∷ us) = cond (eqb t.channel u.channel) (t ∷ us) (u ∷ tapped t us)

abbrev pub tap_value : TapView → Tree
tap_value t = vector (item (port t.channel) (item (bool t.closes) none))

abbrev pub mult_row : ℕ → List TapView → RegisterName → Trees → Registered
mult_row s ts Tap args =
    let us = tapped (record { channel = port_of_value (first_of args); closes = truth (second_of args) }) ts in
    within_limit 1024 (length us) (first_of args) (a_mult s us)
mult_row s ts Untap args = answers nil (a_mult s (filter (λ t. not (eqb (port_of_value (first_of args)) t.channel)) ts))
mult_row s ts UntapAll args = answers nil (a_mult s [])
mult_row s ts Taps args = answers (vector (trees_of (each_of tap_value ts))) (a_mult s ts)
mult_row s ts other args = refuses NotAPort

-- Sources: at most 255. Each change answers the change channel.
abbrev pub plain_source : ℕ → Source
plain_source c = record { channel = c; mute = false; pause = false; solo = false }

-- the source of the channel changed, or added last and then changed
abbrev pub changed_source : ℕ → (Source → Source) → List Source → List Source
changed_source c f [] = f (plain_source c) ∷ []
changed_source c f (x ∷ xs) = cond (eqb c x.channel) (f x ∷ xs) (x ∷ changed_source c f xs)

-- one mode set by its keyword
abbrev pub set_mode : Tree → Tree → Source → Source
set_mode (key name) v x =
    cond (bytes_eq name (codes "mute")) (record x { mute = truth v })
    (cond (bytes_eq name (codes "pause")) (record x { pause = truth v })
    (cond (bytes_eq name (codes "solo")) (record x { solo = truth v }) x))
set_mode other v x = x

abbrev pub set_modes : TreePairs → Source → Source
set_modes empty x = x
set_modes (pair k v ps) x = set_modes ps (set_mode k v x)

abbrev pub with_modes_in : Tree → Source → Source
with_modes_in (map ps) x = set_modes ps x
with_modes_in other x = x

-- for each pair the modes that it names, in order of the map
abbrev pub toggled : TreePairs → List Source → List Source
toggled empty xs = xs
toggled (pair c m ps) xs = toggled ps (changed_source (port_of_value c) (with_modes_in m) xs)

abbrev pub pairs_in : Tree → TreePairs
pairs_in (map ps) = ps
pairs_in other = empty

-- each key names a channel
abbrev pub all_channels : (Tree → Bool) → TreePairs → Bool
all_channels is_channel empty = true
all_channels is_channel (pair c m ps) = is_channel c && all_channels is_channel ps

abbrev pub names_channel : ℕ → TreePairs → Bool
names_channel c empty = false
names_channel c (pair k m ps) = cond (eqb c (port_of_value k)) true (names_channel c ps)

-- no two keys name one channel
abbrev pub channels_differ : TreePairs → Bool
channels_differ empty = true
channels_differ (pair k m ps) = not (names_channel (port_of_value k) ps) && channels_differ ps

abbrev pub source_value : Source → Tree
source_value x = vector (item (port x.channel) (item (bool x.mute) (item (bool x.pause) (item (bool x.solo) none))))

abbrev pub mode_value : Bool → Tree
mode_value pausing = key (cond pausing (codes "pause") (codes "mute"))

abbrev pub is_pause : Tree → Bool
is_pause (key name) = bytes_eq name (codes "pause")
is_pause other = false

abbrev pub mix_row : (Tree → Bool) → ℕ → ℕ → Bool → List Source → RegisterName → Trees → Registered
mix_row is_channel o g mode xs Admix args =
    let ys = changed_source (port_of_value (first_of args)) (λ x. x) xs in
    within_limit 255 (length ys) (port g) (a_mix o g mode ys)
mix_row is_channel o g mode xs Unmix args = answers (port g) (a_mix o g mode (filter (λ x. not (eqb (port_of_value (first_of args)) x.channel)) xs))
mix_row is_channel o g mode xs UnmixAll args = answers (port g) (a_mix o g mode [])
mix_row is_channel o g mode xs Toggle args =
    let ys = toggled (pairs_in (first_of args)) xs in
    cond (all_channels is_channel (pairs_in (first_of args))) (within_limit 255 (length ys) (port g) (a_mix o g mode ys)) (refuses NotAPort)
mix_row is_channel o g mode xs SoloMode args = answers (port g) (a_mix o g (is_pause (first_of args)) xs)
mix_row is_channel o g mode xs Modes args = answers (vector (item (mode_value mode) (trees_of (each_of source_value xs)))) (a_mix o g mode xs)
mix_row is_channel o g mode xs other args = refuses NotAPort

-- Topics: at most 1,024. Equal topics are equal values.
abbrev pub topic_value : TopicView → Tree
topic_value t = vector (item (port t.mult) (item (port t.channel) none))

-- the pair that stands there for the topic, or nil
abbrev pub pair_found : Tree → List TopicView → Tree
pair_found topic [] = nil
pair_found topic (t ∷ ts) = cond (equals topic t.topic) (topic_value t) (pair_found topic ts)

abbrev pub with_topic_placed : TopicView → List TopicView → List TopicView
with_topic_placed t [] = t ∷ []
with_topic_placed t (u ∷ us) = cond (equals t.topic u.topic) (u ∷ us) (u ∷ with_topic_placed t us)

abbrev pub publication_row : ℕ → List TopicView → RegisterName → Trees → Registered
publication_row s ts Find args = answers (pair_found (first_of args) ts) (a_publication s ts)
publication_row s ts Place args =
    let us = with_topic_placed (record { topic = first_of args; mult = port_of_value (second_of args); channel = port_of_value (third_of args) }) ts in
    within_limit 1024 (length us) (pair_found (first_of args) us) (a_publication s us)
publication_row s ts Drop args = answers nil (a_publication s (filter (λ t. not (equals (first_of args) t.topic)) ts))
publication_row s ts Clear args = answers nil (a_publication s [])
publication_row s ts Topics args = answers (vector (trees_of (each_of (λ t. port t.channel) ts))) (a_publication s ts)
publication_row s ts other args = refuses NotAPort

-- the table: the operation of that name with these further arguments
abbrev pub register : (Tree → Bool) → Registry → RegisterName → Trees → Registered
register is_channel (a_mult s ts) name args = mult_row s ts name args
register is_channel (a_mix o g mode xs) name args = mix_row is_channel o g mode xs name args
register is_channel (a_publication s ts) name args = publication_row s ts name args
