-- The table of a registry where each key of a toggle is a channel, and where one isn't.
use Rattle.std.proofs.Common.{◌≡◌, refl, sym, ap, ◌∙◌, true, false, cond, length, Option, Some, None}
use Rattle.ca_value.specs.Tree.{Trees, TreePairs, empty, pair, port}
use Rattle.ca_term.specs.declared.fault.Fault.TheVariants.{NotAPort}
use Rattle.ca_term.specs.declared.head.RegisterName.{RegisterName}
use Rattle.ca_term.specs.declared.head.RegisterName.TheVariants.{Tap, Untap, UntapAll, Taps, Admix, Unmix, UnmixAll, Toggle, SoloMode, Modes, Find, Place, Drop, Clear, Topics}
use Rattle.ca_meaning.specs.Operands.{first_of}
use Rattle.ca_meaning.specs.Registry.{Registry, a_mix, a_mult, a_publication, all_channels, pairs_in, refuses, toggled, within_limit}
use Rattle.ca_meaning.specs.Refusal.{is_channel, registered_at}
use Rattle.ca_meaning.specs.State.{State}
use Rattle.ca_registry.specs.Mixes.{TogglesApart}
use Rattle.ca_registry.specs.Registry.{comes_to}
use Rattle.ca_registry.specs.Needs.{keys_pass}

all_true : (ps : TreePairs) → all_channels (λ v. true) ps ≡ true
all_true empty = refl
all_true (pair k v ps) = all_true ps

-- a key that is no channel
pub refused_keys : (s : State) (o : Option Registry) (name : RegisterName) (args : Trees) → keys_pass s name args ≡ false → registered_at s o name args ≡ refuses NotAPort
refused_keys s None name args e = refl
refused_keys s (Some r) Tap args e = absurd cc
refused_keys s (Some r) Untap args e = absurd cc
refused_keys s (Some r) UntapAll args e = absurd cc
refused_keys s (Some r) Taps args e = absurd cc
refused_keys s (Some r) Admix args e = absurd cc
refused_keys s (Some r) Unmix args e = absurd cc
refused_keys s (Some r) UnmixAll args e = absurd cc
refused_keys s (Some (a_mult c ts)) Toggle args e = refl
refused_keys s (Some (a_mix o g mode xs)) Toggle args e = ap (λ b. cond b (within_limit 255 (length (toggled (pairs_in (first_of args)) xs)) (port g) (a_mix o g mode (toggled (pairs_in (first_of args)) xs))) (refuses NotAPort)) e
refused_keys s (Some (a_publication c ts)) Toggle args e = refl
refused_keys s (Some r) SoloMode args e = absurd cc
refused_keys s (Some r) Modes args e = absurd cc
refused_keys s (Some r) Find args e = absurd cc
refused_keys s (Some r) Place args e = absurd cc
refused_keys s (Some r) Drop args e = absurd cc
refused_keys s (Some r) Clear args e = absurd cc
refused_keys s (Some r) Topics args e = absurd cc

-- no such key
pub same_table : (s : State) (o : Option Registry) (name : RegisterName) (args : Trees) → keys_pass s name args ≡ true → registered_at s o name args ≡ comes_to o name args
same_table s None name args e = refl
same_table s (Some (a_mult c ts)) name args e = refl
same_table s (Some (a_publication c ts)) name args e = refl
same_table s (Some (a_mix o g mode xs)) Tap args e = refl
same_table s (Some (a_mix o g mode xs)) Untap args e = refl
same_table s (Some (a_mix o g mode xs)) UntapAll args e = refl
same_table s (Some (a_mix o g mode xs)) Taps args e = refl
same_table s (Some (a_mix o g mode xs)) Admix args e = refl
same_table s (Some (a_mix o g mode xs)) Unmix args e = refl
same_table s (Some (a_mix o g mode xs)) UnmixAll args e = refl
same_table s (Some (a_mix o g mode xs)) Toggle args e = ap (λ b. cond b (within_limit 255 (length (toggled (pairs_in (first_of args)) xs)) (port g) (a_mix o g mode (toggled (pairs_in (first_of args)) xs))) (refuses NotAPort)) (e ∙ sym (all_true (pairs_in (first_of args))))
same_table s (Some (a_mix o g mode xs)) SoloMode args e = refl
same_table s (Some (a_mix o g mode xs)) Modes args e = refl
same_table s (Some (a_mix o g mode xs)) Find args e = refl
same_table s (Some (a_mix o g mode xs)) Place args e = refl
same_table s (Some (a_mix o g mode xs)) Drop args e = refl
same_table s (Some (a_mix o g mode xs)) Clear args e = refl
same_table s (Some (a_mix o g mode xs)) Topics args e = refl

pub apart_by : (s : State) (name : RegisterName) (args : Trees) → keys_pass s name args ≡ true → (all_channels (is_channel s) (pairs_in (first_of args)) ≡ true → TogglesApart name args) → TogglesApart name args
apart_by s Tap args e f = tt
apart_by s Untap args e f = tt
apart_by s UntapAll args e f = tt
apart_by s Taps args e f = tt
apart_by s Admix args e f = tt
apart_by s Unmix args e f = tt
apart_by s UnmixAll args e f = tt
apart_by s Toggle args e f = f e
apart_by s SoloMode args e f = tt
apart_by s Modes args e f = tt
apart_by s Find args e f = tt
apart_by s Place args e f = tt
apart_by s Drop args e f = tt
apart_by s Clear args e f = tt
apart_by s Topics args e f = tt
