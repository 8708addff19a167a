-- What is right in the held banks is right in every state that has them.
use Rattle.std.proofs.Common.{◌≡◌, ℕ, List, [], ◌∷◌, refl, sym, ap, ◌∙◌, Bool, true, false, ◌&&◌, cond, Option, Some, None, is_some, nat_lt}
use Rattle.ca_value.specs.Tree.{Tree, Trees, TreePairs, empty, item, map, none, pair, port, vector, nil, bool, int, text, key}
use Rattle.ca_term.specs.declared.fault.Fault.{Fault}
use Rattle.ca_term.specs.declared.fault.Fault.TheVariants.{NotAPort, TooManyPorts}
use Rattle.ca_term.specs.declared.head.RegisterName.{RegisterName}
use Rattle.ca_term.specs.declared.head.RegisterName.TheVariants.{Tap, Untap, UntapAll, Taps, Admix, Unmix, UnmixAll, Toggle, SoloMode, Modes, Find, Place, Drop, Clear, Topics}
use Rattle.ca_term.specs.Operation.{OpView, SeedView, choosing, closing, go, making, posting, printing, putting, registering, spawning, system, taking}
use Rattle.ca_meaning.specs.Operands.{count_of, first_of, is_pair, or_else, port_of_value, rest_of, second_of}
use Rattle.ca_meaning.specs.Registry.{Registry, all_channels, pairs_in}
use Rattle.ca_meaning.specs.State.{State}
use Rattle.ca_meaning.specs.Refusal.{Need, a_channel, anything, bad_choice, bad_port, bad_ports, bad_seed, fault_of_registered, is_channel, is_needed_port, is_port_to, is_the_mix, is_the_mult, is_the_publication, meets_need, needs_of_system, needs_to_make, needs_to_register, nil_put, not_a_channel, not_needed, operands_to_make, registered_at, registering_gives, the_mix, the_mult, the_publication, unfit, unmet}
use Rattle.ca_commit.specs.Contents.{Kept, Parts, at_key, channel_of, home, whole}
use Rattle.ca_commit.specs.Moves.{FitIn, Shows}
use Rattle.ca_commit.specs.Planning.{state_of}
use Rattle.ca_commit.specs.Registering.{keys_pass}
use Rattle.ca_registry.proofs.KeyLaws.{refused_keys, same_table}

pub first_none : (f g : Option Fault) → or_else f g ≡ None → f ≡ None
first_none None g e = refl
first_none (Some x) g e = absurd cc

pub second_none : (f g : Option Fault) → or_else f g ≡ None → g ≡ None
second_none None g e = e
second_none (Some x) g e = absurd cc

both_none : (f g : Option Fault) → f ≡ None → g ≡ None → or_else f g ≡ None
both_none f g a b = ap (λ h. or_else h g) a ∙ b

-- a test that gives no fault holds
pub passes : (b : Bool) (f : Fault) → cond b None (Some f) ≡ None → b ≡ true
passes true f e = refl
passes false f e = absurd cc

module _ {A : Type 0} (h : Parts A) (s : State) (shows : Shows h s) where
  abbrev held : State
  held = state_of (whole h.bank) (whole h.registry)

  channel_more : (n : ℕ) → is_some (channel_of (whole h.bank n)) ≡ true → is_some (s.channels n) ≡ true
  channel_more n = by (h.bank (home n)) refl where
    by : (o : Option (ℕ → Option Kept)) → h.bank (home n) ≡ o → is_some (channel_of (at_key o n)) ≡ true → is_some (s.channels n) ≡ true
    by None e t = absurd cc
    by (Some f) e t = ap is_some (shows.channels n f e) ∙ t

  registry_more : (n : ℕ) (r : Registry) → whole h.registry n ≡ Some r → s.registries n ≡ Some r
  registry_more n r = by (h.registry (home n)) refl where
    by : (o : Option (ℕ → Option Registry)) → h.registry (home n) ≡ o → at_key o n ≡ Some r → s.registries n ≡ Some r
    by None e t = absurd cc
    by (Some f) e t = shows.registries n f e ∙ t

  kind_more : (is : Option Registry → Bool) (n : ℕ) → is None ≡ false → is (whole h.registry n) ≡ true → is (s.registries n) ≡ true
  kind_more is n not = by (whole h.registry n) refl where
    by : (o : Option Registry) → whole h.registry n ≡ o → is o ≡ true → is (s.registries n) ≡ true
    by None e t = absurd (let k : true ≡ false = sym t ∙ not in cc)
    by (Some r) e t = ap is (registry_more n r e) ∙ t

  port_more : (need : Need) (n : ℕ) → is_port_to held need n ≡ true → is_port_to s need n ≡ true
  port_more a_channel n e = channel_more n e
  port_more the_mult n e = kind_more is_the_mult n refl e
  port_more the_mix n e = kind_more is_the_mix n refl e
  port_more the_publication n e = kind_more is_the_publication n refl e
  port_more anything n e = refl

  needed_more : (need : Need) (v : Tree) → is_needed_port held need v ≡ true → is_needed_port s need v ≡ true
  needed_more need (port n) e = port_more need n e
  needed_more need nil e = absurd cc
  needed_more need (bool b) e = absurd cc
  needed_more need (int z) e = absurd cc
  needed_more need (text t) e = absurd cc
  needed_more need (key t) e = absurd cc
  needed_more need (vector vs) e = absurd cc
  needed_more need (map ps) e = absurd cc

  need_more : (need : Need) (v : Tree) → meets_need held need v ≡ true → meets_need s need v ≡ true
  need_more anything v e = refl
  need_more a_channel v e = needed_more a_channel v e
  need_more the_mult v e = needed_more the_mult v e
  need_more the_mix v e = needed_more the_mix v e
  need_more the_publication v e = needed_more the_publication v e

  met_more : (need : Need) (v : Tree) → not_needed held need v ≡ None → not_needed s need v ≡ None
  met_more need v e = ap (λ b. cond b None (Some NotAPort)) (need_more need v (passes (meets_need held need v) NotAPort e))

  all_met_more : (needs : List Need) (vs : Trees) → unmet held needs vs ≡ None → unmet s needs vs ≡ None
  all_met_more [] vs e = refl
  all_met_more (n ∷ ns) vs e = both_none (not_needed s n (first_of vs)) (unmet s ns (rest_of vs)) (met_more n (first_of vs) (first_none (not_needed held n (first_of vs)) (unmet held ns (rest_of vs)) e)) (all_met_more ns (rest_of vs) (second_none (not_needed held n (first_of vs)) (unmet held ns (rest_of vs)) e))

  is_more : (v : Tree) → not_a_channel held v ≡ None → not_a_channel s v ≡ None
  is_more v e = ap (λ b. cond b None (Some NotAPort)) (needed_more a_channel v (passes (is_channel held v) NotAPort e))

  put_more : (c v : Tree) → or_else (not_a_channel held c) (nil_put v) ≡ None → or_else (not_a_channel s c) (nil_put v) ≡ None
  put_more c v e = both_none (not_a_channel s c) (nil_put v) (is_more c (first_none (not_a_channel held c) (nil_put v) e)) (second_none (not_a_channel held c) (nil_put v) e)

  pair_more : (vs : Trees) (b : Bool) → cond b (or_else (not_a_channel held (first_of vs)) (nil_put (second_of vs))) (Some NotAPort) ≡ None → cond b (or_else (not_a_channel s (first_of vs)) (nil_put (second_of vs))) (Some NotAPort) ≡ None
  pair_more vs true e = put_more (first_of vs) (second_of vs) e
  pair_more vs false e = e

  good_more : (v : Tree) → bad_port held v ≡ None → bad_port s v ≡ None
  good_more (vector vs) e = pair_more vs (is_pair vs) e
  good_more (port n) e = is_more (port n) e
  good_more nil e = is_more nil e
  good_more (bool b) e = is_more (bool b) e
  good_more (int z) e = is_more (int z) e
  good_more (text t) e = is_more (text t) e
  good_more (key t) e = is_more (key t) e
  good_more (map ps) e = is_more (map ps) e

  ports_more : (vs : Trees) → bad_ports held vs ≡ None → bad_ports s vs ≡ None
  ports_more none e = refl
  ports_more (item v vs) e = both_none (bad_port s v) (bad_ports s vs) (good_more v (first_none (bad_port held v) (bad_ports held vs) e)) (ports_more vs (second_none (bad_port held v) (bad_ports held vs) e))

  choice_more : (vs : Trees) → bad_choice held vs ≡ None → bad_choice s vs ≡ None
  choice_more none e = e
  choice_more (item v vs) e = by (nat_lt 256 (count_of (item v vs))) e where
    by : (b : Bool) → cond b (Some TooManyPorts) (bad_ports held (item v vs)) ≡ None → cond b (Some TooManyPorts) (bad_ports s (item v vs)) ≡ None
    by true e = e
    by false e = ports_more (item v vs) e

  seed_more : (seed : SeedView) → bad_seed held seed ≡ None → bad_seed s seed ≡ None
  seed_more (go n values result place) e = is_more (port result) e
  seed_more (system kind values place) e = all_met_more (needs_of_system kind) values e

  keys_more : (ps : TreePairs) → all_channels (is_channel held) ps ≡ true → all_channels (is_channel s) ps ≡ true
  keys_more empty e = refl
  keys_more (pair k v ps) e = by (is_channel held k) refl e (λ t. keys_more ps t) where
    by : (b : Bool) → is_channel held k ≡ b → b && all_channels (is_channel held) ps ≡ true → (all_channels (is_channel held) ps ≡ true → all_channels (is_channel s) ps ≡ true) → is_channel s k && all_channels (is_channel s) ps ≡ true
    by true f t more = ap (λ b. b && all_channels (is_channel s) ps) (needed_more a_channel k f) ∙ more t
    by false f t more = absurd cc

  pass_more : (name : RegisterName) (args : Trees) → keys_pass held name args ≡ true → keys_pass s name args ≡ true
  pass_more Toggle args e = keys_more (pairs_in (first_of args)) e
  pass_more Tap args e = refl
  pass_more Untap args e = refl
  pass_more UntapAll args e = refl
  pass_more Taps args e = refl
  pass_more Admix args e = refl
  pass_more Unmix args e = refl
  pass_more UnmixAll args e = refl
  pass_more SoloMode args e = refl
  pass_more Modes args e = refl
  pass_more Find args e = refl
  pass_more Place args e = refl
  pass_more Drop args e = refl
  pass_more Clear args e = refl
  pass_more Topics args e = refl

  -- an operation on a registry comes to the same
  pub register_more : (name : RegisterName) (args : Trees) → fault_of_registered (registering_gives held name args) ≡ None → registering_gives s name args ≡ registering_gives held name args
  register_more name args = by (whole h.registry (port_of_value (first_of args))) refl where
    right : (r : Registry) → whole h.registry (port_of_value (first_of args)) ≡ Some r → (b : Bool) → keys_pass held name (rest_of args) ≡ b → fault_of_registered (registered_at held (Some r) name (rest_of args)) ≡ None
        → registered_at s (s.registries (port_of_value (first_of args))) name (rest_of args) ≡ registered_at held (Some r) name (rest_of args)
    right r e true k f = ap (λ o. registered_at s o name (rest_of args)) (registry_more (port_of_value (first_of args)) r e) ∙ same_table s (Some r) name (rest_of args) (pass_more name (rest_of args) k) ∙ sym (same_table held (Some r) name (rest_of args) k)
    right r e false k f = absurd (let c : Some NotAPort ≡ None = sym (ap fault_of_registered (refused_keys held (Some r) name (rest_of args) k)) ∙ f in cc)

    by : (o : Option Registry) → whole h.registry (port_of_value (first_of args)) ≡ o → fault_of_registered (registered_at held o name (rest_of args)) ≡ None
        → registered_at s (s.registries (port_of_value (first_of args))) name (rest_of args) ≡ registered_at held o name (rest_of args)
    by None e f = absurd cc
    by (Some r) e f = right r e (keys_pass held name (rest_of args)) refl f

  fits_more : (op : OpView) → unfit held op ≡ None → unfit s op ≡ None
  fits_more (taking c) e = is_more c e
  fits_more (putting c v) e = put_more c v e
  fits_more (posting c v) e = put_more c v e
  fits_more (choosing ports priority default) e = choice_more ports e
  fits_more (making what) e = all_met_more (needs_to_make what) (operands_to_make what) e
  fits_more (spawning seed) e = seed_more seed e
  fits_more (closing c) e = is_more c e
  fits_more (registering name args) e =
      let met = first_none (unmet held (needs_to_register name) args) (fault_of_registered (registering_gives held name args)) e in
      let table = second_none (unmet held (needs_to_register name) args) (fault_of_registered (registering_gives held name args)) e in
      both_none (unmet s (needs_to_register name) args) (fault_of_registered (registering_gives s name args)) (all_met_more (needs_to_register name) args met) (ap fault_of_registered (register_more name args table) ∙ table)
  fits_more (printing line) e = refl

-- the operands are right, whatever is in the other banks
pub fits_in : {A : Type 0} (h : Parts A) (op : OpView) → unfit (state_of (whole h.bank) (whole h.registry)) op ≡ None → FitIn h op
fits_in h op e = λ s shows. fits_more h s shows op e
