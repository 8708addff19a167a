-- Whether operands are right hangs on the ports among them alone.
use Rattle.std.proofs.Common.{◌≡◌, ℕ, List, [], ◌∷◌, ◌++◌, refl, sym, ap, ap₂, ◌∙◌, Bool, true, false, ◌&&◌, cond, Option, Some, None, is_some, nat_lt}
use Rattle.ca_value.specs.Tree.{Tree, Trees, TreePairs, bool, empty, int, item, key, map, nil, none, pair, port, text, vector}
use Rattle.ca_term.specs.declared.fault.Fault.{Fault}
use Rattle.ca_term.specs.declared.fault.Fault.TheVariants.{NotAPort, TooManyPorts}
use Rattle.ca_term.specs.declared.head.RegisterName.{RegisterName}
use Rattle.ca_term.specs.declared.head.RegisterName.TheVariants.{Tap, Untap, UntapAll, Taps, Admix, Unmix, UnmixAll, Toggle, SoloMode, Modes, Find, Place, Drop, Clear, Topics}
use Rattle.ca_term.specs.Operation.{OpView, SeedView, choosing, closing, go, making, posting, printing, putting, registering, spawning, system, taking}
use Rattle.ca_meaning.specs.Operands.{count_of, first_of, is_pair, or_else, port_of_value, rest_of, second_of}
use Rattle.ca_meaning.specs.Refusal.{Need, a_channel, anything, bad_choice, bad_port, bad_ports, bad_seed, fault_of_registered, is_channel, is_needed_port, is_port_to, is_the_mix, is_the_mult, is_the_publication, meets_need, needs_of_system, needs_to_make, needs_to_register, nil_put, not_a_channel, not_needed, operands_to_make, registered_at, registering_gives, the_mix, the_mult, the_publication, unfit, unmet}
use Rattle.ca_meaning.specs.Registry.{Registry, all_channels, pairs_in}
use Rattle.ca_meaning.specs.State.{State}
use Rattle.ca_meaning.specs.Wait.{is_among}
use Rattle.ca_commit.specs.Contents.{Kept, Parts, at_key, channel_of, whole}
use Rattle.ca_commit.specs.Deciding.{AreOperandsRefused}
use Rattle.ca_commit.specs.Moves.{UnfitIn}
use Rattle.ca_commit.specs.Naming.{NamesHeld, named_ports, listed_port, port_keys, port_of_item, ports_among, ports_of_items, ports_of_seed, ports_toggled}
use Rattle.ca_commit.specs.Planning.{state_of}
use Rattle.ca_commit.specs.Registering.{keys_pass}
use Rattle.ca_commit.proofs.Among.{among_first, among_left, among_right}
use Rattle.ca_commit.proofs.FitsMore.{first_none}
use Rattle.ca_registry.proofs.KeyLaws.{refused_keys, same_table}

module _ (s t : State) where
  abbrev pub SameAt : ℕ → Type 0
  SameAt n = (s.channels n ≡ t.channels n) × (s.registries n ≡ t.registries n)

  -- both states have the same at these ports
  abbrev pub Same : List ℕ → Type 0
  Same ns = (n : ℕ) → is_among n ns ≡ true → SameAt n

  left : (xs ys : List ℕ) → Same (xs ++ ys) → Same xs
  left xs ys same n e = same n (among_left n xs ys e)

  right : (xs ys : List ℕ) → Same (xs ++ ys) → Same ys
  right xs ys same n e = same n (among_right n xs ys e)

  port_same : (need : Need) (n : ℕ) → SameAt n → is_port_to s need n ≡ is_port_to t need n
  port_same a_channel n e = ap is_some e.0
  port_same the_mult n e = ap is_the_mult e.1
  port_same the_mix n e = ap is_the_mix e.1
  port_same the_publication n e = ap is_the_publication e.1
  port_same anything n e = refl

  needed_same : (need : Need) (v : Tree) → Same (listed_port v) → is_needed_port s need v ≡ is_needed_port t need v
  needed_same need (port n) same = port_same need n (same n (among_first n [] n refl))
  needed_same need nil same = refl
  needed_same need (bool b) same = refl
  needed_same need (int z) same = refl
  needed_same need (text c) same = refl
  needed_same need (key c) same = refl
  needed_same need (vector vs) same = refl
  needed_same need (map ps) same = refl

  meets_same : (need : Need) (v : Tree) → Same (listed_port v) → meets_need s need v ≡ meets_need t need v
  meets_same anything v same = refl
  meets_same a_channel v same = needed_same a_channel v same
  meets_same the_mult v same = needed_same the_mult v same
  meets_same the_mix v same = needed_same the_mix v same
  meets_same the_publication v same = needed_same the_publication v same

  not_needed_same : (need : Need) (v : Tree) → Same (listed_port v) → not_needed s need v ≡ not_needed t need v
  not_needed_same need v same = ap (λ b. cond b None (Some NotAPort)) (meets_same need v same)

  unmet_same : (needs : List Need) (vs : Trees) → Same (ports_among vs) → unmet s needs vs ≡ unmet t needs vs
  unmet_same [] vs same = refl
  unmet_same (n ∷ ns) none same = ap₂ (λ x y. or_else x y) (not_needed_same n nil same) (unmet_same ns none same)
  unmet_same (n ∷ ns) (item v vs) same = ap₂ (λ x y. or_else x y) (not_needed_same n v (left (listed_port v) (ports_among vs) same)) (unmet_same ns vs (right (listed_port v) (ports_among vs) same))

  channel_same : (v : Tree) → Same (listed_port v) → not_a_channel s v ≡ not_a_channel t v
  channel_same v same = ap (λ b. cond b None (Some NotAPort)) (needed_same a_channel v same)

  put_same : (c v : Tree) → Same (listed_port c) → or_else (not_a_channel s c) (nil_put v) ≡ or_else (not_a_channel t c) (nil_put v)
  put_same c v same = ap (λ x. or_else x (nil_put v)) (channel_same c same)

  item_same : (v : Tree) → Same (port_of_item v) → bad_port s v ≡ bad_port t v
  item_same (vector vs) same = ap (λ x. cond (is_pair vs) (or_else x (nil_put (second_of vs))) (Some NotAPort)) (channel_same (first_of vs) same)
  item_same (port n) same = channel_same (port n) same
  item_same nil same = refl
  item_same (bool b) same = refl
  item_same (int z) same = refl
  item_same (text c) same = refl
  item_same (key c) same = refl
  item_same (map ps) same = refl

  items_same : (vs : Trees) → Same (ports_of_items vs) → bad_ports s vs ≡ bad_ports t vs
  items_same none same = refl
  items_same (item v vs) same = ap₂ (λ x y. or_else x y) (item_same v (left (port_of_item v) (ports_of_items vs) same)) (items_same vs (right (port_of_item v) (ports_of_items vs) same))

  choice_same : (vs : Trees) → Same (ports_of_items vs) → bad_choice s vs ≡ bad_choice t vs
  choice_same none same = refl
  choice_same (item v vs) same = ap (λ x. cond (nat_lt 256 (count_of (item v vs))) (Some TooManyPorts) x) (items_same (item v vs) same)

  seed_same : (seed : SeedView) → Same (ports_of_seed seed) → bad_seed s seed ≡ bad_seed t seed
  seed_same (go n values result place) same = channel_same (port result) same
  seed_same (system kind values place) same = unmet_same (needs_of_system kind) values same

  keys_same : (ps : TreePairs) → Same (port_keys ps) → all_channels (is_channel s) ps ≡ all_channels (is_channel t) ps
  keys_same empty same = refl
  keys_same (pair k v ps) same = ap₂ (λ a b. a && b) (needed_same a_channel k (left (listed_port k) (port_keys ps) same)) (keys_same ps (right (listed_port k) (port_keys ps) same))

  pass_same : (name : RegisterName) (args : Trees) → Same (ports_toggled name args) → keys_pass s name (rest_of args) ≡ keys_pass t name (rest_of args)
  pass_same Toggle args same = keys_same (pairs_in (second_of args)) same
  pass_same Tap args same = refl
  pass_same Untap args same = refl
  pass_same UntapAll args same = refl
  pass_same Taps args same = refl
  pass_same Admix args same = refl
  pass_same Unmix args same = refl
  pass_same UnmixAll args same = refl
  pass_same SoloMode args same = refl
  pass_same Modes args same = refl
  pass_same Find args same = refl
  pass_same Place args same = refl
  pass_same Drop args same = refl
  pass_same Clear args same = refl
  pass_same Topics args same = refl

  table_same : (o : Option Registry) (name : RegisterName) (args : Trees) → keys_pass s name args ≡ keys_pass t name args → registered_at s o name args ≡ registered_at t o name args
  table_same o name args same = by (keys_pass t name args) refl where
    by : (b : Bool) → keys_pass t name args ≡ b → registered_at s o name args ≡ registered_at t o name args
    by true e = same_table s o name args (same ∙ e) ∙ sym (same_table t o name args e)
    by false e = refused_keys s o name args (same ∙ e) ∙ sym (refused_keys t o name args e)

  first_same : (vs : Trees) → Same (ports_among vs) → Same (listed_port (first_of vs))
  first_same none same = same
  first_same (item v vs) same = left (listed_port v) (ports_among vs) same

  port_needed : (need : Need) (v : Tree) → cond (is_needed_port t need v) None (Some NotAPort) ≡ None → Same (listed_port v) → s.registries (port_of_value v) ≡ t.registries (port_of_value v)
  port_needed need (port n) e same = (same n (among_first n [] n refl)).1
  port_needed need nil e same = absurd cc
  port_needed need (bool b) e same = absurd cc
  port_needed need (int z) e same = absurd cc
  port_needed need (text c) e same = absurd cc
  port_needed need (key c) e same = absurd cc
  port_needed need (vector vs) e same = absurd cc
  port_needed need (map ps) e same = absurd cc

  -- the first argument, where it is the registry that is needed
  registry_needed : (need : Need) (needs : List Need) (args : Trees) → or_else (cond (is_needed_port t need (first_of args)) None (Some NotAPort)) (unmet t needs (rest_of args)) ≡ None → Same (ports_among args) → s.registries (port_of_value (first_of args)) ≡ t.registries (port_of_value (first_of args))
  registry_needed need needs args e same = port_needed need (first_of args) (first_none (cond (is_needed_port t need (first_of args)) None (Some NotAPort)) (unmet t needs (rest_of args)) e) (first_same args same)

  registry_same : (name : RegisterName) (args : Trees) → unmet t (needs_to_register name) args ≡ None → Same (ports_among args) → s.registries (port_of_value (first_of args)) ≡ t.registries (port_of_value (first_of args))
  registry_same Tap args e same = registry_needed the_mult (a_channel ∷ []) args e same
  registry_same Untap args e same = registry_needed the_mult (a_channel ∷ []) args e same
  registry_same UntapAll args e same = registry_needed the_mult [] args e same
  registry_same Taps args e same = registry_needed the_mult [] args e same
  registry_same Admix args e same = registry_needed the_mix (a_channel ∷ []) args e same
  registry_same Unmix args e same = registry_needed the_mix (a_channel ∷ []) args e same
  registry_same UnmixAll args e same = registry_needed the_mix [] args e same
  registry_same Toggle args e same = registry_needed the_mix [] args e same
  registry_same SoloMode args e same = registry_needed the_mix [] args e same
  registry_same Modes args e same = registry_needed the_mix [] args e same
  registry_same Find args e same = registry_needed the_publication [] args e same
  registry_same Place args e same = registry_needed the_publication (anything ∷ the_mult ∷ a_channel ∷ []) args e same
  registry_same Drop args e same = registry_needed the_publication [] args e same
  registry_same Clear args e same = registry_needed the_publication [] args e same
  registry_same Topics args e same = registry_needed the_publication [] args e same

  registering_same : (name : RegisterName) (args : Trees) → Same (ports_among args ++ ports_toggled name args) → unfit s (registering name args) ≡ unfit t (registering name args)
  registering_same name args same = by (unmet t (needs_to_register name) args) refl where
    met : unmet s (needs_to_register name) args ≡ unmet t (needs_to_register name) args
    met = unmet_same (needs_to_register name) args (left (ports_among args) (ports_toggled name args) same)

    gives : unmet t (needs_to_register name) args ≡ None → registering_gives s name args ≡ registering_gives t name args
    gives e = ap (λ o. registered_at s o name (rest_of args)) (registry_same name args e (left (ports_among args) (ports_toggled name args) same))
        ∙ table_same (t.registries (port_of_value (first_of args))) name (rest_of args) (pass_same name args (right (ports_among args) (ports_toggled name args) same))

    by : (o : Option Fault) → unmet t (needs_to_register name) args ≡ o
        → or_else (unmet s (needs_to_register name) args) (fault_of_registered (registering_gives s name args)) ≡ or_else (unmet t (needs_to_register name) args) (fault_of_registered (registering_gives t name args))
    by (Some f) e = ap (λ x. or_else x (fault_of_registered (registering_gives s name args))) (met ∙ e) ∙ sym (ap (λ x. or_else x (fault_of_registered (registering_gives t name args))) e)
    by None e = ap₂ (λ x y. or_else x y) met (ap fault_of_registered (gives e))

  pub unfit_same : (op : OpView) → Same (named_ports op) → unfit s op ≡ unfit t op
  unfit_same (taking c) same = channel_same c same
  unfit_same (putting c v) same = put_same c v same
  unfit_same (posting c v) same = put_same c v same
  unfit_same (choosing ports priority default) same = choice_same ports same
  unfit_same (making what) same = unmet_same (needs_to_make what) (operands_to_make what) same
  unfit_same (spawning seed) same = seed_same seed same
  unfit_same (closing c) same = channel_same c same
  unfit_same (registering name args) same = registering_same name args same
  unfit_same (printing line) same = refl

-- what is refused in the held banks is refused whatever is in the other banks
pub names_told : {A : Type 0} (h : Parts A) (op : OpView) (f : Fault) → NamesHeld h op → AreOperandsRefused h op f → UnfitIn h op f
names_told h op f held e = λ s shows. unfit_same s (state_of (whole h.bank) (whole h.registry)) op (λ n among. let b = held n among in
    (shows.channels n b.0 b.2 ∙ sym (ap (λ (o : Option (ℕ → Option Kept)). channel_of (at_key o n)) b.2), shows.registries n b.1 b.3 ∙ sym (ap (λ (o : Option (ℕ → Option Registry)). at_key o n) b.3))) ∙ e
