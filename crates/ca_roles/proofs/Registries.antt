-- Operations on mults, mixes and publications over public values answer with public values, and leave them so.
use Rattle.std.proofs.Common.{◌≡◌, ℕ, List, [], ◌∷◌, length, refl, sym, ap, ◌∙◌, subst, Bool, true, false, not, ◌&&◌, cond, eqb, nat_lt, map as each_of, codes, Some, None}
use Rattle.std.specs.Str.{bytes_eq}
use Rattle.ca_value.specs.Equality.{equals}
use Rattle.ca_value.specs.Tree.{Tree, Trees, TreePairs, nil, bool, int, text, key, vector, map, port, item, empty, pair, trees_of}
use Rattle.ca_term.specs.declared.fault.Fault.{Fault}
use Rattle.ca_term.specs.declared.head.RegisterName.{RegisterName}
use Rattle.ca_term.specs.declared.head.RegisterName.TheVariants.{Tap, Untap, UntapAll, Taps, Admix, Unmix, UnmixAll, Toggle, SoloMode, Modes, Find, Place, Drop, Clear, Topics}
use Rattle.ca_meaning.specs.Operands.{port_of_value, truth, first_of, second_of, third_of, rest_of}
use Rattle.ca_meaning.specs.Registry.{TapView, Source, TopicView, Registry, a_mult, a_mix, a_publication, Registered, answers, refuses, within_limit, tapped, tap_value, mult_row, plain_source, changed_source, set_mode, set_modes, with_modes_in, toggled, pairs_in, all_channels, source_value, mode_value, mix_row, topic_value, pair_found, with_topic_placed, publication_row, register}
use Rattle.ca_meaning.specs.State.{State}
use Rattle.ca_meaning.specs.Refusal.{Need, a_channel, the_mult, the_mix, the_publication, anything, is_channel, not_needed, unmet, needs_to_register}
use Rattle.ca_meaning.specs.Sound.{Each}
use Rattle.ca_meaning.proofs.Waits.{each-filter}
use Rattle.ca_roles.specs.Roles.{Roles, IsPublic, ArePublic, ArePublicPairs}
use Rattle.ca_roles.specs.Typed.{IsPublicPort, IsTypedTap, IsTypedSource, IsTypedTopic, TypedRegistry}
use Rattle.ca_roles.proofs.PublicParts.{AllPublic, trees_public}
use Rattle.ca_roles.proofs.Ports.{first_public, rest_public, second_public, third_public, a_port, needs_port, met, port_public}

module _ (roles : Roles) where
  -- an answer, and the registry afterwards
  abbrev pub GoesOnPublic : Registered → Type 0
  GoesOnPublic (answers v r) = IsPublic roles v × TypedRegistry roles r
  GoesOnPublic (refuses f) = Unit {0}

  within_public : (limit members : ℕ) (v : Tree) (r : Registry) → IsPublic roles v → TypedRegistry roles r → GoesOnPublic (within_limit limit members v r)
  within_public limit members v r h k = by (nat_lt limit members) where
    by : (b : Bool) → GoesOnPublic (cond b (refuses Fault.TooManyMembers) (answers v r))
    by true = tt
    by false = (h, k)

  values_public : {A : Type 0} (P : A → Type 0) (f : A → Tree) (xs : List A) → ((x : A) → P x → IsPublic roles (f x)) → Each P xs → AllPublic roles (each_of f xs)
  values_public P f [] g h = tt
  values_public P f (x ∷ xs) g h = (g x h.0, values_public P f xs g h.1)

  -- mults
  tapped_typed : (t : TapView) (ts : List TapView) → IsTypedTap roles t → Each (IsTypedTap roles) ts → Each (IsTypedTap roles) (tapped t ts)
  tapped_typed t [] h k = (h, tt)
  tapped_typed t (u ∷ us) h k = by (eqb t.channel u.channel) (tapped_typed t us h k.1) where
    by : (b : Bool) → Each (IsTypedTap roles) (tapped t us) → Each (IsTypedTap roles) (cond b (t ∷ us) (u ∷ tapped t us))
    by true r = (h, k.1)
    by false r = (k.0, r)

  taps_public : (ts : List TapView) → Each (IsTypedTap roles) ts → IsPublic roles (vector (trees_of (each_of tap_value ts)))
  taps_public ts h = trees_public roles (each_of tap_value ts) (values_public (IsTypedTap roles) tap_value ts (λ t k. (k, (tt, tt))) h)

  -- mixes
  changed_typed : (c : ℕ) (f : Source → Source) (xs : List Source) → ((x : Source) → (f x).channel ≡ x.channel) → IsPublicPort roles c → Each (IsTypedSource roles) xs → Each (IsTypedSource roles) (changed_source c f xs)
  changed_typed c f [] keeps h k = (subst (IsPublicPort roles) (sym (keeps (plain_source c))) h, tt)
  changed_typed c f (x ∷ xs) keeps h k = by (eqb c x.channel) (changed_typed c f xs keeps h k.1) where
    by : (b : Bool) → Each (IsTypedSource roles) (changed_source c f xs) → Each (IsTypedSource roles) (cond b (f x ∷ xs) (x ∷ changed_source c f xs))
    by true r = (subst (IsPublicPort roles) (sym (keeps x)) k.0, k.1)
    by false r = (k.0, r)

  mode_keeps : (k v : Tree) (x : Source) → (set_mode k v x).channel ≡ x.channel
  mode_keeps (key name) v x = by (bytes_eq name (codes "mute")) (bytes_eq name (codes "pause")) (bytes_eq name (codes "solo")) where
    by : (a b c : Bool) → (cond a (record x { mute = truth v }) (cond b (record x { pause = truth v }) (cond c (record x { solo = truth v }) x))).channel ≡ x.channel
    by true b c = refl
    by false true c = refl
    by false false true = refl
    by false false false = refl
  mode_keeps nil v x = refl
  mode_keeps (bool b) v x = refl
  mode_keeps (int z) v x = refl
  mode_keeps (text s) v x = refl
  mode_keeps (vector vs) v x = refl
  mode_keeps (map ps) v x = refl
  mode_keeps (port n) v x = refl

  modes_keep : (ps : TreePairs) (x : Source) → (set_modes ps x).channel ≡ x.channel
  modes_keep empty x = refl
  modes_keep (pair k v ps) x = modes_keep ps (set_mode k v x) ∙ mode_keeps k v x

  keeps_channel : (m : Tree) (x : Source) → (with_modes_in m x).channel ≡ x.channel
  keeps_channel (map ps) x = modes_keep ps x
  keeps_channel nil x = refl
  keeps_channel (bool b) x = refl
  keeps_channel (int z) x = refl
  keeps_channel (text s) x = refl
  keeps_channel (key s) x = refl
  keeps_channel (vector vs) x = refl
  keeps_channel (port n) x = refl

  pairs_public : (v : Tree) → IsPublic roles v → ArePublicPairs roles (pairs_in v)
  pairs_public (map ps) h = h
  pairs_public nil h = tt
  pairs_public (bool b) h = tt
  pairs_public (int z) h = tt
  pairs_public (text s) h = tt
  pairs_public (key s) h = tt
  pairs_public (vector vs) h = tt
  pairs_public (port n) h = tt

  sources_public : (mode : Bool) (xs : List Source) → Each (IsTypedSource roles) xs → IsPublic roles (vector (item (mode_value mode) (trees_of (each_of source_value xs))))
  sources_public mode xs h = (tt, trees_public roles (each_of source_value xs) (values_public (IsTypedSource roles) source_value xs (λ x k. (k, (tt, (tt, (tt, tt))))) h))

  -- publications
  topic_public : (t : TopicView) → IsTypedTopic roles t → IsPublic roles (topic_value t)
  topic_public t h = (h.1, (h.2, tt))

  found_public : (topic : Tree) (ts : List TopicView) → Each (IsTypedTopic roles) ts → IsPublic roles (pair_found topic ts)
  found_public topic [] h = tt
  found_public topic (t ∷ ts) h = by (equals topic t.topic) (found_public topic ts h.1) where
    by : (b : Bool) → IsPublic roles (pair_found topic ts) → IsPublic roles (cond b (topic_value t) (pair_found topic ts))
    by true r = topic_public t h.0
    by false r = r

  placed_typed : (t : TopicView) (ts : List TopicView) → IsTypedTopic roles t → Each (IsTypedTopic roles) ts → Each (IsTypedTopic roles) (with_topic_placed t ts)
  placed_typed t [] h k = (h, tt)
  placed_typed t (u ∷ us) h k = by (equals t.topic u.topic) (placed_typed t us h k.1) where
    by : (b : Bool) → Each (IsTypedTopic roles) (with_topic_placed t us) → Each (IsTypedTopic roles) (cond b (u ∷ us) (u ∷ with_topic_placed t us))
    by true r = k
    by false r = (k.0, r)

  topics_public : (ts : List TopicView) → Each (IsTypedTopic roles) ts → IsPublic roles (vector (trees_of (each_of (λ (t : TopicView). port t.channel) ts)))
  topics_public ts h = trees_public roles (each_of (λ (t : TopicView). port t.channel) ts) (values_public (IsTypedTopic roles) (λ (t : TopicView). port t.channel) ts (λ t k. k.2) h)

  module _ (s : State) where
    channel_public : (v : Tree) → IsPublic roles v → not_needed s a_channel v ≡ None → IsPublicPort roles (port_of_value v)
    channel_public v h e = port_public roles v (needs_port s a_channel v refl e) h

    -- the argument behind the registry's port
    second_channel : (n : Need) (ns : List Need) (vs : Trees) → ArePublic roles vs → unmet s (n ∷ a_channel ∷ ns) vs ≡ None → IsPublicPort roles (port_of_value (first_of (rest_of vs)))
    second_channel n ns vs h e = channel_public (first_of (rest_of vs)) (second_public roles vs h) (met s a_channel ns (rest_of vs) (met s n (a_channel ∷ ns) vs e).1).0

    is_public_channel : (v : Tree) → IsPublic roles v → is_channel s v ≡ true → IsPublicPort roles (port_of_value v)
    is_public_channel v h e = port_public roles v (a_port s v (ap (λ b. cond b None (Some Fault.NotAPort)) e)) h

    and_true : (a b : Bool) → a && b ≡ true → (a ≡ true) × (b ≡ true)
    and_true true b e = (refl, e)
    and_true false b e = absurd (let k : false ≡ true = e in cc)

    toggled_typed : (ps : TreePairs) (xs : List Source) → all_channels (is_channel s) ps ≡ true → ArePublicPairs roles ps → Each (IsTypedSource roles) xs → Each (IsTypedSource roles) (toggled ps xs)
    toggled_typed empty xs e h k = k
    toggled_typed (pair c m ps) xs e h k =
        let a = and_true (is_channel s c) (all_channels (is_channel s) ps) e in
        toggled_typed ps (changed_source (port_of_value c) (with_modes_in m) xs) a.1 h.2 (changed_typed (port_of_value c) (with_modes_in m) xs (keeps_channel m) (is_public_channel c h.0 a.0) k)

    abbrev Row : (RegisterName → Trees → Registered) → RegisterName → Type 0
    Row row name = (vs : Trees) → ArePublic roles vs → unmet s (needs_to_register name) vs ≡ None → GoesOnPublic (row name (rest_of vs))

    mult_row_public : (c : ℕ) (ts : List TapView) → IsPublicPort roles c → Each (IsTypedTap roles) ts → (name : RegisterName) → Row (mult_row c ts) name
    mult_row_public c ts h k Tap vs a e =
        let us = tapped (record { channel = port_of_value (first_of (rest_of vs)); closes = truth (second_of (rest_of vs)) }) ts in
        within_public 1024 (length us) (first_of (rest_of vs)) (a_mult c us) (second_public roles vs a) (h, tapped_typed _ ts (second_channel the_mult [] vs a e) k)
    mult_row_public c ts h k Untap vs a e = (tt, (h, each-filter (IsTypedTap roles) (λ t. not (eqb (port_of_value (first_of (rest_of vs))) t.channel)) ts k))
    mult_row_public c ts h k UntapAll vs a e = (tt, (h, tt))
    mult_row_public c ts h k Taps vs a e = (taps_public ts k, (h, k))
    mult_row_public c ts h k Admix vs a e = tt
    mult_row_public c ts h k Unmix vs a e = tt
    mult_row_public c ts h k UnmixAll vs a e = tt
    mult_row_public c ts h k Toggle vs a e = tt
    mult_row_public c ts h k SoloMode vs a e = tt
    mult_row_public c ts h k Modes vs a e = tt
    mult_row_public c ts h k Find vs a e = tt
    mult_row_public c ts h k Place vs a e = tt
    mult_row_public c ts h k Drop vs a e = tt
    mult_row_public c ts h k Clear vs a e = tt
    mult_row_public c ts h k Topics vs a e = tt

    mix_row_public : (o g : ℕ) (mode : Bool) (xs : List Source) → IsPublicPort roles o → IsPublicPort roles g → Each (IsTypedSource roles) xs → (name : RegisterName) → Row (mix_row (is_channel s) o g mode xs) name
    mix_row_public o g mode xs h j k Admix vs a e =
        let ys = changed_source (port_of_value (first_of (rest_of vs))) (λ x. x) xs in
        within_public 255 (length ys) (port g) (a_mix o g mode ys) j (h, j, changed_typed (port_of_value (first_of (rest_of vs))) (λ x. x) xs (λ x. refl) (second_channel the_mix [] vs a e) k)
    mix_row_public o g mode xs h j k Unmix vs a e = (j, (h, j, each-filter (IsTypedSource roles) (λ x. not (eqb (port_of_value (first_of (rest_of vs))) x.channel)) xs k))
    mix_row_public o g mode xs h j k UnmixAll vs a e = (j, (h, j, tt))
    mix_row_public o g mode xs h j k Toggle vs a e = by (all_channels (is_channel s) (pairs_in (first_of (rest_of vs)))) refl where
      by : (b : Bool) → all_channels (is_channel s) (pairs_in (first_of (rest_of vs))) ≡ b → GoesOnPublic (cond b (within_limit 255 (length (toggled (pairs_in (first_of (rest_of vs))) xs)) (port g) (a_mix o g mode (toggled (pairs_in (first_of (rest_of vs))) xs))) (refuses Fault.NotAPort))
      by true is = within_public 255 (length (toggled (pairs_in (first_of (rest_of vs))) xs)) (port g) (a_mix o g mode (toggled (pairs_in (first_of (rest_of vs))) xs)) j (h, j, toggled_typed (pairs_in (first_of (rest_of vs))) xs is (pairs_public (first_of (rest_of vs)) (second_public roles vs a)) k)
      by false is = tt
    mix_row_public o g mode xs h j k SoloMode vs a e = (j, (h, j, k))
    mix_row_public o g mode xs h j k Modes vs a e = (sources_public mode xs k, (h, j, k))
    mix_row_public o g mode xs h j k Tap vs a e = tt
    mix_row_public o g mode xs h j k Untap vs a e = tt
    mix_row_public o g mode xs h j k UntapAll vs a e = tt
    mix_row_public o g mode xs h j k Taps vs a e = tt
    mix_row_public o g mode xs h j k Find vs a e = tt
    mix_row_public o g mode xs h j k Place vs a e = tt
    mix_row_public o g mode xs h j k Drop vs a e = tt
    mix_row_public o g mode xs h j k Clear vs a e = tt
    mix_row_public o g mode xs h j k Topics vs a e = tt

    publication_row_public : (c : ℕ) (ts : List TopicView) → IsPublicPort roles c → Each (IsTypedTopic roles) ts → (name : RegisterName) → Row (publication_row c ts) name
    publication_row_public c ts h k Find vs a e = (found_public (first_of (rest_of vs)) ts k, (h, k))
    publication_row_public c ts h k Place vs a e =
        let x = met s the_publication (anything ∷ the_mult ∷ a_channel ∷ []) vs e in
        let y = met s anything (the_mult ∷ a_channel ∷ []) (rest_of vs) x.1 in
        let z = met s the_mult (a_channel ∷ []) (rest_of (rest_of vs)) y.1 in
        let w = met s a_channel [] (rest_of (rest_of (rest_of vs))) z.1 in
        let args = rest_public roles vs a in
        let m = port_public roles (second_of (rest_of vs)) (needs_port s the_mult (second_of (rest_of vs)) refl z.0) (second_public roles (rest_of vs) args) in
        let q = channel_public (third_of (rest_of vs)) (third_public roles (rest_of vs) args) w.0 in
        let us = with_topic_placed (record { topic = first_of (rest_of vs); mult = port_of_value (second_of (rest_of vs)); channel = port_of_value (third_of (rest_of vs)) }) ts in
        let t = placed_typed (record { topic = first_of (rest_of vs); mult = port_of_value (second_of (rest_of vs)); channel = port_of_value (third_of (rest_of vs)) }) ts (first_public roles (rest_of vs) args, m, q) k in
        within_public 1024 (length us) (pair_found (first_of (rest_of vs)) us) (a_publication c us) (found_public (first_of (rest_of vs)) us t) (h, t)
    publication_row_public c ts h k Drop vs a e = (tt, (h, each-filter (IsTypedTopic roles) (λ t. not (equals (first_of (rest_of vs)) t.topic)) ts k))
    publication_row_public c ts h k Clear vs a e = (tt, (h, tt))
    publication_row_public c ts h k Topics vs a e = (topics_public ts k, (h, k))
    publication_row_public c ts h k Tap vs a e = tt
    publication_row_public c ts h k Untap vs a e = tt
    publication_row_public c ts h k UntapAll vs a e = tt
    publication_row_public c ts h k Taps vs a e = tt
    publication_row_public c ts h k Admix vs a e = tt
    publication_row_public c ts h k Unmix vs a e = tt
    publication_row_public c ts h k UnmixAll vs a e = tt
    publication_row_public c ts h k Toggle vs a e = tt
    publication_row_public c ts h k SoloMode vs a e = tt
    publication_row_public c ts h k Modes vs a e = tt

    -- the arguments with the registry's port first
    pub register_public : (r : Registry) (name : RegisterName) (args : Trees) → TypedRegistry roles r → ArePublic roles args → unmet s (needs_to_register name) args ≡ None → GoesOnPublic (register (is_channel s) r name (rest_of args))
    register_public (a_mult c ts) name args h a e = mult_row_public c ts h.0 h.1 name args a e
    register_public (a_mix o g mode xs) name args h a e = mix_row_public o g mode xs h.0 h.1 h.2 name args a e
    register_public (a_publication c ts) name args h a e = publication_row_public c ts h.0 h.1 name args a e
