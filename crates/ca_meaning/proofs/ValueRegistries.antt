-- What a registry answers is a value, and what it keeps are values.
use Rattle.std.proofs.Common.{◌≡◌, ℕ, suc, ◌*◌, ◌≤◌, List, [], ◌∷◌, length, refl, subst, arith, Bool, true, false, cond, Option, Some, None, eqb, not, nat_lt, filter}
use Rattle.std.proofs.lemmas.Bool.Decides.{nat_tests}
use Rattle.std.specs.Prelude.{map as each_of, codes}
use Rattle.ca_value.specs.Tree.{Tree, Trees, vector, port, item as value_item, trees_of}
use Rattle.ca_value.specs.Measure.{weight_of, weight_of_items, depth_of_items}
use Rattle.ca_value.specs.IsValue.{Scalars, IsValue, AreValues, IsRegular, AreRegular}
use Rattle.ca_value.specs.Equality.{equals}
use Rattle.ca_term.specs.declared.fault.Fault.TheVariants.{NotAPort, TooManyMembers}
use Rattle.ca_term.specs.declared.head.RegisterName.{RegisterName}
use Rattle.ca_term.specs.declared.head.RegisterName.TheVariants.{Tap, Untap, UntapAll, Taps, Admix, Unmix, UnmixAll, Toggle, SoloMode, Modes, Find, Place, Drop, Clear, Topics}
use Rattle.ca_term.specs.Operation.{WhatView, unbuffered, fixed, dropping, sliding, promise, timeout, mult, mix, publication}
use Rattle.ca_meaning.specs.Operands.{port_of_value, first_of, rest_of, second_of, third_of}
use Rattle.ca_meaning.specs.Sound.{Each}
use Rattle.ca_meaning.specs.State.{State}
use Rattle.ca_meaning.specs.Registry.{TapView, Source, TopicView, Registry, a_mult, a_mix, a_publication, registry_made, Registered, answers, refuses, within_limit, tap_value, mult_row, toggled, pairs_in, all_channels, source_value, mode_value, mix_row, topic_value, pair_found, with_topic_placed, publication_row, register}
use Rattle.ca_meaning.specs.Refusal.{registered_at, registering_gives}
use Rattle.ca_meaning.proofs.Waits.{each-filter}
use Rattle.ca_meaning.specs.RunValues.{RegistryHas}
use Rattle.ca_meaning.proofs.ValueTerms.{keyword_is, nil_is_value}
use Rattle.ca_meaning.proofs.ValuesAsked.{first_is, rest_is}
use Rattle.ca_meaning.proofs.ValueTables.{port_is_value}

module _ (scalars : Scalars) where
  abbrev pub RegisteredHas : Registered → Type 0
  RegisteredHas (answers v r) = IsValue scalars v × RegistryHas scalars r
  RegisteredHas (refuses f) = Unit {0}

  within_has : (limit members : ℕ) (v : Tree) (r : Registry) → (members ≤ limit → IsValue scalars v × RegistryHas scalars r) → RegisteredHas (within_limit limit members v r)
  within_has limit members v r h = by (nat_lt limit members) refl where
    by : (b : Bool) → nat_lt limit members ≡ b → RegisteredHas (cond b (refuses TooManyMembers) (answers v r))
    by true e = tt
    by false e = h (grind (arith, nat_tests))

  pub fewer : {A : Type 0} (t : A → Bool) (xs : List A) → length (filter t xs) ≤ length xs
  fewer t [] = omega arith
  fewer t (x ∷ xs) = by (t x) (fewer t xs) where
    by : (b : Bool) → length (filter t xs) ≤ length xs → length (cond b (x ∷ filter t xs) (filter t xs)) ≤ suc (length xs)
    by true k = omega (arith, k)
    by false k = omega (arith, k)

  -- vectors of what stands there
  taps_weigh : (ts : List TapView) → weight_of_items (trees_of (each_of tap_value ts)) ≡ 3 * length ts
  taps_weigh [] = refl
  taps_weigh (t ∷ ts) = let k = taps_weigh ts in omega (arith, k)

  taps_reach : (ts : List TapView) → depth_of_items (trees_of (each_of tap_value ts)) ≤ 2
  taps_reach [] = omega arith
  taps_reach (t ∷ ts) = let k = taps_reach ts in omega (arith, k)

  taps_distinct : (ts : List TapView) → AreRegular scalars (trees_of (each_of tap_value ts))
  taps_distinct [] = tt
  taps_distinct (t ∷ ts) = ((tt, (tt, tt)), taps_distinct ts)

  taps_value : (ts : List TapView) → length ts ≤ 1024 → IsValue scalars (vector (trees_of (each_of tap_value ts)))
  taps_value ts h = let a = taps_weigh ts in let b = taps_reach ts in record { regular = taps_distinct ts; light = omega (arith, a, h); shallow = omega (arith, b) }

  sources_weigh : (xs : List Source) → weight_of_items (trees_of (each_of source_value xs)) ≡ 5 * length xs
  sources_weigh [] = refl
  sources_weigh (x ∷ xs) = let k = sources_weigh xs in omega (arith, k)

  sources_reach : (xs : List Source) → depth_of_items (trees_of (each_of source_value xs)) ≤ 2
  sources_reach [] = omega arith
  sources_reach (x ∷ xs) = let k = sources_reach xs in omega (arith, k)

  sources_distinct : (xs : List Source) → AreRegular scalars (trees_of (each_of source_value xs))
  sources_distinct [] = tt
  sources_distinct (x ∷ xs) = ((tt, (tt, (tt, (tt, tt)))), sources_distinct xs)

  mode_weighs : (b : Bool) → weight_of (mode_value b) ≤ 6
  mode_weighs true = omega arith
  mode_weighs false = omega arith

  mode_is_keyword : (b : Bool) → IsRegular scalars (mode_value b)
  mode_is_keyword true = keyword_is scalars (codes "pause") refl
  mode_is_keyword false = keyword_is scalars (codes "mute") refl

  modes_value : (b : Bool) (xs : List Source) → length xs ≤ 255 → IsValue scalars (vector (value_item (mode_value b) (trees_of (each_of source_value xs))))
  modes_value b xs h = let a = sources_weigh xs in let c = sources_reach xs in let d = mode_weighs b in record { regular = (mode_is_keyword b, sources_distinct xs); light = omega (arith, a, d, h); shallow = omega (arith, c) }

  topics_weigh : (ts : List TopicView) → weight_of_items (trees_of (each_of (λ t. port t.channel) ts)) ≡ length ts
  topics_weigh [] = refl
  topics_weigh (t ∷ ts) = let k = topics_weigh ts in omega (arith, k)

  topics_reach : (ts : List TopicView) → depth_of_items (trees_of (each_of (λ t. port t.channel) ts)) ≤ 1
  topics_reach [] = omega arith
  topics_reach (t ∷ ts) = let k = topics_reach ts in omega (arith, k)

  topics_distinct : (ts : List TopicView) → AreRegular scalars (trees_of (each_of (λ t. port t.channel) ts))
  topics_distinct [] = tt
  topics_distinct (t ∷ ts) = (tt, topics_distinct ts)

  topics_value : (ts : List TopicView) → length ts ≤ 1024 → IsValue scalars (vector (trees_of (each_of (λ t. port t.channel) ts)))
  topics_value ts h = let a = topics_weigh ts in let b = topics_reach ts in record { regular = topics_distinct ts; light = omega (arith, a, h); shallow = omega (arith, b) }

  -- topics
  found_value : (topic : Tree) (ts : List TopicView) → IsValue scalars (pair_found topic ts)
  found_value topic [] = nil_is_value scalars
  found_value topic (t ∷ ts) = by (equals topic t.topic) (found_value topic ts) where
    by : (b : Bool) → IsValue scalars (pair_found topic ts) → IsValue scalars (cond b (topic_value t) (pair_found topic ts))
    by true k = record { regular = (tt, (tt, tt)); light = omega arith; shallow = omega arith }
    by false k = k

  abbrev HasTopic : TopicView → Type 0
  HasTopic t = IsValue scalars t.topic

  placed_have : (t : TopicView) (us : List TopicView) → HasTopic t → Each HasTopic us → Each HasTopic (with_topic_placed t us)
  placed_have t [] h all = (h, tt)
  placed_have t (u ∷ us) h all = by (equals t.topic u.topic) (placed_have t us h all.1) where
    by : (b : Bool) → Each HasTopic (with_topic_placed t us) → Each HasTopic (cond b (u ∷ us) (u ∷ with_topic_placed t us))
    by true k = all
    by false k = (all.0, k)

  -- the table
  mult_has : (s : ℕ) (ts : List TapView) (name : RegisterName) (args : Trees) → length ts ≤ 1024 → AreValues scalars args → RegisteredHas (mult_row s ts name args)
  mult_has s ts Tap args h i = within_has 1024 _ (first_of args) _ (λ k. (first_is scalars args i, k))
  mult_has s ts Untap args h i = (nil_is_value scalars, (let k = fewer (λ (t : TapView). not (eqb (port_of_value (first_of args)) t.channel)) ts in omega (arith, k, h)))
  mult_has s ts UntapAll args h i = (nil_is_value scalars, omega arith)
  mult_has s ts Taps args h i = (taps_value ts h, h)
  mult_has s ts name args h i = tt

  mix_has : (is_channel : Tree → Bool) (o g : ℕ) (mode : Bool) (xs : List Source) (name : RegisterName) (args : Trees) → length xs ≤ 255 → AreValues scalars args → RegisteredHas (mix_row is_channel o g mode xs name args)
  mix_has is_channel o g mode xs Admix args h i = within_has 255 _ (port g) _ (λ k. (port_is_value scalars g, k))
  mix_has is_channel o g mode xs Unmix args h i = (port_is_value scalars g, (let k = fewer (λ (x : Source). not (eqb (port_of_value (first_of args)) x.channel)) xs in omega (arith, k, h)))
  mix_has is_channel o g mode xs UnmixAll args h i = (port_is_value scalars g, omega arith)
  mix_has is_channel o g mode xs Toggle args h i = by (all_channels is_channel (pairs_in (first_of args))) where
    by : (b : Bool) → RegisteredHas (cond b (within_limit 255 (length (toggled (pairs_in (first_of args)) xs)) (port g) (a_mix o g mode (toggled (pairs_in (first_of args)) xs))) (refuses NotAPort))
    by true = within_has 255 _ (port g) _ (λ k. (port_is_value scalars g, k))
    by false = tt
  mix_has is_channel o g mode xs SoloMode args h i = (port_is_value scalars g, h)
  mix_has is_channel o g mode xs Modes args h i = (modes_value mode xs h, h)
  mix_has is_channel o g mode xs name args h i = tt

  publication_has : (s : ℕ) (ts : List TopicView) (name : RegisterName) (args : Trees) → length ts ≤ 1024 → Each HasTopic ts → AreValues scalars args → RegisteredHas (publication_row s ts name args)
  publication_has s ts Find args h t i = (found_value (first_of args) ts, (h, t))
  publication_has s ts Place args h t i = within_has 1024 _ _ _ (λ k. (found_value (first_of args) _, (k, placed_have (record { topic = first_of args; mult = port_of_value (second_of args); channel = port_of_value (third_of args) }) ts (first_is scalars args i) t)))
  publication_has s ts Drop args h t i = (nil_is_value scalars, ((let k = fewer (λ (t : TopicView). not (equals (first_of args) t.topic)) ts in omega (arith, k, h)), each-filter HasTopic (λ t. not (equals (first_of args) t.topic)) ts t))
  publication_has s ts Clear args h t i = (nil_is_value scalars, (omega arith, tt))
  publication_has s ts Topics args h t i = (topics_value ts h, (h, t))
  publication_has s ts name args h t i = tt

  register_has : (is_channel : Tree → Bool) (r : Registry) (name : RegisterName) (args : Trees) → RegistryHas scalars r → AreValues scalars args → RegisteredHas (register is_channel r name args)
  register_has is_channel (a_mult s ts) name args h i = mult_has s ts name args h i
  register_has is_channel (a_mix o g mode xs) name args h i = mix_has is_channel o g mode xs name args h i
  register_has is_channel (a_publication s ts) name args h i = publication_has s ts name args h.0 h.1 i

  pub registering_has : (s : State) (name : RegisterName) (args : Trees) → ((p : ℕ) (r : Registry) → s.registries p ≡ Some r → RegistryHas scalars r) → AreValues scalars args → RegisteredHas (registering_gives s name args)
  registering_has s name args all i = by (s.registries (port_of_value (first_of args))) refl where
    by : (o : Option Registry) → s.registries (port_of_value (first_of args)) ≡ o → RegisteredHas (registered_at s o name (rest_of args))
    by None e = tt
    by (Some r) e = register_has _ r name (rest_of args) (all (port_of_value (first_of args)) r e) (rest_is scalars args i)

  pub registry_made_has : (what : WhatView) (r : Registry) → registry_made what ≡ Some r → RegistryHas scalars r
  registry_made_has (mult source) r e = subst (RegistryHas scalars) (let k : a_mult (port_of_value source) [] ≡ r = cc in k) (omega arith)
  registry_made_has (mix out changes) r e = subst (RegistryHas scalars) (let k : a_mix (port_of_value out) (port_of_value changes) false [] ≡ r = cc in k) (omega arith)
  registry_made_has (publication source) r e = subst (RegistryHas scalars) (let k : a_publication (port_of_value source) [] ≡ r = cc in k) (omega arith, tt)
  registry_made_has unbuffered r e = cc
  registry_made_has (fixed n) r e = cc
  registry_made_has (dropping n) r e = cc
  registry_made_has (sliding n) r e = cc
  registry_made_has promise r e = cc
  registry_made_has (timeout n) r e = cc
