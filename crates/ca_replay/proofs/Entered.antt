-- An operation on a registry in the code is one in the state.
use Rattle.std.proofs.Common.{◌≡◌, ℕ, refl, sym, ap, ap₂, ◌∙◌, subst, Option, Some, None, option_map, Bool, true, false, eqb}
use Rattle.std.specs.Map.{update}
use Rattle.ca_value.specs.IsValue.{any}
use Rattle.ca_value.specs.Tree.{Tree, Trees}
use Rattle.ca_term.specs.declared.head.RegisterName.{RegisterName}
use Rattle.ca_term.specs.declared.fault.Fault.TheVariants.{NotAPort}
use Rattle.ca_term.specs.Event.{registered as registered_by}
use Rattle.ca_term.specs.Operation.{registering}
use Rattle.ca_term.specs.Program.{ProgramView}
use Rattle.ca_meaning.specs.Operands.{first_of, port_of_value, rest_of}
use Rattle.ca_meaning.specs.Refusal.{registered_at}
use Rattle.ca_meaning.specs.Registry.{Registry, Registered, answers, refuses}
use Rattle.ca_meaning.specs.RunValues.{BringsApart, Holds}
use Rattle.ca_meaning.specs.State.{State}
use Rattle.ca_meaning.specs.Steps.{Step}
use Rattle.ca_registry.specs.Mixes.{TogglesApart}
use Rattle.ca_registry.specs.Needs.{keys_pass}
use Rattle.ca_registry.specs.Registries.{left_by}
use Rattle.ca_registry.specs.Registry.{registry_after, registry_view}
use Rattle.ca_registry.proofs.KeyLaws.{refused_keys, same_table}
use Rattle.ca_scene.specs.declared.scene.Scene.{Scene}
use Rattle.ca_scene.specs.Admits.{admits}
use Rattle.ca_scene.specs.Scene.{scene_registry, scene_state, task_at, tasks_of}
use Rattle.ca_scene.proofs.Asked.{asks_of}
use Rattle.ca_scene.proofs.Brought.{toggles_apart, wanted_apart}
use Rattle.ca_scene.proofs.Soundly.{admitted}
use Rattle.ca_replay.specs.Changes.{mapped_at}
use Rattle.ca_replay.specs.Goings.{TaskGoesOn, SameButTasks, StandsThere}
use Rattle.ca_replay.proofs.Stepped.{stands_at, went_state}

-- an operation that is answered has channels as the keys of a toggle
answered_keys : (s : State) (o : Option Registry) (name : RegisterName) (args : Trees) (v : Tree) (r : Registry) → registered_at s o name args ≡ answers v r → keys_pass s name args ≡ true
answered_keys s o name args v r e = by (keys_pass s name args) refl where
  by : (b : Bool) → keys_pass s name args ≡ b → b ≡ true
  by true is = refl
  by false is = absurd (let k : refuses NotAPort ≡ answers v r = sym (refused_keys s o name args is) ∙ e in cc)

-- and leaves the registry as the table says
answered_leaves : (s : State) (o : Option Registry) (name : RegisterName) (args : Trees) (v : Tree) (r : Registry) → registered_at s o name args ≡ answers v r → option_map (registry_after name args) o ≡ Some r
answered_leaves s None name args v r e = absurd (let k : refuses NotAPort ≡ answers v r = e in cc)
answered_leaves s (Some q) name args v r e = ap (λ (x : Registered). Some (left_by x q)) (sym (same_table s (Some q) name args (answered_keys s (Some q) name args v r e)) ∙ e)

module _ (s : Scene) (t : ℕ) (name : RegisterName) (args : Trees) (v : Tree) (e : admits (scene_state s) (registered_by t name args v) ≡ true) where
  pub register_stands : StandsThere (task_at s t)
  register_stands = let a = admitted (scene_state s) (registered_by t name args v) e in stands_at s t (registering name args) a.0 a.2

  pub register_apart : Holds any (scene_state s) → (rest : Trees) → rest ≡ rest_of args → TogglesApart name rest
  register_apart holds rest is =
      let a = admitted (scene_state s) (registered_by t name args v) e in
      let brings : BringsApart args = wanted_apart (scene_state s) t holds (registering name args) (asks_of (scene_state s) t (registering name args) a.0 a.2) in
      let keys = answered_keys (scene_state s) ((scene_state s).registries (port_of_value (first_of args))) name (rest_of args) v a.1 a.3 in
      toggles_apart (scene_state s) name args rest is brings (subst (λ (z : Trees). keys_pass (scene_state s) name z ≡ true) (sym is) keys)

  module _ (program : ProgramView) (n f : Scene) (went : SameButTasks s n) (same : f ≡ record n { registries = f.registries }) where
    entered : (p : ℕ) (rest : Trees) → p ≡ port_of_value (first_of args) → rest ≡ rest_of args → ((q : ℕ) → option_map registry_view (scene_registry f q) ≡ mapped_at (λ k. option_map registry_view (scene_registry n k)) p (registry_after name rest) q)
        → (scene_state f).registries ≡ update eqb (scene_state s).registries (port_of_value (first_of args)) (option_map (registry_after name (rest_of args)) ((scene_state s).registries (port_of_value (first_of args))))
    entered p rest pe re is = λ i q. (is q ∙ ap₂ (λ k (z : Trees). mapped_at (scene_state n).registries k (registry_after name z) q) pe re ∙ ap (λ (z : State). mapped_at z.registries (port_of_value (first_of args)) (registry_after name (rest_of args)) q) (went_state s n went)) i

    pub register_step : (p : ℕ) (rest : Trees) → p ≡ port_of_value (first_of args) → rest ≡ rest_of args → ((q : ℕ) → option_map registry_view (scene_registry f q) ≡ mapped_at (λ k. option_map registry_view (scene_registry n k)) p (registry_after name rest) q)
        → TaskGoesOn program (tasks_of s) t v (tasks_of n) → Step program (scene_state s) (registered_by t name args v) (scene_state f)
    register_step p rest pe re is goes =
        let a = admitted (scene_state s) (registered_by t name args v) e in
        let o = (scene_state s).registries (port_of_value (first_of args)) in
        let left = answered_leaves (scene_state s) o name (rest_of args) v a.1 a.3 in
        let table : (scene_state f).registries ≡ update eqb (scene_state s).registries (port_of_value (first_of args)) (Some a.1) = entered p rest pe re is ∙ ap (λ (z : Option Registry). update eqb (scene_state s).registries (port_of_value (first_of args)) z) left in (
          a.0,
          a.1,
          tasks_of n,
          a.2,
          a.3,
          goes a.0 a.2.0,
          ap scene_state same ∙ ap (λ (z : State). record z { registries = (scene_state f).registries }) (went_state s n went) ∙ ap (λ (z : ℕ → Option Registry). record (scene_state s) { tasks = tasks_of n; registries = z }) table,
        )
