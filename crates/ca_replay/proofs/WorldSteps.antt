-- What is so at the opening, and stays so along a step.
use Rattle.std.proofs.Common.{◌≡◌, [], refl, sym, ap, ◌∙◌, subst, Bool, true, false, Result, Ok, Err, IfOk, OnOk}
use Rattle.ca_value.specs.declared.memory.OutOfMemory.{OutOfMemory}
use Rattle.ca_value.specs.IsValue.{any}
use Rattle.ca_term.specs.Event.{EventView}
use Rattle.ca_term.specs.Program.{IsProgram, ProgramView}
use Rattle.ca_meaning.specs.RunValues.{Holds}
use Rattle.ca_meaning.specs.State.{State, Opening}
use Rattle.ca_meaning.specs.Steps.{Step}
use Rattle.ca_meaning.proofs.Soundness.{step_sound}
use Rattle.ca_meaning.proofs.ValueRuns.{run_holds, step_holds}
use Rattle.ca_meaning.proofs.ValuesWritten.{any_program, written_of}
use Rattle.ca_scene.specs.Admits.{admits}
use Rattle.ca_scene.specs.declared.scene.Scene.{Scene}
use Rattle.ca_scene.specs.Scene.{scene_state}
use Rattle.ca_scene.proofs.Complete.{complete}
use Rattle.ca_replay.specs.SceneOf.{IsSceneOf}
use Rattle.ca_replay.specs.World.{world_program, world_state, IsWorld}
use Rattle.ca_replay.specs.declared.world.World.{World}

-- an event that isn't admitted leads nowhere
pub leads_nowhere : (program : ProgramView) (s : State) (e : EventView) (b : Bool) → admits s e ≡ b → b ≡ false → (s2 : State) → Step program s e s2 → ⊥
leads_nowhere program s e b is isnt s2 step = let k : false ≡ true = sym isnt ∙ sym is ∙ complete program s s2 e step in cc

pub opening_values : (program : ProgramView) (s : State) → IsProgram program → Opening program s → Holds any s
opening_values program s checked o = (run_holds any program (written_of any program checked (any_program program)) [] s (record { opening = s; opens = o; steps = refl })).0

pub step_values : (program : ProgramView) (s s2 : State) (e : EventView) → IsProgram program → Step program s e s2 → Holds any s → Holds any s2
step_values program s s2 e checked step h = (step_holds any program (written_of any program checked (any_program program)) s s2 e step h).0

-- a world after an event
module _ (old : World) (s : Scene) (e : EventView) where
  pub world_after : IsWorld old → (r : Result Bool OutOfMemory) → IfOk r (λ b. b ≡ true → Step (world_program old) (world_state old) e (scene_state s)) → IfOk r (λ b. b ≡ false → s ≡ old.scene) → OnOk r (IsSceneOf (world_program old) s) → OnOk r (IsWorld (record old { scene = s }))
  world_after h (Ok true) leads stays scene = record {
    checked = h.checked;
    scene = scene;
    values = step_values (world_program old) (world_state old) (scene_state s) e h.checked (leads refl) h.values;
    sound = step_sound (world_program old) (world_state old) (scene_state s) e (leads refl) h.sound;
  }
  world_after h (Ok false) leads stays scene = subst (λ (z : Scene). IsWorld (record old { scene = z })) (sym (stays refl)) h
  world_after h (Err x) leads stays scene = tt

  pub unchanged_after : (r : Result Bool OutOfMemory) → IfOk r (λ b. b ≡ false → s ≡ old.scene) → IfOk r (λ b. b ≡ false → record old { scene = s } ≡ old)
  unchanged_after (Ok b) stays = λ isnt. ap (λ (z : Scene). record old { scene = z }) (stays isnt)
  unchanged_after (Err x) stays = tt
