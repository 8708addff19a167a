-- Each task is spawned once.
use Rattle.std.proofs.Common.{◌≡◌, ℕ, List, [], ◌∷◌, ◌++◌, sym, ap, ◌∙◌, Some, None}
use Rattle.std.proofs.lemmas.Map.{update_here}
use Rattle.ca_term.specs.Program.{ProgramView}
use Rattle.ca_term.specs.Event.{EventView, spawned}
use Rattle.ca_meaning.specs.State.{State, Task, Tasks, runs}
use Rattle.ca_meaning.specs.Steps.{Steps}
use Rattle.ca_meaning.specs.Legal.{Reaches}
use Rattle.ca_meaning.specs.Sound.{Sound}
use Rattle.ca_meaning.proofs.ChannelLaws.{steps_split, known_before}
use Rattle.ca_meaning.proofs.Soundness.{step_sound}
use Rattle.ca_meaning.proofs.Tasks.{tasks_of}
use Rattle.ca_meaning.proofs.WaitLaws.{step_told}
use Rattle.ca_laws.specs.SpawnLaw.{SpawnedOnce}

-- a task that is there stays
stays : (program : ProgramView) (es : List EventView) (s s2 : State) (u : ℕ) (x : Task) → Sound s → s.tasks u ≡ Some x → Steps program s es s2 → (y : Task) × (s2.tasks u ≡ Some y)
stays program [] s s2 u x sound at k = (x, ap (λ (z : State). z.tasks u) k ∙ at)
stays program (e ∷ es) s s2 u x sound at k =
    let y = step_told program s k.0 sound u x at e k.1 in
    stays program es k.0 s2 u y.0 (step_sound program s k.0 e k.1 sound) y.1 k.2

pub spawned_once : (program : ProgramView) (journal : List EventView) (s : State) → Reaches program journal s → SpawnedOnce journal
spawned_once program journal s reaches first middle last t w u kind other r q is =
    let m = known_before program first (spawned t u kind r ∷ (middle ++ spawned w u other q ∷ last)) journal s reaches is in
    let k = m.2 in
    let there : k.0.tasks u ≡ Some (runs r k.1.3) = ap (λ (z : Tasks). z u) (tasks_of k.1.10) ∙ update_here k.1.2 u (Some (runs r k.1.3)) in
    let n = steps_split program middle (spawned w u other q ∷ last) k.0 s k.2 in
    let y = stays program middle k.0 n.0 u (runs r k.1.3) (step_sound program m.0 k.0 (spawned t u kind r) k.1 m.1.sound) there n.1 in
    let none : n.0.tasks u ≡ None = n.2.1.5 in
    let e : None ≡ Some y.0 = sym none ∙ y.1 in
    cc
