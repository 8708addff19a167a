-- Where a task that runs stands, as it is told.
use Rattle.std.proofs.Common.{◌≡◌, refl, sym, ap, ◌∙◌, Option, Some, None, option_map, Bool, true, false}
use Rattle.ca_meaning.specs.Body.{At, local, at_op, ended, faulted, nowhere}
use Rattle.ca_scene.specs.Standing.{Shown, shown_op, shown_end, shown_fault, elsewhere, shown_at}
use Rattle.ca_term.specs.declared.place.Place.{Place}
use Rattle.ca_term.specs.declared.fault.Fault.{Fault}
use Rattle.ca_meaning.specs.State.{State}
use Rattle.ca_meaning.specs.Refusal.{refusal}
use Rattle.ca_scene.specs.Admits.{is_ended, is_fault, faults_at}

abbrev pub is_shown_end : Option Shown → Bool
is_shown_end (Some shown_end) = true
is_shown_end (Some (shown_op w)) = false
is_shown_end (Some (shown_fault f p)) = false
is_shown_end (Some elsewhere) = false
is_shown_end None = false

pub ended_shown : (o : Option At) → is_ended o ≡ is_shown_end (option_map shown_at o)
ended_shown None = refl
ended_shown (Some local) = refl
ended_shown (Some (at_op w)) = refl
ended_shown (Some (ended v)) = refl
ended_shown (Some (faulted f p)) = refl
ended_shown (Some nowhere) = refl

pub ended_seen : (o : Option At) (s : Option Shown) → s ≡ option_map shown_at o → is_ended o ≡ is_shown_end s
ended_seen o s e = ended_shown o ∙ ap is_shown_end (sym e)

abbrev pub fault_shown : State → Shown → Option (Fault × Place)
fault_shown s (shown_fault f p) = Some (f, p)
fault_shown s (shown_op w) = option_map (λ f. (f, w.place)) (refusal s w.op)
fault_shown s shown_end = None
fault_shown s elsewhere = None

abbrev pub faults_shown : State → Fault → Place → Option Shown → Bool
faults_shown s f p None = false
faults_shown s f p (Some a) = is_fault f p (fault_shown s a)

faults_as : (s : State) (f : Fault) (p : Place) (o : Option At) → faults_at s f p o ≡ faults_shown s f p (option_map shown_at o)
faults_as s f p None = refl
faults_as s f p (Some local) = refl
faults_as s f p (Some (at_op w)) = refl
faults_as s f p (Some (ended v)) = refl
faults_as s f p (Some (faulted g q)) = refl
faults_as s f p (Some nowhere) = refl

pub faults_seen : (s : State) (f : Fault) (p : Place) (o : Option At) (z : Option Shown) → z ≡ option_map shown_at o → faults_at s f p o ≡ faults_shown s f p z
faults_seen s f p o z e = faults_as s f p o ∙ ap (faults_shown s f p) (sym e)
