-- The line of an event of a run leaves nothing out: a moment is that of a timeout, what is named is a port, and an
-- operation on a registry has an argument.
use Rattle.std.proofs.Common.{◌≡◌, ℕ, List, [], ◌∷◌, refl, Bool, true, false, cond, Option, Some, None}
use Rattle.ca_value.specs.Tree.{Tree, Trees, nil, bool, int, text, key, vector, map, port, none, item}
use Rattle.ca_term.specs.declared.fault.Fault.TheVariants.{NotAPort}
use Rattle.ca_term.specs.Operation.{WhatView, unbuffered, fixed, dropping, sliding, promise, timeout, mult, mix, publication, making, registering}
use Rattle.ca_term.specs.declared.head.RegisterName.{RegisterName}
use Rattle.ca_term.specs.Program.{ProgramView}
use Rattle.ca_term.specs.Event.{EventView, made, registered}
use Rattle.ca_meaning.specs.Sound.{Each}
use Rattle.ca_meaning.specs.State.{State}
use Rattle.ca_meaning.specs.Refusal.{a_channel, is_needed_port, not_needed, unmet, needs_to_make, operands_to_make, needs_to_register, fault_of_registered, registering_gives, unfit, too_many}
use Rattle.ca_meaning.specs.TaskSteps.{IsMoment, MakeStep}
use Rattle.ca_meaning.specs.Steps.{Step, Steps}
use Rattle.ca_meaning.specs.Legal.{Legal}
use Rattle.ca_meaning.proofs.Refusals.{or_none}
use Rattle.ca_meaning.specs.Shown.{IsSomePort, WhatTold, HasFirst, EventTold}

port_of : (s : State) (v : Tree) → is_needed_port s a_channel v ≡ true → IsSomePort v
port_of s (port n) e = tt
port_of s nil e = cc
port_of s (bool b) e = cc
port_of s (int z) e = cc
port_of s (text t) e = cc
port_of s (key t) e = cc
port_of s (vector ts) e = cc
port_of s (map ps) e = cc

needed : (s : State) (v : Tree) → not_needed s a_channel v ≡ None → IsSomePort v
needed s v e = by (is_needed_port s a_channel v) refl e where
  by : (b : Bool) → is_needed_port s a_channel v ≡ b → cond b None (Some NotAPort) ≡ None → IsSomePort v
  by true is e = port_of s v is
  by false is e = cc

made_shown : (s : State) (what : WhatView) (m : Option ℕ) → IsMoment s.now what m → unmet s (needs_to_make what) (operands_to_make what) ≡ None → WhatTold what m
made_shown s unbuffered m i e = i
made_shown s (fixed n) m i e = i
made_shown s (dropping n) m i e = i
made_shown s (sliding n) m i e = i
made_shown s promise m i e = i
made_shown s (timeout n) (Some k) i e = tt
made_shown s (timeout n) None i e = absurd i
made_shown s (mult source) m i e = (needed s source (or_none (not_needed s a_channel source) None e).0, i)
made_shown s (mix out changes) m i e = let k = or_none (not_needed s a_channel out) (unmet s (a_channel ∷ []) (item changes none)) e in (needed s out k.0, needed s changes (or_none (not_needed s a_channel changes) None k.1).0, i)
made_shown s (publication source) m i e = (needed s source (or_none (not_needed s a_channel source) None e).0, i)

step_made : (program : ProgramView) (s s2 : State) (t p : ℕ) (what : WhatView) (m : Option ℕ) → MakeStep program s t p what m s2 → WhatTold what m
step_made program s s2 t p what m x = made_shown s what m x.5 (or_none (unfit s (making what)) (too_many s (making what)) x.2.3).0

-- an operation on a registry has one
no_operand : (s : State) (name : RegisterName) → unmet s (needs_to_register name) none ≡ None → ⊥
no_operand s RegisterName.Tap e = let k : Some NotAPort ≡ None = e in absurd cc
no_operand s RegisterName.Untap e = let k : Some NotAPort ≡ None = e in absurd cc
no_operand s RegisterName.UntapAll e = let k : Some NotAPort ≡ None = e in absurd cc
no_operand s RegisterName.Taps e = let k : Some NotAPort ≡ None = e in absurd cc
no_operand s RegisterName.Admix e = let k : Some NotAPort ≡ None = e in absurd cc
no_operand s RegisterName.Unmix e = let k : Some NotAPort ≡ None = e in absurd cc
no_operand s RegisterName.UnmixAll e = let k : Some NotAPort ≡ None = e in absurd cc
no_operand s RegisterName.Toggle e = let k : Some NotAPort ≡ None = e in absurd cc
no_operand s RegisterName.SoloMode e = let k : Some NotAPort ≡ None = e in absurd cc
no_operand s RegisterName.Modes e = let k : Some NotAPort ≡ None = e in absurd cc
no_operand s RegisterName.Find e = let k : Some NotAPort ≡ None = e in absurd cc
no_operand s RegisterName.Place e = let k : Some NotAPort ≡ None = e in absurd cc
no_operand s RegisterName.Drop e = let k : Some NotAPort ≡ None = e in absurd cc
no_operand s RegisterName.Clear e = let k : Some NotAPort ≡ None = e in absurd cc
no_operand s RegisterName.Topics e = let k : Some NotAPort ≡ None = e in absurd cc

has_first : (s : State) (name : RegisterName) (args : Trees) → unmet s (needs_to_register name) args ≡ None → HasFirst args
has_first s name (item t ts) e = tt
has_first s name none e = absurd (no_operand s name e)

step_told : (program : ProgramView) (s : State) (e : EventView) (s2 : State) → Step program s e s2 → EventTold e
step_told program s (made t p what m) s2 x = step_made program s s2 t p what m x
step_told program s (registered t name args v) s2 x =
    has_first s name args (or_none (unmet s (needs_to_register name) args) (fault_of_registered (registering_gives s name args)) (or_none (unfit s (registering name args)) (too_many s (registering name args)) x.3.3).0).0
step_told program s e s2 x = tt

steps_told : (program : ProgramView) (s : State) (es : List EventView) (s2 : State) → Steps program s es s2 → Each EventTold es
steps_told program s [] s2 x = tt
steps_told program s (e ∷ es) s2 x = (step_told program s e x.0 x.1, steps_told program x.0 es s2 x.2)

pub run_told : (program : ProgramView) (journal : List EventView) → Legal program journal → Each EventTold journal
run_told program journal l = steps_told program l.reaches.opening journal l.state l.reaches.steps
