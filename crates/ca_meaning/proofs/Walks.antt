-- Bodies that are given term by term: how they come to rest, and how their tasks go on.
use Rattle.std.proofs.Common.{◌≡◌, ◌≢◌, ℕ, zero, suc, List, [], ◌∷◌, ◌++◌, slice_get, refl, sym, ap, ◌∙◌, subst, Bool, true, false, Option, Some, None, option_map, eqb, eq-eqb, pos}
use Rattle.std.specs.Map.{update}
use Rattle.ca_value.specs.Tree.{Tree, nil, int}
use Rattle.ca_term.specs.declared.place.Place.{Place}
use Rattle.ca_term.specs.declared.fault.Fault.{Fault}
use Rattle.ca_value.specs.declared.value.PortId.{PortId}
use Rattle.ca_term.specs.declared.event.Ending.TheVariants.{Ended, Faulted}
use Rattle.ca_term.specs.declared.event.Side.{Side}
use Rattle.ca_term.specs.declared.event.Side.TheVariants.{Take, Put}
use Rattle.ca_term.specs.Kernel.{const}
use Rattle.ca_term.specs.Operation.{OpView}
use Rattle.ca_term.specs.Program.{ProgramView}
use Rattle.ca_term.specs.Event.{BranchView, EventView, done, met, parked, settled, over as is_over, port_number}
use Rattle.ca_meaning.specs.Channel.{Channel}
use Rattle.ca_meaning.specs.Wait.{Handler, front}
use Rattle.ca_meaning.specs.Row.{Row, completes, meets, Settling, unsettled, settles, settle_row}
use Rattle.ca_meaning.specs.Choice.{branches_of, row, any_ready}
use Rattle.ca_meaning.specs.Body.{BodyView, At, local, at_op, ended, faulted, nowhere, at, step, fill, new_body}
use Rattle.ca_meaning.specs.Rest.{here, after, Rest}
use Rattle.ca_meaning.specs.Task.{TaskBody, script, system_task, body_at, body_fill, BodyRest}
use Rattle.ca_meaning.specs.State.{State, Task, Tasks, runs, due}
use Rattle.ca_meaning.specs.Refusal.{fault_at}
use Rattle.ca_meaning.specs.Going.{Runs, RunsAtOperation, Goes}
use Rattle.ca_meaning.specs.TaskSteps.{TickStep}
use Rattle.ca_meaning.specs.Steps.{Step}
use Rattle.ca_meaning.specs.Legal.{Reaches, Legal}
use Rattle.ca_meaning.proofs.ChannelLaws.{steps_split}
use Rattle.ca_meaning.proofs.Single.{same_task, same_op, reached_once}

abbrev pub is_local : At → Bool
is_local local = true
is_local (at_op w) = false
is_local (ended v) = false
is_local (faulted f p) = false
is_local nowhere = false

local-true : (a : At) → is_local a ≡ true → a ≡ local
local-true local e = refl
local-true (at_op w) e = cc
local-true (ended v) e = cc
local-true (faulted f p) e = cc
local-true nowhere e = cc

local-false : (a : At) → is_local a ≡ false → a ≢ local
local-false a e f = let k : true ≡ false = sym (ap is_local f) ∙ e in cc

-- the body after n local steps
abbrev pub later : ProgramView → ℕ → BodyView → BodyView
later program zero b = b
later program (suc n) b = later program n (step program b)

-- the body rests after n local steps
abbrev pub Walks : ProgramView → ℕ → BodyView → Type 0
Walks program zero b = is_local (at b) ≡ false
Walks program (suc n) b = (is_local (at b) ≡ true) × Walks program n (step program b)

pub walk : (program : ProgramView) (n : ℕ) (b : BodyView) → Walks program n b → Rest program b (later program n b)
walk program zero b w = record { reached = here; over = local-false (at b) w }
walk program (suc n) b w = let r = walk program n (step program b) w.1 in record { reached = after (local-true (at b) w.0) r.reached; over = r.over }

-- a task of a script goes on with the answer, and rests after n local steps
pub goes : (program : ProgramView) (tasks : Tasks) (t : ℕ) (x : Task) (b : BodyView) (v : Tree) (n : ℕ) → x.body ≡ script b → Walks program n (fill v b) → Goes program tasks t x v (update eqb tasks t (Some (runs x.result (script (later program n (fill v b))))))
goes program tasks t x b v n e w = (script (later program n (fill v b)), subst (λ z. BodyRest program (body_fill v z) (script (later program n (fill v b)))) (sym e) (later program n (fill v b), walk program n (fill v b) w, refl), refl)

-- where a form of line 1 stands
abbrev pub at_column : ℕ → Place
at_column n = record { line = 1; column = n }

-- the task of the main text, and one with a result port
abbrev pub main_task : BodyView → Task
main_task b = runs None (script b)

abbrev pub go_task : ℕ → BodyView → Task
go_task p b = runs (Some p) (script b)

-- the text of a go block's task
abbrev pub body_of : TaskBody → BodyView
body_of (script b) = b
body_of (system_task b) = new_body (const nil)

meets_same : (h i : Handler) (v u : Tree) → meets h v ≡ meets i u → (h ≡ i) × (v ≡ u)
meets_same h i v u e = (cc, cc)

completes_same : (a u : Tree) (c d : Channel) → completes a c ≡ completes u d → a ≡ u
completes_same a u c d e = cc

never_both : (r : Row) (h : Handler) (u a : Tree) (d : Channel) → r ≡ meets h u → r ≡ completes a d → ⊥
never_both r h u a d e f = let k : meets h u ≡ completes a d = sym e ∙ f in cc

pub other_number : (m n : ℕ) → eqb m n ≡ false → int (pos m) ≡ int (pos n) → ⊥
other_number m n ne e = let k : m ≡ n = cc in let j : true ≡ false = sym (eq-eqb m n k) ∙ ne in cc

-- Which events are possible where task t stands at an operation, whose branch j is b.
module _ (program : ProgramView) (s z : State) (t : ℕ) (op : OpView) (x : Task) (stands : RunsAtOperation s t op x) where
  same_operation : (y : Task) (o : OpView) → RunsAtOperation s t o y → op ≡ o
  same_operation y o st = same_op x.body y.body op o (ap (λ (q : Task). q.body) (same_task s.tasks t x y stands.0 st.0)) stands.2 st.2

  same_branch : (y : Task) (o : OpView) (j : ℕ) (b c : BranchView) → RunsAtOperation s t o y → slice_get (branches_of op) j ≡ Some b → slice_get (branches_of o) j ≡ Some c → b ≡ c
  same_branch y o j b c st mine there = let k : Some b ≡ Some c = sym mine ∙ ap (λ q. slice_get (branches_of q) j) (same_operation y o st) ∙ there in cc

  -- where the branch meets a wait, a Meet is with that wait and that value
  pub meets_only : (j : ℕ) (b : BranchView) (h : Handler) (u : Tree) (side : Side) (p : ℕ) (v : Tree) (w o : ℕ) → slice_get (branches_of op) j ≡ Some b → row s b ≡ meets h u → Step program s (met t j side p v w o) z → (v ≡ u) × (w ≡ h.wait) × (o ≡ h.branch)
  meets_only j b h u side p v w o mine is k =
      let m = meets_same k.3 h v u (sym k.10 ∙ ap (row s) (sym (same_branch k.0 k.1 j b k.2 k.6 mine k.7.0)) ∙ is) in
      (m.1, sym k.11 ∙ ap (λ (i : Handler). i.wait) m.0, sym k.12 ∙ ap (λ (i : Handler). i.branch) m.0)

  -- it isn't done alone
  pub meets_not_done : (j : ℕ) (b c : BranchView) (h : Handler) (u a : Tree) → slice_get (branches_of op) j ≡ Some b → row s b ≡ meets h u → Step program s (done t j c a) z → ⊥
  meets_not_done j b c h u a mine is k = never_both (row s c) h u a k.3 (ap (row s) (sym (same_branch k.0 k.1 j b c k.4 mine k.5.0)) ∙ is) k.6

  -- where the branch is done alone, it has that answer
  pub done_only : (j : ℕ) (b c : BranchView) (u a : Tree) (d : Channel) → slice_get (branches_of op) j ≡ Some b → row s b ≡ completes u d → Step program s (done t j c a) z → (c ≡ b) × (a ≡ u)
  done_only j b c u a d mine is k = let e = same_branch k.0 k.1 j b c k.4 mine k.5.0 in (sym e, completes_same a u k.3 d (sym k.6 ∙ ap (row s) (sym e) ∙ is))

  -- a task parks only where nothing is ready
  pub parks_unready : (w : ℕ) (bs : List BranchView) → any_ready s (branches_of op) ≡ true → Step program s (parked t w bs) z → ⊥
  parks_unready w bs is k = let e : true ≡ false = sym is ∙ ap (λ o. any_ready s (branches_of o)) (same_operation k.0 k.1 k.2) ∙ ap (any_ready s) k.4 ∙ k.6 in absurd cc

settles_same : (side other : Side) (h i : Handler) (v u : Tree) (c d : Channel) → settles side h v c ≡ settles other i u d → (h ≡ i) × (v ≡ u)
settles_same side other h i v u c d e = (cc, cc)

-- Which Settles are possible on a channel.
module _ (program : ProgramView) (s z : State) (w k : ℕ) (side : Side) (p : ℕ) (v : Tree) (c : Channel) (there : s.channels p ≡ Some c) where
  abbrev settling : Settling
  settling = settle_row c (front Take p s.waits) (front Put p s.waits)

  row_of : (d : Channel) → s.channels p ≡ Some d → settle_row d (front Take p s.waits) (front Put p s.waits) ≡ settling
  row_of d e = let j : Some d ≡ Some c = sym e ∙ there in ap (λ q. settle_row q (front Take p s.waits) (front Put p s.waits)) (let i : d ≡ c = cc in i)

  -- where the channel serves a handler, a Settle is of that wait, with that value
  pub settles_only : (other : Side) (u : Tree) (h : Handler) (d : Channel) → settling ≡ settles other h u d → Step program s (settled w k side p v) z → (v ≡ u) × (w ≡ h.wait) × (k ≡ h.branch)
  settles_only other u h d is x =
      let m = settles_same side other x.2 h v u x.1 d (sym x.5 ∙ row_of x.0 x.4 ∙ is) in
      (m.1, sym x.6 ∙ ap (λ (i : Handler). i.wait) m.0, sym x.7 ∙ ap (λ (i : Handler). i.branch) m.0)

  pub settles_not : settling ≡ unsettled → Step program s (settled w k side p v) z → ⊥
  settles_not is x = let e : unsettled ≡ settles side x.2 v x.1 = sym is ∙ sym (row_of x.0 x.4) ∙ x.5 in absurd cc

-- Which ends are possible of task t, which runs.
module _ (program : ProgramView) (s z : State) (t : ℕ) (x : Task) (runs_there : Runs s.tasks t x) where
  -- a fault is the one at which its body stands, and names its result port
  pub faults_only : (f : Fault) (p : Place) (r : Option PortId) → Step program s (is_over t (Faulted f p r)) z → (fault_at s (body_at x.body) ≡ Some (f, p)) × (option_map port_number r ≡ x.result)
  faults_only f p r k =
      let same = same_task s.tasks t k.0 x k.1.0 runs_there.0 in
      (ap (λ (y : Task). fault_at s (body_at y.body)) (sym same) ∙ k.2, sym k.3 ∙ ap (λ (y : Task). y.result) same)

  -- where its body stands at a fault, it doesn't end by its value
  pub faults_not_ends : (f : Fault) (p : Place) → body_at x.body ≡ faulted f p → Step program s (is_over t Ended) z → ⊥
  faults_not_ends f p is k =
      let same = same_task s.tasks t k.0 x k.2.0 runs_there.0 in
      let e : faulted f p ≡ ended k.1 = sym is ∙ ap (λ (y : Task). body_at y.body) (sym same) ∙ k.3 in absurd cc

pub not_number : (n : ℕ) → int (pos n) ≡ nil → ⊥
not_number n e = cc

-- a Tick needs that a channel is due
pub ticks_when_due : (s z : State) (m : ℕ) (ports : List ℕ) → due m s.deadlines ≡ [] → TickStep s m ports z → ⊥
ticks_when_due s z m ports none x = x.3 (sym x.2 ∙ none)

-- where an event isn't possible, no run has it
pub impossible : (program : ProgramView) (before rest : List EventView) (e : EventView) (s : State) → Reaches program before s → ((s2 : State) → Step program s e s2 → ⊥) → Legal program (before ++ e ∷ rest) → ⊥
impossible program before rest e s r never legal =
    let k = steps_split program before (e ∷ rest) legal.reaches.opening legal.state legal.reaches.steps in
    let same : k.0 ≡ s = reached_once program before k.0 s (record { opening = legal.reaches.opening; opens = legal.reaches.opens; steps = k.1 }) r in
    never k.2.0 (subst (λ z. Step program z e k.2.0) same k.2.1)
