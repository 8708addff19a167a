-- A run of the main text alone goes on by one event.
use Rattle.std.proofs.Common.{◌≡◌, ℕ, List, [], ◌∷◌, ◌++◌, Some, None, refl, ap, subst, false}
use Rattle.std.specs.Map.{update}
use Rattle.std.proofs.Math.Dec.{eqb}
use Rattle.std.proofs.lemmas.Map.{update_here}
use Rattle.ca_value.specs.Tree.{Tree, nil}
use Rattle.ca_term.specs.declared.place.Place.{Place}
use Rattle.ca_term.specs.declared.fault.Fault.{Fault}
use Rattle.ca_term.specs.declared.event.Ending.TheVariants.{Ended, Faulted}
use Rattle.ca_term.specs.Program.{ProgramView}
use Rattle.ca_term.specs.Operation.{printing}
use Rattle.ca_term.specs.Event.{EventView, printed, over as is_over}
use Rattle.ca_meaning.specs.Body.{BodyView, at, at_op, ended, faulted, fill, new_body}
use Rattle.ca_meaning.specs.Refusal.{fault_at}
use Rattle.ca_meaning.specs.Rest.{Rest}
use Rattle.ca_meaning.specs.Task.{script}
use Rattle.ca_meaning.specs.State.{State, Task, over, runs, opening_state, shut_result}
use Rattle.ca_meaning.specs.Steps.{Step, Steps}
use Rattle.ca_meaning.specs.Legal.{Reaches, Legal, EndsLast, is_end_of_main}
use Rattle.ca_meaning.specs.Ends.{IsEnded}

-- none of the events is the end of the main text
abbrev pub NoEnd : List EventView → Type 0
NoEnd [] = Unit {0}
NoEnd (e ∷ es) = (is_end_of_main e ≡ false) × NoEnd es

-- the events lead to a state in which task 0 runs with that body
pub record Runs (program : ProgramView) (journal : List EventView) (b : BodyView) : Type 0 where
  pub state : State
  pub reaches : Reaches program journal state
  pub main : state.tasks 0 ≡ Some (runs None (script b))
  pub no_end : NoEnd journal

steps_more : (program : ProgramView) (s t u : State) (es : List EventView) (e : EventView) → Steps program s es t → Step program t e u → Steps program s (es ++ e ∷ []) u
steps_more program s t u [] e h g = (u, subst (λ z. Step program z e u) h g, refl)
steps_more program s t u (f ∷ es) e h g = (h.0, h.1, steps_more program h.0 t u es e h.2 g)

reaches_more : (program : ProgramView) (t u : State) (es : List EventView) (e : EventView) → Reaches program es t → Step program t e u → Reaches program (es ++ e ∷ []) u
reaches_more program t u es e r g = record { opening = r.opening; opens = r.opens; steps = steps_more program r.opening t u es e r.steps g }

no_end_more : (es : List EventView) (e : EventView) → NoEnd es → is_end_of_main e ≡ false → NoEnd (es ++ e ∷ [])
no_end_more [] e h g = (g, tt)
no_end_more (f ∷ es) e h g = (h.0, no_end_more es e h.1 g)

goes_on : (es : List EventView) (e : EventView) → NoEnd es → EndsLast (es ++ e ∷ [])
goes_on [] e h = tt
goes_on (f ∷ []) e h = (h.0, tt)
goes_on (f ∷ (g ∷ es)) e h = (h.0, goes_on (g ∷ es) e h.1)

pub runs_opening : (program : ProgramView) (b : BodyView) → Rest program (new_body program.main) b → Runs program [] b
runs_opening program b r =
    let s = opening_state (script b) in
    record {
      state = s;
      reaches = record { opening = s; opens = (script b, (b, r, refl), refl); steps = refl };
      main = update_here (λ n. None) 0 (Some (runs None (script b)));
      no_end = tt;
    }

pub runs_print : (program : ProgramView) (es : List EventView) (b c : BodyView) (line : List ℕ) (p : Place) → Runs program es b → at b ≡ at_op (record { op = printing line; place = p }) → Rest program (fill nil b) c → Runs program (es ++ printed 0 line ∷ []) c
runs_print program es b c line p r here rest =
    let tasks = update eqb r.state.tasks 0 (Some (runs None (script c))) in
    let s : State = record (r.state) { tasks = tasks } in
    let step : Step program r.state (printed 0 line) s = (runs None (script b), tasks, (r.main, refl, (p, here), refl), (script c, (c, rest, refl), refl), refl) in
    record {
      state = s;
      reaches = reaches_more program r.state s es (printed 0 line) r.reaches step;
      main = update_here r.state.tasks 0 (Some (runs None (script c)));
      no_end = no_end_more es (printed 0 line) r.no_end refl;
    }

pub runs_end : (program : ProgramView) (es : List EventView) (b : BodyView) (v : Tree) → Runs program es b → at b ≡ ended v → Legal program (es ++ is_over 0 Ended ∷ []) × IsEnded (es ++ is_over 0 Ended ∷ [])
runs_end program es b v r here =
    let x : Task = runs None (script b) in
    let s : State = record (r.state) { tasks = update eqb r.state.tasks 0 (Some (record x { mode = over })) } in
    let step : Step program r.state (is_over 0 Ended) s = (x, v, (r.main, refl), here, refl) in
    (record { state = s; reaches = reaches_more program r.state s es (is_over 0 Ended) r.reaches step; goes_on = goes_on es (is_over 0 Ended) r.no_end }, (es, refl))

pub runs_fault : (program : ProgramView) (es : List EventView) (b : BodyView) (f : Fault) (p : Place) → Runs program es b → at b ≡ faulted f p → Legal program (es ++ is_over 0 (Faulted f p None) ∷ [])
runs_fault program es b f p r here =
    let x : Task = runs None (script b) in
    let s : State = record (r.state) { tasks = update eqb r.state.tasks 0 (Some (record x { mode = over })); channels = shut_result None r.state.channels } in
    let faults : fault_at r.state (at b) ≡ Some (f, p) = ap (fault_at r.state) here in
    let step : Step program r.state (is_over 0 (Faulted f p None)) s = (x, (r.main, refl), faults, refl, refl) in
    record { state = s; reaches = reaches_more program r.state s es (is_over 0 (Faulted f p None)) r.reaches step; goes_on = goes_on es (is_over 0 (Faulted f p None)) r.no_end }
