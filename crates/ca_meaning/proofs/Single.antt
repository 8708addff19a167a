-- Each event leads from a state to one state, and each journal to one.
use Rattle.std.proofs.Common.{◌≡◌, ℕ, List, [], ◌∷◌, true, refl, sym, ap, ap₂, ◌∙◌, subst, Option, Some, None, eqb}
use Rattle.std.specs.Map.{update}
use Rattle.ca_value.specs.Tree.{Tree, nil, bool, port}
use Rattle.ca_term.specs.declared.event.Side.{Side}
use Rattle.ca_term.specs.declared.event.Ending.TheVariants.{Ended, Faulted}
use Rattle.ca_term.specs.Operation.{OpView, WantView, SeedView, spawning}
use Rattle.ca_term.specs.Program.{ProgramView}
use Rattle.ca_term.specs.Event.{EventView, made, spawned, done, met, parked, posted, settled, defaulted, closed, registered, printed, ticked, over as is_over}
use Rattle.ca_meaning.specs.Body.{at_op, new_body}
use Rattle.ca_meaning.specs.Channel.{Channel}
use Rattle.ca_meaning.specs.Registry.{Registry, answers}
use Rattle.ca_meaning.specs.Wait.{Handler, owner_of, port_of}
use Rattle.ca_meaning.specs.Row.{Row, Settling, completes, settles, settle_row}
use Rattle.ca_meaning.specs.Task.{TaskBody, script, system_task, body_at, body_fill, BodyRest, new_task, body_reply}
use Rattle.ca_meaning.specs.State.{State, Task, Tasks, Opening, runs, opening_state}
use Rattle.ca_meaning.specs.Going.{IsAtOp, Goes, Wakes}
use Rattle.ca_meaning.specs.Steps.{Step, Steps}
use Rattle.ca_meaning.specs.Legal.{Reaches}
use Rattle.ca_meaning.proofs.Rests.{one_rest}
use Rattle.ca_meaning.proofs.Systems.{system_once}

pub body_once : (program : ProgramView) (b c d : TaskBody) → BodyRest program b c → BodyRest program b d → c ≡ d
body_once program (script b) c d r q = r.2 ∙ ap script (one_rest program b r.0 q.0 r.1 q.1) ∙ sym q.2
body_once program (system_task b) c d r q = r.2 ∙ ap system_task (system_once program b r.0 q.0 r.1 q.1) ∙ sym q.2

pub goes_once : (program : ProgramView) (tasks : Tasks) (t : ℕ) (x y : Task) (v w : Tree) (f g : Tasks) → x ≡ y → v ≡ w → Goes program tasks t x v f → Goes program tasks t y w g → f ≡ g
goes_once program tasks t x y v w f g e h p q =
    let r : Goes program tasks t y w f = subst (λ z. Goes program tasks t y z f) h (subst (λ z. Goes program tasks t z v f) e p) in
    r.2 ∙ ap (λ b. update eqb tasks t (Some (runs y.result b))) (body_once program (body_fill w y.body) r.0 q.0 r.1 q.1) ∙ sym q.2

pub same_task : (tasks : Tasks) (t : ℕ) (x y : Task) → tasks t ≡ Some x → tasks t ≡ Some y → x ≡ y
same_task tasks t x y e h = let k : Some x ≡ Some y = sym e ∙ h in cc

wakes_once : (program : ProgramView) (o : Option ℕ) (w p : ℕ) (v : Tree) (m n f g : Tasks) → m ≡ n → Wakes program o m w p v f → Wakes program o n w p v g → f ≡ g
wakes_once program None w p v m n f g e a b = a ∙ e ∙ sym b
wakes_once program (Some u) w p v m n f g e a b =
    let r : Wakes program (Some u) n w p v f = subst (λ z. Wakes program (Some u) z w p v f) e a in
    let same = same_task n u r.0 b.0 r.1 b.1 in
    goes_once program n u r.0 b.0 (body_reply r.0.body p v) (body_reply b.0.body p v) f g same (ap (λ (z : Task). body_reply z.body p v) same) r.3 b.3

same_completes : (r : Row) (a : Tree) (c d : Channel) → r ≡ completes a c → r ≡ completes a d → c ≡ d
same_completes r a c d e h = let k : completes a c ≡ completes a d = sym e ∙ h in cc

same_channel : (o : Option Channel) (c d : Channel) → o ≡ Some c → o ≡ Some d → c ≡ d
same_channel o c d e h = let k : Some c ≡ Some d = sym e ∙ h in cc

same_settled : {side : Side} {h i : Handler} {v : Tree} (r : Settling) (c d : Channel) → r ≡ settles side h v c → r ≡ settles side i v d → c ≡ d
same_settled {side} {h} {i} {v} r c d e q = let k : settles side h v c ≡ settles side i v d = sym e ∙ q in cc

same_answers : (v : Tree) (q r : Registry) → answers v q ≡ answers v r → q ≡ r
same_answers v q r e = cc

same_want : (w v : WantView) → at_op w ≡ at_op v → w ≡ v
same_want w v e = cc

-- the operation at which a body stands
pub same_op : (b c : TaskBody) (o p : OpView) → b ≡ c → IsAtOp b o → IsAtOp c p → o ≡ p
same_op b c o p e x y = ap (λ (w : WantView). w.op) (same_want (record { op = o; place = x.0 }) (record { op = p; place = y.0 }) (sym x.1 ∙ ap body_at e ∙ y.1))

pub same_seed : (a b : SeedView) → spawning a ≡ spawning b → a ≡ b
same_seed a b e = cc

pub step_once : (program : ProgramView) (s f g : State) (e : EventView) → Step program s e f → Step program s e g → f ≡ g
step_once program s f g (made t p what moment) x y =
    let same = same_task s.tasks t x.0 y.0 x.2.0 y.2.0 in
    let k = goes_once program s.tasks t x.0 y.0 (port p) (port p) x.1 y.1 same refl x.6 y.6 in
    x.7 ∙ ap (λ (z : Tasks). record s { tasks = z; channels = _; registries = _; deadlines = _; now = _ }) k ∙ sym y.7
step_once program s f g (spawned t u kind result) x y =
    let same = same_task s.tasks t x.0 y.0 x.4.0 y.4.0 in
    let k = goes_once program s.tasks t x.0 y.0 nil nil x.2 y.2 same refl x.8 y.8 in
    let seed = same_seed x.1 y.1 (same_op x.0.body y.0.body (spawning x.1) (spawning y.1) (ap (λ (z : Task). z.body) same) x.4.2 y.4.2) in
    let b = body_once program (new_task program y.1) x.3 y.3 (subst (λ z. BodyRest program (new_task program z) x.3) seed x.9) y.9 in
    x.10 ∙ ap₂ (λ (z : Tasks) (b : TaskBody). record s { tasks = update eqb z u (Some (runs result b)) }) k b ∙ sym y.10
step_once program s f g (done t k b a) x y =
    let same = same_task s.tasks t x.0 y.0 x.4.0 y.4.0 in
    let m = goes_once program s.tasks t x.0 y.0 (body_reply x.0.body (port_of b) a) (body_reply y.0.body (port_of b) a) x.2 y.2 same (ap (λ (z : Task). body_reply z.body (port_of b) a) same) x.7 y.7 in
    x.8 ∙ ap₂ (λ (z : Tasks) (c : Channel). record s { tasks = z; channels = update eqb s.channels (port_of b) (Some c) }) m (same_completes _ a x.3 y.3 x.6 y.6) ∙ sym y.8
step_once program s f g (met t k side p v w o) x y =
    let same = same_task s.tasks t x.0 y.0 x.6.0 y.6.0 in
    let m = goes_once program s.tasks t x.0 y.0 _ _ x.4 y.4 same (ap (λ (z : Task). body_reply z.body p _) same) x.13 y.13 in
    let n = wakes_once program (owner_of w s.waits) w p _ x.4 y.4 x.5 y.5 m x.14 y.14 in
    x.15 ∙ ap (λ (z : Tasks). record s { tasks = z; waits = _ }) n ∙ sym y.15
step_once program s f g (parked t w bs) x y =
    let same = same_task s.tasks t x.0 y.0 x.2.0 y.2.0 in
    x.8 ∙ ap (λ (z : Task). record s { tasks = update eqb s.tasks t (Some (record z { mode = _ })); waits = _; used = _ }) same ∙ sym y.8
step_once program s f g (posted t w p v) x y =
    let same = same_task s.tasks t x.0 y.0 x.2.0 y.2.0 in
    let k = goes_once program s.tasks t x.0 y.0 (bool true) (bool true) x.1 y.1 same refl x.5 y.5 in
    x.6 ∙ ap (λ (z : Tasks). record s { tasks = z; waits = _; used = _ }) k ∙ sym y.6
step_once program s f g (settled w k side p v) x y =
    let c = same_channel (s.channels p) x.0 y.0 x.4 y.4 in
    let m = wakes_once program (owner_of w s.waits) w p _ s.tasks s.tasks x.3 y.3 refl x.8 y.8 in
    x.9 ∙ ap₂ (λ (z : Tasks) (c : Channel). record s { tasks = z; channels = update eqb s.channels p (Some c); waits = _ }) m (same_settled _ x.1 y.1 x.5 (ap (λ (c : Channel). settle_row c _ _) c ∙ y.5)) ∙ sym y.9
step_once program s f g (defaulted t v) x y =
    let same = same_task s.tasks t x.0 y.0 x.3.0 y.3.0 in
    x.7 ∙ ap (λ (z : Tasks). record s { tasks = z }) (goes_once program s.tasks t x.0 y.0 _ _ x.2 y.2 same refl x.6 y.6) ∙ sym y.7
step_once program s f g (closed t p) x y =
    let same = same_task s.tasks t x.0 y.0 x.2.0 y.2.0 in
    x.4 ∙ ap (λ (z : Tasks). record s { tasks = z; channels = _ }) (goes_once program s.tasks t x.0 y.0 nil nil x.1 y.1 same refl x.3 y.3) ∙ sym y.4
step_once program s f g (registered t name args v) x y =
    let same = same_task s.tasks t x.0 y.0 x.3.0 y.3.0 in
    x.6 ∙ ap₂ (λ (z : Tasks) (r : Registry). record s { tasks = z; registries = update eqb s.registries _ (Some r) }) (goes_once program s.tasks t x.0 y.0 v v x.2 y.2 same refl x.5 y.5) (same_answers v x.1 y.1 (sym x.4 ∙ y.4)) ∙ sym y.6
step_once program s f g (printed t line) x y =
    let same = same_task s.tasks t x.0 y.0 x.2.0 y.2.0 in
    x.4 ∙ ap (λ (z : Tasks). record s { tasks = z }) (goes_once program s.tasks t x.0 y.0 nil nil x.1 y.1 same refl x.3 y.3) ∙ sym y.4
step_once program s f g (ticked m ports) x y = x.4 ∙ sym y.4
step_once program s f g (is_over t Ended) x y =
    x.4 ∙ ap (λ (z : Task). record s { tasks = update eqb s.tasks t (Some (record z { mode = _ })) }) (same_task s.tasks t x.0 y.0 x.2.0 y.2.0) ∙ sym y.4
step_once program s f g (is_over t (Faulted fault place result)) x y =
    x.4 ∙ ap (λ (z : Task). record s { tasks = update eqb s.tasks t (Some (record z { mode = _ })); channels = _ }) (same_task s.tasks t x.0 y.0 x.1.0 y.1.0) ∙ sym y.4

steps_once : (program : ProgramView) (es : List EventView) (s f g : State) → Steps program s es f → Steps program s es g → f ≡ g
steps_once program [] s f g x y = x ∙ sym y
steps_once program (e ∷ es) s f g x y = steps_once program es y.0 f g (subst (λ z. Steps program z es f) (step_once program s x.0 y.0 e x.1 y.1) x.2) y.2

pub opening_once : (program : ProgramView) (s t : State) → Opening program s → Opening program t → s ≡ t
opening_once program s t x y = x.2 ∙ ap opening_state (body_once program (script (new_body program.main)) x.0 y.0 x.1 y.1) ∙ sym y.2

pub reached_once : (program : ProgramView) (journal : List EventView) (s t : State) → Reaches program journal s → Reaches program journal t → s ≡ t
reached_once program journal s t x y = steps_once program journal y.opening s t (subst (λ z. Steps program z journal s) (opening_once program x.opening y.opening x.opens y.opens) x.steps) y.steps
