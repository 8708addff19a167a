-- Each event leads from a typed state to a typed one.
use Rattle.std.proofs.Common.{◌≡◌, ◌⊎◌, inl, inr, ℕ, refl, sym, ap, ◌∙◌, subst, Bool, true, false, cond, Option, Some, None, eqb}
use Rattle.std.proofs.lemmas.Map.{update_here}
use Rattle.ca_value.specs.Tree.{Tree, Trees, port}
use Rattle.ca_term.specs.declared.event.TaskKind.{TaskKind}
use Rattle.ca_term.specs.declared.head.RegisterName.{RegisterName}
use Rattle.ca_term.specs.Operation.{OpView, WhatView, spawning}
use Rattle.ca_term.specs.Fits.{Known}
use Rattle.ca_term.specs.Program.{ProgramView, IsProgram, known_in}
use Rattle.ca_term.specs.declared.event.Side.{Side}
use Rattle.ca_term.specs.declared.event.Side.TheVariants.{Take, Put}
use Rattle.ca_meaning.specs.ChannelSteps.{other_side}
use Rattle.ca_term.specs.Event.{take_of, put_of, EventView, made, spawned, done, met, parked, posted, settled, defaulted, closed, registered, printed, ticked, over as is_over}
use Rattle.ca_term.specs.declared.place.Place.{Place}
use Rattle.ca_meaning.specs.Applied.{Work}
use Rattle.ca_meaning.specs.Asks.{to}
use Rattle.ca_meaning.specs.PipelineTable.{FeedPorts, feed_makes}
use Rattle.ca_meaning.specs.System.{a_feed}
use Rattle.ca_meaning.specs.Task.{TaskBody, script, system_task, body_fill}
use Rattle.ca_meaning.specs.State.{State, Task, Tasks, runs}
use Rattle.ca_meaning.specs.Going.{RunsAtOperation}
use Rattle.ca_meaning.specs.Steps.{Step}
use Rattle.ca_meaning.specs.Sound.{Sound}
use Rattle.ca_meaning.proofs.Waits.{each-weaker}
use Rattle.ca_meaning.proofs.Tasks.{AllBodies, tasks_of}
use Rattle.ca_meaning.proofs.TaskBodies.{IsOf}
use Rattle.ca_laws.specs.Deeds.{Deed, did_take, did_put, did_wait, did_post, did_default, did_make, did_spawn, did_close, did_register, did_print, did_end, is_wait, deed_on, deed}
use Rattle.ca_laws.proofs.Acts.{wait_of}
use Rattle.ca_laws.proofs.Acted.{acts}
use Rattle.ca_laws.proofs.Stood.{AllStood}
use Rattle.ca_laws.proofs.Deeding.{comes}
use Rattle.ca_roles.specs.Roles.{replies, hidden, IsReply, Roles, known_as, Grows, IsPublic, ChannelCarries}
use Rattle.ca_roles.specs.Sealed.{IsSealed}
use Rattle.ca_roles.specs.Typed.{TypedBody, TypedTask, IsTypedResult, MayAsk, Typed}
use Rattle.ca_roles.proofs.NewRoles.{GrowsAt, known_grows, grows_at}
use Rattle.ca_roles.proofs.Makes.{body_gives}
use Rattle.ca_roles.proofs.Growing.{task_more, carries_more}
use Rattle.ca_roles.proofs.Events.{made_event}
use Rattle.ca_roles.proofs.TypedBodies.{IsChecked, body_asks, rest_typed, start_checked}
use Rattle.ca_roles.proofs.TypedTasks.{Answers, task_kept}
use Rattle.ca_roles.proofs.Moving.{ScriptsGetPublic}
use Rattle.ca_roles.proofs.Getting.{scripts_get_public, feed_reply}
use Rattle.ca_roles.proofs.Passed.{got_fits, held_after}
use Rattle.ca_roles.proofs.Posts.{posts_after}
use Rattle.ca_roles.proofs.Recorded.{registries_after, absent_after, answer_public}
use Rattle.ca_roles.proofs.Dated.{deadlines_after}
use Rattle.ca_roles.proofs.Channelled.{channels_after, hidden_after, ended_after}
use Rattle.ca_roles.proofs.TypedTasks.{no_wait}

pub is_checked : (known : Known) (b : TaskBody) → IsOf known b → IsChecked known b
is_checked known (script b) k = k
is_checked known (system_task b) k = tt

-- what a task may ask for where it stands
pub may_ask : (program : ProgramView) (checked : IsProgram program) (sealed : IsSealed program) (roles : Roles) (s : State) → Typed program roles s → AllBodies (IsOf (known_in checked.plain program)) s.tasks → (t : ℕ) (op : OpView) (x : Task) → RunsAtOperation s t op x → MayAsk program roles x.body op
may_ask program checked sealed roles s typed bodies t op x at = body_asks program checked sealed t roles s x.body op (typed.tasks t x at.0).body (is_checked (known_in checked.plain program) x.body (bodies t x at.0)) at.2 at.3

-- From a typed state to the next, with the roles before and after the event.
pub record Onward (program : ProgramView) (roles more : Roles) (s s2 : State) (e : EventView) : Type 0 where
  -- only a port that the event makes gets a role
  pub grows_so : GrowsAt roles more e
  pub grows : Grows roles more
  -- the port that a feed makes for a value takes the outputs for it
  pub makes_reply : (t : ℕ) (y : Task) (f : FeedPorts) (l : Place) (v : Tree) (p : ℕ) (what : WhatView) (moment : Option ℕ) (k : ℕ) (w : Work) → s.tasks t ≡ Some y → y.body ≡ system_task (a_feed f l (to (feed_makes v))) → e ≡ made t p what moment → roles f.replies ≡ Some (hidden k (replies w)) → IsReply more w p v
  -- scripts get public answers, but for the ports that they make
  pub answers : ScriptsGetPublic roles s e
  pub typed : Typed program more s2

-- where the event makes a port: with it, its maker's body is typed again
abbrev MakerTyped : ProgramView → Roles → State → EventView → Type 0
MakerTyped program more s (made t p what moment) = (x : Task) × (s.tasks t ≡ Some x) × TypedBody program t more (body_fill (port p) x.body)
MakerTyped program more s e = Unit {0}

module _ (program : ProgramView) (checked : IsProgram program) (sealed : IsSealed program) (roles : Roles) (s s2 : State) (typed : Typed program roles s) where
  abbrev Grown : EventView → Type 0
  Grown e = (more : Roles) × GrowsAt roles more e × MakerTyped program more s e

  grown : (e : EventView) → Step program s e s2 → Grown e
  grown (made t p what moment) x =
      let k = body_gives program t roles x.0.body what (typed.tasks t x.0 x.2.0).body x.2.2 in
      let more = known_as roles p k.0 in
      (more, (k.0, refl, k.1), (x.0, x.2.0, k.2 more p (known_grows roles p k.0 (typed.absent p x.3 x.4)) (update_here roles p (Some k.0))))
  grown (spawned t u kind result) x = (roles, refl, tt)
  grown (done t k b a) x = (roles, refl, tt)
  grown (met t k side p v w o) x = (roles, refl, tt)
  grown (parked t w bs) x = (roles, refl, tt)
  grown (posted t w p v) x = (roles, refl, tt)
  grown (settled w k side p v) x = (roles, refl, tt)
  grown (defaulted t v) x = (roles, refl, tt)
  grown (closed t p) x = (roles, refl, tt)
  grown (registered t name args v) x = (roles, refl, tt)
  grown (printed t line) x = (roles, refl, tt)
  grown (ticked m ports) x = (roles, refl, tt)
  grown (is_over t how) x = (roles, refl, tt)

-- a public answer, where the deed is one of a registry
abbrev RegistersPublic : Roles → Option Deed → Type 0
RegistersPublic roles (Some (did_register name args v)) = IsPublic roles v
RegistersPublic roles d = Unit {0}

one_deed : (roles : Roles) (b : Bool) (d : Deed) → RegistersPublic roles (Some d) → RegistersPublic roles (cond b (Some d) None)
one_deed roles true d h = h
one_deed roles false d h = tt

two_deeds : (roles : Roles) (b c : Bool) (d f : Deed) → RegistersPublic roles (Some d) → RegistersPublic roles (Some f) → RegistersPublic roles (cond b (Some d) (cond c (Some f) None))
two_deeds roles true c d f h k = h
two_deeds roles false c d f h k = one_deed roles c f k

on_side : (roles : Roles) (side : Side) (k p : ℕ) (v : Tree) → RegistersPublic roles (Some (deed_on side k p v))
on_side roles Take k p v = tt
on_side roles Put k p v = tt

deed_public : (roles : Roles) (t : ℕ) (o : Option ℕ) (e : EventView) → ((u : ℕ) (name : RegisterName) (args : Trees) (v : Tree) → e ≡ registered u name args v → IsPublic roles v) → RegistersPublic roles (deed t o e)
deed_public roles t o (made u p what moment) f = one_deed roles (eqb u t) (did_make p what moment) tt
deed_public roles t o (spawned u n kind result) f = one_deed roles (eqb u t) (did_spawn n kind result) tt
deed_public roles t o (done u k (take_of q) a) f = one_deed roles (eqb u t) (did_take k q a) tt
deed_public roles t o (done u k (put_of q v) a) f = one_deed roles (eqb u t) (did_put k q v a) tt
deed_public roles t o (met u k side q v w j) f = two_deeds roles (eqb u t) (is_wait w o) (deed_on side k q v) (deed_on (other_side side) j q v) (on_side roles side k q v) (on_side roles (other_side side) j q v)
deed_public roles t o (parked u w bs) f = one_deed roles (eqb u t) (did_wait w bs) tt
deed_public roles t o (posted u w p v) f = one_deed roles (eqb u t) (did_post w p v) tt
deed_public roles t o (settled w k side q v) f = one_deed roles (is_wait w o) (deed_on side k q v) (on_side roles side k q v)
deed_public roles t o (defaulted u v) f = one_deed roles (eqb u t) (did_default v) tt
deed_public roles t o (closed u p) f = one_deed roles (eqb u t) (did_close p) tt
deed_public roles t o (registered u name args v) f = one_deed roles (eqb u t) (did_register name args v) (f u name args v refl)
deed_public roles t o (printed u line) f = one_deed roles (eqb u t) (did_print line) tt
deed_public roles t o (ticked m ports) f = tt
deed_public roles t o (is_over u how) f = one_deed roles (eqb u t) (did_end how) tt

module _ (program : ProgramView) (checked : IsProgram program) (sealed : IsSealed program) (roles more : Roles) (s s2 : State) (e : EventView) (typed : Typed program roles s) (sound : Sound s) (stood : AllStood s) (bodies : AllBodies (IsOf (known_in checked.plain program)) s.tasks) (x : Step program s e s2) (grows_so : GrowsAt roles more e) (maker : MakerTyped program more s e) where
  g : Grows roles more
  g = grows_at program roles more s s2 e typed x grows_so

  asks : (t : ℕ) (op : OpView) (y : Task) → RunsAtOperation s t op y → MayAsk program roles y.body op
  asks = may_ask program checked sealed roles s typed bodies

  made_typed : (t : ℕ) (y : Task) (p : ℕ) (what : WhatView) (moment : Option ℕ) → s.tasks t ≡ Some y → e ≡ made t p what moment → TypedBody program t more (body_fill (port p) y.body)
  made_typed t y p what moment there is =
      let k : MakerTyped program more s (made t p what moment) = subst (MakerTyped program more s) is maker in
      let same : k.0 ≡ y = (let j : Some k.0 ≡ Some y = sym k.1 ∙ there in cc) in
      subst (λ (z : Task). TypedBody program t more (body_fill (port p) z.body)) same k.2

  registers : (t : ℕ) (o : Option ℕ) (name : RegisterName) (args : Trees) (a : Tree) → deed t o e ≡ Some (did_register name args a) → IsPublic roles a
  registers t o name args a is = subst (RegistersPublic roles) is (deed_public roles t o e (λ u n vs v i. answer_public program roles more s s2 e typed sound asks x grows_so u n vs v (subst (λ f. Step program s f s2) i x)))

  answers : (t : ℕ) (y z : Task) → s.tasks t ≡ Some y → Answers program checked sealed roles more g s s2 e t y z
  answers t y z there = record {
    asks = λ op at. asks t op y at;
    takes = λ k p a is. got_fits program roles s s2 typed sound stood asks t (wait_of y.mode) e k p a x is;
    makes = λ p what m is at. made_typed t y p what m there (made_event t (wait_of y.mode) e p what m is);
    registers = λ name args a is. registers t (wait_of y.mode) name args a is;
  }

  -- a task that was there
  stays : (t : ℕ) (y z : Task) → s.tasks t ≡ Some y → s2.tasks t ≡ Some z → TypedTask program more t z
  stays t y z there there2 =
      let k = acts program s s2 t y there stood sound.waited e x in
      let typed_y = typed.tasks t y there in
      let kept = task_kept program checked sealed roles more g s s2 e t y k.0 there typed_y (is_checked (known_in checked.plain program) y.body (bodies t y there)) x (answers t y k.0 there) k.2 in
      let same : k.0 ≡ z = (let j : Some k.0 ≡ Some z = sym k.1 ∙ there2 in cc) in
      subst (TypedTask program more t) same kept

  -- a task that the event starts
  starts : (t u : ℕ) (kind : TaskKind) (result : Option ℕ) → Step program s (spawned u t kind result) s2 → (z : Task) → s2.tasks t ≡ Some z → TypedTask program roles t z
  starts t u kind result k z there =
      let may = asks u (spawning k.1) k.0 k.4 in
      let body = rest_typed program checked sealed t roles _ k.3 k.9 (start_checked program checked sealed k.0.body k.1 (bodies u k.0 k.4.0) k.4.2) (may.0 t) in
      let here : s2.tasks t ≡ Some (runs result k.3) = ap (λ (f : Tasks). f t) (tasks_of k.10) ∙ update_here k.2 t (Some (runs result k.3)) in
      let same : runs result k.3 ≡ z = (let j : Some (runs result k.3) ≡ Some z = sym here ∙ there in cc) in
      subst (TypedTask program roles t) same (record {
        body = body;
        result = subst (IsTypedResult roles) k.7 may.1;
        waits = λ w op m at. no_wait w m;
      })

  pub tasks_after : (t : ℕ) (z : Task) → s2.tasks t ≡ Some z → TypedTask program more t z
  tasks_after t z there = by (s.tasks t) refl where
    new : (s2.tasks t ≡ None) ⊎ ((u : ℕ) × (kind : TaskKind) × (result : Option ℕ) × (b : TaskBody) × (e ≡ spawned u t kind result) × (s2.tasks t ≡ Some (runs result b))) → TypedTask program more t z
    new (inl none) = absurd (let k : None ≡ Some z = sym none ∙ there in cc)
    new (inr c) = task_more program roles more g t z (starts t c.0 c.1 c.2 (subst (λ f. Step program s f s2) c.4 x) z there)

    by : (o : Option Task) → s.tasks t ≡ o → TypedTask program more t z
    by None at = new (comes program s s2 t at e x)
    by (Some y) at = stays t y z at there

  pub typed_after : Typed program more s2
  typed_after = record {
    tasks = tasks_after;
    held = λ p c at. each-weaker (ChannelCarries program roles p) (ChannelCarries program more p) c.held (carries_more program roles more g p) (held_after program roles s s2 typed sound stood asks e x p c at);
    posts = posts_after program roles more s s2 e typed sound asks x g;
    registries = registries_after program roles more s s2 e typed sound asks x grows_so;
    deadlines = deadlines_after program roles more s s2 e typed x grows_so;
    absent = absent_after program roles more s s2 e typed sound asks x grows_so;
    channels = channels_after program roles more s s2 e typed sound stood asks x grows_so;
    hidden_channels = hidden_after program roles more s s2 e typed sound stood asks x grows_so;
    ended = ended_after program roles more s s2 e typed sound stood asks x grows_so;
  }

  makes_reply : (t : ℕ) (y : Task) (f : FeedPorts) (l : Place) (v : Tree) (p : ℕ) (what : WhatView) (moment : Option ℕ) (k : ℕ) (w : Work) → s.tasks t ≡ Some y → y.body ≡ system_task (a_feed f l (to (feed_makes v))) → e ≡ made t p what moment → roles f.replies ≡ Some (hidden k (replies w)) → IsReply more w p v
  makes_reply t y f l v p what moment k w there is told at = feed_reply program roles more t f l v p k w g (subst (λ b. TypedBody program t more (body_fill (port p) b)) is (made_typed t y p what moment there told)) at

  pub scripts_public : ScriptsGetPublic roles s e
  scripts_public = scripts_get_public program roles s s2 e typed sound stood asks x registers

  pub onward : Onward program roles more s s2 e
  onward = record { grows_so = grows_so; grows = g; makes_reply = makes_reply; answers = scripts_public; typed = typed_after }

-- the roles after the event, with which the state is typed again
pub typed_step : (program : ProgramView) (checked : IsProgram program) (sealed : IsSealed program) (roles : Roles) (s s2 : State) (e : EventView) → Typed program roles s → Sound s → AllStood s → AllBodies (IsOf (known_in checked.plain program)) s.tasks → Step program s e s2 → (more : Roles) × Onward program roles more s s2 e
typed_step program checked sealed roles s s2 e typed sound stood bodies x =
    let k = grown program checked sealed roles s s2 typed e x in
    (k.0, onward program checked sealed roles k.0 s s2 e typed sound stood bodies x k.1 k.2)
