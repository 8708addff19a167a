-- The wait law of every legal journal.
use Rattle.std.proofs.Common.{◌≡◌, ℕ, List, [], ◌∷◌, ◌++◌, refl, sym, ap, ◌∙◌, subst, Bool, true, false, Option, Some, None, eqb, eqb-true, eq-eqb, slice_get}
use Rattle.std.specs.Map.{update}
use Rattle.std.proofs.lemmas.Map.{update_here, update_apart}
use Rattle.ca_value.specs.Tree.{Tree, port}
use Rattle.ca_term.specs.declared.event.Side.{Side}
use Rattle.ca_term.specs.declared.event.Side.TheVariants.{Take, Put}
use Rattle.ca_term.specs.declared.event.Ending.TheVariants.{Ended, Faulted}
use Rattle.ca_term.specs.Operation.{OpView, taking, putting, choosing, posting, making, spawning, closing, registering, printing}
use Rattle.ca_term.specs.Program.{ProgramView}
use Rattle.ca_term.specs.Event.{BranchView, take_of, put_of, EventView, made, spawned, done, met, parked, posted, settled, defaulted, closed, registered, printed, ticked, over as is_over}
use Rattle.ca_meaning.specs.Wait.{Handler, side_of, port_of, front, queue, owner_of}
use Rattle.ca_meaning.specs.Row.{meets, row_on}
use Rattle.ca_meaning.specs.Task.{TaskBody, body_at, body_fill, BodyRest, body_reply}
use Rattle.ca_meaning.specs.State.{State, Task, Tasks, Mode, running, waiting, over, runs}
use Rattle.ca_meaning.specs.Choice.{branches_of, default_of, parks}
use Rattle.ca_meaning.specs.Going.{IsAtOp, Goes, Wakes}
use Rattle.ca_meaning.specs.ChannelSteps.{other_side}
use Rattle.ca_meaning.specs.Steps.{Step, Steps}
use Rattle.ca_meaning.specs.Legal.{Legal}
use Rattle.ca_meaning.specs.Sound.{Sound}
use Rattle.ca_meaning.specs.History.{branch_on, MakesBranch, completed_by, completes_wait}
use Rattle.ca_meaning.specs.EndsLaw.{is_of}
use Rattle.ca_meaning.specs.WaitLaw.{chooses_op, chooses, WentOn, OwnEvent, Told, Lives, WaitLaw}
use Rattle.ca_meaning.proofs.Waits.{each-head}
use Rattle.ca_meaning.proofs.Rows.{take_meets, put_meets, Settled, moved_in, served, served_nil, settle_does, row_channel}
use Rattle.ca_meaning.proofs.Tasks.{tasks_of}
use Rattle.ca_meaning.proofs.Soundness.{step_sound, steps_sound, opening_sound}
use Rattle.ca_meaning.proofs.Named.{NamedIn, AllNamed}
use Rattle.ca_meaning.proofs.ChannelLaws.{steps_split, known_before}
use Rattle.ca_meaning.proofs.Once.{made_once, completed_once}

-- operations with branches take, put or choose
has_branches : (op : OpView) (b : BranchView) (k : ℕ) → slice_get (branches_of op) k ≡ Some b → chooses_op op ≡ true
has_branches (taking c) b k e = refl
has_branches (putting c v) b k e = refl
has_branches (choosing ports priority default) b k e = refl
has_branches (posting c v) b k e = refl
has_branches (making what) b k e = absurd (let j : None ≡ Some b = e in cc)
has_branches (spawning seed) b k e = absurd (let j : None ≡ Some b = e in cc)
has_branches (closing c) b k e = absurd (let j : None ≡ Some b = e in cc)
has_branches (registering name args) b k e = absurd (let j : None ≡ Some b = e in cc)
has_branches (printing line) b k e = absurd (let j : None ≡ Some b = e in cc)

has_default : (op : OpView) (v : Tree) → default_of op ≡ Some v → chooses_op op ≡ true
has_default (choosing ports priority default) v e = refl
has_default (taking c) v e = absurd (let j : None ≡ Some v = e in cc)
has_default (putting c u) v e = absurd (let j : None ≡ Some v = e in cc)
has_default (posting c u) v e = absurd (let j : None ≡ Some v = e in cc)
has_default (making what) v e = absurd (let j : None ≡ Some v = e in cc)
has_default (spawning seed) v e = absurd (let j : None ≡ Some v = e in cc)
has_default (closing c) v e = absurd (let j : None ≡ Some v = e in cc)
has_default (registering name args) v e = absurd (let j : None ≡ Some v = e in cc)
has_default (printing line) v e = absurd (let j : None ≡ Some v = e in cc)

can_park : (op : OpView) → parks op ≡ true → chooses_op op ≡ true
can_park (taking c) e = refl
can_park (putting c v) e = refl
can_park (choosing ports priority default) e = refl
can_park (posting c v) e = refl
can_park (making what) e = absurd (let j : false ≡ true = e in cc)
can_park (spawning seed) e = absurd (let j : false ≡ true = e in cc)
can_park (closing c) e = absurd (let j : false ≡ true = e in cc)
can_park (registering name args) e = absurd (let j : false ≡ true = e in cc)
can_park (printing line) e = absurd (let j : false ≡ true = e in cc)

at_chooses : (x : Task) (op : OpView) (b : Bool) → IsAtOp x.body op → chooses_op op ≡ b → chooses (body_at x.body) ≡ b
at_chooses x op b at c = ap chooses at.1 ∙ c

some_same : (x y : Task) → Some x ≡ Some y → x ≡ y
some_same x y e = cc

module _ (program : ProgramView) (s s2 : State) (sound : Sound s) (e : EventView) (t : ℕ) (x : Task) (there : s.tasks t ≡ Some x) where
  abbrev After : Type 0
  After = (y : Task) × (s2.tasks t ≡ Some y) × Told program t x.mode x e y

  -- a mode that isn't running is none of an event's task
  is_running : (m : Mode) → x.mode ≡ m → m ≡ running → x.mode ≡ running
  is_running m a b = a ∙ b

  -- the event of task u, which is z and runs, and which leaves task u as y
  own : (u : ℕ) (z y : Task) (rest : Tasks) → is_of t e ≡ eqb u t → ((w : ℕ) → completes_wait w e ≡ false) → s.tasks u ≡ Some z → z.mode ≡ running → OwnEvent program z e y → s2.tasks ≡ rest → rest u ≡ Some y → ((v : ℕ) (k : Task) → (v ≡ u → ⊥) → s.tasks v ≡ Some k → rest v ≡ Some k) → After
  own u z y rest of none at runs does is here apart = by (eqb u t) refl where
    mine : u ≡ t → Task
    mine ut = y

    told_mine : eqb u t ≡ true → z ≡ x → (m : Mode) → x.mode ≡ m → Told program t m x e y
    told_mine ut zx running m = (λ f. absurd (let k : true ≡ false = sym (of ∙ ut) ∙ f in cc), λ f. subst (λ z. OwnEvent program z e y) zx does)
    told_mine ut zx (waiting w) m = absurd (let k : running ≡ waiting w = sym runs ∙ ap (λ (z : Task). z.mode) zx ∙ m in cc)
    told_mine ut zx over m = absurd (let k : running ≡ over = sym runs ∙ ap (λ (z : Task). z.mode) zx ∙ m in cc)

    told_other : eqb u t ≡ false → (m : Mode) → Told program t m x e x
    told_other ut running = (λ f. refl, λ f. absurd (let k : false ≡ true = sym (of ∙ ut) ∙ f in cc))
    told_other ut (waiting w) = (of ∙ ut, λ f. refl, λ f. absurd (let k : false ≡ true = sym (none w) ∙ f in cc))
    told_other ut over = (of ∙ ut, refl)

    by : (b : Bool) → eqb u t ≡ b → After
    by true ut = let k = eqb-true u t ut in (y, ap (λ (z : Tasks). z t) is ∙ ap rest (sym k) ∙ here, told_mine ut (some_same z x (sym at ∙ ap s.tasks k ∙ there)) x.mode refl)
    by false ut = (x, ap (λ (z : Tasks). z t) is ∙ apart t x (λ k. let j : true ≡ false = sym (eq-eqb u t (sym k)) ∙ ut in cc) there, told_other ut x.mode)

  -- the event of a task that changes it alone
  alone : (u : ℕ) (z y : Task) → is_of t e ≡ eqb u t → ((w : ℕ) → completes_wait w e ≡ false) → s.tasks u ≡ Some z → z.mode ≡ running → OwnEvent program z e y → s2.tasks ≡ update eqb s.tasks u (Some y) → After
  alone u z y of none at runs does is = own u z y (update eqb s.tasks u (Some y)) of none at runs does is (update_here s.tasks u (Some y)) (λ v k ne a. update_apart s.tasks u (Some y) v ne ∙ a)

  -- an event of no task that changes no task
  silent : is_of t e ≡ false → ((w : ℕ) → completes_wait w e ≡ false) → s2.tasks ≡ s.tasks → After
  silent of none is = (x, ap (λ (z : Tasks). z t) is ∙ there, by x.mode) where
    by : (m : Mode) → Told program t m x e x
    by running = (λ f. refl, λ f. absurd (let k : false ≡ true = sym of ∙ f in cc))
    by (waiting w) = (of, λ f. refl, λ f. absurd (let k : false ≡ true = sym (none w) ∙ f in cc))
    by over = (of, refl)

  -- a wait is completed, where task t stood as before
  woken : (o : Option ℕ) (w p : ℕ) (v : Tree) (tasks after : Tasks) → is_of t e ≡ false → ((n : ℕ) → completes_wait n e ≡ eqb n w) → owner_of w s.waits ≡ o → tasks t ≡ Some x → Wakes program o tasks w p v after → s2.tasks ≡ after → After
  woken o w p v tasks after of completing ow at wakes is = by o ow wakes where
    stays : ((n : ℕ) → x.mode ≡ waiting n → eqb n w ≡ true → ⊥) → (m : Mode) → x.mode ≡ m → Told program t m x e x
    stays not running m = (λ f. refl, λ f. absurd (let k : false ≡ true = sym of ∙ f in cc))
    stays not (waiting n) m = (of, λ f. refl, λ f. absurd (not n m (sym (completing n) ∙ f)))
    stays not over m = (of, refl)

    owner_there : (n : ℕ) → x.mode ≡ waiting n → eqb n w ≡ true → owner_of w s.waits ≡ Some t
    owner_there n m nw = ap (λ k. owner_of k s.waits) (sym (eqb-true n w nw)) ∙ sound.waited n t x there m

    wakes_it : (y : Task) → y ≡ x → (b : TaskBody) → y.mode ≡ waiting w → BodyRest program (body_fill (body_reply y.body p v) y.body) b → Told program t x.mode x e (runs y.result b)
    wakes_it y yx b m r =
        subst (λ n. Told program t n x e (runs y.result b)) (sym m ∙ ap (λ (z : Task). z.mode) yx)
        (of, λ f. absurd (let k : true ≡ false = sym (eq-eqb w w refl) ∙ sym (completing w) ∙ f in cc), λ f. subst (λ (z : Task). WentOn program z (runs y.result b)) yx (body_reply y.body p v, b, r, refl))

    by : (o : Option ℕ) → owner_of w s.waits ≡ o → Wakes program o tasks w p v after → After
    by None ow k = (x, ap (λ (z : Tasks). z t) (is ∙ k) ∙ at, stays (λ n m nw. let j : None ≡ Some t = sym ow ∙ owner_there n m nw in cc) x.mode refl)
    by (Some u) ow k = at_one (eqb u t) refl where
      at_one : (b : Bool) → eqb u t ≡ b → After
      at_one true ut =
          let tu = eqb-true u t ut in
          let same : k.0 ≡ x = some_same k.0 x (sym k.1 ∙ ap tasks tu ∙ at) in
          (runs k.0.result k.3.0, ap (λ (z : Tasks). z t) (is ∙ k.3.2) ∙ ap (update eqb tasks u (Some (runs k.0.result k.3.0))) (sym tu) ∙ update_here tasks u (Some (runs k.0.result k.3.0)), wakes_it k.0 same k.3.0 k.2 k.3.1)
      at_one false ut = (
        x,
        ap (λ (z : Tasks). z t) (is ∙ k.3.2) ∙ update_apart tasks u (Some (runs k.0.result k.3.0)) t (λ j. let i : true ≡ false = sym (eq-eqb u t (sym j)) ∙ ut in cc) ∙ at,
        stays (λ n m nw. let j : Some u ≡ Some t = sym ow ∙ owner_there n m nw in let i : u ≡ t = cc in let l : true ≡ false = sym (eq-eqb u t i) ∙ ut in cc) x.mode refl,
      )

  -- a task that runs isn't woken
  not_woken : (o : Option ℕ) (w p : ℕ) (v : Tree) (tasks after : Tasks) (u : ℕ) (y : Task) → tasks u ≡ Some y → y.mode ≡ running → Wakes program o tasks w p v after → after u ≡ Some y
  not_woken None w p v tasks after u y at r k = ap (λ (z : Tasks). z u) k ∙ at
  not_woken (Some n) w p v tasks after u y at r k =
      ap (λ (z : Tasks). z u) k.3.2 ∙ update_apart tasks n (Some (runs k.0.result k.3.0)) u (λ (j : u ≡ n). let i : running ≡ waiting w = sym r ∙ ap (λ (z : Task). z.mode) (some_same y k.0 (sym at ∙ ap tasks j ∙ k.1)) ∙ k.2 in cc) ∙ at

module _ (program : ProgramView) (s s2 : State) (sound : Sound s) (t : ℕ) (x : Task) (there : s.tasks t ≡ Some x) where
  abbrev Then : EventView → Type 0
  Then e = (y : Task) × (s2.tasks t ≡ Some y) × Told program t x.mode x e y

  -- a task that went on
  went : (z : Task) (v : Tree) (tasks after : Tasks) (u : ℕ) (k : Goes program tasks u z v after) → WentOn program z (runs z.result k.0)
  went z v tasks after u k = (v, k.0, k.1, refl)

  no_other : {G : Type 0} → (b : Bool) → b ≡ true → b ≡ false → G
  no_other b e f = let k : true ≡ false = sym e ∙ f in absurd cc

  pub step_told : (e : EventView) → Step program s e s2 → Then e
  step_told (made u p what moment) k =
      alone program s s2 sound (made u p what moment) t x there u k.0 (runs k.0.result k.6.0) refl (λ w. refl) k.2.0 k.2.1 (at_chooses k.0 (making what) false k.2.2 refl, went k.0 _ s.tasks k.1 u k.6) (tasks_of k.7 ∙ k.6.2)
  step_told (spawned u n kind result) k =
      own program s s2 sound (spawned u n kind result) t x there u k.0 (runs k.0.result k.8.0) (update eqb k.2 n (Some (runs result k.3))) refl (λ w. refl) k.4.0 k.4.1 (at_chooses k.0 (spawning k.1) false k.4.2 refl, went k.0 _ s.tasks k.2 u k.8) (tasks_of k.10)
      (update_apart k.2 n (Some (runs result k.3)) u (λ (j : u ≡ n). let i : None ≡ Some k.0 = sym k.5 ∙ ap s.tasks (sym j) ∙ k.4.0 in cc) ∙ ap (λ (z : Tasks). z u) k.8.2 ∙ update_here s.tasks u (Some (runs k.0.result k.8.0)))
      (λ v y ne a. update_apart k.2 n (Some (runs result k.3)) v (λ (j : v ≡ n). let i : None ≡ Some y = sym k.5 ∙ ap s.tasks (sym j) ∙ a in cc) ∙ ap (λ (z : Tasks). z v) k.8.2 ∙ update_apart s.tasks u (Some (runs k.0.result k.8.0)) v ne ∙ a)
  step_told (done u j b a) k =
      alone program s s2 sound (done u j b a) t x there u k.0 (runs k.0.result k.7.0) refl (λ w. refl) k.4.0 k.4.1 (at_chooses k.0 k.1 true k.4.2 (has_branches k.1 b j k.5.0), went k.0 _ s.tasks k.2 u k.7) (tasks_of k.8 ∙ k.7.2)
  step_told (met u j side p v w o) k = by (eqb u t) refl where
    by : (b : Bool) → eqb u t ≡ b → Then (met u j side p v w o)
    by true ut =
        let tu = eqb-true u t ut in
        let same : k.0 ≡ x = some_same k.0 x (sym k.6.0 ∙ ap s.tasks tu ∙ there) in
        let here : k.4 u ≡ Some (runs k.0.result k.13.0) = ap (λ (z : Tasks). z u) k.13.2 ∙ update_here s.tasks u (Some (runs k.0.result k.13.0)) in (
          runs k.0.result k.13.0,
          ap (λ (z : Tasks). z t) (tasks_of k.15) ∙ ap k.5 (sym tu) ∙ not_woken program s s2 sound (met u j side p v w o) t x there (owner_of w s.waits) w p _ k.4 k.5 u (runs k.0.result k.13.0) here refl k.14,
          subst (λ m. Told program t m x (met u j side p v w o) (runs k.0.result k.13.0)) (sym (sym (ap (λ (z : Task). z.mode) same) ∙ k.6.1))
              (λ f. absurd (no_other (eqb u t) ut f), λ f. subst (λ (z : Task). OwnEvent program z (met u j side p v w o) (runs k.0.result k.13.0)) same (at_chooses k.0 k.1 true k.6.2 (has_branches k.1 k.2 j k.7.0), went k.0 _ s.tasks k.4 u k.13)),
        )
    by false ut =
        woken program s s2 sound (met u j side p v w o) t x there (owner_of w s.waits) w p _ k.4 k.5 ut (λ n. refl) refl
        (ap (λ (z : Tasks). z t) k.13.2 ∙ update_apart s.tasks u (Some (runs k.0.result k.13.0)) t (λ j. no_other (eqb u t) (eq-eqb u t (sym j)) ut) ∙ there) k.14 (tasks_of k.15)
  step_told (parked u w bs) k =
      alone program s s2 sound (parked u w bs) t x there u k.0 (record k.0 { mode = waiting w }) refl (λ w. refl) k.2.0 k.2.1 (at_chooses k.0 k.1 true k.2.2 (can_park k.1 k.3), refl) (tasks_of k.8)
  step_told (posted u w p v) k =
      alone program s s2 sound (posted u w p v) t x there u k.0 (runs k.0.result k.5.0) refl (λ w. refl) k.2.0 k.2.1 (at_chooses k.0 (posting (port p) v) true k.2.2 refl, went k.0 _ s.tasks k.1 u k.5) (tasks_of k.6 ∙ k.5.2)
  step_told (settled w j side p v) k =
      woken program s s2 sound (settled w j side p v) t x there (owner_of w s.waits) w p _ s.tasks k.3 refl (λ n. refl) refl there k.8 (tasks_of k.9)
  step_told (defaulted u v) k =
      alone program s s2 sound (defaulted u v) t x there u k.0 (runs k.0.result k.6.0) refl (λ w. refl) k.3.0 k.3.1 (at_chooses k.0 k.1 true k.3.2 (has_default k.1 v k.4), went k.0 _ s.tasks k.2 u k.6) (tasks_of k.7 ∙ k.6.2)
  step_told (closed u p) k =
      alone program s s2 sound (closed u p) t x there u k.0 (runs k.0.result k.3.0) refl (λ w. refl) k.2.0 k.2.1 (at_chooses k.0 (closing (port p)) false k.2.2 refl, went k.0 _ s.tasks k.1 u k.3) (tasks_of k.4 ∙ k.3.2)
  step_told (registered u name args v) k =
      alone program s s2 sound (registered u name args v) t x there u k.0 (runs k.0.result k.5.0) refl (λ w. refl) k.3.0 k.3.1 (at_chooses k.0 (registering name args) false k.3.2 refl, went k.0 _ s.tasks k.2 u k.5) (tasks_of k.6 ∙ k.5.2)
  step_told (printed u line) k =
      alone program s s2 sound (printed u line) t x there u k.0 (runs k.0.result k.3.0) refl (λ w. refl) k.2.0 k.2.1 (at_chooses k.0 (printing line) false k.2.2 refl, went k.0 _ s.tasks k.1 u k.3) (tasks_of k.4 ∙ k.3.2)
  step_told (ticked m ports) k = silent program s s2 sound (ticked m ports) t x there refl (λ w. refl) (tasks_of k.4)
  step_told (is_over u Ended) k = alone program s s2 sound (is_over u Ended) t x there u k.0 (record k.0 { mode = over }) refl (λ w. refl) k.2.0 k.2.1 (ap chooses k.3, refl) (tasks_of k.4)
  step_told (is_over u (Faulted fault place result)) k = alone program s s2 sound (is_over u (Faulted fault place result)) t x there u k.0 (record k.0 { mode = over }) refl (λ w. refl) k.1.0 k.1.1 refl (tasks_of k.4)

lives : (program : ProgramView) (es : List EventView) (s s2 : State) (t : ℕ) (x : Task) → Sound s → s.tasks t ≡ Some x → Steps program s es s2 → Lives program t s x es
lives program [] s s2 t x sound there k = tt
lives program (e ∷ es) s s2 t x sound there k = let y = step_told program s k.0 sound t x there e k.1 in (k.0, y.0, k.1, y.1, y.2, lives program es k.0 s2 t y.0 (step_sound program s k.0 e k.1 sound) y.1 k.2)

-- the branch that an event completes was named
some_parts : (w k x j : ℕ) (b c : BranchView) → ◌≡◌ {A = Option (ℕ × ℕ × BranchView)} (Some (w, k, b)) (Some (x, j, c)) → (w ≡ x) × (k ≡ j) × (b ≡ c)
some_parts w k x j b c e = let q : ◌≡◌ {A = ℕ × ℕ × BranchView} (w, k, b) (x, j, c) = cc in (ap (λ (z : ℕ × ℕ × BranchView). z.0) q, ap (λ (z : ℕ × ℕ × BranchView). z.1) q, ap (λ (z : ℕ × ℕ × BranchView). z.2) q)

abbrev WasNamed : List EventView → ℕ → ℕ → BranchView → Type 0
WasNamed before w k b = (early : List EventView) × (offer : EventView) × (late : List EventView) × (before ≡ early ++ offer ∷ late) × MakesBranch w k b offer

none_is_some : {A : Type 0} {G : Type 0} (x : A) → None ≡ Some x → G
none_is_some x e = absurd cc

of_front : (before : List EventView) (s : State) (side : Side) (p : ℕ) (h : Handler) (v : Tree) → AllNamed before s.waits → front side p s.waits ≡ Some h → branch_on side p h.value ≡ branch_on side p v → (w k w2 k2 : ℕ) (b : BranchView)
    → h.wait ≡ w2 → h.branch ≡ k2 → ◌≡◌ {A = Option (ℕ × ℕ × BranchView)} (Some (w2, k2, branch_on side p v)) (Some (w, k, b)) → WasNamed before w k b
of_front before s side p h v all at same w k w2 k2 b hw hk e =
    let q = some_parts w2 k2 w k (branch_on side p v) b e in
    let n = each-head (NamedIn before side p) (queue side p s.waits) h (all side p) at in
    (n.0, n.1, n.2, n.3, subst (λ z. MakesBranch z k b n.1) (hw ∙ q.0) (subst (λ z. MakesBranch h.wait z b n.1) (hk ∙ q.1) (subst (λ z. MakesBranch h.wait h.branch z n.1) (same ∙ q.2) n.4)))

step_named_by : (program : ProgramView) (before : List EventView) (s s2 : State) (e : EventView) (w k : ℕ) (b : BranchView) → AllNamed before s.waits → Step program s e s2 → completed_by e ≡ Some (w, k, b) → WasNamed before w k b
step_named_by program before s s2 (met t j side p v w2 k2) w k b all x e =
    let r = row_channel (s.channels (port_of x.2)) (front Take (port_of x.2) s.waits) (front Put (port_of x.2) s.waits) x.2 (meets x.3 v) x.10 (λ k. cc) in by x.2 r.0 r.2 x.8 x.9 where
      by : (o : BranchView) (c : _) → row_on c (front Take (port_of o) s.waits) (front Put (port_of o) s.waits) o ≡ meets x.3 v → side_of o ≡ side → port_of o ≡ p → WasNamed before w k b
      by (take_of q) c r sd pt =
          let m = take_meets c (front Put q s.waits) x.3 v r in
          of_front before s Put p x.3 v all (ap (λ n. front Put n s.waits) (sym pt) ∙ m.in_front) (ap (put_of p) (sym m.value)) w k w2 k2 b x.11 x.12 (subst (λ z. ◌≡◌ {A = Option (ℕ × ℕ × BranchView)} (Some (w2, k2, branch_on (other_side z) p v)) (Some (w, k, b))) (sym sd) e)
      by (put_of q u) c r sd pt =
          let m = put_meets c (front Take q s.waits) (front Put q s.waits) u x.3 v r in
          of_front before s Take p x.3 v all (ap (λ n. front Take n s.waits) (sym pt) ∙ m.in_front) refl w k w2 k2 b x.11 x.12 (subst (λ z. ◌≡◌ {A = Option (ℕ × ℕ × BranchView)} (Some (w2, k2, branch_on (other_side z) p v)) (Some (w, k, b))) (sym sd) e)
step_named_by program before s s2 (settled w2 k2 side p v) w k b all x e = by (settle_does x.0 (front Take p s.waits) (front Put p s.waits) side x.2 v x.1 x.5) where
  at_side : (z : Side) → side ≡ z → ◌≡◌ {A = Option (ℕ × ℕ × BranchView)} (Some (w2, k2, branch_on z p v)) (Some (w, k, b))
  at_side z sd = subst (λ z. ◌≡◌ {A = Option (ℕ × ℕ × BranchView)} (Some (w2, k2, branch_on z p v)) (Some (w, k, b))) sd e

  by : Settled x.0 (front Take p s.waits) (front Put p s.waits) side x.2 v x.1 → WasNamed before w k b
  by (moved_in sd at vn d fx rm) = of_front before s Put p x.2 v all at (ap (put_of p) (sym vn)) w k w2 k2 b x.6 x.7 (at_side Put sd)
  by (served sd at vs held d) = of_front before s Take p x.2 v all at refl w k w2 k2 b x.6 x.7 (at_side Take sd)
  by (served_nil sd at held cl vn d) = of_front before s Take p x.2 v all at refl w k w2 k2 b x.6 x.7 (at_side Take sd)
step_named_by program before s s2 (made t p what moment) w k b all x e = none_is_some _ e
step_named_by program before s s2 (spawned t u kind result) w k b all x e = none_is_some _ e
step_named_by program before s s2 (done t j o a) w k b all x e = none_is_some _ e
step_named_by program before s s2 (parked t n bs) w k b all x e = none_is_some _ e
step_named_by program before s s2 (posted t n p v) w k b all x e = none_is_some _ e
step_named_by program before s s2 (defaulted t v) w k b all x e = none_is_some _ e
step_named_by program before s s2 (closed t p) w k b all x e = none_is_some _ e
step_named_by program before s s2 (registered t name args v) w k b all x e = none_is_some _ e
step_named_by program before s s2 (printed t line) w k b all x e = none_is_some _ e
step_named_by program before s s2 (ticked m ports) w k b all x e = none_is_some _ e
step_named_by program before s s2 (is_over t how) w k b all x e = none_is_some _ e

pub wait_law : (program : ProgramView) (journal : List EventView) → Legal program journal → WaitLaw program journal
wait_law program journal legal =
    let r = legal.reaches in
    let sound = opening_sound program r.opening r.opens in
    record {
      made_once = λ w. made_once program journal r.opening legal.state w r.steps;
      completed_once = λ w. completed_once program journal r.opening legal.state w sound.given r.steps;
      named = λ before after e w k b is by. let m = known_before program before (e ∷ after) journal legal.state r is in step_named_by program before m.0 m.2.0 e w k b m.1.named m.2.1 by;
      operations = λ before after is.
          let m = steps_split program before after r.opening legal.state (subst (λ j. Steps program r.opening j legal.state) is r.steps) in
          (m.0, record { opening = r.opening; opens = r.opens; steps = m.1 }, λ t x at. lives program after m.0 legal.state t x (steps_sound program before r.opening m.0 m.1 sound) at m.2);
    }
