-- A wait's owner stands at the operation whose branches the wait has.
use Rattle.std.proofs.Common.{◌≡◌, ℕ, ◌+◌, List, [], ◌∷◌, ◌++◌, refl, sym, ap, ◌∙◌, subst, arith, Bool, true, false, cond, not, Option, Some, None, eqb, eqb-true, eq-eqb, ne_eqb, slice_get, filter}
use Rattle.std.specs.Map.{update}
use Rattle.std.proofs.lemmas.Map.{update_here}
use Rattle.ca_term.specs.declared.event.Side.{Side}
use Rattle.ca_term.specs.declared.event.Ending.TheVariants.{Ended, Faulted}
use Rattle.ca_term.specs.Operation.{OpView}
use Rattle.ca_term.specs.Program.{ProgramView}
use Rattle.ca_term.specs.Event.{put_of, EventView, made, spawned, done, met, parked, posted, settled, defaulted, closed, registered, printed, ticked, over as is_over}
use Rattle.ca_meaning.specs.Wait.{Wait, Handler, queue, handlers, without, owner_of, is_live, is_among}
use Rattle.ca_meaning.specs.State.{State, Task, waiting}
use Rattle.ca_meaning.specs.Choice.{branches_of}
use Rattle.ca_meaning.specs.Going.{IsAtOp}
use Rattle.ca_meaning.specs.Steps.{Step}
use Rattle.ca_meaning.specs.Sound.{Each, Sound}
use Rattle.ca_meaning.specs.History.{branch_on, completes_wait}
use Rattle.ca_meaning.specs.WaitLaw.{Told}
use Rattle.ca_meaning.proofs.Waits.{each-append, each-weaker, handlers_of, queue_without, queue_joined, other, owner_else, owner_before, owner_joined}
use Rattle.ca_meaning.proofs.Effects.{waits_of}
use Rattle.ca_meaning.proofs.Tasks.{tasks_of}
use Rattle.ca_meaning.proofs.Named.{IsBranch, handlers_at}
use Rattle.ca_meaning.proofs.WaitLaws.{step_told}

-- the owner of the handler's wait stands at an operation that has this branch
abbrev pub Stood : State → Side → ℕ → Handler → Type 0
Stood s side p h = (u : ℕ) → owner_of h.wait s.waits ≡ Some u → (x : Task) × (op : OpView) × (s.tasks u ≡ Some x) × IsAtOp x.body op × (slice_get (branches_of op) h.branch ≡ Some (branch_on side p h.value))

abbrev pub AllStood : State → Type 0
AllStood s = (side : Side) (p : ℕ) → Each (Stood s side p) (queue side p s.waits)

each_filtered : {A : Type 0} (P Q : A → Type 0) (t : A → Bool) (xs : List A) → ((x : A) → t x ≡ true → P x → Q x) → Each P xs → Each Q (filter t xs)
each_filtered P Q t [] f a = tt
each_filtered P Q t (x ∷ xs) f a = by (t x) refl (each_filtered P Q t xs f a.1) where
  by : (b : Bool) → t x ≡ b → Each Q (filter t xs) → Each Q (cond b (x ∷ filter t xs) (filter t xs))
  by true e r = (f x e a.0, r)
  by false e r = r

each_both : {A : Type 0} (P Q : A → Type 0) (xs : List A) → Each P xs → Each Q xs → Each (λ x. P x × Q x) xs
each_both P Q [] a b = tt
each_both P Q (x ∷ xs) a b = ((a.0, b.0), each_both P Q xs a.1 b.1)

-- a queue has handlers of waits in the list alone
queue_live : (side : Side) (p : ℕ) (ws : List Wait) → Each (λ (h : Handler). is_live h.wait ws ≡ true) (queue side p ws)
queue_live side p [] = tt
queue_live side p (y ∷ ys) = each-append (λ (h : Handler). is_live h.wait (y ∷ ys) ≡ true) (handlers side p y.number 0 y.branches) (queue side p ys)
    (each-weaker (λ (h : Handler). h.wait ≡ y.number) (λ (h : Handler). is_live h.wait (y ∷ ys) ≡ true) (handlers side p y.number 0 y.branches) (λ h is. ap (λ c. cond c true (is_live h.wait ys)) (eq-eqb h.wait y.number is)) (handlers_of side p y.number 0 y.branches))
    (each-weaker (λ (h : Handler). is_live h.wait ys ≡ true) (λ (h : Handler). is_live h.wait (y ∷ ys) ≡ true) (queue side p ys) (λ h is. by h (eqb h.wait y.number) is) (queue_live side p ys)) where
      by : (h : Handler) (b : Bool) → is_live h.wait ys ≡ true → cond b true (is_live h.wait ys) ≡ true
      by h true e = refl
      by h false e = e

-- what an event does to the waits
data Waits (program : ProgramView) (s s2 : State) (e : EventView) : Type 0 where
  kept : s2.waits ≡ s.waits → ((n : ℕ) → completes_wait n e ≡ false) → Waits program s s2 e
  gone : (w : ℕ) → s2.waits ≡ without w s.waits → ((n : ℕ) → completes_wait n e ≡ eqb n w) → Waits program s s2 e
  came : (y : Wait) → s2.waits ≡ s.waits ++ y ∷ [] → ((n : ℕ) → completes_wait n e ≡ false) → is_among y.number s.used ≡ false
      → ((u : ℕ) → y.owner ≡ Some u → (x : Task) × (op : OpView) × (s2.tasks u ≡ Some x) × IsAtOp x.body op × (branches_of op ≡ y.branches)) → Waits program s s2 e

waits_do : (program : ProgramView) (s s2 : State) (e : EventView) → Step program s e s2 → Waits program s s2 e
waits_do program s s2 (made t p what moment) x = kept (waits_of x.7) (λ n. refl)
waits_do program s s2 (spawned t u kind result) x = kept (waits_of x.10) (λ n. refl)
waits_do program s s2 (done t k b a) x = kept (waits_of x.8) (λ n. refl)
waits_do program s s2 (met t k side p v w o) x = gone w (waits_of x.15) (λ n. refl)
waits_do program s s2 (parked t w bs) x = came (record { number = w; owner = Some t; branches = bs }) (waits_of x.8) (λ n. refl) x.7
    (λ u is. let tu : t ≡ u = cc in (record x.0 { mode = waiting w }, x.1, ap (λ (z : ℕ → Option Task). z u) (tasks_of x.8) ∙ ap (update eqb s.tasks t (Some (record x.0 { mode = waiting w }))) (sym tu) ∙ update_here s.tasks t (Some (record x.0 { mode = waiting w })), x.2.2, x.4))
waits_do program s s2 (posted t w p v) x = came (record { number = w; owner = None; branches = put_of p v ∷ [] }) (waits_of x.6) (λ n. refl) x.4 (λ u is. absurd (let k : None ≡ Some u = is in cc))
waits_do program s s2 (settled w k side p v) x = gone w (waits_of x.9) (λ n. refl)
waits_do program s s2 (defaulted t v) x = kept (waits_of x.7) (λ n. refl)
waits_do program s s2 (closed t p) x = kept (waits_of x.4) (λ n. refl)
waits_do program s s2 (registered t name args v) x = kept (waits_of x.6) (λ n. refl)
waits_do program s s2 (printed t line) x = kept (waits_of x.4) (λ n. refl)
waits_do program s s2 (ticked m ports) x = kept (waits_of x.4) (λ n. refl)
waits_do program s s2 (is_over t Ended) x = kept (waits_of x.4) (λ n. refl)
waits_do program s s2 (is_over t (Faulted fault place result)) x = kept (waits_of x.4) (λ n. refl)

module _ (program : ProgramView) (s s2 : State) (e : EventView) (sound : Sound s) (x : Step program s e s2) where
  -- a wait that the event doesn't complete keeps its owner where it is
  owner_stays : (w u : ℕ) → owner_of w s.waits ≡ Some u → completes_wait w e ≡ false → (y : Task) → s.tasks u ≡ Some y → s2.tasks u ≡ Some y
  owner_stays w u own not y there =
      let o = sound.owned w u own in
      let same : o.0 ≡ y = (let k : Some o.0 ≡ Some y = sym o.1 ∙ there in cc) in
      let t = step_told program s s2 sound u y there e x in
      let told : Told program u (waiting w) y e t.0 = subst (λ m. Told program u m y e t.0) (ap (λ (z : Task). z.mode) (sym same) ∙ o.2) t.2 in
      t.1 ∙ ap (λ z. Some z) (told.1 not)

  stays : (side : Side) (p : ℕ) (h : Handler) → completes_wait h.wait e ≡ false → ((u : ℕ) → owner_of h.wait s2.waits ≡ Some u → owner_of h.wait s.waits ≡ Some u) → Stood s side p h → Stood s2 side p h
  stays side p h not back st u own =
      let b = back u own in
      let k = st u b in
      (k.0, k.1, owner_stays h.wait u b not k.0 k.2, k.3, k.4)

  pub stood_kept : AllStood s → AllStood s2
  stood_kept all = by (waits_do program s s2 e x) where
    by : Waits program s s2 e → AllStood s2
    by (kept ws not) side p = subst (λ z. Each (Stood s2 side p) (queue side p z)) (sym ws) (each-weaker (Stood s side p) (Stood s2 side p) (queue side p s.waits) (λ h st. stays side p h (not h.wait) (λ u own. ap (owner_of h.wait) (sym ws) ∙ own) st) (all side p))
    by (gone w ws is) side p = subst (λ z. Each (Stood s2 side p) (queue side p z)) (sym ws) (subst (Each (Stood s2 side p)) (sym (queue_without side p w s.waits)) (each_filtered (Stood s side p) (Stood s2 side p) (other w) (queue side p s.waits) others (all side p))) where
      others : (h : Handler) → other w h ≡ true → Stood s side p h → Stood s2 side p h
      others h ne st =
          let apart : eqb w h.wait ≡ false = not_true (eqb w h.wait) ne in
          stays side p h (is h.wait ∙ ne_eqb h.wait w (λ k. let j : true ≡ false = sym (eq-eqb w h.wait (sym k)) ∙ apart in cc)) (λ u own. sym (owner_else h.wait w s.waits apart) ∙ ap (owner_of h.wait) (sym ws) ∙ own) st where
            not_true : (b : Bool) → not b ≡ true → b ≡ false
            not_true true k = absurd (let j : false ≡ true = k in cc)
            not_true false k = refl
    by (came y ws not fresh owner) side p = subst (λ z. Each (Stood s2 side p) (queue side p z)) (sym ws) (subst (Each (Stood s2 side p)) (sym (queue_joined side p s.waits y)) (each-append (Stood s2 side p) (queue side p s.waits) (handlers side p y.number 0 y.branches) olds news)) where
      -- the new wait's number isn't that of one that was there
      not_live_now : is_live y.number s.waits ≡ false
      not_live_now = live_or (is_live y.number s.waits) refl where
        live_or : (b : Bool) → is_live y.number s.waits ≡ b → is_live y.number s.waits ≡ false
        live_or false k = k
        live_or true k = absurd (let j : true ≡ false = sym (sound.given y.number k) ∙ fresh in cc)

      old : (h : Handler) → Stood s side p h × (is_live h.wait s.waits ≡ true) → Stood s2 side p h
      old h both = at (eqb h.wait y.number) refl where
        at : (b : Bool) → eqb h.wait y.number ≡ b → Stood s2 side p h
        at false ne = stays side p h (not h.wait) (λ u own. sym (owner_before h.wait s.waits y ne) ∙ ap (owner_of h.wait) (sym ws) ∙ own) both.0
        at true is = absurd (let j : true ≡ false = sym both.1 ∙ ap (λ n. is_live n s.waits) (eqb-true h.wait y.number is) ∙ not_live_now in cc)

      olds : Each (Stood s2 side p) (queue side p s.waits)
      olds = each-weaker (λ h. Stood s side p h × (is_live h.wait s.waits ≡ true)) (Stood s2 side p) (queue side p s.waits) old (each_both (Stood s side p) (λ h. is_live h.wait s.waits ≡ true) (queue side p s.waits) (all side p) (queue_live side p s.waits))

      new : (h : Handler) → IsBranch side p y.number y.branches h → Stood s2 side p h
      new h i u own =
          let k = owner u (sym (owner_joined s.waits y not_live_now) ∙ ap (λ n. owner_of n (s.waits ++ y ∷ [])) (sym i.0) ∙ ap (owner_of h.wait) (sym ws) ∙ own) in
          (k.0, k.1, k.2, k.3, ap (λ bs. slice_get bs h.branch) k.4 ∙ i.1)

      news : Each (Stood s2 side p) (handlers side p y.number 0 y.branches)
      news = each-weaker (IsBranch side p y.number y.branches) (Stood s2 side p) (handlers side p y.number 0 y.branches) new (handlers_at side p y.number 0 y.branches y.branches (λ j b at. ap (slice_get y.branches) (let q : 0 + j ≡ j = omega arith in q) ∙ at))
