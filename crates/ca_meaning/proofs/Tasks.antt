-- What is kept of every task, and that tasks wait exactly on the waits that they own.
use Rattle.std.proofs.Common.{◌≡◌, ◌≢◌, ℕ, suc, ◌+◌, ◌≤◌, List, [], ◌∷◌, ◌++◌, refl, sym, ap, ◌∙◌, subst, arith, Bool, true, false, cond, Option, Some, None, eqb, eqb-true, eq-eqb, ne_eqb}
use Rattle.std.specs.Map.{update}
use Rattle.std.proofs.lemmas.Map.{update_here, update_apart}
use Rattle.ca_value.specs.Tree.{Tree}
use Rattle.ca_term.specs.declared.event.Ending.TheVariants.{Ended, Faulted}
use Rattle.ca_term.specs.Operation.{SeedView, spawning}
use Rattle.ca_term.specs.Program.{ProgramView}
use Rattle.ca_term.specs.Event.{EventView, made, spawned, done, met, parked, posted, settled, defaulted, closed, registered, printed, ticked, over as is_over}
use Rattle.ca_meaning.specs.Body.{local, at}
use Rattle.ca_meaning.specs.Wait.{Wait, without, is_live, owner_of, is_among}
use Rattle.ca_meaning.specs.Task.{TaskBody, script, system_task, body_at, body_fill, BodyRest, new_task}
use Rattle.ca_meaning.specs.State.{State, Task, Tasks, running, waiting, over, runs}
use Rattle.ca_meaning.specs.Going.{IsAtOp, Goes, Wakes}
use Rattle.ca_meaning.specs.Steps.{Step}
use Rattle.ca_meaning.specs.Sound.{Bounded, AllOwned, AllWaited}
use Rattle.ca_meaning.proofs.Systems.{system_rested}
use Rattle.ca_meaning.proofs.Waits.{owner_gone, owner_else, owner_before, owner_joined, owner_live}

abbrev pub tasks_of : {s t : State} → s ≡ t → s.tasks ≡ t.tasks
tasks_of e = ap (λ (z : State). z.tasks) e

-- a body after its local steps stands at none
pub rest_rested : (program : ProgramView) (b c : TaskBody) → BodyRest program b c → body_at c ≢ local
rest_rested program (script b) c r e = r.1.over (ap body_at (sym r.2) ∙ e)
rest_rested program (system_task b) c r e = system_rested program b r.0 r.1 (ap body_at (sym r.2) ∙ e)

-- what is kept of each body: by an answer and what follows it, and by the start of a task
pub record Kept (program : ProgramView) (P : TaskBody → Type 0) : Type 0 where
  pub goes : (b c : TaskBody) (v : Tree) → P b → BodyRest program (body_fill v b) c → P c
  pub starts : (b c : TaskBody) (seed : SeedView) → P b → IsAtOp b (spawning seed) → BodyRest program (new_task program seed) c → P c

abbrev pub AllBodies : (TaskBody → Type 0) → Tasks → Type 0
AllBodies P f = (u : ℕ) (x : Task) → f u ≡ Some x → P x.body

-- tasks g are tasks f with some more set, of each of which P holds
pub data Puts (P : TaskBody → Type 0) (f : Tasks) : Tasks → Type 0 where
  nothing : {g : Tasks} → g ≡ f → Puts P f g
  one : {g : Tasks} (m : Tasks) → Puts P f m → (t : ℕ) (y : Task) → P y.body → g ≡ update eqb m t (Some y) → Puts P f g

all_more : (P : TaskBody → Type 0) (f : Tasks) (t : ℕ) (y : Task) → P y.body → AllBodies P f → AllBodies P (update eqb f t (Some y))
all_more P f t y py all u x e = by (eqb t u) e where
  by : (b : Bool) → cond b (Some y) (f u) ≡ Some x → P x.body
  by true e = subst (λ (z : Task). P z.body) (let k : y ≡ x = cc in k) py
  by false e = all u x e

pub puts_all : (P : TaskBody → Type 0) (f g : Tasks) → Puts P f g → AllBodies P f → AllBodies P g
puts_all P f g (nothing e) all = subst (AllBodies P) (sym e) all
puts_all P f g (one m p t y py e) all = subst (AllBodies P) (sym e) (all_more P m t y py (puts_all P f m p all))

module _ (program : ProgramView) (P : TaskBody → Type 0) (kept : Kept program P) where
  goes_puts : (f m g : Tasks) (t : ℕ) (x : Task) (v : Tree) → P x.body → Puts P f m → Goes program m t x v g → Puts P f g
  goes_puts f m g t x v px p q = one m p t (runs x.result q.0) (kept.goes x.body q.0 v px q.1) q.2

  wakes_puts : (o : Option ℕ) (f m g : Tasks) (w p : ℕ) (v : Tree) → AllBodies P f → Puts P f m → Wakes program o m w p v g → Puts P f g
  wakes_puts None f m g w p v all q e = subst (Puts P f) (sym e) q
  wakes_puts (Some u) f m g w p v all q x = goes_puts f m g u x.0 _ (puts_all P f m q all u x.0 x.1) q x.3

  pub step_puts : (s s2 : State) (e : EventView) → AllBodies P s.tasks → Step program s e s2 → Puts P s.tasks s2.tasks
  step_puts s s2 (made t p what moment) r x = subst (Puts P s.tasks) (sym (tasks_of x.7)) (goes_puts s.tasks s.tasks x.1 t x.0 _ (r t x.0 x.2.0) (nothing refl) x.6)
  step_puts s s2 (spawned t u kind result) r x = one x.2 (goes_puts s.tasks s.tasks x.2 t x.0 _ (r t x.0 x.4.0) (nothing refl) x.8) u (runs result x.3) (kept.starts x.0.body x.3 x.1 (r t x.0 x.4.0) x.4.2 x.9) (tasks_of x.10)
  step_puts s s2 (done t k b a) r x = subst (Puts P s.tasks) (sym (tasks_of x.8)) (goes_puts s.tasks s.tasks x.2 t x.0 _ (r t x.0 x.4.0) (nothing refl) x.7)
  step_puts s s2 (met t k side p v w o) r x = subst (Puts P s.tasks) (sym (tasks_of x.15)) (wakes_puts (owner_of w s.waits) s.tasks x.4 x.5 w p _ r (goes_puts s.tasks s.tasks x.4 t x.0 _ (r t x.0 x.6.0) (nothing refl) x.13) x.14)
  step_puts s s2 (parked t w bs) r x = one s.tasks (nothing refl) t (record x.0 { mode = waiting w }) (r t x.0 x.2.0) (tasks_of x.8)
  step_puts s s2 (posted t w p v) r x = subst (Puts P s.tasks) (sym (tasks_of x.6)) (goes_puts s.tasks s.tasks x.1 t x.0 _ (r t x.0 x.2.0) (nothing refl) x.5)
  step_puts s s2 (settled w k side p v) r x = subst (Puts P s.tasks) (sym (tasks_of x.9)) (wakes_puts (owner_of w s.waits) s.tasks s.tasks x.3 w p _ r (nothing refl) x.8)
  step_puts s s2 (defaulted t v) r x = subst (Puts P s.tasks) (sym (tasks_of x.7)) (goes_puts s.tasks s.tasks x.2 t x.0 _ (r t x.0 x.3.0) (nothing refl) x.6)
  step_puts s s2 (closed t p) r x = subst (Puts P s.tasks) (sym (tasks_of x.4)) (goes_puts s.tasks s.tasks x.1 t x.0 _ (r t x.0 x.2.0) (nothing refl) x.3)
  step_puts s s2 (registered t name args v) r x = subst (Puts P s.tasks) (sym (tasks_of x.6)) (goes_puts s.tasks s.tasks x.2 t x.0 _ (r t x.0 x.3.0) (nothing refl) x.5)
  step_puts s s2 (printed t line) r x = subst (Puts P s.tasks) (sym (tasks_of x.4)) (goes_puts s.tasks s.tasks x.1 t x.0 _ (r t x.0 x.2.0) (nothing refl) x.3)
  step_puts s s2 (ticked m ports) r x = nothing (tasks_of x.4)
  step_puts s s2 (is_over t Ended) r x = one s.tasks (nothing refl) t (record x.0 { mode = over }) (r t x.0 x.2.0) (tasks_of x.4)
  step_puts s s2 (is_over t (Faulted fault place result)) r x = one s.tasks (nothing refl) t (record x.0 { mode = over }) (r t x.0 x.1.0) (tasks_of x.4)

-- a body at rest
abbrev pub IsRested : TaskBody → Type 0
IsRested b = body_at b ≢ local

pub rested_kept : (program : ProgramView) → Kept program IsRested
rested_kept program = record {
  goes = λ b c v h r. rest_rested program (body_fill v b) c r;
  starts = λ b c seed h at r. rest_rested program (new_task program seed) c r;
}

pub bounded_more : {A : Type 0} (f : ℕ → Option A) (k : ℕ) (v : Option A) → Bounded f → Bounded (update eqb f k v)
bounded_more f k v b = (b.0 + suc k, λ m le. update_apart f k v m (λ (e : m ≡ k). let j : b.0 + suc k ≤ m = le in omega (arith, j, e)) ∙ b.1 m (let j : b.0 + suc k ≤ m = le in omega (arith, j)))

pub puts_bounded : {P : TaskBody → Type 0} (f g : Tasks) → Puts P f g → Bounded f → Bounded g
puts_bounded f g (nothing e) all = subst (λ (z : Tasks). Bounded z) (sym e) all
puts_bounded f g (one m p t y ny e) all = subst (λ (z : Tasks). Bounded z) (sym e) (bounded_more m t (Some y) (puts_bounded f m p all))

-- owners
abbrev pub Owns : Tasks → List Wait → Type 0
Owns tasks ws = AllOwned tasks ws × AllWaited tasks ws

abbrev pub IsntWaiting : Task → Type 0
IsntWaiting y = (w : ℕ) → y.mode ≡ waiting w → ⊥

abbrev pub NobodyWaits : Tasks → ℕ → Type 0
NobodyWaits f t = (x : Task) → f t ≡ Some x → IsntWaiting x

running_doesnt : {G : Type 0} (w : ℕ) → running ≡ waiting w → G
running_doesnt w e = absurd cc

pub runner_doesnt : (f : Tasks) (t : ℕ) (x : Task) → f t ≡ Some x → x.mode ≡ running → NobodyWaits f t
runner_doesnt f t x e r y is w m = running_doesnt w (sym r ∙ ap (λ (z : Task). z.mode) (let k : Some x ≡ Some y = sym e ∙ is in let j : x ≡ y = cc in j) ∙ m)

nobody_there : (f : Tasks) (t : ℕ) → f t ≡ None → NobodyWaits f t
nobody_there f t e y is w m = let k : None ≡ Some y = sym e ∙ is in absurd cc

-- a task that doesn't wait changes into one that doesn't
pub owns_changed : (f : Tasks) (t : ℕ) (y : Task) (ws : List Wait) → NobodyWaits f t → IsntWaiting y → Owns f ws → Owns (update eqb f t (Some y)) ws
owns_changed f t y ws nf ny o = (owned, waited) where
  owned : AllOwned (update eqb f t (Some y)) ws
  owned w u e = let k = o.0 w u e in (k.0, update_apart f t (Some y) u (λ (is : u ≡ t). nf k.0 (ap f (sym is) ∙ k.1) w k.2) ∙ k.1, k.2)

  waited : AllWaited (update eqb f t (Some y)) ws
  waited w u x e m = by (eqb t u) e where
    by : (b : Bool) → cond b (Some y) (f u) ≡ Some x → owner_of w ws ≡ Some u
    by true e = absurd (ny w (ap (λ (z : Task). z.mode) (let k : y ≡ x = cc in k) ∙ m))
    by false e = o.1 w u x e m

same_number : (v w : ℕ) → waiting v ≡ waiting w → v ≡ w
same_number v w e = cc

some_number : (v w : ℕ) → Some v ≡ Some w → v ≡ w
some_number v w e = cc

apart_of : (v w : ℕ) → eqb w v ≡ false → v ≡ w → ⊥
apart_of v w ne e = let k : true ≡ false = sym (eq-eqb w v (sym e)) ∙ ne in cc

-- a wait without an owner is taken out
owns_less : (f : Tasks) (w : ℕ) (ws : List Wait) → owner_of w ws ≡ None → Owns f ws → Owns f (without w ws)
owns_less f w ws none o = (owned, waited) where
  owned : AllOwned f (without w ws)
  owned v u e = by (eqb w v) refl where
    by : (b : Bool) → eqb w v ≡ b → (x : Task) × (f u ≡ Some x) × (x.mode ≡ waiting v)
    by true is = absurd (let k : None ≡ Some u = sym (owner_gone w ws) ∙ ap (λ n. owner_of n (without w ws)) (eqb-true w v is) ∙ e in cc)
    by false is = o.0 v u (sym (owner_else v w ws is) ∙ e)

  waited : AllWaited f (without w ws)
  waited v u x e m = by (eqb w v) refl where
    by : (b : Bool) → eqb w v ≡ b → owner_of v (without w ws) ≡ Some u
    by true is = absurd (let k : None ≡ Some u = sym none ∙ ap (λ n. owner_of n ws) (eqb-true w v is) ∙ o.1 v u x e m in cc)
    by false is = owner_else v w ws is ∙ o.1 v u x e m

-- a wait is taken out, and its owner doesn't wait any more
owns_woken : (f : Tasks) (w u : ℕ) (x y : Task) (ws : List Wait) → owner_of w ws ≡ Some u → f u ≡ Some x → x.mode ≡ waiting w → IsntWaiting y → Owns f ws → Owns (update eqb f u (Some y)) (without w ws)
owns_woken f w u x y ws ow at m ny o = (owned, waited) where
  owned : AllOwned (update eqb f u (Some y)) (without w ws)
  owned v t e = by (eqb w v) refl where
    by : (b : Bool) → eqb w v ≡ b → (z : Task) × (update eqb f u (Some y) t ≡ Some z) × (z.mode ≡ waiting v)
    by true is = absurd (let k : None ≡ Some t = sym (owner_gone w ws) ∙ ap (λ n. owner_of n (without w ws)) (eqb-true w v is) ∙ e in cc)
    by false is =
        let k = o.0 v t (sym (owner_else v w ws is) ∙ e) in
        (k.0, update_apart f u (Some y) t (λ (tu : t ≡ u). apart_of v w is (same_number v w (sym k.2 ∙ ap (λ (z : Task). z.mode) (let j : Some k.0 ≡ Some x = sym k.1 ∙ ap f tu ∙ at in let i : k.0 ≡ x = cc in i) ∙ m))) ∙ k.1, k.2)

  waited : AllWaited (update eqb f u (Some y)) (without w ws)
  waited v t z e n = by (eqb u t) refl e where
    here : (b : Bool) → eqb u t ≡ false → eqb w v ≡ b → f t ≡ Some z → owner_of v (without w ws) ≡ Some t
    here true ut is e = absurd (apart_of t u ut (some_number t u (sym (ap (λ n. owner_of n ws) (eqb-true w v is) ∙ o.1 v t z e n) ∙ ow)))
    here false ut is e = owner_else v w ws is ∙ o.1 v t z e n

    by : (b : Bool) → eqb u t ≡ b → cond b (Some y) (f t) ≡ Some z → owner_of v (without w ws) ≡ Some t
    by true is e = absurd (ny v (ap (λ (k : Task). k.mode) (let k : y ≡ z = cc in k) ∙ n))
    by false is e = here (eqb w v) is refl e

-- a new wait without an owner
owns_posted : (f : Tasks) (x : Wait) (ws : List Wait) → is_live x.number ws ≡ false → x.owner ≡ None → Owns f ws → Owns f (ws ++ x ∷ [])
owns_posted f x ws new none o = (owned, waited) where
  owned : AllOwned f (ws ++ x ∷ [])
  owned v u e = by (eqb v x.number) refl where
    by : (b : Bool) → eqb v x.number ≡ b → (y : Task) × (f u ≡ Some y) × (y.mode ≡ waiting v)
    by true is = absurd (let k : None ≡ Some u = sym none ∙ sym (owner_joined ws x new) ∙ ap (λ n. owner_of n (ws ++ x ∷ [])) (sym (eqb-true v x.number is)) ∙ e in cc)
    by false is = o.0 v u (sym (owner_before v ws x is) ∙ e)

  waited : AllWaited f (ws ++ x ∷ [])
  waited v u y e m = let k = o.1 v u y e m in owner_before v ws x (ne_eqb v x.number (λ is. let j : true ≡ false = sym (owner_live v u ws k) ∙ ap (λ n. is_live n ws) is ∙ new in absurd cc)) ∙ k

-- a new wait of a task that didn't wait
owns_parked : (f : Tasks) (t : ℕ) (y : Task) (x : Wait) (ws : List Wait) → NobodyWaits f t → is_live x.number ws ≡ false → x.owner ≡ Some t → y.mode ≡ waiting x.number → Owns f ws → Owns (update eqb f t (Some y)) (ws ++ x ∷ [])
owns_parked f t y x ws nf new mine m o = (owned, waited) where
  owned : AllOwned (update eqb f t (Some y)) (ws ++ x ∷ [])
  owned v u e = by (eqb v x.number) refl where
    by : (b : Bool) → eqb v x.number ≡ b → (z : Task) × (update eqb f t (Some y) u ≡ Some z) × (z.mode ≡ waiting v)
    by true is =
        let tu : t ≡ u = some_number t u (sym mine ∙ sym (owner_joined ws x new) ∙ ap (λ n. owner_of n (ws ++ x ∷ [])) (sym (eqb-true v x.number is)) ∙ e) in
        (y, ap (update eqb f t (Some y)) (sym tu) ∙ update_here f t (Some y), m ∙ ap waiting (sym (eqb-true v x.number is)))
    by false is = let k = o.0 v u (sym (owner_before v ws x is) ∙ e) in (k.0, update_apart f t (Some y) u (λ (ut : u ≡ t). nf k.0 (ap f (sym ut) ∙ k.1) v k.2) ∙ k.1, k.2)

  waited : AllWaited (update eqb f t (Some y)) (ws ++ x ∷ [])
  waited v u z e n = by (eqb t u) refl e where
    by : (b : Bool) → eqb t u ≡ b → cond b (Some y) (f u) ≡ Some z → owner_of v (ws ++ x ∷ []) ≡ Some u
    by true is e =
        let vx : v ≡ x.number = same_number v x.number (sym n ∙ ap (λ (k : Task). k.mode) (let k : z ≡ y = cc in k) ∙ m) in
        ap (λ n. owner_of n (ws ++ x ∷ [])) vx ∙ owner_joined ws x new ∙ mine ∙ ap (λ n. Some n) (eqb-true t u is)
    by false is e = let k = o.1 v u z e n in owner_before v ws x (ne_eqb v x.number (λ is. let j : true ≡ false = sym (owner_live v u ws k) ∙ ap (λ n. is_live n ws) is ∙ new in absurd cc)) ∙ k

moved : (f g : Tasks) (ws vs : List Wait) → g ≡ f → vs ≡ ws → Owns f ws → Owns g vs
moved f g ws vs a b o = subst (λ z. Owns z vs) (sym a) (subst (Owns f) (sym b) o)

runs_isnt : (r : Option ℕ) (b : TaskBody) → IsntWaiting (runs r b)
runs_isnt r b w e = running_doesnt w e

over_isnt : (x : Task) → IsntWaiting (record x { mode = over })
over_isnt x w e = let k : over ≡ waiting w = e in cc

goes_owns : (program : ProgramView) (f g : Tasks) (t : ℕ) (x : Task) (v : Tree) (ws : List Wait) → NobodyWaits f t → Goes program f t x v g → Owns f ws → Owns g ws
goes_owns program f g t x v ws nf q o = moved (update eqb f t (Some (runs x.result q.0))) g ws ws q.2 refl (owns_changed f t (runs x.result q.0) ws nf (runs_isnt x.result q.0) o)

wakes_owns : (program : ProgramView) (o : Option ℕ) (f g : Tasks) (w p : ℕ) (v : Tree) (ws : List Wait) → owner_of w ws ≡ o → Wakes program o f w p v g → Owns f ws → Owns g (without w ws)
wakes_owns program None f g w p v ws ow e o = moved f g (without w ws) (without w ws) e refl (owns_less f w ws ow o)
wakes_owns program (Some u) f g w p v ws ow x o = moved (update eqb f u (Some (runs x.0.result x.3.0))) g (without w ws) (without w ws) x.3.2 refl (owns_woken f w u x.0 (runs x.0.result x.3.0) ws ow x.1 x.2 (runs_isnt x.0.result x.3.0) o)

abbrev waits_of : {s t : State} → s ≡ t → s.waits ≡ t.waits
waits_of e = ap (λ (z : State). z.waits) e

-- a number that wasn't given isn't there
new_live : (w : ℕ) (ws : List Wait) (used : List ℕ) → ((w : ℕ) → is_live w ws ≡ true → is_among w used ≡ true) → is_among w used ≡ false → is_live w ws ≡ false
new_live w ws used g f = by (is_live w ws) refl where
  by : (b : Bool) → is_live w ws ≡ b → is_live w ws ≡ false
  by false e = e
  by true e = absurd (let k : true ≡ false = sym (g w e) ∙ f in cc)

pub step_owns : (program : ProgramView) (s s2 : State) (e : EventView) → ((w : ℕ) → is_live w s.waits ≡ true → is_among w s.used ≡ true) → Step program s e s2 → Owns s.tasks s.waits → Owns s2.tasks s2.waits
step_owns program s s2 (made t p what moment) g x o = moved x.1 s2.tasks s.waits s2.waits (tasks_of x.7) (waits_of x.7) (goes_owns program s.tasks x.1 t x.0 _ s.waits (runner_doesnt s.tasks t x.0 x.2.0 x.2.1) x.6 o)
step_owns program s s2 (spawned t u kind result) g x o = moved (update eqb x.2 u (Some (runs result x.3))) s2.tasks s.waits s2.waits (tasks_of x.10) (waits_of x.10)
    (owns_changed x.2 u (runs result x.3) s.waits (nobody_there x.2 u (ap (λ (z : Tasks). z u) x.8.2 ∙ update_apart s.tasks t (Some (runs x.0.result x.8.0)) u (λ (ut : u ≡ t). let k : None ≡ Some x.0 = sym x.5 ∙ ap s.tasks ut ∙ x.4.0 in absurd cc) ∙ x.5)) (runs_isnt result x.3)
    (goes_owns program s.tasks x.2 t x.0 _ s.waits (runner_doesnt s.tasks t x.0 x.4.0 x.4.1) x.8 o))
step_owns program s s2 (done t k b a) g x o = moved x.2 s2.tasks s.waits s2.waits (tasks_of x.8) (waits_of x.8) (goes_owns program s.tasks x.2 t x.0 _ s.waits (runner_doesnt s.tasks t x.0 x.4.0 x.4.1) x.7 o)
step_owns program s s2 (met t k side p v w h) g x o = moved x.5 s2.tasks (without w s.waits) s2.waits (tasks_of x.15) (waits_of x.15) (wakes_owns program (owner_of w s.waits) x.4 x.5 w p _ s.waits refl x.14 (goes_owns program s.tasks x.4 t x.0 _ s.waits (runner_doesnt s.tasks t x.0 x.6.0 x.6.1) x.13 o))
step_owns program s s2 (parked t w bs) g x o = moved (update eqb s.tasks t (Some (record x.0 { mode = waiting w }))) s2.tasks (s.waits ++ record { number = w; owner = Some t; branches = bs } ∷ []) s2.waits (tasks_of x.8) (waits_of x.8)
    (owns_parked s.tasks t (record x.0 { mode = waiting w }) (record { number = w; owner = Some t; branches = bs }) s.waits (runner_doesnt s.tasks t x.0 x.2.0 x.2.1) (new_live w s.waits s.used g x.7) refl refl o)
step_owns program s s2 (posted t w p v) g x o = moved x.1 s2.tasks (s.waits ++ _ ∷ []) s2.waits (tasks_of x.6) (waits_of x.6) (owns_posted x.1 _ s.waits (new_live w s.waits s.used g x.4) refl (goes_owns program s.tasks x.1 t x.0 _ s.waits (runner_doesnt s.tasks t x.0 x.2.0 x.2.1) x.5 o))
step_owns program s s2 (settled w k side p v) g x o = moved x.3 s2.tasks (without w s.waits) s2.waits (tasks_of x.9) (waits_of x.9) (wakes_owns program (owner_of w s.waits) s.tasks x.3 w p _ s.waits refl x.8 o)
step_owns program s s2 (defaulted t v) g x o = moved x.2 s2.tasks s.waits s2.waits (tasks_of x.7) (waits_of x.7) (goes_owns program s.tasks x.2 t x.0 _ s.waits (runner_doesnt s.tasks t x.0 x.3.0 x.3.1) x.6 o)
step_owns program s s2 (closed t p) g x o = moved x.1 s2.tasks s.waits s2.waits (tasks_of x.4) (waits_of x.4) (goes_owns program s.tasks x.1 t x.0 _ s.waits (runner_doesnt s.tasks t x.0 x.2.0 x.2.1) x.3 o)
step_owns program s s2 (registered t name args v) g x o = moved x.2 s2.tasks s.waits s2.waits (tasks_of x.6) (waits_of x.6) (goes_owns program s.tasks x.2 t x.0 _ s.waits (runner_doesnt s.tasks t x.0 x.3.0 x.3.1) x.5 o)
step_owns program s s2 (printed t line) g x o = moved x.1 s2.tasks s.waits s2.waits (tasks_of x.4) (waits_of x.4) (goes_owns program s.tasks x.1 t x.0 _ s.waits (runner_doesnt s.tasks t x.0 x.2.0 x.2.1) x.3 o)
step_owns program s s2 (ticked m ports) g x o = moved s.tasks s2.tasks s.waits s2.waits (tasks_of x.4) (waits_of x.4) o
step_owns program s s2 (is_over t Ended) g x o = moved (update eqb s.tasks t (Some (record x.0 { mode = over }))) s2.tasks s.waits s2.waits (tasks_of x.4) (waits_of x.4) (owns_changed s.tasks t (record x.0 { mode = over }) s.waits (runner_doesnt s.tasks t x.0 x.2.0 x.2.1) (over_isnt x.0) o)
step_owns program s s2 (is_over t (Faulted fault place result)) g x o = moved (update eqb s.tasks t (Some (record x.0 { mode = over }))) s2.tasks s.waits s2.waits (tasks_of x.4) (waits_of x.4) (owns_changed s.tasks t (record x.0 { mode = over }) s.waits (runner_doesnt s.tasks t x.0 x.1.0 x.1.1) (over_isnt x.0) o)
