-- A journal tells on which wait a task waits; a task that isn't there did nothing.
use Rattle.std.proofs.Common.{◌≡◌, ◌≢◌, ◌⊎◌, inl, inr, ℕ, List, [], ◌∷◌, ◌++◌, refl, sym, ap, ◌∙◌, subst, Bool, true, false, cond, Option, Some, None, eqb, eqb-true, eq-eqb, append_assoc, append-nil}
use Rattle.std.specs.Map.{update}
use Rattle.std.proofs.lemmas.Map.{update_here, update_apart}
use Rattle.ca_value.specs.Tree.{Tree}
use Rattle.ca_term.specs.declared.event.Ending.TheVariants.{Ended, Faulted}
use Rattle.ca_term.specs.declared.event.TaskKind.{TaskKind}
use Rattle.ca_term.specs.Program.{ProgramView}
use Rattle.ca_term.specs.Event.{EventView, made, spawned, done, met, parked, posted, settled, defaulted, closed, registered, printed, ticked, over as is_over}
use Rattle.ca_meaning.specs.Wait.{owner_of}
use Rattle.ca_meaning.specs.Task.{TaskBody}
use Rattle.ca_meaning.specs.State.{State, Task, Tasks, Mode, running, waiting, over, runs, Opening, opening_state}
use Rattle.ca_meaning.specs.Going.{Wakes}
use Rattle.ca_meaning.specs.Steps.{Step, Steps}
use Rattle.ca_meaning.specs.Sound.{Sound}
use Rattle.ca_meaning.specs.History.{completes_wait}
use Rattle.ca_meaning.specs.EndsLaw.{is_of}
use Rattle.ca_meaning.specs.WaitLaw.{OwnEvent, Told}
use Rattle.ca_laws.specs.Deeds.{Deed, deed_on, deed, wait_after, with_deed, deeds_from, wait_from, deeds, wait_in}
use Rattle.ca_meaning.proofs.Tasks.{tasks_of}
use Rattle.ca_meaning.proofs.Named.{Known, step_known}
use Rattle.ca_meaning.proofs.ChannelLaws.{opening_known}
use Rattle.ca_meaning.proofs.WaitLaws.{step_told}
use Rattle.ca_laws.proofs.Acts.{wait_of}
use Rattle.ca_laws.proofs.Stood.{AllStood, stood_kept}

abbrev pub and_deed : List Deed → Option Deed → List Deed
and_deed ds o = ds ++ with_deed o []

pub deeds_more : (t : ℕ) (o : Option ℕ) (es : List EventView) (e : EventView) → deeds_from t o (es ++ e ∷ []) ≡ and_deed (deeds_from t o es) (deed t (wait_from t o es) e)
deeds_more t o [] e = refl
deeds_more t o (f ∷ es) e = by (deed t o f) (deeds_more t (wait_after t f o) es e) where
  by : (d : Option Deed) → deeds_from t (wait_after t f o) (es ++ e ∷ []) ≡ and_deed (deeds_from t (wait_after t f o) es) (deed t (wait_from t (wait_after t f o) es) e)
      → with_deed d (deeds_from t (wait_after t f o) (es ++ e ∷ [])) ≡ and_deed (with_deed d (deeds_from t (wait_after t f o) es)) (deed t (wait_from t (wait_after t f o) es) e)
  by None r = r
  by (Some d) r = ap (λ z. d ∷ z) r

pub wait_more : (t : ℕ) (o : Option ℕ) (es : List EventView) (e : EventView) → wait_from t o (es ++ e ∷ []) ≡ wait_after t e (wait_from t o es)
wait_more t o [] e = refl
wait_more t o (f ∷ es) e = wait_more t (wait_after t f o) es e

module _ (program : ProgramView) (t : ℕ) (x y : Task) where
  no_other : {G : Type 0} → (b : Bool) → b ≡ true → b ≡ false → G
  no_other b e f = let k : true ≡ false = sym e ∙ f in absurd cc

  not_parked : (e : EventView) → is_of t e ≡ false → wait_after t e None ≡ None
  not_parked (parked u w bs) f = ap (λ b. cond b (Some w) None) f
  not_parked (made u p what m) f = refl
  not_parked (spawned u n kind r) f = refl
  not_parked (done u k b a) f = refl
  not_parked (met u k side p v w j) f = refl
  not_parked (posted u w p v) f = refl
  not_parked (settled w k side p v) f = refl
  not_parked (defaulted u v) f = refl
  not_parked (closed u p) f = refl
  not_parked (registered u name args v) f = refl
  not_parked (printed u line) f = refl
  not_parked (ticked m ports) f = refl
  not_parked (is_over u how) f = refl

  stays : (n : ℕ) (e : EventView) → is_of t e ≡ false → completes_wait n e ≡ false → wait_after t e (Some n) ≡ Some n
  stays n (parked u w bs) f c = ap (λ b. cond b (Some w) (Some n)) f
  stays n (met u k side p v w j) f c = ap (λ b. cond b None (Some n)) c
  stays n (settled w k side p v) f c = ap (λ b. cond b None (Some n)) c
  stays n (made u p what m) f c = refl
  stays n (spawned u k kind r) f c = refl
  stays n (done u k b a) f c = refl
  stays n (posted u w p v) f c = refl
  stays n (defaulted u v) f c = refl
  stays n (closed u p) f c = refl
  stays n (registered u name args v) f c = refl
  stays n (printed u line) f c = refl
  stays n (ticked m ports) f c = refl
  stays n (is_over u how) f c = refl

  gone : (n : ℕ) (e : EventView) → completes_wait n e ≡ true → wait_after t e (Some n) ≡ None
  gone n (met u k side p v w j) c = ap (λ b. cond b None (Some n)) c
  gone n (settled w k side p v) c = ap (λ b. cond b None (Some n)) c
  gone n (parked u w bs) c = no_other false c refl
  gone n (made u p what m) c = no_other false c refl
  gone n (spawned u k kind r) c = no_other false c refl
  gone n (done u k b a) c = no_other false c refl
  gone n (posted u w p v) c = no_other false c refl
  gone n (defaulted u v) c = no_other false c refl
  gone n (closed u p) c = no_other false c refl
  gone n (registered u name args v) c = no_other false c refl
  gone n (printed u line) c = no_other false c refl
  gone n (ticked m ports) c = no_other false c refl
  gone n (is_over u how) c = no_other false c refl

  own_wait : (e : EventView) → is_of t e ≡ true → OwnEvent program x e y → wait_of y.mode ≡ wait_after t e None
  own_wait (parked u w bs) i k = ap (λ (z : Task). wait_of z.mode) k.1 ∙ ap (λ b. cond b (Some w) None) (sym i)
  own_wait (done u j b a) i k = ap (λ (z : Task). wait_of z.mode) k.1.3
  own_wait (met u j side p v w o) i k = ap (λ (z : Task). wait_of z.mode) k.1.3
  own_wait (defaulted u v) i k = ap (λ (z : Task). wait_of z.mode) k.1.3
  own_wait (posted u w p v) i k = ap (λ (z : Task). wait_of z.mode) k.1.3
  own_wait (made u p what m) i k = ap (λ (z : Task). wait_of z.mode) k.1.3
  own_wait (spawned u n kind r) i k = ap (λ (z : Task). wait_of z.mode) k.1.3
  own_wait (closed u p) i k = ap (λ (z : Task). wait_of z.mode) k.1.3
  own_wait (registered u name args v) i k = ap (λ (z : Task). wait_of z.mode) k.1.3
  own_wait (printed u line) i k = ap (λ (z : Task). wait_of z.mode) k.1.3
  own_wait (is_over u Ended) i k = ap (λ (z : Task). wait_of z.mode) k.1
  own_wait (is_over u (Faulted fault place result)) i k = ap (λ (z : Task). wait_of z.mode) k
  own_wait (settled w j side p v) i k = absurd k
  own_wait (ticked m ports) i k = absurd k

  pub told_wait : (e : EventView) (m : Mode) → x.mode ≡ m → Told program t m x e y → wait_of y.mode ≡ wait_after t e (wait_of m)
  told_wait e running xm k = by (is_of t e) refl where
    by : (b : Bool) → is_of t e ≡ b → wait_of y.mode ≡ wait_after t e None
    by false f = ap (λ (z : Task). wait_of z.mode) (k.0 f) ∙ ap wait_of xm ∙ sym (not_parked e f)
    by true f = own_wait e f (k.1 f)
  told_wait e (waiting n) xm k = by (completes_wait n e) refl where
    by : (b : Bool) → completes_wait n e ≡ b → wait_of y.mode ≡ wait_after t e (Some n)
    by false c = ap (λ (z : Task). wait_of z.mode) (k.1 c) ∙ ap wait_of xm ∙ sym (stays n e k.0 c)
    by true c = ap (λ (z : Task). wait_of z.mode) (k.2 c).3 ∙ sym (gone n e c)
  told_wait e over xm k = ap (λ (z : Task). wait_of z.mode) k.1 ∙ ap wait_of xm ∙ sym (not_parked e k.0)

-- a task that isn't there
module _ (program : ProgramView) (s s2 : State) (t : ℕ) (absent : s.tasks t ≡ None) where
  pub apart_from : (u : ℕ) (x : Task) → s.tasks u ≡ Some x → eqb u t ≡ false
  apart_from u x at = by (eqb u t) refl where
    by : (b : Bool) → eqb u t ≡ b → eqb u t ≡ false
    by false k = k
    by true k = absurd (let j : None ≡ Some x = sym absent ∙ ap s.tasks (sym (eqb-true u t k)) ∙ at in cc)

  away : (u : ℕ) (x : Task) → s.tasks u ≡ Some x → t ≢ u
  away u x at k = let j : None ≡ Some x = sym absent ∙ ap s.tasks k ∙ at in cc

  none : (u : ℕ) (x : Task) (d : Deed) → s.tasks u ≡ Some x → cond (eqb u t) (Some d) None ≡ None
  none u x d at = ap (λ b. cond b (Some d) None) (apart_from u x at)

  pub no_deed : (e : EventView) → Step program s e s2 → (deed t None e ≡ None) × (wait_after t e None ≡ None)
  no_deed (made u p what moment) k = (none u k.0 _ k.2.0, refl)
  no_deed (spawned u n kind result) k = (none u k.0 _ k.4.0, refl)
  no_deed (done u j b a) k = (none u k.0 _ k.4.0, refl)
  no_deed (met u j side p v w o) k = (none u k.0 (deed_on side j p v) k.6.0, refl)
  no_deed (parked u w bs) k = (none u k.0 _ k.2.0, ap (λ b. cond b (Some w) None) (apart_from u k.0 k.2.0))
  no_deed (posted u w p v) k = (none u k.0 _ k.2.0, refl)
  no_deed (settled w j side p v) k = (refl, refl)
  no_deed (defaulted u v) k = (none u k.0 _ k.3.0, refl)
  no_deed (closed u p) k = (none u k.0 _ k.2.0, refl)
  no_deed (registered u name args v) k = (none u k.0 _ k.3.0, refl)
  no_deed (printed u line) k = (none u k.0 _ k.2.0, refl)
  no_deed (ticked m ports) k = (refl, refl)
  no_deed (is_over u Ended) k = (none u k.0 _ k.2.0, refl)
  no_deed (is_over u (Faulted fault place result)) k = (none u k.0 _ k.1.0, refl)

  -- it comes by a Spawn alone
  abbrev Comes : EventView → Type 0
  Comes e = (s2.tasks t ≡ None) ⊎ ((u : ℕ) × (kind : TaskKind) × (result : Option ℕ) × (b : TaskBody) × (e ≡ spawned u t kind result) × (s2.tasks t ≡ Some (runs result b)))

  set_away : (u : ℕ) (x y : Task) (f : Tasks) → s.tasks u ≡ Some x → f ≡ update eqb s.tasks u (Some y) → f t ≡ None
  set_away u x y f at is = ap (λ (z : Tasks). z t) is ∙ update_apart s.tasks u (Some y) t (away u x at) ∙ absent

  wakes_away : (o : Option ℕ) (w p : ℕ) (v : Tree) (tasks after : Tasks) → tasks t ≡ None → Wakes program o tasks w p v after → after t ≡ None
  wakes_away None w p v tasks after at k = ap (λ (z : Tasks). z t) k ∙ at
  wakes_away (Some n) w p v tasks after at k = ap (λ (z : Tasks). z t) k.3.2 ∙ update_apart tasks n _ t (λ (j : t ≡ n). let i : None ≡ Some k.0 = sym at ∙ ap tasks j ∙ k.1 in cc) ∙ at

  pub comes : (e : EventView) → Step program s e s2 → Comes e
  comes (made u p what moment) k = inl (set_away u k.0 _ s2.tasks k.2.0 (tasks_of k.7 ∙ k.6.2))
  comes (spawned u n kind result) k = by (eqb n t) refl where
    by : (b : Bool) → eqb n t ≡ b → Comes (spawned u n kind result)
    by true nt =
        let tn = eqb-true n t nt in
        inr (u, kind, result, k.3, ap (λ i. spawned u i kind result) tn, ap (λ (z : Tasks). z t) (tasks_of k.10) ∙ ap (update eqb k.2 n (Some (runs result k.3))) (sym tn) ∙ update_here k.2 n (Some (runs result k.3)))
    by false nt = inl (ap (λ (z : Tasks). z t) (tasks_of k.10) ∙ update_apart k.2 n (Some (runs result k.3)) t (λ j. let i : true ≡ false = sym (eq-eqb n t (sym j)) ∙ nt in cc) ∙ set_away u k.0 _ k.2 k.4.0 k.8.2)
  comes (done u j b a) k = inl (set_away u k.0 _ s2.tasks k.4.0 (tasks_of k.8 ∙ k.7.2))
  comes (met u j side p v w o) k = inl (ap (λ (z : Tasks). z t) (tasks_of k.15) ∙ wakes_away (owner_of w s.waits) w p _ k.4 k.5 (set_away u k.0 _ k.4 k.6.0 k.13.2) k.14)
  comes (parked u w bs) k = inl (set_away u k.0 _ s2.tasks k.2.0 (tasks_of k.8))
  comes (posted u w p v) k = inl (set_away u k.0 _ s2.tasks k.2.0 (tasks_of k.6 ∙ k.5.2))
  comes (settled w j side p v) k = inl (ap (λ (z : Tasks). z t) (tasks_of k.9) ∙ wakes_away (owner_of w s.waits) w p _ s.tasks k.3 absent k.8)
  comes (defaulted u v) k = inl (set_away u k.0 _ s2.tasks k.3.0 (tasks_of k.7 ∙ k.6.2))
  comes (closed u p) k = inl (set_away u k.0 _ s2.tasks k.2.0 (tasks_of k.4 ∙ k.3.2))
  comes (registered u name args v) k = inl (set_away u k.0 _ s2.tasks k.3.0 (tasks_of k.6 ∙ k.5.2))
  comes (printed u line) k = inl (set_away u k.0 _ s2.tasks k.2.0 (tasks_of k.4 ∙ k.3.2))
  comes (ticked m ports) k = inl (ap (λ (z : Tasks). z t) (tasks_of k.4) ∙ absent)
  comes (is_over u Ended) k = inl (set_away u k.0 _ s2.tasks k.2.0 (tasks_of k.4))
  comes (is_over u (Faulted fault place result)) k = inl (set_away u k.0 _ s2.tasks k.1.0 (tasks_of k.4))

-- what a journal tells of all tasks of the state
pub record Journaled (journal : List EventView) (s : State) : Type 0 where
  pub waits : (t : ℕ) (x : Task) → s.tasks t ≡ Some x → wait_in t journal ≡ wait_of x.mode
  pub absent : (t : ℕ) → s.tasks t ≡ None → (wait_in t journal ≡ None) × (deeds t journal ≡ [])

pub journaled_step : (program : ProgramView) (journal : List EventView) (s s2 : State) (e : EventView) → Sound s → Step program s e s2 → Journaled journal s → Journaled (journal ++ e ∷ []) s2
journaled_step program journal s s2 e sound x k = record {
  waits = λ t y at. waits t y at (s.tasks t) refl;
  absent = λ t at. gone t at (s.tasks t) refl;
} where
  waits : (t : ℕ) (y : Task) → s2.tasks t ≡ Some y → (o : Option Task) → s.tasks t ≡ o → wait_in t (journal ++ e ∷ []) ≡ wait_of y.mode
  waits t y at (Some z) there =
      let told = step_told program s s2 sound t z there e x in
      let same : told.0 ≡ y = (let q : Some told.0 ≡ Some y = sym told.1 ∙ at in cc) in
      wait_more t None journal e ∙ ap (wait_after t e) (k.waits t z there) ∙ sym (told_wait program t z told.0 e z.mode refl told.2) ∙ ap (λ (q : Task). wait_of q.mode) same
  waits t y at None there = wait_more t None journal e ∙ ap (wait_after t e) (k.absent t there).0 ∙ (no_deed program s s2 t there e x).1 ∙ new (comes program s s2 t there e x) where
    new : (s2.tasks t ≡ None) ⊎ ((u : ℕ) × (kind : TaskKind) × (result : Option ℕ) × (b : TaskBody) × (e ≡ spawned u t kind result) × (s2.tasks t ≡ Some (runs result b))) → None ≡ wait_of y.mode
    new (inl z) = absurd (let q : None ≡ Some y = sym z ∙ at in cc)
    new (inr z) = let q : Some (runs z.2 z.3) ≡ Some y = sym z.5 ∙ at in let same : runs z.2 z.3 ≡ y = cc in ap (λ (q : Task). wait_of q.mode) same

  gone : (t : ℕ) → s2.tasks t ≡ None → (o : Option Task) → s.tasks t ≡ o → (wait_in t (journal ++ e ∷ []) ≡ None) × (deeds t (journal ++ e ∷ []) ≡ [])
  gone t at (Some z) there = let told = step_told program s s2 sound t z there e x in absurd (let q : Some told.0 ≡ None = sym told.1 ∙ at in cc)
  gone t at None there =
      let a = k.absent t there in
      let n = no_deed program s s2 t there e x in
      (wait_more t None journal e ∙ ap (wait_after t e) a.0 ∙ n.1, deeds_more t None journal e ∙ ap (λ o. and_deed (deeds t journal) (deed t o e)) a.0 ∙ ap (and_deed (deeds t journal)) n.0 ∙ ap (λ z. z ++ []) a.1)

opening_told : (b : TaskBody) → Journaled [] (opening_state b)
opening_told b = record { waits = λ t x at. by t x (eqb 0 t) at; absent = λ t at. (refl, refl) } where
  by : (t : ℕ) (x : Task) (c : Bool) → cond c (Some (runs None b)) None ≡ Some x → None ≡ wait_of x.mode
  by t x true e = ap (λ (z : Task). wait_of z.mode) (let k : runs None b ≡ x = cc in k)
  by t x false e = absurd (let k : None ≡ Some x = e in cc)

-- what is known of the state to which a journal leads
pub record Traced (journal : List EventView) (s : State) : Type 0 where
  pub known : Known journal s
  pub stood : AllStood s
  pub told : Journaled journal s

pub traced_step : (program : ProgramView) (journal : List EventView) (s s2 : State) (e : EventView) → Step program s e s2 → Traced journal s → Traced (journal ++ e ∷ []) s2
traced_step program journal s s2 e x k = record { known = step_known program s s2 e journal x k.known; stood = stood_kept program s s2 e k.known.sound x k.stood; told = journaled_step program journal s s2 e k.known.sound x k.told }

pub traced_steps : (program : ProgramView) (es journal : List EventView) (s s2 : State) → Steps program s es s2 → Traced journal s → Traced (journal ++ es) s2
traced_steps program [] journal s s2 x k = subst (λ j. Traced j s2) (sym (append-nil journal)) (subst (Traced journal) (sym x) k)
traced_steps program (e ∷ es) journal s s2 x k = subst (λ j. Traced j s2) (append_assoc journal (e ∷ []) es) (traced_steps program es (journal ++ e ∷ []) x.0 s2 x.2 (traced_step program journal s x.0 e x.1 k))

pub opening_traced : (program : ProgramView) (s : State) → Opening program s → Traced [] s
opening_traced program s o = record { known = opening_known program s o; stood = subst AllStood (sym o.2) (λ side p. tt); told = subst (Journaled []) (sym o.2) (opening_told o.0) }
