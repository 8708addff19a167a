-- A registry that is a mult stays one, and a reading of its taps isn't refused.
use Rattle.std.proofs.Common.{◌≡◌, ℕ, List, [], ◌∷◌, length, filter, refl, sym, ap, ◌∙◌, Bool, true, false, not, cond, Option, Some, None, option_map, eqb, eqb-true, nat_lt}
use Rattle.std.proofs.lemmas.Map.{update_apart}
use Rattle.ca_value.specs.Tree.{Tree, Trees, nil, bool, int, text, key, vector, map, port, none}
use Rattle.ca_term.specs.declared.place.Place.{Place}
use Rattle.ca_term.specs.declared.fault.Fault.{Fault}
use Rattle.ca_term.specs.declared.event.Side.{Side}
use Rattle.ca_term.specs.declared.event.Side.TheVariants.{Take, Put}
use Rattle.ca_term.specs.declared.event.Ending.{Ending}
use Rattle.ca_term.specs.declared.event.Ending.TheVariants.{Ended, Faulted}
use Rattle.ca_term.specs.declared.head.RegisterName.{RegisterName}
use Rattle.ca_term.specs.declared.head.RegisterName.TheVariants.{Tap, Untap, UntapAll, Taps, Admix, Unmix, UnmixAll, Toggle, SoloMode, Modes, Find, Place as PlaceTopic, Drop, Clear, Topics}
use Rattle.ca_term.specs.declared.head.SystemTask.{SystemTask}
use Rattle.ca_term.specs.Operation.{OpView, registering, spawning, system}
use Rattle.ca_term.specs.Program.{ProgramView}
use Rattle.ca_term.specs.Event.{BranchView, take_of, put_of, EventView, made, spawned, done, met, parked, posted, settled, defaulted, closed, registered, printed, ticked, over as is_over}
use Rattle.ca_meaning.specs.Asks.{one_of}
use Rattle.ca_meaning.specs.Body.{at_op, ended}
use Rattle.ca_meaning.specs.ChannelSteps.{other_side}
use Rattle.ca_meaning.specs.Going.{IsAtOp}
use Rattle.ca_meaning.specs.Operands.{or_else, port_of_value, truth, first_of, second_of, rest_of}
use Rattle.ca_meaning.specs.Refusal.{a_channel, the_mult, is_the_mult, not_needed, unmet, too_many, registered_at, refusal, fault_at, fault_of_registered}
use Rattle.ca_meaning.specs.Registry.{TapView, Registry, a_mult, a_mix, a_publication, answers, refuses, mult_row, tapped}
use Rattle.ca_meaning.specs.State.{State, Task}
use Rattle.ca_meaning.specs.Steps.{Step}
use Rattle.ca_meaning.specs.Task.{body_at}
use Rattle.ca_laws.specs.Deeds.{Deed, did_take, did_put, did_wait, did_post, did_default, did_make, did_spawn, did_close, did_register, did_print, did_end, is_wait, deed_of, deed_on, deed}
use Rattle.ca_roles.proofs.Events.{one_deed}
use Rattle.ca_roles.proofs.Recorded.{registries_of}

-- a mult stays one
mult_answers : (c : ℕ) (taps : List TapView) (name : RegisterName) (args : Trees) (v : Tree) (r : Registry) → mult_row c taps name args ≡ answers v r → is_the_mult (Some r) ≡ true
mult_answers c taps Tap args v r e = by (nat_lt 1024 (length (tapped tap taps))) e where
  tap : TapView
  tap = record { channel = port_of_value (first_of args); closes = truth (second_of args) }

  by : (b : Bool) → cond b (refuses Fault.TooManyMembers) (answers (first_of args) (a_mult c (tapped tap taps))) ≡ answers v r → is_the_mult (Some r) ≡ true
  by true e = absurd (let k : refuses Fault.TooManyMembers ≡ answers v r = e in cc)
  by false e = let k : a_mult c (tapped tap taps) ≡ r = cc in ap (λ z. is_the_mult (Some z)) (sym k)
mult_answers c taps Untap args v r e = let k : answers nil (a_mult c (filter (λ (t : TapView). not (eqb (port_of_value (first_of args)) t.channel)) taps)) ≡ answers v r = e in let q : a_mult c (filter (λ (t : TapView). not (eqb (port_of_value (first_of args)) t.channel)) taps) ≡ r = cc in ap (λ z. is_the_mult (Some z)) (sym q)
mult_answers c taps UntapAll args v r e = let q : a_mult c [] ≡ r = cc in ap (λ z. is_the_mult (Some z)) (sym q)
mult_answers c taps Taps args v r e = let q : a_mult c taps ≡ r = cc in ap (λ z. is_the_mult (Some z)) (sym q)
mult_answers c taps Admix args v r e = absurd (let k : refuses Fault.NotAPort ≡ answers v r = e in cc)
mult_answers c taps Unmix args v r e = absurd (let k : refuses Fault.NotAPort ≡ answers v r = e in cc)
mult_answers c taps UnmixAll args v r e = absurd (let k : refuses Fault.NotAPort ≡ answers v r = e in cc)
mult_answers c taps Toggle args v r e = absurd (let k : refuses Fault.NotAPort ≡ answers v r = e in cc)
mult_answers c taps SoloMode args v r e = absurd (let k : refuses Fault.NotAPort ≡ answers v r = e in cc)
mult_answers c taps Modes args v r e = absurd (let k : refuses Fault.NotAPort ≡ answers v r = e in cc)
mult_answers c taps Find args v r e = absurd (let k : refuses Fault.NotAPort ≡ answers v r = e in cc)
mult_answers c taps PlaceTopic args v r e = absurd (let k : refuses Fault.NotAPort ≡ answers v r = e in cc)
mult_answers c taps Drop args v r e = absurd (let k : refuses Fault.NotAPort ≡ answers v r = e in cc)
mult_answers c taps Clear args v r e = absurd (let k : refuses Fault.NotAPort ≡ answers v r = e in cc)
mult_answers c taps Topics args v r e = absurd (let k : refuses Fault.NotAPort ≡ answers v r = e in cc)

was_mult : (s : State) (o : Option Registry) (name : RegisterName) (args : Trees) (v : Tree) (r : Registry) → is_the_mult o ≡ true → registered_at s o name args ≡ answers v r → is_the_mult (Some r) ≡ true
was_mult s (Some (a_mult c taps)) name args v r i e = mult_answers c taps name args v r e
was_mult s (Some (a_mix c g mode xs)) name args v r i e = absurd (let k : false ≡ true = i in cc)
was_mult s (Some (a_publication c ts)) name args v r i e = absurd (let k : false ≡ true = i in cc)
was_mult s None name args v r i e = absurd (let k : false ≡ true = i in cc)

pub mult_stays : (program : ProgramView) (s s2 : State) (m : ℕ) (e : EventView) → Step program s e s2 → is_the_mult (s.registries m) ≡ true → is_the_mult (s2.registries m) ≡ true
mult_stays program s s2 m (made t p what moment) x i = ap (λ (f : ℕ → Option Registry). is_the_mult (f m)) (registries_of x.7) ∙ ap is_the_mult (update_apart s.registries p _ m (λ q. let k : false ≡ true = ap is_the_mult (sym (ap s.registries q ∙ x.4)) ∙ i in cc)) ∙ i
mult_stays program s s2 m (registered t name args v) x i = ap (λ (f : ℕ → Option Registry). is_the_mult (f m)) (registries_of x.6) ∙ by (eqb (port_of_value (first_of args)) m) refl where
  by : (b : Bool) → eqb (port_of_value (first_of args)) m ≡ b → is_the_mult (cond b (Some x.1) (s.registries m)) ≡ true
  by true q = was_mult s (s.registries (port_of_value (first_of args))) name _ v x.1 (ap (λ n. is_the_mult (s.registries n)) (eqb-true (port_of_value (first_of args)) m q) ∙ i) x.4
  by false q = i
mult_stays program s s2 m (spawned t u kind result) x i = ap (λ (f : ℕ → Option Registry). is_the_mult (f m)) (registries_of x.10) ∙ i
mult_stays program s s2 m (done t k b a) x i = ap (λ (f : ℕ → Option Registry). is_the_mult (f m)) (registries_of x.8) ∙ i
mult_stays program s s2 m (met t k side p v w o) x i = ap (λ (f : ℕ → Option Registry). is_the_mult (f m)) (registries_of x.15) ∙ i
mult_stays program s s2 m (parked t w bs) x i = ap (λ (f : ℕ → Option Registry). is_the_mult (f m)) (registries_of x.8) ∙ i
mult_stays program s s2 m (posted t w p v) x i = ap (λ (f : ℕ → Option Registry). is_the_mult (f m)) (registries_of x.6) ∙ i
mult_stays program s s2 m (settled w k side p v) x i = ap (λ (f : ℕ → Option Registry). is_the_mult (f m)) (registries_of x.9) ∙ i
mult_stays program s s2 m (defaulted t v) x i = ap (λ (f : ℕ → Option Registry). is_the_mult (f m)) (registries_of x.7) ∙ i
mult_stays program s s2 m (closed t p) x i = ap (λ (f : ℕ → Option Registry). is_the_mult (f m)) (registries_of x.4) ∙ i
mult_stays program s s2 m (printed t line) x i = ap (λ (f : ℕ → Option Registry). is_the_mult (f m)) (registries_of x.4) ∙ i
mult_stays program s s2 m (ticked n ports) x i = ap (λ (f : ℕ → Option Registry). is_the_mult (f m)) (registries_of x.4) ∙ i
mult_stays program s s2 m (is_over t Ended) x i = ap (λ (f : ℕ → Option Registry). is_the_mult (f m)) (registries_of x.4) ∙ i
mult_stays program s s2 m (is_over t (Faulted fault place result)) x i = ap (λ (f : ℕ → Option Registry). is_the_mult (f m)) (registries_of x.4) ∙ i

-- an operation that isn't refused isn't the end of its task
other_deed : {G : Type 0} (b : Bool) (c : Deed) (how : Ending) → (c ≡ did_end how → ⊥) → cond b (Some c) None ≡ Some (did_end how) → G
other_deed b c how ne e = absurd (ne (one_deed b c (did_end how) e).1)

not_end : (b : BranchView) (k : ℕ) (a : Tree) (how : Ending) → deed_of b k a ≡ did_end how → ⊥
not_end (take_of p) k a how e = let q : did_take k p a ≡ did_end how = e in cc
not_end (put_of p v) k a how e = let q : did_put k p v a ≡ did_end how = e in cc

not_end_on : (side : Side) (k p : ℕ) (v : Tree) (how : Ending) → deed_on side k p v ≡ did_end how → ⊥
not_end_on Take k p v how e = let q : did_take k p v ≡ did_end how = e in cc
not_end_on Put k p v how e = let q : did_put k p v (bool true) ≡ did_end how = e in cc

pub not_over : {G : Type 0} (program : ProgramView) (s s2 : State) (t : ℕ) (z : Task) (o : Option ℕ) (op : OpView) → s.tasks t ≡ Some z → IsAtOp z.body op → refusal s op ≡ None → (e : EventView) → Step program s e s2 → (how : Ending) → deed t o e ≡ Some (did_end how) → G
not_over program s s2 t z o op there at fine (is_over u Ended) k how is =
    let ut = eqb-true u t (one_deed (eqb u t) (did_end Ended) (did_end how) is).0 in
    let same : k.0 ≡ z = (let q : Some k.0 ≡ Some z = sym k.2.0 ∙ ap s.tasks ut ∙ there in cc) in
    absurd (let q : ended k.1 ≡ at_op (record { op = op; place = at.0 }) = sym k.3 ∙ ap (λ (y : Task). body_at y.body) same ∙ at.1 in cc)
not_over program s s2 t z o op there at fine (is_over u (Faulted fault place result)) k how is =
    let ut = eqb-true u t (one_deed (eqb u t) (did_end (Faulted fault place result)) (did_end how) is).0 in
    let same : k.0 ≡ z = (let q : Some k.0 ≡ Some z = sym k.1.0 ∙ ap s.tasks ut ∙ there in cc) in
    let none : fault_at s (at_op (record { op = op; place = at.0 })) ≡ None = ap (option_map (λ f. (f, at.0))) fine in
    absurd (let q : None ≡ Some (fault, place) = sym none ∙ ap (fault_at s) (sym at.1 ∙ ap (λ (y : Task). body_at y.body) (sym same)) ∙ k.2 in cc)
not_over program s s2 t z o op there at fine (done u j b a) k how is = other_deed (eqb u t) (deed_of b j a) how (not_end b j a how) is
not_over program s s2 t z o op there at fine (met u j side p v w i) k how is = by (eqb u t) is where
  by : {G : Type 0} (b : Bool) → cond b (Some (deed_on side j p v)) (cond (is_wait w o) (Some (deed_on (other_side side) i p v)) None) ≡ Some (did_end how) → G
  by true e = other_deed true (deed_on side j p v) how (not_end_on side j p v how) e
  by false e = other_deed (is_wait w o) (deed_on (other_side side) i p v) how (not_end_on (other_side side) i p v how) e
not_over program s s2 t z o op there at fine (settled w j side p v) k how is = other_deed (is_wait w o) (deed_on side j p v) how (not_end_on side j p v how) is
not_over program s s2 t z o op there at fine (made u p what m) k how is = other_deed (eqb u t) (did_make p what m) how (λ q. cc) is
not_over program s s2 t z o op there at fine (spawned u n kind r) k how is = other_deed (eqb u t) (did_spawn n kind r) how (λ q. cc) is
not_over program s s2 t z o op there at fine (parked u w bs) k how is = other_deed (eqb u t) (did_wait w bs) how (λ q. cc) is
not_over program s s2 t z o op there at fine (posted u w p v) k how is = other_deed (eqb u t) (did_post w p v) how (λ q. cc) is
not_over program s s2 t z o op there at fine (defaulted u v) k how is = other_deed (eqb u t) (did_default v) how (λ q. cc) is
not_over program s s2 t z o op there at fine (closed u p) k how is = other_deed (eqb u t) (did_close p) how (λ q. cc) is
not_over program s s2 t z o op there at fine (registered u name args v) k how is = other_deed (eqb u t) (did_register name args v) how (λ q. cc) is
not_over program s s2 t z o op there at fine (printed u line) k how is = other_deed (eqb u t) (did_print line) how (λ q. cc) is
not_over program s s2 t z o op there at fine (ticked m ports) k how is = absurd (let q : None ≡ Some (did_end how) = is in cc)

pub taps_fine : (s : State) (m : ℕ) → is_the_mult (s.registries m) ≡ true → refusal s (registering Taps (one_of (port m))) ≡ None
taps_fine s m is = by (s.registries m) refl is where
  by : (o : Option Registry) → s.registries m ≡ o → is_the_mult o ≡ true → refusal s (registering Taps (one_of (port m))) ≡ None
  by (Some (a_mult c ts)) e i = ap (λ (o : Option Registry). or_else (or_else (or_else (cond (is_the_mult o) None (Some Fault.NotAPort)) None) (fault_of_registered (registered_at s o Taps none))) None) e
  by (Some (a_mix c g mode xs)) e i = absurd (let q : false ≡ true = i in cc)
  by (Some (a_publication c ts)) e i = absurd (let q : false ≡ true = i in cc)
  by None e i = absurd (let q : false ≡ true = i in cc)

-- only for a mult a mult is started
needed : (s : State) (v : Tree) (rest more : Option Fault) → or_else (or_else (not_needed s the_mult v) rest) more ≡ None → is_the_mult (s.registries (port_of_value v)) ≡ true
needed s (port n) rest more e = by (is_the_mult (s.registries n)) refl e where
  by : (b : Bool) → is_the_mult (s.registries n) ≡ b → or_else (or_else (cond b None (Some Fault.NotAPort)) rest) more ≡ None → is_the_mult (s.registries n) ≡ true
  by true k e = k
  by false k e = absurd (let j : Some Fault.NotAPort ≡ None = e in cc)
needed s nil rest more e = absurd (let j : Some Fault.NotAPort ≡ None = e in cc)
needed s (bool b) rest more e = absurd (let j : Some Fault.NotAPort ≡ None = e in cc)
needed s (int z) rest more e = absurd (let j : Some Fault.NotAPort ≡ None = e in cc)
needed s (text z) rest more e = absurd (let j : Some Fault.NotAPort ≡ None = e in cc)
needed s (key z) rest more e = absurd (let j : Some Fault.NotAPort ≡ None = e in cc)
needed s (vector z) rest more e = absurd (let j : Some Fault.NotAPort ≡ None = e in cc)
needed s (map z) rest more e = absurd (let j : Some Fault.NotAPort ≡ None = e in cc)

pub mult_there : (s : State) (values : Trees) (place : Place) → refusal s (spawning (system SystemTask.Mult values place)) ≡ None → is_the_mult (s.registries (port_of_value (first_of values))) ≡ true
mult_there s values place fine = needed s (first_of values) (unmet s (a_channel ∷ a_channel ∷ []) (rest_of values)) (too_many s (spawning (system SystemTask.Mult values place))) fine
