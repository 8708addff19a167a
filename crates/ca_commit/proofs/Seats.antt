-- What the events do to where the tasks are.
use Rattle.std.proofs.Common.{◌≡◌, ℕ, List, [], ◌∷◌, ◌++◌, refl, sym, ap, ◌∙◌, subst, Bool, true, false, cond, Option, Some, None, eqb, eqb-true, eq-eqb, ne_eqb, Contains}
use Rattle.std.specs.Map.{update}
use Rattle.std.proofs.lemmas.Map.{update_here, update_apart}
use Rattle.std.proofs.lemmas.Bool.{eqb-false}
use Rattle.std.proofs.lemmas.List.Elements.{Contains-push, Contains-append_left}
use mathlib.Core.Logic.{dite}
use native.Mathlib.Decide.{ℕ_discrete}
use Rattle.ca_meaning.specs.Body.{At}
use Rattle.ca_meaning.specs.Task.{TaskBody, body_at}
use Rattle.ca_meaning.specs.State.{Task, Tasks, running, waiting, over, runs}
use Rattle.ca_meaning.specs.Wait.{Wait, without, is_live, owner_of}
use Rattle.ca_meaning.proofs.Waits.{owner_else, owner_before, owner_joined}
use Rattle.ca_commit.specs.Contents.{LaneView, Parked, nobody, owner}
use Rattle.ca_commit.specs.Seated.{Apart, EachSeated, PausedAt, Seat, Seated, SitsAt, StandsAs, Waits, in_lane, in_ready}

pub some_same : {X : Type 0} (x y : X) → Some x ≡ Some y → x ≡ y
some_same x y e = cc

abbrev pub two : {X Y : Type 0} → X → Y → X × Y
two x y = (x, y)

pub first_same : {X Y : Type 0} (a c : X) (b d : Y) → two a b ≡ two c d → a ≡ c
first_same {X} {Y} a c b d e = ap (λ (p : X × Y). p.0) e

pub second_same : {X Y : Type 0} (a c : X) (b d : Y) → two a b ≡ two c d → b ≡ d
second_same {X} {Y} a c b d e = ap (λ (p : X × Y). p.1) e

-- a lane has one task
pub one_task : {A : Type 0} (l m : LaneView A) (t u : ℕ) (a d : A) → l ≡ m → l.task ≡ Some (t, a) → m.task ≡ Some (u, d) → two t a ≡ two u d
one_task {A} l m t u a d e f g = some_same (t, a) (u, d) (sym f ∙ ap (λ (x : LaneView A). x.task) e ∙ g)

pub no_task : {A G : Type 0} (l m : LaneView A) (u : ℕ) (d : A) → l ≡ m → l.task ≡ None → m.task ≡ Some (u, d) → G
no_task {A} {G} l m u d e f g = absurd (let k : None ≡ Some (two u d) = sym f ∙ ap (λ (x : LaneView A). x.task) e ∙ g in cc)

-- a task that runs doesn't wait
pub runs_not : {G : Type 0} (o : Option Task) (x y : Task) (w : ℕ) → o ≡ Some x → x.mode ≡ running → o ≡ Some y → y.mode ≡ waiting w → G
runs_not {G} o x y w e m f k = let j : running ≡ waiting w = sym m ∙ ap (λ (z : Task). z.mode) (some_same x y (sym e ∙ f)) ∙ k in absurd cc

same_wait : (o : Option Task) (x y : Task) (v w : ℕ) → o ≡ Some x → x.mode ≡ waiting v → o ≡ Some y → y.mode ≡ waiting w → v ≡ w
same_wait o x y v w e m f k = let j : waiting v ≡ waiting w = sym m ∙ ap (λ (z : Task). z.mode) (some_same x y (sym e ∙ f)) ∙ k in cc

module _ {A : Type 0} (stands : A → Option ℕ → TaskBody → Type 0) where
  -- an other task's change
  pub as_else : (tasks : Tasks) (t u : ℕ) (a : A) (o : Option Task) → (t ≡ u → ⊥) → StandsAs stands tasks u a → StandsAs stands (update eqb tasks t o) u a
  as_else tasks t u a o ne h = (h.0, (update_apart tasks t o u (λ e. ne (sym e)) ∙ h.1.0, h.1.1), h.2)

  each_else : (tasks : Tasks) (seat : ℕ → Seat) (t w r : ℕ) (o : Option Task) → seat t ≡ in_lane w → (q : List (ℕ × A)) → EachSeated stands tasks seat r q → EachSeated stands (update eqb tasks t o) seat r q
  each_else tasks seat t w r o at [] a = tt
  each_else tasks seat t w r o at (x ∷ q) a = (a.0, as_else tasks t x.0 x.1 o (λ e. let k : in_ready r ≡ in_lane w = sym a.0 ∙ ap seat (sym e) ∙ at in absurd cc) a.1, each_else tasks seat t w r o at q a.2, a.3)

  each_more : (tasks : Tasks) (seat : ℕ → Seat) (u r r2 : ℕ) (x : Task) (wait : ℕ) (y : Task) → Waits tasks u wait x → (q : List (ℕ × A)) → EachSeated stands tasks seat r q → EachSeated stands (update eqb tasks u (Some y)) (λ t. cond (eqb u t) (in_ready r2) (seat t)) r q
  each_more tasks seat u r r2 x wait y is [] a = tt
  each_more tasks seat u r r2 x wait y is (z ∷ q) a = let ne : u ≡ z.0 → ⊥ = λ e. runs_not (tasks u) a.1.0 x wait (ap tasks e ∙ a.1.1.0) a.1.1.1 is.0 is.1 in
      (ap (λ c. cond c (in_ready r2) (seat z.0)) (ne_eqb u z.0 ne) ∙ a.0, as_else tasks u z.0 z.1 (Some y) ne a.1, each_more tasks seat u r r2 x wait y is q a.2, a.3)

  -- a waiting task is in no ready part
  apart_waits : (tasks : Tasks) (seat : ℕ → Seat) (u r : ℕ) (x : Task) (wait : ℕ) → Waits tasks u wait x → (q : List (ℕ × A)) → EachSeated stands tasks seat r q → Apart u q
  apart_waits tasks seat u r x wait is [] a = tt
  apart_waits tasks seat u r x wait is (z ∷ q) a = (λ e. runs_not (tasks u) a.1.0 x wait (ap tasks e ∙ a.1.1.0) a.1.1.1 is.0 is.1, apart_waits tasks seat u r x wait is q a.2)

  apart_end : (t : ℕ) (q : List (ℕ × A)) (x : ℕ × A) → Apart t q → (t ≡ x.0 → ⊥) → Apart t (q ++ x ∷ [])
  apart_end t [] x a e = (e, tt)
  apart_end t (y ∷ q) x a e = (a.0, apart_end t q x a.1 e)

  pub each_end : (tasks : Tasks) (seat : ℕ → Seat) (r : ℕ) (q : List (ℕ × A)) (x : ℕ × A) → EachSeated stands tasks seat r q → Apart x.0 q → seat x.0 ≡ in_ready r → StandsAs stands tasks x.0 x.1 → EachSeated stands tasks seat r (q ++ x ∷ [])
  each_end tasks seat r [] x a ap' e f = (e, f, tt, tt)
  each_end tasks seat r (y ∷ q) x a ap' e f = (a.0, a.1, each_end tasks seat r q x a.2 ap'.1 e f, apart_end y.0 q x a.3 (λ k. ap'.0 (sym k)))

module _ {A : Type 0} (place : A → At) (stands : A → Option ℕ → TaskBody → Type 0) where
  abbrev Lanes : Type 0
  Lanes = ℕ → Option (LaneView A)

  abbrev Readys : Type 0
  Readys = ℕ → Option (List (ℕ × A))

  abbrev Shards : Type 0
  Shards = ℕ → Option (Parked A)

  -- the task in a lane goes on
  pub goes_on : (lane : Lanes) (ready : Readys) (parked : Shards) (tasks : Tasks) (waits : List Wait) (w t : ℕ) (l l2 : LaneView A) (a a2 : A) (res : Option ℕ) (b2 : TaskBody) → Seated place stands lane ready parked tasks waits
      → lane w ≡ Some l → l.task ≡ Some (t, a) → l2.task ≡ Some (t, a2) → stands a2 res b2 → Seated place stands (update eqb lane w (Some l2)) ready parked (update eqb tasks t (Some (runs res b2))) waits
  goes_on lane ready parked tasks waits w t l l2 a a2 res b2 h at has has2 st = record {
    seat = h.seat;
    laned = λ v m u c e f. in_it (eqb w v) v m u c refl e f;
    queued = λ r q e. each_else stands tasks h.seat t w r (Some (runs res b2)) mine.0 q (h.queued r q e);
    found = λ u x e. dite (ℕ_discrete t u)
        (λ is. subst (λ (u : ℕ). SitsAt stands (update eqb lane w (Some l2)) ready (h.seat u) u) is
        (subst (λ (s : Seat). SitsAt stands (update eqb lane w (Some l2)) ready s t) (sym mine.0) (l2, a2, update_here lane w (Some l2), has2)))
        (λ ne. sits u ne (h.seat u) (h.found u x (sym (update_apart tasks t (Some (runs res b2)) u (λ x. ne (sym x))) ∙ e.0, e.1)));
    owners = λ v u c e. let o = h.owners v u c e in (o.0, (o.1.0, (update_apart tasks t (Some (runs res b2)) u (λ z. runs_not (tasks t) mine.1.0 o.1.0 v mine.1.1.0 mine.1.1.1 (ap tasks (sym z) ∙ o.1.1.0) o.1.1.1) ∙ o.1.1.0, o.1.1.1), o.1.2, o.1.3));
    nobodies = h.nobodies;
  } where
    mine : (h.seat t ≡ in_lane w) × StandsAs stands tasks t a
    mine = h.laned w l t a at has

    in_it : (c : Bool) (v : ℕ) (m : LaneView A) (u : ℕ) (d : A) → eqb w v ≡ c → cond c (Some l2) (lane v) ≡ Some m → m.task ≡ Some (u, d) → (h.seat u ≡ in_lane v) × StandsAs stands (update eqb tasks t (Some (runs res b2))) u d
    in_it true v m u d is e f = let ml : l2 ≡ m = some_same l2 m e in let q = one_task l2 m t u a2 d ml has2 f in let tu : t ≡ u = first_same t u a2 d q in let ad : a2 ≡ d = second_same t u a2 d q in (
      ap h.seat (sym tu) ∙ mine.0 ∙ ap in_lane (eqb-true w v is),
      (runs res b2, (ap (update eqb tasks t (Some (runs res b2))) (sym tu) ∙ update_here tasks t (Some (runs res b2)), refl), subst (λ (d : A). stands d res b2) ad st),
    )
    in_it false v m u d is e f = let k = h.laned v m u d e f in (k.0, as_else stands tasks t u d (Some (runs res b2)) (λ x. eqb-false w v is (let j : in_lane w ≡ in_lane v = sym mine.0 ∙ ap h.seat x ∙ k.0 in cc)) k.1)

    sits : (u : ℕ) → (t ≡ u → ⊥) → (s : Seat) → SitsAt stands lane ready s u → SitsAt stands (update eqb lane w (Some l2)) ready s u
    sits u ne (in_ready r) e = e
    sits u ne (in_lane v) e = (e.0, e.1, update_apart lane w (Some l2) v (λ x. ne (let ll : l ≡ e.0 = some_same l e.0 (sym at ∙ ap lane (sym x) ∙ e.2) in first_same t u a e.1 (one_task l e.0 t u a e.1 ll has e.3))) ∙ e.2, e.3)

  -- the task in a lane runs no more: it is over or waits; what is in the shards is told apart
  gone : (lane : Lanes) (ready : Readys) (parked : Shards) (tasks : Tasks) (waits waits2 : List Wait) (parked2 : Shards) (w t : ℕ) (l l2 : LaneView A) (a : A) (x : Task) → Seated place stands lane ready parked tasks waits
      → lane w ≡ Some l → l.task ≡ Some (t, a) → l2.task ≡ None → (x.mode ≡ running → ⊥)
      → ((v u : ℕ) (c : A) → parked2 v ≡ Some (owner u c) → (owner_of v waits2 ≡ Some u) × ((y : Task) × Waits (update eqb tasks t (Some x)) u v y × stands c y.result y.body × PausedAt (place c) (body_at y.body)))
      → ((v : ℕ) → parked2 v ≡ Some nobody → owner_of v waits2 ≡ None)
      → Seated place stands (update eqb lane w (Some l2)) ready parked2 (update eqb tasks t (Some x)) waits2
  gone lane ready parked tasks waits waits2 parked2 w t l l2 a x h at has none mode own nob = record {
    seat = h.seat;
    laned = λ v m u c e f. in_it (eqb w v) v m u c refl e f;
    queued = λ r q e. each_else stands tasks h.seat t w r (Some x) mine.0 q (h.queued r q e);
    found = λ u y e. let ne : t ≡ u → ⊥ = λ is. mode (ap (λ (z : Task). z.mode) (some_same x y (sym (update_here tasks t (Some x)) ∙ ap (update eqb tasks t (Some x)) is ∙ e.0)) ∙ e.1) in
        sits u ne (h.seat u) (h.found u y (sym (update_apart tasks t (Some x) u (λ x. ne (sym x))) ∙ e.0, e.1));
    owners = own;
    nobodies = nob;
  } where
    mine : (h.seat t ≡ in_lane w) × StandsAs stands tasks t a
    mine = h.laned w l t a at has

    in_it : (c : Bool) (v : ℕ) (m : LaneView A) (u : ℕ) (d : A) → eqb w v ≡ c → cond c (Some l2) (lane v) ≡ Some m → m.task ≡ Some (u, d) → (h.seat u ≡ in_lane v) × StandsAs stands (update eqb tasks t (Some x)) u d
    in_it true v m u d is e f = no_task l2 m u d (some_same l2 m e) none f
    in_it false v m u d is e f = let k = h.laned v m u d e f in (k.0, as_else stands tasks t u d (Some x) (λ y. eqb-false w v is (let j : in_lane w ≡ in_lane v = sym mine.0 ∙ ap h.seat y ∙ k.0 in cc)) k.1)

    sits : (u : ℕ) → (t ≡ u → ⊥) → (s : Seat) → SitsAt stands lane ready s u → SitsAt stands (update eqb lane w (Some l2)) ready s u
    sits u ne (in_ready r) e = e
    sits u ne (in_lane v) e = (e.0, e.1, update_apart lane w (Some l2) v (λ x. ne (let ll : l ≡ e.0 = some_same l e.0 (sym at ∙ ap lane (sym x) ∙ e.2) in first_same t u a e.1 (one_task l e.0 t u a e.1 ll has e.3))) ∙ e.2, e.3)

  -- the task in a lane is over
  pub leaves : (lane : Lanes) (ready : Readys) (parked : Shards) (tasks : Tasks) (waits : List Wait) (w t : ℕ) (l l2 : LaneView A) (a : A) (x : Task) → Seated place stands lane ready parked tasks waits
      → lane w ≡ Some l → l.task ≡ Some (t, a) → l2.task ≡ None → x.mode ≡ over → Seated place stands (update eqb lane w (Some l2)) ready parked (update eqb tasks t (Some x)) waits
  leaves lane ready parked tasks waits w t l l2 a x h at has none mode = gone lane ready parked tasks waits waits parked w t l l2 a x h at has none (λ m. let k : over ≡ running = sym mode ∙ m in absurd cc)
      (λ v u c e. let o = h.owners v u c e in let mine = (h.laned w l t a at has).1 in (o.0, (o.1.0, (update_apart tasks t (Some x) u (λ z. runs_not (tasks t) mine.0 o.1.0 v mine.1.0 mine.1.1 (ap tasks (sym z) ∙ o.1.1.0) o.1.1.1) ∙ o.1.1.0, o.1.1.1), o.1.2, o.1.3)))
      h.nobodies

  -- the task in a lane goes to the shard of its new wait
  pub parks_at : (lane : Lanes) (ready : Readys) (parked : Shards) (tasks : Tasks) (waits : List Wait) (w t : ℕ) (l l2 : LaneView A) (a a1 : A) (x : Task) (y : Wait) → Seated place stands lane ready parked tasks waits
      → lane w ≡ Some l → l.task ≡ Some (t, a) → l2.task ≡ None → x.mode ≡ waiting y.number → stands a1 x.result x.body → PausedAt (place a1) (body_at x.body) → y.owner ≡ Some t → is_live y.number waits ≡ false
      → Seated place stands (update eqb lane w (Some l2)) ready (update eqb parked y.number (Some (owner t a1))) (update eqb tasks t (Some x)) (waits ++ y ∷ [])
  parks_at lane ready parked tasks waits w t l l2 a a1 x y h at has none mode st ps own fresh = gone lane ready parked tasks waits (waits ++ y ∷ []) (update eqb parked y.number (Some (owner t a1))) w t l l2 a x h at has none (λ m. let k : running ≡ waiting y.number = sym m ∙ mode in absurd cc)
      (λ v u c e. dite (ℕ_discrete y.number v)
      (λ is. let k : owner t a1 ≡ owner u c = some_same (owner t a1) (owner u c) (sym (update_here parked y.number (Some (owner t a1))) ∙ ap (update eqb parked y.number (Some (owner t a1))) is ∙ e) in let tu : t ≡ u = cc in let ac : a1 ≡ c = cc in (
        ap (λ n. owner_of n (waits ++ y ∷ [])) (sym is) ∙ owner_joined waits y fresh ∙ own ∙ ap Some tu,
        (x, (ap (update eqb tasks t (Some x)) (sym tu) ∙ update_here tasks t (Some x), mode ∙ ap waiting is), subst (λ (c : A). stands c x.result x.body) ac st, subst (λ (c : A). PausedAt (place c) (body_at x.body)) ac ps),
      ))
      (λ ne. let o = h.owners v u c (sym (update_apart parked y.number (Some (owner t a1)) v (λ z. ne (sym z))) ∙ e) in let mine = (h.laned w l t a at has).1 in
      (owner_before v waits y (ne_eqb v y.number (λ z. ne (sym z))) ∙ o.0, (o.1.0, (update_apart tasks t (Some x) u (λ z. runs_not (tasks t) mine.0 o.1.0 v mine.1.0 mine.1.1 (ap tasks (sym z) ∙ o.1.1.0) o.1.1.1) ∙ o.1.1.0, o.1.1.1), o.1.2, o.1.3))))
      (λ v e. dite (ℕ_discrete y.number v)
      (λ is. absurd (let k : owner t a1 ≡ nobody = some_same (owner t a1) nobody (sym (update_here parked y.number (Some (owner t a1))) ∙ ap (update eqb parked y.number (Some (owner t a1))) is ∙ e) in cc))
      (λ ne. owner_before v waits y (ne_eqb v y.number (λ z. ne (sym z))) ∙ h.nobodies v (sym (update_apart parked y.number (Some (owner t a1)) v (λ z. ne (sym z))) ∙ e)))

  -- a new wait without owner
  pub posts_at : (lane : Lanes) (ready : Readys) (parked : Shards) (tasks : Tasks) (waits : List Wait) (y : Wait) → Seated place stands lane ready parked tasks waits
      → y.owner ≡ None → is_live y.number waits ≡ false → Seated place stands lane ready (update eqb parked y.number (Some nobody)) tasks (waits ++ y ∷ [])
  posts_at lane ready parked tasks waits y h own fresh = record {
    seat = h.seat;
    laned = h.laned;
    queued = h.queued;
    found = h.found;
    owners = λ v u c e. dite (ℕ_discrete y.number v)
        (λ is. absurd (let k : nobody ≡ owner u c = some_same nobody (owner u c) (sym (update_here parked y.number (Some nobody)) ∙ ap (update eqb parked y.number (Some nobody)) is ∙ e) in cc))
        (λ ne. let o = h.owners v u c (sym (update_apart parked y.number (Some nobody) v (λ z. ne (sym z))) ∙ e) in (owner_before v waits y (ne_eqb v y.number (λ z. ne (sym z))) ∙ o.0, o.1));
    nobodies = λ v e. dite (ℕ_discrete y.number v)
        (λ is. ap (λ n. owner_of n (waits ++ y ∷ [])) (sym is) ∙ owner_joined waits y fresh ∙ own)
        (λ ne. owner_before v waits y (ne_eqb v y.number (λ z. ne (sym z))) ∙ h.nobodies v (sym (update_apart parked y.number (Some nobody) v (λ z. ne (sym z))) ∙ e));
  }

  -- the owner of a wait goes to a ready part
  pub woken : (lane : Lanes) (ready : Readys) (parked : Shards) (tasks : Tasks) (waits : List Wait) (w r u : ℕ) (a a2 : A) (res : Option ℕ) (b2 : TaskBody) (q : List (ℕ × A)) → Seated place stands lane ready parked tasks waits
      → parked w ≡ Some (owner u a) → ready r ≡ Some q → stands a2 res b2 → Seated place stands lane (update eqb ready r (Some (q ++ (u, a2) ∷ []))) (update eqb parked w None) (update eqb tasks u (Some (runs res b2))) (without w waits)
  woken lane ready parked tasks waits w r u a a2 res b2 q h at rd st = record {
    seat = λ t. cond (eqb u t) (in_ready r) (h.seat t);
    laned = λ v m t c e f. let l = h.laned v m t c e f in let ne : u ≡ t → ⊥ = λ z. not_me t l.1 z in (ap (λ c. cond c (in_ready r) (h.seat t)) (ne_eqb u t ne) ∙ l.0, as_else stands tasks u t c (Some new) ne l.1);
    queued = λ i p e. in_it (eqb r i) i p refl e;
    found = λ t b e. dite (ℕ_discrete u t)
        (λ is. subst (λ (t : ℕ). SitsAt stands lane (update eqb ready r (Some q2)) (cond (eqb u t) (in_ready r) (h.seat t)) t) is
        (subst (λ (c : Bool). SitsAt stands lane (update eqb ready r (Some q2)) (cond c (in_ready r) (h.seat u)) u) (sym (eq-eqb u u refl)) (q2, a2, update_here ready r (Some q2), Contains-push q (u, a2))))
        (λ ne. subst (λ (c : Bool). SitsAt stands lane (update eqb ready r (Some q2)) (cond c (in_ready r) (h.seat t)) t) (sym (ne_eqb u t ne))
        (sits t (h.seat t) (h.found t b (sym (update_apart tasks u (Some new) t (λ x. ne (sym x))) ∙ e.0, e.1))));
    owners = λ v t c e. dite (ℕ_discrete w v)
        (λ is. absurd (let k : None ≡ Some (owner t c) = sym (update_here parked w None) ∙ ap (update eqb parked w None) is ∙ e in cc))
        (λ ne. let o = h.owners v t c (sym (update_apart parked w None v (λ x. ne (sym x))) ∙ e) in
        (owner_else v w waits (ne_eqb w v ne) ∙ o.0, (o.1.0, (update_apart tasks u (Some new) t (λ z. ne (same_wait (tasks u) mine.1.0 o.1.0 w v mine.1.1.0 mine.1.1.1 (ap tasks (sym z) ∙ o.1.1.0) o.1.1.1)) ∙ o.1.1.0, o.1.1.1), o.1.2, o.1.3)));
    nobodies = λ v e. dite (ℕ_discrete w v)
        (λ is. absurd (let k : None ≡ Some nobody = sym (update_here parked w None) ∙ ap (update eqb parked w None) is ∙ e in cc))
        (λ ne. owner_else v w waits (ne_eqb w v ne) ∙ h.nobodies v (sym (update_apart parked w None v (λ x. ne (sym x))) ∙ e));
  } where
    new : Task
    new = runs res b2

    q2 : List (ℕ × A)
    q2 = q ++ (u, a2) ∷ []

    mine : (owner_of w waits ≡ Some u) × ((x : Task) × Waits tasks u w x × stands a x.result x.body × PausedAt (place a) (body_at x.body))
    mine = h.owners w u a at

    not_me : {c : A} (t : ℕ) → StandsAs stands tasks t c → u ≡ t → ⊥
    not_me t l z = runs_not (tasks u) l.0 mine.1.0 w (ap tasks z ∙ l.1.0) l.1.1 mine.1.1.0 mine.1.1.1

    in_it : (c : Bool) (i : ℕ) (p : List (ℕ × A)) → eqb r i ≡ c → cond c (Some q2) (ready i) ≡ Some p → EachSeated stands (update eqb tasks u (Some new)) (λ t. cond (eqb u t) (in_ready r) (h.seat t)) i p
    in_it true i p is e = subst (λ (p : List (ℕ × A)). EachSeated stands (update eqb tasks u (Some new)) (λ t. cond (eqb u t) (in_ready r) (h.seat t)) i p) (some_same q2 p e)
        (subst (λ (i : ℕ). EachSeated stands (update eqb tasks u (Some new)) (λ t. cond (eqb u t) (in_ready r) (h.seat t)) i q2) (eqb-true r i is)
        (each_end stands (update eqb tasks u (Some new)) (λ t. cond (eqb u t) (in_ready r) (h.seat t)) r q (u, a2) (each_more stands tasks h.seat u r r mine.1.0 w new mine.1.1 q (h.queued r q rd)) (apart_waits stands tasks h.seat u r mine.1.0 w mine.1.1 q (h.queued r q rd))
        (ap (λ c. cond c (in_ready r) (h.seat u)) (eq-eqb u u refl)) (new, (update_here tasks u (Some new), refl), st)))
    in_it false i p is e = each_more stands tasks h.seat u i r mine.1.0 w new mine.1.1 p (h.queued i p e)

    sits : (t : ℕ) (s : Seat) → SitsAt stands lane ready s t → SitsAt stands lane (update eqb ready r (Some q2)) s t
    sits t (in_lane v) e = e
    sits t (in_ready i) e = dite (ℕ_discrete r i)
        (λ is. let same : q ≡ e.0 = some_same q e.0 (sym rd ∙ ap ready is ∙ e.2) in
        (q2, e.1, ap (update eqb ready r (Some q2)) (sym is) ∙ update_here ready r (Some q2), Contains-append_left q ((u, a2) ∷ []) (t, e.1) (subst (λ (q : List (ℕ × A)). Contains q (t, e.1)) (sym same) e.3)))
        (λ ne. (e.0, e.1, update_apart ready r (Some q2) i (λ x. ne (sym x)) ∙ e.2, e.3))

  -- a wait without owner is gone
  pub unowned : (lane : Lanes) (ready : Readys) (parked : Shards) (tasks : Tasks) (waits : List Wait) (w : ℕ) → Seated place stands lane ready parked tasks waits
      → Seated place stands lane ready (update eqb parked w None) tasks (without w waits)
  unowned lane ready parked tasks waits w h = record {
    seat = h.seat;
    laned = h.laned;
    queued = h.queued;
    found = h.found;
    owners = λ v t c e. dite (ℕ_discrete w v)
        (λ is. absurd (let k : None ≡ Some (owner t c) = sym (update_here parked w None) ∙ ap (update eqb parked w None) is ∙ e in cc))
        (λ ne. let o = h.owners v t c (sym (update_apart parked w None v (λ x. ne (sym x))) ∙ e) in (owner_else v w waits (ne_eqb w v ne) ∙ o.0, o.1));
    nobodies = λ v e. dite (ℕ_discrete w v)
        (λ is. absurd (let k : None ≡ Some nobody = sym (update_here parked w None) ∙ ap (update eqb parked w None) is ∙ e in cc))
        (λ ne. owner_else v w waits (ne_eqb w v ne) ∙ h.nobodies v (sym (update_apart parked w None v (λ x. ne (sym x))) ∙ e));
  }
