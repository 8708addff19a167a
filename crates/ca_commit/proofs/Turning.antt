-- Tasks between lanes and ready parts.
use Rattle.std.proofs.Common.{◌≡◌, ℕ, zero, suc, List, [], ◌∷◌, ◌++◌, refl, sym, ap, ◌∙◌, subst, arith, Bool, true, false, cond, Option, Some, None, eqb, eqb-true, eq-eqb, ne_eqb, Contains}
use Rattle.std.specs.Map.{update}
use Rattle.std.proofs.lemmas.Map.{update_here, update_apart}
use Rattle.std.proofs.lemmas.Bool.{eqb-false}
use Rattle.std.proofs.lemmas.List.Elements.{Contains-push, Contains-append_left}
use mathlib.Core.Logic.{dite}
use native.Mathlib.Decide.{ℕ_discrete}
use Rattle.ca_meaning.specs.Body.{At}
use Rattle.ca_meaning.specs.Task.{TaskBody}
use Rattle.ca_meaning.specs.State.{Tasks}
use Rattle.ca_meaning.specs.Wait.{Wait}
use Rattle.ca_commit.specs.Contents.{LaneView, Parked}
use Rattle.ca_commit.specs.Seated.{Apart, EachSeated, Seat, Seated, SitsAt, StandsAs, in_lane, in_ready}
use Rattle.ca_commit.proofs.Seats.{first_same, no_task, one_task, second_same, some_same}

module _ {A : Type 0} (place : A → At) (stands : A → Option ℕ → TaskBody → Type 0) where
  contains_rest : (x : ℕ × A) (q : List (ℕ × A)) (t : ℕ) (a : A) → (x.0 ≡ t → ⊥) → Contains (x ∷ q) (t, a) → Contains q (t, a)
  contains_rest x q t a ne (zero, lt, e) = absurd (ne (ap (λ (p : ℕ × A). p.0) e))
  contains_rest x q t a ne (suc k, lt, e) = (k, omega (arith, lt), e)

  reseat : (tasks : Tasks) (seat : ℕ → Seat) (u : ℕ) (at : Seat) (r : ℕ) (q : List (ℕ × A)) → Apart u q → EachSeated stands tasks seat r q → EachSeated stands tasks (λ t. cond (eqb u t) at (seat t)) r q
  reseat tasks seat u at r [] ne a = tt
  reseat tasks seat u at r (x ∷ q) ne a = (ap (λ c. cond c at (seat x.0)) (ne_eqb u x.0 ne.0) ∙ a.0, a.1, reseat tasks seat u at r q ne.1 a.2, a.3)

  apart_seat : (tasks : Tasks) (seat : ℕ → Seat) (u i : ℕ) (q : List (ℕ × A)) → (seat u ≡ in_ready i → ⊥) → EachSeated stands tasks seat i q → Apart u q
  apart_seat tasks seat u i [] ne a = tt
  apart_seat tasks seat u i (x ∷ q) ne a = (λ e. ne (ap seat e ∙ a.0), apart_seat tasks seat u i q ne a.2)

  -- the first task of a ready part comes into an empty lane
  pub picked : (lane : ℕ → Option (LaneView A)) (ready : ℕ → Option (List (ℕ × A))) (parked : ℕ → Option (Parked A)) (tasks : Tasks) (waits : List Wait) (w r : ℕ) (l l2 : LaneView A) (x : ℕ × A) (q : List (ℕ × A)) → Seated place stands lane ready parked tasks waits
      → lane w ≡ Some l → l.task ≡ None → l2.task ≡ Some x → ready r ≡ Some (x ∷ q) → Seated place stands (update eqb lane w (Some l2)) (update eqb ready r (Some q)) parked tasks waits
  picked lane ready parked tasks waits w r l l2 x q h at empty has full = record {
    seat = λ t. cond (eqb x.0 t) (in_lane w) (h.seat t);
    laned = λ v m t a e f. lane_in (eqb w v) v m t a refl e f;
    queued = λ i p e. ready_in (eqb r i) i p refl e;
    found = λ t b e. dite (ℕ_discrete x.0 t)
        (λ is. subst (λ (t : ℕ). SitsAt stands (update eqb lane w (Some l2)) (update eqb ready r (Some q)) (cond (eqb x.0 t) (in_lane w) (h.seat t)) t) is
        (subst (λ (c : Bool). SitsAt stands (update eqb lane w (Some l2)) (update eqb ready r (Some q)) (cond c (in_lane w) (h.seat x.0)) x.0) (sym (eq-eqb x.0 x.0 refl)) (l2, x.1, update_here lane w (Some l2), has)))
        (λ ne. subst (λ (c : Bool). SitsAt stands (update eqb lane w (Some l2)) (update eqb ready r (Some q)) (cond c (in_lane w) (h.seat t)) t) (sym (ne_eqb x.0 t ne)) (sits t ne (h.seat t) (h.found t b e)));
    owners = h.owners;
    nobodies = h.nobodies;
  } where
    all : EachSeated stands tasks h.seat r (x ∷ q)
    all = h.queued r (x ∷ q) full

    lane_in : (c : Bool) (v : ℕ) (m : LaneView A) (t : ℕ) (a : A) → eqb w v ≡ c → cond c (Some l2) (lane v) ≡ Some m → m.task ≡ Some (t, a) → (cond (eqb x.0 t) (in_lane w) (h.seat t) ≡ in_lane v) × StandsAs stands tasks t a
    lane_in true v m t a is e f = let k = one_task l2 m x.0 t x.1 a (some_same l2 m e) has f in let kt = first_same x.0 t x.1 a k in
        (ap (λ c. cond c (in_lane w) (h.seat t)) (eq-eqb x.0 t kt) ∙ ap in_lane (eqb-true w v is), subst (λ (t : ℕ). StandsAs stands tasks t a) kt (subst (λ (a : A). StandsAs stands tasks x.0 a) (second_same x.0 t x.1 a k) all.1))
    lane_in false v m t a is e f = let k = h.laned v m t a e f in (ap (λ c. cond c (in_lane w) (h.seat t)) (ne_eqb x.0 t (λ k'. let j : in_ready r ≡ in_lane v = sym all.0 ∙ ap h.seat k' ∙ k.0 in absurd cc)) ∙ k.0, k.1)

    ready_in : (c : Bool) (i : ℕ) (p : List (ℕ × A)) → eqb r i ≡ c → cond c (Some q) (ready i) ≡ Some p → EachSeated stands tasks (λ t. cond (eqb x.0 t) (in_lane w) (h.seat t)) i p
    ready_in true i p is e = subst (λ (p : List (ℕ × A)). EachSeated stands tasks (λ t. cond (eqb x.0 t) (in_lane w) (h.seat t)) i p) (some_same q p e)
        (subst (λ (i : ℕ). EachSeated stands tasks (λ t. cond (eqb x.0 t) (in_lane w) (h.seat t)) i q) (eqb-true r i is) (reseat tasks h.seat x.0 (in_lane w) r q all.3 all.2))
    ready_in false i p is e = reseat tasks h.seat x.0 (in_lane w) i p (apart_seat tasks h.seat x.0 i p (λ k. eqb-false r i is (let j : in_ready r ≡ in_ready i = sym all.0 ∙ k in cc)) (h.queued i p e)) (h.queued i p e)

    sits : (t : ℕ) → (x.0 ≡ t → ⊥) → (s : Seat) → SitsAt stands lane ready s t → SitsAt stands (update eqb lane w (Some l2)) (update eqb ready r (Some q)) s t
    sits t ne (in_lane v) e = (e.0, e.1, update_apart lane w (Some l2) v (λ k. no_task l e.0 t e.1 (some_same l e.0 (sym at ∙ ap lane (sym k) ∙ e.2)) empty e.3) ∙ e.2, e.3)
    sits t ne (in_ready i) e = dite (ℕ_discrete r i)
        (λ is. let same : x ∷ q ≡ e.0 = some_same (x ∷ q) e.0 (sym full ∙ ap ready is ∙ e.2) in
        (q, e.1, ap (update eqb ready r (Some q)) (sym is) ∙ update_here ready r (Some q), contains_rest x q t e.1 ne (subst (λ (l : List (ℕ × A)). Contains l (t, e.1)) (sym same) e.3)))
        (λ k. (e.0, e.1, update_apart ready r (Some q) i (λ z. k (sym z)) ∙ e.2, e.3))

  apart_end : (t : ℕ) (q : List (ℕ × A)) (x : ℕ × A) → Apart t q → (t ≡ x.0 → ⊥) → Apart t (q ++ x ∷ [])
  apart_end t [] x a ne = (ne, tt)
  apart_end t (y ∷ q) x a ne = (a.0, apart_end t q x a.1 ne)

  seated_end : (tasks : Tasks) (seat : ℕ → Seat) (r : ℕ) (q : List (ℕ × A)) (x : ℕ × A) → Apart x.0 q → seat x.0 ≡ in_ready r → StandsAs stands tasks x.0 x.1 → EachSeated stands tasks seat r q → EachSeated stands tasks seat r (q ++ x ∷ [])
  seated_end tasks seat r [] x ne at st a = (at, st, tt, tt)
  seated_end tasks seat r (y ∷ q) x ne at st a = (a.0, a.1, seated_end tasks seat r q x ne.1 at st a.2, apart_end y.0 q x a.3 (λ e. ne.0 (sym e)))

  -- the task in a lane goes to the end of a ready part
  pub yielded : (lane : ℕ → Option (LaneView A)) (ready : ℕ → Option (List (ℕ × A))) (parked : ℕ → Option (Parked A)) (tasks : Tasks) (waits : List Wait) (w r t : ℕ) (l l2 : LaneView A) (a : A) (q : List (ℕ × A)) → Seated place stands lane ready parked tasks waits
      → lane w ≡ Some l → l.task ≡ Some (t, a) → l2.task ≡ None → ready r ≡ Some q → Seated place stands (update eqb lane w (Some l2)) (update eqb ready r (Some (q ++ (t, a) ∷ []))) parked tasks waits
  yielded lane ready parked tasks waits w r t l l2 a q h at has none full = record {
    seat = seat2;
    laned = λ v m u c e f. lane_in (eqb w v) v m u c refl e f;
    queued = λ i p e. ready_in (eqb r i) i p refl e;
    found = λ u b e. dite (ℕ_discrete t u)
        (λ is. subst (λ (u : ℕ). SitsAt stands (update eqb lane w (Some l2)) (update eqb ready r (Some (q ++ (t, a) ∷ []))) (seat2 u) u) is
        (subst (λ (c : Bool). SitsAt stands (update eqb lane w (Some l2)) (update eqb ready r (Some (q ++ (t, a) ∷ []))) (cond c (in_ready r) (h.seat t)) t) (sym (eq-eqb t t refl)) (q ++ (t, a) ∷ [], a, update_here ready r (Some (q ++ (t, a) ∷ [])), Contains-push q (t, a))))
        (λ ne. subst (λ (c : Bool). SitsAt stands (update eqb lane w (Some l2)) (update eqb ready r (Some (q ++ (t, a) ∷ []))) (cond c (in_ready r) (h.seat u)) u) (sym (ne_eqb t u ne)) (sits u ne (h.seat u) (h.found u b e)));
    owners = h.owners;
    nobodies = h.nobodies;
  } where
    seat2 : ℕ → Seat
    seat2 u = cond (eqb t u) (in_ready r) (h.seat u)

    mine : (h.seat t ≡ in_lane w) × StandsAs stands tasks t a
    mine = h.laned w l t a at has

    lane_in : (c : Bool) (v : ℕ) (m : LaneView A) (u : ℕ) (d : A) → eqb w v ≡ c → cond c (Some l2) (lane v) ≡ Some m → m.task ≡ Some (u, d) → (seat2 u ≡ in_lane v) × StandsAs stands tasks u d
    lane_in true v m u d is e f = no_task l2 m u d (some_same l2 m e) none f
    lane_in false v m u d is e f = let k = h.laned v m u d e f in (ap (λ c. cond c (in_ready r) (h.seat u)) (ne_eqb t u (λ y. eqb-false w v is (let j : in_lane w ≡ in_lane v = sym mine.0 ∙ ap h.seat y ∙ k.0 in cc))) ∙ k.0, k.1)

    others : (i : ℕ) (p : List (ℕ × A)) → ready i ≡ Some p → Apart t p
    others i p e = apart_seat tasks h.seat t i p (λ k. let j : in_lane w ≡ in_ready i = sym mine.0 ∙ k in absurd cc) (h.queued i p e)

    ready_in : (c : Bool) (i : ℕ) (p : List (ℕ × A)) → eqb r i ≡ c → cond c (Some (q ++ (t, a) ∷ [])) (ready i) ≡ Some p → EachSeated stands tasks seat2 i p
    ready_in true i p is e = subst (λ (p : List (ℕ × A)). EachSeated stands tasks seat2 i p) (some_same (q ++ (t, a) ∷ []) p e) (subst (λ (i : ℕ). EachSeated stands tasks seat2 i (q ++ (t, a) ∷ [])) (eqb-true r i is)
        (seated_end tasks seat2 r q (t, a) (others r q full) (ap (λ c. cond c (in_ready r) (h.seat t)) (eq-eqb t t refl)) mine.1 (reseat tasks h.seat t (in_ready r) r q (others r q full) (h.queued r q full))))
    ready_in false i p is e = reseat tasks h.seat t (in_ready r) i p (others i p e) (h.queued i p e)

    sits : (u : ℕ) → (t ≡ u → ⊥) → (s : Seat) → SitsAt stands lane ready s u → SitsAt stands (update eqb lane w (Some l2)) (update eqb ready r (Some (q ++ (t, a) ∷ []))) s u
    sits u ne (in_lane v) e = (e.0, e.1, update_apart lane w (Some l2) v (λ x. ne (let ll : l ≡ e.0 = some_same l e.0 (sym at ∙ ap lane (sym x) ∙ e.2) in first_same t u a e.1 (one_task l e.0 t u a e.1 ll has e.3))) ∙ e.2, e.3)
    sits u ne (in_ready i) e = dite (ℕ_discrete r i)
        (λ is. (
          q ++ (t, a) ∷ [],
          e.1,
          ap (update eqb ready r (Some (q ++ (t, a) ∷ []))) (sym is) ∙ update_here ready r (Some (q ++ (t, a) ∷ [])),
          Contains-append_left q ((t, a) ∷ []) (u, e.1) (subst (λ (l : List (ℕ × A)). Contains l (u, e.1)) (sym (some_same q e.0 (sym full ∙ ap ready is ∙ e.2))) e.3),
        ))
        (λ k. (e.0, e.1, update_apart ready r (Some (q ++ (t, a) ∷ [])) i (λ z. k (sym z)) ∙ e.2, e.3))
