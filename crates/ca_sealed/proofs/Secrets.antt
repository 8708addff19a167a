-- The forms that have hidden names are sealed.
use Rattle.std.proofs.Common.{◌≡◌, inl, inr, ℕ, suc, ◌<◌, List, [], ◌∷◌, refl, ◌∙◌, arith, Some}
use Rattle.ca_value.specs.Tree.{Tree, nil}
use Rattle.ca_value.specs.declared.builtin.Builtin.TheVariants.{Equal}
use Rattle.ca_term.specs.declared.place.Place.{Place}
use Rattle.ca_term.specs.declared.head.MakeKind.{MakeKind}
use Rattle.ca_term.specs.declared.head.SystemTask.{SystemTask}
use Rattle.ca_term.specs.declared.head.RegisterName.{RegisterName}
use Rattle.ca_term.specs.Kernel.{Kernel, Bindings, const, var, branch, seq}
use Rattle.ca_term.specs.View.{kernels_of}
use Rattle.ca_meaning.specs.Applied.{Work}
use Rattle.ca_forms.specs.Channels.{whole_number, built, make_call, spawn_call, register_call, nth_call, repeated}
use Rattle.ca_forms.specs.Meaning.{numbered}
use Rattle.ca_sealed.proofs.Used.{Only, OnlyBindings}
use Rattle.ca_roles.specs.Roles.{jobs, replies, acks, Role, public, hidden, Roles, no_roles, known_as}
use Rattle.ca_roles.specs.Sealed.{KeywordIs, no_keyword, a_keyword, plain, of_job, of_feed, of_collect, of_mult as mult_mask, Sealed, AllSealed, SealedBindings}
use Rattle.ca_sealed.proofs.Tidy.{HasKeyword, bare, keyed, Secret, of_mult, of_place, of_pipeline}
use Rattle.ca_sealed.proofs.Scopes.{Fresh, Stands, here, apart, fresh_next, with_roles, before, first}

-- a job's keyword is written there
pub keyword_is : {k : Tree} {ks : List Kernel} → HasKeyword k ks → (j : Kernel) → KeywordIs k (kernels_of (j ∷ ks))
keyword_is bare j = no_keyword
keyword_is keyed j = a_keyword

module _ (me base : ℕ) (us : List ℕ) where
  pub keyword_sealed : {k : Tree} {ks : List Kernel} → HasKeyword k ks → (scope : Roles) → AllSealed me no_roles [] (kernels_of ks) scope
  keyword_sealed bare scope = tt
  keyword_sealed keyed scope = (tt, tt)

  -- the terms of a form with hidden names, in the scope behind its operands
  abbrev pub IsBehind : Bindings → Kernel → Roles → Type 0
  IsBehind rest body scope = (inner : Roles) × SealedBindings me no_roles rest scope inner × Sealed me no_roles body inner

  pub mult_sealed : (m h a o : ℕ) (p : Place) → a ≡ m → o ≡ suc m → (scope : Roles) → scope h ≡ Some public → h < m → Fresh m scope
      → IsBehind (numbered m (make_call MakeKind.Unbuffered [] p ∷ make_call MakeKind.Mult (var h ∷ []) p ∷ []))
      (seq (kernels_of (spawn_call SystemTask.Mult (var o ∷ var h ∷ var a ∷ []) p ∷ var o ∷ []))) scope
  mult_sealed m h a o p ea eo scope at l s =
      let rs : List Role = hidden me acks ∷ public ∷ [] in
      let o_is : with_roles m rs scope o ≡ Some public = first (suc m) public [] (known_as scope m (hidden me acks)) o eo in
      let h_is : with_roles m rs scope h ≡ Some public = before m rs scope h l ∙ at in
      let a_is : with_roles m rs scope a ≡ Some (hidden me acks) = first m (hidden me acks) (public ∷ []) scope a ea in (
        with_roles m rs scope,
        (
          hidden me acks,
          (refl, inl ((_, _, _, refl, refl), ([], plain refl, tt))),
          s m (omega arith),
          (
            public,
            ([], plain refl, (before m (hidden me acks ∷ []) scope h l ∙ at, tt)),
            fresh_next scope m (hidden me acks) s (suc m) (omega arith),
            refl,
          ),
        ),
        ((public ∷ public ∷ hidden me acks ∷ [], mult_mask, (o_is, (h_is, ((refl, inr (a, refl, a_is)), tt)))), (o_is, tt)),
      )

  pub place_sealed : (q hp ht a o w : ℕ) (p : Place) → a ≡ suc q → o ≡ suc (suc q) → w ≡ suc (suc (suc q)) → (scope : Roles)
      → scope hp ≡ Some public → scope ht ≡ Some public → hp < q → ht < q → Fresh q scope
      → IsBehind (numbered q (make_call MakeKind.Unbuffered [] p ∷ make_call MakeKind.Unbuffered [] p ∷ make_call MakeKind.Mult (var q ∷ []) p
      ∷ register_call RegisterName.Place (var hp ∷ var ht ∷ var o ∷ var q ∷ []) p ∷ []))
      (seq (kernels_of (branch (built Equal (nth_call w 0 p ∷ var o ∷ []) p) (spawn_call SystemTask.Mult (var o ∷ var q ∷ var a ∷ []) p) (const nil) ∷ var w ∷ []))) scope
  place_sealed q hp ht a o w p ea eo ew scope is_p is_t lp lt s =
      let s1 : Roles = known_as scope q public in
      let s2 : Roles = known_as s1 (suc q) (hidden me acks) in
      let s3 : Roles = known_as s2 (suc (suc q)) public in
      let s4 : Roles = known_as s3 (suc (suc (suc q))) public in
      let f1 : Fresh (suc q) s1 = fresh_next scope q public s in
      let f2 : Fresh (suc (suc q)) s2 = fresh_next s1 (suc q) (hidden me acks) f1 in
      let f3 : Fresh (suc (suc (suc q))) s3 = fresh_next s2 (suc (suc q)) public f2 in
      let q2 : s2 q ≡ Some public = first q public (hidden me acks ∷ []) scope q refl in
      let q3 : s3 q ≡ Some public = first q public (hidden me acks ∷ public ∷ []) scope q refl in
      let q4 : s4 q ≡ Some public = first q public (hidden me acks ∷ public ∷ public ∷ []) scope q refl in
      let a4 : s4 a ≡ Some (hidden me acks) = first (suc q) (hidden me acks) (public ∷ public ∷ []) s1 a ea in
      let o3 : s3 o ≡ Some public = first (suc (suc q)) public [] s2 o eo in
      let o4 : s4 o ≡ Some public = first (suc (suc q)) public (public ∷ []) s2 o eo in
      let w4 : s4 w ≡ Some public = first (suc (suc (suc q))) public [] s3 w ew in
      let hp3 : s3 hp ≡ Some public = before q (public ∷ hidden me acks ∷ public ∷ []) scope hp lp ∙ is_p in
      let ht3 : s3 ht ≡ Some public = before q (public ∷ hidden me acks ∷ public ∷ []) scope ht lt ∙ is_t in (
        s4,
        (
          public,
          ([], plain refl, tt),
          s q (omega arith),
          (
            hidden me acks,
            (refl, inl ((_, _, _, refl, refl), ([], plain refl, tt))),
            f1 (suc q) (omega arith),
            (
              public,
              ([], plain refl, (q2, tt)),
              f2 (suc (suc q)) (omega arith),
              (public, ([], plain refl, (hp3, (ht3, (o3, (q3, tt))))), f3 (suc (suc (suc q))) (omega arith), refl),
            ),
          ),
        ),
        (
          (
            ([], plain refl, (([], plain refl, (w4, (tt, tt))), (o4, tt))),
            (public ∷ public ∷ hidden me acks ∷ [], mult_mask, (o4, (q4, ((refl, inr (a, refl, a4)), tt)))),
            tt,
          ),
          (w4, tt),
        ),
      )

  -- a job is started n times, i being the next number
  pub repeated_sealed : (x : Work) (ks : List Kernel) (n j i : ℕ) → HasKeyword x.keyword ks → (scope : Roles) → scope n ≡ Some public → scope j ≡ Some (hidden me (jobs x))
      → n < i → j < i → Fresh i scope → Sealed me no_roles (repeated n i (spawn_call (SystemTask.Job x.transform x.function) (var j ∷ ks) x.place) x.place) scope
  repeated_sealed x ks n j i k scope is_n is_j ln lj s =
      let inner : Roles = known_as scope i public in
      let at_n : inner n ≡ Some public = apart scope i n public (λ e. omega (arith, e, ln)) ∙ is_n in
      let at_j : inner j ≡ Some (hidden me (jobs x)) = apart scope i j public (λ e. omega (arith, e, lj)) ∙ is_j in
      let at_i : inner i ≡ Some public = here scope i i public refl in (
        inner,
        inner,
        (tt, s i (omega arith), refl),
        refl,
        (
          (
            ([], plain refl, (at_i, (at_n, tt))),
            (
              (hidden me (jobs x) ∷ [], of_job x (keyword_is k (var j)), ((refl, inr (j, refl, at_j)), keyword_sealed k inner)),
              (([], plain refl, (([], plain refl, (at_i, tt)), tt)), tt),
            ),
            tt,
          ),
          tt,
        ),
      )

  pub pipeline_sealed : (x : Work) (ks : List Kernel) (m n t f z j q r i : ℕ) → HasKeyword x.keyword ks → j ≡ m → q ≡ suc m → r ≡ suc (suc m) → i ≡ suc (suc (suc m))
      → (scope : Roles) → scope n ≡ Some public → scope t ≡ Some public → scope f ≡ Some public → scope z ≡ Some public → n < m → t < m → f < m → z < m → Fresh m scope
      → IsBehind (numbered m (make_call MakeKind.Fixed (var n ∷ []) x.place ∷ make_call MakeKind.Fixed (var n ∷ []) x.place ∷ make_call MakeKind.Fixed (whole_number 1 ∷ []) x.place ∷ []))
      (seq (kernels_of (repeated n i (spawn_call (SystemTask.Job x.transform x.function) (var j ∷ ks) x.place) x.place
      ∷ spawn_call SystemTask.Feed (var f ∷ var j ∷ var q ∷ []) x.place
      ∷ spawn_call SystemTask.Collect (var q ∷ var t ∷ var z ∷ var r ∷ []) x.place
      ∷ var r ∷ []))) scope
  pipeline_sealed x ks m n t f z j q r i k ej eq er ei scope is_n is_t is_f is_z ln lt lf lz s =
      let rs : List Role = hidden me (jobs x) ∷ hidden me (replies x) ∷ public ∷ [] in
      let s1 : Roles = known_as scope m (hidden me (jobs x)) in
      let s2 : Roles = known_as s1 (suc m) (hidden me (replies x)) in
      let s3 : Roles = known_as s2 (suc (suc m)) public in
      let f1 : Fresh (suc m) s1 = fresh_next scope m (hidden me (jobs x)) s in
      let f2 : Fresh (suc (suc m)) s2 = fresh_next s1 (suc m) (hidden me (replies x)) f1 in
      let f3 : Fresh (suc (suc (suc m))) s3 = fresh_next s2 (suc (suc m)) public f2 in
      let j3 : s3 j ≡ Some (hidden me (jobs x)) = first m (hidden me (jobs x)) (hidden me (replies x) ∷ public ∷ []) scope j ej in
      let q3 : s3 q ≡ Some (hidden me (replies x)) = first (suc m) (hidden me (replies x)) (public ∷ []) s1 q eq in
      let r3 : s3 r ≡ Some public = first (suc (suc m)) public [] s2 r er in (
        s3,
        (
          hidden me (jobs x),
          (refl, inl ((_, _, _, refl, refl), ([], plain refl, (is_n, tt)))),
          s m (omega arith),
          (
            hidden me (replies x),
            (refl, inl ((_, _, _, refl, refl), ([], plain refl, (before m (hidden me (jobs x) ∷ []) scope n ln ∙ is_n, tt)))),
            f1 (suc m) (omega arith),
            (public, ([], plain refl, (tt, tt)), f2 (suc (suc m)) (omega arith), refl),
          ),
        ),
        (
          repeated_sealed x ks n j i k s3 (before m rs scope n ln ∙ is_n) j3 (omega (arith, ln, ei)) (omega (arith, ej, ei)) (λ y l. f3 y (omega (arith, l, ei))),
          (
            (
              public ∷ hidden me (jobs x) ∷ hidden me (replies x) ∷ [],
              of_feed x,
              (before m rs scope f lf ∙ is_f, ((refl, inr (j, refl, j3)), ((refl, inr (q, refl, q3)), tt))),
            ),
            (
              (
                hidden me (replies x) ∷ [],
                of_collect x,
                ((refl, inr (q, refl, q3)), (before m rs scope t lt ∙ is_t, (before m rs scope z lz ∙ is_z, (r3, tt)))),
              ),
              (r3, tt),
            ),
          ),
        ),
      )

  pub secret_sealed : {m : ℕ} {rest : Bindings} {body : Kernel} → Secret m rest body → (scope : Roles) → Stands base us m scope
      → OnlyBindings base us rest → Only base us body → IsBehind rest body scope
  secret_sealed {m} (of_mult {h = h} {a = a} {o = o} l ea eo) scope s b w = mult_sealed m h a o _ ea eo scope (s.0 h l b.1.0.0) l s.1
  secret_sealed {m} (of_place {hp = hp} {ht = ht} {a = a} {o = o} {w = w} l k ea eo ew) scope s b u =
      place_sealed m hp ht a o w _ ea eo ew scope (s.0 hp l b.1.1.1.0.0) (s.0 ht k b.1.1.1.0.1.0) l k s.1
  secret_sealed {m} (of_pipeline {n = n} {t = t} {f = f} {z = z} {j = j} {q = q} {r = r} {i = i} x ks k ln lt lf lz ej eq er ei) scope s b u =
      pipeline_sealed x ks m n t f z j q r i k ej eq er ei scope (s.0 n ln b.0.0) (s.0 t lt u.1.1.0.1.0) (s.0 f lf u.1.0.0) (s.0 z lz u.1.1.0.1.1.0) ln lt lf lz s.1
