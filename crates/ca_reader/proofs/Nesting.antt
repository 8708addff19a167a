-- A reading from left to right answers as `Reads` and `ReadFault` say, and these say one thing only.
use Rattle.std.proofs.Common.{◌≡◌, ℕ, suc, ◌<◌, refl, sym, ap, ◌∙◌, subst, Bool, true, false, Option, Some, None, Result, Ok, Err, ◌⊎◌, inl, inr, List}
use Rattle.std.specs.Prelude.{nat_lt, if◌then◌else◌}
use borrow.Author.Tests.{ltb-true, lt-ltb}
use Rattle.ca_reader.specs.declared.error.ReadErrorKind.TheVariants.{OddMap, StrayClose, TooDeep}
use Rattle.ca_term.specs.declared.place.Place.{Place}
use Rattle.ca_reader.specs.declared.form.Bracket.{Bracket}
use Rattle.ca_reader.specs.declared.form.Bracket.TheVariants.{Round, Square, Curly}
use Rattle.ca_reader.specs.declared.error.ReadErrorKind.{ReadErrorKind}
use Rattle.ca_reader.specs.Form.{Atom, FormTree, FormTrees, ShapeTree, form, atom, group, none, item}
use Rattle.ca_reader.specs.Pieces.{Piece, one, opener, closer, Pieces, end, stop, piece, pieces}
use Rattle.ca_reader.specs.Reads.{end_fault, Nest, NestForm, NestShape, Reads, ReadFault, Context, outside, inside, depth, ReadingStands, piece_fault, reading_fault, same_bracket, is_paired}
use Rattle.ca_reader.specs.Steps.{with_last, with_form, next, innermost}

-- a reading from left to right, piece by piece
abbrev pub unless : {A : Type 0} → Option (ReadErrorKind × Place) → Result A (ReadErrorKind × Place) → Result A (ReadErrorKind × Place)
unless None r = r
unless (Some e) r = Err e

unfoldable pub go : Pieces → Context → Result FormTrees (ReadErrorKind × Place)
go end c = unless (end_fault c) (Ok (innermost c))
go (stop k p) c = Err (k, p)
go (piece x p more) c = unless (piece_fault c x p) (go more (next c x p))

abbrev pub Answered : Pieces → Result FormTrees (ReadErrorKind × Place) → Type 0
Answered whole (Ok fs) = Nest 0 fs whole end
Answered whole (Err e) = (c : Context) × (rest : Pieces) × ReadingStands c whole rest × (reading_fault c rest ≡ Some e)

pub nest_last : (fs : FormTrees) (d : ℕ) (f : FormTree) (ps mid rest : Pieces) → Nest d fs ps mid → NestForm d f mid rest → Nest d (with_last fs f) ps rest
nest_last none d f ps mid rest e n = (rest, subst (λ (x : Pieces). NestForm d f x rest) (sym e) n, refl)
nest_last (item g gs) d f ps mid rest n m = (n.0, n.1, nest_last gs d f n.0 mid rest n.2 m)

pub stands_with : (c : Context) (f : FormTree) (whole ps rest : Pieces) → ReadingStands c whole ps → NestForm (depth c) f ps rest → ReadingStands (with_form c f) whole rest
stands_with (outside fs) f whole ps rest s n = nest_last fs 0 f whole ps rest s n
stands_with (inside c b p fs) f whole ps rest s n = (s.0, s.1, s.2, nest_last fs (suc (depth c)) f s.1 ps rest s.3 n)

pub same_is : (a b : Bracket) → same_bracket a b ≡ true → a ≡ b
same_is Round Round e = refl
same_is Square Square e = refl
same_is Curly Curly e = refl
same_is Round Square e = cc
same_is Round Curly e = cc
same_is Square Round e = cc
same_is Square Curly e = cc
same_is Curly Round e = cc
same_is Curly Square e = cc

pub same_self : (b : Bracket) → same_bracket b b ≡ true
same_self Round = refl
same_self Square = refl
same_self Curly = refl

pub passes : {E : Type 0} (b : Bool) (e : E) → (if b then None else Some e) ≡ None → b ≡ true
passes true e h = refl
passes false e h = cc

pub passes_both : {E : Type 0} (a b : Bool) (e f : E) → (if a then (if b then None else Some e) else Some f) ≡ None → (a ≡ true) × (b ≡ true)
passes_both true true e f h = (refl, refl)
passes_both true false e f h = cc
passes_both false b e f h = cc

pub stands_next : (c : Context) (x : Piece) (p : Place) (more whole : Pieces) → ReadingStands c whole (piece x p more) → piece_fault c x p ≡ None → ReadingStands (next c x p) whole more
stands_next c (one a) p more whole s e = stands_with c (form (atom a) p) whole (piece (one a) p more) more s refl
stands_next c (opener b) p more whole s e = (ltb-true (depth c) 200 (passes (nat_lt (depth c) 200) (TooDeep, p) e), more, s, refl)
stands_next (outside fs) (closer b) p more whole s e = cc
stands_next (inside c a q fs) (closer b) p more whole s e =
    let h = passes_both (same_bracket a b) (is_paired b fs) (OddMap, q) (StrayClose, p) e in
    let same : a ≡ b = same_is a b h.0 in
    stands_with c (form (group a fs) q) whole (piece (opener a) q s.1) more s.2 (
      s.0,
      subst (λ (x : Bracket). is_paired x fs ≡ true) (sym same) h.1,
      s.1,
      p,
      refl,
      subst (λ (x : Bracket). Nest (suc (depth c)) fs s.1 (piece (closer x) p more)) (sym same) s.3,
    )

pub sound : (ps : Pieces) (c : Context) (whole : Pieces) → ReadingStands c whole ps → Answered whole (go ps c)
unfolding go
sound end (outside fs) whole s = s
sound end (inside c b p fs) whole s = (inside c b p fs, end, s, refl)
sound (stop k p) c whole s = (c, stop k p, s, refl)
sound (piece x p more) c whole s =
    let by : (o : Option (ReadErrorKind × Place)) → piece_fault c x p ≡ o → Answered whole (unless o (go more (next c x p))) =
    λ o e. (elim o as (λ o. piece_fault c x p ≡ o → Answered whole (unless o (go more (next c x p)))) [
      | None ↦ λ e. sound more (next c x p) whole (stands_next c x p more whole s e)
      | Some f ↦ λ e. (c, piece x p more, s, e)
    ]) e
    in by (piece_fault c x p) refl

-- c with these forms behind its own
abbrev pub with_forms : FormTrees → Context → Context
with_forms none c = c
with_forms (item f fs) c = with_forms fs (with_form c f)

abbrev pub joined : FormTrees → FormTrees → FormTrees
joined none gs = gs
joined (item f fs) gs = item f (joined fs gs)

pub joined_last : (fs : FormTrees) (f : FormTree) (gs : FormTrees) → joined (with_last fs f) gs ≡ joined fs (item f gs)
joined_last none f gs = refl
joined_last (item g fs) f gs = ap (item g) (joined_last fs f gs)

pub joined_none : (fs : FormTrees) → joined fs none ≡ fs
joined_none none = refl
joined_none (item f fs) = ap (item f) (joined_none fs)

pub with_forms_outside : (gs fs : FormTrees) → with_forms gs (outside fs) ≡ outside (joined fs gs)
with_forms_outside none fs = ap outside (sym (joined_none fs))
with_forms_outside (item g gs) fs = with_forms_outside gs (with_last fs g) ∙ ap outside (joined_last fs g gs)

pub with_forms_inside : (gs : FormTrees) (c : Context) (b : Bracket) (p : Place) (fs : FormTrees) → with_forms gs (inside c b p fs) ≡ inside c b p (joined fs gs)
with_forms_inside none c b p fs = ap (inside c b p) (sym (joined_none fs))
with_forms_inside (item g gs) c b p fs = with_forms_inside gs c b p (with_last fs g) ∙ ap (inside c b p) (joined_last fs g gs)

pub depth_with : (c : Context) (f : FormTree) → depth (with_form c f) ≡ depth c
depth_with (outside fs) f = refl
depth_with (inside c b p fs) f = refl

pub go_atom : (c : Context) (a : Atom) (p : Place) (more : Pieces) → go (piece (one a) p more) c ≡ go more (with_form c (form (atom a) p))
unfolding go
go_atom c a p more = refl

pub go_opener : (c : Context) (b : Bracket) (p : Place) (more : Pieces) → depth c < 200 → go (piece (opener b) p more) c ≡ go more (inside c b p none)
unfolding go
go_opener c b p more h = rw (lt-ltb (depth c) 200 h) refl

pub go_closer : (c : Context) (b : Bracket) (p q : Place) (fs : FormTrees) (more : Pieces) → is_paired b fs ≡ true → go (piece (closer b) q more) (inside c b p fs) ≡ go more (with_form c (form (group b fs) p))
unfolding go
go_closer c b p q fs more h = rw (same_self b, h) refl

-- forms that stand next are read
mutual
  pub go_forms : (fs : FormTrees) (d : ℕ) (ps rest : Pieces) (c : Context) → Nest d fs ps rest → depth c ≡ d → go ps c ≡ go rest (with_forms fs c)
  go_forms none d ps rest c n e = ap (λ x. go x c) n
  go_forms (item f fs) d ps rest c n e =
      go_form f d ps n.0 c n.1 e ∙ go_forms fs d n.0 rest (with_form c f) n.2 (depth_with c f ∙ e)

  pub go_form : (f : FormTree) (d : ℕ) (ps rest : Pieces) (c : Context) → NestForm d f ps rest → depth c ≡ d → go ps c ≡ go rest (with_form c f)
  go_form (form s p) d ps rest c n e = go_shape s p d ps rest c n e

  pub go_shape : (s : ShapeTree) (p : Place) (d : ℕ) (ps rest : Pieces) (c : Context) → NestShape d s p ps rest → depth c ≡ d → go ps c ≡ go rest (with_form c (form s p))
  go_shape (atom a) p d ps rest c n e = ap (λ x. go x c) n ∙ go_atom c a p rest
  go_shape (group b fs) p d ps rest c n e =
      ap (λ x. go x c) n.4
      ∙ go_opener c b p n.2 (subst (λ (m : ℕ). m < 200) (sym e) n.0)
      ∙ go_forms fs (suc d) n.2 (piece (closer b) n.3 rest) (inside c b p none) n.5 (ap suc e)
      ∙ ap (go (piece (closer b) n.3 rest)) (with_forms_inside fs c b p none)
      ∙ go_closer c b p n.3 fs rest n.1

pub go_stands : (c : Context) (ps rest : Pieces) → ReadingStands c ps rest → go ps (outside none) ≡ go rest c
go_stands (outside fs) ps rest s = go_forms fs 0 ps rest (outside none) s refl ∙ ap (go rest) (with_forms_outside fs none)
go_stands (inside c b p fs) ps rest s =
    go_stands c ps (piece (opener b) p s.1) s.2
    ∙ go_opener c b p s.1 s.0
    ∙ go_forms fs (suc (depth c)) s.1 rest (inside c b p none) s.3 refl
    ∙ ap (go rest) (with_forms_inside fs c b p none)

pub go_fault : (c : Context) (rest : Pieces) (e : ReadErrorKind × Place) → reading_fault c rest ≡ Some e → go rest c ≡ Err e
unfolding go
go_fault c end e h = rw h refl
go_fault c (stop k p) e h = cc
go_fault c (piece x p more) e h = rw h refl

-- a reading of the pieces from their first one
abbrev pub answer : List ℕ → Result FormTrees (ReadErrorKind × Place)
answer bytes = go (pieces bytes) (outside none)

pub answer_reads : (bytes : List ℕ) (fs : FormTrees) → Reads bytes fs → answer bytes ≡ Ok fs
unfolding go
answer_reads bytes fs n = go_stands (outside fs) (pieces bytes) end n

pub answer_faults : (bytes : List ℕ) (k : ReadErrorKind) (p : Place) → ReadFault bytes k p → answer bytes ≡ Err (k, p)
answer_faults bytes k p f = go_stands f.0 (pieces bytes) f.1 f.2 ∙ go_fault f.0 f.1 (k, p) f.3

pub reads_answer : (bytes : List ℕ) (fs : FormTrees) → answer bytes ≡ Ok fs → Reads bytes fs
reads_answer bytes fs e = subst (Answered (pieces bytes)) e (sound (pieces bytes) (outside none) (pieces bytes) refl)

pub faults_answer : (bytes : List ℕ) (k : ReadErrorKind) (p : Place) → answer bytes ≡ Err (k, p) → ReadFault bytes k p
faults_answer bytes k p e = subst (Answered (pieces bytes)) e (sound (pieces bytes) (outside none) (pieces bytes) refl)

-- exactly one
pub some_reading : (bytes : List ℕ) → ((fs : FormTrees) × Reads bytes fs) ⊎ ((k : ReadErrorKind) × (p : Place) × ReadFault bytes k p)
some_reading bytes =
    let by : (r : Result FormTrees (ReadErrorKind × Place)) → answer bytes ≡ r → ((fs : FormTrees) × Reads bytes fs) ⊎ ((k : ReadErrorKind) × (p : Place) × ReadFault bytes k p) =
    λ r e. (elim r as (λ r. answer bytes ≡ r → ((fs : FormTrees) × Reads bytes fs) ⊎ ((k : ReadErrorKind) × (p : Place) × ReadFault bytes k p)) [
      | Ok fs ↦ λ e. inl (fs, reads_answer bytes fs e)
      | Err f ↦ λ e. inr (f.0, f.1, faults_answer bytes f.0 f.1 e)
    ]) e
    in by (answer bytes) refl

pub one_reading : (bytes : List ℕ) (fs gs : FormTrees) → Reads bytes fs → Reads bytes gs → fs ≡ gs
one_reading bytes fs gs n m = let e = answer_reads bytes fs n in let d = answer_reads bytes gs m in cc

pub one_fault : (bytes : List ℕ) (j k : ReadErrorKind) (p q : Place) → ReadFault bytes j p → ReadFault bytes k q → (j ≡ k) × (p ≡ q)
one_fault bytes j k p q f g = let e = answer_faults bytes j p f in
    let d = answer_faults bytes k q g in
    let a : ReadErrorKind × Place = (j, p) in
    let b : ReadErrorKind × Place = (k, q) in
    let h : a ≡ b = cc in
    (ap (λ (x : ReadErrorKind × Place). x.0) h, ap (λ (x : ReadErrorKind × Place). x.1) h)

pub not_both : (bytes : List ℕ) (fs : FormTrees) (k : ReadErrorKind) (p : Place) → Reads bytes fs → ReadFault bytes k p → ⊥
not_both bytes fs k p n f = let e = answer_reads bytes fs n in let d = answer_faults bytes k p f in cc
