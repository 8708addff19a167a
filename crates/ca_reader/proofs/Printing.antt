-- What printing writes reads to the same forms.
use Rattle.std.proofs.Common.{◌≡◌, ℕ, zero, suc, ◌<◌, ◌%◌, Bool, true, false, List, [], ◌∷◌, ◌++◌, length, take, drop, sym, ◌∙◌, ap, refl, subst, arith, Result, Ok, Err, append_assoc, append-nil}
use Rattle.std.specs.Prelude.{◌==◌, if◌then◌else◌, cond}
use Rattle.std.specs.List.{list_all}
use Rattle.std.proofs.lemmas.List.{take_at, drop_at}
use Rattle.std.proofs.lemmas.List.Sums.{take_while-cons}
use Rattle.ca_term.specs.declared.place.Place.{Place}
use Rattle.ca_reader.specs.declared.form.Bracket.{Bracket}
use Rattle.ca_reader.specs.declared.form.Bracket.TheVariants.{Round, Square, Curly}
use Rattle.ca_reader.specs.declared.error.ReadErrorKind.{ReadErrorKind}
use Rattle.ca_reader.specs.Form.{Atom, FormTree, FormTrees, ShapeTree, form, atom, group, none, item}
use Rattle.ca_reader.specs.Bytes.{past, start, is_token_byte, is_separator}
use Rattle.ca_reader.specs.Tokens.{meaning}
use Rattle.ca_reader.specs.Texts.{TextCut, closed, unclosed, broken, text_cut}
use Rattle.ca_reader.specs.Pieces.{Piece, one, opener, closer, First, over, blank, found, wrong, first, text_first, token_first, bracket_first, token, Pieces, end, stop, piece, pieces_step, pieces_within, pieces_from, pieces}
use Rattle.ca_reader.specs.Reads.{Nest, NestForm, NestShape, Reads, form_count, is_paired}
use Rattle.ca_reader.specs.Printed.{atom_text, opening, closing_bracket, form_text, shape_text, forms_text, more_text, bare_forms, bare_form, bare_shape, ReadsAside}
use Rattle.ca_reader.proofs.Readings.{pieces_from_is, pieces_within_step}
use Rattle.ca_reader.proofs.Spelling.{IsApart, IsSpelt, spelt_token, taken}
use Rattle.ca_reader.proofs.TextSpelling.{SaysText, text_says, spelt_text}

-- forms that printing writes so that they are read again, with d brackets open around them
abbrev mutual
  pub Prints : ℕ → FormTrees → Type 0
  Prints d none = Unit {0}
  Prints d (item f fs) = PrintsForm d f × Prints d fs

  pub PrintsForm : ℕ → FormTree → Type 0
  PrintsForm d (form s p) = PrintsShape d s

  pub PrintsShape : ℕ → ShapeTree → Type 0
  PrintsShape d (atom a) = IsSpelt a
  PrintsShape d (group b fs) = (d < 200) × (is_paired b fs ≡ true) × Prints (suc d) fs

-- every text or token among the pieces is spelt as printing writes it
abbrev pub AllSpelt : Pieces → Type 0
AllSpelt end = Unit {0}
AllSpelt (stop k p) = Unit {0}
AllSpelt (piece (one a) p more) = IsSpelt a × AllSpelt more
AllSpelt (piece (opener b) p more) = AllSpelt more
AllSpelt (piece (closer b) p more) = AllSpelt more

abbrev pub SpeltFirst : First → Type 0
SpeltFirst over = Unit {0}
SpeltFirst (blank m) = Unit {0}
SpeltFirst (found (one a) m) = IsSpelt a
SpeltFirst (found (opener b) m) = Unit {0}
SpeltFirst (found (closer b) m) = Unit {0}
SpeltFirst (wrong k m) = Unit {0}

pub if_spelt : (b : Bool) (x y : First) → (b ≡ true → SpeltFirst x) → (b ≡ false → SpeltFirst y) → SpeltFirst (if b then x else y)
if_spelt true x y h k = h refl
if_spelt false x y h k = k refl

pub text_first_spelt : (t : TextCut) → SaysText t → SpeltFirst (text_first t)
text_first_spelt (closed s n) h = spelt_text s h
text_first_spelt unclosed h = tt
text_first_spelt (broken k n) h = tt

pub token_first_spelt : (t : List ℕ) (n : ℕ) (r : Result Atom ReadErrorKind) → 0 < length t → list_all is_token_byte t ≡ true → meaning t ≡ r → SpeltFirst (token_first n r)
token_first_spelt t n (Ok a) l h e = spelt_token t a l h e
token_first_spelt t n (Err k) l h e = tt

pub bracket_first_spelt : (b : ℕ) → SpeltFirst (bracket_first b)
bracket_first_spelt b =
    if_spelt (b == 40) _ _ (λ e. tt) (λ e.
    if_spelt (b == 41) _ _ (λ e. tt) (λ e.
    if_spelt (b == 91) _ _ (λ e. tt) (λ e.
    if_spelt (b == 93) _ _ (λ e. tt) (λ e.
    if_spelt (b == 123) _ _ (λ e. tt) (λ e.
    if_spelt (b == 125) _ _ (λ e. tt) (λ e. tt))))))

pub all_case : (t : Bool) (b : ℕ) (x : List ℕ) → is_token_byte b ≡ t → list_all is_token_byte x ≡ true → list_all is_token_byte (cond t (b ∷ x) []) ≡ true
all_case true b x e h = rw (e, h) refl
all_case false b x e h = refl

pub token_all : (bs : List ℕ) → list_all is_token_byte (token bs) ≡ true
token_all [] = refl
token_all (b ∷ bs) =
    ap (list_all is_token_byte) (take_while-cons is_token_byte b bs) ∙ all_case (is_token_byte b) b (token bs) refl (token_all bs)

pub token_some : (b : ℕ) (bs : List ℕ) → is_token_byte b ≡ true → 0 < length (token (b ∷ bs))
token_some b bs h =
    let e : token (b ∷ bs) ≡ b ∷ token bs = take_while-cons is_token_byte b bs ∙ taken (is_token_byte b) _ _ h in
    subst (λ (x : List ℕ). 0 < length x) (sym e) (omega arith)

pub first_spelt : (bs : List ℕ) → SpeltFirst (first bs)
unfolding first
first_spelt [] = tt
first_spelt (b ∷ bs) =
    if_spelt (is_separator b) _ _ (λ e. tt) (λ e.
    if_spelt (b == 59) _ _ (λ e. tt) (λ e.
    if_spelt (b == 34) _ _ (λ e. text_first_spelt (text_cut bs) (text_says (suc (length bs)) bs)) (λ e.
    if_spelt (is_token_byte b) _ _
    (λ e. token_first_spelt (token (b ∷ bs)) (length (token (b ∷ bs))) (meaning (token (b ∷ bs))) (token_some b bs e) (token_all (b ∷ bs)) refl)
    (λ e. bracket_first_spelt b))))

pub pieces_step_spelt : (more : Place → List ℕ → Pieces) (p : Place) (bs : List ℕ) (f : First) → SpeltFirst f → ((q : Place) (ds : List ℕ) → AllSpelt (more q ds)) → AllSpelt (pieces_step more p bs f)
pieces_step_spelt more p bs over h k = tt
pieces_step_spelt more p bs (blank m) h k = k (past p (take m bs)) (drop m bs)
pieces_step_spelt more p bs (found (one a) m) h k = (h, k (past p (take m bs)) (drop m bs))
pieces_step_spelt more p bs (found (opener b) m) h k = k (past p (take m bs)) (drop m bs)
pieces_step_spelt more p bs (found (closer b) m) h k = k (past p (take m bs)) (drop m bs)
pieces_step_spelt more p bs (wrong j m) h k = tt

pub pieces_spelt : (n : ℕ) (p : Place) (bs : List ℕ) → AllSpelt (pieces_within n p bs)
unfolding pieces_within
pieces_spelt zero p bs = tt
pieces_spelt (suc n) p bs = rw (pieces_within_step n p bs) (pieces_step_spelt (pieces_within n) p bs (first bs) (first_spelt bs) (λ q ds. pieces_spelt n q ds))

-- forms that are read are printed so that they are read again
mutual
  pub prints_forms : (fs : FormTrees) (d : ℕ) (ps rest : Pieces) → Nest d fs ps rest → AllSpelt ps → Prints d fs × AllSpelt rest
  prints_forms none d ps rest n s = (tt, subst AllSpelt n s)
  prints_forms (item f fs) d ps rest n s =
      let h = prints_form f d ps n.0 n.1 s in
      let k = prints_forms fs d n.0 rest n.2 h.1 in
      ((h.0, k.0), k.1)

  pub prints_form : (f : FormTree) (d : ℕ) (ps rest : Pieces) → NestForm d f ps rest → AllSpelt ps → PrintsForm d f × AllSpelt rest
  prints_form (form t p) d ps rest n s = prints_shape t p d ps rest n s

  pub prints_shape : (t : ShapeTree) (p : Place) (d : ℕ) (ps rest : Pieces) → NestShape d t p ps rest → AllSpelt ps → PrintsShape d t × AllSpelt rest
  prints_shape (atom a) p d ps rest n s = subst AllSpelt n s
  prints_shape (group b fs) p d ps rest n s =
      let h = prints_forms fs (suc d) n.2 (piece (closer b) n.3 rest) n.5 (subst AllSpelt n.4 s) in
      ((n.0, n.1, h.0), h.1)

-- places are no part of a text
mutual
  pub forms_text_bare : (fs : FormTrees) → forms_text (bare_forms fs) ≡ forms_text fs
  forms_text_bare none = refl
  forms_text_bare (item f fs) = let e = form_text_bare f in let d = more_text_bare fs in cc

  pub more_text_bare : (fs : FormTrees) → more_text (bare_forms fs) ≡ more_text fs
  more_text_bare none = refl
  more_text_bare (item f fs) = let e = form_text_bare f in let d = more_text_bare fs in cc

  pub form_text_bare : (f : FormTree) → form_text (bare_form f) ≡ form_text f
  form_text_bare (form s p) = shape_text_bare s

  pub shape_text_bare : (s : ShapeTree) → shape_text (bare_shape s) ≡ shape_text s
  shape_text_bare (atom a) = refl
  shape_text_bare (group b fs) = ap (λ (x : List ℕ). opening b ∷ (x ++ closing_bracket b ∷ [])) (forms_text_bare fs)

pub count_bare : (fs : FormTrees) → form_count (bare_forms fs) ≡ form_count fs
count_bare none = refl
count_bare (item f fs) = ap suc (count_bare fs)

pub paired_bare : (b : Bracket) (fs gs : FormTrees) → bare_forms gs ≡ bare_forms fs → is_paired b fs ≡ true → is_paired b gs ≡ true
paired_bare Round fs gs e h = refl
paired_bare Square fs gs e h = refl
paired_bare Curly fs gs e h =
    let d : form_count gs ≡ form_count fs = sym (count_bare gs) ∙ ap form_count e ∙ count_bare fs in
    ap (λ (n : ℕ). n % 2 == 0) d ∙ h

-- what stands at the front of a text is its first piece
pub pieces_found : (p : Place) (w tail : List ℕ) (x : Piece) → first (w ++ tail) ≡ found x (length w) → pieces_from p (w ++ tail) ≡ piece x p (pieces_from (past p w) tail)
pieces_found p w tail x h =
    pieces_from_is p (w ++ tail) (found x (length w)) (sym h)
    ∙ ap (λ (y : List ℕ). piece x p (pieces_from (past p y) (drop (length w) (w ++ tail)))) (take_at w tail (length w) refl)
    ∙ ap (λ (y : List ℕ). piece x p (pieces_from (past p w) y)) (drop_at w tail (length w) refl)

pub pieces_space : (p : Place) (tail : List ℕ) → pieces_from p (32 ∷ tail) ≡ pieces_from (past p (32 ∷ [])) tail
unfolding first
pieces_space p tail = pieces_from_is p (32 ∷ tail) (blank 1) refl

pub first_opening : (b : Bracket) (tail : List ℕ) → first (opening b ∷ tail) ≡ found (opener b) 1
unfolding first is_token_byte
first_opening Round tail = refl
first_opening Square tail = refl
first_opening Curly tail = refl

pub first_closing : (b : Bracket) (tail : List ℕ) → first (closing_bracket b ∷ tail) ≡ found (closer b) 1
unfolding first is_token_byte
first_closing Round tail = refl
first_closing Square tail = refl
first_closing Curly tail = refl

pub closing_apart : (b : Bracket) → is_token_byte (closing_bracket b) ≡ false
unfolding is_token_byte
closing_apart Round = refl
closing_apart Square = refl
closing_apart Curly = refl

pub space_apart : is_token_byte 32 ≡ false
unfolding is_token_byte
space_apart = refl

pub more_apart : (fs : FormTrees) (tail : List ℕ) → IsApart tail → IsApart (more_text fs ++ tail)
more_apart none tail a = a
more_apart (item f fs) tail a = space_apart

-- these bytes begin with these forms, places aside, and go on with tail
abbrev pub Begins : ℕ → FormTrees → Place → List ℕ → List ℕ → Type 0
Begins d fs p bytes tail = (gs : FormTrees) × (q : Place) × (bare_forms gs ≡ bare_forms fs) × Nest d gs (pieces_from p bytes) (pieces_from q tail)

abbrev pub BeginsForm : ℕ → FormTree → Place → List ℕ → List ℕ → Type 0
BeginsForm d f p bytes tail = (g : FormTree) × (q : Place) × (bare_form g ≡ bare_form f) × NestForm d g (pieces_from p bytes) (pieces_from q tail)

pub begins_item : (d : ℕ) (f : FormTree) (fs : FormTrees) (p : Place) (bytes mid tail : List ℕ) (x : BeginsForm d f p bytes mid) → Begins d fs x.1 mid tail → Begins d (item f fs) p bytes tail
begins_item d f fs p bytes mid tail x y =
    let e = x.2 in let k = y.2 in
    (item x.0 y.0, y.1, cc, (pieces_from x.1 mid, x.3, y.3))

mutual
  pub begins_forms : (fs : FormTrees) (d : ℕ) (p : Place) (tail : List ℕ) → Prints d fs → IsApart tail → Begins d fs p (forms_text fs ++ tail) tail
  begins_forms none d p tail h a = (none, p, refl, refl)
  begins_forms (item f fs) d p tail h a =
      let x = begins_form f d p (more_text fs ++ tail) h.0 (more_apart fs tail a) in
      subst (λ (bs : List ℕ). Begins d (item f fs) p bs tail) (sym (append_assoc (form_text f) (more_text fs) tail))
      (begins_item d f fs p (form_text f ++ (more_text fs ++ tail)) (more_text fs ++ tail) tail x (begins_more fs d x.1 tail h.1 a))

  pub begins_more : (fs : FormTrees) (d : ℕ) (p : Place) (tail : List ℕ) → Prints d fs → IsApart tail → Begins d fs p (more_text fs ++ tail) tail
  begins_more none d p tail h a = (none, p, refl, refl)
  begins_more (item f fs) d p tail h a =
      let x = begins_form f d (past p (32 ∷ [])) (more_text fs ++ tail) h.0 (more_apart fs tail a) in
      let y : Begins d (item f fs) (past p (32 ∷ [])) ((form_text f ++ more_text fs) ++ tail) tail =
      subst (λ (bs : List ℕ). Begins d (item f fs) (past p (32 ∷ [])) bs tail) (sym (append_assoc (form_text f) (more_text fs) tail))
      (begins_item d f fs (past p (32 ∷ [])) (form_text f ++ (more_text fs ++ tail)) (more_text fs ++ tail) tail x (begins_more fs d x.1 tail h.1 a)) in
      (y.0, y.1, y.2, subst (λ (ps : Pieces). Nest d y.0 ps (pieces_from y.1 tail)) (sym (pieces_space p ((form_text f ++ more_text fs) ++ tail))) y.3)

  pub begins_form : (f : FormTree) (d : ℕ) (p : Place) (tail : List ℕ) → PrintsForm d f → IsApart tail → BeginsForm d f p (form_text f ++ tail) tail
  begins_form (form s q) d p tail h a = begins_shape s q d p tail h a

  pub begins_shape : (s : ShapeTree) (q : Place) (d : ℕ) (p : Place) (tail : List ℕ) → PrintsShape d s → IsApart tail → BeginsForm d (form s q) p (shape_text s ++ tail) tail
  begins_shape (atom t) q d p tail h a = (form (atom t) p, past p (atom_text t), refl, pieces_found p (atom_text t) tail (one t) (h tail a))
  begins_shape (group b fs) q d p tail h a =
      let e = append_assoc (forms_text fs) (closing_bracket b ∷ []) tail in
      let x = begins_forms fs (suc d) (past p (opening b ∷ [])) (closing_bracket b ∷ tail) h.2 (closing_apart b) in (
        form (group b x.0) p,
        past x.1 (closing_bracket b ∷ []),
        ap (λ (y : FormTrees). form (group b y) start) x.2,
        (
          h.0,
          paired_bare b fs x.0 x.2 h.1,
          pieces_from (past p (opening b ∷ [])) (forms_text fs ++ closing_bracket b ∷ tail),
          x.1,
          pieces_found p (opening b ∷ []) ((forms_text fs ++ closing_bracket b ∷ []) ++ tail) (opener b) (first_opening b _)
              ∙ ap (λ (bs : List ℕ). piece (opener b) p (pieces_from (past p (opening b ∷ [])) bs)) e,
          subst (Nest (suc d) x.0 (pieces_from (past p (opening b ∷ [])) (forms_text fs ++ closing_bracket b ∷ tail))) (pieces_found x.1 (closing_bracket b ∷ []) tail (closer b) (first_closing b tail)) x.3,
        ),
      )

pub pieces_end : (p : Place) → pieces_from p [] ≡ end
unfolding first
pieces_end p = pieces_from_is p [] over refl

pub printed_reads : (fs : FormTrees) → Prints 0 fs → ReadsAside (forms_text fs) fs
printed_reads fs h =
    let x : Begins 0 fs start (forms_text fs) [] = subst (λ (bs : List ℕ). Begins 0 fs start bs []) (append-nil (forms_text fs)) (begins_forms fs 0 start [] h tt) in
    (x.0, subst (Nest 0 x.0 (pieces (forms_text fs))) (pieces_end x.1) x.3, x.2)

-- what is printed of forms that some text reads to, places aside, reads to them
pub print_reads : (fs : FormTrees) → (bytes : List ℕ) × ReadsAside bytes fs → ReadsAside (forms_text fs) fs
print_reads fs r =
    let gs = r.1.0 in
    let h = prints_forms gs 0 (pieces r.0) end r.1.1 (pieces_spelt (suc (length r.0)) start r.0) in
    let x = printed_reads gs h.0 in
    let e : forms_text gs ≡ forms_text fs = sym (forms_text_bare gs) ∙ ap forms_text r.1.2 ∙ forms_text_bare fs in
    (x.0, subst (λ (bs : List ℕ). Reads bs x.0) e x.1, x.2 ∙ r.1.2)
