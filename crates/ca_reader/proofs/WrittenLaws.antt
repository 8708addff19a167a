-- The forms of a text are such as a text can write.
use Rattle.std.proofs.Common.{◌≡◌, ℕ, zero, suc, ◌^◌, ◌≤◌, ◌<◌, ℤ, pos, neg_ℤ, Bool, true, false, cond, List, [], ◌∷◌, length, take, drop, Option, Some, None, Result, Ok, Err, refl, sym, ap, ◌∙◌, subst, arith}
use Rattle.std.specs.Prelude.{not, ◌&&◌, ◌||◌, ◌==◌, nat_le, nat_lt, slice_index, if◌then◌else◌, codes}
use Rattle.std.specs.Str.{bytes_eq}
use Rattle.std.specs.Str.Parse.{digits_value}
use Rattle.std.specs.List.{list_all}
use Rattle.std.proofs.lemmas.Int.{ints}
use Rattle.std.proofs.lemmas.Bool.Decides.{nat_tests}
use Rattle.std.proofs.lemmas.List.Sums.{take_while-cons}
use Rattle.ca_value.specs.IsValue.{written, is_keyword_byte}
use Rattle.ca_value.specs.Numbers.{fits_64}
use Rattle.ca_term.specs.declared.place.Place.{Place}
use Rattle.ca_reader.specs.declared.error.ReadErrorKind.{ReadErrorKind}
use Rattle.ca_reader.specs.declared.error.ReadErrorKind.TheVariants.{BadByte}
use Rattle.ca_reader.specs.declared.form.Bracket.TheVariants.{Round, Square, Curly}
use Rattle.ca_reader.specs.Form.{Atom, nil, bool, int, text, key, symbol, FormTree, ShapeTree, FormTrees, form, atom, group, none, item}
use Rattle.ca_reader.specs.Bytes.{is_token_byte, is_separator, has_byte, past, start}
use Rattle.ca_reader.specs.Tokens.{unsigned, is_numeral, is_decimal, with_sign, number, or_bad_number, keyword, token_word, meaning}
use Rattle.ca_reader.specs.Texts.{TextCut, closed, unclosed, broken, text_cut}
use Rattle.ca_reader.specs.Pieces.{Piece, one, opener, closer, First, over, blank, found, wrong, first, text_first, token_first, bracket_first, comment_len, token, Pieces, end, stop, piece, pieces_step, pieces_within, pieces}
use Rattle.ca_reader.specs.Reads.{Nest, NestForm, NestShape, Reads}
use Rattle.ca_reader.specs.Written.{FormAtoms, ShapeAtoms, EachAtom, IsWrittenAtom, AreWritten, AtomHas, HaveScalars}

both : (a b : Bool) → (a && b) ≡ true → (a ≡ true) × (b ≡ true)
both true b e = (refl, e)
both false b e = cc

-- a token has token bytes alone
token_bytes : (bs : List ℕ) → list_all is_token_byte (token bs) ≡ true
token_bytes [] = refl
token_bytes (b ∷ bs) = subst (λ t. list_all is_token_byte t ≡ true) (sym (take_while-cons is_token_byte b bs)) (by (is_token_byte b) refl (token_bytes bs)) where
  by : (t : Bool) → is_token_byte b ≡ t → list_all is_token_byte (token bs) ≡ true → list_all is_token_byte (cond t (b ∷ token bs) []) ≡ true
  by true e r = rw e r
  by false e r = refl

behind_first : (s : List ℕ) → list_all is_token_byte s ≡ true → list_all is_token_byte (drop 1 s) ≡ true
behind_first [] e = refl
behind_first (b ∷ s) e = (both (is_token_byte b) (list_all is_token_byte s) e).1

-- a token byte that isn't the colon is one of keywords
turned : (b c : ℕ) → (b == c) ≡ false → (c == b) ≡ false
turned b c n = grind (arith, nat_tests)

keyword_byte : (b : ℕ) → is_token_byte b ≡ true → (58 == b) ≡ false → is_keyword_byte b ≡ true
unfolding is_token_byte
keyword_byte b e n = rw n at e

keyword_bytes : (s : List ℕ) → list_all is_token_byte s ≡ true → has_byte 58 s ≡ false → list_all is_keyword_byte s ≡ true
keyword_bytes [] e n = refl
keyword_bytes (b ∷ s) e n = by (b == 58) refl n (keyword_bytes s k.1) where
  k : (is_token_byte b ≡ true) × (list_all is_token_byte s ≡ true)
  k = both (is_token_byte b) (list_all is_token_byte s) e

  by : (t : Bool) → (b == 58) ≡ t → (t || has_byte 58 s) ≡ false → (has_byte 58 s ≡ false → list_all is_keyword_byte s ≡ true) → list_all is_keyword_byte (b ∷ s) ≡ true
  by true i n r = cc
  by false i n r = ap (λ t. t && list_all is_keyword_byte s) (keyword_byte b k.0 (turned b 58 i)) ∙ r n

abbrev IfAtom : Result Atom ReadErrorKind → Type 0
IfAtom (Ok a) = IsWrittenAtom a
IfAtom (Err k) = Unit {0}

keyword_written : (t : List ℕ) → list_all is_token_byte t ≡ true → IfAtom (keyword t)
keyword_written [] e = tt
keyword_written (a ∷ []) e = tt
keyword_written (a ∷ b ∷ s) e = by (nat_lt 1 (length (a ∷ b ∷ s))) (has_byte 58 (b ∷ s)) refl where
  by : (l h : Bool) → has_byte 58 (b ∷ s) ≡ h → IfAtom (if l && not h then Ok (key (b ∷ s)) else Err BadByte)
  by true false i = keyword_bytes (b ∷ s) (behind_first (a ∷ b ∷ s) e) i
  by true true i = tt
  by false h i = tt

-- numbers
abbrev IfNumber : Option ℤ → Type 0
IfNumber None = Unit {0}
IfNumber (Some z) = fits_64 z ≡ true

negative_fits : (n : ℕ) → nat_le n (2 ^ 63) ≡ true → fits_64 (neg_ℤ (pos n)) ≡ true
negative_fits zero e = refl
negative_fits (suc n) e = let l : suc n ≤ 2 ^ 63 = grind (arith, nat_tests) in grind (arith, ints)

natural_fits : (n : ℕ) → nat_lt n (2 ^ 63) ≡ true → fits_64 (pos n) ≡ true
natural_fits n e = let l : n < 2 ^ 63 = grind (arith, nat_tests) in grind (arith, ints)

signed_fits : (b : Bool) (n : ℕ) → IfNumber (with_sign b n)
signed_fits true n = by (nat_le n (2 ^ 63)) refl where
  by : (t : Bool) → nat_le n (2 ^ 63) ≡ t → IfNumber (if t then Some (neg_ℤ (pos n)) else None)
  by true e = negative_fits n e
  by false e = tt
signed_fits false n = by (nat_lt n (2 ^ 63)) refl where
  by : (t : Bool) → nat_lt n (2 ^ 63) ≡ t → IfNumber (if t then Some (pos n) else None)
  by true e = natural_fits n e
  by false e = tt

number_fits : (t : List ℕ) → IfNumber (number t)
number_fits t = by (is_decimal (unsigned t)) where
  by : (b : Bool) → IfNumber (if b then with_sign (slice_index t 0 == 45) (digits_value 10 (unsigned t)) else None)
  by true = signed_fits (slice_index t 0 == 45) (digits_value 10 (unsigned t))
  by false = tt

number_written : (o : Option ℤ) → IfNumber o → IfAtom (or_bad_number o)
number_written (Some z) h = h
number_written None h = tt

word_written : (t : List ℕ) → list_all is_token_byte t ≡ true → IsWrittenAtom (token_word t)
word_written t e = by (bytes_eq t (codes "nil")) (bytes_eq t (codes "true")) (bytes_eq t (codes "false")) where
  by : (a b c : Bool) → IsWrittenAtom (if a then nil else (if b then bool true else (if c then bool false else symbol t)))
  by true b c = tt
  by false true c = tt
  by false false true = tt
  by false false false = e

meaning_written : (t : List ℕ) → list_all is_token_byte t ≡ true → IfAtom (meaning t)
unfolding meaning
meaning_written t e = by (is_numeral t) (slice_index t 0 == 58) (has_byte 58 t) where
  by : (a b c : Bool) → IfAtom (if a then or_bad_number (number t) else (if b then keyword t else (if c then Err BadByte else Ok (token_word t))))
  by true b c = number_written (number t) (number_fits t)
  by false true c = keyword_written t e
  by false false true = tt
  by false false false = word_written t e

-- pieces
abbrev IfPiece : Piece → Type 0
IfPiece (one a) = IsWrittenAtom a
IfPiece (opener b) = Unit {0}
IfPiece (closer b) = Unit {0}

abbrev IfFirst : First → Type 0
IfFirst (found x n) = IfPiece x
IfFirst over = Unit {0}
IfFirst (blank n) = Unit {0}
IfFirst (wrong k n) = Unit {0}

text_written : (c : TextCut) → IfFirst (text_first c)
text_written (closed s n) = tt
text_written unclosed = tt
text_written (broken k n) = tt

token_written : (n : ℕ) (r : Result Atom ReadErrorKind) → IfAtom r → IfFirst (token_first n r)
token_written n (Ok a) h = h
token_written n (Err k) h = tt

bracket_written : (b : ℕ) → IfFirst (bracket_first b)
bracket_written b = by (b == 40) (b == 41) (b == 91) (b == 93) (b == 123) (b == 125) where
  by : (c d e f g h : Bool) → IfFirst (if c then found (opener Round) 1 else (if d then found (closer Round) 1 else (if e then found (opener Square) 1 else (if f then found (closer Square) 1 else (if g then found (opener Curly) 1 else (if h then found (closer Curly) 1 else wrong BadByte 0))))))
  by true d e f g h = tt
  by false true e f g h = tt
  by false false true f g h = tt
  by false false false true g h = tt
  by false false false false true h = tt
  by false false false false false true = tt
  by false false false false false false = tt

first_written : (bs : List ℕ) → IfFirst (first bs)
unfolding first
first_written [] = tt
first_written (b ∷ bs) = by (is_separator b) (b == 59) (b == 34) (is_token_byte b) where
  by : (c d e f : Bool) → IfFirst (if c then blank 1 else (if d then blank (comment_len (b ∷ bs)) else (if e then text_first (text_cut bs) else (if f then token_first (length (token (b ∷ bs))) (meaning (token (b ∷ bs))) else bracket_first b))))
  by true d e f = tt
  by false true e f = tt
  by false false true f = text_written (text_cut bs)
  by false false false true = token_written (length (token (b ∷ bs))) (meaning (token (b ∷ bs))) (meaning_written (token (b ∷ bs)) (token_bytes (b ∷ bs)))
  by false false false false = bracket_written b

abbrev AllPieces : Pieces → Type 0
AllPieces end = Unit {0}
AllPieces (stop k p) = Unit {0}
AllPieces (piece x p more) = IfPiece x × AllPieces more

step_written : (more : Place → List ℕ → Pieces) (p : Place) (bs : List ℕ) (f : First) → ((q : Place) (cs : List ℕ) → AllPieces (more q cs)) → IfFirst f → AllPieces (pieces_step more p bs f)
step_written more p bs over h i = tt
step_written more p bs (blank m) h i = h (past p (take m bs)) (drop m bs)
step_written more p bs (found x m) h i = (i, h (past p (take m bs)) (drop m bs))
step_written more p bs (wrong k m) h i = tt

within_written : (n : ℕ) (p : Place) (bs : List ℕ) → AllPieces (pieces_within n p bs)
unfolding pieces_within
within_written zero p bs = tt
within_written (suc n) p bs = step_written (pieces_within n) p bs (first bs) (λ q cs. within_written n q cs) (first_written bs)

-- forms
mutual
  nest_written : (d : ℕ) (fs : FormTrees) (ps rest : Pieces) → Nest d fs ps rest → AllPieces ps → EachAtom IsWrittenAtom fs × AllPieces rest
  nest_written d none ps rest n h = (tt, subst AllPieces n h)
  nest_written d (item f fs) ps rest n h =
      let k = form_written d f ps n.0 n.1 h in
      let j = nest_written d fs n.0 rest n.2 k.1 in
      ((k.0, j.0), j.1)

  form_written : (d : ℕ) (f : FormTree) (ps rest : Pieces) → NestForm d f ps rest → AllPieces ps → FormAtoms IsWrittenAtom f × AllPieces rest
  form_written d (form s p) ps rest n h = shape_written d s p ps rest n h

  shape_written : (d : ℕ) (s : ShapeTree) (p : Place) (ps rest : Pieces) → NestShape d s p ps rest → AllPieces ps → ShapeAtoms IsWrittenAtom s × AllPieces rest
  shape_written d (atom a) p ps rest n h = subst AllPieces n h
  shape_written d (group b fs) p ps rest n h =
      let k : AllPieces (piece (opener b) p n.2) = subst AllPieces n.4 h in
      let j = nest_written (suc d) fs n.2 (piece (closer b) n.3 rest) n.5 k.1 in
      (j.0, j.1.1)

pub reads_written : (bytes : List ℕ) (fs : FormTrees) → Reads bytes fs → AreWritten fs
reads_written bytes fs r = (nest_written 0 fs (pieces bytes) end r (within_written (suc (length bytes)) start bytes)).0

-- their integers and keywords
atom_has : (a : Atom) → IsWrittenAtom a → AtomHas written a
atom_has nil h = tt
atom_has (bool b) h = tt
atom_has (int z) h = h
atom_has (text s) h = tt
atom_has (key s) h = h
atom_has (symbol s) h = tt

mutual
  form_has : (f : FormTree) → FormAtoms IsWrittenAtom f → FormAtoms (AtomHas written) f
  form_has (form (atom a) p) h = atom_has a h
  form_has (form (group b fs) p) h = forms_have fs h

  pub forms_have : (fs : FormTrees) → AreWritten fs → HaveScalars written fs
  forms_have none h = tt
  forms_have (item f fs) h = (form_has f h.0, forms_have fs h.1)
