-- What is expanded binds each hidden name that it uses.
use Rattle.std.proofs.Common.{◌≡◌, ℕ, List, [], ◌∷◌, refl, ap, ◌∙◌, subst, Bool, true, false, eqb-true}
use Rattle.std.specs.Prelude.{◌||◌, ◌&&◌, ◌==◌, codes}
use Rattle.std.specs.List.{list_all}
use Rattle.ca_term.specs.declared.place.Place.{Place}
use Rattle.ca_reader.specs.declared.form.Bracket.TheVariants.{Round, Square}
use Rattle.ca_reader.specs.Form.{Atom, FormTree, FormTrees, form, atom, symbol, none, item, nil, bool, int, text, key}
use Rattle.ca_derived.specs.declared.word.Word.{Word}
use Rattle.ca_derived.specs.declared.word.Word.TheVariants.{Choose, ChooseBlocking, Reduce, Into, Split, Take}
use Rattle.ca_derived.specs.Outcome.{made}
use Rattle.ca_derived.specs.Forms.{name, nil_form}
use Rattle.ca_derived.specs.Rows.{call, number_form, reducing, reduced, task_of_take, take_form, parting, split_form, row_reduce, row_into, row_of_take, row_split}
use Rattle.ca_derived.specs.Expand.{word_row, expand}
use Rattle.ca_derived.specs.Hidden.{is_hidden_name, AllBound}
use Rattle.ca_reader.specs.Bytes.{is_token_byte}
use Rattle.ca_reader.specs.Written.{IsWrittenAtom, AreWritten}
use Rattle.ca_derived.proofs.HiddenLaws.{Over, AllOver, EachOver, fine_over, all_bound, group_over, plain_over, call_over, first, second, third, fourth, let_over}
use Rattle.ca_derived.proofs.Walked.{expanded_are}
use Rattle.ca_derived.proofs.HiddenChoice.{choose_fine}

-- the rows
reduced_fine : (p : Place) (f i c : FormTree) → Over [] f → Over [] i → Over [] c → Over [] (reduced p f i c)
reduced_fine p f i c of oi oc = let_over ((codes "#initial", i) ∷ (codes "#channel", c) ∷ []) refl (oi, (fine_over oc, (reducing_over, tt))) where
  reducing_over : Over (codes "#channel" ∷ codes "#initial" ∷ []) (reducing p f)
  reducing_over = let_over ((codes "#result", name p (codes "#initial")) ∷ []) refl (
    second,
    (
      let_over ((codes "#value", call p (codes "<!") (name p (codes "#channel") ∷ [])) ∷ []) refl (
        call_over refl (second, tt),
        (call_over refl (call_over refl (first, tt), (second, (call_over refl (group_over Round _ (fine_over of, (second, (first, tt))), tt), tt))), tt),
      ),
      tt,
    ),
  )

taken_fine : (p : Place) (n c : FormTree) (bs : List FormTree) → Over [] n → Over [] c → EachOver [] bs → Over [] (take_form p n c bs)
taken_fine p n c bs on oc ob =
    let_over ((codes "#bound", n) ∷ (codes "#channel", c) ∷ (codes "#out", call p (codes "chan") bs) ∷ []) refl
    (on, (fine_over oc, (fine_over (call_over refl ob), (taking_over, (first, tt))))) where
      taking_over : Over (codes "#out" ∷ codes "#channel" ∷ codes "#bound" ∷ []) (task_of_take p)
      taking_over = call_over refl (
        let_over ((codes "#count", number_form p 0) ∷ []) refl (
          record { at = λ ns h. tt },
          (
            call_over refl (
              call_over refl (first, (fourth, tt)),
              (
                let_over ((codes "#value", call p (codes "<!") (name p (codes "#channel") ∷ [])) ∷ []) refl (
                  call_over refl (third, tt),
                  (call_over refl (call_over refl (third, (first, tt)), (call_over refl (call_over refl (second, tt), tt), tt)), (record { at = λ ns h. tt }, tt)),
                ),
                tt,
              ),
            ),
            tt,
          ),
        ),
        (call_over refl (first, tt), tt),
      )

parted_fine : (p : Place) (f c : FormTree) → Over [] f → Over [] c → Over [] (split_form p f c)
parted_fine p f c of oc =
    let_over ((codes "#channel", c) ∷ (codes "#true", call p (codes "chan") []) ∷ (codes "#false", call p (codes "chan") []) ∷ []) refl
    (oc, (call_over refl tt, (call_over refl tt, (parting_over, (group_over Square _ (second, (first, tt)), tt))))) where
      parting_over : Over (codes "#false" ∷ codes "#true" ∷ codes "#channel" ∷ []) (parting p f)
      parting_over = let_over [] refl (
        let_over ((codes "#value", call p (codes "<!") (name p (codes "#channel") ∷ [])) ∷ []) refl (
          call_over refl (third, tt),
          (
            call_over refl (
              call_over refl (first, tt),
              (
                call_over refl (call_over refl (third, tt), (call_over refl (second, tt), tt)),
                (call_over refl (call_over refl (call_over refl (group_over Round _ (fine_over of, (first, tt)), (third, (second, tt))), (first, tt)), (call_over refl tt, (record { at = λ ns h. tt }, tt))), tt),
              ),
            ),
            tt,
          ),
        ),
        tt,
      )

-- every row
nothing_fine : (p : Place) → Over [] (nil_form p)
nothing_fine p = record { at = λ ns h. tt }

reduce_fine : (p : Place) (fs : FormTrees) → AllOver [] fs → Over [] (row_reduce p fs)
reduce_fine p (item f (item i (item c none))) o = reduced_fine p f i c o.0 o.1.0 o.1.1.0
reduce_fine p none o = nothing_fine p
reduce_fine p (item f none) o = nothing_fine p
reduce_fine p (item f (item i none)) o = nothing_fine p
reduce_fine p (item f (item i (item c (item d fs)))) o = nothing_fine p

into_fine : (p : Place) (fs : FormTrees) → AllOver [] fs → Over [] (row_into p fs)
into_fine p (item e (item c none)) o = reduced_fine p (name p (codes "conj")) e c (plain_over refl) o.0 o.1.0
into_fine p none o = nothing_fine p
into_fine p (item e none) o = nothing_fine p
into_fine p (item e (item c (item d fs))) o = nothing_fine p

take_fine : (p : Place) (fs : FormTrees) → AllOver [] fs → Over [] (row_of_take p fs)
take_fine p (item n (item c none)) o = taken_fine p n c [] o.0 o.1.0 tt
take_fine p (item n (item c (item b none))) o = taken_fine p n c (b ∷ []) o.0 o.1.0 (o.1.1.0, tt)
take_fine p none o = nothing_fine p
take_fine p (item n none) o = nothing_fine p
take_fine p (item n (item c (item b (item d fs)))) o = nothing_fine p

split_fine : (p : Place) (fs : FormTrees) → AllOver [] fs → Over [] (row_split p fs)
split_fine p (item f (item c none)) o = parted_fine p f c o.0 o.1.0
split_fine p none o = nothing_fine p
split_fine p (item f none) o = nothing_fine p
split_fine p (item f (item c (item d fs))) o = nothing_fine p

row_fine : (w : Word) (p : Place) (fs : FormTrees) → AllOver [] fs → Over [] (word_row w p fs)
row_fine Choose p fs o = choose_fine p (codes "alts!") fs refl o
row_fine ChooseBlocking p fs o = choose_fine p (codes "alts!!") fs refl o
row_fine Reduce p fs o = reduce_fine p fs o
row_fine Into p fs o = into_fine p fs o
row_fine Split p fs o = split_fine p fs o
row_fine Take p fs o = take_fine p fs o

-- a symbol of a script isn't hidden
no_mark : (b : ℕ) → is_token_byte b ≡ true → (b == 35) ≡ false
unfolding is_token_byte
no_mark b e = by (b == 35) (eqb-true b 35) where
  by : (t : Bool) → (t ≡ true → b ≡ 35) → t ≡ false
  by false f = refl
  by true f = let k : is_token_byte 35 ≡ true = subst (λ n. is_token_byte n ≡ true) (f refl) e in cc

shown : (s : List ℕ) → list_all is_token_byte s ≡ true → is_hidden_name s ≡ false
shown [] e = refl
shown (b ∷ s) e = by (is_token_byte b) refl e (shown s) where
  by : (t : Bool) → is_token_byte b ≡ t → (t && list_all is_token_byte s) ≡ true → (list_all is_token_byte s ≡ true → is_hidden_name s ≡ false) → ((b == 35) || is_hidden_name s) ≡ false
  by true i e r = ap (λ t. t || is_hidden_name s) (no_mark b i) ∙ r e
  by false i e r = cc

atom_over : (a : Atom) (p : Place) → IsWrittenAtom a → Over [] (form (atom a) p)
atom_over (symbol s) p h = plain_over (shown s h)
atom_over nil p h = record { at = λ ns h. tt }
atom_over (bool b) p h = record { at = λ ns h. tt }
atom_over (int z) p h = record { at = λ ns h. tt }
atom_over (text s) p h = record { at = λ ns h. tt }
atom_over (key s) p h = record { at = λ ns h. tt }

pub expanded_bound : (fs gs : FormTrees) → AreWritten fs → expand fs ≡ made gs → AllBound gs []
expanded_bound fs gs h e = all_bound [] [] gs (expanded_are IsWrittenAtom (Over []) atom_over (λ b hs p o. group_over b hs o) row_fine fs gs h e) tt
