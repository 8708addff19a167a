-- What holds of a form's atoms, of groups of such forms and of rows of them holds of what is expanded.
use Rattle.std.proofs.Common.{◌≡◌, List, ℕ, subst, Bool, true, false, cond, Option, Some, None}
use Rattle.ca_term.specs.declared.place.Place.{Place}
use Rattle.ca_reader.specs.declared.form.Bracket.{Bracket}
use Rattle.ca_reader.specs.declared.form.Bracket.TheVariants.{Round, Square, Curly}
use Rattle.ca_reader.specs.Form.{FormTree, FormTrees, Atom, form, atom, group, nil, bool, int, text, key, symbol, none, item}
use Rattle.ca_reader.specs.Written.{FormAtoms, EachAtom}
use Rattle.ca_derived.specs.declared.word.Word.{Word}
use Rattle.ca_derived.specs.declared.error.FormsErrorKind.{FormsErrorKind}
use Rattle.ca_derived.specs.Outcome.{ExpansionOutcome, made, refused, after_expansion}
use Rattle.ca_derived.specs.Words.{word}
use Rattle.ca_derived.specs.Shapes.{shape_fault}
use Rattle.ca_derived.specs.Expand.{word_row, expand_symbol, expand_atom, leading_word, tail, rewritten, by_head, expand_group, expand_form, expand_all, expand_rest, begins_with_namespace, expand_behind, expand}

abbrev pub Every : (FormTree → Type 0) → FormTrees → Type 0
Every P none = Unit {0}
Every P (item f fs) = P f × Every P fs

abbrev IfMade : {A : Type 0} → ExpansionOutcome A → (A → Type 0) → Type 0
IfMade (made x) P = P x
IfMade (refused e p) P = Unit {0}

if_after : {A B : Type 0} (P : A → Type 0) (Q : B → Type 0) (o : ExpansionOutcome A) (k : A → ExpansionOutcome B) → IfMade o P → ((x : A) → P x → IfMade (k x) Q) → IfMade (after_expansion o k) Q
if_after P Q (made x) k h f = f x h
if_after P Q (refused e p) k h f = tt

module _ (A : Atom → Type 0) (P : FormTree → Type 0) (of_atom : (a : Atom) (p : Place) → A a → P (form (atom a) p)) (of_group : (b : Bracket) (fs : FormTrees) (p : Place) → Every P fs → P (form (group b fs) p))
    (of_row : (w : Word) (p : Place) (fs : FormTrees) → Every P fs → P (word_row w p fs)) where
  symbol_walked : (o : Option Word) (s : List ℕ) (p : Place) → A (symbol s) → IfMade (expand_symbol o s p) P
  symbol_walked None s p e = of_atom (symbol s) p e
  symbol_walked (Some w) s p e = tt

  atom_walked : (a : Atom) (p : Place) → A a → IfMade (expand_atom a p) P
  atom_walked (symbol s) p h = symbol_walked (word s) s p h
  atom_walked nil p h = of_atom nil p h
  atom_walked (bool b) p h = of_atom (bool b) p h
  atom_walked (int z) p h = of_atom (int z) p h
  atom_walked (text s) p h = of_atom (text s) p h
  atom_walked (key s) p h = of_atom (key s) p h

  row_walked : (k : Option FormsErrorKind) (w : Word) (p : Place) (parts : ExpansionOutcome FormTrees) → IfMade parts (Every P) → IfMade (rewritten k w p parts) P
  row_walked (Some e) w p parts h = tt
  row_walked None w p parts h = if_after (Every P) P parts (λ fs. made (word_row w p fs)) h (λ fs o. of_row w p fs o)

  group_walked : (b : Bracket) (p : Place) (o : ExpansionOutcome FormTrees) → IfMade o (Every P) → IfMade (after_expansion o (λ gs. made (form (group b gs) p))) P
  group_walked b p o h = if_after (Every P) P o (λ gs. made (form (group b gs) p)) h (λ gs q. of_group b gs p q)

  head_walked : (o : Option Word) (fs : FormTrees) (p : Place) (all rest : ExpansionOutcome FormTrees) → IfMade all (Every P) → IfMade rest (Every P) → IfMade (by_head o fs p all rest) P
  head_walked None fs p all rest h g = group_walked Round p all h
  head_walked (Some w) fs p all rest h g = row_walked (shape_fault w (tail fs)) w p rest g

  bracket_walked : (b : Bracket) (fs : FormTrees) (p : Place) (all rest : ExpansionOutcome FormTrees) → IfMade all (Every P) → IfMade rest (Every P) → IfMade (expand_group b fs p all rest) P
  bracket_walked Round fs p all rest h g = head_walked (leading_word fs) fs p all rest h g
  bracket_walked Square fs p all rest h g = group_walked Square p all h
  bracket_walked Curly fs p all rest h g = group_walked Curly p all h

  mutual
    form_walked : (f : FormTree) → FormAtoms A f → IfMade (expand_form f) P
    form_walked (form (atom a) p) h = atom_walked a p h
    form_walked (form (group b fs) p) h = bracket_walked b fs p (expand_all fs) (expand_rest fs) (all_walked fs h) (rest_walked fs h)

    all_walked : (fs : FormTrees) → EachAtom A fs → IfMade (expand_all fs) (Every P)
    all_walked none h = tt
    all_walked (item f fs) h =
        if_after P (Every P) (expand_form f) _ (form_walked f h.0)
        (λ g o. if_after (Every P) (Every P) (expand_all fs) (λ gs. made (item g gs)) (all_walked fs h.1) (λ gs q. (o, q)))

    rest_walked : (fs : FormTrees) → EachAtom A fs → IfMade (expand_rest fs) (Every P)
    rest_walked none h = tt
    rest_walked (item f fs) h = all_walked fs h.1

  -- a form as it is written
  mutual
    form_stays : (f : FormTree) → FormAtoms A f → P f
    form_stays (form (atom a) p) h = of_atom a p h
    form_stays (form (group b fs) p) h = of_group b fs p (all_stay fs h)

    all_stay : (fs : FormTrees) → EachAtom A fs → Every P fs
    all_stay none h = tt
    all_stay (item f fs) h = (form_stays f h.0, all_stay fs h.1)

  behind_walked : (fs : FormTrees) → EachAtom A fs → IfMade (expand_behind fs) (Every P)
  behind_walked none h = tt
  behind_walked (item f fs) h = if_after (Every P) (Every P) (expand_all fs) (λ gs. made (item f gs)) (all_walked fs h.1) (λ gs q. (form_stays f h.0, q))

  pub expanded_are : (fs gs : FormTrees) → EachAtom A fs → expand fs ≡ made gs → Every P gs
  expanded_are fs gs h e = by (begins_with_namespace fs) e where
    are : (o : ExpansionOutcome FormTrees) → IfMade o (Every P) → o ≡ made gs → Every P gs
    are (made hs) q i = subst (Every P) (let k : hs ≡ gs = cc in k) q
    are (refused k p) q i = cc

    by : (b : Bool) → cond b (expand_behind fs) (expand_all fs) ≡ made gs → Every P gs
    by true i = are (expand_behind fs) (behind_walked fs h) i
    by false i = are (expand_all fs) (all_walked fs h) i
