-- Forms whose hidden names are bound, and lists of such forms.
use Rattle.std.proofs.Common.{◌≡◌, ℕ, List, [], ◌∷◌, ◌++◌, refl, sym, ap, subst, Bool, true, false}
use Rattle.std.specs.Prelude.{not, ◌||◌}
use Rattle.std.specs.List.{list_any}
use Rattle.std.specs.Str.{bytes_eq}
use Rattle.std.proofs.lemmas.Slice.Eq.{bytes_eq-Decides}
use Rattle.ca_term.specs.declared.place.Place.{Place}
use Rattle.ca_reader.specs.declared.form.Bracket.{Bracket}
use Rattle.ca_reader.specs.declared.form.Bracket.TheVariants.{Round, Square, Curly}
use Rattle.ca_reader.specs.Form.{FormTree, FormTrees, form, atom, group, symbol, none, item, nil, bool, int, text, key}
use Rattle.ca_reader.specs.View.{form_trees_of}
use Rattle.ca_derived.specs.Forms.{name}
use Rattle.ca_derived.proofs.Walked.{Every}
use Rattle.ca_derived.specs.Hidden.{is_hidden_name, is_binder, is_binding_form, Names, is_bound, with_hidden_name, either, IsBound, AllBound, ListBound, PairsBound, ValueBound}

-- each of the names is bound
abbrev pub Has : Names → Names → Type 0
Has ns [] = Unit {0}
Has ns (m ∷ ms) = (is_bound ns m ≡ true) × Has ns ms

-- the form's hidden names are bound wherever these are
pub record Over (ms : Names) (f : FormTree) : Type 0 where
  pub at : (ns : Names) → Has ns ms → IsBound f ns

abbrev pub AllOver : Names → FormTrees → Type 0
AllOver ms fs = Every (Over ms) fs

abbrev pub EachOver : Names → List FormTree → Type 0
EachOver ms fs = AllOver ms (form_trees_of fs)

pub has_left : (ms ks ns : Names) → Has ns (ms ++ ks) → Has ns ms
has_left [] ks ns h = tt
has_left (m ∷ ms) ks ns h = (h.0, has_left ms ks ns h.1)

pub has_right : (ms ks ns : Names) → Has ns (ms ++ ks) → Has ns ks
has_right [] ks ns h = h
has_right (m ∷ ms) ks ns h = has_right ms ks ns h.1

-- a name more is bound
pub one_more : (b c d : Bool) → (b || c) ≡ true → (b || (d || c)) ≡ true
one_more true c d e = refl
one_more false true true e = refl
one_more false true false e = refl
one_more false false d e = cc

pub still_bound : (m s : List ℕ) (ns : Names) → is_bound ns s ≡ true → is_bound (m ∷ ns) s ≡ true
still_bound m s ns e = one_more (not (is_hidden_name s)) (list_any (bytes_eq s) ns) (bytes_eq s m) e

pub has_more : (m : List ℕ) (ms ns : Names) → Has ns ms → Has (m ∷ ns) ms
has_more m [] ns h = tt
has_more m (k ∷ ks) ns h = (still_bound m k ns h.0, has_more m ks ns h.1)

pub has_named : (f : FormTree) (ms ns : Names) → Has ns ms → Has (with_hidden_name f ns) ms
has_named (form (atom (symbol s)) p) ms ns h = has_more s ms ns h
has_named (form (atom nil) p) ms ns h = h
has_named (form (atom (bool b)) p) ms ns h = h
has_named (form (atom (int z)) p) ms ns h = h
has_named (form (atom (text s)) p) ms ns h = h
has_named (form (atom (key s)) p) ms ns h = h
has_named (form (group b fs) p) ms ns h = h

pub self_bound : (m : List ℕ) (ns : Names) → is_bound (m ∷ ns) m ≡ true
self_bound m ns = by (not (is_hidden_name m)) (bytes_eq m m) ((bytes_eq-Decides m m).1 refl) where
  by : (b c : Bool) → c ≡ true → (b || (c || list_any (bytes_eq m) ns)) ≡ true
  by true c e = refl
  by false true e = refl
  by false false e = cc

pub over_more : (ms ks : Names) (fs : FormTrees) → AllOver ms fs → AllOver (ms ++ ks) fs
over_more ms ks none o = tt
over_more ms ks (item f fs) o = (record { at = λ ns h. o.0.at ns (has_left ms ks ns h) }, over_more ms ks fs o.1)

pub fine_over : {ms : Names} {f : FormTree} → Over [] f → Over ms f
fine_over o = record { at = λ ns h. o.at ns tt }

pub each_over : (ms : Names) (fs gs : List FormTree) → EachOver ms fs → EachOver ms gs → EachOver ms (fs ++ gs)
each_over ms [] gs o q = q
each_over ms (f ∷ fs) gs o q = (o.0, each_over ms fs gs o.1 q)

-- a group of forms
pub all_bound : (ms ns : Names) (fs : FormTrees) → AllOver ms fs → Has ns ms → AllBound fs ns
all_bound ms ns none o h = tt
all_bound ms ns (item f fs) o h = (o.0.at ns h, all_bound ms ns fs o.1 h)

pub items_over : (ms : Names) (fs : FormTrees) → ((ns : Names) → Has ns ms → AllBound fs ns) → AllOver ms fs
items_over ms none o = tt
items_over ms (item f fs) o = (record { at = λ ns h. (o ns h).0 }, items_over ms fs (λ ns h. (o ns h).1))

mutual
  pairs_over : (ms : Names) (fs body : FormTrees) → AllOver ms fs → AllOver ms body → (ns : Names) → Has ns ms → PairsBound fs (AllBound body) ns
  pairs_over ms none body o q ns h = all_bound ms ns body q h
  pairs_over ms (item n fs) body o q ns h = value_over ms n fs body o.1 q ns h

  value_over : (ms : Names) (n : FormTree) (fs body : FormTrees) → AllOver ms fs → AllOver ms body → (ns : Names) → Has ns ms → ValueBound n fs (AllBound body) ns
  value_over ms n none body o q ns h = all_bound ms ns body q h
  value_over ms n (item e fs) body o q ns h = (o.0.at ns h, pairs_over ms fs body o.1 q (with_hidden_name n ns) (has_named n ms ns h))

pub list_over : (ms : Names) (fs : FormTrees) → is_binding_form Round fs ≡ true → AllOver ms fs → (ns : Names) → Has ns ms → ListBound fs ns
list_over ms none e o ns h = tt
list_over ms (item f none) e o ns h = tt
list_over ms (item f (item (form (group Square bs) p) fs)) e o ns h = pairs_over ms bs fs (items_over ms bs (λ ks g. o.1.0.at ks g)) o.1.1 ns h
list_over ms (item f (item (form (group Round bs) p) fs)) e o ns h = cc
list_over ms (item f (item (form (group Curly bs) p) fs)) e o ns h = cc
list_over ms (item f (item (form (atom a) p) fs)) e o ns h = cc

pub group_over : {ms : Names} {p : Place} (b : Bracket) (fs : FormTrees) → AllOver ms fs → Over ms (form (group b fs) p)
group_over {ms} Round fs o = record { at = λ ns h. by ns h (is_binding_form Round fs) refl } where
  by : (ns : Names) → Has ns ms → (t : Bool) → is_binding_form Round fs ≡ t → either t (ListBound fs) (AllBound fs) ns
  by ns h true e = list_over ms fs e o ns h
  by ns h false e = all_bound ms ns fs o h
group_over {ms} Square fs o = record { at = λ ns h. all_bound ms ns fs o h }
group_over {ms} Curly fs o = record { at = λ ns h. all_bound ms ns fs o h }

-- a list that begins with a word
pub plain_bound : (ns : Names) (s : List ℕ) → is_hidden_name s ≡ false → is_bound ns s ≡ true
plain_bound ns s e = ap (λ b. not b || list_any (bytes_eq s) ns) e

pub plain_over : {ms : Names} {p : Place} {s : List ℕ} → is_hidden_name s ≡ false → Over ms (form (atom (symbol s)) p)
plain_over {s = s} e = record { at = λ ns h. plain_bound ns s e }

pub call_over : {ms : Names} {p q : Place} {s : List ℕ} {fs : FormTrees} → is_hidden_name s ≡ false → AllOver ms fs → Over ms (form (group Round (item (form (atom (symbol s)) p) fs)) q)
call_over {p = p} {s = s} {fs = fs} e o = group_over Round (item (form (atom (symbol s)) p) fs) (plain_over e, o)

-- names in scope, the innermost first
pub first : {ms : Names} {m : List ℕ} {p : Place} → Over (m ∷ ms) (form (atom (symbol m)) p)
first = record { at = λ ns h. h.0 }

pub second : {ms : Names} {l m : List ℕ} {p : Place} → Over (l ∷ m ∷ ms) (form (atom (symbol m)) p)
second = record { at = λ ns h. h.1.0 }

pub third : {ms : Names} {k l m : List ℕ} {p : Place} → Over (k ∷ l ∷ m ∷ ms) (form (atom (symbol m)) p)
third = record { at = λ ns h. h.1.1.0 }

pub fourth : {ms : Names} {j k l m : List ℕ} {p : Place} → Over (j ∷ k ∷ l ∷ m ∷ ms) (form (atom (symbol m)) p)
fourth = record { at = λ ns h. h.1.1.1.0 }

-- a list that binds names to values
abbrev pub Named : Type 0
Named = List (List ℕ × FormTree)

abbrev pub flat : Place → Named → List FormTree
flat p [] = []
flat p (b ∷ bs) = name p b.0 ∷ b.1 ∷ flat p bs

abbrev pub Scoped : Names → Named → FormTrees → Type 0
Scoped ms [] body = AllOver ms body
Scoped ms (b ∷ bs) body = Over ms b.1 × Scoped (b.0 ∷ ms) bs body

pub scoped_pairs : (ms : Names) (p : Place) (bs : Named) (body : FormTrees) → Scoped ms bs body → (ns : Names) → Has ns ms → PairsBound (form_trees_of (flat p bs)) (AllBound body) ns
scoped_pairs ms p [] body o ns h = all_bound ms ns body o h
scoped_pairs ms p (b ∷ bs) body o ns h = (o.0.at ns h, scoped_pairs (b.0 ∷ ms) p bs body o.1 (b.0 ∷ ns) (self_bound b.0 ns, has_more b.0 ms ns h))

pub let_over : {ms : Names} {p q r : Place} {s : List ℕ} {body : FormTrees} (bs : Named) → is_binder (form (atom (symbol s)) p) ≡ true → Scoped ms bs body
    → Over ms (form (group Round (item (form (atom (symbol s)) p) (item (form (group Square (form_trees_of (flat q bs))) q) body))) r)
let_over {ms} {p} {q} {r} {s} {body} bs e o = record {
  at = λ ns h.
      let whole : FormTrees = item (form (atom (symbol s)) p) (item (form (group Square (form_trees_of (flat q bs))) q) body) in
      subst (λ t. either t (ListBound whole) (AllBound whole) ns) (sym e) (scoped_pairs ms q bs body o ns h);
}
