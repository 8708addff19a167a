-- What is expanded has no integers and keywords but those of the script and few of its own.
use Rattle.std.proofs.Common.{◌≡◌, ℕ, zero, suc, List, [], ◌∷◌, ◌++◌, refl, Bool, true, false, cond}
use Rattle.std.specs.Prelude.{codes}
use Rattle.ca_value.specs.IsValue.{written}
use Rattle.ca_term.specs.declared.place.Place.{Place}
use Rattle.ca_reader.specs.declared.form.Bracket.TheVariants.{Round, Square, Curly}
use Rattle.ca_reader.specs.Form.{FormTree, FormTrees, form, atom, group, none, item, form_place}
use Rattle.ca_reader.specs.View.{form_trees_of}
use Rattle.ca_reader.specs.Written.{FormAtoms, AtomHas, HaveScalars}
use Rattle.ca_derived.specs.declared.word.Word.{Word}
use Rattle.ca_derived.specs.declared.word.Word.TheVariants.{Choose, ChooseBlocking, Reduce, Into, Split, Take}
use Rattle.ca_derived.specs.declared.choice.Kind.{Kind}
use Rattle.ca_derived.specs.declared.choice.Kind.TheVariants.{Default, Priority, Many, Port}
use Rattle.ca_derived.specs.Outcome.{made}
use Rattle.ca_derived.specs.Forms.{name}
use Rattle.ca_derived.specs.Rows.{reduced, take_form, split_form, row_reduce, row_into, row_of_take, row_split}
use Rattle.ca_derived.specs.Choice.{Choice, no_choice, with_take, with_put, with_operation, with_operations, tests, form_items, binds_answer, bound_result, clause_result, form_kind, with_kind, with_pair, with_pairs, options_of, row_choose}
use Rattle.ca_derived.specs.Expand.{word_row, expand}
use Rattle.ca_derived.proofs.Walked.{Every, expanded_are}

abbrev Has : FormTree → Type 0
Has f = FormAtoms (AtomHas written) f

abbrev Have : List FormTree → Type 0
Have fs = HaveScalars written (form_trees_of fs)

together : (fs gs : List FormTree) → Have fs → Have gs → Have (fs ++ gs)
together [] gs h k = k
together (f ∷ fs) gs h k = (h.0, together fs gs h.1 k)

-- the rows, token by token
reduced_has : (p : Place) (f i c : FormTree) → Has f → Has i → Has c → Has (reduced p f i c)
reduced_has p f i c hf hi hc = (tt, ((tt, (hi, (tt, (hc, tt)))), ((tt, ((tt, (tt, tt)), ((tt, ((tt, ((tt, (tt, tt)), tt)), ((tt, ((tt, (tt, tt)), (tt, ((tt, ((hf, (tt, (tt, tt))), tt)), tt)))), tt))), tt))), tt)))

taken_has : (p : Place) (n c : FormTree) (bs : List FormTree) → Has n → Has c → Have bs → Has (take_form p n c bs)
taken_has p n c bs hn hc hb = (tt, ((tt, (hn, (tt, (hc, (tt, ((tt, hb), tt)))))), ((tt, ((tt, ((tt, (refl, tt)), ((tt, ((tt, (tt, (tt, tt))), ((tt, ((tt, ((tt, (tt, tt)), tt)), ((tt, ((tt, (tt, (tt, tt))), ((tt, ((tt, (tt, tt)), tt)), tt))), (tt, tt)))), tt))), tt))), ((tt, (tt, tt)), tt))), (tt, tt))))

parted_has : (p : Place) (f c : FormTree) → Has f → Has c → Has (split_form p f c)
parted_has p f c hf hc = (tt, ((tt, (hc, (tt, ((tt, tt), (tt, ((tt, tt), tt)))))), ((tt, (tt, ((tt, ((tt, ((tt, (tt, tt)), tt)), ((tt, ((tt, (tt, tt)), ((tt, ((tt, (tt, tt)), ((tt, (tt, tt)), tt))), ((tt, ((tt, ((tt, ((hf, (tt, tt)), (tt, (tt, tt)))), (tt, tt))), ((tt, tt), (tt, tt)))), tt)))), tt))), tt))), ((tt, (tt, tt)), tt))))

-- alt!
record Kept (x : Choice) : Type 0 where
  pub bindings : Have x.bindings
  pub operations : Have x.operations
  pub clauses : Have x.clauses

take_kept : (p : Place) (c : FormTree) (x : Choice) → Kept x → Has c → Kept (with_take p c x)
take_kept p c x k h = record { bindings = together x.bindings _ k.bindings (tt, (h, tt)); operations = together x.operations _ k.operations (tt, tt); clauses = k.clauses }

put_kept : (p : Place) (c v : FormTree) (x : Choice) → Kept x → Has c → Has v → Kept (with_put p c v x)
put_kept p c v x k h i = record {
  bindings = together _ _ (together x.bindings _ k.bindings (tt, (h, tt))) (tt, (i, tt));
  operations = together x.operations _ k.operations ((tt, (tt, tt)), tt);
  clauses = k.clauses;
}

operation_kept : (p : Place) (f : FormTree) (x : Choice) → Kept x → Has f → Kept (with_operation p f x)
operation_kept p (form (group Square (item c (item v none))) q) x k h = put_kept p c v x k h.0 h.1.0
operation_kept p (form (group Square none) q) x k h = take_kept p _ x k h
operation_kept p (form (group Square (item c none)) q) x k h = take_kept p _ x k h
operation_kept p (form (group Square (item c (item v (item w fs)))) q) x k h = take_kept p _ x k h
operation_kept p (form (group Round fs) q) x k h = take_kept p _ x k h
operation_kept p (form (group Curly fs) q) x k h = take_kept p _ x k h
operation_kept p (form (atom a) q) x k h = take_kept p _ x k h

operations_kept : (p : Place) (fs : FormTrees) (x : Choice) → Kept x → HaveScalars written fs → Kept (with_operations p fs x)
operations_kept p none x k h = k
operations_kept p (item f fs) x k h = operations_kept p fs (with_operation p f x) (operation_kept p f x k h.0) h.1

tests_have : (p : Place) (n m : ℕ) → Have (tests p n m)
tests_have p n zero = tt
tests_have p n (suc m) = ((tt, ((tt, (tt, (refl, tt))), (tt, tt))), tests_have p (suc n) m)

either_has : (b : Bool) (f g : FormTree) → Has f → Has g → Has (cond b f g)
either_has true f g h k = h
either_has false f g h k = k

bound_has : (f : FormTree) → Has f → Has (bound_result (form_place f) (form_items f))
bound_has (form (group b (item names es)) p) h = (tt, ((h.0, (tt, tt)), h.1))
bound_has (form (group b none) p) h = tt
bound_has (form (atom a) p) h = tt

result_has : (f : FormTree) → Has f → Has (clause_result f)
result_has f h = either_has (binds_answer f) (bound_result (form_place f) (form_items f)) f (bound_has f h) h

items_have : (f : FormTree) → Has f → HaveScalars written (form_items f)
items_have (form (group b fs) p) h = h
items_have (form (atom a) p) h = tt

kind_kept : (k : Kind) (p : Place) (o r : FormTree) (x : Choice) → Kept x → Has o → Has r → Kept (with_kind k p o r x)
kind_kept Default p o r x k h i = record { bindings = k.bindings; operations = k.operations; clauses = together x.clauses _ k.clauses ((tt, ((tt, (tt, (refl, tt))), (refl, tt))), (i, tt)) }
kind_kept Priority p o r x k h i = record { bindings = together x.bindings _ k.bindings (tt, (i, tt)); operations = k.operations; clauses = k.clauses }
kind_kept Many p o r x k h i =
    let y = operations_kept p (form_items o) x k (items_have o h) in
    record { bindings = y.bindings; operations = y.operations; clauses = together _ _ y.clauses ((tt, tests_have p _ _), (result_has r i, tt)) }
kind_kept Port p o r x k h i =
    let y = take_kept p o x k h in
    record { bindings = y.bindings; operations = y.operations; clauses = together _ _ y.clauses ((tt, ((tt, (tt, (refl, tt))), (tt, tt))), (result_has r i, tt)) }

pairs_kept : (p : Place) (fs : FormTrees) (x : Choice) → Kept x → HaveScalars written fs → Kept (with_pairs p fs x)
pairs_kept p none x k h = k
pairs_kept p (item f none) x k h = k
pairs_kept p (item f (item r fs)) x k h = pairs_kept p fs (with_pair p f r x) (kind_kept (form_kind f) p f r x k h.0 h.1.0) h.1.1

options_have : (p : Place) (b d : Bool) → Have (options_of p b d)
options_have p true true = (refl, (tt, (refl, (refl, tt))))
options_have p true false = (refl, (tt, tt))
options_have p false true = (refl, (refl, tt))
options_have p false false = tt

choose_has : (p : Place) (alts : List ℕ) (fs : FormTrees) → HaveScalars written fs → Has (row_choose p alts fs)
choose_has p alts fs h =
    let x : Choice = with_pairs p fs no_choice in
    let k = pairs_kept p fs no_choice (record { bindings = tt; operations = tt; clauses = tt }) h in
    (tt, (together x.bindings _ k.bindings (tt, ((tt, (k.operations, options_have p x.priority x.default)), tt)), ((tt, k.clauses), tt)))

-- every row
reduce_has : (p : Place) (fs : FormTrees) → HaveScalars written fs → Has (row_reduce p fs)
reduce_has p (item f (item i (item c none))) h = reduced_has p f i c h.0 h.1.0 h.1.1.0
reduce_has p none h = tt
reduce_has p (item f none) h = tt
reduce_has p (item f (item i none)) h = tt
reduce_has p (item f (item i (item c (item d fs)))) h = tt

into_has : (p : Place) (fs : FormTrees) → HaveScalars written fs → Has (row_into p fs)
into_has p (item e (item c none)) h = reduced_has p (name p (codes "conj")) e c tt h.0 h.1.0
into_has p none h = tt
into_has p (item e none) h = tt
into_has p (item e (item c (item d fs))) h = tt

take_has : (p : Place) (fs : FormTrees) → HaveScalars written fs → Has (row_of_take p fs)
take_has p (item n (item c none)) h = taken_has p n c [] h.0 h.1.0 tt
take_has p (item n (item c (item b none))) h = taken_has p n c (b ∷ []) h.0 h.1.0 h.1.1
take_has p none h = tt
take_has p (item n none) h = tt
take_has p (item n (item c (item b (item d fs)))) h = tt

split_has : (p : Place) (fs : FormTrees) → HaveScalars written fs → Has (row_split p fs)
split_has p (item f (item c none)) h = parted_has p f c h.0 h.1.0
split_has p none h = tt
split_has p (item f none) h = tt
split_has p (item f (item c (item d fs))) h = tt

all_have : (fs : FormTrees) → Every Has fs → HaveScalars written fs
all_have none h = tt
all_have (item f fs) h = (h.0, all_have fs h.1)

row_has : (w : Word) (p : Place) (fs : FormTrees) → Every Has fs → Has (word_row w p fs)
row_has Choose p fs h = choose_has p (codes "alts!") fs (all_have fs h)
row_has ChooseBlocking p fs h = choose_has p (codes "alts!!") fs (all_have fs h)
row_has Reduce p fs h = reduce_has p fs (all_have fs h)
row_has Into p fs h = into_has p fs (all_have fs h)
row_has Split p fs h = split_has p fs (all_have fs h)
row_has Take p fs h = take_has p fs (all_have fs h)

pub expanded_have : (fs gs : FormTrees) → HaveScalars written fs → expand fs ≡ made gs → HaveScalars written gs
expanded_have fs gs h e = all_have gs (expanded_are (AtomHas written) Has (λ a p k. k) (λ b hs p k. all_have hs k) row_has fs gs h e)
