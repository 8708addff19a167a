-- The row of an alt! binds each hidden name that it uses.
use Rattle.std.proofs.Common.{◌≡◌, ℕ, zero, suc, ◌+◌, ◌-◌, ◌<◌, ◌≤◌, List, [], ◌∷◌, ◌++◌, length, refl, sym, ap, ◌∙◌, subst, arith, Bool, true, false, cond}
use Rattle.std.specs.Prelude.{◌&&◌, codes, min, nat_lt}
use Rattle.std.proofs.lemmas.Bool.Decides.{nat_tests}
use Rattle.std.proofs.lemmas.List.{length-append}
use Rattle.ca_term.specs.declared.place.Place.{Place}
use Rattle.ca_reader.specs.declared.form.Bracket.TheVariants.{Round, Square, Curly}
use Rattle.ca_reader.specs.Form.{FormTree, FormTrees, form, atom, group, none, item, form_place}
use Rattle.ca_derived.specs.declared.choice.Kind.{Kind}
use Rattle.ca_derived.specs.declared.choice.Kind.TheVariants.{Default, Priority, Many, Port}
use Rattle.ca_derived.specs.Forms.{square, name}
use Rattle.ca_derived.specs.Rows.{call}
use Rattle.ca_derived.specs.Choice.{Choice, operation_count, no_choice, name_of_answer, port_name, value_name, priority_name, key_at, test, with_take, with_put, with_operation, with_operations, tests, form_items, is_names, binds_answer, bound_result, clause_result, with_many, with_port_clause, with_priority, with_default_clause, form_kind, with_kind, with_pair, with_pairs, options_of, choice_form, row_choose}
use Rattle.ca_derived.specs.Hidden.{is_hidden_name, is_vector_form, is_binding_form, Names, with_hidden_name, either, AllBound, ListBound}
use Rattle.ca_derived.proofs.HiddenLaws.{Over, AllOver, EachOver, fine_over, each_over, all_bound, items_over, group_over, call_over, first, second, Named, flat, Scoped, let_over}

-- alt!: what the pairs so far give
abbrev answer_name : List ℕ
answer_name = codes "#answer"

abbrev behind : Named → Names → Names
behind [] ms = ms
behind (b ∷ bs) ms = behind bs (b.0 ∷ ms)

abbrev AreFine : Named → Type 0
AreFine [] = Unit {0}
AreFine (b ∷ bs) = Over [] b.1 × AreFine bs

behind_more : (bs : Named) (b : List ℕ × FormTree) (ms : Names) → behind (bs ++ b ∷ []) ms ≡ b.0 ∷ behind bs ms
behind_more [] b ms = refl
behind_more (c ∷ bs) b ms = behind_more bs b (c.0 ∷ ms)

flat_more : (p : Place) (bs : Named) (b : List ℕ × FormTree) → flat p (bs ++ b ∷ []) ≡ flat p bs ++ name p b.0 ∷ b.1 ∷ []
flat_more p [] b = refl
flat_more p (c ∷ bs) b = ap (λ l. name p c.0 ∷ c.1 ∷ l) (flat_more p bs b)

fine_more : (bs : Named) (b : List ℕ × FormTree) → AreFine bs → Over [] b.1 → AreFine (bs ++ b ∷ [])
fine_more [] b f o = (o, tt)
fine_more (c ∷ bs) b f o = (f.0, fine_more bs b f.1 o)

scoped_fine : (ms : Names) (bs cs : Named) (body : FormTrees) → AreFine bs → Scoped (behind bs ms) cs body → Scoped ms (bs ++ cs) body
scoped_fine ms [] cs body f o = o
scoped_fine ms (b ∷ bs) cs body f o = (fine_over f.0, scoped_fine (b.0 ∷ ms) bs cs body f.1 o)

within : {ms : Names} {m : List ℕ} {f : FormTree} → Over ms f → Over (m ∷ ms) f
within o = record { at = λ ns h. o.at ns h.1 }

all_within : (ms : Names) (m : List ℕ) (fs : List FormTree) → EachOver ms fs → EachOver (m ∷ ms) fs
all_within ms m [] o = tt
all_within ms m (f ∷ fs) o = (within o.0, all_within ms m fs o.1)

past_answer : (ms : Names) (m : List ℕ) (fs : List FormTree) → EachOver (answer_name ∷ ms) fs → EachOver (answer_name ∷ m ∷ ms) fs
past_answer ms m [] o = tt
past_answer ms m (f ∷ fs) o = (record { at = λ ns h. o.0.at ns (h.0, h.1.1) }, past_answer ms m fs o.1)

record IsKept (p : Place) (x : Choice) : Type 0 where
  pub named : Named
  pub ms : Names
  pub scope : ms ≡ behind named []
  pub is : x.bindings ≡ flat p named
  pub fine : AreFine named
  pub operations : EachOver ms x.operations
  pub clauses : EachOver (answer_name ∷ ms) x.clauses
  pub ports : (n : ℕ) → n < operation_count x → Over ms (port_name p n)
  pub priority : x.priority ≡ true → Over ms (priority_name p)

after_name : (p : Place) (x : Choice) (m : List ℕ) (e : FormTree) → IsKept p x → Over [] e → IsKept p (record x { bindings = x.bindings ++ name p m ∷ e ∷ [] })
after_name p x m e k o = record {
  named = k.named ++ (m, e) ∷ [];
  ms = m ∷ k.ms;
  scope = ap (λ (l : Names). m ∷ l) k.scope ∙ sym (behind_more k.named (m, e) []);
  is = ap (λ (l : List FormTree). l ++ name p m ∷ e ∷ []) k.is ∙ sym (flat_more p k.named (m, e));
  fine = fine_more k.named (m, e) k.fine o;
  operations = all_within k.ms m x.operations k.operations;
  clauses = past_answer k.ms m x.clauses k.clauses;
  ports = λ n l. within (k.ports n l);
  priority = λ i. within (k.priority i);
}

after_operation : (p : Place) (x : Choice) (f : FormTree) (k : IsKept p x) → Over k.ms f → Over k.ms (port_name p (operation_count x)) → IsKept p (record x { operations = x.operations ++ f ∷ [] })
after_operation p x f k o q = record {
  named = k.named;
  ms = k.ms;
  scope = k.scope;
  is = k.is;
  fine = k.fine;
  operations = each_over k.ms x.operations (f ∷ []) k.operations (o, tt);
  clauses = k.clauses;
  ports = λ n l. there n l (nat_lt n (operation_count x)) refl;
  priority = k.priority;
} where
  there : (n : ℕ) → n < length (x.operations ++ f ∷ []) → (b : Bool) → nat_lt n (operation_count x) ≡ b → Over k.ms (port_name p n)
  there n l true e = k.ports n (grind (arith, nat_tests))
  there n l false e =
      let last : n ≡ operation_count x = grind (arith, nat_tests, length-append x.operations (f ∷ [])) in
      subst (λ i. Over k.ms (port_name p i)) (sym last) q

after_clause : (p : Place) (x : Choice) (t r : FormTree) (k : IsKept p x) → Over (answer_name ∷ k.ms) t → Over (answer_name ∷ k.ms) r → IsKept p (record x { clauses = x.clauses ++ t ∷ r ∷ [] })
after_clause p x t r k o q = record {
  named = k.named;
  ms = k.ms;
  scope = k.scope;
  is = k.is;
  fine = k.fine;
  operations = k.operations;
  clauses = each_over (answer_name ∷ k.ms) x.clauses (t ∷ r ∷ []) k.clauses (o, (q, tt));
  ports = k.ports;
  priority = k.priority;
}

-- operations
take_kept : (p : Place) (c : FormTree) (x : Choice) → IsKept p x → Over [] c → IsKept p (with_take p c x)
unfolding after_name
take_kept p c x k o =
    let y = after_name p x (codes "#port-" ++ (97 + min 25 (operation_count x)) ∷ []) c k o in
    after_operation p (record x { bindings = x.bindings ++ port_name p (operation_count x) ∷ c ∷ [] }) (port_name p (operation_count x)) y first first

put_kept : (p : Place) (c v : FormTree) (x : Choice) → IsKept p x → Over [] c → Over [] v → IsKept p (with_put p c v x)
unfolding after_name
put_kept p c v x k o q =
    let z : Choice = record x { bindings = x.bindings ++ port_name p (operation_count x) ∷ c ∷ [] } in
    let y = after_name p x (codes "#port-" ++ (97 + min 25 (operation_count x)) ∷ []) c k o in
    let w = after_name p z (codes "#value-" ++ (97 + min 25 (operation_count x)) ∷ []) v y q in
    after_operation p (record z { bindings = z.bindings ++ value_name p (operation_count x) ∷ v ∷ [] }) (square p (port_name p (operation_count x) ∷ value_name p (operation_count x) ∷ [])) w
    (group_over Square _ (second, (first, tt))) second

vector_items : (fs : FormTrees) (p : Place) → Over [] (form (group Square fs) p) → AllOver [] fs
vector_items fs p o = items_over [] fs (λ ns h. o.at ns h)

operation_kept : (p : Place) (f : FormTree) (x : Choice) → IsKept p x → Over [] f → IsKept p (with_operation p f x)
operation_kept p (form (group Square (item c (item v none))) q) x k o = let i = vector_items (item c (item v none)) q o in put_kept p c v x k i.0 i.1.0
operation_kept p (form (group Square none) q) x k o = take_kept p _ x k o
operation_kept p (form (group Square (item c none)) q) x k o = take_kept p _ x k o
operation_kept p (form (group Square (item c (item v (item w fs)))) q) x k o = take_kept p _ x k o
operation_kept p (form (group Round fs) q) x k o = take_kept p _ x k o
operation_kept p (form (group Curly fs) q) x k o = take_kept p _ x k o
operation_kept p (form (atom a) q) x k o = take_kept p _ x k o

operations_kept : (p : Place) (fs : FormTrees) (x : Choice) → IsKept p x → AllOver [] fs → IsKept p (with_operations p fs x)
operations_kept p none x k o = k
operations_kept p (item f fs) x k o = operations_kept p fs (with_operation p f x) (operation_kept p f x k o.0) o.1

-- clauses
test_over : {ms : Names} {p : Place} {f : FormTree} → Over (answer_name ∷ ms) f → Over (answer_name ∷ ms) (test p f)
test_over o = call_over refl (call_over refl (first, (record { at = λ ns h. tt }, tt)), (o, tt))

tests_over : (ms : Names) (p : Place) (n m : ℕ) → ((j : ℕ) → n ≤ j → j < n + m → Over ms (port_name p j)) → EachOver (answer_name ∷ ms) (tests p n m)
tests_over ms p n zero o = tt
tests_over ms p n (suc m) o = (test_over (within (o n (omega arith) (omega arith))), tests_over ms p (suc n) m (λ j l h. o j (omega (arith, l)) (omega (arith, h))))

headed_by_vector : (n : FormTree) (es : FormTrees) → is_names n ≡ true → (is_binding_form Round (item n es) ≡ false) × ((ns : Names) → with_hidden_name n ns ≡ ns)
headed_by_vector (form (group Square vs) p) none e = (refl, λ ns. refl)
headed_by_vector (form (group Square vs) p) (item v es) e = (neither (is_vector_form v), λ ns. refl) where
  neither : (b : Bool) → (b && false) ≡ false
  neither true = refl
  neither false = refl
headed_by_vector (form (group Round vs) p) es e = cc
headed_by_vector (form (group Curly vs) p) es e = cc
headed_by_vector (form (atom a) p) es e = cc

answer_bound : (r : FormTree) → Over [] r → binds_answer r ≡ true → {ms : Names} → Over (answer_name ∷ ms) (bound_result (form_place r) (form_items r))
answer_bound (form (group Round (item n es)) p) o e {ms} =
    let head = headed_by_vector n es e in
    let parts : AllOver [] (item n es) = items_over [] (item n es) (λ ns h. subst (λ t. either t (ListBound (item n es)) (AllBound (item n es)) ns) head.0 (o.at ns h)) in
    record { at = λ ns h. (h.0, all_bound [] (with_hidden_name n ns) es parts.1 tt) }
answer_bound (form (group Round none) p) o e = cc
answer_bound (form (group Square fs) p) o e = cc
answer_bound (form (group Curly fs) p) o e = cc
answer_bound (form (atom a) p) o e = cc

result_over : (r : FormTree) {ms : Names} → Over [] r → Over (answer_name ∷ ms) (clause_result r)
result_over r {ms} o = by (binds_answer r) refl where
  by : (b : Bool) → binds_answer r ≡ b → Over (answer_name ∷ ms) (cond b (bound_result (form_place r) (form_items r)) r)
  by true e = answer_bound r o e
  by false e = fine_over o

many_kept : (p : Place) (fs : FormTrees) (r : FormTree) (x : Choice) → IsKept p x → AllOver [] fs → Over [] r → IsKept p (with_many p fs r x)
many_kept p fs r x k o q =
    let y : Choice = with_operations p fs x in
    let l = operations_kept p fs x k o in
    after_clause p y (call p (codes "or") (tests p (operation_count x) (operation_count y - operation_count x))) (clause_result r) l
    (call_over refl (tests_over l.ms p (operation_count x) (operation_count y - operation_count x) (λ j a b. l.ports j (omega (arith, a, b))))) (result_over r q)

port_kept : (p : Place) (c r : FormTree) (x : Choice) → IsKept p x → Over [] c → Over [] r → IsKept p (with_port_clause p c r x)
port_kept p c r x k o q =
    let l = take_kept p c x k o in
    let more : operation_count x < operation_count (with_take p c x) = omega (arith, length-append x.operations (port_name p (operation_count x) ∷ [])) in
    after_clause p (with_take p c x) (test p (port_name p (operation_count x))) (clause_result r) l (test_over (within (l.ports (operation_count x) more))) (result_over r q)

priority_kept : (p : Place) (r : FormTree) (x : Choice) → IsKept p x → Over [] r → IsKept p (with_priority p r x)
unfolding after_name
priority_kept p r x k o =
    let y = after_name p x (codes "#priority") r k o in
    record { named = y.named; ms = y.ms; scope = y.scope; is = y.is; fine = y.fine; operations = y.operations; clauses = y.clauses; ports = y.ports; priority = λ e. first }

default_kept : (p : Place) (r : FormTree) (x : Choice) → IsKept p x → Over [] r → IsKept p (with_default_clause p r x)
default_kept p r x k o =
    let y = after_clause p x (test p (key_at p (codes "default"))) r k (test_over (record { at = λ ns h. tt })) (fine_over o) in
    record { named = y.named; ms = y.ms; scope = y.scope; is = y.is; fine = y.fine; operations = y.operations; clauses = y.clauses; ports = y.ports; priority = y.priority }

part_items : (f : FormTree) → form_kind f ≡ Many → Over [] f → AllOver [] (form_items f)
part_items (form (group Square fs) p) e o = vector_items fs p o
part_items (form (group Round fs) p) e o = cc
part_items (form (group Curly fs) p) e o = cc
part_items (form (atom a) p) e o = tt

kind_kept : (k : Kind) (p : Place) (o r : FormTree) (x : Choice) → form_kind o ≡ k → IsKept p x → Over [] o → Over [] r → IsKept p (with_kind k p o r x)
kind_kept Default p o r x e k a b = default_kept p r x k b
kind_kept Priority p o r x e k a b = priority_kept p r x k b
kind_kept Many p o r x e k a b = many_kept p (form_items o) r x k (part_items o e a) b
kind_kept Port p o r x e k a b = port_kept p o r x k a b

pairs_kept : (p : Place) (fs : FormTrees) (x : Choice) → IsKept p x → AllOver [] fs → IsKept p (with_pairs p fs x)
pairs_kept p none x k o = k
pairs_kept p (item f none) x k o = k
pairs_kept p (item f (item r fs)) x k o = pairs_kept p fs (with_pair p f r x) (kind_kept (form_kind f) p f r x refl k o.0 o.1.0) o.1.1

options_over : (ms : Names) (p : Place) (b d : Bool) → (b ≡ true → Over ms (priority_name p)) → EachOver ms (options_of p b d)
options_over ms p true true o = (record { at = λ ns h. tt }, (o refl, (record { at = λ ns h. tt }, (record { at = λ ns h. tt }, tt))))
options_over ms p true false o = (record { at = λ ns h. tt }, (o refl, tt))
options_over ms p false true o = (record { at = λ ns h. tt }, (record { at = λ ns h. tt }, tt))
options_over ms p false false o = tt

chosen_fine : (p : Place) (alts : List ℕ) (x : Choice) → is_hidden_name alts ≡ false → IsKept p x → Over [] (choice_form p alts x)
chosen_fine p alts x e k =
    subst (λ (l : List FormTree). Over [] (call p (codes "let") (square p l ∷ call p (codes "cond") x.clauses ∷ []))) (flat_more p k.named (answer_name, asks) ∙ ap (λ (l : List FormTree). l ++ name_of_answer p ∷ asks ∷ []) (sym k.is))
    (let_over (k.named ++ (answer_name, asks) ∷ []) refl (scoped_fine [] k.named ((answer_name, asks) ∷ []) _ k.fine
    (subst (λ (ms : Names). Over ms asks × AllOver (answer_name ∷ ms) (item (call p (codes "cond") x.clauses) none)) k.scope (asks_over, (call_over refl k.clauses, tt))))) where
      asks : FormTree
      asks = call p alts (square p x.operations ∷ options_of p x.priority x.default)

      asks_over : Over k.ms asks
      asks_over = call_over e (group_over Square _ k.operations, options_over k.ms p x.priority x.default k.priority)

nothing_kept : (p : Place) → IsKept p no_choice
nothing_kept p = record { named = []; ms = []; scope = refl; is = refl; fine = tt; operations = tt; clauses = tt; ports = λ n l. absurd (omega (arith, l)); priority = λ e. cc }

pub choose_fine : (p : Place) (alts : List ℕ) (fs : FormTrees) → is_hidden_name alts ≡ false → AllOver [] fs → Over [] (row_choose p alts fs)
choose_fine p alts fs e o = chosen_fine p alts (with_pairs p fs no_choice) e (pairs_kept p fs no_choice (nothing_kept p) o)
