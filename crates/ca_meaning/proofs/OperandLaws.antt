-- The operands of a form, as terms in a list and as values.
use Rattle.std.proofs.Common.{◌≡◌, ℕ, zero, suc, ◌+◌, List, [], ◌∷◌, ◌++◌, ◌<◌, length, drop, drop-cons, get_or, slice_get, refl, sym, ap, ◌∙◌, arith, Some, None}
use Rattle.ca_value.specs.Tree.{nil, item}
use Rattle.ca_value.specs.View.{trees}
use Rattle.ca_value.specs.declared.value.Value.{Value}
use Rattle.ca_term.specs.declared.term.Term.{Term}
use Rattle.ca_term.specs.declared.head.Head.TheVariants.{Recur, Builtin, Call, Take, Put, Alts, Make, Spawn, Close, Register, Print, Post}
use Rattle.ca_term.specs.Kernel.{Kernel, Kernels, const, var, branch, bind, loop, seq, frame, turn, apply, put, puts, none as none_of, item as one_of}
use Rattle.ca_term.specs.Fits.{count_terms}
use Rattle.ca_term.specs.Program.{ProcedureView}
use Rattle.ca_term.specs.declared.term.Found.{Found}
use Rattle.ca_asking.specs.Asked.{trees_by}
use Rattle.ca_term.specs.View.{kernel, kernels, view_of_found, founds}
use Rattle.ca_meaning.specs.Redex.{value_of, values_of}
use Rattle.ca_meaning.specs.Operands.{values_in}
use Rattle.ca_meaning.specs.Started.{named, procedure_at}
use Rattle.ca_meaning.specs.Body.{after_turn}
use Rattle.ca_meaning.specs.Parts.{recur_operands}

-- the values of terms are those of the terms one by one
pub values_by : (ts : List Term) → values_of (kernels ts) ≡ trees_by (λ t. value_of (kernel t)) ts
values_by [] = refl
values_by (t ∷ ts) = ap (item (value_of (kernel t))) (values_by ts)

pub drop-none : {A : Type 0} (xs : List A) (n : ℕ) → slice_get xs n ≡ None → drop n xs ≡ []
drop-none [] zero h = refl
drop-none [] (suc n) h = refl
drop-none (x ∷ xs) zero h = absurd cc
drop-none (x ∷ xs) (suc n) h = drop-none xs n h

pub drop-some : {A : Type 0} (xs : List A) (n : ℕ) (x : A) → slice_get xs n ≡ Some x → drop n xs ≡ x ∷ drop (suc n) xs
drop-some [] n x h = absurd cc
drop-some (y ∷ xs) zero x h = ap (λ z. z ∷ xs) (let e : y ≡ x = cc in e)
drop-some (y ∷ xs) (suc n) x h = drop-some xs n x h

pub named-none : (ns : List ℕ) → named ns [] ≡ []
named-none [] = refl
named-none (n ∷ ns) = refl

-- one more value in place of its name
pub text-step : (names : List ℕ) (ops : List Term) (i : ℕ) (o : Term) (now next : Kernel) → i < length names → slice_get ops i ≡ Some o → next ≡ put (get_or names i 0) (value_of (kernel o)) now → puts (named (drop (i + 1) names) (values_in (values_of (kernels (drop (i + 1) ops))))) next ≡ puts (named (drop i names) (values_in (values_of (kernels (drop i ops))))) now
text-step names ops i o now next lt is e =
    let one : i + 1 ≡ suc i = omega arith in
    ap (λ k. puts (named (drop k names) (values_in (values_of (kernels (drop k ops))))) next) one
    ∙ ap (puts (named (drop (suc i) names) (values_in (values_of (kernels (drop (suc i) ops)))))) e
    ∙ sym (ap (λ ns. puts (named ns (values_in (values_of (kernels (drop i ops))))) now) (drop-cons names i 0 lt) ∙ ap (λ (ts : List Term). puts (named (get_or names i 0 ∷ drop (suc i) names) (values_in (values_of (kernels ts)))) now) (drop-some ops i o is))

pub text-done : (names : List ℕ) (ops : List Term) (i : ℕ) (now : Kernel) → slice_get ops i ≡ None → now ≡ puts (named names (values_in (values_of (kernels (drop i ops))))) now
text-done names ops i now is = sym (ap (λ (ts : List Term). puts (named names (values_in (values_of (kernels ts)))) now) (drop-none ops i is) ∙ ap (λ fs. puts fs now) (named-none names))

pub founds_append : (fs : List Found) (f : Found) → founds (fs ++ f ∷ []) ≡ founds fs ++ view_of_found f ∷ []
founds_append [] f = refl
founds_append (g ∷ fs) f = ap (λ k. view_of_found g ∷ k) (founds_append fs f)

-- the function of that number
pub procedure-none : (ps : List ProcedureView) (n : ℕ) → slice_get ps n ≡ None → procedure_at ps n ≡ record { parameters = []; body = const nil }
procedure-none [] n h = refl
procedure-none (p ∷ ps) zero h = absurd cc
procedure-none (p ∷ ps) (suc n) h = procedure-none ps n h

pub procedure-some : (ps : List ProcedureView) (n : ℕ) (p : ProcedureView) → slice_get ps n ≡ Some p → procedure_at ps n ≡ p
procedure-some [] n p h = absurd cc
procedure-some (q ∷ ps) zero p h = let e : q ≡ p = cc in e
procedure-some (q ∷ ps) (suc n) p h = procedure-some ps n p h

-- as many values as operands
pub length-operands : (vs : List Value) (ts : Kernels) → trees vs ≡ values_of ts → length vs ≡ count_terms ts
length-operands [] none_of h = refl
length-operands [] (one_of t ts) h = absurd cc
length-operands (v ∷ vs) none_of h = absurd cc
length-operands (v ∷ vs) (one_of t ts) h = ap suc (length-operands vs ts (let e : trees vs ≡ values_of ts = cc in e))

-- no recur
pub after_turn-else : (names : List ℕ) (text now : Kernel) → recur_operands now ≡ None → after_turn names text now ≡ now
after_turn-else names t (apply Recur ts p) h = absurd cc
after_turn-else names t (const v) h = refl
after_turn-else names t (var n) h = refl
after_turn-else names t (branch c a b) h = refl
after_turn-else names t (bind bs body) h = refl
after_turn-else names t (loop fs bs body) h = refl
after_turn-else names t (seq ts) h = refl
after_turn-else names t (frame body) h = refl
after_turn-else names t (turn ns u now) h = refl
after_turn-else names t (apply (Builtin b) ts p) h = refl
after_turn-else names t (apply (Call n) ts p) h = refl
after_turn-else names t (apply Take ts p) h = refl
after_turn-else names t (apply Put ts p) h = refl
after_turn-else names t (apply (Alts options) ts p) h = refl
after_turn-else names t (apply (Make kind) ts p) h = refl
after_turn-else names t (apply (Spawn kind) ts p) h = refl
after_turn-else names t (apply Close ts p) h = refl
after_turn-else names t (apply (Register name) ts p) h = refl
after_turn-else names t (apply Print ts p) h = refl
after_turn-else names t (apply Post ts p) h = refl

pub after_turn-recur : (names : List ℕ) (text now : Kernel) (ts : Kernels) → recur_operands now ≡ Some ts → after_turn names text now ≡ turn names text (puts (named names (values_in (values_of ts))) text)
after_turn-recur names t (apply Recur us p) ts h = ap (λ k. turn names t (puts (named names (values_in (values_of k))) t)) (let e : us ≡ ts = cc in e)
after_turn-recur names t (const v) ts h = absurd cc
after_turn-recur names t (var n) ts h = absurd cc
after_turn-recur names t (branch c a b) ts h = absurd cc
after_turn-recur names t (bind bs body) ts h = absurd cc
after_turn-recur names t (loop fs bs body) ts h = absurd cc
after_turn-recur names t (seq us) ts h = absurd cc
after_turn-recur names t (frame body) ts h = absurd cc
after_turn-recur names t (turn ns u now) ts h = absurd cc
after_turn-recur names t (apply (Builtin b) us p) ts h = absurd cc
after_turn-recur names t (apply (Call n) us p) ts h = absurd cc
after_turn-recur names t (apply Take us p) ts h = absurd cc
after_turn-recur names t (apply Put us p) ts h = absurd cc
after_turn-recur names t (apply (Alts options) us p) ts h = absurd cc
after_turn-recur names t (apply (Make kind) us p) ts h = absurd cc
after_turn-recur names t (apply (Spawn kind) us p) ts h = absurd cc
after_turn-recur names t (apply Close us p) ts h = absurd cc
after_turn-recur names t (apply (Register name) us p) ts h = absurd cc
after_turn-recur names t (apply Print us p) ts h = absurd cc
after_turn-recur names t (apply Post us p) ts h = absurd cc
