-- A text is started by putting one value in after another; the texts of a program, started, are bodies of it.
use Rattle.std.proofs.Common.{◌≡◌, ℕ, zero, suc, ◌+◌, ◌<◌, List, [], ◌∷◌, length, drop, drop-cons, get_or, slice_get, map, Some, None, refl, sym, ap, ◌∙◌, subst, arith}
use Rattle.std.proofs.lemmas.List.{length-map}
use Rattle.ca_value.specs.Tree.{Tree, nil}
use Rattle.ca_value.specs.View.{view, views}
use Rattle.ca_value.specs.declared.value.Value.{Value}
use Rattle.ca_term.specs.declared.head.Head.{Head}
use Rattle.ca_term.specs.declared.place.Place.{Place}
use Rattle.ca_term.specs.Kernel.{Kernel, const, apply, none, item, put, puts}
use Rattle.ca_term.specs.Fits.{Suits, Takes}
use Rattle.ca_term.specs.Program.{ProgramView, ProcedureView, IsProgram, arity, known_in}
use Rattle.ca_meaning.specs.IsBody.{IsBody, IsBodyOf}
use Rattle.ca_meaning.specs.Started.{named, procedure_at, started}
use Rattle.ca_meaning.proofs.OperandLaws.{drop-none, drop-some}
use Rattle.ca_meaning.proofs.Closed.{named-closed}
use Rattle.ca_meaning.proofs.PutFits.{puts-fits}

-- one more value in place of its name
pub text_step : (names : List ℕ) (vs : List Value) (i : ℕ) (v : Value) (now next : Kernel) → i < length names → slice_get vs i ≡ Some v → next ≡ put (get_or names i 0) (view v) now → puts (named (drop (i + 1) names) (views (drop (i + 1) vs))) next ≡ puts (named (drop i names) (views (drop i vs))) now
text_step names vs i v now next lt is e =
    let one : i + 1 ≡ suc i = omega arith in
    ap (λ k. puts (named (drop k names) (views (drop k vs))) next) one
    ∙ ap (puts (named (drop (suc i) names) (views (drop (suc i) vs)))) e
    ∙ sym (ap (λ ns. puts (named ns (views (drop i vs))) now) (drop-cons names i 0 lt) ∙ ap (λ (us : List Value). puts (named (get_or names i 0 ∷ drop (suc i) names) (views us)) now) (drop-some vs i v is))

named_none : (names : List ℕ) → named names [] ≡ []
named_none [] = refl
named_none (n ∷ ns) = refl

-- no value is left
pub text_done : (names : List ℕ) (vs : List Value) (i : ℕ) (now : Kernel) → slice_get vs i ≡ None → now ≡ puts (named names (views (drop i vs))) now
text_done names vs i now is = sym (ap (λ (us : List Value). puts (named names (views us)) now) (drop-none vs i is) ∙ ap (λ fs. puts fs now) (named_none names))

pub main_of_program : (P : ProgramView) → IsProgram P → IsBodyOf P P.main
main_of_program P checked = record { checked = checked; plain = checked.plain; suits = record { bound = checked.main_fits.bound; fits = checked.main_fits.fits } }

go_of_program : (P : ProgramView) → IsProgram P → (n : ℕ) (vs : List Tree) → n < length P.bodies → length vs ≡ arity (procedure_at P.bodies n) → IsBodyOf P (started (procedure_at P.bodies n) vs)
go_of_program P checked n vs lt len =
    let t = procedure_at P.bodies n in
    let fit = checked.bodies_fit n (record { parameters = []; body = const nil }) lt in
    let known = known_in checked.plain P in
    record {
      checked = checked;
      plain = checked.plain;
      suits = record { bound = named-closed t.parameters vs t.body (omega (arith, len)) fit.bound; fits = puts-fits (Suits known) (named t.parameters vs) None t.body fit.fits };
    }

found : {A : Type 0} (xs : List A) (n : ℕ) (x d : A) → Some x ≡ slice_get xs n → get_or xs n d ≡ x
found [] n x d e = absurd (let f : Some x ≡ None = e in cc)
found (y ∷ xs) zero x d e = let f : x ≡ y = cc in sym f
found (y ∷ xs) (suc n) x d e = found xs n x d e

-- a go body that was found, started with the values
pub go_started : (P : ProgramView) (n : ℕ) (vs : List Tree) (t : ProcedureView) (k : Kernel) → Some t ≡ slice_get P.bodies n → k ≡ started t vs → k ≡ started (procedure_at P.bodies n) vs
go_started P n vs t k is made = made ∙ ap (λ u. started u vs) (sym (found P.bodies n t (record { parameters = []; body = const nil }) is))

-- and that is a body of the program
pub go_known : (P : ProgramView) → IsProgram P → (n : ℕ) (xs : List Value) (t : ProcedureView) (k : Kernel) → n < length P.bodies → length xs ≡ arity (procedure_at P.bodies n) → Some t ≡ slice_get P.bodies n → k ≡ started t (views xs) → IsBodyOf P k
go_known P checked n xs t k lt len is made =
    subst (IsBodyOf P) (sym (go_started P n (views xs) t k is made)) (go_of_program P checked n (views xs) lt (length-map xs view ∙ len))

-- a call of a function with one value
pub call_of_program : (P : ProgramView) → IsProgram P → (n : ℕ) (v : Tree) (p : Place) → Takes (map arity P.functions) n 1 → IsBodyOf P (apply (Head.Call n) (item (const v) none) p)
call_of_program P checked n v p takes = record { checked = checked; plain = checked.plain; suits = record { bound = (tt, tt); fits = (takes, (tt, tt)) } }

pub call_is_body : (n : ℕ) (v : Tree) (p : Place) → IsBody (apply (Head.Call n) (item (const v) none) p)
call_is_body n v p = record { bound = (tt, tt); fits = (tt, (tt, tt)) }
