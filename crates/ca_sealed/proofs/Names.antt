-- Symbols and calls make tidy terms, and what is given to a system task is a function with a keyword or none.
use Rattle.std.proofs.Common.{◌≡◌, ℕ, suc, ◌<◌, List, [], ◌∷◌, ◌++◌, length, map, refl, subst, arith, Option, Some, None, Bool, true, false, cond, ◌&&◌, nat_lt, nat_eq, is_some}
use Rattle.std.specs.Str.{bytes_eq}
use Rattle.ca_value.specs.Tree.{Tree, nil, key}
use Rattle.ca_value.specs.Builtins.{admits_arguments}
use Rattle.ca_value.specs.declared.builtin.Builtin.{Builtin as BuiltinName}
use Rattle.ca_value.specs.declared.builtin.Builtin.TheVariants.{Get}
use Rattle.ca_term.specs.declared.place.Place.{Place}
use Rattle.ca_term.specs.declared.head.Head.TheVariants.{Builtin, Call}
use Rattle.ca_term.specs.declared.head.PlainFunction.{PlainFunction}
use Rattle.ca_term.specs.Kernel.{const}
use Rattle.ca_reader.specs.Form.{FormTree, Atom, form, atom, group, symbol, nil as nil_atom, bool as bool_atom, int as int_atom, text as text_atom, key as keyword}
use Rattle.ca_forms.specs.declared.error.CheckErrorKind.TheVariants.{UnknownName, BadArity, NotPlain, TooMany}
use Rattle.ca_forms.specs.Words.{special, builtin}
use Rattle.ca_forms.specs.Meaning.{Env, Signature, Meaning, size, lookup, constant_value, local_name, fail_with, operation}
use Rattle.ca_forms.specs.Names.{find_function, symbol_of, row_symbol, written_text, builtin_call, function_call, call_of_builtin, call_of_function, call_of, row_call, row_keyword, Given, applied, wrong, given_builtin, given_function, given_name, given_atom, given}
use Rattle.ca_sealed.proofs.Used.{Below}
use Rattle.ca_sealed.proofs.Outcomes.{below_of}
use Rattle.ca_sealed.proofs.Tidy.{HasKeyword, bare, keyed}
use Rattle.ca_sealed.proofs.Words.{AreBelow, Makes, Keeps, tidy_constant, tidy_low, tidy_local, tidy_fail, tidy_cond, AllKeep, all_append, tidy_operation}

pub tidy_symbol : (g : ℕ) (s : List ℕ) (p : Place) → Keeps g 0 (row_symbol s p)
tidy_symbol g s p env st r = by (lookup s env.scope) (λ n e. omega (arith, below_of s env.scope 0 None n (λ m x. grind arith) e)) where
  by : (o : Option ℕ) → ((n : ℕ) → o ≡ Some n → n < size env) → Makes env st (symbol_of o s p env st)
  by None f = tt
  by (Some n) f = tidy_local g (size env) n (f n refl) env st (omega arith, r.1, r.2)

pub tidy_written : (g n : ℕ) (s : List ℕ) (p : Place) (m : Meaning) → Keeps g n m → Keeps g n (written_text s p m)
tidy_written g n s p m f = tidy_cond g n (nat_lt 65535 (length s)) (fail_with TooMany p) m (tidy_fail g n TooMany p) f

pub tidy_builtin_call : (g n : ℕ) (b : BuiltinName) (ms : List Meaning) (p : Place) → AllKeep g n ms → Keeps g n (builtin_call b ms p)
tidy_builtin_call g n b ms p f = tidy_cond g n (admits_arguments b (length ms)) (operation (Builtin b) ms p) (fail_with BadArity p) (tidy_operation g n (Builtin b) ms p f (λ ts. refl)) (tidy_fail g n BadArity p)

-- the names that a function uses
pub find_below : (g i : ℕ) (s : List ℕ) (fs : List Signature) → AreBelow g fs → (r : ℕ × Signature) → find_function s fs i ≡ Some r → Below g r.1.hidden
find_below g i s [] a r e = cc
find_below g i s (f ∷ fs) a r e = by (bytes_eq s f.name) (λ h. find_below g (suc i) s fs a.1 r h) e where
  by : (b : Bool) → (find_function s fs (suc i) ≡ Some r → Below g r.1.hidden) → cond b (Some (i, f)) (find_function s fs (suc i)) ≡ Some r → Below g r.1.hidden
  by true h e = subst (λ o. IfBelow o) e a.0 where
    IfBelow : Option (ℕ × Signature) → Type 0
    IfBelow None = Unit {0}
    IfBelow (Some q) = Below g q.1.hidden
  by false h e = h e

pub lows_keep : (g n : ℕ) (ms : List ℕ) → Below g ms → AllKeep g n (map local_name ms)
lows_keep g n [] b = tt
lows_keep g n (m ∷ ms) b = (tidy_low g n m b.0, lows_keep g n ms b.1)

pub tidy_function_call : (g n i : ℕ) (f : Signature) (ms : List Meaning) (p : Place) → Below g f.hidden → AllKeep g n ms → Keeps g n (function_call i f ms p)
tidy_function_call g n i f ms p a h = tidy_cond g n (nat_eq (length ms) f.arity) (operation (Call i) (ms ++ map local_name f.hidden) p) (fail_with BadArity p)
    (tidy_operation g n (Call i) (ms ++ map local_name f.hidden) p (all_append g n ms (map local_name f.hidden) h (lows_keep g n f.hidden a)) (λ ts. refl)) (tidy_fail g n BadArity p)

pub tidy_row_call : (g : ℕ) (s : List ℕ) (q : Place) (ms : List Meaning) (p : Place) → AllKeep g 0 ms → Keeps g 0 (row_call s q ms p)
tidy_row_call g s q ms p f env st r = by (lookup s env.scope) where
  built : (o : Option BuiltinName) → Keeps g 0 (call_of_builtin o q ms p)
  built None = tidy_fail g 0 UnknownName q
  built (Some b) = tidy_builtin_call g 0 b ms p f

  called : (o : Option (ℕ × Signature)) → ((x : ℕ × Signature) → o ≡ Some x → Below g x.1.hidden) → Makes env st (call_of_function o (call_of_builtin (builtin s) q ms p) ms p env st)
  called None h = built (builtin s) env st r
  called (Some x) h = tidy_function_call g 0 x.0 x.1 ms p (h x refl) f env st r

  by : (o : Option ℕ) → Makes env st (call_of o s q ms p env st)
  by (Some n) = tt
  by None = called (find_function s env.functions 0) (find_below g 0 s env.functions r.2)

pub tidy_keyword : (g : ℕ) (k : List ℕ) (q : Place) (ms : List Meaning) (p : Place) → AllKeep g 0 ms → Keeps g 0 (row_keyword k q ms p)
tidy_keyword g k q [] p f = tidy_fail g 0 BadArity p
tidy_keyword g k q (m ∷ []) p f = tidy_written g 0 k q (operation (Builtin Get) (m ∷ constant_value (key k) ∷ []) p)
    (tidy_operation g 0 (Builtin Get) (m ∷ constant_value (key k) ∷ []) p (f.0, (tidy_constant g 0 (key k) tt, tt)) (λ ts. refl))
tidy_keyword g k q (m ∷ d ∷ []) p f = tidy_written g 0 k q (operation (Builtin Get) (m ∷ constant_value (key k) ∷ d ∷ []) p)
    (tidy_operation g 0 (Builtin Get) (m ∷ constant_value (key k) ∷ d ∷ []) p (f.0, (tidy_constant g 0 (key k) tt, (f.1.0, tt))) (λ ts. refl))
tidy_keyword g k q (m ∷ d ∷ e ∷ ms) p f = tidy_fail g 0 BadArity p

-- what is given to a system task: its further operand is a keyword, if there is one
abbrev pub IsGiven : Given → Type 0
IsGiven (applied f ks) = (k : Tree) × HasKeyword k ks
IsGiven (wrong e) = Unit {0}

pub given_cond : (b : Bool) (x y : Given) → IsGiven x → IsGiven y → IsGiven (cond b x y)
given_cond true x y f h = f
given_cond false x y f h = h

pub given_by_builtin : (o : Option BuiltinName) (b : Bool) → IsGiven (given_builtin o b)
given_by_builtin (Some b) known = given_cond (admits_arguments b 1) (applied (PlainFunction.Builtin b) []) (wrong NotPlain) (nil, bare) tt
given_by_builtin None known = tt

pub given_by_function : (o : Option (ℕ × Signature)) (r : Given) → IsGiven r → IsGiven (given_function o r)
given_by_function None r f = f
given_by_function (Some x) r f = given_cond (x.1.plain && nat_eq x.1.arity 1) (applied (PlainFunction.Defined x.0) []) (wrong NotPlain) (nil, bare) tt

pub given_by_name : (o : Option ℕ) (s : List ℕ) (fs : List Signature) → IsGiven (given_name o s fs)
given_by_name (Some n) s fs = tt
given_by_name None s fs = given_by_function (find_function s fs 0) (given_builtin (builtin s) (is_some (special s))) (given_by_builtin (builtin s) (is_some (special s)))

pub given_by_atom : (a : Atom) (env : Env) → IsGiven (given_atom a env)
given_by_atom (symbol s) env = given_by_name (lookup s env.scope) s env.functions
given_by_atom (keyword k) env = given_cond (nat_lt 65535 (length k)) (wrong TooMany) (applied PlainFunction.Keyword (const (key k) ∷ [])) tt (key k, keyed)
given_by_atom nil_atom env = tt
given_by_atom (bool_atom b) env = tt
given_by_atom (int_atom z) env = tt
given_by_atom (text_atom s) env = tt

pub is_given : (f : FormTree) (env : Env) → IsGiven (given f env)
is_given (form (atom a) p) env = given_by_atom a env
is_given (form (group b fs) p) env = tt
