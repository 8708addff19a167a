-- What a symbol names: a local or a `def`, a function, a builtin, a form, or nothing; and calls.
use Rattle.std.specs.Prelude.{ℕ, suc, List, [], ◌∷◌, ◌++◌, length, map, Option, None, Some, Bool, cond, ◌&&◌, ◌||◌, nat_eq, nat_lt, is_some}
use Rattle.std.specs.Str.{bytes_eq}
use Rattle.ca_value.specs.Tree.{key}
use Rattle.ca_value.specs.Builtins.{admits_arguments}
use Rattle.ca_value.specs.declared.builtin.Builtin.{Builtin as BuiltinName}
use Rattle.ca_value.specs.declared.builtin.Builtin.TheVariants.{Get}
use Rattle.ca_term.specs.declared.place.Place.{Place}
use Rattle.ca_term.specs.declared.head.Head.TheVariants.{Builtin, Call}
use Rattle.ca_term.specs.declared.head.PlainFunction.{PlainFunction}
use Rattle.ca_term.specs.Kernel.{Kernel, const}
use Rattle.ca_reader.specs.Form.{FormTree, Atom, form, atom, group, symbol, key as keyword}
use Rattle.ca_forms.specs.declared.error.CheckErrorKind.{CheckErrorKind}
use Rattle.ca_forms.specs.declared.error.CheckErrorKind.TheVariants.{UnknownName, BadArity, BadForm, NotPlain, TooMany}
use Rattle.ca_forms.specs.Words.{special, builtin}
use Rattle.ca_forms.specs.Meaning.{Meaning, Env, Signature, lookup, constant_value, local_name, fail_with, operation}

-- the function of that name, with its number, from number i on
abbrev pub find_function : List ℕ → List Signature → ℕ → Option (ℕ × Signature)
find_function s [] i = None
find_function s (f ∷ fs) i = cond (bytes_eq s f.name) (Some (i, f)) (find_function s fs (suc i))

-- the name of a function, a builtin or a form
abbrev pub is_known : List ℕ → List Signature → Bool
is_known s fs = is_some (find_function s fs 0) || is_some (builtin s) || is_some (special s)

abbrev pub symbol_of : Option ℕ → List ℕ → Place → Meaning
symbol_of (Some n) s p = local_name n
symbol_of None s p = λ env. fail_with (cond (is_known s env.functions) BadForm UnknownName) p env

-- a symbol as a value: a local or a `def`
abbrev pub row_symbol : List ℕ → Place → Meaning
row_symbol s p env = symbol_of (lookup s env.scope) s p env

-- a text or keyword of at most 65,535 bytes
abbrev pub written_text : List ℕ → Place → Meaning → Meaning
written_text s p m = cond (nat_lt 65535 (length s)) (fail_with TooMany p) m

-- a call of the builtin at p
abbrev pub builtin_call : BuiltinName → List Meaning → Place → Meaning
builtin_call b ms p = cond (admits_arguments b (length ms)) (operation (Builtin b) ms p) (fail_with BadArity p)

-- a call of the function with that number; the `def` names that it uses are passed behind the arguments
abbrev pub function_call : ℕ → Signature → List Meaning → Place → Meaning
function_call n f ms p = cond (nat_eq (length ms) f.arity) (operation (Call n) (ms ++ map local_name f.hidden) p) (fail_with BadArity p)

abbrev pub call_of_builtin : Option BuiltinName → Place → List Meaning → Place → Meaning
call_of_builtin None q ms p = fail_with UnknownName q
call_of_builtin (Some b) q ms p = builtin_call b ms p

abbrev pub call_of_function : Option (ℕ × Signature) → Meaning → List Meaning → Place → Meaning
call_of_function None other ms p = other
call_of_function (Some f) other ms p = function_call f.0 f.1 ms p

abbrev pub call_of : Option ℕ → List ℕ → Place → List Meaning → Place → Meaning
call_of (Some n) s q ms p = fail_with BadForm p
call_of None s q ms p = λ env. call_of_function (find_function s env.functions 0) (call_of_builtin (builtin s) q ms p) ms p env

-- a call at p of the name s, which stands at q
abbrev pub row_call : List ℕ → Place → List Meaning → Place → Meaning
row_call s q ms p env = call_of (lookup s env.scope) s q ms p env

-- (:k m), which is (get m :k); (:k m d), which is (get m :k d)
abbrev pub row_keyword : List ℕ → Place → List Meaning → Place → Meaning
row_keyword k q (m ∷ []) p = written_text k q (operation (Builtin Get) (m ∷ constant_value (key k) ∷ []) p)
row_keyword k q (m ∷ d ∷ []) p = written_text k q (operation (Builtin Get) (m ∷ constant_value (key k) ∷ d ∷ []) p)
row_keyword k q ms p = fail_with BadArity p

-- A function that a system task applies, with the operand that it needs (a keyword is one), or what is wrong.
pub data Given : Type 0 where
  applied : PlainFunction → List Kernel → Given
  wrong : CheckErrorKind → Given

abbrev pub given_builtin : Option BuiltinName → Bool → Given
given_builtin (Some b) known = cond (admits_arguments b 1) (applied (PlainFunction.Builtin b) []) (wrong NotPlain)
given_builtin None known = wrong (cond known NotPlain UnknownName)

abbrev pub given_function : Option (ℕ × Signature) → Given → Given
given_function (Some f) other = cond (f.1.plain && nat_eq f.1.arity 1) (applied (PlainFunction.Defined f.0) []) (wrong NotPlain)
given_function None other = other

abbrev pub given_name : Option ℕ → List ℕ → List Signature → Given
given_name (Some n) s fs = wrong NotPlain
given_name None s fs = given_function (find_function s fs 0) (given_builtin (builtin s) (is_some (special s)))

abbrev pub given_atom : Atom → Env → Given
given_atom (symbol s) env = given_name (lookup s env.scope) s env.functions
given_atom (keyword k) env = cond (nat_lt 65535 (length k)) (wrong TooMany) (applied PlainFunction.Keyword (const (key k) ∷ []))
given_atom a env = wrong NotPlain

-- a plain function of one parameter, a builtin that takes one argument, or a keyword
abbrev pub given : FormTree → Env → Given
given (form (atom a) p) env = given_atom a env
given (form (group b fs) p) env = wrong NotPlain
