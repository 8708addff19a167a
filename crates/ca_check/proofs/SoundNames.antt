-- Symbols and calls make terms that stand well, and what is given to a system task is a plain function.
use Rattle.std.proofs.lemmas.Bool.Decides.{nat_tests}
use Rattle.std.proofs.Common.{◌≤◌, ◌≡◌, ℕ, suc, ◌+◌, ◌<◌, List, [], ◌∷◌, ◌++◌, length, map, refl, sym, ap, ◌∙◌, subst, arith, Option, Some, None, Bool, true, false, cond, ◌&&◌, nat_lt, nat_eq, IsTrue, is_some}
use Rattle.std.specs.Str.{bytes_eq}
use Rattle.std.proofs.lemmas.List.{length-append, length-map}
use Rattle.std.proofs.lemmas.Bool.{eqb-true, and_parts}
use Rattle.ca_value.specs.Tree.{key}
use Rattle.ca_value.specs.IsValue.{IsKeyword}
use Rattle.ca_value.specs.Builtins.{admits_arguments}
use Rattle.ca_value.specs.declared.builtin.Builtin.{Builtin as BuiltinName}
use Rattle.ca_value.specs.declared.builtin.Builtin.TheVariants.{Get}
use Rattle.ca_term.specs.declared.place.Place.{Place}
use Rattle.ca_term.specs.declared.head.Head.TheVariants.{Builtin, Call}
use Rattle.ca_term.specs.declared.head.PlainFunction.{PlainFunction}
use Rattle.ca_term.specs.Kernel.{const}
use Rattle.ca_term.specs.Fits.{Takes, IsApplicable}
use Rattle.ca_term.specs.View.{kernels_of}
use Rattle.ca_reader.specs.Form.{FormTree, Atom, form, atom, group, symbol, nil as nil_atom, bool as bool_atom, int as int_atom, text as text_atom, key as keyword}
use Rattle.ca_forms.specs.declared.error.CheckErrorKind.TheVariants.{UnknownName, BadArity, NotPlain, TooMany}
use Rattle.ca_forms.specs.Words.{special, builtin}
use Rattle.ca_forms.specs.Meaning.{Env, Signature, Meaning, size, last_position, lookup, constant_value, local_name, fail_with, operation}
use Rattle.ca_forms.specs.Names.{find_function, symbol_of, row_symbol, written_text, builtin_call, function_call, call_of_builtin, call_of_function, call_of, row_call, row_keyword, Given, applied, wrong, given_builtin, given_function, given_name, given_atom, given}
use Rattle.ca_reader.specs.Written.{AtomHas}
use Rattle.ca_check.proofs.Well.{Rules, WellTerms, Below}
use Rattle.ca_check.proofs.Places.{Has}
use Rattle.ca_check.proofs.Sound.{Ground, IsSigned, AreSigned, Makes, Sound, sound_constant, sound_low, sound_local, sound_fail, sound_cond, AllSound, all_append, sound_operation}

-- a name's number is one of the scope
pub below_of : (x : List ℕ) (ys : List (List ℕ)) (i : ℕ) (best : Option ℕ) (n : ℕ) → ((m : ℕ) → best ≡ Some m → m < i) → last_position x ys i best ≡ Some n → n < i + length ys
below_of x [] i best n f e = omega (arith, f n e)
below_of x (y ∷ ys) i best n f e = omega (arith, below_of x ys (suc i) (cond (bytes_eq x y) (Some i) best) n (more (bytes_eq x y)) e) where
  more : (b : Bool) (m : ℕ) → cond b (Some i) best ≡ Some m → m < suc i
  more true m h = grind arith
  more false m h = omega (arith, f m h)

pub sound_symbol : (g : Ground) (s : List ℕ) (p : Place) → Sound g 0 (row_symbol s p)
sound_symbol g s p env st r = by (lookup s env.scope) (λ n e. omega (arith, below_of s env.scope 0 None n (λ m x. grind arith) e)) where
  by : (o : Option ℕ) → ((n : ℕ) → o ≡ Some n → n < size env) → Makes g env st (symbol_of o s p env st)
  by None f = tt
  by (Some n) f = sound_local g (size env) n (f n refl) env st (omega arith, r.1, r.2)

pub sound_written : (g : Ground) (n : ℕ) (s : List ℕ) (p : Place) (m : Meaning) → (length s ≤ 65_535 → Sound g n m) → Sound g n (written_text s p m)
sound_written g n s p m f = by (nat_lt 65535 (length s)) refl where
  by : (b : Bool) → nat_lt 65535 (length s) ≡ b → Sound g n (cond b (fail_with TooMany p) m)
  by true e = sound_fail g n TooMany p
  by false e = f (grind (arith, nat_tests))

pub sound_builtin_call : (g : Ground) (n : ℕ) (b : BuiltinName) (ms : List Meaning) (p : Place) → AllSound g n ms → Sound g n (builtin_call b ms p)
sound_builtin_call g n b ms p f = by (admits_arguments b (length ms)) (λ e. e) where
  by : (t : Bool) → (t ≡ true → IsTrue (admits_arguments b (length ms))) → Sound g n (cond t (operation (Builtin b) ms p) (fail_with BadArity p))
  by true h = sound_operation g n (Builtin b) ms p f (λ target. h refl)
  by false h = sound_fail g n BadArity p

-- the functions in scope are known
pub find_signed : (k : Rules) (base i : ℕ) (s : List ℕ) (fs : List Signature) → AreSigned k base i fs → (r : ℕ × Signature) → find_function s fs i ≡ Some r → IsSigned k base r.0 r.1
find_signed k base i s [] a r e = cc
find_signed k base i s (f ∷ fs) a r e = by (bytes_eq s f.name) (λ h. find_signed k base (suc i) s fs a.1 r h) e where
  by : (b : Bool) → (find_function s fs (suc i) ≡ Some r → IsSigned k base r.0 r.1) → cond b (Some (i, f)) (find_function s fs (suc i)) ≡ Some r → IsSigned k base r.0 r.1
  by true h e = subst (λ o. IfSigned o) e a.0 where
    IfSigned : Option (ℕ × Signature) → Type 0
    IfSigned None = Unit {0}
    IfSigned (Some q) = IsSigned k base q.0 q.1
  by false h e = h e

pub lows_sound : (g : Ground) (n : ℕ) (ms : List ℕ) → Below g.base ms → AllSound g n (map local_name ms)
lows_sound g n [] b = tt
lows_sound g n (m ∷ ms) b = (sound_low g n m b.0, lows_sound g n ms b.1)

pub sound_function_call : (g : Ground) (n i : ℕ) (f : Signature) (ms : List Meaning) (p : Place) → IsSigned g.rules g.base i f → AllSound g n ms → Sound g n (function_call i f ms p)
sound_function_call g n i f ms p a h = by (nat_eq (length ms) f.arity) (eqb-true (length ms) f.arity) where
  count : length ms ≡ f.arity → length (ms ++ map local_name f.hidden) ≡ f.arity + length f.hidden
  count e = length-append ms (map local_name f.hidden) ∙ omega (arith, e, length-map f.hidden local_name)

  by : (b : Bool) → (b ≡ true → length ms ≡ f.arity) → Sound g n (cond b (operation (Call i) (ms ++ map local_name f.hidden) p) (fail_with BadArity p))
  by true e = sound_operation g n (Call i) (ms ++ map local_name f.hidden) p (all_append g n ms (map local_name f.hidden) h (lows_sound g n f.hidden a.below))
      (λ target. subst (λ c. Takes g.rules.known.functions i c) (sym (count (e refl))) a.takes)
  by false e = sound_fail g n BadArity p

pub sound_row_call : (g : Ground) (s : List ℕ) (q : Place) (ms : List Meaning) (p : Place) → AllSound g 0 ms → Sound g 0 (row_call s q ms p)
sound_row_call g s q ms p f env st r = by (lookup s env.scope) where
  built : (o : Option BuiltinName) → Sound g 0 (call_of_builtin o q ms p)
  built None = sound_fail g 0 UnknownName q
  built (Some b) = sound_builtin_call g 0 b ms p f

  called : (o : Option (ℕ × Signature)) → ((x : ℕ × Signature) → o ≡ Some x → IsSigned g.rules g.base x.0 x.1) → Makes g env st (call_of_function o (call_of_builtin (builtin s) q ms p) ms p env st)
  called None h = built (builtin s) env st r
  called (Some x) h = sound_function_call g 0 x.0 x.1 ms p (h x refl) f env st r

  by : (o : Option ℕ) → Makes g env st (call_of o s q ms p env st)
  by (Some n) = tt
  by None = called (find_function s env.functions 0) (find_signed g.rules g.base 0 s env.functions r.2)

pub sound_keyword : (g : Ground) (k : List ℕ) (q : Place) (ms : List Meaning) (p : Place) → IsKeyword g.rules.scalars k → AllSound g 0 ms → Sound g 0 (row_keyword k q ms p)
sound_keyword g k q [] p h f = sound_fail g 0 BadArity p
sound_keyword g k q (m ∷ []) p h f = sound_written g 0 k q (operation (Builtin Get) (m ∷ constant_value (key k) ∷ []) p)
    (λ l. sound_operation g 0 (Builtin Get) (m ∷ constant_value (key k) ∷ []) p (f.0, (sound_constant g 0 (key k) (l, h), tt)) (λ target. refl))
sound_keyword g k q (m ∷ d ∷ []) p h f = sound_written g 0 k q (operation (Builtin Get) (m ∷ constant_value (key k) ∷ d ∷ []) p)
    (λ l. sound_operation g 0 (Builtin Get) (m ∷ constant_value (key k) ∷ d ∷ []) p (f.0, (sound_constant g 0 (key k) (l, h), (f.1.0, tt))) (λ target. refl))
sound_keyword g k q (m ∷ d ∷ e ∷ ms) p h f = sound_fail g 0 BadArity p

-- a function that a system task can apply, and constants
abbrev pub IsGiven : Ground → Given → Type 0
IsGiven g (applied f ks) = IsApplicable g.rules.known f × ((n : ℕ) → WellTerms g.rules n (kernels_of ks))
IsGiven g (wrong e) = Unit {0}

pub given_by_builtin : (g : Ground) (o : Option BuiltinName) (b : Bool) → IsGiven g (given_builtin o b)
given_by_builtin g (Some b) known = by (admits_arguments b 1) (λ e. e) where
  by : (t : Bool) → (t ≡ true → IsTrue (admits_arguments b 1)) → IsGiven g (cond t (applied (PlainFunction.Builtin b) []) (wrong NotPlain))
  by true h = (h refl, λ n. tt)
  by false h = tt
given_by_builtin g None known = tt

pub given_by_function : (g : Ground) (o : Option (ℕ × Signature)) (r : Given) → ((x : ℕ × Signature) → o ≡ Some x → IsSigned g.rules g.base x.0 x.1) → IsGiven g r → IsGiven g (given_function o r)
given_by_function g None r h f = f
given_by_function g (Some x) r h f = by (x.1.plain && nat_eq x.1.arity 1) (and_parts x.1.plain (nat_eq x.1.arity 1)) where
  one : x.1.plain ≡ true → x.1.arity ≡ 1 → x.1.arity + length x.1.hidden ≡ 1
  one a b = omega (arith, b, ap length ((h x refl).bare a))

  by : (b : Bool) → (b ≡ true → (x.1.plain ≡ true) × (nat_eq x.1.arity 1 ≡ true)) → IsGiven g (cond b (applied (PlainFunction.Defined x.0) []) (wrong NotPlain))
  by true p = ((subst (λ c. Takes g.rules.known.functions x.0 c) (one (p refl).0 (eqb-true x.1.arity 1 (p refl).1)) (h x refl).takes, (h x refl).plain (p refl).0), λ n. tt)
  by false p = tt

pub given_by_name : (g : Ground) (o : Option ℕ) (s : List ℕ) (fs : List Signature) → AreSigned g.rules g.base 0 fs → IsGiven g (given_name o s fs)
given_by_name g (Some n) s fs a = tt
given_by_name g None s fs a = given_by_function g (find_function s fs 0) (given_builtin (builtin s) (is_some (special s))) (find_signed g.rules g.base 0 s fs a)
    (given_by_builtin g (builtin s) (is_some (special s)))

pub given_by_atom : (g : Ground) (a : Atom) (env : Env) → AtomHas g.rules.scalars a → AreSigned g.rules g.base 0 env.functions → IsGiven g (given_atom a env)
given_by_atom g (symbol s) env y h = given_by_name g (lookup s env.scope) s env.functions h
given_by_atom g (keyword k) env y h = by (nat_lt 65535 (length k)) refl where
  by : (b : Bool) → nat_lt 65535 (length k) ≡ b → IsGiven g (cond b (wrong TooMany) (applied PlainFunction.Keyword (const (key k) ∷ [])))
  by true e = tt
  by false e = (tt, λ n. ((grind (arith, nat_tests), y), tt))
given_by_atom g nil_atom env y h = tt
given_by_atom g (bool_atom b) env y h = tt
given_by_atom g (int_atom z) env y h = tt
given_by_atom g (text_atom s) env y h = tt

pub given_sound : (g : Ground) (f : FormTree) (env : Env) → Has g.rules.scalars f → AreSigned g.rules g.base 0 env.functions → IsGiven g (given f env)
given_sound g (form (atom a) p) env y h = given_by_atom g a env y h
given_sound g (form (group b fs) p) env y h = tt
