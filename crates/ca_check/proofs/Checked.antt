-- Each accepted script gives a checked program: from the end, where all functions and go bodies are known, back
-- through its top-level forms.
use Rattle.std.proofs.Common.{◌≡◌, ℕ, zero, suc, ◌+◌, List, [], ◌∷◌, ◌++◌, length, map, refl, sym, ap, ◌∙◌, subst, arith, ⊎_elim, inr, Some, None, Bool, true, false, cond, ◌&&◌, ◌||◌, ◌==◌, nat_lt, slice_get, Result, Ok, Err, All}
use Rattle.std.specs.Option.{option_map_or}
use Rattle.std.proofs.lemmas.List.{length-append, append-nil, append_assoc}
use Rattle.std.proofs.lemmas.Bool.{eqb-true, and_parts, or_cases}
use Rattle.ca_value.specs.Tree.{nil}
use Rattle.ca_term.specs.declared.place.Place.{Place}
use Rattle.ca_term.specs.Kernel.{Kernel, const, bind}
use Rattle.ca_term.specs.Closed.{IsIn}
use Rattle.ca_term.specs.Fits.{Known, Takes, IsPlain}
use Rattle.ca_term.specs.Program.{ProcedureView, ProgramView, arity, known_in, IsText, IsProcedure, ArePlainFrom, IsProgram}
use Rattle.ca_reader.specs.Form.{FormTrees, none, item, form_place}
use Rattle.ca_forms.specs.declared.error.CheckErrorKind.{CheckErrorKind}
use Rattle.ca_forms.specs.declared.error.CheckErrorKind.TheVariants.{Redefined, TooMany}
use Rattle.ca_forms.specs.Depth.{kernel_depth}
use Rattle.ca_forms.specs.Uses.{uses, aims_out, is_plain, IsGoBody}
use Rattle.ca_forms.specs.Outcome.{Gathered, WalkOutcome, done, refused, after_walk}
use Rattle.ca_forms.specs.Meaning.{Signature, Meaning}
use Rattle.ca_forms.specs.Tops.{Tops, Written, Top, definition, function, expression, wrong, top, is_taken, main_env, numbers, names_of, judged_body, straight, signature, function_env, plain_with, is_empty, with_function, Settled, body_settled, add_function, shallow, Ended, bound_before, bound_top, one_top, is_past, list_parts}
use Rattle.ca_check.specs.Expansion.{tops, is_namespace, script_tops, program_of, expansion_of}
use Rattle.ca_check.proofs.Well.{Rules, bindings_scalars, Well, WellBindings, fits, source, anew, closed, Below, uses_only, uses_below, Implies, plain_term}
use Rattle.ca_value.specs.IsValue.{Scalars, any}
use Rattle.ca_term.specs.Constants.{HasScalars, ProgramHasScalars}
use Rattle.ca_reader.specs.Written.{HaveScalars}
use Rattle.ca_check.proofs.Places.{HavePlaces, judged_places, any_forms}
use Rattle.ca_check.proofs.Grew.{Each, each_append, Agrees, agrees_prefix, IsRight, IsMade, Grew, IfDone, if_cond}
use Rattle.ca_check.proofs.Sound.{Ground, IsSigned, AreSigned, Makes, Sound}
use Rattle.ca_check.proofs.SoundTops.{TopSound, sound_top, signed_more, signed_behind, numbers_length, names_length, function_procedure, Settles, settled_settles}

-- whether the function of that number is plain
abbrev pub plain_in : List Signature → ℕ → Bool
plain_in fs n = option_map_or (λ (f : Signature). f.plain) (slice_get fs n) false

pub plain_at : (fs : List Signature) (f : Signature) (gs : List Signature) → plain_in (fs ++ f ∷ gs) (length fs) ≡ f.plain
plain_at [] f gs = refl
plain_at (x ∷ fs) f gs = plain_at fs f gs

pub plain_before : (fs gs : List Signature) (n : ℕ) → plain_in fs n ≡ true → plain_in (fs ++ gs) n ≡ true
plain_before [] gs n e = cc
plain_before (x ∷ fs) gs zero e = e
plain_before (x ∷ fs) gs (suc n) e = plain_before fs gs n e

pub takes_at : (xs : List ProcedureView) (y : ProcedureView) (ys : List ProcedureView) → Takes (map arity (xs ++ y ∷ ys)) (length xs) (arity y)
takes_at [] y ys = refl
takes_at (x ∷ xs) y ys = takes_at xs y ys

pub agrees_self : (bs : List ProcedureView) → Agrees bs (map arity bs)
agrees_self [] = tt
agrees_self (b ∷ bs) = (inr refl, agrees_self bs)

pub all_of_each : {A : Type 0} (P : A → Type 0) (xs : List A) → Each P xs → All P xs
all_of_each P [] e k d l = absurd (omega (arith, l))
all_of_each P (x ∷ xs) e zero d l = e.0
all_of_each P (x ∷ xs) e (suc k) d l = all_of_each P xs e.1 k d (omega (arith, l))

pub each_first : {A : Type 0} (P Q : A → Type 0) (xs : List A) → Each (λ x. P x × Q x) xs → Each P xs
each_first P Q [] e = tt
each_first P Q (x ∷ xs) e = (e.0.0, each_first P Q xs e.1)

pub each_second : {A : Type 0} (P Q : A → Type 0) (xs : List A) → Each (λ x. P x × Q x) xs → Each Q xs
each_second P Q [] e = tt
each_second P Q (x ∷ xs) e = (e.0.1, each_second P Q xs e.1)

-- what the program knows at the end
pub record Final (k : Rules) (r : Ended) (s : Gathered) : Type 0 where
  pub functions : k.known.functions ≡ map arity r.tops.procedures
  pub bodies : Agrees s.bodies k.known.bodies
  pub plain : (n : ℕ) → k.known.plain n ≡ plain_in r.tops.functions n

-- what the forms from here on have added
pub record Held (k : Rules) (t : Tops) (s : Gathered) (r : Ended) (s2 : Gathered) (procedures : List ProcedureView) : Type 0 where
  pub bodies : List ProcedureView
  pub extends : s2.bodies ≡ s.bodies ++ bodies
  pub bodies_fit : Each (IsMade k) bodies
  pub functions_fit : Each (IsRight k) procedures
  pub plain : ArePlainFrom k.known.plain (length t.procedures) procedures
  pub main : WellBindings k (length t.scope) r.bindings

pub record Ran (k : Rules) (t : Tops) (s : Gathered) (r : Ended) (s2 : Gathered) : Type 0 where
  pub procedures : List ProcedureView
  pub extends : r.tops.procedures ≡ t.procedures ++ procedures
  pub signatures : List Signature
  pub signed : r.tops.functions ≡ t.functions ++ signatures
  pub holds : length t.functions ≡ length t.procedures → AreSigned k (length t.scope) 0 t.functions → Final k r s2 → Held k t s r s2 procedures

-- a value of the main text, then the rest
pub bound_ran : (k : Rules) (x : List ℕ) (m : Meaning) (d : ℕ) (p : Place) (rest : Tops → Gathered → WalkOutcome Ended) (t : Tops) (s : Gathered)
    → Sound (record { rules = k; base = length t.scope }) 0 m → ((t : Tops) (s : Gathered) → IfDone (rest t s) (Ran k t s)) → IfDone (bound_top x m d p rest t s) (Ran k t s)
bound_ran k x m d p rest t s h f = by (m (main_env t) s) (λ a. h (main_env t) s (omega arith, omega arith, a)) where
  g : Ground
  g = record { rules = k; base = length t.scope }

  behind : Tops
  behind = record t { scope = t.scope ++ x ∷ []; defined = t.defined + d }

  longer : length (t.scope ++ x ∷ []) ≡ suc (length t.scope)
  longer = length-append t.scope (x ∷ []) ∙ omega arith

  joined : (u : Kernel) (s1 : Gathered) → (AreSigned k (length t.scope) 0 t.functions → Grew k s s1 (Well k (length t.scope) None u))
      → (o : WalkOutcome Ended) → IfDone o (Ran k behind s1) → IfDone (bound_before (length t.scope) u o) (Ran k t s)
  joined u s1 w (refused e q) y = tt
  joined u s1 w (done r s2) y = record {
    procedures = y.procedures;
    extends = y.extends;
    signatures = y.signatures;
    signed = y.signed;
    holds = λ pair a fin.
        let after_it : Held k behind s1 r s2 y.procedures = y.holds pair (signed_more k (length t.scope) (length (t.scope ++ x ∷ [])) 0 t.functions (omega (arith, longer)) a)
        (record { functions = fin.functions; bodies = fin.bodies; plain = fin.plain }) in
        let first : Grew k s s1 (Well k (length t.scope) None u) = w a in
        let made : Each (IsMade k) first.more × Well k (length t.scope) None u = first.holds (agrees_prefix s1.bodies after_it.bodies k.known.bodies (subst (λ l. Agrees l k.known.bodies) after_it.extends fin.bodies)) in
        record {
          bodies = first.more ++ after_it.bodies;
          extends = after_it.extends ∙ ap (λ (l : List ProcedureView). l ++ after_it.bodies) first.extends ∙ append_assoc s.bodies first.more after_it.bodies;
          bodies_fit = each_append (IsMade k) first.more after_it.bodies made.0 after_it.bodies_fit;
          functions_fit = after_it.functions_fit;
          plain = after_it.plain;
          main = (refl, made.1, subst (λ n. WellBindings k n r.bindings) longer after_it.main);
        };
  }

  by : (o : WalkOutcome Kernel) → (AreSigned k (length t.scope) 0 t.functions → Makes g (main_env t) s o)
      → IfDone (after_walk o (λ u s2. cond (s2.deep || nat_lt 399 (kernel_depth u)) (refused TooMany p) (bound_before (length t.scope) u (rest behind s2)))) (Ran k t s)
  by (refused e q) w = tt
  by (done u s1) w = if_cond (s1.deep || nat_lt 399 (kernel_depth u)) (refused TooMany p) (bound_before (length t.scope) u (rest behind s1)) (Ran k t s) tt
      (joined u s1 w (rest behind s1) (f behind s1))

-- a function, then the rest
pub empty_is : (xs : List ℕ) → is_empty xs ≡ true → xs ≡ []
empty_is [] e = refl
empty_is (x ∷ xs) e = cc

pub function_ran : (k : Rules) (w : Written) (t : Tops) (s : Gathered) (r : Settled) (s1 : Gathered) (e : Ended) (s2 : Gathered) → Settles k w t s r s1
    → Ran k (with_function w r.hidden r.body t) s1 e s2 → Ran k t s e s2
function_ran k w t s r s1 e s2 x y = record {
  procedures = made ∷ y.procedures;
  extends = extends_now;
  signatures = sig ∷ y.signatures;
  signed = signed_now;
  holds = λ pair a fin.
      let is_signed : IsSigned k (length t.scope) (length t.functions) sig = signs pair fin in
      let own : IsSigned k (length t.scope) (length t.functions) (signature w r.hidden false) =
      record { takes = is_signed.takes; below = x.below; plain = λ i. cc; bare = λ i. cc } in
      let first : Grew k s s1 (Well k (length t.scope + length (names_of w.parameters)) None r.body) =
      x.grew (signed_behind k (length t.scope) 0 t.functions (signature w r.hidden false) a (subst (λ n. IsSigned k (length t.scope) n (signature w r.hidden false)) (omega arith) own)) in
      let after_it : Held k (with_function w r.hidden r.body t) s1 e s2 y.procedures =
      y.holds (length-append t.functions (sig ∷ []) ∙ omega (arith, pair, length-append t.procedures (made ∷ [])))
      (signed_behind k (length t.scope) 0 t.functions sig a (subst (λ n. IsSigned k (length t.scope) n sig) (omega arith) is_signed)) fin in
      let holds : Each (IsMade k) first.more × Well k (length t.scope + length (names_of w.parameters)) None r.body =
      first.holds (agrees_prefix s1.bodies after_it.bodies k.known.bodies (subst (λ l. Agrees l k.known.bodies) after_it.extends fin.bodies)) in
      record {
        bodies = first.more ++ after_it.bodies;
        extends = after_it.extends ∙ ap (λ (l : List ProcedureView). l ++ after_it.bodies) first.extends ∙ append_assoc s.bodies first.more after_it.bodies;
        bodies_fit = each_append (IsMade k) first.more after_it.bodies holds.0 after_it.bodies_fit;
        functions_fit = (function_procedure k (length t.scope) r.hidden (names_of w.parameters) r.body x.below x.same holds.1, after_it.functions_fit);
        plain = (λ i. plain_body pair fin i, subst (λ n. ArePlainFrom k.known.plain n y.procedures) (length-append t.procedures (made ∷ []) ∙ omega arith) after_it.plain);
        main = after_it.main;
      };
} where
  flag : Bool
  flag = is_empty r.hidden && is_plain (plain_with (length t.functions) t.functions) r.body

  sig : Signature
  sig = signature w r.hidden flag

  made : ProcedureView
  made = record { parameters = numbers (length t.scope) (names_of w.parameters) ++ r.hidden; body = r.body }

  extends_now : e.tops.procedures ≡ t.procedures ++ made ∷ y.procedures
  extends_now = y.extends ∙ append_assoc t.procedures (made ∷ []) y.procedures

  signed_now : e.tops.functions ≡ t.functions ++ sig ∷ y.signatures
  signed_now = y.signed ∙ append_assoc t.functions (sig ∷ []) y.signatures

  arities : length (numbers (length t.scope) (names_of w.parameters) ++ r.hidden) ≡ length w.parameters + length r.hidden
  arities = length-append (numbers (length t.scope) (names_of w.parameters)) r.hidden ∙ omega (arith, numbers_length (length t.scope) (names_of w.parameters), names_length w.parameters)

  known_plain : Final k e s2 → k.known.plain (length t.functions) ≡ flag
  known_plain fin = fin.plain (length t.functions) ∙ ap (λ (l : List Signature). plain_in l (length t.functions)) signed_now ∙ plain_at t.functions sig y.signatures

  signs : length t.functions ≡ length t.procedures → Final k e s2 → IsSigned k (length t.scope) (length t.functions) sig
  signs pair fin = record {
    takes = subst (λ l. Takes l (length t.functions) (length w.parameters + length r.hidden)) (sym (fin.functions ∙ ap (λ (l : List ProcedureView). map arity l) extends_now))
        (subst (λ n. Takes (map arity (t.procedures ++ made ∷ y.procedures)) n (length w.parameters + length r.hidden)) (sym pair)
        (subst (λ c. Takes (map arity (t.procedures ++ made ∷ y.procedures)) (length t.procedures) c) arities (takes_at t.procedures made y.procedures)));
    below = x.below;
    plain = λ i. known_plain fin ∙ i;
    bare = λ i. empty_is r.hidden (and_parts (is_empty r.hidden) (is_plain (plain_with (length t.functions) t.functions) r.body) i).0;
  }

  implied : Final k e s2 → flag ≡ true → Implies (plain_with (length t.functions) t.functions) k.known.plain
  implied fin i n j = ⊎_elim
      (λ is. subst (λ m. k.known.plain m ≡ true) (sym (eqb-true n (length t.functions) is)) (known_plain fin ∙ i))
      (λ is. fin.plain n ∙ ap (λ (l : List Signature). plain_in l n) signed_now ∙ plain_before t.functions (sig ∷ y.signatures) n is)
      (or_cases (n == length t.functions) (plain_in t.functions n) j)

  plain_body : length t.functions ≡ length t.procedures → Final k e s2 → k.known.plain (length t.procedures) ≡ true → IsPlain k.known.plain r.body
  plain_body pair fin i =
      let is : flag ≡ true = sym (known_plain fin) ∙ subst (λ n. k.known.plain n ≡ true) (sym pair) i in
      plain_term (plain_with (length t.functions) t.functions) k.known.plain (implied fin is) r.body
      (and_parts (is_empty r.hidden) (is_plain (plain_with (length t.functions) t.functions) r.body) is).1

pub add_ran : (k : Rules) (w : Written) (p : Place) (rest : Tops → Gathered → WalkOutcome Ended) (t : Tops) (s : Gathered)
    → Sound (record { rules = k; base = length t.scope }) 0 w.body → ((t : Tops) (s : Gathered) → IfDone (rest t s) (Ran k t s))
    → IfDone (after_walk (add_function w p t s) (λ t2 s2. after_walk (shallow p t2 s2) rest)) (Ran k t s)
add_ran k w p rest t s h f = by (judged_body w (straight (Some (length w.parameters)) w p) (function_env (signature w [] false) t) s)
    (judged_places k.scalars w (straight (Some (length w.parameters)) w p) (function_env (signature w [] false) t) s) where
      shown : (r : Settled) (s1 : Gathered) → Settles k w t s r s1 → (o : WalkOutcome Ended) → IfDone o (Ran k (with_function w r.hidden r.body t) s1) → IfDone o (Ran k t s)
      shown r s1 x (refused e q) y = tt
      shown r s1 x (done e s2) y = function_ran k w t s r s1 e s2 x y

      deep : (r : Settled) (s1 : Gathered) → Settles k w t s r s1 → (b : Bool)
          → IfDone (after_walk (cond b (refused TooMany p) (done (with_function w r.hidden r.body t) s1)) rest) (Ran k t s)
      deep r s1 x true = tt
      deep r s1 x false = shown r s1 x (rest (with_function w r.hidden r.body t) s1) (f (with_function w r.hidden r.body t) s1)

      low : (r : Settled) (s1 : Gathered) → Settles k w t s r s1 → (b : Bool)
          → IfDone (after_walk (cond b (refused TooMany p) (done (with_function w r.hidden r.body t) s1)) (λ t2 s2. after_walk (shallow p t2 s2) rest)) (Ran k t s)
      low r s1 x true = tt
      low r s1 x false = deep r s1 x s1.deep

      then_added : (o : WalkOutcome Settled) → IfDone o (Settles k w t s)
          → IfDone (after_walk (after_walk o (λ r s2. cond (nat_lt 60 (kernel_depth r.body)) (refused TooMany p) (done (with_function w r.hidden r.body t) s2))) (λ t2 s2. after_walk (shallow p t2 s2) rest)) (Ran k t s)
      then_added (refused e q) x = tt
      then_added (done r s1) x = low r s1 x (nat_lt 60 (kernel_depth r.body))

      not_deep : (first : Kernel) → HavePlaces k.scalars w.parameters → (b : Bool) → IfDone (after_walk (cond b (refused TooMany p) (after_walk (body_settled 66 (aims_out first) (uses (length t.scope) first []) w p t s) (λ r s2.
          cond (nat_lt 60 (kernel_depth r.body)) (refused TooMany p) (done (with_function w r.hidden r.body t) s2)))) (λ t2 s2. after_walk (shallow p t2 s2) rest)) (Ran k t s)
      not_deep first places true = tt
      not_deep first places false = then_added (body_settled 66 (aims_out first) (uses (length t.scope) first []) w p t s)
          (settled_settles k w p t s (aims_out first) places h 66 (uses (length t.scope) first []) (uses_below (length t.scope) first [] tt))

      by : (o : WalkOutcome Kernel) → IfDone o (λ first s1. HavePlaces k.scalars w.parameters) → IfDone (after_walk (after_walk o (λ first s1.
          cond s1.deep (refused TooMany p) (after_walk (body_settled 66 (aims_out first) (uses (length t.scope) first []) w p t s) (λ r s2.
          cond (nat_lt 60 (kernel_depth r.body)) (refused TooMany p) (done (with_function w r.hidden r.body t) s2))))) (λ t2 s2. after_walk (shallow p t2 s2) rest)) (Ran k t s)
      by (refused e q) places = tt
      by (done first s1) places = not_deep first places s1.deep

pub one_ran : (k : Rules) (x : Top) (p : Place) (rest : Tops → Gathered → WalkOutcome Ended) (t : Tops) (s : Gathered) → TopSound (record { rules = k; base = length t.scope }) x
    → ((t : Tops) (s : Gathered) → IfDone (rest t s) (Ran k t s)) → IfDone (one_top x p rest t s) (Ran k t s)
one_ran k wrong p rest t s h f = tt
one_ran k (definition x m) p rest t s h f = if_cond (is_taken x t) (refused Redefined p) (bound_top x m 1 p rest t s) (Ran k t s) tt (bound_ran k x m 1 p rest t s h f)
one_ran k (expression m) p rest t s h f = bound_ran k [] m 0 p rest t s h f
one_ran k (function w) p rest t s h f = if_cond (is_taken w.name t) (refused Redefined p) _ (Ran k t s) tt
    (if_cond (nat_lt 16 (length w.parameters)) (refused TooMany p) _ (Ran k t s) tt (add_ran k w p rest t s h f))

pub tops_ran : (k : Rules) (fs : FormTrees) (i : ℕ) (t : Tops) (s : Gathered) → HaveScalars k.scalars fs → IfDone (tops i fs t s) (Ran k t s)
tops_ran k none i t s y = record {
  procedures = [];
  extends = sym (append-nil t.procedures);
  signatures = [];
  signed = sym (append-nil t.functions);
  holds = λ pair a fin. record { bodies = []; extends = sym (append-nil s.bodies); bodies_fit = tt; functions_fit = tt; plain = tt; main = tt };
}
tops_ran k (item f fs) i t s y = if_cond (is_past i f t) (refused TooMany (form_place f)) _ (Ran k t s) tt
    (one_ran k (top f) (form_place f) (λ t s. tops (suc i) fs t s) t s (sound_top (record { rules = k; base = length t.scope }) f y.0) (λ t s. tops_ran k fs (suc i) t s y.1))

pub script_ran : (k : Rules) (fs : FormTrees) (t : Tops) (s : Gathered) → HaveScalars k.scalars fs → IfDone (script_tops fs t s) (Ran k t s)
script_ran k none t s y = tops_ran k none 0 t s y
script_ran k (item f fs) t s y = if_cond (is_namespace f) _ (tops 0 (item f fs) t s) (Ran k t s)
    (if_cond (nat_lt 4096 (length (list_parts f))) (refused TooMany (form_place f)) (tops 1 fs t s) (Ran k t s) tt (tops_ran k fs 1 t s y.1)) (tops_ran k (item f fs) 0 t s y)

abbrev pub start : Tops
start = record { scope = []; functions = []; procedures = []; defined = 0 }

abbrev pub untouched : Gathered
untouched = record { bodies = []; deep = false }

-- the main text stands alone
pub main_text : (k : Rules) (t : Kernel) → Well k 0 None t → IsText k.known [] t
main_text k t w = record {
  bound = closed k 0 (uses 0 t []) 0 None t [] w (uses_only 0 t [])
      ((λ m i. below_none m (uses 0 t []) (uses_below 0 t [] tt) i), (λ m l u. absurd (omega (arith, u))));
  anew = anew k 0 None t [] w tt;
  fits = fits k 0 None t w;
  source = source k 0 None t w;
} where
  below_none : (m : ℕ) (us : List ℕ) → Below 0 us → IsIn m us → ⊥
  below_none m [] b i = i
  below_none m (x ∷ us) b i = absurd (omega (arith, b.0))

abbrev pub program_in : Ended → Gathered → ProgramView
program_in r s = record { functions = r.tops.procedures; bodies = s.bodies; main = bind r.bindings (const nil) }

-- what is shown of the program of a script
pub record Accepted (scalars : Scalars) (p : ProgramView) : Type 0 where
  pub program : IsProgram p
  pub bodies : All IsGoBody p.bodies
  pub constants : ProgramHasScalars scalars p

has_scalars : Scalars → ProcedureView → Type 0
has_scalars scalars t = HasScalars scalars t.body

-- once a script was gone through, whatever is known of its functions and bodies
ended : (scalars : Scalars) (r : Ended) (s : Gathered) → ((k : Known) → Ran (record { known = k; scalars = scalars }) start untouched r s) → Accepted scalars (program_in r s)
unfolding has_scalars
ended scalars r s f = record {
  program = record {
    plain = plain_in r.tops.functions;
    functions_fit = all_of_each (IsProcedure known) r.tops.procedures (each_first (IsProcedure known) (has_scalars scalars) r.tops.procedures functions);
    bodies_fit = all_of_each (IsProcedure known) s.bodies (each_first (IsProcedure known) (has_scalars scalars) s.bodies bodies);
    main_fits = main_text k (bind r.bindings (const nil)) (held.main, tt);
    plain_functions = subst (λ l. ArePlainFrom (plain_in r.tops.functions) 0 l) (sym ran.extends) held.plain;
  };
  bodies = all_of_each IsGoBody s.bodies (each_second (IsRight k) IsGoBody s.bodies made);
  constants = record {
    functions = all_of_each (has_scalars scalars) r.tops.procedures (each_second (IsProcedure known) (has_scalars scalars) r.tops.procedures functions);
    bodies = all_of_each (has_scalars scalars) s.bodies (each_second (IsProcedure known) (has_scalars scalars) s.bodies bodies);
    main = (bindings_scalars k 0 r.bindings held.main, tt);
  };
} where
  known : Known
  known = known_in (plain_in r.tops.functions) (program_in r s)

  k : Rules
  k = record { known = known; scalars = scalars }

  ran : Ran k start untouched r s
  ran = f known

  held : Held k start untouched r s ran.procedures
  held = ran.holds refl tt (record { functions = refl; bodies = agrees_self s.bodies; plain = λ n. refl })

  made : Each (IsMade k) s.bodies
  made = subst (λ l. Each (IsMade k) l) (sym held.extends) held.bodies_fit

  bodies : Each (IsRight k) s.bodies
  bodies = each_first (IsRight k) IsGoBody s.bodies made

  functions : Each (IsRight k) r.tops.procedures
  functions = subst (λ l. Each (IsRight k) l) (sym ran.extends) held.functions_fit

accepted : (scalars : Scalars) (fs : FormTrees) (p : ProgramView) → HaveScalars scalars fs → expansion_of fs ≡ Ok p → Accepted scalars p
accepted scalars fs p h e = by (script_tops fs start untouched) (λ k. script_ran (record { known = k; scalars = scalars }) fs start untouched h) e where
  IfAccepted : Result ProgramView (CheckErrorKind × Place) → Type 0
  IfAccepted (Ok p) = Accepted scalars p
  IfAccepted (Err e) = Unit {0}

  by : (o : WalkOutcome Ended) → ((k : Known) → IfDone o (Ran (record { known = k; scalars = scalars }) start untouched)) → program_of o ≡ Ok p → Accepted scalars p
  by (refused k q) f e = cc
  by (done r s) f e = subst (λ o. IfAccepted o) e (ended scalars r s f)

pub accepted_program : (fs : FormTrees) (p : ProgramView) → expansion_of fs ≡ Ok p → IsProgram p
accepted_program fs p e = (accepted any fs p (any_forms fs) e).program

pub accepted_bodies : (fs : FormTrees) (p : ProgramView) → expansion_of fs ≡ Ok p → All IsGoBody p.bodies
accepted_bodies fs p e = (accepted any fs p (any_forms fs) e).bodies

pub accepted_constants : (scalars : Scalars) (fs : FormTrees) (p : ProgramView) → HaveScalars scalars fs → expansion_of fs ≡ Ok p → ProgramHasScalars scalars p
accepted_constants scalars fs p h e = (accepted scalars fs p h e).constants
