-- Each accepted script gives a checked program.
use Rattle.std.proofs.Common.{◌≡◌, ℕ, zero, suc, ◌+◌, ◌<◌, ◌≤◌, List, [], ◌∷◌, ◌++◌, length, refl, ap, subst, arith, ⊎_elim, inl, inr, Option, Some, None, Bool, true, false, cond, nat_lt, nat_eq}
use Rattle.std.specs.List.{list_any}
use Rattle.std.proofs.lemmas.List.{length-append, length-map}
use Rattle.std.proofs.lemmas.Bool.{eqb-true, cases_lt}
use Rattle.ca_term.specs.declared.place.Place.{Place}
use Rattle.ca_term.specs.Kernel.{Kernel}
use Rattle.ca_term.specs.Closed.{IsIn}
use Rattle.ca_term.specs.Program.{IsProcedure}
use Rattle.ca_reader.specs.declared.form.Bracket.TheVariants.{Round, Square, Curly}
use Rattle.ca_reader.specs.Form.{FormTree, form, atom, group}
use Rattle.ca_forms.specs.declared.special.Special.{Special}
use Rattle.ca_forms.specs.declared.error.CheckErrorKind.TheVariants.{TooMany}
use Rattle.ca_forms.specs.Uses.{uses}
use Rattle.ca_forms.specs.Outcome.{Gathered, WalkOutcome, done, refused, after_walk}
use Rattle.ca_forms.specs.Meaning.{Env, Signature, Meaning}
use Rattle.ca_forms.specs.Binders.{Part, Binder, is_pattern, whole_name}
use Rattle.ca_forms.specs.Plain.{meanings}
use Rattle.ca_forms.specs.Walk.{walk}
use Rattle.ca_forms.specs.Tops.{Tops, Written, Top, definition, function, expression, wrong, top_name, definition_of, def_top, parameters_in, function_top, note_in, defn_behind, defn_top, word_at_head, behind_head, list_top, list_parts, top, numbers, same_names, names_of, over_parameters, straight, looped, body_of, signature, function_env, Settled, body_settled}
use Rattle.ca_check.proofs.Well.{Rules, scalars_in, Well, fits, source, anew, closed, Below, below_more, below_append, Only, uses_only, uses_below, uses_extends, extended_same, in_left, in_right}
use Rattle.ca_check.proofs.Grew.{IsRight, Grew, IfDone, if_cond}
use Rattle.ca_check.proofs.Places.{HavePlaces, Has}
use Rattle.ca_check.proofs.Sound.{Ground, IsSigned, AreSigned, Stands, Makes, Sound, aimed, weaken, sound_local, sound_cond, NamedSound, sound_block, sound_loops}
use Rattle.ca_check.proofs.SoundPlain.{PartsSound, means_sound, sound_over_patterns}
use Rattle.ca_check.proofs.SoundWalk.{sound_walk, sound_parts}

-- what stands at top level is made of sound parts
abbrev pub TopSound : Ground → Top → Type 0
TopSound g (definition x m) = Sound g 0 m
TopSound g (function f) = Sound g 0 f.body
TopSound g (expression m) = Sound g 0 m
TopSound g wrong = Unit {0}

pub sound_definition_of : (g : Ground) (o : Option (List ℕ)) (m : Meaning) → Sound g 0 m → TopSound g (definition_of o m)
sound_definition_of g None m f = tt
sound_definition_of g (Some x) m f = f

pub sound_def_top : (g : Ground) (qs : List Part) → PartsSound g qs → TopSound g (def_top qs)
sound_def_top g [] f = tt
sound_def_top g (x ∷ []) f = tt
sound_def_top g (x ∷ e ∷ []) f = sound_definition_of g (top_name x.form) e.means f.2.0
sound_def_top g (x ∷ e ∷ y ∷ qs) f = tt

pub sound_function_of : (g : Ground) (x : Option (List ℕ)) (bs : Option (List Binder)) (n : Option (List ℕ × Place)) (qs : List Part) → PartsSound g qs → TopSound g (function_top x bs n qs)
sound_function_of g None bs n qs f = tt
sound_function_of g (Some x) None n qs f = tt
sound_function_of g (Some x) (Some bs) n qs f = sound_block g 0 (meanings qs) (means_sound g qs f)

pub sound_defn_behind : (g : Ground) (x : Option (List ℕ)) (n : Option (List ℕ × Place)) (a : Part) (qs : List Part) → PartsSound g qs → TopSound g (defn_behind x n a qs)
sound_defn_behind g x None a qs f = sound_function_of g x (parameters_in a.form) None qs f
sound_defn_behind g x (Some n) a [] f = tt
sound_defn_behind g x (Some n) a (b ∷ qs) f = sound_function_of g x (parameters_in b.form) (Some n) qs f.2

pub sound_defn_top : (g : Ground) (qs : List Part) → PartsSound g qs → TopSound g (defn_top qs)
sound_defn_top g [] f = tt
sound_defn_top g (x ∷ []) f = tt
sound_defn_top g (x ∷ a ∷ qs) f = sound_defn_behind g (top_name x.form) (note_in a.form) a qs f.2.2

pub behind_sound : (g : Ground) (qs : List Part) → PartsSound g qs → PartsSound g (behind_head qs)
behind_sound g [] f = tt
behind_sound g (h ∷ qs) f = f.2

pub list_parts_sound : (g : Ground) (f : FormTree) → Has g.rules.scalars f → PartsSound g (list_parts f)
list_parts_sound g (form (group Round fs) p) y = sound_parts g fs y
list_parts_sound g (form (group Square fs) p) y = tt
list_parts_sound g (form (group Curly fs) p) y = tt
list_parts_sound g (form (atom a) p) y = tt

pub sound_list_top : (g : Ground) (k : Option Special) (qs : List Part) (m : Meaning) → PartsSound g qs → Sound g 0 m → TopSound g (list_top k qs m)
sound_list_top g None qs m f h = h
sound_list_top g (Some Special.Def) qs m f h = sound_def_top g qs f
sound_list_top g (Some Special.Defn) qs m f h = sound_defn_top g qs f
sound_list_top g (Some k) qs m f h = h

pub sound_top : (g : Ground) (f : FormTree) → Has g.rules.scalars f → TopSound g (top f)
sound_top g f y = sound_list_top g (word_at_head (list_parts f)) (behind_head (list_parts f)) (walk f) (behind_sound g (list_parts f) (list_parts_sound g f y)) (sound_walk g f y)

-- the functions known so far, behind further names and further functions
pub signed_more : (k : Rules) (b c i : ℕ) (fs : List Signature) → b ≤ c → AreSigned k b i fs → AreSigned k c i fs
signed_more k b c i [] l a = tt
signed_more k b c i (f ∷ fs) l a = (record { takes = a.0.takes; below = below_more b c f.hidden l a.0.below; plain = a.0.plain; bare = a.0.bare }, signed_more k b c (suc i) fs l a.1)

pub signed_behind : (k : Rules) (b i : ℕ) (fs : List Signature) (f : Signature) → AreSigned k b i fs → IsSigned k b (i + length fs) f → AreSigned k b i (fs ++ f ∷ [])
signed_behind k b i [] f a h = (subst (λ n. IsSigned k b n f) (omega arith) h, tt)
signed_behind k b i (x ∷ fs) f a h = (a.0, signed_behind k b (suc i) fs f a.1 (subst (λ n. IsSigned k b n f) (omega arith) h))

-- a function's numbers
pub numbers_length : (n : ℕ) (xs : List (List ℕ)) → length (numbers n xs) ≡ length xs
numbers_length n [] = refl
numbers_length n (x ∷ xs) = ap suc (numbers_length (suc n) xs)

pub numbers_below : (n m : ℕ) (xs : List (List ℕ)) → n + length xs ≤ m → Below m (numbers n xs)
numbers_below n m [] l = tt
numbers_below n m (x ∷ xs) l = (omega (arith, l), numbers_below (suc n) m xs (omega (arith, l)))

pub in_numbers : (n m : ℕ) (xs : List (List ℕ)) → n ≤ m → m < n + length xs → IsIn m (numbers n xs)
in_numbers n m [] l u = absurd (omega (arith, l, u))
in_numbers n m (x ∷ xs) l u = ⊎_elim (λ b. inr (in_numbers (suc n) m xs (omega (arith, b)) (omega (arith, u)))) (λ b. inl (omega (arith, l, b))) (cases_lt n m)

-- the body of a function in a scope of n names of the main text and so many parameters
pub function_procedure : (k : Rules) (n : ℕ) (hidden : List ℕ) (xs : List (List ℕ)) (t : Kernel) → Below n hidden → length (uses n t hidden) ≡ length hidden
    → Well k (n + length xs) None t → IsRight k (record { parameters = numbers n xs ++ hidden; body = t })
function_procedure k n hidden xs t b e w = (is_one, scalars_in k (n + length xs) None t w) where
  is_one : IsProcedure k.known (record { parameters = numbers n xs ++ hidden; body = t })
  is_one = record {
    bound = closed k n hidden (n + length xs) None t (numbers n xs ++ hidden) w
        (subst (λ us. Only n us t) (extended_same hidden (uses n t hidden) (uses_extends n t hidden) e) (uses_only n t hidden))
        ((λ m h. in_right m (numbers n xs) hidden h), (λ m l u. in_left m (numbers n xs) hidden (in_numbers n m xs l u)));
    anew = anew k (n + length xs) None t (numbers n xs ++ hidden) w
        (below_append (n + length xs) (numbers n xs) hidden (numbers_below n (n + length xs) xs (omega arith)) (below_more n (n + length xs) hidden (omega arith) b));
    fits = fits k (n + length xs) None t w;
    source = source k (n + length xs) None t w;
  }

-- a function's body is sound in the function's scope
pub same_names_sound : (g : Ground) (n : ℕ) (xs : List (List ℕ)) (m : ℕ) → n + length xs ≤ m → NamedSound g m (same_names n xs)
same_names_sound g n [] m l = tt
same_names_sound g n (x ∷ xs) m l = (sound_local g m n (omega (arith, l)), same_names_sound g (suc n) xs (suc m) (omega (arith, l)))

pub same_names_length : (n : ℕ) (xs : List (List ℕ)) → length (same_names n xs) ≡ length xs
same_names_length n [] = refl
same_names_length n (x ∷ xs) = ap suc (same_names_length (suc n) xs)

pub sound_over_parameters : (g : Ground) (f : Written) (p : Place) (n m : ℕ) → n + length f.parameters ≤ m → HavePlaces g.rules.scalars f.parameters → Sound g 0 f.body → Sound g m (over_parameters f p n)
sound_over_parameters g f p n m l k h = sound_cond g m (list_any is_pattern f.parameters) _ f.body (sound_over_patterns g p n f.parameters f.body m l k h) (weaken g 0 m f.body (omega arith) h)

pub names_length : (bs : List Binder) → length (names_of bs) ≡ length bs
names_length bs = length-map bs whole_name

-- whether in a loop or not, in a scope of n names
pub body_makes : (k : Rules) (f : Written) (p : Place) (t : Tops) (sig : Signature) (s : Gathered) (looping : Bool)
    → HavePlaces k.scalars f.parameters → Sound (record { rules = k; base = length t.scope }) 0 f.body → AreSigned k (length t.scope) 0 (t.functions ++ sig ∷ [])
    → IfDone (body_of looping f p (function_env sig t) s) (λ body s2. Grew k s s2 (Well k (length t.scope + length (names_of f.parameters)) None body))
body_makes k f p t sig s looping places h a = by looping where
  g : Ground
  g = record { rules = k; base = length t.scope }

  within : Env
  within = record (function_env sig t) { scope = t.scope ++ names_of f.parameters }

  here : Stands g (length t.scope + length (names_of f.parameters)) within
  here = (omega (arith, length-append t.scope (names_of f.parameters)), omega (arith, length-append t.scope (names_of f.parameters)), a)

  moved : (o : WalkOutcome Kernel) → Makes g within s o → IfDone o (λ body s2. Grew k s s2 (Well k (length t.scope + length (names_of f.parameters)) None body))
  moved o m = subst (λ i. IfDone o (λ body s2. Grew k s s2 (Well k i None body))) (length-append t.scope (names_of f.parameters)) m

  by : (b : Bool) → IfDone (body_of b f p (function_env sig t) s) (λ body s2. Grew k s s2 (Well k (length t.scope + length (names_of f.parameters)) None body))
  by false = moved (straight None f p (function_env sig t) s)
      (sound_over_parameters g f p (length t.scope) (length t.scope + length (names_of f.parameters)) (omega (arith, names_length f.parameters)) places h within s here)
  by true = moved (looped f p (function_env sig t) s)
      (sound_loops g (length t.scope + length (names_of f.parameters)) (same_names (length t.scope) (names_of f.parameters)) (over_parameters f p (length t.scope + length f.parameters))
      (same_names_sound g (length t.scope) (names_of f.parameters) (length t.scope + length (names_of f.parameters)) (omega arith))
      (aimed g (length t.scope + length (names_of f.parameters) + length (same_names (length t.scope) (names_of f.parameters))) (length (same_names (length t.scope) (names_of f.parameters)))
      (over_parameters f p (length t.scope + length f.parameters))
      (sound_over_parameters g f p (length t.scope + length f.parameters) (length t.scope + length (names_of f.parameters) + length (same_names (length t.scope) (names_of f.parameters)))
      (omega (arith, names_length f.parameters, same_names_length (length t.scope) (names_of f.parameters))) places h)) within s here)

-- a settled body
pub record Settles (k : Rules) (f : Written) (t : Tops) (s : Gathered) (r : Settled) (s2 : Gathered) : Type 0 where
  pub below : Below (length t.scope) r.hidden
  pub same : length (uses (length t.scope) r.body r.hidden) ≡ length r.hidden
  pub grew : AreSigned k (length t.scope) 0 (t.functions ++ signature f r.hidden false ∷ [])
      → Grew k s s2 (Well k (length t.scope + length (names_of f.parameters)) None r.body)

pub settled_settles : (k : Rules) (f : Written) (p : Place) (t : Tops) (s : Gathered) (looping : Bool) → HavePlaces k.scalars f.parameters → Sound (record { rules = k; base = length t.scope }) 0 f.body
    → (n : ℕ) (hidden : List ℕ) → Below (length t.scope) hidden → IfDone (body_settled n looping hidden f p t s) (Settles k f t s)
settled_settles k f p t s looping places h zero hidden b = tt
settled_settles k f p t s looping places h (suc n) hidden b = by (body_of looping f p (function_env (signature f hidden false) t) s)
    (λ a. body_makes k f p t (signature f hidden false) s looping places h a) (λ body. settled_settles k f p t s looping places h n (uses (length t.scope) body hidden) (uses_below (length t.scope) body hidden b)) where
      by : (o : WalkOutcome Kernel)
          → (AreSigned k (length t.scope) 0 (t.functions ++ signature f hidden false ∷ []) → IfDone o (λ body s2. Grew k s s2 (Well k (length t.scope + length (names_of f.parameters)) None body)))
          → ((body : Kernel) → IfDone (body_settled n looping (uses (length t.scope) body hidden) f p t s) (Settles k f t s))
          → IfDone (after_walk o (λ body s2. cond (nat_lt 64 (length (uses (length t.scope) body hidden))) (refused TooMany p)
          (cond (nat_eq (length (uses (length t.scope) body hidden)) (length hidden)) (done (record { body = body; hidden = hidden }) s2)
          (body_settled n looping (uses (length t.scope) body hidden) f p t s)))) (Settles k f t s)
      by (refused e q) m rest = tt
      by (done body s2) m rest = if_cond (nat_lt 64 (length (uses (length t.scope) body hidden))) (refused TooMany p) _ (Settles k f t s) tt
          (same (nat_eq (length (uses (length t.scope) body hidden)) (length hidden)) (eqb-true (length (uses (length t.scope) body hidden)) (length hidden))) where
            same : (c : Bool) → (c ≡ true → length (uses (length t.scope) body hidden) ≡ length hidden)
                → IfDone (cond c (done (record { body = body; hidden = hidden }) s2) (body_settled n looping (uses (length t.scope) body hidden) f p t s)) (Settles k f t s)
            same true e = record { below = b; same = e refl; grew = m }
            same false e = rest body
