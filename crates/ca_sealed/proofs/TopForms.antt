-- What stands at top level, and functions.
use Rattle.std.proofs.Common.{◌≡◌, ℕ, zero, suc, ◌+◌, ◌≤◌, List, [], ◌∷◌, ◌++◌, length, refl, subst, arith, ⊎_elim, Option, Some, None, Bool, true, false, cond, nat_lt, nat_eq}
use Rattle.std.specs.List.{list_any}
use Rattle.std.proofs.lemmas.List.{length-append}
use Rattle.std.proofs.lemmas.Bool.{eqb-true, cases_lt}
use Rattle.ca_term.specs.declared.place.Place.{Place}
use Rattle.ca_term.specs.Kernel.{Kernel}
use Rattle.ca_reader.specs.declared.form.Bracket.TheVariants.{Round, Square, Curly}
use Rattle.ca_reader.specs.Form.{FormTree, form, atom, group}
use Rattle.ca_forms.specs.declared.special.Special.{Special}
use Rattle.ca_forms.specs.declared.error.CheckErrorKind.TheVariants.{TooMany}
use Rattle.ca_forms.specs.Uses.{uses}
use Rattle.ca_forms.specs.Outcome.{Gathered, WalkOutcome, done, refused, after_walk}
use Rattle.ca_forms.specs.Meaning.{Env, Signature, Meaning}
use Rattle.ca_forms.specs.Binders.{Part, Binder, is_pattern}
use Rattle.ca_forms.specs.Plain.{meanings}
use Rattle.ca_forms.specs.Walk.{walk}
use Rattle.ca_forms.specs.Tops.{Tops, Written, Top, definition, function, expression, wrong, top_name, definition_of, def_top, parameters_in, function_top, note_in, defn_behind, defn_top, word_at_head, behind_head, list_top, list_parts, top, numbers, same_names, names_of, over_parameters, straight, looped, body_of, signature, function_env, Settled, body_settled}
use Rattle.ca_sealed.proofs.Used.{Below, below_more, below_append, Only, uses_only, uses_below, uses_extends, extended_same, in_left, in_right}
use Rattle.ca_sealed.proofs.Outcomes.{IfDone, if_cond, numbers_below, in_numbers, same_names_length, names_length}
use Rattle.ca_sealed.proofs.Tidy.{Tidy}
use Rattle.ca_sealed.proofs.Words.{IsTidyText, Grew, AreBelow, Holds, Makes, Keeps, weaken, tidy_local, tidy_cond, NamedKeep, tidy_block, tidy_loops}
use Rattle.ca_sealed.proofs.Rows.{PartsKeep, means_keep, tidy_over_patterns}
use Rattle.ca_sealed.proofs.Walks.{tidy_walk, tidy_parts}

-- what stands at top level makes tidy terms
abbrev pub TopKeeps : ℕ → Top → Type 0
TopKeeps g (definition x m) = Keeps g 0 m
TopKeeps g (function f) = Keeps g 0 f.body
TopKeeps g (expression m) = Keeps g 0 m
TopKeeps g wrong = Unit {0}

pub tidy_definition_of : (g : ℕ) (o : Option (List ℕ)) (m : Meaning) → Keeps g 0 m → TopKeeps g (definition_of o m)
tidy_definition_of g None m f = tt
tidy_definition_of g (Some x) m f = f

pub tidy_def_top : (g : ℕ) (qs : List Part) → PartsKeep g qs → TopKeeps g (def_top qs)
tidy_def_top g [] f = tt
tidy_def_top g (x ∷ []) f = tt
tidy_def_top g (x ∷ e ∷ []) f = tidy_definition_of g (top_name x.form) e.means f.2.0
tidy_def_top g (x ∷ e ∷ y ∷ qs) f = tt

pub tidy_function_of : (g : ℕ) (x : Option (List ℕ)) (bs : Option (List Binder)) (n : Option (List ℕ × Place)) (qs : List Part) → PartsKeep g qs → TopKeeps g (function_top x bs n qs)
tidy_function_of g None bs n qs f = tt
tidy_function_of g (Some x) None n qs f = tt
tidy_function_of g (Some x) (Some bs) n qs f = tidy_block g 0 (meanings qs) (means_keep g qs f)

pub tidy_defn_behind : (g : ℕ) (x : Option (List ℕ)) (n : Option (List ℕ × Place)) (a : Part) (qs : List Part) → PartsKeep g qs → TopKeeps g (defn_behind x n a qs)
tidy_defn_behind g x None a qs f = tidy_function_of g x (parameters_in a.form) None qs f
tidy_defn_behind g x (Some n) a [] f = tt
tidy_defn_behind g x (Some n) a (b ∷ qs) f = tidy_function_of g x (parameters_in b.form) (Some n) qs f.2

pub tidy_defn_top : (g : ℕ) (qs : List Part) → PartsKeep g qs → TopKeeps g (defn_top qs)
tidy_defn_top g [] f = tt
tidy_defn_top g (x ∷ []) f = tt
tidy_defn_top g (x ∷ a ∷ qs) f = tidy_defn_behind g (top_name x.form) (note_in a.form) a qs f.2.2

pub behind_keep : (g : ℕ) (qs : List Part) → PartsKeep g qs → PartsKeep g (behind_head qs)
behind_keep g [] f = tt
behind_keep g (h ∷ qs) f = f.2

pub list_parts_keep : (g : ℕ) (f : FormTree) → PartsKeep g (list_parts f)
list_parts_keep g (form (group Round fs) p) = tidy_parts g fs
list_parts_keep g (form (group Square fs) p) = tt
list_parts_keep g (form (group Curly fs) p) = tt
list_parts_keep g (form (atom a) p) = tt

pub tidy_list_top : (g : ℕ) (k : Option Special) (qs : List Part) (m : Meaning) → PartsKeep g qs → Keeps g 0 m → TopKeeps g (list_top k qs m)
tidy_list_top g None qs m f h = h
tidy_list_top g (Some Special.Def) qs m f h = tidy_def_top g qs f
tidy_list_top g (Some Special.Defn) qs m f h = tidy_defn_top g qs f
tidy_list_top g (Some k) qs m f h = h

pub tidy_top : (g : ℕ) (f : FormTree) → TopKeeps g (top f)
tidy_top g f = tidy_list_top g (word_at_head (list_parts f)) (behind_head (list_parts f)) (walk f) (behind_keep g (list_parts f) (list_parts_keep g f)) (tidy_walk g f)

-- the names that the functions use, behind further names and further functions
pub are_below_more : (g h : ℕ) (fs : List Signature) → g ≤ h → AreBelow g fs → AreBelow h fs
are_below_more g h [] l a = tt
are_below_more g h (f ∷ fs) l a = (below_more g h f.hidden l a.0, are_below_more g h fs l a.1)

pub are_below_behind : (g : ℕ) (fs : List Signature) (f : Signature) → AreBelow g fs → Below g f.hidden → AreBelow g (fs ++ f ∷ [])
are_below_behind g [] f a b = (b, tt)
are_below_behind g (x ∷ fs) f a b = (a.0, are_below_behind g fs f a.1 b)

-- a function in a scope of n names of the main text, of which it uses some, and so many parameters
pub function_tidy : (n : ℕ) (hidden : List ℕ) (xs : List (List ℕ)) (t : Kernel) → Below n hidden → length (uses n t hidden) ≡ length hidden
    → Tidy (n + length xs) t → IsTidyText (record { parameters = numbers n xs ++ hidden; body = t })
function_tidy n hidden xs t b e w = record {
  base = n;
  used = hidden;
  size = n + length xs;
  tidy = w;
  only = subst (λ us. Only n us t) (extended_same hidden (uses n t hidden) (uses_extends n t hidden) e) (uses_only n t hidden);
  bound = λ k l u. ⊎_elim (λ c. in_right k (numbers n xs) hidden (u c)) (λ c. in_left k (numbers n xs) hidden (in_numbers n k xs c l)) (cases_lt k n);
  below = below_append (n + length xs) (numbers n xs) hidden (numbers_below n (n + length xs) xs (omega arith)) (below_more n (n + length xs) hidden (omega arith) b);
}

-- a function's body is tidy in the function's scope
pub same_names_keep : (g n : ℕ) (xs : List (List ℕ)) (m : ℕ) → n + length xs ≤ m → NamedKeep g m (same_names n xs)
same_names_keep g n [] m l = tt
same_names_keep g n (x ∷ xs) m l = (tidy_local g m n (omega (arith, l)), same_names_keep g (suc n) xs (suc m) (omega (arith, l)))

pub tidy_over_parameters : (g : ℕ) (f : Written) (p : Place) (n m : ℕ) → n + length f.parameters ≤ m → Keeps g 0 f.body → Keeps g m (over_parameters f p n)
tidy_over_parameters g f p n m l h = tidy_cond g m (list_any is_pattern f.parameters) _ f.body (tidy_over_patterns g p n f.parameters f.body m l h) (weaken g 0 m f.body (omega arith) h)

-- the scope of a function's body
abbrev pub function_size : Written → Tops → ℕ
function_size f t = length t.scope + length (names_of f.parameters)

-- whether in a loop or not
pub body_makes : (f : Written) (p : Place) (t : Tops) (sig : Signature) (s : Gathered) (looping : Bool)
    → Keeps (length t.scope) 0 f.body → AreBelow (length t.scope) (t.functions ++ sig ∷ [])
    → IfDone (body_of looping f p (function_env sig t) s) (λ body s2. Grew s s2 (Tidy (function_size f t) body))
body_makes f p t sig s looping h a = by looping where
  g : ℕ
  g = length t.scope

  within : Env
  within = record (function_env sig t) { scope = t.scope ++ names_of f.parameters }

  here : Holds g (function_size f t) within
  here = (omega (arith, length-append t.scope (names_of f.parameters)), omega (arith, length-append t.scope (names_of f.parameters)), a)

  moved : (o : WalkOutcome Kernel) → Makes within s o → IfDone o (λ body s2. Grew s s2 (Tidy (function_size f t) body))
  moved o m = subst (λ i. IfDone o (λ body s2. Grew s s2 (Tidy i body))) (length-append t.scope (names_of f.parameters)) m

  by : (b : Bool) → IfDone (body_of b f p (function_env sig t) s) (λ body s2. Grew s s2 (Tidy (function_size f t) body))
  by false = moved (straight None f p (function_env sig t) s)
      (tidy_over_parameters g f p (length t.scope) (function_size f t) (omega (arith, names_length f.parameters)) h within s here)
  by true = moved (looped f p (function_env sig t) s)
      (tidy_loops g (function_size f t) (same_names (length t.scope) (names_of f.parameters)) (over_parameters f p (length t.scope + length f.parameters))
      (same_names_keep g (length t.scope) (names_of f.parameters) (function_size f t) (omega arith))
      (tidy_over_parameters g f p (length t.scope + length f.parameters) (function_size f t + length (same_names (length t.scope) (names_of f.parameters)))
      (omega (arith, names_length f.parameters, same_names_length (length t.scope) (names_of f.parameters))) h) within s here)

-- a settled body
pub record Settles (f : Written) (t : Tops) (s : Gathered) (r : Settled) (s2 : Gathered) : Type 0 where
  pub below : Below (length t.scope) r.hidden
  pub same : length (uses (length t.scope) r.body r.hidden) ≡ length r.hidden
  pub grew : Grew s s2 (Tidy (function_size f t) r.body)

pub settled_settles : (f : Written) (p : Place) (t : Tops) (s : Gathered) (looping : Bool) → Keeps (length t.scope) 0 f.body → AreBelow (length t.scope) t.functions
    → (n : ℕ) (hidden : List ℕ) → Below (length t.scope) hidden → IfDone (body_settled n looping hidden f p t s) (Settles f t s)
settled_settles f p t s looping h a zero hidden b = tt
settled_settles f p t s looping h a (suc n) hidden b = by (body_of looping f p (function_env (signature f hidden false) t) s)
    (body_makes f p t (signature f hidden false) s looping h (are_below_behind (length t.scope) t.functions (signature f hidden false) a b))
    (λ body. settled_settles f p t s looping h a n (uses (length t.scope) body hidden) (uses_below (length t.scope) body hidden b)) where
      by : (o : WalkOutcome Kernel) → IfDone o (λ body s2. Grew s s2 (Tidy (function_size f t) body))
          → ((body : Kernel) → IfDone (body_settled n looping (uses (length t.scope) body hidden) f p t s) (Settles f t s))
          → IfDone (after_walk o (λ body s2. cond (nat_lt 64 (length (uses (length t.scope) body hidden))) (refused TooMany p)
          (cond (nat_eq (length (uses (length t.scope) body hidden)) (length hidden)) (done (record { body = body; hidden = hidden }) s2)
          (body_settled n looping (uses (length t.scope) body hidden) f p t s)))) (Settles f t s)
      by (refused e q) m rest = tt
      by (done body s2) m rest = if_cond (nat_lt 64 (length (uses (length t.scope) body hidden))) (refused TooMany p) _ (Settles f t s) tt
          (same (nat_eq (length (uses (length t.scope) body hidden)) (length hidden)) (eqb-true (length (uses (length t.scope) body hidden)) (length hidden))) where
            same : (c : Bool) → (c ≡ true → length (uses (length t.scope) body hidden) ≡ length hidden)
                → IfDone (cond c (done (record { body = body; hidden = hidden }) s2) (body_settled n looping (uses (length t.scope) body hidden) f p t s)) (Settles f t s)
            same true e = record { below = b; same = e refl; grew = m }
            same false e = rest body
