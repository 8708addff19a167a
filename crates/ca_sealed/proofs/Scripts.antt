-- Each accepted script gives a tidy program.
use Rattle.std.proofs.Common.{◌≡◌, inl, ℕ, suc, ◌+◌, List, [], ◌∷◌, ◌++◌, length, refl, ◌∙◌, subst, arith, ◌||◌, nat_lt, Result, Ok, Err}
use Rattle.std.proofs.lemmas.List.{length-append}
use Rattle.ca_value.specs.Tree.{nil}
use Rattle.ca_term.specs.declared.place.Place.{Place}
use Rattle.ca_term.specs.Kernel.{Kernel, const, bind}
use Rattle.ca_term.specs.Program.{ProgramView}
use Rattle.ca_reader.specs.Form.{FormTrees, none, item, form_place}
use Rattle.ca_forms.specs.declared.error.CheckErrorKind.{CheckErrorKind}
use Rattle.ca_forms.specs.declared.error.CheckErrorKind.TheVariants.{Redefined, TooMany}
use Rattle.ca_forms.specs.Depth.{kernel_depth}
use Rattle.ca_forms.specs.Uses.{uses, aims_out}
use Rattle.ca_forms.specs.Outcome.{Gathered, WalkOutcome, done, refused, after_walk}
use Rattle.ca_forms.specs.Meaning.{Meaning}
use Rattle.ca_forms.specs.Tops.{Tops, Written, Top, definition, function, expression, wrong, top, is_taken, main_env, names_of, judged_body, straight, signature, function_env, with_function, Settled, body_settled, add_function, shallow, Ended, bound_before, bound_top, one_top, is_past, list_parts}
use Rattle.ca_check.specs.Expansion.{tops, is_namespace, script_tops, program_of, expansion_of}
use Rattle.ca_meaning.specs.Sound.{Each}
use Rattle.ca_sealed.proofs.Used.{uses_only, uses_below}
use Rattle.ca_sealed.proofs.Outcomes.{IfDone, if_after, if_cond, any_done, start, untouched}
use Rattle.ca_sealed.proofs.Tidy.{Tidy, TidyBindings}
use Rattle.ca_sealed.proofs.Words.{IsTidyText, Made, AreBelow, Keeps}
use Rattle.ca_sealed.proofs.TopForms.{TopKeeps, tidy_top, are_below_more, are_below_behind, function_tidy, Settles, settled_settles}
use Rattle.ca_meaning.proofs.Waits.{each-append}

-- the functions so far are tidy, and use names of the main text alone
abbrev pub Fine : Tops → Type 0
Fine t = AreBelow (length t.scope) t.functions × Each IsTidyText t.procedures

-- what the rest of a script gives
abbrev pub Ran : Tops → Ended → Gathered → Type 0
Ran t r s = Each IsTidyText r.tops.procedures × Made s × TidyBindings (length t.scope) r.bindings

abbrev pub Runs : (Tops → Gathered → WalkOutcome Ended) → Type 0
Runs rest = (t : Tops) (s : Gathered) → Fine t → Made s → IfDone (rest t s) (Ran t)

-- a value of the main text, then the rest
pub bound_ran : (x : List ℕ) (m : Meaning) (d : ℕ) (p : Place) (rest : Tops → Gathered → WalkOutcome Ended) (t : Tops) (s : Gathered)
    → Keeps (length t.scope) 0 m → Runs rest → Fine t → Made s → IfDone (bound_top x m d p rest t s) (Ran t)
bound_ran x m d p rest t s h f fine made =
    if_after (m (main_env t) s) _ _ _ (h (main_env t) s (omega arith, omega arith, fine.0)) (λ u s1 y.
    if_cond (s1.deep || nat_lt 399 (kernel_depth u)) (refused TooMany p) (bound_before (length t.scope) u (rest behind s1)) (Ran t) tt
    (if_after (rest behind s1) _ (Ran behind) (Ran t) (f behind s1 (are_below_more (length t.scope) (length (t.scope ++ x ∷ [])) t.functions (omega (arith, longer)) fine.0, fine.1) (y.1 made))
    (λ r s2 z. (z.0, z.1, (refl, y.0, subst (λ n. TidyBindings n r.bindings) longer z.2))))) where
      behind : Tops
      behind = record t { scope = t.scope ++ x ∷ []; defined = t.defined + d }

      longer : length (t.scope ++ x ∷ []) ≡ suc (length t.scope)
      longer = length-append t.scope (x ∷ []) ∙ omega arith

-- a function, then the rest
abbrev pub Added : Tops → Tops → Gathered → Type 0
Added t t2 s = Fine t2 × (t2.scope ≡ t.scope) × Made s

pub with_function_added : (w : Written) (t : Tops) (s : Gathered) (r : Settled) (s1 : Gathered) → Fine t → Made s → Settles w t s r s1 → Added t (with_function w r.hidden r.body t) s1
with_function_added w t s r s1 fine made x = (
  (
    are_below_behind (length t.scope) t.functions _ fine.0 x.below,
    each-append IsTidyText t.procedures _ fine.1 (function_tidy (length t.scope) r.hidden (names_of w.parameters) r.body x.below x.same x.grew.0, tt),
  ),
  refl,
  x.grew.1 made,
)

pub function_added : (w : Written) (p : Place) (t : Tops) (s : Gathered) → Keeps (length t.scope) 0 w.body → Fine t → Made s → IfDone (add_function w p t s) (Added t)
function_added w p t s h fine made =
    if_after (judged_body w (straight _ w p) (function_env (signature w [] _) t) s) _ (λ first s1. Unit {0}) (Added t) (any_done _) (λ first s1 x.
    if_cond s1.deep (refused TooMany p) _ (Added t) tt
    (if_after (body_settled 66 (aims_out first) (uses (length t.scope) first []) w p t s) _ (Settles w t s) (Added t)
    (settled_settles w p t s (aims_out first) h fine.0 66 (uses (length t.scope) first []) (uses_below (length t.scope) first [] tt)) (λ r s2 y.
    if_cond (nat_lt 60 (kernel_depth r.body)) (refused TooMany p) (done (with_function w r.hidden r.body t) s2) (Added t) tt (with_function_added w t s r s2 fine made y))))

pub add_ran : (w : Written) (p : Place) (rest : Tops → Gathered → WalkOutcome Ended) (t : Tops) (s : Gathered)
    → Keeps (length t.scope) 0 w.body → Runs rest → Fine t → Made s → IfDone (after_walk (add_function w p t s) (λ t2 s2. after_walk (shallow p t2 s2) rest)) (Ran t)
add_ran w p rest t s h f fine made =
    if_after (add_function w p t s) _ (Added t) (Ran t) (function_added w p t s h fine made) (λ t2 s2 x.
    if_after (shallow p t2 s2) rest (Added t) (Ran t) (if_cond s2.deep (refused TooMany p) (done t2 s2) (Added t) tt x) (λ t3 s3 y.
    subst (λ sc. IfDone (rest t3 s3) (λ r s4. Each IsTidyText r.tops.procedures × Made s4 × TidyBindings (length sc) r.bindings)) y.1 (f t3 s3 y.0 y.2)))

pub one_ran : (x : Top) (p : Place) (rest : Tops → Gathered → WalkOutcome Ended) (t : Tops) (s : Gathered) → TopKeeps (length t.scope) x → Runs rest → Fine t → Made s
    → IfDone (one_top x p rest t s) (Ran t)
one_ran wrong p rest t s h f fine made = tt
one_ran (definition x m) p rest t s h f fine made = if_cond (is_taken x t) (refused Redefined p) (bound_top x m 1 p rest t s) (Ran t) tt (bound_ran x m 1 p rest t s h f fine made)
one_ran (expression m) p rest t s h f fine made = bound_ran [] m 0 p rest t s h f fine made
one_ran (function w) p rest t s h f fine made = if_cond (is_taken w.name t) (refused Redefined p) _ (Ran t) tt
    (if_cond (nat_lt 16 (length w.parameters)) (refused TooMany p) _ (Ran t) tt (add_ran w p rest t s h f fine made))

pub tops_ran : (fs : FormTrees) (i : ℕ) → Runs (tops i fs)
tops_ran none i t s fine made = (fine.1, made, tt)
tops_ran (item f fs) i t s fine made = if_cond (is_past i f t) (refused TooMany (form_place f)) _ (Ran t) tt
    (one_ran (top f) (form_place f) (λ t s. tops (suc i) fs t s) t s (tidy_top (length t.scope) f) (λ t s. tops_ran fs (suc i) t s) fine made)

pub script_ran : (fs : FormTrees) → Runs (script_tops fs)
script_ran none t s fine made = tops_ran none 0 t s fine made
script_ran (item f fs) t s fine made = if_cond (is_namespace f) _ (tops 0 (item f fs) t s) (Ran t)
    (if_cond (nat_lt 4096 (length (list_parts f))) (refused TooMany (form_place f)) (tops 1 fs t s) (Ran t) tt (tops_ran fs 1 t s fine made)) (tops_ran (item f fs) 0 t s fine made)

-- a program of tidy texts
pub record IsTidyProgram (p : ProgramView) : Type 0 where
  pub functions : Each IsTidyText p.functions
  pub bodies : Each IsTidyText p.bodies
  pub main : IsTidyText (record { parameters = []; body = p.main })

pub main_tidy : (t : Kernel) → Tidy 0 t → IsTidyText (record { parameters = []; body = t })
main_tidy t w = record { base = 0; used = uses 0 t []; size = 0; tidy = w; only = uses_only 0 t []; bound = λ k l u. absurd (omega (arith, l)); below = tt }

pub accepted_tidy : (fs : FormTrees) (p : ProgramView) → expansion_of fs ≡ Ok p → IsTidyProgram p
accepted_tidy fs p e = by (script_tops fs start untouched) (script_ran fs start untouched (tt, tt) tt) e where
  IfTidy : Result ProgramView (CheckErrorKind × Place) → Type 0
  IfTidy (Ok p) = IsTidyProgram p
  IfTidy (Err e) = Unit {0}

  by : (o : WalkOutcome Ended) → IfDone o (Ran start) → program_of o ≡ Ok p → IsTidyProgram p
  by (refused k q) f e = cc
  by (done r s) f e = subst (λ o. IfTidy o) e (record { functions = f.0; bodies = f.1; main = main_tidy (bind r.bindings (const nil)) (inl (f.2, tt)) })
