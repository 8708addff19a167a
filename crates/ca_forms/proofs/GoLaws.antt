-- A go block's text, once its body was walked.
use Rattle.std.proofs.Common.{◌≡◌, ℕ, suc, ◌≤◌, List, [], ◌∷◌, ◌++◌, map, refl, sym, ap, ap₂, ◌∙◌, subst, arith, length, length-append, slice_set}
use Rattle.ca_term.specs.declared.place.Place.{Place}
use Rattle.ca_term.specs.declared.term.Term.{Term}
use Rattle.ca_term.specs.Kernel.{Kernel, var, bind, empty, binding}
use Rattle.ca_term.specs.View.{kernel, kernels, kernels_of}
use Rattle.ca_forms.specs.declared.error.CheckError.{CheckError}
use Rattle.ca_forms.specs.Depth.{kernels_depth}
use Rattle.ca_forms.specs.Go.{task, in_task, go_meaning, go_spawned}
use Rattle.ca_forms.specs.GoView.{ending, go_body_held, go_finished}
use Rattle.ca_forms.specs.Meaning.{Meaning, Env, size, inner}
use Rattle.ca_forms.specs.Outcome.{Gathered, WalkOutcome, done, after_walk, limited}
use Rattle.ca_forms.specs.Uses.{uses}
use Rattle.ca_forms.specs.WalkView.{Fails, terms_of}
use Rattle.ca_forms.proofs.PartLaws.{after_fails}

pub task_is : (m : Meaning) (r : ℕ) (p : Place) (env : Env) (s s2 : Gathered) (t : Kernel) → size env ≡ suc r → m (inner env) s ≡ done t s2
    → task m r p env s ≡ limited (bind (binding (suc r) t empty) (ending r p)) s2
task_is m r p env s s2 t e h = rw (h, e) refl

pub task_fails : (x : CheckError) (m : Meaning) (r : ℕ) (p : Place) (env : Env) (s : Gathered) → Fails x (m (inner env) s) → Fails x (task m r p env s)
task_fails x m r p env s h = after_fails x _ _ (after_fails x _ _ h)

-- a go block whose body was walked
pub go_walked : (m : Meaning) (p : Place) (e : Env) (s s2 : Gathered) (t : Kernel) → m (in_task e) (go_body_held s) ≡ done t s2 → go_meaning m p e s ≡ go_finished t (length s.bodies) (size e) p s2
go_walked m p e s s2 t h = ap (λ (o : WalkOutcome Kernel). after_walk o (λ t s2.
    done (go_spawned (length s.bodies) (size e) (uses (size e) t []) p)
    (record s2 { bodies = slice_set s2.bodies (length s.bodies) (record { parameters = uses (size e) t [] ++ size e ∷ []; body = t }) })))
    (task_is m (size e) p (in_task e) (go_body_held s) s2 t more h) where
      more : length (e.scope ++ [] ∷ []) ≡ suc (length e.scope)
      more = length-append e.scope ([] ∷ []) ∙ omega arith

pub go_fails : (x : CheckError) (m : Meaning) (p : Place) (e : Env) (s : Gathered) → Fails x (m (in_task e) (go_body_held s)) → Fails x (go_meaning m p e s)
go_fails x m p e s h = after_fails x _ _ (task_fails x m (size e) p (in_task e) (go_body_held s) h)

pub vars_more : (ns : List ℕ) (r : ℕ) → map var (ns ++ r ∷ []) ≡ map var ns ++ var r ∷ []
vars_more [] r = refl
vars_more (n ∷ ns) r = ap (λ ts. var n ∷ ts) (vars_more ns r)

pub vars_last : (ns : List ℕ) (r : ℕ) → kernels_depth (kernels_of (map var ns ++ var r ∷ [])) ≤ 1
vars_last [] r = omega arith
vars_last (n ∷ ns) r = omega (arith, vars_last ns r)

pub terms_last : (ts : List Term) (t : Term) → terms_of (ts ++ t ∷ []) ≡ terms_of ts ++ kernel t ∷ []
terms_last [] t = refl
terms_last (u ∷ ts) t = ap (λ ks. kernel u ∷ ks) (terms_last ts t)

pub spawn_small : (us ts : List Term) (t : Term) (ns : List ℕ) (r : ℕ) → us ≡ ts ++ t ∷ [] → terms_of ts ≡ map var ns → kernel t ≡ var r → kernels_depth (kernels us) ≤ 1
spawn_small us ts t ns r a b d = subst (λ (ks : List Kernel). kernels_depth (kernels_of ks) ≤ 1) (sym same) (vars_last ns r) where
  same : terms_of us ≡ map var ns ++ var r ∷ []
  same = ap terms_of a ∙ terms_last ts t ∙ ap₂ (λ xs x. xs ++ x ∷ []) b d
