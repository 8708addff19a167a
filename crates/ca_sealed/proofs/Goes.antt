-- A go block makes a tidy term, and a tidy go body.
use Rattle.std.proofs.Common.{inl, ⊎_elim, ℕ, zero, suc, ◌+◌, List, [], ◌∷◌, ◌++◌, length, map, refl, subst, arith, slice_set}
use Rattle.std.proofs.lemmas.Bool.{cases_lt}
use Rattle.ca_value.specs.declared.builtin.Builtin.TheVariants.{IsNil}
use Rattle.ca_term.specs.declared.place.Place.{Place}
use Rattle.ca_term.specs.declared.head.Head.TheVariants.{Builtin, Close, Post}
use Rattle.ca_term.specs.Kernel.{Kernel, var}
use Rattle.ca_term.specs.Program.{ProcedureView}
use Rattle.ca_term.specs.View.{kernels_of}
use Rattle.ca_forms.specs.Uses.{uses}
use Rattle.ca_forms.specs.Meaning.{Meaning, size, nothing, local_name, iff, operation, block}
use Rattle.ca_forms.specs.Go.{task, in_task, unmade, go_meaning}
use Rattle.ca_meaning.specs.Sound.{Each}
use Rattle.ca_sealed.proofs.Used.{Below, below_more, below_append, uses_only, uses_below, in_left, in_right}
use Rattle.ca_sealed.proofs.Outcomes.{if_after, size_named}
use Rattle.ca_sealed.proofs.Tidy.{Tidy, TidyTerms}
use Rattle.ca_sealed.proofs.Words.{IsTidyText, Keeps, weaken, at_size, tidy_nothing, tidy_local, tidy_iff, tidy_operation, tidy_block, tidy_name_as, holds_named}
use Rattle.ca_meaning.proofs.Waits.{each-append}

pub each_set : {A : Type 0} (P : A → Type 0) (xs : List A) (n : ℕ) (v : A) → Each P xs → P v → Each P (slice_set xs n v)
each_set P [] n v e p = tt
each_set P (x ∷ xs) zero v e p = (p, e.1)
each_set P (x ∷ xs) (suc n) v e p = (e.0, each_set P xs n v e.1 p)

pub vars_tidy : (n : ℕ) (ms : List ℕ) → Below n ms → TidyTerms n (kernels_of (map var ms))
vars_tidy n [] b = tt
vars_tidy n (m ∷ ms) b = (b.0, vars_tidy n ms b.1)

-- the body behind its result port, which has the number r
abbrev pub sent_on : ℕ → Place → List Meaning
sent_on r p = iff (operation (Builtin IsNil) (local_name (suc r) ∷ []) p) nothing (operation Post (local_name r ∷ local_name (suc r) ∷ []) p) ∷ operation Close (local_name r ∷ []) p ∷ []

pub tidy_task : (g r : ℕ) (body : Meaning) (p : Place) → Keeps g (suc r) body → Keeps g (suc r) (task body r p)
tidy_task g r body p f = tidy_name_as g (suc r) [] body (block (sent_on r p)) f (tidy_block g (suc (suc r)) (sent_on r p) (
  tidy_iff g (suc (suc r)) (operation (Builtin IsNil) (local_name (suc r) ∷ []) p) nothing (operation Post (local_name r ∷ local_name (suc r) ∷ []) p)
      (tidy_operation g (suc (suc r)) (Builtin IsNil) (local_name (suc r) ∷ []) p (result, tt) (λ ts. refl))
      (tidy_nothing g (suc (suc r)))
      (tidy_operation g (suc (suc r)) Post (local_name r ∷ local_name (suc r) ∷ []) p (port, (result, tt)) (λ ts. refl)),
  (tidy_operation g (suc (suc r)) Close (local_name r ∷ []) p (port, tt) (λ ts. refl), tt),
)) where
  port : Keeps g (suc (suc r)) (local_name r)
  port = tidy_local g (suc (suc r)) r (omega arith)

  result : Keeps g (suc (suc r)) (local_name (suc r))
  result = tidy_local g (suc (suc r)) (suc r) (omega arith)

-- the body of a go block, in a scope of n names outside
pub tidy_made : (n : ℕ) (t : Kernel) → Tidy (suc n) t → IsTidyText (record { parameters = uses n t [] ++ n ∷ []; body = t })
tidy_made n t w = record {
  base = n;
  used = uses n t [];
  size = suc n;
  tidy = w;
  only = uses_only n t [];
  bound = λ k l u. ⊎_elim (λ b. in_left k (uses n t []) (n ∷ []) (u b)) (λ b. in_right k (uses n t []) (n ∷ []) (inl (omega (arith, l, b)))) (cases_lt k n);
  below = below_append (suc n) (uses n t []) (n ∷ []) (below_more n (suc n) (uses n t []) (omega arith) (uses_below n t [] tt)) (omega arith, tt);
}

pub tidy_unmade : IsTidyText unmade
tidy_unmade = record { base = 0; used = []; size = 0; tidy = tt; only = tt; bound = λ k l u. absurd (omega (arith, l)); below = tt }

pub tidy_go : (g n : ℕ) (body : Meaning) (p : Place) → Keeps g n body → Keeps g n (go_meaning body p)
tidy_go g n body p f = at_size g n (go_meaning body p) (λ env s l st.
    if_after (task body (size env) p (in_task env) (record s { bodies = s.bodies ++ unmade ∷ [] })) _ _ _
    (tidy_task g (size env) body p (weaken g n (suc (size env)) body (omega (arith, l)) f) (in_task env) (record s { bodies = s.bodies ++ unmade ∷ [] })
    (holds_named g (size env) [] env st))
    (λ t s2 x.
    let made : ProcedureView = record { parameters = uses (size env) t [] ++ size env ∷ []; body = t } in (
      inl (
        (refl, (refl, (tt, tt)), tt),
        (
          (
            refl,
            vars_tidy (size env + 1) (uses (size env) t [] ++ size env ∷ [])
                (below_append (size env + 1) (uses (size env) t []) (size env ∷ []) (below_more (size env) (size env + 1) (uses (size env) t []) (omega arith) (uses_below (size env) t [] tt)) (omega arith, tt)),
          ),
          (omega arith, tt),
        ),
      ),
      λ m. each_set IsTidyText s2.bodies (length s.bodies) made (x.1 (each-append IsTidyText s.bodies (unmade ∷ []) m (tidy_unmade, tt)))
          (tidy_made (size env) t (subst (λ k. Tidy k t) (size_named [] env) x.0)),
    )))
