-- A form with hidden names starts each of the tasks that use a port alone at most once.
use Rattle.std.proofs.Common.{◌≡◌, ℕ, ◌≤◌, List, refl, arith, Bool, true, false}
use Rattle.ca_value.specs.Tree.{Tree}
use Rattle.ca_term.specs.Kernel.{Kernel, Bindings, empty, binding}
use Rattle.ca_term.specs.View.{kernels_of}
use Rattle.ca_roles.specs.Once.{User, the_feed, the_collect, the_mult, Test, no_ports, known, stands_for_port, one_if, use_count, uses_all, uses_behind, UsesOnce, AllOnce, BindOnce}
use Rattle.ca_sealed.proofs.Tidy.{HasKeyword, bare, keyed, Secret, of_mult, of_place, of_pipeline}

pub one_at_most : (b : Bool) → one_if b ≤ 1
one_at_most true = omega arith
one_at_most false = omega arith

-- further operands of a job
pub keyword_uses : {k : Tree} {ks : List Kernel} → HasKeyword k ks → (u : User) (N : Test) → uses_all u no_ports (kernels_of ks) N ≡ 0
keyword_uses bare u N = refl
keyword_uses keyed u N = refl

pub keyword_once : {k : Tree} {ks : List Kernel} → HasKeyword k ks → AllOnce (kernels_of ks)
keyword_once bare = tt
keyword_once keyed = (tt, tt)

-- the body of such a form
pub secret_uses : {m : ℕ} {rest : Bindings} {body : Kernel} → Secret m rest body → (u : User) (N : Test) → use_count u no_ports body N ≤ 1
secret_uses (of_mult l ea eo) the_feed N = omega arith
secret_uses (of_mult l ea eo) the_collect N = omega arith
secret_uses (of_mult {a = a} l ea eo) the_mult N = omega (arith, one_at_most (N a))
secret_uses (of_place l k ea eo ew) the_feed N = omega arith
secret_uses (of_place l k ea eo ew) the_collect N = omega arith
secret_uses (of_place {a = a} l k ea eo ew) the_mult N = omega (arith, one_at_most (N a))
secret_uses (of_pipeline {q = q} {i = i} x ks k ln lt lf lz ej eq er ei) the_feed N = omega (arith, one_at_most (N q), keyword_uses k the_feed (known N i false))
secret_uses (of_pipeline {q = q} {i = i} x ks k ln lt lf lz ej eq er ei) the_collect N = omega (arith, one_at_most (N q), keyword_uses k the_collect (known N i false))
secret_uses (of_pipeline {i = i} x ks k ln lt lf lz ej eq er ei) the_mult N = omega (arith, keyword_uses k the_mult (known N i false))

-- the terms behind its operands start none
abbrev pub NoneUsed : User → Bindings → Type 0
NoneUsed u empty = Unit {0}
NoneUsed u (binding n t bs) = ((N : Test) → use_count u no_ports t N ≡ 0) × NoneUsed u bs

pub secret_unused : {m : ℕ} {rest : Bindings} {body : Kernel} → Secret m rest body → (u : User) → NoneUsed u rest
secret_unused (of_mult l ea eo) the_feed = ((λ N. refl), ((λ N. refl), tt))
secret_unused (of_mult l ea eo) the_collect = ((λ N. refl), ((λ N. refl), tt))
secret_unused (of_mult l ea eo) the_mult = ((λ N. refl), ((λ N. refl), tt))
secret_unused (of_place l k ea eo ew) the_feed = ((λ N. refl), ((λ N. refl), ((λ N. refl), ((λ N. refl), tt))))
secret_unused (of_place l k ea eo ew) the_collect = ((λ N. refl), ((λ N. refl), ((λ N. refl), ((λ N. refl), tt))))
secret_unused (of_place l k ea eo ew) the_mult = ((λ N. refl), ((λ N. refl), ((λ N. refl), ((λ N. refl), tt))))
secret_unused (of_pipeline x ks k ln lt lf lz ej eq er ei) the_feed = ((λ N. refl), ((λ N. refl), ((λ N. refl), tt)))
secret_unused (of_pipeline x ks k ln lt lf lz ej eq er ei) the_collect = ((λ N. refl), ((λ N. refl), ((λ N. refl), tt)))
secret_unused (of_pipeline x ks k ln lt lf lz ej eq er ei) the_mult = ((λ N. refl), ((λ N. refl), ((λ N. refl), tt)))

pub behind_once : (u : User) (bs : Bindings) (K : Test → ℕ) → NoneUsed u bs → ((M : Test) → K M ≤ 1) → (N : Test) → uses_behind u no_ports bs N K ≤ 1
behind_once u empty K h f N = f N
behind_once u (binding n t bs) K h f N = omega (arith, h.0 N, behind_once u bs K h.1 f (known N n (stands_for_port no_ports N t)))

abbrev pub TermsOnce : Bindings → Type 0
TermsOnce empty = Unit {0}
TermsOnce (binding n t bs) = UsesOnce t × TermsOnce bs

pub all_once : (bs : Bindings) (body : Kernel) → TermsOnce bs → ((u : User) → NoneUsed u bs) → ((u : User) (N : Test) → use_count u no_ports body N ≤ 1) → BindOnce bs body
all_once empty body t h f = tt
all_once (binding n s bs) body t h f = (λ u. behind_once u bs (use_count u no_ports body) (h u).1 (f u) _, t.0, all_once bs body t.1 (λ u. (h u).1) f)

pub secret_terms : {m : ℕ} {rest : Bindings} {body : Kernel} → Secret m rest body → TermsOnce rest
secret_terms (of_mult l ea eo) = (tt, ((tt, tt), tt))
secret_terms (of_place l k ea eo ew) = (tt, (tt, ((tt, tt), ((tt, (tt, (tt, (tt, tt)))), tt))))
secret_terms (of_pipeline x ks k ln lt lf lz ej eq er ei) = ((tt, tt), ((tt, tt), ((tt, tt), tt)))

-- no other name in it is bound by a `let`
pub secret_body : {m : ℕ} {rest : Bindings} {body : Kernel} → Secret m rest body → UsesOnce body
secret_body (of_mult l ea eo) = ((tt, (tt, (tt, tt))), (tt, tt))
secret_body (of_place l k ea eo ew) = ((((tt, (tt, tt)), (tt, tt)), (tt, (tt, (tt, tt))), tt), (tt, tt))
secret_body (of_pipeline x ks k ln lt lf lz ej eq er ei) = (
  ((tt, tt), ((((tt, (tt, tt)), ((tt, keyword_once k), (((tt, tt), tt), tt)), tt), tt))),
  ((tt, (tt, (tt, tt))), ((tt, (tt, (tt, (tt, tt)))), (tt, tt))),
)

pub secret_once : {m : ℕ} {rest : Bindings} {body : Kernel} → Secret m rest body → BindOnce rest body
secret_once {rest = rest} {body = body} x = all_once rest body (secret_terms x) (secret_unused x) (secret_uses x)
