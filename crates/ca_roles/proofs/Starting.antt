-- A sealed text that starts with public values is a sealed term: a function's, a go block's, and a loop's.
use Rattle.std.proofs.Common.{◌≡◌, ℕ, zero, suc, ◌≤◌, List, [], ◌∷◌, length, refl, sym, ap, subst, arith, Some, None}
use Rattle.std.specs.Prelude.{All}
use Rattle.std.proofs.lemmas.Map.{update_here, update_apart}
use Rattle.ca_value.specs.Tree.{Tree, Trees, none as no_trees, item as tree}
use Rattle.ca_term.specs.Kernel.{Kernel, Founds, put, puts}
use Rattle.ca_term.specs.Program.{ProcedureView}
use Rattle.ca_meaning.specs.Operands.{values_in}
use Rattle.ca_meaning.specs.Started.{named, names_found, procedure_at, started}
use Rattle.ca_meaning.specs.Sound.{Each}
use Rattle.ca_roles.specs.Roles.{public, Roles, no_roles, known_as, Grows, IsPublic, ArePublic}
use Rattle.ca_roles.specs.Sealed.{all_public, Sealed, IsSealedProcedure}
use Rattle.ca_roles.proofs.Sealing.{sealed_more, Agree, put_sealed}

pub same_roles : (roles : Roles) → Grows roles roles
same_roles roles n r e = e

pub from_nobody : (roles : Roles) → Grows no_roles roles
from_nobody roles n r e = absurd (let k : None ≡ Some r = e in cc)

pub values_public : (roles : Roles) (vs : Trees) → ArePublic roles vs → Each (IsPublic roles) (values_in vs)
values_public roles no_trees h = tt
values_public roles (tree v vs) h = (h.0, values_public roles vs h.1)

-- the values that stand beside names are public
abbrev pub PublicFounds : Roles → Founds → Type 0
PublicFounds roles fs = Each (λ (f : ℕ × Tree). IsPublic roles f.1) fs

pub named_public : (roles : Roles) (ns : List ℕ) (vs : List Tree) → Each (IsPublic roles) vs → PublicFounds roles (named ns vs)
named_public roles [] vs h = tt
named_public roles (n ∷ ns) [] h = tt
named_public roles (n ∷ ns) (v ∷ vs) h = (h.0, named_public roles ns vs h.1)

names_named : (ns : List ℕ) (vs : List Tree) → length ns ≤ length vs → names_found (named ns vs) ≡ ns
names_named [] vs h = refl
names_named (n ∷ ns) [] h = absurd (omega arith)
names_named (n ∷ ns) (v ∷ vs) h = ap (λ k. n ∷ k) (names_named ns vs (omega (arith, h)))

-- a public value for each name
pub puts_sealed : (me : ℕ) (roles more : Roles) → Grows roles more → (fs : Founds) (t : Kernel) → PublicFounds more fs → Sealed me roles t (all_public (names_found fs)) → Sealed me more (puts fs t) no_roles
puts_sealed me roles more g [] t h s = sealed_more me roles more g t no_roles s
puts_sealed me roles more g (f ∷ fs) t h s =
    let scope = all_public (names_found fs) in
    let beside : Agree f.0 (known_as scope f.0 public) scope = λ m ne. sym (update_apart scope f.0 (Some public) m ne) in
    puts_sealed me more more (same_roles more) fs (put f.0 f.1 t) h.1 (put_sealed me roles more g f.0 f.1 public h.0 t (known_as scope f.0 public) scope (update_here scope f.0 (Some public)) beside s)

-- enough public values
pub text_sealed : (me : ℕ) (roles more : Roles) → Grows roles more → (ns : List ℕ) (vs : List Tree) (t : Kernel) → length ns ≤ length vs → Each (IsPublic more) vs → Sealed me roles t (all_public ns) → Sealed me more (puts (named ns vs) t) no_roles
text_sealed me roles more g ns vs t le h s = puts_sealed me roles more g (named ns vs) t (named_public more ns vs h) (subst (λ ms. Sealed me roles t (all_public ms)) (sym (names_named ns vs le)) s)

pub started_sealed : (me : ℕ) (roles : Roles) (t : ProcedureView) (vs : List Tree) → length t.parameters ≤ length vs → Each (IsPublic roles) vs → IsSealedProcedure t → Sealed me roles (started t vs) no_roles
started_sealed me roles t vs le h s = text_sealed me no_roles roles (from_nobody roles) t.parameters vs t.body le h (s me)

-- the procedure of a number, or the text nil
pub procedure_sealed : (ps : List ProcedureView) (n : ℕ) → All IsSealedProcedure ps → IsSealedProcedure (procedure_at ps n)
procedure_sealed [] n h = λ me. tt
procedure_sealed (p ∷ ps) zero h = h 0 p (omega arith)
procedure_sealed (p ∷ ps) (suc n) h = procedure_sealed ps n (λ k d lt. h (suc k) d (omega (arith, lt)))
