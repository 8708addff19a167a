use Rattle.std.proofs.Common.{◌≡◌, ◌≢◌, ℤ, ◌-ℤ◌, List, [], ◌∷◌, length, Ok, Err, refl, sym, ◌∙◌, ap, arith, rules}
use Rattle.std.proofs.lemmas.Int.{to_z-of_z}
use Rattle.std.proofs.lemmas.Grind.{common_steps}
use Rattle.std.proofs.lemmas.Bool.Decides.{nat_tests}
use Rattle.std.specs.Prelude.{FitsSigned}
use Rattle.std.specs.Int.{w64}
use Rattle.ca_value.specs.Tree.{Tree}
use Rattle.ca_value.specs.View.{view, views}
use Rattle.ca_value.specs.Outcome.{Answer, ◌>>=◌}
use Rattle.ca_value.specs.Kinds.{integer_of, integers_of, with_integers}
use Rattle.ca_value.specs.Numbers.{difference_of, folded_in_range}
use Rattle.ca_value.proofs.builtin.numbers.difference.Goals as goal

-- with more than one integer the difference runs on from the first
joined : (a : ℤ) (z : Answer ℤ) (zs : Answer (List ℤ)) →
    (z >>= (λ b. zs >>= λ bs. Ok (b ∷ bs)) >>= folded_in_range ◌-ℤ◌ a) ≡
    ((z >>= (λ b. zs >>= λ bs. Ok (b ∷ bs)) >>= λ xs. Ok (a ∷ xs)) >>= difference_of)
joined a (Ok b) (Ok bs) = refl
joined a (Ok b) (Err f) = refl
joined a (Err f) zs = refl

goes_on : (t : Tree) (us : List Tree) (a : ℤ) → Ok a ≡ integer_of t → length us ≢ 0 →
    with_integers (folded_in_range ◌-ℤ◌ a) us ≡ with_integers difference_of (t ∷ us)
goes_on t [] a e h = absurd (h refl)
goes_on t (u ∷ us) a e h = rw (← e) (joined a (integer_of u) (integers_of us))

pub returns : goal.returns
returns c =
    let a = c.in_ok-first.first in
    let fits : FitsSigned w64 a = search rules in
    let split : views c.args.args.now ≡ view c.in-Some.first.now ∷ views c.in-Some.rest.now = search rules in
    let more : length (views c.in-Some.rest.now) ≢ 0 = grind (arith, common_steps, nat_tests) in
    let first : Ok a ≡ integer_of (view c.in-Some.first.now) = search rules in
    let e = goes_on (view c.in-Some.first.now) (views c.in-Some.rest.now) a first more in
    let ran : c.run.result ≡ with_integers (folded_in_range ◌-ℤ◌ a) (views c.in-Some.rest.now) = simp to_z-of_z at c.run.ensures in
    ran ∙ e ∙ ap (with_integers difference_of) (sym split)
