-- Code that hasn't a go body of as many values hasn't the seed's task.
use Rattle.std.proofs.Common.{◌≡◌, ℕ, suc, ◌+◌, length, Bool, true, false, sym, ap, ◌∙◌, subst, arith}
use Rattle.std.proofs.lemmas.List.{length-map}
use Rattle.std.specs.Prelude.{IsTrue}
use Rattle.ca_value.specs.Seq.{list}
use Rattle.ca_value.specs.View.{trees, view, views}
use Rattle.ca_term.specs.declared.operation.GoSeed.{GoSeed}
use Rattle.ca_term.specs.Operands.{values_in}
use Rattle.ca_states.specs.declared.runner.Start.TheVariants.{Go}
use Rattle.ca_states.specs.Code.{CodeView}
use Rattle.ca_states.specs.Standing.{is_start}
use Rattle.ca_agent.specs.Seeds.{HasSeed}
use Rattle.ca_machine.specs.Seeds.{go_seed}
use Rattle.ca_machine.proofs.Tasks.{counted}

pub lacks : (C : CodeView) (s : GoSeed) (n : ℕ) → n ≡ length (list s.values) + 1 → is_start C (Go s.body) n ≡ false → HasSeed C (go_seed s) → ⊥
lacks C s n e none_there has =
    let many : length (values_in (trees (list s.values))) ≡ length (list s.values) = counted (views (list s.values)) ∙ length-map (list s.values) view in
    let same : suc (length (values_in (trees (list s.values)))) ≡ n = omega (arith, many, e) in
    let yes : is_start C (Go s.body) n ≡ true = subst (λ m. IsTrue (is_start C (Go s.body) m)) same has in
    let f : false ≡ true = sym none_there ∙ yes in cc
