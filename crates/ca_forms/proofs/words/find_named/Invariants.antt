use Rattle.std.proofs.Common.{◌≡◌, drop}
use Rattle.std.specs.List.{find}
use Rattle.std.specs.Str.{bytes_eq}
use Rattle.ca_forms.specs.Words.{form_name}
use Rattle.ca_forms.proofs.words.find_named.Given as goal

abbrev pub invariant-loop-special : goal.invariant-loop-special
invariant-loop-special l = find (λ k. bytes_eq l.name (form_name k)) (drop l.special-index l.among) ≡ find (λ k. bytes_eq l.name (form_name k)) l.among
