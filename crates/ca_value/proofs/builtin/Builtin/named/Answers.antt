use Rattle.std.proofs.Common.{ap, ◌∙◌}
use Rattle.std.proofs.lemmas.Option.{IfSome_then}
use Rattle.ca_value.specs.Names.{name_of}
use Rattle.ca_value.proofs.NameLaws.{visible_in, placed}
use Rattle.ca_value.proofs.builtin.Builtin.named.Goals as goal

pub returns-clause-found : goal.returns-clause-found
returns-clause-found c = IfSome_then c.find_named.result c.find_named.ensures.found (λ b p. (p.0, visible_in b p.1))

pub returns-clause-missing : goal.returns-clause-missing
returns-clause-missing c =
    λ none b shown same. let at = placed b shown in c.find_named.ensures.missing none at.0 b at.1 (ap name_of at.2 ∙ same)
