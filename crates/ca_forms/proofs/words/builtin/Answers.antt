use Rattle.std.proofs.Common.{◌≡◌, false, subst, IfSome}
use Rattle.ca_value.specs.Names.{name_of, is_hidden}
use Rattle.ca_forms.proofs.WordsLaws.{builtin_is}
use Rattle.ca_forms.proofs.words.builtin.Goals as goal

pub returns : goal.returns
returns c = builtin_is c.args.name.now c.named.result (λ b e. subst (λ r. IfSome r (λ b. (name_of b ≡ c.args.name.now) × (is_hidden b ≡ false))) e c.named.ensures.found) c.named.ensures.missing
