use Rattle.std.proofs.Common.{◌≡◌, ap, sym, ◌∙◌, false, ◌||◌, is_some, Option, ℕ}
use Rattle.std.specs.List.{list_any}
use Rattle.std.specs.Str.{bytes_eq}
use Rattle.ca_forms.specs.Names.{is_known}
use Rattle.ca_forms.proofs.ScopeLaws.{lookup_any}
use Rattle.ca_check.proofs.definitions.Definitions.is_taken.Goals as goal

pub returns-else-is_known : goal.returns-else-is_known
returns-else-is_known c =
    let e : c.is_some.result ≡ list_any (λ y. bytes_eq c.args.name.now y) c.args.self.now.walker.scope
    = c.is_some.ensures ∙ ap (λ (o : Option ℕ). is_some o) c.find.ensures ∙ lookup_any c.args.name.now c.args.self.now.walker.scope in
    let k : is_known c.args.name.now c.args.self.now.functions ≡ false = sym c.is_known.ensures ∙ c.if-is_known.false in
    e ∙ ap (λ b. b || list_any (λ y. bytes_eq c.args.name.now y) c.args.self.now.walker.scope) (sym k)
