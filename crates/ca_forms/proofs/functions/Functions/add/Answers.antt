use Rattle.std.proofs.Common.{◌≡◌, ap, ◌∙◌, ◌++◌, ◌∷◌, [], List, ℕ, None, Vec, Global}
use Rattle.indexmap.proofs.CallerLemmas.{insert_entry-new}
use Rattle.ca_forms.specs.Meaning.{Signature}
use Rattle.ca_forms.specs.FunctionsView.{find}
use Rattle.ca_forms.specs.FunctionsView.{functions_of, named_function}
use Rattle.ca_forms.proofs.FunctionsLaws.{missed, functions_more}
use Rattle.ca_forms.proofs.functions.Functions.add.Goals as goal

pub returns-clause-ok : goal.returns-clause-ok
returns-clause-ok c =
    let key : Vec ℕ Global → List ℕ = λ v. v.items in
    let free : find c.in_ok-key.key.items (functions_of key c.self.inside.table.entries) ≡ None
    = rw (c.in_ok-key.ensures.items) (ap (find c.args.name.now) c.self.view_is ∙ c.requires) in
    let new : c.insert.new.self.entries ≡ c.self.inside.table.entries ++ (c.in_ok-key.key, c.args.function) ∷ []
    = c.in_ok-insert.ensures.entries ∙ insert_entry-new _ c.self.inside.table c.in_ok-key.key c.args.function (missed key c.in_ok-key.key.items c.self.inside.table.entries 0 free) in
    ap (functions_of key) new ∙ functions_more key c.self.inside.table.entries c.in_ok-key.key c.args.function
    ∙ ap (λ (fs : List Signature). fs ++ named_function c.in_ok-key.key.items c.args.function ∷ []) c.self.view_is
    ∙ ap (λ (s : List ℕ). c.args.self.now ++ named_function s c.args.function ∷ []) c.in_ok-key.ensures.items
