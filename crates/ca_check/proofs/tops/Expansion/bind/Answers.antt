use Rattle.std.proofs.Common.{rules, arith, ◌≡◌, ◌+◌, ◌++◌, ◌∷◌, [], ℕ, List, length, true, false, ◌||◌, nat_lt, ap, ◌∙◌}
use Rattle.ca_value.specs.Seq.{list}
use Rattle.ca_term.specs.View.{kernel}
use Rattle.ca_reader.specs.View.{form_tree}
use Rattle.ca_forms.specs.Depth.{kernel_depth}
use Rattle.ca_check.specs.TopsView.{tops_of}
use Rattle.ca_forms.specs.Walk.{walk}
use Rattle.ca_forms.specs.WalkView.{gathered}
use Rattle.ca_check.proofs.TopLaws.{bound_leads, bound_deep}
use Rattle.ca_check.proofs.KeepsLaws.{safe_more}
use Rattle.std.proofs.lemmas.List.{length-append}
use Rattle.ca_check.proofs.tops.Expansion.bind.Goals as goal

pub returns-clause-ok : goal.returns-clause-ok
returns-clause-ok c rest =
    let t = tops_of c.args.self.now.definitions in
    let scope : c.bind.new.self ≡ t.scope ++ c.args.name.now ∷ [] = c.in_ok-bind.ensures.ok ∙ ap (λ (sc : List (List ℕ)). sc ++ c.args.name.now ∷ []) c.in_ok-made.ensures.scope in
    let deep : ((gathered c.form.new.self.gathered).deep || nat_lt 399 (kernel_depth (kernel c.in_ok-made.made))) ≡ false = search rules in
    bound_leads (list c.args.self.now.bindings) (list c.push.new.self) c.new.result c.args.name.now (walk (form_tree c.args.form.now)) c.args.defined c.args.place rest t _
    (gathered c.args.self.now.definitions.walker.gathered) (gathered c.form.new.self.gathered) (kernel c.in_ok-made.made) c.in_ok-made.ensures.ok deep (search rules) (search rules)
    (ap (λ (sc : List (List ℕ)). record t { scope = sc; defined = t.defined + c.args.defined }) scope)

pub returns-then-is_deep-clause-err : goal.returns-then-is_deep-clause-err
returns-then-is_deep-clause-err c rest =
    let deep : ((gathered c.form.new.self.gathered).deep || nat_lt 399 (kernel_depth (kernel c.in_ok-made.made))) ≡ true = search rules in
    bound_deep c.args.name.now (walk (form_tree c.args.form.now)) c.args.defined c.args.place rest (tops_of c.args.self.now.definitions) (gathered c.args.self.now.definitions.walker.gathered)
    (gathered c.form.new.self.gathered) (kernel c.in_ok-made.made) c.in_ok-made.ensures.ok deep

pub returns-clause-behind : goal.returns-clause-behind
returns-clause-behind c =
    let scope : c.bind.new.self ≡ c.args.self.now.definitions.walker.scope ++ c.args.name.now ∷ []
    = c.in_ok-bind.ensures.ok ∙ ap (λ (sc : List (List ℕ)). sc ++ c.args.name.now ∷ []) c.in_ok-made.ensures.scope in
    let many : length c.bind.new.self ≡ length c.args.self.now.definitions.walker.scope + 1 = ap (λ (sc : List (List ℕ)). length sc) scope ∙ length-append c.args.self.now.definitions.walker.scope (c.args.name.now ∷ []) in (
      omega (arith, many, c.requires.behind.0),
      omega (arith, c.requires.behind.1, c.requires.one),
      safe_more (length c.args.self.now.definitions.walker.scope) (length c.bind.new.self) c.args.self.now.definitions.functions (omega (arith, many)) c.requires.behind.2,
    )
