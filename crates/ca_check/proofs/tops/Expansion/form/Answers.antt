use Rattle.std.proofs.Common.{arith, ◌≡◌, [], drop, ap, sym, ◌∙◌}
use Rattle.ca_reader.specs.View.{form_tree}
use Rattle.ca_forms.specs.Tops.{one_top, def_top, defn_top, bound_top, list_top, is_defining}
use Rattle.ca_check.specs.TopsView.{tops_of}
use Rattle.ca_check.specs.ScriptView.{ScriptRest, form_top, kind_top, rest_of_script}
use Rattle.ca_forms.specs.Walk.{walk}
use Rattle.ca_forms.specs.WalkView.{gathered, form_parts}
use Rattle.ca_check.proofs.TopLaws.{leads_by, stops_by, form_is, form_past, form_over, place_is}
use Rattle.ca_check.proofs.tops.Expansion.form.Goals as goal

pub returns-then-number-gt4095-clause-err : goal.returns-then-number-gt4095-clause-err
returns-then-number-gt4095-clause-err c rest = form_over c.args.number c.args.form.now rest (tops_of c.args.self.now.definitions) (gathered c.args.self.now.definitions.walker.gathered) (omega arith) (place_is c.args.form.now)

pub returns-then-is_past-clause-err : goal.returns-then-is_past-clause-err
returns-then-is_past-clause-err c rest =
    form_past c.args.number c.args.form.now c.list_items-parts.result.now c.kind_of-kind.result (tops_of c.args.self.now.definitions) (omega arith) c.list_items-parts.ensures (place_is c.args.form.now)
    (λ ps m. ap (λ w. list_top w ps m) (sym c.word_at_head.ensures) ∙ c.kind_of-kind.ensures.top ps m) (ap (λ w. is_defining w) (sym c.word_at_head.ensures) ∙ c.kind_of-kind.ensures.defining)
    rest (gathered c.args.self.now.definitions.walker.gathered) (sym c.is_past.ensures ∙ c.if-is_past.true)

pub returns-in-Definition-clause-ok : goal.returns-in-Definition-clause-ok
returns-in-Definition-clause-ok c =
    let same : (rest : ScriptRest) → rest_of_script c.args.self.now (form_top c.args.number (form_tree c.args.form.now) rest) ≡ rest_of_script c.args.self.now (one_top (def_top (form_parts (drop 1 c.list_items-parts.result.now))) c.args.form.now.place rest)
    = λ rest. form_is c.args.number c.args.form.now c.list_items-parts.result.now c.kind_of-kind.result (tops_of c.args.self.now.definitions) (omega arith) c.list_items-parts.ensures (place_is c.args.form.now)
    (λ ps m. ap (λ w. list_top w ps m) (sym c.word_at_head.ensures) ∙ c.kind_of-kind.ensures.top ps m) (ap (λ w. is_defining w) (sym c.word_at_head.ensures) ∙ c.kind_of-kind.ensures.defining)
    rest (gathered c.args.self.now.definitions.walker.gathered) (sym c.is_past.ensures ∙ c.if-is_past.false)
    ∙ ap (λ k. one_top (kind_top k (form_parts (drop 1 c.list_items-parts.result.now)) (walk (form_tree c.args.form.now))) c.args.form.now.place rest (tops_of c.args.self.now.definitions) (gathered c.args.self.now.definitions.walker.gathered)) c.in-Definition.is in
    leads_by c.definition.result (form_top c.args.number (form_tree c.args.form.now)) (one_top (def_top (form_parts (drop 1 c.list_items-parts.result.now))) c.args.form.now.place) c.args.self.now c.definition.new.self same c.definition.ensures.ok

pub returns-in-Definition-clause-err : goal.returns-in-Definition-clause-err
returns-in-Definition-clause-err c =
    let same : (rest : ScriptRest) → rest_of_script c.args.self.now (form_top c.args.number (form_tree c.args.form.now) rest) ≡ rest_of_script c.args.self.now (one_top (def_top (form_parts (drop 1 c.list_items-parts.result.now))) c.args.form.now.place rest)
    = λ rest. form_is c.args.number c.args.form.now c.list_items-parts.result.now c.kind_of-kind.result (tops_of c.args.self.now.definitions) (omega arith) c.list_items-parts.ensures (place_is c.args.form.now)
    (λ ps m. ap (λ w. list_top w ps m) (sym c.word_at_head.ensures) ∙ c.kind_of-kind.ensures.top ps m) (ap (λ w. is_defining w) (sym c.word_at_head.ensures) ∙ c.kind_of-kind.ensures.defining)
    rest (gathered c.args.self.now.definitions.walker.gathered) (sym c.is_past.ensures ∙ c.if-is_past.false)
    ∙ ap (λ k. one_top (kind_top k (form_parts (drop 1 c.list_items-parts.result.now)) (walk (form_tree c.args.form.now))) c.args.form.now.place rest (tops_of c.args.self.now.definitions) (gathered c.args.self.now.definitions.walker.gathered)) c.in-Definition.is in
    stops_by c.definition.result (form_top c.args.number (form_tree c.args.form.now)) (one_top (def_top (form_parts (drop 1 c.list_items-parts.result.now))) c.args.form.now.place) c.args.self.now same c.definition.ensures.err

pub returns-in-Function-clause-ok : goal.returns-in-Function-clause-ok
returns-in-Function-clause-ok c =
    let same : (rest : ScriptRest) → rest_of_script c.args.self.now (form_top c.args.number (form_tree c.args.form.now) rest) ≡ rest_of_script c.args.self.now (one_top (defn_top (form_parts (drop 1 c.list_items-parts.result.now))) c.args.form.now.place rest)
    = λ rest. form_is c.args.number c.args.form.now c.list_items-parts.result.now c.kind_of-kind.result (tops_of c.args.self.now.definitions) (omega arith) c.list_items-parts.ensures (place_is c.args.form.now)
    (λ ps m. ap (λ w. list_top w ps m) (sym c.word_at_head.ensures) ∙ c.kind_of-kind.ensures.top ps m) (ap (λ w. is_defining w) (sym c.word_at_head.ensures) ∙ c.kind_of-kind.ensures.defining)
    rest (gathered c.args.self.now.definitions.walker.gathered) (sym c.is_past.ensures ∙ c.if-is_past.false)
    ∙ ap (λ k. one_top (kind_top k (form_parts (drop 1 c.list_items-parts.result.now)) (walk (form_tree c.args.form.now))) c.args.form.now.place rest (tops_of c.args.self.now.definitions) (gathered c.args.self.now.definitions.walker.gathered)) c.in-Function.is in
    leads_by c.function.result (form_top c.args.number (form_tree c.args.form.now)) (one_top (defn_top (form_parts (drop 1 c.list_items-parts.result.now))) c.args.form.now.place) c.args.self.now c.function.new.self same c.function.ensures.ok

pub returns-in-Function-clause-err : goal.returns-in-Function-clause-err
returns-in-Function-clause-err c =
    let same : (rest : ScriptRest) → rest_of_script c.args.self.now (form_top c.args.number (form_tree c.args.form.now) rest) ≡ rest_of_script c.args.self.now (one_top (defn_top (form_parts (drop 1 c.list_items-parts.result.now))) c.args.form.now.place rest)
    = λ rest. form_is c.args.number c.args.form.now c.list_items-parts.result.now c.kind_of-kind.result (tops_of c.args.self.now.definitions) (omega arith) c.list_items-parts.ensures (place_is c.args.form.now)
    (λ ps m. ap (λ w. list_top w ps m) (sym c.word_at_head.ensures) ∙ c.kind_of-kind.ensures.top ps m) (ap (λ w. is_defining w) (sym c.word_at_head.ensures) ∙ c.kind_of-kind.ensures.defining)
    rest (gathered c.args.self.now.definitions.walker.gathered) (sym c.is_past.ensures ∙ c.if-is_past.false)
    ∙ ap (λ k. one_top (kind_top k (form_parts (drop 1 c.list_items-parts.result.now)) (walk (form_tree c.args.form.now))) c.args.form.now.place rest (tops_of c.args.self.now.definitions) (gathered c.args.self.now.definitions.walker.gathered)) c.in-Function.is in
    stops_by c.function.result (form_top c.args.number (form_tree c.args.form.now)) (one_top (defn_top (form_parts (drop 1 c.list_items-parts.result.now))) c.args.form.now.place) c.args.self.now same c.function.ensures.err

pub returns-in-Expression-clause-ok : goal.returns-in-Expression-clause-ok
returns-in-Expression-clause-ok c =
    let same : (rest : ScriptRest) → rest_of_script c.args.self.now (form_top c.args.number (form_tree c.args.form.now) rest) ≡ rest_of_script c.args.self.now (bound_top [] (walk (form_tree c.args.form.now)) 0 c.args.form.now.place rest)
    = λ rest. form_is c.args.number c.args.form.now c.list_items-parts.result.now c.kind_of-kind.result (tops_of c.args.self.now.definitions) (omega arith) c.list_items-parts.ensures (place_is c.args.form.now)
    (λ ps m. ap (λ w. list_top w ps m) (sym c.word_at_head.ensures) ∙ c.kind_of-kind.ensures.top ps m) (ap (λ w. is_defining w) (sym c.word_at_head.ensures) ∙ c.kind_of-kind.ensures.defining)
    rest (gathered c.args.self.now.definitions.walker.gathered) (sym c.is_past.ensures ∙ c.if-is_past.false)
    ∙ ap (λ k. one_top (kind_top k (form_parts (drop 1 c.list_items-parts.result.now)) (walk (form_tree c.args.form.now))) c.args.form.now.place rest (tops_of c.args.self.now.definitions) (gathered c.args.self.now.definitions.walker.gathered)) c.in-Expression.is in
    leads_by c.bind.result (form_top c.args.number (form_tree c.args.form.now)) (bound_top [] (walk (form_tree c.args.form.now)) 0 c.args.form.now.place) c.args.self.now c.bind.new.self same c.bind.ensures.ok

pub returns-in-Expression-clause-err : goal.returns-in-Expression-clause-err
returns-in-Expression-clause-err c =
    let same : (rest : ScriptRest) → rest_of_script c.args.self.now (form_top c.args.number (form_tree c.args.form.now) rest) ≡ rest_of_script c.args.self.now (bound_top [] (walk (form_tree c.args.form.now)) 0 c.args.form.now.place rest)
    = λ rest. form_is c.args.number c.args.form.now c.list_items-parts.result.now c.kind_of-kind.result (tops_of c.args.self.now.definitions) (omega arith) c.list_items-parts.ensures (place_is c.args.form.now)
    (λ ps m. ap (λ w. list_top w ps m) (sym c.word_at_head.ensures) ∙ c.kind_of-kind.ensures.top ps m) (ap (λ w. is_defining w) (sym c.word_at_head.ensures) ∙ c.kind_of-kind.ensures.defining)
    rest (gathered c.args.self.now.definitions.walker.gathered) (sym c.is_past.ensures ∙ c.if-is_past.false)
    ∙ ap (λ k. one_top (kind_top k (form_parts (drop 1 c.list_items-parts.result.now)) (walk (form_tree c.args.form.now))) c.args.form.now.place rest (tops_of c.args.self.now.definitions) (gathered c.args.self.now.definitions.walker.gathered)) c.in-Expression.is in
    stops_by c.bind.result (form_top c.args.number (form_tree c.args.form.now)) (bound_top [] (walk (form_tree c.args.form.now)) 0 c.args.form.now.place) c.args.self.now same c.bind.ensures.err
