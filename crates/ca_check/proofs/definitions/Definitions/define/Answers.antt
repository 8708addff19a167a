use Rattle.std.proofs.Common.{rules, ◌≡◌, ◌+◌, ◌++◌, ◌∷◌, [], List, ℕ, suc, ap, sym, ◌∙◌, arith, length, ◌&&◌, subst}
use Rattle.ca_value.specs.Seq.{list}
use Rattle.ca_term.specs.View.{kernel}
use Rattle.ca_forms.specs.Meaning.{Signature}
use Rattle.ca_forms.specs.Tops.{signature, numbers, names_of, is_empty, plain_with}
use Rattle.ca_forms.specs.Uses.{is_plain}
use Rattle.ca_check.specs.declared.walk.Walker.{Walker}
use Rattle.ca_check.specs.TopsView.{tops_of, written_as, AreSafe}
use Rattle.ca_check.proofs.DefnLaws.{free_find}
use Rattle.ca_check.proofs.KeepsLaws.{safe_behind, bare}
use Rattle.ca_check.proofs.SettledLaws.{defined_is, one_procedure}
use Rattle.ca_check.proofs.definitions.Definitions.define.Goals as goal

pub enter-requires-clause-free : goal.enter-requires-clause-free
enter-requires-clause-free c = free_find c.args.defn.now.name.now c.args.self.now.functions c.requires.free

pub returns-clause-ok : goal.returns-clause-ok
returns-clause-ok c =
    let w = written_as c.args.defn.now in
    let keys = c.args.body.hidden.keys in
    let signed : c.enter.new.self.functions ≡ c.args.self.now.functions ++ signature w keys c.is_plain_function-plain.result ∷ []
    = c.in_ok-enter.ensures.functions ∙ ap (λ (f : Signature). c.args.self.now.functions ++ f ∷ []) (c.in_ok-known.ensures.ok ∙ ap (λ (l : List ℕ). signature w l c.is_plain_function-plain.result) c.as_slice.ensures.keys) in
    let own = length c.args.self.now.functions in
    let body = kernel c.args.body.made in
    let is : c.is_plain_function-plain.result ≡ (is_empty keys && is_plain (plain_with own c.args.self.now.functions) body) = c.is_plain_function-plain.ensures ∙ ap (λ t. is_empty keys && is_plain (plain_with own c.args.self.now.functions) (kernel t)) c.term.ensures in
    let plain : c.enter.new.self.functions ≡ c.args.self.now.functions ++ signature w keys (is_empty keys && is_plain (plain_with own c.args.self.now.functions) body) ∷ []
    = signed ∙ ap (λ b. c.args.self.now.functions ++ signature w keys b ∷ []) is in
    let up : c.args.self.now.defined + 1 ≡ suc c.args.self.now.defined = omega arith in
    let first : c.len-first.result ≡ length c.args.self.now.walker.scope = search rules in
    let parameters : list c.in_ok-parameters.parameters ≡ numbers (length c.args.self.now.walker.scope) (names_of w.parameters) ++ keys
    = c.in_ok-parameters.ensures.ok ∙ ap (λ n. numbers n (names_of w.parameters) ++ c.as_slice-2.result.now) first
    ∙ ap (λ (l : List ℕ). numbers (length c.args.self.now.walker.scope) (names_of w.parameters) ++ l) c.as_slice-2.ensures.keys in
    defined_is w keys body (tops_of c.args.self.now) (tops_of c.enter.new.self) (ap (λ (v : Walker). v.scope) c.in_ok-enter.ensures.walker) plain
    (one_procedure (list c.args.self.now.procedures) (list c.enter.new.self.procedures) (record { parameters = c.in_ok-parameters.parameters; body = c.into_term.result })
    (numbers (length c.args.self.now.walker.scope) (names_of w.parameters)) keys body c.in_ok-enter.ensures.procedures parameters (ap (λ t. kernel t) c.into_term.ensures)) (c.in_ok-enter.ensures.defined ∙ up)

pub returns-clause-safe : goal.returns-clause-safe
returns-clause-safe c =
    let w = written_as c.args.defn.now in
    let keys = c.args.body.hidden.keys in
    let signed : c.enter.new.self.functions ≡ c.args.self.now.functions ++ signature w keys c.is_plain_function-plain.result ∷ []
    = c.in_ok-enter.ensures.functions ∙ ap (λ (f : Signature). c.args.self.now.functions ++ f ∷ []) (c.in_ok-known.ensures.ok ∙ ap (λ (l : List ℕ). signature w l c.is_plain_function-plain.result) c.as_slice.ensures.keys) in
    let own = length c.args.self.now.functions in
    let body = kernel c.args.body.made in
    let is : c.is_plain_function-plain.result ≡ (is_empty keys && is_plain (plain_with own c.args.self.now.functions) body) = c.is_plain_function-plain.ensures ∙ ap (λ t. is_empty keys && is_plain (plain_with own c.args.self.now.functions) (kernel t)) c.term.ensures in
    let plain : c.enter.new.self.functions ≡ c.args.self.now.functions ++ signature w keys (is_empty keys && is_plain (plain_with own c.args.self.now.functions) body) ∷ []
    = signed ∙ ap (λ b. c.args.self.now.functions ++ signature w keys b ∷ []) is in
    let n = length c.args.self.now.walker.scope in
    let same : length c.enter.new.self.walker.scope ≡ n = ap (λ (v : Walker). length v.scope) c.in_ok-enter.ensures.walker in
    let safe : AreSafe n c.enter.new.self.functions
    = subst (λ (fs : List Signature). AreSafe n fs) (sym plain)
    (safe_behind n c.args.self.now.functions (signature w keys (is_empty keys && is_plain (plain_with own c.args.self.now.functions) body)) c.requires.safe c.requires.below
    (λ h. bare keys (is_plain (plain_with own c.args.self.now.functions) body) h)) in
    subst (λ m. AreSafe m c.enter.new.self.functions) (sym same) safe
