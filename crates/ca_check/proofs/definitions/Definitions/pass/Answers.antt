use Rattle.std.proofs.Common.{rules, ◌≡◌, ◌++◌, ◌∷◌, [], List, false, ap, sym, ◌∙◌}
use Rattle.ca_forms.specs.Meaning.{Signature}
use Rattle.ca_forms.specs.Tops.{signature, function_env}
use Rattle.ca_check.specs.TopsView.{tops_of, written_as, body_in, in_function}
use Rattle.ca_forms.specs.WalkView.{gathered, Fails}
use Rattle.ca_check.proofs.DefnLaws.{free_find, fails_same}
use Rattle.ca_check.proofs.definitions.Definitions.pass.Goals as goal

pub add-requires : goal.add-requires
add-requires c = free_find c.args.defn.now.name.now c.args.self.now.functions c.requires.free

pub returns-in_err-body-clause-err : goal.returns-in_err-body-clause-err
returns-in_err-body-clause-err c =
    let w = written_as c.args.defn.now in
    let s = gathered c.args.self.now.walker.gathered in
    let signed : c.add.new.self ≡ c.args.self.now.functions ++ signature w c.args.hidden.now false ∷ []
    = c.in_ok-add.ensures.ok ∙ ap (λ (f : Signature). c.args.self.now.functions ++ f ∷ []) c.in_ok-known.ensures.ok in
    let h : Fails c.in_err-body.field-0.0 (body_in c.args.pass w c.args.place (function_env (signature w c.args.hidden.now false) (tops_of c.args.self.now)) s)
    = fails_same c.in_err-body.field-0.0 _ _ (ap (λ (fs : List Signature). body_in c.args.pass w c.args.place (in_function c.args.self.now.walker.scope fs) s) signed) c.in_err-body.ensures.err in
    search rules

pub returns-clause-ok : goal.returns-clause-ok
returns-clause-ok c =
    let w = written_as c.args.defn.now in
    let s = gathered c.args.self.now.walker.gathered in
    let signed : c.add.new.self ≡ c.args.self.now.functions ++ signature w c.args.hidden.now false ∷ []
    = c.in_ok-add.ensures.ok ∙ ap (λ (f : Signature). c.args.self.now.functions ++ f ∷ []) c.in_ok-known.ensures.ok in
    ap (λ (fs : List Signature). body_in c.args.pass w c.args.place (in_function c.args.self.now.walker.scope fs) s) (sym signed) ∙ c.in_ok-body.ensures.ok
