use Rattle.std.proofs.Common.{rules, ◌≡◌, [], Some, length, false, refl, ap, sym, ◌∙◌, List, ℕ, subst}
use Rattle.ca_term.specs.View.{kernel}
use Rattle.ca_check.specs.declared.defn.Pass.{Pass}
use Rattle.ca_forms.specs.Tops.{Tops, straight, signature, function_env, add_function}
use Rattle.ca_check.specs.TopsView.{tops_of, written_as, settled_function, AreBelow}
use Rattle.ca_forms.specs.Uses.{uses}
use Rattle.ca_forms.specs.WalkView.{gathered, Fails}
use Rattle.ca_check.proofs.KeepsLaws.{body_keeps, safe_behind, uses_safe}
use Rattle.ca_check.proofs.SettledLaws.{first_is, first_deep, first_fails, left_behind}
use Rattle.ca_check.proofs.DefnLaws.{fails_same}
use Rattle.ca_check.proofs.definitions.Definitions.first_pass.Goals as goal

pub returns-clause-ok : goal.returns-clause-ok
returns-clause-ok c =
    let w = written_as c.args.defn.now in
    let t = tops_of c.args.self.now in
    let s = gathered c.args.self.now.walker.gathered in
    let scope : c.pass.new.self.walker.scope ≡ c.args.self.now.walker.scope = ap (λ (z : Tops). z.scope) c.in_ok-first.ensures.kept in
    let keys : c.note_term.new.seen.keys ≡ uses (length c.args.self.now.walker.scope) (kernel c.in_ok-first.first) []
    = c.in_ok-note_term.ensures ∙ search rules in
    first_is w c.args.place t s (kernel c.in_ok-first.first) (gathered c.pass.new.self.walker.gathered)
    (c.in_ok-judge.ensures.ok (straight (Some (length w.parameters)) w c.args.place) (function_env (signature w [] false) t) s) c.in_ok-first.ensures.ok c.if-self.false
    ∙ ap (λ b. settled_function b (uses (length c.args.self.now.walker.scope) (kernel c.in_ok-first.first) []) w c.args.place t s) (search rules)
    ∙ ap (λ (ks : List ℕ). settled_function c.aims_out.result ks w c.args.place t s) (sym keys)

pub returns-then-self-clause-err : goal.returns-then-self-clause-err
returns-then-self-clause-err c =
    let w = written_as c.args.defn.now in
    let t = tops_of c.args.self.now in
    let s = gathered c.args.self.now.walker.gathered in
    first_deep w c.args.place t s (kernel c.in_ok-first.first) (gathered c.pass.new.self.walker.gathered)
    (c.in_ok-judge.ensures.ok (straight (Some (length w.parameters)) w c.args.place) (function_env (signature w [] false) t) s) c.in_ok-first.ensures.ok c.if-self.true

pub returns-clause-gathered : goal.returns-clause-gathered
returns-clause-gathered c =
    let w = written_as c.args.defn.now in
    let t = tops_of c.args.self.now in
    left_behind c.args.self.now.walker.gathered c.pass.new.self.walker.gathered c.cut.new.self c.len-bodies.result c.args.self.now.walker.gathered.deep c.len-bodies.ensures refl
    (body_keeps Pass.First c.args.defn.now c.args.place t (signature w [] false) (gathered c.args.self.now.walker.gathered) (gathered c.pass.new.self.walker.gathered) (kernel c.in_ok-first.first)
    (safe_behind (length t.scope) t.functions (signature w [] false) c.requires.safe tt (λ h. refl)) c.in_ok-first.ensures.ok)
    c.cut.ensures

pub returns-in_err-judge-clause-err : goal.returns-in_err-judge-clause-err
returns-in_err-judge-clause-err c =
    let w = written_as c.args.defn.now in
    let t = tops_of c.args.self.now in
    let s = gathered c.args.self.now.walker.gathered in
    let h : Fails c.in_err-judge.field-0.0 (add_function w c.args.place t s)
    = first_fails w c.args.place t s c.in_err-judge.field-0.0 (c.in_err-judge.ensures.err (straight (Some (length w.parameters)) w c.args.place) (function_env (signature w [] false) t) s) in
    search rules

pub returns-in_err-first-clause-err : goal.returns-in_err-first-clause-err
returns-in_err-first-clause-err c =
    let w = written_as c.args.defn.now in
    let t = tops_of c.args.self.now in
    let s = gathered c.args.self.now.walker.gathered in
    let h : Fails c.in_err-first.field-0.0 (add_function w c.args.place t s)
    = first_fails w c.args.place t s c.in_err-first.field-0.0 (fails_same c.in_err-first.field-0.0 _ _
    (sym (c.in_ok-judge.ensures.ok (straight (Some (length w.parameters)) w c.args.place) (function_env (signature w [] false) t) s)) c.in_err-first.ensures.err) in
    search rules

pub returns-clause-below : goal.returns-clause-below
returns-clause-below c =
    let scope : c.pass.new.self.walker.scope ≡ c.args.self.now.walker.scope = ap (λ (z : Tops). z.scope) c.in_ok-first.ensures.kept in
    let keys : c.note_term.new.seen.keys ≡ uses (length c.args.self.now.walker.scope) (kernel c.in_ok-first.first) []
    = c.in_ok-note_term.ensures ∙ search rules in
    subst (λ ks. AreBelow (length c.args.self.now.walker.scope) ks) (sym keys) (uses_safe (length c.args.self.now.walker.scope) (kernel c.in_ok-first.first) [] tt)
