use Rattle.std.proofs.Common.{rules, ◌≡◌, ◌≤◌, length, false, refl, ap, sym, ◌∙◌, List, ℕ, true≢false, subst}
use Rattle.ca_term.specs.View.{kernel}
use Rattle.ca_forms.specs.Outcome.{done}
use Rattle.ca_forms.specs.Tops.{Tops, signature, function_env}
use Rattle.ca_check.specs.TopsView.{tops_of, written_as, body_in, AreBelow}
use Rattle.ca_forms.specs.Uses.{uses}
use Rattle.ca_forms.specs.WalkView.{gathered}
use Rattle.ca_check.proofs.KeepsLaws.{body_keeps, safe_behind, uses_safe}
use Rattle.ca_forms.proofs.UsesLaws.{uses_same}
use Rattle.ca_check.proofs.SettledLaws.{walked, settled_done, settled_on, left_behind}
use Rattle.ca_check.proofs.definitions.Definitions.walk_again.Goals as goal

pub returns-then-len-before-clause-ok : goal.returns-then-len-before-clause-ok
returns-then-len-before-clause-ok c n =
    let w = written_as c.args.defn.now in
    let t = tops_of c.args.self.now in
    let s = gathered c.args.self.now.walker.gathered in
    let s2 = gathered c.pass.new.self.walker.gathered in
    let body = kernel c.in_ok-body.body in
    let went : walked c.args.looping c.args.hidden.now.keys w c.args.place t s ≡ done body s2
    = ap (λ pass. body_in pass w c.args.place (function_env (signature w c.args.hidden.now.keys false) t) s) (sym c.for_good-pass.ensures)
    ∙ ap (λ (h : List ℕ). body_in c.for_good-pass.result w c.args.place (function_env (signature w h false) t) s) (sym c.as_slice.ensures.keys) ∙ c.in_ok-body.ensures.ok in
    let scope : c.pass.new.self.walker.scope ≡ c.args.self.now.walker.scope = ap (λ (z : Tops). z.scope) c.in_ok-body.ensures.kept in
    let used : c.note_term.new.seen.keys ≡ uses (length c.args.self.now.walker.scope) body c.args.hidden.now.keys = c.in_ok-note_term.ensures ∙ search rules in
    let many : length c.note_term.new.seen.keys ≡ length c.args.hidden.now.keys = search rules in
    let few : length c.note_term.new.seen.keys ≤ 64 = search rules in
    settled_done c.args.looping c.args.hidden.now.keys w c.args.place t s n body s2 c.note_term.new.seen.keys went used few many
    ∙ ap (λ (ks : List ℕ). done (record { body = body; hidden = ks }) s2)
    (sym (used ∙ uses_same (length c.args.self.now.walker.scope) body c.args.hidden.now.keys (ap (λ (ks : List ℕ). length ks) (sym used) ∙ many)))

pub returns-clause-more : goal.returns-clause-more
returns-clause-more c n =
    let w = written_as c.args.defn.now in
    let t = tops_of c.args.self.now in
    let s = gathered c.args.self.now.walker.gathered in
    let s2 = gathered c.pass.new.self.walker.gathered in
    let body = kernel c.in_ok-body.body in
    let went : walked c.args.looping c.args.hidden.now.keys w c.args.place t s ≡ done body s2
    = ap (λ pass. body_in pass w c.args.place (function_env (signature w c.args.hidden.now.keys false) t) s) (sym c.for_good-pass.ensures)
    ∙ ap (λ (h : List ℕ). body_in c.for_good-pass.result w c.args.place (function_env (signature w h false) t) s) (sym c.as_slice.ensures.keys) ∙ c.in_ok-body.ensures.ok in
    let scope : c.pass.new.self.walker.scope ≡ c.args.self.now.walker.scope = ap (λ (z : Tops). z.scope) c.in_ok-body.ensures.kept in
    let used : c.note_term.new.seen.keys ≡ uses (length c.args.self.now.walker.scope) body c.args.hidden.now.keys = c.in_ok-note_term.ensures ∙ search rules in
    let differs : length c.note_term.new.seen.keys ≡ length c.args.hidden.now.keys → ⊥ = search rules in
    let few : length c.note_term.new.seen.keys ≤ 64 = search rules in
    settled_on c.args.looping c.args.hidden.now.keys w c.args.place t s n body s2 c.note_term.new.seen.keys went used few differs

pub returns-clause-gathered : goal.returns-clause-gathered
returns-clause-gathered c =
    let w = written_as c.args.defn.now in
    let t = tops_of c.args.self.now in
    let s = gathered c.args.self.now.walker.gathered in
    let keys = c.args.hidden.now.keys in
    let went : body_in c.for_good-pass.result w c.args.place (function_env (signature w keys false) t) s ≡ done (kernel c.in_ok-body.body) (gathered c.pass.new.self.walker.gathered)
    = ap (λ (h : List ℕ). body_in c.for_good-pass.result w c.args.place (function_env (signature w h false) t) s) (sym c.as_slice.ensures.keys) ∙ c.in_ok-body.ensures.ok in
    left_behind c.args.self.now.walker.gathered c.pass.new.self.walker.gathered c.cut.new.self c.len-bodies.result c.args.self.now.walker.gathered.deep c.len-bodies.ensures refl
    (body_keeps c.for_good-pass.result c.args.defn.now c.args.place t (signature w keys false) s (gathered c.pass.new.self.walker.gathered) (kernel c.in_ok-body.body)
    (safe_behind (length t.scope) t.functions (signature w keys false) c.requires.safe c.requires.below (λ h. absurd (true≢false (sym h)))) went)
    c.cut.ensures

pub returns-then-len-before-clause-below : goal.returns-then-len-before-clause-below
returns-then-len-before-clause-below c =
    let scope : c.pass.new.self.walker.scope ≡ c.args.self.now.walker.scope = ap (λ (z : Tops). z.scope) c.in_ok-body.ensures.kept in
    let used : c.note_term.new.seen.keys ≡ uses (length c.args.self.now.walker.scope) (kernel c.in_ok-body.body) c.args.hidden.now.keys = c.in_ok-note_term.ensures ∙ search rules in
    subst (λ ks. AreBelow (length c.args.self.now.walker.scope) ks) (sym used) (uses_safe (length c.args.self.now.walker.scope) (kernel c.in_ok-body.body) c.args.hidden.now.keys c.requires.below)

pub returns-clause-below : goal.returns-clause-below
returns-clause-below c =
    let scope : c.pass.new.self.walker.scope ≡ c.args.self.now.walker.scope = ap (λ (z : Tops). z.scope) c.in_ok-body.ensures.kept in
    let used : c.note_term.new.seen.keys ≡ uses (length c.args.self.now.walker.scope) (kernel c.in_ok-body.body) c.args.hidden.now.keys = c.in_ok-note_term.ensures ∙ search rules in
    subst (λ ks. AreBelow (length c.args.self.now.walker.scope) ks) (sym used) (uses_safe (length c.args.self.now.walker.scope) (kernel c.in_ok-body.body) c.args.hidden.now.keys c.requires.below)
