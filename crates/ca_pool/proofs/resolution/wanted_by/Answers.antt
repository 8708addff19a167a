use Rattle.std.proofs.Common.{◌≡◌, ◌∙◌, sym, subst, true}
use Rattle.ca_term.specs.Operation.{WantView, op_view, want_view}
use Rattle.ca_meaning.specs.Body.{at_op}
use Rattle.ca_meaning.specs.Wait.{is_among}
use Rattle.ca_commit.specs.Contents.{home}
use Rattle.ca_commit.proofs.Among.{among_map}
use Rattle.ca_pool.specs.Named.{ports_to_hold}
use Rattle.ca_pool.proofs.resolution.wanted_by.Goals as goal

same_want : (x y : WantView) → at_op x ≡ at_op y → x ≡ y
same_want x y e = cc

pub returns : goal.returns
returns g c = λ want at q e. let w = c.want.result.now in let p = c.args.new_port in
    c.banks_of.ensures (home q) ∙ among_map home q (ports_to_hold (op_view w.op) p) (subst (λ (x : WantView). is_among q (ports_to_hold x.op p) ≡ true) (same_want want (want_view w) (sym at ∙ c.want.ensures)) e)
