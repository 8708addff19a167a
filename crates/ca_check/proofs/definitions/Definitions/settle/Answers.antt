use Rattle.std.proofs.Common.{rules, arith, ◌≡◌, ◌-◌, suc, length, ap, ◌∙◌, subst}
use Rattle.ca_forms.specs.Tops.{Tops, body_settled}
use Rattle.ca_check.specs.TopsView.{tops_of, written_as, settled_view, AreBelow}
use Rattle.ca_forms.specs.Outcome.{done}
use Rattle.ca_forms.specs.WalkView.{gathered, Fails}
use Rattle.ca_check.proofs.SettledLaws.{settle_step, settle_done, settle_fails, settle_over}
use Rattle.ca_check.proofs.definitions.Definitions.settle.Goals as goal

pub loop-left-preserved : goal.loop-left-preserved
loop-left-preserved c =
    let w = written_as c.args.defn.now in
    let o = body_settled 66 c.args.hints.looping c.args.hints.hidden.keys w c.args.place (tops_of c.args.self.now) (gathered c.args.self.now.walker.gathered) in
    let left : suc (c.loop-left.left - 1) ≡ c.loop-left.left = omega arith in
    record {
      same = settle_step c.args.hints.looping w c.args.place c.loop-left.hidden.keys c.walk_again.new.hidden.keys (tops_of c.loop-left.self) (tops_of c.walk_again.new.self)
          (gathered c.loop-left.self.walker.gathered) (gathered c.walk_again.new.self.walker.gathered) (c.loop-left.left - 1) c.loop-left.left o left
          c.in_ok-walked.ensures.kept (rw c.in-None.is at c.in_ok-walked.ensures.gathered) ((rw c.in-None.is at c.in_ok-walked.ensures.more) (c.loop-left.left - 1)) c.loop-left.invariant.same;
      kept = c.in_ok-walked.ensures.kept ∙ c.loop-left.invariant.kept;
      below = subst (λ n. AreBelow n c.walk_again.new.hidden.keys) (ap (λ (t : Tops). length t.scope) c.loop-left.invariant.kept) c.in_ok-walked.ensures.below;
    }

pub returns-in-Some-clause-ok : goal.returns-in-Some-clause-ok
returns-in-Some-clause-ok c =
    let w = written_as c.args.defn.now in
    let o = body_settled 66 c.args.hints.looping c.args.hints.hidden.keys w c.args.place (tops_of c.args.self.now) (gathered c.args.self.now.walker.gathered) in
    settle_done c.args.hints.looping w c.args.place c.loop-left.hidden.keys (tops_of c.loop-left.self) (gathered c.loop-left.self.walker.gathered) (c.loop-left.left - 1) c.loop-left.left o
    (done (settled_view c.in-Some.made c.walk_again.new.hidden.keys) (gathered c.walk_again.new.self.walker.gathered)) (omega arith) ((rw c.in-Some.is at c.in_ok-walked.ensures.ok) (c.loop-left.left - 1)) c.loop-left.invariant.same

pub returns-in_err-walked-clause-err : goal.returns-in_err-walked-clause-err
returns-in_err-walked-clause-err c =
    let w = written_as c.args.defn.now in
    let h : Fails c.in_err-walked.field-0.0 (body_settled 66 c.args.hints.looping c.args.hints.hidden.keys w c.args.place (tops_of c.args.self.now) (gathered c.args.self.now.walker.gathered))
    = settle_fails c.in_err-walked.field-0.0 c.args.hints.looping w c.args.place c.loop-left.hidden.keys (tops_of c.loop-left.self) (gathered c.loop-left.self.walker.gathered) (c.loop-left.left - 1) c.loop-left.left
    (body_settled 66 c.args.hints.looping c.args.hints.hidden.keys w c.args.place (tops_of c.args.self.now) (gathered c.args.self.now.walker.gathered)) (omega arith)
    (c.in_err-walked.ensures.err (c.loop-left.left - 1)) c.loop-left.invariant.same in
    search rules

pub returns-clause-err : goal.returns-clause-err
returns-clause-err c = settle_over c.args.hints.looping (written_as c.args.defn.now) c.args.place c.loop-left.hidden.keys (tops_of c.loop-left.self) (gathered c.loop-left.self.walker.gathered) c.loop-left.left
    (body_settled 66 c.args.hints.looping c.args.hints.hidden.keys (written_as c.args.defn.now) c.args.place (tops_of c.args.self.now) (gathered c.args.self.now.walker.gathered)) (omega arith) c.loop-left.invariant.same
