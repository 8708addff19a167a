use Rattle.std.proofs.Common.{◌∙◌, arith}
use Rattle.ca_pool.proofs.Resolutions.{same_both}
use Rattle.ca_pool.proofs.visit.find_task.Goals as goal

pub find_at-going-requires-clause-on : goal.find_at-going-requires-clause-on
find_at-going-requires-clause-on g c = c.loop-k.invariant.found ∙ c.requires.on

pub loop-k-preserved : goal.loop-k-preserved
loop-k-preserved g c = let i = c.loop-k.invariant in let f = c.find_at-going.ensures in let k = c.loop-k.k in let lt = c.loop-k-test.true in record {
  same = same_both c.args.worker.now c.loop-k.worker c.find_at-going.new.worker i.same f.same;
  at = f.at;
  left = f.left ∙ i.left;
  found = f.found ∙ i.found;
  spent = λ start w h. f.spent start w (i.spent start w h);
  first = λ most zero free r. absurd (omega (arith, zero));
  empty = λ most pos none free r. f.empty most none (i.first most (let one = r.at.lone.0 in omega (arith, lt, one)) free r).1;
  picked = λ most pos some free r. f.picked most some (i.first most (let one = r.at.lone.0 in omega (arith, lt, one)) free r).1;
}

pub returns-clause-empty : goal.returns-clause-empty
returns-clause-empty g c = λ most free none r. let ge = c.loop-k-test.false in let one = r.at.lone.0 in c.loop-k.invariant.empty most (omega (arith, ge, one)) none free r

pub returns-clause-picked : goal.returns-clause-picked
returns-clause-picked g c = λ most free some r. let ge = c.loop-k-test.false in let one = r.at.lone.0 in c.loop-k.invariant.picked most (omega (arith, ge, one)) some free r
