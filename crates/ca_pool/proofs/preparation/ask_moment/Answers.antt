use Rattle.std.proofs.Common.{Option, Some, sym, subst}
use Rattle.std.specs.Prelude.{IfOk}
use Rattle.ca_pool.specs.Desk.{ClockBox}
use Rattle.ca_pool.specs.Preparing.{AskedFor, clock_with}
use Rattle.ca_pool.proofs.preparation.ask_moment.Goals as goal

pub returns-in-Some-clause-asked : goal.returns-in-Some-clause-asked
returns-in-Some-clause-asked g c = λ o. let K = g.C.Clock in let q = c.ask-asked in
    subst (λ (k : Option (ClockBox g.row.C.Denot)). IfOk q.result.1 (λ m. AskedFor m (clock_with K.least K.faults K.readings k o) (clock_with K.least K.faults K.readings (Some q.result.0) o))) (sym c.in-Some.is) (q.ensures.asked o)
