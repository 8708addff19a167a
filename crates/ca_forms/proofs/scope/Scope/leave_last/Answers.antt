use Rattle.ca_value.specs.Seq.{list}
use Rattle.ca_forms.proofs.ScopeLaws.{left_stands, never_absent}
use Rattle.ca_forms.proofs.scope.Scope.leave_last.Goals as goal

pub invariant_of-self : goal.invariant_of-self
invariant_of-self c = left_stands (λ v. v.items) c.self.inside.numbers.entries c.insert.new.self.entries (list c.self.inside.names) (list c.pop.new.self) c.in-Some.bound c.into_vec.result
    c.self.invariant c.in-Some.ensures.some c.into_vec.ensures c.in-Ok.ensures.entries

pub unreachable-requires : goal.unreachable-requires
unreachable-requires c = never_absent (λ v. v.items) c.self.inside.numbers.entries (list c.self.inside.names) (list c.pop.new.self) c.in-Some.bound c.into_vec.result
    c.self.invariant c.in-Some.ensures.some c.into_vec.ensures c.in-Err.ensures.absent
