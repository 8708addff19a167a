use Rattle.std.proofs.Common.{◌∙◌, ◌≡◌, ◌⊎◌, inl, inr, sym, ap, true, None}
use Rattle.std.specs.Prelude.{is_some, not}
use Rattle.ca_table.specs.declared.part.Lane.{Lane}
use Rattle.ca_pool.proofs.LoneVisits.{not_there, stays_free}
use Rattle.ca_pool.proofs.visit.stand_back.Goals as goal
use Rattle.ca_pool.proofs.visit.stand_back.Goals.{then-going, else-going}

pub returns-then-is_none-clause-solo : goal.returns-then-is_none-clause-solo
returns-then-is_none-clause-solo g c = λ most full go. let a = g.A.Agent in let m = g.met.A.Agent in
    let free : (c.args.going.found ≡ true) ⊎ (c.args.going.lane.value.task ≡ None) = elim c.if-going.branch [
      | then-going w ↦ inl w.if-going.true
      | else-going w ↦ inr (not_there c.args.going.lane.value.task (ap (λ (l : Lane g.row.A.Denot). is_some l.task) (sym w.deref.ensures) ∙ w.is_none.ensures ∙ ap not (sym w.value-is ∙ c.if-is_none.true)))
    ] in
    stays_free a.over a.place a.stands a.advances a.gives a.starts m.advanced m.answered m.started c.args.code.now c.args.table.now.id c.requires.at free go
