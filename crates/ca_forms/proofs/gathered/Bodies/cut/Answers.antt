use Rattle.std.proofs.Common.{◌≡◌, ap, sym, ◌∙◌, map, List, take}
use Rattle.std.proofs.lemmas.List.{take-map}
use Rattle.ca_value.specs.Seq.{list}
use Rattle.ca_term.specs.Program.{ProcedureView, procedure_view}
use Rattle.ca_term.specs.declared.program.Procedure.{Procedure}
use Rattle.ca_forms.proofs.gathered.Bodies.cut.Goals as goal

pub returns : goal.returns
returns c =
    let left : map procedure_view (list c.truncate.new.self) ≡ take c.args.bodies (map procedure_view (list c.args.self.now.bodies))
    = ap (λ (ps : List Procedure). map procedure_view ps) c.truncate.ensures.first ∙ sym (take-map procedure_view c.args.bodies (list c.args.self.now.bodies)) in
    ap (λ (bs : List ProcedureView). record { bodies = bs; deep = c.args.deep }) left
