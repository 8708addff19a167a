-- What the types that code is laid out with stand for.
use Rattle.std.specs.Prelude.{List, map, Option, Some, None}
use Rattle.ca_value.specs.Seq.{list}
use Rattle.ca_states.specs.Code.{instruction, block_view}
use Rattle.ca_lower.specs.declared.builder.Builder.{Builder as BuilderCode}
use Rattle.ca_lower.specs.declared.builder.Loop.{Loop}
use Rattle.ca_lower.specs.declared.builder.Name.{Name}
use Rattle.ca_term.specs.Program.{ProgramView, ProcedureView}
use Rattle.ca_lower.specs.declared.code.Texts.{Texts}
use Rattle.ca_lower.specs.Implements.{Scope, Target}
use Rattle.ca_lower.specs.Emit.{Builder, building}

abbrev pub builder_view : BuilderCode → Builder
builder_view b = building (map block_view (list b.blocks)) b.below (map instruction (list b.instrs))

abbrev pub target_view : Option Loop → Option Target
target_view None = None
target_view (Some l) = Some (record { first = l.first; count = l.count; head = l.head })

abbrev pub scope_view : List Name → Scope
scope_view ns = map (λ n. (n.name, n.slot)) ns

-- the texts of a program that are meant
abbrev pub texts_of : ProgramView → Texts → List ProcedureView
texts_of P Texts.Functions = P.functions
texts_of P Texts.Bodies = P.bodies
