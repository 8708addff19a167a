-- What the types that `validate` works with stand for.
use Rattle.std.specs.Prelude.{ℕ, List, [], ◌∷◌, map}
use Rattle.ca_value.specs.Seq.{list}
use Rattle.ca_states.specs.declared.range.Texts.{Texts}
use Rattle.ca_states.specs.Code.{CodeView, block_view}
use Rattle.ca_states.specs.declared.touch.Numbers.{Numbers}
use Rattle.ca_states.specs.declared.touch.Numbers.TheVariants as few
use Rattle.ca_states.specs.Machine.{slots_from}

abbrev pub slot_numbers : Numbers → List ℕ
slot_numbers few.None = []
slot_numbers (few.One a) = a ∷ []
slot_numbers (few.Two a b) = a ∷ b ∷ []
slot_numbers (few.Three a b c) = a ∷ b ∷ c ∷ []
slot_numbers (few.Range from count) = slots_from from count

abbrev pub texts_view : Texts → CodeView
texts_view t = record { blocks = map block_view (list t.blocks); main = t.main; identity = t.identity; bodies = list t.bodies; functions = list t.functions; width = t.width }
