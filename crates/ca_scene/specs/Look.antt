-- One branch of an operation, as the code looks at it.
use Rattle.ca_value.specs.View.{view}
use Rattle.ca_term.specs.Event.{BranchView, take_of, put_of}
use Rattle.ca_scene.specs.declared.branch.Look.{Look}

abbrev pub look_view : Look → BranchView
look_view (Look.Take p) = take_of p
look_view (Look.Put p v) = put_of p (view v.now)
