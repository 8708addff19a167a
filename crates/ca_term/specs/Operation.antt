-- What a task wants, as plain data.
use Rattle.std.specs.Prelude.{ℕ, List, Bool, Option, option_map}
use Rattle.ca_value.specs.Seq.{list}
use Rattle.ca_value.specs.Tree.{Tree, Trees, trees_of}
use Rattle.ca_value.specs.View.{view, trees, vector_trees}
use Rattle.ca_term.specs.declared.place.Place.{Place}
use Rattle.ca_term.specs.declared.head.RegisterName.{RegisterName}
use Rattle.ca_term.specs.declared.head.SystemTask.{SystemTask}
use Rattle.ca_term.specs.declared.operation.Op.{Op}
use Rattle.ca_term.specs.declared.operation.What.{What}
use Rattle.ca_term.specs.declared.operation.Seed.{Seed}
use Rattle.ca_term.specs.declared.operation.Want.{Want}

-- what is made at a new port
pub data WhatView : Type 0 where
  unbuffered : WhatView
  fixed : ℕ → WhatView
  dropping : ℕ → WhatView
  sliding : ℕ → WhatView
  promise : WhatView
  timeout : ℕ → WhatView
  mult : Tree → WhatView
  mix : Tree → Tree → WhatView
  publication : Tree → WhatView

abbrev pub what_view : What → WhatView
what_view What.Unbuffered = unbuffered
what_view (What.Fixed n) = fixed n
what_view (What.Dropping n) = dropping n
what_view (What.Sliding n) = sliding n
what_view What.Promise = promise
what_view (What.Timeout n) = timeout n
what_view (What.Mult source) = mult (view source)
what_view (What.Mix out changes) = mix (view out) (view changes)
what_view (What.Pub source) = publication (view source)

-- what a new task is made from
pub data SeedView : Type 0 where
  -- the number of the body, the values, the result port and the place
  go : ℕ → Trees → ℕ → Place → SeedView
  system : SystemTask → Trees → Place → SeedView

abbrev pub seed_view : Seed → SeedView
seed_view (Seed.Go s) = go s.body (trees (list s.values)) s.result.n s.place
seed_view (Seed.System s) = system s.kind (trees (list s.values)) s.place

-- an operation with its values
pub data OpView : Type 0 where
  taking : Tree → OpView
  putting : Tree → Tree → OpView
  -- the ports, whether in order of priority, and the default
  choosing : Trees → Bool → Option Tree → OpView
  making : WhatView → OpView
  spawning : SeedView → OpView
  closing : Tree → OpView
  registering : RegisterName → Trees → OpView
  printing : List ℕ → OpView
  posting : Tree → Tree → OpView

abbrev pub op_view : Op → OpView
op_view (Op.Take c) = taking (view c)
op_view (Op.Put c v) = putting (view c) (view v)
op_view (Op.Alts ports priority default) = choosing (trees_of (vector_trees ports)) priority (option_map view default)
op_view (Op.Make what) = making (what_view what)
op_view (Op.Spawn seed) = spawning (seed_view seed)
op_view (Op.Close c) = closing (view c)
op_view (Op.Register name values) = registering name (trees (list values))
op_view (Op.Print line) = printing (list line)
op_view (Op.Post c v) = posting (view c) (view v)

-- an operation and its place
pub record WantView : Type 0 where
  pub op : OpView
  pub place : Place

abbrev pub want_view : Want → WantView
want_view w = record { op = op_view w.op; place = w.place }
