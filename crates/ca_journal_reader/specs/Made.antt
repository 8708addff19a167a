-- What a line says is made.
use Rattle.std.specs.Prelude.{ℕ, Option}
use Rattle.ca_term.specs.Operation.{WhatView, what_view}
use Rattle.ca_journal_reader.specs.declared.field.Made.{Made}

abbrev pub made_view : Made → WhatView × Option ℕ
made_view m = (what_view m.what, m.moment)
