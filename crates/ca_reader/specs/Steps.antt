-- How a piece changes where a reading stands.
use Rattle.ca_term.specs.declared.place.Place.{Place}
use Rattle.ca_reader.specs.Form.{FormTree, FormTrees, form, atom, group, none, item}
use Rattle.ca_reader.specs.Pieces.{Piece, one, opener, closer}
use Rattle.ca_reader.specs.Reads.{Context, outside, inside}

abbrev pub with_last : FormTrees → FormTree → FormTrees
with_last none f = item f none
with_last (item g gs) f = item g (with_last gs f)

-- one more form
abbrev pub with_form : Context → FormTree → Context
with_form (outside fs) f = outside (with_last fs f)
with_form (inside c b p fs) f = inside c b p (with_last fs f)

-- the innermost bracket and its forms are one form of what is around them
abbrev pub bracket_shut : Context → Context
bracket_shut (outside fs) = outside fs
bracket_shut (inside c b p fs) = with_form c (form (group b fs) p)

-- behind a piece at p
abbrev pub next : Context → Piece → Place → Context
next c (one a) p = with_form c (form (atom a) p)
next c (opener b) p = inside c b p none
next c (closer b) p = bracket_shut c

abbrev pub innermost : Context → FormTrees
innermost (outside fs) = fs
innermost (inside c b p fs) = fs
