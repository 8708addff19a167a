-- The program of a script's forms, or the first error in them with its place.
use Rattle.std.specs.Prelude.{◌≡◌, ℕ, suc, [], length, cond, false, codes, Bool, Result, Ok, Err, nat_lt}
use Rattle.std.specs.Str.{bytes_eq}
use Rattle.ca_value.specs.Tree.{nil}
use Rattle.ca_term.specs.declared.place.Place.{Place}
use Rattle.ca_term.specs.Kernel.{const, bind, empty}
use Rattle.ca_term.specs.Program.{ProgramView}
use Rattle.ca_reader.specs.declared.form.Bracket.TheVariants.{Round}
use Rattle.ca_reader.specs.Form.{FormTree, FormTrees, form, atom, group, symbol, none, item, form_place}
use Rattle.ca_forms.specs.declared.error.CheckError.{CheckError}
use Rattle.ca_forms.specs.declared.error.CheckError.TheVariants.{Fault, OutOfMemory}
use Rattle.ca_forms.specs.declared.error.CheckErrorKind.{CheckErrorKind}
use Rattle.ca_forms.specs.declared.error.CheckErrorKind.TheVariants.{TooMany}
use Rattle.ca_forms.specs.Outcome.{Gathered, WalkOutcome, done, refused}
use Rattle.ca_forms.specs.Tops.{Tops, Ended, top, one_top, is_past, list_parts}

-- the forms from number i on
abbrev pub tops : ℕ → FormTrees → Tops → Gathered → WalkOutcome Ended
tops i none t s = done (record { bindings = empty; tops = t }) s
tops i (item f fs) t s = cond (is_past i f t) (refused TooMany (form_place f))
    (one_top (top f) (form_place f) (λ t s. tops (suc i) fs t s) t s)

-- a list headed by `ns`
abbrev pub is_namespace : FormTree → Bool
is_namespace (form (group Round (item (form (atom (symbol s)) q) fs)) p) = bytes_eq s (codes "ns")
is_namespace (form s p) = false

-- A first form that is a list headed by `ns` is passed over; it counts as a form, and its items are counted.
abbrev pub script_tops : FormTrees → Tops → Gathered → WalkOutcome Ended
script_tops none t s = tops 0 none t s
script_tops (item f fs) t s = cond (is_namespace f)
    (cond (nat_lt 4096 (length (list_parts f))) (refused TooMany (form_place f)) (tops 1 fs t s))
    (tops 0 (item f fs) t s)

-- functions, go bodies, and the Let of the main text
abbrev pub program_of : WalkOutcome Ended → Result ProgramView (CheckErrorKind × Place)
program_of (refused e p) = Err (e, p)
program_of (done r s) = Ok (record { functions = r.tops.procedures; bodies = s.bodies; main = bind r.bindings (const nil) })

abbrev pub expansion_of : FormTrees → Result ProgramView (CheckErrorKind × Place)
expansion_of fs = program_of (script_tops fs (record { scope = []; functions = []; procedures = []; defined = 0 }) (record { bodies = []; deep = false }))

-- the error is the first one of these forms, or want of memory
abbrev pub RefusesForms : CheckError → FormTrees → Type 0
RefusesForms (Fault k p) fs = expansion_of fs ≡ Err (k, p)
RefusesForms OutOfMemory fs = Unit {0}
