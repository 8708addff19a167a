-- What a walk makes of a go block, and what stands behind its body, as a term.
use Rattle.std.specs.Prelude.{ℕ, suc, List, [], ◌∷◌, ◌++◌, Bool, true, false, slice_set}
use Rattle.ca_value.specs.Tree.{nil}
use Rattle.ca_value.specs.declared.builtin.Builtin.TheVariants.{IsNil}
use Rattle.ca_term.specs.declared.place.Place.{Place}
use Rattle.ca_term.specs.declared.head.Head.TheVariants.{Builtin, Close, Post}
use Rattle.ca_term.specs.Kernel.{Kernel, const, var, branch, bind, seq, apply, empty, binding}
use Rattle.ca_term.specs.View.{kernels_of}
use Rattle.ca_forms.specs.Binders.{Part}
use Rattle.ca_forms.specs.Go.{unmade, go_spawned}
use Rattle.ca_forms.specs.Meaning.{Meaning, block}
use Rattle.ca_forms.specs.Outcome.{Gathered, WalkOutcome, done, after_walk, limited}
use Rattle.ca_forms.specs.Plain.{meanings, row_loop}
use Rattle.ca_forms.specs.Uses.{uses}

-- (if (nil? h) nil <Post r h>) <Close r>, the number of h being the one behind r
abbrev pub ending : ℕ → Place → Kernel
ending r p = seq (kernels_of (
    branch (apply (Builtin IsNil) (kernels_of (var (suc r) ∷ [])) p) (const nil) (apply Post (kernels_of (var r ∷ var (suc r) ∷ [])) p)
    ∷ apply Close (kernels_of (var r ∷ [])) p ∷ []))

-- a go body is held a number before it is walked
abbrev pub go_body_held : Gathered → Gathered
go_body_held s = record s { bodies = s.bodies ++ unmade ∷ [] }

-- the go block of that number, once its body, the term t, was walked behind the result port r
abbrev pub go_finished : Kernel → ℕ → ℕ → Place → Gathered → WalkOutcome Kernel
go_finished t number r p s = after_walk (limited (bind (binding (suc r) t empty) (ending r p)) s) (λ u s2.
    let captured : List ℕ = uses r u [] in
    done (go_spawned number r captured p) (record s2 { bodies = slice_set s2.bodies number (record { parameters = captured ++ r ∷ []; body = u }) }))

-- the body of a `go`, or of a `go-loop`
abbrev pub go_form_body : Bool → Place → List Part → Meaning
go_form_body true p ps = block (row_loop p ps ∷ [])
go_form_body false p ps = block (meanings ps)
