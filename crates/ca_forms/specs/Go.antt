-- The go block: (let [r <Make chan fixed 1>] <Spawn> r). Its body is a text of its own, whose last parameter is
-- the result port r: (let [h (do e ..)] (if (nil? h) nil <Post r h>) <Close r>).
use Rattle.std.specs.Prelude.{ℕ, suc, pos, List, [], ◌∷◌, ◌++◌, length, map, None, slice_set}
use Rattle.ca_value.specs.Tree.{nil, int}
use Rattle.ca_value.specs.declared.builtin.Builtin.TheVariants.{IsNil}
use Rattle.ca_term.specs.declared.place.Place.{Place}
use Rattle.ca_term.specs.declared.head.Head.TheVariants.{Builtin, Make, Spawn, Close, Post}
use Rattle.ca_term.specs.declared.head.MakeKind.TheVariants.{Fixed}
use Rattle.ca_term.specs.declared.head.SeedKind.{SeedKind}
use Rattle.ca_term.specs.Kernel.{Kernel, const, var, bind, seq, apply, none, item, empty, binding}
use Rattle.ca_term.specs.Program.{ProcedureView}
use Rattle.ca_term.specs.View.{kernels_of}
use Rattle.ca_forms.specs.declared.context.Context.TheVariants.{Go}
use Rattle.ca_forms.specs.Outcome.{after_walk, done}
use Rattle.ca_forms.specs.Uses.{uses}
use Rattle.ca_forms.specs.Meaning.{Env, Meaning, size, behind_name, nothing, local_name, iff, operation, block, name_as}

-- the task's text, over the result port r; the next number is that of h
abbrev pub task : Meaning → ℕ → Place → Meaning
task body r p = name_as [] body (block (
    iff (operation (Builtin IsNil) (local_name (suc r) ∷ []) p) nothing (operation Post (local_name r ∷ local_name (suc r) ∷ []) p)
    ∷ operation Close (local_name r ∷ []) p ∷ []))

-- within the go body: the result port is a hidden name, and no `recur` goes back out
abbrev pub in_task : Env → Env
in_task env = record (behind_name [] env) { target = None; context = Go }

-- what stands in place of a go body until it is made: bodies are numbered in order of text
abbrev pub unmade : ProcedureView
unmade = record { parameters = []; body = const nil }

-- the go block whose body has that number, in a scope of r names, with the names that the body uses from outside
abbrev pub go_spawned : ℕ → ℕ → List ℕ → Place → Kernel
go_spawned number r captured p = bind (binding r (apply (Make Fixed) (item (const (int (pos 1))) none) p) empty)
    (seq (item (apply (Spawn (SeedKind.Go number)) (kernels_of (map var (captured ++ r ∷ []))) p) (item (var r) none)))

-- The names that the body uses from outside are its first parameters, in order of first use.
abbrev pub go_meaning : Meaning → Place → Meaning
go_meaning body p env s = after_walk (task body (size env) p (in_task env) (record s { bodies = s.bodies ++ unmade ∷ [] })) (λ t s2.
    let captured : List ℕ = uses (size env) t [] in
    done (go_spawned (length s.bodies) (size env) captured p)
    (record s2 { bodies = slice_set s2.bodies (length s.bodies) (record { parameters = captured ++ size env ∷ []; body = t }) }))
