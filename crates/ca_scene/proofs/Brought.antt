-- What a task's operation on a registry brings, as the registry needs it.
use Rattle.std.proofs.Common.{◌≡◌, ℕ, Option, Some, None, refl, sym, ap, ap₂, ◌∙◌, subst, option_map, Bool, true, ◌&&◌}
use Rattle.std.proofs.lemmas.Bool.{and_from}
use Rattle.ca_value.specs.IsValue.{any}
use Rattle.ca_value.specs.Tree.{Tree, Trees}
use Rattle.ca_term.specs.declared.head.RegisterName.{RegisterName}
use Rattle.ca_term.specs.declared.head.RegisterName.TheVariants.{Toggle, Place}
use Rattle.ca_term.specs.Operation.{OpView, WantView, registering}
use Rattle.ca_meaning.specs.Body.{At, local, at_op, ended, faulted, nowhere}
use Rattle.ca_meaning.specs.Going.{IsAtOp}
use Rattle.ca_meaning.specs.Operands.{rest_of}
use Rattle.ca_meaning.specs.RunValues.{BringsApart, Holds}
use Rattle.ca_meaning.specs.State.{State, Task, Mode, running, waiting, over}
use Rattle.ca_meaning.specs.Task.{body_at}
use Rattle.ca_meaning.proofs.ValuesApart.{brings_apart}
use Rattle.ca_meaning.specs.Refusal.{registering_gives}
use Rattle.ca_registry.specs.Gives.{gives_answer}
use Rattle.ca_registry.specs.Mixes.{TogglesApart}
use Rattle.ca_registry.specs.Needs.{keys_pass}
use Rattle.ca_registry.specs.Publications.{PlacesItself}
use Rattle.ca_scene.specs.Admits.{asked_by, asked_in, asks, op_of, registers, standing_of}
use Rattle.ca_scene.specs.Registering.{OpApart}
use Rattle.ca_scene.specs.Same.{same_items, same_name}
use Rattle.ca_scene.specs.Standing.{Shown, shown_at, shown_op, shown_end, shown_fault, elsewhere}
use Rattle.ca_scene.proofs.Asked.{no_some, runs_of, stands_of}
use Rattle.ca_scene.proofs.Sames.{items_true, same_name_true}

pub toggles_apart : (s : State) (name : RegisterName) (args rest : Trees) → rest ≡ rest_of args → BringsApart args → keys_pass s name rest ≡ true → TogglesApart name rest
toggles_apart s name args rest e b k = subst (TogglesApart name) (sym e) (by name (subst (λ (r : Trees). keys_pass s name r ≡ true) e k)) where
  by : (n : RegisterName) → keys_pass s n (rest_of args) ≡ true → TogglesApart n (rest_of args)
  by Toggle h = b.0 s h
  by n h = tt

pub places_itself : (name : RegisterName) (args rest : Trees) → rest ≡ rest_of args → BringsApart args → PlacesItself name rest
places_itself name args rest e b = subst (PlacesItself name) (sym e) (by name) where
  by : (n : RegisterName) → PlacesItself n (rest_of args)
  by Place = b.1
  by n = tt

module _ (s : State) (t : ℕ) (h : Holds any s) where
  brought : (x : Task) (op : OpView) → s.tasks t ≡ Some x → IsAtOp x.body op → OpApart op
  brought x (registering name args) there at = brings_apart any s t x name args h there at
  brought x op there at = tt

  at_want : (x : Task) (w : WantView) → s.tasks t ≡ Some x → body_at x.body ≡ at_op w → OpApart w.op
  at_want x w there e = brought x w.op there (w.place, e)

  -- of the operation that the task asks for
  pub asked_apart : (op : OpView) → asked_by (s.tasks t) ≡ Some op → OpApart op
  asked_apart op e = by (s.tasks t) refl e where
    at : (x : Task) → s.tasks t ≡ Some x → (a : At) → body_at x.body ≡ a → op_of a ≡ Some op → OpApart op
    at x there (at_op w) is k = subst OpApart (let j : w.op ≡ op = cc in j) (at_want x w there is)
    at x there local is k = no_some op k
    at x there (ended v) is k = no_some op k
    at x there (faulted f p) is k = no_some op k
    at x there nowhere is k = no_some op k

    mode : (x : Task) → s.tasks t ≡ Some x → (m : Mode) → asked_in m x.body ≡ Some op → OpApart op
    mode x there running k = at x there (body_at x.body) refl k
    mode x there (waiting w) k = no_some op k
    mode x there over k = no_some op k

    by : (o : Option Task) → s.tasks t ≡ o → asked_by o ≡ Some op → OpApart op
    by None there k = no_some op k
    by (Some x) there k = mode x there x.mode k

  -- and of the one that it is shown to stand at
  pub shown_apart : (w : WantView) → Some (shown_op w) ≡ option_map shown_at (standing_of (s.tasks t)) → OpApart w.op
  shown_apart w e = by (standing_of (s.tasks t)) refl e where
    at : (a : At) → standing_of (s.tasks t) ≡ Some a → shown_op w ≡ shown_at a → OpApart w.op
    at (at_op v) is k = let r = runs_of s t (at_op v) is in subst (λ (u : WantView). OpApart u.op) (let j : v ≡ w = cc in j) (at_want r.0 v r.1.0 r.2)
    at local is k = absurd cc
    at (ended v) is k = absurd cc
    at (faulted f p) is k = absurd cc
    at nowhere is k = absurd cc

    by : (o : Option At) → standing_of (s.tasks t) ≡ o → Some (shown_op w) ≡ option_map shown_at o → OpApart w.op
    by None is k = absurd cc
    by (Some a) is k = at a is (let j : shown_op w ≡ shown_at a = cc in j)

  -- of the operation at which it doesn't fault
  pub wanted_apart : (op : OpView) → asks s t ≡ Some op → OpApart op
  wanted_apart op e = let st = stands_of s t op e in brought st.0 op st.1.0 st.1.2

-- the test of a Register, where the operation asks for it
pub registered_so : (s : State) (t : ℕ) (name n : RegisterName) (args vs : Trees) (v : Tree) (b : Bool) → asks s t ≡ Some (registering n vs) → same_name name n ≡ true → same_items args vs ≡ true → gives_answer v (registering_gives s n vs) ≡ b → registers name args (asks s t) && gives_answer v (registering_gives s name args) ≡ b
registered_so s t name n args vs v b e sn si g =
    ap (λ (c : Bool). c && gives_answer v (registering_gives s name args)) (ap (registers name args) e ∙ and_from (same_name name n) (same_items args vs) sn si)
    ∙ ap₂ (λ (m : RegisterName) (us : Trees). gives_answer v (registering_gives s m us)) (same_name_true name n sn) (items_true args vs si) ∙ g
