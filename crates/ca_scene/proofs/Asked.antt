-- What a task asks for, by the test and by the relation; and each test of an operation.
use Rattle.std.proofs.Common.{◌≡◌, ℕ, List, [], ◌∷◌, refl, sym, ap, ap₂, ◌∙◌, subst, Option, Some, None, Bool, true, false, not, ◌&&◌, cond, eqb, eqb-true, eq-eqb}
use Rattle.std.proofs.lemmas.Bool.{and_parts, and_from, leb-true, le-leb, ltb-true, lt-ltb}
use Rattle.std.proofs.lemmas.Slice.Eq.{bytes_eq-Decides}
use Rattle.std.specs.Str.{bytes_eq}
use Rattle.ca_value.specs.Tree.{Tree, Trees, nil, bool, int, text, key, vector, map, port}
use Rattle.ca_term.specs.declared.fault.Fault.{Fault}
use Rattle.ca_term.specs.declared.place.Place.{Place}
use Rattle.ca_term.specs.declared.event.TaskKind.{TaskKind}
use Rattle.ca_term.specs.declared.head.RegisterName.{RegisterName}
use Rattle.ca_term.specs.Operation.{OpView, WantView, SeedView, WhatView, taking, putting, choosing, making, spawning, closing, registering, printing, posting}
use Rattle.ca_meaning.specs.Body.{At, local, at_op, ended, faulted, nowhere}
use Rattle.ca_meaning.specs.Task.{TaskBody, body_at}
use Rattle.ca_meaning.specs.State.{State, Task, Mode, running, waiting, over}
use Rattle.ca_meaning.specs.Going.{Runs, IsAtOp, RunsAtOperation}
use Rattle.ca_meaning.specs.Refusal.{refusal}
use Rattle.ca_scene.specs.Same.{same, same_items, same_what, same_name}
use Rattle.ca_scene.specs.Admits.{op_of, asked_in, asked_by, unless_fault, not_refused, asks, prints, is_port_value, operation_closes, posts, operation_makes, seeds, spawns, registers, standing_in, standing_of, is_ended}
use Rattle.ca_scene.proofs.Sames.{never, same_true, items_true, same_what_true, same_name_true}

pub no_some : {A G : Type 0} (x : A) → None ≡ Some x → G
no_some x e = absurd (let k : None ≡ Some x = e in cc)

-- who stands at an operation asks for it
pub asks_of : (s : State) (t : ℕ) (op : OpView) (x : Task) → RunsAtOperation s t op x → asks s t ≡ Some op
asks_of s t op x st =
    ap (λ o. not_refused s (asked_by o)) st.0 ∙ ap (λ m. not_refused s (asked_in m x.body)) st.1
    ∙ ap (λ a. not_refused s (op_of a)) st.2.1 ∙ ap (λ f. unless_fault f op) st.3

stands_by : (s : State) (t : ℕ) (op : OpView) (x : Task) → s.tasks t ≡ Some x → x.mode ≡ running → (a : At) → body_at x.body ≡ a → not_refused s (op_of a) ≡ Some op → (y : Task) × RunsAtOperation s t op y
stands_by s t op x is m (at_op w) at e = by (refusal s w.op) refl e where
  by : (f : Option Fault) → refusal s w.op ≡ f → unless_fault f w.op ≡ Some op → (y : Task) × RunsAtOperation s t op y
  by None r e = let k : w.op ≡ op = cc in (x, (is, m, (w.place, at ∙ ap (λ o. at_op (record { op = o; place = w.place })) k), subst (λ o. refusal s o ≡ None) k r))
  by (Some f) r e = no_some op e
stands_by s t op x is m local at e = no_some op e
stands_by s t op x is m (ended v) at e = no_some op e
stands_by s t op x is m (faulted f p) at e = no_some op e
stands_by s t op x is m nowhere at e = no_some op e

stands_in : (s : State) (t : ℕ) (op : OpView) (x : Task) → s.tasks t ≡ Some x → (m : Mode) → x.mode ≡ m → not_refused s (asked_in m x.body) ≡ Some op → (y : Task) × RunsAtOperation s t op y
stands_in s t op x is running m e = stands_by s t op x is m (body_at x.body) refl e
stands_in s t op x is (waiting w) m e = no_some op e
stands_in s t op x is over m e = no_some op e

-- who asks for an operation stands at it
pub stands_of : (s : State) (t : ℕ) (op : OpView) → asks s t ≡ Some op → (x : Task) × RunsAtOperation s t op x
stands_of s t op e = by (s.tasks t) refl e where
  by : (o : Option Task) → s.tasks t ≡ o → not_refused s (asked_by o) ≡ Some op → (x : Task) × RunsAtOperation s t op x
  by None is e = no_some op e
  by (Some x) is e = stands_in s t op x is x.mode refl e

-- a task that runs, and where it stands
pub runs_of : (s : State) (t : ℕ) (a : At) → standing_of (s.tasks t) ≡ Some a → (x : Task) × Runs s.tasks t x × (body_at x.body ≡ a)
runs_of s t a e = by (s.tasks t) refl e where
  mode : (x : Task) → s.tasks t ≡ Some x → (m : Mode) → x.mode ≡ m → standing_in m x.body ≡ Some a → (x : Task) × Runs s.tasks t x × (body_at x.body ≡ a)
  mode x is running m e = (x, (is, m), let k : body_at x.body ≡ a = cc in k)
  mode x is (waiting w) m e = no_some a e
  mode x is over m e = no_some a e

  by : (o : Option Task) → s.tasks t ≡ o → standing_of o ≡ Some a → (x : Task) × Runs s.tasks t x × (body_at x.body ≡ a)
  by None is e = no_some a e
  by (Some x) is e = mode x is x.mode refl e

pub standing_is : (s : State) (t : ℕ) (x : Task) → Runs s.tasks t x → standing_of (s.tasks t) ≡ Some (body_at x.body)
standing_is s t x r = ap standing_of r.0 ∙ ap (λ m. standing_in m x.body) r.1

pub port_is : (p : ℕ) (v : Tree) → is_port_value p v ≡ true → v ≡ port p
port_is p (port q) e = ap port (sym (eqb-true p q e))
port_is p v e = never e

pub prints_is : (line : List ℕ) (o : Option OpView) → prints line o ≡ true → o ≡ Some (printing line)
prints_is line (Some (printing l)) e = ap (λ z. Some (printing z)) (sym ((bytes_eq-Decides line l).0 e))
prints_is line o e = never e

pub closes_is : (p : ℕ) (o : Option OpView) → operation_closes p o ≡ true → o ≡ Some (closing (port p))
closes_is p (Some (closing c)) e = ap (λ z. Some (closing z)) (port_is p c e)
closes_is p o e = never e

pub posts_is : (p : ℕ) (v : Tree) (o : Option OpView) → posts p v o ≡ true → o ≡ Some (posting (port p) v)
posts_is p v (Some (posting c u)) e = let k = and_parts (is_port_value p c) (same v u) e in ap₂ (λ (y z : Tree). Some (posting y z)) (port_is p c k.0) (sym (same_true v u k.1))
posts_is p v o e = never e

pub makes_is : (what : WhatView) (o : Option OpView) → operation_makes what o ≡ true → o ≡ Some (making what)
makes_is what (Some (making w)) e = ap (λ z. Some (making z)) (sym (same_what_true what w e))
makes_is what o e = never e

pub registers_is : (name : RegisterName) (args : Trees) (o : Option OpView) → registers name args o ≡ true → o ≡ Some (registering name args)
registers_is name args (Some (registering n vs)) e = let k = and_parts (same_name name n) (same_items args vs) e in ap₂ (λ (y : RegisterName) (z : Trees). Some (registering y z)) (sym (same_name_true name n k.0)) (sym (items_true args vs k.1))
registers_is name args o e = never e

pub spawns_is : (kind : TaskKind) (result : Option ℕ) (o : Option OpView) → spawns kind result o ≡ true → (seed : SeedView) × (o ≡ Some (spawning seed)) × (seeds kind result seed ≡ true)
spawns_is kind result (Some (spawning seed)) e = (seed, refl, e)
spawns_is kind result o e = never e

pub ended_is : (o : Option At) → is_ended o ≡ true → (v : Tree) × (o ≡ Some (ended v))
ended_is (Some (ended v)) e = (v, refl)
ended_is o e = never e
