-- The waits of a scene, by number.
use Rattle.std.proofs.Common.{◌≡◌, ℕ, zero, suc, List, [], ◌∷◌, ◌++◌, refl, sym, ap, ◌∙◌, subst, Option, Some, None, option_map, is_some, Bool, true, false, not, cond, eqb, eqb-true, eq-eqb, nat_eq, map, if◌then◌else◌}
use Rattle.std.specs.Map.{lookup, keys_of}
use Rattle.std.specs.List.{IsDistinct, AllByRecursion}
use Rattle.ca_meaning.specs.Wait.{Wait, owner_of, is_among, without}
use Rattle.ca_scene.specs.declared.scene.Waiting.{Waiting}
use Rattle.indexmap.specs.IndexMap.{get, insert_entry}
use Rattle.ca_value.specs.Seq.{list}
use Rattle.ca_term.specs.Event.{branch_view}
use Rattle.ca_scene.specs.declared.scene.Scene.{Scene}
use Rattle.ca_scene.specs.Admits.{can_wake, owner_waits, is_new}
use Rattle.ca_scene.specs.Scene.{scene_state, IsScene, wait_or, waits_in, used_from, owner_in}

abbrev Entries : Type 0
Entries = List (ℕ × Option Waiting)

-- the number is given where its entry is there
pub among_there : (w : ℕ) (es : Entries) (ns : List ℕ) → is_among w (used_from ns es) ≡ cond (is_some (lookup (eqb w) es)) true (is_among w ns)
among_there w [] ns = refl
among_there w (e ∷ es) ns = among_there w es (e.0 ∷ ns) ∙ by (eqb w e.0) (lookup (eqb w) es) where
  by : (b : Bool) (o : Option (Option Waiting)) → cond (is_some o) true (cond b true (is_among w ns)) ≡ cond (is_some (cond b (Some e.1) o)) true (is_among w ns)
  by true (Some x) = refl
  by true None = refl
  by false o = refl

pub given_there : (w : ℕ) (es : Entries) → is_among w (used_from [] es) ≡ is_some (lookup (eqb w) es)
given_there w es = among_there w es [] ∙ by (is_some (lookup (eqb w) es)) where
  by : (b : Bool) → cond b true false ≡ b
  by true = refl
  by false = refl

-- a number that comes first stands no more after it
absent : (k : ℕ) (es : Entries) → AllByRecursion (λ y. eqb k y ≡ false) (keys_of es) → lookup (eqb k) es ≡ None
absent k [] a = refl
absent k (e ∷ es) a = ap (λ b. cond b (Some e.1) (lookup (eqb k) es)) a.0 ∙ absent k es a.1

pub tail_distinct : (e : ℕ × Option Waiting) (es : Entries) → IsDistinct eqb (keys_of (e ∷ es)) → IsDistinct eqb (keys_of es)
unfolding IsDistinct
tail_distinct e es d = d.1

pub head_absent : (e : ℕ × Option Waiting) (es : Entries) → IsDistinct eqb (keys_of (e ∷ es)) → lookup (eqb e.0) es ≡ None
unfolding IsDistinct
head_absent e es d = absent e.0 es d.0

pub owner_there : (w : ℕ) (es : Entries) → IsDistinct eqb (keys_of es) → owner_of w (waits_in es) ≡ owner_in (lookup (eqb w) es)
owner_there w [] d = refl
owner_there w (e ∷ es) d = by e.1 (eqb w e.0) refl (owner_there w es (tail_distinct e es d)) where
  by : (o : Option Waiting) (b : Bool) → eqb w e.0 ≡ b → owner_of w (waits_in es) ≡ owner_in (lookup (eqb w) es) → owner_of w (wait_or e.0 o (waits_in es)) ≡ owner_in (cond b (Some o) (lookup (eqb w) es))
  by (Some x) true is ih = ap (λ c. cond c x.owner (owner_of w (waits_in es))) is
  by (Some x) false is ih = ap (λ c. cond c x.owner (owner_of w (waits_in es))) is ∙ ih
  by None true is ih = ih ∙ ap (λ n. owner_in (lookup (eqb n) es)) (eqb-true w e.0 is) ∙ ap owner_in (head_absent e es d)
  by None false is ih = ih

module _ (s : Scene) (w : ℕ) where
  pub owner_seen : IsScene s → can_wake (scene_state s) w ≡ owner_waits (scene_state s) w (owner_in (get nat_eq s.waits w))
  owner_seen scene = ap (owner_waits (scene_state s) w) (owner_there w s.waits.entries scene.distinct)

  pub new_seen : is_new (scene_state s) w ≡ not (is_some (get nat_eq s.waits w))
  new_seen = ap not (given_there w s.waits.entries)

-- a new wait comes last
pub waits_joined : (es : Entries) (w : ℕ) (x : Waiting) → waits_in (es ++ (w, Some x) ∷ []) ≡ waits_in es ++ record { number = w; owner = x.owner; branches = map branch_view (list x.branches) } ∷ []
waits_joined [] w x = refl
waits_joined (e ∷ es) w x = by e.1 (waits_joined es w x) where
  by : (o : Option Waiting) → waits_in (es ++ (w, Some x) ∷ []) ≡ waits_in es ++ record { number = w; owner = x.owner; branches = map branch_view (list x.branches) } ∷ []
      → wait_or e.0 o (waits_in (es ++ (w, Some x) ∷ [])) ≡ wait_or e.0 o (waits_in es) ++ record { number = w; owner = x.owner; branches = map branch_view (list x.branches) } ∷ []
  by None ih = ih
  by (Some y) ih = ap (λ (l : List Wait). record { number = e.0; owner = y.owner; branches = map branch_view (list y.branches) } ∷ l) ih

pub used_joined : (es : Entries) (w : ℕ) (o : Option Waiting) (ns : List ℕ) → used_from ns (es ++ (w, o) ∷ []) ≡ w ∷ used_from ns es
used_joined [] w o ns = refl
used_joined (e ∷ es) w o ns = used_joined es w o (e.0 ∷ ns)

-- a wait that isn't there is taken out without change
without_absent : (w : ℕ) (es : Entries) → lookup (eqb w) es ≡ None → without w (waits_in es) ≡ waits_in es
without_absent w [] e = refl
without_absent w (x ∷ es) e = by x.1 (eqb w x.0) refl e (λ f. without_absent w es f) where
  by : (o : Option Waiting) (b : Bool) → eqb w x.0 ≡ b → cond b (Some x.1) (lookup (eqb w) es) ≡ None → (lookup (eqb w) es ≡ None → without w (waits_in es) ≡ waits_in es) → without w (wait_or x.0 o (waits_in es)) ≡ wait_or x.0 o (waits_in es)
  by o true is e more = absurd (let k : Some x.1 ≡ None = e in cc)
  by None false is e more = more e
  by (Some y) false is e more = ap (λ c. cond (not c) (wait_or x.0 (Some y) (without w (waits_in es))) (without w (waits_in es))) is ∙ ap (λ (l : List Wait). wait_or x.0 (Some y) l) (more e)

-- a wait that is gone
pub waits_gone : (w : ℕ) (es : Entries) → IsDistinct eqb (keys_of es) → waits_in (insert_entry eqb es w None) ≡ without w (waits_in es)
waits_gone w [] d = refl
waits_gone w (x ∷ es) d = by x.1 (eqb w x.0) refl (waits_gone w es (tail_distinct x es d)) where
  rest : eqb w x.0 ≡ true → waits_in es ≡ without w (waits_in es)
  rest is = sym (without_absent w es (ap (λ n. lookup (eqb n) es) (eqb-true w x.0 is) ∙ head_absent x es d))

  by : (o : Option Waiting) (b : Bool) → eqb w x.0 ≡ b → waits_in (insert_entry eqb es w None) ≡ without w (waits_in es)
      → waits_in (if b then (x.0, None) ∷ es else (x.0, o) ∷ insert_entry eqb es w None) ≡ without w (wait_or x.0 o (waits_in es))
  by None true is ih = rest is
  by (Some y) true is ih = rest is ∙ sym (ap (λ c. cond (not c) (wait_or x.0 (Some y) (without w (waits_in es))) (without w (waits_in es))) is)
  by None false is ih = ih
  by (Some y) false is ih = ap (λ (l : List Wait). wait_or x.0 (Some y) l) ih ∙ sym (ap (λ c. cond (not c) (wait_or x.0 (Some y) (without w (waits_in es))) (without w (waits_in es))) is)

pub used_gone : (w : ℕ) (es : Entries) (o : Option Waiting) (ns : List ℕ) → lookup (eqb w) es ≡ Some o → used_from ns (insert_entry eqb es w None) ≡ used_from ns es
used_gone w [] o ns e = absurd (let k : None ≡ Some o = e in cc)
used_gone w (x ∷ es) o ns e = by (eqb w x.0) e (λ f. used_gone w es o (x.0 ∷ ns) f) where
  by : (b : Bool) → cond b (Some x.1) (lookup (eqb w) es) ≡ Some o → (lookup (eqb w) es ≡ Some o → used_from (x.0 ∷ ns) (insert_entry eqb es w None) ≡ used_from (x.0 ∷ ns) es)
      → used_from ns (if b then (x.0, None) ∷ es else x ∷ insert_entry eqb es w None) ≡ used_from (x.0 ∷ ns) es
  by true e more = refl
  by false e more = more e
