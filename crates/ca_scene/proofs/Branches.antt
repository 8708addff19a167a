-- The branches of an operation, by their places.
use Rattle.std.proofs.Common.{◌≡◌, ◌≢◌, ap₂, option_map, ◌&&◌, ◌<◌, ◌≤◌, arith, length, get_or, ℕ, zero, suc, List, [], ◌∷◌, refl, sym, ap, ◌∙◌, Option, Some, None, option_map, slice_get, map, take, Bool, true, false, cond}
use Rattle.ca_value.specs.View.{view, trees}
use Rattle.ca_value.specs.declared.value.Value.{Value}
use Rattle.ca_term.specs.Event.{BranchView, branch_view}
use Rattle.ca_term.specs.declared.event.Branch.{Branch}
use Rattle.ca_term.specs.declared.event.Side.TheVariants.{Take, Put}
use Rattle.ca_meaning.specs.Row.{settle_row}
use Rattle.ca_meaning.specs.Wait.{Handler, head, front}
use Rattle.ca_scene.specs.declared.room.Room.{Room}
use Rattle.ca_scene.specs.declared.scene.Scene.{Scene}
use Rattle.ca_scene.specs.Scene.{scene_state, waits_in, room_at, room_channel, room_queue, IsScene}
use Rattle.ca_scene.proofs.Queues.{front_there}
use Rattle.ca_scene.specs.Same.{same_branch, same_branches}
use Rattle.ca_meaning.specs.Operands.{values_in}
use Rattle.ca_meaning.specs.Choice.{branch_of, row, is_ready, any_ready}
use Rattle.ca_meaning.specs.State.{State}
use Rattle.ca_scene.specs.Admits.{ready_before, settling_at, settling_in}

pub branch_there : (vs : List Value) (k : ℕ) (d : Value) → k < length vs → Some (branch_of (view (get_or vs k d))) ≡ slice_get (map branch_of (values_in (trees vs))) k
branch_there [] k d e = absurd (omega (arith, e))
branch_there (a ∷ vs) zero d e = refl
branch_there (a ∷ vs) (suc k) d e = branch_there vs k d (omega (arith, e))

pub branch_past : (vs : List Value) (k : ℕ) → length vs ≤ k → None ≡ slice_get (map branch_of (values_in (trees vs))) k
branch_past [] k e = refl
branch_past (a ∷ vs) zero e = absurd (omega (arith, e))
branch_past (a ∷ vs) (suc k) e = branch_past vs k (omega (arith, e))

abbrev branches : List Value → List BranchView
branches vs = map branch_of (values_in (trees vs))

pub before_taken : (s : State) (vs : List Value) (k : ℕ) → ready_before s k (branches vs) ≡ any_ready s (branches (take k vs))
before_taken s [] zero = refl
before_taken s [] (suc k) = refl
before_taken s (v ∷ vs) zero = refl
before_taken s (v ∷ vs) (suc k) = ap (λ (b : Bool). cond (is_ready (row s (branch_of (view v)))) true b) (before_taken s vs k)

pub before_all : (s : State) (vs : List Value) (k : ℕ) → length vs ≤ k → ready_before s k (branches vs) ≡ any_ready s (branches vs)
before_all s [] zero h = refl
before_all s [] (suc k) h = refl
before_all s (v ∷ vs) zero h = absurd (omega (arith, h))
before_all s (v ∷ vs) (suc k) h = ap (λ (b : Bool). cond (is_ready (row s (branch_of (view v)))) true b) (before_all s vs k (omega (arith, h)))

and_last : (b : Bool) → b && true ≡ b
and_last true = refl
and_last false = refl

and_none : (b : Bool) → b && false ≡ false
and_none true = refl
and_none false = refl

abbrev events : List Branch → List BranchView
events bs = map branch_view bs

pub lengths_differ : (bs : List Branch) (vs : List Value) → length bs ≢ length vs → same_branches (events bs) (branches vs) ≡ false
lengths_differ [] [] h = absurd (h refl)
lengths_differ [] (v ∷ vs) h = refl
lengths_differ (b ∷ bs) [] h = refl
lengths_differ (b ∷ bs) (v ∷ vs) h = ap (λ (x : Bool). same_branch (branch_view b) (branch_of (view v)) && x) (lengths_differ bs vs (λ e. h (ap suc e))) ∙ and_none (same_branch (branch_view b) (branch_of (view v)))

pub not_one : (bs : List Branch) (c : BranchView) → length bs ≢ 1 → same_branches (events bs) (c ∷ []) ≡ false
not_one [] c h = refl
not_one (b ∷ []) c h = absurd (h refl)
not_one (b ∷ a ∷ bs) c h = and_none (same_branch (branch_view b) c)

pub just_one : (bs : List Branch) (d : Branch) (c : BranchView) → length bs ≡ 1 → same_branches (events bs) (c ∷ []) ≡ same_branch (branch_view (get_or bs 0 d)) c
just_one [] d c h = absurd (let k : 0 ≡ 1 = h in cc)
just_one (b ∷ []) d c h = and_last (same_branch (branch_view b) c)
just_one (b ∷ a ∷ bs) d c h = absurd (let k : suc (suc (length bs)) ≡ 1 = h in omega (arith, k))

pub settling_there : (s : Scene) (scene : IsScene s) (p : ℕ) (r : Room) → room_at s p ≡ Some r → settling_at (scene_state s) p ≡ settle_row (room_channel r) (head (room_queue Take r)) (head (room_queue Put r))
settling_there s scene p r e =
    ap (λ o. settling_in (option_map room_channel o) (front Take p (waits_in s.waits.entries)) (front Put p (waits_in s.waits.entries))) e
    ∙ ap₂ (λ (a b : Option Handler). settle_row (room_channel r) a b) (front_there s scene p Take r e) (front_there s scene p Put r e)

pub none_same : (bs : List Branch) → length bs ≤ 0 → same_branches (events bs) [] ≡ true
none_same [] h = refl
none_same (x ∷ bs) h = absurd (omega (arith, h))

pub some_same : (bs : List Branch) → 0 < length bs → same_branches (events bs) [] ≡ false
some_same [] h = absurd (omega (arith, h))
some_same (x ∷ bs) h = refl
