-- A channel that settles where it lies, and a stale handler that is pruned there.
use Rattle.std.proofs.Common.{◌≡◌, ℕ, List, Option, None, Some, Bool, true, false, sym, ap, ◌∙◌, subst, eqb, eqb-true, option_map, refl, slice_get}
use Rattle.std.proofs.lemmas.Bool.{eqb-false}
use Rattle.ca_value.specs.Tree.{Tree}
use Rattle.ca_term.specs.Program.{ProgramView}
use Rattle.ca_meaning.specs.Body.{At}
use Rattle.ca_meaning.specs.Wait.{told}
use Rattle.ca_bank.specs.Bank.{kept_at}
use Rattle.ca_bank.specs.Kept.{pruned, queue_at}
use Rattle.ca_commit.specs.Agents.{TaskAgent, place_of, wakes_of}
use Rattle.ca_commit.specs.ChannelMoves.{MovesSettle}
use Rattle.ca_commit.specs.Contents.{Kept, Parked, whole}
use Rattle.ca_commit.specs.Finding.{glance, gone, here, serves, settle_at}
use Rattle.ca_commit.specs.Listing.{changed_at}
use Rattle.ca_commit.specs.Moves.{Becomes, Stays}
use Rattle.ca_commit.specs.PlacesSettled.{PruneApplies, SettleApplies, StaleServed}
use Rattle.ca_commit.specs.ServesSeen.{front_with}
use Rattle.ca_commit.specs.Settling.{settle_change, value_settled}
use Rattle.ca_commit.specs.Showing.{waits_of}
use Rattle.ca_commit.specs.SilentMoves.{MovesPrune}
use Rattle.ca_commit.specs.Tasks.{tasks_in}
use Rattle.ca_commit.specs.Waking.{WakesBy}
use Rattle.ca_commit.proofs.EventMoves.{prune_moves}
use Rattle.ca_commit.proofs.PlacesApplied.{turned}
use Rattle.ca_commit.proofs.PlainPlans.{glanced, lives_here, not_here, shows_at}
use Rattle.ca_commit.proofs.SettleMoves.{settle_moves}
use Rattle.ca_commit.proofs.Stales.{settle_stale}

-- where the one that changes stays, all stay
all_stay : {X : Type 0} (m m2 : ℕ → Option X) (w : ℕ) (x y : X) → Becomes m m2 w x y → m2 w ≡ m w → Stays m m2
all_stay m m2 w x y b e i = by (eqb w i) refl where
  by : (c : Bool) → eqb w i ≡ c → m2 i ≡ m i
  by true h = subst (λ (n : ℕ). m2 n ≡ m n) (eqb-true w i h) e
  by false h = b.others i (λ g. eqb-false w i h (sym g))

pub settle_applies : {A : Type 0} (place : A → At) (advances : ProgramView → A → A → Type 0) (gives : A → Tree → A → Type 0) → SettleApplies place gives
settle_applies {A} place advances gives old new w p side q bank bank2 shard shard2 ready ready2 served lives banked sharded readied turns sets wakes lanes registries timers =
    let shown : whole old.bank p ≡ kept_at bank p = shows_at old.bank p (kept_at bank) banked.was in
    let asked : here ≡ glance old.shard q.wait.n = glanced old q.wait.n (waits_of shard) here sharded.was (lives_here (waits_of shard q.wait.n) lives) in
    let serves_it : settle_at (glance old.shard) (whole old.bank p) ≡ serves side q.wait.n q.branch = ap (settle_at (glance old.shard)) shown ∙ sym (served (glance old.shard)) ∙ ap (front_with side q) (sym asked) in
    let banks : (i : ℕ) → new.bank i ≡ changed_at p (option_map (settle_change side (value_settled side (whole old.bank p)))) old.bank i =
    subst (λ (z : Option Kept). (i : ℕ) → new.bank i ≡ changed_at p (option_map (settle_change side (value_settled side z))) old.bank i) (sym shown) (turned old.bank new.bank p (kept_at bank) (kept_at bank2) (option_map (settle_change side (value_settled side (kept_at bank p)))) banked turns.0) in
    let woken : WakesBy place gives (whole old.shard q.wait.n) p (told side (value_settled side (whole old.bank p))) (old.ready w) (new.ready w) =
    subst (λ (z : Option (List (ℕ × TaskAgent A))). WakesBy place gives (whole old.shard q.wait.n) p (told side (value_settled side (whole old.bank p))) z (new.ready w)) (sym readied.was)
    (subst (λ (z : Option (List (ℕ × TaskAgent A))). WakesBy place gives (whole old.shard q.wait.n) p (told side (value_settled side (whole old.bank p))) (Some (tasks_in ready)) z) (sym readied.is)
    (subst (λ (z : Option Kept). WakesBy place gives (whole old.shard q.wait.n) p (told side (value_settled side z)) (Some (tasks_in ready)) (Some (tasks_in ready2))) (sym shown)
    (subst (λ (z : Option (Parked (TaskAgent A))). WakesBy place gives z p (told side (value_settled side (kept_at bank p))) (Some (tasks_in ready)) (Some (tasks_in ready2))) (sym (shows_at old.shard q.wait.n (waits_of shard) sharded.was)) wakes))) in
    subst (λ (z : Option Kept). MovesSettle (place_of place) (wakes_of gives) w q.wait.n q.branch side p (value_settled side z) old new) shown
    (settle_moves place advances gives old new w q.wait.n q.branch p side (tasks_in ready) serves_it banks registries (turned old.shard new.shard q.wait.n (waits_of shard) (waits_of shard2) (λ z. None) sharded sets.0)
    readied.was readied.others (all_stay old.ready new.ready w (tasks_in ready) (tasks_in ready2) readied) woken lanes timers)

pub stale_served : {A : Type 0} → StaleServed A
stale_served old p side q bank from served banked was lives =
    settle_stale old p side (ap (settle_at (glance old.shard)) (shows_at old.bank p (kept_at bank) banked) ∙ sym (served (glance old.shard)) ∙ ap (front_with side q) (sym (glanced old q.wait.n from gone was (not_here (from q.wait.n) lives))))

pub prune_applies : {A : Type 0} → PruneApplies A
prune_applies old new p wait side bank bank2 stale answered banked turns registries shards lanes readys timers =
    let shown : whole old.bank p ≡ kept_at bank p = shows_at old.bank p (kept_at bank) banked.was in
    let right : wait ≡ stale.handler.wait = answered stale.handler (ap (λ (o : Option Kept). slice_get (queue_at side o) 0) (sym shown ∙ stale.there) ∙ stale.at_place) in
    subst (λ (n : ℕ). MovesPrune side p n old new) (sym right)
    (prune_moves old new p side 0 stale (turned old.bank new.bank p (kept_at bank) (kept_at bank2) (option_map (pruned side 0)) banked turns.0) registries shards lanes readys timers)
