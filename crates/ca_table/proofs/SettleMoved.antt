-- The worker may draw what a channel served, and a stale handler that left its queue, beside its lane.
use Rattle.std.proofs.Common.{ℕ, refl, sym, subst, None}
use Rattle.ca_value.specs.Tree.{Tree}
use Rattle.ca_term.specs.Event.{EventView, event_view}
use Rattle.ca_term.specs.Operation.{SeedView}
use Rattle.ca_term.specs.Program.{ProgramView}
use Rattle.ca_meaning.specs.Body.{At}
use Rattle.ca_commit.specs.Agents.{place_of, wakes_of}
use Rattle.ca_commit.specs.Contents.{whole}
use Rattle.ca_commit.specs.Moving.{MovesTurn}
use Rattle.ca_commit.specs.Settling.{value_settled}
use Rattle.ca_commit.specs.Showing.{channels_held}
use Rattle.ca_commit.specs.Touched.{prunes, shown}
use Rattle.ca_states.specs.Code.{CodeView}
use Rattle.ca_states.specs.ValidCode.{valid_code}
use Rattle.ca_states.specs.declared.valid_code.ValidCode.{ValidCode}
use Rattle.ca_table.specs.OneCode.{advances_over, gives_over, starts_over}
use Rattle.ca_table.specs.Bearing.{parts_held}
use Rattle.ca_table.specs.Carriers.{is_now, was}
use Rattle.ca_table.specs.Carrying.{carried}
use Rattle.ca_table.specs.Covering.{Covers}
use Rattle.ca_table.specs.DrawnEvents.{PrunesDraw, SettlesDraw}
use Rattle.ca_table.specs.Needing.{drawn_with}
use Rattle.ca_table.specs.Seen.{PartSeen}
use Rattle.ca_table.specs.declared.part.Part.{Part}
use Rattle.ca_table.proofs.Bearing.{both_carried}
use Rattle.ca_table.proofs.MadeOf.{all_alike, bears}
use Rattle.ca_table.proofs.Settled.{pruned_covers, pruned_turns, settled_covers, settled_turns}

module _ {A C : Type 0} (over_code : CodeView → A → Type 0) (place : A → At) (advances : ProgramView → A → A → Type 0) (gives : A → Tree → A → Type 0) (starts : ProgramView → SeedView → A → Type 0) (seen : Part A C → PartSeen A) (code : ValidCode) where
  pub settles_draw : SettlesDraw over_code place advances gives starts seen code
  settles_draw w n p wait o side h held held2 e ports looked t away served ready is brings =
      let a = bears n w was h None None held t.before in
      let b = bears n w (is_now seen) h None None held2 t.after in
      let turns = both_carried was (is_now seen) w h None None None None held held2 a b (MovesTurn place (advances_over over_code (valid_code code) advances) (gives_over over_code (valid_code code) gives) (starts_over over_code (valid_code code) starts) w n (shown (event_view e))) (settled_turns w None None held held2 place (advances_over over_code (valid_code code) advances) (gives_over over_code (valid_code code) gives) (starts_over over_code (valid_code code) starts) n p wait o side e served ready is) in
      record {
        by = refl;
        of = refl;
        covers = subst (λ (e : EventView). Covers (drawn_with w n (shown e) ports looked) h) (sym is.event)
            (settled_covers was (is_now seen) w n h away (place_of place) (wakes_of (gives_over over_code (valid_code code) gives)) wait o p side (value_settled side (whole (channels_held held.banks) p)) ports looked
            (subst (λ (e : EventView). MovesTurn place (advances_over over_code (valid_code code) advances) (gives_over over_code (valid_code code) gives) (starts_over over_code (valid_code code) starts) w n (shown e) (carried was w h) (carried (is_now seen) w h)) is.event turns) brings);
        alike = all_alike n w was (is_now seen) h None None None None held held2 t.before t.after;
        moves = turns;
      }

  pub prunes_draw : PrunesDraw over_code place advances gives starts seen code
  prunes_draw w n p wait i side h held held2 ports looked t away stale is changed keep brings =
      let a = bears n w was h None None held t.before in
      let b = bears n w (is_now seen) h None None held2 t.after in
      let turns = both_carried was (is_now seen) w h None None None None held held2 a b (MovesTurn place (advances_over over_code (valid_code code) advances) (gives_over over_code (valid_code code) gives) (starts_over over_code (valid_code code) starts) w n (prunes side p wait))
      (subst (λ (k : ℕ). MovesTurn place (advances_over over_code (valid_code code) advances) (gives_over over_code (valid_code code) gives) (starts_over over_code (valid_code code) starts) w n (prunes side p k) (parts_held w None None held) (parts_held w None None held2)) (sym is) (pruned_turns w None None held held2 place (advances_over over_code (valid_code code) advances) (gives_over over_code (valid_code code) gives) (starts_over over_code (valid_code code) starts) n p i side stale changed keep)) in
      record {
        by = refl;
        of = refl;
        covers = pruned_covers was (is_now seen) w n h away side p wait ports looked turns brings;
        alike = all_alike n w was (is_now seen) h None None None None held held2 t.before t.after;
        moves = turns;
      }
