use Rattle.std.proofs.Common.{List, sym, ap, subst}
use Rattle.std.specs.Prelude.{Option}
use Rattle.ca_turns.specs.Hands.{IsHand}
use Rattle.ca_turns.specs.Lines.{bare, bare_out}
use Rattle.ca_turns.proofs.Keeping.{is_new}
use Rattle.ca_turns.proofs.hand.new_hand.Goals as goal

pub invariant_of-result : goal.invariant_of-result
invariant_of-result g c = let f = c.requires.fits in let n = c.requires.none in
    subst (λ (z : List (Option _)). IsHand c.args.seat.table_id (bare c.args.seat.me) z 0) (sym c.in_ok-parts.ensures) (is_new c.args.seat.table_id (bare c.args.seat.me) c.args.count f.0 f.2 (ap bare_out n.0) n.1 c.requires.live)
