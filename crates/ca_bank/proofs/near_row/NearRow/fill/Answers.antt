use Rattle.ca_bank.proofs.Seats.{last_seat}
use Rattle.ca_bank.proofs.near_row.NearRow.fill.Goals as goal

pub invariant_of-self-in-loop : goal.invariant_of-self-in-loop
invariant_of-self-in-loop g c = record { seats = λ i e h. c.loop.self.seats i e (last_seat c.loop.self.places.items i e (rw c.push_reserved.ensures.items at h)) }
