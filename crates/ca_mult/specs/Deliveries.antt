-- A delivery as a body of its table.
use Rattle.ca_value.specs.View.{view}
use Rattle.ca_term.specs.declared.place.Place.{Place}
use Rattle.ca_meaning.specs.MultTable.{Delivery as DeliveryView, DeliverState, deliver_puts, deliver_untaps, deliver_answers}
use Rattle.ca_meaning.specs.System.{SystemBody, a_delivery}
use Rattle.ca_system.specs.Stands.{next_view}
use Rattle.ca_system.specs.declared.stand.Next.{Next}
use Rattle.ca_mult.specs.declared.deliver.Delivery.{Delivery}
use Rattle.ca_mult.specs.declared.deliver.Step.{Step}
use Rattle.ca_mult.specs.declared.deliver.Step.TheVariants.{Puts, Untaps, Answers}

abbrev pub delivery_view : Delivery → DeliveryView
delivery_view d = record { mult = d.mult.n; channel = d.channel.n; value = view d.value; acks = d.acks.n }

abbrev pub step_view : Step → DeliverState
step_view Puts = deliver_puts
step_view Untaps = deliver_untaps
step_view Answers = deliver_answers

abbrev pub deliver_body : Delivery → Place → Next Step → SystemBody
deliver_body k p x = a_delivery (delivery_view k) p (next_view step_view x)
