-- What a mult starts are deliveries of the value that it took, to the taps that it read.
use Rattle.std.proofs.Common.{◌≡◌, List, ◌∷◌, ◌++◌, refl, sym, ap, ◌∙◌, subst, Some, append_assoc}
use Rattle.ca_value.specs.Tree.{Trees, port, item}
use Rattle.ca_term.specs.declared.place.Place.{Place}
use Rattle.ca_term.specs.declared.event.TaskKind.{TaskKind}
use Rattle.ca_term.specs.declared.head.SystemTask.TheVariants.{Mult, Deliver}
use Rattle.ca_term.specs.Operation.{system, spawning}
use Rattle.ca_term.specs.Program.{ProgramView}
use Rattle.ca_term.specs.Event.{EventView, spawned}
use Rattle.ca_meaning.specs.Asks.{two_of}
use Rattle.ca_meaning.specs.State.{State, Task}
use Rattle.ca_meaning.specs.Going.{IsAtOp}
use Rattle.ca_meaning.specs.Steps.{Step, Steps}
use Rattle.ca_meaning.specs.Legal.{Reaches}
use Rattle.ca_meaning.proofs.ChannelLaws.{steps_split}
use Rattle.ca_meaning.proofs.Single.{same_task, same_op, same_seed, reached_once}
use Rattle.ca_laws.specs.Deeds.{deeds}
use Rattle.ca_laws.specs.Rules.{KeepsTo, SpawnsFrom}
use Rattle.ca_laws.specs.MultRules.{MultRule, DeliverRule, mult_ports, delivery_of, StartedKeepTo}
use Rattle.ca_laws.proofs.Multing.{mults_keep_to}
use Rattle.ca_laws.proofs.Delivering.{deliveries_keep_to}

same_values : (values others : Trees) (place elsewhere : Place) → system Deliver values place ≡ system Deliver others elsewhere → values ≡ others
same_values values others place elsewhere e = cc

pub started_keep_to : (program : ProgramView) (journal : List EventView) (s : State) → Reaches program journal s → StartedKeepTo program journal s
started_keep_to program journal s reaches first middle last w t u r q is = (
  mult.0,
  mult.1,
  rule.0,
  rule.1,
  mult.2,
  (rule.2, rule.4),
  subst (λ z. KeepsTo (DeliverRule (delivery_of z)) u journal s) values delivery.3,
) where
  early : List EventView
  early = first ++ spawned w t TaskKind.Mult r ∷ middle

  whole : journal ≡ early ++ spawned t u TaskKind.Deliver q ∷ last
  whole = is ∙ sym (append_assoc first (spawned w t TaskKind.Mult r ∷ middle) (spawned t u TaskKind.Deliver q ∷ last))

  split : (mid : State) × Steps program reaches.opening early mid × Steps program mid (spawned t u TaskKind.Deliver q ∷ last) s
  split = steps_split program early (spawned t u TaskKind.Deliver q ∷ last) reaches.opening s (subst (λ j. Steps program reaches.opening j s) whole reaches.steps)

  here : Reaches program early split.0
  here = record { opening = reaches.opening; opens = reaches.opens; steps = split.1 }

  step : Step program split.0 (spawned t u TaskKind.Deliver q) split.2.0
  step = split.2.1

  mult : (values : Trees) × (place : Place) × SpawnsFrom program first w (system Mult values place) × KeepsTo (MultRule (mult_ports values) place) t early split.0
  mult = mults_keep_to program early split.0 here first middle w t r refl

  -- what the mult asks for at this event
  same : mult.3.task ≡ step.0
  same = same_task split.0.tasks t mult.3.task step.0 mult.3.there step.4.0

  rule : MultRule (mult_ports mult.0) mult.1 (deeds t early) (spawning step.1)
  rule = mult.3.asks (spawning step.1) (subst (λ (z : Task). IsAtOp z.body (spawning step.1)) (sym same) step.4.2)

  delivery : (values : Trees) × (place : Place) × SpawnsFrom program early t (system Deliver values place) × KeepsTo (DeliverRule (delivery_of values)) u journal s
  delivery = deliveries_keep_to program journal s reaches early last t u q whole

  -- it is spawned from these values
  spawner : delivery.2.spawner ≡ step.0
  spawner = same_task split.0.tasks t delivery.2.spawner step.0 (subst (λ (z : State). z.tasks t ≡ Some delivery.2.spawner) (reached_once program early delivery.2.before split.0 delivery.2.reaches here) delivery.2.stands.0) step.4.0

  seed : system Deliver delivery.0 delivery.1 ≡ step.1
  seed = same_seed (system Deliver delivery.0 delivery.1) step.1 (same_op delivery.2.spawner.body step.0.body (spawning (system Deliver delivery.0 delivery.1)) (spawning step.1) (ap (λ (z : Task). z.body) spawner) delivery.2.stands.2 step.4.2)

  values : delivery.0 ≡ item (port (mult_ports mult.0).mult) (item (port rule.1.channel) (two_of rule.0 (port (mult_ports mult.0).acks)))
  values = same_values delivery.0 (item (port (mult_ports mult.0).mult) (item (port rule.1.channel) (two_of rule.0 (port (mult_ports mult.0).acks)))) delivery.1 mult.1 (seed ∙ rule.5)
