use Rattle.std.proofs.Common.{subst}
use Rattle.ca_value.specs.IsValue.{written}
use Rattle.ca_meaning.specs.Legal.{Reaches}
use Rattle.ca_meaning.specs.Steps.{Steps}
use Rattle.ca_meaning.proofs.ChannelLaws.{channel_law, steps_split}
use Rattle.ca_meaning.proofs.WaitLaws.{wait_law}
use Rattle.ca_laws.proofs.Mixing.{mix_law}
use Rattle.ca_derived_laws.proofs.Taking.{takes_keep}
use Rattle.ca_derived_laws.proofs.Reducing.{reduces_keep}
use Rattle.ca_derived_laws.proofs.Splitting.{splits_keep}
use Rattle.ca_sealed.proofs.journals.journals_of_scripts_keep_the_laws.Goals as goal

pub returns : goal.returns
returns c = λ forms program h e journal legal. record {
  values = c.values_of_a_run_are_values.ensures.events written program (c.programs_are_checked.ensures forms program e)
      (c.programs_keep_their_scalars.ensures written forms program h e) journal legal.state legal.reaches;
  channels = channel_law program journal legal;
  waits = wait_law program journal legal;
  mixes = mix_law program journal;
  mults = λ before after is.
      let r = legal.reaches in
      let m = steps_split program before after r.opening legal.state (subst (λ j. Steps program r.opening j legal.state) is r.steps) in
      let reached : Reaches program before m.0 = record { opening = r.opening; opens = r.opens; steps = m.1 } in
      (m.0, reached, c.mults_of_scripts_deliver_before_they_go_on.ensures forms program e before m.0 reached);
  pipelines = c.pipelines_of_scripts_put_in_order.ensures forms program e journal legal.state legal.reaches;
  takes = takes_keep program journal legal.state legal.reaches;
  reduces = reduces_keep program journal legal.state legal.reaches;
  splits = splits_keep program journal legal.state legal.reaches;
}
