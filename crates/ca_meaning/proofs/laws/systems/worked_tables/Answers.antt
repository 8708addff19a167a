use Rattle.ca_meaning.proofs.Tables.{mult_worked, delivery_worked, mix_worked, pub_worked, pipe_worked, merge_worked, onto_worked, feed_worked, job_worked, collect_worked}
use Rattle.ca_meaning.proofs.laws.systems.worked_tables.Goals as goal

pub returns : goal.returns
returns c = record {
  mult = mult_worked;
  delivery = delivery_worked;
  mix = mix_worked;
  publication = pub_worked;
  pipe = pipe_worked;
  merge = merge_worked;
  onto = onto_worked;
  feed = feed_worked;
  job = job_worked;
  collect = collect_worked;
}
