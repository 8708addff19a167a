use Rattle.std.proofs.Common.{rules}
use Rattle.ca_run.proofs.Bytes.{appends_more}
use Rattle.ca_run.proofs.device.write_all.Goals as goal

pub loop-at-preserved : goal.loop-at-preserved
loop-at-preserved g c = record {
  within = search rules;
  spare = search rules;
  held = appends_more (g.K.Sink.held c.args.sink.now) (g.K.Sink.held c.loop-at.sink) (g.K.Sink.held c.write.new.self) c.args.text.now c.loop-at.at c.in_ok-at.field-0 c.loop-at.invariant.within c.loop-at.invariant.held c.in_ok-at.ensures.bytes;
  later = search rules;
}
