use Rattle.std.proofs.Common.{◌≡◌, Some, None}
use Rattle.std.proofs.lemmas.Bool.Decides.{Decides-eqb}
use Rattle.std.proofs.lemmas.Slice.Eq.{strip_prefix_is}
use Rattle.ca_run.specs.Marker.{marker}
use Rattle.ca_run.proofs.Markers.{found_at, next_at, none_at, none_left, rest_of}
use Rattle.ca_run.proofs.parting.parted.Goals as goal

pub returns-in-Some-clause-parts : goal.returns-in-Some-clause-parts
returns-in-Some-clause-parts c =
    let rest = rest_of c.args.input.now c.loop-start.start in
    found_at c.args.input.now c.in-Some.journal.now c.loop-start.start c.loop-start.invariant (strip_prefix_is Decides-eqb rest marker (Some c.in-Some.journal) c.in-Some.ensures.cases)

pub loop-start-preserved : goal.loop-start-preserved
loop-start-preserved c =
    let rest = rest_of c.args.input.now c.loop-start.start in
    next_at c.args.input.now c.loop-start.start c.in-Some-line_feed.place c.loop-start.invariant (strip_prefix_is Decides-eqb rest marker None c.in_default.ensures.cases)
    c.in-Some-line_feed.ensures.there.0 c.in-Some-line_feed.ensures.there.1 c.in-Some-line_feed.ensures.first

pub returns-in-None-clause-none : goal.returns-in-None-clause-none
returns-in-None-clause-none c =
    let rest = rest_of c.args.input.now c.loop-start.start in
    none_at c.args.input.now c.loop-start.start c.loop-start.invariant (strip_prefix_is Decides-eqb rest marker None c.in_default.ensures.cases) c.in-None.ensures.none

pub returns-clause-none : goal.returns-clause-none
returns-clause-none c = none_left c.args.input.now c.loop-start.start c.loop-start.invariant c.loop-start-test.false
