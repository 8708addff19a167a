use Rattle.std.proofs.Common.{◌≡◌, ◌-◌, ◌≤◌, drop, length}
use Rattle.ca_value.specs.Seq.{list}
use Rattle.ca_reader.specs.Texts.{text_cut}
use Rattle.ca_reader.specs.Pieces.{text_first}
use Rattle.ca_reader.proofs.Cuts.{so_far}
use Rattle.ca_reader.proofs.text.text.Given as goal

abbrev pub invariant-letters : goal.invariant-letters
invariant-letters l = record {
  within : l.length ≤ length l.rest;
  same : so_far (list l.said) l.length (text_cut (drop l.length l.rest)) ≡ text_first (text_cut (drop 1 l.rest));
}

abbrev pub decreases-letters : goal.decreases-letters
decreases-letters l = length l.rest - l.length
