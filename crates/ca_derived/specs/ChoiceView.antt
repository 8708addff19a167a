-- What a choice of the code stands for.
use Rattle.ca_derived.specs.declared.choice.Choice.{Choice as ChoiceStruct}
use Rattle.ca_derived.specs.Choice.{Choice}
use Rattle.ca_derived.specs.DraftView.{drafted}

abbrev pub choice_view : ChoiceStruct → Choice
choice_view x = record {
  bindings = drafted x.bindings;
  operations = drafted x.operations;
  clauses = drafted x.clauses;
  priority = x.priority;
  default = x.default;
}
