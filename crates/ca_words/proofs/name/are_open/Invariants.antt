use Rattle.std.proofs.Common.{◌≡◌, drop, map, string_bytes}
use Rattle.std.specs.List.{list_all}
use Rattle.ca_words.specs.Reading.{is_open_word}
use Rattle.ca_words.proofs.name.are_open.Given as goal

abbrev pub invariant-loop-word : goal.invariant-loop-word
invariant-loop-word l = list_all is_open_word (map string_bytes (drop l.word-index l.words)) ≡ list_all is_open_word (map string_bytes l.words)
