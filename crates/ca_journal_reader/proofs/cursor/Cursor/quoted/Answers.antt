use Rattle.std.proofs.Common.{◌≡◌, ◌∷◌, ◌++◌, [], rules, false, ◌==◌, ◌∙◌}
use Rattle.ca_value.specs.Seq.{list}
use Rattle.ca_journal_reader.specs.ValueText.{unescaped}
use Rattle.ca_journal_reader.proofs.Loops.{escaped_step, plain_step}
use Rattle.ca_journal_reader.proofs.cursor.Cursor.quoted.Goals as goal

pub bytes-preserved-then-byte-eq92 : goal.bytes-preserved-then-byte-eq92
bytes-preserved-then-byte-eq92 c =
    let text = c.bytes.self.rest.now in
    let whole : text ≡ c.in-Some.byte.now ∷ c.in-Some.behind.now = search rules in
    let rest : c.in-Some.behind.now ≡ c.in-Some-split_first.second.now ∷ c.in-Some-split_first.further.now = search rules in
    let more : list c.append.new.self ≡ list c.bytes.said ++ unescaped c.in-Some-split_first.second.now ∷ [] = search rules in
    escaped_step _ _ text c.in-Some.behind.now c.in-Some-split_first.further.now c.in-Some.byte.now c.in-Some-split_first.second.now whole rest c.if-byte-eq92.true more ∙ c.bytes.invariant

pub bytes-preserved : goal.bytes-preserved
bytes-preserved c =
    let text = c.bytes.self.rest.now in
    let whole : text ≡ c.in-Some.byte.now ∷ c.in-Some.behind.now = search rules in
    let rest : c.in-Some.behind.now ≡ c.in-Some-split_first.second.now ∷ c.in-Some-split_first.further.now = search rules in
    let more : list c.append-else-byte-eq92.new.self ≡ list c.bytes.said ++ c.in-Some.byte.now ∷ [] = search rules in
    let quote : (c.in-Some.byte.now == 34) ≡ false = search rules in
    let slash : (c.in-Some.byte.now == 92) ≡ false = search rules in
    plain_step _ _ text c.in-Some.behind.now c.in-Some-split_first.further.now c.in-Some.byte.now c.in-Some-split_first.second.now whole rest quote slash more ∙ c.bytes.invariant
