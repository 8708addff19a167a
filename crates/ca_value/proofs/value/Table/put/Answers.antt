use Rattle.std.proofs.Common.{◌≡◌, Some, None, sym, ap, ◌∙◌}
use Rattle.ca_value.specs.Tree.{pairs_of}
use Rattle.ca_value.specs.Equality.{has_key}
use Rattle.ca_value.specs.View.{view}
use Rattle.ca_value.specs.Maps.{key_place}
use Rattle.ca_value.proofs.MapLaws.{at_place, absent}
use Rattle.ca_value.proofs.value.Table.put.Goals as goal

pub set-requires : goal.set-requires
set-requires c =
    let there : key_place c.args.self.now (view c.args.key) ≡ Some c.in-Some.place =
    ap (λ ps. key_place ps (view c.args.key)) (sym c.as_slice.ensures) ∙ sym c.place.ensures ∙ c.in-Some.is in
    (at_place c.args.self.now (view c.args.key) c.in-Some.place there).within

pub push-requires : goal.push-requires
push-requires c =
    let gone : key_place c.args.self.now (view c.args.key) ≡ None =
    ap (λ ps. key_place ps (view c.args.key)) (sym c.as_slice.ensures) ∙ sym c.place.ensures ∙ c.in-None.is in
    record { fresh = ap (λ p. has_key p.0 (pairs_of c.args.self.now)) c.new.ensures ∙ (absent c.args.self.now (view c.args.key) gone).fresh }

pub returns-in-Some-clause-ok : goal.returns-in-Some-clause-ok
returns-in-Some-clause-ok c =
    let there : key_place c.args.self.now (view c.args.key) ≡ Some c.in-Some.place =
    ap (λ ps. key_place ps (view c.args.key)) (sym c.as_slice.ensures) ∙ sym c.place.ensures ∙ c.in-Some.is in
    c.set.ensures ∙ sym ((at_place c.args.self.now (view c.args.key) c.in-Some.place there).set (view c.args.value))

pub returns-in-None-clause-ok : goal.returns-in-None-clause-ok
returns-in-None-clause-ok c =
    let gone : key_place c.args.self.now (view c.args.key) ≡ None =
    ap (λ ps. key_place ps (view c.args.key)) (sym c.as_slice.ensures) ∙ sym c.place.ensures ∙ c.in-None.is in
    let added = (absent c.args.self.now (view c.args.key) gone).added (view c.args.value) in
    rw (added, ← c.new.ensures) c.push.ensures.ok
