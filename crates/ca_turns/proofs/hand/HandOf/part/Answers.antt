use Rattle.std.proofs.Common.{rules, ◌<◌, ◌∙◌, length, sym, ap}
use mathlib.Core.Option.{some}
use lib.ListN.{get_elem?}
use Rattle.ca_turns.proofs.Lists.{in_range, read_at}
use Rattle.ca_turns.proofs.Lists.{none_some}
use Rattle.ca_turns.proofs.hand.HandOf.part.Goals as goal

pub index-requires : goal.index-requires
index-requires g c = let at = ap (λ v. get_elem? v.parts c.args.part) c.self.view_is ∙ c.requires.1 in let h : c.args.part < length c.self.inside.parts.items = in_range c.self.inside.parts.items c.args.part _ at in search (rules, h)

pub unreachable-requires : goal.unreachable-requires
unreachable-requires g c = let at = ap (λ v. get_elem? v.parts c.args.part) c.self.view_is ∙ c.requires.1 in none_some c.requires.0 (sym c.in-None.is ∙ c.index.ensures ∙ read_at c.self.inside.parts.items c.args.part _ c.index.result.now at)

pub returns : goal.returns
returns g c = let at = ap (λ v. get_elem? v.parts c.args.part) c.self.view_is ∙ c.requires.1 in c.requires.1 ∙ ap some (sym (c.index.ensures ∙ read_at c.self.inside.parts.items c.args.part _ c.index.result.now at) ∙ c.in-Some.is)
