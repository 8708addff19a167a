use Rattle.std.proofs.Common.{drop, sym, ◌∙◌, ap, arith}
use Rattle.ca_value.specs.Seq.{list}
use Rattle.ca_reader.specs.Form.{form}
use Rattle.ca_reader.specs.View.{form_trees}
use Rattle.ca_reader.proofs.Stack.{stray, odd, closes, shut_pushed, base_opened, count_from}
use Rattle.ca_reader.proofs.nest.Nest.close.Goals as goal

pub returns-then-not-closes-clause-err : goal.returns-then-not-closes-clause-err
returns-then-not-closes-clause-err c =
    stray c.pop.new.self.items c.args.self.now.open.items c.in-Some.opened c.args.self.now.forms.items c.args.bracket c.args.place
    c.in-Some.ensures.items (sym c.closes.ensures ∙ c.if-not-closes.true)

pub returns-then-not-is_paired-clause-err : goal.returns-then-not-is_paired-clause-err
returns-then-not-is_paired-clause-err c =
    let k = count_from c.args.self.now.forms.items c.args.self.now.base in
    odd c.pop.new.self.items c.args.self.now.open.items c.in-Some.opened c.args.self.now.forms.items c.args.self.now.base c.args.bracket c.args.place
    c.in-Some.ensures.items c.requires.0 (sym c.closes.ensures ∙ c.if-not-closes.false)
    (sym (c.is_paired.ensures (form_trees (drop c.args.self.now.base c.args.self.now.forms.items)) (omega arith)) ∙ c.if-not-is_paired.true)

pub overflow_sub-self : goal.overflow_sub-self
overflow_sub-self c =
    let b = base_opened c.pop.new.self.items c.args.self.now.open.items c.in-Some.opened c.in-Some.ensures.items in
    omega arith

pub push-requires : goal.push-requires
push-requires c =
    let b = base_opened c.pop.new.self.items c.args.self.now.open.items c.in-Some.opened c.in-Some.ensures.items in
    let l = c.in-Ok.ensures.len in
    (omega arith, omega arith)

pub returns-clause-ok : goal.returns-clause-ok
returns-clause-ok c =
    let k = count_from c.args.self.now.forms.items c.args.self.now.base in
    closes c.pop.new.self.items c.args.self.now.open.items c.in-Some.opened c.args.self.now.forms.items c.args.self.now.base c.args.bracket c.args.place
    c.in-Some.ensures.items c.requires.0 (sym c.closes.ensures ∙ c.if-not-closes.false)
    (sym (c.is_paired.ensures (form_trees (drop c.args.self.now.base c.args.self.now.forms.items)) (omega arith)) ∙ c.if-not-is_paired.false)

pub returns-clause-becomes : goal.returns-clause-becomes
returns-clause-becomes c = c.in_ok-push.ensures.ok ∙
    shut_pushed c.pop.new.self.items c.args.self.now.open.items c.in-Some.opened
    c.args.self.now.forms.items (list c.from_vec-inner.result) c.split_off.new.self.items c.args.self.now.base c.args.bracket _
    c.in-Some.ensures.items c.requires.0 (sym c.closes.ensures ∙ c.if-not-closes.false)
    (c.from_vec-inner.ensures ∙ c.in-Ok.ensures.tail) c.in-Ok.ensures.items
    (c.new.ensures ∙ ap (λ s. form s c.in-Some.opened.place) c.grouped.ensures)
