use Rattle.std.proofs.Common.{[], ◌∷◌, sym, ◌∙◌, arith}
use Rattle.ca_value.specs.Seq.{list}
use Rattle.ca_reader.proofs.Cuts.{slice_of_is, so_far_says, so_far_quote, so_far_missing, so_far_bad}
use Rattle.ca_reader.proofs.text.text.Goals as goal

pub letters-preserved-in-Character : goal.letters-preserved-in-Character
letters-preserved-in-Character c = record {
  within = let f = c.in-Character.ensures.fits in omega (arith, f);
  same =
      let a = c.in_ok-append-in-Character.ensures.ok in
      let b = slice_of_is c.args.rest.now c.letters.length c.in-Character.bytes in
      let e = so_far_says c.args.rest.now (list c.letters.said) _ c.letters.length c.in-Character.bytes c.in-Character.ensures.value in
      rw (a, b) (sym e ∙ c.letters.invariant.same);
}

pub letters-preserved : goal.letters-preserved
letters-preserved c = record {
  within = let f = c.in-Escape.ensures.fits in omega (arith, f);
  same =
      let a = c.in_ok-append-in-Escape.ensures.ok in
      let e = so_far_says c.args.rest.now (list c.letters.said) (c.in-Escape.byte ∷ []) c.letters.length 2 c.in-Escape.ensures.value in
      rw a (sym e ∙ c.letters.invariant.same);
}

pub returns-in-Quote : goal.returns-in-Quote
returns-in-Quote c = sym (so_far_quote c.args.rest.now (list c.letters.said) c.letters.length c.in-Quote.ensures.value) ∙ c.letters.invariant.same

pub returns-in-Missing : goal.returns-in-Missing
returns-in-Missing c = sym (so_far_missing c.args.rest.now (list c.letters.said) c.letters.length c.in-Missing.ensures.value) ∙ c.letters.invariant.same

pub returns-in-Bad : goal.returns-in-Bad
returns-in-Bad c = sym (so_far_bad c.args.rest.now (list c.letters.said) c.letters.length c.in-Bad.kind c.in-Bad.ensures.value) ∙ c.letters.invariant.same
