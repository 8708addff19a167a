use Rattle.std.proofs.Common.{length, sym, ◌∙◌, ap, subst}
use Rattle.std.proofs.lemmas.Result.{err_from_is_err_and}
use Rattle.ca_reader.specs.Pieces.{First}
use Rattle.ca_reader.specs.PieceView.{first_cut_view, piece_view, FirstFits}
use Rattle.ca_reader.specs.NestView.{context}
use Rattle.ca_reader.proofs.Reader.{turn_blank, turn_found, turn_bound, turn_refused, turn_wrong, end_reads, end_faults, end_prints}
use Rattle.ca_reader.proofs.read.read.Goals as goal

pub pieces-preserved-in-Blank : goal.pieces-preserved-in-Blank
pieces-preserved-in-Blank c =
    let e = ap first_cut_view (sym c.in-Blank.is) ∙ c.in_ok-next_piece.ensures.value in
    let f = subst (λ (x : First). FirstFits (length c.pieces.rest.now) x) (ap first_cut_view c.in-Blank.is) c.in_ok-next_piece.ensures.fits in
    record {
      same = turn_blank _ c.pieces.place _ c.pieces.rest.now _ c.in-Blank.length c.pieces.invariant.same e c.past-place.ensures.value;
      sound = c.pieces.invariant.sound;
      line_bound = turn_bound c.pieces.rest.now c.in-Blank.length _ c.pieces.place.line _ c.pieces.invariant.line_bound f.1 c.past-place.ensures.line;
      column_bound = turn_bound c.pieces.rest.now c.in-Blank.length _ c.pieces.place.column _ c.pieces.invariant.column_bound f.1 c.past-place.ensures.column;
    }

pub pieces-preserved : goal.pieces-preserved
pieces-preserved c =
    let e = ap first_cut_view (sym c.in-Found.is) ∙ c.in_ok-next_piece.ensures.value in
    let f = subst (λ (x : First). FirstFits (length c.pieces.rest.now) x) (ap first_cut_view c.in-Found.is) c.in_ok-next_piece.ensures.fits in
    record {
      same = turn_found _ c.pieces.place _ c.pieces.rest.now (context c.pieces.nest) _ (piece_view c.in-Found.piece) c.in-Found.length
          c.pieces.invariant.same e c.past-place-in-Found.ensures.value c.in_ok-add-in-Found.ensures.ok c.in_ok-add-in-Found.ensures.becomes;
      sound = c.in_ok-add-in-Found.ensures.sound;
      line_bound = turn_bound c.pieces.rest.now c.in-Found.length _ c.pieces.place.line _ c.pieces.invariant.line_bound f.1 c.past-place-in-Found.ensures.line;
      column_bound = turn_bound c.pieces.rest.now c.in-Found.length _ c.pieces.place.column _ c.pieces.invariant.column_bound f.1 c.past-place-in-Found.ensures.column;
    }

pub returns-in_err-add-in-Found-clause-fault : goal.returns-in_err-add-in-Found-clause-fault
returns-in_err-add-in-Found-clause-fault c =
    let e = ap first_cut_view (sym c.in-Found.is) ∙ c.in_ok-next_piece.ensures.value in
    let p = err_from_is_err_and c.from_residual-in_err-add-in-Found.result c.from_residual-in_err-add-in-Found.ensures.1 in
    rw (p.1, p.2) (turn_refused c.args.bytes.now c.pieces.place c.pieces.rest.now (context c.pieces.nest) (piece_view c.in-Found.piece) c.in-Found.length
    c.in_err-add-in-Found.field-0.0 c.pieces.invariant.same e c.in_err-add-in-Found.ensures.err)

pub returns-in-Wrong-clause-fault : goal.returns-in-Wrong-clause-fault
returns-in-Wrong-clause-fault c =
    let e = ap first_cut_view (sym c.in-Wrong.is) ∙ c.in_ok-next_piece.ensures.value in
    turn_wrong c.args.bytes.now c.pieces.place c.past.result c.pieces.rest.now (context c.pieces.nest) c.in-Wrong.kind c.in-Wrong.length
    c.pieces.invariant.same e c.past.ensures.value

pub returns-in-Over-clause-forms : goal.returns-in-Over-clause-forms
returns-in-Over-clause-forms c =
    let e = ap first_cut_view (sym c.in-Over.is) ∙ c.in_ok-next_piece.ensures.value in
    end_reads c.args.bytes.now c.pieces.place c.pieces.rest.now (context c.pieces.nest) c.finish.result c.pieces.invariant.same e c.finish.ensures.ok c.finish.ensures.whole

pub returns-in-Over-clause-fault : goal.returns-in-Over-clause-fault
returns-in-Over-clause-fault c =
    let e = ap first_cut_view (sym c.in-Over.is) ∙ c.in_ok-next_piece.ensures.value in
    end_faults c.args.bytes.now c.pieces.place c.pieces.rest.now (context c.pieces.nest) c.finish.result c.pieces.invariant.same e c.finish.ensures.err

pub returns-in-Over-clause-printable : goal.returns-in-Over-clause-printable
returns-in-Over-clause-printable c = end_prints c.args.bytes.now c.finish.result (returns-in-Over-clause-forms c)
