use Rattle.std.proofs.Common.{length, sym, subst}
use Rattle.std.proofs.lemmas.Result.{IfOk-weaker}
use Rattle.ca_reader.specs.Pieces.{First}
use Rattle.ca_reader.specs.PieceView.{first_cut_view, FirstFits}
use Rattle.ca_reader.proofs.Readings.{first_fits}
use Rattle.ca_reader.proofs.cut.next_piece.Goals as goal

pub returns-clause-fits : goal.returns-clause-fits
returns-clause-fits c = IfOk-weaker c.first.result _ (λ f. FirstFits (length c.args.rest.now) (first_cut_view f))
    (λ f e. subst (λ (x : First). FirstFits (length c.args.rest.now) x) (sym e) (first_fits c.args.rest.now)) c.first.ensures
