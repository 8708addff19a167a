use Rattle.std.proofs.Common.{arith, ap}
use Rattle.std.proofs.lemmas.Grind.{common_steps}
use Rattle.ca_term.specs.View.{kernels_of, bindings_of}
use Rattle.ca_term.proofs.PutLaws.{put_items-kernels, put_bindings-bindings}
use Rattle.ca_term.proofs.+with.Goals as goal

pub put::bindings_with-returns : goal.put::bindings_with-returns
put::bindings_with-returns t c = rw put_bindings-bindings (ap bindings_of (grind (arith, common_steps)))

pub put::terms_with-returns : goal.put::terms_with-returns
put::terms_with-returns t c = rw put_items-kernels (ap kernels_of (grind (arith, common_steps)))
