-- What is seen of a channel that may settle.
use Rattle.std.proofs.Common.{◌≡◌, ℕ, Option, Some, true, refl, sym, ap, ◌∙◌}
use Rattle.ca_term.specs.declared.event.Side.{Side}
use Rattle.ca_term.specs.declared.event.Side.TheVariants.{Put, Take}
use Rattle.ca_meaning.specs.Wait.{Handler}
use Rattle.ca_bank.specs.Kept.{takes_one_more}
use Rattle.ca_commit.specs.Contents.{Kept}
use Rattle.ca_commit.specs.Finding.{Glance, gone, here, rests_on_unheld, serve_front, serves, serving, unseen}
use Rattle.ca_commit.specs.ServesSeen.{HasRoomFor, IsOf, front_with}
use Rattle.ca_commit.specs.declared.serving.Serves.{Serves}
use Rattle.ca_commit.specs.declared.sight.Partner.{Partner}

alike : (g : Glance) (side : Side) (q : Partner) (h : Handler) → q.wait.n ≡ h.wait → q.branch ≡ h.branch → front_with side q g ≡ serving g side h
alike here side q h e f = ap (λ w. serves side w q.branch) e ∙ ap (λ o. serves side h.wait o) f
alike gone side q h e f = refl
alike unseen side q h e f = ap rests_on_unheld e

-- the handler in front is served
pub front_serves : (see : ℕ → Glance) (side : Side) (q : Partner) (h : Handler) (o : Option Handler) → o ≡ Some h → q.wait.n ≡ h.wait → q.branch ≡ h.branch → front_with side q (see q.wait.n) ≡ serve_front see side o
front_serves see side q h o is e f = ap (λ n. front_with side q (see n)) e ∙ alike (see h.wait) side q h e f ∙ sym (ap (serve_front see side) is)

pub takers_have : (r : Serves) (o : Option Kept) → IsOf Take r → HasRoomFor r o
takers_have Serves.Nothing o is = tt
takers_have (Serves.Front Take q) o is = λ e. absurd cc
takers_have (Serves.Front Put q) o is = absurd cc

pub putters_have : (r : Serves) (o : Option Kept) → takes_one_more o ≡ true → HasRoomFor r o
putters_have Serves.Nothing o e = tt
putters_have (Serves.Front side q) o e = λ f. e
