use Rattle.std.proofs.Common.{◌≡◌, ◌∙◌, Bool, Some, None, ap, refl, sym, subst, is_some}
use Rattle.std.specs.Bool.{OnTrue}
use Rattle.ca_commit.specs.Listing.{listed}
use Rattle.ca_commit.specs.Listings.{parts}
use Rattle.ca_commit.specs.Numbers.{number_of_bank}
use Rattle.ca_pool.proofs.hold.try_wanted.Goals as goal

pub returns-then-wanted-clause-told : goal.returns-then-wanted-clause-told
returns-then-wanted-clause-told g c = subst (λ (b : Bool). OnTrue c.try_bank.result (is_some (listed number_of_bank (parts c.try_bank.new.banks) c.args.number) ≡ b)) (sym c.if-wanted.true) c.try_bank.ensures.told

pub returns-else-wanted-clause-told : goal.returns-else-wanted-clause-told
returns-else-wanted-clause-told g c = ap is_some c.requires.none ∙ sym c.if-wanted.false

pub returns-else-wanted-clause-kept : goal.returns-else-wanted-clause-kept
returns-else-wanted-clause-kept g c = λ i ne. refl

pub returns-else-wanted-clause-sound : goal.returns-else-wanted-clause-sound
returns-else-wanted-clause-sound g c = λ x e. absurd (let z : None ≡ Some x = sym c.requires.none ∙ e in cc)

pub returns-else-wanted-clause-carries : goal.returns-else-wanted-clause-carries
returns-else-wanted-clause-carries g c = λ P n h s. s

pub returns-then-wanted-clause-free : goal.returns-then-wanted-clause-free
returns-then-wanted-clause-free g c = c.try_bank.ensures.free
