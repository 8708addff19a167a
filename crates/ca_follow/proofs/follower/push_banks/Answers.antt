use Rattle.std.proofs.Common.{◌∙◌, ap, arith}
use Rattle.ca_bank.specs.Bank.{kept_at, registry_at}
use Rattle.ca_bank.specs.declared.bank.Bank.{Bank}
use Rattle.ca_commit.specs.Listings.{parts}
use Rattle.ca_commit.specs.Numbers.{number_of_bank}
use Rattle.ca_commit.specs.Showing.{bank_in, channels_held, registries_held, registries_in}
use Rattle.ca_follow.proofs.Filled.{all_empty, none_yet, one_more}
use Rattle.ca_follow.proofs.follower.push_banks.Goals as goal

pub loop-number-init : goal.loop-number-init
loop-number-init c = (
  (let r = c.requires.room in omega (arith, r)),
  none_yet number_of_bank bank_in (parts c.args.banks.now) c.requires.none,
  none_yet number_of_bank registries_in (parts c.args.banks.now) c.requires.none,
)

pub push-requires : goal.push-requires
push-requires c = let room = c.loop-number.invariant.0 in omega (arith, room, c.loop-number-test.true)

pub loop-number-preserved : goal.loop-number-preserved
loop-number-preserved c = let i = c.loop-number.invariant in let room = i.0 in let kept = c.push.ensures.spare in let n = c.loop-number.number in let x = c.in_ok-new.field-0 in (
  omega (arith, room, kept),
  one_more number_of_bank bank_in (parts c.loop-number.banks) (parts c.push.new.self) x n c.push.ensures.parts c.in_ok-new.ensures.number (λ k. ap (λ (b : Bank). kept_at b k) c.in_ok-new.ensures.bank ∙ c.new-bank.ensures.channels k) i.1,
  one_more number_of_bank registries_in (parts c.loop-number.banks) (parts c.push.new.self) x n c.push.ensures.parts c.in_ok-new.ensures.number (λ k. ap (λ (b : Bank). registry_at b k) c.in_ok-new.ensures.bank ∙ c.new-bank.ensures.registries k) i.2,
)

pub returns-clause-channels : goal.returns-clause-channels
returns-clause-channels c = all_empty (channels_held c.loop-number.banks) c.loop-number.number (omega (arith, c.loop-number-test.false)) c.loop-number.invariant.1

pub returns-clause-registries : goal.returns-clause-registries
returns-clause-registries c = all_empty (registries_held c.loop-number.banks) c.loop-number.number (omega (arith, c.loop-number-test.false)) c.loop-number.invariant.2
