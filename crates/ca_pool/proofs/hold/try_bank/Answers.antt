use Rattle.std.proofs.Common.{◌≡◌, ◌∙◌, ℕ, ◌+◌, List, ap, sym, arith, subst, is_some}
use Rattle.std.specs.Prelude.{option_map}
use Rattle.ca_states.specs.ValidCode.{valid_code}
use Rattle.ca_commit.specs.Listing.{listed}
use Rattle.ca_commit.specs.Listings.{parts}
use Rattle.ca_commit.specs.Numbers.{number_of_bank}
use Rattle.ca_commit.specs.declared.held.HeldBank.{HeldBank}
use Rattle.ca_table.specs.Carrying.{bank_place}
use Rattle.ca_table.specs.Lifting.{bank_row, lifted, with_row}
use Rattle.ca_table.specs.Parts.{part_away, contents_seen, part_of, part_seen}
use Rattle.ca_table.specs.Seen.{held_of}
use Rattle.ca_table.specs.Sound.{IsSound}
use Rattle.ca_table.specs.declared.part.Contents.{Contents}
use Rattle.ca_table.specs.declared.part.Contents.TheVariants.{Bank}
use Rattle.ca_table.proofs.Liftings.{kind_at_row, kind_of_held, listed_else, listed_last}
use Rattle.ca_table.proofs.Loads.{lifted_there}
use Rattle.ca_table.proofs.MadeOf.{some_same}
use Rattle.ca_pool.proofs.hold.try_bank.Goals as goal

pub try_hold_at-requires : goal.try_hold_at-requires
try_hold_at-requires g c = let K = g.C.Clock in let seen = part_seen K.least K.faults K.readings in let code = c.args.code.now in let w = c.args.worker.now in let r = c.requires.carries in let n = r.1 in let k = c.args.number in let of = r.3.one.of in let lt = c.requires.number in
    record { one = (r.0, n, with_row bank_row (lifted n code Bank seen number_of_bank (parts c.args.banks.now)) r.2, bank_place k, r.3, lt, ap (λ (m : ℕ). m + k) of, ap (option_map (λ x. (part_away n code, seen (part_of n code (Bank x))))) c.requires.none, omega (arith, of, lt)) }

pub bank_of-bank-requires : goal.bank_of-bank-requires
bank_of-bank-requires g c = let K = g.C.Clock in let w = c.args.worker.now in let one = c.requires.carries.3.one in
    sym (kind_of_held K.least K.faults K.readings c.in-Some.contents) ∙ c.in-Some.ensures.kind ∙ kind_at_row bank_row w.workers w.number c.args.number (let a = one.below in let b = one.of in omega (arith, a, b)) c.requires.number

pub returns-in-None-clause-carries : goal.returns-in-None-clause-carries
returns-in-None-clause-carries g c = λ P n h s. let K = g.C.Clock in let seen = part_seen K.least K.faults K.readings in let code = c.args.code.now in
    c.in-None.ensures.busy P n (with_row bank_row (lifted n code Bank seen number_of_bank (parts c.args.banks.now)) h) s

pub returns-else-number-clause-told : goal.returns-else-number-clause-told
returns-else-number-clause-told g c = let k = c.args.number in let x = c.bank_of-bank.result in let is : number_of_bank x ≡ k = (let m = c.number.ensures in let f = c.if-number.false in omega (arith, m, f)) in
    ap is_some (ap (λ (xs : List HeldBank). listed number_of_bank xs k) c.push.ensures.parts ∙ listed_last number_of_bank (parts c.args.banks.now) x k is c.requires.none)

pub returns-else-number-clause-kept : goal.returns-else-number-clause-kept
returns-else-number-clause-kept g c = λ i ne. let k = c.args.number in let x = c.bank_of-bank.result in let is : number_of_bank x ≡ k = (let m = c.number.ensures in let f = c.if-number.false in omega (arith, m, f)) in
    ap (λ (xs : List HeldBank). listed number_of_bank xs i) c.push.ensures.parts ∙ listed_else number_of_bank (parts c.args.banks.now) x i (λ e. ne (sym e ∙ is))

pub returns-else-number-clause-sound : goal.returns-else-number-clause-sound
returns-else-number-clause-sound g c = λ y there. let a = g.A.Agent in let K = g.C.Clock in let k = c.args.number in let w = c.args.worker.now in let x = c.bank_of-bank.result in let is : number_of_bank x ≡ k = (let m = c.number.ensures in let f = c.if-number.false in omega (arith, m, f)) in
    let last = ap (λ (xs : List HeldBank). listed number_of_bank xs k) c.push.ensures.parts ∙ listed_last number_of_bank (parts c.args.banks.now) x k is c.requires.none in
    subst (λ (z : Contents g.row.A.Denot g.row.C.Denot). IsSound a.over a.place (valid_code c.args.code.now) w.workers (w.workers + k) (held_of (contents_seen K.least K.faults K.readings z)))
    (sym c.bank_of-bank.ensures ∙ ap (λ (z : HeldBank). Bank z) (some_same x y (sym last ∙ there))) c.in-Some.ensures.sound

pub returns-else-number-clause-carries : goal.returns-else-number-clause-carries
returns-else-number-clause-carries g c = λ P n h s. let a = g.A.Agent in let K = g.C.Clock in let seen = part_seen K.least K.faults K.readings in let code = c.args.code.now in let w = c.args.worker.now in let k = c.args.number in let x = c.bank_of-bank.result in let is : number_of_bank x ≡ k = (let m = c.number.ensures in let f = c.if-number.false in omega (arith, m, f)) in
    lifted_there a.over a.stands code c.args.table.now.id seen bank_row Bank number_of_bank P n c.try_hold_at.new.worker h (parts c.args.banks.now) (parts c.push.new.self) k x c.in-Some.contents c.bank_of-bank.ensures is c.push.ensures.parts c.requires.none
    (c.in-Some.ensures.carries P n (with_row bank_row (lifted n code Bank seen number_of_bank (parts c.args.banks.now)) h) (bank_place k) s c.requires.number (ap (λ (m : ℕ). m + k) s.one.of))

pub returns-in-None-clause-free : goal.returns-in-None-clause-free
returns-in-None-clause-free g c = λ e. c.in-None.ensures.lone
