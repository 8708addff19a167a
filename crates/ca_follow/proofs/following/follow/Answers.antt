use Rattle.std.proofs.Common.{◌≡◌, [], ◌∷◌, ◌++◌, ◌+◌, List, sym, ap, refl, subst, ◌∙◌, true, false, append-nil, rules}
use Rattle.std.specs.Prelude.{is_some}
use Rattle.ca_term.specs.Event.{EventView}
use Rattle.ca_term.specs.Program.{IsProgram, ProgramView}
use Rattle.ca_meaning.specs.Legal.{Legal}
use Rattle.ca_states.specs.Code.{CodeView}
use Rattle.ca_states.specs.ValidCode.{valid_code}
use Rattle.ca_lower.specs.Gos.{SameGos}
use Rattle.ca_lower.specs.Lowered.{Lowered}
use Rattle.ca_journal.specs.Coming.{coming}
use Rattle.ca_journal.specs.Events.{events}
use Rattle.ca_journal.specs.Note.{note_view}
use Rattle.ca_replay.specs.MainEnd.{main_text_end}
use Rattle.ca_replay.proofs.RunsTo.{moved_on, one_longer}
use Rattle.ca_follow.specs.Followed.{IsLed}
use Rattle.ca_follow.specs.Follower.{IsMadeFor, Leads, Refuses, has}
use Rattle.ca_follow.proofs.Led.{led_first, led_legal, led_on, led_over, led_refused}
use Rattle.ca_follow.proofs.following.follow.Goals as goal

made : (program : ProgramView) (code : CodeView) → IsProgram program → Lowered program code → SameGos program code → IsMadeFor program code
made program code checked lowered gos = record { checked = checked; lowered = lowered; gos = gos }

pub loop-entry-init : goal.loop-entry-init
loop-entry-init c = record {
  before = [];
  split = c.in_ok-walk.ensures;
  number = refl;
  follower = c.in_ok-follower.ensures.follower;
  code = c.in_ok-follower.ensures.code;
  led = λ program made. led_first program _ (c.in_ok-follower.ensures.opens program made);
}

pub returns-then-is_some : goal.returns-then-is_some
returns-then-is_some c =
    let inv = c.loop-entry.invariant in let e = note_view c.in-Some.entry.now.note in let rest = coming c.next.new.self in
    let next : coming c.loop-entry.walk ≡ e ∷ rest = c.in-Some.ensures.order in
    let whole : inv.before ++ e ∷ rest ≡ events c.args.journal.now = ap (λ (l : List EventView). inv.before ++ l) (sym next) ∙ inv.split in
    let over : is_some c.loop-entry.end ≡ true = search rules in
    λ program checked lowered gos. let m = made program (valid_code c.args.code.now) checked lowered gos in
    led_over program (valid_code c.args.code.now) m inv.before (has c.loop-entry.follower) c.loop-entry.end (inv.led program m) (events c.args.journal.now) e rest c.loop-entry.number whole inv.number over

pub goes_on-requires-clause-stands : goal.goes_on-requires-clause-stands
goes_on-requires-clause-stands c =
    let inv = c.loop-entry.invariant in let r = c.requires.made in
    let m = made r.0 (valid_code c.args.code.now) r.1 r.2 r.3 in
    let led = inv.led r.0 m in
    (r.0, led.state, subst (λ v. IsMadeFor r.0 (valid_code v)) (sym inv.code) m, led.stands)

pub returns-then-not-branch : goal.returns-then-not-branch
returns-then-not-branch c =
    let inv = c.loop-entry.invariant in let e = note_view c.in-Some.entry.now.note in let rest = coming c.next.new.self in
    let next : coming c.loop-entry.walk ≡ e ∷ rest = c.in-Some.ensures.order in
    let whole : inv.before ++ e ∷ rest ≡ events c.args.journal.now = ap (λ (l : List EventView). inv.before ++ l) (sym next) ∙ inv.split in
    let here : is_some c.loop-entry.end ≡ false = search rules in
    let is : c.in_ok-goes_on.field-0 ≡ false = search rules in
    let none : Refuses (valid_code c.loop-entry.follower.code.now) e (has c.loop-entry.follower) = c.in_ok-goes_on.ensures.refused is in
    let refused : Refuses (valid_code c.args.code.now) e (has c.loop-entry.follower) = subst (λ v. Refuses (valid_code v) e (has c.loop-entry.follower)) inv.code none in
    λ program checked lowered gos. let m = made program (valid_code c.args.code.now) checked lowered gos in
    led_refused program (valid_code c.args.code.now) m inv.before (has c.loop-entry.follower) c.loop-entry.end (inv.led program m) (events c.args.journal.now) e rest c.loop-entry.number whole inv.number here refused

pub loop-entry-preserved : goal.loop-entry-preserved
loop-entry-preserved c =
    let inv = c.loop-entry.invariant in let e = note_view c.in-Some.entry.now.note in let rest = coming c.next.new.self in
    let next : coming c.loop-entry.walk ≡ e ∷ rest = c.in-Some.ensures.order in
    let whole : inv.before ++ e ∷ rest ≡ events c.args.journal.now = ap (λ (l : List EventView). inv.before ++ l) (sym next) ∙ inv.split in
    let here : is_some c.loop-entry.end ≡ false = search rules in
    let is : c.in_ok-goes_on.field-0 ≡ true = search rules in
    let led_to : Leads (valid_code c.loop-entry.follower.code.now) e (has c.loop-entry.follower) (has c.goes_on.new.follower) = c.in_ok-goes_on.ensures.leads is in
    let leads : Leads (valid_code c.args.code.now) e (has c.loop-entry.follower) (has c.goes_on.new.follower) = subst (λ v. Leads (valid_code v) e (has c.loop-entry.follower) (has c.goes_on.new.follower)) inv.code led_to in
    let end : main_text_end e ≡ c.main_end-end.result = sym c.main_end-end.ensures in
    record {
      before = inv.before ++ e ∷ [];
      split = moved_on inv.before e rest (events c.args.journal.now) whole;
      number = ap (λ n. n + 1) inv.number ∙ sym (one_longer inv.before e);
      follower = c.in_ok-goes_on.ensures.follower is;
      code = c.goes_on.ensures.code ∙ inv.code;
      led = λ program m. subst (IsLed program (inv.before ++ e ∷ []) (has c.goes_on.new.follower)) end
          (led_on program (valid_code c.args.code.now) m inv.before (has c.loop-entry.follower) c.loop-entry.end (inv.led program m) e (has c.goes_on.new.follower) here leads);
    }

pub returns : goal.returns
returns c =
    let inv = c.loop-entry.invariant in
    let none : coming c.loop-entry.walk ≡ [] = search rules in
    let whole : inv.before ≡ events c.args.journal.now = sym (append-nil inv.before) ∙ ap (λ (l : List EventView). inv.before ++ l) (sym none) ∙ inv.split in
    λ program checked lowered gos. let m = made program (valid_code c.args.code.now) checked lowered gos in
    (subst (Legal program) whole (led_legal program (valid_code c.args.code.now) m inv.before (has c.loop-entry.follower) c.loop-entry.end (inv.led program m)), c.in_ok-text.ensures)
