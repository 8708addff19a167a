-- A system task is a lawful agent: it follows its answers as its body does.
use Rattle.std.proofs.Common.{◌≡◌, ◌≢◌, refl, sym, ap, ◌∙◌, subst}
use Rattle.ca_value.specs.Tree.{Tree}
use Rattle.ca_term.specs.declared.place.Place.{Place}
use Rattle.ca_term.specs.Operation.{WantView, SeedView, go, system, spawning}
use Rattle.ca_term.specs.Program.{ProgramView}
use Rattle.ca_meaning.specs.Body.{At, local, at_op, ended, faulted, nowhere}
use Rattle.ca_meaning.specs.System.{SystemBody, SystemRest, new_system, system_at, system_fill}
use Rattle.ca_meaning.specs.Task.{TaskBody, script, system_task, body_at, body_fill, BodyRest, new_task}
use Rattle.ca_meaning.proofs.Systems.{system_once, system_rested, system_rests}
use Rattle.ca_states.specs.Code.{CodeView}
use Rattle.ca_agent.specs.Seeds.{HasSeed}
use Rattle.ca_machine.specs.Tasks.{HasTaskAt}
use Rattle.ca_system.proofs.Applications.{function_filled}
use Rattle.ca_tasks.specs.Systems.{SystemView, StandsFrom, SystemStandsAs, SystemAdvancesFrom, SystemAdvances, SystemGives, SystemStarts, HasAppliedFunction, IsSystemOver}

module _ (P : ProgramView) where
  -- off a local step
  system_there : (p : At) (m b : SystemBody) → p ≢ local → b ≡ m → p ≡ system_at m → StandsFrom P p m b
  system_there local m b off same at = absurd (off refl)
  system_there (at_op w) m b off same at = (same, at)
  system_there (ended v) m b off same at = (same, at)
  system_there (faulted f p) m b off same at = (same, at)
  system_there nowhere m b off same at = (same, at)

  system_gone_on : (m n : SystemView) (b : SystemBody) → SystemRest P m.body b → SystemRest P m.body n.body → n.place ≡ system_at n.body → StandsFrom P n.place n.body b × (n.place ≡ system_at b)
  system_gone_on m n b st r at =
      let same = system_once P m.body b n.body st r in
      (system_there n.place n.body b (λ l. system_rested P m.body n.body r (sym at ∙ l)) same at, at ∙ ap system_at (sym same))

  -- paused, it stays
  system_stays : (m n : SystemView) (b : SystemBody) → StandsFrom P m.place m.body b → m.place ≡ system_at b → n ≡ m → StandsFrom P n.place n.body b × (n.place ≡ system_at b)
  system_stays m n b st at same = subst (λ (x : SystemView). StandsFrom P x.place x.body b × (x.place ≡ system_at b)) (sym same) (st, at)

  system_advanced_from : (m n : SystemView) (b : SystemBody) (p : At) → m.place ≡ p → StandsFrom P p m.body b → SystemAdvancesFrom P p m n → StandsFrom P n.place n.body b × (n.place ≡ system_at b)
  system_advanced_from m n b local e st (r, at) = system_gone_on m n b st r at
  system_advanced_from m n b (at_op w) e st same = system_stays m n b (subst (λ q. StandsFrom P q m.body b) (sym e) st) (e ∙ st.1 ∙ ap system_at (sym st.0)) same
  system_advanced_from m n b (ended v) e st same = system_stays m n b (subst (λ q. StandsFrom P q m.body b) (sym e) st) (e ∙ st.1 ∙ ap system_at (sym st.0)) same
  system_advanced_from m n b (faulted f p) e st same = system_stays m n b (subst (λ q. StandsFrom P q m.body b) (sym e) st) (e ∙ st.1 ∙ ap system_at (sym st.0)) same
  system_advanced_from m n b nowhere e st same = system_stays m n b (subst (λ q. StandsFrom P q m.body b) (sym e) st) (e ∙ st.1 ∙ ap system_at (sym st.0)) same

  -- the body of a task that is to go on, and what it comes to rest as
  begins : (m : SystemView) (a b : SystemBody) → b ≡ a → m ≡ record { body = a; place = local } → (d : TaskBody) × BodyRest P (system_task b) d × SystemStandsAs P m d
  begins m a b same e =
      let d = system_rests P b in
      (system_task d.0, (d.0, d.1, refl), subst (λ (x : SystemView). StandsFrom P x.place x.body d.0) (sym e) (subst (λ x. SystemRest P x d.0) same d.1))

pub system_advanced : (P : ProgramView) (m n : SystemView) (b : TaskBody) → SystemStandsAs P m b → SystemAdvances P m n → SystemStandsAs P n b × (n.place ≡ body_at b)
system_advanced P m n (script b) st go_on = absurd st
system_advanced P m n (system_task b) st go_on = system_advanced_from P m n b m.place refl st go_on

pub system_answered : (P : ProgramView) (m n : SystemView) (b : TaskBody) (w : WantView) (v : Tree) → SystemStandsAs P m b → m.place ≡ at_op w → SystemGives m v n → (d : TaskBody) × BodyRest P (body_fill v b) d × SystemStandsAs P n d
system_answered P m n (script b) w v st e g = absurd st
system_answered P m n (system_task b) w v st e g =
    let is : StandsFrom P (at_op w) m.body b = subst (λ q. StandsFrom P q m.body b) e st in
    begins P n (system_fill v m.body) (system_fill v b) (ap (system_fill v) is.0) g

pub system_started : (P : ProgramView) (seed : SeedView) (m : SystemView) → SystemStarts seed m → (b : TaskBody) × BodyRest P (new_task P seed) b × SystemStandsAs P m b
system_started P (go n values result place) m s = absurd s
system_started P (system kind values place) m s = begins P m (new_system kind values place) (new_system kind values place) refl s

pub system_stays_over : (C : CodeView) (m n : SystemView) (v : Tree) → SystemGives m v n → IsSystemOver C m → IsSystemOver C n
system_stays_over C m n v g o = subst (λ (x : SystemView). IsSystemOver C x) (sym g) (subst (HasAppliedFunction C) (sym (function_filled v m.body)) o.0, tt)

-- it asks for no task but its code's
pub system_asked : (C : CodeView) (m : SystemView) (seed : SeedView) (p : Place) → IsSystemOver C m → m.place ≡ at_op (record { op = spawning seed; place = p }) → HasSeed C seed
system_asked C m seed p o e = subst (HasTaskAt C) e o.1
