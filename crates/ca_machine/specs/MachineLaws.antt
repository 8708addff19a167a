-- A machine is a lawful agent: what its runner comes to, its body comes to.
use Rattle.std.proofs.Common.{◌≡◌, ◌≢◌, refl, sym, ◌∙◌, subst}
use Rattle.ca_value.specs.Tree.{Tree}
use Rattle.ca_term.specs.declared.place.Place.{Place}
use Rattle.ca_term.specs.Operation.{WantView, SeedView, go, system, spawning}
use Rattle.ca_term.specs.Program.{ProgramView}
use Rattle.ca_meaning.specs.Body.{BodyView, At, local, at_op, ended, faulted, nowhere, at, fill}
use Rattle.ca_meaning.specs.Rest.{Rest, LocalSteps}
use Rattle.ca_meaning.specs.Task.{TaskBody, script, system_task, body_at, body_fill, BodyRest, new_task}
use Rattle.ca_agent.specs.Seeds.{HasSeed, go_body}
use Rattle.ca_meaning.proofs.Rests.{one_rest, rests}
use Rattle.ca_states.specs.Code.{CodeView}
use Rattle.ca_states.specs.Machine.{Move, resumed}
use Rattle.ca_lower.specs.Lowered.{After, StandsFor}
use Rattle.ca_lower.proofs.Lowers.{comes}
use Rattle.ca_machine.specs.Machines.{MachineView, GoesAs, MachineStandsAs, HaltsIn, RunsToHalt, AdvancesFrom, Advances, MachineGives, MachineBegins, Starts, IsOver}
use Rattle.ca_machine.specs.Tasks.{HasTaskAt}

-- anywhere but at a local step
abbrev IsOff : At → Type 0
IsOff local = ⊥
IsOff (at_op w) = Unit {0}
IsOff (ended v) = Unit {0}
IsOff (faulted f p) = Unit {0}
IsOff nowhere = Unit {0}

off : (a b : At) → a ≡ b → IsOff b → a ≢ local
off a b e o l = subst IsOff (sym e ∙ l) o

module _ (P : ProgramView) where
  -- the body that its runner came to is the one that it is to stand for
  same_rest : (begun b c : BodyView) → Rest P begun b → LocalSteps P begun c → at c ≢ local → c ≡ b
  same_rest begun b c r steps over = one_rest P begun c b (record { reached = steps; over = over }) r

  -- where the machine is paused now
  halted : (n : MachineView) (k : Move) (begun b : BodyView) → Rest P begun b → After P (StandsFor P n.code) k begun → (p : At) → n.place ≡ p → HaltsIn k n p → GoesAs P n p b × (p ≡ at b)
  halted n k begun b r a local e h = absurd h
  halted n k begun b r a (at_op w) e h =
      let z = subst (λ x. After P (StandsFor P n.code) x begun) h a in
      let s = same_rest begun b z.0 r z.1 (off (at z.0) (at_op w) z.2 tt) in
      let stands : at b ≡ at_op w = subst (λ x. at x ≡ at_op w) s z.2 in
      ((stands, subst (λ (x : BodyView). x.turns ≡ n.state.turns) s z.3, λ v. subst (λ x. StandsFor P n.code (resumed v n.answer n.state) (fill v x)) s (z.4 v)), sym stands)
  halted n k begun b r a (ended v) e h =
      let z = subst (λ x. After P (StandsFor P n.code) x begun) h a in
      let s = same_rest begun b z.0 r z.1 (off (at z.0) (ended v) z.2 tt) in
      let stands : at b ≡ ended v = subst (λ x. at x ≡ ended v) s z.2 in
      ((stands, subst (λ (x : BodyView). x.turns ≡ n.state.turns) s z.3), sym stands)
  halted n k begun b r a (faulted f p) e h =
      let z = subst (λ x. After P (StandsFor P n.code) x begun) h a in
      let s = same_rest begun b z.0 r z.1 (off (at z.0) (faulted f p) z.2 tt) in
      let stands : at b ≡ faulted f p = subst (λ x. at x ≡ faulted f p) s z.2 in
      ((stands, subst (λ (x : BodyView). x.turns ≡ n.state.turns) s z.3), sym stands)
  halted n k begun b r a nowhere e h = absurd h

  machine_run_stands : (m n : MachineView) (b begun : BodyView) → StandsFor P m.code m.state begun → Rest P begun b → RunsToHalt m n → GoesAs P n n.place b × (n.place ≡ at b)
  machine_run_stands m n b begun g r (same, k, c, h) =
      halted n k begun b r (subst (λ C. After P (StandsFor P C) k begun) (sym same) (comes P m.code begun g c)) n.place refl h

  -- paused, it stays
  machine_stays : (m n : MachineView) (b : BodyView) → GoesAs P m m.place b → m.place ≡ at b → n ≡ m → GoesAs P n n.place b × (n.place ≡ at b)
  machine_stays m n b g e same = (subst (λ (x : MachineView). GoesAs P x x.place b) (sym same) g, subst (λ (x : MachineView). x.place ≡ at b) (sym same) e)

  machine_advanced_from : (m n : MachineView) (b : BodyView) (p : At) → m.place ≡ p → GoesAs P m p b → AdvancesFrom p m n → GoesAs P n n.place b × (n.place ≡ at b)
  machine_advanced_from m n b local e (begun, g, r) go_on = machine_run_stands m n b begun g r go_on
  machine_advanced_from m n b (at_op w) e g same = machine_stays m n b (subst (λ p. GoesAs P m p b) (sym e) g) (e ∙ sym g.0) same
  machine_advanced_from m n b (ended v) e g same = machine_stays m n b (subst (λ p. GoesAs P m p b) (sym e) g) (e ∙ sym g.0) same
  machine_advanced_from m n b (faulted f q) e g same = machine_stays m n b (subst (λ p. GoesAs P m p b) (sym e) g) (e ∙ sym g.0) same
  machine_advanced_from m n b nowhere e g same = absurd g

pub machine_advanced : (P : ProgramView) (m n : MachineView) (b : TaskBody) → MachineStandsAs P m b → Advances m n → MachineStandsAs P n b × (n.place ≡ body_at b)
machine_advanced P m n (script b) g go_on = machine_advanced_from P m n b m.place refl g go_on
machine_advanced P m n (system_task b) g go_on = absurd g

-- a machine that begins as a body stands for it at rest
pub machine_begun : (P : ProgramView) (m : MachineView) (b c : BodyView) → MachineBegins P m b → Rest P b c → MachineStandsAs P m (script c)
machine_begun P m b c (e, g) r = subst (λ p. GoesAs P m p c) (sym e) (b, g, r)

pub machine_answered : (P : ProgramView) (m n : MachineView) (b : TaskBody) (w : WantView) (v : Tree) → MachineStandsAs P m b → m.place ≡ at_op w → MachineGives m v n → (d : TaskBody) × BodyRest P (body_fill v b) d × MachineStandsAs P n d
machine_answered P m n (script b) w v g e (same, goes, new) =
    let at_it = subst (λ p. GoesAs P m p b) e g in
    let d = rests P (fill v b) in
    let over_same = subst (λ C. StandsFor P C (resumed v m.answer m.state) (fill v b)) (sym same) (at_it.2 v) in
    (script d.0, (d.0, d.1, refl), machine_begun P n (fill v b) d.0 (new, subst (λ c. StandsFor P n.code c (fill v b)) (sym goes) over_same) d.1)
machine_answered P m n (system_task b) w v g e h = absurd g

pub machine_started : (P : ProgramView) (seed : SeedView) (m : MachineView) → Starts P seed m → (b : TaskBody) × BodyRest P (new_task P seed) b × MachineStandsAs P m b
machine_started P (go n values result place) m s =
    let d = rests P (go_body P n values result) in
    (script d.0, (d.0, d.1, refl), machine_begun P m (go_body P n values result) d.0 s d.1)
machine_started P (system kind values place) m s = absurd s

abbrev IsSomewhere : At → Type 0
IsSomewhere local = Unit {0}
IsSomewhere (at_op w) = Unit {0}
IsSomewhere (ended v) = Unit {0}
IsSomewhere (faulted f p) = Unit {0}
IsSomewhere nowhere = ⊥

-- one that got its answer is over the same code, and goes on
pub machine_stays_over : (C : CodeView) (m n : MachineView) (v : Tree) → MachineGives m v n → IsOver C m → IsOver C n
machine_stays_over C m n v (same, goes, new) (is, some, has) = (same ∙ is, λ e. subst IsSomewhere (sym new ∙ e) tt, subst (HasTaskAt C) (sym new) tt)

-- it asks for no task but its code's
pub machine_asked : (C : CodeView) (m : MachineView) (seed : SeedView) (p : Place) → IsOver C m → m.place ≡ at_op (record { op = spawning seed; place = p }) → HasSeed C seed
machine_asked C m seed p (is, some, has) e = subst (HasTaskAt C) e has
