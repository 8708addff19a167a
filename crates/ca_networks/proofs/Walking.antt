-- Along the events of a run of which all states are guarded.
use Rattle.std.proofs.Common.{List, [], ◌∷◌, ◌++◌, refl, sym, subst, append_assoc, append-nil}
use Rattle.ca_term.specs.Program.{ProgramView}
use Rattle.ca_term.specs.Event.{EventView}
use Rattle.ca_meaning.specs.State.{State, Opening}
use Rattle.ca_meaning.specs.Steps.{Step, Steps}
use Rattle.ca_meaning.specs.Legal.{Reaches}
use Rattle.ca_laws.proofs.Deeding.{Traced, traced_step, traced_steps, opening_traced}
use Rattle.ca_roles.specs.Roles.{Roles, no_roles}
use Rattle.ca_networks.proofs.Guarded.{Guard, Turn, Guarded}

pub guarded_split : (program : ProgramView) (xs ys : List EventView) (roles more : Roles) (s last : State) → Guarded program roles s (xs ++ ys) more last → (next : Roles) × (mid : State) × Guarded program roles s xs next mid × Guarded program next mid ys more last
guarded_split program [] ys roles more s last g = (roles, s, (refl, refl, first ys g), g) where
  first : (ys : List EventView) → Guarded program roles s ys more last → Guard program roles s
  first [] g = g.2
  first (e ∷ es) g = g.0
guarded_split program (e ∷ xs) ys roles more s last g = let r = guarded_split program xs ys g.2 more g.1 last g.5 in (r.0, r.1, (g.0, g.1, g.2, g.3, g.4, r.2), r.3)

pub first_guard : (program : ProgramView) (es : List EventView) (roles more : Roles) (s last : State) → Guarded program roles s es more last → Guard program roles s
first_guard program [] roles more s last g = g.2
first_guard program (e ∷ es) roles more s last g = g.0

pub last_guard : (program : ProgramView) (es : List EventView) (roles more : Roles) (s last : State) → Guarded program roles s es more last → Guard program more last
last_guard program [] roles more s last g = subst (λ r. Guard program r last) (sym g.1) (subst (Guard program roles) (sym g.0) g.2)
last_guard program (e ∷ es) roles more s last g = last_guard program es g.2 more g.1 last g.5

pub steps_of : (program : ProgramView) (es : List EventView) (roles more : Roles) (s last : State) → Guarded program roles s es more last → Steps program s es last
steps_of program [] roles more s last g = g.0
steps_of program (e ∷ es) roles more s last g = (g.1, g.3, steps_of program es g.2 more g.1 last g.5)

-- what each event keeps of a state from which so many events lead to the last one
abbrev pub Keeps : ProgramView → State → (List EventView → Roles → State → Type 0) → Type 0
Keeps program last P =
    (journal rest : List EventView) (roles more : Roles) (s mid : State) (e : EventView) → Traced journal s → Guard program roles s → Step program s e mid → Turn program roles more s e → Guard program more mid → Steps program mid rest last → P journal roles s → P (journal ++ e ∷ []) more mid

pub walk : (program : ProgramView) (P : List EventView → Roles → State → Type 0) (last : State) → Keeps program last P → (es journal : List EventView) (roles more : Roles) (s : State) → Traced journal s → Guarded program roles s es more last → P journal roles s → P (journal ++ es) more last × Traced (journal ++ es) last
walk program P last keeps [] journal roles more s traced g p = (subst (λ j. P j more last) (sym (append-nil journal)) (subst (λ r. P journal r last) (sym g.1) (subst (P journal roles) (sym g.0) p)), subst (λ j. Traced j last) (sym (append-nil journal)) (subst (Traced journal) (sym g.0) traced))
walk program P last keeps (e ∷ es) journal roles more s traced g p =
    subst (λ j. P j more last × Traced j last) (append_assoc journal (e ∷ []) es)
    (walk program P last keeps es (journal ++ e ∷ []) g.2 more g.1 (traced_step program journal s g.1 e g.3 traced) g.5
    (keeps journal es roles g.2 s g.1 e traced g.0 g.3 g.4 (first_guard program es g.2 more g.1 last g.5) (steps_of program es g.2 more g.1 last g.5) p))

pub steps_join : (program : ProgramView) (xs ys : List EventView) (s mid last : State) → Steps program s xs mid → Steps program mid ys last → Steps program s (xs ++ ys) last
steps_join program [] ys s mid last k l = subst (λ z. Steps program z ys last) k l
steps_join program (e ∷ xs) ys s mid last k l = (k.0, k.1, steps_join program xs ys k.0 mid last k.2 l)

-- a run cut before one of its events
pub record Cut (program : ProgramView) (before : List EventView) (e : EventView) (after : List EventView) (more : Roles) (last : State) : Type 0 where
  pub roles : Roles
  pub state : State
  pub guard : Guard program roles state
  pub traced : Traced before state
  pub reaches : Reaches program before state
  pub next : Roles
  pub state2 : State
  pub step : Step program state e state2
  pub turn : Turn program roles next state e
  pub rest : Guarded program next state2 after more last

module _ (program : ProgramView) (before : List EventView) (e : EventView) (after : List EventView) (more : Roles) (last : State) (cut : Cut program before e after more last) where
  pub guard_after : Guard program cut.next cut.state2
  guard_after = first_guard program after cut.next more cut.state2 last cut.rest

  pub traced_after : Traced (before ++ e ∷ []) cut.state2
  traced_after = traced_step program before cut.state cut.state2 e cut.step cut.traced

-- what all events before the first cut keep; and all between two cuts
pub first_cut : (program : ProgramView) (xs ys : List EventView) (e : EventView) (more : Roles) (opening last : State) → Opening program opening → Guarded program no_roles opening (xs ++ e ∷ ys) more last
    → (cut : Cut program xs e ys more last) × ((P : List EventView → Roles → State → Type 0) → Keeps program cut.state P → P [] no_roles opening → P xs cut.roles cut.state)
first_cut program xs ys e more opening last opens g =
    let a = guarded_split program xs (e ∷ ys) no_roles more opening last g in
    let steps = steps_of program xs no_roles a.0 opening a.1 a.2 in (
      record { roles = a.0; state = a.1; guard = a.3.0; traced = traced_steps program xs [] opening a.1 steps (opening_traced program opening opens); reaches = record { opening = opening; opens = opens; steps = steps }; next = a.3.2; state2 = a.3.1; step = a.3.3; turn = a.3.4; rest = a.3.5 },
      λ P keeps p. (walk program P a.1 keeps xs [] no_roles a.0 opening (opening_traced program opening opens) a.2 p).0,
    )

pub next_cut : (program : ProgramView) (before ms ys : List EventView) (e d : EventView) (more : Roles) (last : State) (cut : Cut program before e (ms ++ d ∷ ys) more last)
    → (second : Cut program (before ++ e ∷ ms) d ys more last) × ((P : List EventView → Roles → State → Type 0) → Keeps program second.state P → P (before ++ e ∷ []) cut.next cut.state2 → P (before ++ e ∷ ms) second.roles second.state)
next_cut program before ms ys e d more last cut =
    let a = guarded_split program ms (d ∷ ys) cut.next more cut.state2 last cut.rest in
    let steps = steps_of program ms cut.next a.0 cut.state2 a.1 a.2 in
    let traced = traced_after program before e (ms ++ d ∷ ys) more last cut in (
      record {
        roles = a.0;
        state = a.1;
        guard = a.3.0;
        traced = subst (λ j. Traced j a.1) (append_assoc before (e ∷ []) ms) (traced_steps program ms (before ++ e ∷ []) cut.state2 a.1 steps traced);
        reaches = record { opening = cut.reaches.opening; opens = cut.reaches.opens; steps = steps_join program before (e ∷ ms) cut.reaches.opening cut.state a.1 cut.reaches.steps (cut.state2, cut.step, steps) };
        next = a.3.2;
        state2 = a.3.1;
        step = a.3.3;
        turn = a.3.4;
        rest = a.3.5;
      },
      λ P keeps p. subst (λ j. P j a.0 a.1) (append_assoc before (e ∷ []) ms) (walk program P a.1 keeps ms (before ++ e ∷ []) cut.next a.0 cut.state2 traced a.2 p).0,
    )

pub last_part : (program : ProgramView) (before ys : List EventView) (e : EventView) (more : Roles) (last : State) (cut : Cut program before e ys more last)
    → (P : List EventView → Roles → State → Type 0) → Keeps program last P → P (before ++ e ∷ []) cut.next cut.state2 → P (before ++ e ∷ ys) more last
last_part program before ys e more last cut P keeps p =
    subst (λ j. P j more last) (append_assoc before (e ∷ []) ys) (walk program P last keeps ys (before ++ e ∷ []) cut.next more cut.state2 (traced_after program before e ys more last cut) cut.rest p).0
