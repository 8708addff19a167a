-- Along every run of a checked program the users of ports are sole.
use Rattle.std.proofs.Common.{◌≡◌, ℕ, ◌≤◌, List, [], ◌∷◌, ◌++◌, sym, ap, ◌∙◌, subst, Some, None}
use Rattle.ca_term.specs.declared.place.Place.{Place}
use Rattle.ca_term.specs.Fits.{Suits}
use Rattle.ca_term.specs.Program.{ProgramView, IsProgram, known_in}
use Rattle.ca_term.specs.Event.{EventView}
use Rattle.ca_meaning.specs.Asks.{Next}
use Rattle.ca_meaning.specs.MultTable.{MultPorts, MultState}
use Rattle.ca_meaning.specs.PipelineTable.{FeedPorts, FeedState, CollectPorts, CollectState}
use Rattle.ca_meaning.specs.System.{a_mult, a_feed, a_collect}
use Rattle.ca_meaning.specs.Body.{BodyView, new_body}
use Rattle.ca_meaning.specs.IsBody.{IsBodyBy}
use Rattle.ca_meaning.specs.Task.{script, system_task}
use Rattle.ca_meaning.specs.State.{State, Task, Opening, runs}
use Rattle.ca_meaning.specs.Steps.{Step, Steps}
use Rattle.ca_meaning.specs.Legal.{Reaches}
use Rattle.ca_meaning.proofs.Soundness.{only_task}
use Rattle.ca_roles.specs.Roles.{hidden, Roles, no_roles}
use Rattle.ca_roles.specs.Sealed.{IsSealed}
use Rattle.ca_roles.specs.Once.{User, the_feed, the_collect, the_mult, UsesOnce, StartsOnce}
use Rattle.ca_roles.specs.Typed.{Typed}
use Rattle.ca_roles.specs.SoleUsers.{own_of, owns, IsUser, AreSole, ComeFirst}
use Rattle.ca_roles.proofs.Rested.{rest_sealed}
use Rattle.ca_roles.proofs.TypedSteps.{Onward}
use Rattle.ca_roles.proofs.TypedRuns.{Known, opening_known, bodies_known, step_known}
use Rattle.ca_roles.proofs.Answered.{same_script, count, not_hidden, steps_once}
use Rattle.ca_roles.proofs.Spending.{own_none}
use Rattle.ca_roles.proofs.Sole.{Spent, none_before}
use Rattle.ca_roles.proofs.SoleSteps.{spent_step}
use Rattle.ca_roles.proofs.Counted.{at_most}

module _ (program : ProgramView) (checked : IsProgram program) (sealed : IsSealed program) (starts : StartsOnce program) where
  -- the main text alone, which can start no user of a port that is there
  pub opening_spent : (s : State) → Opening program s → Spent s
  opening_spent s o = record {
    texts = λ t x d there is. (main t x d there is).0;
    once = λ t x d k q there is. (main t x d there is).1 k q;
    spent = λ t u x d k q there is user. no_user k q u user;
    sole = λ k q t u user other. no_user k q t user;
  } where
    alone : (t : ℕ) (x : Task) → s.tasks t ≡ Some x → x ≡ runs None o.0
    alone t x there = only_task o.0 t x (ap (λ (z : State). z.tasks t) (sym o.2) ∙ there)

    no_user : {G : Type 0} (k : User) (q t : ℕ) → IsUser s k q t → G
    no_user k q t user = own_none k q (sym (ap (λ (z : Task). own_of z.body) (alone t user.0 user.1) ∙ ap own_of o.1.2) ∙ user.2)

    main : (t : ℕ) (x : Task) (d : BodyView) → s.tasks t ≡ Some x → x.body ≡ script d → UsesOnce d.term × ((k : User) (q : ℕ) → count k q d.term ≤ 1)
    main t x d there is =
        let fits : IsBodyBy (Suits (known_in checked.plain program)) program.main = record { bound = checked.main_fits.bound; fits = checked.main_fits.fits } in
        let same = same_script o.1.0 d (sym (ap (λ (z : Task). z.body) (alone t x there) ∙ o.1.2) ∙ is) in
        let text = rest_sealed program checked sealed 0 no_roles (new_body program.main) o.1.0 o.1.1 fits (sealed.main 0) in
        subst (λ (z : BodyView). UsesOnce z.term × ((k : User) (q : ℕ) → count k q z.term ≤ 1)) same
        (steps_once program checked sealed starts 0 no_roles o.1.1.reached fits (sealed.main 0) starts.main, λ k q. at_most (count k q o.1.0.term) (not_hidden k q 0 no_roles o.1.0.term (λ h e. let j : None ≡ Some (hidden 0 h) = e in cc) text))

  -- the next event of a run
  pub sole_step : (journal : List EventView) (roles more : Roles) (s s2 : State) (e : EventView) → Known program journal roles s → Onward program roles more s s2 e → Step program s e s2 → Spent s → Spent s2
  sole_step journal roles more s s2 e k on x h =
      spent_step program checked sealed starts roles more s s2 e k.typed on.typed on.grows (bodies_known program checked sealed journal roles s k) k.traced.known.sound k.traced.stood on.answers x h

  -- and all of its events
  pub sole_steps : (es journal : List EventView) (roles : Roles) (s s2 : State) → Known program journal roles s → Spent s → Steps program s es s2 → (more : Roles) × Typed program more s2 × Spent s2
  sole_steps [] journal roles s s2 k h x = (roles, subst (Typed program roles) (sym x) k.typed, subst Spent (sym x) h)
  sole_steps (e ∷ es) journal roles s s2 k h x =
      let n = step_known program checked sealed journal roles s x.0 e k x.1 in
      sole_steps es (journal ++ e ∷ []) n.0 x.0 s2 n.2 (sole_step journal roles n.0 s x.0 e k n.1 x.1 h) x.2

  pub reached_sole : (journal : List EventView) (s : State) → Reaches program journal s → (roles : Roles) × Typed program roles s × Spent s
  reached_sole journal s r = sole_steps journal [] no_roles r.opening s (opening_known program checked sealed r.opening r.opens) (opening_spent r.opening r.opens) r.steps

  pub users_are_sole : (journal : List EventView) (s : State) → Reaches program journal s → AreSole s
  users_are_sole journal s r = (reached_sole journal s r).2.sole

  pub users_come_first : (journal : List EventView) (s : State) → Reaches program journal s → ComeFirst program s
  users_come_first journal s r t x seed k q u stands own user = let h = reached_sole journal s r in none_before program sealed h.0 s h.1 h.2 t x seed stands k q own u user

-- The same of each of the three kinds of tasks.
module _ (s : State) (sole : AreSole s) (t u : ℕ) (x y : Task) (l m : Place) (there : s.tasks t ≡ Some x) (at : s.tasks u ≡ Some y) where
  pub one_feed : (f g : FeedPorts) (n k : Next FeedState) → x.body ≡ system_task (a_feed f l n) → y.body ≡ system_task (a_feed g m k) → f.replies ≡ g.replies → t ≡ u
  one_feed f g n k is its e = sole the_feed f.replies t u (x, there, ap own_of is) (y, at, ap own_of its ∙ ap (owns the_feed) (sym e))

  pub one_collect : (c d : CollectPorts) (n k : Next CollectState) → x.body ≡ system_task (a_collect c l n) → y.body ≡ system_task (a_collect d m k) → c.replies ≡ d.replies → t ≡ u
  one_collect c d n k is its e = sole the_collect c.replies t u (x, there, ap own_of is) (y, at, ap own_of its ∙ ap (owns the_collect) (sym e))

  pub one_mult : (a b : MultPorts) (n k : Next MultState) → x.body ≡ system_task (a_mult a l n) → y.body ≡ system_task (a_mult b m k) → a.acks ≡ b.acks → t ≡ u
  one_mult a b n k is its e = sole the_mult a.acks t u (x, there, ap own_of is) (y, at, ap own_of its ∙ ap (owns the_mult) (sym e))
