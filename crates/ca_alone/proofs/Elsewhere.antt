-- The lane's task is in no other part.
use Rattle.std.proofs.Common.{◌≡◌, ℕ, List, [], ◌∷◌, sym, ap, ◌∙◌, Option, Some}
use Rattle.ca_term.specs.Program.{ProgramView}
use Rattle.ca_meaning.specs.Body.{At}
use Rattle.ca_meaning.specs.Task.{TaskBody}
use Rattle.ca_meaning.specs.State.{State, Tasks}
use Rattle.ca_commit.specs.Agents.{TaskAgent}
use Rattle.ca_commit.specs.Contents.{LaneView, Parts, whole}
use Rattle.ca_commit.specs.Seated.{Apart, EachSeated, Seat, in_lane, in_ready}
use Rattle.ca_commit.specs.Stands.{Stands}
use Rattle.ca_commit.proofs.Seats.{runs_not}
use Rattle.ca_alone.proofs.Counting.{NoOwner}

module _ {A : Type 0} (stands : A → Option ℕ → TaskBody → Type 0) where
  each_apart : (tasks : Tasks) (seat : ℕ → Seat) (t w r : ℕ) → seat t ≡ in_lane w → (q : List (ℕ × A)) → EachSeated stands tasks seat r q → Apart t q
  each_apart tasks seat t w r at [] a = tt
  each_apart tasks seat t w r at (x ∷ q) a = (λ e. (let k : in_ready r ≡ in_lane w = sym a.0 ∙ ap seat (sym e) ∙ at in absurd cc), each_apart tasks seat t w r at q a.2)

module _ {A : Type 0} (place : TaskAgent A → At) (stands : ProgramView → TaskAgent A → Option ℕ → TaskBody → Type 0) (program : ProgramView) (n : ℕ) (now : Parts (TaskAgent A)) (s : State) (st : Stands place stands program n now s)
    (w : ℕ) (l : LaneView (TaskAgent A)) (t : ℕ) (a : TaskAgent A) (at : now.lane w ≡ Some l) (on : l.task ≡ Some (t, a)) where
  pub not_ready_too : (r : ℕ) (q : List (ℕ × TaskAgent A)) → now.ready r ≡ Some q → Apart t q
  not_ready_too r q e = each_apart (stands program) s.tasks st.seated.seat t w r (st.seated.laned w l t a at on).0 q (st.seated.queued r q e)

  pub no_owner_too : NoOwner t (whole now.shard)
  no_owner_too v u c e same = let mine = (st.seated.laned w l t a at on).1 in let o = (st.seated.owners v u c e).1 in
      runs_not (s.tasks t) mine.0 o.0 v mine.1.0 mine.1.1 (ap s.tasks same ∙ o.1.0) o.1.1
