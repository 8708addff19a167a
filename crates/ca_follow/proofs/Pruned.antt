-- A stale handler that is pruned is no event: what is left follows the same state.
use Rattle.std.proofs.Common.{◌≡◌, ℕ, ◌++◌, refl, sym, ap, ◌∙◌, subst, false, Option, Some, option_map, is_some}
use Rattle.ca_term.specs.declared.event.Side.{Side}
use Rattle.ca_term.specs.Program.{ProgramView}
use Rattle.ca_meaning.specs.Body.{At}
use Rattle.ca_meaning.specs.State.{State}
use Rattle.ca_meaning.specs.Task.{TaskBody}
use Rattle.ca_bank.specs.Kept.{pruned}
use Rattle.ca_commit.specs.Agents.{TaskAgent}
use Rattle.ca_commit.specs.Contents.{Kept, Parked, alive, at_key, put_on, whole}
use Rattle.ca_commit.specs.Deciding.{IsStale}
use Rattle.ca_commit.specs.Holds.{KeepsChannels}
use Rattle.ca_commit.specs.Listing.{changed_at}
use Rattle.ca_commit.specs.SilentMoves.{MovesPrune}
use Rattle.ca_commit.proofs.EventMoves.{prune_moves}
use Rattle.ca_commit.proofs.Holding.{pruned_at}
use Rattle.ca_follow.specs.Follows.{Follows}
use Rattle.ca_follow.specs.Has.{Has, parts_had}
use Rattle.ca_follow.proofs.Altered.{whole_altered}
use Rattle.ca_follow.proofs.Going.{follows_by, tracks_of}

module _ {A : Type 0} (place : A → At) (stands : ProgramView → A → TaskBody → Type 0) (program : ProgramView) where
  pub pruned_follows : (h : Has A) (s : State) (p : ℕ) (side : Side) (i : ℕ) → IsStale (parts_had h) p side i → Follows place stands program h s
      → Follows place stands program (record h { bank = changed_at p (option_map (pruned side i)) h.bank }) s
  pruned_follows h s p side i stale f = let h2 : Has A = record h { bank = changed_at p (option_map (pruned side i)) h.bank } in
      let m : MovesPrune side p stale.handler.wait (parts_had h) (parts_had h2) = prune_moves (parts_had h) (parts_had h2) p side i stale (λ n. refl) (λ n. refl) (λ n. refl) (λ n. refl) (λ n. refl) refl in
      let dead : alive (whole h.shard) m.h.wait ≡ false = ap (λ (o : Option (Parked (TaskAgent A))). is_some o) (ap (λ (o : Option (ℕ → Option (Parked (TaskAgent A)))). at_key o m.h.wait) m.shard ∙ m.gone) in
      follows_by place stands program h2 s
      (subst (λ (z : ℕ → Option Kept). KeepsChannels z (alive (whole h.shard)) s.channels s.waits s.used) (sym (whole_altered h.bank h2.bank p (Some (put_on side (m.front ++ m.rest) m.kept)) m.banks))
      (pruned_at (whole h.bank) (alive (whole h.shard)) s.channels s.waits s.used p m.kept side m.front m.h m.rest f.holds m.there m.in_queue dead))
      f.registered (tracks_of place stands program h s f) f.times f.used
