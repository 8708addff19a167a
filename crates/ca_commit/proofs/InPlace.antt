-- What the calls of `in_place` lean on: where a branch stands, and the room that a put needs which is done at once.
use Rattle.std.proofs.Common.{◌≡◌, ◌<◌, ℕ, zero, suc, arith, List, [], ◌∷◌, length, map, slice_index_or, refl, sym, ap, ◌∙◌, subst, Option, Some, None, Bool, true, false, is_some}
use Rattle.ca_value.specs.Tree.{Tree}
use Rattle.ca_value.specs.Buffer.{Policy, dropping_buffer, fixed_buffer, is_full, no_buffer, promise_buffer, room_by, sliding_buffer}
use Rattle.ca_value.specs.declared.value.Value.{Value}
use Rattle.ca_term.specs.declared.event.Side.{Side}
use Rattle.ca_term.specs.declared.event.Side.TheVariants.{Put, Take}
use Rattle.ca_term.specs.Event.{BranchView, put_of, take_of}
use Rattle.ca_value.specs.View.{trees, view}
use Rattle.ca_meaning.specs.Body.{At}
use Rattle.ca_meaning.specs.Choice.{branch_of}
use Rattle.ca_meaning.specs.Operands.{values_in}
use Rattle.ca_meaning.specs.ChannelSteps.{other_side}
use Rattle.ca_meaning.specs.Channel.{has_room, is_promise}
use Rattle.ca_meaning.specs.Wait.{Handler, port_of, side_of, told}
use Rattle.ca_bank.specs.Bank.{SameBank, SameRegistries}
use Rattle.ca_bank.specs.declared.bank.Bank.{Bank}
use Rattle.ca_bank.specs.Kept.{Spares, buffer_at, buffer_spare, is_closed_at, takes_one_more}
use Rattle.ca_commit.specs.Agents.{TaskAgent}
use Rattle.ca_commit.specs.Branching.{branches_in}
use Rattle.ca_commit.specs.Contents.{Kept, Parked}
use Rattle.ca_commit.specs.Finding.{Glance, alone, find_at, find_put, front_at, here, put_at}
use Rattle.ca_commit.specs.Replies.{HasDoneRoom}
use Rattle.ca_commit.specs.Standing.{nth_branch}
use Rattle.ca_commit.specs.Waking.{IsMadeForWaiter, WakesBy, Woke, passing}
use Rattle.ca_commit.proofs.BranchLaws.{branches_are, count_is}
use Rattle.ca_commit.proofs.SettleMade.{room_buffers}
use Rattle.ca_commit.proofs.Woken.{wakes_by}

module _ {A : Type 0} (place : A → At) (gives : A → Tree → A → Type 0) (m : ℕ → Option Kept) where
  -- whoever waited goes on with what the branch passes, where c is the branch as it was read, and so p, s, v and t are
  pub wakes_met : (b c : BranchView) (p : ℕ) (s s2 : Side) (v t : Tree) (parked q : Option (Parked (TaskAgent A))) (made : Option Value) (old old2 new : Option (List (ℕ × TaskAgent A)))
      → c ≡ b → p ≡ port_of c → s ≡ side_of c → s2 ≡ other_side s → v ≡ passing (m (port_of c)) c → t ≡ told s2 v
      → IsMadeForWaiter place parked p t made → q ≡ parked → old2 ≡ old → Woke gives q made old2 new
      → WakesBy place gives parked (port_of b) (told (other_side (side_of b)) (passing (m (port_of b)) b)) old new
  wakes_met b c p s s2 v t parked q made old old2 new ce pe se s2e ve te for qe oe woke =
      let p2 : p ≡ port_of b = pe ∙ ap port_of ce in
      let s3 : s2 ≡ other_side (side_of b) = s2e ∙ ap other_side (se ∙ ap side_of ce) in
      let v2 : v ≡ passing (m (port_of b)) b = ve ∙ ap (λ z. passing (m (port_of z)) z) ce in
      let t2 : t ≡ told (other_side (side_of b)) (passing (m (port_of b)) b) = te ∙ ap (λ z. told z v) s3 ∙ ap (told (other_side (side_of b))) v2 in
      subst (λ (x : Tree). WakesBy place gives parked (port_of b) x old new) t2
      (subst (λ (x : ℕ). WakesBy place gives parked x t old new) p2
      (wakes_by place gives parked p t made old new for (subst (λ (z : Option (Parked (TaskAgent A))). Woke gives z made old new) qe (subst (λ (z : Option (List (ℕ × TaskAgent A))). Woke gives q made z new) oe woke))))

  -- the same of a channel that settles
  pub wakes_served : (s : Side) (p : ℕ) (v t x : Tree) (parked q : Option (Parked (TaskAgent A))) (made : Option Value) (old old2 new : Option (List (ℕ × TaskAgent A)))
      → v ≡ x → t ≡ told s v → IsMadeForWaiter place parked p t made → q ≡ parked → old2 ≡ old → Woke gives q made old2 new → WakesBy place gives parked p (told s x) old new
  wakes_served s p v t x parked q made old old2 new ve te for qe oe woke =
      subst (λ (z : Tree). WakesBy place gives parked p z old new) (te ∙ ap (told s) ve)
      (wakes_by place gives parked p t made old new for (subst (λ (z : Option (Parked (TaskAgent A))). Woke gives z made old new) qe (subst (λ (z : Option (List (ℕ × TaskAgent A))). Woke gives q made z new) oe woke)))

-- the bank is the same after both
pub same_again : (a b c : Bank) → SameBank a b → SameBank b c → SameBank a c
same_again a b c e f = (f.0 ∙ e.0, f.1 ∙ e.1, omega (arith, e.2, f.2), omega (arith, e.3, f.3))

pub registries_again : (a b c : Bank) → SameRegistries a b → SameRegistries b c → SameRegistries a c
registries_again a b c e f = ((λ p. f.0 p ∙ e.0 p), (λ p. f.1 p ∙ e.1 p))

promise_room : (p : Policy) (full : Bool) → is_promise p ≡ true → room_by p full ≡ true
promise_room no_buffer full e = absurd cc
promise_room fixed_buffer full e = absurd cc
promise_room dropping_buffer full e = absurd cc
promise_room sliding_buffer full e = absurd cc
promise_room promise_buffer full e = refl

put_alone : (c p r : Bool) (t u : Option Handler) → alone ≡ find_put (λ w. here) c p r t u → c ≡ false → (p ≡ true → r ≡ true) → r ≡ true
put_alone true p r t u f e g = absurd cc
put_alone false true r t u f e g = g refl
put_alone false false r (Some h) u f e g = absurd cc
put_alone false false true None u f e g = refl
put_alone false false false None u f e g = absurd cc

-- a put that is done at once in an open channel has room in its buffer
alone_room : (o : Option Kept) → ((see : ℕ → Glance) → alone ≡ put_at see o) → is_closed_at o ≡ false → takes_one_more o ≡ true
alone_room None f e = absurd (let x = f (λ w. here) in cc)
alone_room (Some k) f e = put_alone k.channel.closed (is_promise k.channel.policy) (has_room k.channel) (front_at Take (Some k)) (front_at Put (Some k)) (f (λ w. here)) e (promise_room k.channel.policy (is_full k.channel.capacity k.channel.held))

-- and where that was reserved, it can be done
pub alone_reserved : (o : Option Kept) (x : Option Spares) (b : BranchView) → ((see : ℕ → Glance) → alone ≡ find_at see o b) → (is_some (buffer_at o) ≡ true → 0 < buffer_spare x) → HasDoneRoom o x b
alone_reserved o x (take_of p) f spare = tt
alone_reserved o x (put_of p v) f spare = λ e. let r = alone_room o f e in (r, spare (room_buffers o r))

-- branch 0 is the only one of a list of one
pub only_one : (b : BranchView) (k : ℕ) → k < length (b ∷ []) → nth_branch (b ∷ []) k ≡ b
only_one b zero lt = refl
only_one b (suc k) lt = absurd (omega (arith, lt))

-- the branches of an alts by its ports
pub nth_is : (vs : List Value) (k : ℕ) (v : Value) → k < length vs → v ≡ slice_index_or vs k v → nth_branch (branches_in vs) k ≡ branch_of (view v)
nth_is [] k v lt e = absurd (omega (arith, lt))
nth_is (u ∷ vs) zero v lt e = ap (λ x. branch_of (view x)) (sym e)
nth_is (u ∷ vs) (suc k) v lt e = nth_is vs k v (omega (arith, lt)) e

pub within_ports : (vs : List Value) (k : ℕ) → k < length (map branch_of (values_in (trees vs))) → k < length vs
within_ports vs k lt = let e : length (map branch_of (values_in (trees vs))) ≡ length vs = ap length (branches_are vs) ∙ count_is vs in omega (arith, lt, e)

pub branch_is : (vs : List Value) (k : ℕ) → nth_branch (branches_in vs) k ≡ nth_branch (map branch_of (values_in (trees vs))) k
branch_is vs k = ap (λ bs. nth_branch bs k) (sym (branches_are vs))
