-- What the calls of a channel that settles promise is how it moves the parts.
use Rattle.std.proofs.Common.{◌≡◌, ℕ, List, [], ◌∷◌, refl, sym, ap, ◌∙◌, subst, Bool, true, false, ◌&&◌, cond, Option, Some, None, option_map, is_some, remove}
use Rattle.ca_value.specs.Tree.{Tree, nil}
use Rattle.ca_value.specs.Buffer.{Policy, dropping_buffer, fixed_buffer, give_first, no_buffer, promise_buffer, sliding_buffer}
use Rattle.ca_term.specs.declared.event.Side.{Side}
use Rattle.ca_term.specs.declared.event.Side.TheVariants.{Put, Take}
use Rattle.ca_term.specs.Program.{ProgramView}
use Rattle.ca_meaning.specs.Body.{At}
use Rattle.ca_meaning.specs.Channel.{Channel, giving, has_room, is_fixed, keeping}
use Rattle.ca_meaning.specs.Row.{settle_put, settle_row, settle_take, settles, unsettled}
use Rattle.ca_meaning.specs.Wait.{Handler, head, told}
use Rattle.ca_commit.specs.Agents.{TaskAgent, place_of, wakes_of}
use Rattle.ca_commit.specs.Asks.{AsksSettle, SettleAsks, TakerAsks}
use Rattle.ca_commit.specs.ChannelMoves.{MovesSettle}
use Rattle.ca_commit.specs.Contents.{Kept, Parked, alive_in, on, put_on, whole, with_channel}
use Rattle.ca_commit.specs.EventMoves.{SettleMoves}
use Rattle.ca_commit.specs.Finding.{Glance, glance, gone, here, serve, serve_taker, serves, serving, settle_at, unseen}
use Rattle.ca_commit.specs.Moves.{Alters}
use Rattle.ca_commit.specs.Replies.{or_nil}
use Rattle.ca_commit.specs.Settling.{settle_change, value_settled}
use Rattle.ca_commit.specs.Waking.{WakesBy}
use Rattle.ca_commit.proofs.Altered.{alters}
use Rattle.ca_commit.proofs.Findings.{is_here, lives}
use Rattle.ca_commit.proofs.Meetings.{there_is, woken_in}
use Rattle.ca_commit.proofs.PlanTold.{lives_same}

-- what it is that a channel serves a side
record Served (see : ℕ → Glance) (k : Kept) (side : Side) (w o : ℕ) : Type 0 where
  h : Handler
  rest : List Handler
  after : Channel
  in_front : on side k ≡ h ∷ rest
  wait_is : h.wait ≡ w
  branch_is : h.branch ≡ o
  seen : see h.wait ≡ here
  asks : AsksSettle (lives see) k
  by_row : settle_row k.channel (head k.takes) (head k.puts) ≡ settles side h (value_settled side (Some k)) after
  change : settle_change side (value_settled side (Some k)) k ≡ with_channel after (put_on side rest k)

give_none : (p : Policy) → give_first p [] ≡ []
give_none no_buffer = refl
give_none fixed_buffer = refl
give_none dropping_buffer = refl
give_none sliding_buffer = refl
give_none promise_buffer = refl

module _ (see : ℕ → Glance) where
  -- what it is that a taker is served
  record Taken (c : Channel) (vs : List Tree) (closed : Bool) (ts : List Handler) (side : Side) (w o : ℕ) : Type 0 where
    h : Handler
    rest : List Handler
    after : Channel
    side_is : side ≡ Take
    in_front : ts ≡ h ∷ rest
    wait_is : h.wait ≡ w
    branch_is : h.branch ≡ o
    seen : see h.wait ≡ here
    asks : TakerAsks (lives see) closed vs (head ts)
    by_row : settle_take c vs (head ts) ≡ settles Take h (or_nil (head vs)) after
    left : giving c ≡ after

  taken : (c : Channel) (vs : List Tree) (closed : Bool) (ts : List Handler) (side : Side) (w o : ℕ) → c.held ≡ vs → c.closed ≡ closed → serve_taker see (is_some (head vs)) closed (head ts) ≡ serves side w o → Taken c vs closed ts side w o
  taken c (v ∷ vs) closed [] side w o e d s = absurd cc
  taken c (v ∷ vs) closed (g ∷ q) side w o e d s = by (see g.wait) refl s where
    by : (z : Glance) → see g.wait ≡ z → serving z Take g ≡ serves side w o → Taken c (v ∷ vs) closed (g ∷ q) side w o
    by here f s = record { h = g; rest = q; after = giving c; side_is = let k : side ≡ Take = cc in k; in_front = refl; wait_is = let k : g.wait ≡ w = cc in k; branch_is = let k : g.branch ≡ o = cc in k; seen = f; asks = ap is_here f; by_row = refl; left = refl }
    by gone f s = absurd cc
    by unseen f s = absurd cc
  taken c [] true [] side w o e d s = absurd cc
  taken c [] true (g ∷ q) side w o e d s = by (see g.wait) refl s where
    stays : giving c ≡ c
    stays = ap (λ vs. record { policy = c.policy; capacity = c.capacity; held = vs; closed = c.closed }) (ap (give_first c.policy) e ∙ give_none c.policy ∙ sym e)

    by : (z : Glance) → see g.wait ≡ z → serving z Take g ≡ serves side w o → Taken c [] true (g ∷ q) side w o
    by here f s = record { h = g; rest = q; after = c; side_is = let k : side ≡ Take = cc in k; in_front = refl; wait_is = let k : g.wait ≡ w = cc in k; branch_is = let k : g.branch ≡ o = cc in k; seen = f; asks = ap is_here f; by_row = ap (λ b. cond b (settles Take g nil c) unsettled) d; left = stays }
    by gone f s = absurd cc
    by unseen f s = absurd cc
  taken c [] false ts side w o e d s = absurd cc

  abbrev kept_of : Channel → List Handler → List Handler → Kept
  kept_of c ts ps = record { channel = c; takes = ts; puts = ps }

  -- a taker that is served, where no put moves in
  of_taker : (c : Channel) (ts ps : List Handler) (side : Side) (w o : ℕ) (b : Bool) → (is_fixed c.policy && has_room c) ≡ b → (t : Taken c c.held c.closed ts side w o) → SettleAsks (lives see) b c (head ts) (head ps) → settle_put c b (head ts) (head ps) ≡ settle_take c c.held (head ts) → Served see (kept_of c ts ps) side w o
  of_taker c ts ps side w o b e t asks row = subst (λ (d : Side). Served see (kept_of c ts ps) d w o) (sym t.side_is) (record {
    h = t.h;
    rest = t.rest;
    after = t.after;
    in_front = t.in_front;
    wait_is = t.wait_is;
    branch_is = t.branch_is;
    seen = t.seen;
    asks = subst (λ (z : Bool). SettleAsks (lives see) z c (head ts) (head ps)) (sym e) asks;
    by_row = ap (λ (z : Bool). settle_put c z (head ts) (head ps)) e ∙ row ∙ t.by_row;
    change = ap (λ (q : List Handler). kept_of (giving c) (remove q 0) ps) t.in_front ∙ ap (λ (d : Channel). kept_of d t.rest ps) t.left;
  })

  served_by : (c : Channel) (ts ps : List Handler) (side : Side) (w o : ℕ) (b : Bool) → (is_fixed c.policy && has_room c) ≡ b → serve see b (head ps) (serve_taker see (is_some (head c.held)) c.closed (head ts)) ≡ serves side w o → Served see (kept_of c ts ps) side w o
  served_by c ts ps side w o false e s = let t = taken c c.held c.closed ts side w o refl refl s in of_taker c ts ps side w o false e t t.asks refl
  served_by c ts [] side w o true e s = let t = taken c c.held c.closed ts side w o refl refl s in of_taker c ts [] side w o true e t (tt, t.asks) refl
  served_by c ts (g ∷ q) side w o true e s = by (see g.wait) refl s where
    by : (z : Glance) → see g.wait ≡ z → serving z Put g ≡ serves side w o → Served see (kept_of c ts (g ∷ q)) side w o
    by here f s = let side_is : side ≡ Put = cc in subst (λ (d : Side). Served see (kept_of c ts (g ∷ q)) d w o) (sym side_is) (record {
      h = g;
      rest = q;
      after = keeping c g.value;
      in_front = refl;
      wait_is = let k : g.wait ≡ w = cc in k;
      branch_is = let k : g.branch ≡ o = cc in k;
      seen = f;
      asks = subst (λ (z : Bool). SettleAsks (lives see) z c (head ts) (Some g)) (sym e) (ap is_here f, tt);
      by_row = ap (λ (z : Bool). settle_put c z (head ts) (Some g)) e;
      change = refl;
    })
    by gone f s = absurd cc
    by unseen f s = absurd cc

  served_at : (k : Kept) (side : Side) (w o : ℕ) → settle_at see (Some k) ≡ serves side w o → Served see k side w o
  served_at k side w o s = served_by k.channel k.takes k.puts side w o (is_fixed k.channel.policy && has_room k.channel) refl s

module _ {A : Type 0} (place : A → At) (advances : ProgramView → A → A → Type 0) (gives : A → Tree → A → Type 0) where
  pub settle_moves : SettleMoves place gives
  settle_moves old new w wait o p side q serves_it banks registries shards there others stays wakes lanes timers = by (whole old.bank p) refl where
    v : Tree
    v = value_settled side (whole old.bank p)

    by : (z : Option Kept) → whole old.bank p ≡ z → MovesSettle (place_of place) (wakes_of gives) w wait o side p v old new
    by None at = absurd (let k : settle_at (glance old.shard) None ≡ serves side wait o = ap (settle_at (glance old.shard)) (sym at) ∙ serves_it in cc)
    by (Some k) at = let s = served_at (glance old.shard) k side wait o (ap (settle_at (glance old.shard)) (sym at) ∙ serves_it) in
        let value : value_settled side (Some k) ≡ v = ap (value_settled side) (sym at) in
        let alive : alive_in old wait ≡ true = sym (ap (λ (f : ℕ → Bool). f wait) (lives_same old)) ∙ ap (λ (n : ℕ). lives (glance old.shard) n) (sym s.wait_is) ∙ ap is_here s.seen in
        let x = there_is (whole old.shard wait) alive in record {
          h = s.h;
          after = s.after;
          rest = s.rest;
          kept = k;
          there = at;
          asks = subst (λ (f : ℕ → Bool). AsksSettle f k) (lives_same old) s.asks;
          by_row = s.by_row ∙ ap (λ (z : Tree). settles side s.h z s.after) value;
          wait_is = s.wait_is;
          branch_is = s.branch_is;
          in_front = s.in_front;
          banks = subst (λ (z : Option Kept). Alters old.bank new.bank p z) (ap (λ (z : Tree). Some (settle_change side z k)) (sym value) ∙ ap Some s.change) (alters old.bank new.bank p (option_map (settle_change side v)) k at banks);
          registries = registries;
          parked = x.0;
          lives = x.1;
          shards = alters old.shard new.shard wait (λ z. None) x.0 x.1 shards;
          lanes = lanes;
          wakes_up = woken_in place advances gives old new w p x.0 (told side v) q there others (subst (λ (z : Option (Parked (TaskAgent A))). WakesBy place gives z p (told side v) (old.ready w) (new.ready w)) x.1 wakes) stays;
          timers = timers;
        }
