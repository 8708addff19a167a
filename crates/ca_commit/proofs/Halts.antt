-- A decision that hangs on a wait that isn't seen to live: its handler stands in front of a queue, and the row asks it.
use Rattle.std.proofs.Common.{◌≡◌, ℕ, List, [], ◌∷◌, refl, Bool, true, false, ◌&&◌, Option, Some, None, is_some}
use Rattle.ca_value.specs.Tree.{Tree}
use Rattle.ca_term.specs.declared.event.Side.{Side}
use Rattle.ca_term.specs.declared.event.Side.TheVariants.{Take, Put}
use Rattle.ca_term.specs.Event.{BranchView, put_of, take_of}
use Rattle.ca_meaning.specs.Channel.{Channel, has_room, is_fixed, is_promise}
use Rattle.ca_meaning.specs.Wait.{Handler, head}
use Rattle.ca_commit.specs.Asks.{AskedAfter, Asks, AsksSettle, IsAskedLive, PutAsks, SettleAsks, TakeAsks, TakerAsks}
use Rattle.ca_commit.specs.Contents.{Kept}
use Rattle.ca_commit.specs.Finding.{Finding, Glance, Serving, found_by_asking, find_at, find_put, find_take, find_taker, gone, here, partner, rests_on_stale, rests_on_unheld, serve, serve_taker, serving, settle_at, stale, unheld, unready, unseen}

abbrev pub front_of : Side → Option Handler → Option Handler → Option Handler
front_of Take takes puts = takes
front_of Put takes puts = puts

module _ (see : ℕ → Glance) where
  -- the handler in front of that side is asked, and this is seen of its wait
  pub record Asked (asks : (ℕ → Bool) → Type 0) (takes puts : Option Handler) (side : Side) (z : Glance) : Type 0 where
    pub handler : Handler
    pub front : front_of side takes puts ≡ Some handler
    pub seen : see handler.wait ≡ z
    pub asked : (alive : ℕ → Bool) → asks alive → alive handler.wait ≡ true

  abbrev pub AskedUnseen : ((ℕ → Bool) → Type 0) → Option Handler → Option Handler → ℕ → Type 0
  AskedUnseen asks takes puts w = (side : Side) × (a : Asked asks takes puts side unseen) × (a.handler.wait ≡ w)

  -- what is found of a branch
  abbrev pub Halts : ((ℕ → Bool) → Type 0) → Option Handler → Option Handler → Finding → Type 0
  Halts asks takes puts (stale side) = Asked asks takes puts side gone
  Halts asks takes puts (unheld w) = AskedUnseen asks takes puts w
  Halts asks takes puts other = Unit {0}

  one_asked : (asks : (ℕ → Bool) → Type 0) (takes puts : Option Handler) (g : Handler) (side : Side) (live : Finding) → front_of side takes puts ≡ Some g → ((alive : ℕ → Bool) → asks alive → alive g.wait ≡ true) → Halts asks takes puts live
      → Halts asks takes puts (found_by_asking (see g.wait) side g.wait live)
  one_asked asks takes puts g side live front asked next = by (see g.wait) refl where
    by : (z : Glance) → see g.wait ≡ z → Halts asks takes puts (found_by_asking z side g.wait live)
    by here e = next
    by gone e = record { handler = g; front = front; seen = e; asked = asked }
    by unseen e = (side, record { handler = g; front = front; seen = e; asked = asked }, refl)

  taker_halts : (room : Bool) (takes puts : Option Handler) → Halts (λ alive. IsAskedLive alive takes × AskedAfter alive takes room puts) takes puts (find_taker see room takes puts)
  taker_halts room (Some g) puts = one_asked (λ alive. IsAskedLive alive (Some g) × AskedAfter alive (Some g) room puts) (Some g) puts g Take (partner g.wait g.branch) refl (λ alive a. a.0) tt
  taker_halts true None (Some g) = one_asked (λ alive. IsAskedLive alive None × AskedAfter alive None true (Some g)) None (Some g) g Put unready refl (λ alive a. a.1) tt
  taker_halts true None None = tt
  taker_halts false None puts = tt

  put_halts : (c : Channel) (closed promise : Bool) (takes puts : Option Handler) → Halts (λ alive. PutAsks alive c closed promise takes puts) takes puts (find_put see closed promise (has_room c) takes puts)
  put_halts c true promise takes puts = tt
  put_halts c false true takes puts = tt
  put_halts c false false takes puts = taker_halts (has_room c) takes puts

  take_halts : (vs : List Tree) (closed : Bool) (takes puts : Option Handler) → Halts (λ alive. TakeAsks alive vs puts) takes puts (find_take see (is_some (head vs)) closed puts)
  take_halts (v ∷ vs) closed takes puts = tt
  take_halts [] closed takes (Some g) = one_asked (λ alive. TakeAsks alive [] (Some g)) takes (Some g) g Put (partner g.wait g.branch) refl (λ alive a. a) tt
  take_halts [] true takes None = tt
  take_halts [] false takes None = tt

  pub found_halts : (k : Kept) (b : BranchView) → Halts (λ alive. Asks alive b k) (head k.takes) (head k.puts) (find_at see (Some k) b)
  found_halts k (take_of p) = take_halts k.channel.held k.channel.closed (head k.takes) (head k.puts)
  found_halts k (put_of p v) = put_halts k.channel k.channel.closed (is_promise k.channel.policy) (head k.takes) (head k.puts)

  -- what a channel settles
  abbrev pub Rests : ((ℕ → Bool) → Type 0) → Option Handler → Option Handler → Serving → Type 0
  Rests asks takes puts (rests_on_stale side) = Asked asks takes puts side gone
  Rests asks takes puts (rests_on_unheld w) = AskedUnseen asks takes puts w
  Rests asks takes puts other = Unit {0}

  one_served : (asks : (ℕ → Bool) → Type 0) (takes puts : Option Handler) (g : Handler) (side : Side) → front_of side takes puts ≡ Some g → ((alive : ℕ → Bool) → asks alive → alive g.wait ≡ true)
      → Rests asks takes puts (serving (see g.wait) side g)
  one_served asks takes puts g side front asked = by (see g.wait) refl where
    by : (z : Glance) → see g.wait ≡ z → Rests asks takes puts (serving z side g)
    by here e = tt
    by gone e = record { handler = g; front = front; seen = e; asked = asked }
    by unseen e = (side, record { handler = g; front = front; seen = e; asked = asked }, refl)

  taken_rests : (asks : (ℕ → Bool) → Type 0) (closed : Bool) (vs : List Tree) (takes puts : Option Handler) → ((alive : ℕ → Bool) → asks alive → TakerAsks alive closed vs takes) → Rests asks takes puts (serve_taker see (is_some (head vs)) closed takes)
  taken_rests asks closed (v ∷ vs) (Some g) puts f = one_served asks (Some g) puts g Take refl f
  taken_rests asks closed (v ∷ vs) None puts f = tt
  taken_rests asks true [] (Some g) puts f = one_served asks (Some g) puts g Take refl f
  taken_rests asks true [] None puts f = tt
  taken_rests asks false [] takes puts f = tt

  served_rests : (room : Bool) (c : Channel) (takes puts : Option Handler) → Rests (λ alive. SettleAsks alive room c takes puts) takes puts (serve see room puts (serve_taker see (is_some (head c.held)) c.closed takes))
  served_rests true c takes (Some g) = one_served (λ alive. SettleAsks alive true c takes (Some g)) takes (Some g) g Put refl (λ alive a. a.0)
  served_rests true c takes None = taken_rests (λ alive. SettleAsks alive true c takes None) c.closed c.held takes None (λ alive a. a.1)
  served_rests false c takes puts = taken_rests (λ alive. SettleAsks alive false c takes puts) c.closed c.held takes puts (λ alive a. a)

  pub settled_rests : (k : Kept) → Rests (λ alive. AsksSettle alive k) (head k.takes) (head k.puts) (settle_at see (Some k))
  settled_rests k = served_rests (is_fixed k.channel.policy && has_room k.channel) k.channel (head k.takes) (head k.puts)
