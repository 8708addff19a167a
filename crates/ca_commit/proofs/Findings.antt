-- What is found of a branch is its row, and all that it asks is live; where the decision hangs on a handler that is
-- stale or unseen, not all is.
use Rattle.std.proofs.Common.{◌≡◌, ℕ, List, [], ◌∷◌, refl, sym, ap, ◌∙◌, Bool, true, false, cond, Option, Some, None, is_some}
use Rattle.ca_value.specs.Tree.{Tree, nil, bool}
use Rattle.ca_term.specs.declared.event.Side.{Side}
use Rattle.ca_term.specs.declared.event.Side.TheVariants.{Take, Put}
use Rattle.ca_term.specs.Event.{BranchView, take_of, put_of}
use Rattle.ca_meaning.specs.Channel.{Channel, giving, has_room, is_promise, keeping}
use Rattle.ca_meaning.specs.ChannelSteps.{other_side}
use Rattle.ca_meaning.specs.Row.{Row, completes, meets, not_ready, put_alone, put_open, take_of_held}
use Rattle.ca_meaning.specs.Wait.{Handler, head, side_of}
use Rattle.ca_commit.specs.Asks.{AskedAfter, Asks, IsAskedLive, PutAsks, TakeAsks, row_raw}
use Rattle.ca_commit.specs.Contents.{Kept, on}
use Rattle.ca_commit.specs.Finding.{Finding, Glance, alone, found_by_asking, find_at, find_put, find_rival, find_take, find_taker, gone, here, partner, stale, unheld, unready, unseen}

abbrev pub is_here : Glance → Bool
is_here here = true
is_here gone = false
is_here unseen = false

-- what a finding says of a row, of what it asks, and of the front of the other side
abbrev pub Says : (ℕ → Bool) → Finding → Type 0 → Row → Option Handler → Type 0
Says alive unready asked r front = asked × (r ≡ not_ready)
Says alive alone asked r front = asked × ((v : Tree) × (after : Channel) × (r ≡ completes v after))
Says alive (partner w o) asked r front = asked × ((h : Handler) × (v : Tree) × (r ≡ meets h v) × (h.wait ≡ w) × (h.branch ≡ o) × (front ≡ Some h) × (alive w ≡ true))
Says alive (stale side) asked r front = asked → ⊥
Says alive (unheld w) asked r front = asked → ⊥

module _ (see : ℕ → Glance) where
  abbrev pub lives : ℕ → Bool
  lives w = is_here (see w)

  -- a handler is asked
  asks_one : (h : Handler) (side : Side) (next : Finding) (asked : Type 0) (r : Row) (front : Option Handler) → (lives h.wait ≡ true → Says lives next asked r front) → (asked → lives h.wait ≡ true) → Says lives (found_by_asking (see h.wait) side h.wait next) asked r front
  asks_one h side next asked r front f g = by (see h.wait) refl where
    by : (z : Glance) → see h.wait ≡ z → Says lives (found_by_asking z side h.wait next) asked r front
    by here e = f (ap is_here e)
    by gone e = λ a. absurd (let k : true ≡ false = sym (g a) ∙ ap is_here e in cc)
    by unseen e = λ a. absurd (let k : true ≡ false = sym (g a) ∙ ap is_here e in cc)

  found_put_open : (c : Channel) (v : Tree) (ts ps : Option Handler) → Says lives (find_taker see (has_room c) ts ps) (IsAskedLive lives ts × AskedAfter lives ts (has_room c) ps) (put_open c ts ps v) ts
  found_put_open c v (Some h) ps = asks_one h Take (partner h.wait h.branch) (IsAskedLive lives (Some h) × AskedAfter lives (Some h) (has_room c) ps) (meets h v) (Some h) (λ e. ((e, tt), (h, v, refl, refl, refl, refl, e))) (λ a. a.0)
  found_put_open c v None ps = by (has_room c) ps where
    by : (r : Bool) (ps : Option Handler) → Says lives (cond r (find_rival see ps) unready) (IsAskedLive lives None × AskedAfter lives None r ps) (put_alone c r ps v) None
    by true None = ((tt, tt), (bool true, keeping c v, refl))
    by true (Some h) = asks_one h Put unready (IsAskedLive lives None × AskedAfter lives None true (Some h)) not_ready None (λ e. ((tt, e), refl)) (λ a. a.1)
    by false ps = ((tt, tt), refl)

  found_put : (c : Channel) (v : Tree) (closed promise : Bool) (ts ps : Option Handler)
      → Says lives (find_put see closed promise (has_room c) ts ps) (PutAsks lives c closed promise ts ps) (cond closed (completes (bool false) c) (cond promise (completes (bool true) (keeping c v)) (put_open c ts ps v))) ts
  found_put c v true promise ts ps = (tt, (bool false, c, refl))
  found_put c v false true ts ps = (tt, (bool true, keeping c v, refl))
  found_put c v false false ts ps = found_put_open c v ts ps

  found_take : (c : Channel) (vs : List Tree) (ps : Option Handler) → Says lives (find_take see (is_some (head vs)) c.closed ps) (TakeAsks lives vs ps) (take_of_held c vs ps) ps
  found_take c (v ∷ vs) ps = (tt, (v, giving c, refl))
  found_take c [] (Some h) = asks_one h Put (partner h.wait h.branch) (IsAskedLive lives (Some h)) (meets h h.value) (Some h) (λ e. (e, (h, h.value, refl, refl, refl, refl, e))) (λ a. a)
  found_take c [] None = by c.closed where
    by : (b : Bool) → Says lives (cond b alone unready) (Unit {0}) (cond b (completes nil c) not_ready) None
    by true = (tt, (nil, c, refl))
    by false = (tt, refl)

  pub found : (k : Kept) (b : BranchView) → Says lives (find_at see (Some k) b) (Asks lives b k) (row_raw k b) (head (on (other_side (side_of b)) k))
  found k (take_of p) = found_take k.channel k.channel.held (head k.puts)
  found k (put_of p v) = found_put k.channel v k.channel.closed (is_promise k.channel.policy) (head k.takes) (head k.puts)
