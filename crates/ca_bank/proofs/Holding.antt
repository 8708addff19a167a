-- Channels, queues and live waits in parts, and what the events do to them.
use Rattle.std.proofs.Common.{◌≡◌, ◌⊎◌, inl, inr, ⊎_elim, ℕ, List, [], ◌∷◌, ◌++◌, refl, sym, ap, ap₂, ◌∙◌, subst, Bool, true, false, not, ◌&&◌, cond, Option, Some, None, option_map, eqb, eqb-true, eq-eqb, ne_eqb, filter, append-nil}
use Rattle.std.specs.Map.{update}
use Rattle.std.proofs.lemmas.Bool.{eqb-false}
use Rattle.std.proofs.lemmas.List.Elements.{filter-append}
use Rattle.ca_value.specs.Tree.{Tree, nil, bool}
use Rattle.ca_term.specs.declared.event.Side.{Side}
use Rattle.ca_term.specs.declared.event.Side.TheVariants.{Take, Put}
use Rattle.ca_term.specs.Event.{BranchView, take_of, put_of}
use Rattle.ca_meaning.specs.Sound.{Each}
use Rattle.ca_meaning.specs.Channel.{Channel, has_room, is_promise, is_fixed, keeping}
use Rattle.ca_meaning.specs.Wait.{Wait, Handler, port_of, queue, handlers, head, front, without, is_live, is_among}
use Rattle.ca_meaning.specs.Row.{completes, row_at, row_on, put_open, put_alone, take_of_held, take_empty, unsettled, settles, settle_row, settle_put, settle_take}
use Rattle.ca_meaning.specs.State.{State}
use Rattle.ca_meaning.specs.Choice.{row}
use Rattle.ca_meaning.proofs.Waits.{handlers_of, queue_without, queue-append, not_live, live_else, live-append, other}
use Rattle.ca_bank.specs.Kept.{Kept, on, put_on, unattended}
use Rattle.ca_bank.specs.Holds.{WaitsDiffer, with_channel, channel_of, row_raw, IsAskedLive, AskedAfter, PutAsks, TakeAsks, Asks, TakerAsks, NextAsks, SettleAsks, AsksSettle, live_of, EachNamed, KeepsChannels, joined_queues, join_all, and_wait, but_wait}

pub filter_same : {A : Type 0} (t u : A → Bool) (xs : List A) → Each (λ x. t x ≡ u x) xs → filter t xs ≡ filter u xs
filter_same t u [] a = refl
filter_same t u (x ∷ xs) a = (λ k. cond (a.0 k) (x ∷ filter t xs) (filter t xs)) ∙ ap (λ l. cond (u x) (x ∷ l) l) (filter_same t u xs a.1)

pub filter-filter : {A : Type 0} (t u : A → Bool) (xs : List A) → filter t (filter u xs) ≡ filter (λ x. u x && t x) xs
filter-filter t u [] = refl
filter-filter t u (x ∷ xs) = by (u x) (filter-filter t u xs) where
  by : (b : Bool) → filter t (filter u xs) ≡ filter (λ x. u x && t x) xs
      → filter t (cond b (x ∷ filter u xs) (filter u xs)) ≡ cond (b && t x) (x ∷ filter (λ x. u x && t x) xs) (filter (λ x. u x && t x) xs)
  by true e = ap (λ l. cond (t x) (x ∷ l) l) e
  by false e = e

pub head_live : (alive : ℕ → Bool) (q : List Handler) → IsAskedLive alive (head q) → head (live_of alive q) ≡ head q
head_live alive [] k = refl
head_live alive (h ∷ q) k = ap (λ c. head (cond c (h ∷ live_of alive q) (live_of alive q))) k

-- a row asks only some first handlers; where these are live, it is the row by the live ones
asks_put : (alive : ℕ → Bool) (c : Channel) (closed is : Bool) (ts ps : List Handler) (v : Tree) → PutAsks alive c closed is (head ts) (head ps)
    → cond closed (completes (bool false) c) (cond is (completes (bool true) (keeping c v)) (put_open c (head (live_of alive ts)) (head (live_of alive ps)) v)) ≡ cond closed (completes (bool false) c) (cond is (completes (bool true) (keeping c v)) (put_open c (head ts) (head ps) v))
asks_put alive c true is ts ps v a = refl
asks_put alive c false true ts ps v a = refl
asks_put alive c false false ts ps v a = ap (λ t. put_open c t (head (live_of alive ps)) v) (head_live alive ts a.0) ∙ after (head ts) a.1 where
  alone : (room : Bool) → AskedAfter alive None room (head ps) → put_alone c room (head (live_of alive ps)) v ≡ put_alone c room (head ps) v
  alone true a = ap (λ p. put_alone c true p v) (head_live alive ps a)
  alone false a = refl

  after : (t : Option Handler) → AskedAfter alive t (has_room c) (head ps) → put_open c t (head (live_of alive ps)) v ≡ put_open c t (head ps) v
  after (Some h) a = refl
  after None a = alone (has_room c) a

asks_take : (alive : ℕ → Bool) (c : Channel) (vs : List Tree) (ps : List Handler) → TakeAsks alive vs (head ps) → take_of_held c vs (head (live_of alive ps)) ≡ take_of_held c vs (head ps)
asks_take alive c (v ∷ vs) ps a = refl
asks_take alive c [] ps a = ap (take_empty c) (head_live alive ps a)

pub row_live : (alive : ℕ → Bool) (k : Kept) (b : BranchView) → Asks alive b k → row_on k.channel (head (live_of alive k.takes)) (head (live_of alive k.puts)) b ≡ row_on k.channel (head k.takes) (head k.puts) b
row_live alive k (take_of p) a = asks_take alive k.channel k.channel.held k.puts a
row_live alive k (put_of p v) a = asks_put alive k.channel k.channel.closed (is_promise k.channel.policy) k.takes k.puts v a

differ_without : (w : ℕ) (ws : List Wait) → WaitsDiffer ws → WaitsDiffer (without w ws)
differ_without w [] d = tt
differ_without w (x ∷ xs) d = by (eqb w x.number) refl (differ_without w xs d.1) where
  by : (b : Bool) → eqb w x.number ≡ b → WaitsDiffer (without w xs) → WaitsDiffer (cond (not b) (x ∷ without w xs) (without w xs))
  by true e ih = ih
  by false e ih = (live_else x.number w xs e ∙ d.0, ih)

differ_joined : (ws : List Wait) (x : Wait) → WaitsDiffer ws → is_live x.number ws ≡ false → WaitsDiffer (ws ++ x ∷ [])
differ_joined [] x d new = (refl, tt)
differ_joined (y ∷ ws) x d new = by (eqb x.number y.number) refl (λ f. differ_joined ws x d.1 f) new where
  by : (b : Bool) → eqb x.number y.number ≡ b → (is_live x.number ws ≡ false → WaitsDiffer (ws ++ x ∷ [])) → cond b true (is_live x.number ws) ≡ false → WaitsDiffer (y ∷ (ws ++ x ∷ []))
  by true e ih f = absurd (let k : true ≡ false = f in cc)
  by false e ih f = (live-append y.number ws x ∙ ap (λ c. cond c true (is_live y.number ws)) (ne_eqb y.number x.number (λ z. eqb-false x.number y.number e (sym z))) ∙ d.0, ih f)

abbrev Chans : Type 0
Chans = ℕ → Option Channel

abbrev Ports : Type 0
Ports = ℕ → Option Kept

pub at_update : {X : Type 0} (f : ℕ → Option X) (p : ℕ) (x : X) (q : ℕ) (y : X) → update eqb f p (Some x) q ≡ Some y → ((p ≡ q) × (x ≡ y)) ⊎ (f q ≡ Some y)
at_update {X} f p x q y = by (eqb p q) refl where
  by : (b : Bool) → eqb p q ≡ b → cond b (Some x) (f q) ≡ Some y → ((p ≡ q) × (x ≡ y)) ⊎ (f q ≡ Some y)
  by true e h = inl (eqb-true p q e, cc)
  by false e h = inr h

pub not_at_update : {X : Type 0} (f : ℕ → Option X) (p : ℕ) (x : X) (q : ℕ) → update eqb f p (Some x) q ≡ None → f q ≡ None
not_at_update {X} f p x q = by (eqb p q) where
  by : (b : Bool) → cond b (Some x) (f q) ≡ None → f q ≡ None
  by true h = absurd (let k : Some x ≡ None = h in cc)
  by false h = h

pub update_again : {X : Type 0} (f : ℕ → Option X) (p : ℕ) (x : X) → f p ≡ Some x → update eqb f p (Some x) ≡ f
update_again {X} f p x e = λ i q. by (eqb p q) q refl i where
  by : (b : Bool) (q : ℕ) → eqb p q ≡ b → cond b (Some x) (f q) ≡ f q
  by true q is = sym e ∙ ap f (eqb-true p q is)
  by false q is = refl

-- other handlers that are stale, another channel: the same live ones in the same order
pub swapped : (ports : Ports) (alive : ℕ → Bool) (channels : Chans) (waits : List Wait) (used : List ℕ) (p : ℕ) (k k2 : Kept) → KeepsChannels ports alive channels waits used → ports p ≡ Some k
    → ((side : Side) → live_of alive (on side k2) ≡ live_of alive (on side k)) → ((side : Side) → EachNamed used (on side k2))
    → KeepsChannels (update eqb ports p (Some k2)) alive (update eqb channels p (Some k2.channel)) waits used
swapped ports alive channels waits used p k k2 h at same named = record {
  channels_are = λ q. by (eqb p q) (channels q) (ports q) (h.channels_are q);
  queues = λ side q j e. ⊎_elim (λ t. subst (λ (j : Kept). live_of alive (on side j) ≡ queue side q waits) t.1 (same side ∙ h.queues side p k at ∙ ap (λ n. queue side n waits) t.0)) (h.queues side q j) (at_update ports p k2 q j e);
  nowhere = λ side q e. h.nowhere side q (not_at_update ports p k2 q e);
  named = λ side q j e. ⊎_elim (λ t. subst (λ (j : Kept). EachNamed used (on side j)) t.1 (named side)) (h.named side q j) (at_update ports p k2 q j e);
  living = h.living;
  given = h.given;
  differ = h.differ;
} where
  by : (b : Bool) (c : Option Channel) (o : Option Kept) → c ≡ channel_of o → cond b (Some k2.channel) c ≡ channel_of (cond b (Some k2) o)
  by true c o e = refl
  by false c o e = e

-- the channel alone changes
pub changed : (ports : Ports) (alive : ℕ → Bool) (channels : Chans) (waits : List Wait) (used : List ℕ) (p : ℕ) (k : Kept) (c : Channel) → KeepsChannels ports alive channels waits used → ports p ≡ Some k
    → KeepsChannels (update eqb ports p (Some (with_channel c k))) alive (update eqb channels p (Some c)) waits used
changed ports alive channels waits used p k c h at = swapped ports alive channels waits used p k (with_channel c k) h at (λ side. by side) (λ side. by2 side (h.named side p k at)) where
  by : (side : Side) → live_of alive (on side (with_channel c k)) ≡ live_of alive (on side k)
  by Take = refl
  by Put = refl

  by2 : (side : Side) → EachNamed used (on side k) → EachNamed used (on side (with_channel c k))
  by2 Take a = a
  by2 Put a = a

-- a handler that stands first and is stale is taken out
pub pruned : (ports : Ports) (alive : ℕ → Bool) (channels : Chans) (waits : List Wait) (used : List ℕ) (p : ℕ) (k : Kept) (side : Side) (g : Handler) (q : List Handler) → KeepsChannels ports alive channels waits used → ports p ≡ Some k
    → on side k ≡ g ∷ q → alive g.wait ≡ false → KeepsChannels (update eqb ports p (Some (put_on side q k))) alive channels waits used
pruned ports alive channels waits used p k side g q h at is dead = subst (λ (f : Chans). KeepsChannels (update eqb ports p (Some (put_on side q k))) alive f waits used) (update_again channels p k.channel (h.channels_are p ∙ ap channel_of at))
    (subst (λ (c : Channel). KeepsChannels (update eqb ports p (Some (put_on side q k))) alive (update eqb channels p (Some c)) waits used) (same side)
    (swapped ports alive channels waits used p k (put_on side q k) h at (λ other. lives side other is) (λ other. names side other is (h.named other p k at)))) where
      same : (side : Side) → (put_on side q k).channel ≡ k.channel
      same Take = refl
      same Put = refl

      lives : (side other : Side) → on side k ≡ g ∷ q → live_of alive (on other (put_on side q k)) ≡ live_of alive (on other k)
      lives Take Take is = sym (ap (live_of alive) is ∙ ap (λ c. cond c (g ∷ live_of alive q) (live_of alive q)) dead)
      lives Take Put is = refl
      lives Put Take is = refl
      lives Put Put is = sym (ap (live_of alive) is ∙ ap (λ c. cond c (g ∷ live_of alive q) (live_of alive q)) dead)

      names : (side other : Side) → on side k ≡ g ∷ q → EachNamed used (on other k) → EachNamed used (on other (put_on side q k))
      names Take Take is a = let b : EachNamed used (g ∷ q) = subst (EachNamed used) is a in b.1
      names Take Put is a = a
      names Put Take is a = a
      names Put Put is a = let b : EachNamed used (g ∷ q) = subst (EachNamed used) is a in b.1

live_without : (alive : ℕ → Bool) (xs : List Handler) (g : Handler) (ys : List Handler) → alive g.wait ≡ false → live_of alive (xs ++ g ∷ ys) ≡ live_of alive (xs ++ ys)
live_without alive [] g ys dead = ap (λ c. cond c (g ∷ live_of alive ys) (live_of alive ys)) dead
live_without alive (x ∷ xs) g ys dead = ap (λ l. cond (alive x.wait) (x ∷ l) l) (live_without alive xs g ys dead)

named_without : (used : List ℕ) (xs : List Handler) (g : Handler) (ys : List Handler) → EachNamed used (xs ++ g ∷ ys) → EachNamed used (xs ++ ys)
named_without used [] g ys a = a.1
named_without used (x ∷ xs) g ys a = (a.0, named_without used xs g ys a.1)

-- a stale handler is taken out, wherever it stands in its queue
pub pruned_at : (ports : Ports) (alive : ℕ → Bool) (channels : Chans) (waits : List Wait) (used : List ℕ) (p : ℕ) (k : Kept) (side : Side) (xs : List Handler) (g : Handler) (ys : List Handler) → KeepsChannels ports alive channels waits used → ports p ≡ Some k
    → on side k ≡ xs ++ g ∷ ys → alive g.wait ≡ false → KeepsChannels (update eqb ports p (Some (put_on side (xs ++ ys) k))) alive channels waits used
pruned_at ports alive channels waits used p k side xs g ys h at is dead = subst (λ (f : Chans). KeepsChannels (update eqb ports p (Some (put_on side q k))) alive f waits used) (update_again channels p k.channel (h.channels_are p ∙ ap channel_of at))
    (subst (λ (c : Channel). KeepsChannels (update eqb ports p (Some (put_on side q k))) alive (update eqb channels p (Some c)) waits used) (same side)
    (swapped ports alive channels waits used p k (put_on side q k) h at (λ other. lives side other is) (λ other. names side other is (h.named other p k at)))) where
      q : List Handler
      q = xs ++ ys

      same : (side : Side) → (put_on side q k).channel ≡ k.channel
      same Take = refl
      same Put = refl

      lives : (side other : Side) → on side k ≡ xs ++ g ∷ ys → live_of alive (on other (put_on side q k)) ≡ live_of alive (on other k)
      lives Take Take is = sym (ap (live_of alive) is ∙ live_without alive xs g ys dead)
      lives Take Put is = refl
      lives Put Take is = refl
      lives Put Put is = sym (ap (live_of alive) is ∙ live_without alive xs g ys dead)

      names : (side other : Side) → on side k ≡ xs ++ g ∷ ys → EachNamed used (on other k) → EachNamed used (on other (put_on side q k))
      names Take Take is a = named_without used xs g ys (subst (EachNamed used) is a)
      names Take Put is a = a
      names Put Take is a = a
      names Put Put is a = named_without used xs g ys (subst (EachNamed used) is a)

-- one wait is taken out of the list and its shard: every queue is right as it is
pub taken_out : (ports : Ports) (alive : ℕ → Bool) (channels : Chans) (waits : List Wait) (used : List ℕ) (w : ℕ) → KeepsChannels ports alive channels waits used
    → KeepsChannels ports (but_wait alive w) channels (without w waits) used
taken_out ports alive channels waits used w h = record {
  channels_are = h.channels_are;
  queues = λ side p k e. sym (filter-filter (other w) (λ (g : Handler). alive g.wait) (on side k)) ∙ ap (filter (other w)) (h.queues side p k e) ∙ sym (queue_without side p w waits);
  nowhere = λ side p e. queue_without side p w waits ∙ ap (filter (other w)) (h.nowhere side p e);
  named = h.named;
  living = λ v. by (eqb w v) (alive v) v refl (h.living v);
  given = λ v e. h.given v (was (eqb w v) v refl e);
  differ = differ_without w waits h.differ;
} where
  by : (b a : Bool) (v : ℕ) → eqb w v ≡ b → a ≡ is_live v waits → a && not b ≡ is_live v (without w waits)
  by true true v e is = sym (ap (λ n. is_live n (without w waits)) (sym (eqb-true w v e)) ∙ not_live w waits)
  by true false v e is = sym (ap (λ n. is_live n (without w waits)) (sym (eqb-true w v e)) ∙ not_live w waits)
  by false true v e is = is ∙ sym (live_else v w waits e)
  by false false v e is = is ∙ sym (live_else v w waits e)

  was : (b : Bool) (v : ℕ) → eqb w v ≡ b → is_live v (without w waits) ≡ true → is_live v waits ≡ true
  was true v e is = absurd (let k : true ≡ false = sym is ∙ ap (λ n. is_live n (without w waits)) (sym (eqb-true w v e)) ∙ not_live w waits in cc)
  was false v e is = sym (live_else v w waits e) ∙ is

named_more : (used : List ℕ) (w : ℕ) (q : List Handler) → EachNamed used q → EachNamed (w ∷ used) q
named_more used w [] a = tt
named_more used w (h ∷ q) a = (by (eqb h.wait w) a.0, named_more used w q a.1) where
  by : (b : Bool) → is_among h.wait used ≡ true → cond b true (is_among h.wait used) ≡ true
  by true e = refl
  by false e = e

named_append : (used : List ℕ) (q r : List Handler) → EachNamed used q → EachNamed used r → EachNamed used (q ++ r)
named_append used [] r a b = b
named_append used (h ∷ q) r a b = (a.0, named_append used q r a.1 b)

named_new : (used : List ℕ) (w : ℕ) (q : List Handler) → Each (λ (h : Handler). h.wait ≡ w) q → EachNamed (w ∷ used) q
named_new used w [] a = tt
named_new used w (h ∷ q) a = (ap (λ c. cond c true (is_among h.wait used)) (eq-eqb h.wait w a.0), named_new used w q a.1)

-- handlers that were there before aren't of a new wait
still : (alive : ℕ → Bool) (used : List ℕ) (w : ℕ) (q : List Handler) → is_among w used ≡ false → EachNamed used q → live_of (and_wait alive w) q ≡ live_of alive q
still alive used w q fresh a = filter_same (λ (h : Handler). cond (eqb h.wait w) true (alive h.wait)) (λ (h : Handler). alive h.wait) q (each q a) where
  each : (q : List Handler) → EachNamed used q → Each (λ (h : Handler). cond (eqb h.wait w) true (alive h.wait) ≡ alive h.wait) q
  each [] a = tt
  each (h ∷ q) a = (ap (λ c. cond c true (alive h.wait)) (ne_eqb h.wait w (λ e. let k : true ≡ false = sym a.0 ∙ ap (λ n. is_among n used) e ∙ fresh in absurd cc)), each q a.1)

new_live : (alive : ℕ → Bool) (w : ℕ) (q : List Handler) → Each (λ (h : Handler). h.wait ≡ w) q → live_of (and_wait alive w) q ≡ q
new_live alive w [] a = refl
new_live alive w (h ∷ q) a = ap (λ c. cond (cond c true (alive h.wait)) (h ∷ live_of (and_wait alive w) q) (live_of (and_wait alive w) q)) (eq-eqb h.wait w a.0) ∙ ap (λ l. h ∷ l) (new_live alive w q a.1)

at_map : {X Y : Type 0} (f : X → Y) (o : Option X) (y : Y) → option_map f o ≡ Some y → (x : X) × (o ≡ Some x) × (f x ≡ y)
at_map f None y e = absurd (let k : None ≡ Some y = e in cc)
at_map f (Some x) y e = (x, refl, cc)

no_map : {X Y : Type 0} (f : X → Y) (o : Option X) → option_map f o ≡ None → o ≡ None
no_map f None e = refl
no_map f (Some x) e = absurd (let k : Some (f x) ≡ None = e in cc)

-- a new wait joins the queues of its branches
pub parked : (ports : Ports) (alive : ℕ → Bool) (channels : Chans) (waits : List Wait) (used : List ℕ) (x : Wait) → KeepsChannels ports alive channels waits used → is_among x.number used ≡ false
    → ((side : Side) (p : ℕ) → ports p ≡ None → handlers side p x.number 0 x.branches ≡ [])
    → KeepsChannels (join_all x.number x.branches ports) (and_wait alive x.number) channels (waits ++ x ∷ []) (x.number ∷ used)
parked ports alive channels waits used x h fresh there = record {
  channels_are = λ p. h.channels_are p ∙ by (ports p) p;
  queues = λ side p k e. let m = at_map (joined_queues x.number x.branches p) (ports p) k e in
      subst (λ (k : Kept). live_of (and_wait alive x.number) (on side k) ≡ queue side p (waits ++ x ∷ [])) m.2 (more side p m.0 m.1);
  nowhere = λ side p e. let n = no_map (joined_queues x.number x.branches p) (ports p) e in queue-append side p waits (x ∷ []) ∙ ap₂ (λ (a b : List Handler). a ++ (b ++ [])) (h.nowhere side p n) (there side p n);
  named = λ side p k e. let m = at_map (joined_queues x.number x.branches p) (ports p) k e in
      subst (λ (k : Kept). EachNamed (x.number ∷ used) (on side k)) m.2 (names side p m.0 (h.named side p m.0 m.1));
  living = λ v. ap (λ (c : Bool). cond (eqb v x.number) true c) (h.living v) ∙ sym (live-append v waits x);
  given = λ v e. use_it (eqb v x.number) v refl (sym (live-append v waits x) ∙ e);
  differ = differ_joined waits x h.differ (new_one (is_live x.number waits) refl);
} where
  new_one : (b : Bool) → is_live x.number waits ≡ b → is_live x.number waits ≡ false
  new_one false e = e
  new_one true e = absurd (let k : true ≡ false = sym (h.given x.number e) ∙ fresh in cc)

  by : (o : Option Kept) (p : ℕ) → channel_of o ≡ channel_of (option_map (joined_queues x.number x.branches p) o)
  by None p = refl
  by (Some k) p = refl

  on_joined : (side : Side) (p : ℕ) (k : Kept) → on side (joined_queues x.number x.branches p k) ≡ on side k ++ handlers side p x.number 0 x.branches
  on_joined Take p k = refl
  on_joined Put p k = refl

  more : (side : Side) (p : ℕ) (k : Kept) → ports p ≡ Some k → live_of (and_wait alive x.number) (on side (joined_queues x.number x.branches p k)) ≡ queue side p (waits ++ x ∷ [])
  more side p k e = ap (live_of (and_wait alive x.number)) (on_joined side p k) ∙ filter-append (λ (g : Handler). and_wait alive x.number g.wait) (on side k) (handlers side p x.number 0 x.branches)
      ∙ ap₂ (λ (a b : List Handler). a ++ b) (still alive used x.number (on side k) fresh (h.named side p k e) ∙ h.queues side p k e) (new_live alive x.number (handlers side p x.number 0 x.branches) (handlers_of side p x.number 0 x.branches) ∙ sym (append-nil (handlers side p x.number 0 x.branches)))
      ∙ sym (queue-append side p waits (x ∷ []))

  names : (side : Side) (p : ℕ) (k : Kept) → EachNamed used (on side k) → EachNamed (x.number ∷ used) (on side (joined_queues x.number x.branches p k))
  names side p k a = subst (EachNamed (x.number ∷ used)) (sym (on_joined side p k)) (named_append (x.number ∷ used) (on side k) (handlers side p x.number 0 x.branches) (named_more used x.number (on side k) a) (named_new used x.number (handlers side p x.number 0 x.branches) (handlers_of side p x.number 0 x.branches)))

  use_it : (b : Bool) (v : ℕ) → eqb v x.number ≡ b → cond b true (is_live v waits) ≡ true → cond b true (is_among v used) ≡ true
  use_it true v e l = refl
  use_it false v e l = h.given v l

-- a new channel
pub made : (ports : Ports) (alive : ℕ → Bool) (channels : Chans) (waits : List Wait) (used : List ℕ) (p : ℕ) (c : Channel) → KeepsChannels ports alive channels waits used → ports p ≡ None
    → KeepsChannels (update eqb ports p (Some (unattended c))) alive (update eqb channels p (Some c)) waits used
made ports alive channels waits used p c h none = record {
  channels_are = λ q. by (eqb p q) (channels q) (ports q) (h.channels_are q);
  queues = λ side q j e. ⊎_elim (λ t. subst (λ (j : Kept). live_of alive (on side j) ≡ queue side q waits) t.1 (empty side ∙ sym (ap (λ n. queue side n waits) (sym t.0) ∙ h.nowhere side p none))) (h.queues side q j) (at_update ports p (unattended c) q j e);
  nowhere = λ side q e. h.nowhere side q (not_at_update ports p (unattended c) q e);
  named = λ side q j e. ⊎_elim (λ t. subst (λ (j : Kept). EachNamed used (on side j)) t.1 (no_names side)) (h.named side q j) (at_update ports p (unattended c) q j e);
  living = h.living;
  given = h.given;
  differ = h.differ;
} where
  by : (b : Bool) (d : Option Channel) (o : Option Kept) → d ≡ channel_of o → cond b (Some c) d ≡ channel_of (cond b (Some (unattended c)) o)
  by true d o e = refl
  by false d o e = e

  empty : (side : Side) → live_of alive (on side (unattended c)) ≡ []
  empty Take = refl
  empty Put = refl

  no_names : (side : Side) → EachNamed used (on side (unattended c))
  no_names Take = tt
  no_names Put = tt

-- the row that the parts show is that of the state
pub row_right : (ports : Ports) (alive : ℕ → Bool) (s : State) (b : BranchView) (k : Kept) → KeepsChannels ports alive s.channels s.waits s.used → ports (port_of b) ≡ Some k → Asks alive b k → row s b ≡ row_raw k b
row_right ports alive s b k h at asks = ap (λ (c : Option Channel). row_at c (front Take (port_of b) s.waits) (front Put (port_of b) s.waits) b) (h.channels_are (port_of b) ∙ ap channel_of at)
    ∙ ap₂ (λ (x y : List Handler). row_on k.channel (head x) (head y) b) (sym (h.queues Take (port_of b) k at)) (sym (h.queues Put (port_of b) k at))
    ∙ row_live alive k b asks

-- more live waits are known
pub known_more : (a b : ℕ → Bool) → ((v : ℕ) → a v ≡ true → b v ≡ true) → (h : Option Handler) → IsAskedLive a h → IsAskedLive b h
known_more a b f None k = tt
known_more a b f (Some h) k = f h.wait k

after_more : (a b : ℕ → Bool) → ((v : ℕ) → a v ≡ true → b v ≡ true) → (ts : Option Handler) (room : Bool) (ps : Option Handler) → AskedAfter a ts room ps → AskedAfter b ts room ps
after_more a b f (Some h) room ps k = tt
after_more a b f None true ps k = known_more a b f ps k
after_more a b f None false ps k = tt

put_more : (a b : ℕ → Bool) → ((v : ℕ) → a v ≡ true → b v ≡ true) → (c : Channel) (closed is : Bool) (ts ps : Option Handler) → PutAsks a c closed is ts ps → PutAsks b c closed is ts ps
put_more a b f c true is ts ps k = tt
put_more a b f c false true ts ps k = tt
put_more a b f c false false ts ps k = (known_more a b f ts k.0, after_more a b f ts (has_room c) ps k.1)

take_more : (a b : ℕ → Bool) → ((v : ℕ) → a v ≡ true → b v ≡ true) → (vs : List Tree) (ps : Option Handler) → TakeAsks a vs ps → TakeAsks b vs ps
take_more a b f (v ∷ vs) ps k = tt
take_more a b f [] ps k = known_more a b f ps k

pub asks_more : (a b : ℕ → Bool) → ((v : ℕ) → a v ≡ true → b v ≡ true) → (o : BranchView) (k : Kept) → Asks a o k → Asks b o k
asks_more a b f (take_of p) k x = take_more a b f k.channel.held (head k.puts) x
asks_more a b f (put_of p v) k x = put_more a b f k.channel k.channel.closed (is_promise k.channel.policy) (head k.takes) (head k.puts) x

-- the same for what a channel settles by itself
taker_live : (alive : ℕ → Bool) (c : Channel) (closed : Bool) (vs : List Tree) (ts : List Handler) → c.closed ≡ closed → TakerAsks alive closed vs (head ts) → settle_take c vs (head (live_of alive ts)) ≡ settle_take c vs (head ts)
taker_live alive c closed (v ∷ vs) ts e a = ap (settle_take c (v ∷ vs)) (head_live alive ts a)
taker_live alive c true [] ts e a = ap (settle_take c []) (head_live alive ts a)
taker_live alive c false [] ts e a = stays_open (head (live_of alive ts)) ∙ sym (stays_open (head ts)) where
  stays_open : (o : Option Handler) → settle_take c [] o ≡ unsettled
  stays_open None = refl
  stays_open (Some h) = ap (λ b. cond b (settles Take h nil c) unsettled) e

put_live : (alive : ℕ → Bool) (c : Channel) (r : Bool) (ts ps : List Handler) → SettleAsks alive r c (head ts) (head ps) → settle_put c r (head (live_of alive ts)) (head (live_of alive ps)) ≡ settle_put c r (head ts) (head ps)
put_live alive c true ts ps a = ap (settle_put c true (head (live_of alive ts))) (head_live alive ps a.0) ∙ by (head ps) a.1 where
  by : (o : Option Handler) → NextAsks alive c.closed c.held (head ts) o → settle_put c true (head (live_of alive ts)) o ≡ settle_put c true (head ts) o
  by (Some h) a = refl
  by None a = taker_live alive c c.closed c.held ts refl a
put_live alive c false ts ps a = taker_live alive c c.closed c.held ts refl a

taker_more : (a b : ℕ → Bool) → ((v : ℕ) → a v ≡ true → b v ≡ true) → (closed : Bool) (vs : List Tree) (ts : Option Handler) → TakerAsks a closed vs ts → TakerAsks b closed vs ts
taker_more a b f closed (v ∷ vs) ts x = known_more a b f ts x
taker_more a b f true [] ts x = known_more a b f ts x
taker_more a b f false [] ts x = tt

settle_more : (a b : ℕ → Bool) → ((v : ℕ) → a v ≡ true → b v ≡ true) → (r : Bool) (c : Channel) (ts ps : Option Handler) → SettleAsks a r c ts ps → SettleAsks b r c ts ps
settle_more a b f true c ts None x = (tt, taker_more a b f c.closed c.held ts x.1)
settle_more a b f true c ts (Some h) x = (known_more a b f (Some h) x.0, tt)
settle_more a b f false c ts ps x = taker_more a b f c.closed c.held ts x

pub settles_more : (a b : ℕ → Bool) → ((v : ℕ) → a v ≡ true → b v ≡ true) → (k : Kept) → AsksSettle a k → AsksSettle b k
settles_more a b f k x = settle_more a b f (is_fixed k.channel.policy && has_room k.channel) k.channel (head k.takes) (head k.puts) x

pub settle_right : (ports : Ports) (alive : ℕ → Bool) (s : State) (p : ℕ) (k : Kept) → KeepsChannels ports alive s.channels s.waits s.used → ports p ≡ Some k → AsksSettle alive k
    → settle_row k.channel (front Take p s.waits) (front Put p s.waits) ≡ settle_row k.channel (head k.takes) (head k.puts)
settle_right ports alive s p k h at asks = ap₂ (λ (x y : List Handler). settle_row k.channel (head x) (head y)) (sym (h.queues Take p k at)) (sym (h.queues Put p k at))
    ∙ put_live alive k.channel (is_fixed k.channel.policy && has_room k.channel) k.takes k.puts asks
