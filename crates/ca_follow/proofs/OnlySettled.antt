-- What a channel settles, and what the clock closes, is the only such event that the meaning allows.
use Rattle.std.proofs.Common.{◌≡◌, ℕ, List, [], ◌∷◌, refl, sym, ap, ◌∙◌, subst, arith, Bool, true, false, ◌&&◌, cond, Option, Some, None, is_some, mod-lt}
use Rattle.ca_value.specs.Tree.{Tree, nil}
use Rattle.ca_term.specs.declared.event.Side.{Side}
use Rattle.ca_term.specs.declared.event.Side.TheVariants.{Put, Take}
use Rattle.ca_term.specs.Event.{settled, ticked}
use Rattle.ca_term.specs.Program.{ProgramView}
use Rattle.ca_meaning.specs.Body.{At}
use Rattle.ca_meaning.specs.Channel.{Channel, giving, has_room, is_fixed, keeping}
use Rattle.ca_meaning.specs.Row.{Settling, settle_put, settle_row, settle_take, settles, unsettled}
use Rattle.ca_meaning.specs.State.{State}
use Rattle.ca_meaning.specs.Steps.{Step}
use Rattle.ca_meaning.specs.Task.{TaskBody}
use Rattle.ca_meaning.specs.Wait.{Handler, front, head}
use Rattle.ca_commit.specs.Asks.{AsksSettle, SettleAsks, TakerAsks}
use Rattle.ca_commit.specs.Contents.{Kept, alive_in, channel_of, home, whole}
use Rattle.ca_commit.specs.Finding.{Glance, Serving, glance, glance_at, glance_in, gone, here, rests, rests_on_stale, rests_on_unheld, serve, serve_taker, serves, serving, settle_at, unseen}
use Rattle.ca_commit.specs.Replies.{or_nil}
use Rattle.ca_commit.specs.Settling.{value_settled}
use Rattle.ca_commit.proofs.Findings.{is_here, lives}
use Rattle.ca_commit.proofs.Holding.{settle_right}
use Rattle.ca_commit.proofs.PlanTold.{lives_same}
use Rattle.ca_follow.specs.Ending.{TicksOnly}
use Rattle.ca_follow.specs.Follows.{Follows}
use Rattle.ca_follow.specs.Has.{AreAll, Has, IsAll, parts_had}
use Rattle.ca_follow.specs.Settles.{ServesOnly}

-- what a look at a channel that may settle says of what it settles, and of what it asks; v is what it would serve
abbrev pub Tells : (ℕ → Glance) → Serving → Type 0 → Settling → (Side → Tree) → Type 0
Tells see rests asked r v = asked × (r ≡ unsettled)
Tells see (serves side w o) asked r v = asked × ((g : Handler) × (after : Channel) × (r ≡ settles side g (v side) after) × (g.wait ≡ w) × (g.branch ≡ o))
Tells see (rests_on_stale side) asked r v = Unit {0}
Tells see (rests_on_unheld w) asked r v = see w ≡ unseen

module _ (see : ℕ → Glance) where
  -- the handler in front is asked
  asked_front : (g : Handler) (side : Side) (asked : Type 0) (r : Settling) (v : Side → Tree) (after : Channel) → (lives see g.wait ≡ true → asked) → r ≡ settles side g (v side) after → Tells see (serving (see g.wait) side g) asked r v
  asked_front g side asked r v after f row = by (see g.wait) refl where
    by : (z : Glance) → see g.wait ≡ z → Tells see (serving z side g) asked r v
    by here e = (f (ap is_here e), (g, after, row, refl, refl))
    by gone e = tt
    by unseen e = e

  abbrev values_of : Channel → List Handler → List Handler → Side → Tree
  values_of c ts ps side = value_settled side (Some (record { channel = c; takes = ts; puts = ps }))

  taker_tells : (c : Channel) (vs : List Tree) (closed : Bool) (ts ps : List Handler) → c.held ≡ vs → c.closed ≡ closed
      → Tells see (serve_taker see (is_some (head vs)) closed (head ts)) (TakerAsks (lives see) closed vs (head ts)) (settle_take c vs (head ts)) (values_of c ts ps)
  taker_tells c (v ∷ vs) closed [] ps e d = (tt, refl)
  taker_tells c (v ∷ vs) closed (g ∷ q) ps e d = asked_front g Take (TakerAsks (lives see) closed (v ∷ vs) (Some g)) (settles Take g v (giving c)) (values_of c (g ∷ q) ps) (giving c) (λ a. a) (ap (λ l. settles Take g (or_nil (head l)) (giving c)) (sym e))
  taker_tells c [] true [] ps e d = (tt, refl)
  taker_tells c [] true (g ∷ q) ps e d = asked_front g Take (TakerAsks (lives see) true [] (Some g)) (settle_take c [] (Some g)) (values_of c (g ∷ q) ps) c (λ a. a)
      (ap (λ b. cond b (settles Take g nil c) unsettled) d ∙ ap (λ l. settles Take g (or_nil (head l)) c) (sym e))
  taker_tells c [] false [] ps e d = (tt, refl)
  taker_tells c [] false (g ∷ q) ps e d = (tt, ap (λ b. cond b (settles Take g nil c) unsettled) d)

  serve_tells : (c : Channel) (ts ps : List Handler) (room : Bool)
      → Tells see (serve see room (head ps) (serve_taker see (is_some (head c.held)) c.closed (head ts))) (SettleAsks (lives see) room c (head ts) (head ps)) (settle_put c room (head ts) (head ps)) (values_of c ts ps)
  serve_tells c ts ps false = taker_tells c c.held c.closed ts ps refl refl
  serve_tells c ts (g ∷ q) true = asked_front g Put (SettleAsks (lives see) true c (head ts) (Some g)) (settles Put g g.value (keeping c g.value)) (values_of c ts (g ∷ q)) (keeping c g.value) (λ a. (a, tt)) refl
  serve_tells c ts [] true = with_no_putter (serve_taker see (is_some (head c.held)) c.closed (head ts)) (taker_tells c c.held c.closed ts [] refl refl) where
    with_no_putter : (z : Serving) → Tells see z (TakerAsks (lives see) c.closed c.held (head ts)) (settle_take c c.held (head ts)) (values_of c ts []) → Tells see z (Unit {0} × TakerAsks (lives see) c.closed c.held (head ts)) (settle_take c c.held (head ts)) (values_of c ts [])
    with_no_putter rests t = ((tt, t.0), t.1)
    with_no_putter (serves side w o) t = ((tt, t.0), t.1)
    with_no_putter (rests_on_stale side) t = tt
    with_no_putter (rests_on_unheld w) t = t

  pub settle_tells : (k : Kept) → Tells see (settle_at see (Some k)) (AsksSettle (lives see) k) (settle_row k.channel (head k.takes) (head k.puts)) (λ side. value_settled side (Some k))
  settle_tells k = serve_tells k.channel k.takes k.puts (is_fixed k.channel.policy && has_room k.channel)

-- where all shards are held, each wait is seen
pub all_seen : {X : Type 0} (shards : ℕ → Option (ℕ → Option X)) (w : ℕ) → AreAll shards → glance shards w ≡ unseen → ⊥
all_seen {X} shards w all e = by (shards (home w)) (all (home w) (mod-lt w (omega arith))) e where
  in_it : (o : Option X) → glance_in o ≡ unseen → ⊥
  in_it None e = cc
  in_it (Some x) e = cc

  by : (o : Option (ℕ → Option X)) → is_some o ≡ true → glance_at o w ≡ unseen → ⊥
  by None there e = cc
  by (Some f) there e = in_it (f w) e

module _ {A : Type 0} (place : A → At) (stands : ProgramView → A → TaskBody → Type 0) (program : ProgramView) where
  pub only_settled : (h : Has A) (s s2 : State) (w k p : ℕ) (side : Side) (v : Tree) → Follows place stands program h s → IsAll h → Step program s (settled w k side p v) s2
      → ServesOnly w k side v (whole h.bank p) (settle_at (glance h.shard) (whole h.bank p))
  only_settled h s s2 w k p side v follows all step = by (whole h.bank p) refl where
    c : Channel
    c = step.0

    -- by the finding
    found : (z : Serving) (kept : Kept) (asked : Type 0) → Tells (glance h.shard) z asked (settle_row kept.channel (head kept.takes) (head kept.puts)) (λ d. value_settled d (Some kept))
        → (asked → settles side step.2 v step.1 ≡ settle_row kept.channel (head kept.takes) (head kept.puts)) → ServesOnly w k side v (Some kept) z
    found rests kept asked t row = absurd (let e : settles side step.2 v step.1 ≡ unsettled = row t.0 ∙ t.1 in cc)
    found (serves d x o) kept asked t row = let e : settles side step.2 v step.1 ≡ settles d t.1.0 (value_settled d (Some kept)) t.1.1 = row t.0 ∙ t.1.2 in
        let same_side : d ≡ side = cc in
        let same : t.1.0 ≡ step.2 = cc in
        let value : value_settled d (Some kept) ≡ v = cc in (
          same_side,
          sym t.1.3 ∙ ap (λ (g : Handler). g.wait) same ∙ step.6,
          sym t.1.4 ∙ ap (λ (g : Handler). g.branch) same ∙ step.7,
          ap (λ (y : Side). value_settled y (Some kept)) (sym same_side) ∙ value,
        )
    found (rests_on_stale d) kept asked t row = tt
    found (rests_on_unheld x) kept asked t row = absurd (all_seen h.shard x all.shards t)

    by : (o : Option Kept) → whole h.bank p ≡ o → ServesOnly w k side v o (settle_at (glance h.shard) o)
    by None e = absurd (let z : None ≡ Some c = ap channel_of (sym e) ∙ sym (follows.holds.channels_are p) ∙ step.4 in cc)
    by (Some kept) e =
        let same : kept.channel ≡ c = let z : Some kept.channel ≡ Some c = ap channel_of (sym e) ∙ sym (follows.holds.channels_are p) ∙ step.4 in cc in
        found (settle_at (glance h.shard) (Some kept)) kept (AsksSettle (lives (glance h.shard)) kept) (settle_tells (glance h.shard) kept)
        (λ a. sym step.5 ∙ ap (λ (d : Channel). settle_row d (front Take p s.waits) (front Put p s.waits)) (sym same)
        ∙ settle_right (whole h.bank) (alive_in (parts_had h)) s p kept follows.holds e (subst (λ (f : ℕ → Bool). AsksSettle f kept) (lives_same (parts_had h)) a))

  pub only_ticked : (h : Has A) (s s2 : State) (m : ℕ) (ports : List ℕ) → Follows place stands program h s → Step program s (ticked m ports) s2 → TicksOnly m ports h.times
  only_ticked h s s2 m ports follows step = (record { deadlines = s.deadlines; now = s.now }, follows.times, step.0, step.1, step.2, step.3)
