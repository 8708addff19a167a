-- A channel that rests whichever of its handlers are stale, and a bank of such.
use Rattle.std.proofs.Common.{◌≡◌, ◌∙◌, ◌+◌, ◌<◌, ℕ, zero, suc, List, [], ◌∷◌, refl, sym, ap, arith, Bool, true, false, ◌&&◌, cond, Option, Some, None, is_some, length}
use Rattle.std.specs.Prelude.{◌||◌, IfNone, nat_lt, not, option_map, slice_get}
use Rattle.std.proofs.lemmas.Bool.{lt-ltb}
use mathlib.Core.Logic.{dite}
use native.Mathlib.Decide.{ℕ_discrete}
use Rattle.ca_value.specs.Deadlines.{Deadline}
use Rattle.ca_value.specs.Tree.{Tree, nil}
use Rattle.ca_term.specs.declared.event.Side.TheVariants.{Take}
use Rattle.ca_meaning.specs.Channel.{Channel, has_room, is_fixed}
use Rattle.ca_meaning.specs.Row.{settle_put, settle_take, settles, unsettled}
use Rattle.ca_meaning.specs.Wait.{Handler, head}
use Rattle.ca_bank.specs.Bank.{channel_at, kept_at}
use Rattle.ca_bank.specs.declared.bank.Bank.{Bank}
use Rattle.ca_bank.proofs.Places.{has_place}
use Rattle.ca_commit.specs.Contents.{Kept}
use Rattle.ca_commit.specs.Holds.{live_of}
use Rattle.ca_pool.specs.Surveys.{AllRest, ChannelRests, rests_anyway}

both_true : (a b : Bool) → a && b ≡ true → (a ≡ true) × (b ≡ true)
both_true true true e = (refl, refl)
both_true true false e = absurd (let z : false ≡ true = e in cc)
both_true false b e = absurd (let z : false ≡ true = e in cc)

not_both : (a b : Bool) → not (a && b) ≡ true → a ≡ true → b ≡ true → ⊥
not_both true true e f g = let z : false ≡ true = e in cc
not_both true false e f g = let z : false ≡ true = g in cc
not_both false b e f g = let z : false ≡ true = f in cc

some_wait : (g : Handler) (q : List Handler) → nat_lt 0 (length (g ∷ q)) ≡ true
some_wait g q = lt-ltb 0 (length (g ∷ q)) (omega arith)

module _ (alive : ℕ → Bool) where
  -- no taker is served
  no_taker : (c : Channel) (vs : List Tree) (d : Bool) (ts : List Handler) → c.closed ≡ d → not ((is_some (head vs) || d) && nat_lt 0 (length ts)) ≡ true → settle_take c vs (head (live_of alive ts)) ≡ unsettled
  no_taker c vs d [] e r = refl
  no_taker c (v ∷ vs) d (g ∷ q) e r = absurd (not_both true (nat_lt 0 (length (g ∷ q))) r refl (some_wait g q))
  no_taker c [] true (g ∷ q) e r = absurd (not_both true (nat_lt 0 (length (g ∷ q))) r refl (some_wait g q))
  no_taker c [] false (g ∷ q) e r = by (head (live_of alive (g ∷ q))) where
    by : (o : Option Handler) → settle_take c [] o ≡ unsettled
    by None = refl
    by (Some h) = ap (λ b. cond b (settles Take h nil c) unsettled) e

  -- and no put moves in
  no_putter : (c : Channel) (b : Bool) (ps : List Handler) (taker : Option Handler) → not (b && nat_lt 0 (length ps)) ≡ true → settle_take c c.held taker ≡ unsettled → settle_put c b taker (head (live_of alive ps)) ≡ unsettled
  no_putter c false ps taker r none = none
  no_putter c true [] taker r none = none
  no_putter c true (g ∷ q) taker r none = absurd (not_both true (nat_lt 0 (length (g ∷ q))) r refl (some_wait g q))

pub rests_by : (k : Kept) → rests_anyway (Some k) ≡ true → ChannelRests k
rests_by k e alive = let r = both_true _ _ e in
    no_putter alive k.channel (is_fixed k.channel.policy && has_room k.channel) k.puts (head (live_of alive k.takes)) r.0 (no_taker alive k.channel k.channel.held k.channel.closed k.takes refl r.1)

-- where none is at a place, each is at one before
none_after : {X Y : Type 0} (f : X → Y) (xs : List X) (m j : ℕ) (y : Y) → option_map f (slice_get xs m) ≡ None → option_map f (slice_get xs j) ≡ Some y → j < m
none_after f [] m zero y e h = absurd (let z : None ≡ Some y = h in cc)
none_after f [] m (suc j) y e h = absurd (let z : None ≡ Some y = h in cc)
none_after f (x ∷ xs) zero j y e h = absurd (let z : Some (f x) ≡ None = e in cc)
none_after f (x ∷ xs) (suc m) zero y e h = omega arith
none_after f (x ∷ xs) (suc m) (suc j) y e h = let k = none_after f xs m j y e h in omega (arith, k)

-- all channels before that place rest
abbrev pub RestBefore : Bank → ℕ → Type 0
RestBefore b m = (i p : ℕ) → i < m → channel_at b i ≡ Some p → rests_anyway (kept_at b p) ≡ true

-- so where none is at that place, all do
pub all_rest : (b : Bank) (m : ℕ) → RestBefore b m → channel_at b m ≡ None → AllRest (kept_at b)
all_rest b m before none p k e = let h = has_place b p k e in
    rests_by k (sym (ap rests_anyway e) ∙ before h.0 p (none_after (λ e. e.0) b.rooms.entries m h.0 p none h.1) h.1)

pub none_before : (b : Bank) → RestBefore b 0
none_before b i p lt e = absurd (omega (arith, lt))

-- one channel more rests
pub one_rests : (b : Bank) (m p : ℕ) → RestBefore b m → channel_at b m ≡ Some p → rests_anyway (kept_at b p) ≡ true → RestBefore b (m + 1)
one_rests b m p before at calm i q lt e = dite (ℕ_discrete i m)
    (λ same. let k : Some q ≡ Some p = sym e ∙ ap (channel_at b) same ∙ at in let z : q ≡ p = cc in ap (λ (r : ℕ). rests_anyway (kept_at b r)) z ∙ calm)
    (λ ne. before i q (omega (arith, lt, ne)) e)

pub not_false : (b : Bool) → not b ≡ false → b ≡ true
not_false true e = refl
not_false false e = absurd (let z : true ≡ false = e in cc)

-- no first deadline, none at all
pub first_none : (o : Option ℕ) (ds : List Deadline) (Q : Type 0) → o ≡ option_map (λ (d : Deadline). d.moment) (slice_get ds 0) → (ds ≡ [] → Q) → IfNone o Q
first_none None [] Q e k = k refl
first_none None (d ∷ ds) Q e k = absurd (let z : None ≡ Some d.moment = e in cc)
first_none (Some m) ds Q e k = tt
