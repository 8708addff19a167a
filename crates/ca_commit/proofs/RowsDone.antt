-- What is done at once, and what passes, by the row.
use Rattle.std.proofs.Common.{◌≡◌, ℕ, suc, ◌+◌, arith, List, [], ◌∷◌, refl, sym, ap, ◌∙◌, Bool, true, false, not, cond, Option, Some, None}
use Rattle.ca_value.specs.Tree.{Tree, bool, nil}
use Rattle.ca_value.specs.Buffer.{Policy, dropping_buffer, fixed_buffer, give_first, no_buffer, promise_buffer, sliding_buffer}
use Rattle.ca_term.specs.Operation.{OpView, choosing, closing, making, posting, printing, putting, registering, spawning, taking}
use Rattle.ca_term.specs.Event.{BranchView, put_of, take_of}
use Rattle.ca_meaning.specs.Channel.{Channel, giving, has_room, is_promise, keeping}
use Rattle.ca_meaning.specs.Row.{completes, meets, not_ready, put_alone, put_open, take_of_held}
use Rattle.ca_meaning.specs.Task.{reply_to}
use Rattle.ca_meaning.specs.Wait.{Handler, head}
use Rattle.ca_bank.specs.Kept.{added}
use Rattle.ca_commit.specs.Agents.{alts_by}
use Rattle.ca_commit.specs.Asks.{row_raw}
use Rattle.ca_commit.specs.Contents.{Kept, with_channel}
use Rattle.ca_commit.specs.Planning.{is_alts}
use Rattle.ca_commit.specs.Replies.{counted_alts, done_answer, done_change, or_nil, reply_by}
use Rattle.ca_commit.specs.Waking.{passing, handler_value}

give_none : (p : Policy) → give_first p [] ≡ []
give_none no_buffer = refl
give_none fixed_buffer = refl
give_none dropping_buffer = refl
give_none sliding_buffer = refl
give_none promise_buffer = refl

take_done : (c : Channel) (vs : List Tree) (closed : Bool) (ps : Option Handler) (v : Tree) (after : Channel) → c.held ≡ vs → c.closed ≡ closed → take_of_held c vs ps ≡ completes v after → (or_nil (head vs) ≡ v) × (giving c ≡ after)
take_done c (u ∷ vs) closed ps v after h b f = (let x : u ≡ v = cc in x, let x : giving c ≡ after = cc in x)
take_done c [] closed (Some g) v after h b f = absurd cc
take_done c [] true None v after h b f = let g : completes nil c ≡ completes v after = ap (λ z. cond z (completes nil c) not_ready) (sym b) ∙ f in
    (let x : nil ≡ v = cc in x, ap (λ vs. record { policy = c.policy; capacity = c.capacity; held = vs; closed = c.closed }) (ap (give_first c.policy) h ∙ give_none c.policy ∙ sym h) ∙ (let x : c ≡ after = cc in x))
take_done c [] false None v after h b f = absurd (let g : not_ready ≡ completes v after = ap (λ z. cond z (completes nil c) not_ready) (sym b) ∙ f in cc)

alone_done : (c : Channel) (room : Bool) (ps : Option Handler) (u v : Tree) (after : Channel) → put_alone c room ps u ≡ completes v after → (bool true ≡ v) × (keeping c u ≡ after)
alone_done c false ps u v after f = absurd cc
alone_done c true None u v after f = (let x : bool true ≡ v = cc in x, let x : keeping c u ≡ after = cc in x)
alone_done c true (Some h) u v after f = absurd cc

open_done : (c : Channel) (ts ps : Option Handler) (u v : Tree) (after : Channel) → put_open c ts ps u ≡ completes v after → (bool true ≡ v) × (keeping c u ≡ after)
open_done c (Some h) ps u v after f = absurd cc
open_done c None ps u v after f = alone_done c (has_room c) ps u v after f

put_done : (c : Channel) (closed promise : Bool) (ts ps : Option Handler) (u v : Tree) (after : Channel) → cond closed (completes (bool false) c) (cond promise (completes (bool true) (keeping c u)) (put_open c ts ps u)) ≡ completes v after
    → (bool (not closed) ≡ v) × (cond closed c (keeping c u) ≡ after)
put_done c true promise ts ps u v after f = (let x : bool false ≡ v = cc in x, let x : c ≡ after = cc in x)
put_done c false true ts ps u v after f = (let x : bool true ≡ v = cc in x, let x : keeping c u ≡ after = cc in x)
put_done c false false ts ps u v after f = open_done c ts ps u v after f

put_change : (k : Kept) (u : Tree) (b : Bool) → cond b k (added u k) ≡ with_channel (cond b k.channel (keeping k.channel u)) k
put_change k u true = refl
put_change k u false = refl

-- a branch that is done answers so, and leaves its channel so
pub row_done : (k : Kept) (b : BranchView) (v : Tree) (after : Channel) → row_raw k b ≡ completes v after → (done_answer (Some k) b ≡ v) × (done_change b k ≡ with_channel after k)
row_done k (take_of p) v after f = let d = take_done k.channel k.channel.held k.channel.closed (head k.puts) v after refl refl f in (d.0, ap (λ c. with_channel c k) d.1)
row_done k (put_of p u) v after f = let d = put_done k.channel k.channel.closed (is_promise k.channel.policy) (head k.takes) (head k.puts) u v after f in (d.0, put_change k u k.channel.closed ∙ ap (λ c. with_channel c k) d.1)

take_meets : (c : Channel) (vs : List Tree) (closed : Bool) (ps : Option Handler) (h : Handler) (v : Tree) → c.closed ≡ closed → take_of_held c vs ps ≡ meets h v → handler_value ps ≡ v
take_meets c (u ∷ vs) closed ps h v b f = absurd cc
take_meets c [] closed (Some g) h v b f = let x : g.value ≡ v = cc in x
take_meets c [] true None h v b f = absurd (let g : completes nil c ≡ meets h v = ap (λ z. cond z (completes nil c) not_ready) (sym b) ∙ f in cc)
take_meets c [] false None h v b f = absurd (let g : not_ready ≡ meets h v = ap (λ z. cond z (completes nil c) not_ready) (sym b) ∙ f in cc)

alone_meets : (c : Channel) (room : Bool) (ps : Option Handler) (u : Tree) (h : Handler) (v : Tree) → put_alone c room ps u ≡ meets h v → u ≡ v
alone_meets c false ps u h v f = absurd cc
alone_meets c true None u h v f = absurd cc
alone_meets c true (Some g) u h v f = absurd cc

put_meets : (c : Channel) (closed promise : Bool) (ts ps : Option Handler) (u : Tree) (h : Handler) (v : Tree) → cond closed (completes (bool false) c) (cond promise (completes (bool true) (keeping c u)) (put_open c ts ps u)) ≡ meets h v → u ≡ v
put_meets c true promise ts ps u h v f = absurd cc
put_meets c false true ts ps u h v f = absurd cc
put_meets c false false (Some g) ps u h v f = let x : u ≡ v = cc in x
put_meets c false false None ps u h v f = alone_meets c (has_room c) ps u h v f

-- where it meets a handler, that value passes
pub row_meets : (k : Kept) (b : BranchView) (h : Handler) (v : Tree) → row_raw k b ≡ meets h v → passing (Some k) b ≡ v
row_meets k (take_of p) h v f = take_meets k.channel k.channel.held k.channel.closed (head k.puts) h v refl f
row_meets k (put_of p u) h v f = put_meets k.channel k.channel.closed (is_promise k.channel.policy) (head k.takes) (head k.puts) u h v f

-- an alts is counted and answered with its port
pub alts_is : (op : OpView) (n : ℕ) → counted_alts (is_alts op) n ≡ alts_by op n
alts_is (choosing ports priority default) n = let e : n + 1 ≡ suc n = omega arith in e
alts_is (taking c) n = refl
alts_is (putting c v) n = refl
alts_is (making what) n = refl
alts_is (spawning seed) n = refl
alts_is (closing c) n = refl
alts_is (registering name args) n = refl
alts_is (printing line) n = refl
alts_is (posting c v) n = refl

pub reply_is : (op : OpView) (p : ℕ) (v : Tree) → reply_by (is_alts op) p v ≡ reply_to op p v
reply_is (choosing ports priority default) p v = refl
reply_is (taking c) p v = refl
reply_is (putting c u) p v = refl
reply_is (making what) p v = refl
reply_is (spawning seed) p v = refl
reply_is (closing c) p v = refl
reply_is (registering name args) p v = refl
reply_is (printing line) p v = refl
reply_is (posting c u) p v = refl
