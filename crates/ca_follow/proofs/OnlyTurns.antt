-- Which branch a plan is about, where the meaning tells which are ready: with all banks and shards at hand no branch
-- that is ready is passed over, and none that isn't is taken.
use Rattle.std.proofs.Common.{◌≡◌, ⊎_elim, ℕ, zero, suc, ◌+◌, ◌%◌, ◌<◌, List, [], ◌∷◌, drop, take, length, refl, sym, ap, ◌∙◌, subst, arith, Bool, true, false, cond, Option, Some, None, slice_get, mod-eq_of_lt, nat_lt, ltb-true, ltb-false}
use Rattle.std.proofs.lemmas.Option.{slice_get_within}
use Rattle.ca_value.specs.Tree.{Tree}
use Rattle.ca_term.specs.Event.{BranchView, put_of, take_of}
use Rattle.ca_term.specs.declared.event.Side.{Side}
use Rattle.ca_term.specs.declared.event.Side.TheVariants.{Put, Take}
use Rattle.ca_term.specs.Operation.{OpView}
use Rattle.ca_meaning.specs.Channel.{Channel}
use Rattle.ca_meaning.specs.Choice.{NoneReady, Picks, branches_of, default_of, has_priority, is_ready, row}
use Rattle.ca_meaning.specs.Refusal.{crowd_of}
use Rattle.ca_meaning.specs.Row.{Row, completes, meets, not_ready, row_at}
use Rattle.ca_meaning.specs.State.{State}
use Rattle.ca_meaning.specs.Wait.{Handler, front, port_of, side_of}
use Rattle.ca_bank.specs.Kept.{queue_at}
use Rattle.ca_commit.specs.Applying.{IsEvent}
use Rattle.ca_commit.specs.Contents.{Kept, Parts, channel_of, whole}
use Rattle.ca_commit.specs.Deciding.{seen_in}
use Rattle.ca_commit.specs.Finding.{Finding, Glance, alone, find_at, gone, here, partner, stale, unheld, unready, unseen}
use Rattle.ca_commit.specs.Holds.{groups}
use Rattle.ca_commit.specs.Planning.{Planned, Seen, all_asked, all_counted, handler_asked, chosen, queue_counted, decided, first_from, found_of, in_turn, is_alts, otherwise, starting, to_refuse}
use Rattle.ca_commit.specs.Replies.{done_answer}
use Rattle.ca_commit.specs.Waking.{passing}
use Rattle.ca_commit.proofs.Fitting.{some_ready}
use Rattle.ca_commit.proofs.PlanTold.{says}
use Rattle.ca_commit.proofs.RowsDone.{row_done, row_meets}
use Rattle.ca_commit.proofs.Shown.{Shown, row_seen}
use Rattle.ca_commit.proofs.Turns.{Decides, NoneDecides, from_tells}
use Rattle.ca_follow.proofs.OnlyShown.{part_of_itself}

-- a list from a place on that it has
cut : {X : Type 0} (xs : List X) (k : ℕ) (b : X) → slice_get xs k ≡ Some b → drop k xs ≡ b ∷ drop (suc k) xs
cut [] zero b e = absurd cc
cut [] (suc k) b e = absurd cc
cut (x ∷ xs) zero b e = ap (λ y. y ∷ xs) (let same : x ≡ b = cc in same)
cut (x ∷ xs) (suc k) b e = cut xs k b e

none_found : (see : ℕ → Glance) (b : BranchView) → find_at see None b ≡ unready
none_found see (take_of p) = refl
none_found see (put_of p v) = refl

-- where counting the queues leads to an event, each has a place for one more
module _ (x : Seen) where
  asked_event : (g : Glance) (p : ℕ) (side : Side) (place w : ℕ) (rest : Planned) → IsEvent (handler_asked g p side place w rest) → handler_asked g p side place w rest ≡ rest
  asked_event here p side place w rest e = refl
  asked_event gone p side place w rest e = absurd e
  asked_event unseen p side place w rest e = absurd e

  all_asked_event : (p : ℕ) (side : Side) (place : ℕ) (q : List Handler) (rest : Planned) → IsEvent (all_asked x p side place q rest) → all_asked x p side place q rest ≡ rest
  all_asked_event p side place [] rest e = refl
  all_asked_event p side place (h ∷ q) rest e = let first = asked_event (x.see h.wait) p side place h.wait (all_asked x p side (place + 1) q rest) e in
      first ∙ all_asked_event p side (place + 1) q rest (subst IsEvent first e)

  counted_event : (side : Side) (p : ℕ) (q : List Handler) (rest : Planned) → IsEvent (queue_counted x side p q rest) → queue_counted x side p q rest ≡ rest
  counted_event side p q rest e = by (nat_lt (length q) 1024) (nat_lt (groups q) 1024) e where
    by : (short few : Bool) → IsEvent (cond short rest (all_asked x p side 0 q (cond few rest (to_refuse (crowd_of side))))) → cond short rest (all_asked x p side 0 q (cond few rest (to_refuse (crowd_of side)))) ≡ rest
    by true few e = refl
    by false true e = all_asked_event p side 0 q rest e
    by false false e = absurd (subst IsEvent (all_asked_event p side 0 q (to_refuse (crowd_of side)) e) e)

  pub all_counted_event : (bs : List BranchView) (rest : Planned) → IsEvent (all_counted x bs rest) → all_counted x bs rest ≡ rest
  all_counted_event [] rest e = refl
  all_counted_event (b ∷ bs) rest e = let first = counted_event (side_of b) (port_of b) (queue_at (side_of b) (x.ports (port_of b))) (all_counted x bs rest) e in
      first ∙ all_counted_event bs rest (subst IsEvent first e)

module _ {A : Type 0} (h : Parts A) (s : State) (shown : Shown h s) where
  -- what a finding says of the branch's row in the state
  abbrev pub RowSays : BranchView → Finding → Type 0
  RowSays b unready = row s b ≡ not_ready
  RowSays b alone = (v : Tree) × (after : Channel) × (row s b ≡ completes v after) × (done_answer (whole h.bank (port_of b)) b ≡ v)
  RowSays b (partner w o) = (g : Handler) × (v : Tree) × (row s b ≡ meets g v) × (g.wait ≡ w) × (g.branch ≡ o) × (passing (whole h.bank (port_of b)) b ≡ v)
  RowSays b (stale side) = Unit {0}
  RowSays b (unheld w) = Unit {0}

  pub row_says : (b : BranchView) (f : Finding) → found_of (seen_in h) b ≡ f → RowSays b f
  row_says b f e = by (whole h.bank (port_of b)) refl f e where
    right : (k : Kept) → whole h.bank (port_of b) ≡ Some k → (f : Finding) → found_of (seen_in h) b ≡ f → RowSays b f
    right k there unready e = let z = says h b k unready there e in row_seen h h s b k shown (part_of_itself h) there z.0 ∙ z.1
    right k there alone e = let z = says h b k alone there e in
        (z.1.0, z.1.1, row_seen h h s b k shown (part_of_itself h) there z.0 ∙ z.1.2, ap (λ o. done_answer o b) there ∙ (row_done k b z.1.0 z.1.1 z.1.2).0)
    right k there (partner w o) e = let z = says h b k (partner w o) there e in
        (z.1.0, z.1.1, row_seen h h s b k shown (part_of_itself h) there z.0 ∙ z.1.2, z.1.3, z.1.4, ap (λ o. passing o b) there ∙ row_meets k b z.1.0 z.1.1 z.1.2)
    right k there (stale side) e = tt
    right k there (unheld w) e = tt

    none : whole h.bank (port_of b) ≡ None → unready ≡ found_of (seen_in h) b
    none is = sym (ap (λ o. find_at (seen_in h).see o b) is ∙ none_found (seen_in h).see b)

    by : (o : Option Kept) → whole h.bank (port_of b) ≡ o → (f : Finding) → found_of (seen_in h) b ≡ f → RowSays b f
    by (Some k) there f e = right k there f e
    by None is unready e = ap (λ c. row_at c (front Take (port_of b) s.waits) (front Put (port_of b) s.waits) b) (shown.holds.channels_are (port_of b) ∙ ap channel_of is)
    by None is alone e = absurd (let k : unready ≡ alone = none is ∙ e in cc)
    by None is (partner w o) e = absurd (let k : unready ≡ partner w o = none is ∙ e in cc)
    by None is (stale side) e = tt
    by None is (unheld w) e = tt

  -- a branch that isn't ready is found so, unless the plan is no event
  pub unready_found : (b : BranchView) (alts : Bool) (k : ℕ) (rest : Planned) (f : Finding) → found_of (seen_in h) b ≡ f → row s b ≡ not_ready → IsEvent (decided f alts k b rest) → f ≡ unready
  unready_found b alts k rest unready e r event = refl
  unready_found b alts k rest alone e r event = absurd (let z = row_says b alone e in let c : not_ready ≡ completes z.0 z.1 = sym r ∙ z.2 in cc)
  unready_found b alts k rest (partner w o) e r event = absurd (let z = row_says b (partner w o) e in let c : not_ready ≡ meets z.0 z.1 = sym r ∙ z.2 in cc)
  unready_found b alts k rest (stale side) e r event = absurd event
  unready_found b alts k rest (unheld w) e r event = absurd event

  none_is : (bs : List BranchView) (i : ℕ) (b : BranchView) → NoneReady s bs → slice_get bs i ≡ Some b → row s b ≡ not_ready
  none_is bs i b none at = by (row s b) refl where
    by : (r : Row) → row s b ≡ r → r ≡ not_ready
    by not_ready e = refl
    by (completes v after) e = absurd (let c : true ≡ false = sym (some_ready s bs i b at (ap is_ready e)) ∙ none in cc)
    by (meets g v) e = absurd (let c : true ≡ false = sym (some_ready s bs i b at (ap is_ready e)) ∙ none in cc)

  -- where none is ready, the plan is what it is without any
  pub none_at : (op : OpView) (start : ℕ) → NoneReady s (branches_of op) → IsEvent (chosen (seen_in h) op start) → chosen (seen_in h) op start ≡ otherwise (seen_in h) op (default_of op)
  none_at op start none event = ⊎_elim decides (λ n. n.1) (from_tells (seen_in h) (is_alts op) (starting (seen_in h) op start) (branches_of op) (otherwise (seen_in h) op (default_of op))) where
    decides : Decides (seen_in h) (is_alts op) (branches_of op) (λ j. j) (starting (seen_in h) op start ≡ 0) (chosen (seen_in h) op start) (otherwise (seen_in h) op (default_of op)) → chosen (seen_in h) op start ≡ otherwise (seen_in h) op (default_of op)
    decides d = absurd (d.ready (unready_found d.branch (is_alts op) d.place (otherwise (seen_in h) op (default_of op)) d.finding d.is_found (none_is (branches_of op) d.place d.branch none d.is_branch) (subst IsEvent d.decides event)))

  -- where a branch is ready, at which the start is or before which none is ready, the plan is about it
  abbrev pub IsAbout : OpView → ℕ → ℕ → BranchView → Type 0
  IsAbout op start k b = (rest : Planned) × (chosen (seen_in h) op start ≡ decided (found_of (seen_in h) b) (is_alts op) k b rest)

  from_there : (op : OpView) (k : ℕ) (b : BranchView) → has_priority op ≡ false → slice_get (branches_of op) k ≡ Some b → IsAbout op k k b
  from_there op k b priority at = (
    in_turn (seen_in h) (is_alts op) (k + 1) (drop (suc k) (branches_of op)) before,
    ap (λ n. first_from (seen_in h) (is_alts op) n (branches_of op) last) start_is ∙ ap (λ l. in_turn (seen_in h) (is_alts op) k l before) (cut (branches_of op) k b at),
  ) where
    last : Planned
    last = otherwise (seen_in h) op (default_of op)

    before : Planned
    before = in_turn (seen_in h) (is_alts op) 0 (take k (branches_of op)) last

    start_is : starting (seen_in h) op k ≡ k
    start_is = ap (λ z. cond z 0 (k % length (branches_of op))) priority ∙ mod-eq_of_lt (slice_get_within (branches_of op) k b at)

  in_order : (op : OpView) (start k : ℕ) (b : BranchView) → has_priority op ≡ true → Picks s op k b → (row s b ≡ not_ready → ⊥) → IsEvent (chosen (seen_in h) op start) → IsAbout op start k b
  in_order op start k b priority picks ready event = ⊎_elim decides none (from_tells (seen_in h) (is_alts op) (starting (seen_in h) op start) (branches_of op) last) where
    last : Planned
    last = otherwise (seen_in h) op (default_of op)

    start_is : starting (seen_in h) op start ≡ 0
    start_is = ap (λ z. cond z 0 (start % length (branches_of op))) priority

    none : NoneDecides (seen_in h) (is_alts op) (branches_of op) (chosen (seen_in h) op start) last → IsAbout op start k b
    none n = absurd (ready (row_says b unready (n.0 k b picks.0)))

    Deciding : Type 0
    Deciding = Decides (seen_in h) (is_alts op) (branches_of op) (λ j. j) (starting (seen_in h) op start ≡ 0) (chosen (seen_in h) op start) last

    early : (d : Deciding) → d.place < k → IsAbout op start k b
    early d lt = absurd (d.ready (unready_found d.branch (is_alts op) d.place last d.finding d.is_found (picks.1 priority d.place d.branch lt d.is_branch) (subst IsEvent d.decides event)))

    late : (d : Deciding) → k < d.place → IsAbout op start k b
    late d lt = absurd (ready (row_says b unready (d.first start_is k b lt picks.0)))

    same : (d : Deciding) → d.place ≡ k → IsAbout op start k b
    same d e = let branch : d.branch ≡ b = let c : Some d.branch ≡ Some b = sym d.is_branch ∙ ap (slice_get (branches_of op)) e ∙ picks.0 in cc in (
      last,
      d.decides ∙ ap (λ f. decided f (is_alts op) d.place d.branch last) (sym d.is_found) ∙ ap (λ n. decided (found_of (seen_in h) d.branch) (is_alts op) n d.branch last) e ∙ ap (λ c. decided (found_of (seen_in h) c) (is_alts op) k c last) branch,
    )

    by : (d : Deciding) (less more : Bool) → nat_lt d.place k ≡ less → nat_lt k d.place ≡ more → IsAbout op start k b
    by d true more e f = early d (ltb-true d.place k e)
    by d false true e f = late d (ltb-true k d.place f)
    by d false false e f = same d (let l = ltb-false d.place k e in let m = ltb-false k d.place f in omega (arith, l, m))

    decides : Deciding → IsAbout op start k b
    decides d = by d (nat_lt d.place k) (nat_lt k d.place) refl refl

  pub about : (op : OpView) (k : ℕ) (b : BranchView) → Picks s op k b → (row s b ≡ not_ready → ⊥) → IsEvent (chosen (seen_in h) op k) → IsAbout op k k b
  about op k b picks ready event = by (has_priority op) refl where
    by : (z : Bool) → has_priority op ≡ z → IsAbout op k k b
    by true e = in_order op k k b e picks ready event
    by false e = from_there op k b e picks.0
