-- Each part that a worker holds is sound.
use Rattle.std.proofs.Common.{◌≡◌, ◌∙◌, ⊎_elim, ℕ, ◌+◌, ◌-◌, ◌<◌, ◌≤◌, List, [], ◌∷◌, sym, ap, arith, Bool, false, cond, Option, Some, nat_lt}
use Rattle.std.specs.Prelude.{option_map}
use Rattle.std.proofs.lemmas.Bool.{cases_lt, le-ltb, lt-ltb}
use mathlib.Core.Option as core
use lib.ListN.{get_elem?}
use Rattle.ca_value.specs.Tree.{Tree}
use Rattle.ca_term.specs.Operation.{SeedView}
use Rattle.ca_term.specs.Program.{ProgramView}
use Rattle.ca_meaning.specs.Body.{At}
use Rattle.ca_meaning.specs.BodyViews.{is_at_op}
use Rattle.ca_meaning.specs.State.{State}
use Rattle.ca_meaning.specs.Task.{TaskBody}
use Rattle.ca_states.specs.Code.{CodeView}
use Rattle.ca_agent.specs.Agents.{Advanced, Answered, Started}
use Rattle.ca_turns.specs.Steps.{SeesOne}
use Rattle.ca_turns.specs.declared.rule.View.{View}
use Rattle.ca_commit.specs.Agents.{TaskAgent, stands_of}
use Rattle.ca_commit.specs.Contents.{BankView, Content, PartContents, Parked, a_bank, a_ready, a_shard, at_key, home, owner, the_timers}
use Rattle.ca_commit.specs.Gathered.{Kind, bank_kind, bank_of, channels_of, kind_at, kind_of_part, lane_kind, lane_of, ready_kind, ready_of, registries_of, shard_kind, shard_of, sorted, timers_kind, timers_of}
use Rattle.ca_commit.specs.Running.{RunStands}
use Rattle.ca_commit.specs.Seated.{EachSeated, Seat}
use Rattle.ca_table.specs.Draws.{drawn_moves, drawn_touches}
use Rattle.ca_table.specs.OneCode.{stands_over}
use Rattle.ca_table.specs.Running.{Knows, as_option, contents_at}
use Rattle.ca_table.specs.Seen.{PartSeen, content_of, held_of}
use Rattle.ca_table.specs.Sound.{AllOver, IsSound}
use Rattle.ca_table.specs.declared.drawn.Drawn.{Drawn}
use Rattle.ca_table.proofs.Knowing.{sees_run}

module _ (n i : ℕ) where
  abbrev Tells : Kind → Bool → Bool → Bool → Bool → Type 0
  Tells k a b c d = cond a lane_kind (cond b bank_kind (cond c shard_kind (cond d timers_kind ready_kind))) ≡ k

  from_n : (k : Kind) → n ≤ i → kind_at n i ≡ k → Tells k false (nat_lt i (n + 16)) (nat_lt i (n + 32)) (nat_lt i (n + 33))
  from_n k le e = sym (ap (λ a. cond a lane_kind (cond (nat_lt i (n + 16)) bank_kind (cond (nat_lt i (n + 32)) shard_kind (cond (nat_lt i (n + 33)) timers_kind ready_kind)))) (le-ltb i n le)) ∙ e

  -- what the kind tells of the number
  by_kind : (k : Kind) → kind_at n i ≡ k → (P : Type 0) → (k ≡ lane_kind → i < n → P) → (k ≡ bank_kind → n ≤ i → i < n + 16 → P) → (k ≡ shard_kind → n + 16 ≤ i → i < n + 32 → P) → (k ≡ timers_kind → i ≡ n + 32 → P) → (k ≡ ready_kind → n + 33 ≤ i → P) → P
  by_kind k e P a b c d r = ⊎_elim
      (λ lt. a (sym e ∙ ap (λ z. cond z lane_kind (cond (nat_lt i (n + 16)) bank_kind (cond (nat_lt i (n + 32)) shard_kind (cond (nat_lt i (n + 33)) timers_kind ready_kind)))) (lt-ltb i n lt)) lt)
      (λ ge. let e1 = from_n k ge e in ⊎_elim
      (λ lt. b (sym e1 ∙ ap (λ z. cond z bank_kind (cond (nat_lt i (n + 32)) shard_kind (cond (nat_lt i (n + 33)) timers_kind ready_kind))) (lt-ltb i (n + 16) lt)) ge lt)
      (λ ge. let e2 = sym (ap (λ z. cond z bank_kind (cond (nat_lt i (n + 32)) shard_kind (cond (nat_lt i (n + 33)) timers_kind ready_kind))) (le-ltb i (n + 16) ge)) ∙ e1 in ⊎_elim
      (λ lt. c (sym e2 ∙ ap (λ z. cond z shard_kind (cond (nat_lt i (n + 33)) timers_kind ready_kind)) (lt-ltb i (n + 32) lt)) ge lt)
      (λ ge. let e3 = sym (ap (λ z. cond z shard_kind (cond (nat_lt i (n + 33)) timers_kind ready_kind)) (le-ltb i (n + 32) ge)) ∙ e2 in ⊎_elim
      (λ lt. d (sym e3 ∙ ap (λ z. cond z timers_kind ready_kind) (lt-ltb i (n + 33) lt)) (omega (arith, ge, lt)))
      (λ ge. r (sym e3 ∙ ap (λ z. cond z timers_kind ready_kind) (le-ltb i (n + 33) ge)) ge)
      (cases_lt i (n + 33))) (cases_lt i (n + 32))) (cases_lt i (n + 16))) (cases_lt i n)

  bank_at : kind_at n i ≡ bank_kind → (j : ℕ) × (i ≡ n + j)
  bank_at e = by_kind bank_kind e ((j : ℕ) × (i ≡ n + j)) (λ k lt. absurd (let z : bank_kind ≡ lane_kind = k in cc)) (λ k le lt. (i - n, omega (arith, le))) (λ k le lt. absurd (let z : bank_kind ≡ shard_kind = k in cc)) (λ k is. absurd (let z : bank_kind ≡ timers_kind = k in cc)) (λ k le. absurd (let z : bank_kind ≡ ready_kind = k in cc))

  shard_at : kind_at n i ≡ shard_kind → (j : ℕ) × (i ≡ n + 16 + j)
  shard_at e = by_kind shard_kind e ((j : ℕ) × (i ≡ n + 16 + j)) (λ k lt. absurd (let z : shard_kind ≡ lane_kind = k in cc)) (λ k le lt. absurd (let z : shard_kind ≡ bank_kind = k in cc)) (λ k le lt. (i - (n + 16), omega (arith, le))) (λ k is. absurd (let z : shard_kind ≡ timers_kind = k in cc)) (λ k le. absurd (let z : shard_kind ≡ ready_kind = k in cc))

  timers_at : kind_at n i ≡ timers_kind → i ≡ n + 32
  timers_at e = by_kind timers_kind e (i ≡ n + 32) (λ k lt. absurd (let z : timers_kind ≡ lane_kind = k in cc)) (λ k le lt. absurd (let z : timers_kind ≡ bank_kind = k in cc)) (λ k le lt. absurd (let z : timers_kind ≡ shard_kind = k in cc)) (λ k is. is) (λ k le. absurd (let z : timers_kind ≡ ready_kind = k in cc))

  ready_at : kind_at n i ≡ ready_kind → (r : ℕ) × (i ≡ n + 33 + r)
  ready_at e = by_kind ready_kind e ((r : ℕ) × (i ≡ n + 33 + r)) (λ k lt. absurd (let z : ready_kind ≡ lane_kind = k in cc)) (λ k le lt. absurd (let z : ready_kind ≡ bank_kind = k in cc)) (λ k le lt. absurd (let z : ready_kind ≡ shard_kind = k in cc)) (λ k is. absurd (let z : ready_kind ≡ timers_kind = k in cc)) (λ k le. (i - (n + 33), omega (arith, le)))

module _ {A : Type 0} (over : CodeView → A → Type 0) (place : A → At) (stands : ProgramView → A → TaskBody → Type 0) (program : ProgramView) (code : CodeView) (n : ℕ) (now : ℕ → Option (Content (TaskAgent A))) (s : State)
    (run : RunStands place (stands_over over code stands) program n now s) (i : ℕ) (c : Content (TaskAgent A)) (there : now i ≡ Some c) where
  abbrev both : ProgramView → A → TaskBody → Type 0
  both = stands_over over code stands

  kind : kind_of_part c.held ≡ kind_at n i
  kind = (run.kinds i c there).1

  queue_over : (seat : ℕ → Seat) (r : ℕ) (q : List (ℕ × TaskAgent A)) → EachSeated (stands_of both program) s.tasks seat r q → AllOver over code q
  queue_over seat r [] e = tt
  queue_over seat r (x ∷ q) e = (e.1.2.1.1, queue_over seat r q e.2)

  of_kind : (x : PartContents (TaskAgent A)) → c.held ≡ x → kind_at n i ≡ kind_of_part x
  of_kind x e = sym kind ∙ ap kind_of_part e

  -- what all shards together have
  parked_at : (f : ℕ → Option (Parked (TaskAgent A))) (w : ℕ) (x : Parked (TaskAgent A)) → c.held ≡ a_shard f → f w ≡ Some x → at_key (sorted shard_of (now (n + 16 + home w))) w ≡ Some x
  parked_at f w x e at = let j = shard_at n i (of_kind (a_shard f) e) in
      let here = ap (λ (k : ℕ). sorted shard_of (now k)) (sym j.1) ∙ ap (sorted shard_of) there ∙ ap shard_of e in
      let k = run.placed.2 j.0 w f x here at in
      ap (λ (m : ℕ). at_key (sorted shard_of (now (n + 16 + m))) w) k ∙ ap (λ o. at_key o w) here ∙ at

  bank_here : (b : BankView) → c.held ≡ a_bank b → (j : ℕ) × (i ≡ n + j) × (sorted bank_of (now (n + j)) ≡ Some b)
  bank_here b e = let j = bank_at n i (of_kind (a_bank b) e) in (j.0, j.1, ap (λ (k : ℕ). sorted bank_of (now k)) (sym j.1) ∙ ap (sorted bank_of) there ∙ ap bank_of e)

  pub part_sound : IsSound over place code n i c.held
  part_sound = record {
    running = λ l t a e has. (run.stand.seated.laned i l t a (ap (sorted lane_of) there ∙ ap lane_of e) has).1.2.1.1;
    ready = λ q e. let r = ready_at n i (of_kind (a_ready q) e) in
        queue_over run.stand.seated.seat r.0 q (run.stand.seated.queued r.0 q (ap (λ (k : ℕ). sorted ready_of (now k)) (sym r.1) ∙ ap (sorted ready_of) there ∙ ap ready_of e));
    waiting = λ f w u a e at. (run.stand.seated.owners w u a (parked_at f w (owner u a) e at)).1.2.1.1;
    paused = λ f w u a e at. let p = (run.stand.seated.owners w u a (parked_at f w (owner u a) e at)).1.3 in ap is_at_op p.1;
    channels = λ b p k e at. let j = bank_here b e in sym (j.1 ∙ ap (λ (m : ℕ). n + m) (sym (run.placed.0 j.0 p b.channels k (ap channels_of j.2) at)));
    registries = λ b p k e at. let j = bank_here b e in sym (j.1 ∙ ap (λ (m : ℕ). n + m) (sym (run.placed.1 j.0 p b.registries k (ap registries_of j.2) at)));
    timely = λ t e. (run.stand.clocked t (ap (λ (k : ℕ). sorted timers_of (now k)) (sym (timers_at n i (of_kind (the_timers t) e))) ∙ ap (sorted timers_of) there ∙ ap timers_of e)).2;
  }

module _ {A : Type 0} (over : CodeView → A → Type 0) (place : A → At) (stands : ProgramView → A → TaskBody → Type 0) (advances : ProgramView → A → A → Type 0) (gives : A → Tree → A → Type 0) (starts : ProgramView → SeedView → A → Type 0)
    (advance_law : Advanced stands place advances) (answer_law : Answered stands place gives) (start_law : Started stands place starts) (program : ProgramView) (code : CodeView) (n : ℕ) (v : View (PartSeen A) Drawn) (k : Knows over stands program code n v)
    (sees : SeesOne drawn_touches (drawn_moves over place advances gives starts) v) (i : ℕ) (c : PartSeen A) (holds : get_elem? v.held i ≡ core.some (Some c)) where
  -- a part that the hand holds is sound
  pub is_sound : IsSound over place code n i (held_of c.held)
  is_sound = let run = sees_run over place stands advances gives starts advance_law answer_law start_law program code n v k sees.0 sees.1 sees.2 in
      part_sound over place stands program code n (contents_at sees.1) run.0 run.2 i (content_of c) (ap (λ o. option_map content_of (as_option o)) (sees.2.held i c holds))
