-- A take of a value that its channel holds can be drawn: its worker's lane and the channel's bank are enough.
use Rattle.std.proofs.Common.{◌≡◌, ℕ, zero, suc, ◌<◌, ◌≤◌, ◌+◌, List, [], ◌∷◌, ◌++◌, refl, sym, ap, ap₂, ◌∙◌, subst, arith, Bool, true, false, cond, Option, Some, None, eqb, eq-eqb, ne_eqb, is_some}
use Rattle.std.proofs.lemmas.Bool.{lt-ltb}
use mathlib.Core.Logic.{dite}
use native.Mathlib.Decide.{ℕ_discrete}
use Rattle.ca_value.specs.Tree.{Tree, port}
use Rattle.ca_term.specs.declared.place.Place.{Place}
use Rattle.ca_term.specs.Program.{ProgramView}
use Rattle.ca_term.specs.Operation.{SeedView, taking}
use Rattle.ca_term.specs.Event.{take_of, done}
use Rattle.ca_meaning.specs.Body.{At, at_op}
use Rattle.ca_meaning.specs.Channel.{Channel, giving}
use Rattle.ca_meaning.specs.Wait.{Handler, head}
use Rattle.ca_meaning.specs.Row.{take_of_held}
use Rattle.ca_term.specs.declared.fault.Fault.{Fault}
use Rattle.ca_term.specs.declared.fault.Fault.TheVariants.{NotAPort}
use Rattle.ca_commit.specs.Agents.{TaskAgent, advances_of, alts_at, gives_of, place_of}
use Rattle.ca_commit.specs.Asks.{TakeAsks}
use Rattle.ca_commit.specs.ChannelMoves.{MovesDone}
use Rattle.ca_commit.specs.Contents.{BankView, Content, PartContents, Kept, LaneView, a_bank, a_lane, alive_in, at_key, channel_of, home}
use Rattle.ca_commit.specs.Drawing.{given_up, took}
use Rattle.ca_commit.specs.Gathered.{bank_of, channels_of, lane_of, parts_of, pick, ready_of, registries_of, shard_of, sorted, timers_of}
use Rattle.ca_commit.specs.Moving.{Moves}
use Rattle.ca_commit.specs.Touched.{homes, of_task, shown, touched, touches, wanted}
use Rattle.ca_commit.proofs.Among.{le_but}
use Rattle.ca_commit.proofs.Holdings.{home_below}

never_wanted : (t : ℕ → Bool) (base k c : ℕ) → ((i : ℕ) → k ≤ i → t i ≡ false) → wanted t base k c ≡ []
never_wanted t base k zero others = refl
never_wanted t base k (suc c) others = ap (λ b. cond b ((base + k) ∷ wanted t base (suc k) c) (wanted t base (suc k) c)) (others k (omega arith)) ∙ never_wanted t base (suc k) c (λ i le. others i (omega (arith, le)))

once_wanted : (t : ℕ → Bool) (base h k c : ℕ) → k ≤ h → h < k + c → t h ≡ true → ((i : ℕ) → (i ≡ h → ⊥) → t i ≡ false) → wanted t base k c ≡ (base + h) ∷ []
once_wanted t base h k zero le lt this others = absurd (omega (arith, le, lt))
once_wanted t base h k (suc c) le lt this others = dite (ℕ_discrete k h)
    (λ same. ap (λ b. cond b ((base + k) ∷ wanted t base (suc k) c) (wanted t base (suc k) c)) (ap t same ∙ this) ∙ ap₂ (λ (x : ℕ) (xs : List ℕ). (base + x) ∷ xs) same (never_wanted t base (suc k) c (λ i m. others i (λ e. omega (arith, same, m, e)))))
    (λ ne. ap (λ b. cond b ((base + k) ∷ wanted t base (suc k) c) (wanted t base (suc k) c)) (others k ne) ∙ once_wanted t base h (suc k) c (le_but k h le ne) (omega (arith, lt)) this others)

module _ {A : Type 0} (n w i : ℕ) (lane lane2 bank bank2 : Content A) where
  -- a lane and a bank, by their numbers
  abbrev two_parts : Content A → Content A → ℕ → Option (Content A)
  two_parts l b j = cond (eqb w j) (Some l) (cond (eqb (n + i) j) (Some b) None)

  same_kind : {X : Type 0} (as_kind : PartContents A → Option X) → as_kind lane2.held ≡ as_kind lane.held → as_kind bank2.held ≡ as_kind bank.held → (j : ℕ) → sorted as_kind (two_parts lane2 bank2 j) ≡ sorted as_kind (two_parts lane bank j)
  same_kind as_kind e f j = by (eqb w j) (eqb (n + i) j) where
    by : (a c : Bool) → sorted as_kind (cond a (Some lane2) (cond c (Some bank2) None)) ≡ sorted as_kind (cond a (Some lane) (cond c (Some bank) None))
    by true c = e
    by false true = f
    by false false = refl

  -- elsewhere is no part, or one of another kind
  same_else : {X : Type 0} (as_kind : PartContents A → Option X) → as_kind bank2.held ≡ as_kind bank.held → (j : ℕ) → (w ≡ j → ⊥) → sorted as_kind (two_parts lane2 bank2 j) ≡ sorted as_kind (two_parts lane bank j)
  same_else as_kind f j ne = ap (λ c. sorted as_kind (cond c (Some lane2) (cond (eqb (n + i) j) (Some bank2) None))) (ne_eqb w j ne) ∙ by (eqb (n + i) j) ∙ sym (ap (λ c. sorted as_kind (cond c (Some lane) (cond (eqb (n + i) j) (Some bank) None))) (ne_eqb w j ne)) where
    by : (c : Bool) → sorted as_kind (cond c (Some bank2) None) ≡ sorted as_kind (cond c (Some bank) None)
    by true = f
    by false = refl

  same_apart : {X : Type 0} (as_kind : PartContents A → Option X) → as_kind lane2.held ≡ as_kind lane.held → (j : ℕ) → (n + i ≡ j → ⊥) → sorted as_kind (two_parts lane2 bank2 j) ≡ sorted as_kind (two_parts lane bank j)
  same_apart as_kind e j ne = ap (λ c. sorted as_kind (cond (eqb w j) (Some lane2) (cond c (Some bank2) None))) (ne_eqb (n + i) j ne) ∙ by (eqb w j) ∙ sym (ap (λ c. sorted as_kind (cond (eqb w j) (Some lane) (cond c (Some bank) None))) (ne_eqb (n + i) j ne)) where
    by : (c : Bool) → sorted as_kind (cond c (Some lane2) None) ≡ sorted as_kind (cond c (Some lane) None)
    by true = e
    by false = refl

  at_lane : (l b : Content A) → two_parts l b w ≡ Some l
  at_lane l b = ap (λ c. cond c (Some l) (cond (eqb (n + i) w) (Some b) None)) (eq-eqb w w refl)

  at_bank : w < n → (l b : Content A) → two_parts l b (n + i) ≡ Some b
  at_bank lt l b = ap (λ c. cond c (Some l) (cond (eqb (n + i) (n + i)) (Some b) None)) (ne_eqb w (n + i) (λ e. omega (arith, lt, e))) ∙ ap (λ c. cond c (Some b) None) (eq-eqb (n + i) (n + i) refl)

-- what is touched: no other port is named
take_touches : (w n t p : ℕ) (v : Tree) → w < n → touches (record { worker = w; workers = n; what = shown (done t 0 (take_of p) v); ports = []; looked = [] }) ≡ w ∷ (n + home p) ∷ []
take_touches w n t p v lt = ap (λ b. cond b (touched w n [] [] (of_task (p ∷ []) [])) []) (lt-ltb w n lt)
    ∙ ap₂ (λ (x y : List ℕ). w ∷ (x ++ (y ++ [])))
    (once_wanted (homes (p ∷ [])) n (home p) 0 16 (omega arith) (home_below p) (ap (λ c. cond c true false) (eq-eqb (home p) (home p) refl)) (λ i ne. ap (λ c. cond c true false) (ne_eqb i (home p) ne)))
    (never_wanted (homes []) (n + 16) 0 16 (λ i le. refl))

-- where a value is held no handler is asked
asks_nothing : (lives : ℕ → Bool) (hs : List Tree) (h : Option Handler) (v : Tree) (vs : List Tree) → hs ≡ v ∷ vs → TakeAsks lives hs h
asks_nothing lives hs h v vs e = subst (λ xs. TakeAsks lives xs h) (sym e) tt

-- the registries of a part, if it is a bank
banks_registries : {A : Type 0} (o : Option (Content A)) → registries_of (sorted bank_of o) ≡ sorted (λ h. registries_of (bank_of h)) o
banks_registries None = refl
banks_registries (Some c) = refl

apart_from : (n i j : ℕ) → n + i ≡ n + j → j ≡ i
apart_from n i j e = omega (arith, e)

abbrev is_bad : Option Channel → Option Fault
is_bad o = cond (is_some o) None (Some NotAPort)

module _ {A : Type 0} (place : A → At) (advances : ProgramView → A → A → Type 0) (gives : A → Tree → A → Type 0) (starts : ProgramView → SeedView → A → Type 0) where
  pub take_is_drawn : (w n t p : ℕ) (v : Tree) (vs : List Tree) (l : LaneView (TaskAgent A)) (a : TaskAgent A) (a1 a2 : A) (at : Place) (b : BankView) (kept : Kept) → w < n → l.task ≡ Some (t, a) → advances l.program a.agent a1 → place a1 ≡ at_op (record { op = taking (port p); place = at }) → gives a1 v a2
      → b.channels p ≡ Some kept → kept.channel.held ≡ v ∷ vs
      → Moves place advances gives starts (record { worker = w; workers = n; what = shown (done t 0 (take_of p) v); ports = []; looked = [] })
      (record { workers = n; held = a_lane l } ∷ record { workers = n; held = a_bank b } ∷ [])
      (record { workers = n; held = a_lane (took t l a a2) } ∷ record { workers = n; held = a_bank (given_up p kept b) } ∷ [])
  take_is_drawn w n t p v vs l a a1 a2 at b kept lt has adv there_it gave there held = (
    lt,
    ((refl, refl, refl), ((refl, refl, refl), tt)),
    subst (λ ts. MovesDone (place_of place) (advances_of advances) (gives_of place gives) w t 0 (take_of p) v (parts_of n (pick ts (cl ∷ cb ∷ []))) (parts_of n (pick ts (cl2 ∷ cb2 ∷ [])))) (sym (take_touches w n t p v lt)) (record {
      op = taking (port p);
      answers = record {
        at = at;
        stands = record {
          lane = l;
          lane2 = took t l a a2;
          agent = a;
          agent1 = record { result = a.result; alts = a.alts; agent = a1 };
          lanes = record { was = ap (sorted lane_of) (at_lane n w i cl cl2 cb cb2 cl cb); is = ap (sorted lane_of) (at_lane n w i cl cl2 cb cb2 cl2 cb2); others = λ j ne. same_else n w i cl cl2 cb cb2 lane_of refl j (λ e. ne (sym e)) };
          task = has;
          advanced = (refl, refl, adv);
          stood = there_it;
          program_stays = refl;
          since = refl;
        };
        agent2 = record { result = a.result; alts = a.alts; agent = a2 };
        given = (refl, sym (ap (λ z. alts_at z a.alts) there_it), gave);
        task2 = refl;
        fit = λ s sh. ap (λ (o : Option Channel). is_bad o) (sh.channels p b.channels (ap (λ o. channels_of (sorted bank_of o)) (at_bank n w i cl cl2 cb cb2 lt cl cb)) ∙ ap channel_of there);
      };
      counts = refl;
      picks = (refl, λ e. absurd (let z : false ≡ true = e in cc));
      kept = kept;
      there = ap (λ o. at_key (channels_of (sorted bank_of o)) p) (at_bank n w i cl cl2 cb cb2 lt cl cb) ∙ there;
      asks = asks_nothing (alive_in (parts_of n (pick (w ∷ (n + i) ∷ []) (cl ∷ cb ∷ [])))) kept.channel.held (head kept.puts) v vs held;
      after = giving kept.channel;
      by_row = ap (λ hs. take_of_held kept.channel hs (head kept.puts)) held;
      banks = record {
        from = b.channels;
        was = ap (λ o. channels_of (sorted bank_of o)) (at_bank n w i cl cl2 cb cb2 lt cl cb);
        is = ap (λ o. channels_of (sorted bank_of o)) (at_bank n w i cl cl2 cb cb2 lt cl2 cb2);
        others = λ j ne. ap channels_of (same_apart n w i cl cl2 cb cb2 bank_of refl (n + j) (λ e. ne (apart_from n i j e)));
      };
      registries = λ j. banks_registries (two_parts n w i cl cl2 cb cb2 cl2 cb2 (n + j)) ∙ same_kind n w i cl cl2 cb cb2 (λ h. registries_of (bank_of h)) refl refl (n + j) ∙ sym (banks_registries (two_parts n w i cl cl2 cb cb2 cl cb (n + j)));
      shards = λ j. same_kind n w i cl cl2 cb cb2 shard_of refl refl (n + 16 + j);
      readys = λ j. same_kind n w i cl cl2 cb cb2 ready_of refl refl (n + 33 + j);
      timers = same_kind n w i cl cl2 cb cb2 timers_of refl refl (n + 32);
    }),
  ) where
    i : ℕ
    i = home p

    cl : Content (TaskAgent A)
    cl = record { workers = n; held = a_lane l }

    cl2 : Content (TaskAgent A)
    cl2 = record { workers = n; held = a_lane (took t l a a2) }

    cb : Content (TaskAgent A)
    cb = record { workers = n; held = a_bank b }

    cb2 : Content (TaskAgent A)
    cb2 = record { workers = n; held = a_bank (given_up p kept b) }
