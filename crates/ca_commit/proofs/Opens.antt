-- The opening parts stand for the opening state.
use Rattle.std.proofs.Common.{inl, ◌≡◌, ℕ, ◌<◌, ◌≤◌, ◌+◌, List, [], ◌∷◌, refl, sym, ap, ◌∙◌, subst, arith, Bool, true, false, cond, Option, Some, None, eqb, eqb-true, eq-eqb, is_some, nat_lt, Contains}
use Rattle.std.proofs.lemmas.Bool.{lt-ltb, le-ltb, ltb-true}
use Rattle.std.specs.Map.{update}
use Rattle.std.proofs.lemmas.List.Elements.{Contains-push}
use Rattle.ca_term.specs.Program.{ProgramView}
use Rattle.ca_meaning.specs.Body.{At}
use Rattle.ca_meaning.specs.Registry.{Registry}
use Rattle.ca_meaning.specs.Task.{TaskBody}
use Rattle.ca_meaning.specs.State.{Task, Tasks, runs, opening_state}
use Rattle.ca_commit.specs.Agents.{TaskAgent, place_of, stands_of}
use Rattle.ca_commit.specs.Contents.{Content, Kept, LaneView, Parked, TimersPart, at_key, home, owner, whole}
use Rattle.ca_commit.specs.Gathered.{Kind, away_kind, bank_kind, bank_of, channels_of, kind_at, kind_of_part, lane_kind, lane_of, parts_of, ready_kind, ready_of, registries_of, shard_kind, shard_of, sorted, timers_kind, timers_of}
use Rattle.ca_commit.specs.Opening.{main_agent, part_opened, opening_parts}
use Rattle.ca_commit.specs.Running.{RunStands}
use Rattle.ca_commit.specs.Seated.{EachSeated, Seated, StandsAs, in_ready}
use Rattle.ca_commit.specs.Stands.{Whole, WholeStands, whole_of}
use Rattle.ca_commit.proofs.Laid.{same_map}
use Rattle.ca_commit.proofs.Seats.{no_task, some_same}

lane_place : (n i : ℕ) → kind_at n i ≡ lane_kind → i < n
lane_place n i e = by (nat_lt i n) (nat_lt i (n + 16)) (nat_lt i (n + 32)) (nat_lt i (n + 33)) refl e where
  by : (a b c d : Bool) → nat_lt i n ≡ a → cond a lane_kind (cond b bank_kind (cond c shard_kind (cond d timers_kind ready_kind))) ≡ lane_kind → i < n
  by true b c d is e = ltb-true i n is
  by false true c d is e = absurd (let z : bank_kind ≡ lane_kind = e in cc)
  by false false true d is e = absurd (let z : shard_kind ≡ lane_kind = e in cc)
  by false false false true is e = absurd (let z : timers_kind ≡ lane_kind = e in cc)
  by false false false false is e = absurd (let z : ready_kind ≡ lane_kind = e in cc)

ready_place : (n r : ℕ) → kind_at n (n + 33 + r) ≡ ready_kind
ready_place n r = ap (λ b. cond b lane_kind (cond (nat_lt i (n + 16)) bank_kind (cond (nat_lt i (n + 32)) shard_kind (cond (nat_lt i (n + 33)) timers_kind ready_kind)))) (le-ltb i n (omega arith))
    ∙ ap (λ b. cond b bank_kind (cond (nat_lt i (n + 32)) shard_kind (cond (nat_lt i (n + 33)) timers_kind ready_kind))) (le-ltb i (n + 16) (omega arith))
    ∙ ap (λ b. cond b shard_kind (cond (nat_lt i (n + 33)) timers_kind ready_kind)) (le-ltb i (n + 32) (omega arith))
    ∙ ap (λ b. cond b timers_kind ready_kind) (le-ltb i (n + 33) (omega arith)) where
      i : ℕ
      i = n + 33 + r

at_place : (n r : ℕ) → n + 33 + r ≡ n + 33 → r ≡ 0
at_place n r e = omega (arith, e)

module _ {A : Type 0} (n : ℕ) (program : ProgramView) (main : A) (clock : TimersPart) where
  abbrev there : Bool → ℕ → Kind → Option (Content (TaskAgent A))
  there b i k = cond b (Some (record { workers = n; held = part_opened n program main clock i k })) None

  kind_is : (i : ℕ) (k : Kind) → kind_of_part (part_opened n program main clock i k) ≡ k
  kind_is i lane_kind = refl
  kind_is i bank_kind = refl
  kind_is i shard_kind = refl
  kind_is i timers_kind = refl
  kind_is i ready_kind = refl
  kind_is i away_kind = refl

  lane_opened : (b : Bool) (i : ℕ) (k : Kind) (l : LaneView (TaskAgent A)) → sorted lane_of (there b i k) ≡ Some l → (l.program ≡ program) × (l.task ≡ None) × (k ≡ lane_kind)
  lane_opened false i k l e = absurd (let z : None ≡ Some l = e in cc)
  lane_opened true i lane_kind l e = let same = some_same (record { program = program; task = None; since = 0; counts = record { tasks = 0; ports = 0; waits = 0 } }) l e in (sym (ap (λ (x : LaneView (TaskAgent A)). x.program) same), sym (ap (λ (x : LaneView (TaskAgent A)). x.task) same), refl)
  lane_opened true i bank_kind l e = absurd (let z : None ≡ Some l = e in cc)
  lane_opened true i shard_kind l e = absurd (let z : None ≡ Some l = e in cc)
  lane_opened true i timers_kind l e = absurd (let z : None ≡ Some l = e in cc)
  lane_opened true i ready_kind l e = absurd (let z : None ≡ Some l = e in cc)
  lane_opened true i away_kind l e = absurd (let z : None ≡ Some l = e in cc)

  no_channel : (b : Bool) (i : ℕ) (k : Kind) (p : ℕ) → at_key (channels_of (sorted bank_of (there b i k))) p ≡ None
  no_channel false i k p = refl
  no_channel true i lane_kind p = refl
  no_channel true i bank_kind p = refl
  no_channel true i shard_kind p = refl
  no_channel true i timers_kind p = refl
  no_channel true i ready_kind p = refl
  no_channel true i away_kind p = refl

  no_registry : (b : Bool) (i : ℕ) (k : Kind) (p : ℕ) → at_key (registries_of (sorted bank_of (there b i k))) p ≡ None
  no_registry false i k p = refl
  no_registry true i lane_kind p = refl
  no_registry true i bank_kind p = refl
  no_registry true i shard_kind p = refl
  no_registry true i timers_kind p = refl
  no_registry true i ready_kind p = refl
  no_registry true i away_kind p = refl

  no_wait : (b : Bool) (i : ℕ) (k : Kind) (w : ℕ) → at_key (sorted shard_of (there b i k)) w ≡ None
  no_wait false i k w = refl
  no_wait true i lane_kind w = refl
  no_wait true i bank_kind w = refl
  no_wait true i shard_kind w = refl
  no_wait true i timers_kind w = refl
  no_wait true i ready_kind w = refl
  no_wait true i away_kind w = refl

  timers_opened : (b : Bool) (i : ℕ) (k : Kind) (c : TimersPart) → sorted timers_of (there b i k) ≡ Some c → clock ≡ c
  timers_opened false i k c e = absurd (let z : None ≡ Some c = e in cc)
  timers_opened true i timers_kind c e = some_same clock c e
  timers_opened true i lane_kind c e = absurd (let z : None ≡ Some c = e in cc)
  timers_opened true i bank_kind c e = absurd (let z : None ≡ Some c = e in cc)
  timers_opened true i shard_kind c e = absurd (let z : None ≡ Some c = e in cc)
  timers_opened true i ready_kind c e = absurd (let z : None ≡ Some c = e in cc)
  timers_opened true i away_kind c e = absurd (let z : None ≡ Some c = e in cc)

  ready_opened : (b : Bool) (i : ℕ) (k : Kind) (q : List (ℕ × TaskAgent A)) → sorted ready_of (there b i k) ≡ Some q → cond (eqb i (n + 33)) ((0, main_agent main) ∷ []) [] ≡ q
  ready_opened false i k q e = absurd (let z : None ≡ Some q = e in cc)
  ready_opened true i ready_kind q e = some_same (cond (eqb i (n + 33)) ((0, main_agent main) ∷ []) []) q e
  ready_opened true i lane_kind q e = absurd (let z : None ≡ Some q = e in cc)
  ready_opened true i bank_kind q e = absurd (let z : None ≡ Some q = e in cc)
  ready_opened true i shard_kind q e = absurd (let z : None ≡ Some q = e in cc)
  ready_opened true i timers_kind q e = absurd (let z : None ≡ Some q = e in cc)
  ready_opened true i away_kind q e = absurd (let z : None ≡ Some q = e in cc)

only_first : (b : TaskBody) (t : ℕ) (x : Task) → update eqb (λ n. None) 0 (Some (runs None b)) t ≡ Some x → (0 ≡ t) × (runs None b ≡ x)
only_first b t x e = by (eqb 0 t) refl e where
  by : (c : Bool) → eqb 0 t ≡ c → cond c (Some (runs None b)) None ≡ Some x → (0 ≡ t) × (runs None b ≡ x)
  by true is e = (eqb-true 0 t is, some_same (runs None b) x e)
  by false is e = absurd (let z : None ≡ Some x = e in cc)

module _ {A : Type 0} (place : A → At) (stands : ProgramView → A → TaskBody → Type 0) (n : ℕ) (program : ProgramView) (main : A) (b : TaskBody) (clock : TimersPart) (some : 0 < n) (st : stands program main b) where
  abbrev now : ℕ → Option (Content (TaskAgent A))
  now = opening_parts n program main clock

  abbrev tasks : Tasks
  tasks = update eqb (λ n. None) 0 (Some (runs None b))

  abbrev lane : ℕ → Option (LaneView (TaskAgent A))
  lane w = sorted lane_of (now w)

  abbrev ready : ℕ → Option (List (ℕ × TaskAgent A))
  ready r = sorted ready_of (now (n + 33 + r))

  main_stands : (t : ℕ) → 0 ≡ t → StandsAs (stands_of stands program) tasks t (main_agent main)
  main_stands t e = (runs None b, (ap (λ c. cond c (Some (runs None b)) None) (eq-eqb 0 t e), refl), (refl, st))

  first_ready : ready 0 ≡ Some ((0, main_agent main) ∷ [])
  first_ready = ap (λ c. sorted ready_of (there n program main clock c (n + 33 + 0) (kind_at n (n + 33 + 0)))) (lt-ltb (n + 33 + 0) (n + 33 + n) (omega (arith, some)))
      ∙ ap (λ k. sorted ready_of (there n program main clock true (n + 33 + 0) k)) (ready_place n 0)
      ∙ ap (λ c. Some (cond c ((0, main_agent main) ∷ []) [])) (eq-eqb (n + 33 + 0) (n + 33) (omega arith))

  seats : Seated (place_of place) (stands_of stands program) lane ready (λ w. None) tasks []
  seats = record {
    seat = λ t. in_ready 0;
    laned = λ w l t a e f. no_task l l t a refl (lane_opened n program main clock (nat_lt w (n + 33 + n)) w (kind_at n w) l e).1 f;
    queued = λ r q e. subst (λ l. EachSeated (stands_of stands program) tasks (λ t. in_ready 0) r l) (ready_opened n program main clock (nat_lt (n + 33 + r) (n + 33 + n)) (n + 33 + r) (kind_at n (n + 33 + r)) q e) (in_it r (eqb (n + 33 + r) (n + 33)) refl);
    found = λ t x e. let k = only_first b t x e.0 in ((0, main_agent main) ∷ [], main_agent main, first_ready, subst (λ (t : ℕ). Contains {X = ℕ × TaskAgent A} ((0, main_agent main) ∷ []) (t, main_agent main)) k.0 (Contains-push [] (0, main_agent main)));
    owners = λ w u a e. absurd (let z : None ≡ Some (owner u a) = e in cc);
    nobodies = λ w e. refl;
  } where
    in_it : (r : ℕ) (c : Bool) → eqb (n + 33 + r) (n + 33) ≡ c → EachSeated (stands_of stands program) tasks (λ t. in_ready 0) r (cond c ((0, main_agent main) ∷ []) [])
    in_it r true e = (ap in_ready (sym (at_place n r (eqb-true (n + 33 + r) (n + 33) e))), main_stands 0 refl, tt, tt)
    in_it r false e = tt

  pub opens : clock.deadlines ≡ [] → clock.now ≡ 0 → RunStands place stands program n now (opening_state b)
  opens none zero_now = record {
    there = λ i lt. ap (λ c. is_some (there n program main clock c i (kind_at n i))) (lt-ltb i (n + 33 + n) lt);
    no_more = λ i c e. within (nat_lt i (n + 33 + n)) i c refl e;
    kinds = λ i c e. kind_there (nat_lt i (n + 33 + n)) i c e;
    placed = (
      λ i k f x e g. absurd (let z : None ≡ Some x = sym (empty_channels (nat_lt (n + i) (n + 33 + n)) (n + i) (kind_at n (n + i)) f k e) ∙ g in cc),
      λ i k f x e g. absurd (let z : None ≡ Some x = sym (empty_registries (nat_lt (n + i) (n + 33 + n)) (n + i) (kind_at n (n + i)) f k e) ∙ g in cc),
      λ i k f x e g. absurd (let z : None ≡ Some x = sym (empty_waits (nat_lt (n + 16 + i) (n + 33 + n)) (n + 16 + i) (kind_at n (n + 16 + i)) f k e) ∙ g in cc),
    );
    stand = subst (λ (x : Whole (TaskAgent A)). WholeStands (place_of place) (stands_of stands) program n x (opening_state b)) (sym whole_it) (record {
      lanes = λ w l e. let k = lane_opened n program main clock (nat_lt w (n + 33 + n)) w (kind_at n w) l e in (k.0, lane_place n w k.2);
      holds = record {
        channels_are = λ p. refl;
        queues = λ side p k e. absurd (let z : None ≡ Some k = e in cc);
        nowhere = λ side p e. refl;
        named = λ side p k e. absurd (let z : None ≡ Some k = e in cc);
        living = λ w. refl;
        given = λ w e. absurd (let z : false ≡ true = e in cc);
        differ = tt;
      };
      registered = λ p. refl;
      seated = seats;
      clocked = λ c e. let same = timers_opened n program main clock (nat_lt (n + 32) (n + 33 + n)) (n + 32) (kind_at n (n + 32)) c e in
          subst (λ (z : TimersPart). (z.deadlines ≡ []) × (z.now ≡ 0) × (z.now ≤ z.least)) same (none, zero_now, none_below clock.now clock.least zero_now);
      numbered = record {
        tasks = λ t x e. inl (sym (only_first b t x e).0);
        ports = λ p c e. absurd (let z : None ≡ Some c = e in cc);
        registries = λ p r e. absurd (let z : None ≡ Some r = e in cc);
        waits = λ v e. absurd (let z : false ≡ true = e in cc);
      };
    });
  } where
    empty_channels : (c : Bool) (i : ℕ) (k : Kind) (f : ℕ → Option Kept) (p : ℕ) → channels_of (sorted bank_of (there n program main clock c i k)) ≡ Some f → f p ≡ None
    empty_channels c i k f p e = sym (ap (λ (o : Option (ℕ → Option Kept)). at_key o p) e) ∙ no_channel n program main clock c i k p

    empty_registries : (c : Bool) (i : ℕ) (k : Kind) (f : ℕ → Option Registry) (p : ℕ) → registries_of (sorted bank_of (there n program main clock c i k)) ≡ Some f → f p ≡ None
    empty_registries c i k f p e = sym (ap (λ (o : Option (ℕ → Option Registry)). at_key o p) e) ∙ no_registry n program main clock c i k p

    empty_waits : (c : Bool) (i : ℕ) (k : Kind) (f : ℕ → Option (Parked (TaskAgent A))) (w : ℕ) → sorted shard_of (there n program main clock c i k) ≡ Some f → f w ≡ None
    empty_waits c i k f w e = sym (ap (λ (o : Option (ℕ → Option (Parked (TaskAgent A)))). at_key o w) e) ∙ no_wait n program main clock c i k w

    none_below : (a c : ℕ) → a ≡ 0 → a ≤ c
    none_below a c e = omega (arith, e)

    within : (c : Bool) (i : ℕ) (x : Content (TaskAgent A)) → nat_lt i (n + 33 + n) ≡ c → there n program main clock c i (kind_at n i) ≡ Some x → i < n + 33 + n
    within true i x is e = ltb-true i (n + 33 + n) is
    within false i x is e = absurd (let z : None ≡ Some x = e in cc)

    kind_there : (c : Bool) (i : ℕ) (x : Content (TaskAgent A)) → there n program main clock c i (kind_at n i) ≡ Some x → (x.workers ≡ n) × (kind_of_part x.held ≡ kind_at n i)
    kind_there false i x e = absurd (let z : None ≡ Some x = e in cc)
    kind_there true i x e = let same = some_same (record { workers = n; held = part_opened n program main clock i (kind_at n i) }) x e in
        (sym (ap (λ (z : Content (TaskAgent A)). z.workers) same), sym (ap (λ (z : Content (TaskAgent A)). kind_of_part z.held) same) ∙ kind_is n program main clock i (kind_at n i))

    all : Whole (TaskAgent A)
    all = record { lane = lane; ports = λ p. None; registries = λ p. None; parked = λ w. None; ready = ready; timers = sorted timers_of (now (n + 32)) }

    whole_it : whole_of (parts_of n now) ≡ all
    whole_it = λ i. record {
      lane = lane;
      ports = same_map (whole (parts_of n now).bank) (λ p. None) (λ p. no_channel n program main clock (nat_lt (n + home p) (n + 33 + n)) (n + home p) (kind_at n (n + home p)) p) i;
      registries = same_map (whole (parts_of n now).registry) (λ p. None) (λ p. no_registry n program main clock (nat_lt (n + home p) (n + 33 + n)) (n + home p) (kind_at n (n + home p)) p) i;
      parked = same_map (whole (parts_of n now).shard) (λ w. None) (λ w. no_wait n program main clock (nat_lt (n + 16 + home w) (n + 33 + n)) (n + 16 + home w) (kind_at n (n + 16 + home w)) w) i;
      ready = ready;
      timers = sorted timers_of (now (n + 32));
    }
