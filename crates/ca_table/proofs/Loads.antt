-- Between two parts that move out of a hand or back: what the worker carries by then.
use Rattle.std.proofs.Common.{◌≡◌, ◌∙◌, ⊎_elim, ℕ, ◌+◌, ◌<◌, ◌≤◌, List, [], ◌∷◌, ◌++◌, refl, sym, ap, subst, arith, Bool, true, false, cond, Option, Some, None, eqb, is_some}
use Rattle.std.proofs.lemmas.Bool.{cases_lt}
use Rattle.std.specs.Map.{update}
use Rattle.ca_term.specs.Program.{ProgramView}
use Rattle.ca_meaning.specs.Task.{TaskBody}
use Rattle.ca_states.specs.Code.{CodeView}
use Rattle.ca_states.specs.declared.valid_code.ValidCode.{ValidCode}
use Rattle.ca_turns.specs.Hands.{IsHolding, TableId}
use Rattle.ca_commit.specs.Contents.{home}
use Rattle.ca_commit.specs.Listing.{listed}
use Rattle.ca_table.specs.Carriers.{IsCarrying}
use Rattle.ca_table.specs.Carrying.{Carries, at_places, part_at, with_at}
use Rattle.ca_table.specs.Grips.{Grips, SameTurns}
use Rattle.ca_table.specs.Homes.{has_home}
use Rattle.ca_table.specs.Lifting.{HasNone, PartRow, SettledIf, all_of, bank_row, first_part_number, laid_back, lifted, row_place, shard_row, with_row}
use Rattle.ca_table.specs.Parts.{part_away, part_of}
use Rattle.ca_table.specs.Seen.{PartSeen}
use Rattle.ca_table.specs.Workers.{SameWorker}
use Rattle.ca_table.specs.declared.homes.Homes.{Homes}
use Rattle.ca_table.specs.declared.part.Contents.{Contents}
use Rattle.ca_table.specs.declared.part.Part.{Part}
use Rattle.ca_table.specs.declared.worker.Worker.{Worker}
use Rattle.ca_table.proofs.Carried.{placed}
use Rattle.ca_table.proofs.HomeMembers.{own}
use Rattle.ca_table.proofs.Liftings.{below_more, from_first, from_on, gave_all, gave_at, gave_none, gave_one, is_place, is_there, laid_more, laid_there, lifted_more, listed_else, listed_last, listed_there, numbered_in, there_all, with_every, with_one, with_own, with_theirs}
use Rattle.ca_table.proofs.Seats.{then_same}

pub then_worker : {A C : Type 0} (x y z : Worker A C) → SameWorker x y → SameWorker y z → SameWorker x z
then_worker x y z a b = record { number = b.number ∙ a.number; workers = b.workers ∙ a.workers; program = b.program ∙ a.program; code = b.code ∙ a.code }

pub same_worker : {A C : Type 0} (x : Worker A C) → SameWorker x x
same_worker x = record { number = refl; workers = refl; program = refl; code = refl }

pub same_turns : {A C : Type 0} (x : Worker A C) → SameTurns x.hand x.hand
same_turns x = record { same = record { table = refl; opening = refl; hands = refl; stands_for = refl }; turns = refl }

module _ {A C T : Type 0} (over : CodeView → A → Type 0) (stands_as : ProgramView → A → TaskBody → Type 0) (code : ValidCode) (id : TableId) (seen : Part A C → PartSeen A) (row : PartRow) (as_contents : T → Contents A C) (number : T → ℕ) where
  abbrev Carry : Type 0
  Carry = Carries (Part A C × PartSeen A)

  abbrev Has : ProgramView → ℕ → Worker A C → Carry → Type 0
  Has program n = IsCarrying over stands_as program code id n

  abbrev out : ℕ → List T → ℕ → Option (Part A C × PartSeen A)
  out n xs = lifted n code as_contents seen number xs

  -- those of the first k that are wanted were moved out into the list
  pub record IsLoading (has : ℕ → Bool) (w0 w : Worker A C) (xs : List T) (k : ℕ) : Type 0 where
    pub same : SameWorker w0 w
    pub turns : SameTurns w0.hand w.hand
    pub entries : w.entries ≡ w0.entries
    pub wanted : (i : ℕ) → i < k → is_some (listed number xs i) ≡ has i
    pub none : (i : ℕ) → k ≤ i → listed number xs i ≡ None
    pub below : (i : ℕ) → IsHolding w.hand i → i < first_part_number row w0.workers + k
    pub carries : (program : ProgramView) (n : ℕ) (h : Carry) → HasNone row h → Has program n w0 h → Has program n w (with_row row (out n xs) h)

  -- where none of the first k is wanted
  pub none_loaded : (has : ℕ → Bool) (w : Worker A C) (xs : List T) (k : ℕ) → ((i : ℕ) → i < k → has i ≡ false) → xs ≡ [] → ((i : ℕ) → IsHolding w.hand i → i < first_part_number row w.workers) → IsLoading has w w xs k
  none_loaded has w xs k few e below = record {
    same = same_worker w;
    turns = same_turns w;
    entries = refl;
    wanted = λ i lt. ap (λ (l : List T). is_some (listed number l i)) e ∙ sym (few i lt);
    none = λ i le. ap (λ (l : List T). listed number l i) e;
    below = λ i h. let lt = below i h in omega (arith, lt);
    carries = λ program n h none s. subst (λ (f : Carry). Has program n w f) (sym (ap (λ (l : List T). with_row row (out n l) h) e ∙ with_every row (out n []) (all_of row h) h (λ i. sym (none i)) ∙ with_theirs row h)) s;
  }

  module _ (has : ℕ → Bool) (w0 w : Worker A C) (xs : List T) (k : ℕ) (l : IsLoading has w0 w xs k) where
    -- where none is wanted from k on
    pub all_loaded : ((i : ℕ) → k ≤ i → has i ≡ false) → (i : ℕ) → is_some (listed number xs i) ≡ has i
    all_loaded few i = ⊎_elim (λ lt. l.wanted i lt) (λ le. ap is_some (l.none i le) ∙ sym (few i le)) (cases_lt i k)

    pub not_wanted : has k ≡ false → IsLoading has w0 w xs (k + 1)
    not_wanted e = record {
      same = l.same;
      turns = l.turns;
      entries = l.entries;
      wanted = λ i lt. ⊎_elim (λ less. l.wanted i less) (λ le. let is : k ≡ i = omega (arith, lt, le) in ap is_some (l.none i le) ∙ sym e ∙ ap has is) (cases_lt i k);
      none = λ i le. l.none i (omega (arith, le));
      below = λ i h. let lt = l.below i h in omega (arith, lt);
      carries = l.carries;
    }

    pub one_loaded : (v : Worker A C) (ys : List T) (x : T) → has k ≡ true → SameWorker w v → SameTurns w.hand v.hand → v.entries ≡ w.entries → ys ≡ xs ++ x ∷ [] → number x ≡ k → ((i : ℕ) → IsHolding v.hand i → i < first_part_number row w.workers + k + 1)
        → ((program : ProgramView) (n : ℕ) (h : Carry) → listed number xs k ≡ None → Has program n w (with_row row (out n xs) h) → Has program n v (with_row row (out n ys) h)) → IsLoading has w0 v ys (k + 1)
    one_loaded v ys x wants same turns entries more is below carries = record {
      same = then_worker w0 w v l.same same;
      turns = then_same w0.hand w.hand v.hand l.turns turns;
      entries = entries ∙ l.entries;
      wanted = λ i lt. ap (λ (l : List T). is_some (listed number l i)) more ∙ ⊎_elim
          (λ less. ap is_some (listed_else number xs x i (λ e. omega (arith, e, is, less))) ∙ l.wanted i less)
          (λ le. let e : k ≡ i = omega (arith, lt, le) in ap is_some (listed_last number xs x i (is ∙ e) (l.none i le)) ∙ sym wants ∙ ap has e)
          (cases_lt i k);
      none = λ i le. ap (λ (l : List T). listed number l i) more ∙ listed_else number xs x i (λ e. omega (arith, e, is, le)) ∙ l.none i (omega (arith, le));
      below = λ i h. let lt = below i h in let e : first_part_number row w.workers ≡ first_part_number row w0.workers = ap (first_part_number row) l.same.workers in omega (arith, lt, e);
      carries = λ program n h none s. carries program n h (l.none k (omega arith)) (l.carries program n h none s);
    }

  -- what hold_at says of one part more, of the list
  pub lifted_there : (program : ProgramView) (n : ℕ) (w : Worker A C) (h : Carry) (xs ys : List T) (k : ℕ) (x : T) (c : Contents A C) → as_contents x ≡ c → number x ≡ k → ys ≡ xs ++ x ∷ [] → listed number xs k ≡ None
      → Has program n w (with_at (row_place row k) (Some (part_away n code, seen (part_of n code c))) (with_row row (out n xs) h)) → Has program n w (with_row row (out n ys) h)
  lifted_there program n w h xs ys k x c is e more none s = subst (λ (f : Carry). Has program n w f)
      (with_one row k (Some (part_away n code, seen (part_of n code (as_contents x)))) (out n xs) h ∙ ap (λ (f : ℕ → Option (Part A C × PartSeen A)). with_row row f h) (lifted_more n code as_contents number seen xs x k e none ∙ ap (out n) (sym more)))
      (subst (λ (c : Contents A C). Has program n w (with_at (row_place row k) (Some (part_away n code, seen (part_of n code c))) (with_row row (out n xs) h))) (sym is) s)

  -- nothing that it holds lies above what was moved out last
  pub ascends : (program : ProgramView) (n : ℕ) (w v : Worker A C) (h : Carry) (k : ℕ) (x : Part A C × PartSeen A) → k < 16 → Has program n w h → Has program n v (with_at (row_place row k) (Some x) h) → v.number ≡ w.number → ((i : ℕ) → IsHolding w.hand i → i < first_part_number row n + k) → (i : ℕ) → IsHolding v.hand i → i < first_part_number row n + k + 1
  ascends program n w v h k x lt s t same below = below_more w.hand v.hand (at_places n w.number h) (first_part_number row n + k) x s.grips
      (subst (λ (j : ℕ). Grips v.hand (update eqb (at_places n w.number h) j (Some x))) (sym (numbered_in row n w.number k))
      (subst (λ (f : ℕ → Option (Part A C × PartSeen A)). Grips v.hand f) (placed n w.number s.one.below (row_place row k) (is_place row k lt) (Some x) h)
      (subst (λ (m : ℕ). Grips v.hand (at_places n m (with_at (row_place row k) (Some x) h))) same t.grips))) below

  abbrev back : ℕ → List T → (ℕ → Option (PartSeen A)) → ℕ → Option (Part A C × PartSeen A)
  back n done was i = laid_back n code as_contents (listed number done i) (was i)

  abbrev bare : ℕ → (ℕ → Option (PartSeen A)) → ℕ → Option (Part A C × PartSeen A)
  bare n was i = laid_back n code as_contents None (was i)

  -- the list's last ones lie in the hand again
  pub record IsUnloading (w0 w : Worker A C) (all xs : List T) (homes : Homes) : Type 0 where
    pub same : SameWorker w0 w
    pub turns : SameTurns w0.hand w.hand
    pub entries : w.entries ≡ w0.entries
    pub done : List T
    pub split : all ≡ xs ++ done
    pub told : (i : ℕ) → i < 16 → has_home homes i ≡ is_some (listed number done i)
    pub carries : (program : ProgramView) (n : ℕ) (h : Carry) (was : ℕ → Option (PartSeen A)) → Has program n w0 (with_row row (bare n was) h) → ((i : ℕ) → is_some (was i) ≡ is_some (listed number all i)) → Has program n w (with_row row (back n done was) h)

  append_none : (xs : List T) → xs ++ [] ≡ xs
  append_none [] = refl
  append_none (x ∷ xs) = ap (λ l. x ∷ l) (append_none xs)

  append_one : (xs : List T) (x : T) (ys : List T) → (xs ++ x ∷ []) ++ ys ≡ xs ++ x ∷ ys
  append_one [] x ys = refl
  append_one (y ∷ xs) x ys = ap (λ l. y ∷ l) (append_one xs x ys)

  pub none_back : (w : Worker A C) (all : List T) (homes : Homes) → ((i : ℕ) → has_home homes i ≡ false) → IsUnloading w w all all homes
  none_back w all homes none = record { same = same_worker w; turns = same_turns w; entries = refl; done = []; split = sym (append_none all); told = λ i lt. none i; carries = λ program n h was s agree. s }

  module _ (w0 w : Worker A C) (all xs rest : List T) (x : T) (homes : Homes) (popped : xs ≡ rest ++ x ∷ []) (u : IsUnloading w0 w all xs homes) where
    -- one that is popped is one of all
    split_more : all ≡ rest ++ x ∷ u.done
    split_more = u.split ∙ ap (λ l. l ++ u.done) popped ∙ append_one rest x u.done

    pub settled_there : (was : ℕ → Option (PartSeen A)) → ((i : ℕ) → is_some (was i) ≡ is_some (listed number all i)) → (c : PartSeen A) × (was (number x) ≡ Some c)
    settled_there was agree = is_there (was (number x)) (agree (number x) ∙ ap (λ l. is_some (listed number l (number x))) split_more ∙ listed_there number rest x u.done)

    -- what it carries there, before
    pub lies_there : (program : ProgramView) (n : ℕ) (h : Carry) (was : ℕ → Option (PartSeen A)) → ((i : ℕ) → is_some (was i) ≡ is_some (listed number all i)) → Has program n w0 (with_row row (bare n was) h)
        → (y : Part A C) × (c : PartSeen A) × (was (number x) ≡ Some c) × Has program n w (with_at (row_place row (number x)) (Some (y, c)) (with_row row (back n u.done was) h))
    lies_there program n h was agree s = let c = settled_there was agree in let y = laid_there n code as_contents number (listed number u.done (number x)) c.0 in
        let own = ap (laid_back n code as_contents (listed number u.done (number x))) c.1 ∙ y.1 in
        (y.0, c.0, c.1, subst (λ (f : Carry). Has program n w f) (sym (with_own row (number x) (Some (y.0, c.0)) (back n u.done was) h own)) (u.carries program n h was s agree))

    -- there are sixteen
    pub number_below : (program : ProgramView) (n : ℕ) (h : Carry) (was : ℕ → Option (PartSeen A)) → ((i : ℕ) → is_some (was i) ≡ is_some (listed number all i)) → Has program n w0 (with_row row (bare n was) h) → number x < 16
    number_below program n h was agree s = ⊎_elim (λ lt. lt) (λ le. let c = settled_there was agree in
        let y = laid_there n code as_contents number None c.0 in let own = ap (laid_back n code as_contents None) c.1 ∙ y.1 in
        absurd (few row (number x) (Some (y.0, c.0)) (bare n was) h le own s refl)) (cases_lt (number x) 16) where
          few : (row : PartRow) (i : ℕ) (o : Option (Part A C × PartSeen A)) (f : ℕ → Option (Part A C × PartSeen A)) (h : Carry) → 16 ≤ i → f i ≡ o → IsCarrying over stands_as program code id n w0 (with_row row f h) → is_some o ≡ true → ⊥
          few bank_row i o f h le e s some = let z : false ≡ true = ap is_some (sym (s.sorted.few_banks i le) ∙ e) ∙ some in cc
          few shard_row i o f h le e s some = let z : false ≡ true = ap is_some (sym (s.sorted.few_shards i le) ∙ e) ∙ some in cc

    pub one_back : (v : Worker A C) (homes2 : Homes) → number x < 16 → SameWorker w v → SameTurns w.hand v.hand → v.entries ≡ w.entries → ((i : ℕ) → has_home homes2 i ≡ cond (eqb (home (number x)) i) true (has_home homes i))
        → ((program : ProgramView) (n : ℕ) (h : Carry) (y : Part A C) (c : PartSeen A) → Has program n w (with_at (row_place row (number x)) (Some (y, c)) h) → Has program n v (with_at (row_place row (number x)) (Some (part_of n code (as_contents x), c)) h)) → IsUnloading w0 v all rest homes2
    one_back v homes2 lt same turns entries adds puts = record {
      same = then_worker w0 w v u.same same;
      turns = then_same w0.hand w.hand v.hand u.turns turns;
      entries = entries ∙ u.entries;
      done = x ∷ u.done;
      split = split_more;
      told = λ i few. adds i ∙ ap (λ (j : ℕ). cond (eqb j i) true (has_home homes i)) (own (number x) lt) ∙ one (eqb (number x) i) i few;
      carries = λ program n h was s agree. let l = lies_there program n h was agree s in
          subst (λ (f : Carry). Has program n v f) (with_one row (number x) (Some (part_of n code (as_contents x), l.1)) (back n u.done was) h ∙ ap (λ (f : ℕ → Option (Part A C × PartSeen A)). with_row row f h) (laid_more n code as_contents number u.done was x l.1 l.2))
          (puts program n (with_row row (back n u.done was) h) l.0 l.1 l.3);
    } where
      one : (b : Bool) (i : ℕ) → i < 16 → cond b true (has_home homes i) ≡ is_some (cond b (Some x) (listed number u.done i))
      one true i few = refl
      one false i few = u.told i few

module _ {A C : Type 0} (over : CodeView → A → Type 0) (stands_as : ProgramView → A → TaskBody → Type 0) (id : TableId) (seen : Part A C → PartSeen A) (first : ℕ) (homes : Homes) where
  abbrev Held : Type 0
  Held = Carries (Part A C × PartSeen A)

  abbrev Map : Type 0
  Map = ℕ → Option (Part A C × PartSeen A)

  abbrev AreSettled : Map → Type 0
  AreSettled now = (i : ℕ) → i < 16 → SettledIf seen (has_home homes i) (now i)

  -- of those from number k on none was given back yet
  pub record IsGiving (w0 w : Worker A C) (k : ℕ) : Type 0 where
    pub same : SameWorker w0 w
    pub turns : SameTurns w0.hand w.hand
    pub entries : w.entries ≡ w0.entries
    pub carries : (program : ProgramView) (code : ValidCode) (n : ℕ) (row : PartRow) (h : Held) (now : Map) → first ≡ first_part_number row n → AreSettled now → IsCarrying over stands_as program code id n w0 (with_row row now h) → IsCarrying over stands_as program code id n w (with_row row (from_on now k) h)

  absent : (b : Bool) (o : Option (Part A C × PartSeen A)) → b ≡ false → SettledIf seen b o → o ≡ None
  absent true o e s = absurd (let z : true ≡ false = e in cc)
  absent false o e s = s

  -- where none lies before k
  pub none_given : (w : Worker A C) (k : ℕ) → k ≤ 16 → ((i : ℕ) → i < k → has_home homes i ≡ false) → IsGiving w w k
  none_given w k small none = record {
    same = same_worker w;
    turns = same_turns w;
    entries = refl;
    carries = λ program code n row h now e all s. subst (λ (f : Held). IsCarrying over stands_as program code id n w f)
        (sym (with_every row (from_on now k) now h (from_first now k (λ j lt. absent (has_home homes j) (now j) (none j lt) (all j (omega (arith, lt, small)))))))
        s;
  }

  present : (b : Bool) (o : Option (Part A C × PartSeen A)) → b ≡ true → SettledIf seen b o → (x : Part A C) × (o ≡ Some (x, seen x))
  present false o e s = absurd (let z : false ≡ true = e in cc)
  present true o e s = s

  module _ (w0 w : Worker A C) (k : ℕ) (lt : k < 16) (l : IsGiving w0 w k) where
    pub not_there : has_home homes k ≡ false → IsGiving w0 w (k + 1)
    not_there e = record { same = l.same; turns = l.turns; entries = l.entries; carries = λ program code n row h now is all s. subst (λ (f : Held). IsCarrying over stands_as program code id n w f) (with_every row (from_on now k) (from_on now (k + 1)) h (gave_none now k (absent (has_home homes k) (now k) e (all k lt)))) (l.carries program code n row h now is all s) }

    -- the next one, beside the others
    pub next_there : has_home homes k ≡ true → (program : ProgramView) (code : ValidCode) (n : ℕ) (row : PartRow) (h : Held) (now : Map) → first ≡ first_part_number row n → AreSettled now → IsCarrying over stands_as program code id n w0 (with_row row now h)
        → (x : Part A C) × IsCarrying over stands_as program code id n w (with_at (row_place row k) (Some (x, seen x)) (with_row row (from_on now (k + 1)) h))
    next_there e program code n row h now is all s = let x = present (has_home homes k) (now k) e (all k lt) in
        (x.0, subst (λ (f : Held). IsCarrying over stands_as program code id n w f) (sym (with_one row k (Some (x.0, seen x.0)) (from_on now (k + 1)) h ∙ with_every row (update eqb (from_on now (k + 1)) k (Some (x.0, seen x.0))) (from_on now k) h (λ i. ap (λ o. cond (eqb k i) o (from_on now (k + 1) i)) (sym x.1) ∙ gave_one now k i))) (l.carries program code n row h now is all s))

    pub one_given : (v : Worker A C) → has_home homes k ≡ true → SameWorker w v → SameTurns w.hand v.hand → v.entries ≡ w.entries
        → ((program : ProgramView) (code : ValidCode) (n : ℕ) (row : PartRow) (h : Held) (o : Option (Part A C × PartSeen A)) → first ≡ first_part_number row n → part_at (row_place row k) h ≡ None → IsCarrying over stands_as program code id n w (with_at (row_place row k) o h) → IsCarrying over stands_as program code id n v h) → IsGiving w0 v (k + 1)
    one_given v e same turns entries gives = record {
      same = then_worker w0 w v l.same same;
      turns = then_same w0.hand w.hand v.hand l.turns turns;
      entries = entries ∙ l.entries;
      carries = λ program code n row h now is all s. let x = next_there e program code n row h now is all s in
          gives program code n row (with_row row (from_on now (k + 1)) h) (Some (x.0, seen x.0)) is (there_all row k (from_on now (k + 1)) h ∙ gave_at now k) x.1;
    }

  -- where none lies from k on
  pub all_given : (w0 w : Worker A C) (k : ℕ) → ((i : ℕ) → k ≤ i → has_home homes i ≡ false) → IsGiving w0 w k → (program : ProgramView) (code : ValidCode) (n : ℕ) (row : PartRow) (h : Held) (now : Map) → first ≡ first_part_number row n → AreSettled now → IsCarrying over stands_as program code id n w0 (with_row row now h) → IsCarrying over stands_as program code id n w (with_row row (λ i. None) h)
  all_given w0 w k none l program code n row h now is all s = subst (λ (f : Held). IsCarrying over stands_as program code id n w f) (with_every row (from_on now k) (λ i. None) h (λ i. gave_all now k i nowhere)) (l.carries program code n row h now is all s) where
    few : (row : PartRow) → IsCarrying over stands_as program code id n w0 (with_row row now h) → (j : ℕ) → 16 ≤ j → now j ≡ None
    few bank_row s j le = s.sorted.few_banks j le
    few shard_row s j le = s.sorted.few_shards j le

    nowhere : (j : ℕ) → k ≤ j → now j ≡ None
    nowhere j le = ⊎_elim (λ lt. absent (has_home homes j) (now j) (none j le) (all j lt)) (λ beyond. few row s j beyond) (cases_lt j 16)
