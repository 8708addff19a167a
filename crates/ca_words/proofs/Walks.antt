-- A walk of clap over the words of a command passes exactly where the words, joined, are taken, with the same rows.
use Rattle.std.proofs.Common.{◌≡◌, ◌∙◌, ◌⊎◌, ℕ, Bool, true, false, refl, sym, ap, subst, List, [], ◌∷◌, ◌++◌, Option, Some, None, is_some, inl, inr, true≢false}
use Rattle.std.specs.Prelude.{fold, option_and_then, unwrap_or, if◌then◌else◌}
use Rattle.clap.specs.Lexer.{long_of}
use Rattle.clap.specs.Kinds.{or_else}
use Rattle.clap.specs.Faults.{settle_fault, walk_fault}
use Rattle.clap.specs.Walk.{Row, Rule, Walk, arg_by_id, arg_by_index, arg_by_long, has_row, settled, settled_rows, used, walked}
use Rattle.ca_words.specs.Words.{Text, options_joined, wants_value}
use Rattle.ca_words.proofs.Rules.{IsOpen, at, flag, is_bare, leaf, next_place, place, valued, wait}
use Rattle.ca_words.proofs.Steps.{both_none, cons≢nil, empty_settle, flag_fresh, flag_turn, flag_walk, fresh_flag, fresh_place, fresh_value, full_turn, given_turn, given_walk, none_of, other_long_turn, place_fresh, place_turn, place_walk, settle, stray_turn, turn, unknown_turn, value_fresh, value_turn, value_walk, waits_turn, waits_walk}
use Rattle.ca_words.proofs.Taken.{IsLong, IsPlace, Served, all_taken, any, taken}
use Rattle.ca_words.proofs.LongWords.{bare_is_open, joined_apart, joined_whole, long_word, some≢none, wanting}

-- ---- what a word is to the rules

abbrev pub Opens : List Text → Type 0
Opens [] = Unit {0}
Opens (x ∷ xs) = IsOpen x × Opens xs

pub data Seen (m : Text) (c : List Rule) (k : ℕ) (x : Text) : Type 0 where
  waits : (n : Text) → long_of x ≡ Some (n, None) → arg_by_long c n ≡ Some (valued n) → arg_by_id c n ≡ Some (valued n) → wants_value x ≡ true → Seen m c k x
  given : (n v : Text) → long_of x ≡ Some (n, Some v) → arg_by_long c n ≡ Some (valued n) → arg_by_id c n ≡ Some (valued n) → Seen m c k x
  flagged : (n : Text) → long_of x ≡ Some (n, None) → arg_by_long c n ≡ Some (flag n) → wants_value x ≡ false → Seen m c k x
  placed : (n : Text) → long_of x ≡ None → arg_by_index c k ≡ Some (place n k) → arg_by_id c n ≡ Some (place n k) → Seen m c k x
  refused : ((rows : List Row) (p : Option (Text × List Text)) → turn m c (at rows p k) x ≡ [] → ⊥)
      → ((ok : Text → Bool) (rows : List Row) → taken ok c (k, rows) x ≡ None) → Seen m c k x

module _ (m : Text) (c : List Rule) (served : Served c) where
  see_long : (k : ℕ) (x n : Text) (v : Option Text) → IsOpen x → long_of x ≡ Some (n, v) → IsLong c n → Seen m c k x
  see_long k x n v o is (inl a) = refused (λ rows p e. cons≢nil _ _ (sym (unknown_turn m c rows p k x n v o.0 is a) ∙ e)) (λ ok rows. rw (is, a) refl)
  see_long k x n None o is (inr (inl a)) = waits n is a.0 a.1 (ap wants_value (long_word x n is) ∙ a.2)
  see_long k x n (Some v) o is (inr (inl a)) = given n v is a.0 a.1
  see_long k x n None o is (inr (inr a)) = flagged n is a.0 (ap wants_value (long_word x n is) ∙ a.1)
  see_long k x n (Some v) o is (inr (inr a)) = refused (λ rows p e. cons≢nil _ _ (sym (full_turn m c rows p k x n v o.0 is a.0) ∙ e)) (λ ok rows. rw (is, a.0) refl)

  see_place : (k : ℕ) (x : Text) → IsOpen x → long_of x ≡ None → IsPlace c k → Seen m c k x
  see_place k x o is (inl a) = refused (λ rows p e. cons≢nil _ _ (sym (stray_turn m c rows p k x o is a) ∙ e)) (λ ok rows. rw (is, a) refl)
  see_place k x o is (inr a) = placed a.0 is a.1 a.2

  pub see : (k : ℕ) (x : Text) → IsOpen x → Seen m c k x
  see k x o = go (long_of x) refl
    where
      go : (q : Option (Text × Option Text)) → long_of x ≡ q → Seen m c k x
      go None is = see_place k x o is (served.places k)
      go (Some q) is = see_long k x q.0 q.1 o is (served.longs q.0)

  -- ---- the walk and the end of it

  abbrev pub Passes : Walk → List Text → Type 0
  Passes w ws = or_else (walk_fault (leaf m c) [] w ws) (settle_fault c false (fold (walked c []) w ws).held) ≡ []

  abbrev pub end_rows : Walk → List Text → List Row
  end_rows w ws = (settled c (fold (walked c []) w ws).held).rows

  pass_split : (w : Walk) (x : Text) (ws : List Text) → Passes w (x ∷ ws) → (turn m c w x ≡ []) × Passes (walked c [] w x) ws
  unfolding walk_fault
  pass_split w x ws e =
      let outer = none_of _ _ e in
      let inner = none_of _ _ outer.0 in
      (inner.0, both_none _ _ inner.1 outer.1)

  pass_join : (w : Walk) (x : Text) (ws : List Text) → turn m c w x ≡ [] → Passes (walked c [] w x) ws → Passes w (x ∷ ws)
  unfolding walk_fault
  pass_join w x ws a b =
      let p = none_of _ _ b in
      both_none _ _ (both_none _ _ a p.0) p.1

  -- what is pending passes
  must_settle : (ws : List Text) → Opens ws → (rows : List Row) (p : Option (Text × List Text)) (k : ℕ) → Passes (at rows p k) ws → settle m c rows p ≡ []
  unfolding walk_fault
  must_settle [] o rows p k e = e
  must_settle (x ∷ ws) o rows p k e = go (see k x o.0) (pass_split (at rows p k) x ws e).0
    where
      go : Seen m c k x → turn m c (at rows p k) x ≡ [] → settle m c rows p ≡ []
      go (waits n is a b w) t = sym (waits_turn m c rows p k x n o.0.0 is a) ∙ t
      go (given n v is a b) t = (none_of _ _ (sym (given_turn m c rows p k x n v o.0.0 is a) ∙ t)).0
      go (flagged n is a w) t = (none_of _ _ (sym (flag_turn m c rows p k x n o.0.0 is a) ∙ t)).0
      go (placed n is a b) t = sym (place_turn m c rows p k x n o.0 is a) ∙ t
      go (refused a b) t = absurd (a rows p t)

  -- ---- from the walk to the words

  abbrev pub Reached : List Text → List Text → List Row → Option (Text × List Text) → ℕ → Type 0
  Reached js ws rows p k = (st : ℕ × List Row) × (all_taken any c (k, settled_rows c p rows) js ≡ Some st) × (end_rows (at rows p k) ws ≡ st.1)

  whole_back : (x : Text) (ws : List Text) → IsOpen x → Opens ws → (rows : List Row) (p : Option (Text × List Text)) (k : ℕ) → wants_value x ≡ false
      → ((rows : List Row) (p : Option (Text × List Text)) (k : ℕ) → Passes (at rows p k) ws → Reached (options_joined ws) ws rows p k)
      → Passes (at rows p k) (x ∷ ws) → Reached (x ∷ options_joined ws) (x ∷ ws) rows p k
  whole_back x ws o os rows p k alone rec e = go (see k x o) (pass_split (at rows p k) x ws e)
    where
      go : Seen m c k x → (turn m c (at rows p k) x ≡ []) × Passes (walked c [] (at rows p k) x) ws → Reached (x ∷ options_joined ws) (x ∷ ws) rows p k
      go (waits n is a b w) t = absurd (true≢false (sym w ∙ alone))
      go (refused a b) t = absurd (a rows p t.0)
      go (given n v is a b) t =
          let now = settled_rows c p rows in
          let fresh = fresh_value n v now (none_of _ _ (sym (given_turn m c rows p k x n v o.0 is a) ∙ t.0)).1 in
          let step = given_walk m c rows p k x n v o.0 is a in
          let r = rec (used (valued n) (v ∷ []) now) None k (subst (λ (w : Walk). Passes w ws) step t.1) in
          (r.0, rw (is, a, fresh) r.1, ap (λ w. end_rows w ws) step ∙ r.2)
      go (flagged n is a w) t =
          let now = settled_rows c p rows in
          let fresh = fresh_flag n now (none_of _ _ (sym (flag_turn m c rows p k x n o.0 is a) ∙ t.0)).1 in
          let step = flag_walk m c rows p k x n o.0 is a in
          let r = rec (used (flag n) [] now) None k (subst (λ (w : Walk). Passes w ws) step t.1) in
          (r.0, rw (is, a, fresh) r.1, ap (λ w. end_rows w ws) step ∙ r.2)
      go (placed n is a b) t =
          let now = settled_rows c p rows in
          let step = place_walk m c rows p k x n o is a in
          let rest = subst (λ (w : Walk). Passes w ws) step t.1 in
          let fresh = fresh_place n x k now (rw b at (must_settle ws os now (Some (n, x ∷ [])) (next_place k) rest)) in
          let r = rec now (Some (n, x ∷ [])) (next_place k) rest in
          (r.0, rw (is, a, o.2 is, fresh) (rw b at r.1), ap (λ w. end_rows w ws) step ∙ r.2)

  three_ways : (n : Text) → IsLong c n → (arg_by_long c n ≡ None) ⊎ ((arg_by_long c n ≡ Some (valued n)) ⊎ (arg_by_long c n ≡ Some (flag n)))
  three_ways n (inl a) = inl a
  three_ways n (inr (inl a)) = inr (inl a.0)
  three_ways n (inr (inr a)) = inr (inr a.0)

  -- the word after an option that waits is its value
  value_next : (rows : List Row) (n v : Text) (k : ℕ) → arg_by_id c n ≡ Some (valued n) → turn m c (wait rows n k) v ≡ [] → IsOpen v → long_of v ≡ None
  value_next rows n v k b t o = go (long_of v) refl
    where
      go : (q : Option (Text × Option Text)) → long_of v ≡ q → long_of v ≡ None
      go None is = is
      go (Some q) is = absurd (other_long_turn m c rows k v n q.0 q.1 o.0 is b (three_ways q.0 (served.longs q.0)) t)

  joins : (x n v : Text) → wants_value x ≡ true → long_of x ≡ Some (n, None) → long_of (x ++ 61 ∷ v) ≡ Some (n, Some v)
  joins x n v w is =
      let o = wanting x w in
      let same : o.0 ≡ n = ap (λ (q : Option (Text × Option Text)). (unwrap_or q (n, None)).0) (sym o.2 ∙ is) in
      o.3 v ∙ ap (λ y. Some (y, Some v)) same

  apart_back : (x v : Text) (ws : List Text) → IsOpen x → IsOpen v → Opens ws → (rows : List Row) (p : Option (Text × List Text)) (k : ℕ) → wants_value x ≡ true
      → ((rows : List Row) (p : Option (Text × List Text)) (k : ℕ) → Passes (at rows p k) ws → Reached (options_joined ws) ws rows p k)
      → Passes (at rows p k) (x ∷ v ∷ ws) → Reached ((x ++ 61 ∷ v) ∷ options_joined ws) (x ∷ v ∷ ws) rows p k
  apart_back x v ws o ov os rows p k w rec e = go (see k x o) (pass_split (at rows p k) x (v ∷ ws) e)
    where
      go : Seen m c k x → (turn m c (at rows p k) x ≡ []) × Passes (walked c [] (at rows p k) x) (v ∷ ws) → Reached ((x ++ 61 ∷ v) ∷ options_joined ws) (x ∷ v ∷ ws) rows p k
      go (refused a b) t = absurd (a rows p t.0)
      go (flagged n is a off) t = absurd (true≢false (sym w ∙ off))
      go (placed n is a b) t = absurd (some≢none _ (sym is ∙ (wanting x w).2))
      go (given n y is a b) t = absurd (some≢none y (ap (λ (q : Option (Text × Option Text)). (unwrap_or q ([], None)).1) (sym (wanting x w).2 ∙ is)))
      go (waits n is a b on) t =
          let now = settled_rows c p rows in
          let step = waits_walk m c rows p k x n o.0 is a in
          let two = pass_split (wait now n k) v ws (subst (λ (u : Walk). Passes u (v ∷ ws)) step t.1) in
          let plain = value_next now n v k b two.0 ov in
          let took = value_walk m c now k v n ov plain b in
          let rest = subst (λ (u : Walk). Passes u ws) took two.1 in
          let fresh = fresh_value n v now (rw b at (must_settle ws os now (Some (n, v ∷ [])) k rest)) in
          let r = rec now (Some (n, v ∷ [])) k rest in (
            r.0,
            rw (joins x n v w is, a, fresh) (rw b at r.1),
            ap (λ u. end_rows u (v ∷ ws)) step ∙ ap (λ u. end_rows u ws) took ∙ r.2,
          )

  last_back : (x : Text) → IsOpen x → (rows : List Row) (p : Option (Text × List Text)) (k : ℕ) → wants_value x ≡ true → Passes (at rows p k) (x ∷ []) → ⊥
  unfolding walk_fault
  last_back x o rows p k w e = go (see k x o) (pass_split (at rows p k) x [] e)
    where
      go : Seen m c k x → (turn m c (at rows p k) x ≡ []) × Passes (walked c [] (at rows p k) x) [] → ⊥
      go (refused a b) t = a rows p t.0
      go (flagged n is a off) t = true≢false (sym w ∙ off)
      go (placed n is a b) t = some≢none _ (sym is ∙ (wanting x w).2)
      go (given n y is a b) t = some≢none y (ap (λ (q : Option (Text × Option Text)). (unwrap_or q ([], None)).1) (sym (wanting x w).2 ∙ is))
      go (waits n is a b on) t =
          let end = subst (λ (u : Walk). Passes u []) (waits_walk m c rows p k x n o.0 is a) t.1 in
          cons≢nil _ _ (sym (empty_settle m c (settled_rows c p rows) n b) ∙ end)

  -- where the walk passes, the words are taken, with the same rows
  pub back : (ws : List Text) → Opens ws → (rows : List Row) (p : Option (Text × List Text)) (k : ℕ) → Passes (at rows p k) ws → Reached (options_joined ws) ws rows p k
  back [] o rows p k e = ((k, settled_rows c p rows), refl, refl)
  back (x ∷ []) o rows p k e = go (wants_value x) refl
    where
      go : (b : Bool) → wants_value x ≡ b → Reached (x ∷ []) (x ∷ []) rows p k
      go true h = absurd (last_back x o.0 rows p k h e)
      go false h = whole_back x [] o.0 tt rows p k h (λ rows p k e. ((k, settled_rows c p rows), refl, refl)) e
  back (x ∷ v ∷ ws) o rows p k e = go (wants_value x) refl (back (v ∷ ws) o.1) (back ws o.1.1)
    where
      go : (b : Bool) → wants_value x ≡ b
          → ((rows : List Row) (p : Option (Text × List Text)) (k : ℕ) → Passes (at rows p k) (v ∷ ws) → Reached (options_joined (v ∷ ws)) (v ∷ ws) rows p k)
          → ((rows : List Row) (p : Option (Text × List Text)) (k : ℕ) → Passes (at rows p k) ws → Reached (options_joined ws) ws rows p k)
          → Reached (options_joined (x ∷ v ∷ ws)) (x ∷ v ∷ ws) rows p k
      go true h one two = subst (λ (js : List Text). Reached js (x ∷ v ∷ ws) rows p k) (sym (joined_apart x v ws h)) (apart_back x v ws o.0 o.1.0 o.1.1 rows p k h two e)
      go false h one two = subst (λ (js : List Text). Reached js (x ∷ v ∷ ws) rows p k) (sym (joined_whole x v ws h)) (whole_back x (v ∷ ws) o.0 o.1 rows p k h one e)

  -- ---- from the words to the walk

  abbrev pub TakenBy : (Text → Bool) → List Text → List Row → Option (Text × List Text) → ℕ → Type 0
  TakenBy ok js rows p k = is_some (all_taken ok c (k, settled_rows c p rows) js) ≡ true

  guarded : {X Y : Type 0} (b : Bool) (q : Option X) (f : X → Option Y) → is_some (option_and_then f (if b then q else None)) ≡ true
      → (b ≡ true) × (is_some (option_and_then f q) ≡ true)
  guarded true q f e = (refl, e)
  guarded false q f e = absurd (true≢false (sym e))

  fresh_of : {X Y : Type 0} (b : Bool) (x : X) (f : X → Option Y) → is_some (option_and_then f (if b then None else Some x)) ≡ true
      → (b ≡ false) × (is_some (f x) ≡ true)
  fresh_of false x f e = (refl, e)
  fresh_of true x f e = absurd (true≢false (sym e))

  abbrev Onward : List Text → Type 0
  Onward ws = (rows : List Row) (p : Option (Text × List Text)) (k : ℕ) → settle m c rows p ≡ [] → TakenBy is_bare (options_joined ws) rows p k → Passes (at rows p k) ws

  not_taken : (x : Text) (js : List Text) (k : ℕ) (rows : List Row) → taken is_bare c (k, rows) x ≡ None → is_some (all_taken is_bare c (k, rows) (x ∷ js)) ≡ true → ⊥
  not_taken x js k rows none e = true≢false (sym (rw none at e))

  whole_on : (x : Text) (ws : List Text) → IsOpen x → (rows : List Row) (p : Option (Text × List Text)) (k : ℕ) → wants_value x ≡ false → Onward ws
      → settle m c rows p ≡ [] → TakenBy is_bare (x ∷ options_joined ws) rows p k → Passes (at rows p k) (x ∷ ws)
  whole_on x ws o rows p k alone rec s e = go (see k x o)
    where
      go : Seen m c k x → Passes (at rows p k) (x ∷ ws)
      go (waits n is a b w) = absurd (true≢false (sym w ∙ alone))
      go (refused a b) = absurd (not_taken x (options_joined ws) k (settled_rows c p rows) (b is_bare (settled_rows c p rows)) e)
      go (given n v is a b) =
          let now = settled_rows c p rows in
          let pass = guarded (is_bare v) _ (λ (t : ℕ × List Row). all_taken is_bare c t (options_joined ws)) (rw (is, a) at e) in
          let fresh = fresh_of (has_row n now) (k, used (valued n) (v ∷ []) now) (λ t. all_taken is_bare c t (options_joined ws)) pass.1 in
          pass_join (at rows p k) x ws (given_turn m c rows p k x n v o.0 is a ∙ both_none _ _ s (value_fresh n v now fresh.0))
          (subst (λ (w : Walk). Passes w ws) (sym (given_walk m c rows p k x n v o.0 is a)) (rec (used (valued n) (v ∷ []) now) None k refl fresh.1))
      go (flagged n is a w) =
          let now = settled_rows c p rows in
          let fresh = fresh_of (has_row n now) (k, used (flag n) [] now) (λ t. all_taken is_bare c t (options_joined ws)) (rw (is, a) at e) in
          pass_join (at rows p k) x ws (flag_turn m c rows p k x n o.0 is a ∙ both_none _ _ s (flag_fresh n now fresh.0))
          (subst (λ (w : Walk). Passes w ws) (sym (flag_walk m c rows p k x n o.0 is a)) (rec (used (flag n) [] now) None k refl fresh.1))
      go (placed n is a b) =
          let now = settled_rows c p rows in
          let pass = guarded (is_bare x) _ (λ (t : ℕ × List Row). all_taken is_bare c t (options_joined ws)) (rw (is, a) at e) in
          let fresh = fresh_of (has_row n now) (next_place k, used (place n k) (x ∷ []) now) (λ t. all_taken is_bare c t (options_joined ws)) pass.1 in
          pass_join (at rows p k) x ws (place_turn m c rows p k x n o is a ∙ s)
          (subst (λ (w : Walk). Passes w ws) (sym (place_walk m c rows p k x n o is a)) (rec now (Some (n, x ∷ [])) (next_place k)
          (rw b (place_fresh n x k now fresh.0)) (rw b fresh.1)))

  apart_on : (x v : Text) (ws : List Text) → IsOpen x → IsOpen v → (rows : List Row) (p : Option (Text × List Text)) (k : ℕ) → wants_value x ≡ true → Onward ws
      → settle m c rows p ≡ [] → TakenBy is_bare ((x ++ 61 ∷ v) ∷ options_joined ws) rows p k → Passes (at rows p k) (x ∷ v ∷ ws)
  apart_on x v ws o ov rows p k w rec s e = go (served.longs n)
    where
      n : Text
      n = (wanting x w).0

      is : long_of x ≡ Some (n, None)
      is = (wanting x w).2

      go : IsLong c n → Passes (at rows p k) (x ∷ v ∷ ws)
      go (inl a) = absurd (true≢false (sym (rw (joins x n v w is, a) at e)))
      go (inr (inr a)) = absurd (true≢false (sym w ∙ ap wants_value (wanting x w).1 ∙ a.1))
      go (inr (inl a)) =
          let now = settled_rows c p rows in
          let pass = guarded (is_bare v) _ (λ (t : ℕ × List Row). all_taken is_bare c t (options_joined ws)) (rw (joins x n v w is, a.0) at e) in
          let fresh = fresh_of (has_row n now) (k, used (valued n) (v ∷ []) now) (λ t. all_taken is_bare c t (options_joined ws)) pass.1 in
          let plain = bare_is_open v pass.0 in
          pass_join (at rows p k) x (v ∷ ws) (waits_turn m c rows p k x n o.0 is a.0 ∙ s)
          (subst (λ (u : Walk). Passes u (v ∷ ws)) (sym (waits_walk m c rows p k x n o.0 is a.0)) (pass_join (wait now n k) v ws (value_turn m c now k v n ov plain a.1)
          (subst (λ (u : Walk). Passes u ws) (sym (value_walk m c now k v n ov plain a.1)) (rec now (Some (n, v ∷ [])) k
          (rw a.1 (value_fresh n v now fresh.0)) (rw a.1 fresh.1)))))

  last_on : (x : Text) → (rows : List Row) (p : Option (Text × List Text)) (k : ℕ) → wants_value x ≡ true → TakenBy is_bare (x ∷ []) rows p k → ⊥
  last_on x rows p k w e = go (served.longs n)
    where
      n : Text
      n = (wanting x w).0

      is : long_of x ≡ Some (n, None)
      is = (wanting x w).2

      go : IsLong c n → ⊥
      go (inl a) = true≢false (sym (rw (is, a) at e))
      go (inr (inr a)) = true≢false (sym w ∙ ap wants_value (wanting x w).1 ∙ a.1)
      go (inr (inl a)) = true≢false (sym (rw (is, a.0) at e))

  -- where the words are taken, with values that do not begin with `-`, the walk passes
  pub on : (ws : List Text) → Opens ws → Onward ws
  unfolding walk_fault
  on [] o rows p k s e = s
  on (x ∷ []) o rows p k s e = go (wants_value x) refl
    where
      go : (b : Bool) → wants_value x ≡ b → Passes (at rows p k) (x ∷ [])
      go true h = absurd (last_on x rows p k h e)
      go false h = whole_on x [] o.0 rows p k h (λ rows p k s e. s) s e
  on (x ∷ v ∷ ws) o rows p k s e = go (wants_value x) refl (on (v ∷ ws) o.1) (on ws o.1.1)
    where
      go : (b : Bool) → wants_value x ≡ b → Onward (v ∷ ws) → Onward ws → Passes (at rows p k) (x ∷ v ∷ ws)
      go true h one two = apart_on x v ws o.0 o.1.0 rows p k h two s (subst (λ (js : List Text). TakenBy is_bare js rows p k) (joined_apart x v ws h) e)
      go false h one two = whole_on x (v ∷ ws) o.0 rows p k h one s (subst (λ (js : List Text). TakenBy is_bare js rows p k) (joined_whole x v ws h) e)
