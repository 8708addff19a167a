-- The topics of a publication.
use Rattle.std.proofs.Common.{◌≡◌, ℕ, zero, suc, ◌+◌, ◌<◌, List, [], ◌∷◌, ◌++◌, length, map as map_list, Bool, true, false, not, cond, filter, Option, Some, None, option_map, drop, fold, eqb, eqb-true, eq-eqb, refl, sym, ◌∙◌, ap, arith}
use Rattle.std.specs.Prelude.{is_some}
use Rattle.std.proofs.lemmas.Bool.Decides.{Decides-int_eq}
use Rattle.std.proofs.lemmas.Slice.Eq.{bytes_eq-Decides}
use Rattle.std.proofs.lemmas.List.{length-map}
use Rattle.ca_value.specs.Tree.{Tree, nil, bool, int, text, key, vector, map, port}
use Rattle.ca_value.specs.View.{view}
use Rattle.ca_value.specs.Equality.{equals}
use Rattle.ca_meaning.specs.Registry.{TopicView, with_topic_placed, pair_found, topic_value}
use Rattle.ca_registry.specs.declared.topic.Topic.{Topic}
use Rattle.ca_registry.specs.Marks.{topic_view, int_mark, mixed, mark_of, first_marked, first_equal, or_place}
use Rattle.ca_registry.specs.Publications.{has_topic}

pub placed_more : (t : TopicView) (ts : List TopicView) → length (with_topic_placed t ts) ≡ length ts + cond (has_topic t.topic ts) 0 1
placed_more t [] = refl
placed_more t (u ∷ us) = by (equals t.topic u.topic) (placed_more t us) where
  by : (same : Bool) → length (with_topic_placed t us) ≡ length us + cond (has_topic t.topic us) 0 1 → length (cond same (u ∷ us) (u ∷ with_topic_placed t us)) ≡ suc (length us) + cond (cond same true (has_topic t.topic us)) 0 1
  by true r = omega arith
  by false r = omega (arith, r)

pub placed_size : (t : TopicView) (xs : List Topic) → length (with_topic_placed t (map_list topic_view xs)) ≡ length xs + cond (has_topic t.topic (map_list topic_view xs)) 0 1
placed_size t xs = omega (arith, placed_more t (map_list topic_view xs), length-map xs topic_view)

-- a topic that is there stays as it is
pub placed_old : (t : TopicView) (ts : List TopicView) → has_topic t.topic ts ≡ true → with_topic_placed t ts ≡ ts
placed_old t [] h = absurd (let q : false ≡ true = h in cc)
placed_old t (u ∷ us) h = by (equals t.topic u.topic) h (placed_old t us) where
  by : (same : Bool) → cond same true (has_topic t.topic us) ≡ true → (has_topic t.topic us ≡ true → with_topic_placed t us ≡ us) → cond same (u ∷ us) (u ∷ with_topic_placed t us) ≡ u ∷ us
  by true k r = refl
  by false k r = ap (λ (xs : List TopicView). u ∷ xs) (r k)

-- else it stands last
pub placed_new : (t : TopicView) (ts : List TopicView) → has_topic t.topic ts ≡ false → with_topic_placed t ts ≡ ts ++ t ∷ []
placed_new t [] h = refl
placed_new t (u ∷ us) h = by (equals t.topic u.topic) h (placed_new t us) where
  by : (same : Bool) → cond same true (has_topic t.topic us) ≡ false → (has_topic t.topic us ≡ false → with_topic_placed t us ≡ us ++ t ∷ []) → cond same (u ∷ us) (u ∷ with_topic_placed t us) ≡ u ∷ (us ++ t ∷ [])
  by true k r = absurd (let q : true ≡ false = k in cc)
  by false k r = ap (λ (xs : List TopicView). u ∷ xs) (r k)

pub dropped_is : (topic : Tree) (xs : List Topic) → map_list topic_view (filter (λ x. not (equals topic (view x.topic))) xs) ≡ filter (λ (t : TopicView). not (equals topic t.topic)) (map_list topic_view xs)
dropped_is topic [] = refl
dropped_is topic (x ∷ xs) = by (not (equals topic (view x.topic))) (dropped_is topic xs) where
  by : (keeps : Bool) → map_list topic_view (filter (λ y. not (equals topic (view y.topic))) xs) ≡ filter (λ (t : TopicView). not (equals topic t.topic)) (map_list topic_view xs) → map_list topic_view (cond keeps (x ∷ filter (λ y. not (equals topic (view y.topic))) xs) (filter (λ y. not (equals topic (view y.topic))) xs)) ≡ cond keeps (topic_view x ∷ filter (λ (t : TopicView). not (equals topic t.topic)) (map_list topic_view xs)) (filter (λ (t : TopicView). not (equals topic t.topic)) (map_list topic_view xs))
  by true r = ap (λ (ts : List TopicView). topic_view x ∷ ts) r
  by false r = r

-- what is found once the topic is placed
pub found_placed : (t : TopicView) (ts : List TopicView) → equals t.topic t.topic ≡ true → pair_found t.topic (with_topic_placed t ts) ≡ cond (has_topic t.topic ts) (pair_found t.topic ts) (topic_value t)
found_placed t [] h = ap (λ (b : Bool). cond b (topic_value t) nil) h
found_placed t (u ∷ us) h = by (equals t.topic u.topic) refl (found_placed t us h) where
  by : (same : Bool) → equals t.topic u.topic ≡ same → pair_found t.topic (with_topic_placed t us) ≡ cond (has_topic t.topic us) (pair_found t.topic us) (topic_value t) → pair_found t.topic (cond same (u ∷ us) (u ∷ with_topic_placed t us)) ≡ cond (cond same true (has_topic t.topic us)) (cond same (topic_value u) (pair_found t.topic us)) (topic_value t)
  by true e r = ap (λ (b : Bool). cond b (topic_value u) (pair_found t.topic us)) e
  by false e r = ap (λ (b : Bool). cond b (topic_value u) (pair_found t.topic (with_topic_placed t us))) e ∙ r

pub placed_push : (t : TopicView) (ts us : List TopicView) → us ≡ ts ++ t ∷ [] → has_topic t.topic ts ≡ false → us ≡ with_topic_placed t ts
placed_push t ts us e h = e ∙ sym (placed_new t ts h)

-- whether a topic is there, and what is found, by the first that is equal to it
pub has_first : (topic : Tree) (ts : List TopicView) → has_topic topic ts ≡ is_some (first_equal topic ts)
has_first topic [] = refl
has_first topic (t ∷ ts) = by (equals topic t.topic) (has_first topic ts) where
  by : (b : Bool) → has_topic topic ts ≡ is_some (first_equal topic ts) → cond b true (has_topic topic ts) ≡ is_some (cond b (Some t) (first_equal topic ts))
  by true e = refl
  by false e = e

abbrev pub value_of : Option TopicView → Tree
value_of None = nil
value_of (Some t) = topic_value t

pub found_first : (topic : Tree) (ts : List TopicView) → pair_found topic ts ≡ value_of (first_equal topic ts)
found_first topic [] = refl
found_first topic (t ∷ ts) = by (equals topic t.topic) (found_first topic ts) where
  by : (b : Bool) → pair_found topic ts ≡ value_of (first_equal topic ts) → cond b (topic_value t) (pair_found topic ts) ≡ value_of (cond b (Some t) (first_equal topic ts))
  by true e = refl
  by false e = e

-- equal values have one mark
pub one_mark : (a b : Tree) → equals a b ≡ true → mark_of a ≡ mark_of b
one_mark nil nil e = refl
one_mark (bool x) (bool y) e = refl
one_mark (int x) (int y) e = ap int_mark ((Decides-int_eq x y).0 e)
one_mark (text x) (text y) e = ap (fold mixed 7) ((bytes_eq-Decides x y).0 e)
one_mark (key x) (key y) e = ap (fold mixed 7) ((bytes_eq-Decides x y).0 e)
one_mark (vector x) (vector y) e = refl
one_mark (map x) (map y) e = refl
one_mark (port x) (port y) e = eqb-true x y e
one_mark a b e = absurd (let q : false ≡ true = e in cc)

-- what has another mark is not equal
apart : (topic : Tree) (t : TopicView) → eqb (mark_of topic) (mark_of t.topic) ≡ false → equals topic t.topic ≡ false
apart topic t ne = by (equals topic t.topic) refl where
  by : (b : Bool) → equals topic t.topic ≡ b → equals topic t.topic ≡ false
  by false e = e
  by true e = absurd (let q : true ≡ false = sym (eq-eqb (mark_of topic) (mark_of t.topic) (one_mark topic t.topic e)) ∙ ne in cc)

no_suc : (o : Option ℕ) → option_map suc o ≡ None → o ≡ None
no_suc None e = refl
no_suc (Some i) e = absurd (let q : Some (suc i) ≡ None = e in cc)

some_suc : (o : Option ℕ) (i : ℕ) → option_map suc o ≡ Some i → (j : ℕ) × (o ≡ Some j) × (suc j ≡ i)
some_suc None i e = absurd (let q : None ≡ Some i = e in cc)
some_suc (Some j) i e = (j, refl, cc)

-- where no topic has its mark, none is equal
pub none_marked : (topic : Tree) (ts : List TopicView) → first_marked (mark_of topic) ts ≡ None → first_equal topic ts ≡ None
none_marked topic [] e = refl
none_marked topic (t ∷ ts) e = by (eqb (mark_of topic) (mark_of t.topic)) refl (none_marked topic ts) e where
  by : (b : Bool) → eqb (mark_of topic) (mark_of t.topic) ≡ b → (first_marked (mark_of topic) ts ≡ None → first_equal topic ts ≡ None) → cond b (Some 0) (option_map suc (first_marked (mark_of topic) ts)) ≡ None → cond (equals topic t.topic) (Some t) (first_equal topic ts) ≡ None
  by true ne ih h = absurd (let q : Some 0 ≡ None = h in cc)
  by false ne ih h = ap (λ c. cond c (Some t) (first_equal topic ts)) (apart topic t ne) ∙ ih (no_suc (first_marked (mark_of topic) ts) h)

-- no topic before the first one with its mark is equal
pub from_first : (topic : Tree) (ts : List TopicView) (i : ℕ) → first_marked (mark_of topic) ts ≡ Some i → first_equal topic (drop i ts) ≡ first_equal topic ts
from_first topic [] i e = absurd (let q : None ≡ Some i = e in cc)
from_first topic (t ∷ ts) i e = by (eqb (mark_of topic) (mark_of t.topic)) refl (from_first topic ts) e where
  by : (b : Bool) → eqb (mark_of topic) (mark_of t.topic) ≡ b → ((j : ℕ) → first_marked (mark_of topic) ts ≡ Some j → first_equal topic (drop j ts) ≡ first_equal topic ts) → cond b (Some 0) (option_map suc (first_marked (mark_of topic) ts)) ≡ Some i → first_equal topic (drop i (t ∷ ts)) ≡ first_equal topic (t ∷ ts)
  by true ne ih h = let z : 0 ≡ i = cc in ap (λ (n : ℕ). first_equal topic (drop n (t ∷ ts))) (sym z)
  by false ne ih h = let s = some_suc (first_marked (mark_of topic) ts) i h in
      ap (λ (n : ℕ). first_equal topic (drop n (t ∷ ts))) (sym s.2) ∙ ih s.0 s.1 ∙ sym (ap (λ c. cond c (Some t) (first_equal topic ts)) (apart topic t ne))

pub first_within : (m : ℕ) (ts : List TopicView) (i : ℕ) → first_marked m ts ≡ Some i → i < length ts
first_within m [] i e = absurd (let q : None ≡ Some i = e in cc)
first_within m (t ∷ ts) i e = by (eqb m (mark_of t.topic)) (first_within m ts) e where
  by : (b : Bool) → ((j : ℕ) → first_marked m ts ≡ Some j → j < length ts) → cond b (Some 0) (option_map suc (first_marked m ts)) ≡ Some i → i < suc (length ts)
  by true ih h = let z : 0 ≡ i = cc in omega arith
  by false ih h = let s = some_suc (first_marked m ts) i h in let l = ih s.0 s.1 in omega (arith, s.2)

-- with one more topic at the end
pub first_pushed : (m : ℕ) (ts : List TopicView) (t : TopicView) → first_marked m (ts ++ t ∷ []) ≡ or_place (first_marked m ts) (cond (eqb m (mark_of t.topic)) (Some (length ts)) None)
first_pushed m [] t = refl
first_pushed m (u ∷ ts) t = by (eqb m (mark_of u.topic)) (first_marked m ts) (eqb m (mark_of t.topic)) (first_pushed m ts t) where
  by : (b : Bool) (o : Option ℕ) (c : Bool) → first_marked m (ts ++ t ∷ []) ≡ or_place o (cond c (Some (length ts)) None) → cond b (Some 0) (option_map suc (first_marked m (ts ++ t ∷ []))) ≡ or_place (cond b (Some 0) (option_map suc o)) (cond c (Some (suc (length ts))) None)
  by true o c e = refl
  by false None true e = ap (option_map suc) e
  by false None false e = ap (option_map suc) e
  by false (Some i) c e = ap (option_map suc) e

pub view_drop : (i : ℕ) (xs : List Topic) → map_list topic_view (drop i xs) ≡ drop i (map_list topic_view xs)
view_drop zero xs = refl
view_drop (suc i) [] = refl
view_drop (suc i) (x ∷ xs) = view_drop i xs

pub view_push : (xs : List Topic) (x : Topic) → map_list topic_view (xs ++ x ∷ []) ≡ map_list topic_view xs ++ topic_view x ∷ []
view_push [] x = refl
view_push (y ∷ xs) x = ap (λ (ts : List TopicView). topic_view y ∷ ts) (view_push xs x)

-- the marks of one more topic
pub marked_more : (m : ℕ) (xs ys : List Topic) (x : Topic) (o : Option ℕ) → ys ≡ xs ++ x ∷ [] → o ≡ first_marked m (map_list topic_view xs) → or_place o (cond (eqb m (mark_of (view x.topic))) (Some (length xs)) None) ≡ first_marked m (map_list topic_view ys)
marked_more m xs ys x o e h =
    ap (λ p. or_place p (cond (eqb m (mark_of (view x.topic))) (Some (length xs)) None)) h
    ∙ ap (λ (n : ℕ). or_place (first_marked m (map_list topic_view xs)) (cond (eqb m (mark_of (view x.topic))) (Some n) None)) (sym (length-map xs topic_view))
    ∙ sym (ap (λ zs. first_marked m (map_list topic_view zs)) e ∙ ap (first_marked m) (view_push xs x) ∙ first_pushed m (map_list topic_view xs) (topic_view x))
