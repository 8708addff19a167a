-- What the tables of puts, takes and settles say, read backwards.
use Rattle.std.proofs.Common.{◌≡◌, List, [], ◌∷◌, refl, sym, ap, ap₂, ◌∙◌, Bool, true, false, ◌&&◌, cond, Option, Some, None}
use Rattle.ca_value.specs.Tree.{Tree, nil, bool}
use Rattle.ca_value.specs.Buffer.{Policy, no_buffer, fixed_buffer, dropping_buffer, sliding_buffer, promise_buffer, room_by}
use Rattle.ca_term.specs.declared.event.Side.{Side}
use Rattle.ca_term.specs.declared.event.Side.TheVariants.{Take, Put}
use Rattle.ca_term.specs.Event.{BranchView}
use Rattle.ca_meaning.specs.Channel.{Channel, has_room, keeping, giving, is_promise, is_fixed}
use Rattle.ca_meaning.specs.Wait.{Handler}
use Rattle.ca_meaning.specs.Row.{Row, not_ready, completes, meets, put_alone, put_open, put_row, take_empty, take_of_held, take_row, row_on, row_at, unsettled, settles, settle_take, settle_put, settle_row}

-- a take that is done at once
pub data TakeDone (c : Channel) (a : Tree) (d : Channel) : Type 0 where
  gave : (vs : List Tree) → c.held ≡ a ∷ vs → d ≡ giving c → TakeDone c a d
  nothing_left : c.held ≡ [] → c.closed ≡ true → a ≡ nil → d ≡ c → TakeDone c a d

-- a put that is done at once
pub data PutDone (c : Channel) (taker putter : Option Handler) (v a : Tree) (d : Channel) : Type 0 where
  refused : c.closed ≡ true → a ≡ bool false → d ≡ c → PutDone c taker putter v a d
  promised : c.closed ≡ false → is_promise c.policy ≡ true → a ≡ bool true → d ≡ keeping c v → PutDone c taker putter v a d
  accepted : c.closed ≡ false → is_promise c.policy ≡ false → has_room c ≡ true → taker ≡ None → putter ≡ None → a ≡ bool true → d ≡ keeping c v → PutDone c taker putter v a d

pub data Settled (c : Channel) (taker putter : Option Handler) (side : Side) (h : Handler) (v : Tree) (d : Channel) : Type 0 where
  moved_in : side ≡ Put → putter ≡ Some h → v ≡ h.value → d ≡ keeping c v → is_fixed c.policy ≡ true → has_room c ≡ true → Settled c taker putter side h v d
  served : side ≡ Take → taker ≡ Some h → (vs : List Tree) → c.held ≡ v ∷ vs → d ≡ giving c → Settled c taker putter side h v d
  served_nil : side ≡ Take → taker ≡ Some h → c.held ≡ [] → c.closed ≡ true → v ≡ nil → d ≡ c → Settled c taker putter side h v d

pub take_done : (c : Channel) (putter : Option Handler) (a : Tree) (d : Channel) → take_row c putter ≡ completes a d → TakeDone c a d
take_done c putter a d e = by c.held refl e where
  closed : (b : Bool) → c.closed ≡ b → c.held ≡ [] → cond b (completes nil c) not_ready ≡ completes a d → TakeDone c a d
  closed true is none e = nothing_left none is (let k : a ≡ nil = cc in k) (let k : d ≡ c = cc in k)
  closed false is none e = absurd (let k : not_ready ≡ completes a d = e in cc)

  empty : (o : Option Handler) → c.held ≡ [] → take_empty c o ≡ completes a d → TakeDone c a d
  empty None none e = closed c.closed refl none e
  empty (Some h) none e = absurd (let k : meets h h.value ≡ completes a d = e in cc)

  by : (vs : List Tree) → c.held ≡ vs → take_of_held c vs putter ≡ completes a d → TakeDone c a d
  by [] is e = empty putter is e
  by (v ∷ vs) is e = gave vs (is ∙ ap (λ x. x ∷ vs) (let k : v ≡ a = cc in k)) (let k : d ≡ giving c = cc in k)

pub put_done : (c : Channel) (taker putter : Option Handler) (v a : Tree) (d : Channel) → put_row c taker putter v ≡ completes a d → PutDone c taker putter v a d
put_done c taker putter v a d e = by c.closed (is_promise c.policy) refl refl e where
  alone : (r : Bool) (o : Option Handler) → has_room c ≡ r → putter ≡ o → c.closed ≡ false → is_promise c.policy ≡ false → taker ≡ None → put_alone c r o v ≡ completes a d → PutDone c taker putter v a d
  alone false o r is cl pr t e = absurd (let k : not_ready ≡ completes a d = e in cc)
  alone true (Some h) r is cl pr t e = absurd (let k : not_ready ≡ completes a d = e in cc)
  alone true None r is cl pr t e = accepted cl pr r t is (let k : a ≡ bool true = cc in k) (let k : d ≡ keeping c v = cc in k)

  one : (o : Option Handler) → taker ≡ o → c.closed ≡ false → is_promise c.policy ≡ false → put_open c o putter v ≡ completes a d → PutDone c taker putter v a d
  one None t cl pr e = alone (has_room c) putter refl refl cl pr t e
  one (Some h) t cl pr e = absurd (let k : meets h v ≡ completes a d = e in cc)

  by : (b p : Bool) → c.closed ≡ b → is_promise c.policy ≡ p → cond b (completes (bool false) c) (cond p (completes (bool true) (keeping c v)) (put_open c taker putter v)) ≡ completes a d → PutDone c taker putter v a d
  by true p cl pr e = refused cl (let k : a ≡ bool false = cc in k) (let k : d ≡ c = cc in k)
  by false true cl pr e = promised cl pr (let k : a ≡ bool true = cc in k) (let k : d ≡ keeping c v = cc in k)
  by false false cl pr e = one taker refl cl pr e

pub record TakeMeets (c : Channel) (putter : Option Handler) (h : Handler) (v : Tree) : Type 0 where
  pub none_held : c.held ≡ []
  pub in_front : putter ≡ Some h
  pub value : v ≡ h.value

pub take_meets : (c : Channel) (putter : Option Handler) (h : Handler) (v : Tree) → take_row c putter ≡ meets h v → TakeMeets c putter h v
take_meets c putter h v e = by c.held refl e where
  closed : (b : Bool) → cond b (completes nil c) not_ready ≡ meets h v → TakeMeets c putter h v
  closed true e = absurd (let k : completes nil c ≡ meets h v = e in cc)
  closed false e = absurd (let k : not_ready ≡ meets h v = e in cc)

  empty : (o : Option Handler) → putter ≡ o → c.held ≡ [] → take_empty c o ≡ meets h v → TakeMeets c putter h v
  empty None is none e = closed c.closed e
  empty (Some g) is none e = let k : g ≡ h = cc in let l : g.value ≡ v = cc in record { none_held = none; in_front = is ∙ ap (λ x. Some x) k; value = sym l ∙ ap (λ (x : Handler). x.value) k }

  by : (vs : List Tree) → c.held ≡ vs → take_of_held c vs putter ≡ meets h v → TakeMeets c putter h v
  by [] is e = empty putter refl is e
  by (u ∷ vs) is e = absurd (let k : completes u (giving c) ≡ meets h v = e in cc)

pub record PutMeets (c : Channel) (taker : Option Handler) (u : Tree) (h : Handler) (v : Tree) : Type 0 where
  pub is_open : c.closed ≡ false
  pub no_promise : is_promise c.policy ≡ false
  pub in_front : taker ≡ Some h
  pub value : v ≡ u

pub put_meets : (c : Channel) (taker putter : Option Handler) (u : Tree) (h : Handler) (v : Tree) → put_row c taker putter u ≡ meets h v → PutMeets c taker u h v
put_meets c taker putter u h v e = by c.closed (is_promise c.policy) refl refl e where
  alone : (r : Bool) (o : Option Handler) → put_alone c r o u ≡ meets h v → PutMeets c taker u h v
  alone false o e = absurd (let k : not_ready ≡ meets h v = e in cc)
  alone true None e = absurd (let k : completes (bool true) (keeping c u) ≡ meets h v = e in cc)
  alone true (Some g) e = absurd (let k : not_ready ≡ meets h v = e in cc)

  one : (o : Option Handler) → taker ≡ o → c.closed ≡ false → is_promise c.policy ≡ false → put_open c o putter u ≡ meets h v → PutMeets c taker u h v
  one None t cl pr e = alone (has_room c) putter e
  one (Some g) t cl pr e = record { is_open = cl; no_promise = pr; in_front = t ∙ ap (λ x. Some x) (let k : g ≡ h = cc in k); value = (let k : v ≡ u = cc in k) }

  by : (b p : Bool) → c.closed ≡ b → is_promise c.policy ≡ p → cond b (completes (bool false) c) (cond p (completes (bool true) (keeping c u)) (put_open c taker putter u)) ≡ meets h v → PutMeets c taker u h v
  by true p cl pr e = absurd (let k : completes (bool false) c ≡ meets h v = e in cc)
  by false true cl pr e = absurd (let k : completes (bool true) (keeping c u) ≡ meets h v = e in cc)
  by false false cl pr e = one taker refl cl pr e

pub record TakeWaits (c : Channel) (putter : Option Handler) : Type 0 where
  pub none_held : c.held ≡ []
  pub no_putter : putter ≡ None
  pub is_open : c.closed ≡ false

pub take_waits : (c : Channel) (putter : Option Handler) → take_row c putter ≡ not_ready → TakeWaits c putter
take_waits c putter e = by c.held refl e where
  closed : (b : Bool) → c.closed ≡ b → c.held ≡ [] → putter ≡ None → cond b (completes nil c) not_ready ≡ not_ready → TakeWaits c putter
  closed true is none gone e = absurd (let k : completes nil c ≡ not_ready = e in cc)
  closed false is none gone e = record { none_held = none; no_putter = gone; is_open = is }

  empty : (o : Option Handler) → putter ≡ o → c.held ≡ [] → take_empty c o ≡ not_ready → TakeWaits c putter
  empty None is none e = closed c.closed refl none is e
  empty (Some g) is none e = absurd (let k : meets g g.value ≡ not_ready = e in cc)

  by : (vs : List Tree) → c.held ≡ vs → take_of_held c vs putter ≡ not_ready → TakeWaits c putter
  by [] is e = empty putter refl is e
  by (u ∷ vs) is e = absurd (let k : completes u (giving c) ≡ not_ready = e in cc)

pub record PutWaits (c : Channel) (taker putter : Option Handler) : Type 0 where
  pub is_open : c.closed ≡ false
  pub no_taker : taker ≡ None
  pub no_way : has_room c ≡ true → putter ≡ None → ⊥

pub put_waits : (c : Channel) (taker putter : Option Handler) (u : Tree) → put_row c taker putter u ≡ not_ready → PutWaits c taker putter
put_waits c taker putter u e = by c.closed (is_promise c.policy) refl e where
  one : (o : Option Handler) → taker ≡ o → c.closed ≡ false → put_open c o putter u ≡ not_ready → PutWaits c taker putter
  one None t cl e = record {
    is_open = cl;
    no_taker = t;
    no_way = λ r n. let k : completes (bool true) (keeping c u) ≡ not_ready = ap₂ (λ (b : Bool) (o : Option Handler). put_alone c b o u) (sym r) (sym n) ∙ e in absurd cc;
  }
  one (Some g) t cl e = absurd (let k : meets g u ≡ not_ready = e in cc)

  by : (b p : Bool) → c.closed ≡ b → cond b (completes (bool false) c) (cond p (completes (bool true) (keeping c u)) (put_open c taker putter u)) ≡ not_ready → PutWaits c taker putter
  by true p cl e = absurd (let k : completes (bool false) c ≡ not_ready = e in cc)
  by false true cl e = absurd (let k : completes (bool true) (keeping c u) ≡ not_ready = e in cc)
  by false false cl e = one taker refl cl e

left_true : (p q : Bool) → p && q ≡ true → p ≡ true
left_true true q e = refl
left_true false q e = absurd (let k : false ≡ true = e in cc)

right_true : (p q : Bool) → p && q ≡ true → q ≡ true
right_true true q e = e
right_true false q e = absurd (let k : false ≡ true = e in cc)

pub settle_does : (c : Channel) (taker putter : Option Handler) (side : Side) (h : Handler) (v : Tree) (d : Channel) → settle_row c taker putter ≡ settles side h v d → Settled c taker putter side h v d
settle_does c taker putter side h v d e = by (is_fixed c.policy && has_room c) putter refl refl e where
  closed : (b : Bool) (g : Handler) → taker ≡ Some g → c.held ≡ [] → c.closed ≡ b → cond b (settles Take g nil c) unsettled ≡ settles side h v d → Settled c taker putter side h v d
  closed true g t none is e = served_nil (let k : side ≡ Take = cc in k) (t ∙ ap (λ x. Some x) (let k : g ≡ h = cc in k)) none is (let k : v ≡ nil = cc in k) (let k : d ≡ c = cc in k)
  closed false g t none is e = absurd (let k : unsettled ≡ settles side h v d = e in cc)

  take_it : (vs : List Tree) (o : Option Handler) → c.held ≡ vs → taker ≡ o → settle_take c vs o ≡ settles side h v d → Settled c taker putter side h v d
  take_it vs None is t e = absurd (let k : unsettled ≡ settles side h v d = e in cc)
  take_it (u ∷ vs) (Some g) is t e = served (let k : side ≡ Take = cc in k) (t ∙ ap (λ x. Some x) (let k : g ≡ h = cc in k)) vs (is ∙ ap (λ x. x ∷ vs) (let k : u ≡ v = cc in k)) (let k : d ≡ giving c = cc in k)
  take_it [] (Some g) is t e = closed c.closed g t is refl e

  by : (r : Bool) (o : Option Handler) → (is_fixed c.policy && has_room c) ≡ r → putter ≡ o → settle_put c r taker o ≡ settles side h v d → Settled c taker putter side h v d
  by true (Some g) r is e =
      let gh : g ≡ h = cc in let gv : g.value ≡ v = cc in
      moved_in (let k : side ≡ Put = cc in k) (is ∙ ap (λ x. Some x) gh) (sym gv ∙ ap (λ (x : Handler). x.value) gh) ((let k : d ≡ keeping c g.value = cc in k) ∙ ap (keeping c) gv) (left_true (is_fixed c.policy) (has_room c) r) (right_true (is_fixed c.policy) (has_room c) r)
  by true None r is e = take_it c.held taker refl refl e
  by false o r is e = take_it c.held taker refl refl e

-- a branch that is something stands on a channel
pub row_channel : (oc : Option Channel) (taker putter : Option Handler) (b : BranchView) (r : Row) → row_at oc taker putter b ≡ r → (r ≡ not_ready → ⊥) → (c : Channel) × (oc ≡ Some c) × (row_on c taker putter b ≡ r)
row_channel None taker putter b r e ne = absurd (ne (sym e))
row_channel (Some c) taker putter b r e ne = (c, refl, e)

pub promise_has_room : (policy : Policy) (f : Bool) → is_promise policy ≡ true → room_by policy f ≡ true
promise_has_room promise_buffer f e = refl
promise_has_room no_buffer f e = absurd (let k : false ≡ true = e in cc)
promise_has_room fixed_buffer f e = absurd (let k : false ≡ true = e in cc)
promise_has_room dropping_buffer f e = absurd (let k : false ≡ true = e in cc)
promise_has_room sliding_buffer f e = absurd (let k : false ≡ true = e in cc)
