-- The ways in which a channel settles, and what each kind of change does to them.
use Rattle.std.proofs.Common.{◌≡◌, ◌≢◌, ◌⊎◌, inl, inr, ⊎_elim, ℕ, List, [], ◌∷◌, ◌++◌, refl, sym, ap, ap₂, ◌∙◌, subst, Bool, true, false, ◌&&◌, cond, Option, Some, None, option_map, eqb, eqb-true, slice_get}
use Rattle.std.specs.Map.{update}
use Rattle.ca_value.specs.Tree.{Tree, nil}
use Rattle.ca_term.specs.declared.event.Side.{Side}
use Rattle.ca_term.specs.declared.event.Side.TheVariants.{Take, Put}
use Rattle.ca_term.specs.Event.{BranchView, take_of, put_of}
use Rattle.ca_meaning.specs.Channel.{Channel, shut, has_room, giving, is_fixed}
use Rattle.ca_meaning.specs.Wait.{Wait, Handler, port_of, handlers, queue, head, front, without}
use Rattle.ca_meaning.specs.Row.{not_ready, completes, row_at, row_on, unsettled, settles, settle_take, settle_put, settle_row}
use Rattle.ca_meaning.specs.State.{State, Channels, shut_at, shut_all}
use Rattle.ca_meaning.specs.Choice.{row, any_ready}
use Rattle.ca_meaning.specs.Solo.{CanSettle}
use Rattle.ca_solo.specs.Stirs.{AmongPorts, done_stirs}
use Rattle.ca_meaning.proofs.Waits.{queue_without, queue_joined, other, no_head, head_filter, head_append, from_branch, on_port, takes_there, puts_there}
use Rattle.ca_meaning.proofs.Rows.{TakeDone, gave, nothing_left, take_done, PutDone, refused, promised, accepted, put_done, take_waits, put_waits}
use Rattle.ca_meaning.proofs.Channels.{none_is_ready}

-- a channel settles where a waiting put may move in, or where it has something for a waiting take
abbrev admits : Channel → Bool
admits c = is_fixed c.policy && has_room c

abbrev offers : List Tree → Bool → Bool
offers [] cl = cl
offers (v ∷ vs) cl = true

abbrev IsThere : Option Handler → Type 0
IsThere o = (h : Handler) × (o ≡ Some h)

pub data Way (c : Channel) (taker putter : Option Handler) : Type 0 where
  moves_in : admits c ≡ true → IsThere putter → Way c taker putter
  serves : offers c.held c.closed ≡ true → IsThere taker → Way c taker putter

way_of : (c : Channel) (taker putter : Option Handler) → settle_row c taker putter ≢ unsettled → Way c taker putter
way_of c taker putter ne = by (admits c) putter refl refl ne where
  closed_one : (b : Bool) (g : Handler) → cond b (settles Take g nil c) unsettled ≢ unsettled → b ≡ true
  closed_one true g n = refl
  closed_one false g n = absurd (n refl)

  take_it : (vs : List Tree) (o : Option Handler) → taker ≡ o → settle_take c vs o ≢ unsettled → (offers vs c.closed ≡ true) × IsThere taker
  take_it vs None t n = absurd (n refl)
  take_it (u ∷ vs) (Some g) t n = (refl, (g, t))
  take_it [] (Some g) t n = (closed_one c.closed g n, (g, t))

  by : (r : Bool) (o : Option Handler) → admits c ≡ r → putter ≡ o → settle_put c r taker o ≢ unsettled → Way c taker putter
  by true (Some g) r is n = moves_in r (g, is)
  by true None r is n = let k = take_it c.held taker refl n in serves k.0 k.1
  by false o r is n = let k = take_it c.held taker refl n in serves k.0 k.1

settles_by : (c : Channel) (taker putter : Option Handler) → Way c taker putter → settle_row c taker putter ≢ unsettled
settles_by c taker putter (moves_in a (h, p)) n =
    let k : settle_put c true taker (Some h) ≡ unsettled = ap₂ (λ (b : Bool) (o : Option Handler). settle_put c b taker o) (sym a) (sym p) ∙ n in absurd cc
settles_by c taker putter (serves o (h, t)) n = by (admits c) putter (ap (λ (z : Option Handler). settle_put c (admits c) z putter) (sym t) ∙ n) where
  take_it : (vs : List Tree) → offers vs c.closed ≡ true → settle_take c vs (Some h) ≡ unsettled → ⊥
  take_it (v ∷ vs) e n = cc
  take_it [] e n = let k : cond true (settles Take h nil c) unsettled ≡ unsettled = ap (λ b. cond b (settles Take h nil c) unsettled) (sym e) ∙ n in cc

  by : (r : Bool) (q : Option Handler) → settle_put c r (Some h) q ≡ unsettled → ⊥
  by true (Some g) n = cc
  by true None n = take_it c.held o n
  by false q n = take_it c.held o n

-- the same of channels and waits, apart from a state
abbrev pub CanIn : Channels → List Wait → ℕ → Type 0
CanIn f ws q = (c : Channel) × (f q ≡ Some c) × Way c (front Take q ws) (front Put q ws)

pub can_way : (s : State) (q : ℕ) → CanSettle s q → CanIn s.channels s.waits q
can_way s q k = (k.0, k.1, way_of k.0 (front Take q s.waits) (front Put q s.waits) k.2)

pub way_can : (s : State) (q : ℕ) → CanIn s.channels s.waits q → CanSettle s q
way_can s q k = (k.0, k.1, settles_by k.0 (front Take q s.waits) (front Put q s.waits) k.2)

-- a wait that goes makes no channel settle
fewer_there : (side : Side) (w q : ℕ) (ws : List Wait) → IsThere (front side q (without w ws)) → IsThere (front side q ws)
fewer_there side w q ws (h, e) = head_filter (other w) (queue side q ws) h (ap head (sym (queue_without side q w ws)) ∙ e)

pub fewer_can : (f : Channels) (w q : ℕ) (ws : List Wait) → CanIn f (without w ws) q → CanIn f ws q
fewer_can f w q ws (c, at, way) = (c, at, by way) where
  by : Way c (front Take q (without w ws)) (front Put q (without w ws)) → Way c (front Take q ws) (front Put q ws)
  by (moves_in a t) = moves_in a (fewer_there Put w q ws t)
  by (serves o t) = serves o (fewer_there Take w q ws t)

-- one channel changes
pub one_can : (f : Channels) (p q : ℕ) (o : Option Channel) (ws : List Wait) → CanIn (update eqb f p o) ws q → (q ≡ p) ⊎ CanIn f ws q
one_can f p q o ws (c, at, way) = by (eqb p q) refl at where
  by : (b : Bool) → eqb p q ≡ b → cond b o (f q) ≡ Some c → (q ≡ p) ⊎ CanIn f ws q
  by true is e = inl (sym (eqb-true p q is))
  by false is e = inr (c, e, way)

nothing_there : {G : Type 0} (side : Side) (q : ℕ) (ws : List Wait) → queue side q ws ≡ [] → IsThere (front side q ws) → G
nothing_there side q ws none (h, e) = no_head h (sym (ap head none) ∙ e)

-- nobody waits on a new channel
pub made_can : (f : Channels) (p q : ℕ) (o : Option Channel) (ws : List Wait) → ((side : Side) → queue side p ws ≡ []) → CanIn (update eqb f p o) ws q → CanIn f ws q
made_can f p q o ws none k = ⊎_elim (λ is. by is k.2) (λ z. z) (one_can f p q o ws k) where
  by : q ≡ p → Way k.0 (front Take q ws) (front Put q ws) → CanIn f ws q
  by is (moves_in a t) = nothing_there Put q ws (ap (λ n. queue Put n ws) is ∙ none Put) t
  by is (serves a t) = nothing_there Take q ws (ap (λ n. queue Take n ws) is ∙ none Take) t

pub shut_can : (ports : List ℕ) (f : Channels) (ws : List Wait) (q : ℕ) → CanIn (shut_all ports f) ws q → AmongPorts q ports ⊎ CanIn f ws q
shut_can [] f ws q k = inr k
shut_can (p ∷ ps) f ws q k = ⊎_elim (λ i. inl (inr i)) (λ z. ⊎_elim (λ is. inl (inl is)) (λ y. inr y) (one_can f p q (option_map shut (f p)) ws z)) (shut_can ps (shut_at p f) ws q k)

-- a wait whose branches aren't ready makes no channel settle
row_there : (s : State) (q : ℕ) (c : Channel) (b : BranchView) → s.channels q ≡ Some c → q ≡ port_of b → row s b ≡ not_ready → row_on c (front Take q s.waits) (front Put q s.waits) b ≡ not_ready
row_there s q c b at is nr =
    sym (ap (λ (o : Option Channel). row_at o (front Take q s.waits) (front Put q s.waits) b) at)
    ∙ ap (λ n. row_at (s.channels n) (front Take n s.waits) (front Put n s.waits) b) is ∙ nr

right_of : (p q : Bool) → p && q ≡ true → q ≡ true
right_of true q e = e
right_of false q e = absurd (let k : false ≡ true = e in cc)

pub joined_can : (s : State) (x : Wait) (q : ℕ) → any_ready s x.branches ≡ false → CanIn s.channels (s.waits ++ x ∷ []) q → CanIn s.channels s.waits q
joined_can s x q nr (c, at, way) = (c, at, by way) where
  unready : (j : ℕ) (b : BranchView) → slice_get x.branches j ≡ Some b → row s b ≡ not_ready
  unready = none_is_ready s x.branches nr

  by : Way c (front Take q (s.waits ++ x ∷ [])) (front Put q (s.waits ++ x ∷ [])) → Way c (front Take q s.waits) (front Put q s.waits)
  by (moves_in a (h, e)) = ⊎_elim (λ old. moves_in a old)
      (λ new.
      let r = from_branch Put q x.number 0 x.branches h new.1 in
      let v = puts_there q r.1 r.3 in
      let w = put_waits c (front Take q s.waits) (front Put q s.waits) v.0 (ap (row_on c (front Take q s.waits) (front Put q s.waits)) (sym v.1) ∙ row_there s q c r.1 at (on_port Put q r.1 r.3) (unready r.0 r.1 r.2)) in
      absurd (w.no_way (right_of (is_fixed c.policy) (has_room c) a) (ap head new.0)))
      (head_append (queue Put q s.waits) (handlers Put q x.number 0 x.branches) h (sym (ap head (queue_joined Put q s.waits x)) ∙ e))
  by (serves o (h, e)) = ⊎_elim (λ old. serves o old)
      (λ new.
      let r = from_branch Take q x.number 0 x.branches h new.1 in
      let w = take_waits c (front Put q s.waits) (ap (row_on c (front Take q s.waits) (front Put q s.waits)) (sym (takes_there q r.1 r.3)) ∙ row_there s q c r.1 at (on_port Take q r.1 r.3) (unready r.0 r.1 r.2)) in
      absurd (let k : false ≡ true = sym (ap₂ offers w.none_held w.is_open) ∙ o in cc))
      (head_append (queue Take q s.waits) (handlers Take q x.number 0 x.branches) h (sym (ap head (queue_joined Take q s.waits x)) ∙ e))

pub changed_can : (f : Channels) (p q : ℕ) (c d : Channel) (ws : List Wait) → f p ≡ Some c → (Way d (front Take p ws) (front Put p ws) → Way c (front Take p ws) (front Put p ws)) → CanIn (update eqb f p (Some d)) ws q → CanIn f ws q
changed_can f p q c d ws at back (e, is, way) = by (eqb p q) refl is where
  by : (b : Bool) → eqb p q ≡ b → cond b (Some d) (f q) ≡ Some e → CanIn f ws q
  by true same is =
      let pq = eqb-true p q same in
      let de : d ≡ e = cc in
      subst (CanIn f ws) pq (c, at, back (subst (λ n. Way d (front Take n ws) (front Put n ws)) (sym pq) (subst (λ z. Way z (front Take q ws) (front Put q ws)) (sym de) way)))
  by false same is = (e, is, way)

no_way : {G : Type 0} (d : Channel) (taker putter : Option Handler) → taker ≡ None → putter ≡ None → Way d taker putter → G
no_way d taker putter t p (moves_in a (h, e)) = no_head h (sym p ∙ e)
no_way d taker putter t p (serves o (h, e)) = no_head h (sym t ∙ e)

pub way_back : (c d : Channel) (b : BranchView) (taker putter : Option Handler) (a : Tree) → row_on c taker putter b ≡ completes a d → done_stirs c b ≡ false → Way d taker putter → Way c taker putter
way_back c d (take_of p) taker putter a e quiet way = by (take_done c putter a d e) where
  gave_way : (vs : List Tree) → c.held ≡ a ∷ vs → Way (giving c) taker putter → Way c taker putter
  gave_way vs is (moves_in m t) = absurd (let k : false ≡ true = sym (ap (λ z. z && has_room (giving c)) quiet) ∙ m in cc)
  gave_way vs is (serves o t) = serves (ap (λ z. offers z c.closed) is) t

  by : TakeDone c a d → Way c taker putter
  by (gave vs is k) = gave_way vs is (subst (λ z. Way z taker putter) k way)
  by (nothing_left is cl n k) = subst (λ z. Way z taker putter) k way
way_back c d (put_of p v) taker putter a e quiet way = by (put_done c taker putter v a d e) where
  by : PutDone c taker putter v a d → Way c taker putter
  by (refused cl n k) = subst (λ z. Way z taker putter) k way
  by (promised cl pr n k) = absurd (let j : false ≡ true = sym quiet ∙ pr in cc)
  by (accepted cl pr r t o n k) = no_way d taker putter t o way
