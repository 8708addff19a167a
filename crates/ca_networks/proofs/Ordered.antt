-- What enters an ordered channel leaves it in the same order.
use Rattle.std.proofs.Common.{◌≡◌, ℕ, List, [], ◌∷◌, ◌++◌, refl, sym, ap, ◌∙◌, subst, Bool, true, false, cond, Option, Some, None, eqb, eqb-true, append-nil}
use Rattle.ca_value.specs.Tree.{Tree}
use Rattle.ca_value.specs.Buffer.{Policy, no_buffer, fixed_buffer, dropping_buffer, sliding_buffer, promise_buffer, without_first, keep, give_first as give_by}
use Rattle.ca_term.specs.declared.event.Side.{Side}
use Rattle.ca_term.specs.declared.event.Side.TheVariants.{Take, Put}
use Rattle.ca_term.specs.Program.{ProgramView}
use Rattle.ca_term.specs.Event.{BranchView, take_of, put_of, EventView, made, spawned, done, met, parked, posted, settled, defaulted, closed, registered, printed, ticked, over as is_over}
use Rattle.ca_meaning.specs.Operands.{is_nil, truth}
use Rattle.ca_meaning.specs.Channel.{Channel, channel_made, is_promise}
use Rattle.ca_meaning.specs.Wait.{port_of, front}
use Rattle.ca_meaning.specs.Row.{completes as row_completes, meets, row_on}
use Rattle.ca_meaning.specs.Choice.{row}
use Rattle.ca_meaning.specs.State.{State}
use Rattle.ca_meaning.specs.Steps.{Step}
use Rattle.ca_meaning.specs.Sound.{Each, IsNotNil, Sound}
use Rattle.ca_meaning.specs.History.{Mark, accept, give, give_none, pass, no_mark, mark_of_take, mark_of_put, mark_of_done, mark_of_settled, mark_on, marked, closes, shut_if, channel_after}
use Rattle.ca_meaning.proofs.Histories.{step_tells}
use Rattle.ca_meaning.proofs.Rows.{TakeDone, gave, nothing_left, take_done, take_meets, put_meets, Settled, moved_in, served, served_nil, settle_does, row_channel}
use Rattle.ca_networks.proofs.Passing.{entering, leaving, enters, leaves}
use Rattle.ca_roles.proofs.Channelled.{marked_policy, shut_policy}

abbrev pub is_ordered : Policy → Bool
is_ordered no_buffer = true
is_ordered fixed_buffer = true
is_ordered dropping_buffer = false
is_ordered sliding_buffer = false
is_ordered promise_buffer = false

kept_last : (p : Policy) (n : ℕ) (vs : List Tree) (v : Tree) → is_ordered p ≡ true → keep p n vs v ≡ vs ++ v ∷ []
kept_last no_buffer n vs v o = refl
kept_last fixed_buffer n vs v o = refl
kept_last dropping_buffer n vs v o = absurd (let k : false ≡ true = o in cc)
kept_last sliding_buffer n vs v o = absurd (let k : false ≡ true = o in cc)
kept_last promise_buffer n vs v o = absurd (let k : false ≡ true = o in cc)

given_first : (p : Policy) (vs : List Tree) → is_ordered p ≡ true → give_by p vs ≡ without_first vs
given_first no_buffer vs o = refl
given_first fixed_buffer vs o = refl
given_first dropping_buffer vs o = absurd (let k : false ≡ true = o in cc)
given_first sliding_buffer vs o = absurd (let k : false ≡ true = o in cc)
given_first promise_buffer vs o = absurd (let k : false ≡ true = o in cc)

no_promise : (p : Policy) → is_ordered p ≡ true → is_promise p ≡ false
no_promise no_buffer o = refl
no_promise fixed_buffer o = refl
no_promise dropping_buffer o = refl
no_promise sliding_buffer o = refl
no_promise promise_buffer o = absurd (let k : false ≡ true = o in cc)

after_mark : (q : ℕ) (e : EventView) (c : Channel) → ((t p : ℕ) (what : _) (m : Option ℕ) → e ≡ made t p what m → eqb p q ≡ false) → channel_after q e (Some c) ≡ Some (shut_if (closes q e) (marked (mark_on q e) c))
after_mark q (made t p what m) c ne = ap (λ b. cond b (channel_made what) (Some c)) (ne t p what m refl)
after_mark q (spawned t u kind result) c ne = refl
after_mark q (done t k b a) c ne = refl
after_mark q (met t k side p v w o) c ne = refl
after_mark q (parked t w bs) c ne = refl
after_mark q (posted t w p v) c ne = refl
after_mark q (settled w k side p v) c ne = refl
after_mark q (defaulted t v) c ne = refl
after_mark q (closed t p) c ne = refl
after_mark q (registered t name args v) c ne = refl
after_mark q (printed t line) c ne = refl
after_mark q (ticked m ports) c ne = refl
after_mark q (is_over t how) c ne = refl

shut_held : (b : Bool) (c : Channel) → (shut_if b c).held ≡ c.held
shut_held true c = refl
shut_held false c = refl

-- a mark that is one
marked_at : (b : Bool) (m n : Mark) → cond b m no_mark ≡ n → (n ≡ no_mark → ⊥) → (b ≡ true) × (m ≡ n)
marked_at true m n e ne = (refl, e)
marked_at false m n e ne = absurd (ne (sym e))

put_gives : {G : Type 0} (u a v : Tree) → mark_of_put u a ≡ give v → G
put_gives u a v e = by (truth a) e where
  by : {G : Type 0} (b : Bool) → cond b (accept u) no_mark ≡ give v → G
  by true e = absurd (let k : accept u ≡ give v = e in cc)
  by false e = absurd (let k : no_mark ≡ give v = e in cc)

put_ends : {G : Type 0} (u a : Tree) → mark_of_put u a ≡ give_none → G
put_ends u a e = by (truth a) e where
  by : {G : Type 0} (b : Bool) → cond b (accept u) no_mark ≡ give_none → G
  by true e = absurd (let k : accept u ≡ give_none = e in cc)
  by false e = absurd (let k : no_mark ≡ give_none = e in cc)

gives_this : (a v : Tree) → mark_of_take a ≡ give v → (a ≡ v) × (is_nil a ≡ false)
gives_this a v e = by (is_nil a) refl e where
  by : (b : Bool) → is_nil a ≡ b → cond b give_none (give a) ≡ give v → (a ≡ v) × (is_nil a ≡ false)
  by true n e = absurd (let k : give_none ≡ give v = e in cc)
  by false n e = (let k : a ≡ v = cc in k, n)

gives_nil : (a : Tree) → mark_of_take a ≡ give_none → is_nil a ≡ true
gives_nil a e = by (is_nil a) refl e where
  by : (b : Bool) → is_nil a ≡ b → cond b give_none (give a) ≡ give_none → is_nil a ≡ true
  by true n e = n
  by false n e = absurd (let k : give a ≡ give_none = e in cc)

no_pass : {G : Type 0} (b : BranchView) (a v : Tree) → mark_of_done b a ≡ pass v → G
no_pass (take_of p) a v e = by (is_nil a) e where
  by : {G : Type 0} (b : Bool) → cond b give_none (give a) ≡ pass v → G
  by true e = absurd (let k : give_none ≡ pass v = e in cc)
  by false e = absurd (let k : give a ≡ pass v = e in cc)
no_pass (put_of p u) a v e = by (truth a) e where
  by : {G : Type 0} (b : Bool) → cond b (accept u) no_mark ≡ pass v → G
  by true e = absurd (let k : accept u ≡ pass v = e in cc)
  by false e = absurd (let k : no_mark ≡ pass v = e in cc)

no_settled_pass : {G : Type 0} (side : Side) (a v : Tree) → mark_of_settled side a ≡ pass v → G
no_settled_pass Take a v e = no_pass (take_of 0) a v e
no_settled_pass Put a v e = absurd (let k : accept a ≡ pass v = e in cc)

module _ (program : ProgramView) (s s2 : State) (sound : Sound s) (q : ℕ) (c : Channel) (there : s.channels q ≡ Some c) where
  is_it : (p : ℕ) (d : Channel) → p ≡ q → s.channels p ≡ Some d → d ≡ c
  is_it p d pq at = let k : Some d ≡ Some c = sym at ∙ ap s.channels pq ∙ there in cc

  -- what is given is the first that is held
  pub gives_first : (e : EventView) → Step program s e s2 → (v : Tree) → mark_on q e ≡ give v → (vs : List Tree) × (c.held ≡ v ∷ vs)
  gives_first (done u k b a) x v is = by b x.6 (marked_at (eqb (port_of b) q) (mark_of_done b a) (give v) is (λ i. cc)) where
    by : (o : BranchView) → row s o ≡ row_completes a x.3 → (eqb (port_of o) q ≡ true) × (mark_of_done o a ≡ give v) → (vs : List Tree) × (c.held ≡ v ∷ vs)
    by (put_of p w) r n = put_gives w a v n.1
    by (take_of p) r n = at (take_done d.0 (front Put p s.waits) a x.3 d.2) where
      d : (c : Channel) × (s.channels p ≡ Some c) × (row_on c (front Take p s.waits) (front Put p s.waits) (take_of p) ≡ row_completes a x.3)
      d = row_channel (s.channels p) (front Take p s.waits) (front Put p s.waits) (take_of p) (row_completes a x.3) r (λ i. cc)

      at : TakeDone d.0 a x.3 → (vs : List Tree) × (c.held ≡ v ∷ vs)
      at (gave vs h k2) = (vs, ap (λ (i : Channel). i.held) (sym (is_it p d.0 (eqb-true p q n.0) d.1)) ∙ h ∙ ap (λ i. i ∷ vs) (gives_this a v n.1).0)
      at (nothing_left h cl an k2) = absurd (let f : true ≡ false = ap is_nil (sym an) ∙ (gives_this a v n.1).1 in cc)
  gives_first (met u k side p w n o) x v is = absurd (let i : pass w ≡ give v = (marked_at (eqb p q) (pass w) (give v) is (λ i. cc)).1 in cc)
  gives_first (settled n k side p w) x v is = by side (settle_does x.0 (front Take p s.waits) (front Put p s.waits) side x.2 w x.1 x.5) (marked_at (eqb p q) (mark_of_settled side w) (give v) is (λ i. cc)) where
    by : (z : Side) → Settled x.0 (front Take p s.waits) (front Put p s.waits) z x.2 w x.1 → (eqb p q ≡ true) × (mark_of_settled z w ≡ give v) → (vs : List Tree) × (c.held ≡ v ∷ vs)
    by Put d i = absurd (let f : accept w ≡ give v = i.1 in cc)
    by Take (moved_in sd fr vn dk fx rm) i = absurd (let j : Take ≡ Put = sd in cc)
    by Take (served sd fr us h dk) i = (us, ap (λ (i : Channel). i.held) (sym (is_it p x.0 (eqb-true p q i.0) x.4)) ∙ h ∙ ap (λ i. i ∷ us) (gives_this w v i.1).0)
    by Take (served_nil sd fr h cl vn dk) i = absurd (let f : true ≡ false = ap is_nil (sym vn) ∙ (gives_this w v i.1).1 in cc)
  gives_first (made t p what n) x v is = absurd (let k : no_mark ≡ give v = is in cc)
  gives_first (spawned t u kind result) x v is = absurd (let k : no_mark ≡ give v = is in cc)
  gives_first (parked t w bs) x v is = absurd (let k : no_mark ≡ give v = is in cc)
  gives_first (posted t w p u) x v is = absurd (let k : no_mark ≡ give v = is in cc)
  gives_first (defaulted t u) x v is = absurd (let k : no_mark ≡ give v = is in cc)
  gives_first (closed t p) x v is = absurd (let k : no_mark ≡ give v = is in cc)
  gives_first (registered t name args u) x v is = absurd (let k : no_mark ≡ give v = is in cc)
  gives_first (printed t line) x v is = absurd (let k : no_mark ≡ give v = is in cc)
  gives_first (ticked n ports) x v is = absurd (let k : no_mark ≡ give v = is in cc)
  gives_first (is_over t how) x v is = absurd (let k : no_mark ≡ give v = is in cc)

  -- a value passes only where nothing is held
  passes_alone : is_promise c.policy ≡ false → (e : EventView) → Step program s e s2 → (v : Tree) → mark_on q e ≡ pass v → c.held ≡ []
  passes_alone np (done u k b a) x v is = no_pass b a v (marked_at (eqb (port_of b) q) (mark_of_done b a) (pass v) is (λ i. cc)).1
  passes_alone np (settled n k side p w) x v is = no_settled_pass side w v (marked_at (eqb p q) (mark_of_settled side w) (pass v) is (λ i. cc)).1
  passes_alone np (met u k side p w n o) x v is = by x.2 x.9 r.0 r.1 r.2 where
    pq : p ≡ q
    pq = eqb-true p q (marked_at (eqb p q) (pass w) (pass v) is (λ i. cc)).0

    r : (d : Channel) × (s.channels (port_of x.2) ≡ Some d) × (row_on d (front Take (port_of x.2) s.waits) (front Put (port_of x.2) s.waits) x.2 ≡ meets x.3 w)
    r = row_channel (s.channels (port_of x.2)) (front Take (port_of x.2) s.waits) (front Put (port_of x.2) s.waits) x.2 (meets x.3 w) x.10 (λ k. cc)

    by : (b : BranchView) → port_of b ≡ p → (d : Channel) → s.channels (port_of b) ≡ Some d → row_on d (front Take (port_of b) s.waits) (front Put (port_of b) s.waits) b ≡ meets x.3 w → c.held ≡ []
    by (take_of i) ip d at row = ap (λ (z : Channel). z.held) (sym (is_it i d (ip ∙ pq) at)) ∙ (take_meets d (front Put i s.waits) x.3 w row).none_held
    by (put_of i a) ip d at row = (sound.idle q c there np x.3 (ap (λ z. front Take z s.waits) (sym (ip ∙ pq)) ∙ (put_meets d (front Take i s.waits) (front Put i s.waits) a x.3 w row).in_front)).0
  passes_alone np (made t p what n) x v is = absurd (let k : no_mark ≡ pass v = is in cc)
  passes_alone np (spawned t u kind result) x v is = absurd (let k : no_mark ≡ pass v = is in cc)
  passes_alone np (parked t w bs) x v is = absurd (let k : no_mark ≡ pass v = is in cc)
  passes_alone np (posted t w p u) x v is = absurd (let k : no_mark ≡ pass v = is in cc)
  passes_alone np (defaulted t u) x v is = absurd (let k : no_mark ≡ pass v = is in cc)
  passes_alone np (closed t p) x v is = absurd (let k : no_mark ≡ pass v = is in cc)
  passes_alone np (registered t name args u) x v is = absurd (let k : no_mark ≡ pass v = is in cc)
  passes_alone np (printed t line) x v is = absurd (let k : no_mark ≡ pass v = is in cc)
  passes_alone np (ticked n ports) x v is = absurd (let k : no_mark ≡ pass v = is in cc)
  passes_alone np (is_over t how) x v is = absurd (let k : no_mark ≡ pass v = is in cc)

  -- a take gets nil only where the channel is closed
  pub ends_closed : (e : EventView) → Step program s e s2 → mark_on q e ≡ give_none → c.closed ≡ true
  ends_closed (done u k b a) x is = by b x.6 (marked_at (eqb (port_of b) q) (mark_of_done b a) give_none is (λ i. cc)) where
    by : (o : BranchView) → row s o ≡ row_completes a x.3 → (eqb (port_of o) q ≡ true) × (mark_of_done o a ≡ give_none) → c.closed ≡ true
    by (put_of p w) r n = put_ends w a n.1
    by (take_of p) r n = at (take_done d0.0 (front Put p s.waits) a x.3 d0.2) where
      d0 : (c : Channel) × (s.channels p ≡ Some c) × (row_on c (front Take p s.waits) (front Put p s.waits) (take_of p) ≡ row_completes a x.3)
      d0 = row_channel (s.channels p) (front Take p s.waits) (front Put p s.waits) (take_of p) (row_completes a x.3) r (λ i. cc)

      at : TakeDone d0.0 a x.3 → c.closed ≡ true
      at (nothing_left h cl an k2) = ap (λ (i : Channel). i.closed) (sym (is_it p d0.0 (eqb-true p q n.0) d0.1)) ∙ cl
      at (gave vs h k2) = absurd (let f : false ≡ true = sym (first_held p d0.0 d0.1 a vs h) ∙ gives_nil a n.1 in cc) where
        first_held : (p : ℕ) (d : Channel) → s.channels p ≡ Some d → (a : Tree) (vs : List Tree) → d.held ≡ a ∷ vs → is_nil a ≡ false
        first_held p d at a vs h = (subst (Each IsNotNil) h (sound.held p d at)).0
  ends_closed (met u k side p w n o) x is = absurd (let i : pass w ≡ give_none = (marked_at (eqb p q) (pass w) give_none is (λ i. cc)).1 in cc)
  ends_closed (settled n k side p w) x is = by side (settle_does x.0 (front Take p s.waits) (front Put p s.waits) side x.2 w x.1 x.5) (marked_at (eqb p q) (mark_of_settled side w) give_none is (λ i. cc)) where
    by : (z : Side) → Settled x.0 (front Take p s.waits) (front Put p s.waits) z x.2 w x.1 → (eqb p q ≡ true) × (mark_of_settled z w ≡ give_none) → c.closed ≡ true
    by Put d i = absurd (let f : accept w ≡ give_none = i.1 in cc)
    by Take (moved_in sd fr vn dk fx rm) i = absurd (let j : Take ≡ Put = sd in cc)
    by Take (served sd fr us h dk) i = absurd (let f : false ≡ true = sym (subst (Each IsNotNil) h (sound.held p x.0 x.4)).0 ∙ gives_nil w i.1 in cc)
    by Take (served_nil sd fr h cl vn dk) i = ap (λ (z : Channel). z.closed) (sym (is_it p x.0 (eqb-true p q i.0) x.4)) ∙ cl
  ends_closed (made t p what n) x is = absurd (let k : no_mark ≡ give_none = is in cc)
  ends_closed (spawned t u kind result) x is = absurd (let k : no_mark ≡ give_none = is in cc)
  ends_closed (parked t w bs) x is = absurd (let k : no_mark ≡ give_none = is in cc)
  ends_closed (posted t w p u) x is = absurd (let k : no_mark ≡ give_none = is in cc)
  ends_closed (defaulted t u) x is = absurd (let k : no_mark ≡ give_none = is in cc)
  ends_closed (closed t p) x is = absurd (let k : no_mark ≡ give_none = is in cc)
  ends_closed (registered t name args u) x is = absurd (let k : no_mark ≡ give_none = is in cc)
  ends_closed (printed t line) x is = absurd (let k : no_mark ≡ give_none = is in cc)
  ends_closed (ticked n ports) x is = absurd (let k : no_mark ≡ give_none = is in cc)
  ends_closed (is_over t how) x is = absurd (let k : no_mark ≡ give_none = is in cc)

  module _ (ordered : is_ordered c.policy ≡ true) (e : EventView) (x : Step program s e s2) where
    in_order : (m : Mark) → mark_on q e ≡ m → c.held ++ entering m ≡ leaving m ++ (marked m c).held
    in_order (accept v) is = sym (kept_last c.policy c.capacity c.held v ordered)
    in_order (give v) is =
        let g = gives_first e x v is in
        append-nil c.held ∙ g.1 ∙ ap (λ i. v ∷ i) (sym (given_first c.policy c.held ordered ∙ ap without_first g.1))
    in_order give_none is = append-nil c.held
    in_order (pass v) is =
        let h = passes_alone (no_promise c.policy ordered) e x v is in
        ap (λ i. i ++ v ∷ []) h ∙ ap (λ i. v ∷ i) (sym h)
    in_order no_mark is = append-nil c.held

    not_made : (t p : ℕ) (what : _) (m : Option ℕ) → e ≡ made t p what m → eqb p q ≡ false
    not_made t p what m is = by (eqb p q) refl where
      by : (b : Bool) → eqb p q ≡ b → eqb p q ≡ false
      by false k = k
      by true k = let y : Step program s (made t p what m) s2 = subst (λ i. Step program s i s2) is x in absurd (let j : None ≡ Some c = sym y.3 ∙ ap s.channels (eqb-true p q k) ∙ there in cc)

    pub fifo : (d : Channel) × (s2.channels q ≡ Some d) × (d.policy ≡ c.policy) × (c.held ++ enters q e ≡ leaves q e ++ d.held)
    fifo =
        let d = shut_if (closes q e) (marked (mark_on q e) c) in (
          d,
          step_tells program s s2 e q x sound ∙ ap (channel_after q e) there ∙ after_mark q e c not_made,
          shut_policy (closes q e) (marked (mark_on q e) c) ∙ marked_policy (mark_on q e) c,
          in_order (mark_on q e) refl ∙ ap (λ i. leaves q e ++ i) (sym (shut_held (closes q e) (marked (mark_on q e) c))),
        )
