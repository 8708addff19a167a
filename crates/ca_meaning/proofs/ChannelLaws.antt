-- The channel law of every legal journal.
use Rattle.std.proofs.Common.{◌≡◌, ◌⊎◌, inl, inr, ⊎_elim, ℕ, List, [], ◌∷◌, ◌++◌, refl, sym, ap, ◌∙◌, subst, Bool, true, false, cond, Option, Some, eqb, eqb-true}
use Rattle.ca_value.specs.Tree.{Tree}
use Rattle.ca_term.specs.declared.event.Side.{Side}
use Rattle.ca_term.specs.declared.event.Side.TheVariants.{Take, Put}
use Rattle.ca_term.specs.declared.event.Ending.TheVariants.{Ended, Faulted}
use Rattle.ca_term.specs.Program.{ProgramView}
use Rattle.ca_term.specs.Event.{BranchView, take_of, put_of, EventView, made, spawned, done, met, parked, posted, settled, defaulted, closed, registered, printed, ticked, over as is_over}
use Rattle.ca_meaning.specs.Operands.{is_nil, truth}
use Rattle.ca_meaning.specs.Channel.{Channel}
use Rattle.ca_meaning.specs.Wait.{Handler, side_of, port_of, front, queue}
use Rattle.ca_meaning.specs.Row.{Row, not_ready, completes as row_completes, meets, row_on, settles, settle_row}
use Rattle.ca_meaning.specs.State.{State, opening_state, Opening}
use Rattle.ca_meaning.specs.ChannelSteps.{other_side}
use Rattle.ca_meaning.specs.Steps.{Step, Steps}
use Rattle.ca_meaning.specs.Legal.{Reaches, Legal}
use Rattle.ca_meaning.specs.Sound.{Each, IsNotNil}
use Rattle.ca_meaning.specs.History.{Mark, accept, give, give_none, pass, no_mark, mark_of_take, mark_of_put, mark_of_done, mark_of_settled, mark_on, channel_in, branch_on, MakesBranch, completed_by}
use Rattle.ca_meaning.specs.ChannelLaw.{TellsChannel, OfferedWhileOpen, KeepsOrder, ChannelLaw}
use Rattle.ca_meaning.proofs.Waits.{each-head}
use Rattle.ca_meaning.proofs.Rows.{TakeDone, gave, nothing_left, take_done, PutDone, refused, promised, accepted, put_done, take_meets, put_meets, Settled, moved_in, served, served_nil, settle_does, row_channel}
use Rattle.ca_meaning.proofs.Soundness.{opening_sound}
use Rattle.ca_meaning.proofs.Named.{NamedIn, Known, steps_known}

-- the branch is done, or meets, or is settled
data MarkCase (s : State) (p : ℕ) (e : EventView) (m : Mark) : Type 0 where
  by_done : (b : BranchView) (a : Tree) (c d : Channel) → s.channels p ≡ Some c → row_on c (front Take p s.waits) (front Put p s.waits) b ≡ row_completes a d → mark_of_done b a ≡ m → MarkCase s p e m
  by_meet : (b : BranchView) (v : Tree) (c : Channel) (h : Handler) → s.channels p ≡ Some c → row_on c (front Take p s.waits) (front Put p s.waits) b ≡ meets h v → pass v ≡ m
      → completed_by e ≡ Some (h.wait, h.branch, branch_on (other_side (side_of b)) p v) → MarkCase s p e m
  by_settle : (side : Side) (v : Tree) (c d : Channel) (h : Handler) → s.channels p ≡ Some c → settle_row c (front Take p s.waits) (front Put p s.waits) ≡ settles side h v d → mark_of_settled side v ≡ m
      → completed_by e ≡ Some (h.wait, h.branch, branch_on side p v) → MarkCase s p e m

some_triple : {w x k j : ℕ} {b c : BranchView} → w ≡ x → k ≡ j → b ≡ c → ◌≡◌ {A = Option (ℕ × ℕ × BranchView)} (Some (w, k, b)) (Some (x, j, c))
some_triple e f g = λ i. Some (e i, f i, g i)

-- what stands on a channel, at its port
abbrev StandsOn : State → BranchView → Row → ℕ → Type 0
StandsOn s b r n = (c : Channel) × (s.channels n ≡ Some c) × (row_on c (front Take n s.waits) (front Put n s.waits) b ≡ r)

abbrev SettlesOn : State → Side → Handler → Tree → Channel → Channel → ℕ → Type 0
SettlesOn s side h v c d n = (s.channels n ≡ Some c) × (settle_row c (front Take n s.waits) (front Put n s.waits) ≡ settles side h v d)

no_completed : (a : Tree) (d : Channel) → row_completes a d ≡ not_ready → ⊥
no_completed a d e = cc

no_meeting : (h : Handler) (v : Tree) → meets h v ≡ not_ready → ⊥
no_meeting h v e = cc

mark_case : (program : ProgramView) (s s2 : State) (e : EventView) (p : ℕ) (m : Mark) → Step program s e s2 → mark_on p e ≡ m → (no_mark ≡ m → ⊥) → MarkCase s p e m
mark_case program s s2 (made t q what moment) p m x is ne = absurd (ne is)
mark_case program s s2 (spawned t u kind result) p m x is ne = absurd (ne is)
mark_case program s s2 (done t k b a) p m x is ne = by (eqb (port_of b) p) refl is where
  by : (y : Bool) → eqb (port_of b) p ≡ y → cond y (mark_of_done b a) no_mark ≡ m → MarkCase s p (done t k b a) m
  by true at is =
      let r : StandsOn s b (row_completes a x.3) p = subst (StandsOn s b (row_completes a x.3)) (eqb-true (port_of b) p at) (row_channel (s.channels (port_of b)) (front Take (port_of b) s.waits) (front Put (port_of b) s.waits) b (row_completes a x.3) x.6 (no_completed a x.3)) in
      by_done b a r.0 x.3 r.1 r.2 is
  by false at is = absurd (ne is)
mark_case program s s2 (met t k side q v w o) p m x is ne = by (eqb q p) refl is where
  by : (y : Bool) → eqb q p ≡ y → cond y (pass v) no_mark ≡ m → MarkCase s p (met t k side q v w o) m
  by true at is =
      let qp = eqb-true q p at in
      let r : StandsOn s x.2 (meets x.3 v) p = subst (StandsOn s x.2 (meets x.3 v)) (x.9 ∙ qp) (row_channel (s.channels (port_of x.2)) (front Take (port_of x.2) s.waits) (front Put (port_of x.2) s.waits) x.2 (meets x.3 v) x.10 (no_meeting x.3 v)) in
      by_meet x.2 v r.0 x.3 r.1 r.2 is (some_triple (sym x.11) (sym x.12) (ap (λ (z : Side). branch_on (other_side z) q v) (sym x.8) ∙ ap (λ n. branch_on (other_side (side_of x.2)) n v) qp))
  by false at is = absurd (ne is)
mark_case program s s2 (settled w k side q v) p m x is ne = by (eqb q p) refl is where
  by : (y : Bool) → eqb q p ≡ y → cond y (mark_of_settled side v) no_mark ≡ m → MarkCase s p (settled w k side q v) m
  by true at is =
      let qp = eqb-true q p at in
      let r : SettlesOn s side x.2 v x.0 x.1 p = subst (SettlesOn s side x.2 v x.0 x.1) qp (x.4, x.5) in
      by_settle side v x.0 x.1 x.2 r.0 r.1 is (some_triple (sym x.6) (sym x.7) (ap (λ n. branch_on side n v) qp))
  by false at is = absurd (ne is)
mark_case program s s2 (parked t w bs) p m x is ne = absurd (ne is)
mark_case program s s2 (posted t w q v) p m x is ne = absurd (ne is)
mark_case program s s2 (defaulted t v) p m x is ne = absurd (ne is)
mark_case program s s2 (closed t q) p m x is ne = absurd (ne is)
mark_case program s s2 (registered t name args v) p m x is ne = absurd (ne is)
mark_case program s s2 (printed t line) p m x is ne = absurd (ne is)
mark_case program s s2 (ticked n ports) p m x is ne = absurd (ne is)
mark_case program s s2 (is_over t Ended) p m x is ne = absurd (ne is)
mark_case program s s2 (is_over t (Faulted fault place result)) p m x is ne = absurd (ne is)

-- the marks of takes and of puts
take_mark : (a : Tree) (m : Mark) → mark_of_take a ≡ m → ((is_nil a ≡ true) × (give_none ≡ m)) ⊎ ((is_nil a ≡ false) × (give a ≡ m))
take_mark a m e = by (is_nil a) refl e where
  by : (b : Bool) → is_nil a ≡ b → cond b give_none (give a) ≡ m → ((is_nil a ≡ true) × (give_none ≡ m)) ⊎ ((is_nil a ≡ false) × (give a ≡ m))
  by true is e = inl (is, e)
  by false is e = inr (is, e)

put_mark : (v a : Tree) (m : Mark) → mark_of_put v a ≡ m → ((truth a ≡ true) × (accept v ≡ m)) ⊎ ((truth a ≡ false) × (no_mark ≡ m))
put_mark v a m e = by (truth a) refl e where
  by : (b : Bool) → truth a ≡ b → cond b (accept v) no_mark ≡ m → ((truth a ≡ true) × (accept v ≡ m)) ⊎ ((truth a ≡ false) × (no_mark ≡ m))
  by true is e = inl (is, e)
  by false is e = inr (is, e)

first_not_nil : (c : Channel) (a : Tree) (vs : List Tree) → Each IsNotNil c.held → c.held ≡ a ∷ vs → is_nil a ≡ false
first_not_nil c a vs n e = (subst (Each IsNotNil) e n).0

module _ (before : List EventView) (s : State) (known : Known before s) (p : ℕ) (e : EventView) where
  told : (c : Channel) → s.channels p ≡ Some c → TellsChannel before p c
  told c at = sym (known.tells p) ∙ at

  same_channel : (c d : Channel) → s.channels p ≡ Some c → TellsChannel before p d → c ≡ d
  same_channel c d at tells = let k : Some c ≡ Some d = sym at ∙ known.tells p ∙ tells in cc

  abbrev Gives : Tree → Type 0
  Gives v = (c : Channel) × (vs : List Tree) × TellsChannel before p c × (c.held ≡ v ∷ vs)

  gives : (v : Tree) → MarkCase s p e (give v) → Gives v
  gives v (by_done (take_of q) a c d at r m) = ⊎_elim
      (λ n. absurd (let k : give_none ≡ give v = n.1 in cc))
      (λ g. let av : a ≡ v = (let k : give a ≡ give v = g.1 in cc) in by av (take_done c (front Put p s.waits) a d r))
      (take_mark a (give v) m) where
        by : a ≡ v → TakeDone c a d → Gives v
        by av (gave vs is k) = (c, vs, told c at, is ∙ ap (λ z. z ∷ vs) av)
        by av (nothing_left is cl an k) = absurd (⊎_elim (λ n. let k : give_none ≡ give v = n.1 in cc) (λ g. let k : true ≡ false = sym (ap is_nil an) ∙ g.0 in cc) (take_mark a (give v) m))
  gives v (by_done (put_of q u) a c d at r m) = absurd (⊎_elim (λ y. let k : accept u ≡ give v = y.1 in cc) (λ y. let k : no_mark ≡ give v = y.1 in cc) (put_mark u a (give v) m))
  gives v (by_meet b u c h at r m is) = absurd (let k : pass u ≡ give v = m in cc)
  gives v (by_settle Put u c d h at r m is) = absurd (let k : accept u ≡ give v = m in cc)
  gives v (by_settle Take u c d h at r m is) = ⊎_elim (λ n. absurd (let k : give_none ≡ give v = n.1 in cc)) (λ g. by g.0 (let k : give u ≡ give v = g.1 in let j : u ≡ v = cc in j) (settle_does c (front Take p s.waits) (front Put p s.waits) Take h u d r)) (take_mark u (give v) m) where
    by : is_nil u ≡ false → u ≡ v → Settled c (front Take p s.waits) (front Put p s.waits) Take h u d → Gives v
    by n uv (moved_in sd b vn k fx rm) = absurd (let j : Take ≡ Put = sd in cc)
    by n uv (served sd b vs held k) = (c, vs, told c at, held ∙ ap (λ z. z ∷ vs) uv)
    by n uv (served_nil sd b held cl vn k) = absurd (let j : true ≡ false = sym (ap is_nil vn) ∙ n in cc)

  abbrev Passes : Type 0
  Passes = (c : Channel) × TellsChannel before p c × (c.held ≡ [])

  passes : (v : Tree) → MarkCase s p e (pass v) → Passes
  passes v (by_done (take_of q) a c d at r m) = absurd (⊎_elim (λ n. let k : give_none ≡ pass v = n.1 in cc) (λ g. let k : give a ≡ pass v = g.1 in cc) (take_mark a (pass v) m))
  passes v (by_done (put_of q u) a c d at r m) = absurd (⊎_elim (λ y. let k : accept u ≡ pass v = y.1 in cc) (λ y. let k : no_mark ≡ pass v = y.1 in cc) (put_mark u a (pass v) m))
  passes v (by_meet (take_of q) u c h at r m is) = (c, told c at, (take_meets c (front Put p s.waits) h u r).none_held)
  passes v (by_meet (put_of q y) u c h at r m is) = let k = put_meets c (front Take p s.waits) (front Put p s.waits) y h u r in (c, told c at, (known.sound.idle p c at k.no_promise h k.in_front).0)
  passes v (by_settle Put u c d h at r m is) = absurd (let k : accept u ≡ pass v = m in cc)
  passes v (by_settle Take u c d h at r m is) = absurd (⊎_elim (λ n. let k : give_none ≡ pass v = n.1 in cc) (λ g. let k : give u ≡ pass v = g.1 in cc) (take_mark u (pass v) m))

  abbrev Ends : Type 0
  Ends = (c : Channel) × TellsChannel before p c × (c.closed ≡ true) × (c.held ≡ [])

  ends : MarkCase s p e give_none → Ends
  ends (by_done (take_of q) a c d at r m) = ⊎_elim (λ n. by n.0 (take_done c (front Put p s.waits) a d r)) (λ g. absurd (let k : give a ≡ give_none = g.1 in cc)) (take_mark a give_none m) where
    by : is_nil a ≡ true → TakeDone c a d → Ends
    by n (gave vs is k) = absurd (let j : true ≡ false = sym n ∙ first_not_nil c a vs (known.sound.held p c at) is in cc)
    by n (nothing_left is cl an k) = (c, told c at, cl, is)
  ends (by_done (put_of q u) a c d at r m) = absurd (⊎_elim (λ y. let k : accept u ≡ give_none = y.1 in cc) (λ y. let k : no_mark ≡ give_none = y.1 in cc) (put_mark u a give_none m))
  ends (by_meet b u c h at r m is) = absurd (let k : pass u ≡ give_none = m in cc)
  ends (by_settle Put u c d h at r m is) = absurd (let k : accept u ≡ give_none = m in cc)
  ends (by_settle Take u c d h at r m is) = ⊎_elim (λ n. by n.0 (settle_does c (front Take p s.waits) (front Put p s.waits) Take h u d r)) (λ g. absurd (let k : give u ≡ give_none = g.1 in cc)) (take_mark u give_none m) where
    by : is_nil u ≡ true → Settled c (front Take p s.waits) (front Put p s.waits) Take h u d → Ends
    by n (moved_in sd b vn k fx rm) = absurd (let j : Take ≡ Put = sd in cc)
    by n (served sd b vs held k) = absurd (let j : true ≡ false = sym n ∙ first_not_nil c u vs (known.sound.held p c at) held in cc)
    by n (served_nil sd b held cl vn k) = (c, told c at, cl, held)

  -- of the first waiting put
  offered : (h : Handler) (u v : Tree) → front Put p s.waits ≡ Some h → u ≡ h.value → u ≡ v → completed_by e ≡ Some (h.wait, h.branch, put_of p u) → OfferedWhileOpen before p e v
  offered h u v at uh uv is =
      let n = each-head (NamedIn before Put p) (queue Put p s.waits) h (known.named Put p) at in
      let hv : h.value ≡ v = sym uh ∙ uv in
      (h.wait, h.branch, is ∙ ap (λ z. Some (h.wait, h.branch, put_of p z)) uv, (n.0, n.1, n.2, n.3, subst (λ z. MakesBranch h.wait h.branch (put_of p z) n.1) hv n.4, n.5))

  open_not_closed : {G : Type 0} (c d : Channel) → s.channels p ≡ Some c → TellsChannel before p d → d.closed ≡ true → c.closed ≡ false → G
  open_not_closed c d at tells cl op = absurd (let k : true ≡ false = sym cl ∙ ap (λ (z : Channel). z.closed) (sym (same_channel c d at tells)) ∙ op in cc)

  late_accept : (v : Tree) (d : Channel) → MarkCase s p e (accept v) → TellsChannel before p d → d.closed ≡ true → OfferedWhileOpen before p e v
  late_accept v d (by_done (take_of q) a c x at r m) tells cl = absurd (⊎_elim (λ n. let k : give_none ≡ accept v = n.1 in cc) (λ g. let k : give a ≡ accept v = g.1 in cc) (take_mark a (accept v) m))
  late_accept v d (by_done (put_of q u) a c x at r m) tells cl = ⊎_elim (λ y. by y.0 (put_done c (front Take p s.waits) (front Put p s.waits) u a x r)) (λ y. absurd (let k : no_mark ≡ accept v = y.1 in cc)) (put_mark u a (accept v) m) where
    by : truth a ≡ true → PutDone c (front Take p s.waits) (front Put p s.waits) u a x → OfferedWhileOpen before p e v
    by y (refused k an i) = absurd (let j : true ≡ false = sym y ∙ ap truth an in cc)
    by y (promised k pr an i) = open_not_closed c d at tells cl k
    by y (accepted k pr rm t o an i) = open_not_closed c d at tells cl k
  late_accept v d (by_meet b u c h at r m is) tells cl = absurd (let k : pass u ≡ accept v = m in cc)
  late_accept v d (by_settle Take u c x h at r m is) tells cl = absurd (⊎_elim (λ n. let k : give_none ≡ accept v = n.1 in cc) (λ g. let k : give u ≡ accept v = g.1 in cc) (take_mark u (accept v) m))
  late_accept v d (by_settle Put u c x h at r m is) tells cl = by (settle_does c (front Take p s.waits) (front Put p s.waits) Put h u x r) where
    by : Settled c (front Take p s.waits) (front Put p s.waits) Put h u x → OfferedWhileOpen before p e v
    by (moved_in sd b un k fx rm) = offered h u v b un (let j : accept u ≡ accept v = m in let i : u ≡ v = cc in i) is
    by (served sd b vs held k) = absurd (let j : Put ≡ Take = sd in cc)
    by (served_nil sd b held k un i) = absurd (let j : Put ≡ Take = sd in cc)

  late_pass : (v : Tree) (d : Channel) → MarkCase s p e (pass v) → TellsChannel before p d → d.closed ≡ true → OfferedWhileOpen before p e v
  late_pass v d (by_done (take_of q) a c x at r m) tells cl = absurd (⊎_elim (λ n. let k : give_none ≡ pass v = n.1 in cc) (λ g. let k : give a ≡ pass v = g.1 in cc) (take_mark a (pass v) m))
  late_pass v d (by_done (put_of q u) a c x at r m) tells cl = absurd (⊎_elim (λ y. let k : accept u ≡ pass v = y.1 in cc) (λ y. let k : no_mark ≡ pass v = y.1 in cc) (put_mark u a (pass v) m))
  late_pass v d (by_meet (take_of q) u c h at r m is) tells cl = let k = take_meets c (front Put p s.waits) h u r in offered h u v k.in_front k.value (let j : pass u ≡ pass v = m in let i : u ≡ v = cc in i) is
  late_pass v d (by_meet (put_of q y) u c h at r m is) tells cl = open_not_closed c d at tells cl (put_meets c (front Take p s.waits) (front Put p s.waits) y h u r).is_open
  late_pass v d (by_settle Put u c x h at r m is) tells cl = absurd (let k : accept u ≡ pass v = m in cc)
  late_pass v d (by_settle Take u c x h at r m is) tells cl = absurd (⊎_elim (λ n. let k : give_none ≡ pass v = n.1 in cc) (λ g. let k : give u ≡ pass v = g.1 in cc) (take_mark u (pass v) m))

  order_kept : (program : ProgramView) (s2 : State) → Step program s e s2 → KeepsOrder p before e
  order_kept program s2 x = record {
    gives = λ v m. gives v (mark_case program s s2 e p (give v) x m (λ k. cc));
    passes = λ v m. passes v (mark_case program s s2 e p (pass v) x m (λ k. cc));
    ends = λ m. ends (mark_case program s s2 e p give_none x m (λ k. cc));
    late = λ v d m tells cl. ⊎_elim (λ a. late_accept v d (mark_case program s s2 e p (accept v) x a (λ k. cc)) tells cl) (λ a. late_pass v d (mark_case program s s2 e p (pass v) x a (λ k. cc)) tells cl) m;
  }

pub steps_split : (program : ProgramView) (xs ys : List EventView) (s s2 : State) → Steps program s (xs ++ ys) s2 → (mid : State) × Steps program s xs mid × Steps program mid ys s2
steps_split program [] ys s s2 x = (s, refl, x)
steps_split program (e ∷ xs) ys s s2 x = let r = steps_split program xs ys x.0 s2 x.2 in (r.0, (x.0, x.1, r.1), r.2)

pub opening_known : (program : ProgramView) (s : State) → Opening program s → Known [] s
opening_known program s x = subst (Known []) (sym x.2) (record {
  sound = opening_sound program (opening_state x.0) (x.0, x.1, refl);
  tells = λ p. refl;
  named = λ side p. tt;
})

-- the state after the first events of a legal journal
pub known_before : (program : ProgramView) (before after : List EventView) (journal : List EventView) (s : State) → Reaches program journal s → journal ≡ before ++ after → (mid : State) × Known before mid × Steps program mid after s
known_before program before after journal s r e =
    let k = steps_split program before after r.opening s (subst (λ j. Steps program r.opening j s) e r.steps) in
    (k.0, steps_known program before r.opening k.0 [] k.1 (opening_known program r.opening r.opens), k.2)

pub channel_law : (program : ProgramView) (journal : List EventView) → Legal program journal → ChannelLaw journal
channel_law program journal legal = record {
  fits = λ p before after c e tells. let k = known_before program before after journal legal.state legal.reaches e in k.1.sound.fits p c (k.1.tells p ∙ tells);
  order = λ p before after e is. let k = known_before program before (e ∷ after) journal legal.state legal.reaches is in order_kept before k.0 k.1 p e program k.2.0 k.2.1;
}

pub channels_told : (program : ProgramView) (journal : List EventView) (s : State) (p : ℕ) → Reaches program journal s → s.channels p ≡ channel_in p journal
channels_told program journal s p r = (steps_known program journal r.opening s [] r.steps (opening_known program r.opening r.opens)).tells p
