-- What enters a channel and what leaves it at an event, by what the event tells of a task.
use Rattle.std.proofs.Common.{◌≡◌, ◌⊎◌, inl, inr, ℕ, List, [], ◌∷◌, refl, ap, ◌∙◌, Bool, true, false, cond, Option, Some, None, eqb, eqb-true, eq-eqb}
use Rattle.ca_value.specs.Tree.{Tree, nil, bool}
use Rattle.ca_term.specs.declared.event.Side.{Side}
use Rattle.ca_term.specs.declared.event.Side.TheVariants.{Take, Put}
use Rattle.ca_term.specs.Event.{BranchView, take_of, put_of, EventView, made, spawned, done, met, parked, posted, settled, defaulted, closed, registered, printed, ticked, over as is_over}
use Rattle.ca_term.specs.declared.event.TaskKind.{TaskKind}
use Rattle.ca_meaning.specs.Operands.{is_nil}
use Rattle.ca_meaning.specs.ChannelSteps.{other_side}
use Rattle.ca_meaning.specs.History.{Mark, accept, give, give_none, pass, no_mark, mark_on, mark_of_take, mark_of_put, mark_of_settled}
use Rattle.ca_laws.specs.Deeds.{did_take, did_put, did_wait, did_post, did_default, did_make, did_spawn, did_close, did_register, did_print, did_end, is_wait, deed_of, deed_on, deed}
use Rattle.ca_roles.proofs.Events.{one_deed, no_deed, not_of, not_on, nil_is}

-- the value that enters the channel, and the one that leaves it
abbrev pub entering : Mark → List Tree
entering (accept v) = v ∷ []
entering (pass v) = v ∷ []
entering (give v) = []
entering give_none = []
entering no_mark = []

abbrev pub leaving : Mark → List Tree
leaving (give v) = v ∷ []
leaving (pass v) = v ∷ []
leaving (accept v) = []
leaving give_none = []
leaving no_mark = []

abbrev pub enters : ℕ → EventView → List Tree
enters p e = entering (mark_on p e)

abbrev pub leaves : ℕ → EventView → List Tree
leaves p e = leaving (mark_on p e)

-- a put that was answered by true entered the channel
side_put : (side : Side) (j q k p : ℕ) (w v : Tree) → deed_on side j q w ≡ did_put k p v (bool true) → (side ≡ Put) × (q ≡ p) × (w ≡ v)
side_put Take j q k p w v e = absurd (let i : did_take j q w ≡ did_put k p v (bool true) = e in cc)
side_put Put j q k p w v e = (refl, let i : q ≡ p = cc in i, let i : w ≡ v = cc in i)

passes_in : (p : ℕ) (q : ℕ) (w v : Tree) → q ≡ p → w ≡ v → entering (cond (eqb q p) (pass w) no_mark) ≡ v ∷ []
passes_in p q w v e f = ap (λ b. entering (cond b (pass w) no_mark)) (eq-eqb q p e) ∙ ap (λ z. z ∷ []) f

pub put_enters : (t : ℕ) (o : Option ℕ) (e : EventView) (k p : ℕ) (v : Tree) → deed t o e ≡ Some (did_put k p v (bool true)) → enters p e ≡ v ∷ []
put_enters t o (done u j b a) k p v is = by b (one_deed (eqb u t) (deed_of b j a) (did_put k p v (bool true)) is).1 where
  by : (b : BranchView) → deed_of b j a ≡ did_put k p v (bool true) → enters p (done u j b a) ≡ v ∷ []
  by (take_of q) e = absurd (let i : did_take j q a ≡ did_put k p v (bool true) = e in cc)
  by (put_of q w) e =
      let i : did_put j q w a ≡ did_put k p v (bool true) = e in
      let qp : q ≡ p = cc in
      let wv : w ≡ v = cc in
      let at : a ≡ bool true = cc in
      ap (λ b. entering (cond b (mark_of_put w a) no_mark)) (eq-eqb q p qp) ∙ ap (λ z. entering (mark_of_put w z)) at ∙ ap (λ z. z ∷ []) wv
put_enters t o (met u j side q w n i) k p v is = by (eqb u t) is where
  by : (b : Bool) → cond b (Some (deed_on side j q w)) (cond (is_wait n o) (Some (deed_on (other_side side) i q w)) None) ≡ Some (did_put k p v (bool true)) → enters p (met u j side q w n i) ≡ v ∷ []
  by true e = let z = side_put side j q k p w v (one_deed true (deed_on side j q w) (did_put k p v (bool true)) e).1 in passes_in p q w v z.1 z.2
  by false e = let z = side_put (other_side side) i q k p w v (one_deed (is_wait n o) (deed_on (other_side side) i q w) (did_put k p v (bool true)) e).1 in passes_in p q w v z.1 z.2
put_enters t o (settled n j side q w) k p v is =
    let z = side_put side j q k p w v (one_deed (is_wait n o) (deed_on side j q w) (did_put k p v (bool true)) is).1 in
    ap (λ b. entering (cond b (mark_of_settled side w) no_mark)) (eq-eqb q p z.1) ∙ ap (λ i. entering (mark_of_settled i w)) z.0 ∙ ap (λ i. i ∷ []) z.2
put_enters t o (made u q what m) k p v is = no_deed (eqb u t) (did_make q what m) (did_put k p v (bool true)) (λ q. cc) is
put_enters t o (spawned u n kind r) k p v is = no_deed (eqb u t) (did_spawn n kind r) (did_put k p v (bool true)) (λ q. cc) is
put_enters t o (parked u w bs) k p v is = no_deed (eqb u t) (did_wait w bs) (did_put k p v (bool true)) (λ q. cc) is
put_enters t o (posted u w q i) k p v is = no_deed (eqb u t) (did_post w q i) (did_put k p v (bool true)) (λ q. cc) is
put_enters t o (defaulted u i) k p v is = no_deed (eqb u t) (did_default i) (did_put k p v (bool true)) (λ q. cc) is
put_enters t o (closed u q) k p v is = no_deed (eqb u t) (did_close q) (did_put k p v (bool true)) (λ q. cc) is
put_enters t o (registered u name args i) k p v is = no_deed (eqb u t) (did_register name args i) (did_put k p v (bool true)) (λ q. cc) is
put_enters t o (printed u line) k p v is = no_deed (eqb u t) (did_print line) (did_put k p v (bool true)) (λ q. cc) is
put_enters t o (ticked m ports) k p v is = absurd (let q : None ≡ Some (did_put k p v (bool true)) = is in cc)
put_enters t o (is_over u how) k p v is = no_deed (eqb u t) (did_end how) (did_put k p v (bool true)) (λ q. cc) is

-- what a take gets leaves the channel, or it gets nil
abbrev pub Gets : EventView → ℕ → Tree → Type 0
Gets e p a = (leaves p e ≡ a ∷ []) ⊎ ((a ≡ nil) × (mark_on p e ≡ give_none))

taken_mark : (e : EventView) (p : ℕ) (a : Tree) → mark_on p e ≡ mark_of_take a → Gets e p a
taken_mark e p a is = by (is_nil a) refl where
  by : (b : Bool) → is_nil a ≡ b → Gets e p a
  by true n = inr (nil_is a n, is ∙ ap (λ b. cond b give_none (give a)) n)
  by false n = inl (ap leaving (is ∙ ap (λ b. cond b give_none (give a)) n))

side_take : (side : Side) (j q k p : ℕ) (w v : Tree) → deed_on side j q w ≡ did_take k p v → (side ≡ Take) × (q ≡ p) × (w ≡ v)
side_take Take j q k p w v e = (refl, let i : q ≡ p = cc in i, let i : w ≡ v = cc in i)
side_take Put j q k p w v e = absurd (let i : did_put j q w (bool true) ≡ did_take k p v = e in cc)

passes_out : (p q : ℕ) (w v : Tree) → q ≡ p → w ≡ v → leaving (cond (eqb q p) (pass w) no_mark) ≡ v ∷ []
passes_out p q w v e f = ap (λ b. leaving (cond b (pass w) no_mark)) (eq-eqb q p e) ∙ ap (λ z. z ∷ []) f

pub take_leaves : (t : ℕ) (o : Option ℕ) (e : EventView) (k p : ℕ) (a : Tree) → deed t o e ≡ Some (did_take k p a) → Gets e p a
take_leaves t o (done u j b r) k p a is = by b (one_deed (eqb u t) (deed_of b j r) (did_take k p a) is).1 where
  by : (b : BranchView) → deed_of b j r ≡ did_take k p a → Gets (done u j b r) p a
  by (put_of q w) e = absurd (let i : did_put j q w r ≡ did_take k p a = e in cc)
  by (take_of q) e =
      let i : did_take j q r ≡ did_take k p a = e in
      let qp : q ≡ p = cc in
      let ra : r ≡ a = cc in
      taken_mark (done u j (take_of q) r) p a (ap (λ b. cond b (mark_of_take r) no_mark) (eq-eqb q p qp) ∙ ap mark_of_take ra)
take_leaves t o (met u j side q w n i) k p a is = by (eqb u t) is where
  by : (b : Bool) → cond b (Some (deed_on side j q w)) (cond (is_wait n o) (Some (deed_on (other_side side) i q w)) None) ≡ Some (did_take k p a) → Gets (met u j side q w n i) p a
  by true e = let z = side_take side j q k p w a (one_deed true (deed_on side j q w) (did_take k p a) e).1 in inl (passes_out p q w a z.1 z.2)
  by false e = let z = side_take (other_side side) i q k p w a (one_deed (is_wait n o) (deed_on (other_side side) i q w) (did_take k p a) e).1 in inl (passes_out p q w a z.1 z.2)
take_leaves t o (settled n j side q w) k p a is =
    let z = side_take side j q k p w a (one_deed (is_wait n o) (deed_on side j q w) (did_take k p a) is).1 in
    taken_mark (settled n j side q w) p a (ap (λ b. cond b (mark_of_settled side w) no_mark) (eq-eqb q p z.1) ∙ ap (λ i. mark_of_settled i w) z.0 ∙ ap mark_of_take z.2)
take_leaves t o (made u q what m) k p a is = no_deed (eqb u t) (did_make q what m) (did_take k p a) (λ q. cc) is
take_leaves t o (spawned u n kind r) k p a is = no_deed (eqb u t) (did_spawn n kind r) (did_take k p a) (λ q. cc) is
take_leaves t o (parked u w bs) k p a is = no_deed (eqb u t) (did_wait w bs) (did_take k p a) (λ q. cc) is
take_leaves t o (posted u w q i) k p a is = no_deed (eqb u t) (did_post w q i) (did_take k p a) (λ q. cc) is
take_leaves t o (defaulted u i) k p a is = no_deed (eqb u t) (did_default i) (did_take k p a) (λ q. cc) is
take_leaves t o (closed u q) k p a is = no_deed (eqb u t) (did_close q) (did_take k p a) (λ q. cc) is
take_leaves t o (registered u name args i) k p a is = no_deed (eqb u t) (did_register name args i) (did_take k p a) (λ q. cc) is
take_leaves t o (printed u line) k p a is = no_deed (eqb u t) (did_print line) (did_take k p a) (λ q. cc) is
take_leaves t o (ticked m ports) k p a is = absurd (let q : None ≡ Some (did_take k p a) = is in cc)
take_leaves t o (is_over u how) k p a is = no_deed (eqb u t) (did_end how) (did_take k p a) (λ q. cc) is

-- the event of a Spawn
pub spawned_event : (t : ℕ) (o : Option ℕ) (e : EventView) (u : ℕ) (kind : TaskKind) (r : Option ℕ) → deed t o e ≡ Some (did_spawn u kind r) → e ≡ spawned t u kind r
spawned_event t o (spawned v n k q) u kind r is =
    let d = one_deed (eqb v t) (did_spawn n k q) (did_spawn u kind r) is in
    let i : did_spawn n k q ≡ did_spawn u kind r = d.1 in
    let a : n ≡ u = cc in
    let b : k ≡ kind = cc in
    let c : q ≡ r = cc in
    ap (λ z. spawned z n k q) (eqb-true v t d.0) ∙ ap (λ z. spawned t z k q) a ∙ ap (λ z. spawned t u z q) b ∙ ap (spawned t u kind) c
spawned_event t o (done v k b a) u kind r is = no_deed (eqb v t) (deed_of b k a) (did_spawn u kind r) (not_of b k a (did_spawn u kind r) (λ n q. cc) (λ n v q. cc)) is
spawned_event t o (met i k side q v w j) u kind r is = by (eqb i t) is where
  by : (b : Bool) → cond b (Some (deed_on side k q v)) (cond (is_wait w o) (Some (deed_on (other_side side) j q v)) None) ≡ Some (did_spawn u kind r) → met i k side q v w j ≡ spawned t u kind r
  by true e = no_deed true (deed_on side k q v) (did_spawn u kind r) (not_on side k q v (did_spawn u kind r) (λ q. cc) (λ q. cc)) e
  by false e = no_deed (is_wait w o) (deed_on (other_side side) j q v) (did_spawn u kind r) (not_on (other_side side) j q v (did_spawn u kind r) (λ q. cc) (λ q. cc)) e
spawned_event t o (settled w k side q v) u kind r is = no_deed (is_wait w o) (deed_on side k q v) (did_spawn u kind r) (not_on side k q v (did_spawn u kind r) (λ q. cc) (λ q. cc)) is
spawned_event t o (made v p what m) u kind r is = no_deed (eqb v t) (did_make p what m) (did_spawn u kind r) (λ q. cc) is
spawned_event t o (parked v w bs) u kind r is = no_deed (eqb v t) (did_wait w bs) (did_spawn u kind r) (λ q. cc) is
spawned_event t o (posted v w q i) u kind r is = no_deed (eqb v t) (did_post w q i) (did_spawn u kind r) (λ q. cc) is
spawned_event t o (defaulted v i) u kind r is = no_deed (eqb v t) (did_default i) (did_spawn u kind r) (λ q. cc) is
spawned_event t o (closed v q) u kind r is = no_deed (eqb v t) (did_close q) (did_spawn u kind r) (λ q. cc) is
spawned_event t o (registered v name args i) u kind r is = no_deed (eqb v t) (did_register name args i) (did_spawn u kind r) (λ q. cc) is
spawned_event t o (printed v line) u kind r is = no_deed (eqb v t) (did_print line) (did_spawn u kind r) (λ q. cc) is
spawned_event t o (ticked n ports) u kind r is = absurd (let q : None ≡ Some (did_spawn u kind r) = is in cc)
spawned_event t o (is_over v how) u kind r is = no_deed (eqb v t) (did_end how) (did_spawn u kind r) (λ q. cc) is
