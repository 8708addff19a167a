-- Two journals of one worker over the same answers of the clock, which have an end for the same budget,
-- are one.
use Rattle.std.proofs.Common.{◌≡◌, ◌⊎◌, inl, inr, ⊎_elim, ℕ, ◌<◌, ◌≤◌, List, [], ◌∷◌, ◌++◌, refl, sym, ap, ap₂, ◌∙◌, subst, arith, true, false, cond, Option, Some, None, eqb, eq-eqb}
use Rattle.ca_value.specs.Tree.{Tree}
use Rattle.ca_term.specs.declared.event.Side.{Side}
use Rattle.ca_term.specs.declared.event.Side.TheVariants.{Take, Put}
use Rattle.ca_term.specs.Program.{ProgramView}
use Rattle.ca_term.specs.Event.{EventView, made, spawned, done, met, parked, posted, settled, defaulted, closed, registered, printed, ticked, over as is_over}
use Rattle.ca_meaning.specs.Channel.{Channel}
use Rattle.ca_meaning.specs.Wait.{Handler, front, owner_of}
use Rattle.ca_meaning.specs.Row.{unsettled, settles, settle_row}
use Rattle.ca_meaning.specs.State.{State, Task, Deadline, due}
use Rattle.ca_meaning.specs.Cost.{cost}
use Rattle.ca_meaning.specs.Steps.{Step, Steps}
use Rattle.ca_meaning.specs.Legal.{Reaches, Legal, EndsLast, is_end_of_main}
use Rattle.ca_meaning.specs.Ends.{HasEnd, RunEnd, ended, faulted, limit, stuck, but_last}
use Rattle.ca_meaning.specs.EndsLaw.{is_of}
use Rattle.ca_meaning.specs.Solo.{Lane, Desk, opening_desk, CanSettle, NoneSettles, SettlesFirst, patience, IsFree, AsksBefore, AsksAfter, IsTurnOf, TicksAtPick, TicksIdle, CountsAlts, alts_counted, joined_by, made_one, left, ReadsMoment, Leaves, TaskTurn, IsNext, SoloSteps, Solo}
use Rattle.ca_meaning.proofs.Single.{same_task, same_op, step_once, opening_once, reached_once}
use Rattle.ca_meaning.proofs.Alike.{one_of, same_class, same_event}

-- lists
same_head : {A : Type 0} (x y : A) (xs ys : List A) → x ∷ xs ≡ y ∷ ys → x ≡ y
same_head x y xs ys e = cc

same_tail : {A : Type 0} (x y : A) (xs ys : List A) → x ∷ xs ≡ y ∷ ys → xs ≡ ys
same_tail x y xs ys e = cc

not_empty : {A : Type 0} {G : Type 0} (x : A) (xs : List A) → x ∷ xs ≡ [] → G
not_empty x xs e = absurd cc

-- desks
free_once : (l : Option Lane) (before a b : List ℕ) → IsFree l before a → IsFree l before b → a ≡ b
free_once None before a b x y = x ∙ sym y
free_once (Some lane) before a b x y = x.1 ∙ sym y.1

busy : {G : Type 0} (l : Option Lane) (lane : Lane) (before ready : List ℕ) → l ≡ Some lane → lane.events < patience → IsFree l before ready → G
busy l lane before ready e lt x = let f : IsFree (Some lane) before ready = subst (λ z. IsFree z before ready) e x in let le : patience ≤ lane.events = f.0 in absurd (omega (arith, le, lt))

asks_once : (ds : List Deadline) (r a b : List ℕ) → AsksBefore ds r a → AsksBefore ds r b → a ≡ b
asks_once [] r a b x y = x ∙ sym y
asks_once (d ∷ ds) r a b x y = same_tail x.0 y.0 a b (sym x.1 ∙ y.1)

asks_clash : {G : Type 0} (ds : List Deadline) (m : ℕ) (r a b : List ℕ) → AsksBefore ds r a → AsksAfter ds m r b → G
asks_clash [] m r a b x y = absurd y
asks_clash (d ∷ ds) m r a b x y = let e : x.0 ≡ m = same_head x.0 m a b (sym x.1 ∙ y.0) in let lt : x.0 < d.moment = x.2 in let le : d.moment ≤ m = y.1 in absurd (omega (arith, e, lt, le))

after_once : (ds : List Deadline) (m n : ℕ) (r a b : List ℕ) → AsksAfter ds m r a → AsksAfter ds n r b → (m ≡ n) × (a ≡ b)
after_once [] m n r a b x y = absurd x
after_once (d ∷ ds) m n r a b x y = let e = sym x.0 ∙ y.0 in (same_head m n a b e, same_tail m n a b e)

same_lane : (l : Option Lane) (a b : Lane) → l ≡ Some a → l ≡ Some b → a ≡ b
same_lane l a b x y = let e : Some a ≡ Some b = sym x ∙ y in cc

turn_once : (s : State) (d : Desk) (t u : ℕ) (f g : Desk) → IsTurnOf s d t f → IsTurnOf s d u g → (t ≡ u) × (f ≡ g)
turn_once s d t u f g (inl x) (inl y) = (sym x.3 ∙ ap (λ (l : Lane). l.task) (same_lane d.lane x.0 y.0 x.1 y.1) ∙ y.3, x.4 ∙ sym y.4)
turn_once s d t u f g (inl x) (inr y) = busy d.lane x.0 d.ready (u ∷ y.0) x.1 x.2 y.2
turn_once s d t u f g (inr x) (inl y) = busy d.lane y.0 d.ready (t ∷ x.0) y.1 y.2 x.2
turn_once s d t u f g (inr x) (inr y) =
    let e = free_once d.lane d.ready (t ∷ x.0) (u ∷ y.0) x.2 y.2 in
    let tu = same_head t u x.0 y.0 e in
    let rest = same_tail t u x.0 y.0 e in
    let later = asks_once s.deadlines d.readings x.1 y.1 x.3 y.3 in
    (tu, x.4 ∙ (λ i. record d { ready = rest i; lane = Some (record { task = tu i; events = 0 }); readings = later i }) ∙ sym y.4)

ticks_once : (s : State) (d : Desk) (m n : ℕ) (f g : Desk) → TicksAtPick s d m f ⊎ TicksIdle s d m f → TicksAtPick s d n g ⊎ TicksIdle s d n g → (m ≡ n) × (f ≡ g)
ticks_once s d m n f g (inl x) (inl y) =
    let e = free_once d.lane d.ready (x.0 ∷ x.1) (y.0 ∷ y.1) x.3 y.3 in
    let tu = same_head x.0 y.0 x.1 y.1 e in
    let rest = same_tail x.0 y.0 x.1 y.1 e in
    let a = after_once s.deadlines m n d.readings x.2 y.2 x.4 y.4 in
    (a.0, x.5 ∙ (λ i. record d { ready = rest i; lane = Some (record { task = tu i; events = 0 }); readings = a.1 i }) ∙ sym y.5)
ticks_once s d m n f g (inl x) (inr y) = not_empty x.0 x.1 (free_once d.lane d.ready (x.0 ∷ x.1) [] x.3 y.1)
ticks_once s d m n f g (inr x) (inl y) = not_empty y.0 y.1 (free_once d.lane d.ready (y.0 ∷ y.1) [] y.3 x.1)
ticks_once s d m n f g (inr x) (inr y) =
    let a = after_once s.deadlines m n d.readings x.0 y.0 x.2 y.2 in
    (a.0, x.3 ∙ ap (λ r. record d { lane = None; readings = r }) a.1 ∙ sym y.3)

tick_no_turn : {G : Type 0} (s : State) (d : Desk) (m t : ℕ) (f g : Desk) → TicksAtPick s d m f ⊎ TicksIdle s d m f → IsTurnOf s d t g → G
tick_no_turn s d m t f g (inl x) (inl y) = busy d.lane y.0 d.ready (x.0 ∷ x.1) y.1 y.2 x.3
tick_no_turn s d m t f g (inl x) (inr y) = asks_clash s.deadlines m d.readings y.1 x.2 y.3 x.4
tick_no_turn s d m t f g (inr x) (inl y) = busy d.lane y.0 d.ready [] y.1 y.2 x.1
tick_no_turn s d m t f g (inr x) (inr y) = not_empty t y.0 (free_once d.lane d.ready (t ∷ y.0) [] y.2 x.1)

counts_once : (s : State) (d : Desk) (t : ℕ) (f g : Desk) → CountsAlts s d t f → CountsAlts s d t g → f ≡ g
counts_once s d t f g x y =
    let same = same_task s.tasks t x.0 y.0 x.2 y.2 in
    let op = same_op x.0.body y.0.body x.1 y.1 (ap (λ (z : Task). z.body) same) x.3 y.3 in
    x.4 ∙ ap (λ o. record d { alts = λ u. cond (eqb t u) (alts_counted o (d.alts u)) (d.alts u) }) op ∙ sym y.4

reads_once : (m : Option ℕ) (d f g : Desk) → ReadsMoment m d f → ReadsMoment m d g → f ≡ g
reads_once None d f g x y = x ∙ sym y
reads_once (Some m) d f g x y = x.2 ∙ ap (λ r. record d { readings = r }) (same_tail m m x.0 y.0 (sym x.1 ∙ y.1)) ∙ sym y.2

leaves_once : (s : State) (d : Desk) (e : EventView) (f g : Desk) → Leaves s d e f → Leaves s d e g → f ≡ g
leaves_once s d (made t p what moment) f g x y = x.3 ∙ ap (λ (z : Desk). made_one (record z { ports = p })) (reads_once moment d x.0 y.0 x.2 y.2) ∙ sym y.3
leaves_once s d (spawned t u kind result) f g x y = x.1 ∙ sym y.1
leaves_once s d (done t k b a) f g x y = x.3 ∙ ap made_one (counts_once s d t x.0 y.0 x.2 y.2) ∙ sym y.3
leaves_once s d (met t k side p v w o) f g x y = x.3 ∙ ap (λ z. joined_by (owner_of w s.waits) (made_one z)) (counts_once s d t x.0 y.0 x.2 y.2) ∙ sym y.3
leaves_once s d (parked t w bs) f g x y = x.3 ∙ ap (λ (z : Desk). left (record z { waits = w })) (counts_once s d t x.0 y.0 x.2 y.2) ∙ sym y.3
leaves_once s d (posted t w p v) f g x y = x.1 ∙ sym y.1
leaves_once s d (defaulted t v) f g x y = x.2 ∙ ap made_one (counts_once s d t x.0 y.0 x.1 y.1) ∙ sym y.2
leaves_once s d (closed t p) f g x y = x ∙ sym y
leaves_once s d (registered t name args v) f g x y = x ∙ sym y
leaves_once s d (printed t line) f g x y = x ∙ sym y
leaves_once s d (is_over t how) f g x y = x ∙ sym y
leaves_once s d (settled w k side p v) f g x y = absurd x
leaves_once s d (ticked m ports) f g x y = absurd x

-- whose turn the next event is
data Turn (s : State) (d : Desk) (e : EventView) (d2 : Desk) : Type 0 where
  settling : (w k : ℕ) (side : Side) (p : ℕ) (v : Tree) → e ≡ settled w k side p v → SettlesFirst s p → d2 ≡ joined_by (owner_of w s.waits) d → Turn s d e d2
  ticking : (m : ℕ) (ports : List ℕ) → e ≡ ticked m ports → NoneSettles s → TicksAtPick s d m d2 ⊎ TicksIdle s d m d2 → Turn s d e d2
  of_task : (t : ℕ) → is_of t e ≡ true → TaskTurn s d t e d2 → Turn s d e d2

self : (t : ℕ) → eqb t t ≡ true
self t = eq-eqb t t refl

turn : (s : State) (d : Desk) (e : EventView) (d2 : Desk) → IsNext s d e d2 → Turn s d e d2
turn s d (settled w k side p v) d2 x = settling w k side p v refl x.0 x.1
turn s d (ticked m ports) d2 x = ticking m ports refl x.0 x.1
turn s d (made t p what moment) d2 x = of_task t (self t) x
turn s d (spawned t u kind result) d2 x = of_task t (self t) x
turn s d (done t k b a) d2 x = of_task t (self t) x
turn s d (met t k side p v w o) d2 x = of_task t (self t) x
turn s d (parked t w bs) d2 x = of_task t (self t) x
turn s d (posted t w p v) d2 x = of_task t (self t) x
turn s d (defaulted t v) d2 x = of_task t (self t) x
turn s d (closed t p) d2 x = of_task t (self t) x
turn s d (registered t name args v) d2 x = of_task t (self t) x
turn s d (printed t line) d2 x = of_task t (self t) x
turn s d (is_over t how) d2 x = of_task t (self t) x

can_settle : (program : ProgramView) (s f : State) (e : EventView) (w k : ℕ) (side : Side) (p : ℕ) (v : Tree) → e ≡ settled w k side p v → Step program s e f → CanSettle s p
can_settle program s f e w k side p v is x =
    let y : Step program s (settled w k side p v) f = subst (λ z. Step program s z f) is x in
    (y.0, y.4, λ n. let j : unsettled ≡ settles side y.2 v y.1 = sym n ∙ y.5 in cc)

same_settling : (a b : Side) (h i : Handler) (v w : Tree) (c d : Channel) → settles a h v c ≡ settles b i w d → (a ≡ b) × (h ≡ i) × (v ≡ w)
same_settling a b h i v w c d e = (let k : a ≡ b = cc in k, let k : h ≡ i = cc in k, let k : v ≡ w = cc in k)

settled_once : (program : ProgramView) (s f g : State) (m n j k : ℕ) (a b : Side) (p q : ℕ) (v w : Tree) → p ≡ q → Step program s (settled m j a p v) f → Step program s (settled n k b q w) g → settled m j a p v ≡ settled n k b q w
settled_once program s f g m n j k a b p q v w pq x y =
    let c : x.0 ≡ y.0 = (let i : Some x.0 ≡ Some y.0 = sym x.4 ∙ ap s.channels pq ∙ y.4 in cc) in
    let r = same_settling a b x.2 y.2 v w x.1 y.1 (sym x.5 ∙ ap₂ (λ (c : Channel) n. settle_row c (front Take n s.waits) (front Put n s.waits)) c pq ∙ y.5) in
    let mn : m ≡ n = sym x.6 ∙ ap (λ (h : Handler). h.wait) r.1 ∙ y.6 in
    let jk : j ≡ k = sym x.7 ∙ ap (λ (h : Handler). h.branch) r.1 ∙ y.7 in
    λ i. settled (mn i) (jk i) (r.0 i) (pq i) (r.2 i)

abbrev NextOnce : EventView → EventView → Desk → Desk → Type 0
NextOnce e h i j = (e ≡ h) × (i ≡ j)

next_once : (program : ProgramView) (s f g : State) (d i j : Desk) (e h : EventView) → Step program s e f → Step program s h g → Turn s d e i → Turn s d h j → NextOnce e h i j
next_once program s f g d i j e h x y (settling w k a p v is sf id) (settling n l b q u iz sg jd) =
    let pq = one_of p q (λ lt. sg p lt (can_settle program s f e w k a p v is x)) (λ lt. sf q lt (can_settle program s g h n l b q u iz y)) in
    let same = settled_once program s f g w n k l a b p q v u pq (subst (λ z. Step program s z f) is x) (subst (λ z. Step program s z g) iz y) in
    let wn : w ≡ n = (let o = same in cc) in
    (is ∙ same ∙ sym iz, id ∙ ap (λ z. joined_by (owner_of z s.waits) d) wn ∙ sym jd)
next_once program s f g d i j e h x y (settling w k a p v is sf id) (ticking m ports iz none t) = absurd (none p (can_settle program s f e w k a p v is x))
next_once program s f g d i j e h x y (settling w k a p v is sf id) (of_task t o z) = absurd (z.1 p (can_settle program s f e w k a p v is x))
next_once program s f g d i j e h x y (ticking m ports is none t) (settling n l b q u iz sg jd) = absurd (none q (can_settle program s g h n l b q u iz y))
next_once program s f g d i j e h x y (of_task t o z) (settling n l b q u iz sg jd) = absurd (z.1 q (can_settle program s g h n l b q u iz y))
next_once program s f g d i j e h x y (ticking m ports is none t) (ticking n qs iz none2 u) =
    let r = ticks_once s d m n i j t u in
    let p : ports ≡ qs = sym (subst (λ z. Step program s z f) is x).2 ∙ ap (λ k. due k s.deadlines) r.0 ∙ (subst (λ z. Step program s z g) iz y).2 in
    (is ∙ ap₂ ticked r.0 p ∙ sym iz, r.1)
next_once program s f g d i j e h x y (ticking m ports is none t) (of_task u o z) = tick_no_turn s d m u i z.0 t z.2
next_once program s f g d i j e h x y (of_task u o z) (ticking m ports is none t) = tick_no_turn s d m u j z.0 t z.2
next_once program s f g d i j e h x y (of_task t o z) (of_task u p w) =
    let r = turn_once s d t u z.0 w.0 z.2 w.2 in
    let ot : is_of u e ≡ true = subst (λ n. is_of n e ≡ true) r.0 o in
    let lz : Leaves s w.0 e i = subst (λ k. Leaves s k e i) r.1 z.3 in
    let same = same_event program s u w.0 e h (same_class program s f g u e h x y ot p) f g i j x y ot p lz w.3 in
    (same, leaves_once s w.0 h i j (subst (λ k. Leaves s w.0 k i) same lz) w.3)

-- two runs from one state and desk: one, or the one goes on where the other stops
abbrev GoesFurther : ProgramView → State → List EventView → List EventView → Type 0
GoesFurther program s es hs = (x : EventView) × (xs : List EventView) × (m : State) × (hs ≡ es ++ x ∷ xs) × Step program s x m

compare : (program : ProgramView) (es hs : List EventView) (s f g : State) (d i j : Desk) → SoloSteps program s d es f i → SoloSteps program s d hs g j → (es ≡ hs) ⊎ (GoesFurther program f es hs ⊎ GoesFurther program g hs es)
compare program [] [] s f g d i j x y = inl refl
compare program [] (h ∷ hs) s f g d i j x y = inr (inl (h, hs, y.0, refl, subst (λ z. Step program z h y.0) (sym x.0) y.2))
compare program (e ∷ es) [] s f g d i j x y = inr (inr (e, es, x.0, refl, subst (λ z. Step program z e x.0) (sym y.0) x.2))
compare program (e ∷ es) (h ∷ hs) s f g d i j x y =
    let n = next_once program s x.0 y.0 d x.1 y.1 e h x.2 y.2 (turn s d e x.1 x.3) (turn s d h y.1 y.3) in
    let m = step_once program s x.0 y.0 h (subst (λ z. Step program s z x.0) n.0 x.2) y.2 in
    let rest : SoloSteps program y.0 y.1 es f i = subst (λ z. SoloSteps program z y.1 es f i) m (subst (λ z. SoloSteps program x.0 z es f i) n.1 x.4) in
    ⊎_elim (λ same. inl (ap₂ (λ a b. a ∷ b) n.0 same))
    (λ other. inr (⊎_elim (λ l. inl (l.0, l.1, l.2, ap₂ (λ a b. a ∷ b) (sym n.0) l.3, l.4)) (λ l. inr (l.0, l.1, l.2, ap₂ (λ a b. a ∷ b) n.0 l.3, l.4)) other))
    (compare program es hs y.0 f g y.1 i j rest y.4)

-- an end stands last
ends_last : (before : List EventView) (e x : EventView) (xs : List EventView) → is_end_of_main e ≡ true → EndsLast ((before ++ e ∷ []) ++ x ∷ xs) → ⊥
ends_last [] e x xs is g = let k : true ≡ false = sym is ∙ g.0 in cc
ends_last (b ∷ []) e x xs is g = ends_last [] e x xs is g.1
ends_last (b ∷ (c ∷ bs)) e x xs is g = ends_last (c ∷ bs) e x xs is g.1

cost_before : (es : List EventView) (x : EventView) (xs : List EventView) → cost es ≤ cost (but_last (es ++ x ∷ xs))
cost_before [] x xs = omega arith
cost_before (e ∷ []) x xs = omega arith
cost_before (e ∷ (f ∷ es)) x xs = let k = cost_before (f ∷ es) x xs in omega (arith, k)

steps_of : (program : ProgramView) (es : List EventView) (s f : State) (d i : Desk) → SoloSteps program s d es f i → Steps program s es f
steps_of program [] s f d i x = x.0
steps_of program (e ∷ es) s f d i x = (x.0, x.2, steps_of program es x.0 f x.1 i x.4)

no_further : (program : ProgramView) (budget : ℕ) (es hs : List EventView) (f : State) (a b : RunEnd) → Reaches program es f → EndsLast hs → HasEnd program budget es a → HasEnd program budget hs b → GoesFurther program f es hs → ⊥
no_further program budget es hs f ended b r g x y l = ends_last x.1.0 _ l.0 l.1 refl (subst EndsLast (l.3 ∙ ap (λ z. z ++ l.0 ∷ l.1) x.1.1) g)
no_further program budget es hs f faulted b r g x y l = ends_last x.1.3.0 _ l.0 l.1 refl (subst EndsLast (l.3 ∙ ap (λ z. z ++ l.0 ∷ l.1) x.1.3.1) g)
no_further program budget es hs f limit b r g x y l =
    let w : cost (but_last hs) < budget = within b y in
    let k : cost es ≤ cost (but_last hs) = subst (λ z. cost es ≤ cost (but_last z)) (sym l.3) (cost_before es l.0 l.1) in
    let n : budget ≤ cost es = x.2 in
    omega (arith, w, k, n) where
      within : (b : RunEnd) → HasEnd program budget hs b → cost (but_last hs) < budget
      within ended y = y.0
      within faulted y = y.0
      within limit y = y.0
      within stuck y = y.0
no_further program budget es hs f stuck b r g x y l = x.3.2 (subst (λ z. (e : EventView) × (s2 : State) × Step program z e s2) (reached_once program es f x.3.0 r x.3.1) (l.0, l.2, l.4))

pub solo_once : (program : ProgramView) (readings : List ℕ) (journal other : List EventView) (budget : ℕ) (a b : RunEnd) → Legal program journal → Legal program other → Solo program readings journal → Solo program readings other
    → HasEnd program budget journal a → HasEnd program budget other b → journal ≡ other
solo_once program readings journal other budget a b lj lo x y hj ho =
    let o = opening_once program x.opening y.opening x.opens y.opens in
    let xs : SoloSteps program y.opening (opening_desk readings) journal x.state x.desk = subst (λ z. SoloSteps program z (opening_desk readings) journal x.state x.desk) o x.steps in
    let rx : Reaches program journal x.state = record { opening = y.opening; opens = y.opens; steps = steps_of program journal y.opening x.state (opening_desk readings) x.desk xs } in
    let ry : Reaches program other y.state = record { opening = y.opening; opens = y.opens; steps = steps_of program other y.opening y.state (opening_desk readings) y.desk y.steps } in
    ⊎_elim (λ same. same)
    (λ further. absurd (⊎_elim (no_further program budget journal other x.state a b rx lo.goes_on hj ho) (no_further program budget other journal y.state b a ry lj.goes_on ho hj) further))
    (compare program journal other y.opening x.state y.state (opening_desk readings) x.desk y.desk xs y.steps)
