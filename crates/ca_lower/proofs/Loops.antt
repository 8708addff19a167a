-- Sequences and loops go as the term does; and so does every term.
use Rattle.std.proofs.Common.{◌≡◌, ℕ, zero, suc, ◌+◌, ◌≤◌, List, [], ◌∷◌, ◌++◌, length, None, Some, Option, Bool, true, false, refl, sym, ap, ◌∙◌, subst, arith, cond, append_assoc, append-nil, lt-ltb, le-ltb}
use Rattle.std.specs.Prelude.{nat_lt, nat_le}
use Rattle.ca_value.specs.Tree.{Tree, nil}
use Rattle.ca_term.specs.declared.place.Place.{Place}
use Rattle.ca_term.specs.declared.fault.Fault.TheVariants.{Spun}
use Rattle.ca_term.specs.declared.head.Head.TheVariants.{Recur}
use Rattle.ca_term.specs.Kernel.{Kernel, Kernels, Bindings, Founds, const, var, branch, bind, loop, seq, frame, turn, apply, none, item, empty, binding, put_bindings, puts}
use Rattle.ca_term.specs.Fits.{count_bindings}
use Rattle.ca_term.specs.Program.{ProgramView}
use Rattle.ca_meaning.specs.Body.{local, faulted, turns_after}
use Rattle.ca_meaning.specs.Rest.{LocalSteps, here}
use Rattle.ca_meaning.specs.Started.{named, names_found}
use Rattle.ca_states.specs.declared.code.Exit.TheVariants.{Jump}
use Rattle.ca_states.specs.Code.{moving, CodeView}
use Rattle.ca_states.specs.Machine.{Frame, goes, faults, read, reads, slots_from, turned}
use Rattle.ca_lower.specs.Implements.{CodePosition, position, start_of, before, Scope, in_slots, names_bound, Target, Implements, ImplementsInOrder, ImplementsBindings}
use Rattle.ca_lower.specs.Lowered.{After, AreAlike}
use Rattle.ca_lower.proofs.Puts.{puts_items, puts_bindings, puts-const, puts-loop, puts-seq, puts_items-none, puts_items-item, puts_bindings-empty, puts_bindings-binding, puts-append, puts_bindings-append, consts, all-consts, operands-consts}
use Rattle.ca_meaning.proofs.Contexts.{Context, inside, in_loop, in_seq, in_turn}
use Rattle.ca_lower.proofs.Slots.{Same, same_trans, Holds, holds_same, holds_append, holds_one, holds_range, founds_at, founds_named, length-bound}
use Rattle.ca_lower.proofs.Alike.{body, state, AlikeAt, alike_back, fire, stands}
use Rattle.ca_lower.proofs.Goes.{Under, Calls, Then, Again, Gen, GenBindings, calls_less, again_from, at_back, moved_down, gen_const, gen_var, bindings_empty, bindings_more, gen_bind, gen_branch}
use Rattle.ca_lower.proofs.Leaves.{turn_redex, turn_replace}
use Rattle.ca_lower.proofs.Heads.{GenEach, gen_apply}

names_at : (s : List Tree) (xs : List ℕ) (a : ℕ) → names_found (founds_at s xs a) ≡ xs
names_at s [] a = refl
names_at s (x ∷ xs) a = ap (λ l. x ∷ l) (names_at s xs (suc a))

module _ (P : ProgramView) (C : CodeView) where
  -- IN ORDER
  abbrev pub GenInOrder : Kernels → Type 0
  GenInOrder ts =
      (n : ℕ) (lp : Option Target) (names : Scope) (fs : Founds) (h : ℕ) (p q : CodePosition) (s : List Tree) (K : List Frame) (E : Kernel → Kernel) (turns : ℕ)
      → Calls P C n → ImplementsInOrder C lp names h ts p q → Holds names fs s h → Under lp h → Context E → Again P C n lp s K E → Then P C n q h s K E
      → AlikeAt P C n p s K turns (E (seq (puts_items fs ts)))

  order_none : GenInOrder none
  order_none n lp names fs h p q s K E turns calls im holds under ctx again cont =
      let g : AlikeAt P C n p s K turns (E (const nil)) = subst (λ t. AlikeAt P C n p s K turns (E t)) (puts-const fs nil) (gen_const P C nil n lp names fs h p q s K E turns calls im holds under ctx again cont) in
      let g2 = at_back P C n p s K turns (E (seq none)) (E (const nil)) (fire P E (seq none) (const nil) turns (length K) ctx refl refl refl refl refl refl refl) g in
      subst (λ us. AlikeAt P C n p s K turns (E (seq us))) (sym (puts_items-none fs)) g2

  order_one : (t : Kernel) → Gen P C t → GenInOrder (item t none)
  order_one t gt n lp names fs h p q s K E turns calls im holds under ctx again cont =
      let t' = puts fs t in
      let g = at_back P C n p s K turns (E (seq (item t' none))) (E t') (fire P E (seq (item t' none)) t' turns (length K) ctx refl refl refl refl refl refl refl) (gt n lp names fs h p q s K E turns calls im holds under ctx again cont) in
      let e : puts_items fs (item t none) ≡ item t' none = puts_items-item fs t none ∙ ap (item t') (puts_items-none fs) in
      subst (λ us. AlikeAt P C n p s K turns (E (seq us))) (sym e) g

  order_more : (t u : Kernel) (us : Kernels) → Gen P C t → GenInOrder (item u us) → GenInOrder (item t (item u us))
  order_more t u us gt gus n lp names fs h p q s K E turns calls (r, it, its) holds under ctx again cont =
      let u' = puts fs u in
      let us' = puts_items fs us in
      let e2 = puts_items-item fs u us in
      let g : AlikeAt P C n p s K turns (E (seq (item (puts fs t) (item u' us')))) =
      gt n None names fs h p r s K (λ z. E (seq (item z (item u' us')))) turns calls it holds tt (inside E (λ z. seq (item z (item u' us'))) ctx (in_seq u' us')) tt
      (λ m le s1 turns1 same1.
      let v = read s1 h in
      let tail = gus m lp names fs h r q s1 K E turns1 (calls_less P C m n le calls) its (holds_same names fs s s1 h h (omega arith) same1 holds) under ctx (again_from P C m n lp h s s1 K E le under same1 again)
      (λ k le2 s2 turns2 same2. cont k (omega (arith, le, le2)) s2 turns2 (same_trans h h s s1 s2 (omega arith) same1 same2)) in
      at_back P C m r s1 K turns1 (E (seq (item (const v) (item u' us')))) (E (seq (item u' us'))) (fire P E (seq (item (const v) (item u' us'))) (seq (item u' us')) turns1 (length K) ctx refl refl refl refl refl refl refl)
      (subst (λ z. AlikeAt P C m r s1 K turns1 (E (seq z))) e2 tail)) in
      subst (λ z. AlikeAt P C n p s K turns (E (seq z))) (sym (puts_items-item fs t (item u us) ∙ ap (item (puts fs t)) e2)) g

  gen_seq : (ts : Kernels) → GenInOrder ts → Gen P C (seq ts)
  gen_seq ts g n lp names fs h p q s K E turns calls im holds under ctx again cont =
      subst (λ t. AlikeAt P C n p s K turns (E t)) (sym (puts-seq fs ts)) (g n lp names fs h p q s K E turns calls im holds under ctx again cont)

  -- LOOPS
  -- a loop's first values, in order
  abbrev pub GenFirst : Bindings → Type 0
  GenFirst bs =
      (n : ℕ) (names : Scope) (fs : Founds) (h : ℕ) (gs : Founds) (p q : CodePosition) (s : List Tree) (K : List Frame) (E : Kernel → Kernel) (inner : Kernel) (turns : ℕ)
      → Calls P C n → ImplementsBindings C names h bs p q → Holds names fs s h → Context E
      → ((m : ℕ) → m ≤ n → (s' : List Tree) (turns' : ℕ) → Same h s s' → AlikeAt P C m q s' K turns' (E (loop (gs ++ founds_at s' (names_bound bs) h) empty inner)))
      → AlikeAt P C n p s K turns (E (loop gs (puts_bindings fs bs) inner))

  first_empty : GenFirst empty
  first_empty n names fs h gs p q s K E inner turns calls im holds ctx cont =
      let g = cont n (omega arith) s turns (λ k lt. refl) in
      let g2 : AlikeAt P C n q s K turns (E (loop gs empty inner)) = subst (λ l. AlikeAt P C n q s K turns (E (loop l empty inner))) (append-nil gs) g in
      let g4 : AlikeAt P C n p s K turns (E (loop gs empty inner)) = subst (λ z. AlikeAt P C n z s K turns (E (loop gs empty inner))) (sym im) g2 in
      subst (λ bs. AlikeAt P C n p s K turns (E (loop gs bs inner))) (sym (puts_bindings-empty fs)) g4

  first_more : (x : ℕ) (t : Kernel) (bs : Bindings) → Gen P C t → GenFirst bs → GenFirst (binding x t bs)
  first_more x t bs gt gbs n names fs h gs p q s K E inner turns calls (r, it, its) holds ctx cont =
      let bs' = puts_bindings fs bs in
      let names2 = names ++ (x, h) ∷ [] in
      let g : AlikeAt P C n p s K turns (E (loop gs (binding x (puts fs t) bs') inner)) =
      gt n None names fs h p r s K (λ u. E (loop gs (binding x u bs') inner)) turns calls it holds tt (inside E (λ u. loop gs (binding x u bs') inner) ctx (in_loop gs x bs' inner)) tt
      (λ m le s1 turns1 same1.
      let v = read s1 h in
      let fs2 = fs ++ (x, v) ∷ [] in
      let gs2 = gs ++ (x, v) ∷ [] in
      let tail : AlikeAt P C m r s1 K turns1 (E (loop gs2 (puts_bindings fs2 bs) inner)) =
      gbs m names2 fs2 (suc h) gs2 r q s1 K E inner turns1 (calls_less P C m n le calls) its (holds_one x names fs s s1 h same1 holds) ctx
      (λ k le2 s2 turns2 same2.
      let e : gs ++ founds_at s2 (names_bound (binding x t bs)) h ≡ gs2 ++ founds_at s2 (names_bound bs) (suc h) =
      ap (λ u. gs ++ (x, u) ∷ founds_at s2 (names_bound bs) (suc h)) (same2 h (omega arith)) ∙ sym (append_assoc gs ((x, v) ∷ []) (founds_at s2 (names_bound bs) (suc h))) in
      subst (λ l. AlikeAt P C k q s2 K turns2 (E (loop l empty inner))) e (cont k (omega (arith, le, le2)) s2 turns2 (same_trans h (suc h) s s1 s2 (omega arith) same1 same2))) in
      let u = loop gs2 (put_bindings x v bs') inner in
      at_back P C m r s1 K turns1 (E (loop gs (binding x (const v) bs') inner)) (E u)
      (fire P E (loop gs (binding x (const v) bs') inner) u turns1 (length K) ctx refl refl refl refl refl refl refl)
      (subst (λ l. AlikeAt P C m r s1 K turns1 (E (loop gs2 l inner))) (puts_bindings-append fs ((x, v) ∷ []) bs) tail)) in
      subst (λ l. AlikeAt P C n p s K turns (E (loop gs l inner))) (sym (puts_bindings-binding fs x t bs)) g

  -- a jump back
  turned_back : (n head : ℕ) (pl : Place) (ns : List ℕ) (text : Kernel) (ws s : List Tree) (K : List Frame) (E : Kernel → Kernel) (turns : ℕ) (a : Bool) → nat_le 999_999 turns ≡ a → Context E
      → AreAlike P C n (state head s K (suc turns)) (body (E (turn ns text (puts (named ns ws) text))) (suc turns) (length K))
      → After P (AreAlike P C n) (cond a (faults Spun pl turns) (goes (state head s K (suc turns)))) (body (E (turn ns text (apply Recur (consts ws) pl))) turns (length K))
  turned_back n to pl ns text ws s K E turns false ea ctx g =
      let r = turn ns text (apply Recur (consts ws) pl) in
      let u = turn ns text (puts (named ns ws) text) in
      let t : turns_after r turns ≡ suc turns = ap (λ o. cond o (suc turns) turns) (all-consts ws) in
      alike_back P C n (state to s K (suc turns)) (body (E r) turns (length K)) (body (E u) (suc turns) (length K))
      (subst (λ k. LocalSteps P (body (E r) turns (length K)) (body (E u) k (length K))) t
      (fire P E r u turns (length K) ctx refl refl (turn_redex ns text ws pl) (ap (λ l. turn ns text (puts (named ns l) text)) (operands-consts ws)) (turn_replace u ns text ws pl) refl (ap (λ o. cond o (faulted Spun pl) local) ea))) g
  turned_back n to pl ns text ws s K E turns true ea ctx g =
      let r = turn ns text (apply Recur (consts ws) pl) in
      (body (E r) turns (length K), here, stands P E r turns (length K) ctx refl refl (turn_redex ns text ws pl) ∙ ap (λ o. cond o (faulted Spun pl) local) ea, refl)

  -- the head of a loop, at any turn
  loop_head : (fuel : ℕ) (bs : Bindings) (to h : ℕ) (inner : Kernel) → Gen P C inner → (names : Scope) (fs : Founds) (q : CodePosition) (s : List Tree) (K : List Frame) (E : Kernel → Kernel) → Holds names fs s h → Context E
      → Implements C (Some (record { first = h; count = count_bindings bs; head = to })) (names ++ in_slots (names_bound bs) h) (h + count_bindings bs) inner (start_of C to) (before (moving h (h + count_bindings bs)) q)
      → (n : ℕ) → n ≤ fuel → Calls P C n → Then P C n q h s K E → (s' : List Tree) (turns : ℕ) → Same h s s'
      → AreAlike P C n (state to s' K turns) (body (E (turn (names_bound bs) (puts fs inner) (puts (founds_at s' (names_bound bs) h) (puts fs inner)))) turns (length K))
  loop_head fuel bs to h inner gb names fs q s K E holds ctx im zero le calls cont s' turns same = tt
  loop_head zero bs to h inner gb names fs q s K E holds ctx im (suc n) le calls cont s' turns same = absurd (omega (arith, le))
  loop_head (suc fuel) bs to h inner gb names fs q s K E holds ctx im (suc n) le calls cont s' turns same =
      let ns = names_bound bs in
      let c = count_bindings bs in
      let len : length ns ≡ c = length-bound bs in
      let text = puts fs inner in
      let gs = founds_at s' ns h in
      let less : n ≤ suc n = omega arith in
      let lp : Target = record { first = h; count = c; head = to } in
      let holds' : Holds (names ++ in_slots ns h) (fs ++ gs) s' (h + c) =
      holds_append names fs (in_slots ns h) gs s' (h + c) (holds_same names fs s s' h (h + c) (omega arith) same holds) (holds_range ns h (h + c) s' (omega (arith, len))) in
      let g : AlikeAt P C n (start_of C to) s' K turns (E (turn ns text (puts (fs ++ gs) inner))) =
      gb n (Some lp) (names ++ in_slots ns h) (fs ++ gs) (h + c) (start_of C to) (before (moving h (h + c)) q) s' K (λ t. E (turn ns text t)) turns (calls_less P C n (suc n) less calls) im holds' (omega arith)
      (inside E (λ t. turn ns text t) ctx (in_turn ns text))
      (λ m le2 s2 turns2 b pl same2 back.
      let no : nat_lt b to ≡ false = le-ltb b to back in
      let same3 = same_trans h h s s' s2 (omega arith) same same2 in
      let ws = reads s2 (slots_from h c) in
      let there = loop_head fuel bs to h inner gb names fs q s K E holds ctx im m (omega (arith, le, le2)) (calls_less P C m (suc n) (omega (arith, le2)) calls) (λ k le3. cont k (omega (arith, le2, le3))) s2 (suc turns2) same3 in
      let e : founds_at s2 ns h ≡ named ns ws = founds_named s2 ns h ∙ ap (λ k. named ns (reads s2 (slots_from h k))) len in
      let there2 : AreAlike P C m (state to s2 K (suc turns2)) (body (E (turn ns text (puts (named ns ws) text))) (suc turns2) (length K)) =
      subst (λ l. AreAlike P C m (state to s2 K (suc turns2)) (body (E (turn ns text (puts l text))) (suc turns2) (length K))) e there in
      subst (λ o. After P (AreAlike P C m) (cond o (goes (state to s2 K turns2)) (turned turns2 pl (goes (state to s2 K (suc turns2))))) (body (E (turn ns text (apply Recur (consts ws) pl))) turns2 (length K))) (sym no)
      (turned_back m to pl ns text ws s2 K E turns2 (nat_le 999_999 turns2) refl ctx there2))
      (λ m le2 s2 turns2 same2.
      let v = read s2 (h + c) in
      at_back P C m (before (moving h (h + c)) q) s2 K turns2 (E (turn ns text (const v))) (E (const v)) (fire P E (turn ns text (const v)) (const v) turns2 (length K) ctx refl refl refl refl refl refl refl)
      (moved_down P C m q h (h + c) s s2 K E turns2 (omega arith) (same_trans h (h + c) s s' s2 (omega arith) same same2) (λ k le3. cont k (omega (arith, le2, le3))))) in
      subst (λ t. AlikeAt P C n (start_of C to) s' K turns (E (turn ns text t))) (puts-append fs gs inner) g

  gen_loop : (fs0 : Founds) (bs : Bindings) (inner : Kernel) → GenFirst bs → Gen P C inner → Gen P C (loop fs0 bs inner)
  gen_loop fs0 bs inner gbs gb n lp names fs h p q s K E turns calls (b, to, pl, e0, its, lt, ib) holds under ctx again cont =
      let text = puts fs inner in
      let ns = names_bound bs in
      let there = position b [] (Jump to pl) in
      let g : AlikeAt P C n p s K turns (E (loop [] (puts_bindings fs bs) text)) =
      gbs n names fs h [] p there s K E text turns calls its holds ctx
      (λ m le s1 turns1 same1.
      let gs = founds_at s1 ns h in
      let r = loop gs empty text in
      let u = turn (names_found gs) text (puts gs text) in
      let e : nat_lt b to ≡ true = lt-ltb b to lt in
      subst (λ o. After P (AreAlike P C m) (cond o (goes (state to s1 K turns1)) (turned turns1 pl (goes (state to s1 K (suc turns1))))) (body (E r) turns1 (length K))) (sym e)
      (alike_back P C m (state to s1 K turns1) (body (E r) turns1 (length K)) (body (E u) turns1 (length K))
      (fire P E r u turns1 (length K) ctx refl refl refl refl refl refl refl)
      (subst (λ l. AreAlike P C m (state to s1 K turns1) (body (E (turn l text (puts gs text))) turns1 (length K))) (sym (names_at s1 ns h))
      (loop_head m bs to h inner gb names fs q s K E holds ctx ib m (omega arith) (calls_less P C m n le calls) (λ k le2. cont k (omega (arith, le, le2))) s1 turns1 same1)))) in
      subst (λ t. AlikeAt P C n p s K turns (E t)) (sym (puts-loop fs fs0 bs inner ∙ ap (λ l. loop l (puts_bindings fs bs) text) e0)) g

  mutual
    pub gen : (t : Kernel) → Gen P C t
    gen (const v) = gen_const P C v
    gen (var x) = gen_var P C x
    gen (branch c a b) = gen_branch P C c a b (gen c) (gen a) (gen b)
    gen (bind bs inner) = gen_bind P C bs inner (gen_bindings bs) (gen inner)
    gen (loop fs bs inner) = gen_loop fs bs inner (gen_first bs) (gen inner)
    gen (seq ts) = gen_seq ts (gen_order ts)
    gen (frame inner) = λ n lp names fs h p q s K E turns calls im holds under ctx again cont. absurd im
    gen (turn ns text now) = λ n lp names fs h p q s K E turns calls im holds under ctx again cont. absurd im
    gen (apply f ts pl) = gen_apply P C f ts pl (gen_each ts)

    pub gen_each : (ts : Kernels) → GenEach P C ts
    gen_each none = tt
    gen_each (item t ts) = (gen t, gen_each ts)

    pub gen_bindings : (bs : Bindings) → GenBindings P C bs
    gen_bindings empty = bindings_empty P C
    gen_bindings (binding x t bs) = bindings_more P C x t bs (gen t) (gen_bindings bs)

    pub gen_first : (bs : Bindings) → GenFirst bs
    gen_first empty = first_empty
    gen_first (binding x t bs) = first_more x t bs (gen t) (gen_first bs)

    pub gen_order : (ts : Kernels) → GenInOrder ts
    gen_order none = order_none
    gen_order (item t none) = order_one t (gen t)
    gen_order (item t (item u us)) = order_more t u us (gen t) (gen_order (item u us))
