-- An event is read again from its line.
use Rattle.std.proofs.Common.{◌≡◌, ℕ, List, [], ◌∷◌, ◌++◌, length, refl, sym, ap, ◌∙◌, arith, Option, Some, None, Bool, cond, nat_lt, lt-ltb, append_assoc, option_map}
use Rattle.std.specs.Fmt.{decimal}
use Rattle.ca_value.specs.Tree.{Tree, Trees, none, item, trees_of, items_of}
use Rattle.ca_value.specs.Printed.{readable_text, readable_items, quoted}
use Rattle.ca_value.specs.IsValue.{written, IsValue, AreValues}
use Rattle.ca_value.specs.declared.value.PortId.{PortId}
use Rattle.ca_term.specs.declared.event.Ending.TheVariants.{Ended, Faulted}
use Rattle.ca_term.specs.Event.{EventView, BranchView, take_of, put_of, made, spawned, done, met, parked, posted, settled, defaulted, closed, registered, printed, ticked, over, port_number}
use Rattle.ca_meaning.specs.Sound.{Each}
use Rattle.ca_meaning.specs.Texts.{◌⋅◌, fault_text, place_text}
use Rattle.ca_meaning.specs.Journal.{event_text, event_line, what_text, side_text, kind_text, name_text, task_text, port_text, wait_text, maybe_port_text, branch_text, branches_text, done_text}
use Rattle.ca_meaning.specs.Shown.{IsNumber, BranchShown, MaybeNumber, MaybePort}
use Rattle.ca_journal_reader.specs.Found.{then}
use Rattle.ca_journal_reader.specs.Words.{byte_in, decimal_in, numbered_in}
use Rattle.ca_journal_reader.specs.ValueText.{text_from, value_field}
use Rattle.ca_journal_reader.specs.FieldText.{word_named, side_named, kind_named, name_named, fault_named, maybe_port_in, place_in, what_in, branch_in, branches_read, ports_read, values_read, arguments_parted}
use Rattle.ca_journal_reader.specs.EventText.{next_read, port_read, event_in, entry_in}
use Rattle.ca_journal_reader.specs.Input.{and_last, branch_values, branches_values, IsTold}
use Rattle.ca_journal_reader.proofs.TextBack.{quoted_back}
use Rattle.ca_journal_reader.proofs.ValueBack.{then_is}
use Rattle.ca_journal_reader.proofs.FieldBack.{cut_decimal, end_decimal, cut_numbered, end_numbered, cut_value, end_value, cut_side, cut_kind, cut_name, cut_fault, end_maybe, cut_place, what_back, BranchGood, cut_branch, branches_back, tick_back, ports_back, values_back, parted_back}

onward : {A B : Type 0} (o : Option A) (f : A → Option B) (x : A) (y : Option B) → o ≡ Some x → f x ≡ y → next_read o f ≡ y
onward {A} {B} o f x y e g = ap (λ (z : Option A). next_read {B = B} z f) e ∙ g

done_is : (b : BranchView) (a : Tree) → done_text b a ≡ branch_text b ⋅ readable_text a
done_is (take_of p) a = refl
done_is (put_of p v) a = refl

branch_good : (b : BranchView) (ts : Trees) → BranchShown b → AreValues written (branch_values b ts) → BranchGood b × AreValues written ts
branch_good (take_of p) ts h v = (h, v)
branch_good (put_of p w) ts h v = ((h.0, v.0, h.1), v.1)

branches_good : (bs : List BranchView) → Each BranchShown bs → AreValues written (branches_values bs) → Each BranchGood bs
branches_good [] h v = tt
branches_good (b ∷ bs) h v = let k = branch_good b (branches_values bs) h.0 v in (k.0, branches_good bs h.1 k.1)

last_value : (ts : Trees) (v : Tree) → AreValues written (and_last ts v) → IsValue written v
last_value none v h = h.0
last_value (item t ts) v h = last_value ts v h.1

result_back : (o : Option PortId) → port_read (option_map port_number o) ≡ o
result_back None = refl
result_back (Some p) = refl

result_number : (o : Option PortId) → MaybePort o → MaybeNumber (option_map port_number o)
result_number None h = tt
result_number (Some p) h = h

trees_items : (ts : Trees) → trees_of (items_of ts) ≡ ts
trees_items none = refl
trees_items (item t ts) = ap (λ us. item t us) (trees_items ts)

pub event_back : (e : EventView) (r : List ℕ) → IsTold e → event_in (event_text e ++ (10 ∷ r)) ≡ Some e
event_back (made t p w m) r h =
    let s = h.shown in
    then_is _ (λ t z. then (numbered_in 112 z) (λ p z. then (what_in z) (λ w z. Some (made t p w.0 w.1)))) _ _ _ (cut_numbered 116 t (port_text p ⋅ what_text w m) (10 ∷ r) s.0)
    (then_is _ (λ p z. then (what_in z) (λ w z. Some (made t p w.0 w.1))) _ _ _ (cut_numbered 112 p (what_text w m) (10 ∷ r) s.1)
    (then_is _ (λ w z. Some (made t p w.0 w.1)) _ _ _ (what_back w m r s.2)
    (refl)))
event_back (spawned t u kind o) r h =
    let s = h.shown in
    then_is _ (λ t z. then (numbered_in 116 z) (λ u z. then (word_named kind_named z) (λ kind z. then (maybe_port_in z) (λ o z. Some (spawned t u kind o))))) _ _ _ (cut_numbered 116 t (task_text u ⋅ kind_text kind ⋅ maybe_port_text o) (10 ∷ r) s.0)
    (then_is _ (λ u z. then (word_named kind_named z) (λ kind z. then (maybe_port_in z) (λ o z. Some (spawned t u kind o)))) _ _ _ (cut_numbered 116 u (kind_text kind ⋅ maybe_port_text o) (10 ∷ r) s.1)
    (then_is _ (λ kind z. then (maybe_port_in z) (λ o z. Some (spawned t u kind o))) _ _ _ (cut_kind kind (maybe_port_text o) (10 ∷ r))
    (then_is _ (λ o z. Some (spawned t u kind o)) _ _ _ (end_maybe o r s.2)
    (refl))))
event_back (done t k b a) r h =
    let s = h.shown in
    let g = branch_good b (item a none) s.2 h.values in
    then_is _ (λ t z. then (decimal_in z) (λ k z. then (branch_in z) (λ b z. then (value_field z) (λ a z. Some (done t k b a))))) _ _ _ (cut_numbered 116 t (decimal k ⋅ done_text b a) (10 ∷ r) s.0)
    (then_is _ (λ k z. then (branch_in z) (λ b z. then (value_field z) (λ a z. Some (done t k b a)))) _ _ _ (cut_decimal k (done_text b a) (10 ∷ r) s.1)
    (then_is _ (λ b z. then (value_field z) (λ a z. Some (done t k b a))) _ _ _ (ap (λ z. branch_in (z ++ (10 ∷ r))) (done_is b a) ∙ cut_branch b (readable_text a) (10 ∷ r) g.0)
    (then_is _ (λ a z. Some (done t k b a)) _ _ _ (end_value a r g.1.0 s.3)
    (refl))))
event_back (met t k side p v w o) r h =
    let s = h.shown in
    then_is _ (λ t z. then (decimal_in z) (λ k z. then (word_named side_named z) (λ side z. then (numbered_in 112 z) (λ p z. then (value_field z) (λ v z. then (numbered_in 119 z) (λ w z. then (decimal_in z) (λ o z. Some (met t k side p v w o)))))))) _ _ _ (cut_numbered 116 t (decimal k ⋅ side_text side ⋅ port_text p ⋅ readable_text v ⋅ wait_text w ⋅ decimal o) (10 ∷ r) s.0)
    (then_is _ (λ k z. then (word_named side_named z) (λ side z. then (numbered_in 112 z) (λ p z. then (value_field z) (λ v z. then (numbered_in 119 z) (λ w z. then (decimal_in z) (λ o z. Some (met t k side p v w o))))))) _ _ _ (cut_decimal k (side_text side ⋅ port_text p ⋅ readable_text v ⋅ wait_text w ⋅ decimal o) (10 ∷ r) s.1)
    (then_is _ (λ side z. then (numbered_in 112 z) (λ p z. then (value_field z) (λ v z. then (numbered_in 119 z) (λ w z. then (decimal_in z) (λ o z. Some (met t k side p v w o)))))) _ _ _ (cut_side side (port_text p ⋅ readable_text v ⋅ wait_text w ⋅ decimal o) (10 ∷ r))
    (then_is _ (λ p z. then (value_field z) (λ v z. then (numbered_in 119 z) (λ w z. then (decimal_in z) (λ o z. Some (met t k side p v w o))))) _ _ _ (cut_numbered 112 p (readable_text v ⋅ wait_text w ⋅ decimal o) (10 ∷ r) s.2)
    (then_is _ (λ v z. then (numbered_in 119 z) (λ w z. then (decimal_in z) (λ o z. Some (met t k side p v w o)))) _ _ _ (cut_value v (wait_text w ⋅ decimal o) (10 ∷ r) h.values.0 s.3)
    (then_is _ (λ w z. then (decimal_in z) (λ o z. Some (met t k side p v w o))) _ _ _ (cut_numbered 119 w (decimal o) (10 ∷ r) s.4)
    (then_is _ (λ o z. Some (met t k side p v w o)) _ _ _ (end_decimal o r s.5)
    (refl)))))))
event_back (parked t w bs) r h =
    let s = h.shown in
    then_is _ (λ t z. then (numbered_in 119 z) (λ w z. next_read (branches_read z) (λ bs. Some (parked t w bs)))) _ _ _ (cut_numbered 116 t (wait_text w ⋅ branches_text bs) (10 ∷ r) s.0)
    (then_is _ (λ w z. next_read (branches_read z) (λ bs. Some (parked t w bs))) _ _ _ (cut_numbered 119 w (branches_text bs) (10 ∷ r) s.1)
    (onward _ (λ bs. Some (parked t w bs)) _ _ (branches_back bs r (branches_good bs s.2 h.values)) refl))
event_back (posted t w p v) r h =
    let s = h.shown in
    then_is _ (λ t z. then (numbered_in 119 z) (λ w z. then (numbered_in 112 z) (λ p z. then (value_field z) (λ v z. Some (posted t w p v))))) _ _ _ (cut_numbered 116 t (wait_text w ⋅ port_text p ⋅ readable_text v) (10 ∷ r) s.0)
    (then_is _ (λ w z. then (numbered_in 112 z) (λ p z. then (value_field z) (λ v z. Some (posted t w p v)))) _ _ _ (cut_numbered 119 w (port_text p ⋅ readable_text v) (10 ∷ r) s.1)
    (then_is _ (λ p z. then (value_field z) (λ v z. Some (posted t w p v))) _ _ _ (cut_numbered 112 p (readable_text v) (10 ∷ r) s.2)
    (then_is _ (λ v z. Some (posted t w p v)) _ _ _ (end_value v r h.values.0 s.3)
    (refl))))
event_back (settled w k side p v) r h =
    let s = h.shown in
    then_is _ (λ w z. then (decimal_in z) (λ k z. then (word_named side_named z) (λ side z. then (numbered_in 112 z) (λ p z. then (value_field z) (λ v z. Some (settled w k side p v)))))) _ _ _ (cut_numbered 119 w (decimal k ⋅ side_text side ⋅ port_text p ⋅ readable_text v) (10 ∷ r) s.0)
    (then_is _ (λ k z. then (word_named side_named z) (λ side z. then (numbered_in 112 z) (λ p z. then (value_field z) (λ v z. Some (settled w k side p v))))) _ _ _ (cut_decimal k (side_text side ⋅ port_text p ⋅ readable_text v) (10 ∷ r) s.1)
    (then_is _ (λ side z. then (numbered_in 112 z) (λ p z. then (value_field z) (λ v z. Some (settled w k side p v)))) _ _ _ (cut_side side (port_text p ⋅ readable_text v) (10 ∷ r))
    (then_is _ (λ p z. then (value_field z) (λ v z. Some (settled w k side p v))) _ _ _ (cut_numbered 112 p (readable_text v) (10 ∷ r) s.2)
    (then_is _ (λ v z. Some (settled w k side p v)) _ _ _ (end_value v r h.values.0 s.3)
    (refl)))))
event_back (defaulted t v) r h =
    let s = h.shown in
    then_is _ (λ t z. then (value_field z) (λ v z. Some (defaulted t v))) _ _ _ (cut_numbered 116 t (readable_text v) (10 ∷ r) s.0)
    (then_is _ (λ v z. Some (defaulted t v)) _ _ _ (end_value v r h.values.0 s.1)
    (refl))
event_back (closed t p) r h =
    let s = h.shown in
    then_is _ (λ t z. then (numbered_in 112 z) (λ p z. Some (closed t p))) _ _ _ (cut_numbered 116 t (port_text p) (10 ∷ r) s.0)
    (then_is _ (λ p z. Some (closed t p)) _ _ _ (end_numbered 112 p r s.1)
    (refl))
event_back (registered t name none v) r h = absurd h.shown.1
event_back (registered t name (item a args) v) r h =
    let s = h.shown in
    then_is _ (λ t z. then (word_named name_named z) (λ name z. next_read (values_read z) (λ ts. next_read (arguments_parted ts) (λ p. Some (registered t name (trees_of p.0) p.1))))) _ _ _ (cut_numbered 116 t (name_text name ⋅ readable_items (item a args) ⋅ readable_text v) (10 ∷ r) s.0)
    (then_is _ (λ name z. next_read (values_read z) (λ ts. next_read (arguments_parted ts) (λ p. Some (registered t name (trees_of p.0) p.1)))) _ _ _ (cut_name name (readable_items (item a args) ⋅ readable_text v) (10 ∷ r))
    (onward _ (λ ts. next_read (arguments_parted ts) (λ p. Some (registered t name (trees_of p.0) p.1))) _ _ (values_back a args v r h.values s.1 s.2)
    (onward _ (λ p. Some (registered t name (trees_of p.0) p.1)) _ _ (parted_back a args v) (ap (λ (ts : Trees). Some (registered t name (item a ts) v)) (trees_items args)))))
event_back (printed t line) r h =
    let k = h.values.0.light in
    then_is _ (λ t z. then (byte_in 34 z) (λ x z. then (text_from [] z) (λ line z. cond (nat_lt (length line) 131072) (Some (printed t line)) None))) _ _ _ (cut_numbered 116 t (quoted line) (10 ∷ r) h.shown)
    (then_is _ (λ line z. cond (nat_lt (length line) 131072) (Some (printed t line)) None) _ _ _ (quoted_back line (10 ∷ r)) (ap (λ (b : Bool). cond b (Some (printed t line)) None) (lt-ltb (length line) 131072 (omega (arith, k)))))
event_back (ticked m ps) r h =
    let s = h.shown in
    then_is _ (λ m z. next_read (ports_read z) (λ ports. Some (ticked m ports))) _ _ _ (tick_back m ps r s.0) (onward _ (λ ports. Some (ticked m ports)) _ _ (ports_back ps r s.1) refl)
event_back (over t Ended) r h = then_is _ (λ t z. Some (over t Ended)) _ _ _ (end_numbered 116 t r h.shown) refl
event_back (over t (Faulted fault place o)) r h =
    let s = h.shown in
    then_is _ (λ t z. then (word_named fault_named z) (λ fault z. then (place_in z) (λ place z. then (maybe_port_in z) (λ o z. Some (over t (Faulted fault place (port_read o))))))) _ _ _ (cut_numbered 116 t (fault_text fault ⋅ place_text place ⋅ maybe_port_text (option_map port_number o)) (10 ∷ r) s.0)
    (then_is _ (λ fault z. then (place_in z) (λ place z. then (maybe_port_in z) (λ o z. Some (over t (Faulted fault place (port_read o)))))) _ _ _ (cut_fault fault (place_text place ⋅ maybe_port_text (option_map port_number o)) (10 ∷ r))
    (then_is _ (λ place z. then (maybe_port_in z) (λ o z. Some (over t (Faulted fault place (port_read o))))) _ _ _ (cut_place place (maybe_port_text (option_map port_number o)) (10 ∷ r) s.1 s.2)
    (then_is _ (λ o z. Some (over t (Faulted fault place (port_read o)))) _ _ _ (end_maybe (option_map port_number o) r (result_number o s.3))
    (ap (λ (p : Option PortId). Some (over t (Faulted fault place p))) (result_back o)))))

-- a line, and what follows it
pub line_text : (k : ℕ) (e : EventView) (r : List ℕ) → event_line k e ++ r ≡ decimal k ++ (32 ∷ (event_text e ++ (10 ∷ r)))
line_text k e r = append_assoc (decimal k ⋅ event_text e) (10 ∷ []) r ∙ append_assoc (decimal k) (32 ∷ event_text e) (10 ∷ r)

pub entry_back : (k : ℕ) (e : EventView) (r : List ℕ) → IsNumber k → IsTold e → entry_in (event_line k e ++ r) ≡ Some e
entry_back k e r lt h =
    ap entry_in (line_text k e r ∙ sym (append_assoc (decimal k) (32 ∷ event_text e) (10 ∷ r)))
    ∙ then_is _ (λ k z. event_in z) _ _ _ (cut_decimal k (event_text e) (10 ∷ r) lt) (event_back e r h)
