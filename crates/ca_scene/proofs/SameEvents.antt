-- The test of two events tells exactly whether they are one.
use Rattle.std.proofs.Common.{◌≡◌, ◌≢◌, ◌↔◌, IsTrue, ℕ, suc, List, [], ◌∷◌, length, map, refl, sym, ap, ap₂, ◌∙◌, subst, option_map, Option, Some, None, Bool, true, false, ◌&&◌, eqb, eqb-true, eq-eqb}
use Rattle.std.proofs.lemmas.Bool.{and_parts, and_from}
use Rattle.std.proofs.lemmas.Slice.Eq.{bytes_eq-Decides}
use Rattle.ca_value.specs.declared.value.PortId.{PortId}
use Rattle.ca_term.specs.declared.event.Branch.{Branch}
use Rattle.ca_term.specs.declared.event.Ending.{Ending}
use Rattle.ca_term.specs.declared.event.Ending.TheVariants.{Ended, Faulted}
use Rattle.ca_term.specs.Event.{EventView, made, spawned, done, met, parked, posted, settled, defaulted, closed, registered, printed, ticked, over, port_number, branch_view}
use Rattle.ca_scene.specs.Same.{same, same_items, same_side, same_branch, same_branches, same_numbers, same_number, same_what, same_fault, same_place, same_name, same_kind}
use Rattle.ca_scene.specs.SameEvent.{same_make, same_spawn, same_done, same_meet, same_park, same_post, same_settle, same_register, same_alone, same_tick, same_ending, same_end, same_event}
use Rattle.ca_scene.proofs.Sames.{never, same_true, same_self, same_items_from, items_true, same_side_true, same_side_itself, same_branch_true, same_branch_itself, same_branches_true, same_branches_itself, same_numbers_true, same_numbers_itself, same_number_true, same_number_itself, same_what_true, same_what_itself, same_fault_true, same_fault_itself, same_place_true, same_place_itself, same_name_true, same_name_itself, same_kind_true, same_kind_itself}

make_true : (a b : EventView) → same_make a b ≡ true → a ≡ b
make_true (made t p c m) (made u q d n) e =
    let k = and_parts (eqb t u) _ e in
    let j = and_parts (eqb p q) _ k.1 in
    let i = and_parts (same_what c d) _ j.1 in
    let task = eqb-true t u k.0 in
    let port = eqb-true p q j.0 in
    let what = same_what_true c d i.0 in
    let moment = same_number_true m n i.1 in
    cc
make_true a b e = never e

spawn_true : (a b : EventView) → same_spawn a b ≡ true → a ≡ b
spawn_true (spawned t x k r) (spawned u y l s) e =
    let h = and_parts (eqb t u) _ e in
    let j = and_parts (eqb x y) _ h.1 in
    let i = and_parts (same_kind k l) _ j.1 in
    let task = eqb-true t u h.0 in
    let new = eqb-true x y j.0 in
    let kind = same_kind_true k l i.0 in
    let result = same_number_true r s i.1 in
    cc
spawn_true a b e = never e

done_true : (a b : EventView) → same_done a b ≡ true → a ≡ b
done_true (done t k c v) (done u l d x) e =
    let h = and_parts (eqb t u) _ e in
    let j = and_parts (eqb k l) _ h.1 in
    let i = and_parts (same_branch c d) _ j.1 in
    let task = eqb-true t u h.0 in
    let number = eqb-true k l j.0 in
    let branch = same_branch_true c d i.0 in
    let answer = same_true v x i.1 in
    cc
done_true a b e = never e

meet_true : (a b : EventView) → same_meet a b ≡ true → a ≡ b
meet_true (met t k c p v w o) (met u l d q x y z) e =
    let h = and_parts (eqb t u) _ e in
    let j = and_parts (eqb k l) _ h.1 in
    let i = and_parts (same_side c d) _ j.1 in
    let f = and_parts (eqb p q) _ i.1 in
    let g = and_parts (same v x) _ f.1 in
    let r = and_parts (eqb w y) _ g.1 in
    let task = eqb-true t u h.0 in
    let number = eqb-true k l j.0 in
    let side = same_side_true c d i.0 in
    let port = eqb-true p q f.0 in
    let value = same_true v x g.0 in
    let wait = eqb-true w y r.0 in
    let other = eqb-true o z r.1 in
    cc
meet_true a b e = never e

park_true : (a b : EventView) → same_park a b ≡ true → a ≡ b
park_true (parked t w bs) (parked u y cs) e =
    let h = and_parts (eqb t u) _ e in
    let j = and_parts (eqb w y) _ h.1 in
    let task = eqb-true t u h.0 in
    let wait = eqb-true w y j.0 in
    let branches = same_branches_true bs cs j.1 in
    cc
park_true a b e = never e

post_true : (a b : EventView) → same_post a b ≡ true → a ≡ b
post_true (posted t w p v) (posted u y q x) e =
    let h = and_parts (eqb t u) _ e in
    let j = and_parts (eqb w y) _ h.1 in
    let i = and_parts (eqb p q) _ j.1 in
    let task = eqb-true t u h.0 in
    let wait = eqb-true w y j.0 in
    let port = eqb-true p q i.0 in
    let value = same_true v x i.1 in
    cc
post_true a b e = never e

settle_true : (a b : EventView) → same_settle a b ≡ true → a ≡ b
settle_true (settled w k c p v) (settled y l d q x) e =
    let h = and_parts (eqb w y) _ e in
    let j = and_parts (eqb k l) _ h.1 in
    let i = and_parts (same_side c d) _ j.1 in
    let f = and_parts (eqb p q) _ i.1 in
    let wait = eqb-true w y h.0 in
    let number = eqb-true k l j.0 in
    let side = same_side_true c d i.0 in
    let port = eqb-true p q f.0 in
    let value = same_true v x f.1 in
    cc
settle_true a b e = never e

register_true : (a b : EventView) → same_register a b ≡ true → a ≡ b
register_true (registered t n vs v) (registered u m xs x) e =
    let h = and_parts (eqb t u) _ e in
    let j = and_parts (same_name n m) _ h.1 in
    let i = and_parts (same_items vs xs) _ j.1 in
    let task = eqb-true t u h.0 in
    let name = same_name_true n m j.0 in
    let arguments = items_true vs xs i.0 in
    let answer = same_true v x i.1 in
    cc
register_true a b e = never e

alone_true : (a b : EventView) → same_alone a b ≡ true → a ≡ b
alone_true (defaulted t v) (defaulted u x) e =
    let h = and_parts (eqb t u) _ e in ap₂ defaulted (eqb-true t u h.0) (same_true v x h.1)
alone_true (closed t p) (closed u q) e =
    let h = and_parts (eqb t u) _ e in ap₂ closed (eqb-true t u h.0) (eqb-true p q h.1)
alone_true (printed t line) (printed u other) e =
    let h = and_parts (eqb t u) _ e in ap₂ printed (eqb-true t u h.0) ((bytes_eq-Decides line other).0 h.1)
alone_true a b e = never e

tick_true : (a b : EventView) → same_tick a b ≡ true → a ≡ b
tick_true (ticked m ps) (ticked n qs) e =
    let h = and_parts (eqb m n) _ e in ap₂ ticked (eqb-true m n h.0) (same_numbers_true ps qs h.1)
tick_true a b e = never e

-- two ports of one number are one
ports_true : (r s : Option PortId) → same_number (option_map port_number r) (option_map port_number s) ≡ true → r ≡ s
ports_true None None e = refl
ports_true (Some p) (Some q) e = ap (λ (n : ℕ). Some (record { n = n })) (eqb-true p.n q.n e)
ports_true r s e = never e

ending_true : (a b : Ending) → same_ending a b ≡ true → a ≡ b
ending_true Ended Ended e = refl
ending_true (Faulted f p r) (Faulted g q s) e =
    let h = and_parts (same_fault f g) _ e in
    let j = and_parts (same_place p q) _ h.1 in
    let fault = same_fault_true f g h.0 in
    let place = same_place_true p q j.0 in
    let result = ports_true r s j.1 in
    cc
ending_true a b e = never e

end_true : (a b : EventView) → same_end a b ≡ true → a ≡ b
end_true (over t e) (over u f) is =
    let h = and_parts (eqb t u) _ is in ap₂ over (eqb-true t u h.0) (ending_true e f h.1)
end_true a b e = never e

-- what passes the test is one
pub same_event_true : (a b : EventView) → same_event a b ≡ true → a ≡ b
same_event_true (made t p c m) b e = make_true (made t p c m) b e
same_event_true (spawned t x k r) b e = spawn_true (spawned t x k r) b e
same_event_true (done t k c v) b e = done_true (done t k c v) b e
same_event_true (met t k c p v w o) b e = meet_true (met t k c p v w o) b e
same_event_true (parked t w bs) b e = park_true (parked t w bs) b e
same_event_true (posted t w p v) b e = post_true (posted t w p v) b e
same_event_true (settled w k c p v) b e = settle_true (settled w k c p v) b e
same_event_true (defaulted t v) b e = alone_true (defaulted t v) b e
same_event_true (closed t p) b e = alone_true (closed t p) b e
same_event_true (registered t n vs v) b e = register_true (registered t n vs v) b e
same_event_true (printed t line) b e = alone_true (printed t line) b e
same_event_true (ticked m ps) b e = tick_true (ticked m ps) b e
same_event_true (over t f) b e = end_true (over t f) b e

both : (a b : Bool) → a ≡ true → b ≡ true → a && b ≡ true
both a b e f = and_from a b e f

itself : (n : ℕ) → eqb n n ≡ true
itself n = eq-eqb n n refl

ending_itself : (a : Ending) → same_ending a a ≡ true
ending_itself Ended = refl
ending_itself (Faulted f p r) = both _ _ (same_fault_itself f) (both _ _ (same_place_itself p) (same_number_itself (option_map port_number r)))

-- and each event passes it with itself
pub same_event_itself : (a : EventView) → same_event a a ≡ true
same_event_itself (made t p c m) = both _ _ (itself t) (both _ _ (itself p) (both _ _ (same_what_itself c) (same_number_itself m)))
same_event_itself (spawned t x k r) = both _ _ (itself t) (both _ _ (itself x) (both _ _ (same_kind_itself k) (same_number_itself r)))
same_event_itself (done t k c v) = both _ _ (itself t) (both _ _ (itself k) (both _ _ (same_branch_itself c) (same_self v)))
same_event_itself (met t k c p v w o) = both _ _ (itself t) (both _ _ (itself k) (both _ _ (same_side_itself c) (both _ _ (itself p) (both _ _ (same_self v) (both _ _ (itself w) (itself o))))))
same_event_itself (parked t w bs) = both _ _ (itself t) (both _ _ (itself w) (same_branches_itself bs))
same_event_itself (posted t w p v) = both _ _ (itself t) (both _ _ (itself w) (both _ _ (itself p) (same_self v)))
same_event_itself (settled w k c p v) = both _ _ (itself w) (both _ _ (itself k) (both _ _ (same_side_itself c) (both _ _ (itself p) (same_self v))))
same_event_itself (defaulted t v) = both _ _ (itself t) (same_self v)
same_event_itself (closed t p) = both _ _ (itself t) (itself p)
same_event_itself (registered t n vs v) = both _ _ (itself t) (both _ _ (same_name_itself n) (both _ _ (same_items_from vs vs refl) (same_self v)))
same_event_itself (printed t line) = both _ _ (itself t) ((bytes_eq-Decides line line).1 refl)
same_event_itself (ticked m ps) = both _ _ (itself m) (same_numbers_itself ps)
same_event_itself (over t e) = both _ _ (itself t) (ending_itself e)

-- what the test answers
pub event_told : (a b : EventView) (r : Bool) → r ≡ same_event a b → IsTrue r ↔ (a ≡ b)
event_told a b r e = (λ t. same_event_true a b (sym e ∙ t), λ f. e ∙ subst (λ z. same_event a z ≡ true) f (same_event_itself a))

-- lists of two lengths
untrue : (q : Bool) → (q ≢ true) → q ≡ false
untrue false h = refl
untrue true h = absurd (h refl)

lengths : {A B : Type 0} (f : A → B) (xs ys : List A) → map f xs ≡ map f ys → length xs ≡ length ys
lengths f [] [] e = refl
lengths f (x ∷ xs) (y ∷ ys) e = ap suc (lengths f xs ys cc)
lengths f [] (y ∷ ys) e = absurd cc
lengths f (x ∷ xs) [] e = absurd cc

pub branches_differ : (bs cs : List Branch) → length bs ≢ length cs → same_branches (map branch_view bs) (map branch_view cs) ≡ false
branches_differ bs cs h = untrue _ (λ e. h (lengths branch_view bs cs (same_branches_true _ _ e)))

pub ports_differ : (ps qs : List PortId) → length ps ≢ length qs → same_numbers (map port_number ps) (map port_number qs) ≡ false
ports_differ ps qs h = untrue _ (λ e. h (lengths port_number ps qs (same_numbers_true _ _ e)))
