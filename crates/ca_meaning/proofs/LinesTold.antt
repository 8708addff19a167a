-- An event is told by its line, and a journal by its text.
use Rattle.std.proofs.Common.{◌≡◌, ℕ, zero, suc, ◌+◌, ◌*◌, List, [], ◌∷◌, ◌++◌, refl, sym, ap, ap₂, ◌∙◌, cond, ◌==◌, Option, Some, None, option_map, drop}
use Rattle.std.specs.Prelude.{codes}
use Rattle.std.specs.Fmt.{decimal}
use Rattle.std.proofs.lemmas.List.{append_assoc}
use Rattle.ca_value.specs.Tree.{Tree, nil, bool, int, text, key, vector, map, port}
use Rattle.ca_value.specs.declared.value.PortId.{PortId}
use Rattle.ca_value.specs.Printed.{readable_text}
use Rattle.ca_term.specs.declared.event.Ending.{Ending}
use Rattle.ca_term.specs.declared.event.Ending.TheVariants.{Ended, Faulted}
use Rattle.ca_term.specs.Operation.{WhatView, unbuffered, fixed, dropping, sliding, promise, timeout, mult, mix, publication}
use Rattle.ca_term.specs.Event.{EventView, BranchView, take_of, put_of, made, spawned, done, met, parked, posted, settled, defaulted, closed, registered, printed, ticked, over, port_number as number_of}
use Rattle.ca_meaning.specs.Operands.{port_of_value}
use Rattle.ca_meaning.specs.Sound.{Each}
use Rattle.ca_meaning.specs.Texts.{◌⋅◌}
use Rattle.ca_meaning.specs.Journal.{port_text, moment_text, what_text, branch_text, done_text, ports_text, event_text, event_line, lines_from, journal_text}
use Rattle.ca_meaning.specs.Shown.{IsNumber, MaybeNumber, MaybePort, IsPort, WhatShown, EventShown}
use Rattle.ca_meaning.proofs.LineWords.{Ends}
use Rattle.ca_meaning.proofs.LineValues.{apart, head_of, behind_one, told}
use Rattle.ca_meaning.proofs.LineWords.{quoted_told}
use Rattle.ca_meaning.proofs.LineFields.{cut_number, end_number, cut_decimal, end_decimal, cut_value, cut_name, cut_kind, cut_fault, cut_side, end_maybe, cut_place, branch_told, branches_told, ports_told, args_told}

-- the byte at a place
abbrev byte_at : ℕ → List ℕ → ℕ
byte_at n [] = 0
byte_at zero (b ∷ s) = b
byte_at (suc n) (b ∷ s) = byte_at n s

-- what is made
abbrev what_mark : List ℕ → ℕ
what_mark x = cond (byte_at 0 x == 99) (byte_at 5 x) (byte_at 0 x + 2 * byte_at 1 x)

abbrev what_tag : WhatView → ℕ
what_tag unbuffered = 110
what_tag (fixed n) = 102
what_tag (dropping n) = 100
what_tag (sliding n) = 115
what_tag promise = 112
what_tag (timeout n) = 326
what_tag (mult source) = 343
what_tag (mix out changes) = 319
what_tag (publication source) = 346

what_marks : (what : WhatView) (m : Option ℕ) (r : List ℕ) → what_mark (what_text what m ++ r) ≡ what_tag what
what_marks unbuffered m r = refl
what_marks (fixed n) m r = refl
what_marks (dropping n) m r = refl
what_marks (sliding n) m r = refl
what_marks promise m r = refl
what_marks (timeout n) m r = refl
what_marks (mult source) m r = refl
what_marks (mix out changes) m r = refl
what_marks (publication source) m r = refl

port_there : (v : Tree) → IsPort v → (v ≡ port (port_of_value v)) × IsNumber (port_of_value v)
port_there (port n) h = (refl, h)
port_there nil h = absurd h
port_there (bool b) h = absurd h
port_there (int z) h = absurd h
port_there (text s) h = absurd h
port_there (key s) h = absurd h
port_there (vector ts) h = absurd h
port_there (map ps) h = absurd h

same_port : (v w : Tree) → IsPort v → IsPort w → port_of_value v ≡ port_of_value w → v ≡ w
same_port v w g h e = (port_there v g).0 ∙ ap (λ n. port n) e ∙ sym (port_there w h).0

abbrev Made : WhatView → WhatView → Option ℕ → Option ℕ → List ℕ → List ℕ → Type 0
Made a b m n r s = (a ≡ b) × (m ≡ n) × (r ≡ s)

what_told : (a b : WhatView) (m n : Option ℕ) (r s : List ℕ) → WhatShown a m → WhatShown b n → what_text a m ++ (10 ∷ r) ≡ what_text b n ++ (10 ∷ s) → what_tag a ≡ what_tag b → Made a b m n r s
what_told unbuffered unbuffered m n r s g h e k = (refl, g ∙ sym h, behind_one 10 10 r s (ap (drop 9) e))
what_told promise promise m n r s g h e k = (refl, g ∙ sym h, behind_one 10 10 r s (ap (drop 12) e))
what_told (fixed a) (fixed b) m n r s g h e k = let j = end_decimal a b (10 ∷ r) (10 ∷ s) g.0 h.0 refl refl (ap (drop 11) e) in (ap (λ z. fixed z) j.0, g.1 ∙ sym h.1, behind_one 10 10 r s j.1)
what_told (dropping a) (dropping b) m n r s g h e k = let j = end_decimal a b (10 ∷ r) (10 ∷ s) g.0 h.0 refl refl (ap (drop 14) e) in (ap (λ z. dropping z) j.0, g.1 ∙ sym h.1, behind_one 10 10 r s j.1)
what_told (sliding a) (sliding b) m n r s g h e k = let j = end_decimal a b (10 ∷ r) (10 ∷ s) g.0 h.0 refl refl (ap (drop 13) e) in (ap (λ z. sliding z) j.0, g.1 ∙ sym h.1, behind_one 10 10 r s j.1)
what_told (timeout a) (timeout b) (Some m) (Some n) r s g h e k =
    let j = cut_decimal a b (codes "at" ⋅ moment_text (Some m)) (codes "at" ⋅ moment_text (Some n)) (10 ∷ r) (10 ∷ s) g.0 h.0 (ap (drop 8) e) in
    let i = end_decimal m n (10 ∷ r) (10 ∷ s) g.1 h.1 refl refl (ap (drop 3) j.1) in
    (ap (λ z. timeout z) j.0, ap (λ z. Some z) i.0, behind_one 10 10 r s i.1)
what_told (timeout a) (timeout b) None n r s g h e k = absurd g
what_told (timeout a) (timeout b) (Some m) None r s g h e k = absurd h
what_told (mult a) (mult b) m n r s g h e k =
    let j = end_number 112 (port_of_value a) (port_of_value b) (10 ∷ r) (10 ∷ s) refl (port_there a g.0).1 (port_there b h.0).1 refl refl (ap (drop 5) e) in
    (ap (λ z. mult z) (same_port a b g.0 h.0 j.0), g.1 ∙ sym h.1, behind_one 10 10 r s j.1)
what_told (mix a c) (mix b d) m n r s g h e k =
    let j = cut_number 112 (port_of_value a) (port_of_value b) (port_text (port_of_value c)) (port_text (port_of_value d)) (10 ∷ r) (10 ∷ s) refl (port_there a g.0).1 (port_there b h.0).1 (ap (drop 4) e) in
    let i = end_number 112 (port_of_value c) (port_of_value d) (10 ∷ r) (10 ∷ s) refl (port_there c g.1).1 (port_there d h.1).1 refl refl j.1 in
    (ap₂ (λ z w. mix z w) (same_port a b g.0 h.0 j.0) (same_port c d g.1 h.1 i.0), g.2 ∙ sym h.2, behind_one 10 10 r s i.1)
what_told (publication a) (publication b) m n r s g h e k =
    let j = end_number 112 (port_of_value a) (port_of_value b) (10 ∷ r) (10 ∷ s) refl (port_there a g.0).1 (port_there b h.0).1 refl refl (ap (drop 4) e) in
    (ap (λ z. publication z) (same_port a b g.0 h.0 j.0), g.1 ∙ sym h.1, behind_one 10 10 r s j.1)
what_told a b m n r s g h e k = apart (what_tag a) (what_tag b) refl k

-- events
abbrev event_mark : List ℕ → ℕ
event_mark x = cond (byte_at 0 x == 101) 1 (cond (byte_at 0 x == 102) 1 (byte_at 0 x * 256 + byte_at 1 x))

abbrev event_tag : EventView → ℕ
event_tag (made t p what moment) = 28001
event_tag (spawned t u kind result) = 29552
event_tag (done t k b a) = 25711
event_tag (met t k side p v w o) = 28005
event_tag (parked t w bs) = 28769
event_tag (posted t w p v) = 28783
event_tag (settled w k side p v) = 29541
event_tag (defaulted t v) = 25701
event_tag (closed t p) = 25452
event_tag (registered t name args v) = 29285
event_tag (printed t line) = 28786
event_tag (ticked m ports) = 29801
event_tag (over t how) = 1

event_marks : (e : EventView) (r : List ℕ) → event_mark (event_text e ++ r) ≡ event_tag e
event_marks (made t p what moment) r = refl
event_marks (spawned t u kind result) r = refl
event_marks (done t k b a) r = refl
event_marks (met t k side p v w o) r = refl
event_marks (parked t w bs) r = refl
event_marks (posted t w p v) r = refl
event_marks (settled w k side p v) r = refl
event_marks (defaulted t v) r = refl
event_marks (closed t p) r = refl
event_marks (registered t name args v) r = refl
event_marks (printed t line) r = refl
event_marks (ticked m ports) r = refl
event_marks (over t Ended) r = refl
event_marks (over t (Faulted fault place result)) r = refl

done_is : (b : BranchView) (a : Tree) → done_text b a ≡ branch_text b ⋅ readable_text a
done_is (take_of p) a = refl
done_is (put_of p v) a = refl

maybe_number : (o : Option PortId) → MaybePort o → MaybeNumber (option_map number_of o)
maybe_number None h = tt
maybe_number (Some p) h = h

same_result : (o q : Option PortId) → option_map number_of o ≡ option_map number_of q → o ≡ q
same_result None None e = refl
same_result (Some p) (Some q) e = let k : p.n ≡ q.n = cc in ap (λ (n : ℕ). Some (record { n = n })) k
same_result None (Some q) e = cc
same_result (Some p) None e = cc

abbrev Both : EventView → EventView → List ℕ → List ℕ → Type 0
Both e f r s = (e ≡ f) × (r ≡ s)

over_told : (t u : ℕ) (a b : Ending) (r s : List ℕ) → EventShown (over t a) → EventShown (over u b) → event_text (over t a) ++ (10 ∷ r) ≡ event_text (over u b) ++ (10 ∷ s) → Both (over t a) (over u b) r s
over_told t u Ended Ended r s g h e = let k = end_number 116 t u (10 ∷ r) (10 ∷ s) refl g h refl refl (ap (drop 4) e) in (ap (λ z. over z Ended) k.0, behind_one 10 10 r s k.1)
over_told t u Ended (Faulted fault place result) r s g h e = apart 101 102 refl (ap head_of e)
over_told t u (Faulted fault place result) Ended r s g h e = apart 102 101 refl (ap head_of e)
over_told t u (Faulted f p o) (Faulted f2 q o2) r s g h e =
    let k = cut_number 116 t u _ _ (10 ∷ r) (10 ∷ s) refl g.0 h.0 (ap (drop 6) e) in
    let j = cut_fault f f2 _ _ (10 ∷ r) (10 ∷ s) k.1 in
    let i = cut_place p q _ _ (10 ∷ r) (10 ∷ s) g.1 g.2 h.1 h.2 j.1 in
    let l = end_maybe (option_map number_of o) (option_map number_of o2) (10 ∷ r) (10 ∷ s) (maybe_number o g.3) (maybe_number o2 h.3) refl refl i.1 in
    (ap (λ z. over z (Faulted f p o)) k.0 ∙ ap (λ z. over u (Faulted z p o)) j.0 ∙ ap (λ z. over u (Faulted f2 z o)) i.0 ∙ ap (λ z. over u (Faulted f2 q z)) (same_result o o2 l.0), behind_one 10 10 r s l.1)

event_as : (e f : EventView) (r s : List ℕ) → EventShown e → EventShown f → event_text e ++ (10 ∷ r) ≡ event_text f ++ (10 ∷ s) → event_tag e ≡ event_tag f → Both e f r s
event_as (made t p what moment) (made u q other second) r s g h e k =
    let a = cut_number 116 t u _ _ (10 ∷ r) (10 ∷ s) refl g.0 h.0 (ap (drop 5) e) in
    let b = cut_number 112 p q _ _ (10 ∷ r) (10 ∷ s) refl g.1 h.1 a.1 in
    let c = what_told what other moment second r s g.2 h.2 b.1 (sym (what_marks what moment (10 ∷ r)) ∙ ap what_mark b.1 ∙ what_marks other second (10 ∷ s)) in
    (ap (λ z. made z p what moment) a.0 ∙ ap (λ z. made u z what moment) b.0 ∙ ap (λ z. made u q z moment) c.0 ∙ ap (λ z. made u q other z) c.1, c.2)
event_as (spawned t u kind result) (spawned t2 u2 kind2 result2) r s g h e k =
    let a = cut_number 116 t t2 _ _ (10 ∷ r) (10 ∷ s) refl g.0 h.0 (ap (drop 6) e) in
    let b = cut_number 116 u u2 _ _ (10 ∷ r) (10 ∷ s) refl g.1 h.1 a.1 in
    let c = cut_kind kind kind2 _ _ (10 ∷ r) (10 ∷ s) b.1 in
    let d = end_maybe result result2 (10 ∷ r) (10 ∷ s) g.2 h.2 refl refl c.1 in
    (ap (λ z. spawned z u kind result) a.0 ∙ ap (λ z. spawned t2 z kind result) b.0 ∙ ap (λ z. spawned t2 u2 z result) c.0 ∙ ap (λ z. spawned t2 u2 kind2 z) d.0, behind_one 10 10 r s d.1)
event_as (done t k b x) (done t2 k2 b2 x2) r s g h e i =
    let a = cut_number 116 t t2 _ _ (10 ∷ r) (10 ∷ s) refl g.0 h.0 (ap (drop 5) e) in
    let c = cut_decimal k k2 _ _ (10 ∷ r) (10 ∷ s) g.1 h.1 a.1 in
    let m : (branch_text b ⋅ readable_text x) ++ (10 ∷ r) ≡ (branch_text b2 ⋅ readable_text x2) ++ (10 ∷ s) = sym (ap (λ z. z ++ (10 ∷ r)) (done_is b x)) ∙ c.1 ∙ ap (λ z. z ++ (10 ∷ s)) (done_is b2 x2) in
    let d = branch_told b b2 (32 ∷ (readable_text x ++ (10 ∷ r))) (32 ∷ (readable_text x2 ++ (10 ∷ s))) g.2 h.2 refl refl (sym (append_assoc (branch_text b) (32 ∷ readable_text x) (10 ∷ r)) ∙ m ∙ append_assoc (branch_text b2) (32 ∷ readable_text x2) (10 ∷ s)) in
    let f = told x x2 (10 ∷ r) (10 ∷ s) g.3 h.3 refl refl (behind_one 32 32 _ _ d.1) in
    (ap (λ z. done z k b x) a.0 ∙ ap (λ z. done t2 z b x) c.0 ∙ ap (λ z. done t2 k2 z x) d.0 ∙ ap (λ z. done t2 k2 b2 z) f.0, behind_one 10 10 r s f.1)
event_as (met t k side p v w o) (met t2 k2 side2 p2 v2 w2 o2) r s g h e i =
    let a = cut_number 116 t t2 _ _ (10 ∷ r) (10 ∷ s) refl g.0 h.0 (ap (drop 5) e) in
    let b = cut_decimal k k2 _ _ (10 ∷ r) (10 ∷ s) g.1 h.1 a.1 in
    let c = cut_side side side2 _ _ (10 ∷ r) (10 ∷ s) b.1 in
    let d = cut_number 112 p p2 _ _ (10 ∷ r) (10 ∷ s) refl g.2 h.2 c.1 in
    let f = cut_value v v2 _ _ (10 ∷ r) (10 ∷ s) g.3 h.3 d.1 in
    let j = cut_number 119 w w2 _ _ (10 ∷ r) (10 ∷ s) refl g.4 h.4 f.1 in
    let l = end_decimal o o2 (10 ∷ r) (10 ∷ s) g.5 h.5 refl refl j.1 in
    (ap (λ z. met z k side p v w o) a.0 ∙ ap (λ z. met t2 z side p v w o) b.0 ∙ ap (λ z. met t2 k2 z p v w o) c.0 ∙ ap (λ z. met t2 k2 side2 z v w o) d.0 ∙ ap (λ z. met t2 k2 side2 p2 z w o) f.0 ∙ ap (λ z. met t2 k2 side2 p2 v2 z o) j.0 ∙ ap (λ z. met t2 k2 side2 p2 v2 w2 z) l.0, behind_one 10 10 r s l.1)
event_as (parked t w bs) (parked t2 w2 bs2) r s g h e i =
    let a = cut_number 116 t t2 _ _ (10 ∷ r) (10 ∷ s) refl g.0 h.0 (ap (drop 5) e) in
    let b = cut_number 119 w w2 _ _ (10 ∷ r) (10 ∷ s) refl g.1 h.1 a.1 in
    let c = branches_told bs bs2 r s g.2 h.2 b.1 in
    (ap (λ z. parked z w bs) a.0 ∙ ap (λ z. parked t2 z bs) b.0 ∙ ap (λ z. parked t2 w2 z) c.0, c.1)
event_as (posted t w p v) (posted t2 w2 p2 v2) r s g h e i =
    let a = cut_number 116 t t2 _ _ (10 ∷ r) (10 ∷ s) refl g.0 h.0 (ap (drop 5) e) in
    let b = cut_number 119 w w2 _ _ (10 ∷ r) (10 ∷ s) refl g.1 h.1 a.1 in
    let c = cut_number 112 p p2 _ _ (10 ∷ r) (10 ∷ s) refl g.2 h.2 b.1 in
    let d = told v v2 (10 ∷ r) (10 ∷ s) g.3 h.3 refl refl c.1 in
    (ap (λ z. posted z w p v) a.0 ∙ ap (λ z. posted t2 z p v) b.0 ∙ ap (λ z. posted t2 w2 z v) c.0 ∙ ap (λ z. posted t2 w2 p2 z) d.0, behind_one 10 10 r s d.1)
event_as (settled w k side p v) (settled w2 k2 side2 p2 v2) r s g h e i =
    let a = cut_number 119 w w2 _ _ (10 ∷ r) (10 ∷ s) refl g.0 h.0 (ap (drop 7) e) in
    let b = cut_decimal k k2 _ _ (10 ∷ r) (10 ∷ s) g.1 h.1 a.1 in
    let c = cut_side side side2 _ _ (10 ∷ r) (10 ∷ s) b.1 in
    let d = cut_number 112 p p2 _ _ (10 ∷ r) (10 ∷ s) refl g.2 h.2 c.1 in
    let f = told v v2 (10 ∷ r) (10 ∷ s) g.3 h.3 refl refl d.1 in
    (ap (λ z. settled z k side p v) a.0 ∙ ap (λ z. settled w2 z side p v) b.0 ∙ ap (λ z. settled w2 k2 z p v) c.0 ∙ ap (λ z. settled w2 k2 side2 z v) d.0 ∙ ap (λ z. settled w2 k2 side2 p2 z) f.0, behind_one 10 10 r s f.1)
event_as (defaulted t v) (defaulted t2 v2) r s g h e i =
    let a = cut_number 116 t t2 _ _ (10 ∷ r) (10 ∷ s) refl g.0 h.0 (ap (drop 8) e) in
    let b = told v v2 (10 ∷ r) (10 ∷ s) g.1 h.1 refl refl a.1 in
    (ap (λ z. defaulted z v) a.0 ∙ ap (λ z. defaulted t2 z) b.0, behind_one 10 10 r s b.1)
event_as (closed t p) (closed t2 p2) r s g h e i =
    let a = cut_number 116 t t2 _ _ (10 ∷ r) (10 ∷ s) refl g.0 h.0 (ap (drop 6) e) in
    let b = end_number 112 p p2 (10 ∷ r) (10 ∷ s) refl g.1 h.1 refl refl a.1 in
    (ap (λ z. closed z p) a.0 ∙ ap (λ z. closed t2 z) b.0, behind_one 10 10 r s b.1)
event_as (registered t name args v) (registered t2 name2 args2 v2) r s g h e i =
    let a = cut_number 116 t t2 _ _ (10 ∷ r) (10 ∷ s) refl g.0 h.0 (ap (drop 9) e) in
    let b = cut_name name name2 _ _ (10 ∷ r) (10 ∷ s) a.1 in
    let c = args_told args args2 v v2 r s g.1 h.1 g.2 h.2 b.1 in
    (ap (λ z. registered z name args v) a.0 ∙ ap (λ z. registered t2 z args v) b.0 ∙ ap (λ z. registered t2 name2 z v) c.0 ∙ ap (λ z. registered t2 name2 args2 z) c.1, c.2)
event_as (printed t line) (printed t2 line2) r s g h e i =
    let a = cut_number 116 t t2 _ _ (10 ∷ r) (10 ∷ s) refl g h (ap (drop 6) e) in
    let b = quoted_told line line2 (10 ∷ r) (10 ∷ s) a.1 in
    (ap (λ z. printed z line) a.0 ∙ ap (λ z. printed t2 z) b.0, behind_one 10 10 r s b.1)
event_as (ticked m ports) (ticked m2 ports2) r s g h e i =
    let f : decimal m ++ (ports_text ports ++ (10 ∷ r)) ≡ decimal m2 ++ (ports_text ports2 ++ (10 ∷ s)) = sym (append_assoc (decimal m) (ports_text ports) (10 ∷ r)) ∙ ap (drop 5) e ∙ append_assoc (decimal m2) (ports_text ports2) (10 ∷ s) in
    let a = end_decimal m m2 (ports_text ports ++ (10 ∷ r)) (ports_text ports2 ++ (10 ∷ s)) g.0 h.0 (ends_ports ports r) (ends_ports ports2 s) f in
    let b = ports_told ports ports2 r s g.1 h.1 a.1 in
    (ap (λ z. ticked z ports) a.0 ∙ ap (λ z. ticked m2 z) b.0, b.1)
  where
    ends_ports : (ps : List ℕ) (r : List ℕ) → Ends (ports_text ps ++ (10 ∷ r))
    ends_ports [] r = refl
    ends_ports (p ∷ ps) r = refl
event_as (over t a) (over u b) r s g h e i = over_told t u a b r s g h e
event_as e f r s g h x k = apart (event_tag e) (event_tag f) refl k

pub event_told : (e f : EventView) (r s : List ℕ) → EventShown e → EventShown f → event_text e ++ (10 ∷ r) ≡ event_text f ++ (10 ∷ s) → (e ≡ f) × (r ≡ s)
event_told e f r s g h x = event_as e f r s g h x (sym (event_marks e (10 ∷ r)) ∙ ap event_mark x ∙ event_marks f (10 ∷ s))

-- a line is told, and what follows it
line_text : (k : ℕ) (e : EventView) (r : List ℕ) → event_line k e ++ r ≡ decimal k ++ (32 ∷ (event_text e ++ (10 ∷ r)))
line_text k e r = append_assoc (decimal k ⋅ event_text e) (10 ∷ []) r ∙ append_assoc (decimal k) (32 ∷ event_text e) (10 ∷ r)

line_told : (k : ℕ) (e f : EventView) (r s : List ℕ) → EventShown e → EventShown f → event_line k e ++ r ≡ event_line k f ++ s → (e ≡ f) × (r ≡ s)
line_told k e f r s g h x = event_told e f r s g h (behind_one 32 32 _ _ (same_front (decimal k) _ _ (sym (line_text k e r) ∙ x ∙ line_text k f s))) where
  same_front : (w x y : List ℕ) → w ++ x ≡ w ++ y → x ≡ y
  same_front [] x y e = e
  same_front (b ∷ w) x y e = same_front w x y (behind_one b b (w ++ x) (w ++ y) e)

not_empty : {P : Type 0} (k : ℕ) (e : EventView) (r : List ℕ) → [] ≡ event_line k e ++ r → P
not_empty {P} k e r x = by (decimal k) (x ∙ line_text k e r) where
  by : (w : List ℕ) → [] ≡ w ++ (32 ∷ (event_text e ++ (10 ∷ r))) → P
  by [] x = cc
  by (b ∷ w) x = cc

pub lines_told : (k : ℕ) (es fs : List EventView) → Each EventShown es → Each EventShown fs → lines_from k es ≡ lines_from k fs → es ≡ fs
lines_told k [] [] g h x = refl
lines_told k [] (f ∷ fs) g h x = not_empty k f (lines_from (suc k) fs) x
lines_told k (e ∷ es) [] g h x = not_empty k e (lines_from (suc k) es) (sym x)
lines_told k (e ∷ es) (f ∷ fs) g h x =
    let m = line_told k e f (lines_from (suc k) es) (lines_from (suc k) fs) g.0 h.0 x in
    ap₂ (λ z zs. z ∷ zs) m.0 (lines_told (suc k) es fs g.1 h.1 m.1)

pub journal_told : (es fs : List EventView) → Each EventShown es → Each EventShown fs → journal_text es ≡ journal_text fs → es ≡ fs
journal_told es fs g h x = lines_told 0 es fs g h x
