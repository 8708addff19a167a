-- What is read as an event is one that a line can tell.
use Rattle.std.proofs.Common.{◌≡◌, ℕ, zero, suc, ◌<◌, List, [], ◌∷◌, ◌++◌, length, refl, arith, Option, Some, None, Bool, true, false, cond, nat_lt, subst}
use Rattle.std.proofs.lemmas.Bool.Decides.{nat_tests}
use Rattle.std.specs.Prelude.{codes}
use Rattle.std.specs.Str.{bytes_eq}
use Rattle.ca_value.specs.Tree.{Tree, Trees, none, item, port, trees_of}
use Rattle.ca_value.specs.IsValue.{written, AreValues}
use Rattle.ca_term.specs.declared.place.Place.{Place}
use Rattle.ca_term.specs.declared.event.Side.{Side}
use Rattle.ca_term.specs.declared.event.Side.TheVariants.{Take, Put}
use Rattle.ca_term.specs.declared.event.Ending.TheVariants.{Ended, Faulted}
use Rattle.ca_term.specs.Event.{EventView, BranchView, take_of, put_of, made, spawned, done, met, parked, posted, settled, defaulted, closed, registered, printed, ticked, over}
use Rattle.ca_term.specs.Operation.{WhatView, fixed, dropping, sliding, timeout, mult, mix, publication}
use Rattle.ca_meaning.specs.Sound.{Each}
use Rattle.ca_meaning.specs.Shown.{IsNumber, IsShown, AreShown, WhatShown, MaybeNumber, MaybePort, BranchShown}
use Rattle.ca_journal_reader.specs.Found.{Found, then}
use Rattle.ca_journal_reader.specs.Words.{number_in, byte_in, is_first, word_in, decimal_in, numbered_in}
use Rattle.ca_journal_reader.specs.ValueText.{text_from, value_field, uncomma}
use Rattle.ca_journal_reader.specs.FieldText.{word_named, side_named, kind_named, name_named, fault_named, maybe_port_in, place_in, sized_in, chan_by, timeout_in, from_port_in, mix_in, what_by, what_in, branch_read_by, branch_in, list_in, branches_read, ports_read, values_read, and_rest, arguments_parted}
use Rattle.ca_journal_reader.specs.EventText.{next_read, made_read, spawned_in, done_in, met_in, parked_read, posted_in, settled_in, defaulted_in, closed_in, registered_in, printed_in, ticked_in, ended_in, faulted_in, port_read, event_by, event_in, entry_in}
use Rattle.ca_journal_reader.specs.Input.{and_last, branch_values, branches_values, IsTold}
use Rattle.ca_journal_reader.proofs.ValueTold.{IfRead, IfFound, Any, any, goes, choice, number_told, decimal_told, numbered_told, Told, field_value_told}

abbrev Event : Option EventView → Type 0
Event o = IfRead IsTold o

-- the first steps of a line
any_then : {A B : Type 0} (Q : B → Type 0) (o : Found A) (f : A → List ℕ → Option B) → ((x : A) (r : List ℕ) → IfRead Q (f x r)) → IfRead Q (then o f)
any_then Q o f g = goes Any Q o f (any o) (λ x r h. g x r)

onward : {A B : Type 0} (P : A → Type 0) (Q : B → Type 0) (o : Option A) (f : A → Option B) → IfRead P o → ((x : A) → P x → IfRead Q (f x)) → IfRead Q (next_read o f)
onward P Q None f h g = tt
onward P Q (Some x) f h g = g x h

abbrev InFront : {A : Type 0} → (A → Type 0) → A × List ℕ → Type 0
InFront P r = P r.0

-- fields
maybe_told : (s : List ℕ) → IfFound MaybeNumber (maybe_port_in s)
maybe_told s = choice (InFront MaybeNumber) (is_first 45 s) _ _ tt (goes IsNumber (InFront MaybeNumber) (numbered_in 112 s) (λ p rest. Some (Some p, rest)) (numbered_told 112 s) (λ p rest h. h))

abbrev IsPlace : Place → Type 0
IsPlace p = IsNumber p.line × IsNumber p.column

place_told : (s : List ℕ) → IfFound IsPlace (place_in s)
place_told s =
    goes IsNumber (InFront IsPlace) (number_in s) (λ line rest. then (byte_in 58 rest) (λ x rest. then (decimal_in rest) (λ column rest. Some (record { line = line; column = column }, rest)))) (number_told s)
    (λ line rest h. any_then (InFront IsPlace) (byte_in 58 rest) (λ x rest. then (decimal_in rest) (λ column rest. Some (record { line = line; column = column }, rest)))
    (λ x rest. goes IsNumber (InFront IsPlace) (decimal_in rest) (λ column rest. Some (record { line = line; column = column }, rest)) (decimal_told rest) (λ column rest k. (h, k))))

abbrev Makes : WhatView × Option ℕ → Type 0
Makes w = WhatShown w.0 w.1

sized_told : (f : ℕ → WhatView) → ((n : ℕ) → IsNumber n → WhatShown (f n) None) → (s : List ℕ) → IfFound Makes (sized_in f s)
sized_told f g s = goes IsNumber (InFront Makes) (decimal_in s) (λ n rest. Some ((f n, None), rest)) (decimal_told s) (λ n rest h. g n h)

chan_told : (w s : List ℕ) → IfFound Makes (chan_by w s)
chan_told w s =
    choice (InFront Makes) (bytes_eq w (codes "none")) _ _ refl
    (choice (InFront Makes) (bytes_eq w (codes "promise")) _ _ refl
    (choice (InFront Makes) (bytes_eq w (codes "fixed")) _ _ (sized_told (λ n. fixed n) (λ n h. (h, refl)) s)
    (choice (InFront Makes) (bytes_eq w (codes "dropping")) _ _ (sized_told (λ n. dropping n) (λ n h. (h, refl)) s)
    (choice (InFront Makes) (bytes_eq w (codes "sliding")) _ None (sized_told (λ n. sliding n) (λ n h. (h, refl)) s) tt))))

timeout_told : (s : List ℕ) → IfFound Makes (timeout_in s)
timeout_told s =
    goes IsNumber (InFront Makes) (decimal_in s) (λ n rest. then (decimal_in (word_in rest).1) (λ moment rest. Some ((timeout n, Some moment), rest))) (decimal_told s)
    (λ n rest h. goes IsNumber (InFront Makes) (decimal_in (word_in rest).1) (λ moment rest. Some ((timeout n, Some moment), rest)) (decimal_told (word_in rest).1) (λ moment rest k. (h, k)))

port_told : (f : Tree → WhatView) → ((n : ℕ) → IsNumber n → WhatShown (f (port n)) None) → (s : List ℕ) → IfFound Makes (from_port_in f s)
port_told f g s = goes IsNumber (InFront Makes) (numbered_in 112 s) (λ p rest. Some ((f (port p), None), rest)) (numbered_told 112 s) (λ n rest h. g n h)

mix_told : (s : List ℕ) → IfFound Makes (mix_in s)
mix_told s =
    goes IsNumber (InFront Makes) (numbered_in 112 s) (λ out rest. then (numbered_in 112 rest) (λ changes rest. Some ((mix (port out) (port changes), None), rest))) (numbered_told 112 s)
    (λ out rest h. goes IsNumber (InFront Makes) (numbered_in 112 rest) (λ changes rest. Some ((mix (port out) (port changes), None), rest)) (numbered_told 112 rest) (λ changes rest k. (h, k, refl)))

what_told : (w s : List ℕ) → IfFound Makes (what_by w s)
what_told w s =
    choice (InFront Makes) (bytes_eq w (codes "chan")) _ _ (chan_told (word_in s).0 (word_in s).1)
    (choice (InFront Makes) (bytes_eq w (codes "timeout")) _ _ (timeout_told s)
    (choice (InFront Makes) (bytes_eq w (codes "mult")) _ _ (port_told (λ v. mult v) (λ n h. (h, refl)) s)
    (choice (InFront Makes) (bytes_eq w (codes "mix")) _ _ (mix_told s)
    (choice (InFront Makes) (bytes_eq w (codes "pub")) _ None (port_told (λ v. publication v) (λ n h. (h, refl)) s) tt))))

abbrev BranchTold : BranchView → Type 0
BranchTold b = BranchShown b × AreValues written (branch_values b none)

branch_by_told : (side : Side) (s : List ℕ) → IfFound BranchTold (branch_read_by side s)
branch_by_told Take s = goes IsNumber (InFront BranchTold) (numbered_in 112 s) (λ p rest. Some (take_of p, rest)) (numbered_told 112 s) (λ p rest h. (h, tt))
branch_by_told Put s =
    goes IsNumber (InFront BranchTold) (numbered_in 112 s) (λ p rest. then (value_field rest) (λ v rest. Some (put_of p v, rest))) (numbered_told 112 s)
    (λ p rest h. goes Told (InFront BranchTold) (value_field rest) (λ v rest. Some (put_of p v, rest)) (field_value_told rest) (λ v rest k. ((h, k.1), (k.0, tt))))

branch_told : (s : List ℕ) → IfFound BranchTold (branch_in s)
branch_told s = any_then (InFront BranchTold) (word_named side_named s) (λ side rest. branch_read_by side rest) (λ side rest. branch_by_told side rest)

-- lists
each_more : {A : Type 0} (P : A → Type 0) (xs : List A) (x : A) → Each P xs → P x → Each P (xs ++ x ∷ [])
each_more P [] x h k = (k, tt)
each_more P (y ∷ xs) x h k = (h.0, each_more P xs x h.1 k)

list_told : {A : Type 0} (P : A → Type 0) (f : List ℕ → Found A) → ((s : List ℕ) → IfFound P (f s)) → (n : ℕ) (said : List A) (s : List ℕ) → Each P said → IfRead (λ xs. Each P xs) (list_in f n said s)
list_told P f g zero said s h = tt
list_told P f g (suc n) said s h =
    choice (λ xs. Each P xs) (is_first 10 s) _ _ h (goes P (λ xs. Each P xs) (f s) (λ x rest. list_in f n (said ++ x ∷ []) rest) (g s) (λ x rest k. list_told P f g n (said ++ x ∷ []) rest (each_more P said x h k)))

branches_shown : (bs : List BranchView) → Each BranchTold bs → Each BranchShown bs
branches_shown [] h = tt
branches_shown (b ∷ bs) h = (h.0.0, branches_shown bs h.1)

branch_joins : (b : BranchView) (ts : Trees) → AreValues written (branch_values b none) → AreValues written ts → AreValues written (branch_values b ts)
branch_joins (take_of p) ts h k = k
branch_joins (put_of p v) ts h k = (h.0, k)

branches_are : (bs : List BranchView) → Each BranchTold bs → AreValues written (branches_values bs)
branches_are [] h = tt
branches_are (b ∷ bs) h = branch_joins b (branches_values bs) h.0.1 (branches_are bs h.1)

record AreParted (args : Trees) (v : Tree) : Type 0 where
  shown : AreShown args
  last : IsShown v
  values : AreValues written (and_last args v)

rest_told : (u : Tree) (ts : List Tree) → Told u → Each Told ts → AreParted (trees_of (and_rest u ts).0) (and_rest u ts).1
rest_told u [] h k = record { shown = tt; last = h.1; values = (h.0, tt) }
rest_told u (v ∷ ts) h k = let m = rest_told v ts k.0 k.1 in record { shown = (h.1, m.shown); last = m.last; values = (h.0, m.values) }

abbrev Registers : List Tree × Tree → Type 0
Registers p = (t : ℕ) (name : Rattle.ca_term.specs.declared.head.RegisterName.RegisterName) → IsNumber t → IsTold (registered t name (trees_of p.0) p.1)

parted_told : (ts : List Tree) → Each Told ts → IfRead Registers (arguments_parted ts)
parted_told [] h = tt
parted_told (t ∷ []) h = tt
parted_told (t ∷ (u ∷ ts)) h = let m = rest_told u ts h.1.0 h.1.1 in λ n name k. record { shown = (k, (h.0.1, m.shown), m.last); values = (h.0.0, m.values) }

-- the kinds of line
result_told : (o : Option ℕ) → MaybeNumber o → MaybePort (port_read o)
result_told None h = tt
result_told (Some n) h = h

made_told : (s : List ℕ) → Event (made_read s)
made_told s =
    goes IsNumber IsTold (numbered_in 116 s) (λ t s. then (numbered_in 112 s) (λ p s. then (what_in s) (λ w s. Some (made t p w.0 w.1)))) (numbered_told 116 s)
    (λ t s ht. goes IsNumber IsTold (numbered_in 112 s) (λ p s. then (what_in s) (λ w s. Some (made t p w.0 w.1))) (numbered_told 112 s)
    (λ p s hp. goes Makes IsTold (what_in s) (λ w s. Some (made t p w.0 w.1)) (what_told (word_in s).0 (word_in s).1)
    (λ w s hw. record { shown = (ht, hp, hw); values = tt })))

spawned_told : (s : List ℕ) → Event (spawned_in s)
spawned_told s =
    goes IsNumber IsTold (numbered_in 116 s) (λ t s. then (numbered_in 116 s) (λ u s. then (word_named kind_named s) (λ kind s. then (maybe_port_in s) (λ o s. Some (spawned t u kind o))))) (numbered_told 116 s)
    (λ t s ht. goes IsNumber IsTold (numbered_in 116 s) (λ u s. then (word_named kind_named s) (λ kind s. then (maybe_port_in s) (λ o s. Some (spawned t u kind o)))) (numbered_told 116 s)
    (λ u s hu. goes Any IsTold (word_named kind_named s) (λ kind s. then (maybe_port_in s) (λ o s. Some (spawned t u kind o))) (any (word_named kind_named s))
    (λ kind s hkind. goes MaybeNumber IsTold (maybe_port_in s) (λ o s. Some (spawned t u kind o)) (maybe_told s)
    (λ o s ho. record { shown = (ht, hu, ho); values = tt }))))

done_told : (s : List ℕ) → Event (done_in s)
done_told s =
    goes IsNumber IsTold (numbered_in 116 s) (λ t s. then (decimal_in s) (λ k s. then (branch_in s) (λ b s. then (value_field s) (λ a s. Some (done t k b a))))) (numbered_told 116 s)
    (λ t s ht. goes IsNumber IsTold (decimal_in s) (λ k s. then (branch_in s) (λ b s. then (value_field s) (λ a s. Some (done t k b a)))) (decimal_told s)
    (λ k s hk. goes BranchTold IsTold (branch_in s) (λ b s. then (value_field s) (λ a s. Some (done t k b a))) (branch_told s)
    (λ b s hb. goes Told IsTold (value_field s) (λ a s. Some (done t k b a)) (field_value_told s)
    (λ a s ha. record { shown = (ht, hk, hb.0, ha.1); values = branch_joins b (item a none) hb.1 (ha.0, tt) }))))

met_told : (s : List ℕ) → Event (met_in s)
met_told s =
    goes IsNumber IsTold (numbered_in 116 s) (λ t s. then (decimal_in s) (λ k s. then (word_named side_named s) (λ side s. then (numbered_in 112 s) (λ p s. then (value_field s) (λ v s. then (numbered_in 119 s) (λ w s. then (decimal_in s) (λ o s. Some (met t k side p v w o)))))))) (numbered_told 116 s)
    (λ t s ht. goes IsNumber IsTold (decimal_in s) (λ k s. then (word_named side_named s) (λ side s. then (numbered_in 112 s) (λ p s. then (value_field s) (λ v s. then (numbered_in 119 s) (λ w s. then (decimal_in s) (λ o s. Some (met t k side p v w o))))))) (decimal_told s)
    (λ k s hk. goes Any IsTold (word_named side_named s) (λ side s. then (numbered_in 112 s) (λ p s. then (value_field s) (λ v s. then (numbered_in 119 s) (λ w s. then (decimal_in s) (λ o s. Some (met t k side p v w o)))))) (any (word_named side_named s))
    (λ side s hside. goes IsNumber IsTold (numbered_in 112 s) (λ p s. then (value_field s) (λ v s. then (numbered_in 119 s) (λ w s. then (decimal_in s) (λ o s. Some (met t k side p v w o))))) (numbered_told 112 s)
    (λ p s hp. goes Told IsTold (value_field s) (λ v s. then (numbered_in 119 s) (λ w s. then (decimal_in s) (λ o s. Some (met t k side p v w o)))) (field_value_told s)
    (λ v s hv. goes IsNumber IsTold (numbered_in 119 s) (λ w s. then (decimal_in s) (λ o s. Some (met t k side p v w o))) (numbered_told 119 s)
    (λ w s hw. goes IsNumber IsTold (decimal_in s) (λ o s. Some (met t k side p v w o)) (decimal_told s)
    (λ o s ho. record { shown = (ht, hk, hp, hv.1, hw, ho); values = (hv.0, tt) })))))))

parked_told : (s : List ℕ) → Event (parked_read s)
parked_told s =
    goes IsNumber IsTold (numbered_in 116 s) (λ t s. then (numbered_in 119 s) (λ w s. next_read (branches_read s) (λ bs. Some (parked t w bs)))) (numbered_told 116 s)
    (λ t s ht. goes IsNumber IsTold (numbered_in 119 s) (λ w s. next_read (branches_read s) (λ bs. Some (parked t w bs))) (numbered_told 119 s)
    (λ w s hw. onward (λ bs. Each BranchTold bs) IsTold (branches_read s) (λ bs. Some (parked t w bs)) (list_told BranchTold (λ s. branch_in (uncomma s)) (λ s. branch_told (uncomma s)) (length s) [] s tt)
    (λ bs h. record { shown = (ht, hw, branches_shown bs h); values = branches_are bs h })))

posted_told : (s : List ℕ) → Event (posted_in s)
posted_told s =
    goes IsNumber IsTold (numbered_in 116 s) (λ t s. then (numbered_in 119 s) (λ w s. then (numbered_in 112 s) (λ p s. then (value_field s) (λ v s. Some (posted t w p v))))) (numbered_told 116 s)
    (λ t s ht. goes IsNumber IsTold (numbered_in 119 s) (λ w s. then (numbered_in 112 s) (λ p s. then (value_field s) (λ v s. Some (posted t w p v)))) (numbered_told 119 s)
    (λ w s hw. goes IsNumber IsTold (numbered_in 112 s) (λ p s. then (value_field s) (λ v s. Some (posted t w p v))) (numbered_told 112 s)
    (λ p s hp. goes Told IsTold (value_field s) (λ v s. Some (posted t w p v)) (field_value_told s)
    (λ v s hv. record { shown = (ht, hw, hp, hv.1); values = (hv.0, tt) }))))

settled_told : (s : List ℕ) → Event (settled_in s)
settled_told s =
    goes IsNumber IsTold (numbered_in 119 s) (λ w s. then (decimal_in s) (λ k s. then (word_named side_named s) (λ side s. then (numbered_in 112 s) (λ p s. then (value_field s) (λ v s. Some (settled w k side p v)))))) (numbered_told 119 s)
    (λ w s hw. goes IsNumber IsTold (decimal_in s) (λ k s. then (word_named side_named s) (λ side s. then (numbered_in 112 s) (λ p s. then (value_field s) (λ v s. Some (settled w k side p v))))) (decimal_told s)
    (λ k s hk. goes Any IsTold (word_named side_named s) (λ side s. then (numbered_in 112 s) (λ p s. then (value_field s) (λ v s. Some (settled w k side p v)))) (any (word_named side_named s))
    (λ side s hside. goes IsNumber IsTold (numbered_in 112 s) (λ p s. then (value_field s) (λ v s. Some (settled w k side p v))) (numbered_told 112 s)
    (λ p s hp. goes Told IsTold (value_field s) (λ v s. Some (settled w k side p v)) (field_value_told s)
    (λ v s hv. record { shown = (hw, hk, hp, hv.1); values = (hv.0, tt) })))))

defaulted_told : (s : List ℕ) → Event (defaulted_in s)
defaulted_told s =
    goes IsNumber IsTold (numbered_in 116 s) (λ t s. then (value_field s) (λ v s. Some (defaulted t v))) (numbered_told 116 s)
    (λ t s ht. goes Told IsTold (value_field s) (λ v s. Some (defaulted t v)) (field_value_told s)
    (λ v s hv. record { shown = (ht, hv.1); values = (hv.0, tt) }))

closed_told : (s : List ℕ) → Event (closed_in s)
closed_told s =
    goes IsNumber IsTold (numbered_in 116 s) (λ t s. then (numbered_in 112 s) (λ p s. Some (closed t p))) (numbered_told 116 s)
    (λ t s ht. goes IsNumber IsTold (numbered_in 112 s) (λ p s. Some (closed t p)) (numbered_told 112 s)
    (λ p s hp. record { shown = (ht, hp); values = tt }))

registered_told : (s : List ℕ) → Event (registered_in s)
registered_told s =
    goes IsNumber IsTold (numbered_in 116 s) (λ t s. then (word_named name_named s) (λ name s. next_read (values_read s) (λ ts. next_read (arguments_parted ts) (λ p. Some (registered t name (trees_of p.0) p.1))))) (numbered_told 116 s)
    (λ t s ht. goes Any IsTold (word_named name_named s) (λ name s. next_read (values_read s) (λ ts. next_read (arguments_parted ts) (λ p. Some (registered t name (trees_of p.0) p.1)))) (any (word_named name_named s))
    (λ name s hn. onward (λ ts. Each Told ts) IsTold (values_read s) (λ ts. next_read (arguments_parted ts) (λ p. Some (registered t name (trees_of p.0) p.1))) (list_told Told value_field field_value_told (length s) [] s tt)
    (λ ts h. onward Registers IsTold (arguments_parted ts) (λ p. Some (registered t name (trees_of p.0) p.1)) (parted_told ts h) (λ p g. g t name ht))))

line_told : (t : ℕ) (line : List ℕ) → IsNumber t → Event (cond (nat_lt (length line) 131072) (Some (printed t line)) None)
line_told t line h = by (nat_lt (length line) 131072) refl where
  by : (b : Bool) → nat_lt (length line) 131072 ≡ b → Event (cond b (Some (printed t line)) None)
  by true e = let k : length line < 131072 = grind (arith, nat_tests) in record { shown = h; values = (record { regular = tt; light = omega (arith, k); shallow = omega arith }, tt) }
  by false e = tt

printed_told : (s : List ℕ) → Event (printed_in s)
printed_told s =
    goes IsNumber IsTold (numbered_in 116 s) (λ t s. then (byte_in 34 s) (λ x s. then (text_from [] s) (λ line s. cond (nat_lt (length line) 131072) (Some (printed t line)) None))) (numbered_told 116 s)
    (λ t s ht. goes Any IsTold (byte_in 34 s) (λ x s. then (text_from [] s) (λ line s. cond (nat_lt (length line) 131072) (Some (printed t line)) None)) (any (byte_in 34 s))
    (λ x s hx. goes Any IsTold (text_from [] s) (λ line s. cond (nat_lt (length line) 131072) (Some (printed t line)) None) (any (text_from [] s)) (λ line s hl. line_told t line ht)))

ticked_told : (s : List ℕ) → Event (ticked_in s)
ticked_told s =
    goes IsNumber IsTold (decimal_in s) (λ m s. next_read (ports_read s) (λ ports. Some (ticked m ports))) (decimal_told s)
    (λ m s hm. onward (λ ps. Each IsNumber ps) IsTold (ports_read s) (λ ports. Some (ticked m ports)) (list_told IsNumber (numbered_in 112) (numbered_told 112) (length s) [] s tt) (λ ps h. record { shown = (hm, h); values = tt }))

ended_told : (s : List ℕ) → Event (ended_in s)
ended_told s = goes IsNumber IsTold (numbered_in 116 s) (λ t s. Some (over t Ended)) (numbered_told 116 s) (λ t s ht. record { shown = ht; values = tt })

faulted_told : (s : List ℕ) → Event (faulted_in s)
faulted_told s =
    goes IsNumber IsTold (numbered_in 116 s) (λ t s. then (word_named fault_named s) (λ fault s. then (place_in s) (λ place s. then (maybe_port_in s) (λ o s. Some (over t (Faulted fault place (port_read o))))))) (numbered_told 116 s)
    (λ t s ht. goes Any IsTold (word_named fault_named s) (λ fault s. then (place_in s) (λ place s. then (maybe_port_in s) (λ o s. Some (over t (Faulted fault place (port_read o)))))) (any (word_named fault_named s))
    (λ fault s hfault. goes IsPlace IsTold (place_in s) (λ place s. then (maybe_port_in s) (λ o s. Some (over t (Faulted fault place (port_read o))))) (place_told s)
    (λ place s hplace. goes MaybeNumber IsTold (maybe_port_in s) (λ o s. Some (over t (Faulted fault place (port_read o)))) (maybe_told s)
    (λ o s ho. record { shown = (ht, hplace.0, hplace.1, result_told o ho); values = tt }))))

by_told : (w s : List ℕ) → Event (event_by w s)
by_told w s =
    choice IsTold (bytes_eq w (codes "make")) _ _ (made_told s) (
    choice IsTold (bytes_eq w (codes "spawn")) _ _ (spawned_told s) (
    choice IsTold (bytes_eq w (codes "done")) _ _ (done_told s) (
    choice IsTold (bytes_eq w (codes "meet")) _ _ (met_told s) (
    choice IsTold (bytes_eq w (codes "park")) _ _ (parked_told s) (
    choice IsTold (bytes_eq w (codes "post")) _ _ (posted_told s) (
    choice IsTold (bytes_eq w (codes "settle")) _ _ (settled_told s) (
    choice IsTold (bytes_eq w (codes "default")) _ _ (defaulted_told s) (
    choice IsTold (bytes_eq w (codes "close")) _ _ (closed_told s) (
    choice IsTold (bytes_eq w (codes "register")) _ _ (registered_told s) (
    choice IsTold (bytes_eq w (codes "print")) _ _ (printed_told s) (
    choice IsTold (bytes_eq w (codes "tick")) _ _ (ticked_told s) (
    choice IsTold (bytes_eq w (codes "end")) _ _ (ended_told s) (
    choice IsTold (bytes_eq w (codes "fault")) _ None (faulted_told s) tt)))))))))))))

pub event_told : (s : List ℕ) (e : EventView) → entry_in s ≡ Some e → IsTold e
event_told s e is = there (entry_in s) e is (goes IsNumber IsTold (decimal_in s) (λ k s. event_in s) (decimal_told s) (λ k s h. by_told (word_in s).0 (word_in s).1)) where
  there : (o : Option EventView) (e : EventView) → o ≡ Some e → Event o → IsTold e
  there o e is h = subst (λ (o : Option EventView). Event o) is h
