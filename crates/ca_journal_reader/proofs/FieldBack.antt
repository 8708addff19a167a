-- The fields of a line are read again.
use Rattle.std.proofs.Common.{◌≡◌, ℕ, zero, suc, ◌+◌, ◌<◌, List, [], ◌∷◌, ◌++◌, length, refl, sym, ap, subst, ◌∙◌, arith, Option, Some, None, Bool, false, cond, eq-eqb, append_assoc, append-nil, length-append}
use Rattle.std.specs.Prelude.{codes}
use Rattle.std.specs.Fmt.{decimal}
use Rattle.ca_value.specs.Tree.{Tree, Trees, nil, bool, int, text, key, vector, map as map_tree, port, none, item, items_of}
use Rattle.ca_value.specs.declared.print.Style.TheVariants.{Readable}
use Rattle.ca_value.specs.Printed.{printed_value, printed_more, readable_text, readable_items}
use Rattle.ca_value.specs.IsValue.{written, IsValue, AreValues}
use Rattle.ca_term.specs.declared.place.Place.{Place}
use Rattle.ca_term.specs.declared.fault.Fault.{Fault}
use Rattle.ca_term.specs.declared.event.Side.{Side}
use Rattle.ca_term.specs.declared.event.TaskKind.{TaskKind}
use Rattle.ca_term.specs.declared.head.RegisterName.{RegisterName}
use Rattle.ca_term.specs.Event.{BranchView, take_of, put_of}
use Rattle.ca_term.specs.Operation.{WhatView, unbuffered, fixed, dropping, sliding, promise, timeout, mult, mix, publication}
use Rattle.ca_meaning.specs.Sound.{Each}
use Rattle.ca_meaning.specs.Texts.{◌⋅◌, fault_text, place_text}
use Rattle.ca_meaning.specs.Journal.{port_text, maybe_port_text, side_text, what_text, kind_text, name_text, branch_text, branches_text, ports_text}
use Rattle.ca_meaning.specs.Shown.{IsNumber, IsShown, AreShown, IsPort, WhatShown, MaybeNumber}
use Rattle.ca_meaning.proofs.LineWords.{Ends}
use Rattle.ca_journal_reader.specs.Found.{Found, then}
use Rattle.ca_journal_reader.specs.Words.{is_first, byte_in, number_in, unspaced, word_in, decimal_in, numbered_in, field}
use Rattle.ca_journal_reader.specs.ValueText.{value_field, uncomma}
use Rattle.ca_journal_reader.specs.FieldText.{word_named, side_named, kind_named, name_named, fault_named, maybe_port_in, place_in, sized_in, timeout_in, from_port_in, mix_in, what_in, branch_in, list_in, branches_read, ports_read, values_read, and_rest, arguments_parted}
use Rattle.ca_journal_reader.specs.Input.{and_last}
use Rattle.ca_journal_reader.proofs.Numbers.{IsStop, number_back}
use Rattle.ca_journal_reader.proofs.Loops.{list_step}
use Rattle.ca_journal_reader.proofs.ValueBack.{then_is, ends_stop, no_first, printed_there, field_back}

-- numbers
decimal_back : (n : ℕ) (r : List ℕ) → IsNumber n → IsStop r → decimal_in (decimal n ++ r) ≡ Some (n, unspaced r)
decimal_back n r lt e = ap (λ (o : Found ℕ). field o) (number_back n r lt e)

pub cut_decimal : (n : ℕ) (x r : List ℕ) → IsNumber n → decimal_in ((decimal n ⋅ x) ++ r) ≡ Some (n, x ++ r)
cut_decimal n x r lt = ap decimal_in (append_assoc (decimal n) (32 ∷ x) r) ∙ decimal_back n (32 ∷ (x ++ r)) lt refl

pub end_decimal : (n : ℕ) (r : List ℕ) → IsNumber n → decimal_in (decimal n ++ (10 ∷ r)) ≡ Some (n, 10 ∷ r)
end_decimal n r lt = decimal_back n (10 ∷ r) lt refl

numbered_back : (c n : ℕ) (r : List ℕ) → IsNumber n → IsStop r → numbered_in c ((c ∷ decimal n) ++ r) ≡ Some (n, unspaced r)
numbered_back c n r lt e =
    then_is (byte_in c (c ∷ (decimal n ++ r))) (λ x rest. decimal_in rest) tt (decimal n ++ r) _ (ap (λ (b : Bool). cond {A = Found (Unit {0})} b (Some (tt, decimal n ++ r)) None) (eq-eqb c c refl)) (decimal_back n r lt e)

pub cut_numbered : (c n : ℕ) (x r : List ℕ) → IsNumber n → numbered_in c (((c ∷ decimal n) ⋅ x) ++ r) ≡ Some (n, x ++ r)
cut_numbered c n x r lt = ap (numbered_in c) (append_assoc (c ∷ decimal n) (32 ∷ x) r) ∙ numbered_back c n (32 ∷ (x ++ r)) lt refl

pub end_numbered : (c n : ℕ) (r : List ℕ) → IsNumber n → numbered_in c ((c ∷ decimal n) ++ (10 ∷ r)) ≡ Some (n, 10 ∷ r)
end_numbered c n r lt = numbered_back c n (10 ∷ r) lt refl

-- values
pub cut_value : (v : Tree) (x r : List ℕ) → IsValue written v → IsShown v → value_field ((readable_text v ⋅ x) ++ r) ≡ Some (v, x ++ r)
cut_value v x r w h = ap value_field (append_assoc (readable_text v) (32 ∷ x) r) ∙ field_back v (32 ∷ (x ++ r)) w h refl

pub end_value : (v : Tree) (r : List ℕ) → IsValue written v → IsShown v → value_field (readable_text v ++ (10 ∷ r)) ≡ Some (v, 10 ∷ r)
end_value v r w h = field_back v (10 ∷ r) w h refl

-- words
pub cut_side : (w : Side) (x r : List ℕ) → word_named side_named ((side_text w ⋅ x) ++ r) ≡ Some (w, x ++ r)
cut_side Side.Take x r = refl
cut_side Side.Put x r = refl

pub cut_kind : (w : TaskKind) (x r : List ℕ) → word_named kind_named ((kind_text w ⋅ x) ++ r) ≡ Some (w, x ++ r)
cut_kind TaskKind.Go x r = refl
cut_kind TaskKind.Mult x r = refl
cut_kind TaskKind.Deliver x r = refl
cut_kind TaskKind.Mix x r = refl
cut_kind TaskKind.Pub x r = refl
cut_kind TaskKind.Pipe x r = refl
cut_kind TaskKind.Merge x r = refl
cut_kind TaskKind.Onto x r = refl
cut_kind TaskKind.Feed x r = refl
cut_kind TaskKind.Job x r = refl
cut_kind TaskKind.Collect x r = refl

pub cut_name : (w : RegisterName) (x r : List ℕ) → word_named name_named ((name_text w ⋅ x) ++ r) ≡ Some (w, x ++ r)
cut_name RegisterName.Tap x r = refl
cut_name RegisterName.Untap x r = refl
cut_name RegisterName.UntapAll x r = refl
cut_name RegisterName.Taps x r = refl
cut_name RegisterName.Admix x r = refl
cut_name RegisterName.Unmix x r = refl
cut_name RegisterName.UnmixAll x r = refl
cut_name RegisterName.Toggle x r = refl
cut_name RegisterName.SoloMode x r = refl
cut_name RegisterName.Modes x r = refl
cut_name RegisterName.Find x r = refl
cut_name RegisterName.Place x r = refl
cut_name RegisterName.Drop x r = refl
cut_name RegisterName.Clear x r = refl
cut_name RegisterName.Topics x r = refl

pub cut_fault : (w : Fault) (x r : List ℕ) → word_named fault_named ((fault_text w ⋅ x) ++ r) ≡ Some (w, x ++ r)
cut_fault Fault.Overflow x r = refl
cut_fault Fault.ZeroDivisor x r = refl
cut_fault Fault.WrongKind x r = refl
cut_fault Fault.OutOfRange x r = refl
cut_fault Fault.TooHeavy x r = refl
cut_fault Fault.TooNested x r = refl
cut_fault Fault.Spun x r = refl
cut_fault Fault.TooDeep x r = refl
cut_fault Fault.TooManyTakes x r = refl
cut_fault Fault.TooManyPuts x r = refl
cut_fault Fault.NilPut x r = refl
cut_fault Fault.NoPorts x r = refl
cut_fault Fault.NotAPort x r = refl
cut_fault Fault.TooManyPorts x r = refl
cut_fault Fault.TooManyMembers x r = refl

-- a result port
pub end_maybe : (o : Option ℕ) (r : List ℕ) → MaybeNumber o → maybe_port_in (maybe_port_text o ++ (10 ∷ r)) ≡ Some (o, 10 ∷ r)
end_maybe None r h = refl
end_maybe (Some p) r h = then_is (numbered_in 112 (port_text p ++ (10 ∷ r))) (λ p rest. Some (Some p, rest)) p (10 ∷ r) _ (end_numbered 112 p r h) refl

-- a place
pub cut_place : (p : Place) (x r : List ℕ) → IsNumber p.line → IsNumber p.column → place_in ((place_text p ⋅ x) ++ r) ≡ Some (p, x ++ r)
cut_place p x r hl hc =
    ap place_in (append_assoc (place_text p) (32 ∷ x) r ∙ append_assoc (decimal p.line) (58 ∷ decimal p.column) (32 ∷ (x ++ r)))
    ∙ then_is (number_in (decimal p.line ++ (58 ∷ (decimal p.column ++ (32 ∷ (x ++ r)))))) (λ line rest. then (byte_in 58 rest) (λ y rest. then (decimal_in rest) (λ column rest. Some (record { line = line; column = column }, rest)))) p.line (58 ∷ (decimal p.column ++ (32 ∷ (x ++ r)))) _ (number_back p.line (58 ∷ (decimal p.column ++ (32 ∷ (x ++ r)))) hl refl)
    (then_is (decimal_in (decimal p.column ++ (32 ∷ (x ++ r)))) (λ column rest. Some (record { line = p.line; column = column }, rest)) p.column (x ++ r) _ (decimal_back p.column (32 ∷ (x ++ r)) hc refl) refl)

-- what is made
abbrev Made : Type 0
Made = WhatView × Option ℕ

abbrev MadeBack : WhatView → Option ℕ → List ℕ → Type 0
MadeBack w m r = what_in (what_text w m ++ (10 ∷ r)) ≡ Some ((w, m), 10 ∷ r)

without : (w : WhatView) (m : Option ℕ) (r : List ℕ) → m ≡ None → MadeBack w None r → MadeBack w m r
without w m r e h = subst (λ (n : Option ℕ). MadeBack w n r) (sym e) h

sized : (f : ℕ → WhatView) (n : ℕ) (r : List ℕ) → IsNumber n → sized_in f (decimal n ++ (10 ∷ r)) ≡ Some ((f n, None), 10 ∷ r)
sized f n r h = then_is (decimal_in (decimal n ++ (10 ∷ r))) (λ n rest. Some ((f n, None), rest)) n (10 ∷ r) _ (end_decimal n r h) refl

port_is : (v : Tree) → IsPort v → (n : ℕ) × (v ≡ port n) × (IsNumber n)
port_is (port n) h = (n, refl, h)
port_is nil h = absurd h
port_is (bool b) h = absurd h
port_is (int z) h = absurd h
port_is (text s) h = absurd h
port_is (key s) h = absurd h
port_is (vector ts) h = absurd h
port_is (map_tree ps) h = absurd h

from_port : (f : Tree → WhatView) (n : ℕ) (r : List ℕ) → IsNumber n → from_port_in f (port_text n ++ (10 ∷ r)) ≡ Some ((f (port n), None), 10 ∷ r)
from_port f n r h = then_is (numbered_in 112 (port_text n ++ (10 ∷ r))) (λ p rest. Some ((f (port p), None), rest)) n (10 ∷ r) _ (end_numbered 112 n r h) refl

mix_back : (m n : ℕ) (r : List ℕ) → IsNumber m → IsNumber n → mix_in ((port_text m ⋅ port_text n) ++ (10 ∷ r)) ≡ Some ((mix (port m) (port n), None), 10 ∷ r)
mix_back m n r g h =
    then_is (numbered_in 112 ((port_text m ⋅ port_text n) ++ (10 ∷ r))) (λ out rest. then (numbered_in 112 rest) (λ changes rest. Some ((mix (port out) (port changes), None), rest))) m (port_text n ++ (10 ∷ r)) _ (cut_numbered 112 m (port_text n) (10 ∷ r) g)
    (then_is (numbered_in 112 (port_text n ++ (10 ∷ r))) (λ changes rest. Some ((mix (port m) (port changes), None), rest)) n (10 ∷ r) _ (end_numbered 112 n r h) refl)

timeout_back : (n k : ℕ) (r : List ℕ) → IsNumber n → IsNumber k → timeout_in ((decimal n ⋅ codes "at" ⋅ decimal k) ++ (10 ∷ r)) ≡ Some ((timeout n, Some k), 10 ∷ r)
timeout_back n k r g h =
    then_is (decimal_in ((decimal n ⋅ codes "at" ⋅ decimal k) ++ (10 ∷ r))) (λ n rest. then (decimal_in (word_in rest).1) (λ moment rest. Some ((timeout n, Some moment), rest))) n ((codes "at" ⋅ decimal k) ++ (10 ∷ r)) _ (cut_decimal n (codes "at" ⋅ decimal k) (10 ∷ r) g)
    (then_is (decimal_in (decimal k ++ (10 ∷ r))) (λ moment rest. Some ((timeout n, Some moment), rest)) k (10 ∷ r) _ (end_decimal k r h) refl)

pub what_back : (w : WhatView) (m : Option ℕ) (r : List ℕ) → WhatShown w m → MadeBack w m r
what_back unbuffered m r h = without unbuffered m r h refl
what_back promise m r h = without promise m r h refl
what_back (fixed n) m r h = without (fixed n) m r h.1 (sized (λ n. fixed n) n r h.0)
what_back (dropping n) m r h = without (dropping n) m r h.1 (sized (λ n. dropping n) n r h.0)
what_back (sliding n) m r h = without (sliding n) m r h.1 (sized (λ n. sliding n) n r h.0)
what_back (timeout n) None r h = absurd h
what_back (timeout n) (Some k) r h = timeout_back n k r h.0 h.1
what_back (mult v) m r h = let p = port_is v h.0 in subst (λ (t : Tree). MadeBack (mult t) m r) (sym p.1) (without (mult (port p.0)) m r h.1 (from_port (λ v. mult v) p.0 r p.2))
what_back (publication v) m r h = let p = port_is v h.0 in subst (λ (t : Tree). MadeBack (publication t) m r) (sym p.1) (without (publication (port p.0)) m r h.1 (from_port (λ v. publication v) p.0 r p.2))
what_back (mix v w) m r h =
    let p = port_is v h.0 in
    let q = port_is w h.1 in
    subst (λ (t : Tree). MadeBack (mix t w) m r) (sym p.1) (subst (λ (t : Tree). MadeBack (mix (port p.0) t) m r) (sym q.1) (without (mix (port p.0) (port q.0)) m r h.2 (mix_back p.0 q.0 r p.2 q.2)))

-- branches
abbrev pub BranchGood : BranchView → Type 0
BranchGood (take_of p) = IsNumber p
BranchGood (put_of p v) = IsNumber p × IsValue written v × IsShown v

branch_back : (b : BranchView) (r : List ℕ) → BranchGood b → Ends r → branch_in (branch_text b ++ r) ≡ Some (b, unspaced r)
branch_back (take_of p) r h e = then_is (numbered_in 112 (port_text p ++ r)) (λ p rest. Some (take_of p, rest)) p (unspaced r) _ (numbered_back 112 p r h (ends_stop r e)) refl
branch_back (put_of p v) r h e =
    then_is (numbered_in 112 ((port_text p ⋅ readable_text v) ++ r)) (λ p rest. then (value_field rest) (λ v rest. Some (put_of p v, rest))) p (readable_text v ++ r) _ (cut_numbered 112 p (readable_text v) r h.0)
    (then_is (value_field (readable_text v ++ r)) (λ v rest. Some (put_of p v, rest)) v (unspaced r) _ (field_back v r h.1 h.2 e) refl)

pub cut_branch : (b : BranchView) (x r : List ℕ) → BranchGood b → branch_in ((branch_text b ⋅ x) ++ r) ≡ Some (b, x ++ r)
cut_branch b x r h = ap branch_in (append_assoc (branch_text b) (32 ∷ x) r) ∙ branch_back b (32 ∷ (x ++ r)) h refl

abbrev Each_branch : List ℕ → Found BranchView
Each_branch s = branch_in (uncomma s)

-- each behind a comma and a space
abbrev more_branches : List BranchView → List ℕ
more_branches [] = []
more_branches (b ∷ bs) = 44 ∷ (32 ∷ (branch_text b ++ more_branches bs))

more_cons : (b : BranchView) (bs : List BranchView) → branches_text (b ∷ bs) ≡ branch_text b ++ more_branches bs
more_cons b [] = sym (append-nil (branch_text b))
more_cons b (c ∷ bs) = ap (λ (s : List ℕ). branch_text b ++ (44 ∷ (32 ∷ s))) (more_cons c bs)

no_space : (bs : List BranchView) (r : List ℕ) → unspaced (more_branches bs ++ (10 ∷ r)) ≡ more_branches bs ++ (10 ∷ r)
no_space [] r = refl
no_space (b ∷ bs) r = refl

more_end : (bs : List BranchView) (r : List ℕ) → Ends (more_branches bs ++ (10 ∷ r))
more_end [] r = refl
more_end (b ∷ bs) r = refl

branch_first : (b : BranchView) (x : List ℕ) → (is_first 10 (branch_text b ++ x) ≡ false) × (uncomma (branch_text b ++ x) ≡ branch_text b ++ x)
branch_first (take_of p) x = (refl, refl)
branch_first (put_of p v) x = (refl, refl)

next_branch : (b : BranchView) (bs : List BranchView) (r : List ℕ) → BranchGood b → branch_in (branch_text b ++ (more_branches bs ++ (10 ∷ r))) ≡ Some (b, more_branches bs ++ (10 ∷ r))
next_branch b bs r h = branch_back b (more_branches bs ++ (10 ∷ r)) h (more_end bs r) ∙ ap (λ (z : List ℕ). Some (b, z)) (no_space bs r)

branches_go : (bs : List BranchView) (n : ℕ) (said : List BranchView) (r : List ℕ) → Each BranchGood bs → length bs < n → list_in Each_branch n said (more_branches bs ++ (10 ∷ r)) ≡ Some (said ++ bs)
branches_go bs zero said r h lt = absurd (omega (arith, lt))
branches_go [] (suc n) said r h lt = ap (λ (z : List BranchView). Some z) (sym (append-nil said))
branches_go (b ∷ bs) (suc n) said r h lt =
    let x = more_branches bs ++ (10 ∷ r) in
    let s = 44 ∷ (32 ∷ ((branch_text b ++ more_branches bs) ++ (10 ∷ r))) in
    let is : Each_branch s ≡ Some (b, x) = ap branch_in (append_assoc (branch_text b) (more_branches bs) (10 ∷ r)) ∙ next_branch b bs r h.0 in
    sym (list_step Each_branch (suc n) n said (said ++ b ∷ []) s x b refl refl is refl)
    ∙ branches_go bs n (said ++ b ∷ []) r h.1 (omega (arith, lt))
    ∙ ap (λ (z : List BranchView). Some z) (append_assoc said (b ∷ []) bs)

more_length : (bs : List BranchView) (r : List ℕ) → length bs < length (more_branches bs ++ (10 ∷ r))
more_length [] r = omega arith
more_length (b ∷ bs) r =
    let k = more_length bs r in
    let e : length ((branch_text b ++ more_branches bs) ++ (10 ∷ r)) ≡ length (branch_text b) + length (more_branches bs ++ (10 ∷ r)) = ap length (append_assoc (branch_text b) (more_branches bs) (10 ∷ r)) ∙ length-append (branch_text b) (more_branches bs ++ (10 ∷ r)) in
    omega (arith, k, e)

branch_length : (b : BranchView) (x : List ℕ) → length x < length (branch_text b ++ x)
branch_length (take_of p) x = let e = length-append (branch_text (take_of p)) x in omega (arith, e)
branch_length (put_of p v) x = let e = length-append (branch_text (put_of p v)) x in omega (arith, e)

pub branches_back : (bs : List BranchView) (r : List ℕ) → Each BranchGood bs → branches_read (branches_text bs ++ (10 ∷ r)) ≡ Some bs
branches_back [] r h = refl
branches_back (b ∷ bs) r h = ap branches_read (ap (λ z. z ++ (10 ∷ r)) (more_cons b bs) ∙ append_assoc (branch_text b) (more_branches bs) (10 ∷ r)) ∙ by (length (branch_text b ++ x)) (let k = branch_length b x in let j = more_length bs r in omega (arith, k, j)) where
  x : List ℕ
  x = more_branches bs ++ (10 ∷ r)

  by : (n : ℕ) → suc (length bs) < n → list_in Each_branch n [] (branch_text b ++ (more_branches bs ++ (10 ∷ r))) ≡ Some (b ∷ bs)
  by zero lt = absurd (omega (arith, lt))
  by (suc n) lt =
      let y = more_branches bs ++ (10 ∷ r) in
      let f = branch_first b y in
      sym (list_step Each_branch (suc n) n [] (b ∷ []) (branch_text b ++ y) y b refl f.0 (ap branch_in f.1 ∙ next_branch b bs r h.0) refl)
      ∙ branches_go bs n (b ∷ []) r h.1 (omega (arith, lt))

-- ports
ports_stop : (ps : List ℕ) (r : List ℕ) → IsStop (ports_text ps ++ (10 ∷ r))
ports_stop [] r = refl
ports_stop (p ∷ ps) r = refl

ports_go : (ps : List ℕ) (n : ℕ) (said r : List ℕ) → Each IsNumber ps → length ps < n → list_in (numbered_in 112) n said (unspaced (ports_text ps ++ (10 ∷ r))) ≡ Some (said ++ ps)
ports_go ps zero said r h lt = absurd (omega (arith, lt))
ports_go [] (suc n) said r h lt = ap (λ (z : List ℕ). Some z) (sym (append-nil said))
ports_go (p ∷ ps) (suc n) said r h lt =
    let x = ports_text ps ++ (10 ∷ r) in
    let is : numbered_in 112 ((port_text p ++ ports_text ps) ++ (10 ∷ r)) ≡ Some (p, unspaced x) = ap (numbered_in 112) (append_assoc (port_text p) (ports_text ps) (10 ∷ r)) ∙ numbered_back 112 p x h.0 (ports_stop ps r) in
    sym (list_step (numbered_in 112) (suc n) n said (said ++ p ∷ []) ((port_text p ++ ports_text ps) ++ (10 ∷ r)) (unspaced x) p refl refl is refl)
    ∙ ports_go ps n (said ++ p ∷ []) r h.1 (omega (arith, lt))
    ∙ ap (λ (z : List ℕ). Some z) (append_assoc said (p ∷ []) ps)

ports_length : (ps : List ℕ) (r : List ℕ) → length ps < length (unspaced (ports_text ps ++ (10 ∷ r)))
ports_length [] r = omega arith
ports_length (p ∷ ps) r = by (ports_long ps) where
  ports_long : (ps : List ℕ) → length ps < length (ports_text ps ++ (10 ∷ r))
  ports_long [] = omega arith
  ports_long (q ∷ qs) =
      let k = ports_long qs in
      let e : length ((port_text q ++ ports_text qs) ++ (10 ∷ r)) ≡ length (port_text q) + length (ports_text qs ++ (10 ∷ r)) = ap length (append_assoc (port_text q) (ports_text qs) (10 ∷ r)) ∙ length-append (port_text q) (ports_text qs ++ (10 ∷ r)) in
      omega (arith, k, e)

  by : length ps < length (ports_text ps ++ (10 ∷ r)) → suc (length ps) < length ((port_text p ++ ports_text ps) ++ (10 ∷ r))
  by k = let e : length ((port_text p ++ ports_text ps) ++ (10 ∷ r)) ≡ suc (length (decimal p)) + length (ports_text ps ++ (10 ∷ r)) = ap length (append_assoc (port_text p) (ports_text ps) (10 ∷ r)) ∙ length-append (port_text p) (ports_text ps ++ (10 ∷ r)) in omega (arith, k, e)

pub tick_back : (m : ℕ) (ps : List ℕ) (r : List ℕ) → IsNumber m → decimal_in ((decimal m ++ ports_text ps) ++ (10 ∷ r)) ≡ Some (m, unspaced (ports_text ps ++ (10 ∷ r)))
tick_back m ps r h = ap decimal_in (append_assoc (decimal m) (ports_text ps) (10 ∷ r)) ∙ decimal_back m (ports_text ps ++ (10 ∷ r)) h (ports_stop ps r)

pub ports_back : (ps : List ℕ) (r : List ℕ) → Each IsNumber ps → ports_read (unspaced (ports_text ps ++ (10 ∷ r))) ≡ Some ps
ports_back ps r h = ports_go ps (length (unspaced (ports_text ps ++ (10 ∷ r)))) [] r h (ports_length ps r)

-- the arguments of an operation and its answer
values_end : (ts : Trees) (r : List ℕ) → Ends (printed_more Readable ts ++ (10 ∷ r))
values_end none r = refl
values_end (item t ts) r = refl

abbrev count_of : Trees → ℕ
count_of none = 0
count_of (item t ts) = suc (count_of ts)

values_go : (ts : Trees) (n : ℕ) (said : List Tree) (r : List ℕ) → AreValues written ts → AreShown ts → count_of ts < n → list_in value_field n said (unspaced (printed_more Readable ts ++ (10 ∷ r))) ≡ Some (said ++ items_of ts)
values_go ts zero said r v h lt = absurd (omega (arith, lt))
values_go none (suc n) said r v h lt = ap (λ (z : List Tree). Some z) (sym (append-nil said))
values_go (item t ts) (suc n) said r v h lt =
    let x = printed_more Readable ts ++ (10 ∷ r) in
    let s = (printed_value Readable t ++ printed_more Readable ts) ++ (10 ∷ r) in
    let e = append_assoc (printed_value Readable t) (printed_more Readable ts) (10 ∷ r) in
    let is : value_field s ≡ Some (t, unspaced x) = ap value_field e ∙ field_back t x v.0 h.0 (values_end ts r) in
    sym (list_step value_field (suc n) n said (said ++ t ∷ []) s (unspaced x) t refl (ap (is_first 10) e ∙ no_first 10 t x h.0 refl) is refl)
    ∙ values_go ts n (said ++ t ∷ []) r v.1 h.1 (omega (arith, lt))
    ∙ ap (λ (z : List Tree). Some z) (append_assoc said (t ∷ []) (items_of ts))

values_length : (ts : Trees) (r : List ℕ) → count_of ts < length (printed_more Readable ts ++ (10 ∷ r))
values_length none r = omega arith
values_length (item t ts) r =
    let k = values_length ts r in
    let e : length ((printed_value Readable t ++ printed_more Readable ts) ++ (10 ∷ r)) ≡ length (printed_value Readable t) + length (printed_more Readable ts ++ (10 ∷ r)) = ap length (append_assoc (printed_value Readable t) (printed_more Readable ts) (10 ∷ r)) ∙ length-append (printed_value Readable t) (printed_more Readable ts ++ (10 ∷ r)) in
    omega (arith, k, e)

last_text : (ts : Trees) (v : Tree) → printed_more Readable ts ++ (32 ∷ readable_text v) ≡ printed_more Readable (and_last ts v)
last_text none v = ap (λ z. 32 ∷ z) (sym (append-nil (readable_text v)))
last_text (item t ts) v = ap (λ z. 32 ∷ z) (append_assoc (printed_value Readable t) (printed_more Readable ts) (32 ∷ readable_text v) ∙ ap (λ z. printed_value Readable t ++ z) (last_text ts v))

count_last : (ts : Trees) (v : Tree) → 0 < count_of (and_last ts v)
count_last none v = omega arith
count_last (item t ts) v = omega arith

shown_last : (ts : Trees) (v : Tree) → AreShown ts → IsShown v → AreShown (and_last ts v)
shown_last none v h k = (k, tt)
shown_last (item t ts) v h k = (h.0, shown_last ts v h.1 k)

pub values_back : (t : Tree) (ts : Trees) (v : Tree) (r : List ℕ) → AreValues written (and_last (item t ts) v) → AreShown (item t ts) → IsShown v
    → values_read ((readable_items (item t ts) ⋅ readable_text v) ++ (10 ∷ r)) ≡ Some (items_of (and_last (item t ts) v))
values_back t ts v r w h k =
    ap values_read shape ∙ values_go (item t us) (length s) [] r w (shown_last (item t ts) v h k) long where
      us : Trees
      us = and_last ts v

      s : List ℕ
      s = (printed_value Readable t ++ printed_more Readable us) ++ (10 ∷ r)

      shape : ((printed_value Readable t ++ printed_more Readable ts) ++ (32 ∷ readable_text v)) ++ (10 ∷ r) ≡ (printed_value Readable t ++ printed_more Readable (and_last ts v)) ++ (10 ∷ r)
      shape = ap (λ z. z ++ (10 ∷ r)) (append_assoc (printed_value Readable t) (printed_more Readable ts) (32 ∷ readable_text v) ∙ ap (λ z. printed_value Readable t ++ z) (last_text ts v))

      long : suc (count_of (and_last ts v)) < length ((printed_value Readable t ++ printed_more Readable (and_last ts v)) ++ (10 ∷ r))
      long =
          let k = values_length (and_last ts v) r in
          let j = printed_there t h.0 in
          let e : length ((printed_value Readable t ++ printed_more Readable (and_last ts v)) ++ (10 ∷ r)) ≡ length (printed_value Readable t) + length (printed_more Readable (and_last ts v) ++ (10 ∷ r)) = ap length (append_assoc (printed_value Readable t) (printed_more Readable (and_last ts v)) (10 ∷ r)) ∙ length-append (printed_value Readable t) (printed_more Readable (and_last ts v) ++ (10 ∷ r)) in
          omega (arith, k, j, e)

rest_back : (u : Tree) (ts : Trees) (v : Tree) → and_rest u (items_of (and_last ts v)) ≡ (u ∷ items_of ts, v)
rest_back u none v = refl
rest_back u (item t ts) v = ap (λ (p : List Tree × Tree). (u ∷ p.0, p.1)) (rest_back t ts v)

pub parted_back : (t : Tree) (ts : Trees) (v : Tree) → arguments_parted (items_of (and_last (item t ts) v)) ≡ Some (t ∷ items_of ts, v)
parted_back t none v = refl
parted_back t (item u ts) v = ap (λ (p : List Tree × Tree). Some (t ∷ p.0, p.1)) (rest_back u ts v)
