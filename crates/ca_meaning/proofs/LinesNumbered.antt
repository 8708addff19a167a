-- An event of a run is one that its line can show, where its numbers lie in 64 bits and what the program writes does so.
use Rattle.std.proofs.Common.{◌≡◌, ℕ, ℤ, pos, negsuc, List, [], ◌∷◌, Option, Some, None, Bool, true, false, refl, sym, subst, ◌∙◌, eqb-true, arith}
use Rattle.std.specs.Prelude.{◌==◌, ◌||◌, ◌&&◌}
use Rattle.std.specs.List.{list_all}
use Rattle.std.proofs.lemmas.Int.{ints}
use Rattle.ca_value.specs.Tree.{Tree, Trees, TreePairs, nil, bool, int, text, key, vector, map, port, none, item, empty, pair}
use Rattle.ca_value.specs.IsValue.{written, is_keyword, is_keyword_byte, IsRegular, AreRegular, ArePairsRegular, AreValues}
use Rattle.ca_value.specs.Numbers.{fits_64}
use Rattle.ca_term.specs.declared.event.Ending.TheVariants.{Ended, Faulted}
use Rattle.ca_term.specs.Operation.{WhatView, unbuffered, fixed, dropping, sliding, promise, timeout, mult, mix, publication}
use Rattle.ca_term.specs.Event.{EventView, BranchView, take_of, put_of, made, spawned, done, met, parked, posted, settled, defaulted, closed, registered, printed, ticked, over}
use Rattle.ca_meaning.specs.Sound.{Each}
use Rattle.ca_meaning.specs.RunValues.{OffersIn, EventHas}
use Rattle.ca_meaning.specs.Shown.{ends_word, Solid, IsShownInteger, IsShown, AreShown, PairsShown, IsPort, WhatShown, BranchShown, SomeShown, EventShown, IsSomePort, WhatTold, HasFirst, EventTold, PortsFit, AllPortsFit, PairsPortsFit, WhatNumbered, BranchNumbered, IsEventNumbered, IsWrittenRun}
use Rattle.ca_meaning.specs.Journal.{journal_text}
use Rattle.ca_meaning.proofs.ValueRuns.{run_holds}
use Rattle.ca_meaning.proofs.ValuesWritten.{written_of}
use Rattle.ca_meaning.proofs.LinesTold.{journal_told}
use Rattle.ca_meaning.proofs.LineMakes.{run_told}

-- a keyword has no byte that ends a word
differs : (b c : ℕ) → is_keyword_byte c ≡ false → is_keyword_byte b ≡ true → (b == c) ≡ false
differs b c e h = by (b == c) (eqb-true b c) where
  by : (t : Bool) → (t ≡ true → b ≡ c) → t ≡ false
  by false f = refl
  by true f = let k : true ≡ false = sym h ∙ subst (λ n. is_keyword_byte n ≡ false) (sym (f refl)) e in cc

neither : (a b : Bool) → a ≡ false → b ≡ false → (a || b) ≡ false
neither false b p q = q
neither true b p q = cc

goes_on_word : (b : ℕ) → is_keyword_byte b ≡ true → ends_word b ≡ false
goes_on_word b h =
    neither (b == 32) _ (differs b 32 refl h)
    (neither (b == 10) _ (differs b 10 refl h) (neither (b == 44) _ (differs b 44 refl h) (neither (b == 93) _ (differs b 93 refl h) (differs b 125 refl h))))

both : (a b : Bool) → (a && b) ≡ true → (a ≡ true) × (b ≡ true)
both true b e = (refl, e)
both false b e = cc

all_solid : (s : List ℕ) → list_all is_keyword_byte s ≡ true → Solid s
all_solid [] e = tt
all_solid (b ∷ s) e = let k = both (is_keyword_byte b) (list_all is_keyword_byte s) e in (goes_on_word b k.0, all_solid s k.1)

solid_keyword : (s : List ℕ) → is_keyword s ≡ true → Solid s
solid_keyword [] e = tt
solid_keyword (b ∷ s) e = all_solid (b ∷ s) e

integer_shown : (z : ℤ) → fits_64 z ≡ true → IsShownInteger z
integer_shown (pos n) e = grind (arith, ints)
integer_shown (negsuc n) e = grind (arith, ints)

mutual
  value_shown : (t : Tree) → IsRegular written t → PortsFit t → IsShown t
  value_shown nil r p = tt
  value_shown (bool b) r p = tt
  value_shown (int z) r p = integer_shown z r
  value_shown (text s) r p = tt
  value_shown (key s) r p = solid_keyword s r
  value_shown (vector ts) r p = values_shown ts r p
  value_shown (map ps) r p = pairs_shown ps r.1 p
  value_shown (port n) r p = p

  values_shown : (ts : Trees) → AreRegular written ts → AllPortsFit ts → AreShown ts
  values_shown none r p = tt
  values_shown (item t ts) r p = (value_shown t r.0 p.0, values_shown ts r.1 p.1)

  pairs_shown : (ps : TreePairs) → ArePairsRegular written ps → PairsPortsFit ps → PairsShown ps
  pairs_shown empty r p = tt
  pairs_shown (pair k v ps) r p = (value_shown k r.0 p.0, value_shown v r.1 p.1, pairs_shown ps r.2 p.2)

arguments_shown : (ts : Trees) → AreValues written ts → AllPortsFit ts → HasFirst ts → SomeShown ts
arguments_shown none v p h = absurd h
arguments_shown (item t ts) v p h = (value_shown t v.0.regular p.0, rest ts v.1 p.1) where
  rest : (ts : Trees) → AreValues written ts → AllPortsFit ts → AreShown ts
  rest none v p = tt
  rest (item t ts) v p = (value_shown t v.0.regular p.0, rest ts v.1 p.1)

port_shown : (v : Tree) → IsSomePort v → PortsFit v → IsPort v
port_shown (port n) i p = p
port_shown nil i p = absurd i
port_shown (bool b) i p = absurd i
port_shown (int z) i p = absurd i
port_shown (text s) i p = absurd i
port_shown (key s) i p = absurd i
port_shown (vector ts) i p = absurd i
port_shown (map ps) i p = absurd i

what_shown : (what : WhatView) (m : Option ℕ) → WhatTold what m → WhatNumbered what m → WhatShown what m
what_shown unbuffered m t n = t
what_shown promise m t n = t
what_shown (fixed k) m t n = (n, t)
what_shown (dropping k) m t n = (n, t)
what_shown (sliding k) m t n = (n, t)
what_shown (timeout k) None t n = absurd t
what_shown (timeout k) (Some m) t n = n
what_shown (mult source) m t n = (port_shown source t.0 n, t.1)
what_shown (mix out changes) m t n = (port_shown out t.0 n.0, port_shown changes t.1 n.1, t.2)
what_shown (publication source) m t n = (port_shown source t.0 n, t.1)

branch_shown : (b : BranchView) → OffersIn written b → BranchNumbered b → BranchShown b
branch_shown (take_of p) o n = n
branch_shown (put_of p v) o n = (n.0, value_shown v o.regular n.1)

branches_shown : (bs : List BranchView) → Each (OffersIn written) bs → Each BranchNumbered bs → Each BranchShown bs
branches_shown [] o n = tt
branches_shown (b ∷ bs) o n = (branch_shown b o.0 n.0, branches_shown bs o.1 n.1)

event_shown : (e : EventView) → EventHas written e → EventTold e → IsEventNumbered e → EventShown e
event_shown (made t p what moment) h d n = (n.0, n.1, what_shown what moment d n.2)
event_shown (spawned t u kind result) h d n = n
event_shown (done t k b a) h d n = (n.0, n.1, branch_shown b h.0 n.2, value_shown a h.1.regular n.3)
event_shown (met t k side p v w o) h d n = (n.0, n.1, n.2, value_shown v h.regular n.3, n.4, n.5)
event_shown (parked t w bs) h d n = (n.0, n.1, branches_shown bs h.0 n.2)
event_shown (posted t w p v) h d n = (n.0, n.1, n.2, value_shown v h.regular n.3)
event_shown (settled w k side p v) h d n = (n.0, n.1, n.2, value_shown v h.regular n.3)
event_shown (defaulted t v) h d n = (n.0, value_shown v h.regular n.1)
event_shown (closed t p) h d n = n
event_shown (registered t name args v) h d n = (n.0, arguments_shown args h.0 n.1 d, value_shown v h.2.regular n.2)
event_shown (printed t line) h d n = n
event_shown (ticked m ports) h d n = n
event_shown (over t Ended) h d n = n
event_shown (over t (Faulted fault place result)) h d n = n

events_shown : (es : List EventView) → Each (EventHas written) es → Each EventTold es → Each IsEventNumbered es → Each EventShown es
events_shown [] h d n = tt
events_shown (e ∷ es) h d n = (event_shown e h.0 d.0 n.0, events_shown es h.1 d.1 n.1)

pub run_shown : (journal : List EventView) → IsWrittenRun journal → Each EventShown journal
run_shown journal r =
    events_shown journal (run_holds written r.program (written_of written r.program r.checked r.constants) journal r.legal.state r.legal.reaches).1 (run_told r.program journal r.legal) r.numbered

pub runs_told : (es fs : List EventView) → IsWrittenRun es → IsWrittenRun fs → journal_text es ≡ journal_text fs → es ≡ fs
runs_told es fs p q e = journal_told es fs (run_shown es p) (run_shown fs q) e
