-- The round of a mult: the value that it took last from its source, and what it did since.
use Rattle.std.proofs.Common.{◌≡◌, ◌⊎◌, inl, inr, ℕ, zero, suc, List, [], ◌∷◌, ◌++◌, length, refl, sym, ap, ◌∙◌, subst, Bool, true, false, cond, Option, Some, None, eqb, append_assoc, append-nil}
use Rattle.ca_value.specs.Tree.{Tree, port}
use Rattle.ca_term.specs.declared.head.RegisterName.TheVariants.{Taps}
use Rattle.ca_meaning.specs.Registry.{TapView}
use Rattle.ca_meaning.specs.Asks.{Next, to, stop, fail, taps_in, one_of}
use Rattle.ca_meaning.specs.MultTable.{MultPorts, MultState, mult_takes, mult_reads, mult_spawns, mult_waits, mult_reads_last, mult_closes, acks_due}
use Rattle.ca_laws.specs.Deeds.{Deed, did_take, did_put, did_wait, did_post, did_default, did_make, did_spawn, did_close, did_register, did_print, did_end}
use Rattle.ca_networks.specs.Networks.{taken_from, tasks_started}
use Rattle.ca_networks.proofs.Lists.{no_one}

pub data Round : Type 0 where
  no_round : Round
  has_taken : Tree → Round
  -- the taps that it read, and the tasks that it started since, in order
  has_read : Tree → List TapView → List ℕ → Round
  -- what it read are no taps
  has_failed : Round

abbrev pub reads_for : Tree → Option (List TapView) → Round
reads_for v None = has_failed
reads_for v (Some ts) = has_read v ts []

abbrev pub reads_taps : Tree → Round → Round
reads_taps a (has_taken v) = reads_for v (taps_in a)
reads_taps a r = r

abbrev pub starts_one : ℕ → Round → Round
starts_one u (has_read v ts us) = has_read v ts (us ++ u ∷ [])
starts_one u r = r

abbrev pub round_after : MultPorts → Deed → Round → Round
round_after x (did_take k p v) r = cond (eqb p x.source) (has_taken v) r
round_after x (did_register name args a) r = reads_taps a r
round_after x (did_spawn u kind result) r = starts_one u r
round_after x d r = r

abbrev pub round_from : MultPorts → Round → List Deed → Round
round_from x r [] = r
round_from x r (d ∷ ds) = round_from x (round_after x d r) ds

abbrev pub round : MultPorts → List Deed → Round
round x ds = round_from x no_round ds

pub round_more : (x : MultPorts) (r : Round) (ds : List Deed) (d : Deed) → round_from x r (ds ++ d ∷ []) ≡ round_after x d (round_from x r ds)
round_more x r [] d = refl
round_more x r (c ∷ ds) d = round_more x (round_after x c r) ds d

pub round_join : (x : MultPorts) (r : Round) (ds es : List Deed) → round_from x r (ds ++ es) ≡ round_from x (round_from x r ds) es
round_join x r [] es = refl
round_join x r (d ∷ ds) es = round_join x (round_after x d r) ds es

not_it : (b : Bool) (a : Tree) (rest : List Tree) → cond b (a ∷ []) [] ++ rest ≡ [] → (b ≡ false) × (rest ≡ [])
not_it true a rest e = absurd (let k : a ∷ rest ≡ [] = e in cc)
not_it false a rest e = (refl, e)

-- until it takes again, it only starts tasks
pub round_since : (x : MultPorts) (v : Tree) (ts : List TapView) (us : List ℕ) (ds : List Deed) → taken_from x.source ds ≡ [] → round_from x (has_read v ts us) ds ≡ has_read v ts (us ++ tasks_started ds)
round_since x v ts us [] e = ap (has_read v ts) (sym (append-nil us))
round_since x v ts us (did_take k p a ∷ ds) e =
    let n = not_it (eqb p x.source) a (taken_from x.source ds) e in
    ap (λ b. round_from x (cond b (has_taken a) (has_read v ts us)) ds) n.0 ∙ round_since x v ts us ds n.1
round_since x v ts us (did_spawn u kind result ∷ ds) e = round_since x v ts (us ++ u ∷ []) ds e ∙ ap (has_read v ts) (append_assoc us (u ∷ []) (tasks_started ds))
round_since x v ts us (did_put k p w a ∷ ds) e = round_since x v ts us ds e
round_since x v ts us (did_wait w bs ∷ ds) e = round_since x v ts us ds e
round_since x v ts us (did_post w p i ∷ ds) e = round_since x v ts us ds e
round_since x v ts us (did_default i ∷ ds) e = round_since x v ts us ds e
round_since x v ts us (did_make p what m ∷ ds) e = round_since x v ts us ds e
round_since x v ts us (did_close p ∷ ds) e = round_since x v ts us ds e
round_since x v ts us (did_register name args a ∷ ds) e = round_since x v ts us ds e
round_since x v ts us (did_print line ∷ ds) e = round_since x v ts us ds e
round_since x v ts us (did_end how ∷ ds) e = round_since x v ts us ds e

pub failed_since : (x : MultPorts) (ds : List Deed) → taken_from x.source ds ≡ [] → round_from x has_failed ds ≡ has_failed
failed_since x [] e = refl
failed_since x (did_take k p a ∷ ds) e =
    let n = not_it (eqb p x.source) a (taken_from x.source ds) e in
    ap (λ b. round_from x (cond b (has_taken a) has_failed) ds) n.0 ∙ failed_since x ds n.1
failed_since x (did_spawn u kind result ∷ ds) e = failed_since x ds e
failed_since x (did_put k p w a ∷ ds) e = failed_since x ds e
failed_since x (did_wait w bs ∷ ds) e = failed_since x ds e
failed_since x (did_post w p i ∷ ds) e = failed_since x ds e
failed_since x (did_default i ∷ ds) e = failed_since x ds e
failed_since x (did_make p what m ∷ ds) e = failed_since x ds e
failed_since x (did_close p ∷ ds) e = failed_since x ds e
failed_since x (did_register name args a ∷ ds) e = failed_since x ds e
failed_since x (did_print line ∷ ds) e = failed_since x ds e
failed_since x (did_end how ∷ ds) e = failed_since x ds e

abbrev pub Fors : Type 1
Fors = Tree → List TapView → List ℕ → Type 0

-- all taps but the last ones have their tasks
abbrev pub RoundHas : Fors → Round → List TapView → Type 0
RoundHas F no_round left = Unit {0}
RoundHas F (has_taken v) left = ⊥
RoundHas F (has_read v ts us) left = (begun : List TapView) × (ts ≡ begun ++ left) × F v begun us
RoundHas F has_failed left = ⊥

-- its taps are read, if it took a value
abbrev pub IsRead : Round → Type 0
IsRead r = (v : Tree) → r ≡ has_taken v → ⊥

-- the round, and the tasks of which the mult has no answer yet
abbrev pub MultAt : Fors → Next MultState → Round → List ℕ → Type 0
MultAt F (to mult_takes) r p = (p ≡ []) × RoundHas F r []
MultAt F (to (mult_reads v)) r p = (p ≡ []) × (r ≡ has_taken v)
MultAt F (to (mult_spawns v tap taps k)) r p = (length p ≡ k) × (ts begun : List TapView) × (us : List ℕ) × (r ≡ has_read v ts us) × (ts ≡ begun ++ tap ∷ taps) × F v begun us
MultAt F (to (mult_waits k)) r p = (length p ≡ suc k) × RoundHas F r []
MultAt F (to mult_reads_last) r p = (v : Tree) × (r ≡ has_taken v)
MultAt F (to (mult_closes c cs)) r p = IsRead r
MultAt F stop r p = IsRead r
MultAt F (fail f) r p = IsRead r

pub round_to : (F G : Fors) → ((v : Tree) (ts : List TapView) (us : List ℕ) → F v ts us → G v ts us) → (r : Round) (left : List TapView) → RoundHas F r left → RoundHas G r left
round_to F G f no_round left k = tt
round_to F G f (has_taken v) left k = k
round_to F G f (has_read v ts us) left k = (k.0, k.1, f v k.0 us k.2)
round_to F G f has_failed left k = k

pub at_to : (F G : Fors) → ((v : Tree) (ts : List TapView) (us : List ℕ) → F v ts us → G v ts us) → (n : Next MultState) (r : Round) (p : List ℕ) → MultAt F n r p → MultAt G n r p
at_to F G f (to mult_takes) r p k = (k.0, round_to F G f r [] k.1)
at_to F G f (to (mult_reads v)) r p k = k
at_to F G f (to (mult_spawns v tap taps j)) r p k = (k.0, k.1, k.2, k.3, k.4, k.5, f v k.2 k.3 k.6)
at_to F G f (to (mult_waits j)) r p k = (k.0, round_to F G f r [] k.1)
at_to F G f (to mult_reads_last) r p k = k
at_to F G f (to (mult_closes c cs)) r p k = k
at_to F G f stop r p k = k
at_to F G f (fail g) r p k = k

-- after an answer, or where there are none
pub due_at : (F : Fors) (r : Round) (p : List ℕ) (k : ℕ) → length p ≡ k → RoundHas F r [] → MultAt F (acks_due k) r p
due_at F r p zero e h = (no_one p e, h)
due_at F r p (suc k) e h = (e, h)

-- a value was taken and its taps not read exactly where the mult reads them
abbrev pub Reads : Next MultState → Type 0
Reads n = ((v : Tree) × (n ≡ to (mult_reads v))) ⊎ (n ≡ to mult_reads_last)

pub reads_at : (F : Fors) (n : Next MultState) (r : Round) (p : List ℕ) (v : Tree) → MultAt F n r p → r ≡ has_taken v → Reads n
reads_at F (to mult_takes) r p v k e = absurd (subst (λ z. RoundHas F z []) e k.1)
reads_at F (to (mult_reads w)) r p v k e = inl (w, refl)
reads_at F (to (mult_spawns w tap taps j)) r p v k e = absurd (let q : has_read w k.1 k.3 ≡ has_taken v = sym k.4 ∙ e in cc)
reads_at F (to (mult_waits j)) r p v k e = absurd (subst (λ z. RoundHas F z []) e k.1)
reads_at F (to mult_reads_last) r p v k e = inr refl
reads_at F (to (mult_closes c cs)) r p v k e = absurd (k v e)
reads_at F stop r p v k e = absurd (k v e)
reads_at F (fail g) r p v k e = absurd (k v e)

-- each deed after those before it
abbrev pub ReadsNext : MultPorts → List Deed → Deed → Type 0
ReadsNext x before d = (v : Tree) → round x before ≡ has_taken v → (a : Tree) × (d ≡ did_register Taps (one_of (port x.mult)) a)

abbrev pub AllRead : MultPorts → List Deed → List Deed → Type 0
AllRead x before [] = Unit {0}
AllRead x before (d ∷ ds) = ReadsNext x before d × AllRead x (before ++ d ∷ []) ds

pub read_more : (x : MultPorts) (before ds : List Deed) (d : Deed) → AllRead x before ds → ReadsNext x (before ++ ds) d → AllRead x before (ds ++ d ∷ [])
read_more x before [] d a k = (subst (λ z. ReadsNext x z d) (append-nil before) k, tt)
read_more x before (c ∷ ds) d a k = (a.0, read_more x (before ++ c ∷ []) ds d a.1 (subst (λ z. ReadsNext x z d) (sym (append_assoc before (c ∷ []) ds)) k))

pub read_here : (x : MultPorts) (early before after : List Deed) (d : Deed) → AllRead x early (before ++ d ∷ after) → ReadsNext x (early ++ before) d
read_here x early [] after d a = subst (λ z. ReadsNext x z d) (sym (append-nil early)) a.0
read_here x early (c ∷ before) after d a = subst (λ z. ReadsNext x z d) (append_assoc early (c ∷ []) before) (read_here x (early ++ c ∷ []) before after d a.1)
