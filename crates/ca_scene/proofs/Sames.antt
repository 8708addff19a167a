-- The tests of sameness tell exactly what is one.
use Rattle.std.proofs.Common.{◌≡◌, ℕ, List, [], ◌∷◌, refl, sym, ap, ap₂, ◌∙◌, subst, Option, Some, None, Bool, true, false, ◌&&◌, eqb, eqb-true, eq-eqb, get_or}
use Rattle.std.proofs.lemmas.Bool.{and_parts, and_from}
use Rattle.ca_value.specs.Tree.{Tree, Trees}
pub use Rattle.ca_value.proofs.SameLaws.{same_true, same_from, same_items_from, items_true}
use Rattle.ca_term.specs.declared.place.Place.{Place}
use Rattle.ca_term.specs.declared.fault.Fault.{Fault}
use Rattle.ca_term.specs.declared.fault.Fault.TheVariants.{Overflow, ZeroDivisor, WrongKind, OutOfRange, TooHeavy, TooNested, Spun, TooDeep, TooManyTakes, TooManyPuts, NilPut, NoPorts, NotAPort, TooManyPorts, TooManyMembers}
use Rattle.ca_term.specs.declared.event.TaskKind.{TaskKind}
use Rattle.ca_term.specs.declared.event.TaskKind.TheVariants.{Go, Mult as MultTask, Deliver, Mix as MixTask, Pub as PubTask, Pipe, Merge, Onto, Feed, Job, Collect}
use Rattle.ca_term.specs.declared.head.RegisterName.{RegisterName}
use Rattle.ca_term.specs.declared.head.RegisterName.TheVariants.{Tap, Untap, UntapAll, Taps, Admix, Unmix, UnmixAll, Toggle, SoloMode, Modes, Find, Drop, Clear, Topics}
use Rattle.ca_term.specs.declared.event.Side.{Side}
use Rattle.ca_term.specs.declared.event.Side.TheVariants.{Take, Put}
use Rattle.ca_term.specs.Event.{BranchView, take_of, put_of}
use Rattle.ca_term.specs.Operation.{WhatView, unbuffered, fixed, dropping, sliding, promise, timeout, mult, mix, publication}
use Rattle.ca_scene.specs.Same.{same, same_items, same_side, same_branch, same_branches, same_numbers, same_number, same_what, fault_code, same_fault, same_place, name_code, same_name, same_kind}

pub never : {G : Type 0} → false ≡ true → G
never e = absurd (let k : false ≡ true = e in cc)

pub same_self : (a : Tree) → same a a ≡ true
same_self a = same_from a a refl

pub same_side_true : (a b : Side) → same_side a b ≡ true → a ≡ b
same_side_true Take Take e = refl
same_side_true Put Put e = refl
same_side_true a b e = never e

pub same_side_itself : (a : Side) → same_side a a ≡ true
same_side_itself Take = refl
same_side_itself Put = refl

pub same_branch_true : (a b : BranchView) → same_branch a b ≡ true → a ≡ b
same_branch_true (take_of p) (take_of q) e = ap take_of (eqb-true p q e)
same_branch_true (put_of p v) (put_of q u) e = let k = and_parts (eqb p q) (same v u) e in ap₂ put_of (eqb-true p q k.0) (same_true v u k.1)
same_branch_true (take_of p) (put_of q u) e = never e
same_branch_true (put_of p v) (take_of q) e = never e

pub same_branch_itself : (a : BranchView) → same_branch a a ≡ true
same_branch_itself (take_of p) = eq-eqb p p refl
same_branch_itself (put_of p v) = and_from (eqb p p) (same v v) (eq-eqb p p refl) (same_self v)

pub same_branches_true : (a b : List BranchView) → same_branches a b ≡ true → a ≡ b
same_branches_true [] [] e = refl
same_branches_true [] (b ∷ bs) e = never e
same_branches_true (a ∷ cs) [] e = never e
same_branches_true (a ∷ cs) (b ∷ bs) e = let k = and_parts (same_branch a b) (same_branches cs bs) e in ap₂ (λ (x : BranchView) (xs : List BranchView). x ∷ xs) (same_branch_true a b k.0) (same_branches_true cs bs k.1)

pub same_branches_itself : (a : List BranchView) → same_branches a a ≡ true
same_branches_itself [] = refl
same_branches_itself (a ∷ cs) = and_from (same_branch a a) (same_branches cs cs) (same_branch_itself a) (same_branches_itself cs)

pub same_numbers_true : (a b : List ℕ) → same_numbers a b ≡ true → a ≡ b
same_numbers_true [] [] e = refl
same_numbers_true [] (b ∷ bs) e = never e
same_numbers_true (a ∷ cs) [] e = never e
same_numbers_true (a ∷ cs) (b ∷ bs) e = let k = and_parts (eqb a b) (same_numbers cs bs) e in ap₂ (λ (x : ℕ) (xs : List ℕ). x ∷ xs) (eqb-true a b k.0) (same_numbers_true cs bs k.1)

pub same_numbers_itself : (a : List ℕ) → same_numbers a a ≡ true
same_numbers_itself [] = refl
same_numbers_itself (a ∷ cs) = and_from (eqb a a) (same_numbers cs cs) (eq-eqb a a refl) (same_numbers_itself cs)

pub same_number_true : (a b : Option ℕ) → same_number a b ≡ true → a ≡ b
same_number_true None None e = refl
same_number_true None (Some b) e = never e
same_number_true (Some a) None e = never e
same_number_true (Some a) (Some b) e = ap (λ (n : ℕ). Some n) (eqb-true a b e)

pub same_number_itself : (a : Option ℕ) → same_number a a ≡ true
same_number_itself None = refl
same_number_itself (Some a) = eq-eqb a a refl

pub same_what_true : (a b : WhatView) → same_what a b ≡ true → a ≡ b
same_what_true unbuffered unbuffered e = refl
same_what_true (fixed a) (fixed b) e = ap fixed (eqb-true a b e)
same_what_true (dropping a) (dropping b) e = ap dropping (eqb-true a b e)
same_what_true (sliding a) (sliding b) e = ap sliding (eqb-true a b e)
same_what_true promise promise e = refl
same_what_true (timeout a) (timeout b) e = ap timeout (eqb-true a b e)
same_what_true (mult a) (mult b) e = ap mult (same_true a b e)
same_what_true (mix a c) (mix b d) e = let k = and_parts (same a b) (same c d) e in ap₂ mix (same_true a b k.0) (same_true c d k.1)
same_what_true (publication a) (publication b) e = ap publication (same_true a b e)
same_what_true a b e = never e

pub same_what_itself : (a : WhatView) → same_what a a ≡ true
same_what_itself unbuffered = refl
same_what_itself (fixed a) = eq-eqb a a refl
same_what_itself (dropping a) = eq-eqb a a refl
same_what_itself (sliding a) = eq-eqb a a refl
same_what_itself promise = refl
same_what_itself (timeout a) = eq-eqb a a refl
same_what_itself (mult a) = same_self a
same_what_itself (mix a c) = and_from (same a a) (same c c) (same_self a) (same_self c)
same_what_itself (publication a) = same_self a

-- what has the code of a fault is that fault
abbrev fault_by : ℕ → Fault
fault_by n = get_or (Overflow ∷ ZeroDivisor ∷ WrongKind ∷ OutOfRange ∷ TooHeavy ∷ TooNested ∷ Spun ∷ TooDeep ∷ TooManyTakes ∷ TooManyPuts ∷ NilPut ∷ NoPorts ∷ NotAPort ∷ TooManyPorts ∷ TooManyMembers ∷ []) n TooManyMembers

fault_back : (f : Fault) → fault_by (fault_code f) ≡ f
fault_back Overflow = refl
fault_back ZeroDivisor = refl
fault_back WrongKind = refl
fault_back OutOfRange = refl
fault_back TooHeavy = refl
fault_back TooNested = refl
fault_back Spun = refl
fault_back TooDeep = refl
fault_back TooManyTakes = refl
fault_back TooManyPuts = refl
fault_back NilPut = refl
fault_back NoPorts = refl
fault_back NotAPort = refl
fault_back TooManyPorts = refl
fault_back TooManyMembers = refl

pub same_fault_true : (a b : Fault) → same_fault a b ≡ true → a ≡ b
same_fault_true a b e = sym (fault_back a) ∙ ap fault_by (eqb-true (fault_code a) (fault_code b) e) ∙ fault_back b

pub same_fault_itself : (a : Fault) → same_fault a a ≡ true
same_fault_itself a = eq-eqb (fault_code a) (fault_code a) refl

pub same_place_true : (a b : Place) → same_place a b ≡ true → a ≡ b
same_place_true a b e = let k = and_parts (eqb a.line b.line) (eqb a.column b.column) e in ap₂ (λ (l c : ℕ). record { line = l; column = c }) (eqb-true a.line b.line k.0) (eqb-true a.column b.column k.1)

pub same_place_itself : (a : Place) → same_place a a ≡ true
same_place_itself a = and_from (eqb a.line a.line) (eqb a.column a.column) (eq-eqb a.line a.line refl) (eq-eqb a.column a.column refl)

abbrev name_by : ℕ → RegisterName
name_by n = get_or (Tap ∷ Untap ∷ UntapAll ∷ Taps ∷ Admix ∷ Unmix ∷ UnmixAll ∷ Toggle ∷ SoloMode ∷ Modes ∷ Find ∷ RegisterName.Place ∷ Drop ∷ Clear ∷ Topics ∷ []) n Topics

name_back : (f : RegisterName) → name_by (name_code f) ≡ f
name_back Tap = refl
name_back Untap = refl
name_back UntapAll = refl
name_back Taps = refl
name_back Admix = refl
name_back Unmix = refl
name_back UnmixAll = refl
name_back Toggle = refl
name_back SoloMode = refl
name_back Modes = refl
name_back Find = refl
name_back RegisterName.Place = refl
name_back Drop = refl
name_back Clear = refl
name_back Topics = refl

pub same_name_true : (a b : RegisterName) → same_name a b ≡ true → a ≡ b
same_name_true a b e = sym (name_back a) ∙ ap name_by (eqb-true (name_code a) (name_code b) e) ∙ name_back b

pub same_name_itself : (a : RegisterName) → same_name a a ≡ true
same_name_itself a = eq-eqb (name_code a) (name_code a) refl

pub same_kind_true : (a b : TaskKind) → same_kind a b ≡ true → a ≡ b
same_kind_true Go Go e = refl
same_kind_true MultTask MultTask e = refl
same_kind_true Deliver Deliver e = refl
same_kind_true MixTask MixTask e = refl
same_kind_true PubTask PubTask e = refl
same_kind_true Pipe Pipe e = refl
same_kind_true Merge Merge e = refl
same_kind_true Onto Onto e = refl
same_kind_true Feed Feed e = refl
same_kind_true Job Job e = refl
same_kind_true Collect Collect e = refl
same_kind_true a b e = never e

pub same_kind_itself : (a : TaskKind) → same_kind a a ≡ true
same_kind_itself Go = refl
same_kind_itself MultTask = refl
same_kind_itself Deliver = refl
same_kind_itself MixTask = refl
same_kind_itself PubTask = refl
same_kind_itself Pipe = refl
same_kind_itself Merge = refl
same_kind_itself Onto = refl
same_kind_itself Feed = refl
same_kind_itself Job = refl
same_kind_itself Collect = refl
