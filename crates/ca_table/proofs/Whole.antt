-- A part that was held and moved out.
use Rattle.std.proofs.Common.{◌≡◌, ℕ, List, refl, Option, None, Bool, true, false, cond, eqb}
use Rattle.std.specs.Map.{update}
use Rattle.ca_states.specs.ValidCode.{valid_code}
use Rattle.ca_states.specs.declared.valid_code.ValidCode.{ValidCode}
use Rattle.ca_table.specs.Parts.{contents_seen, part_of, part_seen}
use Rattle.ca_table.specs.declared.part.Part.{Part}

pub twice : {X : Type 0} (g : ℕ → Option X) (i : ℕ) (a b : Option X) → update eqb (update eqb g i a) i b ≡ update eqb g i b
twice {X} g i a b = λ t k. same (eqb i k) (g k) t where
  same : (c : Bool) (x : Option X) → cond c b (cond c a x) ≡ cond c b x
  same true x = refl
  same false x = refl

-- what it is shows the same, as a part of that many workers over that code
pub seen_whole : {A C : Type 0} (least faults : C → ℕ) (readings : C → Option (List ℕ)) (p : Part A C) (n : ℕ) (code : ValidCode) → p.workers ≡ n → valid_code p.code.value ≡ valid_code code → part_seen least faults readings p ≡ part_seen least faults readings (part_of n code p.contents)
seen_whole least faults readings p n code e f = λ t. record { workers = e t; code = f t; held = contents_seen least faults readings p.contents }

pub emptied : {X : Type 0} (i : ℕ) (a b : Option X) (k : ℕ) → update eqb (update eqb (update eqb (λ j. None) i a) i b) i None k ≡ None
emptied i a b k = by (eqb i k) where
  by : (c : Bool) → cond c None (cond c b (cond c a None)) ≡ None
  by true = refl
  by false = refl
