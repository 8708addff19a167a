-- Slots that hold the same where they are known, before and after an instruction.
use Rattle.std.proofs.Common.{◌≡◌, ℕ, zero, suc, List, [], ◌∷◌, Bool, true, false, refl, sym, ap, ap₂, ◌∙◌, subst, cond}
use Rattle.std.proofs.lemmas.Bool.{eqb-true, eqb-false}
use Rattle.std.specs.Prelude.{◌==◌, Ok, Err}
use Rattle.ca_value.specs.Tree.{Tree, int}
use Rattle.ca_value.specs.Outcome.{Outcome}
use Rattle.ca_value.specs.declared.builtin.Builtin.TheVariants.{Conj, Assoc}
use Rattle.ca_term.specs.declared.place.Place.{Place}
use Rattle.ca_term.specs.declared.fault.Fault.{Fault}
use Rattle.ca_term.specs.Asking.{task_fault}
use Rattle.ca_states.specs.Code.{Instruction, constant, copying, moving, clearing, one, two, two_int, pushing, putting, many}
use Rattle.ca_states.specs.Machine.{read, slot_written, reads, left_in_slot, slot_taken, taken_all, slots_from, Effect, done, failed, slot_answered, builtin_applied, effect}
use Rattle.ca_states.specs.Touched.{read_by}
use Rattle.ca_states.specs.Valid.{KnownSlots, each, slot_noted, noted_all, after_instruction}
use Rattle.ca_states.proofs.RowLaws.{both}
use Rattle.ca_moves.specs.Plain.{plain_instruction}

pub read_same : (s : List Tree) (a : ℕ) (v : Tree) → read (slot_written s a v) a ≡ v
read_same [] zero v = refl
read_same [] (suc a) v = read_same [] a v
read_same (t ∷ s) zero v = refl
read_same (t ∷ s) (suc a) v = read_same s a v

pub read_other : (s : List Tree) (a : ℕ) (v : Tree) (k : ℕ) → (k ≡ a → ⊥) → read (slot_written s a v) k ≡ read s k
read_other [] zero v zero ne = absurd (ne refl)
read_other [] zero v (suc k) ne = refl
read_other [] (suc a) v zero ne = refl
read_other [] (suc a) v (suc k) ne = read_other [] a v k (λ e. ne (ap suc e))
read_other (t ∷ s) zero v zero ne = absurd (ne refl)
read_other (t ∷ s) zero v (suc k) ne = refl
read_other (t ∷ s) (suc a) v zero ne = refl
read_other (t ∷ s) (suc a) v (suc k) ne = read_other s a v k (λ e. ne (ap suc e))

abbrev pub Agree : KnownSlots → List Tree → List Tree → Type 0
Agree K s t = (k : ℕ) → K k ≡ true → read s k ≡ read t k

-- the same value written to both
pub agree_write : (K : KnownSlots) (s t : List Tree) (a : ℕ) (v : Tree) → Agree K s t → Agree (slot_noted true a K) (slot_written s a v) (slot_written t a v)
agree_write K s t a v h k known = by (k == a) refl known
  where
    by : (b : Bool) → (k == a) ≡ b → cond b true (K k) ≡ true → read (slot_written s a v) k ≡ read (slot_written t a v) k
    by true e is = subst (λ j. read (slot_written s a v) j ≡ read (slot_written t a v) j) (sym (eqb-true k a e)) (read_same s a v ∙ sym (read_same t a v))
    by false e is = read_other s a v k (eqb-false k a e) ∙ h k is ∙ sym (read_other t a v k (eqb-false k a e))

-- a slot that holds something else, of one and of both
left_out : (K : KnownSlots) (a k : ℕ) (P : Type 0) → slot_noted false a K k ≡ true → ((k ≡ a → ⊥) → K k ≡ true → P) → P
left_out K a k P known f = by (k == a) refl known
  where
    by : (b : Bool) → (k == a) ≡ b → cond b false (K k) ≡ true → P
    by true e is = absurd (let g : false ≡ true = is in cc)
    by false e is = f (eqb-false k a e) is

pub agree_one_taken : (K : KnownSlots) (s t : List Tree) (a : ℕ) → Agree K s t → Agree (slot_noted false a K) s (slot_taken t a)
agree_one_taken K s t a h k known = left_out K a k (read s k ≡ read (slot_taken t a) k) known (λ ne is. h k is ∙ sym (read_other t a (left_in_slot (read t a)) k ne))

pub agree_one_written : (K : KnownSlots) (s t : List Tree) (a : ℕ) (v : Tree) → Agree K s t → Agree (slot_noted false a K) (slot_written s a v) t
agree_one_written K s t a v h k known = left_out K a k (read (slot_written s a v) k ≡ read t k) known (λ ne is. read_other s a v k ne ∙ h k is)

pub agree_taken : (K : KnownSlots) (s t : List Tree) (a : ℕ) → Agree K s t → Agree (slot_noted false a K) (slot_taken s a) (slot_taken t a)
agree_taken K s t a h k known =
    left_out K a k (read (slot_taken s a) k ≡ read (slot_taken t a) k) known (λ ne is. read_other s a (left_in_slot (read s a)) k ne ∙ h k is ∙ sym (read_other t a (left_in_slot (read t a)) k ne))

pub agree_taken_all : (ks : List ℕ) (K : KnownSlots) (s t : List Tree) → Agree K s t → Agree (noted_all false ks K) (taken_all s ks) (taken_all t ks)
agree_taken_all [] K s t h = h
agree_taken_all (a ∷ ks) K s t h = agree_taken_all ks (slot_noted false a K) (slot_taken s a) (slot_taken t a) (agree_taken K s t a h)

pub reads_agree : (ks : List ℕ) (K : KnownSlots) (s t : List Tree) → each K ks ≡ true → Agree K s t → reads s ks ≡ reads t ks
reads_agree [] K s t known h = refl
reads_agree (a ∷ ks) K s t known h = let z = both (K a) (each K ks) known in ap₂ (λ v vs. v ∷ vs) (h a z.0) (reads_agree ks K s t z.1 h)

-- both go on, or both fault alike
pub data EffectsAlike (K : KnownSlots) : Effect → Effect → Type 0 where
  both_done : (s t : List Tree) → Agree K s t → EffectsAlike K (done s) (done t)
  both_failed : (f : Fault) (p : Place) → EffectsAlike K (failed f p) (failed f p)

answers_agree : (K : KnownSlots) (s t : List Tree) (to : ℕ) (p : Place) → Agree K s t → (o u : Outcome) → o ≡ u → EffectsAlike (slot_noted true to K) (slot_answered s to p o) (slot_answered t to p u)
answers_agree K s t to p h o u e = subst (λ x. EffectsAlike (slot_noted true to K) (slot_answered s to p o) (slot_answered t to p x)) e (by o)
  where
    by : (o : Outcome) → EffectsAlike (slot_noted true to K) (slot_answered s to p o) (slot_answered t to p o)
    by (Ok v) = both_done (slot_written s to v) (slot_written t to v) (agree_write K s t to v h)
    by (Err f) = both_failed (task_fault f) p

writes_agree : (K : KnownSlots) (s t : List Tree) (to : ℕ) → Agree K s t → (v w : Tree) → v ≡ w → EffectsAlike (slot_noted true to K) (done (slot_written s to v)) (done (slot_written t to w))
writes_agree K s t to h v w e = subst (λ x. EffectsAlike (slot_noted true to K) (done (slot_written s to v)) (done (slot_written t to x))) e (both_done (slot_written s to v) (slot_written t to v) (agree_write K s t to v h))

-- an instruction that copies, and the one that it stands for
pub effects_agree : (i : Instruction) (K : KnownSlots) (s t : List Tree) → each K (read_by i) ≡ true → Agree K s t → EffectsAlike (after_instruction i K) (effect (plain_instruction i) s) (effect i t)
effects_agree (constant to v) K s t known h = writes_agree K s t to h v v refl
effects_agree (copying to a) K s t known h = writes_agree K s t to h (read s a) (read t a) (h a (both (K a) true known).0)
effects_agree (moving to a) K s t known h = writes_agree (slot_noted false a K) s (slot_taken t a) to (agree_one_taken K s t a h) (read s a) (read t a) (h a (both (K a) true known).0)
effects_agree (clearing a) K s t known h = both_done (slot_taken s a) (slot_taken t a) (agree_taken K s t a h)
effects_agree (one b to a p) K s t known h = answers_agree K s t to p h (builtin_applied b (read s a ∷ [])) (builtin_applied b (read t a ∷ [])) (ap (builtin_applied b) (reads_agree (a ∷ []) K s t known h))
effects_agree (two b to a c p) K s t known h =
    answers_agree K s t to p h (builtin_applied b (read s a ∷ read s c ∷ [])) (builtin_applied b (read t a ∷ read t c ∷ [])) (ap (builtin_applied b) (reads_agree (a ∷ c ∷ []) K s t known h))
effects_agree (two_int b to a z p) K s t known h =
    answers_agree K s t to p h (builtin_applied b (read s a ∷ int z ∷ [])) (builtin_applied b (read t a ∷ int z ∷ [])) (ap (λ v. builtin_applied b (v ∷ int z ∷ [])) (h a (both (K a) true known).0))
effects_agree (pushing to a c p) K s t known h =
    answers_agree (slot_noted false a K) s (slot_taken t a) to p (agree_one_taken K s t a h) (builtin_applied Conj (read s a ∷ read s c ∷ [])) (builtin_applied Conj (read t a ∷ read t c ∷ [])) (ap (builtin_applied Conj) (reads_agree (a ∷ c ∷ []) K s t known h))
effects_agree (putting to a k v p) K s t known h =
    answers_agree (slot_noted false a K) (slot_taken s a) (slot_taken t a) to p (agree_taken K s t a h) (builtin_applied Assoc (read s a ∷ read s k ∷ read s v ∷ [])) (builtin_applied Assoc (read t a ∷ read t k ∷ read t v ∷ [])) (ap (builtin_applied Assoc) (reads_agree (a ∷ k ∷ v ∷ []) K s t known h))
effects_agree (many b to a n p) K s t known h =
    answers_agree (noted_all false (slots_from a n) K) (taken_all s (slots_from a n)) (taken_all t (slots_from a n)) to p (agree_taken_all (slots_from a n) K s t h)
    (builtin_applied b (reads s (slots_from a n))) (builtin_applied b (reads t (slots_from a n))) (ap (builtin_applied b) (reads_agree (slots_from a n) K s t known h))
