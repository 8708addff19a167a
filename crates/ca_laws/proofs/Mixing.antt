-- Mixes keep to their rule.
use Rattle.std.proofs.Common.{◌≡◌, inl, inr, ℕ, zero, suc, List, [], ◌∷◌, ◌++◌, refl, sym, ap, ◌∙◌, subst, Bool, true, false, cond, Option, Some, None, eqb, slice_get}
use Rattle.ca_value.specs.Tree.{Tree, port}
use Rattle.ca_term.specs.declared.place.Place.{Place}
use Rattle.ca_term.specs.declared.fault.Fault.{Fault}
use Rattle.ca_term.specs.declared.head.RegisterName.TheVariants.{Modes, Unmix}
use Rattle.ca_term.specs.declared.head.SystemTask.{SystemTask}
use Rattle.ca_term.specs.Operation.{OpView, putting, choosing, registering}
use Rattle.ca_term.specs.Program.{ProgramView}
use Rattle.ca_term.specs.Event.{take_of, put_of, EventView}
use Rattle.ca_meaning.specs.Body.{asking}
use Rattle.ca_meaning.specs.Operands.{is_nil, truth}
use Rattle.ca_meaning.specs.Asking.{too_large_branches}
use Rattle.ca_meaning.specs.Choice.{branches_of}
use Rattle.ca_meaning.specs.State.{State}
use Rattle.ca_meaning.specs.Legal.{Reaches}
use Rattle.ca_meaning.specs.Asks.{Next, to, stop, fail, needing, pair_of, one_of, two_of, too_large_here}
use Rattle.ca_meaning.specs.MixTable.{MixPorts, MixState, mix_reads, mix_chooses, mix_drops, mix_puts, mix_asks, mix_next, ModesRead, modes_in, read_of, heard_of, any_of, port_trees}
use Rattle.ca_meaning.specs.System.{SystemBody, a_mix}
use Rattle.ca_laws.specs.Deeds.{Deed, did_take, did_put, did_register, did_wait, did_end}
use Rattle.ca_laws.specs.Taken.{answer_after, last_answer}
use Rattle.ca_laws.specs.MixLaw.{reading_after, reading_from, last_reading, takes_from, MixRule, mix_ports, MixLaw}
use Rattle.ca_laws.proofs.More.{answer_more}
use Rattle.ca_laws.proofs.Acts.{Replies, gave, chose, chose_put, chose_default, enrols}
use Rattle.ca_laws.proofs.Tables.{stands_only, Keeps, all_keep_to}

-- what is read last after one more deed
reading_more : (x : MixPorts) (o : Option ModesRead) (ds : List Deed) (d : Deed) → reading_from x o (ds ++ d ∷ []) ≡ reading_after x d (reading_from x o ds)
reading_more x o [] d = refl
reading_more x o (c ∷ ds) d = reading_more x (reading_after x c o) ds d

-- the branches of an alts over ports
port_branches : (ps : List ℕ) → branches_of (choosing (port_trees ps) false None) ≡ takes_from ps
port_branches [] = refl
port_branches (p ∷ ps) = ap (λ z. take_of p ∷ z) (port_branches ps)

pub no_puts : {G : Type 0} (ps : List ℕ) (k p : ℕ) (v : Tree) → slice_get (takes_from ps) k ≡ Some (put_of p v) → G
no_puts [] k p v e = absurd (let j : None ≡ Some (put_of p v) = e in cc)
no_puts (q ∷ ps) zero p v e = absurd (let j : take_of q ≡ put_of p v = cc in cc)
no_puts (q ∷ ps) (suc k) p v e = no_puts ps k p v e

-- the channels of a state are those of the last reading
abbrev AreRead : Option ModesRead → List ℕ → List ℕ → Type 0
AreRead o reads heard = (m : ModesRead) × (o ≡ Some m) × (reads ≡ read_of m) × (heard ≡ heard_of m)

module _ (x : MixPorts) where
  -- by the last reading and the last answer
  abbrev MixesAt : Next MixState → Option ModesRead → Option (ℕ × Tree) → Type 0
  MixesAt (to mix_reads) o q = Unit {0}
  MixesAt (to (mix_chooses reads heard)) o q = AreRead o reads heard
  MixesAt (to (mix_drops p)) o q = (v : Tree) × (q ≡ Some (p, v)) × (is_nil v ≡ true) × (eqb p x.changes ≡ false)
  MixesAt (to (mix_puts reads heard v)) o q = AreRead o reads heard × ((p : ℕ) × (q ≡ Some (p, v)) × (any_of (eqb p) heard ≡ true))
  MixesAt stop o q = Unit {0}
  MixesAt (fail f) o q = Unit {0}

  abbrev MixAt : Next MixState → List Deed → Type 0
  MixAt n ds = MixesAt n (last_reading x ds) (last_answer ds)

  by_deed : (n : Next MixState) (ds : List Deed) (d c : Deed) → d ≡ c → MixesAt n (reading_after x c (last_reading x ds)) (answer_after c (last_answer ds)) → MixAt n (ds ++ d ∷ [])
  by_deed n ds d c is k = subst (λ z. MixAt n (ds ++ z ∷ [])) (sym is)
      (subst (λ z. MixesAt n z (last_answer (ds ++ c ∷ []))) (sym (reading_more x None ds c))
      (subst (λ z. MixesAt n (reading_after x c (last_reading x ds)) z) (sym (answer_more None ds c)) k))

module _ (program : ProgramView) (x : MixPorts) (place : Place) where
  abbrev mix_body : Next MixState → SystemBody
  mix_body n = a_mix x place n

  abbrev sources : List ℕ → List ℕ
  sources reads = reads ++ x.changes ∷ []

  abbrev mix_op : MixState → OpView
  mix_op mix_reads = registering Modes (one_of (port x.mix))
  mix_op (mix_chooses reads heard) = choosing (port_trees (sources reads)) false None
  mix_op (mix_drops p) = registering Unmix (two_of (port x.mix) (port p))
  mix_op (mix_puts reads heard v) = putting (port x.out) v

  abbrev mix_fault : MixState → Option Fault
  mix_fault mix_reads = None
  mix_fault (mix_chooses reads heard) = too_large_branches (port_trees (sources reads))
  mix_fault (mix_drops p) = None
  mix_fault (mix_puts reads heard v) = too_large_here v

  rows : (s : MixState) → mix_asks x s place ≡ asking place (mix_fault s) (mix_op s)
  rows mix_reads = refl
  rows (mix_chooses reads heard) = refl
  rows (mix_drops p) = refl
  rows (mix_puts reads heard v) = refl

  allowed : (s : MixState) (ds : List Deed) → MixAt x (to s) ds → MixRule x ds (mix_op s)
  allowed mix_reads ds k = inl (refl, refl)
  allowed (mix_chooses reads heard) ds k = (k.0, k.1, port_branches (sources reads) ∙ ap (λ z. takes_from (sources z)) k.2)
  allowed (mix_drops p) ds k = inr (p, k.0, refl, refl, k.1, k.2, k.3)
  allowed (mix_puts reads heard v) ds k = (refl, k.0.0, k.1.0, k.0.1, k.1.1, ap (λ z. any_of (eqb k.1.0) z) (sym k.0.3) ∙ k.1.2)

  -- the answer v of an alts, from the channel p
  chosen : (reads heard : List ℕ) (o : Option ModesRead) (p : ℕ) (v : Tree) → AreRead o reads heard → (change shut hears : Bool) → eqb p x.changes ≡ change → is_nil v ≡ shut → any_of (eqb p) heard ≡ hears
      → MixesAt x (cond change (to mix_reads) (cond shut (to (mix_drops p)) (cond hears (to (mix_puts reads heard v)) (to (mix_chooses reads heard))))) (cond change None (cond shut None o)) (Some (p, v))
  chosen reads heard o p v k true shut hears c n e = tt
  chosen reads heard o p v k false true hears c n e = (v, refl, n, c)
  chosen reads heard o p v k false false true c n e = (k, (p, refl, e))
  chosen reads heard o p v k false false false c n e = k

  answered : (s : MixState) (ds : List Deed) (d : Deed) (a : Tree) → MixAt x (to s) ds → Replies (mix_op s) d a → MixAt x (mix_next x a s) (ds ++ d ∷ [])
  answered mix_reads ds d a k (enrols is) = by_deed x (mix_next x a mix_reads) ds d (did_register Modes (one_of (port x.mix)) a) is (by (modes_in a)) where
    by : (o : Option ModesRead) → MixesAt x (needing o (λ m. to (mix_chooses (read_of m) (heard_of m)))) o (last_answer ds)
    by None = tt
    by (Some m) = (m, refl, refl, refl)
  answered (mix_chooses reads heard) ds d a k (chose j p v is slot an) =
      subst (λ z. MixAt x (mix_next x z (mix_chooses reads heard)) (ds ++ d ∷ [])) (sym an)
      (by_deed x (mix_next x (pair_of v (port p)) (mix_chooses reads heard)) ds d (did_take j p v) is (chosen reads heard (last_reading x ds) p v k (eqb p x.changes) (is_nil v) (any_of (eqb p) heard) refl refl refl))
  answered (mix_chooses reads heard) ds d a k (chose_put j p u v is slot an pa) = no_puts (sources reads) j p u (ap (λ z. slice_get z j) (sym (port_branches (sources reads))) ∙ slot)
  answered (mix_chooses reads heard) ds d a k (chose_default v is df an) = absurd (let j : None ≡ Some v = df in cc)
  answered (mix_drops p) ds d a k (enrols is) = tt
  answered (mix_puts reads heard v) ds d a k (gave is pa) = by (truth a) where
    by : (b : Bool) → MixAt x (cond b (to (mix_chooses reads heard)) stop) (ds ++ d ∷ [])
    by true = by_deed x (to (mix_chooses reads heard)) ds d (did_put 0 x.out v a) is k.0
    by false = tt

  mix_keeps : Keeps program mix_body mix_op (MixAt x) (MixRule x)
  mix_keeps = record {
    only = λ n op at. stands_only place (mix_asks x) mix_op mix_fault rows n op at.0 at.1;
    allowed = allowed;
    waits = λ s ds w k may. by_deed x (to s) ds (did_wait w (branches_of (mix_op s))) (did_wait w (branches_of (mix_op s))) refl k;
    ends = λ n ds how k. by_deed x n ds (did_end how) (did_end how) refl k;
    answered = λ s ds d a c k ans r. (mix_next x a s, r, answered s ds d a k ans);
  }

pub mix_law : (program : ProgramView) (journal : List EventView) (s : State) → Reaches program journal s → MixLaw program journal s
mix_law program = all_keep_to program SystemTask.Mix refl (λ values place. MixRule (mix_ports values))
    (λ values place. mix_body program (mix_ports values) place) (λ values place. mix_op program (mix_ports values) place) (λ values place. MixAt (mix_ports values))
    (λ values place. mix_keeps program (mix_ports values) place) (λ values place c r. (to mix_reads, r, tt))
