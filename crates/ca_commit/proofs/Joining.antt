-- The banks and the shard that a new wait joins.
use Rattle.std.proofs.Common.{◌≡◌, ℕ, zero, suc, List, [], ◌∷◌, ◌++◌, refl, sym, ap, ◌∙◌, subst, Bool, true, false, not, ◌&&◌, cond, Option, Some, None, eqb, eq-eqb, ne_eqb, is_some, slice_get, option_map, append-nil}
use Rattle.std.specs.Map.{update}
use Rattle.std.proofs.lemmas.Map.{update_here, update_apart, update-update}
use mathlib.Core.Logic.{dite}
use native.Mathlib.Decide.{ℕ_discrete}
use Rattle.ca_term.specs.declared.event.Side.{Side}
use Rattle.ca_term.specs.declared.event.Side.TheVariants.{Take, Put}
use Rattle.ca_term.specs.Event.{BranchView, take_of, put_of}
use Rattle.ca_meaning.specs.Wait.{handlers, is_on, port_of, brought}
use Rattle.ca_commit.specs.Contents.{Kept, Parked, Parts, alive, alive_in, at_key, home, whole}
use Rattle.ca_commit.specs.Holds.{join_all, joined_queues}
use Rattle.ca_commit.specs.Moves.{NoneReadyIn, Unready}
use Rattle.ca_commit.specs.Running.{or_was}
use Rattle.ca_commit.proofs.Holding.{and_wait, but_wait}
use Rattle.ca_commit.proofs.Laid.{IsPart, Within, laid, same_map, seen}

not_on : (side : Side) (q : ℕ) (b : BranchView) → (port_of b ≡ q → ⊥) → is_on side q b ≡ false
not_on Take q (take_of p) ne = ne_eqb q p (λ e. ne (sym e))
not_on Take q (put_of p v) ne = refl
not_on Put q (take_of p) ne = refl
not_on Put q (put_of p v) ne = ne_eqb q p (λ e. ne (sym e))

-- a port that no branch names
pub absent : (side : Side) (q w k : ℕ) (bs : List BranchView) → ((j : ℕ) (b : BranchView) → slice_get bs j ≡ Some b → port_of b ≡ q → ⊥) → handlers side q w k bs ≡ []
absent side q w k [] gone = refl
absent side q w k (b ∷ bs) gone = ap (λ c. cond c (record { wait = w; branch = k; value = brought b } ∷ handlers side q w (suc k) bs) (handlers side q w (suc k) bs)) (not_on side q b (gone 0 b refl))
    ∙ absent side q w (suc k) bs (λ j c e. gone (suc j) c e)

joined_none : (w : ℕ) (bs : List BranchView) (q : ℕ) (o : Option Kept) → ((side : Side) → handlers side q w 0 bs ≡ []) → o ≡ option_map (joined_queues w bs q) o
joined_none w bs q None gone = refl
joined_none w bs q (Some k) gone = λ i. Some (record { channel = k.channel; takes = (sym (append-nil k.takes) ∙ ap (λ l. k.takes ++ l) (sym (gone Take))) i; puts = (sym (append-nil k.puts) ∙ ap (λ l. k.puts ++ l) (sym (gone Put))) i })

-- the banks that a new wait touches, and all of them
pub laid_joined : (now old new : ℕ → Option (ℕ → Option Kept)) (w : ℕ) (bs : List BranchView) → Within old now → ((i : ℕ) → new i ≡ option_map (join_all w bs) (old i)) → ((j : ℕ) (b : BranchView) → slice_get bs j ≡ Some b → (k : Kept) × (whole old (port_of b) ≡ Some k))
    → (q : ℕ) → whole (laid now new) q ≡ join_all w bs (whole now) q
laid_joined now old new w bs in' is there q = by (old (home q)) refl where
  gone : old (home q) ≡ None → (j : ℕ) (b : BranchView) → slice_get bs j ≡ Some b → port_of b ≡ q → ⊥
  gone e j b at same = let t = there j b at in let k : None ≡ Some t.0 = sym (ap (λ o. at_key o q) e) ∙ ap (whole old) (sym same) ∙ t.1 in cc

  by : (o : Option (ℕ → Option Kept)) → old (home q) ≡ o → whole (laid now new) q ≡ join_all w bs (whole now) q
  by (Some f) e = ap (λ (o : Option (ℕ → Option Kept)). at_key (or_was o (now (home q))) q) (is (home q) ∙ ap (option_map (join_all w bs)) e) ∙ ap (λ (o : Option (ℕ → Option Kept)). option_map (joined_queues w bs q) (at_key o q)) (sym (in' (home q) f e))
  by None e = ap (λ (o : Option (ℕ → Option Kept)). at_key (or_was o (now (home q))) q) (is (home q) ∙ ap (option_map (join_all w bs)) e)
      ∙ joined_none w bs q (whole now q) (λ side. absent side q w 0 bs (gone e))

pub joined_there : (w : ℕ) (bs : List BranchView) (ports : ℕ → Option Kept) (p : ℕ) (k : Kept) → join_all w bs ports p ≡ Some k → (j : Kept) × (ports p ≡ Some j)
joined_there w bs ports p k e = by (ports p) refl e where
  by : (o : Option Kept) → ports p ≡ o → option_map (joined_queues w bs p) o ≡ Some k → (j : Kept) × (ports p ≡ Some j)
  by None is e = absurd (let z : None ≡ Some k = e in cc)
  by (Some j) is e = (j, is)

module _ {A : Type 0} where
  pub alive_and : (f : ℕ → Option (Parked A)) (w : ℕ) (x : Parked A) → alive (update eqb f w (Some x)) ≡ and_wait (alive f) w
  alive_and f w x = same_map (alive (update eqb f w (Some x))) (and_wait (alive f) w) (λ v. dite (ℕ_discrete w v)
      (λ e. ap is_some (ap (update eqb f w (Some x)) (sym e) ∙ update_here f w (Some x)) ∙ sym (ap (λ c. cond c true (is_some (f v))) (eq-eqb v w (sym e))))
      (λ ne. ap is_some (update_apart f w (Some x) v (λ e. ne (sym e))) ∙ sym (ap (λ c. cond c true (is_some (f v))) (ne_eqb v w (λ e. ne (sym e))))))

  pub alive_but : (f : ℕ → Option (Parked A)) (w : ℕ) → alive (update eqb f w None) ≡ but_wait (alive f) w
  alive_but f w = same_map (alive (update eqb f w None)) (but_wait (alive f) w) (λ v. by (eqb w v) (f v)) where
    by : (b : Bool) (o : Option (Parked A)) → is_some (cond b None o) ≡ is_some o && not b
    by true None = refl
    by true (Some x) = refl
    by false None = refl
    by false (Some x) = refl

  pub alive_more : (old now : Parts A) → IsPart old now → (v : ℕ) → alive_in old v ≡ true → alive_in now v ≡ true
  alive_more old now in' v = by (whole old.shard v) refl where
    by : (o : Option (Parked A)) → whole old.shard v ≡ o → is_some o ≡ true → alive_in now v ≡ true
    by None e h = absurd (let k : false ≡ true = h in cc)
    by (Some x) e h = ap is_some (seen now.shard old.shard in'.shards v x e)

  pub unready_at : (h : Parts A) (bs : List BranchView) (j : ℕ) (b : BranchView) → NoneReadyIn h bs → slice_get bs j ≡ Some b → Unready h b
  unready_at h [] j b a e = absurd (let k : None ≡ Some b = e in cc)
  unready_at h (c ∷ bs) zero b a e = subst (Unready h) (let k : c ≡ b = cc in k) a.0
  unready_at h (c ∷ bs) (suc j) b a e = unready_at h bs j b a.1 e

and_no : (b : Bool) → b && false ≡ false
and_no true = refl
and_no false = refl

pub is_dead : (f : ℕ → Bool) (w v : ℕ) → w ≡ v → but_wait f w v ≡ false
is_dead f w v e = ap (λ c. f v && not c) (eq-eqb w v e) ∙ and_no (f v)

-- two writes at one entry
pub twice : {X : Type 0} (f : ℕ → Option X) (p : ℕ) (x y : Option X) → update eqb (update eqb f p x) p y ≡ update eqb f p y
twice f p x y = same_map (update eqb (update eqb f p x) p y) (update eqb f p y) (update-update eqb f p x y)
