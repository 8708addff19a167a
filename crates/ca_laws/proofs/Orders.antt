-- What a feed and a collect that keep to their rules put, as whole lists.
use Rattle.std.proofs.Common.{◌≡◌, inl, inr, ℕ, zero, suc, List, [], ◌∷◌, ◌++◌, refl, sym, ap, ◌∙◌, subst, Some, None, slice_get, append_assoc, append-nil}
use Rattle.ca_value.specs.Tree.{Tree, port}
use Rattle.ca_term.specs.Operation.{OpView, taking, putting, choosing, posting, making, spawning, closing, registering, printing}
use Rattle.ca_term.specs.Event.{BranchView, take_of, put_of, EventView}
use Rattle.ca_meaning.specs.Operands.{port_of_value}
use Rattle.ca_meaning.specs.Asks.{pair_of}
use Rattle.ca_meaning.specs.Choice.{branches_of}
use Rattle.ca_meaning.specs.PipelineTable.{FeedPorts, CollectPorts}
use Rattle.ca_meaning.specs.State.{State}
use Rattle.ca_laws.specs.Deeds.{Deed, did_take, did_put, did_wait, did_post, did_default, did_make, did_spawn, did_close, did_register, did_print, did_end, deeds}
use Rattle.ca_laws.specs.Taken.{taken_by, taken, put_by, put_in, sent_by, sent, made_by, made_in, Begins}
use Rattle.ca_laws.specs.Rules.{IsAllowed, KeepsTo}
use Rattle.ca_laws.specs.PipelineRules.{passed_on, FeedRule, awaited, collected_by, collected, CollectRule}
use Rattle.ca_laws.proofs.More.{each_more}
use Rattle.ca_laws.proofs.Collecting.{collected_more}

-- what each allowed deed keeps holds of all of them
along : (Rule : List Deed → OpView → Type 0) (P : List Deed → Type 0) (all : List Deed) → ((before after : List Deed) (d : Deed) → all ≡ before ++ d ∷ after → IsAllowed Rule before d) → ((before : List Deed) (d : Deed) → IsAllowed Rule before d → P before → P (before ++ d ∷ []))
    → (before rest : List Deed) → all ≡ before ++ rest → P before → P all
along Rule P all did step before [] e p = subst P (sym (e ∙ append-nil before)) p
along Rule P all did step before (d ∷ rest) e p = along Rule P all did step (before ++ d ∷ []) rest (e ∙ sym (append_assoc before (d ∷ []) rest)) (step before d (did before rest d e) p)

pub one_branch : (b : BranchView) (k : ℕ) (c : BranchView) → slice_get (b ∷ []) k ≡ Some c → c ≡ b
one_branch b zero c e = let k : c ≡ b = cc in k
one_branch b (suc k) c e = absurd (let j : None ≡ Some c = e in cc)

pub no_branch : {G : Type 0} (c : BranchView) → None ≡ Some c → G
no_branch c e = absurd cc

more_begins : {A : Type 0} (xs ys zs : List A) → Begins xs ys → Begins xs (ys ++ zs)
more_begins xs ys zs b = (b.0 ++ zs, ap (λ z. z ++ zs) b.1 ∙ append_assoc xs b.0 zs)

-- a put of its own, by its rule
module _ (c : CollectPorts) (before : List Deed) where
  next_output : (op : OpView) (k p : ℕ) (v : Tree) → CollectRule c before op → slice_get (branches_of op) k ≡ Some (put_of p v) → Begins (sent before ++ v ∷ []) (collected before)
  next_output (putting x y) k p v r e = subst (λ z. Begins (sent before ++ z ∷ []) (collected before)) (let q : put_of p v ≡ put_of (port_of_value x) y = one_branch (put_of (port_of_value x) y) k (put_of p v) e in let i : y ≡ v = cc in i) r.1
  next_output (taking x) k p v r e = absurd (let q : put_of p v ≡ take_of (port_of_value x) = one_branch (take_of (port_of_value x)) k (put_of p v) e in cc)
  next_output (closing x) k p v r e = no_branch (put_of p v) e
  next_output (choosing ports priority default) k p v r e = absurd r
  next_output (making what) k p v r e = absurd r
  next_output (spawning seed) k p v r e = absurd r
  next_output (registering name args) k p v r e = absurd r
  next_output (printing line) k p v r e = absurd r
  next_output (posting x y) k p v r e = absurd r

collect_step : (c : CollectPorts) (before : List Deed) (d : Deed) → IsAllowed (CollectRule c) before d → Begins (sent before) (collected before) → Begins (sent (before ++ d ∷ [])) (collected (before ++ d ∷ []))
collect_step c before d allowed k =
    subst (λ z. Begins (sent (before ++ d ∷ [])) z) (sym (collected_more None before d))
    (more_begins (sent (before ++ d ∷ [])) (collected before) (collected_by d (awaited before))
    (subst (λ z. Begins z (collected before)) (sym (each_more sent_by before d)) (by d allowed))) where
      quiet : Begins (sent before ++ []) (collected before)
      quiet = subst (λ z. Begins z (collected before)) (sym (append-nil (sent before))) k

      by : (d : Deed) → IsAllowed (CollectRule c) before d → Begins (sent before ++ sent_by d) (collected before)
      by (did_put j p v a) (inl o) = next_output c before o.0 j p v o.1 o.2
      by (did_put j p v a) (inr o) = absurd (let e : did_put j p v a ≡ did_end o.0 = o.1 in cc)
      by (did_take j p a) o = quiet
      by (did_wait w bs) o = quiet
      by (did_post w p v) o = quiet
      by (did_default v) o = quiet
      by (did_make p what m) o = quiet
      by (did_spawn u kind result) o = quiet
      by (did_close p) o = quiet
      by (did_register name args a) o = quiet
      by (did_print line) o = quiet
      by (did_end how) o = quiet

pub collects_in_order : (c : CollectPorts) (t : ℕ) (journal : List EventView) (s : State) → KeepsTo (CollectRule c) t journal s → Begins (sent (deeds t journal)) (collected (deeds t journal))
collects_in_order c t journal s k = along (CollectRule c) (λ ds. Begins (sent ds) (collected ds)) (deeds t journal) k.did (collect_step c) [] (deeds t journal) refl ([], refl)

-- more values and more ports
passed_begins : (f : FeedPorts) (vs us : List Tree) (ps qs : List ℕ) → Begins (passed_on f vs ps) (passed_on f (vs ++ us) (ps ++ qs))
passed_begins f [] us ps qs = (passed_on f us (ps ++ qs), refl)
passed_begins f (v ∷ vs) us [] qs = (passed_on f (v ∷ vs ++ us) qs, refl)
passed_begins f (v ∷ vs) us (p ∷ ps) qs = let b = passed_begins f vs us ps qs in (b.0, ap (λ z. (f.jobs, pair_of v (port p)) ∷ (f.replies, port p) ∷ z) b.1)

joined_begins : {A : Type 0} (xs ys zs : List A) → Begins xs ys → Begins ys zs → Begins xs zs
joined_begins xs ys zs a b = (a.0 ++ b.0, b.1 ∙ ap (λ z. z ++ b.0) a.1 ∙ append_assoc xs a.0 b.0)

module _ (f : FeedPorts) (before : List Deed) where
  next_put : (op : OpView) (k p : ℕ) (v : Tree) → FeedRule f before op → slice_get (branches_of op) k ≡ Some (put_of p v) → Begins (put_in before ++ (p, v) ∷ []) (passed_on f (taken before) (made_in before))
  next_put (putting c y) k p v r e =
      let q : put_of p v ≡ put_of (port_of_value c) y = one_branch (put_of (port_of_value c) y) k (put_of p v) e in
      let there : r.0 ≡ p = sym (ap port_of_value r.1) ∙ (let i : port_of_value c ≡ p = cc in i) in
      subst (λ z. Begins (put_in before ++ (p, z) ∷ []) (passed_on f (taken before) (made_in before))) (let i : y ≡ v = cc in i)
      (subst (λ n. Begins (put_in before ++ (n, y) ∷ []) (passed_on f (taken before) (made_in before))) there r.2)
  next_put (taking x) k p v r e = absurd (let q : put_of p v ≡ take_of (port_of_value x) = one_branch (take_of (port_of_value x)) k (put_of p v) e in cc)
  next_put (closing x) k p v r e = no_branch (put_of p v) e
  next_put (making what) k p v r e = no_branch (put_of p v) e
  next_put (choosing ports priority default) k p v r e = absurd r
  next_put (spawning seed) k p v r e = absurd r
  next_put (registering name args) k p v r e = absurd r
  next_put (printing line) k p v r e = absurd r
  next_put (posting x y) k p v r e = absurd r

feed_step : (f : FeedPorts) (before : List Deed) (d : Deed) → IsAllowed (FeedRule f) before d → Begins (put_in before) (passed_on f (taken before) (made_in before)) → Begins (put_in (before ++ d ∷ [])) (passed_on f (taken (before ++ d ∷ [])) (made_in (before ++ d ∷ [])))
feed_step f before d allowed k =
    subst (λ z. Begins (put_in (before ++ d ∷ [])) (passed_on f z (made_in (before ++ d ∷ [])))) (sym (each_more taken_by before d))
    (subst (λ z. Begins (put_in (before ++ d ∷ [])) (passed_on f (taken before ++ taken_by d) z)) (sym (each_more made_by before d))
    (subst (λ z. Begins z (passed_on f (taken before ++ taken_by d) (made_in before ++ made_by d))) (sym (each_more put_by before d))
    (joined_begins (put_in before ++ put_by d) (passed_on f (taken before) (made_in before)) (passed_on f (taken before ++ taken_by d) (made_in before ++ made_by d)) (by d allowed) (passed_begins f (taken before) (taken_by d) (made_in before) (made_by d))))) where
      quiet : Begins (put_in before ++ []) (passed_on f (taken before) (made_in before))
      quiet = subst (λ z. Begins z (passed_on f (taken before) (made_in before))) (sym (append-nil (put_in before))) k

      by : (d : Deed) → IsAllowed (FeedRule f) before d → Begins (put_in before ++ put_by d) (passed_on f (taken before) (made_in before))
      by (did_put j p v a) (inl o) = next_put f before o.0 j p v o.1 o.2
      by (did_put j p v a) (inr o) = absurd (let e : did_put j p v a ≡ did_end o.0 = o.1 in cc)
      by (did_take j p a) o = quiet
      by (did_wait w bs) o = quiet
      by (did_post w p v) o = quiet
      by (did_default v) o = quiet
      by (did_make p what m) o = quiet
      by (did_spawn u kind result) o = quiet
      by (did_close p) o = quiet
      by (did_register name args a) o = quiet
      by (did_print line) o = quiet
      by (did_end how) o = quiet

pub feeds_in_order : (f : FeedPorts) (t : ℕ) (journal : List EventView) (s : State) → KeepsTo (FeedRule f) t journal s → Begins (put_in (deeds t journal)) (passed_on f (taken (deeds t journal)) (made_in (deeds t journal)))
feeds_in_order f t journal s k = along (FeedRule f) (λ ds. Begins (put_in ds) (passed_on f (taken ds) (made_in ds))) (deeds t journal) k.did (feed_step f) [] (deeds t journal) refl ([], refl)
