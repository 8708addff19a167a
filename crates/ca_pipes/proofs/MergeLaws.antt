-- The inputs of a merge, and what an alts over them answers.
use Rattle.std.proofs.Common.{◌≡◌, ◌≢◌, ℕ, zero, suc, ◌+◌, ◌<◌, List, [], ◌∷◌, ◌++◌, length, take, get_or, refl, sym, ap, ◌∙◌, subst, arith, Bool, true, false, cond, nat_eq, Option, None, Result, Ok, Err, IfOk}
use Rattle.std.proofs.lemmas.List.{take_more}
use Rattle.ca_value.specs.Tree.{Tree, Trees, nil, bool, int, text, key, vector, map, port, none, item, trees_of}
use Rattle.ca_value.specs.View.{view, views, trees}
use Rattle.ca_value.specs.declared.value.Value.{Value}
use Rattle.ca_term.specs.declared.place.Place.{Place}
use Rattle.ca_meaning.specs.Asks.{ask_to_choose, follows, needing, stands_at, value_and_port, pair_of}
use Rattle.ca_meaning.specs.PipeTable.{is_port, without_port, merge_asks, merge_next, inputs_left}
use Rattle.ca_system.specs.declared.stand.Stand.{Stand}
use Rattle.ca_system.specs.declared.stand.Next.{Next as NextState}
use Rattle.ca_system.specs.Stands.{stand_at}
use Rattle.ca_pipes.specs.declared.merge.State.{State}
use Rattle.ca_pipes.specs.MergeViews.{merge_at, after_choice_of}

-- there is an input to choose
pub some_inputs : {E : Type 0} (r : Result Stand E) (out : ℕ) (p : Place) (vs : List Value) (ts : List Tree) → views vs ≡ ts → length vs ≢ 0 → IfOk r (λ s. stand_at s ≡ ask_to_choose (trees_of ts) p) → IfOk r (λ s. stand_at s ≡ stands_at p (merge_asks out) (inputs_left (trees_of ts)))
some_inputs r out p [] ts e some h = absurd (some refl)
some_inputs {E} r out p (v ∷ vs) ts e some h = subst (λ ws. IfOk r (λ s. stand_at s ≡ ask_to_choose (trees_of ws) p) → IfOk r (λ s. stand_at s ≡ stands_at p (merge_asks out) (inputs_left (trees_of ws)))) e (λ x. x) h

-- what follows on the answer of an alts over some inputs
pub alts_follow : {E : Type 0} (r : Result (NextState State) E) (o : Option (Tree × ℕ)) (a : Tree) (vs : List Value) (ts : Trees) → trees vs ≡ ts → length vs ≢ 0 → o ≡ value_and_port a → IfOk r (λ s. merge_at s ≡ needing o (λ c. after_choice_of ts c.0 c.1)) → IfOk r (λ s. merge_at s ≡ follows (merge_next a) (inputs_left ts))
alts_follow r o a [] ts e some is h = absurd (some refl)
alts_follow (Ok s) o a (v ∷ vs) ts e some is h =
    h ∙ subst (λ ws. needing o (λ c. after_choice_of ws c.0 c.1) ≡ follows (merge_next a) (inputs_left ws)) e (ap (λ x. needing x (λ c. after_choice_of (trees (v ∷ vs)) c.0 c.1)) is)
alts_follow (Err x) o a (v ∷ vs) ts e some is h = tt

pub not_none : (n : ℕ) (b : Bool) → b ≡ nat_eq n 0 → b ≡ false → n ≢ 0
not_none zero b e f = λ z. absurd cc
not_none (suc n) b e f = λ z. absurd (omega (arith, z))

-- the trees with one more at the end
added : Trees → Tree → Trees
added none v = item v none
added (item t ts) v = item t (added ts v)

trees_added : (vs : List Value) (v : Value) → trees (vs ++ v ∷ []) ≡ added (trees vs) (view v)
unfolding added
trees_added [] v = refl
trees_added (u ∷ vs) v = ap (item (view u)) (trees_added vs v)

without_added : (n : ℕ) (ts : Trees) (v : Tree) → without_port n (added ts v) ≡ cond (is_port n v) (without_port n ts) (added (without_port n ts) v)
unfolding added
without_added n none v = refl
without_added n (item t ts) v = by (is_port n t) (is_port n v) (without_added n ts v) where
  by : (b c : Bool) → without_port n (added ts v) ≡ cond c (without_port n ts) (added (without_port n ts) v) → cond b (without_port n (added ts v)) (item t (without_port n (added ts v))) ≡ cond c (cond b (without_port n ts) (item t (without_port n ts))) (added (cond b (without_port n ts) (item t (without_port n ts))) v)
  by true true ih = ih
  by true false ih = ih
  by false true ih = ap (item t) ih
  by false false ih = ap (item t) ih

one_more : (n : ℕ) (vs : List Value) (i : ℕ) (v : Value) → i < length vs → v ≡ get_or vs i v → without_port n (trees (take (i + 1) vs)) ≡ cond (is_port n (view v)) (without_port n (trees (take i vs))) (added (without_port n (trees (take i vs))) (view v))
one_more n vs i v lt is =
    ap (λ us. without_port n (trees us)) (take_more vs i v lt ∙ ap (λ u. take i vs ++ u ∷ []) (sym is))
    ∙ ap (without_port n) (trees_added (take i vs) v) ∙ without_added n (trees (take i vs)) (view v)

-- the inputs that were kept of the first so many
pub left_out : (n : ℕ) (vs : List Value) (i : ℕ) (v : Value) (kept : List Value) → i < length vs → v ≡ get_or vs i v → trees kept ≡ without_port n (trees (take i vs)) → is_port n (view v) ≡ true → trees kept ≡ without_port n (trees (take (i + 1) vs))
left_out n vs i v kept lt is h there =
    h ∙ sym (one_more n vs i v lt is ∙ ap (λ b. cond b (without_port n (trees (take i vs))) (added (without_port n (trees (take i vs))) (view v))) there)

pub kept_too : (n : ℕ) (vs : List Value) (i : ℕ) (v : Value) (kept : List Value) (copy : Value) → i < length vs → v ≡ get_or vs i v → trees kept ≡ without_port n (trees (take i vs)) → is_port n (view v) ≡ false → view copy ≡ view v → trees (kept ++ copy ∷ []) ≡ without_port n (trees (take (i + 1) vs))
kept_too n vs i v kept copy lt is h there same =
    trees_added kept copy ∙ ap (added (trees kept)) same ∙ ap (λ ts. added ts (view v)) h
    ∙ sym (one_more n vs i v lt is ∙ ap (λ b. cond b (without_port n (trees (take i vs))) (added (without_port n (trees (take i vs))) (view v))) there)
