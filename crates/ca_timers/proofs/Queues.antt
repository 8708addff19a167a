-- What becomes of a queue when a deadline joins it.
use Rattle.std.proofs.Common.{◌≡◌, List, [], ◌∷◌, ◌++◌, ◌∙◌, map, sym, ap, subst, append_assoc}
use Rattle.std.proofs.lemmas.List.{map-append}
use Rattle.ca_value.specs.Deadlines.{Deadline, opened}
use Rattle.ca_timers.specs.Timers.{AreOrdered, IsInFront, deadline_view}
use Rattle.ca_timers.specs.declared.deadline.OpenDeadline.{OpenDeadline}
use Rattle.ca_timers.proofs.Order.{opened_end, opened_in_front}

-- it joins the row
pub row_joined : (ts : List Deadline) (xs ys : List OpenDeadline) (d : OpenDeadline) → ys ≡ xs ++ d ∷ [] → ts ++ map deadline_view ys ≡ (ts ++ map deadline_view xs) ++ deadline_view d ∷ []
row_joined ts xs ys d e = rw e (simp (map-append, append_assoc))

-- the first one of the row goes into the tree
pub first_moved : (ts us : List Deadline) (d : Deadline) (xs ys all : List Deadline) → AreOrdered all → ts ++ xs ≡ all → xs ≡ d ∷ ys → us ≡ opened d ts → us ++ ys ≡ all
first_moved ts us d xs ys all o h x u =
    let whole : ts ++ d ∷ ys ≡ all = ap (λ (r : List Deadline). ts ++ r) (sym x) ∙ h in
    let last : us ≡ ts ++ d ∷ [] = u ∙ opened_end d ts ys (subst AreOrdered (sym whole) o) in
    let back : (ts ++ d ∷ []) ++ ys ≡ all = rw append_assoc whole in
    ap (λ (r : List Deadline). r ++ ys) last ∙ back

-- it joins the tree, where it stands before those of the row
pub tree_joined : (ts us ys all : List Deadline) (d : Deadline) → ts ++ ys ≡ all → us ≡ opened d ts → IsInFront d ys → us ++ ys ≡ opened d all
tree_joined ts us ys all d h u f = ap (λ (r : List Deadline). r ++ ys) u ∙ sym (opened_in_front d ts ys f) ∙ ap (opened d) h
