-- The tasks that a sealed script spawns are typed.
use Rattle.std.proofs.Common.{◌≡◌, inl, inr, ℕ, suc, List, [], ◌∷◌, refl, ap, ◌∙◌, arith, Bool, true, false, not, ◌==◌, eqb-true, Some, None}
use Rattle.ca_value.specs.Tree.{Tree, Trees, nil, none as no_trees, item as tree}
use Rattle.ca_term.specs.declared.place.Place.{Place}
use Rattle.ca_term.specs.declared.fault.Fault.{Fault}
use Rattle.ca_term.specs.declared.head.Head.TheVariants.{Spawn}
use Rattle.ca_term.specs.declared.head.SeedKind.TheVariants.{System}
use Rattle.ca_term.specs.declared.head.SystemTask.{SystemTask}
use Rattle.ca_term.specs.declared.head.Transform.{Transform}
use Rattle.ca_term.specs.declared.head.PlainFunction.{PlainFunction}
use Rattle.ca_term.specs.Kernel.{Kernel, Kernels, apply, none, item}
use Rattle.ca_term.specs.Fits.{count_terms}
use Rattle.ca_term.specs.Program.{ProgramView}
use Rattle.ca_meaning.specs.Applied.{Work}
use Rattle.ca_meaning.specs.Asks.{trees_in}
use Rattle.ca_meaning.specs.Operands.{port_of_value, truth, first_of, second_of, third_of, rest_of}
use Rattle.ca_meaning.specs.PipeTable.{OntoPorts, inputs_left}
use Rattle.ca_meaning.specs.Redex.{value_of, values_of}
use Rattle.ca_meaning.specs.State.{State}
use Rattle.ca_meaning.specs.System.{new_system, fourth_of}
use Rattle.ca_meaning.specs.TaskSteps.{result_of_system}
use Rattle.ca_meaning.specs.Refusal.{Need, a_channel, the_mult, the_mix, the_publication, anything, not_needed, unmet, needs_of_system}
use Rattle.ca_roles.specs.Roles.{Hidden, jobs, replies, acks, Role, hidden, Roles, no_roles, IsPublic, ArePublic}
use Rattle.ca_roles.specs.Sealed.{IsNamed, KeywordIs, no_keyword, a_keyword, HasMask, plain, of_job, of_feed, of_collect, of_mult, Sealed, AllSealed}
use Rattle.ca_roles.specs.Typed.{IsPublicPort, TypedNext, TypedMerge, TypedSystem, IsTypedResult}
use Rattle.ca_roles.proofs.Contracting.{value_public, operands_public}
use Rattle.ca_roles.proofs.Ports.{first_public, second_public, third_public, items_in_public, needs_port, met, port_public}
use Rattle.ca_roles.proofs.Following.{items_typed}

module _ (program : ProgramView) (me : ℕ) (roles : Roles) (s : State) where
  hidden_role : (o : ℕ) (x : Hidden) (t : Kernel) → IsNamed me roles no_roles (hidden o x) t → roles (port_of_value (value_of t)) ≡ Some (hidden me x)
  hidden_role o x t (own, inl i) = ap (λ k. roles (port_of_value (value_of k))) i.1 ∙ i.2
  hidden_role o x t (own, inr i) = absurd (let k : None ≡ Some (hidden me x) = i.2 in cc)

  -- a public operand that has to be a port
  channel : (v : Tree) → IsPublic roles v → not_needed s a_channel v ≡ None → IsPublicPort roles (port_of_value v)
  channel v h e = port_public roles v (needs_port s a_channel v refl e) h

  not_nil : {G : Type 0} → not_needed s a_channel nil ≡ None → G
  not_nil e = absurd (let k : Some Fault.NotAPort ≡ None = e in cc)

  abbrev Three : Need → Need → Need → Trees → Type 0
  Three a b c vs = (not_needed s a (first_of vs) ≡ None) × (not_needed s b (second_of vs) ≡ None) × (not_needed s c (third_of vs) ≡ None)

  three : (a b c : Need) (ns : List Need) (vs : Trees) → unmet s (a ∷ b ∷ c ∷ ns) vs ≡ None → Three a b c vs
  three a b c ns vs e =
      let x = met s a (b ∷ c ∷ ns) vs e in
      let y = met s b (c ∷ ns) (rest_of vs) x.1 in
      (x.0, y.0, (met s c ns (rest_of (rest_of vs)) y.1).0)

  fourth : (a b c d : Need) (vs : Trees) → unmet s (a ∷ b ∷ c ∷ d ∷ []) vs ≡ None → not_needed s d (fourth_of vs) ≡ None
  fourth a b c d vs e =
      let x = met s a (b ∷ c ∷ d ∷ []) vs e in
      let y = met s b (c ∷ d ∷ []) (rest_of vs) x.1 in
      let z = met s c (d ∷ []) (rest_of (rest_of vs)) y.1 in
      (met s d [] (rest_of (rest_of (rest_of vs))) z.1).0

  feed_seed : (ts : Kernels) (p : Place) → Sealed me roles (apply (Spawn (System SystemTask.Feed)) ts p) no_roles → unmet s (needs_of_system SystemTask.Feed) (values_of ts) ≡ None → TypedSystem program roles (new_system SystemTask.Feed (values_of ts) p)
  feed_seed ts p h e = by ts h.0 h.1 h.2 (three a_channel a_channel a_channel [] (values_of ts) e) where
    by : (ts : Kernels) (mask : List Role) → HasMask me (Spawn (System SystemTask.Feed)) p ts mask → AllSealed me roles mask ts no_roles → Three a_channel a_channel a_channel (values_of ts) → TypedSystem program roles (new_system SystemTask.Feed (values_of ts) p)
    by ts mask (plain k) a e = absurd (let j : true ≡ false = k in cc)
    by none mask (of_feed w) a e = not_nil e.0
    by (item f none) mask (of_feed w) a e = not_nil e.1
    by (item f (item j none)) mask (of_feed w) a e = not_nil e.2
    by (item f (item j (item q ts))) mask (of_feed w) a e = (me, w, channel (value_of f) (value_public me roles no_roles f a.0) e.0, hidden_role me (jobs w) j a.1.0, hidden_role me (replies w) q a.1.1.0, tt)

  mult_seed : (ts : Kernels) (p : Place) → Sealed me roles (apply (Spawn (System SystemTask.Mult)) ts p) no_roles → unmet s (needs_of_system SystemTask.Mult) (values_of ts) ≡ None → TypedSystem program roles (new_system SystemTask.Mult (values_of ts) p)
  mult_seed ts p h e = by ts h.0 h.1 h.2 (three the_mult a_channel a_channel [] (values_of ts) e) where
    by : (ts : Kernels) (mask : List Role) → HasMask me (Spawn (System SystemTask.Mult)) p ts mask → AllSealed me roles mask ts no_roles → Three the_mult a_channel a_channel (values_of ts) → TypedSystem program roles (new_system SystemTask.Mult (values_of ts) p)
    by ts mask (plain k) a e = absurd (let j : true ≡ false = k in cc)
    by none mask of_mult a e = not_nil e.1
    by (item m none) mask of_mult a e = not_nil e.1
    by (item m (item c none)) mask of_mult a e = not_nil e.2
    by (item m (item c (item q ts))) mask of_mult a e =
        (port_public roles (value_of m) (needs_port s the_mult (value_of m) refl e.0) (value_public me roles no_roles m a.0), channel (value_of c) (value_public me roles no_roles c a.1.0) e.1, (me, hidden_role me acks q a.1.1.0), tt)

  collect_seed : (ts : Kernels) (p : Place) → Sealed me roles (apply (Spawn (System SystemTask.Collect)) ts p) no_roles → unmet s (needs_of_system SystemTask.Collect) (values_of ts) ≡ None → TypedSystem program roles (new_system SystemTask.Collect (values_of ts) p) × IsTypedResult roles (result_of_system SystemTask.Collect (values_of ts))
  collect_seed ts p h e = by ts h.0 h.1 h.2 (three a_channel a_channel anything (a_channel ∷ []) (values_of ts) e) (fourth a_channel a_channel anything a_channel (values_of ts) e) where
    by : (ts : Kernels) (mask : List Role) → HasMask me (Spawn (System SystemTask.Collect)) p ts mask → AllSealed me roles mask ts no_roles → Three a_channel a_channel anything (values_of ts) → not_needed s a_channel (fourth_of (values_of ts)) ≡ None
        → TypedSystem program roles (new_system SystemTask.Collect (values_of ts) p) × IsTypedResult roles (result_of_system SystemTask.Collect (values_of ts))
    by ts mask (plain k) a e f = absurd (let j : true ≡ false = k in cc)
    by (item q (item t (item z (item r none)))) mask (of_collect w) a e f =
        let result = channel (value_of r) (value_public me roles no_roles r a.1.1.1.0) f in
        ((me, w, channel (value_of t) (value_public me roles no_roles t a.1.0) e.1, result, hidden_role me (replies w) q a.0, tt), result)

  job_seed : (x : Transform) (f : PlainFunction) (ts : Kernels) (p : Place) → Sealed me roles (apply (Spawn (System (SystemTask.Job x f))) ts p) no_roles → TypedSystem program roles (new_system (SystemTask.Job x f) (values_of ts) p)
  job_seed x f ts p h = by ts h.0 h.1 h.2 where
    as_work : (w : Work) (k : Tree) → w.keyword ≡ k → w ≡ record { transform = w.transform; function = w.function; keyword = k; place = w.place }
    as_work w k e = ap (λ z. record { transform = w.transform; function = w.function; keyword = z; place = w.place }) e

    keyword_at : (k : Tree) (ts : Kernels) → KeywordIs k ts → k ≡ second_of (values_of ts)
    keyword_at k ts no_keyword = refl
    keyword_at k ts a_keyword = refl

    second_is : (w : Work) (ts : Kernels) → AllSealed me roles (hidden me (jobs w) ∷ []) ts no_roles → IsPublic roles (second_of (values_of ts))
    second_is w none a = tt
    second_is w (item j none) a = tt
    second_is w (item j (item k ts)) a = value_public me roles no_roles k a.1.0

    first_named : (w : Work) (ts : Kernels) → KeywordIs w.keyword ts → AllSealed me roles (hidden me (jobs w) ∷ []) ts no_roles → roles (port_of_value (first_of (values_of ts))) ≡ Some (hidden me (jobs w))
    first_named w none k a = elim k [ ]
    first_named w (item j ts) k a = hidden_role me (jobs w) j a.0

    by : (ts : Kernels) (mask : List Role) → HasMask me (Spawn (System (SystemTask.Job x f))) p ts mask → AllSealed me roles mask ts no_roles → TypedSystem program roles (new_system (SystemTask.Job x f) (values_of ts) p)
    by ts mask (plain k) a = absurd (let j : true ≡ false = k in cc)
    by ts mask (of_job w k) a = (me, first_named w ts k a ∙ ap (λ z. Some (hidden me (jobs z))) (as_work w (second_of (values_of ts)) (keyword_at w.keyword ts k)), second_is w ts a, tt)

  no_delivery : {G : Type 0} (ts : Kernels) (p : Place) → Sealed me roles (apply (Spawn (System SystemTask.Deliver)) ts p) no_roles → G
  no_delivery ts p h = by h.0 h.1 where
    by : {G : Type 0} (mask : List Role) → HasMask me (Spawn (System SystemTask.Deliver)) p ts mask → G
    by mask (plain k) = absurd (let j : true ≡ false = k in cc)

  onto_seed : (ts : Kernels) (p : Place) → Sealed me roles (apply (Spawn (System SystemTask.Onto)) ts p) no_roles → unmet s (needs_of_system SystemTask.Onto) (values_of ts) ≡ None → TypedSystem program roles (new_system SystemTask.Onto (values_of ts) p) × IsTypedResult roles (result_of_system SystemTask.Onto (values_of ts))
  onto_seed ts p h e = by ts h.0 h.1 h.2 (met s a_channel (anything ∷ anything ∷ a_channel ∷ []) (values_of ts) e).0 (fourth a_channel anything anything a_channel (values_of ts) e) where
    four : (n : ℕ) → not (n == 4) ≡ false → n ≡ 4
    four n k = at (n == 4) refl k where
      at : (b : Bool) → (n == 4) ≡ b → not b ≡ false → n ≡ 4
      at true i k = eqb-true n 4 i
      at false i k = absurd (let j : true ≡ false = k in cc)

    by : (ts : Kernels) (mask : List Role) → HasMask me (Spawn (System SystemTask.Onto)) p ts mask → AllSealed me roles mask ts no_roles → not_needed s a_channel (first_of (values_of ts)) ≡ None → not_needed s a_channel (fourth_of (values_of ts)) ≡ None
        → TypedSystem program roles (new_system SystemTask.Onto (values_of ts) p) × IsTypedResult roles (result_of_system SystemTask.Onto (values_of ts))
    by none mask (plain k) a e f = absurd (let j : true ≡ false = k in cc)
    by (item x none) mask (plain k) a e f = absurd (let j : true ≡ false = k in cc)
    by (item x (item y none)) mask (plain k) a e f = absurd (let j : true ≡ false = k in cc)
    by (item x (item y (item z none))) mask (plain k) a e f = absurd (let j : true ≡ false = k in cc)
    by (item x (item y (item z (item r (item q ts))))) mask (plain k) a e f = absurd (let j = four (suc (suc (suc (suc (suc (count_terms ts)))))) k in omega (arith, j))
    by (item x (item y (item z (item r none)))) mask (plain k) a e f =
        let result = channel (value_of r) (value_public me roles no_roles r a.1.1.1.0) f in
        let o : OntoPorts = record { target = port_of_value (value_of x); closes = truth (value_of z); result = port_of_value (value_of r) } in
        ((channel (value_of x) (value_public me roles no_roles x a.0) e, result, items_typed program roles o (trees_in (value_of y)) (items_in_public roles (value_of y) (value_public me roles no_roles y a.1.0))), result)

  -- the others have no hidden operands
  mix_seed : (vs : Trees) (p : Place) → ArePublic roles vs → unmet s (needs_of_system SystemTask.Mix) vs ≡ None → TypedSystem program roles (new_system SystemTask.Mix vs p)
  mix_seed vs p a e =
      let n = three the_mix a_channel a_channel [] vs e in
      (port_public roles (first_of vs) (needs_port s the_mix (first_of vs) refl n.0) (first_public roles vs a), channel (second_of vs) (second_public roles vs a) n.1, channel (third_of vs) (third_public roles vs a) n.2, tt)

  pub_seed : (f : PlainFunction) (vs : Trees) (p : Place) → ArePublic roles vs → unmet s (needs_of_system (SystemTask.Pub f)) vs ≡ None → TypedSystem program roles (new_system (SystemTask.Pub f) vs p)
  pub_seed f vs p a e =
      let x = met s the_publication (a_channel ∷ []) vs e in
      (port_public roles (first_of vs) (needs_port s the_publication (first_of vs) refl x.0) (first_public roles vs a), channel (second_of vs) (second_public roles vs a) (met s a_channel [] (rest_of vs) x.1).0, third_public roles vs a, tt)

  pipe_seed : (vs : Trees) (p : Place) → ArePublic roles vs → unmet s (needs_of_system SystemTask.Pipe) vs ≡ None → TypedSystem program roles (new_system SystemTask.Pipe vs p)
  pipe_seed vs p a e =
      let x = met s a_channel (a_channel ∷ []) vs e in
      (channel (first_of vs) (first_public roles vs a) x.0, channel (second_of vs) (second_public roles vs a) (met s a_channel [] (rest_of vs) x.1).0, tt)

  merge_seed : (vs : Trees) (p : Place) → ArePublic roles vs → unmet s (needs_of_system SystemTask.Merge) vs ≡ None → TypedSystem program roles (new_system SystemTask.Merge vs p)
  merge_seed vs p a e =
      let x = met s anything (a_channel ∷ []) vs e in
      (channel (second_of vs) (second_public roles vs a) (met s a_channel [] (rest_of vs) x.1).0, left (trees_in (first_of vs)) (items_in_public roles (first_of vs) (first_public roles vs a))) where
        left : (vs : Trees) → ArePublic roles vs → TypedNext (TypedMerge roles) (inputs_left vs)
        left no_trees a = tt
        left (tree v vs) a = a

  pub system_seed : (kind : SystemTask) (ts : Kernels) (p : Place) → Sealed me roles (apply (Spawn (System kind)) ts p) no_roles → unmet s (needs_of_system kind) (values_of ts) ≡ None → TypedSystem program roles (new_system kind (values_of ts) p) × IsTypedResult roles (result_of_system kind (values_of ts))
  system_seed SystemTask.Mult ts p h e = (mult_seed ts p h e, tt)
  system_seed SystemTask.Deliver ts p h e = no_delivery ts p h
  system_seed SystemTask.Mix ts p h e = (mix_seed (values_of ts) p (operands_public me roles (Spawn (System SystemTask.Mix)) ts p refl h) e, tt)
  system_seed (SystemTask.Pub f) ts p h e = (pub_seed f (values_of ts) p (operands_public me roles (Spawn (System (SystemTask.Pub f))) ts p refl h) e, tt)
  system_seed SystemTask.Pipe ts p h e = (pipe_seed (values_of ts) p (operands_public me roles (Spawn (System SystemTask.Pipe)) ts p refl h) e, tt)
  system_seed SystemTask.Merge ts p h e = (merge_seed (values_of ts) p (operands_public me roles (Spawn (System SystemTask.Merge)) ts p refl h) e, tt)
  system_seed SystemTask.Onto ts p h e = onto_seed ts p h e
  system_seed SystemTask.Feed ts p h e = (feed_seed ts p h e, tt)
  system_seed (SystemTask.Job x f) ts p h e = (job_seed x f ts p h, tt)
  system_seed SystemTask.Collect ts p h e = collect_seed ts p h e
