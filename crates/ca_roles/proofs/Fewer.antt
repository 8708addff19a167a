-- A local step starts no more than the term could before.
use Rattle.std.proofs.Common.{◌≡◌, ◌⊎◌, inl, inr, ℕ, ◌+◌, ◌≤◌, List, [], ◌∷◌, refl, sym, ap, ◌∙◌, subst, arith, Bool, true, false, cond, Some}
use Rattle.std.proofs.lemmas.Map.{update_here}
use Rattle.ca_value.specs.Builtins.{builtin_result}
use Rattle.ca_value.specs.Tree.{Tree, nil}
use Rattle.ca_term.specs.declared.place.Place.{Place}
use Rattle.ca_term.specs.declared.head.Head.{Head}
use Rattle.ca_term.specs.declared.head.Head.TheVariants.{Recur, Builtin, Call, Take, Put, Alts, Make, Spawn, Close, Register, Print, Post}
use Rattle.ca_term.specs.Kernel.{Kernel, Kernels, Bindings, Founds, const, var, branch, bind, loop, seq, frame, turn, apply, none, item, empty, binding, put, puts}
use Rattle.ca_term.specs.Program.{ProgramView, ProcedureView}
use Rattle.ca_meaning.specs.Operands.{truth, values_in}
use Rattle.ca_meaning.specs.Redex.{redex, replace, is_value, value_of, values_of}
use Rattle.ca_meaning.specs.Started.{named, names_found, procedure_at, started}
use Rattle.ca_meaning.specs.Body.{BodyView, value_in, contract, step, after_turn}
use Rattle.ca_meaning.specs.Parts.{is_whole}
use Rattle.ca_meaning.specs.Sound.{Each}
use Rattle.ca_meaning.proofs.Waits.{each-weaker}
use Rattle.ca_meaning.proofs.Sizes.{whole-redex}
use Rattle.ca_roles.specs.Roles.{public, Roles, no_roles, known_as, IsPublic}
use Rattle.ca_roles.specs.Sealed.{hides, SealedFounds, Sealed, IsSealed, all_public}
use Rattle.ca_roles.specs.Once.{User, Test, no_names, known, is_in, stands_for_port, use_count, uses_behind}
use Rattle.ca_roles.proofs.Starting.{values_public, procedure_sealed}
use Rattle.ca_roles.proofs.Clean.{builtins_make_no_ports}
use Rattle.ca_roles.proofs.Contracting.{is_there, value_public, operands_public, founds_scope, founds_public}
use Rattle.ca_roles.proofs.Rested.{redex_sealed}
use Rattle.ca_roles.proofs.Counted.{Unbound, put_uses, put_uses_behind}
use Rattle.ca_roles.proofs.Unused.{no_names_hidden, unused}
use Rattle.ca_roles.proofs.Unbinding.{unbound, unbound_in, unbound_inits, text_unbound}
use Rattle.ca_roles.proofs.PutPublic.{NonePublic, Apart, public_apart, apart_known, AreUnbound, puts_apart, put_behind_apart, named_values, named_names}
use Rattle.ca_roles.proofs.Replaced.{even}

-- a running loop whose text has become a recur begins it again, and is left by a value
abbrev pub Turned : List ℕ → Kernel → Kernel → Type 0
Turned names text now = (after_turn names text now ≡ now) ⊎ ((ts : Kernels) × (p : Place) × (now ≡ apply Recur ts p))

pub turned : (names : List ℕ) (text now : Kernel) → Turned names text now
turned names text (const v) = inl refl
turned names text (var n) = inl refl
turned names text (branch c a b) = inl refl
turned names text (bind bs body) = inl refl
turned names text (loop fs bs body) = inl refl
turned names text (seq ts) = inl refl
turned names text (frame body) = inl refl
turned names text (turn ns t now) = inl refl
turned names text (apply Recur ts p) = inr (ts, p, refl)
turned names text (apply (Builtin b) ts p) = inl refl
turned names text (apply (Call n) ts p) = inl refl
turned names text (apply Take ts p) = inl refl
turned names text (apply Put ts p) = inl refl
turned names text (apply (Alts options) ts p) = inl refl
turned names text (apply (Make kind) ts p) = inl refl
turned names text (apply (Spawn kind) ts p) = inl refl
turned names text (apply Close ts p) = inl refl
turned names text (apply (Register name) ts p) = inl refl
turned names text (apply Print ts p) = inl refl
turned names text (apply Post ts p) = inl refl

pub each_founds : (t : Kernel) (fs : Founds) → Each (λ m. Unbound m t) (names_found fs) → AreUnbound fs t
each_founds t [] h = tt
each_founds t (f ∷ fs) h = (h.0, each_founds t fs h.1)

module _ (program : ProgramView) (sealed : IsSealed program) (k : User) (me : ℕ) (P : Test) (roles : Roles) (none_public : NonePublic P roles) where
  abbrev count : Kernel → ℕ
  count t = use_count k P t no_names

  pub sealed_apart : (s : Roles) (t : Kernel) → Sealed me roles t s → stands_for_port P no_names t ≡ false
  sealed_apart s (const v) h = public_apart P roles none_public v h
  sealed_apart s (var n) h = refl
  sealed_apart s (branch c x y) h = refl
  sealed_apart s (bind bs body) h = refl
  sealed_apart s (loop fs bs body) h = refl
  sealed_apart s (seq ts) h = refl
  sealed_apart s (frame body) h = refl
  sealed_apart s (turn ns again now) h = refl
  sealed_apart s (apply f ts p) h = refl

  -- the values of operands that are all public, beside names
  operands_apart : (ns : List ℕ) (f : Head) (ts : Kernels) (p : Place) → hides f ≡ false → Sealed me roles (apply f ts p) no_roles → Apart P (named ns (values_in (values_of ts)))
  operands_apart ns f ts p e h = named_values (λ v. is_in P v ≡ false) ns (values_in (values_of ts))
      (each-weaker (IsPublic roles) (λ v. is_in P v ≡ false) (values_in (values_of ts)) (public_apart P roles none_public) (values_public roles (values_of ts) (operands_public me roles f ts p e h)))

  -- a called function's text starts nothing
  call_count : (n : ℕ) (ts : Kernels) (p : Place) → Sealed me roles (apply (Call n) ts p) no_roles → count (frame (started (procedure_at program.functions n) (values_in (values_of ts)))) ≡ 0
  call_count n ts p h =
      let t : ProcedureView = procedure_at program.functions n in
      let vs = values_in (values_of ts) in
      let body : Sealed me no_roles t.body (all_public t.parameters) = procedure_sealed program.functions n sealed.functions me in
      puts_apart k P (named t.parameters vs) t.body (operands_apart t.parameters (Call n) ts p refl h) (named_names (λ m. Unbound m t.body) t.parameters vs (text_unbound me no_roles t.parameters t.body body))
      ∙ unused k me P no_roles (λ m x e i. cc) t.body no_names (all_public t.parameters) (no_names_hidden me (all_public t.parameters)) body

  same_le : (a b : ℕ) → a ≡ b → a ≤ b
  same_le a b e = omega (arith, e)

  again_less : (x y : ℕ) → y ≡ x → x + x ≤ 1 → x + x + y ≤ x + x
  again_less x y e l = omega (arith, e, l)

  -- a loop's text begins, for the first time or again: it starts nothing
  text_count : (fs : Founds) (body : Kernel) → Apart P fs → AreUnbound fs body → count body + count body ≤ 1 → count body + count body + count (puts fs body) ≤ count body + count body
  text_count fs body a u l = again_less (count body) (count (puts fs body)) (puts_apart k P fs body a u) l

  let_count : (n : ℕ) (t : Kernel) (bs : Bindings) (body : Kernel) → is_value t ≡ true → Sealed me roles (bind (binding n t bs) body) no_roles → count (contract program (bind (binding n t bs) body)) ≤ count (bind (binding n t bs) body)
  let_count n t bs body r h =
      let at : known_as no_roles n h.1.0 n ≡ Some h.1.0 = update_here no_roles n (Some h.1.0) in
      let u = unbound_in me roles n h.1.0 bs (known_as no_roles n h.1.0) h.0 at h.1.3 in
      let w = unbound me roles n h.1.0 body h.0 u.1 h.2 in
      let e = put_uses_behind k P n (value_of t) bs no_names (use_count k P (put n (value_of t) body)) (use_count k P body) u.0 (λ M. put_uses k P n (value_of t) body M w) ∙ ap (λ b. uses_behind k P bs (known no_names n b) (use_count k P body)) (sym (value_stands t r)) in
      more_after (count t) (uses_behind k P bs (known no_names n (stands_for_port P no_names t)) (use_count k P body)) (count (contract program (bind (binding n t bs) body))) e where
        more_after : (a b c : ℕ) → c ≡ b → c ≤ a + b
        more_after a b c e = omega (arith, e)

        value_stands : (t : Kernel) → is_value t ≡ true → stands_for_port P no_names t ≡ is_in P (value_of t)
        value_stands (const v) e = refl
        value_stands (var n) e = absurd (let j : false ≡ true = e in cc)
        value_stands (branch c a b) e = refl
        value_stands (bind bs body) e = refl
        value_stands (loop fs bs body) e = refl
        value_stands (seq ts) e = refl
        value_stands (frame body) e = refl
        value_stands (turn ns again now) e = refl
        value_stands (apply f ts p) e = refl

  loop_count : (fs : Founds) (n : ℕ) (t : Kernel) (bs : Bindings) (body : Kernel) → Sealed me roles (loop fs (binding n t bs) body) no_roles → count (contract program (loop fs (binding n t bs) body)) ≤ count (loop fs (binding n t bs) body)
  loop_count fs n t bs body h =
      let K : Test → ℕ = λ (M : Test). use_count k P body M + use_count k P body M in
      let u = unbound_inits me roles n public bs (known_as no_roles n public) h.0 (update_here no_roles n (Some public)) h.2.2 in
      let e = put_behind_apart k P n (value_of t) bs no_names K (public_apart P roles none_public (value_of t) (value_public me roles no_roles t h.2.0)) refl u.0
      ∙ ap (λ (M : Test). uses_behind k P bs M K) (sym (ap (known no_names n) (sealed_apart no_roles t h.2.0) ∙ apart_known no_names n refl)) in
      more_after (count t) (uses_behind k P bs (known no_names n (stands_for_port P no_names t)) K) (count (contract program (loop fs (binding n t bs) body))) e where
        more_after : (a b c : ℕ) → c ≡ b → c ≤ a + b
        more_after a b c e = omega (arith, e)

  less_behind : (a b : ℕ) → b ≤ a + a + b
  less_behind a b = omega arith

  turn_count : (names : List ℕ) (text now : Kernel) → Sealed me roles text (all_public names) → Sealed me roles now no_roles → count text + count text + count now ≤ 1 → count (after_turn names text now) ≤ count text + count text + count now
  turn_count names text now h g l = by (turned names text now) where
    first_le : (a b : ℕ) → a + b ≤ 1 → a ≤ 1
    first_le a b l = omega (arith, l)

    le_more : (a b c : ℕ) → a ≤ b → a ≤ b + c
    le_more a b c l = omega (arith, l)

    again : (ts : Kernels) (p : Place) → Sealed me roles (apply Recur ts p) no_roles → count text + count text ≤ 1 → count (after_turn names text (apply Recur ts p)) ≤ count text + count text
    again ts p i = text_count (named names (values_in (values_of ts))) text (operands_apart names Recur ts p refl i) (named_names (λ m. Unbound m text) names (values_in (values_of ts)) (text_unbound me roles names text h))

    by : Turned names text now → count (after_turn names text now) ≤ count text + count text + count now
    by (inl e) = subst (λ z. count z ≤ count text + count text + count now) (sym e) (less_behind (count text) (count now))
    by (inr e) = le_more (count (after_turn names text now)) (count text + count text) (count now) (subst (λ z. count (after_turn names text z) ≤ count text + count text) (sym e.2) (again e.0 e.1 (subst (λ z. Sealed me roles z no_roles) e.2 g) (first_le (count text + count text) (count now) l)))

  -- what comes in the redex's place stands for none of the ports
  contract_apart : (t : Kernel) → Sealed me roles t no_roles → stands_for_port P no_names (contract program t) ≡ false
  contract_apart (const v) h = public_apart P roles none_public v h
  contract_apart (var n) h = refl
  contract_apart (branch c a b) h = by (truth (value_of c)) where
    by : (y : Bool) → stands_for_port P no_names (cond y a b) ≡ false
    by true = sealed_apart no_roles a h.1
    by false = sealed_apart no_roles b h.2
  contract_apart (bind empty body) h = sealed_apart h.0 body h.2
  contract_apart (bind (binding n t bs) body) h = refl
  contract_apart (loop fs empty body) h = refl
  contract_apart (loop fs (binding n t bs) body) h = refl
  contract_apart (seq none) h = refl
  contract_apart (seq (item t none)) h = sealed_apart no_roles t h.0
  contract_apart (seq (item t (item u us))) h = refl
  contract_apart (frame body) h = sealed_apart no_roles body h
  contract_apart (turn names text now) h = by (turned names text now) where
    by : Turned names text now → stands_for_port P no_names (after_turn names text now) ≡ false
    by (inl e) = ap (stands_for_port P no_names) e ∙ sealed_apart no_roles now h.1
    by (inr e) = ap (λ z. stands_for_port P no_names (after_turn names text z)) e.2
  contract_apart (apply (Builtin b) ts p) h = public_apart P roles none_public (value_in (builtin_result b (values_of ts))) (builtins_make_no_ports roles b (values_of ts) (operands_public me roles (Builtin b) ts p refl h))
  contract_apart (apply (Call n) ts p) h = refl
  contract_apart (apply Recur ts p) h = refl
  contract_apart (apply Take ts p) h = refl
  contract_apart (apply Put ts p) h = refl
  contract_apart (apply (Alts o) ts p) h = refl
  contract_apart (apply (Make j) ts p) h = refl
  contract_apart (apply (Spawn j) ts p) h = refl
  contract_apart (apply Close ts p) h = refl
  contract_apart (apply (Register n) ts p) h = refl
  contract_apart (apply Print ts p) h = refl
  contract_apart (apply Post ts p) h = refl

  contract_count : (t : Kernel) → is_whole t ≡ true → Sealed me roles t no_roles → count t ≤ 1 → count (contract program t) ≤ count t
  contract_count (const v) w h l = omega arith
  contract_count (var n) w h l = omega arith
  contract_count (branch c a b) w h l = by (truth (value_of c)) where
    by : (y : Bool) → count (cond y a b) ≤ count c + count a + count b
    by true = omega arith
    by false = omega arith
  contract_count (bind empty body) w h l = same_le (count body) (count body) refl
  contract_count (bind (binding n t bs) body) w h l = let_count n t bs body (is_there (is_value t) w) h
  contract_count (loop fs empty body) w h l =
      let founds = subst (λ (z : Roles). SealedFounds roles fs z h.1) h.2 h.3 in
      let text : Sealed me roles body (all_public (names_found fs)) = subst (λ (z : Roles). Sealed me roles body z) (founds_scope roles fs h.1 founds) h.4 in
      text_count fs body (each-weaker (λ (g : ℕ × Tree). IsPublic roles g.1) (λ (g : ℕ × Tree). is_in P g.1 ≡ false) fs (λ g. public_apart P roles none_public g.1) (founds_public roles fs no_roles h.1 founds)) (each_founds body fs (text_unbound me roles (names_found fs) body text)) l
  contract_count (loop fs (binding n t bs) body) w h l = loop_count fs n t bs body h
  contract_count (seq none) w h l = omega arith
  contract_count (seq (item t none)) w h l = omega arith
  contract_count (seq (item t (item u us))) w h l = omega arith
  contract_count (frame body) w h l = omega arith
  contract_count (turn ns again now) w h l = turn_count ns again now h.0 h.1 l
  contract_count (apply (Builtin b) ts p) w h l = omega arith
  contract_count (apply (Call n) ts p) w h l = let e = call_count n ts p h in subst (λ x. x ≤ count (apply (Call n) ts p)) (sym e) (omega arith)
  contract_count (apply Recur ts p) w h l = omega arith
  contract_count (apply Take ts p) w h l = omega arith
  contract_count (apply Put ts p) w h l = omega arith
  contract_count (apply (Alts o) ts p) w h l = omega arith
  contract_count (apply (Make j) ts p) w h l = omega arith
  contract_count (apply (Spawn j) ts p) w h l = same_le _ _ refl
  contract_count (apply Close ts p) w h l = omega arith
  contract_count (apply (Register n) ts p) w h l = omega arith
  contract_count (apply Print ts p) w h l = omega arith
  contract_count (apply Post ts p) w h l = omega arith

  pub redex_count : (t : Kernel) → Sealed me roles t no_roles → count (redex t) ≤ count t
  redex_count t h = let e = even k me P roles (const nil) refl t h in part (count (replace (const nil) t)) (count (redex t)) (count t) e where
    part : (x r a : ℕ) → x + r ≡ a + 0 → r ≤ a
    part x r a e = omega (arith, e)

  -- with something else in the redex's place
  pub replaced_count : (u t : Kernel) → stands_for_port P no_names u ≡ false → Sealed me roles t no_roles → count u ≤ count (redex t) → count (replace u t) ≤ count t
  replaced_count u t a h l = let e = even k me P roles u a t h in less (count (replace u t)) (count (redex t)) (count t) (count u) e l where
    less : (x r a c : ℕ) → x + r ≡ a + c → c ≤ r → x ≤ a
    less x r a c e l = omega (arith, e, l)

  -- a local step starts no more, as long as the term starts one task at most
  pub step_count : (b : BodyView) → Sealed me roles b.term no_roles → count b.term ≤ 1 → count (step program b).term ≤ count b.term
  step_count b h l =
      let r = redex_sealed me roles b.term h in
      replaced_count (contract program (redex b.term)) b.term (contract_apart (redex b.term) r) h (contract_count (redex b.term) (whole-redex b.term) r (through (count (redex b.term)) (count b.term) (redex_count b.term h) l)) where
        through : (a c : ℕ) → a ≤ c → c ≤ 1 → a ≤ 1
        through a c l m = omega (arith, l, m)
