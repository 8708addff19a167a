-- Local steps and answers leave a term one whose names are used at most once.
use Rattle.std.proofs.Common.{◌≡◌, ◌≢◌, inl, inr, ℕ, zero, suc, ◌≤◌, List, [], ◌∷◌, refl, sym, ap, ◌∙◌, subst, arith, Bool, true, false, cond, ◌==◌, not, Some}
use Rattle.std.specs.Prelude.{All}
use Rattle.std.proofs.lemmas.Map.{update_here}
use Rattle.ca_value.specs.Tree.{Tree, nil, bool, int, text, key, vector, map, port}
use Rattle.ca_term.specs.declared.head.Head.TheVariants.{Recur, Builtin, Call, Take, Put, Alts, Make, Spawn, Close, Register, Print, Post}
use Rattle.ca_term.specs.Kernel.{Kernel, Kernels, Bindings, Founds, const, var, branch, bind, loop, seq, frame, turn, apply, none, item, empty, binding, put, put_items, put_bindings, puts}
use Rattle.ca_term.specs.Program.{ProgramView, ProcedureView}
use Rattle.ca_meaning.specs.Operands.{truth, values_in}
use Rattle.ca_meaning.specs.Redex.{redex, redex_items, replace, replace_items, is_value, value_of, values_of, all_values, is_ready_recur}
use Rattle.ca_meaning.specs.Started.{named, names_found, procedure_at, started}
use Rattle.ca_meaning.specs.Body.{BodyView, contract, step, after_turn}
use Rattle.ca_meaning.proofs.Waits.{each-weaker}
use Rattle.ca_roles.specs.Roles.{public, Roles, no_roles, known_as}
use Rattle.ca_roles.specs.Sealed.{SealedFounds, all_public, Sealed, IsSealedProcedure, IsSealed}
use Rattle.ca_roles.specs.Once.{Test, no_names, no_ports, known, only, is_in, use_count, uses_behind, IsUsedOnce, UsesOnce, AllOnce, BindOnce, InitsOnce, IsOnceProcedure, StartsOnce}
use Rattle.ca_roles.proofs.Starting.{procedure_sealed}
use Rattle.ca_roles.proofs.Contracting.{founds_scope}
use Rattle.ca_roles.proofs.Rested.{redex_sealed}
use Rattle.ca_roles.proofs.Counted.{Unbound, AllUnbound, UnboundIn, put_uses, put_uses_behind}
use Rattle.ca_roles.proofs.Unused.{known_else}
use Rattle.ca_roles.proofs.Unbinding.{unbound, unbound_in, unbound_inits, text_unbound, put_unbound}
use Rattle.ca_roles.proofs.PutPublic.{apart_known, AreUnbound, named_names}
use Rattle.ca_roles.proofs.Fewer.{Turned, turned, each_founds}

pub is_none : (v : Tree) → is_in no_ports v ≡ false
is_none (port n) = refl
is_none nil = refl
is_none (bool b) = refl
is_none (int z) = refl
is_none (text s) = refl
is_none (key s) = refl
is_none (vector vs) = refl
is_none (map ps) = refl

module _ (n : ℕ) (v : Tree) where
  -- another name counts as before
  put_used : (m : ℕ) (bs : Bindings) (body : Kernel) → m ≢ n → UnboundIn n bs → Unbound n body → IsUsedOnce m bs body → IsUsedOnce m (put_bindings n v bs) (put n v body)
  put_used m bs body ne u w h k =
      let other : only m n ≡ false = known_else 0 no_names no_roles m true n (λ e. ne (sym e)) in
      let same = put_uses_behind k no_ports n v bs (only m) (use_count k no_ports (put n v body)) (use_count k no_ports body) u (λ M. put_uses k no_ports n v body M w)
      ∙ ap (λ (M : Test). uses_behind k no_ports bs M (use_count k no_ports body)) (ap (known (only m) n) (is_none v) ∙ apart_known (only m) n other) in
      subst (λ x. x ≤ 1) (sym same) (h k)

  mutual
    pub put_once : (t : Kernel) → Unbound n t → UsesOnce t → UsesOnce (put n v t)
    put_once (const w) u h = tt
    put_once (var m) u h = by (m == n) where
      by : (b : Bool) → UsesOnce (cond b (const v) (var m))
      by true = tt
      by false = tt
    put_once (branch c a b) u h = (put_once c u.0 h.0, put_once a u.1 h.1, put_once b u.2 h.2)
    put_once (bind bs body) u h = (put_bind_once bs body u.0 u.1 h.0, put_once body u.1 h.1)
    put_once (loop fs bs body) u h = (put_inits_once bs u.0 h.0, put_once body u.1 h.1)
    put_once (seq ts) u h = put_all_once ts u h
    put_once (frame body) u h = h
    put_once (turn ns again now) u h = h
    put_once (apply f ts p) u h = put_all_once ts u h

    put_all_once : (ts : Kernels) → AllUnbound n ts → AllOnce ts → AllOnce (put_items n v ts)
    put_all_once none u h = tt
    put_all_once (item t ts) u h = (put_once t u.0 h.0, put_all_once ts u.1 h.1)

    pub put_bind_once : (bs : Bindings) (body : Kernel) → UnboundIn n bs → Unbound n body → BindOnce bs body → BindOnce (put_bindings n v bs) (put n v body)
    put_bind_once empty body u w h = tt
    put_bind_once (binding m t bs) body u w h = (put_used m bs body u.0 u.2 w h.0, put_once t u.1 h.1, put_bind_once bs body u.2 w h.2)

    pub put_inits_once : (bs : Bindings) → UnboundIn n bs → InitsOnce bs → InitsOnce (put_bindings n v bs)
    put_inits_once empty u h = tt
    put_inits_once (binding m t bs) u h = (put_once t u.1 h.0, put_inits_once bs u.2 h.1)

pub puts_once : (fs : Founds) (t : Kernel) → AreUnbound fs t → UsesOnce t → UsesOnce (puts fs t)
puts_once [] t u h = h
puts_once (f ∷ fs) t u h = puts_once fs (put f.0 f.1 t) (each-weaker (λ (g : ℕ × Tree). Unbound g.0 t) (λ (g : ℕ × Tree). Unbound g.0 (put f.0 f.1 t)) fs (λ g. put_unbound g.0 f.0 f.1 t) u.1) (put_once f.0 f.1 t u.0 h)

once_or : (b : Bool) (x y : Kernel) → UsesOnce x → UsesOnce y → UsesOnce (cond b x y)
once_or true x y h g = h
once_or false x y h g = g

mutual
  pub redex_once : (t : Kernel) → UsesOnce t → UsesOnce (redex t)
  redex_once (const v) h = tt
  redex_once (var n) h = tt
  redex_once (branch c a b) h = once_or (is_value c) (branch c a b) (redex c) h (redex_once c h.0)
  redex_once (bind empty body) h = h
  redex_once (bind (binding n t bs) body) h = once_or (is_value t) (bind (binding n t bs) body) (redex t) h (redex_once t h.0.1)
  redex_once (loop fs empty body) h = h
  redex_once (loop fs (binding n t bs) body) h = once_or (is_value t) (loop fs (binding n t bs) body) (redex t) h (redex_once t h.0.0)
  redex_once (seq none) h = tt
  redex_once (seq (item t none)) h = h
  redex_once (seq (item t (item u us))) h = once_or (is_value t) (seq (item t (item u us))) (redex t) h (redex_once t h.0)
  redex_once (frame body) h = once_or (is_value body) (frame body) (redex body) h (redex_once body h)
  redex_once (turn ns again now) h = once_or (is_value now) (turn ns again now) (cond (is_ready_recur now) (turn ns again now) (redex now)) h (once_or (is_ready_recur now) (turn ns again now) (redex now) h (redex_once now h.1))
  redex_once (apply f ts p) h = redex_items_once ts (apply f ts p) h h

  redex_items_once : (ts : Kernels) (here : Kernel) → AllOnce ts → UsesOnce here → UsesOnce (redex_items ts here)
  redex_items_once none here h g = g
  redex_items_once (item t ts) here h g = once_or (is_value t) (redex_items ts here) (redex t) (redex_items_once ts here h.1 g) (redex_once t h.0)

module _ (u : Kernel) (once : UsesOnce u) where
  mutual
    pub replace_once : (t : Kernel) → UsesOnce t → UsesOnce (replace u t)
    replace_once (const v) h = once
    replace_once (var n) h = once
    replace_once (branch c a b) h = once_or (is_value c) u (branch (replace u c) a b) once (replace_once c h.0, h.1, h.2)
    replace_once (bind empty body) h = once
    replace_once (bind (binding n t bs) body) h = once_or (not (is_value t)) (bind (binding n (replace u t) bs) body) u ((h.0.0, replace_once t h.0.1, h.0.2), h.1) once
    replace_once (loop fs empty body) h = once
    replace_once (loop fs (binding n t bs) body) h = once_or (not (is_value t)) (loop fs (binding n (replace u t) bs) body) u ((replace_once t h.0.0, h.0.1), h.1) once
    replace_once (seq none) h = once
    replace_once (seq (item t none)) h = once
    replace_once (seq (item t (item w ws))) h = once_or (is_value t) u (seq (item (replace u t) (item w ws))) once (replace_once t h.0, h.1)
    replace_once (frame body) h = once_or (is_value body) u (frame (replace u body)) once (replace_once body h)
    replace_once (turn ns again now) h = once_or (is_value now) u (cond (is_ready_recur now) u (turn ns again (replace u now))) once (once_or (is_ready_recur now) u (turn ns again (replace u now)) once (h.0, replace_once now h.1))
    replace_once (apply f ts p) h = once_or (all_values ts) u (apply f (replace_items u ts) p) once (replace_items_once ts h)

    replace_items_once : (ts : Kernels) → AllOnce ts → AllOnce (replace_items u ts)
    replace_items_once none h = tt
    replace_items_once (item t ts) h = by (is_value t) (replace_once t h.0) (replace_items_once ts h.1) where
      by : (b : Bool) → UsesOnce (replace u t) → AllOnce (replace_items u ts) → AllOnce (cond b (item t (replace_items u ts)) (item (replace u t) ts))
      by true i j = (h.0, j)
      by false i j = (i, h.1)

pub procedure_once : (ps : List ProcedureView) (n : ℕ) → All IsOnceProcedure ps → UsesOnce (procedure_at ps n).body
procedure_once [] n h = tt
procedure_once (p ∷ ps) zero h = h 0 p (omega arith)
procedure_once (p ∷ ps) (suc n) h = procedure_once ps n (λ k d lt. h (suc k) d (omega (arith, lt)))

-- what a call and a go block begin with
pub started_once : (me : ℕ) (ps : List ProcedureView) (n : ℕ) (vs : List Tree) → All IsSealedProcedure ps → All IsOnceProcedure ps → UsesOnce (started (procedure_at ps n) vs)
started_once me ps n vs sealed starts =
    let t : ProcedureView = procedure_at ps n in
    puts_once (named t.parameters vs) t.body (named_names (λ m. Unbound m t.body) t.parameters vs (text_unbound me no_roles t.parameters t.body (procedure_sealed ps n sealed me))) (procedure_once ps n starts)

module _ (program : ProgramView) (sealed : IsSealed program) (starts : StartsOnce program) (me : ℕ) (roles : Roles) where
  turn_once : (names : List ℕ) (again now : Kernel) → Sealed me roles again (all_public names) → UsesOnce again → UsesOnce now → UsesOnce (after_turn names again now)
  turn_once names again now s h g = by (turned names again now) where
    by : Turned names again now → UsesOnce (after_turn names again now)
    by (inl e) = subst UsesOnce (sym e) g
    by (inr e) = subst (λ z. UsesOnce (after_turn names again z)) (sym e.2) (h, puts_once (named names (values_in (values_of e.0))) again (named_names (λ m. Unbound m again) names (values_in (values_of e.0)) (text_unbound me roles names again s)) h)

  let_once : (n : ℕ) (t : Kernel) (bs : Bindings) (body : Kernel) → Sealed me roles (bind (binding n t bs) body) no_roles → UsesOnce (bind (binding n t bs) body) → UsesOnce (contract program (bind (binding n t bs) body))
  let_once n t bs body s h =
      let u = unbound_in me roles n s.1.0 bs (known_as no_roles n s.1.0) s.0 (update_here no_roles n (Some s.1.0)) s.1.3 in
      let w = unbound me roles n s.1.0 body s.0 u.1 s.2 in
      (put_bind_once n (value_of t) bs body u.0 w h.0.2, put_once n (value_of t) body w h.1)

  loop_once : (fs : Founds) (n : ℕ) (t : Kernel) (bs : Bindings) (body : Kernel) → Sealed me roles (loop fs (binding n t bs) body) no_roles → UsesOnce (loop fs (binding n t bs) body) → UsesOnce (contract program (loop fs (binding n t bs) body))
  loop_once fs n t bs body s h =
      let u = unbound_inits me roles n public bs (known_as no_roles n public) s.0 (update_here no_roles n (Some public)) s.2.2 in
      (put_inits_once n (value_of t) bs u.0 h.0.1, h.1)

  begins_once : (fs : Founds) (body : Kernel) → Sealed me roles (loop fs empty body) no_roles → UsesOnce body → UsesOnce (contract program (loop fs empty body))
  begins_once fs body s h =
      let founds = subst (λ (z : Roles). SealedFounds roles fs z s.1) s.2 s.3 in
      let whole : Sealed me roles body (all_public (names_found fs)) = subst (λ (z : Roles). Sealed me roles body z) (founds_scope roles fs s.1 founds) s.4 in
      (h, puts_once fs body (each_founds body fs (text_unbound me roles (names_found fs) body whole)) h)

  contract_once : (t : Kernel) → Sealed me roles t no_roles → UsesOnce t → UsesOnce (contract program t)
  contract_once (const v) s h = tt
  contract_once (var n) s h = tt
  contract_once (branch c a b) s h = once_or (truth (value_of c)) a b h.1 h.2
  contract_once (bind empty body) s h = h.1
  contract_once (bind (binding n t bs) body) s h = let_once n t bs body s h
  contract_once (loop fs empty body) s h = begins_once fs body s h.1
  contract_once (loop fs (binding n t bs) body) s h = loop_once fs n t bs body s h
  contract_once (seq none) s h = tt
  contract_once (seq (item t none)) s h = h.0
  contract_once (seq (item t (item u us))) s h = h.1
  contract_once (frame body) s h = h
  contract_once (turn names again now) s h = turn_once names again now s.0 h.0 h.1
  contract_once (apply (Builtin b) ts p) s h = tt
  contract_once (apply (Call n) ts p) s h = started_once me program.functions n (values_in (values_of ts)) sealed.functions starts.functions
  contract_once (apply Recur ts p) s h = h
  contract_once (apply Take ts p) s h = h
  contract_once (apply Put ts p) s h = h
  contract_once (apply (Alts o) ts p) s h = h
  contract_once (apply (Make j) ts p) s h = h
  contract_once (apply (Spawn j) ts p) s h = h
  contract_once (apply Close ts p) s h = h
  contract_once (apply (Register n) ts p) s h = h
  contract_once (apply Print ts p) s h = h
  contract_once (apply Post ts p) s h = h

  pub step_once : (b : BodyView) → Sealed me roles b.term no_roles → UsesOnce b.term → UsesOnce (step program b).term
  step_once b s h = replace_once (contract program (redex b.term)) (contract_once (redex b.term) (redex_sealed me roles b.term s) (redex_once b.term h)) b.term h
