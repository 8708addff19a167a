-- A closed term stays closed.
use Rattle.std.proofs.Common.{◌≡◌, ℕ, ◌≤◌, List, [], ◌∷◌, ◌++◌, length, ◌⊎◌, inl, inr, refl, sym, ap, subst, ◌∙◌, arith, Bool, true, false, cond, not, ◌==◌, eq-eqb}
use Rattle.std.proofs.lemmas.Bool.{false≢true}
use Rattle.ca_value.specs.Tree.{Tree}
use Rattle.ca_term.specs.Kernel.{Kernel, Kernels, Bindings, Founds, const, var, branch, bind, loop, seq, frame, turn, apply, none, item, empty, binding, put, put_items, put_bindings, puts}
use Rattle.ca_term.specs.Closed.{IsIn, names_behind, behind_found, IsClosed, AreClosed, AreClosedBindings}
use Rattle.ca_meaning.specs.Redex.{redex, redex_items, replace, replace_items, is_value, value_of, all_values, is_ready_recur}
use Rattle.ca_meaning.specs.Started.{named, names_found}

-- the names of ms but n are in ns
abbrev Covers : ℕ → List ℕ → List ℕ → Type 0
Covers n ms ns = (m : ℕ) → IsIn m ms → (m ≡ n) ⊎ IsIn m ns

covers_more : (n k : ℕ) (ms ns : List ℕ) → Covers n ms ns → Covers n (k ∷ ms) (k ∷ ns)
covers_more n k ms ns c m (inl e) = inr (inl e)
covers_more n k ms ns c m (inr i) = by (c m i)
  where
    by : (m ≡ n) ⊎ IsIn m ns → (m ≡ n) ⊎ IsIn m (k ∷ ns)
    by (inl e) = inl e
    by (inr j) = inr (inr j)

covers_behind : (n : ℕ) (v : Tree) (bs : Bindings) (ms ns : List ℕ) → Covers n ms ns → Covers n (names_behind bs ms) (names_behind (put_bindings n v bs) ns)
covers_behind n v empty ms ns c = c
covers_behind n v (binding k t bs) ms ns c = covers_behind n v bs (k ∷ ms) (k ∷ ns) (covers_more n k ms ns c)

covers_found : (n : ℕ) (fs : Founds) (ms ns : List ℕ) → Covers n ms ns → Covers n (behind_found fs ms) (behind_found fs ns)
covers_found n [] ms ns c = c
covers_found n (f ∷ fs) ms ns c = covers_found n fs (f.0 ∷ ms) (f.0 ∷ ns) (covers_more n f.0 ms ns c)

put-var : (n : ℕ) (v : Tree) (m : ℕ) (ns : List ℕ) (b : Bool) → (m == n) ≡ b → (m ≡ n) ⊎ IsIn m ns → IsClosed ns (cond b (const v) (var m))
put-var n v m ns true e i = tt
put-var n v m ns false e (inl h) = absurd (false≢true (sym e ∙ eq-eqb m n h))
put-var n v m ns false e (inr j) = j

mutual
  put-closed : (n : ℕ) (v : Tree) (t : Kernel) (ms ns : List ℕ) → Covers n ms ns → IsClosed ms t → IsClosed ns (put n v t)
  put-closed n v (const w) ms ns c h = tt
  put-closed n v (var m) ms ns c h = put-var n v m ns (m == n) refl (c m h)
  put-closed n v (branch t a b) ms ns c h = (put-closed n v t ms ns c h.0, put-closed n v a ms ns c h.1, put-closed n v b ms ns c h.2)
  put-closed n v (bind bs body) ms ns c h = (put-bindings n v bs ms ns c h.0, put-closed n v body (names_behind bs ms) (names_behind (put_bindings n v bs) ns) (covers_behind n v bs ms ns c) h.1)
  put-closed n v (loop fs bs body) ms ns c h = (put-bindings n v bs ms ns c h.0, put-closed n v body (names_behind bs (behind_found fs ms)) (names_behind (put_bindings n v bs) (behind_found fs ns)) (covers_behind n v bs (behind_found fs ms) (behind_found fs ns) (covers_found n fs ms ns c)) h.1)
  put-closed n v (seq ts) ms ns c h = put-items n v ts ms ns c h
  put-closed n v (frame body) ms ns c h = h
  put-closed n v (turn names text now) ms ns c h = h
  put-closed n v (apply f ts p) ms ns c h = put-items n v ts ms ns c h

  put-items : (n : ℕ) (v : Tree) (ts : Kernels) (ms ns : List ℕ) → Covers n ms ns → AreClosed ms ts → AreClosed ns (put_items n v ts)
  put-items n v none ms ns c h = tt
  put-items n v (item t ts) ms ns c h = (put-closed n v t ms ns c h.0, put-items n v ts ms ns c h.1)

  put-bindings : (n : ℕ) (v : Tree) (bs : Bindings) (ms ns : List ℕ) → Covers n ms ns → AreClosedBindings ms bs → AreClosedBindings ns (put_bindings n v bs)
  put-bindings n v empty ms ns c h = tt
  put-bindings n v (binding k t bs) ms ns c h = (put-closed n v t ms ns c h.0, put-bindings n v bs (k ∷ ms) (k ∷ ns) (covers_more n k ms ns c) h.1)

pub choose : (b : Bool) (x y : Kernel) → IsClosed [] x → IsClosed [] y → IsClosed [] (cond b x y)
choose true x y g h = g
choose false x y g h = h

choose-items : (b : Bool) (x y : Kernels) → AreClosed [] x → AreClosed [] y → AreClosed [] (cond b x y)
choose-items true x y g h = g
choose-items false x y g h = h

-- the redex of a closed term is closed
mutual
  pub redex-closed : (t : Kernel) → IsClosed [] t → IsClosed [] (redex t)
  redex-closed (const v) h = tt
  redex-closed (var n) h = h
  redex-closed (branch c a b) h = choose (is_value c) (branch c a b) (redex c) h (redex-closed c h.0)
  redex-closed (bind empty body) h = h
  redex-closed (bind (binding n t bs) body) h = choose (is_value t) (bind (binding n t bs) body) (redex t) h (redex-closed t h.0.0)
  redex-closed (loop fs empty body) h = h
  redex-closed (loop fs (binding n t bs) body) h = choose (is_value t) (loop fs (binding n t bs) body) (redex t) h (redex-closed t h.0.0)
  redex-closed (seq none) h = h
  redex-closed (seq (item t none)) h = h
  redex-closed (seq (item t (item u us))) h = choose (is_value t) (seq (item t (item u us))) (redex t) h (redex-closed t h.0)
  redex-closed (frame body) h = choose (is_value body) (frame body) (redex body) h (redex-closed body h)
  redex-closed (turn ns text now) h = choose (is_value now) (turn ns text now) (cond (is_ready_recur now) (turn ns text now) (redex now)) h (choose (is_ready_recur now) (turn ns text now) (redex now) h (redex-closed now h.1))
  redex-closed (apply f ts p) h = redex-items ts (apply f ts p) h h

  redex-items : (ts : Kernels) (here : Kernel) → AreClosed [] ts → IsClosed [] here → IsClosed [] (redex_items ts here)
  redex-items none here h g = g
  redex-items (item t ts) here h g = choose (is_value t) (redex_items ts here) (redex t) (redex-items ts here h.1 g) (redex-closed t h.0)

-- a term that is closed among some names is closed among more
abbrev Within : List ℕ → List ℕ → Type 0
Within ms ns = (m : ℕ) → IsIn m ms → IsIn m ns

within_more : (k : ℕ) (ms ns : List ℕ) → Within ms ns → Within (k ∷ ms) (k ∷ ns)
within_more k ms ns w m (inl e) = inl e
within_more k ms ns w m (inr i) = inr (w m i)

within_behind : (bs : Bindings) (ms ns : List ℕ) → Within ms ns → Within (names_behind bs ms) (names_behind bs ns)
within_behind empty ms ns w = w
within_behind (binding k t bs) ms ns w = within_behind bs (k ∷ ms) (k ∷ ns) (within_more k ms ns w)

within_found : (fs : Founds) (ms ns : List ℕ) → Within ms ns → Within (behind_found fs ms) (behind_found fs ns)
within_found [] ms ns w = w
within_found (f ∷ fs) ms ns w = within_found fs (f.0 ∷ ms) (f.0 ∷ ns) (within_more f.0 ms ns w)

mutual
  pub closed-among : (t : Kernel) (ms ns : List ℕ) → Within ms ns → IsClosed ms t → IsClosed ns t
  closed-among (const v) ms ns w h = tt
  closed-among (var n) ms ns w h = w n h
  closed-among (branch c a b) ms ns w h = (closed-among c ms ns w h.0, closed-among a ms ns w h.1, closed-among b ms ns w h.2)
  closed-among (bind bs body) ms ns w h = (bindings-among bs ms ns w h.0, closed-among body (names_behind bs ms) (names_behind bs ns) (within_behind bs ms ns w) h.1)
  closed-among (loop fs bs body) ms ns w h = (bindings-among bs ms ns w h.0, closed-among body (names_behind bs (behind_found fs ms)) (names_behind bs (behind_found fs ns)) (within_behind bs (behind_found fs ms) (behind_found fs ns) (within_found fs ms ns w)) h.1)
  closed-among (seq ts) ms ns w h = items-among ts ms ns w h
  closed-among (frame body) ms ns w h = h
  closed-among (turn names text now) ms ns w h = h
  closed-among (apply f ts p) ms ns w h = items-among ts ms ns w h

  items-among : (ts : Kernels) (ms ns : List ℕ) → Within ms ns → AreClosed ms ts → AreClosed ns ts
  items-among none ms ns w h = tt
  items-among (item t ts) ms ns w h = (closed-among t ms ns w h.0, items-among ts ms ns w h.1)

  bindings-among : (bs : Bindings) (ms ns : List ℕ) → Within ms ns → AreClosedBindings ms bs → AreClosedBindings ns bs
  bindings-among empty ms ns w h = tt
  bindings-among (binding k t bs) ms ns w h = (closed-among t ms ns w h.0, bindings-among bs (k ∷ ms) (k ∷ ns) (within_more k ms ns w) h.1)

-- with a value for each of its names a term is closed
pub puts-closed : (fs : Founds) (t : Kernel) (ms : List ℕ) → ((m : ℕ) → IsIn m ms → IsIn m (names_found fs)) → IsClosed ms t → IsClosed [] (puts fs t)
puts-closed [] t ms w h = closed-among t ms [] w h
puts-closed (f ∷ fs) t ms w h = puts-closed fs (put f.0 f.1 t) (names_found fs) (λ m i. i) (put-closed f.0 f.1 t ms (names_found fs) w h)

-- the names that have their values are those behind them
found_in : (fs : Founds) (ns : List ℕ) (m : ℕ) → IsIn m (behind_found fs ns) → IsIn m (names_found fs) ⊎ IsIn m ns
found_in [] ns m i = inr i
found_in (f ∷ fs) ns m i = by (found_in fs (f.0 ∷ ns) m i) where
  by : IsIn m (names_found fs) ⊎ IsIn m (f.0 ∷ ns) → IsIn m (names_found (f ∷ fs)) ⊎ IsIn m ns
  by (inl j) = inl (inr j)
  by (inr (inl e)) = inl (inl e)
  by (inr (inr j)) = inr j

found_names : (fs : Founds) (m : ℕ) → IsIn m (behind_found fs []) → IsIn m (names_found fs)
found_names fs m i = by (found_in fs [] m i) where
  by : IsIn m (names_found fs) ⊎ IsIn m [] → IsIn m (names_found fs)
  by (inl j) = j
  by (inr j) = absurd j

behind_found-append : (fs : Founds) (n : ℕ) (v : Tree) (ns : List ℕ) → behind_found (fs ++ (n, v) ∷ []) ns ≡ n ∷ behind_found fs ns
behind_found-append [] n v ns = refl
behind_found-append (f ∷ fs) n v ns = behind_found-append fs n v (f.0 ∷ ns)

behind-put : (n : ℕ) (v : Tree) (bs : Bindings) (ns : List ℕ) → names_behind (put_bindings n v bs) ns ≡ names_behind bs ns
behind-put n v empty ns = refl
behind-put n v (binding k t bs) ns = behind-put n v bs (k ∷ ns)

-- a loop binds its next name, or runs
pub bound-loop : (fs : Founds) (n : ℕ) (t : Kernel) (bs : Bindings) (body : Kernel) → IsClosed [] (loop fs (binding n t bs) body) → IsClosed [] (loop (fs ++ (n, value_of t) ∷ []) (put_bindings n (value_of t) bs) body)
bound-loop fs n t bs body h =
    let v = value_of t in
    let c : Covers n (n ∷ []) [] = λ m i. i in (
      put-bindings n v bs (n ∷ []) [] c h.0.1,
      subst (λ ns. IsClosed ns body) (sym (behind-put n v bs (behind_found (fs ++ (n, v) ∷ []) []) ∙ ap (names_behind bs) (behind_found-append fs n v []))) h.1,
    )

pub bound-turn : (fs : Founds) (body : Kernel) → IsClosed [] (loop fs empty body) → IsClosed [] (turn (names_found fs) body (puts fs body))
bound-turn fs body h = (closed-among body (behind_found fs []) (names_found fs) (found_names fs) h.1, puts-closed fs body (behind_found fs []) (found_names fs) h.1)

pub bound-let : (n : ℕ) (t : Kernel) (bs : Bindings) (body : Kernel) → IsClosed [] (bind (binding n t bs) body) → IsClosed [] (bind (put_bindings n (value_of t) bs) (put n (value_of t) body))
bound-let n t bs body h =
    let c : Covers n (n ∷ []) [] = λ m i. i in
    (put-bindings n (value_of t) bs (n ∷ []) [] c h.0.1, put-closed n (value_of t) body (names_behind bs (n ∷ [])) (names_behind (put_bindings n (value_of t) bs) []) (covers_behind n (value_of t) bs (n ∷ []) [] c) h.1)

-- a text with enough values for its names
names-named : (ns : List ℕ) (vs : List Tree) → length ns ≤ length vs → names_found (named ns vs) ≡ ns
names-named [] vs h = refl
names-named (n ∷ ns) [] h = absurd (omega arith)
names-named (n ∷ ns) (v ∷ vs) h = ap (λ k. n ∷ k) (names-named ns vs (omega (arith, h)))

pub named-closed : (ns : List ℕ) (vs : List Tree) (text : Kernel) → length ns ≤ length vs → IsClosed ns text → IsClosed [] (puts (named ns vs) text)
named-closed ns vs text le h = puts-closed (named ns vs) text ns (λ m i. subst (IsIn m) (sym (names-named ns vs le)) i) h

mutual
  pub replace-closed : (u t : Kernel) → IsClosed [] u → IsClosed [] t → IsClosed [] (replace u t)
  replace-closed u (const v) g h = g
  replace-closed u (var n) g h = g
  replace-closed u (branch c a b) g h = choose (is_value c) u (branch (replace u c) a b) g (replace-closed u c g h.0, h.1, h.2)
  replace-closed u (bind empty body) g h = g
  replace-closed u (bind (binding n t bs) body) g h = choose (not (is_value t)) (bind (binding n (replace u t) bs) body) u ((replace-closed u t g h.0.0, h.0.1), h.1) g
  replace-closed u (loop fs empty body) g h = g
  replace-closed u (loop fs (binding n t bs) body) g h = choose (not (is_value t)) (loop fs (binding n (replace u t) bs) body) u ((replace-closed u t g h.0.0, h.0.1), h.1) g
  replace-closed u (seq none) g h = g
  replace-closed u (seq (item t none)) g h = g
  replace-closed u (seq (item t (item v vs))) g h = choose (is_value t) u (seq (item (replace u t) (item v vs))) g (replace-closed u t g h.0, h.1)
  replace-closed u (frame body) g h = choose (is_value body) u (frame (replace u body)) g (replace-closed u body g h)
  replace-closed u (turn ns text now) g h = choose (is_value now) u (cond (is_ready_recur now) u (turn ns text (replace u now))) g (choose (is_ready_recur now) u (turn ns text (replace u now)) g (h.0, replace-closed u now g h.1))
  replace-closed u (apply f ts p) g h = choose (all_values ts) u (apply f (replace_items u ts) p) g (replace-items u ts g h)

  replace-items : (u : Kernel) (ts : Kernels) → IsClosed [] u → AreClosed [] ts → AreClosed [] (replace_items u ts)
  replace-items u none g h = tt
  replace-items u (item t ts) g h = choose-items (is_value t) (item t (replace_items u ts)) (item (replace u t) ts) (h.0, replace-items u ts g h.1) (replace-closed u t g h.0, h.1)
