-- Mults keep to their rule.
use Rattle.std.proofs.Common.{◌≡◌, inl, inr, ℕ, zero, suc, ◌+◌, List, [], ◌∷◌, ◌++◌, length, slice_get, refl, sym, ap, ◌∙◌, subst, arith, Bool, true, false, cond, Option, Some, None, append_assoc, append-nil}
use Rattle.std.specs.Prelude.{unwrap_or}
use Rattle.ca_value.specs.Tree.{Tree, port, item}
use Rattle.ca_term.specs.declared.place.Place.{Place}
use Rattle.ca_term.specs.declared.fault.Fault.{Fault}
use Rattle.ca_term.specs.declared.head.RegisterName.TheVariants.{Taps}
use Rattle.ca_term.specs.declared.head.SystemTask.{SystemTask}
use Rattle.ca_term.specs.Operation.{OpView, taking, spawning, closing, registering, system}
use Rattle.ca_term.specs.Program.{ProgramView}
use Rattle.ca_term.specs.Event.{EventView}
use Rattle.ca_meaning.specs.Body.{asking}
use Rattle.ca_meaning.specs.Operands.{is_nil}
use Rattle.ca_meaning.specs.Registry.{TapView}
use Rattle.ca_meaning.specs.Choice.{branches_of}
use Rattle.ca_meaning.specs.State.{State}
use Rattle.ca_meaning.specs.Legal.{Reaches}
use Rattle.ca_meaning.specs.Asks.{Next, to, stop, fail, needing, closes_due, taps_in, one_of, two_of}
use Rattle.ca_meaning.specs.MultTable.{MultPorts, MultState, mult_takes, mult_reads, mult_spawns, mult_waits, mult_reads_last, mult_closes, acks_due, spawns_due, closing_of, mult_asks, mult_next}
use Rattle.ca_meaning.specs.System.{SystemBody, a_mult}
use Rattle.ca_laws.specs.Deeds.{Deed, did_take, did_wait, did_end}
use Rattle.ca_laws.specs.Taken.{answer_after, last_answer, since_after, is_take, is_spawn_deed, is_close, takes_since, starts_since, closes_since}
use Rattle.ca_laws.specs.MultRules.{taps_after, taps_from, taps_read, MultRule, mult_ports, MultsKeepTo}
use Rattle.ca_laws.proofs.Acts.{Replies, got, starts, shuts, enrols}
use Rattle.ca_laws.proofs.More.{next_item, one_longer, answer_more, since_more}
use Rattle.ca_laws.proofs.Tables.{stands_only, Keeps, all_keep_to}

taps_more : (ts : List TapView) (ds : List Deed) (d : Deed) → taps_from ts (ds ++ d ∷ []) ≡ taps_after d (taps_from ts ds)
taps_more ts [] d = refl
taps_more ts (c ∷ ds) d = taps_more (taps_after c ts) ds d

module _ (x : MultPorts) where
  abbrev Ends : Option (ℕ × Tree) → Type 0
  Ends o = (a : Tree) × (o ≡ Some (x.source, a)) × (is_nil a ≡ true)

  -- by the taps that it read last, the takes, the starts and the closes since, and its last answer
  abbrev MultsAt : Next MultState → List TapView → ℕ → ℕ → ℕ → Option (ℕ × Tree) → Type 0
  MultsAt (to mult_takes) ts k m z o = (m ≡ length ts) × (k ≡ length ts)
  MultsAt (to (mult_reads v)) ts k m z o = (o ≡ Some (x.source, v)) × (m ≡ length ts) × (k ≡ suc (length ts))
  MultsAt (to (mult_spawns v tap taps n)) ts k m z o = (begun : List TapView) × (ts ≡ begun ++ tap ∷ taps) × (length begun ≡ n) × (m ≡ n) × (k ≡ 0) × (o ≡ Some (x.source, v))
  MultsAt (to (mult_waits n)) ts k m z o = (m ≡ length ts) × (k + suc n ≡ length ts)
  MultsAt (to mult_reads_last) ts k m z o = Ends o × (m ≡ length ts) × (k ≡ suc (length ts))
  MultsAt (to (mult_closes c cs)) ts k m z o = (begun : List ℕ) × (closing_of ts ≡ begun ++ c ∷ cs) × (length begun ≡ z) × Ends o
  MultsAt stop ts k m z o = Unit {0}
  MultsAt (fail g) ts k m z o = Unit {0}

  abbrev MultAt : Next MultState → List Deed → Type 0
  MultAt n ds = MultsAt n (taps_read ds) (takes_since ds) (starts_since ds) (closes_since ds) (last_answer ds)

  after : (n : Next MultState) (ds : List Deed) (d : Deed) → MultsAt n (taps_after d (taps_read ds)) (since_after is_take d (takes_since ds)) (since_after is_spawn_deed d (starts_since ds)) (since_after is_close d (closes_since ds)) (answer_after d (last_answer ds)) → MultAt n (ds ++ d ∷ [])
  after n ds d k =
      subst (λ z. MultsAt n z (takes_since (ds ++ d ∷ [])) (starts_since (ds ++ d ∷ [])) (closes_since (ds ++ d ∷ [])) (last_answer (ds ++ d ∷ []))) (sym (taps_more [] ds d))
      (subst (λ z. MultsAt n (taps_after d (taps_read ds)) z (starts_since (ds ++ d ∷ [])) (closes_since (ds ++ d ∷ [])) (last_answer (ds ++ d ∷ []))) (sym (since_more is_take 0 ds d))
      (subst (λ z. MultsAt n (taps_after d (taps_read ds)) (since_after is_take d (takes_since ds)) z (closes_since (ds ++ d ∷ [])) (last_answer (ds ++ d ∷ []))) (sym (since_more is_spawn_deed 0 ds d))
      (subst (λ z. MultsAt n (taps_after d (taps_read ds)) (since_after is_take d (takes_since ds)) (since_after is_spawn_deed d (starts_since ds)) z (last_answer (ds ++ d ∷ []))) (sym (since_more is_close 0 ds d))
      (subst (λ z. MultsAt n (taps_after d (taps_read ds)) (since_after is_take d (takes_since ds)) (since_after is_spawn_deed d (starts_since ds)) (since_after is_close d (closes_since ds)) z) (sym (answer_more None ds d)) k))))

  -- the answers that are due, where so many were taken
  answers : (n : ℕ) (ts : List TapView) (k m z : ℕ) (o : Option (ℕ × Tree)) → m ≡ length ts → k + n ≡ length ts → MultsAt (acks_due n) ts k m z o
  answers zero ts k m z o e f = (e, (let g : k ≡ k + 0 = omega arith in g) ∙ f)
  answers (suc n) ts k m z o e f = (e, f)

  -- the deliveries that are due, where these were started
  deliveries : (v : Tree) (taps begun : List TapView) (n z : ℕ) (o : Option (ℕ × Tree)) → length begun ≡ n → o ≡ Some (x.source, v) → (ts : List TapView) → ts ≡ begun ++ taps → MultsAt (spawns_due v taps n) ts 0 n z o
  deliveries v [] begun n z o e f ts g = let all : n ≡ length ts = sym e ∙ ap length (sym (g ∙ append-nil begun)) in answers n ts 0 n z o all ((let h : 0 + n ≡ n = omega arith in h) ∙ all)
  deliveries v (tap ∷ taps) begun n z o e f ts g = (begun, g, e, refl, refl, f)

  -- the taps that are still to be closed
  closings : (cs begun : List ℕ) (ts : List TapView) (k m z : ℕ) (o : Option (ℕ × Tree)) → closing_of ts ≡ begun ++ cs → length begun ≡ z → Ends o → MultsAt (closes_due mult_closes cs) ts k m z o
  closings [] begun ts k m z o e f g = tt
  closings (c ∷ cs) begun ts k m z o e f g = (begun, e, f, g)

module _ (program : ProgramView) (x : MultPorts) (place : Place) where
  abbrev mult_body : Next MultState → SystemBody
  mult_body n = a_mult x place n

  abbrev mult_op : MultState → OpView
  mult_op mult_takes = taking (port x.source)
  mult_op (mult_reads v) = registering Taps (one_of (port x.mult))
  mult_op (mult_spawns v tap taps n) = spawning (system SystemTask.Deliver (item (port x.mult) (item (port tap.channel) (two_of v (port x.acks)))) place)
  mult_op (mult_waits n) = taking (port x.acks)
  mult_op mult_reads_last = registering Taps (one_of (port x.mult))
  mult_op (mult_closes c cs) = closing (port c)

  abbrev mult_fault : MultState → Option Fault
  mult_fault s = None

  rows : (s : MultState) → mult_asks x s place ≡ asking place (mult_fault s) (mult_op s)
  rows mult_takes = refl
  rows (mult_reads v) = refl
  rows (mult_spawns v tap taps n) = refl
  rows (mult_waits n) = refl
  rows mult_reads_last = refl
  rows (mult_closes c cs) = refl

  allowed : (s : MultState) (ds : List Deed) → MultAt x (to s) ds → MultRule x place ds (mult_op s)
  allowed mult_takes ds k = (k.0, inl (refl, k.1))
  allowed (mult_reads v) ds k = (refl, refl, v, k.0, k.1, k.2)
  allowed (mult_spawns v tap taps n) ds k = (v, tap, k.5, k.4, ap (slice_get (taps_read ds)) (k.3 ∙ sym k.2) ∙ ap (λ z. slice_get z (length k.0)) k.1 ∙ next_item k.0 tap taps, refl)
  allowed (mult_waits n) ds k = (k.0, inr (refl, (let e : takes_since ds + suc n ≡ length (taps_read ds) = k.1 in omega (arith, e))))
  allowed mult_reads_last ds k = (refl, refl, k.0.0, k.0.1, k.1, k.2)
  allowed (mult_closes c cs) ds k = (c, refl, k.3, ap (slice_get (closing_of (taps_read ds))) (sym k.2) ∙ ap (λ z. slice_get z (length k.0)) k.1 ∙ next_item k.0 c cs)

  by_deed : (n : Next MultState) (ds : List Deed) (d c : Deed) → d ≡ c → MultsAt x n (taps_after c (taps_read ds)) (since_after is_take c (takes_since ds)) (since_after is_spawn_deed c (starts_since ds)) (since_after is_close c (closes_since ds)) (answer_after c (last_answer ds)) → MultAt x n (ds ++ d ∷ [])
  by_deed n ds d c is k = subst (λ z. MultAt x n (ds ++ z ∷ [])) (sym is) (after x n ds c k)

  took : (ds : List Deed) (a : Tree) → MultAt x (to mult_takes) ds → (b : Bool) → is_nil a ≡ b → MultsAt x (cond b (to mult_reads_last) (to (mult_reads a))) (taps_read ds) (suc (takes_since ds)) (starts_since ds) (closes_since ds) (Some (x.source, a))
  took ds a k true e = ((a, refl, e), k.0, ap (λ n. suc n) k.1)
  took ds a k false e = (refl, k.0, ap (λ n. suc n) k.1)

  answered : (s : MultState) (ds : List Deed) (d : Deed) (a : Tree) → MultAt x (to s) ds → Replies (mult_op s) d a → MultAt x (mult_next a s) (ds ++ d ∷ [])
  answered mult_takes ds d a k (got is) = by_deed (mult_next a mult_takes) ds d (did_take 0 x.source a) is (took ds a k (is_nil a) refl)
  answered (mult_reads v) ds d a k (enrols is) = by (taps_in a) refl where
    by : (o : Option (List TapView)) → taps_in a ≡ o → MultAt x (needing o (λ ts. spawns_due v ts 0)) (ds ++ d ∷ [])
    by None e = tt
    by (Some ts) e = by_deed (spawns_due v ts 0) ds d _ is (deliveries x v ts [] 0 0 (last_answer ds) refl k.0 (unwrap_or (taps_in a) []) (ap (λ z. unwrap_or z []) e))
  answered (mult_spawns v tap taps n) ds d a k (starts u is an) = by_deed (spawns_due v taps (suc n)) ds d _ is
      (subst (λ m. MultsAt x (spawns_due v taps (suc n)) (taps_read ds) (takes_since ds) (suc m) (closes_since ds) (last_answer ds)) (sym k.3)
      (subst (λ m. MultsAt x (spawns_due v taps (suc n)) (taps_read ds) m (suc n) (closes_since ds) (last_answer ds)) (sym k.4)
      (deliveries x v taps (k.0 ++ tap ∷ []) (suc n) (closes_since ds) (last_answer ds) (one_longer k.0 tap ∙ ap (λ m. suc m) k.2) k.5 (taps_read ds) (k.1 ∙ sym (append_assoc k.0 (tap ∷ []) taps)))))
  answered (mult_waits n) ds d a k (got is) = by_deed (acks_due n) ds d (did_take 0 x.acks a) is
      (answers x n (taps_read ds) (suc (takes_since ds)) (starts_since ds) (closes_since ds) (Some (x.acks, a)) k.0 ((let e : suc (takes_since ds) + n ≡ takes_since ds + suc n = omega arith in e) ∙ k.1))
  answered mult_reads_last ds d a k (enrols is) = by (taps_in a) refl where
    by : (o : Option (List TapView)) → taps_in a ≡ o → MultAt x (needing o (λ ts. closes_due mult_closes (closing_of ts))) (ds ++ d ∷ [])
    by None e = tt
    by (Some ts) e = by_deed (closes_due mult_closes (closing_of ts)) ds d _ is (closings x (closing_of ts) [] (unwrap_or (taps_in a) []) 0 0 0 (last_answer ds) (ap (λ z. closing_of (unwrap_or z [])) e) refl k.0)
  answered (mult_closes c cs) ds d a k (shuts is an) = by_deed (closes_due mult_closes cs) ds d _ is
      (closings x cs (k.0 ++ c ∷ []) (taps_read ds) (takes_since ds) (starts_since ds) (suc (closes_since ds)) (last_answer ds) (k.1 ∙ sym (append_assoc k.0 (c ∷ []) cs)) (one_longer k.0 c ∙ ap (λ m. suc m) k.2) k.3)

  mult_keeps : Keeps program mult_body mult_op (MultAt x) (MultRule x place)
  mult_keeps = record {
    only = λ n op at. stands_only place (mult_asks x) mult_op mult_fault rows n op at.0 at.1;
    allowed = allowed;
    waits = λ s ds w k may. after x (to s) ds (did_wait w (branches_of (mult_op s))) k;
    ends = λ n ds how k. after x n ds (did_end how) k;
    answered = λ s ds d a c k ans r. (mult_next a s, r, answered s ds d a k ans);
  }

pub mults_keep_to : (program : ProgramView) (journal : List EventView) (s : State) → Reaches program journal s → MultsKeepTo program journal s
mults_keep_to program = all_keep_to program SystemTask.Mult refl (λ values place. MultRule (mult_ports values) place)
    (λ values place. mult_body program (mult_ports values) place) (λ values place. mult_op program (mult_ports values) place) (λ values place. MultAt (mult_ports values))
    (λ values place. mult_keeps program (mult_ports values) place) (λ values place c r. (to mult_takes, r, (refl, refl)))
