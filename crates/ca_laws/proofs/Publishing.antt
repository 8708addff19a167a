-- Publications keep to their rule.
use Rattle.std.proofs.Common.{◌≡◌, ◌⊎◌, inl, inr, ℕ, suc, List, [], ◌∷◌, ◌++◌, length, slice_get, refl, sym, ap, ◌∙◌, subst, Bool, true, false, cond, Option, Some, None, Ok, Err, append_assoc}
use Rattle.std.specs.Prelude.{unwrap_or}
use Rattle.ca_value.specs.Tree.{Tree, nil, port}
use Rattle.ca_term.specs.declared.place.Place.{Place}
use Rattle.ca_term.specs.declared.fault.Fault.TheVariants.{WrongKind}
use Rattle.ca_term.specs.declared.head.RegisterName.TheVariants.{Find, Topics}
use Rattle.ca_term.specs.declared.head.SystemTask.{SystemTask}
use Rattle.ca_term.specs.Operation.{OpView, taking, putting, closing, registering}
use Rattle.ca_term.specs.Program.{ProgramView}
use Rattle.ca_term.specs.Event.{EventView}
use Rattle.ca_meaning.specs.Body.{ended, faulted, at_op}
use Rattle.ca_meaning.specs.Operands.{is_nil}
use Rattle.ca_meaning.specs.Choice.{branches_of}
use Rattle.ca_meaning.specs.State.{State}
use Rattle.ca_meaning.specs.Legal.{Reaches}
use Rattle.ca_meaning.specs.Task.{system_task}
use Rattle.ca_meaning.specs.Going.{IsAtOp}
use Rattle.ca_meaning.specs.Asks.{Next, to, stop, fail, needing, closes_due, ports_in, one_of, two_of, too_large_here}
use Rattle.ca_meaning.specs.Applied.{Returned, Applied}
use Rattle.ca_meaning.specs.PubTable.{PubPorts, PubState, pub_takes, pub_sorts, pub_finds, pub_puts, pub_reads_last, pub_closes, channel_of_pair, sorted_by}
use Rattle.ca_meaning.specs.System.{SystemBody, a_pub, system_fill, SystemRest}
use Rattle.ca_laws.specs.Deeds.{Deed, did_wait, did_end}
use Rattle.ca_laws.specs.Taken.{answer_after, last_answer, since_after, is_close, closes_since}
use Rattle.ca_laws.specs.PubRules.{found_after, found_from, last_found, PubRule, pub_ports, PubsKeepTo}
use Rattle.ca_laws.proofs.Acts.{Replies, got, gave, shuts, enrols}
use Rattle.ca_laws.proofs.More.{next_item, one_longer, answer_more, since_more}
use Rattle.ca_laws.proofs.Tables.{asked, Keeps, keeps_from, spawned_at, pub_seed}
use Rattle.ca_term.specs.declared.event.TaskKind.{TaskKind}

found_more : (o : Option Tree) (ds : List Deed) (d : Deed) → found_from o (ds ++ d ∷ []) ≡ found_after d (found_from o ds)
found_more o [] d = refl
found_more o (c ∷ ds) d = found_more (found_after c o) ds d

-- a publication at rest
data Rests : Type 0 where
  takes : Rests
  finds : Tree → Tree → Rests
  puts : ℕ → Tree → Rests
  reads_last : Rests
  closes : ℕ → List ℕ → Rests

module _ (program : ProgramView) (x : PubPorts) (place : Place) where
  abbrev state_of : Rests → PubState
  state_of takes = pub_takes
  state_of (finds topic v) = pub_finds topic v
  state_of (puts p v) = pub_puts p v
  state_of reads_last = pub_reads_last
  state_of (closes c cs) = pub_closes c cs

  abbrev pub_body : Next Rests → SystemBody
  pub_body (to takes) = a_pub x place (to pub_takes)
  pub_body (to (finds topic v)) = a_pub x place (to (pub_finds topic v))
  pub_body (to (puts p v)) = a_pub x place (to (pub_puts p v))
  pub_body (to reads_last) = a_pub x place (to pub_reads_last)
  pub_body (to (closes c cs)) = a_pub x place (to (pub_closes c cs))
  pub_body stop = a_pub x place stop
  pub_body (fail g) = a_pub x place (fail g)

  abbrev pub_op : Rests → OpView
  pub_op takes = taking (port x.source)
  pub_op (finds topic v) = registering Find (two_of (port x.publication) topic)
  pub_op (puts p v) = putting (port p) v
  pub_op reads_last = registering Topics (one_of (port x.publication))
  pub_op (closes c cs) = closing (port c)

  only : (n : Next Rests) (op : OpView) → IsAtOp (system_task (pub_body n)) op → (s : Rests) × (n ≡ to s) × (op ≡ pub_op s)
  only (to takes) op at = (takes, refl, asked place None (pub_op takes) (record { op = op; place = at.0 }) at.1)
  only (to (finds topic v)) op at = (finds topic v, refl, asked place None (pub_op (finds topic v)) (record { op = op; place = at.0 }) at.1)
  only (to (puts p v)) op at = (puts p v, refl, asked place (too_large_here v) (pub_op (puts p v)) (record { op = op; place = at.0 }) at.1)
  only (to reads_last) op at = (reads_last, refl, asked place None (pub_op reads_last) (record { op = op; place = at.0 }) at.1)
  only (to (closes c cs)) op at = (closes c cs, refl, asked place None (pub_op (closes c cs)) (record { op = op; place = at.0 }) at.1)
  only stop op at = absurd (let e : ended nil ≡ at_op (record { op = op; place = at.0 }) = at.1 in cc)
  only (fail g) op at = absurd (let e : faulted g place ≡ at_op (record { op = op; place = at.0 }) = at.1 in cc)

  abbrev Ends : Option (ℕ × Tree) → Type 0
  Ends o = (a : Tree) × (o ≡ Some (x.source, a)) × (is_nil a ≡ true)

  -- by its last answer, what was found since, and the closes since
  abbrev PubsAt : Next Rests → Option (ℕ × Tree) → Option Tree → ℕ → Type 0
  PubsAt (to takes) o f z = (o ≡ None) ⊎ ((a : Tree) × (f ≡ Some a) × (is_nil a ≡ true))
  PubsAt (to (finds topic v)) o f z = (o ≡ Some (x.source, v)) × (f ≡ None) × Applied program x.topic x.keyword place v (Ok topic)
  PubsAt (to (puts p v)) o f z = (o ≡ Some (x.source, v)) × ((a : Tree) × (f ≡ Some a) × (channel_of_pair a ≡ Some p))
  PubsAt (to reads_last) o f z = Ends o
  PubsAt (to (closes c cs)) o f z = Ends o × ((a : Tree) × (f ≡ Some a) × (begun : List ℕ) × (unwrap_or (ports_in a) [] ≡ begun ++ c ∷ cs) × (length begun ≡ z))
  PubsAt stop o f z = Unit {0}
  PubsAt (fail g) o f z = Unit {0}

  abbrev PubAt : Next Rests → List Deed → Type 0
  PubAt n ds = PubsAt n (last_answer ds) (last_found ds) (closes_since ds)

  by_deed : (n : Next Rests) (ds : List Deed) (d c : Deed) → d ≡ c → PubsAt n (answer_after c (last_answer ds)) (found_after c (last_found ds)) (since_after is_close c (closes_since ds)) → PubAt n (ds ++ d ∷ [])
  by_deed n ds d c is k = subst (λ z. PubAt n (ds ++ z ∷ [])) (sym is)
      (subst (λ z. PubsAt n z (last_found (ds ++ c ∷ [])) (closes_since (ds ++ c ∷ []))) (sym (answer_more None ds c))
      (subst (λ z. PubsAt n (answer_after c (last_answer ds)) z (closes_since (ds ++ c ∷ []))) (sym (found_more None ds c))
      (subst (λ z. PubsAt n (answer_after c (last_answer ds)) (found_after c (last_found ds)) z) (sym (since_more is_close 0 ds c)) k)))

  allowed : (s : Rests) (ds : List Deed) → PubAt (to s) ds → PubRule program x place ds (pub_op s)
  allowed takes ds k = (refl, k)
  allowed (finds topic v) ds k = inl (v, topic, refl, refl, k.0, k.1, k.2)
  allowed (puts p v) ds k = (k.1.0, p, refl, k.0, k.1.1, k.1.2)
  allowed reads_last ds k = inr (refl, refl, k)
  allowed (closes c cs) ds k = (k.1.0, c, refl, k.1.1, ap (slice_get (unwrap_or (ports_in k.1.0) [])) (sym k.1.4) ∙ ap (λ z. slice_get z (length k.1.2)) k.1.3 ∙ next_item k.1.2 c cs, k.0)

  -- what is after an answer
  abbrev Goes : List Deed → SystemBody → Type 0
  Goes ds c = (n : Next Rests) × (c ≡ pub_body n) × PubAt n ds

  -- the channels that are still to be closed
  closings : (a : Tree) (cs begun : List ℕ) (z : ℕ) (o : Option (ℕ × Tree)) → unwrap_or (ports_in a) [] ≡ begun ++ cs → length begun ≡ z → Ends o → (c : SystemBody) → c ≡ a_pub x place (closes_due pub_closes cs) → (n : Next Rests) × (c ≡ pub_body n) × PubsAt n o (Some a) z
  closings a [] begun z o e f g c r = (stop, r, tt)
  closings a (p ∷ ps) begun z o e f g c r = (to (closes p ps), r, (g, (a, refl, begun, e, f)))

  answered : (s : Rests) (ds : List Deed) (d : Deed) (a : Tree) (c : SystemBody) → PubAt (to s) ds → Replies (pub_op s) d a → SystemRest program (system_fill a (pub_body (to s))) c → Goes (ds ++ d ∷ []) c
  answered takes ds d a c k (got is) r = by (is_nil a) refl r where
    sorts : (t : Returned) → Applied program x.topic x.keyword place a t → c ≡ a_pub x place (sorted_by a t) → Goes (ds ++ d ∷ []) c
    sorts (Ok topic) f e = (to (finds topic a), e, by_deed (to (finds topic a)) ds d _ is (refl, refl, f))
    sorts (Err g) f e = (fail g, e, tt)

    by : (b : Bool) → is_nil a ≡ b → SystemRest program (a_pub x place (cond b (to pub_reads_last) (to (pub_sorts a)))) c → Goes (ds ++ d ∷ []) c
    by true e r = (to reads_last, r, by_deed (to reads_last) ds d _ is (a, refl, e))
    by false e r = sorts r.0 r.1 r.2
  answered (finds topic v) ds d a c k (enrols is) r = by (is_nil a) (channel_of_pair a) refl refl r where
    by : (b : Bool) (o : Option ℕ) → is_nil a ≡ b → channel_of_pair a ≡ o → SystemRest program (a_pub x place (cond b (to pub_takes) (needing o (λ c. to (pub_puts c v))))) c → Goes (ds ++ d ∷ []) c
    by true o e f r = (to takes, r, by_deed (to takes) ds d _ is (inr (a, refl, e)))
    by false None e f r = (fail WrongKind, r, tt)
    by false (Some p) e f r = (to (puts p v), r, by_deed (to (puts p v)) ds d _ is (k.0, (a, refl, f)))
  answered (puts p v) ds d a c k (gave is pa) r = (to takes, r, by_deed (to takes) ds d _ is (inl refl))
  answered reads_last ds d a c k (enrols is) r = by (ports_in a) refl r where
    by : (o : Option (List ℕ)) → ports_in a ≡ o → SystemRest program (a_pub x place (needing o (closes_due pub_closes))) c → Goes (ds ++ d ∷ []) c
    by None e r = (fail WrongKind, r, tt)
    by (Some ps) e r = let n = closings a ps [] 0 (last_answer ds) (ap (λ z. unwrap_or z []) e) refl k c (due ps r) in (n.0, n.1, by_deed n.0 ds d _ is n.2) where
      due : (ps : List ℕ) → SystemRest program (a_pub x place (closes_due pub_closes ps)) c → c ≡ a_pub x place (closes_due pub_closes ps)
      due [] r = r
      due (p ∷ ps) r = r
  answered (closes q qs) ds d a c k (shuts is an) r =
      let f = k.1 in
      let n = closings f.0 qs (f.2 ++ q ∷ []) (suc (closes_since ds)) (last_answer ds) (f.3 ∙ sym (append_assoc f.2 (q ∷ []) qs)) (one_longer f.2 q ∙ ap (λ z. suc z) f.4) k.0 c (due qs r) in
      (n.0, n.1, by_deed n.0 ds d _ is (subst (λ z. PubsAt n.0 (last_answer ds) z (suc (closes_since ds))) (sym f.1) n.2)) where
        due : (ps : List ℕ) → SystemRest program (a_pub x place (closes_due pub_closes ps)) c → c ≡ a_pub x place (closes_due pub_closes ps)
        due [] r = r
        due (p ∷ ps) r = r

  pub_keeps : Keeps program pub_body pub_op PubAt (PubRule program x place)
  pub_keeps = record {
    only = only;
    allowed = allowed;
    waits = λ s ds w k may. by_deed (to s) ds (did_wait w (branches_of (pub_op s))) (did_wait w (branches_of (pub_op s))) refl k;
    ends = λ n ds how k. by_deed n ds (did_end how) (did_end how) refl k;
    answered = answered;
  }

pub pubs_keep_to : (program : ProgramView) (journal : List EventView) (s : State) → Reaches program journal s → PubsKeepTo program journal s
pubs_keep_to program journal s r early late u t result is =
    let m = spawned_at program journal s r early late u t TaskKind.Pub result is in
    let w = pub_seed m.2.1.1 m.2.1.6 in
    let f = w.0 in
    let k = keeps_from program (SystemTask.Pub f) (λ values place. PubRule program (pub_ports f values) place)
    (λ values place. pub_body program (pub_ports f values) place) (λ values place. pub_op program (pub_ports f values) place) (λ values place. PubAt program (pub_ports f values) place)
    (λ values place. pub_keeps program (pub_ports f values) place) (λ values place c e. (to takes, e, inl refl)) journal s r early late u t result is m w.1 w.2 w.3 in
    (w.0, w.1, w.2, k.0, k.1)
