-- Collects keep to their rule.
use Rattle.std.proofs.Common.{◌≡◌, inl, inr, ℕ, List, [], ◌∷◌, ◌++◌, refl, sym, ap, ◌∙◌, subst, Bool, true, false, cond, Option, Some, None, append_assoc, append-nil}
use Rattle.ca_value.specs.Tree.{Tree, Trees, nil, bool, int, text, key, map, vector, port, none, item, items_of}
use Rattle.ca_term.specs.declared.place.Place.{Place}
use Rattle.ca_term.specs.declared.fault.Fault.{Fault}
use Rattle.ca_term.specs.declared.head.SystemTask.{SystemTask}
use Rattle.ca_term.specs.Operation.{OpView, taking, putting, closing}
use Rattle.ca_term.specs.Program.{ProgramView}
use Rattle.ca_term.specs.Event.{EventView}
use Rattle.ca_meaning.specs.Body.{asking}
use Rattle.ca_meaning.specs.Operands.{is_nil, truth}
use Rattle.ca_meaning.specs.Choice.{branches_of}
use Rattle.ca_meaning.specs.State.{State}
use Rattle.ca_meaning.specs.Legal.{Reaches}
use Rattle.ca_meaning.specs.Asks.{Next, to, stop, fail, needing, port_in, items_in, trees_in, too_large_here}
use Rattle.ca_meaning.specs.PipelineTable.{CollectPorts, CollectState, collect_takes, collect_opens, collect_puts, collect_closes, collect_ends, outputs_left, collect_asks, collect_next}
use Rattle.ca_meaning.specs.System.{SystemBody, a_collect}
use Rattle.ca_laws.specs.Deeds.{Deed, did_take, did_wait, did_end}
use Rattle.ca_laws.specs.Taken.{sent_by, sent, answer_after, last_answer}
use Rattle.ca_laws.specs.PipelineRules.{awaited_after, awaited_from, awaited, collected_by, collected_from, collected, CollectRule, collect_ports, CollectsKeepTo}
use Rattle.ca_laws.proofs.Acts.{Replies, got, gave, shuts}
use Rattle.ca_laws.proofs.More.{each_more, answer_more}
use Rattle.ca_laws.proofs.Tables.{stands_only, Keeps, all_keep_to}

awaited_more : (o : Option ℕ) (ds : List Deed) (d : Deed) → awaited_from o (ds ++ d ∷ []) ≡ awaited_after d (awaited_from o ds)
awaited_more o [] d = refl
awaited_more o (c ∷ ds) d = awaited_more (awaited_after c o) ds d

pub collected_more : (o : Option ℕ) (ds : List Deed) (d : Deed) → collected_from o (ds ++ d ∷ []) ≡ collected_from o ds ++ collected_by d (awaited_from o ds)
collected_more o [] d = append-nil (collected_by d o)
collected_more o (c ∷ ds) d = ap (λ z. collected_by c o ++ z) (collected_more (awaited_after c o) ds d) ∙ sym (append_assoc (collected_by c o) (collected_from (awaited_after c o) ds) (collected_by d (awaited_from (awaited_after c o) ds)))

-- the items of a vector
items_there : (a : Tree) (ys : Trees) → items_in a ≡ Some ys → trees_in a ≡ ys
items_there (vector vs) ys e = let k : vs ≡ ys = cc in k
items_there nil ys e = absurd (let k : None ≡ Some ys = e in cc)
items_there (bool b) ys e = absurd (let k : None ≡ Some ys = e in cc)
items_there (int i) ys e = absurd (let k : None ≡ Some ys = e in cc)
items_there (text t) ys e = absurd (let k : None ≡ Some ys = e in cc)
items_there (key k) ys e = absurd (let j : None ≡ Some ys = e in cc)
items_there (map ps) ys e = absurd (let k : None ≡ Some ys = e in cc)
items_there (port n) ys e = absurd (let k : None ≡ Some ys = e in cc)

module _ (c : CollectPorts) where
  abbrev Ends : Option (ℕ × Tree) → Type 0
  Ends o = (a : Tree) × (o ≡ Some (c.replies, a)) × (is_nil a ≡ true)

  -- by what it put, what it took from reply ports, the port that it awaits, and its last answer
  abbrev CollectsAt : Next CollectState → List Tree → List Tree → Option ℕ → Option (ℕ × Tree) → Type 0
  CollectsAt (to collect_takes) us vs q o = (us ≡ vs) × (q ≡ None)
  CollectsAt (to (collect_opens p)) us vs q o = (us ≡ vs) × (q ≡ Some p)
  CollectsAt (to (collect_puts y ys)) us vs q o = (vs ≡ us ++ y ∷ items_of ys) × (q ≡ None)
  CollectsAt (to collect_closes) us vs q o = (c.closes ≡ true) × (us ≡ vs) × Ends o
  CollectsAt (to collect_ends) us vs q o = Unit {0}
  CollectsAt stop us vs q o = Unit {0}
  CollectsAt (fail g) us vs q o = Unit {0}

  abbrev CollectAt : Next CollectState → List Deed → Type 0
  CollectAt n ds = CollectsAt n (sent ds) (collected ds) (awaited ds) (last_answer ds)

  after : (n : Next CollectState) (ds : List Deed) (d : Deed) → CollectsAt n (sent ds ++ sent_by d) (collected ds ++ collected_by d (awaited ds)) (awaited_after d (awaited ds)) (answer_after d (last_answer ds)) → CollectAt n (ds ++ d ∷ [])
  after n ds d k =
      subst (λ z. CollectsAt n z (collected (ds ++ d ∷ [])) (awaited (ds ++ d ∷ [])) (last_answer (ds ++ d ∷ []))) (sym (each_more sent_by ds d))
      (subst (λ z. CollectsAt n (sent ds ++ sent_by d) z (awaited (ds ++ d ∷ [])) (last_answer (ds ++ d ∷ []))) (sym (collected_more None ds d))
      (subst (λ z. CollectsAt n (sent ds ++ sent_by d) (collected ds ++ collected_by d (awaited ds)) z (last_answer (ds ++ d ∷ []))) (sym (awaited_more None ds d))
      (subst (λ z. CollectsAt n (sent ds ++ sent_by d) (collected ds ++ collected_by d (awaited ds)) (awaited_after d (awaited ds)) z) (sym (answer_more None ds d)) k)))

  -- where nothing is taken or put
  same : (n : Next CollectState) (us vs : List Tree) (q : Option ℕ) (o : Option (ℕ × Tree)) → CollectsAt n us vs q o → CollectsAt n (us ++ []) (vs ++ []) q o
  same n us vs q o k = subst (λ z. CollectsAt n z (vs ++ []) q o) (sym (append-nil us)) (subst (λ z. CollectsAt n us z q o) (sym (append-nil vs)) k)

  -- the outputs that are left, where these were put and these taken
  left : (ys : Trees) (us vs : List Tree) (o : Option (ℕ × Tree)) → vs ≡ us ++ items_of ys → CollectsAt (outputs_left ys) us vs None o
  left none us vs o e = (sym (e ∙ append-nil us), refl)
  left (item y ys) us vs o e = (e, refl)

module _ (program : ProgramView) (c : CollectPorts) (place : Place) where
  abbrev collect_body : Next CollectState → SystemBody
  collect_body n = a_collect c place n

  abbrev collect_op : CollectState → OpView
  collect_op collect_takes = taking (port c.replies)
  collect_op (collect_opens p) = taking (port p)
  collect_op (collect_puts y ys) = putting (port c.target) y
  collect_op collect_closes = closing (port c.target)
  collect_op collect_ends = closing (port c.result)

  abbrev collect_fault : CollectState → Option Fault
  collect_fault collect_takes = None
  collect_fault (collect_opens p) = None
  collect_fault (collect_puts y ys) = too_large_here y
  collect_fault collect_closes = None
  collect_fault collect_ends = None

  rows : (s : CollectState) → collect_asks c s place ≡ asking place (collect_fault s) (collect_op s)
  rows collect_takes = refl
  rows (collect_opens p) = refl
  rows (collect_puts y ys) = refl
  rows collect_closes = refl
  rows collect_ends = refl

  allowed : (s : CollectState) (ds : List Deed) → CollectAt c (to s) ds → CollectRule c ds (collect_op s)
  allowed collect_takes ds k = (k.0, inl (refl, k.1))
  allowed (collect_opens p) ds k = (k.0, inr (p, refl, k.1))
  allowed (collect_puts y ys) ds k = (refl, (items_of ys, k.0 ∙ sym (append_assoc (sent ds) (y ∷ []) (items_of ys))))
  allowed collect_closes ds k = inl (refl, k.0, k.1, k.2)
  allowed collect_ends ds k = inr refl

  by_deed : (n : Next CollectState) (ds : List Deed) (d e : Deed) → d ≡ e → CollectsAt c n (sent ds ++ sent_by e) (collected ds ++ collected_by e (awaited ds)) (awaited_after e (awaited ds)) (answer_after e (last_answer ds)) → CollectAt c n (ds ++ d ∷ [])
  by_deed n ds d e is k = subst (λ z. CollectAt c n (ds ++ z ∷ [])) (sym is) (after c n ds e k)

  -- it took a from its queue, or from the reply port p
  took : (ds : List Deed) (a : Tree) → CollectAt c (to collect_takes) ds → (b z : Bool) (o : Option ℕ) → is_nil a ≡ b → c.closes ≡ z → port_in a ≡ o
      → CollectsAt c (cond b (cond z (to collect_closes) (to collect_ends)) (needing o (λ p. to (collect_opens p)))) (sent ds ++ []) (collected ds ++ collected_by (did_take 0 c.replies a) None) (awaited_after (did_take 0 c.replies a) None) (Some (c.replies, a))
  took ds a k true true o e f g = (f, ap (λ z. z ++ []) k.0, (a, refl, e))
  took ds a k true false o e f g = tt
  took ds a k false z None e f g = tt
  took ds a k false z (Some p) e f g = (ap (λ z. z ++ []) k.0, g)

  opened : (ds : List Deed) (p : ℕ) (a : Tree) → CollectAt c (to (collect_opens p)) ds → (o : Option Trees) → items_in a ≡ o → CollectsAt c (needing o outputs_left) (sent ds ++ []) (collected ds ++ collected_by (did_take 0 p a) (Some p)) None (Some (p, a))
  opened ds p a k None e = tt
  opened ds p a k (Some ys) e = left c ys (sent ds ++ []) (collected ds ++ items_of (trees_in a)) (Some (p, a)) (ap (λ z. z ++ items_of (trees_in a)) (sym k.0 ∙ sym (append-nil (sent ds))) ∙ ap (λ z. (sent ds ++ []) ++ items_of z) (items_there a ys e))

  answered : (s : CollectState) (ds : List Deed) (d : Deed) (a : Tree) → CollectAt c (to s) ds → Replies (collect_op s) d a → CollectAt c (collect_next c a s) (ds ++ d ∷ [])
  answered collect_takes ds d a k (got is) = by_deed (collect_next c a collect_takes) ds d (did_take 0 c.replies a) is
      (subst (λ q. CollectsAt c (collect_next c a collect_takes) (sent ds ++ []) (collected ds ++ collected_by (did_take 0 c.replies a) q) (awaited_after (did_take 0 c.replies a) q) (Some (c.replies, a))) (sym k.1)
      (took ds a k (is_nil a) c.closes (port_in a) refl refl refl))
  answered (collect_opens p) ds d a k (got is) = by_deed (collect_next c a (collect_opens p)) ds d (did_take 0 p a) is
      (subst (λ q. CollectsAt c (collect_next c a (collect_opens p)) (sent ds ++ []) (collected ds ++ collected_by (did_take 0 p a) q) (awaited_after (did_take 0 p a) q) (Some (p, a))) (sym k.1)
      (opened ds p a k (items_in a) refl))
  answered (collect_puts y ys) ds d a k (gave is pa) = by (truth a) where
    by : (b : Bool) → CollectAt c (cond b (outputs_left ys) (to collect_ends)) (ds ++ d ∷ [])
    by true = by_deed (outputs_left ys) ds d _ is (subst (λ q. CollectsAt c (outputs_left ys) (sent ds ++ y ∷ []) (collected ds ++ []) q None) (sym k.1)
        (left c ys (sent ds ++ y ∷ []) (collected ds ++ []) None (append-nil (collected ds) ∙ k.0 ∙ sym (append_assoc (sent ds) (y ∷ []) (items_of ys)))))
    by false = tt
  answered collect_closes ds d a k (shuts is an) = tt
  answered collect_ends ds d a k (shuts is an) = tt

  collect_keeps : Keeps program collect_body collect_op (CollectAt c) (CollectRule c)
  collect_keeps = record {
    only = λ n op at. stands_only place (collect_asks c) collect_op collect_fault rows n op at.0 at.1;
    allowed = allowed;
    waits = λ s ds w k may. after c (to s) ds (did_wait w (branches_of (collect_op s))) (same c (to s) (sent ds) (collected ds) (awaited ds) (last_answer ds) k);
    ends = λ n ds how k. after c n ds (did_end how) (same c n (sent ds) (collected ds) (awaited ds) (last_answer ds) k);
    answered = λ s ds d a b k ans r. (collect_next c a s, r, answered s ds d a k ans);
  }

pub collects_keep_to : (program : ProgramView) (journal : List EventView) (s : State) → Reaches program journal s → CollectsKeepTo program journal s
collects_keep_to program = all_keep_to program SystemTask.Collect refl (λ values place. CollectRule (collect_ports values))
    (λ values place. collect_body program (collect_ports values) place) (λ values place. collect_op program (collect_ports values) place) (λ values place. CollectAt (collect_ports values))
    (λ values place. collect_keeps program (collect_ports values) place) (λ values place c r. (to collect_takes, r, (refl, refl)))
