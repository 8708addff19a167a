-- Pipes keep to their rule.
use Rattle.std.proofs.Common.{◌≡◌, ℕ, List, [], ◌∷◌, ◌++◌, refl, sym, ap, ◌∙◌, subst, Bool, true, false, cond, Option, Some, None, append-nil}
use Rattle.ca_value.specs.Tree.{Tree, port}
use Rattle.ca_term.specs.declared.place.Place.{Place}
use Rattle.ca_term.specs.declared.fault.Fault.{Fault}
use Rattle.ca_term.specs.declared.head.SystemTask.{SystemTask}
use Rattle.ca_term.specs.Operation.{OpView, taking, putting, closing}
use Rattle.ca_term.specs.Program.{ProgramView}
use Rattle.ca_term.specs.Event.{EventView}
use Rattle.ca_meaning.specs.Body.{asking}
use Rattle.ca_meaning.specs.Operands.{is_nil, truth}
use Rattle.ca_meaning.specs.Choice.{branches_of}
use Rattle.ca_meaning.specs.State.{State}
use Rattle.ca_meaning.specs.Legal.{Reaches}
use Rattle.ca_meaning.specs.Asks.{Next, to, stop, fail, too_large_here}
use Rattle.ca_meaning.specs.PipeTable.{PipePorts, PipeState, pipe_takes, pipe_puts, pipe_closes, pipe_asks, pipe_next}
use Rattle.ca_meaning.specs.System.{SystemBody, a_pipe}
use Rattle.ca_laws.specs.Deeds.{Deed, did_take, did_wait, did_end}
use Rattle.ca_laws.specs.Taken.{taken_by, taken, sent_by, sent, answer_after, last_answer}
use Rattle.ca_laws.specs.PipeRules.{PipeRule, pipe_ports, PipesKeepTo}
use Rattle.ca_laws.proofs.Acts.{Replies, got, gave, shuts}
use Rattle.ca_laws.proofs.More.{each_more, answer_more}
use Rattle.ca_laws.proofs.Tables.{stands_only, Keeps, all_keep_to}

module _ (program : ProgramView) (x : PipePorts) (place : Place) where
  abbrev pipe_body : Next PipeState → SystemBody
  pipe_body n = a_pipe x place n

  abbrev pipe_op : PipeState → OpView
  pipe_op pipe_takes = taking (port x.source)
  pipe_op (pipe_puts v) = putting (port x.target) v
  pipe_op pipe_closes = closing (port x.target)

  abbrev pipe_fault : PipeState → Option Fault
  pipe_fault pipe_takes = None
  pipe_fault (pipe_puts v) = too_large_here v
  pipe_fault pipe_closes = None

  rows : (s : PipeState) → pipe_asks x s place ≡ asking place (pipe_fault s) (pipe_op s)
  rows pipe_takes = refl
  rows (pipe_puts v) = refl
  rows pipe_closes = refl

  abbrev Ends : Option (ℕ × Tree) → Type 0
  Ends o = (a : Tree) × (o ≡ Some (x.source, a)) × (is_nil a ≡ true)

  -- by what it took and put, and its last answer
  abbrev PipesAt : Next PipeState → List Tree → List Tree → Option (ℕ × Tree) → Type 0
  PipesAt (to pipe_takes) ts us o = us ≡ ts
  PipesAt (to (pipe_puts v)) ts us o = us ++ v ∷ [] ≡ ts
  PipesAt (to pipe_closes) ts us o = (x.closes ≡ true) × (us ≡ ts) × Ends o
  PipesAt stop ts us o = Unit {0}
  PipesAt (fail g) ts us o = Unit {0}

  abbrev PipeAt : Next PipeState → List Deed → Type 0
  PipeAt n ds = PipesAt n (taken ds) (sent ds) (last_answer ds)

  by_deed : (n : Next PipeState) (ds : List Deed) (d c : Deed) → d ≡ c → PipesAt n (taken ds ++ taken_by c) (sent ds ++ sent_by c) (answer_after c (last_answer ds)) → PipeAt n (ds ++ d ∷ [])
  by_deed n ds d c is k = subst (λ z. PipeAt n (ds ++ z ∷ [])) (sym is)
      (subst (λ z. PipesAt n z (sent (ds ++ c ∷ [])) (last_answer (ds ++ c ∷ []))) (sym (each_more taken_by ds c))
      (subst (λ z. PipesAt n (taken ds ++ taken_by c) z (last_answer (ds ++ c ∷ []))) (sym (each_more sent_by ds c))
      (subst (λ z. PipesAt n (taken ds ++ taken_by c) (sent ds ++ sent_by c) z) (sym (answer_more None ds c)) k)))

  -- where nothing is taken or put
  same : (n : Next PipeState) (ts us : List Tree) (o : Option (ℕ × Tree)) → PipesAt n ts us o → PipesAt n (ts ++ []) (us ++ []) o
  same n ts us o k = subst (λ z. PipesAt n z (us ++ []) o) (sym (append-nil ts)) (subst (λ z. PipesAt n ts z o) (sym (append-nil us)) k)

  allowed : (s : PipeState) (ds : List Deed) → PipeAt (to s) ds → PipeRule x ds (pipe_op s)
  allowed pipe_takes ds k = (refl, k)
  allowed (pipe_puts v) ds k = (refl, k)
  allowed pipe_closes ds k = (refl, k.0, k.1, k.2)

  took : (ds : List Deed) (a : Tree) → PipeAt (to pipe_takes) ds → (b z : Bool) → is_nil a ≡ b → x.closes ≡ z → PipesAt (cond b (cond z (to pipe_closes) stop) (to (pipe_puts a))) (taken ds ++ cond b [] (a ∷ [])) (sent ds ++ []) (Some (x.source, a))
  took ds a k true true e f = (f, ap (λ z. z ++ []) k, (a, refl, e))
  took ds a k true false e f = tt
  took ds a k false z e f = ap (λ z. z ++ a ∷ []) (append-nil (sent ds) ∙ k)

  answered : (s : PipeState) (ds : List Deed) (d : Deed) (a : Tree) → PipeAt (to s) ds → Replies (pipe_op s) d a → PipeAt (pipe_next x a s) (ds ++ d ∷ [])
  answered pipe_takes ds d a k (got is) = by_deed (pipe_next x a pipe_takes) ds d (did_take 0 x.source a) is (took ds a k (is_nil a) x.closes refl refl)
  answered (pipe_puts v) ds d a k (gave is pa) = by (truth a) where
    by : (b : Bool) → PipeAt (cond b (to pipe_takes) stop) (ds ++ d ∷ [])
    by true = by_deed (to pipe_takes) ds d _ is (k ∙ sym (append-nil (taken ds)))
    by false = tt
  answered pipe_closes ds d a k (shuts is an) = tt

  pipe_keeps : Keeps program pipe_body pipe_op PipeAt (PipeRule x)
  pipe_keeps = record {
    only = λ n op at. stands_only place (pipe_asks x) pipe_op pipe_fault rows n op at.0 at.1;
    allowed = allowed;
    waits = λ s ds w k may. by_deed (to s) ds (did_wait w (branches_of (pipe_op s))) (did_wait w (branches_of (pipe_op s))) refl (same (to s) (taken ds) (sent ds) (last_answer ds) k);
    ends = λ n ds how k. by_deed n ds (did_end how) (did_end how) refl (same n (taken ds) (sent ds) (last_answer ds) k);
    answered = λ s ds d a c k ans r. (pipe_next x a s, r, answered s ds d a k ans);
  }

pub pipes_keep_to : (program : ProgramView) (journal : List EventView) (s : State) → Reaches program journal s → PipesKeepTo program journal s
pipes_keep_to program = all_keep_to program SystemTask.Pipe refl (λ values place. PipeRule (pipe_ports values))
    (λ values place. pipe_body program (pipe_ports values) place) (λ values place. pipe_op program (pipe_ports values) place) (λ values place. PipeAt program (pipe_ports values) place)
    (λ values place. pipe_keeps program (pipe_ports values) place) (λ values place c r. (to pipe_takes, r, refl))
