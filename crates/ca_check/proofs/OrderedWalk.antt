-- Each form adds the go bodies of its text in order.
use Rattle.std.proofs.Common.{◌≡◌, ℕ, List, [], ◌∷◌, ◌++◌, length, refl, sym, ap, Option, Some, None, true, false, cond, nat_lt}
use Rattle.ca_value.specs.Tree.{nil, bool, int, text, key}
use Rattle.ca_value.specs.declared.builtin.Builtin.TheVariants.{Vector, HashMap}
use Rattle.ca_term.specs.declared.place.Place.{Place}
use Rattle.ca_term.specs.declared.head.Head.TheVariants.{Make, Close, Register, Print, Post, Builtin}
use Rattle.ca_term.specs.declared.head.MakeKind.{MakeKind}
use Rattle.ca_term.specs.declared.head.RegisterName.{RegisterName}
use Rattle.ca_reader.specs.declared.form.Bracket.{Bracket}
use Rattle.ca_reader.specs.declared.form.Bracket.TheVariants.{Round, Square, Curly}
use Rattle.ca_reader.specs.Form.{FormTree, FormTrees, ShapeTree, Atom, form, atom, group, none, item, symbol, nil as nil_atom, bool as bool_atom, int as int_atom, text as text_atom, key as key_atom}
use Rattle.ca_forms.specs.declared.special.Special.{Special}
use Rattle.ca_forms.specs.declared.error.CheckErrorKind.TheVariants.{TooMany}
use Rattle.ca_forms.specs.Words.{special}
use Rattle.ca_forms.specs.Meaning.{block, fail_with}
use Rattle.ca_forms.specs.Binders.{Part, is_vector}
use Rattle.ca_forms.specs.Plain.{meanings, row_loop, by_truth, by_some}
use Rattle.ca_forms.specs.Channels.{parking, blocking, is_list, word_of}
use Rattle.ca_forms.specs.Walk.{special_row, row_or_call, row_atom, row_group, walk, walk_shape, walked_parts, within, within_shape, pairs}
use Rattle.ca_check.specs.Order.{is_go, go_blocks, go_blocks_in, go_blocks_of}
use Rattle.ca_check.proofs.Ordered.{Ordered, ordered_same, ordered_constant, ordered_fail, ordered_cond, total, ordered_operation, ordered_body, ordered_go}
use Rattle.ca_check.proofs.OrderedPlain.{blocks_of, pair_blocks, PairsOrdered, PartsOrdered, means_ordered, block_ordered, ordered_row_let, ordered_row_if, ordered_row_if_not, ordered_row_when, ordered_row_when_not, ordered_row_cond, ordered_and, ordered_or, ordered_truth, ordered_some, ordered_row_if_bound, ordered_row_when_bound, ordered_row_loop, ordered_row_recur, ordered_row_while, ordered_row_dotimes, ordered_row_doseq}
use Rattle.ca_check.proofs.OrderedChannels.{ordered_symbol, ordered_written, ordered_builtin_call, ordered_row_call, ordered_keyword, ordered_row_of_one, ordered_row_of_two, parking_ordered, blocking_ordered, ordered_row_take, ordered_row_put, ordered_row_alts, ordered_row_offer, ordered_row_poll, ordered_row_chan, ordered_row_promise, ordered_row_mult, ordered_row_tap, ordered_row_mix, ordered_row_change_of_one, ordered_row_change_of_two, ordered_row_pub, ordered_row_sub, ordered_row_unsub, ordered_row_unsub_all, ordered_row_pipe, ordered_row_merge, ordered_row_pipeline, ordered_row_onto, ordered_row_to}

-- the go block itself, if the word heads one
abbrev pub own : Option Special → Place → List Place
own o p = cond (is_go o) (p ∷ []) []

pub ordered_row : (k : Special) (p : Place) (qs : List Part) → PartsOrdered qs → Ordered (own (Some k) p ++ total (blocks_of qs)) (special_row k p qs)
ordered_row Special.Def p qs f = λ env s. tt
ordered_row Special.Defn p qs f = λ env s. tt
ordered_row Special.Do p qs f = block_ordered qs f
ordered_row Special.Let p qs f = ordered_row_let p qs f
ordered_row Special.If p qs f = ordered_row_if p qs f
ordered_row Special.IfNot p qs f = ordered_row_if_not p qs f
ordered_row Special.When p qs f = ordered_row_when p qs f
ordered_row Special.WhenNot p qs f = ordered_row_when_not p qs f
ordered_row Special.Cond p qs f = ordered_row_cond p qs f
ordered_row Special.And p qs f = ordered_and (blocks_of qs) (meanings qs) (means_ordered qs f)
ordered_row Special.Or p qs f = ordered_or (blocks_of qs) (meanings qs) (means_ordered qs f)
ordered_row Special.IfLet p qs f = ordered_row_if_bound by_truth p qs ordered_truth f
ordered_row Special.WhenLet p qs f = ordered_row_when_bound by_truth p qs ordered_truth f
ordered_row Special.IfSome p qs f = ordered_row_if_bound by_some p qs ordered_some f
ordered_row Special.WhenSome p qs f = ordered_row_when_bound by_some p qs ordered_some f
ordered_row Special.Loop p qs f = ordered_row_loop p qs f
ordered_row Special.Recur p qs f = ordered_row_recur p qs f
ordered_row Special.While p qs f = ordered_row_while p qs f
ordered_row Special.Dotimes p qs f = ordered_row_dotimes p qs f
ordered_row Special.Doseq p qs f = ordered_row_doseq p qs f
ordered_row Special.Go p qs f = ordered_go (total (blocks_of qs)) p (block (meanings qs)) (block_ordered qs f)
ordered_row Special.GoLoop p qs f = ordered_go (total (blocks_of qs)) p (block (row_loop p qs ∷ [])) (ordered_body (total (blocks_of qs)) (row_loop p qs) (ordered_row_loop p qs f))
ordered_row Special.Take p qs f = ordered_row_take parking p qs parking_ordered f
ordered_row Special.TakeBlocking p qs f = ordered_row_take blocking p qs blocking_ordered f
ordered_row Special.Put p qs f = ordered_row_put parking p qs parking_ordered f
ordered_row Special.PutBlocking p qs f = ordered_row_put blocking p qs blocking_ordered f
ordered_row Special.Alts p qs f = ordered_row_alts parking p qs parking_ordered f
ordered_row Special.AltsBlocking p qs f = ordered_row_alts blocking p qs blocking_ordered f
ordered_row Special.Offer p qs f = ordered_row_offer p qs f
ordered_row Special.Poll p qs f = ordered_row_poll p qs f
ordered_row Special.Post p qs f = ordered_row_of_two Post p qs f
ordered_row Special.Close p qs f = ordered_row_of_one Close p qs f
ordered_row Special.Print p qs f = ordered_operation (blocks_of qs) Print (meanings qs) p (means_ordered qs f)
ordered_row Special.Chan p qs f = ordered_row_chan p qs f
ordered_row Special.PromiseChan p qs f = ordered_row_promise p qs f
ordered_row Special.Timeout p qs f = ordered_row_of_one (Make MakeKind.Timeout) p qs f
ordered_row Special.Mult p qs f = ordered_row_mult p qs f
ordered_row Special.Tap p qs f = ordered_row_tap p qs f
ordered_row Special.Untap p qs f = ordered_row_of_two (Register RegisterName.Untap) p qs f
ordered_row Special.UntapAll p qs f = ordered_row_of_one (Register RegisterName.UntapAll) p qs f
ordered_row Special.Mix p qs f = ordered_row_mix p qs f
ordered_row Special.Admix p qs f = ordered_row_change_of_two RegisterName.Admix p qs f
ordered_row Special.Unmix p qs f = ordered_row_change_of_two RegisterName.Unmix p qs f
ordered_row Special.UnmixAll p qs f = ordered_row_change_of_one RegisterName.UnmixAll p qs f
ordered_row Special.Toggle p qs f = ordered_row_change_of_two RegisterName.Toggle p qs f
ordered_row Special.SoloMode p qs f = ordered_row_change_of_two RegisterName.SoloMode p qs f
ordered_row Special.Pub p qs f = ordered_row_pub p qs f
ordered_row Special.Sub p qs f = ordered_row_sub p qs f
ordered_row Special.Unsub p qs f = ordered_row_unsub p qs f
ordered_row Special.UnsubAll p qs f = ordered_row_unsub_all p qs f
ordered_row Special.Pipe p qs f = ordered_row_pipe p qs f
ordered_row Special.Merge p qs f = ordered_row_merge p qs f
ordered_row Special.Pipeline p qs f = ordered_row_pipeline p qs f
ordered_row Special.OntoChan p qs f = ordered_row_onto p qs f
ordered_row Special.ToChan p qs f = ordered_row_to p qs f
ordered_row Special.Buffer p qs f = λ env s. tt
ordered_row Special.DroppingBuffer p qs f = λ env s. tt
ordered_row Special.SlidingBuffer p qs f = λ env s. tt
ordered_row Special.Map p qs f = λ env s. tt
ordered_row Special.Filter p qs f = λ env s. tt
ordered_row Special.Mapcat p qs f = λ env s. tt

pub ordered_row_or_call : (o : Option Special) (s : List ℕ) (q : Place) (qs : List Part) (p : Place) → PartsOrdered qs → Ordered (own o p ++ total (blocks_of qs)) (row_or_call o s q qs p)
ordered_row_or_call (Some k) s q qs p f = ordered_row k p qs f
ordered_row_or_call None s q qs p f = ordered_row_call (blocks_of qs) s q (meanings qs) p (means_ordered qs f)

-- the go blocks of forms, and those of their parts
pub parts_blocks : (fs : FormTrees) → total (blocks_of (walked_parts fs)) ≡ go_blocks fs
parts_blocks none = refl
parts_blocks (item f fs) = ap (λ l. go_blocks_in f ++ l) (parts_blocks fs)

pub pairs_blocks : (fs : FormTrees) → total (pair_blocks (pairs fs)) ≡ go_blocks fs
pairs_blocks none = refl
pairs_blocks (item f fs) = ap (λ l. go_blocks_in f ++ l) (pairs_blocks fs)

pub ordered_row_atom : (a : Atom) (p : Place) → Ordered [] (row_atom a p)
ordered_row_atom nil_atom p = ordered_constant nil
ordered_row_atom (bool_atom b) p = ordered_constant (bool b)
ordered_row_atom (int_atom z) p = ordered_constant (int z)
ordered_row_atom (text_atom s) p = ordered_written [] s p _ (ordered_constant (text s))
ordered_row_atom (key_atom s) p = ordered_written [] s p _ (ordered_constant (key s))
ordered_row_atom (symbol s) p = ordered_symbol s p

pub ordered_row_group : (b : Bracket) (fs : FormTrees) (p : Place) → PartsOrdered (walked_parts fs) → Ordered (go_blocks_of (group b fs) p) (row_group b (walked_parts fs) p)
ordered_row_group Round none p f = λ env s. tt
ordered_row_group Round (item (form (atom (symbol s)) q) fs) p f = ordered_same (own (special s) p ++ total (blocks_of (walked_parts fs))) (own (special s) p ++ go_blocks fs) (row_or_call (special s) s q (walked_parts fs) p)
    (ap (λ l. own (special s) p ++ l) (parts_blocks fs)) (ordered_row_or_call (special s) s q (walked_parts fs) p f.1)
ordered_row_group Round (item (form (atom (key_atom k)) q) fs) p f = ordered_same (total (blocks_of (walked_parts fs))) (go_blocks fs) _ (parts_blocks fs) (ordered_keyword k q (walked_parts fs) p f.1)
ordered_row_group Round (item (form (atom nil_atom) q) fs) p f = λ env s. tt
ordered_row_group Round (item (form (atom (bool_atom b)) q) fs) p f = λ env s. tt
ordered_row_group Round (item (form (atom (int_atom z)) q) fs) p f = λ env s. tt
ordered_row_group Round (item (form (atom (text_atom s)) q) fs) p f = λ env s. tt
ordered_row_group Round (item (form (group c gs) q) fs) p f = λ env s. tt
ordered_row_group Square fs p f = ordered_same (total (blocks_of (walked_parts fs))) (go_blocks fs) _ (parts_blocks fs) (ordered_operation (blocks_of (walked_parts fs)) (Builtin Vector) (meanings (walked_parts fs)) p (means_ordered (walked_parts fs) f))
ordered_row_group Curly fs p f = ordered_same (total (blocks_of (walked_parts fs))) (go_blocks fs) _ (parts_blocks fs) (ordered_builtin_call (blocks_of (walked_parts fs)) HashMap (meanings (walked_parts fs)) p (means_ordered (walked_parts fs) f))

-- a vector has the go blocks of what stands in it
pub vector_blocks : (f : FormTree) → is_vector f ≡ true → go_blocks_in f ≡ total (pair_blocks (within f))
vector_blocks (form (atom a) p) e = cc
vector_blocks (form (group Round fs) p) e = cc
vector_blocks (form (group Square fs) p) e = sym (pairs_blocks fs)
vector_blocks (form (group Curly fs) p) e = cc

-- a list has these too, if it is no go block itself
pub list_blocks : (f : FormTree) → is_list f ≡ true → is_go (word_of (within f)) ≡ false → go_blocks_in f ≡ total (pair_blocks (within f))
list_blocks (form (atom a) p) e g = cc
list_blocks (form (group Square fs) p) e g = cc
list_blocks (form (group Curly fs) p) e g = cc
list_blocks (form (group Round none) p) e g = refl
list_blocks (form (group Round (item (form (atom (symbol s)) q) fs)) p) e g = rw g (sym (pairs_blocks fs))
list_blocks (form (group Round (item (form (atom (key_atom k)) q) fs)) p) e g = sym (pairs_blocks fs)
list_blocks (form (group Round (item (form (atom nil_atom) q) fs)) p) e g = sym (pairs_blocks fs)
list_blocks (form (group Round (item (form (atom (bool_atom b)) q) fs)) p) e g = sym (pairs_blocks fs)
list_blocks (form (group Round (item (form (atom (int_atom z)) q) fs)) p) e g = sym (pairs_blocks fs)
list_blocks (form (group Round (item (form (atom (text_atom s)) q) fs)) p) e g = sym (pairs_blocks fs)
list_blocks (form (group Round (item (form (group c gs) q) fs)) p) e g = sym (pairs_blocks (item (form (group c gs) q) fs))

mutual
  pub ordered_walk : (f : FormTree) → Ordered (go_blocks_in f) (walk f)
  ordered_walk (form s p) = ordered_shape s p

  pub ordered_shape : (s : ShapeTree) (p : Place) → Ordered (go_blocks_of s p) (walk_shape s p)
  ordered_shape (atom a) p = ordered_row_atom a p
  ordered_shape (group b fs) p = ordered_cond (go_blocks_of (group b fs) p) (nat_lt 4096 (length (walked_parts fs))) (fail_with TooMany p) (row_group b (walked_parts fs) p)
      (ordered_fail (go_blocks_of (group b fs) p) TooMany p) (ordered_row_group b fs p (ordered_parts fs))

  pub ordered_parts : (fs : FormTrees) → PartsOrdered (walked_parts fs)
  ordered_parts none = tt
  ordered_parts (item f fs) = (record { means = ordered_walk f; within = ordered_within f; vector = vector_blocks f; list = list_blocks f }, ordered_parts fs)

  pub ordered_within : (f : FormTree) → PairsOrdered (within f)
  ordered_within (form s p) = ordered_within_shape s

  pub ordered_within_shape : (s : ShapeTree) → PairsOrdered (within_shape s)
  ordered_within_shape (atom a) = tt
  ordered_within_shape (group b fs) = ordered_pairs fs

  pub ordered_pairs : (fs : FormTrees) → PairsOrdered (pairs fs)
  ordered_pairs none = tt
  ordered_pairs (item f fs) = (ordered_walk f, ordered_pairs fs)
