-- Each form makes a tidy term.
use Rattle.std.proofs.Common.{ℕ, List, [], ◌∷◌, length, Option, Some, None, nat_lt, refl}
use Rattle.ca_value.specs.Tree.{nil, bool, int, text, key}
use Rattle.ca_value.specs.declared.builtin.Builtin.TheVariants.{Vector, HashMap}
use Rattle.ca_term.specs.declared.place.Place.{Place}
use Rattle.ca_term.specs.declared.head.Head.TheVariants.{Make, Close, Register, Print, Post, Builtin}
use Rattle.ca_term.specs.declared.head.MakeKind.{MakeKind}
use Rattle.ca_term.specs.declared.head.RegisterName.{RegisterName}
use Rattle.ca_reader.specs.declared.form.Bracket.{Bracket}
use Rattle.ca_reader.specs.declared.form.Bracket.TheVariants.{Round, Square, Curly}
use Rattle.ca_reader.specs.Form.{FormTree, FormTrees, ShapeTree, Atom, form, atom, group, none, item, symbol, nil as nil_atom, bool as bool_atom, int as int_atom, text as text_atom, key as key_atom}
use Rattle.ca_forms.specs.declared.special.Special.{Special}
use Rattle.ca_forms.specs.declared.error.CheckErrorKind.TheVariants.{BadForm, TooMany}
use Rattle.ca_forms.specs.Words.{special}
use Rattle.ca_forms.specs.Meaning.{block}
use Rattle.ca_forms.specs.Binders.{Part}
use Rattle.ca_forms.specs.Plain.{meanings, row_loop, by_truth, by_some}
use Rattle.ca_forms.specs.Channels.{parking, blocking}
use Rattle.ca_forms.specs.Walk.{special_row, row_or_call, headed, row_list, row_atom, row_group, walk, walk_shape, walked_parts, within, within_shape, pairs}
use Rattle.ca_sealed.proofs.Words.{Keeps, tidy_constant, tidy_fail, tidy_cond, tidy_operation, tidy_body}
use Rattle.ca_sealed.proofs.Goes.{tidy_go}
use Rattle.ca_sealed.proofs.Names.{tidy_symbol, tidy_written, tidy_builtin_call, tidy_row_call, tidy_keyword}
use Rattle.ca_sealed.proofs.Rows.{PairsKeep, PartsKeep, means_keep, block_keep, tidy_row_let, tidy_row_if, tidy_row_if_not, tidy_row_when, tidy_row_when_not, tidy_row_cond, tidy_and, tidy_or, tidy_truth, tidy_some, tidy_row_if_bound, tidy_row_when_bound, tidy_row_loop, tidy_row_recur, tidy_row_while, tidy_row_dotimes, tidy_row_doseq}
use Rattle.ca_sealed.proofs.ChannelRows.{tidy_row_of_one, tidy_row_of_two, parking_keep, blocking_keep, tidy_row_take, tidy_row_put, tidy_row_alts, tidy_row_offer, tidy_row_poll, tidy_row_chan, tidy_row_promise, tidy_row_mult, tidy_row_tap, tidy_row_mix, tidy_row_change_of_one, tidy_row_change_of_two, tidy_row_pub, tidy_row_sub, tidy_row_unsub, tidy_row_unsub_all, tidy_row_pipe, tidy_row_merge, tidy_row_pipeline, tidy_row_onto, tidy_row_to}

pub tidy_row : (g : ℕ) (k : Special) (p : Place) (qs : List Part) → PartsKeep g qs → Keeps g 0 (special_row k p qs)
tidy_row g Special.Def p qs f = tidy_fail g 0 BadForm p
tidy_row g Special.Defn p qs f = tidy_fail g 0 BadForm p
tidy_row g Special.Do p qs f = block_keep g 0 qs f
tidy_row g Special.Let p qs f = tidy_row_let g p qs f
tidy_row g Special.If p qs f = tidy_row_if g p qs f
tidy_row g Special.IfNot p qs f = tidy_row_if_not g p qs f
tidy_row g Special.When p qs f = tidy_row_when g p qs f
tidy_row g Special.WhenNot p qs f = tidy_row_when_not g p qs f
tidy_row g Special.Cond p qs f = tidy_row_cond g p qs f
tidy_row g Special.And p qs f = tidy_and g 0 (meanings qs) (means_keep g qs f)
tidy_row g Special.Or p qs f = tidy_or g 0 (meanings qs) (means_keep g qs f)
tidy_row g Special.IfLet p qs f = tidy_row_if_bound g by_truth p qs (tidy_truth g) f
tidy_row g Special.WhenLet p qs f = tidy_row_when_bound g by_truth p qs (tidy_truth g) f
tidy_row g Special.IfSome p qs f = tidy_row_if_bound g by_some p qs (tidy_some g) f
tidy_row g Special.WhenSome p qs f = tidy_row_when_bound g by_some p qs (tidy_some g) f
tidy_row g Special.Loop p qs f = tidy_row_loop g p qs f
tidy_row g Special.Recur p qs f = tidy_row_recur g p qs f
tidy_row g Special.While p qs f = tidy_row_while g p qs f
tidy_row g Special.Dotimes p qs f = tidy_row_dotimes g p qs f
tidy_row g Special.Doseq p qs f = tidy_row_doseq g p qs f
tidy_row g Special.Go p qs f = tidy_go g 0 (block (meanings qs)) p (block_keep g 0 qs f)
tidy_row g Special.GoLoop p qs f = tidy_go g 0 (block (row_loop p qs ∷ [])) p (tidy_body g 0 (row_loop p qs) (tidy_row_loop g p qs f))
tidy_row g Special.Take p qs f = tidy_row_take g parking p qs (parking_keep g) f
tidy_row g Special.TakeBlocking p qs f = tidy_row_take g blocking p qs (blocking_keep g) f
tidy_row g Special.Put p qs f = tidy_row_put g parking p qs (parking_keep g) f
tidy_row g Special.PutBlocking p qs f = tidy_row_put g blocking p qs (blocking_keep g) f
tidy_row g Special.Alts p qs f = tidy_row_alts g parking p qs (parking_keep g) f
tidy_row g Special.AltsBlocking p qs f = tidy_row_alts g blocking p qs (blocking_keep g) f
tidy_row g Special.Offer p qs f = tidy_row_offer g p qs f
tidy_row g Special.Poll p qs f = tidy_row_poll g p qs f
tidy_row g Special.Post p qs f = tidy_row_of_two g Post p qs (λ ts. refl) f
tidy_row g Special.Close p qs f = tidy_row_of_one g Close p qs (λ ts. refl) f
tidy_row g Special.Print p qs f = tidy_operation g 0 Print (meanings qs) p (means_keep g qs f) (λ ts. refl)
tidy_row g Special.Chan p qs f = tidy_row_chan g p qs f
tidy_row g Special.PromiseChan p qs f = tidy_row_promise g p qs f
tidy_row g Special.Timeout p qs f = tidy_row_of_one g (Make MakeKind.Timeout) p qs (λ ts. refl) f
tidy_row g Special.Mult p qs f = tidy_row_mult g p qs f
tidy_row g Special.Tap p qs f = tidy_row_tap g p qs f
tidy_row g Special.Untap p qs f = tidy_row_of_two g (Register RegisterName.Untap) p qs (λ ts. refl) f
tidy_row g Special.UntapAll p qs f = tidy_row_of_one g (Register RegisterName.UntapAll) p qs (λ ts. refl) f
tidy_row g Special.Mix p qs f = tidy_row_mix g p qs f
tidy_row g Special.Admix p qs f = tidy_row_change_of_two g RegisterName.Admix p qs f
tidy_row g Special.Unmix p qs f = tidy_row_change_of_two g RegisterName.Unmix p qs f
tidy_row g Special.UnmixAll p qs f = tidy_row_change_of_one g RegisterName.UnmixAll p qs f
tidy_row g Special.Toggle p qs f = tidy_row_change_of_two g RegisterName.Toggle p qs f
tidy_row g Special.SoloMode p qs f = tidy_row_change_of_two g RegisterName.SoloMode p qs f
tidy_row g Special.Pub p qs f = tidy_row_pub g p qs f
tidy_row g Special.Sub p qs f = tidy_row_sub g p qs f
tidy_row g Special.Unsub p qs f = tidy_row_unsub g p qs f
tidy_row g Special.UnsubAll p qs f = tidy_row_unsub_all g p qs f
tidy_row g Special.Pipe p qs f = tidy_row_pipe g p qs f
tidy_row g Special.Merge p qs f = tidy_row_merge g p qs f
tidy_row g Special.Pipeline p qs f = tidy_row_pipeline g p qs f
tidy_row g Special.OntoChan p qs f = tidy_row_onto g p qs f
tidy_row g Special.ToChan p qs f = tidy_row_to g p qs f
tidy_row g Special.Buffer p qs f = tidy_fail g 0 BadForm p
tidy_row g Special.DroppingBuffer p qs f = tidy_fail g 0 BadForm p
tidy_row g Special.SlidingBuffer p qs f = tidy_fail g 0 BadForm p
tidy_row g Special.Map p qs f = tidy_fail g 0 BadForm p
tidy_row g Special.Filter p qs f = tidy_fail g 0 BadForm p
tidy_row g Special.Mapcat p qs f = tidy_fail g 0 BadForm p

pub tidy_row_or_call : (g : ℕ) (o : Option Special) (s : List ℕ) (q : Place) (qs : List Part) (p : Place) → PartsKeep g qs → Keeps g 0 (row_or_call o s q qs p)
tidy_row_or_call g (Some k) s q qs p f = tidy_row g k p qs f
tidy_row_or_call g None s q qs p f = tidy_row_call g s q (meanings qs) p (means_keep g qs f)

pub tidy_headed : (g : ℕ) (h : FormTree) (qs : List Part) (p : Place) → PartsKeep g qs → Keeps g 0 (headed h qs p)
tidy_headed g (form (atom (symbol s)) q) qs p f = tidy_row_or_call g (special s) s q qs p f
tidy_headed g (form (atom (key_atom k)) q) qs p f = tidy_keyword g k q (meanings qs) p (means_keep g qs f)
tidy_headed g (form (atom nil_atom) q) qs p f = tidy_fail g 0 BadForm p
tidy_headed g (form (atom (bool_atom b)) q) qs p f = tidy_fail g 0 BadForm p
tidy_headed g (form (atom (int_atom z)) q) qs p f = tidy_fail g 0 BadForm p
tidy_headed g (form (atom (text_atom s)) q) qs p f = tidy_fail g 0 BadForm p
tidy_headed g (form (group b fs) q) qs p f = tidy_fail g 0 BadForm p

pub tidy_row_list : (g : ℕ) (qs : List Part) (p : Place) → PartsKeep g qs → Keeps g 0 (row_list qs p)
tidy_row_list g [] p f = tidy_fail g 0 BadForm p
tidy_row_list g (h ∷ qs) p f = tidy_headed g h.form qs p f.2

pub tidy_row_atom : (g : ℕ) (a : Atom) (p : Place) → Keeps g 0 (row_atom a p)
tidy_row_atom g nil_atom p = tidy_constant g 0 nil tt
tidy_row_atom g (bool_atom b) p = tidy_constant g 0 (bool b) tt
tidy_row_atom g (int_atom z) p = tidy_constant g 0 (int z) tt
tidy_row_atom g (text_atom s) p = tidy_written g 0 s p _ (tidy_constant g 0 (text s) tt)
tidy_row_atom g (key_atom s) p = tidy_written g 0 s p _ (tidy_constant g 0 (key s) tt)
tidy_row_atom g (symbol s) p = tidy_symbol g s p

pub tidy_row_group : (g : ℕ) (b : Bracket) (qs : List Part) (p : Place) → PartsKeep g qs → Keeps g 0 (row_group b qs p)
tidy_row_group g Round qs p f = tidy_row_list g qs p f
tidy_row_group g Square qs p f = tidy_operation g 0 (Builtin Vector) (meanings qs) p (means_keep g qs f) (λ ts. refl)
tidy_row_group g Curly qs p f = tidy_builtin_call g 0 HashMap (meanings qs) p (means_keep g qs f)

mutual
  pub tidy_walk : (g : ℕ) (f : FormTree) → Keeps g 0 (walk f)
  tidy_walk g (form s p) = tidy_shape g s p

  pub tidy_shape : (g : ℕ) (s : ShapeTree) (p : Place) → Keeps g 0 (walk_shape s p)
  tidy_shape g (atom a) p = tidy_row_atom g a p
  tidy_shape g (group b fs) p = tidy_cond g 0 (nat_lt 4096 (length (walked_parts fs))) _ (row_group b (walked_parts fs) p) (tidy_fail g 0 TooMany p) (tidy_row_group g b (walked_parts fs) p (tidy_parts g fs))

  pub tidy_parts : (g : ℕ) (fs : FormTrees) → PartsKeep g (walked_parts fs)
  tidy_parts g none = tt
  tidy_parts g (item f fs) = (tidy_walk g f, tidy_within g f, tidy_parts g fs)

  pub tidy_within : (g : ℕ) (f : FormTree) → PairsKeep g (within f)
  tidy_within g (form s p) = tidy_within_shape g s

  pub tidy_within_shape : (g : ℕ) (s : ShapeTree) → PairsKeep g (within_shape s)
  tidy_within_shape g (atom a) = tt
  tidy_within_shape g (group b fs) = tidy_pairs g fs

  pub tidy_pairs : (g : ℕ) (fs : FormTrees) → PairsKeep g (pairs fs)
  tidy_pairs g none = tt
  tidy_pairs g (item f fs) = (tidy_walk g f, tidy_pairs g fs)
