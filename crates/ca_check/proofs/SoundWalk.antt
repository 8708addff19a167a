-- Each form makes a term that stands well.
use Rattle.std.proofs.Common.{arith, ℕ, List, [], ◌∷◌, length, Option, Some, None, nat_lt, refl}
use Rattle.ca_value.specs.Tree.{nil, bool, int, text, key}
use Rattle.ca_value.specs.declared.builtin.Builtin.TheVariants.{Vector, HashMap}
use Rattle.ca_term.specs.declared.place.Place.{Place}
use Rattle.ca_term.specs.declared.head.Head.TheVariants.{Make, Close, Register, Print, Post, Builtin}
use Rattle.ca_term.specs.declared.head.MakeKind.{MakeKind}
use Rattle.ca_term.specs.declared.head.RegisterName.{RegisterName}
use Rattle.ca_reader.specs.declared.form.Bracket.{Bracket}
use Rattle.ca_reader.specs.declared.form.Bracket.TheVariants.{Round, Square, Curly}
use Rattle.ca_reader.specs.Form.{FormTree, FormTrees, ShapeTree, Atom, form, atom, group, none, item, symbol, nil as nil_atom, bool as bool_atom, int as int_atom, text as text_atom, key as key_atom}
use Rattle.ca_forms.specs.declared.special.Special.{Special}
use Rattle.ca_forms.specs.declared.error.CheckErrorKind.TheVariants.{BadForm, TooMany}
use Rattle.ca_forms.specs.Words.{special}
use Rattle.ca_forms.specs.Meaning.{block}
use Rattle.ca_forms.specs.Binders.{Part}
use Rattle.ca_forms.specs.Plain.{meanings, row_loop, by_truth, by_some}
use Rattle.ca_forms.specs.Channels.{parking, blocking}
use Rattle.ca_forms.specs.Walk.{special_row, row_or_call, headed, row_list, row_atom, row_group, walk, walk_shape, walked_parts, within, within_shape, pairs}
use Rattle.ca_reader.specs.Written.{ShapeAtoms, AtomHas, HaveScalars}
use Rattle.ca_check.proofs.Places.{Has, PartsHave, parts_have}
use Rattle.ca_check.proofs.Sound.{Ground, Sound, sound_constant, sound_fail, sound_cond, sound_operation, sound_body, sound_go}
use Rattle.ca_check.proofs.SoundPlain.{PairsSound, PartsSound, means_sound, block_sound, sound_row_let, sound_row_if, sound_row_if_not, sound_row_when, sound_row_when_not, sound_row_cond, sound_and, sound_or, sound_truth, sound_some, sound_row_if_bound, sound_row_when_bound, sound_row_loop, sound_row_recur, sound_row_while, sound_row_dotimes, sound_row_doseq}
use Rattle.ca_check.proofs.SoundNames.{sound_symbol, sound_written, sound_builtin_call, sound_row_call, sound_keyword}
use Rattle.ca_check.proofs.SoundChannels.{sound_row_of_one, sound_row_of_two, parking_sound, blocking_sound, sound_row_take, sound_row_put, sound_row_alts, sound_row_offer, sound_row_poll, sound_row_chan, sound_row_promise, sound_row_mult, sound_row_tap, sound_row_mix, sound_row_change_of_one, sound_row_change_of_two, sound_row_pub, sound_row_sub, sound_row_unsub, sound_row_unsub_all, sound_row_pipe, sound_row_merge, sound_row_pipeline, sound_row_onto, sound_row_to}

pub sound_row : (g : Ground) (k : Special) (p : Place) (qs : List Part) → PartsHave g.rules.scalars qs → PartsSound g qs → Sound g 0 (special_row k p qs)
sound_row g Special.Def p qs y f = sound_fail g 0 BadForm p
sound_row g Special.Defn p qs y f = sound_fail g 0 BadForm p
sound_row g Special.Do p qs y f = block_sound g 0 qs f
sound_row g Special.Let p qs y f = sound_row_let g p qs f
sound_row g Special.If p qs y f = sound_row_if g p qs f
sound_row g Special.IfNot p qs y f = sound_row_if_not g p qs f
sound_row g Special.When p qs y f = sound_row_when g p qs f
sound_row g Special.WhenNot p qs y f = sound_row_when_not g p qs f
sound_row g Special.Cond p qs y f = sound_row_cond g p qs f
sound_row g Special.And p qs y f = sound_and g 0 (meanings qs) (means_sound g qs f)
sound_row g Special.Or p qs y f = sound_or g 0 (meanings qs) (means_sound g qs f)
sound_row g Special.IfLet p qs y f = sound_row_if_bound g by_truth p qs (sound_truth g) f
sound_row g Special.WhenLet p qs y f = sound_row_when_bound g by_truth p qs (sound_truth g) f
sound_row g Special.IfSome p qs y f = sound_row_if_bound g by_some p qs (sound_some g) f
sound_row g Special.WhenSome p qs y f = sound_row_when_bound g by_some p qs (sound_some g) f
sound_row g Special.Loop p qs y f = sound_row_loop g p qs f
sound_row g Special.Recur p qs y f = sound_row_recur g p qs f
sound_row g Special.While p qs y f = sound_row_while g p qs f
sound_row g Special.Dotimes p qs y f = sound_row_dotimes g p qs f
sound_row g Special.Doseq p qs y f = sound_row_doseq g p qs f
sound_row g Special.Go p qs y f = sound_go g 0 (block (meanings qs)) p (block_sound g 0 qs f)
sound_row g Special.GoLoop p qs y f = sound_go g 0 (block (row_loop p qs ∷ [])) p (sound_body g 0 (row_loop p qs) (sound_row_loop g p qs f))
sound_row g Special.Take p qs y f = sound_row_take g parking p qs (parking_sound g) f
sound_row g Special.TakeBlocking p qs y f = sound_row_take g blocking p qs (blocking_sound g) f
sound_row g Special.Put p qs y f = sound_row_put g parking p qs (parking_sound g) f
sound_row g Special.PutBlocking p qs y f = sound_row_put g blocking p qs (blocking_sound g) f
sound_row g Special.Alts p qs y f = sound_row_alts g parking p qs (parking_sound g) f
sound_row g Special.AltsBlocking p qs y f = sound_row_alts g blocking p qs (blocking_sound g) f
sound_row g Special.Offer p qs y f = sound_row_offer g p qs f
sound_row g Special.Poll p qs y f = sound_row_poll g p qs f
sound_row g Special.Post p qs y f = sound_row_of_two g Post p qs (λ target. tt) f
sound_row g Special.Close p qs y f = sound_row_of_one g Close p qs (λ target. tt) f
sound_row g Special.Print p qs y f = sound_operation g 0 Print (meanings qs) p (means_sound g qs f) (λ target. tt)
sound_row g Special.Chan p qs y f = sound_row_chan g p qs f
sound_row g Special.PromiseChan p qs y f = sound_row_promise g p qs f
sound_row g Special.Timeout p qs y f = sound_row_of_one g (Make MakeKind.Timeout) p qs (λ target. tt) f
sound_row g Special.Mult p qs y f = sound_row_mult g p qs f
sound_row g Special.Tap p qs y f = sound_row_tap g p qs f
sound_row g Special.Untap p qs y f = sound_row_of_two g (Register RegisterName.Untap) p qs (λ target. omega arith) f
sound_row g Special.UntapAll p qs y f = sound_row_of_one g (Register RegisterName.UntapAll) p qs (λ target. omega arith) f
sound_row g Special.Mix p qs y f = sound_row_mix g p qs f
sound_row g Special.Admix p qs y f = sound_row_change_of_two g RegisterName.Admix p qs f
sound_row g Special.Unmix p qs y f = sound_row_change_of_two g RegisterName.Unmix p qs f
sound_row g Special.UnmixAll p qs y f = sound_row_change_of_one g RegisterName.UnmixAll p qs f
sound_row g Special.Toggle p qs y f = sound_row_change_of_two g RegisterName.Toggle p qs f
sound_row g Special.SoloMode p qs y f = sound_row_change_of_two g RegisterName.SoloMode p qs f
sound_row g Special.Pub p qs y f = sound_row_pub g p qs y f
sound_row g Special.Sub p qs y f = sound_row_sub g p qs f
sound_row g Special.Unsub p qs y f = sound_row_unsub g p qs f
sound_row g Special.UnsubAll p qs y f = sound_row_unsub_all g p qs f
sound_row g Special.Pipe p qs y f = sound_row_pipe g p qs f
sound_row g Special.Merge p qs y f = sound_row_merge g p qs f
sound_row g Special.Pipeline p qs y f = sound_row_pipeline g p qs y f
sound_row g Special.OntoChan p qs y f = sound_row_onto g p qs f
sound_row g Special.ToChan p qs y f = sound_row_to g p qs f
sound_row g Special.Buffer p qs y f = sound_fail g 0 BadForm p
sound_row g Special.DroppingBuffer p qs y f = sound_fail g 0 BadForm p
sound_row g Special.SlidingBuffer p qs y f = sound_fail g 0 BadForm p
sound_row g Special.Map p qs y f = sound_fail g 0 BadForm p
sound_row g Special.Filter p qs y f = sound_fail g 0 BadForm p
sound_row g Special.Mapcat p qs y f = sound_fail g 0 BadForm p

pub sound_row_or_call : (g : Ground) (o : Option Special) (s : List ℕ) (q : Place) (qs : List Part) (p : Place) → PartsHave g.rules.scalars qs → PartsSound g qs → Sound g 0 (row_or_call o s q qs p)
sound_row_or_call g (Some k) s q qs p y f = sound_row g k p qs y f
sound_row_or_call g None s q qs p y f = sound_row_call g s q (meanings qs) p (means_sound g qs f)

pub sound_headed : (g : Ground) (h : FormTree) (qs : List Part) (p : Place) → Has g.rules.scalars h → PartsHave g.rules.scalars qs → PartsSound g qs → Sound g 0 (headed h qs p)
sound_headed g (form (atom (symbol s)) q) qs p x y f = sound_row_or_call g (special s) s q qs p y f
sound_headed g (form (atom (key_atom k)) q) qs p x y f = sound_keyword g k q (meanings qs) p x (means_sound g qs f)
sound_headed g (form (atom nil_atom) q) qs p x y f = sound_fail g 0 BadForm p
sound_headed g (form (atom (bool_atom b)) q) qs p x y f = sound_fail g 0 BadForm p
sound_headed g (form (atom (int_atom z)) q) qs p x y f = sound_fail g 0 BadForm p
sound_headed g (form (atom (text_atom s)) q) qs p x y f = sound_fail g 0 BadForm p
sound_headed g (form (group b fs) q) qs p x y f = sound_fail g 0 BadForm p

pub sound_row_list : (g : Ground) (qs : List Part) (p : Place) → PartsHave g.rules.scalars qs → PartsSound g qs → Sound g 0 (row_list qs p)
sound_row_list g [] p y f = sound_fail g 0 BadForm p
sound_row_list g (h ∷ qs) p y f = sound_headed g h.form qs p y.0 y.2 f.2

pub sound_row_atom : (g : Ground) (a : Atom) (p : Place) → AtomHas g.rules.scalars a → Sound g 0 (row_atom a p)
sound_row_atom g nil_atom p y = sound_constant g 0 nil tt
sound_row_atom g (bool_atom b) p y = sound_constant g 0 (bool b) tt
sound_row_atom g (int_atom z) p y = sound_constant g 0 (int z) y
sound_row_atom g (text_atom s) p y = sound_written g 0 s p _ (λ l. sound_constant g 0 (text s) l)
sound_row_atom g (key_atom s) p y = sound_written g 0 s p _ (λ l. sound_constant g 0 (key s) (l, y))
sound_row_atom g (symbol s) p y = sound_symbol g s p

pub sound_row_group : (g : Ground) (b : Bracket) (qs : List Part) (p : Place) → PartsHave g.rules.scalars qs → PartsSound g qs → Sound g 0 (row_group b qs p)
sound_row_group g Round qs p y f = sound_row_list g qs p y f
sound_row_group g Square qs p y f = sound_operation g 0 (Builtin Vector) (meanings qs) p (means_sound g qs f) (λ target. refl)
sound_row_group g Curly qs p y f = sound_builtin_call g 0 HashMap (meanings qs) p (means_sound g qs f)

mutual
  pub sound_walk : (g : Ground) (f : FormTree) → Has g.rules.scalars f → Sound g 0 (walk f)
  sound_walk g (form s p) y = sound_shape g s p y

  pub sound_shape : (g : Ground) (s : ShapeTree) (p : Place) → ShapeAtoms (AtomHas g.rules.scalars) s → Sound g 0 (walk_shape s p)
  sound_shape g (atom a) p y = sound_row_atom g a p y
  sound_shape g (group b fs) p y = sound_cond g 0 (nat_lt 4096 (length (walked_parts fs))) _ (row_group b (walked_parts fs) p) (sound_fail g 0 TooMany p) (sound_row_group g b (walked_parts fs) p (parts_have g.rules.scalars fs y) (sound_parts g fs y))

  pub sound_parts : (g : Ground) (fs : FormTrees) → HaveScalars g.rules.scalars fs → PartsSound g (walked_parts fs)
  sound_parts g none y = tt
  sound_parts g (item f fs) y = (sound_walk g f y.0, sound_within g f y.0, sound_parts g fs y.1)

  pub sound_within : (g : Ground) (f : FormTree) → Has g.rules.scalars f → PairsSound g (within f)
  sound_within g (form s p) y = sound_within_shape g s y

  pub sound_within_shape : (g : Ground) (s : ShapeTree) → ShapeAtoms (AtomHas g.rules.scalars) s → PairsSound g (within_shape s)
  sound_within_shape g (atom a) y = tt
  sound_within_shape g (group b fs) y = sound_pairs g fs y

  pub sound_pairs : (g : Ground) (fs : FormTrees) → HaveScalars g.rules.scalars fs → PairsSound g (pairs fs)
  sound_pairs g none y = tt
  sound_pairs g (item f fs) y = (sound_walk g f y.0, sound_pairs g fs y.1)
