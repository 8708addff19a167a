-- What each form means. A form's parts come to its row with their forms and meanings; nothing else is recursive.
use Rattle.std.specs.Prelude.{ℕ, List, [], ◌∷◌, length, Option, None, Some}
use Rattle.ca_value.specs.Tree.{bool, int, text, key}
use Rattle.ca_value.specs.declared.builtin.Builtin.TheVariants.{Vector, HashMap}
use Rattle.ca_term.specs.declared.place.Place.{Place}
use Rattle.ca_term.specs.declared.head.Head.TheVariants.{Make, Close, Register, Print, Post, Builtin}
use Rattle.ca_term.specs.declared.head.MakeKind.{MakeKind}
use Rattle.ca_term.specs.declared.head.RegisterName.{RegisterName}
use Rattle.ca_reader.specs.declared.form.Bracket.{Bracket}
use Rattle.ca_reader.specs.declared.form.Bracket.TheVariants.{Round, Square, Curly}
use Rattle.ca_reader.specs.Form.{FormTree, FormTrees, ShapeTree, Atom, form, atom, group, none, item, symbol, nil as nil_atom, bool as bool_atom, int as int_atom, text as text_atom, key as key_atom}
use Rattle.ca_forms.specs.declared.special.Special.{Special}
use Rattle.ca_forms.specs.declared.error.CheckErrorKind.TheVariants.{BadForm}
use Rattle.ca_forms.specs.Words.{special}
use Rattle.ca_forms.specs.Meaning.{Meaning, fail_with, constant_value, nothing, operation, block}
use Rattle.ca_forms.specs.Binders.{Pair, Part, counted}
use Rattle.ca_forms.specs.Plain.{meanings, row_let, row_if, row_if_not, row_when, row_when_not, row_cond, and_of, or_of, by_truth, by_some, row_if_bound, row_when_bound, row_loop, row_recur, row_while, row_dotimes, row_doseq}
use Rattle.ca_forms.specs.Go.{go_meaning}
use Rattle.ca_forms.specs.Names.{row_symbol, row_call, row_keyword, written_text, builtin_call}
use Rattle.ca_forms.specs.Channels.{parking, blocking, row_of_one, row_of_two, row_take, row_put, row_alts, row_offer, row_poll, row_chan, row_promise, row_mult, row_tap, row_mix, row_change_of_one, row_change_of_two, row_pub, row_sub, row_unsub, row_unsub_all, row_pipe, row_merge, row_pipeline, row_onto, row_to}

-- the form of that word at p, with these parts behind the word
abbrev pub special_row : Special → Place → List Part → Meaning
special_row Special.Def p ps = fail_with BadForm p
special_row Special.Defn p ps = fail_with BadForm p
special_row Special.Do p ps = block (meanings ps)
special_row Special.Let p ps = row_let p ps
special_row Special.If p ps = row_if p ps
special_row Special.IfNot p ps = row_if_not p ps
special_row Special.When p ps = row_when p ps
special_row Special.WhenNot p ps = row_when_not p ps
special_row Special.Cond p ps = row_cond p ps
special_row Special.And p ps = and_of (meanings ps)
special_row Special.Or p ps = or_of (meanings ps)
special_row Special.IfLet p ps = row_if_bound by_truth p ps
special_row Special.WhenLet p ps = row_when_bound by_truth p ps
special_row Special.IfSome p ps = row_if_bound by_some p ps
special_row Special.WhenSome p ps = row_when_bound by_some p ps
special_row Special.Loop p ps = row_loop p ps
special_row Special.Recur p ps = row_recur p ps
special_row Special.While p ps = row_while p ps
special_row Special.Dotimes p ps = row_dotimes p ps
special_row Special.Doseq p ps = row_doseq p ps
special_row Special.Go p ps = go_meaning (block (meanings ps)) p
special_row Special.GoLoop p ps = go_meaning (block (row_loop p ps ∷ [])) p
special_row Special.Take p ps = row_take parking p ps
special_row Special.TakeBlocking p ps = row_take blocking p ps
special_row Special.Put p ps = row_put parking p ps
special_row Special.PutBlocking p ps = row_put blocking p ps
special_row Special.Alts p ps = row_alts parking p ps
special_row Special.AltsBlocking p ps = row_alts blocking p ps
special_row Special.Offer p ps = row_offer p ps
special_row Special.Poll p ps = row_poll p ps
special_row Special.Post p ps = row_of_two Post p ps
special_row Special.Close p ps = row_of_one Close p ps
special_row Special.Print p ps = operation Print (meanings ps) p
special_row Special.Chan p ps = row_chan p ps
special_row Special.PromiseChan p ps = row_promise p ps
special_row Special.Timeout p ps = row_of_one (Make MakeKind.Timeout) p ps
special_row Special.Mult p ps = row_mult p ps
special_row Special.Tap p ps = row_tap p ps
special_row Special.Untap p ps = row_of_two (Register RegisterName.Untap) p ps
special_row Special.UntapAll p ps = row_of_one (Register RegisterName.UntapAll) p ps
special_row Special.Mix p ps = row_mix p ps
special_row Special.Admix p ps = row_change_of_two RegisterName.Admix p ps
special_row Special.Unmix p ps = row_change_of_two RegisterName.Unmix p ps
special_row Special.UnmixAll p ps = row_change_of_one RegisterName.UnmixAll p ps
special_row Special.Toggle p ps = row_change_of_two RegisterName.Toggle p ps
special_row Special.SoloMode p ps = row_change_of_two RegisterName.SoloMode p ps
special_row Special.Pub p ps = row_pub p ps
special_row Special.Sub p ps = row_sub p ps
special_row Special.Unsub p ps = row_unsub p ps
special_row Special.UnsubAll p ps = row_unsub_all p ps
special_row Special.Pipe p ps = row_pipe p ps
special_row Special.Merge p ps = row_merge p ps
special_row Special.Pipeline p ps = row_pipeline p ps
special_row Special.OntoChan p ps = row_onto p ps
special_row Special.ToChan p ps = row_to p ps
special_row Special.Buffer p ps = fail_with BadForm p
special_row Special.DroppingBuffer p ps = fail_with BadForm p
special_row Special.SlidingBuffer p ps = fail_with BadForm p
special_row Special.Map p ps = fail_with BadForm p
special_row Special.Filter p ps = fail_with BadForm p
special_row Special.Mapcat p ps = fail_with BadForm p

abbrev pub row_or_call : Option Special → List ℕ → Place → List Part → Place → Meaning
row_or_call (Some k) s q ps p = special_row k p ps
row_or_call None s q ps p = row_call s q (meanings ps) p

-- a list by the form at its head
abbrev pub headed : FormTree → List Part → Place → Meaning
headed (form (atom (symbol s)) q) ps p = row_or_call (special s) s q ps p
headed (form (atom (key_atom k)) q) ps p = row_keyword k q (meanings ps) p
headed (form s q) ps p = fail_with BadForm p

abbrev pub row_list : List Part → Place → Meaning
row_list [] p = fail_with BadForm p
row_list (h ∷ ps) p = headed h.form ps p

abbrev pub row_atom : Atom → Place → Meaning
row_atom nil_atom p = nothing
row_atom (bool_atom b) p = constant_value (bool b)
row_atom (int_atom z) p = constant_value (int z)
row_atom (text_atom s) p = written_text s p (constant_value (text s))
row_atom (key_atom s) p = written_text s p (constant_value (key s))
row_atom (symbol s) p = row_symbol s p

abbrev pub row_group : Bracket → List Part → Place → Meaning
row_group Round ps p = row_list ps p
row_group Square ps p = operation (Builtin Vector) (meanings ps) p
row_group Curly ps p = builtin_call HashMap (meanings ps) p

abbrev mutual
  pub walk : FormTree → Meaning
  walk (form s p) = walk_shape s p

  pub walk_shape : ShapeTree → Place → Meaning
  walk_shape (atom a) p = row_atom a p
  walk_shape (group b fs) p = counted (length (walked_parts fs)) p (row_group b (walked_parts fs) p)

  pub walked_parts : FormTrees → List Part
  walked_parts none = []
  walked_parts (item f fs) = record { form = f; means = walk f; within = within f } ∷ walked_parts fs

  pub within : FormTree → List Pair
  within (form s p) = within_shape s

  pub within_shape : ShapeTree → List Pair
  within_shape (atom a) = []
  within_shape (group b fs) = pairs fs

  pub pairs : FormTrees → List Pair
  pairs none = []
  pairs (item f fs) = record { form = f; means = walk f } ∷ pairs fs
