-- The loop of `read`, turn by turn.
use Rattle.std.proofs.Common.{refl, ◌≡◌, ℕ, ◌+◌, ◌≤◌, List, length, take, drop, sym, ◌∙◌, ap, arith, None, Result, Ok, Err}
use Rattle.std.specs.Prelude.{IfOk, OnOk, IfErr}
use Rattle.std.proofs.lemmas.Grind.{common_steps}
use Rattle.ca_value.specs.Seq.{list}
use Rattle.ca_value.specs.declared.seq.Seq.{Seq}
use Rattle.ca_term.specs.declared.place.Place.{Place}
use Rattle.ca_reader.specs.declared.form.Form.{Form}
use Rattle.ca_reader.specs.declared.error.ReadErrorKind.{ReadErrorKind}
use Rattle.ca_reader.specs.declared.error.ReadError.{ReadError}
use Rattle.ca_reader.specs.declared.error.ReadError.TheVariants.{Fault, OutOfMemory}
use Rattle.ca_reader.specs.View.{form_trees}
use Rattle.ca_reader.specs.Bytes.{past}
use Rattle.ca_reader.specs.Pieces.{Piece, over, blank, found, wrong, first, pieces_from}
use Rattle.ca_reader.specs.Reads.{Context, Reads, ReadFault, IsFaultOf, end_fault, piece_fault}
use Rattle.ca_reader.specs.Printed.{ReadsAside}
use Rattle.ca_reader.specs.Steps.{next, innermost}
use Rattle.ca_reader.specs.NestView.{TellsFault}
use Rattle.ca_reader.proofs.Cuts.{slice_from, slice_from_is}
use Rattle.ca_reader.proofs.Nesting.{unless, go, answer, reads_answer, faults_answer}
use Rattle.ca_reader.proofs.Readings.{go_over, go_blank, go_wrong, go_found, go_refused}

-- the rest of the script from a place on, in a context, reads as the whole script
abbrev pub Goes : List ℕ → Place → List ℕ → Context → Type 0
Goes bytes p rest c = go (pieces_from p rest) c ≡ answer bytes

pub turn_blank : (bytes : List ℕ) (p q : Place) (rest : List ℕ) (c : Context) (m : ℕ) → Goes bytes p rest c → blank m ≡ first rest → q ≡ past p (take m rest) → Goes bytes q (slice_from rest m) c
turn_blank bytes p q rest c m g e h =
    ap (λ (bs : List ℕ). go (pieces_from q bs) c) (slice_from_is rest m)
    ∙ ap (λ (x : Place). go (pieces_from x (drop m rest)) c) h
    ∙ sym (go_blank p rest c m e) ∙ g

pub turn_found : (bytes : List ℕ) (p q : Place) (rest : List ℕ) (c d : Context) (x : Piece) (m : ℕ) → Goes bytes p rest c → found x m ≡ first rest → q ≡ past p (take m rest) → piece_fault c x p ≡ None → d ≡ next c x p → Goes bytes q (slice_from rest m) d
turn_found bytes p q rest c d x m g e h n s =
    ap (λ (bs : List ℕ). go (pieces_from q bs) d) (slice_from_is rest m)
    ∙ ap (λ (y : Place). go (pieces_from y (drop m rest)) d) h
    ∙ ap (go (pieces_from (past p (take m rest)) (drop m rest))) s
    ∙ sym (go_found p rest c x m e n) ∙ g

pub turn_bound : (rest : List ℕ) (m x p most : ℕ) → p + length rest ≤ most → m ≤ length rest → x ≤ p + length (take m rest) → x + length (slice_from rest m) ≤ most
turn_bound rest m x p most h k l = grind (arith, common_steps)

pub turn_refused : (bytes : List ℕ) (p : Place) (rest : List ℕ) (c : Context) (x : Piece) (m : ℕ) (error : ReadError) → Goes bytes p rest c → found x m ≡ first rest → TellsFault error (piece_fault c x p) → IsFaultOf bytes error
turn_refused bytes p rest c x m (Fault k q) g e t = faults_answer bytes k q (sym g ∙ go_refused p rest c x m (k, q) e t)
turn_refused bytes p rest c x m OutOfMemory g e t = tt

pub turn_wrong : (bytes : List ℕ) (p q : Place) (rest : List ℕ) (c : Context) (k : ReadErrorKind) (m : ℕ) → Goes bytes p rest c → wrong k m ≡ first rest → q ≡ past p (take m rest) → ReadFault bytes k q
turn_wrong bytes p q rest c k m g e h =
    faults_answer bytes k q (sym g ∙ go_wrong p rest c k m e ∙ ap (λ (x : Place). Err (k, x)) (sym h))

pub end_reads : (bytes : List ℕ) (p : Place) (rest : List ℕ) (c : Context) (r : Result (Seq Form) ReadError) → Goes bytes p rest c → over ≡ first rest → IfOk r (λ fs. form_trees (list fs) ≡ innermost c) → OnOk r (end_fault c ≡ None) → IfOk r (λ fs. Reads bytes (form_trees (list fs)))
end_reads bytes p rest c (Ok fs) g e h n =
    reads_answer bytes (form_trees (list fs)) (sym g ∙ go_over p rest c e ∙ ap (λ o. unless o (Ok (innermost c))) n ∙ ap Ok (sym h))
end_reads bytes p rest c (Err error) g e h n = tt

pub end_faults : (bytes : List ℕ) (p : Place) (rest : List ℕ) (c : Context) (r : Result (Seq Form) ReadError) → Goes bytes p rest c → over ≡ first rest → IfErr r (λ error. TellsFault error (end_fault c)) → IfErr r (λ error. IsFaultOf bytes error)
end_faults bytes p rest c (Ok fs) g e t = tt
end_faults bytes p rest c (Err (Fault k q)) g e t =
    faults_answer bytes k q (sym g ∙ go_over p rest c e ∙ ap (λ o. unless o (Ok (innermost c))) t)
end_faults bytes p rest c (Err OutOfMemory) g e t = tt

pub end_prints : (bytes : List ℕ) (r : Result (Seq Form) ReadError) → IfOk r (λ fs. Reads bytes (form_trees (list fs))) → IfOk r (λ fs. (text : List ℕ) × ReadsAside text (form_trees (list fs)))
end_prints bytes (Ok fs) h = (bytes, (form_trees (list fs), h, refl))
end_prints bytes (Err e) h = tt
