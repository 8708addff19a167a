-- The words of this crate's clauses.
pub use Rattle.std.specs.Prelude.{slice_index, length, IfOk, ℕ, List, [], None, OnOk, IfErr, drop, IfSome, true}
pub use Rattle.std.specs.List.{prefix_len, position_or_len, list_all}
pub use Rattle.std.specs.Str.Parse.{digits_value}
pub use Rattle.ca_value.specs.IsValue.{written}
pub use Rattle.ca_value.specs.Seq.{list}
pub use Rattle.ca_term.specs.declared.place.Place.{Place}
pub use Rattle.ca_reader.specs.Bytes.{is_separator, is_token_byte, is_digit, past}
pub use Rattle.ca_reader.specs.Form.{form, FormTrees, atom, group, none}
pub use Rattle.ca_reader.specs.Kind.{kind_name}
pub use Rattle.ca_reader.specs.NestView.{context, IsNest, TellsFault}
pub use Rattle.ca_reader.specs.PieceView.{first_cut_view, FirstFits, letter_view, LetterFits, atom_view, piece_view}
pub use Rattle.ca_reader.specs.Pieces.{first, bracket_first, comment_len, token, opener, pieces_step, pieces_from, text_first, token_first}
pub use Rattle.ca_reader.specs.Printed.{form_text, forms_text, opening, closing_bracket, ReadsAside}
pub use Rattle.ca_reader.specs.Reads.{outside, inside, piece_fault, closing_fault, end_fault, is_paired, same_bracket, form_count, Reads, ReadFault, IsFaultOf}
pub use Rattle.ca_reader.specs.Steps.{next, bracket_shut, with_form, innermost}
pub use Rattle.ca_reader.specs.Texts.{is_continuation, may_follow, char_len, letter, escape, text_step, text_cut}
pub use Rattle.ca_reader.specs.Tokens.{with_sign, unsigned, is_numeral, is_decimal, number, keyword, token_word, meaning}
pub use Rattle.ca_reader.specs.View.{form_tree, shape_tree, form_trees}
pub use Rattle.ca_reader.specs.Written.{AreWritten, HaveScalars}
pub use Rattle.ca_reader.specs.declared.error.ReadErrorKind.{ReadErrorKind}
