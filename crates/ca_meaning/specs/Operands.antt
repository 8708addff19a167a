-- Values as operands, which are `ca_term`'s.
pub use Rattle.ca_term.specs.Operands.{value_of, values_of, or_else, port_of_value, is_nil, truth, first_of, rest_of, operand_at, second_of, third_of, last_of, without_last, count_of, is_pair, values_in}
