-- What an operation comes to once its operands are values, which is `ca_term`'s.
pub use Rattle.ca_term.specs.Asking.{task_fault, fault_in, too_large, not_a_vector, too_large_branch, too_large_branches, alts_ports, bad_branches, priority_in, default_in, too_large_default, bad_alts, alts_of, ranged, buffered, sized, made_of, not_a_port, bad_collection, bad_operands, seed_of, is_key_named, is_solo_mode, is_mode, is_bool, are_modes, is_modes, all_modes, is_toggling, unless_kind, bad_arguments}
