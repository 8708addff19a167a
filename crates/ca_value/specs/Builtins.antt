-- The builtins: what each one answers, by its arguments. Each row names the entry of the Clojure
-- reference (clojure.core) that it follows; `part`, `items` and `worker-count` are our own.
use Rattle.std.specs.Prelude.{ℕ, pos, ◌+ℤ◌, ◌-ℤ◌, ◌*ℤ◌, int_lt, int_le, Bool, true, false, not, ◌&&◌, ◌==◌, ◌%◌, nat_le, List, [], unwrap_or, Ok}
use Rattle.std.specs.Int.{int_min, int_max}
use Rattle.ca_value.specs.declared.builtin.Builtin.{Builtin}
use Rattle.ca_value.specs.Tree.{Tree, Trees, nil, bool, text, items_of}
use Rattle.ca_value.specs.Outcome.{Outcome, number_outcome, truth_outcome, judged, of_one_argument, of_two_arguments, one_or_two, two_or_three, one_and_more}
use Rattle.ca_value.specs.Kinds.{with_integer, with_two, with_integers, vector_from, map_from}
use Rattle.ca_value.specs.Numbers.{in_range, folded_in_range, difference_of, is_zero, is_even, quotient_of, remainder_of, modulus_of, preferred, are_in_order, worker_count_of}
use Rattle.ca_value.specs.Texts.{joined_text}
use Rattle.ca_value.specs.Tests.{is_falsy, is_nil_tree, is_the_bool, all_equal}
use Rattle.ca_value.specs.Vectors.{appended, nth_of, first_item, item_at_end, popped, subvec_of, range_of, item_at_index}
use Rattle.ca_value.specs.Maps.{put_all, paired, get_of, contains_of, count_answer, is_empty_of, assoc_of, dissoc_of, keys_of, values_of_map, walked}

abbrev pub answer : Builtin → List Tree → Outcome
-- + * -
answer Builtin.Add ts = number_outcome (with_integers (folded_in_range ◌+ℤ◌ (pos 0)) ts)
answer Builtin.Multiply ts = number_outcome (with_integers (folded_in_range ◌*ℤ◌ (pos 1)) ts)
answer Builtin.Subtract ts = number_outcome (with_integers difference_of ts)
-- inc dec
answer Builtin.Inc ts = of_one_argument ts (λ a. number_outcome (with_integer (λ z. in_range (z +ℤ pos 1)) a))
answer Builtin.Dec ts = of_one_argument ts (λ a. number_outcome (with_integer (λ z. in_range (z -ℤ pos 1)) a))
-- quot rem mod
answer Builtin.Quot ts = of_two_arguments ts (λ a b. number_outcome (with_two quotient_of a b))
answer Builtin.Rem ts = of_two_arguments ts (λ a b. number_outcome (with_two remainder_of a b))
answer Builtin.Mod ts = of_two_arguments ts (λ a b. number_outcome (with_two modulus_of a b))
-- = not=
answer Builtin.Equal ts = one_and_more ts (λ a us. Ok (bool (all_equal a us)))
answer Builtin.NotEqual ts = one_and_more ts (λ a us. Ok (bool (not (all_equal a us))))
-- < > <= >=
answer Builtin.Less ts = truth_outcome (with_integers (are_in_order int_lt) ts)
answer Builtin.Greater ts = truth_outcome (with_integers (are_in_order (λ x y. int_lt y x)) ts)
answer Builtin.LessOrEqual ts = truth_outcome (with_integers (are_in_order int_le) ts)
answer Builtin.GreaterOrEqual ts = truth_outcome (with_integers (are_in_order (λ x y. int_le y x)) ts)
-- min max
answer Builtin.Min ts = number_outcome (with_integers (preferred int_min) ts)
answer Builtin.Max ts = number_outcome (with_integers (preferred int_max) ts)
-- not nil? some? true? false?
answer Builtin.Not ts = of_one_argument ts (λ a. Ok (bool (is_falsy a)))
answer Builtin.IsNil ts = of_one_argument ts (λ a. Ok (bool (is_nil_tree a)))
answer Builtin.IsSome ts = of_one_argument ts (λ a. Ok (bool (not (is_nil_tree a))))
answer Builtin.IsTrue ts = of_one_argument ts (λ a. Ok (bool (is_the_bool true a)))
answer Builtin.IsFalse ts = of_one_argument ts (λ a. Ok (bool (is_the_bool false a)))
-- zero? pos? neg? even? odd?
answer Builtin.IsZero ts = of_one_argument ts (λ a. truth_outcome (with_integer (λ z. Ok (is_zero z)) a))
answer Builtin.IsPos ts = of_one_argument ts (λ a. truth_outcome (with_integer (λ z. Ok (int_lt (pos 0) z)) a))
answer Builtin.IsNeg ts = of_one_argument ts (λ a. truth_outcome (with_integer (λ z. Ok (int_lt z (pos 0))) a))
answer Builtin.IsEven ts = of_one_argument ts (λ a. truth_outcome (with_integer (λ z. Ok (is_even z)) a))
answer Builtin.IsOdd ts = of_one_argument ts (λ a. truth_outcome (with_integer (λ z. Ok (not (is_even z))) a))
-- str vector hash-map
answer Builtin.Str ts = Ok (text (joined_text ts))
answer Builtin.Vector ts = Ok (vector_from ts)
answer Builtin.HashMap ts = Ok (map_from (put_all [] (paired ts)))
-- conj nth get
answer Builtin.Conj ts = one_and_more ts appended
answer Builtin.Nth ts = two_or_three ts nth_of
answer Builtin.Get ts = two_or_three ts (λ c k d. get_of c k (unwrap_or d nil))
-- count empty?
answer Builtin.Count ts = of_one_argument ts (λ c. number_outcome (count_answer c))
answer Builtin.IsEmpty ts = of_one_argument ts (λ c. truth_outcome (is_empty_of c))
-- first last peek pop subvec
answer Builtin.First ts = of_one_argument ts first_item
answer Builtin.Last ts = of_one_argument ts item_at_end
answer Builtin.Peek ts = of_one_argument ts item_at_end
answer Builtin.Pop ts = of_one_argument ts popped
answer Builtin.Subvec ts = two_or_three ts subvec_of
-- assoc dissoc keys vals contains?
answer Builtin.Assoc ts = one_and_more ts assoc_of
answer Builtin.Dissoc ts = one_and_more ts dissoc_of
answer Builtin.Keys ts = of_one_argument ts keys_of
answer Builtin.Vals ts = of_one_argument ts values_of_map
answer Builtin.Contains ts = of_two_arguments ts (λ c k. truth_outcome (contains_of c k))
-- range
answer Builtin.Range ts = one_or_two ts range_of
-- part items worker-count
answer Builtin.Part ts = of_two_arguments ts item_at_index
answer Builtin.Items ts = of_one_argument ts walked
answer Builtin.WorkerCount ts = of_one_argument ts (λ a. number_outcome (with_integer worker_count_of a))

-- the value or the fault of a builtin: a result that is too heavy or too nested is a fault. It opens
-- only where a proof says so, since callers rarely know which builtin it is
unfoldable pub builtin_result : Builtin → Trees → Outcome
builtin_result b ts = judged (answer b (items_of ts))

-- the numbers of arguments that each builtin takes
abbrev pub admits_arguments : Builtin → ℕ → Bool
admits_arguments Builtin.Add n = true
admits_arguments Builtin.Multiply n = true
admits_arguments Builtin.Str n = true
admits_arguments Builtin.Vector n = true
admits_arguments Builtin.HashMap n = n % 2 == 0
admits_arguments Builtin.Subtract n = nat_le 1 n
admits_arguments Builtin.Equal n = nat_le 1 n
admits_arguments Builtin.NotEqual n = nat_le 1 n
admits_arguments Builtin.Less n = nat_le 1 n
admits_arguments Builtin.Greater n = nat_le 1 n
admits_arguments Builtin.LessOrEqual n = nat_le 1 n
admits_arguments Builtin.GreaterOrEqual n = nat_le 1 n
admits_arguments Builtin.Min n = nat_le 1 n
admits_arguments Builtin.Max n = nat_le 1 n
admits_arguments Builtin.Conj n = nat_le 2 n
admits_arguments Builtin.Assoc n = nat_le 3 n && n % 2 == 1
admits_arguments Builtin.Dissoc n = nat_le 1 n
admits_arguments Builtin.Quot n = n == 2
admits_arguments Builtin.Rem n = n == 2
admits_arguments Builtin.Mod n = n == 2
admits_arguments Builtin.Contains n = n == 2
admits_arguments Builtin.Part n = n == 2
admits_arguments Builtin.Range n = nat_le 1 n && nat_le n 2
admits_arguments Builtin.Nth n = nat_le 2 n && nat_le n 3
admits_arguments Builtin.Get n = nat_le 2 n && nat_le n 3
admits_arguments Builtin.Subvec n = nat_le 2 n && nat_le n 3
admits_arguments b n = n == 1
