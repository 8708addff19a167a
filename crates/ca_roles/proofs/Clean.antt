-- A builtin's result has no port that its arguments don't have.
use Rattle.std.proofs.Common.{List, [], Bool, true, false, if◌then◌else◌, nat_le, Option, Some, None, unwrap_or}
use Rattle.std.specs.Prelude.{Ok, Err}
use Rattle.ca_value.specs.declared.builtin.Builtin.{Builtin}
use Rattle.ca_value.specs.declared.fault.ValueFault.{ValueFault}
use Rattle.ca_value.specs.Tree.{Tree, Trees, nil, items_of}
use Rattle.ca_value.specs.Measure.{weight_of, depth_of}
use Rattle.ca_value.specs.Outcome.{Outcome, judged}
use Rattle.ca_value.specs.Vectors.{appended, nth_of, first_item, item_at_end, popped, subvec_of, range_of, item_at_index}
use Rattle.ca_value.specs.Maps.{put_all, paired, assoc_of, dissoc_of, keys_of, values_of_map, walked}
use Rattle.ca_value.specs.Builtins.{answer, builtin_result}
use Rattle.ca_meaning.specs.Body.{value_in}
use Rattle.ca_roles.specs.Roles.{Roles, IsPublic, ArePublic}
use Rattle.ca_roles.proofs.PublicParts.{AllPublic, DefaultPublic, GivesPublic, items_public, trees_public, pairs_public, number_gives, truth_gives, one_gives, two_gives, one_or_two_gives, two_or_three_gives, more_gives}
use Rattle.ca_roles.proofs.PublicVectors.{appended_gives, first_gives, last_gives, nth_gives, part_gives, popped_gives, range_gives, subvec_gives}
use Rattle.ca_roles.proofs.PublicMaps.{assoc_gives, dissoc_gives, get_gives, halves_gives, paired_public, put_all_public, walked_gives}

module _ (roles : Roles) where
  judged_gives : (o : Outcome) → GivesPublic roles o → GivesPublic roles (judged o)
  judged_gives (Ok t) h = by (nat_le (weight_of t) 65536) (nat_le (depth_of t) 64) where
    by : (a b : Bool) → GivesPublic roles (if a then (if b then Ok t else Err ValueFault.TooNested) else Err ValueFault.TooHeavy)
    by true true = h
    by true false = tt
    by false b = tt
  judged_gives (Err f) h = tt

  answer_gives : (b : Builtin) (ts : List Tree) → AllPublic roles ts → GivesPublic roles (answer b ts)
  answer_gives Builtin.Add ts h = number_gives roles _
  answer_gives Builtin.Multiply ts h = number_gives roles _
  answer_gives Builtin.Subtract ts h = number_gives roles _
  answer_gives Builtin.Inc ts h = one_gives roles ts _ h (λ a k. number_gives roles _)
  answer_gives Builtin.Dec ts h = one_gives roles ts _ h (λ a k. number_gives roles _)
  answer_gives Builtin.Quot ts h = two_gives roles ts _ h (λ a b k l. number_gives roles _)
  answer_gives Builtin.Rem ts h = two_gives roles ts _ h (λ a b k l. number_gives roles _)
  answer_gives Builtin.Mod ts h = two_gives roles ts _ h (λ a b k l. number_gives roles _)
  answer_gives Builtin.Equal ts h = more_gives roles ts _ h (λ a us k l. tt)
  answer_gives Builtin.NotEqual ts h = more_gives roles ts _ h (λ a us k l. tt)
  answer_gives Builtin.Less ts h = truth_gives roles _
  answer_gives Builtin.Greater ts h = truth_gives roles _
  answer_gives Builtin.LessOrEqual ts h = truth_gives roles _
  answer_gives Builtin.GreaterOrEqual ts h = truth_gives roles _
  answer_gives Builtin.Min ts h = number_gives roles _
  answer_gives Builtin.Max ts h = number_gives roles _
  answer_gives Builtin.Not ts h = one_gives roles ts _ h (λ a k. tt)
  answer_gives Builtin.IsNil ts h = one_gives roles ts _ h (λ a k. tt)
  answer_gives Builtin.IsSome ts h = one_gives roles ts _ h (λ a k. tt)
  answer_gives Builtin.IsTrue ts h = one_gives roles ts _ h (λ a k. tt)
  answer_gives Builtin.IsFalse ts h = one_gives roles ts _ h (λ a k. tt)
  answer_gives Builtin.IsZero ts h = one_gives roles ts _ h (λ a k. truth_gives roles _)
  answer_gives Builtin.IsPos ts h = one_gives roles ts _ h (λ a k. truth_gives roles _)
  answer_gives Builtin.IsNeg ts h = one_gives roles ts _ h (λ a k. truth_gives roles _)
  answer_gives Builtin.IsEven ts h = one_gives roles ts _ h (λ a k. truth_gives roles _)
  answer_gives Builtin.IsOdd ts h = one_gives roles ts _ h (λ a k. truth_gives roles _)
  answer_gives Builtin.Str ts h = tt
  answer_gives Builtin.Vector ts h = trees_public roles ts h
  answer_gives Builtin.HashMap ts h = pairs_public roles (put_all [] (paired ts)) (put_all_public roles [] (paired ts) tt (paired_public roles ts h))
  answer_gives Builtin.Conj ts h = more_gives roles ts appended h (appended_gives roles)
  answer_gives Builtin.Nth ts h = two_or_three_gives roles ts nth_of h (nth_gives roles)
  answer_gives Builtin.Get ts h = two_or_three_gives roles ts _ h (λ c k d hc hk hd. get_gives roles c k (unwrap_or d nil) hc (default d hd)) where
    default : (d : Option Tree) → DefaultPublic roles d → IsPublic roles (unwrap_or d nil)
    default None k = tt
    default (Some v) k = k
  answer_gives Builtin.Count ts h = one_gives roles ts _ h (λ a k. number_gives roles _)
  answer_gives Builtin.IsEmpty ts h = one_gives roles ts _ h (λ a k. truth_gives roles _)
  answer_gives Builtin.First ts h = one_gives roles ts first_item h (first_gives roles)
  answer_gives Builtin.Last ts h = one_gives roles ts item_at_end h (last_gives roles)
  answer_gives Builtin.Peek ts h = one_gives roles ts item_at_end h (last_gives roles)
  answer_gives Builtin.Pop ts h = one_gives roles ts popped h (popped_gives roles)
  answer_gives Builtin.Subvec ts h = two_or_three_gives roles ts subvec_of h (λ c s e hc hs he. subvec_gives roles c s e hc)
  answer_gives Builtin.Assoc ts h = more_gives roles ts assoc_of h (assoc_gives roles)
  answer_gives Builtin.Dissoc ts h = more_gives roles ts dissoc_of h (λ c ks k l. dissoc_gives roles c ks k)
  answer_gives Builtin.Keys ts h = one_gives roles ts keys_of h (halves_gives roles _ (λ p k. k.0))
  answer_gives Builtin.Vals ts h = one_gives roles ts values_of_map h (halves_gives roles _ (λ p k. k.1))
  answer_gives Builtin.Contains ts h = two_gives roles ts _ h (λ a b k l. truth_gives roles _)
  answer_gives Builtin.Range ts h = one_or_two_gives roles ts range_of h (range_gives roles)
  answer_gives Builtin.Part ts h = two_gives roles ts item_at_index h (part_gives roles)
  answer_gives Builtin.Items ts h = one_gives roles ts walked h (walked_gives roles)
  answer_gives Builtin.WorkerCount ts h = one_gives roles ts _ h (λ a k. number_gives roles _)

  in_gives : (o : Outcome) → GivesPublic roles o → IsPublic roles (value_in o)
  in_gives (Ok v) h = h
  in_gives (Err f) h = tt

-- a builtin's result has no port that its arguments don't have
pub builtins_make_no_ports : (roles : Roles) (b : Builtin) (vs : Trees) → ArePublic roles vs → IsPublic roles (value_in (builtin_result b vs))
unfolding builtin_result
builtins_make_no_ports roles b vs h = in_gives roles (judged (answer b (items_of vs))) (judged_gives roles (answer b (items_of vs)) (answer_gives roles b (items_of vs) (items_public roles vs h)))
