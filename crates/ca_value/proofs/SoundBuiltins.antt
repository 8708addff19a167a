-- Every builtin's result is regular where its arguments are, and is a value.
use Rattle.std.proofs.Common.{◌≡◌, ◌≤◌, pos, ◌+ℤ◌, ◌-ℤ◌, ◌*ℤ◌, Bool, true, false, List, [], ◌∷◌, Option, Some, None, Ok, Err, refl, subst, arith}
use Rattle.std.specs.Prelude.{nat_le, if◌then◌else◌, unwrap_or}
use Rattle.std.specs.Int.{int_min, int_max}
use Rattle.std.proofs.lemmas.Bool.Decides.{nat_tests}
use Rattle.ca_value.specs.declared.builtin.Builtin.{Builtin}
use Rattle.ca_value.specs.declared.fault.ValueFault.TheVariants.{TooHeavy, TooNested}
use Rattle.ca_value.specs.Tree.{Tree, Trees, nil, none, item, items_of}
use Rattle.ca_value.specs.Measure.{weight_of, depth_of}
use Rattle.ca_value.specs.IsValue.{Scalars, IsRegular, IsValue, AreValues}
use Rattle.ca_value.specs.Outcome.{Outcome, judged, of_one_argument, of_two_arguments, one_or_two, two_or_three, one_and_more}
use Rattle.ca_value.specs.Builtins.{answer, builtin_result}
use Rattle.ca_value.specs.Numbers.{in_range, folded_in_range, difference_of, quotient_of, remainder_of, modulus_of, preferred, worker_count_of}
use Rattle.ca_value.specs.Maps.{count_answer}
use Rattle.ca_value.proofs.SoundNumbers.{whole, number_sound, one_number, two_numbers, all_numbers, in_range_is, running_is, difference_is, quotient_is, remainder_is, modulus_is, least_is, greatest_is, count_is, worker_count_is}
use Rattle.ca_value.proofs.Sound.{AreSound, IsSoundOption, IsSound, truth_sound, trees_sound, unwrap_sound}
use Rattle.ca_value.proofs.SoundVectors.{appended_sound, nth_sound, first_sound, last_sound, popped_sound, subvec_sound, range_sound, part_sound}
use Rattle.ca_value.proofs.SoundMaps.{hash_map_sound, get_of_sound, assoc_sound, dissoc_sound, keys_sound, values_sound, walked_sound}

abbrev AreLight : List Tree → Type 0
AreLight [] = Unit {0}
AreLight (t ∷ ts) = (weight_of t ≤ 131072) × AreLight ts

module _ (w : Scalars) where
  one_sound : (ts : List Tree) (f : Tree → Outcome) → AreSound w ts → ((a : Tree) → IsRegular w a → IsSound w (f a)) → IsSound w (of_one_argument ts f)
  one_sound [] f s h = tt
  one_sound (a ∷ []) f s h = h a s.0
  one_sound (a ∷ b ∷ ts) f s h = tt

  one_sound_light : (ts : List Tree) (f : Tree → Outcome) → AreLight ts → ((a : Tree) → weight_of a ≤ 131072 → IsSound w (f a)) → IsSound w (of_one_argument ts f)
  one_sound_light [] f l h = tt
  one_sound_light (a ∷ []) f l h = h a l.0
  one_sound_light (a ∷ b ∷ ts) f l h = tt

  two_sound : (ts : List Tree) (f : Tree → Tree → Outcome) → AreSound w ts → ((a b : Tree) → IsRegular w a → IsRegular w b → IsSound w (f a b)) → IsSound w (of_two_arguments ts f)
  two_sound [] f s h = tt
  two_sound (a ∷ []) f s h = tt
  two_sound (a ∷ b ∷ []) f s h = h a b s.0 s.1.0
  two_sound (a ∷ b ∷ c ∷ ts) f s h = tt

  one_or_two_sound : (ts : List Tree) (f : Tree → Option Tree → Outcome) → AreSound w ts → ((a : Tree) (b : Option Tree) → IsRegular w a → IsSoundOption w b → IsSound w (f a b)) → IsSound w (one_or_two ts f)
  one_or_two_sound [] f s h = tt
  one_or_two_sound (a ∷ []) f s h = h a None s.0 tt
  one_or_two_sound (a ∷ b ∷ []) f s h = h a (Some b) s.0 s.1.0
  one_or_two_sound (a ∷ b ∷ c ∷ ts) f s h = tt

  two_or_three_sound : (ts : List Tree) (f : Tree → Tree → Option Tree → Outcome) → AreSound w ts →
      ((a b : Tree) (c : Option Tree) → IsRegular w a → IsSoundOption w c → IsSound w (f a b c)) → IsSound w (two_or_three ts f)
  two_or_three_sound [] f s h = tt
  two_or_three_sound (a ∷ []) f s h = tt
  two_or_three_sound (a ∷ b ∷ []) f s h = h a b None s.0 tt
  two_or_three_sound (a ∷ b ∷ c ∷ []) f s h = h a b (Some c) s.0 s.1.1.0
  two_or_three_sound (a ∷ b ∷ c ∷ d ∷ ts) f s h = tt

  one_and_more_sound : (ts : List Tree) (f : Tree → List Tree → Outcome) → AreSound w ts →
      ((a : Tree) (us : List Tree) → IsRegular w a → AreSound w us → IsSound w (f a us)) → IsSound w (one_and_more ts f)
  one_and_more_sound [] f s h = tt
  one_and_more_sound (a ∷ us) f s h = h a us s.0 s.1

  pub answer_sound : (b : Builtin) (ts : List Tree) → AreSound w ts → AreLight ts → IsSound w (answer b ts)
  answer_sound Builtin.Add ts s l = all_numbers w (folded_in_range ◌+ℤ◌ (pos 0)) ts s (λ zs i. running_is w ◌+ℤ◌ (pos 0) zs (whole w (pos 0) refl))
  answer_sound Builtin.Multiply ts s l = all_numbers w (folded_in_range ◌*ℤ◌ (pos 1)) ts s (λ zs i. running_is w ◌*ℤ◌ (pos 1) zs (whole w (pos 1) refl))
  answer_sound Builtin.Subtract ts s l = all_numbers w difference_of ts s (λ zs i. difference_is w zs i)
  answer_sound Builtin.Inc ts s l = one_sound ts _ s (λ a p. one_number w (λ z. in_range (z +ℤ pos 1)) a p (λ z i. in_range_is w (z +ℤ pos 1)))
  answer_sound Builtin.Dec ts s l = one_sound ts _ s (λ a p. one_number w (λ z. in_range (z -ℤ pos 1)) a p (λ z i. in_range_is w (z -ℤ pos 1)))
  answer_sound Builtin.Quot ts s l = two_sound ts _ s (λ a b p q. two_numbers w quotient_of a b p q (λ x y i j. quotient_is w x y))
  answer_sound Builtin.Rem ts s l = two_sound ts _ s (λ a b p q. two_numbers w remainder_of a b p q (λ x y i j. remainder_is w x y i))
  answer_sound Builtin.Mod ts s l = two_sound ts _ s (λ a b p q. two_numbers w modulus_of a b p q (λ x y i j. modulus_is w x y i j))
  answer_sound Builtin.Equal ts s l = one_and_more_sound ts _ s (λ a us p q. tt)
  answer_sound Builtin.NotEqual ts s l = one_and_more_sound ts _ s (λ a us p q. tt)
  answer_sound Builtin.Less ts s l = truth_sound w _
  answer_sound Builtin.Greater ts s l = truth_sound w _
  answer_sound Builtin.LessOrEqual ts s l = truth_sound w _
  answer_sound Builtin.GreaterOrEqual ts s l = truth_sound w _
  answer_sound Builtin.Min ts s l = all_numbers w (preferred int_min) ts s (λ zs i. least_is w zs i)
  answer_sound Builtin.Max ts s l = all_numbers w (preferred int_max) ts s (λ zs i. greatest_is w zs i)
  answer_sound Builtin.Not ts s l = one_sound ts _ s (λ a p. tt)
  answer_sound Builtin.IsNil ts s l = one_sound ts _ s (λ a p. tt)
  answer_sound Builtin.IsSome ts s l = one_sound ts _ s (λ a p. tt)
  answer_sound Builtin.IsTrue ts s l = one_sound ts _ s (λ a p. tt)
  answer_sound Builtin.IsFalse ts s l = one_sound ts _ s (λ a p. tt)
  answer_sound Builtin.IsZero ts s l = one_sound ts _ s (λ a p. truth_sound w _)
  answer_sound Builtin.IsPos ts s l = one_sound ts _ s (λ a p. truth_sound w _)
  answer_sound Builtin.IsNeg ts s l = one_sound ts _ s (λ a p. truth_sound w _)
  answer_sound Builtin.IsEven ts s l = one_sound ts _ s (λ a p. truth_sound w _)
  answer_sound Builtin.IsOdd ts s l = one_sound ts _ s (λ a p. truth_sound w _)
  answer_sound Builtin.Str ts s l = tt
  answer_sound Builtin.Vector ts s l = trees_sound w ts s
  answer_sound Builtin.HashMap ts s l = hash_map_sound w ts s
  answer_sound Builtin.Conj ts s l = one_and_more_sound ts _ s (λ a us p q. appended_sound w a us p q)
  answer_sound Builtin.Nth ts s l = two_or_three_sound ts _ s (λ c i d p q. nth_sound w c i d p q)
  answer_sound Builtin.Get ts s l = two_or_three_sound ts _ s (λ c k d p q. get_of_sound w c k (unwrap_or d nil) p (unwrap_sound w d nil q tt))
  answer_sound Builtin.Count ts s l = one_sound_light ts _ l (λ a h. number_sound w (count_answer a) (count_is w a h))
  answer_sound Builtin.IsEmpty ts s l = one_sound ts _ s (λ a p. truth_sound w _)
  answer_sound Builtin.First ts s l = one_sound ts _ s (λ a p. first_sound w a p)
  answer_sound Builtin.Last ts s l = one_sound ts _ s (λ a p. last_sound w a p)
  answer_sound Builtin.Peek ts s l = one_sound ts _ s (λ a p. last_sound w a p)
  answer_sound Builtin.Pop ts s l = one_sound ts _ s (λ a p. popped_sound w a p)
  answer_sound Builtin.Subvec ts s l = two_or_three_sound ts _ s (λ c b e p q. subvec_sound w c b e p)
  answer_sound Builtin.Assoc ts s l = one_and_more_sound ts _ s (λ a us p q. assoc_sound w a us p q)
  answer_sound Builtin.Dissoc ts s l = one_and_more_sound ts _ s (λ a us p q. dissoc_sound w a us p)
  answer_sound Builtin.Keys ts s l = one_sound ts _ s (λ a p. keys_sound w a p)
  answer_sound Builtin.Vals ts s l = one_sound ts _ s (λ a p. values_sound w a p)
  answer_sound Builtin.Contains ts s l = two_sound ts _ s (λ a b p q. truth_sound w _)
  answer_sound Builtin.Range ts s l = one_or_two_sound ts _ s (λ a b p q. range_sound w a b p q)
  answer_sound Builtin.Part ts s l = two_sound ts _ s (λ a b p q. part_sound w a b p)
  answer_sound Builtin.Items ts s l = one_sound ts _ s (λ a p. walked_sound w a p)
  answer_sound Builtin.WorkerCount ts s l = one_sound ts _ s (λ a p. one_number w worker_count_of a p (λ z i. worker_count_is w z))

  -- a judged result is a value
  within_limits : (u t : Tree) (b c : Bool) → nat_le (weight_of u) 65536 ≡ b → nat_le (depth_of u) 64 ≡ c → IsRegular w u →
      ◌≡◌ {A = Outcome} (if b then (if c then Ok u else Err TooNested) else Err TooHeavy) (Ok t) → IsValue w t
  within_limits u t true true p q s e =
      let same : u ≡ t = cc in
      let P : Tree → Type 0 = λ v. IsValue w v in
      subst P same (record { regular = s; light = grind (arith, nat_tests); shallow = grind (arith, nat_tests) })
  within_limits u t true false p q s e = cc
  within_limits u t false c p q s e = cc

  judged_value : (o : Outcome) (t : Tree) → IsSound w o → judged o ≡ Ok t → IsValue w t
  judged_value (Ok u) t s e = within_limits u t (nat_le (weight_of u) 65536) (nat_le (depth_of u) 64) refl refl s e
  judged_value (Err f) t s e = cc

  values_sound_list : (ts : Trees) → AreValues w ts → AreSound w (items_of ts)
  values_sound_list none v = tt
  values_sound_list (item t ts) v = (v.0.regular, values_sound_list ts v.1)

  values_light : (ts : Trees) → AreValues w ts → AreLight (items_of ts)
  values_light none v = tt
  values_light (item t ts) v = (v.0.light, values_light ts v.1)

  pub result_is_value : (b : Builtin) (ts : Trees) (t : Tree) → AreValues w ts → builtin_result b ts ≡ Ok t → IsValue w t
  unfolding builtin_result
  result_is_value b ts t v e = judged_value (answer b (items_of ts)) t (answer_sound b (items_of ts) (values_sound_list ts v) (values_light ts v)) e
