-- Lists that are taken from their end.
use Rattle.std.proofs.Common.{◌≡◌, ◌∙◌, ℕ, suc, ◌+◌, ◌<◌, List, [], ◌∷◌, ◌++◌, length, get_or, refl, ap, subst, arith}
use Rattle.std.specs.Prelude.{All, Option, Some, None, IfSome, option_to_list}
use Rattle.ca_turns.specs.Places.{total}
use Rattle.ca_turns.proofs.Lists.{total-snoc}

module _ {A : Type 0} where
  -- what is true of each is true of the one that was taken
  pub last_is : (P : A → Type 0) (all xs ys zs : List A) (x : A) → all ≡ xs ++ zs → xs ≡ ys ++ x ∷ [] → All P all → P x
  last_is P all xs ys zs x e f h = subst P (at ys zs) (subst (All P) (e ∙ ap (λ l. l ++ zs) f) h (length ys) x (near ys zs))
    where
      at : (ys zs : List A) → get_or ((ys ++ x ∷ []) ++ zs) (length ys) x ≡ x
      at [] zs = refl
      at (y ∷ ys) zs = at ys zs

      near : (ys zs : List A) → length ys < length ((ys ++ x ∷ []) ++ zs)
      near [] zs = omega arith
      near (y ∷ ys) zs = let h = near ys zs in omega arith

  -- one more was taken
  pub rest_grows : (all xs ys zs : List A) (x : A) → all ≡ xs ++ zs → xs ≡ ys ++ x ∷ [] → all ≡ ys ++ (x ∷ zs)
  rest_grows all xs ys zs x e f = e ∙ ap (λ l. l ++ zs) f ∙ shift ys
    where
      shift : (ys : List A) → (ys ++ x ∷ []) ++ zs ≡ ys ++ (x ∷ zs)
      shift [] = refl
      shift (y ∷ ys) = ap (λ l. y ∷ l) (shift ys)

  -- the same where one more may have been taken
  pub maybe_is : (P : A → Type 0) (all xs zs ys : List A) (r : Option A) → all ≡ xs ++ zs → xs ≡ ys ++ option_to_list r → All P all → IfSome r P
  maybe_is P all xs zs ys None e f h = tt
  maybe_is P all xs zs ys (Some x) e f h = last_is P all xs ys zs x e f h

  pub maybe_grows : (all xs zs ys : List A) (r : Option A) → all ≡ xs ++ zs → xs ≡ ys ++ option_to_list r → all ≡ ys ++ (option_to_list r ++ zs)
  maybe_grows all xs zs ys None e f = e ∙ ap (λ l. l ++ zs) (f ∙ ends ys)
    where
      ends : (ys : List A) → ys ++ [] ≡ ys
      ends [] = refl
      ends (y ∷ ys) = ap (λ l. y ∷ l) (ends ys)
  maybe_grows all xs zs ys (Some x) e f = rest_grows all xs ys zs x e f

  pub total_less : (f : A → ℕ) (xs ys : List A) (x : A) → xs ≡ ys ++ x ∷ [] → total f xs ≡ total f ys + f x
  total_less f xs ys x e = ap (total f) e ∙ total-snoc f ys x

  pub total_maybe : (f : A → ℕ) (xs ys : List A) (r : Option A) → xs ≡ ys ++ option_to_list r → total f xs ≡ total f ys + total f (option_to_list r)
  total_maybe f xs ys None e = ap (total f) (e ∙ ends ys) ∙ (omega arith)
    where
      ends : (ys : List A) → ys ++ [] ≡ ys
      ends [] = refl
      ends (y ∷ ys) = ap (λ l. y ∷ l) (ends ys)
  total_maybe f xs ys (Some x) e = let a = total_less f xs ys x e in omega arith

  -- what is counted alike of each is alike of all
  pub total_alike : (f : A → ℕ) (xs ys : List A) → length ys ≡ length xs → ((k : ℕ) (d : A) → k < length xs → f (get_or ys k d) ≡ f (get_or xs k d)) → total f ys ≡ total f xs
  total_alike f [] [] e h = refl
  total_alike f [] (y ∷ ys) e h = absurd (omega arith)
  total_alike f (x ∷ xs) [] e h = absurd (omega arith)
  total_alike f (x ∷ xs) (y ∷ ys) e h = let a : f y ≡ f x = h 0 x (omega arith) in let b = total_alike f xs ys (omega arith) (λ k d m. h (suc k) d (omega arith)) in omega arith

  -- one of each
  pub total_each : (f : A → ℕ) (xs : List A) → All (λ x. f x ≡ 1) xs → total f xs ≡ length xs
  total_each f [] h = refl
  total_each f (x ∷ xs) h = let a : f x ≡ 1 = h 0 x (omega arith) in let b = total_each f xs (λ k d m. h (suc k) d (omega arith)) in omega arith

-- what a relation of each old value to the new one at its place carries over
pub carried : {A : Type 0} (R : A → A → Type 0) (P Q : A → Type 0) → ((x y : A) → R x y → P x → Q y) → (xs ys : List A) → length ys ≡ length xs → ((k : ℕ) (d : A) → k < length xs → R (get_or xs k d) (get_or ys k d)) → All P xs → All Q ys
carried R P Q f xs ys e r all k d h = let h' : k < length xs = subst (λ n. k < n) e h in f (get_or xs k d) (get_or ys k d) (r k d h') (all k d h')
