-- One turn of each loop.
use Rattle.std.proofs.Common.{◌≡◌, ℕ, zero, suc, ◌-◌, ◌<◌, List, [], ◌∷◌, ◌++◌, drop, length, refl, sym, ap, ap₂, ◌∙◌, arith, Option, Some, Err, Bool, true, false, cond, ◌==◌, ne_eqb, map}
use Rattle.ca_value.specs.Tree.{Tree}
use Rattle.ca_value.specs.Maps.{put_pair}
use Rattle.ca_journal_reader.specs.declared.refused.Refused.{Refused}
use Rattle.ca_journal_reader.specs.Found.{Found, then, Finds, FindsAtEnd}
use Rattle.ca_journal_reader.specs.Words.{unspaced, is_first}
use Rattle.ca_journal_reader.specs.ValueText.{unescaped, text_from, items_read, uncomma, pair_in, pairs_read, value_by, value_read, scalar_in, vector_in, map_in}
use Rattle.ca_journal_reader.specs.FieldText.{list_in, and_rest, arguments_parted}

abbrev Bytes : Type 0
Bytes = Found (List ℕ)

pub escaped_step : (said now text behind s : List ℕ) (b c : ℕ) → text ≡ b ∷ behind → behind ≡ c ∷ s → b ≡ 92 → now ≡ said ++ unescaped c ∷ [] → text_from now s ≡ text_from said text
escaped_step said now text behind s b c e f is k =
    ap (λ z. text_from z s) k ∙ sym (ap (λ z. text_from said z) (e ∙ ap₂ (λ x z. x ∷ z) is f))

pub plain_step : (said now text behind s : List ℕ) (b c : ℕ) → text ≡ b ∷ behind → behind ≡ c ∷ s → (b == 34) ≡ false → (b == 92) ≡ false → now ≡ said ++ b ∷ [] → text_from now behind ≡ text_from said text
plain_step said now text behind s b c e f quote slash k =
    ap (λ z. text_from z behind) k
    ∙ ap (λ z. text_from (said ++ b ∷ []) z) f
    ∙ sym (ap (λ z. text_from said z) (e ∙ ap (λ z. b ∷ z) f)
    ∙ ap (λ (t : Bool). cond {A = Bytes} t (Some (said, c ∷ s)) (cond (b == 92) (text_from (said ++ unescaped c ∷ []) s) (text_from (said ++ b ∷ []) (c ∷ s)))) quote
    ∙ ap (λ (t : Bool). cond {A = Bytes} t (text_from (said ++ unescaped c ∷ []) s) (text_from (said ++ b ∷ []) (c ∷ s))) slash)

abbrev Items : Type 0
Items = Found (List Tree)

pub items_step : (f : List ℕ → Found Tree) (n m : ℕ) (said us : List Tree) (s s1 s2 : List ℕ) (t : Tree)
    → n ≡ suc m → s1 ≡ unspaced s → is_first 93 s1 ≡ false → f s1 ≡ Some (t, s2) → us ≡ said ++ t ∷ [] → items_read f m us s2 ≡ items_read f n said s
items_step f n m said us s s1 s2 t k sp at is v =
    ap (λ z. items_read f m z s2) v
    ∙ sym (ap (λ z. items_read f z said s) k
    ∙ ap (λ (z : List ℕ). cond {A = Items} (is_first 93 z) (Some (said, drop 1 z)) (then (f z) (λ t rest. items_read f m (said ++ t ∷ []) rest))) (sym sp)
    ∙ ap (λ (b : Bool). cond {A = Items} b (Some (said, drop 1 s1)) (then (f s1) (λ t rest. items_read f m (said ++ t ∷ []) rest))) at
    ∙ ap (λ (o : Found Tree). then {B = List Tree × List ℕ} o (λ t rest. items_read f m (said ++ t ∷ []) rest)) is)

abbrev Entries : Type 0
Entries = List (Tree × Tree)

pub pairs_step : (f : List ℕ → Found Tree) (n m : ℕ) (said us : List (Tree × Tree)) (s s1 s2 : List ℕ) (p : Tree × Tree)
    → n ≡ suc m → s1 ≡ uncomma s → is_first 125 s1 ≡ false → pair_in f s1 ≡ Some (p, s2) → us ≡ put_pair said p.0 p.1 → pairs_read f m us s2 ≡ pairs_read f n said s
pairs_step f n m said us s s1 s2 p k sp at is v =
    ap (λ z. pairs_read f m z s2) v
    ∙ sym (ap (λ z. pairs_read f z said s) k
    ∙ ap (λ (z : List ℕ). cond {A = Found Entries} (is_first 125 z) (Some (said, drop 1 z)) (then (pair_in f z) (λ p rest. pairs_read f m (put_pair said p.0 p.1) rest))) (sym sp)
    ∙ ap (λ (b : Bool). cond {A = Found Entries} b (Some (said, drop 1 s1)) (then (pair_in f s1) (λ p rest. pairs_read f m (put_pair said p.0 p.1) rest))) at
    ∙ ap (λ (o : Found (Tree × Tree)). then {B = Entries × List ℕ} o (λ p rest. pairs_read f m (put_pair said p.0 p.1) rest)) is)

pub list_step : {A : Type 0} (f : List ℕ → Found A) (n m : ℕ) (said us : List A) (s s2 : List ℕ) (x : A)
    → n ≡ suc m → is_first 10 s ≡ false → f s ≡ Some (x, s2) → us ≡ said ++ x ∷ [] → list_in f m us s2 ≡ list_in f n said s
list_step {A} f n m said us s s2 x k at is v =
    ap (λ z. list_in f m z s2) v
    ∙ sym (ap (λ z. list_in f z said s) k
    ∙ ap (λ (b : Bool). cond {A = Option (List A)} b (Some said) (then (f s) (λ x rest. list_in f m (said ++ x ∷ []) rest))) at
    ∙ ap (λ (o : Found A). then {B = List A} o (λ x rest. list_in f m (said ++ x ∷ []) rest)) is)

-- a value at some depth
pub depth_step : (d : ℕ) (s : List ℕ) → (d ≡ 0 → ⊥) → value_read d s ≡ value_by (value_read (d - 1)) s
depth_step zero s deep = absurd (deep refl)
depth_step (suc d) s deep = ap (λ (n : ℕ). value_by (value_read n) s) (let e : d ≡ suc d - 1 = omega arith in e)

pub scalar_step : (d b : ℕ) (s behind : List ℕ) → s ≡ b ∷ behind → (d ≡ 0 → ⊥) → (b ≡ 91 → ⊥) → (b ≡ 123 → ⊥) → value_read d s ≡ scalar_in b s
scalar_step d b s behind e deep square curly =
    depth_step d s deep
    ∙ ap (λ z. value_by (value_read (d - 1)) z) e
    ∙ ap (λ (t : Bool). cond {A = Found Tree} t (vector_in (value_read (d - 1)) behind) (cond (b == 123) (map_in (value_read (d - 1)) behind) (scalar_in b (b ∷ behind)))) (ne_eqb b 91 square)
    ∙ ap (λ (t : Bool). cond {A = Found Tree} t (map_in (value_read (d - 1)) behind) (scalar_in b (b ∷ behind))) (ne_eqb b 123 curly)
    ∙ ap (λ z. scalar_in b z) (sym e)

-- where a list ends, and where it is bad
pub list_end : {A : Type 0} (f : List ℕ → Found A) (n : ℕ) (said : List A) (s : List ℕ) → 0 < n → is_first 10 s ≡ true → list_in f n said s ≡ Some said
list_end f zero said s h at = absurd (omega (arith, h))
list_end {A} f (suc n) said s h at = ap (λ (b : Bool). cond {A = Option (List A)} b (Some said) (then (f s) (λ x rest. list_in f n (said ++ x ∷ []) rest))) at

pub list_bad : {A B C : Type 0} (v : B → A) (g : C → List A) (f : List ℕ → Found A) (n : ℕ) (said : List A) (s r : List ℕ) (whole : Option (List A)) (e : Refused)
    → 0 < n → is_first 10 s ≡ false → Finds v (Err e) r (f s) → list_in f n said s ≡ whole → FindsAtEnd g (Err e) whole
list_bad v g f zero said s r whole e h at is w = absurd (omega (arith, h))
list_bad {A} v g f (suc n) said s r whole Refused.OutOfMemory h at is w = tt
list_bad {A} v g f (suc n) said s r whole Refused.Bad h at is w =
    sym w
    ∙ ap (λ (b : Bool). cond {A = Option (List A)} b (Some said) (then (f s) (λ x rest. list_in f n (said ++ x ∷ []) rest))) at
    ∙ ap (λ (o : Found A). then {B = List A} o (λ x rest. list_in f n (said ++ x ∷ []) rest)) is

rest_is : (u : Tree) (us : List Tree) (v : Tree) → and_rest u (us ++ v ∷ []) ≡ (u ∷ us, v)
rest_is u [] v = refl
rest_is u (t ∷ us) v = ap (λ (p : List Tree × Tree). (u ∷ p.0, p.1)) (rest_is t us v)

pub parted_push : (us : List Tree) (v : Tree) → 0 < length us → arguments_parted (us ++ v ∷ []) ≡ Some (us, v)
parted_push [] v h = absurd (omega (arith, h))
parted_push (t ∷ []) v h = refl
parted_push (t ∷ (u ∷ us)) v h = ap (λ (p : List Tree × Tree). Some (t ∷ p.0, p.1)) (rest_is u us v)

pub map_more : {A B : Type 0} (f : A → B) (xs : List A) (x : A) → map f (xs ++ x ∷ []) ≡ map f xs ++ f x ∷ []
map_more f [] x = refl
map_more f (y ∷ xs) x = ap (λ z. f y ∷ z) (map_more f xs x)

pub map_there : {A B : Type 0} (f : A → B) (xs : List A) → 0 < length xs → 0 < length (map f xs)
map_there f [] h = h
map_there f (x ∷ xs) h = omega arith
