-- The fields of a line are told.
use Rattle.std.proofs.Common.{◌≡◌, ℕ, List, [], ◌∷◌, ◌++◌, refl, sym, ap, ap₂, arith, ◌∙◌, Bool, true, false, cond, Option, Some, None, drop}
use Rattle.std.specs.Str.{bytes_eq}
use Rattle.std.specs.Prelude.{codes}
use Rattle.std.specs.Str.Parse.{AllDigits}
use Rattle.std.specs.Fmt.{decimal}
use Rattle.std.proofs.lemmas.List.{append_assoc}
use Rattle.std.proofs.lemmas.Fmt.{decimal_injective, decimal_is_IsNumeral}
use Rattle.std.proofs.lemmas.Str.Parse.{digit_from_value}
use Rattle.ca_value.specs.Tree.{Tree, Trees, none, item}
use Rattle.ca_value.specs.declared.print.Style.TheVariants.{Readable}
use Rattle.ca_value.specs.Printed.{printed_value, printed_more, readable_text, readable_items}
use Rattle.ca_term.specs.declared.place.Place.{Place}
use Rattle.ca_term.specs.declared.fault.Fault.{Fault}
use Rattle.ca_term.specs.declared.event.Side.{Side}
use Rattle.ca_term.specs.declared.event.Side.TheVariants.{Take, Put}
use Rattle.ca_term.specs.declared.event.TaskKind.{TaskKind}
use Rattle.ca_term.specs.declared.head.RegisterName.{RegisterName}
use Rattle.ca_term.specs.Event.{BranchView, take_of, put_of}
use Rattle.ca_meaning.specs.Sound.{Each}
use Rattle.ca_meaning.specs.Texts.{◌⋅◌, fault_text, place_text}
use Rattle.ca_meaning.specs.Journal.{port_text, maybe_port_text, side_text, kind_text, name_text, branch_text, branches_text, ports_text}
use Rattle.ca_meaning.specs.Shown.{ends_word, Solid, IsNumber, IsShown, AreShown, SomeShown, MaybeNumber, BranchShown}
use Rattle.ca_meaning.proofs.LineWords.{Ends, split, cut, decimal_solid}
use Rattle.ca_meaning.proofs.LineValues.{apart, head_of, behind_one, told}

-- a number behind a letter
tagged_solid : (c n : ℕ) → ends_word c ≡ false → IsNumber n → Solid (c ∷ decimal n)
tagged_solid c n s h = (s, decimal_solid n h)

same_number : (c m n : ℕ) → IsNumber m → IsNumber n → c ∷ decimal m ≡ c ∷ decimal n → m ≡ n
same_number c m n g h e = decimal_injective m n g h (behind_one c c (decimal m) (decimal n) e)

pub cut_number : (c m n : ℕ) (x y r s : List ℕ) → ends_word c ≡ false → IsNumber m → IsNumber n → ((c ∷ decimal m) ++ (32 ∷ x)) ++ r ≡ ((c ∷ decimal n) ++ (32 ∷ y)) ++ s → (m ≡ n) × (x ++ r ≡ y ++ s)
cut_number c m n x y r s f g h e = let k = cut (c ∷ decimal m) (c ∷ decimal n) x y r s (tagged_solid c m f g) (tagged_solid c n f h) e in (same_number c m n g h k.0, k.1)

pub end_number : (c m n : ℕ) (r s : List ℕ) → ends_word c ≡ false → IsNumber m → IsNumber n → Ends r → Ends s → (c ∷ decimal m) ++ r ≡ (c ∷ decimal n) ++ s → (m ≡ n) × (r ≡ s)
end_number c m n r s f g h x y e = let k = split (c ∷ decimal m) (c ∷ decimal n) r s (tagged_solid c m f g) (tagged_solid c n f h) x y e in (same_number c m n g h k.0, k.1)

pub cut_decimal : (m n : ℕ) (x y r s : List ℕ) → IsNumber m → IsNumber n → (decimal m ++ (32 ∷ x)) ++ r ≡ (decimal n ++ (32 ∷ y)) ++ s → (m ≡ n) × (x ++ r ≡ y ++ s)
cut_decimal m n x y r s g h e = let k = cut (decimal m) (decimal n) x y r s (decimal_solid m g) (decimal_solid n h) e in (decimal_injective m n g h k.0, k.1)

pub end_decimal : (m n : ℕ) (r s : List ℕ) → IsNumber m → IsNumber n → Ends r → Ends s → decimal m ++ r ≡ decimal n ++ s → (m ≡ n) × (r ≡ s)
end_decimal m n r s g h x y e = let k = split (decimal m) (decimal n) r s (decimal_solid m g) (decimal_solid n h) x y e in (decimal_injective m n g h k.0, k.1)

-- values
pub cut_value : (v w : Tree) (x y r s : List ℕ) → IsShown v → IsShown w → (readable_text v ⋅ x) ++ r ≡ (readable_text w ⋅ y) ++ s → (v ≡ w) × (x ++ r ≡ y ++ s)
cut_value v w x y r s g h e =
    let m = told v w (32 ∷ (x ++ r)) (32 ∷ (y ++ s)) g h refl refl (sym (append_assoc (readable_text v) (32 ∷ x) r) ∙ e ∙ append_assoc (readable_text w) (32 ∷ y) s) in
    (m.0, behind_one 32 32 (x ++ r) (y ++ s) m.1)

-- words of a list
abbrev is_solid : List ℕ → Bool
is_solid [] = true
is_solid (b ∷ s) = cond (ends_word b) false (is_solid s)

solid : (w : List ℕ) → is_solid w ≡ true → Solid w
solid [] e = tt
solid (b ∷ s) e = by (ends_word b) refl e (λ k. solid s k) where
  by : (t : Bool) → ends_word b ≡ t → cond t false (is_solid s) ≡ true → (is_solid s ≡ true → Solid s) → (ends_word b ≡ false) × Solid s
  by true is e f = absurd (let k : false ≡ true = e in cc)
  by false is e f = (is, f e)

-- name
abbrev name_of : List ℕ → RegisterName
name_of w =
    cond (bytes_eq w (codes "tap")) RegisterName.Tap (
    cond (bytes_eq w (codes "untap")) RegisterName.Untap (
    cond (bytes_eq w (codes "untap-all")) RegisterName.UntapAll (
    cond (bytes_eq w (codes "taps")) RegisterName.Taps (
    cond (bytes_eq w (codes "admix")) RegisterName.Admix (
    cond (bytes_eq w (codes "unmix")) RegisterName.Unmix (
    cond (bytes_eq w (codes "unmix-all")) RegisterName.UnmixAll (
    cond (bytes_eq w (codes "toggle")) RegisterName.Toggle (
    cond (bytes_eq w (codes "solo-mode")) RegisterName.SoloMode (
    cond (bytes_eq w (codes "modes")) RegisterName.Modes (
    cond (bytes_eq w (codes "find")) RegisterName.Find (
    cond (bytes_eq w (codes "place")) RegisterName.Place (
    cond (bytes_eq w (codes "drop")) RegisterName.Drop (
    cond (bytes_eq w (codes "clear")) RegisterName.Clear (
    RegisterName.Topics))))))))))))))

name_back : (x : RegisterName) → name_of (name_text x) ≡ x
name_back RegisterName.Tap = refl
name_back RegisterName.Untap = refl
name_back RegisterName.UntapAll = refl
name_back RegisterName.Taps = refl
name_back RegisterName.Admix = refl
name_back RegisterName.Unmix = refl
name_back RegisterName.UnmixAll = refl
name_back RegisterName.Toggle = refl
name_back RegisterName.SoloMode = refl
name_back RegisterName.Modes = refl
name_back RegisterName.Find = refl
name_back RegisterName.Place = refl
name_back RegisterName.Drop = refl
name_back RegisterName.Clear = refl
name_back RegisterName.Topics = refl

name_solid : (x : RegisterName) → Solid (name_text x)
name_solid RegisterName.Tap = solid (codes "tap") refl
name_solid RegisterName.Untap = solid (codes "untap") refl
name_solid RegisterName.UntapAll = solid (codes "untap-all") refl
name_solid RegisterName.Taps = solid (codes "taps") refl
name_solid RegisterName.Admix = solid (codes "admix") refl
name_solid RegisterName.Unmix = solid (codes "unmix") refl
name_solid RegisterName.UnmixAll = solid (codes "unmix-all") refl
name_solid RegisterName.Toggle = solid (codes "toggle") refl
name_solid RegisterName.SoloMode = solid (codes "solo-mode") refl
name_solid RegisterName.Modes = solid (codes "modes") refl
name_solid RegisterName.Find = solid (codes "find") refl
name_solid RegisterName.Place = solid (codes "place") refl
name_solid RegisterName.Drop = solid (codes "drop") refl
name_solid RegisterName.Clear = solid (codes "clear") refl
name_solid RegisterName.Topics = solid (codes "topics") refl

same_name : (x y : RegisterName) → name_text x ≡ name_text y → x ≡ y
same_name x y e = sym (name_back x) ∙ ap name_of e ∙ name_back y

pub cut_name : (a b : RegisterName) (x y r s : List ℕ) → (name_text a ⋅ x) ++ r ≡ (name_text b ⋅ y) ++ s → (a ≡ b) × (x ++ r ≡ y ++ s)
cut_name a b x y r s e = let k = cut (name_text a) (name_text b) x y r s (name_solid a) (name_solid b) e in (same_name a b k.0, k.1)

-- kind
abbrev kind_of : List ℕ → TaskKind
kind_of w =
    cond (bytes_eq w (codes "go")) TaskKind.Go (
    cond (bytes_eq w (codes "mult")) TaskKind.Mult (
    cond (bytes_eq w (codes "deliver")) TaskKind.Deliver (
    cond (bytes_eq w (codes "mix")) TaskKind.Mix (
    cond (bytes_eq w (codes "pub")) TaskKind.Pub (
    cond (bytes_eq w (codes "pipe")) TaskKind.Pipe (
    cond (bytes_eq w (codes "merge")) TaskKind.Merge (
    cond (bytes_eq w (codes "onto")) TaskKind.Onto (
    cond (bytes_eq w (codes "feed")) TaskKind.Feed (
    cond (bytes_eq w (codes "job")) TaskKind.Job (
    TaskKind.Collect))))))))))

kind_back : (x : TaskKind) → kind_of (kind_text x) ≡ x
kind_back TaskKind.Go = refl
kind_back TaskKind.Mult = refl
kind_back TaskKind.Deliver = refl
kind_back TaskKind.Mix = refl
kind_back TaskKind.Pub = refl
kind_back TaskKind.Pipe = refl
kind_back TaskKind.Merge = refl
kind_back TaskKind.Onto = refl
kind_back TaskKind.Feed = refl
kind_back TaskKind.Job = refl
kind_back TaskKind.Collect = refl

kind_solid : (x : TaskKind) → Solid (kind_text x)
kind_solid TaskKind.Go = solid (codes "go") refl
kind_solid TaskKind.Mult = solid (codes "mult") refl
kind_solid TaskKind.Deliver = solid (codes "deliver") refl
kind_solid TaskKind.Mix = solid (codes "mix") refl
kind_solid TaskKind.Pub = solid (codes "pub") refl
kind_solid TaskKind.Pipe = solid (codes "pipe") refl
kind_solid TaskKind.Merge = solid (codes "merge") refl
kind_solid TaskKind.Onto = solid (codes "onto") refl
kind_solid TaskKind.Feed = solid (codes "feed") refl
kind_solid TaskKind.Job = solid (codes "job") refl
kind_solid TaskKind.Collect = solid (codes "collect") refl

same_kind : (x y : TaskKind) → kind_text x ≡ kind_text y → x ≡ y
same_kind x y e = sym (kind_back x) ∙ ap kind_of e ∙ kind_back y

pub cut_kind : (a b : TaskKind) (x y r s : List ℕ) → (kind_text a ⋅ x) ++ r ≡ (kind_text b ⋅ y) ++ s → (a ≡ b) × (x ++ r ≡ y ++ s)
cut_kind a b x y r s e = let k = cut (kind_text a) (kind_text b) x y r s (kind_solid a) (kind_solid b) e in (same_kind a b k.0, k.1)

-- fault
abbrev fault_of : List ℕ → Fault
fault_of w =
    cond (bytes_eq w (codes "Overflow")) Fault.Overflow (
    cond (bytes_eq w (codes "ZeroDivisor")) Fault.ZeroDivisor (
    cond (bytes_eq w (codes "WrongKind")) Fault.WrongKind (
    cond (bytes_eq w (codes "OutOfRange")) Fault.OutOfRange (
    cond (bytes_eq w (codes "TooHeavy")) Fault.TooHeavy (
    cond (bytes_eq w (codes "TooNested")) Fault.TooNested (
    cond (bytes_eq w (codes "Spun")) Fault.Spun (
    cond (bytes_eq w (codes "TooDeep")) Fault.TooDeep (
    cond (bytes_eq w (codes "TooManyTakes")) Fault.TooManyTakes (
    cond (bytes_eq w (codes "TooManyPuts")) Fault.TooManyPuts (
    cond (bytes_eq w (codes "NilPut")) Fault.NilPut (
    cond (bytes_eq w (codes "NoPorts")) Fault.NoPorts (
    cond (bytes_eq w (codes "NotAPort")) Fault.NotAPort (
    cond (bytes_eq w (codes "TooManyPorts")) Fault.TooManyPorts (
    Fault.TooManyMembers))))))))))))))

fault_back : (x : Fault) → fault_of (fault_text x) ≡ x
fault_back Fault.Overflow = refl
fault_back Fault.ZeroDivisor = refl
fault_back Fault.WrongKind = refl
fault_back Fault.OutOfRange = refl
fault_back Fault.TooHeavy = refl
fault_back Fault.TooNested = refl
fault_back Fault.Spun = refl
fault_back Fault.TooDeep = refl
fault_back Fault.TooManyTakes = refl
fault_back Fault.TooManyPuts = refl
fault_back Fault.NilPut = refl
fault_back Fault.NoPorts = refl
fault_back Fault.NotAPort = refl
fault_back Fault.TooManyPorts = refl
fault_back Fault.TooManyMembers = refl

fault_solid : (x : Fault) → Solid (fault_text x)
fault_solid Fault.Overflow = solid (codes "Overflow") refl
fault_solid Fault.ZeroDivisor = solid (codes "ZeroDivisor") refl
fault_solid Fault.WrongKind = solid (codes "WrongKind") refl
fault_solid Fault.OutOfRange = solid (codes "OutOfRange") refl
fault_solid Fault.TooHeavy = solid (codes "TooHeavy") refl
fault_solid Fault.TooNested = solid (codes "TooNested") refl
fault_solid Fault.Spun = solid (codes "Spun") refl
fault_solid Fault.TooDeep = solid (codes "TooDeep") refl
fault_solid Fault.TooManyTakes = solid (codes "TooManyTakes") refl
fault_solid Fault.TooManyPuts = solid (codes "TooManyPuts") refl
fault_solid Fault.NilPut = solid (codes "NilPut") refl
fault_solid Fault.NoPorts = solid (codes "NoPorts") refl
fault_solid Fault.NotAPort = solid (codes "NotAPort") refl
fault_solid Fault.TooManyPorts = solid (codes "TooManyPorts") refl
fault_solid Fault.TooManyMembers = solid (codes "TooManyMembers") refl

same_fault : (x y : Fault) → fault_text x ≡ fault_text y → x ≡ y
same_fault x y e = sym (fault_back x) ∙ ap fault_of e ∙ fault_back y

pub cut_fault : (a b : Fault) (x y r s : List ℕ) → (fault_text a ⋅ x) ++ r ≡ (fault_text b ⋅ y) ++ s → (a ≡ b) × (x ++ r ≡ y ++ s)
cut_fault a b x y r s e = let k = cut (fault_text a) (fault_text b) x y r s (fault_solid a) (fault_solid b) e in (same_fault a b k.0, k.1)

-- side
abbrev side_of : List ℕ → Side
side_of w =
    cond (bytes_eq w (codes "take")) Take (
    Put)

side_back : (x : Side) → side_of (side_text x) ≡ x
side_back Take = refl
side_back Put = refl

side_solid : (x : Side) → Solid (side_text x)
side_solid Take = solid (codes "take") refl
side_solid Put = solid (codes "put") refl

same_side : (x y : Side) → side_text x ≡ side_text y → x ≡ y
same_side x y e = sym (side_back x) ∙ ap side_of e ∙ side_back y

pub cut_side : (a b : Side) (x y r s : List ℕ) → (side_text a ⋅ x) ++ r ≡ (side_text b ⋅ y) ++ s → (a ≡ b) × (x ++ r ≡ y ++ s)
cut_side a b x y r s e = let k = cut (side_text a) (side_text b) x y r s (side_solid a) (side_solid b) e in (same_side a b k.0, k.1)

-- a result port, which ends a line
maybe_solid : (o : Option ℕ) → MaybeNumber o → Solid (maybe_port_text o)
maybe_solid None h = (refl, tt)
maybe_solid (Some p) h = tagged_solid 112 p refl h

same_maybe : (o q : Option ℕ) → MaybeNumber o → MaybeNumber q → maybe_port_text o ≡ maybe_port_text q → o ≡ q
same_maybe None None g h e = refl
same_maybe None (Some p) g h e = apart 45 112 refl (ap head_of e)
same_maybe (Some p) None g h e = apart 112 45 refl (ap head_of e)
same_maybe (Some p) (Some q) g h e = ap (λ n. Some n) (same_number 112 p q g h e)

pub end_maybe : (o q : Option ℕ) (r s : List ℕ) → MaybeNumber o → MaybeNumber q → Ends r → Ends s → maybe_port_text o ++ r ≡ maybe_port_text q ++ s → (o ≡ q) × (r ≡ s)
end_maybe o q r s g h x y e = let k = split (maybe_port_text o) (maybe_port_text q) r s (maybe_solid o g) (maybe_solid q h) x y e in (same_maybe o q g h k.0, k.1)

-- a place
digits_before : (ds es x y : List ℕ) → AllDigits 10 ds → AllDigits 10 es → ds ++ (58 ∷ x) ≡ es ++ (58 ∷ y) → (ds ≡ es) × (x ≡ y)
digits_before [] [] x y g h e = (refl, behind_one 58 58 x y e)
digits_before [] (c ∷ es) x y g h e = let k : 58 ≡ c = ap head_of e in let j = digit_from_value c h.0 in absurd (omega (arith, j, k))
digits_before (b ∷ ds) [] x y g h e = let k : b ≡ 58 = ap head_of e in let j = digit_from_value b g.0 in absurd (omega (arith, j, k))
digits_before (b ∷ ds) (c ∷ es) x y g h e =
    let k : b ≡ c = ap head_of e in
    let m = digits_before ds es x y g.1 h.1 (behind_one b c (ds ++ (58 ∷ x)) (es ++ (58 ∷ y)) e) in
    (ap (λ z. z ∷ ds) k ∙ ap (λ z. c ∷ z) m.0, m.1)

abbrev place_of : ℕ → ℕ → Place
place_of m n = record { line = m; column = n }

pub cut_place : (p q : Place) (x y r s : List ℕ) → IsNumber p.line → IsNumber p.column → IsNumber q.line → IsNumber q.column → (place_text p ⋅ x) ++ r ≡ (place_text q ⋅ y) ++ s → (p ≡ q) × (x ++ r ≡ y ++ s)
cut_place p q x y r s pl pc ql qc e =
    let f : (decimal p.line ++ (58 ∷ decimal p.column)) ++ (32 ∷ (x ++ r)) ≡ (decimal q.line ++ (58 ∷ decimal q.column)) ++ (32 ∷ (y ++ s)) = sym (append_assoc (place_text p) (32 ∷ x) r) ∙ e ∙ append_assoc (place_text q) (32 ∷ y) s in
    let k = digits_before (decimal p.line) (decimal q.line) (decimal p.column ++ (32 ∷ (x ++ r))) (decimal q.column ++ (32 ∷ (y ++ s))) (decimal_is_IsNumeral p.line pl).0.1 (decimal_is_IsNumeral q.line ql).0.1
    (sym (append_assoc (decimal p.line) (58 ∷ decimal p.column) (32 ∷ (x ++ r))) ∙ f ∙ append_assoc (decimal q.line) (58 ∷ decimal q.column) (32 ∷ (y ++ s))) in
    let j = split (decimal p.column) (decimal q.column) (32 ∷ (x ++ r)) (32 ∷ (y ++ s)) (decimal_solid p.column pc) (decimal_solid q.column qc) refl refl k.1 in
    let a : p.line ≡ q.line = decimal_injective p.line q.line pl ql k.0 in
    let b : p.column ≡ q.column = decimal_injective p.column q.column pc qc j.0 in
    (ap₂ place_of a b, behind_one 32 32 (x ++ r) (y ++ s) j.1)

-- branches
pub branch_told : (b c : BranchView) (r s : List ℕ) → BranchShown b → BranchShown c → Ends r → Ends s → branch_text b ++ r ≡ branch_text c ++ s → (b ≡ c) × (r ≡ s)
branch_told (take_of p) (take_of q) r s g h x y e = let k = end_number 112 p q r s refl g h x y (ap (drop 5) e) in (ap (λ n. take_of n) k.0, k.1)
branch_told (put_of p v) (put_of q w) r s g h x y e =
    let k = cut_number 112 p q (readable_text v) (readable_text w) r s refl g.0 h.0 (ap (drop 4) e) in
    let j = told v w r s g.1 h.1 x y k.1 in
    (ap₂ (λ n u. put_of n u) k.0 j.0, j.1)
branch_told (take_of p) (put_of q w) r s g h x y e = apart 116 112 refl (ap head_of e)
branch_told (put_of p v) (take_of q) r s g h x y e = apart 112 116 refl (ap head_of e)

abbrev further : List BranchView → List ℕ
further [] = []
further (b ∷ bs) = 44 ∷ (32 ∷ branches_text (b ∷ bs))

first_branch : (b : BranchView) (bs : List BranchView) (r : List ℕ) → branches_text (b ∷ bs) ++ r ≡ branch_text b ++ (further bs ++ r)
first_branch b [] r = refl
first_branch b (c ∷ bs) r = append_assoc (branch_text b) (44 ∷ (32 ∷ branches_text (c ∷ bs))) r

ends_further : (bs : List BranchView) (r : List ℕ) → Ends (further bs ++ (10 ∷ r))
ends_further [] r = refl
ends_further (b ∷ bs) r = refl

head_branch : (b : BranchView) (x : List ℕ) (n : ℕ) → n ≡ head_of (branch_text b ++ x) → n ≡ 10 → {P : Type 0} → P
head_branch (take_of p) x n e f = apart 116 10 refl (sym e ∙ f)
head_branch (put_of p v) x n e f = apart 112 10 refl (sym e ∙ f)

mutual
  pub branches_told : (bs cs : List BranchView) (r s : List ℕ) → Each BranchShown bs → Each BranchShown cs → branches_text bs ++ (10 ∷ r) ≡ branches_text cs ++ (10 ∷ s) → (bs ≡ cs) × (r ≡ s)
  branches_told [] [] r s g h e = (refl, behind_one 10 10 r s e)
  branches_told [] (c ∷ cs) r s g h e = head_branch c (further cs ++ (10 ∷ s)) 10 (ap head_of (e ∙ first_branch c cs (10 ∷ s))) refl
  branches_told (b ∷ bs) [] r s g h e = head_branch b (further bs ++ (10 ∷ r)) 10 (ap head_of (sym e ∙ first_branch b bs (10 ∷ r))) refl
  branches_told (b ∷ bs) (c ∷ cs) r s g h e =
      let k = branch_told b c (further bs ++ (10 ∷ r)) (further cs ++ (10 ∷ s)) g.0 h.0 (ends_further bs r) (ends_further cs s) (sym (first_branch b bs (10 ∷ r)) ∙ e ∙ first_branch c cs (10 ∷ s)) in
      let j = further_told bs cs r s g.1 h.1 k.1 in
      (ap₂ (λ z zs. z ∷ zs) k.0 j.0, j.1)

  further_told : (bs cs : List BranchView) (r s : List ℕ) → Each BranchShown bs → Each BranchShown cs → further bs ++ (10 ∷ r) ≡ further cs ++ (10 ∷ s) → (bs ≡ cs) × (r ≡ s)
  further_told [] [] r s g h e = (refl, behind_one 10 10 r s e)
  further_told [] (c ∷ cs) r s g h e = apart 10 44 refl (ap head_of e)
  further_told (b ∷ bs) [] r s g h e = apart 44 10 refl (ap head_of e)
  further_told (b ∷ bs) (c ∷ cs) r s g h e =
      let f : branches_text (b ∷ bs) ++ (10 ∷ r) ≡ branches_text (c ∷ cs) ++ (10 ∷ s) = behind_one 32 32 _ _ (behind_one 44 44 _ _ e) in
      let k = branch_told b c (further bs ++ (10 ∷ r)) (further cs ++ (10 ∷ s)) g.0 h.0 (ends_further bs r) (ends_further cs s) (sym (first_branch b bs (10 ∷ r)) ∙ f ∙ first_branch c cs (10 ∷ s)) in
      let j = further_told bs cs r s g.1 h.1 k.1 in
      (ap₂ (λ z zs. z ∷ zs) k.0 j.0, j.1)

-- ports
pub ports_told : (ps qs : List ℕ) (r s : List ℕ) → Each IsNumber ps → Each IsNumber qs → ports_text ps ++ (10 ∷ r) ≡ ports_text qs ++ (10 ∷ s) → (ps ≡ qs) × (r ≡ s)
ports_told [] [] r s g h e = (refl, behind_one 10 10 r s e)
ports_told [] (q ∷ qs) r s g h e = apart 10 32 refl (ap head_of e)
ports_told (p ∷ ps) [] r s g h e = apart 32 10 refl (ap head_of e)
ports_told (p ∷ ps) (q ∷ qs) r s g h e =
    let f : port_text p ++ (ports_text ps ++ (10 ∷ r)) ≡ port_text q ++ (ports_text qs ++ (10 ∷ s)) = sym (append_assoc (port_text p) (ports_text ps) (10 ∷ r)) ∙ behind_one 32 32 _ _ e ∙ append_assoc (port_text q) (ports_text qs) (10 ∷ s) in
    let k = end_number 112 p q (ports_text ps ++ (10 ∷ r)) (ports_text qs ++ (10 ∷ s)) refl g.0 h.0 (ends_ports ps r) (ends_ports qs s) f in
    let j = ports_told ps qs r s g.1 h.1 k.1 in
    (ap₂ (λ z zs. z ∷ zs) k.0 j.0, j.1)
  where
    ends_ports : (ps : List ℕ) (r : List ℕ) → Ends (ports_text ps ++ (10 ∷ r))
    ends_ports [] r = refl
    ends_ports (p ∷ ps) r = refl

-- arguments and the answer behind them
abbrev after_args : Trees → Tree → List ℕ → List ℕ
after_args ts v r = printed_more Readable ts ++ (32 ∷ (readable_text v ++ (10 ∷ r)))

ends_args : (ts : Trees) (v : Tree) (r : List ℕ) → Ends (after_args ts v r)
ends_args none v r = refl
ends_args (item t ts) v r = refl

more_args : (ts us : Trees) (v w : Tree) (r s : List ℕ) → AreShown ts → AreShown us → IsShown v → IsShown w → after_args ts v r ≡ after_args us w s → (ts ≡ us) × (v ≡ w) × (r ≡ s)
more_args none none v w r s g h i j e = let m = told v w (10 ∷ r) (10 ∷ s) i j refl refl (behind_one 32 32 _ _ e) in (refl, m.0, behind_one 10 10 r s m.1)
more_args none (item u us) v w r s g h i j e =
    let f : readable_text v ++ (10 ∷ r) ≡ printed_value Readable u ++ after_args us w s = behind_one 32 32 _ _ e ∙ append_assoc (printed_value Readable u) (printed_more Readable us) (32 ∷ (readable_text w ++ (10 ∷ s))) in
    let m = told v u (10 ∷ r) (after_args us w s) i h.0 refl (ends_args us w s) f in
    no_more us m.1
  where
    no_more : (us : Trees) → 10 ∷ r ≡ after_args us w s → (none ≡ item u us) × (v ≡ w) × (r ≡ s)
    no_more none e = apart 10 32 refl (ap head_of e)
    no_more (item x xs) e = apart 10 32 refl (ap head_of e)
more_args (item t ts) none v w r s g h i j e =
    let f : readable_text w ++ (10 ∷ s) ≡ printed_value Readable t ++ after_args ts v r = behind_one 32 32 _ _ (sym e) ∙ append_assoc (printed_value Readable t) (printed_more Readable ts) (32 ∷ (readable_text v ++ (10 ∷ r))) in
    let m = told w t (10 ∷ s) (after_args ts v r) j g.0 refl (ends_args ts v r) f in
    no_more ts m.1
  where
    no_more : (us : Trees) → 10 ∷ s ≡ after_args us v r → (item t us ≡ none) × (v ≡ w) × (r ≡ s)
    no_more none e = apart 10 32 refl (ap head_of e)
    no_more (item x xs) e = apart 10 32 refl (ap head_of e)
more_args (item t ts) (item u us) v w r s g h i j e =
    let f : printed_value Readable t ++ after_args ts v r ≡ printed_value Readable u ++ after_args us w s = sym (append_assoc (printed_value Readable t) (printed_more Readable ts) (32 ∷ (readable_text v ++ (10 ∷ r)))) ∙ behind_one 32 32 _ _ e ∙ append_assoc (printed_value Readable u) (printed_more Readable us) (32 ∷ (readable_text w ++ (10 ∷ s))) in
    let m = told t u (after_args ts v r) (after_args us w s) g.0 h.0 (ends_args ts v r) (ends_args us w s) f in
    let n = more_args ts us v w r s g.1 h.1 i j m.1 in
    (ap₂ (λ z zs. item z zs) m.0 n.0, n.1, n.2)

pub args_told : (ts us : Trees) (v w : Tree) (r s : List ℕ) → SomeShown ts → SomeShown us → IsShown v → IsShown w → (readable_items ts ⋅ readable_text v) ++ (10 ∷ r) ≡ (readable_items us ⋅ readable_text w) ++ (10 ∷ s) → (ts ≡ us) × (v ≡ w) × (r ≡ s)
args_told none us v w r s g h i j e = absurd g
args_told (item t ts) none v w r s g h i j e = absurd h
args_told (item t ts) (item u us) v w r s g h i j e =
    let f : printed_value Readable t ++ after_args ts v r ≡ printed_value Readable u ++ after_args us w s = sym (whole t ts v r) ∙ e ∙ whole u us w s in
    let m = told t u (after_args ts v r) (after_args us w s) g.0 h.0 (ends_args ts v r) (ends_args us w s) f in
    let n = more_args ts us v w r s g.1 h.1 i j m.1 in
    (ap₂ (λ z zs. item z zs) m.0 n.0, n.1, n.2)
  where
    whole : (t : Tree) (ts : Trees) (v : Tree) (r : List ℕ) → (readable_items (item t ts) ⋅ readable_text v) ++ (10 ∷ r) ≡ printed_value Readable t ++ after_args ts v r
    whole t ts v r = append_assoc (printed_value Readable t ++ printed_more Readable ts) (32 ∷ readable_text v) (10 ∷ r) ∙ append_assoc (printed_value Readable t) (printed_more Readable ts) (32 ∷ (readable_text v ++ (10 ∷ r)))
