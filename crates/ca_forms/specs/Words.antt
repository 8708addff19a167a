-- The words of scripts that the checker knows: forms, and builtins by name.
use Rattle.std.specs.Prelude.{ℕ, List, [], ◌∷◌, Option, Bool, true, false, codes, find}
use Rattle.std.specs.Str.{bytes_eq}
use Rattle.ca_value.specs.declared.builtin.Builtin.{Builtin}
use Rattle.ca_value.specs.Names.{name_of}
use Rattle.ca_forms.specs.declared.special.Special.{Special}

abbrev pub form_name : Special → List ℕ
form_name Special.Def = codes "def"
form_name Special.Defn = codes "defn"
form_name Special.Do = codes "do"
form_name Special.Let = codes "let"
form_name Special.If = codes "if"
form_name Special.IfNot = codes "if-not"
form_name Special.When = codes "when"
form_name Special.WhenNot = codes "when-not"
form_name Special.Cond = codes "cond"
form_name Special.And = codes "and"
form_name Special.Or = codes "or"
form_name Special.IfLet = codes "if-let"
form_name Special.WhenLet = codes "when-let"
form_name Special.IfSome = codes "if-some"
form_name Special.WhenSome = codes "when-some"
form_name Special.Loop = codes "loop"
form_name Special.Recur = codes "recur"
form_name Special.While = codes "while"
form_name Special.Dotimes = codes "dotimes"
form_name Special.Doseq = codes "doseq"
form_name Special.Go = codes "go"
form_name Special.GoLoop = codes "go-loop"
form_name Special.Take = codes "<!"
form_name Special.TakeBlocking = codes "<!!"
form_name Special.Put = codes ">!"
form_name Special.PutBlocking = codes ">!!"
form_name Special.Alts = codes "alts!"
form_name Special.AltsBlocking = codes "alts!!"
form_name Special.Offer = codes "offer!"
form_name Special.Poll = codes "poll!"
form_name Special.Post = codes "put!"
form_name Special.Close = codes "close!"
form_name Special.Print = codes "println"
form_name Special.Chan = codes "chan"
form_name Special.PromiseChan = codes "promise-chan"
form_name Special.Timeout = codes "timeout"
form_name Special.Mult = codes "mult"
form_name Special.Tap = codes "tap"
form_name Special.Untap = codes "untap"
form_name Special.UntapAll = codes "untap-all"
form_name Special.Mix = codes "mix"
form_name Special.Admix = codes "admix"
form_name Special.Unmix = codes "unmix"
form_name Special.UnmixAll = codes "unmix-all"
form_name Special.Toggle = codes "toggle"
form_name Special.SoloMode = codes "solo-mode"
form_name Special.Pub = codes "pub"
form_name Special.Sub = codes "sub"
form_name Special.Unsub = codes "unsub"
form_name Special.UnsubAll = codes "unsub-all"
form_name Special.Pipe = codes "pipe"
form_name Special.Merge = codes "merge"
form_name Special.Pipeline = codes "pipeline"
form_name Special.OntoChan = codes "onto-chan!"
form_name Special.ToChan = codes "to-chan!"
form_name Special.Buffer = codes "buffer"
form_name Special.DroppingBuffer = codes "dropping-buffer"
form_name Special.SlidingBuffer = codes "sliding-buffer"
form_name Special.Map = codes "map"
form_name Special.Filter = codes "filter"
form_name Special.Mapcat = codes "mapcat"

abbrev pub specials : List Special
specials =
    Special.Def ∷ Special.Defn ∷ Special.Do ∷ Special.Let ∷ Special.If ∷ Special.IfNot ∷ Special.When ∷
    Special.WhenNot ∷ Special.Cond ∷ Special.And ∷ Special.Or ∷ Special.IfLet ∷ Special.WhenLet ∷ Special.IfSome ∷
    Special.WhenSome ∷ Special.Loop ∷ Special.Recur ∷ Special.While ∷ Special.Dotimes ∷ Special.Doseq ∷ Special.Go ∷
    Special.GoLoop ∷ Special.Take ∷ Special.TakeBlocking ∷ Special.Put ∷ Special.PutBlocking ∷ Special.Alts ∷ Special.AltsBlocking ∷
    Special.Offer ∷ Special.Poll ∷ Special.Post ∷ Special.Close ∷ Special.Print ∷ Special.Chan ∷ Special.PromiseChan ∷
    Special.Timeout ∷ Special.Mult ∷ Special.Tap ∷ Special.Untap ∷ Special.UntapAll ∷ Special.Mix ∷ Special.Admix ∷
    Special.Unmix ∷ Special.UnmixAll ∷ Special.Toggle ∷ Special.SoloMode ∷ Special.Pub ∷ Special.Sub ∷ Special.Unsub ∷
    Special.UnsubAll ∷ Special.Pipe ∷ Special.Merge ∷ Special.Pipeline ∷ Special.OntoChan ∷ Special.ToChan ∷ Special.Buffer ∷
    Special.DroppingBuffer ∷ Special.SlidingBuffer ∷ Special.Map ∷ Special.Filter ∷ Special.Mapcat ∷ []

-- the form or inner word of that name
abbrev pub special : List ℕ → Option Special
special s = find (λ k. bytes_eq s (form_name k)) specials

-- these stand inside a form alone; a local may have their name
abbrev pub is_inner : Special → Bool
is_inner Special.Buffer = true
is_inner Special.DroppingBuffer = true
is_inner Special.SlidingBuffer = true
is_inner Special.Map = true
is_inner Special.Filter = true
is_inner Special.Mapcat = true
is_inner k = false

-- the builtins that a script can name
abbrev pub builtins : List Builtin
builtins =
    Builtin.Add ∷ Builtin.Multiply ∷ Builtin.Subtract ∷ Builtin.Inc ∷ Builtin.Dec ∷ Builtin.Quot ∷ Builtin.Rem ∷
    Builtin.Mod ∷ Builtin.Equal ∷ Builtin.NotEqual ∷ Builtin.Less ∷ Builtin.Greater ∷ Builtin.LessOrEqual ∷ Builtin.GreaterOrEqual ∷
    Builtin.Min ∷ Builtin.Max ∷ Builtin.Not ∷ Builtin.IsNil ∷ Builtin.IsSome ∷ Builtin.IsTrue ∷ Builtin.IsFalse ∷
    Builtin.IsZero ∷ Builtin.IsPos ∷ Builtin.IsNeg ∷ Builtin.IsEven ∷ Builtin.IsOdd ∷ Builtin.Str ∷ Builtin.Vector ∷
    Builtin.HashMap ∷ Builtin.Conj ∷ Builtin.Nth ∷ Builtin.Get ∷ Builtin.Count ∷ Builtin.IsEmpty ∷ Builtin.First ∷
    Builtin.Last ∷ Builtin.Peek ∷ Builtin.Pop ∷ Builtin.Subvec ∷ Builtin.Assoc ∷ Builtin.Dissoc ∷ Builtin.Keys ∷
    Builtin.Vals ∷ Builtin.Contains ∷ Builtin.Range ∷ []

abbrev pub builtin : List ℕ → Option Builtin
builtin s = find (λ b. bytes_eq s (name_of b)) builtins
