-- The two texts of a value: the plain one that `println` writes (Clojure reference, `print`), and the
-- readable one with its texts in quotes (Clojure reference, `pr`).
use Rattle.std.specs.Prelude.{ℕ, List, [], ◌∷◌, ◌++◌, Bool, cond, ◌==◌, codes, decimal}
use Rattle.std.specs.Fmt.{signed_decimal}
use Rattle.ca_value.specs.declared.print.Style.{Style}
use Rattle.ca_value.specs.declared.print.Style.TheVariants.{Plain, Readable}
use Rattle.ca_value.specs.Tree.{Tree, Trees, TreePairs, nil, bool, int, text, key, vector, map, port, none, item, empty, pair}

abbrev pub bool_text : Bool → List ℕ
bool_text b = cond b (codes "true") (codes "false")

abbrev pub port_printed : ℕ → List ℕ
port_printed n = codes "#port " ++ decimal n

-- a byte of a text as it stands between quotes: quote, backslash, line feed, tab and carriage return
-- are escaped, every other byte stands as it is
abbrev pub escaped : ℕ → List ℕ
escaped b =
    cond (b == 34) (codes "\\\"")
    (cond (b == 92) (codes "\\\\")
    (cond (b == 10) (codes "\\n")
    (cond (b == 9) (codes "\\t")
    (cond (b == 13) (codes "\\r") (b ∷ [])))))

abbrev pub all_escaped : List ℕ → List ℕ
all_escaped [] = []
all_escaped (b ∷ s) = escaped b ++ all_escaped s

abbrev pub quoted : List ℕ → List ℕ
quoted s = 34 ∷ (all_escaped s ++ 34 ∷ [])

-- the two styles differ in their texts alone
abbrev pub printed_text : Style → List ℕ → List ℕ
printed_text Plain s = s
printed_text Readable s = quoted s

abbrev mutual
  pub printed_value : Style → Tree → List ℕ
  printed_value style nil = codes "nil"
  printed_value style (bool b) = bool_text b
  printed_value style (int z) = signed_decimal z
  printed_value style (text s) = printed_text style s
  printed_value style (key s) = 58 ∷ s
  printed_value style (vector ts) = 91 ∷ (printed_items style ts ++ 93 ∷ [])
  printed_value style (map ps) = 123 ∷ (printed_pairs style ps ++ 125 ∷ [])
  printed_value style (port n) = port_printed n

  -- items are joined by a space
  pub printed_items : Style → Trees → List ℕ
  printed_items style none = []
  printed_items style (item t ts) = printed_value style t ++ printed_more style ts

  pub printed_more : Style → Trees → List ℕ
  printed_more style none = []
  printed_more style (item t ts) = 32 ∷ (printed_value style t ++ printed_more style ts)

  -- pairs are joined by a comma and a space
  pub printed_pairs : Style → TreePairs → List ℕ
  printed_pairs style empty = []
  printed_pairs style (pair k v ps) = printed_value style k ++ (32 ∷ (printed_value style v ++ printed_more_pairs style ps))

  pub printed_more_pairs : Style → TreePairs → List ℕ
  printed_more_pairs style empty = []
  printed_more_pairs style (pair k v ps) = 44 ∷ (32 ∷ (printed_value style k ++ (32 ∷ (printed_value style v ++ printed_more_pairs style ps))))

abbrev pub plain_text : Tree → List ℕ
plain_text t = printed_value Plain t

abbrev pub plain_items : Trees → List ℕ
plain_items ts = printed_items Plain ts

abbrev pub plain_more : Trees → List ℕ
plain_more ts = printed_more Plain ts

abbrev pub readable_text : Tree → List ℕ
readable_text t = printed_value Readable t

abbrev pub readable_items : Trees → List ℕ
readable_items ts = printed_items Readable ts
