-- Topics in order, and the marks by which they are found.
use Rattle.std.specs.Prelude.{ℕ, ℤ, pos, negsuc, suc, ◌+◌, ◌*◌, ◌%◌, ◌^◌, List, [], ◌∷◌, Option, Some, None, cond, eqb, option_map, fold}
use Rattle.ca_value.specs.Tree.{Tree, nil, bool, int, text, key, vector, map, port}
use Rattle.ca_value.specs.View.{view}
use Rattle.ca_value.specs.Equality.{equals}
use Rattle.ca_meaning.specs.Registry.{TopicView}
use Rattle.ca_registry.specs.declared.topic.Topic.{Topic}

abbrev pub topic_view : Topic → TopicView
topic_view t = record { topic = view t.topic; mult = t.mult; channel = t.channel }

-- one more byte of a text
abbrev pub mixed : ℕ → ℕ → ℕ
mixed h b = (h * 31 + b) % 2 ^ 32

abbrev pub int_mark : ℤ → ℕ
int_mark (pos n) = n
int_mark (negsuc n) = n

-- Equal values have one mark. Different texts, keywords and numbers mostly have different ones; all vectors have one, and so do all maps.
abbrev pub mark_of : Tree → ℕ
mark_of nil = 0
mark_of (bool b) = 1
mark_of (int z) = int_mark z
mark_of (text bs) = fold mixed 7 bs
mark_of (key bs) = fold mixed 7 bs
mark_of (vector ts) = 2
mark_of (map ps) = 3
mark_of (port n) = n

-- the place of the first topic with this mark
abbrev pub first_marked : ℕ → List TopicView → Option ℕ
first_marked m [] = None
first_marked m (t ∷ ts) = cond (eqb m (mark_of t.topic)) (Some 0) (option_map suc (first_marked m ts))

-- the first topic that is equal to this one
abbrev pub first_equal : Tree → List TopicView → Option TopicView
first_equal topic [] = None
first_equal topic (t ∷ ts) = cond (equals topic t.topic) (Some t) (first_equal topic ts)

-- the one place, or else the other
abbrev pub or_place : Option ℕ → Option ℕ → Option ℕ
or_place None o = o
or_place (Some i) o = Some i
