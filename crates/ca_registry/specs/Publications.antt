-- What a publication shows, and what an operation on it comes to.
use Rattle.std.specs.Prelude.{◌≡◌, ℕ, ◌+◌, ◌-◌, min, List, [], ◌∷◌, Bool, true, false, cond, map, vec_len, vec_capacity}
use Rattle.ca_value.specs.Tree.{Tree, Trees, port}
use Rattle.indexmap.specs.IndexMap.{spare, index_map_len}
use Rattle.ca_value.specs.Equality.{equals}
use Rattle.ca_term.specs.declared.head.RegisterName.{RegisterName}
use Rattle.ca_term.specs.declared.head.RegisterName.TheVariants.{Place}
use Rattle.ca_meaning.specs.Operands.{port_of_value, first_of, second_of, third_of}
use Rattle.ca_meaning.specs.Registry.{TopicView, Registry, a_publication, Registered, publication_row}
use Rattle.ca_registry.specs.Marks.{topic_view}
use Rattle.ca_registry.specs.declared.topic.TopicList.{TopicList}
use Rattle.ca_registry.specs.declared.publication.Publication.{Publication}

abbrev pub topics_in : TopicList → List TopicView
topics_in t = map topic_view t.topics.items

-- how many more topics there is room for, with their marks
abbrev pub topics_room : TopicList → ℕ
topics_room t = min (vec_capacity t.topics - vec_len t.topics) ((index_map_len t.firsts + spare t.firsts) - vec_len t.topics)

abbrev pub topics_of : Publication → List TopicView
topics_of p = topics_in p.topics

abbrev pub publication_view : Publication → Registry
publication_view p = a_publication p.source (topics_of p)

abbrev pub topics_spare : Publication → ℕ
topics_spare p = topics_room p.topics

-- what an operation on the publication comes to
abbrev pub publication_gives : Publication → RegisterName → Trees → Registered
publication_gives p name args = publication_row p.source (topics_of p) name args

abbrev pub has_topic : Tree → List TopicView → Bool
has_topic topic [] = false
has_topic topic (t ∷ ts) = cond (equals topic t.topic) true (has_topic topic ts)

-- the topic that is to be placed
abbrev pub topic_made : Trees → TopicView
topic_made args = record { topic = first_of args; mult = port_of_value (second_of args); channel = port_of_value (third_of args) }

abbrev pub topic_channel : TopicView → Tree
topic_channel t = port t.channel

-- a topic that is placed is equal to itself, as each value is
abbrev pub PlacesItself : RegisterName → Trees → Type 0
PlacesItself Place args = equals (first_of args) (first_of args) ≡ true
PlacesItself other args = Unit {0}
