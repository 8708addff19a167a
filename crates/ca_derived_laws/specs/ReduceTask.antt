-- The task of a `reduce` by a builtin or a plain function, as its go block's text is with values in place of the names that it uses from
-- outside: (go (loop [r i] (let [v (<! c)] (if (nil? v) r (recur (f r v)))))).
use Rattle.std.specs.Prelude.{ℕ, suc, [], ◌∷◌}
use Rattle.ca_value.specs.Tree.{Tree, nil, port}
use Rattle.ca_value.specs.declared.builtin.Builtin.TheVariants.{IsNil}
use Rattle.ca_term.specs.declared.place.Place.{Place}
use Rattle.ca_term.specs.declared.head.Head.{Head}
use Rattle.ca_term.specs.declared.head.Head.TheVariants.{Recur, Take, Close, Post}
use Rattle.ca_term.specs.Kernel.{Kernel, const, var, branch, loop, apply, empty, binding}
use Rattle.ca_term.specs.View.{kernels_of}
use Rattle.ca_derived_laws.specs.TakeTask.{does, called_builtin, let_name}

pub record ReduceTask : Type 0 where
  pub first : ℕ
  pub function : Head
  pub initial : Tree
  pub source : Tree
  pub result : ℕ
  pub place : Place

-- (f t h)
abbrev pub reduce_applies : Head → Kernel → Kernel → Place → Kernel
reduce_applies f t h p = apply f (kernels_of (t ∷ h ∷ [])) p

-- (recur (f t h))
abbrev pub folds : ReduceTask → Kernel → Kernel → Kernel
folds x t h = apply Recur (kernels_of (reduce_applies x.function t h x.place ∷ [])) x.place

-- (if (nil? h) t (recur (f t h)))
abbrev pub reduce_decides : ReduceTask → Kernel → Kernel → Kernel
reduce_decides x t h = does (branch (called_builtin IsNil (h ∷ []) x.place) t (folds x t h) ∷ [])

-- (let [v (<! c)] ..), the take or its answer being u
abbrev pub reduce_lets : ReduceTask → Kernel → Kernel → Kernel
reduce_lets x t u = let_name (suc x.first) u (reduce_decides x t (var (suc x.first)))

abbrev pub reduce_asks : ReduceTask → Kernel
reduce_asks x = apply Take (kernels_of (const x.source ∷ [])) x.place

-- the text of the loop, over the value so far
abbrev pub reduce_round : ReduceTask → Kernel → Kernel
reduce_round x t = does (reduce_lets x t (reduce_asks x) ∷ [])

abbrev pub closes_result : ReduceTask → Kernel
closes_result x = apply Close (kernels_of (const (port x.result) ∷ [])) x.place

-- the end of each go block: (if (nil? h) nil <Post r h>) <Close r>
abbrev pub reduce_ends : ReduceTask → Kernel → Kernel
reduce_ends x h = does (branch (called_builtin IsNil (h ∷ []) x.place) (const nil) (apply Post (kernels_of (const (port x.result) ∷ h ∷ [])) x.place) ∷ closes_result x ∷ [])

abbrev pub reduce_within : ReduceTask → Kernel → Kernel
reduce_within x u = let_name x.first u (reduce_ends x (var x.first))

abbrev pub reduce_text : ReduceTask → Kernel
reduce_text x = reduce_within x (does (loop [] (binding x.first (const x.initial) empty) (reduce_round x (var x.first)) ∷ []))
