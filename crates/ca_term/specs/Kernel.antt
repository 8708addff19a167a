-- A kernel term, as plain data.
use Rattle.std.specs.Prelude.{ℕ, List, [], ◌∷◌, ◌==◌, cond}
use Rattle.ca_value.specs.Tree.{Tree}
use Rattle.ca_term.specs.declared.place.Place.{Place}
use Rattle.ca_term.specs.declared.head.Head.{Head}

-- a name's number and its value
abbrev pub Founds : Type 0
Founds = List (ℕ × Tree)

mutual
  pub data Kernel : Type 0 where
    const : Tree → Kernel
    var : ℕ → Kernel
    branch : Kernel → Kernel → Kernel → Kernel
    bind : Bindings → Kernel → Kernel
    loop : Founds → Bindings → Kernel → Kernel
    seq : Kernels → Kernel
    frame : Kernel → Kernel
    turn : List ℕ → Kernel → Kernel → Kernel
    apply : Head → Kernels → Place → Kernel

  pub data Kernels : Type 0 where
    none : Kernels
    item : Kernel → Kernels → Kernels

  pub data Bindings : Type 0 where
    empty : Bindings
    binding : ℕ → Kernel → Bindings → Bindings

-- the term with the value in place of the name. Nothing within a frame or a turn has a free name.
abbrev mutual
  pub put : ℕ → Tree → Kernel → Kernel
  put n v (const w) = const w
  put n v (var m) = cond (m == n) (const v) (var m)
  put n v (branch c a b) = branch (put n v c) (put n v a) (put n v b)
  put n v (bind bs body) = bind (put_bindings n v bs) (put n v body)
  put n v (loop fs bs body) = loop fs (put_bindings n v bs) (put n v body)
  put n v (seq ts) = seq (put_items n v ts)
  put n v (frame body) = frame body
  put n v (turn ns text now) = turn ns text now
  put n v (apply h ts p) = apply h (put_items n v ts) p

  pub put_items : ℕ → Tree → Kernels → Kernels
  put_items n v none = none
  put_items n v (item t ts) = item (put n v t) (put_items n v ts)

  pub put_bindings : ℕ → Tree → Bindings → Bindings
  put_bindings n v empty = empty
  put_bindings n v (binding m t bs) = binding m (put n v t) (put_bindings n v bs)

-- the values in place of the names, one after the other
abbrev pub puts : Founds → Kernel → Kernel
puts [] t = t
puts (f ∷ fs) t = puts fs (put f.0 f.1 t)
