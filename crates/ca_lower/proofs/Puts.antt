-- Values put in for names, one after another.
use Rattle.std.proofs.Common.{◌≡◌, ℕ, List, [], ◌∷◌, ◌++◌, refl, ap, ◌∙◌, true}
use Rattle.ca_value.specs.Tree.{Tree, trees_of}
use Rattle.ca_term.specs.declared.place.Place.{Place}
use Rattle.ca_term.specs.declared.head.Head.{Head}
use Rattle.ca_term.specs.Kernel.{Kernel, Kernels, Bindings, Founds, const, branch, bind, loop, seq, apply, none, item, empty, binding, put, put_items, put_bindings, puts}
use Rattle.ca_term.specs.Operands.{values_in}
use Rattle.ca_meaning.specs.Redex.{all_values, values_of}

abbrev pub puts_items : Founds → Kernels → Kernels
puts_items [] ts = ts
puts_items (f ∷ fs) ts = puts_items fs (put_items f.0 f.1 ts)

abbrev pub puts_bindings : Founds → Bindings → Bindings
puts_bindings [] bs = bs
puts_bindings (f ∷ fs) bs = puts_bindings fs (put_bindings f.0 f.1 bs)

pub puts-const : (fs : Founds) (v : Tree) → puts fs (const v) ≡ const v
puts-const [] v = refl
puts-const (f ∷ fs) v = puts-const fs v

pub puts-branch : (fs : Founds) (c a b : Kernel) → puts fs (branch c a b) ≡ branch (puts fs c) (puts fs a) (puts fs b)
puts-branch [] c a b = refl
puts-branch (f ∷ fs) c a b = puts-branch fs (put f.0 f.1 c) (put f.0 f.1 a) (put f.0 f.1 b)

pub puts-bind : (fs : Founds) (bs : Bindings) (body : Kernel) → puts fs (bind bs body) ≡ bind (puts_bindings fs bs) (puts fs body)
puts-bind [] bs body = refl
puts-bind (f ∷ fs) bs body = puts-bind fs (put_bindings f.0 f.1 bs) (put f.0 f.1 body)

pub puts-loop : (fs gs : Founds) (bs : Bindings) (body : Kernel) → puts fs (loop gs bs body) ≡ loop gs (puts_bindings fs bs) (puts fs body)
puts-loop [] gs bs body = refl
puts-loop (f ∷ fs) gs bs body = puts-loop fs gs (put_bindings f.0 f.1 bs) (put f.0 f.1 body)

pub puts-seq : (fs : Founds) (ts : Kernels) → puts fs (seq ts) ≡ seq (puts_items fs ts)
puts-seq [] ts = refl
puts-seq (f ∷ fs) ts = puts-seq fs (put_items f.0 f.1 ts)

pub puts-apply : (fs : Founds) (h : Head) (ts : Kernels) (p : Place) → puts fs (apply h ts p) ≡ apply h (puts_items fs ts) p
puts-apply [] h ts p = refl
puts-apply (f ∷ fs) h ts p = puts-apply fs h (put_items f.0 f.1 ts) p

pub puts_items-none : (fs : Founds) → puts_items fs none ≡ none
puts_items-none [] = refl
puts_items-none (f ∷ fs) = puts_items-none fs

pub puts_items-item : (fs : Founds) (t : Kernel) (ts : Kernels) → puts_items fs (item t ts) ≡ item (puts fs t) (puts_items fs ts)
puts_items-item [] t ts = refl
puts_items-item (f ∷ fs) t ts = puts_items-item fs (put f.0 f.1 t) (put_items f.0 f.1 ts)

pub puts_one : (fs : Founds) (t : Kernel) → puts_items fs (item t none) ≡ item (puts fs t) none
puts_one fs t = puts_items-item fs t none ∙ ap (item (puts fs t)) (puts_items-none fs)

pub puts_two : (fs : Founds) (t u : Kernel) → puts_items fs (item t (item u none)) ≡ item (puts fs t) (item (puts fs u) none)
puts_two fs t u = puts_items-item fs t (item u none) ∙ ap (item (puts fs t)) (puts_one fs u)

pub puts_three : (fs : Founds) (t u w : Kernel) → puts_items fs (item t (item u (item w none))) ≡ item (puts fs t) (item (puts fs u) (item (puts fs w) none))
puts_three fs t u w = puts_items-item fs t (item u (item w none)) ∙ ap (item (puts fs t)) (puts_two fs u w)

pub puts_bindings-empty : (fs : Founds) → puts_bindings fs empty ≡ empty
puts_bindings-empty [] = refl
puts_bindings-empty (f ∷ fs) = puts_bindings-empty fs

pub puts_bindings-binding : (fs : Founds) (n : ℕ) (t : Kernel) (bs : Bindings) → puts_bindings fs (binding n t bs) ≡ binding n (puts fs t) (puts_bindings fs bs)
puts_bindings-binding [] n t bs = refl
puts_bindings-binding (f ∷ fs) n t bs = puts_bindings-binding fs n (put f.0 f.1 t) (put_bindings f.0 f.1 bs)

pub puts-append : (fs gs : Founds) (t : Kernel) → puts (fs ++ gs) t ≡ puts gs (puts fs t)
puts-append [] gs t = refl
puts-append (f ∷ fs) gs t = puts-append fs gs (put f.0 f.1 t)

pub puts_bindings-append : (fs gs : Founds) (bs : Bindings) → puts_bindings (fs ++ gs) bs ≡ puts_bindings gs (puts_bindings fs bs)
puts_bindings-append [] gs bs = refl
puts_bindings-append (f ∷ fs) gs bs = puts_bindings-append fs gs (put_bindings f.0 f.1 bs)

-- values as terms
abbrev pub consts : List Tree → Kernels
consts [] = none
consts (v ∷ vs) = item (const v) (consts vs)

pub all-consts : (vs : List Tree) → all_values (consts vs) ≡ true
all-consts [] = refl
all-consts (v ∷ vs) = all-consts vs

pub values-consts : (vs : List Tree) → values_of (consts vs) ≡ trees_of vs
values-consts [] = refl
values-consts (v ∷ vs) = ap (Rattle.ca_value.specs.Tree.item v) (values-consts vs)

pub values_in-trees : (vs : List Tree) → values_in (trees_of vs) ≡ vs
values_in-trees [] = refl
values_in-trees (v ∷ vs) = ap (λ l. v ∷ l) (values_in-trees vs)

pub operands-consts : (vs : List Tree) → values_in (values_of (consts vs)) ≡ vs
operands-consts vs = ap values_in (values-consts vs) ∙ values_in-trees vs
