-- The greater of numbers.
use Rattle.std.proofs.Common.{◌≡◌, ℕ, ◌≤◌, Bool, true, false, cond, arith}
use Rattle.std.specs.Prelude.{nat_lt}
use Rattle.ca_lower.specs.Emit.{greater}
use Rattle.ca_lower.proofs.Sound.{enough}

least : (m n w : ℕ) → m ≤ w → n ≤ w → greater m n ≤ w
least m n w a b = by (nat_lt m n)
  where
    by : (o : Bool) → cond o n m ≤ w
    by true = b
    by false = a

pub greater_zero : (n : ℕ) → greater 0 n ≡ n
greater_zero n =
    let a = enough 0 n (greater 0 n) (omega arith) in
    let b = least 0 n n (omega arith) (omega arith) in
    let c = a.1 in
    omega (arith, b, c)

pub greater_assoc : (a b c : ℕ) → greater (greater a b) c ≡ greater a (greater b c)
greater_assoc a b c =
    let l = enough (greater a b) c (greater (greater a b) c) (omega arith) in
    let m = enough a b (greater (greater a b) c) l.0 in
    let r = enough a (greater b c) (greater a (greater b c)) (omega arith) in
    let s = enough b c (greater a (greater b c)) r.1 in
    let le = least (greater a b) c (greater a (greater b c)) (least a b (greater a (greater b c)) r.0 s.0) s.1 in
    let ge = least a (greater b c) (greater (greater a b) c) m.0 (least b c (greater (greater a b) c) m.1 l.1) in
    omega (arith, le, ge)

pub greater_none : (n : ℕ) → greater n 0 ≡ n
greater_none n =
    let a = enough n 0 (greater n 0) (omega arith) in
    let b = least n 0 n (omega arith) (omega arith) in
    let c = a.0 in
    omega (arith, b, c)
