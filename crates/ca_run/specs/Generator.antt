-- The script that the generator makes for a number: a pipeline of eight workers over so many numbers.
use Rattle.std.specs.Prelude.{ℕ, List, ◌++◌, codes, decimal}

abbrev pub before_number : List ℕ
before_number = codes "(defn step [x] (mod (+ (* x 37) 11) 1000))\n(def in (chan 16))\n(def out (chan 16))\n(pipeline 8 out (map step) in)\n(go-loop [i 0] (if (< i "

abbrev pub after_number : List ℕ
after_number = codes ") (do (>! in i) (recur (inc i))) (close! in)))\n(println (loop [s 0 k 0] (let [v (<!! out)] (if (nil? v) [k s] (recur (+ s v) (inc k))))))\n"

abbrev pub load_text : ℕ → List ℕ
load_text n = before_number ++ (decimal n ++ after_number)
