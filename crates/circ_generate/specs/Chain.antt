-- The texts that `generate` makes: a theory of a chain of streams that are all zeros, and a script of its goals.
use Rattle.std.specs.Prelude.{ℕ, zero, suc, ◌+◌, ◌==◌, if◌then◌else◌, List, [], ◌++◌, codes, decimal}

-- the texts for the numbers below n, one after another
abbrev pub each_below : (text : ℕ → List ℕ) → ℕ → List ℕ
each_below text zero = []
each_below text (suc n) = each_below text n ++ text n

-- the stream of a number
abbrev pub link_name : ℕ → List ℕ
link_name i = codes "c" ++ decimal i

-- the number after i, and 0 after the last
abbrev pub next_in : (last i : ℕ) → ℕ
next_in last i = if i == last then 0 else i + 1

abbrev pub op_text : ℕ → List ℕ
op_text i = codes "  op " ++ link_name i ++ codes " : -> Stream .\n"

-- each stream begins with 0, and goes on with the next one
abbrev pub eqs_text : (last : ℕ) → ℕ → List ℕ
eqs_text last i =
    codes "  eq hd(" ++ link_name i ++ codes ") = 0 .\n  eq tl(" ++ link_name i ++ codes ") = " ++ link_name (next_in last i) ++ codes " .\n"

-- a chain of the streams from 0 to n
abbrev pub chain_theory : ℕ → List ℕ
chain_theory n =
    codes "theory CHAIN is\n  inc BITS .\n" ++ each_below op_text (n + 1) ++ each_below (eqs_text n) (n + 1) ++ codes "endtheory\n"

abbrev pub goal_text : ℕ → List ℕ
goal_text i = codes "add goal " ++ link_name i ++ codes " = " ++ link_name (i + 1) ++ codes " .\n"

-- each stream is the next one
abbrev pub chain_script : ℕ → List ℕ
chain_script n = each_below goal_text n ++ codes "coinduction .\n"
