-- The keys by which the terms of a table are found.
use Rattle.std.specs.Prelude.{◌≡◌, ℕ, ◌*◌, ◌/◌, ◌%◌, ◌^◌, ◌≤◌, bit_xor, List, length, fold, map}
use Rattle.circ_proof.specs.Table.{term_limit}
use Rattle.circ_table.specs.declared.lines.Lines.{Lines}
use Rattle.circ_table.specs.Lines.{PlainRoot, roots, AreLines}

-- a hash with one number more
abbrev pub folded : ℕ → ℕ
folded product = bit_xor product (product / 2 ^ 32)

unfoldable pub mixed : ℕ → ℕ → ℕ
mixed hash number = folded (bit_xor hash number * 11400714819323198485 % 2 ^ 64)

abbrev pub hash_of : PlainRoot → ℕ
hash_of p = fold mixed (mixed (mixed 0 p.name) p.sort) p.args

-- the upper half of a root's hash
abbrev pub root_key : PlainRoot → ℕ
root_key p = hash_of p / 2 ^ 32

-- what a table that grows keeps: beside the lines the keys of their roots
pub record AreRows (l : Lines) (keys : List ℕ) : Type 0 where
  pub lines : AreLines l
  pub few : length l.rows.items ≤ term_limit
  pub keyed : keys ≡ map root_key (roots l)
