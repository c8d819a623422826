-- What a range spells is no larger than the range.
use Rattle.std.proofs.Common.{◌<◌, ◌≤◌, ◌+◌, ℕ, List, [], ◌∷◌, length, ◌⊎◌, inl, inr, ap, arith}
use Rattle.circ_term.specs.Tree.{Tree, Trees, none, more, size_of, sizes_of}
use Rattle.circ_spelling.specs.declared.grammar.Symbol.{Symbol}
use Rattle.circ_spelling.specs.declared.grammar.Symbol.TheVariants.{Word, Hole}
use Rattle.circ_spelling.specs.declared.grammar.Grammar.{Grammar}
use Rattle.circ_spelling.specs.Reads.{Reads, Row, by_parentheses, by_variable, by_operator, row_end, row_word, row_hole}
use Rattle.circ_spelling.specs.Words.{words, HaveWords}

mutual
  pub reads_size : (g : Grammar) (ts : List ℕ) (b s i j : ℕ) (t : Tree) → Reads g ts b s i j t → HaveWords g → (size_of t + i ≤ j) × (j ≤ length ts) × (0 < size_of t)
  reads_size g ts b s i j t (by_parentheses m l o r c e) h = let k = reads_size g ts _ s (i + 1) m t r h in let k0 = k.0 in let w = c.inside in (omega arith, omega arith, k.2)
  reads_size g ts b s i j t (by_variable n v l p k e f z) h = let d = ap size_of z in let w = k.inside in (omega arith, omega arith, omega arith)
  reads_size g ts b s i j t (by_operator n r args l p k row z) h =
      let d = ap size_of z in let a = row_size g ts r.symbols.items i j args row h in let w = h n r l in let a0 = a.0 in
      (omega arith, a.1 (inl (omega arith)), omega arith)

  pub row_size : (g : Grammar) (ts : List ℕ) (ps : List Symbol) (i j : ℕ) (args : Trees) → Row g ts ps i j args → HaveWords g
      → (sizes_of args + words ps + i ≤ j) × ((i < j) ⊎ (i ≤ length ts) → j ≤ length ts)
  row_size g ts [] i j none (row_end e) h = (omega arith, λ w. end_within w)
    where
      end_within : (i < j) ⊎ (i ≤ length ts) → j ≤ length ts
      end_within (inl w) = absurd (omega arith)
      end_within (inr w) = omega arith
  row_size g ts (Word w ∷ ps) i j args (row_word t r) h = let k = row_size g ts ps (i + 1) j args r h in let k0 = k.0 in let w = t.inside in (omega arith, λ x. k.1 (inr (omega arith)))
  row_size g ts (Hole s b ∷ ps) i j (more t args) (row_hole m d r) h =
      let k = row_size g ts ps m j args r h in let l = reads_size g ts b s i m t d h in let k0 = k.0 in let l0 = l.0 in let l1 = l.1 in (omega arith, λ x. k.1 (inr l1))

pub reads_forward : (g : Grammar) (ts : List ℕ) (b s i j : ℕ) (t : Tree) → Reads g ts b s i j t → HaveWords g → i < j
reads_forward g ts b s i j t r h = let k = reads_size g ts b s i j t r h in let k0 = k.0 in let k2 = k.2 in omega arith

abbrev pub Forward : List Symbol → ℕ → ℕ → Type 0
Forward [] i j = i ≤ j
Forward (p ∷ ps) i j = i < j

pub forward_le : (ps : List Symbol) (i j : ℕ) → Forward ps i j → i ≤ j
forward_le [] i j h = h
forward_le (p ∷ ps) i j h = omega arith

pub row_forward : (g : Grammar) (ts : List ℕ) (ps : List Symbol) (i j : ℕ) (args : Trees) → Row g ts ps i j args → HaveWords g → Forward ps i j
row_forward g ts [] i j args r h = let k = (row_size g ts [] i j args r h).0 in omega arith
row_forward g ts (Word w ∷ ps) i j args r h = let k = (row_size g ts (Word w ∷ ps) i j args r h).0 in omega arith
row_forward g ts (Hole s b ∷ ps) i j none r h = elim r [ ]
row_forward g ts (Hole s b ∷ ps) i j (more t args) (row_hole m d r) h =
    let k = (row_size g ts ps m j args r h).0 in let l = reads_forward g ts b s i m t d h in omega arith
