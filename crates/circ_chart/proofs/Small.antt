-- Terms that few tokens spell pass no limit.
use Rattle.std.proofs.Common.{◌≡◌, ◌<◌, ◌≤◌, ℕ, List, [], ◌∷◌, length, Some, None, Option, inl, inr, ap, refl, sym, ◌∙◌, arith}
use Rattle.circ_term.specs.Tree.{Tree, Trees, Var, App, none, more, size_of, sizes_of, depth_of, depths_of, trees_of, args_of}
use Rattle.circ_term.proofs.Trees.{trees_of-list_of}
use Rattle.circ_term.specs.Limits.{first_limit, Limit, Big, Deep, Names}
use Rattle.circ_term.specs.declared.fault.TermFault.{TermFault}
use Rattle.circ_term.specs.declared.fault.TermFault.TheVariants.{TooBig, TooDeep, Memory}
use Rattle.circ_term.proofs.Limits.{first_limit_none}
use Rattle.circ_spelling.specs.declared.grammar.Symbol.{Symbol}
use Rattle.circ_spelling.specs.declared.grammar.Grammar.{Grammar}
use Rattle.circ_spelling.specs.Limits.{most_tokens}
use Rattle.circ_spelling.specs.Words.{HaveWords}
use Rattle.circ_spelling.proofs.Sizes.{row_size}
use Rattle.circ_chart.specs.declared.few.Few.{Few}
use Rattle.circ_chart.specs.declared.few.Few.TheVariants.{Empty, One, Two}
use Rattle.circ_chart.specs.Members.{In}
use Rattle.circ_chart.specs.Rows.{RowsOf}
use Rattle.circ_chart.specs.Small.{IsSmall, IsSmallFew}

small_row : (g : Grammar) (ts : List ℕ) (op sort : ℕ) (ps : List Symbol) (m end : ℕ) (z : Tree) → HaveWords g → length ts ≤ most_tokens → end ≤ length ts → RowsOf g ts op sort ps m end z → IsSmall z
small_row g ts op sort ps m end z h l w r = let k = (row_size g ts ps m end r.args r.row h).0 in let d = ap size_of r.is in omega arith

pub small_rows : (g : Grammar) (ts : List ℕ) (op sort : ℕ) (ps : List Symbol) (m end : ℕ) (few : Few) → HaveWords g → length ts ≤ most_tokens → end ≤ length ts
    → ((z : Tree) → In few z → RowsOf g ts op sort ps m end z) → IsSmallFew few
small_rows g ts op sort ps m end Empty h l w f = tt
small_rows g ts op sort ps m end (One a) h l w f = small_row g ts op sort ps m end a h l w (f a refl)
small_rows g ts op sort ps m end (Two a b) h l w f = (small_row g ts op sort ps m end a h l w (f a (inl refl)), small_row g ts op sort ps m end b h l w (f b (inr refl)))

-- no node of a small term passes a limit
mutual
  depth_le-size : (t : Tree) → depth_of t ≤ size_of t
  depth_le-size (Var n s) = omega arith
  depth_le-size (App f s ts) = let k = depths_le-sizes ts in omega arith

  depths_le-sizes : (ts : Trees) → depths_of ts ≤ sizes_of ts
  depths_le-sizes none = omega arith
  depths_le-sizes (more t ts) = let a = depth_le-size t in let b = depths_le-sizes ts in omega arith

pub no_limit : (op sort : ℕ) (ts : Trees) → sizes_of ts ≤ 999 → first_limit (App op sort ts) ≡ None
no_limit op sort ts l = let d = depths_le-sizes ts in first_limit_none (App op sort ts) (omega arith) (omega arith)

unlimited : (o : Option Limit) (l : Limit) → o ≡ None → o ≡ Some l → ⊥
unlimited o l a b = absurd (let z : None ≡ Some l = sym a ∙ b in cc)

-- and so the only fault is want of memory
pub no_fault : (e : TermFault) (op sort : ℕ) (ts : Trees) → sizes_of ts ≤ 999 → Names e (first_limit (App op sort ts)) → e ≡ Memory
no_fault Memory op sort ts l n = refl
no_fault (TooBig m) op sort ts l n = absurd (unlimited (first_limit (App op sort ts)) (Big m) (no_limit op sort ts l) n)
no_fault (TooDeep m) op sort ts l n = absurd (unlimited (first_limit (App op sort ts)) (Deep m) (no_limit op sort ts l) n)

some_size : (t : Tree) → 0 < size_of t
some_size (Var n s) = omega arith
some_size (App f s ts) = omega arith

pub few_args : (ts : List Tree) → length ts ≤ sizes_of (trees_of ts)
few_args [] = omega arith
few_args (t ∷ ts) = let a = few_args ts in let b = some_size t in omega arith

-- the arguments of a small term, with a small term before them
pub args_size : (t : Tree) → sizes_of (trees_of (args_of t)) ≤ size_of t
args_size (Var n s) = omega arith
args_size (App f s ts) = let k = ap sizes_of (trees_of-list_of ts) in omega arith
