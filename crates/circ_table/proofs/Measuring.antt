-- The sizes and the depths of terms, one after another.
use Rattle.std.specs.Prelude.{◌≡◌, ℕ, ◌+◌, ◌≤◌, ◌<◌, max, List, [], length, drop, Some}
use Rattle.std.specs.List.{slice_get}
use Rattle.std.proofs.Common.{ap, subst, ◌∙◌, arith, get_or}
use Rattle.std.proofs.lemmas.Option.{same_Some}
use Rattle.circ_term.specs.Tree.{Tree, trees_of, size_of, depth_of, sizes_of, depths_of}
use Rattle.circ_term.specs.Limits.{node_limit, depth_limit, IsWithinLimits}
use Rattle.circ_term.proofs.Limits.{within_limits}
use Rattle.circ_term.proofs.Within.{drop_read}
use Rattle.circ_table.specs.declared.lines.Row.{Row}
use Rattle.circ_table.specs.Table.{firsts_at}
use Rattle.circ_table.specs.Lines.{PlainRoot}
use Rattle.circ_table.proofs.Firsts.{firsts_next, first_parts}
use Rattle.circ_table.proofs.Placing.{Stands, own_is}

-- what is left together with what was measured is all
abbrev pub Measured : (table : List Tree) (ns rest : List ℕ) (sizes depths : ℕ) → Type 0
Measured table ns rest sizes depths =
    (us : List Tree) → firsts_at table ns ≡ Some us
    → (vs : List Tree) × (firsts_at table rest ≡ Some vs) × (sizes + sizes_of (trees_of vs) ≡ sizes_of (trees_of us)) × (max depths (depths_of (trees_of vs)) ≡ depths_of (trees_of us))

pub measured_none : (table : List Tree) (ns : List ℕ) → Measured table ns ns 0 0
measured_none table ns us e = (us, e, omega arith, omega arith)

pub measured_all : (table : List Tree) (ns : List ℕ) (sizes depths : ℕ) (us : List Tree) → Measured table ns [] sizes depths → firsts_at table ns ≡ Some us
    → (sizes ≡ sizes_of (trees_of us)) × (depths ≡ depths_of (trees_of us))
measured_all table ns sizes depths us m e =
    let p = m us e in
    let none : [] ≡ p.0 = same_Some [] p.0 p.1 in
    let s = ap (λ ts. sizes_of (trees_of ts)) none in let d = ap (λ ts. depths_of (trees_of ts)) none in (omega (arith, s, p.2), omega (arith, d, p.3))

-- a row has the size and the depth of its tree, which are small
pub row_measures : {table : List Tree} {n : ℕ} {r : Row} {p : PlainRoot} (t : Tree) → Stands table n r p → slice_get table n ≡ Some t
    → (r.size ≡ size_of t) × (r.depth ≡ depth_of t) × (r.size ≤ node_limit) × (r.depth ≤ depth_limit)
row_measures t k e =
    let same = own_is k t e in
    let small = within_limits t (let P : Tree → Type 0 = λ x. IsWithinLimits x in subst P same k.node.within) in
    let size = k.node.size ∙ ap size_of same in let depth = k.node.depth ∙ ap depth_of same in (size, depth, omega (arith, size, small.0), omega (arith, depth, small.1))

-- the next number
pub next_first : (table : List Tree) (ns : List ℕ) (i n : ℕ) (us : List Tree) (sizes depths : ℕ) → i < length ns → n ≡ get_or ns i n → Measured table ns (drop i ns) sizes depths
    → firsts_at table ns ≡ Some us → (t : Tree) × (slice_get table n ≡ Some t)
next_first table ns i n us sizes depths b read m e =
    let p = m us e in
    let P : List ℕ → Type 0 = λ xs. firsts_at table xs ≡ Some p.0 in
    let q = firsts_next table n (drop (i + 1) ns) p.0 (subst P (drop_read ns i n b read) p.1) in (q.0, (first_parts table n q.0 q.2).0)

pub measured_more : (table : List Tree) (ns : List ℕ) (i n : ℕ) (sizes depths size depth : ℕ) → i < length ns → n ≡ get_or ns i n
    → ((t : Tree) → slice_get table n ≡ Some t → (size ≡ size_of t) × (depth ≡ depth_of t))
    → Measured table ns (drop i ns) sizes depths → Measured table ns (drop (i + 1) ns) (sizes + size) (max depths depth)
measured_more table ns i n sizes depths size depth b read own m us e =
    let p = m us e in
    let P : List ℕ → Type 0 = λ xs. firsts_at table xs ≡ Some p.0 in
    let q = firsts_next table n (drop (i + 1) ns) p.0 (subst P (drop_read ns i n b read) p.1) in
    let o = own q.0 (first_parts table n q.0 q.2).0 in
    let s = ap (λ ts. sizes_of (trees_of ts)) q.4 in
    let d = ap (λ ts. depths_of (trees_of ts)) q.4 in
    (q.1, q.3, omega (arith, s, p.2, o.0), omega (arith, d, p.3, o.1))
