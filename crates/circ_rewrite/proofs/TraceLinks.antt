-- Traces as links, one after the other: what is done and what is left, which is nested no deeper.
use Rattle.std.proofs.Common.{◌≡◌, ◌≤◌, ◌<◌, ◌+◌, ◌*◌, ℕ, List, [], ◌∷◌, ◌++◌, length, map, refl, ap, sym, ◌∙◌, arith, append-nil}
use Rattle.std.specs.declared.vec.IntoIter.{IntoIter}
use Rattle.std.specs.Vec.Iter.{into_iter_len, into_iter_items}
use Rattle.circ_term.specs.Tree.{Tree}
use Rattle.circ_proof.specs.Plain.{ChainOf, ChainsOf, more_links, more_chains, row_of, chains_of}
use Rattle.circ_proof.specs.Nesting.{link_nesting, chains_nesting, links_nesting}
use Rattle.circ_proof.proofs.LinkRows.{row_depth}
use Rattle.circ_rewrite.specs.Replacement.{Traced, trace_row}
use Rattle.circ_rewrite.specs.Plain.{plain_traces, plain_passes}
use Rattle.circ_rewrite.specs.Links.{rule_link, link_of, row_by, chains_by}
use Rattle.circ_rewrite.specs.declared.parts.Pass.{Pass}
use Rattle.circ_rewrite.specs.declared.parts.RuleName.{RuleName}
use Rattle.circ_rewrite.specs.declared.parts.RuleName.TheVariants as name

row_is : (ts : List Traced) → row_by (trace_row ts) ≡ row_of (map link_of ts)
row_is [] = refl
row_is (tr ∷ ts) = ap (more_links (link_of tr)) (row_is ts)

-- the chain that records a pass
abbrev pub chain_by : Pass → ChainOf Tree
chain_by p = record { left = map link_of (plain_traces p.left.items); right = map link_of (plain_traces p.right.items) }

abbrev pub chains_nested : List (ChainOf Tree) → ℕ
chains_nested cs = chains_nesting (chains_of cs)

pub chains_are : (ps : List Pass) → chains_by (plain_passes ps) ≡ chains_of (map chain_by ps)
chains_are [] = refl
chains_are (p ∷ ps) = λ i.
    more_chains (row_is (plain_traces p.left.items) i) (row_is (plain_traces p.right.items) i) (chains_are ps i)

-- both sides of a pass are nested less deep than the passes that it is one of
pub left_falls : (p : Pass) (left rest whole : List Pass) → left ≡ p ∷ rest → chains_nested (map chain_by left) ≤ chains_nested (map chain_by whole)
    → 4 * links_nesting (map link_of (plain_traces p.left.items)) + 2 < 4 * chains_nested (map chain_by whole)
left_falls p left rest whole e h =
    let d = row_depth (map link_of (plain_traces p.left.items)) in
    let n = ap (λ ps. chains_nested (map chain_by ps)) e in
    omega (arith, h, n, d)

pub right_falls : (p : Pass) (left rest whole : List Pass) → left ≡ p ∷ rest → chains_nested (map chain_by left) ≤ chains_nested (map chain_by whole)
    → 4 * links_nesting (map link_of (plain_traces p.right.items)) + 2 < 4 * chains_nested (map chain_by whole)
right_falls p left rest whole e h =
    let d = row_depth (map link_of (plain_traces p.right.items)) in
    let n = ap (λ ps. chains_nested (map chain_by ps)) e in
    omega (arith, h, n, d)

pub rule_nested : (n : RuleName) (path : List ℕ) (terms : List Tree) (cs : ChainsOf Tree) → link_nesting (rule_link n path terms cs) ≡ chains_nesting cs
rule_nested (name.Equation n) path terms cs = refl
rule_nested (name.Lemma n) path terms cs = refl

-- what is done and what is left are the whole, and what is left is nested no deeper
pub record IsDoneInPart {Y : Type 0} (nested : List Y → ℕ) (done left whole : List Y) : Type 0 where
  pub parts : done ++ left ≡ whole
  pub least : nested left ≤ nested whole

none_long : {X : Type 0} (xs : List X) → length xs ≡ 0 → xs ≡ []
none_long [] e = refl
none_long (x ∷ xs) e = absurd (omega (arith, e))

-- nothing is left
pub all_done : {X Y Z : Type 0} (nested : List Y → ℕ) (f : X → Y) (done : List Y) (it : IntoIter X Z) (whole : List X) → into_iter_len it ≡ 0
    → IsDoneInPart nested done (map f (into_iter_items it)) (map f whole) → done ≡ map f whole
all_done nested f done it whole e h =
    let none = none_long it.rest.items (sym it.rest.ok.0 ∙ e) in
    sym (append-nil done) ∙ sym (ap (λ xs. done ++ map f xs) none) ∙ h.parts
