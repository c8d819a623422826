-- Joining terms from the right, one at a time, in a table that grows.
use Rattle.std.proofs.Common.{◌≡◌, ℕ, ◌<◌, List, [], ◌∷◌, ◌++◌, length, true, None, refl, ap, sym, subst, ◌∙◌}
use Rattle.circ_term.specs.Tree.{Tree, trees_of}
use Rattle.circ_term.specs.Limits.{first_limit, first_limits, Names}
use Rattle.circ_term.specs.Growing.{Grows}
use Rattle.circ_term.specs.declared.fault.TermFault.{TermFault}
use Rattle.circ_theory.specs.Signature.{Operator}
use Rattle.circ_theory.specs.Theory.{twice}
use Rattle.circ_aci.specs.Content.{leaves}
use Rattle.circ_aci.specs.Canonical.{join}
use Rattle.circ_aci.specs.Row.{is_row, first_in}
use Rattle.circ_aci.proofs.Joined.{folded, folded-push, folded-join, folded_fault, limits-push}
use Rattle.circ_aci.proofs.Rows.{in_row}
use Rattle.circ_nodes.specs.Named.{IsNamed, tree_at}
use Rattle.circ_nodes.proofs.Numbers.{grows_more, named_below}
use Rattle.circ_forms.specs.Named.{trees_at, AreThere}
use Rattle.circ_forms.specs.Taking.{joined_at}
use Rattle.circ_nodes.proofs.Located.{named_tree, tree_later}

-- the parts that are left, and what the others were joined to
pub record IsFolding (start now : List Tree) (f k : ℕ) (parts : List ℕ) (joined : ℕ) (all : List ℕ) (last : ℕ) : Type 0 where
  pub grows : Grows start now
  pub below : AreThere start parts
  pub within : first_limits (trees_of (trees_at start parts)) ≡ None
  pub there : joined < length now
  pub same : folded f k (trees_at start parts) (tree_at now joined) ≡ joined_at start f k all last

pub trees_push : (nodes : List Tree) (ns : List ℕ) (n : ℕ) → trees_at nodes (ns ++ n ∷ []) ≡ trees_at nodes ns ++ tree_at nodes n ∷ []
trees_push nodes [] n = refl
trees_push nodes (m ∷ ns) n = ap (λ ts. tree_at nodes m ∷ ts) (trees_push nodes ns n)

pub there_push : (nodes : List Tree) (ns : List ℕ) (n : ℕ) → AreThere nodes (ns ++ n ∷ []) → AreThere nodes ns × (n < length nodes)
there_push nodes [] n a = (tt, a.0)
there_push nodes (m ∷ ns) n a = let h = there_push nodes ns n a.1 in ((a.0, h.0), h.1)

pub push_there : (nodes : List Tree) (ns : List ℕ) (n : ℕ) → AreThere nodes ns → n < length nodes → AreThere nodes (ns ++ n ∷ [])
push_there nodes [] n a h = (h, tt)
push_there nodes (m ∷ ns) n a h = (a.0, push_there nodes ns n a.1 h)

-- what was joined, with the last part that is left in front
whole : (start now : List Tree) (f k : ℕ) (parts rest : List ℕ) (part joined : ℕ) (all : List ℕ) (last : ℕ)
    → IsFolding start now f k parts joined all last → parts ≡ rest ++ part ∷ []
    → folded f k (trees_at start rest) (twice f k (tree_at now part) (tree_at now joined)) ≡ joined_at start f k all last
whole start now f k parts rest part joined all last i e =
    let P : List ℕ → Type 0 = AreThere start in
    let there = there_push start rest part (subst P e i.below) in
    ap (λ t. folded f k (trees_at start rest) (twice f k t (tree_at now joined))) (tree_later start now part i.grows there.1)
    ∙ sym (folded-push f k (trees_at start rest) (tree_at start part) (tree_at now joined))
    ∙ ap (λ ts. folded f k ts (tree_at now joined)) (sym (trees_push start rest part) ∙ ap (trees_at start) (sym e))
    ∙ i.same

within_rest : (start : List Tree) (parts rest : List ℕ) (part : ℕ) → parts ≡ rest ++ part ∷ []
    → first_limits (trees_of (trees_at start parts)) ≡ None → first_limits (trees_of (trees_at start rest)) ≡ None
within_rest start parts rest part e h =
    let P : List Tree → Type 0 = λ ts. first_limits (trees_of ts) ≡ None in
    limits-push (trees_at start rest) (tree_at start part) (subst P (ap (trees_at start) e ∙ trees_push start rest part) h)

pub folding_next : (start now new : List Tree) (f k : ℕ) (parts rest : List ℕ) (part joined n : ℕ) (all : List ℕ) (last : ℕ)
    → IsFolding start now f k parts joined all last → parts ≡ rest ++ part ∷ [] → Grows now new
    → IsNamed new n (twice f k (tree_at now part) (tree_at now joined)) → IsFolding start new f k rest n all last
folding_next start now new f k parts rest part joined n all last i e g named =
    let P : List ℕ → Type 0 = AreThere start in
    record {
      grows = grows_more start now new i.grows g;
      below = (there_push start rest part (subst P e i.below)).0;
      within = within_rest start parts rest part e i.within;
      there = named_below new n (twice f k (tree_at now part) (tree_at now joined)) named;
      same =
          ap (folded f k (trees_at start rest)) (named_tree new n (twice f k (tree_at now part) (tree_at now joined)) named)
          ∙ whole start now f k parts rest part joined all last i e;
    }

pub folding_fault : (start now : List Tree) (f k : ℕ) (parts rest : List ℕ) (part joined : ℕ) (all : List ℕ) (last : ℕ) (x : TermFault)
    → IsFolding start now f k parts joined all last → parts ≡ rest ++ part ∷ []
    → Names x (first_limit (twice f k (tree_at now part) (tree_at now joined))) → Names x (first_limit (joined_at start f k all last))
folding_fault start now f k parts rest part joined all last x i e h =
    let P : Tree → Type 0 = λ t. Names x (first_limit t) in
    subst P (whole start now f k parts rest part joined all last i e)
    (folded_fault f k (trees_at start rest) (twice f k (tree_at now part) (tree_at now joined)) x (within_rest start parts rest part e i.within) h)

-- a row that comes last, whole or as what it joins
pub row_last : (o : Operator) (f : ℕ) (xs : List Tree) (r : Tree) → is_row o f r ≡ true
    → join f o.result (xs ++ leaves f r) ≡ join f o.result (xs ++ r ∷ [])
row_last o f xs r e = by xs ∙ folded-join f o.result xs r
  where
    row : leaves f r ≡ first_in f r ∷ (in_row o f r e).rest
    row = (in_row o f r e).starts

    ends : join f o.result (leaves f r) ≡ r
    ends = ap (join f o.result) row ∙ (in_row o f r e).joined

    by : (ys : List Tree) → join f o.result (ys ++ leaves f r) ≡ folded f o.result ys r
    by [] = ends
    by (y ∷ []) =
        ap (λ zs. join f o.result (y ∷ zs)) row
        ∙ ap (twice f o.result y) (ap (join f o.result) (sym row) ∙ ends)
    by (y ∷ z ∷ zs) = ap (twice f o.result y) (by (z ∷ zs))
