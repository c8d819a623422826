-- Where lists end.
use Rattle.std.proofs.Common.{◌≡◌, ◌≤◌, ◌<◌, ◌+◌, ℕ, ◌==◌, if◌then◌else◌, List, [], ◌∷◌, zero, suc, length, take, drop, min, Option, Some, None, refl, ap, arith}
use Rattle.std.specs.Option.{option_or}
use Rattle.circ_term.specs.Tree.{Tree, Trees, Var, none, more, trees_of}
use Rattle.circ_theory.specs.Theory.{Derivative}
use Rattle.circ_theory.specs.Variables.{Variable, given}
use Rattle.circ_rewrite.specs.Matching.{images}
use Rattle.circ_proof.specs.Plain.{LinkOf}
use Rattle.std.specs.Global.{Vec}
use Rattle.std.specs.List.{slice_get}
use Rattle.circ_proof.specs.Plain.{plain_links}
use Rattle.circ_proof.specs.Link.{resolved_links}
use Rattle.circ_proof.specs.declared.links.Link.{Link}
use Rattle.circ_uses.specs.Certificates.{lists_in}
use Rattle.circ_expansion.specs.Expand.{links_for, links_after, first_links, later_links}
use Rattle.circ_uses.proofs.Guarding.{drop_at}

pub given_none : (vs : List Variable) (n s : ℕ) → given vs [] n s ≡ Var n s
given_none [] n s = refl
given_none (v ∷ vs) n s = refl

pub or_none : {X : Type 0} (o : Option X) → option_or o None ≡ o
or_none None = refl
or_none (Some x) = refl

-- behind the end of one of the lists nothing is matched
pub images_end : (ps ts : List Tree) (i n s : ℕ) → min (length ps) (length ts) ≤ i → images (trees_of (drop i ps)) (trees_of (drop i ts)) n s ≡ None
images_end [] ts zero n s h = refl
images_end [] ts (suc i) n s h = refl
images_end (p ∷ ps) [] zero n s h = refl
images_end (p ∷ ps) [] (suc i) n s h = none_left (trees_of (drop i ps))
  where
    none_left : (us : Trees) → images us none n s ≡ None
    none_left none = refl
    none_left (more u us) = refl
images_end (p ∷ ps) (t ∷ ts) zero n s h = absurd (omega (arith, h))
images_end (p ∷ ps) (t ∷ ts) (suc i) n s h = images_end ps ts i n s (omega (arith, h))

-- past the last derivative there is no list
pub none_for : (ds : List Derivative) (s : ℕ) (lss : List (List (LinkOf Tree))) (k : ℕ) → length ds ≤ k → links_for ds s lss k ≡ []
none_for [] s lss k h = refl
none_for (d ∷ ds) s lss zero h = absurd (omega arith)
none_for (d ∷ ds) s lss (suc k) h = none_for ds s (if d.hole == s then later_links lss else lss) k (omega arith)

-- the one for a derivative is the first after those before it
pub one_for : (ds : List Derivative) (s : ℕ) (lss : List (List (LinkOf Tree))) (k : ℕ) → k < length ds
    → links_for ds s lss k ≡ first_links (links_after (take k ds) s lss)
one_for [] s lss k h = absurd (omega arith)
one_for (d ∷ ds) s lss zero h = refl
one_for (d ∷ ds) s lss (suc k) h = one_for ds s (if d.hole == s then later_links lss else lss) k (omega arith)

-- the first of lists of links, with the terms of a table
abbrev pub first_in : (table : List Tree) → Option (Vec (Link ℕ)) → List (LinkOf Tree)
first_in table None = []
first_in table (Some v) = resolved_links table (plain_links v.items)

pub first_listed : (table : List Tree) (xs : List (Vec (Link ℕ))) → first_links (lists_in table xs) ≡ first_in table (slice_get xs 0)
first_listed table [] = refl
first_listed table (x ∷ xs) = refl

pub later_listed : (table : List Tree) (xs : List (Vec (Link ℕ))) → lists_in table (drop 1 xs) ≡ later_links (lists_in table xs)
later_listed table [] = refl
later_listed table (x ∷ xs) = ap (lists_in table) (drop_none xs)
  where
    drop_none : (ys : List (Vec (Link ℕ))) → drop 0 ys ≡ ys
    drop_none [] = refl
    drop_none (y ∷ ys) = refl

-- one derivative more is passed
pub after_next : (ds : List Derivative) (count s k : ℕ) (d : Derivative) → k < count → slice_get ds k ≡ Some d → (lss : List (List (LinkOf Tree)))
    → links_after (drop k (take count ds)) s lss ≡ links_after (drop (k + 1) (take count ds)) s (if d.hole == s then later_links lss else lss)
after_next ds count s k d lt e lss = ap (λ xs. links_after xs s lss) (drop_at (take count ds) k d (front ds count k lt e))
  where
    front : (ds : List Derivative) (count k : ℕ) → k < count → slice_get ds k ≡ Some d → slice_get (take count ds) k ≡ Some d
    front [] count k lt e = absurd (cc)
    front (x ∷ ds) zero k lt e = absurd (omega arith)
    front (x ∷ ds) (suc count) zero lt e = e
    front (x ∷ ds) (suc count) (suc k) lt e = front ds count k (omega arith) e
