-- What pieces lead to is derivable, and pieces can be turned.
use Rattle.std.proofs.Common.{◌≡◌, ℕ, List, [], ◌∷◌, ◌++◌, refl, sym, ◌∙◌, subst}
use Rattle.std.specs.List.{Contains}
use Rattle.circ_term.specs.Tree.{Tree, sort_of}
use Rattle.circ_term.specs.Limits.{IsWithinLimits}
use Rattle.circ_term.specs.Substitution.{Substitution, instance}
use Rattle.circ_term.specs.Subst.{substitution_of}
use Rattle.circ_term.proofs.Paths.{at_replaced}
use Rattle.circ_theory.specs.Signature.{IsWellSorted}
use Rattle.circ_theory.specs.Theory.{Theory, Pair, sides, goal_of, CaseList, IsWellSortedPair, AreWellSortedPairs}
use Rattle.circ_theory.specs.WellFormed.{IsWellFormed}
use Rattle.circ_theory.specs.Derivable.{Derivable, by_same, by_chain, by_cases, is_case}
use Rattle.circ_theory.specs.Rewriting.{from_side, to_side, by_terms, Replaces}
use Rattle.circ_theory.specs.declared.way.Way.{Way}
use Rattle.circ_theory.specs.declared.way.Way.TheVariants.{Forth, Back}
use Rattle.circ_theory.proofs.Casing.{contains_first}
use Rattle.circ_theory.proofs.Congruence.{KeepsDerivable, replaced_keeps}
use Rattle.circ_theory.proofs.Instances.{sort_of-instance_by, instance_well_sorted, derivable_instance}
use Rattle.circ_theory.proofs.Weakening.{in_rest, weaken}
use Rattle.circ_aci.proofs.Deriving.{same_content_derivable}
use Rattle.circ_proof.specs.Plain.{Equation_link, Assumption_link, no_chain}
use Rattle.circ_proof.specs.Link.{setting}
use Rattle.circ_proof.proofs.Cases.{case_sorted}
use Rattle.circ_proof.proofs.Leading.{IsSortedSetting, link_follows}
use Rattle.circ_proof.proofs.Members.{nothing, pick}
use Rattle.circ_expansion.specs.Pieces.{Piece, Pieces, Parts, Equation_piece, Content_piece, Assumption_piece, Cases_piece, no_piece, more_pieces, no_part}
use Rattle.circ_expansion.specs.Pieces.{more_parts, pieces_joined, other_way, turned_piece, turned, turned_parts, PieceLeads, PiecesLead, PartsLead}
use Rattle.circ_expansion.proofs.Putting.{replaced_back}

-- ---- derivable

weaker : (th : Theory) (A : List Pair) (t u : Tree) → KeepsDerivable th [] t u → KeepsDerivable th A t u
weaker th A t u k = record { derivable = weaken th k.derivable A (λ q c. nothing q c); well_sorted = k.well_sorted; same_sort = k.same_sort }

-- a member of a list with one item more at its end
pub last_to_first : {X : Type 0} (A : List X) (p q : X) → Contains (A ++ p ∷ []) q → Contains (p ∷ A) q
last_to_first [] p q c = c
last_to_first {X = X} (x ∷ A) p q c =
    let P : X → Type 0 = Contains (p ∷ x ∷ A) in
    pick P x q (A ++ p ∷ []) (in_rest p x (x ∷ A) (contains_first x A))
    (λ d. pick P p q A (contains_first p (x ∷ A)) (λ e. in_rest p q (x ∷ A) (in_rest x q A e)) (last_to_first A p q d)) c

pub more_sorted : (th : Theory) (A : List Pair) (p : Pair) → AreWellSortedPairs th.signature A → IsWellSortedPair th.signature p
    → AreWellSortedPairs th.signature (A ++ p ∷ [])
more_sorted th A p a w q c = pick (IsWellSortedPair th.signature) p q A w (λ d. a q d) (last_to_first A p q c)

some_constant : (ks : List ℕ) → (ks ≡ [] → ⊥) → (k : ℕ) × Contains ks k
some_constant [] h = absurd (h refl)
some_constant (k ∷ ks) h = (k, contains_first k ks)

bare : (th : Theory) → IsWellFormed th → (A : List Pair) → AreWellSortedPairs th.signature A → IsSortedSetting (setting th [] [] A)
bare th ok A sa = record { well_formed = ok; hypotheses = λ g c. nothing g c; assumptions = sa }

mutual
  pub piece_follows : (th : Theory) → IsWellFormed th → (A : List Pair) → AreWellSortedPairs th.signature A → (x : Piece) (a b : Tree)
      → IsWellSorted th.signature a → PieceLeads th A x a b → KeepsDerivable th A a b
  piece_follows th ok A sa (Equation_piece number way path terms) a b wa r =
      link_follows (setting th [] [] A) (bare th ok A sa) (Equation_link number way path terms no_chain) (r.0, tt) tt a b wa r.1
  piece_follows th ok A sa (Content_piece op path old new by) a b wa r =
      let sig = th.signature in
      let σ : Substitution = substitution_of by in
      let c = r.content in
      let same : Derivable th [] old new = same_content_derivable th ok [] op c.operator c.there old new r.old_sorted r.new_sorted c.same_content in
      weaker th A a b
      (replaced_keeps th [] path a (instance σ old) (instance σ new) b wa r.replaces.there (instance_well_sorted sig σ new r.by_sorted r.new_sorted)
      (sort_of-instance_by sig σ new r.by_sorted r.new_sorted ∙ c.same_sort ∙ sym (sort_of-instance_by sig σ old r.by_sorted r.old_sorted))
      (derivable_instance th σ r.by_sorted same) r.replaces.made)
  piece_follows th ok A sa (Assumption_piece number way path) a b wa r =
      link_follows (setting th [] [] A) (bare th ok A sa) (Assumption_link number way path) tt tt a b wa r
  piece_follows th ok A sa (Cases_piece u parts) a b wa r =
      let l : CaseList = r.0 in
      let each = parts_follow th ok A sa u l r.1 r.2 r.3 l.constants (λ k c. c) parts a b wa r.4 in
      let k = some_constant l.constants (ok.cases l r.1).some in
      let one = each k.0 k.1 in
      record {
        derivable = by_cases u l r.1 r.2 r.3 (λ j c. weaken th (each j c).derivable (is_case u l j ∷ A) (λ q d. last_to_first A (is_case u l j) q d));
        well_sorted = one.well_sorted;
        same_sort = one.same_sort;
      }

  pub pieces_follow : (th : Theory) → IsWellFormed th → (A : List Pair) → AreWellSortedPairs th.signature A → (xs : Pieces) (a b : Tree)
      → IsWellSorted th.signature a → PiecesLead th A xs a b → KeepsDerivable th A a b
  pieces_follow th ok A sa no_piece a b wa r =
      let P : Tree → Type 0 = KeepsDerivable th A a in
      subst P r (record { derivable = by_same a wa; well_sorted = wa; same_sort = refl })
  pieces_follow th ok A sa (more_pieces x xs) a b wa r =
      let k = piece_follows th ok A sa x a r.0 wa r.1 in
      let q = pieces_follow th ok A sa xs r.0 b k.well_sorted r.2 in
      record { derivable = by_chain r.0 k.derivable q.derivable; well_sorted = q.well_sorted; same_sort = q.same_sort ∙ k.same_sort }

  parts_follow : (th : Theory) → IsWellFormed th → (A : List Pair) → AreWellSortedPairs th.signature A → (u : Tree) (l : CaseList) → Contains th.cases l
      → IsWellSorted th.signature u → sort_of u ≡ l.sort
      → (ks : List ℕ) → ((k : ℕ) → Contains ks k → Contains l.constants k) → (ps : Parts) (a b : Tree) → IsWellSorted th.signature a
      → PartsLead th A u l ks ps a b
      → (k : ℕ) → Contains ks k → KeepsDerivable th (A ++ is_case u l k ∷ []) a b
  parts_follow th ok A sa u l cl wu su [] h no_part a b wa r k c = nothing k c
  parts_follow th ok A sa u l cl wu su [] h (more_parts p ps) a b wa r k c = absurd r
  parts_follow th ok A sa u l cl wu su (j ∷ ks) h no_part a b wa r k c = absurd r
  parts_follow th ok A sa u l cl wu su (j ∷ ks) h (more_parts p ps) a b wa r k c =
      let P : ℕ → Type 0 = λ x. KeepsDerivable th (A ++ is_case u l x ∷ []) a b in
      pick P j k ks
      (pieces_follow th ok (A ++ is_case u l j ∷ []) (more_sorted th A (is_case u l j) sa
      (case_sorted th ok u l j cl (h j (contains_first j ks)) wu su)) p a b wa r.0)
      (λ d. parts_follow th ok A sa u l cl wu su ks (λ y e. h y (in_rest j y ks e)) ps a b wa r.1 k d) c

-- ---- joined and turned

pub joined_lead : (th : Theory) (A : List Pair) (xs ys : Pieces) (a b c : Tree) → PiecesLead th A xs a b → PiecesLead th A ys b c
    → PiecesLead th A (pieces_joined xs ys) a c
joined_lead th A no_piece ys a b c r s = let P : Tree → Type 0 = λ x. PiecesLead th A ys x c in subst P (sym r) s
joined_lead th A (more_pieces x xs) ys a b c r s = (r.0, r.1, joined_lead th A xs ys r.0 b c r.2 s)

from_other : (w : Way) (p : Pair) → from_side (other_way w) p ≡ to_side w p
from_other Forth p = refl
from_other Back p = refl

to_other : (w : Way) (p : Pair) → to_side (other_way w) p ≡ from_side w p
to_other Forth p = refl
to_other Back p = refl

replaces_back : (t : Tree) (path : List ℕ) (old new u : Tree) → IsWithinLimits t → Replaces t path old new u → Replaces u path new old t
replaces_back t path old new u w r = record { there = at_replaced path t new u r.made; made = replaced_back path t old new u r.there r.made; within = w }

-- each term on the way is within the limits, so turned pieces lead back from one within the limits
mutual
  pub piece_within : (th : Theory) → IsWellFormed th → (A : List Pair) (x : Piece) (a b : Tree) → PieceLeads th A x a b → IsWithinLimits a → IsWithinLimits b
  piece_within th ok A (Equation_piece number way path terms) a b r w = r.1.0.rewrites.replaces.within
  piece_within th ok A (Content_piece op path old new by) a b r w = r.replaces.within
  piece_within th ok A (Assumption_piece number way path) a b r w = r.replaces.within
  piece_within th ok A (Cases_piece u parts) a b r w = parts_within th ok A u r.0 r.0.constants (ok.cases r.0 r.1).some parts a b r.4 w

  pub pieces_within : (th : Theory) → IsWellFormed th → (A : List Pair) (xs : Pieces) (a b : Tree) → PiecesLead th A xs a b → IsWithinLimits a
      → IsWithinLimits b
  pieces_within th ok A no_piece a b r w = subst IsWithinLimits r w
  pieces_within th ok A (more_pieces x xs) a b r w = pieces_within th ok A xs r.0 b r.2 (piece_within th ok A x a r.0 r.1 w)

  parts_within : (th : Theory) → IsWellFormed th → (A : List Pair) (u : Tree) (l : CaseList) (ks : List ℕ) → (ks ≡ [] → ⊥) → (ps : Parts) (a b : Tree)
      → PartsLead th A u l ks ps a b → IsWithinLimits a → IsWithinLimits b
  parts_within th ok A u l [] h ps a b r w = absurd (h refl)
  parts_within th ok A u l (k ∷ ks) h no_part a b r w = absurd r
  parts_within th ok A u l (k ∷ ks) h (more_parts p ps) a b r w = pieces_within th ok (A ++ is_case u l k ∷ []) p a b r.0 w

mutual
  pub piece_turned : (th : Theory) → IsWellFormed th → (A : List Pair) (x : Piece) (a b : Tree) → PieceLeads th A x a b → IsWithinLimits a
      → PieceLeads th A (turned_piece x) b a
  piece_turned th ok A (Equation_piece number way path terms) a b r w =
      let lead = r.1.0 in
      let p : Pair = sides (goal_of lead.equation) in
      let σ : Substitution = by_terms (goal_of lead.equation) terms in (
        r.0,
        (
          record {
            equation = lead.equation;
            listed = lead.listed;
            rewrites = record {
              fit = lead.rewrites.fit;
              replaces = rw (from_other way p, to_other way p)
                  (replaces_back a path (instance σ (from_side way p)) (instance σ (to_side way p)) b w lead.rewrites.replaces);
            };
          },
          r.1.1,
        ),
      )
  piece_turned th ok A (Content_piece op path old new by) a b r w = record {
    content = record {
      operator = r.content.operator;
      there = r.content.there;
      same_sort = sym r.content.same_sort;
      same_content = sym r.content.same_content;
    };
    old_sorted = r.new_sorted;
    new_sorted = r.old_sorted;
    by_sorted = r.by_sorted;
    replaces = replaces_back a path (instance (substitution_of by) old) (instance (substitution_of by) new) b w r.replaces;
  }
  piece_turned th ok A (Assumption_piece number way path) a b r w =
      record {
        assumed = r.assumed;
        listed = r.listed;
        replaces = rw (from_other way r.assumed, to_other way r.assumed)
            (replaces_back a path (from_side way r.assumed) (to_side way r.assumed) b w r.replaces);
      }
  piece_turned th ok A (Cases_piece u parts) a b r w = (r.0, r.1, r.2, r.3, parts_turned th ok A u r.0 r.0.constants parts a b r.4 w)

  pub pieces_turned : (th : Theory) → IsWellFormed th → (A : List Pair) (xs : Pieces) (a b : Tree) → PiecesLead th A xs a b → IsWithinLimits a
      → PiecesLead th A (turned xs) b a
  pieces_turned th ok A no_piece a b r w = sym r
  pieces_turned th ok A (more_pieces x xs) a b r w =
      joined_lead th A (turned xs) (more_pieces (turned_piece x) no_piece) b r.0 a
      (pieces_turned th ok A xs r.0 b r.2 (piece_within th ok A x a r.0 r.1 w)) (a, piece_turned th ok A x a r.0 r.1 w, refl)

  parts_turned : (th : Theory) → IsWellFormed th → (A : List Pair) (u : Tree) (l : CaseList) (ks : List ℕ) (ps : Parts) (a b : Tree)
      → PartsLead th A u l ks ps a b → IsWithinLimits a → PartsLead th A u l ks (turned_parts ps) b a
  parts_turned th ok A u l [] no_part a b r w = tt
  parts_turned th ok A u l [] (more_parts p ps) a b r w = absurd r
  parts_turned th ok A u l (k ∷ ks) no_part a b r w = absurd r
  parts_turned th ok A u l (k ∷ ks) (more_parts p ps) a b r w =
      (pieces_turned th ok (A ++ is_case u l k ∷ []) p a b r.0 w, parts_turned th ok A u l ks ps a b r.1 w)
