-- Derivations that are written out: links with their own terms, and cases over parts.
use Rattle.std.specs.Prelude.{◌≡◌, ℕ, List, [], ◌∷◌, ◌++◌, map}
use Rattle.std.specs.List.{AllByRecursion, Contains}
use Rattle.circ_term.specs.Tree.{Tree, sort_of}
use Rattle.circ_term.specs.Substitution.{Substitution, instance}
use Rattle.circ_term.specs.Subst.{Bound, substitution_of}
use Rattle.circ_theory.specs.Signature.{IsWellSorted, IsSubstitution}
use Rattle.circ_theory.specs.Theory.{Theory, Pair, CaseList}
use Rattle.circ_theory.specs.Derivable.{is_case}
use Rattle.circ_theory.specs.Rewriting.{Replaces}
use Rattle.circ_theory.specs.Variables.{Variable}
use Rattle.circ_theory.specs.declared.way.Way.{Way}
use Rattle.circ_theory.specs.declared.way.Way.TheVariants.{Forth, Back}
use Rattle.circ_aci.specs.Content.{HasContentOf}
use Rattle.circ_proof.specs.Plain.{Equation_link, Assumption_link, no_chain}
use Rattle.circ_proof.specs.Link.{setting, Leads}

mutual
  pub data Piece : Type 0 where
    Equation_piece : (number : ℕ) (way : Way) (path : List ℕ) (terms : List Tree) → Piece
    Content_piece : (op : ℕ) (path : List ℕ) (old new : Tree) (by : List Bound) → Piece
    Assumption_piece : (number : ℕ) (way : Way) (path : List ℕ) → Piece
    Cases_piece : (term : Tree) (parts : Parts) → Piece

  pub data Pieces : Type 0 where
    no_piece : Pieces
    more_pieces : (first : Piece) (rest : Pieces) → Pieces

  pub data Parts : Type 0 where
    no_part : Parts
    more_parts : (first : Pieces) (rest : Parts) → Parts

abbrev pub pieces_joined : Pieces → Pieces → Pieces
pieces_joined no_piece ys = ys
pieces_joined (more_pieces x xs) ys = more_pieces x (pieces_joined xs ys)

abbrev pub other_way : Way → Way
other_way Forth = Back
other_way Back = Forth

-- the same from the end to the beginning
abbrev mutual
  pub turned_piece : Piece → Piece
  turned_piece (Equation_piece number way path terms) = Equation_piece number (other_way way) path terms
  turned_piece (Content_piece op path old new by) = Content_piece op path new old by
  turned_piece (Assumption_piece number way path) = Assumption_piece number (other_way way) path
  turned_piece (Cases_piece term parts) = Cases_piece term (turned_parts parts)

  pub turned : Pieces → Pieces
  turned no_piece = no_piece
  turned (more_pieces x xs) = pieces_joined (turned xs) (more_pieces (turned_piece x) no_piece)

  pub turned_parts : Parts → Parts
  turned_parts no_part = no_part
  turned_parts (more_parts p ps) = more_parts (turned p) (turned_parts ps)

-- these variables with what a substitution gives them
abbrev pub bounds_by : Substitution → List Variable → List Bound
bounds_by σ vs = map (λ v. record { number = v.number; sort = v.sort; term = σ v.number v.sort }) vs

-- the first term under the substitution is replaced by the second, of the same content, under it
pub record ContentReplaces (th : Theory) (op : ℕ) (path : List ℕ) (old new : Tree) (by : List Bound) (t u : Tree) : Type 0 where
  pub content : HasContentOf th.signature op old new
  pub old_sorted : IsWellSorted th.signature old
  pub new_sorted : IsWellSorted th.signature new
  pub by_sorted : IsSubstitution th.signature (substitution_of by)
  pub replaces : Replaces t path (instance (substitution_of by) old) (instance (substitution_of by) new) u

-- The pieces lead from a to b under assumptions. No hypothesis is there to be used.
abbrev mutual
  pub PieceLeads : Theory → (assumptions : List Pair) → Piece → Tree → Tree → Type 0
  PieceLeads th A (Equation_piece number way path terms) a b =
      AllByRecursion (IsWellSorted th.signature) terms × Leads (setting th [] [] A) (Equation_link number way path terms no_chain) a b
  PieceLeads th A (Content_piece op path old new by) a b = ContentReplaces th op path old new by a b
  PieceLeads th A (Assumption_piece number way path) a b = Leads (setting th [] [] A) (Assumption_link number way path) a b
  PieceLeads th A (Cases_piece u parts) a b =
      (l : CaseList) × Contains th.cases l × IsWellSorted th.signature u × (sort_of u ≡ l.sort) × PartsLead th A u l l.constants parts a b

  pub PiecesLead : Theory → (assumptions : List Pair) → Pieces → Tree → Tree → Type 0
  PiecesLead th A no_piece a b = a ≡ b
  PiecesLead th A (more_pieces x xs) a b = (m : Tree) × PieceLeads th A x a m × PiecesLead th A xs m b

  pub PartsLead : Theory → (assumptions : List Pair) → (u : Tree) → CaseList → (constants : List ℕ) → Parts → Tree → Tree → Type 0
  PartsLead th A u l [] no_part a b = Unit {0}
  PartsLead th A u l [] (more_parts p ps) a b = ⊥
  PartsLead th A u l (k ∷ ks) no_part a b = ⊥
  PartsLead th A u l (k ∷ ks) (more_parts p ps) a b = PiecesLead th (A ++ is_case u l k ∷ []) p a b × PartsLead th A u l ks ps a b
