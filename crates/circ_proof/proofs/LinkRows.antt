-- A list of links as a row of them.
use Rattle.std.proofs.Common.{◌≡◌, ◌↔◌, max, List, [], ◌∷◌, map, refl, ap}
use Rattle.circ_term.specs.Tree.{Tree}
use Rattle.circ_proof.specs.Plain.{LinkOf, more_links, map_link, map_row, row_of}
use Rattle.circ_proof.specs.Runs.{Runs}
use Rattle.circ_proof.specs.Link.{Setting, Leads, RowLeads, AllOfRow, AllOfLinks}
use Rattle.circ_proof.specs.Nesting.{link_nesting, row_nesting, links_nesting}

pub row_runs : (c : Setting) (ls : List (LinkOf Tree)) (t u : Tree) → RowLeads c (row_of ls) t u ↔ Runs (Leads c) ls t u
row_runs c [] t u = (λ e. e, λ e. e)
row_runs c (l ∷ ls) t u = (λ r. (r.0, r.1, (row_runs c ls r.0 u).0 r.2), λ r. (r.0, r.1, (row_runs c ls r.0 u).1 r.2))

pub row_mapped : {T U : Type 0} (f : T → U) (ls : List (LinkOf T)) → map_row f (row_of ls) ≡ row_of (map (map_link f) ls)
row_mapped f [] = refl
row_mapped f (l ∷ ls) = ap (λ r. more_links (map_link f l) r) (row_mapped f ls)

pub all_of_row : {T : Type 0} (P : T → Type 0) (ls : List (LinkOf T)) → AllOfRow P (row_of ls) → AllOfLinks P ls
all_of_row P [] a = tt
all_of_row P (l ∷ ls) a = (a.0, all_of_row P ls a.1)

pub row_of_all : {T : Type 0} (P : T → Type 0) (ls : List (LinkOf T)) → AllOfLinks P ls → AllOfRow P (row_of ls)
row_of_all P [] a = tt
row_of_all P (l ∷ ls) a = (a.0, row_of_all P ls a.1)

pub row_depth : {T : Type 0} (ls : List (LinkOf T)) → row_nesting (row_of ls) ≡ links_nesting ls
row_depth [] = refl
row_depth (l ∷ ls) = ap (max (link_nesting l)) (row_depth ls)
