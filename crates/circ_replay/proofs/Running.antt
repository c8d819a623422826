-- Links that lead on, one after another, and what following them gives.
use Rattle.std.proofs.Common.{◌≡◌, ◌↔◌, ◌<◌, ◌≤◌, ◌+◌, ℕ, List, ◌∷◌, length, drop, get_or, [], zero, suc}
use Rattle.std.proofs.Common.{Option, Some, None, Result, Ok, Err, IfOk, ap, sym, subst, arith}
use Rattle.std.specs.Option.{IfSome}
use Rattle.std.proofs.lemmas.List.{drop_all}
use Rattle.circ_term.specs.Tree.{Tree}
use Rattle.circ_term.proofs.Within.{drop_read}
use Rattle.circ_proof.specs.declared.links.Link.{Link}
use Rattle.circ_proof.specs.Plain.{LinkOf, plain_link, plain_links}
use Rattle.circ_proof.specs.Runs.{Runs}
use Rattle.circ_proof.specs.Link.{Setting, Leads, resolved_link, resolved_links, AllOfLink, AllOfLinks}
use Rattle.circ_replay.specs.Following.{Follows, FollowsAll}
use Rattle.circ_proof.proofs.Leading.{one_link}

-- the links from one on
abbrev pub links_from : (table : List Tree) → List (Link ℕ) → ℕ → List (LinkOf Tree)
links_from table ls i = resolved_links table (plain_links (drop i ls))

pub links_next : (table : List Tree) (ls : List (Link ℕ)) (i : ℕ) (l : Link ℕ) → i < length ls → l ≡ get_or ls i l
    → links_from table ls i ≡ resolved_link table (plain_link l) ∷ links_from table ls (i + 1)
links_next table ls i l h e = ap (λ xs. resolved_links table (plain_links xs)) (drop_read ls i l h e)

-- where the first link leads, the others go on from there
pub runs_on : (c : Setting) (l : LinkOf Tree) (ls ms : List (LinkOf Tree)) (t m : Tree) → ms ≡ l ∷ ls → Leads c l t m
    → (u : Tree) → Runs (Leads c) ls m u ↔ Runs (Leads c) ms t u
runs_on c l ls ms t m e h u = (
  (λ r. let P : List (LinkOf Tree) → Type 0 = λ xs. Runs (Leads c) xs t u in subst P (sym e) (m, h, r)),
  (λ r.
      let P : List (LinkOf Tree) → Type 0 = λ xs. Runs (Leads c) xs t u in
      let x = subst P e r in
      let Q : Tree → Type 0 = λ y. Runs (Leads c) ls y u in
      subst Q (one_link c l t x.0 m x.1 h) x.2),
)

-- where it leads nowhere, so do they all
pub runs_stuck : (c : Setting) (l : LinkOf Tree) (ls ms : List (LinkOf Tree)) (t : Tree) → ms ≡ l ∷ ls → ((m : Tree) → Leads c l t m → ⊥)
    → (u : Tree) → Runs (Leads c) ms t u → ⊥
runs_stuck c l ls ms t e h u r =
    let P : List (LinkOf Tree) → Type 0 = λ xs. Runs (Leads c) xs t u in
    let x = subst P e r in
    h x.0 x.1

-- a property of the terms of all links is one of each
pub each_link : (P : ℕ → Type 0) (ls : List (Link ℕ)) (i : ℕ) (l : Link ℕ) → AllOfLinks P (plain_links ls) → i < length ls → l ≡ get_or ls i l
    → AllOfLink P (plain_link l)
each_link P [] i l a h e = absurd (omega arith)
each_link P (x ∷ ls) zero l a h e = let Q : Link ℕ → Type 0 = λ y. AllOfLink P (plain_link y) in subst Q (sym e) a.0
each_link P (x ∷ ls) (suc i) l a h e = each_link P ls i l a.1 (omega arith) e

pub links_end : (table : List Tree) (ls : List (Link ℕ)) (i : ℕ) → length ls ≤ i → links_from table ls i ≡ []
links_end table ls i h = ap (λ xs. resolved_links table (plain_links xs)) (drop_all i ls h)
