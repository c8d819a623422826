-- Links that lead from term to term, with what is kept of each on the way.
use Rattle.std.proofs.Common.{◌≡◌, ◌≤◌, ℕ, List, [], ◌∷◌, ◌++◌, refl, subst, sym, ◌∙◌}
use Rattle.std.specs.List.{AllByRecursion}
use Rattle.circ_term.specs.Tree.{Tree, sort_of}
use Rattle.circ_theory.specs.Theory.{Theory}
use Rattle.circ_theory.proofs.Lists.{all_by}
use Rattle.circ_proof.specs.Plain.{LinkOf, LinksOf, ChainsOf, Equation_link, Hypothesis_link, Assumption_link, Content_link, no_link, more_links, no_chain, more_chains}
use Rattle.circ_proof.specs.Runs.{Runs}
use Rattle.circ_proof.specs.Link.{Setting, Leads, AllOfLink, AllOfRow, AllOfChains, AllOfLinks}
use Rattle.circ_plain_search.proofs.Terms.{Fine, fine_more}

-- The links lead from t to u, which is fine and of t's sort, and their terms are fine.
pub record Led (c : Setting) (m : ℕ) (ls : List (LinkOf Tree)) (t u : Tree) : Type 0 where
  pub leads : Runs (Leads c) ls t u
  pub fine : Fine c.theory m u
  pub same_sort : sort_of u ≡ sort_of t
  pub terms : AllOfLinks (Fine c.theory m) ls

pub all_append : {X : Type 0} (P : X → Type 0) (xs ys : List X) → AllByRecursion P xs → AllByRecursion P ys → AllByRecursion P (xs ++ ys)
all_append P [] ys a b = b
all_append P (x ∷ xs) ys a b = (a.0, all_append P xs ys a.1 b)

pub all_parts : {X : Type 0} (P : X → Type 0) (xs ys : List X) → AllByRecursion P (xs ++ ys) → AllByRecursion P xs × AllByRecursion P ys
all_parts P [] ys a = (tt, a)
all_parts P (x ∷ xs) ys a = let r = all_parts P xs ys a.1 in ((a.0, r.0), r.1)

pub runs_append : {X S : Type 0} (L : X → S → S → Type 0) (xs ys : List X) (a b c : S) → Runs L xs a b → Runs L ys b c → Runs L (xs ++ ys) a c
runs_append {S = S} L [] ys a b c r s = let P : S → Type 0 = λ x. Runs L ys x c in subst P (sym r) s
runs_append L (x ∷ xs) ys a b c r s = (r.0, r.1, runs_append L xs ys r.0 b c r.2 s)

pub led_none : (c : Setting) (m : ℕ) (t : Tree) → Fine c.theory m t → Led c m [] t t
led_none c m t f = record { leads = refl; fine = f; same_sort = refl; terms = tt }

pub led_append : (c : Setting) (m : ℕ) (ls ks : List (LinkOf Tree)) (t u v : Tree) → Led c m ls t u → Led c m ks u v → Led c m (ls ++ ks) t v
led_append c m ls ks t u v a b = record {
  leads = runs_append (Leads c) ls ks t u v a.leads b.leads;
  fine = b.fine;
  same_sort = b.same_sort ∙ a.same_sort;
  terms = all_append (AllOfLink (Fine c.theory m)) ls ks a.terms b.terms;
}

-- what follows of each term follows of each term of links
module _ {T : Type 0} (P Q : T → Type 0) (f : (t : T) → P t → Q t) where
  mutual
    pub link_by_terms : (l : LinkOf T) → AllOfLink P l → AllOfLink Q l
    link_by_terms (Equation_link number way path terms conds) a = (all_by P Q terms f a.0, chains_by_terms conds a.1)
    link_by_terms (Hypothesis_link number way path terms conds) a = (all_by P Q terms f a.0, chains_by_terms conds a.1)
    link_by_terms (Assumption_link number way path) a = tt
    link_by_terms (Content_link op path term) a = f term a

    row_by_terms : (ls : LinksOf T) → AllOfRow P ls → AllOfRow Q ls
    row_by_terms no_link a = tt
    row_by_terms (more_links l ls) a = (link_by_terms l a.0, row_by_terms ls a.1)

    chains_by_terms : (cs : ChainsOf T) → AllOfChains P cs → AllOfChains Q cs
    chains_by_terms no_chain a = tt
    chains_by_terms (more_chains l r cs) a = (row_by_terms l a.0, row_by_terms r a.1, chains_by_terms cs a.2)

-- with a greater bound
pub links_more : (th : Theory) (m k : ℕ) (ls : List (LinkOf Tree)) → m ≤ k → AllOfLinks (Fine th m) ls → AllOfLinks (Fine th k) ls
links_more th m k ls h a =
    all_by (AllOfLink (Fine th m)) (AllOfLink (Fine th k)) ls (λ l x. link_by_terms (Fine th m) (Fine th k) (λ t f. fine_more th m k t h f) l x) a
