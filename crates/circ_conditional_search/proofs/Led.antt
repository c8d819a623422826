-- Links that lead from term to term, with what is kept of each on the way.
use Rattle.std.proofs.Common.{◌≡◌, ℕ, List, [], ◌++◌, refl, ◌∙◌}
use Rattle.circ_term.specs.Tree.{Tree, sort_of}
use Rattle.circ_proof.specs.Runs.{Runs}
use Rattle.circ_plain_search.proofs.Terms.{Fine}
use Rattle.circ_plain_search.proofs.Led.{all_append, runs_append}
use Rattle.circ_conditional_search.proofs.Nesting.{NestsIn, AllNestIn}
use Rattle.circ_proof.specs.Plain.{LinkOf}
use Rattle.circ_proof.specs.Link.{Setting, Leads, AllOfLink, AllOfLinks}

-- The links lead from t to u, which is fine and of t's sort, and their terms are fine.
pub record Led (c : Setting) (m : ℕ) (ls : List (LinkOf Tree)) (t u : Tree) : Type 0 where
  pub leads : Runs (Leads c) ls t u
  pub fine : Fine c.theory m u
  pub same_sort : sort_of u ≡ sort_of t
  pub terms : AllOfLinks (Fine c.theory m) ls
  pub nests : AllNestIn 8 ls

pub led_none : (c : Setting) (m : ℕ) (t : Tree) → Fine c.theory m t → Led c m [] t t
led_none c m t f = record { leads = refl; fine = f; same_sort = refl; terms = tt; nests = tt }

pub led_append : (c : Setting) (m : ℕ) (ls ks : List (LinkOf Tree)) (t u v : Tree) → Led c m ls t u → Led c m ks u v → Led c m (ls ++ ks) t v
led_append c m ls ks t u v a b = record {
  leads = runs_append (Leads c) ls ks t u v a.leads b.leads;
  fine = b.fine;
  same_sort = b.same_sort ∙ a.same_sort;
  terms = all_append (AllOfLink (Fine c.theory m)) ls ks a.terms b.terms;
  nests = all_append (NestsIn 8) ls ks a.nests b.nests;
}
