-- Whether a term is an instance of a pattern, as matching tells it.
use Rattle.std.proofs.Common.{◌≡◌, List, Option, Some, None, is_some, sym}
use Rattle.circ_term.specs.Tree.{Tree}
use Rattle.circ_term.specs.Subst.{Bound, substitution_of}
use Rattle.circ_match.specs.Matcher.{Makes, Matches, has_variable}
use Rattle.circ_rewrite.specs.Matching.{matches}
use Rattle.circ_rewrite.proofs.MatchingFacts.{matches-instance, no_match}

pub matches_told : (p t : Tree) (o : Option (List Bound)) → Matches (Makes p t) (has_variable p) o → is_some o ≡ matches p t
matches_told p t (Some σ) m = sym (matches-instance (substitution_of σ) m.sorts p t m.makes)
matches_told p t None h = sym (no_match p t h)
