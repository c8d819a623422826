-- Bytes spell one expression at most.
use Rattle.std.specs.Prelude.{◌≡◌, ℕ, List}
use Rattle.std.proofs.Common.{sym, ◌∙◌}
use Rattle.std.proofs.lemmas.Option.{same_Some}
use Rattle.circ_regex.specs.Matches.{Expression}
use Rattle.circ_regex.specs.Grammar.{IsTextOfRegex}
use Rattle.circ_regex.proofs.Complete.{complete}

pub spelled_once : (bytes : List ℕ) (e f : Expression) → IsTextOfRegex bytes e → IsTextOfRegex bytes f → e ≡ f
spelled_once bytes e f d g = same_Some e f (sym (complete bytes e d.1) ∙ complete bytes f g.1)
