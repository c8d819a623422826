-- What following a content link does is what the link says.
use Rattle.std.proofs.Common.{◌≡◌, ℕ, List, Option, Some, None, Result, Ok, Err, IfOk, sym, subst, ◌∙◌}
use Rattle.std.proofs.lemmas.Option.{same_Some}
use Rattle.circ_term.specs.Tree.{Tree, at}
use Rattle.circ_aci.specs.Content.{HasContentOf}
use Rattle.circ_proof.specs.Plain.{Content_link}
use Rattle.circ_proof.specs.Link.{Setting}
use Rattle.circ_replay.specs.Following.{Follows}
use Rattle.circ_replay.specs.Rewriting.{GivesReplaced}

module _ (c : Setting) (op : ℕ) (path : List ℕ) (new t : Tree) where
  -- what stands there has other content
  pub content_other : (old : Tree) → at t path ≡ Some old → (HasContentOf c.theory.signature op old new → ⊥) → Follows c (Content_link op path new) t None
  content_other old e h u r =
      let same : r.old ≡ old = same_Some r.old old (sym r.replaces.there ∙ e) in
      let P : Tree → Type 0 = λ o. HasContentOf c.theory.signature op o new in
      h (subst P same r.content)

  pub content_replaced : {E : Type 0} (old : Tree) (r : Result (Option Tree) E) → at t path ≡ Some old → HasContentOf c.theory.signature op old new
      → IfOk r (GivesReplaced t path new) → IfOk r (Follows c (Content_link op path new) t)
  content_replaced old (Ok None) e h g = λ u r. g u r.replaces.made r.replaces.within
  content_replaced old (Ok (Some u)) e h g = record { old = old; content = h; replaces = record { there = e; made = g.0; within = g.1 } }
  content_replaced old (Err x) e h g = tt
