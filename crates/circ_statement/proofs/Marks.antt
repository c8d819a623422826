-- What follows the result sort gives attributes in one way.
use Rattle.std.proofs.Common.{◌≡◌, ◌≢◌, List, [], Option, Some, None, inl, inr, sym, ◌∙◌, subst}
use Rattle.circ_statement.specs.declared.attributes.Attributes.{Attributes}
use Rattle.circ_statement.specs.Words.{Word}
use Rattle.circ_statement.specs.Heads.{IsBracket}
use Rattle.circ_statement.specs.Attributes.{no_attributes, AddsAttributes, HasAttributes}
use Rattle.circ_statement.specs.Reading.{GivesAdded, GivesAttributes}
use Rattle.circ_statement.proofs.HeadParts.{bracket_same}
use Rattle.circ_statement.proofs.Adding.{adds_same}

module _ (ws inside rest : List Word) (b : IsBracket ws inside rest) where
  no_bracket : ws ≡ [] → ⊥
  no_bracket e = let w = b.words in absurd (cc)

  pub not_given : rest ≢ [] → (a : Attributes) → HasAttributes ws a → ⊥
  not_given some a (inl h) = no_bracket h.0
  not_given some a (inr h) = some (sym (bracket_same h.1.0 b).1)

  only_given : (P : Attributes → Type 0) → ((a : Attributes) → AddsAttributes no_attributes inside a → P a) → (a : Attributes) → HasAttributes ws a → P a
  only_given P f a (inl h) = absurd (no_bracket h.0)
  only_given P f a (inr h) = f a (subst (λ i. AddsAttributes no_attributes i a) (bracket_same h.1.0 b).0 h.1.1)

  pub given_by : (o : Option Attributes) → rest ≡ [] → GivesAdded o no_attributes inside → GivesAttributes o ws
  given_by None e g = only_given (λ a. ⊥) g
  given_by (Some a) e g = inr (inside, (subst (λ r. IsBracket ws inside r) e b, g))

pub given_same : (ws : List Word) (a b : Attributes) → HasAttributes ws a → HasAttributes ws b → a ≡ b
given_same ws a b (inl h) (inl k) = h.1 ∙ sym k.1
given_same ws a b (inl h) (inr k) = absurd (no_bracket ws k.0 [] k.1.0 h.0)
given_same ws a b (inr h) k = only_given ws h.0 [] h.1.0 (λ c. a ≡ c) (λ c n. adds_same no_attributes a c h.0 h.1.1 n) b k
