-- Attributes, one after another.
use Rattle.std.proofs.Common.{◌≡◌, ℕ, List, [], ◌∷◌, ◌++◌, Bool, true, false, append-nil, append_assoc, refl, ap, sym, ◌∙◌}
use Rattle.std.specs.Prelude.{codes}
use Rattle.circ_mixfix.specs.Printing.{further}
use Rattle.circ_show.specs.Brackets.{bracketed, WritesWords}
use Rattle.circ_show.specs.Lines.{in_brackets}

-- what all words add is their text in brackets
closed : (ws : List (List ℕ)) → bracketed true ws ≡ further (codes " ") ws ++ codes "]"
closed [] = refl
closed (w ∷ ws) = ap (λ x. codes " " ++ (w ++ x)) (closed ws) ∙ sym (append_assoc (codes " " ++ w) (further (codes " ") ws) (codes "]"))

whole : (ws : List (List ℕ)) → bracketed false ws ≡ in_brackets ws
whole [] = refl
whole (w ∷ ws) = ap (λ x. codes " [" ++ (w ++ x)) (closed ws) ∙ ap (λ x. codes " [" ++ x) (sym (append_assoc w (further (codes " ") ws) (codes "]")))

chained : (a b c d e : List ℕ) (q r s t : Bool) (p u v w : List (List ℕ)) → WritesWords a b false q p → WritesWords b c q r u → WritesWords c d r s v
    → WritesWords d e s t w
    → e ++ bracketed t [] ≡ a ++ in_brackets (p ++ (u ++ (v ++ w)))
chained a b c d e q r s t p u v w f g h k =
    k [] ∙ h (w ++ []) ∙ g (v ++ (w ++ [])) ∙ f (u ++ (v ++ (w ++ []))) ∙ ap (λ z. a ++ bracketed false (p ++ (u ++ (v ++ z)))) (append-nil w)
    ∙ ap (λ x. a ++ x) (whole (p ++ (u ++ (v ++ w))))

pub ended : (a b c d e : List ℕ) (q r s t : Bool) (p u v w : List (List ℕ)) → t ≡ true → WritesWords a b false q p → WritesWords b c q r u
    → WritesWords c d r s v → WritesWords d e s t w
    → e ++ 93 ∷ [] ≡ a ++ in_brackets (p ++ (u ++ (v ++ w)))
ended a b c d e q r s t p u v w i f g h k = ap (λ z. e ++ bracketed z []) (sym i) ∙ chained a b c d e q r s t p u v w f g h k

pub not_begun : (a b c d e : List ℕ) (q r s t : Bool) (p u v w : List (List ℕ)) → t ≡ false → WritesWords a b false q p → WritesWords b c q r u
    → WritesWords c d r s v → WritesWords d e s t w
    → e ≡ a ++ in_brackets (p ++ (u ++ (v ++ w)))
not_begun a b c d e q r s t p u v w i f g h k = sym (append-nil e) ∙ ap (λ z. e ++ bracketed z []) (sym i) ∙ chained a b c d e q r s t p u v w f g h k
