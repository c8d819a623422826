-- Forms, one for each word.
use Rattle.std.proofs.Common.{◌≡◌, List, [], ◌∷◌, ◌++◌, Err, refl, sym, ap, ◌∙◌, subst}
use Rattle.circ_statement.specs.declared.attributes.Attributes.{Attributes}
use Rattle.circ_statement.specs.declared.fault.StatementFault.{StatementFault}
use Rattle.circ_statement.specs.declared.fault.StatementFault.TheVariants.{LeftOut, Shape, Memory}
use Rattle.circ_statement.specs.Words.{Word}
use Rattle.circ_statement.specs.Attributes.{Spelled, IsSpelled, AreSpelled, precedence_of, side_of}
use Rattle.circ_statement.specs.Reading.{GivesSpelling, GivesSpellings}

pub spelled_more : (a : Attributes) (xs : List Word) (ss : List Spelled) (w : Word) (s : Spelled) → AreSpelled a xs ss → IsSpelled a w s → AreSpelled a (xs ++ w ∷ []) (ss ++ s ∷ [])
spelled_more a [] [] w s h is = (is, tt)
spelled_more a (x ∷ xs) (t ∷ ss) w s h is = (h.0, spelled_more a xs ss w s h.1 is)
spelled_more a [] (t ∷ ss) w s h is = absurd h
spelled_more a (x ∷ xs) [] w s h is = absurd h

-- each word of the list is spelled
spelled_at : (a : Attributes) (xs ys : List Word) (w : Word) (ss : List Spelled) → AreSpelled a (xs ++ w ∷ ys) ss → (s : Spelled) × IsSpelled a w s
spelled_at a [] ys w [] h = absurd h
spelled_at a [] ys w (s ∷ ss) h = (s, h.0)
spelled_at a (x ∷ xs) ys w [] h = absurd h
spelled_at a (x ∷ xs) ys w (s ∷ ss) h = spelled_at a xs ys w ss h.1

pub one_unspelled : (a : Attributes) (ws xs ys : List Word) (w : Word) (fault : StatementFault) → ws ≡ xs ++ w ∷ ys → GivesSpelling (Err fault) a w → GivesSpellings (Err fault) a ws
one_unspelled a ws xs ys w (LeftOut n) e g = g
one_unspelled a ws xs ys w Shape e g = λ ss h. let s = spelled_at a xs ys w ss (subst (λ l. AreSpelled a l ss) e h) in g s.0 s.1
one_unspelled a ws xs ys w Memory e g = tt

spelled_one : (a : Attributes) (w : Word) (s t : Spelled) → IsSpelled a w s → IsSpelled a w t → s ≡ t
spelled_one a w s t h k =
    let form : s.form ≡ t.form = h.form ∙ sym k.form in
    let prec : s.prec ≡ t.prec = h.prec ∙ ap (precedence_of a.prec) form ∙ sym k.prec in
    let side : s.side ≡ t.side = h.side ∙ ap (side_of a) form ∙ sym k.side in
    λ i. record { form = form i; prec = prec i; side = side i }

-- words are spelled in one way
pub spelled_same : (a : Attributes) (ws : List Word) (ss ts : List Spelled) → AreSpelled a ws ss → AreSpelled a ws ts → ss ≡ ts
spelled_same a [] [] [] h k = refl
spelled_same a [] [] (t ∷ ts) h k = absurd k
spelled_same a [] (s ∷ ss) ts h k = absurd h
spelled_same a (w ∷ ws) [] ts h k = absurd h
spelled_same a (w ∷ ws) (s ∷ ss) [] h k = absurd k
spelled_same a (w ∷ ws) (s ∷ ss) (t ∷ ts) h k = let one = spelled_one a w s t h.0 k.0 in let others = spelled_same a ws ss ts h.1 k.1 in cc
