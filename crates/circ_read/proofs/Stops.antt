-- Lists of words cut at a stop, in one way.
use Rattle.std.proofs.Common.{◌≡◌, ℕ, List, [], ◌∷◌, ◌++◌, Bool, true, false, codes, refl, sym, ap, ◌∙◌}
use Rattle.std.proofs.lemmas.Bool.{or_parts}
use Rattle.std.specs.List.{list_any}
use Rattle.circ_read.specs.Text.{is_stop, HasNoStop, IsTextHead, ending}

no_stop_here : (w : List ℕ) (ws : List (List ℕ)) → HasNoStop (w ∷ ws) → w ≡ codes "." → ⊥
no_stop_here w ws h e = let no : is_stop w ≡ false = (or_parts (is_stop w) (list_any is_stop ws) h).0 in let yes : is_stop w ≡ true = ap is_stop e in cc

pub no_stop_after : (w : List ℕ) (ws : List (List ℕ)) → HasNoStop (w ∷ ws) → HasNoStop ws
no_stop_after w ws h = (or_parts (is_stop w) (list_any is_stop ws) h).1

pub cut_once : (ws vs left rest : List (List ℕ)) → ws ++ codes "." ∷ left ≡ vs ++ codes "." ∷ rest → HasNoStop ws → HasNoStop vs → (ws ≡ vs) × (left ≡ rest)
cut_once [] [] left rest e h k = (refl, cc)
cut_once [] (v ∷ vs) left rest e h k = absurd (no_stop_here v vs k (cc))
cut_once (w ∷ ws) [] left rest e h k = absurd (no_stop_here w ws h (cc))
cut_once (w ∷ ws) (v ∷ vs) left rest e h k =
    let r : (ws ≡ vs) × (left ≡ rest) = cut_once ws vs left rest (cc) (no_stop_after w ws h) (no_stop_after v vs k) in (cc, r.1)

-- a list without a stop is not cut
pub not_cut : (here ws left : List (List ℕ)) → here ≡ ws ++ codes "." ∷ left → HasNoStop here → ⊥
not_cut [] [] left e h = cc
not_cut [] (v ∷ vs) left e h = cc
not_cut (w ∷ ws) [] left e h = no_stop_here w ws h (cc)
not_cut (w ∷ ws) (v ∷ vs) left e h = not_cut ws vs left (cc) (no_stop_after w ws h)

-- the end has no stop
pub ending_whole : (opened : Bool) → HasNoStop (ending opened)
ending_whole true = refl
ending_whole false = refl

pub record SameHead (o p : Bool) (n m : List ℕ) (b d : List (List ℕ)) : Type 0 where
  pub opened : o ≡ p
  pub name : n ≡ m
  pub body : b ≡ d

-- a list has one head
pub head_once : (ws : List (List ℕ)) (o p : Bool) (n m : List ℕ) (b d : List (List ℕ)) → IsTextHead ws o n b → IsTextHead ws p m d → SameHead o p n m b d
head_once ws true true n m b d h k = let e = sym h.words ∙ k.words in record { opened = refl; name = cc; body = cc }
head_once ws true false n m b d h k = let e = sym h.words ∙ k.words in absurd (cc)
head_once ws false true n m b d h k = let e = sym h.words ∙ k.words in absurd (cc)
head_once ws false false n m b d h k = let e = sym h.words ∙ k.words in record { opened = refl; name = cc; body = cc }
