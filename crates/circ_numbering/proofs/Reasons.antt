-- Reasons that lie in a list, and how deep they lie in one another.
use Rattle.std.proofs.Common.{◌≡◌, ◌≤◌, ◌<◌, ◌+◌, max, ℕ, zero, suc, List, [], ◌∷◌, ◌++◌, length, map, get_or, refl, ap, sym, ◌∙◌, arith}
use Rattle.std.specs.Prelude.{flat_map}
use Rattle.circ_term.specs.Tree.{Tree}
use Rattle.circ_proof.specs.Plain.{WhyOf, WhysOf, Same_why, Split_why, no_why, more_whys, map_why, map_whys, plain_why, plain_whys}
use Rattle.circ_proof.specs.declared.links.Why.{Why}
use Rattle.circ_plain_search.specs.Numbering.{why_terms, whys_terms}

abbrev mutual
  pub depth_of_why : WhyOf Tree → ℕ
  depth_of_why (Same_why chain) = 0
  depth_of_why (Split_why chain term whys) = depth_of_whys whys + 1

  pub depth_of_whys : WhysOf Tree → ℕ
  depth_of_whys no_why = 0
  depth_of_whys (more_whys w ws) = max (depth_of_why w) (depth_of_whys ws)

pub depth_in : (ws : List (Why Tree)) (i : ℕ) (w : Why Tree) → i < length ws → w ≡ get_or ws i w
    → depth_of_why (plain_why w) ≤ depth_of_whys (plain_whys ws)
depth_in [] i w h e = absurd (omega arith)
depth_in (x ∷ ws) zero w h e = let d = ap (λ y. depth_of_why (plain_why y)) e in omega arith
depth_in (x ∷ ws) (suc i) w h e = let d = depth_in ws i w (omega arith) e in omega arith

pub whys_flat : (ws : List (Why Tree)) → whys_terms (plain_whys ws) ≡ flat_map (λ w. why_terms (plain_why w)) ws
whys_flat [] = refl
whys_flat (w ∷ ws) = ap (λ ts. why_terms (plain_why w) ++ ts) (whys_flat ws)

pub whys_named : (h : Tree → ℕ) (vs : List (Why ℕ)) (ws : List (Why Tree)) → map plain_why vs ≡ map (λ w. map_why h (plain_why w)) ws
    → plain_whys vs ≡ map_whys h (plain_whys ws)
whys_named h vs ws e = seen vs ∙ ap gathered e ∙ sym (made ws)
  where
    gathered : List (WhyOf ℕ) → WhysOf ℕ
    gathered [] = no_why
    gathered (w ∷ ws) = more_whys w (gathered ws)

    seen : (vs : List (Why ℕ)) → plain_whys vs ≡ gathered (map plain_why vs)
    seen [] = refl
    seen (v ∷ vs) = ap (more_whys (plain_why v)) (seen vs)

    made : (ws : List (Why Tree)) → map_whys h (plain_whys ws) ≡ gathered (map (λ w. map_why h (plain_why w)) ws)
    made [] = refl
    made (w ∷ ws) = ap (more_whys (map_why h (plain_why w))) (made ws)
