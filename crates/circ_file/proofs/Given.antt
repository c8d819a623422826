-- Whys that are given to open splits.
use Rattle.std.specs.Prelude.{◌≡◌, ℕ, ◌+◌, List, [], ◌∷◌, ◌++◌, length, map, None, cond, nat_eq, Bool, true, false, refl}
use Rattle.std.proofs.Common.{sym, ◌∙◌, ap, arith, length-append}
use Rattle.std.proofs.lemmas.Bool.{eq-eqb, ne_eqb}
use Rattle.circ_proof.specs.Plain.{WhyOf, Split_why, more_whys, plain_chain, plain_why, plain_whys}
use Rattle.circ_proof.specs.declared.links.Why.{Why}
use Rattle.circ_proof.specs.Counting.{why_count}
use Rattle.circ_grammar.specs.Machine.{OpenSplit, open_split, push_why, empty}
use Rattle.circ_grammar.specs.Now.{Reducing, give_why_now, why_part}
use Rattle.circ_term.specs.Tree.{Tree}
use Rattle.circ_proof_text.specs.Parts.{part_with}
use Rattle.circ_file.specs.Splits.{plain_split, tops, given, now_given, parts_given}
use Rattle.circ_file.specs.declared.splits.OpenSplit.{OpenSplit as CodeSplit}

pub tops-push : (ss : List CodeSplit) (s : CodeSplit) (k : List OpenSplit) → tops (ss ++ s ∷ []) k ≡ plain_split s ∷ tops ss k
tops-push [] s k = refl
tops-push (r ∷ ss) s k = tops-push ss s (plain_split r ∷ k)

-- the state and the parts that a whole why leads to
pub give-given : (ts : List Tree) (ss : List OpenSplit) (w : WhyOf ℕ)
    → (give_why_now ss w ≡ now_given (given ss w)) × (map (part_with ts) (why_part {T = List Tree} ss w) ≡ parts_given (given ss w))
give-given ts [] w = (refl, refl)
give-given ts (s ∷ ss) w = go (nat_eq (why_count s.whys + 1) s.count) (give-given ts ss (Split_why s.chain s.term (push_why s.whys w)))
  where
    go : (b : Bool)
        → (give_why_now ss (Split_why s.chain s.term (push_why s.whys w)) ≡ now_given (given ss (Split_why s.chain s.term (push_why s.whys w))))
        × (map (part_with ts) (why_part {T = List Tree} ss (Split_why s.chain s.term (push_why s.whys w)))
        ≡ parts_given (given ss (Split_why s.chain s.term (push_why s.whys w))))
        → (cond b (give_why_now ss (Split_why s.chain s.term (push_why s.whys w))) (Reducing (open_split s.chain s.term s.count (push_why s.whys w) ∷ ss) empty)
        ≡ now_given (cond b (given ss (Split_why s.chain s.term (push_why s.whys w))) (open_split s.chain s.term s.count (push_why s.whys w) ∷ ss, None)))
        × (map (part_with ts) (cond b (why_part {T = List Tree} ss (Split_why s.chain s.term (push_why s.whys w))) [])
        ≡ parts_given (cond b (given ss (Split_why s.chain s.term (push_why s.whys w))) (open_split s.chain s.term s.count (push_why s.whys w) ∷ ss, None)))
    go true ih = ih
    go false ih = (refl, refl)

whys-push : (ws : List (Why ℕ)) (w : Why ℕ) → plain_whys (ws ++ w ∷ []) ≡ push_why (plain_whys ws) (plain_why w)
whys-push [] w = refl
whys-push (v ∷ ws) w = ap (more_whys (plain_why v)) (whys-push ws w)

pub count-whys : (ws : List (Why ℕ)) → why_count (plain_whys ws) ≡ length ws
count-whys [] = refl
count-whys (w ∷ ws) = omega (arith, count-whys ws)

one_more : (s : CodeSplit) (w : Why ℕ) (ws : List (Why ℕ)) → ws ≡ s.whys.items ++ w ∷ [] → why_count (plain_whys s.whys.items) + 1 ≡ length ws
one_more s w ws e = omega (arith, count-whys s.whys.items, ap length e, length-append s.whys.items (w ∷ []))

-- A split that gets one why more is whole, or still waits.
pub given_whole : (ss : List CodeSplit) (s : CodeSplit) (w : Why ℕ) (ws : List (Why ℕ)) → ws ≡ s.whys.items ++ w ∷ [] → length ws ≡ s.count
    → given (tops (ss ++ s ∷ []) []) (plain_why w) ≡ given (tops ss []) (Split_why (plain_chain s.chain) s.term (plain_whys ws))
given_whole ss s w ws e n =
    ap (λ x. given x (plain_why w)) (tops-push ss s [])
    ∙ (ap (λ b. cond b (given (tops ss []) (Split_why (plain_chain s.chain) s.term (push_why (plain_whys s.whys.items) (plain_why w))))
    (open_split (plain_chain s.chain) s.term s.count (push_why (plain_whys s.whys.items) (plain_why w)) ∷ tops ss [], None))
    (eq-eqb (why_count (plain_whys s.whys.items) + 1) s.count (one_more s w ws e ∙ n))
    ∙ ap (λ x. given (tops ss []) (Split_why (plain_chain s.chain) s.term x)) (sym (ap plain_whys e ∙ whys-push s.whys.items w)))

pub given_waits : (ss : List CodeSplit) (s : CodeSplit) (w : Why ℕ) (ws : List (Why ℕ)) → ws ≡ s.whys.items ++ w ∷ [] → (length ws ≡ s.count → ⊥)
    → given (tops (ss ++ s ∷ []) []) (plain_why w) ≡ (open_split (plain_chain s.chain) s.term s.count (plain_whys ws) ∷ tops ss [], None)
given_waits ss s w ws e n =
    ap (λ x. given x (plain_why w)) (tops-push ss s [])
    ∙ (ap (λ b. cond b (given (tops ss []) (Split_why (plain_chain s.chain) s.term (push_why (plain_whys s.whys.items) (plain_why w))))
    (open_split (plain_chain s.chain) s.term s.count (push_why (plain_whys s.whys.items) (plain_why w)) ∷ tops ss [], None))
    (ne_eqb (why_count (plain_whys s.whys.items) + 1) s.count (λ q. n (sym (one_more s w ws e) ∙ q)))
    ∙ ap (λ x. (open_split (plain_chain s.chain) s.term s.count x ∷ tops ss [], None)) (sym (ap plain_whys e ∙ whys-push s.whys.items w)))
