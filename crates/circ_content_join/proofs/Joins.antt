-- Join's moves lead from a term to the one in which the other side stands.
use Rattle.std.proofs.Common.{◌≡◌, ◌⊎◌, inl, inr, ℕ, ◌+◌, ◌≤◌, length, Bool, true, false, ◌==◌, ◌&&◌, if◌then◌else◌, List, [], ◌∷◌, ◌++◌, Option, Some, None, Ok, refl, ap, sym, subst, ◌∙◌}
use Rattle.std.specs.List.{slice_get}
use Rattle.std.proofs.lemmas.Bool.{eqb-true, and_parts}
use Rattle.std.proofs.lemmas.Option.{same_Some}
use Rattle.circ_term.specs.Order.{is_same}
use Rattle.circ_term.specs.Tree.{Tree, Trees, Var, App, none, more, list_of, at}
use Rattle.circ_term.proofs.Order.{same_here}
use Rattle.circ_term.proofs.Trees.{trees_of-list_of}
use Rattle.circ_theory.specs.Signature.{Signature, Operator, IsWellSorted}
use Rattle.circ_theory.specs.Theory.{Theory}
use Rattle.circ_theory.specs.WellFormed.{IsWellFormed}
use Rattle.circ_proof.specs.Link.{Setting}
use Rattle.circ_special.specs.Special.{IsSpecial}
use Rattle.circ_conditional_norm.specs.Tries.{Normaliser}
use Rattle.circ_conditional_norm.specs.Work.{Work, Made, or_next, map_found}
use Rattle.circ_conditional_norm.proofs.Linked.{IsLinking}
use Rattle.circ_conditional_norm.proofs.Working.{found_map, found_next, same_found}
use Rattle.circ_plain_search.specs.Joining.{HypothesisUse, is_place}
use Rattle.circ_plain_search.proofs.Special.{place_there, special_deeper, at_deeper}
use Rattle.circ_plain_search.proofs.Terms.{Fine, FineTerms, args_fine}
use Rattle.circ_plain_search.proofs.Uses.{row, row_arg, row_next, longer}
use Rattle.circ_conditional_search.specs.Joining.{first_use_trying}
use Rattle.circ_conditional_search.proofs.Derived.{FineGoals, goals_sorted}
use Rattle.circ_conditional_search.proofs.Joins.{first_use_is, from_all, then_found}
use Rattle.circ_conditional_search.proofs.Nesting.{IsNesting}
use Rattle.circ_conditional_search.proofs.Normals.{IsFining}
use Rattle.circ_content_join.specs.Joining.{contents_joined, meets_by_content, beside_by_content, no_move, joined_by_content, all_joined_by_content}
use Rattle.circ_content_join.specs.Moves.{Move, Using, make_all}
use Rattle.circ_content_join.proofs.Contents.{contents_lead}
use Rattle.circ_content_join.proofs.Moving.{MovesLead, InParts, in_parts, no_move_leads, one_use_leads, then_lead, argument_leads, stands_there, still_special}

meeting : {P : Type 0} (s : Bool) (first : ℕ → Work (Option HypothesisUse)) (inside : ℕ → Work (Option (List Move))) (k : ℕ) (vs : List Move) (l : ℕ)
    → meets_by_content s first inside k ≡ Made (Some vs) l → (s ≡ true → vs ≡ [] → P) → ((x : HypothesisUse) → first k ≡ Made (Some x) l → vs ≡ Using x ∷ [] → P)
    → ((j : ℕ) → inside j ≡ Made (Some vs) l → P) → P
meeting true first inside k vs l e same used into = same refl (sym (same_found [] vs k l e).0)
meeting {P = P} false first inside k vs l e same used into = go (found_next (map_found (λ u. Using u ∷ []) (first k)) inside vs l e)
  where
    go : (map_found (λ u. Using u ∷ []) (first k) ≡ Made (Some vs) l)
        ⊎ ((j : ℕ) × (map_found (λ u. Using u ∷ []) (first k) ≡ Made None j) × (inside j ≡ Made (Some vs) l)) → P
    go (inl x) = let h = found_map (λ u. Using u ∷ []) (first k) vs l x in used h.0 h.1 (sym h.2)
    go (inr x) = into x.0 x.2

record Beside (one rest : ℕ → Work (Option (List Move))) (k : ℕ) (all : List Move) (l : ℕ) : Type 0 where
  us : List Move
  vs : List Move
  between : ℕ
  first : one k ≡ Made (Some us) between
  last : rest between ≡ Made (Some vs) l
  whole : all ≡ us ++ vs

besides : {P : Type 0} (same place : Bool) (one rest : ℕ → Work (Option (List Move))) (k : ℕ) (all : List Move) (l : ℕ)
    → beside_by_content same place one rest k ≡ Made (Some all) l → (same ≡ true → rest k ≡ Made (Some all) l → P) → (place ≡ true → Beside one rest k all l → P) → P
besides true p one rest k all l e left right = left refl e
besides false false one rest k all l e left right = absurd (cc)
besides false true one rest k all l e left right =
    let a = then_found (one k) (λ us j. map_found (λ vs. us ++ vs) (rest j)) all l e in
    let b = found_map (λ vs. a.0 ++ vs) (rest a.1) all l a.3 in
    right refl (record { us = a.0; vs = b.0; between = a.1; first = a.2; last = b.1; whole = sym b.2 })

module _ (c : Setting) (m : ℕ) (least : 1 ≤ m) (wf : IsWellFormed c.theory) (fine : FineGoals c.theory m c.hypotheses) (f : Normaliser)
    (links : IsLinking c f) (fining : IsFining c.theory m f) (nest : IsNesting 7 f) where
  abbrev th : Theory
  th = c.theory

  abbrev Sig : Signature
  Sig = c.theory.signature

  abbrev join : (q : List ℕ) → (a b : Tree) → (budget : ℕ) → Work (Option (List Move))
  join = joined_by_content f Sig c.places c.hypotheses

  abbrev join_all : (g : ℕ) → (q : List ℕ) → (i : ℕ) → (ts us : Trees) → (budget : ℕ) → Work (Option (List Move))
  join_all = all_joined_by_content f Sig c.places c.hypotheses

  used : (q : List ℕ) (a b t u : Tree) (vs : List Move) (x : HypothesisUse) (k l : ℕ) → Fine th m t → Fine th m a → Fine th m b → at t q ≡ Some a
      → IsSpecial c.places t q → make_all t vs ≡ Ok u → first_use_trying f 0 c.hypotheses q a b k ≡ Made (Some x) l → vs ≡ Using x ∷ [] → MovesLead c m vs q b t u
  used q a b t u vs x k l ft fa fb there special p e one =
      let P : List Move → Type 0 = λ ws. MovesLead c m ws q b t u in
      subst P (sym one) (one_use_leads c m (goals_sorted th m c.hypotheses fine) q a b t u x ft
      (first_use_is c m fine f links fining nest q a b fa fb 0 c.hypotheses k x l (from_all c m fine f links fining nest) e) there special (ap (make_all t) (sym one) ∙ p))

  nothing : (q : List ℕ) (b t u : Tree) (vs : List Move) → Fine th m t → at t q ≡ Some b → make_all t vs ≡ Ok u → vs ≡ [] → MovesLead c m vs q b t u
  nothing q b t u vs ft there p nil =
      let P : List Move → Type 0 = λ ws. MovesLead c m ws q b t u in
      subst P (sym nil) (no_move_leads c m q b t u ft there (ap (make_all t) (sym nil) ∙ p))

  equal : (q : List ℕ) (a b t u : Tree) (vs : List Move) → Fine th m t → at t q ≡ Some a → make_all t vs ≡ Ok u → is_same a b ≡ true → vs ≡ [] → MovesLead c m vs q b t u
  equal q a b t u vs ft there p same nil = nothing q b t u vs ft (there ∙ ap Some (same_here a b same)) p nil

  sort_is : (g s : ℕ) (ts : Trees) → IsWellSorted Sig (App g s ts) → (o : Operator) → slice_get Sig.ops g ≡ Some o → s ≡ o.result
  sort_is g s ts w o e = sym w.2 ∙ ap (λ p. p.result) (same_Some w.0 o (sym w.1 ∙ e))

  mutual
    pub joined_leads : (a b : Tree) (q : List ℕ) (vs : List Move) (t u : Tree) (k l : ℕ) → Fine th m t → Fine th m a → Fine th m b → at t q ≡ Some a
        → IsSpecial c.places t q → join q a b k ≡ Made (Some vs) l → make_all t vs ≡ Ok u → MovesLead c m vs q b t u
    joined_leads (Var n s) b q vs t u k l ft fa fb there special e p =
        meeting (is_same (Var n s) b) (first_use_trying f 0 c.hypotheses q (Var n s) b) no_move k vs l e
        (λ same nil. equal q (Var n s) b t u vs ft there p same nil)
        (λ x e one. used q (Var n s) b t u vs x k l ft fa fb there special p e one)
        (λ j z. absurd (cc))
    joined_leads (App g s ts) (Var n i) q vs t u k l ft fa fb there special e p =
        meeting false (first_use_trying f 0 c.hypotheses q (App g s ts) (Var n i)) no_move k vs l e
        (λ z. absurd (cc))
        (λ x e one. used q (App g s ts) (Var n i) t u vs x k l ft fa fb there special p e one)
        (λ j z. absurd (cc))
    joined_leads (App g s ts) (App d i ws) q vs t u k l ft fa fb there special e p =
        meeting (is_same (App g s ts) (App d i ws)) (first_use_trying f 0 c.hypotheses q (App g s ts) (App d i ws))
        (if (g == d) && (s == i) then (λ j. or_next (contents_joined f Sig c.places c.hypotheses g q (App g s ts) (App d i ws) j) (join_all g q 0 ts ws)) else no_move) k vs l e
        (λ same nil. equal q (App g s ts) (App d i ws) t u vs ft there p same nil)
        (λ x e one. used q (App g s ts) (App d i ws) t u vs x k l ft fa fb there special p e one)
        (λ j z. inside j ((g == d) && (s == i)) refl
        (λ n x. all_joined_leads ts ws g s [] q 0 vs t u n l ft (args_fine th m g s ts fa) (args_fine th m d i ws fb) refl
        (there ∙ ap (λ y. Some (App g s y)) (sym (trees_of-list_of ts))) special x p) z)
      where
        over : (j : ℕ) → s ≡ i → contents_joined f Sig c.places c.hypotheses g q (App g s ts) (App d i ws) j ≡ Made (Some vs) l → MovesLead c m vs q (App d i ws) t u
        over j same x =
            contents_lead c m least wf fine f links fining nest g q (App g s ts) (App d i ws) t u ft fa fb
            (λ o r. let y = sort_is g s ts fa.sorted o r in (y, sym same ∙ y)) there special j l vs x p

        inside : (j : ℕ) (v : Bool) → ((g == d) && (s == i)) ≡ v → ((n : ℕ) → join_all g q 0 ts ws n ≡ Made (Some vs) l → MovesLead c m vs q (row g s [] ws) t u)
            → (if v then (λ j. or_next (contents_joined f Sig c.places c.hypotheses g q (App g s ts) (App d i ws) j) (join_all g q 0 ts ws)) else no_move) j ≡ Made (Some vs) l
            → MovesLead c m vs q (App d i ws) t u
        inside j false v ih x = absurd (cc)
        inside j true v ih x = go (found_next (contents_joined f Sig c.places c.hypotheses g q (App g s ts) (App d i ws) j) (join_all g q 0 ts ws) vs l x)
          where
            both : (g ≡ d) × (s ≡ i)
            both = let b = and_parts (g == d) (s == i) v in (eqb-true g d b.0, eqb-true s i b.1)

            go : (contents_joined f Sig c.places c.hypotheses g q (App g s ts) (App d i ws) j ≡ Made (Some vs) l)
                ⊎ ((n : ℕ) × (contents_joined f Sig c.places c.hypotheses g q (App g s ts) (App d i ws) j ≡ Made None n) × (join_all g q 0 ts ws n ≡ Made (Some vs) l))
                → MovesLead c m vs q (App d i ws) t u
            go (inl y) = over j both.1 y
            go (inr y) =
                let P : Tree → Type 0 = λ z. MovesLead c m vs q z t u in
                let r : row g s [] ws ≡ App d i ws
                = ap (App g s) (trees_of-list_of ws) ∙ ap (λ z. App z s ws) both.0 ∙ ap (λ z. App d z ws) both.1 in
                subst P r (ih y.0 y.2)

    all_joined_leads : (ts ws : Trees) (g s : ℕ) (front : List Tree) (q : List ℕ) (i : ℕ) (vs : List Move) (t u : Tree) (k l : ℕ) → Fine th m t
        → FineTerms th m (list_of ts) → FineTerms th m (list_of ws) → i ≡ length front → at t q ≡ Some (row g s front ts) → IsSpecial c.places t q
        → join_all g q i ts ws k ≡ Made (Some vs) l → make_all t vs ≡ Ok u → MovesLead c m vs q (row g s front ws) t u
    all_joined_leads none none g s front q i vs t u k l ft fa fb n there special e p = nothing q (row g s front none) t u vs ft there p (sym (same_found [] vs k l e).0)
    all_joined_leads none (more b bs) g s front q i vs t u k l ft fa fb n there special e p = absurd (cc)
    all_joined_leads (more a as') none g s front q i vs t u k l ft fa fb n there special e p = absurd (cc)
    all_joined_leads (more a as') (more b bs) g s front q i vs t u k l ft fa fb n there special e p =
        besides (is_same a b) (is_place c.places g i) (join (q ++ i ∷ []) a b) (join_all g q (i + 1) as' bs) k vs l e
        (λ same rest.
        let P : Tree → Type 0 = λ y. MovesLead c m vs q y t u in
        subst P (row_next g s front b bs)
        (all_joined_leads as' bs g s (front ++ b ∷ []) q (i + 1) vs t u k l ft fa.1 fb.1
        (ap (λ j. j + 1) n ∙ sym (longer front b))
        (there ∙ ap (λ y. Some (row g s front (more y as'))) (same_here a b same) ∙ ap Some (sym (row_next g s front b as'))) special rest p))
        (λ place x.
        let P : List Move → Type 0 = λ y. MovesLead c m y q (row g s front (more b bs)) t u in
        let N : ℕ → Type 0 = λ j. join (q ++ j ∷ []) a b k ≡ Made (Some x.us) x.between in
        let d = place_there c.places g (length front) (ap (is_place c.places g) (sym n) ∙ place) in
        let parts : InParts x.us x.vs t u = in_parts x.us x.vs t u (ap (make_all t) (sym x.whole) ∙ p) in
        let inner = joined_leads a b (q ++ length front ∷ []) x.us t parts.between k x.between ft fa.0 fb.0
        (at_deeper q t g s _ (length front) a there (row_arg front a as'))
        (special_deeper c.places q t g s _ (length front) a special there d (row_arg front a as'))
        (subst N n x.first) parts.first in
        let first = argument_leads c m x.us q g s front a b as' t parts.between there inner in
        let after = stands_there c m x.us q (row g s front (more b as')) t parts.between first in
        let M : Tree → Type 0 = λ z. MovesLead c m x.vs q z parts.between u in
        subst P (sym x.whole)
        (then_lead c m x.us x.vs q (row g s front (more b as')) (row g s front (more b bs)) t parts.between u first
        (subst M (row_next g s front b bs)
        (all_joined_leads as' bs g s (front ++ b ∷ []) q (i + 1) x.vs parts.between u x.between l first.led.fine fa.1 fb.1
        (ap (λ j. j + 1) n ∙ sym (longer front b)) (after ∙ ap Some (sym (row_next g s front b as')))
        (still_special c m x.us q (row g s front (more b as')) t parts.between first special) x.last parts.last))))
