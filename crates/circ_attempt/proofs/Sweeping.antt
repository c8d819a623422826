-- The uses of a pass lead from a term to a term, where what is taken in it are uses.
use Rattle.std.proofs.Common.{◌≡◌, ℕ, ◌+◌, length, Bool, true, false, if◌then◌else◌, List, [], ◌∷◌, ◌++◌, map, Option, Some, None, refl, ap, sym, subst, ◌∙◌, append_assoc, append-nil}
use Rattle.circ_term.specs.Tree.{Tree, Trees, Var, App, none, more, list_of, at}
use Rattle.circ_term.proofs.Trees.{trees_of-list_of}
use Rattle.circ_theory.specs.Theory.{Theory}
use Rattle.circ_proof.specs.Goals.{AreSortedGoals}
use Rattle.circ_proof.specs.Link.{Setting}
use Rattle.circ_special.specs.Special.{IsSpecial}
use Rattle.circ_conditional_norm.specs.Work.{Work, Made, Out, Past}
use Rattle.circ_plain_search.specs.Joining.{HypothesisUse, use_link, is_place}
use Rattle.circ_plain_search.proofs.Terms.{Fine, FineTerms, args_fine}
use Rattle.circ_plain_search.proofs.Special.{place_there, special_deeper, at_deeper}
use Rattle.circ_plain_search.proofs.Uses.{row, row_arg, row_next, longer}
use Rattle.circ_conditional_search.specs.Joining.{Swept, swept_with, swept_or_inside, work_then}
use Rattle.circ_conditional_search.proofs.Led.{Led}
use Rattle.circ_conditional_search.proofs.Passes.{is_put}
use Rattle.circ_conditional_search.proofs.Uses.{IsUse, UsesLead, use_leads, no_use, beyond, both_lead}
use Rattle.circ_attempt.specs.Rules.{Taker}
use Rattle.circ_attempt.specs.Passes.{swept_taking, all_swept_taking, both_swept}
use Rattle.circ_attempt.proofs.Parts.{made_then, same_made}

module _ (c : Setting) (m : ℕ) (well : AreSortedGoals c.theory c.hypotheses) where
  abbrev th : Theory
  th = c.theory

  -- what is taken is a use
  abbrev pub IsTaking : Taker → Type 0
  IsTaking first = (q : List ℕ) (a : Tree) → Fine th m a → (k : ℕ) (u : HypothesisUse) (l : ℕ) → first q a k ≡ Made (Some u) l → IsUse c m q a u.new u

  -- A pass leads to the term in which new stands at the path.
  record PassLeads (q : List ℕ) (w v : Swept) : Type 0 where
    new : Tree
    made : List HypothesisUse
    uses : v.uses ≡ w.uses ++ made
    lead : UsesLead c m made q new w.whole v.whole

  -- the same for the arguments from a place on
  record RowPass (g s : ℕ) (front : List Tree) (q : List ℕ) (w v : Swept) : Type 0 where
    args : Trees
    made : List HypothesisUse
    uses : v.uses ≡ w.uses ++ made
    lead : UsesLead c m made q (row g s front args) w.whole v.whole

  module _ (first : Taker) (takes : IsTaking first) where
    abbrev sweep : (q : List ℕ) → Tree → Swept → (budget : ℕ) → Work Swept
    sweep = swept_taking first c.places

    abbrev sweep_all : (g : ℕ) → (q : List ℕ) → (i : ℕ) → Trees → Swept → (budget : ℕ) → Work Swept
    sweep_all = all_swept_taking first c.places

    same_swept : (w v : Swept) (k l : ℕ) → Made w k ≡ Made v l → w ≡ v
    same_swept w v k l e = cc

    stays : (q : List ℕ) (a : Tree) (w v : Swept) → Fine th m w.whole → at w.whole q ≡ Some a → w ≡ v → PassLeads q w v
    stays q a w v fw there e =
        subst (PassLeads q w) e
        (record { new = a; made = []; uses = sym (append-nil w.uses); lead = no_use c m well q a w.whole fw there })

    -- a pass that stops at a term, or goes on to its arguments
    at_term : (a : Tree) (q : List ℕ) (w v : Swept) (k l : ℕ) (inside : ℕ → Work Swept) → Fine th m w.whole → Fine th m a → at w.whole q ≡ Some a
        → IsSpecial c.places w.whole q → ((j : ℕ) → inside j ≡ Made v l → PassLeads q w v) → swept_or_inside w (first q a k) inside ≡ Made v l → PassLeads q w v
    at_term a q w v k l inside fw fa there special ih p = go (first q a k) refl p
      where
        go : (o : Work (Option HypothesisUse)) → first q a k ≡ o → swept_or_inside w o inside ≡ Made v l → PassLeads q w v
        go (Made (Some x) j) e z =
            let r = is_put w x j v l z in
            let u = takes q a fa k x j e in
            record { new = x.new; made = x ∷ []; uses = r.uses; lead = use_leads c m well q a x.new x w.whole v.whole u fw there special r.put }
        go (Made None j) e z = ih j z
        go Out e z = absurd (cc)
        go (Past y j) e z = absurd (cc)

    mutual
      swept_leads : (a : Tree) (q : List ℕ) (w v : Swept) (k l : ℕ) → Fine th m w.whole → Fine th m a → at w.whole q ≡ Some a → IsSpecial c.places w.whole q
          → sweep q a w k ≡ Made v l → PassLeads q w v
      swept_leads (Var n s) q w v k l fw fa there special p =
          at_term (Var n s) q w v k l (Made w) fw fa there special (λ j z. stays q (Var n s) w v fw there (same_swept w v j l z)) p
      swept_leads (App g s ts) q w v k l fw fa there special p =
          at_term (App g s ts) q w v k l (sweep_all g q 0 ts w) fw fa there special
          (λ j z. let r = all_swept_leads ts g s [] q 0 w v j l fw (args_fine th m g s ts fa) refl
          (there ∙ ap (λ y. Some (App g s y)) (sym (trees_of-list_of ts))) special z in record { new = row g s [] r.args; made = r.made; uses = r.uses; lead = r.lead }) p

      all_swept_leads : (ts : Trees) (g s : ℕ) (front : List Tree) (q : List ℕ) (i : ℕ) (w v : Swept) (k l : ℕ) → Fine th m w.whole → FineTerms th m (list_of ts)
          → i ≡ length front → at w.whole q ≡ Some (row g s front ts) → IsSpecial c.places w.whole q → sweep_all g q i ts w k ≡ Made v l → RowPass g s front q w v
      all_swept_leads none g s front q i w v k l fw fa n there special p =
          subst (RowPass g s front q w) (same_swept w v k l p)
          (record { args = none; made = []; uses = sym (append-nil w.uses); lead = no_use c m well q (row g s front none) w.whole fw there })
      all_swept_leads (more a ts) g s front q i w v k l fw fa n there special p =
          go (λ x j here sp y. swept_leads a (q ++ length front ∷ []) w x k j fw fa.0 here sp y)
          (λ x b j fx y z e. all_swept_leads ts g s (front ++ b ∷ []) q (i + 1) x v j l fx fa.1 (ap (λ d. d + 1) n ∙ sym (longer front b)) y z e)
          (is_place c.places g i) refl p
        where
          go : ((x : Swept) (j : ℕ) → at w.whole (q ++ length front ∷ []) ≡ Some a → IsSpecial c.places w.whole (q ++ length front ∷ [])
              → sweep (q ++ length front ∷ []) a w k ≡ Made x j → PassLeads (q ++ length front ∷ []) w x)
              → ((x : Swept) (b : Tree) (j : ℕ) → Fine th m x.whole → at x.whole q ≡ Some (row g s (front ++ b ∷ []) ts) → IsSpecial c.places x.whole q
              → sweep_all g q (i + 1) ts x j ≡ Made v l → RowPass g s (front ++ b ∷ []) q x v)
              → (d : Bool) → is_place c.places g i ≡ d
              → work_then (if d then sweep (q ++ i ∷ []) a w k else Made w k) (λ x j. sweep_all g q (i + 1) ts x j) ≡ Made v l → RowPass g s front q w v
          go one later false d z =
              let r = later w a k fw (there ∙ ap Some (sym (row_next g s front a ts))) special z in
              record { args = more a r.args; made = r.made; uses = r.uses; lead = subst (λ y. UsesLead c m r.made q y w.whole v.whole) (row_next g s front a r.args) r.lead }
          go one later true d z = inner (sweep (q ++ i ∷ []) a w k) refl z
            where
              inner : (o : Work Swept) → sweep (q ++ i ∷ []) a w k ≡ o → work_then o (λ x j. sweep_all g q (i + 1) ts x j) ≡ Made v l → RowPass g s front q w v
              inner Out e y = absurd (cc)
              inner (Past b j) e y = absurd (cc)
              inner (Made x j) e y =
                  let at_place = place_there c.places g (length front) (ap (is_place c.places g) (sym n) ∙ d) in
                  let first = one x j (at_deeper q w.whole g s _ (length front) a there (row_arg front a ts))
                  (special_deeper c.places q w.whole g s _ (length front) a special there at_place (row_arg front a ts))
                  (ap (λ h. sweep (q ++ h ∷ []) a w k) (sym n) ∙ e) in
                  let b : Tree = first.new in
                  let step = beyond c m well first.made q g s front a b ts w.whole x.whole there special first.lead in
                  let rest = later x b j first.lead.led.fine step.there step.special y in
                  record {
                    args = more b rest.args;
                    made = first.made ++ rest.made;
                    uses = rest.uses ∙ ap (λ h. h ++ rest.made) first.uses ∙ append_assoc w.uses first.made rest.made;
                    lead = both_lead c m well first.made rest.made q g s front b ts w.whole x.whole v.whole (row g s front (more b rest.args)) step
                        (subst (λ h. UsesLead c m rest.made q h x.whole v.whole) (row_next g s front b rest.args) rest.lead);
                  }

    -- a pass over a whole term
    pub whole_led : (t : Tree) (v : Swept) (k l : ℕ) → Fine th m t → sweep [] t (swept_with t []) k ≡ Made v l → Led c m (map use_link v.uses) t v.whole
    whole_led t v k l f e =
        let s = swept_leads t [] (swept_with t []) v k l f f refl tt e in
        let P : List HypothesisUse → Type 0 = λ us. Led c m (map use_link us) t v.whole in
        subst P (sym s.uses) s.lead.led

    -- and over both sides
    pub record BothLed (s t : Tree) (w : Swept × Swept) : Type 0 where
      pub left : Led c m (map use_link w.0.uses) s w.0.whole
      pub right : Led c m (map use_link w.1.uses) t w.1.whole

    pub both_led : (s t : Tree) (w : Swept × Swept) (k l : ℕ) → Fine th m s → Fine th m t → both_swept first c.places s t k ≡ Made w l → BothLed s t w
    both_led s t w k l fs ft e =
        let a = made_then (sweep [] s (swept_with s []) k) (λ a j. work_then (sweep [] t (swept_with t []) j) (λ b n. Made (a, b) n)) w l e in
        let b = made_then (sweep [] t (swept_with t []) a.1) (λ b n. Made (a.0, b) n) w l a.3 in
        subst (BothLed s t) (same_made (a.0, b.0) w b.1 l b.3)
        (record { left = whole_led s a.0 k a.1 fs a.2; right = whole_led t b.0 a.1 b.1 ft b.2 })
