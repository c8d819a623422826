-- Moves lead from a term to the one in which another subterm stands at a path.
use Rattle.std.proofs.Common.{◌≡◌, ℕ, ◌≤◌, List, [], ◌∷◌, ◌++◌, length, map, Option, Some, None, Result, Ok, Err, refl, ap, sym, subst, ◌∙◌}
use Rattle.std.specs.Option.{unwrap_or}
use Rattle.circ_term.specs.Tree.{Tree, Trees, more, at, replaced}
use Rattle.circ_term.specs.Limits.{Limit, first_limit, or_else, IsWithinLimits}
use Rattle.circ_term.proofs.Paths.{replaced_there, replaced_self, at_replaced, replaced_twice, replaced_below}
use Rattle.circ_theory.specs.Fresh.{above}
use Rattle.circ_theory.specs.Signature.{IsWellSorted}
use Rattle.circ_theory.proofs.Sorting.{replaced_sorted}
use Rattle.circ_aci.specs.Content.{HasContentOf}
use Rattle.circ_proof.specs.Goals.{AreSortedGoals}
use Rattle.circ_proof.specs.Link.{Setting}
use Rattle.circ_proof.specs.Plain.{LinkOf}
use Rattle.circ_special.specs.Special.{IsSpecial}
use Rattle.circ_plain_search.specs.Joining.{Stop, HypothesisUse, and_then, within_or}
use Rattle.circ_plain_search.proofs.Special.{special_replaced}
use Rattle.circ_plain_search.proofs.Terms.{Fine, replaced_low}
use Rattle.circ_plain_search.proofs.Uses.{Through, through, same_Ok, map_append, row}
use Rattle.circ_conditional_search.proofs.Led.{Led, led_none, led_append}
use Rattle.circ_conditional_search.proofs.Uses.{IsUse, use_leads, row_put}
use Rattle.circ_content_join.specs.Moves.{Move, Using, Regrouping, move_link, move_in, move_limit, make_all}

-- ---- moves one after another, in two parts

make_append : (xs ys : List Move) (t : Tree) → make_all t (xs ++ ys) ≡ and_then (make_all t xs) (λ u. make_all u ys)
make_append [] ys t = refl
make_append (x ∷ xs) ys t = go (λ u. make_append xs ys u) (within_or (move_limit t x) (move_in t x))
  where
    go : ((u : Tree) → make_all u (xs ++ ys) ≡ and_then (make_all u xs) (λ v. make_all v ys)) → (r : Result Tree Stop)
        → and_then r (λ u. make_all u (xs ++ ys)) ≡ and_then (and_then r (λ u. make_all u xs)) (λ u. make_all u ys)
    go ih (Ok u) = ih u
    go ih (Err e) = refl

pub record InParts (vs ws : List Move) (x y : Tree) : Type 0 where
  pub between : Tree
  pub first : make_all x vs ≡ Ok between
  pub last : make_all between ws ≡ Ok y

pub in_parts : (vs ws : List Move) (x y : Tree) → make_all x (vs ++ ws) ≡ Ok y → InParts vs ws x y
in_parts vs ws x y e =
    let r : Through (make_all x vs) (λ w. make_all w ws) y = through (make_all x vs) (λ w. make_all w ws) y (sym (make_append vs ws x) ∙ e) in
    record { between = r.value; first = r.first; last = r.last }

-- what a move puts in is within limits, and so is the term
record IsPut (n : Option Limit) (v w : Tree) : Type 0 where
  same : v ≡ w
  within : IsWithinLimits w
  new : n ≡ None

is_put : (n : Option Limit) (v w : Tree) → within_or (or_else n (first_limit v)) v ≡ Ok w → IsPut n v w
is_put None v w e = go (first_limit v) refl e
  where
    go : (o : Option Limit) → first_limit v ≡ o → within_or o v ≡ Ok w → IsPut None v w
    go None f z = let s : v ≡ w = same_Ok v w z in let P : Tree → Type 0 = IsWithinLimits in record { same = s; within = subst P s f; new = refl }
    go (Some l) f z = absurd (cc)
is_put (Some l) v w e = absurd (cc)

-- ---- what moves come to

-- The moves lead from t to u, which is t with b at the path.
pub record MovesLead (c : Setting) (m : ℕ) (vs : List Move) (q : List ℕ) (b t u : Tree) : Type 0 where
  pub led : Led c m (map move_link vs) t u
  pub made : replaced t q b ≡ Some u

module _ (c : Setting) (m : ℕ) where
  pub no_move_leads : (q : List ℕ) (b t u : Tree) → Fine c.theory m t → at t q ≡ Some b → make_all t [] ≡ Ok u → MovesLead c m [] q b t u
  no_move_leads q b t u f there e =
      let P : Tree → Type 0 = λ x. MovesLead c m [] q b t x in
      subst P (same_Ok t u e) (record { led = led_none c m t f; made = replaced_self q t b there })

  -- a use of a hypothesis
  pub one_use_leads : AreSortedGoals c.theory c.hypotheses → (q : List ℕ) (a b t u : Tree) (x : HypothesisUse) → Fine c.theory m t → IsUse c m q a b x
      → at t q ≡ Some a → IsSpecial c.places t q → make_all t (Using x ∷ []) ≡ Ok u → MovesLead c m (Using x ∷ []) q b t u
  one_use_leads well q a b t u x f it there special e =
      let y : Through (within_or (move_limit t (Using x)) (move_in t (Using x))) (λ z. make_all z []) u = through _ (λ z. make_all z []) u e in
      let end : y.value ≡ u = same_Ok y.value u y.last in
      let r = use_leads c m well q a b x t u it f there special (y.first ∙ ap Ok end) in
      record { led = r.led; made = r.made }

  -- a term of the same content
  pub regrouping_leads : (f : ℕ) (q : List ℕ) (a b t u : Tree) → HasContentOf c.theory.signature f a b → IsWellSorted c.theory.signature b → above b ≤ m
      → Fine c.theory m t → at t q ≡ Some a → make_all t (Regrouping f q b ∷ []) ≡ Ok u → MovesLead c m (Regrouping f q b ∷ []) q b t u
  regrouping_leads f q a b t u same sorted low fine there e =
      let y : Through (within_or (move_limit t (Regrouping f q b)) (move_in t (Regrouping f q b))) (λ z. make_all z []) u = through _ (λ z. make_all z []) u e in
      let r = replaced_there q t a b there in
      let v : Tree = r.0 in
      let is : move_in t (Regrouping f q b) ≡ v = ap (λ o. unwrap_or o t) r.1 in
      let Q : Tree → Type 0 = λ x. within_or (or_else (first_limit b) (first_limit x)) x ≡ Ok u in
      let p = is_put (first_limit b) v u (subst Q is (y.first ∙ ap Ok (same_Ok y.value u y.last))) in
      let made : replaced t q b ≡ Some u = r.1 ∙ ap Some p.same in
      let keeps = replaced_sorted c.theory q t a b u fine.sorted there (record { well_sorted = sorted; same_sort = same.same_sort }) made in
      record {
        led = record {
          leads = (u, record { old = a; content = same; replaces = record { there = there; made = made; within = p.within } }, refl);
          fine = record { sorted = keeps.well_sorted; within = p.within; low = replaced_low m q t b u made fine.low low };
          same_sort = keeps.same_sort;
          terms = (record { sorted = sorted; within = p.new; low = low }, tt);
          nests = (tt, tt);
        };
        made = made;
      }

  -- moves at one path, one after another
  pub then_lead : (vs ws : List Move) (q : List ℕ) (b d x w y : Tree) → MovesLead c m vs q b x w → MovesLead c m ws q d w y → MovesLead c m (vs ++ ws) q d x y
  then_lead vs ws q b d x w y p r =
      let L : List (LinkOf Tree) → Type 0 = λ ls. Led c m ls x y in
      record {
        led = subst L (sym (map_append move_link vs ws)) (led_append c m (map move_link vs) (map move_link ws) x w y p.led r.led);
        made = sym (replaced_twice q x b w d p.made) ∙ r.made;
      }

  -- moves at an argument are moves at the term
  pub argument_leads : (vs : List Move) (q : List ℕ) (f s : ℕ) (front : List Tree) (t u : Tree) (ts : Trees) (x w : Tree)
      → at x q ≡ Some (row f s front (more t ts)) → MovesLead c m vs (q ++ length front ∷ []) u x w → MovesLead c m vs q (row f s front (more u ts)) x w
  argument_leads vs q f s front t u ts x w there a = record {
    led = a.led;
    made = sym (replaced_below q (length front ∷ []) x (row f s front (more t ts)) u (row f s front (more u ts)) there (row_put f s front t u ts)) ∙ a.made;
  }

  -- behind moves at a path the new subterm stands there, and the path is as special as it was
  pub stands_there : (vs : List Move) (q : List ℕ) (b x w : Tree) → MovesLead c m vs q b x w → at w q ≡ Some b
  stands_there vs q b x w p = at_replaced q x b w p.made

  pub still_special : (vs : List Move) (q : List ℕ) (b x w : Tree) → MovesLead c m vs q b x w → IsSpecial c.places x q → IsSpecial c.places w q
  still_special vs q b x w p special = special_replaced c.places q x b w p.made special
