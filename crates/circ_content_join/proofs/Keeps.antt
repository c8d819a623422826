-- What Join finds without contents, Join up to content finds too, where the hypotheses have no conditions, unless a term passes a limit.
use Rattle.std.proofs.Common.{◌≡◌, ℕ, ◌+◌, Bool, true, false, ◌==◌, ◌&&◌, if◌then◌else◌, List, [], ◌∷◌, ◌++◌, Option, Some, None, refl, ap, sym, subst, ◌∙◌}
use Rattle.std.specs.Option.{option_or, option_map_or}
use Rattle.circ_term.specs.Limits.{Limit, first_limit, or_else}
use Rattle.circ_term.specs.Order.{is_same}
use Rattle.circ_term.specs.Tree.{Tree, Trees, Var, App, none, more}
use Rattle.circ_theory.specs.Signature.{Signature, Operator}
use Rattle.circ_theory.specs.Theory.{sides}
use Rattle.circ_theory.specs.Goal.{Goal}
use Rattle.circ_theory.specs.declared.way.Way.{Way}
use Rattle.circ_theory.specs.declared.way.Way.TheVariants.{Forth, Back}
use Rattle.circ_aci.specs.Canonical.{join}
use Rattle.circ_aci.specs.Content.{content}
use Rattle.circ_special.specs.declared.place.Place.{Place}
use Rattle.circ_rewrite.specs.Due.{terms_by}
use Rattle.circ_rewrite.specs.Replacement.{Passes}
use Rattle.circ_conditional_norm.specs.Tries.{Normaliser, tried}
use Rattle.circ_conditional_norm.specs.Work.{Work, Made, Out, Past, or_next, map_found, unless_limit}
use Rattle.circ_plain_search.specs.BlockRules.{HaveNoConditions}
use Rattle.circ_plain_search.specs.Joining.{HypothesisUse, use_with, pair_matching, pair_matches, hypothesis_variables, pair_use, one_use, first_use, is_place, meets, beside, joined, all_joined}
use Rattle.circ_conditional_search.specs.Joining.{use_passing, pair_use_trying, one_use_trying, first_use_trying, found_then}
use Rattle.circ_content_join.specs.Apart.{Apart, set_aside, leaves_rests}
use Rattle.circ_content_join.specs.Joining.{IsFoundOrPast, over_rests, joining_operator, meets_by_content, beside_by_content, no_move, rests_joined, contents_joined, joined_by_content, all_joined_by_content}
use Rattle.circ_content_join.specs.Moves.{Move, Using}

-- ---- a hypothesis without conditions takes no step

next_is : {A : Type 0} (w : Work (Option A)) (g : ℕ → Work (Option A)) (x y : Option A) (k : ℕ) → w ≡ Made x k → g k ≡ Made y k → or_next w g ≡ Made (option_or x y) k
next_is w g x y k e h = ap (λ v. or_next v g) e ∙ go x
  where
    go : (z : Option _) → or_next (Made z k) g ≡ Made (option_or z y) k
    go (Some a) = refl
    go None = h

module _ (f : Normaliser) where
  pair_is : (way : Way) (n : ℕ) (h : Goal) (q : List ℕ) (new a b : Tree) (k : ℕ) → h.conds ≡ [] → pair_use_trying f n way h q new a b k ≡ Made (pair_use n way h q new a b) k
  pair_is way n h q new a b k bare =
      ap (λ E. if pair_matches (sides h) a b then map_found made (tried (Some f) (pair_matching (sides h) a b) E k) else Made None k) bare ∙ go (pair_matches (sides h) a b)
    where
      made : Passes → HypothesisUse
      made passes = use_passing n way q (terms_by (pair_matching (sides h) a b) (hypothesis_variables h)) passes new

      go : (v : Bool) → (if v then map_found made (tried (Some f) (pair_matching (sides h) a b) [] k) else Made None k)
          ≡ Made (if v then Some (use_with n way q (terms_by (pair_matching (sides h) a b) (hypothesis_variables h)) new) else None) k
      go true = refl
      go false = refl

  first_is : (n : ℕ) (hs : List Goal) → HaveNoConditions hs → (q : List ℕ) (a b : Tree) (k : ℕ) → first_use_trying f n hs q a b k ≡ Made (first_use n hs q a b) k
  first_is n [] bare q a b k = refl
  first_is n (h ∷ hs) bare q a b k =
      next_is (one_use_trying f n h q a b k) (first_use_trying f (n + 1) hs q a b) (one_use n h q a b) (first_use (n + 1) hs q a b) k
      (next_is (pair_use_trying f n Forth h q b a b k) (pair_use_trying f n Back h q b b a) (pair_use n Forth h q b a b) (pair_use n Back h q b b a) k
      (pair_is Forth n h q b a b k bare.0) (pair_is Back n h q b b a k bare.0))
      (first_is (n + 1) hs bare.1 q a b k)

-- what comes to something goes on with it
then_kept : (w : Work (Option (List Move))) (g : List Move → ℕ → Work (Option (List Move))) → IsFoundOrPast w → ((vs : List Move) (k : ℕ) → IsFoundOrPast (g vs k))
    → IsFoundOrPast (found_then w g)
then_kept (Made (Some vs) k) g h i = i vs k
then_kept (Made None k) g h i = absurd h
then_kept Out g h i = absurd h
then_kept (Past x k) g h i = tt

map_kept : (g : List Move → List Move) (w : Work (Option (List Move))) → IsFoundOrPast w → IsFoundOrPast (map_found g w)
map_kept g (Made (Some vs) k) h = tt
map_kept g (Made None k) h = absurd h
map_kept g Out h = absurd h
map_kept g (Past x k) h = tt

module _ (f : Normaliser) (sig : Signature) (G : List Place) (H : List Goal) (bare : HaveNoConditions H) where
  -- contents first, and then the arguments
  contents_kept : (g : ℕ) (q : List ℕ) (a b : Tree) (rest : ℕ → Work (Option (List Move))) → ((k : ℕ) → IsFoundOrPast (rest k)) → (k : ℕ)
      → IsFoundOrPast (or_next (contents_joined f sig G H g q a b k) rest)
  contents_kept g q a b rest h k = go (joining_operator sig G g)
    where
      found : (o : Operator) (d : Apart) (x : Option HypothesisUse) → IsFoundOrPast (or_next (map_found (over_rests o g q a b d) (Made x k)) rest)
      found o d None = h k
      found o d (Some u) = tt

      within : (o : Operator) (d : Apart) (l : Option Limit) (X Y : Tree)
          → IsFoundOrPast (or_next (unless_limit l k (map_found (over_rests o g q a b d) (first_use_trying f 0 H (q ++ 0 ∷ []) X Y k))) rest)
      within o d (Some l) X Y = tt
      within o d None X Y =
          let P : Work (Option HypothesisUse) → Type 0 = λ w. IsFoundOrPast (or_next (map_found (over_rests o g q a b d) w) rest) in
          subst P (sym (first_is f 0 H bare (q ++ 0 ∷ []) X Y k)) (found o d (first_use 0 H (q ++ 0 ∷ []) X Y))

      rests : (o : Operator) (d : Apart) (v : Bool)
          → IsFoundOrPast (or_next (if v then unless_limit (or_else (first_limit (join g o.result d.left)) (first_limit (join g o.result d.right))) k
          (map_found (over_rests o g q a b d) (first_use_trying f 0 H (q ++ 0 ∷ []) (join g o.result d.left) (join g o.result d.right) k)) else Made None k) rest)
      rests o d true = within o d (or_else (first_limit (join g o.result d.left)) (first_limit (join g o.result d.right))) (join g o.result d.left) (join g o.result d.right)
      rests o d false = h k

      go : (x : Option Operator)
          → IsFoundOrPast (or_next (option_map_or (λ o. rests_joined f sig G H o g q a b (set_aside (content o g a) (content o g b)) k) x (Made None k)) rest)
      go None = h k
      go (Some o) = rests o (set_aside (content o g a) (content o g b)) (leaves_rests (set_aside (content o g a) (content o g b)))

  meets_kept : (s : Bool) (q : List ℕ) (a b : Tree) (inside : ℕ → Work (Option (List Move))) (o : Option (List HypothesisUse)) (us : List HypothesisUse)
      → meets s (first_use 0 H q a b) o ≡ Some us → ((ws : List HypothesisUse) → o ≡ Some ws → (k : ℕ) → IsFoundOrPast (inside k)) → (k : ℕ)
      → IsFoundOrPast (meets_by_content s (first_use_trying f 0 H q a b) inside k)
  meets_kept true q a b inside o us e h k = tt
  meets_kept false q a b inside o us e h k =
      let P : Work (Option HypothesisUse) → Type 0 = λ w. IsFoundOrPast (or_next (map_found (λ u. Using u ∷ []) w) inside) in
      subst P (sym (first_is f 0 H bare q a b k)) (go (first_use 0 H q a b) e)
    where
      go : (x : Option HypothesisUse) → meets false x o ≡ Some us → IsFoundOrPast (or_next (map_found (λ u. Using u ∷ []) (Made x k)) inside)
      go (Some x) z = tt
      go None z = h us z k

  beside_kept : (same place : Bool) (one rest : ℕ → Work (Option (List Move))) (x y : Option (List HypothesisUse)) (us : List HypothesisUse)
      → beside same place x y ≡ Some us → ((ws : List HypothesisUse) → x ≡ Some ws → (k : ℕ) → IsFoundOrPast (one k))
      → ((ws : List HypothesisUse) → y ≡ Some ws → (k : ℕ) → IsFoundOrPast (rest k)) → (k : ℕ) → IsFoundOrPast (beside_by_content same place one rest k)
  beside_kept true place one rest x y us e g h k = h us e k
  beside_kept false false one rest x y us e g h k = absurd (cc)
  beside_kept false true one rest None y us e g h k = absurd (cc)
  beside_kept false true one rest (Some vs) None us e g h k = absurd (cc)
  beside_kept false true one rest (Some vs) (Some ws) us e g h k =
      then_kept (one k) (λ zs l. map_found (λ ys. zs ++ ys) (rest l)) (g vs refl k) (λ zs l. map_kept (λ ys. zs ++ ys) (rest l) (h ws refl l))

  mutual
    pub joined_kept : (q : List ℕ) (a b : Tree) (us : List HypothesisUse) → joined G H q a b ≡ Some us → (k : ℕ) → IsFoundOrPast (joined_by_content f sig G H q a b k)
    joined_kept q (Var n s) b us e k = meets_kept (is_same (Var n s) b) q (Var n s) b no_move None us e (λ ws z l. absurd (cc)) k
    joined_kept q (App g s ts) (Var m j) us e k = meets_kept false q (App g s ts) (Var m j) no_move None us e (λ ws z l. absurd (cc)) k
    joined_kept q (App g s ts) (App h j vs) us e k =
        meets_kept (is_same (App g s ts) (App h j vs)) q (App g s ts) (App h j vs)
        (if (g == h) && (s == j) then (λ l. or_next (contents_joined f sig G H g q (App g s ts) (App h j vs) l) (all_joined_by_content f sig G H g q 0 ts vs)) else no_move)
        (if (g == h) && (s == j) then all_joined G H g q 0 ts vs else None) us e
        (λ ws z l. inside ((g == h) && (s == j)) ws z (λ d i. all_joined_kept g q 0 ts vs ws d i) l) k
      where
        inside : (v : Bool) (ws : List HypothesisUse) → (if v then all_joined G H g q 0 ts vs else None) ≡ Some ws
            → (all_joined G H g q 0 ts vs ≡ Some ws → (i : ℕ) → IsFoundOrPast (all_joined_by_content f sig G H g q 0 ts vs i)) → (l : ℕ)
            → IsFoundOrPast ((if v then (λ l. or_next (contents_joined f sig G H g q (App g s ts) (App h j vs) l) (all_joined_by_content f sig G H g q 0 ts vs)) else no_move) l)
        inside true ws z ih l = contents_kept g q (App g s ts) (App h j vs) (all_joined_by_content f sig G H g q 0 ts vs) (ih z) l
        inside false ws z ih l = absurd (cc)

    all_joined_kept : (g : ℕ) (q : List ℕ) (i : ℕ) (ts vs : Trees) (us : List HypothesisUse) → all_joined G H g q i ts vs ≡ Some us → (k : ℕ)
        → IsFoundOrPast (all_joined_by_content f sig G H g q i ts vs k)
    all_joined_kept g q i none none us e k = tt
    all_joined_kept g q i none (more v vs) us e k = absurd (cc)
    all_joined_kept g q i (more t ts) none us e k = absurd (cc)
    all_joined_kept g q i (more t ts) (more v vs) us e k =
        beside_kept (is_same t v) (is_place G g i) (joined_by_content f sig G H (q ++ i ∷ []) t v) (all_joined_by_content f sig G H g q (i + 1) ts vs)
        (joined G H (q ++ i ∷ []) t v) (all_joined G H g q (i + 1) ts vs) us e (λ ws z l. joined_kept (q ++ i ∷ []) t v ws z l)
        (λ ws z l. all_joined_kept g q (i + 1) ts vs ws z l) k
