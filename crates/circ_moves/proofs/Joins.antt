-- Join up to content in steps.
use Rattle.std.proofs.Common.{◌≡◌, ◌≤◌, ◌<◌, ℕ, zero, suc, ◌+◌, length, Bool, true, false, ◌==◌, ◌&&◌, if◌then◌else◌, List, [], ◌∷◌, ◌++◌, drop, get_or, Option, Some, None, Ok, refl, ap, sym, subst, ◌∙◌, append_assoc, arith}
use Rattle.std.proofs.lemmas.Bool.{eqb-true}
use Rattle.std.proofs.lemmas.List.{drop_all}
use Rattle.circ_term.specs.Tree.{Tree, Trees, Var, App, trees_of}
use Rattle.circ_term.specs.Order.{is_same}
use Rattle.circ_term.proofs.Within.{drop_read}
use Rattle.circ_theory.specs.Signature.{Signature}
use Rattle.circ_theory.specs.Goal.{Goal}
use Rattle.circ_special.specs.declared.place.Place.{Place}
use Rattle.circ_rewrite.specs.declared.fault.RewriteFault.{RewriteFault}
use Rattle.circ_rewrite.specs.declared.fault.RewriteFault.TheVariants.{Spent, TooBig, TooDeep, Memory}
use Rattle.circ_conditional_norm.specs.Tries.{Normaliser}
use Rattle.circ_conditional_norm.specs.Work.{Work, Made, Out, Past, or_next, map_found}
use Rattle.circ_tries.specs.Trying.{Hinders}
use Rattle.circ_tries.proofs.Faulting.{hinders_map, hinders_next, hinders_same}
use Rattle.circ_plain_search.specs.Joining.{HypothesisUse, is_place}
use Rattle.circ_conditional_search.specs.Joining.{first_use_trying, found_then}
use Rattle.circ_join.specs.Trying.{Joins, beside_alone}
use Rattle.circ_join.proofs.Joins.{nil_right, is_same_at, behind, behind_nothing, behind_both, hinders_then, beside_not, beside_joins}
use Rattle.circ_content_join.specs.Joining.{meets_by_content, beside_by_content, no_move, contents_joined, joined_by_content, all_joined_by_content}
use Rattle.circ_content_join.specs.Moves.{Move, Using}
use Rattle.circ_moves.specs.Joining.{inside_by_content}

-- ---- two terms

module _ (f : Normaliser) (sig : Signature) (G : List Place) (H : List Goal) where
  pub joined_meets : (q : List ℕ) (a b : Tree) (k : ℕ)
      → joined_by_content f sig G H q a b k ≡ meets_by_content (is_same a b) (first_use_trying f 0 H q a b) (inside_by_content f sig G H q a b) k
  joined_meets q (Var n s) b k = refl
  joined_meets q (App g s ts) (Var m j) k = refl
  joined_meets q (App g s ts) (App h j us) k = refl

  pub joined_same : (q : List ℕ) (a b : Tree) (k : ℕ) → a ≡ b → joined_by_content f sig G H q a b k ≡ Made (Some []) k
  joined_same q a b k e =
      joined_meets q a b k ∙ ap (λ v. meets_by_content v (first_use_trying f 0 H q a b) (inside_by_content f sig G H q a b) k) (is_same_at a b e)

  differ : (q : List ℕ) (a b : Tree) (k : ℕ) → is_same a b ≡ false
      → joined_by_content f sig G H q a b k ≡ or_next (map_found (λ u. Using u ∷ []) (first_use_trying f 0 H q a b k)) (inside_by_content f sig G H q a b)
  differ q a b k e =
      joined_meets q a b k ∙ ap (λ v. meets_by_content v (first_use_trying f 0 H q a b) (inside_by_content f sig G H q a b) k) e

  pub joined_used : (q : List ℕ) (a b : Tree) (k l : ℕ) (u : HypothesisUse) → is_same a b ≡ false → first_use_trying f 0 H q a b k ≡ Made (Some u) l
      → joined_by_content f sig G H q a b k ≡ Made (Some (Using u ∷ [])) l
  joined_used q a b k l u e first =
      differ q a b k e ∙ ap (λ w. or_next (map_found (λ x. Using x ∷ []) w) (inside_by_content f sig G H q a b)) first

  pub joined_inside : (q : List ℕ) (a b : Tree) (k l : ℕ) → is_same a b ≡ false → first_use_trying f 0 H q a b k ≡ Made None l
      → joined_by_content f sig G H q a b k ≡ inside_by_content f sig G H q a b l
  joined_inside q a b k l e first =
      differ q a b k e ∙ ap (λ w. or_next (map_found (λ x. Using x ∷ []) w) (inside_by_content f sig G H q a b)) first

  pub joined_hindered : (q : List ℕ) (a b : Tree) (k l : ℕ) (e : RewriteFault) → is_same a b ≡ false → Hinders e l (first_use_trying f 0 H q a b k)
      → Hinders e l (joined_by_content f sig G H q a b k)
  joined_hindered q a b k l e s h =
      hinders_same e l (joined_by_content f sig G H q a b k) (or_next (map_found (λ x. Using x ∷ []) (first_use_trying f 0 H q a b k)) (inside_by_content f sig G H q a b))
      (differ q a b k s)
      (hinders_next (inside_by_content f sig G H q a b) e l (map_found (λ x. Using x ∷ []) (first_use_trying f 0 H q a b k))
      (hinders_map (λ x. Using x ∷ []) e l (first_use_trying f 0 H q a b k) h))

  -- ---- inside two terms

  pub inside_no_application : (q : List ℕ) (a b : Tree) (g s n j k : ℕ) (ts : Trees) → App g s ts ≡ a → Var n j ≡ b → inside_by_content f sig G H q a b k ≡ Made None k
  inside_no_application q a b g s n j k ts e d = ap (λ x. inside_by_content f sig G H q x b k) (sym e) ∙ ap (λ x. inside_by_content f sig G H q (App g s ts) x k) (sym d)

  abbrev pub by_contents : (g : ℕ) (q : List ℕ) (a b : Tree) (ts us : Trees) → (budget : ℕ) → Work (Option (List Move))
  by_contents g q a b ts us l = or_next (contents_joined f sig G H g q a b l) (all_joined_by_content f sig G H g q 0 ts us)

  inside_both : (q : List ℕ) (a b : Tree) (g s h j k : ℕ) (ts us : Trees) → App g s ts ≡ a → App h j us ≡ b
      → inside_by_content f sig G H q a b k ≡ (if (g == h) && (s == j) then by_contents g q a b ts us else no_move) k
  inside_both q a b g s h j k ts us e d =
      subst (λ y. inside_by_content f sig G H q a y k ≡ (if (g == h) && (s == j) then by_contents g q a y ts us else no_move) k) d
      (subst (λ x. inside_by_content f sig G H q x (App h j us) k ≡ (if (g == h) && (s == j) then by_contents g q x (App h j us) ts us else no_move) k) e refl)

  inside_all : (q : List ℕ) (a b : Tree) (g s h j k : ℕ) (ts us : Trees) → App g s ts ≡ a → App h j us ≡ b → g ≡ h → s ≡ j
      → inside_by_content f sig G H q a b k ≡ by_contents g q a b ts us k
  inside_all q a b g s h j k ts us e d gh sj =
      let t : ((g == h) && (s == j)) ≡ true = grind (arith, gh, sj) in
      inside_both q a b g s h j k ts us e d ∙ ap (λ v. (if v then by_contents g q a b ts us else no_move) k) t

  pub inside_others : (q : List ℕ) (a b : Tree) (g s h j k : ℕ) (ts us : Trees) → App g s ts ≡ a → App h j us ≡ b → ((g == h) && (s == j)) ≡ false
      → inside_by_content f sig G H q a b k ≡ Made None k
  inside_others q a b g s h j k ts us e d other =
      inside_both q a b g s h j k ts us e d ∙ ap (λ v. (if v then by_contents g q a b ts us else no_move) k) other

  -- the contents join
  pub inside_contents : (q : List ℕ) (a b : Tree) (g s h j k l : ℕ) (ts us : Trees) (vs : List Move) → App g s ts ≡ a → App h j us ≡ b → g ≡ h → s ≡ j
      → contents_joined f sig G H g q a b k ≡ Made (Some vs) l → inside_by_content f sig G H q a b k ≡ Made (Some vs) l
  inside_contents q a b g s h j k l ts us vs e d gh sj c =
      inside_all q a b g s h j k ts us e d gh sj ∙ ap (λ w. or_next w (all_joined_by_content f sig G H g q 0 ts us)) c

  -- they do not
  pub inside_args : (q : List ℕ) (a b : Tree) (g s h j k l : ℕ) (ts us : Trees) → App g s ts ≡ a → App h j us ≡ b → g ≡ h → s ≡ j
      → contents_joined f sig G H g q a b k ≡ Made None l → inside_by_content f sig G H q a b k ≡ all_joined_by_content f sig G H g q 0 ts us l
  inside_args q a b g s h j k l ts us e d gh sj c =
      inside_all q a b g s h j k ts us e d gh sj ∙ ap (λ w. or_next w (all_joined_by_content f sig G H g q 0 ts us)) c

  -- it is not known whether they do
  pub inside_hindered : (q : List ℕ) (a b : Tree) (g s h j k l : ℕ) (ts us : Trees) (x : RewriteFault) → App g s ts ≡ a → App h j us ≡ b → g ≡ h → s ≡ j
      → Hinders x l (contents_joined f sig G H g q a b k) → Hinders x l (inside_by_content f sig G H q a b k)
  inside_hindered q a b g s h j k l ts us x e d gh sj c =
      hinders_same x l (inside_by_content f sig G H q a b k) (by_contents g q a b ts us k) (inside_all q a b g s h j k ts us e d gh sj)
      (hinders_next (all_joined_by_content f sig G H g q 0 ts us) x l (contents_joined f sig G H g q a b k) c)

  -- ---- arguments

  abbrev pub row_at : ℕ → List ℕ → List Tree → List Tree → ℕ → ℕ → Work (Option (List Move))
  row_at g q ts us i k = all_joined_by_content f sig G H g q i (trees_of (drop i ts)) (trees_of (drop i us)) k

  -- the arguments before place i have joined, and so much is left
  pub record Going (g : ℕ) (q : List ℕ) (ts us : List Tree) (old cur : List Move) (first : ℕ) (i left : ℕ) : Type 0 where
    pub within : i ≤ length us
    pub js : List Move
    pub made : cur ≡ old ++ js
    pub rest : all_joined_by_content f sig G H g q 0 (trees_of ts) (trees_of us) first ≡ behind js (row_at g q ts us i left)

  pub going_start : (g : ℕ) (q : List ℕ) (ts us : List Tree) (old : List Move) (k : ℕ) → Going g q ts us old old k 0 k
  going_start g q ts us old k =
      record { within = omega arith; js = []; made = sym (nil_right old); rest = sym (behind_nothing (all_joined_by_content f sig G H g q 0 (trees_of ts) (trees_of us) k)) }

  -- one argument, and then the others
  beside_first : (v p : Bool) (one rest : ℕ → Work (Option (List Move))) (k : ℕ)
      → beside_by_content v p one rest k ≡ found_then (beside_alone v p one k) (λ us l. behind us (rest l))
  beside_first true p one rest k = sym (behind_nothing (rest k))
  beside_first false false one rest k = refl
  beside_first false true one rest k = refl

  abbrev pub one_at : ℕ → List ℕ → ℕ → (t u : Tree) → ℕ → Work (Option (List Move))
  one_at g q i t u = beside_alone (is_same t u) (is_place G g i) (joined_by_content f sig G H (q ++ i ∷ []) t u)

  row_read : (g : ℕ) (q : List ℕ) (ts us : List Tree) (i k : ℕ) (t u : Tree) → i < length ts → i < length us → t ≡ get_or ts i t → u ≡ get_or us i u
      → row_at g q ts us i k ≡ found_then (one_at g q i t u k) (λ vs l. behind vs (row_at g q ts us (i + 1) l))
  row_read g q ts us i k t u h d a b =
      rw (drop_read ts i t h a, drop_read us i u d b)
      (beside_first (is_same t u) (is_place G g i) (joined_by_content f sig G H (q ++ i ∷ []) t u) (λ l. row_at g q ts us (i + 1) l) k)

  -- the argument at place i joins
  pub going_on : (g : ℕ) (q : List ℕ) (ts us : List Tree) (old cur new : List Move) (first i k l : ℕ) (t u : Tree) → Going g q ts us old cur first i k
      → i < length ts → i < length us → t ≡ get_or ts i t → u ≡ get_or us i u
      → ((vs : List Move) × (one_at g q i t u k ≡ Made (Some vs) l) × (new ≡ cur ++ vs)) → Going g q ts us old new first (i + 1) l
  going_on g q ts us old cur new first i k l t u go h d a b j =
      let r = row_read g q ts us i k t u h d a b in
      let z : row_at g q ts us i k ≡ behind j.0 (row_at g q ts us (i + 1) l) = r ∙ ap (λ w. found_then w (λ vs m. behind vs (row_at g q ts us (i + 1) m))) j.1 in
      record {
        within = omega (arith, d);
        js = go.js ++ j.0;
        made = j.2 ∙ ap (λ x. x ++ j.0) go.made ∙ append_assoc old go.js j.0;
        rest = go.rest ∙ ap (behind go.js) z ∙ behind_both go.js j.0 (row_at g q ts us (i + 1) l);
      }

  -- it does not
  pub going_none : (g : ℕ) (q : List ℕ) (ts us : List Tree) (old cur : List Move) (first i k l : ℕ) (t u : Tree) → Going g q ts us old cur first i k
      → i < length ts → i < length us → t ≡ get_or ts i t → u ≡ get_or us i u → one_at g q i t u k ≡ Made None l
      → all_joined_by_content f sig G H g q 0 (trees_of ts) (trees_of us) first ≡ Made None l
  going_none g q ts us old cur first i k l t u go h d a b j =
      let r = row_read g q ts us i k t u h d a b in
      go.rest ∙ ap (behind go.js) (r ∙ ap (λ w. found_then w (λ vs m. behind vs (row_at g q ts us (i + 1) m))) j)

  -- it is not known whether it does
  pub going_hindered : (g : ℕ) (q : List ℕ) (ts us : List Tree) (old cur : List Move) (first i k l : ℕ) (t u : Tree) (e : RewriteFault)
      → Going g q ts us old cur first i k → i < length ts → i < length us → t ≡ get_or ts i t → u ≡ get_or us i u → Hinders e l (one_at g q i t u k)
      → Hinders e l (all_joined_by_content f sig G H g q 0 (trees_of ts) (trees_of us) first)
  going_hindered g q ts us old cur first i k l t u e go h d a b j =
      let r = row_read g q ts us i k t u h d a b in
      let w = one_at g q i t u k in
      let next : List Move → ℕ → Work (Option (List Move)) = λ vs m. behind vs (row_at g q ts us (i + 1) m) in
      hinders_same e l (all_joined_by_content f sig G H g q 0 (trees_of ts) (trees_of us) first) (behind go.js (found_then w next)) (go.rest ∙ ap (behind go.js) r)
      (hinders_map (λ vs. go.js ++ vs) e l (found_then w next) (hinders_then next e l w j))

  -- the second row is shorter
  pub going_short : (g : ℕ) (q : List ℕ) (ts us : List Tree) (old cur : List Move) (first i k : ℕ) → Going g q ts us old cur first i k
      → i < length ts → length us ≤ i → all_joined_by_content f sig G H g q 0 (trees_of ts) (trees_of us) first ≡ Made None k
  going_short g q ts us old cur first i k go h d =
      go.rest ∙ ap (behind go.js) (shorter (drop i ts) (drop i us) (some ts i h) (drop_all i us d))
    where
      some : (xs : List Tree) (n : ℕ) → n < length xs → (length (drop n xs) ≡ 0 → ⊥)
      some [] n h e = absurd (omega (arith, h))
      some (x ∷ xs) zero h e = absurd (omega (arith, e))
      some (x ∷ xs) (suc n) h e = some xs n (omega (arith, h)) e

      shorter : (xs ys : List Tree) → (length xs ≡ 0 → ⊥) → ys ≡ [] → all_joined_by_content f sig G H g q i (trees_of xs) (trees_of ys) k ≡ Made None k
      shorter [] ys n e = absurd (n refl)
      shorter (x ∷ xs) ys n e = ap (λ zs. all_joined_by_content f sig G H g q i (trees_of (x ∷ xs)) (trees_of zs) k) e

  -- the first row is at its end
  pub going_end : (g : ℕ) (q : List ℕ) (ts us : List Tree) (old cur : List Move) (first i k : ℕ) (v : Bool) → Going g q ts us old cur first i k
      → length ts ≡ i → v ≡ (length ts == length us) → Joins (all_joined_by_content f sig G H g q 0 (trees_of ts) (trees_of us) first) k old cur (Ok v)
  going_end g q ts us old cur first i k true go h e =
      let n : length ts ≡ length us = eqb-true (length ts) (length us) (sym e) in
      let least : length us ≤ i = omega (arith, n, h) in (
        go.js ++ [],
        go.rest ∙ ap (behind go.js) (both (drop i ts) (drop i us) (drop_all i ts (omega (arith, h))) (drop_all i us least)),
        go.made ∙ ap (λ x. old ++ x) (sym (nil_right go.js)),
      )
    where
      both : (xs ys : List Tree) → xs ≡ [] → ys ≡ [] → all_joined_by_content f sig G H g q i (trees_of xs) (trees_of ys) k ≡ Made (Some []) k
      both xs ys d c = ap (λ zs. all_joined_by_content f sig G H g q i (trees_of zs) (trees_of ys) k) d ∙ ap (λ zs. all_joined_by_content f sig G H g q i (trees_of []) (trees_of zs) k) c
  going_end g q ts us old cur first i k false go h e =
      let n : (length us ≤ i → ⊥) = λ d. absurd (let z : length ts ≡ length us = omega (arith, h, d, go.within) in
      let t : (length ts == length us) ≡ true = grind (arith, z) in let never : true ≡ false = sym t ∙ sym e in cc) in
      go.rest ∙ ap (behind go.js) (longer (drop i ts) (drop i us) (drop_all i ts (omega (arith, h))) (some us i n))
    where
      some : (xs : List Tree) (m : ℕ) → (length xs ≤ m → ⊥) → length (drop m xs) ≡ 0 → ⊥
      some [] m c d = c (omega arith)
      some (x ∷ xs) zero c d = absurd (omega (arith, d))
      some (x ∷ xs) (suc m) c d = some xs m (λ z. c (omega (arith, z))) d

      longer : (xs ys : List Tree) → xs ≡ [] → (length ys ≡ 0 → ⊥) → all_joined_by_content f sig G H g q i (trees_of xs) (trees_of ys) k ≡ Made None k
      longer xs [] d c = absurd (c refl)
      longer xs (y ∷ ys) d c = ap (λ zs. all_joined_by_content f sig G H g q i (trees_of zs) (trees_of (y ∷ ys)) k) d
