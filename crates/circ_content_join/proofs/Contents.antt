-- Where one hypothesis joins what two contents leave, its moves make the one term the other.
use Rattle.std.proofs.Common.{◌≡◌, ℕ, ◌+◌, ◌≤◌, length, Bool, true, false, ◌&&◌, ◌||◌, if◌then◌else◌, List, [], ◌∷◌, ◌++◌, Option, Some, None, Ok, refl, ap, sym, subst, ◌∙◌}
use Rattle.std.specs.Prelude.{not, nat_lt}
use Rattle.std.specs.List.{slice_get, AllByRecursion}
use Rattle.std.specs.Option.{option_and_then, option_map_or}
use Rattle.std.proofs.lemmas.Bool.{and_parts}
use Rattle.std.proofs.lemmas.Option.{same_Some}
use Rattle.circ_term.specs.Limits.{first_limit, or_else}
use Rattle.circ_term.specs.Order.{is_same}
use Rattle.circ_term.specs.Tree.{Tree, App, none, more, sort_of, at}
use Rattle.circ_term.proofs.Order.{same_here}
use Rattle.circ_theory.specs.Fresh.{above}
use Rattle.circ_theory.specs.Operators.{has_mark}
use Rattle.circ_theory.specs.Signature.{Signature, Operator, IsWellSorted}
use Rattle.circ_theory.specs.Theory.{Theory}
use Rattle.circ_theory.specs.WellFormed.{IsWellFormed}
use Rattle.circ_theory.proofs.Lists.{all_by}
use Rattle.circ_theory.proofs.Rewriting.{contains_at}
use Rattle.circ_aci.specs.Canonical.{join}
use Rattle.circ_aci.specs.Content.{content, HasContentOf}
use Rattle.circ_aci.proofs.Again.{IsAlone}
use Rattle.circ_aci.proofs.Regroup.{IsJoiner, IsOf, some_fit}
use Rattle.circ_aci.proofs.Settled.{IsSome, ones}
use Rattle.circ_proof.specs.Link.{Setting}
use Rattle.circ_special.specs.Special.{IsSpecial}
use Rattle.circ_conditional_norm.specs.Tries.{Normaliser}
use Rattle.circ_conditional_norm.specs.Work.{Made, map_found, unless_limit}
use Rattle.circ_conditional_norm.proofs.Linked.{IsLinking}
use Rattle.circ_conditional_norm.proofs.Working.{found_limit, found_map, both_none}
use Rattle.circ_plain_search.specs.Joining.{HypothesisUse, is_place}
use Rattle.circ_plain_search.specs.Search.{is_nil}
use Rattle.circ_plain_search.proofs.Special.{place_there, special_deeper, at_deeper}
use Rattle.circ_plain_search.proofs.Terms.{Fine, args_fine}
use Rattle.circ_plain_search.proofs.Uses.{row_arg}
use Rattle.circ_conditional_search.specs.Joining.{first_use_trying}
use Rattle.circ_conditional_search.proofs.Derived.{FineGoals, goals_sorted}
use Rattle.circ_conditional_search.proofs.Joins.{first_use_is, from_all}
use Rattle.circ_conditional_search.proofs.Nesting.{IsNesting}
use Rattle.circ_conditional_search.proofs.Normals.{IsFining}
use Rattle.circ_conditional_search.proofs.Uses.{IsUse}
use Rattle.circ_content_join.specs.Apart.{Apart, set_aside, leaves_rests}
use Rattle.circ_content_join.specs.Joining.{regrouped, with_rest, over_rests, joining_operator, rests_joined, contents_joined}
use Rattle.circ_content_join.specs.Moves.{Move, Using, Regrouping, make_all}
use Rattle.circ_content_join.proofs.Alike.{counts_apart, content_alone, rest_content}
use Rattle.circ_content_join.proofs.Entries.{content_all, content_of, both_all, AllApart, aside_all, join_low}
use Rattle.circ_content_join.proofs.Moving.{MovesLead, InParts, in_parts, no_move_leads, one_use_leads, regrouping_leads, then_lead, argument_leads, stands_there, still_special}

module _ (c : Setting) (m : ℕ) (least : 1 ≤ m) (wf : IsWellFormed c.theory) (fine : FineGoals c.theory m c.hypotheses) (f : Normaliser)
    (links : IsLinking c f) (fining : IsFining c.theory m f) (nest : IsNesting 7 f) where
  abbrev th : Theory
  th = c.theory

  abbrev Sig : Signature
  Sig = c.theory.signature

  -- an entry of this sort
  abbrev Entry : ℕ → Tree → Type 0
  Entry s x = Fine th m x × IsOf Sig s x

  -- a term of the operator's sort has the content of another
  record IsWhole (o : Operator) (g : ℕ) (x y : Tree) : Type 0 where
    same : content o g y ≡ content o g x
    sort : IsOf Sig o.result y

  -- ---- one operator

  module _ (g : ℕ) (o : Operator) (there : slice_get Sig.ops g ≡ Some o) (assoc : o.assoc ≡ true) (comm : o.comm ≡ true) where
    marked : has_mark o ≡ true
    marked = go o.assoc assoc
      where
        go : (a : Bool) → a ≡ true → (a || o.comm || o.idem) ≡ true
        go true e = refl
        go false e = absurd (cc)

    joiner : IsJoiner th g o
    joiner = record { there = there; args = (wf.operators o (contains_at Sig.ops g o there)).marked marked }

    joined_sorted : (x : Tree) (xs : List Tree) → AllByRecursion (Entry o.result) (x ∷ xs) → IsOf Sig o.result (join g o.result (x ∷ xs))
    joined_sorted x xs a = some_fit th [] g o joiner (x ∷ xs) tt (all_by (Entry o.result) (IsOf Sig o.result) (x ∷ xs) (λ t e. e.1) a)

    joined_low : (xs : List Tree) → AllByRecursion (Entry o.result) xs → above (join g o.result xs) ≤ m
    joined_low xs a = join_low m g o.result xs least (all_by (Entry o.result) (λ t. above t ≤ m) xs (λ t e. e.0.low) a)

    some : (xs : List Tree) → not (is_nil xs) ≡ true → IsSome xs
    some [] e = absurd (cc)
    some (x ∷ xs) e = tt

    joined_fine : (x : Tree) (xs : List Tree) → AllByRecursion (Entry o.result) (x ∷ xs) → first_limit (join g o.result (x ∷ xs)) ≡ None
        → Entry o.result (join g o.result (x ∷ xs))
    joined_fine x xs a e = let s = joined_sorted x xs a in (record { sorted = s.1; within = e; low = joined_low (x ∷ xs) a }, s)

    with_sorted : (xs zs : List Tree) → not (is_nil xs) ≡ true → not (is_nil zs) ≡ true → AllByRecursion (Entry o.result) xs → AllByRecursion (Entry o.result) zs
        → IsOf Sig o.result (with_rest o g xs zs)
    with_sorted [] zs n k ax az = absurd (cc)
    with_sorted (x ∷ xs) zs n k ax az =
        some_fit th [] g o joiner (join g o.result (x ∷ xs) ∷ zs) tt
        (joined_sorted x xs ax, all_by (Entry o.result) (IsOf Sig o.result) zs (λ t e. e.1) az)

    entries : (t : Tree) → Fine th m t → sort_of t ≡ o.result → AllByRecursion (Entry o.result) (content o g t)
    entries t ft s =
        both_all (Fine th m) (IsOf Sig o.result) (content o g t) (content_all (Fine th m) (λ h k ts p. args_fine th m h k ts p) o g t ft)
        (content_of th wf g o there t ft.sorted s)

    regrouped_lead : (q : List ℕ) (a b t u : Tree) → HasContentOf Sig g a b → IsWellSorted Sig b → above b ≤ m → Fine th m t → at t q ≡ Some a
        → make_all t (regrouped g q a b) ≡ Ok u → MovesLead c m (regrouped g q a b) q b t u
    regrouped_lead q a b t u e w low ft here p = go (is_same a b) refl p
      where
        go : (v : Bool) → is_same a b ≡ v → make_all t (if v then [] else Regrouping g q b ∷ []) ≡ Ok u
            → MovesLead c m (if v then [] else Regrouping g q b ∷ []) q b t u
        go true z r = no_move_leads c m q b t u ft (here ∙ ap Some (same_here a b z)) r
        go false z r = regrouping_leads c m g q a b t u e w low ft here r

    module _ (first : is_place c.places g 0 ≡ true) where
      -- a use on the first argument of a term of two
      use_inside : (q : List ℕ) (x y z t u : Tree) (h : HypothesisUse) → Fine th m t → IsUse c m (q ++ 0 ∷ []) x y h → at t q ≡ Some (App g o.result (more x (more z none)))
          → IsSpecial c.places t q → make_all t (Using h ∷ []) ≡ Ok u → MovesLead c m (Using h ∷ []) q (App g o.result (more y (more z none))) t u
      use_inside q x y z t u h ft it here special p =
          argument_leads c m (Using h ∷ []) q g o.result [] x y (more z none) t u here
          (one_use_leads c m (goals_sorted th m c.hypotheses fine) (q ++ 0 ∷ []) x y t u h ft it
          (at_deeper q t g o.result _ 0 x here (row_arg [] x (more z none)))
          (special_deeper c.places q t g o.result _ 0 x special here (place_there c.places g 0 first) (row_arg [] x (more z none))) p)

      -- a becomes its rest and the others, the rest becomes b's, and all becomes b
      over_lead : (q : List ℕ) (a b x y : Tree) (zs : List Tree) (h : HypothesisUse) (t u : Tree) → Fine th m t → Fine th m b → Entry o.result x → Entry o.result y
          → AllByRecursion (Entry o.result) zs → not (is_nil zs) ≡ true → IsUse c m (q ++ 0 ∷ []) x y h → at t q ≡ Some a → IsSpecial c.places t q
          → HasContentOf Sig g a (join g o.result (x ∷ zs)) → HasContentOf Sig g (join g o.result (y ∷ zs)) b
          → make_all t (regrouped g q a (join g o.result (x ∷ zs)) ++ Using h ∷ regrouped g q (join g o.result (y ∷ zs)) b) ≡ Ok u
          → MovesLead c m (regrouped g q a (join g o.result (x ∷ zs)) ++ Using h ∷ regrouped g q (join g o.result (y ∷ zs)) b) q b t u
      over_lead q a b x y [] h t u ft fb ex ey az some it here special va vb p = absurd (cc)
      over_lead q a b x y (z ∷ zs) h t u ft fb ex ey az some it here special va vb p =
          let X : Tree = join g o.result (x ∷ z ∷ zs) in
          let Y : Tree = join g o.result (y ∷ z ∷ zs) in
          let one : InParts (regrouped g q a X) (Using h ∷ regrouped g q Y b) t u = in_parts (regrouped g q a X) (Using h ∷ regrouped g q Y b) t u p in
          let two : InParts (Using h ∷ []) (regrouped g q Y b) one.between u = in_parts (Using h ∷ []) (regrouped g q Y b) one.between u one.last in
          let A = regrouped_lead q a X t one.between va (joined_sorted x (z ∷ zs) (ex, az)).1 (joined_low (x ∷ z ∷ zs) (ex, az)) ft here one.first in
          let B = use_inside q x y (join g o.result (z ∷ zs)) one.between two.between h A.led.fine it (stands_there c m (regrouped g q a X) q X t one.between A)
          (still_special c m (regrouped g q a X) q X t one.between A special) two.first in
          let C = regrouped_lead q Y b two.between u vb fb.sorted fb.low B.led.fine (stands_there c m (Using h ∷ []) q Y one.between two.between B) two.last in
          then_lead c m (regrouped g q a X) (Using h ∷ regrouped g q Y b) q X b t one.between u A
          (then_lead c m (Using h ∷ []) (regrouped g q Y b) q Y b one.between two.between u B C)

      module _ (q : List ℕ) (a b t u : Tree) (ft : Fine th m t) (fa : Fine th m a) (fb : Fine th m b) (sa : sort_of a ≡ o.result) (sb : sort_of b ≡ o.result)
          (here : at t q ≡ Some a) (special : IsSpecial c.places t q) where
        -- what is found on the rests
        rest_leads : (xs ys zs : List Tree) → not (is_nil xs) ≡ true → not (is_nil ys) ≡ true → not (is_nil zs) ≡ true
            → AllByRecursion (Entry o.result) xs → AllByRecursion (Entry o.result) ys → AllByRecursion (Entry o.result) zs
            → first_limit (join g o.result xs) ≡ None → first_limit (join g o.result ys) ≡ None → (h : HypothesisUse) (k l : ℕ)
            → first_use_trying f 0 c.hypotheses (q ++ 0 ∷ []) (join g o.result xs) (join g o.result ys) k ≡ Made (Some h) l
            → HasContentOf Sig g a (with_rest o g xs zs) → HasContentOf Sig g (with_rest o g ys zs) b
            → make_all t (regrouped g q a (with_rest o g xs zs) ++ Using h ∷ regrouped g q (with_rest o g ys zs) b) ≡ Ok u
            → MovesLead c m (regrouped g q a (with_rest o g xs zs) ++ Using h ∷ regrouped g q (with_rest o g ys zs) b) q b t u
        rest_leads [] ys zs nx ny nz ax ay az wx wy h k l e va vb p = absurd (cc)
        rest_leads (x ∷ xs) [] zs nx ny nz ax ay az wx wy h k l e va vb p = absurd (cc)
        rest_leads (x ∷ xs) (y ∷ ys) zs nx ny nz ax ay az wx wy h k l e va vb p =
            let ex = joined_fine x xs ax wx in
            let ey = joined_fine y ys ay wy in
            let it = first_use_is c m fine f links fining nest (q ++ 0 ∷ []) (join g o.result (x ∷ xs)) (join g o.result (y ∷ ys)) ex.0 ey.0 0 c.hypotheses k h l
            (from_all c m fine f links fining nest) e in
            over_lead q a b (join g o.result (x ∷ xs)) (join g o.result (y ∷ ys)) zs h t u ft fb ex ey az nz it here special va vb p

        rests_lead : (k l : ℕ) (vs : List Move) → rests_joined f Sig c.places c.hypotheses o g q a b (set_aside (content o g a) (content o g b)) k ≡ Made (Some vs) l
            → make_all t vs ≡ Ok u → MovesLead c m vs q b t u
        rests_lead k l vs e p = go (leaves_rests d) refl e
          where
            d : Apart
            d = set_aside (content o g a) (content o g b)

            parts : AllApart (Entry o.result) d
            parts = aside_all (Entry o.result) (content o g a) (content o g b) (entries a fa sa) (entries b fb sb)

            lone : AllApart (IsAlone g) d
            lone =
                aside_all (IsAlone g) (content o g a) (content o g b) (content_alone th g o joiner marked assoc comm a (sa, fa.sorted))
                (content_alone th g o joiner marked assoc comm b (sb, fb.sorted))

            L : Tree
            L = join g o.result d.left

            R : Tree
            R = join g o.result d.right

            several : Bool
            several = nat_lt 1 (length d.left) || nat_lt 1 (length d.right)

            -- a rest with what was set aside has the content of the whole
            whole : (x : Tree) (xs : List Tree) → not (is_nil xs) ≡ true → not (is_nil d.both) ≡ true → IsOf Sig o.result x → AllByRecursion (Entry o.result) xs
                → AllByRecursion (IsAlone g) xs → ((y : Tree) → ones y d.both + ones y xs ≡ ones y (content o g x)) → IsWhole o g x (with_rest o g xs d.both)
            whole x xs ns nb is es alone count = record {
              same = rest_content th g o joiner marked assoc comm x is xs d.both (some xs ns) (some d.both nb) alone lone.both count;
              sort = with_sorted xs d.both ns nb es parts.both;
            }

            go : (v : Bool) → leaves_rests d ≡ v
                → (if v then unless_limit (or_else (first_limit L) (first_limit R)) k
                (map_found (over_rests o g q a b d) (first_use_trying f 0 c.hypotheses (q ++ 0 ∷ []) L R k)) else Made None k) ≡ Made (Some vs) l → MovesLead c m vs q b t u
            go false x z = absurd (cc)
            go true x z =
                let n = and_parts (not (is_nil d.both)) (not (is_nil d.left) && (not (is_nil d.right) && several)) x in
                let i = and_parts (not (is_nil d.left)) (not (is_nil d.right) && several) n.1 in
                let j = and_parts (not (is_nil d.right)) several i.1 in
                let lim = found_limit (or_else (first_limit L) (first_limit R)) k
                (map_found (over_rests o g q a b d) (first_use_trying f 0 c.hypotheses (q ++ 0 ∷ []) L R k)) (Some vs) l z in
                let w = both_none (first_limit L) (first_limit R) lim.0 in
                let r = found_map (over_rests o g q a b d) (first_use_trying f 0 c.hypotheses (q ++ 0 ∷ []) L R k) vs l lim.1 in
                let A = whole a d.left i.0 n.0 (sa, fa.sorted) parts.left lone.left (λ y. (counts_apart y (content o g a) (content o g b)).left) in
                let B = whole b d.right j.0 n.0 (sb, fb.sorted) parts.right lone.right (λ y. (counts_apart y (content o g a) (content o g b)).right) in
                let P : List Move → Type 0 = λ ws. MovesLead c m ws q b t u in
                subst P r.2 (rest_leads d.left d.right d.both i.0 j.0 n.0 parts.left parts.right parts.both w.0 w.1 r.0 k l r.1
                (record { operator = o; there = there; same_sort = A.sort.0 ∙ sym sa; same_content = sym A.same })
                (record { operator = o; there = there; same_sort = sb ∙ sym B.sort.0; same_content = B.same })
                (ap (make_all t) r.2 ∙ p))

  -- the operator that joins contents
  record IsJoining (g : ℕ) (o : Operator) : Type 0 where
    there : slice_get Sig.ops g ≡ Some o
    assoc : o.assoc ≡ true
    comm : o.comm ≡ true
    first : is_place c.places g 0 ≡ true

  joining_is : (g : ℕ) (x : Option Operator) → slice_get Sig.ops g ≡ x → (o : Operator)
      → option_and_then (λ o. if o.assoc && o.comm && (is_place c.places g 0 && is_place c.places g 1) then Some o else None) x ≡ Some o → IsJoining g o
  joining_is g None e o z = absurd (cc)
  joining_is g (Some r) e o z = go (r.assoc && r.comm && (is_place c.places g 0 && is_place c.places g 1)) refl z
    where
      go : (v : Bool) → (r.assoc && r.comm && (is_place c.places g 0 && is_place c.places g 1)) ≡ v → (if v then Some r else None) ≡ Some o → IsJoining g o
      go false y z = absurd (cc)
      go true y z =
          let is : r ≡ o = same_Some r o z in
          let a = and_parts (r.assoc && r.comm) (is_place c.places g 0 && is_place c.places g 1) y in
          let b = and_parts r.assoc r.comm a.0 in
          let p = and_parts (is_place c.places g 0) (is_place c.places g 1) a.1 in
          record { there = e ∙ ap Some is; assoc = ap (λ x. x.assoc) (sym is) ∙ b.0; comm = ap (λ x. x.comm) (sym is) ∙ b.1; first = p.0 }

  -- the contents of two terms on which one operator stands
  pub contents_lead : (g : ℕ) (q : List ℕ) (a b t u : Tree) → Fine th m t → Fine th m a → Fine th m b
      → ((o : Operator) → slice_get Sig.ops g ≡ Some o → (sort_of a ≡ o.result) × (sort_of b ≡ o.result))
      → at t q ≡ Some a → IsSpecial c.places t q → (k l : ℕ) (vs : List Move)
      → contents_joined f Sig c.places c.hypotheses g q a b k ≡ Made (Some vs) l → make_all t vs ≡ Ok u → MovesLead c m vs q b t u
  contents_lead g q a b t u ft fa fb sorts here special k l vs e p = go (joining_operator Sig c.places g) refl e
    where
      go : (x : Option Operator) → joining_operator Sig c.places g ≡ x
          → option_map_or (λ o. rests_joined f Sig c.places c.hypotheses o g q a b (set_aside (content o g a) (content o g b)) k) x (Made None k) ≡ Made (Some vs) l
          → MovesLead c m vs q b t u
      go None is z = absurd (cc)
      go (Some o) is z =
          let j = joining_is g (slice_get Sig.ops g) refl o is in
          let s = sorts o j.there in
          rests_lead g o j.there j.assoc j.comm j.first q a b t u ft fa fb s.0 s.1 here special k l vs z p
