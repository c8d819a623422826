-- What the rests of two contents join by.
use Rattle.std.proofs.Common.{◌≡◌, ℕ, Bool, true, false, ◌&&◌, if◌then◌else◌, List, [], ◌∷◌, ◌++◌, Option, Some, None, refl, ap, sym, ◌∙◌, append_assoc}
use Rattle.std.specs.List.{slice_get}
use Rattle.std.proofs.lemmas.Option.{same_Some}
use Rattle.std.specs.Option.{option_and_then, option_map, option_map_or, unwrap_or}
use Rattle.circ_term.specs.Tree.{Tree}
use Rattle.circ_term.specs.Limits.{Limit, first_limit, or_else, Names}
use Rattle.circ_term.specs.declared.fault.TermFault.{TermFault}
use Rattle.circ_term.specs.declared.fault.TermFault.TheVariants as term
use Rattle.circ_theory.specs.Signature.{Signature, Operator}
use Rattle.circ_theory.specs.Goal.{Goal}
use Rattle.circ_special.specs.declared.place.Place.{Place}
use Rattle.circ_aci.specs.Canonical.{join}
use Rattle.circ_aci.specs.Content.{content, content_under}
use Rattle.circ_rewrite.specs.declared.fault.RewriteFault.{RewriteFault}
use Rattle.circ_rewrite.specs.Plain.{rewrite_fault}
use Rattle.circ_conditional_norm.specs.Tries.{Normaliser}
use Rattle.circ_conditional_norm.specs.Work.{Work, Made, map_found, unless_limit}
use Rattle.circ_tries.specs.Trying.{Hinders}
use Rattle.circ_tries.proofs.Faulting.{hinders_map, hinders_same}
use Rattle.circ_plain_search.specs.Joining.{HypothesisUse, is_place}
use Rattle.circ_conditional_search.specs.Joining.{first_use_trying}
use Rattle.circ_content_join.specs.Apart.{Apart, set_aside, leaves_rests}
use Rattle.circ_content_join.specs.Joining.{joining_operator, regrouped, over_rests, rests_joined, contents_joined}
use Rattle.circ_content_join.specs.Moves.{Move, Using}
use Rattle.circ_moves.specs.Joining.{AreRests}
use Rattle.circ_moves.specs.declared.rests.Rests.{Rests}

-- ---- the operator

pub record IsJoining (sig : Signature) (G : List Place) (f : ℕ) (o : Operator) : Type 0 where
  pub there : slice_get sig.ops f ≡ Some o
  pub comm : o.comm ≡ true

pub is_joining : (sig : Signature) (G : List Place) (f : ℕ) (o : Operator) → joining_operator sig G f ≡ Some o → IsJoining sig G f o
is_joining sig G f o e = go (slice_get sig.ops f) refl e
  where
    marks : Bool → Bool → Bool → Operator → Option Operator
    marks a c p x = if a && c && p then Some x else None

    kept : (a c p : Bool) (x : Operator) → x.comm ≡ c → marks a c p x ≡ Some o → (x ≡ o) × (o.comm ≡ true)
    kept true true true x d h = let is : x ≡ o = same_Some x o h in (is, sym (ap (λ (y : Operator). y.comm) is) ∙ d)
    kept true true false x d h = absurd (cc)
    kept true false p x d h = absurd (cc)
    kept false c p x d h = absurd (cc)

    go : (y : Option Operator) → slice_get sig.ops f ≡ y
        → option_and_then (λ x. if x.assoc && x.comm && (is_place G f 0 && is_place G f 1) then Some x else None) y ≡ Some o → IsJoining sig G f o
    go None d h = absurd (cc)
    go (Some x) d h = let k = kept x.assoc x.comm (is_place G f 0 && is_place G f 1) x refl h in record { there = d ∙ ap Some k.0; comm = k.1 }

-- the content under an operator that exists
pub content_at : (sig : Signature) (f : ℕ) (o : Operator) → slice_get sig.ops f ≡ Some o → (t : Tree) → content_under sig f t ≡ content o f t
content_at sig f o e t = ap (λ x. unwrap_or (option_map (λ p. content p f t) x) (t ∷ [])) e

module _ (normal : Normaliser) (sig : Signature) (G : List Place) (H : List Goal) where
  pub no_contents : (f : ℕ) (q : List ℕ) (a b : Tree) (k : ℕ) → joining_operator sig G f ≡ None → contents_joined normal sig G H f q a b k ≡ Made None k
  no_contents f q a b k e =
      ap (λ x. option_map_or (λ o. rests_joined normal sig G H o f q a b (set_aside (content o f a) (content o f b)) k) x (Made None k)) e

  pub of_contents : (f : ℕ) (q : List ℕ) (a b : Tree) (k : ℕ) (o : Operator) → joining_operator sig G f ≡ Some o
      → contents_joined normal sig G H f q a b k ≡ rests_joined normal sig G H o f q a b (set_aside (content_under sig f a) (content_under sig f b)) k
  of_contents f q a b k o e =
      let there = (is_joining sig G f o e).there in
      ap (λ x. option_map_or (λ p. rests_joined normal sig G H p f q a b (set_aside (content p f a) (content p f b)) k) x (Made None k)) e
      ∙ ap (λ xs. rests_joined normal sig G H o f q a b (set_aside xs (content o f b)) k) (sym (content_at sig f o there a))
      ∙ ap (λ ys. rests_joined normal sig G H o f q a b (set_aside (content_under sig f a) ys) k) (sym (content_at sig f o there b))

  -- ---- the rests

  module _ (o : Operator) (f : ℕ) (q : List ℕ) (a b : Tree) (d : Apart) (k : ℕ) where
    abbrev pub L : Tree
    L = join f o.result d.left

    abbrev pub R : Tree
    R = join f o.result d.right

    abbrev pub tried : Work (Option HypothesisUse)
    tried = first_use_trying normal 0 H (q ++ 0 ∷ []) L R k

    abbrev pub by_limit : Option Limit → Work (Option (List Move))
    by_limit x = unless_limit x k (map_found (over_rests o f q a b d) tried)

    pub rests_none : leaves_rests d ≡ false → rests_joined normal sig G H o f q a b d k ≡ Made None k
    rests_none e = ap (λ v. if v then by_limit (or_else (first_limit L) (first_limit R)) else Made None k) e

    rests_some : leaves_rests d ≡ true → rests_joined normal sig G H o f q a b d k ≡ by_limit (or_else (first_limit L) (first_limit R))
    rests_some e = ap (λ v. if v then by_limit (or_else (first_limit L) (first_limit R)) else Made None k) e

    -- one of them passes a limit
    pub rests_past : (e : TermFault) → leaves_rests d ≡ true → Names e (or_else (first_limit L) (first_limit R))
        → Hinders (rewrite_fault e) k (rests_joined normal sig G H o f q a b d k)
    rests_past (term.TooBig n) r h = rests_some r ∙ ap by_limit h
    rests_past (term.TooDeep n) r h = rests_some r ∙ ap by_limit h
    rests_past term.Memory r h = tt

    -- a hypothesis is tried on them
    pub rests_tried : leaves_rests d ≡ true → or_else (first_limit L) (first_limit R) ≡ None
        → rests_joined normal sig G H o f q a b d k ≡ map_found (over_rests o f q a b d) tried
    rests_tried r h = rests_some r ∙ ap by_limit h

    pub rests_used : (l : ℕ) (u : HypothesisUse) → leaves_rests d ≡ true → or_else (first_limit L) (first_limit R) ≡ None → tried ≡ Made (Some u) l
        → rests_joined normal sig G H o f q a b d k ≡ Made (Some (over_rests o f q a b d u)) l
    rests_used l u r h e = rests_tried r h ∙ ap (map_found (over_rests o f q a b d)) e

    pub rests_unused : (l : ℕ) → leaves_rests d ≡ true → or_else (first_limit L) (first_limit R) ≡ None → tried ≡ Made None l
        → rests_joined normal sig G H o f q a b d k ≡ Made None l
    rests_unused l r h e = rests_tried r h ∙ ap (map_found (over_rests o f q a b d)) e

    pub rests_hindered : (l : ℕ) (e : RewriteFault) → leaves_rests d ≡ true → or_else (first_limit L) (first_limit R) ≡ None → Hinders e l tried
        → Hinders e l (rests_joined normal sig G H o f q a b d k)
    rests_hindered l e r h z =
        hinders_same e l (rests_joined normal sig G H o f q a b d k) (map_found (over_rests o f q a b d) tried) (rests_tried r h)
        (hinders_map (over_rests o f q a b d) e l tried z)

-- ---- the moves

-- what is appended in three parts
pub three_parts : (old one two new front back : List Move) (u : Move) → one ≡ old ++ front → two ≡ one ++ u ∷ [] → new ≡ two ++ back
    → new ≡ old ++ (front ++ u ∷ back)
three_parts old one two new front back u e d c =
    c ∙ ap (λ x. x ++ back) (d ∙ ap (λ x. x ++ u ∷ []) e) ∙ append_assoc (old ++ front) (u ∷ []) back ∙ append_assoc old front (u ∷ back)

-- the moves over rests that are built
pub over_built : (o : Operator) (f : ℕ) (q : List ℕ) (a b : Tree) (d : Apart) (r : Rests) (u : HypothesisUse) → AreRests f o.result d r
    → (regrouped f q a (join f o.result (r.left ∷ r.both.items)) ++ Using u ∷ regrouped f q (join f o.result (r.right ∷ r.both.items)) b) ≡ over_rests o f q a b d u
over_built o f q a b d r u h = λ i.
    regrouped f q a (join f o.result ((h.left) i ∷ (h.both) i)) ++ Using u ∷ regrouped f q (join f o.result ((h.right) i ∷ (h.both) i)) b
