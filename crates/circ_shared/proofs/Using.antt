-- What a link by itself leads to, by number, is what it leads to.
use Rattle.std.proofs.Common.{◌≡◌, ◌<◌, ℕ, zero, suc, List, [], ◌∷◌, map, length, Option, Some, None, Result, Ok, Err, IfOk, refl, ap, sym, subst, ◌∙◌}
use Rattle.std.specs.List.{slice_get, AllByRecursion}
use Rattle.std.proofs.lemmas.Option.{same_Some}
use Rattle.circ_term.specs.Tree.{Tree, at, sort_of}
use Rattle.circ_theory.specs.Theory.{Pair, sides, goal_of, IsHidden}
use Rattle.circ_theory.specs.Variables.{variables_of, sorted, FitVariables}
use Rattle.circ_theory.specs.Rewriting.{from_side, to_side, by_terms, Replaces}
use Rattle.circ_theory.specs.Goal.{Equation}
use Rattle.circ_theory.specs.Goal.{Goal}
use Rattle.circ_theory.specs.declared.way.Way.{Way}
use Rattle.circ_theory.specs.declared.way.Way.TheVariants.{Forth, Back}
use Rattle.circ_special.specs.Special.{IsSpecial}
use Rattle.circ_aci.specs.Content.{HasContentOf}
use Rattle.circ_proof.specs.Plain.{LinkOf, ChainsOf, Equation_link, Hypothesis_link, Assumption_link, Content_link, no_chain, chains_in}
use Rattle.circ_proof.specs.Link.{Setting, Leads}
use Rattle.circ_nodes.specs.Named.{tree_at}
use Rattle.circ_replay.specs.Following.{Follows}
use Rattle.circ_replay.specs.Rewriting.{GivesExchange, GivesReplaced}
use Rattle.circ_replay.specs.Usage.{IsUse, AllMeet, unconditional}
use Rattle.circ_replay.proofs.Contents.{content_replaced}
use Rattle.circ_replay.proofs.Pairs.{unconditional_uses, equation_uses, hypothesis_uses}
use Rattle.circ_shared.specs.declared.patterns.Sides.{Sides}
use Rattle.circ_shared.specs.declared.patterns.Turned.{Turned}
use Rattle.circ_shared.specs.declared.usage.Use.{Use}
use Rattle.circ_shared.specs.Interned.{OfTerm}
use Rattle.circ_shared.specs.Patterns.{pair_at, pairs_at, AreThere}
use Rattle.circ_shared.specs.Rewriting.{IsTurned}
use Rattle.circ_shared.specs.Usage.{PlainUse, use_at, OfUse, Uses, GivesUse, GivesRewriting, IsUnconditional}

-- ---- answers

pub if_of_use : {E : Type 0} (nodes : List Tree) (P Q : Option PlainUse → Type 0) → ((o : Option PlainUse) → P o → Q o) → (r : Result (Option Use) E)
    → IfOk r (OfUse nodes P) → IfOk r (OfUse nodes Q)
if_of_use nodes P Q f (Ok None) h = f None h
if_of_use nodes P Q f (Ok (Some x)) h = (h.0, h.1, f (Some (use_at nodes x)) h.2)
if_of_use nodes P Q f (Err e) h = h

pub use_none : (nodes : List Tree) (P : Option PlainUse → Type 0) (o : Option Use) → o ≡ None → OfUse nodes P o → P None
use_none nodes P o e h = subst (OfUse nodes P) e h

pub use_some : (nodes : List Tree) (P : Option PlainUse → Type 0) (o : Option Use) (x : Use) → o ≡ Some x → OfUse nodes P o
    → (x.term < length nodes) × AreThere nodes x.conds.items × P (Some (use_at nodes x))
use_some nodes P o x e h = subst (OfUse nodes P) e h

-- ---- a link without conditions

pub unconditional_used : (nodes : List Tree) (c : Setting) (l : LinkOf Tree) (t : Tree) (o : Option ℕ) (p : Option Use) → chains_in l ≡ no_chain
    → IsUnconditional o p → OfTerm nodes (Follows c l t) o → OfUse nodes (Uses c l t) p
unconditional_used nodes c l t None None e u h = h
unconditional_used nodes c l t None (Some x) e u h = absurd u
unconditional_used nodes c l t (Some n) None e u h = absurd u
unconditional_used nodes c l t (Some n) (Some x) e u h =
    let P : ℕ → Type 0 = λ m. (m < length nodes) × IsUse c l t (tree_at nodes m) [] in
    let Q : List Sides → Type 0 = λ ss. AreThere nodes ss × IsUse c l t (tree_at nodes x.term) (pairs_at nodes ss) in
    let one = subst P (sym u.0) (h.0, unconditional_uses c l t (Some (tree_at nodes n)) e h.1) in
    let two = subst Q (sym u.1) (tt, one.1) in
    (one.0, two.0, two.1)

-- ---- rewriting by a pattern

pub turned_from : (nodes : List Tree) (way : Way) (s : Sides) (r : Turned) → IsTurned way s r → tree_at nodes r.from ≡ from_side way (pair_at nodes s)
turned_from nodes Forth s r h = ap (tree_at nodes) h.0
turned_from nodes Back s r h = ap (tree_at nodes) h.0

pub turned_to : (nodes : List Tree) (way : Way) (s : Sides) (r : Turned) → IsTurned way s r → tree_at nodes r.to ≡ to_side way (pair_at nodes s)
turned_to nodes Forth s r h = ap (tree_at nodes) h.1
turned_to nodes Back s r h = ap (tree_at nodes) h.1

pub gives_rewriting : (g : Goal) (way : Way) (path : List ℕ) (terms : List Tree) (t from to : Tree) → FitVariables (sorted (variables_of g)) terms
    → from ≡ from_side way (sides g) → to ≡ to_side way (sides g) → (o : Option PlainUse) → GivesUse (by_terms g terms) from to g.conds path t o
    → GivesRewriting g way path terms t o
gives_rewriting g way path terms t from to fit e f o h =
    let P : Tree → Type 0 = λ x. GivesUse (by_terms g terms) x to g.conds path t o in
    let Q : Tree → Type 0 = λ x. GivesUse (by_terms g terms) (from_side way (sides g)) x g.conds path t o in
    go o (subst Q f (subst P e h))
  where
    go : (o : Option PlainUse) → GivesUse (by_terms g terms) (from_side way (sides g)) (to_side way (sides g)) g.conds path t o → GivesRewriting g way path terms t o
    go None h = λ u r w. h u r.replaces w
    go (Some x) h = (record { fit = fit; replaces = h.0 }, h.1, h.2)

pub unfit_rewriting : (g : Goal) (way : Way) (path : List ℕ) (terms : List Tree) (t : Tree) → (FitVariables (sorted (variables_of g)) terms → ⊥)
    → GivesRewriting g way path terms t None
unfit_rewriting g way path terms t h = λ u r w. h r.fit

-- ---- what is listed

pub listed_map : {X Y : Type 0} (f : X → Y) (xs : List X) (i : ℕ) (x : X) → slice_get xs i ≡ Some x → slice_get (map f xs) i ≡ Some (f x)
listed_map f [] i x e = absurd (cc)
listed_map f (y ∷ xs) zero x e = ap (λ z. Some (f z)) (same_Some y x e)
listed_map f (y ∷ xs) (suc i) x e = listed_map f xs i x e

pub unlisted_map : {X Y : Type 0} (f : X → Y) (xs : List X) (i : ℕ) → slice_get xs i ≡ None → slice_get (map f xs) i ≡ None
unlisted_map f [] i e = refl
unlisted_map f (y ∷ xs) zero e = absurd (cc)
unlisted_map f (y ∷ xs) (suc i) e = unlisted_map f xs i e

pub map_listed : {X Y : Type 0} (f : X → Y) (xs : List X) (i : ℕ) (y : Y) → slice_get (map f xs) i ≡ Some y → (x : X) × (slice_get xs i ≡ Some x) × (f x ≡ y)
map_listed f [] i y e = absurd (cc)
map_listed f (x ∷ xs) zero y e = (x, refl, same_Some (f x) y e)
map_listed f (x ∷ xs) (suc i) y e = map_listed f xs i y e

pub all_listed : {X : Type 0} (P : X → Type 0) (xs : List X) (i : ℕ) (x : X) → AllByRecursion P xs → slice_get xs i ≡ Some x → P x
all_listed P [] i x a e = absurd (cc)
all_listed P (y ∷ xs) zero x a e = subst P (same_Some y x e) a.0
all_listed P (y ∷ xs) (suc i) x a e = all_listed P xs i x a.1 e

-- ---- equations and hypotheses

pub equation_used : (c : Setting) (number : ℕ) (e : Equation) (g : Goal) (way : Way) (path : List ℕ) (terms : List Tree) (t : Tree) (cs : ChainsOf Tree)
    → slice_get c.theory.equations number ≡ Some e → goal_of e ≡ g → (o : Option PlainUse) → GivesRewriting g way path terms t o
    → Uses c (Equation_link number way path terms cs) t o
equation_used c number e g way path terms t cs there is o h =
    let P : Goal → Type 0 = λ x. GivesRewriting x way path terms t o in
    go o (subst P (sym is) h)
  where
    go : (o : Option PlainUse) → GivesRewriting (goal_of e) way path terms t o → Uses c (Equation_link number way path terms cs) t o
    go None h = equation_uses {E = ℕ} c number e way path terms t cs (sym there) (Ok None) h
    go (Some x) h = equation_uses {E = ℕ} c number e way path terms t cs (sym there) (Ok (Some (record (unconditional x.term) { conds = x.conds }))) h

pub hypothesis_used : (c : Setting) (number : ℕ) (g : Goal) (way : Way) (path : List ℕ) (terms : List Tree) (t : Tree) (cs : ChainsOf Tree)
    → slice_get c.hypotheses number ≡ Some g → (IsHidden c.theory (sort_of g.left) → IsSpecial c.places t path)
    → (o : Option PlainUse) → GivesRewriting g way path terms t o → Uses c (Hypothesis_link number way path terms cs) t o
hypothesis_used c number g way path terms t cs there special None h = hypothesis_uses {E = ℕ} c number g way path terms t cs (sym there) special (Ok None) h
hypothesis_used c number g way path terms t cs there special (Some x) h = hypothesis_uses {E = ℕ} c number g way path terms t cs (sym there) special (Ok (Some (record (unconditional x.term) { conds = x.conds }))) h

-- ---- content

pub replaced_content : (c : Setting) (op : ℕ) (path : List ℕ) (term t old : Tree) → at t path ≡ Some old → HasContentOf c.theory.signature op old term
    → (o : Option Tree) → GivesReplaced t path term o → Follows c (Content_link op path term) t o
replaced_content c op path term t old there content None h = content_replaced c op path term t {E = ℕ} old (Ok None) there content h
replaced_content c op path term t old there content (Some u) h = content_replaced c op path term t {E = ℕ} old (Ok (Some u)) there content h

-- ---- assumptions

pub assumption_follows : (c : Setting) (number : ℕ) (p : Pair) (way : Way) (path : List ℕ) (t from to : Tree) → slice_get c.assumptions number ≡ Some p
    → from ≡ from_side way p → to ≡ to_side way p → (o : Option Tree) → GivesExchange t path from to o → Follows c (Assumption_link number way path) t o
assumption_follows c number p way path t from to there e f None h = λ u r.
    let is : r.assumed ≡ p = same_Some r.assumed p (sym r.listed ∙ there) in
    let P : Tree → Type 0 = λ x. Replaces t path x to u in
    let Q : Tree → Type 0 = λ x. Replaces t path (from_side way r.assumed) x u in
    h u (subst P (ap (from_side way) is ∙ sym e) (subst Q (ap (to_side way) is ∙ sym f) r.replaces))
assumption_follows c number p way path t from to there e f (Some u) h = record {
  assumed = p;
  listed = there;
  replaces =
      let P : Tree → Type 0 = λ x. Replaces t path x (to_side way p) u in
      let Q : Tree → Type 0 = λ x. Replaces t path from x u in
      subst P e (subst Q f h);
}

-- what is used at special paths alone
pub unspecial : (c : Setting) (t : Tree) (path : List ℕ) (g h : Goal) → g ≡ h → (IsHidden c.theory (sort_of g.left) → IsSpecial c.places t path)
    → IsHidden c.theory (sort_of h.left) → IsSpecial c.places t path
unspecial c t path g h e s = let P : Goal → Type 0 = λ x. IsHidden c.theory (sort_of x.left) → IsSpecial c.places t path in subst P e s

-- a link leads where its chains let its pairs meet, and else nowhere
pub used_leads : (c : Setting) (l : LinkOf Tree) (t : Tree) (x : PlainUse) (cs : ChainsOf Tree) → cs ≡ chains_in l → Uses c l t (Some x) → AllMeet c x.conds cs
    → Leads c l t x.term
used_leads c l t x cs e h m = let P : ChainsOf Tree → Type 0 = AllMeet c x.conds in h.leads (subst P e m)

pub used_stuck : (c : Setting) (l : LinkOf Tree) (t : Tree) (x : PlainUse) (cs : ChainsOf Tree) → cs ≡ chains_in l → Uses c l t (Some x)
    → (AllMeet c x.conds cs → ⊥) → (u : Tree) → Leads c l t u → ⊥
used_stuck c l t x cs e h n u r = let P : ChainsOf Tree → Type 0 = AllMeet c x.conds in n (subst P (sym e) (h.only u r))
