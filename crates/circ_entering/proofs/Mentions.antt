-- The terms that links, steps and goals name, one after another.
use Rattle.std.proofs.Common.{◌≡◌, ◌≤◌, ◌<◌, ◌+◌, ℕ, List, [], ◌∷◌, ◌++◌, length, map, drop, get_or, Result, Ok, Err, OnOk, refl, ap, sym, ◌∙◌, append_assoc, append-nil}
use Rattle.std.specs.Prelude.{flat_map}
use Rattle.std.specs.List.{AllByRecursion}
use Rattle.std.proofs.lemmas.List.{drop_all}
use Rattle.circ_term.specs.Tree.{Tree}
use Rattle.circ_term.proofs.Within.{drop_read}
use Rattle.circ_theory.specs.Theory.{pair_with, goal}
use Rattle.circ_theory.specs.Rewriting.{named}
use Rattle.circ_proof.specs.declared.links.Chain.{Chain}
use Rattle.circ_proof.specs.declared.links.Why.{Why}
use Rattle.circ_proof.specs.Plain.{LinkOf, LinksOf, ChainsOf, Equation_link, Hypothesis_link, Assumption_link, Content_link}
use Rattle.circ_proof.specs.Plain.{no_link, more_links, no_chain, more_chains, ChainOf, WhyOf, WhysOf, Same_why, Split_why, no_why, more_whys, row_of}
use Rattle.circ_proof.specs.Plain.{map_link, map_row, map_chains, map_chain, map_why, map_whys, plain_chain, plain_chains, plain_why, plain_whys}
use Rattle.circ_proof.specs.Link.{terms_of, row_terms, chains_terms, AllOfLink, AllOfRow, AllOfChains, AllOfLinks}
use Rattle.circ_proof.specs.Justified.{AllOfChain, AllOfWhy, AllOfWhys}
use Rattle.circ_proof.specs.Proof.{GoalNames, goal_at, pair_at}
use Rattle.circ_proof.specs.Rules.{ProofStep, Simplify, Reduce, Derive, Cases, Done, map_step, AllOfStep}
use Rattle.circ_entering.specs.Naming.{links_terms, chain_terms, why_terms, whys_terms, step_terms, sides_terms, name_terms, names_terms}

-- ---- a list whose elements are gone through

pub walked : {X : Type 0} (f : X → List ℕ) (xs : List X) (i : ℕ) (x : X) (old new whole : List ℕ) → i < length xs → x ≡ get_or xs i x → new ≡ old ++ f x
    → old ++ flat_map f (drop i xs) ≡ whole → new ++ flat_map f (drop (i + 1) xs) ≡ whole
walked f xs i x old new whole h read put e =
    let rest = flat_map f (drop (i + 1) xs) in
    ap (λ ys. ys ++ rest) put ∙ append_assoc old (f x) rest ∙ ap (λ ys. old ++ flat_map f ys) (sym (drop_read xs i x h read)) ∙ e

pub walked_all : {X : Type 0} (f : X → List ℕ) (xs : List X) (i : ℕ) (old whole : List ℕ) → length xs ≤ i → old ++ flat_map f (drop i xs) ≡ whole → old ≡ whole
walked_all f xs i old whole h e = sym (append-nil old) ∙ ap (λ ys. old ++ flat_map f ys) (sym (drop_all i xs h)) ∙ e

pub flat_seen : {X Y : Type 0} (view : X → Y) (f : Y → List ℕ) (xs : List X) → flat_map f (map view xs) ≡ flat_map (λ x. f (view x)) xs
flat_seen view f [] = refl
flat_seen view f (x ∷ xs) = ap (λ ys. f (view x) ++ ys) (flat_seen view f xs)

-- what a call puts behind what was put before it
pub then_added : {T E : Type 0} (r : Result T E) (old mid new xs ys whole : List ℕ) → mid ≡ old ++ xs → OnOk r (new ≡ mid ++ ys) → whole ≡ xs ++ ys
    → OnOk r (new ≡ old ++ whole)
then_added (Ok x) old mid new xs ys whole e f g = f ∙ ap (λ ns. ns ++ ys) e ∙ append_assoc old xs ys ∙ ap (λ ns. old ++ ns) (sym g)
then_added (Err x) old mid new xs ys whole e f g = tt

row_flat : (ls : List (LinkOf ℕ)) → row_terms (row_of ls) ≡ links_terms ls
row_flat [] = refl
row_flat (l ∷ ls) = ap (λ ns. terms_of l ++ ns) (row_flat ls)

pub chains_flat : (cs : List (Chain ℕ)) → chains_terms (plain_chains cs) ≡ flat_map (λ c. chain_terms (plain_chain c)) cs
chains_flat [] = refl
chains_flat (c ∷ cs) =
    let l : List (LinkOf ℕ) = (plain_chain c).left in
    let r : List (LinkOf ℕ) = (plain_chain c).right in
    ap (λ ns. ns ++ (row_terms (row_of r) ++ chains_terms (plain_chains cs))) (row_flat l)
    ∙ ap (λ ns. links_terms l ++ (ns ++ chains_terms (plain_chains cs))) (row_flat r)
    ∙ ap (λ ns. links_terms l ++ (links_terms r ++ ns)) (chains_flat cs)
    ∙ sym (append_assoc (links_terms l) (links_terms r) (flat_map (λ c. chain_terms (plain_chain c)) cs))

pub whys_flat : (ws : List (Why ℕ)) → whys_terms (plain_whys ws) ≡ flat_map (λ w. why_terms (plain_why w)) ws
whys_flat [] = refl
whys_flat (w ∷ ws) = ap (λ ns. why_terms (plain_why w) ++ ns) (whys_flat ws)

-- ---- what holds of all

pub all_parts : {X : Type 0} (P : X → Type 0) (xs ys : List X) → AllByRecursion P (xs ++ ys) → AllByRecursion P xs × AllByRecursion P ys
all_parts P [] ys a = (tt, a)
all_parts P (x ∷ xs) ys a = let b = all_parts P xs ys a.1 in ((a.0, b.0), b.1)

pub all_both : {X : Type 0} (P : X → Type 0) (xs ys : List X) → AllByRecursion P xs → AllByRecursion P ys → AllByRecursion P (xs ++ ys)
all_both P [] ys a b = b
all_both P (x ∷ xs) ys a b = (a.0, all_both P xs ys a.1 b)

module _ (P : ℕ → Type 0) where
  mutual
    link_all : (l : LinkOf ℕ) → AllOfLink P l → AllByRecursion P (terms_of l)
    link_all (Equation_link number way path terms conds) a = all_both P terms (chains_terms conds) a.0 (chains_all conds a.1)
    link_all (Hypothesis_link number way path terms conds) a = all_both P terms (chains_terms conds) a.0 (chains_all conds a.1)
    link_all (Assumption_link number way path) a = tt
    link_all (Content_link op path term) a = (a, tt)

    row_all : (ls : LinksOf ℕ) → AllOfRow P ls → AllByRecursion P (row_terms ls)
    row_all no_link a = tt
    row_all (more_links l ls) a = all_both P (terms_of l) (row_terms ls) (link_all l a.0) (row_all ls a.1)

    chains_all : (cs : ChainsOf ℕ) → AllOfChains P cs → AllByRecursion P (chains_terms cs)
    chains_all no_chain a = tt
    chains_all (more_chains l r cs) a =
        all_both P (row_terms l) (row_terms r ++ chains_terms cs) (row_all l a.0)
        (all_both P (row_terms r) (chains_terms cs) (row_all r a.1) (chains_all cs a.2))

  pub links_all : (ls : List (LinkOf ℕ)) → AllOfLinks P ls → AllByRecursion P (links_terms ls)
  links_all [] a = tt
  links_all (l ∷ ls) a = all_both P (terms_of l) (links_terms ls) (link_all l a.0) (links_all ls a.1)

  chain_all : (c : ChainOf ℕ) → AllOfChain P c → AllByRecursion P (chain_terms c)
  chain_all c a = all_both P (links_terms c.left) (links_terms c.right) (links_all c.left a.0) (links_all c.right a.1)

  mutual
    why_all : (w : WhyOf ℕ) → AllOfWhy P w → AllByRecursion P (why_terms w)
    why_all (Same_why c) a = chain_all c a
    why_all (Split_why c u ws) a = all_both P (chain_terms c) (u ∷ whys_terms ws) (chain_all c a.0) (a.1, whys_all ws a.2)

    whys_all : (ws : WhysOf ℕ) → AllOfWhys P ws → AllByRecursion P (whys_terms ws)
    whys_all no_why a = tt
    whys_all (more_whys w ws) a = all_both P (why_terms w) (whys_terms ws) (why_all w a.0) (whys_all ws a.1)

  pub step_all : (s : ProofStep ℕ) → AllOfStep P s → AllByRecursion P (step_terms s)
  step_all (Simplify c) a = chain_all c a
  step_all (Reduce w) a = why_all w a
  step_all Derive a = tt
  step_all (Cases u) a = (a, tt)
  step_all Done a = tt

-- ---- the same terms for all numbers that are named

module _ (f g : ℕ → Tree) where
  abbrev Agrees : ℕ → Type 0
  Agrees n = f n ≡ g n

  terms_same : (ns : List ℕ) → AllByRecursion Agrees ns → map f ns ≡ map g ns
  terms_same [] a = refl
  terms_same (n ∷ ns) a = ap (λ t. t ∷ map f ns) a.0 ∙ ap (λ ts. g n ∷ ts) (terms_same ns a.1)

  mutual
    link_same : (l : LinkOf ℕ) → AllByRecursion Agrees (terms_of l) → map_link f l ≡ map_link g l
    link_same (Equation_link number way path terms conds) a =
        let b = all_parts Agrees terms (chains_terms conds) a in
        ap (λ ts. Equation_link number way path ts (map_chains f conds)) (terms_same terms b.0)
        ∙ ap (Equation_link number way path (map g terms)) (chains_same conds b.1)
    link_same (Hypothesis_link number way path terms conds) a =
        let b = all_parts Agrees terms (chains_terms conds) a in
        ap (λ ts. Hypothesis_link number way path ts (map_chains f conds)) (terms_same terms b.0)
        ∙ ap (Hypothesis_link number way path (map g terms)) (chains_same conds b.1)
    link_same (Assumption_link number way path) a = refl
    link_same (Content_link op path term) a = ap (Content_link op path) a.0

    row_same : (ls : LinksOf ℕ) → AllByRecursion Agrees (row_terms ls) → map_row f ls ≡ map_row g ls
    row_same no_link a = refl
    row_same (more_links l ls) a =
        let b = all_parts Agrees (terms_of l) (row_terms ls) a in
        ap (λ x. more_links x (map_row f ls)) (link_same l b.0) ∙ ap (more_links (map_link g l)) (row_same ls b.1)

    chains_same : (cs : ChainsOf ℕ) → AllByRecursion Agrees (chains_terms cs) → map_chains f cs ≡ map_chains g cs
    chains_same no_chain a = refl
    chains_same (more_chains l r cs) a =
        let b = all_parts Agrees (row_terms l) (row_terms r ++ chains_terms cs) a in
        let d = all_parts Agrees (row_terms r) (chains_terms cs) b.1 in
        ap (λ x. more_chains x (map_row f r) (map_chains f cs)) (row_same l b.0)
        ∙ ap (λ x. more_chains (map_row g l) x (map_chains f cs)) (row_same r d.0)
        ∙ ap (more_chains (map_row g l) (map_row g r)) (chains_same cs d.1)

  pub links_same : (ls : List (LinkOf ℕ)) → AllByRecursion Agrees (links_terms ls) → map (map_link f) ls ≡ map (map_link g) ls
  links_same [] a = refl
  links_same (l ∷ ls) a =
      let b = all_parts Agrees (terms_of l) (links_terms ls) a in
      ap (λ x. x ∷ map (map_link f) ls) (link_same l b.0) ∙ ap (λ xs. map_link g l ∷ xs) (links_same ls b.1)

  chain_same : (c : ChainOf ℕ) → AllByRecursion Agrees (chain_terms c) → map_chain f c ≡ map_chain g c
  chain_same c a =
      let b = all_parts Agrees (links_terms c.left) (links_terms c.right) a in
      let C : List (LinkOf Tree) → List (LinkOf Tree) → ChainOf Tree = λ x y. record { left = x; right = y } in
      ap (λ x. C x (map (map_link f) c.right)) (links_same c.left b.0) ∙ ap (C (map (map_link g) c.left)) (links_same c.right b.1)

  mutual
    why_same : (w : WhyOf ℕ) → AllByRecursion Agrees (why_terms w) → map_why f w ≡ map_why g w
    why_same (Same_why c) a = ap Same_why (chain_same c a)
    why_same (Split_why c u ws) a =
        let b = all_parts Agrees (chain_terms c) (u ∷ whys_terms ws) a in
        ap (λ x. Split_why x (f u) (map_whys f ws)) (chain_same c b.0) ∙ ap (λ t. Split_why (map_chain g c) t (map_whys f ws)) b.1.0
        ∙ ap (Split_why (map_chain g c) (g u)) (whys_same ws b.1.1)

    whys_same : (ws : WhysOf ℕ) → AllByRecursion Agrees (whys_terms ws) → map_whys f ws ≡ map_whys g ws
    whys_same no_why a = refl
    whys_same (more_whys w ws) a =
        let b = all_parts Agrees (why_terms w) (whys_terms ws) a in
        ap (λ x. more_whys x (map_whys f ws)) (why_same w b.0) ∙ ap (more_whys (map_why g w)) (whys_same ws b.1)

  pub step_same : (s : ProofStep ℕ) → AllByRecursion Agrees (step_terms s) → map_step f s ≡ map_step g s
  step_same (Simplify c) a = ap Simplify (chain_same c a)
  step_same (Reduce w) a = ap Reduce (why_same w a)
  step_same Derive a = refl
  step_same (Cases u) a = ap Cases a.0
  step_same Done a = refl

-- ---- goals by their names

module _ (table other : List Tree) where
  abbrev SameTerm : ℕ → Type 0
  SameTerm n = named table n ≡ named other n

  conds_same : (cs : List (ℕ × ℕ)) → AllByRecursion SameTerm (flat_map sides_terms cs) → map (pair_at table) cs ≡ map (pair_at other) cs
  conds_same [] a = refl
  conds_same (c ∷ cs) a =
      ap (λ t. pair_with t (named table c.1) ∷ map (pair_at table) cs) a.0 ∙ ap (λ t. pair_with (named other c.0) t ∷ map (pair_at table) cs) a.1.0
      ∙ ap (λ ps. pair_at other c ∷ ps) (conds_same cs a.1.1)

  name_same : (n : GoalNames) → AllByRecursion SameTerm (name_terms n) → goal_at table n ≡ goal_at other n
  name_same n a =
      ap (λ ps. goal ps (named table n.left) (named table n.right)) (conds_same n.conds a.1.1)
      ∙ ap (λ t. goal (map (pair_at other) n.conds) t (named table n.right)) a.0 ∙ ap (goal (map (pair_at other) n.conds) (named other n.left)) a.1.0

  pub names_same : (ns : List GoalNames) → AllByRecursion SameTerm (names_terms ns) → map (goal_at table) ns ≡ map (goal_at other) ns
  names_same [] a = refl
  names_same (n ∷ ns) a =
      let b = all_parts SameTerm (name_terms n) (names_terms ns) a in
      ap (λ x. x ∷ map (goal_at table) ns) (name_same n b.0) ∙ ap (λ xs. goal_at other n ∷ xs) (names_same ns b.1)
